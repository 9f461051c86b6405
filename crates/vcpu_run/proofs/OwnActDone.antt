-- What a client's line does, but for a login, and what is done beside lines, whose server unit's session is over, or was, while no login is under
-- way: it stays so, and what was noted another unit laid.
use Rattle.std.proofs.Common.{◌≡◌, ◌≢◌, ◌∙◌, inl, inr, ℕ, ◌≤◌, Bool, true, true≢false, List, Err, sym, ap, subst}
use Rattle.vio_num.specs.Entry.{partner_freed}
use Rattle.boot_text.specs.declared.verb.Verb.TheVariants as verbs
use Rattle.crq_session.specs.Answered.{Frees}
use Rattle.crq_session.specs.EndState.{OnlyFrees, OnlySends}
use Rattle.block_server.specs.Doings.{Doing}
use Rattle.unit_region.specs.Answers.{tce_of}
use Rattle.unit_region.specs.declared.step.Step.{Step}
use Rattle.vscsi_client.specs.State.{ClientState}
use Rattle.vscsi_client.specs.declared.TheConstants.{DATA_START}
use Rattle.vscsi_client.specs.declared.answers.Refused.TheVariants.{NoMemory}
use Rattle.vscsi_client.specs.declared.op.Op.{Op}
use Rattle.vcpu_run.specs.Acts.{Acting, FindsQueueUsed, FreesQueue, LogsOutOnce, PutsValue, ReadsData, ShowsRegion, SubmitsOnce, TasksOnce, WritesRegion}
use Rattle.vcpu_run.specs.ActsAt.{FailsOnce}
use Rattle.vcpu_run.specs.OwnActs.{GoesOver, IsSettled, RestsOver, SameHands, SendsOnly, StaysOver}
use Rattle.vcpu_run.specs.PlainClients.{names_own}
use Rattle.vcpu_run.proofs.OwnActAnswers.{KeepsOver}
use Rattle.vcpu_run.proofs.OwnActAsking.{Asking}
use Rattle.vcpu_run.proofs.OwnActCommands.{submits_over}
use Rattle.vcpu_run.proofs.OwnActFrees.{Freeing, resets_over, unlinked_settled}
use Rattle.vcpu_run.proofs.OwnActPushes.{failed_over}
use Rattle.vcpu_run.proofs.OwnActRegion.{IsAtRest, data_over, puts_over, shows_over, writes_over}
use Rattle.vcpu_run.proofs.OwnActTasks.{logs_out_over, tasks_over}
use Rattle.vcpu_run.proofs.PlainNotes.{notes_same}

-- nothing was noted
goes_keeps : (granted : ℕ) (failed : Bool) (d : Doing) (old new : Acting) → new.answers ≡ old.answers → KeepsOver granted failed d new.client old.ports new.ports
    → GoesOver granted failed d old new
goes_keeps granted failed d old new same keeps = record {
  over = keeps.over;
  settled = keeps.settled;
  idle = keeps.idle;
  noted = notes_same new.ports.own.place.unit new.ports.own.strokes old.answers new.answers same;
}

-- ---- a reset

pub frees_line : (granted : ℕ) (failed : Bool) (d : Doing) (old new : Acting) → RestsOver granted failed d old → SameHands old.ports new.ports → FreesQueue old new
    → GoesOver granted failed d old new
frees_line granted failed d old new rests hands frees = goes_keeps granted failed d old new frees.answers (record {
  over = resets_over granted failed d old.client new.client old.ports new.ports rests.idle freeing;
  settled = unlinked_settled old.client new.client frees.client rests.settled;
  idle = ap (λ (s : ClientState). s.login) frees.client ∙ rests.idle;
})
  where
    freeing : Freeing granted failed d old.client new.client old.ports new.ports partner_freed
    freeing = record {
      seen = rests.seen;
      over = rests.over;
      room = frees.room;
      ready = frees.ready;
      frees = subst (λ b. Frees b frees.room partner_freed new.ports.crq) rests.seen.alone frees.tells;
      rest = subst (λ b. OnlyFrees b frees.room new.ports.crq) rests.seen.alone frees.rest;
      own = frees.own;
      client = frees.client;
      hands = hands;
    }

-- nobody else is in the queue
pub used_line : {A : Type 0} (granted : ℕ) (failed : Bool) (d : Doing) (old new : Acting) → RestsOver granted failed d old → FindsQueueUsed old new → A
used_line granted failed d old new rests used = absurd (true≢false (sym used.used.shared_end ∙ rests.seen.alone))

-- ---- commands, tasks and logouts

asking : (granted : ℕ) (failed : Bool) (d : Doing) (old new : Acting) → RestsOver granted failed d old → SendsOnly old.ports new.ports → Asking granted failed d old.client old.ports new.ports
asking granted failed d old new rests sends = record {
  sends = record {
    seen = rests.seen;
    crq = subst (λ b. OnlySends b old.ports.crq new.ports.crq) rests.seen.alone sends.crq;
    own = sends.own;
    hands = sends.hands;
  };
  over = rests.over;
  settled = rests.settled;
  idle = rests.idle;
}

pub submits_line : (granted : ℕ) (failed : Bool) (line : ℕ) (op : Op) (d : Doing) (old new : Acting) (step : Step) → RestsOver granted failed d old → SendsOnly old.ports new.ports
    → (once : SubmitsOnce line op old new step) → once.answer ≢ Err NoMemory → GoesOver granted failed d old new
submits_line granted failed line op d old new step rests sends once memory =
    goes_keeps granted failed d old new once.answers (submits_over granted failed line op d old new once.answer (asking granted failed d old new rests sends) memory once.submits)

pub tasks_line : (granted : ℕ) (failed : Bool) (line function tag : ℕ) (d : Doing) (old new : Acting) (step : Step) → RestsOver granted failed d old → SendsOnly old.ports new.ports
    → (once : TasksOnce line function tag old new step) → once.answer ≢ Err NoMemory → GoesOver granted failed d old new
tasks_line granted failed line function tag d old new step rests sends once memory =
    goes_keeps granted failed d old new once.answers (tasks_over granted failed line function tag d old new once.answer (asking granted failed d old new rests sends) memory once.tasks)

pub logs_out_line : (granted : ℕ) (failed : Bool) (line : ℕ) (d : Doing) (old new : Acting) (step : Step) → RestsOver granted failed d old → SendsOnly old.ports new.ports
    → (once : LogsOutOnce line old new step) → once.answer ≢ Err NoMemory → GoesOver granted failed d old new
logs_out_line granted failed line d old new step rests sends once memory =
    goes_keeps granted failed d old new once.answers (logs_out_over granted failed line d old new once.answer (asking granted failed d old new rests sends) memory once.logs_out)

-- ---- the region

at_rest : (granted : ℕ) (failed : Bool) (d : Doing) (old new : Acting) → RestsOver granted failed d old → SameHands old.ports new.ports → IsAtRest granted failed d old new
at_rest granted failed d old new rests hands = record { seen = rests.seen; over = rests.over; settled = rests.settled; idle = rests.idle; hands = hands }

pub data_line : (granted : ℕ) (failed : Bool) (tag : ℕ) (d : Doing) (old new : Acting) (step : Step) → RestsOver granted failed d old → SameHands old.ports new.ports → ReadsData tag old new step
    → GoesOver granted failed d old new
data_line granted failed tag d old new step rests hands its =
    goes_keeps granted failed d old new its.reads.aside.client.answers (data_over granted failed tag d old new step (at_rest granted failed d old new rests hands) its)

pub shows_line : (granted : ℕ) (failed : Bool) (from len : ℕ) (d : Doing) (old new : Acting) (step : Step) → RestsOver granted failed d old → SameHands old.ports new.ports
    → ShowsRegion from len old new step → GoesOver granted failed d old new
shows_line granted failed from len d old new step rests hands shows =
    goes_keeps granted failed d old new shows.reads.aside.client.answers (shows_over granted failed from len d old new step (at_rest granted failed d old new rests hands) shows)

-- behind the driver's pages
pub writes_line : (granted : ℕ) (failed : Bool) (line to : ℕ) (bytes : List ℕ) (d : Doing) (old new : Acting) (step : Step) → RestsOver granted failed d old → SameHands old.ports new.ports
    → DATA_START ≤ to → WritesRegion line to bytes old new step → GoesOver granted failed d old new
writes_line granted failed line to bytes d old new step rests hands behind writes =
    goes_keeps granted failed d old new writes.aside.client.answers (writes_over granted failed line to bytes d old new step (at_rest granted failed d old new rests hands) behind writes)

-- its entry keeps naming its own page
pub puts_line : (granted : ℕ) (failed : Bool) (entry page : ℕ) (readable writable : Bool) (d : Doing) (old new : Acting) (step : Step) → RestsOver granted failed d old → SameHands old.ports new.ports
    → names_own (verbs.Tce entry page readable writable) ≡ true → PutsValue entry (tce_of page readable writable) old new step → GoesOver granted failed d old new
puts_line granted failed entry page readable writable d old new step rests hands own puts =
    goes_keeps granted failed d old new puts.aside.client.answers
    (puts_over granted failed entry page readable writable d old new step (at_rest granted failed d old new rests hands) own puts)

-- ---- beside lines

pub fails_line : (granted : ℕ) (failed : Bool) (d : Doing) (old new : Acting) → RestsOver granted failed d old → SameHands old.ports new.ports → FailsOnce old new → GoesOver granted true d old new
fails_line granted failed d old new rests hands fails = by fails
  where
    over : StaysOver granted true d new.client old.ports new.ports
    over = failed_over granted failed d old new rests.seen rests.over hands fails

    by : FailsOnce old new → GoesOver granted true d old new
    by (inl queue) = goes_keeps granted true d old new queue.answers (record {
      over = over;
      settled = unlinked_settled old.client new.client queue.client rests.settled;
      idle = ap (λ (s : ClientState). s.login) queue.client ∙ rests.idle;
    })
    by (inr (inl free)) = goes_keeps granted true d old new free.client.answers (record {
      over = over;
      settled = subst IsSettled (sym free.client.client) rests.settled;
      idle = ap (λ (s : ClientState). s.login) free.client.client ∙ rests.idle;
    })
    by (inr (inr used)) = absurd (true≢false (sym used.used.shared_end ∙ rests.seen.alone))
