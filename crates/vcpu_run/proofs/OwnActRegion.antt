-- A line of a client's own region, whose server unit's session is over, or was, while no login is under way: it stays so.
use Rattle.std.specs.Prelude.{⊤}
use Rattle.std.proofs.Common.{◌≡◌, ◌∙◌, ℕ, ◌≤◌, Bool, true, IfSome, List, [], Some, Ok, append-nil, inl, refl, sym, ap, subst}
use Rattle.crq_session.specs.EndState.{EndState}
use Rattle.tce_window.specs.PortState.{OnlyReads, PortState}
use Rattle.block_server.specs.Closings.{is_event}
use Rattle.block_server.specs.Doings.{Doing}
use Rattle.boot_text.specs.declared.verb.Verb.TheVariants as verbs
use Rattle.unit_region.specs.Answers.{AnswersWrite, tce_of}
use Rattle.unit_region.specs.Marks.{LaysJust}
use Rattle.unit_region.specs.declared.step.Step.{Step}
use Rattle.vscsi_client.specs.Ports.{Ports}
use Rattle.vscsi_client.specs.State.{ClientState}
use Rattle.vscsi_client.specs.declared.TheConstants.{DATA_START}
use Rattle.vscsi_client.specs.declared.stage.Stage.TheVariants.{Idle}
use Rattle.vcpu_run.specs.Acts.{Acting, PutsValue, ReadsData, ReadsRegion, ShowsRegion, StaysAside, WritesRegion}
use Rattle.vcpu_run.specs.OwnActs.{IsSeenAt, IsSettled, SameHands}
use Rattle.vcpu_run.specs.OwnOver.{IsOver, IsOwed, stream_of}
use Rattle.vcpu_run.specs.PlainClients.{names_own}
use Rattle.vcpu_run.proofs.OwnActAnswers.{KeepsOver}
use Rattle.vcpu_run.proofs.OwnActLeft.{Leaves, NextOver, stays_over}
use Rattle.vcpu_run.proofs.OwnActLooks.{StaysTaken, come_still, took_still}
use Rattle.vcpu_run.proofs.OwnActOwed.{knows_same, owed_moved}
use Rattle.vcpu_run.proofs.OwnActStill.{phase_idle}
use Rattle.vcpu_run.proofs.PlainAside.{put_leaves, step_leaves}
use Rattle.vcpu_run.proofs.PlainPuts.{LeavesWindow}
use Rattle.vcpu_run.proofs.PlainServed.{all_spared}
use Rattle.vcpu_run.proofs.PlainStill.{reads_leave}

-- What is so of a client between its calls, and whose ports it is at.
pub record IsAtRest (granted : ℕ) (failed : Bool) (d : Doing) (old new : Acting) : Type 0 where
  pub seen : IsSeenAt d old.ports
  pub over : IsOver granted failed d old.client old.ports.crq
  pub settled : IsSettled old.client
  pub idle : old.client.login ≡ Idle
  pub hands : SameHands old.ports new.ports

-- ---- the slots are as they were

region_next : (granted : ℕ) (failed : Bool) (d : Doing) (s : ClientState) (old new : Ports) → IsSeenAt d old → (over : IsOver granted failed d s old.crq) → s.login ≡ Idle → new.crq ≡ old.crq
    → LeavesWindow (λ slot. ⊤) old.own new.own → NextOver granted failed d s new []
region_next granted failed d s old new seen over idle crq left = record {
  answered = over.answered;
  lost = over.lost;
  answers = over.answers;
  rest = over.rest;
  come = λ on. over.come (sym same.registered ∙ on) ∙ come_still d.sent old.crq new.crq same;
  owed = owed_moved granted d.id old.own new.own (λ slot. ⊤) s s (stream_of s over.rest) (stream_of s over.rest) over.answered over.lost over.answers (knows_same s s refl) refl idle left.keeps
      (all_spared over.answered)
      (subst (λ (w : PortState). IsOwed granted d.id w s (stream_of s over.rest) over.answered over.lost over.answers) seen.window over.owed);
  away = λ off. over.away (sym same.registered ∙ off);
  there = λ on. over.there (sym same.registered ∙ on);
  took = took_still d.sent old.crq new.crq same over.took;
  tabled = over.tabled;
  on = λ on. over.on (sym same.registered ∙ on);
  phase = phase_idle granted failed d s old.crq new (stream_of s over.rest) over.answered over.lost idle same.registered over.phase;
}
  where
    same : StaysTaken old.crq new.crq
    same = record { registered = ap (λ (e : EndState). e.registered) crq; session = ap (λ (e : EndState). e.last_session) crq; taken = ap (λ (e : EndState). e.taken) crq }

region_leaves : (d : Doing) (old new : Ports) → IsSeenAt d old → SameHands old new → new.crq ≡ old.crq → LeavesWindow (λ slot. ⊤) old.own new.own → Leaves old new []
region_leaves d old new seen hands crq left = record {
  put = ap (λ (e : EndState). e.sent) crq ∙ sym (append-nil old.crq.sent);
  reached = inl refl;
  session = ap (λ (e : EndState). e.counts.partner_session) crq;
  place = ap (λ (e : EndState). e.place) crq;
  alone = hands.crq ∙ seen.alone;
  apart = hands.own ∙ seen.apart;
  usable = left.own;
  idle = λ on. ap (λ (e : EndState). e.kept) crq ∙ seen.idle (sym (ap (λ (e : EndState). e.registered) crq) ∙ on);
  events = subst (λ (e : EndState). IfSome e.kept (λ event. is_event event ≡ true)) (sym crq) seen.events;
}

pub aside_over : (granted : ℕ) (failed : Bool) (d : Doing) (old new : Acting) → IsAtRest granted failed d old new → StaysAside old new → LeavesWindow (λ slot. ⊤) old.ports.own new.ports.own
    → KeepsOver granted failed d new.client old.ports new.ports
aside_over granted failed d old new at aside left =
    subst (λ (s : ClientState). KeepsOver granted failed d s old.ports new.ports) (sym aside.client.client) (record {
      over = stays_over granted failed failed d old.client old.client old.ports new.ports [] at.seen at.over (region_leaves d old.ports new.ports at.seen at.hands aside.crq left)
          (region_next granted failed d old.client old.ports new.ports at.seen at.over at.idle aside.crq left);
      settled = at.settled;
      idle = at.idle;
    })

-- ---- each of these lines

pub reads_over : (granted : ℕ) (failed : Bool) (d : Doing) (old new : Acting) → IsAtRest granted failed d old new → ReadsRegion old new → KeepsOver granted failed d new.client old.ports new.ports
reads_over granted failed d old new at reads =
    aside_over granted failed d old new at reads.aside
    (reads_leave old.ports.own new.ports.own at.seen.usable (subst (λ b. OnlyReads b old.ports.own new.ports.own) at.seen.apart reads.rest))

pub data_over : (granted : ℕ) (failed : Bool) (tag : ℕ) (d : Doing) (old new : Acting) (step : Step) → IsAtRest granted failed d old new → ReadsData tag old new step
    → KeepsOver granted failed d new.client old.ports new.ports
data_over granted failed tag d old new step at its = reads_over granted failed d old new at its.reads

pub shows_over : (granted : ℕ) (failed : Bool) (from len : ℕ) (d : Doing) (old new : Acting) (step : Step) → IsAtRest granted failed d old new → ShowsRegion from len old new step
    → KeepsOver granted failed d new.client old.ports new.ports
shows_over granted failed from len d old new step at shows = reads_over granted failed d old new at shows.reads

-- behind the driver's pages
pub writes_over : (granted : ℕ) (failed : Bool) (line to : ℕ) (bytes : List ℕ) (d : Doing) (old new : Acting) (step : Step) → IsAtRest granted failed d old new → DATA_START ≤ to
    → WritesRegion line to bytes old new step → KeepsOver granted failed d new.client old.ports new.ports
writes_over granted failed line to bytes d old new step at behind writes =
    aside_over granted failed d old new at writes.aside
    (step_leaves old.ports.own new.ports.own to line bytes step behind writes.rest
    (subst (λ b. LaysJust b old.ports.own new.ports.own line (Some (record { at = to; bytes = bytes })) (Ok step)) at.seen.apart writes.lays)
    (subst (λ b. AnswersWrite b old.ports.own new.ports.own to bytes line step) at.seen.apart writes.says) at.seen.usable).slots

-- an entry keeps naming its own page, whatever rights it gives
pub puts_over : (granted : ℕ) (failed : Bool) (entry page : ℕ) (readable writable : Bool) (d : Doing) (old new : Acting) (step : Step) → IsAtRest granted failed d old new
    → names_own (verbs.Tce entry page readable writable) ≡ true → PutsValue entry (tce_of page readable writable) old new step
    → KeepsOver granted failed d new.client old.ports new.ports
puts_over granted failed entry page readable writable d old new step at own puts =
    aside_over granted failed d old new at puts.aside
    (put_leaves entry page readable writable old.ports.own new.ports.own (Ok step) own puts.window.place (puts.lays at.seen.apart) puts.says at.seen.usable).slots
