-- A line of an own client that resets, its server unit's session being over, or having been: it frees the client's queue, and then logs in.
use Rattle.std.proofs.Common.{◌≡◌, ◌≢◌, ◌∙◌, ◌⊎◌, inl, inr, ℕ, ◌≤◌, ◌==◌, Bool, true, false, true≢false, List, [], Option, Some, arith, length, refl, sym, subst}
use Rattle.std.specs.Borrow.{GName}
use Rattle.boot_text.specs.declared.plan.Line.{Line}
use Rattle.boot_text.specs.declared.verb.Verb.{Verb}
use Rattle.boot_text.specs.declared.verb.Verb.TheVariants as verbs
use Rattle.crq_ring.specs.Pipe.{IsLawfulPipe}
use Rattle.crq_ring.specs.Sessions.{of_session}
use Rattle.crq_ring.specs.declared.rows.PipeRow.{PipeRow}
use Rattle.crq_session.specs.Answered.{taken_now}
use Rattle.crq_session.specs.EndState.{EndState}
use Rattle.crq_session.specs.PlainState.{end_of, side_of}
use Rattle.block_server.specs.Doings.{Doing}
use Rattle.block_server.specs.declared.unit.Unit.{Unit}
use Rattle.unit_region.specs.declared.step.Step.{Step}
use Rattle.unit_region.specs.declared.step.Step.TheVariants as steps
use Rattle.vio_num.specs.declared.hypervisor.Moved.TheVariants as moves
use Rattle.vscsi_client.specs.State.{ClientState}
use Rattle.vcpu_run.specs.Acts.{Acting, FreesQueue, LogsInOnce, LogsInUnfreed, ResetsFirst, ResetsOnce}
use Rattle.vcpu_run.specs.ActsAt.{acting_at}
use Rattle.vcpu_run.specs.Credited.{Ended}
use Rattle.vcpu_run.specs.OwnActs.{GoesOver}
use Rattle.vcpu_run.specs.OwnPairs.{ComesOver, IsMidLogin, IsOverOwn, RestsIdle, StandsOver, doing_of}
use Rattle.vcpu_run.specs.OwnTurned.{ComesWithin, StepsOver}
use Rattle.vcpu_run.specs.Pairs.{Drives}
use Rattle.vcpu_run.specs.PlainPairs.{ServerBooks, between_of}
use Rattle.vcpu_run.specs.PlainScripts.{OfUnit}
use Rattle.vcpu_run.specs.PlainTalk.{ServerStays, TookNoMore}
use Rattle.vcpu_run.specs.declared.driver.Driver.{Driver}
use Rattle.vcpu_run.specs.declared.pair.Pair.{Pair}
use Rattle.vcpu_run.specs.declared.script.Progress.{Progress}
use Rattle.vcpu_run.specs.declared.script.Progress.TheVariants as progress
use Rattle.vcpu_run.proofs.OwnActDone.{frees_line, used_line}
use Rattle.vcpu_run.proofs.OwnActLines.{rests_logging}
use Rattle.vcpu_run.proofs.OwnActOwn.{over_pair, rests_at, rests_idle}
use Rattle.vcpu_run.proofs.PlainSeated.{server_stays}
use Rattle.vcpu_run.proofs.RejoinLines.{room_in}

-- ---- where it stands

-- Once its queue was freed the client may be in the midst of a login; before, it rests, and its queue is registered.
abbrev pub StandsReset : Progress → ClientState → EndState → Type 0
StandsReset p s own = ((p ≡ progress.Freed) × IsMidLogin s) ⊎ ((p ≢ progress.Freed) × RestsIdle s × (own.registered ≡ true))

reset_by : (p : Progress) (s : ClientState) (own : EndState) → ComesOver verbs.Reset p s own → StandsReset p s own
reset_by progress.Freed s own comes = inl (refl, comes)
reset_by progress.Fresh s own comes = inr (λ is. cc (is), comes.0, comes.1)
reset_by (progress.Took n) s own comes = inr (λ is. cc (is), comes.0, comes.1)
reset_by (progress.Posted n) s own comes = inr (λ is. cc (is), comes.0, comes.1)

pub stands_reset : (u : ℕ) (line : Line) (p : Progress) (s : ClientState) (own : EndState) → (line.unit == u) ≡ true → line.verb ≡ verbs.Reset → StandsOver u false (Some line) p s own
    → StandsReset p s own
stands_reset u line p s own its reset (inl stands) =
    reset_by p s own (subst (λ (verb : Verb). ComesOver verb p s own) reset
    (subst (λ (b : Bool). OfUnit b (ComesOver line.verb p s own) (RestsIdle s × (own.registered ≡ true))) its stands.1))
stands_reset u line p s own its reset (inr fails) = absurd (true≢false (sym fails.0))

-- once it is freed
pub stands_freed : (u : ℕ) (line : Line) (s : ClientState) (own : EndState) → (line.unit == u) ≡ true → line.verb ≡ verbs.Reset → IsMidLogin s → StandsOver u false (Some line) progress.Freed s own
stands_freed u line s own its reset mid = inl (
  refl,
  subst (λ (b : Bool). OfUnit b (ComesOver line.verb progress.Freed s own) (RestsIdle s × (own.registered ≡ true))) (sym its)
      (subst (λ (verb : Verb). ComesOver verb progress.Freed s own) (sym reset) mid),
)

-- ---- its queue is freed

pub freed_pair : (names : List GName) (granted : ℕ) (told : List Ended) (home u k : ℕ) (books : ServerBooks) (line : Line) (p : Progress) (unit : Unit) (a b : Driver) (old new : Pair)
    → (line.unit == u) ≡ true → line.verb ≡ verbs.Reset → Drives old new → RestsIdle a.client → IsOverOwn granted false told home u k books (Some line) p unit a old
    → FreesQueue (acting_at names a old) (acting_at names b new) → IsOverOwn granted false told home u k books (Some line) progress.Freed unit b new
freed_pair names granted told home u k books line p unit a b old new its reset drives rests is frees =
    over_pair names granted false false told told home u k books (Some line) (Some line) p progress.Freed unit a b old new is goes stays (omega arith)
    (stands_freed u line b.client (end_of [] new.link false) its reset
    (rests_logging b.client (rests_idle granted false d (acting_at names a old) (acting_at names b new) goes)))
  where
    d : Doing
    d = doing_of unit home k books old

    goes : GoesOver granted false d (acting_at names a old) (acting_at names b new)
    goes = frees_line granted false d (acting_at names a old) (acting_at names b new)
        (rests_at names granted false told home u k books (Some line) p unit a old is rests) (record { crq = refl; own = refl }) frees

    took : TookNoMore (end_of [] new.link false)
    took = subst (λ (rows : List PipeRow). length (taken_now (end_of [] new.link false)) ≤ length (of_session (end_of [] new.link false).last_session rows)) (sym goes.over.seen.received)
        goes.over.over.took

    stays : ServerStays (between_of unit a old) (between_of unit b new)
    stays = server_stays unit a b old new drives is.ends.server_took took

-- ---- a step

-- its queue was registered: nothing but that is done first
unfreed_never : {A : Type 0} (line : ℕ) (old new : Acting) (step : Step) → old.ports.crq.registered ≡ true → LogsInUnfreed line old new step → A
unfreed_never line old new step on logs = absurd (true≢false (sym on ∙ sym logs.ready.registered ∙ logs.unregistered))

-- What it leaves, where a turn of its login leaves that.
pub reset_left : (R : Progress → Step → Type 0) (names : List GName) (granted : ℕ) (told : List Ended) (home u k : ℕ) (books : ServerBooks) (line : Line) (p p' : Progress) (unit : Unit)
    (a b : Driver) (old new : Pair) (step : Step) → (line.unit == u) ≡ true → line.verb ≡ verbs.Reset → Drives old new
    → IsOverOwn granted false told home u k books (Some line) p unit a old
    → (IsMidLogin a.client → LogsInOnce line.number (acting_at names a old) (acting_at names b new) step → R progress.Freed step)
    → (IsOverOwn granted false told home u k books (Some line) progress.Freed unit b new → R progress.Freed (steps.Waits moves.Moved))
    → ResetsOnce line.number p p' (acting_at names a old) (acting_at names b new) step → R p' step
reset_left R names granted told home u k books line p p' unit a b old new step its reset drives is logs freed acts =
    by (stands_reset u line p a.client (end_of [] old.link false) its reset is.stands) acts
  where
    first : RestsIdle a.client → (end_of [] old.link false).registered ≡ true → ResetsFirst line.number p p' (acting_at names a old) (acting_at names b new) step → R p' step
    first rests on (inl (frees, later, waits)) =
        subst (λ (q : Progress). R q step) (sym later) (subst (R progress.Freed) (sym waits)
        (freed (freed_pair names granted told home u k books line p unit a b old new its reset drives rests is frees)))
    first rests on (inr (inl (logs_in, later))) = unfreed_never line.number (acting_at names a old) (acting_at names b new) step on logs_in
    first rests on (inr (inr (used, later, waits))) =
        used_line granted false (doing_of unit home k books old) (acting_at names a old) (acting_at names b new)
        (rests_at names granted false told home u k books (Some line) p unit a old is rests) used

    by : StandsReset p a.client (end_of [] old.link false) → ResetsOnce line.number p p' (acting_at names a old) (acting_at names b new) step → R p' step
    by (inl (at, mid)) (inl (there, logs_in, later)) = subst (λ (q : Progress). R q step) (sym later) (logs mid logs_in)
    by (inl (at, mid)) (inr (isnt, acts)) = absurd (isnt at)
    by (inr (isnt, rests, on)) (inl (there, logs_in, later)) = absurd (isnt there)
    by (inr (isnt, rests, on)) (inr (also, acts)) = first rests on acts

pub reset_pair : (names : List GName) (granted : ℕ) (told : List Ended) (lines : List Line) (home u k : ℕ) (books : ServerBooks) (line : Line) (line' : Option Line) (p p' : Progress) (unit : Unit)
    (a b : Driver) (old new : Pair) (step : Step) → (line.unit == u) ≡ true → line.verb ≡ verbs.Reset → Drives old new
    → IsOverOwn granted false told home u k books (Some line) p unit a old
    → (IsMidLogin a.client → LogsInOnce line.number (acting_at names a old) (acting_at names b new) step → StepsOver granted told lines home u k books line line' progress.Freed unit b new step)
    → ResetsOnce line.number p p' (acting_at names a old) (acting_at names b new) step → StepsOver granted told lines home u k books line line' p' unit b new step
reset_pair names granted told lines home u k books line line' p p' unit a b old new step its reset drives is logs acts =
    reset_left (λ (q : Progress) (did : Step). StepsOver granted told lines home u k books line line' q unit b new did) names granted told home u k books line p p' unit a b old new step its reset
    drives is logs (λ freed. freed) acts

-- ---- what is to come to its queue

-- no more than it has slots
pub comes_within : (pair : Pair) → IsLawfulPipe (side_of pair.link false).queue → ComesWithin pair
comes_within pair laws = room_in (end_of [] pair.link false) (laws.handed (side_of pair.link false).queue.session)
