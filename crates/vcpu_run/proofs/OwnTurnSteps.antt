-- A step of an own client's line at its pair, its server unit's session being over, or having been, of a line that does not log in: it stays so, and
-- where the line ends, it says of no login that it was granted or rejected.
use Rattle.std.proofs.Common.{◌≡◌, ◌∙◌, inl, inr, ℕ, ◌+◌, ◌≤◌, ◌==◌, ◌++◌, Bool, true, false, true≢false, cond, List, [], ◌∷◌, Option, Some, refl, slice_get, sym, arith}
use Rattle.std.specs.Borrow.{GName}
use Rattle.boot_text.specs.declared.plan.Line.{Line}
use Rattle.crq_session.specs.EndState.{EndState}
use Rattle.crq_session.specs.PlainState.{end_of}
use Rattle.tce_window.specs.PlainPort.{known_of}
use Rattle.block_server.specs.Doings.{Doing}
use Rattle.block_server.specs.declared.unit.Unit.{Unit}
use Rattle.unit_region.specs.declared.step.Step.{Step}
use Rattle.unit_region.specs.declared.step.Step.TheVariants as steps
use Rattle.vscsi_client.specs.State.{ClientState}
use Rattle.vcpu_run.specs.Acts.{ActsFor}
use Rattle.vcpu_run.specs.ActsAt.{acting_at}
use Rattle.vcpu_run.specs.Credited.{Ended, grants}
use Rattle.vcpu_run.specs.Machines.{server_id}
use Rattle.vcpu_run.specs.OwnActs.{GoesOver, SameHands}
use Rattle.vcpu_run.specs.OwnClients.{IsOwnClient}
use Rattle.vcpu_run.specs.OwnPairs.{ComesOver, IsOverOwn, RestsIdle, StandsOver, doing_of}
use Rattle.vcpu_run.specs.OwnSteps.{LogsIn}
use Rattle.vcpu_run.specs.OwnTurned.{StepsOver}
use Rattle.vcpu_run.specs.Pairs.{Drives}
use Rattle.vcpu_run.specs.PlainClients.{granted_in, lie_behind, names_own, written_by}
use Rattle.vcpu_run.specs.PlainPairs.{ServerBooks}
use Rattle.vcpu_run.specs.PlainScripts.{OfUnit}
use Rattle.vcpu_run.specs.Works.{fails}
use Rattle.vcpu_run.specs.declared.driver.Driver.{Driver}
use Rattle.vcpu_run.specs.declared.pair.Pair.{Pair}
use Rattle.vcpu_run.specs.declared.script.Progress.{Progress}
use Rattle.vcpu_run.specs.declared.script.Progress.TheVariants as progress
use Rattle.vcpu_run.proofs.OwnActAlone.{acts_alone}
use Rattle.vcpu_run.proofs.OwnActLines.{IsOwnVerb, LeavesOver, acts_over, comes_rests, stands_any}
use Rattle.vcpu_run.proofs.OwnActOwn.{over_pair, rests_at, rests_idle}
use Rattle.vcpu_run.proofs.OwnTurnEvents.{end_stays}
use Rattle.vcpu_run.proofs.OwnTurnLeads.{goes_by}
use Rattle.vcpu_run.proofs.OwnTurnSays.{acts_grant, acts_number, none_rejects}
use Rattle.vcpu_run.proofs.PlainScripted.{granted_more}
use Rattle.vcpu_run.proofs.PlainSpared.{filtered}

-- what such a line may do in its region
pub own_verb : (u n : ℕ) (lines : List Line) (line : Line) → IsOwnClient u lines → slice_get lines n ≡ Some line → (line.unit == u) ≡ true → IsOwnVerb line.verb
own_verb u n lines line is found own = record {
  entry = filtered u (λ l. names_own l.verb ≡ true) lines n line is.own_entries found own;
  behind = filtered u (λ l. lie_behind (written_by l.verb) ≡ true) lines n line is.behind found own;
}

-- its partition had not failed
pub not_failed : (u : ℕ) (failed : Bool) (line : Line) (p : Progress) (s : ClientState) (own : EndState) → fails line.verb ≡ false → StandsOver u failed (Some line) p s own → failed ≡ false
not_failed u failed line p s own goes (inl is) = is.0
not_failed u failed line p s own goes (inr gone) = absurd (true≢false (sym gone.1 ∙ goes))

-- a client whose line does not log in stood at rest before the step
pub line_rests : (u : ℕ) (line : Line) (p : Progress) (driver : Driver) (pair : Pair) → (LogsIn line.verb → ⊥) → StandsOver u false (Some line) p driver.client (end_of [] pair.link false)
    → RestsIdle driver.client × ((end_of [] pair.link false).registered ≡ true)
line_rests u line p driver pair other (inl stands) = by (line.unit == u) stands.1
  where
    by : (b : Bool) → OfUnit b (ComesOver line.verb p driver.client (end_of [] pair.link false)) (RestsIdle driver.client × ((end_of [] pair.link false).registered ≡ true))
        → RestsIdle driver.client × ((end_of [] pair.link false).registered ≡ true)
    by true its = comes_rests line.verb p driver.client (end_of [] pair.link false) other its
    by false rests = rests
line_rests u line p driver pair other (inr fails) = absurd (true≢false (sym fails.0))

-- whatever line and progress come behind it
line_over : (names : List GName) (granted : ℕ) (told told' : List Ended) (home u k : ℕ) (books : ServerBooks) (line : Line) (line' : Option Line) (p p' later : Progress) (unit : Unit) (a b : Driver)
    (old new : Pair) (step : Step) → (LogsIn line.verb → ⊥) → IsOwnVerb line.verb → Drives old new → IsOverOwn granted false told home u k books (Some line) p unit a old
    → ActsFor line.number line.verb p p' (acting_at names a old) (acting_at names b new) step → granted_in told' ≤ granted_in told
    → IsOverOwn granted false told' home u k books line' later unit b new
line_over names granted told told' home u k books line line' p p' later unit a b old new step other own drives is acts less =
    over_pair [] granted false false told told' home u k books (Some line) line' p later unit a b old new is goes
    (end_stays granted false d unit a b old new drives is.ends.server_took goes.over) less
    (stands_any u line' later b.client (end_of [] new.link false) (rests_idle granted false d (acting_at [] a old) (acting_at [] b new) goes) (leaves.registered ∙ rests.1))
  where
    d : Doing
    d = doing_of unit home k books old

    rests : RestsIdle a.client × ((end_of [] old.link false).registered ≡ true)
    rests = line_rests u line p a old other is.stands

    hands : SameHands (acting_at names a old).ports (acting_at names b new).ports
    hands = record { crq = refl; own = refl }

    leaves : LeavesOver granted false d (acting_at names a old) (acting_at names b new)
    leaves = acts_over granted false line.number line.verb p p' d (acting_at names a old) (acting_at names b new) step other own
        (rests_at names granted false told home u k books (Some line) p unit a old is rests.0)
        (acts_alone line.number line.verb p p' (acting_at names a old) (acting_at names b new) step hands acts)

    goes : GoesOver granted false d (acting_at [] a old) (acting_at [] b new)
    goes = goes_by names granted false d a b old new leaves.goes

-- a record more that tells of no login granted
pub told_less : (told : List Ended) (e : Ended) → grants e.outcome ≡ false → granted_in (told ++ e ∷ []) ≤ granted_in told
told_less told e none = by (grants e.outcome) none (granted_more told e)
  where
    by : (b : Bool) → b ≡ false → granted_in (told ++ e ∷ []) ≡ granted_in told + cond b 1 0 → granted_in (told ++ e ∷ []) ≤ granted_in told
    by true is more = absurd (true≢false is)
    by false is more = omega (arith, more)

-- the line waits, or ends
pub line_steps : (names : List GName) (granted : ℕ) (told : List Ended) (lines : List Line) (home u k : ℕ) (books : ServerBooks) (line : Line) (line' : Option Line) (p p' : Progress) (unit : Unit)
    (a b : Driver) (old new : Pair) (step : Step) → (LogsIn line.verb → ⊥) → IsOwnVerb line.verb → Drives old new → IsOverOwn granted false told home u k books (Some line) p unit a old
    → ActsFor line.number line.verb p p' (acting_at names a old) (acting_at names b new) step → StepsOver granted told lines home u k books line line' p' unit b new step
line_steps names granted told lines home u k books line line' p p' unit a b old new (steps.Waits did) other own drives is acts =
    line_over names granted told told home u k books line (Some line) p p' p' unit a b old new (steps.Waits did) other own drives is acts (omega arith)
line_steps names granted told lines home u k books line line' p p' unit a b old new (steps.Ends outcome) other own drives is acts = (
  inr (line_over names granted told (told ++ record { verb = line.verb; outcome = outcome } ∷ []) home u k books line line' p p' progress.Fresh unit a b old new (steps.Ends outcome) other own
      drives is acts (told_less told (record { verb = line.verb; outcome = outcome })
      (acts_grant line.number line.verb p p' (acting_at names a old) (acting_at names b new) outcome other acts))),
  none_rejects line.verb outcome (server_id home k) (known_of new.window).strokes other,
  acts_number granted line.number line.verb p p' (acting_at names a old) (acting_at names b new) outcome other acts,
)
