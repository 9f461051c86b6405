-- What a turn of a script leaves of the records of a unit's lines, and where the script stands then.
use Rattle.std.proofs.Common.{◌≡◌, ◌∙◌, ◌⊎◌, inl, inr, ℕ, ◌+◌, ◌++◌, ◌==◌, All, true, false, cond, List, [], ◌∷◌, Option, None, Some, length, arith, sym, ap, subst, slice_get}
use Rattle.std.proofs.lemmas.List.Elements.{All-push}
use Rattle.std.proofs.lemmas.Option.{slice_get_past, slice_get_within}
use Rattle.boot_text.specs.declared.plan.Line.{Line}
use Rattle.boot_text.specs.declared.verb.Verb.{Verb}
use Rattle.boot_text.specs.declared.verb.Verb.TheVariants as verbs
use Rattle.page_slots.specs.Stroke.{StrokeValue}
use Rattle.vio_num.specs.declared.names.UnitId.{UnitId}
use Rattle.vio_trace.specs.declared.outcome.Outcome.{Outcome}
use Rattle.vio_trace.specs.declared.outcome.Outcome.TheVariants as outcomes
use Rattle.vcpu_run.specs.ActsAt.{EndsLine}
use Rattle.vcpu_run.specs.Credited.{Ended}
use Rattle.vcpu_run.specs.OwnClients.{IsGrantOf}
use Rattle.vcpu_run.specs.PlainClients.{granted_in}
use Rattle.vcpu_run.specs.PlainRejected.{TellsOf, TellsRejection}
use Rattle.vcpu_run.specs.PlainScripts.{told_in}
use Rattle.vcpu_run.specs.Scripts.{IsScript, OnlyRuns}
use Rattle.vcpu_run.specs.Works.{fails}
use Rattle.vcpu_run.specs.declared.pair.Pair.{Pair}
use Rattle.vcpu_run.specs.declared.script.Script.{Script}
use Rattle.vcpu_run.proofs.Crediting.{here_or}
use Rattle.vcpu_run.proofs.PlainScripted.{ended_other, ended_own, granted_more}

-- each line before the current one has its record
many_ended : (pairs : List Pair) (script : Script) (line : Line) → IsScript pairs script → slice_get script.lines.now script.at ≡ Some line → length script.logs.items ≡ script.at
many_ended pairs script line are found = are.logs.reached (slice_get_within script.lines.now script.at line found)

-- its line ended, or another's
pub told_own : (u : ℕ) (pairs : List Pair) (script script' : Script) (line : Line) (outcome : Outcome) → IsScript pairs script → OnlyRuns script script'
    → slice_get script.lines.now script.at ≡ Some line → (line.unit == u) ≡ true → EndsLine line outcome script script'
    → told_in u script' ≡ told_in u script ++ record { verb = line.verb; outcome = outcome } ∷ []
told_own u pairs script script' line outcome are runs found own ends =
    ended_own u script script' line (record { partition = script.partition; line = line.number; outcome = outcome }) found (many_ended pairs script line are found) runs.lines ends.ended.logs own

pub told_else : (u : ℕ) (pairs : List Pair) (script script' : Script) (line : Line) (outcome : Outcome) → IsScript pairs script → OnlyRuns script script'
    → slice_get script.lines.now script.at ≡ Some line → (line.unit == u) ≡ false → EndsLine line outcome script script' → told_in u script' ≡ told_in u script
told_else u pairs script script' line outcome are runs found other ends =
    ended_other u script script' line (record { partition = script.partition; line = line.number; outcome = outcome }) found (many_ended pairs script line are found) runs.lines ends.ended.logs other

-- ---- the partition failed

tells_done : (verb : Verb) (who : UnitId) (strokes : ℕ → Option (List StrokeValue)) → TellsRejection verb outcomes.Done who strokes
tells_done verbs.Login who strokes = tt
tells_done verb who strokes = tt

-- of which the records tell of no login
pub record ToldFailed (told told' : List Ended) : Type 0 where
  pub granted : granted_in told' ≡ granted_in told
  pub tells : (who : UnitId) (strokes : ℕ → Option (List StrokeValue)) → All (TellsOf who strokes) told → All (TellsOf who strokes) told'
  pub numbers : (grant : ℕ) → All (λ e. IsGrantOf grant e.outcome) told → All (λ e. IsGrantOf grant e.outcome) told'

pub told_fail : (u : ℕ) (pairs : List Pair) (script script' : Script) (line : Line) → IsScript pairs script → OnlyRuns script script' → slice_get script.lines.now script.at ≡ Some line
    → EndsLine line outcomes.Done script script' → ToldFailed (told_in u script) (told_in u script')
told_fail u pairs script script' line are runs found ends = by (here_or line.unit u)
  where
    e : Ended
    e = record { verb = line.verb; outcome = outcomes.Done }

    by : ((line.unit == u) ≡ true) ⊎ ((line.unit == u) ≡ false) → ToldFailed (told_in u script) (told_in u script')
    by (inl own) =
        let is = told_own u pairs script script' line outcomes.Done are runs found own ends in
        record {
          granted = ap granted_in is ∙ (granted_more (told_in u script) e ∙ omega arith);
          tells = λ who strokes all. subst (All (TellsOf who strokes)) (sym is) (All-push (TellsOf who strokes) (told_in u script) e all (tells_done line.verb who strokes));
          numbers = λ grant all. subst (All (λ (one : Ended). IsGrantOf grant one.outcome)) (sym is) (All-push (λ (one : Ended). IsGrantOf grant one.outcome) (told_in u script) e all tt);
        }
    by (inr other) =
        let is = told_else u pairs script script' line outcomes.Done are runs found other ends in
        record {
          granted = ap granted_in is;
          tells = λ who strokes all. subst (All (TellsOf who strokes)) (sym is) all;
          numbers = λ grant all. subst (All (λ (one : Ended). IsGrantOf grant one.outcome)) (sym is) all;
        }

-- no line comes behind it
pub none_failed : (script script' : Script) (line : Line) → fails line.verb ≡ true → EndsLine line outcomes.Done script script' → slice_get script.lines.now script'.at ≡ None
none_failed script script' line failing ends = slice_get_past script.lines.now script'.at (omega (arith, at))
  where
    at : script'.at ≡ length script.lines.now
    at = ends.at ∙ ap (λ b. cond b (length script.lines.now) (script.at + 1)) failing
