-- What the lines of a plain client say of logins that were rejected is so as long as no stroke is gone from its window: over a turn of its own, and
-- over one of its server unit.
use Rattle.std.proofs.Common.{◌≡◌, ◌⊎◌, inl, inr, ℕ, false, All, Contains, List, [], ◌∷◌, Option, Some, None, slice_get, refl, subst, sym}
use Rattle.std.proofs.lemmas.List.Elements.{All-weaker, Contains-append_left}
use Rattle.vio_num.specs.declared.history.Grant.{Grant}
use Rattle.vio_num.specs.declared.hypervisor.Moved.TheVariants as moves
use Rattle.vio_num.specs.declared.names.UnitId.{UnitId}
use Rattle.page_slots.specs.Stroke.{StrokeValue}
use Rattle.tce_window.specs.PlainPort.{known_of}
use Rattle.unit_region.specs.Kept.{LaysOwnOn}
use Rattle.unit_region.specs.RegionLines.{IsOn}
use Rattle.unit_region.specs.declared.step.Step.{Step}
use Rattle.unit_region.specs.declared.step.Step.TheVariants as steps
use Rattle.block_server.specs.Ranges.{Known, MayWrite, StrokeLiesInOne, WritesOn, known_in, seen_in}
use Rattle.block_server.specs.Standing.{stood}
use Rattle.block_server.specs.Talk.{Word, talk_of}
use Rattle.block_server.specs.declared.request.Request.{Request}
use Rattle.boot_text.specs.declared.verb.Verb.{Verb}
use Rattle.boot_text.specs.declared.verb.Verb.TheVariants as verbs
use Rattle.vio_trace.specs.declared.outcome.Outcome.{Outcome}
use Rattle.vio_trace.specs.declared.outcome.Outcome.TheVariants as outcomes
use Rattle.vcpu_run.specs.Credited.{Ended}
use Rattle.vcpu_run.specs.Pairs.{AreDriven, Drives}
use Rattle.vcpu_run.specs.PlainSteps.{StepTells}
use Rattle.vcpu_run.specs.PlainTalk.{Between}
use Rattle.vcpu_run.specs.declared.pair.Pair.{Pair}
use Rattle.vcpu_run.proofs.PlainRejected.{StrokesStay, adds_stay, rejection_move}
use Rattle.vcpu_run.proofs.PlainTurns.{Turns}
use Rattle.vcpu_run.specs.PlainRejected.{TellsRejection, TellsOf}
use Rattle.vcpu_run.proofs.Listed.{held_is}

-- ---- what lines say of logins that were rejected

tells_move : (verb : Verb) (outcome : Outcome) (who who' : UnitId) (old new : ℕ → Option (List StrokeValue)) → who' ≡ who → StrokesStay old new → TellsRejection verb outcome who old
    → TellsRejection verb outcome who' new
tells_move verbs.Login (outcomes.Rejected reason) who who' old new same stay is = rejection_move who who' reason old new same stay is
tells_move verbs.Login outcome who who' old new same stay is = tt
tells_move verb outcome who who' old new same stay is = tt

pub lines_move : (who who' : UnitId) (old new : ℕ → Option (List StrokeValue)) → who' ≡ who → StrokesStay old new → (lines : List Ended) → All (TellsOf who old) lines
    → All (TellsOf who' new) lines
lines_move who who' old new same stay lines all =
    All-weaker (TellsOf who old) (TellsOf who' new) (λ e is. tells_move e.verb e.outcome who who' old new same stay is) lines all

-- a turn of the client leaves all strokes
pub drives_stay : (old new : Pair) → Drives old new → StrokesStay (known_of old.window).strokes (known_of new.window).strokes
drives_stay old new drives page stroke is = own_stay old.window.unit stroke ((known_of old.window).strokes page) ((known_of new.window).strokes page) (drives.laid page) is
  where
    own_stay : (unit : UnitId) (stroke : StrokeValue) (old new : Option (List StrokeValue)) → LaysOwnOn unit old new → IsOn stroke old → IsOn stroke new
    own_stay unit stroke (Some old) (Some new) lays is = subst (λ (list : List StrokeValue). Contains list stroke) (sym lays.is) (Contains-append_left old lays.more stroke is)
    own_stay unit stroke None new lays is = absurd is
    own_stay unit stroke (Some old) None lays is = absurd lays

pub driven_tell : (who : UnitId) (k : ℕ) (old new : List Pair) (before after : Pair) (lines : List Ended) → AreDriven old new → slice_get old k ≡ Some before → slice_get new k ≡ Some after
    → All (TellsOf who (known_of before.window).strokes) lines → All (TellsOf who (known_of after.window).strokes) lines
driven_tell who k old new before after lines driven there here =
    lines_move who who (known_of before.window).strokes (known_of after.window).strokes refl
    (drives_stay before after (held_is (Drives before) (slice_get new k) after here (driven.each k before there))) lines

-- a step as it is told
pub tells_told : (verb : Verb) (step told : Step) (who : UnitId) (strokes : ℕ → Option (List StrokeValue))
    → (told ≡ step) ⊎ ((step ≡ steps.Waits moves.Quiet) × (told ≡ steps.Waits moves.Moved)) → StepTells verb step who strokes → StepTells verb told who strokes
tells_told verb step told who strokes (inl same) is = subst (λ (s : Step). StepTells verb s who strokes) (sym same) is
tells_told verb step told who strokes (inr (waits, waits')) is = subst (λ (s : Step). StepTells verb s who strokes) (sym waits') tt

-- a turn of the server unit leaves all strokes
pub serve_stays : (at at' : Between) (lines lines' : List Grant) (words : List Word) → (turn : Turns at at' lines lines' words)
    → WritesOn (stood at.window) at.unit at.server words (seen_in false at.window) (seen_in false at'.window) → StrokesStay at.window.strokes at'.window.strokes
serve_stays at at' lines lines' words turn wrote page stroke is = by turn.middle.pending.items refl
  where
    same_known : (a b : Known) → Some a ≡ Some b → a ≡ b
    same_known a b e = cc (e)

    by : (requests : List Request) → turn.middle.pending.items ≡ requests → IsOn stroke (at'.window.strokes page)
    by [] none =
        subst (λ (k : Known). IsOn stroke (k.strokes page)) (sym (same_known (known_in at'.window) (known_in at.window) (wrote.none (talk_of turn.middle) turn.hears.heard none))) is
    by (request ∷ rest) items =
        let lays = wrote.wrote (talk_of turn.middle) request rest turn.hears.heard items in
        adds_stay (StrokeLiesInOne at.window.values (MayWrite (stood at.window) request) page) (at.window.strokes page) (at'.window.strokes page) stroke (lays.strokes page) is
