-- A login's rejection that the server unit laid in its client's window: it is there as long as no stroke is gone.
use Rattle.std.proofs.Common.{◌≡◌, ◌∙◌, ℕ, All, Bool, true, false, cond, Contains, length, List, [], ◌∷◌, Option, Some, None, subst, sym}
use Rattle.std.proofs.lemmas.List.Elements.{All-weaker, Contains-append_left}
use Rattle.vio_num.specs.declared.names.UnitId.{UnitId}
use Rattle.page_slots.specs.Stroke.{StrokeValue}
use Rattle.page_slots.specs.declared.stroke.StrokeName.{StrokeName}
use Rattle.srp_iu.specs.declared.response.Rsp.{Rsp as Response}
use Rattle.srp_iu.specs.declared.unit.Iu.{Iu}
use Rattle.srp_iu.specs.declared.unit.Iu.TheVariants as units
use Rattle.tce_window.specs.PortState.{PortState, Writes}
use Rattle.tce_window.specs.Region.{stroke_on, touches}
use Rattle.tce_window.specs.Strokes.{with_strokes}
use Rattle.unit_region.specs.RegionLines.{IsOn}
use Rattle.block_server.specs.Ranges.{AddsEach}
use Rattle.vcpu_run.specs.PlainNoted.{HasResponse}
use Rattle.vcpu_run.specs.PlainTalk.{IsAnswerBy}
use Rattle.vcpu_run.proofs.PlainStays.{page_written}
use Rattle.vcpu_run.specs.PlainRejected.{HasRejection}

-- no stroke is gone
abbrev pub StrokesStay : (old new : ℕ → Option (List StrokeValue)) → Type 0
StrokesStay old new = (page : ℕ) (stroke : StrokeValue) → IsOn stroke (old page) → IsOn stroke (new page)

pub rejection_move : (who who' : UnitId) (reason : ℕ) (old new : ℕ → Option (List StrokeValue)) → who' ≡ who → StrokesStay old new → HasRejection who reason old → HasRejection who' reason new
rejection_move who who' reason old new same stay is = record {
  page = is.page;
  stroke = is.stroke;
  there = stay is.page is.stroke is.there;
  laid_by = is.laid_by ∙ sym same;
  rejection = is.rejection;
  spells = is.spells;
  reason_is = is.reason_is;
}

-- and so is a response, in a region of the same unit
pub response_move : (own own' : UnitId) (response : Response) (old new : ℕ → Option (List StrokeValue)) → own' ≡ own → StrokesStay old new → HasResponse own response old
    → HasResponse own' response new
response_move own own' response old new same stay is = record {
  page = is.page;
  within = is.within;
  stroke = is.stroke;
  there = stay is.page is.stroke is.there;
  other = λ e. is.other (e ∙ same);
  begins = is.begins;
  mark_is = is.mark_is;
  canonical = is.canonical;
}

pub says_move : (granted : ℕ) (who who' : UnitId) (old new : PortState) → who' ≡ who → new.place.unit ≡ old.place.unit → StrokesStay old.strokes new.strokes → (answers : List Iu)
    → All (IsAnswerBy granted who old) answers → All (IsAnswerBy granted who' new) answers
says_move granted who who' old new same unit stay answers all = All-weaker (IsAnswerBy granted who old) (IsAnswerBy granted who' new) one answers all
  where
    one : (answer : Iu) → IsAnswerBy granted who old answer → IsAnswerBy granted who' new answer
    one (units.LoginRsp response) is = is
    one (units.LoginRej rejection) is = (is.0, rejection_move who who' rejection.reason old.strokes new.strokes same stay is.1)
    one (units.Rsp response) is = response_move old.place.unit new.place.unit response old.strokes new.strokes unit stay is
    one answer is = tt

-- a write leaves all strokes
pub laid_stay : (old new : PortState) (at mark : ℕ) (bytes : List ℕ) → Writes false old at bytes mark new → StrokesStay old.strokes new.strokes
laid_stay old new at mark bytes wrote page stroke is =
    subst (IsOn stroke) (sym (page_written name at bytes page (old.strokes page) (new.strokes page) (wrote.strokes page))) (by (touches at (length bytes) page) (old.strokes page) is)
  where
    name : StrokeName
    name = record { who = old.place.unit; mark = mark }

    by : (b : Bool) (o : Option (List StrokeValue)) → IsOn stroke o → IsOn stroke (cond b (with_strokes o (stroke_on name at bytes page ∷ [])) o)
    by false o is = is
    by true (Some strokes) is = Contains-append_left strokes (stroke_on name at bytes page ∷ []) stroke is
    by true None is = absurd is

-- and so does what only adds some
pub adds_stay : (P : StrokeValue → Type 0) (old new : Option (List StrokeValue)) (stroke : StrokeValue) → AddsEach P old new → IsOn stroke old → IsOn stroke new
adds_stay P (Some old) (Some new) stroke adds is = subst (λ (list : List StrokeValue). Contains list stroke) (sym adds.1) (Contains-append_left old adds.0 stroke is)
adds_stay P None new stroke adds is = absurd is
adds_stay P (Some old) None stroke adds is = absurd adds
