-- The answer that a server unit writes over the oldest request within a turn: it is due until its entry is put.
use Rattle.std.proofs.Common.{◌≡◌, ◌≢◌, ◌∙◌, ◌⊎◌, inl, inr, ℕ, ◌+◌, ◌-◌, ◌*◌, ◌%◌, ◌≤◌, ◌==◌, ◌++◌, nat_le, Bool, true, false, List, length, refl, sym, ap, subst, arith}
use Rattle.std.specs.List.{slice_index}
use Rattle.std.proofs.lemmas.Bool.Decides.{nat_tests}
use Rattle.std.proofs.lemmas.List.Elements.{All-weaker}
use Rattle.vio_num.specs.declared.history.Served.{Served}
use Rattle.vio_num.specs.declared.names.UnitId.{UnitId}
use Rattle.page_slots.specs.Stroke.{StrokeValue}
use Rattle.page_slots.specs.declared.stroke.StrokeName.{StrokeName}
use Rattle.srp_iu.specs.declared.unit.Iu.TheVariants as units
use Rattle.tce_window.specs.PortState.{PortPlace}
use Rattle.block_server.specs.Bearing.{IsAnswerPart, StrokeBears}
use Rattle.block_server.specs.Doings.{Doing, WritesAnswer, name_for}
use Rattle.block_server.specs.Judged.{row_in}
use Rattle.block_server.specs.Talk.{order_asked}
use Rattle.block_server.specs.declared.service.Outcome.{Outcome}
use Rattle.block_server.specs.declared.service.Outcome.TheVariants as outcomes
use Rattle.block_server.specs.declared.service.Stage.TheVariants as stages
use Rattle.vscsi_client.specs.State.{ClientState}
use Rattle.vcpu_run.specs.OwnRows.{IsAnswerDue, KeepsRows}
use Rattle.vcpu_run.specs.PlainBorne.{AreBorne, IsOfRow, rows_by}
use Rattle.vcpu_run.specs.PlainNoted.{AreAskedFor, IsAnswerOfRow, IsNoResponse}
use Rattle.vcpu_run.specs.PlainTalk.{Ask, IsAsk, IsOwnWindow, IsPendingAs}
use Rattle.vcpu_run.proofs.OwnRowsStay.{settled_stay}
use Rattle.vcpu_run.proofs.OwnWrites.{WorkedFirst}
use Rattle.vcpu_run.proofs.PlainAnswered.{answer_few}
use Rattle.vcpu_run.proofs.PlainAnswers.{front_of, judged_as}
use Rattle.vcpu_run.proofs.PlainLaid.{behind_slots, page_more}
use Rattle.vcpu_run.proofs.PlainUnits.{canon_some}

-- the row in service is the same
row_same : (outcome : Outcome) → row_in (stages.Entry outcome) ≡ row_in (stages.Answer outcome)
row_same (outcomes.Granted number) = refl
row_same outcomes.Rejected = refl
row_same (outcomes.Served row) = refl

-- ---- a stroke of the answer

-- The bytes of a stroke of the answer that begins where a slot does, if it has any, are a front of it.
stroke_judged : (granted : ℕ) (d d' : Doing) (ask : Ask) (step : WritesAnswer d d') → WorkedFirst granted d step.outcome ask → IsPendingAs step.request ask → (page : ℕ) (stroke : StrokeValue)
    → StrokeBears d.client.values (IsAnswerPart (name_for d.name step.request) step.request.address d.answer) page stroke → IsAnswerDue d' stroke ⊎ IsNoResponse stroke
stroke_judged granted d d' ask step worked is page stroke laid = whole (stroke.offset % 256 == 0) (nat_le 1 (length stroke.bytes)) refl refl
  where
    few : length d.answer ≤ 256
    few = answer_few worked.current granted ask.tag (order_asked ask.iu) step.outcome d.answer worked.answer

    begun : stroke.offset % 256 ≡ 0 → 1 ≤ length stroke.bytes → IsAnswerDue d' stroke ⊎ IsNoResponse stroke
    begun begins some =
        let of : (rest : List ℕ) × (d.answer ≡ stroke.bytes ++ rest) =
        front_of stroke d.answer laid.lies.entry laid.address ask.slot (laid.writes.address_is ∙ is.address) few begins some laid.lies.from
        (subst (λ (list : List ℕ). 4096 * laid.lies.entry + stroke.offset + length stroke.bytes ≤ laid.address + length list) laid.writes.are laid.lies.to)
        (λ k less. laid.bears k less ∙ ap (λ (list : List ℕ). slice_index list (4096 * laid.lies.entry + stroke.offset + k - laid.address)) laid.writes.are) in
        judged_as (IsAnswerDue d' stroke) stroke worked.current granted ask.tag (order_asked ask.iu) step.outcome d.answer of.0 worked.answer of.1
        (λ place served same. record {
          place = place;
          stage = step.stage ∙ ap (λ (outcome : Outcome). stages.Entry outcome) served;
          request = step.request;
          rest = step.rest;
          pending = step.pends ∙ step.pending;
          mark_is = ap (λ (n : StrokeName). n.mark) laid.writes.name_is;
          answer_is = step.answer ∙ same;
        })

    whole : (b c : Bool) → (stroke.offset % 256 == 0) ≡ b → nat_le 1 (length stroke.bytes) ≡ c → IsAnswerDue d' stroke ⊎ IsNoResponse stroke
    whole false c e f = inr (λ begins r canon. absurd (grind (arith, nat_tests, e, begins)))
    whole true false e f =
        let none : length stroke.bytes ≡ 0 = grind (arith, nat_tests, f) in inr (λ begins r canon. absurd (omega (arith, none, canon_some stroke.bytes (units.Rsp r) canon)))
    whole true true e f = begun (grind (arith, nat_tests, e)) (grind (arith, nat_tests, f))

-- ---- the step

pub writes_rows : (granted : ℕ) (d d' : Doing) (s : ClientState) (ask : Ask) (step : WritesAnswer d d') → IsOwnWindow d.client → IsAsk ask → IsPendingAs step.request ask
    → WorkedFirst granted d step.outcome ask → KeepsRows d s → KeepsRows d' s
writes_rows granted d d' s ask step own is_ask is worked keeps = record {
  borne = subst (λ (id : UnitId). AreBorne (rows_by id d'.rows) id s.rows d'.client.strokes) (sym step.stays.id)
      (subst (λ (rows : List Served). AreBorne (rows_by d.id rows) d.id s.rows d'.client.strokes) (sym step.rows) borne);
  sized = subst (λ (id : UnitId). AreAskedFor (rows_by id d'.rows) s.rows) (sym step.stays.id)
      (subst (λ (rows : List Served). AreAskedFor (rows_by d.id rows) s.rows) (sym step.rows) keeps.sized);
  settled = keeps.settled;
  settled_are = settled_stay d d' step.stays.id step.rows (ap row_in step.stage ∙ row_same step.outcome ∙ ap row_in (sym step.first)) (λ request rest first. (rest, step.pends ∙ first))
      keeps.settled keeps.settled_are;
  answered = λ page front list there.
      page_more (Part page) (λ (stroke : StrokeValue). stroke.name.who ≢ d'.client.place.unit → IsAnswerOfRow keeps.settled stroke ⊎ (IsNoResponse stroke ⊎ IsAnswerDue d' stroke))
      (d.client.strokes page) (d'.client.strokes page) list there (step.bears.strokes page)
      (λ was found. All-weaker (λ (stroke : StrokeValue). stroke.name.who ≢ d.client.place.unit → IsAnswerOfRow keeps.settled stroke ⊎ (IsNoResponse stroke ⊎ IsAnswerDue d stroke))
      (λ (stroke : StrokeValue). stroke.name.who ≢ d'.client.place.unit → IsAnswerOfRow keeps.settled stroke ⊎ (IsNoResponse stroke ⊎ IsAnswerDue d' stroke))
      (λ stroke has other. before stroke (has (λ e. other (e ∙ sym (ap (λ (p : PortPlace). p.unit) step.place))))) was (keeps.answered page front was found))
      (λ stroke laid other. now stroke (stroke_judged granted d d' ask step worked is page stroke laid));
}
  where
    Part : (page : ℕ) → StrokeValue → Type 0
    Part page = StrokeBears d.client.values (IsAnswerPart (name_for d.name step.request) step.request.address d.answer) page

    few : length d.answer ≤ 256
    few = answer_few worked.current granted ask.tag (order_asked ask.iu) step.outcome d.answer worked.answer

    borne : AreBorne (rows_by d.id d.rows) d.id s.rows d'.client.strokes
    borne page behind list there =
        page_more (Part page) (λ (stroke : StrokeValue). stroke.name.who ≡ d.id → IsOfRow (rows_by d.id d.rows) s.rows page stroke)
        (d.client.strokes page) (d'.client.strokes page) list there (step.bears.strokes page) (λ was found. keeps.borne page behind was found)
        (λ stroke laid own'. absurd (behind_slots d.client own laid.address (length laid.bytes) page ask.slot stroke laid.lies behind (laid.writes.address_is ∙ is.address) is_ask.slot_is
        (subst (λ (bytes : List ℕ). length bytes ≤ 256) (sym laid.writes.are) few)))

    no_entry : (place : ℕ) → stages.Answer step.outcome ≡ stages.Entry (outcomes.Served place) → ⊥
    no_entry place e = cc (e)

    before : (stroke : StrokeValue) → IsAnswerOfRow keeps.settled stroke ⊎ (IsNoResponse stroke ⊎ IsAnswerDue d stroke)
        → IsAnswerOfRow keeps.settled stroke ⊎ (IsNoResponse stroke ⊎ IsAnswerDue d' stroke)
    before stroke (inl of) = inl of
    before stroke (inr (inl isnt)) = inr (inl isnt)
    before stroke (inr (inr due)) = absurd (no_entry due.place (sym step.first ∙ due.stage))

    now : (stroke : StrokeValue) → IsAnswerDue d' stroke ⊎ IsNoResponse stroke → IsAnswerOfRow keeps.settled stroke ⊎ (IsNoResponse stroke ⊎ IsAnswerDue d' stroke)
    now stroke (inl due) = inr (inr due)
    now stroke (inr isnt) = inr (inl isnt)
