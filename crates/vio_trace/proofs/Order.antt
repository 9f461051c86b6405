-- Rows that are added in order stand in order.
use Rattle.std.proofs.Common.{◌≡◌, List, [], ◌∷◌, ◌++◌, All, inr, sym, ◌∙◌}
use Rattle.std.proofs.lemmas.List.Elements.{All-head, All-tail}
use Rattle.vio_num.specs.declared.names.UnitId.{UnitId}
use Rattle.vio_trace.specs.declared.rows.AnswerRow.{AnswerRow}
use Rattle.vio_trace.specs.Form.{Ascend, AnswerBefore}

-- a row behind all that stand before it
pub ascend_push : {Row : Type 0} (before : Row → Row → Type 0) (rows : List Row) (row : Row)
    → Ascend before rows → All (λ other. before other row) rows → Ascend before (rows ++ row ∷ [])
ascend_push before [] row a h = tt
ascend_push before (x ∷ []) row a h = (All-head (λ other. before other row) x [] h, tt)
ascend_push before (x ∷ y ∷ rows) row a h =
    (a.0, ascend_push before (y ∷ rows) row a.1 (All-tail (λ other. before other row) x (y ∷ rows) h))

-- the answers of one unit, whatever their times
pub one_unit_ascends : (unit : UnitId) (rows : List AnswerRow) → All (λ row. row.unit ≡ unit) rows → Ascend AnswerBefore rows
one_unit_ascends unit [] h = tt
one_unit_ascends unit (a ∷ []) h = tt
one_unit_ascends unit (a ∷ b ∷ rows) h =
    let P : AnswerRow → Type 0 = λ row. row.unit ≡ unit in
    let rest = All-tail P a (b ∷ rows) h in
    (inr (All-head P a (b ∷ rows) h ∙ sym (All-head P b rows rest)), one_unit_ascends unit (b ∷ rows) rest)
