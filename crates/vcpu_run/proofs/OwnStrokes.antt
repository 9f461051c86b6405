-- No stroke of a client's window is gone behind a step of its server unit; and how far the client's line came does not change with it.
use Rattle.std.proofs.Common.{◌≡◌, ◌⊎◌, inl, inr, List, [], ◌∷◌, Option, Some, sym, ap, subst}
use Rattle.page_slots.specs.Stroke.{StrokeValue}
use Rattle.unit_region.specs.RegionLines.{IsOn}
use Rattle.block_server.specs.Bearing.{BearsRow, IsNamedPart, IsAnswerPart, StrokeBears}
use Rattle.block_server.specs.Doings.{Does, DoesOne, Doing, DropsAll, KeepsEntry, LeadsOver, LogsOutFirst, LosesEntry, Prepares, PutsEntry, TakesRequest, WritesAnswer, name_for}
use Rattle.block_server.specs.Judged.{row_in}
use Rattle.block_server.specs.Ranges.{Known, known_in}
use Rattle.block_server.specs.Standing.{stood}
use Rattle.block_server.specs.Talk.{StaysKnown}
use Rattle.tce_window.specs.PortState.{PortState}
use Rattle.vcpu_run.proofs.OwnWindows.{known_slots}
use Rattle.vcpu_run.proofs.PlainRejected.{StrokesStay, adds_stay}

known_strokes : (old new : PortState) → StaysKnown old new → StrokesStay old.strokes new.strokes
known_strokes old new stays page stroke is = (known_slots old new stays).strokes page stroke is

same_known : (a b : Known) → Some a ≡ Some b → a ≡ b
same_known a b e = cc (e)

prepares_strokes : (d d' : Doing) → Prepares d d' → StrokesStay d.client.strokes d'.client.strokes
prepares_strokes d d' step page stroke is = by step.bears
  where
    by : BearsRow (stood d.client) (name_for d.name step.request) step.request.order d'.rows (row_in d'.stage) (Some (known_in d.client)) (Some (known_in d'.client)) → IsOn stroke (d'.client.strokes page)
    by (inl same) = subst (λ (list : Option (List StrokeValue)). IsOn stroke list) (ap (λ (k : Known). k.strokes page) (same_known (known_in d.client) (known_in d'.client) (sym same))) is
    by (inr (at, row, some, found, bears)) =
        adds_stay (StrokeBears d.client.values (IsNamedPart (stood d.client) (name_for d.name step.request) step.request.order row.inn) page) (d.client.strokes page) (d'.client.strokes page) stroke
        (bears.strokes page) is

pub does_strokes : (d d' : Doing) → DoesOne d d' → StrokesStay d.client.strokes d'.client.strokes
does_strokes d d' (inl step) = known_strokes d.client d'.client step.aside.client
does_strokes d d' (inr (inl step)) = known_strokes d.client d'.client step.aside.client
does_strokes d d' (inr (inr (inl step))) = known_strokes d.client d'.client step.aside.client
does_strokes d d' (inr (inr (inr (inl step)))) = known_strokes d.client d'.client step.aside.client
does_strokes d d' (inr (inr (inr (inr (inl step))))) = known_strokes d.client d'.client step.aside.client
does_strokes d d' (inr (inr (inr (inr (inr (inl step)))))) = known_strokes d.client d'.client step.aside.client
does_strokes d d' (inr (inr (inr (inr (inr (inr (inl step))))))) = known_strokes d.client d'.client step.aside.client
does_strokes d d' (inr (inr (inr (inr (inr (inr (inr (inl step)))))))) = known_strokes d.client d'.client step.aside.client
does_strokes d d' (inr (inr (inr (inr (inr (inr (inr (inr rest)))))))) = serves rest
  where
    serves : TakesRequest d d' ⊎ (DropsAll d d' ⊎ (LogsOutFirst d d' ⊎ (Prepares d d' ⊎ (WritesAnswer d d' ⊎ (KeepsEntry d d' ⊎ (PutsEntry d d' ⊎ LosesEntry d d'))))))
        → StrokesStay d.client.strokes d'.client.strokes
    serves (inl step) = known_strokes d.client d'.client step.put.client
    serves (inr (inl step)) = known_strokes d.client d'.client step.put.client
    serves (inr (inr (inl step))) = known_strokes d.client d'.client step.put.client
    serves (inr (inr (inr (inl step)))) = prepares_strokes d d' step
    serves (inr (inr (inr (inr (inl step))))) = λ page stroke is.
        adds_stay (StrokeBears d.client.values (IsAnswerPart (name_for d.name step.request) step.request.address d.answer) page) (d.client.strokes page) (d'.client.strokes page) stroke
        (step.bears.strokes page) is
    serves (inr (inr (inr (inr (inr (inl step)))))) = known_strokes d.client d'.client step.put.client
    serves (inr (inr (inr (inr (inr (inr (inl step))))))) = known_strokes d.client d'.client step.client
    serves (inr (inr (inr (inr (inr (inr (inr step))))))) = known_strokes d.client d'.client step.put.client

leads_strokes : (over : List Doing) (d d' : Doing) → LeadsOver over d d' → StrokesStay d.client.strokes d'.client.strokes
leads_strokes [] d d' leads = λ page stroke is. subst (λ (at : Doing). IsOn stroke (at.client.strokes page)) (sym leads) is
leads_strokes (next ∷ over) d d' leads = λ page stroke is. leads_strokes over next d' leads.1 page stroke (does_strokes d next leads.0 page stroke is)

-- nor behind a turn
pub turn_strokes : (d d' : Doing) → Does d d' → StrokesStay d.client.strokes d'.client.strokes
turn_strokes d d' does = leads_strokes does.over d d' does.leads
