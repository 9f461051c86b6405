-- What a server unit lays within a turn as it serves the oldest request, up to its answer: data-in of its row behind the slots, and nothing else.
use Rattle.std.proofs.Common.{◌≡◌, ◌≢◌, ◌∙◌, ◌⊎◌, inl, inr, ℕ, ◌+◌, ◌*◌, ◌<◌, ◌≤◌, All, Contains, List, Some, length, sym, ap, subst, arith}
use Rattle.std.proofs.lemmas.List.Elements.{All-weaker}
use Rattle.vio_num.specs.declared.history.Served.{Served}
use Rattle.vio_num.specs.declared.names.UnitId.{UnitId}
use Rattle.page_slots.specs.Stroke.{StrokeValue}
use Rattle.page_slots.specs.declared.stroke.StrokeName.{StrokeName}
use Rattle.srp_desc.specs.Pieces.{sum_of}
use Rattle.srp_iu.specs.declared.unit.Iu.TheVariants as units
use Rattle.tce_window.specs.PortState.{PortPlace}
use Rattle.block_server.specs.Bearing.{BearsRow, IsNamedPart, NamesData, StrokeBears}
use Rattle.block_server.specs.Carried.{address_of}
use Rattle.block_server.specs.Doings.{Doing, Prepares, name_for}
use Rattle.block_server.specs.Judged.{row_in}
use Rattle.block_server.specs.Ranges.{Known, known_in}
use Rattle.block_server.specs.RowsOn.{row_tag}
use Rattle.block_server.specs.Standing.{stood}
use Rattle.block_server.specs.declared.request.Order.{Order}
use Rattle.block_server.specs.declared.request.Request.{Request}
use Rattle.block_server.specs.declared.service.Outcome.TheVariants as outcomes
use Rattle.block_server.specs.declared.service.Stage.TheVariants as stages
use Rattle.vscsi_client.specs.State.{ClientState}
use Rattle.vscsi_client.specs.declared.TheConstants.{DATA_START}
use Rattle.vcpu_run.specs.DataKept.{IsInwardAt}
use Rattle.vcpu_run.specs.OwnRows.{IsAnswerDue, KeepsRows}
use Rattle.vcpu_run.specs.PlainBorne.{AreBorne, IsInPlace, IsOfRow, rows_by}
use Rattle.vcpu_run.specs.PlainNoted.{AreAskedFor, IsAnswerOfRow, IsNoResponse}
use Rattle.vcpu_run.specs.PlainTalk.{Ask, DataLies, IsAsk, IsOwnWindow, IsPendingAs, StartsAt}
use Rattle.vcpu_run.proofs.OwnData.{IsDataStroke}
use Rattle.vcpu_run.proofs.OwnDataStays.{LaysData}
use Rattle.vcpu_run.proofs.OwnRowsServed.{AddsItsRow, adds_its_row, sized_more}
use Rattle.vcpu_run.proofs.PlainBorne.{all_more}
use Rattle.vcpu_run.proofs.PlainData.{GoesOn}
use Rattle.vcpu_run.proofs.PlainLaid.{data_borne, entry_is, list_places, named_data, page_more}
use Rattle.vcpu_run.proofs.PlainUnits.{canon_some}

-- ---- what is served

-- The oldest request is what the client asked, under a tag that it knows, and its data lie there.
pub record IsServedFor (d : Doing) (s : ClientState) (request : Request) (ask : Ask) : Type 0 where
  pub is_ask : IsAsk ask
  pub pending : IsPendingAs request ask
  pub lies : DataLies d.client ask
  pub starts : StartsAt s.rows ask
  pub known : ask.tag ≤ length s.rows

-- ---- behind the slots

laid_of : (d d' : Doing) (s : ClientState) (ask : Ask) (step : Prepares d d') → IsOwnWindow d.client → IsServedFor d s step.request ask → (row : Served)
    → Contains (rows_by d.id d'.rows) row × (row_tag row ≡ ask.tag) → (page : ℕ) (stroke : StrokeValue)
    → StrokeBears d.client.values (IsNamedPart (stood d.client) (name_for d.name step.request) step.request.order row.inn) page stroke → IsOfRow (rows_by d.id d'.rows) s.rows page stroke
laid_of d d' s ask step own for row has page stroke laid =
    let mark : stroke.name.mark ≡ ask.tag = ap (λ (n : StrokeName). n.mark) laid.writes.part.name_is ∙ for.pending.tag in
    let names = named_data d.client ask.iu laid.writes.list (subst (λ (o : Order). NamesData (stood d.client) o laid.writes.list) for.pending.order laid.writes.named) in
    let places : (j : ℕ) → j < sum_of laid.writes.list → address_of laid.writes.list j ≡ Some (ask.start + j) = list_places d.client own ask for.lies laid.writes.list names in
    record {
      row = row;
      there = has.0;
      tag_is = has.1 ∙ sym mark;
      known = subst (λ n. n ≤ length s.rows) (sym mark) for.known;
      lies = λ from len inward.
          let start : from ≡ ask.start = (for.starts from len (subst (λ n. IsInwardAt s.rows n from len) mark inward)).0 in
          subst (λ a. IsInPlace row.inn a page stroke) (sym start)
          (data_borne (name_for d.name step.request) laid.writes.list row.inn laid.bytes ask.start laid.address laid.lies.entry page stroke
          (entry_is d.client own laid.address (length laid.bytes) page stroke laid.lies) laid.lies.from laid.lies.to laid.bears laid.writes.part places);
    }

same_known : (a b : Known) → Some a ≡ Some b → a ≡ b
same_known a b e = cc (e)

borne_more : (d d' : Doing) (s : ClientState) (ask : Ask) (step : Prepares d d') → IsOwnWindow d.client → IsServedFor d s step.request ask → (adds : AddsItsRow d d' ask)
    → AreBorne (rows_by d.id d.rows) d.id s.rows d.client.strokes → AreBorne (rows_by d.id d'.rows) d.id s.rows d'.client.strokes
borne_more d d' s ask step own for adds borne page behind list there = by step.bears
  where
    before : (was : List StrokeValue) → d.client.strokes page ≡ Some was → All (λ (stroke : StrokeValue). stroke.name.who ≡ d.id → IsOfRow (rows_by d.id d'.rows) s.rows page stroke) was
    before was found =
        subst (λ (rows : List Served). All (λ (stroke : StrokeValue). stroke.name.who ≡ d.id → IsOfRow rows s.rows page stroke) was) (sym adds.by_unit)
        (all_more (rows_by d.id d.rows) adds.more d.id s.rows page was (borne page behind was found))

    by : BearsRow (stood d.client) (name_for d.name step.request) step.request.order d'.rows (row_in d'.stage) (Some (known_in d.client)) (Some (known_in d'.client))
        → All (λ (stroke : StrokeValue). stroke.name.who ≡ d.id → IsOfRow (rows_by d.id d'.rows) s.rows page stroke) list
    by (inl same) = before list (ap (λ (k : Known). k.strokes page) (sym (same_known (known_in d'.client) (known_in d.client) same)) ∙ there)
    by (inr (at, row, some, found, bears)) =
        page_more (StrokeBears d.client.values (IsNamedPart (stood d.client) (name_for d.name step.request) step.request.order row.inn) page)
        (λ (stroke : StrokeValue). stroke.name.who ≡ d.id → IsOfRow (rows_by d.id d'.rows) s.rows page stroke)
        (d.client.strokes page) (d'.client.strokes page) list there (bears.strokes page) before
        (λ stroke laid own'. laid_of d d' s ask step own for row (adds.last at row some found) page stroke laid)

-- ---- on the driver's pages

-- data are no response there
data_no_response : (ask : Ask) (page : ℕ) → 4096 * page < DATA_START → (stroke : StrokeValue) → IsDataStroke ask.pages page stroke → IsNoResponse stroke
data_no_response ask page front stroke is begins r canon = by is.lies
  where
    some : 1 ≤ length stroke.bytes
    some = canon_some stroke.bytes (units.Rsp r) canon

    by : (length stroke.bytes ≡ 0) ⊎ GoesOn ask.pages (4096 * page + stroke.offset) (length stroke.bytes) → ⊥
    by (inl none) = omega (arith, some, none)
    by (inr goes) = omega (arith, some, front, goes.behind, is.within)

pub prepares_rows : (d d' : Doing) (s : ClientState) (ask : Ask) (step : Prepares d d') → IsOwnWindow d.client → IsServedFor d s step.request ask → LaysData ask d.client d'.client
    → KeepsRows d s → KeepsRows d' s
prepares_rows d d' s ask step own for lays keeps = record {
  borne = subst (λ (id : UnitId). AreBorne (rows_by id d'.rows) id s.rows d'.client.strokes) (sym step.stays.id) (borne_more d d' s ask step own for adds keeps.borne);
  sized = subst (λ (id : UnitId). AreAskedFor (rows_by id d'.rows) s.rows) (sym step.stays.id) (sized_more d d' s ask for.is_ask for.starts adds keeps.sized);
  settled = rows_by d.id d.rows;
  settled_are = adds.settled;
  answered = λ page front list there.
      page_more (IsDataStroke ask.pages page)
      (λ (stroke : StrokeValue). stroke.name.who ≢ d'.client.place.unit → IsAnswerOfRow (rows_by d.id d.rows) stroke ⊎ (IsNoResponse stroke ⊎ IsAnswerDue d' stroke))
      (d.client.strokes page) (d'.client.strokes page) list there (lays.strokes page)
      (λ was found. All-weaker (λ (stroke : StrokeValue). stroke.name.who ≢ d.client.place.unit → IsAnswerOfRow keeps.settled stroke ⊎ (IsNoResponse stroke ⊎ IsAnswerDue d stroke))
      (λ (stroke : StrokeValue). stroke.name.who ≢ d'.client.place.unit → IsAnswerOfRow (rows_by d.id d.rows) stroke ⊎ (IsNoResponse stroke ⊎ IsAnswerDue d' stroke))
      (λ stroke has other. before stroke (has (λ e. other (e ∙ sym (ap (λ (p : PortPlace). p.unit) step.place))))) was (keeps.answered page front was found))
      (λ stroke is other. inr (inl (data_no_response ask page front stroke is)));
}
  where
    adds : AddsItsRow d d' ask
    adds = adds_its_row d d' ask step for.is_ask for.pending

    no_entry : (place : ℕ) → stages.Start ≡ stages.Entry (outcomes.Served place) → ⊥
    no_entry place e = cc (e)

    before : (stroke : StrokeValue) → IsAnswerOfRow keeps.settled stroke ⊎ (IsNoResponse stroke ⊎ IsAnswerDue d stroke)
        → IsAnswerOfRow (rows_by d.id d.rows) stroke ⊎ (IsNoResponse stroke ⊎ IsAnswerDue d' stroke)
    before stroke (inl of) = inl (subst (λ (rows : List Served). IsAnswerOfRow rows stroke) (sym (keeps.settled_are.none (ap row_in step.first))) of)
    before stroke (inr (inl isnt)) = inr (inl isnt)
    before stroke (inr (inr due)) = absurd (no_entry due.place (sym step.first ∙ due.stage))
