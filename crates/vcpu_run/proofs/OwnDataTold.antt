-- What an own client's lines say of the data of a command: its server unit has a row of the tag, and where that is the only one, the length and the sum
-- are those of its data-in.
use Rattle.std.proofs.Common.{◌≡◌, ◌∙◌, ℕ, All, true, Contains, IfSome, List, Option, Some, None}
use Rattle.std.proofs.lemmas.List.Elements.{All-contains_itself, All-filter, All-weaker, filter_passes}
use Rattle.vio_num.specs.declared.history.Served.{Served}
use Rattle.vio_num.specs.declared.names.UnitId.{UnitId}
use Rattle.page_slots.specs.Stroke.{StrokeValue}
use Rattle.vio_trace.specs.declared.rows.AnswerRow.{AnswerRow}
use Rattle.block_server.specs.Makers.{same_unit}
use Rattle.block_server.specs.RowsOn.{row_tag}
use Rattle.vscsi_client.specs.Transferred.{DataRange}
use Rattle.vscsi_client.specs.declared.row.Row.{Row}
use Rattle.vcpu_run.specs.Credited.{Ended}
use Rattle.vcpu_run.specs.DataKept.{AreKeptAt, IsRangeOf}
use Rattle.vcpu_run.specs.DataRead.{given_by}
use Rattle.vcpu_run.specs.DataTold.{AreDataTold, IsGivenIf}
use Rattle.vcpu_run.specs.LinesShow.{Seen}
use Rattle.vcpu_run.specs.OwnClients.{IsRowOf, TellsOfRow, TellsOwnData}
use Rattle.vcpu_run.specs.OwnCounts.{LieBehind}
use Rattle.vcpu_run.specs.PlainBorne.{rows_by}
use Rattle.vcpu_run.specs.PlainClients.{HasAnswerRow, tells_data}
use Rattle.vcpu_run.specs.PlainNoted.{IsLaidAnswer}
use Rattle.vcpu_run.proofs.LinesShown.{all_has}
use Rattle.vcpu_run.proofs.PlainAnswerRows.{KnowsAnswers, answer_row}
use Rattle.vcpu_run.proofs.PlainDataTold.{BearRows, LiesBehind, contains_filter, data_sums, placed_at, range_told}
use Rattle.vcpu_run.proofs.PlainTags.{one_same, same_one}

-- ---- the rows of a unit

-- one of them is one of all rows
row_of : (rows : List Served) (server : UnitId) (tag : ℕ) (row : Served) → Contains (rows_by server rows) row → row_tag row ≡ tag → IsRowOf rows server tag row
row_of rows server tag row has is = record {
  there = all_has (Contains rows) (rows_by server rows) row (All-filter (λ (row : Served). same_unit row.unit server) (Contains rows) rows (All-contains_itself rows)) has;
  of_unit = same_one row.unit server
      (all_has (λ (row : Served). same_unit row.unit server ≡ true) (rows_by server rows) row (filter_passes (λ (row : Served). same_unit row.unit server) rows) has);
  tag_is = is;
}

-- and the other way
of_row : (rows : List Served) (server : UnitId) (tag : ℕ) (row : Served) → IsRowOf rows server tag row → Contains (rows_by server rows) row
of_row rows server tag row is = contains_filter (λ (row : Served). same_unit row.unit server) rows row (one_same row.unit server is.of_unit) is.there

-- ---- the row of a tag whose data were told

-- An answer of it was noted, which has a row.
some_row : (rows : List Served) (server self : UnitId) (rs : List Row) (answers : List AnswerRow) (own : List Ended) (strokes : ℕ → Option (List StrokeValue)) (tag : ℕ) (range : DataRange)
    → KnowsAnswers server self rows rs answers strokes → IsRangeOf own answers tag range → (row : Served) × IsRowOf rows server tag row
some_row rows server self rs answers own strokes tag range judged is =
    let laid : IsLaidAnswer self strokes is.noted.row = all_has (IsLaidAnswer self strokes) answers is.noted.row judged.noted is.noted.there in
    let has : HasAnswerRow rows server is.noted.row = answer_row server self rows strokes is.noted.row judged.answered laid in
    (has.row, record { there = has.there; of_unit = has.of_unit; tag_is = has.tag_is ∙ is.noted.tag_is })

-- The data of its command lie behind the driver's pages.
lies_behind : (rs : List Row) (answers : List AnswerRow) (own : List Ended) (tag : ℕ) → AreKeptAt rs own → LieBehind rs → LiesBehind own answers tag
lies_behind rs answers own tag kept behind range is = behind tag range.at is.len (placed_at rs own answers tag range kept is)

-- ---- the client's lines

own_data : (seen : Seen) (server self : UnitId) (rs : List Row) (answers : List AnswerRow) (own : List Ended) (rows : List Served) (strokes : ℕ → Option (List StrokeValue)) → AreKeptAt rs own
    → AreDataTold seen server own answers → KnowsAnswers server self rows rs answers strokes → LieBehind rs → BearRows seen server server rows rs → (e : Ended) → Contains own e
    → TellsOwnData rows server e
own_data seen server self rs answers own rows strokes kept reads judged behind bears e there = by (given_by e.verb) (reads e there)
  where
    by : (o : Option ℕ) → IfSome o (λ tag. IsGivenIf seen (record { who = server; mark = tag }) own answers e.outcome)
        → IfSome o (λ tag. tells_data e.outcome ≡ true → TellsOfRow rows server tag e.outcome)
    by None told = tt
    by (Some tag) told = λ tells.
        let range = range_told seen (record { who = server; mark = tag }) own answers e.outcome tells told in
        record {
          some = some_row rows server self rs answers own strokes tag range.0 judged range.1;
          only = λ row is alone.
              data_sums seen server rs answers own rows server self strokes kept judged bears tag e.outcome (lies_behind rs answers own tag kept behind) told row
              (of_row rows server tag row is) is.tag_is (λ other has same. alone other (row_of rows server tag other has same));
        }

-- Each of them tells so of data.
pub own_reads : (seen : Seen) (server self : UnitId) (rs : List Row) (answers : List AnswerRow) (own : List Ended) (rows : List Served) (strokes : ℕ → Option (List StrokeValue)) → AreKeptAt rs own
    → AreDataTold seen server own answers → KnowsAnswers server self rows rs answers strokes → LieBehind rs → BearRows seen server server rows rs → All (TellsOwnData rows server) own
own_reads seen server self rs answers own rows strokes kept reads judged behind bears =
    All-weaker (Contains own) (TellsOwnData rows server) (λ e there. own_data seen server self rs answers own rows strokes kept reads judged behind bears e there) own (All-contains_itself own)
