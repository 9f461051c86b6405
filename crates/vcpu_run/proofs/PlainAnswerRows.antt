-- Each answer that a plain client noted is that of a row of its server unit; and the row has no more data-in than the answer leaves of what
-- the client asked for.
use Rattle.std.proofs.Common.{◌≡◌, ◌≢◌, ◌∙◌, ◌⊎◌, inl, inr, ℕ, ◌≤◌, All, Bool, true, Contains, List, Option, Some, None, length, map, refl, sym, subst}
use Rattle.std.proofs.lemmas.List.Elements.{All-contains_itself, All-filter, All-map, All-weaker, filter_passes}
use Rattle.vio_num.specs.declared.history.Served.{Served}
use Rattle.vio_num.specs.declared.names.UnitId.{UnitId}
use Rattle.page_slots.specs.Stroke.{StrokeValue}
use Rattle.srp_iu.specs.Grammar.{Canon}
use Rattle.srp_iu.proofs.GrammarLaws.{canonical_bytes_are_one}
use Rattle.srp_iu.specs.declared.response.Rsp.{Rsp as Response}
use Rattle.srp_iu.specs.declared.unit.Iu.TheVariants as units
use Rattle.unit_region.specs.RegionLines.{IsOn}
use Rattle.vio_trace.specs.declared.rows.AnswerRow.{AnswerRow}
use Rattle.block_server.specs.Causes.{Told}
use Rattle.block_server.specs.Makers.{same_unit}
use Rattle.block_server.specs.RowsOn.{row_tag}
use Rattle.block_server.specs.Written.{IsAnswerWritten}
use Rattle.vscsi_client.specs.Transferred.{transferred}
use Rattle.vscsi_client.specs.declared.row.DataIn.{DataIn}
use Rattle.vscsi_client.specs.declared.row.Row.{Row}
use Rattle.vcpu_run.specs.DataKept.{IsInwardAt, IsNoted, said_by}
use Rattle.vcpu_run.specs.Gathered.{answer_by}
use Rattle.vcpu_run.specs.PlainBorne.{rows_by}
use Rattle.vcpu_run.specs.PlainClients.{HasAnswerRow}
use Rattle.vcpu_run.specs.PlainNoted.{AreAnswers, AreAskedFor, AsksFor, AsksLong, IsAnswerOfRow, IsLaidAnswer, IsNoResponse}
use Rattle.vcpu_run.proofs.LinesShown.{all_has}
use Rattle.vcpu_run.proofs.PlainBorne.{IsOnlyOne}
use Rattle.vcpu_run.proofs.PlainLengths.{row_few, says_one}
use Rattle.vcpu_run.proofs.PlainTags.{same_one}

-- ---- the row of an answer

-- One of these rows has the tag of an answer, and both its answer and this one are the canonical bytes of one response.
pub record HasItsRow (rows : List Served) (noted : AnswerRow) : Type 0 where
  pub row : Served
  pub there : Contains rows row
  pub tag_is : row_tag row ≡ noted.tag
  pub response : Response
  pub row_says : Canon row.answer (units.Rsp response)
  pub answer_says : Canon noted.answer (units.Rsp response)

pub its_row : (rows : List Served) (own : UnitId) (strokes : ℕ → Option (List StrokeValue)) (noted : AnswerRow) → AreAnswers rows own strokes → IsLaidAnswer own strokes noted → HasItsRow rows noted
its_row rows own strokes noted answers is = on (strokes is.laid.page) refl is.laid.there
  where
    by : IsAnswerOfRow rows is.laid.stroke ⊎ IsNoResponse is.laid.stroke → HasItsRow rows noted
    by (inl one) = record {
      row = one.row;
      there = one.there;
      tag_is = one.tag_is ∙ (is.laid.mark_is ∙ is.tag_is);
      response = is.response;
      row_says = subst (λ (bytes : List ℕ). Canon bytes (units.Rsp is.response)) (sym one.answer_is) is.laid.canonical;
      answer_says = is.canonical;
    }
    by (inr unlike) = absurd (unlike is.laid.begins is.response is.laid.canonical)

    on : (o : Option (List StrokeValue)) → strokes is.laid.page ≡ o → IsOn is.laid.stroke o → HasItsRow rows noted
    on None found there = absurd there
    on (Some list) found there =
        by (all_has (λ (stroke : StrokeValue). stroke.name.who ≢ own → IsAnswerOfRow rows stroke ⊎ IsNoResponse stroke) list is.laid.stroke
        (answers is.laid.page is.laid.within list found) there is.laid.other)

-- ---- how long its data are

-- What is known of a plain client's answers, of the rows of its server unit and of the client's own.
pub record KnowsAnswers (unit own : UnitId) (rows : List Served) (rs : List Row) (answers : List AnswerRow) (strokes : ℕ → Option (List StrokeValue)) : Type 0 where
  pub answered : AreAnswers (rows_by unit rows) own strokes
  pub sized : AreAskedFor (rows_by unit rows) rs
  pub noted : All (IsLaidAnswer own strokes) answers
  pub told : Told → Bool
  pub size : ℕ
  pub written : All (IsAnswerWritten size told) rows

-- The row of a tag has no more data-in than an answer of the tag leaves of what the client's command asked for.
pub no_more : (unit own : UnitId) (rows : List Served) (rs : List Row) (answers : List AnswerRow) (strokes : ℕ → Option (List StrokeValue)) → KnowsAnswers unit own rows rs answers strokes
    → (tag at len : ℕ) (said : DataIn) → IsInwardAt rs tag at len → IsNoted answers tag said → (row : Served) → Contains (rows_by unit rows) row → IsOnlyOne (rows_by unit rows) tag row → row_tag row ≡ tag
    → length row.inn ≤ transferred len said
no_more unit own rows rs answers strokes knows tag at len said inward noted row there alone tag_is =
    let laid : IsLaidAnswer own strokes noted.row = all_has (IsLaidAnswer own strokes) answers noted.row knows.noted noted.there in
    let has : HasItsRow (rows_by unit rows) noted.row = its_row (rows_by unit rows) own strokes noted.row knows.answered laid in
    let same : has.row ≡ row = alone has.row has.there (has.tag_is ∙ noted.tag_is) in
    let written : IsAnswerWritten knows.size knows.told row =
    all_has (IsAnswerWritten knows.size knows.told) (rows_by unit rows) row (All-filter (λ (row : Served). same_unit row.unit unit) (IsAnswerWritten knows.size knows.told) rows knows.written) there in
    let asks : AsksLong row.iu len = all_has (AsksFor rs) (rows_by unit rows) row knows.sized there at len (subst (λ t. IsInwardAt rs t at len) (sym tag_is) inward) in
    let few : length row.inn ≤ transferred len (said_by has.response) =
    row_few knows.size knows.told row has.response len written (subst (λ (r : Served). Canon r.answer (units.Rsp has.response)) same has.row_says) asks in
    subst (λ (d : DataIn). length row.inn ≤ transferred len d) (says_one noted.row.answer has.response noted.response has.answer_says noted.canonical ∙ sym noted.says) few

-- ---- the answers of a client

pub answer_row : (unit own : UnitId) (rows : List Served) (strokes : ℕ → Option (List StrokeValue)) (noted : AnswerRow) → AreAnswers (rows_by unit rows) own strokes → IsLaidAnswer own strokes noted
    → HasAnswerRow rows unit noted
answer_row unit own rows strokes noted answers is =
    let has : HasItsRow (rows_by unit rows) noted = its_row (rows_by unit rows) own strokes noted answers is in
    let of : same_unit has.row.unit unit ≡ true =
    all_has (λ (row : Served). same_unit row.unit unit ≡ true) (rows_by unit rows) has.row (filter_passes (λ (row : Served). same_unit row.unit unit) rows) has.there in
    record {
      row = has.row;
      there = all_has (Contains rows) (rows_by unit rows) has.row (All-filter (λ (row : Served). same_unit row.unit unit) (Contains rows) rows (All-contains_itself rows)) has.there;
      of_unit = same_one has.row.unit unit of;
      tag_is = has.tag_is;
      response = has.response;
      row_says = has.row_says;
      answer_says = has.answer_says;
      answer_is = λ one two. canonical_bytes_are_one has.row.answer noted.answer (units.Rsp has.response) one two has.row_says has.answer_says;
    }

named_row : (unit client : UnitId) (rows : List Served) (noted : AnswerRow) → HasAnswerRow rows unit noted → HasAnswerRow rows unit (answer_by client noted)
named_row unit client rows noted is = record {
  row = is.row;
  there = is.there;
  of_unit = is.of_unit;
  tag_is = is.tag_is;
  response = is.response;
  row_says = is.row_says;
  answer_says = is.answer_says;
  answer_is = is.answer_is;
}

-- So is each, also as the trace names it.
pub answer_rows : (unit own client : UnitId) (rows : List Served) (strokes : ℕ → Option (List StrokeValue)) (answers : List AnswerRow) → AreAnswers (rows_by unit rows) own strokes
    → All (IsLaidAnswer own strokes) answers → All (HasAnswerRow rows unit) (map (answer_by client) answers)
answer_rows unit own client rows strokes answers are noted =
    All-map (HasAnswerRow rows unit) (answer_by client) answers
    (All-weaker (IsLaidAnswer own strokes) (λ (row : AnswerRow). HasAnswerRow rows unit (answer_by client row))
    (λ row is. named_row unit client rows row (answer_row unit own rows strokes row are is)) answers noted)
