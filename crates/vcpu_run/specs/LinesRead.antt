-- What a client's lines read: the answers to its logins, and the data of its commands, in what the pages of its region had as they ended.
use Rattle.std.specs.Prelude.{◌≡◌, ℕ, ◌<◌, IfSome, IsSomeAnd, List, Option, Some, ⊤}
use Rattle.std.specs.List.{slice_get}
use Rattle.vio_num.specs.declared.names.UnitId.{UnitId}
use Rattle.boot_text.specs.declared.plan.Line.{Line}
use Rattle.boot_text.specs.declared.verb.Verb.{Verb}
use Rattle.boot_text.specs.declared.verb.Verb.TheVariants as verbs
use Rattle.page_slots.specs.Stroke.{StrokeValue}
use Rattle.srp_iu.specs.Grammar.{Canon}
use Rattle.srp_iu.specs.declared.response.Rsp.{Rsp as Response}
use Rattle.srp_iu.specs.declared.unit.Iu.TheVariants as units
use Rattle.tce_window.specs.Window.{strokes_at}
use Rattle.unit_region.specs.RegionLines.{RegionSeen, region_seen}
use Rattle.vio_trace.specs.declared.outcome.Outcome.{Outcome}
use Rattle.vio_trace.specs.declared.outcome.Outcome.TheVariants as outcomes
use Rattle.vio_trace.specs.declared.rows.AnswerRow.{AnswerRow}
use Rattle.vio_trace.specs.declared.rows.LogRow.{LogRow}
use Rattle.vscsi_client.specs.Transferred.{DataRange, transferred}
use Rattle.vscsi_client.specs.declared.row.Row.{Row}
use Rattle.vcpu_run.specs.declared.driver.Driver.{Driver}
use Rattle.vcpu_run.specs.declared.pair.Pair.{Pair}
use Rattle.vcpu_run.specs.declared.unit_seat.Seat.{Seat}
use Rattle.vcpu_run.specs.declared.unit_seat.Seat.TheVariants as sits
use Rattle.vcpu_run.specs.AnswersSeen.{IsResponseRead, fronts_of}
use Rattle.vcpu_run.specs.CopiesCounted.{CopiesCounted, Naming}
use Rattle.vcpu_run.specs.DataKept.{IsInwardAt, IsKeptAt, range_in, said_by}
use Rattle.vcpu_run.specs.DataNoted.{HasNoted}
use Rattle.vcpu_run.specs.DataRead.{IsDataTold}
use Rattle.vcpu_run.specs.LinesShow.{IsAnswerRead, Seen}
use Rattle.vcpu_run.specs.Moments.{LinesTold}

-- a region alone, as what there is of a unit
abbrev pub seen_of : RegionSeen → Seen
seen_of region = record { stroke_at = region.stroke_at; front_at = region.front_at; value_at = λ entry value. ⊤; entry_put = λ entry. ⊤ }

-- Where the data-in of the commands under each tag were to lie.
abbrev pub AskedOf : Type 1
AskedOf = (tag : ℕ) → DataRange → Type 0

-- a range, cut to what a response says was transferred
abbrev pub cut_by : Response → DataRange → DataRange
cut_by response whole = record { at = whole.at; len = transferred whole.len (said_by response) }

-- A response of this tag was read by then, as fronts of these strokes; and where a command was sent under the tag, the range is where its
-- data were to lie, cut to what this response says was transferred.
pub record IsAnsweredIn (strokes : ℕ → Option (List StrokeValue)) (asked : AskedOf) (tag : ℕ) (range : DataRange) : Type 0 where
  pub row : AnswerRow
  pub tag_is : row.tag ≡ tag
  pub response : Response
  pub canonical : Canon row.answer (units.Rsp response)
  pub read : IsResponseRead (fronts_of strokes) row
  pub range_is : (whole : DataRange) → asked tag whole → range ≡ cut_by response whole

-- What is said of the data of a tag is so of their range, by the strokes of the server unit under this tag, which was answered by then.
pub record IsDataIn (server : UnitId) (strokes : ℕ → Option (List StrokeValue)) (asked : AskedOf) (tag : ℕ) (outcome : Outcome) : Type 0 where
  pub range : DataRange
  pub told : IsDataTold (seen_of (region_seen strokes)) (record { who = server; mark = tag }) range outcome
  pub answered : IsAnsweredIn strokes asked tag range

abbrev pub IsDataInIf : (server : UnitId) → (ℕ → Option (List StrokeValue)) → AskedOf → (tag : ℕ) → Outcome → Type 0
IsDataInIf server strokes asked tag (outcomes.Data len total) = IsDataIn server strokes asked tag (outcomes.Data len total)
IsDataInIf server strokes asked tag (outcomes.Stale page) = IsDataIn server strokes asked tag (outcomes.Stale page)
IsDataInIf server strokes asked tag _ = ⊤

-- what a line that logs in, or gives the data of a tag, says that it read was read in the region
abbrev pub IsLineRead : (server : UnitId) → (ℕ → Option (List StrokeValue)) → AskedOf → Verb → Outcome → Type 0
IsLineRead server strokes asked verbs.Login outcome = IsAnswerRead (region_seen strokes) outcome
IsLineRead server strokes asked verbs.Reset outcome = IsAnswerRead (region_seen strokes) outcome
IsLineRead server strokes asked (verbs.Data tag) outcome = IsDataInIf server strokes asked tag outcome
IsLineRead server strokes asked verb outcome = ⊤

-- A line of the unit that ended before sent a command under the tag, whose data were to lie in this range.
pub record IsAskedBefore (unit : ℕ) (lines : List Line) (rows : List LogRow) (i tag : ℕ) (whole : DataRange) : Type 0 where
  pub place : ℕ
  pub earlier : place < i
  pub line : Line
  pub row : LogRow
  pub there : slice_get lines place ≡ Some line
  pub ended : slice_get rows place ≡ Some row
  pub own : line.unit ≡ unit
  pub sent : row.outcome ≡ outcomes.Sent tag
  pub reads : range_in line.verb ≡ Some whole

-- the same of each line of a unit that has a record, in what the pages had as the line ended
abbrev pub LinesRead : (server : UnitId) → (had : (place page : ℕ) → Option (List StrokeValue)) → (unit : ℕ) → List Line → List LogRow → Type 0
LinesRead server had unit lines rows = (i : ℕ) (line : Line) (row : LogRow) → slice_get lines i ≡ Some line → slice_get rows i ≡ Some row
    → line.unit ≡ unit → IsLineRead server (had i) (IsAskedBefore unit lines rows i) line.verb row.outcome

-- The lines of a client say what was so of its region as each ended, and what they read was in what it had then; and so many of the copies were
-- made by then.
pub record ClientLines (server : UnitId) (strokes : ℕ → Option (List StrokeValue)) (pages : ℕ) (who : UnitId) (lines : List Line) (rows : List LogRow) (most : ℕ) (named : Naming) : Type 0 where
  pub told : LinesTold strokes pages who lines rows
  pub reads : LinesRead server told.had who.unit lines rows
  pub counted : CopiesCounted who told.had rows most named

-- while a run goes on: where the data lie of the commands that a client sent, and that it keeps those of its lines that have a record
abbrev pub asked_by : Option Driver → AskedOf
asked_by driver tag whole = IsSomeAnd driver (λ driver. IsInwardAt driver.client.rows tag whole.at whole.len)

abbrev pub AreKept : (unit : ℕ) → List Line → List LogRow → List Row → Type 0
AreKept unit lines rows rs = (i : ℕ) (line : Line) (row : LogRow) → slice_get lines i ≡ Some line → slice_get rows i ≡ Some row → line.unit ≡ unit
    → IsKeptAt rs (range_in line.verb) row.outcome

-- What a line of a client said as it ended was read in what the pages of its pair have then, and the client keeps where the data of its command lie.
pub record PairRead (line : Line) (before after : Pair) (outcome : Outcome) : Type 0 where
  pub reads : IsLineRead before.server (strokes_at after.window.pages) (asked_by before.driver) line.verb outcome
  pub keeps : IfSome after.driver (λ driver. IsKeptAt driver.client.rows (range_in line.verb) outcome)

abbrev pub LineRead : List Seat → Line → (old new : List Pair) → Outcome → Type 0
LineRead seats line old new outcome = (k : ℕ) (before after : Pair) → slice_get seats line.unit ≡ Some (sits.Client k)
    → slice_get old k ≡ Some before → slice_get new k ≡ Some after → IsSomeAnd before.driver (HasNoted before.server) → PairRead line before after outcome
