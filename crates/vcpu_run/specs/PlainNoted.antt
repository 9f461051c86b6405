-- What a plain client noted of its answers: each is what its server unit laid in one of the driver's pages, as the answer of a row; and how many
-- data-in the commands of rows ask for.
use Rattle.std.specs.Prelude.{◌≡◌, ◌≢◌, ◌⊎◌, ℕ, ◌*◌, ◌%◌, ◌<◌, ◌++◌, All, List, Option, Some}
use Rattle.std.specs.List.{Contains}
use Rattle.vio_num.specs.declared.entry.Entry.{Entry}
use Rattle.vio_num.specs.declared.history.Served.{Served}
use Rattle.vio_num.specs.declared.names.UnitId.{UnitId}
use Rattle.page_slots.specs.Stroke.{StrokeValue}
use Rattle.srp_iu.specs.Grammar.{Canon, Spells}
use Rattle.srp_iu.specs.declared.command.Cmd.{Cmd}
use Rattle.srp_iu.specs.declared.response.Rsp.{Rsp as Response}
use Rattle.srp_iu.specs.declared.unit.Iu.TheVariants as units
use Rattle.srp_desc.specs.Pieces.{total_of}
use Rattle.tce_window.specs.PortState.{PortState}
use Rattle.block_server.specs.RowsOn.{row_tag}
use Rattle.vio_trace.specs.declared.rows.AnswerRow.{AnswerRow}
use Rattle.vscsi_client.specs.Slots.{Holds}
use Rattle.vscsi_client.specs.State.{ClientState}
use Rattle.vscsi_client.specs.declared.TheConstants.{DATA_START}
use Rattle.vscsi_client.specs.declared.outgoing.Outgoing.{Outgoing}
use Rattle.vscsi_client.specs.declared.row.Row.{Row}
use Rattle.unit_region.specs.RegionLines.{IsOn}
use Rattle.vcpu_run.specs.DataKept.{IsInwardAt}

-- WHAT WAS LAID -----------------------------------------------------------------------------------

-- Another unit than the region's own laid a response where a slot begins, on a page of the driver's, under its tag: these are its bytes.
pub record HasResponse (own : UnitId) (response : Response) (strokes : ℕ → Option (List StrokeValue)) : Type 0 where
  pub page : ℕ
  pub within : 4096 * page < DATA_START
  pub stroke : StrokeValue
  pub there : IsOn stroke (strokes page)
  pub other : stroke.name.who ≢ own
  pub begins : stroke.offset % 256 ≡ 0
  pub mark_is : stroke.name.mark ≡ response.tag
  pub canonical : Canon stroke.bytes (units.Rsp response)

-- What lies in the slot of a request that is outstanding, as a response of the tag of one of these entries, was laid so.
abbrev pub AreLaid : ClientState → PortState → List Entry → Type 0
AreLaid s window entries = (entry : Entry) → Contains entries entry → (asked : Outgoing) → Contains s.outgoing asked → asked.tag ≡ entry.low
    → (response : Response) → response.tag ≡ entry.low → Holds window asked.slot (units.Rsp response) → HasResponse window.place.unit response window.strokes

-- An answer that was noted was laid so.
pub record IsLaidAnswer (own : UnitId) (strokes : ℕ → Option (List StrokeValue)) (noted : AnswerRow) : Type 0 where
  pub response : Response
  pub tag_is : response.tag ≡ noted.tag
  pub canonical : Canon noted.answer (units.Rsp response)
  pub laid : HasResponse own response strokes

-- Answers were noted behind those of before, each of which was.
pub record NotesLaid (own : UnitId) (strokes : ℕ → Option (List StrokeValue)) (old new : List AnswerRow) : Type 0 where
  pub rows : List AnswerRow
  pub more : new ≡ old ++ rows
  pub laid : All (IsLaidAnswer own strokes) rows

-- OF WHICH ROW IT IS ------------------------------------------------------------------------------

-- A stroke is the answer of one of these rows, and its mark the row's tag.
pub record IsAnswerOfRow (rows : List Served) (stroke : StrokeValue) : Type 0 where
  pub row : Served
  pub there : Contains rows row
  pub tag_is : row_tag row ≡ stroke.name.mark
  pub answer_is : row.answer ≡ stroke.bytes

-- A stroke that begins where a slot does is no response.
abbrev pub IsNoResponse : StrokeValue → Type 0
IsNoResponse stroke = stroke.offset % 256 ≡ 0 → (response : Response) → ¬ Canon stroke.bytes (units.Rsp response)

-- Each stroke of another unit on a page of the driver's is such an answer, or no response.
abbrev pub AreAnswers : (rows : List Served) → (own : UnitId) → (strokes : ℕ → Option (List StrokeValue)) → Type 0
AreAnswers rows own strokes = (page : ℕ) → 4096 * page < DATA_START → (list : List StrokeValue) → strokes page ≡ Some list
    → All (λ stroke. stroke.name.who ≢ own → IsAnswerOfRow rows stroke ⊎ IsNoResponse stroke) list

-- WHAT IT ASKED FOR -------------------------------------------------------------------------------

-- An information unit is a command whose buffer takes so many data-in.
pub record AsksLong (iu : List ℕ) (len : ℕ) : Type 0 where
  pub command : Cmd
  pub spells : Spells iu (units.Cmd command)
  pub long : total_of command.inn ≡ len

-- That of a row is, if the client's command of its tag has so many data-in.
abbrev pub AsksFor : List Row → Served → Type 0
AsksFor rs row = (at len : ℕ) → IsInwardAt rs (row_tag row) at len → AsksLong row.iu len

abbrev pub AreAskedFor : (rows : List Served) → List Row → Type 0
AreAskedFor rows rs = All (AsksFor rs) rows
