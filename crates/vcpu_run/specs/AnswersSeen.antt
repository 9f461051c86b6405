-- Where a client's answers were read: each is a response that stood in a slot of its region (SRP, "SRP_RSP response").
use Rattle.std.specs.Prelude.{◌≡◌, ℕ, ◌+◌, ◌<◌, true, All, List, Option, length, slice_index}
use Rattle.page_slots.specs.Stroke.{StrokeValue}
use Rattle.tce_window.specs.Region.{region_byte, touches}
use Rattle.srp_iu.specs.Grammar.{Canon, Spells}
use Rattle.srp_iu.specs.declared.response.Rsp.{Rsp as Response}
use Rattle.srp_iu.specs.declared.unit.Iu.TheVariants as units
use Rattle.vio_trace.specs.declared.rows.AnswerRow.{AnswerRow}
pub use Rattle.unit_region.specs.RegionLines.{IsFront}
use Rattle.vscsi_client.specs.Units.{slot_address}
use Rattle.vscsi_client.specs.declared.TheConstants.{SLOTS}

-- which lists of strokes are a front of each page's, by what lies on the pages of a window
abbrev pub fronts_of : (ℕ → Option (List StrokeValue)) → (page : ℕ) → Option (List StrokeValue) → Type 0
fronts_of strokes page front = IsFront front (strokes page)

-- The response that an answer spells was read in one of the 200 slots with which the region begins: its bytes are what the pages gave, each
-- with a front of its strokes.
pub record IsResponseRead (front_at : (page : ℕ) → Option (List StrokeValue) → Type 0) (row : AnswerRow) : Type 0 where
  pub response : Response
  pub canonical : Canon row.answer (units.Rsp response)
  pub tag_is : response.tag ≡ row.tag
  pub slot : ℕ
  pub within : slot < SLOTS
  pub bytes : List ℕ
  pub spells : Spells bytes (units.Rsp response)
  pub fronts : ℕ → Option (List StrokeValue)
  pub there : (page : ℕ) → touches (slot_address slot) (length bytes) page ≡ true → front_at page (fronts page)
  pub read : (k : ℕ) → k < length bytes → slice_index bytes k ≡ region_byte fronts (slot_address slot + k)

-- the same of all answers of a client
abbrev pub AreResponsesRead : ((page : ℕ) → Option (List StrokeValue) → Type 0) → List AnswerRow → Type 0
AreResponsesRead front_at answers = All (IsResponseRead front_at) answers
