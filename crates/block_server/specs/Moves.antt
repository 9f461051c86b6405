-- The copies of a server unit that fetch information units, and what a call leaves of the unit's intake.
use Rattle.std.specs.Prelude.{◌≡◌, ◌==◌, ◌&&◌, ℕ, Bool, true, false, not, List, [], ◌∷◌, ◌++◌, filter, length}
use Rattle.vio_num.specs.declared.names.UnitId.{UnitId}
use Rattle.crq_ring.specs.declared.rows.PipeRow.{PipeRow}
use Rattle.tce_window.specs.declared.piece.Piece.{Piece}
use Rattle.tce_window.specs.Moved.{IsReadFrom, IsWrittenTo}
use Rattle.tce_window.specs.PortState.{PortState}
use Rattle.rdma_copy.specs.declared.copy.CopyRecord.{CopyRecord}
use Rattle.block_server.specs.Makers.{same_unit}
use Rattle.block_server.specs.SiteState.{SiteState}

-- whether a unit made the copy
abbrev pub is_by : UnitId → CopyRecord → Bool
is_by unit copy = same_unit copy.name.who unit

-- whether pieces begin on this page of the unit's own window
abbrev pub begin_on : UnitId → (page : ℕ) → List Piece → Bool
begin_on unit page [] = false
begin_on unit page (piece ∷ pieces) = same_unit piece.unit unit && (piece.page == page)

-- whether a copy moved an information unit to the unit's region: by the unit, to page 0 of its own window
abbrev pub is_intake : UnitId → CopyRecord → Bool
is_intake unit copy = is_by unit copy && begin_on unit 0 copy.to.items

-- whether a copy moved a table or data: by the unit, neither to page 0 of its own window, as requests are, nor from there, as
-- answers are
abbrev pub is_data : UnitId → CopyRecord → Bool
is_data unit copy = is_by unit copy && (not (begin_on unit 0 copy.to.items) && not (begin_on unit 0 copy.from.items))

-- the copies of a unit's tables and data, in the order of time
abbrev pub data_copies : UnitId → List CopyRecord → List CopyRecord
data_copies unit copies = filter (is_data unit) copies

-- how many there are
abbrev pub data_count : UnitId → List CopyRecord → ℕ
data_count unit copies = length (data_copies unit copies)

-- The copy moved `len` bytes, these, from this address of the client's window to that one of the unit's own, under mark 0.
pub record Fetches (own client : PortState) (address at len : ℕ) (bytes : List ℕ) (copy : CopyRecord) : Type 0 where
  pub name_is : copy.name ≡ record { who = own.place.unit; mark = 0 }
  pub len_is : copy.len ≡ len
  pub read : IsReadFrom client.place.unit client.values client.strokes address copy.from.items bytes
  pub written : IsWrittenTo own.place.unit own.values own.strokes at copy.name copy.to.items bytes

-- One copy was made, and it fetched an information unit: these bytes, from this address, to page 0.
pub record FetchesOne (old new : SiteState) (address : ℕ) (bytes : List ℕ) : Type 0 where
  pub copy : CopyRecord
  pub made : new.copies ≡ old.copies ++ copy ∷ []
  pub is_unit : is_intake new.own.place.unit copy ≡ true
  pub fetched : Fetches new.own new.client address 0 (length bytes) bytes copy

-- How far a unit's intake has come: its queue's session, what was taken, and the copies that fetched information units.
pub record TakenSoFar : Type 0 where
  pub session : ℕ
  pub taken : List PipeRow
  pub copies : List CopyRecord

unfoldable pub taken_so_far : SiteState → TakenSoFar
taken_so_far site = record {
  session = site.queue.last_session;
  taken = site.queue.taken;
  copies = filter (is_intake site.own.place.unit) site.copies;
}

-- Nothing was taken from the queue, no information unit was fetched, and the session is as before.
abbrev pub Passes : (old new : SiteState) → Type 0
Passes old new = taken_so_far new ≡ taken_so_far old
