-- The one copy that a call of a unit's site made, and the bytes that it moved.
use Rattle.std.specs.Prelude.{◌≡◌, ℕ, ◌++◌, true, List, [], ◌∷◌, length}
use Rattle.tce_window.specs.Moved.{IsReadFrom, IsWrittenTo}
use Rattle.tce_window.specs.PortState.{PortState}
use Rattle.rdma_copy.specs.declared.copy.CopyRecord.{CopyRecord}
use Rattle.block_server.specs.Moves.{Fetches, is_data}
use Rattle.block_server.specs.SiteState.{SiteState}

-- The copy moved `len` bytes, these, from this address of the unit's own window to that one of the client's, under this mark.
pub record Delivers (own client : PortState) (at address len mark : ℕ) (bytes : List ℕ) (copy : CopyRecord) : Type 0 where
  pub name_is : copy.name ≡ record { who = own.place.unit; mark = mark }
  pub len_is : copy.len ≡ len
  pub read : IsReadFrom own.place.unit own.values own.strokes at copy.from.items bytes
  pub written : IsWrittenTo client.place.unit client.values client.strokes address copy.name copy.to.items bytes

-- One copy was made, of a table or of data, which fetched these bytes from this address to that one of the own window.
pub record FetchesTo (old new : SiteState) (address at : ℕ) (bytes : List ℕ) : Type 0 where
  pub copy : CopyRecord
  pub made : new.copies ≡ old.copies ++ copy ∷ []
  pub fetched : Fetches new.own new.client address at (length bytes) bytes copy
  pub kind : is_data new.own.place.unit copy ≡ true

-- One copy was made, which delivered these bytes from this address of the own window to that one of the client's.
pub record DeliversOne (old new : SiteState) (at address mark : ℕ) (bytes : List ℕ) : Type 0 where
  pub copy : CopyRecord
  pub made : new.copies ≡ old.copies ++ copy ∷ []
  pub delivered : Delivers new.own new.client at address (length bytes) mark bytes copy
