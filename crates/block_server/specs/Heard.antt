-- What a unit's windows told it between two states: what the client's denied, and the copies that were made.
use Rattle.std.specs.Prelude.{◌≡◌, ◌≤◌, ◌++◌, ℕ, Bool, List, ◌∷◌, Some, length, slice_get}
use Rattle.vio_num.specs.declared.names.UnitId.{UnitId}
use Rattle.tce_window.specs.PortState.{PortState}
use Rattle.rdma_copy.specs.declared.copy.CopyRecord.{CopyRecord}
use Rattle.block_server.specs.Causes.{Denies, Hearing, Includes, Told, told_to}
use Rattle.block_server.specs.Causes.News.{delivered, denied, fetched, nth_delivered, nth_fetched}
use Rattle.block_server.specs.Delivers.{Delivers}
use Rattle.block_server.specs.Moves.{Fetches, data_copies, data_count}
use Rattle.block_server.specs.SiteState.{SiteState}

-- A copy of which P holds is among those that were made between.
pub record IsMadeBetween (P : CopyRecord → Type 0) (old new : List CopyRecord) : Type 0 where
  pub front : List CopyRecord
  pub copy : CopyRecord
  pub rest : List CopyRecord
  pub made : new ≡ old ++ (front ++ copy ∷ rest)
  pub is : P copy

-- The copy of this number among those of the unit's tables and data was made between, and P holds of it.
pub record IsMadeAs (P : CopyRecord → Type 0) (unit : UnitId) (number : ℕ) (old new : List CopyRecord) : Type 0 where
  pub copy : CopyRecord
  pub since : data_count unit old ≤ number
  pub there : slice_get (data_copies unit new) number ≡ Some copy
  pub is : P copy

-- what was told while the client's window came from one state to the other and these copies were made, as the windows now are
abbrev pub heard_of : (is_shared : Bool) → (own client client' : PortState) → (copies copies' : List CopyRecord) → Hearing
heard_of is_shared own client client' copies copies' (denied right address len fault) = Denies is_shared client client' right address len fault
heard_of is_shared own client client' copies copies' (fetched address at bytes) =
    IsMadeBetween (Fetches own client' address at (length bytes) bytes) copies copies'
heard_of is_shared own client client' copies copies' (delivered at address mark bytes) =
    IsMadeBetween (Delivers own client' at address (length bytes) mark bytes) copies copies'
heard_of is_shared own client client' copies copies' (nth_fetched number address at bytes) =
    IsMadeAs (Fetches own client' address at (length bytes) bytes) own.place.unit number copies copies'
heard_of is_shared own client client' copies copies' (nth_delivered number at address mark bytes) =
    IsMadeAs (Delivers own client' at address (length bytes) mark bytes) own.place.unit number copies copies'

-- what was told between these two states
abbrev pub heard_between : (old new : SiteState) → Hearing
heard_between old new = heard_of old.shared new.own old.client new.client old.copies new.copies

-- All of it is told as told to this unit.
abbrev pub Tells : (Told → Bool) → UnitId → (is_shared : Bool) → (own client client' : PortState) → (copies copies' : List CopyRecord) → Type 0
Tells told unit is_shared own client client' copies copies' =
    Includes (heard_of is_shared own client client' copies copies') (told_to told unit)

abbrev pub TellsAll : (Told → Bool) → UnitId → (old new : SiteState) → Type 0
TellsAll told unit old new = Includes (heard_between old new) (told_to told unit)
