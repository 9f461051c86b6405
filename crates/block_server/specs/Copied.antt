-- The copies that an answer tells of, whether it is a refusal, and what a call adds to the copies that were made.
use Rattle.std.specs.Prelude.{◌≡◌, ℕ, ◌++◌, ⊤, Bool, filter, List, [], ◌∷◌}
use Rattle.vio_num.specs.declared.names.UnitId.{UnitId}
use Rattle.page_slots.specs.declared.stroke.StrokeName.{StrokeName}
use Rattle.tce_window.specs.PortState.{PortState}
use Rattle.rdma_copy.specs.Copies.{Copies, OnlyCopies}
use Rattle.rdma_copy.specs.declared.copy.CopyRecord.{CopyRecord}
use Rattle.rdma_copy.specs.declared.copy.CopyAnswer.{CopyAnswer}
use Rattle.rdma_copy.specs.declared.copy.CopyAnswer.TheVariants.{Busy, Copied, Parameter, SourceParm, DestParm}
use Rattle.block_server.specs.Moves.{is_intake}

-- the copy that was made, if one was
abbrev pub copies_in : CopyAnswer → List CopyRecord
copies_in (Copied copy) = copy ∷ []
copies_in _ = []

-- A copy was made.
abbrev pub IsMade : CopyAnswer → Type 0
IsMade (Copied copy) = ⊤
IsMade _ = ⊥

-- The copy was refused for its length, or by one of the windows.
abbrev pub IsRefusal : CopyAnswer → Type 0
IsRefusal Parameter = ⊤
IsRefusal (SourceParm fault) = ⊤
IsRefusal (DestParm fault) = ⊤
IsRefusal _ = ⊥

-- A page was in use.
abbrev pub IsBusy : CopyAnswer → Type 0
IsBusy (Busy page word) = ⊤
IsBusy _ = ⊥

-- the name of the strokes of a window's own unit, under this mark
abbrev pub own_name : PortState → (mark : ℕ) → StrokeName
own_name own mark = record { who = own.place.unit; mark = mark }

-- No information unit was fetched to the unit's own window.
abbrev pub FetchesNone : UnitId → (old new : List CopyRecord) → Type 0
FetchesNone unit old new = filter (is_intake unit) new ≡ filter (is_intake unit) old

-- One copy was made, of this length and name, from one window to another.
pub record MakesOne (shared : Bool) (src dst dst' : PortState) (from to len : ℕ) (name : StrokeName) (old new : List CopyRecord) : Type 0 where
  pub copy : CopyRecord
  pub made : new ≡ old ++ copy ∷ []
  pub copied : Copies shared src dst dst' from to len name copy
  pub rest : OnlyCopies shared dst dst'
