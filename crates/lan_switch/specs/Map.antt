-- Windows of several units that are reached through one map of them.
use Rattle.std.specs.Prelude.{◌≡◌, ℕ, ◌∷◌, Bool, false, if◌then◌else◌}
use Rattle.std.specs.Borrow.{GName}
use Rattle.vio_num.specs.declared.names.UnitId.{UnitId}
use Rattle.tce_window.specs.PortState.{PortState, PortPlace, WindowFacts, none_beside, port_at}
use Rattle.lan_switch.specs.Switch.{same_unit}

-- what is known of the windows of all units but this one stays
abbrev pub KeepsOthers : UnitId → (old new : UnitId → WindowFacts) → Type 0
KeepsOthers unit old new = (other : UnitId) → same_unit other unit ≡ false → new other ≡ old other

-- the windows beside that of this unit
abbrev pub others_than : UnitId → (UnitId → WindowFacts) → UnitId → WindowFacts
others_than unit facts other = if same_unit other unit then none_beside other else facts other

-- the unit's window as a port sees it that borrows the map
abbrev pub lent_window : GName → (UnitId → WindowFacts) → UnitId → PortState
lent_window lender facts unit = record (port_at (facts unit)) {
  place = record {
    unit = (facts unit).unit;
    size = (facts unit).size;
    lenders = lender ∷ (facts unit).lenders;
    beside = others_than unit facts;
  };
}

-- A map of windows that knew this of the unit's window had found this page in use by its last hold there, by this word.
pub record HasFound {M : Type 0} (state : M → UnitId → WindowFacts) (Found : M → UnitId → ℕ → ℕ → Type 0) (unit : UnitId) (facts : WindowFacts) (page word : ℕ) : Type 0 where
  pub map : M
  pub known : state map unit ≡ facts
  pub found : Found map unit page word
