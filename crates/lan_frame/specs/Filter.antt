-- The filter of a LAN unit (LoPAR, "Logical LAN"): which frames it accepts, by their destination.
use Rattle.std.specs.Prelude.{◌≡◌, ◌⊎◌, Bool, List, IsTrue}
use Rattle.std.specs.List.{Contains}
use Rattle.vio_num.specs.declared.names.Mac.{Mac}
use Rattle.lan_frame.specs.Station.{IsGroup, IsBroadcast}

-- a group's frame is accepted with reception on and, with filtering on, if the list has the group
pub record AcceptsGroup (reception filtering : Bool) (filters : List Mac) (to : Mac) : Type 0 where
  pub group : IsGroup to
  pub received : IsTrue reception
  pub listed : IsTrue filtering → Contains filters to

-- a frame is accepted to the unit's own address, to every station, or to a group that passes
abbrev pub Accepts : Mac → (reception filtering : Bool) → List Mac → Mac → Type 0
Accepts own reception filtering filters to =
    (to ≡ own) ⊎ (IsBroadcast to ⊎ AcceptsGroup reception filtering filters to)
