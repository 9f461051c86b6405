-- Laws of the filter of a LAN unit.
use Rattle.std.proofs.Common.{◌≡◌, List, Bool, inl, inr, ap, ◌%◌, slice_index}
use Rattle.vio_num.specs.declared.names.Mac.{Mac}
use Rattle.lan_frame.specs.Station.{IsGroup, IsBroadcast}
use Rattle.lan_frame.specs.Filter.{Accepts}

-- the address of every station is that of a group
pub broadcast_is_group : (mac : Mac) → IsBroadcast mac → IsGroup mac
broadcast_is_group mac all = ap (λ bytes. slice_index bytes 0 % 2) all

-- a frame to one station is accepted by that station alone
pub unicast_is_for_its_own : (own : Mac) (reception filtering : Bool) (filters : List Mac) (to : Mac) → ¬ IsGroup to → Accepts own reception filtering filters to → to ≡ own
unicast_is_for_its_own own reception filtering filters to single (inl mine) = mine
unicast_is_for_its_own own reception filtering filters to single (inr (inl all)) = absurd (single (broadcast_is_group to all))
unicast_is_for_its_own own reception filtering filters to single (inr (inr group)) = absurd (single group.group)
