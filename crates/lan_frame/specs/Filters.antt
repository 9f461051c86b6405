-- The filters of a LAN unit (LoPAR, "H_MULTICAST_CTRL"): at most 32 addresses, each once, in the order in which
-- they were added.
use Rattle.std.specs.Prelude.{◌≡◌, ℕ, ◌≤◌, List, Some, length}
use Rattle.std.specs.List.{Contains, AllPairs, remove, slice_get}
use Rattle.vio_num.specs.declared.names.Mac.{Mac}

-- the number of places for filters
abbrev pub filter_places : ℕ
filter_places = 32

-- what filters are at any time: they have places, and no address stands twice
pub record AreFilters (filters : List Mac) : Type 0 where
  pub few : length filters ≤ filter_places
  pub distinct : AllPairs (λ one other. ¬ (one ≡ other)) filters

-- The address is taken out of the filters, and the others stay in their order.
pub record Removes (mac : Mac) (old new : List Mac) : Type 0 where
  pub place : ℕ
  pub stood : slice_get old place ≡ Some mac
  pub stays : new ≡ remove old place

-- There is no place for the address: it is not among the filters, and they fill every place.
pub record IsFullFor (mac : Mac) (filters : List Mac) : Type 0 where
  pub absent : ¬ Contains filters mac
  pub full : length filters ≡ filter_places
