-- Which strokes of a pair's windows the copies of its server name, and that the windows of the pairs are apart.
use Rattle.std.specs.Prelude.{◌≡◌, ◌≢◌, ◌⊎◌, ◌+◌, ℕ, All, List, [], Some}
use Rattle.std.specs.List.{slice_get}
use Rattle.vio_num.specs.declared.names.UnitId.{UnitId}
use Rattle.tce_window.specs.PlainPort.{known_of}
use Rattle.rdma_copy.specs.Copies.{side_of}
use Rattle.rdma_copy.specs.declared.copy.CopyRecord.{CopyRecord}
use Rattle.block_server.specs.Makers.{places_in, versions_of, AreNamed}
use Rattle.vcpu_run.specs.declared.pair.Pair.{Pair}

-- one of the pair's two windows is this unit's
abbrev pub HasWindow : UnitId → Pair → Type 0
HasWindow unit pair = (pair.own.unit ≡ unit) ⊎ (pair.window.unit ≡ unit)

-- no window is at two pairs
abbrev pub WindowsAreApart : List Pair → Type 0
WindowsAreApart pairs = (j k : ℕ) (a b : Pair) (unit : UnitId) → slice_get pairs j ≡ Some a → slice_get pairs k ≡ Some b
    → HasWindow unit a → HasWindow unit b → j ≡ k

-- the copy names no stroke that it wrote into this unit's window, and no entry of it
abbrev pub NamesNone : UnitId → CopyRecord → Type 0
NamesNone unit copy = ((page : ℕ) → places_in unit page copy.to.items ≡ []) × ((entry : ℕ) → versions_of unit entry copy ≡ [])

-- nor into the pair's windows, and none of theirs
abbrev pub LeavesAlone : Pair → CopyRecord → Type 0
LeavesAlone pair copy = (unit : UnitId) → HasWindow unit pair → NamesNone unit copy

-- Of both windows of a pair the copies name the strokes that other units laid, and only copies by its server unit name any.
pub record HasNames (pair : Pair) (made : List CopyRecord) : Type 0 where
  pub own : AreNamed (side_of (known_of pair.own)) made
  pub client : AreNamed (side_of (known_of pair.window)) made
  pub foreign : All (λ copy. copy.name.who ≢ pair.server → LeavesAlone pair copy) made

-- the unit in place of a client's, where no client names the server unit: no boot text has it
abbrev pub absent_unit : UnitId → UnitId
absent_unit server = record { partition = server.partition; unit = 128 + server.unit }
