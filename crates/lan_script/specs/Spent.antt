-- Posts of a port that were all taken at some time, and what a port keeps whatever is done.
use Rattle.std.specs.Prelude.{◌≡◌, ℕ, ◌≤◌, List, [], Option, Some, None, length, map, ⊤}
use Rattle.std.specs.List.{Contains}
use Rattle.vio_num.specs.Words.{Begins}
use Rattle.vio_num.specs.declared.names.UnitId.{UnitId}
use Rattle.lan_buffers.specs.Pools.{post_len, waiting}
use Rattle.lan_buffers.specs.Port.{PortValue, rows_of}
use Rattle.lan_buffers.specs.declared.rows.DeliverRow.{DeliverRow as Delivery}
use Rattle.lan_buffers.specs.declared.rows.PostRow.{PostRow as Post}
use Rattle.lan_switch.specs.Switch.{port_of}
use Rattle.vio_trace.specs.declared.lan_rows.DeliverRow.{DeliverRow}
use Rattle.lan_script.specs.Rows.{post_rows}
use Rattle.lan_script.specs.Units.{LanValue}

-- Once the posts of session q were of these lengths, and no post of at least `least` bytes waited for a frame.
pub record WasSpent (port : PortValue) (q : ℕ) (lengths : List ℕ) (least : ℕ) : Type 0 where
  pub posts : List Post
  pub deliveries : List Delivery
  pub posted : Begins posts port.posts
  pub delivered : Begins deliveries port.deliveries
  pub begun : 1 ≤ q
  pub within : q ≤ length port.drop_counts
  pub lengths_are : lengths ≡ map post_len (rows_of q posts deliveries []).posts
  pub none : (size : ℕ) → least ≤ size → waiting size (rows_of q posts deliveries []).posts (rows_of q posts deliveries []).deliveries ≡ []

-- A delivery names the post of this number of session q of the unit.
pub record IsNamed (rows : List DeliverRow) (unit : UnitId) (q number : ℕ) : Type 0 where
  pub row : DeliverRow
  pub kept : Contains rows row
  pub unit_is : row.unit ≡ unit
  pub session_is : row.session ≡ q
  pub post_is : row.post ≡ number

-- A port loses no session, no post and no delivery, and its rows of posts stay where they are.
pub record PortGrows (before after : PortValue) : Type 0 where
  pub sessions : length before.drop_counts ≤ length after.drop_counts
  pub posted : Begins before.posts after.posts
  pub delivered : Begins before.deliveries after.deliveries
  pub rows : (unit : UnitId) → Begins (post_rows unit before) (post_rows unit after)

abbrev pub Grows : (before after : Option PortValue) → Type 0
Grows (Some before) (Some after) = PortGrows before after
Grows (Some before) None = ⊥
Grows None (Some after) = ⊥
Grows None None = ⊤

-- the same of the port of each unit
abbrev pub AllGrow : (old new : LanValue) → Type 0
AllGrow old new = (unit : UnitId) → Grows (port_of old.stations unit) (port_of new.stations unit)
