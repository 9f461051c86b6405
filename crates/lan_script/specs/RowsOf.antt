-- The rows that a trace has of LAN units, exactly.
use Rattle.std.specs.Prelude.{◌≡◌, ◌==◌, ◌≤◌, ℕ, List, Some, filter, length, map, slice_get}
use Rattle.std.specs.List.{flat_map}
use Rattle.vio_num.specs.declared.names.UnitId.{UnitId}
use Rattle.lan_buffers.specs.Port.{PortValue}
use Rattle.lan_switch.specs.Switch.{port_of, same_unit}
use Rattle.lan_script.specs.declared.rows.LanRows.{LanRows}
use Rattle.lan_script.specs.Buffers.{posted_at}
use Rattle.lan_script.specs.Invariant.{posted_in, sent_by}
use Rattle.lan_script.specs.PortCounts.{counts_at, is_frame}
use Rattle.lan_script.specs.Replayed.{sessions_by}
use Rattle.lan_script.specs.Resting.{IsAllTaken}
use Rattle.lan_script.specs.Rows.{deliver_rows, harvest_rows, port_in, port_rows, post_rows}
use Rattle.lan_script.specs.Spent.{IsNamed, WasSpent}
use Rattle.lan_script.specs.Units.{IsOpenAt, LanValue}

-- The rows are all that the units keep: their frames, and of their ports the sessions, posts, deliveries and harvests, in the
-- order of the seats.
pub record IsRowsOf (lan : LanValue) (rows : LanRows) : Type 0 where
  pub frames : rows.frames.items ≡ flat_map (λ own. own) lan.frames
  pub ports : rows.ports.items ≡ flat_map (λ seat. port_rows seat.unit (port_in lan.stations seat)) lan.seats
  pub posts : rows.posts.items ≡ flat_map (λ seat. post_rows seat.unit (port_in lan.stations seat)) lan.seats
  pub delivers : rows.delivers.items ≡ flat_map (λ seat. deliver_rows seat.unit (port_in lan.stations seat)) lan.seats
  pub harvests : rows.harvests.items ≡ flat_map (λ seat. harvest_rows seat.unit (port_in lan.stations seat)) lan.seats

-- Of each unit the rows have its frames, its posts, as many as it made, with the buffers that it posted in order, of its harvests as many of frames as it took, and one of each
-- session. Where nothing is left to take of a port that is open, its last session has as many harvests as deliveries. Posts
-- that were all taken once are named by its deliveries.
pub record CountsRows (lan : LanValue) (rows : LanRows) : Type 0 where
  pub frames : (unit : UnitId) → filter (λ row. same_unit row.unit unit) rows.frames.items ≡ sent_by lan.seats lan.frames unit
  pub posts : (unit : UnitId) → length (filter (λ row. same_unit row.unit unit) rows.posts.items) ≡ (counts_at lan unit).posts
  pub buffers : (unit : UnitId) → map (λ row. row.descriptor) (filter (λ row. same_unit row.unit unit) rows.posts.items) ≡ posted_at lan unit
  pub posted : (unit : UnitId) → filter (λ row. same_unit row.unit unit) rows.posts.items ≡ posted_in unit (port_of lan.stations unit)
  pub taken : (unit : UnitId) → length (filter (λ row. is_frame row.high) (filter (λ row. same_unit row.unit unit) rows.harvests.items))
      ≡ (counts_at lan unit).taken
  pub sessions : (unit : UnitId) → length (filter (λ row. same_unit row.unit unit) rows.ports.items) ≡ sessions_by (port_of lan.stations unit)
  pub last : (unit : UnitId) → IsOpenAt lan unit → IsAllTaken lan unit
      → length (filter (λ row. row.session == sessions_by (port_of lan.stations unit)) (filter (λ row. same_unit row.unit unit) rows.harvests.items))
      ≡ length (filter (λ row. row.session == sessions_by (port_of lan.stations unit)) (filter (λ row. same_unit row.unit unit) rows.delivers.items))
  pub named : (unit : UnitId) (port : PortValue) → port_of lan.stations unit ≡ Some port → (q : ℕ) (lengths : List ℕ) (least : ℕ) → WasSpent port q lengths least
      → (k len : ℕ) → slice_get lengths k ≡ Some len → least ≤ len → IsNamed (filter (λ row. same_unit row.unit unit) rows.delivers.items) unit q k
