-- What LAN units are at any time, and what is so while the row of a frame is not kept yet.
use Rattle.std.specs.Prelude.{◌≡◌, ℕ, ◌+◌, ◌≤◌, ◌<◌, ◌^◌, ◌∷◌, ◌++◌, [], true, All, List, Option, Some, None, IfSome, length, map, if◌then◌else◌}
use Rattle.std.specs.List.{flat_map}
use Rattle.vio_num.specs.declared.names.UnitId.{UnitId}
use Rattle.lan_buffers.specs.Calls.{IsOpen}
use Rattle.lan_buffers.specs.Port.{PortValue}
use Rattle.rdma_copy.specs.Copy.{Side, side}
use Rattle.lan_switch.specs.declared.answers.SendRecord.{SendRecord}
use Rattle.lan_switch.specs.declared.station.Station.{Station}
use Rattle.lan_switch.specs.Switch.{AreAscending, port_of, same_unit}
use Rattle.vio_trace.specs.declared.lan_rows.DeliverRow.{DeliverRow}
use Rattle.vio_trace.specs.declared.lan_rows.FrameRow.{FrameRow}
use Rattle.vio_trace.specs.declared.lan_rows.PostRow.{PostRow}
use Rattle.lan_script.specs.declared.seat.PortSeat.{PortSeat}
use Rattle.lan_script.specs.declared.windows.Place.{Place}
use Rattle.lan_script.specs.Carried.{AreNamed, IsCarried, IsRead}
use Rattle.lan_script.specs.Delivered.{drops_to, given, taken}
use Rattle.lan_script.specs.Frames.{count_in, frame_row_of, with_count}
use Rattle.lan_script.specs.Rows.{deliver_rows, post_rows}
use Rattle.lan_script.specs.Seats.{IsSizedSeat}
use Rattle.lan_script.specs.Units.{HavePorts, IsLawfulFrame, LanValue, PortKey, port_key, seat_key, window_key}
use Rattle.lan_script.specs.Windows.{facts_in}

-- the rows of the deliveries of a unit's port
abbrev pub rows_in : UnitId → Option PortValue → List DeliverRow
rows_in unit None = []
rows_in unit (Some port) = deliver_rows unit port

abbrev pub rows_at : List Station → UnitId → List DeliverRow
rows_at stations unit = rows_in unit (port_of stations unit)

-- the sum of numbers
abbrev pub total : List ℕ → ℕ
total [] = 0
total (n ∷ ns) = n + total ns

-- the frames that a unit's port dropped, over all sessions
abbrev pub drops_by : Option PortValue → ℕ
drops_by None = 0
drops_by (Some port) = total port.drop_counts

abbrev pub drops_at : List Station → UnitId → ℕ
drops_at stations unit = drops_by (port_of stations unit)

-- the frames of a unit
abbrev pub sent_by : List PortSeat → List (List FrameRow) → UnitId → List FrameRow
sent_by [] frames unit = []
sent_by (seat ∷ seats) [] unit = []
sent_by (seat ∷ seats) (own ∷ frames) unit = if same_unit seat.unit unit then own else sent_by seats frames unit

-- the frames with one more of this unit
abbrev pub with_frame : UnitId → FrameRow → List PortSeat → List (List FrameRow) → List (List FrameRow)
with_frame unit row [] frames = frames
with_frame unit row (seat ∷ seats) [] = []
with_frame unit row (seat ∷ seats) (own ∷ frames) =
    if same_unit seat.unit unit then (own ++ row ∷ []) ∷ frames else own ∷ with_frame unit row seats frames

-- all frames, one unit's behind the other's
abbrev pub all_of : List (List FrameRow) → List FrameRow
all_of frames = flat_map (λ own. own) frames

-- an open port is in a session
abbrev pub HaveBegun : List Station → Type 0
HaveBegun [] = Unit {0}
HaveBegun (station ∷ stations) = (IsOpen station.port → 1 ≤ length station.port.drop_counts) × HaveBegun stations

-- The ports have the deliveries and drops that the offers of the frames say. A count of drops stays at its last value; a
-- frame is dropped once at most by one port.
pub record IsBalanced (seats : List PortSeat) (stations : List Station) (frames : List (List FrameRow)) : Type 0 where
  pub begun : HaveBegun stations
  pub delivered : (sender receiver : UnitId) → taken sender (rows_at stations receiver) ≡ given receiver (sent_by seats frames sender)
  pub few : (receiver : UnitId) → drops_to receiver (all_of frames) ≤ length (all_of frames)
  pub dropped : (receiver : UnitId) → drops_to receiver (all_of frames) < 2 ^ 64
      → drops_at stations receiver ≡ drops_to receiver (all_of frames)

-- the rows of the posts of a unit's port
abbrev pub posted_in : UnitId → Option PortValue → List PostRow
posted_in unit None = []
posted_in unit (Some port) = post_rows unit port

abbrev pub posts_at : List Station → UnitId → List PostRow
posts_at stations unit = posted_in unit (port_of stations unit)

-- a unit's window as a side of a copy
abbrev pub side_in : List Place → UnitId → Side
side_in places unit = side unit (facts_in places unit).values (facts_in places unit).strokes

-- The frames were read of the windows of their senders, and the deliveries of each port were written to its unit's, and name
-- the strokes there.
pub record AreCarried (windows : UnitId → Side) (posts : UnitId → List PostRow) (rows : UnitId → List DeliverRow) (frames : List FrameRow) : Type 0 where
  pub read : All (λ frame. IsRead (windows frame.unit) frame) frames
  pub written : (unit : UnitId) → All (IsCarried (windows unit) (posts unit) frames) (rows unit)
  pub named : (unit : UnitId) → AreNamed (windows unit) (rows unit)

-- the same of the units of a run
abbrev pub CarryAll : List Station → List Place → List (List FrameRow) → Type 0
CarryAll stations places frames = AreCarried (side_in places) (posts_at stations) (rows_at stations) (all_of frames)

-- What LAN units are at any time.
pub record IsLan (lan : LanValue) : Type 0 where
  pub few : length lan.seats ≤ 16
  pub ascending : AreAscending (map (λ seat. seat.unit) lan.seats)
  pub sized : All IsSizedSeat lan.seats
  pub named : All (λ seat. seat.unit.unit < 256) lan.seats
  pub ports : HavePorts lan.whole lan.seats (map port_key lan.stations) lan.frames
  pub windows : map window_key lan.places ≡ map seat_key lan.seats
  pub begun : HaveBegun lan.stations
  pub balanced : lan.whole ≡ true → IsBalanced lan.seats lan.stations lan.frames
  pub carried : lan.whole ≡ true → CarryAll lan.stations lan.places lan.frames

-- the frames with that of a record, if it has a number
abbrev pub with_sent : UnitId → SendRecord → Option ℕ → List PortSeat → List (List FrameRow) → List (List FrameRow)
with_sent unit r None seats frames = frames
with_sent unit r (Some n) seats frames = with_frame unit (frame_row_of unit n r) seats frames

-- The frame of this record is the unit's next, and all frames before it are kept.
pub record Owes (lan : LanValue) (unit : UnitId) (r : SendRecord) : Type 0 where
  pub keys : List PortKey
  pub kept : HavePorts true lan.seats keys lan.frames
  pub counts : map port_key lan.stations ≡ with_count unit r.frame keys
  pub next : IfSome r.frame (λ n. n ≡ count_in unit keys + 1)
  pub lawful : IfSome r.frame (λ n. IsLawfulFrame unit n (frame_row_of unit n r))
  pub balanced : IsBalanced lan.seats lan.stations (with_sent unit r r.frame lan.seats lan.frames)
  pub carried : CarryAll lan.stations lan.places (with_sent unit r r.frame lan.seats lan.frames)
