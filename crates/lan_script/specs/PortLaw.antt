-- The law of the rows that a trace has of LAN units: of each unit they are those of a lawful port, in whose sessions no posted
-- buffer took two frames; its frames are numbered without a gap; and its deliveries and drops are those that the offers say.
use Rattle.std.specs.Prelude.{◌≡◌, All, List, IsSome, filter}
use Rattle.vio_num.specs.declared.names.UnitId.{UnitId}
use Rattle.lan_buffers.specs.Port.{IsLawfulPort, PortValue}
use Rattle.lan_switch.specs.Switch.{same_unit}
use Rattle.vio_trace.specs.Form.{Ascend, DeliverBefore, FrameBefore, HarvestBefore, IsOfferOf, PortBefore, PostBefore}
use Rattle.vio_trace.specs.declared.lan_rows.DeliverRow.{DeliverRow}
use Rattle.vio_trace.specs.declared.lan_rows.FrameRow.{FrameRow}
use Rattle.vio_trace.specs.declared.lan_rows.HarvestRow.{HarvestRow}
use Rattle.vio_trace.specs.declared.lan_rows.PortRow.{PortRow}
use Rattle.vio_trace.specs.declared.lan_rows.PostRow.{PostRow}
use Rattle.lan_script.specs.declared.rows.LanRows.{LanRows}
use Rattle.lan_script.specs.declared.seat.PortSeat.{PortSeat}
use Rattle.lan_script.specs.Delivered.{drops_counted, drops_to, given, taken}
use Rattle.lan_script.specs.Rows.{deliver_rows, harvest_rows, port_rows, post_rows}
use Rattle.lan_script.specs.Seats.{seat_at}
use Rattle.lan_script.specs.Units.{AreFrames}

-- The rows of a unit are those of a lawful port with its slots, over all sessions.
pub record IsOfPort (seat : PortSeat) (ports : List PortRow) (posts : List PostRow) (delivers : List DeliverRow) (harvests : List HarvestRow) : Type 0 where
  pub port : PortValue
  pub lawful : IsLawfulPort port
  pub slots_is : port.slots ≡ seat.slots
  pub sessions : filter (λ row. same_unit row.unit seat.unit) ports ≡ port_rows seat.unit port
  pub posted : filter (λ row. same_unit row.unit seat.unit) posts ≡ post_rows seat.unit port
  pub delivered : filter (λ row. same_unit row.unit seat.unit) delivers ≡ deliver_rows seat.unit port
  pub harvested : filter (λ row. same_unit row.unit seat.unit) harvests ≡ harvest_rows seat.unit port

-- each row is of a seat
abbrev pub AreOfSeats : {Row : Type 0} → List PortSeat → (Row → UnitId) → List Row → Type 0
AreOfSeats seats unit rows = All (λ row. IsSome (seat_at seats (unit row))) rows

-- The rows of LAN units are lawful.
pub record PortsAreLawful (seats : List PortSeat) (frames : List FrameRow) (ports : List PortRow) (posts : List PostRow) (delivers : List DeliverRow) (harvests : List HarvestRow) : Type 0 where
  pub of_ports : All (λ seat. IsOfPort seat ports posts delivers harvests) seats
  pub numbered : All (λ seat. AreFrames seat.unit 1 (filter (λ row. same_unit row.unit seat.unit) frames)) seats
  pub own_frames : AreOfSeats seats (λ row. row.unit) frames
  pub own_ports : AreOfSeats seats (λ row. row.unit) ports
  pub own_posts : AreOfSeats seats (λ row. row.unit) posts
  pub own_deliveries : AreOfSeats seats (λ row. row.unit) delivers
  pub own_harvests : AreOfSeats seats (λ row. row.unit) harvests
  pub delivered : (sender receiver : UnitId) → taken sender (filter (λ row. same_unit row.unit receiver) delivers)
      ≡ given receiver (filter (λ row. same_unit row.unit sender) frames)
  pub dropped : (receiver : UnitId) → drops_counted (filter (λ row. same_unit row.unit receiver) ports) ≡ drops_to receiver frames

-- The rows stand in the order of a trace.
pub record AreOrdered (rows : LanRows) : Type 0 where
  pub frames : Ascend FrameBefore rows.frames.items
  pub offers : All (λ frame. All (IsOfferOf frame) frame.offers) rows.frames.items
  pub ports : Ascend PortBefore rows.ports.items
  pub posts : Ascend PostBefore rows.posts.items
  pub delivers : Ascend DeliverBefore rows.delivers.items
  pub harvests : Ascend HarvestBefore rows.harvests.items
