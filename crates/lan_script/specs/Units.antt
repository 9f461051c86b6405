-- The LAN units of a run: each has a seat, a port on the switch, a window and the frames that it sent.
use Rattle.std.specs.Prelude.{◌≡◌, ◌≤◌, ◌+◌, ℕ, Bool, true, false, All, List, [], ◌∷◌, Option, Some, IfSome, length, if◌then◌else◌}
use Rattle.std.specs.Option.{option_map}
use Rattle.vio_num.specs.declared.names.UnitId.{UnitId}
use Rattle.vio_num.specs.declared.names.Mac.{Mac}
use Rattle.vio_num.specs.declared.hypervisor.Hrc.{Hrc}
use Rattle.vio_num.specs.declared.hypervisor.Hrc.TheVariants.{Success, Dropped}
use Rattle.tce_window.specs.Window.{WindowValue}
use Rattle.lan_frame.specs.Station.{IsGroup, destination_of}
use Rattle.vio_trace.specs.declared.lan_rows.FrameRow.{FrameRow}
use Rattle.vio_trace.specs.declared.lan_rows.OfferRow.{OfferRow}
use Rattle.vio_trace.specs.declared.lan_rows.Offered.{Offered}
use Rattle.vio_trace.specs.declared.lan_rows.Offered.TheVariants as offers
use Rattle.vio_trace.specs.Form.{IsOfferOf}
use Rattle.lan_switch.specs.declared.station.Station.{Station}
use Rattle.lan_buffers.specs.Calls.{IsOpen}
use Rattle.lan_switch.specs.Switch.{port_of, same_unit}
use Rattle.lan_script.specs.declared.seat.PortSeat.{PortSeat}
use Rattle.lan_script.specs.declared.windows.Place.{Place}
use Rattle.lan_script.specs.Windows.{window_in}

pub record LanValue : Type 0 where
  -- the seats, in ascending order of their units
  pub seats : List PortSeat
  -- the ports of the switch, and the windows, in the same order
  pub stations : List Station
  pub places : List Place
  -- of each unit the frames that have a number, in the order of time
  pub frames : List (List FrameRow)
  -- whether each frame that was given a number is kept
  pub whole : Bool

-- the window of a unit
abbrev pub window_at : LanValue → UnitId → Option WindowValue
window_at lan unit = window_in unit lan.places

-- the unit's port is open
abbrev pub IsOpenAt : LanValue → UnitId → Type 0
IsOpenAt lan unit = IfSome (port_of lan.stations unit) IsOpen

-- what a port keeps of its seat over all calls, and the number of its frames
pub record PortKey : Type 0 where
  pub unit : UnitId
  pub slots : ℕ
  pub frames : ℕ

abbrev pub port_key : Station → PortKey
port_key station = record { unit = station.port.unit; slots = station.port.slots; frames = station.frames }

-- what a window keeps of its seat between calls: its pages, of which none is held
pub record WindowKey : Type 0 where
  pub unit : UnitId
  pub pages : Option ℕ
  pub held : Option ℕ

abbrev pub window_key : Place → WindowKey
window_key place = record {
  unit = place.unit;
  pages = option_map (λ window. length window.pages) place.window;
  held = option_map (λ window. window.held_count) place.window;
}

abbrev pub seat_key : PortSeat → WindowKey
seat_key seat = record { unit = seat.unit; pages = Some seat.pages; held = Some 0 }

-- whether a frame was written to a buffer
abbrev pub is_done : Offered → Bool
is_done offers.Done = true
is_done _ = false

-- the code of a frame to one station, from its one offer, if it has one
abbrev pub one_code : List OfferRow → Hrc
one_code [] = Dropped
one_code (offer ∷ more) = if is_done offer.offered then Success else Dropped

-- A frame to one station has at most one offer, and its code is that of the offer.
pub record IsSingle (frame : FrameRow) : Type 0 where
  pub few : length frame.offers ≤ 1
  pub code_is : frame.code ≡ one_code frame.offers

-- whether a port took the frame or dropped it
abbrev pub is_decided : Offered → Bool
is_decided offers.Done = true
is_decided offers.Ungranted = true
is_decided offers.NoSize = true
is_decided offers.NoBuffer = true
is_decided _ = false

-- An offer names its frame, and another unit than the sender, whose port took the frame or dropped it.
pub record IsLawfulOffer (frame : FrameRow) (offer : OfferRow) : Type 0 where
  pub named : IsOfferOf frame offer
  pub other : same_unit offer.port frame.unit ≡ false
  pub decided : is_decided offer.offered ≡ true

-- whom a frame is for
abbrev pub to_of : FrameRow → Mac
to_of frame = record { bytes = destination_of frame.bytes }

-- A unit's frame of this number: a frame for a group succeeds, and another goes as its offer does.
pub record IsLawfulFrame (unit : UnitId) (number : ℕ) (frame : FrameRow) : Type 0 where
  pub unit_is : frame.unit ≡ unit
  pub number_is : frame.number ≡ number
  pub many : IsGroup (to_of frame) → frame.code ≡ Success
  pub one : ¬ IsGroup (to_of frame) → IsSingle frame
  pub offers : All (IsLawfulOffer frame) frame.offers

-- the frames of a unit, numbered from n without a gap
abbrev pub AreFrames : UnitId → (n : ℕ) → List FrameRow → Type 0
AreFrames unit n [] = Unit {0}
AreFrames unit n (frame ∷ frames) = IsLawfulFrame unit n frame × AreFrames unit (n + 1) frames

-- the frames of a port are all that were given a number
pub record HasFrames (key : PortKey) (frames : List FrameRow) : Type 0 where
  pub numbered : AreFrames key.unit 1 frames
  pub all : key.frames ≡ length frames

-- A seat has its port.
pub record HasPort (seat : PortSeat) (key : PortKey) : Type 0 where
  pub unit_is : key.unit ≡ seat.unit
  pub slots_is : key.slots ≡ seat.slots

-- each seat has its port and its frames, which are all there unless memory ran out
abbrev pub HavePorts : (whole : Bool) → List PortSeat → List PortKey → List (List FrameRow) → Type 0
HavePorts whole [] [] [] = Unit {0}
HavePorts whole (seat ∷ seats) (key ∷ keys) (own ∷ frames) =
    (HasPort seat key × (whole ≡ true → HasFrames key own)) × HavePorts whole seats keys frames
HavePorts whole _ _ _ = ⊥
