-- What is so of the LAN units of a run at any time, and of what their frames and deliveries carry.
use Rattle.std.proofs.Common.{◌≡◌, true, List, [], ◌∷◌, Some, IsSome, ℕ, filter, get_or, refl, sym, subst}
use Rattle.vio_num.specs.declared.names.UnitId.{UnitId}
use Rattle.tce_window.specs.PlainPort.{known_of}
use Rattle.tce_window.specs.Window.{WindowValue}
use Rattle.rdma_copy.specs.Copy.{Side, SideGrows, side}
use Rattle.lan_switch.specs.Switch.{same_unit}
use Rattle.vio_trace.specs.declared.lan_rows.DeliverRow.{DeliverRow}
use Rattle.vio_trace.specs.declared.lan_rows.FrameRow.{FrameRow}
use Rattle.vio_trace.specs.declared.lan_rows.PostRow.{PostRow}
use Rattle.lan_script.specs.Carried.{FramesAreCarried, IsNamedPage, named_on}
use Rattle.lan_script.specs.declared.seat.PortSeat.{PortSeat}
use Rattle.lan_script.specs.Invariant.{side_in}
use Rattle.lan_script.specs.PortLaw.{AreOfSeats}
use Rattle.lan_script.specs.Seats.{seat_at}
use Rattle.lan_script.specs.Units.{LanValue, window_at}
use Rattle.lan_script.proofs.Blocks.{all_from_each}
use Rattle.lan_script.proofs.CarriedOn.{side_there}
use Rattle.lan_script.proofs.Carrying.{carried_on, read_on}
use Rattle.lan_script.proofs.Order.{Each, each_weaker}
pub use Rattle.lan_script.proofs.Blocks.{self}
pub use Rattle.lan_script.proofs.Buffering.{grown_posted, posted_still, same_posted}
pub use Rattle.lan_script.proofs.Correlating.{none_carry, posts_same, rows_still, still_carry}
pub use Rattle.lan_script.proofs.Keys.{port_head, port_tail}
pub use Rattle.lan_script.proofs.OwnMacs.{mac_same, sets_moves, target_for, weaker_mac}
pub use Rattle.lan_script.proofs.Placing.{by_bool, one_unit, window_head, window_tail}
pub use Rattle.lan_script.proofs.PortsGrow.{grows_same, grows_then}
pub use Rattle.lan_script.proofs.RegionsGrow.{not_told, region_same, region_then, regions_placed, regions_then}
pub use Rattle.lan_script.proofs.ReplayedLines.{names_own}
pub use Rattle.lan_script.proofs.Resting.{on_open, ports_on, still_taken}
pub use Rattle.lan_script.proofs.Targeting.{named_at, spent_on}

-- A unit's window as a side of a copy.
pub window_side : (lan : LanValue) (unit : UnitId) (window : WindowValue) → window_at lan unit ≡ Some window
    → side_in lan.places unit ≡ side unit (known_of window).values (known_of window).strokes
window_side lan unit window at = side_there unit lan.places window at

-- A window that shows no less than another, and on each page the same strokes.
pub record Shows (old new : Side) : Type 0 where
  pub grows : SideGrows old new
  pub same : (page : ℕ) → new.strokes page ≡ old.strokes page

seats_there : (seats : List PortSeat) → Each (λ (seat : PortSeat). IsSome (seat_at seats seat.unit)) seats
seats_there [] = tt
seats_there (s ∷ seats) = (
  here (self s.unit),
  each_weaker (λ (seat : PortSeat). IsSome (seat_at seats seat.unit)) (λ (seat : PortSeat). IsSome (seat_at (s ∷ seats) seat.unit))
      (λ seat h. by_bool (same_unit s.unit seat.unit) (IsSome (seat_at (s ∷ seats) seat.unit)) (λ e. rw e refl) (λ e. rw e h)) seats (seats_there seats),
)
  where
    here : same_unit s.unit s.unit ≡ true → IsSome (seat_at (s ∷ seats) s.unit)
    here e = rw e refl

page_as : (w w' : Side) (page : ℕ) (rows : List DeliverRow) → w'.unit ≡ w.unit → w'.strokes page ≡ w.strokes page
    → IsNamedPage w.unit (w.strokes page) (named_on page rows) → IsNamedPage w'.unit (w'.strokes page) (named_on page rows)
page_as w w' page rows same strokes h =
    subst (λ (x : UnitId). IsNamedPage x (w'.strokes page) (named_on page rows)) (sym same)
    (subst (λ s. IsNamedPage w.unit s (named_on page rows)) (sym strokes) h)

-- What frames and deliveries carry is so over windows that show the same.
pub carried_shown : (seats : List PortSeat) (windows windows' : UnitId → Side) (frames : List FrameRow) (posts : List PostRow) (delivers : List DeliverRow)
    → ((unit : UnitId) → IsSome (seat_at seats unit) → Shows (windows unit) (windows' unit)) → AreOfSeats seats (λ row. row.unit) frames
    → AreOfSeats seats (λ row. row.unit) delivers → FramesAreCarried seats windows frames posts delivers → FramesAreCarried seats windows' frames posts delivers
carried_shown seats windows windows' frames posts delivers shown own_frames own_delivers is = record {
  read = λ k d less.
      let row : FrameRow = get_or frames k d in
      read_on (windows row.unit) (windows' row.unit) row (shown row.unit (own_frames k d less)).grows (is.read k d less);
  written = λ k d less.
      let row : DeliverRow = get_or delivers k d in
      carried_on (windows row.unit) (windows' row.unit) posts posts frames frames row (shown row.unit (own_delivers k d less)).grows (λ post has. has)
      (λ frame has. has) (is.written k d less);
  named = λ k d less.
      let seat : PortSeat = get_or seats k d in
      let there : IsSome (seat_at seats seat.unit) = all_from_each (λ (s : PortSeat). IsSome (seat_at seats s.unit)) seats (seats_there seats) k d less in
      let rows : List DeliverRow = filter (λ row. same_unit row.unit seat.unit) delivers in
      λ page. page_as (windows seat.unit) (windows' seat.unit) page rows (shown seat.unit there).grows.unit ((shown seat.unit there).same page) (is.named k d less page);
}
