-- Units that were opened: each seat has its port, its window and no frame.
use Rattle.std.proofs.Common.{◌≡◌, ◌≤◌, ◌<◌, ℕ, zero, suc, arith, Bool, true, false, All, List, [], ◌∷◌, Option, Some, None, if◌then◌else◌, length, map, replicate, refl, sym, ◌∙◌, ap, subst}
use Rattle.std.proofs.lemmas.List.{length-replicate}
use Rattle.std.proofs.lemmas.List.Elements.{All-map, All-nil, All-weaker}
use Rattle.vio_num.specs.declared.names.UnitId.{UnitId}
use Rattle.page_slots.specs.Stroke.{StrokeValue}
use Rattle.tce_window.specs.Moved.{stroke_count}
use Rattle.tce_window.specs.Window.{blank_page, strokes_at}
use Rattle.lan_switch.specs.declared.switch.PortPlan.{PortPlan}
use Rattle.lan_buffers.specs.Port.{PortValue}
use Rattle.lan_switch.specs.Switch.{AreAscending, opened, port_of, same_unit}
use Rattle.vio_trace.specs.declared.lan_rows.DeliverRow.{DeliverRow}
use Rattle.vio_trace.specs.declared.lan_rows.FrameRow.{FrameRow}
use Rattle.lan_script.specs.declared.seat.PortSeat.{PortSeat}
use Rattle.lan_script.specs.Carried.{IsCarried, IsNamedPage, IsRead, named_on, stroke_in}
use Rattle.lan_script.specs.Delivered.{drops_to, given, taken}
use Rattle.lan_script.specs.Invariant.{CarryAll, HaveBegun, IsBalanced, IsLan, all_of, drops_by, posts_at, rows_in, sent_by, side_in}
use Rattle.lan_script.specs.Opening.{plan_of, window_of}
use Rattle.lan_script.specs.Seats.{IsSizedSeat}
use Rattle.lan_switch.specs.declared.station.Station.{Station}
use Rattle.lan_script.specs.declared.windows.Place.{Place}
use Rattle.lan_script.specs.Units.{HavePorts, port_key, seat_key, window_key}
use Rattle.lan_script.proofs.Keys.{port_head, port_tail}
use Rattle.lan_script.specs.Windows.{facts_of, window_in}
use Rattle.lan_script.proofs.Placing.{by_bool, none_some, window_head, window_tail}
use Rattle.lan_script.proofs.Tallies.{shut}

pub plan_units : (seats : List PortSeat) → map (λ (plan : PortPlan). plan.unit) (map plan_of seats) ≡ map (λ (seat : PortSeat). seat.unit) seats
plan_units [] = refl
plan_units (s ∷ seats) = ap (λ l. s.unit ∷ l) (plan_units seats)

pub plan_slots : (seats : List PortSeat) → All IsSizedSeat seats → All (λ (plan : PortPlan). (1 ≤ plan.slots) × (plan.slots ≤ 1024)) (map plan_of seats)
plan_slots seats sized =
    All-map (λ (plan : PortPlan). (1 ≤ plan.slots) × (plan.slots ≤ 1024)) plan_of seats
    (All-weaker IsSizedSeat (λ (seat : PortSeat). (1 ≤ seat.slots) × (seat.slots ≤ 1024)) (λ seat h. h.1) seats sized)

pub fresh_ports : (seats : List PortSeat) → HavePorts true seats (map port_key (map opened (map plan_of seats))) (map (λ _. []) seats)
fresh_ports [] = tt
fresh_ports (s ∷ seats) =
    ((record { unit_is = refl; slots_is = refl }, λ whole. record { numbered = tt; all = refl }), fresh_ports seats)

pub fresh_windows : (seats : List PortSeat) → map window_key (map window_of seats) ≡ map seat_key seats
fresh_windows [] = refl
fresh_windows (s ∷ seats) =
    ap (λ (n : ℕ). record { unit = s.unit; pages = Some n; held = Some 0 } ∷ map window_key (map window_of seats)) (length-replicate s.pages blank_page)
    ∙ ap (λ l. seat_key s ∷ l) (fresh_windows seats)

-- nothing was sent, delivered or dropped
fresh_begun : (seats : List PortSeat) → HaveBegun (map opened (map plan_of seats))
fresh_begun [] = tt
fresh_begun (s ∷ seats) = ((λ is. absurd (shut None refl is)), fresh_begun seats)

fresh_sent : (seats : List PortSeat) (unit : UnitId) → sent_by seats (map (λ _. []) seats) unit ≡ []
fresh_sent [] unit = refl
fresh_sent (s ∷ seats) unit = at (same_unit s.unit unit) (fresh_sent seats unit)
  where
    at : (b : Bool) → sent_by seats (map (λ _. []) seats) unit ≡ [] → (if b then [] else sent_by seats (map (λ _. []) seats) unit) ≡ []
    at true rest = refl
    at false rest = rest

fresh_all : (seats : List PortSeat) → all_of (map (λ _. []) seats) ≡ []
fresh_all [] = refl
fresh_all (s ∷ seats) = fresh_all seats

-- the port of a unit has nothing
record HasNothing (unit : UnitId) (port : Option PortValue) : Type 0 where
  pub rows : rows_in unit port ≡ []
  pub drops : drops_by port ≡ 0

fresh_nothing : (seats : List PortSeat) (unit : UnitId) → HasNothing unit (port_of (map opened (map plan_of seats)) unit)
fresh_nothing [] unit = record { rows = refl; drops = refl }
fresh_nothing (s ∷ seats) unit =
    by_bool (same_unit s.unit unit) (HasNothing unit (port_of (map opened (map plan_of (s ∷ seats))) unit))
    (λ e. subst (λ o. HasNothing unit o) (sym (port_head unit (opened (plan_of s)) (map opened (map plan_of seats)) e)) (record { rows = refl; drops = refl }))
    (λ e. subst (λ o. HasNothing unit o) (sym (port_tail unit (opened (plan_of s)) (map opened (map plan_of seats)) e)) (fresh_nothing seats unit))

fresh_balance : (seats : List PortSeat) → IsBalanced seats (map opened (map plan_of seats)) (map (λ _. []) seats)
fresh_balance seats = record {
  begun = fresh_begun seats;
  delivered = λ sender receiver.
      ap (λ l. taken sender l) (fresh_nothing seats receiver).rows ∙ sym (ap (λ l. given receiver l) (fresh_sent seats sender));
  few = λ receiver. omega (arith, ap (λ l. drops_to receiver l) (fresh_all seats));
  dropped = λ receiver less. (fresh_nothing seats receiver).drops ∙ sym (ap (λ l. drops_to receiver l) (fresh_all seats));
}

-- no stroke lies on a page of a window that was opened
blank_strokes : (n p place : ℕ) → stroke_in (strokes_at (replicate n blank_page) p) place ≡ None
blank_strokes zero p place = refl
blank_strokes (suc n) zero place = refl
blank_strokes (suc n) (suc p) place = blank_strokes n p place

seat_strokes : (unit : UnitId) (whole : List Place) (seats : List PortSeat) (page place : ℕ)
    → stroke_in ((facts_of unit whole (window_in unit (map window_of seats))).strokes page) place ≡ None
seat_strokes unit whole [] page place = refl
seat_strokes unit whole (s ∷ seats) page place =
    by_bool (same_unit s.unit unit) (stroke_in ((facts_of unit whole (window_in unit (map window_of (s ∷ seats)))).strokes page) place ≡ None)
    (λ e. ap (λ o. stroke_in ((facts_of unit whole o).strokes page) place) (window_head unit (window_of s) (map window_of seats) e) ∙ blank_strokes s.pages page place)
    (λ e. ap (λ o. stroke_in ((facts_of unit whole o).strokes page) place) (window_tail unit (window_of s) (map window_of seats) e)
    ∙ seat_strokes unit whole seats page place)

none_named : (unit : UnitId) (strokes : Option (List StrokeValue)) → ((place : ℕ) → stroke_in strokes place ≡ None) → IsNamedPage unit strokes []
none_named unit strokes none = record {
  rising = tt;
  there = All-nil (λ place. place < stroke_count strokes);
  others = λ place stroke is other. absurd (none_some stroke (sym (none place) ∙ is));
}

fresh_carried : (seats : List PortSeat) → CarryAll (map opened (map plan_of seats)) (map window_of seats) (map (λ _. []) seats)
fresh_carried seats =
    let ss = map opened (map plan_of seats) in
    let ps = map window_of seats in
    record {
      read = subst (λ (l : List FrameRow). All (λ frame. IsRead (side_in ps frame.unit) frame) l) (sym (fresh_all seats)) (All-nil (λ (frame : FrameRow). IsRead (side_in ps frame.unit) frame));
      written = λ unit.
          subst (λ (l : List DeliverRow). All (IsCarried (side_in ps unit) (posts_at ss unit) (all_of (map (λ _. []) seats))) l) (sym (fresh_nothing seats unit).rows)
          (All-nil (IsCarried (side_in ps unit) (posts_at ss unit) (all_of (map (λ _. []) seats))));
      named = λ unit page.
          subst (λ (l : List DeliverRow). IsNamedPage unit ((side_in ps unit).strokes page) (named_on page l)) (sym (fresh_nothing seats unit).rows)
          (none_named unit ((side_in ps unit).strokes page) (seat_strokes unit ps seats page));
    }

-- Units that were opened are LAN units.
pub open_lan : (seats own : List PortSeat) (ss : List Station) (ps : List Place) (frames : List (List FrameRow)) → own ≡ seats
    → ss ≡ map opened (map plan_of seats) → ps ≡ map window_of seats → frames ≡ map (λ _. []) seats → length seats ≤ 16
    → AreAscending (map (λ (seat : PortSeat). seat.unit) seats) → All IsSizedSeat seats → All (λ (seat : PortSeat). seat.unit.unit < 256) seats
    → IsLan (record { seats = own; stations = ss; places = ps; frames = frames; whole = true })
open_lan seats own ss ps frames e f g h few ascending sized named =
    subst (λ (l : List PortSeat). IsLan (record { seats = l; stations = ss; places = ps; frames = frames; whole = true })) (sym e)
    (subst (λ (l : List Station). IsLan (record { seats = seats; stations = l; places = ps; frames = frames; whole = true })) (sym f)
    (subst (λ (l : List Place). IsLan (record { seats = seats; stations = map opened (map plan_of seats); places = l; frames = frames; whole = true })) (sym g)
    (subst (λ (l : List (List FrameRow)). IsLan (record { seats = seats; stations = map opened (map plan_of seats); places = map window_of seats; frames = l; whole = true })) (sym h)
    (record {
      few = few;
      ascending = ascending;
      sized = sized;
      named = named;
      ports = fresh_ports seats;
      windows = fresh_windows seats;
      begun = (fresh_balance seats).begun;
      balanced = λ _. fresh_balance seats;
      carried = λ _. fresh_carried seats;
    }))))
