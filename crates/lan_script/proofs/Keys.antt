-- What the seats say of ports and of windows, and what calls keep of it.
use Rattle.std.proofs.Common.{◌≡◌, ℕ, Bool, true, false, List, [], ◌∷◌, Option, Some, None, length, map, option_map, refl, sym, ◌∙◌, ap, subst}
use Rattle.vio_num.specs.declared.names.UnitId.{UnitId}
use Rattle.tce_window.specs.Window.{WindowValue}
use Rattle.lan_buffers.specs.Port.{PortValue}
use Rattle.lan_switch.specs.declared.station.Station.{Station}
use Rattle.lan_switch.specs.Switch.{port_of, same_unit, with_port}
use Rattle.vio_trace.specs.declared.lan_rows.FrameRow.{FrameRow}
use Rattle.lan_script.specs.declared.seat.PortSeat.{PortSeat}
use Rattle.lan_script.specs.declared.windows.Place.{Place}
use Rattle.lan_script.specs.Invariant.{CarryAll, HaveBegun, IsBalanced, IsLan}
use Rattle.lan_script.specs.Seats.{seat_at}
use Rattle.lan_script.specs.Units.{HavePorts, LanValue, PortKey, WindowKey, port_key, seat_key, window_key}
use Rattle.lan_script.specs.Windows.{window_in, with_window}
use Rattle.lan_script.proofs.Placing.{by_bool, none_some, same_some, window_head, window_tail, with_head, with_tail}

-- The window of a seat: it has the seat's pages, and holds nothing.
pub record WindowOf (o : Option WindowValue) (seat : PortSeat) : Type 0 where
  pub window : WindowValue
  pub is : o ≡ Some window
  pub pages : length window.pages ≡ seat.pages
  pub free : window.held_count ≡ 0

-- The port of a seat: it has the seat's unit and slots.
pub record PortOf (o : Option PortValue) (seat : PortSeat) : Type 0 where
  pub port : PortValue
  pub is : o ≡ Some port
  pub unit : port.unit ≡ seat.unit
  pub slots : port.slots ≡ seat.slots

seat_head : (unit : UnitId) (s : PortSeat) (ss : List PortSeat) → same_unit s.unit unit ≡ true → seat_at (s ∷ ss) unit ≡ Some s
seat_head unit s ss e = rw e refl

seat_tail : (unit : UnitId) (s : PortSeat) (ss : List PortSeat) → same_unit s.unit unit ≡ false → seat_at (s ∷ ss) unit ≡ seat_at ss unit
seat_tail unit s ss e = rw e refl

heads : {X : Type 0} (x y : X) (xs ys : List X) → x ∷ xs ≡ y ∷ ys → x ≡ y
heads x y xs ys e = cc (e)

tails : {X : Type 0} (x y : X) (xs ys : List X) → x ∷ xs ≡ y ∷ ys → xs ≡ ys
tails x y xs ys e = cc (e)

of_key : (unit : UnitId) (o : Option WindowValue) (seat : PortSeat)
    → option_map (λ (w : WindowValue). length w.pages) o ≡ Some seat.pages → option_map (λ (w : WindowValue). w.held_count) o ≡ Some 0
    → WindowOf o seat
of_key unit (Some w) seat e f = record { window = w; is = refl; pages = same_some _ _ e; free = same_some _ _ f }
of_key unit None seat e f = absurd (none_some _ e)

-- each seat has its window
pub window_of : (unit : UnitId) (places : List Place) (seats : List PortSeat) (seat : PortSeat) → map window_key places ≡ map seat_key seats
    → seat_at seats unit ≡ Some seat → WindowOf (window_in unit places) seat
window_of unit [] [] seat keys at = absurd (none_some seat at)
window_of unit (p ∷ ps) [] seat keys at = absurd (none_some seat at)
window_of unit [] (s ∷ ss) seat keys at = absurd (cc (keys))
window_of unit (p ∷ ps) (s ∷ ss) seat keys at =
    let key : window_key p ≡ seat_key s = heads (window_key p) (seat_key s) (map window_key ps) (map seat_key ss) keys in
    let same : same_unit p.unit unit ≡ same_unit s.unit unit = ap (λ (k : WindowKey). same_unit k.unit unit) key in
    by_bool (same_unit s.unit unit) (WindowOf (window_in unit (p ∷ ps)) seat)
    (λ e.
    let is : s ≡ seat = same_some s seat (sym (seat_head unit s ss e) ∙ at) in
    subst (λ (x : PortSeat). WindowOf (window_in unit (p ∷ ps)) x) is
    (subst (λ (o : Option WindowValue). WindowOf o s) (sym (window_head unit p ps (same ∙ e)))
    (of_key unit p.window s (ap (λ (k : WindowKey). k.pages) key) (ap (λ (k : WindowKey). k.held) key))))
    (λ e.
    subst (λ (o : Option WindowValue). WindowOf o seat) (sym (window_tail unit p ps (same ∙ e)))
    (window_of unit ps ss seat (tails (window_key p) (seat_key s) (map window_key ps) (map seat_key ss) keys) (sym (seat_tail unit s ss e) ∙ at)))

pub port_head : (unit : UnitId) (s : Station) (ss : List Station) → same_unit s.port.unit unit ≡ true → port_of (s ∷ ss) unit ≡ Some s.port
port_head unit s ss e = rw e refl

pub port_tail : (unit : UnitId) (s : Station) (ss : List Station) → same_unit s.port.unit unit ≡ false → port_of (s ∷ ss) unit ≡ port_of ss unit
port_tail unit s ss e = rw e refl

-- each seat has its port
pub port_of_seat : (whole : Bool) (unit : UnitId) (seats : List PortSeat) (ss : List Station) (frames : List (List FrameRow)) (seat : PortSeat)
    → HavePorts whole seats (map port_key ss) frames → seat_at seats unit ≡ Some seat → PortOf (port_of ss unit) seat
port_of_seat whole unit [] ss frames seat have at = absurd (none_some seat at)
port_of_seat whole unit (t ∷ seats) [] frames seat have at = absurd have
port_of_seat whole unit (t ∷ seats) (s ∷ ss) [] seat have at = absurd have
port_of_seat whole unit (t ∷ seats) (s ∷ ss) (f ∷ frames) seat have at =
    let same : same_unit s.port.unit unit ≡ same_unit t.unit unit = ap (λ (u : UnitId). same_unit u unit) have.0.0.unit_is in
    by_bool (same_unit t.unit unit) (PortOf (port_of (s ∷ ss) unit) seat)
    (λ e.
    let is : t ≡ seat = same_some t seat (sym (seat_head unit t seats e) ∙ at) in
    subst (λ (x : PortSeat). PortOf (port_of (s ∷ ss) unit) x) is
    (record { port = s.port; is = port_head unit s ss (same ∙ e); unit = have.0.0.unit_is; slots = have.0.0.slots_is }))
    (λ e.
    subst (λ (o : Option PortValue). PortOf o seat) (sym (port_tail unit s ss (same ∙ e)))
    (port_of_seat whole unit seats ss frames seat have.1 (sym (seat_tail unit t seats e) ∙ at)))

-- a port that keeps its unit and its slots keeps the keys
pub keys_with : (unit : UnitId) (ss : List Station) (before after : PortValue) → port_of ss unit ≡ Some before → after.unit ≡ before.unit
    → after.slots ≡ before.slots → map port_key (with_port unit after ss) ≡ map port_key ss
keys_with unit [] before after at same slots = refl
keys_with unit (s ∷ ss) before after at same slots =
    by_bool (same_unit s.port.unit unit) (map port_key (with_port unit after (s ∷ ss)) ≡ map port_key (s ∷ ss))
    (λ e.
    let is : s.port ≡ before = same_some s.port before (sym (port_head unit s ss e) ∙ at) in
    ap (λ l. map port_key l) (port_with_head e)
    ∙ ap (λ (k : PortKey). k ∷ map port_key ss)
    (ap (λ (u : UnitId). record { unit = u; slots = after.slots; frames = s.frames }) (same ∙ ap (λ (p : PortValue). p.unit) (sym is))
    ∙ ap (λ (n : ℕ). record { unit = s.port.unit; slots = n; frames = s.frames }) (slots ∙ ap (λ (p : PortValue). p.slots) (sym is))))
    (λ e.
    ap (λ l. map port_key l) (port_with_tail e)
    ∙ ap (λ l. port_key s ∷ l) (keys_with unit ss before after (sym (port_tail unit s ss e) ∙ at) same slots))
  where
    port_with_head : same_unit s.port.unit unit ≡ true → with_port unit after (s ∷ ss) ≡ record s { port = after } ∷ ss
    port_with_head e = rw e refl

    port_with_tail : same_unit s.port.unit unit ≡ false → with_port unit after (s ∷ ss) ≡ s ∷ with_port unit after ss
    port_with_tail e = rw e refl

-- a window that keeps its pages, and holds as much, keeps the keys
pub window_keys_with : (unit : UnitId) (ps : List Place) (w w' : WindowValue) → window_in unit ps ≡ Some w → length w'.pages ≡ length w.pages
    → w'.held_count ≡ w.held_count → map window_key (with_window unit (Some w') ps) ≡ map window_key ps
window_keys_with unit [] w w' at pages held = refl
window_keys_with unit (p ∷ ps) w w' at pages held =
    by_bool (same_unit p.unit unit) (map window_key (with_window unit (Some w') (p ∷ ps)) ≡ map window_key (p ∷ ps))
    (λ e.
    let is : p.window ≡ Some w = sym (window_head unit p ps e) ∙ at in
    ap (λ l. map window_key l) (with_head unit (Some w') p ps e)
    ∙ ap (λ (k : WindowKey). k ∷ map window_key ps)
    (ap (λ (n : ℕ). record { unit = p.unit; pages = Some n; held = Some w'.held_count }) pages
    ∙ ap (λ (n : ℕ). record { unit = p.unit; pages = Some (length w.pages); held = Some n }) held
    ∙ ap (λ (o : Option WindowValue). window_key (record { unit = p.unit; window = o })) (sym is)))
    (λ e.
    ap (λ l. map window_key l) (with_tail unit (Some w') p ps e)
    ∙ ap (λ l. window_key p ∷ l) (window_keys_with unit ps w w' (sym (window_tail unit p ps e) ∙ at) pages held))

-- other ports, or other windows, of the same keys are LAN units as well
pub lan_ports : (lan : LanValue) (ss : List Station) → IsLan lan → map port_key ss ≡ map port_key lan.stations
    → (HaveBegun lan.stations → HaveBegun ss)
    → (IsBalanced lan.seats lan.stations lan.frames → IsBalanced lan.seats ss lan.frames)
    → (CarryAll lan.stations lan.places lan.frames → CarryAll ss lan.places lan.frames) → IsLan (record lan { stations = ss })
lan_ports lan ss is same begun balanced carried = record {
  few = is.few;
  ascending = is.ascending;
  sized = is.sized;
  named = is.named;
  ports = subst (λ keys. HavePorts lan.whole lan.seats keys lan.frames) (sym same) is.ports;
  windows = is.windows;
  begun = begun is.begun;
  balanced = λ whole. balanced (is.balanced whole);
  carried = λ whole. carried (is.carried whole);
}

pub lan_windows : (lan : LanValue) (ps : List Place) → IsLan lan → map window_key ps ≡ map window_key lan.places
    → (CarryAll lan.stations lan.places lan.frames → CarryAll lan.stations ps lan.frames) → IsLan (record lan { places = ps })
lan_windows lan ps is same carried = record {
  few = is.few;
  ascending = is.ascending;
  sized = is.sized;
  named = is.named;
  ports = is.ports;
  windows = same ∙ is.windows;
  begun = is.begun;
  balanced = is.balanced;
  carried = λ whole. carried (is.carried whole);
}
