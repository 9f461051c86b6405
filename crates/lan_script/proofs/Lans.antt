-- What calls on a unit's port or window leave of all units of a run.
use Rattle.std.proofs.Common.{◌≡◌, ◌≤◌, ◌<◌, ℕ, suc, arith, Bool, true, false, true≢false, List, [], ◌∷◌, Option, Some, None, IfSome, IfOk, OnOk, OnErr, Result, Ok, Err, IsSome, length, map, option_map, refl, sym, ◌∙◌, ap, subst}
use Rattle.vio_num.specs.declared.names.UnitId.{UnitId}
use Rattle.vio_num.specs.declared.memory.NoMemory.{NoMemory}
use Rattle.tce_window.specs.PlainPort.{known_of}
use Rattle.tce_window.specs.PortState.{PortPlace, PortState}
use Rattle.tce_window.specs.Window.{WindowValue}
use Rattle.unit_region.specs.Kept.{KeepsWindow}
use Rattle.lan_buffers.specs.Calls.{IsOpen}
use Rattle.lan_buffers.specs.Port.{PortValue}
use Rattle.lan_buffers.specs.declared.settings.Settings.{Settings}
use Rattle.lan_switch.specs.declared.answers.LanAnswer.{LanAnswer}
use Rattle.lan_switch.specs.declared.answers.SendRecord.{SendRecord}
use Rattle.lan_switch.specs.declared.station.Station.{Station}
use Rattle.lan_switch.specs.Calls.{Frees, Reserves}
use Rattle.lan_switch.specs.Sending.{FailsToSend, IsSent, LanWindows, windows_of}
use Rattle.lan_switch.specs.Source.{OnlyReadThrough}
use Rattle.lan_switch.specs.declared.source.TheConstants.{MOST_PARTS}
use Rattle.lan_switch.specs.Switch.{AreAscending, AtPort, HasRoom, IsPort, MadeAt, port_of, same_unit, with_port}
use Rattle.vio_trace.specs.declared.lan_rows.FrameRow.{FrameRow}
use Rattle.lan_script.specs.declared.seat.PortSeat.{PortSeat}
use Rattle.lan_script.specs.declared.windows.Place.{Place}
use Rattle.lan_script.specs.Invariant.{CarryAll, IsLan, Owes}
use Rattle.lan_script.specs.Seats.{seat_at, seat_place}
use Rattle.lan_script.specs.Units.{HavePorts, IsOpenAt, LanValue, WindowKey, port_key, seat_key, window_key}
use Rattle.lan_script.specs.Windows.{FoundIn, HasPlace, facts_in, facts_of, place_in, window_in, with_window}
use Rattle.lan_script.proofs.Balancing.{Sends, station_units}
use Rattle.lan_script.proofs.Called.{SamePort, at_balance, at_begun, at_carried, at_keys}
use Rattle.lan_script.proofs.CarriedOn.{carried_own, keeps_through}
use Rattle.lan_script.proofs.CarriedSent.{IsLending, carried_sent, parts_few}
use Rattle.lan_script.proofs.Keeping.{frames_long, short_ports}
use Rattle.lan_script.proofs.Keys.{PortOf, WindowOf, lan_ports, lan_windows, port_of_seat, window_keys_with, window_of}
use Rattle.lan_script.proofs.Lent.{all_free, away_back, keys_back, shape_units, units_of, with_keys}
use Rattle.lan_script.proofs.Offering.{keys_failing, owes, untouched, untouched_failing}
use Rattle.lan_script.proofs.Placing.{by_bool, has_place, length_with, none_some, one_unit, place_head, place_tail, place_with, same_some, window_beside, window_with, with_twice}

-- what is there
some_of : {X : Type 0} (o : Option X) → IsSome o → (x : X) × (o ≡ Some x)
some_of (Some x) there = (x, refl)
some_of None there = absurd (cc (there))

is_some : {X : Type 0} (o : Option X) (x : X) → o ≡ Some x → IsSome o
is_some (Some y) x e = refl
is_some None x e = absurd (cc (e))

seat_of : (lan now : LanValue) (unit : UnitId) → lan ≡ now → IsSome (seat_at now.seats unit) → (seat : PortSeat) × (seat_at lan.seats unit ≡ Some seat)
seat_of lan now unit same there =
    some_of (seat_at lan.seats unit) (subst (λ (l : LanValue). IsSome (seat_at l.seats unit)) (sym same) there)

pub port_there : (lan now : LanValue) (unit : UnitId) → lan ≡ now → IsLan lan → IsSome (seat_at now.seats unit) → IsPort lan.stations unit
port_there lan now unit same is there =
    let seat = seat_of lan now unit same there in
    let port : PortOf (port_of lan.stations unit) seat.0 = port_of_seat lan.whole unit lan.seats lan.stations lan.frames seat.0 is.ports seat.1 in
    is_some (port_of lan.stations unit) port.port port.is

pub window_there : (lan now : LanValue) (unit : UnitId) → lan ≡ now → IsLan lan → IsSome (seat_at now.seats unit) → IsSome (window_in unit lan.places)
window_there lan now unit same is there =
    let seat = seat_of lan now unit same there in
    let w : WindowOf (window_in unit lan.places) seat.0 = window_of unit lan.places lan.seats seat.0 is.windows seat.1 in
    is_some (window_in unit lan.places) w.window w.is

pub window_free : (lan now : LanValue) (unit : UnitId) (own : WindowValue) → lan ≡ now → IsLan lan → IsSome (seat_at now.seats unit)
    → window_in unit lan.places ≡ Some own → own.held_count ≡ 0
window_free lan now unit own same is there at =
    let seat = seat_of lan now unit same there in
    let w : WindowOf (window_in unit lan.places) seat.0 = window_of unit lan.places lan.seats seat.0 is.windows seat.1 in
    ap (λ (x : WindowValue). x.held_count) (same_some own w.window (sym at ∙ w.is)) ∙ w.free

pub window_pages : (lan now : LanValue) (unit : UnitId) (own : WindowValue) → lan ≡ now → IsLan lan → IsSome (seat_at now.seats unit)
    → window_in unit lan.places ≡ Some own → IfSome (seat_at now.seats unit) (λ seat. length own.pages ≡ seat.pages)
window_pages lan now unit own same is there at =
    let seat = seat_of lan now unit same there in
    let w : WindowOf (window_in unit lan.places) seat.0 = window_of unit lan.places lan.seats seat.0 is.windows seat.1 in
    let here : seat_at now.seats unit ≡ Some seat.0 = ap (λ (l : LanValue). seat_at l.seats unit) (sym same) ∙ seat.1 in
    subst (λ o. IfSome o (λ s. length own.pages ≡ s.pages)) (sym here)
    (ap (λ (x : WindowValue). length x.pages) (same_some own w.window (sym at ∙ w.is)) ∙ w.pages)

-- a call at the unit's port
pub lan_made : (lan now : LanValue) (unit : UnitId) (answer : LanAnswer) (ss : List Station) (P : PortValue → PortValue → Type 0) → lan ≡ now → IsLan lan
    → IsSome (seat_at now.seats unit) → MadeAt lan.stations unit answer ss P → ((before after : PortValue) → P before after → SamePort before after)
    → IsLan (record lan { stations = ss })
lan_made lan now unit answer ss P same is there h kept =
    let made = h.made (port_there lan now unit same is there) in
    lan_ports lan ss is (at_keys lan.stations unit ss P kept made) (at_begun lan.stations unit ss P kept made) (at_balance lan.seats lan.frames lan.stations unit ss P kept made)
    (at_carried lan.places lan.frames lan.stations unit ss P kept made)

pub lan_at : (lan : LanValue) (unit : UnitId) (ss : List Station) (P : PortValue → PortValue → Type 0) → IsLan lan → AtPort lan.stations unit ss P
    → ((before after : PortValue) → P before after → SamePort before after) → IsLan (record lan { stations = ss })
lan_at lan unit ss P is h kept =
    lan_ports lan ss is (at_keys lan.stations unit ss P kept h) (at_begun lan.stations unit ss P kept h) (at_balance lan.seats lan.frames lan.stations unit ss P kept h)
    (at_carried lan.places lan.frames lan.stations unit ss P kept h)

port_head : (unit : UnitId) (s : Station) (ss : List Station) → same_unit s.port.unit unit ≡ true → port_of (s ∷ ss) unit ≡ Some s.port
port_head unit s ss e = rw e refl

port_tail : (unit : UnitId) (s : Station) (ss : List Station) → same_unit s.port.unit unit ≡ false → port_of (s ∷ ss) unit ≡ port_of ss unit
port_tail unit s ss e = rw e refl

pub port_with : (unit : UnitId) (ss : List Station) (before after : PortValue) → port_of ss unit ≡ Some before → after.unit ≡ before.unit
    → port_of (with_port unit after ss) unit ≡ Some after
port_with unit [] before after at same = absurd (none_some before at)
port_with unit (s ∷ ss) before after at same =
    by_bool (same_unit s.port.unit unit) (port_of (with_port unit after (s ∷ ss)) unit ≡ Some after)
    (λ e.
    let is : s.port ≡ before = same_some s.port before (sym (port_head unit s ss e) ∙ at) in
    let own : same_unit after.unit unit ≡ true = ap (λ (u : UnitId). same_unit u unit) (same ∙ ap (λ (p : PortValue). p.unit) (sym is)) ∙ e in
    ap (λ l. port_of l unit) (here e) ∙ port_head unit (record s { port = after }) ss own)
    (λ e.
    ap (λ l. port_of l unit) (later e) ∙ port_tail unit s (with_port unit after ss) e
    ∙ port_with unit ss before after (sym (port_tail unit s ss e) ∙ at) same)
  where
    here : same_unit s.port.unit unit ≡ true → with_port unit after (s ∷ ss) ≡ record s { port = after } ∷ ss
    here e = rw e refl

    later : same_unit s.port.unit unit ≡ false → with_port unit after (s ∷ ss) ≡ s ∷ with_port unit after ss
    later e = rw e refl

not_open : (settings : Option Settings) → settings ≡ None → IsSome settings → ⊥
not_open None none is = true≢false (sym is)
not_open (Some settings) none is = cc (none)

-- One that frees the port leaves it closed.
pub made_shut : (lan now : LanValue) (unit : UnitId) (answer : LanAnswer) (ss : List Station) → lan ≡ now → IsLan lan → IsSome (seat_at now.seats unit)
    → MadeAt lan.stations unit answer ss (Frees answer) → ¬ IsOpenAt (record lan { stations = ss }) unit
made_shut lan now unit answer ss same is there h opened = shut (subst (λ (o : Option PortValue). IfSome o IsOpen) after opened)
  where
    made : AtPort lan.stations unit ss (Frees answer)
    made = h.made (port_there lan now unit same is there)

    after : port_of ss unit ≡ Some made.after
    after = ap (λ (list : List Station). port_of list unit) made.rest
        ∙ port_with unit lan.stations made.before made.after made.was (ap (λ (p : PortValue). p.unit) made.done.done)

    shut : IsOpen made.after → ⊥
    shut opened = not_open made.after.settings (ap (λ (p : PortValue). p.settings) made.done.done) opened

-- room was made at the unit's port
pub room_made : (ss ss' : List Station) (unit : UnitId) (answer : Result Unit NoMemory) → AtPort ss unit ss' (Reserves 1 answer)
    → OnOk answer (HasRoom ss' unit)
room_made ss ss' unit answer h = by answer h.done.room
  where
    shown : port_of ss' unit ≡ Some h.after
    shown =
        ap (λ l. port_of l unit) h.rest ∙ port_with unit ss h.before h.after h.was (ap (λ (p : PortValue). p.unit) h.done.rest)

    by : (r : Result Unit NoMemory) → OnOk r (1 ≤ h.after.spare) → OnOk r (HasRoom ss' unit)
    by (Ok done) room = subst (λ o. IfSome o (λ (port : PortValue). 1 ≤ port.spare)) (sym shown) room
    by (Err memory) room = tt

-- and an open one is open still
pub room_opened : (ss ss' : List Station) (unit : UnitId) (answer : Result Unit NoMemory) → AtPort ss unit ss' (Reserves 1 answer)
    → IfSome (port_of ss unit) IsOpen → IfSome (port_of ss' unit) IsOpen
room_opened ss ss' unit answer h opened =
    let shown : port_of ss' unit ≡ Some h.after =
    ap (λ l. port_of l unit) h.rest ∙ port_with unit ss h.before h.after h.was (ap (λ (p : PortValue). p.unit) h.done.rest) in
    let was : IsOpen h.before = subst (λ (o : Option PortValue). IfSome o IsOpen) h.was opened in
    subst (λ (o : Option PortValue). IfSome o IsOpen) (sym shown)
    (subst (λ (o : Option Settings). IsSome o) (sym (ap (λ (p : PortValue). p.settings) h.done.rest)) was)

-- the place of a window that is away
pub place_after : (unit : UnitId) (ps ps' : List Place) (own : WindowValue) → window_in unit ps ≡ Some own → ps' ≡ with_window unit None ps → HasPlace unit ps'
place_after unit ps ps' own at e =
    subst (λ l. HasPlace unit l) (sym e)
    (omega (arith, place_with unit None ps, length_with unit None ps, has_place unit own ps at))

back_keys : (unit : UnitId) (ps ps₁ ps₂ : List Place) (own own' : WindowValue) → window_in unit ps ≡ Some own → ps₁ ≡ with_window unit None ps
    → ps₂ ≡ with_window unit (Some own') ps₁ → (known_of own').place ≡ (known_of own).place → own'.held_count ≡ own.held_count
    → map window_key ps₂ ≡ map window_key ps
back_keys unit ps ps₁ ps₂ own own' at e f place held =
    ap (λ l. map window_key l) (f ∙ ap (λ l. with_window unit (Some own') l) e ∙ with_twice unit None (Some own') ps)
    ∙ window_keys_with unit ps own own' at (ap (λ (p : PortPlace). p.size) place) held

-- a window that was taken and put back, and in which its unit alone laid strokes
pub lan_back : (lan : LanValue) (unit : UnitId) (ps₁ ps₂ : List Place) (own own' : WindowValue) → IsLan lan → window_in unit lan.places ≡ Some own
    → own.unit ≡ unit → ps₁ ≡ with_window unit None lan.places → ps₂ ≡ with_window unit (Some own') ps₁ → KeepsWindow false (known_of own) (known_of own')
    → IsLan (record lan { places = ps₂ })
lan_back lan unit ps₁ ps₂ own own' is at named e f keeps =
    lan_windows lan ps₂ is (back_keys unit lan.places ps₁ ps₂ own own' at e f keeps.place keeps.held)
    (λ carried. subst (λ (l : List Place). CarryAll lan.stations l lan.frames)
    (sym (f ∙ ap (λ l. with_window unit (Some own') l) e ∙ with_twice unit None (Some own') lan.places))
    (carried_own lan.stations lan.places lan.frames unit own own' at named keeps carried))

-- no window of the units holds anything
held_none : (ps : List Place) (seats : List PortSeat) → map window_key ps ≡ map seat_key seats → (u : UnitId) (qs : List Place)
    → (facts_of u qs (window_in u ps)).held_count ≡ 0
held_none [] seats e u qs = refl
held_none (p ∷ ps) [] e u qs = absurd (cc (e))
held_none (p ∷ ps) (s ∷ seats) e u qs =
    by_bool (same_unit p.unit u) ((facts_of u qs (window_in u (p ∷ ps))).held_count ≡ 0)
    (λ f. subst (λ (o : Option WindowValue). (facts_of u qs o).held_count ≡ 0) (sym (head f)) (free p.window (ap (λ (k : WindowKey). k.held) (heads e))))
    (λ f. subst (λ (o : Option WindowValue). (facts_of u qs o).held_count ≡ 0) (sym (tail f)) (held_none ps seats (tails e) u qs))
  where
    head : same_unit p.unit u ≡ true → window_in u (p ∷ ps) ≡ p.window
    head f = rw f refl

    tail : same_unit p.unit u ≡ false → window_in u (p ∷ ps) ≡ window_in u ps
    tail f = rw f refl

    heads : window_key p ∷ map window_key ps ≡ seat_key s ∷ map seat_key seats → window_key p ≡ seat_key s
    heads g = cc (g)

    tails : window_key p ∷ map window_key ps ≡ seat_key s ∷ map seat_key seats → map window_key ps ≡ map seat_key seats
    tails g = cc (g)

    free : (o : Option WindowValue) → option_map (λ (w : WindowValue). w.held_count) o ≡ Some 0 → (facts_of u qs o).held_count ≡ 0
    free (Some w) g = same_some w.held_count 0 g
    free None g = absurd (none_some 0 g)

pub others_free : (lan : LanValue) (unit : UnitId) (ps : List Place) (own : WindowValue) → IsLan lan → window_in unit lan.places ≡ Some own
    → ps ≡ with_window unit None lan.places → (u : UnitId) → (facts_in ps u).held_count ≡ 0
others_free lan unit ps own is at e u =
    by_bool (same_unit u unit) ((facts_in ps u).held_count ≡ 0)
    (λ f.
    let away : window_in u ps ≡ None =
    ap (λ (x : UnitId). window_in x ps) (one_unit u unit f) ∙ ap (λ l. window_in unit l) e
    ∙ window_with unit None lan.places (has_place unit own lan.places at) in
    subst (λ (o : Option WindowValue). (facts_of u ps o).held_count ≡ 0) (sym away) refl)
    (λ f.
    subst (λ (o : Option WindowValue). (facts_of u ps o).held_count ≡ 0)
    (sym (ap (λ l. window_in u l) e ∙ window_beside unit u None lan.places f)) (held_none lan.places lan.seats is.windows u ps))

-- the units of the windows are those of the seats
window_units : (ps : List Place) (seats : List PortSeat) → map window_key ps ≡ map seat_key seats → units_of ps ≡ map (λ seat. seat.unit) seats
window_units [] [] e = refl
window_units [] (s ∷ seats) e = absurd (cc (e))
window_units (p ∷ ps) [] e = absurd (cc (e))
window_units (p ∷ ps) (s ∷ seats) e =
    ap (λ (k : WindowKey). k.unit ∷ units_of ps) (heads e) ∙ ap (λ l. s.unit ∷ l) (window_units ps seats (tails e))
  where
    heads : window_key p ∷ map window_key ps ≡ seat_key s ∷ map seat_key seats → window_key p ≡ seat_key s
    heads g = cc (g)

    tails : window_key p ∷ map window_key ps ≡ seat_key s ∷ map seat_key seats → map window_key ps ≡ map seat_key seats
    tails g = cc (g)

units_with : (unit : UnitId) (o : Option WindowValue) (ps : List Place) → units_of (with_window unit o ps) ≡ units_of ps
units_with unit o [] = refl
units_with unit o (p ∷ ps) =
    by_bool (same_unit p.unit unit) (units_of (with_window unit o (p ∷ ps)) ≡ units_of (p ∷ ps)) (λ e. here e) (λ e. later e (units_with unit o ps))
  where
    here : same_unit p.unit unit ≡ true → units_of (with_window unit o (p ∷ ps)) ≡ units_of (p ∷ ps)
    here e = rw e refl

    later : same_unit p.unit unit ≡ false → units_of (with_window unit o ps) ≡ units_of ps → units_of (with_window unit o (p ∷ ps)) ≡ units_of (p ∷ ps)
    later e rest = rw e (ap (λ l. p.unit ∷ l) rest)

-- windows that were lent, of which the sender's stayed away
pub lent_keys : (lan : LanValue) (unit : UnitId) (ps₁ ps₂ ps₃ : List Place) (own own' : WindowValue) → IsLan lan → window_in unit lan.places ≡ Some own
    → ps₁ ≡ with_window unit None lan.places → facts_in ps₂ unit ≡ facts_in ps₁ unit → ((u : UnitId) → (facts_in ps₂ u).held_count ≡ 0)
    → ps₃ ≡ with_window unit (Some own') ps₂ → (known_of own').place ≡ (known_of own).place → own'.held_count ≡ own.held_count
    → map window_key ps₃ ≡ map window_key lan.places
lent_keys lan unit ps₁ ps₂ ps₃ own own' is at e facts free f place held =
    let away : window_in unit ps₁ ≡ None = ap (λ l. window_in unit l) e ∙ window_with unit None lan.places (has_place unit own lan.places at) in
    let back = away_back unit ps₁ ps₂ away facts in
    let units₁ : units_of ps₁ ≡ map (λ seat. seat.unit) lan.seats =
    ap (λ l. units_of l) e ∙ units_with unit None lan.places ∙ window_units lan.places lan.seats is.windows in
    let ascending₁ : AreAscending (units_of ps₁) = subst AreAscending (sym units₁) is.ascending in
    let ascending₂ : AreAscending (units_of ps₂) = subst AreAscending (sym (shape_units ps₁ ps₂ back.1)) ascending₁ in
    let same : map window_key ps₂ ≡ map window_key ps₁ =
    keys_back ps₁ ps₂ back.1 (all_free ps₁ ps₁ ascending₁ (others_free lan unit ps₁ own is at e)) (all_free ps₂ ps₂ ascending₂ free) in
    ap (λ l. map window_key l) f
    ∙ with_keys unit (Some own') ps₁ ps₂ same
    ∙ ap (λ l. map window_key (with_window unit (Some own') l)) e
    ∙ ap (λ l. map window_key l) (with_twice unit None (Some own') lan.places)
    ∙ window_keys_with unit lan.places own own' at (ap (λ (p : PortPlace). p.size) place) held

-- what a send leaves of the ports, whatever it answered
pub sent_ports : (seats : List PortSeat) (ss ss' : List Station) (frames : List (List FrameRow)) (unit : UnitId) (parts : List ℕ) (is_shared : Bool)
    (Found : ℕ → ℕ → Type 0) (window window' : PortState) (windows : LanWindows) (r : Result SendRecord NoMemory)
    → Sends seats ss frames unit → windows.is_shared ≡ false
    → IfOk r (IsSent ss ss' unit parts is_shared Found window window' windows) → OnErr r (FailsToSend ss ss' unit parts window window' windows)
    → HavePorts false seats (map port_key ss') frames
sent_ports seats ss ss' frames unit parts is_shared Found window window' windows (Ok made) sends plain sent failed =
    let o = owes seats ss ss' frames unit parts is_shared Found window window' windows made sends plain sent in
    subst (λ keys. HavePorts false seats keys frames) (sym o.counts) (short_ports unit made.frame seats o.keys frames o.kept)
sent_ports seats ss ss' frames unit parts is_shared Found window window' windows (Err memory) sends plain sent failed =
    let k = keys_failing ss ss' unit parts window window' windows failed in
    subst (λ keys. HavePorts false seats keys frames) (sym k.1) (short_ports unit k.0 seats (map port_key ss) frames sends.have)

pub sent_untouched : (ss ss' : List Station) (unit : UnitId) (parts : List ℕ) (is_shared : Bool) (Found : ℕ → ℕ → Type 0) (window window' : PortState)
    (windows : LanWindows) (r : Result SendRecord NoMemory) → IfOk r (IsSent ss ss' unit parts is_shared Found window window' windows)
    → OnErr r (FailsToSend ss ss' unit parts window window' windows) → windows.facts' unit ≡ windows.facts unit
sent_untouched ss ss' unit parts is_shared Found window window' windows (Ok made) sent failed =
    untouched ss ss' unit parts is_shared Found window window' windows made sent
sent_untouched ss ss' unit parts is_shared Found window window' windows (Err memory) sent failed =
    untouched_failing ss ss' unit parts window window' windows failed

-- the place of a window that stayed away while the others were lent
place_units : (unit : UnitId) (old new : List Place) → units_of new ≡ units_of old
    → (place_in unit new ≡ place_in unit old) × (length new ≡ length old)
place_units unit [] [] e = (refl, refl)
place_units unit [] (q ∷ qs) e = absurd (cc (e))
place_units unit (p ∷ ps) [] e = absurd (cc (e))
place_units unit (p ∷ ps) (q ∷ qs) e =
    let rest = place_units unit ps qs (tails e) in
    let same : same_unit q.unit unit ≡ same_unit p.unit unit = ap (λ (u : UnitId). same_unit u unit) (heads e) in (
      by_bool (same_unit p.unit unit) (place_in unit (q ∷ qs) ≡ place_in unit (p ∷ ps))
          (λ f. place_head unit q qs (same ∙ f) ∙ sym (place_head unit p ps f))
          (λ f. place_tail unit q qs (same ∙ f) ∙ ap suc rest.0 ∙ sym (place_tail unit p ps f)),
      ap suc rest.1,
    )
  where
    heads : q.unit ∷ units_of qs ≡ p.unit ∷ units_of ps → q.unit ≡ p.unit
    heads g = cc (g)

    tails : q.unit ∷ units_of qs ≡ p.unit ∷ units_of ps → units_of qs ≡ units_of ps
    tails g = cc (g)

pub place_lent : (unit : UnitId) (ps ps₁ ps₂ : List Place) (own : WindowValue) → window_in unit ps ≡ Some own → ps₁ ≡ with_window unit None ps
    → facts_in ps₂ unit ≡ facts_in ps₁ unit → HasPlace unit ps₂
place_lent unit ps ps₁ ps₂ own at e facts =
    let away : window_in unit ps₁ ≡ None = ap (λ l. window_in unit l) e ∙ window_with unit None ps (has_place unit own ps at) in
    let back = away_back unit ps₁ ps₂ away facts in
    let same = place_units unit ps₁ ps₂ (shape_units ps₁ ps₂ back.1) in
    omega (arith, same.0, same.1, place_after unit ps ps₁ own at e)

-- the windows of a send
pub lending : (ps : List Place) (unit : UnitId) (ps₁ ps₂ ps₃ : List Place) (own own' : WindowValue) → window_in unit ps ≡ Some own → own.unit ≡ unit
    → ps₁ ≡ with_window unit None ps → ps₃ ≡ with_window unit (Some own') ps₂ → HasPlace unit ps₂ → own.held_count ≡ 0
    → OnlyReadThrough false (known_of own) (known_of own') → IsLending unit ps ps₁ ps₂ ps₃ own own'
lending ps unit ps₁ ps₂ ps₃ own own' at named away back place free read = record {
  at = at;
  named = named;
  away = away;
  back = back;
  place = place;
  keeps = keeps_through (known_of own) (known_of own') read free;
}

-- a send that was answered is owed
pub owes_ok : (seats : List PortSeat) (ss ss' : List Station) (ps ps₁ ps₂ ps₃ : List Place) (own own' : WindowValue) (frames : List (List FrameRow)) (unit : UnitId)
    (parts : List ℕ) (Found : ℕ → ℕ → Type 0) (r : Result SendRecord NoMemory) → Sends seats ss frames unit → CarryAll ss ps frames
    → IsLending unit ps ps₁ ps₂ ps₃ own own' → length parts ≤ MOST_PARTS
    → IfOk r (IsSent ss ss' unit parts false Found (known_of own) (known_of own') (windows_of false facts_in FoundIn ps₁ ps₂))
    → IfOk r (Owes (record { seats = seats; stations = ss'; places = ps₃; frames = frames; whole = false }) unit)
owes_ok seats ss ss' ps ps₁ ps₂ ps₃ own own' frames unit parts Found (Ok made) sends carried lends few sent =
    let o = owes seats ss ss' frames unit parts false Found (known_of own) (known_of own') (windows_of false facts_in FoundIn ps₁ ps₂) made sends refl sent in
    record {
      keys = o.keys;
      kept = o.kept;
      counts = o.counts;
      next = o.next;
      lawful = o.lawful;
      balanced = o.balanced;
      carried = carried_sent seats unit parts ps ps₁ ps₂ ps₃ own own' ss ss' frames Found made lends sends (omega (arith, few, parts_few parts)) sent carried;
    }
owes_ok seats ss ss' ps ps₁ ps₂ ps₃ own own' frames unit parts Found (Err memory) sends carried lends few sent = tt

-- where the frames are whole
pub whole_carried : (lan now : LanValue) → lan ≡ now → IsLan lan → now.whole ≡ true → CarryAll lan.stations lan.places lan.frames
whole_carried lan now same is whole = is.carried (ap (λ (l : LanValue). l.whole) same ∙ whole)

pub whole_sends : (lan now : LanValue) (unit : UnitId) → lan ≡ now → IsLan lan → now.whole ≡ true → IsSome (seat_at now.seats unit)
    → Sends lan.seats lan.stations lan.frames unit
whole_sends lan now unit same is whole there =
    let full : lan.whole ≡ true = ap (λ (l : LanValue). l.whole) same ∙ whole in
    record {
      have = subst (λ w. HavePorts w lan.seats (map port_key lan.stations) lan.frames) full is.ports;
      balanced = is.balanced full;
      ascending = subst AreAscending (sym (station_units lan.whole lan.seats lan.stations lan.frames is.ports)) is.ascending;
      there = subst (λ (l : LanValue). IsSome (seat_at l.seats unit)) (sym same) there;
    }

-- the place of the frames of a seat
seat_within : (unit : UnitId) (seats : List PortSeat) → IsSome (seat_at seats unit) → seat_place unit seats < length seats
seat_within unit [] there = absurd (cc (there))
seat_within unit (s ∷ seats) there =
    by_bool (same_unit s.unit unit) (seat_place unit (s ∷ seats) < length (s ∷ seats))
    (λ e. omega (arith, here e)) (λ e. omega (arith, later e, seat_within unit seats (rest e there)))
  where
    here : same_unit s.unit unit ≡ true → seat_place unit (s ∷ seats) ≡ 0
    here e = rw e refl

    later : same_unit s.unit unit ≡ false → seat_place unit (s ∷ seats) ≡ suc (seat_place unit seats)
    later e = rw e refl

    rest : same_unit s.unit unit ≡ false → IsSome (seat_at (s ∷ seats) unit) → IsSome (seat_at seats unit)
    rest e h = subst IsSome (tail e) h
      where
        tail : same_unit s.unit unit ≡ false → seat_at (s ∷ seats) unit ≡ seat_at seats unit
        tail g = rw g refl

pub frames_within : (lan now : LanValue) (unit : UnitId) (place : ℕ) → lan ≡ now → IsLan lan → IsSome (seat_at now.seats unit)
    → place ≡ seat_place unit lan.seats → place < length lan.frames
frames_within lan now unit place same is there at =
    omega (
      arith,
      at,
      frames_long lan.whole lan.seats (map port_key lan.stations) lan.frames is.ports,
      seat_within unit lan.seats (subst (λ (l : LanValue). IsSome (seat_at l.seats unit)) (sym same) there),
    )
