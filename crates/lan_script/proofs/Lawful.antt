-- The rows of all units keep the law of ports, and stand in a trace's order.
use Rattle.std.proofs.Common.{◌≡◌, ◌==◌, ◌+◌, ◌^◌, ◌<◌, ◌≤◌, ℕ, suc, arith, Bool, true, false, All, List, [], ◌∷◌, ◌++◌, inl, Option, Some, None, IfSome, IsSome, filter, if◌then◌else◌, length, map, refl, sym, ◌∙◌, ap, subst}
use Rattle.std.specs.List.{flat_map, slice_get}
use Rattle.std.proofs.lemmas.List.Elements.{All-weaker}
use Rattle.vio_num.specs.declared.names.UnitId.{UnitId}
use Rattle.lan_buffers.specs.Calls.{IsOpen}
use Rattle.lan_buffers.specs.Port.{PortValue}
use Rattle.lan_buffers.specs.declared.rows.DeliverRow.{DeliverRow as Delivery}
use Rattle.lan_buffers.specs.declared.rows.HarvestRow.{HarvestRow as Harvest}
use Rattle.lan_switch.specs.declared.station.Station.{Station}
use Rattle.lan_switch.specs.Switch.{IsPort, port_of, same_unit}
use Rattle.vio_trace.specs.Form.{Ascend, DeliverBefore, FrameBefore, HarvestBefore, IsOfferOf, PortBefore, PostBefore, UnitBefore}
use Rattle.vio_trace.specs.declared.lan_rows.DeliverRow.{DeliverRow}
use Rattle.vio_trace.specs.declared.lan_rows.FrameRow.{FrameRow}
use Rattle.vio_trace.specs.declared.lan_rows.HarvestRow.{HarvestRow}
use Rattle.vio_trace.specs.declared.lan_rows.PortRow.{PortRow}
use Rattle.vio_trace.specs.declared.lan_rows.PostRow.{PostRow}
use Rattle.lan_script.specs.declared.rows.LanRows.{LanRows}
use Rattle.lan_script.specs.declared.seat.PortSeat.{PortSeat}
use Rattle.lan_script.specs.Buffers.{posted_of}
use Rattle.lan_script.specs.Delivered.{drops_counted, drops_to, given, taken}
use Rattle.lan_script.specs.Invariant.{HaveBegun, IsLan, all_of, drops_at, drops_by, posted_in, rows_at, rows_in, sent_by, total}
use Rattle.lan_script.specs.PortLaw.{AreOrdered, IsOfPort, PortsAreLawful}
use Rattle.lan_script.specs.Rows.{HasLawfulPort, deliver_row_of, deliver_rows, harvest_row_of, harvest_rows, numbered, port_in, port_or, port_row_of, port_rows, post_rows}
use Rattle.lan_script.specs.PortCounts.{counts_in, is_frame}
use Rattle.lan_script.specs.Resting.{HasReadAll}
use Rattle.lan_script.specs.Replayed.{sessions_by}
use Rattle.lan_script.specs.RowsOf.{CountsRows, IsRowsOf}
use Rattle.lan_script.specs.Seats.{seat_at}
use Rattle.lan_script.specs.Spent.{IsNamed, WasSpent}
use Rattle.lan_script.specs.Units.{AreFrames, HavePorts, IsLawfulOffer, LanValue, PortKey, port_key}
use Rattle.lan_script.proofs.Blocks.{all_from_each, before_other, both_each, each_from_all, of_seats, seats_ordered, self, sole_block}
use Rattle.lan_script.proofs.Bringing.{begun_at}
use Rattle.lan_script.proofs.Found.{IsFound, at_unit, counted_total, filter_unit, found, no_port, pick}
use Rattle.lan_script.proofs.LastSession.{of_session}
use Rattle.lan_script.proofs.Order.{Each, Ordered, ascends, each_append, each_weaker, ordered_flat}
use Rattle.lan_script.proofs.Placing.{by_bool, same_some}
use Rattle.lan_script.proofs.Spent.{row_named, was_named}
use Rattle.lan_script.proofs.RowLaws.{IsFrom, deliveries_are, frames_named, frames_ordered, harvests_are, ports_named, ports_ordered, posts_are}

every : {X : Type 0} (P : X → Type 0) → ((x : X) → P x) → (xs : List X) → Each P xs
every P all [] = tt
every P all (x ∷ xs) = (all x, every P all xs)

-- units apart
other_unit : (a b : UnitId) → UnitBefore a b → same_unit a b ≡ false
other_unit a b before = before_other a b before

-- A seat's port is there, with the seat's slots.
pub record HasOwn (ss : List Station) (seat : PortSeat) : Type 0 where
  pub port : PortValue
  pub is : port_of ss seat.unit ≡ Some port
  pub slots : port.slots ≡ seat.slots

pub own_ports : (whole : Bool) (seats : List PortSeat) (ss : List Station) (frames : List (List FrameRow)) → HavePorts whole seats (map port_key ss) frames
    → Ordered (λ (a b : PortSeat). UnitBefore a.unit b.unit) seats → Each (HasOwn ss) seats
own_ports whole [] ss frames have order = tt
own_ports whole (s ∷ seats) [] frames have order = absurd have
own_ports whole (s ∷ seats) (t ∷ ss) [] have order = absurd have
own_ports whole (s ∷ seats) (t ∷ ss) (f ∷ frames) have order = (
  record { port = t.port; is = here have.0.0.unit_is; slots = have.0.0.slots_is },
  both_each (λ (y : PortSeat). UnitBefore s.unit y.unit) (HasOwn ss) (HasOwn (t ∷ ss)) seats
      (λ y before own. record { port = own.port; is = later y before ∙ own.is; slots = own.slots }) order.0
      (own_ports whole seats ss frames have.1 order.1),
)
  where
    here : t.port.unit ≡ s.unit → port_of (t ∷ ss) s.unit ≡ Some t.port
    here e = head (ap (λ (u : UnitId). same_unit u s.unit) e ∙ self s.unit)
      where
        head : same_unit t.port.unit s.unit ≡ true → port_of (t ∷ ss) s.unit ≡ Some t.port
        head g = rw g refl

    later : (y : PortSeat) → UnitBefore s.unit y.unit → port_of (t ∷ ss) y.unit ≡ port_of ss y.unit
    later y before = tail (ap (λ (u : UnitId). same_unit u y.unit) have.0.0.unit_is ∙ other_unit s.unit y.unit before)
      where
        tail : same_unit t.port.unit y.unit ≡ false → port_of (t ∷ ss) y.unit ≡ port_of ss y.unit
        tail g = rw g refl

own_slots : (ss : List Station) (seat : PortSeat) → HasOwn ss seat → (port_in ss seat).slots ≡ seat.slots
own_slots ss seat own = ap (λ o. (port_or seat.unit o).slots) own.is ∙ own.slots

pub are_ports : (ss : List Station) (seats : List PortSeat) → Each (HasOwn ss) seats → All (λ (seat : PortSeat). IsPort ss seat.unit) seats
are_ports ss seats own =
    all_from_each (λ (seat : PortSeat). IsPort ss seat.unit) seats
    (each_weaker (HasOwn ss) (λ (seat : PortSeat). IsPort ss seat.unit) (λ seat h. some (port_of ss seat.unit) h.port h.is) seats own)
  where
    some : (o : Option PortValue) (p : PortValue) → o ≡ Some p → IsSome o
    some (Some q) p e = refl
    some None p e = absurd (cc (e))

-- whose the rows of each seat are
named_by : {Row : Type 0} (unit : Row → UnitId) (number : Row → ℕ) (f : PortSeat → List Row)
    → ((seat : PortSeat) → Each (IsFrom unit number seat.unit 1) (f seat)) → (seats : List PortSeat)
    → Each (λ seat. Each (λ row. unit row ≡ seat.unit) (f seat)) seats
named_by unit number f own seats =
    every (λ seat. Each (λ row. unit row ≡ seat.unit) (f seat))
    (λ seat. each_weaker (IsFrom unit number seat.unit 1) (λ row. unit row ≡ seat.unit) (λ row h. h.0) (f seat) (own seat)) seats

-- frames with the seats of their units
abbrev zipped : List PortSeat → List (List FrameRow) → List (PortSeat × List FrameRow)
zipped [] frames = []
zipped (s ∷ seats) [] = []
zipped (s ∷ seats) (f ∷ frames) = (s, f) ∷ zipped seats frames

zip_flat : (whole : Bool) (seats : List PortSeat) (keys : List PortKey) (frames : List (List FrameRow)) → HavePorts whole seats keys frames
    → flat_map (λ (x : PortSeat × List FrameRow). x.1) (zipped seats frames) ≡ flat_map (λ own. own) frames
zip_flat whole [] [] [] have = refl
zip_flat whole [] (k ∷ keys) frames have = absurd have
zip_flat whole [] [] (f ∷ frames) have = absurd have
zip_flat whole (s ∷ seats) [] frames have = absurd have
zip_flat whole (s ∷ seats) (k ∷ keys) [] have = absurd have
zip_flat whole (s ∷ seats) (k ∷ keys) (f ∷ frames) have = ap (λ l. f ++ l) (zip_flat whole seats keys frames have.1)

zip_frames : (seats : List PortSeat) (keys : List PortKey) (frames : List (List FrameRow)) → HavePorts true seats keys frames
    → Each (λ (x : PortSeat × List FrameRow). AreFrames x.0.unit 1 x.1) (zipped seats frames)
zip_frames [] keys frames have = tt
zip_frames (s ∷ seats) [] frames have = absurd have
zip_frames (s ∷ seats) (k ∷ keys) [] have = absurd have
zip_frames (s ∷ seats) (k ∷ keys) (f ∷ frames) have =
    (subst (λ (u : UnitId). AreFrames u 1 f) have.0.0.unit_is (have.0.1 refl).numbered, zip_frames seats keys frames have.1)

zip_ordered : (seats : List PortSeat) (frames : List (List FrameRow)) → Ordered (λ (a b : PortSeat). UnitBefore a.unit b.unit) seats
    → Ordered (λ (a b : PortSeat × List FrameRow). UnitBefore a.0.unit b.0.unit) (zipped seats frames)
zip_ordered [] frames order = tt
zip_ordered (s ∷ seats) [] order = tt
zip_ordered (s ∷ seats) (f ∷ frames) order = (behind seats frames order.0, zip_ordered seats frames order.1)
  where
    behind : (ys : List PortSeat) (fs : List (List FrameRow)) → Each (λ (y : PortSeat). UnitBefore s.unit y.unit) ys
        → Each (λ (x : PortSeat × List FrameRow). UnitBefore s.unit x.0.unit) (zipped ys fs)
    behind [] fs all = tt
    behind (y ∷ ys) [] all = tt
    behind (y ∷ ys) (g ∷ fs) all = (all.0, behind ys fs all.1)

zip_seats : (P : PortSeat → Type 0) (whole : Bool) (seats : List PortSeat) (keys : List PortKey) (frames : List (List FrameRow)) → HavePorts whole seats keys frames
    → Each (λ (x : PortSeat × List FrameRow). P x.0) (zipped seats frames) → Each P seats
zip_seats P whole [] keys frames have all = tt
zip_seats P whole (s ∷ seats) [] frames have all = absurd have
zip_seats P whole (s ∷ seats) (k ∷ keys) [] have all = absurd have
zip_seats P whole (s ∷ seats) (k ∷ keys) (f ∷ frames) have all = (all.0, zip_seats P whole seats keys frames have.1 all.1)

-- the frames of the seat of a unit stand among all
zip_named : (seats : List PortSeat) (frames : List (List FrameRow)) → Each (λ (x : PortSeat × List FrameRow). AreFrames x.0.unit 1 x.1) (zipped seats frames)
    → Each (λ (x : PortSeat × List FrameRow). Each (λ row. row.unit ≡ x.0.unit) x.1) (zipped seats frames)
zip_named seats frames all =
    each_weaker (λ (x : PortSeat × List FrameRow). AreFrames x.0.unit 1 x.1) (λ (x : PortSeat × List FrameRow). Each (λ row. row.unit ≡ x.0.unit) x.1)
    (λ x are. each_weaker (IsFrom (λ (row : FrameRow). row.unit) (λ row. row.number) x.0.unit 1) (λ row. row.unit ≡ x.0.unit) (λ row h. h.0) x.1 (frames_named x.0.unit 1 x.1 are))
    (zipped seats frames) all

frames_of_seats : (seats : List PortSeat) (keys : List PortKey) (frames : List (List FrameRow)) → HavePorts true seats keys frames
    → Each (λ (row : FrameRow). IsSome (seat_at seats row.unit)) (flat_map (λ own. own) frames)
frames_of_seats [] [] [] have = tt
frames_of_seats [] (k ∷ keys) frames have = absurd have
frames_of_seats [] [] (f ∷ frames) have = absurd have
frames_of_seats (s ∷ seats) [] frames have = absurd have
frames_of_seats (s ∷ seats) (k ∷ keys) [] have = absurd have
frames_of_seats (s ∷ seats) (k ∷ keys) (f ∷ frames) have =
    each_append (λ (row : FrameRow). IsSome (seat_at (s ∷ seats) row.unit)) f (flat_map (λ own. own) frames)
    (each_weaker (IsFrom (λ (row : FrameRow). row.unit) (λ row. row.number) k.unit 1) (λ (row : FrameRow). IsSome (seat_at (s ∷ seats) row.unit))
    (λ row h. here row.unit (h.0 ∙ have.0.0.unit_is)) f (frames_named k.unit 1 f (have.0.1 refl).numbered))
    (each_weaker (λ (row : FrameRow). IsSome (seat_at seats row.unit)) (λ (row : FrameRow). IsSome (seat_at (s ∷ seats) row.unit)) (λ row h. later row.unit h)
    (flat_map (λ own. own) frames) (frames_of_seats seats keys frames have.1))
  where
    here : (u : UnitId) → u ≡ s.unit → IsSome (seat_at (s ∷ seats) u)
    here u e = subst (λ (v : UnitId). IsSome (seat_at (s ∷ seats) v)) (sym e) (head (self s.unit))
      where
        head : same_unit s.unit s.unit ≡ true → IsSome (seat_at (s ∷ seats) s.unit)
        head g = rw g refl

    later : (u : UnitId) → IsSome (seat_at seats u) → IsSome (seat_at (s ∷ seats) u)
    later u h = by_bool (same_unit s.unit u) (IsSome (seat_at (s ∷ seats) u)) (λ g. rw g refl) (λ g. rw g h)

-- each offer names its frame
offers_in : (u : UnitId) (n : ℕ) (rows : List FrameRow) → AreFrames u n rows → Each (λ frame. All (IsOfferOf frame) frame.offers) rows
offers_in u n [] are = tt
offers_in u n (row ∷ rows) are =
    (All-weaker (IsLawfulOffer row) (IsOfferOf row) (λ offer h. h.named) row.offers are.0.offers, offers_in u (n + 1) rows are.1)

offers_named : (seats : List PortSeat) (keys : List PortKey) (frames : List (List FrameRow)) → HavePorts true seats keys frames
    → Each (λ (frame : FrameRow). All (IsOfferOf frame) frame.offers) (flat_map (λ own. own) frames)
offers_named [] [] [] have = tt
offers_named [] (k ∷ keys) frames have = absurd have
offers_named [] [] (f ∷ frames) have = absurd have
offers_named (s ∷ seats) [] frames have = absurd have
offers_named (s ∷ seats) (k ∷ keys) [] have = absurd have
offers_named (s ∷ seats) (k ∷ keys) (f ∷ frames) have =
    each_append (λ (frame : FrameRow). All (IsOfferOf frame) frame.offers) f (flat_map (λ own. own) frames) (offers_in k.unit 1 f (have.0.1 refl).numbered)
    (offers_named seats keys frames have.1)

-- the rows of a seat
abbrev ports_by : List Station → PortSeat → List PortRow
ports_by ss seat = port_rows seat.unit (port_in ss seat)

abbrev pub posts_by : List Station → PortSeat → List PostRow
posts_by ss seat = post_rows seat.unit (port_in ss seat)

abbrev pub delivers_by : List Station → PortSeat → List DeliverRow
delivers_by ss seat = deliver_rows seat.unit (port_in ss seat)

abbrev harvests_by : List Station → PortSeat → List HarvestRow
harvests_by ss seat = harvest_rows seat.unit (port_in ss seat)

ports_own : (ss : List Station) (seats : List PortSeat) → Each (λ (seat : PortSeat). Each (λ (row : PortRow). row.unit ≡ seat.unit) (ports_by ss seat)) seats
ports_own ss seats =
    named_by (λ (row : PortRow). row.unit) (λ row. row.session) (ports_by ss)
    (λ seat. ports_named seat.unit (port_in ss seat).slots 1 (port_in ss seat).drop_counts) seats

posts_own : (ss : List Station) (seats : List PortSeat) → Each (λ (seat : PortSeat). Each (λ (row : PostRow). row.unit ≡ seat.unit) (posts_by ss seat)) seats
posts_own ss seats =
    named_by (λ (row : PostRow). row.unit) (λ row. row.session) (posts_by ss)
    (λ seat. (posts_are seat.unit (port_in ss seat).posts 1 (length (port_in ss seat).drop_counts)).1) seats

pub delivers_own : (ss : List Station) (seats : List PortSeat) → Each (λ (seat : PortSeat). Each (λ (row : DeliverRow). row.unit ≡ seat.unit) (delivers_by ss seat)) seats
delivers_own ss seats =
    named_by (λ (row : DeliverRow). row.unit) (λ row. row.session) (delivers_by ss)
    (λ seat. (deliveries_are seat.unit (port_in ss seat).deliveries 1 (length (port_in ss seat).drop_counts)).1) seats

harvests_own : (ss : List Station) (seats : List PortSeat) → Each (λ (seat : PortSeat). Each (λ (row : HarvestRow). row.unit ≡ seat.unit) (harvests_by ss seat)) seats
harvests_own ss seats =
    named_by (λ (row : HarvestRow). row.unit) (λ row. row.session) (harvests_by ss)
    (λ seat. (harvests_are seat.unit (port_in ss seat).harvests 1 (length (port_in ss seat).drop_counts)).1) seats

-- what a filter by a seat's unit leaves of these rows is the seat's own block
abbrev pub IsSole : {Row : Type 0} → (Row → UnitId) → (PortSeat → List Row) → List Row → PortSeat → Type 0
IsSole unit f rows seat = filter (λ row. same_unit (unit row) seat.unit) rows ≡ f seat

pub soles : {Row : Type 0} (unit : Row → UnitId) (f : PortSeat → List Row) (rows : List Row) (seats : List PortSeat) → rows ≡ flat_map f seats
    → Each (λ seat. Each (λ row. unit row ≡ seat.unit) (f seat)) seats → Ordered (λ (a b : PortSeat). UnitBefore a.unit b.unit) seats
    → Each (IsSole unit f rows) seats
soles unit f rows seats e named order =
    subst (λ l. Each (IsSole unit f l) seats) (sym e) (sole_block (λ (seat : PortSeat). seat.unit) unit f seats named order)

of_ports : (ss : List Station) (seats : List PortSeat) (ports : List PortRow) (posts : List PostRow) (delivers : List DeliverRow) (harvests : List HarvestRow)
    → Each (HasOwn ss) seats → Each (HasLawfulPort ss) seats → Each (IsSole (λ row. row.unit) (ports_by ss) ports) seats
    → Each (IsSole (λ row. row.unit) (posts_by ss) posts) seats → Each (IsSole (λ row. row.unit) (delivers_by ss) delivers) seats
    → Each (IsSole (λ row. row.unit) (harvests_by ss) harvests) seats → Each (λ seat. IsOfPort seat ports posts delivers harvests) seats
of_ports ss [] ports posts delivers harvests own lawful a b c d = tt
of_ports ss (s ∷ seats) ports posts delivers harvests own lawful a b c d = (
  record {
    port = port_in ss s;
    lawful = lawful.0;
    slots_is = own_slots ss s own.0;
    sessions = a.0;
    posted = b.0;
    delivered = c.0;
    harvested = d.0;
  },
  of_ports ss seats ports posts delivers harvests own.1 lawful.1 a.1 b.1 c.1 d.1,
)

-- the frames of each seat are numbered
all_numbered : (seats : List PortSeat) (keys : List PortKey) (frames : List (List FrameRow)) (rows : List FrameRow) → HavePorts true seats keys frames
    → rows ≡ flat_map (λ own. own) frames → Ordered (λ (a b : PortSeat). UnitBefore a.unit b.unit) seats
    → Each (λ (seat : PortSeat). AreFrames seat.unit 1 (filter (λ (row : FrameRow). same_unit row.unit seat.unit) rows)) seats
all_numbered seats keys frames rows have e order =
    zip_seats (λ (seat : PortSeat). AreFrames seat.unit 1 (filter (λ (row : FrameRow). same_unit row.unit seat.unit) rows)) true seats keys frames have
    (both_each (λ (x : PortSeat × List FrameRow). AreFrames x.0.unit 1 x.1) (λ (x : PortSeat × List FrameRow). filter (λ (row : FrameRow). same_unit row.unit x.0.unit) rows ≡ x.1)
    (λ (x : PortSeat × List FrameRow). AreFrames x.0.unit 1 (filter (λ (row : FrameRow). same_unit row.unit x.0.unit) rows)) (zipped seats frames)
    (λ x are same. subst (λ (l : List FrameRow). AreFrames x.0.unit 1 l) (sym same) are) (zip_frames seats keys frames have)
    (subst (λ l. Each (λ (x : PortSeat × List FrameRow). filter (λ (row : FrameRow). same_unit row.unit x.0.unit) l ≡ x.1) (zipped seats frames))
    (zip_flat true seats keys frames have ∙ sym e)
    (sole_block (λ (x : PortSeat × List FrameRow). x.0.unit) (λ (row : FrameRow). row.unit) (λ (x : PortSeat × List FrameRow). x.1) (zipped seats frames)
    (zip_named seats frames (zip_frames seats keys frames have)) (zip_ordered seats frames order))))

own_rows : {Row : Type 0} (unit : Row → UnitId) (f : PortSeat → List Row) (seats : List PortSeat) (rows : List Row) → rows ≡ flat_map f seats
    → Each (λ seat. Each (λ row. unit row ≡ seat.unit) (f seat)) seats → All (λ row. IsSome (seat_at seats (unit row))) rows
own_rows unit f seats rows e named =
    all_from_each (λ row. IsSome (seat_at seats (unit row))) rows
    (subst (λ l. Each (λ row. IsSome (seat_at seats (unit row))) l) (sym e) (of_seats unit f seats named))

pub whole_ports : (lan : LanValue) → IsLan lan → lan.whole ≡ true → HavePorts true lan.seats (map port_key lan.stations) lan.frames
whole_ports lan is whole = subst (λ w. HavePorts w lan.seats (map port_key lan.stations) lan.frames) whole is.ports

pub in_order : (lan : LanValue) → IsLan lan → Ordered (λ (a b : PortSeat). UnitBefore a.unit b.unit) lan.seats
in_order lan is = seats_ordered lan.seats is.ascending (each_from_all (λ (seat : PortSeat). seat.unit.unit < 256) lan.seats is.named)

pub ports_there : (lan : LanValue) → IsLan lan → All (λ (seat : PortSeat). IsPort lan.stations seat.unit) lan.seats
ports_there lan is = are_ports lan.stations lan.seats (own_ports lan.whole lan.seats lan.stations lan.frames is.ports (in_order lan is))

-- a unit's name
abbrev unit_in : PortSeat → UnitId
unit_in seat = seat.unit

-- the deliveries of a unit are its port's, if it has one
delivers_found : (whole : Bool) (ss : List Station) (seats : List PortSeat) (frames : List (List FrameRow)) (u : UnitId)
    → HavePorts whole seats (map port_key ss) frames → Each (HasOwn ss) seats → (o : Option PortSeat) → at_unit unit_in u seats ≡ o
    → found (delivers_by ss) o ≡ rows_at ss u
delivers_found whole ss seats frames u have own None at = sym (ap (λ o. rows_in u o) (no_port whole u seats ss frames have at))
delivers_found whole ss seats frames u have own (Some seat) at =
    let is = pick unit_in (HasOwn ss) u seat seats own at in
    ap (λ o. deliver_rows seat.unit (port_or seat.unit o)) is.holds.is ∙ sym (ap (λ o. rows_in seat.unit o) is.holds.is)
    ∙ ap (λ v. rows_at ss v) is.unit_is

-- and so are its drops
drops_found : (whole : Bool) (ss : List Station) (seats : List PortSeat) (frames : List (List FrameRow)) (u : UnitId)
    → HavePorts whole seats (map port_key ss) frames → Each (HasOwn ss) seats → (o : Option PortSeat) → at_unit unit_in u seats ≡ o
    → drops_counted (found (ports_by ss) o) ≡ drops_at ss u
drops_found whole ss seats frames u have own None at = sym (ap (λ o. drops_by o) (no_port whole u seats ss frames have at))
drops_found whole ss seats frames u have own (Some seat) at =
    let is = pick unit_in (HasOwn ss) u seat seats own at in
    counted_total seat.unit (port_in ss seat).slots 1 (port_in ss seat).drop_counts
    ∙ ap (λ o. total (port_or seat.unit o).drop_counts) is.holds.is ∙ sym (ap (λ o. drops_by o) is.holds.is)
    ∙ ap (λ v. drops_at ss v) is.unit_is

-- its frames are those that it sent
frames_found : (seats : List PortSeat) (frames : List (List FrameRow)) (u : UnitId)
    → found (λ (x : PortSeat × List FrameRow). x.1) (at_unit (λ (x : PortSeat × List FrameRow). x.0.unit) u (zipped seats frames)) ≡ sent_by seats frames u
frames_found [] frames u = refl
frames_found (s ∷ seats) [] u = refl
frames_found (s ∷ seats) (f ∷ frames) u = by (same_unit s.unit u) (frames_found seats frames u)
  where
    by : (b : Bool)
        → found (λ (x : PortSeat × List FrameRow). x.1) (at_unit (λ (x : PortSeat × List FrameRow). x.0.unit) u (zipped seats frames)) ≡ sent_by seats frames u
        → found (λ (x : PortSeat × List FrameRow). x.1)
        (if b then Some (s, f) else at_unit (λ (x : PortSeat × List FrameRow). x.0.unit) u (zipped seats frames)) ≡ (if b then f else sent_by seats frames u)
    by true rest = refl
    by false rest = rest

filter_frames : (seats : List PortSeat) (keys : List PortKey) (frames : List (List FrameRow)) (rows : List FrameRow) (u : UnitId) → HavePorts true seats keys frames
    → rows ≡ all_of frames → Ordered (λ (a b : PortSeat). UnitBefore a.unit b.unit) seats
    → filter (λ (row : FrameRow). same_unit row.unit u) rows ≡ sent_by seats frames u
filter_frames seats keys frames rows u have e order =
    ap (λ l. filter (λ (row : FrameRow). same_unit row.unit u) l) (e ∙ sym (zip_flat true seats keys frames have))
    ∙ filter_unit (λ (x : PortSeat × List FrameRow). x.0.unit) (λ (row : FrameRow). row.unit) (λ (x : PortSeat × List FrameRow). x.1) u (zipped seats frames)
    (zip_named seats frames (zip_frames seats keys frames have)) (zip_ordered seats frames order)
    ∙ frames_found seats frames u

-- The law of ports.
pub law : (lan : LanValue) (rows : LanRows) → IsLan lan → lan.whole ≡ true → length rows.frames.items < 2 ^ 64 → IsRowsOf lan rows
    → All (HasLawfulPort lan.stations) lan.seats
    → PortsAreLawful lan.seats rows.frames.items rows.ports.items rows.posts.items rows.delivers.items rows.harvests.items
law lan rows is whole short exact lawful =
    let ss = lan.stations in
    let seats = lan.seats in
    let order = in_order lan is in
    let have = whole_ports lan is whole in
    let own = own_ports true seats ss lan.frames have order in
    let balanced = is.balanced whole in
    record {
      of_ports = all_from_each (λ seat. IsOfPort seat rows.ports.items rows.posts.items rows.delivers.items rows.harvests.items) seats
          (of_ports ss seats rows.ports.items rows.posts.items rows.delivers.items rows.harvests.items
          own (each_from_all (HasLawfulPort ss) seats lawful)
          (soles (λ (row : PortRow). row.unit) (ports_by ss) rows.ports.items seats exact.ports (ports_own ss seats) order)
          (soles (λ (row : PostRow). row.unit) (posts_by ss) rows.posts.items seats exact.posts (posts_own ss seats) order)
          (soles (λ (row : DeliverRow). row.unit) (delivers_by ss) rows.delivers.items seats exact.delivers (delivers_own ss seats) order)
          (soles (λ (row : HarvestRow). row.unit) (harvests_by ss) rows.harvests.items seats exact.harvests (harvests_own ss seats) order));
      numbered = all_from_each (λ (seat : PortSeat). AreFrames seat.unit 1 (filter (λ (row : FrameRow). same_unit row.unit seat.unit) rows.frames.items)) seats
          (all_numbered seats (map port_key ss) lan.frames rows.frames.items have exact.frames order);
      own_frames = all_from_each (λ (row : FrameRow). IsSome (seat_at seats row.unit)) rows.frames.items
          (subst (λ l. Each (λ (row : FrameRow). IsSome (seat_at seats row.unit)) l) (sym exact.frames) (frames_of_seats seats (map port_key ss) lan.frames have));
      own_ports = own_rows (λ (row : PortRow). row.unit) (ports_by ss) seats rows.ports.items exact.ports (ports_own ss seats);
      own_posts = own_rows (λ (row : PostRow). row.unit) (posts_by ss) seats rows.posts.items exact.posts (posts_own ss seats);
      own_deliveries = own_rows (λ (row : DeliverRow). row.unit) (delivers_by ss) seats rows.delivers.items exact.delivers (delivers_own ss seats);
      own_harvests = own_rows (λ (row : HarvestRow). row.unit) (harvests_by ss) seats rows.harvests.items exact.harvests (harvests_own ss seats);
      delivered = λ sender receiver.
          ap (λ l. taken sender l)
          (ap (λ l. filter (λ (row : DeliverRow). same_unit row.unit receiver) l) exact.delivers
          ∙ filter_unit unit_in (λ (row : DeliverRow). row.unit) (delivers_by ss) receiver seats (delivers_own ss seats) order
          ∙ delivers_found true ss seats lan.frames receiver have own (at_unit unit_in receiver seats) refl)
          ∙ balanced.delivered sender receiver
          ∙ sym (ap (λ l. given receiver l) (filter_frames seats (map port_key ss) lan.frames rows.frames.items sender have exact.frames order));
      dropped = λ receiver.
          ap (λ l. drops_counted l)
          (ap (λ l. filter (λ (row : PortRow). same_unit row.unit receiver) l) exact.ports
          ∙ filter_unit unit_in (λ (row : PortRow). row.unit) (ports_by ss) receiver seats (ports_own ss seats) order)
          ∙ drops_found true ss seats lan.frames receiver have own (at_unit unit_in receiver seats) refl
          ∙ balanced.dropped receiver (omega (arith, balanced.few receiver, ap (λ (l : List FrameRow). length l) exact.frames, short))
          ∙ sym (ap (λ l. drops_to receiver l) exact.frames);
    }

-- blocks in order
blocks : {Row : Type 0} (unit : Row → UnitId) (before : Row → Row → Type 0) → ((a b : Row) → UnitBefore (unit a) (unit b) → before a b)
    → (f : PortSeat → List Row) → ((seat : PortSeat) → Ordered before (f seat)) → (seats : List PortSeat) (rows : List Row) → rows ≡ flat_map f seats
    → Each (λ seat. Each (λ row. unit row ≡ seat.unit) (f seat)) seats → Ordered (λ (a b : PortSeat). UnitBefore a.unit b.unit) seats → Ascend before rows
blocks unit before apart f own seats rows e named order =
    subst (Ascend before) (sym e)
    (ascends before (flat_map f seats)
    (ordered_flat (λ (seat : PortSeat). seat.unit) unit before apart f seats named (every (λ seat. Ordered before (f seat)) own seats) order))

-- The order of a trace.
pub order : (lan : LanValue) (rows : LanRows) → IsLan lan → lan.whole ≡ true → IsRowsOf lan rows → AreOrdered rows
order lan rows is whole exact =
    let ss = lan.stations in
    let seats = lan.seats in
    let stands = in_order lan is in
    let have = whole_ports lan is whole in
    let framed = zip_frames seats (map port_key ss) lan.frames have in
    record {
      frames = subst (Ascend FrameBefore) (zip_flat true seats (map port_key ss) lan.frames have ∙ sym exact.frames)
          (ascends FrameBefore (flat_map (λ (x : PortSeat × List FrameRow). x.1) (zipped seats lan.frames))
          (ordered_flat (λ (x : PortSeat × List FrameRow). x.0.unit) (λ (row : FrameRow). row.unit) FrameBefore (λ a b before. inl before)
          (λ (x : PortSeat × List FrameRow). x.1) (zipped seats lan.frames) (zip_named seats lan.frames framed)
          (each_weaker (λ (x : PortSeat × List FrameRow). AreFrames x.0.unit 1 x.1) (λ (x : PortSeat × List FrameRow). Ordered FrameBefore x.1)
          (λ x are. frames_ordered x.0.unit 1 x.1 are) (zipped seats lan.frames) framed) (zip_ordered seats lan.frames stands)));
      offers = all_from_each (λ (frame : FrameRow). All (IsOfferOf frame) frame.offers) rows.frames.items
          (subst (λ l. Each (λ (frame : FrameRow). All (IsOfferOf frame) frame.offers) l) (sym exact.frames) (offers_named seats (map port_key ss) lan.frames have));
      ports = blocks (λ (row : PortRow). row.unit) PortBefore (λ a b before. inl before) (ports_by ss)
          (λ seat. ports_ordered seat.unit (port_in ss seat).slots 1 (port_in ss seat).drop_counts) seats rows.ports.items exact.ports (ports_own ss seats) stands;
      posts = blocks (λ (row : PostRow). row.unit) PostBefore (λ a b before. inl before) (posts_by ss)
          (λ seat. (posts_are seat.unit (port_in ss seat).posts 1 (length (port_in ss seat).drop_counts)).0) seats rows.posts.items exact.posts (posts_own ss seats) stands;
      delivers = blocks (λ (row : DeliverRow). row.unit) DeliverBefore (λ a b before. inl before) (delivers_by ss)
          (λ seat. (deliveries_are seat.unit (port_in ss seat).deliveries 1 (length (port_in ss seat).drop_counts)).0) seats rows.delivers.items exact.delivers (delivers_own ss seats) stands;
      harvests = blocks (λ (row : HarvestRow). row.unit) HarvestBefore (λ a b before. inl before) (harvests_by ss)
          (λ seat. (harvests_are seat.unit (port_in ss seat).harvests 1 (length (port_in ss seat).drop_counts)).0) seats rows.harvests.items exact.harvests (harvests_own ss seats) stands;
    }

pub flat_mapped : {X Row : Type 0} (f : X → List Row) (xs : List X) → flat_map f xs ≡ flat_map (λ own. own) (map f xs)
flat_mapped f [] = refl
flat_mapped f (x ∷ xs) = ap (λ l. f x ++ l) (flat_mapped f xs)

-- the posts of a unit are counted by its rows
posts_found : (whole : Bool) (ss : List Station) (seats : List PortSeat) (frames : List (List FrameRow)) (u : UnitId)
    → HavePorts whole seats (map port_key ss) frames → Each (HasOwn ss) seats → (o : Option PortSeat) → at_unit unit_in u seats ≡ o
    → length (found (posts_by ss) o) ≡ (counts_in u (port_of ss u)).posts
posts_found whole ss seats frames u have own None at = sym (ap (λ o. (counts_in u o).posts) (no_port whole u seats ss frames have at))
posts_found whole ss seats frames u have own (Some seat) at =
    let is = pick unit_in (HasOwn ss) u seat seats own at in
    ap (λ o. length (post_rows seat.unit (port_or seat.unit o))) is.holds.is ∙ sym (ap (λ o. (counts_in seat.unit o).posts) is.holds.is)
    ∙ ap (λ v. (counts_in v (port_of ss v)).posts) is.unit_is

buffers_found : (ss : List Station) (seats : List PortSeat) (frames : List (List FrameRow)) (u : UnitId) → HavePorts true seats (map port_key ss) frames
    → Each (HasOwn ss) seats → (o : Option PortSeat) → at_unit unit_in u seats ≡ o
    → map (λ (row : PostRow). row.descriptor) (found (posts_by ss) o) ≡ posted_of u (port_of ss u)
buffers_found ss seats frames u have own None at = sym (ap (λ o. posted_of u o) (no_port true u seats ss frames have at))
buffers_found ss seats frames u have own (Some seat) at =
    let is = pick unit_in (HasOwn ss) u seat seats own at in
    ap (λ o. map (λ (row : PostRow). row.descriptor) (post_rows seat.unit (port_or seat.unit o))) is.holds.is
    ∙ sym (ap (λ o. posted_of seat.unit o) is.holds.is) ∙ ap (λ v. posted_of v (port_of ss v)) is.unit_is

-- they are those of its rows
rows_found : (ss : List Station) (seats : List PortSeat) (frames : List (List FrameRow)) (u : UnitId) → HavePorts true seats (map port_key ss) frames
    → Each (HasOwn ss) seats → (o : Option PortSeat) → at_unit unit_in u seats ≡ o → found (posts_by ss) o ≡ posted_in u (port_of ss u)
rows_found ss seats frames u have own None at = sym (ap (λ o. posted_in u o) (no_port true u seats ss frames have at))
rows_found ss seats frames u have own (Some seat) at =
    let is = pick unit_in (HasOwn ss) u seat seats own at in
    ap (λ o. post_rows seat.unit (port_or seat.unit o)) is.holds.is ∙ sym (ap (λ o. posted_in seat.unit o) is.holds.is)
    ∙ ap (λ v. posted_in v (port_of ss v)) is.unit_is

-- and so are the frames that it took
taken_found : (whole : Bool) (ss : List Station) (seats : List PortSeat) (frames : List (List FrameRow)) (u : UnitId)
    → HavePorts whole seats (map port_key ss) frames → Each (HasOwn ss) seats → (o : Option PortSeat) → at_unit unit_in u seats ≡ o
    → length (filter (λ (row : HarvestRow). is_frame row.high) (found (harvests_by ss) o)) ≡ (counts_in u (port_of ss u)).taken
taken_found whole ss seats frames u have own None at = sym (ap (λ o. (counts_in u o).taken) (no_port whole u seats ss frames have at))
taken_found whole ss seats frames u have own (Some seat) at =
    let is = pick unit_in (HasOwn ss) u seat seats own at in
    ap (λ o. length (filter (λ (row : HarvestRow). is_frame row.high) (harvest_rows seat.unit (port_or seat.unit o)))) is.holds.is
    ∙ sym (ap (λ o. (counts_in seat.unit o).taken) is.holds.is) ∙ ap (λ v. (counts_in v (port_of ss v)).taken) is.unit_is

numbered_long : {X Row : Type 0} (row : ℕ → X → Row) (n : ℕ) (xs : List X) → length (numbered row n xs) ≡ length xs
numbered_long row n [] = refl
numbered_long row n (x ∷ xs) = ap suc (numbered_long row (n + 1) xs)

-- the sessions of a unit's port
sessions_found : (whole : Bool) (ss : List Station) (seats : List PortSeat) (frames : List (List FrameRow)) (u : UnitId)
    → HavePorts whole seats (map port_key ss) frames → Each (HasOwn ss) seats → (o : Option PortSeat) → at_unit unit_in u seats ≡ o
    → length (found (ports_by ss) o) ≡ sessions_by (port_of ss u)
sessions_found whole ss seats frames u have own None at = sym (ap sessions_by (no_port whole u seats ss frames have at))
sessions_found whole ss seats frames u have own (Some seat) at =
    let is = pick unit_in (HasOwn ss) u seat seats own at in
    numbered_long (port_row_of seat.unit (port_in ss seat).slots) 1 (port_in ss seat).drop_counts
    ∙ ap (λ o. length (port_or seat.unit o).drop_counts) is.holds.is ∙ sym (ap sessions_by is.holds.is)
    ∙ ap (λ v. sessions_by (port_of ss v)) is.unit_is

-- an open port from which nothing is left to take has as many harvests as deliveries in its last session
last_port : (unit : UnitId) (port : PortValue) → 1 ≤ length port.drop_counts → IsOpen port → HasReadAll port
    → length (filter (λ (row : HarvestRow). row.session == length port.drop_counts) (harvest_rows unit port))
    ≡ length (filter (λ (row : DeliverRow). row.session == length port.drop_counts) (deliver_rows unit port))
last_port unit port begun opened read =
    of_session (λ (r : Harvest). r.session) (harvest_row_of unit) (λ (r : HarvestRow). r.session) port.harvests (length port.drop_counts) 1 (length port.drop_counts)
    (λ x. refl) begun (omega arith)
    ∙ read opened
    ∙ sym (of_session (λ (r : Delivery). r.session) (deliver_row_of unit) (λ (r : DeliverRow). r.session) port.deliveries (length port.drop_counts) 1 (length port.drop_counts)
    (λ x. refl) begun (omega arith))

last_found : (ss : List Station) (seats : List PortSeat) (u : UnitId) → HaveBegun ss → Each (HasOwn ss) seats → IfSome (port_of ss u) IsOpen
    → IfSome (port_of ss u) HasReadAll → (o : Option PortSeat) → at_unit unit_in u seats ≡ o
    → length (filter (λ (row : HarvestRow). row.session == sessions_by (port_of ss u)) (found (harvests_by ss) o))
    ≡ length (filter (λ (row : DeliverRow). row.session == sessions_by (port_of ss u)) (found (delivers_by ss) o))
last_found ss seats u begun own opened read None at = refl
last_found ss seats u begun own opened read (Some seat) at =
    subst (λ (v : UnitId). length (filter (λ (row : HarvestRow). row.session == sessions_by (port_of ss v)) (harvests_by ss seat))
    ≡ length (filter (λ (row : DeliverRow). row.session == sessions_by (port_of ss v)) (delivers_by ss seat))) is.unit_is
    (subst (λ (o : Option PortValue). length (filter (λ (row : HarvestRow). row.session == sessions_by o) (harvest_rows seat.unit (port_or seat.unit o)))
    ≡ length (filter (λ (row : DeliverRow). row.session == sessions_by o) (deliver_rows seat.unit (port_or seat.unit o)))) (sym here)
    (last_port seat.unit port (begun_at ss seat.unit port begun here at_open) at_open (subst (λ (o : Option PortValue). IfSome o HasReadAll) (there) read)))
  where
    is : IsFound unit_in (HasOwn ss) u seat
    is = pick unit_in (HasOwn ss) u seat seats own at

    port : PortValue
    port = is.holds.port

    here : port_of ss seat.unit ≡ Some port
    here = is.holds.is

    there : port_of ss u ≡ Some port
    there = ap (λ v. port_of ss v) (sym is.unit_is) ∙ here

    at_open : IsOpen port
    at_open = subst (λ (o : Option PortValue). IfSome o IsOpen) there opened

-- posts that were all taken once are named by the rows of deliveries
named_found : (ss : List Station) (seats : List PortSeat) (frames : List (List FrameRow)) (u : UnitId) (port : PortValue) → HavePorts true seats (map port_key ss) frames
    → Each (HasOwn ss) seats → Each (HasLawfulPort ss) seats → port_of ss u ≡ Some port → (q : ℕ) (lengths : List ℕ) (least k len : ℕ) → WasSpent port q lengths least
    → slice_get lengths k ≡ Some len → least ≤ len → (o : Option PortSeat) → at_unit unit_in u seats ≡ o → IsNamed (found (delivers_by ss) o) u q k
named_found ss seats frames u port have own lawful here q lengths least k len spent at enough None none =
    absurd (no_some port (sym (no_port true u seats ss frames have none) ∙ here))
  where
    no_some : (p : PortValue) → None ≡ Some p → ⊥
    no_some p e = cc (e)
named_found ss seats frames u port have own lawful here q lengths least k len spent at enough (Some seat) there =
    subst (λ (v : UnitId). IsNamed (delivers_by ss seat) v q k) is.unit_is
    (row_named seat.unit (port_in ss seat) q k spent'.begun spent'.within
    (was_named (port_in ss seat) q lengths least k len (pick unit_in (HasLawfulPort ss) u seat seats lawful there).holds spent' at enough))
  where
    is : IsFound unit_in (HasOwn ss) u seat
    is = pick unit_in (HasOwn ss) u seat seats own there

    same : port ≡ port_in ss seat
    same = same_some port is.holds.port (sym here ∙ (ap (λ v. port_of ss v) (sym is.unit_is) ∙ is.holds.is)) ∙ sym (ap (λ o. port_or seat.unit o) is.holds.is)

    spent' : WasSpent (port_in ss seat) q lengths least
    spent' = subst (λ (p : PortValue). WasSpent p q lengths least) same spent

counts_rows : (lan : LanValue) (rows : LanRows) → IsLan lan → lan.whole ≡ true → All (HasLawfulPort lan.stations) lan.seats → IsRowsOf lan rows → CountsRows lan rows
counts_rows lan rows is whole lawful exact =
    let ss = lan.stations in
    let seats = lan.seats in
    let order = in_order lan is in
    let have = whole_ports lan is whole in
    let own = own_ports true seats ss lan.frames have order in
    record {
      frames = λ unit. filter_frames seats (map port_key ss) lan.frames rows.frames.items unit have exact.frames order;
      posts = λ unit.
          ap (λ l. length l)
          (ap (λ l. filter (λ (row : PostRow). same_unit row.unit unit) l) exact.posts
          ∙ filter_unit unit_in (λ (row : PostRow). row.unit) (posts_by ss) unit seats (posts_own ss seats) order)
          ∙ posts_found true ss seats lan.frames unit have own (at_unit unit_in unit seats) refl;
      buffers = λ unit.
          ap (λ l. map (λ (row : PostRow). row.descriptor) l)
          (ap (λ l. filter (λ (row : PostRow). same_unit row.unit unit) l) exact.posts
          ∙ filter_unit unit_in (λ (row : PostRow). row.unit) (posts_by ss) unit seats (posts_own ss seats) order)
          ∙ buffers_found ss seats lan.frames unit have own (at_unit unit_in unit seats) refl;
      posted = λ unit.
          ap (λ l. filter (λ (row : PostRow). same_unit row.unit unit) l) exact.posts
          ∙ filter_unit unit_in (λ (row : PostRow). row.unit) (posts_by ss) unit seats (posts_own ss seats) order
          ∙ rows_found ss seats lan.frames unit have own (at_unit unit_in unit seats) refl;
      taken = λ unit.
          ap (λ l. length (filter (λ (row : HarvestRow). is_frame row.high) l))
          (ap (λ l. filter (λ (row : HarvestRow). same_unit row.unit unit) l) exact.harvests
          ∙ filter_unit unit_in (λ (row : HarvestRow). row.unit) (harvests_by ss) unit seats (harvests_own ss seats) order)
          ∙ taken_found true ss seats lan.frames unit have own (at_unit unit_in unit seats) refl;
      sessions = λ unit.
          ap (λ l. length l)
          (ap (λ l. filter (λ (row : PortRow). same_unit row.unit unit) l) exact.ports
          ∙ filter_unit unit_in (λ (row : PortRow). row.unit) (ports_by ss) unit seats (ports_own ss seats) order)
          ∙ sessions_found true ss seats lan.frames unit have own (at_unit unit_in unit seats) refl;
      last = λ unit opened read.
          ap (λ l. length (filter (λ (row : HarvestRow). row.session == sessions_by (port_of ss unit)) l))
          (ap (λ l. filter (λ (row : HarvestRow). same_unit row.unit unit) l) exact.harvests
          ∙ filter_unit unit_in (λ (row : HarvestRow). row.unit) (harvests_by ss) unit seats (harvests_own ss seats) order)
          ∙ last_found ss seats unit is.begun own opened read (at_unit unit_in unit seats) refl
          ∙ sym (ap (λ l. length (filter (λ (row : DeliverRow). row.session == sessions_by (port_of ss unit)) l))
          (ap (λ l. filter (λ (row : DeliverRow). same_unit row.unit unit) l) exact.delivers
          ∙ filter_unit unit_in (λ (row : DeliverRow). row.unit) (delivers_by ss) unit seats (delivers_own ss seats) order));
      named = λ unit port here q lengths least spent k len at enough.
          subst (λ (l : List DeliverRow). IsNamed l unit q k)
          (sym (ap (λ l. filter (λ (row : DeliverRow). same_unit row.unit unit) l) exact.delivers
          ∙ filter_unit unit_in (λ (row : DeliverRow). row.unit) (delivers_by ss) unit seats (delivers_own ss seats) order))
          (named_found ss seats lan.frames unit port have own (each_from_all (HasLawfulPort ss) seats lawful) here q lengths least k len spent at enough (at_unit unit_in unit seats) refl);
    }

-- What is so of rows that were gathered list by list.
pub record IsTold (now : LanValue) (rows : LanRows) : Type 0 where
  pub lawful : PortsAreLawful now.seats rows.frames.items rows.ports.items rows.posts.items rows.delivers.items rows.harvests.items
  pub ordered : AreOrdered rows
  pub exact : IsRowsOf now rows
  pub counted : CountsRows now rows

pub told : (lan now : LanValue) (rows : LanRows) (a b c d : List PortSeat) → lan ≡ now → IsLan lan → lan.whole ≡ true
    → length rows.frames.items < 2 ^ 64 → rows.frames.items ≡ flat_map (λ own. own) lan.frames → rows.ports.items ≡ flat_map (ports_by lan.stations) a
    → rows.posts.items ≡ flat_map (posts_by lan.stations) b → rows.delivers.items ≡ flat_map (delivers_by lan.stations) c
    → rows.harvests.items ≡ flat_map (harvests_by lan.stations) d → a ≡ lan.seats → b ≡ lan.seats → c ≡ lan.seats → d ≡ lan.seats
    → All (HasLawfulPort lan.stations) a → IsTold now rows
told lan now rows a b c d same is whole short frames ports posts delivers harvests ea eb ec ed lawful =
    let exact : IsRowsOf lan rows = record {
      frames = frames;
      ports = ports ∙ ap (λ l. flat_map (ports_by lan.stations) l) ea;
      posts = posts ∙ ap (λ l. flat_map (posts_by lan.stations) l) eb;
      delivers = delivers ∙ ap (λ l. flat_map (delivers_by lan.stations) l) ec;
      harvests = harvests ∙ ap (λ l. flat_map (harvests_by lan.stations) l) ed;
    } in
    subst (λ (l : LanValue). IsTold l rows) same
    (record {
      lawful = law lan rows is whole short exact (subst (λ l. All (HasLawfulPort lan.stations) l) ea lawful);
      ordered = order lan rows is whole exact;
      exact = exact;
      counted = counts_rows lan rows is whole (subst (λ l. All (HasLawfulPort lan.stations) l) ea lawful) exact;
    })
