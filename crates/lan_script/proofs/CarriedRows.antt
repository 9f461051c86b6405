-- The rows of LAN units carry what they say.
use Rattle.std.proofs.Common.{◌≡◌, true, All, List, [], ◌∷◌, ◌++◌, filter, sym, ◌∙◌, ap, subst}
use Rattle.std.specs.List.{Contains, flat_map}
use Rattle.std.proofs.lemmas.List.Elements.{Contains-append_left, Contains-append_right}
use Rattle.vio_num.specs.declared.names.UnitId.{UnitId}
use Rattle.rdma_copy.proofs.Laws.{side_same}
use Rattle.rdma_copy.specs.Copy.{Side}
use Rattle.lan_switch.specs.Switch.{same_unit}
use Rattle.lan_switch.specs.declared.station.Station.{Station}
use Rattle.vio_trace.specs.declared.lan_rows.DeliverRow.{DeliverRow}
use Rattle.vio_trace.specs.declared.lan_rows.FrameRow.{FrameRow}
use Rattle.vio_trace.specs.declared.lan_rows.PostRow.{PostRow}
use Rattle.lan_script.specs.declared.rows.LanRows.{LanRows}
use Rattle.lan_script.specs.declared.seat.PortSeat.{PortSeat}
use Rattle.lan_script.specs.Carried.{AreNamed, FramesAreCarried, IsCarried, IsRead}
use Rattle.lan_script.specs.Invariant.{IsLan, all_of, posts_at, posted_in, rows_at, rows_in, side_in}
use Rattle.lan_script.specs.Rows.{deliver_rows, port_or, post_rows}
use Rattle.lan_script.specs.RowsOf.{IsRowsOf}
use Rattle.lan_script.specs.Units.{LanValue}
use Rattle.lan_script.proofs.Blocks.{all_from_each, both_each, each_from_all}
use Rattle.lan_script.proofs.Carrying.{carried_on}
use Rattle.lan_script.proofs.Lawful.{HasOwn, IsSole, delivers_by, delivers_own, in_order, own_ports, posts_by, soles, whole_ports}
use Rattle.lan_script.proofs.Order.{Each, each_flat, each_weaker}

-- what a block has is among all
blocks_contain : {X Row : Type 0} (f : X → List Row) (xs : List X) → Each (λ x. (row : Row) → Contains (f x) row → Contains (flat_map f xs) row) xs
blocks_contain f [] = tt
blocks_contain {X} {Row} f (x ∷ xs) = (
  λ row has. Contains-append_left (f x) (flat_map f xs) row has,
  each_weaker (λ y. (row : Row) → Contains (f y) row → Contains (flat_map f xs) row) (λ y. (row : Row) → Contains (f y) row → Contains (f x ++ flat_map f xs) row)
      (λ y h row has. Contains-append_right (f x) (flat_map f xs) row (h row has)) xs (blocks_contain f xs),
)

-- the rows of a seat are those of its unit's port
posts_found : (ss : List Station) (seat : PortSeat) → HasOwn ss seat → posts_at ss seat.unit ≡ posts_by ss seat
posts_found ss seat own = ap (λ o. posted_in seat.unit o) own.is ∙ sym (ap (λ o. post_rows seat.unit (port_or seat.unit o)) own.is)

delivers_found : (ss : List Station) (seat : PortSeat) → HasOwn ss seat → rows_at ss seat.unit ≡ delivers_by ss seat
delivers_found ss seat own = ap (λ o. rows_in seat.unit o) own.is ∙ sym (ap (λ o. deliver_rows seat.unit (port_or seat.unit o)) own.is)

-- each delivery of a seat is carried
seat_carried : (windows : UnitId → Side) (ss : List Station) (posts : List PostRow) (frames : List FrameRow) (seat : PortSeat) → HasOwn ss seat
    → ((row : PostRow) → Contains (posts_by ss seat) row → Contains posts row) → Each (λ (row : DeliverRow). row.unit ≡ seat.unit) (delivers_by ss seat)
    → All (IsCarried (windows seat.unit) (posts_at ss seat.unit) frames) (rows_at ss seat.unit)
    → Each (λ row. IsCarried (windows row.unit) posts frames row) (delivers_by ss seat)
seat_carried windows ss posts frames seat own among named carried =
    both_each (λ (row : DeliverRow). row.unit ≡ seat.unit) (IsCarried (windows seat.unit) (posts_at ss seat.unit) frames)
    (λ row. IsCarried (windows row.unit) posts frames row) (delivers_by ss seat)
    (λ row e h. subst (λ (u : UnitId). IsCarried (windows u) posts frames row) (sym e)
    (carried_on (windows seat.unit) (windows seat.unit) (posts_at ss seat.unit) posts frames frames row (side_same (windows seat.unit))
    (λ post has. among post (subst (λ (l : List PostRow). Contains l post) (posts_found ss seat own) has)) (λ frame has. has) h))
    named
    (each_from_all (IsCarried (windows seat.unit) (posts_at ss seat.unit) frames) (delivers_by ss seat)
    (subst (All (IsCarried (windows seat.unit) (posts_at ss seat.unit) frames)) (delivers_found ss seat own) carried))

all_carried : (windows : UnitId → Side) (ss : List Station) (posts : List PostRow) (frames : List FrameRow)
    → ((unit : UnitId) → All (IsCarried (windows unit) (posts_at ss unit) frames) (rows_at ss unit)) → (seats : List PortSeat) → Each (HasOwn ss) seats
    → Each (λ (seat : PortSeat). (row : PostRow) → Contains (posts_by ss seat) row → Contains posts row) seats
    → Each (λ (seat : PortSeat). Each (λ (row : DeliverRow). row.unit ≡ seat.unit) (delivers_by ss seat)) seats
    → Each (λ (seat : PortSeat). Each (λ row. IsCarried (windows row.unit) posts frames row) (delivers_by ss seat)) seats
all_carried windows ss posts frames carried [] own among named = tt
all_carried windows ss posts frames carried (s ∷ seats) own among named =
    (seat_carried windows ss posts frames s own.0 among.0 named.0 (carried s.unit), all_carried windows ss posts frames carried seats own.1 among.1 named.1)

-- What frames and deliveries carry, of the rows of a trace.
rows_carried : (lan : LanValue) (rows : LanRows) → IsLan lan → lan.whole ≡ true → IsRowsOf lan rows
    → FramesAreCarried lan.seats (side_in lan.places) rows.frames.items rows.posts.items rows.delivers.items
rows_carried lan rows is whole exact =
    let ss = lan.stations in
    let seats = lan.seats in
    let order = in_order lan is in
    let own = own_ports true seats ss lan.frames (whole_ports lan is whole) order in
    let carried = is.carried whole in
    record {
      read = subst (λ (l : List FrameRow). All (λ frame. IsRead (side_in lan.places frame.unit) frame) l) (sym exact.frames) carried.read;
      written = all_from_each (λ (row : DeliverRow). IsCarried (side_in lan.places row.unit) rows.posts.items rows.frames.items row) rows.delivers.items
          (subst (λ (l : List DeliverRow). Each (λ row. IsCarried (side_in lan.places row.unit) rows.posts.items rows.frames.items row) l) (sym exact.delivers)
          (subst (λ (l : List FrameRow). Each (λ row. IsCarried (side_in lan.places row.unit) rows.posts.items l row) (flat_map (delivers_by ss) seats)) (sym exact.frames)
          (subst (λ (l : List PostRow). Each (λ row. IsCarried (side_in lan.places row.unit) l (all_of lan.frames) row) (flat_map (delivers_by ss) seats)) (sym exact.posts)
          (each_flat (λ row. IsCarried (side_in lan.places row.unit) (flat_map (posts_by ss) seats) (all_of lan.frames) row) (delivers_by ss) seats
          (all_carried (side_in lan.places) ss (flat_map (posts_by ss) seats) (all_of lan.frames) carried.written seats own (blocks_contain (posts_by ss) seats)
          (delivers_own ss seats))))));
      named = all_from_each (λ (seat : PortSeat). AreNamed (side_in lan.places seat.unit) (filter (λ (row : DeliverRow). same_unit row.unit seat.unit) rows.delivers.items)) seats
          (both_each (HasOwn ss) (IsSole (λ (row : DeliverRow). row.unit) (delivers_by ss) rows.delivers.items)
          (λ (seat : PortSeat). AreNamed (side_in lan.places seat.unit) (filter (λ (row : DeliverRow). same_unit row.unit seat.unit) rows.delivers.items)) seats
          (λ seat h sole. subst (AreNamed (side_in lan.places seat.unit)) (delivers_found ss seat h ∙ sym sole) (carried.named seat.unit)) own
          (soles (λ (row : DeliverRow). row.unit) (delivers_by ss) rows.delivers.items seats exact.delivers (delivers_own ss seats) order));
    }

pub carried_told : (lan now : LanValue) (rows : LanRows) → lan ≡ now → IsLan lan → lan.whole ≡ true → IsRowsOf now rows
    → FramesAreCarried now.seats (side_in now.places) rows.frames.items rows.posts.items rows.delivers.items
carried_told lan now rows same is whole exact =
    subst (λ (l : LanValue). FramesAreCarried l.seats (side_in l.places) rows.frames.items rows.posts.items rows.delivers.items) same
    (rows_carried lan rows is whole (subst (λ (l : LanValue). IsRowsOf l rows) (sym same) exact))
