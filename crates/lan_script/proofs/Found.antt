-- What a filter by a unit leaves of rows that stand in blocks, one block a unit: the unit's own block, or nothing.
use Rattle.std.proofs.Common.{◌≡◌, ◌+◌, ℕ, Bool, true, false, List, [], ◌∷◌, ◌++◌, append-nil, Option, Some, None, filter, map, if◌then◌else◌, refl, sym, ◌∙◌, ap, subst}
use Rattle.std.specs.List.{flat_map}
use Rattle.std.proofs.lemmas.List.Elements.{filter-append}
use Rattle.vio_num.specs.declared.names.UnitId.{UnitId}
use Rattle.lan_switch.specs.declared.station.Station.{Station}
use Rattle.lan_switch.specs.Switch.{port_of, same_unit}
use Rattle.vio_trace.specs.Form.{UnitBefore}
use Rattle.vio_trace.specs.declared.lan_rows.FrameRow.{FrameRow}
use Rattle.lan_script.specs.declared.seat.PortSeat.{PortSeat}
use Rattle.lan_script.specs.Delivered.{drops_counted}
use Rattle.lan_script.specs.Invariant.{total}
use Rattle.lan_script.specs.Rows.{numbered, port_row_of}
use Rattle.lan_script.specs.Units.{HavePorts, port_key}
use Rattle.lan_script.proofs.Blocks.{all_pass, alone, before_other, none_passes, turned}
use Rattle.lan_script.proofs.Keys.{port_tail}
use Rattle.lan_script.proofs.Order.{Each, Ordered, each_weaker}
use Rattle.lan_script.proofs.Placing.{by_bool, none_some, one_unit, same_some}

-- the first of this unit
abbrev pub at_unit : {X : Type 0} → (X → UnitId) → UnitId → List X → Option X
at_unit name u [] = None
at_unit name u (x ∷ xs) = if same_unit (name x) u then Some x else at_unit name u xs

-- its block
abbrev pub found : {X Row : Type 0} → (X → List Row) → Option X → List Row
found f None = []
found f (Some x) = f x

at_head : {X : Type 0} (name : X → UnitId) (u : UnitId) (x : X) (xs : List X) → same_unit (name x) u ≡ true → at_unit name u (x ∷ xs) ≡ Some x
at_head name u x xs e = rw e refl

at_tail : {X : Type 0} (name : X → UnitId) (u : UnitId) (x : X) (xs : List X) → same_unit (name x) u ≡ false → at_unit name u (x ∷ xs) ≡ at_unit name u xs
at_tail name u x xs e = rw e refl

pub filter_unit : {X Row : Type 0} (name : X → UnitId) (unit : Row → UnitId) (f : X → List Row) (u : UnitId) (xs : List X)
    → Each (λ x. Each (λ row. unit row ≡ name x) (f x)) xs → Ordered (λ a b. UnitBefore (name a) (name b)) xs
    → filter (λ row. same_unit (unit row) u) (flat_map f xs) ≡ found f (at_unit name u xs)
filter_unit name unit f u [] named order = refl
filter_unit {X} {Row} name unit f u (x ∷ xs) named order =
    filter-append (λ row. same_unit (unit row) u) (f x) (flat_map f xs)
    ∙ by_bool (same_unit (name x) u) (filter (λ row. same_unit (unit row) u) (f x) ++ filter (λ row. same_unit (unit row) u) (flat_map f xs) ≡ found f (at_unit name u (x ∷ xs)))
    (λ e.
    ap (λ l. l ++ filter (λ row. same_unit (unit row) u) (flat_map f xs))
    (all_pass (λ row. same_unit (unit row) u) (f x)
    (each_weaker (λ row. unit row ≡ name x) (λ row. same_unit (unit row) u ≡ true) (λ row h. ap (λ (v : UnitId). same_unit v u) h ∙ e) (f x) named.0))
    ∙ ap (λ l. f x ++ l)
    (alone name unit f u xs named.1
    (each_weaker (λ y. UnitBefore (name x) (name y)) (λ y. same_unit (name y) u ≡ false)
    (λ y b. ap (λ (v : UnitId). same_unit (name y) v) (sym (one_unit (name x) u e)) ∙ turned (name x) (name y) (before_other (name x) (name y) b)) xs order.0))
    ∙ append-nil (f x) ∙ sym (ap (λ o. found f o) (at_head name u x xs e)))
    (λ e.
    ap (λ l. l ++ filter (λ row. same_unit (unit row) u) (flat_map f xs))
    (none_passes (λ row. same_unit (unit row) u) (f x)
    (each_weaker (λ row. unit row ≡ name x) (λ row. same_unit (unit row) u ≡ false) (λ row h. ap (λ (v : UnitId). same_unit v u) h ∙ e) (f x) named.0))
    ∙ filter_unit name unit f u xs named.1 order.1 ∙ sym (ap (λ o. found f o) (at_tail name u x xs e)))

-- what is so of each is so of the one that is found, and it is of the unit
pub record IsFound {X : Type 0} (name : X → UnitId) (P : X → Type 0) (u : UnitId) (x : X) : Type 0 where
  pub holds : P x
  pub unit_is : name x ≡ u

pub pick : {X : Type 0} (name : X → UnitId) (P : X → Type 0) (u : UnitId) (x : X) (xs : List X) → Each P xs → at_unit name u xs ≡ Some x
    → IsFound name P u x
pick name P u x [] all at = absurd (none_some x at)
pick name P u x (y ∷ xs) all at =
    by_bool (same_unit (name y) u) (IsFound name P u x)
    (λ e. subst (λ z. IsFound name P u z) (same_some y x (sym (at_head name u y xs e) ∙ at)) (record { holds = all.0; unit_is = one_unit (name y) u e }))
    (λ e. pick name P u x xs all.1 (sym (at_tail name u y xs e) ∙ at))

-- a unit without a seat has no port
pub no_port : (whole : Bool) (u : UnitId) (seats : List PortSeat) (ss : List Station) (frames : List (List FrameRow)) → HavePorts whole seats (map port_key ss) frames
    → at_unit (λ (seat : PortSeat). seat.unit) u seats ≡ None → port_of ss u ≡ None
no_port whole u [] [] frames have none = refl
no_port whole u [] (t ∷ ss) frames have none = absurd have
no_port whole u (s ∷ seats) [] frames have none = absurd have
no_port whole u (s ∷ seats) (t ∷ ss) [] have none = absurd have
no_port whole u (s ∷ seats) (t ∷ ss) (f ∷ frames) have none =
    let same : same_unit t.port.unit u ≡ same_unit s.unit u = ap (λ (v : UnitId). same_unit v u) have.0.0.unit_is in
    by_bool (same_unit s.unit u) (port_of (t ∷ ss) u ≡ None)
    (λ e. absurd (none_some s (sym none ∙ at_head (λ (seat : PortSeat). seat.unit) u s seats e)))
    (λ e. port_tail u t ss (same ∙ e) ∙ no_port whole u seats ss frames have.1 (sym (at_tail (λ (seat : PortSeat). seat.unit) u s seats e) ∙ none))

-- the drops of sessions are summed
pub counted_total : (u : UnitId) (slots n : ℕ) (drops : List ℕ) → drops_counted (numbered (port_row_of u slots) n drops) ≡ total drops
counted_total u slots n [] = refl
counted_total u slots n (d ∷ drops) = ap (λ k. d + k) (counted_total u slots (n + 1) drops)
