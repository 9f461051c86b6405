-- A unit's window among those of others, and a change of it.
use Rattle.std.proofs.Common.{◌≡◌, ℕ, ◌<◌, ◌≤◌, ◌∷◌, ◌==◌, ◌&&◌, suc, arith, Bool, true, false, List, [], Option, Some, None, length, set, slice_get, refl, sym, ◌∙◌, ap, subst}
use Rattle.std.proofs.lemmas.Bool.{eqb-true}
use Rattle.vio_num.specs.declared.names.UnitId.{UnitId}
use Rattle.tce_window.specs.PlainPort.{known_of}
use Rattle.tce_window.specs.PortState.{port_at}
use Rattle.tce_window.specs.Window.{WindowValue}
use Rattle.lan_switch.specs.Switch.{same_unit}
use Rattle.lan_script.specs.declared.windows.Place.{Place}
use Rattle.lan_script.specs.Windows.{facts_in, facts_of, kind_of, place_in, shape_of, window_in, with_window}

pub by_bool : (b : Bool) (P : Type 0) → (b ≡ true → P) → (b ≡ false → P) → P
by_bool true P f g = f refl
by_bool false P f g = g refl

pub none_some : {X : Type 0} (x : X) → None ≡ Some x → ⊥
none_some x e = cc (e)

pub same_some : {X : Type 0} (x y : X) → Some x ≡ Some y → x ≡ y
same_some x y e = cc (e)

pub place_head : (unit : UnitId) (s : Place) (ss : List Place) → same_unit s.unit unit ≡ true → place_in unit (s ∷ ss) ≡ 0
place_head unit s ss e = rw e refl

pub place_tail : (unit : UnitId) (s : Place) (ss : List Place) → same_unit s.unit unit ≡ false → place_in unit (s ∷ ss) ≡ suc (place_in unit ss)
place_tail unit s ss e = rw e refl

pub window_head : (unit : UnitId) (s : Place) (ss : List Place) → same_unit s.unit unit ≡ true → window_in unit (s ∷ ss) ≡ s.window
window_head unit s ss e = rw e refl

pub window_tail : (unit : UnitId) (s : Place) (ss : List Place) → same_unit s.unit unit ≡ false → window_in unit (s ∷ ss) ≡ window_in unit ss
window_tail unit s ss e = rw e refl

pub with_head : (unit : UnitId) (w : Option WindowValue) (s : Place) (ss : List Place) → same_unit s.unit unit ≡ true
    → with_window unit w (s ∷ ss) ≡ record s { window = w } ∷ ss
with_head unit w s ss e = rw e refl

pub with_tail : (unit : UnitId) (w : Option WindowValue) (s : Place) (ss : List Place) → same_unit s.unit unit ≡ false
    → with_window unit w (s ∷ ss) ≡ s ∷ with_window unit w ss
with_tail unit w s ss e = rw e refl

-- what stands at the unit's place is its window
pub found : (unit : UnitId) (ss : List Place) (s : Place) → slice_get ss (place_in unit ss) ≡ Some s → window_in unit ss ≡ s.window
found unit [] s shown = absurd (none_some s shown)
found unit (t ∷ ss) s shown = by_bool (same_unit t.unit unit) (window_in unit (t ∷ ss) ≡ s.window)
    (λ e. window_head unit t ss e ∙ ap (λ (x : Place). x.window) (same_some t s (ap (λ k. slice_get (t ∷ ss) k) (sym (place_head unit t ss e)) ∙ shown)))
    (λ e. window_tail unit t ss e ∙ found unit ss s (ap (λ k. slice_get (t ∷ ss) k) (sym (place_tail unit t ss e)) ∙ shown))

pub own_place : (unit : UnitId) (ss : List Place) (s : Place) → slice_get ss (place_in unit ss) ≡ Some s → same_unit s.unit unit ≡ true
own_place unit [] s shown = absurd (none_some s shown)
own_place unit (t ∷ ss) s shown = by_bool (same_unit t.unit unit) (same_unit s.unit unit ≡ true)
    (λ e. ap (λ (x : Place). same_unit x.unit unit) (sym (same_some t s (ap (λ k. slice_get (t ∷ ss) k) (sym (place_head unit t ss e)) ∙ shown))) ∙ e)
    (λ e. own_place unit ss s (ap (λ k. slice_get (t ∷ ss) k) (sym (place_tail unit t ss e)) ∙ shown))

pub nowhere : (unit : UnitId) (ss : List Place) → length ss ≤ place_in unit ss → window_in unit ss ≡ None
nowhere unit [] e = refl
nowhere unit (t ∷ ss) e = by_bool (same_unit t.unit unit) (window_in unit (t ∷ ss) ≡ None)
    (λ same. absurd (omega (arith, e, place_head unit t ss same)))
    (λ other. window_tail unit t ss other ∙ nowhere unit ss (omega (arith, e, place_tail unit t ss other)))

-- a change of the window there
pub placed : (unit : UnitId) (w : Option WindowValue) (ss : List Place) (s : Place) → slice_get ss (place_in unit ss) ≡ Some s
    → set ss (place_in unit ss) (record s { window = w }) ≡ with_window unit w ss
placed unit w [] s shown = absurd (none_some s shown)
placed unit w (t ∷ ss) s shown = by_bool (same_unit t.unit unit) (set (t ∷ ss) (place_in unit (t ∷ ss)) (record s { window = w }) ≡ with_window unit w (t ∷ ss))
    (λ e.
    let same : t ≡ s = same_some t s (ap (λ k. slice_get (t ∷ ss) k) (sym (place_head unit t ss e)) ∙ shown) in
    ap (λ k. set (t ∷ ss) k (record s { window = w })) (place_head unit t ss e)
    ∙ ap (λ (x : Place). record x { window = w } ∷ ss) (sym same)
    ∙ sym (with_head unit w t ss e))
    (λ e.
    ap (λ k. set (t ∷ ss) k (record s { window = w })) (place_tail unit t ss e)
    ∙ ap (λ l. t ∷ l) (placed unit w ss s (ap (λ k. slice_get (t ∷ ss) k) (sym (place_tail unit t ss e)) ∙ shown))
    ∙ sym (with_tail unit w t ss e))

pub window_with : (unit : UnitId) (w : Option WindowValue) (ss : List Place) → place_in unit ss < length ss → window_in unit (with_window unit w ss) ≡ w
window_with unit w [] less = absurd (omega (arith, less))
window_with unit w (t ∷ ss) less = by_bool (same_unit t.unit unit) (window_in unit (with_window unit w (t ∷ ss)) ≡ w)
    (λ e. ap (λ l. window_in unit l) (with_head unit w t ss e) ∙ window_head unit (record t { window = w }) ss e)
    (λ e.
    ap (λ l. window_in unit l) (with_tail unit w t ss e) ∙ window_tail unit t (with_window unit w ss) e
    ∙ window_with unit w ss (omega (arith, less, place_tail unit t ss e)))

pub has_place : (unit : UnitId) (v : WindowValue) (ss : List Place) → window_in unit ss ≡ Some v → place_in unit ss < length ss
has_place unit v [] shown = absurd (none_some v shown)
has_place unit v (t ∷ ss) shown = by_bool (same_unit t.unit unit) (place_in unit (t ∷ ss) < length (t ∷ ss))
    (λ e. omega (arith, place_head unit t ss e))
    (λ e. omega (arith, place_tail unit t ss e, has_place unit v ss (sym (window_tail unit t ss e) ∙ shown)))

-- a change of a window that was changed before
pub with_twice : (unit : UnitId) (v w : Option WindowValue) (ss : List Place) → with_window unit w (with_window unit v ss) ≡ with_window unit w ss
with_twice unit v w [] = refl
with_twice unit v w (t ∷ ss) = by_bool (same_unit t.unit unit) (with_window unit w (with_window unit v (t ∷ ss)) ≡ with_window unit w (t ∷ ss))
    (λ e.
    ap (λ l. with_window unit w l) (with_head unit v t ss e) ∙ with_head unit w (record t { window = v }) ss e
    ∙ sym (with_head unit w t ss e))
    (λ e.
    ap (λ l. with_window unit w l) (with_tail unit v t ss e) ∙ with_tail unit w t (with_window unit v ss) e
    ∙ ap (λ l. t ∷ l) (with_twice unit v w ss) ∙ sym (with_tail unit w t ss e))

pub place_with : (unit : UnitId) (v : Option WindowValue) (ss : List Place) → place_in unit (with_window unit v ss) ≡ place_in unit ss
place_with unit v [] = refl
place_with unit v (t ∷ ss) = by_bool (same_unit t.unit unit) (place_in unit (with_window unit v (t ∷ ss)) ≡ place_in unit (t ∷ ss))
    (λ e.
    ap (λ l. place_in unit l) (with_head unit v t ss e) ∙ place_head unit (record t { window = v }) ss e
    ∙ sym (place_head unit t ss e))
    (λ e.
    ap (λ l. place_in unit l) (with_tail unit v t ss e) ∙ place_tail unit t (with_window unit v ss) e
    ∙ ap suc (place_with unit v ss) ∙ sym (place_tail unit t ss e))

pub length_with : (unit : UnitId) (v : Option WindowValue) (ss : List Place) → length (with_window unit v ss) ≡ length ss
length_with unit v [] = refl
length_with unit v (t ∷ ss) = by_bool (same_unit t.unit unit) (length (with_window unit v (t ∷ ss)) ≡ length (t ∷ ss))
    (λ e. ap (λ l. length l) (with_head unit v t ss e))
    (λ e. ap (λ l. length l) (with_tail unit v t ss e) ∙ ap suc (length_with unit v ss))

-- equal numbers of units
both : (x y : Bool) → (x && y) ≡ true → (x ≡ true) × (y ≡ true)
both true true e = (refl, refl)
both true false e = absurd (cc (e))
both false y e = absurd (cc (e))

pub one_unit : (a b : UnitId) → same_unit a b ≡ true → a ≡ b
one_unit a b e =
    let h = both (a.partition == b.partition) (a.unit == b.unit) e in
    ap (λ n. record { partition = n; unit = a.unit }) (eqb-true a.partition b.partition h.0)
    ∙ ap (λ n. record { partition = b.partition; unit = n }) (eqb-true a.unit b.unit h.1)

pub flip : (x y : UnitId) → same_unit y x ≡ false → same_unit x y ≡ false
flip x y g = by_bool (same_unit x y) (same_unit x y ≡ false)
    (λ h.
    let e : x ≡ y = one_unit x y h in
    let yx : same_unit y x ≡ true = subst (λ (z : UnitId). same_unit z x ≡ true) e (subst (λ (z : UnitId). same_unit x z ≡ true) (sym e) h) in
    absurd (cc (g, yx)))
    (λ h. h)

-- a unit that is the same as one that is another
apart : (a b c : UnitId) → same_unit a b ≡ true → same_unit c b ≡ false → same_unit a c ≡ false
apart a b c e f = subst (λ (x : UnitId). same_unit x c ≡ false) (sym (one_unit a b e)) (flip b c f)

pub window_beside : (unit other : UnitId) (w : Option WindowValue) (ss : List Place) → same_unit other unit ≡ false
    → window_in other (with_window unit w ss) ≡ window_in other ss
window_beside unit other w [] away = refl
window_beside unit other w (t ∷ ss) away = by_bool (same_unit t.unit unit) (window_in other (with_window unit w (t ∷ ss)) ≡ window_in other (t ∷ ss))
    (λ e.
    let not_here : same_unit t.unit other ≡ false = apart t.unit unit other e away in
    ap (λ l. window_in other l) (with_head unit w t ss e) ∙ window_tail other (record t { window = w }) ss not_here
    ∙ sym (window_tail other t ss not_here))
    (λ e.
    ap (λ l. window_in other l) (with_tail unit w t ss e)
    ∙ by_bool (same_unit t.unit other) (window_in other (t ∷ with_window unit w ss) ≡ window_in other (t ∷ ss))
    (λ f. window_head other t (with_window unit w ss) f ∙ sym (window_head other t ss f))
    (λ f. window_tail other t (with_window unit w ss) f ∙ window_beside unit other w ss away ∙ sym (window_tail other t ss f)))

pub shape_with : (unit : UnitId) (w v : WindowValue) (ss : List Place) → window_in unit ss ≡ Some v → length w.pages ≡ length v.pages
    → shape_of (with_window unit (Some w) ss) ≡ shape_of ss
shape_with unit w v [] shown size = refl
shape_with unit w v (t ∷ ss) shown size = by_bool (same_unit t.unit unit) (shape_of (with_window unit (Some w) (t ∷ ss)) ≡ shape_of (t ∷ ss))
    (λ e.
    let kind : kind_of (Some w) ≡ kind_of t.window =
    ap suc size ∙ ap kind_of (sym shown ∙ window_head unit t ss e) in
    ap (λ l. shape_of l) (with_head unit (Some w) t ss e)
    ∙ ap (λ k. t.unit.partition ∷ t.unit.unit ∷ k ∷ shape_of ss) kind)
    (λ e.
    ap (λ l. shape_of l) (with_tail unit (Some w) t ss e)
    ∙ ap (λ l. t.unit.partition ∷ t.unit.unit ∷ kind_of t.window ∷ l)
    (shape_with unit w v ss (sym (window_tail unit t ss e) ∙ shown) size))

facts_shaped : (unit : UnitId) (new old : List Place) (o : Option WindowValue) → shape_of new ≡ shape_of old → facts_of unit new o ≡ facts_of unit old o
facts_shaped unit new old (Some x) e = refl
facts_shaped unit new old None e = ap (λ (l : List ℕ). record (facts_of unit old None) { laid = λ _. 1 ∷ l }) e

-- what is known of the other units' windows stays
pub facts_beside : (unit other : UnitId) (w v : WindowValue) (ss : List Place) → window_in unit ss ≡ Some v → length w.pages ≡ length v.pages
    → same_unit other unit ≡ false → facts_in (with_window unit (Some w) ss) other ≡ facts_in ss other
facts_beside unit other w v ss shown size away =
    ap (λ o. facts_of other (with_window unit (Some w) ss) o) (window_beside unit other (Some w) ss away)
    ∙ facts_shaped other (with_window unit (Some w) ss) ss (window_in other ss) (shape_with unit w v ss shown size)

-- what is known of a window through the map is what is known of it alone
pub known_there : (unit : UnitId) (w : WindowValue) (ss : List Place) → window_in unit ss ≡ Some w → w.unit ≡ unit
    → port_at (facts_in ss unit) ≡ known_of w
known_there unit w ss shown own =
    ap (λ (o : Option WindowValue). port_at (facts_of unit ss o)) shown
    ∙ ap (λ (u : UnitId). port_at (facts_of u ss (Some w))) (sym own)
