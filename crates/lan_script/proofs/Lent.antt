-- The map of windows that was lent to a switch comes back with the windows that it had.
use Rattle.std.proofs.Common.{◌≡◌, ◌==◌, ◌&&◌, ◌<◌, ℕ, suc, arith, true, false, List, [], ◌∷◌, Option, Some, None, All, length, map, option_map, refl, sym, ◌∙◌, ap, subst}
use Rattle.std.proofs.lemmas.List.Elements.{All-head, All-tail}
use Rattle.std.proofs.lemmas.Bool.{eq-eqb}
use Rattle.vio_num.specs.declared.names.UnitId.{UnitId}
use Rattle.tce_window.specs.PortState.{WindowFacts}
use Rattle.tce_window.specs.Window.{WindowValue}
use Rattle.lan_switch.specs.Switch.{AreAscending, order_of, same_unit}
use Rattle.lan_script.specs.declared.windows.Place.{Place}
use Rattle.lan_script.specs.Units.{WindowKey, window_key}
use Rattle.lan_script.specs.Windows.{facts_in, facts_of, kind_of, shape_of, window_in, with_window}
use Rattle.lan_script.proofs.Placing.{by_bool, one_unit, window_head, window_tail, with_head, with_tail}

-- no window of a unit that is known to be away came in its place, and the windows beside it are those of before
away_of : (unit : UnitId) (old new : List Place) (o : Option WindowValue) → facts_of unit new o ≡ facts_of unit old None
    → (o ≡ None) × (shape_of new ≡ shape_of old)
away_of unit old new None e = (refl, tails (ap (λ (f : WindowFacts). f.laid 0) e))
  where
    tails : 1 ∷ shape_of new ≡ 1 ∷ shape_of old → shape_of new ≡ shape_of old
    tails f = cc (f)
away_of unit old new (Some w) e = absurd (differ (ap (λ (f : WindowFacts). f.laid 0) e))
  where
    differ : [] ≡ 1 ∷ shape_of old → ⊥
    differ f = cc (f)

pub away_back : (unit : UnitId) (old new : List Place) → window_in unit old ≡ None → facts_in new unit ≡ facts_in old unit
    → (window_in unit new ≡ None) × (shape_of new ≡ shape_of old)
away_back unit old new away e =
    away_of unit old new (window_in unit new) (e ∙ ap (λ o. facts_of unit old o) away)

-- windows of one kind, of which neither holds anything, have one key
kinds : (u : UnitId) (a b : Option WindowValue) → kind_of a ≡ kind_of b
    → option_map (λ (w : WindowValue). w.held_count) a ≡ option_map (λ (w : WindowValue). 0) a
    → option_map (λ (w : WindowValue). w.held_count) b ≡ option_map (λ (w : WindowValue). 0) b
    → window_key (record { unit = u; window = a }) ≡ window_key (record { unit = u; window = b })
kinds u None None e f g = refl
kinds u None (Some b) e f g = absurd (cc (e))
kinds u (Some a) None e f g = absurd (cc (e))
kinds u (Some a) (Some b) e f g =
    ap (λ n. record { unit = u; pages = Some n; held = Some a.held_count }) (less (length a.pages) (length b.pages) e)
    ∙ ap (λ (o : Option ℕ). record { unit = u; pages = Some (length b.pages); held = o }) (f ∙ sym g)
  where
    less : (m n : ℕ) → suc m ≡ suc n → m ≡ n
    less m n h = omega (arith, h)

-- nothing of a window is held
abbrev pub IsFree : Option WindowValue → Type 0
IsFree o = option_map (λ (w : WindowValue). w.held_count) o ≡ option_map (λ (w : WindowValue). 0) o

abbrev pub AreFree : List Place → Type 0
AreFree [] = Unit {0}
AreFree (p ∷ ps) = IsFree p.window × AreFree ps

unit_is : (a b : UnitId) → a.partition ≡ b.partition → a.unit ≡ b.unit → a ≡ b
unit_is a b e f =
    ap (λ n. record { partition = n; unit = a.unit }) e ∙ ap (λ n. record { partition = b.partition; unit = n }) f

-- windows of one shape, of which none is held, have the same keys
pub keys_back : (old new : List Place) → shape_of new ≡ shape_of old → AreFree old → AreFree new → map window_key new ≡ map window_key old
keys_back [] [] e f g = refl
keys_back [] (q ∷ qs) e f g = absurd (cc (e))
keys_back (p ∷ ps) [] e f g = absurd (cc (e))
keys_back (p ∷ ps) (q ∷ qs) e f g =
    let parts = split q.unit.partition q.unit.unit (kind_of q.window) (shape_of qs) p.unit.partition p.unit.unit (kind_of p.window) (shape_of ps) e in
    let same : q.unit ≡ p.unit = unit_is q.unit p.unit parts.0 parts.1.0 in
    ap (λ (k : WindowKey). k ∷ map window_key qs)
    (ap (λ (u : UnitId). window_key (record { unit = u; window = q.window })) same ∙ kinds p.unit q.window p.window parts.1.1.0 g.0 f.0)
    ∙ ap (λ l. window_key p ∷ l) (keys_back ps qs parts.1.1.1 f.1 g.1)
  where
    split : (a b c : ℕ) (xs : List ℕ) (a' b' c' : ℕ) (ys : List ℕ) → a ∷ b ∷ c ∷ xs ≡ a' ∷ b' ∷ c' ∷ ys
        → (a ≡ a') × ((b ≡ b') × ((c ≡ c') × (xs ≡ ys)))
    split a b c xs a' b' c' ys h = (cc (h), (cc (h), (cc (h), cc (h))))

-- what is known of windows tells that none is held
free_at : (unit : UnitId) (ps : List Place) (o : Option WindowValue) → (facts_of unit ps o).held_count ≡ 0 → IsFree o
free_at unit ps (Some w) e = ap (λ n. Some n) e
free_at unit ps None e = refl

-- the units of these places
abbrev pub units_of : List Place → List UnitId
units_of ps = map (λ place. place.unit) ps

-- a unit that stands before others is none of them
absent : (unit : UnitId) (ps : List Place) → All (λ other. order_of unit < order_of other) (units_of ps) → window_in unit ps ≡ None
absent unit [] before = refl
absent unit (p ∷ ps) before =
    by_bool (same_unit p.unit unit) (window_in unit (p ∷ ps) ≡ None)
    (λ e. absurd (omega (arith, All-head (λ other. order_of unit < order_of other) p.unit (units_of ps) before, ap order_of (one_unit p.unit unit e))))
    (λ e. window_tail unit p ps e ∙ absent unit ps (All-tail (λ other. order_of unit < order_of other) p.unit (units_of ps) before))

pub all_free : (ps whole : List Place) → AreAscending (units_of ps)
    → ((u : UnitId) → (facts_of u whole (window_in u ps)).held_count ≡ 0) → AreFree ps
all_free [] whole ascending free = tt
all_free (p ∷ ps) whole ascending free = (
  free_at p.unit whole p.window (subst (λ (o : Option WindowValue). (facts_of p.unit whole o).held_count ≡ 0) (window_head p.unit p ps (same_self p.unit)) (free p.unit)),
  all_free ps whole ascending.1 (λ u.
      by_bool (same_unit p.unit u) ((facts_of u whole (window_in u ps)).held_count ≡ 0)
      (λ e. subst (λ (o : Option WindowValue). (facts_of u whole o).held_count ≡ 0)
      (sym (subst (λ (x : UnitId). window_in x ps ≡ None) (one_unit p.unit u e) (absent p.unit ps ascending.0))) refl)
      (λ e. subst (λ (o : Option WindowValue). (facts_of u whole o).held_count ≡ 0) (window_tail u p ps e) (free u))),
)
  where
    same_self : (u : UnitId) → same_unit u u ≡ true
    same_self u = ap (λ b. b && (u.unit == u.unit)) (eq-eqb u.partition u.partition refl) ∙ eq-eqb u.unit u.unit refl

-- the units of places that have the same keys
units_same : (old new : List Place) → map window_key new ≡ map window_key old → units_of new ≡ units_of old
units_same [] [] e = refl
units_same [] (q ∷ qs) e = absurd (cc (e))
units_same (p ∷ ps) [] e = absurd (cc (e))
units_same (p ∷ ps) (q ∷ qs) e =
    let parts = split (window_key q) (map window_key qs) (window_key p) (map window_key ps) e in
    ap (λ (k : WindowKey). k.unit ∷ units_of qs) parts.0 ∙ ap (λ l. p.unit ∷ l) (units_same ps qs parts.1)
  where
    split : (x : WindowKey) (xs : List WindowKey) (y : WindowKey) (ys : List WindowKey) → x ∷ xs ≡ y ∷ ys → (x ≡ y) × (xs ≡ ys)
    split x xs y ys h = (cc (h), cc (h))

-- places of one shape have the same units
pub shape_units : (old new : List Place) → shape_of new ≡ shape_of old → units_of new ≡ units_of old
shape_units [] [] e = refl
shape_units [] (q ∷ qs) e = absurd (cc (e))
shape_units (p ∷ ps) [] e = absurd (cc (e))
shape_units (p ∷ ps) (q ∷ qs) e =
    let parts = split q.unit.partition q.unit.unit (kind_of q.window) (shape_of qs) p.unit.partition p.unit.unit (kind_of p.window) (shape_of ps) e in
    ap (λ (u : UnitId). u ∷ units_of qs) (unit_is q.unit p.unit parts.0 parts.1.0) ∙ ap (λ l. p.unit ∷ l) (shape_units ps qs parts.1.1)
  where
    split : (a b c : ℕ) (xs : List ℕ) (a' b' c' : ℕ) (ys : List ℕ) → a ∷ b ∷ c ∷ xs ≡ a' ∷ b' ∷ c' ∷ ys
        → (a ≡ a') × ((b ≡ b') × (xs ≡ ys))
    split a b c xs a' b' c' ys h = (cc (h), (cc (h), cc (h)))

-- a window put among places of the same keys
pub with_keys : (unit : UnitId) (o : Option WindowValue) (old new : List Place) → map window_key new ≡ map window_key old
    → map window_key (with_window unit o new) ≡ map window_key (with_window unit o old)
with_keys unit o [] [] e = refl
with_keys unit o [] (q ∷ qs) e = absurd (cc (e))
with_keys unit o (p ∷ ps) [] e = absurd (cc (e))
with_keys unit o (p ∷ ps) (q ∷ qs) e =
    let parts = split (window_key q) (map window_key qs) (window_key p) (map window_key ps) e in
    let same : q.unit ≡ p.unit = ap (λ (k : WindowKey). k.unit) parts.0 in
    by_bool (same_unit p.unit unit) (map window_key (with_window unit o (q ∷ qs)) ≡ map window_key (with_window unit o (p ∷ ps)))
    (λ f.
    let f' : same_unit q.unit unit ≡ true = ap (λ (u : UnitId). same_unit u unit) same ∙ f in
    ap (λ l. map window_key l) (with_head unit o q qs f')
    ∙ ap (λ (u : UnitId). window_key (record { unit = u; window = o }) ∷ map window_key qs) same
    ∙ ap (λ l. window_key (record { unit = p.unit; window = o }) ∷ l) parts.1
    ∙ sym (ap (λ l. map window_key l) (with_head unit o p ps f)))
    (λ f.
    let f' : same_unit q.unit unit ≡ false = ap (λ (u : UnitId). same_unit u unit) same ∙ f in
    ap (λ l. map window_key l) (with_tail unit o q qs f')
    ∙ ap (λ (k : WindowKey). k ∷ map window_key (with_window unit o qs)) parts.0
    ∙ ap (λ l. window_key p ∷ l) (with_keys unit o ps qs parts.1)
    ∙ sym (ap (λ l. map window_key l) (with_tail unit o p ps f)))
  where
    split : (x : WindowKey) (xs : List WindowKey) (y : WindowKey) (ys : List WindowKey) → x ∷ xs ≡ y ∷ ys → (x ≡ y) × (xs ≡ ys)
    split x xs y ys h = (cc (h), cc (h))
