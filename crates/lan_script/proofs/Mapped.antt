-- What a call on a unit's window leaves of the map of windows.
use Rattle.std.proofs.Common.{◌≡◌, ℕ, ◌<◌, zero, suc, get_or, List, [], ◌∷◌, Option, Some, None, IsSome, All, length, slice_get, set, refl, sym, ◌∙◌, ap, subst, arith}
use Rattle.std.proofs.lemmas.List.Elements.{All-get_or, All-set}
use Rattle.vio_num.specs.declared.names.UnitId.{UnitId}
use Rattle.tce_window.specs.PlainPort.{known_of}
use Rattle.tce_window.specs.PortState.{PortPlace, PortState, port_at}
use Rattle.tce_window.specs.Window.{WindowValue}
use Rattle.lan_switch.specs.Map.{KeepsOthers}
use Rattle.lan_script.specs.declared.windows.Place.{Place}
use Rattle.lan_script.specs.Windows.{IsOwn, TurnsAt, Turns, facts_in, place_in, window_in, with_window}
use Rattle.lan_script.proofs.Placing.{facts_beside, found, has_place, known_there, one_unit, own_place, placed, window_with}

-- the window keeps its unit and its size
same_place : (before after : WindowValue) → (known_of after).place ≡ (known_of before).place
    → (after.unit ≡ before.unit) × (length after.pages ≡ length before.pages)
same_place before after e = (ap (λ (p : PortPlace). p.unit) e, ap (λ (p : PortPlace). p.size) e)

-- the window at the unit's place
pub there : (unit : UnitId) (old : List Place) (place : ℕ) (s : Place) → place ≡ place_in unit old → slice_get old place ≡ Some s
    → window_in unit old ≡ s.window
there unit old place s at shown = found unit old s (subst (λ k. slice_get old k ≡ Some s) at shown)

-- a change of the window at the unit's place
pub turns_at : (unit : UnitId) (old : List Place) (place : ℕ) (s : Place) (o : Option WindowValue) (P : WindowValue → WindowValue → Type 0)
    → place ≡ place_in unit old → slice_get old place ≡ Some s → IsOwn s → Turns s.window o P
    → TurnsAt unit old (set old place (record s { window = o })) P
turns_at unit old place s o P at shown own h =
    let shown' : slice_get old (place_in unit old) ≡ Some s = subst (λ k. slice_get old k ≡ Some s) at shown in
    let s_unit : s.unit ≡ unit = one_unit s.unit unit (own_place unit old s shown') in
    record {
      before = h.before;
      after = h.after;
      was = found unit old s shown' ∙ h.was;
      own = owned s.window h.was own ∙ s_unit;
      rest = ap (λ (x : Option WindowValue). set old place (record s { window = x })) h.is
          ∙ ap (λ k. set old k (record s { window = Some h.after })) at ∙ placed unit (Some h.after) old s shown';
      made = h.made;
    }
  where
    owned : (x : Option WindowValue) → x ≡ Some h.before → IsOwn (record s { window = x }) → h.before.unit ≡ s.unit
    owned (Some w) e f = ap (λ (v : WindowValue). v.unit) (sym (some w h.before e)) ∙ f
      where
        some : (a b : WindowValue) → Some a ≡ Some b → a ≡ b
        some a b g = cc (g)
    owned None e f = absurd (cc (e))

pub known_before : (unit : UnitId) (old new : List Place) (P : WindowValue → WindowValue → Type 0) (h : TurnsAt unit old new P)
    → port_at (facts_in old unit) ≡ known_of h.before
known_before unit old new P h = known_there unit h.before old h.was h.own

pub window_after : (unit : UnitId) (old new : List Place) (P : WindowValue → WindowValue → Type 0) (h : TurnsAt unit old new P)
    → window_in unit new ≡ Some h.after
window_after unit old new P h = ap (λ l. window_in unit l) h.rest ∙ window_with unit (Some h.after) old (has_place unit h.before old h.was)

pub known_after : (unit : UnitId) (old new : List Place) (P : WindowValue → WindowValue → Type 0) (h : TurnsAt unit old new P)
    → (known_of h.after).place ≡ (known_of h.before).place → port_at (facts_in new unit) ≡ known_of h.after
known_after unit old new P h same =
    known_there unit h.after new (window_after unit old new P h) ((same_place h.before h.after same).0 ∙ h.own)

pub keeps_others : (unit : UnitId) (old new : List Place) (P : WindowValue → WindowValue → Type 0) (h : TurnsAt unit old new P)
    → (known_of h.after).place ≡ (known_of h.before).place → KeepsOthers unit (facts_in old) (facts_in new)
keeps_others unit old new P h same other away =
    ap (λ l. facts_in l other) h.rest
    ∙ facts_beside unit other h.after h.before old h.was (same_place h.before h.after same).1 away

-- a fact of what is known of a window, told of what is known of it through the map
pub told : (unit : UnitId) (old new : List Place) (P : WindowValue → WindowValue → Type 0) (h : TurnsAt unit old new P)
    (Q : PortState → PortState → Type 0) → (known_of h.after).place ≡ (known_of h.before).place
    → Q (known_of h.before) (known_of h.after) → Q (port_at (facts_in old unit)) (port_at (facts_in new unit))
told unit old new P h Q same q =
    subst (λ x. Q x (port_at (facts_in new unit))) (sym (known_before unit old new P h))
    (subst (λ y. Q (known_of h.before) y) (sym (known_after unit old new P h same)) q)

-- what stands at a place of a list
at_place : {X : Type 0} (ss : List X) (p : ℕ) (s : X) → p < length ss → s ≡ get_or ss p s → slice_get ss p ≡ Some s
at_place [] p s less is = absurd (omega (arith, less))
at_place (t ∷ ss) zero s less is = ap (λ x. Some x) (sym is)
at_place (t ∷ ss) (suc p) s less is = at_place ss p s (omega (arith, less)) is

pub shown_at : {X : Type 0} (ss now : List X) (p : ℕ) (s : X) → ss ≡ now → p < length now → s ≡ get_or ss p s → slice_get now p ≡ Some s
shown_at ss now p s same less is =
    ap (λ l. slice_get l p) (sym same) ∙ at_place ss p s (subst (λ l. p < length l) (sym same) less) is

-- a window that became another of its unit is its place's still
pub still_own : (s : Place) (o : Option WindowValue) (P : WindowValue → WindowValue → Type 0) (h : Turns s.window o P) → IsOwn s
    → (known_of h.after).place ≡ (known_of h.before).place → IsOwn (record s { window = o })
still_own s o P h own same =
    subst (λ (x : Option WindowValue). IsOwn (record s { window = x })) (sym h.is)
    ((same_place h.before h.after same).0 ∙ subst (λ (x : Option WindowValue). IsOwn (record s { window = x })) h.was own)

-- the same of all places
pub all_own : (ss : List Place) (p : ℕ) (s : Place) (o : Option WindowValue) (P : WindowValue → WindowValue → Type 0) (h : Turns s.window o P)
    → All IsOwn ss → p < length ss → s ≡ get_or ss p s → (known_of h.after).place ≡ (known_of h.before).place
    → All IsOwn (set ss p (record s { window = o }))
all_own ss p s o P h all less is same =
    All-set IsOwn ss p (record s { window = o })
    (still_own s o P h (subst IsOwn (sym is) (All-get_or IsOwn ss p s less all)) same) all

-- the same from what a call tells
pub turns_there : (unit : UnitId) (ss now : List Place) (place : ℕ) (s : Place) (o : Option WindowValue) (P : WindowValue → WindowValue → Type 0)
    → ss ≡ now → place < length now → s ≡ get_or ss place s → place ≡ place_in unit now → All IsOwn ss → Turns s.window o P
    → TurnsAt unit now (set ss place (record s { window = o })) P
turns_there unit ss now place s o P same less is at all h =
    let within : place < length ss = subst (λ (l : List Place). place < length l) (sym same) less in
    let own : IsOwn s = subst IsOwn (sym is) (All-get_or IsOwn ss place s within all) in
    subst (λ (l : List Place). TurnsAt unit now (set l place (record s { window = o })) P) (sym same)
    (turns_at unit now place s o P at (shown_at ss now place s same less is) own h)

pub own_there : (ss now : List Place) (place : ℕ) (s : Place) (o : Option WindowValue) (P : WindowValue → WindowValue → Type 0)
    (h : Turns s.window o P) → ss ≡ now → place < length now → s ≡ get_or ss place s → All IsOwn ss
    → (known_of h.after).place ≡ (known_of h.before).place → All IsOwn (set ss place (record s { window = o }))
own_there ss now place s o P h same less is all kept =
    all_own ss place s o P h all (subst (λ (l : List Place). place < length l) (sym same) less) is kept

pub window_there : (unit : UnitId) (ss now : List Place) (place : ℕ) (s : Place) → ss ≡ now → place < length now → s ≡ get_or ss place s
    → place ≡ place_in unit now → window_in unit now ≡ s.window
window_there unit ss now place s same less is at = there unit now place s at (shown_at ss now place s same less is)

pub some_there : (o : Option WindowValue) (w : WindowValue) → o ≡ Some w → IsSome o
some_there (Some v) w e = refl
some_there None w e = absurd (cc (e))

-- a window that is there has a place
pub within_some : (unit : UnitId) (now : List Place) (p : ℕ) → p ≡ place_in unit now → IsSome (window_in unit now) → p < length now
within_some unit now p at some = by_window (window_in unit now) refl some
  where
    by_window : (o : Option WindowValue) → window_in unit now ≡ o → IsSome o → p < length now
    by_window (Some w) e some = subst (λ k. k < length now) (sym at) (has_place unit w now e)
    by_window None e some = absurd (cc (some))

pub none_there : (o : Option WindowValue) → o ≡ None → IsSome o → ⊥
none_there None e some = cc (some)
none_there (Some w) e some = cc (e)

-- a change of the window at a unit's place
pub changed_there : (unit : UnitId) (ss now : List Place) (p : ℕ) (s : Place) (o o' : Option WindowValue) → ss ≡ now → p < length now
    → s ≡ get_or ss p s → p ≡ place_in unit now → o ≡ o' → set ss p (record s { window = o }) ≡ with_window unit o' now
changed_there unit ss now p s o o' same less is at e =
    ap (λ (x : Option WindowValue). set ss p (record s { window = x })) e
    ∙ ap (λ (l : List Place). set l p (record s { window = o' })) same
    ∙ ap (λ k. set now k (record s { window = o' })) at
    ∙ placed unit o' now s (subst (λ k. slice_get now k ≡ Some s) at (shown_at ss now p s same less is))

pub unit_there : (unit : UnitId) (ss now : List Place) (p : ℕ) (s : Place) → ss ≡ now → p < length now → s ≡ get_or ss p s
    → p ≡ place_in unit now → s.unit ≡ unit
unit_there unit ss now p s same less is at =
    one_unit s.unit unit (own_place unit now s (subst (λ k. slice_get now k ≡ Some s) at (shown_at ss now p s same less is)))

pub own_window : (s : Place) (w : WindowValue) → s.window ≡ Some w → IsOwn s → w.unit ≡ s.unit
own_window s w e own = subst (λ (x : Option WindowValue). IsOwn (record s { window = x })) e own

pub put_own : (unit : UnitId) (ss now : List Place) (p : ℕ) (s : Place) (w : WindowValue) → ss ≡ now → p < length now → s ≡ get_or ss p s
    → p ≡ place_in unit now → w.unit ≡ unit → All IsOwn ss → All IsOwn (set ss p (record s { window = Some w }))
put_own unit ss now p s w same less is at own all =
    All-set IsOwn ss p (record s { window = Some w }) (own ∙ sym (unit_there unit ss now p s same less is at)) all

pub window_own : (unit : UnitId) (ss now : List Place) (p : ℕ) (s : Place) (w : WindowValue) → ss ≡ now → p < length now → s ≡ get_or ss p s
    → p ≡ place_in unit now → s.window ≡ Some w → All IsOwn ss → w.unit ≡ unit
window_own unit ss now p s w same less is at e all =
    own_window s w e
    (subst IsOwn (sym is) (All-get_or IsOwn ss p s (subst (λ (l : List Place). p < length l) (sym same) less) all))
    ∙ unit_there unit ss now p s same less is at
