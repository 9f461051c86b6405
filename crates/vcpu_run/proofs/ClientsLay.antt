-- Which strokes turns lay in the regions of clients, and that each of a client's own bears the number of one of its lines.
use Rattle.std.proofs.Common.{◌≡◌, ◌≢◌, ◌∙◌, ◌⊎◌, inl, inr, ℕ, false, List, Option, Some, None, IsSomeAnd, length, slice_get, slice_set, refl, sym, ap, subst}
use Rattle.std.specs.Prelude.{⊤}
use Rattle.std.proofs.lemmas.Option.{slice_get_within}
use Rattle.vio_num.specs.declared.names.UnitId.{UnitId}
use Rattle.boot_text.specs.declared.plan.Line.{Line}
use Rattle.tce_window.specs.PlainPort.{known_of}
use Rattle.tce_window.specs.PortState.{PortPlace}
use Rattle.tce_window.specs.Window.{WindowValue, strokes_at}
use Rattle.unit_region.specs.Marks.{LaysNoStroke, LaysUnder}
use Rattle.unit_region.specs.RegionLines.{IsFrontOn}
use Rattle.unit_region.proofs.Laws.{on_as, on_self, on_then}
use Rattle.vcpu_run.specs.declared.pair.Pair.{Pair}
use Rattle.vcpu_run.specs.declared.unit_seat.Seat.{Seat}
use Rattle.vcpu_run.specs.declared.unit_seat.Seat.TheVariants as sits
use Rattle.vcpu_run.specs.ClientStrokes.{AllLay, KeepsOwn, LineLays, NoneLay, PairLays, PairLaysNone}
use Rattle.vcpu_run.proofs.Driving.{get_set_other, get_set_same, same_or, some_is}

-- ---- a pair

pub lays_kept : (old new : Pair) → new.window ≡ old.window → PairLaysNone old new
lays_kept old new same = record {
  unit = ap (λ w. w.unit) same;
  pages = ap (λ w. length w.pages) same;
  strokes = λ page.
      subst (λ w. IsFrontOn old.window.unit (λ m. ⊥ × (m ≡ 0)) (strokes_at old.window.pages page) (strokes_at w.pages page)) (sym same)
      (on_self old.window.unit (λ m. ⊥ × (m ≡ 0)) (strokes_at old.window.pages page));
}

pub lays_none : (old new : Pair) → (known_of new.window).place ≡ (known_of old.window).place → LaysNoStroke false (known_of old.window) (known_of new.window) → PairLaysNone old new
lays_none old new place lays = record {
  unit = ap (λ (p : PortPlace). p.unit) place;
  pages = ap (λ (p : PortPlace). p.size) place;
  strokes = λ page.
      subst (IsFrontOn old.window.unit (λ m. ⊥ × (m ≡ 0)) (strokes_at old.window.pages page)) (sym (lays refl page))
      (on_self old.window.unit (λ m. ⊥ × (m ≡ 0)) (strokes_at old.window.pages page));
}

pub lays_marked : (mark : ℕ) (old new : Pair) → (known_of new.window).place ≡ (known_of old.window).place → LaysUnder false mark (known_of old.window) (known_of new.window)
    → PairLays ⊤ mark old new
lays_marked mark old new place lays = record {
  unit = ap (λ (p : PortPlace). p.unit) place;
  pages = ap (λ (p : PortPlace). p.size) place;
  strokes = λ page.
      on_as old.window.unit (λ m. m ≡ mark) (λ m. ⊤ × (m ≡ mark)) (strokes_at old.window.pages page) (strokes_at new.window.pages page) (λ m e. (tt, e)) (lays refl page);
}

lays_still : (may : Type 0) (mark : ℕ) (pair : Pair) → PairLays may mark pair pair
lays_still may mark pair = record { unit = refl; pages = refl; strokes = λ page. on_self pair.window.unit (λ m. may × (m ≡ mark)) (strokes_at pair.window.pages page) }

lays_as : (may may' : Type 0) (mark mark' : ℕ) (old new : Pair) → ((m : ℕ) → may × (m ≡ mark) → may' × (m ≡ mark')) → PairLays may mark old new → PairLays may' mark' old new
lays_as may may' mark mark' old new so lays = record {
  unit = lays.unit;
  pages = lays.pages;
  strokes = λ page.
      on_as old.window.unit (λ m. may × (m ≡ mark)) (λ m. may' × (m ≡ mark')) (strokes_at old.window.pages page) (strokes_at new.window.pages page) so (lays.strokes page);
}

lays_if : (may may' : Type 0) (mark : ℕ) (old new : Pair) → (may → may') → PairLays may mark old new → PairLays may' mark old new
lays_if may may' mark old new so lays = lays_as may may' mark mark old new (λ m h. (so h.0, h.1)) lays

lays_nothing : (may : Type 0) (mark : ℕ) (old new : Pair) → PairLaysNone old new → PairLays may mark old new
lays_nothing may mark old new lays = lays_as ⊥ may 0 mark old new (λ m h. absurd h.0) lays

none_then_none : (a b c : Pair) → PairLaysNone a b → PairLaysNone b c → PairLaysNone a c
none_then_none a b c first next = record {
  unit = next.unit ∙ first.unit;
  pages = next.pages ∙ first.pages;
  strokes = λ page.
      on_then a.window.unit (λ m. ⊥ × (m ≡ 0)) (strokes_at a.window.pages page) (strokes_at b.window.pages page) (strokes_at c.window.pages page) (first.strokes page)
      (subst (λ (id : UnitId). IsFrontOn id (λ m. ⊥ × (m ≡ 0)) (strokes_at b.window.pages page) (strokes_at c.window.pages page)) first.unit (next.strokes page));
}

pub own_kept : (old new : WindowValue) → new ≡ old → (page : ℕ) → IsFrontOn old.unit (λ m. ⊥) (strokes_at old.pages page) (strokes_at new.pages page)
own_kept old new same page =
    subst (λ (w : WindowValue). IsFrontOn old.unit (λ m. ⊥) (strokes_at old.pages page) (strokes_at w.pages page)) (sym same)
    (on_self old.unit (λ m. ⊥) (strokes_at old.pages page))

pub own_still : (pair : Pair) → KeepsOwn pair pair
own_still pair page = on_self pair.window.unit (λ m. ⊥) (strokes_at pair.window.pages page)

pub own_still_then : (a b c : Pair) → b.window.unit ≡ a.window.unit → KeepsOwn a b → KeepsOwn b c → KeepsOwn a c
own_still_then a b c unit first next page =
    on_then a.window.unit (λ m. ⊥) (strokes_at a.window.pages page) (strokes_at b.window.pages page) (strokes_at c.window.pages page) (first page)
    (subst (λ (id : UnitId). IsFrontOn id (λ m. ⊥) (strokes_at b.window.pages page) (strokes_at c.window.pages page)) unit (next page))

-- ---- all pairs

some_pair : (P : Pair → Type 0) (o : Option Pair) (pair : Pair) → o ≡ Some pair → P pair → IsSomeAnd o P
some_pair P o pair is p = subst (λ (o : Option Pair). IsSomeAnd o P) (sym is) p

some_so : (P Q : Pair → Type 0) (o : Option Pair) → ((pair : Pair) → P pair → Q pair) → IsSomeAnd o P → IsSomeAnd o Q
some_so P Q None so p = absurd p
some_so P Q (Some pair) so p = so pair p

pub all_lay_same : (may : ℕ → Type 0) (mark : ℕ) (pairs : List Pair) → AllLay may mark pairs pairs
all_lay_same may mark pairs k after there = some_pair (λ before. PairLays (may k) mark before after) (slice_get pairs k) after there (lays_still (may k) mark after)

pub all_lay_set : (may : ℕ → Type 0) (mark : ℕ) (pairs : List Pair) (i : ℕ) (old new : Pair) → slice_get pairs i ≡ Some old → PairLays (may i) mark old new
    → AllLay may mark pairs (slice_set pairs i new)
all_lay_set may mark pairs i old new here lays k after there = at (same_or k i)
  where
    at : (k ≡ i) ⊎ (k ≢ i) → IsSomeAnd (slice_get pairs k) (λ before. PairLays (may k) mark before after)
    at (inl e) =
        let now : after ≡ new = some_is after new (sym there ∙ (ap (slice_get (slice_set pairs i new)) e ∙ get_set_same pairs i new (slice_get_within pairs i old here))) in
        some_pair (λ before. PairLays (may k) mark before after) (slice_get pairs k) old (ap (slice_get pairs) e ∙ here)
        (subst (λ n. PairLays (may n) mark old after) (sym e) (subst (PairLays (may i) mark old) (sym now) lays))
    at (inr apart) =
        some_pair (λ before. PairLays (may k) mark before after) (slice_get pairs k) after (sym (get_set_other pairs i k new apart) ∙ there) (lays_still (may k) mark after)

pub none_lay_same : (pairs : List Pair) → NoneLay pairs pairs
none_lay_same pairs = all_lay_same (λ k. ⊥) 0 pairs

pub none_lay_set : (pairs : List Pair) (i : ℕ) (old new : Pair) → slice_get pairs i ≡ Some old → PairLaysNone old new → NoneLay pairs (slice_set pairs i new)
none_lay_set pairs i old new here lays = all_lay_set (λ k. ⊥) 0 pairs i old new here lays

pub own_lay_set : (mark : ℕ) (pairs : List Pair) (i : ℕ) (old new : Pair) → slice_get pairs i ≡ Some old → PairLays ⊤ mark old new
    → AllLay (λ k. k ≡ i) mark pairs (slice_set pairs i new)
own_lay_set mark pairs i old new here lays = all_lay_set (λ k. k ≡ i) mark pairs i old new here (lays_if ⊤ (i ≡ i) mark old new (λ may. refl) lays)

pub none_lay_on : (a b c : List Pair) → NoneLay a b → NoneLay b c → NoneLay a c
none_lay_on a b c first next k after there = at (slice_get b k) refl (next k after there)
  where
    at : (o : Option Pair) → slice_get b k ≡ o → IsSomeAnd o (λ mid. PairLaysNone mid after) → IsSomeAnd (slice_get a k) (λ before. PairLaysNone before after)
    at None e h = absurd h
    at (Some mid) e h =
        some_so (λ before. PairLaysNone before mid) (λ before. PairLaysNone before after) (slice_get a k) (λ before was. none_then_none before mid after was h) (first k mid e)

-- a line at one client, at none, or a call on none of its units' regions
pub line_lays : (seats : List Seat) (line : Line) (i : ℕ) (old new : List Pair) → slice_get seats line.unit ≡ Some (sits.Client i)
    → AllLay (λ k. k ≡ i) line.number old new → LineLays seats line old new
line_lays seats line i old new here lays k after there =
    some_so (λ before. PairLays (k ≡ i) line.number before after) (λ before. PairLays (slice_get seats line.unit ≡ Some (sits.Client k)) line.number before after)
    (slice_get old k)
    (λ before. lays_if (k ≡ i) (slice_get seats line.unit ≡ Some (sits.Client k)) line.number before after (λ e. here ∙ ap (λ n. Some (sits.Client n)) (sym e)))
    (lays k after there)

pub line_lays_none : (seats : List Seat) (line : Line) (old new : List Pair) → NoneLay old new → LineLays seats line old new
line_lays_none seats line old new lays k after there =
    some_so (λ before. PairLaysNone before after) (λ before. PairLays (slice_get seats line.unit ≡ Some (sits.Client k)) line.number before after) (slice_get old k)
    (λ before. lays_nothing (slice_get seats line.unit ≡ Some (sits.Client k)) line.number before after) (lays k after there)
