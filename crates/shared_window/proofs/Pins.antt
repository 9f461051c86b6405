-- What a pin shows of an entry, and what is known of those that are held.
use Rattle.std.proofs.Common.{◌≡◌, ℕ, zero, suc, ◌+◌, ◌*◌, ◌/◌, ◌%◌, ◌<◌, ◌≤◌, ◌==◌, if◌then◌else◌, not, Bool, true, false, true≢false, All, List, [], ◌∷◌, ◌++◌, length, get_or, append-nil, inl, inr, refl, sym, ap, ◌∙◌, subst, arith, slice_get}
use Rattle.std.proofs.lemmas.Bool.{eq-eqb, ne_eqb}
use Rattle.tce_window.specs.declared.answers.Right.{Right}
use Rattle.tce_window.specs.declared.answers.Right.TheVariants.{Read, Write}
use Rattle.tce_window.specs.declared.answers.HoldFault.{HoldFault}
use Rattle.tce_window.specs.declared.answers.HoldFault.TheVariants.{Past, NotGranted, InUse}
use Rattle.tce_window.specs.declared.answers.TceRow.{TceRow}
use Rattle.tce_window.specs.declared.piece.Piece.{Piece}
use Rattle.tce_window.specs.Grant.{values_of, has_right, grants, told}
use Rattle.tce_window.specs.Pieces.{IsGranted, IsLast, MayUse, IsRefusedAt}
use Rattle.entry_slots.specs.Entries.{EntrySeatValue, IsPinned, IsNext, PinsEntry}
use Rattle.shared_window.specs.Pinning.{PinsOne, PinsUpTo, PinsFor, pinned_by, counts_from}
use Rattle.shared_window.proofs.Taking.{begins_trans}

-- a value and what is told of it grant the same
told_grants_by : (b : Bool) (right : Right) (value : ℕ) → b ≡ has_right value → grants right (if b then value / 4096 * 4096 + value % 4 else 0) ≡ grants right value
told_grants_by true Read value e = ap (λ x. x == 1) (same_bit value)
  where
    same_bit : (value : ℕ) → (value / 4096 * 4096 + value % 4) % 2 ≡ value % 2
    same_bit value = omega arith
told_grants_by true Write value e = ap (λ x. x == 1) (same_bit value)
  where
    same_bit : (value : ℕ) → (value / 4096 * 4096 + value % 4) / 2 % 2 ≡ value / 2 % 2
    same_bit value = omega arith
told_grants_by false Read value e = sym (ne_eqb (value % 2) 1 (λ one. true≢false (sym (ap not (ne_eqb (value % 4) 0 (λ none. omega (arith, one, none)))) ∙ sym e)))
told_grants_by false Write value e = sym (ne_eqb (value / 2 % 2) 1 (λ one. true≢false (sym (ap not (ne_eqb (value % 4) 0 (λ none. omega (arith, one, none)))) ∙ sym e)))

pub told_grants : (right : Right) (value : ℕ) → grants right (told value) ≡ grants right value
told_grants right value = told_grants_by (has_right value) right value refl

pub right_granted : (right : Right) (tce : ℕ) → grants right tce ≡ true → has_right tce ≡ true
right_granted Read tce g = ap not (ne_eqb (tce % 4) 0 (λ none. true≢false (sym g ∙ ne_eqb (tce % 2) 1 (λ one. omega (arith, one, none)))))
right_granted Write tce g = ap not (ne_eqb (tce % 4) 0 (λ none. true≢false (sym g ∙ ne_eqb (tce / 2 % 2) 1 (λ one. omega (arith, one, none)))))

told_page_by : (b : Bool) (value : ℕ) → b ≡ true → (if b then value / 4096 * 4096 + value % 4 else 0) / 4096 ≡ value / 4096
told_page_by true value e = omega arith
told_page_by false value e = absurd (true≢false (sym e))

pub told_page : (value : ℕ) → has_right value ≡ true → told value / 4096 ≡ value / 4096
told_page value right = told_page_by (has_right value) value right

-- the values of the entries that are held stay
module _ (values values' : ℕ → List ℕ) (first end : ℕ) (same : (i : ℕ) → first ≤ i → i < end → values' i ≡ values i) where
  pub granted_still : (right : Right) (pieces : List Piece) → All (λ piece. (first ≤ piece.entry) × (piece.entry < end)) pieces → All (IsGranted values right) pieces → All (IsGranted values' right) pieces
  granted_still right pieces inside h k d less = let g = h k d less in let t = inside k d less in
      record { value = g.value; shown = ap (λ l. slice_get l (get_or pieces k d).version) (same (get_or pieces k d).entry t.0 t.1) ∙ g.shown; granted = g.granted; page = g.page }

  pub last_still : (pieces : List Piece) → All (λ piece. (first ≤ piece.entry) × (piece.entry < end)) pieces → All (IsLast values) pieces → All (IsLast values') pieces
  last_still pieces inside h k d less = let t = inside k d less in ap length (same (get_or pieces k d).entry t.0 t.1) ∙ h k d less

  pub usable_still : (right : Right) (e : ℕ) → first ≤ e → e < end → MayUse values right e → MayUse values' right e
  usable_still right e low high m = record {
    version = m.version;
    value = m.value;
    current = record { shown = ap (λ l. slice_get l m.version) (same e low high) ∙ m.current.shown; last = ap length (same e low high) ∙ m.current.last };
    granted = m.granted;
  }

-- a pin more
pub pins_of : (old new : EntrySeatValue) (e word : ℕ) → PinsEntry old e word new → PinsOne old e new
pins_of old new e word p = record {
  known = p.known;
  kept = p.kept;
  own = p.own;
  from = p.from;
  count = p.count;
  none_released = ap (λ z. z.released) p.rest;
  table = ap (λ z. z.entries) p.rest;
  owns = ap (λ z. z.owns) p.rest;
}

from_more : (b : Bool) (e old first count : ℕ) → b ≡ (count == 0) → e ≡ first + count → (0 < count → old ≡ first) → (if b then e else old) ≡ first
from_more b e old first zero is at from = ap (λ (c : Bool). if c then e else old) (is ∙ eq-eqb 0 0 refl) ∙ omega (arith, at)
from_more b e old first (suc count) is at from = ap (λ (c : Bool). if c then e else old) (is ∙ ne_eqb (suc count) 0 (λ z. omega (arith, z))) ∙ from (omega arith)

pub pins_more : (old seat new : EntrySeatValue) (e first count : ℕ) → PinsUpTo old first count seat → PinsOne seat e new → e ≡ first + count → PinsUpTo old first (count + 1) new
pins_more old seat new e first count up one at = record {
  known = begins_trans old.rows seat.rows new.rows up.known one.known;
  own = λ t. one.own (up.owns ∙ t) ∙ up.own t;
  from = λ _. one.from ∙ from_more (seat.held_count == 0) e seat.held_from first count (ap (λ c. c == 0) up.count_is) at up.from;
  count_is = one.count ∙ ap (λ c. c + 1) up.count_is;
  table = one.table ∙ up.table;
  owns = one.owns ∙ up.owns;
}

pub kept_all : (old seat new : EntrySeatValue) (e first count : ℕ) → PinsUpTo old first count seat → PinsOne seat e new → (i : ℕ) → first ≤ i → i < first + count → values_of new.rows i ≡ values_of seat.rows i
kept_all old seat new e first count up one i low high =
    let from : seat.held_from ≡ first = up.from (omega (arith, low, high)) in let c = up.count_is in
    one.kept i (omega (arith, from, low), omega (arith, from, c, high))

-- one count more
pub counts_more : (rows : List TceRow) (first count : ℕ) → counts_from rows first (count + 1) ≡ counts_from rows first count ++ length (values_of rows (first + count)) ∷ []
counts_more rows first zero = let e : first ≡ first + 0 = omega arith in ap (λ f. length (values_of rows f) ∷ []) e
counts_more rows first (suc count) = let e : first + 1 + count ≡ first + suc count = omega arith in let up : suc count + 1 ≡ suc (count + 1) = omega arith in
    ap (counts_from rows first) up ∙ ap (λ l. length (values_of rows first) ∷ l) (counts_more rows (first + 1) count ∙ ap (λ f. counts_from rows (first + 1) count ++ length (values_of rows f) ∷ []) e)

pub pins_none : (old : EntrySeatValue) (first : ℕ) → old.held_count ≡ 0 → PinsUpTo old first 0 old
pins_none old first free = record { known = ([], sym (append-nil old.rows)); own = λ _. refl; from = λ some. absurd (omega (arith, some)); count_is = free; table = refl; owns = refl }

-- the next entry, or any where none is held
pub is_next : (old seat : EntrySeatValue) (first count e : ℕ) → PinsUpTo old first count seat → e ≡ first + count → IsNext seat e
is_next old seat first zero e up at = inl up.count_is
is_next old seat first (suc count) e up at = let c = up.count_is in let from : seat.held_from ≡ first = up.from (omega arith) in inr (omega (arith, c), omega (arith, c, from, at))

-- a piece more is among those of one entry more
pub inside_more : (first end end' : ℕ) (pieces : List Piece) → end ≤ end' → All (λ piece. (first ≤ piece.entry) × (piece.entry < end)) pieces → All (λ piece. (first ≤ piece.entry) × (piece.entry < end')) pieces
inside_more first end end' pieces more h k d less = let t = h k d less in (t.0, omega (arith, t.1, more))

-- what stays held after a refusal
pub pins_for : (old seat new : EntrySeatValue) (fault : HoldFault) (e first count : ℕ) → PinsUpTo old first count seat → PinsFor fault seat e new → e ≡ first + count → PinsUpTo old first (count + pinned_by fault) new
pins_for old seat new (NotGranted entry version tce) e first count up one at = pins_more old seat new e first count up one at
pins_for old seat new (Past entry) e first count up is at = subst (λ k. PinsUpTo old first k new) (none_more count) (subst (PinsUpTo old first count) (sym is) up)
  where
    none_more : (count : ℕ) → count ≡ count + 0
    none_more count = omega arith
pins_for old seat new (InUse page word) e first count up is at = subst (λ k. PinsUpTo old first k new) (none_more count) (subst (PinsUpTo old first count) (sym is) up)
  where
    none_more : (count : ℕ) → count ≡ count + 0
    none_more count = omega arith

pub some_inside : (n : ℕ) (right : Right) (values : ℕ → List ℕ) (at first count : ℕ) (fault : HoldFault) → IsRefusedAt values right n at fault → at ≡ first + count → (0 < count → first + count ≤ n) → 0 < count + pinned_by fault → first + (count + pinned_by fault) ≤ n
some_inside n right values at first count (NotGranted entry version tce) r is inside some = let e = r.0 in let less = r.1 in omega (arith, e, less, is)
some_inside n right values at first count (Past entry) r is inside some = let up = inside (omega (arith, some)) in omega (arith, up)
some_inside n right values at first count (InUse page word) r is inside some = absurd r

-- values that stay where nothing else was pinned
pub cause_of : (right : Right) (n at : ℕ) (old seat new : EntrySeatValue) (fault : HoldFault) → PinsFor fault seat at new → ((i : ℕ) → IsPinned seat i → values_of new.rows i ≡ values_of seat.rows i)
cause_of right n at old seat new (NotGranted entry version tce) one i pinned = one.kept i pinned
cause_of right n at old seat new (Past entry) is i pinned = ap (λ z. values_of z.rows i) is
cause_of right n at old seat new (InUse page word) is i pinned = ap (λ z. values_of z.rows i) is
