-- The page that an entry's last value names is one of the window's.
use Rattle.std.proofs.Common.{◌≡◌, ℕ, ◌+◌, ◌*◌, ◌/◌, ◌%◌, ◌<◌, ◌≤◌, ◌==◌, if◌then◌else◌, Bool, true, false, IsTrue, true≢false, List, map, filter, Option, Some, None, is_some, All, length, slice_get, get_or, refl, sym, ap, ◌∙◌, subst, ⊎_elim, arith}
use Rattle.std.proofs.lemmas.List.Elements.{All-filter, All-map, All-cons}
use Rattle.std.proofs.lemmas.Option.{slice_get_cases}
use Rattle.tce_window.specs.Grant.{values_of, has_right}
use Rattle.tce_window.specs.declared.answers.TceRow.{TceRow}
use Rattle.entry_slots.specs.EntryRule.{ArePages}
use Rattle.entry_slots.specs.EntrySteps.{IsWordOf}
use Rattle.entry_slots.specs.Words.{told_in, version_in}
use Rattle.entry_slots.proofs.EntryWords.{told_shown}

abbrev value_or : ℕ → Option ℕ → ℕ
value_or d (Some x) = x
value_or d None = d

none_some : (x : ℕ) → None ≡ Some x → ⊥
none_some x e = true≢false (sym (ap is_some e))

all_get : (P : ℕ → Type 0) (xs : List ℕ) (i x : ℕ) → All P xs → slice_get xs i ≡ Some x → P x
all_get P xs i x h e = ⊎_elim
    (λ (t : (y : ℕ) × (i < length xs) × (slice_get xs i ≡ Some y) × (get_or xs i y ≡ y)). subst P (t.3 ∙ ap (value_or x) (sym t.2 ∙ e)) (h i t.0 t.1))
    (λ (t : (length xs ≤ i) × (slice_get xs i ≡ None)). absurd (none_some x (sym t.1 ∙ e)))
    (slice_get_cases xs i).1

-- the value has no right, or its page is one of n
abbrev IsPage : ℕ → ℕ → Type 0
IsPage n value = IsTrue (has_right value) → value / 4096 < n

all_pages : (n e : ℕ) (rows : List TceRow) → e < n → ArePages n rows → All (IsPage n) (values_of rows e)
unfolding values_of
all_pages n e rows less pages = All-cons (IsPage n) (4096 * e + 3) (map (λ row. row.value) (filter (λ row. row.entry == e) rows)) (λ _. omega (arith, less))
    (All-map (IsPage n) (λ (row : TceRow). row.value) (filter (λ row. row.entry == e) rows) (All-filter (λ (row : TceRow). row.entry == e) (λ row. IsPage n row.value) rows pages))

told_page : (b : Bool) (n value tce : ℕ) → tce ≡ (if b then value / 4096 * 4096 + value % 4 else 0) → (IsTrue b → value / 4096 < n) → IsTrue (has_right tce) → tce / 4096 < n
told_page true n value tce is page right = let less = page refl in omega (arith, is, less)
told_page false n value tce is page right = absurd (true≢false (sym right ∙ ap has_right is))

pub shown_page : (n e word : ℕ) (rows : List TceRow) → e < n → ArePages n rows → IsWordOf rows e word → IsTrue (has_right (told_in word)) → told_in word / 4096 < n
shown_page n e word rows less pages is =
    told_page (has_right is.value) n is.value (told_in word) (told_shown word is.value is.code) (all_get (IsPage n) (values_of rows e) (version_in word) is.value (all_pages n e rows less pages) is.current.shown)
