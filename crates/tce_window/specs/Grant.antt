-- Translation entries and what they grant (LoPAR, "Translation Control Entry"): bit 0x1 of a value lets the
-- device read, bit 0x2 lets it write; the page is the value divided by 4,096.
use Rattle.std.specs.Prelude.{◌≡◌, ℕ, ◌+◌, ◌*◌, ◌/◌, ◌%◌, ◌<◌, ◌==◌, not, Bool, List, [], ◌∷◌, ◌++◌, length, map, filter, Some, slice_get, if◌then◌else◌}
use Rattle.vio_num.specs.declared.TheConstants.{PAGE_BYTES}
use Rattle.tce_window.specs.declared.answers.TceRow.{TceRow}
use Rattle.tce_window.specs.declared.answers.Right.{Right}
use Rattle.tce_window.specs.declared.answers.Right.TheVariants.{Read, Write}

-- whether the value grants this right
abbrev pub grants : Right → ℕ → Bool
grants Read tce = tce % 2 == 1
grants Write tce = tce / 2 % 2 == 1

-- whether the value has a right
abbrev pub has_right : ℕ → Bool
has_right tce = not (tce % 4 == 0)

-- the value as a refusal tells it: its page and its rights alone, or 0 where it has no right
abbrev pub told : ℕ → ℕ
told tce = if has_right tce then tce / PAGE_BYTES * PAGE_BYTES + tce % 4 else 0

-- the values of entry e where these were put, version 0 first
unfoldable pub values_of : List TceRow → ℕ → List ℕ
values_of rows e = (PAGE_BYTES * e + 3) ∷ map (λ row. row.value) (filter (λ row. row.entry == e) rows)

-- this version is the last of entry e, and has this value
pub record IsCurrent (values : ℕ → List ℕ) (e version value : ℕ) : Type 0 where
  pub shown : slice_get (values e) version ≡ Some value
  pub last : length (values e) ≡ version + 1

-- each value put is into one of n entries, and its version is its place among that entry's values
abbrev pub AreNumbered : ℕ → List TceRow → List TceRow → Type 0
AreNumbered n before [] = Unit {0}
AreNumbered n before (row ∷ rows) =
    (row.entry < n) × (row.version ≡ length (values_of before row.entry)) × AreNumbered n (before ++ row ∷ []) rows
