-- The rule of a table of translation entries: what its words and what its seats know have to meet, at every
-- moment. An entry's word has the number of its pins, its version and what a device may do.
use Rattle.std.specs.Prelude.{◌≡◌, ℕ, ◌+◌, ◌/◌, ◌<◌, ◌≤◌, ◌&&◌, IsTrue, nat_le, nat_lt, if◌then◌else◌, true, List, [], ◌∷◌, length, slice_index}
use Rattle.vio_num.specs.declared.TheConstants.{PAGE_BYTES}
use Rattle.std.specs.List.{All}
use mathlib.Core.Option.{some}
use lib.ListN.{get_elem?}
use Rattle.atomic_table.specs.Table.{State}
use Rattle.vio_num.specs.Words.{Begins}
use Rattle.tce_window.specs.Grant.{values_of, has_right, IsCurrent}
use Rattle.tce_window.specs.declared.answers.TceRow.{TceRow}
use Rattle.entry_slots.specs.Words.{code_of, entry_word}
use Rattle.entry_slots.specs.declared.view.EntriesKey.{EntriesKey}
use Rattle.entry_slots.specs.declared.view.EntryView.{EntryView}

-- the pins of one seat on entry e
abbrev pub pins_at : EntryView → ℕ → ℕ
pins_at v e = if nat_le v.held_from e && nat_lt e (v.held_from + v.held_count) then 1 else 0

-- those of all seats
abbrev pub pins_on : ℕ → List EntryView → ℕ
pins_on e [] = 0
pins_on e (v ∷ vs) = pins_at v e + pins_on e vs

-- The word shows the entry's last value, its version and the pins on it.
pub record Shows (rows : List TceRow) (e pins word : ℕ) : Type 0 where
  pub version : ℕ
  pub value : ℕ
  pub current : IsCurrent (values_of rows) e version value
  pub small : code_of value < 1024
  pub few : version < 2147483648
  pub word_is : word ≡ entry_word pins (code_of value) version

-- What the seat j knows: a front of the values put, and all of them of the entries that it holds.
pub record KnowsEntries (rows : List TceRow) (owner j : ℕ) (v : EntryView) : Type 0 where
  pub owner_is : v.owns ≡ true → (j ≡ owner) × (v.rows ≡ rows)
  pub known : Begins v.rows rows
  pub told : All (λ known. Begins known rows) v.told
  pub pins : (e : ℕ) → pins_at v e ≤ v.share
  pub kept : (e : ℕ) → pins_at v e ≡ 1 → values_of rows e ≡ values_of v.rows e

abbrev pub all_shares : List EntryView → ℕ
all_shares [] = 0
all_shares (v ∷ vs) = v.share + all_shares vs

-- of each value that was put and has a right, the page is one of n
abbrev pub ArePages : ℕ → List TceRow → Type 0
ArePages n rows = All (λ row. IsTrue (has_right row.value) → row.value / PAGE_BYTES < n) rows

-- a seat knows that there are n entries
abbrev pub HasSize : ℕ → EntryView → Type 0
HasSize n v = 0 < v.share → v.entries ≡ n

-- Each word shows the last value of its entry and the pins that the seats have on it.
pub record InEntries (n seats : ℕ) (s : State TceRow EntryView) : Type 0 where
  pub rows : List TceRow
  pub owner : ℕ
  pub words : length s.words ≡ n
  pub few : seats < 131072
  pub shares : all_shares s.views ≡ seats
  pub each_word : (e : ℕ) → e < n → Shows rows e (pins_on e s.views) (slice_index s.words e)
  pub each_seat : (j : ℕ) (v : EntryView) → get_elem? s.views j ≡ some v → KnowsEntries rows owner j v
  pub pages : ArePages n rows
  pub sizes : (j : ℕ) (v : EntryView) → get_elem? s.views j ≡ some v → HasSize n v

abbrev pub holds : EntriesKey → State TceRow EntryView → Type 0
holds key = InEntries key.entries key.seats

-- the first seat, which stands for all that are to be opened, and puts values
abbrev pub opened : EntriesKey → EntryView
opened key = record {
  entries = key.entries;
  share = key.seats;
  owns = true;
  rows = [];
  told = [];
  held_from = 0;
  held_count = 0;
  released = [];
  reads = 0;
  word = 0;
}
