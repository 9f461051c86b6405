-- What contracts see of the entries of a shared window and of a seat at them, and what their calls leave of it.
use Rattle.std.specs.Prelude.{◌≡◌, ℕ, ◌+◌, ◌-◌, ◌<◌, ◌≤◌, ◌⊎◌, ◌==◌, if◌then◌else◌, Bool, true, List, [], ◌∷◌, ◌++◌, length}
use Rattle.atomic_table.specs.Seated.{TableId}
use Rattle.vio_num.specs.Words.{Begins, WordRead, ReadsWord}
use Rattle.tce_window.specs.declared.answers.TceRow.{TceRow}
use Rattle.tce_window.specs.Grant.{told, values_of, IsCurrent}
use Rattle.entry_slots.specs.Words.{version_in, told_in, IsOther}

pub record EntriesValue : Type 0 where
  -- which entries they are, how many, and how many seats were opened at them
  pub id : TableId
  pub count : ℕ
  pub seats : ℕ

pub record EntrySeatValue : Type 0 where
  -- the entries that it is a seat at, and whether it puts values
  pub entries : TableId
  pub owns : Bool
  -- the values known of all entries, in the order in which they were put
  pub rows : List TceRow
  -- the entries that it holds: so many, from this one on
  pub held_from : ℕ
  pub held_count : ℕ
  -- the words that were read as entries were released, since the last entry was pinned
  pub released : List ℕ
  pub last : WordRead

-- the seat holds entry e
abbrev pub IsPinned : EntrySeatValue → ℕ → Type 0
IsPinned seat e = (seat.held_from ≤ e) × (e < seat.held_from + seat.held_count)

-- the entry is the next one behind those that the seat holds, or any where it holds none
abbrev pub IsNext : EntrySeatValue → ℕ → Type 0
IsNext seat e = (seat.held_count ≡ 0) ⊎ ((0 < seat.held_count) × (seat.held_from + seat.held_count ≡ e))

-- A seat at these entries that holds so many of them, from this one on.
pub record HoldsRange (entries : EntriesValue) (from count : ℕ) (seat : EntrySeatValue) : Type 0 where
  pub ours : seat.entries ≡ entries.id
  pub count_is : seat.held_count ≡ count
  pub from_is : 0 < count → seat.held_from ≡ from

-- The word shows the last of the entry's values: its version, and its page and rights as a refusal tells them.
pub record ShowsLast (rows : List TceRow) (e word : ℕ) : Type 0 where
  pub value : ℕ
  pub current : IsCurrent (values_of rows) e (version_in word) value
  pub told_is : told_in word ≡ told value

-- A new seat, which knows no value that was put, and holds nothing.
pub record IsFreshAt (entries : EntriesValue) (seat : EntrySeatValue) : Type 0 where
  pub ours : seat.entries ≡ entries.id
  pub rows : seat.rows ≡ []
  pub held : seat.held_count ≡ 0
  pub count : seat.last.count ≡ 0

-- The entry is held too. The word that was read shows its last value, and no entry that was held has a later
-- value than was known. A seat that puts values knew all of them.
pub record PinsEntry (old : EntrySeatValue) (e word : ℕ) (new : EntrySeatValue) : Type 0 where
  pub known : Begins old.rows new.rows
  pub kept : (i : ℕ) → IsPinned old i → values_of new.rows i ≡ values_of old.rows i
  pub own : old.owns ≡ true → new.rows ≡ old.rows
  pub shows : ShowsLast new.rows e word
  pub from : new.held_from ≡ (if old.held_count == 0 then e else old.held_from)
  pub count : new.held_count ≡ old.held_count + 1
  pub read : ReadsWord old.last new.last word
  pub rest : new ≡ record old { rows = new.rows; held_from = new.held_from; held_count = new.held_count; released = []; last = new.last }

-- The first entry held is released. The word that was read shows the last value that was known: none was put
-- while the entry was held.
pub record Releases (old : EntrySeatValue) (word : ℕ) (new : EntrySeatValue) : Type 0 where
  pub shows : ShowsLast old.rows old.held_from word
  pub rest : new ≡ record old { held_from = old.held_from + 1; held_count = old.held_count - 1; released = old.released ++ word ∷ [] }

-- The value is put, as the next of its entry, which this seat does not hold.
pub record PutsRow (old : EntrySeatValue) (row : TceRow) (new : EntrySeatValue) : Type 0 where
  pub version : row.version ≡ length (values_of old.rows row.entry)
  pub free : ¬ IsPinned old row.entry
  pub read : old.last.count < new.last.count
  pub rest : new ≡ record old { rows = old.rows ++ row ∷ []; last = new.last }

-- The word that was read has pins, or the entry's last value is not this one. Nothing else changed.
pub record RefusesRow (old : EntrySeatValue) (last : ℕ) (row : TceRow) (word : ℕ) (new : EntrySeatValue) : Type 0 where
  pub cause : IsOther (row.version - 1) (told last) word
  pub shows : ShowsLast old.rows row.entry word
  pub read : ReadsWord old.last new.last word
  pub rest : new ≡ record old { last = new.last }
