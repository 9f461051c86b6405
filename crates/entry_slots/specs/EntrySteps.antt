-- What each kind of step on an entry's word tells the seat that makes it.
use Rattle.std.specs.Prelude.{◌≡◌, ℕ, ◌+◌, ◌-◌, ◌<◌, ◌≤◌, ◌⊎◌, ◌==◌, if◌then◌else◌, true, List, [], ◌∷◌, ◌++◌, length}
use mathlib.Core.Option.{some}
use Rattle.atomic_table.specs.Table.{Me, Step}
use Rattle.vio_num.specs.Words.{Begins}
use Rattle.tce_window.specs.Grant.{values_of, IsCurrent}
use Rattle.entry_slots.specs.Words.{code_of, code_in, version_in}
use Rattle.entry_slots.specs.EntryRule.{pins_at, ArePages}
use Rattle.tce_window.specs.declared.answers.TceRow.{TceRow}
use Rattle.entry_slots.specs.declared.view.EntryView.{EntryView}

abbrev pub Seated : Type 0
Seated = Me TceRow EntryView

-- the seat read this word, on which an answer may rest
abbrev pub reading : EntryView → ℕ → EntryView
reading v word = record v { reads = v.reads + 1; word = word }

-- entry e is held behind those that the seat holds
abbrev pub pinning : EntryView → (e word : ℕ) → List TceRow → EntryView
pinning v e word rows = record v {
  rows = rows;
  held_from = (if v.held_count == 0 then e else v.held_from);
  held_count = v.held_count + 1;
  released = [];
  reads = v.reads + 1;
  word = word;
}

-- the first entry that the seat holds is released
abbrev pub unpinning : EntryView → ℕ → EntryView
unpinning v word = record v {
  held_from = v.held_from + 1;
  held_count = v.held_count - 1;
  released = v.released ++ word ∷ [];
}

-- a value is put
abbrev pub putting : EntryView → TceRow → EntryView
putting v row = record v { rows = v.rows ++ row ∷ []; reads = v.reads + 1 }

-- The word is that of entry e, whose last value these rows put.
pub record IsWordOf (rows : List TceRow) (e word : ℕ) : Type 0 where
  pub value : ℕ
  pub current : IsCurrent (values_of rows) e (version_in word) value
  pub code : code_in word ≡ code_of value
  pub few : version_in word < 2147483648

-- The word shows the last of the values that are now known of the entry, of which none was put while it is
-- held. A seat that puts values knew all of them.
pub record Pins (e : ℕ) (m : Seated) (word : ℕ) (m' : Seated) : Type 0 where
  pub rows : List TceRow
  pub begins : Begins m.0.rows rows
  pub same : (i : ℕ) → pins_at m.0 i ≡ 1 → values_of rows i ≡ values_of m.0.rows i
  pub own : m.0.owns ≡ true → rows ≡ m.0.rows
  pub shows : IsWordOf rows e word
  pub pages : ArePages m.0.entries rows
  pub after : m' ≡ (pinning m.0 e word rows, m.1)

-- The adding of a pin.
abbrev pub pinned : Step TceRow → Seated → ℕ → Seated → Type 0
pinned st m word m' = Pins st.word m word m'

-- The taking away of a pin: the entry has no other value than the seat knows.
pub record Unpins (e : ℕ) (m : Seated) (word : ℕ) (m' : Seated) : Type 0 where
  pub shows : IsWordOf m.0.rows e word
  pub after : m' ≡ (unpinning m.0 word, m.1)

abbrev pub unpinned : Step TceRow → Seated → ℕ → Seated → Type 0
unpinned st m word m' = Unpins st.word m word m'

-- The value that was said is put, as the next of its entry, which the seat does not hold.
pub record Puts (e : ℕ) (row : TceRow) (m m' : Seated) : Type 0 where
  pub version : row.version ≡ length (values_of m.0.rows e)
  pub free : ¬ ((m.0.held_from ≤ e) × (e < m.0.held_from + m.0.held_count))
  pub after : m' ≡ (putting m.0 row, m.1)

-- The word that was read is another than the one that was to be replaced.
pub record Refuses (e : ℕ) (m : Seated) (word : ℕ) (m' : Seated) : Type 0 where
  pub shows : IsWordOf m.0.rows e word
  pub after : m' ≡ (reading m.0 word, m.1)

-- The exchange of an entry's word.
abbrev pub exchanged : Step TceRow → Seated → ℕ → Seated → Type 0
exchanged st m word m' =
    ((word ≡ st.first) × ((row : TceRow) × (st.said ≡ some row) × Puts st.word row m m'))
    ⊎ (¬ (word ≡ st.first) × Refuses st.word m word m')
