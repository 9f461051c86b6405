-- Values that the owner of a shared window puts.
use Rattle.std.specs.Prelude.{◌≡◌, ◌↔◌, ℕ, ◌+◌, ◌/◌, ◌<◌, ◌≤◌, true, false, List, [], ◌∷◌, ◌++◌, length}
use Rattle.vio_num.specs.declared.TheConstants.{PAGE_BYTES}
use Rattle.vio_num.specs.Words.{ReadsWord}
use Rattle.tce_window.specs.declared.answers.TceAnswer.{TceAnswer}
use Rattle.tce_window.specs.declared.answers.TceAnswer.TheVariants.{Parameter}
use Rattle.tce_window.specs.Answers.{IfBusy, times_in_use}
use Rattle.tce_window.specs.Grant.{values_of}
use Rattle.tce_window.specs.Port.{IsBusy}
use Rattle.tce_window.specs.Puts.{takes_all, put_rows, put_by}
use Rattle.tce_window.specs.Table.{TableValue}
use Rattle.entry_slots.specs.Entries.{EntriesValue, EntrySeatValue, IsPinned, ShowsLast}
use Rattle.entry_slots.specs.Words.{pins_in}
use Rattle.shared_window.specs.Opening.{OwnerValue}
use Rattle.shared_window.specs.SharedWindow.{SharedWindowValue}

-- The seat is the owner's at these entries, and the table has all values that it knows.
pub record IsTableOf (entries : EntriesValue) (seat : EntrySeatValue) (table : TableValue) : Type 0 where
  pub ours : seat.entries ≡ entries.id
  pub owns : seat.owns ≡ true
  pub size : table.size ≡ entries.count
  pub rows : table.rows ≡ seat.rows

-- These values were put into the entries from `first` on. No entry that the seat holds took one.
pub record PutsUpTo (old : EntrySeatValue) (before : TableValue) (first : ℕ) (put : List ℕ) (new : EntrySeatValue) (after : TableValue) : Type 0 where
  pub rows : after.rows ≡ put_rows before.rows first put
  pub held : (e : ℕ) → IsPinned old e → values_of after.rows e ≡ values_of before.rows e
  pub spare : after.spare + length put ≡ before.spare
  pub size : after.size ≡ before.size
  pub read : old.last.count ≤ new.last.count
  pub rest : new ≡ record old { rows = after.rows; last = new.last }

-- The value is put as the next of its entry, which this seat does not hold.
pub record PutsValue (old : EntrySeatValue) (before : TableValue) (entry value : ℕ) (new : EntrySeatValue) (after : TableValue) : Type 0 where
  pub free : ¬ IsPinned old entry
  pub rows : after.rows ≡ before.rows ++ record { entry = entry; version = length (values_of before.rows entry); value = value } ∷ []
  pub spare : after.spare + 1 ≡ before.spare
  pub size : after.size ≡ before.size
  pub read : old.last.count < new.last.count
  pub rest : new ≡ record old { rows = after.rows; last = new.last }

-- The entry has pins: this word of it, which was read, shows them and its last value. Nothing was put.
pub record MeetsWord (old : EntrySeatValue) (entry word : ℕ) (new : EntrySeatValue) : Type 0 where
  pub pinned : 1 ≤ pins_in word
  pub shows : ShowsLast old.rows entry word
  pub read : ReadsWord old.last new.last word
  pub rest : new ≡ record old { last = new.last }

-- Of a list that is put from entry `first` on, the value at `done` met an entry with pins. They are those of the word of it
-- that was read last, which shows its last value.
pub record FindsPins (old : EntrySeatValue) (first : ℕ) (list : List ℕ) (new : EntrySeatValue) (entry pins done : ℕ) : Type 0 where
  pub busy : IsBusy first list entry pins done
  pub word : ℕ
  pub read : ReadsWord old.last new.last word
  pub pins_are : pins_in word ≡ pins
  pub shows : ShowsLast new.rows entry word

-- Good values were put into the entries from `first` on, up to the first one with pins.
pub record PutsEach (old : EntrySeatValue) (before : TableValue) (first : ℕ) (list : List ℕ) (answer : TceAnswer) (new : EntrySeatValue) (after : TableValue) : Type 0 where
  pub good : ¬ (answer ≡ Parameter)
  pub busy : IfBusy answer (FindsPins old first list new)
  pub puts : PutsUpTo old before first (put_by answer list) new after

-- A list is put into the entries from this address on, up to the first one with pins. No entry that the owner holds takes a
-- value, and nothing else changes.
pub record PutsList (window : SharedWindowValue) (old : OwnerValue) (ioba : ℕ) (list : List ℕ) (answer : TceAnswer) (new : OwnerValue) : Type 0 where
  pub parameter : (answer ≡ Parameter) ↔ (takes_all window.pages.count ioba list ≡ false)
  pub busy : IfBusy answer (FindsPins old.seat.entries (ioba / PAGE_BYTES) list new.seat.entries)
  pub rows : new.rows ≡ put_rows old.rows (ioba / PAGE_BYTES) (put_by answer list)
  pub held : (e : ℕ) → IsPinned old.seat.entries e → values_of new.rows e ≡ values_of old.rows e
  pub spare : new.spare + length (put_by answer list) ≡ old.spare
  pub in_use : new.seat.in_use ≡ times_in_use answer old.seat.in_use
  pub rest : new ≡ record old {
    seat = record old.seat {
      entries = record old.seat.entries { rows = new.rows; last = new.seat.entries.last };
      in_use = new.seat.in_use;
    };
    rows = new.rows;
    spare = new.spare;
  }
