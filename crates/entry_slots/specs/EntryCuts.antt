-- How the seats at entries part and join, and the words at the start.
use Rattle.std.specs.Prelude.{◌≡◌, ℕ, ◌+◌, ◌*◌, ◌-◌, ◌<◌, List, [], ◌∷◌, ◌++◌, length, map, slice_index, true, false}
use Rattle.vio_num.specs.declared.TheConstants.{PAGE_BYTES}
use Rattle.std.specs.List.{All}
use Rattle.atomic_table.specs.Seated.{TableId}
use Rattle.atomic_table.specs.declared.shared.Seat.{Seat}
use Rattle.tce_window.specs.declared.answers.TceRow.{TceRow}
use Rattle.entry_slots.specs.declared.view.EntryView.{EntryView}
use Rattle.entry_slots.specs.Entries.{EntriesValue, EntrySeatValue, IsFreshAt}
use Rattle.entry_slots.specs.EntryRule.{opened}
use Rattle.entry_slots.specs.Words.{code_of, entry_word}

-- a seat without one of the seats that it stands for, and that seat, which puts no values and holds nothing
abbrev pub remaining : EntryView → EntryView
remaining v = record v { share = v.share - 1 }

abbrev pub another : EntryView → EntryView
another v = record v { share = 1; owns = false; held_from = 0; held_count = 0; told = [] }

-- a seat to which another is joined
abbrev pub with_seat : EntryView → EntryView → EntryView
with_seat v w = record v { share = v.share + w.share; told = w.rows ∷ (w.told ++ v.told) }

abbrev pub spent : EntryView
spent = record { entries = 0; share = 0; owns = false; rows = []; told = []; held_from = 0; held_count = 0; released = []; reads = 0; word = 0 }

-- the word of entry e at the start: the page of its own number, with both rights
abbrev pub first_word : ℕ → ℕ
first_word e = entry_word 0 (code_of (PAGE_BYTES * e + 3)) 0

-- so many entries, each as at the start
pub record AreFirst (n : ℕ) (words : List ℕ) : Type 0 where
  pub count : length words ≡ n
  pub each : (e : ℕ) → e < n → slice_index words e ≡ first_word e

-- A seat that stands for so many that are to be opened, with no step behind it.
pub record IsUnopened (entries : TableId) (n share : ℕ) (seat : Seat TceRow EntryView) : Type 0 where
  pub table_is : seat.table_id ≡ entries
  pub me : seat.me ≡ (opened (record { entries = n; seats = share }), [])

-- New entries, so many of them, with the owner's seat and so many others.
pub record OpensEntries (count guests : ℕ) (entries : EntriesValue) (owner : EntrySeatValue) (list : List EntrySeatValue) : Type 0 where
  pub count_is : entries.count ≡ count
  pub seats_is : entries.seats ≡ guests + 1
  pub owner_is : IsFreshAt entries owner
  pub owns : owner.owns ≡ true
  pub all_seats : length list ≡ guests
  pub fresh : All (IsFreshAt entries) list

-- All seats at these entries but the owner's, which hold nothing.
pub record AreGuests (entries : EntriesValue) (list : List EntrySeatValue) : Type 0 where
  pub ours : All (λ seat. seat.entries ≡ entries.id) list
  pub none_held : All (λ seat. seat.held_count ≡ 0) list

-- A seat that stands for the owner and these seats.
pub record StandsFor (entries : EntriesValue) (owner : EntrySeatValue) (list : List EntrySeatValue) (seat : Seat TceRow EntryView) : Type 0 where
  pub table_is : seat.table_id ≡ entries.id
  pub some_share : 0 < seat.me.0.share
  pub rows : seat.me.0.rows ≡ owner.rows
  pub owns : seat.me.0.owns ≡ owner.owns
  pub told : seat.me.0.told ≡ map (λ other. other.rows) list
  pub none_out : seat.me.1 ≡ []
