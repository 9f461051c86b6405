-- What the calls on translation entries answer, and what they leave of the window's entries.
use Rattle.std.specs.Prelude.{◌≡◌, ◌≢◌, ◌↔◌, ℕ, ◌+◌, ◌*◌, ◌%◌, ◌==◌, ◌&&◌, nat_le, Bool, true, false, List, [], ◌∷◌, length, replicate}
use Rattle.byteorder.specs.Endian.{IsRead, big_number}
use Rattle.vio_num.specs.declared.TheConstants.{PAGE_BYTES}
use Rattle.vio_num.specs.declared.hypervisor.Hrc.{Hrc}
use Rattle.vio_num.specs.declared.hypervisor.Hrc.TheVariants as codes
use Rattle.tce_window.specs.Answers.{gives}
use Rattle.tce_window.specs.PortState.{PortState, Puts, Reads}
use Rattle.tce_window.specs.Puts.{takes, takes_all}
use Rattle.hcall_table.specs.declared.returned.Returned.{Returned}
use Rattle.unit_region.specs.declared.entry_calls.EntryCall.{EntryCall}
use Rattle.unit_region.specs.declared.entry_calls.EntryCall.TheVariants as entries
use Rattle.unit_region.specs.EntryRows.{answer_of}

-- the value that a call put, by its code: none but where it is Success
abbrev pub put_if : Hrc → ℕ → List ℕ
put_if codes.Success value = value ∷ []
put_if _ value = []

-- H_PUT_TCE is Parameter exactly where the window does not take the value at the address; it put the value where it is Success, and
-- else nothing (LoPAR, "H_PUT_TCE").
pub record PutsOne (old new : PortState) (address value : ℕ) (code : Hrc) : Type 0 where
  pub parameter : (code ≡ codes.Parameter) ↔ (takes old.place.size address value ≡ false)
  pub put : Puts old address (put_if code value) new

-- H_STUFF_TCE is Parameter exactly where it names more than 512 entries, or the window does not take the value at one of them; where it is
-- Success it put the value into each entry that it names (LoPAR, "H_STUFF_TCE").
pub record PutsEach (old new : PortState) (address : ℕ) (list : List ℕ) (code : Hrc) : Type 0 where
  pub parameter : (code ≡ codes.Parameter) ↔ (takes_all old.place.size address list ≡ false)
  pub put : code ≡ codes.Success → Puts old address list new

-- whether so many values lie at this address: at most 512 of 8 bytes each, from the beginning of a page of the region
abbrev pub is_list : (pages list count : ℕ) → Bool
is_list pages list count = nat_le count 512 && (list % PAGE_BYTES == 0) && nat_le (list + 8 * count) (PAGE_BYTES * pages)

-- these bytes are those of the values, 8 for each and the high byte first
abbrev pub AreValuesOf : (bytes values : List ℕ) → Type 0
AreValuesOf bytes values = (length bytes ≡ 8 * length values) × IsRead big_number 8 bytes values

-- So many values were read at an address of the region; where there is none, nothing is read.
pub record ReadsList (port : PortState) (list count : ℕ) : Type 0 where
  pub bytes : List ℕ
  pub values : List ℕ
  pub count_is : length values ≡ count
  pub spelled : AreValuesOf bytes values
  pub read : count ≢ 0 → Reads port list bytes

-- The values that these bytes are were put from an address on: Parameter exactly where the window does not take one of them.
pub record PutsValues (old new : PortState) (address : ℕ) (bytes : List ℕ) (code : Hrc) : Type 0 where
  pub values : List ℕ
  pub spelled : AreValuesOf bytes values
  pub strokes : new.strokes ≡ old.strokes
  pub place : new.place ≡ old.place
  pub parameter : (code ≡ codes.Parameter) ↔ (takes_all old.place.size address values ≡ false)
  pub put : code ≡ codes.Success → Puts old address values new

-- H_PUT_TCE_INDIRECT is Parameter where no such list lies there, and else only where the window does not take one of its values; where it is Success
-- it put the values of the list, as it was read, each of which the window takes, into the entries from the address on (LoPAR, "H_PUT_TCE_INDIRECT").
pub record PutsList (old new : PortState) (address list count : ℕ) (code : Hrc) : Type 0 where
  pub missing : is_list old.place.size list count ≡ false → code ≡ codes.Parameter
  pub refused : code ≡ codes.Parameter → is_list old.place.size list count ≡ true
      → (read : ReadsList new list count) × (takes_all old.place.size address read.values ≡ false)
  pub put : code ≡ codes.Success → (read : ReadsList new list count) × (takes_all old.place.size address read.values ≡ true) × Puts old address read.values new

-- what H_GET_TCE gives is the last value of the entry, and what the other calls put is
abbrev pub AnswersEntry : (old new : PortState) → EntryCall → Returned → Type 0
AnswersEntry old new (entries.Get address) returned = gives old.place.size new.values address (answer_of returned)
AnswersEntry old new (entries.Put address value) returned = PutsOne old new address value returned.code
AnswersEntry old new (entries.Stuff address value count) returned = PutsEach old new address (replicate count value) returned.code
AnswersEntry old new (entries.PutList address list count) returned = PutsList old new address list count returned.code
