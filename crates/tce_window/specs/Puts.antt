-- Values that are put into consecutive entries (LoPAR, "H_PUT_TCE", "H_STUFF_TCE", "H_PUT_TCE_INDIRECT").
use Rattle.std.specs.Prelude.{ℕ, ◌+◌, ◌/◌, ◌%◌, ◌==◌, ◌&&◌, ◌||◌, not, nat_le, nat_lt, Bool, true, List, [], ◌∷◌, ◌++◌, length, take, if◌then◌else◌}
use Rattle.vio_num.specs.declared.TheConstants.{PAGE_BYTES}
use Rattle.tce_window.specs.declared.answers.TceRow.{TceRow}
use Rattle.tce_window.specs.declared.answers.TceAnswer.{TceAnswer}
use Rattle.tce_window.specs.declared.answers.TceAnswer.TheVariants.{Done, Parameter, Busy}
use Rattle.tce_window.specs.Grant.{values_of, has_right}

-- whether a window of n entries over n pages takes the value at this address: the address is that of an
-- entry, and where the value has a right its page is one of the region
abbrev pub takes : ℕ → ℕ → ℕ → Bool
takes n ioba tce =
    ioba % PAGE_BYTES == 0 && nat_lt (ioba / PAGE_BYTES) n && (not (has_right tce) || nat_lt (tce / PAGE_BYTES) n)

-- whether it takes each of these values, from this address on
abbrev pub takes_each : ℕ → ℕ → List ℕ → Bool
takes_each n ioba [] = true
takes_each n ioba (tce ∷ list) = takes n ioba tce && takes_each n (ioba + PAGE_BYTES) list

-- at most 512 values at once, each of which is taken
abbrev pub takes_all : ℕ → ℕ → List ℕ → Bool
takes_all n ioba list = nat_le (length list) 512 && takes_each n ioba list

-- the values put, once this list was put into the entries from `entry` on
abbrev pub put_rows : List TceRow → ℕ → List ℕ → List TceRow
put_rows rows entry [] = rows
put_rows rows entry (tce ∷ list) =
    put_rows (rows ++ record { entry = entry; version = length (values_of rows entry); value = tce } ∷ []) (entry + 1) list

-- the value that entry e takes of this list, put into the entries from `entry` on, if there is one
abbrev pub put_into : ℕ → List ℕ → ℕ → List ℕ
put_into entry [] e = []
put_into entry (tce ∷ list) e = if entry == e then tce ∷ [] else put_into (entry + 1) list e

-- the part of the list that was put
abbrev pub put_by : TceAnswer → List ℕ → List ℕ
put_by Done list = list
put_by Parameter list = []
put_by (Busy entry pins done) list = take done list

-- the answer to good values where the entries from `first` on, so many, are held: the first one that is
-- held is named, with the number of values put before it
abbrev pub put_answer : (ℕ → Bool) → ℕ → ℕ → List ℕ → TceAnswer
put_answer is_held entry done [] = Done
put_answer is_held entry done (tce ∷ list) =
    if is_held entry then Busy entry 1 done else put_answer is_held (entry + 1) (done + 1) list
