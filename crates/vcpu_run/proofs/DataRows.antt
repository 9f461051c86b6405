-- A gathered trace shows the copies of tables and data of each server unit, by their numbers.
use Rattle.std.proofs.Common.{◌≡◌, ◌∙◌, ◌&&◌, ℕ, zero, suc, Bool, true, false, cond, not, List, [], ◌∷◌, Some, filter, map, slice_get, refl, ap, ap₂}
use Rattle.std.specs.List.{flat_map}
use Rattle.vio_num.specs.declared.names.UnitId.{UnitId}
use Rattle.rdma_copy.specs.declared.copy.CopyRecord.{CopyRecord}
use Rattle.block_server.specs.Moves.{begin_on, data_copies}
use Rattle.boot_text.specs.declared.plan.Partition.{Partition}
use Rattle.vio_trace.specs.declared.window_rows.CopyRow.{CopyRow}
use Rattle.vcpu_run.specs.declared.pair.Pair.{Pair}
use Rattle.vcpu_run.specs.CopyRows.{copies_by, copy_row, same_unit}
use Rattle.vcpu_run.specs.Gathered.{copies_of}
use Rattle.vcpu_run.specs.Intake.{begins_on}
use Rattle.vcpu_run.specs.Machines.{ArePlanned}
use Rattle.vcpu_run.specs.News.{IsNth}
use Rattle.vcpu_run.proofs.Fetching.{copies_are_by, pieces_begin}

abbrev is_of_data : UnitId → CopyRow → Bool
is_of_data unit row = not (begins_on unit 0 row.to) && not (begins_on unit 0 row.from)

rows_data : (unit : UnitId) (copies : List CopyRecord) → filter (is_of_data unit) (copies_by unit copies) ≡ map copy_row (data_copies unit copies)
rows_data unit [] = refl
rows_data unit (copy ∷ copies) = by (same_unit copy.name.who unit) (rows_data unit copies)
  where
    own : List CopyRecord
    own = filter (λ (c : CopyRecord). same_unit c.name.who unit) copies

    counts : Bool
    counts = not (begin_on unit 0 copy.to.items) && not (begin_on unit 0 copy.from.items)

    same : is_of_data unit (copy_row copy) ≡ counts
    same = ap₂ (λ (to from : Bool). not to && not from) (pieces_begin unit 0 copy.to.items) (pieces_begin unit 0 copy.from.items)

    begin : (t : Bool) → filter (is_of_data unit) (map copy_row own) ≡ map copy_row (data_copies unit copies)
        → cond t (copy_row copy ∷ filter (is_of_data unit) (map copy_row own)) (filter (is_of_data unit) (map copy_row own))
        ≡ map copy_row (cond t (copy ∷ data_copies unit copies) (data_copies unit copies))
    begin true rest = ap (λ (rows : List CopyRow). copy_row copy ∷ rows) rest
    begin false rest = rest

    by : (b : Bool) → filter (is_of_data unit) (copies_by unit copies) ≡ map copy_row (data_copies unit copies)
        → filter (is_of_data unit) (map copy_row (cond b (copy ∷ own) own)) ≡ map copy_row (cond (b && counts) (copy ∷ data_copies unit copies) (data_copies unit copies))
    by true rest = ap (λ t. cond t (copy_row copy ∷ filter (is_of_data unit) (map copy_row own)) (filter (is_of_data unit) (map copy_row own))) same ∙ begin counts rest
    by false rest = rest

-- those of a unit among the rows of all
pub data_are : (partitions : List Partition) (copies : List CopyRecord) (pairs : List Pair) (unit : UnitId) (k : ℕ) (pair : Pair) → ArePlanned partitions pairs
    → slice_get pairs k ≡ Some pair → pair.server ≡ unit
    → filter (is_of_data unit) (filter (λ (row : CopyRow). same_unit row.unit unit) (flat_map (copies_of copies) pairs)) ≡ map copy_row (data_copies unit copies)
data_are partitions copies pairs unit k pair planned there is =
    ap (filter (is_of_data unit)) (copies_are_by partitions copies pairs unit k pair planned there is) ∙ rows_data unit copies

get_row : (list : List CopyRecord) (number : ℕ) (copy : CopyRecord) → slice_get list number ≡ Some copy → slice_get (map copy_row list) number ≡ Some (copy_row copy)
get_row [] number copy is = absurd (cc (is))
get_row (first ∷ list) zero copy is = ap (λ (c : CopyRecord). Some (copy_row c)) (one first copy is)
  where
    one : (a b : CopyRecord) → Some a ≡ Some b → a ≡ b
    one a b same = cc (same)
get_row (first ∷ list) (suc n) copy is = get_row list n copy is

pub nth_shown : (unit : UnitId) (copies : List CopyRecord) (rows : List CopyRow) (number : ℕ) (copy : CopyRecord) → rows ≡ map copy_row (data_copies unit copies)
    → IsNth unit copies number copy → slice_get rows number ≡ Some (copy_row copy)
nth_shown unit copies rows number copy same nth = ap (λ (list : List CopyRow). slice_get list number) same ∙ get_row (data_copies unit copies) number copy nth
