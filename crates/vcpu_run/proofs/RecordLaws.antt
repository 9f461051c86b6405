-- The records of a gathered trace are of the lines of each script up to the first that fails its partition, one a line, and
-- keep the credits of its units.
use Rattle.std.proofs.Common.{◌≡◌, ◌∙◌, ℕ, ◌+◌, ◌==◌, ◌<◌, ◌≤◌, true, false, All, List, [], ◌∷◌, ◌++◌, Option, Some, None, IsSomeAnd, drop, filter, length, map, slice_get, refl, sym, ap, subst, arith, append-nil, zero, suc}
use Rattle.std.specs.List.{flat_map}
use Rattle.std.proofs.lemmas.List.{drop_all}
use Rattle.std.proofs.lemmas.Option.{slice_get_past}
use Rattle.std.proofs.lemmas.Bool.Decides.{nat_tests}
use Rattle.vio_num.specs.declared.history.Grant.{Grant}
use Rattle.vio_num.specs.declared.history.Served.{Served}
use Rattle.rdma_copy.specs.declared.copy.CopyRecord.{CopyRecord}
use Rattle.lan_script.specs.Units.{LanValue}
use Rattle.lan_script.specs.declared.rows.LanRows.{LanRows}
use Rattle.lan_script.specs.declared.seat.PortSeat.{PortSeat}
use Rattle.boot_text.specs.declared.plan.Line.{Line}
use Rattle.boot_text.specs.declared.plan.Partition.{Partition}
use Rattle.vio_trace.specs.declared.rows.LogRow.{LogRow}
use Rattle.vcpu_run.specs.CopiesCounted.{copies_at}
use Rattle.vcpu_run.specs.declared.pair.Pair.{Pair}
use Rattle.vcpu_run.specs.declared.script.Script.{Script}
use Rattle.vcpu_run.specs.Agreed.{AreCredited}
use Rattle.vcpu_run.specs.Credited.{KeepsCredit, ended_by}
use Rattle.vcpu_run.specs.Gathered.{logs_of, trace_of}
use Rattle.vcpu_run.specs.Lines.{IsOver, numbers_to_fail}
use Rattle.vcpu_run.specs.Machines.{AreScripts, IsOfPlan, IsScriptFor}
use Rattle.vcpu_run.specs.RunLaw.{CreditsAreKept, RecordsAreOfLines}
use Rattle.vcpu_run.specs.Settled.{script_in, script_of}
use Rattle.vcpu_run.proofs.Following.{each_from_all}
use Rattle.vcpu_run.proofs.Homes.{all_at}
use Rattle.lan_script.proofs.Order.{Each, Ordered, each_weaker}
use Rattle.vcpu_run.proofs.Ordering.{each_script}
use Rattle.vcpu_run.proofs.Parts.{found, in_slice}
use Rattle.vcpu_run.proofs.Placing.{ArePartitions, first_partition, partitions_are, partitions_behind}
use Rattle.vcpu_run.proofs.Sole.{sole}

same_partition : (a p : ℕ) → (a == p) ≡ true → a ≡ p
same_partition a p is = grind (arith, nat_tests)

other_partition : (a b p : ℕ) → a < b → (a == p) ≡ true → (b == p) ≡ false
other_partition a b p less is = grind (arith, nat_tests)

later_partitions : (n : ℕ) (scripts : List Script) → ArePartitions n scripts → Each (λ script. n ≤ script.partition) scripts
later_partitions n scripts are = each_script scripts (λ i script e. omega (arith, are i script e))

pub partitions_apart : (p n : ℕ) (scripts : List Script) → ArePartitions n scripts → Ordered (λ a b. (a.partition == p) ≡ true → (b.partition == p) ≡ false) scripts
partitions_apart p n [] are = tt
partitions_apart p n (script ∷ scripts) are =
    let first = first_partition n script scripts are in (
      each_weaker (λ (other : Script). n + 1 ≤ other.partition) (λ (other : Script). (script.partition == p) ≡ true → (other.partition == p) ≡ false)
          (λ other h is. other_partition script.partition other.partition p (omega (arith, first, h)) is) scripts (later_partitions (n + 1) scripts (partitions_behind n script scripts are)),
      partitions_apart p (n + 1) scripts (partitions_behind n script scripts are),
    )

pub lines_in : (slot : Option Partition) (script : Script) → IsSomeAnd slot (λ partition. IsScriptFor partition script) → script_in slot ≡ script.lines.now
lines_in None script none = absurd none
lines_in (Some partition) script is = sym is.lines

-- the rows of each script are of its partition
pub rows_told : (pairs : List Pair) (ports : List PortSeat) (scripts : List Script) (p : ℕ) → AreScripts pairs ports scripts
    → Each (λ script. Each (λ row. (row.partition == p) ≡ (script.partition == p)) (logs_of script)) scripts
rows_told pairs ports scripts p are =
    each_script scripts (λ i script e. each_weaker (λ (row : LogRow). row.partition ≡ script.partition) (λ (row : LogRow). (row.partition == p) ≡ (script.partition == p)) (λ row h. ap (λ k. k == p) h)
    (logs_of script) (each_from_all (λ row. row.partition ≡ script.partition) script.logs.items (are i script e).script_is.logs.own))

-- a partition that no script is of has none
no_records : (pairs : List Pair) (ports : List PortSeat) (scripts : List Script) (p : ℕ) → AreScripts pairs ports scripts → ((i : ℕ) (script : Script) → slice_get scripts i ≡ Some script → p ≡ i → ⊥)
    → filter (λ (row : LogRow). row.partition == p) (flat_map logs_of scripts) ≡ []
no_records pairs ports scripts p are none =
    sole (λ (row : LogRow). row.partition == p) (λ (script : Script). script.partition == p) (λ rows. rows ≡ []) logs_of refl scripts
    (rows_told pairs ports scripts p are)
    (each_script scripts (λ i script e is. absurd (none i script e (sym (same_partition script.partition p is) ∙ (are i script e).number))))
    (partitions_apart p 0 scripts (partitions_are pairs ports scripts are))

no_value : {X : Type 0} (slot : Option X) (x : X) → slot ≡ None → slot ≡ Some x → ⊥
no_value slot x none some = cc

pub none_past : {X : Type 0} (xs : List X) (i : ℕ) → slice_get xs i ≡ None → length xs ≤ i
none_past [] i e = omega arith
none_past (x ∷ xs) zero e = cc
none_past (x ∷ xs) (suc i) e = omega (arith, none_past xs i e)

-- once a script is over, its rows are of the lines up to the first that fails its partition
over_rows : (lines : List Line) (at : ℕ) (logs : List LogRow) → length lines ≤ at → numbers_to_fail lines ≡ map (λ row. row.line) logs ++ numbers_to_fail (drop at lines)
    → map (λ row. row.line) logs ≡ numbers_to_fail lines
over_rows lines at logs over whole =
    sym (whole ∙ (ap (λ (rest : List Line). map (λ (row : LogRow). row.line) logs ++ numbers_to_fail rest) (drop_all at lines over) ∙ append-nil (map (λ (row : LogRow). row.line) logs)))

pub records_are : (pairs : List Pair) (scripts : List Script) (lan : LanValue) (lan_rows : LanRows) (history : List Served) (grants : List Grant) (copies : List CopyRecord) (partitions : List Partition)
    → AreScripts pairs lan.seats scripts → All IsOver scripts → IsOfPlan partitions pairs scripts lan.seats
    → RecordsAreOfLines partitions (trace_of pairs scripts lan lan_rows history grants copies)
records_are pairs scripts lan lan_rows history grants copies partitions are over of_plan p = at (slice_get scripts p) refl
  where
    rows : List LogRow
    rows = filter (λ (row : LogRow). row.partition == p) (flat_map logs_of scripts)

    at : (slot : Option Script) → slice_get scripts p ≡ slot → map (λ row. row.line) rows ≡ numbers_to_fail (script_of partitions p)
    at None e =
        let past : length scripts ≤ p = none_past scripts p e in
        let none : slice_get partitions p ≡ None = slice_get_past partitions p (omega (arith, past, of_plan.scripts_are.count)) in
        ap (map (λ (row : LogRow). row.line)) (no_records pairs lan.seats scripts p are (λ j script e' is. no_value (slice_get scripts p) script e (ap (slice_get scripts) is ∙ e')))
        ∙ ap (λ slot. numbers_to_fail (script_in slot)) (sym none)
    at (Some script) e =
        let own = are p script e in
        let here : script.partition ≡ p = own.number in
        let hit : (script.partition == p) ≡ true = grind (arith, nat_tests, here) in
        let only : rows ≡ script.logs.items =
        found (λ (row : LogRow). row.partition == p) (λ (script : Script). script.partition == p) logs_of script hit scripts (in_slice scripts p script e)
        (rows_told pairs lan.seats scripts p are) (partitions_apart p 0 scripts (partitions_are pairs lan.seats scripts are)) in
        let lines : script_of partitions p ≡ script.lines.now = lines_in (slice_get partitions p) script (of_plan.scripts_are.each p script e) in
        ap (map (λ (row : LogRow). row.line)) only
        ∙ (over_rows script.lines.now script.at script.logs.items (all_at IsOver scripts p script over e) own.script_is.logs.whole ∙ ap numbers_to_fail (sym lines))

no_rows : (unit : ℕ) (lines : List Line) → KeepsCredit None (ended_by unit lines [])
no_rows unit [] = tt
no_rows unit (line ∷ lines) = tt

pub credits_are : (pairs : List Pair) (scripts : List Script) (lan : LanValue) (lan_rows : LanRows) (history : List Served) (grants : List Grant) (copies : List CopyRecord) (partitions : List Partition)
    → AreScripts pairs lan.seats scripts → IsOfPlan partitions pairs scripts lan.seats → AreCredited (copies_at copies pairs) pairs scripts
    → CreditsAreKept partitions (trace_of pairs scripts lan lan_rows history grants copies)
credits_are pairs scripts lan lan_rows history grants copies partitions are of_plan credited p unit =
    sole (λ (row : LogRow). row.partition == p) (λ (script : Script). script.partition == p) (λ rows. KeepsCredit None (ended_by unit (script_of partitions p) rows)) logs_of
    (no_rows unit (script_of partitions p)) scripts
    (rows_told pairs lan.seats scripts p are)
    (each_script scripts (λ i script e is.
    let here : p ≡ i = sym (same_partition script.partition p is) ∙ (are i script e).number in
    let lines : script_of partitions p ≡ script.lines.now =
    ap (script_of partitions) here ∙ lines_in (slice_get partitions i) script (of_plan.scripts_are.each i script e) in
    subst (λ ls. KeepsCredit None (ended_by unit ls script.logs.items)) (sym lines) ((credited i script e).0.law unit)))
    (partitions_apart p 0 scripts (partitions_are pairs lan.seats scripts are))
