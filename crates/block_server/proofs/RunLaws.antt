-- Runs of copies: one row more, one part more, and a row that is cut to what was copied.
use Rattle.std.proofs.Common.{◌≡◌, ◌+◌, ◌≤◌, ◌++◌, ℕ, true, false, cond, List, [], ◌∷◌, length, take, append-nil, length-append, sym, ◌∙◌, ap, subst, arith}
use Rattle.std.specs.List.{concat}
use Rattle.std.proofs.lemmas.List.{take_all}
use Rattle.std.proofs.lemmas.List.Elements.{filter-append}
use Rattle.std.proofs.lemmas.List.Folds.{concat-append}
use Rattle.vio_num.specs.declared.history.Served.{Served}
use Rattle.vio_num.specs.declared.names.UnitId.{UnitId}
use Rattle.srp_iu.specs.declared.buffer.Desc.{Desc}
use Rattle.block_server.specs.Causes.{Hearing}
use Rattle.block_server.specs.Makers.{same_unit}
use Rattle.block_server.specs.Runs.{AreMoved, HasRun, HaveRuns, IsMoved, IsRun, Moving, own_rows}

pub runs_more : (Hears : Hearing) (rows : List Served) (from to to' : ℕ) → to ≤ to' → HaveRuns Hears rows from to → HaveRuns Hears rows from to'
runs_more Hears [] from to to' more is = omega (arith, more, is)
runs_more Hears (row ∷ rows) from to to' more is =
    record { first = is.first; after = is.after; next = is.next; run = is.run; behind = runs_more Hears rows is.next to to' more is.behind }

pub runs_push : (Hears : Hearing) (rows : List Served) (row : Served) (from to first next : ℕ) → to ≤ first → IsRun Hears row first next → HaveRuns Hears rows from to
    → HaveRuns Hears (rows ++ row ∷ []) from next
runs_push Hears [] row from to first next after run is = record { first = first; after = omega (arith, after, is); next = next; run = run; behind = omega arith }
runs_push Hears (other ∷ rows) row from to first next after run is =
    record { first = is.first; after = is.after; next = is.next; run = is.run; behind = runs_push Hears rows row is.next to first next after run is.behind }

-- a part more
pub moved_push : (Moves : Moving) (list : List Desc) (wanted number at n k : ℕ) (parts : List (List ℕ)) (part : List ℕ) → n ≡ number + length parts → k ≡ at + length (concat parts)
    → IsMoved Moves list wanted n k part → AreMoved Moves list wanted number at parts → AreMoved Moves list wanted number at (parts ++ part ∷ [])
moved_push Moves list wanted number at n k [] part n_is k_is moved all =
    let first : n ≡ number = omega (arith, n_is) in
    let second : k ≡ at = omega (arith, k_is) in
    (subst (λ (z : ℕ × ℕ). IsMoved Moves list wanted z.0 z.1 part) (λ i. (first i, second i)) moved, tt)
moved_push Moves list wanted number at n k (first ∷ parts) part n_is k_is moved all =
    (all.0, moved_push Moves list wanted (number + 1) (at + length first) n k parts part (omega (arith, n_is)) (omega (arith, k_is, length-append first (concat parts))) moved all.1)

pub concat_push : (parts : List (List ℕ)) (part : List ℕ) → concat (parts ++ part ∷ []) ≡ concat parts ++ part
concat_push parts part = concat-append parts (part ∷ []) ∙ ap (λ (rest : List ℕ). concat parts ++ rest) (append-nil part)

pub long_push : (parts : List (List ℕ)) (part : List ℕ) → length (parts ++ part ∷ []) ≡ length parts + 1
long_push parts part = length-append parts (part ∷ [])

-- ---- rows of a unit

pub own_append : (unit : UnitId) (front behind : List Served) → own_rows unit (front ++ behind) ≡ own_rows unit front ++ own_rows unit behind
own_append unit front behind = filter-append (λ (row : Served). same_unit row.unit unit) front behind

pub own_one : (unit : UnitId) (front behind : List Served) (row : Served) → same_unit row.unit unit ≡ true → own_rows unit behind ≡ []
    → own_rows unit (front ++ row ∷ behind) ≡ own_rows unit front ++ row ∷ []
own_one unit front behind row mine none =
    own_append unit front (row ∷ behind) ∙ ap (λ t. own_rows unit front ++ cond t (row ∷ own_rows unit behind) (own_rows unit behind)) mine
    ∙ ap (λ (rest : List Served). own_rows unit front ++ row ∷ rest) none

pub own_other : (unit : UnitId) (rows : List Served) (row : Served) → same_unit row.unit unit ≡ false → own_rows unit (rows ++ row ∷ []) ≡ own_rows unit rows
own_other unit rows row other =
    own_append unit rows (row ∷ []) ∙ ap (λ t. own_rows unit rows ++ cond t (row ∷ []) []) other ∙ append-nil (own_rows unit rows)

-- ---- the last row

-- what was sent of a row is its data-in, if these are cut to that
pub run_cut : (Hears : Hearing) (row : Served) (inns : List Desc) (wanted sent first next : ℕ) (inn : List ℕ) → inn ≡ take sent row.inn → HasRun Hears row inns wanted sent first next
    → HasRun Hears (record row { inn = inn }) inns wanted (length inn) first next
run_cut Hears row inns wanted sent first next inn cut run = record {
  command = run.command;
  spells = run.spells;
  outs = run.outs;
  out_named = run.out_named;
  in_named = run.in_named;
  out_parts = run.out_parts;
  brought = run.brought;
  out_all = run.out_all;
  out_is = run.out_is;
  in_parts = run.in_parts;
  sent_all = run.sent_all;
  few = omega arith;
  in_is = run.in_is ∙ sym cut ∙ sym (take_all (length inn) inn (omega arith));
  next_is = run.next_is;
}

-- a row of which all was sent
pub run_whole : (Hears : Hearing) (row : Served) (inns : List Desc) (wanted sent first next : ℕ) → length row.inn ≤ sent → HasRun Hears row inns wanted sent first next
    → HasRun Hears row inns wanted (length row.inn) first next
run_whole Hears row inns wanted sent first next all run =
    let same : sent ≡ length row.inn = omega (arith, all, run.few) in
    subst (λ (n : ℕ). HasRun Hears row inns wanted n first next) same run
