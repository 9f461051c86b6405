-- Which copies were made as lines ended stays as more are made, and a line more.
use Rattle.std.proofs.Common.{◌≡◌, ℕ, ◌<◌, ◌≤◌, ◌++◌, All, Bool, Contains, true, false, List, [], ◌∷◌, Option, cond, length, nat_lt, refl, sym, ap, subst, arith, length-append}
use Rattle.std.proofs.lemmas.Bool.Decides.{nat_tests}
use Rattle.std.proofs.lemmas.List.{take-append-le, take_all}
use Rattle.vio_num.specs.declared.names.UnitId.{UnitId}
use Rattle.page_slots.specs.Stroke.{StrokeValue}
use Rattle.vio_trace.specs.declared.window_rows.CopyRow.{CopyRow}
use Rattle.vio_trace.specs.declared.rows.LogRow.{LogRow}
use Rattle.tce_window.specs.Moved.{stroke_count}
use Rattle.vcpu_run.specs.StrokeMakers.{named_rows}
use Rattle.vcpu_run.specs.CopiesCounted.{AreMadeBy, CopiesCounted, Naming, named_by}

-- before the first record
pub counted_none : (unit : UnitId) (had : (place page : ℕ) → Option (List StrokeValue)) (most : ℕ) (named : Naming) → CopiesCounted unit had [] most named
counted_none unit had most named = record {
  count = λ i. 0;
  few = λ i less. absurd (omega (arith, less));
  rises = λ i j before less. absurd (omega (arith, less));
  made = λ i less. absurd (omega (arith, less));
}

-- the same copies, named by others' rows, or with more behind them
pub counted_as : (unit : UnitId) (had : (place page : ℕ) → Option (List StrokeValue)) (rows : List LogRow) (most more : ℕ) (named named' : Naming) → most ≤ more
    → ((count page : ℕ) → count ≤ most → named' count page ≡ named count page) → CopiesCounted unit had rows most named → CopiesCounted unit had rows more named'
counted_as unit had rows most more named named' less same is = record {
  count = is.count;
  few = λ i inside. let few = is.few i inside in omega (arith, few, less);
  rises = is.rises;
  made = λ i inside. let was = is.made i inside in record {
    there = λ page. subst (λ (places : List ℕ). All (λ place. place < stroke_count (had i page)) places) (sym (same (is.count i) page (is.few i inside))) (was.there page);
    others = λ page place stroke here who. subst (λ (places : List ℕ). Contains places place) (sym (same (is.count i) page (is.few i inside))) (was.others page place stroke here who);
  };
}

pub counted_more : (unit : UnitId) (had : (place page : ℕ) → Option (List StrokeValue)) (rows : List LogRow) (copies more : List CopyRow)
    → CopiesCounted unit had rows (length copies) (named_by unit copies) → CopiesCounted unit had rows (length (copies ++ more)) (named_by unit (copies ++ more))
counted_more unit had rows copies more =
    counted_as unit had rows (length copies) (length (copies ++ more)) (named_by unit copies) (named_by unit (copies ++ more)) (omega (arith, length-append copies more))
    (λ count page less. ap (named_rows unit page) (take-append-le count copies more less))

-- one record more, whose line ended when all of them were made
pub counted_one : (unit : UnitId) (had : (place page : ℕ) → Option (List StrokeValue)) (strokes : ℕ → Option (List StrokeValue)) (rows : List LogRow) (row : LogRow)
    (most : ℕ) (named : Naming) → AreMadeBy unit strokes (named most) → CopiesCounted unit had rows most named
    → CopiesCounted unit (λ place page. cond (nat_lt place (length rows)) (had place page) (strokes page)) (rows ++ row ∷ []) most named
counted_one unit had strokes rows row most named now is = record {
  count = count;
  few = λ i less. few_at i (nat_lt i (length rows)) refl;
  rises = λ i j before less. rise i j before (nat_lt i (length rows)) (nat_lt j (length rows)) refl refl;
  made = λ i less. made_at i (nat_lt i (length rows)) refl;
}
  where
    count : ℕ → ℕ
    count i = cond (nat_lt i (length rows)) (is.count i) most

    below : (i : ℕ) → nat_lt i (length rows) ≡ true → i < length rows
    below i e = grind (arith, nat_tests, e)

    past : (i : ℕ) → nat_lt i (length rows) ≡ false → i < length rows → ⊥
    past i e less = both (nat_lt i (length rows)) (grind (arith, nat_tests, less)) e
      where
        both : (b : Bool) → b ≡ true → b ≡ false → ⊥
        both b e f = cc

    few_at : (i : ℕ) (b : Bool) → nat_lt i (length rows) ≡ b → cond b (is.count i) most ≤ most
    few_at i true e = is.few i (below i e)
    few_at i false e = omega arith

    rise : (i j : ℕ) → i ≤ j → (b d : Bool) → nat_lt i (length rows) ≡ b → nat_lt j (length rows) ≡ d → cond b (is.count i) most ≤ cond d (is.count j) most
    rise i j before true true e f = is.rises i j before (below j f)
    rise i j before true false e f = is.few i (below i e)
    rise i j before false true e f = let less = below j f in absurd (past i e (omega (arith, before, less)))
    rise i j before false false e f = omega arith

    made_at : (i : ℕ) (b : Bool) → nat_lt i (length rows) ≡ b → AreMadeBy unit (λ page. cond b (had i page) (strokes page)) (named (cond b (is.count i) most))
    made_at i true e = is.made i (below i e)
    made_at i false e = now

-- all copies are the first of as many
pub made_all : (unit : UnitId) (strokes : ℕ → Option (List StrokeValue)) (copies : List CopyRow) → AreMadeBy unit strokes (λ page. named_rows unit page copies)
    → AreMadeBy unit strokes (named_by unit copies (length copies))
made_all unit strokes copies is =
    subst (λ (list : List CopyRow). AreMadeBy unit strokes (λ page. named_rows unit page list)) (sym (take_all (length copies) copies (omega arith))) is
