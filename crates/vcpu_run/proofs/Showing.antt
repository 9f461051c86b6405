-- What the rows of a window show of it is what is known of it.
use Rattle.std.proofs.Common.{◌≡◌, ◌∙◌, ℕ, ◌+◌, ◌*◌, ◌==◌, ◌<◌, ◌≤◌, nat_lt, Bool, true, false, List, [], ◌∷◌, ◌++◌, Option, Some, None, IsSome, filter, length, map, refl, sym, ap, subst, arith, append-nil, if◌then◌else◌}
use Rattle.std.proofs.lemmas.Bool.{eq-eqb, ne_eqb}
use Rattle.std.proofs.lemmas.Bool.Decides.{nat_tests}
use Rattle.std.proofs.lemmas.Simd.{map-map}
use Rattle.std.proofs.lemmas.Option.{slice_get_past}
use Rattle.vio_num.specs.declared.names.UnitId.{UnitId}
use Rattle.page_slots.specs.Stroke.{StrokeValue}
use Rattle.rdma_copy.specs.Copies.{side_of}
use Rattle.rdma_copy.specs.Copy.{Side, side, SideGrows}
use Rattle.tce_window.specs.Grant.{AreNumbered, values_of}
use Rattle.tce_window.specs.PlainPort.{known_of}
use Rattle.tce_window.specs.Port.{Grows}
use Rattle.tce_window.specs.Window.{WindowValue, AllThere, strokes_at, strokes_in}
use Rattle.tce_window.specs.declared.answers.TceRow.{TceRow}
use Rattle.vio_trace.specs.declared.window_rows.StrokeRow.{StrokeRow}
use Rattle.vio_trace.specs.declared.window_rows.TceValueRow.{TceValueRow}
use Rattle.vcpu_run.specs.Numbered.{numbered}
use Rattle.vcpu_run.specs.Shown.{stroke_value}
use Rattle.vcpu_run.specs.Windows.{rows_from, rows_of_entry, rows_on, strokes_in_rows, stroke_row, value_row, values_from, values_in_rows}
use Rattle.vcpu_run.proofs.Blocks.{entry_named, page_named, IsOfEntry}
use Rattle.lan_script.proofs.Order.{Each, each_weaker}
use Rattle.vcpu_run.proofs.Parts.{only_block}
use Rattle.vcpu_run.proofs.Sole.{none_passes}

-- of a window's strokes those on a page are that page's
pub page_shown : (unit : UnitId) (window : WindowValue) (page : ℕ)
    → filter (λ row. row.page == page) (strokes_in_rows unit window) ≡ rows_on unit page (strokes_at window.pages page)
page_shown unit window page =
    only_block (λ (row : StrokeRow). row.page == page) (λ q. rows_on unit q (strokes_at window.pages q)) (rows_from unit (strokes_at window.pages)) page
    (record {
      end = λ q. refl;
      next = λ q n. refl;
      own = each_weaker (λ (row : StrokeRow). (row.unit ≡ unit) × (row.page ≡ page)) (λ (row : StrokeRow). (row.page == page) ≡ true)
          (λ row h. eq-eqb row.page page h.1) (rows_on unit page (strokes_at window.pages page)) (page_named unit page (strokes_at window.pages page));
      other = λ q apart. each_weaker (λ (row : StrokeRow). (row.unit ≡ unit) × (row.page ≡ q)) (λ (row : StrokeRow). (row.page == page) ≡ false)
          (λ row h. ne_eqb row.page page (λ e. apart (sym h.1 ∙ e))) (rows_on unit q (strokes_at window.pages q)) (page_named unit q (strokes_at window.pages q));
    })
    (length window.pages) 0 (omega arith)
    (λ past. ap (λ slot. rows_on unit page (strokes_in slot)) (slice_get_past window.pages page (omega (arith, past))))

-- each entry of a value put is one of the window's
pub entries_within : (n : ℕ) (before rows : List TceRow) → AreNumbered n before rows → Each (λ row. row.entry < n) rows
entries_within n before [] are = tt
entries_within n before (row ∷ rows) are = (are.0, entries_within n (before ++ row ∷ []) rows are.2)

pub none_past : (unit : UnitId) (n e : ℕ) (rows : List TceRow) → AreNumbered n [] rows → n ≤ e → rows_of_entry unit rows e ≡ []
none_past unit n e rows are past =
    ap (map (value_row unit)) (none_passes (λ (row : TceRow). row.entry == e) rows
    (each_weaker (λ (row : TceRow). row.entry < n) (λ (row : TceRow). (row.entry == e) ≡ false) (λ row less. ne_eqb row.entry e (λ same. omega (arith, less, past, same)))
    rows (entries_within n [] rows are)))

-- of a window's values those of an entry are that entry's
pub entry_shown : (unit : UnitId) (window : WindowValue) (e : ℕ) → AreNumbered (length window.pages) [] window.rows
    → filter (λ row. row.entry == e) (values_in_rows unit window) ≡ rows_of_entry unit window.rows e
entry_shown unit window e are =
    only_block (λ (row : TceValueRow). row.entry == e) (rows_of_entry unit window.rows) (values_from unit window.rows) e
    (record {
      end = λ q. refl;
      next = λ q n. refl;
      own = each_weaker (IsOfEntry unit e) (λ (row : TceValueRow). (row.entry == e) ≡ true)
          (λ row h. eq-eqb row.entry e h.1) (rows_of_entry unit window.rows e) (entry_named unit e window.rows);
      other = λ q apart. each_weaker (IsOfEntry unit q) (λ (row : TceValueRow). (row.entry == e) ≡ false)
          (λ row h. ne_eqb row.entry e (λ same. apart (sym h.1 ∙ same))) (rows_of_entry unit window.rows q) (entry_named unit q window.rows);
    })
    (length window.pages) 0 (omega arith)
    (λ past. none_past unit (length window.pages) e window.rows are (omega (arith, past)))

-- the rows say the values and the strokes themselves
pub values_said : (unit : UnitId) (rows : List TceRow) (e : ℕ) → (4096 * e + 3) ∷ map (λ row. row.value) (rows_of_entry unit rows e) ≡ values_of rows e
unfolding values_of
values_said unit rows e = ap (λ xs. (4096 * e + 3) ∷ xs) (map-map (λ (row : TceValueRow). row.value) (value_row unit) (filter (λ row. row.entry == e) rows))

pub strokes_said : (unit : UnitId) (page n : ℕ) (strokes : List StrokeValue) → map stroke_value (numbered (stroke_row unit page) n strokes) ≡ strokes
strokes_said unit page n [] = refl
strokes_said unit page n (stroke ∷ strokes) = ap (λ xs. stroke ∷ xs) (strokes_said unit page (n + 1) strokes)

page_said : (unit : UnitId) (page : ℕ) (strokes : Option (List StrokeValue)) (rows : List StrokeRow) → IsSome strokes → rows ≡ rows_on unit page strokes
    → Grows true strokes (Some (map stroke_value rows))
page_said unit page None rows some e = absurd (cc)
page_said unit page (Some strokes) rows some e = ([], ap (map stroke_value) e ∙ strokes_said unit page 0 strokes ∙ sym (append-nil strokes))

pub is_less : (a b : ℕ) → nat_lt a b ≡ true → a < b
is_less a b is = grind (arith, nat_tests)

pub is_past : (a b : ℕ) → nat_lt a b ≡ false → b ≤ a
is_past a b is = grind (arith, nat_tests)

-- what is shown of each page where there are this many
pub strokes_grow : (unit : UnitId) (window : WindowValue) (size page : ℕ) (rows : List StrokeRow) → size ≡ length window.pages → AllThere window.pages
    → rows ≡ rows_on unit page (strokes_at window.pages page)
    → Grows true (strokes_at window.pages page) (if nat_lt page size then Some (map stroke_value rows) else None)
strokes_grow unit window size page rows size_is there e = at (nat_lt page size) refl
  where
    at : (b : Bool) → nat_lt page size ≡ b → Grows true (strokes_at window.pages page) (if b then Some (map stroke_value rows) else None)
    at true is = page_said unit page (strokes_at window.pages page) rows (there page (omega (arith, is_less page size is, size_is))) e
    at false is =
        let none = slice_get_past window.pages page (omega (arith, is_past page size is, size_is)) in
        subst (λ slot. Grows true (strokes_in slot) None) (sym none) tt

abbrev pub shown_side : UnitId → ℕ → (ℕ → List TceValueRow) → (ℕ → List StrokeRow) → Side
shown_side unit size puts laid =
    side unit (λ e. (4096 * e + 3) ∷ map (λ row. row.value) (puts e)) (λ page. if nat_lt page size then Some (map stroke_value (laid page)) else None)

-- what is shown of a window by its rows is no less than what is known of it
pub shown_grows : (unit : UnitId) (window : WindowValue) (size : ℕ) (puts : ℕ → List TceValueRow) (laid : ℕ → List StrokeRow)
    → window.unit ≡ unit → size ≡ length window.pages → AllThere window.pages
    → ((e : ℕ) → puts e ≡ rows_of_entry unit window.rows e) → ((page : ℕ) → laid page ≡ rows_on unit page (strokes_at window.pages page))
    → SideGrows (side_of (known_of window)) (shown_side unit size puts laid)
shown_grows unit window size puts laid unit_is size_is there puts_are laid_are = record {
  unit = sym unit_is;
  values = λ e. ([], ap (λ rows. (4096 * e + 3) ∷ map (λ row. row.value) rows) (puts_are e) ∙ values_said unit window.rows e ∙ sym (append-nil (values_of window.rows e)));
  strokes = λ page. strokes_grow unit window size page (laid page) size_is there (laid_are page);
}
