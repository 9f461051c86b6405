-- The rows of one unit: they bear its name, stand in their order, and are counted without a gap.
use Rattle.std.proofs.Common.{◌≡◌, inl, inr, ℕ, ◌+◌, ◌==◌, ◌≤◌, Bool, true, false, cond, List, [], ◌∷◌, ◌++◌, Option, Some, None, filter, length, map, refl, sym, ◌∙◌, ap, subst, arith, zero, suc}
use Rattle.std.proofs.lemmas.Bool.Decides.{nat_tests}
use Rattle.std.proofs.lemmas.List.{length-append}
use Rattle.vio_num.specs.declared.names.UnitId.{UnitId}
use Rattle.page_slots.specs.Stroke.{StrokeValue}
use Rattle.crq_ring.specs.Pipe.{PipeValue}
use Rattle.tce_window.specs.Grant.{AreNumbered, values_of}
use Rattle.tce_window.proofs.Laws.{values_of-own, values_of-other, values_of-none}
use Rattle.tce_window.specs.declared.answers.TceRow.{TceRow}
use Rattle.vio_trace.specs.Form.{QueueBefore, StrokeBefore, TceValueBefore}
use Rattle.vio_trace.specs.declared.rows.QueueRow.{QueueRow}
use Rattle.vio_trace.specs.declared.window_rows.StrokeRow.{StrokeRow}
use Rattle.vio_trace.specs.declared.window_rows.TceValueRow.{TceValueRow}
use Rattle.vcpu_run.specs.Numbered.{numbered}
use Rattle.vcpu_run.specs.RunLaw.{AreCounted, ArePlaced, AreVersions}
use Rattle.vcpu_run.specs.Sessions.{session_row, sessions_from}
use Rattle.vcpu_run.specs.Windows.{rows_from, rows_of_entry, rows_on, stroke_row, value_row, values_from}
use Rattle.lan_script.proofs.Order.{Each, Ordered, each_append, each_weaker, ordered_append}

-- sessions

pub sessions_named : (unit : UnitId) (pipe : PipeValue) (q n : ℕ) → Each (λ row. (row.unit ≡ unit) × (q ≤ row.session)) (sessions_from unit pipe q n)
sessions_named unit pipe q zero = tt
sessions_named unit pipe q (suc n) = (
  (refl, omega arith),
  each_weaker (λ (row : QueueRow). (row.unit ≡ unit) × (q + 1 ≤ row.session)) (λ (row : QueueRow). (row.unit ≡ unit) × (q ≤ row.session)) (λ row h. (h.0, omega (arith, h.1)))
      (sessions_from unit pipe (q + 1) n) (sessions_named unit pipe (q + 1) n),
)

pub sessions_ordered : (unit : UnitId) (pipe : PipeValue) (q n : ℕ) → Ordered QueueBefore (sessions_from unit pipe q n)
sessions_ordered unit pipe q zero = tt
sessions_ordered unit pipe q (suc n) = (
  each_weaker (λ (row : QueueRow). (row.unit ≡ unit) × (q + 1 ≤ row.session)) (QueueBefore (session_row unit pipe q))
      (λ row h. inr (sym h.0, omega (arith, h.1))) (sessions_from unit pipe (q + 1) n) (sessions_named unit pipe (q + 1) n),
  sessions_ordered unit pipe (q + 1) n,
)

pub sessions_counted : (unit : UnitId) (pipe : PipeValue) (q n : ℕ) → AreCounted q (sessions_from unit pipe q n)
sessions_counted unit pipe q zero = tt
sessions_counted unit pipe q (suc n) = (refl, sessions_counted unit pipe (q + 1) n)

-- a queue has as many sessions as its last one says
pub sessions_count : (unit : UnitId) (pipe : PipeValue) (q n : ℕ) → length (sessions_from unit pipe q n) ≡ n
sessions_count unit pipe q zero = refl
sessions_count unit pipe q (suc n) = ap suc (sessions_count unit pipe (q + 1) n)

-- strokes

pub strokes_named : (unit : UnitId) (page n : ℕ) (strokes : List StrokeValue)
    → Each (λ row. (row.unit ≡ unit) × (row.page ≡ page) × (n ≤ row.place)) (numbered (stroke_row unit page) n strokes)
strokes_named unit page n [] = tt
strokes_named unit page n (stroke ∷ strokes) = (
  (refl, refl, omega arith),
  each_weaker (λ (row : StrokeRow). (row.unit ≡ unit) × (row.page ≡ page) × (n + 1 ≤ row.place)) (λ (row : StrokeRow). (row.unit ≡ unit) × (row.page ≡ page) × (n ≤ row.place))
      (λ row h. (h.0, h.1, omega (arith, h.2)))
      (numbered (stroke_row unit page) (n + 1) strokes) (strokes_named unit page (n + 1) strokes),
)

pub strokes_ordered : (unit : UnitId) (page n : ℕ) (strokes : List StrokeValue) → Ordered StrokeBefore (numbered (stroke_row unit page) n strokes)
strokes_ordered unit page n [] = tt
strokes_ordered unit page n (stroke ∷ strokes) = (
  each_weaker (λ (row : StrokeRow). (row.unit ≡ unit) × (row.page ≡ page) × (n + 1 ≤ row.place)) (StrokeBefore (stroke_row unit page n stroke))
      (λ row h. inr (sym h.0, inr (sym h.1, omega (arith, h.2)))) (numbered (stroke_row unit page) (n + 1) strokes) (strokes_named unit page (n + 1) strokes),
  strokes_ordered unit page (n + 1) strokes,
)

pub strokes_placed : (unit : UnitId) (page n : ℕ) (strokes : List StrokeValue) → ArePlaced n (numbered (stroke_row unit page) n strokes)
strokes_placed unit page n [] = tt
strokes_placed unit page n (stroke ∷ strokes) = (refl, strokes_placed unit page (n + 1) strokes)

abbrev pub IsOnPage : UnitId → ℕ → StrokeRow → Type 0
IsOnPage unit page row = (row.unit ≡ unit) × (page ≤ row.page)

pub page_named : (unit : UnitId) (page : ℕ) (strokes : Option (List StrokeValue)) → Each (λ row. (row.unit ≡ unit) × (row.page ≡ page)) (rows_on unit page strokes)
page_named unit page None = tt
page_named unit page (Some strokes) =
    each_weaker (λ (row : StrokeRow). (row.unit ≡ unit) × (row.page ≡ page) × (0 ≤ row.place)) (λ (row : StrokeRow). (row.unit ≡ unit) × (row.page ≡ page)) (λ row h. (h.0, h.1))
    (numbered (stroke_row unit page) 0 strokes) (strokes_named unit page 0 strokes)

page_ordered : (unit : UnitId) (page : ℕ) (strokes : Option (List StrokeValue)) → Ordered StrokeBefore (rows_on unit page strokes)
page_ordered unit page None = tt
page_ordered unit page (Some strokes) = strokes_ordered unit page 0 strokes

pub pages_named : (unit : UnitId) (strokes : ℕ → Option (List StrokeValue)) (page n : ℕ) → Each (IsOnPage unit page) (rows_from unit strokes page n)
pages_named unit strokes page zero = tt
pages_named unit strokes page (suc n) =
    each_append (IsOnPage unit page) (rows_on unit page (strokes page)) (rows_from unit strokes (page + 1) n)
    (each_weaker (λ (row : StrokeRow). (row.unit ≡ unit) × (row.page ≡ page)) (IsOnPage unit page) (λ row h. (h.0, omega (arith, h.1))) (rows_on unit page (strokes page)) (page_named unit page (strokes page)))
    (each_weaker (IsOnPage unit (page + 1)) (IsOnPage unit page) (λ row h. (h.0, omega (arith, h.1))) (rows_from unit strokes (page + 1) n) (pages_named unit strokes (page + 1) n))

pub pages_ordered : (unit : UnitId) (strokes : ℕ → Option (List StrokeValue)) (page n : ℕ) → Ordered StrokeBefore (rows_from unit strokes page n)
pages_ordered unit strokes page zero = tt
pages_ordered unit strokes page (suc n) =
    ordered_append StrokeBefore (rows_on unit page (strokes page)) (rows_from unit strokes (page + 1) n)
    (page_ordered unit page (strokes page)) (pages_ordered unit strokes (page + 1) n)
    (each_weaker (λ (row : StrokeRow). (row.unit ≡ unit) × (row.page ≡ page)) (λ row. Each (StrokeBefore row) (rows_from unit strokes (page + 1) n))
    (λ row h. each_weaker (IsOnPage unit (page + 1)) (StrokeBefore row) (λ other m. inr (h.0 ∙ sym m.0, inl (omega (arith, h.1, m.1)))) (rows_from unit strokes (page + 1) n) (pages_named unit strokes (page + 1) n))
    (rows_on unit page (strokes page)) (page_named unit page (strokes page)))

-- values

same_entry : (a b : ℕ) → (a == b) ≡ true → a ≡ b
same_entry a b is = grind (arith, nat_tests)

other_entry : (a b : ℕ) → (a == b) ≡ false → a ≡ b → ⊥
other_entry a b is e = grind (arith, nat_tests)

pub versions_from : (unit : UnitId) (e n : ℕ) (before rows : List TceRow) → AreNumbered n before rows → AreVersions (length (values_of before e)) (rows_of_entry unit rows e)
versions_from unit e n before [] are = tt
versions_from unit e n before (row ∷ rows) are = at (row.entry == e) refl (versions_from unit e n (before ++ row ∷ []) rows are.2)
  where
    at : (b : Bool) → (row.entry == e) ≡ b → AreVersions (length (values_of (before ++ row ∷ []) e)) (rows_of_entry unit rows e)
        → AreVersions (length (values_of before e)) (map (value_row unit) (cond b (row ∷ filter (λ r. r.entry == e) rows) (filter (λ r. r.entry == e) rows)))
    at true is rest =
        let own : row.entry ≡ e = same_entry row.entry e is in
        let grown : values_of (before ++ row ∷ []) e ≡ values_of before e ++ row.value ∷ [] = subst (λ k. values_of (before ++ row ∷ []) k ≡ values_of before k ++ row.value ∷ []) own (values_of-own before row) in
        let long : length (values_of (before ++ row ∷ []) e) ≡ length (values_of before e) + 1 = ap length grown ∙ length-append (values_of before e) (row.value ∷ []) in
        (are.1 ∙ ap (λ k. length (values_of before k)) own, subst (λ k. AreVersions k (rows_of_entry unit rows e)) long rest)
    at false is rest = subst (λ xs. AreVersions (length xs) (rows_of_entry unit rows e)) (values_of-other before row e (other_entry row.entry e is)) rest

pub first_versions : (unit : UnitId) (e n : ℕ) (rows : List TceRow) → AreNumbered n [] rows → AreVersions 1 (rows_of_entry unit rows e)
first_versions unit e n rows are = subst (λ xs. AreVersions (length xs) (rows_of_entry unit rows e)) (values_of-none e) (versions_from unit e n [] rows are)

-- counted versions rise
versions_above : (n m : ℕ) (rows : List TceValueRow) → m ≤ n → AreVersions n rows → Each (λ row. m ≤ row.version) rows
versions_above n m [] less are = tt
versions_above n m (row ∷ rows) less are = (omega (arith, less, are.0), versions_above (n + 1) m rows (omega (arith, less)) are.1)

each_both : {Row : Type 0} (P Q : Row → Type 0) (rows : List Row) → Each P rows → Each Q rows → Each (λ row. P row × Q row) rows
each_both P Q [] p q = tt
each_both P Q (row ∷ rows) p q = ((p.0, q.0), each_both P Q rows p.1 q.1)

abbrev pub IsOfEntry : UnitId → ℕ → TceValueRow → Type 0
IsOfEntry unit e row = (row.unit ≡ unit) × (row.entry ≡ e)

versions_ordered : (unit : UnitId) (e n : ℕ) (rows : List TceValueRow) → Each (IsOfEntry unit e) rows → AreVersions n rows → Ordered TceValueBefore rows
versions_ordered unit e n [] named are = tt
versions_ordered unit e n (row ∷ rows) named are = (
  each_weaker (λ other. IsOfEntry unit e other × (n + 1 ≤ other.version)) (TceValueBefore row)
      (λ other h. inr (named.0.0 ∙ sym h.0.0, inr (named.0.1 ∙ sym h.0.1, omega (arith, h.1, are.0)))) rows
      (each_both (IsOfEntry unit e) (λ other. n + 1 ≤ other.version) rows named.1 (versions_above (n + 1) (n + 1) rows (omega arith) are.1)),
  versions_ordered unit e (n + 1) rows named.1 are.1,
)

pub entry_named : (unit : UnitId) (e : ℕ) (rows : List TceRow) → Each (IsOfEntry unit e) (rows_of_entry unit rows e)
entry_named unit e [] = tt
entry_named unit e (row ∷ rows) = at (row.entry == e) refl (entry_named unit e rows)
  where
    at : (b : Bool) → (row.entry == e) ≡ b → Each (IsOfEntry unit e) (rows_of_entry unit rows e)
        → Each (IsOfEntry unit e) (map (value_row unit) (cond b (row ∷ filter (λ r. r.entry == e) rows) (filter (λ r. r.entry == e) rows)))
    at true is rest = ((refl, same_entry row.entry e is), rest)
    at false is rest = rest

abbrev pub IsOfWindow : UnitId → ℕ → TceValueRow → Type 0
IsOfWindow unit e row = (row.unit ≡ unit) × (e ≤ row.entry)

pub values_named : (unit : UnitId) (rows : List TceRow) (e n : ℕ) → Each (IsOfWindow unit e) (values_from unit rows e n)
values_named unit rows e zero = tt
values_named unit rows e (suc n) =
    each_append (IsOfWindow unit e) (rows_of_entry unit rows e) (values_from unit rows (e + 1) n)
    (each_weaker (IsOfEntry unit e) (IsOfWindow unit e) (λ row h. (h.0, omega (arith, h.1))) (rows_of_entry unit rows e) (entry_named unit e rows))
    (each_weaker (IsOfWindow unit (e + 1)) (IsOfWindow unit e) (λ row h. (h.0, omega (arith, h.1))) (values_from unit rows (e + 1) n) (values_named unit rows (e + 1) n))

pub values_ordered : (unit : UnitId) (size : ℕ) (rows : List TceRow) → AreNumbered size [] rows → (e n : ℕ) → Ordered TceValueBefore (values_from unit rows e n)
values_ordered unit size rows are e zero = tt
values_ordered unit size rows are e (suc n) =
    ordered_append TceValueBefore (rows_of_entry unit rows e) (values_from unit rows (e + 1) n)
    (versions_ordered unit e 1 (rows_of_entry unit rows e) (entry_named unit e rows) (first_versions unit e size rows are))
    (values_ordered unit size rows are (e + 1) n)
    (each_weaker (IsOfEntry unit e) (λ row. Each (TceValueBefore row) (values_from unit rows (e + 1) n))
    (λ row h. each_weaker (IsOfWindow unit (e + 1)) (TceValueBefore row) (λ other m. inr (h.0 ∙ sym m.0, inl (omega (arith, h.1, m.1)))) (values_from unit rows (e + 1) n) (values_named unit rows (e + 1) n))
    (rows_of_entry unit rows e) (entry_named unit e rows))

-- rows of one unit alone are in order by unit
pub alone : {Row : Type 0} (unit : Row → UnitId) (u : UnitId) (before : Row → Row → Type 0) → ((a b : Row) → unit a ≡ unit b → before a b)
    → (rows : List Row) → Each (λ row. unit row ≡ u) rows → Ordered before rows
alone unit u before same [] named = tt
alone unit u before same (row ∷ rows) named =
    (each_weaker (λ other. unit other ≡ u) (before row) (λ other h. same row other (named.0 ∙ sym h)) rows named.1, alone unit u before same rows named.1)
