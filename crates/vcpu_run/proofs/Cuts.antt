-- Rows of a count of sessions, entries or pages, taken from the end; and the sessions of rows that stand in order.
use Rattle.std.proofs.Common.{◌≡◌, ◌∙◌, ℕ, ◌+◌, ◌<◌, List, [], ◌∷◌, ◌++◌, Option, All, length, take, get_or, sym, ap, subst, arith, append-nil, append_assoc, zero, suc}
use Rattle.std.specs.List.{flat_map}
use Rattle.std.proofs.Math.Seq.{take-suc}
use Rattle.std.proofs.lemmas.Grind.{flat_map-append}
use Rattle.std.proofs.lemmas.List.Elements.{All-append, All-cons, All-nil}
use Rattle.std.proofs.lemmas.List.{length-take}
use Rattle.vio_num.specs.declared.names.UnitId.{UnitId}
use Rattle.page_slots.specs.Stroke.{StrokeValue}
use Rattle.tce_window.specs.declared.answers.TceRow.{TceRow}
use Rattle.crq_ring.specs.Pipe.{PipeValue}
use Rattle.vio_num.specs.declared.entry.Entry.{Entry}
use Rattle.vio_trace.specs.declared.rows.DropRow.{DropRow as TraceDrop}
use Rattle.vio_trace.specs.declared.rows.QueueRow.{QueueRow}
use Rattle.vcpu_run.specs.Sessions.{drops_of, entries_of, session_row, sessions_from}
use Rattle.vcpu_run.specs.Numbered.{numbered}
use Rattle.vcpu_run.specs.Windows.{rows_on, rows_from, rows_of_entry, values_from}

pub sessions_more : (unit : UnitId) (pipe : PipeValue) (q n : ℕ)
    → sessions_from unit pipe q (suc n) ≡ sessions_from unit pipe q n ++ session_row unit pipe (q + n) ∷ []
sessions_more unit pipe q zero = ap (λ k. session_row unit pipe k ∷ []) (let e : q ≡ q + 0 = omega arith in e)
sessions_more unit pipe q (suc n) =
    let e : (q + 1) + n ≡ q + suc n = omega arith in
    ap (λ rows. session_row unit pipe q ∷ rows) (sessions_more unit pipe (q + 1) n ∙ ap (λ k. sessions_from unit pipe (q + 1) n ++ session_row unit pipe k ∷ []) e)

pub pages_more : (unit : UnitId) (strokes : ℕ → Option (List StrokeValue)) (page n : ℕ)
    → rows_from unit strokes page (suc n) ≡ rows_from unit strokes page n ++ rows_on unit (page + n) (strokes (page + n))
pages_more unit strokes page zero =
    let e : page ≡ page + 0 = omega arith in
    append-nil (rows_on unit page (strokes page)) ∙ ap (λ k. rows_on unit k (strokes k)) e
pages_more unit strokes page (suc n) =
    let e : (page + 1) + n ≡ page + suc n = omega arith in
    ap (λ rows. rows_on unit page (strokes page) ++ rows)
    (pages_more unit strokes (page + 1) n ∙ ap (λ k. rows_from unit strokes (page + 1) n ++ rows_on unit k (strokes k)) e)
    ∙ sym (append_assoc (rows_on unit page (strokes page)) (rows_from unit strokes (page + 1) n) (rows_on unit (page + suc n) (strokes (page + suc n))))

pub entries_more : (unit : UnitId) (rows : List TceRow) (e n : ℕ)
    → values_from unit rows e (suc n) ≡ values_from unit rows e n ++ rows_of_entry unit rows (e + n)
entries_more unit rows e zero =
    let same : e ≡ e + 0 = omega arith in
    append-nil (rows_of_entry unit rows e) ∙ ap (rows_of_entry unit rows) same
entries_more unit rows e (suc n) =
    let same : (e + 1) + n ≡ e + suc n = omega arith in
    ap (λ more. rows_of_entry unit rows e ++ more)
    (entries_more unit rows (e + 1) n ∙ ap (λ k. values_from unit rows (e + 1) n ++ rows_of_entry unit rows k) same)
    ∙ sym (append_assoc (rows_of_entry unit rows e) (values_from unit rows (e + 1) n) (rows_of_entry unit rows (e + suc n)))

numbered_more : {X Row : Type 0} (make : ℕ → X → Row) (n : ℕ) (xs : List X) (x : X)
    → numbered make n (xs ++ x ∷ []) ≡ numbered make n xs ++ make (n + length xs) x ∷ []
numbered_more make n [] x = let e : n ≡ n + 0 = omega arith in ap (λ k. make k x ∷ []) e
numbered_more make n (first ∷ xs) x =
    let e : (n + 1) + length xs ≡ n + length (first ∷ xs) = omega arith in
    ap (λ rows. make n first ∷ rows)
    (numbered_more make (n + 1) xs x ∙ ap (λ k. numbered make (n + 1) xs ++ make k x ∷ []) e)

-- lists that grew by ys, where zs is what xs is with ys behind it
pub behind : {X : Type 0} (init new middle xs ys zs : List X) → new ≡ middle ++ ys → middle ≡ init ++ xs → zs ≡ xs ++ ys → new ≡ init ++ zs
behind init new middle xs ys zs grown was is =
    grown ∙ (ap (λ rows. rows ++ ys) was ∙ (append_assoc init xs ys ∙ ap (λ rows. init ++ rows) (sym is)))

one_more : (n : ℕ) → suc n ≡ n + 1
one_more n = omega arith

pub sessions_step : (unit : UnitId) (pipe : PipeValue) (n : ℕ)
    → sessions_from unit pipe 1 (n + 1) ≡ sessions_from unit pipe 1 n ++ session_row unit pipe (n + 1) ∷ []
sessions_step unit pipe n =
    let e : 1 + n ≡ n + 1 = omega arith in
    subst (λ k. sessions_from unit pipe 1 k ≡ sessions_from unit pipe 1 n ++ session_row unit pipe (n + 1) ∷ []) (one_more n)
    (subst (λ k. sessions_from unit pipe 1 (suc n) ≡ sessions_from unit pipe 1 n ++ session_row unit pipe k ∷ []) e (sessions_more unit pipe 1 n))

pub pages_step : (unit : UnitId) (strokes : ℕ → Option (List StrokeValue)) (n : ℕ)
    → rows_from unit strokes 0 (n + 1) ≡ rows_from unit strokes 0 n ++ rows_on unit n (strokes n)
pages_step unit strokes n =
    let e : 0 + n ≡ n = omega arith in
    subst (λ k. rows_from unit strokes 0 k ≡ rows_from unit strokes 0 n ++ rows_on unit n (strokes n)) (one_more n)
    (subst (λ k. rows_from unit strokes 0 (suc n) ≡ rows_from unit strokes 0 n ++ rows_on unit k (strokes k)) e (pages_more unit strokes 0 n))

pub entries_step : (unit : UnitId) (rows : List TceRow) (n : ℕ)
    → values_from unit rows 0 (n + 1) ≡ values_from unit rows 0 n ++ rows_of_entry unit rows n
entries_step unit rows n =
    let e : 0 + n ≡ n = omega arith in
    subst (λ k. values_from unit rows 0 k ≡ values_from unit rows 0 n ++ rows_of_entry unit rows n) (one_more n)
    (subst (λ k. values_from unit rows 0 (suc n) ≡ values_from unit rows 0 n ++ rows_of_entry unit rows k) e (entries_more unit rows 0 n))

-- the rows of one place more
pub numbered_step : {X Row : Type 0} (make : ℕ → X → Row) (xs : List X) (i : ℕ) (x : X) → i < length xs → x ≡ get_or xs i x
    → numbered make 0 (take (i + 1) xs) ≡ numbered make 0 (take i xs) ++ make i x ∷ []
numbered_step make xs i x less is =
    let more : take (i + 1) xs ≡ take i xs ++ x ∷ [] =
    subst (λ k. take k xs ≡ take i xs ++ x ∷ []) (one_more i)
    (take-suc xs i x less ∙ ap (λ y. take i xs ++ y ∷ []) (sym is)) in
    let long : 0 + length (take i xs) ≡ i = omega (arith, length-take i xs, less) in
    ap (numbered make 0) more
    ∙ (numbered_more make 0 (take i xs) x ∙ ap (λ k. numbered make 0 (take i xs) ++ make k x ∷ []) long)

-- the row of a session, field by field
abbrev pub row_of : UnitId → (q slots : ℕ) → (sent taken : List Entry) → List TraceDrop → QueueRow
row_of unit q slots sent taken drops = record { unit = unit; session = q; slots = slots; sent = sent; taken = taken; drops = drops }

pub row_is : (unit : UnitId) (pipe : PipeValue) (q slots : ℕ) (sent taken : List Entry) (drops : List TraceDrop)
    → slots ≡ pipe.slots → sent ≡ entries_of q pipe.sent → taken ≡ entries_of q pipe.taken → drops ≡ drops_of q pipe.drops
    → row_of unit q slots sent taken drops ≡ session_row unit pipe q
row_is unit pipe q slots sent taken drops e f g h = cc

-- one element more
take_more : {X : Type 0} (xs : List X) (i : ℕ) (d : X) → i < length xs → take (i + 1) xs ≡ take i xs ++ get_or xs i d ∷ []
take_more xs i d less = subst (λ k. take k xs ≡ take i xs ++ get_or xs i d ∷ []) (one_more i) (take-suc xs i d less)

pub all_more : {X : Type 0} (P : X → Type 0) (xs : List X) (i : ℕ) (d : X) → i < length xs → All P (take i xs) → P (get_or xs i d) → All P (take (i + 1) xs)
all_more P xs i d less all one =
    subst (All P) (sym (take_more xs i d less))
    (All-append P (take i xs) (get_or xs i d ∷ []) all (All-cons P (get_or xs i d) [] one (All-nil P)))

pub flat_more : {X Row : Type 0} (f : X → List Row) (xs : List X) (i : ℕ) (d : X) (old new : List Row) → i < length xs
    → old ≡ flat_map f (take i xs) → new ≡ old ++ f (get_or xs i d) → new ≡ flat_map f (take (i + 1) xs)
flat_more f xs i d old new less was grown =
    grown ∙ (ap (λ rows. rows ++ f (get_or xs i d)) was
    ∙ sym (ap (flat_map f) (take_more xs i d less)
    ∙ (flat_map-append f (take i xs) (get_or xs i d ∷ []) ∙ ap (λ rows. flat_map f (take i xs) ++ rows) (append-nil (f (get_or xs i d))))))
