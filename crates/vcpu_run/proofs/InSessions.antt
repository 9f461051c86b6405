-- The sessions of a queue, one behind the other, have all rows of a list in the order of their sessions.
use Rattle.std.proofs.Common.{◌≡◌, ◌≢◌, ◌∙◌, ℕ, ◌+◌, ◌==◌, ◌<◌, ◌≤◌, Bool, true, false, cond, List, [], ◌∷◌, ◌++◌, filter, map, refl, sym, ap, ap₂, arith, zero, suc}
use Rattle.std.proofs.lemmas.Bool.Decides.{nat_tests}
use Rattle.std.proofs.lemmas.Bool.{eq-eqb, ne_eqb}
use Rattle.vio_num.specs.declared.entry.Entry.{Entry}
use Rattle.crq_ring.specs.declared.rows.PipeRow.{PipeRow}
use Rattle.vcpu_run.specs.SentOrder.{is_begun}
use Rattle.vcpu_run.specs.Sessions.{entries_of}
use Rattle.lan_script.proofs.Order.{Each, Ordered, each_weaker}

-- the rows of session q
abbrev pub in_session : (q : ℕ) → List PipeRow → List PipeRow
in_session q rows = filter (λ row. row.session == q) rows

-- the rows of n sessions from session q on
abbrev pub flat : (q n : ℕ) → List PipeRow → List PipeRow
flat q zero rows = []
flat q (suc n) rows = in_session q rows ++ flat (q + 1) n rows

flat_none : (q n : ℕ) → flat q n [] ≡ []
flat_none q zero = refl
flat_none q (suc n) = flat_none (q + 1) n

-- a row of another session
other_session : (q : ℕ) (row : PipeRow) (rows : List PipeRow) → row.session ≢ q → in_session q (row ∷ rows) ≡ in_session q rows
other_session q row rows apart = ap (λ b. cond b (row ∷ in_session q rows) (in_session q rows)) (ne_eqb row.session q apart)

this_session : (q : ℕ) (row : PipeRow) (rows : List PipeRow) → row.session ≡ q → in_session q (row ∷ rows) ≡ row ∷ in_session q rows
this_session q row rows same = ap (λ b. cond b (row ∷ in_session q rows) (in_session q rows)) (eq-eqb row.session q same)

pub none_before : (q : ℕ) (rows : List PipeRow) → Each (λ row. q < row.session) rows → in_session q rows ≡ []
none_before q [] all = refl
none_before q (row ∷ rows) all = let less = all.0 in other_session q row rows (λ e. omega (arith, e, less)) ∙ none_before q rows all.1

passed : (q n : ℕ) (row : PipeRow) (rows : List PipeRow) → row.session < q → flat q n (row ∷ rows) ≡ flat q n rows
passed q zero row rows less = refl
passed q (suc n) row rows less =
    ap₂ (λ (a b : List PipeRow). a ++ b) (other_session q row rows (λ e. omega (arith, e, less))) (passed (q + 1) n row rows (omega (arith, less)))

-- the first of rows in the order of their sessions
first_of : (q n : ℕ) (row : PipeRow) (rows : List PipeRow) → q ≤ row.session → row.session < q + n → Each (λ later. row.session ≤ later.session) rows
    → flat q n (row ∷ rows) ≡ row ∷ flat q n rows
first_of q zero row rows from within all = absurd (omega (arith, from, within))
first_of q (suc n) row rows from within all = at (q == row.session) refl (λ less. first_of (q + 1) n row rows (omega (arith, less)) (omega (arith, within)) all)
  where
    here : (b : Bool) → (q == row.session) ≡ b → b ≡ true → row.session ≡ q
    here b e t = grind (arith, nat_tests, e, t)

    past : (b : Bool) → (q == row.session) ≡ b → b ≡ false → q < row.session
    past b e f = grind (arith, nat_tests, e, f, from)

    at : (b : Bool) → (q == row.session) ≡ b → (q < row.session → flat (q + 1) n (row ∷ rows) ≡ row ∷ flat (q + 1) n rows)
        → flat q (suc n) (row ∷ rows) ≡ row ∷ flat q (suc n) rows
    at true e rest =
        let same = here true e refl in
        ap₂ (λ (a b : List PipeRow). a ++ b) (this_session q row rows same) (passed (q + 1) n row rows (omega (arith, same)))
    at false e rest =
        let less = past false e refl in
        let none : in_session q rows ≡ [] = none_before q rows (each_weaker (λ (r : PipeRow). row.session ≤ r.session) (λ (r : PipeRow). q < r.session) (λ r h. omega (arith, h, less)) rows all) in
        ap₂ (λ (a b : List PipeRow). a ++ b) (other_session q row rows (λ e'. omega (arith, e', less)) ∙ none)
        (rest less)
        ∙ sym (ap (λ (a : List PipeRow). row ∷ (a ++ flat (q + 1) n rows)) none)

pub all_flat : (last : ℕ) (rows : List PipeRow) → Ordered (λ a b. a.session ≤ b.session) rows → Each (λ row. 1 ≤ row.session) rows → Each (λ row. row.session ≤ last) rows
    → flat 1 last rows ≡ rows
all_flat last [] order begun few = flat_none 1 last
all_flat last (row ∷ rows) order begun few =
    let most = few.0 in
    first_of 1 last row rows begun.0 (omega (arith, most)) order.0 ∙ ap (λ (rest : List PipeRow). row ∷ rest) (all_flat last rows order.1 begun.1 few.1)

-- those of all sessions are the rows that were put in one, which count from 1
pub begun_flat : (last : ℕ) (rows : List PipeRow) → Ordered (λ a b. a.session ≤ b.session) rows → Each (λ row. row.session ≤ last) rows → flat 1 last rows ≡ filter is_begun rows
begun_flat last [] order few = flat_none 1 last
begun_flat last (row ∷ rows) order few = at (is_begun row) refl (begun_flat last rows order.1 few.1)
  where
    at : (b : Bool) → is_begun row ≡ b → flat 1 last rows ≡ filter is_begun rows → flat 1 last (row ∷ rows) ≡ cond b (row ∷ filter is_begun rows) (filter is_begun rows)
    at true e rest =
        let from : 1 ≤ row.session = grind (arith, nat_tests, e) in
        let most = few.0 in
        first_of 1 last row rows from (omega (arith, most)) order.0 ∙ ap (λ (list : List PipeRow). row ∷ list) rest
    at false e rest =
        let none : row.session < 1 = grind (arith, nat_tests, e) in
        passed 1 last row rows none ∙ rest

-- the rows of a session are its entries, each with the session's number
pub rows_again : (q : ℕ) (rows : List PipeRow) → map (λ entry. record { session = q; entry = entry }) (entries_of q rows) ≡ in_session q rows
rows_again q [] = refl
rows_again q (row ∷ rows) = at (row.session == q) refl (rows_again q rows)
  where
    again : Entry → PipeRow
    again entry = record { session = q; entry = entry }

    same : (row.session == q) ≡ true → again row.entry ≡ row
    same is =
        let session : row.session ≡ q = grind (arith, nat_tests, is) in
        ap (λ (s : ℕ). made s row.entry) (sym session)
      where
        made : ℕ → Entry → PipeRow
        made s entry = record { session = s; entry = entry }

    at : (b : Bool) → (row.session == q) ≡ b → map again (entries_of q rows) ≡ in_session q rows
        → map again (map (λ (r : PipeRow). r.entry) (cond b (row ∷ in_session q rows) (in_session q rows))) ≡ cond b (row ∷ in_session q rows) (in_session q rows)
    at true is rest = ap₂ (λ (first : PipeRow) (more : List PipeRow). first ∷ more) (same is) rest
    at false is rest = rest
