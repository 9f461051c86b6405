-- What a row that is put or taken changes: the entries of its own session alone.
use Rattle.std.proofs.Common.{◌≡◌, ℕ, ◌+◌, ◌<◌, ◌≤◌, ◌==◌, List, [], ◌∷◌, ◌++◌, length, map, filter, take, drop, Some, slice_get, refl, sym, ◌∙◌, ap, subst, ⊎_elim, arith, append-nil, length-append, length-drop, length-take, take-append-drop, drop_of_length-le, le_trans, le_refl, All, zero, suc}
use Rattle.std.proofs.lemmas.Bool.{eq-eqb, ne_eqb}
use Rattle.std.proofs.lemmas.Bool.Decides.{eqb_tells}
use Rattle.std.proofs.lemmas.List.{map-append, take-append-le, drop-append-le, take_more}
use Rattle.std.proofs.lemmas.List.Elements.{filter-append, All-append}
use Rattle.std.proofs.lemmas.List.Quantifiers.{all_pairs_push}
use Rattle.std.proofs.lemmas.Option.{slice_get_within, get_or_from_slice_get}
use Rattle.vio_num.specs.declared.entry.Entry.{Entry}
use Rattle.vio_num.specs.Queue.{Handed}
use Rattle.crq_ring.specs.declared.rows.PipeRow.{PipeRow}
use Rattle.crq_ring.specs.Sessions.{of_session, AreRising}
use Rattle.crq_ring.specs.Kept.{Present, HandsOver}

entry_of : PipeRow → Entry
entry_of row = row.entry

by_session : (a b : ℕ) (P : Type 0) → (a ≡ b → P) → ((a ≡ b → ⊥) → P) → P
by_session a b P f g = ⊎_elim (λ same. f same.1) (λ other. g other.1) (eqb_tells a b)

-- the entries of a session over two lists
pub of_session-append : (q : ℕ) (xs ys : List PipeRow) → of_session q (xs ++ ys) ≡ of_session q xs ++ of_session q ys
unfolding of_session
of_session-append q xs ys =
    ap (map (λ row. row.entry)) (filter-append (λ row. row.session == q) xs ys)
    ∙ map-append (λ row. row.entry) (filter (λ row. row.session == q) xs) (filter (λ row. row.session == q) ys)

pub of_session-nil : (q : ℕ) → of_session q [] ≡ []
unfolding of_session
of_session-nil q = refl

-- one row is of its own session
pub of_session-own : (row : PipeRow) → of_session row.session (row ∷ []) ≡ row.entry ∷ []
unfolding of_session
of_session-own row = rw (eq-eqb row.session row.session refl) refl

-- and of no other
pub of_session-other : (q : ℕ) (row : PipeRow) → (row.session ≡ q → ⊥) → of_session q (row ∷ []) ≡ []
unfolding of_session
of_session-other q row h = rw (ne_eqb row.session q h) refl

pub of_session-push : (row : PipeRow) (rows : List PipeRow) → of_session row.session (rows ++ row ∷ []) ≡ of_session row.session rows ++ row.entry ∷ []
of_session-push row rows =
    of_session-append row.session rows (row ∷ []) ∙ ap (λ xs. of_session row.session rows ++ xs) (of_session-own row)

pub of_session-pass : (q : ℕ) (row : PipeRow) (rows : List PipeRow) → (row.session ≡ q → ⊥) → of_session q (rows ++ row ∷ []) ≡ of_session q rows
of_session-pass q row rows h =
    of_session-append q rows (row ∷ []) ∙ ap (λ xs. of_session q rows ++ xs) (of_session-other q row h) ∙ append-nil (of_session q rows)

-- a row of the last session may stand at the end
AreRising-push : (session : ℕ) (rows : List PipeRow) (row : PipeRow) → row.session ≡ session → AreRising session rows → AreRising session (rows ++ row ∷ [])
AreRising-push session rows row e r = record {
  in_order = all_pairs_push (λ a b. a.session ≤ b.session) rows row r.in_order (λ k d lt. rw e (r.none_later k d lt));
  none_later = All-append (λ x. x.session ≤ session) rows (row ∷ []) r.none_later (only row session e);
}
  where
    only : (row : PipeRow) (session : ℕ) → row.session ≡ session → All (λ x. x.session ≤ session) (row ∷ [])
    only row session e zero d lt = omega (arith, e)
    only row session e (suc k) d lt = absurd (omega (arith, lt))

AreRising-later : (session : ℕ) (rows : List PipeRow) → AreRising session rows → AreRising (session + 1) rows
AreRising-later session rows r = record {
  in_order = r.in_order;
  none_later = λ k d lt. omega (arith, r.none_later k d lt);
}

-- the rows of the present session after a push
pub Present-push : (session from : ℕ) (rows : List PipeRow) (row : PipeRow) → row.session ≡ session
    → Present session from rows → Present session from (rows ++ row ∷ [])
Present-push session from rows row e p = record {
  within = rw (length-append rows (row ∷ [])) (omega (arith, p.within));
  entries =
      subst (λ q. of_session q (rows ++ row ∷ []) ≡ map (λ r. r.entry) (drop from (rows ++ row ∷ []))) e (
      of_session-push row rows
      ∙ ap (λ xs. xs ++ row.entry ∷ []) (ap (λ q. of_session q rows) e ∙ p.entries)
      ∙ sym (map-append (λ r. r.entry) (drop from rows) (row ∷ []))
      ∙ ap (map (λ r. r.entry)) (sym (drop-append-le from rows (row ∷ []) p.within)));
  none_later = λ q h. of_session-pass q row rows (λ f. absurd (search (arith, e, f, h))) ∙ p.none_later q h;
  rising = AreRising-push session rows row e p.rising;
}

-- a session that has not begun has no rows
pub Present-renew : (session from : ℕ) (rows : List PipeRow)
    → Present session from rows → Present (session + 1) (length rows) rows
Present-renew session from rows p = record {
  within = omega arith;
  entries = p.none_later (session + 1) (omega arith) ∙ ap (map (λ r. r.entry)) (sym (drop_of_length-le rows (le_refl (length rows))));
  none_later = λ q h. p.none_later q (omega (arith, h));
  rising = AreRising-later session rows p.rising;
}

-- the same of any later session
pub Present-later : (session q from : ℕ) (rows : List PipeRow) → session < q → Present session from rows → Present q (length rows) rows
Present-later session q from rows later p = record {
  within = omega arith;
  entries = p.none_later q later ∙ ap (map (λ row. row.entry)) (sym (drop_of_length-le rows (le_refl (length rows))));
  none_later = λ k h. p.none_later k (omega (arith, h, later));
  rising = record { in_order = p.rising.in_order; none_later = λ k d lt. omega (arith, p.rising.none_later k d lt, later) };
}

-- no more is taken than was sent
pub taken_within : (sent taken : List PipeRow) (n q : ℕ) → HandsOver sent taken n
    → length (of_session q taken) ≤ length (of_session q sent)
taken_within sent taken n q h =
    let e : length (of_session q taken) ≡ length (take (length (of_session q taken)) (of_session q sent)) = ap length (h.in_order q) in
    omega (arith, e, length-take (length (of_session q taken)) (of_session q sent))

-- the queue law after a put that found an empty slot
pub HandsOver-put : (sent taken : List PipeRow) (n : ℕ) (row : PipeRow)
    → length (of_session row.session sent) < length (of_session row.session taken) + n
    → HandsOver sent taken n → HandsOver (sent ++ row ∷ []) taken n
HandsOver-put sent taken n row room h = record {
  in_order = λ q.
      h.in_order q ∙ sym (
      ap (take (length (of_session q taken))) (of_session-append q sent (row ∷ []))
      ∙ take-append-le (length (of_session q taken)) (of_session q sent) (of_session q (row ∷ [])) (taken_within sent taken n q h));
  within = λ q. by_session row.session q (length (of_session q (sent ++ row ∷ [])) ≤ length (of_session q taken) + n)
      (λ e.
      subst (λ k. length (of_session k (sent ++ row ∷ [])) ≤ length (of_session k taken) + n) e
      (rw (of_session-push row sent) (rw (length-append (of_session row.session sent) (row.entry ∷ [])) (omega (arith, room)))))
      (λ e. rw (of_session-pass q row sent e) (h.within q));
}

-- the queue law after a poll that found an entry
pub HandsOver-take : (sent taken : List PipeRow) (n : ℕ) (row : PipeRow)
    → slice_get (of_session row.session sent) (length (of_session row.session taken)) ≡ Some row.entry
    → HandsOver sent taken n → HandsOver sent (taken ++ row ∷ []) n
HandsOver-take sent taken n row found h = record {
  in_order = λ q. by_session row.session q (of_session q (taken ++ row ∷ []) ≡ take (length (of_session q (taken ++ row ∷ []))) (of_session q sent))
      (λ e.
      let s = row.session in
      let t = length (of_session s taken) in
      subst (λ k. of_session k (taken ++ row ∷ []) ≡ take (length (of_session k (taken ++ row ∷ []))) (of_session k sent)) e
      (let pushed : of_session s (taken ++ row ∷ []) ≡ of_session s taken ++ row.entry ∷ [] = of_session-push row taken in
      let longer : length (of_session s (taken ++ row ∷ [])) ≡ t + 1 = ap length pushed ∙ length-append (of_session s taken) (row.entry ∷ []) in
      let more : take (t + 1) (of_session s sent) ≡ take t (of_session s sent) ++ row.entry ∷ [] =
      take_more (of_session s sent) t row.entry (slice_get_within (of_session s sent) t row.entry found)
      ∙ ap (λ x. take t (of_session s sent) ++ x ∷ []) (get_or_from_slice_get (of_session s sent) t row.entry row.entry found) in
      pushed ∙ ap (λ xs. xs ++ row.entry ∷ []) (h.in_order s) ∙ sym more ∙ ap (λ k. take k (of_session s sent)) (sym longer)))
      (λ e.
      let passed : of_session q (taken ++ row ∷ []) ≡ of_session q taken = of_session-pass q row taken e in
      passed ∙ h.in_order q ∙ ap (λ xs. take (length xs) (of_session q sent)) (sym passed));
  within = λ q. le_trans (h.within q)
      (rw (ap length (of_session-append q taken (row ∷ []))) (rw (length-append (of_session q taken) (of_session q (row ∷ []))) (omega arith)));
}

-- the queue law as it is told
pub Handed-of : (sent taken : List PipeRow) (n q : ℕ) → HandsOver sent taken n → Handed (of_session q sent) (of_session q taken) n
Handed-of sent taken n q h =
    let t = length (of_session q taken) in
    record {
      rest = drop t (of_session q sent);
      in_order = sym (ap (λ xs. xs ++ drop t (of_session q sent)) (h.in_order q) ∙ take-append-drop t (of_session q sent));
      within = rw (length-drop t (of_session q sent)) (omega (arith, h.within q));
    }

pub Present-none : (session : ℕ) → Present session 0 []
unfolding of_session
Present-none session = record {
  within = omega arith;
  entries = refl;
  none_later = λ q h. refl;
  rising = record { in_order = λ i j d lt within. absurd (omega (arith, within)); none_later = λ k d lt. absurd (omega (arith, lt)) };
}

pub HandsOver-none : (n : ℕ) → HandsOver [] [] n
unfolding of_session
HandsOver-none n = record { in_order = λ q. refl; within = λ q. omega arith }
