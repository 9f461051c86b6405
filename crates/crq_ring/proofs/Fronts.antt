-- Fronts of lists, and of the rows of one session.
use Rattle.std.proofs.Common.{◌≡◌, ℕ, ◌+◌, ◌<◌, ◌≤◌, ◌⊎◌, inl, inr, List, [], ◌∷◌, ◌++◌, length, sym, ap, ◌∙◌, arith, lt_of_not-le, take, drop, take-append-drop}
use Rattle.std.proofs.Math.Seq.{get_or-append_seam, take-append_seam}
use Rattle.std.proofs.lemmas.List.{length-append, take-append-le}
use mathlib.Core.List.{append_assoc, append-nil}
use native.Mathlib.Decide.{dec_le}
use Rattle.vio_num.specs.declared.entry.Entry.{Entry}
use Rattle.crq_ring.specs.declared.rows.PipeRow.{PipeRow}
use Rattle.vio_num.specs.Words.{Begins}
use Rattle.crq_ring.specs.Sessions.{of_session}
use Rattle.crq_ring.specs.Window.{entry_of, entry_at}
use Rattle.crq_ring.proofs.Sessions.{of_session-append}

abbrev pub blank : Entry
blank = entry_of 0 0

module _ {A : Type 0} where
  pub begins_self : (xs : List A) → Begins xs xs
  begins_self xs = ([], sym (append-nil xs))

  pub begins_on : (xs ys zs : List A) → Begins xs ys → Begins ys zs → Begins xs zs
  begins_on xs ys zs a b = (a.0 ++ b.0, b.1 ∙ (ap (λ l. l ++ b.0) a.1 ∙ append_assoc xs a.0 b.0))

  pub begins_less : (xs ys : List A) → Begins xs ys → length xs ≤ length ys
  begins_less xs ys b = let e : length ys ≡ length xs + length b.0 = ap length b.1 ∙ length-append xs b.0 in omega arith

  -- a front that is no shorter is the whole
  pub begins_all : (xs ys : List A) → Begins xs ys → length ys ≤ length xs → ys ≡ xs
  begins_all xs ys ([], e) l = e ∙ append-nil xs
  begins_all xs ys (z ∷ zs, e) l = let long : length ys ≡ length xs + length (z ∷ zs) = ap length e ∙ length-append xs (z ∷ zs) in absurd (omega arith)

  pub begins_both : (xs ys : List A) → Begins xs ys → Begins ys xs → xs ≡ ys
  begins_both xs ys a b = sym (begins_all xs ys a (begins_less ys xs b))

  -- two fronts of one list: the shorter is a front of the longer
  begins_short : (xs ys zs : List A) → Begins xs zs → Begins ys zs → length xs ≤ length ys → Begins xs ys
  begins_short xs ys zs a b l = let n : ℕ = length xs in let same : xs ≡ take n ys = sym (take-append_seam xs a.0) ∙ (ap (take n) (sym a.1 ∙ b.1) ∙ take-append-le n ys b.0 l) in
      (drop n ys, sym (ap (λ front. front ++ drop n ys) same ∙ take-append-drop n ys))

  pub begins_either : (xs ys zs : List A) → Begins xs zs → Begins ys zs → Begins xs ys ⊎ Begins ys xs
  begins_either xs ys zs a b = elim (dec_le (length xs) (length ys)) [
    | yes l ↦ inl (begins_short xs ys zs a b l)
    | no not ↦ inr (begins_short ys xs zs b a (let more : length ys < length xs = lt_of_not-le not in omega arith))
  ]

-- a front with the next entry is a front too
pub begins_more : (xs ys : List Entry) (rest : List Entry) → ys ≡ xs ++ rest → length xs < length ys → Begins (xs ++ entry_at ys (length xs) ∷ []) ys
begins_more xs ys [] e l = let same : length ys ≡ length xs + 0 = ap length e ∙ length-append xs [] in absurd (omega arith)
begins_more xs ys (z ∷ zs) e l = let there : entry_at ys (length xs) ≡ z = ap (λ l. entry_at l (length xs)) e ∙ get_or-append_seam xs z zs blank in
    (zs, e ∙ (sym (append_assoc xs (z ∷ []) zs) ∙ ap (λ (y : Entry). (xs ++ y ∷ []) ++ zs) (sym there)))

-- a front of the rows is one in each session
pub begins_of : (q : ℕ) (xs ys : List PipeRow) → Begins xs ys → Begins (of_session q xs) (of_session q ys)
begins_of q xs ys b = (of_session q b.0, ap (of_session q) b.1 ∙ of_session-append q xs b.0)
