-- The two clauses on the line of a bad text name one line.
use Rattle.std.proofs.Common.{◌≡◌, ◌<◌, ◌+◌, ◌-◌, ◌==◌, ℕ, zero, suc, Bool, true, false, List, [], ◌∷◌, ◌++◌, refl, ap, ◌∙◌, append_assoc, eqb-true, arith}
use Rattle.std.proofs.lemmas.Bool.{eqb-false}
use Rattle.vio_trace.specs.declared.read.TraceFault.TheVariants as trace_faults
use Rattle.vio_trace.specs.Begun.{BegunBefore}
use Rattle.vio_trace.specs.Shared.{NoneHasLines, line_ends}
use Rattle.vio_trace.proofs.Counted.{ends_append, ends_none, ends_one}

-- the bytes up to the end of the line of this number
record UpTo (line : ℕ) (bytes : List ℕ) : Type 0 where
  front : List ℕ
  rest : List ℕ
  bytes_are : bytes ≡ (front ++ 10 ∷ []) ++ rest
  lines : line_ends (front ++ 10 ∷ []) ≡ line

-- where more lines end, one of this number does
up_to : (line : ℕ) (bytes : List ℕ) → line < line_ends bytes → UpTo (line + 1) bytes
up_to line [] n = absurd (omega (arith, n))
up_to line (c ∷ cs) n = at (λ k m. up_to k cs m) (c == 10) refl line n where
  at : ((k : ℕ) → k < line_ends cs → UpTo (k + 1) cs) → (b : Bool) → (c == 10) ≡ b → (k : ℕ) → k < line_ends (c ∷ cs) → UpTo (k + 1) (c ∷ cs)
  at more true e zero m = record { front = []; rest = cs; bytes_are = ap (λ (z : ℕ). z ∷ cs) (eqb-true c 10 e); lines = refl }
  at more true e (suc k) m =
      let one = ends_one c (eqb-true c 10 e) in
      let u = more k (omega (arith, m, ends_append (c ∷ []) cs, one)) in
      record {
        front = c ∷ u.front;
        rest = u.rest;
        bytes_are = ap (λ (l : List ℕ). c ∷ l) u.bytes_are;
        lines = omega (arith, ends_append (c ∷ []) (u.front ++ 10 ∷ []), one, u.lines);
      }
  at more false e k m =
      let none = ends_none c (eqb-false c 10 e) in
      let u = more k (omega (arith, m, ends_append (c ∷ []) cs, none)) in
      record {
        front = c ∷ u.front;
        rest = u.rest;
        bytes_are = ap (λ (l : List ℕ). c ∷ l) u.bytes_are;
        lines = omega (arith, ends_append (c ∷ []) (u.front ++ 10 ∷ []), none, u.lines);
      }

-- no line behind it is one before which a trace's text begins
none_later : (bytes : List ℕ) (m n : ℕ) → NoneHasLines bytes (trace_faults.Bad m) → BegunBefore bytes (trace_faults.Bad m)
    → BegunBefore bytes (trace_faults.Bad n) → ¬ (m < n)
none_later bytes m n none a b less =
    let u = up_to (m - 1) b.front (omega (arith, less, a.lines, b.lines)) in
    none b.trace (b.front ++ b.more) (record {
      front = u.front;
      rest = u.rest ++ b.rest;
      theirs = u.rest ++ b.more;
      bytes_are = b.bytes_are ∙ ap (λ (l : List ℕ). l ++ b.rest) u.bytes_are ∙ append_assoc (u.front ++ 10 ∷ []) u.rest b.rest;
      other_is = ap (λ (l : List ℕ). l ++ b.more) u.bytes_are ∙ append_assoc (u.front ++ 10 ∷ []) u.rest b.more;
      lines = omega (arith, u.lines, a.lines);
    }) b.text_is

-- One line alone is so: no trace's text has the lines up to it, and some trace's begins with those before it.
pub bad_line_of_one : (bytes : List ℕ) (m n : ℕ) → NoneHasLines bytes (trace_faults.Bad m) → BegunBefore bytes (trace_faults.Bad m)
    → NoneHasLines bytes (trace_faults.Bad n) → BegunBefore bytes (trace_faults.Bad n) → m ≡ n
bad_line_of_one bytes m n none_m a none_n b = omega (arith, none_later bytes m n none_m a b, none_later bytes n m none_n b a)
