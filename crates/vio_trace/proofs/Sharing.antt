-- Texts that have a line in common: what they have behind a front, and their first lines.
use Rattle.std.proofs.Common.{◌≡◌, ◌<◌, ◌≤◌, ◌==◌, ℕ, Bool, true, false, List, [], ◌∷◌, ◌++◌, All, length, refl, sym, ap, subst, ◌∙◌, append_assoc, length-append, eqb-true, arith}
use Rattle.std.proofs.lemmas.Bool.{eqb-false}
use Rattle.std.specs.List.{flat_map}
use Rattle.vio_trace.specs.Reading.{IsLine, NoneBegins, NoneCounted, NoneIs, WhereBad, Without}
use Rattle.vio_trace.specs.declared.unread.Fault.{Fault}
use Rattle.vio_trace.specs.declared.unread.Fault.TheVariants as faults
use Rattle.vio_trace.specs.Shared.{NoneShares, SameFirst, SharesLine, WhereBadAt}
use Rattle.vio_trace.proofs.Cuts.{heads, tails}
use Rattle.vio_trace.proofs.Parted.{not_parted}
use Rattle.vio_trace.proofs.Refused.{lines_cut, none_counted, none_of_line}

-- a text that is parted twice, the second part being the shorter one the second time
pub record Twice (a front xs r : List ℕ) : Type 0 where
  pub more : List ℕ
  pub front_is : front ≡ a ++ more
  pub back_is : r ≡ more ++ xs

pub twice : (a front xs r : List ℕ) → front ++ xs ≡ a ++ r → length xs ≤ length r → Twice a front xs r
twice [] front xs r e n = record { more = front; front_is = refl; back_is = sym e }
twice (c ∷ a) [] xs r e n =
    absurd (omega (arith, n, ap (λ (l : List ℕ). length l) e, length-append a r))
twice (c ∷ a) (d ∷ front) xs r e n =
    let t = twice a front xs r (tails d c (front ++ xs) (a ++ r) e) n in
    record {
      more = t.more;
      front_is = ap (λ (l : List ℕ). d ∷ l) t.front_is ∙ ap (λ (z : ℕ). (z ∷ a) ++ t.more) (heads d c (front ++ xs) (a ++ r) e);
      back_is = t.back_is;
    }

-- behind a front that stands before the bad line, both have the same lines
pub record SharesBehind (left : ℕ) (a r other : List ℕ) : Type 0 where
  pub rest : List ℕ
  pub other_is : other ≡ a ++ rest
  pub shares : SharesLine left r rest

pub shares_behind : (left : ℕ) (bytes other a r : List ℕ) → SharesLine left bytes other → bytes ≡ a ++ r → left ≤ length r
    → SharesBehind left a r other
shares_behind left bytes other a r s e n =
    let t = twice a (s.front ++ 10 ∷ []) s.rest r (sym s.bytes_are ∙ e) (omega (arith, n, s.past)) in
    let some : 1 ≤ length t.more = omega (arith, n, s.past, ap (λ (l : List ℕ). length l) t.back_is, length-append t.more s.rest) in
    let u = twice a s.front (10 ∷ []) t.more t.front_is some in
    record {
      rest = t.more ++ s.theirs;
      other_is = s.other_is ∙ ap (λ (l : List ℕ). l ++ s.theirs) t.front_is ∙ append_assoc a t.more s.theirs;
      shares = record {
        front = u.more;
        rest = s.rest;
        theirs = s.theirs;
        bytes_are = t.back_is ∙ ap (λ (l : List ℕ). l ++ s.rest) u.back_is;
        other_is = ap (λ (l : List ℕ). l ++ s.theirs) u.back_is;
        past = s.past;
      };
    }

-- the first line of bytes that have one
record HasFirst (front : List ℕ) : Type 0 where
  first : List ℕ
  more : List ℕ
  is : IsLine first
  are : front ++ 10 ∷ [] ≡ first ++ more

has_first : (front : List ℕ) → HasFirst front
has_first [] = record { first = 10 ∷ []; more = []; is = record { word = []; whole = refl; within = tt }; are = refl }
has_first (c ∷ front) = at (has_first front) (c == 10) refl where
  at : HasFirst front → (b : Bool) → (c == 10) ≡ b → HasFirst (c ∷ front)
  at h true e = record {
    first = c ∷ [];
    more = front ++ 10 ∷ [];
    is = record { word = []; whole = ap (λ (z : ℕ). z ∷ []) (eqb-true c 10 e); within = tt };
    are = refl;
  }
  at h false e = record {
    first = c ∷ h.first;
    more = h.more;
    is = record { word = c ∷ h.is.word; whole = ap (λ (l : List ℕ). c ∷ l) h.is.whole; within = (eqb-false c 10 e, h.is.within) };
    are = ap (λ (l : List ℕ). c ∷ l) h.are;
  }

-- those that share a line begin with the same one
pub same_first : (left : ℕ) (bytes other : List ℕ) → SharesLine left bytes other → SameFirst bytes other
same_first left bytes other s =
    let h = has_first s.front in
    record {
      first = h.first;
      rest = h.more ++ s.rest;
      theirs = h.more ++ s.theirs;
      is = h.is;
      bytes_are = s.bytes_are ∙ ap (λ (l : List ℕ). l ++ s.rest) h.are ∙ append_assoc h.first h.more s.rest;
      other_is = s.other_is ∙ ap (λ (l : List ℕ). l ++ s.theirs) h.are ∙ append_assoc h.first h.more s.theirs;
    }

-- those that begin with the same line share it
pub first_shared : (bytes other : List ℕ) → SameFirst bytes other → SharesLine (length bytes) bytes other
first_shared bytes other s = record {
  front = s.is.word;
  rest = s.rest;
  theirs = s.theirs;
  bytes_are = s.bytes_are ∙ ap (λ (l : List ℕ). l ++ s.rest) s.is.whole;
  other_is = s.other_is ∙ ap (λ (l : List ℕ). l ++ s.theirs) s.is.whole;
  past = omega (arith, ap (λ (l : List ℕ). length l) s.bytes_are, length-append s.first s.rest, ap (λ (l : List ℕ). length l) s.is.whole, length-append s.is.word (10 ∷ []));
}

-- texts that begin with the same line do so with the same front before them
pub first_behind : (front xs ys : List ℕ) → SameFirst xs ys → SameFirst (front ++ xs) (front ++ ys)
first_behind front xs ys s =
    let h = has_first (front ++ s.is.word) in
    let whole : front ++ s.first ≡ (front ++ s.is.word) ++ 10 ∷ [] = ap (λ (l : List ℕ). front ++ l) s.is.whole ∙ sym (append_assoc front s.is.word (10 ∷ [])) in
    record {
      first = h.first;
      rest = h.more ++ s.rest;
      theirs = h.more ++ s.theirs;
      is = h.is;
      bytes_are = ap (λ (l : List ℕ). front ++ l) s.bytes_are ∙ sym (append_assoc front s.first s.rest)
          ∙ ap (λ (l : List ℕ). l ++ s.rest) (whole ∙ h.are) ∙ append_assoc h.first h.more s.rest;
      other_is = ap (λ (l : List ℕ). front ++ l) s.other_is ∙ sym (append_assoc front s.first s.theirs)
          ∙ ap (λ (l : List ℕ). l ++ s.theirs) (whole ∙ h.are) ∙ append_assoc h.first h.more s.theirs;
    }

-- bytes whose first line is of no row
pub line_bad : {A : Type 0} → (text : A → List ℕ) (fits : A → Type 0) → ((a : A) → fits a → IsLine (text a))
    → (bytes line rest : List ℕ) → IsLine line → bytes ≡ line ++ rest → NoneIs text fits line
    → NoneShares (NoneBegins text fits) bytes (length bytes)
line_bad text fits lines bytes line rest is e none = (
  omega arith,
  λ other shares.
      let s = same_first (length bytes) bytes other shares in
      let same = lines_cut s.first line s.rest rest s.is is (sym s.bytes_are ∙ e) in
      none_of_line text fits lines other line s.theirs is (s.other_is ∙ ap (λ (l : List ℕ). l ++ s.theirs) same.line) none,
)

-- bytes in which no line ends share none
pub unended_bad : {A : Type 0} → (text : A → List ℕ) (fits : A → Type 0) → (bytes : List ℕ) → Without 10 bytes
    → NoneShares (NoneBegins text fits) bytes (length bytes)
unended_bad text fits bytes w = (
  omega arith,
  λ other shares. absurd (not_parted 10 shares.front shares.rest bytes w
      (sym (shares.bytes_are ∙ append_assoc shares.front (10 ∷ []) shares.rest))),
)

-- bytes behind some rows of which the next is bad
pub counted_bad : {A : Type 0} → (text : A → List ℕ) (fits : A → Type 0) → ((a : A) → fits a → IsLine (text a))
    → (rows : List A) (bytes rest : List ℕ) (count left : ℕ) → All fits rows → length rows < count
    → bytes ≡ flat_map text rows ++ rest → NoneShares (NoneBegins text fits) rest left
    → NoneShares (NoneCounted text fits count) bytes left
counted_bad text fits lines rows bytes rest count left p n e bad = (
  omega (arith, bad.0, ap (λ (l : List ℕ). length l) e, length-append (flat_map text rows) rest),
  λ other shares.
      let s = shares_behind left bytes other (flat_map text rows) rest shares e bad.0 in
      none_counted text fits lines rows other s.rest count p n s.other_is (bad.1 s.rest s.shares),
)

-- what a bad line of a part shows, one of the whole does
pub where_bad_at : (fault : Fault) (P Q : ℕ → Type 0) → ((left : ℕ) → P left → Q left) → WhereBadAt fault P → WhereBadAt fault Q
where_bad_at (faults.Bad left) P Q f h = f left h
where_bad_at faults.NoMemory P Q f h = tt

-- what is bad behind a front is bad in the whole
pub part_bad : (P Q : List ℕ → Type 0) (a r bytes : List ℕ) (left : ℕ) → bytes ≡ a ++ r → ((rest : List ℕ) → P rest → Q (a ++ rest))
    → NoneShares P r left → NoneShares Q bytes left
part_bad P Q a r bytes left e f bad = (
  omega (arith, bad.0, ap (λ (l : List ℕ). length l) e, length-append a r),
  λ other shares.
      let s = shares_behind left bytes other a r shares e bad.0 in
      subst Q (sym s.other_is) (f s.rest (bad.1 s.rest s.shares)),
)

-- where no line is bad, whatever is so of it
pub where_bad_none : (fault : Fault) (Q : ℕ → Type 0) → WhereBad fault ⊥ → WhereBadAt fault Q
where_bad_none (faults.Bad left) Q bad = absurd bad
where_bad_none faults.NoMemory Q bad = tt
