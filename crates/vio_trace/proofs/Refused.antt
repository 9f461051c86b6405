-- What a text that begins with no line of a kind begins with: no row, and no list of rows.
use Rattle.std.proofs.Common.{◌≡◌, ◌<◌, ◌+◌, ℕ, List, [], ◌∷◌, ◌++◌, All, length, slice_index, take, sym, ap, ◌∙◌, add-one, append_assoc, arith}
use Rattle.std.specs.List.{flat_map}
use Rattle.std.proofs.Math.Seq.{take-suc}
use Rattle.std.proofs.lemmas.List.Elements.{All-head, All-tail}
use Rattle.vio_trace.specs.Reading.{IsLine, NoneBegins, NoneCounted, NoneIs, Without}
use Rattle.vio_trace.proofs.Parted.{not_parted, parts_cut}

-- a text up to its first end of a line is a line
pub first_line : (text : List ℕ) (at : ℕ) → at < length text → slice_index text at ≡ 10 → Without 10 (take at text)
    → IsLine (take (at + 1) text)
first_line text at within e w = record {
  word = take at text;
  whole = rw add-one (take-suc text at 0 within ∙ ap (λ (c : ℕ). take at text ++ c ∷ []) e);
  within = w;
}

-- a line with a text behind it, its end apart
ended : (line rest : List ℕ) → (is : IsLine line) → line ++ rest ≡ is.word ++ 10 ∷ rest
ended line rest is = ap (λ (l : List ℕ). l ++ rest) is.whole ∙ append_assoc is.word (10 ∷ []) rest

-- where no line ends, none begins
pub none_unended : {A : Type 0} → (text : A → List ℕ) (fits : A → Type 0) → ((a : A) → fits a → IsLine (text a))
    → (bytes : List ℕ) → Without 10 bytes → NoneBegins text fits bytes
none_unended text fits lines bytes w a rest h e =
    let is = lines a h in
    not_parted 10 is.word rest bytes w (sym (e ∙ ended (text a) rest is))

-- two lines with texts behind them are cut at one place
pub record SameLines (v w xs ys : List ℕ) : Type 0 where
  pub line : v ≡ w
  pub rest : xs ≡ ys

pub lines_cut : (v w xs ys : List ℕ) → IsLine v → IsLine w → v ++ xs ≡ w ++ ys → SameLines v w xs ys
lines_cut v w xs ys a b e =
    let same = parts_cut 10 a.word b.word xs ys a.within b.within (sym (ended v xs a) ∙ e ∙ ended w ys b) in
    record { line = a.whole ∙ ap (λ (l : List ℕ). l ++ 10 ∷ []) same.front ∙ sym b.whole; rest = same.back }

-- where the first line is of no row, none begins
pub none_of_line : {A : Type 0} → (text : A → List ℕ) (fits : A → Type 0) → ((a : A) → fits a → IsLine (text a))
    → (bytes line rest : List ℕ) → IsLine line → bytes ≡ line ++ rest → NoneIs text fits line → NoneBegins text fits bytes
none_of_line text fits lines bytes line rest is e none a more h f =
    none a h (lines_cut (text a) line more rest (lines a h) is (sym f ∙ e)).line

-- where none begins behind some rows, the text begins with no more of them
behind_rows : {A : Type 0} → (text : A → List ℕ) (fits : A → Type 0) → ((a : A) → fits a → IsLine (text a))
    → (rows others : List A) (xs ys : List ℕ) → All fits rows → All fits others → length rows < length others
    → flat_map text rows ++ xs ≡ flat_map text others ++ ys → ¬ (NoneBegins text fits xs)
behind_rows text fits lines [] [] xs ys p q n e none = absurd (omega (arith, n))
behind_rows text fits lines [] (o ∷ others) xs ys p q n e none =
    none o (flat_map text others ++ ys) (All-head fits o others q) (e ∙ append_assoc (text o) (flat_map text others) ys)
behind_rows text fits lines (r ∷ rows) [] xs ys p q n e none = absurd (omega (arith, n))
behind_rows text fits lines (r ∷ rows) (o ∷ others) xs ys p q n e none =
    let same = lines_cut (text r) (text o) (flat_map text rows ++ xs) (flat_map text others ++ ys)
    (lines r (All-head fits r rows p)) (lines o (All-head fits o others q))
    (sym (append_assoc (text r) (flat_map text rows) xs) ∙ e ∙ append_assoc (text o) (flat_map text others) ys) in
    behind_rows text fits lines rows others xs ys (All-tail fits r rows p) (All-tail fits o others q) (omega (arith, n)) same.rest none

-- where none begins behind fewer rows than there are to be, so many do not begin the text
pub none_counted : {A : Type 0} → (text : A → List ℕ) (fits : A → Type 0) → ((a : A) → fits a → IsLine (text a))
    → (rows : List A) (bytes rest : List ℕ) (count : ℕ) → All fits rows → length rows < count
    → bytes ≡ flat_map text rows ++ rest → NoneBegins text fits rest → NoneCounted text fits count bytes
none_counted text fits lines rows bytes rest count p n e none others more q same f =
    behind_rows text fits lines rows others rest more p q (omega (arith, n, same)) (sym e ∙ f) none
