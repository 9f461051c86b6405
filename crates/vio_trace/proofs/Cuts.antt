-- Texts whose front can be cut off in one way alone: a word before its separator, a line, a row, a list of rows.
use Rattle.std.proofs.Common.{◌≡◌, ◌<◌, ◌≤◌, ℕ, List, [], ◌∷◌, ◌++◌, All, length, slice_index, codes, refl, sym, ap, ◌∙◌, drop, append_assoc, arith}
use Rattle.std.specs.List.{flat_map}
use Rattle.std.proofs.lemmas.List.Elements.{All-head, All-tail}
use Rattle.vio_trace.specs.Text.{line}

-- each byte of a word is above k
abbrev pub Above : ℕ → List ℕ → Type 0
Above k [] = Unit {0}
Above k (c ∷ cs) = (k < c) × Above k cs

-- each word of a line is above the space
abbrev pub ArePlain : List (List ℕ) → Type 0
ArePlain [] = Unit {0}
ArePlain (word ∷ words) = Above 32 word × ArePlain words

pub above_less : (k m : ℕ) (w : List ℕ) → k ≤ m → Above m w → Above k w
above_less k m [] h a = tt
above_less k m (c ∷ w) h a = (omega (arith, a.0), above_less k m w h a.1)

pub above_append : (k : ℕ) (v w : List ℕ) → Above k v → Above k w → Above k (v ++ w)
above_append k [] w a b = b
above_append k (c ∷ v) w a b = (a.0, above_append k v w a.1 b)

-- the first of two lists' elements are equal, and what follows
pub heads : (a b : ℕ) (xs ys : List ℕ) → a ∷ xs ≡ b ∷ ys → a ≡ b
heads a b xs ys e = ap (λ (l : List ℕ). slice_index l 0) e

pub tails : (a b : ℕ) (xs ys : List ℕ) → a ∷ xs ≡ b ∷ ys → xs ≡ ys
tails a b xs ys e = ap (λ (l : List ℕ). drop 1 l) e

-- what two cuts of one text have in common
pub record SameWord (v w : List ℕ) (c d : ℕ) (xs ys : List ℕ) : Type 0 where
  pub word : v ≡ w
  pub separator : c ≡ d
  pub rest : xs ≡ ys

-- a word ends at the first byte that is at most k
pub word_cut : (k : ℕ) (v w : List ℕ) (c d : ℕ) (xs ys : List ℕ)
    → Above k v → Above k w → c ≤ k → d ≤ k → v ++ c ∷ xs ≡ w ++ d ∷ ys → SameWord v w c d xs ys
word_cut k [] [] c d xs ys a b h j e = record { word = refl; separator = heads c d xs ys e; rest = tails c d xs ys e }
word_cut k [] (x ∷ w) c d xs ys a b h j e = absurd (omega (arith, heads c x xs (w ++ d ∷ ys) e, b.0))
word_cut k (x ∷ v) [] c d xs ys a b h j e = absurd (omega (arith, heads x d (v ++ c ∷ xs) ys e, a.0))
word_cut k (x ∷ v) (y ∷ w) c d xs ys a b h j e =
    let first = heads x y (v ++ c ∷ xs) (w ++ d ∷ ys) e in
    let more = word_cut k v w c d xs ys a.1 b.1 h j (tails x y (v ++ c ∷ xs) (w ++ d ∷ ys) e) in
    record {
      word = ap (λ (z : ℕ). z ∷ v) first ∙ ap (λ (l : List ℕ). y ∷ l) more.word;
      separator = more.separator;
      rest = more.rest;
    }

-- a line of one word, and of more
one : (v xs : List ℕ) → line (v ∷ []) ++ xs ≡ v ++ 10 ∷ xs
one v xs = append_assoc v (codes "\n") xs

more : (v n : List ℕ) (vs : List (List ℕ)) (xs : List ℕ) → line (v ∷ n ∷ vs) ++ xs ≡ v ++ 32 ∷ (line (n ∷ vs) ++ xs)
more v n vs xs = append_assoc (v ++ codes " ") (line (n ∷ vs)) xs ∙ append_assoc v (codes " ") (line (n ∷ vs) ++ xs)

pub record SameLine (v : List ℕ) (vs : List (List ℕ)) (w : List ℕ) (ws : List (List ℕ)) (xs ys : List ℕ) : Type 0 where
  pub first : v ≡ w
  pub words : vs ≡ ws
  pub rest : xs ≡ ys

-- a line ends at its end, and its words at its spaces
pub line_cut : (v : List ℕ) (vs : List (List ℕ)) (w : List ℕ) (ws : List (List ℕ)) (xs ys : List ℕ)
    → ArePlain (v ∷ vs) → ArePlain (w ∷ ws) → line (v ∷ vs) ++ xs ≡ line (w ∷ ws) ++ ys → SameLine v vs w ws xs ys
line_cut v [] w [] xs ys a b e =
    let s = word_cut 32 v w 10 10 xs ys a.0 b.0 (omega arith) (omega arith) (sym (one v xs) ∙ e ∙ one w ys) in
    record { first = s.word; words = refl; rest = s.rest }
line_cut v [] w (n ∷ ws) xs ys a b e =
    let s = word_cut 32 v w 10 32 xs (line (n ∷ ws) ++ ys) a.0 b.0 (omega arith) (omega arith) (sym (one v xs) ∙ e ∙ more w n ws ys) in
    absurd (omega (arith, s.separator))
line_cut v (m ∷ vs) w [] xs ys a b e =
    let s = word_cut 32 v w 32 10 (line (m ∷ vs) ++ xs) ys a.0 b.0 (omega arith) (omega arith) (sym (more v m vs xs) ∙ e ∙ one w ys) in
    absurd (omega (arith, s.separator))
line_cut v (m ∷ vs) w (n ∷ ws) xs ys a b e =
    let s = word_cut 32 v w 32 32 (line (m ∷ vs) ++ xs) (line (n ∷ ws) ++ ys) a.0 b.0 (omega arith) (omega arith) (sym (more v m vs xs) ∙ e ∙ more w n ws ys) in
    let t = line_cut m vs n ws xs ys a.1 b.1 s.rest in
    record {
      first = s.word;
      words = ap (λ (l : List ℕ). l ∷ vs) t.first ∙ ap (λ (ls : List (List ℕ)). n ∷ ls) t.words;
      rest = t.rest;
    }

-- a row and what follows it
pub record Same {A : Type 0} (a b : A) (xs ys : List ℕ) : Type 0 where
  pub row : a ≡ b
  pub rest : xs ≡ ys

-- the text of a row can be cut off the front in one way alone
abbrev pub IsCut : {A : Type 0} → (A → List ℕ) → (A → Type 0) → Type 0
IsCut {A} text P = (a b : A) (xs ys : List ℕ) → P a → P b → text a ++ xs ≡ text b ++ ys → Same a b xs ys

-- a row is a line of words, which tell it
pub line_row : {A : Type 0} (first : A → List ℕ) (words : A → List (List ℕ)) (P : A → Type 0)
    → ((a : A) → P a → ArePlain (first a ∷ words a))
    → ((a b : A) → P a → P b → first a ≡ first b → words a ≡ words b → a ≡ b)
    → IsCut (λ a. line (first a ∷ words a)) P
line_row first words P plain told a b xs ys p q e =
    let s = line_cut (first a) (words a) (first b) (words b) xs ys (plain a p) (plain b q) e in
    record { row = told a b p q s.first s.words; rest = s.rest }

-- as many rows can be cut off in one way alone
pub counted_cut : {A : Type 0} (text : A → List ℕ) (P : A → Type 0) → IsCut text P
    → (rows others : List A) (xs ys : List ℕ) → All P rows → All P others → length rows ≡ length others
    → flat_map text rows ++ xs ≡ flat_map text others ++ ys → Same rows others xs ys
counted_cut text P cut [] [] xs ys p q n e = record { row = refl; rest = e }
counted_cut text P cut [] (b ∷ others) xs ys p q n e = absurd (omega (arith, n))
counted_cut text P cut (a ∷ rows) [] xs ys p q n e = absurd (omega (arith, n))
counted_cut {A} text P cut (a ∷ rows) (b ∷ others) xs ys p q n e =
    let whole = sym (append_assoc (text a) (flat_map text rows) xs) ∙ e ∙ append_assoc (text b) (flat_map text others) ys in
    let s = cut a b (flat_map text rows ++ xs) (flat_map text others ++ ys) (All-head P a rows p) (All-head P b others q) whole in
    let t = counted_cut text P cut rows others xs ys (All-tail P a rows p) (All-tail P b others q) (omega (arith, n)) s.rest in
    record { row = ap (λ (z : A). z ∷ rows) s.row ∙ ap (λ (l : List A). b ∷ l) t.row; rest = t.rest }

-- the text of a row can be cut off the front in one way alone, where what follows is of this kind or a later one
abbrev pub IsCutBefore : {A : Type 0} → (A → List ℕ) → (A → Type 0) → (List ℕ → ℕ) → ℕ → Type 0
IsCutBefore {A} text P kind k = (a b : A) (xs ys : List ℕ) → P a → P b → k ≤ kind xs → k ≤ kind ys → text a ++ xs ≡ text b ++ ys → Same a b xs ys

-- a list of rows of a kind, and what follows it, is of this kind or a later one
kind_from : {A : Type 0} (text : A → List ℕ) (kind : List ℕ → ℕ) (k : ℕ)
    → ((a : A) (xs : List ℕ) → kind (text a ++ xs) ≡ k)
    → (rows : List A) (xs : List ℕ) → k < kind xs → k ≤ kind (flat_map text rows ++ xs)
kind_from text kind k is [] xs n = omega (arith, n)
kind_from text kind k is (a ∷ rows) xs n =
    omega (arith, ap kind (append_assoc (text a) (flat_map text rows) xs), is a (flat_map text rows ++ xs))

-- all rows of a kind can be cut off in one way alone, where what follows is of a later kind
pub kind_cut_before : {A : Type 0} (text : A → List ℕ) (P : A → Type 0) (kind : List ℕ → ℕ) (k : ℕ) → IsCutBefore text P kind k
    → ((a : A) (xs : List ℕ) → kind (text a ++ xs) ≡ k)
    → (rows others : List A) (xs ys : List ℕ) → All P rows → All P others → k < kind xs → k < kind ys
    → flat_map text rows ++ xs ≡ flat_map text others ++ ys → Same rows others xs ys
kind_cut_before text P kind k cut is [] [] xs ys p q n m e = record { row = refl; rest = e }
kind_cut_before text P kind k cut is [] (b ∷ others) xs ys p q n m e =
    absurd (omega (arith, ap kind (e ∙ append_assoc (text b) (flat_map text others) ys), is b (flat_map text others ++ ys), n))
kind_cut_before text P kind k cut is (a ∷ rows) [] xs ys p q n m e =
    absurd (omega (arith, ap kind (sym (append_assoc (text a) (flat_map text rows) xs) ∙ e), is a (flat_map text rows ++ xs), m))
kind_cut_before {A} text P kind k cut is (a ∷ rows) (b ∷ others) xs ys p q n m e =
    let whole = sym (append_assoc (text a) (flat_map text rows) xs) ∙ e ∙ append_assoc (text b) (flat_map text others) ys in
    let s = cut a b (flat_map text rows ++ xs) (flat_map text others ++ ys) (All-head P a rows p) (All-head P b others q)
    (kind_from text kind k is rows xs n) (kind_from text kind k is others ys m) whole in
    let t = kind_cut_before text P kind k cut is rows others xs ys (All-tail P a rows p) (All-tail P b others q) n m s.rest in
    record { row = ap (λ (z : A). z ∷ rows) s.row ∙ ap (λ (l : List A). b ∷ l) t.row; rest = t.rest }

-- the same, where each row can be cut off whatever follows
pub kind_cut : {A : Type 0} (text : A → List ℕ) (P : A → Type 0) (kind : List ℕ → ℕ) (k : ℕ) → IsCut text P
    → ((a : A) (xs : List ℕ) → kind (text a ++ xs) ≡ k)
    → (rows others : List A) (xs ys : List ℕ) → All P rows → All P others → k < kind xs → k < kind ys
    → flat_map text rows ++ xs ≡ flat_map text others ++ ys → Same rows others xs ys
kind_cut text P kind k cut is = kind_cut_before text P kind k (λ a b xs ys p q n m e. cut a b xs ys p q e) is

-- a list of rows of a later kind, and what follows it, is of a later kind
pub kind_after : {A : Type 0} (text : A → List ℕ) (kind : List ℕ → ℕ) (j k : ℕ) → j < k
    → ((a : A) (xs : List ℕ) → kind (text a ++ xs) ≡ k)
    → (rows : List A) (xs : List ℕ) → j < kind xs → j < kind (flat_map text rows ++ xs)
kind_after text kind j k h is [] xs n = n
kind_after text kind j k h is (a ∷ rows) xs n =
    omega (arith, ap kind (append_assoc (text a) (flat_map text rows) xs), is a (flat_map text rows ++ xs))
