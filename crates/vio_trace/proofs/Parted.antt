-- Texts that a byte parts: the front has no such byte, so there is one way to part them.
use Rattle.std.proofs.Common.{◌≡◌, ◌<◌, ◌+◌, ℕ, zero, suc, List, [], ◌∷◌, ◌++◌, Option, None, Err, length, slice_index, take, refl, sym, ap, subst, ◌∙◌, append_assoc, arith}
use Rattle.std.proofs.lemmas.List.{append_cancel_left}
use Rattle.vio_trace.specs.declared.unread.Unread.{Unread}
use Rattle.vio_trace.specs.declared.unread.Unread.TheVariants as unread
use Rattle.vio_trace.specs.Reading.{Finds, NoneIs, Reads, Without}
use Rattle.vio_trace.proofs.Cuts.{heads, tails}

-- what two partings of one text have in common
pub record SameParts (v w xs ys : List ℕ) : Type 0 where
  pub front : v ≡ w
  pub back : xs ≡ ys

pub parts_cut : (k : ℕ) (v w xs ys : List ℕ) → Without k v → Without k w → v ++ k ∷ xs ≡ w ++ k ∷ ys → SameParts v w xs ys
parts_cut k [] [] xs ys a b e = record { front = refl; back = tails k k xs ys e }
parts_cut k [] (y ∷ w) xs ys a b e = absurd (b.0 (sym (heads k y xs (w ++ k ∷ ys) e)))
parts_cut k (x ∷ v) [] xs ys a b e = absurd (a.0 (heads x k (v ++ k ∷ xs) ys e))
parts_cut k (x ∷ v) (y ∷ w) xs ys a b e =
    let more = parts_cut k v w xs ys a.1 b.1 (tails x y (v ++ k ∷ xs) (w ++ k ∷ ys) e) in
    record {
      front = ap (λ (z : ℕ). z ∷ v) (heads x y (v ++ k ∷ xs) (w ++ k ∷ ys) e) ∙ ap (λ (l : List ℕ). y ∷ l) more.front;
      back = more.back;
    }

-- a text without the byte is not parted by it
pub not_parted : (k : ℕ) (v xs text : List ℕ) → Without k text → ¬ (v ++ k ∷ xs ≡ text)
not_parted k [] xs [] a e = absurd (omega (arith, ap (λ (l : List ℕ). length l) e))
not_parted k [] xs (c ∷ text) a e = a.0 (sym (heads k c xs text e))
not_parted k (x ∷ v) xs [] a e = absurd (omega (arith, ap (λ (l : List ℕ). length l) e))
not_parted k (x ∷ v) xs (c ∷ text) a e = not_parted k v xs text a.1 (tails x c (v ++ k ∷ xs) text e)

without_next : (k at : ℕ) (text : List ℕ) → at < length text → ¬ (slice_index text at ≡ k) → Without k (take at text) → Without k (take (suc at) text)
without_next k at [] less other h = absurd (omega (arith, less))
without_next k zero (c ∷ text) less other h = (other, tt)
without_next k (suc at) (c ∷ text) less other h = (h.0, without_next k at text (omega (arith, less)) other h.1)

-- one more byte of the front is another
pub without_more : (k at : ℕ) (text : List ℕ) → at < length text → ¬ (slice_index text at ≡ k) → Without k (take at text) → Without k (take (at + 1) text)
without_more k at text less other h =
    let next : suc at ≡ at + 1 = omega arith in
    subst (λ (n : ℕ). Without k (take n text)) next (without_next k at text less other h)

-- a word, and what is behind it
pub none_without : {A B : Type 0} (k : ℕ) (word : A → List ℕ) (line : B → List ℕ) (fits : A → B → Type 0) (text : List ℕ) → Without k text
    → (a : A) (b : B) → ¬ (word a ++ (k ∷ []) ++ line b ≡ text)
none_without k word line fits text h a b e = not_parted k (word a) (line b) text h (sym (append_assoc (word a) ((k ∷ [])) (line b)) ∙ e)

-- where the word is that of no value, the line is
pub word_refused : {A C : Type 0} (k : ℕ) (word : A → List ℕ) (fits : A → Type 0) (line : C → List ℕ) (allowed : C → Type 0) (first : C → A) (rest : C → List ℕ)
    → ((c : C) → allowed c → fits (first c)) → ((c : C) → line c ≡ word (first c) ++ (k ∷ []) ++ rest c) → ((a : A) → fits a → Without k (word a))
    → (front back text : List ℕ) → Without k front → text ≡ front ++ k ∷ back
    → (e : Unread) → Reads word fits front (Err e) → Reads line allowed text (Err e)
word_refused k word fits line allowed first rest within is plain front back text h split unread.NoMemory r = tt
word_refused k word fits line allowed first rest within is plain front back text h split unread.Bad r =
    λ c q e. r (first c) (within c q)
    (parts_cut k (word (first c)) front (rest c) back (plain (first c) (within c q)) h
    (sym (append_assoc (word (first c)) ((k ∷ [])) (rest c)) ∙ sym (is c) ∙ e ∙ split)).front

-- where what is behind the word is that of no value, the line is
pub rest_refused : {A B C : Type 0} (k : ℕ) (word : A → List ℕ) (fits : A → Type 0) (rest : B → List ℕ) (fitting : B → Type 0) (line : C → List ℕ) (allowed : C → Type 0)
    (first : C → A) (second : C → B) → ((c : C) → allowed c → fits (first c) × fitting (second c))
    → ((c : C) → line c ≡ word (first c) ++ (k ∷ []) ++ rest (second c)) → ((a : A) → fits a → Without k (word a))
    → (front back text : List ℕ) → Without k front → text ≡ front ++ k ∷ back
    → (e : Unread) → Reads rest fitting back (Err e) → Reads line allowed text (Err e)
rest_refused k word fits rest fitting line allowed first second within is plain front back text h split unread.NoMemory r = tt
rest_refused k word fits rest fitting line allowed first second within is plain front back text h split unread.Bad r =
    λ c q e. r (second c) (within c q).1
    (parts_cut k (word (first c)) front (rest (second c)) back (plain (first c) (within c q).0) h
    (sym (append_assoc (word (first c)) ((k ∷ [])) (rest (second c))) ∙ sym (is c) ∙ e ∙ split)).back

-- where what is behind a line's first word is that of no value, the line is that of no row
pub line_refused : {F R : Type 0} (front : List ℕ) (words : F → List ℕ) (fits : F → Type 0) (text : R → List ℕ) (allowed : R → Type 0) (parts : R → F)
    → ((r : R) → allowed r → fits (parts r)) → ((r : R) → text r ≡ front ++ words (parts r))
    → (whole rest : List ℕ) → whole ≡ front ++ rest
    → (e : Unread) → Reads words fits rest (Err e) → Reads text allowed whole (Err e)
line_refused front words fits text allowed parts within is whole rest split unread.NoMemory r = tt
line_refused front words fits text allowed parts within is whole rest split unread.Bad r =
    λ row h e. r (parts row) (within row h) (append_cancel_left front (words (parts row)) rest (sym (is row) ∙ e ∙ split))

-- the same where nothing is found
pub none_behind : {F : Type 0} (front : List ℕ) (words : F → List ℕ) (fits : F → Type 0) (whole rest : List ℕ) → whole ≡ front ++ rest
    → NoneIs words fits rest → NoneIs (λ f. front ++ words f) fits whole
none_behind front words fits whole rest split none f h e = none f h (append_cancel_left front (words f) rest (e ∙ split))

-- where nothing was found there is nothing
pub nothing : {A : Type 0} (text : A → List ℕ) (fits : A → Type 0) (bytes : List ℕ) (found : Option A) → found ≡ None → Finds text fits bytes found → NoneIs text fits bytes
nothing {A} text fits bytes found is h = subst (λ (o : Option A). Finds text fits bytes o) is h
