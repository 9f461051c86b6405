-- Laws of the port law: of one length posts are taken in the order in which they were posted, and no post is taken twice.
use Rattle.std.proofs.Common.{◌≡◌, ℕ, ◌+◌, ◌<◌, ◌≤◌, ◌==◌, zero, suc, Bool, true, false, true≢false, List, [], ◌∷◌, ◌++◌, if◌then◌else◌, length, All, Some, None, slice_get, refl, sym, ◌∙◌, ap, subst, arith}
use Rattle.std.proofs.lemmas.Bool.{eq-eqb}
use Rattle.std.proofs.lemmas.Option.{slice_get_within, get_or_from_slice_get}
use Rattle.vio_num.specs.Words.{Begins}
use Rattle.lan_buffers.specs.declared.rows.PostRow.{PostRow}
use Rattle.lan_buffers.specs.declared.rows.DeliverRow.{DeliverRow}
use Rattle.lan_buffers.specs.Pools.{post_len, numbers_from, posted, has_length, taken}
use Rattle.lan_buffers.specs.Port.{Session, IsLawfulSession}

none_there : {X : Type 0} (x : X) → None ≡ Some x → ⊥
none_there x e = cc (e)

same_there : {X : Type 0} (x y : X) → Some x ≡ Some y → x ≡ y
same_there x y e = cc (e)

by_either : (b : Bool) (P : Type 0) → (b ≡ true → P) → (b ≡ false → P) → P
by_either true P f g = f refl
by_either false P f g = g refl

-- each number is below all behind it
abbrev Rises : List ℕ → Type 0
Rises [] = Unit {0}
Rises (x ∷ xs) = ((k y : ℕ) → slice_get xs k ≡ Some y → x < y) × Rises xs

numbers_own : (first size : ℕ) (post : PostRow) (posts : List PostRow) → (post_len post == size) ≡ true
    → numbers_from first size (post ∷ posts) ≡ first ∷ numbers_from (first + 1) size posts
numbers_own first size post posts e = rw e refl

numbers_other : (first size : ℕ) (post : PostRow) (posts : List PostRow) → (post_len post == size) ≡ false
    → numbers_from first size (post ∷ posts) ≡ numbers_from (first + 1) size posts
numbers_other first size post posts e = rw e refl

-- the numbers of the posts of a length are not below the first
not_below : (first size : ℕ) (posts : List PostRow) (k y : ℕ) → slice_get (numbers_from first size posts) k ≡ Some y → first ≤ y
not_below first size [] k y shown = absurd (none_there y shown)
not_below first size (post ∷ posts) k y shown = by_either (post_len post == size) (first ≤ y)
    (λ e. own (λ k is. omega (arith, not_below (first + 1) size posts k y is)) k (ap (λ l. slice_get l k) (sym (numbers_own first size post posts e)) ∙ shown))
    (λ e. omega (arith, not_below (first + 1) size posts k y (ap (λ l. slice_get l k) (sym (numbers_other first size post posts e)) ∙ shown)))
  where
    own : ((k : ℕ) → slice_get (numbers_from (first + 1) size posts) k ≡ Some y → first ≤ y) → (k : ℕ)
        → slice_get (first ∷ numbers_from (first + 1) size posts) k ≡ Some y → first ≤ y
    own later zero is = omega (arith, same_there first y is)
    own later (suc k) is = later k is

-- and rise
rising : (first size : ℕ) (posts : List PostRow) → Rises (numbers_from first size posts)
rising first size [] = tt
rising first size (post ∷ posts) = by_either (post_len post == size) (Rises (numbers_from first size (post ∷ posts)))
    (λ e. subst (λ l. Rises l) (sym (numbers_own first size post posts e))
    ((λ k y shown. omega (arith, not_below (first + 1) size posts k y shown)), rising (first + 1) size posts))
    (λ e. subst (λ l. Rises l) (sym (numbers_other first size post posts e)) (rising (first + 1) size posts))

-- a front of what rises
front_shown : (xs ys : List ℕ) (k y : ℕ) → slice_get xs k ≡ Some y → slice_get (xs ++ ys) k ≡ Some y
front_shown [] ys k y shown = absurd (none_there y shown)
front_shown (x ∷ xs) ys zero y shown = shown
front_shown (x ∷ xs) ys (suc k) y shown = front_shown xs ys k y shown

front_rises : (xs ys : List ℕ) → Rises (xs ++ ys) → Rises xs
front_rises [] ys up = tt
front_rises (x ∷ xs) ys up = ((λ k y shown. up.0 k y (front_shown xs ys k y shown)), front_rises xs ys up.1)

taken_own : (size : ℕ) (posts : List PostRow) (row : DeliverRow) (rows : List DeliverRow) → has_length size posts row.post ≡ true
    → taken size posts (row ∷ rows) ≡ row.post ∷ taken size posts rows
taken_own size posts row rows e = rw e refl

taken_none : (size : ℕ) (posts : List PostRow) (row : DeliverRow) (rows : List DeliverRow) → has_length size posts row.post ≡ false
    → taken size posts (row ∷ rows) ≡ taken size posts rows
taken_none size posts row rows e = rw e refl

-- what a delivery took is among what was taken
taken_there : (size : ℕ) (posts : List PostRow) (rows : List DeliverRow) (j : ℕ) (b : DeliverRow) → slice_get rows j ≡ Some b
    → has_length size posts b.post ≡ true → (m : ℕ) × (slice_get (taken size posts rows) m ≡ Some b.post)
taken_there size posts [] j b shown long = absurd (none_there b shown)
taken_there size posts (row ∷ rows) zero b shown long =
    let is : row ≡ b = same_there row b shown in (
      0,
      ap (λ l. slice_get l 0) (taken_own size posts row rows (ap (λ (r : DeliverRow). has_length size posts r.post) is ∙ long))
          ∙ ap (λ (r : DeliverRow). Some r.post) is,
    )
taken_there size posts (row ∷ rows) (suc j) b shown long =
    let later = taken_there size posts rows j b shown long in
    by_either (has_length size posts row.post) ((m : ℕ) × (slice_get (taken size posts (row ∷ rows)) m ≡ Some b.post))
    (λ e. (suc later.0, ap (λ l. slice_get l (suc later.0)) (taken_own size posts row rows e) ∙ later.1))
    (λ e. (later.0, ap (λ l. slice_get l later.0) (taken_none size posts row rows e) ∙ later.1))

later_taken : (size : ℕ) (posts : List PostRow) (rows : List DeliverRow) → Rises (taken size posts rows) → (i j : ℕ) (a b : DeliverRow)
    → slice_get rows i ≡ Some a → slice_get rows j ≡ Some b → i < j
    → has_length size posts a.post ≡ true → has_length size posts b.post ≡ true → a.post < b.post
later_taken size posts [] up i j a b at_i at_j less long_a long_b = absurd (none_there a at_i)
later_taken size posts (row ∷ rows) up i zero a b at_i at_j less long_a long_b = absurd (omega (arith, less))
later_taken size posts (row ∷ rows) up zero (suc j) a b at_i at_j less long_a long_b =
    let is : row ≡ a = same_there row a at_i in
    let up' : Rises (row.post ∷ taken size posts rows) =
    subst (λ l. Rises l) (taken_own size posts row rows (ap (λ (r : DeliverRow). has_length size posts r.post) is ∙ long_a)) up in
    let there = taken_there size posts rows j b at_j long_b in
    subst (λ (r : DeliverRow). r.post < b.post) is (up'.0 there.0 b.post there.1)
later_taken size posts (row ∷ rows) up (suc i) (suc j) a b at_i at_j less long_a long_b =
    later_taken size posts rows (tail (has_length size posts row.post) refl) i j a b at_i at_j (omega (arith, less)) long_a long_b
  where
    tail : (own : Bool) → has_length size posts row.post ≡ own → Rises (taken size posts rows)
    tail true e = (subst (λ l. Rises l) (taken_own size posts row rows e) up).1
    tail false e = subst (λ l. Rises l) (taken_none size posts row rows e) up

-- Of one length, what a later delivery took was posted later.
pub taken_in_order : (n : ℕ) (s : Session) → IsLawfulSession n s → (size i j : ℕ) (a b : DeliverRow)
    → slice_get s.deliveries i ≡ Some a → slice_get s.deliveries j ≡ Some b → i < j
    → has_length size s.posts a.post ≡ true → has_length size s.posts b.post ≡ true → a.post < b.post
taken_in_order n s law size i j a b at_i at_j less long_a long_b =
    let front = law.in_order size in
    later_taken size s.posts s.deliveries
    (front_rises (taken size s.posts s.deliveries) front.0 (subst (λ l. Rises l) front.1 (rising 0 size s.posts)))
    i j a b at_i at_j less long_a long_b

-- each post has a length
own_length : (posts : List PostRow) (number : ℕ) → number < length posts → (size : ℕ) × (has_length size posts number ≡ true)
own_length [] number less = absurd (omega (arith, less))
own_length (post ∷ posts) zero less = (post_len post, eq-eqb (post_len post) (post_len post) refl)
own_length (post ∷ posts) (suc number) less = own_length posts number (omega (arith, less))

twice : (n : ℕ) (s : Session) → IsLawfulSession n s → (i j : ℕ) (a b : DeliverRow) → slice_get s.deliveries i ≡ Some a
    → slice_get s.deliveries j ≡ Some b → a.post ≡ b.post → i < j → ⊥
twice n s law i j a b at_i at_j same less =
    let within : a.post < length s.posts = subst (λ (r : DeliverRow). r.post < length s.posts) (get_or_from_slice_get s.deliveries i a a at_i)
    (law.named i a (slice_get_within s.deliveries i a at_i)) in
    let long = own_length s.posts a.post within in
    omega (arith, same, taken_in_order n s law long.0 i j a b at_i at_j less long.1 (ap (λ p. has_length long.0 s.posts p) (sym same) ∙ long.1))

-- No post is taken by two deliveries of a session.
pub taken_once : (n : ℕ) (s : Session) → IsLawfulSession n s → (i j : ℕ) (a b : DeliverRow) → slice_get s.deliveries i ≡ Some a
    → slice_get s.deliveries j ≡ Some b → a.post ≡ b.post → i ≡ j
taken_once n s law i j a b at_i at_j same =
    grind (arith, twice n s law i j a b at_i at_j same, twice n s law j i b a at_j at_i (sym same))
