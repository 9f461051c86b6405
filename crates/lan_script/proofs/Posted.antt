-- The rows of a port's posts as it goes on, and the post that a frame took.
use Rattle.std.proofs.Common.{◌≡◌, ◌+◌, ◌<◌, ◌≤◌, ◌==◌, ◌⊎◌, inl, inr, ℕ, zero, suc, arith, Bool, true, false, List, [], ◌∷◌, ◌++◌, Some, filter, length, drop, slice_get, if◌then◌else◌, refl, sym, ◌∙◌, ap, subst}
use Rattle.std.specs.List.{Contains, flat_map}
use Rattle.std.proofs.lemmas.List.Elements.{Contains-append_cases, Contains-append_left, Contains-append_right, filter-append}
use Rattle.vio_num.specs.declared.names.UnitId.{UnitId}
use Rattle.lan_buffers.specs.Calls.{Chooses}
use Rattle.lan_buffers.specs.Pools.{numbers_from, post_len, posted, taken}
use Rattle.lan_buffers.specs.Port.{PortValue, Session}
use Rattle.lan_buffers.specs.declared.rows.PostRow.{PostRow as Post}
use Rattle.vio_trace.specs.declared.lan_rows.PostRow.{PostRow}
use Rattle.lan_script.specs.Rows.{numbered, post_row_of, post_rows, posts_in, sessions_from}
use Rattle.lan_script.proofs.Order.{Each}
use Rattle.lan_script.proofs.Placing.{by_bool, none_some, same_some}

nothing_there : {X : Type 0} (x : X) → Contains [] x → ⊥
nothing_there x (k, less, is) = omega (arith, less)

-- what is so of each session is so of all
contains_each : {X : Type 0} (f g : ℕ → List X) (x : X) → ((q : ℕ) → Contains (f q) x → Contains (g q) x) → (qs : List ℕ)
    → Contains (flat_map f qs) x → Contains (flat_map g qs) x
contains_each f g x step [] has = has
contains_each f g x step (q ∷ qs) has = by (λ more. contains_each f g x step qs more) (Contains-append_cases (f q) (flat_map f qs) x has)
  where
    by : (Contains (flat_map f qs) x → Contains (flat_map g qs) x) → Contains (f q) x ⊎ Contains (flat_map f qs) x → Contains (flat_map g (q ∷ qs)) x
    by rest (inl here) = Contains-append_left (g q) (flat_map g qs) x (step q here)
    by rest (inr later) = Contains-append_right (g q) (flat_map g qs) x (rest later)

-- a session more takes nothing away
contains_front : {X : Type 0} (f : ℕ → List X) (x : X) (q n : ℕ) → Contains (flat_map f (sessions_from q n)) x
    → Contains (flat_map f (sessions_from q (suc n))) x
contains_front f x q zero has = absurd (nothing_there x has)
contains_front f x q (suc n) has =
    by (λ more. contains_front f x (q + 1) n more) (Contains-append_cases (f q) (flat_map f (sessions_from (q + 1) n)) x has)
  where
    by : (Contains (flat_map f (sessions_from (q + 1) n)) x → Contains (flat_map f (sessions_from (q + 1) (suc n))) x)
        → Contains (f q) x ⊎ Contains (flat_map f (sessions_from (q + 1) n)) x → Contains (flat_map f (sessions_from q (suc (suc n)))) x
    by rest (inl here) = Contains-append_left (f q) (flat_map f (sessions_from (q + 1) (suc n))) x here
    by rest (inr later) = Contains-append_right (f q) (flat_map f (sessions_from (q + 1) (suc n))) x (rest later)

-- what a session has is among all
contains_at : {X : Type 0} (f : ℕ → List X) (x : X) (q s n : ℕ) → s ≤ q → q < s + n → Contains (f q) x → Contains (flat_map f (sessions_from s n)) x
contains_at f x q s zero least most has = absurd (omega (arith, least, most))
contains_at f x q s (suc n) least most has =
    by_bool (q == s) (Contains (f s ++ flat_map f (sessions_from (s + 1) n)) x)
    (λ e. Contains-append_left (f s) (flat_map f (sessions_from (s + 1) n)) x (subst (λ k. Contains (f k) x) (grind (arith, e)) has))
    (λ e.
    Contains-append_right (f s) (flat_map f (sessions_from (s + 1) n)) x
    (contains_at f x q (s + 1) n (above q s least e) (omega (arith, most)) has))
  where
    above : (a b : ℕ) → b ≤ a → (a == b) ≡ false → b + 1 ≤ a
    above a b least e = grind (arith, least, e)

-- items behind others have the numbers behind theirs
pub numbered_append : {X Row : Type 0} (row : ℕ → X → Row) (n : ℕ) (xs ys : List X) → numbered row n (xs ++ ys) ≡ numbered row n xs ++ numbered row (n + length xs) ys
numbered_append {X} row n [] ys = ap (λ k. numbered row k ys) (same n)
  where
    same : (k : ℕ) → k ≡ k + length {A = X} []
    same k = omega arith
numbered_append row n (x ∷ xs) ys =
    ap (λ l. row n x ∷ l) (numbered_append row (n + 1) xs ys ∙ ap (λ k. numbered row (n + 1) xs ++ numbered row k ys) (same n (length xs)))
  where
    same : (k m : ℕ) → k + 1 + m ≡ k + suc m
    same k m = omega arith

-- the item at a place has its number
numbered_at : {X Row : Type 0} (row : ℕ → X → Row) (n k : ℕ) (xs : List X) (x : X) → slice_get xs k ≡ Some x → Contains (numbered row n xs) (row (n + k) x)
numbered_at row n k [] x at = absurd (none_some x at)
numbered_at row n zero (y ∷ xs) x at =
    Contains-append_left (row n y ∷ []) (numbered row (n + 1) xs) (row (n + zero) x)
    (0, omega arith, ap (λ z. row n z) (same_some y x at) ∙ ap (λ m. row m x) (same n))
  where
    same : (m : ℕ) → m ≡ m + 0
    same m = omega arith
numbered_at row n (suc k) (y ∷ xs) x at =
    Contains-append_right (row n y ∷ []) (numbered row (n + 1) xs) (row (n + suc k) x)
    (subst (λ m. Contains (numbered row (n + 1) xs) (row m x)) (same n k) (numbered_at row (n + 1) k xs x at))
  where
    same : (m j : ℕ) → m + 1 + j ≡ m + suc j
    same m j = omega arith

-- The rows of a port's posts are all still there.
abbrev pub KeepsPosts : PortValue → PortValue → Type 0
KeepsPosts before after = (unit : UnitId) (row : PostRow) → Contains (post_rows unit before) row → Contains (post_rows unit after) row

pub posts_stay : (before after : PortValue) → after.posts ≡ before.posts → length after.drop_counts ≡ length before.drop_counts → KeepsPosts before after
posts_stay before after posts long unit row has =
    subst (λ n. Contains (flat_map (posts_in unit after.posts) (sessions_from 1 n)) row) (sym long)
    (subst (λ (l : List Post). Contains (flat_map (posts_in unit l) (sessions_from 1 (length before.drop_counts))) row) (sym posts) has)

pub posts_begin : (before after : PortValue) → after.posts ≡ before.posts → length after.drop_counts ≡ suc (length before.drop_counts) → KeepsPosts before after
posts_begin before after posts long unit row has =
    subst (λ n. Contains (flat_map (posts_in unit after.posts) (sessions_from 1 n)) row) (sym long)
    (contains_front (posts_in unit after.posts) row 1 (length before.drop_counts)
    (subst (λ (l : List Post). Contains (flat_map (posts_in unit l) (sessions_from 1 (length before.drop_counts))) row) (sym posts) has))

in_session : (unit : UnitId) (row : PostRow) (posts more : List Post) (q : ℕ) → Contains (posts_in unit posts q) row → Contains (posts_in unit (posts ++ more) q) row
in_session unit row posts more q has =
    let own : List Post = filter (λ (p : Post). p.session == q) posts in
    let behind : List Post = filter (λ (p : Post). p.session == q) more in
    subst (λ (l : List PostRow). Contains l row)
    (sym (ap (λ (l : List Post). numbered (post_row_of unit) 0 l) (filter-append (λ (p : Post). p.session == q) posts more)
    ∙ numbered_append (post_row_of unit) 0 own behind))
    (Contains-append_left (numbered (post_row_of unit) 0 own) (numbered (post_row_of unit) (0 + length own) behind) row has)

pub posts_more : (before after : PortValue) (more : List Post) → after.posts ≡ before.posts ++ more → length after.drop_counts ≡ length before.drop_counts
    → KeepsPosts before after
posts_more before after more posts long unit row has =
    subst (λ n. Contains (flat_map (posts_in unit after.posts) (sessions_from 1 n)) row) (sym long)
    (subst (λ (l : List Post). Contains (flat_map (posts_in unit l) (sessions_from 1 (length before.drop_counts))) row) (sym posts)
    (contains_each (posts_in unit before.posts) (posts_in unit (before.posts ++ more)) row (in_session unit row before.posts more)
    (sessions_from 1 (length before.drop_counts)) has))

-- what stands first behind those that were left out
first_left : {X : Type 0} (k : ℕ) (xs : List X) → slice_get (drop k xs) 0 ≡ slice_get xs k
first_left zero xs = refl
first_left (suc k) [] = refl
first_left (suc k) (x ∷ xs) = first_left k xs

-- A number of a post, and the post.
pub record IsPostAt (posts : List Post) (first n : ℕ) : Type 0 where
  pub place : ℕ
  pub is : n ≡ first + place
  pub post : Post
  pub at : slice_get posts place ≡ Some post

-- the posts of a length are posts
numbers_are : (first size : ℕ) (posts : List Post) (k n : ℕ) → slice_get (numbers_from first size posts) k ≡ Some n → IsPostAt posts first n
numbers_are first size [] k n at = absurd (none_some n at)
numbers_are first size (p ∷ posts) k n at = by (λ j e. numbers_are (first + 1) size posts j n e) (post_len p == size) k at
  where
    later : IsPostAt posts (first + 1) n → IsPostAt (p ∷ posts) first n
    later h = record { place = suc h.place; is = omega (arith, h.is); post = h.post; at = h.at }

    by : ((j : ℕ) → slice_get (numbers_from (first + 1) size posts) j ≡ Some n → IsPostAt posts (first + 1) n) → (b : Bool) (k : ℕ)
        → slice_get (if b then first ∷ numbers_from (first + 1) size posts else numbers_from (first + 1) size posts) k ≡ Some n → IsPostAt (p ∷ posts) first n
    by rest true zero e = record { place = 0; is = omega (arith, same_some first n e); post = p; at = refl }
    by rest true (suc j) e = later (rest j e)
    by rest false j e = later (rest j e)

-- the post that a frame takes is there
pub post_chosen : (s : Session) (len n : ℕ) → Chooses s len n → (post : Post) × (slice_get s.posts n ≡ Some post)
post_chosen s len n h =
    let shown : slice_get (posted h.size s.posts) (length (taken h.size s.posts s.deliveries)) ≡ Some n =
    sym (first_left (length (taken h.size s.posts s.deliveries)) (posted h.size s.posts)) ∙ ap (λ (l : List ℕ). slice_get l 0) h.oldest in
    let found = numbers_are 0 h.size s.posts (length (taken h.size s.posts s.deliveries)) n shown in
    (found.post, ap (λ k. slice_get s.posts k) (omega (arith, found.is)) ∙ found.at)

-- it is of its session
of_session : (q n : ℕ) (posts : List Post) (post : Post) → Each (λ (p : Post). p.session ≡ q) posts → slice_get posts n ≡ Some post → post.session ≡ q
of_session q n [] post all at = absurd (none_some post at)
of_session q zero (p ∷ posts) post all at = ap (λ (x : Post). x.session) (sym (same_some p post at)) ∙ all.0
of_session q (suc n) (p ∷ posts) post all at = of_session q n posts post all.1 at

-- its row is among those of the port
pub post_row_there : (unit : UnitId) (port : PortValue) (q n : ℕ) (post : Post) → 1 ≤ q → q ≤ length port.drop_counts
    → slice_get (filter (λ (p : Post). p.session == q) port.posts) n ≡ Some post → Contains (post_rows unit port) (post_row_of unit n post)
post_row_there unit port q n post least most at =
    contains_at (posts_in unit port.posts) (post_row_of unit n post) q 1 (length port.drop_counts) least (omega (arith, most))
    (subst (λ k. Contains (posts_in unit port.posts q) (post_row_of unit k post)) (same n)
    (numbered_at (post_row_of unit) 0 n (filter (λ (p : Post). p.session == q) port.posts) post at))
  where
    same : (k : ℕ) → 0 + k ≡ k
    same k = omega arith

pub post_session : (port : PortValue) (q n : ℕ) (post : Post) → Each (λ (p : Post). p.session ≡ q) (filter (λ (p : Post). p.session == q) port.posts)
    → slice_get (filter (λ (p : Post). p.session == q) port.posts) n ≡ Some post → post.session ≡ q
post_session port q n post all at = of_session q n (filter (λ (p : Post). p.session == q) port.posts) post all at
