-- The rows of a port's posts, as a session or a post comes behind them.
use Rattle.std.proofs.Common.{◌≡◌, ◌+◌, ◌<◌, ◌≤◌, ◌==◌, ℕ, zero, suc, arith, Bool, true, false, List, [], ◌∷◌, ◌++◌, append-nil, filter, length, if◌then◌else◌, refl, sym, ◌∙◌, ap}
use Rattle.std.proofs.lemmas.List.{append_assoc}
use Rattle.std.proofs.lemmas.Bool.Decides.{nat_tests}
use Rattle.std.specs.List.{flat_map}
use Rattle.std.proofs.lemmas.List.Elements.{filter-append}
use Rattle.vio_num.specs.Words.{Begins}
use Rattle.vio_num.specs.declared.names.UnitId.{UnitId}
use Rattle.lan_buffers.specs.Port.{PortValue, last_session}
use Rattle.lan_buffers.specs.declared.rows.PostRow.{PostRow as Post}
use Rattle.lan_script.specs.Rows.{numbered, post_row_of, post_rows, posts_in, sessions_from}
use Rattle.lan_script.proofs.Posted.{numbered_append}

-- the last of so many sessions comes behind the others
flat_last : {X : Type 0} (f : ℕ → List X) (q n : ℕ) → flat_map f (sessions_from q (suc n)) ≡ flat_map f (sessions_from q n) ++ f (q + n)
flat_last f q zero = append-nil (f q) ∙ ap f (none q)
  where
    none : (k : ℕ) → k ≡ k + 0
    none k = omega arith
flat_last f q (suc n) =
    ap (λ l. f q ++ l) (flat_last f (q + 1) n)
    ∙ sym (append_assoc (f q) (flat_map f (sessions_from (q + 1) n)) (f (q + 1 + n)))
    ∙ ap (λ k. (f q ++ flat_map f (sessions_from (q + 1) n)) ++ f k) (one q n)
  where
    one : (k m : ℕ) → k + 1 + m ≡ k + suc m
    one k m = omega arith

-- sessions of which each has the same
flat_same : {X : Type 0} (f g : ℕ → List X) (q n : ℕ) → ((k : ℕ) → k < q + n → g k ≡ f k) → flat_map g (sessions_from q n) ≡ flat_map f (sessions_from q n)
flat_same f g q zero same = refl
flat_same f g q (suc n) same =
    ap (λ l. l ++ flat_map g (sessions_from (q + 1) n)) (same q (omega arith))
    ∙ ap (λ l. f q ++ l) (flat_same f g (q + 1) n (λ k less. same k (omega (arith, less))))

-- a session more, of which there is no post
pub begins_at : (unit : UnitId) (posts posts' : List Post) (last long : ℕ) → long ≡ suc last → posts' ≡ posts → filter (λ (p : Post). p.session == 1 + last) posts' ≡ []
    → Begins (flat_map (posts_in unit posts) (sessions_from 1 last)) (flat_map (posts_in unit posts') (sessions_from 1 long))
begins_at unit posts posts' last long e same none = (
  [],
  ap (λ n. flat_map (posts_in unit posts') (sessions_from 1 n)) e
      ∙ flat_last (posts_in unit posts') 1 last
      ∙ ap (λ (l : List Post). flat_map (posts_in unit posts') (sessions_from 1 last) ++ numbered (post_row_of unit) 0 l) none
      ∙ ap (λ (l : List Post). flat_map (posts_in unit l) (sessions_from 1 last) ++ []) same,
)

-- the posts of a session, with one more
one_of : (b : Bool) (post : Post) (l : List Post) → b ≡ true → l ++ (if b then post ∷ [] else []) ≡ l ++ post ∷ []
one_of b post l e = rw e refl

none_of : (b : Bool) (post : Post) (l : List Post) → b ≡ false → l ++ (if b then post ∷ [] else []) ≡ l
none_of b post l e = rw e (append-nil l)

with_one : (posts : List Post) (post : Post) (q : ℕ) → filter (λ (p : Post). p.session == q) (posts ++ post ∷ [])
    ≡ filter (λ (p : Post). p.session == q) posts ++ (if post.session == q then post ∷ [] else [])
with_one posts post q = filter-append (λ (p : Post). p.session == q) posts (post ∷ [])

other_session : (unit : UnitId) (posts : List Post) (post : Post) (q : ℕ) → (post.session == q) ≡ false → posts_in unit (posts ++ post ∷ []) q ≡ posts_in unit posts q
other_session unit posts post q e =
    ap (λ (l : List Post). numbered (post_row_of unit) 0 l)
    (with_one posts post q ∙ none_of (post.session == q) post (filter (λ (p : Post). p.session == q) posts) e)

own_session : (unit : UnitId) (posts : List Post) (post : Post) (q : ℕ) → (post.session == q) ≡ true
    → posts_in unit (posts ++ post ∷ []) q ≡ posts_in unit posts q ++ post_row_of unit (length (filter (λ (p : Post). p.session == q) posts)) post ∷ []
own_session unit posts post q e =
    ap (λ (l : List Post). numbered (post_row_of unit) 0 l)
    (with_one posts post q ∙ one_of (post.session == q) post (filter (λ (p : Post). p.session == q) posts) e)
    ∙ numbered_append (post_row_of unit) 0 (filter (λ (p : Post). p.session == q) posts) (post ∷ [])
    ∙ ap (λ n. posts_in unit posts q ++ post_row_of unit n post ∷ []) (same (length (filter (λ (p : Post). p.session == q) posts)))
  where
    same : (n : ℕ) → 0 + n ≡ n
    same n = omega arith

-- a post more in the last session
at_last : (unit : UnitId) (posts : List Post) (post : Post) (n : ℕ) → post.session ≡ 1 + n
    → flat_map (posts_in unit (posts ++ post ∷ [])) (sessions_from 1 (suc n))
    ≡ flat_map (posts_in unit posts) (sessions_from 1 (suc n)) ++ post_row_of unit (length (filter (λ (p : Post). p.session == 1 + n) posts)) post ∷ []
at_last unit posts post n own =
    flat_last (posts_in unit (posts ++ post ∷ [])) 1 n
    ∙ ap (λ l. l ++ posts_in unit (posts ++ post ∷ []) (1 + n))
    (flat_same (posts_in unit posts) (posts_in unit (posts ++ post ∷ [])) 1 n (λ k less. other_session unit posts post k (apart k less)))
    ∙ ap (λ l. flat_map (posts_in unit posts) (sessions_from 1 n) ++ l) (own_session unit posts post (1 + n) here)
    ∙ sym (append_assoc (flat_map (posts_in unit posts) (sessions_from 1 n)) (posts_in unit posts (1 + n)) (_ ∷ []))
    ∙ ap (λ l. l ++ post_row_of unit (length (filter (λ (p : Post). p.session == 1 + n) posts)) post ∷ []) (sym (flat_last (posts_in unit posts) 1 n))
  where
    here : (post.session == 1 + n) ≡ true
    here = grind (arith, nat_tests, own)

    apart : (k : ℕ) → k < 1 + n → (post.session == k) ≡ false
    apart k less = grind (arith, nat_tests, own, less)

-- a port that posted one more
pub rows_behind : (before after : PortValue) (post : Post) (unit : UnitId) → after.posts ≡ before.posts ++ post ∷ [] → after.drop_counts ≡ before.drop_counts
    → post.session ≡ last_session before → 1 ≤ last_session before
    → post_rows unit after ≡ post_rows unit before ++ post_row_of unit (length (filter (λ (p : Post). p.session == last_session before) before.posts)) post ∷ []
rows_behind before after post unit posts drops own some =
    ap (λ (l : List Post). flat_map (posts_in unit l) (sessions_from 1 (length after.drop_counts))) posts
    ∙ ap (λ (l : List ℕ). flat_map (posts_in unit (before.posts ++ post ∷ [])) (sessions_from 1 (length l))) drops
    ∙ by (length before.drop_counts) own some
  where
    one : (n : ℕ) → 1 + n ≡ suc n
    one n = omega arith

    by : (last : ℕ) → post.session ≡ last → 1 ≤ last
        → flat_map (posts_in unit (before.posts ++ post ∷ [])) (sessions_from 1 last)
        ≡ flat_map (posts_in unit before.posts) (sessions_from 1 last) ++ post_row_of unit (length (filter (λ (p : Post). p.session == last) before.posts)) post ∷ []
    by zero own some = absurd (omega (arith, some))
    by (suc n) own some =
        at_last unit before.posts post n (omega (arith, own))
        ∙ ap (λ k. flat_map (posts_in unit before.posts) (sessions_from 1 (suc n)) ++ post_row_of unit (length (filter (λ (p : Post). p.session == k) before.posts)) post ∷ [])
        (one n)
