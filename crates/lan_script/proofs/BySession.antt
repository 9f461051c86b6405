-- Rows that stand by their sessions are all rows of one session after the other.
use Rattle.std.proofs.Common.{◌≡◌, ◌+◌, ◌<◌, ◌≤◌, ◌==◌, ℕ, zero, suc, arith, Bool, true, false, cond, All, List, [], ◌∷◌, ◌++◌, filter, map, refl, sym, ◌∙◌, ap, if◌then◌else◌}
use Rattle.std.specs.List.{AllPairs, flat_map}
use Rattle.std.proofs.lemmas.Bool.{eqb-false, eqb-true, ne_eqb}
use Rattle.lan_buffers.specs.Port.{StandBySession}
use Rattle.lan_script.specs.Rows.{numbered, numbered_on, sessions_from}
use Rattle.lan_script.proofs.Order.{Each, Ordered, each_weaker}

each_of : {X : Type 0} (P : X → Type 0) (xs : List X) → All P xs → Each P xs
each_of P [] all = tt
each_of P (x ∷ xs) all = (all 0 x (omega arith), each_of P xs (λ k d lt. all (suc k) d (omega (arith, lt))))

ordered_of : {X : Type 0} (before : X → X → Type 0) (xs : List X) → AllPairs before xs → Ordered before xs
ordered_of before [] all = tt
ordered_of before (x ∷ xs) all = (
  each_of (before x) xs (λ k d lt. all 0 (suc k) d (omega arith) (omega (arith, lt))),
  ordered_of before xs (λ i j d lt within. all (suc i) (suc j) d (omega (arith, lt)) (omega (arith, within))),
)

none_of : {X : Type 0} (session : X → ℕ) (q : ℕ) (xs : List X) → Each (λ x. q < session x) xs → filter (λ x. session x == q) xs ≡ []
none_of session q [] later = refl
none_of session q (x ∷ xs) later =
    rw (ne_eqb (session x) q (λ e. absurd (omega (arith, e, later.0)))) (none_of session q xs later.1)

nothing : {X Row : Type 0} (make : ℕ → List X → List Row) → ((k : ℕ) → make k [] ≡ []) → (q count : ℕ)
    → flat_map (λ k. make k []) (sessions_from q count) ≡ []
nothing make none q zero = refl
nothing make none q (suc count) = rw (none q) (nothing make none (q + 1) count)

-- a row of an earlier session is none of these
same_above : {X Row : Type 0} (session : X → ℕ) (block : List X → List Row) (x : X) (xs : List X) (q count : ℕ) → session x < q
    → flat_map (λ k. block (filter (λ y. session y == k) (x ∷ xs))) (sessions_from q count)
    ≡ flat_map (λ k. block (filter (λ y. session y == k) xs)) (sessions_from q count)
same_above session block x xs q zero less = refl
same_above session block x xs q (suc count) less =
    rw (ne_eqb (session x) q (λ e. absurd (omega (arith, e, less))))
    (ap (λ l. block (filter (λ y. session y == q) xs) ++ l) (same_above session block x xs (q + 1) count (omega (arith, less))))

-- the sessions from that of the first row on
record Reaches {X Row : Type 0} (session : X → ℕ) (make : ℕ → X → Row) (x : X) (xs : List X) (q count : ℕ) : Type 0 where
  left : ℕ
  in_all : session x + 1 + left ≡ q + count
  is : flat_map (λ k. numbered make 0 (filter (λ y. session y == k) (x ∷ xs))) (sessions_from q count)
      ≡ make 0 x ∷ (numbered make 1 (filter (λ y. session y == session x) xs)
      ++ flat_map (λ k. numbered make 0 (filter (λ y. session y == k) xs)) (sessions_from (session x + 1) left))

reaches : {X Row : Type 0} (session : X → ℕ) (make : ℕ → X → Row) (x : X) (xs : List X) (q count : ℕ) → q ≤ session x → session x < q + count
    → Each (λ y. session x ≤ session y) xs → Reaches session make x xs q count
reaches session make x xs q zero from below later = absurd (omega (arith, from, below))
reaches {X} {Row} session make x xs q (suc count) from below later =
    at (session x == q) refl (λ beyond. reaches session make x xs (q + 1) count beyond (omega (arith, below)) later)
  where
    blocks : List X → ℕ → List Row
    blocks l k = numbered make 0 (filter (λ y. session y == k) l)

    at : (b : Bool) → (session x == q) ≡ b → (q + 1 ≤ session x → Reaches session make x xs (q + 1) count) → Reaches session make x xs q (suc count)
    at true e again =
        let same : session x ≡ q = eqb-true (session x) q e in
        record {
          left = count;
          in_all = omega (arith, same);
          is = ap (λ b. numbered make 0 (cond b (x ∷ filter (λ y. session y == q) xs) (filter (λ y. session y == q) xs))
              ++ flat_map (blocks (x ∷ xs)) (sessions_from (q + 1) count)) e
              ∙ ap (λ l. make 0 x ∷ (numbered make 1 (filter (λ y. session y == q) xs) ++ l))
              (same_above session (numbered make 0) x xs (q + 1) count (omega (arith, same)))
              ∙ ap (λ k. make 0 x ∷ (numbered make 1 (filter (λ y. session y == k) xs) ++ flat_map (blocks xs) (sessions_from (k + 1) count))) (sym same);
        }
    at false e again =
        let less : q < session x = omega (arith, from, other e) in
        let rest = again (omega (arith, less)) in
        let empty : filter (λ y. session y == q) xs ≡ [] = none_of session q xs (each_weaker (λ y. session x ≤ session y) (λ y. q < session y) (λ y h. omega (arith, h, less)) xs later) in
        record {
          left = rest.left;
          in_all = omega (arith, rest.in_all);
          is = ap (λ b. numbered make 0 (cond b (x ∷ filter (λ y. session y == q) xs) (filter (λ y. session y == q) xs))
              ++ flat_map (blocks (x ∷ xs)) (sessions_from (q + 1) count)) e
              ∙ ap (λ l. numbered make 0 l ++ flat_map (blocks (x ∷ xs)) (sessions_from (q + 1) count)) empty
              ∙ rest.is;
        }
      where
        other : (session x == q) ≡ false → session x ≡ q → ⊥
        other e same = eqb-false (session x) q e same

-- numbered from n on, those of session s, and behind them those of the later sessions
later_sessions : {X Row : Type 0} (session : X → ℕ) (make : ℕ → X → Row) (s n : ℕ) (xs : List X) (count : ℕ) → Each (λ x. s ≤ session x) xs
    → Each (λ x. session x < s + 1 + count) xs → Ordered (λ a b. session a ≤ session b) xs
    → numbered make n (filter (λ x. session x == s) xs) ++ flat_map (λ k. numbered make 0 (filter (λ x. session x == k) xs)) (sessions_from (s + 1) count)
    ≡ numbered_on session make s n xs
later_sessions {X} {Row} session make s n [] count from below order = nothing {X = X} {Row = Row} (λ k l. numbered make 0 l) (λ k. refl) (s + 1) count
later_sessions {X} {Row} session make s n (x ∷ xs) count from below order =
    at (session x == s) refl (λ t m left. later_sessions session make t m xs left)
  where
    blocks : List X → ℕ → List Row
    blocks l k = numbered make 0 (filter (λ y. session y == k) l)

    Numbers : (t m left : ℕ) → Type 0
    Numbers t m left =
        numbered make m (filter (λ y. session y == t) xs) ++ flat_map (blocks xs) (sessions_from (t + 1) left) ≡ numbered_on session make t m xs

    at : (b : Bool) → (session x == s) ≡ b
        → ((t m left : ℕ) → Each (λ y. t ≤ session y) xs → Each (λ y. session y < t + 1 + left) xs → Ordered (λ a b. session a ≤ session b) xs → Numbers t m left)
        → numbered make n (filter (λ y. session y == s) (x ∷ xs)) ++ flat_map (blocks (x ∷ xs)) (sessions_from (s + 1) count)
        ≡ numbered_on session make s n (x ∷ xs)
    at true e again =
        let same : session x ≡ s = eqb-true (session x) s e in
        ap (λ b. numbered make n (cond b (x ∷ filter (λ y. session y == s) xs) (filter (λ y. session y == s) xs))
        ++ flat_map (blocks (x ∷ xs)) (sessions_from (s + 1) count)) e
        ∙ ap (λ l. make n x ∷ (numbered make (n + 1) (filter (λ y. session y == s) xs) ++ l))
        (same_above session (numbered make 0) x xs (s + 1) count (omega (arith, same)))
        ∙ ap (λ l. make n x ∷ l) (again s (n + 1) count from.1 below.1 order.1)
        ∙ ap (λ k. make n x ∷ numbered_on session make k (n + 1) xs) (sym same)
        ∙ ap (λ b. make (if b then n else 0) x ∷ numbered_on session make (session x) ((if b then n else 0) + 1) xs) (sym e)
    at false e again =
        let less : s < session x = omega (arith, from.0, other e) in
        let empty : filter (λ y. session y == s) xs ≡ [] = none_of session s xs (each_weaker (λ y. session x ≤ session y) (λ y. s < session y) (λ y h. omega (arith, h, less)) xs order.0) in
        let reach = reaches session make x xs (s + 1) count (omega (arith, less)) (omega (arith, below.0)) order.0 in
        ap (λ b. numbered make n (cond b (x ∷ filter (λ y. session y == s) xs) (filter (λ y. session y == s) xs))
        ++ flat_map (blocks (x ∷ xs)) (sessions_from (s + 1) count)) e
        ∙ ap (λ l. numbered make n l ++ flat_map (blocks (x ∷ xs)) (sessions_from (s + 1) count)) empty
        ∙ reach.is
        ∙ ap (λ l. make 0 x ∷ l) (again (session x) 1 reach.left order.0
        (each_weaker (λ y. session y < s + 1 + count) (λ y. session y < session x + 1 + reach.left) (λ y h. omega (arith, h, reach.in_all)) xs below.1) order.1)
        ∙ ap (λ b. make (if b then n else 0) x ∷ numbered_on session make (session x) ((if b then n else 0) + 1) xs) (sym e)
      where
        other : (session x == s) ≡ false → session x ≡ s → ⊥
        other e same = eqb-false (session x) s e same

-- numbered from 0 in each of so many sessions
pub by_number : {X Row : Type 0} (session : X → ℕ) (make : ℕ → X → Row) (count : ℕ) (xs : List X) → StandBySession session count xs
    → flat_map (λ k. numbered make 0 (filter (λ x. session x == k) xs)) (sessions_from 1 count) ≡ numbered_on session make 0 0 xs
by_number {X} {Row} session make count xs stand =
    let begun : Each (λ x. 0 < session x) xs = each_of (λ x. 0 < session x) xs (λ k d lt. omega (arith, stand.begun k d lt)) in
    ap (λ l. numbered make 0 l ++ flat_map blocks (sessions_from 1 count)) (sym (none_of session 0 xs begun))
    ∙ later_sessions session make 0 0 xs count (each_weaker (λ x. 0 < session x) (λ x. 0 ≤ session x) (λ x h. omega arith) xs begun)
    (each_of (λ x. session x < 0 + 1 + count) xs (λ k d lt. omega (arith, stand.none_later k d lt)))
    (ordered_of (λ a b. session a ≤ session b) xs stand.rising)
  where
    blocks : ℕ → List Row
    blocks k = numbered make 0 (filter (λ x. session x == k) xs)

unnumbered : {X Row : Type 0} (make : X → Row) (n : ℕ) (xs : List X) → numbered (λ _. make) n xs ≡ map make xs
unnumbered make n [] = refl
unnumbered make n (x ∷ xs) = ap (λ l. make x ∷ l) (unnumbered make (n + 1) xs)

unnumbered_on : {X Row : Type 0} (session : X → ℕ) (make : X → Row) (s n : ℕ) (xs : List X) → numbered_on session (λ _. make) s n xs ≡ map make xs
unnumbered_on session make s n [] = refl
unnumbered_on session make s n (x ∷ xs) = ap (λ l. make x ∷ l) (unnumbered_on session make (session x) ((if session x == s then n else 0) + 1) xs)

same_blocks : {Row : Type 0} (f g : ℕ → List Row) → ((k : ℕ) → f k ≡ g k) → (ks : List ℕ) → flat_map f ks ≡ flat_map g ks
same_blocks f g same [] = refl
same_blocks f g same (k ∷ ks) = ap (λ l. l ++ flat_map f ks) (same k) ∙ ap (λ l. g k ++ l) (same_blocks f g same ks)

-- without numbers
pub by_session : {X Row : Type 0} (session : X → ℕ) (make : X → Row) (count : ℕ) (xs : List X) → StandBySession session count xs
    → flat_map (λ k. map make (filter (λ x. session x == k) xs)) (sessions_from 1 count) ≡ map make xs
by_session session make count xs stand =
    same_blocks (λ k. map make (filter (λ x. session x == k) xs)) (λ k. numbered (λ _. make) 0 (filter (λ x. session x == k) xs))
    (λ k. sym (unnumbered make 0 (filter (λ x. session x == k) xs))) (sessions_from 1 count)
    ∙ by_number session (λ _. make) count xs stand
    ∙ unnumbered_on session make 0 0 xs
