-- That posts which were all taken at some time are named by deliveries for good.
use Rattle.std.proofs.Common.{◌≡◌, ◌+◌, ◌==◌, ◌<◌, ◌≤◌, ◌++◌, ℕ, zero, suc, arith, Bool, true, false, All, List, [], ◌∷◌, Some, drop, filter, get_or, length, map, refl, sym, ◌∙◌, ap, subst}
use Rattle.std.specs.List.{Contains, flat_map, slice_get}
use Rattle.std.proofs.lemmas.Bool.{eq-eqb, eqb-true}
use Rattle.std.proofs.lemmas.Bool.Decides.{nat_tests}
use Rattle.std.proofs.lemmas.List.{get_or_append_left}
use Rattle.std.proofs.lemmas.List.Elements.{All-cons, All-contains, All-nil, Contains-append_left, Contains-append_right, filter-append}
use Rattle.std.proofs.lemmas.Option.{slice_get-get_or}
use Rattle.vio_num.specs.Words.{Begins}
use Rattle.vio_num.specs.declared.names.UnitId.{UnitId}
use Rattle.lan_buffers.specs.Pools.{has_length, numbers_from, post_len, posted, taken}
use Rattle.lan_buffers.specs.Port.{IsLawfulPort, PortValue, session_of}
use Rattle.lan_buffers.specs.declared.rows.DeliverRow.{DeliverRow as Delivery}
use Rattle.lan_buffers.specs.declared.rows.PostRow.{PostRow as Post}
use Rattle.lan_script.specs.Rows.{deliver_row_of, deliver_rows, deliveries_in, sessions_from}
use Rattle.lan_script.specs.Spent.{IsNamed, WasSpent}
use Rattle.lan_script.proofs.Placing.{by_bool}

-- ---- posts of one length

numbers_hit : (first size : ℕ) (post : Post) (posts : List Post) → (post_len post == size) ≡ true
    → numbers_from first size (post ∷ posts) ≡ first ∷ numbers_from (first + 1) size posts
numbers_hit first size post posts e = rw e refl

numbers_miss : (first size : ℕ) (post : Post) (posts : List Post) → (post_len post == size) ≡ false
    → numbers_from first size (post ∷ posts) ≡ numbers_from (first + 1) size posts
numbers_miss first size post posts e = rw e refl

-- more posts come behind
numbers_more : (first size : ℕ) (posts more : List Post) → Begins (numbers_from first size posts) (numbers_from first size (posts ++ more))
numbers_more first size [] more = (numbers_from first size more, refl)
numbers_more first size (post ∷ posts) more =
    let rest = numbers_more (first + 1) size posts more in
    by_bool (post_len post == size) (Begins (numbers_from first size (post ∷ posts)) (numbers_from first size (post ∷ (posts ++ more))))
    (λ e. (
      rest.0,
      numbers_hit first size post (posts ++ more) e ∙ ap (λ l. first ∷ l) rest.1 ∙ ap (λ l. l ++ rest.0) (sym (numbers_hit first size post posts e)),
    ))
    (λ e. (
      rest.0,
      numbers_miss first size post (posts ++ more) e ∙ rest.1 ∙ ap (λ l. l ++ rest.0) (sym (numbers_miss first size post posts e)),
    ))

-- a post of the length is among them
numbers_have : (first size k : ℕ) (posts : List Post) → slice_get (map post_len posts) k ≡ Some size → Contains (numbers_from first size posts) (first + k)
numbers_have first size k [] at = absurd (cc (at))
numbers_have first size zero (post ∷ posts) at =
    subst (λ l. Contains l (first + 0)) (sym (numbers_hit first size post posts (own at)))
    (zero, omega arith, omega arith)
  where
    own : Some (post_len post) ≡ Some size → (post_len post == size) ≡ true
    own e = eq-eqb (post_len post) size (cc (e))
numbers_have first size (suc k) (post ∷ posts) at =
    let rest = numbers_have (first + 1) size k posts at in
    let there : Contains (numbers_from (first + 1) size posts) (first + suc k) = subst (λ n. Contains (numbers_from (first + 1) size posts) n) (omega arith) rest in
    by_bool (post_len post == size) (Contains (numbers_from first size (post ∷ posts)) (first + suc k))
    (λ e. subst (λ l. Contains l (first + suc k)) (sym (numbers_hit first size post posts e)) (suc there.0, omega (arith, there.1), there.2))
    (λ e. subst (λ l. Contains l (first + suc k)) (sym (numbers_miss first size post posts e)) there)

-- ---- posts of one length that were taken

has_more : (size : ℕ) (posts more : List Post) (n : ℕ) → has_length size posts n ≡ true → has_length size (posts ++ more) n ≡ true
has_more size [] more n e = absurd (cc (e))
has_more size (post ∷ posts) more zero e = e
has_more size (post ∷ posts) more (suc n) e = has_more size posts more n e

taken_hit : (size : ℕ) (posts : List Post) (row : Delivery) (rows : List Delivery) → has_length size posts row.post ≡ true
    → taken size posts (row ∷ rows) ≡ row.post ∷ taken size posts rows
taken_hit size posts row rows e = rw e refl

taken_miss : (size : ℕ) (posts : List Post) (row : Delivery) (rows : List Delivery) → has_length size posts row.post ≡ false
    → taken size posts (row ∷ rows) ≡ taken size posts rows
taken_miss size posts row rows e = rw e refl

-- as more posts and deliveries come, no fewer are taken
taken_grow : (size : ℕ) (posts more : List Post) (rows later : List Delivery)
    → length (taken size posts rows) ≤ length (taken size (posts ++ more) (rows ++ later))
taken_grow size posts more [] later = omega arith
taken_grow size posts more (row ∷ rows) later =
    let rest = taken_grow size posts more rows later in
    by_bool (has_length size posts row.post) (length (taken size posts (row ∷ rows)) ≤ length (taken size (posts ++ more) (row ∷ (rows ++ later))))
    (λ e. omega (
      arith,
      rest,
      ap (λ l. length l) (taken_hit size posts row rows e),
      ap (λ l. length l) (taken_hit size (posts ++ more) row (rows ++ later) (has_more size posts more row.post e)),
    ))
    (λ e. by_bool (has_length size (posts ++ more) row.post) (length (taken size posts (row ∷ rows)) ≤ length (taken size (posts ++ more) (row ∷ (rows ++ later))))
    (λ f. omega (arith, rest, ap (λ l. length l) (taken_miss size posts row rows e), ap (λ l. length l) (taken_hit size (posts ++ more) row (rows ++ later) f)))
    (λ f. omega (arith, rest, ap (λ l. length l) (taken_miss size posts row rows e), ap (λ l. length l) (taken_miss size (posts ++ more) row (rows ++ later) f))))

-- What took a post.
pub record Takes (rows : List Delivery) (n : ℕ) : Type 0 where
  pub row : Delivery
  pub kept : Contains rows row
  pub post_is : row.post ≡ n

takes_later : (row : Delivery) (rows : List Delivery) (n : ℕ) → Takes rows n → Takes (row ∷ rows) n
takes_later row rows n h = record { row = h.row; kept = (suc h.kept.0, omega (arith, h.kept.1), h.kept.2); post_is = h.post_is }

-- the first post of those that are taken was taken by the first delivery
first_taken : (row : Delivery) (rows : List Delivery) (later : List ℕ) (n : ℕ) → ((j : ℕ) → slice_get later j ≡ Some n → Takes rows n)
    → (k : ℕ) → slice_get (row.post ∷ later) k ≡ Some n → Takes (row ∷ rows) n
first_taken row rows later n rest zero e = record { row = row; kept = (zero, omega arith, refl); post_is = same row.post n e }
  where
    same : (a b : ℕ) → Some a ≡ Some b → a ≡ b
    same a b f = cc (f)
first_taken row rows later n rest (suc j) e = takes_later row rows n (rest j e)

-- a post that is taken was taken by a delivery
taken_by : (size : ℕ) (posts : List Post) (rows : List Delivery) (n k : ℕ) → slice_get (taken size posts rows) k ≡ Some n → Takes rows n
taken_by size posts [] n k at = absurd (cc (at))
taken_by size posts (row ∷ rows) n k at =
    by_bool (has_length size posts row.post) (Takes (row ∷ rows) n)
    (λ e. first_taken row rows (taken size posts rows) n (λ j there. taken_by size posts rows n j there) k (ap (λ l. slice_get l k) (sym (taken_hit size posts row rows e)) ∙ at))
    (λ e. takes_later row rows n (taken_by size posts rows n k (ap (λ l. slice_get l k) (sym (taken_miss size posts row rows e)) ∙ at)))

-- ---- what was taken is named

drop_none : (n : ℕ) (xs : List ℕ) → drop n xs ≡ [] → length xs ≤ n
drop_none n [] e = omega arith
drop_none zero (x ∷ xs) e = absurd (cc (e))
drop_none (suc n) (x ∷ xs) e = omega (arith, drop_none n xs e)

-- a front of a list, in a longer one
front_filter : {X : Type 0} (test : X → Bool) (front whole : List X) → Begins front whole → Begins (filter test front) (filter test whole)
front_filter test front whole (rest, is) = (filter test rest, ap (λ l. filter test l) is ∙ filter-append test front rest)

-- lists of which both are fronts of a third agree as far as the shorter goes
both_fronts : (a b whole : List ℕ) (k n : ℕ) → Begins a whole → Begins b whole → k < length a → length a ≤ length b → get_or a k n ≡ n → slice_get b k ≡ Some n
both_fronts a b whole k n (ra, ea) (rb, eb) less long at =
    slice_get-get_or b k n (omega (arith, less, long))
    ∙ ap (λ (x : ℕ). Some x)
    (sym (get_or_append_left b rb n k (omega (arith, less, long))) ∙ ap (λ l. get_or l k n) (sym eb ∙ ea) ∙ get_or_append_left a ra n k less ∙ at)

pub was_named : (port : PortValue) (q : ℕ) (lengths : List ℕ) (least k len : ℕ) → IsLawfulPort port → WasSpent port q lengths least
    → slice_get lengths k ≡ Some len → least ≤ len → Takes (session_of q port).deliveries k
was_named port q lengths least k len lawful h at enough =
    taken_by len posts' rows' k there.0
    (both_fronts (posted len posts) (taken len posts' rows') (posted len posts') there.0 k begins ((lawful.sessions q).in_order len) there.1
    (omega (arith, spent, grown)) there.2)
  where
    posts : List Post
    posts = filter (λ (row : Post). row.session == q) h.posts

    posts' : List Post
    posts' = filter (λ (row : Post). row.session == q) port.posts

    rows : List Delivery
    rows = filter (λ (row : Delivery). row.session == q) h.deliveries

    rows' : List Delivery
    rows' = filter (λ (row : Delivery). row.session == q) port.deliveries

    more : Begins posts posts'
    more = front_filter (λ (row : Post). row.session == q) h.posts port.posts h.posted

    later : Begins rows rows'
    later = front_filter (λ (row : Delivery). row.session == q) h.deliveries port.deliveries h.delivered

    begins : Begins (posted len posts) (posted len posts')
    begins = subst (λ l. Begins (posted len posts) (posted len l)) (sym more.1) (numbers_more 0 len posts more.0)

    from_zero : 0 + k ≡ k
    from_zero = omega arith

    there : Contains (posted len posts) k
    there = subst (λ n. Contains (posted len posts) n) from_zero (numbers_have 0 len k posts (ap (λ l. slice_get l k) (sym h.lengths_are) ∙ at))

    spent : length (posted len posts) ≤ length (taken len posts rows)
    spent = drop_none (length (taken len posts rows)) (posted len posts) (h.none len enough)

    grown : length (taken len posts rows) ≤ length (taken len posts' rows')
    grown = subst (λ l. length (taken len posts rows) ≤ length (taken len l rows')) (sym more.1)
        (subst (λ l. length (taken len posts rows) ≤ length (taken len (posts ++ more.0) l)) (sym later.1) (taken_grow len posts more.0 rows later.0))

-- ---- its row

own_session : (q : ℕ) (rows : List Delivery) (row : Delivery) → Contains (filter (λ (r : Delivery). r.session == q) rows) row → row.session ≡ q
own_session q rows row h =
    eqb-true row.session q (All-contains (λ (r : Delivery). (r.session == q) ≡ true) (filter (λ (r : Delivery). r.session == q) rows) row (each rows) h)
  where
    each : (rs : List Delivery) → All (λ (r : Delivery). (r.session == q) ≡ true) (filter (λ (r : Delivery). r.session == q) rs)
    each [] = All-nil (λ (r : Delivery). (r.session == q) ≡ true)
    each (r ∷ rs) =
        by_bool (r.session == q) (All (λ (x : Delivery). (x.session == q) ≡ true) (filter (λ (x : Delivery). x.session == q) (r ∷ rs)))
        (λ e. subst (λ l. All (λ (x : Delivery). (x.session == q) ≡ true) l) (sym (hit e)) (All-cons (λ (x : Delivery). (x.session == q) ≡ true) r (filter (λ (x : Delivery). x.session == q) rs) e (each rs)))
        (λ e. subst (λ l. All (λ (x : Delivery). (x.session == q) ≡ true) l) (sym (miss e)) (each rs))
      where
        hit : (r.session == q) ≡ true → filter (λ (x : Delivery). x.session == q) (r ∷ rs) ≡ r ∷ filter (λ (x : Delivery). x.session == q) rs
        hit e = rw e refl

        miss : (r.session == q) ≡ false → filter (λ (x : Delivery). x.session == q) (r ∷ rs) ≡ filter (λ (x : Delivery). x.session == q) rs
        miss e = rw e refl

contains_map : {X Y : Type 0} (f : X → Y) (xs : List X) (x : X) → Contains xs x → Contains (map f xs) (f x)
contains_map {X = X} f xs x (k, less, at) = by xs k less at
  where
    by : (ys : List X) (j : ℕ) → j < length ys → get_or ys j x ≡ x → Contains (map f ys) (f x)
    by [] j less at = absurd (omega (arith, less))
    by (y ∷ ys) zero less at = (zero, omega arith, ap f at)
    by (y ∷ ys) (suc j) less at = let rest = by ys j (omega (arith, less)) at in (suc rest.0, omega (arith, rest.1), rest.2)

-- the rows of a session are among those of all
in_sessions : {X : Type 0} (rows : ℕ → List X) (x : X) (q first count : ℕ) → first ≤ q → q < first + count → Contains (rows q) x
    → Contains (flat_map rows (sessions_from first count)) x
in_sessions rows x q first zero least most h = absurd (omega (arith, least, most))
in_sessions rows x q first (suc count) least most h =
    by_bool (first == q) (Contains (rows first ++ flat_map rows (sessions_from (first + 1) count)) x)
    (λ e.
    Contains-append_left (rows first) (flat_map rows (sessions_from (first + 1) count)) x
    (subst (λ n. Contains (rows n) x) (sym (eqb-true first q e)) h))
    (λ e.
    Contains-append_right (rows first) (flat_map rows (sessions_from (first + 1) count)) x
    (in_sessions rows x q (first + 1) count (grind (arith, nat_tests, least, e)) (omega (arith, most)) h))

pub row_named : (unit : UnitId) (port : PortValue) (q k : ℕ) → 1 ≤ q → q ≤ length port.drop_counts → Takes (session_of q port).deliveries k
    → IsNamed (deliver_rows unit port) unit q k
row_named unit port q k begun within h = record {
  row = deliver_row_of unit h.row;
  kept = in_sessions (deliveries_in unit port.deliveries) (deliver_row_of unit h.row) q 1 (length port.drop_counts) begun (omega (arith, within))
      (contains_map (deliver_row_of unit) (filter (λ (r : Delivery). r.session == q) port.deliveries) h.row h.kept);
  unit_is = refl;
  session_is = own_session q port.deliveries h.row h.kept;
  post_is = h.post_is;
}
