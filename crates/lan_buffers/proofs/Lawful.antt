-- What a post, a delivery and a harvest leave of the port law.
use Rattle.std.proofs.Common.{◌≡◌, ℕ, ◌+◌, ◌<◌, ◌≤◌, zero, suc, Bool, true, false, true≢false, List, [], ◌∷◌, ◌++◌, if◌then◌else◌, length, drop, map, All, Some, None, slice_get, append-nil, length-append, refl, sym, ◌∙◌, ap, subst, arith}
use Rattle.std.proofs.lemmas.Bool.{eq-eqb, ne_eqb}
use Rattle.std.proofs.lemmas.List.{map-append, drop-append-le, length-map}
use Rattle.std.proofs.lemmas.Option.{slice_get_within, get_or_from_slice_get}
use Rattle.vio_num.specs.declared.entry.Entry.{Entry}
use Rattle.vio_num.specs.Words.{Begins}
use Rattle.lan_buffers.specs.declared.rows.PostRow.{PostRow}
use Rattle.lan_buffers.specs.declared.rows.DeliverRow.{DeliverRow}
use Rattle.lan_buffers.specs.declared.rows.HarvestRow.{HarvestRow}
use Rattle.lan_buffers.specs.Pools.{post_len, with_size, sizes_with, sizes_of, numbers_from, posted, has_length, taken, waiting}
use Rattle.lan_buffers.specs.Port.{Session, IsLawfulSession, entries_from, receive_entry, receive_entries, read_entry, correlator_of, told_of}
use Rattle.lan_buffers.specs.Buffer.{toggle}
use Rattle.lan_buffers.proofs.Pooling.{by_eqb, all_push}
use Rattle.lan_buffers.proofs.Pushing.{begins_grow, begins_next, begins_len, slice_get-drop, slice_get-front, drop_one}

-- the posts of a length
numbers_head : (first size : ℕ) (post : PostRow) (posts : List PostRow) → post_len post ≡ size → numbers_from first size (post ∷ posts) ≡ first ∷ numbers_from (first + 1) size posts
numbers_head first size post posts e = rw (eq-eqb (post_len post) size e) refl

numbers_tail : (first size : ℕ) (post : PostRow) (posts : List PostRow) → (post_len post ≡ size → ⊥) → numbers_from first size (post ∷ posts) ≡ numbers_from (first + 1) size posts
numbers_tail first size post posts e = rw (ne_eqb (post_len post) size e) refl

numbers_append : (first size : ℕ) (posts more : List PostRow) → numbers_from first size (posts ++ more) ≡ numbers_from first size posts ++ numbers_from (first + length posts) size more
numbers_append first size [] more = ap (λ n. numbers_from n size more) (omega arith)
numbers_append first size (post ∷ posts) more =
    let next : numbers_from (first + 1) size (posts ++ more) ≡ numbers_from (first + 1) size posts ++ numbers_from (first + length (post ∷ posts)) size more =
    numbers_append (first + 1) size posts more ∙ ap (λ n. numbers_from (first + 1) size posts ++ numbers_from n size more) (omega arith) in
    by_eqb (post_len post) size (numbers_from first size (post ∷ (posts ++ more)) ≡ numbers_from first size (post ∷ posts) ++ numbers_from (first + length (post ∷ posts)) size more)
    (λ e. numbers_head first size post (posts ++ more) e ∙ ap (λ l. first ∷ l) next ∙ ap (λ l. l ++ numbers_from (first + length (post ∷ posts)) size more) (sym (numbers_head first size post posts e)))
    (λ e. numbers_tail first size post (posts ++ more) e ∙ next ∙ ap (λ l. l ++ numbers_from (first + length (post ∷ posts)) size more) (sym (numbers_tail first size post posts e)))

pub posted_own : (posts : List PostRow) (post : PostRow) → posted (post_len post) (posts ++ post ∷ []) ≡ posted (post_len post) posts ++ length posts ∷ []
posted_own posts post = numbers_append 0 (post_len post) posts (post ∷ [])
    ∙ ap (λ l. numbers_from 0 (post_len post) posts ++ l) (numbers_head (0 + length posts) (post_len post) post [] refl)
    ∙ ap (λ n. numbers_from 0 (post_len post) posts ++ n ∷ []) (omega arith)

pub posted_other : (size : ℕ) (posts : List PostRow) (post : PostRow) → (post_len post ≡ size → ⊥) → posted size (posts ++ post ∷ []) ≡ posted size posts
posted_other size posts post e =
    numbers_append 0 size posts (post ∷ []) ∙ ap (λ l. numbers_from 0 size posts ++ l) (numbers_tail (0 + length posts) size post [] e) ∙ append-nil (numbers_from 0 size posts)

-- whether a post of before has a length
has_length_more : (size : ℕ) (posts more : List PostRow) (number : ℕ) → number < length posts → has_length size (posts ++ more) number ≡ has_length size posts number
has_length_more size [] more number within = absurd (omega (arith, within))
has_length_more size (post ∷ posts) more zero within = refl
has_length_more size (post ∷ posts) more (suc number) within = has_length_more size posts more number (omega (arith, within))

tail_all : {X : Type 0} (P : X → Type 0) (x : X) (xs : List X) → All P (x ∷ xs) → All P xs
tail_all P x xs all = λ k d lt. all (suc k) d (omega (arith, lt))

taken_step : (size : ℕ) (posts : List PostRow) (row : DeliverRow) (rows : List DeliverRow) (b : Bool) → has_length size posts row.post ≡ b
    → taken size posts (row ∷ rows) ≡ (if b then row.post ∷ taken size posts rows else taken size posts rows)
taken_step size posts row rows b e = rw e refl

-- the deliveries of before took the same posts
pub taken_more : (size : ℕ) (posts more : List PostRow) (rows : List DeliverRow) → All (λ row. row.post < length posts) rows
    → taken size (posts ++ more) rows ≡ taken size posts rows
taken_more size posts more [] named = refl
taken_more size posts more (row ∷ rows) named =
    let same : has_length size (posts ++ more) row.post ≡ has_length size posts row.post = has_length_more size posts more row.post (named 0 row (omega arith)) in
    let next = taken_more size posts more rows (tail_all (λ r. r.post < length posts) row rows named) in
    taken_step size (posts ++ more) row rows (has_length size posts row.post) same
    ∙ ap (λ (l : List ℕ). if has_length size posts row.post then row.post ∷ l else l) next

taken_append : (size : ℕ) (posts : List PostRow) (rows more : List DeliverRow) → taken size posts (rows ++ more) ≡ taken size posts rows ++ taken size posts more
taken_append size posts [] more = refl
taken_append size posts (row ∷ rows) more = by_case (has_length size posts row.post) refl (taken_append size posts rows more)
  where
    by_case : (b : Bool) → has_length size posts row.post ≡ b → taken size posts (rows ++ more) ≡ taken size posts rows ++ taken size posts more
        → taken size posts (row ∷ (rows ++ more)) ≡ taken size posts (row ∷ rows) ++ taken size posts more
    by_case true e next =
        taken_step size posts row (rows ++ more) true e ∙ ap (λ l. row.post ∷ l) next
        ∙ ap (λ l. l ++ taken size posts more) (sym (taken_step size posts row rows true e))
    by_case false e next =
        taken_step size posts row (rows ++ more) false e ∙ next
        ∙ ap (λ l. l ++ taken size posts more) (sym (taken_step size posts row rows false e))

pub taken_own : (size : ℕ) (posts : List PostRow) (rows : List DeliverRow) (row : DeliverRow) → has_length size posts row.post ≡ true
    → taken size posts (rows ++ row ∷ []) ≡ taken size posts rows ++ row.post ∷ []
taken_own size posts rows row e = taken_append size posts rows (row ∷ []) ∙ ap (λ l. taken size posts rows ++ l) (taken_step size posts row [] true e)

pub taken_other : (size : ℕ) (posts : List PostRow) (rows : List DeliverRow) (row : DeliverRow) → has_length size posts row.post ≡ false
    → taken size posts (rows ++ row ∷ []) ≡ taken size posts rows
taken_other size posts rows row e =
    taken_append size posts rows (row ∷ []) ∙ ap (λ l. taken size posts rows ++ l) (taken_step size posts row [] false e) ∙ append-nil (taken size posts rows)

-- a number that was posted is that of a post, which has the length
pub record IsNumber (first size : ℕ) (posts : List PostRow) (number : ℕ) : Type 0 where
  pub place : ℕ
  pub is : number ≡ first + place
  pub within : place < length posts
  pub length_is : has_length size posts place ≡ true

number_later : (first size : ℕ) (post : PostRow) (posts : List PostRow) (number : ℕ) → IsNumber (first + 1) size posts number → IsNumber first size (post ∷ posts) number
number_later first size post posts number n = record { place = suc n.place; is = omega (arith, n.is); within = omega (arith, n.within); length_is = n.length_is }

some_same : {X : Type 0} (y x : X) → Some y ≡ Some x → y ≡ x
some_same y x e = cc (e)

at_head : (first size : ℕ) (post : PostRow) (posts : List PostRow) (number k : ℕ) → slice_get (first ∷ numbers_from (first + 1) size posts) k ≡ Some number
    → post_len post ≡ size → ((j : ℕ) → slice_get (numbers_from (first + 1) size posts) j ≡ Some number → IsNumber (first + 1) size posts number)
    → IsNumber first size (post ∷ posts) number
at_head first size post posts number zero e own next =
    record { place = 0; is = omega (arith, some_same first number e); within = omega arith; length_is = rw (eq-eqb (post_len post) size own) refl }
at_head first size post posts number (suc k) e own next = number_later first size post posts number (next k e)

numbers_are : (first size : ℕ) (posts : List PostRow) (k number : ℕ) → slice_get (numbers_from first size posts) k ≡ Some number → IsNumber first size posts number
numbers_are first size [] k number shown = absurd (none_some number shown)
  where
    none_some : (n : ℕ) → None ≡ Some n → ⊥
    none_some n e = cc (e)
numbers_are first size (post ∷ posts) k number shown =
    by_eqb (post_len post) size (IsNumber first size (post ∷ posts) number)
    (λ e. at_head first size post posts number k (ap (λ l. slice_get l k) (sym (numbers_head first size post posts e)) ∙ shown) e
    (λ j later. numbers_are (first + 1) size posts j number later))
    (λ e. number_later first size post posts number (numbers_are (first + 1) size posts k number (ap (λ l. slice_get l k) (sym (numbers_tail first size post posts e)) ∙ shown)))

pub post_of : (size : ℕ) (posts : List PostRow) (k number : ℕ) → slice_get (posted size posts) k ≡ Some number → (number < length posts) × (has_length size posts number ≡ true)
post_of size posts k number shown =
    let n = numbers_are 0 size posts k number shown in
    let e : n.place ≡ number = omega (arith, n.is) in
    (omega (arith, e, n.within), ap (λ i. has_length size posts i) (sym e) ∙ n.length_is)

-- a post has one length
pub one_length : (size other : ℕ) (posts : List PostRow) (number : ℕ) → has_length size posts number ≡ true → (size ≡ other → ⊥) → has_length other posts number ≡ false
one_length size other [] number has apart = refl
one_length size other (post ∷ posts) zero has apart =
    by_eqb (post_len post) size (has_length other (post ∷ posts) 0 ≡ false)
    (λ e. ne_eqb (post_len post) other (λ f. apart (sym e ∙ f)))
    (λ e. absurd (true≢false (sym has ∙ ne_eqb (post_len post) size e)))
one_length size other (post ∷ posts) (suc number) has apart = one_length size other posts number has apart

-- the receive entries of before
entries_more : (n k : ℕ) (posts more : List PostRow) (rows : List DeliverRow) → All (λ row. row.post < length posts) rows
    → entries_from n k (posts ++ more) rows ≡ entries_from n k posts rows
entries_more n k posts more [] named = refl
entries_more n k posts more (row ∷ rows) named =
    let same : correlator_of (slice_get (posts ++ more) row.post) ≡ correlator_of (slice_get posts row.post) =
    ap correlator_of (slice_get-front posts more row.post (named 0 row (omega arith))) in
    ap (λ (low : ℕ). record { high = toggle n k + told_of row; low = low } ∷ entries_from n (k + 1) (posts ++ more) rows) same
    ∙ ap (λ (l : List Entry). receive_entry n k posts row ∷ l) (entries_more n (k + 1) posts more rows (tail_all (λ r. r.post < length posts) row rows named))

entries_append : (n k : ℕ) (posts : List PostRow) (rows more : List DeliverRow) → entries_from n k posts (rows ++ more) ≡ entries_from n k posts rows ++ entries_from n (k + length rows) posts more
entries_append n k posts [] more = ap (λ i. entries_from n i posts more) (omega arith)
entries_append n k posts (row ∷ rows) more =
    ap (λ l. receive_entry n k posts row ∷ l) (entries_append n (k + 1) posts rows more ∙ ap (λ i. entries_from n (k + 1) posts rows ++ entries_from n i posts more) (omega arith))

pub entry_at : (n k : ℕ) (posts : List PostRow) (rows : List DeliverRow) (i : ℕ) (row : DeliverRow) → slice_get rows i ≡ Some row
    → slice_get (entries_from n k posts rows) i ≡ Some (receive_entry n (k + i) posts row)
entry_at n k posts [] i row shown = absurd (none_some shown)
  where
    none_some : None ≡ Some row → ⊥
    none_some e = cc (e)
entry_at n k posts (first ∷ rows) zero row shown =
    let same : first ≡ row = some_same shown in
    ap (λ r. Some (receive_entry n k posts r)) same ∙ ap (λ i. Some (receive_entry n i posts row)) (omega arith)
  where
    some_same : Some first ≡ Some row → first ≡ row
    some_same e = cc (e)
entry_at n k posts (first ∷ rows) (suc i) row shown =
    entry_at n (k + 1) posts rows i row shown ∙ ap (λ j. Some (receive_entry n j posts row)) (omega arith)

-- the lengths with those of one post more
sizes_append : (sizes : List ℕ) (posts more : List PostRow) → sizes_with sizes (posts ++ more) ≡ sizes_with (sizes_with sizes posts) more
sizes_append sizes [] more = refl
sizes_append sizes (post ∷ posts) more = sizes_append (with_size (post_len post) sizes) posts more

pub sizes_push : (posts : List PostRow) (post : PostRow) → sizes_of (posts ++ post ∷ []) ≡ with_size (post_len post) (sizes_of posts)
sizes_push posts post = sizes_append [] posts (post ∷ [])

-- a post, behind those of before
pub law_post : (n : ℕ) (posts : List PostRow) (rows : List DeliverRow) (reads : List HarvestRow) (post : PostRow) → length posts < length reads + n
    → IsLawfulSession n (record { posts = posts; deliveries = rows; harvests = reads })
    → IsLawfulSession n (record { posts = posts ++ post ∷ []; deliveries = rows; harvests = reads })
law_post n posts rows reads post room law = record {
  named = λ k d lt. omega (arith, law.named k d lt, length-append posts (post ∷ []));
  in_order = λ size. subst (λ l. Begins l (posted size (posts ++ post ∷ []))) (sym (taken_more size posts (post ∷ []) rows law.named))
      (subst (λ l. Begins (taken size posts rows) l) (sym (numbers_append 0 size posts (post ∷ [])))
      (begins_grow (taken size posts rows) (posted size posts) (numbers_from (0 + length posts) size (post ∷ [])) (law.in_order size)));
  harvested = subst (λ l. Begins (map read_entry reads) l) (sym (entries_more n 0 posts (post ∷ []) rows law.named)) law.harvested;
  within = omega (arith, room, length-append posts (post ∷ []));
}

-- a harvest of the next entry
pub law_harvest : (n : ℕ) (posts : List PostRow) (rows : List DeliverRow) (reads : List HarvestRow) (read : HarvestRow) (row : DeliverRow)
    → slice_get rows (length reads) ≡ Some row → read_entry read ≡ receive_entry n (length reads) posts row
    → IsLawfulSession n (record { posts = posts; deliveries = rows; harvests = reads })
    → IsLawfulSession n (record { posts = posts; deliveries = rows; harvests = reads ++ read ∷ [] })
law_harvest n posts rows reads read row made is law = record {
  named = law.named;
  in_order = law.in_order;
  harvested = subst (λ l. Begins l (entries_from n 0 posts rows)) (sym (map-append read_entry reads (read ∷ [])))
      (begins_next (map read_entry reads) (entries_from n 0 posts rows) (read_entry read) law.harvested
      (ap (λ k. slice_get (entries_from n 0 posts rows) k) (length-map reads read_entry)
      ∙ entry_at n 0 posts rows (length reads) row made
      ∙ ap (λ k. Some (receive_entry n k posts row)) (omega arith) ∙ ap (λ (e : Entry). Some e) (sym is)));
  within = omega (arith, law.within, length-append reads (read ∷ []));
}

-- what is taken next of a length
pub next_of : (size : ℕ) (posts : List PostRow) (rows : List DeliverRow) (number : ℕ) → slice_get (waiting size posts rows) 0 ≡ Some number
    → slice_get (posted size posts) (length (taken size posts rows)) ≡ Some number
next_of size posts rows number shown = sym (slice_get-drop (length (taken size posts rows)) (posted size posts)) ∙ shown

-- a delivery that takes the oldest post of a length
pub law_deliver : (n size : ℕ) (posts : List PostRow) (rows : List DeliverRow) (reads : List HarvestRow) (row : DeliverRow)
    → slice_get (waiting size posts rows) 0 ≡ Some row.post
    → IsLawfulSession n (record { posts = posts; deliveries = rows; harvests = reads })
    → IsLawfulSession n (record { posts = posts; deliveries = rows ++ row ∷ []; harvests = reads })
law_deliver n size posts rows reads row oldest law =
    let shown = next_of size posts rows row.post oldest in
    let post = post_of size posts (length (taken size posts rows)) row.post shown in
    record {
      named = all_push (λ r. r.post < length posts) rows row law.named post.0;
      in_order = λ other. by_eqb size other (Begins (taken other posts (rows ++ row ∷ [])) (posted other posts))
          (λ e. subst (λ s. Begins (taken s posts (rows ++ row ∷ [])) (posted s posts)) e
          (subst (λ l. Begins l (posted size posts)) (sym (taken_own size posts rows row post.1))
          (begins_next (taken size posts rows) (posted size posts) row.post (law.in_order size) shown)))
          (λ e. subst (λ l. Begins l (posted other posts)) (sym (taken_other other posts rows row (one_length size other posts row.post post.1 e))) (law.in_order other));
      harvested = subst (λ l. Begins (map read_entry reads) l) (sym (entries_append n 0 posts rows (row ∷ [])))
          (begins_grow (map read_entry reads) (entries_from n 0 posts rows) (entries_from n (0 + length rows) posts (row ∷ [])) law.harvested);
      within = law.within;
    }

-- what waits after a post
pub waits_post_own : (posts : List PostRow) (rows : List DeliverRow) (post : PostRow) → All (λ row. row.post < length posts) rows
    → Begins (taken (post_len post) posts rows) (posted (post_len post) posts)
    → waiting (post_len post) (posts ++ post ∷ []) rows ≡ waiting (post_len post) posts rows ++ length posts ∷ []
waits_post_own posts rows post named front =
    let size = post_len post in
    ap (λ (l : List ℕ). drop (length l) (posted size (posts ++ post ∷ []))) (taken_more size posts (post ∷ []) rows named)
    ∙ ap (λ l. drop (length (taken size posts rows)) l) (posted_own posts post)
    ∙ drop-append-le (length (taken size posts rows)) (posted size posts) (length posts ∷ []) (begins_len (taken size posts rows) (posted size posts) front)

pub waits_post_other : (size : ℕ) (posts : List PostRow) (rows : List DeliverRow) (post : PostRow) → All (λ row. row.post < length posts) rows
    → (post_len post ≡ size → ⊥) → waiting size (posts ++ post ∷ []) rows ≡ waiting size posts rows
waits_post_other size posts rows post named apart =
    ap (λ (l : List ℕ). drop (length l) (posted size (posts ++ post ∷ []))) (taken_more size posts (post ∷ []) rows named)
    ∙ ap (λ l. drop (length (taken size posts rows)) l) (posted_other size posts post apart)

-- what waits after a delivery
pub waits_deliver_own : (size : ℕ) (posts : List PostRow) (rows : List DeliverRow) (row : DeliverRow) → has_length size posts row.post ≡ true
    → waiting size posts (rows ++ row ∷ []) ≡ drop 1 (waiting size posts rows)
waits_deliver_own size posts rows row has =
    ap (λ (l : List ℕ). drop (length l) (posted size posts)) (taken_own size posts rows row has)
    ∙ ap (λ n. drop n (posted size posts)) (length-append (taken size posts rows) (row.post ∷ []))
    ∙ drop_one (length (taken size posts rows)) (posted size posts)

pub waits_deliver_other : (size : ℕ) (posts : List PostRow) (rows : List DeliverRow) (row : DeliverRow) → has_length size posts row.post ≡ false
    → waiting size posts (rows ++ row ∷ []) ≡ waiting size posts rows
waits_deliver_other size posts rows row has = ap (λ (l : List ℕ). drop (length l) (posted size posts)) (taken_other size posts rows row has)

length-entries : (n k : ℕ) (posts : List PostRow) (rows : List DeliverRow) → length (entries_from n k posts rows) ≡ length rows
length-entries n k posts [] = refl
length-entries n k posts (row ∷ rows) = ap suc (length-entries n (k + 1) posts rows)

-- no more is read than was delivered
pub reads_within : (n : ℕ) (s : Session) → IsLawfulSession n s → length s.harvests ≤ length s.deliveries
reads_within n s law = omega (
  arith,
  begins_len (map read_entry s.harvests) (receive_entries n s) law.harvested,
  length-map s.harvests read_entry,
  length-entries n 0 s.posts s.deliveries,
)

-- what is shown of a list has what all of it have
pub shown_has : {X : Type 0} (P : X → Type 0) (xs : List X) (k : ℕ) (x : X) → All P xs → slice_get xs k ≡ Some x → P x
shown_has P xs k x all shown = subst P (get_or_from_slice_get xs k x x shown) (all k x (slice_get_within xs k x shown))
