-- What a post, a delivery, a harvest and a begin leave of what a port keeps.
use Rattle.std.proofs.Common.{◌≡◌, ℕ, ◌+◌, ◌<◌, ◌≤◌, ◌==◌, Bool, List, [], ◌∷◌, ◌++◌, if◌then◌else◌, length, drop, filter, Some, None, slice_get, refl, sym, ◌∙◌, ap, subst, drop_of_length-le, le_refl}
use Rattle.vio_num.specs.declared.entry.Entry.{Entry}
use Rattle.lan_buffers.specs.declared.rows.PostRow.{PostRow}
use Rattle.lan_buffers.specs.declared.rows.DeliverRow.{DeliverRow}
use Rattle.lan_buffers.specs.declared.rows.HarvestRow.{HarvestRow}
use Rattle.lan_buffers.specs.Pools.{post_len, with_size, taken, waiting}
use Rattle.lan_buffers.specs.Kept.{PoolsValue, KeepsPools, Adds, Takes, waits}
use Rattle.lan_buffers.specs.Port.{Session, IsLawfulSession, rows_of, receive_entry, read_entry, correlator_of}
use Rattle.lan_buffers.specs.Buffer.{toggle, frame_bits}
use Rattle.tce_window.specs.Held.{held_len}
use Rattle.lan_buffers.specs.Calls.{pool, IsSmallest, Chooses}
use Rattle.lan_buffers.specs.Present.{IsPresent, KeepsPort}
use Rattle.lan_buffers.proofs.Pooling.{by_eqb}
use Rattle.lan_buffers.proofs.Pushing.{begun_by, own_row, other_row, present_push, present_begin}
use Rattle.lan_buffers.proofs.Lawful.{law_post, law_harvest, law_deliver, sizes_push, waits_post_own, waits_post_other, waits_deliver_own, waits_deliver_other, next_of, post_of, one_length}

abbrev posts_in : ℕ → List PostRow → List PostRow
posts_in q posts = filter (λ row. row.session == q) posts

abbrev rows_in : ℕ → List DeliverRow → List DeliverRow
rows_in q rows = filter (λ row. row.session == q) rows

abbrev reads_in : ℕ → List HarvestRow → List HarvestRow
reads_in q reads = filter (λ row. row.session == q) reads

-- a buffer was posted
pub kept_post : (slots last : ℕ) (posts : List PostRow) (posts_from : ℕ) (rows : List DeliverRow) (rows_from : ℕ) (reads : List HarvestRow) (reads_from : ℕ) (pools pools' : PoolsValue) (post : PostRow)
    → KeepsPort slots last posts posts_from rows rows_from reads reads_from pools → post.session ≡ last → 1 ≤ last
    → length (filter (λ row. row.session == last) posts) < length (filter (λ row. row.session == last) reads) + slots
    → Adds pools (post_len post) (length (filter (λ row. row.session == last) posts)) pools'
    → KeepsPort slots last (posts ++ post ∷ []) posts_from rows rows_from reads reads_from pools'
kept_post slots last posts posts_from rows rows_from reads reads_from pools pools' post kept own begun room adds =
    let here : filter (λ row. row.session == last) (posts ++ post ∷ []) ≡ posts_in last posts ++ post ∷ [] = own_row (λ row. row.session) last posts post own in
    let law : IsLawfulSession slots (record { posts = posts_in last posts; deliveries = rows_in last rows; harvests = reads_in last reads }) = kept.sessions last in
    record {
      sized = kept.sized;
      sessions = λ q. by_eqb last q (IsLawfulSession slots (rows_of q (posts ++ post ∷ []) rows reads))
          (λ e. subst (λ r. IsLawfulSession slots (rows_of r (posts ++ post ∷ []) rows reads)) e
          (subst (λ l. IsLawfulSession slots (record { posts = l; deliveries = rows_in last rows; harvests = reads_in last reads })) (sym here)
          (law_post slots (posts_in last posts) (rows_in last rows) (reads_in last reads) post room law)))
          (λ e. subst (λ l. IsLawfulSession slots (record { posts = l; deliveries = rows_in q rows; harvests = reads_in q reads }))
          (sym (other_row (λ row. row.session) q posts post (λ f. e (sym own ∙ f)))) (kept.sessions q));
      posts_at = present_push (λ row. row.session) last posts_from posts post own begun kept.posts_at;
      rows_at = kept.rows_at;
      reads_at = kept.reads_at;
      pools_are = subst (λ l. KeepsPools pools' l (rows_in last rows)) (sym here) (record {
        sizes = adds.sizes ∙ ap (λ l. with_size (post_len post) l) kept.pools_are.sizes ∙ sym (sizes_push (posts_in last posts) post);
        waiting = λ size. by_eqb (post_len post) size (waits pools' size ≡ waiting size (posts_in last posts ++ post ∷ []) (rows_in last rows))
            (λ e. subst (λ s. waits pools' s ≡ waiting s (posts_in last posts ++ post ∷ []) (rows_in last rows)) e
            (adds.added ∙ ap (λ (l : List ℕ). l ++ length (posts_in last posts) ∷ []) (kept.pools_are.waiting (post_len post))
            ∙ sym (waits_post_own (posts_in last posts) (rows_in last rows) post law.named (law.in_order (post_len post)))))
            (λ e. adds.others size e ∙ kept.pools_are.waiting size ∙ sym (waits_post_other size (posts_in last posts) (rows_in last rows) post law.named e));
      });
    }

-- a delivery took the oldest post of a length
pub kept_deliver : (slots last : ℕ) (posts : List PostRow) (posts_from : ℕ) (rows : List DeliverRow) (rows_from : ℕ) (reads : List HarvestRow) (reads_from : ℕ) (pools pools' : PoolsValue) (size : ℕ) (row : DeliverRow)
    → KeepsPort slots last posts posts_from rows rows_from reads reads_from pools → row.session ≡ last → 1 ≤ last
    → slice_get (waiting size (filter (λ row. row.session == last) posts) (filter (λ row. row.session == last) rows)) 0 ≡ Some row.post
    → Takes pools size pools'
    → KeepsPort slots last posts posts_from (rows ++ row ∷ []) rows_from reads reads_from pools'
kept_deliver slots last posts posts_from rows rows_from reads reads_from pools pools' size row kept own begun oldest takes =
    let here : filter (λ row. row.session == last) (rows ++ row ∷ []) ≡ rows_in last rows ++ row ∷ [] = own_row (λ row. row.session) last rows row own in
    let law : IsLawfulSession slots (record { posts = posts_in last posts; deliveries = rows_in last rows; harvests = reads_in last reads }) = kept.sessions last in
    let shown = next_of size (posts_in last posts) (rows_in last rows) row.post oldest in
    let has = (post_of size (posts_in last posts) (length (taken size (posts_in last posts) (rows_in last rows))) row.post shown).1 in
    record {
      sized = kept.sized;
      sessions = λ q. by_eqb last q (IsLawfulSession slots (rows_of q posts (rows ++ row ∷ []) reads))
          (λ e. subst (λ r. IsLawfulSession slots (rows_of r posts (rows ++ row ∷ []) reads)) e
          (subst (λ l. IsLawfulSession slots (record { posts = posts_in last posts; deliveries = l; harvests = reads_in last reads })) (sym here)
          (law_deliver slots size (posts_in last posts) (rows_in last rows) (reads_in last reads) row oldest law)))
          (λ e. subst (λ l. IsLawfulSession slots (record { posts = posts_in q posts; deliveries = l; harvests = reads_in q reads }))
          (sym (other_row (λ row. row.session) q rows row (λ f. e (sym own ∙ f)))) (kept.sessions q));
      posts_at = kept.posts_at;
      rows_at = present_push (λ row. row.session) last rows_from rows row own begun kept.rows_at;
      reads_at = kept.reads_at;
      pools_are = subst (λ l. KeepsPools pools' (posts_in last posts) l) (sym here) (record {
        sizes = takes.sizes ∙ kept.pools_are.sizes;
        waiting = λ other. by_eqb size other (waits pools' other ≡ waiting other (posts_in last posts) (rows_in last rows ++ row ∷ []))
            (λ e. subst (λ s. waits pools' s ≡ waiting s (posts_in last posts) (rows_in last rows ++ row ∷ [])) e
            (takes.taken ∙ ap (λ (l : List ℕ). drop 1 l) (kept.pools_are.waiting size) ∙ sym (waits_deliver_own size (posts_in last posts) (rows_in last rows) row has)))
            (λ e. takes.others other e ∙ kept.pools_are.waiting other
            ∙ sym (waits_deliver_other other (posts_in last posts) (rows_in last rows) row (one_length size other (posts_in last posts) row.post has e)));
      });
    }

-- the next receive entry was read
pub kept_harvest : (slots last : ℕ) (posts : List PostRow) (posts_from : ℕ) (rows : List DeliverRow) (rows_from : ℕ) (reads : List HarvestRow) (reads_from : ℕ) (pools : PoolsValue) (read : HarvestRow) (row : DeliverRow)
    → KeepsPort slots last posts posts_from rows rows_from reads reads_from pools → read.session ≡ last
    → slice_get (filter (λ row. row.session == last) rows) (length (filter (λ row. row.session == last) reads)) ≡ Some row
    → read_entry read ≡ receive_entry slots (length (filter (λ row. row.session == last) reads)) (filter (λ row. row.session == last) posts) row
    → KeepsPort slots last posts posts_from rows rows_from (reads ++ read ∷ []) reads_from pools
kept_harvest slots last posts posts_from rows rows_from reads reads_from pools read row kept own made is =
    let here : filter (λ row. row.session == last) (reads ++ read ∷ []) ≡ reads_in last reads ++ read ∷ [] = own_row (λ row. row.session) last reads read own in
    record {
      sized = kept.sized;
      sessions = λ q. by_eqb last q (IsLawfulSession slots (rows_of q posts rows (reads ++ read ∷ [])))
          (λ e. subst (λ r. IsLawfulSession slots (rows_of r posts rows (reads ++ read ∷ []))) e
          (subst (λ l. IsLawfulSession slots (record { posts = posts_in last posts; deliveries = rows_in last rows; harvests = l })) (sym here)
          (law_harvest slots (posts_in last posts) (rows_in last rows) (reads_in last reads) read row made is (kept.sessions last))))
          (λ e. subst (λ l. IsLawfulSession slots (record { posts = posts_in q posts; deliveries = rows_in q rows; harvests = l }))
          (sym (other_row (λ row. row.session) q reads read (λ f. e (sym own ∙ f)))) (kept.sessions q));
      posts_at = kept.posts_at;
      rows_at = kept.rows_at;
      reads_at = present_push (λ row. row.session) last reads_from reads read own (begun_by (λ row. row.session) last (length (reads_in last reads)) rows row kept.rows_at.order.begun made) kept.reads_at;
      pools_are = kept.pools_are;
    }

-- a session that begins has no rows
pub none_yet : {X : Type 0} (f : X → ℕ) (last from : ℕ) (rows : List X) → IsPresent f last from rows → filter (λ row. f row == last + 1) rows ≡ []
none_yet f last from rows p = (present_begin f last from rows p).present ∙ drop_of_length-le rows (le_refl (length rows))

pub kept_begin : (slots last : ℕ) (posts : List PostRow) (posts_from : ℕ) (rows : List DeliverRow) (rows_from : ℕ) (reads : List HarvestRow) (reads_from : ℕ) (pools pools' : PoolsValue)
    → KeepsPort slots last posts posts_from rows rows_from reads reads_from pools → pools'.sizes ≡ []
    → KeepsPort slots (last + 1) posts (length posts) rows (length rows) reads (length reads) pools'
kept_begin slots last posts posts_from rows rows_from reads reads_from pools pools' kept empty = record {
  sized = kept.sized;
  sessions = kept.sessions;
  posts_at = present_begin (λ row. row.session) last posts_from posts kept.posts_at;
  rows_at = present_begin (λ row. row.session) last rows_from rows kept.rows_at;
  reads_at = present_begin (λ row. row.session) last reads_from reads kept.reads_at;
  pools_are =
      subst (λ l. KeepsPools pools' l (filter (λ row. row.session == last + 1) rows)) (sym (none_yet (λ row. row.session) last posts_from posts kept.posts_at))
      (subst (λ l. KeepsPools pools' [] l) (sym (none_yet (λ row. row.session) last rows_from rows kept.rows_at))
      (record { sizes = empty; waiting = λ size. no_waits pools' size empty }));
}
  where
    no_waits : (pools : PoolsValue) (size : ℕ) → pools.sizes ≡ [] → waits pools size ≡ []
    no_waits pools size e = rw e refl

-- pools of the same lengths and numbers
pub kept_pools : (slots last : ℕ) (posts : List PostRow) (posts_from : ℕ) (rows : List DeliverRow) (rows_from : ℕ) (reads : List HarvestRow) (reads_from : ℕ) (pools pools' : PoolsValue)
    → KeepsPort slots last posts posts_from rows rows_from reads reads_from pools → pools'.sizes ≡ pools.sizes → ((size : ℕ) → waits pools' size ≡ waits pools size)
    → KeepsPort slots last posts posts_from rows rows_from reads reads_from pools'
kept_pools slots last posts posts_from rows rows_from reads reads_from pools pools' kept sizes alike = record {
  sized = kept.sized;
  sessions = kept.sessions;
  posts_at = kept.posts_at;
  rows_at = kept.rows_at;
  reads_at = kept.reads_at;
  pools_are = record { sizes = sizes ∙ kept.pools_are.sizes; waiting = λ size. alike size ∙ kept.pools_are.waiting size };
}

abbrev pub entry_of : (high low : ℕ) → Entry
entry_of high low = record { high = high; low = low }

-- the receive entry that a row makes, from what it says
pub entry_told : (n number k : ℕ) (posts : List PostRow) (row : DeliverRow) (top high len low : ℕ) (blank : Bool) → number ≡ k → top ≡ toggle n number
    → high ≡ (if blank then 0 else frame_bits + len) → blank ≡ row.blank → len ≡ held_len row.to.items → low ≡ correlator_of (slice_get posts row.post)
    → entry_of (top + high) low ≡ receive_entry n k posts row
entry_told n number k posts row top high len low blank en et eh eb el ec = rw (et, eh, eb, el, ec, en) refl

-- the oldest post of the smallest length that fits is the one that a frame takes
split_first : (xs : List ℕ) (x : ℕ) → slice_get xs 0 ≡ Some x → xs ≡ x ∷ drop 1 xs
split_first [] x shown = absurd (none_some shown)
  where
    none_some : None ≡ Some x → ⊥
    none_some e = cc (e)
split_first (y ∷ xs) x shown = ap (λ z. z ∷ xs) (some_same shown)
  where
    some_same : Some y ≡ Some x → y ≡ x
    some_same e = cc (e)

pub chooses : (s : Session) (len size post : ℕ) → IsSmallest s len size → slice_get (pool size s) 0 ≡ Some post → Chooses s len post
chooses s len size post least oldest = record {
  size = size;
  fits = least.fits;
  smallest = least.smallest;
  later = drop 1 (pool size s);
  oldest = split_first (pool size s) post oldest;
}

-- the oldest post of a length is one of the session's
pub oldest_within : (s : Session) (size post : ℕ) → slice_get (pool size s) 0 ≡ Some post → post < length s.posts
oldest_within s size post oldest = (post_of size s.posts (length (taken size s.posts s.deliveries)) post (next_of size s.posts s.deliveries post oldest)).0
