-- The rows that a trace has of a port's posts and harvests, counted session by session.
use Rattle.std.proofs.Common.{◌≡◌, ◌+◌, ◌≤◌, ◌<◌, ◌==◌, ℕ, zero, suc, arith, Bool, true, false, List, [], ◌∷◌, ◌++◌, filter, length, length-append, map, if◌then◌else◌, refl, ◌∙◌, ap}
use Rattle.std.specs.List.{flat_map}
use Rattle.std.proofs.lemmas.List.Elements.{filter-append}
use Rattle.vio_num.specs.declared.names.UnitId.{UnitId}
use Rattle.lan_buffers.specs.declared.rows.PostRow.{PostRow as Post}
use Rattle.lan_buffers.specs.declared.rows.HarvestRow.{HarvestRow as Harvest}
use Rattle.vio_trace.specs.declared.lan_rows.HarvestRow.{HarvestRow}
use Rattle.lan_script.specs.PortCounts.{is_frame}
use Rattle.lan_script.specs.Rows.{harvest_row_of, harvests_in, numbered, post_row_of, posts_in, sessions_from}
use Rattle.lan_script.proofs.Placing.{by_bool}

-- a number for each session, summed
abbrev pub sum_of : (ℕ → ℕ) → List ℕ → ℕ
sum_of f [] = 0
sum_of f (q ∷ qs) = f q + sum_of f qs

sum_same : (f g : ℕ → ℕ) → ((q : ℕ) → f q ≡ g q) → (qs : List ℕ) → sum_of f qs ≡ sum_of g qs
sum_same f g same [] = refl
sum_same f g same (q ∷ qs) = omega (arith, same q, sum_same f g same qs)

-- n of one session, and none of another
abbrev only : (s n q : ℕ) → ℕ
only s n q = if s == q then n else 0

only_other : (s n q : ℕ) → s < q → only s n q ≡ 0
only_other s n q less = by_bool (s == q) (only s n q ≡ 0) (λ e. absurd (grind (arith, less, e))) (λ e. rw e refl)

only_own : (s n q : ℕ) → s ≡ q → only s n q ≡ n
only_own s n q same = by_bool (s == q) (only s n q ≡ n) (λ e. rw e refl) (λ e. absurd (grind (arith, same, e)))

-- as much more of one session is as much more of all
sum_past : (f g : ℕ → ℕ) (s n q count : ℕ) → ((k : ℕ) → g k ≡ f k + only s n k) → s < q → sum_of g (sessions_from q count) ≡ sum_of f (sessions_from q count)
sum_past f g s n q zero more past = refl
sum_past f g s n q (suc count) more past =
    omega (arith, more q, only_other s n q past, sum_past f g s n (q + 1) count more (omega (arith, past)))

other_before : (s n q : ℕ) → q < s → only s n q ≡ 0
other_before s n q less = by_bool (s == q) (only s n q ≡ 0) (λ e. absurd (grind (arith, less, e))) (λ e. rw e refl)

pub sum_more : (f g : ℕ → ℕ) (s n q count : ℕ) → ((k : ℕ) → g k ≡ f k + only s n k) → q ≤ s → s < q + count
    → sum_of g (sessions_from q count) ≡ sum_of f (sessions_from q count) + n
sum_more f g s n q zero more least most = absurd (omega (arith, least, most))
sum_more f g s n q (suc count) more least most =
    by_bool (s == q) (sum_of g (sessions_from q (suc count)) ≡ sum_of f (sessions_from q (suc count)) + n)
    (λ e.
    let same : s ≡ q = grind (arith, e) in
    omega (arith, more q, only_own s n q same, sum_past f g s n (q + 1) count more (omega (arith, same))))
    (λ e.
    let less : q < s = grind (arith, least, e) in
    omega (arith, more q, other_before s n q less, sum_more f g s n (q + 1) count more (omega (arith, less)) (omega (arith, most))))

-- a session of none adds none
pub sum_none : (f : ℕ → ℕ) (q count : ℕ) → f (q + count) ≡ 0 → sum_of f (sessions_from q (suc count)) ≡ sum_of f (sessions_from q count)
sum_none f q zero none = omega (arith, none, ap f (same q))
  where
    same : (n : ℕ) → n ≡ n + 0
    same n = omega arith
sum_none f q (suc count) none =
    omega (arith, sum_none f (q + 1) count (ap f (same q count) ∙ none))
  where
    same : (n m : ℕ) → n + 1 + m ≡ n + suc m
    same n m = omega arith

pub flat_length : {X : Type 0} (f : ℕ → List X) (qs : List ℕ) → length (flat_map f qs) ≡ sum_of (λ q. length (f q)) qs
flat_length f [] = refl
flat_length f (q ∷ qs) = length-append (f q) (flat_map f qs) ∙ ap (λ n. length (f q) + n) (flat_length f qs)

-- posts by session
abbrev pub posts_of : List Post → ℕ → ℕ
posts_of posts q = length (filter (λ (p : Post). p.session == q) posts)

numbered_length : {X Row : Type 0} (row : ℕ → X → Row) (n : ℕ) (xs : List X) → length (numbered row n xs) ≡ length xs
numbered_length row n [] = refl
numbered_length row n (x ∷ xs) = ap suc (numbered_length row (n + 1) xs)

pub posts_counted : (unit : UnitId) (posts : List Post) (qs : List ℕ) → length (flat_map (posts_in unit posts) qs) ≡ sum_of (posts_of posts) qs
posts_counted unit posts qs =
    flat_length (posts_in unit posts) qs
    ∙ sum_same (λ q. length (posts_in unit posts q)) (posts_of posts)
    (λ q. numbered_length (post_row_of unit) 0 (filter (λ (p : Post). p.session == q) posts)) qs

one_post : (post : Post) (q : ℕ) → length (filter (λ (p : Post). p.session == q) (post ∷ [])) ≡ only post.session 1 q
one_post post q = by (post.session == q) refl
  where
    by : (b : Bool) → (post.session == q) ≡ b → length (filter (λ (p : Post). p.session == q) (post ∷ [])) ≡ only post.session 1 q
    by true e = rw e refl
    by false e = rw e refl

pub posts_one : (posts : List Post) (post : Post) (q : ℕ) → posts_of (posts ++ post ∷ []) q ≡ posts_of posts q + only post.session 1 q
posts_one posts post q =
    ap (λ l. length l) (filter-append (λ (p : Post). p.session == q) posts (post ∷ []))
    ∙ length-append (filter (λ (p : Post). p.session == q) posts) (filter (λ (p : Post). p.session == q) (post ∷ []))
    ∙ ap (λ n. posts_of posts q + n) (one_post post q)

-- frames taken by session
abbrev pub frames_of : List Harvest → ℕ → ℕ
frames_of rows q = length (filter (λ (r : Harvest). is_frame r.high) (filter (λ (r : Harvest). r.session == q) rows))

mapped_frames : (unit : UnitId) (rows : List Harvest) → length (filter (λ (r : HarvestRow). is_frame r.high) (map (harvest_row_of unit) rows))
    ≡ length (filter (λ (r : Harvest). is_frame r.high) rows)
mapped_frames unit [] = refl
mapped_frames unit (r ∷ rows) = by (is_frame r.high) refl (mapped_frames unit rows)
  where
    by : (b : Bool) → is_frame r.high ≡ b
        → length (filter (λ (x : HarvestRow). is_frame x.high) (map (harvest_row_of unit) rows)) ≡ length (filter (λ (x : Harvest). is_frame x.high) rows)
        → length (filter (λ (x : HarvestRow). is_frame x.high) (map (harvest_row_of unit) (r ∷ rows)))
        ≡ length (filter (λ (x : Harvest). is_frame x.high) (r ∷ rows))
    by true e rest = rw e (ap suc rest)
    by false e rest = rw e rest

pub frames_counted : (unit : UnitId) (rows : List Harvest) (qs : List ℕ)
    → length (filter (λ (r : HarvestRow). is_frame r.high) (flat_map (harvests_in unit rows) qs)) ≡ sum_of (frames_of rows) qs
frames_counted unit rows [] = refl
frames_counted unit rows (q ∷ qs) =
    let own : List Harvest = filter (λ (r : Harvest). r.session == q) rows in
    ap (λ l. length l) (filter-append (λ (r : HarvestRow). is_frame r.high) (harvests_in unit rows q) (flat_map (harvests_in unit rows) qs))
    ∙ length-append (filter (λ (r : HarvestRow). is_frame r.high) (harvests_in unit rows q)) (filter (λ (r : HarvestRow). is_frame r.high) (flat_map (harvests_in unit rows) qs))
    ∙ ap (λ n. n + length (filter (λ (r : HarvestRow). is_frame r.high) (flat_map (harvests_in unit rows) qs))) (mapped_frames unit own)
    ∙ ap (λ n. frames_of rows q + n) (frames_counted unit rows qs)

-- 1 for a frame
abbrev pub one_if : Bool → ℕ
one_if b = if b then 1 else 0

one_harvest : (row : Harvest) (q : ℕ) → frames_of (row ∷ []) q ≡ only row.session (one_if (is_frame row.high)) q
one_harvest row q = by (row.session == q) (is_frame row.high) refl refl
  where
    by : (b c : Bool) → (row.session == q) ≡ b → is_frame row.high ≡ c → frames_of (row ∷ []) q ≡ only row.session (one_if (is_frame row.high)) q
    by true true e f = rw e (rw f refl)
    by true false e f = rw e (rw f refl)
    by false c e f = rw e refl

pub frames_one : (rows : List Harvest) (row : Harvest) (q : ℕ) → frames_of (rows ++ row ∷ []) q ≡ frames_of rows q + only row.session (one_if (is_frame row.high)) q
frames_one rows row q =
    ap (λ l. length (filter (λ (r : Harvest). is_frame r.high) l)) (filter-append (λ (r : Harvest). r.session == q) rows (row ∷ []))
    ∙ ap (λ l. length l) (filter-append (λ (r : Harvest). is_frame r.high) (filter (λ (r : Harvest). r.session == q) rows) (filter (λ (r : Harvest). r.session == q) (row ∷ [])))
    ∙ length-append (filter (λ (r : Harvest). is_frame r.high) (filter (λ (r : Harvest). r.session == q) rows)) (filter (λ (r : Harvest). is_frame r.high) (filter (λ (r : Harvest). r.session == q) (row ∷ [])))
    ∙ ap (λ n. frames_of rows q + n) (one_harvest row q)
