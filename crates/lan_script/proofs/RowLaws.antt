-- The rows of a port: whose they are, and in which order they stand.
use Rattle.std.proofs.Common.{◌≡◌, ◌+◌, ◌<◌, ◌≤◌, ◌==◌, inl, inr, ℕ, zero, suc, arith, Bool, true, false, cond, List, [], ◌∷◌, filter, map, refl, sym, ◌∙◌}
use Rattle.std.specs.List.{flat_map}
use Rattle.std.proofs.lemmas.Bool.{eqb-true}
use Rattle.vio_num.specs.declared.names.UnitId.{UnitId}
use Rattle.lan_buffers.specs.declared.rows.PostRow.{PostRow as Post}
use Rattle.lan_buffers.specs.declared.rows.DeliverRow.{DeliverRow as Delivery}
use Rattle.lan_buffers.specs.declared.rows.HarvestRow.{HarvestRow as Harvest}
use Rattle.vio_trace.specs.Form.{DeliverBefore, FrameBefore, HarvestBefore, PortBefore, PostBefore}
use Rattle.vio_trace.specs.declared.lan_rows.DeliverRow.{DeliverRow}
use Rattle.vio_trace.specs.declared.lan_rows.FrameRow.{FrameRow}
use Rattle.vio_trace.specs.declared.lan_rows.HarvestRow.{HarvestRow}
use Rattle.vio_trace.specs.declared.lan_rows.PortRow.{PortRow}
use Rattle.vio_trace.specs.declared.lan_rows.PostRow.{PostRow}
use Rattle.lan_script.specs.Rows.{deliver_row_of, deliveries_in, harvest_row_of, harvests_in, numbered, port_row_of, post_row_of, posts_in, sessions_from}
use Rattle.lan_script.specs.Units.{AreFrames}
use Rattle.lan_script.proofs.Order.{Each, Ordered, each_append, each_weaker, ordered_append}

-- a row of a unit's session from q on
abbrev pub IsFrom : {Row : Type 0} → (Row → UnitId) → (Row → ℕ) → UnitId → ℕ → Row → Type 0
IsFrom unit session u q row = (unit row ≡ u) × (q ≤ session row)

-- rows of sessions, one behind the other
pub sessions_in_order : {Row : Type 0} (unit : Row → UnitId) (session : Row → ℕ) (before : Row → Row → Type 0)
    → ((a b : Row) → unit a ≡ unit b → session a < session b → before a b) → (u : UnitId) (f : ℕ → List Row)
    → ((q : ℕ) → Each (λ row. (unit row ≡ u) × (session row ≡ q)) (f q)) → ((q : ℕ) → Ordered before (f q)) → (q count : ℕ)
    → Ordered before (flat_map f (sessions_from q count)) × Each (IsFrom unit session u q) (flat_map f (sessions_from q count))
sessions_in_order unit session before apart u f named own q zero = (tt, tt)
sessions_in_order {Row} unit session before apart u f named own q (suc count) =
    let rest = sessions_in_order unit session before apart u f named own (q + 1) count in (
      ordered_append before (f q) (flat_map f (sessions_from (q + 1) count)) (own q) rest.0
          (each_weaker (λ row. (unit row ≡ u) × (session row ≡ q)) (λ row. Each (before row) (flat_map f (sessions_from (q + 1) count)))
          (λ a ha. each_weaker (IsFrom unit session u (q + 1)) (before a)
          (λ b hb. apart a b (ha.0 ∙ sym hb.0) (omega (arith, ha.1, hb.1))) (flat_map f (sessions_from (q + 1) count)) rest.1) (f q) (named q)),
      each_append (IsFrom unit session u q) (f q) (flat_map f (sessions_from (q + 1) count))
          (each_weaker (λ row. (unit row ≡ u) × (session row ≡ q)) (IsFrom unit session u q) (λ row h. (h.0, omega (arith, h.1))) (f q) (named q))
          (each_weaker (IsFrom unit session u (q + 1)) (IsFrom unit session u q) (λ row h. (h.0, omega (arith, h.1)))
          (flat_map f (sessions_from (q + 1) count)) rest.1),
    )

-- what a filter by session leaves is of that session
pub filtered : {X : Type 0} (session : X → ℕ) (q : ℕ) (xs : List X) → Each (λ x. session x ≡ q) (filter (λ x. session x == q) xs)
filtered session q [] = tt
filtered session q (x ∷ xs) = at (session x == q) refl (filtered session q xs)
  where
    at : (b : Bool) → (session x == q) ≡ b → Each (λ y. session y ≡ q) (filter (λ y. session y == q) xs)
        → Each (λ y. session y ≡ q) (cond b (x ∷ filter (λ y. session y == q) xs) (filter (λ y. session y == q) xs))
    at true e rest = (eqb-true (session x) q e, rest)
    at false e rest = rest

-- the sessions of a port
pub ports_named : (u : UnitId) (slots n : ℕ) (drops : List ℕ) → Each (IsFrom (λ (row : PortRow). row.unit) (λ row. row.session) u n) (numbered (port_row_of u slots) n drops)
ports_named u slots n [] = tt
ports_named u slots n (d ∷ drops) = (
  (refl, omega arith),
  each_weaker (IsFrom (λ (row : PortRow). row.unit) (λ row. row.session) u (n + 1)) (IsFrom (λ (row : PortRow). row.unit) (λ row. row.session) u n)
      (λ row h. (h.0, omega (arith, h.1))) (numbered (port_row_of u slots) (n + 1) drops) (ports_named u slots (n + 1) drops),
)

pub ports_ordered : (u : UnitId) (slots n : ℕ) (drops : List ℕ) → Ordered PortBefore (numbered (port_row_of u slots) n drops)
ports_ordered u slots n [] = tt
ports_ordered u slots n (d ∷ drops) = (
  each_weaker (IsFrom (λ (row : PortRow). row.unit) (λ row. row.session) u (n + 1)) (PortBefore (port_row_of u slots n d))
      (λ row h. inr (sym h.0, omega (arith, h.1))) (numbered (port_row_of u slots) (n + 1) drops) (ports_named u slots (n + 1) drops),
  ports_ordered u slots (n + 1) drops,
)

-- the posts of a session
abbrev pub IsPostOf : UnitId → (q n : ℕ) → PostRow → Type 0
IsPostOf u q n row = (row.unit ≡ u) × ((row.session ≡ q) × (n ≤ row.number))

posts_named : (u : UnitId) (q n : ℕ) (posts : List Post) → Each (λ (post : Post). post.session ≡ q) posts
    → Each (IsPostOf u q n) (numbered (post_row_of u) n posts)
posts_named u q n [] all = tt
posts_named u q n (p ∷ posts) all = (
  (refl, (all.0, omega arith)),
  each_weaker (IsPostOf u q (n + 1)) (IsPostOf u q n) (λ row h. (h.0, (h.1.0, omega (arith, h.1.1))))
      (numbered (post_row_of u) (n + 1) posts) (posts_named u q (n + 1) posts all.1),
)

posts_ordered : (u : UnitId) (q n : ℕ) (posts : List Post) → Each (λ (post : Post). post.session ≡ q) posts
    → Ordered PostBefore (numbered (post_row_of u) n posts)
posts_ordered u q n [] all = tt
posts_ordered u q n (p ∷ posts) all = (
  each_weaker (IsPostOf u q (n + 1)) (PostBefore (post_row_of u n p))
      (λ row h. inr (sym h.0, inr (all.0 ∙ sym h.1.0, omega (arith, h.1.1)))) (numbered (post_row_of u) (n + 1) posts) (posts_named u q (n + 1) posts all.1),
  posts_ordered u q (n + 1) posts all.1,
)

-- all posts of a port
pub posts_are : (u : UnitId) (posts : List Post) (q count : ℕ)
    → Ordered PostBefore (flat_map (posts_in u posts) (sessions_from q count))
    × Each (IsFrom (λ (row : PostRow). row.unit) (λ row. row.session) u q) (flat_map (posts_in u posts) (sessions_from q count))
posts_are u posts q count =
    sessions_in_order (λ (row : PostRow). row.unit) (λ row. row.session) PostBefore (λ a b e less. inr (e, inl less)) u (posts_in u posts)
    (λ k. each_weaker (IsPostOf u k 0) (λ (row : PostRow). (row.unit ≡ u) × (row.session ≡ k)) (λ row h. (h.0, h.1.0)) (posts_in u posts k)
    (posts_named u k 0 (filter (λ row. row.session == k) posts) (filtered (λ (row : Post). row.session) k posts)))
    (λ k. posts_ordered u k 0 (filter (λ row. row.session == k) posts) (filtered (λ (row : Post). row.session) k posts)) q count

-- rows made one by one of what is of a session
made_named : {X Row : Type 0} (unit : Row → UnitId) (session : Row → ℕ) (of : X → ℕ) (make : X → Row) (u : UnitId) (q : ℕ)
    → ((x : X) → unit (make x) ≡ u) → ((x : X) → session (make x) ≡ of x) → (xs : List X) → Each (λ x. of x ≡ q) xs
    → Each (λ row. (unit row ≡ u) × (session row ≡ q)) (map make xs)
made_named unit session of make u q named said [] all = tt
made_named unit session of make u q named said (x ∷ xs) all =
    ((named x, said x ∙ all.0), made_named unit session of make u q named said xs all.1)

same_ordered : {Row : Type 0} (unit : Row → UnitId) (session : Row → ℕ) (before : Row → Row → Type 0) (u : UnitId) (q : ℕ)
    → ((a b : Row) → unit a ≡ unit b → session a ≡ session b → before a b) → (rows : List Row)
    → Each (λ row. (unit row ≡ u) × (session row ≡ q)) rows → Ordered before rows
same_ordered unit session before u q stands [] all = tt
same_ordered unit session before u q stands (row ∷ rows) all = (
  each_weaker (λ other. (unit other ≡ u) × (session other ≡ q)) (before row)
      (λ other h. stands row other (all.0.0 ∙ sym h.0) (all.0.1 ∙ sym h.1)) rows all.1,
  same_ordered unit session before u q stands rows all.1,
)

pub deliveries_are : (u : UnitId) (rows : List Delivery) (q count : ℕ)
    → Ordered DeliverBefore (flat_map (deliveries_in u rows) (sessions_from q count))
    × Each (IsFrom (λ (row : DeliverRow). row.unit) (λ row. row.session) u q) (flat_map (deliveries_in u rows) (sessions_from q count))
deliveries_are u rows q count =
    sessions_in_order (λ (row : DeliverRow). row.unit) (λ row. row.session) DeliverBefore (λ a b e less. inr (e, omega (arith, less))) u (deliveries_in u rows)
    named (λ k. same_ordered (λ (row : DeliverRow). row.unit) (λ row. row.session) DeliverBefore u k (λ a b e f. inr (e, omega (arith, f))) (deliveries_in u rows k) (named k)) q count
  where
    named : (k : ℕ) → Each (λ (row : DeliverRow). (row.unit ≡ u) × (row.session ≡ k)) (deliveries_in u rows k)
    named k =
        made_named (λ (row : DeliverRow). row.unit) (λ row. row.session) (λ (row : Delivery). row.session) (deliver_row_of u) u k (λ x. refl) (λ x. refl)
        (filter (λ row. row.session == k) rows) (filtered (λ (row : Delivery). row.session) k rows)

pub harvests_are : (u : UnitId) (rows : List Harvest) (q count : ℕ)
    → Ordered HarvestBefore (flat_map (harvests_in u rows) (sessions_from q count))
    × Each (IsFrom (λ (row : HarvestRow). row.unit) (λ row. row.session) u q) (flat_map (harvests_in u rows) (sessions_from q count))
harvests_are u rows q count =
    sessions_in_order (λ (row : HarvestRow). row.unit) (λ row. row.session) HarvestBefore (λ a b e less. inr (e, omega (arith, less))) u (harvests_in u rows)
    named (λ k. same_ordered (λ (row : HarvestRow). row.unit) (λ row. row.session) HarvestBefore u k (λ a b e f. inr (e, omega (arith, f))) (harvests_in u rows k) (named k)) q count
  where
    named : (k : ℕ) → Each (λ (row : HarvestRow). (row.unit ≡ u) × (row.session ≡ k)) (harvests_in u rows k)
    named k =
        made_named (λ (row : HarvestRow). row.unit) (λ row. row.session) (λ (row : Harvest). row.session) (harvest_row_of u) u k (λ x. refl) (λ x. refl)
        (filter (λ row. row.session == k) rows) (filtered (λ (row : Harvest). row.session) k rows)

-- the frames of a unit
pub frames_named : (u : UnitId) (n : ℕ) (rows : List FrameRow) → AreFrames u n rows
    → Each (IsFrom (λ (row : FrameRow). row.unit) (λ row. row.number) u n) rows
frames_named u n [] are = tt
frames_named u n (row ∷ rows) are = (
  (are.0.unit_is, omega (arith, are.0.number_is)),
  each_weaker (IsFrom (λ (row : FrameRow). row.unit) (λ row. row.number) u (n + 1)) (IsFrom (λ (row : FrameRow). row.unit) (λ row. row.number) u n)
      (λ other h. (h.0, omega (arith, h.1))) rows (frames_named u (n + 1) rows are.1),
)

pub frames_ordered : (u : UnitId) (n : ℕ) (rows : List FrameRow) → AreFrames u n rows → Ordered FrameBefore rows
frames_ordered u n [] are = tt
frames_ordered u n (row ∷ rows) are = (
  each_weaker (IsFrom (λ (row : FrameRow). row.unit) (λ row. row.number) u (n + 1)) (FrameBefore row)
      (λ other h. inr (are.0.unit_is ∙ sym h.0, omega (arith, are.0.number_is, h.1))) rows (frames_named u (n + 1) rows are.1),
  frames_ordered u (n + 1) rows are.1,
)
