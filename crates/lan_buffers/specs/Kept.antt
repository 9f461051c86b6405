-- What a port keeps of the posts that wait: a queue for each length, beside the list of lengths.
use Rattle.std.specs.Prelude.{◌≡◌, ℕ, ◌+◌, ◌≤◌, ◌<◌, ◌==◌, false, All, suc, List, [], ◌∷◌, ◌++◌, Option, IfSome, IsSomeAnd, length, drop, get_or, if◌then◌else◌}
use Rattle.lan_buffers.specs.Pools.{has_size, with_size, sizes_of, waiting}
use Rattle.lan_buffers.specs.declared.rows.PostRow.{PostRow}
use Rattle.lan_buffers.specs.declared.rows.DeliverRow.{DeliverRow}

pub record QueueValue : Type 0 where
  -- the numbers that wait, the oldest first
  pub numbers : List ℕ
  -- for how many more there is room
  pub spare : ℕ

pub record PoolsValue : Type 0 where
  -- the lengths, in the order in which they came
  pub sizes : List ℕ
  -- eight queues: one for each length in turn, and empty ones
  pub queues : List QueueValue
  -- the numbers for which each queue has room
  pub spare : ℕ

-- the place of a length among these, or their number
abbrev pub place_in : ℕ → List ℕ → ℕ
place_in size [] = 0
place_in size (other ∷ sizes) = if other == size then 0 else suc (place_in size sizes)

-- what waits of a length
abbrev pub waiting_in : List ℕ → List QueueValue → ℕ → List ℕ
waiting_in [] queues size = []
waiting_in (other ∷ sizes) [] size = []
waiting_in (other ∷ sizes) (queue ∷ queues) size =
    if other == size then queue.numbers else waiting_in sizes queues size

abbrev pub waits : PoolsValue → ℕ → List ℕ
waits pools size = waiting_in pools.sizes pools.queues size

-- no length stands twice
abbrev pub AreApart : List ℕ → Type 0
AreApart [] = Unit {0}
AreApart (size ∷ sizes) = (has_size size sizes ≡ false) × AreApart sizes

-- What pools keep: no length stands twice, there are eight queues, those of no length are empty, and
-- each has room.
pub record KeepsQueues (sizes : List ℕ) (queues : List QueueValue) (spare : ℕ) : Type 0 where
  pub apart : AreApart sizes
  pub eight : length queues ≡ 8
  pub unused : (place : ℕ) (d : QueueValue) → length sizes ≤ place → place < 8
      → (get_or queues place d).numbers ≡ []
  pub roomy : All (λ queue. spare ≤ queue.spare) queues

-- A length fits, a number of it waits, and it is below the best so far.
pub record IsBetter (waiting : List ℕ) (need size : ℕ) (best : Option ℕ) : Type 0 where
  pub fits : need ≤ size
  pub waits : 1 ≤ length waiting
  pub below : IfSome best (λ other. size < other)

-- Of the first n lengths, `best` is the least that fits and of which a number waits.
pub record IsLeastOf (need : ℕ) (waiting : ℕ → List ℕ) (sizes : List ℕ) (n : ℕ) (best : Option ℕ) : Type 0 where
  pub found : IfSome best (λ size. (need ≤ size) × (1 ≤ length (waiting size)))
  pub least : (k d : ℕ) → k < n → need ≤ get_or sizes k d → 1 ≤ length (waiting (get_or sizes k d))
      → IsSomeAnd best (λ size. size ≤ get_or sizes k d)

-- A number was added to the pool of its length, behind those that wait there.
pub record Adds (old : PoolsValue) (size number : ℕ) (new : PoolsValue) : Type 0 where
  pub sizes : new.sizes ≡ with_size size old.sizes
  pub added : waits new size ≡ waits old size ++ number ∷ []
  pub others : (other : ℕ) → (size ≡ other → ⊥) → waits new other ≡ waits old other
  pub spare : old.spare ≡ new.spare + 1

-- The oldest number of a length was taken.
pub record Takes (old : PoolsValue) (size : ℕ) (new : PoolsValue) : Type 0 where
  pub sizes : new.sizes ≡ old.sizes
  pub taken : waits new size ≡ drop 1 (waits old size)
  pub others : (other : ℕ) → (size ≡ other → ⊥) → waits new other ≡ waits old other
  pub spare : new.spare ≡ old.spare

-- What a port keeps of its last session's posts: their lengths, and which of each length wait.
pub record KeepsPools (pools : PoolsValue) (posts : List PostRow) (deliveries : List DeliverRow) : Type 0 where
  pub sizes : pools.sizes ≡ sizes_of posts
  pub waiting : (size : ℕ) → waits pools size ≡ waiting size posts deliveries
