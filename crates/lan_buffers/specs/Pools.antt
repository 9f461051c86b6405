-- Pools of waiting posts: one for each length, in the order in which the lengths were first posted.
use Rattle.std.specs.Prelude.{ℕ, ◌+◌, ◌==◌, Bool, false, zero, suc, List, [], ◌∷◌, ◌++◌, length, drop, if◌then◌else◌}
use Rattle.std.specs.List.{list_any}
use Rattle.lan_buffers.specs.declared.rows.PostRow.{PostRow}
use Rattle.lan_buffers.specs.declared.rows.DeliverRow.{DeliverRow}
use Rattle.lan_buffers.specs.Buffer.{buffer_len}

-- the length of a post
abbrev pub post_len : PostRow → ℕ
post_len post = buffer_len post.descriptor

-- whether a length is among these
abbrev pub has_size : ℕ → List ℕ → Bool
has_size size sizes = list_any (λ other. other == size) sizes

-- the lengths with this one, which comes behind them unless it is among them
abbrev pub with_size : ℕ → List ℕ → List ℕ
with_size size sizes = if has_size size sizes then sizes else sizes ++ size ∷ []

-- these lengths, and those of the posts
abbrev pub sizes_with : List ℕ → List PostRow → List ℕ
sizes_with sizes [] = sizes
sizes_with sizes (post ∷ posts) = sizes_with (with_size (post_len post) sizes) posts

-- the different lengths of the posts
abbrev pub sizes_of : List PostRow → List ℕ
sizes_of posts = sizes_with [] posts

-- the numbers of the posts of this length, where the first post has number `first`
abbrev pub numbers_from : (first size : ℕ) → List PostRow → List ℕ
numbers_from first size [] = []
numbers_from first size (post ∷ posts) =
    if post_len post == size
    then first ∷ numbers_from (first + 1) size posts
    else numbers_from (first + 1) size posts

-- the posts of this length, the oldest first
abbrev pub posted : ℕ → List PostRow → List ℕ
posted size posts = numbers_from 0 size posts

-- whether the post of this number has this length
abbrev pub has_length : (size : ℕ) → List PostRow → (number : ℕ) → Bool
has_length size [] number = false
has_length size (post ∷ posts) zero = post_len post == size
has_length size (post ∷ posts) (suc number) = has_length size posts number

-- the posts of this length that deliveries took, in the order of time
abbrev pub taken : ℕ → List PostRow → List DeliverRow → List ℕ
taken size posts [] = []
taken size posts (row ∷ rows) =
    if has_length size posts row.post
    then row.post ∷ taken size posts rows
    else taken size posts rows

-- the posts of this length that wait for a frame, the oldest first
abbrev pub waiting : ℕ → List PostRow → List DeliverRow → List ℕ
waiting size posts rows = drop (length (taken size posts rows)) (posted size posts)
