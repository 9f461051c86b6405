-- What a pipe keeps between its calls, besides the laws.
use Rattle.std.specs.Prelude.{◌≡◌, ℕ, ◌+◌, ◌<◌, ◌≤◌, List, [], length, map, take, drop, All}
use Rattle.crq_ring.specs.declared.rows.PipeRow.{PipeRow}
use Rattle.crq_ring.specs.declared.rows.DropRow.{DropRow}
use Rattle.crq_ring.specs.Sessions.{of_session, AreRising, LawfulDrops}

-- The rows from `from` on are those of the present session.
pub record Present (session from : ℕ) (rows : List PipeRow) : Type 0 where
  pub within : from ≤ length rows
  pub entries : of_session session rows ≡ map (λ row. row.entry) (drop from rows)
  pub none_later : (q : ℕ) → session < q → of_session q rows ≡ []
  pub rising : AreRising session rows

-- The queue law of each session, in the form that is kept.
pub record HandsOver (sent taken : List PipeRow) (n : ℕ) : Type 0 where
  pub in_order : (q : ℕ) → of_session q taken ≡ take (length (of_session q taken)) (of_session q sent)
  pub within : (q : ℕ) → length (of_session q sent) ≤ length (of_session q taken) + n

-- The drop law, and that no record is of a later session.
pub record KeepsDrops (sent : List PipeRow) (drops : List DropRow) (session n : ℕ) : Type 0 where
  pub lawful : LawfulDrops sent drops n
  pub none_later : All (λ row. row.session ≤ session) drops
