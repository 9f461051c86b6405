-- Rows that each name the session they belong to, of which the last session's stand at the end.
use Rattle.std.specs.Prelude.{◌≡◌, ℕ, ◌≤◌, ◌==◌, List, length, drop, filter}
use Rattle.lan_buffers.specs.declared.rows.PostRow.{PostRow}
use Rattle.lan_buffers.specs.declared.rows.DeliverRow.{DeliverRow}
use Rattle.lan_buffers.specs.declared.rows.HarvestRow.{HarvestRow}
use Rattle.lan_buffers.specs.Kept.{PoolsValue, KeepsPools}
use Rattle.lan_buffers.specs.Port.{IsLawfulSession, StandBySession, rows_of}

-- The rows from `from` on are those of the last session.
pub record IsPresent {X : Type 0} (session_of : X → ℕ) (last from : ℕ) (rows : List X) : Type 0 where
  pub within : from ≤ length rows
  pub present : filter (λ row. session_of row == last) rows ≡ drop from rows
  pub order : StandBySession session_of last rows

-- What a port keeps: the port law of each session, where the rows of the last one stand, and its
-- pools.
pub record KeepsPort (slots last : ℕ) (posts : List PostRow) (posts_from : ℕ) (rows : List DeliverRow) (rows_from : ℕ) (reads : List HarvestRow) (reads_from : ℕ) (pools : PoolsValue) : Type 0 where
  pub sized : (1 ≤ slots) × (slots ≤ 1024)
  pub sessions : (q : ℕ) → IsLawfulSession slots (rows_of q posts rows reads)
  pub posts_at : IsPresent (λ row. row.session) last posts_from posts
  pub rows_at : IsPresent (λ row. row.session) last rows_from rows
  pub reads_at : IsPresent (λ row. row.session) last reads_from reads
  pub pools_are : KeepsPools pools (filter (λ row. row.session == last) posts)
      (filter (λ row. row.session == last) rows)
