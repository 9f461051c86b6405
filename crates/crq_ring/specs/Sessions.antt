-- A queue over its sessions: rows that each name the session they belong to.
use Rattle.std.specs.Prelude.{◌≡◌, ℕ, ◌<◌, ◌≤◌, ◌==◌, ◌&&◌, Bool, List, [], ◌∷◌, map, filter, All, if◌then◌else◌}
use Rattle.std.specs.List.{AllPairs}
use Rattle.vio_num.specs.declared.entry.Entry.{Entry}
use Rattle.vio_num.specs.Queue.{LawfulDrop}
use Rattle.crq_ring.specs.declared.rows.PipeRow.{PipeRow}
use Rattle.crq_ring.specs.declared.rows.DropRow.{DropRow}

-- the entries of session q, in their order
unfoldable pub of_session : ℕ → List PipeRow → List Entry
of_session q rows = map (λ row. row.entry) (filter (λ row. row.session == q) rows)

-- whether two records are of one number of one session
abbrev pub same_number : DropRow → DropRow → Bool
same_number a b = (a.session == b.session) && (a.number == b.number)

-- the records with this one, which comes at their end unless its number has a record
unfoldable pub recorded : List DropRow → DropRow → List DropRow
recorded [] row = row ∷ []
recorded (first ∷ rest) row = if same_number first row then first ∷ rest else first ∷ recorded rest row

-- an earlier record: of an earlier session, or of a smaller number of the same
abbrev pub Precedes : DropRow → DropRow → Type 0
Precedes a b = (a.session ≤ b.session) × (a.session ≡ b.session → a.number < b.number)

-- a record of no later number: of an earlier session, or of the same with a number no greater
abbrev pub NotAfter : DropRow → DropRow → Type 0
NotAfter a b = (a.session ≤ b.session) × (a.session ≡ b.session → a.number ≤ b.number)

-- Each record is lawful in its session, and no number of a session has two.
pub record LawfulDrops (sent : List PipeRow) (drops : List DropRow) (n : ℕ) : Type 0 where
  pub lawful : All (λ row. LawfulDrop (of_session row.session sent) n row.number row.held) drops
  pub in_order : AllPairs Precedes drops

-- Rows stand in rising order of their sessions, and none is of a session behind the last.
pub record AreRising (last : ℕ) (rows : List PipeRow) : Type 0 where
  pub in_order : AllPairs (λ a b. a.session ≤ b.session) rows
  pub none_later : All (λ row. row.session ≤ last) rows
