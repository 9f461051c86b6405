-- The tags of the rows of a plain client's server unit between turns: no two rows have one.
use Rattle.std.specs.Prelude.{◌≡◌, ◌≢◌, ◌<◌, ◌≤◌, ℕ, true, false, ⊤, All, List, [], ◌∷◌, filter, length, map}
use Rattle.std.specs.List.{AllPairs, Contains}
use Rattle.vio_num.specs.Entry.{is_srp_entry}
use Rattle.vio_num.specs.declared.entry.Entry.{Entry}
use Rattle.vio_num.specs.declared.history.Served.{Served}
use Rattle.vio_num.specs.declared.names.UnitId.{UnitId}
use Rattle.crq_ring.specs.declared.rows.PipeRow.{PipeRow}
use Rattle.block_server.specs.Answering.{answer_entry}
use Rattle.block_server.specs.Judged.{is_login}
use Rattle.block_server.specs.Makers.{same_unit}
use Rattle.block_server.specs.RowsOn.{row_tag}
use Rattle.block_server.specs.declared.request.Request.{Request}
use Rattle.vscsi_client.specs.State.{ClientState}
use Rattle.vscsi_client.specs.declared.row.Row.{Row}
use Rattle.vcpu_run.specs.DataKept.{AreAsked}
use Rattle.vcpu_run.specs.TagRows.{is_inward, row_at}

-- the tags of a unit's rows
abbrev pub tags_by : UnitId → List Served → List ℕ
tags_by unit rows = map row_tag (filter (λ row. same_unit row.unit unit) rows)

-- The tags of these requests rise, and none is above this one.
abbrev pub RequestsRise : (last : ℕ) → List Request → Type 0
RequestsRise last [] = ⊤
RequestsRise last (request ∷ requests) = (request.tag ≤ last) × All (λ other. request.tag < other.tag) requests × RequestsRise last requests

-- No two of these tags are the same; each is below those of these requests, which rise, and none is above this one.
pub record TagsKept (tags : List ℕ) (last : ℕ) (requests : List Request) : Type 0 where
  pub apart : AllPairs (λ a b. a ≢ b) tags
  pub most : All (λ tag. tag ≤ last) tags
  pub below : All (λ request. All (λ tag. tag < request.tag) tags) requests
  pub rise : RequestsRise last requests

-- An entry that was put into the client's queue answers what the client asked; if that is a command with data-in, its tag is one of these.
pub record IsAnswerFor (tags : List ℕ) (rs : List Row) (entry : Entry) : Type 0 where
  pub asked : is_srp_entry entry ≡ true → entry.low ≤ length rs
  pub row : is_srp_entry entry ≡ true → is_inward (row_at rs entry.low) ≡ true → Contains tags entry.low

-- So is each that was put into a client's queue; no command with data-in has the tag of a login that is among these requests; and the client
-- asked nothing under tag 0.
pub record AnswersKept (tags : List ℕ) (s : ClientState) (sent : List PipeRow) (requests : List Request) : Type 0 where
  pub put : All (λ row. IsAnswerFor tags s.rows row.entry) sent
  pub logins : All (λ request. is_login request.order ≡ true → is_inward (row_at s.rows request.tag) ≡ false) requests
  pub asked : AreAsked s.outgoing

-- An entry that was put into the client's queue is that of the answer of each of these rows that has its tag.
abbrev pub IsAnswerEntry : (rows : List Served) → Entry → Type 0
IsAnswerEntry rows entry = is_srp_entry entry ≡ true → All (λ row. row_tag row ≡ entry.low → entry ≡ answer_entry row) rows

-- What is asked later has a greater tag.
abbrev pub IsBelow : List Request → Entry → Type 0
IsBelow requests entry = is_srp_entry entry ≡ true → All (λ request. entry.low < request.tag) requests

-- So is each that was put there, and before what is asked by these requests.
pub record EntriesKept (rows : List Served) (sent : List PipeRow) (requests : List Request) : Type 0 where
  pub put : All (λ row. IsAnswerEntry rows row.entry) sent
  pub below : All (λ row. IsBelow requests row.entry) sent
