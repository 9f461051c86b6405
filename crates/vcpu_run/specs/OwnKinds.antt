-- What an own client used its tags for, and what was put into its queue under them: the entry of each answer that is not a login's is that of a row.
use Rattle.std.specs.Prelude.{◌≡◌, ◌≤◌, ◌⊎◌, ℕ, All, Bool, true, false, List, length, ⊤}
use Rattle.vio_num.specs.Entry.{is_srp_entry}
use Rattle.vio_num.specs.declared.entry.Entry.{Entry}
use Rattle.crq_ring.specs.declared.rows.PipeRow.{PipeRow}
use Rattle.block_server.specs.Entries.{is_response}
use Rattle.vio_trace.specs.declared.rows.AnswerRow.{AnswerRow}
use Rattle.vscsi_client.specs.State.{ClientState}
use Rattle.vscsi_client.specs.declared.outgoing.Outgoing.{Outgoing}
use Rattle.vscsi_client.specs.declared.row.Row.{Row}
use Rattle.vscsi_client.specs.declared.row.Row.TheVariants as rows
use Rattle.vscsi_client.specs.declared.stage.Stage.{Stage}
use Rattle.vscsi_client.specs.declared.stage.Stage.TheVariants.{Idle, Sent, Written}
use Rattle.vcpu_run.specs.TagRows.{row_at}

-- A tag was used for a login.
pub record IsLoginTag (rs : List Row) (tag : ℕ) : Type 0 where
  pub used : tag ≤ length rs
  pub row : row_at rs tag ≡ rows.Login

-- whether a row is that of a command, a task, or a logout
abbrev pub is_no_login : Row → Bool
is_no_login rows.Login = false
is_no_login row = true

-- A tag was used for one of these.
abbrev pub IsAskedTag : List Row → ℕ → Type 0
IsAskedTag rs tag = is_no_login (row_at rs tag) ≡ true

-- The tag of a login that is under way was used for it.
abbrev pub IsOfLogin : List Row → Stage → Type 0
IsOfLogin rs (Written tag slot) = IsLoginTag rs tag
IsOfLogin rs (Sent tag slot) = IsLoginTag rs tag
IsOfLogin rs Idle = ⊤

-- An SRP entry is that of a response, 36, 40 or 54 bytes long, or bears the tag of a login.
abbrev pub IsOfKind : List Row → Entry → Type 0
IsOfKind rs entry = is_srp_entry entry ≡ true → (is_response entry ≡ true) ⊎ IsLoginTag rs entry.low

-- What is outstanding, and what was noted, bears tags that were used for something else than a login; and so does none but a response of what was
-- put into the client's queue.
pub record KeepsKinds (s : ClientState) (noted : List AnswerRow) (sent : List PipeRow) : Type 0 where
  pub asked : All (λ (o : Outgoing). IsAskedTag s.rows o.tag) s.outgoing
  pub answered : All (λ (row : AnswerRow). IsAskedTag s.rows row.tag) noted
  pub login : IsOfLogin s.rows s.login
  pub put : All (λ (row : PipeRow). IsOfKind s.rows row.entry) sent
