-- An SRP entry that an own client's queue handed over, under the tag of an answer that the client noted, is as long as a response.
use Rattle.std.proofs.Common.{◌≡◌, ◌∙◌, ◌⊎◌, inl, inr, All, Contains, true, true≢false, List, map, sym, ap}
use Rattle.std.proofs.lemmas.List.Elements.{All-contains_itself, All-map, All-weaker}
use Rattle.vio_num.specs.declared.entry.Entry.{Entry}
use Rattle.vio_num.specs.declared.names.UnitId.{UnitId}
use Rattle.crq_ring.specs.Pipe.{IsLawfulPipe, PipeValue}
use Rattle.crq_ring.specs.declared.rows.PipeRow.{PipeRow}
use Rattle.block_server.specs.Entries.{is_response}
use Rattle.vio_trace.specs.declared.rows.AnswerRow.{AnswerRow}
use Rattle.vscsi_client.specs.declared.row.Row.{Row}
use Rattle.vcpu_run.specs.Gathered.{answer_by}
use Rattle.vcpu_run.specs.OwnClients.{IsResponseTo}
use Rattle.vcpu_run.specs.OwnKinds.{IsAskedTag, IsLoginTag, IsOfKind, is_no_login}
use Rattle.vcpu_run.specs.TagRows.{row_at}
use Rattle.vcpu_run.proofs.LinesShown.{all_has}
use Rattle.vcpu_run.proofs.PlainDataTold.{taken_as}

-- no login was asked for under such a tag
entry_response : (rs : List Row) (answers : List AnswerRow) (entry : Entry) → All (λ (row : AnswerRow). IsAskedTag rs row.tag) answers → IsOfKind rs entry → IsResponseTo answers entry
entry_response rs answers entry asked kind srp noted there same = by (kind srp)
  where
    is_asked : IsAskedTag rs noted.tag
    is_asked = all_has (λ (row : AnswerRow). IsAskedTag rs row.tag) answers noted asked there

    by : (is_response entry ≡ true) ⊎ IsLoginTag rs entry.low → is_response entry ≡ true
    by (inl response) = response
    by (inr login) = absurd (true≢false (sym is_asked ∙ (ap (λ n. is_no_login (row_at rs n)) same ∙ ap is_no_login login.row)))

-- the answers that a trace shows bear the tags that were noted
pub shown_asked : (rs : List Row) (client : UnitId) (answers : List AnswerRow) → All (λ (row : AnswerRow). IsAskedTag rs row.tag) answers
    → All (λ (row : AnswerRow). IsAskedTag rs row.tag) (map (answer_by client) answers)
shown_asked rs client answers asked = All-map (λ (row : AnswerRow). IsAskedTag rs row.tag) (answer_by client) answers asked

-- What is so of all that was put is so of all that was taken.
pub entries_respond : (rs : List Row) (answers : List AnswerRow) (pipe : PipeValue) → IsLawfulPipe pipe → All (λ (row : AnswerRow). IsAskedTag rs row.tag) answers
    → All (λ (row : PipeRow). IsOfKind rs row.entry) pipe.sent → All (λ (row : PipeRow). IsResponseTo answers row.entry) pipe.taken
entries_respond rs answers pipe laws asked put =
    All-weaker (Contains pipe.taken) (λ (row : PipeRow). IsResponseTo answers row.entry)
    (λ row there. entry_response rs answers row.entry asked (taken_as (IsOfKind rs) pipe laws put row there)) pipe.taken (All-contains_itself pipe.taken)
