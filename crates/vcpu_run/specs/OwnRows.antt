-- What is so, within a turn of a server unit, of its rows and of what it laid in its client's window: the row in service has its answer once the
-- entry of that is put, and until then the answer stands over the request.
use Rattle.std.specs.Prelude.{◌≡◌, ◌≢◌, ◌⊎◌, ◌++◌, ◌*◌, ◌<◌, ℕ, All, List, [], ◌∷◌, Some, None, length}
use Rattle.vio_num.specs.declared.history.Served.{Served}
use Rattle.page_slots.specs.Stroke.{StrokeValue}
use Rattle.block_server.specs.Doings.{Doing}
use Rattle.block_server.specs.Judged.{row_in}
use Rattle.block_server.specs.RowsOn.{row_tag}
use Rattle.block_server.specs.declared.request.Request.{Request}
use Rattle.block_server.specs.declared.service.Outcome.TheVariants as outcomes
use Rattle.block_server.specs.declared.service.Stage.TheVariants as stages
use Rattle.vscsi_client.specs.State.{ClientState}
use Rattle.vscsi_client.specs.declared.TheConstants.{DATA_START}
use Rattle.vcpu_run.specs.PlainBorne.{AreBorne, rows_by}
use Rattle.vcpu_run.specs.PlainNoted.{AreAskedFor, IsAnswerOfRow, IsNoResponse}

-- This is the row in service: it is the last, of this unit, and bears the tag of the oldest request; these are the unit's rows before it.
pub record IsRowInService (d : Doing) (settled : List Served) (place : ℕ) : Type 0 where
  pub request : Request
  pub rest : List Request
  pub pending : d.pending ≡ request ∷ rest
  pub before : List Served
  pub row : Served
  pub place_is : place ≡ length before
  pub rows : d.rows ≡ before ++ row ∷ []
  pub unit_is : row.unit ≡ d.id
  pub tag_is : row_tag row ≡ request.tag
  pub settled_is : rows_by d.id before ≡ settled

-- These are the unit's rows, but for the one in service, if there is one.
pub record AreSettled (d : Doing) (settled : List Served) : Type 0 where
  pub none : row_in d.stage ≡ None → rows_by d.id d.rows ≡ settled
  pub one : (place : ℕ) → row_in d.stage ≡ Some place → IsRowInService d settled place

-- A stroke is the answer that stands over the oldest request, which has a row, and whose entry is to be put.
pub record IsAnswerDue (d : Doing) (stroke : StrokeValue) : Type 0 where
  pub place : ℕ
  pub stage : d.stage ≡ stages.Entry (outcomes.Served place)
  pub request : Request
  pub rest : List Request
  pub pending : d.pending ≡ request ∷ rest
  pub mark_is : stroke.name.mark ≡ request.tag
  pub answer_is : d.answer ≡ stroke.bytes

-- Each stroke of another unit on a page of the driver's is the answer of one of these rows, or no response, or that answer.
abbrev pub AreAnswersYet : Doing → (settled : List Served) → Type 0
AreAnswersYet d settled = (page : ℕ) → 4096 * page < DATA_START → (list : List StrokeValue) → d.client.strokes page ≡ Some list
    → All (λ stroke. stroke.name.who ≢ d.client.place.unit → IsAnswerOfRow settled stroke ⊎ (IsNoResponse stroke ⊎ IsAnswerDue d stroke)) list

-- What was laid bears data-in of rows, or answers them, and each row asks for as much as its client's command.
pub record KeepsRows (d : Doing) (s : ClientState) : Type 0 where
  pub borne : AreBorne (rows_by d.id d.rows) d.id s.rows d.client.strokes
  pub sized : AreAskedFor (rows_by d.id d.rows) s.rows
  pub settled : List Served
  pub settled_are : AreSettled d settled
  pub answered : AreAnswersYet d settled
