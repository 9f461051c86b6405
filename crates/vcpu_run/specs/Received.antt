-- What each server unit took in between turns: its receipts, over its pair's windows and its own queue, and what became of each.
use Rattle.std.specs.Prelude.{◌≡◌, ℕ, true, false, All, List, [], Some, None, slice_get}
use Rattle.vio_num.specs.declared.history.Grant.{Grant}
use Rattle.vio_num.specs.declared.history.Served.{Served}
use Rattle.crq_session.specs.PlainState.{end_of, side_of}
use Rattle.tce_window.specs.PlainPort.{known_of}
use Rattle.rdma_copy.specs.declared.copy.CopyRecord.{CopyRecord}
use Rattle.block_server.specs.Judged.{Judged}
use Rattle.block_server.specs.Judges.{HasJudged}
use Rattle.block_server.specs.Owed.{HaveAnswers}
use Rattle.block_server.specs.Ready.{AgreesAt}
use Rattle.block_server.specs.declared.records.Records.{Records}
use Rattle.block_server.specs.declared.unit.Unit.{Unit}
use Rattle.vcpu_run.specs.declared.pair.Pair.{Pair}
use Rattle.vcpu_run.specs.declared.script.Script.{Script}
use Rattle.vcpu_run.specs.Answered.{AreBegun, IsBehind}
use Rattle.vcpu_run.specs.ClientStrokes.{IsBare}
use Rattle.vcpu_run.specs.EventsMade.{events_at}
use Rattle.vcpu_run.specs.Gone.{IsToldOfGone}
use Rattle.vcpu_run.specs.Heard.{AreHeard}
use Rattle.vcpu_run.specs.Holding.{KeepQueues}
use Rattle.vcpu_run.specs.LastGiven.{HaveLastGiven}
use Rattle.vcpu_run.specs.Lines.{IsOver}
use Rattle.vcpu_run.specs.Links.{AreIdle}
use Rattle.vcpu_run.specs.Machines.{server_id}
use Rattle.vcpu_run.specs.Reached.{HasBegun}
use Rattle.vcpu_run.specs.TakenScripts.{PairUntaken}

-- these are the entries that server unit k took, each with its receipt and its fate
abbrev pub HasEntries : List Unit → List CopyRecord → List Grant → List Served → (k : ℕ) → Pair → List Judged → Type 0
HasEntries units copies grants history k pair judged =
    HasJudged units k (known_of pair.own) (known_of pair.window) (end_of [] pair.link true) copies history grants judged

-- Server unit k has a receipt and a fate for each entry that it took, its rows are those of its requests, it took all in sessions, and each
-- of its rows has its answer, is to have it, or is cut off; it was told where its client is gone, and takes its own queue for registered
-- exactly where it is; it put nothing before its queue's first session; and the answers of a login that goes on, and of those behind, were
-- put into the client's present session.
pub record IsReceived (units : List Unit) (copies : List CopyRecord) (grants : List Grant) (history : List Served) (k : ℕ) (pair : Pair) : Type 0 where
  pub judged : ∥ ((judged : List Judged) × HasEntries units copies grants history k pair judged) ∥₁
  pub begun : AreBegun (side_of pair.link true).queue.taken
  pub behind : IsBehind (end_of [] pair.link true)
  pub answers : ∥ HaveAnswers units k pair.own.unit (end_of [] pair.link true) history grants ∥₁
  pub gone : IsToldOfGone (end_of [] pair.link true)
  pub agrees : AgreesAt units k (end_of [] pair.link true)
  pub served : HasBegun (end_of [] pair.link true)
  pub last : ∥ HaveLastGiven units k pair.own.unit pair.link grants history ∥₁

abbrev pub AreReceived : List Unit → List CopyRecord → List Grant → List Served → List Pair → Type 0
AreReceived units copies grants history pairs = (k : ℕ) (pair : Pair) → slice_get pairs k ≡ Some pair → IsReceived units copies grants history k pair

-- No session of the server unit's queue began and nothing was taken from it, nothing was put into its client's, the client has sent and
-- taken nothing and made no event, nor did the server unit, no value was put into its window, and its region has no stroke.
pub record IsNew (pair : Pair) : Type 0 where
  pub session : (side_of pair.link true).queue.session ≡ 0
  pub taken : (side_of pair.link true).queue.taken ≡ []
  pub sent : (side_of pair.link false).queue.sent ≡ []
  pub kept : (side_of pair.link false).kept ≡ None
  pub event : (side_of pair.link true).kept ≡ None
  pub untaken : PairUntaken pair
  pub events : events_at pair ≡ 0
  pub rows : pair.window.rows ≡ []
  pub bare : IsBare pair

abbrev pub AreNew : List Pair → Type 0
AreNew pairs = (k : ℕ) (pair : Pair) → slice_get pairs k ≡ Some pair → IsNew pair

-- A machine whose run ended: its units wait, each server unit has its receipts, and what goes by what it was told is so.
pub record AreAtRest (copies : List CopyRecord) (grants : List Grant) (history : List Served) (pairs : List Pair) (scripts : List Script) : Type 0 where
  pub units : List Unit
  pub idle : AreIdle units pairs scripts
  pub unfreed : KeepQueues pairs scripts
  pub over : All IsOver scripts
  pub received : AreReceived units copies grants history pairs
  pub size : ℕ
  pub partition : ℕ
  pub records : Records
  pub rows_are : records.history.items ≡ history
  pub lines_are : records.grants.items ≡ grants
  pub names : (k : ℕ) (pair : Pair) → slice_get pairs k ≡ Some pair → pair.own.unit ≡ server_id partition k
  pub heard : AreHeard size partition units records copies pairs
