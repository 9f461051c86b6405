-- What an own client asked, counted by its rows; and what is so at its pair, whatever stands between it and its server unit.
use Rattle.std.specs.Prelude.{◌≡◌, ◌≢◌, ◌≤◌, ℕ, All, IfSome, List, [], None, length, map, true}
use Rattle.vio_num.specs.declared.history.Served.{Served}
use Rattle.crq_session.specs.PlainState.{end_of}
use Rattle.block_server.specs.RowsOn.{row_tag}
use Rattle.tce_window.specs.PlainPort.{known_of}
use Rattle.vscsi_client.specs.State.{ClientState}
use Rattle.vscsi_client.specs.declared.TheConstants.{DATA_START}
use Rattle.vscsi_client.specs.declared.row.Row.{Row}
use Rattle.vio_num.specs.declared.names.UnitId.{UnitId}
use Rattle.vcpu_run.specs.Credited.{Ended}
use Rattle.vcpu_run.specs.DataKept.{AreAsked, IsInwardAt}
use Rattle.vcpu_run.specs.OwnKinds.{KeepsKinds}
use Rattle.vcpu_run.specs.PlainBorne.{AreBorne}
use Rattle.vcpu_run.specs.PlainNoted.{AreAnswers, AreAskedFor, IsLaidAnswer}
use Rattle.vcpu_run.specs.PlainRejected.{TellsOf}
use Rattle.vcpu_run.specs.declared.driver.Driver.{Driver}
use Rattle.vcpu_run.specs.declared.pair.Pair.{Pair}

-- No request is outstanding under tag 0, and each of these rows has a tag that the client asked under.
pub record IsCounted (rows : List Served) (s : ClientState) : Type 0 where
  pub asked : AreAsked s.outgoing
  pub most : All (λ tag. tag ≤ length s.rows) (map row_tag rows)

-- Where the client's rows have data-in, they lie behind the driver's pages.
abbrev pub LieBehind : List Row → Type 0
LieBehind rs = (tag at len : ℕ) → IsInwardAt rs tag at len → DATA_START ≤ at

-- A client that knows of a login awaits no logout.
abbrev pub IsLogoutDone : ClientState → Type 0
IsLogoutDone s = IfSome s.granted (λ _. s.logout ≡ None)

-- What was laid, noted and told, where these are the rows of the server unit.
pub record KeepsPair (told : List Ended) (server : UnitId) (rows : List Served) (driver : Driver) (pair : Pair) : Type 0 where
  pub laid : All (TellsOf server (known_of pair.window).strokes) told
  pub apart : pair.window.unit ≢ server
  pub counted : IsCounted rows driver.client
  pub borne : AreBorne rows server driver.client.rows (known_of pair.window).strokes
  pub answered : AreAnswers rows pair.window.unit (known_of pair.window).strokes
  pub sized : AreAskedFor rows driver.client.rows
  pub noted : All (IsLaidAnswer pair.window.unit (known_of pair.window).strokes) driver.answers.items
  pub behind : LieBehind driver.client.rows
  pub logout : IsLogoutDone driver.client
  pub kinds : KeepsKinds driver.client driver.answers.items (end_of [] pair.link true).sent
