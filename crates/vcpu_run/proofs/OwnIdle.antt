-- The steps within a turn of a server unit that change nothing of what lies between it and its client.
use Rattle.std.proofs.Common.{◌∙◌, ◌++◌, ℕ, List, append-nil, ap}
use Rattle.crq_session.specs.EndState.{EndState}
use Rattle.block_server.specs.Doings.{CallsOnly, Doing, SettlesEvent, event_put, rows_to}
use Rattle.vscsi_client.specs.State.{ClientState}
use Rattle.vcpu_run.specs.OwnTurns.{StillTalks}
use Rattle.vcpu_run.specs.PlainTalk.{Ask}
use Rattle.vcpu_run.proofs.OwnSame.{still_same}

unfoldable pub calls_only : (granted : ℕ) (old new : Doing) (s : ClientState) (own : EndState) (coming0 whole0 : List Ask) → CallsOnly old new → StillTalks granted old s own coming0 whole0
    → StillTalks granted new s own coming0 whole0
calls_only granted old new s own coming0 whole0 step still = still_same granted old new s own coming0 whole0 (record {
  unit = step.stays;
  served = step.aside.served;
  client = step.aside.client;
  coming = step.coming;
  sent = step.sent;
  ended = step.line.ended;
  handshake = step.line.handshake;
  reaches = step.line.reaches;
  event = step.line.event ∙ still.talks.goes.event;
}) step.kept still

-- no event was kept
unfoldable pub settles_none : (granted : ℕ) (old new : Doing) (s : ClientState) (own : EndState) (coming0 whole0 : List Ask) → SettlesEvent old new → StillTalks granted old s own coming0 whole0
    → StillTalks granted new s own coming0 whole0
settles_none granted old new s own coming0 whole0 step still = still_same granted old new s own coming0 whole0 (record {
  unit = step.stays;
  served = step.aside.served;
  client = step.aside.client;
  coming = step.coming;
  sent = step.sent ∙ ap (λ event. old.sent ++ rows_to old.to (event_put old.partner event)) still.talks.goes.event ∙ append-nil old.sent;
  ended = step.ended;
  handshake = step.handshake;
  reaches = step.reaches;
  event = step.event;
}) step.kept still
