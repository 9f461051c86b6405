-- What a client that is logged in shows of its server unit: that something was put into its queue, and so that a session of the server
-- unit's queue had begun.
use Rattle.std.specs.Prelude.{◌≡◌, List, [], None, Option, IfSome}
use Rattle.crq_ring.specs.declared.rows.PipeRow.{PipeRow}
use Rattle.crq_session.specs.EndState.{EndState}
use Rattle.vscsi_client.specs.State.{ClientState}
use Rattle.vcpu_run.specs.declared.driver.Driver.{Driver}

-- No login is on, and no entry is held.
pub record IsBlank (s : ClientState) : Type 0 where
  pub granted : s.granted ≡ None
  pub held : s.held ≡ None

-- so it is while nothing was put into the client's queue
abbrev pub IsBlankBefore : ClientState → List PipeRow → Type 0
IsBlankBefore s rows = rows ≡ [] → IsBlank s

abbrev pub IfReached : Option Driver → List PipeRow → Type 0
IfReached driver rows = IfSome driver (λ d. IsBlankBefore d.client rows)

-- the steps of a client keep this at its end
abbrev pub Reaches : (s s' : ClientState) → (end end' : EndState) → Type 0
Reaches s s' end end' = IsBlankBefore s end.place.received → IsBlankBefore s' end'.place.received

-- Before the own queue's first session nothing was put into the partner's queue, and no event is kept.
pub record HasBegun (end : EndState) : Type 0 where
  pub sent : end.last_session ≡ 0 → end.sent ≡ []
  pub kept : end.last_session ≡ 0 → end.kept ≡ None
