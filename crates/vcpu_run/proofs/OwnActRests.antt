-- What is so of a client at rest, whose server unit's session is over, or was: it is owed no login; and whether its queue is registered stays as
-- entries are taken.
use Rattle.std.proofs.Common.{◌≡◌, ◌∙◌, ℕ, Bool, false, List, [], ◌∷◌, ap}
use Rattle.crq_session.specs.EndState.{EndState}
use Rattle.block_server.specs.Doings.{Doing}
use Rattle.vscsi_client.specs.State.{ClientState}
use Rattle.vscsi_client.specs.declared.stage.Stage.TheVariants.{Idle}
use Rattle.vcpu_run.specs.Acts.{Acting}
use Rattle.vcpu_run.specs.OwnActs.{TakesEachAlone}
use Rattle.vcpu_run.specs.OwnOver.{IsOver, answers_among, is_under_way, stream_of}
use Rattle.vcpu_run.specs.PlainTalk.{grants_one}
use Rattle.vcpu_run.specs.declared.taking.Took.{Took}
use Rattle.vcpu_run.proofs.PlainAsks.{login_parts}
use Rattle.vcpu_run.proofs.PlainLists.{answers_plain}

-- no answer grants a login where none is under way
pub none_granted : (granted : ℕ) (failed : Bool) (d : Doing) (s : ClientState) (own : EndState) → (over : IsOver granted failed d s own) → s.login ≡ Idle → grants_one over.answers ≡ false
none_granted granted failed d s own over idle =
    answers_plain d.client (answers_among (stream_of s over.rest)) over.answered over.answers over.owed.told
    (login_parts over.answered over.lost (over.owed.sent ∙ ap is_under_way idle)).0

pub each_registered : (entries : List Took) (old new : Acting) → TakesEachAlone entries old new → new.ports.crq.registered ≡ old.ports.crq.registered
each_registered [] old new same = ap (λ (a : Acting). a.ports.crq.registered) same
each_registered (took ∷ entries) old new (middle, each, last) = last.crq.registered ∙ each_registered entries old middle each
