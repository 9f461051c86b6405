use Rattle.std.proofs.Common.{inr, true, true≢false, refl, sym, ◌∙◌}
use Rattle.block_server.specs.Granting.{login_state}
use Rattle.block_server.proofs.Agreeing.{agrees_same, is_down}
use Rattle.block_server.proofs.Readying.{idles_reserves, sender_now}
use Rattle.block_server.proofs.Onces.{once_same}
use Rattle.block_server.proofs.Serves.{desk_is}
use Rattle.block_server.proofs.Taking.{stands}
use Rattle.block_server.proofs.GoingOn.{down_ended, freed_ended}
use Rattle.block_server.proofs.Jointly.{keeps_freed, keeps_pass}
use Rattle.block_server.proofs.Owing.{owes_ended}
use Rattle.block_server.proofs.OwingCalls.{closing_ended}
use Rattle.block_server.proofs.Quieting.{still_reserves}
use Rattle.block_server.proofs.ComingParts.{comes_freed, comes_none, work_later}
use Rattle.block_server.specs.Steps.{NoStage}
use Rattle.block_server.proofs.Asides.{frees_line, tells_freed, tells_none}
use Rattle.block_server.proofs.turning.free.Goals as goal

pub returns-in-Busy-clause-once : goal.returns-in-Busy-clause-once
returns-in-Busy-clause-once g c = λ records disk serving. once_same _ _ _ _ _ _ refl refl c.free.ensures.plain disk serving

pub returns-in-Success-clause-once : goal.returns-in-Success-clause-once
returns-in-Success-clause-once g c = λ records disk serving.
    let unit = c.args.unit.now in
    once_same _ _ _ _ _ _ (desk_is unit.id (login_state unit.logins) unit.service _ _ unit.pending.items _ c.freed.ensures.kept refl) refl
    c.free.ensures.plain disk serving

pub returns-in-Parameter-clause-once : goal.returns-in-Parameter-clause-once
returns-in-Parameter-clause-once g c = λ records disk serving.
    let unit = c.args.unit.now in
    once_same _ _ _ _ _ _ (desk_is unit.id (login_state unit.logins) unit.service _ _ unit.pending.items _ c.freed-in-Parameter.ensures.kept refl) refl
    c.free.ensures.plain disk serving

pub returns-in-Busy-clause-waits : goal.returns-in-Busy-clause-waits
returns-in-Busy-clause-waits g c = λ moved. sender_now _ _ _ _ c.in-Busy.ensures.busy

pub returns-in-Parameter-clause-waits : goal.returns-in-Parameter-clause-waits
returns-in-Parameter-clause-waits g c = λ moved. idles_reserves _ _ _ c.in-Parameter.ensures.refused

pub returns-in-Busy-clause-agrees : goal.returns-in-Busy-clause-agrees
returns-in-Busy-clause-agrees g c = agrees_same _ _ _ _ refl (c.in-Busy.ensures.busy.still ∙ sym c.in-Busy.ensures.busy.registered)

pub returns-in-Success-clause-agrees : goal.returns-in-Success-clause-agrees
returns-in-Success-clause-agrees g c = λ is. is_down _ _ c.freed.ensures.handshake c.in-Success.ensures.success.freed

pub returns-in-Parameter-clause-agrees : goal.returns-in-Parameter-clause-agrees
returns-in-Parameter-clause-agrees g c = λ is.
    is_down _ _ c.freed-in-Parameter.ensures.handshake (c.in-Parameter.ensures.refused.registered ∙ c.free.ensures.parameter.0 c.in-Parameter.is)

pub returns-in-Success-clause-stands : goal.returns-in-Success-clause-stands
returns-in-Success-clause-stands g c = λ closing. stands _ _ refl refl refl (freed_ended _ _ _ _ closing c.freed.ensures.handshake)

pub returns-in-Parameter-clause-stands : goal.returns-in-Parameter-clause-stands
returns-in-Parameter-clause-stands g c = λ closing. stands _ _ refl refl refl (freed_ended _ _ _ _ closing c.freed-in-Parameter.ensures.handshake)

pub returns-in-Busy-clause-goes_on : goal.returns-in-Busy-clause-goes_on
returns-in-Busy-clause-goes_on g c = λ apart. absurd (apart refl)

pub returns-in-Busy-clause-books : goal.returns-in-Busy-clause-books
returns-in-Busy-clause-books g c = λ records closing. keeps_pass c.args.unit.now records _ _ c.free.ensures.passes

pub returns-in-Success-clause-books : goal.returns-in-Success-clause-books
returns-in-Success-clause-books g c = λ records closing.
    keeps_freed c.args.unit.now c.freed.new.self records _ _ c.free.ensures.passes c.freed.ensures.kept (closing_ended c.args.unit.now.line closing) (down_ended _ _ c.freed.ensures.handshake)

pub returns-in-Parameter-clause-books : goal.returns-in-Parameter-clause-books
returns-in-Parameter-clause-books g c = λ records closing.
    keeps_freed c.args.unit.now c.freed-in-Parameter.new.self records _ _ c.free.ensures.passes c.freed-in-Parameter.ensures.kept (closing_ended c.args.unit.now.line closing) (down_ended _ _ c.freed-in-Parameter.ensures.handshake)

pub returns-in-Busy-clause-answers : goal.returns-in-Busy-clause-answers
returns-in-Busy-clause-answers g c = λ records closing alone has.
    owes_ended _ _ (closing_ended c.args.unit.now.line closing) refl refl refl refl refl refl has

pub returns-in-Success-clause-answers : goal.returns-in-Success-clause-answers
returns-in-Success-clause-answers g c = λ records closing alone has.
    owes_ended _ _ (closing_ended c.args.unit.now.line closing) refl refl refl refl refl refl has

pub returns-in-Parameter-clause-answers : goal.returns-in-Parameter-clause-answers
returns-in-Parameter-clause-answers g c = λ records closing alone has.
    owes_ended _ _ (closing_ended c.args.unit.now.line closing) refl refl refl refl refl refl has

pub returns-in-Busy-clause-comes : goal.returns-in-Busy-clause-comes
returns-in-Busy-clause-comes g c =
    comes_none NoStage _ _ _ _ (record {
      taken = c.free.ensures.rest.taken;
      sent = c.in-Busy.ensures.busy.none.sent;
      registered = c.in-Busy.ensures.busy.still ∙ sym c.in-Busy.ensures.busy.registered;
      session = c.free.ensures.rest.last_session;
    }) refl refl

pub returns-in-Success-clause-comes : goal.returns-in-Success-clause-comes
returns-in-Success-clause-comes g c =
    comes_freed NoStage _ _ _ _ (work_later (g.S.Site.state c.args.site.now) (g.S.Site.state c.free.new.self) c.free.ensures.advances)
    c.in-Success.ensures.success.registered c.in-Success.ensures.success.freed

pub returns-in-Parameter-clause-comes : goal.returns-in-Parameter-clause-comes
returns-in-Parameter-clause-comes g c = comes_none NoStage _ _ _ _ (still_reserves _ _ c.in-Parameter.ensures.refused) refl refl

pub returns-in-Busy-clause-aside : goal.returns-in-Busy-clause-aside
returns-in-Busy-clause-aside g c = λ records alone closing. absurd (true≢false (sym c.in-Busy.ensures.busy.shared_end ∙ alone))

pub returns-in-Success-clause-aside : goal.returns-in-Success-clause-aside
returns-in-Success-clause-aside g c = λ records alone closing.
    inr (frees_line _ c.args.unit.now c.freed.new.self true (g.S.Site.state c.args.site.now) (g.S.Site.state c.free.new.self) records alone c.free.ensures.windows c.free.ensures.rest
    closing c.freed.ensures.handshake c.freed.ensures.kept c.in-Success.ensures.success.freed
    (tells_freed _ c.args.unit.now (record c.args.unit.now { line = c.freed.new.self; moved = true }) (g.S.Site.state c.args.site.now) (g.S.Site.state c.free.new.self) records records alone c.free.ensures.rest c.in-Success.ensures.success))

pub returns-in-Parameter-clause-aside : goal.returns-in-Parameter-clause-aside
returns-in-Parameter-clause-aside g c = λ records alone closing.
    inr (frees_line _ c.args.unit.now c.freed-in-Parameter.new.self c.args.unit.now.moved (g.S.Site.state c.args.site.now) (g.S.Site.state c.free.new.self) records alone c.free.ensures.windows c.free.ensures.rest
    closing c.freed-in-Parameter.ensures.handshake c.freed-in-Parameter.ensures.kept (c.in-Parameter.ensures.refused.registered ∙ c.free.ensures.parameter.0 c.in-Parameter.is)
    (inr (tells_none c.args.unit.now (record c.args.unit.now { line = c.freed-in-Parameter.new.self }) (g.S.Site.state c.args.site.now) (g.S.Site.state c.free.new.self) records records
    (c.free.ensures.parameter.0 c.in-Parameter.is) c.in-Parameter.ensures.refused)))
