use Rattle.std.proofs.Common.{ap, refl, ◌∙◌, rules}
use Rattle.block_server.specs.declared.line.Line.{Line}
use Rattle.block_server.proofs.Quieting.{on_ok}
use Rattle.block_server.proofs.Readying.{if_service}
use Rattle.block_server.proofs.Onces.{once_same, once_then}
use Rattle.block_server.specs.Heard.{TellsAll}
use Rattle.block_server.specs.Serving.{Desk}
use Rattle.vio_num.specs.declared.names.UnitId.{UnitId}
use Rattle.std.proofs.Common.{subst, sym}
use Rattle.block_server.proofs.Taking.{ended_stands, lines_same, takes_none, takes_on, waiting_stands}
use Rattle.block_server.proofs.Advancing.{advances_same}
use Rattle.block_server.proofs.Jointly.{works, works_none, works_on, works_pass}
use Rattle.block_server.specs.Owed.{HasAnswers, Owing}
use Rattle.block_server.proofs.Hands.{keeps_on, keeps_same}
use Rattle.block_server.specs.LoginAnswers.{login_answers}
use Rattle.block_server.proofs.ComingParts.{comes_received}
use Rattle.block_server.proofs.Quieting.{still_equal}
use Rattle.block_server.specs.Steps.{NoStage}
use Rattle.block_server.proofs.LastRows.{idle_same, idle_then}
use Rattle.block_server.proofs.DoingHears.{freely_none}
use Rattle.block_server.proofs.GoingOn.{none_waits}
use Rattle.block_server.proofs.intake.receive_waiting.Goals as goal

pub returns-in_default-clause-once : goal.returns-in_default-clause-once
returns-in_default-clause-once g c = λ disk all serving. once_same _ _ _ _ _ _ refl refl refl disk serving

pub returns-in_err-make_room-clause-once : goal.returns-in_err-make_room-clause-once
returns-in_err-make_room-clause-once g c = λ disk all serving. once_same _ _ _ _ _ _ c.make_room.ensures.desk c.make_room.ensures.history refl disk serving

pub returns-clause-once : goal.returns-clause-once
returns-clause-once g c =
    λ disk all. once_then disk disk disk _ _ _ _ _ _ _ _ _ (once_same _ _ _ _ _ _ c.make_room.ensures.desk c.make_room.ensures.history refl disk)
    (c.receive.ensures.once disk (subst (λ (id : UnitId). TellsAll disk.terms.told id (g.S.Site.state c.args.site.now) (g.S.Site.state c.receive.new.site)) (sym (ap (λ (desk : Desk). desk.id) c.make_room.ensures.desk)) all))

pub returns-clause-line : goal.returns-clause-line
returns-clause-line g c = on_ok c.receive.result _ _ (λ line moved. line moved ∙ c.make_room.ensures.line) c.receive.ensures.line

pub returns-clause-handshake : goal.returns-clause-handshake
returns-clause-handshake g c = c.receive.ensures.handshake ∙ ap (λ (line : Line). line.handshake) c.make_room.ensures.line

pub returns-clause-waits : goal.returns-clause-waits
returns-clause-waits g c = if_service c.receive.result _ _ _ c.receive.ensures.waits

pub returns-in_default-clause-intake : goal.returns-in_default-clause-intake
returns-in_default-clause-intake g c = takes_none _ _ _ _ _ _ refl (advances_same _) refl (lines_same _ _ _ _ refl)

pub returns-in_default-clause-goes_on : goal.returns-in_default-clause-goes_on
returns-in_default-clause-goes_on g c = λ on same. record { none = search rules; goes_on = on }

pub returns-in_err-make_room-clause-intake : goal.returns-in_err-make_room-clause-intake
returns-in_err-make_room-clause-intake g c = takes_none _ _ _ _ _ _ c.make_room.ensures.stands (advances_same _) refl (lines_same _ _ _ _ c.make_room.ensures.grants)

pub returns-clause-intake : goal.returns-clause-intake
returns-clause-intake g c = takes_on _ _ _ _ _ _ _ _ _ (takes_none _ _ _ _ _ _ c.make_room.ensures.stands (advances_same _) refl (lines_same _ _ _ _ c.make_room.ensures.grants))
    (c.receive.ensures.intake (waiting_stands _ _ c.make_room.ensures.stands ∙ search rules))

pub returns-clause-goes_on : goal.returns-clause-goes_on
returns-clause-goes_on g c = λ on. c.receive.ensures.goes_on (ended_stands _ _ c.make_room.ensures.stands ∙ on)

pub returns-in_default-clause-judges : goal.returns-in_default-clause-judges
returns-in_default-clause-judges g c = (works_pass c.args.unit.now c.args.records.now _ _ (advances_same _) refl).judges

pub returns-in_err-make_room-clause-judges : goal.returns-in_err-make_room-clause-judges
returns-in_err-make_room-clause-judges g c =
    (works_none _ _ _ _ _ _ c.make_room.ensures.stands refl refl (advances_same _) refl (lines_same _ _ _ _ c.make_room.ensures.grants) (c.make_room.ensures.books (g.S.Site.state c.args.site.now))).judges

pub returns-clause-judges : goal.returns-clause-judges
returns-clause-judges g c =
    let waits = waiting_stands _ _ c.make_room.ensures.stands ∙ search rules in
    (works_on _ _ _ _ _ _ _ _ _
    (works_none _ _ _ _ _ _ c.make_room.ensures.stands refl refl (advances_same _) refl (lines_same _ _ _ _ c.make_room.ensures.grants) (c.make_room.ensures.books (g.S.Site.state c.args.site.now)))
    (works _ _ _ _ _ _ refl refl (c.receive.ensures.intake waits) (c.receive.ensures.judges waits))).judges

pub returns-in_default-clause-answers : goal.returns-in_default-clause-answers
returns-in_default-clause-answers g c = λ alone has. has

pub returns-in_err-make_room-clause-answers : goal.returns-in_err-make_room-clause-answers
returns-in_err-make_room-clause-answers g c = λ alone has. subst (λ (o : Owing). HasAnswers o) (sym (c.make_room.ensures.owing (g.S.Site.state c.args.site.now).queue)) has

pub returns-clause-answers : goal.returns-clause-answers
returns-clause-answers g c = λ alone has.
    c.receive.ensures.answers alone (subst (λ (o : Owing). HasAnswers o) (sym (c.make_room.ensures.owing (g.S.Site.state c.args.site.now).queue)) has)

pub returns-clause-cargo : goal.returns-clause-cargo
returns-clause-cargo g c = keeps_on _ _ _ (keeps_same _ _ (c.make_room.ensures.cargo _)) c.receive.ensures.cargo

pub returns-in_err-make_room-clause-refuses : goal.returns-in_err-make_room-clause-refuses
returns-in_err-make_room-clause-refuses g c = λ told unit front all. c.make_room.ensures.refuses (g.S.Site.state c.args.site.now).queue.last_session (g.S.Site.state c.args.site.now).queue.taken (login_answers (g.S.Site.state c.args.site.now).queue.sent) told unit front

pub returns-clause-refuses : goal.returns-clause-refuses
returns-clause-refuses g c = λ told unit front all is.
    c.receive.ensures.refuses (waiting_stands _ _ c.make_room.ensures.stands ∙ search rules) told unit front all (c.make_room.ensures.refuses (g.S.Site.state c.args.site.now).queue.last_session (g.S.Site.state c.args.site.now).queue.taken (login_answers (g.S.Site.state c.args.site.now).queue.sent) told unit front is)

pub returns-clause-comes : goal.returns-clause-comes
returns-clause-comes g c =
    on_ok c.receive.result _ _
    (comes_received NoStage c.args.unit.now c.make_room.new.unit c.receive.new.unit _ _ (still_equal _ _ c.receive.ensures.queue) c.in-Some.arrival (search rules)
    c.make_room.ensures.way c.make_room.ensures.moved) c.receive.ensures.received

pub returns-in_default-clause-rows : goal.returns-in_default-clause-rows
returns-in_default-clause-rows g c = idle_same _ _ _ _ refl refl

pub returns-in_err-make_room-clause-rows : goal.returns-in_err-make_room-clause-rows
returns-in_err-make_room-clause-rows g c = idle_same _ _ _ _ (ap (λ (d : Desk). d.stage) c.make_room.ensures.desk) c.make_room.ensures.history

pub returns-clause-rows : goal.returns-clause-rows
returns-clause-rows g c = idle_then _ _ _ _ _ _ (idle_same _ _ _ _ (ap (λ (d : Desk). d.stage) c.make_room.ensures.desk) c.make_room.ensures.history) c.receive.ensures.rows

pub returns-in_default-clause-does : goal.returns-in_default-clause-does
returns-in_default-clause-does g c = λ link alone going free. freely_none _ _ refl free

pub returns-clause-does : goal.returns-clause-does
returns-clause-does g c = λ link alone going free. absurd (none_waits _ c.in-Some.arrival (search rules) free.waiting)

pub returns-clause-goes : goal.returns-clause-goes
returns-clause-goes g c = λ alone on. c.receive.ensures.goes alone (ended_stands _ _ c.make_room.ensures.stands ∙ on)

pub returns-in_default-clause-stops : goal.returns-in_default-clause-stops
returns-in_default-clause-stops g c = λ other. absurd (other refl)

pub returns-clause-stops : goal.returns-clause-stops
returns-clause-stops g c = c.receive.ensures.stops (λ none. absurd (none_waits _ c.in-Some.arrival (search rules) (sym (waiting_stands _ _ c.make_room.ensures.stands) ∙ none)))
