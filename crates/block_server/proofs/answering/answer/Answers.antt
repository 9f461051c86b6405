use Rattle.block_server.specs.Books.{books_at}
use Rattle.block_server.proofs.Jointly.{works, works_none, works_on}
use Rattle.std.proofs.Common.{None, ap, refl, subst, sym, ◌∙◌}
use Rattle.block_server.specs.Answering.{responses}
use Rattle.crq_session.specs.EndState.{EndState}
use Rattle.block_server.proofs.Agreeing.{agrees_on, agrees_same}
use Rattle.block_server.proofs.Readying.{idles_equal, idles_on, idles_reserves}
use Rattle.block_server.proofs.Staging.{answer_held, answer_stops}
use Rattle.block_server.proofs.Advancing.{advances_on, advances_same}
use Rattle.block_server.proofs.Onces.{once_same, once_then}
use Rattle.block_server.proofs.Denying.{tells_first, tells_next}
use Rattle.block_server.proofs.Quieting.{quiet_on, quiet_still, still_reserves}
use Rattle.block_server.proofs.Taking.{lines_same, takes_none, takes_on}
use Rattle.block_server.proofs.Keeping.{moved_to}
use Rattle.block_server.proofs.Booking.{passed_next}
use Rattle.block_server.proofs.Taking.{passed_session}
use Rattle.block_server.specs.Judged.{keys_of}
use Rattle.block_server.specs.Owed.{row_states}
use Rattle.block_server.proofs.Owing.{owes_seen, seen_same}
use Rattle.block_server.proofs.OwingCalls.{seen_reserves}
use Rattle.block_server.proofs.CopyKinds.{still_pages}
use Rattle.block_server.proofs.Cargoes.{sees, shown_same}
use Rattle.block_server.proofs.Hands.{keeps_on, keeps_same}
use Rattle.block_server.proofs.Ledgers.{explained_then, explains_stands}
use Rattle.block_server.specs.Refusals.{ledger_of}
use Rattle.block_server.specs.Serving.{Held, IsServing, desk_of}
use Rattle.block_server.specs.LoginAnswers.{login_answers}
use Rattle.block_server.proofs.Coming.{comes_first, comes_put}
use Rattle.block_server.proofs.ComingParts.{comes_none}
use Rattle.block_server.specs.Steps.{NoStage}
use Rattle.block_server.proofs.Dropping.{known_within}
use Rattle.block_server.proofs.Servicing.{answers_first, may_later}
use Rattle.block_server.specs.Ranges.{IsAnswerRange}
use Rattle.block_server.proofs.RangeLaws.{known_of, lays_none, lays_on, lays_same}
use Rattle.std.proofs.Common.{inl, refl}
use Rattle.block_server.proofs.Standing.{stands_same}
use Rattle.block_server.proofs.LastRows.{last_at, last_on, last_same}
use Rattle.block_server.specs.Judged.{row_in}
use Rattle.tce_window.specs.PortState.{PortState}
use Rattle.block_server.specs.Bearing.{IsAnswerPart}
use Rattle.block_server.specs.Cargo.{rows_of}
use Rattle.block_server.specs.Copied.{own_name}
use Rattle.block_server.specs.Standing.{Stands}
use Rattle.block_server.specs.declared.service.Outcome.TheVariants as outcomes
use Rattle.block_server.proofs.AnswerBearing.{answer_then, settled_first}
use Rattle.block_server.proofs.Bearing.{bears_none, bears_on, bears_same}
use Rattle.block_server.specs.Doings.{WritesAnswer, doing}
use Rattle.block_server.proofs.Taking.{ended_stands}
use Rattle.block_server.proofs.DoingAsides.{doing_same}
use Rattle.block_server.proofs.DoingAnswers.{answered_none, answered_put, turn_from}
use Rattle.std.proofs.Common.{inr}
use Rattle.block_server.proofs.HeardOuts.{busy_same, come_reserved, goes_from, heard_behind, heard_equal, heard_reserved}
use Rattle.block_server.proofs.ServedOuts.{copies_ends, copies_puts}
use Rattle.block_server.proofs.answering.answer.Goals as goal

pub returns-in_err-make_room-clause-once : goal.returns-in_err-make_room-clause-once
returns-in_err-make_room-clause-once g c = λ disk all serving. once_same _ _ _ _ _ _ refl c.make_room.ensures.lists.history refl disk serving

pub returns-in_err-make_room-2-clause-once : goal.returns-in_err-make_room-2-clause-once
returns-in_err-make_room-2-clause-once g c = λ disk all serving. once_same _ _ _ _ _ _ refl c.make_room.ensures.lists.history refl disk serving

pub returns-in_err-reserve-clause-once : goal.returns-in_err-reserve-clause-once
returns-in_err-reserve-clause-once g c = λ disk all serving.
    once_same _ _ _ _ _ _ refl c.make_room.ensures.lists.history (ap responses c.reserve.ensures.rest.sent) disk serving

pub returns-in_err-copy_answer-clause-once : goal.returns-in_err-copy_answer-clause-once
returns-in_err-copy_answer-clause-once g c =
    λ disk all. once_then disk disk disk _ _ _ _ _ _ _ _ _ (once_same _ _ _ _ _ _ refl c.make_room.ensures.lists.history (ap responses c.reserve.ensures.rest.sent) disk)
    (c.copy_answer.ensures.once disk
    (tells_next disk.terms.told c.args.unit.now.id (g.S.Site.state c.args.site.now) (g.S.Site.state c.reserve.new.self) (g.S.Site.state c.copy_answer.new.site) c.reserve.ensures.advances all))

pub returns-in_default-clause-once : goal.returns-in_default-clause-once
returns-in_default-clause-once g c =
    λ disk all. once_then disk disk disk _ _ _ _ _ _ _ _ _ (once_same _ _ _ _ _ _ refl c.make_room.ensures.lists.history (ap responses c.reserve.ensures.rest.sent) disk)
    (c.copy_answer.ensures.once disk
    (tells_next disk.terms.told c.args.unit.now.id (g.S.Site.state c.args.site.now) (g.S.Site.state c.reserve.new.self) (g.S.Site.state c.copy_answer.new.site) c.reserve.ensures.advances all))

pub returns-in-Entry-clause-once : goal.returns-in-Entry-clause-once
returns-in-Entry-clause-once g c =
    λ disk all.
    let before = tells_first disk.terms.told c.args.unit.now.id (g.S.Site.state c.args.site.now) (g.S.Site.state c.copy_answer.new.site) (g.S.Site.state c.put_answer.new.site) c.put_answer.ensures.advances all in
    once_then disk disk disk _ _ _ _ _ _ _ _ _
    (once_then disk disk disk _ _ _ _ _ _ _ _ _ (once_same _ _ _ _ _ _ refl c.make_room.ensures.lists.history (ap responses c.reserve.ensures.rest.sent) disk)
    (c.copy_answer.ensures.once disk
    (tells_next disk.terms.told c.args.unit.now.id (g.S.Site.state c.args.site.now) (g.S.Site.state c.reserve.new.self) (g.S.Site.state c.copy_answer.new.site) c.reserve.ensures.advances before)))
    (c.put_answer.ensures.once disk)

pub returns-in-Entry-clause-advances : goal.returns-in-Entry-clause-advances
returns-in-Entry-clause-advances g c = advances_on _ _ _ (advances_on _ _ _ c.reserve.ensures.advances c.copy_answer.ensures.advances) c.put_answer.ensures.advances

pub returns-in-Entry-clause-quiet : goal.returns-in-Entry-clause-quiet
returns-in-Entry-clause-quiet g c =
    quiet_on _ _ _ _ _ _ (quiet_on _ _ _ _ _ _ (quiet_still _ _ _ (still_reserves _ _ c.reserve.ensures.rest)) c.copy_answer.ensures.quiet) c.put_answer.ensures.quiet

pub returns-in_err-make_room-clause-agrees : goal.returns-in_err-make_room-clause-agrees
returns-in_err-make_room-clause-agrees g c = λ is. is

pub returns-in_err-make_room-2-clause-agrees : goal.returns-in_err-make_room-2-clause-agrees
returns-in_err-make_room-2-clause-agrees g c = λ is. is

pub returns-in_err-reserve-clause-agrees : goal.returns-in_err-reserve-clause-agrees
returns-in_err-reserve-clause-agrees g c = agrees_same _ _ _ _ refl c.reserve.ensures.rest.registered

pub returns-in_err-copy_answer-clause-agrees : goal.returns-in_err-copy_answer-clause-agrees
returns-in_err-copy_answer-clause-agrees g c = agrees_same _ _ _ _ c.copy_answer.ensures.handshake (ap (λ (q : EndState). q.registered) c.copy_answer.ensures.queue ∙ c.reserve.ensures.rest.registered)

pub returns-in_default-clause-agrees : goal.returns-in_default-clause-agrees
returns-in_default-clause-agrees g c = agrees_same _ _ _ _ c.copy_answer.ensures.handshake (ap (λ (q : EndState). q.registered) c.copy_answer.ensures.queue ∙ c.reserve.ensures.rest.registered)

pub returns-in-Entry-clause-agrees : goal.returns-in-Entry-clause-agrees
returns-in-Entry-clause-agrees g c = agrees_on _ _ _ (agrees_same _ _ _ _ c.copy_answer.ensures.handshake (ap (λ (q : EndState). q.registered) c.copy_answer.ensures.queue ∙ c.reserve.ensures.rest.registered)) c.put_answer.ensures.agrees

pub returns-in-Entry-clause-waits : goal.returns-in-Entry-clause-waits
returns-in-Entry-clause-waits g c = λ moved pending answered.
    let was = (c.put_answer.ensures.quiet moved).was in
    answer_held _ (g.S.Site.state c.args.site.now) (g.S.Site.state c.reserve.new.self) (g.S.Site.state c.copy_answer.new.site) (g.S.Site.state c.put_answer.new.site)
    c.copy_answer.new.unit (advances_on _ _ _ c.reserve.ensures.advances c.copy_answer.ensures.advances) c.put_answer.ensures.advances c.reserve.ensures.advances
    (idles_on _ _ _ _ (idles_reserves _ _ _ c.reserve.ensures.rest) (idles_equal _ _ _ c.copy_answer.ensures.queue))
    (c.in_ok-copy_answer.ensures.waits was pending answered) (c.put_answer.ensures.waits moved)

pub returns-in_default-clause-waits : goal.returns-in_default-clause-waits
returns-in_default-clause-waits g c = λ moved pending answered.
    answer_stops _ (g.S.Site.state c.args.site.now) (g.S.Site.state c.reserve.new.self) (g.S.Site.state c.copy_answer.new.site) c.copy_answer.new.unit
    c.reserve.ensures.advances (λ outcome is. c.in_default.not-Entry outcome is) (c.in_ok-copy_answer.ensures.waits moved pending answered)

pub returns-in_err-make_room-clause-intake : goal.returns-in_err-make_room-clause-intake
returns-in_err-make_room-clause-intake g c = takes_none _ _ _ _ _ _ refl (advances_same _) refl (lines_same _ _ _ _ c.make_room.ensures.lists.grants)

pub returns-in_err-make_room-2-clause-intake : goal.returns-in_err-make_room-2-clause-intake
returns-in_err-make_room-2-clause-intake g c = takes_none _ _ _ _ _ _ refl (advances_same _) refl (lines_same _ _ _ _ c.make_room.ensures.lists.grants)

pub returns-in_err-reserve-clause-intake : goal.returns-in_err-reserve-clause-intake
returns-in_err-reserve-clause-intake g c = takes_none _ _ _ _ _ _ refl c.reserve.ensures.advances c.reserve.ensures.passes (lines_same _ _ _ _ c.make_room.ensures.lists.grants)

pub returns-in_err-copy_answer-clause-intake : goal.returns-in_err-copy_answer-clause-intake
returns-in_err-copy_answer-clause-intake g c = takes_on _ _ _ _ _ _ _ _ _ (takes_none _ _ _ _ _ _ refl c.reserve.ensures.advances c.reserve.ensures.passes (lines_same _ _ _ _ c.make_room.ensures.lists.grants)) c.copy_answer.ensures.intake

pub returns-in_default-clause-intake : goal.returns-in_default-clause-intake
returns-in_default-clause-intake g c = takes_on _ _ _ _ _ _ _ _ _ (takes_none _ _ _ _ _ _ refl c.reserve.ensures.advances c.reserve.ensures.passes (lines_same _ _ _ _ c.make_room.ensures.lists.grants)) c.copy_answer.ensures.intake

pub returns-in-Entry-clause-intake : goal.returns-in-Entry-clause-intake
returns-in-Entry-clause-intake g c = takes_on _ _ _ _ _ _ _ _ _ (takes_on _ _ _ _ _ _ _ _ _ (takes_none _ _ _ _ _ _ refl c.reserve.ensures.advances c.reserve.ensures.passes (lines_same _ _ _ _ c.make_room.ensures.lists.grants)) c.copy_answer.ensures.intake)
    (takes_none _ _ _ _ _ _ c.put_answer.ensures.stands c.put_answer.ensures.advances c.put_answer.ensures.passes c.put_answer.ensures.lines)

pub returns-in_err-make_room-clause-books : goal.returns-in_err-make_room-clause-books
returns-in_err-make_room-clause-books g c = λ judged is. moved_to _ _ judged refl refl refl refl refl refl refl refl refl (ap keys_of c.make_room.ensures.lists.history) c.make_room.ensures.lists.grants refl refl refl is

pub returns-in_err-make_room-2-clause-books : goal.returns-in_err-make_room-2-clause-books
returns-in_err-make_room-2-clause-books g c = λ judged is. moved_to _ _ judged refl refl refl refl refl refl refl refl refl (ap keys_of c.make_room.ensures.lists.history) c.make_room.ensures.lists.grants refl refl refl is

pub returns-in_err-reserve-clause-books : goal.returns-in_err-reserve-clause-books
returns-in_err-reserve-clause-books g c = λ judged is. moved_to _ _ judged refl (passed_session _ _ c.reserve.ensures.passes) (passed_next c.args.unit.now.waiting c.args.unit.now.waiting _ _ refl c.reserve.ensures.passes) refl refl refl refl refl refl (ap keys_of c.make_room.ensures.lists.history) c.make_room.ensures.lists.grants refl refl refl is

pub returns-in_err-copy_answer-clause-books : goal.returns-in_err-copy_answer-clause-books
returns-in_err-copy_answer-clause-books g c = λ judged is. c.copy_answer.ensures.books judged (moved_to _ _ judged refl (passed_session _ _ c.reserve.ensures.passes) (passed_next c.args.unit.now.waiting c.args.unit.now.waiting _ _ refl c.reserve.ensures.passes) refl refl refl refl refl refl (ap keys_of c.make_room.ensures.lists.history) c.make_room.ensures.lists.grants refl refl refl is)

pub returns-in_default-clause-books : goal.returns-in_default-clause-books
returns-in_default-clause-books g c = λ judged is. c.copy_answer.ensures.books judged (moved_to _ _ judged refl (passed_session _ _ c.reserve.ensures.passes) (passed_next c.args.unit.now.waiting c.args.unit.now.waiting _ _ refl c.reserve.ensures.passes) refl refl refl refl refl refl (ap keys_of c.make_room.ensures.lists.history) c.make_room.ensures.lists.grants refl refl refl is)

pub returns-in-Entry-clause-books : goal.returns-in-Entry-clause-books
returns-in-Entry-clause-books g c = λ judged is. c.put_answer.ensures.books judged (c.copy_answer.ensures.books judged (moved_to _ _ judged refl (passed_session _ _ c.reserve.ensures.passes) (passed_next c.args.unit.now.waiting c.args.unit.now.waiting _ _ refl c.reserve.ensures.passes) refl refl refl refl refl refl (ap keys_of c.make_room.ensures.lists.history) c.make_room.ensures.lists.grants refl refl refl is))

pub returns-in_err-make_room-clause-passes : goal.returns-in_err-make_room-clause-passes
returns-in_err-make_room-clause-passes g c = refl

pub returns-in_err-make_room-2-clause-passes : goal.returns-in_err-make_room-2-clause-passes
returns-in_err-make_room-2-clause-passes g c = refl

pub returns-in_err-reserve-clause-passes : goal.returns-in_err-reserve-clause-passes
returns-in_err-reserve-clause-passes g c = c.reserve.ensures.passes

pub returns-in_err-copy_answer-clause-passes : goal.returns-in_err-copy_answer-clause-passes
returns-in_err-copy_answer-clause-passes g c = c.copy_answer.ensures.passes ∙ c.reserve.ensures.passes

pub returns-in_default-clause-passes : goal.returns-in_default-clause-passes
returns-in_default-clause-passes g c = c.copy_answer.ensures.passes ∙ c.reserve.ensures.passes

pub returns-in-Entry-clause-passes : goal.returns-in-Entry-clause-passes
returns-in-Entry-clause-passes g c = c.put_answer.ensures.passes ∙ c.copy_answer.ensures.passes ∙ c.reserve.ensures.passes

pub returns-in_err-make_room-clause-answers : goal.returns-in_err-make_room-clause-answers
returns-in_err-make_room-clause-answers g c = λ judged is alone has. owes_seen _ _ (seen_same _ _ refl) refl refl refl refl refl (ap row_states c.make_room.ensures.lists.history) c.make_room.ensures.lists.grants has

pub returns-in_err-make_room-2-clause-answers : goal.returns-in_err-make_room-2-clause-answers
returns-in_err-make_room-2-clause-answers g c = λ judged is alone has. owes_seen _ _ (seen_same _ _ refl) refl refl refl refl refl (ap row_states c.make_room.ensures.lists.history) c.make_room.ensures.lists.grants has

pub returns-in_err-reserve-clause-answers : goal.returns-in_err-reserve-clause-answers
returns-in_err-reserve-clause-answers g c = λ judged is alone has. owes_seen _ _ (seen_reserves _ _ c.reserve.ensures.rest) refl refl refl refl refl (ap row_states c.make_room.ensures.lists.history) c.make_room.ensures.lists.grants has

pub returns-in_err-copy_answer-clause-answers : goal.returns-in_err-copy_answer-clause-answers
returns-in_err-copy_answer-clause-answers g c = λ judged is alone has. c.copy_answer.ensures.answers alone
    (owes_seen _ _ (seen_reserves _ _ c.reserve.ensures.rest) refl refl refl refl refl (ap row_states c.make_room.ensures.lists.history) c.make_room.ensures.lists.grants has)

pub returns-in_default-clause-answers : goal.returns-in_default-clause-answers
returns-in_default-clause-answers g c = λ judged is alone has. c.copy_answer.ensures.answers alone
    (owes_seen _ _ (seen_reserves _ _ c.reserve.ensures.rest) refl refl refl refl refl (ap row_states c.make_room.ensures.lists.history) c.make_room.ensures.lists.grants has)

pub returns-in-Entry-clause-answers : goal.returns-in-Entry-clause-answers
returns-in-Entry-clause-answers g c = λ judged is alone has.
    c.put_answer.ensures.answers judged (c.copy_answer.ensures.books judged
    (moved_to _ _ judged refl (passed_session _ _ c.reserve.ensures.passes) (passed_next c.args.unit.now.waiting c.args.unit.now.waiting _ _ refl c.reserve.ensures.passes) refl refl refl refl refl refl (ap keys_of c.make_room.ensures.lists.history) c.make_room.ensures.lists.grants refl refl refl is)) alone
    (c.copy_answer.ensures.answers alone (owes_seen _ _ (seen_reserves _ _ c.reserve.ensures.rest) refl refl refl refl refl (ap row_states c.make_room.ensures.lists.history) c.make_room.ensures.lists.grants has))

pub returns-in_err-make_room-clause-judges : goal.returns-in_err-make_room-clause-judges
returns-in_err-make_room-clause-judges g c = (works_none _ _ _ _ _ _ refl refl refl (advances_same _) refl (lines_same _ _ _ _ c.make_room.ensures.lists.grants) (returns-in_err-make_room-clause-books g c)).judges

pub returns-in_err-make_room-2-clause-judges : goal.returns-in_err-make_room-2-clause-judges
returns-in_err-make_room-2-clause-judges g c = (works_none _ _ _ _ _ _ refl refl refl (advances_same _) refl (lines_same _ _ _ _ c.make_room.ensures.lists.grants) (returns-in_err-make_room-2-clause-books g c)).judges

pub returns-in_err-reserve-clause-judges : goal.returns-in_err-reserve-clause-judges
returns-in_err-reserve-clause-judges g c = (works_none _ _ _ _ _ _ refl refl refl c.reserve.ensures.advances c.reserve.ensures.passes (lines_same _ _ _ _ c.make_room.ensures.lists.grants) (returns-in_err-reserve-clause-books g c)).judges

pub returns-in_err-copy_answer-clause-judges : goal.returns-in_err-copy_answer-clause-judges
returns-in_err-copy_answer-clause-judges g c = (works_on _ _ _ _ _ _ _ _ _
    (works_none _ _ _ _ _ (books_at c.args.unit.now (g.S.Site.state c.reserve.new.self) c.make_room.new.self) refl refl refl c.reserve.ensures.advances c.reserve.ensures.passes (lines_same _ _ _ _ c.make_room.ensures.lists.grants)
    (λ judged is. moved_to _ _ judged refl (passed_session _ _ c.reserve.ensures.passes) (passed_next c.args.unit.now.waiting c.args.unit.now.waiting _ _ refl c.reserve.ensures.passes) refl refl refl refl refl refl (ap keys_of c.make_room.ensures.lists.history) c.make_room.ensures.lists.grants refl refl refl is))
    (works _ _ _ _ _ _ refl refl c.copy_answer.ensures.intake c.copy_answer.ensures.judges)).judges

pub returns-in_default-clause-judges : goal.returns-in_default-clause-judges
returns-in_default-clause-judges g c = (works_on _ _ _ _ _ _ _ _ _
    (works_none _ _ _ _ _ (books_at c.args.unit.now (g.S.Site.state c.reserve.new.self) c.make_room.new.self) refl refl refl c.reserve.ensures.advances c.reserve.ensures.passes (lines_same _ _ _ _ c.make_room.ensures.lists.grants)
    (λ judged is. moved_to _ _ judged refl (passed_session _ _ c.reserve.ensures.passes) (passed_next c.args.unit.now.waiting c.args.unit.now.waiting _ _ refl c.reserve.ensures.passes) refl refl refl refl refl refl (ap keys_of c.make_room.ensures.lists.history) c.make_room.ensures.lists.grants refl refl refl is))
    (works _ _ _ _ _ _ refl refl c.copy_answer.ensures.intake c.copy_answer.ensures.judges)).judges

pub returns-in-Entry-clause-judges : goal.returns-in-Entry-clause-judges
returns-in-Entry-clause-judges g c = (works_on _ _ _ _ _ _ _ _ _ (works_on _ _ _ _ _ _ _ _ _
    (works_none _ _ _ _ _ (books_at c.args.unit.now (g.S.Site.state c.reserve.new.self) c.make_room.new.self) refl refl refl c.reserve.ensures.advances c.reserve.ensures.passes (lines_same _ _ _ _ c.make_room.ensures.lists.grants)
    (λ judged is. moved_to _ _ judged refl (passed_session _ _ c.reserve.ensures.passes) (passed_next c.args.unit.now.waiting c.args.unit.now.waiting _ _ refl c.reserve.ensures.passes) refl refl refl refl refl refl (ap keys_of c.make_room.ensures.lists.history) c.make_room.ensures.lists.grants refl refl refl is))
    (works _ _ _ _ _ _ refl refl c.copy_answer.ensures.intake c.copy_answer.ensures.judges))
    (works_none _ _ _ _ _ _ c.put_answer.ensures.stands refl refl c.put_answer.ensures.advances c.put_answer.ensures.passes c.put_answer.ensures.lines c.put_answer.ensures.books)).judges

pub returns-in_err-copy_answer-clause-cargo : goal.returns-in_err-copy_answer-clause-cargo
returns-in_err-copy_answer-clause-cargo g c =
    keeps_on _ _ _ (keeps_same _ _ (shown_same _ _ _ _ _ _ (sees _ _ _ (still_pages _ _ c.reserve.ensures.windows)) c.make_room.ensures.lists.history)) c.copy_answer.ensures.cargo

pub returns-in-Entry-clause-cargo : goal.returns-in-Entry-clause-cargo
returns-in-Entry-clause-cargo g c =
    keeps_on _ _ _ (keeps_on _ _ _ (keeps_same _ _ (shown_same _ _ _ _ _ _ (sees _ _ _ (still_pages _ _ c.reserve.ensures.windows)) c.make_room.ensures.lists.history)) c.copy_answer.ensures.cargo)
    (keeps_same _ _ c.put_answer.ensures.cargo)

pub returns-in_default-clause-cargo : goal.returns-in_default-clause-cargo
returns-in_default-clause-cargo g c =
    keeps_on _ _ _ (keeps_same _ _ (shown_same _ _ _ _ _ _ (sees _ _ _ (still_pages _ _ c.reserve.ensures.windows)) c.make_room.ensures.lists.history)) c.copy_answer.ensures.cargo

pub returns-in_err-make_room-clause-refuses : goal.returns-in_err-make_room-clause-refuses
returns-in_err-make_room-clause-refuses g c = λ terms all serving front knows. explains_stands c.args.unit.now c.args.unit.now (g.S.Site.state c.args.site.now) (g.S.Site.state c.args.site.now) c.args.records.now c.make_room.new.self refl refl refl c.make_room.ensures.lists.grants refl refl terms.told c.args.unit.now.id front

pub returns-in_err-make_room-2-clause-refuses : goal.returns-in_err-make_room-2-clause-refuses
returns-in_err-make_room-2-clause-refuses g c = λ terms all serving front knows. explains_stands c.args.unit.now c.args.unit.now (g.S.Site.state c.args.site.now) (g.S.Site.state c.args.site.now) c.args.records.now c.make_room.new.self refl refl refl c.make_room.ensures.lists.grants refl refl terms.told c.args.unit.now.id front

pub returns-in_err-reserve-clause-refuses : goal.returns-in_err-reserve-clause-refuses
returns-in_err-reserve-clause-refuses g c = λ terms all serving front knows. explains_stands c.args.unit.now c.args.unit.now (g.S.Site.state c.args.site.now) (g.S.Site.state c.reserve.new.self) c.args.records.now c.make_room.new.self refl c.reserve.ensures.passes refl c.make_room.ensures.lists.grants (ap login_answers c.reserve.ensures.rest.sent) refl terms.told c.args.unit.now.id front

pub returns-in_err-copy_answer-clause-refuses : goal.returns-in_err-copy_answer-clause-refuses
returns-in_err-copy_answer-clause-refuses g c = λ terms all serving front knows is.
    c.copy_answer.ensures.refuses terms.told c.args.unit.now.id front (tells_next terms.told c.args.unit.now.id (g.S.Site.state c.args.site.now) (g.S.Site.state c.reserve.new.self) (g.S.Site.state c.copy_answer.new.site) c.reserve.ensures.advances all) (explains_stands c.args.unit.now c.args.unit.now (g.S.Site.state c.args.site.now) (g.S.Site.state c.reserve.new.self) c.args.records.now c.make_room.new.self refl c.reserve.ensures.passes refl c.make_room.ensures.lists.grants (ap login_answers c.reserve.ensures.rest.sent) refl terms.told c.args.unit.now.id front is)

pub returns-in_default-clause-refuses : goal.returns-in_default-clause-refuses
returns-in_default-clause-refuses g c = λ terms all serving front knows is.
    c.copy_answer.ensures.refuses terms.told c.args.unit.now.id front (tells_next terms.told c.args.unit.now.id (g.S.Site.state c.args.site.now) (g.S.Site.state c.reserve.new.self) (g.S.Site.state c.copy_answer.new.site) c.reserve.ensures.advances all) (explains_stands c.args.unit.now c.args.unit.now (g.S.Site.state c.args.site.now) (g.S.Site.state c.reserve.new.self) c.args.records.now c.make_room.new.self refl c.reserve.ensures.passes refl c.make_room.ensures.lists.grants (ap login_answers c.reserve.ensures.rest.sent) refl terms.told c.args.unit.now.id front is)

pub returns-in-Entry-clause-refuses : goal.returns-in-Entry-clause-refuses
returns-in-Entry-clause-refuses g c = λ terms all serving front knows is.
    let unit = c.args.unit.now in
    let disk : Held = record { terms = terms; now = None } in
    let reserved = g.S.Site.state c.reserve.new.self in
    let copied = g.S.Site.state c.copy_answer.new.site in
    let heard = tells_first terms.told unit.id (g.S.Site.state c.args.site.now) copied (g.S.Site.state c.put_answer.new.site) c.put_answer.ensures.advances all in
    let made = tells_next terms.told unit.id (g.S.Site.state c.args.site.now) reserved copied c.reserve.ensures.advances heard in
    explained_then disk disk (desk_of unit) (desk_of c.copy_answer.new.unit) _ _ _ _ front (ledger_of unit (g.S.Site.state c.args.site.now) c.args.records.now) (ledger_of c.copy_answer.new.unit copied c.copy_answer.new.records) _
    (c.copy_answer.ensures.once disk made (subst (IsServing terms (desk_of unit)) (sym c.make_room.ensures.lists.history) serving))
    (λ is. c.copy_answer.ensures.refuses terms.told unit.id front made
    (explains_stands unit unit (g.S.Site.state c.args.site.now) reserved c.args.records.now c.make_room.new.self refl c.reserve.ensures.passes refl c.make_room.ensures.lists.grants (ap login_answers c.reserve.ensures.rest.sent) refl terms.told unit.id front is))
    (λ serving. c.put_answer.ensures.refuses terms serving front
    (known_within g.S.Site.link_shared unit.line.handshake c.copy_answer.new.unit.line.handshake (g.S.Site.state c.args.site.now) copied (g.S.Site.state c.put_answer.new.site)
    (g.S.Site.state c.put_answer.new.site) front.closed (advances_on _ _ _ c.reserve.ensures.advances c.copy_answer.ensures.advances) (advances_same (g.S.Site.state c.put_answer.new.site))
    (agrees_same _ _ _ _ c.copy_answer.ensures.handshake (ap (λ (q : EndState). q.registered) c.copy_answer.ensures.queue ∙ c.reserve.ensures.rest.registered)) knows)) is

pub returns-in_default-clause-comes : goal.returns-in_default-clause-comes
returns-in_default-clause-comes g c =
    comes_first c.args.unit.now _ _ _ _ _ (comes_none NoStage c.args.unit.now _ _ _ (still_reserves _ _ c.reserve.ensures.rest) refl refl) c.in_ok-copy_answer.ensures.comes

pub returns-in-Entry-clause-comes : goal.returns-in-Entry-clause-comes
returns-in-Entry-clause-comes g c =
    comes_put c.args.unit.now _ _ _ _ _
    (comes_first c.args.unit.now _ _ _ _ _ (comes_none NoStage c.args.unit.now _ _ _ (still_reserves _ _ c.reserve.ensures.rest) refl refl) c.in_ok-copy_answer.ensures.comes)
    c.put_answer.ensures.comes

pub returns-in-Entry-clause-serves : goal.returns-in-Entry-clause-serves
returns-in-Entry-clause-serves g c = λ request rest outcome at parts link apart on may room.
    let later = may_later (g.S.Site.state c.args.site.now) (g.S.Site.state c.reserve.new.self) request.address apart c.reserve.ensures.advances may in
    answers_first _ c.args.unit.now c.copy_answer.new.unit c.put_answer.new.unit (g.S.Site.state c.args.site.now).queue (g.S.Site.state c.reserve.new.self).queue (g.S.Site.state c.copy_answer.new.site).queue (g.S.Site.state c.put_answer.new.site).queue
    c.args.records.now.grants.items c.make_room.new.self.grants.items c.copy_answer.new.records.grants.items c.put_answer.new.records.grants.items outcome _ request rest c.reserve.ensures.rest c.copy_answer.ensures.queue c.make_room.ensures.lists.grants
    (c.in_ok-copy_answer.ensures.serves request rest outcome at parts (c.reserve.ensures.advances.shared ∙ apart) later) c.in-Entry.is link on room parts (λ a b x y. c.put_answer.ensures.serves request rest a b x y)

pub returns-in_default-clause-serves : goal.returns-in_default-clause-serves
returns-in_default-clause-serves g c = λ request rest outcome at parts link apart on may room.
    let later = may_later (g.S.Site.state c.args.site.now) (g.S.Site.state c.reserve.new.self) request.address apart c.reserve.ensures.advances may in
    let copied = c.in_ok-copy_answer.ensures.serves request rest outcome at parts (c.reserve.ensures.advances.shared ∙ apart) later in
    absurd (c.in_default.not-Entry outcome copied.stage)

pub returns-in_err-make_room-clause-wrote : goal.returns-in_err-make_room-clause-wrote
returns-in_err-make_room-clause-wrote g c = λ request rest parts. lays_none _ _

pub returns-in_err-make_room-2-clause-wrote : goal.returns-in_err-make_room-2-clause-wrote
returns-in_err-make_room-2-clause-wrote g c = λ request rest parts. lays_none _ _

pub returns-in_err-reserve-clause-wrote : goal.returns-in_err-reserve-clause-wrote
returns-in_err-reserve-clause-wrote g c = λ request rest parts. lays_same _ _ _ (known_of (g.S.Site.state c.args.site.now) (g.S.Site.state c.reserve.new.self) c.reserve.ensures.advances.shared c.reserve.ensures.windows.client)

pub returns-in_err-copy_answer-clause-wrote : goal.returns-in_err-copy_answer-clause-wrote
returns-in_err-copy_answer-clause-wrote g c = λ request rest parts.
    lays_on (IsAnswerRange request) _ _ _ (lays_same _ _ _ (known_of (g.S.Site.state c.args.site.now) (g.S.Site.state c.reserve.new.self) c.reserve.ensures.advances.shared c.reserve.ensures.windows.client)) (c.copy_answer.ensures.wrote request rest parts)

pub returns-in_default-clause-wrote : goal.returns-in_default-clause-wrote
returns-in_default-clause-wrote g c = λ request rest parts.
    lays_on (IsAnswerRange request) _ _ _ (lays_same _ _ _ (known_of (g.S.Site.state c.args.site.now) (g.S.Site.state c.reserve.new.self) c.reserve.ensures.advances.shared c.reserve.ensures.windows.client)) (c.copy_answer.ensures.wrote request rest parts)

pub returns-in-Entry-clause-wrote : goal.returns-in-Entry-clause-wrote
returns-in-Entry-clause-wrote g c = λ request rest parts.
    lays_on (IsAnswerRange request) _ _ _
    (lays_on (IsAnswerRange request) _ _ _ (lays_same _ _ _ (known_of (g.S.Site.state c.args.site.now) (g.S.Site.state c.reserve.new.self) c.reserve.ensures.advances.shared c.reserve.ensures.windows.client)) (c.copy_answer.ensures.wrote request rest parts))
    (lays_same _ _ _ (known_of (g.S.Site.state c.copy_answer.new.site) (g.S.Site.state c.put_answer.new.site) c.put_answer.ensures.advances.shared c.put_answer.ensures.client))

pub returns-in-Entry-clause-laid : goal.returns-in-Entry-clause-laid
returns-in-Entry-clause-laid g c = λ request rest outcome at parts apart may.
    let later = may_later (g.S.Site.state c.args.site.now) (g.S.Site.state c.reserve.new.self) request.address apart c.reserve.ensures.advances may in
    stands_same (g.S.Site.state c.args.site.now).own (g.S.Site.state c.copy_answer.new.site).client _ request request _ _ c.put_answer.ensures.client refl refl
    (subst (λ (port : PortState). Stands (g.S.Site.state c.copy_answer.new.site).client (own_name port request.tag) request.address c.args.unit.now.service.answer.items) c.reserve.ensures.windows.own
    (c.in_ok-copy_answer.ensures.laid request rest outcome at parts (c.reserve.ensures.advances.shared ∙ apart) later))

pub returns-in_default-clause-laid : goal.returns-in_default-clause-laid
returns-in_default-clause-laid g c = λ request rest outcome at parts apart may.
    let later = may_later (g.S.Site.state c.args.site.now) (g.S.Site.state c.reserve.new.self) request.address apart c.reserve.ensures.advances may in
    let copied = c.in_ok-copy_answer.ensures.serves request rest outcome (inl at) parts (c.reserve.ensures.advances.shared ∙ apart) later in
    absurd (c.in_default.not-Entry outcome copied.stage)

pub returns-in_err-make_room-clause-rows : goal.returns-in_err-make_room-clause-rows
returns-in_err-make_room-clause-rows g c = last_same _ _ _ c.make_room.ensures.lists.history

pub returns-in_err-make_room-2-clause-rows : goal.returns-in_err-make_room-2-clause-rows
returns-in_err-make_room-2-clause-rows g c = last_same _ _ _ c.make_room.ensures.lists.history

pub returns-in_err-reserve-clause-rows : goal.returns-in_err-reserve-clause-rows
returns-in_err-reserve-clause-rows g c = last_same _ _ _ c.make_room.ensures.lists.history

pub returns-in_err-copy_answer-clause-rows : goal.returns-in_err-copy_answer-clause-rows
returns-in_err-copy_answer-clause-rows g c = last_same _ _ _ (c.copy_answer.ensures.history ∙ c.make_room.ensures.lists.history)

pub returns-in_default-clause-rows : goal.returns-in_default-clause-rows
returns-in_default-clause-rows g c = last_same _ _ _ (c.copy_answer.ensures.history ∙ c.make_room.ensures.lists.history)

pub returns-in-Entry-clause-rows : goal.returns-in-Entry-clause-rows
returns-in-Entry-clause-rows g c =
    last_on _ _ _ _ (last_same _ _ _ (c.copy_answer.ensures.history ∙ c.make_room.ensures.lists.history))
    (last_at _ _ _ _ (sym (ap row_in c.in-Entry.is) ∙ c.copy_answer.ensures.row c.in-Entry.outcome c.in-Entry.is) c.put_answer.ensures.rows)

pub returns-in_err-make_room-clause-bears : goal.returns-in_err-make_room-clause-bears
returns-in_err-make_room-clause-bears g c = λ request rest parts. bears_none _ _

pub returns-in_err-make_room-2-clause-bears : goal.returns-in_err-make_room-2-clause-bears
returns-in_err-make_room-2-clause-bears g c = λ request rest parts. bears_none _ _

pub returns-in_err-reserve-clause-bears : goal.returns-in_err-reserve-clause-bears
returns-in_err-reserve-clause-bears g c = λ request rest parts. bears_same _ _ _ (known_of (g.S.Site.state c.args.site.now) (g.S.Site.state c.reserve.new.self) c.reserve.ensures.advances.shared c.reserve.ensures.windows.client)

pub returns-in_err-copy_answer-clause-bears : goal.returns-in_err-copy_answer-clause-bears
returns-in_err-copy_answer-clause-bears g c = λ request rest parts.
    let old = g.S.Site.state c.args.site.now in
    let mid = g.S.Site.state c.reserve.new.self in
    answer_then (own_name old.own request.tag) (own_name mid.own request.tag) request.address c.args.unit.now.service.answer.items _ _ _ (ap (λ (port : PortState). own_name port request.tag) c.reserve.ensures.windows.own)
    (known_of old mid c.reserve.ensures.advances.shared c.reserve.ensures.windows.client) (c.copy_answer.ensures.bears request rest parts)

pub returns-in_default-clause-bears : goal.returns-in_default-clause-bears
returns-in_default-clause-bears g c = λ request rest parts.
    let old = g.S.Site.state c.args.site.now in
    let mid = g.S.Site.state c.reserve.new.self in
    answer_then (own_name old.own request.tag) (own_name mid.own request.tag) request.address c.args.unit.now.service.answer.items _ _ _ (ap (λ (port : PortState). own_name port request.tag) c.reserve.ensures.windows.own)
    (known_of old mid c.reserve.ensures.advances.shared c.reserve.ensures.windows.client) (c.copy_answer.ensures.bears request rest parts)

pub returns-in-Entry-clause-bears : goal.returns-in-Entry-clause-bears
returns-in-Entry-clause-bears g c = λ request rest parts.
    let old = g.S.Site.state c.args.site.now in
    let mid = g.S.Site.state c.reserve.new.self in
    bears_on (IsAnswerPart (own_name old.own request.tag) request.address c.args.unit.now.service.answer.items) _ _ _
    (answer_then (own_name old.own request.tag) (own_name mid.own request.tag) request.address c.args.unit.now.service.answer.items _ _ _ (ap (λ (port : PortState). own_name port request.tag) c.reserve.ensures.windows.own)
    (known_of old mid c.reserve.ensures.advances.shared c.reserve.ensures.windows.client) (c.copy_answer.ensures.bears request rest parts))
    (bears_same _ _ _ (known_of (g.S.Site.state c.copy_answer.new.site) (g.S.Site.state c.put_answer.new.site) c.put_answer.ensures.advances.shared c.put_answer.ensures.client))

pub returns-in_err-make_room-clause-kept : goal.returns-in_err-make_room-clause-kept
returns-in_err-make_room-clause-kept g c = λ not. ap rows_of c.make_room.ensures.lists.history

pub returns-in_err-make_room-2-clause-kept : goal.returns-in_err-make_room-2-clause-kept
returns-in_err-make_room-2-clause-kept g c = λ not. ap rows_of c.make_room.ensures.lists.history

pub returns-in_err-reserve-clause-kept : goal.returns-in_err-reserve-clause-kept
returns-in_err-reserve-clause-kept g c = λ not. ap rows_of c.make_room.ensures.lists.history

pub returns-in_err-copy_answer-clause-kept : goal.returns-in_err-copy_answer-clause-kept
returns-in_err-copy_answer-clause-kept g c = λ not. ap rows_of (c.copy_answer.ensures.history ∙ c.make_room.ensures.lists.history)

pub returns-in_default-clause-kept : goal.returns-in_default-clause-kept
returns-in_default-clause-kept g c = λ not. ap rows_of (c.copy_answer.ensures.history ∙ c.make_room.ensures.lists.history)

pub returns-in-Entry-clause-kept : goal.returns-in-Entry-clause-kept
returns-in-Entry-clause-kept g c = λ not. c.put_answer.ensures.kept ∙ ap rows_of (c.copy_answer.ensures.history ∙ c.make_room.ensures.lists.history)

pub returns-in_default-clause-settles : goal.returns-in_default-clause-settles
returns-in_default-clause-settles g c = λ request rest place at parts link apart on may room both row there.
    let later = may_later (g.S.Site.state c.args.site.now) (g.S.Site.state c.reserve.new.self) request.address apart c.reserve.ensures.advances may in
    let copied = c.in_ok-copy_answer.ensures.serves request rest (outcomes.Served place) at parts (c.reserve.ensures.advances.shared ∙ apart) later in
    absurd (c.in_default.not-Entry (outcomes.Served place) copied.stage)

pub returns-in-Entry-clause-settles : goal.returns-in-Entry-clause-settles
returns-in-Entry-clause-settles g c = λ request rest place at parts link apart on may room both row there.
    let later = may_later (g.S.Site.state c.args.site.now) (g.S.Site.state c.reserve.new.self) request.address apart c.reserve.ensures.advances may in
    settled_first _ c.args.unit.now c.copy_answer.new.unit (g.S.Site.state c.args.site.now).queue (g.S.Site.state c.reserve.new.self).queue (g.S.Site.state c.copy_answer.new.site).queue _ _ (outcomes.Served place) c.in-Entry.outcome place request rest
    c.args.records.now.history.items c.copy_answer.new.records.history.items c.put_answer.new.records.history.items row c.reserve.ensures.rest c.copy_answer.ensures.queue
    (c.in_ok-copy_answer.ensures.serves request rest (outcomes.Served place) at parts (c.reserve.ensures.advances.shared ∙ apart) later) refl c.in-Entry.is link on room both parts
    (c.copy_answer.ensures.history ∙ c.make_room.ensures.lists.history) there
    (λ parts' alone on' room' both' is there'. c.put_answer.ensures.settled request rest place parts' alone on' room' both' is row there')

pub returns-in_default-clause-does : goal.returns-in_default-clause-does
returns-in_default-clause-does g c = λ request rest outcome at parts link apart waiting going.
    turn_from _ _ _ (doing_same c.args.unit.now (g.S.Site.state c.args.site.now) (g.S.Site.state c.reserve.new.self) c.args.records.now c.make_room.new.self c.reserve.ensures.advances.own_place c.reserve.ensures.rest
    c.reserve.ensures.windows.client c.make_room.ensures.lists.history c.make_room.ensures.lists.grants)
    (answered_none (doing c.args.unit.now (g.S.Site.state c.reserve.new.self) c.make_room.new.self) (doing c.copy_answer.new.unit (g.S.Site.state c.copy_answer.new.site) c.copy_answer.new.records)
    (λ o is. c.in_default.not-Entry o is) (c.in_ok-copy_answer.ensures.does request rest outcome at parts (c.reserve.ensures.advances.shared ∙ apart)) (c.copy_answer.ensures.waiting waiting))

pub returns-in-Entry-clause-does : goal.returns-in-Entry-clause-does
returns-in-Entry-clause-does g c = λ request rest outcome at parts link apart waiting going.
    let a = doing c.args.unit.now (g.S.Site.state c.reserve.new.self) c.make_room.new.self in
    let m = doing c.copy_answer.new.unit (g.S.Site.state c.copy_answer.new.site) c.copy_answer.new.records in
    let stands = c.copy_answer.ensures.stands c.in-Entry.outcome c.in-Entry.is in
    turn_from _ _ _ (doing_same c.args.unit.now (g.S.Site.state c.args.site.now) (g.S.Site.state c.reserve.new.self) c.args.records.now c.make_room.new.self c.reserve.ensures.advances.own_place c.reserve.ensures.rest
    c.reserve.ensures.windows.client c.make_room.ensures.lists.history c.make_room.ensures.lists.grants)
    (answered_put a m (doing c.put_answer.new.unit (g.S.Site.state c.put_answer.new.site) c.put_answer.new.records) c.in-Entry.outcome c.in-Entry.is
    (c.in_ok-copy_answer.ensures.does request rest outcome at parts (c.reserve.ensures.advances.shared ∙ apart))
    (λ (writes : WritesAnswer a m). c.put_answer.ensures.does request rest (writes.pends ∙ parts) link)
    (λ (writes : WritesAnswer a m). c.put_answer.ensures.free request rest (writes.pends ∙ parts) link (c.copy_answer.ensures.waiting waiting) (ended_stands _ _ stands ∙ going)))

pub returns-in_err-make_room-clause-hears : goal.returns-in_err-make_room-clause-hears
returns-in_err-make_room-clause-hears g c = heard_equal _ _ _ _ refl (inr (busy_same _ _ refl refl refl))

pub returns-in_err-make_room-2-clause-hears : goal.returns-in_err-make_room-2-clause-hears
returns-in_err-make_room-2-clause-hears g c = heard_equal _ _ _ _ refl (inr (busy_same _ _ refl refl refl))

pub returns-in_err-reserve-clause-hears : goal.returns-in_err-reserve-clause-hears
returns-in_err-reserve-clause-hears g c = heard_reserved _ _ _ (g.S.Site.state c.reserve.new.self).queue _ c.reserve.ensures.rest refl (inr (busy_same _ _ refl refl refl))

pub returns-in_err-copy_answer-clause-hears : goal.returns-in_err-copy_answer-clause-hears
returns-in_err-copy_answer-clause-hears g c = heard_reserved _ _ _ (g.S.Site.state c.reserve.new.self).queue _ c.reserve.ensures.rest c.copy_answer.ensures.queue (goes_from c.args.unit.now _ c.copy_answer.new.unit refl refl refl c.copy_answer.ensures.goes)

pub returns-in_default-clause-hears : goal.returns-in_default-clause-hears
returns-in_default-clause-hears g c = heard_reserved _ _ _ (g.S.Site.state c.reserve.new.self).queue _ c.reserve.ensures.rest c.copy_answer.ensures.queue (goes_from c.args.unit.now _ c.copy_answer.new.unit refl refl refl c.copy_answer.ensures.goes)

pub returns-in-Entry-clause-hears : goal.returns-in-Entry-clause-hears
returns-in-Entry-clause-hears g c =
    heard_behind _ c.copy_answer.new.unit _ (g.S.Site.state c.args.site.now).queue (g.S.Site.state c.copy_answer.new.site).queue _ (come_reserved _ (g.S.Site.state c.reserve.new.self).queue _ c.reserve.ensures.rest c.copy_answer.ensures.queue)
    (ap (λ (q : EndState). q.registered) c.copy_answer.ensures.queue ∙ c.reserve.ensures.rest.registered) (goes_from c.args.unit.now _ c.copy_answer.new.unit refl refl refl c.copy_answer.ensures.goes) c.put_answer.ensures.hears

pub returns-in_default-clause-stops : goal.returns-in_default-clause-stops
returns-in_default-clause-stops g c = λ request rest outcome at parts apart.
    copies_ends c.args.unit.now c.copy_answer.new.unit outcome (λ o is. c.in_default.not-Entry o is) (c.in_ok-copy_answer.ensures.copies request rest outcome at parts (c.reserve.ensures.advances.shared ∙ apart))

pub returns-in-Entry-clause-stops : goal.returns-in-Entry-clause-stops
returns-in-Entry-clause-stops g c = λ request rest outcome at parts apart.
    copies_puts c.args.unit.now c.copy_answer.new.unit c.put_answer.new.unit outcome c.in-Entry.outcome request rest c.in-Entry.is parts
    (c.in_ok-copy_answer.ensures.copies request rest outcome at parts (c.reserve.ensures.advances.shared ∙ apart)) (c.put_answer.ensures.stops request rest)
