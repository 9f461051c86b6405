use Rattle.std.proofs.Common.{ap, refl, rules}
use Rattle.crq_session.specs.EndState.{EndState}
use Rattle.block_server.proofs.Agreeing.{agrees_same}
use Rattle.block_server.proofs.Onces.{once_same}
use Rattle.block_server.proofs.Serves.{as_none_next}
use Rattle.block_server.proofs.Taking.{lines_same, may_stands, takes_entry, takes_none, takes_on, takes_other}
use Rattle.block_server.proofs.GoingOn.{command_no_event, command_no_handshake, not_format, srp_command}
use Rattle.block_server.proofs.Jointly.{works, works_entry, works_none, works_on, works_other}
use Rattle.block_server.specs.Books.{books_at, next_of}
use Rattle.block_server.proofs.Ledgers.{explains_entry, explains_taken}
use Rattle.block_server.specs.Refusals.{ledger_of}
use Rattle.std.proofs.Common.{Some}
use Rattle.std.proofs.Common.{inr}
use Rattle.block_server.proofs.Listening.{not_asked}
use Rattle.block_server.proofs.Talking.{received_from}
use Rattle.block_server.proofs.LastRows.{idle_same}
use Rattle.block_server.specs.declared.service.Service.{Service}
use Rattle.std.proofs.Common.{◌∙◌}
use Rattle.block_server.specs.Doings.{doing}
use Rattle.block_server.specs.Entries.{datagram_answer}
use Rattle.block_server.proofs.DoingHears.{command_event, command_init, datagram_sends, format_srp, hearing_free, low_address, one_datagram, one_freely, passes_freely, passes_same, reply_free}
use Rattle.block_server.proofs.DoingReplies.{plain_none}
use Rattle.block_server.proofs.Taking.{ended_stands}
use Rattle.block_server.specs.HeardOut.HearsOut.{keeps}
use Rattle.block_server.specs.Talk.{to_come}
use Rattle.block_server.proofs.DoingReplies.{come_same}
use Rattle.block_server.proofs.Taking.{passed_session, passed_taken}
use Rattle.std.proofs.Common.{inr}
use Rattle.block_server.proofs.ServedOuts.{brings_from, brings_none}
use Rattle.block_server.proofs.intake.take_command.Goals as goal

pub returns-in-2-clause-once : goal.returns-in-2-clause-once
returns-in-2-clause-once g c = λ disk all. c.put_reply.ensures.once c.args.records.now disk

pub returns-in-2-clause-none : goal.returns-in-2-clause-none
returns-in-2-clause-none g c = as_none_next c.put_reply.result _ _ c.requires.none c.put_reply.ensures.still

pub returns-in_default-clause-once : goal.returns-in_default-clause-once
returns-in_default-clause-once g c = λ disk all serving. once_same _ _ _ _ _ _ refl refl refl disk serving

pub returns-in-1-clause-once : goal.returns-in-1-clause-once
returns-in-1-clause-once g c = c.receive.ensures.once

pub returns-in-1-clause-agrees : goal.returns-in-1-clause-agrees
returns-in-1-clause-agrees g c = agrees_same _ _ _ _ c.receive.ensures.handshake (ap (λ (q : EndState). q.registered) c.receive.ensures.queue)

pub returns-in-2-clause-agrees : goal.returns-in-2-clause-agrees
returns-in-2-clause-agrees g c = c.put_reply.ensures.agrees

pub returns-in_default-clause-agrees : goal.returns-in_default-clause-agrees
returns-in_default-clause-agrees g c = λ is. is

pub returns-in-1-clause-intake : goal.returns-in-1-clause-intake
returns-in-1-clause-intake g c = λ before may first taken.
    takes_on _ _ _ _ _ _ _ _ _ (takes_entry _ _ _ _ _ _ c.args.arrival.number c.args.arrival.entry c.args.arrival may taken
    (srp_command c.args.arrival.entry first (search rules)) refl refl taken.advances refl refl refl refl refl) (c.receive.ensures.intake refl)

pub returns-in-1-clause-goes_on : goal.returns-in-1-clause-goes_on
returns-in-1-clause-goes_on g c = λ may. c.receive.ensures.goes_on may.goes_on

pub returns-in-2-clause-intake : goal.returns-in-2-clause-intake
returns-in-2-clause-intake g c = λ before may first taken.
    takes_on _ _ _ _ _ _ _ _ _ (takes_other _ _ _ _ _ _ c.args.arrival.number c.args.arrival.entry may taken
    (not_format c.args.arrival.entry (λ one. search rules)) taken.advances refl refl may.none refl)
    (takes_none _ _ _ _ _ _ c.put_reply.ensures.stands c.put_reply.ensures.advances c.put_reply.ensures.passes (lines_same _ _ _ _ refl))

pub returns-in-2-clause-goes_on : goal.returns-in-2-clause-goes_on
returns-in-2-clause-goes_on g c = λ may same. may_stands _ _ c.put_reply.ensures.stands may

pub returns-in_default-clause-intake : goal.returns-in_default-clause-intake
returns-in_default-clause-intake g c = λ before may first taken.
    takes_other _ _ _ _ _ _ c.args.arrival.number c.args.arrival.entry may taken
    (not_format c.args.arrival.entry (λ one. search rules)) taken.advances refl refl may.none refl

pub returns-in-1-clause-judges : goal.returns-in-1-clause-judges
returns-in-1-clause-judges g c = λ before may first taken.
    let next = ap (λ w. next_of w before.queue) may.none in
    (works_on _ _ _ _ _ _ _ _ _
    (works_entry _ _ _ _ (books_at c.args.unit.now before c.args.records.now) _ c.args.arrival.number c.args.arrival.entry c.args.arrival may taken
    (srp_command c.args.arrival.entry first (search rules)) refl refl refl refl refl refl refl refl next refl refl refl refl refl refl refl refl refl refl refl refl refl refl)
    (works _ _ _ _ _ _ refl refl (c.receive.ensures.intake refl) (c.receive.ensures.judges refl))).judges

pub returns-in-2-clause-judges : goal.returns-in-2-clause-judges
returns-in-2-clause-judges g c = λ before may first taken.
    let next = ap (λ w. next_of w before.queue) may.none in
    let next' = ap (λ w. next_of w (g.S.Site.state c.args.site.now).queue) may.none in
    (works_on _ _ _ _ _ _ _ _ _
    (works_other _ _ _ _ (books_at c.args.unit.now before c.args.records.now) (books_at c.args.unit.now (g.S.Site.state c.args.site.now) c.args.records.now) c.args.arrival.number c.args.arrival.entry may taken
    (not_format c.args.arrival.entry (λ one. search rules)) (command_no_event c.args.arrival.entry first) (λ on down. (down, command_no_handshake c.args.arrival.entry first)) refl refl refl may.none refl next refl next' refl refl refl refl refl refl refl refl refl refl refl)
    (works_none _ _ _ _ _ _ c.put_reply.ensures.stands refl refl c.put_reply.ensures.advances c.put_reply.ensures.passes (lines_same _ _ _ _ refl) (c.put_reply.ensures.books c.args.records.now))).judges

pub returns-in_default-clause-judges : goal.returns-in_default-clause-judges
returns-in_default-clause-judges g c = λ before may first taken.
    let next = ap (λ w. next_of w before.queue) may.none in
    let next' = ap (λ w. next_of w (g.S.Site.state c.args.site.now).queue) may.none in
    (works_other _ _ _ _ (books_at c.args.unit.now before c.args.records.now) (books_at c.args.unit.now (g.S.Site.state c.args.site.now) c.args.records.now) c.args.arrival.number c.args.arrival.entry may taken
    (not_format c.args.arrival.entry (λ one. search rules)) (command_no_event c.args.arrival.entry first) (λ on down. (down, command_no_handshake c.args.arrival.entry first)) refl refl refl may.none refl next refl next' refl refl refl refl refl refl refl refl refl refl refl).judges

pub returns-in-1-clause-answers : goal.returns-in-1-clause-answers
returns-in-1-clause-answers g c = λ alone has. c.receive.ensures.answers alone has

pub returns-in-2-clause-answers : goal.returns-in-2-clause-answers
returns-in-2-clause-answers g c = λ alone has. c.put_reply.ensures.answers c.args.records.now alone has

pub returns-in_default-clause-answers : goal.returns-in_default-clause-answers
returns-in_default-clause-answers g c = λ alone has. has

pub returns-in-1-clause-refuses : goal.returns-in-1-clause-refuses
returns-in-1-clause-refuses g c = λ before may first taken answers told unit front all is.
    c.receive.ensures.refuses refl told unit front all
    (explains_entry (ledger_of c.args.unit.now before c.args.records.now) (ledger_of (record c.args.unit.now { waiting = Some c.args.arrival }) (g.S.Site.state c.args.site.now) c.args.records.now) before (g.S.Site.state c.args.site.now) c.args.arrival taken
    (srp_command c.args.arrival.entry first (search rules)) refl refl may.none may.goes_on refl refl refl refl refl refl answers refl refl told unit front is)

pub returns-in-2-clause-refuses : goal.returns-in-2-clause-refuses
returns-in-2-clause-refuses g c = λ before may first taken answers told unit front all is.
    c.put_reply.ensures.refuses c.args.records.now told unit front
    (explains_taken (ledger_of c.args.unit.now before c.args.records.now) (ledger_of c.args.unit.now (g.S.Site.state c.args.site.now) c.args.records.now) _ taken.session taken.taken refl (inr (not_format c.args.arrival.entry (λ one. search rules))) refl refl refl refl answers refl refl told unit front is)

pub returns-in_default-clause-refuses : goal.returns-in_default-clause-refuses
returns-in_default-clause-refuses g c = λ before may first taken answers told unit front all.
    explains_taken (ledger_of c.args.unit.now before c.args.records.now) (ledger_of c.args.unit.now (g.S.Site.state c.args.site.now) c.args.records.now) _ taken.session taken.taken refl (inr (not_format c.args.arrival.entry (λ one. search rules))) refl refl refl refl answers refl refl told unit front

pub returns-in-1-clause-hears : goal.returns-in-1-clause-hears
returns-in-1-clause-hears g c = λ address bytes iu alone up may asked.
    received_from c.args.unit.now _ c.receive.new.unit _ _ _ _ _ _ _ _ c.receive.result refl refl refl (c.receive.ensures.hears address bytes iu alone up may asked)

pub returns-in-2-clause-hears : goal.returns-in-2-clause-hears
returns-in-2-clause-hears g c = λ address bytes iu alone up may asked. absurd (not_asked _ _ _ _ _ asked (not_format c.args.arrival.entry (λ one. search rules)))

pub returns-in_default-clause-hears : goal.returns-in_default-clause-hears
returns-in_default-clause-hears g c = λ address bytes iu alone up may asked. absurd (not_asked _ _ _ _ _ asked (not_format c.args.arrival.entry (λ one. search rules)))

pub returns-in-1-clause-rows : goal.returns-in-1-clause-rows
returns-in-1-clause-rows g c = c.receive.ensures.rows

pub returns-in-2-clause-rows : goal.returns-in-2-clause-rows
returns-in-2-clause-rows g c = idle_same _ _ _ _ (ap (λ (s : Service). s.stage) c.put_reply.ensures.service) refl

pub returns-in_default-clause-rows : goal.returns-in_default-clause-rows
returns-in_default-clause-rows g c = idle_same _ _ _ _ refl refl

pub returns-in-1-clause-does : goal.returns-in-1-clause-does
returns-in-1-clause-does g c = λ link alone going first waits free. c.receive.ensures.does link alone going (srp_command c.args.arrival.entry first (search rules)) free

pub returns-in-2-clause-does : goal.returns-in-2-clause-does
returns-in-2-clause-does g c = λ link alone going first waits free.
    let sends = c.put_reply.ensures.aside c.args.records.now link in
    one_freely _ _ (one_datagram _ _ (datagram_sends c.args.arrival (doing c.args.unit.now (g.S.Site.state c.args.site.now) c.args.records.now) _ _ waits c.requires.none going (not_format c.args.arrival.entry (λ one. search rules)) first (c.datagram_answer.ensures.entry ∙ ap datagram_answer (c.iu_address.ensures ∙ low_address c.args.arrival.entry (search rules))) sends))
    (reply_free (doing c.args.unit.now (g.S.Site.state c.args.site.now) c.args.records.now) _ _ sends (plain_none _ c.datagram_answer.ensures.may c.datagram_answer.ensures.plain) (hearing_free c.args.arrival (doing c.args.unit.now (g.S.Site.state c.args.site.now) c.args.records.now) waits free))

pub returns-in_default-clause-does : goal.returns-in_default-clause-does
returns-in_default-clause-does g c = λ link alone going first waits free.
    passes_freely _ _ (passes_same c.args.arrival (doing c.args.unit.now (g.S.Site.state c.args.site.now) c.args.records.now) waits c.requires.none (command_init c.args.arrival.entry first) (command_event c.args.arrival.entry first) (format_srp c.args.arrival.entry (λ is. search rules))) (hearing_free c.args.arrival (doing c.args.unit.now (g.S.Site.state c.args.site.now) c.args.records.now) waits free)

pub returns-in-1-clause-goes : goal.returns-in-1-clause-goes
returns-in-1-clause-goes g c = λ alone on. c.receive.ensures.goes alone on

pub returns-in-2-clause-goes : goal.returns-in-2-clause-goes
returns-in-2-clause-goes g c = λ alone on more. ended_stands _ _ c.put_reply.ensures.stands ∙ on

pub returns-in-1-clause-stops : goal.returns-in-1-clause-stops
returns-in-1-clause-stops g c = λ link. c.receive.ensures.stops (λ none. cc (none))

pub returns-in-2-clause-stops : goal.returns-in-2-clause-stops
returns-in-2-clause-stops g c = λ link other. keeps (λ none. cc (c.put_reply.ensures.kept other, none)) (c.put_reply.ensures.full link other)

pub returns-in_default-clause-stops : goal.returns-in_default-clause-stops
returns-in_default-clause-stops g c = λ link other. absurd (other refl)

pub returns-in-1-clause-coming : goal.returns-in-1-clause-coming
returns-in-1-clause-coming g c = ap to_come c.receive.ensures.queue

pub returns-in-2-clause-coming : goal.returns-in-2-clause-coming
returns-in-2-clause-coming g c = come_same (g.S.Site.state c.args.site.now).queue (g.S.Site.state c.put_reply.new.site).queue c.put_reply.ensures.advances.queue_place (passed_session _ _ c.put_reply.ensures.passes) (passed_taken _ _ c.put_reply.ensures.passes)

pub returns-in-1-clause-brings : goal.returns-in-1-clause-brings
returns-in-1-clause-brings g c = brings_from _ (record c.args.unit.now { waiting = Some c.args.arrival }) c.receive.new.unit c.receive.result refl c.receive.ensures.brings

pub returns-in-2-clause-brings : goal.returns-in-2-clause-brings
returns-in-2-clause-brings g c = brings_none _ _ _ c.put_reply.ensures.pending (λ is. inr (λ none. cc (c.put_reply.ensures.kept (λ entry. cc (is, entry)), none)))

pub returns-in_default-clause-brings : goal.returns-in_default-clause-brings
returns-in_default-clause-brings g c = brings_none _ _ _ refl (λ is. absurd (cc (is)))
