use Rattle.block_server.specs.declared.line.Line.{Line}
use Rattle.block_server.specs.Books.{books_at}
use Rattle.block_server.proofs.Jointly.{answer_going, judges_over, keeps_refused, works, works_none, works_on}
use Rattle.std.proofs.Common.{inl, inr, refl, []}
use Rattle.block_server.proofs.Staging.{at_entry}
use Rattle.block_server.proofs.Onces.{once_same, once_then}
use Rattle.block_server.proofs.Taking.{lines_same, takes_ended, takes_none, takes_on}
use Rattle.block_server.proofs.Advancing.{advances_same}
use Rattle.vio_num.specs.declared.history.Lapse.TheVariants.{Refused}
use Rattle.std.proofs.Common.{ap}
use Rattle.block_server.proofs.Owing.{has_cut_of}
use Rattle.block_server.specs.Owed.{row_in}
use Rattle.block_server.proofs.Hands.{keeps_on, keeps_same}
use Rattle.block_server.proofs.Ledgers.{on_ends, explained_ended, explains_stands}
use Rattle.block_server.proofs.Refusing.{denied_answer}
use Rattle.block_server.proofs.Taking.{passed_session, passed_taken}
use Rattle.vio_num.specs.declared.history.Grant.TheVariants.{Lapsed}
use Rattle.std.proofs.Common.{◌∙◌}
use Rattle.block_server.specs.Refusals.{basis_in, ledger_of}
use Rattle.block_server.specs.LoginAnswers.{login_answers}
use Rattle.crq_session.specs.EndState.{EndState}
use Rattle.std.proofs.Common.{inl}
use Rattle.block_server.proofs.OwingCalls.{closing_ended}
use Rattle.block_server.proofs.Taking.{id_stands}
use Rattle.block_server.specs.declared.logins.Logins.{Logins}
use Rattle.block_server.proofs.Quieting.{still_equal}
use Rattle.block_server.proofs.ComingParts.{comes_ended}
use Rattle.block_server.specs.Steps.{ToEntry}
use Rattle.block_server.specs.declared.service.Stage.TheVariants.{Entry}
use Rattle.block_server.proofs.Servicing.{answer_is, copied_before, is_pending, not_refused}
use Rattle.block_server.proofs.Taking.{waiting_stands}
use Rattle.block_server.proofs.Talking.{not_in_use}
use Rattle.block_server.proofs.RangeLaws.{lays_none}
use Rattle.block_server.proofs.Bearing.{bears_none}
use Rattle.block_server.proofs.DoingAnswers.{refused_drops, writes_answer}
use Rattle.block_server.proofs.HeardOuts.{busy_same}
use Rattle.block_server.proofs.answering.copy_answer.Goals as goal

pub returns-in_default-clause-once : goal.returns-in_default-clause-once
returns-in_default-clause-once g c = λ disk all serving. once_same _ _ _ _ _ _ refl refl refl disk serving

pub returns-in-Refused-clause-once : goal.returns-in-Refused-clause-once
returns-in-Refused-clause-once g c =
    λ disk all. once_then disk disk disk _ _ _ _ _ _ _ _ _ (c.deliver.ensures.once c.args.records.now disk all) (c.end_session.ensures.once (g.S.Site.state c.deliver.new.site).queue disk)

pub returns-in-Done-clause-once : goal.returns-in-Done-clause-once
returns-in-Done-clause-once g c = λ disk all serving. c.deliver.ensures.once c.args.records.now disk all serving

pub returns-in-Busy-clause-once : goal.returns-in-Busy-clause-once
returns-in-Busy-clause-once g c = λ disk all serving. c.deliver.ensures.once c.args.records.now disk all serving

pub returns-in_default-clause-waits : goal.returns-in_default-clause-waits
returns-in_default-clause-waits g c = λ moved pending answered.
    inr (record { pending = pending; stage = at_entry _ (λ outcome is. c.in_default.not-Answer outcome is) answered })

pub returns-in-Busy-clause-waits : goal.returns-in-Busy-clause-waits
returns-in-Busy-clause-waits g c = λ moved pending answered. inl (c.in_ok-deliver.ensures.busy c.in-Busy.is pending)

pub returns-in_default-clause-intake : goal.returns-in_default-clause-intake
returns-in_default-clause-intake g c = takes_none _ _ _ _ _ _ refl (advances_same _) refl (lines_same _ _ _ _ refl)

pub returns-in_err-deliver-clause-intake : goal.returns-in_err-deliver-clause-intake
returns-in_err-deliver-clause-intake g c = takes_none _ _ _ _ _ _ c.deliver.ensures.stands c.deliver.ensures.advances c.deliver.ensures.passes (lines_same _ _ _ _ refl)

pub returns-in-Done-clause-intake : goal.returns-in-Done-clause-intake
returns-in-Done-clause-intake g c = takes_none _ _ _ _ _ _ c.deliver.ensures.stands c.deliver.ensures.advances c.deliver.ensures.passes (lines_same _ _ _ _ refl)

pub returns-in-Busy-clause-intake : goal.returns-in-Busy-clause-intake
returns-in-Busy-clause-intake g c = takes_none _ _ _ _ _ _ c.deliver.ensures.stands c.deliver.ensures.advances c.deliver.ensures.passes (lines_same _ _ _ _ refl)

pub returns-in-Refused-clause-intake : goal.returns-in-Refused-clause-intake
returns-in-Refused-clause-intake g c = takes_on _ _ _ _ _ _ _ _ _ (takes_none _ _ _ _ _ _ c.deliver.ensures.stands c.deliver.ensures.advances c.deliver.ensures.passes (lines_same _ _ _ _ refl))
    (takes_ended _ _ _ _ _ _ _ Refused 0 0 c.end_session.ensures.ends c.end_session.ensures.id c.end_session.ensures.closing refl c.session.ensures (advances_same _) refl)

pub returns-in_default-clause-books : goal.returns-in_default-clause-books
returns-in_default-clause-books g c = λ judged is. is

pub returns-in_err-deliver-clause-books : goal.returns-in_err-deliver-clause-books
returns-in_err-deliver-clause-books g c = c.deliver.ensures.books c.args.records.now

pub returns-in-Done-clause-books : goal.returns-in-Done-clause-books
returns-in-Done-clause-books g c = c.deliver.ensures.books c.args.records.now

pub returns-in-Busy-clause-books : goal.returns-in-Busy-clause-books
returns-in-Busy-clause-books g c = c.deliver.ensures.books c.args.records.now

pub returns-in-Refused-clause-books : goal.returns-in-Refused-clause-books
returns-in-Refused-clause-books g c = λ judged is. keeps_refused c.deliver.new.unit c.end_session.new.unit (g.S.Site.state c.deliver.new.site) c.args.records.now c.end_session.new.records _ _ c.session.ensures c.end_session.ensures.ends.waiting c.end_session.ensures.closing
    (c.in_ok-deliver.ensures.stays c.in-Refused.is) c.end_session.ensures.books judged (c.deliver.ensures.books c.args.records.now judged is)

pub returns-in_default-clause-judges : goal.returns-in_default-clause-judges
returns-in_default-clause-judges g c = (works_none _ _ _ _ _ _ refl refl refl (advances_same _) refl (lines_same _ _ _ _ refl) (λ judged is. is)).judges

pub returns-in_err-deliver-clause-judges : goal.returns-in_err-deliver-clause-judges
returns-in_err-deliver-clause-judges g c = (works_none _ _ _ _ _ _ c.deliver.ensures.stands refl refl c.deliver.ensures.advances c.deliver.ensures.passes (lines_same _ _ _ _ refl) (c.deliver.ensures.books c.args.records.now)).judges

pub returns-in-Done-clause-judges : goal.returns-in-Done-clause-judges
returns-in-Done-clause-judges g c = (works_none _ _ _ _ _ _ c.deliver.ensures.stands refl refl c.deliver.ensures.advances c.deliver.ensures.passes (lines_same _ _ _ _ refl) (c.deliver.ensures.books c.args.records.now)).judges

pub returns-in-Busy-clause-judges : goal.returns-in-Busy-clause-judges
returns-in-Busy-clause-judges g c = (works_none _ _ _ _ _ _ c.deliver.ensures.stands refl refl c.deliver.ensures.advances c.deliver.ensures.passes (lines_same _ _ _ _ refl) (c.deliver.ensures.books c.args.records.now)).judges

pub returns-in-Refused-clause-judges : goal.returns-in-Refused-clause-judges
returns-in-Refused-clause-judges g c =
    (works_on _ _ _ _ _ _ _ _ _
    (works_none _ _ _ _ _ _ c.deliver.ensures.stands refl refl c.deliver.ensures.advances c.deliver.ensures.passes (lines_same _ _ _ _ refl) (c.deliver.ensures.books c.args.records.now))
    (works _ _ _ _ _ _ refl refl (takes_ended _ _ _ _ _ _ _ Refused 0 0 c.end_session.ensures.ends c.end_session.ensures.id c.end_session.ensures.closing refl c.session.ensures (advances_same _) refl)
    (judges_over c.deliver.new.unit c.end_session.new.unit (g.S.Site.state c.deliver.new.site) (g.S.Site.state c.deliver.new.site) c.args.records.now c.end_session.new.records _ Refused 0 0 c.end_session.ensures.ends c.end_session.ensures.id c.end_session.ensures.closing refl refl c.session.ensures (advances_same _) refl
    c.end_session.ensures.books (λ waits. refl) (λ receipts judged intake is. answer_going (books_at c.deliver.new.unit (g.S.Site.state c.deliver.new.site) c.args.records.now) judged _ is (c.in_ok-deliver.ensures.stays c.in-Refused.is)) (λ arrival waits judged going is. refl)))).judges

pub returns-in_default-clause-passes : goal.returns-in_default-clause-passes
returns-in_default-clause-passes g c = refl

pub returns-in_err-deliver-clause-passes : goal.returns-in_err-deliver-clause-passes
returns-in_err-deliver-clause-passes g c = c.deliver.ensures.passes

pub returns-in-Done-clause-passes : goal.returns-in-Done-clause-passes
returns-in-Done-clause-passes g c = c.deliver.ensures.passes

pub returns-in-Busy-clause-passes : goal.returns-in-Busy-clause-passes
returns-in-Busy-clause-passes g c = c.deliver.ensures.passes

pub returns-in-Refused-clause-passes : goal.returns-in-Refused-clause-passes
returns-in-Refused-clause-passes g c = c.deliver.ensures.passes

pub returns-in_default-clause-answers : goal.returns-in_default-clause-answers
returns-in_default-clause-answers g c = λ alone has. has

pub returns-in_err-deliver-clause-answers : goal.returns-in_err-deliver-clause-answers
returns-in_err-deliver-clause-answers g c = c.deliver.ensures.answers c.args.records.now

pub returns-in-Done-clause-answers : goal.returns-in-Done-clause-answers
returns-in-Done-clause-answers g c = c.deliver.ensures.answers c.args.records.now

pub returns-in-Busy-clause-answers : goal.returns-in-Busy-clause-answers
returns-in-Busy-clause-answers g c = c.deliver.ensures.answers c.args.records.now

pub returns-in-Refused-clause-answers : goal.returns-in-Refused-clause-answers
returns-in-Refused-clause-answers g c = λ alone has.
    has_cut_of _ _ _ _ c.end_session.ensures.id refl refl c.end_session.ensures.ends.off (ap row_in c.end_session.ensures.stage)
    (c.end_session.ensures.cuts (g.S.Site.state c.deliver.new.site).queue c.session.ensures refl (c.deliver.ensures.answers c.args.records.now alone has))

pub returns-in-Refused-clause-cargo : goal.returns-in-Refused-clause-cargo
returns-in-Refused-clause-cargo g c = keeps_on _ _ _ (keeps_same _ _ (c.deliver.ensures.cargo c.args.records.now)) (c.end_session.ensures.cargo _ _ refl)

pub returns-in_err-deliver-clause-refuses : goal.returns-in_err-deliver-clause-refuses
returns-in_err-deliver-clause-refuses g c = λ told unit front all. explains_stands c.args.unit.now c.deliver.new.unit (g.S.Site.state c.args.site.now) (g.S.Site.state c.deliver.new.site) c.args.records.now c.args.records.now c.deliver.ensures.stands c.deliver.ensures.passes c.deliver.ensures.pending refl (ap (λ (q : EndState). login_answers q.sent) c.deliver.ensures.queue) (ap (λ (l : Logins). l.current) c.deliver.ensures.logins) told unit front

pub returns-in-Done-clause-refuses : goal.returns-in-Done-clause-refuses
returns-in-Done-clause-refuses g c = λ told unit front all. explains_stands c.args.unit.now c.deliver.new.unit (g.S.Site.state c.args.site.now) (g.S.Site.state c.deliver.new.site) c.args.records.now c.args.records.now c.deliver.ensures.stands c.deliver.ensures.passes c.deliver.ensures.pending refl (ap (λ (q : EndState). login_answers q.sent) c.deliver.ensures.queue) (ap (λ (l : Logins). l.current) c.deliver.ensures.logins) told unit front

pub returns-in-Busy-clause-refuses : goal.returns-in-Busy-clause-refuses
returns-in-Busy-clause-refuses g c = λ told unit front all. explains_stands c.args.unit.now c.deliver.new.unit (g.S.Site.state c.args.site.now) (g.S.Site.state c.deliver.new.site) c.args.records.now c.args.records.now c.deliver.ensures.stands c.deliver.ensures.passes c.deliver.ensures.pending refl (ap (λ (q : EndState). login_answers q.sent) c.deliver.ensures.queue) (ap (λ (l : Logins). l.current) c.deliver.ensures.logins) told unit front

pub returns-in-Refused-clause-refuses : goal.returns-in-Refused-clause-refuses
returns-in-Refused-clause-refuses g c = λ told unit front all is.
    let at = ledger_of c.args.unit.now (g.S.Site.state c.args.site.now) c.args.records.now in
    let session = passed_session _ _ c.deliver.ensures.passes in
    explained_ended told unit front at (ledger_of c.end_session.new.unit (g.S.Site.state c.deliver.new.site) c.end_session.new.records) (Lapsed c.deliver.new.unit.id c.session.result c.deliver.new.unit.logins.current Refused 0 0)
    session (passed_taken _ _ c.deliver.ensures.passes) c.end_session.ensures.ends.waiting c.end_session.ensures.ends.pending c.end_session.ensures.ends.line
    (denied_answer told unit front.since (basis_in at) (g.S.Site.state c.args.site.now) (g.S.Site.state c.deliver.new.site) c.deliver.new.unit.id c.session.result c.deliver.new.unit.logins.current (c.session.ensures ∙ session) (c.in_ok-deliver.ensures.refused c.in-Refused.is) all is.known) refl (ap (λ (q : EndState). login_answers q.sent) c.deliver.ensures.queue)
    (inl (closing_ended c.end_session.new.unit.line c.end_session.ensures.closing))
    (on_ends at (ledger_of c.end_session.new.unit (g.S.Site.state c.deliver.new.site) c.end_session.new.records)
    (Lapsed c.deliver.new.unit.id c.session.result c.deliver.new.unit.logins.current Refused 0 0) c.deliver.new.unit.logins.current Refused 0 0
    (λ i. Lapsed (id_stands _ _ c.deliver.ensures.stands i) ((c.session.ensures ∙ session) i) c.deliver.new.unit.logins.current Refused 0 0)
    (c.end_session.ensures.id ∙ id_stands _ _ c.deliver.ensures.stands) c.end_session.ensures.ends.off session c.end_session.ensures.ends.line) is

pub returns-in-Refused-clause-comes : goal.returns-in-Refused-clause-comes
returns-in-Refused-clause-comes g c =
    let denied = c.in_ok-deliver.ensures.refused c.in-Refused.is in
    comes_ended ToEntry _ _ _ _ (still_equal _ _ c.deliver.ensures.queue) denied.front denied.rest denied.parts
    c.end_session.ensures.ends.waiting c.end_session.ensures.ends.pending

pub returns-in_default-clause-serves : goal.returns-in_default-clause-serves
returns-in_default-clause-serves g c = λ request rest outcome at parts alone may. copied_before c.args.unit.now _ _ outcome refl (λ a is. c.in_default.not-Answer a is) at

pub returns-in-Done-clause-serves : goal.returns-in-Done-clause-serves
returns-in-Done-clause-serves g c = λ request rest outcome at parts alone may. record {
  id = c.deliver.ensures.id;
  stage = c.in_ok-deliver.ensures.entry c.in-Done.is ∙ ap Entry (answer_is c.args.unit.now.service.stage _ outcome c.in-Answer.is at);
  answer = c.deliver.ensures.answer;
  pending = c.deliver.ensures.pending;
  line = c.deliver.ensures.line;
  waiting = waiting_stands _ _ c.deliver.ensures.stands;
  logins = c.deliver.ensures.logins;
  lines_are = refl;
}

pub returns-in-Busy-clause-serves : goal.returns-in-Busy-clause-serves
returns-in-Busy-clause-serves g c = λ request rest outcome at parts alone may.
    absurd (not_in_use (g.S.Site.state c.args.site.now) (g.S.Site.state c.deliver.new.site) alone (c.in_ok-deliver.ensures.busy c.in-Busy.is (is_pending _ rest request parts)))

pub returns-in-Refused-clause-serves : goal.returns-in-Refused-clause-serves
returns-in-Refused-clause-serves g c = λ request rest outcome at parts alone may.
    absurd (not_refused (g.S.Site.state c.args.site.now) (g.S.Site.state c.deliver.new.site) _ rest request alone parts may (c.in_ok-deliver.ensures.refused c.in-Refused.is))

pub returns-in_default-clause-wrote : goal.returns-in_default-clause-wrote
returns-in_default-clause-wrote g c = λ request rest parts. lays_none _ _

pub returns-in_err-deliver-clause-wrote : goal.returns-in_err-deliver-clause-wrote
returns-in_err-deliver-clause-wrote g c = λ request rest parts. c.deliver.ensures.wrote request rest parts

pub returns-in-Done-clause-wrote : goal.returns-in-Done-clause-wrote
returns-in-Done-clause-wrote g c = λ request rest parts. c.deliver.ensures.wrote request rest parts

pub returns-in-Busy-clause-wrote : goal.returns-in-Busy-clause-wrote
returns-in-Busy-clause-wrote g c = λ request rest parts. c.deliver.ensures.wrote request rest parts

pub returns-in-Refused-clause-wrote : goal.returns-in-Refused-clause-wrote
returns-in-Refused-clause-wrote g c = λ request rest parts. c.deliver.ensures.wrote request rest parts

pub returns-in_default-clause-laid : goal.returns-in_default-clause-laid
returns-in_default-clause-laid g c = λ request rest outcome at parts alone may. absurd (c.in_default.not-Answer outcome at)

pub returns-in-Done-clause-laid : goal.returns-in-Done-clause-laid
returns-in-Done-clause-laid g c = λ request rest outcome at parts alone may. c.in_ok-deliver.ensures.laid c.in-Done.is request rest parts

pub returns-in-Busy-clause-laid : goal.returns-in-Busy-clause-laid
returns-in-Busy-clause-laid g c = λ request rest outcome at parts alone may.
    absurd (not_in_use (g.S.Site.state c.args.site.now) (g.S.Site.state c.deliver.new.site) alone (c.in_ok-deliver.ensures.busy c.in-Busy.is (is_pending _ rest request parts)))

pub returns-in-Refused-clause-laid : goal.returns-in-Refused-clause-laid
returns-in-Refused-clause-laid g c = λ request rest outcome at parts alone may.
    absurd (not_refused (g.S.Site.state c.args.site.now) (g.S.Site.state c.deliver.new.site) _ rest request alone parts may (c.in_ok-deliver.ensures.refused c.in-Refused.is))

pub returns-in_err-deliver-clause-row : goal.returns-in_err-deliver-clause-row
returns-in_err-deliver-clause-row g c = λ outcome at. c.deliver.ensures.row

pub returns-in-Busy-clause-row : goal.returns-in-Busy-clause-row
returns-in-Busy-clause-row g c = λ outcome at. c.deliver.ensures.row

pub returns-in_default-clause-bears : goal.returns-in_default-clause-bears
returns-in_default-clause-bears g c = λ request rest parts. bears_none _ _

pub returns-in_err-deliver-clause-bears : goal.returns-in_err-deliver-clause-bears
returns-in_err-deliver-clause-bears g c = λ request rest parts. c.deliver.ensures.bears request rest parts

pub returns-in-Done-clause-bears : goal.returns-in-Done-clause-bears
returns-in-Done-clause-bears g c = λ request rest parts. c.deliver.ensures.bears request rest parts

pub returns-in-Busy-clause-bears : goal.returns-in-Busy-clause-bears
returns-in-Busy-clause-bears g c = λ request rest parts. c.deliver.ensures.bears request rest parts

pub returns-in-Refused-clause-bears : goal.returns-in-Refused-clause-bears
returns-in-Refused-clause-bears g c = λ request rest parts. c.deliver.ensures.bears request rest parts

pub returns-in_err-deliver-clause-waiting : goal.returns-in_err-deliver-clause-waiting
returns-in_err-deliver-clause-waiting g c = λ none. waiting_stands _ _ c.deliver.ensures.stands ∙ none

pub returns-in-Done-clause-waiting : goal.returns-in-Done-clause-waiting
returns-in-Done-clause-waiting g c = λ none. waiting_stands _ _ c.deliver.ensures.stands ∙ none

pub returns-in-Busy-clause-waiting : goal.returns-in-Busy-clause-waiting
returns-in-Busy-clause-waiting g c = λ none. waiting_stands _ _ c.deliver.ensures.stands ∙ none

pub returns-in-Refused-clause-waiting : goal.returns-in-Refused-clause-waiting
returns-in-Refused-clause-waiting g c = λ none. c.end_session.ensures.ends.waiting

pub returns-in-Refused-clause-stands : goal.returns-in-Refused-clause-stands
returns-in-Refused-clause-stands g c = λ outcome at. absurd (cc (c.end_session.ensures.stage, at))

pub returns-in_default-clause-does : goal.returns-in_default-clause-does
returns-in_default-clause-does g c = λ request rest outcome at parts alone. absurd (c.in_default.not-Answer outcome at)

pub returns-in-Done-clause-does : goal.returns-in-Done-clause-does
returns-in-Done-clause-does g c = λ request rest outcome at parts alone.
    inl (writes_answer c.args.unit.now c.deliver.new.unit (g.S.Site.state c.args.site.now) (g.S.Site.state c.deliver.new.site) c.args.records.now _ request rest alone parts c.in-Answer.is
    (c.in_ok-deliver.ensures.entry c.in-Done.is) c.deliver.ensures.id (λ i. (c.deliver.ensures.answer i).items) c.deliver.ensures.pending c.deliver.ensures.line c.deliver.ensures.logins
    c.deliver.ensures.queue c.deliver.ensures.advances (c.in_ok-deliver.ensures.may c.in-Done.is alone request rest parts) (c.in_ok-deliver.ensures.laid c.in-Done.is request rest parts) (c.deliver.ensures.bears request rest parts))

pub returns-in-Busy-clause-does : goal.returns-in-Busy-clause-does
returns-in-Busy-clause-does g c = λ request rest outcome at parts alone.
    absurd (not_in_use (g.S.Site.state c.args.site.now) (g.S.Site.state c.deliver.new.site) alone (c.in_ok-deliver.ensures.busy c.in-Busy.is (is_pending _ rest request parts)))

pub returns-in-Refused-clause-does : goal.returns-in-Refused-clause-does
returns-in-Refused-clause-does g c = λ request rest outcome at parts alone.
    inr (refused_drops c.args.unit.now c.deliver.new.unit c.end_session.new.unit (g.S.Site.state c.args.site.now) (g.S.Site.state c.deliver.new.site) c.args.records.now c.end_session.new.records
    _ _ Refused 0 0 c.in-Answer.is c.end_session.ensures.ends c.deliver.ensures.id c.deliver.ensures.logins (c.in_ok-deliver.ensures.stays c.in-Refused.is) c.end_session.ensures.row c.end_session.ensures.id
    c.end_session.ensures.stage c.end_session.ensures.closing (c.end_session.ensures.handshake ∙ ap (λ (l : Line). l.handshake) c.deliver.ensures.line) c.deliver.ensures.queue c.deliver.ensures.advances (c.in_ok-deliver.ensures.missed c.in-Refused.is alone))

pub returns-in_default-clause-goes : goal.returns-in_default-clause-goes
returns-in_default-clause-goes g c = inr (busy_same _ _ refl refl refl)

pub returns-in_err-deliver-clause-goes : goal.returns-in_err-deliver-clause-goes
returns-in_err-deliver-clause-goes g c = inr (busy_same _ _ (ap (λ (l : Line). l.closing) c.deliver.ensures.line) (waiting_stands _ _ c.deliver.ensures.stands) c.deliver.ensures.pending)

pub returns-in-Done-clause-goes : goal.returns-in-Done-clause-goes
returns-in-Done-clause-goes g c = inr (busy_same _ _ (ap (λ (l : Line). l.closing) c.deliver.ensures.line) (waiting_stands _ _ c.deliver.ensures.stands) c.deliver.ensures.pending)

pub returns-in-Busy-clause-goes : goal.returns-in-Busy-clause-goes
returns-in-Busy-clause-goes g c = inr (busy_same _ _ (ap (λ (l : Line). l.closing) c.deliver.ensures.line) (waiting_stands _ _ c.deliver.ensures.stands) c.deliver.ensures.pending)

pub returns-in-Refused-clause-goes : goal.returns-in-Refused-clause-goes
returns-in-Refused-clause-goes g c = inl c.end_session.ensures.closing

pub returns-in_default-clause-copies : goal.returns-in_default-clause-copies
returns-in_default-clause-copies g c = λ request rest outcome at parts alone. inl ((copied_before c.args.unit.now c.args.unit.now [] outcome refl (λ a is. c.in_default.not-Answer a is) at).stage, refl)

pub returns-in-Done-clause-copies : goal.returns-in-Done-clause-copies
returns-in-Done-clause-copies g c = λ request rest outcome at parts alone.
    inl (c.in_ok-deliver.ensures.entry c.in-Done.is ∙ ap Entry (answer_is c.args.unit.now.service.stage _ outcome c.in-Answer.is at), c.deliver.ensures.pending)

pub returns-in-Busy-clause-copies : goal.returns-in-Busy-clause-copies
returns-in-Busy-clause-copies g c = λ request rest outcome at parts alone.
    absurd (not_in_use (g.S.Site.state c.args.site.now) (g.S.Site.state c.deliver.new.site) alone (c.in_ok-deliver.ensures.busy c.in-Busy.is (is_pending _ rest request parts)))

pub returns-in-Refused-clause-copies : goal.returns-in-Refused-clause-copies
returns-in-Refused-clause-copies g c = λ request rest outcome at parts alone. inr (c.end_session.ensures.stage, c.end_session.ensures.closing)
