use Rattle.std.proofs.Common.{ap, inl, inr, refl, rules, sym, ◌∙◌, subst, []}
use Rattle.block_server.specs.Answering.{responses}
use Rattle.block_server.proofs.Agreeing.{agrees_on, agrees_same}
use Rattle.block_server.proofs.Readying.{full_later, idles_on, idles_reserves, next_on, next_over, opening_later, sender_later}
use Rattle.block_server.proofs.Advancing.{advances_on}
use Rattle.block_server.proofs.Onces.{once_on, once_same}
use Rattle.block_server.proofs.Quieting.{quiet_on, quiet_still, still_reserves}
use Rattle.block_server.proofs.Taking.{ended_stands, lines_same, takes_none, takes_on, waiting_stands}
use Rattle.block_server.proofs.GoingOn.{down_ended, open_goes_on}
use Rattle.block_server.proofs.Jointly.{keeps_pass, works, works_none, works_on, works_pass}
use Rattle.block_server.specs.Books.{books_at}
use Rattle.block_server.proofs.Owing.{owes_seen}
use Rattle.block_server.proofs.OwingCalls.{seen_reserves}
use Rattle.block_server.proofs.Ledgers.{explains_on, explains_stands}
use Rattle.block_server.specs.Refusals.{ledger_of}
use Rattle.block_server.specs.LoginAnswers.{login_answers}
use Rattle.block_server.proofs.Coming.{comes_on}
use Rattle.block_server.proofs.ComingParts.{comes_none}
use Rattle.block_server.specs.Steps.{NoStage}
use Rattle.block_server.specs.SiteState.{SiteState}
use Rattle.block_server.specs.Talk.{Replies}
use Rattle.block_server.specs.declared.unit.Unit.{Unit}
use Rattle.block_server.proofs.Talks.{both_off, replies_reserved}
use Rattle.block_server.specs.Talk.{reach_of}
use Rattle.crq_session.specs.declared.handshake.Handshake.TheVariants.{Down}
use Rattle.std.proofs.Common.{◌≡◌}
use Rattle.block_server.proofs.FirstTurns.{new_still, opens_from, quiet_first}
use Rattle.block_server.specs.Talk.{StaysQuiet}
use Rattle.block_server.proofs.Asides.{turn_event, turn_freed, turn_opened, turn_then}
use Rattle.block_server.proofs.DoingAnswers.{turn_from}
use Rattle.block_server.proofs.DoingAsides.{doing_same}
use Rattle.block_server.specs.Doings.{IsAtRest, doing}
use Rattle.block_server.proofs.turning.open_line.Goals as goal

pub returns-in_err-reserve-clause-once : goal.returns-in_err-reserve-clause-once
returns-in_err-reserve-clause-once g c = λ records disk serving. once_same _ _ _ _ _ _ refl refl (ap responses c.reserve.ensures.rest.sent) disk serving

pub returns-then-eq-clause-once : goal.returns-then-eq-clause-once
returns-then-eq-clause-once g c = λ records.
    once_on _ _ _ _ _ _ _ _ _ (λ disk serving. once_same _ _ _ _ _ _ refl refl (ap responses c.reserve.ensures.rest.sent) disk serving) (c.push_event.ensures.once records)

pub returns-then-eq-2-clause-once : goal.returns-then-eq-2-clause-once
returns-then-eq-2-clause-once g c = λ records.
    once_on _ _ _ _ _ _ _ _ _
    (once_on _ _ _ _ _ _ _ _ _ (λ disk serving. once_same _ _ _ _ _ _ refl refl (ap responses c.reserve.ensures.rest.sent) disk serving) (c.push_event.ensures.once records))
    (c.free_closed.ensures.once records)

pub returns-then-eq-2-clause-advances : goal.returns-then-eq-2-clause-advances
returns-then-eq-2-clause-advances g c = advances_on _ _ _ (advances_on _ _ _ c.reserve.ensures.advances c.push_event.ensures.advances) c.free_closed.ensures.advances

pub returns-then-eq-2-clause-quiet : goal.returns-then-eq-2-clause-quiet
returns-then-eq-2-clause-quiet g c =
    quiet_on _ _ _ _ _ _ (quiet_on _ _ _ _ _ _ (quiet_still _ _ _ (still_reserves _ _ c.reserve.ensures.rest)) c.push_event.ensures.quiet) c.free_closed.ensures.quiet

pub returns-then-is_down-clause-once : goal.returns-then-is_down-clause-once
returns-then-is_down-clause-once g c = λ records.
    once_on _ _ _ _ _ _ _ _ _
    (once_on _ _ _ _ _ _ _ _ _
    (once_on _ _ _ _ _ _ _ _ _ (λ disk serving. once_same _ _ _ _ _ _ refl refl (ap responses c.reserve.ensures.rest.sent) disk serving) (c.push_event.ensures.once records))
    (c.free_closed.ensures.once records)) (c.register.ensures.once records)

pub returns-then-is_down-clause-advances : goal.returns-then-is_down-clause-advances
returns-then-is_down-clause-advances g c = advances_on _ _ _ (advances_on _ _ _ (advances_on _ _ _ c.reserve.ensures.advances c.push_event.ensures.advances) c.free_closed.ensures.advances) c.register.ensures.advances

pub returns-then-is_down-clause-quiet : goal.returns-then-is_down-clause-quiet
returns-then-is_down-clause-quiet g c =
    quiet_on _ _ _ _ _ _ (quiet_on _ _ _ _ _ _ (quiet_on _ _ _ _ _ _ (quiet_still _ _ _ (still_reserves _ _ c.reserve.ensures.rest)) c.push_event.ensures.quiet) c.free_closed.ensures.quiet)
    c.register.ensures.quiet

pub returns-clause-once : goal.returns-clause-once
returns-clause-once g c = λ records.
    once_on _ _ _ _ _ _ _ _ _
    (once_on _ _ _ _ _ _ _ _ _ (λ disk serving. once_same _ _ _ _ _ _ refl refl (ap responses c.reserve.ensures.rest.sent) disk serving) (c.push_event.ensures.once records))
    (c.free_closed.ensures.once records)

pub returns-clause-advances : goal.returns-clause-advances
returns-clause-advances g c = advances_on _ _ _ (advances_on _ _ _ c.reserve.ensures.advances c.push_event.ensures.advances) c.free_closed.ensures.advances

pub returns-clause-quiet : goal.returns-clause-quiet
returns-clause-quiet g c =
    quiet_on _ _ _ _ _ _ (quiet_on _ _ _ _ _ _ (quiet_still _ _ _ (still_reserves _ _ c.reserve.ensures.rest)) c.push_event.ensures.quiet) c.free_closed.ensures.quiet

pub returns-in_err-reserve-clause-agrees : goal.returns-in_err-reserve-clause-agrees
returns-in_err-reserve-clause-agrees g c = agrees_same _ _ _ _ refl c.reserve.ensures.rest.registered

pub returns-then-eq-clause-agrees : goal.returns-then-eq-clause-agrees
returns-then-eq-clause-agrees g c = agrees_on _ _ _ (agrees_same _ _ _ _ refl c.reserve.ensures.rest.registered) c.push_event.ensures.agrees

pub returns-then-eq-2-clause-agrees : goal.returns-then-eq-2-clause-agrees
returns-then-eq-2-clause-agrees g c =
    agrees_on _ _ _ (agrees_on _ _ _ (agrees_same _ _ _ _ refl c.reserve.ensures.rest.registered) c.push_event.ensures.agrees) c.free_closed.ensures.agrees

pub returns-then-is_down-clause-agrees : goal.returns-then-is_down-clause-agrees
returns-then-is_down-clause-agrees g c =
    agrees_on _ _ _
    (agrees_on _ _ _ (agrees_on _ _ _ (agrees_same _ _ _ _ refl c.reserve.ensures.rest.registered) c.push_event.ensures.agrees) c.free_closed.ensures.agrees)
    c.register.ensures.agrees

pub returns-clause-agrees : goal.returns-clause-agrees
returns-clause-agrees g c =
    agrees_on _ _ _ (agrees_on _ _ _ (agrees_same _ _ _ _ refl c.reserve.ensures.rest.registered) c.push_event.ensures.agrees) c.free_closed.ensures.agrees

pub returns-then-eq-clause-waits : goal.returns-then-eq-clause-waits
returns-then-eq-clause-waits g c = λ moved.
    inl (full_later _ _ _ _ (idles_reserves _ _ _ c.reserve.ensures.rest) (next_over c.push_event.result _ _ _ (search rules) (c.push_event.ensures.waits moved)))

pub returns-then-eq-2-clause-waits : goal.returns-then-eq-2-clause-waits
returns-then-eq-2-clause-waits g c = λ moved.
    let event = next_on c.push_event.result _ _ (search rules) (c.push_event.ensures.waits (c.free_closed.ensures.quiet moved).was) in
    inr (inl (sender_later _ _ _ _ (idles_on _ _ _ _ (idles_reserves _ _ _ c.reserve.ensures.rest) event.idles)
    (next_over c.free_closed.result _ _ _ (search rules) (c.free_closed.ensures.waits moved))))

pub returns-then-is_down-clause-waits : goal.returns-then-is_down-clause-waits
returns-then-is_down-clause-waits g c = λ moved.
    let was = (c.register.ensures.quiet moved).was in
    let event = next_on c.push_event.result _ _ (search rules) (c.push_event.ensures.waits (c.free_closed.ensures.quiet was).was) in
    let free = next_on c.free_closed.result _ _ (search rules) (c.free_closed.ensures.waits was) in
    opening_later _ _ _ _ _
    (idles_on _ _ _ _ (idles_on _ _ _ _ (idles_reserves _ _ _ c.reserve.ensures.rest) event.idles) free) (c.register.ensures.waits moved)

pub returns-clause-waits : goal.returns-clause-waits
returns-clause-waits g c = λ moved.
    let event = next_on c.push_event.result _ _ (search rules) (c.push_event.ensures.waits (c.free_closed.ensures.quiet moved).was) in
    let free = next_on c.free_closed.result _ _ (search rules) (c.free_closed.ensures.waits moved) in
    record {
      passes = record {
        idles = idles_on _ _ _ _ (idles_on _ _ _ _ (idles_reserves _ _ _ c.reserve.ensures.rest) event.idles) free;
        none = free.kept event.none;
      };
      on = λ down. search rules;
      going = open_goes_on _ _ (c.free_closed.ensures.goes_on (search rules)) (λ down. search rules);
    }

pub returns-in_err-reserve-clause-intake : goal.returns-in_err-reserve-clause-intake
returns-in_err-reserve-clause-intake g c = λ records. takes_none _ _ _ _ _ _ refl c.reserve.ensures.advances c.reserve.ensures.passes (lines_same _ _ _ _ refl)

pub returns-then-eq-clause-intake : goal.returns-then-eq-clause-intake
returns-then-eq-clause-intake g c = λ records. takes_none _ _ _ _ _ _ c.push_event.ensures.stands (advances_on _ _ _ c.reserve.ensures.advances c.push_event.ensures.advances)
    (c.push_event.ensures.passes ∙ c.reserve.ensures.passes) (lines_same _ _ _ _ refl)

pub returns-then-eq-2-clause-intake : goal.returns-then-eq-2-clause-intake
returns-then-eq-2-clause-intake g c = λ records. takes_none _ _ _ _ _ _ (c.free_closed.ensures.stands ∙ c.push_event.ensures.stands)
    (advances_on _ _ _ (advances_on _ _ _ c.reserve.ensures.advances c.push_event.ensures.advances) c.free_closed.ensures.advances)
    (c.free_closed.ensures.passes ∙ c.push_event.ensures.passes ∙ c.reserve.ensures.passes) (lines_same _ _ _ _ refl)

pub returns-then-is_down-clause-intake : goal.returns-then-is_down-clause-intake
returns-then-is_down-clause-intake g c = λ records. takes_on _ _ _ _ _ _ _ _ _ (takes_none _ _ _ _ _ _ (c.free_closed.ensures.stands ∙ c.push_event.ensures.stands)
    (advances_on _ _ _ (advances_on _ _ _ c.reserve.ensures.advances c.push_event.ensures.advances) c.free_closed.ensures.advances)
    (c.free_closed.ensures.passes ∙ c.push_event.ensures.passes ∙ c.reserve.ensures.passes) (lines_same _ _ _ _ refl))
    (c.register.ensures.intake records)

pub returns-clause-intake : goal.returns-clause-intake
returns-clause-intake g c = λ records. takes_none _ _ _ _ _ _ (c.free_closed.ensures.stands ∙ c.push_event.ensures.stands)
    (advances_on _ _ _ (advances_on _ _ _ c.reserve.ensures.advances c.push_event.ensures.advances) c.free_closed.ensures.advances)
    (c.free_closed.ensures.passes ∙ c.push_event.ensures.passes ∙ c.reserve.ensures.passes) (lines_same _ _ _ _ refl)

pub returns-clause-goes_on : goal.returns-clause-goes_on
returns-clause-goes_on g c = λ apart. open_goes_on _ _ (c.free_closed.ensures.goes_on (search rules)) (λ down. search rules)

pub returns-then-eq-clause-goes_on : goal.returns-then-eq-clause-goes_on
returns-then-eq-clause-goes_on g c = λ apart. absurd (apart refl)

pub returns-then-eq-2-clause-goes_on : goal.returns-then-eq-2-clause-goes_on
returns-then-eq-2-clause-goes_on g c = λ apart. absurd (apart refl)

pub returns-then-is_down-clause-goes_on : goal.returns-then-is_down-clause-goes_on
returns-then-is_down-clause-goes_on g c = λ apart. absurd (apart refl)

pub returns-in_err-reserve-clause-books : goal.returns-in_err-reserve-clause-books
returns-in_err-reserve-clause-books g c = λ records waits judged is. keeps_pass c.args.unit.now records _ _ c.reserve.ensures.passes judged is

pub returns-then-eq-clause-books : goal.returns-then-eq-clause-books
returns-then-eq-clause-books g c = λ records waits judged is. c.push_event.ensures.books records judged (keeps_pass c.args.unit.now records _ _ c.reserve.ensures.passes judged is)

pub returns-then-eq-2-clause-books : goal.returns-then-eq-2-clause-books
returns-then-eq-2-clause-books g c = λ records waits judged is. c.free_closed.ensures.books records judged (c.push_event.ensures.books records judged (keeps_pass c.args.unit.now records _ _ c.reserve.ensures.passes judged is))

pub returns-then-is_down-clause-books : goal.returns-then-is_down-clause-books
returns-then-is_down-clause-books g c = λ records waits judged is. c.register.ensures.books records (waiting_stands _ _ (c.free_closed.ensures.stands ∙ c.push_event.ensures.stands) ∙ waits (sym (ended_stands _ _ (c.free_closed.ensures.stands ∙ c.push_event.ensures.stands)) ∙ down_ended _ _ (search rules))) judged (c.free_closed.ensures.books records judged (c.push_event.ensures.books records judged (keeps_pass c.args.unit.now records _ _ c.reserve.ensures.passes judged is)))

pub returns-clause-books : goal.returns-clause-books
returns-clause-books g c = λ records waits judged is. c.free_closed.ensures.books records judged (c.push_event.ensures.books records judged (keeps_pass c.args.unit.now records _ _ c.reserve.ensures.passes judged is))

pub returns-in_err-reserve-clause-answers : goal.returns-in_err-reserve-clause-answers
returns-in_err-reserve-clause-answers g c = λ records alone has. owes_seen _ _ (seen_reserves _ _ c.reserve.ensures.rest) refl refl refl refl refl refl refl has

pub returns-then-eq-clause-answers : goal.returns-then-eq-clause-answers
returns-then-eq-clause-answers g c = λ records alone has.
    c.push_event.ensures.answers records alone (owes_seen _ _ (seen_reserves _ _ c.reserve.ensures.rest) refl refl refl refl refl refl refl has)

pub returns-then-eq-2-clause-answers : goal.returns-then-eq-2-clause-answers
returns-then-eq-2-clause-answers g c = λ records alone has.
    c.free_closed.ensures.answers records alone (c.push_event.ensures.answers records alone (owes_seen _ _ (seen_reserves _ _ c.reserve.ensures.rest) refl refl refl refl refl refl refl has))

pub returns-clause-answers : goal.returns-clause-answers
returns-clause-answers g c = λ records alone has.
    c.free_closed.ensures.answers records alone (c.push_event.ensures.answers records alone (owes_seen _ _ (seen_reserves _ _ c.reserve.ensures.rest) refl refl refl refl refl refl refl has))

pub returns-then-is_down-clause-answers : goal.returns-then-is_down-clause-answers
returns-then-is_down-clause-answers g c = λ records alone has.
    c.register.ensures.answers records alone (c.free_closed.ensures.answers records alone (c.push_event.ensures.answers records alone (owes_seen _ _ (seen_reserves _ _ c.reserve.ensures.rest) refl refl refl refl refl refl refl has)))

pub returns-in_err-reserve-clause-judges : goal.returns-in_err-reserve-clause-judges
returns-in_err-reserve-clause-judges g c = λ records. (works_pass c.args.unit.now records _ _ c.reserve.ensures.advances c.reserve.ensures.passes).judges

pub returns-then-eq-clause-judges : goal.returns-then-eq-clause-judges
returns-then-eq-clause-judges g c = λ records. (works_none _ _ _ _ _ _ c.push_event.ensures.stands refl refl (advances_on _ _ _ c.reserve.ensures.advances c.push_event.ensures.advances)
    (c.push_event.ensures.passes ∙ c.reserve.ensures.passes) (lines_same _ _ _ _ refl)
    (λ judged is. c.push_event.ensures.books records judged (keeps_pass c.args.unit.now records _ _ c.reserve.ensures.passes judged is))).judges

pub returns-then-eq-2-clause-judges : goal.returns-then-eq-2-clause-judges
returns-then-eq-2-clause-judges g c = λ records. (works_none _ _ _ _ _ _ (c.free_closed.ensures.stands ∙ c.push_event.ensures.stands) refl refl (advances_on _ _ _ (advances_on _ _ _ c.reserve.ensures.advances c.push_event.ensures.advances) c.free_closed.ensures.advances)
    (c.free_closed.ensures.passes ∙ c.push_event.ensures.passes ∙ c.reserve.ensures.passes) (lines_same _ _ _ _ refl)
    (λ judged is. c.free_closed.ensures.books records judged (c.push_event.ensures.books records judged (keeps_pass c.args.unit.now records _ _ c.reserve.ensures.passes judged is)))).judges

pub returns-clause-judges : goal.returns-clause-judges
returns-clause-judges g c = λ records. (works_none _ _ _ _ _ _ (c.free_closed.ensures.stands ∙ c.push_event.ensures.stands) refl refl (advances_on _ _ _ (advances_on _ _ _ c.reserve.ensures.advances c.push_event.ensures.advances) c.free_closed.ensures.advances)
    (c.free_closed.ensures.passes ∙ c.push_event.ensures.passes ∙ c.reserve.ensures.passes) (lines_same _ _ _ _ refl)
    (λ judged is. c.free_closed.ensures.books records judged (c.push_event.ensures.books records judged (keeps_pass c.args.unit.now records _ _ c.reserve.ensures.passes judged is)))).judges

pub returns-then-is_down-clause-judges : goal.returns-then-is_down-clause-judges
returns-then-is_down-clause-judges g c = λ records. (works_on _ _ _ _ _ _ _ _ _
    (works_none _ _ _ _ _ (books_at c.free_closed.new.unit (g.S.Site.state c.free_closed.new.site) records) (c.free_closed.ensures.stands ∙ c.push_event.ensures.stands) refl refl (advances_on _ _ _ (advances_on _ _ _ c.reserve.ensures.advances c.push_event.ensures.advances) c.free_closed.ensures.advances)
    (c.free_closed.ensures.passes ∙ c.push_event.ensures.passes ∙ c.reserve.ensures.passes) (lines_same _ _ _ _ refl)
    (λ judged is. c.free_closed.ensures.books records judged (c.push_event.ensures.books records judged (keeps_pass c.args.unit.now records _ _ c.reserve.ensures.passes judged is))))
    (works _ _ _ _ _ _ refl refl (c.register.ensures.intake records.grants.items) (c.register.ensures.judges records))).judges

pub returns-in_err-reserve-clause-refuses : goal.returns-in_err-reserve-clause-refuses
returns-in_err-reserve-clause-refuses g c = λ records. explains_stands c.args.unit.now c.args.unit.now _ _ records records refl c.reserve.ensures.passes refl refl (ap login_answers c.reserve.ensures.rest.sent) refl

pub returns-then-eq-clause-refuses : goal.returns-then-eq-clause-refuses
returns-then-eq-clause-refuses g c = λ records.
    let pushed = explains_on (ledger_of c.args.unit.now (g.S.Site.state c.args.site.now) records) (ledger_of c.args.unit.now (g.S.Site.state c.reserve.new.self) records) _ (explains_stands c.args.unit.now c.args.unit.now _ _ records records refl c.reserve.ensures.passes refl refl (ap login_answers c.reserve.ensures.rest.sent) refl) (c.push_event.ensures.refuses records) in
    pushed

pub returns-then-eq-2-clause-refuses : goal.returns-then-eq-2-clause-refuses
returns-then-eq-2-clause-refuses g c = λ records.
    let pushed = explains_on (ledger_of c.args.unit.now (g.S.Site.state c.args.site.now) records) (ledger_of c.args.unit.now (g.S.Site.state c.reserve.new.self) records) _ (explains_stands c.args.unit.now c.args.unit.now _ _ records records refl c.reserve.ensures.passes refl refl (ap login_answers c.reserve.ensures.rest.sent) refl) (c.push_event.ensures.refuses records) in
    explains_on _ _ _ pushed (c.free_closed.ensures.refuses records)

pub returns-then-is_down-clause-refuses : goal.returns-then-is_down-clause-refuses
returns-then-is_down-clause-refuses g c = λ records.
    let pushed = explains_on (ledger_of c.args.unit.now (g.S.Site.state c.args.site.now) records) (ledger_of c.args.unit.now (g.S.Site.state c.reserve.new.self) records) _ (explains_stands c.args.unit.now c.args.unit.now _ _ records records refl c.reserve.ensures.passes refl refl (ap login_answers c.reserve.ensures.rest.sent) refl) (c.push_event.ensures.refuses records) in
    explains_on _ _ _ (explains_on _ _ _ pushed (c.free_closed.ensures.refuses records)) (c.register.ensures.refuses records)

pub returns-clause-refuses : goal.returns-clause-refuses
returns-clause-refuses g c = λ records.
    let pushed = explains_on (ledger_of c.args.unit.now (g.S.Site.state c.args.site.now) records) (ledger_of c.args.unit.now (g.S.Site.state c.reserve.new.self) records) _ (explains_stands c.args.unit.now c.args.unit.now _ _ records records refl c.reserve.ensures.passes refl refl (ap login_answers c.reserve.ensures.rest.sent) refl) (c.push_event.ensures.refuses records) in
    explains_on _ _ _ pushed (c.free_closed.ensures.refuses records)

pub returns-then-eq-clause-comes : goal.returns-then-eq-clause-comes
returns-then-eq-clause-comes g c =
    comes_on c.args.unit.now c.args.unit.now _ _ _ _ (comes_none NoStage _ _ _ _ (still_reserves _ _ c.reserve.ensures.rest) refl refl) c.push_event.ensures.comes

pub returns-then-eq-2-clause-comes : goal.returns-then-eq-2-clause-comes
returns-then-eq-2-clause-comes g c =
    comes_on _ _ _ _ _ _ (comes_on c.args.unit.now c.args.unit.now _ _ _ _ (comes_none NoStage _ _ _ _ (still_reserves _ _ c.reserve.ensures.rest) refl refl) c.push_event.ensures.comes)
    c.free_closed.ensures.comes

pub returns-then-is_down-clause-comes : goal.returns-then-is_down-clause-comes
returns-then-is_down-clause-comes g c =
    comes_on _ _ _ _ _ _ (comes_on _ _ _ _ _ _ (comes_on c.args.unit.now c.args.unit.now _ _ _ _ (comes_none NoStage _ _ _ _ (still_reserves _ _ c.reserve.ensures.rest) refl refl) c.push_event.ensures.comes)
    c.free_closed.ensures.comes) c.register.ensures.comes

pub returns-clause-comes : goal.returns-clause-comes
returns-clause-comes g c =
    comes_on _ _ _ _ _ _ (comes_on c.args.unit.now c.args.unit.now _ _ _ _ (comes_none NoStage _ _ _ _ (still_reserves _ _ c.reserve.ensures.rest) refl refl) c.push_event.ensures.comes)
    c.free_closed.ensures.comes

pub returns-then-eq-clause-idle : goal.returns-then-eq-clause-idle
returns-then-eq-clause-idle g c = λ alone on none.
    let pushed = c.push_event.ensures.rests (c.reserve.ensures.rest.kept ∙ none) in
    absurd (search rules)

pub returns-then-eq-2-clause-idle : goal.returns-then-eq-2-clause-idle
returns-then-eq-2-clause-idle g c = λ alone on none.
    let pushed = c.push_event.ensures.rests (c.reserve.ensures.rest.kept ∙ none) in
    let freed = c.free_closed.ensures.rests (ap (λ (u : Unit). u.line.closing) pushed.1 ∙ both_off _ _ on) in
    absurd (search rules)

pub returns-then-is_down-clause-idle : goal.returns-then-is_down-clause-idle
returns-then-is_down-clause-idle g c = λ alone on none.
    let pushed = c.push_event.ensures.rests (c.reserve.ensures.rest.kept ∙ none) in
    let freed = c.free_closed.ensures.rests (ap (λ (u : Unit). u.line.closing) pushed.1 ∙ both_off _ _ on) in
    absurd (search rules)

pub returns-clause-idle : goal.returns-clause-idle
returns-clause-idle g c = λ alone on none.
    let kept = c.reserve.ensures.rest.kept ∙ none in
    let pushed = c.push_event.ensures.rests kept in
    let freed = c.free_closed.ensures.rests (ap (λ (u : Unit). u.line.closing) pushed.1 ∙ both_off _ _ on) in
    let is = c.push_event.ensures.idle alone kept in (
      subst (λ (s : SiteState). Replies (g.S.Site.state c.args.site.now).queue s.queue []) (sym freed.2) (replies_reserved _ _ _ c.reserve.ensures.rest is.0),
      ap (λ (s : SiteState). s.client) freed.2 ∙ is.1 ∙ c.reserve.ensures.windows.client,
    )

pub returns-then-eq-clause-opens : goal.returns-then-eq-clause-opens
returns-then-eq-clause-opens g c = λ is.
    let pushed = c.push_event.ensures.rests (c.reserve.ensures.rest.kept ∙ is.event) in
    absurd (search rules)

pub returns-then-eq-2-clause-opens : goal.returns-then-eq-2-clause-opens
returns-then-eq-2-clause-opens g c = λ is.
    let pushed = c.push_event.ensures.rests (c.reserve.ensures.rest.kept ∙ is.event) in
    let freed = c.free_closed.ensures.rests (ap (λ (u : Unit). u.line.closing) pushed.1 ∙ is.made.closing) in
    absurd (search rules)

pub returns-then-is_down-clause-opens : goal.returns-then-is_down-clause-opens
returns-then-is_down-clause-opens g c = λ is.
    let kept = c.reserve.ensures.rest.kept ∙ is.event in
    let pushed = c.push_event.ensures.rests kept in
    let freed = c.free_closed.ensures.rests (ap (λ (u : Unit). u.line.closing) pushed.1 ∙ is.made.closing) in
    let idle = c.push_event.ensures.idle is.alone kept in
    let same = freed.1 ∙ pushed.1 in
    let quiet = subst (λ (s : SiteState). StaysQuiet (g.S.Site.state c.args.site.now).queue s.queue) (sym freed.2) (quiet_first _ _ _ c.reserve.ensures.rest is.event (c.push_event.ensures.event kept) idle.0) in
    let client = ap (λ (s : SiteState). s.client) freed.2 ∙ idle.1 ∙ c.reserve.ensures.windows.client in
    let shared = ap (λ (s : SiteState). s.shared) freed.2 ∙ c.push_event.ensures.advances.shared ∙ c.reserve.ensures.advances.shared in (
      refl,
      opens_from c.args.unit.now c.free_closed.new.unit c.register.new.unit (reach_of (g.S.Site.state c.args.site.now)) (reach_of (g.S.Site.state c.free_closed.new.site)) (reach_of (g.S.Site.state c.register.new.site))
          (ap (λ (u : Unit). u.id) same) (ap (λ (u : Unit). u.logins) same) quiet client
          (c.register.ensures.opens (new_still _ c.args.unit.now c.free_closed.new.unit (reach_of (g.S.Site.state c.args.site.now)) (reach_of (g.S.Site.state c.free_closed.new.site)) is same quiet shared)),
    )

pub returns-clause-opens : goal.returns-clause-opens
returns-clause-opens g c = λ is.
    let pushed = c.push_event.ensures.rests (c.reserve.ensures.rest.kept ∙ is.event) in
    let freed = c.free_closed.ensures.rests (ap (λ (u : Unit). u.line.closing) pushed.1 ∙ is.made.closing) in
    let down : c.free_closed.new.unit.line.handshake ≡ Down = ap (λ (u : Unit). u.line.handshake) (freed.1 ∙ pushed.1) ∙ is.made.handshake in
    absurd (search rules)

pub returns-then-eq-clause-does : goal.returns-then-eq-clause-does
returns-then-eq-clause-does g c = λ records alone rests.
    let unit = c.args.unit.now in
    let same = doing_same unit (g.S.Site.state c.args.site.now) (g.S.Site.state c.reserve.new.self) records records c.reserve.ensures.advances.own_place c.reserve.ensures.rest c.reserve.ensures.windows.client refl refl in
    let pushed = turn_event _ (doing c.push_event.new.unit (g.S.Site.state c.push_event.new.site) records) (c.push_event.ensures.aside records alone) (subst IsAtRest (sym same) rests) in
    turn_from _ _ _ same pushed

pub returns-then-eq-2-clause-does : goal.returns-then-eq-2-clause-does
returns-then-eq-2-clause-does g c = λ records alone rests.
    let unit = c.args.unit.now in
    let same = doing_same unit (g.S.Site.state c.args.site.now) (g.S.Site.state c.reserve.new.self) records records c.reserve.ensures.advances.own_place c.reserve.ensures.rest c.reserve.ensures.windows.client refl refl in
    let pushed = turn_event _ (doing c.push_event.new.unit (g.S.Site.state c.push_event.new.site) records) (c.push_event.ensures.aside records alone) (subst IsAtRest (sym same) rests) in
    let freed = turn_freed _ (doing c.free_closed.new.unit (g.S.Site.state c.free_closed.new.site) records) (c.free_closed.ensures.aside records alone) pushed.rests in
    turn_from _ _ _ same (turn_then _ _ _ pushed freed)

pub returns-clause-does : goal.returns-clause-does
returns-clause-does g c = λ records alone rests.
    let unit = c.args.unit.now in
    let same = doing_same unit (g.S.Site.state c.args.site.now) (g.S.Site.state c.reserve.new.self) records records c.reserve.ensures.advances.own_place c.reserve.ensures.rest c.reserve.ensures.windows.client refl refl in
    let pushed = turn_event _ (doing c.push_event.new.unit (g.S.Site.state c.push_event.new.site) records) (c.push_event.ensures.aside records alone) (subst IsAtRest (sym same) rests) in
    let freed = turn_freed _ (doing c.free_closed.new.unit (g.S.Site.state c.free_closed.new.site) records) (c.free_closed.ensures.aside records alone) pushed.rests in
    turn_from _ _ _ same (turn_then _ _ _ pushed freed)

pub returns-then-is_down-clause-does : goal.returns-then-is_down-clause-does
returns-then-is_down-clause-does g c = λ records alone rests.
    let unit = c.args.unit.now in
    let same = doing_same unit (g.S.Site.state c.args.site.now) (g.S.Site.state c.reserve.new.self) records records c.reserve.ensures.advances.own_place c.reserve.ensures.rest c.reserve.ensures.windows.client refl refl in
    let pushed = turn_event _ (doing c.push_event.new.unit (g.S.Site.state c.push_event.new.site) records) (c.push_event.ensures.aside records alone) (subst IsAtRest (sym same) rests) in
    let freed = turn_freed _ (doing c.free_closed.new.unit (g.S.Site.state c.free_closed.new.site) records) (c.free_closed.ensures.aside records alone) pushed.rests in
    let opened = turn_opened _ (doing c.register.new.unit (g.S.Site.state c.register.new.site) records) (c.register.ensures.aside records alone) (down_ended _ _ (search rules)) freed.rests in
    turn_from _ _ _ same (turn_then _ _ _ (turn_then _ _ _ pushed freed) opened)
