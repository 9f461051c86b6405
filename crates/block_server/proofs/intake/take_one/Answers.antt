use Rattle.block_server.specs.Cargo.{Pages}
use Rattle.std.proofs.Common.{ap, refl, ◌∙◌, rules}
use Rattle.block_server.specs.Answering.{responses}
use Rattle.block_server.proofs.Agreeing.{agrees_got, agrees_on, agrees_same}
use Rattle.block_server.proofs.Quieting.{on_ok, stays_moved}
use Rattle.block_server.proofs.Readying.{idles_on, idles_reserves, if_moved, not_moved, nothing_later, on_moved, poll_idles, poll_nothing}
use Rattle.block_server.proofs.Advancing.{advances_on, advances_same}
use Rattle.block_server.proofs.Onces.{once_same, once_then}
use Rattle.block_server.proofs.Denying.{tells_next}
use Rattle.block_server.proofs.Serves.{as_none_next}
use Rattle.block_server.proofs.Taking.{ended_stands, ends_line, lines_same, passes_windows, takes_none, takes_on, takes_other, waiting_stands}
use Rattle.block_server.proofs.GoingOn.{event_is, no_event, no_handshake, stands_got, up_got, command_first, got_ended, not_command, poll_taken}
use Rattle.block_server.proofs.Jointly.{judges_gone, keeps_gone, works, works_none, works_on, works_other, works_pass}
use Rattle.block_server.specs.Books.{books_at, next_of}
use Rattle.block_server.specs.Receipts.{TakesEntry, standing_of}
use Rattle.block_server.proofs.Owing.{has_cut_of, owes_seen, seen_call, seen_taken}
use Rattle.block_server.proofs.OwingCalls.{event_kind, seen_on, seen_reserves}
use Rattle.block_server.specs.Owed.{row_in}
use Rattle.block_server.proofs.CopyKinds.{still_pages}
use Rattle.block_server.proofs.Cargoes.{sees, shown_same}
use Rattle.block_server.proofs.Hands.{keeps_on, keeps_same}
use Rattle.block_server.proofs.Ledgers.{on_ends, explained_ended, explains_same, explains_stands, explains_taken}
use Rattle.vio_num.specs.declared.history.Grant.TheVariants.{Lapsed}
use Rattle.vio_num.specs.declared.history.Lapse.TheVariants.{Lost}
use Rattle.block_server.specs.Refusals.{ledger_of}
use Rattle.block_server.specs.LoginAnswers.{login_answers}
use Rattle.std.proofs.Common.{inl, inr, sym}
use Rattle.block_server.specs.Causes.{told_to}
use Rattle.block_server.proofs.Dealing.{heard_event}
use Rattle.block_server.proofs.Restings.{none_taken, still_emptied}
use Rattle.std.proofs.Common.{ℕ}
use Rattle.crq_ring.specs.declared.rows.PipeRow.{PipeRow}
use Rattle.std.proofs.Common.{◌++◌, List, [], ◌∷◌}
use Rattle.block_server.proofs.ComingParts.{comes_none, less_later, work_later, work_taken}
use Rattle.block_server.specs.Steps.{NoStage}
use Rattle.std.proofs.Common.{true}
use Rattle.vio_num.specs.declared.entry.Kind.TheVariants.{Reserved, Unused}
use Rattle.block_server.proofs.Listening.{came, hears_asked, hears_begun, hears_gone, hears_none, no_reply, no_word, said_none}
use Rattle.block_server.specs.Talk.{reach_of}
use Rattle.block_server.proofs.LastRows.{ended_idle, idle_same}
use Rattle.block_server.specs.declared.service.Service.{Service}
use Rattle.std.proofs.Common.{subst, ◌||◌}
use Rattle.block_server.specs.Receipts.{is_down, is_ended}
use Rattle.block_server.specs.Doings.{DoesFreely, Doing, IsFree, doing}
use Rattle.block_server.proofs.DoingEnds.{drops_lost, left_at_start}
use Rattle.crq_session.specs.Handshake.{step_entry}
use Rattle.block_server.proofs.DoingHears.{came_doing, drops_freely, ended_same, freely_none, hears_freely, init_none, init_sends, one_freely, one_init, other_srp, passes_freely, passes_same, reply_free, still_doing}
use Rattle.block_server.proofs.DoingReplies.{plain_none}
use Rattle.block_server.specs.HeardOut.HearsOut.{keeps}
use Rattle.block_server.proofs.HeardOuts.{heard_ok, less_came, less_then, next_or, ok_next_or, stops_empty}
use Rattle.block_server.proofs.DoingReplies.{come_same}
use Rattle.block_server.proofs.Taking.{passed_session, passed_taken}
use Rattle.std.proofs.Common.{inr}
use Rattle.block_server.proofs.ServedOuts.{brings_from, brings_none, few_none, few_ok, few_one}
use Rattle.std.proofs.Common.{arith, length}
use Rattle.block_server.specs.declared.request.Request.{Request}
use Rattle.block_server.proofs.intake.take_one.Goals as goal

pub returns-in_err-reserve-clause-once : goal.returns-in_err-reserve-clause-once
returns-in_err-reserve-clause-once g c = λ disk all serving. once_same _ _ _ _ _ _ refl refl (ap responses c.reserve.ensures.rest.sent) disk serving

pub returns-in_default-clause-once : goal.returns-in_default-clause-once
returns-in_default-clause-once g c = λ disk all serving. once_same _ _ _ _ _ _ refl refl (ap responses (c.poll.ensures.rest.sent ∙ c.reserve.ensures.rest.sent)) disk serving

pub returns-in-Command-clause-once : goal.returns-in-Command-clause-once
returns-in-Command-clause-once g c =
    λ disk all. once_then disk disk disk _ _ _ _ _ _ _ _ _ (once_same _ _ _ _ _ _ refl refl (ap responses (c.poll.ensures.rest.sent ∙ c.reserve.ensures.rest.sent)) disk)
    (c.take_command.ensures.once disk
    (tells_next disk.terms.told c.args.unit.now.id (g.S.Site.state c.args.site.now) (g.S.Site.state c.poll.new.self) (g.S.Site.state c.take_command.new.site)
    (advances_on _ _ _ c.reserve.ensures.advances c.poll.ensures.advances) all))

pub returns-in-Some-clause-once : goal.returns-in-Some-clause-once
returns-in-Some-clause-once g c =
    λ disk all. once_then disk disk disk _ _ _ _ _ _ _ _ _ (once_same _ _ _ _ _ _ refl refl (ap responses (c.poll.ensures.rest.sent ∙ c.reserve.ensures.rest.sent)) disk)
    (c.put_reply.ensures.once c.args.records.now disk)

pub returns-in-Some-clause-none : goal.returns-in-Some-clause-none
returns-in-Some-clause-none g c = as_none_next c.put_reply.result _ _ c.requires.none c.put_reply.ensures.still

pub returns-in-None-clause-once : goal.returns-in-None-clause-once
returns-in-None-clause-once g c = λ disk all serving. once_same _ _ _ _ _ _ refl refl (ap responses (c.poll.ensures.rest.sent ∙ c.reserve.ensures.rest.sent)) disk serving

pub returns-in-Event-clause-once : goal.returns-in-Event-clause-once
returns-in-Event-clause-once g c =
    λ disk all. once_then disk disk disk _ _ _ _ _ _ _ _ _ (once_same _ _ _ _ _ _ refl refl (ap responses (c.poll.ensures.rest.sent ∙ c.reserve.ensures.rest.sent)) disk)
    (c.lose_partner.ensures.once (g.S.Site.state c.poll.new.self).queue disk)

pub returns-in-Unused-clause-once : goal.returns-in-Unused-clause-once
returns-in-Unused-clause-once g c = λ disk all serving. once_same _ _ _ _ _ _ refl refl (ap responses (c.poll.ensures.rest.sent ∙ c.reserve.ensures.rest.sent)) disk serving

pub returns-in-Reserved-clause-once : goal.returns-in-Reserved-clause-once
returns-in-Reserved-clause-once g c = λ disk all serving. once_same _ _ _ _ _ _ refl refl (ap responses (c.poll.ensures.rest.sent ∙ c.reserve.ensures.rest.sent)) disk serving

pub returns-in-Command-clause-advances : goal.returns-in-Command-clause-advances
returns-in-Command-clause-advances g c = advances_on _ _ _ (advances_on _ _ _ c.reserve.ensures.advances c.poll.ensures.advances) c.take_command.ensures.advances

pub returns-in-Some-clause-advances : goal.returns-in-Some-clause-advances
returns-in-Some-clause-advances g c = advances_on _ _ _ (advances_on _ _ _ c.reserve.ensures.advances c.poll.ensures.advances) c.put_reply.ensures.advances

pub returns-in_err-reserve-clause-agrees : goal.returns-in_err-reserve-clause-agrees
returns-in_err-reserve-clause-agrees g c = agrees_same _ _ _ _ refl c.reserve.ensures.rest.registered

pub returns-in_default-clause-agrees : goal.returns-in_default-clause-agrees
returns-in_default-clause-agrees g c = agrees_same _ _ _ _ refl (c.poll.ensures.rest.registered ∙ c.reserve.ensures.rest.registered)

pub returns-in-Command-clause-agrees : goal.returns-in-Command-clause-agrees
returns-in-Command-clause-agrees g c = agrees_on _ _ _ (agrees_same _ _ _ _ refl (c.poll.ensures.rest.registered ∙ c.reserve.ensures.rest.registered)) c.take_command.ensures.agrees

pub returns-in-Some-clause-agrees : goal.returns-in-Some-clause-agrees
returns-in-Some-clause-agrees g c = λ is. c.put_reply.ensures.agrees (agrees_got _ _ c.in-Got.entry _ _ c.got-step.ensures.state (c.poll.ensures.rest.registered ∙ c.reserve.ensures.rest.registered) is)

pub returns-in-None-clause-agrees : goal.returns-in-None-clause-agrees
returns-in-None-clause-agrees g c = λ is. agrees_got _ _ c.in-Got.entry _ _ c.got-step.ensures.state (c.poll.ensures.rest.registered ∙ c.reserve.ensures.rest.registered) is

pub returns-in-Event-clause-agrees : goal.returns-in-Event-clause-agrees
returns-in-Event-clause-agrees g c = λ is. agrees_same _ _ (g.S.Site.state c.poll.new.self).queue _ c.lose_partner.ensures.handshake refl (agrees_got _ _ c.in-Got.entry _ _ c.got-step-in-Event.ensures.state (c.poll.ensures.rest.registered ∙ c.reserve.ensures.rest.registered) is)

pub returns-in-Unused-clause-agrees : goal.returns-in-Unused-clause-agrees
returns-in-Unused-clause-agrees g c = agrees_same _ _ _ _ refl (c.poll.ensures.rest.registered ∙ c.reserve.ensures.rest.registered)

pub returns-in-Reserved-clause-agrees : goal.returns-in-Reserved-clause-agrees
returns-in-Reserved-clause-agrees g c = agrees_same _ _ _ _ refl (c.poll.ensures.rest.registered ∙ c.reserve.ensures.rest.registered)

pub returns-in_default-clause-waits : goal.returns-in_default-clause-waits
returns-in_default-clause-waits g c = λ moved.
    nothing_later _ _ _ _ (idles_reserves _ _ _ c.reserve.ensures.rest)
    (poll_nothing _ _ _ c.poll.result (λ number entry is. c.in_default.not-Got number entry is) c.poll.ensures.unregistered.0 c.poll.ensures.empty c.poll.ensures.rest)

pub returns-in_default-clause-idles : goal.returns-in_default-clause-idles
returns-in_default-clause-idles g c = λ moved.
    idles_on _ _ _ _ (idles_reserves _ _ _ c.reserve.ensures.rest)
    (poll_idles _ _ _ c.poll.result (λ number entry is. c.in_default.not-Got number entry is) c.poll.ensures.empty c.poll.ensures.refused c.poll.ensures.rest)

pub returns-in-Command-clause-waits : goal.returns-in-Command-clause-waits
returns-in-Command-clause-waits g c = if_moved c.take_command.result _ _ (on_ok c.take_command.result _ _ (λ stays. stays refl) c.take_command.ensures.moved)

pub returns-in-Command-clause-idles : goal.returns-in-Command-clause-idles
returns-in-Command-clause-idles g c = on_moved c.take_command.result _ _ (on_ok c.take_command.result _ _ (λ stays. stays refl) c.take_command.ensures.moved)

pub returns-in-Command-clause-line : goal.returns-in-Command-clause-line
returns-in-Command-clause-line g c = on_moved c.take_command.result _ _ (on_ok c.take_command.result _ _ (λ stays. stays refl) c.take_command.ensures.moved)

pub returns-in-Some-clause-waits : goal.returns-in-Some-clause-waits
returns-in-Some-clause-waits g c = λ moved. not_moved _ _ (stays_moved _ _ _ _ c.put_reply.ensures.quiet refl) moved

pub returns-in-Some-clause-idles : goal.returns-in-Some-clause-idles
returns-in-Some-clause-idles g c = λ moved. not_moved _ _ (stays_moved _ _ _ _ c.put_reply.ensures.quiet refl) moved

pub returns-in-Some-clause-line : goal.returns-in-Some-clause-line
returns-in-Some-clause-line g c = λ moved. not_moved _ _ (stays_moved _ _ _ _ c.put_reply.ensures.quiet refl) moved

pub returns-in_err-reserve-clause-intake : goal.returns-in_err-reserve-clause-intake
returns-in_err-reserve-clause-intake g c = λ may. takes_none _ _ _ _ _ _ refl c.reserve.ensures.advances c.reserve.ensures.passes (lines_same _ _ _ _ refl)

pub returns-in_default-clause-intake : goal.returns-in_default-clause-intake
returns-in_default-clause-intake g c = λ may.
    let taken = poll_taken _ _ _ c.poll.result (λ number entry is. c.in_default.not-Got number entry is) c.poll.ensures.empty c.poll.ensures.refused in
    takes_none _ _ _ _ _ _ refl (advances_on _ _ _ c.reserve.ensures.advances c.poll.ensures.advances)
    (passes_windows _ _ c.poll.ensures.rest.last_session taken c.poll.ensures.windows ∙ c.reserve.ensures.passes) (lines_same _ _ _ _ refl)

pub returns-in-Command-clause-intake : goal.returns-in-Command-clause-intake
returns-in-Command-clause-intake g c = λ may.
    takes_on _ _ _ _ _ _ _ _ _ (takes_none _ _ _ _ _ _ refl c.reserve.ensures.advances c.reserve.ensures.passes (lines_same _ _ _ _ refl))
    (c.take_command.ensures.intake (g.S.Site.state c.reserve.new.self) may (command_first c.in-Got.entry (search rules)) (record {
      number_is = c.in-Got.ensures.got.number_is;
      taken = c.in-Got.ensures.got.taken;
      session = c.poll.ensures.rest.last_session;
      windows = c.poll.ensures.windows;
      advances = c.poll.ensures.advances;
    }))

pub returns-in-Command-clause-goes_on : goal.returns-in-Command-clause-goes_on
returns-in-Command-clause-goes_on g c = λ may. c.take_command.ensures.goes_on may

pub returns-in-Some-clause-intake : goal.returns-in-Some-clause-intake
returns-in-Some-clause-intake g c = λ may.
    takes_on _ _ _ _ _ _ _ _ _ (takes_on _ _ _ _ _ _ _ _ _ (takes_none _ _ _ _ _ _ refl c.reserve.ensures.advances c.reserve.ensures.passes (lines_same _ _ _ _ refl))
    (takes_other _ _ _ _ _ _ c.in-Got.number c.in-Got.entry may (record {
      number_is = c.in-Got.ensures.got.number_is;
      taken = c.in-Got.ensures.got.taken;
      session = c.poll.ensures.rest.last_session;
      windows = c.poll.ensures.windows;
      advances = c.poll.ensures.advances;
    })
    (not_command c.in-Got.entry (λ is. search rules)) c.poll.ensures.advances refl refl may.none refl))
    (takes_none _ _ _ _ _ _ c.put_reply.ensures.stands c.put_reply.ensures.advances c.put_reply.ensures.passes (lines_same _ _ _ _ refl))

pub returns-in-Some-clause-goes_on : goal.returns-in-Some-clause-goes_on
returns-in-Some-clause-goes_on g c = λ may same. record {
  none = waiting_stands _ _ c.put_reply.ensures.stands ∙ may.none;
  goes_on = ended_stands _ _ c.put_reply.ensures.stands ∙ got_ended _ _ _ c.in-Got.entry c.got-step.ensures.state ∙ may.goes_on;
}

pub returns-in-None-clause-intake : goal.returns-in-None-clause-intake
returns-in-None-clause-intake g c = λ may.
    takes_on _ _ _ _ _ _ _ _ _ (takes_none _ _ _ _ _ _ refl c.reserve.ensures.advances c.reserve.ensures.passes (lines_same _ _ _ _ refl))
    (takes_other _ _ _ _ _ _ c.in-Got.number c.in-Got.entry may (record {
      number_is = c.in-Got.ensures.got.number_is;
      taken = c.in-Got.ensures.got.taken;
      session = c.poll.ensures.rest.last_session;
      windows = c.poll.ensures.windows;
      advances = c.poll.ensures.advances;
    })
    (not_command c.in-Got.entry (λ is. search rules)) c.poll.ensures.advances refl refl may.none refl)

pub returns-in-None-clause-goes_on : goal.returns-in-None-clause-goes_on
returns-in-None-clause-goes_on g c = λ may same. record { none = may.none; goes_on = got_ended _ _ _ c.in-Got.entry c.got-step.ensures.state ∙ may.goes_on }

pub returns-in-Event-clause-intake : goal.returns-in-Event-clause-intake
returns-in-Event-clause-intake g c = λ may.
    takes_on _ _ _ _ _ _ _ _ _ (takes_on _ _ _ _ _ _ _ _ _ (takes_none _ _ _ _ _ _ refl c.reserve.ensures.advances c.reserve.ensures.passes (lines_same _ _ _ _ refl))
    (takes_other _ _ _ _ _ _ c.in-Got.number c.in-Got.entry may (record {
      number_is = c.in-Got.ensures.got.number_is;
      taken = c.in-Got.ensures.got.taken;
      session = c.poll.ensures.rest.last_session;
      windows = c.poll.ensures.windows;
      advances = c.poll.ensures.advances;
    })
    (not_command c.in-Got.entry (λ is. search rules)) c.poll.ensures.advances refl refl may.none refl))
    (takes_none _ _ _ _ _ _ (c.lose_partner.ensures.stands may.none) (advances_same _) refl (ends_line _ _ _ _ _ _ _ _ c.lose_partner.ensures.ends))

pub returns-in-Event-clause-goes_on : goal.returns-in-Event-clause-goes_on
returns-in-Event-clause-goes_on g c = λ may same. record {
  none = waiting_stands _ _ (c.lose_partner.ensures.stands may.none) ∙ may.none;
  goes_on = ended_stands _ _ (c.lose_partner.ensures.stands may.none) ∙ got_ended _ _ _ c.in-Got.entry c.got-step-in-Event.ensures.state ∙ may.goes_on;
}

pub returns-in-Unused-clause-intake : goal.returns-in-Unused-clause-intake
returns-in-Unused-clause-intake g c = λ may.
    takes_on _ _ _ _ _ _ _ _ _ (takes_none _ _ _ _ _ _ refl c.reserve.ensures.advances c.reserve.ensures.passes (lines_same _ _ _ _ refl))
    (takes_other _ _ _ _ _ _ c.in-Got.number c.in-Got.entry may (record {
      number_is = c.in-Got.ensures.got.number_is;
      taken = c.in-Got.ensures.got.taken;
      session = c.poll.ensures.rest.last_session;
      windows = c.poll.ensures.windows;
      advances = c.poll.ensures.advances;
    })
    (not_command c.in-Got.entry (λ is. search rules)) c.poll.ensures.advances refl refl may.none refl)

pub returns-in-Reserved-clause-intake : goal.returns-in-Reserved-clause-intake
returns-in-Reserved-clause-intake g c = λ may.
    takes_on _ _ _ _ _ _ _ _ _ (takes_none _ _ _ _ _ _ refl c.reserve.ensures.advances c.reserve.ensures.passes (lines_same _ _ _ _ refl))
    (takes_other _ _ _ _ _ _ c.in-Got.number c.in-Got.entry may (record {
      number_is = c.in-Got.ensures.got.number_is;
      taken = c.in-Got.ensures.got.taken;
      session = c.poll.ensures.rest.last_session;
      windows = c.poll.ensures.windows;
      advances = c.poll.ensures.advances;
    })
    (not_command c.in-Got.entry (λ is. search rules)) c.poll.ensures.advances refl refl may.none refl)

pub returns-in_err-reserve-clause-judges : goal.returns-in_err-reserve-clause-judges
returns-in_err-reserve-clause-judges g c = λ may. (works_pass c.args.unit.now c.args.records.now _ _ c.reserve.ensures.advances c.reserve.ensures.passes).judges

pub returns-in_default-clause-judges : goal.returns-in_default-clause-judges
returns-in_default-clause-judges g c = λ may.
    let taken = poll_taken _ _ _ c.poll.result (λ number entry is. c.in_default.not-Got number entry is) c.poll.ensures.empty c.poll.ensures.refused in
    (works_pass c.args.unit.now c.args.records.now _ _ (advances_on _ _ _ c.reserve.ensures.advances c.poll.ensures.advances)
    (passes_windows _ _ c.poll.ensures.rest.last_session taken c.poll.ensures.windows ∙ c.reserve.ensures.passes)).judges

pub returns-in-Command-clause-judges : goal.returns-in-Command-clause-judges
returns-in-Command-clause-judges g c = λ may.
    let first = command_first c.in-Got.entry (search rules) in
    (works_on _ _ _ _ _ _ _ _ _ (works_pass c.args.unit.now c.args.records.now _ _ c.reserve.ensures.advances c.reserve.ensures.passes)
    (works _ _ _ _ _ _ refl refl (c.take_command.ensures.intake (g.S.Site.state c.reserve.new.self) may first (record {
      number_is = c.in-Got.ensures.got.number_is;
      taken = c.in-Got.ensures.got.taken;
      session = c.poll.ensures.rest.last_session;
      windows = c.poll.ensures.windows;
      advances = c.poll.ensures.advances;
    }))
    (c.take_command.ensures.judges (g.S.Site.state c.reserve.new.self) may first (record {
      number_is = c.in-Got.ensures.got.number_is;
      taken = c.in-Got.ensures.got.taken;
      session = c.poll.ensures.rest.last_session;
      windows = c.poll.ensures.windows;
      advances = c.poll.ensures.advances;
    })))).judges

pub returns-in-Some-clause-judges : goal.returns-in-Some-clause-judges
returns-in-Some-clause-judges g c = λ may.
    let next = ap (λ w. next_of w (g.S.Site.state c.reserve.new.self).queue) may.none in
    let next' = ap (λ w. next_of w (g.S.Site.state c.poll.new.self).queue) may.none in
    (works_on _ _ _ _ _ _ _ _ _ (works_on _ _ _ _ _ _ _ _ _ (works_pass c.args.unit.now c.args.records.now _ _ c.reserve.ensures.advances c.reserve.ensures.passes)
    (works_other (standing_of c.args.unit.now) (standing_of (record c.args.unit.now { line = record c.args.unit.now.line { handshake = c.got-step.new.self } })) (g.S.Site.state c.reserve.new.self) (g.S.Site.state c.poll.new.self)
    (books_at c.args.unit.now (g.S.Site.state c.reserve.new.self) c.args.records.now) (books_at (record c.args.unit.now { line = record c.args.unit.now.line { handshake = c.got-step.new.self } }) (g.S.Site.state c.poll.new.self) c.args.records.now)
    c.in-Got.number c.in-Got.entry may (record {
      number_is = c.in-Got.ensures.got.number_is;
      taken = c.in-Got.ensures.got.taken;
      session = c.poll.ensures.rest.last_session;
      windows = c.poll.ensures.windows;
      advances = c.poll.ensures.advances;
    })
    (not_command c.in-Got.entry (λ is. search rules)) (no_event c.in-Got.entry (λ is. search rules)) (λ on down. up_got _ _ _ c.in-Got.entry c.got-step.ensures.state (λ is. search rules) on down) refl refl refl may.none refl next refl next' (got_ended _ _ _ c.in-Got.entry c.got-step.ensures.state) refl refl refl refl refl refl refl refl refl refl))
    (works_none _ _ _ _ _ _ c.put_reply.ensures.stands refl refl c.put_reply.ensures.advances c.put_reply.ensures.passes (lines_same _ _ _ _ refl) (c.put_reply.ensures.books c.args.records.now))).judges

pub returns-in-None-clause-judges : goal.returns-in-None-clause-judges
returns-in-None-clause-judges g c = λ may.
    let next = ap (λ w. next_of w (g.S.Site.state c.reserve.new.self).queue) may.none in
    let next' = ap (λ w. next_of w (g.S.Site.state c.poll.new.self).queue) may.none in
    (works_on _ _ _ _ _ _ _ _ _ (works_pass c.args.unit.now c.args.records.now _ _ c.reserve.ensures.advances c.reserve.ensures.passes)
    (works_other (standing_of c.args.unit.now) (standing_of (record c.args.unit.now { line = record c.args.unit.now.line { handshake = c.got-step.new.self } })) (g.S.Site.state c.reserve.new.self) (g.S.Site.state c.poll.new.self)
    (books_at c.args.unit.now (g.S.Site.state c.reserve.new.self) c.args.records.now) (books_at (record c.args.unit.now { line = record c.args.unit.now.line { handshake = c.got-step.new.self } }) (g.S.Site.state c.poll.new.self) c.args.records.now)
    c.in-Got.number c.in-Got.entry may (record {
      number_is = c.in-Got.ensures.got.number_is;
      taken = c.in-Got.ensures.got.taken;
      session = c.poll.ensures.rest.last_session;
      windows = c.poll.ensures.windows;
      advances = c.poll.ensures.advances;
    })
    (not_command c.in-Got.entry (λ is. search rules)) (no_event c.in-Got.entry (λ is. search rules)) (λ on down. up_got _ _ _ c.in-Got.entry c.got-step.ensures.state (λ is. search rules) on down) refl refl refl may.none refl next refl next' (got_ended _ _ _ c.in-Got.entry c.got-step.ensures.state) refl refl refl refl refl refl refl refl refl refl)).judges

pub returns-in-Event-clause-judges : goal.returns-in-Event-clause-judges
returns-in-Event-clause-judges g c = λ may.
    let ended = got_ended _ _ _ c.in-Got.entry c.got-step-in-Event.ensures.state in
    let stands = c.lose_partner.ensures.stands may.none in
    let taken : TakesEntry (g.S.Site.state c.reserve.new.self) (g.S.Site.state c.poll.new.self) c.in-Got.number c.in-Got.entry = record {
      number_is = c.in-Got.ensures.got.number_is;
      taken = c.in-Got.ensures.got.taken;
      session = c.poll.ensures.rest.last_session;
      windows = c.poll.ensures.windows;
      advances = c.poll.ensures.advances;
    } in
    (works_on _ _ _ _ _ _ _ _ _ (works_pass c.args.unit.now c.args.records.now _ _ c.reserve.ensures.advances c.reserve.ensures.passes)
    (works (standing_of c.args.unit.now) (standing_of c.lose_partner.new.unit) (g.S.Site.state c.reserve.new.self) (g.S.Site.state c.poll.new.self)
    (books_at c.args.unit.now (g.S.Site.state c.reserve.new.self) c.args.records.now) (books_at c.lose_partner.new.unit (g.S.Site.state c.poll.new.self) c.lose_partner.new.records) refl refl
    (takes_on _ _ _ _ _ _ _ _ _
    (takes_other _ _ _ _ _ _ c.in-Got.number c.in-Got.entry may taken (not_command c.in-Got.entry (λ is. search rules)) c.poll.ensures.advances refl refl may.none refl)
    (takes_none _ _ _ _ _ _ stands (advances_same _) refl (ends_line _ _ _ _ _ _ _ _ c.lose_partner.ensures.ends)))
    (judges_gone c.args.unit.now c.lose_partner.new.unit (g.S.Site.state c.reserve.new.self) (g.S.Site.state c.poll.new.self) c.args.records.now c.lose_partner.new.records c.in-Got.number c.in-Got.entry may taken
    (not_command c.in-Got.entry (λ is. search rules)) (stands ∙ stands_got c.args.unit.now c.got-step-in-Event.new.self ended) (ends_line _ _ _ _ _ _ _ _ c.lose_partner.ensures.ends)
    (keeps_gone c.args.unit.now c.got-step-in-Event.new.self c.lose_partner.new.unit (g.S.Site.state c.reserve.new.self) (g.S.Site.state c.poll.new.self) c.args.records.now c.lose_partner.new.records
    _ c.in-Got.number c.in-Got.entry may taken (event_is c.in-Got.entry (search rules)) ended (ended_stands _ _ stands ∙ ended ∙ may.goes_on) c.lose_partner.ensures.waiting
    (c.session.ensures ∙ c.poll.ensures.rest.last_session) c.lose_partner.ensures.books)))).judges

pub returns-in-Unused-clause-judges : goal.returns-in-Unused-clause-judges
returns-in-Unused-clause-judges g c = λ may.
    let next = ap (λ w. next_of w (g.S.Site.state c.reserve.new.self).queue) may.none in
    let next' = ap (λ w. next_of w (g.S.Site.state c.poll.new.self).queue) may.none in
    (works_on _ _ _ _ _ _ _ _ _ (works_pass c.args.unit.now c.args.records.now _ _ c.reserve.ensures.advances c.reserve.ensures.passes)
    (works_other (standing_of c.args.unit.now) (standing_of c.args.unit.now) (g.S.Site.state c.reserve.new.self) (g.S.Site.state c.poll.new.self)
    (books_at c.args.unit.now (g.S.Site.state c.reserve.new.self) c.args.records.now) (books_at c.args.unit.now (g.S.Site.state c.poll.new.self) c.args.records.now)
    c.in-Got.number c.in-Got.entry may (record {
      number_is = c.in-Got.ensures.got.number_is;
      taken = c.in-Got.ensures.got.taken;
      session = c.poll.ensures.rest.last_session;
      windows = c.poll.ensures.windows;
      advances = c.poll.ensures.advances;
    })
    (not_command c.in-Got.entry (λ is. search rules)) (no_event c.in-Got.entry (λ is. search rules)) (λ on down. (down, no_handshake c.in-Got.entry (λ is. search rules))) refl refl refl may.none refl next refl next' refl refl refl refl refl refl refl refl refl refl refl)).judges

pub returns-in-Reserved-clause-judges : goal.returns-in-Reserved-clause-judges
returns-in-Reserved-clause-judges g c = λ may.
    let next = ap (λ w. next_of w (g.S.Site.state c.reserve.new.self).queue) may.none in
    let next' = ap (λ w. next_of w (g.S.Site.state c.poll.new.self).queue) may.none in
    (works_on _ _ _ _ _ _ _ _ _ (works_pass c.args.unit.now c.args.records.now _ _ c.reserve.ensures.advances c.reserve.ensures.passes)
    (works_other (standing_of c.args.unit.now) (standing_of c.args.unit.now) (g.S.Site.state c.reserve.new.self) (g.S.Site.state c.poll.new.self)
    (books_at c.args.unit.now (g.S.Site.state c.reserve.new.self) c.args.records.now) (books_at c.args.unit.now (g.S.Site.state c.poll.new.self) c.args.records.now)
    c.in-Got.number c.in-Got.entry may (record {
      number_is = c.in-Got.ensures.got.number_is;
      taken = c.in-Got.ensures.got.taken;
      session = c.poll.ensures.rest.last_session;
      windows = c.poll.ensures.windows;
      advances = c.poll.ensures.advances;
    })
    (not_command c.in-Got.entry (λ is. search rules)) (no_event c.in-Got.entry (λ is. search rules)) (λ on down. (down, no_handshake c.in-Got.entry (λ is. search rules))) refl refl refl may.none refl next refl next' refl refl refl refl refl refl refl refl refl refl refl)).judges

pub returns-in_err-reserve-clause-answers : goal.returns-in_err-reserve-clause-answers
returns-in_err-reserve-clause-answers g c = λ alone has. owes_seen _ _ (seen_reserves _ _ c.reserve.ensures.rest) refl refl refl refl refl refl refl has

pub returns-in_default-clause-answers : goal.returns-in_default-clause-answers
returns-in_default-clause-answers g c = λ alone has.
    let taken = poll_taken _ _ _ c.poll.result (λ number entry is. c.in_default.not-Got number entry is) c.poll.ensures.empty c.poll.ensures.refused in
    owes_seen _ _ (seen_on _ _ _ (seen_reserves _ _ c.reserve.ensures.rest) (seen_call _ _ c.poll.ensures.rest.place c.poll.ensures.rest.last_session c.poll.ensures.rest.registered taken))
    refl refl refl refl refl refl refl has

pub returns-in-Command-clause-answers : goal.returns-in-Command-clause-answers
returns-in-Command-clause-answers g c = λ alone has.
    c.take_command.ensures.answers alone (owes_seen _ _ (seen_on _ _ _ (seen_reserves _ _ c.reserve.ensures.rest) (seen_taken g.S.Site.link_shared _ _ c.in-Got.number c.in-Got.entry alone c.in-Got.ensures.got c.poll.ensures.rest
    (event_kind c.in-Got.entry (λ is. search rules)))) refl refl refl refl refl refl refl has)

pub returns-in-Some-clause-answers : goal.returns-in-Some-clause-answers
returns-in-Some-clause-answers g c = λ alone has.
    c.put_reply.ensures.answers c.args.records.now alone (owes_seen _ _ (seen_on _ _ _ (seen_reserves _ _ c.reserve.ensures.rest) (seen_taken g.S.Site.link_shared _ _ c.in-Got.number c.in-Got.entry alone c.in-Got.ensures.got c.poll.ensures.rest
    (event_kind c.in-Got.entry (λ is. search rules)))) refl refl refl refl
    (got_ended _ _ _ c.in-Got.entry c.got-step.ensures.state) refl refl has)

pub returns-in-None-clause-answers : goal.returns-in-None-clause-answers
returns-in-None-clause-answers g c = λ alone has.
    owes_seen _ _ (seen_on _ _ _ (seen_reserves _ _ c.reserve.ensures.rest) (seen_taken g.S.Site.link_shared _ _ c.in-Got.number c.in-Got.entry alone c.in-Got.ensures.got c.poll.ensures.rest
    (event_kind c.in-Got.entry (λ is. search rules)))) refl refl refl refl
    (got_ended _ _ _ c.in-Got.entry c.got-step.ensures.state) refl refl has

pub returns-in-Event-clause-answers : goal.returns-in-Event-clause-answers
returns-in-Event-clause-answers g c = λ alone has.
    has_cut_of _ _ _ _ c.lose_partner.ensures.id refl refl c.lose_partner.ensures.ends.off (ap row_in c.lose_partner.ensures.stage)
    (c.lose_partner.ensures.cuts (g.S.Site.state c.reserve.new.self).queue (c.session.ensures ∙ c.poll.ensures.rest.last_session)
    (owes_seen _ _ (seen_reserves _ _ c.reserve.ensures.rest) refl refl refl refl (got_ended _ _ _ c.in-Got.entry c.got-step-in-Event.ensures.state) refl refl has))

pub returns-in-Unused-clause-answers : goal.returns-in-Unused-clause-answers
returns-in-Unused-clause-answers g c = λ alone has.
    owes_seen _ _ (seen_on _ _ _ (seen_reserves _ _ c.reserve.ensures.rest) (seen_taken g.S.Site.link_shared _ _ c.in-Got.number c.in-Got.entry alone c.in-Got.ensures.got c.poll.ensures.rest
    (event_kind c.in-Got.entry (λ is. search rules)))) refl refl refl refl refl refl refl has

pub returns-in-Reserved-clause-answers : goal.returns-in-Reserved-clause-answers
returns-in-Reserved-clause-answers g c = λ alone has.
    owes_seen _ _ (seen_on _ _ _ (seen_reserves _ _ c.reserve.ensures.rest) (seen_taken g.S.Site.link_shared _ _ c.in-Got.number c.in-Got.entry alone c.in-Got.ensures.got c.poll.ensures.rest
    (event_kind c.in-Got.entry (λ is. search rules)))) refl refl refl refl refl refl refl has

pub returns-in-Command-clause-cargo : goal.returns-in-Command-clause-cargo
returns-in-Command-clause-cargo g c =
    keeps_on _ _ _ (keeps_same _ _ (shown_same _ _ _ _ _ _ (sees _ _ _ (still_pages _ _ c.poll.ensures.windows ∙ still_pages _ _ c.reserve.ensures.windows)) refl)) c.take_command.ensures.cargo

pub returns-in-Event-clause-cargo : goal.returns-in-Event-clause-cargo
returns-in-Event-clause-cargo g c = c.lose_partner.ensures.cargo _ _ (ap (λ (p : Pages). p.count) (still_pages _ _ c.poll.ensures.windows ∙ still_pages _ _ c.reserve.ensures.windows))

pub returns-in_err-reserve-clause-refuses : goal.returns-in_err-reserve-clause-refuses
returns-in_err-reserve-clause-refuses g c = λ may told unit front all is.
    (explains_stands c.args.unit.now c.args.unit.now (g.S.Site.state c.args.site.now) (g.S.Site.state c.reserve.new.self) c.args.records.now c.args.records.now refl c.reserve.ensures.passes refl refl (ap login_answers c.reserve.ensures.rest.sent) refl told unit front is)

pub returns-in_default-clause-refuses : goal.returns-in_default-clause-refuses
returns-in_default-clause-refuses g c = λ may told unit front all is.
    let taken = poll_taken _ _ _ c.poll.result (λ number entry is. c.in_default.not-Got number entry is) c.poll.ensures.empty c.poll.ensures.refused in
    explains_same (ledger_of c.args.unit.now (g.S.Site.state c.reserve.new.self) c.args.records.now) _ c.poll.ensures.rest.last_session taken refl refl refl refl (ap login_answers c.poll.ensures.rest.sent) refl refl told unit front
    (explains_stands c.args.unit.now c.args.unit.now (g.S.Site.state c.args.site.now) (g.S.Site.state c.reserve.new.self) c.args.records.now c.args.records.now refl c.reserve.ensures.passes refl refl (ap login_answers c.reserve.ensures.rest.sent) refl told unit front is)

pub returns-in-Command-clause-refuses : goal.returns-in-Command-clause-refuses
returns-in-Command-clause-refuses g c = λ may told unit front all is.
    c.take_command.ensures.refuses (g.S.Site.state c.reserve.new.self) may (command_first c.in-Got.entry (search rules)) (record {
      number_is = c.in-Got.ensures.got.number_is;
      taken = c.in-Got.ensures.got.taken;
      session = c.poll.ensures.rest.last_session;
      windows = c.poll.ensures.windows;
      advances = c.poll.ensures.advances;
    }) (ap login_answers c.poll.ensures.rest.sent) told unit front
    (tells_next told unit (g.S.Site.state c.args.site.now) (g.S.Site.state c.poll.new.self) (g.S.Site.state c.take_command.new.site) (advances_on _ _ _ c.reserve.ensures.advances c.poll.ensures.advances) all)
    (explains_stands c.args.unit.now c.args.unit.now (g.S.Site.state c.args.site.now) (g.S.Site.state c.reserve.new.self) c.args.records.now c.args.records.now refl c.reserve.ensures.passes refl refl (ap login_answers c.reserve.ensures.rest.sent) refl told unit front is)

pub returns-in-Some-clause-refuses : goal.returns-in-Some-clause-refuses
returns-in-Some-clause-refuses g c = λ may told unit front all is.
    c.put_reply.ensures.refuses c.args.records.now told unit front
    (explains_taken (ledger_of c.args.unit.now (g.S.Site.state c.reserve.new.self) c.args.records.now) (ledger_of (record c.args.unit.now { line = record c.args.unit.now.line { handshake = c.got-step.new.self } }) (g.S.Site.state c.poll.new.self) c.args.records.now) _ c.poll.ensures.rest.last_session c.in-Got.ensures.got.taken refl (inr (not_command c.in-Got.entry (λ is. search rules))) refl refl
    (got_ended _ _ _ c.in-Got.entry c.got-step.ensures.state) refl (ap login_answers c.poll.ensures.rest.sent) refl refl told unit front
    (explains_stands c.args.unit.now c.args.unit.now (g.S.Site.state c.args.site.now) (g.S.Site.state c.reserve.new.self) c.args.records.now c.args.records.now refl c.reserve.ensures.passes refl refl (ap login_answers c.reserve.ensures.rest.sent) refl told unit front is))

pub returns-in-None-clause-refuses : goal.returns-in-None-clause-refuses
returns-in-None-clause-refuses g c = λ may told unit front all is.
    explains_taken (ledger_of c.args.unit.now (g.S.Site.state c.reserve.new.self) c.args.records.now) _ _ c.poll.ensures.rest.last_session c.in-Got.ensures.got.taken refl (inr (not_command c.in-Got.entry (λ is. search rules))) refl refl (got_ended _ _ _ c.in-Got.entry c.got-step.ensures.state) refl (ap login_answers c.poll.ensures.rest.sent) refl refl told unit front
    (explains_stands c.args.unit.now c.args.unit.now (g.S.Site.state c.args.site.now) (g.S.Site.state c.reserve.new.self) c.args.records.now c.args.records.now refl c.reserve.ensures.passes refl refl (ap login_answers c.reserve.ensures.rest.sent) refl told unit front is)

pub returns-in-Unused-clause-refuses : goal.returns-in-Unused-clause-refuses
returns-in-Unused-clause-refuses g c = λ may told unit front all is.
    explains_taken (ledger_of c.args.unit.now (g.S.Site.state c.reserve.new.self) c.args.records.now) _ _ c.poll.ensures.rest.last_session c.in-Got.ensures.got.taken refl (inr (not_command c.in-Got.entry (λ is. search rules))) refl refl refl refl (ap login_answers c.poll.ensures.rest.sent) refl refl told unit front
    (explains_stands c.args.unit.now c.args.unit.now (g.S.Site.state c.args.site.now) (g.S.Site.state c.reserve.new.self) c.args.records.now c.args.records.now refl c.reserve.ensures.passes refl refl (ap login_answers c.reserve.ensures.rest.sent) refl told unit front is)

pub returns-in-Reserved-clause-refuses : goal.returns-in-Reserved-clause-refuses
returns-in-Reserved-clause-refuses g c = λ may told unit front all is.
    explains_taken (ledger_of c.args.unit.now (g.S.Site.state c.reserve.new.self) c.args.records.now) _ _ c.poll.ensures.rest.last_session c.in-Got.ensures.got.taken refl (inr (not_command c.in-Got.entry (λ is. search rules))) refl refl refl refl (ap login_answers c.poll.ensures.rest.sent) refl refl told unit front
    (explains_stands c.args.unit.now c.args.unit.now (g.S.Site.state c.args.site.now) (g.S.Site.state c.reserve.new.self) c.args.records.now c.args.records.now refl c.reserve.ensures.passes refl refl (ap login_answers c.reserve.ensures.rest.sent) refl told unit front is)

pub returns-in-Event-clause-refuses : goal.returns-in-Event-clause-refuses
returns-in-Event-clause-refuses g c = λ may told unit front all is.
    let at = ledger_of (record c.args.unit.now { line = record c.args.unit.now.line { handshake = c.got-step-in-Event.new.self } }) (g.S.Site.state c.poll.new.self) c.args.records.now in
    explained_ended told unit front at (ledger_of c.lose_partner.new.unit (g.S.Site.state c.poll.new.self) c.lose_partner.new.records)
    (Lapsed c.args.unit.now.id c.session.result c.args.unit.now.logins.current Lost 0 0) refl refl c.lose_partner.ensures.ends.waiting c.lose_partner.ensures.ends.pending c.lose_partner.ensures.ends.line tt refl refl
    (inr (heard_event (told_to told unit) (g.S.Site.state c.poll.new.self).queue.last_session (g.S.Site.state c.reserve.new.self).queue.taken (g.S.Site.state c.poll.new.self).queue.taken
    (record { session = (g.S.Site.state c.reserve.new.self).queue.last_session; entry = c.in-Got.entry }) (sym c.poll.ensures.rest.last_session) c.in-Got.ensures.got.taken (event_is c.in-Got.entry (search rules))))
    (on_ends at (ledger_of c.lose_partner.new.unit (g.S.Site.state c.poll.new.self) c.lose_partner.new.records)
    (Lapsed c.args.unit.now.id c.session.result c.args.unit.now.logins.current Lost 0 0) c.args.unit.now.logins.current Lost 0 0
    (ap (λ (n : ℕ). Lapsed c.args.unit.now.id n c.args.unit.now.logins.current Lost 0 0) c.session.ensures)
    c.lose_partner.ensures.id c.lose_partner.ensures.ends.off refl c.lose_partner.ensures.ends.line)
    (explains_taken (ledger_of c.args.unit.now (g.S.Site.state c.reserve.new.self) c.args.records.now) at _ c.poll.ensures.rest.last_session c.in-Got.ensures.got.taken refl (inl (event_is c.in-Got.entry (search rules))) refl refl (got_ended _ _ _ c.in-Got.entry c.got-step-in-Event.ensures.state) refl (ap login_answers c.poll.ensures.rest.sent) refl refl told unit front
    (explains_stands c.args.unit.now c.args.unit.now (g.S.Site.state c.args.site.now) (g.S.Site.state c.reserve.new.self) c.args.records.now c.args.records.now refl c.reserve.ensures.passes refl refl (ap login_answers c.reserve.ensures.rest.sent) refl told unit front is))

pub returns-in-Command-clause-rests : goal.returns-in-Command-clause-rests
returns-in-Command-clause-rests g c = λ alone emptied.
    absurd (none_taken _ _ _ c.in-Got.number c.in-Got.entry alone
    (still_emptied (g.S.Site.state c.args.site.now) (g.S.Site.state c.reserve.new.self) c.reserve.ensures.passes c.reserve.ensures.advances emptied) c.in-Got.ensures.got)

pub returns-in-Some-clause-rests : goal.returns-in-Some-clause-rests
returns-in-Some-clause-rests g c = λ alone emptied.
    absurd (none_taken _ _ _ c.in-Got.number c.in-Got.entry alone
    (still_emptied (g.S.Site.state c.args.site.now) (g.S.Site.state c.reserve.new.self) c.reserve.ensures.passes c.reserve.ensures.advances emptied) c.in-Got.ensures.got)

pub returns-in-None-clause-rests : goal.returns-in-None-clause-rests
returns-in-None-clause-rests g c = λ alone emptied.
    absurd (none_taken _ _ _ c.in-Got.number c.in-Got.entry alone
    (still_emptied (g.S.Site.state c.args.site.now) (g.S.Site.state c.reserve.new.self) c.reserve.ensures.passes c.reserve.ensures.advances emptied) c.in-Got.ensures.got)

pub returns-in-Event-clause-rests : goal.returns-in-Event-clause-rests
returns-in-Event-clause-rests g c = λ alone emptied.
    absurd (none_taken _ _ _ c.in-Got.number c.in-Got.entry alone
    (still_emptied (g.S.Site.state c.args.site.now) (g.S.Site.state c.reserve.new.self) c.reserve.ensures.passes c.reserve.ensures.advances emptied) c.in-Got.ensures.got)

pub returns-in-Unused-clause-rests : goal.returns-in-Unused-clause-rests
returns-in-Unused-clause-rests g c = λ alone emptied.
    absurd (none_taken _ _ _ c.in-Got.number c.in-Got.entry alone
    (still_emptied (g.S.Site.state c.args.site.now) (g.S.Site.state c.reserve.new.self) c.reserve.ensures.passes c.reserve.ensures.advances emptied) c.in-Got.ensures.got)

pub returns-in-Reserved-clause-rests : goal.returns-in-Reserved-clause-rests
returns-in-Reserved-clause-rests g c = λ alone emptied.
    absurd (none_taken _ _ _ c.in-Got.number c.in-Got.entry alone
    (still_emptied (g.S.Site.state c.args.site.now) (g.S.Site.state c.reserve.new.self) c.reserve.ensures.passes c.reserve.ensures.advances emptied) c.in-Got.ensures.got)

pub returns-in_default-clause-comes : goal.returns-in_default-clause-comes
returns-in_default-clause-comes g c =
    comes_none NoStage _ _ _ _
    (idles_on _ _ _ _ (idles_reserves _ _ _ c.reserve.ensures.rest)
    (poll_idles _ _ _ c.poll.result (λ number entry is. c.in_default.not-Got number entry is) c.poll.ensures.empty c.poll.ensures.refused c.poll.ensures.rest)).still refl refl

pub returns-in-Command-clause-comes : goal.returns-in-Command-clause-comes
returns-in-Command-clause-comes g c =
    let row : PipeRow = record { session = (g.S.Site.state c.reserve.new.self).queue.last_session; entry = c.in-Got.entry } in
    on_ok c.take_command.result _ _ (λ stays. inl (less_later _ _ _ (work_taken (g.S.Site.state c.args.site.now).queue (g.S.Site.state c.poll.new.self).queue row
    (c.in-Got.ensures.got.taken ∙ ap (λ (rows : List PipeRow). rows ++ row ∷ []) c.reserve.ensures.rest.taken)
    (c.poll.ensures.rest.sent ∙ c.reserve.ensures.rest.sent) (c.poll.ensures.rest.last_session ∙ c.reserve.ensures.rest.last_session))
    (work_later (g.S.Site.state c.poll.new.self) (g.S.Site.state c.take_command.new.site) c.take_command.ensures.advances))) c.take_command.ensures.moved

pub returns-in-Some-clause-comes : goal.returns-in-Some-clause-comes
returns-in-Some-clause-comes g c =
    let row : PipeRow = record { session = (g.S.Site.state c.reserve.new.self).queue.last_session; entry = c.in-Got.entry } in
    inl (less_later _ _ _ (work_taken (g.S.Site.state c.args.site.now).queue (g.S.Site.state c.poll.new.self).queue row
    (c.in-Got.ensures.got.taken ∙ ap (λ (rows : List PipeRow). rows ++ row ∷ []) c.reserve.ensures.rest.taken)
    (c.poll.ensures.rest.sent ∙ c.reserve.ensures.rest.sent) (c.poll.ensures.rest.last_session ∙ c.reserve.ensures.rest.last_session))
    (work_later (g.S.Site.state c.poll.new.self) (g.S.Site.state c.put_reply.new.site) c.put_reply.ensures.advances))

pub returns-in-None-clause-comes : goal.returns-in-None-clause-comes
returns-in-None-clause-comes g c =
    let row : PipeRow = record { session = (g.S.Site.state c.reserve.new.self).queue.last_session; entry = c.in-Got.entry } in
    inl (work_taken (g.S.Site.state c.args.site.now).queue (g.S.Site.state c.poll.new.self).queue row
    (c.in-Got.ensures.got.taken ∙ ap (λ (rows : List PipeRow). rows ++ row ∷ []) c.reserve.ensures.rest.taken)
    (c.poll.ensures.rest.sent ∙ c.reserve.ensures.rest.sent) (c.poll.ensures.rest.last_session ∙ c.reserve.ensures.rest.last_session))

pub returns-in-Event-clause-comes : goal.returns-in-Event-clause-comes
returns-in-Event-clause-comes g c =
    let row : PipeRow = record { session = (g.S.Site.state c.reserve.new.self).queue.last_session; entry = c.in-Got.entry } in
    inl (work_taken (g.S.Site.state c.args.site.now).queue (g.S.Site.state c.poll.new.self).queue row
    (c.in-Got.ensures.got.taken ∙ ap (λ (rows : List PipeRow). rows ++ row ∷ []) c.reserve.ensures.rest.taken)
    (c.poll.ensures.rest.sent ∙ c.reserve.ensures.rest.sent) (c.poll.ensures.rest.last_session ∙ c.reserve.ensures.rest.last_session))

pub returns-in-Unused-clause-comes : goal.returns-in-Unused-clause-comes
returns-in-Unused-clause-comes g c =
    let row : PipeRow = record { session = (g.S.Site.state c.reserve.new.self).queue.last_session; entry = c.in-Got.entry } in
    inl (work_taken (g.S.Site.state c.args.site.now).queue (g.S.Site.state c.poll.new.self).queue row
    (c.in-Got.ensures.got.taken ∙ ap (λ (rows : List PipeRow). rows ++ row ∷ []) c.reserve.ensures.rest.taken)
    (c.poll.ensures.rest.sent ∙ c.reserve.ensures.rest.sent) (c.poll.ensures.rest.last_session ∙ c.reserve.ensures.rest.last_session))

pub returns-in-Reserved-clause-comes : goal.returns-in-Reserved-clause-comes
returns-in-Reserved-clause-comes g c =
    let row : PipeRow = record { session = (g.S.Site.state c.reserve.new.self).queue.last_session; entry = c.in-Got.entry } in
    inl (work_taken (g.S.Site.state c.args.site.now).queue (g.S.Site.state c.poll.new.self).queue row
    (c.in-Got.ensures.got.taken ∙ ap (λ (rows : List PipeRow). rows ++ row ∷ []) c.reserve.ensures.rest.taken)
    (c.poll.ensures.rest.sent ∙ c.reserve.ensures.rest.sent) (c.poll.ensures.rest.last_session ∙ c.reserve.ensures.rest.last_session))

pub returns-in_default-clause-hears : goal.returns-in_default-clause-hears
returns-in_default-clause-hears g c = λ words calm.
    hears_none _ _ _ (reach_of (g.S.Site.state c.args.site.now)) (reach_of (g.S.Site.state c.reserve.new.self)) (reach_of (g.S.Site.state c.poll.new.self)) _ c.poll.result words refl c.reserve.ensures.rest c.poll.ensures.rest c.reserve.ensures.windows.client c.poll.ensures.windows.client
    (poll_taken _ _ _ c.poll.result (λ number entry is. c.in_default.not-Got number entry is) c.poll.ensures.empty c.poll.ensures.refused) (λ number entry is. c.in_default.not-Got number entry is) c.poll.ensures.unregistered.0 c.poll.ensures.empty calm

pub returns-in-Command-clause-hears : goal.returns-in-Command-clause-hears
returns-in-Command-clause-hears g c = λ words calm.
    hears_asked _ c.args.unit.now (record c.args.unit.now { moved = true }) c.take_command.new.unit (reach_of (g.S.Site.state c.args.site.now)) (reach_of (g.S.Site.state c.poll.new.self)) (reach_of (g.S.Site.state c.take_command.new.site)) _ _ c.in-Got.number c.in-Got.entry words c.take_command.result calm refl refl refl
    (came _ _ (g.S.Site.state c.reserve.new.self).queue _ c.in-Got.number c.in-Got.entry calm.alone c.reserve.ensures.rest c.poll.ensures.rest c.in-Got.ensures.got) (c.poll.ensures.windows.client ∙ c.reserve.ensures.windows.client) (c.poll.ensures.advances.shared ∙ c.reserve.ensures.advances.shared) c.take_command.ensures.advances.shared (search rules) c.take_command.ensures.hears

pub returns-in-Some-clause-hears : goal.returns-in-Some-clause-hears
returns-in-Some-clause-hears g c = λ words calm.
    hears_begun _ c.args.unit.now _ c.put_reply.new.unit (reach_of (g.S.Site.state c.args.site.now)) (reach_of (g.S.Site.state c.poll.new.self)) (reach_of (g.S.Site.state c.put_reply.new.site)) _ c.in-Got.number c.in-Got.entry _ c.got-step.result words c.put_reply.result calm refl refl refl refl refl refl
    c.got-step.ensures.state c.got-step.ensures.step (sym c.in-Some.is ∙ c.reply_of.ensures.reply)
    (came _ _ (g.S.Site.state c.reserve.new.self).queue _ c.in-Got.number c.in-Got.entry calm.alone c.reserve.ensures.rest c.poll.ensures.rest c.in-Got.ensures.got) (c.poll.ensures.windows.client ∙ c.reserve.ensures.windows.client) (c.poll.ensures.advances.shared ∙ c.reserve.ensures.advances.shared) c.put_reply.ensures.advances.shared (search rules) c.put_reply.ensures.hears

pub returns-in-None-clause-hears : goal.returns-in-None-clause-hears
returns-in-None-clause-hears g c = λ words calm.
    absurd (no_reply _ c.args.unit.now (reach_of (g.S.Site.state c.args.site.now)) (reach_of (g.S.Site.state c.poll.new.self)) c.in-Got.number c.in-Got.entry c.got-step.result words calm
    (came _ _ (g.S.Site.state c.reserve.new.self).queue _ c.in-Got.number c.in-Got.entry calm.alone c.reserve.ensures.rest c.poll.ensures.rest c.in-Got.ensures.got) (search rules) c.got-step.ensures.step (sym c.in-None.is ∙ c.reply_of.ensures.reply))

pub returns-in-Event-clause-hears : goal.returns-in-Event-clause-hears
returns-in-Event-clause-hears g c = λ words calm.
    hears_gone _ c.args.unit.now _ c.lose_partner.new.unit (reach_of (g.S.Site.state c.args.site.now)) (reach_of (g.S.Site.state c.poll.new.self)) c.args.records.now c.lose_partner.new.records _ c.in-Got.number c.in-Got.entry words calm refl refl refl
    c.got-step-in-Event.ensures.state (came _ _ (g.S.Site.state c.reserve.new.self).queue _ c.in-Got.number c.in-Got.entry calm.alone c.reserve.ensures.rest c.poll.ensures.rest c.in-Got.ensures.got) (c.poll.ensures.windows.client ∙ c.reserve.ensures.windows.client) (c.poll.ensures.advances.shared ∙ c.reserve.ensures.advances.shared) (search rules) c.lose_partner.ensures.ends c.lose_partner.ensures.handshake c.lose_partner.ensures.closing c.lose_partner.ensures.stage

pub returns-in-Unused-clause-hears : goal.returns-in-Unused-clause-hears
returns-in-Unused-clause-hears g c = λ words calm.
    absurd (no_word _ c.args.unit.now (reach_of (g.S.Site.state c.args.site.now)) (reach_of (g.S.Site.state c.poll.new.self)) c.in-Got.number c.in-Got.entry words Unused calm (came _ _ (g.S.Site.state c.reserve.new.self).queue _ c.in-Got.number c.in-Got.entry calm.alone c.reserve.ensures.rest c.poll.ensures.rest c.in-Got.ensures.got) (search rules) (λ word. said_none word Unused (inl refl)))

pub returns-in-Reserved-clause-hears : goal.returns-in-Reserved-clause-hears
returns-in-Reserved-clause-hears g c = λ words calm.
    absurd (no_word _ c.args.unit.now (reach_of (g.S.Site.state c.args.site.now)) (reach_of (g.S.Site.state c.poll.new.self)) c.in-Got.number c.in-Got.entry words Reserved calm (came _ _ (g.S.Site.state c.reserve.new.self).queue _ c.in-Got.number c.in-Got.entry calm.alone c.reserve.ensures.rest c.poll.ensures.rest c.in-Got.ensures.got) (search rules) (λ word. said_none word Reserved (inr refl)))

pub returns-in_err-reserve-clause-rows : goal.returns-in_err-reserve-clause-rows
returns-in_err-reserve-clause-rows g c = idle_same _ _ _ _ refl refl

pub returns-in_default-clause-rows : goal.returns-in_default-clause-rows
returns-in_default-clause-rows g c = idle_same _ _ _ _ refl refl

pub returns-in-Command-clause-rows : goal.returns-in-Command-clause-rows
returns-in-Command-clause-rows g c = c.take_command.ensures.rows

pub returns-in-Some-clause-rows : goal.returns-in-Some-clause-rows
returns-in-Some-clause-rows g c = idle_same _ _ _ _ (ap (λ (s : Service). s.stage) c.put_reply.ensures.service) refl

pub returns-in-None-clause-rows : goal.returns-in-None-clause-rows
returns-in-None-clause-rows g c = idle_same _ _ _ _ refl refl

pub returns-in-Event-clause-rows : goal.returns-in-Event-clause-rows
returns-in-Event-clause-rows g c = ended_idle _ _ _ _ _ c.lose_partner.ensures.row c.lose_partner.ensures.stage

pub returns-in-Unused-clause-rows : goal.returns-in-Unused-clause-rows
returns-in-Unused-clause-rows g c = idle_same _ _ _ _ refl refl

pub returns-in-Reserved-clause-rows : goal.returns-in-Reserved-clause-rows
returns-in-Reserved-clause-rows g c = idle_same _ _ _ _ refl refl

pub returns-in_default-clause-does : goal.returns-in_default-clause-does
returns-in_default-clause-does g c = λ link alone going free.
    freely_none _ _ (still_doing _ c.args.unit.now (g.S.Site.state c.args.site.now) (g.S.Site.state c.reserve.new.self) (g.S.Site.state c.poll.new.self) c.args.records.now link c.reserve.ensures.rest c.poll.ensures.rest
    (poll_taken _ _ _ c.poll.result (λ number entry is. c.in_default.not-Got number entry is) c.poll.ensures.empty c.poll.ensures.refused) (c.poll.ensures.windows.client ∙ c.reserve.ensures.windows.client) (c.poll.ensures.windows.own ∙ c.reserve.ensures.windows.own)) free

pub returns-in-Command-clause-does : goal.returns-in-Command-clause-does
returns-in-Command-clause-does g c = λ link alone going free.
    let heard = (came_doing c.args.unit.now (g.S.Site.state c.args.site.now) (g.S.Site.state c.poll.new.self) c.args.records.now (record { number = c.in-Got.number; entry = c.in-Got.entry }) free.waiting (came _ _ (g.S.Site.state c.reserve.new.self).queue _ c.in-Got.number c.in-Got.entry link c.reserve.ensures.rest c.poll.ensures.rest c.in-Got.ensures.got)
    (c.poll.ensures.rest.kept ∙ c.reserve.ensures.rest.kept) (c.poll.ensures.windows.client ∙ c.reserve.ensures.windows.client) (c.poll.ensures.windows.own ∙ c.reserve.ensures.windows.own)) in
    on_ok c.take_command.result _ _ (subst (λ (d : Doing). DoesFreely d (doing c.take_command.new.unit (g.S.Site.state c.take_command.new.site) c.take_command.new.records)) (sym heard))
    (c.take_command.ensures.does link (c.poll.ensures.advances.shared ∙ c.reserve.ensures.advances.shared ∙ alone) going (command_first c.in-Got.entry (search rules)) free.waiting (subst IsFree heard free))

pub returns-in-Some-clause-does : goal.returns-in-Some-clause-does
returns-in-Some-clause-does g c = λ link alone going free.
    let sends = c.put_reply.ensures.aside c.args.records.now link in
    hears_freely _ _ _ (came_doing c.args.unit.now (g.S.Site.state c.args.site.now) (g.S.Site.state c.poll.new.self) c.args.records.now (record { number = c.in-Got.number; entry = c.in-Got.entry }) free.waiting (came _ _ (g.S.Site.state c.reserve.new.self).queue _ c.in-Got.number c.in-Got.entry link c.reserve.ensures.rest c.poll.ensures.rest c.in-Got.ensures.got)
    (c.poll.ensures.rest.kept ∙ c.reserve.ensures.rest.kept) (c.poll.ensures.windows.client ∙ c.reserve.ensures.windows.client) (c.poll.ensures.windows.own ∙ c.reserve.ensures.windows.own))
    (λ on. one_freely _ _ (one_init _ _ (init_sends (record { number = c.in-Got.number; entry = c.in-Got.entry }) c.args.unit.now.line.handshake (is_ended c.args.unit.now.line) (record (doing c.args.unit.now (g.S.Site.state c.poll.new.self) c.args.records.now) { handshake = c.got-step.new.self; ended = c.args.unit.now.line.closing || is_down c.got-step.new.self }) _ _ free.waiting c.requires.none going (search rules) c.got-step.ensures.state (got_ended _ _ _ c.in-Got.entry c.got-step.ensures.state)
    (ap step_entry (sym c.got-step.ensures.step) ∙ sym c.reply_of.ensures.reply ∙ c.in-Some.is) sends))
    (reply_free (record (doing c.args.unit.now (g.S.Site.state c.poll.new.self) c.args.records.now) { handshake = c.got-step.new.self; ended = c.args.unit.now.line.closing || is_down c.got-step.new.self }) _ _ sends (plain_none _ c.in-Some.ensures.may c.in-Some.ensures.plain) (record { waiting = free.waiting; stage = free.stage; kept = free.kept }))) free

pub returns-in-None-clause-does : goal.returns-in-None-clause-does
returns-in-None-clause-does g c = λ link alone going free.
    hears_freely _ _ _ (came_doing c.args.unit.now (g.S.Site.state c.args.site.now) (g.S.Site.state c.poll.new.self) c.args.records.now (record { number = c.in-Got.number; entry = c.in-Got.entry }) free.waiting (came _ _ (g.S.Site.state c.reserve.new.self).queue _ c.in-Got.number c.in-Got.entry link c.reserve.ensures.rest c.poll.ensures.rest c.in-Got.ensures.got)
    (c.poll.ensures.rest.kept ∙ c.reserve.ensures.rest.kept) (c.poll.ensures.windows.client ∙ c.reserve.ensures.windows.client) (c.poll.ensures.windows.own ∙ c.reserve.ensures.windows.own))
    (λ on. one_freely _ _ (one_init _ _ (init_none (record { number = c.in-Got.number; entry = c.in-Got.entry }) c.args.unit.now.line.handshake (is_ended c.args.unit.now.line) (record (doing c.args.unit.now (g.S.Site.state c.poll.new.self) c.args.records.now) { handshake = c.got-step.new.self; ended = c.args.unit.now.line.closing || is_down c.got-step.new.self }) free.waiting c.requires.none going (search rules) c.got-step.ensures.state (got_ended _ _ _ c.in-Got.entry c.got-step.ensures.state)
    (ap step_entry (sym c.got-step.ensures.step) ∙ sym c.reply_of.ensures.reply ∙ c.in-None.is)))
    (record { waiting = free.waiting; stage = free.stage; kept = free.kept })) free

pub returns-in-Event-clause-does : goal.returns-in-Event-clause-does
returns-in-Event-clause-does g c = λ link alone going free.
    hears_freely _ _ _ (came_doing c.args.unit.now (g.S.Site.state c.args.site.now) (g.S.Site.state c.poll.new.self) c.args.records.now (record { number = c.in-Got.number; entry = c.in-Got.entry }) free.waiting (came _ _ (g.S.Site.state c.reserve.new.self).queue _ c.in-Got.number c.in-Got.entry link c.reserve.ensures.rest c.poll.ensures.rest c.in-Got.ensures.got)
    (c.poll.ensures.rest.kept ∙ c.reserve.ensures.rest.kept) (c.poll.ensures.windows.client ∙ c.reserve.ensures.windows.client) (c.poll.ensures.windows.own ∙ c.reserve.ensures.windows.own))
    (λ on. drops_freely _ _ (drops_lost (record { number = c.in-Got.number; entry = c.in-Got.entry }) c.args.unit.now.line.handshake (is_ended c.args.unit.now.line) _ c.lose_partner.new.unit (g.S.Site.state c.poll.new.self).own.place.unit (g.S.Site.state c.poll.new.self).queue (g.S.Site.state c.poll.new.self).client
    c.args.records.now c.lose_partner.new.records _ _ _ _ free.stage c.lose_partner.ensures.ends c.lose_partner.ensures.id c.lose_partner.ensures.stage (left_at_start _ _ _ _ free.stage c.lose_partner.ensures.row)
    (search rules) (c.lose_partner.ensures.handshake ∙ c.got-step-in-Event.ensures.state)
    (ended_same _ _ _ _ c.lose_partner.ensures.closing c.lose_partner.ensures.handshake ∙ got_ended _ _ _ c.in-Got.entry c.got-step-in-Event.ensures.state) c.requires.none) c.lose_partner.ensures.waiting) free

pub returns-in-Unused-clause-does : goal.returns-in-Unused-clause-does
returns-in-Unused-clause-does g c = λ link alone going free.
    hears_freely _ _ _ (came_doing c.args.unit.now (g.S.Site.state c.args.site.now) (g.S.Site.state c.poll.new.self) c.args.records.now (record { number = c.in-Got.number; entry = c.in-Got.entry }) free.waiting (came _ _ (g.S.Site.state c.reserve.new.self).queue _ c.in-Got.number c.in-Got.entry link c.reserve.ensures.rest c.poll.ensures.rest c.in-Got.ensures.got)
    (c.poll.ensures.rest.kept ∙ c.reserve.ensures.rest.kept) (c.poll.ensures.windows.client ∙ c.reserve.ensures.windows.client) (c.poll.ensures.windows.own ∙ c.reserve.ensures.windows.own))
    (λ on. passes_freely _ _ (passes_same (record { number = c.in-Got.number; entry = c.in-Got.entry }) (doing c.args.unit.now (g.S.Site.state c.poll.new.self) c.args.records.now) free.waiting c.requires.none (λ is. search rules) (λ is. search rules) (other_srp c.in-Got.entry (λ is. search rules))) (record { waiting = free.waiting; stage = free.stage; kept = free.kept })) free

pub returns-in-Reserved-clause-does : goal.returns-in-Reserved-clause-does
returns-in-Reserved-clause-does g c = λ link alone going free.
    hears_freely _ _ _ (came_doing c.args.unit.now (g.S.Site.state c.args.site.now) (g.S.Site.state c.poll.new.self) c.args.records.now (record { number = c.in-Got.number; entry = c.in-Got.entry }) free.waiting (came _ _ (g.S.Site.state c.reserve.new.self).queue _ c.in-Got.number c.in-Got.entry link c.reserve.ensures.rest c.poll.ensures.rest c.in-Got.ensures.got)
    (c.poll.ensures.rest.kept ∙ c.reserve.ensures.rest.kept) (c.poll.ensures.windows.client ∙ c.reserve.ensures.windows.client) (c.poll.ensures.windows.own ∙ c.reserve.ensures.windows.own))
    (λ on. passes_freely _ _ (passes_same (record { number = c.in-Got.number; entry = c.in-Got.entry }) (doing c.args.unit.now (g.S.Site.state c.poll.new.self) c.args.records.now) free.waiting c.requires.none (λ is. search rules) (λ is. search rules) (other_srp c.in-Got.entry (λ is. search rules))) (record { waiting = free.waiting; stage = free.stage; kept = free.kept })) free

pub returns-in-Command-clause-goes : goal.returns-in-Command-clause-goes
returns-in-Command-clause-goes g c = λ alone on. c.take_command.ensures.goes (c.poll.ensures.advances.shared ∙ c.reserve.ensures.advances.shared ∙ alone) on

pub returns-in-Some-clause-goes : goal.returns-in-Some-clause-goes
returns-in-Some-clause-goes g c = λ alone on more. ended_stands _ _ c.put_reply.ensures.stands ∙ got_ended _ _ _ c.in-Got.entry c.got-step.ensures.state ∙ on

pub returns-in-None-clause-goes : goal.returns-in-None-clause-goes
returns-in-None-clause-goes g c = λ alone on more. got_ended _ _ _ c.in-Got.entry c.got-step.ensures.state ∙ on

pub returns-in-Event-clause-goes : goal.returns-in-Event-clause-goes
returns-in-Event-clause-goes g c = λ alone on more.
    ended_same _ _ _ _ c.lose_partner.ensures.closing c.lose_partner.ensures.handshake ∙ got_ended _ _ _ c.in-Got.entry c.got-step-in-Event.ensures.state ∙ on

pub returns-in_default-clause-stops : goal.returns-in_default-clause-stops
returns-in_default-clause-stops g c = λ link.
    stops_empty _ (g.S.Site.state c.args.site.now).shared _ (g.S.Site.state c.args.site.now).queue (g.S.Site.state c.reserve.new.self).queue (g.S.Site.state c.poll.new.self).queue c.poll.result link c.reserve.ensures.rest c.poll.ensures.rest
    (λ number entry is. c.in_default.not-Got number entry is) c.poll.ensures.unregistered.0 c.poll.ensures.empty

pub returns-in-Command-clause-stops : goal.returns-in-Command-clause-stops
returns-in-Command-clause-stops g c = λ link.
    ok_next_or (g.S.Site.state c.args.site.now).shared c.take_command.new.unit (g.S.Site.state c.args.site.now).queue (g.S.Site.state c.take_command.new.site).queue c.take_command.result
    (less_then (g.S.Site.state c.args.site.now).queue (g.S.Site.state c.poll.new.self).queue (g.S.Site.state c.take_command.new.site).queue c.take_command.ensures.coming
    (less_came (g.S.Site.state c.args.site.now).queue (g.S.Site.state c.poll.new.self).queue c.in-Got.number c.in-Got.entry (came _ (g.S.Site.state c.args.site.now).queue (g.S.Site.state c.reserve.new.self).queue (g.S.Site.state c.poll.new.self).queue c.in-Got.number c.in-Got.entry link c.reserve.ensures.rest c.poll.ensures.rest c.in-Got.ensures.got)))
    (heard_ok (g.S.Site.state c.args.site.now).shared (g.S.Site.state c.poll.new.self).shared c.take_command.new.unit (g.S.Site.state c.take_command.new.site).queue c.take_command.result (c.poll.ensures.advances.shared ∙ c.reserve.ensures.advances.shared) (c.take_command.ensures.stops link))

pub returns-in-Some-clause-stops : goal.returns-in-Some-clause-stops
returns-in-Some-clause-stops g c = λ link.
    next_or (g.S.Site.state c.args.site.now).shared c.put_reply.new.unit (g.S.Site.state c.args.site.now).queue (g.S.Site.state c.put_reply.new.site).queue c.put_reply.result
    (less_then (g.S.Site.state c.args.site.now).queue (g.S.Site.state c.poll.new.self).queue (g.S.Site.state c.put_reply.new.site).queue (come_same (g.S.Site.state c.poll.new.self).queue (g.S.Site.state c.put_reply.new.site).queue c.put_reply.ensures.advances.queue_place (passed_session _ _ c.put_reply.ensures.passes) (passed_taken _ _ c.put_reply.ensures.passes))
    (less_came (g.S.Site.state c.args.site.now).queue (g.S.Site.state c.poll.new.self).queue c.in-Got.number c.in-Got.entry (came _ (g.S.Site.state c.args.site.now).queue (g.S.Site.state c.reserve.new.self).queue (g.S.Site.state c.poll.new.self).queue c.in-Got.number c.in-Got.entry link c.reserve.ensures.rest c.poll.ensures.rest c.in-Got.ensures.got)))
    (λ other. keeps (λ none. cc (c.put_reply.ensures.kept other, none)) (c.put_reply.ensures.full link other))

pub returns-in-None-clause-stops : goal.returns-in-None-clause-stops
returns-in-None-clause-stops g c = λ link.
    less_came (g.S.Site.state c.args.site.now).queue (g.S.Site.state c.poll.new.self).queue c.in-Got.number c.in-Got.entry (came _ (g.S.Site.state c.args.site.now).queue (g.S.Site.state c.reserve.new.self).queue (g.S.Site.state c.poll.new.self).queue c.in-Got.number c.in-Got.entry link c.reserve.ensures.rest c.poll.ensures.rest c.in-Got.ensures.got)

pub returns-in-Event-clause-stops : goal.returns-in-Event-clause-stops
returns-in-Event-clause-stops g c = λ link.
    less_came (g.S.Site.state c.args.site.now).queue (g.S.Site.state c.poll.new.self).queue c.in-Got.number c.in-Got.entry (came _ (g.S.Site.state c.args.site.now).queue (g.S.Site.state c.reserve.new.self).queue (g.S.Site.state c.poll.new.self).queue c.in-Got.number c.in-Got.entry link c.reserve.ensures.rest c.poll.ensures.rest c.in-Got.ensures.got)

pub returns-in-Unused-clause-stops : goal.returns-in-Unused-clause-stops
returns-in-Unused-clause-stops g c = λ link.
    less_came (g.S.Site.state c.args.site.now).queue (g.S.Site.state c.poll.new.self).queue c.in-Got.number c.in-Got.entry (came _ (g.S.Site.state c.args.site.now).queue (g.S.Site.state c.reserve.new.self).queue (g.S.Site.state c.poll.new.self).queue c.in-Got.number c.in-Got.entry link c.reserve.ensures.rest c.poll.ensures.rest c.in-Got.ensures.got)

pub returns-in-Reserved-clause-stops : goal.returns-in-Reserved-clause-stops
returns-in-Reserved-clause-stops g c = λ link.
    less_came (g.S.Site.state c.args.site.now).queue (g.S.Site.state c.poll.new.self).queue c.in-Got.number c.in-Got.entry (came _ (g.S.Site.state c.args.site.now).queue (g.S.Site.state c.reserve.new.self).queue (g.S.Site.state c.poll.new.self).queue c.in-Got.number c.in-Got.entry link c.reserve.ensures.rest c.poll.ensures.rest c.in-Got.ensures.got)

pub returns-in_default-clause-brings : goal.returns-in_default-clause-brings
returns-in_default-clause-brings g c = λ link.
    few_none _ (g.S.Site.state c.args.site.now).queue (g.S.Site.state c.poll.new.self).queue _
    (come_same (g.S.Site.state c.args.site.now).queue (g.S.Site.state c.poll.new.self).queue (c.poll.ensures.rest.place ∙ c.reserve.ensures.rest.place) (c.poll.ensures.rest.last_session ∙ c.reserve.ensures.rest.last_session)
    (poll_taken _ _ _ c.poll.result (λ number entry is. c.in_default.not-Got number entry is) c.poll.ensures.empty c.poll.ensures.refused ∙ c.reserve.ensures.rest.taken)) (λ is. cc (is))

pub returns-in-Command-clause-brings : goal.returns-in-Command-clause-brings
returns-in-Command-clause-brings g c = λ link.
    few_ok c.args.unit.now c.take_command.new.unit (g.S.Site.state c.args.site.now).queue (g.S.Site.state c.take_command.new.site).queue c.take_command.result
    (less_then (g.S.Site.state c.args.site.now).queue (g.S.Site.state c.poll.new.self).queue (g.S.Site.state c.take_command.new.site).queue c.take_command.ensures.coming
    (less_came (g.S.Site.state c.args.site.now).queue (g.S.Site.state c.poll.new.self).queue c.in-Got.number c.in-Got.entry (came _ (g.S.Site.state c.args.site.now).queue (g.S.Site.state c.reserve.new.self).queue (g.S.Site.state c.poll.new.self).queue c.in-Got.number c.in-Got.entry link c.reserve.ensures.rest c.poll.ensures.rest c.in-Got.ensures.got)))
    (brings_from _ (record c.args.unit.now { moved = true }) c.take_command.new.unit c.take_command.result refl c.take_command.ensures.brings)

pub returns-in-Some-clause-brings : goal.returns-in-Some-clause-brings
returns-in-Some-clause-brings g c = λ link.
    few_one c.args.unit.now c.put_reply.new.unit (g.S.Site.state c.args.site.now).queue (g.S.Site.state c.put_reply.new.site).queue c.put_reply.result
    (less_then (g.S.Site.state c.args.site.now).queue (g.S.Site.state c.poll.new.self).queue (g.S.Site.state c.put_reply.new.site).queue (come_same (g.S.Site.state c.poll.new.self).queue (g.S.Site.state c.put_reply.new.site).queue c.put_reply.ensures.advances.queue_place (passed_session _ _ c.put_reply.ensures.passes) (passed_taken _ _ c.put_reply.ensures.passes))
    (less_came (g.S.Site.state c.args.site.now).queue (g.S.Site.state c.poll.new.self).queue c.in-Got.number c.in-Got.entry (came _ (g.S.Site.state c.args.site.now).queue (g.S.Site.state c.reserve.new.self).queue (g.S.Site.state c.poll.new.self).queue c.in-Got.number c.in-Got.entry link c.reserve.ensures.rest c.poll.ensures.rest c.in-Got.ensures.got)))
    (brings_none _ _ _ c.put_reply.ensures.pending (λ is. inr (λ none. cc (c.put_reply.ensures.kept (λ entry. cc (is, entry)), none))))

pub returns-in-Event-clause-brings : goal.returns-in-Event-clause-brings
returns-in-Event-clause-brings g c = λ link.
    few_one c.args.unit.now c.lose_partner.new.unit (g.S.Site.state c.args.site.now).queue (g.S.Site.state c.poll.new.self).queue _ (less_came (g.S.Site.state c.args.site.now).queue (g.S.Site.state c.poll.new.self).queue c.in-Got.number c.in-Got.entry (came _ (g.S.Site.state c.args.site.now).queue (g.S.Site.state c.reserve.new.self).queue (g.S.Site.state c.poll.new.self).queue c.in-Got.number c.in-Got.entry link c.reserve.ensures.rest c.poll.ensures.rest c.in-Got.ensures.got))
    (record { most = omega (arith, ap (λ (list : List Request). length list) c.lose_partner.ensures.ends.pending); ends = λ is. absurd (cc (is)) })

pub returns-in-None-clause-brings : goal.returns-in-None-clause-brings
returns-in-None-clause-brings g c = λ link.
    few_one c.args.unit.now _ (g.S.Site.state c.args.site.now).queue (g.S.Site.state c.poll.new.self).queue _ (less_came (g.S.Site.state c.args.site.now).queue (g.S.Site.state c.poll.new.self).queue c.in-Got.number c.in-Got.entry (came _ (g.S.Site.state c.args.site.now).queue (g.S.Site.state c.reserve.new.self).queue (g.S.Site.state c.poll.new.self).queue c.in-Got.number c.in-Got.entry link c.reserve.ensures.rest c.poll.ensures.rest c.in-Got.ensures.got))
    (brings_none _ _ _ refl (λ is. absurd (cc (is))))

pub returns-in-Unused-clause-brings : goal.returns-in-Unused-clause-brings
returns-in-Unused-clause-brings g c = λ link.
    few_one c.args.unit.now _ (g.S.Site.state c.args.site.now).queue (g.S.Site.state c.poll.new.self).queue _ (less_came (g.S.Site.state c.args.site.now).queue (g.S.Site.state c.poll.new.self).queue c.in-Got.number c.in-Got.entry (came _ (g.S.Site.state c.args.site.now).queue (g.S.Site.state c.reserve.new.self).queue (g.S.Site.state c.poll.new.self).queue c.in-Got.number c.in-Got.entry link c.reserve.ensures.rest c.poll.ensures.rest c.in-Got.ensures.got))
    (brings_none _ _ _ refl (λ is. absurd (cc (is))))

pub returns-in-Reserved-clause-brings : goal.returns-in-Reserved-clause-brings
returns-in-Reserved-clause-brings g c = λ link.
    few_one c.args.unit.now _ (g.S.Site.state c.args.site.now).queue (g.S.Site.state c.poll.new.self).queue _ (less_came (g.S.Site.state c.args.site.now).queue (g.S.Site.state c.poll.new.self).queue c.in-Got.number c.in-Got.entry (came _ (g.S.Site.state c.args.site.now).queue (g.S.Site.state c.reserve.new.self).queue (g.S.Site.state c.poll.new.self).queue c.in-Got.number c.in-Got.entry link c.reserve.ensures.rest c.poll.ensures.rest c.in-Got.ensures.got))
    (brings_none _ _ _ refl (λ is. absurd (cc (is))))
