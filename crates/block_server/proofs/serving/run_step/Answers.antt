use Rattle.std.proofs.Common.{ap, inl, inr, refl, subst, sym, false, true, ◌≡◌}
use Rattle.crq_session.specs.EndState.{EndState}
use Rattle.block_server.specs.Answering.{responses}
use Rattle.block_server.specs.Causes.{TurnsDown, told_to}
use Rattle.block_server.specs.Orders.{IsCauseOf}
use Rattle.block_server.specs.Stage.{is_before_step}
use Rattle.block_server.proofs.Quieting.{on_ok}
use Rattle.block_server.proofs.Advancing.{advances_on}
use Rattle.block_server.proofs.Denying.{tells_first}
use Rattle.block_server.proofs.Gathering.{where_refused}
use Rattle.block_server.proofs.Onces.{once_same, once_then}
use Rattle.block_server.proofs.Serves.{gathers_of, once_before, pieces_of}
use Rattle.block_server.proofs.Working.{before_no_row, one_before, one_on, one_same}
use Rattle.std.proofs.Common.{◌∙◌}
use Rattle.block_server.proofs.OwingCalls.{no_row_in}
use Rattle.block_server.proofs.OwingRows.{moves_on, moves_same}
use Rattle.block_server.specs.Cargo.{IsFetchedAll}
use Rattle.block_server.proofs.Gathering.{where_done}
use Rattle.block_server.proofs.Sendings.{before_unloaded}
use Rattle.std.proofs.Common.{refl}
use Rattle.block_server.proofs.ComingStages.{before_entry}
use Rattle.block_server.proofs.Servicing.{before_suits}
use Rattle.block_server.proofs.Standing.{before_answer}
use Rattle.block_server.specs.Standing.{stood}
use Rattle.block_server.proofs.Stood.{knows_answered}
use Rattle.block_server.proofs.LastRows.{coded_last, none_added, none_before}
use Rattle.block_server.proofs.Readying.{on_both}
use Rattle.block_server.proofs.BearingRows.{answer_given, no_given}
use Rattle.block_server.proofs.serving.run_step.Goals as goal

pub returns-then-not-is_before_step-clause-once : goal.returns-then-not-is_before_step-clause-once
returns-then-not-is_before_step-clause-once g c = λ told all credits rest serving. once_same _ _ _ _ _ _ refl refl refl _ serving

pub returns-in_err-fetch-clause-once : goal.returns-in_err-fetch-clause-once
returns-in_err-fetch-clause-once g c = λ told all credits rest serving.
    let before : is_before_step c.args.service.now.stage ≡ true = cc in
    once_before _ _ _ _ _ _ _ refl (c.fetch.ensures.before before) refl
    (pieces_of _ _ _ _ c.args.request.now rest c.args.command.now c.requires.asked
    (c.fetch.ensures.named told c.args.id all (gathers_of _ _ _ _ c.args.request.now rest c.args.command.now c.requires.asked serving.fetched))) refl
    (ap (λ (q : EndState). responses q.sent) c.fetch.ensures.queue) serving.brought

pub returns-in-Busy-clause-once : goal.returns-in-Busy-clause-once
returns-in-Busy-clause-once g c = λ told all credits rest serving.
    let before : is_before_step c.args.service.now.stage ≡ true = cc in
    once_before _ _ _ _ _ _ _ refl (c.fetch.ensures.before before) refl
    (pieces_of _ _ _ _ c.args.request.now rest c.args.command.now c.requires.asked
    (c.fetch.ensures.named told c.args.id all (gathers_of _ _ _ _ c.args.request.now rest c.args.command.now c.requires.asked serving.fetched))) refl
    (ap (λ (q : EndState). responses q.sent) c.fetch.ensures.queue) serving.brought

pub returns-in-Refused-clause-once : goal.returns-in-Refused-clause-once
returns-in-Refused-clause-once g c = λ told all credits rest serving.
    let before : is_before_step c.args.service.now.stage ≡ true = cc in
    let known = gathers_of _ _ _ _ c.args.request.now rest c.args.command.now c.requires.asked serving.fetched in
    let cause = where_refused c.in_ok-fetch.field-0 (TurnsDown (told_to told c.args.id) c.args.command.now) c.in-Refused.is (c.in_ok-fetch.ensures.refused told c.args.id all known) in
    once_then _ _ _ _ _ _ _ _ _ _ _ _
    (λ serving. once_before _ _ _ _ _ _ _ refl (c.fetch.ensures.before before) refl
    (pieces_of _ _ _ _ c.args.request.now rest c.args.command.now c.requires.asked (c.fetch.ensures.named told c.args.id all known)) refl
    (ap (λ (q : EndState). responses q.sent) c.fetch.ensures.queue) serving.brought)
    (c.add_code.ensures.once credits rest (g.S.Site.state c.fetch.new.site).queue _
    (subst (IsCauseOf (told_to told c.args.id)) (sym c.requires.asked) cause)) serving

pub returns-in-Done-clause-once : goal.returns-in-Done-clause-once
returns-in-Done-clause-once g c = λ told all credits rest.
    let before : is_before_step c.args.service.now.stage ≡ true = cc in
    once_then _ _ _ _ _ _ _ _ _ _ _ _
    (λ serving. once_before _ _ _ _ _ _ _ refl (c.fetch.ensures.before before) refl
    (pieces_of _ _ _ _ c.args.request.now rest c.args.command.now c.requires.asked
    (c.fetch.ensures.named told c.args.id (tells_first told c.args.id (g.S.Site.state c.args.site.now) (g.S.Site.state c.fetch.new.site) (g.S.Site.state c.make_step.new.site) c.make_step.ensures.advances all) (gathers_of _ _ _ _ c.args.request.now rest c.args.command.now c.requires.asked serving.fetched))) refl
    (ap (λ (q : EndState). responses q.sent) c.fetch.ensures.queue) serving.brought)
    (c.make_step.ensures.once told credits rest)

pub returns-in-Done-clause-advances : goal.returns-in-Done-clause-advances
returns-in-Done-clause-advances g c = advances_on _ _ _ c.fetch.ensures.advances c.make_step.ensures.advances

pub returns-then-not-is_before_step-clause-went : goal.returns-then-not-is_before_step-clause-went
returns-then-not-is_before_step-clause-went g c =
    let past : is_before_step c.args.service.now.stage ≡ false = cc in
    inl past

pub returns-in-Busy-clause-went : goal.returns-in-Busy-clause-went
returns-in-Busy-clause-went g c = inr (c.in_ok-fetch.ensures.busy c.in-Busy.is)

pub returns-in-Refused-clause-went : goal.returns-in-Refused-clause-went
returns-in-Refused-clause-went g c = on_ok c.add_code.result _ _ (λ stage. inl (ap is_before_step stage)) c.add_code.ensures.stage

pub returns-in-Done-clause-went : goal.returns-in-Done-clause-went
returns-in-Done-clause-went g c =
    let before : is_before_step c.args.service.now.stage ≡ true = cc in
    on_ok c.make_step.result _ _ (λ went. inl (went (c.in_ok-fetch.ensures.went c.in-Done.is before))) c.make_step.ensures.went

pub returns-then-not-is_before_step-clause-books : goal.returns-then-not-is_before_step-clause-books
returns-then-not-is_before_step-clause-books g c = one_same _ _ _ _ _ _ _ refl refl

pub returns-in_err-fetch-clause-books : goal.returns-in_err-fetch-clause-books
returns-in_err-fetch-clause-books g c =
    let before : is_before_step c.args.service.now.stage ≡ true = cc in
    one_before _ _ _ _ _ _ before (c.fetch.ensures.before before)

pub returns-in-Busy-clause-books : goal.returns-in-Busy-clause-books
returns-in-Busy-clause-books g c =
    let before : is_before_step c.args.service.now.stage ≡ true = cc in
    one_before _ _ _ _ _ _ before (c.fetch.ensures.before before)

pub returns-in-Refused-clause-books : goal.returns-in-Refused-clause-books
returns-in-Refused-clause-books g c =
    let before : is_before_step c.args.service.now.stage ≡ true = cc in
    one_on _ _ _ _ _ _ _ _ _ _ (c.session.ensures ∙ ap (λ (q : EndState). q.last_session) c.fetch.ensures.queue)
    (one_before _ _ _ _ _ _ before (c.fetch.ensures.before before)) (c.add_code.ensures.books (before_no_row _ (c.fetch.ensures.before before)))

pub returns-in-Done-clause-books : goal.returns-in-Done-clause-books
returns-in-Done-clause-books g c =
    let before : is_before_step c.args.service.now.stage ≡ true = cc in
    one_on _ _ _ _ _ _ _ _ _ _ (ap (λ (q : EndState). q.last_session) c.fetch.ensures.queue)
    (one_before _ _ _ _ _ _ before (c.fetch.ensures.before before)) c.make_step.ensures.books

pub returns-then-not-is_before_step-clause-moves : goal.returns-then-not-is_before_step-clause-moves
returns-then-not-is_before_step-clause-moves g c = moves_same _ _ _ _ _ _ _ refl refl

pub returns-in_err-fetch-clause-moves : goal.returns-in_err-fetch-clause-moves
returns-in_err-fetch-clause-moves g c =
    let before : is_before_step c.args.service.now.stage ≡ true = cc in
    let none = no_row_in _ (before_no_row _ (c.fetch.ensures.before before)) in
    let first = moves_same c.args.id (g.S.Site.state c.args.site.now).queue.last_session c.args.request.now c.args.service.now.stage c.fetch.new.service.stage _ _ (none ∙ sym (no_row_in _ (before_no_row _ before))) refl in
    first

pub returns-in-Busy-clause-moves : goal.returns-in-Busy-clause-moves
returns-in-Busy-clause-moves g c =
    let before : is_before_step c.args.service.now.stage ≡ true = cc in
    let none = no_row_in _ (before_no_row _ (c.fetch.ensures.before before)) in
    let first = moves_same c.args.id (g.S.Site.state c.args.site.now).queue.last_session c.args.request.now c.args.service.now.stage c.fetch.new.service.stage _ _ (none ∙ sym (no_row_in _ (before_no_row _ before))) refl in
    first

pub returns-in-Refused-clause-moves : goal.returns-in-Refused-clause-moves
returns-in-Refused-clause-moves g c =
    let before : is_before_step c.args.service.now.stage ≡ true = cc in
    let none = no_row_in _ (before_no_row _ (c.fetch.ensures.before before)) in
    let first = moves_same c.args.id (g.S.Site.state c.args.site.now).queue.last_session c.args.request.now c.args.service.now.stage c.fetch.new.service.stage _ _ (none ∙ sym (no_row_in _ (before_no_row _ before))) refl in
    moves_on _ _ _ _ _ _ _ _ _ _ (c.session.ensures ∙ ap (λ (q : EndState). q.last_session) c.fetch.ensures.queue) first (c.add_code.ensures.moves none)

pub returns-in-Done-clause-moves : goal.returns-in-Done-clause-moves
returns-in-Done-clause-moves g c =
    let before : is_before_step c.args.service.now.stage ≡ true = cc in
    let none = no_row_in _ (before_no_row _ (c.fetch.ensures.before before)) in
    let first = moves_same c.args.id (g.S.Site.state c.args.site.now).queue.last_session c.args.request.now c.args.service.now.stage c.fetch.new.service.stage _ _ (none ∙ sym (no_row_in _ (before_no_row _ before))) refl in
    moves_on _ _ _ _ _ _ _ _ _ _ (ap (λ (q : EndState). q.last_session) c.fetch.ensures.queue) first c.make_step.ensures.moves

pub returns-then-not-is_before_step-clause-cargo : goal.returns-then-not-is_before_step-clause-cargo
returns-then-not-is_before_step-clause-cargo g c = λ told asked all credits rest serving hand. hand

pub returns-in_err-fetch-clause-cargo : goal.returns-in_err-fetch-clause-cargo
returns-in_err-fetch-clause-cargo g c = λ told asked all credits rest serving hand. c.fetch.ensures.cargo c.args.id told asked all c.args.records.now.history.items hand

pub returns-in-Busy-clause-cargo : goal.returns-in-Busy-clause-cargo
returns-in-Busy-clause-cargo g c = λ told asked all credits rest serving hand. c.fetch.ensures.cargo c.args.id told asked all c.args.records.now.history.items hand

pub returns-in-Refused-clause-cargo : goal.returns-in-Refused-clause-cargo
returns-in-Refused-clause-cargo g c = λ told asked all credits rest serving hand.
    let before : is_before_step c.args.service.now.stage ≡ true = cc in
    c.add_code.ensures.cargo _ (before_unloaded _ (c.fetch.ensures.before before)) told asked (c.fetch.ensures.cargo c.args.id told asked all c.args.records.now.history.items hand)

pub returns-in-Done-clause-cargo : goal.returns-in-Done-clause-cargo
returns-in-Done-clause-cargo g c = λ told asked all credits rest serving hand.
    let heard = tells_first told c.args.id (g.S.Site.state c.args.site.now) (g.S.Site.state c.fetch.new.site) (g.S.Site.state c.make_step.new.site) c.make_step.ensures.advances all in
    c.make_step.ensures.cargo told asked
    (c.fetch.ensures.named told c.args.id heard (gathers_of _ _ _ _ c.args.request.now rest c.args.command.now c.requires.asked serving.fetched))
    (where_done c.in_ok-fetch.field-0 (IsFetchedAll c.fetch.new.service) c.in-Done.is (c.in_ok-fetch.ensures.all c.args.id told asked heard c.args.records.now.history.items hand))
    (c.fetch.ensures.cargo c.args.id told asked heard c.args.records.now.history.items hand)

pub returns-then-not-is_before_step-clause-entry : goal.returns-then-not-is_before_step-clause-entry
returns-then-not-is_before_step-clause-entry g c = λ is. refl

pub returns-in_err-fetch-clause-entry : goal.returns-in_err-fetch-clause-entry
returns-in_err-fetch-clause-entry g c = λ is.
    let before : is_before_step c.args.service.now.stage ≡ true = cc in
    absurd (before_entry c.args.service.now.stage before is)

pub returns-in-Busy-clause-entry : goal.returns-in-Busy-clause-entry
returns-in-Busy-clause-entry g c = λ is.
    let before : is_before_step c.args.service.now.stage ≡ true = cc in
    absurd (before_entry c.args.service.now.stage before is)

pub returns-in-Refused-clause-entry : goal.returns-in-Refused-clause-entry
returns-in-Refused-clause-entry g c = λ is.
    let before : is_before_step c.args.service.now.stage ≡ true = cc in
    absurd (before_entry c.args.service.now.stage before is)

pub returns-in-Done-clause-entry : goal.returns-in-Done-clause-entry
returns-in-Done-clause-entry g c = λ is.
    let before : is_before_step c.args.service.now.stage ≡ true = cc in
    absurd (before_entry c.args.service.now.stage before is)

pub returns-then-not-is_before_step-clause-suits : goal.returns-then-not-is_before_step-clause-suits
returns-then-not-is_before_step-clause-suits g c = λ current old. old

pub returns-in-Busy-clause-suits : goal.returns-in-Busy-clause-suits
returns-in-Busy-clause-suits g c = λ current old.
    let before : is_before_step c.args.service.now.stage ≡ true = cc in
    before_suits current _ _ (c.fetch.ensures.before before)

pub returns-in-Refused-clause-suits : goal.returns-in-Refused-clause-suits
returns-in-Refused-clause-suits g c = λ current old.
    let before : is_before_step c.args.service.now.stage ≡ true = cc in
    c.add_code.ensures.suits current (before_suits current _ _ (c.fetch.ensures.before before))

pub returns-in-Done-clause-suits : goal.returns-in-Done-clause-suits
returns-in-Done-clause-suits g c = λ current old.
    let before : is_before_step c.args.service.now.stage ≡ true = cc in
    c.make_step.ensures.suits current (before_suits current _ _ (c.fetch.ensures.before before))

pub returns-then-not-is_before_step-clause-made : goal.returns-then-not-is_before_step-clause-made
returns-then-not-is_before_step-clause-made g c = λ granted old. old

pub returns-in-Busy-clause-made : goal.returns-in-Busy-clause-made
returns-in-Busy-clause-made g c = λ granted old.
    let before : is_before_step c.args.service.now.stage ≡ true = cc in
    before_answer granted c.args.request.now c.fetch.new.service.stage c.fetch.new.service.answer.items (c.fetch.ensures.before before)

pub returns-in-Refused-clause-made : goal.returns-in-Refused-clause-made
returns-in-Refused-clause-made g c = λ granted old. c.add_code.ensures.made granted

pub returns-in-Done-clause-made : goal.returns-in-Done-clause-made
returns-in-Done-clause-made g c = λ granted old.
    let before : is_before_step c.args.service.now.stage ≡ true = cc in
    c.make_step.ensures.made granted (before_answer granted c.args.request.now c.fetch.new.service.stage c.fetch.new.service.answer.items (c.fetch.ensures.before before))

pub returns-then-not-is_before_step-clause-stood : goal.returns-then-not-is_before_step-clause-stood
returns-then-not-is_before_step-clause-stood g c = λ client same alone known. known

pub returns-in-Busy-clause-stood : goal.returns-in-Busy-clause-stood
returns-in-Busy-clause-stood g c = λ client same alone known. c.fetch.ensures.stood client same alone known

pub returns-in-Refused-clause-stood : goal.returns-in-Refused-clause-stood
returns-in-Refused-clause-stood g c = λ client same alone known.
    on_ok c.add_code.result _ _ (λ stage. knows_answered (stood client) c.args.command.now _ _ _ _ stage) c.add_code.ensures.stage

pub returns-in-Done-clause-stood : goal.returns-in-Done-clause-stood
returns-in-Done-clause-stood g c = λ client same alone known. c.make_step.ensures.stood client (c.fetch.ensures.stood client same alone known)

pub returns-then-not-is_before_step-clause-rows : goal.returns-then-not-is_before_step-clause-rows
returns-then-not-is_before_step-clause-rows g c = λ none. none_added _ _ _ _ none

pub returns-in-Busy-clause-rows : goal.returns-in-Busy-clause-rows
returns-in-Busy-clause-rows g c = λ none.
    let before : is_before_step c.args.service.now.stage ≡ true = cc in
    none_added _ _ _ _ (none_before _ (c.fetch.ensures.before before))

pub returns-in-Refused-clause-rows : goal.returns-in-Refused-clause-rows
returns-in-Refused-clause-rows g c = λ none. on_both c.add_code.result _ _ _ (λ adds at. coded_last _ _ _ _ _ _ adds at) c.add_code.ensures.row c.add_code.ensures.stage

pub returns-in-Done-clause-rows : goal.returns-in-Done-clause-rows
returns-in-Done-clause-rows g c = λ none.
    let before : is_before_step c.args.service.now.stage ≡ true = cc in
    c.make_step.ensures.rows (none_before _ (c.fetch.ensures.before before))

pub returns-then-not-is_before_step-clause-given : goal.returns-then-not-is_before_step-clause-given
returns-then-not-is_before_step-clause-given g c = λ none. no_given _ _ _ none

pub returns-in-Busy-clause-given : goal.returns-in-Busy-clause-given
returns-in-Busy-clause-given g c = λ none.
    let before : is_before_step c.args.service.now.stage ≡ true = cc in
    no_given _ _ _ (none_before _ (c.fetch.ensures.before before))

pub returns-in-Refused-clause-given : goal.returns-in-Refused-clause-given
returns-in-Refused-clause-given g c = λ none. on_ok c.add_code.result _ _ (λ stage. answer_given _ _ _ _ stage) c.add_code.ensures.stage

pub returns-in-Done-clause-given : goal.returns-in-Done-clause-given
returns-in-Done-clause-given g c = λ none.
    let before : is_before_step c.args.service.now.stage ≡ true = cc in
    c.make_step.ensures.given (none_before _ (c.fetch.ensures.before before))
