use Rattle.std.proofs.Common.{refl, rules, ◌∷◌}
use Rattle.block_server.specs.Causes.{told_to}
use Rattle.block_server.specs.Orders.{IsCauseOf}
use Rattle.block_server.proofs.Onces.{once_same}
use Rattle.block_server.proofs.Working.{no_row_at}
use Rattle.block_server.specs.Judged.{is_command, is_login}
use Rattle.block_server.specs.Stage.{is_answered}
use Rattle.std.proofs.Common.{◌≡◌, ◌∙◌, sym, true, false}
use Rattle.std.proofs.Common.{subst, ℕ}
use Rattle.block_server.proofs.OwingCalls.{no_row_in}
use Rattle.block_server.proofs.OwingRows.{moves_same}
use Rattle.block_server.specs.Owed.{MovesRow}
use Rattle.block_server.proofs.Sendings.{other_unloaded}
use Rattle.block_server.specs.Serving.{terms_of}
use Rattle.block_server.specs.Granting.{login_state}
use Rattle.block_server.proofs.ComingStages.{unanswered_entry}
use Rattle.std.proofs.Common.{refl}
use Rattle.block_server.proofs.Servicing.{login_suits}
use Rattle.block_server.proofs.RangeLaws.{lays_none}
use Rattle.block_server.proofs.LastRows.{any_added, coded_last, none_added}
use Rattle.block_server.proofs.Readying.{on_both}
use Rattle.std.proofs.Common.{inl}
use Rattle.block_server.proofs.CommandBearing.{row_unlaid}
use Rattle.block_server.proofs.serving.prepare.Goals as goal

pub returns-in-Command-clause-once : goal.returns-in-Command-clause-once
returns-in-Command-clause-once g c = λ told all rest. c.serve_command.ensures.once told all (login_state c.args.logins.now) rest

pub returns-in-Login-clause-once : goal.returns-in-Login-clause-once
returns-in-Login-clause-once g c = λ told all rest.
    c.judge_login.ensures.once c.args.id c.args.request.now rest refl (search rules) (g.S.Site.state c.args.site.now).queue c.args.records.now _

pub returns-in-Task-clause-once : goal.returns-in-Task-clause-once
returns-in-Task-clause-once g c = λ told all rest.
    let cause : IsCauseOf (told_to told c.args.id) c.args.request.now.order = search rules in
    c.add_code.ensures.once (login_state c.args.logins.now) rest (g.S.Site.state c.args.site.now).queue _ cause

pub returns-in-Unreadable-clause-once : goal.returns-in-Unreadable-clause-once
returns-in-Unreadable-clause-once g c = λ told all rest.
    let cause : IsCauseOf (told_to told c.args.id) c.args.request.now.order = search rules in
    c.add_code-in-Unreadable.ensures.once (login_state c.args.logins.now) rest (g.S.Site.state c.args.site.now).queue _ cause

pub returns-in-Logout-clause-once : goal.returns-in-Logout-clause-once
returns-in-Logout-clause-once g c = λ told all rest serving. once_same _ _ _ _ _ _ refl refl refl _ serving

pub returns-in_default-clause-once : goal.returns-in_default-clause-once
returns-in_default-clause-once g c = λ told all rest serving. once_same _ _ _ _ _ _ refl refl refl _ serving

pub returns-in-Command-clause-books : goal.returns-in-Command-clause-books
returns-in-Command-clause-books g c = λ books for current. c.serve_command.ensures.books books for

pub returns-in-Login-clause-books : goal.returns-in-Login-clause-books
returns-in-Login-clause-books g c = λ books for current.
    let asks : is_login c.args.request.now.order ≡ true = search rules in
    let before : is_answered c.args.service.now.stage ≡ false = cc in
    c.judge_login.ensures.books books c.args.request.now for.rest c.args.records.now.history.items for.front asks refl current for.none before

pub returns-in-Task-clause-books : goal.returns-in-Task-clause-books
returns-in-Task-clause-books g c = λ books for current judged is.
    let none : is_command c.args.request.now.order ≡ false = search rules in
    let before : is_answered c.args.service.now.stage ≡ false = cc in
    c.add_code.ensures.books (no_row_at books.current books.pending c.args.service.now.stage c.args.request.now for.rest for.front none before is.stage) books
    (record { id_is = for.id_is; session_is = for.session_is ∙ sym c.session.ensures; rest = for.rest; front = for.front; none = for.none }) judged is

pub returns-in-Unreadable-clause-books : goal.returns-in-Unreadable-clause-books
returns-in-Unreadable-clause-books g c = λ books for current judged is.
    let none : is_command c.args.request.now.order ≡ false = search rules in
    let before : is_answered c.args.service.now.stage ≡ false = cc in
    c.add_code-in-Unreadable.ensures.books (no_row_at books.current books.pending c.args.service.now.stage c.args.request.now for.rest for.front none before is.stage) books
    (record { id_is = for.id_is; session_is = for.session_is ∙ sym c.session-in-Unreadable.ensures; rest = for.rest; front = for.front; none = for.none }) judged is

pub returns-in-Logout-clause-books : goal.returns-in-Logout-clause-books
returns-in-Logout-clause-books g c = λ books for current judged is. is

pub returns-in_default-clause-books : goal.returns-in_default-clause-books
returns-in_default-clause-books g c = λ books for current judged is. is

pub returns-in-Command-clause-moves : goal.returns-in-Command-clause-moves
returns-in-Command-clause-moves g c = λ current rest at. c.serve_command.ensures.moves

pub returns-in-Login-clause-moves : goal.returns-in-Login-clause-moves
returns-in-Login-clause-moves g c = λ current rest at.
    let other : is_command c.args.request.now.order ≡ false = search rules in
    let before : is_answered c.args.service.now.stage ≡ false = cc in
    let none = no_row_in _ (no_row_at current (c.args.request.now ∷ rest) c.args.service.now.stage c.args.request.now rest refl other before at) in
    moves_same _ _ _ _ _ _ _ (c.judge_login.ensures.row none ∙ sym none) refl

pub returns-in-Task-clause-moves : goal.returns-in-Task-clause-moves
returns-in-Task-clause-moves g c = λ current rest at.
    let other : is_command c.args.request.now.order ≡ false = search rules in
    let before : is_answered c.args.service.now.stage ≡ false = cc in
    subst (λ (q : ℕ). MovesRow c.args.id q c.args.request.now c.args.service.now.stage c.add_code.new.service.stage c.args.records.now.history.items c.add_code.new.records.history.items)
    c.session.ensures (c.add_code.ensures.moves (no_row_in _ (no_row_at current (c.args.request.now ∷ rest) c.args.service.now.stage c.args.request.now rest refl other before at)))

pub returns-in-Unreadable-clause-moves : goal.returns-in-Unreadable-clause-moves
returns-in-Unreadable-clause-moves g c = λ current rest at.
    let other : is_command c.args.request.now.order ≡ false = search rules in
    let before : is_answered c.args.service.now.stage ≡ false = cc in
    subst (λ (q : ℕ). MovesRow c.args.id q c.args.request.now c.args.service.now.stage c.add_code-in-Unreadable.new.service.stage c.args.records.now.history.items c.add_code-in-Unreadable.new.records.history.items)
    c.session-in-Unreadable.ensures (c.add_code-in-Unreadable.ensures.moves (no_row_in _ (no_row_at current (c.args.request.now ∷ rest) c.args.service.now.stage c.args.request.now rest refl other before at)))

pub returns-in-Logout-clause-moves : goal.returns-in-Logout-clause-moves
returns-in-Logout-clause-moves g c = λ current rest at. moves_same _ _ _ _ _ _ _ refl refl

pub returns-in_default-clause-moves : goal.returns-in_default-clause-moves
returns-in_default-clause-moves g c = λ current rest at. moves_same _ _ _ _ _ _ _ refl refl

pub returns-in-Command-clause-cargo : goal.returns-in-Command-clause-cargo
returns-in-Command-clause-cargo g c = λ told asked all rest serving hand. c.serve_command.ensures.cargo told asked all (login_state c.args.logins.now) rest serving hand

pub returns-in_default-clause-cargo : goal.returns-in_default-clause-cargo
returns-in_default-clause-cargo g c = λ told asked all rest serving hand. hand

pub returns-in-Logout-clause-cargo : goal.returns-in-Logout-clause-cargo
returns-in-Logout-clause-cargo g c = λ told asked all rest serving hand. hand

pub returns-in-Login-clause-cargo : goal.returns-in-Login-clause-cargo
returns-in-Login-clause-cargo g c = λ told asked all rest serving hand.
    let other : is_command c.args.request.now.order ≡ false = search rules in
    c.judge_login.ensures.cargo c.args.id _ _ (other_unloaded (terms_of told c.args.disk.now.count) c.args.id (login_state c.args.logins.now) c.args.service.now c.args.request.now rest c.args.records.now.history.items other serving) told asked hand

pub returns-in-Task-clause-cargo : goal.returns-in-Task-clause-cargo
returns-in-Task-clause-cargo g c = λ told asked all rest serving hand.
    let other : is_command c.args.request.now.order ≡ false = search rules in
    c.add_code.ensures.cargo _ (other_unloaded (terms_of told c.args.disk.now.count) c.args.id (login_state c.args.logins.now) c.args.service.now c.args.request.now rest c.args.records.now.history.items other serving) told asked hand

pub returns-in-Unreadable-clause-cargo : goal.returns-in-Unreadable-clause-cargo
returns-in-Unreadable-clause-cargo g c = λ told asked all rest serving hand.
    let other : is_command c.args.request.now.order ≡ false = search rules in
    c.add_code-in-Unreadable.ensures.cargo _ (other_unloaded (terms_of told c.args.disk.now.count) c.args.id (login_state c.args.logins.now) c.args.service.now c.args.request.now rest c.args.records.now.history.items other serving) told asked hand

pub returns-in-Command-clause-entry : goal.returns-in-Command-clause-entry
returns-in-Command-clause-entry g c = c.serve_command.ensures.entry

pub returns-in_default-clause-entry : goal.returns-in_default-clause-entry
returns-in_default-clause-entry g c = λ is. refl

pub returns-in-Logout-clause-entry : goal.returns-in-Logout-clause-entry
returns-in-Logout-clause-entry g c = λ is. refl

pub returns-in-Login-clause-entry : goal.returns-in-Login-clause-entry
returns-in-Login-clause-entry g c = λ is.
    let before : is_answered c.args.service.now.stage ≡ false = cc in
    absurd (unanswered_entry c.args.service.now.stage before is)

pub returns-in-Task-clause-entry : goal.returns-in-Task-clause-entry
returns-in-Task-clause-entry g c = λ is.
    let before : is_answered c.args.service.now.stage ≡ false = cc in
    absurd (unanswered_entry c.args.service.now.stage before is)

pub returns-in-Unreadable-clause-entry : goal.returns-in-Unreadable-clause-entry
returns-in-Unreadable-clause-entry g c = λ is.
    let before : is_answered c.args.service.now.stage ≡ false = cc in
    absurd (unanswered_entry c.args.service.now.stage before is)

pub returns-in-Command-clause-suits : goal.returns-in-Command-clause-suits
returns-in-Command-clause-suits g c = c.serve_command.ensures.suits _

pub returns-in-Login-clause-suits : goal.returns-in-Login-clause-suits
returns-in-Login-clause-suits g c = λ old. login_suits _ _ _ _ c.judge_login.result c.judge_login.ensures.suits (search rules)

pub returns-in-Task-clause-suits : goal.returns-in-Task-clause-suits
returns-in-Task-clause-suits g c = c.add_code.ensures.suits _

pub returns-in-Unreadable-clause-suits : goal.returns-in-Unreadable-clause-suits
returns-in-Unreadable-clause-suits g c = c.add_code-in-Unreadable.ensures.suits _

pub returns-in-Logout-clause-suits : goal.returns-in-Logout-clause-suits
returns-in-Logout-clause-suits g c = λ old. old

pub returns-in_default-clause-suits : goal.returns-in_default-clause-suits
returns-in_default-clause-suits g c = λ old. old

pub returns-in-Command-clause-wrote : goal.returns-in-Command-clause-wrote
returns-in-Command-clause-wrote g c = λ told all rest. c.serve_command.ensures.wrote told all (login_state c.args.logins.now) rest

pub returns-in_default-clause-wrote : goal.returns-in_default-clause-wrote
returns-in_default-clause-wrote g c = λ told all rest serving. lays_none _ _

pub returns-in-Login-clause-wrote : goal.returns-in-Login-clause-wrote
returns-in-Login-clause-wrote g c = λ told all rest serving. lays_none _ _

pub returns-in-Task-clause-wrote : goal.returns-in-Task-clause-wrote
returns-in-Task-clause-wrote g c = λ told all rest serving. lays_none _ _

pub returns-in-Unreadable-clause-wrote : goal.returns-in-Unreadable-clause-wrote
returns-in-Unreadable-clause-wrote g c = λ told all rest serving. lays_none _ _

pub returns-in-Logout-clause-wrote : goal.returns-in-Logout-clause-wrote
returns-in-Logout-clause-wrote g c = λ told all rest serving. lays_none _ _

pub returns-in-Command-clause-made : goal.returns-in-Command-clause-made
returns-in-Command-clause-made g c = c.serve_command.ensures.made _

pub returns-in-Login-clause-made : goal.returns-in-Login-clause-made
returns-in-Login-clause-made g c = λ old. c.judge_login.ensures.made c.args.request.now (search rules)

pub returns-in-Task-clause-made : goal.returns-in-Task-clause-made
returns-in-Task-clause-made g c = λ old. c.add_code.ensures.made _

pub returns-in-Unreadable-clause-made : goal.returns-in-Unreadable-clause-made
returns-in-Unreadable-clause-made g c = λ old. c.add_code-in-Unreadable.ensures.made _

pub returns-in-Logout-clause-made : goal.returns-in-Logout-clause-made
returns-in-Logout-clause-made g c = λ old. old

pub returns-in_default-clause-made : goal.returns-in_default-clause-made
returns-in_default-clause-made g c = λ old. old

pub returns-in-Command-clause-placed : goal.returns-in-Command-clause-placed
returns-in-Command-clause-placed g c = c.serve_command.ensures.placed

pub returns-in_default-clause-placed : goal.returns-in_default-clause-placed
returns-in_default-clause-placed g c = λ client same alone start. lays_none _ _

pub returns-in-Login-clause-placed : goal.returns-in-Login-clause-placed
returns-in-Login-clause-placed g c = λ client same alone start. lays_none _ _

pub returns-in-Task-clause-placed : goal.returns-in-Task-clause-placed
returns-in-Task-clause-placed g c = λ client same alone start. lays_none _ _

pub returns-in-Unreadable-clause-placed : goal.returns-in-Unreadable-clause-placed
returns-in-Unreadable-clause-placed g c = λ client same alone start. lays_none _ _

pub returns-in-Logout-clause-placed : goal.returns-in-Logout-clause-placed
returns-in-Logout-clause-placed g c = λ client same alone start. lays_none _ _

pub returns-in-Command-clause-rows : goal.returns-in-Command-clause-rows
returns-in-Command-clause-rows g c = c.serve_command.ensures.rows

pub returns-in-Login-clause-rows : goal.returns-in-Login-clause-rows
returns-in-Login-clause-rows g c = λ none. any_added _ _ _ _ c.judge_login.result (c.judge_login.ensures.row none)

pub returns-in-Task-clause-rows : goal.returns-in-Task-clause-rows
returns-in-Task-clause-rows g c = λ none. on_both c.add_code.result _ _ _ (λ adds at. coded_last _ _ _ _ _ _ adds at) c.add_code.ensures.row c.add_code.ensures.stage

pub returns-in-Unreadable-clause-rows : goal.returns-in-Unreadable-clause-rows
returns-in-Unreadable-clause-rows g c = λ none. on_both c.add_code-in-Unreadable.result _ _ _ (λ adds at. coded_last _ _ _ _ _ _ adds at) c.add_code-in-Unreadable.ensures.row c.add_code-in-Unreadable.ensures.stage

pub returns-in-Logout-clause-rows : goal.returns-in-Logout-clause-rows
returns-in-Logout-clause-rows g c = λ none. none_added _ _ _ _ none

pub returns-in_default-clause-rows : goal.returns-in_default-clause-rows
returns-in_default-clause-rows g c = λ none. none_added _ _ _ _ none

pub returns-in-Command-clause-bears : goal.returns-in-Command-clause-bears
returns-in-Command-clause-bears g c = c.serve_command.ensures.bears

pub returns-in_default-clause-bears : goal.returns-in_default-clause-bears
returns-in_default-clause-bears g c = λ client same alone start. inl refl

pub returns-in-Login-clause-bears : goal.returns-in-Login-clause-bears
returns-in-Login-clause-bears g c = λ client same alone start. row_unlaid _ _ _ _ _ _ _ c.judge_login.result refl

pub returns-in-Task-clause-bears : goal.returns-in-Task-clause-bears
returns-in-Task-clause-bears g c = λ client same alone start. row_unlaid _ _ _ _ _ _ _ c.add_code.result refl

pub returns-in-Unreadable-clause-bears : goal.returns-in-Unreadable-clause-bears
returns-in-Unreadable-clause-bears g c = λ client same alone start. row_unlaid _ _ _ _ _ _ _ c.add_code-in-Unreadable.result refl

pub returns-in-Logout-clause-bears : goal.returns-in-Logout-clause-bears
returns-in-Logout-clause-bears g c = λ client same alone start. inl refl
