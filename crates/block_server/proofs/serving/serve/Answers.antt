use Rattle.block_server.specs.Granting.{login_state}
use Rattle.block_server.proofs.Jointly.{works, works_none, works_on}
use Rattle.std.proofs.Common.{ap, subst, sym}
use Rattle.block_server.specs.Heard.{TellsAll}
use Rattle.block_server.specs.Serving.{Desk}
use Rattle.vio_num.specs.declared.names.UnitId.{UnitId}
use Rattle.crq_session.specs.EndState.{EndState}
use Rattle.block_server.specs.Stage.{is_answered}
use Rattle.block_server.specs.Turns.{UnderWay}
use Rattle.block_server.specs.declared.line.Line.{Line}
use Rattle.block_server.proofs.Agreeing.{agrees_on, agrees_same}
use Rattle.block_server.proofs.Staging.{serve_held, some_front}
use Rattle.block_server.proofs.Advancing.{advances_on, advances_same}
use Rattle.block_server.proofs.Quieting.{on_ok, quiet_on, quiet_stage}
use Rattle.std.proofs.Common.{◌∙◌, None, refl, rules}
use Rattle.block_server.specs.Serving.{desk_of}
use Rattle.block_server.proofs.Denying.{tells_first, tells_next}
use Rattle.block_server.proofs.Onces.{once_on, once_same, once_then}
use Rattle.block_server.proofs.Serves.{desk_is, front_is, once_between}
use Rattle.block_server.proofs.Taking.{lines_on, lines_same, takes_none, takes_on}
use Rattle.block_server.proofs.Keeping.{moved_to}
use Rattle.block_server.specs.Judged.{AreKept, Books, IsFor, gets_row, is_login, keys_of}
use Rattle.block_server.specs.Books.{books_at, next_of}
use Rattle.block_server.proofs.Taking.{waiting_stands}
use Rattle.std.proofs.Common.{◌≡◌, ◌≢◌, false}
use Rattle.std.proofs.Common.{List}
use Rattle.block_server.proofs.Owing.{owes_seen, seen_same}
use Rattle.block_server.proofs.OwingRows.{front_under, owes_moved}
use Rattle.block_server.specs.Judged.{IsAtStage}
use Rattle.block_server.specs.Owed.{HasAnswers, Owing, row_states}
use Rattle.block_server.specs.declared.request.Request.{Request}
use Rattle.block_server.proofs.Cargoes.{cargo_named, shown_same}
use Rattle.block_server.proofs.Hands.{keeps_same}
use Rattle.block_server.proofs.Sendings.{other_unloaded}
use Rattle.block_server.specs.Serving.{IsServing, terms_of}
use Rattle.block_server.specs.Judged.{is_command}
use Rattle.srp_iu.specs.declared.command.Cmd.{Cmd}
use Rattle.block_server.specs.Cargo.{IsAccounted, cargo_at, first_command, seen}
use Rattle.std.proofs.Common.{Option}
use Rattle.block_server.proofs.Ledgers.{explained_then, explains_same}
use Rattle.block_server.specs.Refusals.{ledger_of}
use Rattle.block_server.proofs.Taking.{ended_stands}
use Rattle.block_server.specs.LoginAnswers.{login_answers}
use Rattle.block_server.proofs.Coming.{comes_served}
use Rattle.block_server.proofs.ComingParts.{comes_finished}
use Rattle.block_server.proofs.ComingStages.{comes_noted}
use Rattle.block_server.proofs.Quieting.{still_equal, still_same}
use Rattle.block_server.specs.Steps.{OtherStage}
use Rattle.block_server.proofs.Dropping.{known_within}
use Rattle.std.proofs.Common.{inl, List, subst, sym}
use Rattle.vio_num.specs.declared.history.Grant.{Grant}
use Rattle.block_server.specs.declared.request.Order.TheVariants as orders
use Rattle.block_server.specs.declared.request.Request.{Request}
use Rattle.block_server.specs.declared.service.Service.{Service}
use Rattle.block_server.specs.Talk.{LogsOut, SuitsStage}
use Rattle.block_server.proofs.Servicing.{first_same, no_front, serve_first}
use Rattle.block_server.specs.Causes.{told_to}
use Rattle.block_server.specs.Ranges.{MayWrite}
use Rattle.block_server.proofs.RangeLaws.{lays_none, lays_on, prepared_within, wider_answer}
use Rattle.block_server.specs.Standing.{HasAnswerAt}
use Rattle.block_server.specs.declared.service.Stage.{Stage}
use Rattle.block_server.proofs.Leaving.{leaves_first}
use Rattle.block_server.proofs.Reading.{known_same}
use Rattle.block_server.specs.Standing.{stood}
use Rattle.block_server.proofs.LastRows.{adds_first}
use Rattle.block_server.specs.Judged.{row_in}
use Rattle.std.proofs.Common.{inr}
use Rattle.block_server.proofs.DoingAsides.{doing_noted}
use Rattle.block_server.proofs.DoingAnswers.{rests_free, turn_from, turn_none, turn_one}
use Rattle.block_server.proofs.DoingServes.{does_log_out, does_prepare, logs_out_first, made_alone, pending_on, prepares, turn_then}
use Rattle.block_server.proofs.Taking.{id_stands}
use Rattle.block_server.specs.Receipts.{is_ended}
use Rattle.block_server.proofs.HeardOuts.{busy_less, busy_same, heard_behind, heard_equal, heard_served}
use Rattle.block_server.specs.Talk.{to_come}
use Rattle.block_server.proofs.ServedOuts.{none_pending, serve_out, serves_first, serves_out}
use Rattle.block_server.proofs.serving.serve.Goals as goal

pub returns-clause-advances : goal.returns-clause-advances
returns-clause-advances g c = advances_on _ _ _ c.prepare.ensures.advances c.answer.ensures.advances

pub returns-clause-quiet : goal.returns-clause-quiet
returns-clause-quiet g c =
    on_ok c.answer.result _ _ (quiet_on _ _ _ _ _ _
    (quiet_stage c.args.unit.now (record c.args.unit.now { service = c.prepare.new.service }) c.note_stage.new.unit _ _ c.prepare.ensures.queue
    (λ moved. let noted = c.note_stage.ensures.moved moved in (noted.0, noted.1 ∙ c.how_far-before.ensures))
    c.note_stage.ensures.way refl refl refl)) c.answer.ensures.quiet

pub returns-in_default-clause-once : goal.returns-in_default-clause-once
returns-in_default-clause-once g c = λ told all serving. once_same _ _ _ _ _ _ refl refl refl _ serving

pub returns-in_err-make_room-clause-once : goal.returns-in_err-make_room-clause-once
returns-in_err-make_room-clause-once g c = λ told all serving. once_same _ _ _ _ _ _ refl c.make_room.ensures.lists.history refl _ serving

pub returns-in-Logout-clause-once : goal.returns-in-Logout-clause-once
returns-in-Logout-clause-once g c = λ told all.
    once_on _ _ _ _ _ _ _ _ _ (once_same _ _ _ _ _ _ refl c.make_room.ensures.lists.history refl)
    (c.log_out.ensures.once (g.S.Site.state c.args.site.now).queue) _

pub returns-in_err-prepare-clause-once : goal.returns-in_err-prepare-clause-once
returns-in_err-prepare-clause-once g c = λ told all.
    let unit = c.args.unit.now in
    let front = front_is _ _ c.in-Some.ensures.item.3 in
    once_between _ _ _ _ _ _ _ _
    (desk_is unit.id (login_state unit.logins) unit.service None _ _ _ c.requires.none front.1)
    (desk_is unit.id (login_state unit.logins) c.prepare.new.service None _ _ _ c.requires.none front.1)
    _ _ (c.prepare.ensures.once told all front.0)

pub returns-clause-once : goal.returns-clause-once
returns-clause-once g c = λ told all.
    let unit = c.args.unit.now in
    let front = front_is _ _ c.in-Some.ensures.item.3 in
    once_then _ _ _ _ _ _ _ _ _ _ _ _
    (once_between _ _ _ (desk_of c.note_stage.new.unit) _ _ _ _
    (desk_is unit.id (login_state unit.logins) unit.service None _ _ _ c.requires.none front.1)
    (c.note_stage.ensures.desk ∙ desk_is unit.id (login_state unit.logins) c.prepare.new.service None _ _ _ c.requires.none front.1)
    _ _ (c.prepare.ensures.once told (tells_first told unit.id (g.S.Site.state c.args.site.now) (g.S.Site.state c.prepare.new.site) (g.S.Site.state c.answer.new.site) c.answer.ensures.advances all) front.0))
    (c.answer.ensures.once _ (subst (λ (id : UnitId). TellsAll told id (g.S.Site.state c.prepare.new.site) (g.S.Site.state c.answer.new.site)) (sym (ap (λ (desk : Desk). desk.id) c.note_stage.ensures.desk))
    (tells_next told unit.id (g.S.Site.state c.args.site.now) (g.S.Site.state c.prepare.new.site) (g.S.Site.state c.answer.new.site) c.prepare.ensures.advances all)))

pub returns-in_default-clause-agrees : goal.returns-in_default-clause-agrees
returns-in_default-clause-agrees g c = λ is. is

pub returns-in_err-make_room-clause-agrees : goal.returns-in_err-make_room-clause-agrees
returns-in_err-make_room-clause-agrees g c = λ is. is

pub returns-in-Logout-clause-agrees : goal.returns-in-Logout-clause-agrees
returns-in-Logout-clause-agrees g c = agrees_same _ _ _ _ c.log_out.ensures.handshake refl

pub returns-in_err-prepare-clause-agrees : goal.returns-in_err-prepare-clause-agrees
returns-in_err-prepare-clause-agrees g c = agrees_same _ _ _ _ refl (ap (λ (q : EndState). q.registered) c.prepare.ensures.queue)

pub returns-clause-agrees : goal.returns-clause-agrees
returns-clause-agrees g c = agrees_on _ _ _ (agrees_same _ _ _ _ (ap (λ (line : Line). line.handshake) c.note_stage.ensures.line) (ap (λ (q : EndState). q.registered) c.prepare.ensures.queue)) c.answer.ensures.agrees

pub returns-in_err-make_room-clause-nothing : goal.returns-in_err-make_room-clause-nothing
returns-in_err-make_room-clause-nothing g c = λ empty. let front = front_is _ _ c.in-Some.ensures.item.3 in some_front _ _ _ _ front.1 empty

pub returns-in_err-make_room-clause-still : goal.returns-in_err-make_room-clause-still
returns-in_err-make_room-clause-still g c = λ empty. let front = front_is _ _ c.in-Some.ensures.item.3 in some_front _ _ _ _ front.1 empty

pub returns-in-Logout-clause-nothing : goal.returns-in-Logout-clause-nothing
returns-in-Logout-clause-nothing g c = λ empty. let front = front_is _ _ c.in-Some.ensures.item.3 in some_front _ _ _ _ front.1 empty

pub returns-in-Logout-clause-still : goal.returns-in-Logout-clause-still
returns-in-Logout-clause-still g c = λ empty. let front = front_is _ _ c.in-Some.ensures.item.3 in some_front _ _ _ _ front.1 empty

pub returns-in_err-prepare-clause-nothing : goal.returns-in_err-prepare-clause-nothing
returns-in_err-prepare-clause-nothing g c = λ empty. let front = front_is _ _ c.in-Some.ensures.item.3 in some_front _ _ _ _ front.1 empty

pub returns-in_err-prepare-clause-still : goal.returns-in_err-prepare-clause-still
returns-in_err-prepare-clause-still g c = λ empty. let front = front_is _ _ c.in-Some.ensures.item.3 in some_front _ _ _ _ front.1 empty

pub returns-clause-nothing : goal.returns-clause-nothing
returns-clause-nothing g c = λ empty. let front = front_is _ _ c.in-Some.ensures.item.3 in some_front _ _ _ _ front.1 empty

pub returns-clause-still : goal.returns-clause-still
returns-clause-still g c = λ empty. let front = front_is _ _ c.in-Some.ensures.item.3 in some_front _ _ _ _ front.1 empty

pub returns-clause-waits : goal.returns-clause-waits
returns-clause-waits g c =
    on_ok c.answer.result _ _
    (λ waits moved pending.
    serve_held _ (g.S.Site.state c.args.site.now) (g.S.Site.state c.prepare.new.site) (g.S.Site.state c.answer.new.site) _
    c.prepare.ensures.advances c.answer.ensures.advances c.prepare.ensures.queue (c.in_ok-prepare.ensures.went (λ is. search rules))
    (λ answered. waits moved (λ empty. pending (sym (ap (λ (way : UnderWay). way.pending) c.note_stage.ensures.way) ∙ empty))
    (ap is_answered (ap (λ (desk : Desk). desk.stage) c.note_stage.ensures.desk) ∙ answered)))
    c.answer.ensures.waits

pub returns-in_default-clause-intake : goal.returns-in_default-clause-intake
returns-in_default-clause-intake g c = takes_none _ _ _ _ _ _ refl (advances_same _) refl (lines_same _ _ _ _ refl)

pub returns-in_err-make_room-clause-intake : goal.returns-in_err-make_room-clause-intake
returns-in_err-make_room-clause-intake g c = takes_none _ _ _ _ _ _ refl (advances_same _) refl (lines_same _ _ _ _ c.make_room.ensures.lists.grants)

pub returns-in-Logout-clause-intake : goal.returns-in-Logout-clause-intake
returns-in-Logout-clause-intake g c = takes_none _ _ _ _ _ _ c.log_out.ensures.stands (advances_same _) refl
    (lines_on _ _ _ _ _ _ _ refl refl (lines_same _ _ _ _ c.make_room.ensures.lists.grants) c.log_out.ensures.lines)

pub returns-in_err-prepare-clause-intake : goal.returns-in_err-prepare-clause-intake
returns-in_err-prepare-clause-intake g c = takes_none _ _ _ _ _ _ refl c.prepare.ensures.advances c.prepare.ensures.passes (lines_same _ _ _ _ c.prepare.ensures.grants)

pub returns-clause-intake : goal.returns-clause-intake
returns-clause-intake g c = takes_on _ _ _ _ _ _ _ _ _ (takes_none _ _ _ _ _ _ c.note_stage.ensures.stands c.prepare.ensures.advances c.prepare.ensures.passes (lines_same _ _ _ _ c.prepare.ensures.grants))
    c.answer.ensures.intake

pub returns-in_default-clause-books : goal.returns-in_default-clause-books
returns-in_default-clause-books g c = λ judged is. is

pub returns-in_err-make_room-clause-books : goal.returns-in_err-make_room-clause-books
returns-in_err-make_room-clause-books g c = λ judged is. moved_to _ _ judged refl refl refl refl refl refl refl refl refl (ap keys_of c.make_room.ensures.lists.history) c.make_room.ensures.lists.grants refl refl refl is

pub returns-in-Logout-clause-books : goal.returns-in-Logout-clause-books
returns-in-Logout-clause-books g c = λ judged is.
    let front = front_is _ _ c.in-Some.ensures.item.3 in
    let other : is_login c.in-Some.request.now.order ≡ false = search rules in
    let none : gets_row c.in-Some.request.now.order ≡ false = search rules in
    moved_to _ _ judged refl (sym c.session.ensures) (ap (λ w. next_of w (g.S.Site.state c.args.site.now).queue) (waiting_stands _ _ c.log_out.ensures.stands)) refl refl refl refl refl refl refl refl refl refl refl
    (c.log_out.ensures.books (next_of c.args.unit.now.waiting (g.S.Site.state c.args.site.now).queue) c.in-Some.request.now front.0 front.1 other none judged
    (moved_to _ _ judged refl c.session.ensures refl refl refl refl refl refl refl (ap keys_of c.make_room.ensures.lists.history) c.make_room.ensures.lists.grants refl refl refl is))

pub returns-in_err-prepare-clause-books : goal.returns-in_err-prepare-clause-books
returns-in_err-prepare-clause-books g c = λ judged is.
    let front = front_is _ _ c.in-Some.ensures.item.3 in
    let books = books_at c.args.unit.now (g.S.Site.state c.args.site.now) c.args.records.now in
    let for : IsFor books c.args.unit.now.id (g.S.Site.state c.args.site.now).queue.last_session c.in-Some.request.now =
    record { id_is = refl; session_is = refl; rest = front.0; front = front.1; none = c.requires.none } in
    let served = c.prepare.ensures.books books for refl judged is in
    moved_to _ _ judged refl (ap (λ (q : EndState). q.last_session) c.prepare.ensures.queue) (ap (next_of c.args.unit.now.waiting) c.prepare.ensures.queue) refl refl refl refl refl refl refl c.prepare.ensures.grants refl refl refl served

pub returns-clause-books : goal.returns-clause-books
returns-clause-books g c = λ judged is.
    let front = front_is _ _ c.in-Some.ensures.item.3 in
    let books = books_at c.args.unit.now (g.S.Site.state c.args.site.now) c.args.records.now in
    let for : IsFor books c.args.unit.now.id (g.S.Site.state c.args.site.now).queue.last_session c.in-Some.request.now =
    record { id_is = refl; session_is = refl; rest = front.0; front = front.1; none = c.requires.none } in
    let served = c.prepare.ensures.books books for refl judged is in
    let queue = (g.S.Site.state c.prepare.new.site).queue in
    c.answer.ensures.books judged
    (subst (λ (b : Books). AreKept b judged) (sym (c.note_stage.ensures.books queue.last_session (next_of c.note_stage.new.unit.waiting queue) c.prepare.new.records))
    (moved_to _ _ judged refl (ap (λ (q : EndState). q.last_session) c.prepare.ensures.queue) (ap (λ w. next_of w queue) (waiting_stands _ _ c.note_stage.ensures.stands) ∙ ap (next_of c.args.unit.now.waiting) c.prepare.ensures.queue) refl refl refl refl refl refl refl c.prepare.ensures.grants refl refl refl served))

pub returns-in_default-clause-passes : goal.returns-in_default-clause-passes
returns-in_default-clause-passes g c = refl

pub returns-in_err-make_room-clause-passes : goal.returns-in_err-make_room-clause-passes
returns-in_err-make_room-clause-passes g c = refl

pub returns-in-Logout-clause-passes : goal.returns-in-Logout-clause-passes
returns-in-Logout-clause-passes g c = refl

pub returns-in_err-prepare-clause-passes : goal.returns-in_err-prepare-clause-passes
returns-in_err-prepare-clause-passes g c = c.prepare.ensures.passes

pub returns-clause-passes : goal.returns-clause-passes
returns-clause-passes g c = c.answer.ensures.passes ∙ c.prepare.ensures.passes

pub returns-in_default-clause-answers : goal.returns-in_default-clause-answers
returns-in_default-clause-answers g c = λ judged is alone has. has

pub returns-in_err-make_room-clause-answers : goal.returns-in_err-make_room-clause-answers
returns-in_err-make_room-clause-answers g c = λ judged is alone has. owes_seen _ _ (seen_same _ _ refl) refl refl refl refl refl (ap row_states c.make_room.ensures.lists.history) c.make_room.ensures.lists.grants has

pub returns-in-Logout-clause-answers : goal.returns-in-Logout-clause-answers
returns-in-Logout-clause-answers g c = λ judged is alone has.
    let front = front_is _ _ c.in-Some.ensures.item.3 in
    let none : gets_row c.in-Some.request.now.order ≡ false = search rules in
    c.log_out.ensures.answers (g.S.Site.state c.args.site.now).queue c.in-Some.request.now front.0 front.1 none
    (owes_seen _ _ (seen_same _ _ refl) refl refl refl refl refl (ap row_states c.make_room.ensures.lists.history) c.make_room.ensures.lists.grants has)

pub returns-in_err-prepare-clause-answers : goal.returns-in_err-prepare-clause-answers
returns-in_err-prepare-clause-answers g c = λ judged is alone has.
    let front = front_is _ _ c.in-Some.ensures.item.3 in
    owes_moved _ _ (g.S.Site.state c.args.site.now).queue.last_session _ c.in-Some.request.now front.0 c.args.records.now.history.items c.prepare.new.records.history.items refl refl front.1 refl
    (λ gets. front_under _ judged _ front.0 is front.1 gets) (λ some. is.logins.granted some)
    (c.prepare.ensures.moves _ front.0 (subst (λ (pending : List Request). IsAtStage c.args.unit.now.logins.current pending c.args.unit.now.service.stage) front.1 is.stage))
    refl refl refl refl c.prepare.ensures.queue c.prepare.ensures.grants has

pub returns-clause-answers : goal.returns-clause-answers
returns-clause-answers g c = λ judged is alone has.
    let front = front_is _ _ c.in-Some.ensures.item.3 in
    let books = books_at c.args.unit.now (g.S.Site.state c.args.site.now) c.args.records.now in
    let for : IsFor books c.args.unit.now.id (g.S.Site.state c.args.site.now).queue.last_session c.in-Some.request.now =
    record { id_is = refl; session_is = refl; rest = front.0; front = front.1; none = c.requires.none } in
    let served = c.prepare.ensures.books books for refl judged is in
    let queue = (g.S.Site.state c.prepare.new.site).queue in
    c.answer.ensures.answers judged
    (subst (λ (b : Books). AreKept b judged) (sym (c.note_stage.ensures.books queue.last_session (next_of c.note_stage.new.unit.waiting queue) c.prepare.new.records))
    (moved_to _ _ judged refl (ap (λ (q : EndState). q.last_session) c.prepare.ensures.queue) (ap (λ w. next_of w queue) (waiting_stands _ _ c.note_stage.ensures.stands) ∙ ap (next_of c.args.unit.now.waiting) c.prepare.ensures.queue) refl refl refl refl refl refl refl c.prepare.ensures.grants refl refl refl served)) alone
    (subst (λ (o : Owing). HasAnswers o) (sym (c.note_stage.ensures.owing queue c.prepare.new.records))
    (owes_moved _ _ (g.S.Site.state c.args.site.now).queue.last_session _ c.in-Some.request.now front.0 c.args.records.now.history.items c.prepare.new.records.history.items refl refl front.1 refl
    (λ gets. front_under _ judged _ front.0 is front.1 gets) (λ some. is.logins.granted some)
    (c.prepare.ensures.moves _ front.0 (subst (λ (pending : List Request). IsAtStage c.args.unit.now.logins.current pending c.args.unit.now.service.stage) front.1 is.stage))
    refl refl refl refl c.prepare.ensures.queue c.prepare.ensures.grants has))

pub returns-in_default-clause-judges : goal.returns-in_default-clause-judges
returns-in_default-clause-judges g c = (works_none _ _ _ _ _ _ refl refl refl (advances_same _) refl (lines_same _ _ _ _ refl) (λ judged is. is)).judges

pub returns-in_err-make_room-clause-judges : goal.returns-in_err-make_room-clause-judges
returns-in_err-make_room-clause-judges g c = (works_none _ _ _ _ _ _ refl refl refl (advances_same _) refl (lines_same _ _ _ _ c.make_room.ensures.lists.grants) (returns-in_err-make_room-clause-books g c)).judges

pub returns-in-Logout-clause-judges : goal.returns-in-Logout-clause-judges
returns-in-Logout-clause-judges g c = (works_none _ _ _ _ _ _ c.log_out.ensures.stands refl refl (advances_same _) refl
    (lines_on _ _ _ _ _ _ _ refl refl (lines_same _ _ _ _ c.make_room.ensures.lists.grants) c.log_out.ensures.lines) (returns-in-Logout-clause-books g c)).judges

pub returns-in_err-prepare-clause-judges : goal.returns-in_err-prepare-clause-judges
returns-in_err-prepare-clause-judges g c = (works_none _ _ _ _ _ _ refl refl refl c.prepare.ensures.advances c.prepare.ensures.passes (lines_same _ _ _ _ c.prepare.ensures.grants) (returns-in_err-prepare-clause-books g c)).judges

pub returns-clause-judges : goal.returns-clause-judges
returns-clause-judges g c =
    let front = front_is _ _ c.in-Some.ensures.item.3 in
    let books = books_at c.args.unit.now (g.S.Site.state c.args.site.now) c.args.records.now in
    let for : IsFor books c.args.unit.now.id (g.S.Site.state c.args.site.now).queue.last_session c.in-Some.request.now =
    record { id_is = refl; session_is = refl; rest = front.0; front = front.1; none = c.requires.none } in
    let queue = (g.S.Site.state c.prepare.new.site).queue in
    (works_on _ _ _ _ _ _ _ _ _
    (works_none _ _ _ _ _ (books_at c.note_stage.new.unit (g.S.Site.state c.prepare.new.site) c.prepare.new.records) c.note_stage.ensures.stands refl refl c.prepare.ensures.advances c.prepare.ensures.passes (lines_same _ _ _ _ c.prepare.ensures.grants)
    (λ judged is. subst (λ (b : Books). AreKept b judged) (sym (c.note_stage.ensures.books queue.last_session (next_of c.note_stage.new.unit.waiting queue) c.prepare.new.records))
    (moved_to _ _ judged refl (ap (λ (q : EndState). q.last_session) c.prepare.ensures.queue) (ap (λ w. next_of w queue) (waiting_stands _ _ c.note_stage.ensures.stands) ∙ ap (next_of c.args.unit.now.waiting) c.prepare.ensures.queue) refl refl refl refl refl refl refl c.prepare.ensures.grants refl refl refl
    (c.prepare.ensures.books books for refl judged is))))
    (works _ _ _ _ _ _ refl refl c.answer.ensures.intake c.answer.ensures.judges)).judges

pub returns-in_default-clause-cargo : goal.returns-in_default-clause-cargo
returns-in_default-clause-cargo g c = λ told asked all serving hand. hand

pub returns-in_err-make_room-clause-cargo : goal.returns-in_err-make_room-clause-cargo
returns-in_err-make_room-clause-cargo g c = λ told asked all serving hand. keeps_same _ _ (shown_same _ _ _ _ _ _ refl c.make_room.ensures.lists.history) told asked hand

pub returns-in-Logout-clause-cargo : goal.returns-in-Logout-clause-cargo
returns-in-Logout-clause-cargo g c = λ told asked all serving hand.
    let unit = c.args.unit.now in
    let front = front_is _ _ c.in-Some.ensures.item.3 in
    let desk = desk_is unit.id (login_state unit.logins) unit.service None _ _ _ c.requires.none front.1 in
    let at = subst (λ (d : Desk). IsServing (terms_of told c.args.disk.now.count) d c.args.records.now.history.items) desk serving in
    let other : is_command c.in-Some.request.now.order ≡ false = search rules in
    c.log_out.ensures.cargo _ _ refl (other_unloaded (terms_of told c.args.disk.now.count) unit.id (login_state unit.logins) unit.service c.in-Some.request.now front.0 c.args.records.now.history.items other at)
    told asked (keeps_same _ _ (shown_same _ _ _ _ _ _ refl c.make_room.ensures.lists.history) told asked hand)

pub returns-in_err-prepare-clause-cargo : goal.returns-in_err-prepare-clause-cargo
returns-in_err-prepare-clause-cargo g c = λ told asked all serving hand.
    let unit = c.args.unit.now in
    let front = front_is _ _ c.in-Some.ensures.item.3 in
    let desk = desk_is unit.id (login_state unit.logins) unit.service None _ _ _ c.requires.none front.1 in
    let at = subst (λ (d : Desk). IsServing (terms_of told c.args.disk.now.count) d c.args.records.now.history.items) desk serving in
    let command = ap first_command front.1 in
    subst (λ (k : Option Cmd). IsAccounted told asked (cargo_at unit.id c.prepare.new.service (seen k (g.S.Site.state c.prepare.new.site)) c.prepare.new.records.history.items)) (sym command)
    (c.prepare.ensures.cargo told asked all front.0 at
    (subst (λ (k : Option Cmd). IsAccounted told asked (cargo_at unit.id unit.service (seen k (g.S.Site.state c.args.site.now)) c.args.records.now.history.items)) command hand))

pub returns-clause-cargo : goal.returns-clause-cargo
returns-clause-cargo g c = λ told asked all serving hand.
    let unit = c.args.unit.now in
    let front = front_is _ _ c.in-Some.ensures.item.3 in
    let desk = desk_is unit.id (login_state unit.logins) unit.service None _ _ _ c.requires.none front.1 in
    let at = subst (λ (d : Desk). IsServing (terms_of told c.args.disk.now.count) d c.args.records.now.history.items) desk serving in
    let command = ap first_command front.1 in
    let noted = ap (λ (d : Desk). first_command d.pending) c.note_stage.ensures.desk in
    c.answer.ensures.cargo told asked
    (subst (IsAccounted told asked) (sym (cargo_named _ _ _ _ _ _ c.note_stage.ensures.id c.note_stage.ensures.service))
    (subst (λ (k : Option Cmd). IsAccounted told asked (cargo_at unit.id c.prepare.new.service (seen k (g.S.Site.state c.prepare.new.site)) c.prepare.new.records.history.items))
    (sym (noted ∙ command))
    (c.prepare.ensures.cargo told asked (tells_first told unit.id (g.S.Site.state c.args.site.now) (g.S.Site.state c.prepare.new.site) (g.S.Site.state c.answer.new.site) c.answer.ensures.advances all) front.0 at
    (subst (λ (k : Option Cmd). IsAccounted told asked (cargo_at unit.id unit.service (seen k (g.S.Site.state c.args.site.now)) c.args.records.now.history.items)) command hand))))

pub returns-in_default-clause-refuses : goal.returns-in_default-clause-refuses
returns-in_default-clause-refuses g c = λ told all serving front knows is. is

pub returns-in_err-make_room-clause-refuses : goal.returns-in_err-make_room-clause-refuses
returns-in_err-make_room-clause-refuses g c = λ told all serving front knows is.
    explains_same (ledger_of c.args.unit.now (g.S.Site.state c.args.site.now) c.args.records.now) _ refl refl refl refl refl c.make_room.ensures.lists.grants refl refl refl told c.args.unit.now.id front is

pub returns-in-Logout-clause-refuses : goal.returns-in-Logout-clause-refuses
returns-in-Logout-clause-refuses g c = λ told all serving begun knows is.
    let front = front_is _ _ c.in-Some.ensures.item.3 in
    let other : is_login c.in-Some.request.now.order ≡ false = search rules in
    c.log_out.ensures.refuses (g.S.Site.state c.args.site.now).queue.last_session (g.S.Site.state c.args.site.now).queue.taken (login_answers (g.S.Site.state c.args.site.now).queue.sent) c.in-Some.request.now front.0 c.session.ensures front.1 other told c.args.unit.now.id begun
    (explains_same (ledger_of c.args.unit.now (g.S.Site.state c.args.site.now) c.args.records.now) (ledger_of c.args.unit.now (g.S.Site.state c.args.site.now) c.make_room.new.self) refl refl refl refl refl c.make_room.ensures.lists.grants refl refl refl told c.args.unit.now.id begun is)

pub returns-in_err-prepare-clause-refuses : goal.returns-in_err-prepare-clause-refuses
returns-in_err-prepare-clause-refuses g c = λ told all serving front knows is.
    explains_same (ledger_of c.args.unit.now (g.S.Site.state c.args.site.now) c.args.records.now) _ (ap (λ (q : EndState). q.last_session) c.prepare.ensures.queue) (ap (λ (q : EndState). q.taken) c.prepare.ensures.queue) refl refl refl c.prepare.ensures.grants (ap (λ (q : EndState). login_answers q.sent) c.prepare.ensures.queue) refl refl
    told c.args.unit.now.id front is

pub returns-clause-refuses : goal.returns-clause-refuses
returns-clause-refuses g c = λ told all serving begun knows is.
    let unit = c.args.unit.now in
    let front = front_is _ _ c.in-Some.ensures.item.3 in
    let old = g.S.Site.state c.args.site.now in
    let mid = g.S.Site.state c.prepare.new.site in
    let new = g.S.Site.state c.answer.new.site in
    let prepared =
    once_between _ _ _ (desk_of c.note_stage.new.unit) _ _ _ _
    (desk_is unit.id (login_state unit.logins) unit.service None _ _ _ c.requires.none front.1)
    (c.note_stage.ensures.desk ∙ desk_is unit.id (login_state unit.logins) c.prepare.new.service None _ _ _ c.requires.none front.1)
    _ _ (c.prepare.ensures.once told (tells_first told unit.id old mid new c.answer.ensures.advances all) front.0) serving in
    explained_then _ _ (desk_of unit) (desk_of c.note_stage.new.unit) _ _ _ _ begun (ledger_of unit old c.args.records.now) (ledger_of c.note_stage.new.unit mid c.prepare.new.records) _ prepared
    (explains_same (ledger_of unit old c.args.records.now) (ledger_of c.note_stage.new.unit mid c.prepare.new.records)
    (ap (λ (q : EndState). q.last_session) c.prepare.ensures.queue) (ap (λ (q : EndState). q.taken) c.prepare.ensures.queue)
    (waiting_stands _ _ c.note_stage.ensures.stands) (ap (λ (way : UnderWay). way.pending) c.note_stage.ensures.way) (ended_stands _ _ c.note_stage.ensures.stands)
    c.prepare.ensures.grants (ap (λ (q : EndState). login_answers q.sent) c.prepare.ensures.queue) (ap (λ (d : Desk). d.id) c.note_stage.ensures.desk) (ap (λ (d : Desk). d.logins.current) c.note_stage.ensures.desk) told unit.id begun)
    (λ serving. c.answer.ensures.refuses (terms_of told c.prepare.new.disk.count)
    (subst (λ (id : UnitId). TellsAll told id mid new) (sym (ap (λ (desk : Desk). desk.id) c.note_stage.ensures.desk)) (tells_next told unit.id old mid new c.prepare.ensures.advances all)) serving begun
    (known_within g.S.Site.link_shared unit.line.handshake c.note_stage.new.unit.line.handshake old mid new new begun.closed c.prepare.ensures.advances (advances_same new)
    (agrees_same _ _ _ _ (ap (λ (line : Line). line.handshake) c.note_stage.ensures.line) (ap (λ (q : EndState). q.registered) c.prepare.ensures.queue)) knows)) is

pub returns-in-Logout-clause-comes : goal.returns-in-Logout-clause-comes
returns-in-Logout-clause-comes g c =
    let front = front_is _ _ c.in-Some.ensures.item.3 in
    comes_finished OtherStage c.args.unit.now c.log_out.new.unit _ _ (still_same _) (waiting_stands _ _ c.log_out.ensures.stands) c.in-Some.request.now front.0 front.1 c.log_out.ensures.pending

pub returns-clause-comes : goal.returns-clause-comes
returns-clause-comes g c =
    on_ok c.answer.result _ _ (comes_served c.args.unit.now c.note_stage.new.unit c.answer.new.unit _ _ _
    (comes_noted c.args.unit.now (record c.args.unit.now { service = c.prepare.new.service }) c.note_stage.new.unit _ _ (still_equal _ _ c.prepare.ensures.queue)
    c.note_stage.ensures.way refl refl refl c.prepare.ensures.entry c.how_far-before.result c.how_far-before.ensures c.note_stage.ensures.noted)) c.answer.ensures.comes

pub returns-in_default-clause-serves : goal.returns-in_default-clause-serves
returns-in_default-clause-serves g c = λ request rest servable. absurd (no_front _ request rest servable.pending (search rules))

pub returns-in-Logout-clause-serves : goal.returns-in-Logout-clause-serves
returns-in-Logout-clause-serves g c = λ request rest servable.
    let front = front_is _ _ c.in-Some.ensures.item.3 in
    let asked : c.in-Some.request.now.order ≡ orders.Logout = search rules in
    let same = first_same _ c.in-Some.request.now request front.0 rest front.1 servable.pending in
    inl (
      ap (λ (r : Request). r.order) (sym same) ∙ asked,
      subst (λ (l : List Grant). LogsOut c.args.unit.now c.log_out.new.unit (g.S.Site.state c.args.site.now).queue (g.S.Site.state c.args.site.now).queue l c.log_out.new.records.grants.items) c.make_room.ensures.lists.grants
          (c.log_out.ensures.out (g.S.Site.state c.args.site.now).queue c.session.ensures),
    )

pub returns-clause-serves : goal.returns-clause-serves
returns-clause-serves g c = λ request rest servable.
    let front = front_is _ _ c.in-Some.ensures.item.3 in
    let other : c.in-Some.request.now.order ≢ orders.Logout = search rules in
    serve_first _ c.args.unit.now c.note_stage.new.unit c.answer.new.unit (g.S.Site.state c.args.site.now) (g.S.Site.state c.prepare.new.site) (g.S.Site.state c.answer.new.site) _ _ _ c.in-Some.request.now request front.0 rest c.prepare.new.service.stage
    c.answer.result servable front.1 c.prepare.ensures.advances c.prepare.ensures.queue c.note_stage.ensures.id c.note_stage.ensures.pending c.note_stage.ensures.line (waiting_stands _ _ c.note_stage.ensures.stands) c.note_stage.ensures.logins
    (ap (λ (s : Service). s.stage) c.note_stage.ensures.service) c.prepare.ensures.grants (c.in_ok-prepare.ensures.went (λ is. search rules))
    (c.in_ok-prepare.ensures.suits (subst (SuitsStage c.args.unit.now.logins.current c.in-Some.request.now.order) (sym servable.stage) tt)) other
    (λ outcome at parts link apart on may room. c.answer.ensures.serves request rest outcome at parts link apart on may room)

pub returns-in_default-clause-wrote : goal.returns-in_default-clause-wrote
returns-in_default-clause-wrote g c = λ told all serving request rest parts. lays_none _ _

pub returns-in_err-make_room-clause-wrote : goal.returns-in_err-make_room-clause-wrote
returns-in_err-make_room-clause-wrote g c = λ told all serving request rest parts. lays_none _ _

pub returns-in-Logout-clause-wrote : goal.returns-in-Logout-clause-wrote
returns-in-Logout-clause-wrote g c = λ told all serving request rest parts. lays_none _ _

pub returns-in_err-prepare-clause-wrote : goal.returns-in_err-prepare-clause-wrote
returns-in_err-prepare-clause-wrote g c = λ told all serving request rest parts.
    let unit = c.args.unit.now in
    let front = front_is _ _ c.in-Some.ensures.item.3 in
    let desk = desk_is unit.id (login_state unit.logins) unit.service None _ _ _ c.requires.none front.1 in
    let at = subst (λ (d : Desk). IsServing (terms_of told c.args.disk.now.count) d c.args.records.now.history.items) desk serving in
    prepared_within (told_to told unit.id) c.in-Some.request.now request _ _ (first_same _ c.in-Some.request.now request front.0 rest front.1 parts)
    (c.prepare.ensures.wrote told all front.0 at)

pub returns-clause-wrote : goal.returns-clause-wrote
returns-clause-wrote g c = λ told all serving request rest parts.
    let unit = c.args.unit.now in
    let front = front_is _ _ c.in-Some.ensures.item.3 in
    let desk = desk_is unit.id (login_state unit.logins) unit.service None _ _ _ c.requires.none front.1 in
    let at = subst (λ (d : Desk). IsServing (terms_of told c.args.disk.now.count) d c.args.records.now.history.items) desk serving in
    lays_on (MayWrite (told_to told unit.id) request) _ _ _
    (prepared_within (told_to told unit.id) c.in-Some.request.now request _ _ (first_same _ c.in-Some.request.now request front.0 rest front.1 parts)
    (c.prepare.ensures.wrote told (tells_first told unit.id (g.S.Site.state c.args.site.now) (g.S.Site.state c.prepare.new.site) (g.S.Site.state c.answer.new.site) c.answer.ensures.advances all) front.0 at))
    (wider_answer (told_to told unit.id) request _ _ (c.answer.ensures.wrote request rest (c.note_stage.ensures.pending ∙ parts)))

pub returns-in_default-clause-leaves : goal.returns-in_default-clause-leaves
returns-in_default-clause-leaves g c = λ request rest servable other. absurd (no_front _ request rest servable.pending (search rules))

pub returns-in-Logout-clause-leaves : goal.returns-in-Logout-clause-leaves
returns-in-Logout-clause-leaves g c = λ request rest servable other.
    let front = front_is _ _ c.in-Some.ensures.item.3 in
    let asked : c.in-Some.request.now.order ≡ orders.Logout = search rules in
    let same = first_same _ c.in-Some.request.now request front.0 rest front.1 servable.pending in
    absurd (other (ap (λ (r : Request). r.order) (sym same) ∙ asked))

pub returns-clause-leaves : goal.returns-clause-leaves
returns-clause-leaves g c = λ request rest servable other.
    let front = front_is _ _ c.in-Some.ensures.item.3 in
    leaves_first _ c.args.unit.now c.note_stage.new.unit c.answer.new.unit c.args.unit.now.id (g.S.Site.state c.args.site.now) (g.S.Site.state c.prepare.new.site) (g.S.Site.state c.answer.new.site) _ _
    c.args.records.now.history.items c.prepare.new.records.history.items c.answer.new.records.history.items c.in-Some.request.now request front.0 rest
    c.prepare.new.service.stage c.prepare.new.service.answer.items c.answer.result servable front.1 c.prepare.ensures.advances c.answer.ensures.advances c.prepare.ensures.queue c.note_stage.ensures.pending
    (ap (λ (s : Service). s.stage) c.note_stage.ensures.service) (ap (λ (s : Service). s.answer.items) c.note_stage.ensures.service) (c.in_ok-prepare.ensures.went (λ is. search rules))
    (c.in_ok-prepare.ensures.suits (subst (SuitsStage c.args.unit.now.logins.current c.in-Some.request.now.order) (sym servable.stage) tt)) other
    (c.in_ok-prepare.ensures.made (subst (λ (stage : Stage). HasAnswerAt (login_state c.args.unit.now.logins) c.in-Some.request.now stage c.args.unit.now.service.answer.items) (sym servable.stage) tt))
    (c.in_ok-prepare.ensures.rows (ap row_in servable.stage)) c.answer.ensures.rows
    (c.in_ok-prepare.ensures.bears (g.S.Site.state c.args.site.now).client (known_same (g.S.Site.state c.args.site.now).client) servable.apart servable.stage)
    (λ outcome at parts link apart on may room. c.answer.ensures.serves request rest outcome at parts link apart on may room)
    (λ outcome at parts apart may. c.answer.ensures.laid request rest outcome at parts apart may)
    (λ place at parts link apart on may room both row there. c.answer.ensures.settles request rest place at parts link apart on may room both row there)
    (λ not. c.answer.ensures.kept not)
    (λ parts. c.answer.ensures.bears request rest parts)

pub returns-in_default-clause-out : goal.returns-in_default-clause-out
returns-in_default-clause-out g c = λ request rest parts asked. absurd (no_front _ request rest parts (search rules))

pub returns-in_err-make_room-clause-out : goal.returns-in_err-make_room-clause-out
returns-in_err-make_room-clause-out g c = λ request rest parts asked. refl

pub returns-in-Logout-clause-out : goal.returns-in-Logout-clause-out
returns-in-Logout-clause-out g c = λ request rest parts asked. refl

pub returns-in_err-prepare-clause-out : goal.returns-in_err-prepare-clause-out
returns-in_err-prepare-clause-out g c = λ request rest parts asked.
    let front = front_is _ _ c.in-Some.ensures.item.3 in
    let other : c.in-Some.request.now.order ≢ orders.Logout = search rules in
    absurd (other (ap (λ (r : Request). r.order) (first_same _ c.in-Some.request.now request front.0 rest front.1 parts) ∙ asked))

pub returns-clause-out : goal.returns-clause-out
returns-clause-out g c = λ request rest parts asked.
    let front = front_is _ _ c.in-Some.ensures.item.3 in
    let other : c.in-Some.request.now.order ≢ orders.Logout = search rules in
    absurd (other (ap (λ (r : Request). r.order) (first_same _ c.in-Some.request.now request front.0 rest front.1 parts) ∙ asked))

pub returns-in_default-clause-placed : goal.returns-in_default-clause-placed
returns-in_default-clause-placed g c = λ client same alone start request rest parts. lays_none _ _

pub returns-in_err-make_room-clause-placed : goal.returns-in_err-make_room-clause-placed
returns-in_err-make_room-clause-placed g c = λ client same alone start request rest parts. lays_none _ _

pub returns-in-Logout-clause-placed : goal.returns-in-Logout-clause-placed
returns-in-Logout-clause-placed g c = λ client same alone start request rest parts. lays_none _ _

pub returns-in_err-prepare-clause-placed : goal.returns-in_err-prepare-clause-placed
returns-in_err-prepare-clause-placed g c = λ client same alone start request rest parts.
    let front = front_is _ _ c.in-Some.ensures.item.3 in
    prepared_within (stood client) c.in-Some.request.now request _ _ (first_same _ c.in-Some.request.now request front.0 rest front.1 parts)
    (c.prepare.ensures.placed client same alone start)

pub returns-clause-placed : goal.returns-clause-placed
returns-clause-placed g c = λ client same alone start request rest parts.
    let front = front_is _ _ c.in-Some.ensures.item.3 in
    lays_on (MayWrite (stood client) request) _ _ _
    (prepared_within (stood client) c.in-Some.request.now request _ _ (first_same _ c.in-Some.request.now request front.0 rest front.1 parts)
    (c.prepare.ensures.placed client same alone start))
    (wider_answer (stood client) request _ _ (c.answer.ensures.wrote request rest (c.note_stage.ensures.pending ∙ parts)))

pub returns-in_default-clause-rows : goal.returns-in_default-clause-rows
returns-in_default-clause-rows g c = λ request rest servable. absurd (no_front _ request rest servable.pending (search rules))

pub returns-in-Logout-clause-rows : goal.returns-in-Logout-clause-rows
returns-in-Logout-clause-rows g c = λ request rest servable.
    let front = front_is _ _ c.in-Some.ensures.item.3 in
    let asked : c.in-Some.request.now.order ≡ orders.Logout = search rules in
    let same = first_same _ c.in-Some.request.now request front.0 rest front.1 servable.pending in
    inr (ap gets_row (ap (λ (r : Request). r.order) (sym same) ∙ asked), c.log_out.ensures.history ∙ c.make_room.ensures.lists.history)

pub returns-clause-rows : goal.returns-clause-rows
returns-clause-rows g c = λ request rest servable.
    let front = front_is _ _ c.in-Some.ensures.item.3 in
    adds_first c.args.unit.now.logins.current c.args.unit.now.id c.in-Some.request.now request (g.S.Site.state c.args.site.now) (g.S.Site.state c.prepare.new.site) _ _ _ c.prepare.new.service.stage
    c.note_stage.new.unit.service.stage c.answer.result (first_same _ c.in-Some.request.now request front.0 rest front.1 servable.pending) servable.apart (c.in_ok-prepare.ensures.went (λ is. search rules))
    (c.in_ok-prepare.ensures.suits (subst (SuitsStage c.args.unit.now.logins.current c.in-Some.request.now.order) (sym servable.stage) tt))
    (c.in_ok-prepare.ensures.rows (ap row_in servable.stage)) (ap (λ (s : Service). s.stage) c.note_stage.ensures.service) c.answer.ensures.rows

pub returns-in_err-make_room-clause-no_row : goal.returns-in_err-make_room-clause-no_row
returns-in_err-make_room-clause-no_row g c = λ empty.
    let front = front_is _ _ c.in-Some.ensures.item.3 in
    absurd (no_front _ c.in-Some.request.now front.0 front.1 empty)

pub returns-in-Logout-clause-no_row : goal.returns-in-Logout-clause-no_row
returns-in-Logout-clause-no_row g c = λ empty.
    let front = front_is _ _ c.in-Some.ensures.item.3 in
    absurd (no_front _ c.in-Some.request.now front.0 front.1 empty)

pub returns-in_err-prepare-clause-no_row : goal.returns-in_err-prepare-clause-no_row
returns-in_err-prepare-clause-no_row g c = λ empty.
    let front = front_is _ _ c.in-Some.ensures.item.3 in
    absurd (no_front _ c.in-Some.request.now front.0 front.1 empty)

pub returns-clause-no_row : goal.returns-clause-no_row
returns-clause-no_row g c = λ empty.
    let front = front_is _ _ c.in-Some.ensures.item.3 in
    absurd (no_front _ c.in-Some.request.now front.0 front.1 empty)

pub returns-in_default-clause-does : goal.returns-in_default-clause-does
returns-in_default-clause-does g c = λ link apart free going. turn_none _ _ refl (inl free)

pub returns-in-Logout-clause-does : goal.returns-in-Logout-clause-does
returns-in-Logout-clause-does g c = λ link apart free going.
    let front = front_is _ _ c.in-Some.ensures.item.3 in
    let asked : c.in-Some.request.now.order ≡ orders.Logout = search rules in
    turn_from _ _ _ (doing_noted c.args.unit.now (g.S.Site.state c.args.site.now) c.args.records.now c.make_room.new.self c.make_room.ensures.lists.history c.make_room.ensures.lists.grants)
    (turn_one _ _
    (does_log_out _ _ (logs_out_first c.args.unit.now c.log_out.new.unit (g.S.Site.state c.args.site.now) c.make_room.new.self c.log_out.new.records c.in-Some.request.now front.0 front.1 asked free.stage
    (id_stands _ _ c.log_out.ensures.stands) (c.log_out.ensures.out (g.S.Site.state c.args.site.now).queue c.session.ensures) c.log_out.ensures.history))
    (rests_free c.log_out.new.unit (g.S.Site.state c.args.site.now) c.log_out.new.records (waiting_stands _ _ c.log_out.ensures.stands ∙ free.waiting) c.log_out.ensures.stage
    (ap (λ (line : Line). line.kept) c.log_out.ensures.line ∙ c.requires.none)))

pub returns-clause-does : goal.returns-clause-does
returns-clause-does g c = λ link apart free going.
    let unit = c.args.unit.now in
    let front = front_is _ _ c.in-Some.ensures.item.3 in
    let found = c.in-Some.request.now in
    let old = (g.S.Site.state c.args.site.now) in
    let mid = (g.S.Site.state c.prepare.new.site) in
    let has = c.in_ok-prepare.ensures.made (subst (λ (stage : Stage). HasAnswerAt (login_state unit.logins) found stage unit.service.answer.items) (sym free.stage) tt) in
    let made = made_alone old mid (login_state unit.logins) found c.prepare.new.service.stage c.prepare.new.service.answer.items apart (c.in_ok-prepare.ensures.went (λ is. search rules)) has in
    on_ok c.answer.result _ _
    (turn_then _ _ _ (does_prepare _ _ (prepares unit c.note_stage.new.unit c.prepare.new.service old mid c.args.records.now c.prepare.new.records found front.0 made.0 c.note_stage.ensures.service
    free.stage front.1 (λ is. search rules) c.note_stage.ensures.id c.note_stage.ensures.logins c.note_stage.ensures.line c.note_stage.ensures.pending c.prepare.ensures.queue c.prepare.ensures.advances
    apart c.prepare.ensures.grants made.1 (c.in_ok-prepare.ensures.suits (subst (SuitsStage unit.logins.current found.order) (sym free.stage) tt)) has
    (c.in_ok-prepare.ensures.rows (ap row_in free.stage)) (c.in_ok-prepare.ensures.bears old.client (known_same old.client) apart free.stage))))
    (c.answer.ensures.does found front.0 made.0 (ap (λ (s : Service). s.stage) c.note_stage.ensures.service ∙ made.1) (c.note_stage.ensures.pending ∙ front.1) link
    (c.prepare.ensures.advances.shared ∙ apart) (waiting_stands _ _ c.note_stage.ensures.stands ∙ free.waiting)
    (ap is_ended c.note_stage.ensures.line ∙ pending_on (is_ended unit.line) _ front.0 found front.1 going))

pub returns-in_default-clause-hears : goal.returns-in_default-clause-hears
returns-in_default-clause-hears g c = heard_equal _ _ _ _ refl (inr (busy_same _ _ refl refl refl))

pub returns-in_err-make_room-clause-hears : goal.returns-in_err-make_room-clause-hears
returns-in_err-make_room-clause-hears g c = heard_equal _ _ _ _ refl (inr (busy_same _ _ refl refl refl))

pub returns-in-Logout-clause-hears : goal.returns-in-Logout-clause-hears
returns-in-Logout-clause-hears g c = heard_served _ _ _ (busy_less _ _ (ap (λ (l : Line). l.closing) c.log_out.ensures.line) (waiting_stands _ _ c.log_out.ensures.stands) c.log_out.ensures.pending)

pub returns-in_err-prepare-clause-hears : goal.returns-in_err-prepare-clause-hears
returns-in_err-prepare-clause-hears g c = heard_equal _ _ _ _ c.prepare.ensures.queue (inr (busy_same _ _ refl refl refl))

pub returns-clause-hears : goal.returns-clause-hears
returns-clause-hears g c =
    heard_behind _ c.note_stage.new.unit _ (g.S.Site.state c.args.site.now).queue (g.S.Site.state c.prepare.new.site).queue _ (ap to_come c.prepare.ensures.queue) (ap (λ (q : EndState). q.registered) c.prepare.ensures.queue)
    (inr (busy_same _ _ (ap (λ (l : Line). l.closing) c.note_stage.ensures.line) (waiting_stands _ _ c.note_stage.ensures.stands) c.note_stage.ensures.pending)) c.answer.ensures.hears

pub returns-in_default-clause-stops : goal.returns-in_default-clause-stops
returns-in_default-clause-stops g c = λ apart.
    inl (none_pending c.args.unit.now.pending.items (λ request rest parts. no_front c.args.unit.now.pending.items request rest parts (search rules)))

pub returns-in-Logout-clause-stops : goal.returns-in-Logout-clause-stops
returns-in-Logout-clause-stops g c = λ apart.
    let front = front_is _ _ c.in-Some.ensures.item.3 in
    serves_out c.args.unit.now c.log_out.new.unit (g.S.Site.state c.args.site.now).queue (g.S.Site.state c.args.site.now).queue refl (serves_first c.args.unit.now c.log_out.new.unit c.in-Some.request.now front.0 front.1 c.log_out.ensures.pending)

pub returns-clause-stops : goal.returns-clause-stops
returns-clause-stops g c = λ apart.
    let front = front_is _ _ c.in-Some.ensures.item.3 in
    serve_out c.args.unit.now c.note_stage.new.unit c.answer.new.unit (g.S.Site.state c.args.site.now) (g.S.Site.state c.prepare.new.site) (g.S.Site.state c.answer.new.site) c.in-Some.request.now front.0 c.prepare.new.service.stage c.answer.result
    apart front.1 c.note_stage.ensures.pending (ap (λ (s : Service). s.stage) c.note_stage.ensures.service) c.prepare.ensures.advances.shared (c.answer.ensures.hears.coming ∙ ap to_come c.prepare.ensures.queue)
    (c.in_ok-prepare.ensures.went (λ is. search rules)) (λ outcome at parts on. c.answer.ensures.stops c.in-Some.request.now front.0 outcome at parts on)
