use Rattle.std.proofs.Common.{ap, inl, refl, ◌≡◌}
use Rattle.crq_session.specs.EndState.{EndState}
use Rattle.block_server.specs.Answering.{responses}
use Rattle.block_server.specs.Fetched.{buffers_of}
use Rattle.block_server.specs.Stage.{is_data_in}
use Rattle.block_server.proofs.Quieting.{on_ok}
use Rattle.block_server.proofs.Staging.{at_answer, ended}
use Rattle.block_server.proofs.Denying.{handed_cause}
use Rattle.block_server.proofs.Onces.{once_same, once_then}
use Rattle.block_server.proofs.Serves.{gathers_of, once_moved}
use Rattle.block_server.proofs.Working.{one_given, one_on, one_same}
use Rattle.block_server.specs.declared.service.Stage.TheVariants.{DataIn}
use Rattle.block_server.proofs.Sendings.{hand_placed, tag_at}
use Rattle.block_server.proofs.Gathering.{where_done}
use Rattle.block_server.specs.Cargo.{IsSentAll}
use Rattle.block_server.specs.Serving.{terms_of}
use Rattle.block_server.proofs.ComingStages.{other_entry}
use Rattle.std.proofs.Common.{subst, sym}
use Rattle.block_server.specs.Talk.{SuitsStage}
use Rattle.block_server.proofs.RangeLaws.{not_data_in}
use Rattle.block_server.specs.Standing.{HasAnswerAt}
use Rattle.block_server.specs.declared.service.Stage.{Stage}
use Rattle.block_server.proofs.LastRows.{last_at, last_same}
use Rattle.block_server.specs.Judged.{row_in}
use Rattle.std.proofs.Common.{◌∙◌}
use Rattle.block_server.specs.Copied.{own_name}
use Rattle.block_server.proofs.BearingRows.{hand_borne}
use Rattle.block_server.proofs.handing.hand_over.Goals as goal

pub returns-in_default-clause-once : goal.returns-in_default-clause-once
returns-in_default-clause-once g c = λ id told all size now credits rest serving. once_same _ _ _ _ _ _ refl refl refl _ serving

pub returns-in_err-progress-clause-once : goal.returns-in_err-progress-clause-once
returns-in_err-progress-clause-once g c = λ id told all size now credits rest serving.
    let same : buffers_of c.deliver_data.new.service ≡ buffers_of c.args.service.now = (λ i. record { outs = (c.deliver_data.ensures.out i).list.items; inns = (c.deliver_data.ensures.inn i).list.items; given = c.deliver_data.ensures.given i }) in
    once_moved _ _ _ _ _ c.in-DataIn.row c.in-DataIn.reply c.in-DataIn.cursor refl refl c.in-DataIn.is c.deliver_data.ensures.stage same refl
    (ap (λ (q : EndState). responses q.sent) c.deliver_data.ensures.queue) _ serving

pub returns-clause-once : goal.returns-clause-once
returns-clause-once g c = λ id told all size now credits rest serving.
    let same : buffers_of c.deliver_data.new.service ≡ buffers_of c.args.service.now = (λ i. record { outs = (c.deliver_data.ensures.out i).list.items; inns = (c.deliver_data.ensures.inn i).list.items; given = c.deliver_data.ensures.given i }) in
    once_then _ _ _ _ _ _ _ _ _ _ _ _
    (once_moved _ _ _ _ _ c.in-DataIn.row c.in-DataIn.reply c.in-DataIn.cursor refl refl c.in-DataIn.is c.deliver_data.ensures.stage same refl
    (ap (λ (q : EndState). responses q.sent) c.deliver_data.ensures.queue) _)
    (c.end_command.ensures.once id credits rest (g.S.Site.state c.deliver_data.new.site).queue _
    (handed_cause told id (g.S.Site.state c.args.site.now) (g.S.Site.state c.deliver_data.new.site) c.args.command.now c.in-DataIn.row c.in-DataIn.reply c.in-DataIn.cursor c.args.service.now.stage c.args.service.now.out.list.items c.args.service.now.inn.list.items c.in_ok-progress.progress c.in-DataIn.is all
    (gathers_of _ _ _ _ c.args.request.now rest c.args.command.now c.requires.asked serving.fetched) c.in_ok-progress.ensures.refused))
    serving

pub returns-in_default-clause-went : goal.returns-in_default-clause-went
returns-in_default-clause-went g c = λ before given. inl (at_answer _ (λ row reply cursor is. c.in_default.not-DataIn row reply cursor is) before given)

pub returns-clause-went : goal.returns-clause-went
returns-clause-went g c =
    on_ok c.end_command.result _ _ (λ is before given. is)
    (ended c.end_command.result c.in_ok-progress.progress _ _ c.in_ok-progress.ensures.busy
    (on_ok c.end_command.result _ _ (λ went. went (ap is_data_in c.deliver_data.ensures.stage.1)) c.end_command.ensures.went))

pub returns-in_default-clause-books : goal.returns-in_default-clause-books
returns-in_default-clause-books g c = λ id session. one_same _ _ _ _ _ _ _ refl refl

pub returns-in_err-progress-clause-books : goal.returns-in_err-progress-clause-books
returns-in_err-progress-clause-books g c = λ id session.
    one_given _ _ _ _ _ _ (DataIn c.in-DataIn.row c.in-DataIn.reply c.in-DataIn.cursor) (DataIn c.in-DataIn.row c.in-DataIn.reply c.deliver_data.ensures.stage.0)
    c.in-DataIn.is c.deliver_data.ensures.stage.1 refl refl (λ current pending at. at)

pub returns-clause-books : goal.returns-clause-books
returns-clause-books g c = λ id session.
    one_on _ _ _ _ _ _ _ _ _ _ refl
    (one_given _ _ _ _ _ _ (DataIn c.in-DataIn.row c.in-DataIn.reply c.in-DataIn.cursor) (DataIn c.in-DataIn.row c.in-DataIn.reply c.deliver_data.ensures.stage.0)
    c.in-DataIn.is c.deliver_data.ensures.stage.1 refl refl (λ current pending at. at)) (c.end_command.ensures.books id session)

pub returns-in_default-clause-cargo : goal.returns-in_default-clause-cargo
returns-in_default-clause-cargo g c = λ id told asked all size credits rest serving hand. hand

pub returns-in_err-progress-clause-cargo : goal.returns-in_err-progress-clause-cargo
returns-in_err-progress-clause-cargo g c = λ id told asked all size credits rest serving hand.
    c.deliver_data.ensures.cargo id told asked all c.args.records.now.history.items
    (tag_at (terms_of told size) id credits c.args.service.now c.args.request.now rest c.args.records.now.history.items c.in-DataIn.row c.in-DataIn.reply c.in-DataIn.cursor c.in-DataIn.is serving) _ hand

pub returns-clause-cargo : goal.returns-clause-cargo
returns-clause-cargo g c = λ id told asked all size credits rest serving hand.
    c.end_command.ensures.cargo id _ (λ done. where_done c.in_ok-progress.progress (IsSentAll c.deliver_data.new.service) done (c.in_ok-progress.ensures.all
    (hand_placed told asked id c.args.service.now _ _ c.in-DataIn.row c.in-DataIn.reply c.in-DataIn.cursor c.in-DataIn.is hand))) told asked
    (c.deliver_data.ensures.cargo id told asked all c.args.records.now.history.items
    (tag_at (terms_of told size) id credits c.args.service.now c.args.request.now rest c.args.records.now.history.items c.in-DataIn.row c.in-DataIn.reply c.in-DataIn.cursor c.in-DataIn.is serving) _ hand)

pub returns-in_default-clause-entry : goal.returns-in_default-clause-entry
returns-in_default-clause-entry g c = λ is. refl

pub returns-in_err-progress-clause-entry : goal.returns-in_err-progress-clause-entry
returns-in_err-progress-clause-entry g c = λ is. absurd (other_entry _ _ c.in-DataIn.is refl is)

pub returns-clause-entry : goal.returns-clause-entry
returns-clause-entry g c = λ is. absurd (other_entry _ _ c.in-DataIn.is refl is)

pub returns-in_default-clause-suits : goal.returns-in_default-clause-suits
returns-in_default-clause-suits g c = λ current old. old

pub returns-clause-suits : goal.returns-clause-suits
returns-clause-suits g c = λ current old. c.end_command.ensures.suits current (subst (SuitsStage current c.args.request.now.order) (sym c.deliver_data.ensures.stage.1) tt)

pub returns-in_default-clause-wrote : goal.returns-in_default-clause-wrote
returns-in_default-clause-wrote g c = λ is. absurd (not_data_in c.args.service.now.stage (λ row reply cursor at. c.in_default.not-DataIn row reply cursor at) is)

pub returns-in_err-progress-clause-unwritten : goal.returns-in_err-progress-clause-unwritten
returns-in_err-progress-clause-unwritten g c = λ isnt. absurd (cc (isnt, ap is_data_in c.in-DataIn.is))

pub returns-clause-unwritten : goal.returns-clause-unwritten
returns-clause-unwritten g c = λ isnt. absurd (cc (isnt, ap is_data_in c.in-DataIn.is))

pub returns-in_default-clause-made : goal.returns-in_default-clause-made
returns-in_default-clause-made g c = λ granted old. old

pub returns-clause-made : goal.returns-clause-made
returns-clause-made g c = λ granted old.
    c.end_command.ensures.made granted
    (subst (λ (stage : Stage). HasAnswerAt granted c.args.request.now stage c.deliver_data.new.service.answer.items) (sym c.deliver_data.ensures.stage.1) tt)

pub returns-in_default-clause-rows : goal.returns-in_default-clause-rows
returns-in_default-clause-rows g c = last_same _ _ _ refl

pub returns-in_err-progress-clause-rows : goal.returns-in_err-progress-clause-rows
returns-in_err-progress-clause-rows g c = last_same _ _ _ refl

pub returns-clause-rows : goal.returns-clause-rows
returns-clause-rows g c = last_at _ _ _ _ (ap row_in c.deliver_data.ensures.stage.1 ∙ sym (ap row_in c.in-DataIn.is)) c.end_command.ensures.rows

pub returns-in_default-clause-bears : goal.returns-in_default-clause-bears
returns-in_default-clause-bears g c = λ row reply cursor is placed are before there all. absurd (c.in_default.not-DataIn row reply cursor is)

pub returns-clause-bears : goal.returns-clause-bears
returns-clause-bears g c = λ row reply cursor is placed are.
    hand_borne c.end_command.result (own_name (g.S.Site.state c.args.site.now).own c.args.request.now.tag) c.args.service.now.inn.list.items c.args.service.now.given.items
    c.deliver_data.new.service.given.items c.args.service.now.stage c.in-DataIn.row c.in-DataIn.reply c.in-DataIn.cursor c.deliver_data.ensures.stage.0
    c.args.records.now.history.items c.end_command.new.records.history.items _ _ c.in-DataIn.is c.deliver_data.ensures.given
    (λ here. c.deliver_data.ensures.bears here are c.deliver_data.ensures.stage.0 c.deliver_data.ensures.stage.1)
    (c.end_command.ensures.inn c.in-DataIn.row c.in-DataIn.reply c.deliver_data.ensures.stage.0 c.deliver_data.ensures.stage.1) row reply cursor is placed
