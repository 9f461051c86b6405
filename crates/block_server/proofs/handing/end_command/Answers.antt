use Rattle.std.proofs.Common.{ap, refl, rules, subst, sym, List, ◌≡◌, ℕ}
use Rattle.block_server.specs.Responses.{Answers, HasStatus}
use Rattle.block_server.specs.Stage.{is_answered}
use Rattle.block_server.proofs.Quieting.{on_ok}
use Rattle.block_server.proofs.Onces.{once_same}
use Rattle.block_server.proofs.Serves.{once_stated_if}
use Rattle.block_server.proofs.Staging.{not_data_in}
use Rattle.block_server.specs.declared.service.Outcome.TheVariants.{Served}
use Rattle.block_server.specs.declared.service.Stage.TheVariants.{Answer, DataIn}
use Rattle.block_server.proofs.Booking.{set_one}
use Rattle.block_server.proofs.Working.{front_answered, one_same}
use Rattle.block_server.proofs.OwingCalls.{set_row}
use Rattle.block_server.proofs.Hands.{keeps_same}
use Rattle.block_server.proofs.Sendings.{answered}
use Rattle.block_server.specs.Judged.{gets_row}
use Rattle.block_server.proofs.Servicing.{served_suits}
use Rattle.block_server.proofs.Standing.{answer_set, answers_tag}
use Rattle.block_server.proofs.LastRows.{last_same}
use Rattle.std.proofs.Common.{inl, take}
use Rattle.block_server.proofs.BearingRows.{any_cut, any_whole}
use Rattle.block_server.proofs.handing.end_command.Goals as goal

pub returns-in_default : goal.returns-in_default
returns-in_default c = record { inn = λ row reply cursor is before there. absurd (c.in_default.not-DataIn row reply cursor is); rows = last_same _ _ _ refl; made = λ granted old. old; suits = λ current old. old; cargo = λ id shown done. keeps_same _ _ refl; row = refl; states = refl; grants = refl; books = λ id session. one_same _ _ _ _ _ _ _ refl refl; once = λ id credits rest q disk cause serving. once_same _ _ _ _ _ _ refl refl refl disk serving; went = λ inn apart. not_data_in _ _ (λ row reply cursor is. c.in_default.not-DataIn row reply cursor is) inn }

pub returns-in-Busy : goal.returns-in-Busy
returns-in-Busy c = record { inn = λ row reply cursor is before there. (before, there, inl refl); rows = last_same _ _ _ refl; made = λ granted old. old; suits = λ current old. old; cargo = λ id shown done. keeps_same _ _ refl; row = refl; states = refl; grants = refl; books = λ id session. one_same _ _ _ _ _ _ _ refl refl; once = λ id credits rest q disk cause serving. once_same _ _ _ _ _ _ refl refl refl disk serving; went = λ inn apart. absurd (apart c.in-Busy.is) }

pub returns-in-Refused : goal.returns-in-Refused
returns-in-Refused c = record { inn = λ row reply cursor is before there. any_cut c.refuse_data.result c.refuse_data.new.records.history.items row before (take cursor.done c.args.service.now.given.items) (c.refuse_data.ensures.inn row reply cursor is before there); rows = c.refuse_data.ensures.rows; made = c.refuse_data.ensures.made; suits = c.refuse_data.ensures.suits; cargo = λ id shown done. c.refuse_data.ensures.cargo id shown; row = c.refuse_data.ensures.row; states = c.refuse_data.ensures.states; grants = c.refuse_data.ensures.grants; books = c.refuse_data.ensures.books; once = λ id credits rest q disk cause serving. c.refuse_data.ensures.once id credits rest q disk (cause c.in-Refused.is) serving; went = on_ok c.refuse_data.result _ _ (λ went inn apart. went inn) c.refuse_data.ensures.went }

pub returns-in-Done : goal.returns-in-Done
returns-in-Done c = record {
  inn = λ row reply cursor is before there.
      any_whole c.set_answer.result c.args.records.now.history.items row before (take cursor.done c.args.service.now.given.items) there;
  rows = last_same _ _ _ refl;
  made = λ granted old.
      let same : c.deref.result.now ≡ c.with_status.result.items = search (rules, c.deref.ensures) in
      answer_set granted c.args.request.now (Served c.in-DataIn.row) _ _ c.deref.result.now c.set_answer.result c.set_answer.ensures.stage c.set_answer.ensures.answer
      (subst (λ (list : List ℕ). Answers list (λ r. (r.tag ≡ c.args.request.now.tag) × (r.delta ≡ 1))) (sym same)
      (answers_tag (HasStatus c.args.request.now.tag _ _ c.in-DataIn.reply) _ (λ r is. (is.tag_is, is.delta)) c.with_status.result.items c.with_status.ensures.answer));
  suits = λ current old. on_ok c.set_answer.result _ _ (λ is. served_suits current _ _ _ (ap gets_row c.requires.asked) is) c.set_answer.ensures.stage;
  cargo = λ id shown done.
      answered _ c.args.service.now c.set_answer.new.self _ _ c.in-DataIn.row c.in-DataIn.reply c.in-DataIn.cursor (Served c.in-DataIn.row) c.set_answer.result c.in-DataIn.is
      c.set_answer.ensures.stage c.set_answer.ensures.err c.set_answer.ensures.out c.set_answer.ensures.inn c.set_answer.ensures.given (done c.in-Done.is);
  row = set_row _ _ _ _ _ c.set_answer.result c.in-DataIn.is c.set_answer.ensures.stage c.set_answer.ensures.err;
  states = refl;
  grants = refl;
  books = λ id session. set_one _ _ _ _ _ _ c.set_answer.result (DataIn c.in-DataIn.row c.in-DataIn.reply c.in-DataIn.cursor) (Answer (Served c.in-DataIn.row))
      c.in-DataIn.is c.set_answer.ensures.stage c.set_answer.ensures.err refl refl (λ current pending at. front_answered current 0 pending at);
  once = λ id credits rest q disk cause.
      let same : c.deref.result.now ≡ c.with_status.result.items = search (rules, c.deref.ensures) in
      once_stated_if c.bytes_spell_one.ensures _ _ _ _ c.in-DataIn.row c.in-DataIn.reply c.in-DataIn.cursor c.args.request.now rest c.args.command.now _ c.set_answer.result refl refl refl c.in-DataIn.is
      c.set_answer.ensures.stage c.set_answer.ensures.answer c.set_answer.ensures.err c.set_answer.ensures.same
      (λ i. record { outs = (c.set_answer.ensures.out i).list.items; inns = (c.set_answer.ensures.inn i).list.items; given = (c.set_answer.ensures.given i).items })
      refl c.requires.asked
      (subst (λ (z : List ℕ × ℕ × ℕ). Answers z.0 (HasStatus c.args.request.now.tag z.1 z.2 c.in-DataIn.reply)) (λ i. ((sym same) i, c.total_len-out.ensures i, c.total_len-inn.ensures i)) c.with_status.ensures.answer) refl disk;
  went = on_ok c.set_answer.result _ _ (λ is inn apart. ap is_answered is) c.set_answer.ensures.stage;
}
