use Rattle.std.proofs.Common.{ap, refl, rules, subst, sym, take, ◌≡◌, ◌∙◌, List, ℕ}
use Rattle.srp_iu.specs.declared.response_code.ResponseCode.TheVariants.{FieldsInvalid}
use Rattle.block_server.specs.Records.{FillsRow}
use Rattle.block_server.specs.Responses.{Answers, HasCode}
use Rattle.block_server.specs.Stage.{is_answered}
use Rattle.block_server.proofs.Onces.{once_same, once_still}
use Rattle.block_server.proofs.Serves.{once_cut}
use Rattle.block_server.proofs.Staging.{not_data_in}
use Rattle.block_server.specs.declared.service.Outcome.TheVariants.{Served}
use Rattle.block_server.specs.declared.service.Stage.TheVariants.{Answer, DataIn}
use Rattle.block_server.proofs.Working.{front_answered, one_given, one_on, one_same}
use Rattle.block_server.specs.Owed.{row_in}
use Rattle.block_server.proofs.Hands.{keeps_same}
use Rattle.block_server.proofs.Cargoes.{cut_at_sending}
use Rattle.block_server.specs.Cargo.{is_moving}
use Rattle.block_server.proofs.Sendings.{same_service}
use Rattle.block_server.specs.Judged.{gets_row}
use Rattle.block_server.proofs.Servicing.{served_suits}
use Rattle.block_server.proofs.Standing.{answer_at_now, answers_tag}
use Rattle.block_server.proofs.LastRows.{filled_last, last_at, last_same}
use Rattle.block_server.proofs.BearingRows.{cut_row}
use Rattle.block_server.proofs.handing.refuse_data.Goals as goal

pub returns-in_default : goal.returns-in_default
returns-in_default c = record { inn = λ row reply cursor is before there. absurd (c.in_default.not-DataIn row reply cursor is); rows = last_same _ _ _ refl; made = λ granted old. old; suits = λ current old. old; cargo = λ id shown. keeps_same _ _ refl; row = refl; states = refl; grants = refl; books = λ id session. one_same _ _ _ _ _ _ _ refl refl; once = λ id credits rest q disk cause serving. once_same _ _ _ _ _ _ refl refl refl disk serving; went = λ inn. not_data_in _ _ (λ row reply cursor is. c.in_default.not-DataIn row reply cursor is) inn }

pub returns-in_err-set_answer : goal.returns-in_err-set_answer
returns-in_err-set_answer c = record {
  inn = λ row reply cursor is before there. search rules;
  rows = last_same _ _ _ refl;
  made = λ granted old. search rules;
  suits = λ current old. search rules;
  cargo = λ id shown. keeps_same _ _ (same_service _ c.args.service.now c.set_answer.new.self _ _ c.in_err-set_answer.ensures.err c.set_answer.ensures.out c.set_answer.ensures.inn c.set_answer.ensures.given);
  row = ap row_in c.in_err-set_answer.ensures.err;
  states = refl;
  grants = refl;
  books = λ id session. one_same _ _ _ _ _ _ _ c.in_err-set_answer.ensures.err refl;
  once = λ id credits rest q disk cause serving.
      once_still _ _ _ _ _ _ refl refl c.in_err-set_answer.ensures.err c.in_err-set_answer.ensures.same
      (λ i. record { outs = (c.set_answer.ensures.out i).list.items; inns = (c.set_answer.ensures.inn i).list.items; given = (c.set_answer.ensures.given i).items })
      refl refl refl refl disk serving;
  went = search rules;
}

pub returns : goal.returns
returns c = record {
  inn = cut_row c.args.service.now.stage c.in-DataIn.row c.in-DataIn.reply c.in-DataIn.cursor c.args.service.now.given.items c.take_given-inn.result _ _ c.in-DataIn.is
      (c.take_given-inn.ensures.given ∙ (λ i. take (c.done.ensures i) (c.set_answer.ensures.given i).items)) c.fill.ensures.row;
  rows = last_at _ _ _ _ (sym (ap row_in c.in-DataIn.is)) (filled_last c.in-DataIn.row _ _ _ c.fill.ensures.row);
  made = λ granted old.
      let same : c.deref.result.now ≡ c.with_code.result.items = search (rules, c.deref.ensures) in
      answer_at_now granted c.args.request.now (Served c.in-DataIn.row) _ _ c.with_code.result.items (c.take_given-inn.ensures.stage ∙ c.in_ok-set_answer.ensures.stage)
      ((λ i. (c.take_given-inn.ensures.answer i).items) ∙ c.in_ok-set_answer.ensures.answer ∙ same)
      (answers_tag (HasCode c.args.request.now.tag FieldsInvalid) _ (λ r is. (is.tag_is, is.delta)) c.with_code.result.items c.with_code.ensures.answer);
  suits = λ current old. served_suits current _ _ _ (ap gets_row c.requires.asked) (c.take_given-inn.ensures.stage ∙ c.in_ok-set_answer.ensures.stage);
  cargo = λ id shown.
      cut_at_sending _ _ _ _ _ _ _ c.in-DataIn.row c.in-DataIn.reply c.in-DataIn.cursor _ refl c.in-DataIn.is (ap is_moving (c.take_given-inn.ensures.stage ∙ c.in_ok-set_answer.ensures.stage))
      (c.take_given-inn.ensures.given ∙ (λ i. take (c.done.ensures i) (c.set_answer.ensures.given i).items)) c.fill.ensures.rows;
  row = ap row_in (c.take_given-inn.ensures.stage ∙ c.in_ok-set_answer.ensures.stage) ∙ sym (ap row_in c.in-DataIn.is);
  states = c.fill.ensures.states;
  grants = λ i. (c.fill.ensures.grants i).items;
  books = λ id session. one_on _ _ _ _ _ _ _ _ _ _ refl
      (one_given _ _ _ _ _ c.args.records.now.history.items (DataIn c.in-DataIn.row c.in-DataIn.reply c.in-DataIn.cursor) (Answer (Served c.in-DataIn.row))
      c.in-DataIn.is (c.take_given-inn.ensures.stage ∙ c.in_ok-set_answer.ensures.stage) refl refl (λ current pending at. front_answered current 0 pending at))
      (one_same _ _ _ _ _ _ _ refl c.fill.ensures.keys);
  once = λ id credits rest q disk cause serving.
      let same : c.deref.result.now ≡ c.with_code.result.items = search (rules, c.deref.ensures) in
      once_cut c.bytes_spell_one.ensures _ _ _ _ _ c.in-DataIn.row c.done.result c.in-DataIn.reply c.in-DataIn.cursor c.args.request.now rest c.args.command.now refl refl c.in-DataIn.is
      (c.take_given-inn.ensures.stage ∙ c.in_ok-set_answer.ensures.stage) refl c.requires.asked c.requires.some
      (subst (λ (bytes : List ℕ). Answers bytes (HasCode c.args.request.now.tag FieldsInvalid))
      (sym ((λ i. (c.take_given-inn.ensures.answer i).items) ∙ c.in_ok-set_answer.ensures.answer ∙ same)) c.with_code.ensures.answer) refl
      (subst (λ (inn : List ℕ). FillsRow c.args.records.now.history.items c.fill.new.self.history.items c.in-DataIn.row inn)
      (c.take_given-inn.ensures.given ∙ (λ i. take c.done.result (c.set_answer.ensures.given i).items)) c.fill.ensures.row) disk cause serving;
  went = λ inn. ap is_answered (c.take_given-inn.ensures.stage ∙ c.in_ok-set_answer.ensures.stage);
}
