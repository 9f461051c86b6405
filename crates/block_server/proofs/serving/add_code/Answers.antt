use Rattle.std.proofs.Common.{Some, ap, refl, rules, subst, sym, ◌≡◌, ◌∙◌, ◌++◌, ◌∷◌, [], ℕ, List, length}
use Rattle.vio_num.specs.declared.history.Served.{Served as ServedRow}
use Rattle.srp_iu.specs.Layout.{field}
use Rattle.vio_num.specs.declared.names.UnitId.{UnitId}
use Rattle.block_server.specs.Causes.{told_to}
use Rattle.block_server.specs.Orders.{IsCauseOf, IsOrder}
use Rattle.block_server.specs.Responses.{Answers, HasCode}
use Rattle.block_server.specs.declared.service.Outcome.TheVariants.{Served}
use Rattle.block_server.specs.declared.service.Stage.TheVariants.{Answer}
use Rattle.block_server.proofs.DiskRows.{code_row, may_code}
use Rattle.block_server.proofs.Onces.{once_same, once_still, tells_same}
use Rattle.block_server.proofs.Serves.{once_added, says_none, stays_pushed}
use Rattle.block_server.proofs.Working.{one_row, one_same}
use Rattle.block_server.specs.Judged.{IsAtStage, has_row, keys_of, row_in}
use Rattle.block_server.proofs.Booking.{code_gets}
use Rattle.block_server.proofs.Judging.{row_no_login}
use Rattle.block_server.specs.Cargo.{is_moving}
use Rattle.block_server.proofs.Cargoes.{blank_keeps, shown_same}
use Rattle.block_server.proofs.Hands.{keeps_same}
use Rattle.block_server.proofs.Sendings.{same_service}
use Rattle.block_server.proofs.Servicing.{coded_gets, served_suits}
use Rattle.block_server.proofs.Standing.{answer_at_now, answers_tag}
use Rattle.block_server.proofs.serving.add_code.Goals as goal

pub returns-in_err-blank-clause-once : goal.returns-in_err-blank-clause-once
returns-in_err-blank-clause-once c = λ credits rest q disk cause serving. once_same _ _ _ _ _ _ refl c.new_row.ensures.lists.history refl disk serving

pub returns-in_err-set_answer-clause-once : goal.returns-in_err-set_answer-clause-once
returns-in_err-set_answer-clause-once c = λ credits rest q disk cause serving.
    once_still _ _ _ _ _ _ refl refl c.in_err-set_answer.ensures.err c.in_err-set_answer.ensures.same
    (λ i. record { outs = (c.set_answer.ensures.out i).list.items; inns = (c.set_answer.ensures.inn i).list.items; given = (c.set_answer.ensures.given i).items })
    refl refl c.new_row.ensures.lists.history refl disk serving

pub returns-clause-once : goal.returns-clause-once
returns-clause-once c = λ credits rest q disk cause serving.
    let row = c.in_ok-blank.ensures.row in
    let blank = c.in_ok-blank.blank in
    let order = c.args.request.now.order in
    let code = c.args.code in
    let place : c.len-row.result ≡ length c.args.records.now.history.items =
    c.len-row.ensures ∙ c.new_row.new.self.history.ok.0 ∙ ap length c.new_row.ensures.lists.history in
    let added = c.add_row.ensures.history ∙ ap (λ (list : List ServedRow). list ++ blank ∷ []) c.new_row.ensures.lists.history in
    let spelled : IsOrder order blank.iu = subst (IsOrder order) (sym row.iu) c.args.request.now.spelled in
    let cause' : IsCauseOf (told_to disk.terms.told blank.unit) order = subst (λ (unit : UnitId). IsCauseOf (told_to disk.terms.told unit) order) (sym row.unit_is) cause in
    let tag : c.args.request.now.tag ≡ field 8 8 blank.iu = c.args.request.now.tagged ∙ ap (field 8 8) (sym row.iu) in
    let bytes = c.set_answer.new.self.answer.items in
    let same : c.deref.result.now ≡ c.with_code.result.items = search (rules, c.deref.ensures) in
    let says : Answers bytes (HasCode (field 8 8 blank.iu) code) =
    subst (λ (z : List ℕ × ℕ). Answers z.0 (HasCode z.1 code)) (λ i. ((sym (c.in_ok-set_answer.ensures.answer ∙ same)) i, tag i)) c.with_code.ensures.answer in
    once_added disk disk _ _ _ _ _ _ c.args.request.now rest blank (Answer (Served (length c.args.records.now.history.items)))
    refl refl refl (c.in_ok-set_answer.ensures.stage ∙ ap (λ (n : ℕ). Answer (Served n)) place) (λ P is. is)
    row.unit_is row.iu row.answer added refl refl tt
    (may_code order code blank disk.terms bytes spelled c.requires.code cause' row.out row.inn row.fault says)
    (stays_pushed disk _ _ blank added (λ b. code_row disk.terms order code blank b spelled c.requires.code cause' row.out row.inn row.fault (says_none blank.answer (HasCode (field 8 8 blank.iu) code) row.answer)))
    (tells_same disk.now) serving.brought
    (record { front = c.args.request.now; rest = rest; parts = refl; other = row_no_login order (code_gets order code c.requires.code) })

pub returns-in_err-blank-clause-books : goal.returns-in_err-blank-clause-books
returns-in_err-blank-clause-books c = λ before. one_same _ _ _ _ _ _ _ refl (ap keys_of c.new_row.ensures.lists.history)

pub returns-in_err-set_answer-clause-books : goal.returns-in_err-set_answer-clause-books
returns-in_err-set_answer-clause-books c = λ before. one_same _ _ _ _ _ _ _ c.in_err-set_answer.ensures.err (ap keys_of c.new_row.ensures.lists.history)

pub returns-clause-books : goal.returns-clause-books
returns-clause-books c = λ before.
    let row = c.in_ok-blank.ensures.row in
    let blank = c.in_ok-blank.blank in
    one_row _ _ _ _ _ _ _ blank before (ap has_row c.in_ok-set_answer.ensures.stage)
    (ap row_in c.in_ok-set_answer.ensures.stage ∙ ap Some (search rules)) row.answer
    (λ current pending rest parts. subst (IsAtStage current pending) (sym c.in_ok-set_answer.ensures.stage) (record { front = c.args.request.now; rest = rest; parts = parts; gets = code_gets c.args.request.now.order c.args.code c.requires.code }))
    (code_gets c.args.request.now.order c.args.code c.requires.code)
    (c.add_row.ensures.history ∙ ap (λ (list : List ServedRow). list ++ blank ∷ []) c.new_row.ensures.lists.history)
    row.unit_is row.session_is row.login row.number row.iu

pub returns-in_err-blank-clause-cargo : goal.returns-in_err-blank-clause-cargo
returns-in_err-blank-clause-cargo c = λ shown before. keeps_same _ _ (shown_same _ _ _ _ _ _ refl c.new_row.ensures.lists.history)

pub returns-in_err-set_answer-clause-cargo : goal.returns-in_err-set_answer-clause-cargo
returns-in_err-set_answer-clause-cargo c = λ shown before.
    keeps_same _ _ (shown_same _ c.set_answer.new.self _ _ _ _ refl c.new_row.ensures.lists.history
    ∙ same_service _ c.args.service.now c.set_answer.new.self _ _ c.in_err-set_answer.ensures.err c.set_answer.ensures.out c.set_answer.ensures.inn c.set_answer.ensures.given)

pub returns-clause-cargo : goal.returns-clause-cargo
returns-clause-cargo c = λ shown before.
    blank_keeps _ _ _ _ _ _ _ c.in_ok-blank.blank refl before (ap is_moving c.in_ok-set_answer.ensures.stage) c.in_ok-blank.ensures.row.inn c.in_ok-blank.ensures.row.out
    (c.add_row.ensures.history ∙ ap (λ (list : List ServedRow). list ++ c.in_ok-blank.blank ∷ []) c.new_row.ensures.lists.history)

pub returns-clause-suits : goal.returns-clause-suits
returns-clause-suits c = λ current old. served_suits current _ _ _ (coded_gets _ _ c.requires.code) c.in_ok-set_answer.ensures.stage

pub returns-clause-made : goal.returns-clause-made
returns-clause-made c = λ granted.
    let same : c.deref.result.now ≡ c.with_code.result.items = search (rules, c.deref.ensures) in
    answer_at_now granted c.args.request.now _ _ _ c.with_code.result.items c.in_ok-set_answer.ensures.stage (c.in_ok-set_answer.ensures.answer ∙ same)
    (answers_tag (HasCode c.args.request.now.tag c.args.code) _ (λ r is. (is.tag_is, is.delta)) c.with_code.result.items c.with_code.ensures.answer)
