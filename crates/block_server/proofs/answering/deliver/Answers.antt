use Rattle.std.proofs.Common.{ap, refl}
use Rattle.crq_session.specs.EndState.{EndState}
use Rattle.block_server.specs.Answering.{responses}
use Rattle.std.specs.Result.{IsErrOf}
use Rattle.block_server.specs.declared.site.Halt.TheVariants.{Busy}
use Rattle.block_server.proofs.Onces.{once_same}
use Rattle.block_server.proofs.Serves.{front_is, once_copied}
use Rattle.block_server.proofs.Hearing.{heard_delivered}
use Rattle.block_server.specs.Delivers.{DeliversOne}
use Rattle.std.proofs.Common.{◌≡◌, List, rules, subst, ℕ}
use Rattle.block_server.proofs.Keeping.{keeps_delivered, moved_to}
use Rattle.block_server.specs.Books.{next_of}
use Rattle.std.proofs.Common.{sym, ◌∙◌}
use Rattle.block_server.proofs.Owing.{owes_seen, seen_same}
use Rattle.block_server.proofs.OwingCalls.{entry_row, owes_stage}
use Rattle.block_server.specs.Owed.{row_in}
use Rattle.block_server.specs.Cargo.{is_moving}
use Rattle.block_server.proofs.Cargoes.{none_seen}
use Rattle.std.proofs.Common.{true, length}
use Rattle.block_server.specs.declared.service.Stage.{Stage}
use Rattle.block_server.specs.Stage.{has_answer}
use Rattle.block_server.specs.declared.site.Halt.TheVariants as halts
use Rattle.block_server.specs.Entries.{is_answer_len}
use Rattle.block_server.proofs.Refusing.{fits_answer}
use Rattle.block_server.proofs.Quieting.{still_equal}
use Rattle.block_server.proofs.ComingParts.{comes_none, comes_stage, not_entry}
use Rattle.block_server.specs.Steps.{ToEntry}
use Rattle.block_server.proofs.RangeLaws.{answer_laid, lays_none}
use Rattle.block_server.proofs.Servicing.{answer_few, first_same}
use Rattle.block_server.proofs.Standing.{stands_same}
use Rattle.block_server.proofs.LastRows.{row_same}
use Rattle.block_server.proofs.AnswerBearing.{answer_bears}
use Rattle.block_server.proofs.Bearing.{bears_none}
use Rattle.block_server.proofs.Stood.{stays_after}
use Rattle.block_server.proofs.DoingReplies.{known_equal}
use Rattle.block_server.specs.Ranges.{client_known}
use Rattle.block_server.specs.declared.site.Halt.{Halt}
use Rattle.std.proofs.Common.{Result, OnErr}
use Rattle.std.specs.Prelude.{⊤}
use Rattle.block_server.specs.declared.request.Request.{Request}
use Rattle.rdma_copy.specs.Copies.{MayHold}
use Rattle.tce_window.specs.declared.answers.Right.TheVariants.{Write}
use Rattle.block_server.proofs.answering.deliver.Goals as goal

pub returns-in_default-clause-once : goal.returns-in_default-clause-once
returns-in_default-clause-once g c = λ records disk all serving. once_same _ _ _ _ _ _ refl refl refl disk serving

pub returns-in-Ok-clause-once : goal.returns-in-Ok-clause-once
returns-in-Ok-clause-once g c = λ records disk all serving.
    let front = front_is _ _ c.in-Some.ensures.item.3 in
    let same : c.deref.result.now ≡ c.args.unit.now.service.answer.items = search (rules, c.deref.ensures) in
    once_copied _ _ _ _ _ _ c.args.outcome c.in-Some.request.now front.0 refl refl refl front.1 c.requires.stage refl refl c.requires.none refl
    (ap (λ (q : EndState). responses q.sent) c.deliver_unit.ensures.queue) disk
    (heard_delivered disk.terms.told c.args.unit.now.id _ _ _ _ _ all (subst (λ (bytes : List ℕ). DeliversOne (g.S.Site.state c.args.site.now) (g.S.Site.state c.deliver_unit.new.self) 0 c.in-Some.request.now.address c.in-Some.request.now.tag bytes)
    same c.in-Ok.ensures.delivered)) serving

pub returns-in-Err-Refused-clause-once : goal.returns-in-Err-Refused-clause-once
returns-in-Err-Refused-clause-once g c = λ records disk all serving. once_same _ _ _ _ _ _ refl refl (ap (λ (q : EndState). responses q.sent) c.deliver_unit.ensures.queue) disk serving

pub returns-in-Err-Busy-clause-once : goal.returns-in-Err-Busy-clause-once
returns-in-Err-Busy-clause-once g c = λ records disk all serving. once_same _ _ _ _ _ _ refl refl (ap (λ (q : EndState). responses q.sent) c.deliver_unit.ensures.queue) disk serving

pub returns-in-Err-NoMemory-clause-once : goal.returns-in-Err-NoMemory-clause-once
returns-in-Err-NoMemory-clause-once g c = λ records disk all serving. once_same _ _ _ _ _ _ refl refl (ap (λ (q : EndState). responses q.sent) c.deliver_unit.ensures.queue) disk serving

pub returns-in-Err-Busy-clause-busy : goal.returns-in-Err-Busy-clause-busy
returns-in-Err-Busy-clause-busy g c = λ is pending.
    let busy : IsErrOf c.deliver_unit.result Busy = cc (c.in-Err-Busy.is, c.in-Err-Busy.field-0-is) in
    c.deliver_unit.ensures.busy busy

pub returns-in_default-clause-books : goal.returns-in_default-clause-books
returns-in_default-clause-books g c = λ records judged is. is

pub returns-in-Ok-clause-books : goal.returns-in-Ok-clause-books
returns-in-Ok-clause-books g c = λ records judged is. moved_to _ _ judged refl (ap (λ (q : EndState). q.last_session) c.deliver_unit.ensures.queue) (ap (next_of c.args.unit.now.waiting) c.deliver_unit.ensures.queue) refl refl refl refl refl refl refl refl refl refl refl
    (keeps_delivered _ c.args.outcome judged c.requires.stage c.requires.none is)

pub returns-in-Err-Refused-clause-books : goal.returns-in-Err-Refused-clause-books
returns-in-Err-Refused-clause-books g c = λ records judged is. moved_to _ _ judged refl (ap (λ (q : EndState). q.last_session) c.deliver_unit.ensures.queue) (ap (next_of c.args.unit.now.waiting) c.deliver_unit.ensures.queue) refl refl refl refl refl refl refl refl refl refl refl is

pub returns-in-Err-Busy-clause-books : goal.returns-in-Err-Busy-clause-books
returns-in-Err-Busy-clause-books g c = λ records judged is. moved_to _ _ judged refl (ap (λ (q : EndState). q.last_session) c.deliver_unit.ensures.queue) (ap (next_of c.args.unit.now.waiting) c.deliver_unit.ensures.queue) refl refl refl refl refl refl refl refl refl refl refl is

pub returns-in-Err-NoMemory-clause-books : goal.returns-in-Err-NoMemory-clause-books
returns-in-Err-NoMemory-clause-books g c = λ records judged is. moved_to _ _ judged refl (ap (λ (q : EndState). q.last_session) c.deliver_unit.ensures.queue) (ap (next_of c.args.unit.now.waiting) c.deliver_unit.ensures.queue) refl refl refl refl refl refl refl refl refl refl refl is

pub returns-in_default-clause-answers : goal.returns-in_default-clause-answers
returns-in_default-clause-answers g c = λ records alone has. has

pub returns-in-Ok-clause-answers : goal.returns-in-Ok-clause-answers
returns-in-Ok-clause-answers g c = λ records alone has.
    owes_stage _ _ (entry_row c.args.outcome ∙ sym (ap row_in c.requires.stage)) (seen_same _ _ c.deliver_unit.ensures.queue) refl refl refl refl refl refl has

pub returns-in-Err-Refused-clause-answers : goal.returns-in-Err-Refused-clause-answers
returns-in-Err-Refused-clause-answers g c = λ records alone has. owes_seen _ _ (seen_same _ _ c.deliver_unit.ensures.queue) refl refl refl refl refl refl refl has

pub returns-in-Err-Busy-clause-answers : goal.returns-in-Err-Busy-clause-answers
returns-in-Err-Busy-clause-answers g c = λ records alone has. owes_seen _ _ (seen_same _ _ c.deliver_unit.ensures.queue) refl refl refl refl refl refl refl has

pub returns-in-Err-NoMemory-clause-answers : goal.returns-in-Err-NoMemory-clause-answers
returns-in-Err-NoMemory-clause-answers g c = λ records alone has. owes_seen _ _ (seen_same _ _ c.deliver_unit.ensures.queue) refl refl refl refl refl refl refl has

pub returns-in-Ok-clause-cargo : goal.returns-in-Ok-clause-cargo
returns-in-Ok-clause-cargo g c = λ records. none_seen _ _ _ _ _ _ _ c.deliver_unit.ensures.data (ap is_moving c.requires.stage) refl refl

pub returns-in-Err-Refused-clause-cargo : goal.returns-in-Err-Refused-clause-cargo
returns-in-Err-Refused-clause-cargo g c = λ records. none_seen _ _ _ _ _ _ _ c.deliver_unit.ensures.data (ap is_moving c.requires.stage) (ap is_moving c.requires.stage) refl

pub returns-in-Err-Busy-clause-cargo : goal.returns-in-Err-Busy-clause-cargo
returns-in-Err-Busy-clause-cargo g c = λ records. none_seen _ _ _ _ _ _ _ c.deliver_unit.ensures.data (ap is_moving c.requires.stage) (ap is_moving c.requires.stage) refl

pub returns-in-Err-NoMemory-clause-cargo : goal.returns-in-Err-NoMemory-clause-cargo
returns-in-Err-NoMemory-clause-cargo g c = λ records. none_seen _ _ _ _ _ _ _ c.deliver_unit.ensures.data (ap is_moving c.requires.stage) (ap is_moving c.requires.stage) refl

pub returns-in-Err-Refused-clause-refused : goal.returns-in-Err-Refused-clause-refused
returns-in-Err-Refused-clause-refused g c = λ is.
    let refused : IsErrOf c.deliver_unit.result halts.Refused = cc (c.in-Err-Refused.is, c.in-Err-Refused.field-0-is) in
    let front = front_is _ _ c.in-Some.ensures.item.3 in
    let same : c.deref.result.now ≡ c.args.unit.now.service.answer.items = search (rules, c.deref.ensures) in
    let fits = subst (λ (stage : Stage). has_answer stage (length c.args.unit.now.service.answer.items) ≡ true) c.requires.stage c.args.unit.now.service.answered in
    record {
      front = c.in-Some.request.now;
      rest = front.0;
      parts = front.1;
      len = length c.deref.result.now;
      answers = ap (λ (bytes : List ℕ). is_answer_len (length bytes)) same ∙ fits_answer c.args.outcome _ fits;
      denied_is = c.deliver_unit.ensures.refused refused;
    }

pub returns-in-Ok-clause-comes : goal.returns-in-Ok-clause-comes
returns-in-Ok-clause-comes g c =
    comes_stage ToEntry _ _ _ _ (still_equal _ _ c.deliver_unit.ensures.queue) refl refl (not_entry c.args.unit.now.service.stage c.args.outcome c.requires.stage, refl)

pub returns-in-Err-Refused-clause-comes : goal.returns-in-Err-Refused-clause-comes
returns-in-Err-Refused-clause-comes g c = comes_none ToEntry _ _ _ _ (still_equal _ _ c.deliver_unit.ensures.queue) refl refl

pub returns-in-Err-Busy-clause-comes : goal.returns-in-Err-Busy-clause-comes
returns-in-Err-Busy-clause-comes g c = comes_none ToEntry _ _ _ _ (still_equal _ _ c.deliver_unit.ensures.queue) refl refl

pub returns-in_default-clause-wrote : goal.returns-in_default-clause-wrote
returns-in_default-clause-wrote g c = λ request rest parts. lays_none _ _

pub returns-in-Ok-clause-wrote : goal.returns-in-Ok-clause-wrote
returns-in-Ok-clause-wrote g c = λ request rest parts.
    let front = front_is _ _ c.in-Some.ensures.item.3 in
    let same : c.deref.result.now ≡ c.args.unit.now.service.answer.items = search (rules, c.deref.ensures) in
    let fits = subst (λ (stage : Stage). has_answer stage (length c.args.unit.now.service.answer.items) ≡ true) c.requires.stage c.args.unit.now.service.answered in
    let few = answer_few (length c.deref.result.now) (ap (λ (bytes : List ℕ). is_answer_len (length bytes)) same ∙ fits_answer c.args.outcome _ fits) in
    answer_laid request c.in-Some.request.now c.args.unit.now.pending.items rest front.0 (length c.deref.result.now) _ _ front.1 parts few c.deliver_unit.ensures.wrote

pub returns-in-Err-Refused-clause-wrote : goal.returns-in-Err-Refused-clause-wrote
returns-in-Err-Refused-clause-wrote g c = λ request rest parts.
    let front = front_is _ _ c.in-Some.ensures.item.3 in
    let same : c.deref.result.now ≡ c.args.unit.now.service.answer.items = search (rules, c.deref.ensures) in
    let fits = subst (λ (stage : Stage). has_answer stage (length c.args.unit.now.service.answer.items) ≡ true) c.requires.stage c.args.unit.now.service.answered in
    let few = answer_few (length c.deref.result.now) (ap (λ (bytes : List ℕ). is_answer_len (length bytes)) same ∙ fits_answer c.args.outcome _ fits) in
    answer_laid request c.in-Some.request.now c.args.unit.now.pending.items rest front.0 (length c.deref.result.now) _ _ front.1 parts few c.deliver_unit.ensures.wrote

pub returns-in-Err-Busy-clause-wrote : goal.returns-in-Err-Busy-clause-wrote
returns-in-Err-Busy-clause-wrote g c = λ request rest parts.
    let front = front_is _ _ c.in-Some.ensures.item.3 in
    let same : c.deref.result.now ≡ c.args.unit.now.service.answer.items = search (rules, c.deref.ensures) in
    let fits = subst (λ (stage : Stage). has_answer stage (length c.args.unit.now.service.answer.items) ≡ true) c.requires.stage c.args.unit.now.service.answered in
    let few = answer_few (length c.deref.result.now) (ap (λ (bytes : List ℕ). is_answer_len (length bytes)) same ∙ fits_answer c.args.outcome _ fits) in
    answer_laid request c.in-Some.request.now c.args.unit.now.pending.items rest front.0 (length c.deref.result.now) _ _ front.1 parts few c.deliver_unit.ensures.wrote

pub returns-in-Err-NoMemory-clause-wrote : goal.returns-in-Err-NoMemory-clause-wrote
returns-in-Err-NoMemory-clause-wrote g c = λ request rest parts.
    let front = front_is _ _ c.in-Some.ensures.item.3 in
    let same : c.deref.result.now ≡ c.args.unit.now.service.answer.items = search (rules, c.deref.ensures) in
    let fits = subst (λ (stage : Stage). has_answer stage (length c.args.unit.now.service.answer.items) ≡ true) c.requires.stage c.args.unit.now.service.answered in
    let few = answer_few (length c.deref.result.now) (ap (λ (bytes : List ℕ). is_answer_len (length bytes)) same ∙ fits_answer c.args.outcome _ fits) in
    answer_laid request c.in-Some.request.now c.args.unit.now.pending.items rest front.0 (length c.deref.result.now) _ _ front.1 parts few c.deliver_unit.ensures.wrote

pub returns-in-Ok-clause-laid : goal.returns-in-Ok-clause-laid
returns-in-Ok-clause-laid g c = λ is request rest parts.
    let front = front_is _ _ c.in-Some.ensures.item.3 in
    let same : c.deref.result.now ≡ c.args.unit.now.service.answer.items = search (rules, c.deref.ensures) in
    stands_same (g.S.Site.state c.args.site.now).own (g.S.Site.state c.deliver_unit.new.self).client _ c.in-Some.request.now request c.deref.result.now _ refl
    (first_same c.args.unit.now.pending.items c.in-Some.request.now request front.0 rest front.1 parts) same c.in-Ok.ensures.laid

pub returns-in-Ok-clause-row : goal.returns-in-Ok-clause-row
returns-in-Ok-clause-row g c = row_same c.args.outcome _ _ c.requires.stage refl

pub returns-in_default-clause-bears : goal.returns-in_default-clause-bears
returns-in_default-clause-bears g c = λ request rest parts. bears_none _ _

pub returns-in-Ok-clause-bears : goal.returns-in-Ok-clause-bears
returns-in-Ok-clause-bears g c = λ request rest parts.
    let front = front_is _ _ c.in-Some.ensures.item.3 in
    let same : c.deref.result.now ≡ c.args.unit.now.service.answer.items = search (rules, c.deref.ensures) in
    answer_bears (g.S.Site.state c.args.site.now).own c.in-Some.request.now request c.args.unit.now.pending.items front.0 rest c.deref.result.now c.args.unit.now.service.answer.items _ _ front.1 parts same
    c.deliver_unit.ensures.bears

pub returns-in-Err-Refused-clause-bears : goal.returns-in-Err-Refused-clause-bears
returns-in-Err-Refused-clause-bears g c = λ request rest parts.
    let front = front_is _ _ c.in-Some.ensures.item.3 in
    let same : c.deref.result.now ≡ c.args.unit.now.service.answer.items = search (rules, c.deref.ensures) in
    answer_bears (g.S.Site.state c.args.site.now).own c.in-Some.request.now request c.args.unit.now.pending.items front.0 rest c.deref.result.now c.args.unit.now.service.answer.items _ _ front.1 parts same
    c.deliver_unit.ensures.bears

pub returns-in-Err-Busy-clause-bears : goal.returns-in-Err-Busy-clause-bears
returns-in-Err-Busy-clause-bears g c = λ request rest parts.
    let front = front_is _ _ c.in-Some.ensures.item.3 in
    let same : c.deref.result.now ≡ c.args.unit.now.service.answer.items = search (rules, c.deref.ensures) in
    answer_bears (g.S.Site.state c.args.site.now).own c.in-Some.request.now request c.args.unit.now.pending.items front.0 rest c.deref.result.now c.args.unit.now.service.answer.items _ _ front.1 parts same
    c.deliver_unit.ensures.bears

pub returns-in-Err-NoMemory-clause-bears : goal.returns-in-Err-NoMemory-clause-bears
returns-in-Err-NoMemory-clause-bears g c = λ request rest parts.
    let front = front_is _ _ c.in-Some.ensures.item.3 in
    let same : c.deref.result.now ≡ c.args.unit.now.service.answer.items = search (rules, c.deref.ensures) in
    answer_bears (g.S.Site.state c.args.site.now).own c.in-Some.request.now request c.args.unit.now.pending.items front.0 rest c.deref.result.now c.args.unit.now.service.answer.items _ _ front.1 parts same
    c.deliver_unit.ensures.bears

pub returns-in-Err-Refused-clause-missed : goal.returns-in-Err-Refused-clause-missed
returns-in-Err-Refused-clause-missed g c = λ is alone.
    stays_after (g.S.Site.state c.args.site.now).client (g.S.Site.state c.args.site.now) (g.S.Site.state c.deliver_unit.new.self) (known_equal _ _ refl) alone c.deliver_unit.ensures.advances
    (subst (λ (r : Result ⊤ Halt). OnErr r (client_known (g.S.Site.state c.deliver_unit.new.self) ≡ client_known (g.S.Site.state c.args.site.now))) c.in-Err-Refused.is c.deliver_unit.ensures.missed)

pub returns-in-Ok-clause-may : goal.returns-in-Ok-clause-may
returns-in-Ok-clause-may g c = λ is alone request rest parts.
    let front = front_is _ _ c.in-Some.ensures.item.3 in
    let same : c.deref.result.now ≡ c.args.unit.now.service.answer.items = search (rules, c.deref.ensures) in
    subst (λ (z : Request × List ℕ). MayHold (g.S.Site.state c.args.site.now).client Write z.0.address (length z.1))
    (λ i. (first_same c.args.unit.now.pending.items c.in-Some.request.now request front.0 rest front.1 parts i, same i)) (c.in-Ok.ensures.may alone)
