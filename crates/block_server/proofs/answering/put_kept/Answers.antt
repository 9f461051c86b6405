use Rattle.block_server.specs.declared.line.Line.{Line}
use Rattle.block_server.specs.Books.{credits_of, is_up}
use Rattle.std.proofs.Common.{ap, refl, rules, subst, true, ◌≡◌, ◌∙◌, ◌++◌, List, [], ◌∷◌, length, Some}
use Rattle.crq_ring.specs.declared.rows.PipeRow.{PipeRow}
use Rattle.vio_num.specs.declared.history.Served.{Served}
use Rattle.block_server.specs.Answering.{responses}
use Rattle.block_server.specs.Entries.{is_response}
use Rattle.block_server.specs.Kept.{kept_entry}
use Rattle.block_server.specs.Serving.{IsServing, SettlesRow, desk_of}
use Rattle.block_server.specs.Stage.{has_answer}
use Rattle.block_server.specs.declared.line.Kept.TheVariants as keeps
use Rattle.block_server.specs.declared.service.Stage.{Stage}
use Rattle.block_server.proofs.Agreeing.{agrees_same}
use Rattle.block_server.proofs.Readying.{full_later, full_now, idles_on, idles_reserves, idles_same, send_idles}
use Rattle.block_server.proofs.Onces.{once_cleared, once_same, once_settled, once_still, responses_plain, unkept}
use Rattle.block_server.proofs.Serves.{none_sent}
use Rattle.block_server.proofs.Keeping.{keeps_finished, keeps_kept, moved_to}
use Rattle.block_server.proofs.Booking.{passed_next}
use Rattle.block_server.proofs.Taking.{passed_session, waiting_stands}
use Rattle.block_server.specs.Books.{next_of}
use Rattle.block_server.specs.Receipts.{is_ended}
use Rattle.block_server.specs.declared.logins.Logins.{Logins}
use Rattle.std.proofs.Common.{None, sym, ℕ}
use Rattle.block_server.proofs.Booking.{kept_stage}
use Rattle.block_server.specs.Judged.{keys_of}
use Rattle.crq_session.specs.EndState.{EndPlace}
use Rattle.block_server.specs.Owed.{row_states, owing_of, row_in}
use Rattle.block_server.proofs.Owing.{owes_seen, seen_same}
use Rattle.block_server.proofs.OwingCalls.{entry_going, owes_discarded, seen_on, seen_reserves, seen_sends}
use Rattle.block_server.proofs.CopyKinds.{still_pages}
use Rattle.block_server.specs.Cargo.{is_moving, rows_of}
use Rattle.block_server.proofs.Cargoes.{named_same, none_seen}
use Rattle.block_server.proofs.Ledgers.{explains_same, explains_stands}
use Rattle.block_server.proofs.Taking.{ended_stands, passed_taken}
use Rattle.block_server.specs.Refusals.{AreAccounted, ledger_at, ledger_of}
use Rattle.block_server.specs.Entries.{IsPlain}
use Rattle.block_server.specs.LoginAnswers.{login_answers, login_put}
use Rattle.block_server.specs.Serving.{IsAnswerKept}
use Rattle.block_server.proofs.LoginPuts.{logins_plain, logins_put, logins_same}
use Rattle.block_server.proofs.Settling.{explains_finished}
use Rattle.block_server.proofs.ComingParts.{comes_finished, comes_none, work_put}
use Rattle.block_server.proofs.Quieting.{still_on, still_reserves}
use Rattle.block_server.specs.Steps.{NoStage}
use Rattle.std.proofs.Common.{inl}
use Rattle.block_server.proofs.Advancing.{advances_same}
use Rattle.block_server.proofs.Dropping.{discarded_closed, known_within}
use Rattle.std.proofs.Common.{inl}
use Rattle.block_server.specs.Doings.{doing}
use Rattle.block_server.proofs.DoingAsides.{doing_same, doing_unsent, sends_kept}
use Rattle.block_server.proofs.DoingReplies.{PutsOrLoses, loses_reach, puts_reach, reach_on, reached_sent, shut_reach}
use Rattle.block_server.proofs.DoingAnswers.{answer_kept, does_lose, does_put, does_reply, loses_entry, puts_entry, reply_kept, rests_free, turn_from, turn_none, turn_one}
use Rattle.block_server.proofs.Serves.{same_sent}
use Rattle.block_server.proofs.HeardOuts.{no_room}
use Rattle.block_server.proofs.ServedOuts.{drops_less}
use Rattle.block_server.proofs.answering.put_kept.Goals as goal

pub returns-in_default-clause-once : goal.returns-in_default-clause-once
returns-in_default-clause-once g c = λ disk serving. once_same _ _ _ _ _ _ refl refl refl disk serving

pub returns-in_err-make_room-clause-once : goal.returns-in_err-make_room-clause-once
returns-in_err-make_room-clause-once g c = λ disk serving. once_same _ _ _ _ _ _ refl c.make_room.ensures.lists.history refl disk serving

pub returns-in_err-make_room-2-clause-once : goal.returns-in_err-make_room-2-clause-once
returns-in_err-make_room-2-clause-once g c = λ disk serving. once_same _ _ _ _ _ _ refl c.make_room.ensures.lists.history refl disk serving

pub returns-in_err-reserve-clause-once : goal.returns-in_err-reserve-clause-once
returns-in_err-reserve-clause-once g c = λ disk serving.
    once_same _ _ _ _ _ _ refl c.make_room.ensures.lists.history (ap responses c.reserve.ensures.rest.sent) disk serving

pub returns-in-Dropped-clause-once : goal.returns-in-Dropped-clause-once
returns-in-Dropped-clause-once g c = λ disk serving.
    once_same _ _ _ _ _ _ refl c.make_room.ensures.lists.history (ap responses (c.in-Dropped.ensures.dropped.sent ∙ c.reserve.ensures.rest.sent)) disk serving

pub returns-in-Answer-clause-once : goal.returns-in-Answer-clause-once
returns-in-Answer-clause-once g c = λ disk serving.
    let is = serving.kept (keeps.Answer c.in-Answer.entry c.in-Answer.outcome) (c.in-Some.is ∙ ap Some c.in-Answer.is) in
    let answer = c.args.unit.now.service.answer.items in
    let put : PipeRow = record { session = (g.S.Site.state c.send.new.self).queue.counts.partner_session; entry = c.entry.result } in
    once_settled _ _ _ _ _ _ put is.request is.rest disk serving c.settle.ensures.id c.settle.ensures.stage c.settle.ensures.kept is.front c.settle.ensures.pending
    (c.entry.ensures ∙ ap kept_entry c.in-Answer.is ∙ is.entry_is)
    (c.in-Success.ensures.success.puts.sent ∙ ap (λ (rows : List PipeRow). rows ++ put ∷ []) c.reserve.ensures.rest.sent)
    c.in-Answer.outcome is.stage
    (subst (λ (stage : Stage). has_answer stage (length answer) ≡ true) is.stage c.args.unit.now.service.answered)
    (subst (λ (rows : List Served). SettlesRow c.in-Answer.outcome answer rows c.settle.new.records.history.items) c.make_room.ensures.lists.history c.settle.ensures.row)

pub returns-in_default-kept-clause-once : goal.returns-in_default-kept-clause-once
returns-in_default-kept-clause-once g c = λ disk serving.
    let is = serving.kept (keeps.Reply c.in_default-kept.field-0) (c.in-Some.is ∙ ap Some c.in_default-kept.is) in
    once_still _ _ _ _ _ _ refl refl refl refl refl refl refl c.make_room.ensures.lists.history
    (responses_plain _ _ _ (ap is_response (c.entry.ensures ∙ ap kept_entry c.in_default-kept.is) ∙ is.no_response) c.in-Success.ensures.success.puts.sent
    ∙ ap responses c.reserve.ensures.rest.sent) disk serving

pub returns-in-Answer-kept-clause-once : goal.returns-in-Answer-kept-clause-once
returns-in-Answer-kept-clause-once g c = λ disk serving.
    once_cleared _ _ _ _ _ _ c.finish.ensures.id c.finish.ensures.stage c.finish.ensures.kept c.make_room.ensures.lists.history
    (none_sent _ _ _ _ c.in_default-send.not-Success c.in_default-send.not-Dropped c.send.ensures.closed c.send.ensures.refused
    ∙ ap responses c.reserve.ensures.rest.sent) disk c.finish.ensures.pending serving

pub returns-in_default-kept-2-clause-once : goal.returns-in_default-kept-2-clause-once
returns-in_default-kept-2-clause-once g c = λ disk serving.
    once_still _ _ _ _ _ _ refl refl refl refl refl refl refl c.make_room.ensures.lists.history
    (none_sent _ _ _ _ c.in_default-send.not-Success c.in_default-send.not-Dropped c.send.ensures.closed c.send.ensures.refused
    ∙ ap responses c.reserve.ensures.rest.sent) disk serving

pub returns-in_default-clause-agrees : goal.returns-in_default-clause-agrees
returns-in_default-clause-agrees g c = λ is. is

pub returns-in_err-make_room-clause-agrees : goal.returns-in_err-make_room-clause-agrees
returns-in_err-make_room-clause-agrees g c = λ is. is

pub returns-in_err-make_room-2-clause-agrees : goal.returns-in_err-make_room-2-clause-agrees
returns-in_err-make_room-2-clause-agrees g c = λ is. is

pub returns-in_err-reserve-clause-agrees : goal.returns-in_err-reserve-clause-agrees
returns-in_err-reserve-clause-agrees g c = agrees_same _ _ _ _ refl c.reserve.ensures.rest.registered

pub returns-in-Dropped-clause-agrees : goal.returns-in-Dropped-clause-agrees
returns-in-Dropped-clause-agrees g c = agrees_same _ _ _ _ refl (c.send.ensures.rest.registered ∙ c.reserve.ensures.rest.registered)

pub returns-in-Answer-clause-agrees : goal.returns-in-Answer-clause-agrees
returns-in-Answer-clause-agrees g c = agrees_same _ _ _ _ c.settle.ensures.handshake (c.send.ensures.rest.registered ∙ c.reserve.ensures.rest.registered)

pub returns-in_default-kept-clause-agrees : goal.returns-in_default-kept-clause-agrees
returns-in_default-kept-clause-agrees g c = agrees_same _ _ _ _ refl (c.send.ensures.rest.registered ∙ c.reserve.ensures.rest.registered)

pub returns-in-Answer-kept-clause-agrees : goal.returns-in-Answer-kept-clause-agrees
returns-in-Answer-kept-clause-agrees g c = agrees_same _ _ _ _ c.finish.ensures.handshake (c.send.ensures.rest.registered ∙ c.reserve.ensures.rest.registered)

pub returns-in_default-kept-2-clause-agrees : goal.returns-in_default-kept-2-clause-agrees
returns-in_default-kept-2-clause-agrees g c = agrees_same _ _ _ _ refl (c.send.ensures.rest.registered ∙ c.reserve.ensures.rest.registered)

pub returns-in_default-clause-waits : goal.returns-in_default-clause-waits
returns-in_default-clause-waits g c = λ moved. record { idles = idles_same _ _; none = search rules; handshake = refl; closing = refl }

pub returns-in-Dropped-clause-waits : goal.returns-in-Dropped-clause-waits
returns-in-Dropped-clause-waits g c = λ moved.
    full_later _ _ _ _ (idles_reserves _ _ _ c.reserve.ensures.rest) (full_now _ _ _ _ _ c.in-Dropped.ensures.dropped)

pub returns-in_default-kept-2-clause-waits : goal.returns-in_default-kept-2-clause-waits
returns-in_default-kept-2-clause-waits g c = λ moved. record {
  idles = idles_on _ _ _ _ (idles_reserves _ _ _ c.reserve.ensures.rest)
      (send_idles _ _ _ c.send.result c.in_default-send.not-Success c.in_default-send.not-Dropped c.send.ensures.closed c.send.ensures.refused c.send.ensures.rest);
  none = refl;
  handshake = refl;
  closing = refl;
}

pub returns-in_default-clause-books : goal.returns-in_default-clause-books
returns-in_default-clause-books g c = λ judged is. is

pub returns-in_err-make_room-clause-books : goal.returns-in_err-make_room-clause-books
returns-in_err-make_room-clause-books g c = λ judged is. moved_to _ _ judged refl refl refl refl refl refl refl refl refl (ap keys_of c.make_room.ensures.lists.history) c.make_room.ensures.lists.grants refl refl refl is

pub returns-in_err-make_room-2-clause-books : goal.returns-in_err-make_room-2-clause-books
returns-in_err-make_room-2-clause-books g c = λ judged is. moved_to _ _ judged refl refl refl refl refl refl refl refl refl (ap keys_of c.make_room.ensures.lists.history) c.make_room.ensures.lists.grants refl refl refl is

pub returns-in_err-reserve-clause-books : goal.returns-in_err-reserve-clause-books
returns-in_err-reserve-clause-books g c = λ judged is. moved_to _ _ judged refl (passed_session _ _ c.reserve.ensures.passes) (passed_next c.args.unit.now.waiting c.args.unit.now.waiting _ _ refl c.reserve.ensures.passes) refl refl refl refl refl refl (ap keys_of c.make_room.ensures.lists.history) c.make_room.ensures.lists.grants refl refl refl is

pub returns-in-Dropped-clause-books : goal.returns-in-Dropped-clause-books
returns-in-Dropped-clause-books g c = λ judged is. moved_to _ _ judged refl (passed_session _ _ (c.send.ensures.passes ∙ c.reserve.ensures.passes)) (passed_next c.args.unit.now.waiting c.args.unit.now.waiting _ _ refl (c.send.ensures.passes ∙ c.reserve.ensures.passes)) refl refl refl refl refl refl (ap keys_of c.make_room.ensures.lists.history) c.make_room.ensures.lists.grants refl refl refl is

pub returns-in-Answer-clause-books : goal.returns-in-Answer-clause-books
returns-in-Answer-clause-books g c = λ judged is.
    let stage = kept_stage c.args.unit.now.service.stage c.args.unit.now.line.kept c.in-Answer.entry c.in-Answer.outcome (c.in-Some.is ∙ ap Some c.in-Answer.is) is.kept in
    let before = moved_to _ _ judged refl (c.session.ensures ∙ passed_session _ _ (c.send.ensures.passes ∙ c.reserve.ensures.passes)) refl refl refl refl refl refl refl (ap keys_of c.make_room.ensures.lists.history) c.make_room.ensures.lists.grants refl refl refl (keeps_kept _ None judged tt is) in
    moved_to _ _ judged refl (sym c.session.ensures) (passed_next c.args.unit.now.waiting c.settle.new.unit.waiting _ _ (waiting_stands _ _ c.settle.ensures.stands) (c.send.ensures.passes ∙ c.reserve.ensures.passes)) refl refl refl refl refl refl refl refl refl refl refl
    (c.settle.ensures.books (next_of c.args.unit.now.waiting (g.S.Site.state c.args.site.now).queue) stage refl judged before)

pub returns-in_default-kept-clause-books : goal.returns-in_default-kept-clause-books
returns-in_default-kept-clause-books g c = λ judged is. moved_to _ _ judged refl (passed_session _ _ (c.send.ensures.passes ∙ c.reserve.ensures.passes)) (passed_next c.args.unit.now.waiting c.args.unit.now.waiting _ _ refl (c.send.ensures.passes ∙ c.reserve.ensures.passes)) refl refl refl refl refl refl (ap keys_of c.make_room.ensures.lists.history) c.make_room.ensures.lists.grants refl refl refl (keeps_kept _ None judged tt is)

pub returns-in_default-kept-2-clause-books : goal.returns-in_default-kept-2-clause-books
returns-in_default-kept-2-clause-books g c = λ judged is. moved_to _ _ judged refl (passed_session _ _ (c.send.ensures.passes ∙ c.reserve.ensures.passes)) (passed_next c.args.unit.now.waiting c.args.unit.now.waiting _ _ refl (c.send.ensures.passes ∙ c.reserve.ensures.passes)) refl refl refl refl refl refl (ap keys_of c.make_room.ensures.lists.history) c.make_room.ensures.lists.grants refl refl refl (keeps_kept _ None judged tt is)

pub returns-in-Answer-kept-clause-books : goal.returns-in-Answer-kept-clause-books
returns-in-Answer-kept-clause-books g c = λ judged is.
    let stage = kept_stage c.args.unit.now.service.stage c.args.unit.now.line.kept c.in-Answer-kept.entry c.in-Answer-kept.outcome (c.in-Some.is ∙ ap Some c.in-Answer-kept.is) is.kept in
    moved_to _ _ judged c.finish.ensures.id (passed_session _ _ (c.send.ensures.passes ∙ c.reserve.ensures.passes)) (passed_next c.args.unit.now.waiting c.finish.new.unit.waiting _ _ (waiting_stands _ _ c.finish.ensures.stands) (c.send.ensures.passes ∙ c.reserve.ensures.passes)) (ap (λ (l : Logins). l.current) c.finish.ensures.logins) (ap (λ (l : Logins). l.last) c.finish.ensures.logins) (ap (λ (l : Logins). l.taking) c.finish.ensures.logins) c.finish.ensures.stage c.finish.ensures.kept c.finish.ensures.pending (ap keys_of c.make_room.ensures.lists.history) c.make_room.ensures.lists.grants (ap is_ended c.finish.ensures.line) (ap (λ (line : Line). is_up line.handshake) c.finish.ensures.line) (ap credits_of c.finish.ensures.logins)
    (keeps_finished _ c.in-Answer-kept.outcome judged stage is)

pub returns-in_default-clause-answers : goal.returns-in_default-clause-answers
returns-in_default-clause-answers g c = λ judged is alone has. has

pub returns-in_err-make_room-clause-answers : goal.returns-in_err-make_room-clause-answers
returns-in_err-make_room-clause-answers g c = λ judged is alone has. owes_seen _ _ (seen_same _ _ refl) refl refl refl refl refl (ap row_states c.make_room.ensures.lists.history) c.make_room.ensures.lists.grants has

pub returns-in_err-make_room-2-clause-answers : goal.returns-in_err-make_room-2-clause-answers
returns-in_err-make_room-2-clause-answers g c = λ judged is alone has. owes_seen _ _ (seen_same _ _ refl) refl refl refl refl refl (ap row_states c.make_room.ensures.lists.history) c.make_room.ensures.lists.grants has

pub returns-in_err-reserve-clause-answers : goal.returns-in_err-reserve-clause-answers
returns-in_err-reserve-clause-answers g c = λ judged is alone has. owes_seen _ _ (seen_reserves _ _ c.reserve.ensures.rest) refl refl refl refl refl (ap row_states c.make_room.ensures.lists.history) c.make_room.ensures.lists.grants has

pub returns-in-Dropped-clause-answers : goal.returns-in-Dropped-clause-answers
returns-in-Dropped-clause-answers g c = λ judged is alone has.
    owes_seen _ _ (seen_on _ _ _ (seen_reserves _ _ c.reserve.ensures.rest) (seen_sends _ _ _ c.send.ensures.rest)) refl refl refl refl refl (ap row_states c.make_room.ensures.lists.history) c.make_room.ensures.lists.grants has

pub returns-in_default-kept-clause-answers : goal.returns-in_default-kept-clause-answers
returns-in_default-kept-clause-answers g c = λ judged is alone has.
    owes_seen _ _ (seen_on _ _ _ (seen_reserves _ _ c.reserve.ensures.rest) (seen_sends _ _ _ c.send.ensures.rest)) refl refl refl refl refl (ap row_states c.make_room.ensures.lists.history) c.make_room.ensures.lists.grants has

pub returns-in_default-kept-2-clause-answers : goal.returns-in_default-kept-2-clause-answers
returns-in_default-kept-2-clause-answers g c = λ judged is alone has.
    owes_seen _ _ (seen_on _ _ _ (seen_reserves _ _ c.reserve.ensures.rest) (seen_sends _ _ _ c.send.ensures.rest)) refl refl refl refl refl (ap row_states c.make_room.ensures.lists.history) c.make_room.ensures.lists.grants has

pub returns-in-Answer-clause-answers : goal.returns-in-Answer-clause-answers
returns-in-Answer-clause-answers g c = λ judged is alone has.
    let stage = kept_stage c.args.unit.now.service.stage c.args.unit.now.line.kept c.in-Answer.entry c.in-Answer.outcome (c.in-Some.is ∙ ap Some c.in-Answer.is) is.kept in
    c.settle.ensures.answers (g.S.Site.state c.send.new.self).queue stage (entry_going _ judged c.in-Answer.outcome is stage) (record {
      own = c.send.ensures.rest.registered ∙ c.in-Success.ensures.told;
      partner = ap (λ (p : EndPlace). p.partner_registered) c.send.ensures.rest.place ∙ c.in-Success.ensures.success.puts.partner alone;
    })
    (owes_seen _ _ (seen_on _ _ _ (seen_reserves _ _ c.reserve.ensures.rest) (seen_sends _ _ _ c.send.ensures.rest)) refl refl refl refl refl (ap row_states c.make_room.ensures.lists.history) c.make_room.ensures.lists.grants has)

pub returns-in-Answer-kept-clause-answers : goal.returns-in-Answer-kept-clause-answers
returns-in-Answer-kept-clause-answers g c = λ judged is alone has.
    owes_discarded g.S.Site.link_shared c.send.result _ judged (owing_of c.args.unit.now (g.S.Site.state c.reserve.new.self).queue c.make_room.new.self) _ alone
    (λ number is. c.in_default-send.not-Success number is) (λ number held is. c.in_default-send.not-Dropped number held is)
    c.send.ensures.closed c.send.ensures.unregistered c.send.ensures.rest is refl refl c.finish.ensures.id (ap (λ (l : Logins). l.current) c.finish.ensures.logins)
    (ap row_in c.finish.ensures.stage) (ap is_ended c.finish.ensures.line) refl refl
    (owes_seen _ _ (seen_reserves _ _ c.reserve.ensures.rest) refl refl refl refl refl (ap row_states c.make_room.ensures.lists.history) c.make_room.ensures.lists.grants has)

pub returns-in-Answer-clause-cargo : goal.returns-in-Answer-clause-cargo
returns-in-Answer-clause-cargo g c = λ terms serving.
    let is = serving.kept (keeps.Answer c.in-Answer.entry c.in-Answer.outcome) (c.in-Some.is ∙ ap Some c.in-Answer.is) in
    named_same _ _ _ _ _ _ _ _ c.settle.ensures.id
    (none_seen _ _ _ _ _ _ _ (still_pages _ _ c.send.ensures.windows ∙ still_pages _ _ c.reserve.ensures.windows) (ap is_moving is.stage) (ap is_moving c.settle.ensures.stage)
    (c.settle.ensures.rows ∙ ap rows_of c.make_room.ensures.lists.history))

pub returns-in-Answer-kept-clause-cargo : goal.returns-in-Answer-kept-clause-cargo
returns-in-Answer-kept-clause-cargo g c = λ terms serving.
    let is = serving.kept (keeps.Answer c.in-Answer-kept.entry c.in-Answer-kept.outcome) (c.in-Some.is ∙ ap Some c.in-Answer-kept.is) in
    named_same _ _ _ _ _ _ _ _ c.finish.ensures.id
    (none_seen _ _ _ _ _ _ _ (still_pages _ _ c.send.ensures.windows ∙ still_pages _ _ c.reserve.ensures.windows) (ap is_moving is.stage) (ap is_moving c.finish.ensures.stage)
    (ap rows_of c.make_room.ensures.lists.history))

pub returns-in_err-make_room-clause-refuses : goal.returns-in_err-make_room-clause-refuses
returns-in_err-make_room-clause-refuses g c = λ terms serving front knows.
    explains_stands c.args.unit.now c.args.unit.now (g.S.Site.state c.args.site.now) (g.S.Site.state c.args.site.now) c.args.records.now c.make_room.new.self refl refl refl c.make_room.ensures.lists.grants refl refl terms.told c.args.unit.now.id front

pub returns-in_err-make_room-2-clause-refuses : goal.returns-in_err-make_room-2-clause-refuses
returns-in_err-make_room-2-clause-refuses g c = λ terms serving front knows.
    explains_stands c.args.unit.now c.args.unit.now (g.S.Site.state c.args.site.now) (g.S.Site.state c.args.site.now) c.args.records.now c.make_room.new.self refl refl refl c.make_room.ensures.lists.grants refl refl terms.told c.args.unit.now.id front

pub returns-in_err-reserve-clause-refuses : goal.returns-in_err-reserve-clause-refuses
returns-in_err-reserve-clause-refuses g c = λ terms serving front knows.
    explains_stands c.args.unit.now c.args.unit.now (g.S.Site.state c.args.site.now) _ c.args.records.now c.make_room.new.self refl c.reserve.ensures.passes refl c.make_room.ensures.lists.grants (ap login_answers c.reserve.ensures.rest.sent) refl terms.told c.args.unit.now.id front

pub returns-in-Dropped-clause-refuses : goal.returns-in-Dropped-clause-refuses
returns-in-Dropped-clause-refuses g c = λ terms serving front knows.
    explains_stands c.args.unit.now c.args.unit.now (g.S.Site.state c.args.site.now) (g.S.Site.state c.send.new.self) c.args.records.now c.make_room.new.self refl (c.send.ensures.passes ∙ c.reserve.ensures.passes) refl c.make_room.ensures.lists.grants
    (ap login_answers (c.in-Dropped.ensures.dropped.sent ∙ c.reserve.ensures.rest.sent)) refl terms.told c.args.unit.now.id front

pub returns-in_default-kept-clause-refuses : goal.returns-in_default-kept-clause-refuses
returns-in_default-kept-clause-refuses g c = λ terms serving front knows.
    let is = serving.kept (keeps.Reply c.in_default-kept.field-0) (c.in-Some.is ∙ ap Some c.in_default-kept.is) in
    explains_same (ledger_of c.args.unit.now (g.S.Site.state c.args.site.now) c.args.records.now) _ (passed_session _ _ (c.send.ensures.passes ∙ c.reserve.ensures.passes)) (passed_taken _ _ (c.send.ensures.passes ∙ c.reserve.ensures.passes)) refl refl refl c.make_room.ensures.lists.grants
    (logins_plain _ _ _ (subst IsPlain (sym (c.entry.ensures ∙ ap kept_entry c.in_default-kept.is)) is) c.in-Success.ensures.success.puts.sent ∙ ap login_answers c.reserve.ensures.rest.sent) refl refl terms.told c.args.unit.now.id front

pub returns-in_default-kept-2-clause-refuses : goal.returns-in_default-kept-2-clause-refuses
returns-in_default-kept-2-clause-refuses g c = λ terms serving front knows.
    explains_same (ledger_of c.args.unit.now (g.S.Site.state c.args.site.now) c.args.records.now) _ (passed_session _ _ (c.send.ensures.passes ∙ c.reserve.ensures.passes)) (passed_taken _ _ (c.send.ensures.passes ∙ c.reserve.ensures.passes)) refl refl refl c.make_room.ensures.lists.grants
    (logins_same _ _ _ _ c.in_default-send.not-Success c.in_default-send.not-Dropped c.send.ensures.closed c.send.ensures.refused ∙ ap login_answers c.reserve.ensures.rest.sent) refl refl terms.told c.args.unit.now.id front

pub returns-in-Answer-clause-refuses : goal.returns-in-Answer-clause-refuses
returns-in-Answer-clause-refuses g c = λ terms serving front knows is.
    let unit = c.args.unit.now in
    let old = g.S.Site.state c.args.site.now in
    let sent = g.S.Site.state c.send.new.self in
    let answers = login_answers old.queue.sent in
    let has = serving.kept (keeps.Answer c.in-Answer.entry c.in-Answer.outcome) (c.in-Some.is ∙ ap Some c.in-Answer.is) in
    let entry_is = c.entry.ensures ∙ ap kept_entry c.in-Answer.is in
    let kept : IsAnswerKept (record (desk_of unit) { kept = None }) c.entry.result c.in-Answer.outcome =
    record { request = has.request; rest = has.rest; front = has.front; stage = has.stage; entry_is = entry_is ∙ has.entry_is } in
    let put = answers ++ login_put c.entry.result in
    explains_same (ledger_at c.settle.new.unit sent.queue.last_session sent.queue.taken put c.settle.new.records) (ledger_of c.settle.new.unit sent c.settle.new.records)
    refl refl refl refl refl refl (logins_put _ _ _ c.in-Success.ensures.success.puts.sent ∙ ap (λ rows. login_answers rows ++ login_put c.entry.result) c.reserve.ensures.rest.sent) refl refl terms.told unit.id front
    (subst (λ (session : ℕ). AreAccounted terms.told unit.id front (ledger_at unit session sent.queue.taken answers c.make_room.new.self)
    → AreAccounted terms.told unit.id front (ledger_at c.settle.new.unit session sent.queue.taken put c.settle.new.records))
    c.session.ensures
    (c.settle.ensures.refuses terms sent.queue.taken answers c.entry.result kept
    (unkept terms (desk_of unit) _ (subst (IsServing terms (desk_of unit)) (sym c.make_room.ensures.lists.history) serving)) front)
    (explains_same (ledger_of unit old c.args.records.now) (ledger_at unit sent.queue.last_session sent.queue.taken answers c.make_room.new.self)
    (passed_session _ _ (c.send.ensures.passes ∙ c.reserve.ensures.passes)) (passed_taken _ _ (c.send.ensures.passes ∙ c.reserve.ensures.passes)) refl refl refl
    c.make_room.ensures.lists.grants refl refl refl terms.told unit.id front is))

pub returns-in-Answer-kept-clause-refuses : goal.returns-in-Answer-kept-clause-refuses
returns-in-Answer-kept-clause-refuses g c = λ terms serving front knows.
    let kept = serving.kept (keeps.Answer c.in-Answer-kept.entry c.in-Answer-kept.outcome) (c.in-Some.is ∙ ap Some c.in-Answer-kept.is) in
    explains_finished terms (desk_of c.args.unit.now) c.args.records.now.history.items (ledger_of c.args.unit.now (g.S.Site.state c.args.site.now) c.args.records.now) (ledger_of c.finish.new.unit (g.S.Site.state c.send.new.self) c.make_room.new.self) c.in-Answer-kept.outcome kept.stage refl (passed_session _ _ (c.send.ensures.passes ∙ c.reserve.ensures.passes))
    (passed_taken _ _ (c.send.ensures.passes ∙ c.reserve.ensures.passes)) (waiting_stands _ _ c.finish.ensures.stands) (ended_stands _ _ c.finish.ensures.stands) c.finish.ensures.pending c.make_room.ensures.lists.grants
    (logins_same _ _ _ _ c.in_default-send.not-Success c.in_default-send.not-Dropped c.send.ensures.closed c.send.ensures.refused ∙ ap login_answers c.reserve.ensures.rest.sent) c.finish.ensures.id (ap (λ (l : Logins). l.current) c.finish.ensures.logins) serving front
    (λ earlier some going. subst (λ (session : ℕ). front.closed session ≡ true) c.reserve.ensures.rest.last_session
    (discarded_closed g.S.Site.link_shared c.args.unit.now.line c.send.result (g.S.Site.state c.reserve.new.self).queue (g.S.Site.state c.send.new.self).queue front.closed
    (λ number is. c.in_default-send.not-Success number is) (λ number held is. c.in_default-send.not-Dropped number held is)
    c.send.ensures.closed c.send.ensures.unregistered c.send.ensures.rest
    (known_within g.S.Site.link_shared c.args.unit.now.line.handshake c.args.unit.now.line.handshake (g.S.Site.state c.args.site.now) (g.S.Site.state c.reserve.new.self)
    (g.S.Site.state c.send.new.self) (g.S.Site.state c.send.new.self) front.closed c.reserve.ensures.advances (advances_same (g.S.Site.state c.send.new.self))
    (agrees_same _ _ _ _ refl c.reserve.ensures.rest.registered) knows) going))

pub returns-in-Dropped-clause-comes : goal.returns-in-Dropped-clause-comes
returns-in-Dropped-clause-comes g c = λ terms serving.
    comes_none NoStage c.args.unit.now _ _ _ (still_on _ (g.S.Site.state c.reserve.new.self).queue _ (still_reserves _ _ c.reserve.ensures.rest) (record {
      taken = c.send.ensures.rest.taken;
      sent = c.in-Dropped.ensures.dropped.sent;
      registered = c.send.ensures.rest.registered;
      session = c.send.ensures.rest.last_session;
    })) refl refl

pub returns-in-Answer-clause-comes : goal.returns-in-Answer-clause-comes
returns-in-Answer-clause-comes g c = λ terms serving.
    let put : PipeRow = record { session = (g.S.Site.state c.send.new.self).queue.counts.partner_session; entry = c.entry.result } in
    inl (work_put (g.S.Site.state c.args.site.now).queue (g.S.Site.state c.send.new.self).queue put (c.send.ensures.rest.taken ∙ c.reserve.ensures.rest.taken)
    (c.in-Success.ensures.success.puts.sent ∙ ap (λ (rows : List PipeRow). rows ++ put ∷ []) c.reserve.ensures.rest.sent)
    (c.send.ensures.rest.last_session ∙ c.reserve.ensures.rest.last_session))

pub returns-in_default-kept-clause-comes : goal.returns-in_default-kept-clause-comes
returns-in_default-kept-clause-comes g c = λ terms serving.
    let put : PipeRow = record { session = (g.S.Site.state c.send.new.self).queue.counts.partner_session; entry = c.entry.result } in
    inl (work_put (g.S.Site.state c.args.site.now).queue (g.S.Site.state c.send.new.self).queue put (c.send.ensures.rest.taken ∙ c.reserve.ensures.rest.taken)
    (c.in-Success.ensures.success.puts.sent ∙ ap (λ (rows : List PipeRow). rows ++ put ∷ []) c.reserve.ensures.rest.sent)
    (c.send.ensures.rest.last_session ∙ c.reserve.ensures.rest.last_session))

pub returns-in-Answer-kept-clause-comes : goal.returns-in-Answer-kept-clause-comes
returns-in-Answer-kept-clause-comes g c = λ terms serving.
    let is = serving.kept (keeps.Answer c.in-Answer-kept.entry c.in-Answer-kept.outcome) (c.in-Some.is ∙ ap Some c.in-Answer-kept.is) in
    comes_finished NoStage c.args.unit.now c.finish.new.unit _ _
    (idles_on _ _ _ _ (idles_reserves _ _ _ c.reserve.ensures.rest)
    (send_idles _ _ _ c.send.result c.in_default-send.not-Success c.in_default-send.not-Dropped c.send.ensures.closed c.send.ensures.refused c.send.ensures.rest)).still
    (waiting_stands _ _ c.finish.ensures.stands) is.request is.rest is.front c.finish.ensures.pending

pub returns-in_default-kept-2-clause-comes : goal.returns-in_default-kept-2-clause-comes
returns-in_default-kept-2-clause-comes g c = λ terms serving.
    comes_none NoStage c.args.unit.now _ _ _
    (idles_on _ _ _ _ (idles_reserves _ _ _ c.reserve.ensures.rest)
    (send_idles _ _ _ c.send.result c.in_default-send.not-Success c.in_default-send.not-Dropped c.send.ensures.closed c.send.ensures.refused c.send.ensures.rest)).still refl refl

pub returns-in_default-clause-does : goal.returns-in_default-clause-does
returns-in_default-clause-does g c = λ link rests. turn_none _ _ refl rests

pub returns-in-Dropped-clause-does : goal.returns-in-Dropped-clause-does
returns-in-Dropped-clause-does g c = λ link rests.
    turn_none _ _ (doing_unsent _ c.args.unit.now (g.S.Site.state c.reserve.new.self) (g.S.Site.state c.send.new.self) c.make_room.new.self link c.send.ensures.advances.own_place c.send.ensures.rest
    c.in-Dropped.ensures.dropped.sent c.send.ensures.windows.client
    ∙ doing_same c.args.unit.now (g.S.Site.state c.args.site.now) (g.S.Site.state c.reserve.new.self) c.args.records.now c.make_room.new.self c.reserve.ensures.advances.own_place c.reserve.ensures.rest
    c.reserve.ensures.windows.client c.make_room.ensures.lists.history c.make_room.ensures.lists.grants) rests

pub returns-in_default-kept-clause-does : goal.returns-in_default-kept-clause-does
returns-in_default-kept-clause-does g c = λ link rests.
    let kept = reply_kept (doing c.args.unit.now (g.S.Site.state c.args.site.now) c.args.records.now) c.in_default-kept.field-0 (c.in-Some.is ∙ ap Some c.in_default-kept.is) rests in
    turn_from _ _ _ (doing_same c.args.unit.now (g.S.Site.state c.args.site.now) (g.S.Site.state c.reserve.new.self) c.args.records.now c.make_room.new.self c.reserve.ensures.advances.own_place c.reserve.ensures.rest
    c.reserve.ensures.windows.client c.make_room.ensures.lists.history c.make_room.ensures.lists.grants)
    (turn_one _ _ (does_reply _ _ (sends_kept _ c.args.unit.now (g.S.Site.state c.reserve.new.self) (g.S.Site.state c.send.new.self) c.make_room.new.self c.in_default-kept.field-0 link (c.in-Some.is ∙ ap Some c.in_default-kept.is)
    c.send.ensures.rest c.send.ensures.advances.own_place c.send.ensures.windows.client
    (subst (PutsOrLoses (g.S.Site.state c.reserve.new.self).queue (g.S.Site.state c.send.new.self).queue) (c.entry.ensures ∙ ap kept_entry c.in_default-kept.is)
    (puts_reach _ _ (g.S.Site.state c.send.new.self).queue _ _ link (reached_sent c.send.result _ _ c.in-Success.is c.send.ensures.told) c.send.ensures.rest c.in-Success.ensures.success))))
    (inl (record { waiting = kept.0.waiting; stage = kept.0.stage; kept = tt })))

pub returns-in_default-kept-2-clause-does : goal.returns-in_default-kept-2-clause-does
returns-in_default-kept-2-clause-does g c = λ link rests.
    let kept = reply_kept (doing c.args.unit.now (g.S.Site.state c.args.site.now) c.args.records.now) c.in_default-kept-2.field-0 (c.in-Some.is ∙ ap Some c.in_default-kept-2.is) rests in
    turn_from _ _ _ (doing_same c.args.unit.now (g.S.Site.state c.args.site.now) (g.S.Site.state c.reserve.new.self) c.args.records.now c.make_room.new.self c.reserve.ensures.advances.own_place c.reserve.ensures.rest
    c.reserve.ensures.windows.client c.make_room.ensures.lists.history c.make_room.ensures.lists.grants)
    (turn_one _ _ (does_reply _ _ (sends_kept _ c.args.unit.now (g.S.Site.state c.reserve.new.self) (g.S.Site.state c.send.new.self) c.make_room.new.self c.in_default-kept-2.field-0 link (c.in-Some.is ∙ ap Some c.in_default-kept-2.is)
    c.send.ensures.rest c.send.ensures.advances.own_place c.send.ensures.windows.client
    (loses_reach (g.S.Site.state c.reserve.new.self).queue (g.S.Site.state c.send.new.self).queue c.in_default-kept-2.field-0
    (same_sent _ _ _ _ c.in_default-send.not-Success c.in_default-send.not-Dropped c.send.ensures.closed c.send.ensures.refused)
    (shut_reach _ (g.S.Site.state c.reserve.new.self).queue (g.S.Site.state c.send.new.self).queue c.send.result link c.in_default-send.not-Success c.in_default-send.not-Dropped c.send.ensures.closed c.send.ensures.unregistered))))
    (inl (record { waiting = kept.0.waiting; stage = kept.0.stage; kept = tt })))

pub returns-in-Answer-clause-does : goal.returns-in-Answer-clause-does
returns-in-Answer-clause-does g c = λ link rests.
    let is = answer_kept (doing c.args.unit.now (g.S.Site.state c.args.site.now) c.args.records.now) c.in-Answer.entry c.in-Answer.outcome (c.in-Some.is ∙ ap Some c.in-Answer.is) rests in
    turn_from _ _ _ (doing_same c.args.unit.now (g.S.Site.state c.args.site.now) (g.S.Site.state c.reserve.new.self) c.args.records.now c.make_room.new.self c.reserve.ensures.advances.own_place c.reserve.ensures.rest
    c.reserve.ensures.windows.client c.make_room.ensures.lists.history c.make_room.ensures.lists.grants)
    (turn_one _ _ (does_put _ _ (puts_entry _ c.args.unit.now c.settle.new.unit (g.S.Site.state c.reserve.new.self) (g.S.Site.state c.send.new.self) c.make_room.new.self c.settle.new.records c.in-Answer.outcome is.request is.rest _ c.entry.result
    link is.stage is.pending (c.entry.ensures ∙ ap kept_entry c.in-Answer.is ∙ is.entry_is)
    (reach_on _ _ (reached_sent c.send.result _ _ c.in-Success.is c.send.ensures.told) (c.in-Success.ensures.success.puts.partner link))
    (puts_reach _ _ (g.S.Site.state c.send.new.self).queue _ _ link (reached_sent c.send.result _ _ c.in-Success.is c.send.ensures.told) c.send.ensures.rest c.in-Success.ensures.success)
    c.send.ensures.rest c.send.ensures.advances.own_place c.send.ensures.windows.client
    c.settle.ensures.stands c.settle.ensures.handshake c.settle.ensures.stage c.settle.ensures.kept c.settle.ensures.pending c.settle.ensures.row c.settle.ensures.logins c.settle.ensures.added))
    (rests_free c.settle.new.unit (g.S.Site.state c.send.new.self) c.settle.new.records (waiting_stands _ _ c.settle.ensures.stands ∙ is.waiting) c.settle.ensures.stage c.settle.ensures.kept))

pub returns-in-Answer-kept-clause-does : goal.returns-in-Answer-kept-clause-does
returns-in-Answer-kept-clause-does g c = λ link rests.
    let is = answer_kept (doing c.args.unit.now (g.S.Site.state c.args.site.now) c.args.records.now) c.in-Answer-kept.entry c.in-Answer-kept.outcome (c.in-Some.is ∙ ap Some c.in-Answer-kept.is) rests in
    turn_from _ _ _ (doing_same c.args.unit.now (g.S.Site.state c.args.site.now) (g.S.Site.state c.reserve.new.self) c.args.records.now c.make_room.new.self c.reserve.ensures.advances.own_place c.reserve.ensures.rest
    c.reserve.ensures.windows.client c.make_room.ensures.lists.history c.make_room.ensures.lists.grants)
    (turn_one _ _ (does_lose _ _ (loses_entry _ c.args.unit.now c.finish.new.unit (g.S.Site.state c.reserve.new.self) (g.S.Site.state c.send.new.self) c.make_room.new.self c.in-Answer-kept.outcome is.request is.rest
    link is.stage is.pending
    (shut_reach _ (g.S.Site.state c.reserve.new.self).queue (g.S.Site.state c.send.new.self).queue c.send.result link c.in_default-send.not-Success c.in_default-send.not-Dropped c.send.ensures.closed c.send.ensures.unregistered)
    (same_sent _ _ _ _ c.in_default-send.not-Success c.in_default-send.not-Dropped c.send.ensures.closed c.send.ensures.refused) c.send.ensures.rest c.send.ensures.advances.own_place c.send.ensures.windows.client
    c.finish.ensures.stands c.finish.ensures.handshake c.finish.ensures.stage c.finish.ensures.kept c.finish.ensures.pending c.finish.ensures.logins))
    (rests_free c.finish.new.unit (g.S.Site.state c.send.new.self) c.make_room.new.self (waiting_stands _ _ c.finish.ensures.stands ∙ is.waiting) c.finish.ensures.stage c.finish.ensures.kept))

pub returns-in-Dropped-clause-keeps : goal.returns-in-Dropped-clause-keeps
returns-in-Dropped-clause-keeps g c = λ is none. cc (c.in-Some.is, none)

pub returns-in-Dropped-clause-full : goal.returns-in-Dropped-clause-full
returns-in-Dropped-clause-full g c = λ link is. no_room _ _ (g.S.Site.state c.send.new.self).queue c.in-Dropped.number c.in-Dropped.held link c.send.ensures.rest.place c.in-Dropped.ensures.dropped

pub returns-in-Answer-clause-pending : goal.returns-in-Answer-clause-pending
returns-in-Answer-clause-pending g c = drops_less _ _ c.settle.ensures.pending

pub returns-in-Answer-kept-clause-pending : goal.returns-in-Answer-kept-clause-pending
returns-in-Answer-kept-clause-pending g c = drops_less _ _ c.finish.ensures.pending
