use Rattle.block_server.specs.declared.line.Line.{Line}
use Rattle.block_server.specs.Books.{credits_of, is_up}
use Rattle.std.proofs.Common.{ap, refl, subst, true, ◌≡◌, ◌∙◌, length}
use Rattle.vio_num.specs.Entry.{srp_entry}
use Rattle.block_server.specs.Answering.{responses}
use Rattle.block_server.specs.Stage.{has_answer}
use Rattle.block_server.specs.declared.service.Stage.{Stage}
use Rattle.block_server.proofs.Agreeing.{agrees_same}
use Rattle.block_server.proofs.Readying.{full_now}
use Rattle.block_server.proofs.Onces.{once_cleared, once_same, once_settled}
use Rattle.block_server.proofs.Serves.{front_is, none_sent, once_kept}
use Rattle.block_server.proofs.Keeping.{keeps_finished, keeps_kept, moved_to}
use Rattle.block_server.proofs.Booking.{passed_next}
use Rattle.block_server.proofs.Taking.{passed_session, waiting_stands}
use Rattle.block_server.specs.Books.{next_of}
use Rattle.block_server.specs.Receipts.{is_ended}
use Rattle.block_server.specs.declared.logins.Logins.{Logins}
use Rattle.std.proofs.Common.{Some, sym, ℕ}
use Rattle.block_server.specs.declared.line.Kept.TheVariants as keeps
use Rattle.crq_session.specs.EndState.{EndPlace}
use Rattle.block_server.specs.Owed.{row_in}
use Rattle.block_server.proofs.Owing.{owes_seen}
use Rattle.block_server.proofs.OwingCalls.{owes_discarded, pending_going, seen_sends}
use Rattle.block_server.proofs.CopyKinds.{still_pages}
use Rattle.block_server.specs.Cargo.{is_moving}
use Rattle.block_server.proofs.Cargoes.{named_same, none_seen}
use Rattle.block_server.proofs.Ledgers.{explains_same}
use Rattle.block_server.proofs.Taking.{ended_stands, passed_taken}
use Rattle.block_server.specs.Refusals.{AreAccounted, ledger_at, ledger_of}
use Rattle.block_server.specs.Serving.{desk_of}
use Rattle.std.proofs.Common.{◌++◌}
use Rattle.block_server.specs.LoginAnswers.{login_answers, login_put}
use Rattle.block_server.specs.Serving.{IsAnswerKept}
use Rattle.block_server.proofs.LoginPuts.{logins_put, logins_same}
use Rattle.block_server.proofs.Settling.{explains_finished}
use Rattle.block_server.proofs.Readying.{full_now, send_idles}
use Rattle.block_server.proofs.ComingParts.{comes_finished, comes_none, work_put}
use Rattle.block_server.specs.Steps.{NoStage}
use Rattle.std.proofs.Common.{inl}
use Rattle.block_server.proofs.Dropping.{discarded_closed}
use Rattle.std.proofs.Common.{◌≡◌, ◌++◌, ℕ, rules, subst}
use Rattle.block_server.specs.Talk.{settled_lines}
use Rattle.block_server.proofs.Listening.{full_no}
use Rattle.block_server.proofs.Servicing.{no_front, puts_settled, puts_turned}
use Rattle.block_server.proofs.LastRows.{settled_last}
use Rattle.block_server.proofs.AnswerBearing.{settled_row}
use Rattle.block_server.proofs.Servicing.{closed_off}
use Rattle.block_server.proofs.DoingReplies.{puts_reach, reach_on, reached_dropped, reached_sent, shut_reach}
use Rattle.block_server.proofs.DoingAnswers.{does_keep, does_lose, does_put, keeps_entry, loses_entry, puts_entry, rests_free, rests_kept}
use Rattle.block_server.proofs.Serves.{same_sent}
use Rattle.block_server.proofs.HeardOuts.{busy_less, busy_more, busy_same, heard_sent, heard_served}
use Rattle.block_server.proofs.ServedOuts.{serves_first}
use Rattle.std.proofs.Common.{inr}
use Rattle.block_server.proofs.answering.put_answer.Goals as goal

pub returns-in_default-clause-once : goal.returns-in_default-clause-once
returns-in_default-clause-once g c = λ disk serving. once_same _ _ _ _ _ _ refl refl refl disk serving

pub returns-in-Success-clause-once : goal.returns-in-Success-clause-once
returns-in-Success-clause-once g c = λ disk serving.
    let front = front_is _ _ c.in-Some.ensures.item.3 in
    once_settled _ _ _ _ _ _ _ c.in-Some.request.now front.0 disk serving c.settle.ensures.id c.settle.ensures.stage (c.settle.ensures.kept ∙ c.requires.none) front.1 c.settle.ensures.pending
    (c.answer_entry-entry.ensures.entry ∙ ap (λ n. srp_entry n c.in-Some.request.now.tag) (c.len.ensures ∙ c.args.unit.now.service.answer.ok.0))
    c.in-Success.ensures.success.puts.sent c.args.outcome c.requires.stage
    (subst (λ (stage : Stage). has_answer stage (length c.args.unit.now.service.answer.items) ≡ true) c.requires.stage c.args.unit.now.service.answered)
    c.settle.ensures.row

pub returns-in-Dropped-clause-once : goal.returns-in-Dropped-clause-once
returns-in-Dropped-clause-once g c = λ disk serving.
    let front = front_is _ _ c.in-Some.ensures.item.3 in
    once_kept _ _ _ _ _ c.answer_entry-entry.result c.args.outcome refl refl refl refl refl refl refl
    (record {
      request = c.in-Some.request.now;
      rest = front.0;
      front = front.1;
      stage = c.requires.stage;
      entry_is = c.answer_entry-entry.ensures.entry ∙ ap (λ n. srp_entry n c.in-Some.request.now.tag) (c.len.ensures ∙ c.args.unit.now.service.answer.ok.0);
    }) (ap responses c.in-Dropped.ensures.dropped.sent) disk serving

pub returns-in_default-send-clause-once : goal.returns-in_default-send-clause-once
returns-in_default-send-clause-once g c = λ disk serving.
    once_cleared _ _ _ _ _ _ c.finish.ensures.id c.finish.ensures.stage (c.finish.ensures.kept ∙ c.requires.none) refl
    (none_sent _ _ _ _ c.in_default-send.not-Success c.in_default-send.not-Dropped c.send.ensures.closed c.send.ensures.refused) disk c.finish.ensures.pending serving

pub returns-in_default-clause-agrees : goal.returns-in_default-clause-agrees
returns-in_default-clause-agrees g c = λ is. is

pub returns-in-Success-clause-agrees : goal.returns-in-Success-clause-agrees
returns-in-Success-clause-agrees g c = agrees_same _ _ _ _ c.settle.ensures.handshake c.send.ensures.rest.registered

pub returns-in-Dropped-clause-agrees : goal.returns-in-Dropped-clause-agrees
returns-in-Dropped-clause-agrees g c = agrees_same _ _ _ _ refl c.send.ensures.rest.registered

pub returns-in_default-send-clause-agrees : goal.returns-in_default-send-clause-agrees
returns-in_default-send-clause-agrees g c = agrees_same _ _ _ _ c.finish.ensures.handshake c.send.ensures.rest.registered

pub returns-in-Dropped-clause-waits : goal.returns-in-Dropped-clause-waits
returns-in-Dropped-clause-waits g c = λ moved pending. full_now _ _ _ _ _ c.in-Dropped.ensures.dropped

pub returns-in_default-clause-books : goal.returns-in_default-clause-books
returns-in_default-clause-books g c = λ judged is. is

pub returns-in-Success-clause-books : goal.returns-in-Success-clause-books
returns-in-Success-clause-books g c = λ judged is.
    let before = moved_to _ _ judged refl (c.session.ensures ∙ passed_session _ _ c.send.ensures.passes) refl refl refl refl refl refl refl refl refl refl refl refl is in
    moved_to _ _ judged refl (sym c.session.ensures) (passed_next c.args.unit.now.waiting c.settle.new.unit.waiting _ _ (waiting_stands _ _ c.settle.ensures.stands) c.send.ensures.passes) refl refl refl refl refl refl refl refl refl refl refl
    (c.settle.ensures.books (next_of c.args.unit.now.waiting (g.S.Site.state c.args.site.now).queue) c.requires.stage c.requires.none judged before)

pub returns-in-Dropped-clause-books : goal.returns-in-Dropped-clause-books
returns-in-Dropped-clause-books g c = λ judged is. moved_to _ _ judged refl (passed_session _ _ c.send.ensures.passes) (passed_next c.args.unit.now.waiting c.args.unit.now.waiting _ _ refl c.send.ensures.passes) refl refl refl refl refl refl refl refl refl refl refl
    (keeps_kept _ (Some (keeps.Answer c.answer_entry-entry.result c.args.outcome)) judged c.requires.stage is)

pub returns-in_default-send-clause-books : goal.returns-in_default-send-clause-books
returns-in_default-send-clause-books g c = λ judged is. moved_to _ _ judged c.finish.ensures.id (passed_session _ _ c.send.ensures.passes) (passed_next c.args.unit.now.waiting c.finish.new.unit.waiting _ _ (waiting_stands _ _ c.finish.ensures.stands) c.send.ensures.passes) (ap (λ (l : Logins). l.current) c.finish.ensures.logins) (ap (λ (l : Logins). l.last) c.finish.ensures.logins) (ap (λ (l : Logins). l.taking) c.finish.ensures.logins) c.finish.ensures.stage (c.finish.ensures.kept ∙ c.requires.none) c.finish.ensures.pending refl refl (ap is_ended c.finish.ensures.line) (ap (λ (line : Line). is_up line.handshake) c.finish.ensures.line) (ap credits_of c.finish.ensures.logins)
    (keeps_finished _ c.args.outcome judged c.requires.stage is)

pub returns-in_default-clause-answers : goal.returns-in_default-clause-answers
returns-in_default-clause-answers g c = λ judged is alone has. has

pub returns-in-Success-clause-answers : goal.returns-in-Success-clause-answers
returns-in-Success-clause-answers g c = λ judged is alone has.
    let front = front_is _ _ c.in-Some.ensures.item.3 in
    c.settle.ensures.answers (g.S.Site.state c.send.new.self).queue c.requires.stage (pending_going _ judged c.in-Some.request.now front.0 is front.1) (record {
      own = c.send.ensures.rest.registered ∙ c.in-Success.ensures.told;
      partner = ap (λ (p : EndPlace). p.partner_registered) c.send.ensures.rest.place ∙ c.in-Success.ensures.success.puts.partner alone;
    })
    (owes_seen _ _ (seen_sends _ _ _ c.send.ensures.rest) refl refl refl refl refl refl refl has)

pub returns-in-Dropped-clause-answers : goal.returns-in-Dropped-clause-answers
returns-in-Dropped-clause-answers g c = λ judged is alone has. owes_seen _ _ (seen_sends _ _ _ c.send.ensures.rest) refl refl refl refl refl refl refl has

pub returns-in_default-send-clause-answers : goal.returns-in_default-send-clause-answers
returns-in_default-send-clause-answers g c = λ judged is alone has.
    owes_discarded g.S.Site.link_shared c.send.result _ judged _ _ alone (λ number is. c.in_default-send.not-Success number is) (λ number held is. c.in_default-send.not-Dropped number held is)
    c.send.ensures.closed c.send.ensures.unregistered c.send.ensures.rest is refl refl c.finish.ensures.id (ap (λ (l : Logins). l.current) c.finish.ensures.logins)
    (ap row_in c.finish.ensures.stage) (ap is_ended c.finish.ensures.line) refl refl has

pub returns-in-Success-clause-cargo : goal.returns-in-Success-clause-cargo
returns-in-Success-clause-cargo g c =
    named_same _ _ _ _ _ _ _ _ c.settle.ensures.id
    (none_seen _ _ _ _ _ _ _ (still_pages _ _ c.send.ensures.windows) (ap is_moving c.requires.stage) (ap is_moving c.settle.ensures.stage) c.settle.ensures.rows)

pub returns-in-Dropped-clause-cargo : goal.returns-in-Dropped-clause-cargo
returns-in-Dropped-clause-cargo g c = none_seen _ _ _ _ _ _ _ (still_pages _ _ c.send.ensures.windows) (ap is_moving c.requires.stage) (ap is_moving c.requires.stage) refl

pub returns-in_default-send-clause-cargo : goal.returns-in_default-send-clause-cargo
returns-in_default-send-clause-cargo g c =
    named_same _ _ _ _ _ _ _ _ c.finish.ensures.id
    (none_seen _ _ _ _ _ _ _ (still_pages _ _ c.send.ensures.windows) (ap is_moving c.requires.stage) (ap is_moving c.finish.ensures.stage) refl)

pub returns-in-Success-clause-refuses : goal.returns-in-Success-clause-refuses
returns-in-Success-clause-refuses g c = λ terms serving front knows is.
    let unit = c.args.unit.now in
    let first = front_is _ _ c.in-Some.ensures.item.3 in
    let old = g.S.Site.state c.args.site.now in
    let sent = g.S.Site.state c.send.new.self in
    let answers = login_answers old.queue.sent in
    let entry = c.answer_entry-entry.result in
    let put = answers ++ login_put entry in
    let kept : IsAnswerKept (desk_of unit) entry c.args.outcome = record {
      request = c.in-Some.request.now;
      rest = first.0;
      front = first.1;
      stage = c.requires.stage;
      entry_is = c.answer_entry-entry.ensures.entry ∙ ap (λ n. srp_entry n c.in-Some.request.now.tag) (c.len.ensures ∙ unit.service.answer.ok.0);
    } in
    explains_same (ledger_at c.settle.new.unit sent.queue.last_session sent.queue.taken put c.settle.new.records) (ledger_of c.settle.new.unit sent c.settle.new.records)
    refl refl refl refl refl refl (logins_put _ _ _ c.in-Success.ensures.success.puts.sent) refl refl terms.told unit.id front
    (subst (λ (session : ℕ). AreAccounted terms.told unit.id front (ledger_at unit session sent.queue.taken answers c.args.records.now)
    → AreAccounted terms.told unit.id front (ledger_at c.settle.new.unit session sent.queue.taken put c.settle.new.records))
    c.session.ensures (c.settle.ensures.refuses terms sent.queue.taken answers entry kept serving front)
    (explains_same (ledger_of unit old c.args.records.now) (ledger_at unit sent.queue.last_session sent.queue.taken answers c.args.records.now)
    (passed_session _ _ c.send.ensures.passes) (passed_taken _ _ c.send.ensures.passes) refl refl refl refl refl refl refl terms.told unit.id front is))

pub returns-in-Dropped-clause-refuses : goal.returns-in-Dropped-clause-refuses
returns-in-Dropped-clause-refuses g c = λ terms serving front knows.
    explains_same (ledger_of c.args.unit.now (g.S.Site.state c.args.site.now) c.args.records.now) _ (passed_session _ _ c.send.ensures.passes) (passed_taken _ _ c.send.ensures.passes) refl refl refl refl (ap login_answers c.in-Dropped.ensures.dropped.sent) refl refl terms.told c.args.unit.now.id front

pub returns-in_default-send-clause-refuses : goal.returns-in_default-send-clause-refuses
returns-in_default-send-clause-refuses g c = λ terms serving front knows.
    explains_finished terms (desk_of c.args.unit.now) c.args.records.now.history.items (ledger_of c.args.unit.now (g.S.Site.state c.args.site.now) c.args.records.now) (ledger_of c.finish.new.unit (g.S.Site.state c.send.new.self) c.args.records.now) c.args.outcome c.requires.stage refl (passed_session _ _ c.send.ensures.passes) (passed_taken _ _ c.send.ensures.passes)
    (waiting_stands _ _ c.finish.ensures.stands) (ended_stands _ _ c.finish.ensures.stands) c.finish.ensures.pending refl
    (logins_same _ _ _ _ c.in_default-send.not-Success c.in_default-send.not-Dropped c.send.ensures.closed c.send.ensures.refused) c.finish.ensures.id (ap (λ (l : Logins). l.current) c.finish.ensures.logins) serving front
    (λ earlier some. discarded_closed g.S.Site.link_shared c.args.unit.now.line c.send.result (g.S.Site.state c.args.site.now).queue (g.S.Site.state c.send.new.self).queue front.closed
    (λ number is. c.in_default-send.not-Success number is) (λ number held is. c.in_default-send.not-Dropped number held is)
    c.send.ensures.closed c.send.ensures.unregistered c.send.ensures.rest knows)

pub returns-in-Success-clause-comes : goal.returns-in-Success-clause-comes
returns-in-Success-clause-comes g c =
    inl (work_put (g.S.Site.state c.args.site.now).queue (g.S.Site.state c.send.new.self).queue _ c.send.ensures.rest.taken c.in-Success.ensures.success.puts.sent c.send.ensures.rest.last_session)

pub returns-in-Dropped-clause-comes : goal.returns-in-Dropped-clause-comes
returns-in-Dropped-clause-comes g c =
    comes_none NoStage _ _ _ _ (record {
      taken = c.send.ensures.rest.taken;
      sent = c.in-Dropped.ensures.dropped.sent;
      registered = c.send.ensures.rest.registered;
      session = c.send.ensures.rest.last_session;
    }) refl refl

pub returns-in_default-send-clause-comes : goal.returns-in_default-send-clause-comes
returns-in_default-send-clause-comes g c =
    let front = front_is _ _ c.in-Some.ensures.item.3 in
    comes_finished NoStage _ _ _ _
    (send_idles _ _ _ c.send.result c.in_default-send.not-Success c.in_default-send.not-Dropped c.send.ensures.closed c.send.ensures.refused c.send.ensures.rest).still
    (waiting_stands _ _ c.finish.ensures.stands) c.in-Some.request.now front.0 front.1 c.finish.ensures.pending

pub returns-in_default-clause-serves : goal.returns-in_default-clause-serves
returns-in_default-clause-serves g c = λ request rest alone on room parts. absurd (no_front _ request rest parts (search rules))

pub returns-in-Dropped-clause-serves : goal.returns-in-Dropped-clause-serves
returns-in-Dropped-clause-serves g c = λ request rest alone on room parts. absurd (full_no _ _ _ _ _ alone c.send.ensures.rest room c.in-Dropped.ensures.dropped)

pub returns-in-Success-clause-serves : goal.returns-in-Success-clause-serves
returns-in-Success-clause-serves g c = λ request rest alone on room parts.
    let front = front_is _ _ c.in-Some.ensures.item.3 in
    puts_settled _ c.args.unit.now c.settle.new.unit _ _ _ _ c.args.outcome _ _ _ c.in-Some.request.now request front.0 rest alone c.send.ensures.rest c.in-Success.ensures.success front.1 parts (search rules)
    (record { pending = c.settle.ensures.pending; line = c.settle.ensures.line; waiting = waiting_stands _ _ c.settle.ensures.stands; stage = c.settle.ensures.stage })
    c.settle.ensures.logins (subst (λ (n : ℕ). c.settle.new.records.grants.items ≡ c.args.records.now.grants.items ++ settled_lines c.args.outcome c.args.unit.now.id n c.args.unit.now.logins)
    (c.session.ensures ∙ c.send.ensures.rest.last_session) c.settle.ensures.added)

pub returns-in_default-send-clause-serves : goal.returns-in_default-send-clause-serves
returns-in_default-send-clause-serves g c = λ request rest alone on room parts.
    let front = front_is _ _ c.in-Some.ensures.item.3 in
    puts_turned _ c.args.unit.now c.finish.new.unit _ _ _ c.args.outcome c.answer_entry-entry.result c.send.result _ c.in-Some.request.now request front.0 rest alone on c.send.ensures.rest
    c.in_default-send.not-Success c.in_default-send.not-Dropped c.send.ensures.closed c.send.ensures.unregistered front.1 parts (search rules)
    (record { pending = c.finish.ensures.pending; line = c.finish.ensures.line; waiting = waiting_stands _ _ c.finish.ensures.stands; stage = c.finish.ensures.stage }) c.finish.ensures.logins

pub returns-in-Success-clause-client : goal.returns-in-Success-clause-client
returns-in-Success-clause-client g c = c.send.ensures.windows.client

pub returns-in-Dropped-clause-client : goal.returns-in-Dropped-clause-client
returns-in-Dropped-clause-client g c = c.send.ensures.windows.client

pub returns-in_default-send-clause-client : goal.returns-in_default-send-clause-client
returns-in_default-send-clause-client g c = c.send.ensures.windows.client

pub returns-in-Success-clause-rows : goal.returns-in-Success-clause-rows
returns-in-Success-clause-rows g c = settled_last c.args.outcome _ _ _ c.settle.ensures.row

pub returns-in_default-clause-kept : goal.returns-in_default-clause-kept
returns-in_default-clause-kept g c = refl

pub returns-in-Dropped-clause-kept : goal.returns-in-Dropped-clause-kept
returns-in-Dropped-clause-kept g c = refl

pub returns-in-Success-clause-kept : goal.returns-in-Success-clause-kept
returns-in-Success-clause-kept g c = c.settle.ensures.rows

pub returns-in_default-send-clause-kept : goal.returns-in_default-send-clause-kept
returns-in_default-send-clause-kept g c = refl

pub returns-in_default-clause-settled : goal.returns-in_default-clause-settled
returns-in_default-clause-settled g c = λ request rest place parts alone on room both is row there. absurd (no_front _ request rest parts (search rules))

pub returns-in-Dropped-clause-settled : goal.returns-in-Dropped-clause-settled
returns-in-Dropped-clause-settled g c = λ request rest place parts alone on room both is row there. absurd (full_no _ _ _ _ _ alone c.send.ensures.rest room c.in-Dropped.ensures.dropped)

pub returns-in-Success-clause-settled : goal.returns-in-Success-clause-settled
returns-in-Success-clause-settled g c = λ request rest place parts alone on room both is row there. settled_row c.args.outcome place _ _ _ row c.settle.ensures.row is there

pub returns-in_default-send-clause-settled : goal.returns-in_default-send-clause-settled
returns-in_default-send-clause-settled g c = λ request rest place parts alone on room both is row there.
    let none = closed_off _ (g.S.Site.state c.args.site.now).queue (g.S.Site.state c.send.new.self).queue c.send.result alone on c.in_default-send.not-Success c.in_default-send.not-Dropped c.send.ensures.closed c.send.ensures.unregistered in
    absurd (cc (both, none))

pub returns-in_default-clause-does : goal.returns-in_default-clause-does
returns-in_default-clause-does g c = λ request rest parts alone. absurd (no_front _ request rest parts (search rules))

pub returns-in-Success-clause-does : goal.returns-in-Success-clause-does
returns-in-Success-clause-does g c = λ request rest parts alone.
    let front = front_is _ _ c.in-Some.ensures.item.3 in
    let on = reached_sent c.send.result _ _ c.in-Success.is c.send.ensures.told in
    does_put _ _ (puts_entry _ c.args.unit.now c.settle.new.unit (g.S.Site.state c.args.site.now) (g.S.Site.state c.send.new.self) c.args.records.now c.settle.new.records c.args.outcome c.in-Some.request.now front.0 _ c.answer_entry-entry.result
    alone c.requires.stage front.1 (c.answer_entry-entry.ensures.entry ∙ ap (λ n. srp_entry n c.in-Some.request.now.tag) (c.len.ensures ∙ c.args.unit.now.service.answer.ok.0))
    (reach_on _ _ on (c.in-Success.ensures.success.puts.partner alone)) (puts_reach _ _ (g.S.Site.state c.send.new.self).queue _ _ alone on c.send.ensures.rest c.in-Success.ensures.success)
    c.send.ensures.rest c.send.ensures.advances.own_place c.send.ensures.windows.client
    c.settle.ensures.stands c.settle.ensures.handshake c.settle.ensures.stage (c.settle.ensures.kept ∙ c.requires.none) c.settle.ensures.pending c.settle.ensures.row c.settle.ensures.logins c.settle.ensures.added)

pub returns-in-Dropped-clause-does : goal.returns-in-Dropped-clause-does
returns-in-Dropped-clause-does g c = λ request rest parts alone.
    let front = front_is _ _ c.in-Some.ensures.item.3 in
    does_keep _ _ (keeps_entry _ c.args.unit.now (Some (keeps.Answer c.answer_entry-entry.result c.args.outcome)) (g.S.Site.state c.args.site.now) (g.S.Site.state c.send.new.self) c.args.records.now c.args.outcome c.in-Some.request.now front.0
    c.answer_entry-entry.result alone c.requires.stage c.requires.none front.1 (c.answer_entry-entry.ensures.entry ∙ ap (λ n. srp_entry n c.in-Some.request.now.tag) (c.len.ensures ∙ c.args.unit.now.service.answer.ok.0))
    refl (reach_on _ _ (reached_dropped c.send.result _ _ _ c.in-Dropped.is c.send.ensures.told) (c.in-Dropped.ensures.dropped.partner alone)) c.in-Dropped.ensures.dropped.sent
    c.send.ensures.rest c.send.ensures.advances.own_place c.send.ensures.windows.client)

pub returns-in_default-send-clause-does : goal.returns-in_default-send-clause-does
returns-in_default-send-clause-does g c = λ request rest parts alone.
    let front = front_is _ _ c.in-Some.ensures.item.3 in
    does_lose _ _ (loses_entry _ c.args.unit.now c.finish.new.unit (g.S.Site.state c.args.site.now) (g.S.Site.state c.send.new.self) c.args.records.now c.args.outcome c.in-Some.request.now front.0
    alone c.requires.stage front.1
    (shut_reach _ (g.S.Site.state c.args.site.now).queue (g.S.Site.state c.send.new.self).queue c.send.result alone c.in_default-send.not-Success c.in_default-send.not-Dropped c.send.ensures.closed c.send.ensures.unregistered)
    (same_sent _ _ _ _ c.in_default-send.not-Success c.in_default-send.not-Dropped c.send.ensures.closed c.send.ensures.refused) c.send.ensures.rest c.send.ensures.advances.own_place c.send.ensures.windows.client
    c.finish.ensures.stands c.finish.ensures.handshake c.finish.ensures.stage (c.finish.ensures.kept ∙ c.requires.none) c.finish.ensures.pending c.finish.ensures.logins)

pub returns-in_default-clause-free : goal.returns-in_default-clause-free
returns-in_default-clause-free g c = λ request rest parts alone waiting going. absurd (no_front _ request rest parts (search rules))

pub returns-in-Success-clause-free : goal.returns-in-Success-clause-free
returns-in-Success-clause-free g c = λ request rest parts alone waiting going.
    rests_free c.settle.new.unit (g.S.Site.state c.send.new.self) c.settle.new.records (waiting_stands _ _ c.settle.ensures.stands ∙ waiting) c.settle.ensures.stage (c.settle.ensures.kept ∙ c.requires.none)

pub returns-in-Dropped-clause-free : goal.returns-in-Dropped-clause-free
returns-in-Dropped-clause-free g c = λ request rest parts alone waiting going.
    let front = front_is _ _ c.in-Some.ensures.item.3 in
    rests_kept c.args.unit.now (Some (keeps.Answer c.answer_entry-entry.result c.args.outcome)) (g.S.Site.state c.send.new.self) c.args.records.now c.args.outcome c.in-Some.request.now front.0 c.answer_entry-entry.result
    c.requires.stage front.1 (c.answer_entry-entry.ensures.entry ∙ ap (λ n. srp_entry n c.in-Some.request.now.tag) (c.len.ensures ∙ c.args.unit.now.service.answer.ok.0))
    refl waiting going

pub returns-in_default-send-clause-free : goal.returns-in_default-send-clause-free
returns-in_default-send-clause-free g c = λ request rest parts alone waiting going.
    rests_free c.finish.new.unit (g.S.Site.state c.send.new.self) c.args.records.now (waiting_stands _ _ c.finish.ensures.stands ∙ waiting) c.finish.ensures.stage (c.finish.ensures.kept ∙ c.requires.none)

pub returns-in_default-clause-hears : goal.returns-in_default-clause-hears
returns-in_default-clause-hears g c = heard_served _ _ _ (busy_more _ _ (busy_same _ _ refl refl refl))

pub returns-in-Success-clause-hears : goal.returns-in-Success-clause-hears
returns-in-Success-clause-hears g c = heard_sent _ _ _ _ _ c.send.ensures.rest (busy_less _ _ (ap (λ (l : Line). l.closing) c.settle.ensures.line) (waiting_stands _ _ c.settle.ensures.stands) c.settle.ensures.pending)

pub returns-in-Dropped-clause-hears : goal.returns-in-Dropped-clause-hears
returns-in-Dropped-clause-hears g c = heard_sent _ _ _ _ _ c.send.ensures.rest (busy_more _ _ (busy_same _ _ refl refl refl))

pub returns-in_default-send-clause-hears : goal.returns-in_default-send-clause-hears
returns-in_default-send-clause-hears g c = heard_sent _ _ _ _ _ c.send.ensures.rest (busy_less _ _ (ap (λ (l : Line). l.closing) c.finish.ensures.line) (waiting_stands _ _ c.finish.ensures.stands) c.finish.ensures.pending)

pub returns-in_default-clause-stops : goal.returns-in_default-clause-stops
returns-in_default-clause-stops g c = λ request rest parts. absurd (no_front _ request rest parts (search rules))

pub returns-in-Success-clause-stops : goal.returns-in-Success-clause-stops
returns-in-Success-clause-stops g c = λ request rest parts. serves_first c.args.unit.now c.settle.new.unit request rest parts c.settle.ensures.pending

pub returns-in-Dropped-clause-stops : goal.returns-in-Dropped-clause-stops
returns-in-Dropped-clause-stops g c = λ request rest parts. inl (inr (λ none. cc (none)))

pub returns-in_default-send-clause-stops : goal.returns-in_default-send-clause-stops
returns-in_default-send-clause-stops g c = λ request rest parts. serves_first c.args.unit.now c.finish.new.unit request rest parts c.finish.ensures.pending
