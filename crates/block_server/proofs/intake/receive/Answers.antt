use Rattle.block_server.specs.Cargo.{Pages}
use Rattle.std.proofs.Common.{ap, refl, rules, ◌∙◌}
use Rattle.crq_session.specs.EndState.{EndState}
use Rattle.block_server.specs.Answering.{responses}
use Rattle.std.specs.Result.{IsErrOf}
use Rattle.block_server.specs.declared.site.Halt.TheVariants.{Busy}
use Rattle.block_server.proofs.Onces.{once_same, once_then}
use Rattle.block_server.proofs.Hearing.{heard_fetched}
use Rattle.block_server.proofs.Taking.{lines_same, takes_ended, takes_fetched, takes_none}
use Rattle.block_server.proofs.Advancing.{advances_same}
use Rattle.vio_num.specs.declared.history.Lapse.TheVariants.{BadIu, Early, Refused}
use Rattle.block_server.specs.Receipts.{is_ended}
use Rattle.std.proofs.Common.{length, subst}
use Rattle.vio_num.specs.Entry.{iu_address, iu_length}
use Rattle.tce_window.specs.declared.answers.Right.TheVariants.{Read}
use Rattle.block_server.specs.Talk.{IsReadWhole, reach_of}
use Rattle.block_server.specs.declared.site.Halt.TheVariants as halts
use Rattle.block_server.proofs.GoingOn.{missed_is}
use Rattle.block_server.proofs.Deciding.{waits_going}
use Rattle.block_server.proofs.GoingOn.{bad_len, early_entry, none_waits, up_is}
use Rattle.block_server.proofs.Jointly.{judges_over, judges_received, works_pass}
use Rattle.std.proofs.Common.{inl}
use Rattle.std.proofs.Common.{sym}
use Rattle.block_server.proofs.Owing.{has_cut_of, owes_seen, seen_same}
use Rattle.block_server.specs.Owed.{row_in}
use Rattle.block_server.proofs.Cargoes.{sees, shown_same}
use Rattle.block_server.proofs.Hands.{keeps_on, keeps_same}
use Rattle.block_server.proofs.Ledgers.{on_ends, explained_ended, explains_same, explains_stands}
use Rattle.block_server.proofs.Refusing.{denied_unit, waits_at, waits_open}
use Rattle.vio_num.specs.declared.history.Grant.TheVariants.{Lapsed}
use Rattle.block_server.specs.Refusals.{basis_in, ledger_at, ledger_of, waiting_in}
use Rattle.block_server.specs.LoginAnswers.{login_answers}
use Rattle.std.proofs.Common.{inl, sym}
use Rattle.block_server.proofs.OwingCalls.{closing_ended}
use Rattle.std.proofs.Common.{ℕ}
use Rattle.std.proofs.Common.{inl, inr}
use Rattle.block_server.proofs.Talking.{long_enough, not_denied, not_in_use, received_as}
use Rattle.block_server.proofs.LastRows.{ended_idle, idle_same}
use Rattle.tce_window.specs.PortState.{PortPlace}
use Rattle.block_server.specs.Doings.{before_hearing, doing}
use Rattle.block_server.proofs.DoingEnds.{drops_heard, keeps_none, left_at_start}
use Rattle.block_server.proofs.DoingHears.{drops_freely}
use Rattle.block_server.proofs.Doings.{does_one}
use Rattle.block_server.proofs.Reading.{known_same, reads_known}
use Rattle.block_server.specs.HeardOut.HearsOut.{over, waits}
use Rattle.block_server.proofs.ServedOuts.{brings_end, brings_none}
use Rattle.block_server.proofs.intake.receive.Goals as goal

pub returns-in-Ok-clause-once : goal.returns-in-Ok-clause-once
returns-in-Ok-clause-once g c =
    λ disk all. once_then disk disk disk _ _ _ _ _ _ _ _ _ (once_same _ _ _ _ _ _ refl refl (ap (λ (q : EndState). responses q.sent) c.fetch_unit.ensures.queue) disk)
    (c.judge.ensures.once (g.S.Site.state c.fetch_unit.new.self).queue disk
    (heard_fetched disk.terms.told c.args.unit.now.id _ _ _ _ _ c.iu_address.ensures all c.in-Ok.ensures.fetched))

pub returns-in-Err-Refused-clause-once : goal.returns-in-Err-Refused-clause-once
returns-in-Err-Refused-clause-once g c =
    λ disk all. once_then disk disk disk _ _ _ _ _ _ _ _ _ (once_same _ _ _ _ _ _ refl refl (ap (λ (q : EndState). responses q.sent) c.fetch_unit.ensures.queue) disk)
    (c.end_session-in-Err-Refused.ensures.once (g.S.Site.state c.fetch_unit.new.self).queue disk)

pub returns-in-Err-Busy-clause-once : goal.returns-in-Err-Busy-clause-once
returns-in-Err-Busy-clause-once g c = λ disk all serving. once_same _ _ _ _ _ _ refl refl (ap (λ (q : EndState). responses q.sent) c.fetch_unit.ensures.queue) disk serving

pub returns-in-Err-NoMemory-clause-once : goal.returns-in-Err-NoMemory-clause-once
returns-in-Err-NoMemory-clause-once g c = λ disk all serving. once_same _ _ _ _ _ _ refl refl (ap (λ (q : EndState). responses q.sent) c.fetch_unit.ensures.queue) disk serving

pub returns-then-not-is_up-clause-once : goal.returns-then-not-is_up-clause-once
returns-then-not-is_up-clause-once g c = λ disk all. c.end_session.ensures.once (g.S.Site.state c.args.site.now).queue disk

pub returns-then-len-eq0-clause-once : goal.returns-then-len-eq0-clause-once
returns-then-len-eq0-clause-once g c = λ disk all. c.end_session-then-len-eq0.ensures.once (g.S.Site.state c.args.site.now).queue disk

pub returns-in-Err-Busy-clause-waits : goal.returns-in-Err-Busy-clause-waits
returns-in-Err-Busy-clause-waits g c = λ moved.
    let busy : IsErrOf c.fetch_unit.result Busy = cc (c.in-Err-Busy.is, c.in-Err-Busy.field-0-is) in
    c.fetch_unit.ensures.busy busy

pub returns-then-not-is_up-clause-intake : goal.returns-then-not-is_up-clause-intake
returns-then-not-is_up-clause-intake g c = λ waits.
    takes_ended _ _ _ _ _ _ _ Early 0 0 c.end_session.ensures.ends c.end_session.ensures.id c.end_session.ensures.closing refl c.session-session.ensures (advances_same _) refl

pub returns-then-len-eq0-clause-intake : goal.returns-then-len-eq0-clause-intake
returns-then-len-eq0-clause-intake g c = λ waits.
    takes_ended _ _ _ _ _ _ _ BadIu 0 0 c.end_session-then-len-eq0.ensures.ends c.end_session-then-len-eq0.ensures.id c.end_session-then-len-eq0.ensures.closing refl c.session-session.ensures (advances_same _) refl

pub returns-in-Err-Refused-clause-intake : goal.returns-in-Err-Refused-clause-intake
returns-in-Err-Refused-clause-intake g c = λ waits.
    let failed : IsErrOf c.fetch_unit.result halts.Refused = cc (c.in-Err-Refused.is, c.in-Err-Refused.field-0-is) in
    takes_ended _ _ _ _ _ _ _ Refused 0 0 c.end_session-in-Err-Refused.ensures.ends c.end_session-in-Err-Refused.ensures.id c.end_session-in-Err-Refused.ensures.closing refl c.session-session.ensures c.fetch_unit.ensures.advances (missed_is c.fetch_unit.result halts.Refused _ failed c.fetch_unit.ensures.missed)

pub returns-in-Err-Busy-clause-intake : goal.returns-in-Err-Busy-clause-intake
returns-in-Err-Busy-clause-intake g c = λ waits.
    let failed : IsErrOf c.fetch_unit.result halts.Busy = cc (c.in-Err-Busy.is, c.in-Err-Busy.field-0-is) in takes_none _ _ _ _ _ _ refl c.fetch_unit.ensures.advances (missed_is c.fetch_unit.result halts.Busy _ failed c.fetch_unit.ensures.missed) (lines_same _ _ _ _ refl)

pub returns-in-Err-NoMemory-clause-intake : goal.returns-in-Err-NoMemory-clause-intake
returns-in-Err-NoMemory-clause-intake g c = λ waits.
    let failed : IsErrOf c.fetch_unit.result halts.NoMemory = cc (c.in-Err-NoMemory.is, c.in-Err-NoMemory.field-0-is) in takes_none _ _ _ _ _ _ refl c.fetch_unit.ensures.advances (missed_is c.fetch_unit.result halts.NoMemory _ failed c.fetch_unit.ensures.missed) (lines_same _ _ _ _ refl)

pub returns-in-Ok-clause-intake : goal.returns-in-Ok-clause-intake
returns-in-Ok-clause-intake g c = λ waits.
    takes_fetched _ _ _ _ _ _ c.args.arrival _ _ waits (c.judge.ensures.waiting refl) c.judge.ensures.id c.judge.ensures.granted c.iu_address.ensures c.in-Ok.ensures.fetched (search rules)
    c.fetch_unit.ensures.queue c.fetch_unit.ensures.advances c.judge.ensures.lines

pub returns-in-Ok-clause-goes_on : goal.returns-in-Ok-clause-goes_on
returns-in-Ok-clause-goes_on g c = λ on same. record { none = c.judge.ensures.waiting refl; goes_on = ap is_ended (c.judge.ensures.goes_on same) ∙ on }

pub returns-then-not-is_up-clause-judges : goal.returns-then-not-is_up-clause-judges
returns-then-not-is_up-clause-judges g c = λ waits.
    judges_over _ _ _ _ _ _ _ Early 0 0 c.end_session.ensures.ends c.end_session.ensures.id c.end_session.ensures.closing refl refl c.session-session.ensures (advances_same _) refl
    c.end_session.ensures.books (λ none. absurd (none_waits _ _ waits none)) (λ receipts judged intake is. waits_going _ receipts c.args.arrival _ intake waits refl)
    (λ arrival same judged going is. early_entry c.args.unit.now (g.S.Site.state c.args.site.now) c.args.records.now judged arrival c.args.arrival waits same is going (λ up. search rules))

pub returns-then-len-eq0-clause-judges : goal.returns-then-len-eq0-clause-judges
returns-then-len-eq0-clause-judges g c = λ waits.
    judges_over _ _ _ _ _ _ _ BadIu 0 0 c.end_session-then-len-eq0.ensures.ends c.end_session-then-len-eq0.ensures.id c.end_session-then-len-eq0.ensures.closing refl refl c.session-session.ensures (advances_same _) refl
    c.end_session-then-len-eq0.ensures.books (λ none. absurd (none_waits _ _ waits none)) (λ receipts judged intake is. waits_going _ receipts c.args.arrival _ intake waits refl)
    (λ arrival same judged going is. inl (refl, bad_len _ _ _ waits same (search rules)))

pub returns-in-Err-Refused-clause-judges : goal.returns-in-Err-Refused-clause-judges
returns-in-Err-Refused-clause-judges g c = λ waits.
    let failed : IsErrOf c.fetch_unit.result halts.Refused = cc (c.in-Err-Refused.is, c.in-Err-Refused.field-0-is) in
    judges_over _ _ _ _ _ _ _ Refused 0 0 c.end_session-in-Err-Refused.ensures.ends c.end_session-in-Err-Refused.ensures.id c.end_session-in-Err-Refused.ensures.closing refl refl c.session-session.ensures
    c.fetch_unit.ensures.advances (missed_is c.fetch_unit.result halts.Refused _ failed c.fetch_unit.ensures.missed) c.end_session-in-Err-Refused.ensures.books
    (λ none. absurd (none_waits _ _ waits none)) (λ receipts judged intake is. waits_going _ receipts c.args.arrival _ intake waits refl) (λ arrival same judged going is. refl)

pub returns-in-Err-Busy-clause-judges : goal.returns-in-Err-Busy-clause-judges
returns-in-Err-Busy-clause-judges g c = λ waits.
    let failed : IsErrOf c.fetch_unit.result halts.Busy = cc (c.in-Err-Busy.is, c.in-Err-Busy.field-0-is) in
    (works_pass c.args.unit.now c.args.records.now _ _ c.fetch_unit.ensures.advances (missed_is c.fetch_unit.result halts.Busy _ failed c.fetch_unit.ensures.missed)).judges

pub returns-in-Err-NoMemory-clause-judges : goal.returns-in-Err-NoMemory-clause-judges
returns-in-Err-NoMemory-clause-judges g c = λ waits.
    let failed : IsErrOf c.fetch_unit.result halts.NoMemory = cc (c.in-Err-NoMemory.is, c.in-Err-NoMemory.field-0-is) in
    (works_pass c.args.unit.now c.args.records.now _ _ c.fetch_unit.ensures.advances (missed_is c.fetch_unit.result halts.NoMemory _ failed c.fetch_unit.ensures.missed)).judges

pub returns-in-Ok-clause-judges : goal.returns-in-Ok-clause-judges
returns-in-Ok-clause-judges g c = λ waits.
    judges_received c.args.unit.now c.judge.new.unit c.args.records.now c.judge.new.records _ _ c.args.arrival _ _ _ waits (c.judge.ensures.waiting refl) c.judge.ensures.id c.iu_address.ensures
    c.in-Ok.ensures.fetched (search rules) c.fetch_unit.ensures.queue c.fetch_unit.ensures.advances c.judge.ensures.lines c.session-session.ensures (up_is _ (search rules)) c.judge.ensures.judged

pub returns-then-not-is_up-clause-answers : goal.returns-then-not-is_up-clause-answers
returns-then-not-is_up-clause-answers g c = λ alone has.
    has_cut_of _ _ _ _ c.end_session.ensures.id refl refl c.end_session.ensures.ends.off (ap row_in c.end_session.ensures.stage)
    (c.end_session.ensures.cuts (g.S.Site.state c.args.site.now).queue c.session-session.ensures refl has)

pub returns-then-len-eq0-clause-answers : goal.returns-then-len-eq0-clause-answers
returns-then-len-eq0-clause-answers g c = λ alone has.
    has_cut_of _ _ _ _ c.end_session-then-len-eq0.ensures.id refl refl c.end_session-then-len-eq0.ensures.ends.off (ap row_in c.end_session-then-len-eq0.ensures.stage)
    (c.end_session-then-len-eq0.ensures.cuts (g.S.Site.state c.args.site.now).queue c.session-session.ensures refl has)

pub returns-in-Err-Refused-clause-answers : goal.returns-in-Err-Refused-clause-answers
returns-in-Err-Refused-clause-answers g c = λ alone has.
    has_cut_of _ _ _ _ c.end_session-in-Err-Refused.ensures.id refl refl c.end_session-in-Err-Refused.ensures.ends.off (ap row_in c.end_session-in-Err-Refused.ensures.stage)
    (c.end_session-in-Err-Refused.ensures.cuts (g.S.Site.state c.fetch_unit.new.self).queue (c.session-session.ensures ∙ sym (ap (λ (q : EndState). q.last_session) c.fetch_unit.ensures.queue)) refl (owes_seen _ _ (seen_same _ _ c.fetch_unit.ensures.queue) refl refl refl refl refl refl refl has))

pub returns-in-Err-Busy-clause-answers : goal.returns-in-Err-Busy-clause-answers
returns-in-Err-Busy-clause-answers g c = λ alone has. owes_seen _ _ (seen_same _ _ c.fetch_unit.ensures.queue) refl refl refl refl refl refl refl has

pub returns-in-Err-NoMemory-clause-answers : goal.returns-in-Err-NoMemory-clause-answers
returns-in-Err-NoMemory-clause-answers g c = λ alone has. owes_seen _ _ (seen_same _ _ c.fetch_unit.ensures.queue) refl refl refl refl refl refl refl has

pub returns-in-Ok-clause-answers : goal.returns-in-Ok-clause-answers
returns-in-Ok-clause-answers g c = λ alone has. c.judge.ensures.answers (g.S.Site.state c.fetch_unit.new.self).queue (c.session-session.ensures ∙ sym (ap (λ (q : EndState). q.last_session) c.fetch_unit.ensures.queue))
    (owes_seen _ _ (seen_same _ _ c.fetch_unit.ensures.queue) refl refl refl refl refl refl refl has)

pub returns-then-not-is_up-clause-cargo : goal.returns-then-not-is_up-clause-cargo
returns-then-not-is_up-clause-cargo g c = c.end_session.ensures.cargo _ _ refl

pub returns-then-len-eq0-clause-cargo : goal.returns-then-len-eq0-clause-cargo
returns-then-len-eq0-clause-cargo g c = c.end_session-then-len-eq0.ensures.cargo _ _ refl

pub returns-in-Ok-clause-cargo : goal.returns-in-Ok-clause-cargo
returns-in-Ok-clause-cargo g c = keeps_on _ _ _ (keeps_same _ _ (shown_same _ _ _ _ _ _ (sees _ _ _ c.fetch_unit.ensures.data) refl)) (c.judge.ensures.cargo _)

pub returns-in-Err-Refused-clause-cargo : goal.returns-in-Err-Refused-clause-cargo
returns-in-Err-Refused-clause-cargo g c = c.end_session-in-Err-Refused.ensures.cargo _ _ (ap (λ (p : Pages). p.count) c.fetch_unit.ensures.data)

pub returns-then-not-is_up-clause-refuses : goal.returns-then-not-is_up-clause-refuses
returns-then-not-is_up-clause-refuses g c = λ waits told unit front all is.
    explained_ended told unit front (ledger_of c.args.unit.now (g.S.Site.state c.args.site.now) c.args.records.now) (ledger_of c.end_session.new.unit (g.S.Site.state c.args.site.now) c.end_session.new.records)
    (Lapsed c.args.unit.now.id c.session-session.result c.args.unit.now.logins.current Early 0 0) refl refl c.end_session.ensures.ends.waiting c.end_session.ensures.ends.pending c.end_session.ensures.ends.line tt refl refl (inl (closing_ended c.end_session.new.unit.line c.end_session.ensures.closing))
    (on_ends (ledger_of c.args.unit.now (g.S.Site.state c.args.site.now) c.args.records.now) (ledger_of c.end_session.new.unit (g.S.Site.state c.args.site.now) c.end_session.new.records)
    (Lapsed c.args.unit.now.id c.session-session.result c.args.unit.now.logins.current Early 0 0) c.args.unit.now.logins.current Early 0 0
    (ap (λ (n : ℕ). Lapsed c.args.unit.now.id n c.args.unit.now.logins.current Early 0 0) c.session-session.ensures)
    c.end_session.ensures.id c.end_session.ensures.ends.off refl c.end_session.ensures.ends.line) is

pub returns-then-len-eq0-clause-refuses : goal.returns-then-len-eq0-clause-refuses
returns-then-len-eq0-clause-refuses g c = λ waits told unit front all is.
    explained_ended told unit front (ledger_of c.args.unit.now (g.S.Site.state c.args.site.now) c.args.records.now) (ledger_of c.end_session-then-len-eq0.new.unit (g.S.Site.state c.args.site.now) c.end_session-then-len-eq0.new.records)
    (Lapsed c.args.unit.now.id c.session-session.result c.args.unit.now.logins.current BadIu 0 0) refl refl c.end_session-then-len-eq0.ensures.ends.waiting c.end_session-then-len-eq0.ensures.ends.pending c.end_session-then-len-eq0.ensures.ends.line tt refl refl (inl (closing_ended c.end_session-then-len-eq0.new.unit.line c.end_session-then-len-eq0.ensures.closing))
    (on_ends (ledger_of c.args.unit.now (g.S.Site.state c.args.site.now) c.args.records.now) (ledger_of c.end_session-then-len-eq0.new.unit (g.S.Site.state c.args.site.now) c.end_session-then-len-eq0.new.records)
    (Lapsed c.args.unit.now.id c.session-session.result c.args.unit.now.logins.current BadIu 0 0) c.args.unit.now.logins.current BadIu 0 0
    (ap (λ (n : ℕ). Lapsed c.args.unit.now.id n c.args.unit.now.logins.current BadIu 0 0) c.session-session.ensures)
    c.end_session-then-len-eq0.ensures.id c.end_session-then-len-eq0.ensures.ends.off refl c.end_session-then-len-eq0.ensures.ends.line) is

pub returns-in-Err-Refused-clause-refuses : goal.returns-in-Err-Refused-clause-refuses
returns-in-Err-Refused-clause-refuses g c = λ waits told unit front all is.
    let failed : IsErrOf c.fetch_unit.result halts.Refused = cc (c.in-Err-Refused.is, c.in-Err-Refused.field-0-is) in
    explained_ended told unit front (ledger_of c.args.unit.now (g.S.Site.state c.args.site.now) c.args.records.now) (ledger_of c.end_session-in-Err-Refused.new.unit (g.S.Site.state c.fetch_unit.new.self) c.end_session-in-Err-Refused.new.records)
    (Lapsed c.args.unit.now.id c.session-session.result c.args.unit.now.logins.current Refused 0 0) (ap (λ (q : EndState). q.last_session) c.fetch_unit.ensures.queue) (ap (λ (q : EndState). q.taken) c.fetch_unit.ensures.queue) c.end_session-in-Err-Refused.ensures.ends.waiting c.end_session-in-Err-Refused.ensures.ends.pending c.end_session-in-Err-Refused.ensures.ends.line
    (denied_unit told unit front.since (basis_in (ledger_of c.args.unit.now (g.S.Site.state c.args.site.now) c.args.records.now)) (g.S.Site.state c.args.site.now) (g.S.Site.state c.fetch_unit.new.self) c.args.unit.now.id c.session-session.result c.args.unit.now.logins.current c.iu_address.result _ c.args.arrival c.session-session.ensures waits c.iu_address.ensures (search rules)
    (c.fetch_unit.ensures.refused failed) all is.known) refl (ap (λ (q : EndState). login_answers q.sent) c.fetch_unit.ensures.queue)
    (inl (closing_ended c.end_session-in-Err-Refused.new.unit.line c.end_session-in-Err-Refused.ensures.closing))
    (on_ends (ledger_of c.args.unit.now (g.S.Site.state c.args.site.now) c.args.records.now) (ledger_of c.end_session-in-Err-Refused.new.unit (g.S.Site.state c.fetch_unit.new.self) c.end_session-in-Err-Refused.new.records)
    (Lapsed c.args.unit.now.id c.session-session.result c.args.unit.now.logins.current Refused 0 0) c.args.unit.now.logins.current Refused 0 0
    (ap (λ (n : ℕ). Lapsed c.args.unit.now.id n c.args.unit.now.logins.current Refused 0 0) c.session-session.ensures)
    c.end_session-in-Err-Refused.ensures.id c.end_session-in-Err-Refused.ensures.ends.off (ap (λ (q : EndState). q.last_session) c.fetch_unit.ensures.queue) c.end_session-in-Err-Refused.ensures.ends.line) is

pub returns-in-Err-Busy-clause-refuses : goal.returns-in-Err-Busy-clause-refuses
returns-in-Err-Busy-clause-refuses g c = λ waits told unit front all.
    let failed : IsErrOf c.fetch_unit.result halts.Busy = cc (c.in-Err-Busy.is, c.in-Err-Busy.field-0-is) in
    explains_stands c.args.unit.now c.args.unit.now _ _ c.args.records.now c.args.records.now refl (missed_is c.fetch_unit.result halts.Busy _ failed c.fetch_unit.ensures.missed) refl refl (ap (λ (q : EndState). login_answers q.sent) c.fetch_unit.ensures.queue) refl told unit front

pub returns-in-Err-NoMemory-clause-refuses : goal.returns-in-Err-NoMemory-clause-refuses
returns-in-Err-NoMemory-clause-refuses g c = λ waits told unit front all.
    let failed : IsErrOf c.fetch_unit.result halts.NoMemory = cc (c.in-Err-NoMemory.is, c.in-Err-NoMemory.field-0-is) in
    explains_stands c.args.unit.now c.args.unit.now _ _ c.args.records.now c.args.records.now refl (missed_is c.fetch_unit.result halts.NoMemory _ failed c.fetch_unit.ensures.missed) refl refl (ap (λ (q : EndState). login_answers q.sent) c.fetch_unit.ensures.queue) refl told unit front

pub returns-in-Ok-clause-refuses : goal.returns-in-Ok-clause-refuses
returns-in-Ok-clause-refuses g c = λ waits told unit front all is.
    let at = ledger_of c.args.unit.now (g.S.Site.state c.args.site.now) c.args.records.now in
    explains_same (ledger_at c.judge.new.unit (g.S.Site.state c.args.site.now).queue.last_session (g.S.Site.state c.args.site.now).queue.taken (login_answers (g.S.Site.state c.args.site.now).queue.sent) c.judge.new.records) (ledger_of c.judge.new.unit (g.S.Site.state c.fetch_unit.new.self) c.judge.new.records)
    (ap (λ (q : EndState). q.last_session) c.fetch_unit.ensures.queue) (ap (λ (q : EndState). q.taken) c.fetch_unit.ensures.queue) refl refl refl refl (ap (λ (q : EndState). login_answers q.sent) c.fetch_unit.ensures.queue) refl refl told unit front
    (c.judge.ensures.refuses (g.S.Site.state c.args.site.now).queue.last_session (g.S.Site.state c.args.site.now).queue.taken (login_answers (g.S.Site.state c.args.site.now).queue.sent) c.session-session.ensures (waits_open told unit front.since (basis_in at) c.args.arrival waits is.known) refl (waits_at told unit front.since (basis_in at) c.args.arrival waits is.known) (search rules) told unit front
    (heard_fetched told unit _ _ _ _ _ c.iu_address.ensures all c.in-Ok.ensures.fetched)
    (explains_same at (waiting_in c.args.arrival at) refl refl (sym waits) refl refl refl refl refl refl told unit front is))

pub returns-then-not-is_up-clause-received : goal.returns-then-not-is_up-clause-received
returns-then-not-is_up-clause-received g c = inl c.end_session.ensures.ends.waiting

pub returns-then-len-eq0-clause-received : goal.returns-then-len-eq0-clause-received
returns-then-len-eq0-clause-received g c = inl c.end_session-then-len-eq0.ensures.ends.waiting

pub returns-in-Ok-clause-received : goal.returns-in-Ok-clause-received
returns-in-Ok-clause-received g c = inl (c.judge.ensures.waiting refl)

pub returns-in-Err-Refused-clause-received : goal.returns-in-Err-Refused-clause-received
returns-in-Err-Refused-clause-received g c = inl c.end_session-in-Err-Refused.ensures.ends.waiting

pub returns-in-Err-Busy-clause-received : goal.returns-in-Err-Busy-clause-received
returns-in-Err-Busy-clause-received g c = inr refl

pub returns-then-not-is_up-clause-hears : goal.returns-then-not-is_up-clause-hears
returns-then-not-is_up-clause-hears g c = λ address bytes iu alone up may asked. absurd (search rules)

pub returns-then-len-eq0-clause-hears : goal.returns-then-len-eq0-clause-hears
returns-then-len-eq0-clause-hears g c = λ address bytes iu alone up may asked.
    absurd (long_enough (iu_length c.args.arrival.entry) (length bytes) asked.long asked.some asked.few (search rules))

pub returns-in-Ok-clause-hears : goal.returns-in-Ok-clause-hears
returns-in-Ok-clause-hears g c = λ address bytes iu alone up may asked.
    received_as c.args.unit.now _ c.judge.new.unit (reach_of (g.S.Site.state c.args.site.now)) (reach_of (g.S.Site.state c.fetch_unit.new.self)) _ _ _ address (iu_address c.args.arrival.entry) (iu_length c.args.arrival.entry) bytes c.fetch_unit.new.out iu _ refl refl refl (c.fetch_unit.ensures.client alone) asked.stand
    (subst (λ (n : ℕ). IsReadWhole (g.S.Site.state c.fetch_unit.new.self).client n c.fetch_unit.new.out) c.iu_address.ensures c.in-Ok.ensures.whole) asked.address_is (search rules) asked.long
    c.fetch_unit.ensures.queue (c.judge.ensures.waiting refl) (λ spelled. c.judge.ensures.hears iu spelled may) asked.spelled

pub returns-in-Err-Refused-clause-hears : goal.returns-in-Err-Refused-clause-hears
returns-in-Err-Refused-clause-hears g c = λ address bytes iu alone up may asked.
    let failed : IsErrOf c.fetch_unit.result halts.Refused = cc (c.in-Err-Refused.is, c.in-Err-Refused.field-0-is) in
    absurd (not_denied (g.S.Site.state c.args.site.now) (g.S.Site.state c.fetch_unit.new.self) Read c.iu_address.result address _ (iu_length c.args.arrival.entry) (length bytes) alone asked.may (c.iu_address.ensures ∙ asked.address_is) (search rules) asked.long (c.fetch_unit.ensures.refused failed))

pub returns-in-Err-Busy-clause-hears : goal.returns-in-Err-Busy-clause-hears
returns-in-Err-Busy-clause-hears g c = λ address bytes iu alone up may asked.
    let failed : IsErrOf c.fetch_unit.result halts.Busy = cc (c.in-Err-Busy.is, c.in-Err-Busy.field-0-is) in
    absurd (not_in_use (g.S.Site.state c.args.site.now) (g.S.Site.state c.fetch_unit.new.self) alone (c.fetch_unit.ensures.busy failed))

pub returns-then-not-is_up-clause-rows : goal.returns-then-not-is_up-clause-rows
returns-then-not-is_up-clause-rows g c = ended_idle _ _ _ _ _ c.end_session.ensures.row c.end_session.ensures.stage

pub returns-then-len-eq0-clause-rows : goal.returns-then-len-eq0-clause-rows
returns-then-len-eq0-clause-rows g c = ended_idle _ _ _ _ _ c.end_session-then-len-eq0.ensures.row c.end_session-then-len-eq0.ensures.stage

pub returns-in-Ok-clause-rows : goal.returns-in-Ok-clause-rows
returns-in-Ok-clause-rows g c = c.judge.ensures.rows

pub returns-in-Err-Refused-clause-rows : goal.returns-in-Err-Refused-clause-rows
returns-in-Err-Refused-clause-rows g c = ended_idle _ _ _ _ _ c.end_session-in-Err-Refused.ensures.row c.end_session-in-Err-Refused.ensures.stage

pub returns-in-Err-Busy-clause-rows : goal.returns-in-Err-Busy-clause-rows
returns-in-Err-Busy-clause-rows g c = idle_same _ _ _ _ refl refl

pub returns-in-Err-NoMemory-clause-rows : goal.returns-in-Err-NoMemory-clause-rows
returns-in-Err-NoMemory-clause-rows g c = idle_same _ _ _ _ refl refl

pub returns-then-not-is_up-clause-does : goal.returns-then-not-is_up-clause-does
returns-then-not-is_up-clause-does g c = λ link alone going srp free.
    drops_freely _ _ (drops_heard c.args.arrival c.args.unit.now c.end_session.new.unit (g.S.Site.state c.args.site.now).own.place.unit (g.S.Site.state c.args.site.now).own.place.unit (g.S.Site.state c.args.site.now).queue (g.S.Site.state c.args.site.now).queue (g.S.Site.state c.args.site.now).client (g.S.Site.state c.args.site.now).client c.args.records.now c.end_session.new.records _ _ _ _ free.stage c.end_session.ensures.ends refl refl (known_same _)
    c.end_session.ensures.id c.end_session.ensures.stage (left_at_start _ _ _ _ free.stage c.end_session.ensures.row) c.end_session.ensures.closing c.end_session.ensures.handshake) c.end_session.ensures.ends.waiting

pub returns-then-len-eq0-clause-does : goal.returns-then-len-eq0-clause-does
returns-then-len-eq0-clause-does g c = λ link alone going srp free.
    drops_freely _ _ (drops_heard c.args.arrival c.args.unit.now c.end_session-then-len-eq0.new.unit (g.S.Site.state c.args.site.now).own.place.unit (g.S.Site.state c.args.site.now).own.place.unit (g.S.Site.state c.args.site.now).queue (g.S.Site.state c.args.site.now).queue (g.S.Site.state c.args.site.now).client (g.S.Site.state c.args.site.now).client c.args.records.now c.end_session-then-len-eq0.new.records _ _ _ _ free.stage c.end_session-then-len-eq0.ensures.ends refl refl (known_same _)
    c.end_session-then-len-eq0.ensures.id c.end_session-then-len-eq0.ensures.stage (left_at_start _ _ _ _ free.stage c.end_session-then-len-eq0.ensures.row) c.end_session-then-len-eq0.ensures.closing c.end_session-then-len-eq0.ensures.handshake) c.end_session-then-len-eq0.ensures.ends.waiting

pub returns-in-Ok-clause-does : goal.returns-in-Ok-clause-does
returns-in-Ok-clause-does g c = λ link alone going srp free. record {
  does = does_one (before_hearing c.args.arrival (doing c.args.unit.now (g.S.Site.state c.args.site.now) c.args.records.now)) (doing c.judge.new.unit (g.S.Site.state c.fetch_unit.new.self) c.judge.new.records)
      (c.judge.ensures.does (g.S.Site.state c.args.site.now) (g.S.Site.state c.fetch_unit.new.self) srp refl (search rules) going free.stage (search rules) (c.fetch_unit.ensures.client alone) c.fetch_unit.ensures.queue
      (ap (λ (p : PortPlace). p.unit) c.fetch_unit.ensures.advances.own_place)
      (reads_known _ _ _ _ (c.fetch_unit.ensures.client alone) (subst (λ (n : ℕ). IsReadWhole (g.S.Site.state c.fetch_unit.new.self).client n c.fetch_unit.new.out) c.iu_address.ensures c.in-Ok.ensures.whole)));
  free = record { waiting = c.judge.ensures.waiting refl; stage = c.judge.ensures.stage free.stage; kept = keeps_none _ c.judge.ensures.none };
}

pub returns-in-Err-Refused-clause-does : goal.returns-in-Err-Refused-clause-does
returns-in-Err-Refused-clause-does g c = λ link alone going srp free.
    drops_freely _ _ (drops_heard c.args.arrival c.args.unit.now c.end_session-in-Err-Refused.new.unit _ _ _ _ _ _ c.args.records.now c.end_session-in-Err-Refused.new.records _ _ _ _ free.stage c.end_session-in-Err-Refused.ensures.ends
    (ap (λ (p : PortPlace). p.unit) c.fetch_unit.ensures.advances.own_place) c.fetch_unit.ensures.queue (c.fetch_unit.ensures.client alone)
    c.end_session-in-Err-Refused.ensures.id c.end_session-in-Err-Refused.ensures.stage (left_at_start _ _ _ _ free.stage c.end_session-in-Err-Refused.ensures.row) c.end_session-in-Err-Refused.ensures.closing c.end_session-in-Err-Refused.ensures.handshake) c.end_session-in-Err-Refused.ensures.ends.waiting

pub returns-in-Err-Busy-clause-does : goal.returns-in-Err-Busy-clause-does
returns-in-Err-Busy-clause-does g c = λ link alone going srp free.
    let failed : IsErrOf c.fetch_unit.result halts.Busy = cc (c.in-Err-Busy.is, c.in-Err-Busy.field-0-is) in
    absurd (not_in_use (g.S.Site.state c.args.site.now) (g.S.Site.state c.fetch_unit.new.self) alone (c.fetch_unit.ensures.busy failed))

pub returns-in-Ok-clause-goes : goal.returns-in-Ok-clause-goes
returns-in-Ok-clause-goes g c = λ alone on more. ap is_ended (c.judge.ensures.goes more) ∙ on

pub returns-then-not-is_up-clause-stops : goal.returns-then-not-is_up-clause-stops
returns-then-not-is_up-clause-stops g c = λ some other. over c.end_session.ensures.closing

pub returns-then-len-eq0-clause-stops : goal.returns-then-len-eq0-clause-stops
returns-then-len-eq0-clause-stops g c = λ some other. over c.end_session-then-len-eq0.ensures.closing

pub returns-in-Ok-clause-stops : goal.returns-in-Ok-clause-stops
returns-in-Ok-clause-stops g c = λ some other. over (c.judge.ensures.over other)

pub returns-in-Err-Refused-clause-stops : goal.returns-in-Err-Refused-clause-stops
returns-in-Err-Refused-clause-stops g c = λ some other. over c.end_session-in-Err-Refused.ensures.closing

pub returns-in-Err-Busy-clause-stops : goal.returns-in-Err-Busy-clause-stops
returns-in-Err-Busy-clause-stops g c = λ some other.
    let busy : IsErrOf c.fetch_unit.result Busy = cc (c.in-Err-Busy.is, c.in-Err-Busy.field-0-is) in
    waits (c.fetch_unit.ensures.busy busy).shared_is some

pub returns-then-not-is_up-clause-brings : goal.returns-then-not-is_up-clause-brings
returns-then-not-is_up-clause-brings g c = brings_end _ _ _ c.end_session.ensures.ends.pending c.end_session.ensures.closing

pub returns-then-len-eq0-clause-brings : goal.returns-then-len-eq0-clause-brings
returns-then-len-eq0-clause-brings g c = brings_end _ _ _ c.end_session-then-len-eq0.ensures.ends.pending c.end_session-then-len-eq0.ensures.closing

pub returns-in-Ok-clause-brings : goal.returns-in-Ok-clause-brings
returns-in-Ok-clause-brings g c = record { most = c.judge.ensures.brings.most; ends = c.judge.ensures.brings.ends }

pub returns-in-Err-Refused-clause-brings : goal.returns-in-Err-Refused-clause-brings
returns-in-Err-Refused-clause-brings g c = brings_end _ _ _ c.end_session-in-Err-Refused.ensures.ends.pending c.end_session-in-Err-Refused.ensures.closing

pub returns-in-Err-Busy-clause-brings : goal.returns-in-Err-Busy-clause-brings
returns-in-Err-Busy-clause-brings g c = brings_none _ _ _ refl (λ is. absurd (cc (is)))
