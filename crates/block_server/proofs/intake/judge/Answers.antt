use Rattle.block_server.proofs.Cargoes.{command_more, first_pushed}
use Rattle.block_server.specs.Receipts.{LinesMore}
use Rattle.std.proofs.Common.{◌&&◌, List, ℕ, subst, sym}
use Rattle.block_server.specs.Causes.{told_to, units_at}
use Rattle.block_server.specs.Causes.News.{fetched}
use Rattle.std.proofs.Common.{refl}
use Rattle.block_server.proofs.Onces.{once_same, once_then}
use Rattle.block_server.proofs.Serves.{desk_logins, logins_stay, once_pushed}
use Rattle.block_server.proofs.Taking.{ends_line, lines_same}
use Rattle.block_server.proofs.Verdicts.{accepted_push, ended_by, passed_by}
use Rattle.block_server.specs.Books.{books_of}
use Rattle.std.proofs.Common.{ap, length, ◌∙◌}
use Rattle.block_server.proofs.Owing.{has_cut_of, owes_seen, seen_same}
use Rattle.block_server.proofs.OwingCalls.{closing_ended, decides_current, decides_granted, fatal_other, owes_pushed}
use Rattle.block_server.specs.Owed.{row_in}
use Rattle.block_server.proofs.Ledgers.{on_ends, explained_ended, explains_ignored, explains_pushed}
use Rattle.block_server.proofs.Refusing.{decided_cause}
use Rattle.vio_num.specs.declared.history.Grant.TheVariants.{Lapsed}
use Rattle.block_server.specs.Refusals.{ledger_at, waiting_in}
use Rattle.std.proofs.Common.{inl}
use Rattle.block_server.proofs.Dealing.{accepted_how, ignored_none}
use Rattle.block_server.proofs.Talking.{accepts_pushed, asked_by, not_fatal, not_ignored}
use Rattle.block_server.specs.Talk.{talk_of}
use Rattle.block_server.proofs.LastRows.{ended_idle, idle_same}
use Rattle.crq_session.specs.EndState.{EndState}
use Rattle.block_server.specs.Doings.{doing}
use Rattle.block_server.specs.Granting.{login_state}
use Rattle.block_server.specs.Talk.{to_come}
use Rattle.block_server.proofs.DoingEnds.{drops_heard, left_at_start, one_drops}
use Rattle.block_server.proofs.DoingHears.{accepted_on, command_event, command_init, drops_under, fatal_stays, ignored_asks, ignored_stays, one_passes, one_takes, passes_entry, srp_first, takes_request}
use Rattle.block_server.proofs.ServedOuts.{brings_end, brings_none, brings_request}
use Rattle.block_server.proofs.intake.judge.Goals as goal

pub returns-in-Ignored-clause-once : goal.returns-in-Ignored-clause-once
returns-in-Ignored-clause-once c = λ q disk heard serving.
    once_same _ _ _ _ _ _ (desk_logins c.args.unit.now c.judge_unit.new.logins (decides_granted c.args.unit.now.logins c.judge_unit.new.logins _ c.judge_unit.result c.judge_unit.ensures.decides)
    (decides_current c.args.unit.now.logins c.judge_unit.new.logins _ c.judge_unit.result c.judge_unit.ensures.decides)) refl refl disk serving

pub returns-in-Ok-clause-once : goal.returns-in-Ok-clause-once
returns-in-Ok-clause-once c = λ q disk heard serving.
    once_pushed _ _ _ _ _ _ refl (logins_stay c.args.unit.now.logins c.judge_unit.new.logins (decides_granted c.args.unit.now.logins c.judge_unit.new.logins _ c.judge_unit.result c.judge_unit.ensures.decides)
    (decides_current c.args.unit.now.logins c.judge_unit.new.logins _ c.judge_unit.result c.judge_unit.ensures.decides)) c.in-Ok.ensures.items refl refl refl c.requires.none refl disk
    (subst (λ (z : ℕ × List ℕ). told_to disk.terms.told c.args.unit.now.id (fetched z.0 units_at z.1)) (λ i. ((sym c.iu_address.ensures) i, (sym c.kept.ensures) i)) heard) serving

pub returns-in-Fatal-clause-once : goal.returns-in-Fatal-clause-once
returns-in-Fatal-clause-once c = λ q disk heard.
    once_then disk disk disk _ _ _ _ _ _ _ _ _
    (once_same _ _ q.sent q.sent _ _ (desk_logins c.args.unit.now c.judge_unit.new.logins (decides_granted c.args.unit.now.logins c.judge_unit.new.logins _ c.judge_unit.result c.judge_unit.ensures.decides)
    (decides_current c.args.unit.now.logins c.judge_unit.new.logins _ c.judge_unit.result c.judge_unit.ensures.decides)) refl refl disk)
    (c.end_counted.ensures.once q disk)

pub returns-in-Ignored-clause-lines : goal.returns-in-Ignored-clause-lines
returns-in-Ignored-clause-lines c = lines_same _ _ _ _ refl

pub returns-in-Ok-clause-lines : goal.returns-in-Ok-clause-lines
returns-in-Ok-clause-lines c = lines_same _ _ _ _ refl

pub returns-in-Fatal-clause-lines : goal.returns-in-Fatal-clause-lines
returns-in-Fatal-clause-lines c =
    subst (λ (n : ℕ). LinesMore c.args.unit.now.id n c.args.records.now.grants.items c.end_counted.new.records.grants.items) c.judge_unit.ensures.granted
    (ends_line _ _ _ _ _ _ _ _ c.end_counted.ensures.ends)

pub returns-in-Ignored-clause-judged : goal.returns-in-Ignored-clause-judged
returns-in-Ignored-clause-judged c = λ next next' receipt to.
    passed_by _ _ _ _ _ receipt c.args.unit.now.logins c.judge_unit.new.logins c.judge_unit.result to refl refl refl refl c.in-Ignored.is c.judge_unit.ensures.decides

pub returns-in-Ok-clause-judged : goal.returns-in-Ok-clause-judged
returns-in-Ok-clause-judged c = λ next next' receipt to.
    accepted_push (books_of c.args.unit.now c.args.session next c.args.records.now) _ _ _ _ receipt c.args.unit.now.logins c.judge_unit.new.logins _ _ c.judge_unit.result _ _ _
    c.in-Ok.ensures.items to refl refl refl refl refl c.kept.ensures refl refl c.in-Accepted.is c.judge_unit.ensures.decides

pub returns-in-Fatal-clause-judged : goal.returns-in-Fatal-clause-judged
returns-in-Fatal-clause-judged c = λ next next' receipt to.
    ended_by c.args.unit.now c.end_counted.new.unit c.args.unit.now.logins c.judge_unit.new.logins c.args.session next next' _ _ receipt c.args.records.now c.end_counted.new.records c.judge_unit.result _ _ _
    refl to c.in-Fatal.is c.judge_unit.ensures.decides (closing_ended c.end_counted.new.unit.line c.end_counted.ensures.closing) c.end_counted.ensures.books

pub returns-in-Ignored-clause-answers : goal.returns-in-Ignored-clause-answers
returns-in-Ignored-clause-answers c = λ q now has.
    owes_seen _ _ (seen_same _ _ refl) refl (decides_current c.args.unit.now.logins c.judge_unit.new.logins _ c.judge_unit.result c.judge_unit.ensures.decides) refl refl refl refl refl has

pub returns-in-Ok-clause-answers : goal.returns-in-Ok-clause-answers
returns-in-Ok-clause-answers c = λ q now has.
    owes_pushed _ _ _ c.in-Ok.ensures.items refl (decides_current c.args.unit.now.logins c.judge_unit.new.logins _ c.judge_unit.result c.judge_unit.ensures.decides) refl refl refl refl refl has

pub returns-in-Fatal-clause-answers : goal.returns-in-Fatal-clause-answers
returns-in-Fatal-clause-answers c = λ q now has.
    has_cut_of _ _ _ _ c.end_counted.ensures.id refl refl c.end_counted.ensures.ends.off (ap row_in c.end_counted.ensures.stage)
    (c.end_counted.ensures.cuts q now
    (fatal_other c.args.unit.now.logins c.judge_unit.new.logins _ c.judge_unit.result _ _ _ c.in-Fatal.is c.judge_unit.ensures.decides)
    (owes_seen _ _ (seen_same _ _ refl) refl (decides_current c.args.unit.now.logins c.judge_unit.new.logins _ c.judge_unit.result c.judge_unit.ensures.decides) refl refl refl refl refl has))

pub returns-in-Ok-clause-cargo : goal.returns-in-Ok-clause-cargo
returns-in-Ok-clause-cargo c = λ pages. command_more _ _ _ _ _ _ (first_pushed _ _ _ c.in-Ok.ensures.items)

pub returns-in-Fatal-clause-cargo : goal.returns-in-Fatal-clause-cargo
returns-in-Fatal-clause-cargo c = λ pages. c.end_counted.ensures.cargo _ _ refl

pub returns-in-Ignored-clause-refuses : goal.returns-in-Ignored-clause-refuses
returns-in-Ignored-clause-refuses c = λ queue taken answers present going none at long told unit front heard.
    explains_ignored told unit front (waiting_in c.args.arrival (ledger_at c.args.unit.now queue taken answers c.args.records.now)) _ c.args.arrival at refl none refl refl refl refl refl refl
    (ignored_none (told_to told unit) c.args.unit.now.logins c.judge_unit.new.logins _ c.judge_unit.result c.args.arrival.entry c.in-Ignored.is c.judge_unit.ensures.decides long heard) refl (decides_current c.args.unit.now.logins c.judge_unit.new.logins _ c.judge_unit.result c.judge_unit.ensures.decides)

pub returns-in-Ok-clause-refuses : goal.returns-in-Ok-clause-refuses
returns-in-Ok-clause-refuses c = λ queue taken answers present going none at long told unit front heard.
    explains_pushed told unit front (waiting_in c.args.arrival (ledger_at c.args.unit.now queue taken answers c.args.records.now)) _ _ c.args.arrival going at refl c.iu_address.ensures
    (ap length c.kept.ensures ∙ long) refl none refl refl refl refl c.in-Ok.ensures.items refl
    (accepted_how (told_to told unit) c.args.unit.now.logins c.judge_unit.new.logins _ c.judge_unit.result _ _ _ c.args.arrival.entry c.in-Accepted.is c.judge_unit.ensures.decides long heard) refl (decides_current c.args.unit.now.logins c.judge_unit.new.logins _ c.judge_unit.result c.judge_unit.ensures.decides)

pub returns-in-Fatal-clause-refuses : goal.returns-in-Fatal-clause-refuses
returns-in-Fatal-clause-refuses c = λ queue taken answers present going none at long told unit front heard.
    explained_ended told unit front (waiting_in c.args.arrival (ledger_at c.args.unit.now queue taken answers c.args.records.now)) (ledger_at c.end_counted.new.unit queue taken answers c.end_counted.new.records)
    (Lapsed c.args.unit.now.id c.args.session c.judge_unit.new.logins.current c.in-Fatal.cause c.in-Fatal.outstanding c.in-Fatal.granted) refl refl
    c.end_counted.ensures.ends.waiting c.end_counted.ensures.ends.pending c.end_counted.ensures.ends.line
    (decided_cause (told_to told unit) unit c.args.unit.now.id taken c.args.session c.judge_unit.new.logins.current c.args.unit.now.logins c.judge_unit.new.logins _ c.judge_unit.result _ _ _ c.in-Fatal.is c.judge_unit.ensures.decides) refl refl
    (inl (closing_ended c.end_counted.new.unit.line c.end_counted.ensures.closing))
    (on_ends (waiting_in c.args.arrival (ledger_at c.args.unit.now queue taken answers c.args.records.now)) (ledger_at c.end_counted.new.unit queue taken answers c.end_counted.new.records)
    (Lapsed c.args.unit.now.id c.args.session c.judge_unit.new.logins.current c.in-Fatal.cause c.in-Fatal.outstanding c.in-Fatal.granted) c.judge_unit.new.logins.current c.in-Fatal.cause c.in-Fatal.outstanding c.in-Fatal.granted
    (ap (λ (n : ℕ). Lapsed c.args.unit.now.id n c.judge_unit.new.logins.current c.in-Fatal.cause c.in-Fatal.outstanding c.in-Fatal.granted) present)
    c.end_counted.ensures.id c.end_counted.ensures.ends.off refl c.end_counted.ensures.ends.line)

pub returns-in-Ignored-clause-hears : goal.returns-in-Ignored-clause-hears
returns-in-Ignored-clause-hears c = λ iu spelled may.
    absurd (not_ignored c.bytes_spell_one.ensures (talk_of c.args.unit.now) c.args.unit.now.logins c.judge_unit.new.logins _ iu c.judge_unit.result c.in-Ignored.is c.judge_unit.ensures.decides spelled may)

pub returns-in-Ok-clause-hears : goal.returns-in-Ok-clause-hears
returns-in-Ok-clause-hears c = λ iu spelled may. (
  refl,
  accepts_pushed c.bytes_spell_one.ensures c.args.unit.now _ _ c.args.records.now.grants.items _ _ _ iu c.judge_unit.result c.in-Accepted.is c.judge_unit.ensures.tagged c.judge_unit.ensures.decides spelled may
      refl c.iu_address.ensures c.kept.ensures c.in-Ok.ensures.items refl refl,
)

pub returns-in-Fatal-clause-hears : goal.returns-in-Fatal-clause-hears
returns-in-Fatal-clause-hears c = λ iu spelled may.
    absurd (not_fatal c.bytes_spell_one.ensures (talk_of c.args.unit.now) c.args.unit.now.logins c.judge_unit.new.logins _ iu c.judge_unit.result _ _ _
    (record { current = refl; taking = refl; outstanding = refl; granted = refl }) c.in-Fatal.is c.judge_unit.ensures.decides spelled may)

pub returns-in-Ignored-clause-rows : goal.returns-in-Ignored-clause-rows
returns-in-Ignored-clause-rows c = idle_same _ _ _ _ refl refl

pub returns-in-Ok-clause-rows : goal.returns-in-Ok-clause-rows
returns-in-Ok-clause-rows c = idle_same _ _ _ _ refl refl

pub returns-in-Fatal-clause-rows : goal.returns-in-Fatal-clause-rows
returns-in-Fatal-clause-rows c = ended_idle _ _ _ _ _ c.end_counted.ensures.row c.end_counted.ensures.stage

pub returns-in-Ignored-clause-does : goal.returns-in-Ignored-clause-does
returns-in-Ignored-clause-does c = λ before site srp waits up going start long known queue named read.
    let still = ignored_stays c.args.unit.now.logins c.judge_unit.new.logins _ c.judge_unit.result c.in-Ignored.is c.judge_unit.ensures.decides in
    one_passes _ _ (passes_entry c.args.arrival (doing c.args.unit.now before c.args.records.now) _ named refl (ap (λ (q : EndState). q.place.partner_registered) queue) (ap (λ (q : EndState). q.counts.partner_session) queue)
    (logins_stay c.args.unit.now.logins c.judge_unit.new.logins (decides_granted c.args.unit.now.logins c.judge_unit.new.logins _ c.judge_unit.result c.judge_unit.ensures.decides)
    (decides_current c.args.unit.now.logins c.judge_unit.new.logins _ c.judge_unit.result c.judge_unit.ensures.decides))
    still.taking still.outstanding waits c.requires.none refl refl refl refl refl (ap (λ (q : EndState). q.kept) queue) (ap (λ (q : EndState). q.registered && q.place.partner_registered) queue)
    refl (ap to_come queue) (ap (λ (q : EndState). q.sent) queue) known refl refl (command_init c.args.arrival.entry (srp_first c.args.arrival.entry srp)) (command_event c.args.arrival.entry (srp_first c.args.arrival.entry srp))
    (λ srp. ignored_asks c.args.arrival (doing c.args.unit.now before c.args.records.now) c.args.unit.now.logins c.judge_unit.new.logins _ c.judge_unit.result c.in-Ignored.is c.judge_unit.ensures.decides up going long read))

pub returns-in-Ok-clause-does : goal.returns-in-Ok-clause-does
returns-in-Ok-clause-does c = λ before site srp waits up going start long known queue named read.
    one_takes _ _ (takes_request c.args.arrival (doing c.args.unit.now before c.args.records.now) _ _ _ named refl (ap (λ (q : EndState). q.place.partner_registered) queue) (ap (λ (q : EndState). q.counts.partner_session) queue)
    (logins_stay c.args.unit.now.logins c.judge_unit.new.logins (decides_granted c.args.unit.now.logins c.judge_unit.new.logins _ c.judge_unit.result c.judge_unit.ensures.decides)
    (decides_current c.args.unit.now.logins c.judge_unit.new.logins _ c.judge_unit.result c.judge_unit.ensures.decides))
    c.requires.none refl refl c.in-Ok.ensures.items refl refl (ap (λ (q : EndState). q.kept) queue) (ap (λ (q : EndState). q.registered && q.place.partner_registered) queue)
    refl (ap to_come queue) (ap (λ (q : EndState). q.sent) queue) known refl refl srp up going
    (accepted_on c.args.unit.now.logins c.judge_unit.new.logins _ c.judge_unit.result _ _ _ c.in-Accepted.is c.judge_unit.ensures.decides) c.iu_address.ensures c.kept.ensures long read
    (asked_by c.bytes_spell_one.ensures c.args.unit.now.logins c.judge_unit.new.logins _ c.judge_unit.result _ _ _ c.in-Accepted.is c.judge_unit.ensures.tagged c.judge_unit.ensures.decides))

pub returns-in-Fatal-clause-does : goal.returns-in-Fatal-clause-does
returns-in-Fatal-clause-does c = λ before site srp waits up going start long known queue named read.
    let still = fatal_stays c.args.unit.now.logins c.judge_unit.new.logins _ c.judge_unit.result _ _ _ c.in-Fatal.is c.judge_unit.ensures.decides in
    one_drops _ _ (drops_under c.args.arrival (doing c.args.unit.now before c.args.records.now) _ (login_state c.judge_unit.new.logins) c.judge_unit.new.logins.taking c.judge_unit.new.logins.target.outstanding
    (logins_stay c.args.unit.now.logins c.judge_unit.new.logins (decides_granted c.args.unit.now.logins c.judge_unit.new.logins _ c.judge_unit.result c.judge_unit.ensures.decides)
    (decides_current c.args.unit.now.logins c.judge_unit.new.logins _ c.judge_unit.result c.judge_unit.ensures.decides))
    still.taking still.outstanding
    (drops_heard c.args.arrival (record c.args.unit.now { logins = c.judge_unit.new.logins }) c.end_counted.new.unit before.own.place.unit site.own.place.unit before.queue site.queue before.client site.client c.args.records.now c.end_counted.new.records _ _ _ _
    start c.end_counted.ensures.ends named queue known c.end_counted.ensures.id c.end_counted.ensures.stage (left_at_start _ _ _ _ start c.end_counted.ensures.row) c.end_counted.ensures.closing c.end_counted.ensures.handshake))

pub returns-in-Fatal-clause-over : goal.returns-in-Fatal-clause-over
returns-in-Fatal-clause-over c = λ other. c.end_counted.ensures.closing

pub returns-in-Ignored-clause-brings : goal.returns-in-Ignored-clause-brings
returns-in-Ignored-clause-brings c = brings_none _ _ _ refl (λ is. absurd (cc (is)))

pub returns-in-Ok-clause-brings : goal.returns-in-Ok-clause-brings
returns-in-Ok-clause-brings c = brings_request _ _ _ _ c.in-Ok.ensures.items (λ is. cc (is))

pub returns-in-Fatal-clause-brings : goal.returns-in-Fatal-clause-brings
returns-in-Fatal-clause-brings c = brings_end _ _ _ c.end_counted.ensures.ends.pending c.end_counted.ensures.closing
