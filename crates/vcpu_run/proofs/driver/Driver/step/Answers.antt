use Rattle.std.proofs.Common.{rules, ◌∙◌, ◌≡◌, IfOk, List, None, Result, Some, ap, refl, subst, sym, ℕ}
use Rattle.vcpu_run.specs.LinesShow.{PutsOne, StepShows, further_of, read_by, requests, seen_by, seen_since, written_by}
use Rattle.vcpu_run.specs.Credited.{is_take, taken_in, uses_credit}
use Rattle.vcpu_run.specs.Freeing.{is_reset}
use Rattle.vcpu_run.specs.Telling.{seated}
use Rattle.vcpu_run.proofs.Askings.{aside_as, aside_told, asks_by, asks_plain, told_as}
use Rattle.vcpu_run.proofs.LoginSteps.{other_out, out_as}
use Rattle.vcpu_run.specs.Holding.{IsHeldOff, link_seen}
use Rattle.vcpu_run.proofs.Opening.{open_as, other_open}
use Rattle.vcpu_run.proofs.Credits.{fresh_both, sends_one}
use Rattle.vcpu_run.proofs.AnswersCounted.{is_data, none_taken}
use Rattle.vcpu_run.proofs.DataSteps.{none_read, none_sends, sends_no_data, verb_reads}
use Rattle.vcpu_run.proofs.ValuesKept.{same_puts, sends_none, tce_puts}
use Rattle.vcpu_run.proofs.CalmTurns.{plain_makes}
use Rattle.vcpu_run.proofs.ClientRecords.{in_region_stepped, not_in_region, sends_apart}
use Rattle.vcpu_run.proofs.Working.{works_as, works_marked, works_window}
use Rattle.vio_num.specs.declared.memory.NoMemory.{NoMemory}
use Rattle.boot_text.specs.declared.verb.Verb.{Verb}
use Rattle.boot_text.specs.declared.verb.Verb.TheVariants as verbs
use Rattle.unit_region.specs.Pattern.{pattern}
use Rattle.unit_region.specs.Answers.{AnswersPut, AnswersRead, AnswersWrite, tce_of}
use Rattle.unit_region.specs.declared.step.Step.{Step}
use Rattle.vcpu_run.specs.DropsShown.{IsFullBy}
use Rattle.vcpu_run.specs.ShutShown.{MeetsShut, StepShut}
use Rattle.vcpu_run.proofs.ShutKept.{shut_none}
use Rattle.vcpu_run.proofs.DropsShown.{full_none}
use Rattle.vcpu_run.specs.Replay.{asks}
use Rattle.vcpu_run.proofs.FurtherShown.{puts_shows}
use Rattle.vcpu_run.proofs.LinesShown.{read_shows, step_none, write_shows}
use Rattle.vcpu_run.proofs.OwnLines.{fill_says, peek_says, poke_says, tce_says}
use Rattle.vcpu_run.proofs.Sayings.{is_logout, is_own, says_nothing}
use Rattle.vcpu_run.proofs.Giving.{asks_hear, gives_ok, gives_same}
use Rattle.vcpu_run.proofs.TakingEach.{data_step, own_step, taken_verb}
use Rattle.vcpu_run.proofs.EventsHeard.{plain_none}
use Rattle.unit_region.specs.Marks.{LaysUnder}
use Rattle.lan_script.specs.Seats.{is_in_region}
use Rattle.unit_region.proofs.Laws.{fill_told, just_by, just_read, just_under, none_under, peek_told, poke_told, tce_told}
use Rattle.vcpu_run.specs.ValuesPut.{is_put}
use Rattle.vcpu_run.specs.DataRead.{given_by}
use Rattle.vcpu_run.specs.DataKept.{range_in}
use Rattle.vcpu_run.specs.EventsPut.{StepMakes}
use Rattle.vcpu_run.proofs.Calming.{calm_same}
use Rattle.vcpu_run.specs.PlainSteps.{own_of}
use Rattle.vcpu_run.proofs.PlainAside.{fill_plainly, peek_plainly, poke_plainly, steps_as, tce_plainly}
use Rattle.vcpu_run.proofs.PlainResets.{login_steps}
use Rattle.vcpu_run.specs.Acts.{acting}
use Rattle.vcpu_run.proofs.ActsAsking.{op_acts}
use Rattle.vcpu_run.proofs.ActsLines.{acts_as, puts_acts, shows_acts, stays_aside, writes_acts}
use Rattle.vcpu_run.proofs.driver.Driver.step.Goals as goal

pub returns-in-Some-clause-credit : goal.returns-in-Some-clause-credit
returns-in-Some-clause-credit g c =
    let facts = sends_one c.args.line.now.verb c.in-Some.ensures.sends in
    fresh_both c.args.line.now.verb (taken_in c.args.progress.now) c.args.self.now.client c.command.new.self.client c.command.result facts.1
    (c.command.ensures.credit c.args.line.now.verb facts.0)

pub returns-in-Some-clause-told : goal.returns-in-Some-clause-told
returns-in-Some-clause-told g c = c.command.ensures.told c.args.line.now.verb c.args.progress.now c.in-Some.ensures.command

pub returns-in-Some-clause-out : goal.returns-in-Some-clause-out
returns-in-Some-clause-out g c = λ alone.
    other_out c.args.line.now.verb (seated c.args.self.now.client c.args.progress.now (g.C.CrqEnd.state c.args.crq.now.end).registered) (seated c.command.new.self.client c.args.progress.now (g.C.CrqEnd.state c.command.new.crq.end).registered)
    c.command.result (asks_plain c.args.line.now.verb (asks_by c.args.line.now.verb c.in-Some.op c.in-Some.ensures.command)).1

pub returns-in-Some-clause-shows : goal.returns-in-Some-clause-shows
returns-in-Some-clause-shows g c =
    let mark : c.from-mark.result ≡ c.args.line.now.number = search rules in
    subst (λ n. StepShows (seen_since g.C.CrqEnd.is_shared (g.O.WindowPort.state c.command.new.own) (g.C.CrqEnd.state c.args.crq.now.end) (g.C.CrqEnd.state c.command.new.crq.end))
    (g.O.WindowPort.state c.args.own.now).place.unit n c.args.line.now.verb c.command.result) mark (c.command.ensures.shows c.args.line.now.verb c.in-Some.ensures.command c.in-Some.ensures.cdb)

pub returns-in-Some-clause-registered : goal.returns-in-Some-clause-registered
returns-in-Some-clause-registered g c = λ alone.
    other_open c.args.line.now.verb c.args.progress.now (IsHeldOff (link_seen (g.C.CrqEnd.state c.args.crq.now.end))) (g.C.CrqEnd.state c.command.new.crq.end).registered
    c.command.result (asks_plain c.args.line.now.verb (asks_by c.args.line.now.verb c.in-Some.op c.in-Some.ensures.command)).1

pub returns-in-Some-clause-takes : goal.returns-in-Some-clause-takes
returns-in-Some-clause-takes g c = none_taken c.args.line.now.verb (taken_in c.args.progress.now) c.args.self.now c.command.new.self c.command.result (sends_one c.args.line.now.verb c.in-Some.ensures.sends).1 (c.command.ensures.takes c.args.line.now.verb c.in-Some.ensures.command)

pub returns-in-Some-clause-puts : goal.returns-in-Some-clause-puts
returns-in-Some-clause-puts g c = same_puts c.args.line.now.verb c.command.result _ _ (sends_none c.args.line.now.verb c.in-Some.ensures.sends) c.command.ensures.values

pub returns-in-Some-clause-reads : goal.returns-in-Some-clause-reads
returns-in-Some-clause-reads g c = λ alone.
    none_read (seen_by g.C.CrqEnd.is_shared (g.O.WindowPort.state c.command.new.own) (g.C.CrqEnd.state c.command.new.crq.end)) c.args.self.now.client c.args.line.now.verb c.command.result
    (sends_no_data c.args.line.now.verb c.in-Some.ensures.sends)

pub returns-in-Some-clause-inward : goal.returns-in-Some-clause-inward
returns-in-Some-clause-inward g c = c.command.ensures.inward c.args.line.now.verb c.in-Some.ensures.command

pub returns-in-Some-clause-full : goal.returns-in-Some-clause-full
returns-in-Some-clause-full g c = c.command.ensures.full

pub returns-in-Some-clause-shut : goal.returns-in-Some-clause-shut
returns-in-Some-clause-shut g c = c.command.ensures.shut c.args.line.now.verb c.in-Some.ensures.command

pub returns-in-Some-clause-frees : goal.returns-in-Some-clause-frees
returns-in-Some-clause-frees g c = plain_makes (is_reset c.args.line.now.verb) c.args.progress.now _ (g.C.CrqEnd.state c.args.crq.now.end) (g.C.CrqEnd.state c.command.new.crq.end) (asks_plain c.args.line.now.verb (asks_by c.args.line.now.verb c.in-Some.op c.in-Some.ensures.command)).1 (c.command.ensures.works.calm refl)

pub returns-in-Some-clause-works : goal.returns-in-Some-clause-works
returns-in-Some-clause-works g c = let mark : c.from-mark.result ≡ c.args.line.now.number = search rules in works_as _ _ _ _ _ _ _ _ _ _ _ _ (sym (asks_plain c.args.line.now.verb (asks_by c.args.line.now.verb c.in-Some.op c.in-Some.ensures.command)).1) mark c.command.ensures.works

pub returns-in-Some-clause-region : goal.returns-in-Some-clause-region
returns-in-Some-clause-region g c = not_in_region g.O.WindowPort.is_shared c.args.line.now (g.O.WindowPort.state c.args.own.now) (g.O.WindowPort.state c.command.new.own) c.command.result (sends_apart c.args.line.now.verb c.in-Some.ensures.sends)

pub returns-in-Login-clause-credit : goal.returns-in-Login-clause-credit
returns-in-Login-clause-credit g c = fresh_both c.args.line.now.verb (taken_in c.args.progress.now) c.args.self.now.client c.login.new.self.client c.login.result (ap is_take c.in-Login.is) (c.login.ensures.credit c.args.line.now.verb)

pub returns-in-Logout-clause-credit : goal.returns-in-Logout-clause-credit
returns-in-Logout-clause-credit g c = fresh_both c.args.line.now.verb (taken_in c.args.progress.now) c.args.self.now.client c.logout.new.self.client c.logout.result (ap is_take c.in-Logout.is) (c.logout.ensures.credit c.args.line.now.verb (ap uses_credit c.in-Logout.is))

pub returns-in-Task-clause-credit : goal.returns-in-Task-clause-credit
returns-in-Task-clause-credit g c = fresh_both c.args.line.now.verb (taken_in c.args.progress.now) c.args.self.now.client c.task.new.self.client c.task.result (ap is_take c.in-Task.is) (c.task.ensures.credit c.args.line.now.verb (ap uses_credit c.in-Task.is))

pub returns-in-Login-clause-told : goal.returns-in-Login-clause-told
returns-in-Login-clause-told g c =
    told_as (g.O.WindowPort.state c.args.own.now).place.size c.args.line.now.verb _
    (seated c.args.self.now.client c.args.progress.now (g.C.CrqEnd.state c.args.crq.now.end).registered) (seated c.login.new.self.client c.args.progress.now (g.C.CrqEnd.state c.login.new.crq.end).registered)
    c.login.result c.in-Login.is (c.login.ensures.told c.args.progress.now)

pub returns-in-Reset-clause-told : goal.returns-in-Reset-clause-told
returns-in-Reset-clause-told g c =
    told_as (g.O.WindowPort.state c.args.own.now).place.size c.args.line.now.verb _
    (seated c.args.self.now.client c.args.progress.now (g.C.CrqEnd.state c.args.crq.now.end).registered) (seated c.reset.new.self.client c.reset.new.progress (g.C.CrqEnd.state c.reset.new.crq.end).registered)
    c.reset.result c.in-Reset.is (c.reset.ensures.told)

pub returns-in-Logout-clause-told : goal.returns-in-Logout-clause-told
returns-in-Logout-clause-told g c =
    told_as (g.O.WindowPort.state c.args.own.now).place.size c.args.line.now.verb _
    (seated c.args.self.now.client c.args.progress.now (g.C.CrqEnd.state c.args.crq.now.end).registered) (seated c.logout.new.self.client c.args.progress.now (g.C.CrqEnd.state c.logout.new.crq.end).registered)
    c.logout.result c.in-Logout.is (c.logout.ensures.told c.args.progress.now)

pub returns-in-Task-clause-told : goal.returns-in-Task-clause-told
returns-in-Task-clause-told g c =
    told_as (g.O.WindowPort.state c.args.own.now).place.size c.args.line.now.verb _
    (seated c.args.self.now.client c.args.progress.now (g.C.CrqEnd.state c.args.crq.now.end).registered) (seated c.task.new.self.client c.args.progress.now (g.C.CrqEnd.state c.task.new.crq.end).registered)
    c.task.result c.in-Task.is (c.task.ensures.told _ c.args.progress.now refl refl)

pub returns-in-Take-clause-told : goal.returns-in-Take-clause-told
returns-in-Take-clause-told g c =
    told_as (g.O.WindowPort.state c.args.own.now).place.size c.args.line.now.verb _
    (seated c.args.self.now.client c.args.progress.now (g.C.CrqEnd.state c.args.crq.now.end).registered) (seated c.take_on.new.self.client c.take_on.new.progress (g.C.CrqEnd.state c.take_on.new.crq.end).registered)
    c.take_on.result c.in-Take.is (c.take_on.ensures.told)

pub returns-in-Data-clause-told : goal.returns-in-Data-clause-told
returns-in-Data-clause-told g c =
    aside_told (g.O.WindowPort.state c.args.own.now).place.size c.args.line.now.verb
    (seated c.args.self.now.client c.args.progress.now (g.C.CrqEnd.state c.args.crq.now.end).registered) (seated c.data.new.self.client c.args.progress.now (g.C.CrqEnd.state c.args.crq.now.end).registered)
    c.data.result (aside_as c.args.line.now.verb _ c.in-Data.is (record { no_ask = refl; no_logout = refl; no_take = refl; no_reset = refl })) c.data.ensures.client refl refl c.data.ensures.plain
    (λ login outcome is. says_nothing (g.O.WindowPort.state c.args.own.now).place.size login c.args.line.now.verb outcome (ap asks c.in-Data.is) (ap is_logout c.in-Data.is) (ap is_own c.in-Data.is))

pub returns-in-Fill-clause-told : goal.returns-in-Fill-clause-told
returns-in-Fill-clause-told g c =
    aside_told (g.O.WindowPort.state c.args.own.now).place.size c.args.line.now.verb
    (seated c.args.self.now.client c.args.progress.now (g.C.CrqEnd.state c.args.crq.now.end).registered) (seated c.args.self.now.client c.args.progress.now (g.C.CrqEnd.state c.args.crq.now.end).registered)
    c.fill.result (aside_as c.args.line.now.verb _ c.in-Fill.is (record { no_ask = refl; no_logout = refl; no_take = refl; no_reset = refl })) refl refl refl c.fill.ensures.plain
    (fill_says g.O.WindowPort.is_shared (g.O.WindowPort.state c.args.own.now) (g.O.WindowPort.state c.fill.new.own) c.in-Fill.at c.in-Fill.len c.in-Fill.seed _ c.args.line.now.verb c.fill.result c.in-Fill.is c.fill.ensures.answer)

pub returns-in-Poke-clause-told : goal.returns-in-Poke-clause-told
returns-in-Poke-clause-told g c =
    aside_told (g.O.WindowPort.state c.args.own.now).place.size c.args.line.now.verb
    (seated c.args.self.now.client c.args.progress.now (g.C.CrqEnd.state c.args.crq.now.end).registered) (seated c.args.self.now.client c.args.progress.now (g.C.CrqEnd.state c.args.crq.now.end).registered)
    c.poke.result (aside_as c.args.line.now.verb _ c.in-Poke.is (record { no_ask = refl; no_logout = refl; no_take = refl; no_reset = refl })) refl refl refl c.poke.ensures.plain
    (poke_says g.O.WindowPort.is_shared (g.O.WindowPort.state c.args.own.now) (g.O.WindowPort.state c.poke.new.own) c.in-Poke.at c.in-Poke.bytes c.from-mark.result c.args.line.now.verb c.poke.result c.in-Poke.is
    (subst (λ (bytes : List ℕ). IfOk c.poke.result (AnswersWrite g.O.WindowPort.is_shared (g.O.WindowPort.state c.args.own.now) (g.O.WindowPort.state c.poke.new.own) c.in-Poke.at bytes c.from-mark.result))
    c.as_slice.ensures c.poke.ensures.answer))

pub returns-in-Peek-clause-told : goal.returns-in-Peek-clause-told
returns-in-Peek-clause-told g c =
    aside_told (g.O.WindowPort.state c.args.own.now).place.size c.args.line.now.verb
    (seated c.args.self.now.client c.args.progress.now (g.C.CrqEnd.state c.args.crq.now.end).registered) (seated c.args.self.now.client c.args.progress.now (g.C.CrqEnd.state c.args.crq.now.end).registered)
    c.peek.result (aside_as c.args.line.now.verb _ c.in-Peek.is (record { no_ask = refl; no_logout = refl; no_take = refl; no_reset = refl })) refl refl refl c.peek.ensures.plain
    (peek_says (g.O.WindowPort.state c.args.own.now) (g.O.WindowPort.state c.peek.new.own) c.in-Peek.at c.in-Peek.len c.args.line.now.verb c.peek.result c.in-Peek.is c.peek.ensures.window.place c.peek.ensures.answer)

pub returns-in-Tce-clause-told : goal.returns-in-Tce-clause-told
returns-in-Tce-clause-told g c =
    aside_told (g.O.WindowPort.state c.args.own.now).place.size c.args.line.now.verb
    (seated c.args.self.now.client c.args.progress.now (g.C.CrqEnd.state c.args.crq.now.end).registered) (seated c.args.self.now.client c.args.progress.now (g.C.CrqEnd.state c.args.crq.now.end).registered)
    c.put_tce.result (aside_as c.args.line.now.verb _ c.in-Tce.is (record { no_ask = refl; no_logout = refl; no_take = refl; no_reset = refl })) refl refl refl c.put_tce.ensures.plain
    (tce_says (g.O.WindowPort.state c.args.own.now) (g.O.WindowPort.state c.put_tce.new.own) c.in-Tce.entry c.in-Tce.page c.in-Tce.readable c.in-Tce.writable c.args.line.now.verb c.put_tce.result c.in-Tce.is c.put_tce.ensures.answer)

pub returns-in-Login-clause-out : goal.returns-in-Login-clause-out
returns-in-Login-clause-out g c = λ alone.
    other_out c.args.line.now.verb (seated c.args.self.now.client c.args.progress.now (g.C.CrqEnd.state c.args.crq.now.end).registered) (seated c.login.new.self.client c.args.progress.now (g.C.CrqEnd.state c.login.new.crq.end).registered)
    c.login.result (ap is_reset c.in-Login.is)

pub returns-in-Reset-clause-out : goal.returns-in-Reset-clause-out
returns-in-Reset-clause-out g c = λ alone.
    out_as c.args.line.now.verb _ (seated c.args.self.now.client c.args.progress.now (g.C.CrqEnd.state c.args.crq.now.end).registered) (seated c.reset.new.self.client c.reset.new.progress (g.C.CrqEnd.state c.reset.new.crq.end).registered)
    c.reset.result c.in-Reset.is (c.reset.ensures.out alone)

pub returns-in-Logout-clause-out : goal.returns-in-Logout-clause-out
returns-in-Logout-clause-out g c = λ alone.
    other_out c.args.line.now.verb (seated c.args.self.now.client c.args.progress.now (g.C.CrqEnd.state c.args.crq.now.end).registered) (seated c.logout.new.self.client c.args.progress.now (g.C.CrqEnd.state c.logout.new.crq.end).registered)
    c.logout.result (ap is_reset c.in-Logout.is)

pub returns-in-Task-clause-out : goal.returns-in-Task-clause-out
returns-in-Task-clause-out g c = λ alone.
    other_out c.args.line.now.verb (seated c.args.self.now.client c.args.progress.now (g.C.CrqEnd.state c.args.crq.now.end).registered) (seated c.task.new.self.client c.args.progress.now (g.C.CrqEnd.state c.task.new.crq.end).registered)
    c.task.result (ap is_reset c.in-Task.is)

pub returns-in-Take-clause-out : goal.returns-in-Take-clause-out
returns-in-Take-clause-out g c = λ alone.
    other_out c.args.line.now.verb (seated c.args.self.now.client c.args.progress.now (g.C.CrqEnd.state c.args.crq.now.end).registered) (seated c.take_on.new.self.client c.take_on.new.progress (g.C.CrqEnd.state c.take_on.new.crq.end).registered)
    c.take_on.result (ap is_reset c.in-Take.is)

pub returns-in-Data-clause-out : goal.returns-in-Data-clause-out
returns-in-Data-clause-out g c = λ alone.
    other_out c.args.line.now.verb (seated c.args.self.now.client c.args.progress.now (g.C.CrqEnd.state c.args.crq.now.end).registered) (seated c.data.new.self.client c.args.progress.now (g.C.CrqEnd.state c.args.crq.now.end).registered)
    c.data.result (ap is_reset c.in-Data.is)

pub returns-in-Fill-clause-out : goal.returns-in-Fill-clause-out
returns-in-Fill-clause-out g c = λ alone.
    other_out c.args.line.now.verb (seated c.args.self.now.client c.args.progress.now (g.C.CrqEnd.state c.args.crq.now.end).registered) (seated c.args.self.now.client c.args.progress.now (g.C.CrqEnd.state c.args.crq.now.end).registered)
    c.fill.result (ap is_reset c.in-Fill.is)

pub returns-in-Poke-clause-out : goal.returns-in-Poke-clause-out
returns-in-Poke-clause-out g c = λ alone.
    other_out c.args.line.now.verb (seated c.args.self.now.client c.args.progress.now (g.C.CrqEnd.state c.args.crq.now.end).registered) (seated c.args.self.now.client c.args.progress.now (g.C.CrqEnd.state c.args.crq.now.end).registered)
    c.poke.result (ap is_reset c.in-Poke.is)

pub returns-in-Peek-clause-out : goal.returns-in-Peek-clause-out
returns-in-Peek-clause-out g c = λ alone.
    other_out c.args.line.now.verb (seated c.args.self.now.client c.args.progress.now (g.C.CrqEnd.state c.args.crq.now.end).registered) (seated c.args.self.now.client c.args.progress.now (g.C.CrqEnd.state c.args.crq.now.end).registered)
    c.peek.result (ap is_reset c.in-Peek.is)

pub returns-in-Tce-clause-out : goal.returns-in-Tce-clause-out
returns-in-Tce-clause-out g c = λ alone.
    other_out c.args.line.now.verb (seated c.args.self.now.client c.args.progress.now (g.C.CrqEnd.state c.args.crq.now.end).registered) (seated c.args.self.now.client c.args.progress.now (g.C.CrqEnd.state c.args.crq.now.end).registered)
    c.put_tce.result (ap is_reset c.in-Tce.is)

pub returns-in-Login-clause-shows : goal.returns-in-Login-clause-shows
returns-in-Login-clause-shows g c = c.login.ensures.shows c.requires.slots (g.O.WindowPort.state c.args.own.now).place.unit c.args.line.now.number c.args.line.now.verb (ap requests c.in-Login.is) (ap written_by c.in-Login.is) (ap read_by c.in-Login.is) (ap further_of c.in-Login.is)

pub returns-in-Reset-clause-shows : goal.returns-in-Reset-clause-shows
returns-in-Reset-clause-shows g c = c.reset.ensures.shows c.requires.slots (g.O.WindowPort.state c.args.own.now).place.unit c.args.line.now.number c.args.line.now.verb (ap requests c.in-Reset.is) (ap written_by c.in-Reset.is) (ap read_by c.in-Reset.is) (ap further_of c.in-Reset.is)

pub returns-in-Take-clause-shows : goal.returns-in-Take-clause-shows
returns-in-Take-clause-shows g c = step_none (seen_since g.C.CrqEnd.is_shared (g.O.WindowPort.state c.take_on.new.own) (g.C.CrqEnd.state c.args.crq.now.end) (g.C.CrqEnd.state c.take_on.new.crq.end)) (g.O.WindowPort.state c.args.own.now).place.unit c.args.line.now.number c.args.line.now.verb c.take_on.result (ap requests c.in-Take.is) (ap written_by c.in-Take.is) (ap read_by c.in-Take.is) (ap further_of c.in-Take.is)

pub returns-in-Data-clause-shows : goal.returns-in-Data-clause-shows
returns-in-Data-clause-shows g c = step_none (seen_since g.C.CrqEnd.is_shared (g.O.WindowPort.state c.data.new.own) (g.C.CrqEnd.state c.args.crq.now.end) (g.C.CrqEnd.state c.args.crq.now.end)) (g.O.WindowPort.state c.args.own.now).place.unit c.args.line.now.number c.args.line.now.verb c.data.result (ap requests c.in-Data.is) (ap written_by c.in-Data.is) (ap read_by c.in-Data.is) (ap further_of c.in-Data.is)

pub returns-in-Peek-clause-shows : goal.returns-in-Peek-clause-shows
returns-in-Peek-clause-shows g c =
    read_shows (g.O.WindowPort.state c.args.own.now) (g.O.WindowPort.state c.peek.new.own) (g.O.WindowPort.state c.args.own.now).place.unit c.in-Peek.at c.in-Peek.len c.args.line.now.number
    (PutsOne g.C.CrqEnd.is_shared (g.C.CrqEnd.state c.args.crq.now.end) (g.C.CrqEnd.state c.args.crq.now.end)) c.args.line.now.verb c.peek.result
    (ap requests c.in-Peek.is) (ap written_by c.in-Peek.is) (ap read_by c.in-Peek.is) (ap further_of c.in-Peek.is) c.peek.ensures.answer

pub returns-in-Tce-clause-shows : goal.returns-in-Tce-clause-shows
returns-in-Tce-clause-shows g c =
    puts_shows (g.O.WindowPort.state c.args.own.now) (g.O.WindowPort.state c.put_tce.new.own) (g.O.WindowPort.state c.args.own.now).place.unit c.args.line.now.number
    c.in-Tce.entry (tce_of c.in-Tce.page c.in-Tce.readable c.in-Tce.writable) (PutsOne g.C.CrqEnd.is_shared (g.C.CrqEnd.state c.args.crq.now.end) (g.C.CrqEnd.state c.args.crq.now.end)) c.args.line.now.verb c.put_tce.result
    (ap requests c.in-Tce.is) (ap written_by c.in-Tce.is) (ap read_by c.in-Tce.is) (ap further_of c.in-Tce.is) c.put_tce.ensures.answer

pub returns-in-Logout-clause-shows : goal.returns-in-Logout-clause-shows
returns-in-Logout-clause-shows g c =
    let mark : c.from-mark.result ≡ c.args.line.now.number = search rules in
    subst (λ (v : Verb). StepShows (seen_since g.C.CrqEnd.is_shared (g.O.WindowPort.state c.logout.new.own) (g.C.CrqEnd.state c.args.crq.now.end) (g.C.CrqEnd.state c.logout.new.crq.end))
    (g.O.WindowPort.state c.args.own.now).place.unit c.args.line.now.number v c.logout.result) (sym c.in-Logout.is)
    (subst (λ n. StepShows (seen_since g.C.CrqEnd.is_shared (g.O.WindowPort.state c.logout.new.own) (g.C.CrqEnd.state c.args.crq.now.end) (g.C.CrqEnd.state c.logout.new.crq.end))
    (g.O.WindowPort.state c.args.own.now).place.unit n verbs.Logout c.logout.result) mark c.logout.ensures.shows)

pub returns-in-Task-clause-shows : goal.returns-in-Task-clause-shows
returns-in-Task-clause-shows g c =
    let mark : c.from-mark.result ≡ c.args.line.now.number = search rules in
    subst (λ (v : Verb). StepShows (seen_since g.C.CrqEnd.is_shared (g.O.WindowPort.state c.task.new.own) (g.C.CrqEnd.state c.args.crq.now.end) (g.C.CrqEnd.state c.task.new.crq.end))
    (g.O.WindowPort.state c.args.own.now).place.unit c.args.line.now.number v c.task.result) (sym c.in-Task.is)
    (subst (λ n. StepShows (seen_since g.C.CrqEnd.is_shared (g.O.WindowPort.state c.task.new.own) (g.C.CrqEnd.state c.args.crq.now.end) (g.C.CrqEnd.state c.task.new.crq.end))
    (g.O.WindowPort.state c.args.own.now).place.unit n (verbs.Task c.in-Task.function c.in-Task.tag) c.task.result) mark c.task.ensures.shows)

pub returns-in-Fill-clause-shows : goal.returns-in-Fill-clause-shows
returns-in-Fill-clause-shows g c =
    let mark : c.from-mark.result ≡ c.args.line.now.number = search rules in
    write_shows g.O.WindowPort.is_shared (g.O.WindowPort.state c.args.own.now) (g.O.WindowPort.state c.fill.new.own) c.in-Fill.at c.args.line.now.number
    (pattern c.in-Fill.seed c.in-Fill.len) (PutsOne g.C.CrqEnd.is_shared (g.C.CrqEnd.state c.args.crq.now.end) (g.C.CrqEnd.state c.args.crq.now.end)) c.args.line.now.verb c.fill.result
    (ap requests c.in-Fill.is) (ap written_by c.in-Fill.is) (ap read_by c.in-Fill.is) (ap further_of c.in-Fill.is)
    (subst (λ n. IfOk c.fill.result (AnswersWrite g.O.WindowPort.is_shared (g.O.WindowPort.state c.args.own.now) (g.O.WindowPort.state c.fill.new.own) c.in-Fill.at
    (pattern c.in-Fill.seed c.in-Fill.len) n)) mark c.fill.ensures.answer)

pub returns-in-Poke-clause-shows : goal.returns-in-Poke-clause-shows
returns-in-Poke-clause-shows g c =
    let mark : c.from-mark.result ≡ c.args.line.now.number = search rules in
    write_shows g.O.WindowPort.is_shared (g.O.WindowPort.state c.args.own.now) (g.O.WindowPort.state c.poke.new.own) c.in-Poke.at c.args.line.now.number
    c.in-Poke.bytes (PutsOne g.C.CrqEnd.is_shared (g.C.CrqEnd.state c.args.crq.now.end) (g.C.CrqEnd.state c.args.crq.now.end)) c.args.line.now.verb c.poke.result
    (ap requests c.in-Poke.is) (ap written_by c.in-Poke.is) (ap read_by c.in-Poke.is) (ap further_of c.in-Poke.is)
    (subst (λ n. IfOk c.poke.result (AnswersWrite g.O.WindowPort.is_shared (g.O.WindowPort.state c.args.own.now) (g.O.WindowPort.state c.poke.new.own) c.in-Poke.at
    c.in-Poke.bytes n)) mark
    (subst (λ (bytes : List ℕ). IfOk c.poke.result (AnswersWrite g.O.WindowPort.is_shared (g.O.WindowPort.state c.args.own.now) (g.O.WindowPort.state c.poke.new.own) c.in-Poke.at bytes c.from-mark.result))
    c.as_slice.ensures c.poke.ensures.answer))

pub returns-in-Login-clause-registered : goal.returns-in-Login-clause-registered
returns-in-Login-clause-registered g c = λ alone.
    other_open c.args.line.now.verb c.args.progress.now (IsHeldOff (link_seen (g.C.CrqEnd.state c.args.crq.now.end))) (g.C.CrqEnd.state c.login.new.crq.end).registered c.login.result (ap is_reset c.in-Login.is)

pub returns-in-Reset-clause-registered : goal.returns-in-Reset-clause-registered
returns-in-Reset-clause-registered g c = λ alone.
    open_as c.args.line.now.verb _ c.reset.new.progress (IsHeldOff (link_seen (g.C.CrqEnd.state c.args.crq.now.end))) (g.C.CrqEnd.state c.reset.new.crq.end).registered c.reset.result c.in-Reset.is (c.reset.ensures.registered alone)

pub returns-in-Logout-clause-registered : goal.returns-in-Logout-clause-registered
returns-in-Logout-clause-registered g c = λ alone.
    other_open c.args.line.now.verb c.args.progress.now (IsHeldOff (link_seen (g.C.CrqEnd.state c.args.crq.now.end))) (g.C.CrqEnd.state c.logout.new.crq.end).registered c.logout.result (ap is_reset c.in-Logout.is)

pub returns-in-Task-clause-registered : goal.returns-in-Task-clause-registered
returns-in-Task-clause-registered g c = λ alone.
    other_open c.args.line.now.verb c.args.progress.now (IsHeldOff (link_seen (g.C.CrqEnd.state c.args.crq.now.end))) (g.C.CrqEnd.state c.task.new.crq.end).registered c.task.result (ap is_reset c.in-Task.is)

pub returns-in-Take-clause-registered : goal.returns-in-Take-clause-registered
returns-in-Take-clause-registered g c = λ alone.
    other_open c.args.line.now.verb c.take_on.new.progress (IsHeldOff (link_seen (g.C.CrqEnd.state c.args.crq.now.end))) (g.C.CrqEnd.state c.take_on.new.crq.end).registered c.take_on.result (ap is_reset c.in-Take.is)

pub returns-in-Data-clause-registered : goal.returns-in-Data-clause-registered
returns-in-Data-clause-registered g c = λ alone.
    other_open c.args.line.now.verb c.args.progress.now (IsHeldOff (link_seen (g.C.CrqEnd.state c.args.crq.now.end))) (g.C.CrqEnd.state c.args.crq.now.end).registered c.data.result (ap is_reset c.in-Data.is)

pub returns-in-Fill-clause-registered : goal.returns-in-Fill-clause-registered
returns-in-Fill-clause-registered g c = λ alone.
    other_open c.args.line.now.verb c.args.progress.now (IsHeldOff (link_seen (g.C.CrqEnd.state c.args.crq.now.end))) (g.C.CrqEnd.state c.args.crq.now.end).registered c.fill.result (ap is_reset c.in-Fill.is)

pub returns-in-Poke-clause-registered : goal.returns-in-Poke-clause-registered
returns-in-Poke-clause-registered g c = λ alone.
    other_open c.args.line.now.verb c.args.progress.now (IsHeldOff (link_seen (g.C.CrqEnd.state c.args.crq.now.end))) (g.C.CrqEnd.state c.args.crq.now.end).registered c.poke.result (ap is_reset c.in-Poke.is)

pub returns-in-Peek-clause-registered : goal.returns-in-Peek-clause-registered
returns-in-Peek-clause-registered g c = λ alone.
    other_open c.args.line.now.verb c.args.progress.now (IsHeldOff (link_seen (g.C.CrqEnd.state c.args.crq.now.end))) (g.C.CrqEnd.state c.args.crq.now.end).registered c.peek.result (ap is_reset c.in-Peek.is)

pub returns-in-Tce-clause-registered : goal.returns-in-Tce-clause-registered
returns-in-Tce-clause-registered g c = λ alone.
    other_open c.args.line.now.verb c.args.progress.now (IsHeldOff (link_seen (g.C.CrqEnd.state c.args.crq.now.end))) (g.C.CrqEnd.state c.args.crq.now.end).registered c.put_tce.result (ap is_reset c.in-Tce.is)

pub returns-in-Login-clause-takes : goal.returns-in-Login-clause-takes
returns-in-Login-clause-takes g c =
    none_taken c.args.line.now.verb (taken_in c.args.progress.now) c.args.self.now c.login.new.self c.login.result (ap is_take c.in-Login.is)
    (taken_verb c.args.line.now.verb _ 0 0 c.args.self.now c.login.new.self c.login.result c.in-Login.is c.login.ensures.takes)

pub returns-in-Logout-clause-takes : goal.returns-in-Logout-clause-takes
returns-in-Logout-clause-takes g c =
    none_taken c.args.line.now.verb (taken_in c.args.progress.now) c.args.self.now c.logout.new.self c.logout.result (ap is_take c.in-Logout.is)
    (taken_verb c.args.line.now.verb _ 0 0 c.args.self.now c.logout.new.self c.logout.result c.in-Logout.is c.logout.ensures.takes)

pub returns-in-Task-clause-takes : goal.returns-in-Task-clause-takes
returns-in-Task-clause-takes g c =
    none_taken c.args.line.now.verb (taken_in c.args.progress.now) c.args.self.now c.task.new.self c.task.result (ap is_take c.in-Task.is)
    (taken_verb c.args.line.now.verb _ 0 0 c.args.self.now c.task.new.self c.task.result c.in-Task.is c.task.ensures.takes)

pub returns-in-Reset-clause-takes : goal.returns-in-Reset-clause-takes
returns-in-Reset-clause-takes g c = taken_verb c.args.line.now.verb _ (taken_in c.args.progress.now) (taken_in c.reset.new.progress) c.args.self.now c.reset.new.self c.reset.result c.in-Reset.is c.reset.ensures.takes

pub returns-in-Take-clause-takes : goal.returns-in-Take-clause-takes
returns-in-Take-clause-takes g c = taken_verb c.args.line.now.verb _ (taken_in c.args.progress.now) (taken_in c.take_on.new.progress) c.args.self.now c.take_on.new.self c.take_on.result c.in-Take.is c.take_on.ensures.takes

pub returns-in-Data-clause-takes : goal.returns-in-Data-clause-takes
returns-in-Data-clause-takes g c =
    none_taken c.args.line.now.verb (taken_in c.args.progress.now) c.args.self.now c.data.new.self c.data.result (ap is_take c.in-Data.is)
    (taken_verb c.args.line.now.verb _ 0 0 c.args.self.now c.data.new.self c.data.result c.in-Data.is c.data.ensures.takes)

pub returns-in-Data-clause-gives : goal.returns-in-Data-clause-gives
returns-in-Data-clause-gives g c = data_step c.args.self.now c.data.new.self (g.C.CrqEnd.state c.args.crq.now.end) c.data.result c.data.ensures.answers c.data.ensures.client

pub returns-in-Fill-clause-takes : goal.returns-in-Fill-clause-takes
returns-in-Fill-clause-takes g c = own_step c.args.line.now.verb (taken_in c.args.progress.now) c.args.self.now c.fill.result (ap is_take c.in-Fill.is) (ap is_data c.in-Fill.is) c.fill.ensures.plain

pub returns-in-Fill-clause-gives : goal.returns-in-Fill-clause-gives
returns-in-Fill-clause-gives g c = gives_ok c.args.self.now c.args.self.now (g.C.CrqEnd.state c.args.crq.now.end) (g.C.CrqEnd.state c.args.crq.now.end) c.fill.result (gives_same c.args.self.now (g.C.CrqEnd.state c.args.crq.now.end))

pub returns-in-Poke-clause-takes : goal.returns-in-Poke-clause-takes
returns-in-Poke-clause-takes g c = own_step c.args.line.now.verb (taken_in c.args.progress.now) c.args.self.now c.poke.result (ap is_take c.in-Poke.is) (ap is_data c.in-Poke.is) c.poke.ensures.plain

pub returns-in-Poke-clause-gives : goal.returns-in-Poke-clause-gives
returns-in-Poke-clause-gives g c = gives_ok c.args.self.now c.args.self.now (g.C.CrqEnd.state c.args.crq.now.end) (g.C.CrqEnd.state c.args.crq.now.end) c.poke.result (gives_same c.args.self.now (g.C.CrqEnd.state c.args.crq.now.end))

pub returns-in-Peek-clause-takes : goal.returns-in-Peek-clause-takes
returns-in-Peek-clause-takes g c = own_step c.args.line.now.verb (taken_in c.args.progress.now) c.args.self.now c.peek.result (ap is_take c.in-Peek.is) (ap is_data c.in-Peek.is) c.peek.ensures.plain

pub returns-in-Peek-clause-gives : goal.returns-in-Peek-clause-gives
returns-in-Peek-clause-gives g c = gives_ok c.args.self.now c.args.self.now (g.C.CrqEnd.state c.args.crq.now.end) (g.C.CrqEnd.state c.args.crq.now.end) c.peek.result (gives_same c.args.self.now (g.C.CrqEnd.state c.args.crq.now.end))

pub returns-in-Tce-clause-takes : goal.returns-in-Tce-clause-takes
returns-in-Tce-clause-takes g c = own_step c.args.line.now.verb (taken_in c.args.progress.now) c.args.self.now c.put_tce.result (ap is_take c.in-Tce.is) (ap is_data c.in-Tce.is) c.put_tce.ensures.plain

pub returns-in-Tce-clause-gives : goal.returns-in-Tce-clause-gives
returns-in-Tce-clause-gives g c = gives_ok c.args.self.now c.args.self.now (g.C.CrqEnd.state c.args.crq.now.end) (g.C.CrqEnd.state c.args.crq.now.end) c.put_tce.result (gives_same c.args.self.now (g.C.CrqEnd.state c.args.crq.now.end))

pub returns-in-Data-clause-hears : goal.returns-in-Data-clause-hears
returns-in-Data-clause-hears g c =
    asks_hear c.args.self.now c.data.new.self (g.C.CrqEnd.state c.args.crq.now.end) (g.C.CrqEnd.state c.args.crq.now.end) c.data.result (plain_none c.data.result c.data.ensures.plain)
    (data_step c.args.self.now c.data.new.self (g.C.CrqEnd.state c.args.crq.now.end) c.data.result c.data.ensures.answers c.data.ensures.client)

pub returns-in-Fill-clause-hears : goal.returns-in-Fill-clause-hears
returns-in-Fill-clause-hears g c =
    asks_hear c.args.self.now c.args.self.now (g.C.CrqEnd.state c.args.crq.now.end) (g.C.CrqEnd.state c.args.crq.now.end) c.fill.result (plain_none c.fill.result c.fill.ensures.plain)
    (gives_ok c.args.self.now c.args.self.now (g.C.CrqEnd.state c.args.crq.now.end) (g.C.CrqEnd.state c.args.crq.now.end) c.fill.result (gives_same c.args.self.now (g.C.CrqEnd.state c.args.crq.now.end)))

pub returns-in-Poke-clause-hears : goal.returns-in-Poke-clause-hears
returns-in-Poke-clause-hears g c =
    asks_hear c.args.self.now c.args.self.now (g.C.CrqEnd.state c.args.crq.now.end) (g.C.CrqEnd.state c.args.crq.now.end) c.poke.result (plain_none c.poke.result c.poke.ensures.plain)
    (gives_ok c.args.self.now c.args.self.now (g.C.CrqEnd.state c.args.crq.now.end) (g.C.CrqEnd.state c.args.crq.now.end) c.poke.result (gives_same c.args.self.now (g.C.CrqEnd.state c.args.crq.now.end)))

pub returns-in-Peek-clause-hears : goal.returns-in-Peek-clause-hears
returns-in-Peek-clause-hears g c =
    asks_hear c.args.self.now c.args.self.now (g.C.CrqEnd.state c.args.crq.now.end) (g.C.CrqEnd.state c.args.crq.now.end) c.peek.result (plain_none c.peek.result c.peek.ensures.plain)
    (gives_ok c.args.self.now c.args.self.now (g.C.CrqEnd.state c.args.crq.now.end) (g.C.CrqEnd.state c.args.crq.now.end) c.peek.result (gives_same c.args.self.now (g.C.CrqEnd.state c.args.crq.now.end)))

pub returns-in-Tce-clause-hears : goal.returns-in-Tce-clause-hears
returns-in-Tce-clause-hears g c =
    asks_hear c.args.self.now c.args.self.now (g.C.CrqEnd.state c.args.crq.now.end) (g.C.CrqEnd.state c.args.crq.now.end) c.put_tce.result (plain_none c.put_tce.result c.put_tce.ensures.plain)
    (gives_ok c.args.self.now c.args.self.now (g.C.CrqEnd.state c.args.crq.now.end) (g.C.CrqEnd.state c.args.crq.now.end) c.put_tce.result (gives_same c.args.self.now (g.C.CrqEnd.state c.args.crq.now.end)))

pub returns-in-Login-clause-puts : goal.returns-in-Login-clause-puts
returns-in-Login-clause-puts g c = same_puts c.args.line.now.verb c.login.result _ _ (ap is_put c.in-Login.is) c.login.ensures.values

pub returns-in-Reset-clause-puts : goal.returns-in-Reset-clause-puts
returns-in-Reset-clause-puts g c = same_puts c.args.line.now.verb c.reset.result _ _ (ap is_put c.in-Reset.is) c.reset.ensures.values

pub returns-in-Logout-clause-puts : goal.returns-in-Logout-clause-puts
returns-in-Logout-clause-puts g c = same_puts c.args.line.now.verb c.logout.result _ _ (ap is_put c.in-Logout.is) c.logout.ensures.values

pub returns-in-Task-clause-puts : goal.returns-in-Task-clause-puts
returns-in-Task-clause-puts g c = same_puts c.args.line.now.verb c.task.result _ _ (ap is_put c.in-Task.is) c.task.ensures.values

pub returns-in-Take-clause-puts : goal.returns-in-Take-clause-puts
returns-in-Take-clause-puts g c = same_puts c.args.line.now.verb c.take_on.result _ _ (ap is_put c.in-Take.is) c.take_on.ensures.values

pub returns-in-Data-clause-puts : goal.returns-in-Data-clause-puts
returns-in-Data-clause-puts g c = same_puts c.args.line.now.verb c.data.result _ _ (ap is_put c.in-Data.is) c.data.ensures.values

pub returns-in-Fill-clause-puts : goal.returns-in-Fill-clause-puts
returns-in-Fill-clause-puts g c = same_puts c.args.line.now.verb c.fill.result _ _ (ap is_put c.in-Fill.is) c.fill.ensures.rest.values

pub returns-in-Poke-clause-puts : goal.returns-in-Poke-clause-puts
returns-in-Poke-clause-puts g c = same_puts c.args.line.now.verb c.poke.result _ _ (ap is_put c.in-Poke.is) c.poke.ensures.rest.values

pub returns-in-Peek-clause-puts : goal.returns-in-Peek-clause-puts
returns-in-Peek-clause-puts g c = same_puts c.args.line.now.verb c.peek.result _ _ (ap is_put c.in-Peek.is) c.peek.ensures.rest.values

pub returns-in-Tce-clause-puts : goal.returns-in-Tce-clause-puts
returns-in-Tce-clause-puts g c = tce_puts c.in-Tce.entry c.in-Tce.page c.in-Tce.readable c.in-Tce.writable (g.O.WindowPort.state c.args.own.now) (g.O.WindowPort.state c.put_tce.new.own) c.args.line.now.verb c.put_tce.result c.in-Tce.is c.put_tce.ensures.answer

pub returns-in-Login-clause-reads : goal.returns-in-Login-clause-reads
returns-in-Login-clause-reads g c = λ alone.
    none_read (seen_by g.C.CrqEnd.is_shared (g.O.WindowPort.state c.login.new.own) (g.C.CrqEnd.state c.login.new.crq.end)) c.args.self.now.client c.args.line.now.verb c.login.result (ap given_by c.in-Login.is)

pub returns-in-Reset-clause-reads : goal.returns-in-Reset-clause-reads
returns-in-Reset-clause-reads g c = λ alone.
    none_read (seen_by g.C.CrqEnd.is_shared (g.O.WindowPort.state c.reset.new.own) (g.C.CrqEnd.state c.reset.new.crq.end)) c.args.self.now.client c.args.line.now.verb c.reset.result (ap given_by c.in-Reset.is)

pub returns-in-Logout-clause-reads : goal.returns-in-Logout-clause-reads
returns-in-Logout-clause-reads g c = λ alone.
    none_read (seen_by g.C.CrqEnd.is_shared (g.O.WindowPort.state c.logout.new.own) (g.C.CrqEnd.state c.logout.new.crq.end)) c.args.self.now.client c.args.line.now.verb c.logout.result (ap given_by c.in-Logout.is)

pub returns-in-Task-clause-reads : goal.returns-in-Task-clause-reads
returns-in-Task-clause-reads g c = λ alone.
    none_read (seen_by g.C.CrqEnd.is_shared (g.O.WindowPort.state c.task.new.own) (g.C.CrqEnd.state c.task.new.crq.end)) c.args.self.now.client c.args.line.now.verb c.task.result (ap given_by c.in-Task.is)

pub returns-in-Take-clause-reads : goal.returns-in-Take-clause-reads
returns-in-Take-clause-reads g c = λ alone.
    none_read (seen_by g.C.CrqEnd.is_shared (g.O.WindowPort.state c.take_on.new.own) (g.C.CrqEnd.state c.take_on.new.crq.end)) c.args.self.now.client c.args.line.now.verb c.take_on.result (ap given_by c.in-Take.is)

pub returns-in-Fill-clause-reads : goal.returns-in-Fill-clause-reads
returns-in-Fill-clause-reads g c = λ alone.
    none_read (seen_by g.C.CrqEnd.is_shared (g.O.WindowPort.state c.fill.new.own) (g.C.CrqEnd.state c.args.crq.now.end)) c.args.self.now.client c.args.line.now.verb c.fill.result (ap given_by c.in-Fill.is)

pub returns-in-Poke-clause-reads : goal.returns-in-Poke-clause-reads
returns-in-Poke-clause-reads g c = λ alone.
    none_read (seen_by g.C.CrqEnd.is_shared (g.O.WindowPort.state c.poke.new.own) (g.C.CrqEnd.state c.args.crq.now.end)) c.args.self.now.client c.args.line.now.verb c.poke.result (ap given_by c.in-Poke.is)

pub returns-in-Peek-clause-reads : goal.returns-in-Peek-clause-reads
returns-in-Peek-clause-reads g c = λ alone.
    none_read (seen_by g.C.CrqEnd.is_shared (g.O.WindowPort.state c.peek.new.own) (g.C.CrqEnd.state c.args.crq.now.end)) c.args.self.now.client c.args.line.now.verb c.peek.result (ap given_by c.in-Peek.is)

pub returns-in-Tce-clause-reads : goal.returns-in-Tce-clause-reads
returns-in-Tce-clause-reads g c = λ alone.
    none_read (seen_by g.C.CrqEnd.is_shared (g.O.WindowPort.state c.put_tce.new.own) (g.C.CrqEnd.state c.args.crq.now.end)) c.args.self.now.client c.args.line.now.verb c.put_tce.result (ap given_by c.in-Tce.is)

pub returns-in-Data-clause-reads : goal.returns-in-Data-clause-reads
returns-in-Data-clause-reads g c = λ alone.
    verb_reads (seen_by g.C.CrqEnd.is_shared (g.O.WindowPort.state c.data.new.own) (g.C.CrqEnd.state c.args.crq.now.end)) c.args.self.now.client _ c.args.line.now.verb c.data.result c.in-Data.is
    (c.data.ensures.reads alone g.C.CrqEnd.is_shared (g.C.CrqEnd.state c.args.crq.now.end))

pub returns-in-Login-clause-inward : goal.returns-in-Login-clause-inward
returns-in-Login-clause-inward g c = none_sends c.login.new.self.client.rows c.args.line.now.verb c.login.result (ap range_in c.in-Login.is)

pub returns-in-Reset-clause-inward : goal.returns-in-Reset-clause-inward
returns-in-Reset-clause-inward g c = none_sends c.reset.new.self.client.rows c.args.line.now.verb c.reset.result (ap range_in c.in-Reset.is)

pub returns-in-Logout-clause-inward : goal.returns-in-Logout-clause-inward
returns-in-Logout-clause-inward g c = none_sends c.logout.new.self.client.rows c.args.line.now.verb c.logout.result (ap range_in c.in-Logout.is)

pub returns-in-Task-clause-inward : goal.returns-in-Task-clause-inward
returns-in-Task-clause-inward g c = none_sends c.task.new.self.client.rows c.args.line.now.verb c.task.result (ap range_in c.in-Task.is)

pub returns-in-Take-clause-inward : goal.returns-in-Take-clause-inward
returns-in-Take-clause-inward g c = none_sends c.take_on.new.self.client.rows c.args.line.now.verb c.take_on.result (ap range_in c.in-Take.is)

pub returns-in-Data-clause-inward : goal.returns-in-Data-clause-inward
returns-in-Data-clause-inward g c = none_sends c.data.new.self.client.rows c.args.line.now.verb c.data.result (ap range_in c.in-Data.is)

pub returns-in-Fill-clause-inward : goal.returns-in-Fill-clause-inward
returns-in-Fill-clause-inward g c = none_sends c.args.self.now.client.rows c.args.line.now.verb c.fill.result (ap range_in c.in-Fill.is)

pub returns-in-Poke-clause-inward : goal.returns-in-Poke-clause-inward
returns-in-Poke-clause-inward g c = none_sends c.args.self.now.client.rows c.args.line.now.verb c.poke.result (ap range_in c.in-Poke.is)

pub returns-in-Peek-clause-inward : goal.returns-in-Peek-clause-inward
returns-in-Peek-clause-inward g c = none_sends c.args.self.now.client.rows c.args.line.now.verb c.peek.result (ap range_in c.in-Peek.is)

pub returns-in-Tce-clause-inward : goal.returns-in-Tce-clause-inward
returns-in-Tce-clause-inward g c = none_sends c.args.self.now.client.rows c.args.line.now.verb c.put_tce.result (ap range_in c.in-Tce.is)

pub returns-in-Login-clause-works : goal.returns-in-Login-clause-works
returns-in-Login-clause-works g c =
    let mark : c.from-mark.result ≡ c.args.line.now.number = search rules in
    works_as _ _ _ _ _ _ _ _ _ _ _ _ (sym (ap is_reset c.in-Login.is)) mark c.login.ensures.works

pub returns-in-Reset-clause-works : goal.returns-in-Reset-clause-works
returns-in-Reset-clause-works g c =
    let mark : c.from-mark.result ≡ c.args.line.now.number = search rules in
    works_as _ _ _ _ _ _ _ _ _ _ _ _ (sym (ap is_reset c.in-Reset.is)) mark c.reset.ensures.works

pub returns-in-Logout-clause-works : goal.returns-in-Logout-clause-works
returns-in-Logout-clause-works g c =
    let mark : c.from-mark.result ≡ c.args.line.now.number = search rules in
    works_as _ _ _ _ _ _ _ _ _ _ _ _ (sym (ap is_reset c.in-Logout.is)) mark c.logout.ensures.works

pub returns-in-Task-clause-works : goal.returns-in-Task-clause-works
returns-in-Task-clause-works g c =
    let mark : c.from-mark.result ≡ c.args.line.now.number = search rules in
    works_as _ _ _ _ _ _ _ _ _ _ _ _ (sym (ap is_reset c.in-Task.is)) mark c.task.ensures.works

pub returns-in-Fill-clause-works : goal.returns-in-Fill-clause-works
returns-in-Fill-clause-works g c =
    let mark : c.from-mark.result ≡ c.args.line.now.number = search rules in
    works_window _ _ _ (g.C.CrqEnd.state c.args.crq.now.end) (g.O.WindowPort.state c.args.own.now) (g.O.WindowPort.state c.fill.new.own) c.args.self.now c.args.self.now c.fill.ensures.window
    (subst (λ n. LaysUnder g.O.WindowPort.is_shared n (g.O.WindowPort.state c.args.own.now) (g.O.WindowPort.state c.fill.new.own)) mark
    (just_under g.O.WindowPort.is_shared (g.O.WindowPort.state c.args.own.now) (g.O.WindowPort.state c.fill.new.own) c.from-mark.result
    (Some (record { at = c.in-Fill.at; bytes = pattern c.in-Fill.seed c.in-Fill.len })) c.fill.result c.fill.ensures.lays)) refl refl refl

pub returns-in-Poke-clause-works : goal.returns-in-Poke-clause-works
returns-in-Poke-clause-works g c =
    let mark : c.from-mark.result ≡ c.args.line.now.number = search rules in
    works_window _ _ _ (g.C.CrqEnd.state c.args.crq.now.end) (g.O.WindowPort.state c.args.own.now) (g.O.WindowPort.state c.poke.new.own) c.args.self.now c.args.self.now c.poke.ensures.window
    (subst (λ n. LaysUnder g.O.WindowPort.is_shared n (g.O.WindowPort.state c.args.own.now) (g.O.WindowPort.state c.poke.new.own)) mark
    (just_under g.O.WindowPort.is_shared (g.O.WindowPort.state c.args.own.now) (g.O.WindowPort.state c.poke.new.own) c.from-mark.result
    (Some (record { at = c.in-Poke.at; bytes = c.as_slice.result.now })) c.poke.result c.poke.ensures.lays)) refl refl refl

pub returns-in-Peek-clause-works : goal.returns-in-Peek-clause-works
returns-in-Peek-clause-works g c =
    works_window _ _ _ (g.C.CrqEnd.state c.args.crq.now.end) (g.O.WindowPort.state c.args.own.now) (g.O.WindowPort.state c.peek.new.own) c.args.self.now c.args.self.now c.peek.ensures.window
    (none_under g.O.WindowPort.is_shared c.args.line.now.number (g.O.WindowPort.state c.args.own.now) (g.O.WindowPort.state c.peek.new.own) c.peek.ensures.marks) refl refl refl

pub returns-in-Tce-clause-works : goal.returns-in-Tce-clause-works
returns-in-Tce-clause-works g c =
    works_window _ _ _ (g.C.CrqEnd.state c.args.crq.now.end) (g.O.WindowPort.state c.args.own.now) (g.O.WindowPort.state c.put_tce.new.own) c.args.self.now c.args.self.now c.put_tce.ensures.window
    (none_under g.O.WindowPort.is_shared c.args.line.now.number (g.O.WindowPort.state c.args.own.now) (g.O.WindowPort.state c.put_tce.new.own) c.put_tce.ensures.marks) refl refl refl

pub returns-in-Take-clause-works : goal.returns-in-Take-clause-works
returns-in-Take-clause-works g c = works_as _ _ _ _ _ _ _ _ _ _ _ _ (sym (ap is_reset c.in-Take.is)) refl (works_marked c.args.line.now.number _ _ _ _ _ _ _ _ _ c.take_on.ensures.works)

pub returns-in-Data-clause-works : goal.returns-in-Data-clause-works
returns-in-Data-clause-works g c =
    works_window _ _ _ (g.C.CrqEnd.state c.args.crq.now.end) (g.O.WindowPort.state c.args.own.now) (g.O.WindowPort.state c.data.new.own) c.args.self.now c.data.new.self c.data.ensures.window
    (none_under g.O.WindowPort.is_shared c.args.line.now.number (g.O.WindowPort.state c.args.own.now) (g.O.WindowPort.state c.data.new.own) c.data.ensures.marks) c.data.ensures.unit
    (ap (λ rows. rows.items) c.data.ensures.answers) c.data.ensures.client

pub returns-in-Login-clause-frees : goal.returns-in-Login-clause-frees
returns-in-Login-clause-frees g c = plain_makes (is_reset c.args.line.now.verb) c.args.progress.now _ (g.C.CrqEnd.state c.args.crq.now.end) (g.C.CrqEnd.state c.login.new.crq.end) (ap is_reset c.in-Login.is) (c.login.ensures.works.calm refl)

pub returns-in-Logout-clause-frees : goal.returns-in-Logout-clause-frees
returns-in-Logout-clause-frees g c = plain_makes (is_reset c.args.line.now.verb) c.args.progress.now _ (g.C.CrqEnd.state c.args.crq.now.end) (g.C.CrqEnd.state c.logout.new.crq.end) (ap is_reset c.in-Logout.is) (c.logout.ensures.works.calm refl)

pub returns-in-Task-clause-frees : goal.returns-in-Task-clause-frees
returns-in-Task-clause-frees g c = plain_makes (is_reset c.args.line.now.verb) c.args.progress.now _ (g.C.CrqEnd.state c.args.crq.now.end) (g.C.CrqEnd.state c.task.new.crq.end) (ap is_reset c.in-Task.is) (c.task.ensures.works.calm refl)

pub returns-in-Take-clause-frees : goal.returns-in-Take-clause-frees
returns-in-Take-clause-frees g c = plain_makes (is_reset c.args.line.now.verb) c.args.progress.now _ (g.C.CrqEnd.state c.args.crq.now.end) (g.C.CrqEnd.state c.take_on.new.crq.end) (ap is_reset c.in-Take.is) (c.take_on.ensures.works.calm refl)

pub returns-in-Data-clause-frees : goal.returns-in-Data-clause-frees
returns-in-Data-clause-frees g c = plain_makes (is_reset c.args.line.now.verb) c.args.progress.now _ (g.C.CrqEnd.state c.args.crq.now.end) (g.C.CrqEnd.state c.args.crq.now.end) (ap is_reset c.in-Data.is) (calm_same (g.C.CrqEnd.state c.args.crq.now.end) (g.C.CrqEnd.state c.args.crq.now.end) refl refl)

pub returns-in-Fill-clause-frees : goal.returns-in-Fill-clause-frees
returns-in-Fill-clause-frees g c = plain_makes (is_reset c.args.line.now.verb) c.args.progress.now _ (g.C.CrqEnd.state c.args.crq.now.end) (g.C.CrqEnd.state c.args.crq.now.end) (ap is_reset c.in-Fill.is) (calm_same (g.C.CrqEnd.state c.args.crq.now.end) (g.C.CrqEnd.state c.args.crq.now.end) refl refl)

pub returns-in-Poke-clause-frees : goal.returns-in-Poke-clause-frees
returns-in-Poke-clause-frees g c = plain_makes (is_reset c.args.line.now.verb) c.args.progress.now _ (g.C.CrqEnd.state c.args.crq.now.end) (g.C.CrqEnd.state c.args.crq.now.end) (ap is_reset c.in-Poke.is) (calm_same (g.C.CrqEnd.state c.args.crq.now.end) (g.C.CrqEnd.state c.args.crq.now.end) refl refl)

pub returns-in-Peek-clause-frees : goal.returns-in-Peek-clause-frees
returns-in-Peek-clause-frees g c = plain_makes (is_reset c.args.line.now.verb) c.args.progress.now _ (g.C.CrqEnd.state c.args.crq.now.end) (g.C.CrqEnd.state c.args.crq.now.end) (ap is_reset c.in-Peek.is) (calm_same (g.C.CrqEnd.state c.args.crq.now.end) (g.C.CrqEnd.state c.args.crq.now.end) refl refl)

pub returns-in-Tce-clause-frees : goal.returns-in-Tce-clause-frees
returns-in-Tce-clause-frees g c = plain_makes (is_reset c.args.line.now.verb) c.args.progress.now _ (g.C.CrqEnd.state c.args.crq.now.end) (g.C.CrqEnd.state c.args.crq.now.end) (ap is_reset c.in-Tce.is) (calm_same (g.C.CrqEnd.state c.args.crq.now.end) (g.C.CrqEnd.state c.args.crq.now.end) refl refl)

pub returns-in-Reset-clause-frees : goal.returns-in-Reset-clause-frees
returns-in-Reset-clause-frees g c = subst (λ b. StepMakes b c.args.progress.now c.reset.new.progress (g.C.CrqEnd.state c.args.crq.now.end) (g.C.CrqEnd.state c.reset.new.crq.end)) (sym (ap is_reset c.in-Reset.is)) c.reset.ensures.frees

pub returns-in-Login-clause-full : goal.returns-in-Login-clause-full
returns-in-Login-clause-full g c = c.login.ensures.full

pub returns-in-Reset-clause-full : goal.returns-in-Reset-clause-full
returns-in-Reset-clause-full g c = c.reset.ensures.full

pub returns-in-Logout-clause-full : goal.returns-in-Logout-clause-full
returns-in-Logout-clause-full g c = c.logout.ensures.full

pub returns-in-Task-clause-full : goal.returns-in-Task-clause-full
returns-in-Task-clause-full g c = c.task.ensures.full

pub returns-in-Take-clause-full : goal.returns-in-Take-clause-full
returns-in-Take-clause-full g c = c.take_on.ensures.full

pub returns-in-Data-clause-full : goal.returns-in-Data-clause-full
returns-in-Data-clause-full g c = c.data.ensures.full g.C.CrqEnd.is_shared (g.C.CrqEnd.state c.args.crq.now.end)

pub returns-in-Fill-clause-full : goal.returns-in-Fill-clause-full
returns-in-Fill-clause-full g c =
    full_none (IsFullBy g.C.CrqEnd.is_shared (g.C.CrqEnd.state c.args.crq.now.end)) c.fill.result
    (λ number held e. subst (λ (r : Result Step NoMemory). IfOk r (AnswersWrite g.O.WindowPort.is_shared (g.O.WindowPort.state c.args.own.now) (g.O.WindowPort.state c.fill.new.own) c.in-Fill.at (pattern c.in-Fill.seed c.in-Fill.len) c.from-mark.result)) e c.fill.ensures.answer)

pub returns-in-Poke-clause-full : goal.returns-in-Poke-clause-full
returns-in-Poke-clause-full g c =
    full_none (IsFullBy g.C.CrqEnd.is_shared (g.C.CrqEnd.state c.args.crq.now.end)) c.poke.result
    (λ number held e. subst (λ (r : Result Step NoMemory). IfOk r (AnswersWrite g.O.WindowPort.is_shared (g.O.WindowPort.state c.args.own.now) (g.O.WindowPort.state c.poke.new.own) c.in-Poke.at c.as_slice.result.now c.from-mark.result)) e c.poke.ensures.answer)

pub returns-in-Peek-clause-full : goal.returns-in-Peek-clause-full
returns-in-Peek-clause-full g c =
    full_none (IsFullBy g.C.CrqEnd.is_shared (g.C.CrqEnd.state c.args.crq.now.end)) c.peek.result
    (λ number held e. subst (λ (r : Result Step NoMemory). IfOk r (AnswersRead (g.O.WindowPort.state c.args.own.now) (g.O.WindowPort.state c.peek.new.own) c.in-Peek.at c.in-Peek.len)) e c.peek.ensures.answer)

pub returns-in-Tce-clause-full : goal.returns-in-Tce-clause-full
returns-in-Tce-clause-full g c =
    full_none (IsFullBy g.C.CrqEnd.is_shared (g.C.CrqEnd.state c.args.crq.now.end)) c.put_tce.result
    (λ number held e. subst (λ (r : Result Step NoMemory). IfOk r (AnswersPut (g.O.WindowPort.state c.args.own.now) (g.O.WindowPort.state c.put_tce.new.own) c.in-Tce.entry (tce_of c.in-Tce.page c.in-Tce.readable c.in-Tce.writable))) e c.put_tce.ensures.answer)

pub returns-in-Login-clause-shut : goal.returns-in-Login-clause-shut
returns-in-Login-clause-shut g c = shut_none (MeetsShut g.C.CrqEnd.is_shared c.args.self.now.client (g.C.CrqEnd.state c.args.crq.now.end) (g.C.CrqEnd.state c.login.new.crq.end)) c.args.line.now.verb c.login.result (ap requests c.in-Login.is)

pub returns-in-Reset-clause-shut : goal.returns-in-Reset-clause-shut
returns-in-Reset-clause-shut g c = shut_none (MeetsShut g.C.CrqEnd.is_shared c.args.self.now.client (g.C.CrqEnd.state c.args.crq.now.end) (g.C.CrqEnd.state c.reset.new.crq.end)) c.args.line.now.verb c.reset.result (ap requests c.in-Reset.is)

pub returns-in-Take-clause-shut : goal.returns-in-Take-clause-shut
returns-in-Take-clause-shut g c = shut_none (MeetsShut g.C.CrqEnd.is_shared c.args.self.now.client (g.C.CrqEnd.state c.args.crq.now.end) (g.C.CrqEnd.state c.take_on.new.crq.end)) c.args.line.now.verb c.take_on.result (ap requests c.in-Take.is)

pub returns-in-Data-clause-shut : goal.returns-in-Data-clause-shut
returns-in-Data-clause-shut g c = shut_none (MeetsShut g.C.CrqEnd.is_shared c.args.self.now.client (g.C.CrqEnd.state c.args.crq.now.end) (g.C.CrqEnd.state c.args.crq.now.end)) c.args.line.now.verb c.data.result (ap requests c.in-Data.is)

pub returns-in-Fill-clause-shut : goal.returns-in-Fill-clause-shut
returns-in-Fill-clause-shut g c = shut_none (MeetsShut g.C.CrqEnd.is_shared c.args.self.now.client (g.C.CrqEnd.state c.args.crq.now.end) (g.C.CrqEnd.state c.args.crq.now.end)) c.args.line.now.verb c.fill.result (ap requests c.in-Fill.is)

pub returns-in-Poke-clause-shut : goal.returns-in-Poke-clause-shut
returns-in-Poke-clause-shut g c = shut_none (MeetsShut g.C.CrqEnd.is_shared c.args.self.now.client (g.C.CrqEnd.state c.args.crq.now.end) (g.C.CrqEnd.state c.args.crq.now.end)) c.args.line.now.verb c.poke.result (ap requests c.in-Poke.is)

pub returns-in-Peek-clause-shut : goal.returns-in-Peek-clause-shut
returns-in-Peek-clause-shut g c = shut_none (MeetsShut g.C.CrqEnd.is_shared c.args.self.now.client (g.C.CrqEnd.state c.args.crq.now.end) (g.C.CrqEnd.state c.args.crq.now.end)) c.args.line.now.verb c.peek.result (ap requests c.in-Peek.is)

pub returns-in-Tce-clause-shut : goal.returns-in-Tce-clause-shut
returns-in-Tce-clause-shut g c = shut_none (MeetsShut g.C.CrqEnd.is_shared c.args.self.now.client (g.C.CrqEnd.state c.args.crq.now.end) (g.C.CrqEnd.state c.args.crq.now.end)) c.args.line.now.verb c.put_tce.result (ap requests c.in-Tce.is)

pub returns-in-Logout-clause-shut : goal.returns-in-Logout-clause-shut
returns-in-Logout-clause-shut g c = subst (λ (v : Verb). StepShut (MeetsShut g.C.CrqEnd.is_shared c.args.self.now.client (g.C.CrqEnd.state c.args.crq.now.end) (g.C.CrqEnd.state c.logout.new.crq.end)) v c.logout.result) (sym c.in-Logout.is) c.logout.ensures.shut

pub returns-in-Task-clause-shut : goal.returns-in-Task-clause-shut
returns-in-Task-clause-shut g c = subst (λ (v : Verb). StepShut (MeetsShut g.C.CrqEnd.is_shared c.args.self.now.client (g.C.CrqEnd.state c.args.crq.now.end) (g.C.CrqEnd.state c.task.new.crq.end)) v c.task.result) (sym c.in-Task.is) c.task.ensures.shut

pub returns-in-Login-clause-region : goal.returns-in-Login-clause-region
returns-in-Login-clause-region g c = not_in_region g.O.WindowPort.is_shared c.args.line.now (g.O.WindowPort.state c.args.own.now) (g.O.WindowPort.state c.login.new.own) c.login.result (ap is_in_region c.in-Login.is)

pub returns-in-Reset-clause-region : goal.returns-in-Reset-clause-region
returns-in-Reset-clause-region g c = not_in_region g.O.WindowPort.is_shared c.args.line.now (g.O.WindowPort.state c.args.own.now) (g.O.WindowPort.state c.reset.new.own) c.reset.result (ap is_in_region c.in-Reset.is)

pub returns-in-Logout-clause-region : goal.returns-in-Logout-clause-region
returns-in-Logout-clause-region g c = not_in_region g.O.WindowPort.is_shared c.args.line.now (g.O.WindowPort.state c.args.own.now) (g.O.WindowPort.state c.logout.new.own) c.logout.result (ap is_in_region c.in-Logout.is)

pub returns-in-Task-clause-region : goal.returns-in-Task-clause-region
returns-in-Task-clause-region g c = not_in_region g.O.WindowPort.is_shared c.args.line.now (g.O.WindowPort.state c.args.own.now) (g.O.WindowPort.state c.task.new.own) c.task.result (ap is_in_region c.in-Task.is)

pub returns-in-Take-clause-region : goal.returns-in-Take-clause-region
returns-in-Take-clause-region g c = not_in_region g.O.WindowPort.is_shared c.args.line.now (g.O.WindowPort.state c.args.own.now) (g.O.WindowPort.state c.take_on.new.own) c.take_on.result (ap is_in_region c.in-Take.is)

pub returns-in-Data-clause-region : goal.returns-in-Data-clause-region
returns-in-Data-clause-region g c = not_in_region g.O.WindowPort.is_shared c.args.line.now (g.O.WindowPort.state c.args.own.now) (g.O.WindowPort.state c.data.new.own) c.data.result (ap is_in_region c.in-Data.is)

pub returns-in-Fill-clause-region : goal.returns-in-Fill-clause-region
returns-in-Fill-clause-region g c =
    let mark : c.from-mark.result ≡ c.args.line.now.number = search rules in
    in_region_stepped g.O.WindowPort.is_shared c.args.line.now (g.O.WindowPort.state c.args.own.now) (g.O.WindowPort.state c.fill.new.own) c.fill.result
    (just_by g.O.WindowPort.is_shared (g.O.WindowPort.state c.args.own.now) (g.O.WindowPort.state c.fill.new.own) c.from-mark.result c.args.line.now.number
    (Some (record { at = c.in-Fill.at; bytes = pattern c.in-Fill.seed c.in-Fill.len })) (written_by c.args.line.now.verb) c.fill.result mark
    (sym (ap written_by c.in-Fill.is)) c.fill.ensures.lays)
    (fill_told g.O.WindowPort.is_shared (g.O.WindowPort.state c.args.own.now) (g.O.WindowPort.state c.fill.new.own) c.in-Fill.at c.in-Fill.len c.in-Fill.seed
    c.args.line.now.number c.args.line.now.verb c.fill.result c.in-Fill.is
    (subst (λ n. IfOk c.fill.result (AnswersWrite g.O.WindowPort.is_shared (g.O.WindowPort.state c.args.own.now) (g.O.WindowPort.state c.fill.new.own) c.in-Fill.at
    (pattern c.in-Fill.seed c.in-Fill.len) n)) mark c.fill.ensures.answer))

pub returns-in-Poke-clause-region : goal.returns-in-Poke-clause-region
returns-in-Poke-clause-region g c =
    let mark : c.from-mark.result ≡ c.args.line.now.number = search rules in
    in_region_stepped g.O.WindowPort.is_shared c.args.line.now (g.O.WindowPort.state c.args.own.now) (g.O.WindowPort.state c.poke.new.own) c.poke.result
    (just_by g.O.WindowPort.is_shared (g.O.WindowPort.state c.args.own.now) (g.O.WindowPort.state c.poke.new.own) c.from-mark.result c.args.line.now.number
    (Some (record { at = c.in-Poke.at; bytes = c.as_slice.result.now })) (written_by c.args.line.now.verb) c.poke.result mark
    (ap (λ (bytes : List ℕ). Some (record { at = c.in-Poke.at; bytes = bytes })) c.as_slice.ensures ∙ sym (ap written_by c.in-Poke.is)) c.poke.ensures.lays)
    (poke_told g.O.WindowPort.is_shared (g.O.WindowPort.state c.args.own.now) (g.O.WindowPort.state c.poke.new.own) c.in-Poke.at c.in-Poke.bytes
    c.args.line.now.number c.args.line.now.verb c.poke.result c.in-Poke.is
    (subst (λ n. IfOk c.poke.result (AnswersWrite g.O.WindowPort.is_shared (g.O.WindowPort.state c.args.own.now) (g.O.WindowPort.state c.poke.new.own) c.in-Poke.at
    c.in-Poke.bytes n)) mark
    (subst (λ (bytes : List ℕ). IfOk c.poke.result (AnswersWrite g.O.WindowPort.is_shared (g.O.WindowPort.state c.args.own.now) (g.O.WindowPort.state c.poke.new.own) c.in-Poke.at bytes c.from-mark.result))
    c.as_slice.ensures c.poke.ensures.answer)))

pub returns-in-Peek-clause-region : goal.returns-in-Peek-clause-region
returns-in-Peek-clause-region g c =
    in_region_stepped g.O.WindowPort.is_shared c.args.line.now (g.O.WindowPort.state c.args.own.now) (g.O.WindowPort.state c.peek.new.own) c.peek.result
    (just_by g.O.WindowPort.is_shared (g.O.WindowPort.state c.args.own.now) (g.O.WindowPort.state c.peek.new.own) c.args.line.now.number c.args.line.now.number
    None (written_by c.args.line.now.verb) c.peek.result refl (sym (ap written_by c.in-Peek.is))
    (just_read g.O.WindowPort.is_shared (g.O.WindowPort.state c.args.own.now) (g.O.WindowPort.state c.peek.new.own) c.args.line.now.number c.peek.result c.peek.ensures.marks))
    (peek_told (g.O.WindowPort.state c.args.own.now) (g.O.WindowPort.state c.peek.new.own) c.in-Peek.at c.in-Peek.len c.args.line.now.number c.args.line.now.verb c.peek.result c.in-Peek.is c.peek.ensures.rest.place c.peek.ensures.answer)

pub returns-in-Tce-clause-region : goal.returns-in-Tce-clause-region
returns-in-Tce-clause-region g c =
    in_region_stepped g.O.WindowPort.is_shared c.args.line.now (g.O.WindowPort.state c.args.own.now) (g.O.WindowPort.state c.put_tce.new.own) c.put_tce.result
    (just_by g.O.WindowPort.is_shared (g.O.WindowPort.state c.args.own.now) (g.O.WindowPort.state c.put_tce.new.own) c.args.line.now.number c.args.line.now.number
    None (written_by c.args.line.now.verb) c.put_tce.result refl (sym (ap written_by c.in-Tce.is))
    (just_read g.O.WindowPort.is_shared (g.O.WindowPort.state c.args.own.now) (g.O.WindowPort.state c.put_tce.new.own) c.args.line.now.number c.put_tce.result c.put_tce.ensures.marks))
    (tce_told (g.O.WindowPort.state c.args.own.now) (g.O.WindowPort.state c.put_tce.new.own) c.in-Tce.entry c.in-Tce.page c.in-Tce.readable c.in-Tce.writable
    c.args.line.now.number c.args.line.now.verb c.put_tce.result c.in-Tce.is c.put_tce.ensures.answer)

pub returns-in-Some-clause-plainly : goal.returns-in-Some-clause-plainly
returns-in-Some-clause-plainly g c = λ crq_alone own_alone. c.command.ensures.plainly crq_alone own_alone c.args.line.now.verb c.args.progress.now c.in-Some.ensures.command

pub returns-in-Login-clause-plainly : goal.returns-in-Login-clause-plainly
returns-in-Login-clause-plainly g c = λ crq_alone own_alone. steps_as c.args.line.now.verb _ c.args.progress.now c.args.progress.now (own_of c.args.self.now (g.C.CrqEnd.state c.args.crq.now.end) (g.O.WindowPort.state c.args.own.now)) (own_of c.login.new.self (g.C.CrqEnd.state c.login.new.crq.end) (g.O.WindowPort.state c.login.new.own)) c.login.result c.in-Login.is
    (login_steps c.args.progress.now c.args.progress.now (own_of c.args.self.now (g.C.CrqEnd.state c.args.crq.now.end) (g.O.WindowPort.state c.args.own.now)) (own_of c.login.new.self (g.C.CrqEnd.state c.login.new.crq.end) (g.O.WindowPort.state c.login.new.own)) c.login.result (c.login.ensures.plainly crq_alone own_alone))

pub returns-in-Reset-clause-plainly : goal.returns-in-Reset-clause-plainly
returns-in-Reset-clause-plainly g c = λ crq_alone own_alone. steps_as c.args.line.now.verb _ c.args.progress.now c.reset.new.progress (own_of c.args.self.now (g.C.CrqEnd.state c.args.crq.now.end) (g.O.WindowPort.state c.args.own.now)) (own_of c.reset.new.self (g.C.CrqEnd.state c.reset.new.crq.end) (g.O.WindowPort.state c.reset.new.own)) c.reset.result c.in-Reset.is
    (c.reset.ensures.plainly crq_alone own_alone)

pub returns-in-Logout-clause-plainly : goal.returns-in-Logout-clause-plainly
returns-in-Logout-clause-plainly g c = λ crq_alone own_alone. steps_as c.args.line.now.verb _ c.args.progress.now c.args.progress.now (own_of c.args.self.now (g.C.CrqEnd.state c.args.crq.now.end) (g.O.WindowPort.state c.args.own.now)) (own_of c.logout.new.self (g.C.CrqEnd.state c.logout.new.crq.end) (g.O.WindowPort.state c.logout.new.own)) c.logout.result c.in-Logout.is
    (c.logout.ensures.plainly crq_alone own_alone c.args.progress.now)

pub returns-in-Task-clause-plainly : goal.returns-in-Task-clause-plainly
returns-in-Task-clause-plainly g c = λ crq_alone own_alone. steps_as c.args.line.now.verb _ c.args.progress.now c.args.progress.now (own_of c.args.self.now (g.C.CrqEnd.state c.args.crq.now.end) (g.O.WindowPort.state c.args.own.now)) (own_of c.task.new.self (g.C.CrqEnd.state c.task.new.crq.end) (g.O.WindowPort.state c.task.new.own)) c.task.result c.in-Task.is
    (c.task.ensures.plainly crq_alone own_alone c.args.progress.now)

pub returns-in-Take-clause-plainly : goal.returns-in-Take-clause-plainly
returns-in-Take-clause-plainly g c = λ crq_alone own_alone. steps_as c.args.line.now.verb _ c.args.progress.now c.take_on.new.progress (own_of c.args.self.now (g.C.CrqEnd.state c.args.crq.now.end) (g.O.WindowPort.state c.args.own.now)) (own_of c.take_on.new.self (g.C.CrqEnd.state c.take_on.new.crq.end) (g.O.WindowPort.state c.take_on.new.own)) c.take_on.result c.in-Take.is
    (c.take_on.ensures.plainly crq_alone own_alone)

pub returns-in-Data-clause-plainly : goal.returns-in-Data-clause-plainly
returns-in-Data-clause-plainly g c = λ crq_alone own_alone. steps_as c.args.line.now.verb _ c.args.progress.now c.args.progress.now (own_of c.args.self.now (g.C.CrqEnd.state c.args.crq.now.end) (g.O.WindowPort.state c.args.own.now)) (own_of c.data.new.self (g.C.CrqEnd.state c.args.crq.now.end) (g.O.WindowPort.state c.data.new.own)) c.data.result c.in-Data.is
    (c.data.ensures.plainly own_alone (g.C.CrqEnd.state c.args.crq.now.end) c.args.progress.now)

pub returns-in-Fill-clause-plainly : goal.returns-in-Fill-clause-plainly
returns-in-Fill-clause-plainly g c = λ crq_alone own_alone. steps_as c.args.line.now.verb _ c.args.progress.now c.args.progress.now (own_of c.args.self.now (g.C.CrqEnd.state c.args.crq.now.end) (g.O.WindowPort.state c.args.own.now)) (own_of c.args.self.now (g.C.CrqEnd.state c.args.crq.now.end) (g.O.WindowPort.state c.fill.new.own)) c.fill.result c.in-Fill.is
    (fill_plainly g.O.WindowPort.is_shared c.in-Fill.at c.in-Fill.len c.in-Fill.seed c.from-mark.result c.args.progress.now (own_of c.args.self.now (g.C.CrqEnd.state c.args.crq.now.end) (g.O.WindowPort.state c.args.own.now)) (own_of c.args.self.now (g.C.CrqEnd.state c.args.crq.now.end) (g.O.WindowPort.state c.fill.new.own)) c.fill.result own_alone c.fill.ensures.plain refl refl refl c.fill.ensures.rest c.fill.ensures.lays c.fill.ensures.answer)

pub returns-in-Poke-clause-plainly : goal.returns-in-Poke-clause-plainly
returns-in-Poke-clause-plainly g c = λ crq_alone own_alone. steps_as c.args.line.now.verb (verbs.Poke c.in-Poke.at c.as_slice.result.now) c.args.progress.now c.args.progress.now (own_of c.args.self.now (g.C.CrqEnd.state c.args.crq.now.end) (g.O.WindowPort.state c.args.own.now)) (own_of c.args.self.now (g.C.CrqEnd.state c.args.crq.now.end) (g.O.WindowPort.state c.poke.new.own)) c.poke.result (c.in-Poke.is ∙ ap (λ (bytes : List ℕ). verbs.Poke c.in-Poke.at bytes) (sym c.as_slice.ensures))
    (poke_plainly g.O.WindowPort.is_shared c.in-Poke.at c.from-mark.result c.as_slice.result.now c.args.progress.now (own_of c.args.self.now (g.C.CrqEnd.state c.args.crq.now.end) (g.O.WindowPort.state c.args.own.now)) (own_of c.args.self.now (g.C.CrqEnd.state c.args.crq.now.end) (g.O.WindowPort.state c.poke.new.own)) c.poke.result own_alone c.poke.ensures.plain refl refl refl c.poke.ensures.rest c.poke.ensures.lays c.poke.ensures.answer)

pub returns-in-Peek-clause-plainly : goal.returns-in-Peek-clause-plainly
returns-in-Peek-clause-plainly g c = λ crq_alone own_alone. steps_as c.args.line.now.verb _ c.args.progress.now c.args.progress.now (own_of c.args.self.now (g.C.CrqEnd.state c.args.crq.now.end) (g.O.WindowPort.state c.args.own.now)) (own_of c.args.self.now (g.C.CrqEnd.state c.args.crq.now.end) (g.O.WindowPort.state c.peek.new.own)) c.peek.result c.in-Peek.is
    (peek_plainly g.O.WindowPort.is_shared c.in-Peek.at c.in-Peek.len c.args.progress.now (own_of c.args.self.now (g.C.CrqEnd.state c.args.crq.now.end) (g.O.WindowPort.state c.args.own.now)) (own_of c.args.self.now (g.C.CrqEnd.state c.args.crq.now.end) (g.O.WindowPort.state c.peek.new.own)) c.peek.result own_alone c.peek.ensures.plain refl refl refl c.peek.ensures.rest)

pub returns-in-Tce-clause-plainly : goal.returns-in-Tce-clause-plainly
returns-in-Tce-clause-plainly g c = λ crq_alone own_alone. steps_as c.args.line.now.verb _ c.args.progress.now c.args.progress.now (own_of c.args.self.now (g.C.CrqEnd.state c.args.crq.now.end) (g.O.WindowPort.state c.args.own.now)) (own_of c.args.self.now (g.C.CrqEnd.state c.args.crq.now.end) (g.O.WindowPort.state c.put_tce.new.own)) c.put_tce.result c.in-Tce.is
    (tce_plainly g.O.WindowPort.is_shared c.in-Tce.entry c.in-Tce.page c.in-Tce.readable c.in-Tce.writable c.args.progress.now (own_of c.args.self.now (g.C.CrqEnd.state c.args.crq.now.end) (g.O.WindowPort.state c.args.own.now)) (own_of c.args.self.now (g.C.CrqEnd.state c.args.crq.now.end) (g.O.WindowPort.state c.put_tce.new.own)) c.put_tce.result own_alone c.put_tce.ensures.plain refl refl refl
    c.put_tce.ensures.window.place c.put_tce.ensures.marks c.put_tce.ensures.answer)

pub returns-in-Some-clause-acts : goal.returns-in-Some-clause-acts
returns-in-Some-clause-acts g c = acts_as _ c.from-mark.result _ c.args.line.now.verb _ _ _ _ c.command.result (search rules) refl (op_acts c.from-mark.result c.args.line.now.verb c.in-Some.op c.args.progress.now c.args.progress.now _ _ c.command.result c.in-Some.ensures.sends c.in-Some.ensures.command c.in-Some.ensures.cdb c.command.ensures.acts)

pub returns-in-Login-clause-acts : goal.returns-in-Login-clause-acts
returns-in-Login-clause-acts g c = acts_as _ c.from-mark.result _ _ _ _ _ _ c.login.result (search rules) c.in-Login.is c.login.ensures.acts

pub returns-in-Reset-clause-acts : goal.returns-in-Reset-clause-acts
returns-in-Reset-clause-acts g c = acts_as _ c.from-mark.result _ _ _ _ _ _ c.reset.result (search rules) c.in-Reset.is c.reset.ensures.acts

pub returns-in-Logout-clause-acts : goal.returns-in-Logout-clause-acts
returns-in-Logout-clause-acts g c = acts_as _ c.from-mark.result _ _ _ _ _ _ c.logout.result (search rules) c.in-Logout.is c.logout.ensures.acts

pub returns-in-Task-clause-acts : goal.returns-in-Task-clause-acts
returns-in-Task-clause-acts g c = acts_as _ c.from-mark.result _ _ _ _ _ _ c.task.result (search rules) c.in-Task.is c.task.ensures.acts

pub returns-in-Take-clause-acts : goal.returns-in-Take-clause-acts
returns-in-Take-clause-acts g c = acts_as _ c.from-mark.result _ _ _ _ _ _ c.take_on.result (search rules) c.in-Take.is c.take_on.ensures.acts

pub returns-in-Data-clause-acts : goal.returns-in-Data-clause-acts
returns-in-Data-clause-acts g c = acts_as _ c.from-mark.result _ _ _ _ _ _ c.data.result (search rules) c.in-Data.is (c.data.ensures.acts g.C.CrqEnd.is_shared (g.C.CrqEnd.state c.args.crq.now.end))

pub returns-in-Fill-clause-acts : goal.returns-in-Fill-clause-acts
returns-in-Fill-clause-acts g c = acts_as _ c.from-mark.result _ _ _ _ _ _ c.fill.result (search rules) c.in-Fill.is (writes_acts c.from-mark.result c.in-Fill.at (pattern c.in-Fill.seed c.in-Fill.len) _ _ c.fill.result (stays_aside _ _ refl refl refl) c.fill.ensures.rest c.fill.ensures.lays c.fill.ensures.answer)

pub returns-in-Poke-clause-acts : goal.returns-in-Poke-clause-acts
returns-in-Poke-clause-acts g c = acts_as _ c.from-mark.result _ (verbs.Poke c.in-Poke.at c.as_slice.result.now) _ _ _ _ c.poke.result (search rules) (c.in-Poke.is ∙ ap (λ (bytes : List ℕ). verbs.Poke c.in-Poke.at bytes) (sym c.as_slice.ensures)) (writes_acts c.from-mark.result c.in-Poke.at c.as_slice.result.now _ _ c.poke.result (stays_aside _ _ refl refl refl) c.poke.ensures.rest c.poke.ensures.lays c.poke.ensures.answer)

pub returns-in-Peek-clause-acts : goal.returns-in-Peek-clause-acts
returns-in-Peek-clause-acts g c = acts_as _ c.from-mark.result _ _ _ _ _ _ c.peek.result (search rules) c.in-Peek.is (shows_acts c.in-Peek.at c.in-Peek.len _ _ c.peek.result (stays_aside _ _ refl refl refl) c.peek.ensures.rest c.peek.ensures.answer)

pub returns-in-Tce-clause-acts : goal.returns-in-Tce-clause-acts
returns-in-Tce-clause-acts g c = acts_as _ c.from-mark.result _ _ _ _ _ _ c.put_tce.result (search rules) c.in-Tce.is (puts_acts c.in-Tce.entry (tce_of c.in-Tce.page c.in-Tce.readable c.in-Tce.writable) _ _ c.put_tce.result (stays_aside _ _ refl refl refl) c.put_tce.ensures.window c.put_tce.ensures.marks c.put_tce.ensures.answer)
