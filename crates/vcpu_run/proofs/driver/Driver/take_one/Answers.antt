use Rattle.std.proofs.Common.{ℕ, refl, sym, subst}
use Rattle.vscsi_client.specs.declared.answers.Taken.TheVariants as takens
use Rattle.vscsi_client.specs.Ports.{ports}
use Rattle.vscsi_client.specs.State.{ClientState}
use Rattle.vscsi_client.specs.Taking.{TakesEntry}
use Rattle.vcpu_run.specs.Telling.{TakesAnswer}
use Rattle.vcpu_run.specs.Sendings.{AnswersOne}
use Rattle.vcpu_run.specs.AnswersSeen.{AreResponsesRead, fronts_of}
use Rattle.vcpu_run.proofs.AnswersSeen.{noted_read}
use Rattle.vcpu_run.proofs.Credits.{took_by}
use Rattle.vcpu_run.proofs.TakesTold.{again_told, answer_told, empty_told, lost_told, other_told, stray_told}
use Rattle.vcpu_run.proofs.Working.{take_works}
use Rattle.vcpu_run.proofs.Giving.{answer_gives, other_gives}
use Rattle.vcpu_run.proofs.TakeOrder.{takes_in}
use Rattle.vcpu_run.proofs.TakingTurns.{answer_taken, other_taken, tags_taken_as}
use Rattle.vcpu_run.specs.EventsHeard.{Hears}
use Rattle.vcpu_run.proofs.EventsHeard.{takes_hear}
use Rattle.vcpu_run.specs.PlainSteps.{TakesPlainly, own_by, own_of}
use Rattle.vcpu_run.proofs.PlainEntries.{take_plainly}
use Rattle.vcpu_run.specs.declared.taking.Took.TheVariants as tooks
use Rattle.vcpu_run.specs.Acts.{TakesOnce, acting}
use Rattle.vcpu_run.specs.Takings.{NotesIn}
use Rattle.vcpu_run.proofs.ActsTaking.{takes_once}
use Rattle.vcpu_run.proofs.driver.Driver.take_one.Goals as goal

pub returns-in_err-note-in-Answer-clause-works : goal.returns-in_err-note-in-Answer-clause-works
returns-in_err-note-in-Answer-clause-works g c =
    take_works g.C.CrqEnd.is_shared g.O.WindowPort.is_shared _ _ _ _ c.args.self.now _ c.take_answer.new.self c.take_answer.result c.note.ensures.unit c.note.ensures.client
    c.take_answer.ensures.taken c.take_answer.ensures.later c.take_answer.ensures.crq_rest c.take_answer.ensures.own_rest
    (λ has. subst (AreResponsesRead (fronts_of (g.O.WindowPort.state c.take_answer.new.own).strokes)) (sym c.in_err-note-in-Answer.ensures.stays))

pub returns-in_ok-note-in-Answer-clause-works : goal.returns-in_ok-note-in-Answer-clause-works
returns-in_ok-note-in-Answer-clause-works g c =
    take_works g.C.CrqEnd.is_shared g.O.WindowPort.is_shared _ _ _ _ c.args.self.now _ c.take_answer.new.self c.take_answer.result c.note.ensures.unit c.note.ensures.client
    c.take_answer.ensures.taken c.take_answer.ensures.later c.take_answer.ensures.crq_rest c.take_answer.ensures.own_rest
    (noted_read c.args.self.now.client c.take_answer.new.self
    (ports g.C.CrqEnd.is_shared (g.C.CrqEnd.state c.args.crq.now.end) g.O.WindowPort.is_shared (g.O.WindowPort.state c.args.own.now))
    (ports g.C.CrqEnd.is_shared (g.C.CrqEnd.state c.take_answer.new.crq.end) g.O.WindowPort.is_shared (g.O.WindowPort.state c.take_answer.new.own))
    c.in-Answer.tag c.in-Answer.rsp c.args.self.now.answers.items c.note.new.self.answers.items
    (subst (TakesEntry c.args.self.now.client c.take_answer.new.self (ports g.C.CrqEnd.is_shared (g.C.CrqEnd.state c.args.crq.now.end) g.O.WindowPort.is_shared (g.O.WindowPort.state c.args.own.now)) (ports g.C.CrqEnd.is_shared (g.C.CrqEnd.state c.take_answer.new.crq.end) g.O.WindowPort.is_shared (g.O.WindowPort.state c.take_answer.new.own))) c.in-Answer.is c.in_ok-tag.ensures.taken) c.in_ok-note-in-Answer.ensures.notes.noted)

pub returns-in_ok-note-in-Answer-clause-took : goal.returns-in_ok-note-in-Answer-clause-took
returns-in_ok-note-in-Answer-clause-took g c =
    subst (λ (s : ClientState). AnswersOne c.args.self.now.client s) (sym c.note.ensures.client)
    (took_by c.args.self.now.client c.take_answer.new.self
    (ports g.C.CrqEnd.is_shared (g.C.CrqEnd.state c.args.crq.now.end) g.O.WindowPort.is_shared (g.O.WindowPort.state c.args.own.now))
    (ports g.C.CrqEnd.is_shared (g.C.CrqEnd.state c.take_answer.new.crq.end) g.O.WindowPort.is_shared (g.O.WindowPort.state c.take_answer.new.own))
    c.in_ok-tag.field-0 c.in-Answer.tag c.in-Answer.rsp c.in-Answer.is c.in_ok-tag.ensures.taken)

pub returns-in-Stray-clause-works : goal.returns-in-Stray-clause-works
returns-in-Stray-clause-works g c =
    take_works g.C.CrqEnd.is_shared g.O.WindowPort.is_shared _ _ _ _ c.args.self.now _ c.take_answer.new.self c.take_answer.result refl refl
    c.take_answer.ensures.taken c.take_answer.ensures.later c.take_answer.ensures.crq_rest c.take_answer.ensures.own_rest (λ has read. read)

pub returns-in-Other-clause-works : goal.returns-in-Other-clause-works
returns-in-Other-clause-works g c =
    take_works g.C.CrqEnd.is_shared g.O.WindowPort.is_shared _ _ _ _ c.args.self.now _ c.take_answer.new.self c.take_answer.result refl refl
    c.take_answer.ensures.taken c.take_answer.ensures.later c.take_answer.ensures.crq_rest c.take_answer.ensures.own_rest (λ has read. read)

pub returns-in-Lost-clause-works : goal.returns-in-Lost-clause-works
returns-in-Lost-clause-works g c =
    take_works g.C.CrqEnd.is_shared g.O.WindowPort.is_shared _ _ _ _ c.args.self.now _ c.take_answer.new.self c.take_answer.result refl refl
    c.take_answer.ensures.taken c.take_answer.ensures.later c.take_answer.ensures.crq_rest c.take_answer.ensures.own_rest (λ has read. read)

pub returns-in-Again-clause-works : goal.returns-in-Again-clause-works
returns-in-Again-clause-works g c =
    take_works g.C.CrqEnd.is_shared g.O.WindowPort.is_shared _ _ _ _ c.args.self.now _ c.take_answer.new.self c.take_answer.result refl refl
    c.take_answer.ensures.taken c.take_answer.ensures.later c.take_answer.ensures.crq_rest c.take_answer.ensures.own_rest (λ has read. read)

pub returns-in-Empty-clause-works : goal.returns-in-Empty-clause-works
returns-in-Empty-clause-works g c =
    take_works g.C.CrqEnd.is_shared g.O.WindowPort.is_shared _ _ _ _ c.args.self.now _ c.take_answer.new.self c.take_answer.result refl refl
    c.take_answer.ensures.taken c.take_answer.ensures.later c.take_answer.ensures.crq_rest c.take_answer.ensures.own_rest (λ has read. read)

pub returns-in_ok-note-in-Answer-clause-told : goal.returns-in_ok-note-in-Answer-clause-told
returns-in_ok-note-in-Answer-clause-told g c =
    subst (λ (s : ClientState). TakesAnswer c.args.self.now.client s) (sym c.note.ensures.client)
    (answer_told c.args.self.now.client c.take_answer.new.self
    (ports g.C.CrqEnd.is_shared (g.C.CrqEnd.state c.args.crq.now.end) g.O.WindowPort.is_shared (g.O.WindowPort.state c.args.own.now))
    (ports g.C.CrqEnd.is_shared (g.C.CrqEnd.state c.take_answer.new.crq.end) g.O.WindowPort.is_shared (g.O.WindowPort.state c.take_answer.new.own))
    c.in-Answer.tag c.in-Answer.rsp
    (subst (TakesEntry c.args.self.now.client c.take_answer.new.self (ports g.C.CrqEnd.is_shared (g.C.CrqEnd.state c.args.crq.now.end) g.O.WindowPort.is_shared (g.O.WindowPort.state c.args.own.now)) (ports g.C.CrqEnd.is_shared (g.C.CrqEnd.state c.take_answer.new.crq.end) g.O.WindowPort.is_shared (g.O.WindowPort.state c.take_answer.new.own))) c.in-Answer.is c.in_ok-tag.ensures.taken))

pub returns-in-Stray-clause-told : goal.returns-in-Stray-clause-told
returns-in-Stray-clause-told g c =
    stray_told c.args.self.now.client c.take_answer.new.self
    (ports g.C.CrqEnd.is_shared (g.C.CrqEnd.state c.args.crq.now.end) g.O.WindowPort.is_shared (g.O.WindowPort.state c.args.own.now))
    (ports g.C.CrqEnd.is_shared (g.C.CrqEnd.state c.take_answer.new.crq.end) g.O.WindowPort.is_shared (g.O.WindowPort.state c.take_answer.new.own)) c.in-Stray.field-0
    (subst (TakesEntry c.args.self.now.client c.take_answer.new.self (ports g.C.CrqEnd.is_shared (g.C.CrqEnd.state c.args.crq.now.end) g.O.WindowPort.is_shared (g.O.WindowPort.state c.args.own.now)) (ports g.C.CrqEnd.is_shared (g.C.CrqEnd.state c.take_answer.new.crq.end) g.O.WindowPort.is_shared (g.O.WindowPort.state c.take_answer.new.own))) c.in-Stray.is c.in_ok-tag.ensures.taken)

pub returns-in-Other-clause-told : goal.returns-in-Other-clause-told
returns-in-Other-clause-told g c =
    other_told c.args.self.now.client c.take_answer.new.self
    (ports g.C.CrqEnd.is_shared (g.C.CrqEnd.state c.args.crq.now.end) g.O.WindowPort.is_shared (g.O.WindowPort.state c.args.own.now))
    (ports g.C.CrqEnd.is_shared (g.C.CrqEnd.state c.take_answer.new.crq.end) g.O.WindowPort.is_shared (g.O.WindowPort.state c.take_answer.new.own))
    (subst (TakesEntry c.args.self.now.client c.take_answer.new.self (ports g.C.CrqEnd.is_shared (g.C.CrqEnd.state c.args.crq.now.end) g.O.WindowPort.is_shared (g.O.WindowPort.state c.args.own.now)) (ports g.C.CrqEnd.is_shared (g.C.CrqEnd.state c.take_answer.new.crq.end) g.O.WindowPort.is_shared (g.O.WindowPort.state c.take_answer.new.own))) c.in-Other.is c.in_ok-tag.ensures.taken)

pub returns-in-Lost-clause-told : goal.returns-in-Lost-clause-told
returns-in-Lost-clause-told g c =
    lost_told c.args.self.now.client c.take_answer.new.self
    (ports g.C.CrqEnd.is_shared (g.C.CrqEnd.state c.args.crq.now.end) g.O.WindowPort.is_shared (g.O.WindowPort.state c.args.own.now))
    (ports g.C.CrqEnd.is_shared (g.C.CrqEnd.state c.take_answer.new.crq.end) g.O.WindowPort.is_shared (g.O.WindowPort.state c.take_answer.new.own))
    (subst (TakesEntry c.args.self.now.client c.take_answer.new.self (ports g.C.CrqEnd.is_shared (g.C.CrqEnd.state c.args.crq.now.end) g.O.WindowPort.is_shared (g.O.WindowPort.state c.args.own.now)) (ports g.C.CrqEnd.is_shared (g.C.CrqEnd.state c.take_answer.new.crq.end) g.O.WindowPort.is_shared (g.O.WindowPort.state c.take_answer.new.own))) c.in-Lost.is c.in_ok-tag.ensures.taken)

pub returns-in-Again-clause-told : goal.returns-in-Again-clause-told
returns-in-Again-clause-told g c =
    again_told c.args.self.now.client c.take_answer.new.self
    (ports g.C.CrqEnd.is_shared (g.C.CrqEnd.state c.args.crq.now.end) g.O.WindowPort.is_shared (g.O.WindowPort.state c.args.own.now))
    (ports g.C.CrqEnd.is_shared (g.C.CrqEnd.state c.take_answer.new.crq.end) g.O.WindowPort.is_shared (g.O.WindowPort.state c.take_answer.new.own)) c.in-Again.page c.in-Again.word
    (subst (TakesEntry c.args.self.now.client c.take_answer.new.self (ports g.C.CrqEnd.is_shared (g.C.CrqEnd.state c.args.crq.now.end) g.O.WindowPort.is_shared (g.O.WindowPort.state c.args.own.now)) (ports g.C.CrqEnd.is_shared (g.C.CrqEnd.state c.take_answer.new.crq.end) g.O.WindowPort.is_shared (g.O.WindowPort.state c.take_answer.new.own))) c.in-Again.is c.in_ok-tag.ensures.taken)

pub returns-in-Empty-clause-told : goal.returns-in-Empty-clause-told
returns-in-Empty-clause-told g c =
    empty_told c.args.self.now.client c.take_answer.new.self
    (ports g.C.CrqEnd.is_shared (g.C.CrqEnd.state c.args.crq.now.end) g.O.WindowPort.is_shared (g.O.WindowPort.state c.args.own.now))
    (ports g.C.CrqEnd.is_shared (g.C.CrqEnd.state c.take_answer.new.crq.end) g.O.WindowPort.is_shared (g.O.WindowPort.state c.take_answer.new.own)) c.in-Empty.number
    (subst (TakesEntry c.args.self.now.client c.take_answer.new.self (ports g.C.CrqEnd.is_shared (g.C.CrqEnd.state c.args.crq.now.end) g.O.WindowPort.is_shared (g.O.WindowPort.state c.args.own.now)) (ports g.C.CrqEnd.is_shared (g.C.CrqEnd.state c.take_answer.new.crq.end) g.O.WindowPort.is_shared (g.O.WindowPort.state c.take_answer.new.own))) c.in-Empty.is c.in_ok-tag.ensures.taken)

pub returns-in_ok-note-in-Answer-clause-takes : goal.returns-in_ok-note-in-Answer-clause-takes
returns-in_ok-note-in-Answer-clause-takes g c = λ taken now.
    answer_taken c.in-Answer.tag c.in-Answer.rsp c.args.self.now c.note.new.self c.take_answer.new.self
    (ports g.C.CrqEnd.is_shared (g.C.CrqEnd.state c.args.crq.now.end) g.O.WindowPort.is_shared (g.O.WindowPort.state c.args.own.now))
    (ports g.C.CrqEnd.is_shared (g.C.CrqEnd.state c.take_answer.new.crq.end) g.O.WindowPort.is_shared (g.O.WindowPort.state c.take_answer.new.own))
    taken now (subst (TakesEntry c.args.self.now.client c.take_answer.new.self (ports g.C.CrqEnd.is_shared (g.C.CrqEnd.state c.args.crq.now.end) g.O.WindowPort.is_shared (g.O.WindowPort.state c.args.own.now)) (ports g.C.CrqEnd.is_shared (g.C.CrqEnd.state c.take_answer.new.crq.end) g.O.WindowPort.is_shared (g.O.WindowPort.state c.take_answer.new.own))) c.in-Answer.is c.in_ok-tag.ensures.taken) c.in_ok-note-in-Answer.ensures.notes.noted c.note.ensures.client

pub returns-in_ok-note-in-Answer-clause-gives : goal.returns-in_ok-note-in-Answer-clause-gives
returns-in_ok-note-in-Answer-clause-gives g c =
    let entry = (subst (TakesEntry c.args.self.now.client c.take_answer.new.self (ports g.C.CrqEnd.is_shared (g.C.CrqEnd.state c.args.crq.now.end) g.O.WindowPort.is_shared (g.O.WindowPort.state c.args.own.now)) (ports g.C.CrqEnd.is_shared (g.C.CrqEnd.state c.take_answer.new.crq.end) g.O.WindowPort.is_shared (g.O.WindowPort.state c.take_answer.new.own))) c.in-Answer.is c.in_ok-tag.ensures.taken) in
    answer_gives c.in-Answer.tag c.in-Answer.rsp c.args.self.now c.note.new.self c.take_answer.new.self (g.C.CrqEnd.state c.args.crq.now.end) (g.C.CrqEnd.state c.take_answer.new.crq.end) entry.judged.judged.1 c.in_ok-note-in-Answer.ensures.notes.noted c.note.ensures.client
    (takes_in (takens.Answer c.in-Answer.tag c.in-Answer.rsp) c.args.self.now.client c.take_answer.new.self
    (ports g.C.CrqEnd.is_shared (g.C.CrqEnd.state c.args.crq.now.end) g.O.WindowPort.is_shared (g.O.WindowPort.state c.args.own.now))
    (ports g.C.CrqEnd.is_shared (g.C.CrqEnd.state c.take_answer.new.crq.end) g.O.WindowPort.is_shared (g.O.WindowPort.state c.take_answer.new.own))
    entry c.take_answer.ensures.crq_rest)

pub returns-in-Stray-clause-takes : goal.returns-in-Stray-clause-takes
returns-in-Stray-clause-takes g c = λ taken now.
    other_taken c.args.self.now (record c.args.self.now { client = c.take_answer.new.self }) c.take_answer.new.self taken now refl refl
    (tags_taken_as (takens.Stray c.in-Stray.field-0) c.args.self.now.client c.take_answer.new.self
    (ports g.C.CrqEnd.is_shared (g.C.CrqEnd.state c.args.crq.now.end) g.O.WindowPort.is_shared (g.O.WindowPort.state c.args.own.now))
    (ports g.C.CrqEnd.is_shared (g.C.CrqEnd.state c.take_answer.new.crq.end) g.O.WindowPort.is_shared (g.O.WindowPort.state c.take_answer.new.own))
    tt (subst (TakesEntry c.args.self.now.client c.take_answer.new.self (ports g.C.CrqEnd.is_shared (g.C.CrqEnd.state c.args.crq.now.end) g.O.WindowPort.is_shared (g.O.WindowPort.state c.args.own.now)) (ports g.C.CrqEnd.is_shared (g.C.CrqEnd.state c.take_answer.new.crq.end) g.O.WindowPort.is_shared (g.O.WindowPort.state c.take_answer.new.own))) c.in-Stray.is c.in_ok-tag.ensures.taken))

pub returns-in-Stray-clause-gives : goal.returns-in-Stray-clause-gives
returns-in-Stray-clause-gives g c =
    other_gives (takens.Stray c.in-Stray.field-0) c.args.self.now (record c.args.self.now { client = c.take_answer.new.self }) c.take_answer.new.self (g.C.CrqEnd.state c.args.crq.now.end) (g.C.CrqEnd.state c.take_answer.new.crq.end) (λ tags. refl) refl refl
    (takes_in (takens.Stray c.in-Stray.field-0) c.args.self.now.client c.take_answer.new.self
    (ports g.C.CrqEnd.is_shared (g.C.CrqEnd.state c.args.crq.now.end) g.O.WindowPort.is_shared (g.O.WindowPort.state c.args.own.now))
    (ports g.C.CrqEnd.is_shared (g.C.CrqEnd.state c.take_answer.new.crq.end) g.O.WindowPort.is_shared (g.O.WindowPort.state c.take_answer.new.own))
    (subst (TakesEntry c.args.self.now.client c.take_answer.new.self (ports g.C.CrqEnd.is_shared (g.C.CrqEnd.state c.args.crq.now.end) g.O.WindowPort.is_shared (g.O.WindowPort.state c.args.own.now)) (ports g.C.CrqEnd.is_shared (g.C.CrqEnd.state c.take_answer.new.crq.end) g.O.WindowPort.is_shared (g.O.WindowPort.state c.take_answer.new.own))) c.in-Stray.is c.in_ok-tag.ensures.taken) c.take_answer.ensures.crq_rest)

pub returns-in-Other-clause-takes : goal.returns-in-Other-clause-takes
returns-in-Other-clause-takes g c = λ taken now.
    other_taken c.args.self.now (record c.args.self.now { client = c.take_answer.new.self }) c.take_answer.new.self taken now refl refl
    (tags_taken_as takens.Other c.args.self.now.client c.take_answer.new.self
    (ports g.C.CrqEnd.is_shared (g.C.CrqEnd.state c.args.crq.now.end) g.O.WindowPort.is_shared (g.O.WindowPort.state c.args.own.now))
    (ports g.C.CrqEnd.is_shared (g.C.CrqEnd.state c.take_answer.new.crq.end) g.O.WindowPort.is_shared (g.O.WindowPort.state c.take_answer.new.own))
    tt (subst (TakesEntry c.args.self.now.client c.take_answer.new.self (ports g.C.CrqEnd.is_shared (g.C.CrqEnd.state c.args.crq.now.end) g.O.WindowPort.is_shared (g.O.WindowPort.state c.args.own.now)) (ports g.C.CrqEnd.is_shared (g.C.CrqEnd.state c.take_answer.new.crq.end) g.O.WindowPort.is_shared (g.O.WindowPort.state c.take_answer.new.own))) c.in-Other.is c.in_ok-tag.ensures.taken))

pub returns-in-Other-clause-gives : goal.returns-in-Other-clause-gives
returns-in-Other-clause-gives g c =
    other_gives takens.Other c.args.self.now (record c.args.self.now { client = c.take_answer.new.self }) c.take_answer.new.self (g.C.CrqEnd.state c.args.crq.now.end) (g.C.CrqEnd.state c.take_answer.new.crq.end) (λ tags. refl) refl refl
    (takes_in takens.Other c.args.self.now.client c.take_answer.new.self
    (ports g.C.CrqEnd.is_shared (g.C.CrqEnd.state c.args.crq.now.end) g.O.WindowPort.is_shared (g.O.WindowPort.state c.args.own.now))
    (ports g.C.CrqEnd.is_shared (g.C.CrqEnd.state c.take_answer.new.crq.end) g.O.WindowPort.is_shared (g.O.WindowPort.state c.take_answer.new.own))
    (subst (TakesEntry c.args.self.now.client c.take_answer.new.self (ports g.C.CrqEnd.is_shared (g.C.CrqEnd.state c.args.crq.now.end) g.O.WindowPort.is_shared (g.O.WindowPort.state c.args.own.now)) (ports g.C.CrqEnd.is_shared (g.C.CrqEnd.state c.take_answer.new.crq.end) g.O.WindowPort.is_shared (g.O.WindowPort.state c.take_answer.new.own))) c.in-Other.is c.in_ok-tag.ensures.taken) c.take_answer.ensures.crq_rest)

pub returns-in-Lost-clause-takes : goal.returns-in-Lost-clause-takes
returns-in-Lost-clause-takes g c = λ taken now.
    other_taken c.args.self.now (record c.args.self.now { client = c.take_answer.new.self }) c.take_answer.new.self taken now refl refl
    (tags_taken_as takens.Lost c.args.self.now.client c.take_answer.new.self
    (ports g.C.CrqEnd.is_shared (g.C.CrqEnd.state c.args.crq.now.end) g.O.WindowPort.is_shared (g.O.WindowPort.state c.args.own.now))
    (ports g.C.CrqEnd.is_shared (g.C.CrqEnd.state c.take_answer.new.crq.end) g.O.WindowPort.is_shared (g.O.WindowPort.state c.take_answer.new.own))
    tt (subst (TakesEntry c.args.self.now.client c.take_answer.new.self (ports g.C.CrqEnd.is_shared (g.C.CrqEnd.state c.args.crq.now.end) g.O.WindowPort.is_shared (g.O.WindowPort.state c.args.own.now)) (ports g.C.CrqEnd.is_shared (g.C.CrqEnd.state c.take_answer.new.crq.end) g.O.WindowPort.is_shared (g.O.WindowPort.state c.take_answer.new.own))) c.in-Lost.is c.in_ok-tag.ensures.taken))

pub returns-in-Lost-clause-gives : goal.returns-in-Lost-clause-gives
returns-in-Lost-clause-gives g c =
    other_gives takens.Lost c.args.self.now (record c.args.self.now { client = c.take_answer.new.self }) c.take_answer.new.self (g.C.CrqEnd.state c.args.crq.now.end) (g.C.CrqEnd.state c.take_answer.new.crq.end) (λ tags. refl) refl refl
    (takes_in takens.Lost c.args.self.now.client c.take_answer.new.self
    (ports g.C.CrqEnd.is_shared (g.C.CrqEnd.state c.args.crq.now.end) g.O.WindowPort.is_shared (g.O.WindowPort.state c.args.own.now))
    (ports g.C.CrqEnd.is_shared (g.C.CrqEnd.state c.take_answer.new.crq.end) g.O.WindowPort.is_shared (g.O.WindowPort.state c.take_answer.new.own))
    (subst (TakesEntry c.args.self.now.client c.take_answer.new.self (ports g.C.CrqEnd.is_shared (g.C.CrqEnd.state c.args.crq.now.end) g.O.WindowPort.is_shared (g.O.WindowPort.state c.args.own.now)) (ports g.C.CrqEnd.is_shared (g.C.CrqEnd.state c.take_answer.new.crq.end) g.O.WindowPort.is_shared (g.O.WindowPort.state c.take_answer.new.own))) c.in-Lost.is c.in_ok-tag.ensures.taken) c.take_answer.ensures.crq_rest)

pub returns-in-Again-clause-takes : goal.returns-in-Again-clause-takes
returns-in-Again-clause-takes g c = λ taken now.
    other_taken c.args.self.now (record c.args.self.now { client = c.take_answer.new.self }) c.take_answer.new.self taken now refl refl
    (tags_taken_as (takens.Again c.in-Again.page c.in-Again.word) c.args.self.now.client c.take_answer.new.self
    (ports g.C.CrqEnd.is_shared (g.C.CrqEnd.state c.args.crq.now.end) g.O.WindowPort.is_shared (g.O.WindowPort.state c.args.own.now))
    (ports g.C.CrqEnd.is_shared (g.C.CrqEnd.state c.take_answer.new.crq.end) g.O.WindowPort.is_shared (g.O.WindowPort.state c.take_answer.new.own))
    tt (subst (TakesEntry c.args.self.now.client c.take_answer.new.self (ports g.C.CrqEnd.is_shared (g.C.CrqEnd.state c.args.crq.now.end) g.O.WindowPort.is_shared (g.O.WindowPort.state c.args.own.now)) (ports g.C.CrqEnd.is_shared (g.C.CrqEnd.state c.take_answer.new.crq.end) g.O.WindowPort.is_shared (g.O.WindowPort.state c.take_answer.new.own))) c.in-Again.is c.in_ok-tag.ensures.taken))

pub returns-in-Again-clause-gives : goal.returns-in-Again-clause-gives
returns-in-Again-clause-gives g c =
    other_gives (takens.Again c.in-Again.page c.in-Again.word) c.args.self.now (record c.args.self.now { client = c.take_answer.new.self }) c.take_answer.new.self (g.C.CrqEnd.state c.args.crq.now.end) (g.C.CrqEnd.state c.take_answer.new.crq.end) (λ tags. refl) refl refl
    (takes_in (takens.Again c.in-Again.page c.in-Again.word) c.args.self.now.client c.take_answer.new.self
    (ports g.C.CrqEnd.is_shared (g.C.CrqEnd.state c.args.crq.now.end) g.O.WindowPort.is_shared (g.O.WindowPort.state c.args.own.now))
    (ports g.C.CrqEnd.is_shared (g.C.CrqEnd.state c.take_answer.new.crq.end) g.O.WindowPort.is_shared (g.O.WindowPort.state c.take_answer.new.own))
    (subst (TakesEntry c.args.self.now.client c.take_answer.new.self (ports g.C.CrqEnd.is_shared (g.C.CrqEnd.state c.args.crq.now.end) g.O.WindowPort.is_shared (g.O.WindowPort.state c.args.own.now)) (ports g.C.CrqEnd.is_shared (g.C.CrqEnd.state c.take_answer.new.crq.end) g.O.WindowPort.is_shared (g.O.WindowPort.state c.take_answer.new.own))) c.in-Again.is c.in_ok-tag.ensures.taken) c.take_answer.ensures.crq_rest)

pub returns-in-Empty-clause-takes : goal.returns-in-Empty-clause-takes
returns-in-Empty-clause-takes g c = λ taken now.
    other_taken c.args.self.now (record c.args.self.now { client = c.take_answer.new.self }) c.take_answer.new.self taken now refl refl
    (tags_taken_as (takens.Empty c.in-Empty.number) c.args.self.now.client c.take_answer.new.self
    (ports g.C.CrqEnd.is_shared (g.C.CrqEnd.state c.args.crq.now.end) g.O.WindowPort.is_shared (g.O.WindowPort.state c.args.own.now))
    (ports g.C.CrqEnd.is_shared (g.C.CrqEnd.state c.take_answer.new.crq.end) g.O.WindowPort.is_shared (g.O.WindowPort.state c.take_answer.new.own))
    tt (subst (TakesEntry c.args.self.now.client c.take_answer.new.self (ports g.C.CrqEnd.is_shared (g.C.CrqEnd.state c.args.crq.now.end) g.O.WindowPort.is_shared (g.O.WindowPort.state c.args.own.now)) (ports g.C.CrqEnd.is_shared (g.C.CrqEnd.state c.take_answer.new.crq.end) g.O.WindowPort.is_shared (g.O.WindowPort.state c.take_answer.new.own))) c.in-Empty.is c.in_ok-tag.ensures.taken))

pub returns-in-Empty-clause-gives : goal.returns-in-Empty-clause-gives
returns-in-Empty-clause-gives g c =
    other_gives (takens.Empty c.in-Empty.number) c.args.self.now (record c.args.self.now { client = c.take_answer.new.self }) c.take_answer.new.self (g.C.CrqEnd.state c.args.crq.now.end) (g.C.CrqEnd.state c.take_answer.new.crq.end) (λ tags. refl) refl refl
    (takes_in (takens.Empty c.in-Empty.number) c.args.self.now.client c.take_answer.new.self
    (ports g.C.CrqEnd.is_shared (g.C.CrqEnd.state c.args.crq.now.end) g.O.WindowPort.is_shared (g.O.WindowPort.state c.args.own.now))
    (ports g.C.CrqEnd.is_shared (g.C.CrqEnd.state c.take_answer.new.crq.end) g.O.WindowPort.is_shared (g.O.WindowPort.state c.take_answer.new.own))
    (subst (TakesEntry c.args.self.now.client c.take_answer.new.self (ports g.C.CrqEnd.is_shared (g.C.CrqEnd.state c.args.crq.now.end) g.O.WindowPort.is_shared (g.O.WindowPort.state c.args.own.now)) (ports g.C.CrqEnd.is_shared (g.C.CrqEnd.state c.take_answer.new.crq.end) g.O.WindowPort.is_shared (g.O.WindowPort.state c.take_answer.new.own))) c.in-Empty.is c.in_ok-tag.ensures.taken) c.take_answer.ensures.crq_rest)

pub returns-in_ok-note-in-Answer-clause-hears : goal.returns-in_ok-note-in-Answer-clause-hears
returns-in_ok-note-in-Answer-clause-hears g c =
    subst (λ (s : ClientState). Hears 0 c.args.self.now.client s (g.C.CrqEnd.state c.args.crq.now.end) (g.C.CrqEnd.state c.take_answer.new.crq.end)) (sym c.note.ensures.client)
    (takes_hear c.args.self.now.client c.take_answer.new.self
    (ports g.C.CrqEnd.is_shared (g.C.CrqEnd.state c.args.crq.now.end) g.O.WindowPort.is_shared (g.O.WindowPort.state c.args.own.now))
    (ports g.C.CrqEnd.is_shared (g.C.CrqEnd.state c.take_answer.new.crq.end) g.O.WindowPort.is_shared (g.O.WindowPort.state c.take_answer.new.own))
    (takens.Answer c.in-Answer.tag c.in-Answer.rsp) (subst (TakesEntry c.args.self.now.client c.take_answer.new.self (ports g.C.CrqEnd.is_shared (g.C.CrqEnd.state c.args.crq.now.end) g.O.WindowPort.is_shared (g.O.WindowPort.state c.args.own.now)) (ports g.C.CrqEnd.is_shared (g.C.CrqEnd.state c.take_answer.new.crq.end) g.O.WindowPort.is_shared (g.O.WindowPort.state c.take_answer.new.own))) c.in-Answer.is c.in_ok-tag.ensures.taken))

pub returns-in-Stray-clause-hears : goal.returns-in-Stray-clause-hears
returns-in-Stray-clause-hears g c =
    takes_hear c.args.self.now.client c.take_answer.new.self
    (ports g.C.CrqEnd.is_shared (g.C.CrqEnd.state c.args.crq.now.end) g.O.WindowPort.is_shared (g.O.WindowPort.state c.args.own.now))
    (ports g.C.CrqEnd.is_shared (g.C.CrqEnd.state c.take_answer.new.crq.end) g.O.WindowPort.is_shared (g.O.WindowPort.state c.take_answer.new.own))
    (takens.Stray c.in-Stray.field-0) (subst (TakesEntry c.args.self.now.client c.take_answer.new.self (ports g.C.CrqEnd.is_shared (g.C.CrqEnd.state c.args.crq.now.end) g.O.WindowPort.is_shared (g.O.WindowPort.state c.args.own.now)) (ports g.C.CrqEnd.is_shared (g.C.CrqEnd.state c.take_answer.new.crq.end) g.O.WindowPort.is_shared (g.O.WindowPort.state c.take_answer.new.own))) c.in-Stray.is c.in_ok-tag.ensures.taken)

pub returns-in-Other-clause-hears : goal.returns-in-Other-clause-hears
returns-in-Other-clause-hears g c =
    takes_hear c.args.self.now.client c.take_answer.new.self
    (ports g.C.CrqEnd.is_shared (g.C.CrqEnd.state c.args.crq.now.end) g.O.WindowPort.is_shared (g.O.WindowPort.state c.args.own.now))
    (ports g.C.CrqEnd.is_shared (g.C.CrqEnd.state c.take_answer.new.crq.end) g.O.WindowPort.is_shared (g.O.WindowPort.state c.take_answer.new.own))
    takens.Other (subst (TakesEntry c.args.self.now.client c.take_answer.new.self (ports g.C.CrqEnd.is_shared (g.C.CrqEnd.state c.args.crq.now.end) g.O.WindowPort.is_shared (g.O.WindowPort.state c.args.own.now)) (ports g.C.CrqEnd.is_shared (g.C.CrqEnd.state c.take_answer.new.crq.end) g.O.WindowPort.is_shared (g.O.WindowPort.state c.take_answer.new.own))) c.in-Other.is c.in_ok-tag.ensures.taken)

pub returns-in-Lost-clause-hears : goal.returns-in-Lost-clause-hears
returns-in-Lost-clause-hears g c =
    takes_hear c.args.self.now.client c.take_answer.new.self
    (ports g.C.CrqEnd.is_shared (g.C.CrqEnd.state c.args.crq.now.end) g.O.WindowPort.is_shared (g.O.WindowPort.state c.args.own.now))
    (ports g.C.CrqEnd.is_shared (g.C.CrqEnd.state c.take_answer.new.crq.end) g.O.WindowPort.is_shared (g.O.WindowPort.state c.take_answer.new.own))
    takens.Lost (subst (TakesEntry c.args.self.now.client c.take_answer.new.self (ports g.C.CrqEnd.is_shared (g.C.CrqEnd.state c.args.crq.now.end) g.O.WindowPort.is_shared (g.O.WindowPort.state c.args.own.now)) (ports g.C.CrqEnd.is_shared (g.C.CrqEnd.state c.take_answer.new.crq.end) g.O.WindowPort.is_shared (g.O.WindowPort.state c.take_answer.new.own))) c.in-Lost.is c.in_ok-tag.ensures.taken)

pub returns-in-Again-clause-hears : goal.returns-in-Again-clause-hears
returns-in-Again-clause-hears g c =
    takes_hear c.args.self.now.client c.take_answer.new.self
    (ports g.C.CrqEnd.is_shared (g.C.CrqEnd.state c.args.crq.now.end) g.O.WindowPort.is_shared (g.O.WindowPort.state c.args.own.now))
    (ports g.C.CrqEnd.is_shared (g.C.CrqEnd.state c.take_answer.new.crq.end) g.O.WindowPort.is_shared (g.O.WindowPort.state c.take_answer.new.own))
    (takens.Again c.in-Again.page c.in-Again.word) (subst (TakesEntry c.args.self.now.client c.take_answer.new.self (ports g.C.CrqEnd.is_shared (g.C.CrqEnd.state c.args.crq.now.end) g.O.WindowPort.is_shared (g.O.WindowPort.state c.args.own.now)) (ports g.C.CrqEnd.is_shared (g.C.CrqEnd.state c.take_answer.new.crq.end) g.O.WindowPort.is_shared (g.O.WindowPort.state c.take_answer.new.own))) c.in-Again.is c.in_ok-tag.ensures.taken)

pub returns-in-Empty-clause-hears : goal.returns-in-Empty-clause-hears
returns-in-Empty-clause-hears g c =
    takes_hear c.args.self.now.client c.take_answer.new.self
    (ports g.C.CrqEnd.is_shared (g.C.CrqEnd.state c.args.crq.now.end) g.O.WindowPort.is_shared (g.O.WindowPort.state c.args.own.now))
    (ports g.C.CrqEnd.is_shared (g.C.CrqEnd.state c.take_answer.new.crq.end) g.O.WindowPort.is_shared (g.O.WindowPort.state c.take_answer.new.own))
    (takens.Empty c.in-Empty.number) (subst (TakesEntry c.args.self.now.client c.take_answer.new.self (ports g.C.CrqEnd.is_shared (g.C.CrqEnd.state c.args.crq.now.end) g.O.WindowPort.is_shared (g.O.WindowPort.state c.args.own.now)) (ports g.C.CrqEnd.is_shared (g.C.CrqEnd.state c.take_answer.new.crq.end) g.O.WindowPort.is_shared (g.O.WindowPort.state c.take_answer.new.own))) c.in-Empty.is c.in_ok-tag.ensures.taken)

pub returns-in_err-tag-clause-works : goal.returns-in_err-tag-clause-works
returns-in_err-tag-clause-works g c =
    take_works g.C.CrqEnd.is_shared g.O.WindowPort.is_shared _ _ _ _ c.args.self.now _ c.take_answer.new.self c.take_answer.result refl refl
    c.take_answer.ensures.taken c.take_answer.ensures.later c.take_answer.ensures.crq_rest c.take_answer.ensures.own_rest (λ has read. read)

pub returns-in_ok-note-in-Answer-clause-plainly : goal.returns-in_ok-note-in-Answer-clause-plainly
returns-in_ok-note-in-Answer-clause-plainly g c = λ crq_alone own_alone.
    subst (λ (s : ClientState). TakesPlainly tooks.Answer (own_of c.args.self.now (g.C.CrqEnd.state c.args.crq.now.end) (g.O.WindowPort.state c.args.own.now))
    (own_by s c.note.new.self.answers.items (g.C.CrqEnd.state c.take_answer.new.crq.end) (g.O.WindowPort.state c.take_answer.new.own))) (sym c.note.ensures.client)
    (take_plainly g.C.CrqEnd.is_shared g.O.WindowPort.is_shared (own_of c.args.self.now (g.C.CrqEnd.state c.args.crq.now.end) (g.O.WindowPort.state c.args.own.now))
    (own_by c.take_answer.new.self c.note.new.self.answers.items (g.C.CrqEnd.state c.take_answer.new.crq.end) (g.O.WindowPort.state c.take_answer.new.own))
    c.in_ok-tag.field-0 (takens.Answer c.in-Answer.tag c.in-Answer.rsp) tooks.Answer c.in-Answer.is refl c.in_ok-tag.ensures.taken c.take_answer.ensures.crq_rest c.take_answer.ensures.own_rest crq_alone own_alone
    c.in_ok-note-in-Answer.ensures.notes.noted)

pub returns-in-Stray-clause-plainly : goal.returns-in-Stray-clause-plainly
returns-in-Stray-clause-plainly g c = λ crq_alone own_alone.
    take_plainly g.C.CrqEnd.is_shared g.O.WindowPort.is_shared (own_of c.args.self.now (g.C.CrqEnd.state c.args.crq.now.end) (g.O.WindowPort.state c.args.own.now))
    (own_by c.take_answer.new.self c.args.self.now.answers.items (g.C.CrqEnd.state c.take_answer.new.crq.end) (g.O.WindowPort.state c.take_answer.new.own))
    c.in_ok-tag.field-0 (takens.Stray c.in-Stray.field-0) tooks.Other c.in-Stray.is refl c.in_ok-tag.ensures.taken c.take_answer.ensures.crq_rest c.take_answer.ensures.own_rest crq_alone own_alone refl

pub returns-in-Other-clause-plainly : goal.returns-in-Other-clause-plainly
returns-in-Other-clause-plainly g c = λ crq_alone own_alone.
    take_plainly g.C.CrqEnd.is_shared g.O.WindowPort.is_shared (own_of c.args.self.now (g.C.CrqEnd.state c.args.crq.now.end) (g.O.WindowPort.state c.args.own.now))
    (own_by c.take_answer.new.self c.args.self.now.answers.items (g.C.CrqEnd.state c.take_answer.new.crq.end) (g.O.WindowPort.state c.take_answer.new.own))
    c.in_ok-tag.field-0 takens.Other tooks.Other c.in-Other.is refl c.in_ok-tag.ensures.taken c.take_answer.ensures.crq_rest c.take_answer.ensures.own_rest crq_alone own_alone refl

pub returns-in-Lost-clause-plainly : goal.returns-in-Lost-clause-plainly
returns-in-Lost-clause-plainly g c = λ crq_alone own_alone.
    take_plainly g.C.CrqEnd.is_shared g.O.WindowPort.is_shared (own_of c.args.self.now (g.C.CrqEnd.state c.args.crq.now.end) (g.O.WindowPort.state c.args.own.now))
    (own_by c.take_answer.new.self c.args.self.now.answers.items (g.C.CrqEnd.state c.take_answer.new.crq.end) (g.O.WindowPort.state c.take_answer.new.own))
    c.in_ok-tag.field-0 takens.Lost tooks.Lost c.in-Lost.is refl c.in_ok-tag.ensures.taken c.take_answer.ensures.crq_rest c.take_answer.ensures.own_rest crq_alone own_alone refl

pub returns-in-Again-clause-plainly : goal.returns-in-Again-clause-plainly
returns-in-Again-clause-plainly g c = λ crq_alone own_alone.
    take_plainly g.C.CrqEnd.is_shared g.O.WindowPort.is_shared (own_of c.args.self.now (g.C.CrqEnd.state c.args.crq.now.end) (g.O.WindowPort.state c.args.own.now))
    (own_by c.take_answer.new.self c.args.self.now.answers.items (g.C.CrqEnd.state c.take_answer.new.crq.end) (g.O.WindowPort.state c.take_answer.new.own))
    c.in_ok-tag.field-0 (takens.Again c.in-Again.page c.in-Again.word) tooks.InUse c.in-Again.is refl c.in_ok-tag.ensures.taken c.take_answer.ensures.crq_rest c.take_answer.ensures.own_rest crq_alone own_alone refl

pub returns-in-Empty-clause-plainly : goal.returns-in-Empty-clause-plainly
returns-in-Empty-clause-plainly g c = λ crq_alone own_alone.
    take_plainly g.C.CrqEnd.is_shared g.O.WindowPort.is_shared (own_of c.args.self.now (g.C.CrqEnd.state c.args.crq.now.end) (g.O.WindowPort.state c.args.own.now))
    (own_by c.take_answer.new.self c.args.self.now.answers.items (g.C.CrqEnd.state c.take_answer.new.crq.end) (g.O.WindowPort.state c.take_answer.new.own))
    c.in_ok-tag.field-0 (takens.Empty c.in-Empty.number) tooks.Nothing c.in-Empty.is refl c.in_ok-tag.ensures.taken c.take_answer.ensures.crq_rest c.take_answer.ensures.own_rest crq_alone own_alone refl

pub returns-in-Stray-clause-acts : goal.returns-in-Stray-clause-acts
returns-in-Stray-clause-acts g c =
    takes_once (acting c.args.self.now g.C.CrqEnd.is_shared (g.C.CrqEnd.state c.args.crq.now.end) g.O.WindowPort.is_shared (g.O.WindowPort.state c.args.own.now))
    (acting (record c.args.self.now { client = c.take_answer.new.self }) g.C.CrqEnd.is_shared (g.C.CrqEnd.state c.take_answer.new.crq.end) g.O.WindowPort.is_shared (g.O.WindowPort.state c.take_answer.new.own))
    c.in_ok-tag.field-0 (takens.Stray c.in-Stray.field-0) tooks.Other c.in-Stray.is refl c.in_ok-tag.ensures.taken refl c.take_answer.ensures.crq_rest c.take_answer.ensures.own_rest refl refl

pub returns-in-Other-clause-acts : goal.returns-in-Other-clause-acts
returns-in-Other-clause-acts g c =
    takes_once (acting c.args.self.now g.C.CrqEnd.is_shared (g.C.CrqEnd.state c.args.crq.now.end) g.O.WindowPort.is_shared (g.O.WindowPort.state c.args.own.now))
    (acting (record c.args.self.now { client = c.take_answer.new.self }) g.C.CrqEnd.is_shared (g.C.CrqEnd.state c.take_answer.new.crq.end) g.O.WindowPort.is_shared (g.O.WindowPort.state c.take_answer.new.own))
    c.in_ok-tag.field-0 (takens.Other) tooks.Other c.in-Other.is refl c.in_ok-tag.ensures.taken refl c.take_answer.ensures.crq_rest c.take_answer.ensures.own_rest refl refl

pub returns-in-Lost-clause-acts : goal.returns-in-Lost-clause-acts
returns-in-Lost-clause-acts g c =
    takes_once (acting c.args.self.now g.C.CrqEnd.is_shared (g.C.CrqEnd.state c.args.crq.now.end) g.O.WindowPort.is_shared (g.O.WindowPort.state c.args.own.now))
    (acting (record c.args.self.now { client = c.take_answer.new.self }) g.C.CrqEnd.is_shared (g.C.CrqEnd.state c.take_answer.new.crq.end) g.O.WindowPort.is_shared (g.O.WindowPort.state c.take_answer.new.own))
    c.in_ok-tag.field-0 (takens.Lost) tooks.Lost c.in-Lost.is refl c.in_ok-tag.ensures.taken refl c.take_answer.ensures.crq_rest c.take_answer.ensures.own_rest refl refl

pub returns-in-Again-clause-acts : goal.returns-in-Again-clause-acts
returns-in-Again-clause-acts g c =
    takes_once (acting c.args.self.now g.C.CrqEnd.is_shared (g.C.CrqEnd.state c.args.crq.now.end) g.O.WindowPort.is_shared (g.O.WindowPort.state c.args.own.now))
    (acting (record c.args.self.now { client = c.take_answer.new.self }) g.C.CrqEnd.is_shared (g.C.CrqEnd.state c.take_answer.new.crq.end) g.O.WindowPort.is_shared (g.O.WindowPort.state c.take_answer.new.own))
    c.in_ok-tag.field-0 (takens.Again c.in-Again.page c.in-Again.word) tooks.InUse c.in-Again.is refl c.in_ok-tag.ensures.taken refl c.take_answer.ensures.crq_rest c.take_answer.ensures.own_rest refl refl

pub returns-in-Empty-clause-acts : goal.returns-in-Empty-clause-acts
returns-in-Empty-clause-acts g c =
    takes_once (acting c.args.self.now g.C.CrqEnd.is_shared (g.C.CrqEnd.state c.args.crq.now.end) g.O.WindowPort.is_shared (g.O.WindowPort.state c.args.own.now))
    (acting (record c.args.self.now { client = c.take_answer.new.self }) g.C.CrqEnd.is_shared (g.C.CrqEnd.state c.take_answer.new.crq.end) g.O.WindowPort.is_shared (g.O.WindowPort.state c.take_answer.new.own))
    c.in_ok-tag.field-0 (takens.Empty c.in-Empty.number) tooks.Nothing c.in-Empty.is refl c.in_ok-tag.ensures.taken refl c.take_answer.ensures.crq_rest c.take_answer.ensures.own_rest refl refl

pub returns-in_ok-note-in-Answer-clause-acts : goal.returns-in_ok-note-in-Answer-clause-acts
returns-in_ok-note-in-Answer-clause-acts g c =
    subst (λ (s : ClientState). TakesOnce tooks.Answer (acting c.args.self.now g.C.CrqEnd.is_shared (g.C.CrqEnd.state c.args.crq.now.end) g.O.WindowPort.is_shared (g.O.WindowPort.state c.args.own.now))
    (acting (record c.note.new.self { client = s }) g.C.CrqEnd.is_shared (g.C.CrqEnd.state c.take_answer.new.crq.end) g.O.WindowPort.is_shared (g.O.WindowPort.state c.take_answer.new.own))) (sym c.note.ensures.client)
    (takes_once (acting c.args.self.now g.C.CrqEnd.is_shared (g.C.CrqEnd.state c.args.crq.now.end) g.O.WindowPort.is_shared (g.O.WindowPort.state c.args.own.now))
    (acting (record c.note.new.self { client = c.take_answer.new.self }) g.C.CrqEnd.is_shared (g.C.CrqEnd.state c.take_answer.new.crq.end) g.O.WindowPort.is_shared (g.O.WindowPort.state c.take_answer.new.own))
    c.in_ok-tag.field-0 (takens.Answer c.in-Answer.tag c.in-Answer.rsp) tooks.Answer c.in-Answer.is refl c.in_ok-tag.ensures.taken (subst (λ (n : ℕ). NotesIn n c.in-Answer.tag c.in-Answer.rsp c.args.self.now.answers.items c.note.new.self.answers.items) c.session.ensures.session
    c.in_ok-note-in-Answer.ensures.notes) c.take_answer.ensures.crq_rest c.take_answer.ensures.own_rest refl refl)
