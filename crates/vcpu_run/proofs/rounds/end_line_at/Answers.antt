use Rattle.vcpu_run.proofs.Resting.{quiet_set}
use Rattle.std.proofs.Common.{refl, slice_index_or}
use Rattle.std.proofs.lemmas.Option.{slice_get-get_or}
use Rattle.vcpu_run.proofs.Elsewhere.{credits_turned, else_none, ok_then}
use Rattle.vcpu_run.proofs.Going.{ok_five}
use Rattle.vcpu_run.proofs.Keeping.{all_same}
use Rattle.vcpu_run.proofs.Driving.{get_set_other}
use Rattle.vcpu_run.proofs.Held.{queues_turned}
use Rattle.vcpu_run.proofs.RoundsTold.{told_ended}
use Rattle.vcpu_run.proofs.Scripted.{run_one, script_turned}
use Rattle.vcpu_run.proofs.PortTurns.{ports_ended}
use Rattle.vcpu_run.proofs.OwnEnded.{ended_own_at}
use Rattle.vcpu_run.proofs.PlainRuns.{ended_plainly}
use Rattle.vcpu_run.proofs.rounds.end_line_at.Goals as goal

pub returns-clause-scripts : goal.returns-clause-scripts
returns-clause-scripts c pairs ports are =
    let scripts = c.args.scripts.now in
    let d = c.index-scripts-number.result in
    let old = slice_index_or scripts c.args.number d in
    let found = slice_get-get_or scripts c.args.number d c.requires in
    script_turned pairs pairs ports scripts c.args.number old c.end_waiting.new.self found
    (all_same pairs) c.end_waiting.ensures.rest (c.end_waiting.ensures.script pairs (are c.args.number old found).script_is) are

pub returns-clause-run : goal.returns-clause-run
returns-clause-run c =
    let scripts = c.args.scripts.now in
    let d = c.index-scripts-number.result in
    run_one scripts c.args.number (slice_index_or scripts c.args.number d) c.end_waiting.new.self
    (slice_get-get_or scripts c.args.number d c.requires) c.end_waiting.ensures.rest

pub returns-clause-keeps : goal.returns-clause-keeps
returns-clause-keeps c =
    let scripts = c.args.scripts.now in
    let d = c.index-scripts-number.result in
    let old = slice_index_or scripts c.args.number d in
    let new = c.end_waiting.new.self in
    let found = slice_get-get_or scripts c.args.number d c.requires in
    let rest = c.end_waiting.ensures.rest in
    ok_five c.end_waiting.result _ _ _ _ _ _
    (λ credited logged said told unfreed pairs ports scripts_are.
    let is = (scripts_are c.args.number old found).script_is in
    record {
      credited = λ copies made are.
          credits_turned copies pairs pairs ports scripts c.args.number old new found scripts_are (else_none old.seats.items pairs) are
          (credited pairs is (are c.args.number old found).0, logged pairs is copies made (are c.args.number old found).1);
      said = λ out are. told_ended pairs scripts c.args.number old new found rest (said pairs is) out are;
      told = λ lan tells. ports_ended lan scripts c.args.number new tells (told pairs lan is (tells c.args.number old found));
      unfreed = λ opens.
          queues_turned pairs pairs ports scripts c.args.number old new found scripts_are (else_none old.seats.items pairs) rest
          (λ behind. unfreed pairs is (opens c.args.number old refl found behind));
    })
    c.end_waiting.ensures.credited c.end_waiting.ensures.logged c.end_waiting.ensures.said c.end_waiting.ensures.told c.end_waiting.ensures.unfreed

pub returns-clause-quiet : goal.returns-clause-quiet
returns-clause-quiet c =
    let scripts = c.args.scripts.now in
    let d = c.index-scripts-number.result in
    quiet_set scripts c.args.number (slice_index_or scripts c.args.number d) c.end_waiting.new.self c.end_waiting.result
    (slice_get-get_or scripts c.args.number d c.requires) c.end_waiting.ensures.quiet

pub returns-clause-elsewhere : goal.returns-clause-elsewhere
returns-clause-elsewhere c = λ i apart. get_set_other c.args.scripts.now c.args.number i c.end_waiting.new.self apart

pub returns-clause-clients : goal.returns-clause-clients
returns-clause-clients c =
    let scripts = c.args.scripts.now in
    let d = c.index-scripts-number.result in
    let old = slice_index_or scripts c.args.number d in
    let found = slice_get-get_or scripts c.args.number d c.requires in
    ok_then c.end_waiting.result _ _
    (λ kept granted home books pairs ports scripts_are none is.
    record {
      plain = ended_plainly granted home c.args.number books pairs scripts old c.end_waiting.new.self found c.end_waiting.ensures.rest
          (λ u k quiet stands. (kept pairs (scripts_are c.args.number old found).script_is).plain granted u k quiet stands) (λ u k seat. none.plain c.args.number u k old found seat refl) is.plain;
      own = ended_own_at granted home c.args.number books pairs scripts old c.end_waiting.new.self found c.end_waiting.ensures.rest
          (kept pairs (scripts_are c.args.number old found).script_is).own (λ u k seat. none.own c.args.number u k old found seat refl) is.own;
    })
    c.end_waiting.ensures.clients
