use Rattle.vcpu_run.proofs.Waiting.{linked_driven}
use Rattle.vcpu_run.proofs.Going.{if_six}
use Rattle.vcpu_run.proofs.Idling.{set_rests}
use Rattle.vcpu_run.proofs.Driving.{get_set_other}
use Rattle.std.proofs.Common.{◌≡◌, IsSomeAnd, false, slice_index_or, refl, subst}
use Rattle.std.proofs.lemmas.Option.{slice_get-get_or}
use Rattle.vcpu_run.proofs.Answering.{answered_driven}
use Rattle.vcpu_run.proofs.Elsewhere.{credits_turned, ok_two, ok_then}
use Rattle.vcpu_run.proofs.Keeping.{driven_stay, drivers_driven, pairs_driven}
use Rattle.vcpu_run.proofs.Receiving.{received_driven}
use Rattle.vcpu_run.proofs.RoundsTold.{out_turned, told_turned}
use Rattle.vcpu_run.proofs.Scripted.{run_one, script_turned}
use Rattle.vcpu_run.specs.Scripts.{are_servers}
use Rattle.vcpu_run.proofs.Held.{queues_turned}
use Rattle.vcpu_run.proofs.OpenRounds.{open_turned}
use Rattle.vcpu_run.proofs.PortTurns.{ports_turned}
use Rattle.vcpu_run.proofs.HeardTurns.{heard_driven, tells_driven}
use Rattle.vcpu_run.proofs.PortsResting.{set_ports}
use Rattle.vcpu_run.proofs.OwnClauses.{ok_if}
use Rattle.vcpu_run.proofs.OwnQuietRounds.{quieted_own}
use Rattle.vcpu_run.proofs.OwnQuieted.{quiets_own}
use Rattle.vcpu_run.proofs.OwnRuns.{turned_own_at}
use Rattle.vcpu_run.proofs.OwnTurned.{turned_own}
use Rattle.vcpu_run.proofs.PlainRuns.{quieted_plainly, turned_plainly}
use Rattle.vcpu_run.proofs.rounds.run_script.Goals as goal

pub turn-requires-clause-script : goal.turn-requires-clause-script
turn-requires-clause-script c =
    let scripts = c.args.scripts.now in
    let d = c.index-scripts-number.result in
    (c.requires.scripts c.args.number (slice_index_or scripts c.args.number d) (slice_get-get_or scripts c.args.number d c.requires.there)).script_is

pub turn-requires-clause-ports : goal.turn-requires-clause-ports
turn-requires-clause-ports c =
    let scripts = c.args.scripts.now in
    let d = c.index-scripts-number.result in
    (c.requires.scripts c.args.number (slice_index_or scripts c.args.number d) (slice_get-get_or scripts c.args.number d c.requires.there)).has_ports

pub returns-clause-pairs : goal.returns-clause-pairs
returns-clause-pairs c = record {
  pairs = λ home copies. pairs_driven home copies c.args.pairs.now c.turn.new.pairs c.turn.ensures.driven;
  linked = λ units. linked_driven units c.args.pairs.now c.turn.new.pairs c.turn.ensures.driven;
  answered = λ history. answered_driven history c.args.pairs.now c.turn.new.pairs c.turn.ensures.driven;
  received = λ units copies grants history. received_driven units copies grants history c.args.pairs.now c.turn.new.pairs c.turn.ensures.driven;
  tells = λ copies told. tells_driven told copies c.args.pairs.now c.turn.new.pairs c.turn.ensures.driven;
  heard = λ size partition units records copies. heard_driven size partition units records copies c.args.pairs.now c.turn.new.pairs c.turn.ensures.driven;
}

pub returns-clause-drivers : goal.returns-clause-drivers
returns-clause-drivers c = drivers_driven c.args.pairs.now c.turn.new.pairs c.turn.ensures.driven c.requires.drivers

pub returns-clause-scripts : goal.returns-clause-scripts
returns-clause-scripts c =
    let scripts = c.args.scripts.now in
    let d = c.index-scripts-number.result in
    rw c.turn.ensures.lan (script_turned c.args.pairs.now c.turn.new.pairs c.args.lan.now.seats scripts c.args.number (slice_index_or scripts c.args.number d) c.turn.new.self
    (slice_get-get_or scripts c.args.number d c.requires.there)
    (driven_stay c.args.pairs.now c.turn.new.pairs c.turn.ensures.driven) c.turn.ensures.rest c.turn.ensures.script c.requires.scripts)

pub returns-clause-stays : goal.returns-clause-stays
returns-clause-stays c =
    let scripts = c.args.scripts.now in
    let d = c.index-scripts-number.result in
    record {
      stay = driven_stay c.args.pairs.now c.turn.new.pairs c.turn.ensures.driven;
      run = run_one scripts c.args.number (slice_index_or scripts c.args.number d) c.turn.new.self (slice_get-get_or scripts c.args.number d c.requires.there) c.turn.ensures.rest;
      seats = c.turn.ensures.lan;
    }

pub returns-clause-credited : goal.returns-clause-credited
returns-clause-credited c =
    let scripts = c.args.scripts.now in
    let d = c.index-scripts-number.result in
    let old = slice_index_or scripts c.args.number d in
    let found = slice_get-get_or scripts c.args.number d c.requires.there in
    ok_then c.turn.result _ _
    (λ kept copies made are.
    credits_turned copies c.args.pairs.now c.turn.new.pairs c.args.lan.now.seats scripts c.args.number old c.turn.new.self found c.requires.scripts c.turn.ensures.others are
    (kept.0 (are c.args.number old found).0, kept.1 copies made (are c.args.number old found).1))
    (ok_two c.turn.result _ _ c.turn.ensures.credited c.turn.ensures.logged)

pub returns-clause-elsewhere : goal.returns-clause-elsewhere
returns-clause-elsewhere c = λ i apart. get_set_other c.args.scripts.now c.args.number i c.turn.new.self apart

pub returns-clause-unfreed : goal.returns-clause-unfreed
returns-clause-unfreed c =
    let scripts = c.args.scripts.now in
    let d = c.index-scripts-number.result in
    ok_then c.turn.result _ _
    (λ kept. queues_turned c.args.pairs.now c.turn.new.pairs c.args.lan.now.seats scripts c.args.number (slice_index_or scripts c.args.number d) c.turn.new.self
    (slice_get-get_or scripts c.args.number d c.requires.there) c.requires.scripts c.turn.ensures.others c.turn.ensures.rest (λ behind. kept))
    c.turn.ensures.unfreed

pub returns-clause-told : goal.returns-clause-told
returns-clause-told c =
    let scripts = c.args.scripts.now in
    let d = c.index-scripts-number.result in
    let old = slice_index_or scripts c.args.number d in
    let found = slice_get-get_or scripts c.args.number d c.requires.there in
    ports_turned c.args.lan.now c.turn.new.lan c.args.pairs.now c.args.lan.now.seats scripts c.args.number old c.turn.new.self c.turn.result found c.requires.scripts
    c.turn.ensures.apart c.turn.ensures.told

pub returns-clause-said : goal.returns-clause-said
returns-clause-said c =
    let scripts = c.args.scripts.now in
    let d = c.index-scripts-number.result in
    let old = slice_index_or scripts c.args.number d in
    let found = slice_get-get_or scripts c.args.number d c.requires.there in
    ok_then c.turn.result _ _
    (λ kept told.
    told_turned c.args.pairs.now c.turn.new.pairs c.args.lan.now.seats scripts c.args.number old c.turn.new.self found c.requires.scripts c.turn.ensures.others c.turn.ensures.rest kept told)
    c.turn.ensures.said

pub returns-clause-clients : goal.returns-clause-clients
returns-clause-clients c =
    let scripts = c.args.scripts.now in
    let d = c.index-scripts-number.result in
    let old = slice_index_or scripts c.args.number d in
    let found = slice_get-get_or scripts c.args.number d c.requires.there in
    ok_if c.turn.result _ _ _
    (λ moved turns acts granted home books other is.
    let plain = subst (λ o. IsSomeAnd o (λ script. are_servers script.seats.items ≡ false)) found other in
    record {
      plain = turned_plainly granted home c.args.number books c.args.pairs.now c.turn.new.pairs c.args.lan.now.seats scripts old c.turn.new.self found c.requires.scripts c.turn.ensures.driven
          c.turn.ensures.others c.turn.ensures.rest plain turns is.plain;
      own = turned_own_at granted home c.args.number books c.args.pairs.now c.turn.new.pairs c.args.lan.now.seats scripts old c.turn.new.self found c.requires.scripts
          c.turn.ensures.others c.turn.ensures.rest plain (turned_own c.args.pairs.now c.turn.new.pairs old c.turn.new.self (c.requires.scripts c.args.number old found).script_is c.turn.ensures.rest moved acts) is.own;
    })
    c.turn.ensures.plainly c.turn.ensures.acts

pub returns-clause-quiet : goal.returns-clause-quiet
returns-clause-quiet c =
    let pairs = c.args.pairs.now in
    let pairs' = c.turn.new.pairs in
    let seats = c.args.lan.now.seats in
    let scripts = c.args.scripts.now in
    let d = c.index-scripts-number.result in
    let old = slice_index_or scripts c.args.number d in
    let new = c.turn.new.self in
    let found = slice_get-get_or scripts c.args.number d c.requires.there in
    let rest = c.turn.ensures.rest in
    if_six c.turn.result _ _ _ _ _ _ _
    (λ moved held out rests ports quiets acts is. record {
      opened = λ plain before.
          open_turned pairs pairs' seats scripts c.args.number old new found c.requires.scripts c.turn.ensures.others rest
          (subst (λ o. IsSomeAnd o (λ script. are_servers script.seats.items ≡ false)) found plain) (held is) before;
      out = λ told before. out_turned pairs pairs' seats scripts c.args.number old new found c.requires.scripts c.turn.ensures.others rest (out is) told before;
      idle = λ over. set_rests scripts c.args.number old new old.seats.items pairs pairs' c.requires.there (rw rest.seats refl) (rests is) over;
      ports = λ over. set_ports scripts c.args.number new old.partition old.seats.items c.args.lan.now c.turn.new.lan c.requires.there
          (rw rest.partition refl) (rw rest.seats refl) (ports is) over;
      quietly = λ granted home books other clients quiet.
          let plain = subst (λ o. IsSomeAnd o (λ script. are_servers script.seats.items ≡ false)) found other in
          record {
            plain = quieted_plainly granted home c.args.number books pairs pairs' scripts old new found rest plain (quiets is) clients.plain quiet.plain;
            own = quieted_own granted home c.args.number books pairs pairs' seats scripts old new found c.requires.scripts c.turn.ensures.others rest plain
                (quiets_own moved pairs pairs' old new is rest acts) clients.own quiet.own;
          };
    })
    c.turn.ensures.opened c.turn.ensures.out c.turn.ensures.quiet c.turn.ensures.ports c.turn.ensures.quiets c.turn.ensures.acts
