use Rattle.vcpu_run.specs.Links.{SeatsRest}
use Rattle.vcpu_run.specs.TakenScripts.{AllGive}
use Rattle.vcpu_run.proofs.DataNoted.{keep_gives}
use Rattle.vcpu_run.proofs.Resting.{ok_more}
use Rattle.std.proofs.Common.{◌≡◌, ◌∙◌, ◌≤◌, List, Some, ap, length, is_some, refl, slice_get, subst, sym}
use Rattle.vcpu_run.specs.declared.unit_seat.Seat.{Seat}
use Rattle.vcpu_run.specs.Agreed.{SameElse}
use Rattle.vcpu_run.proofs.CallRecords.{calls_still}
use Rattle.vcpu_run.proofs.ClientRecords.{logs_still}
use Rattle.vcpu_run.proofs.Keeping.{driven_stay}
use Rattle.vcpu_run.proofs.Crediting.{credited_rest, less_by, on_ok, over_by}
use Rattle.vcpu_run.proofs.Driving.{clients_of}
use Rattle.std.proofs.lemmas.Option.{slice_get_past, slice_get_read}
use Rattle.vcpu_run.proofs.ScriptsTold.{none_out, over_told}
use Rattle.vcpu_run.proofs.Logging.{script_stays}
use Rattle.vcpu_run.proofs.Held.{none_held, turned_held}
use Rattle.vcpu_run.proofs.PortsTelling.{rest_tells}
use Rattle.vcpu_run.proofs.Elsewhere.{ok_then}
use Rattle.vcpu_run.proofs.Fetching.{ok_pair}
use Rattle.vcpu_run.specs.PortsRest.{PortsRest}
use Rattle.vcpu_run.proofs.PlainTurning.{rests_plainly, rests_quietly}
use Rattle.vcpu_run.proofs.ActsScripts.{goes_none, goes_some}
use Rattle.vcpu_run.proofs.script.Script.go_on.Goals as goal

pub take_rest-requires-clause-few : goal.take_rest-requires-clause-few
take_rest-requires-clause-few c = rw c.deref.ensures.value c.requires.ports.few

pub take_rest-requires-clause-ports : goal.take_rest-requires-clause-ports
take_rest-requires-clause-ports c = rw c.deref.ensures.value c.requires.ports.have

pub take_rest-requires-clause-clients : goal.take_rest-requires-clause-clients
take_rest-requires-clause-clients c = rw c.deref.ensures.value (clients_of c.args.self.now.partition c.args.self.now.seats.items c.args.pairs.now c.requires.script.seats c.requires.pairs)

pub returns-in-None-clause-script : goal.returns-in-None-clause-script
returns-in-None-clause-script c = script_stays c.args.pairs.now c.take_rest.new.pairs c.args.self.now c.take_rest.ensures.driven c.requires.script

pub returns-in-None-clause-credited : goal.returns-in-None-clause-credited
returns-in-None-clause-credited c =
    let over : length c.args.self.now.lines.now ≤ c.args.self.now.at = over_by c.args.self.now.at (length c.args.self.now.lines.now) (sym c.get.ensures.lookup.0 ∙ ap is_some c.in-None.is) in
    on_ok c.take_rest.result _ (λ is. credited_rest c.args.pairs.now c.take_rest.new.pairs c.args.self.now over is)

pub returns-in-None-clause-others : goal.returns-in-None-clause-others
returns-in-None-clause-others c = subst (λ (seats : List Seat). SameElse seats c.args.pairs.now c.take_rest.new.pairs) c.deref.ensures.value c.take_rest.ensures.others

pub returns-in-None-clause-quiet : goal.returns-in-None-clause-quiet
returns-in-None-clause-quiet c =
    ok_more c.take_rest.result _ _
    (λ moved rests is over. subst (λ (seats : List Seat). SeatsRest seats c.args.pairs.now c.take_rest.new.pairs) c.deref.ensures.value (rests is))
    c.take_rest.ensures.quiet

pub returns-in-Some-clause-quiet : goal.returns-in-Some-clause-quiet
returns-in-Some-clause-quiet c = ok_more c.step.result _ _ (λ moved left is over. absurd (left is over)) c.step.ensures.quiet

pub returns-in-None-clause-unfreed : goal.returns-in-None-clause-unfreed
returns-in-None-clause-unfreed c =
    on_ok c.take_rest.result _ (λ keep. turned_held c.args.pairs.now c.take_rest.new.pairs c.args.self.now c.take_rest.ensures.stays keep)

pub returns-in-None-clause-told : goal.returns-in-None-clause-told
returns-in-None-clause-told c =
    ok_then c.take_rest.result _ _ (λ takes tells. rest_tells c.args.lan.now c.take_rest.new.lan c.args.self.now takes tells) c.take_rest.ensures.takes

pub returns-in-None-clause-said : goal.returns-in-None-clause-said
returns-in-None-clause-said c =
    let over : length c.args.self.now.lines.now ≤ c.args.self.now.at = over_by c.args.self.now.at (length c.args.self.now.lines.now) (sym c.get.ensures.lookup.0 ∙ ap is_some c.in-None.is) in
    ok_then c.take_rest.result _ _ (λ gives no is.
    over_told c.args.pairs.now c.take_rest.new.pairs c.args.self.now (slice_get_past c.args.self.now.lines.now c.args.self.now.at over) c.requires.script.seats c.take_rest.ensures.driven gives c.take_rest.ensures.values c.take_rest.ensures.calm c.take_rest.ensures.stays_shut is)
    c.take_rest.ensures.gives

pub returns-in-None-clause-out : goal.returns-in-None-clause-out
returns-in-None-clause-out c =
    let over : length c.args.self.now.lines.now ≤ c.args.self.now.at = over_by c.args.self.now.at (length c.args.self.now.lines.now) (sym c.get.ensures.lookup.0 ∙ ap is_some c.in-None.is) in
    ok_more c.take_rest.result _ _
    (λ moved rests is no told. none_out c.take_rest.new.pairs c.args.self.now (slice_get_past c.args.self.now.lines.now c.args.self.now.at over))
    c.take_rest.ensures.quiet

pub returns-in-None-clause-opened : goal.returns-in-None-clause-opened
returns-in-None-clause-opened c =
    let over : length c.args.self.now.lines.now ≤ c.args.self.now.at = over_by c.args.self.now.at (length c.args.self.now.lines.now) (sym c.get.ensures.lookup.0 ∙ ap is_some c.in-None.is) in
    ok_more c.take_rest.result _ _
    (λ moved rests is. none_held c.args.pairs.now c.take_rest.new.pairs c.args.self.now (slice_get_past c.args.self.now.lines.now c.args.self.now.at over))
    c.take_rest.ensures.quiet

pub returns-in-None-clause-ports : goal.returns-in-None-clause-ports
returns-in-None-clause-ports c =
    ok_more c.take_rest.result _ _
    (λ moved rests is over.
    subst (λ (seats : List Seat). PortsRest c.args.self.now.partition seats c.args.lan.now c.take_rest.new.lan) c.deref.ensures.value (rests is))
    c.take_rest.ensures.ports

pub returns-in-Some-clause-ports : goal.returns-in-Some-clause-ports
returns-in-Some-clause-ports c = ok_more c.step.result _ _ (λ moved left is over. absurd (left is over)) c.step.ensures.quiet

pub returns-in-None-clause-logged : goal.returns-in-None-clause-logged
returns-in-None-clause-logged c =
    ok_then c.take_rest.result (AllGive c.args.pairs.now c.take_rest.new.pairs) _ (λ gives copies made is. record {
      strokes = logs_still copies c.args.pairs.now c.take_rest.new.pairs c.args.self.now (driven_stay c.args.pairs.now c.take_rest.new.pairs c.take_rest.ensures.driven)
          (keep_gives c.args.pairs.now c.take_rest.new.pairs gives) c.take_rest.ensures.lays is.strokes;
      calls = calls_still c.args.pairs.now c.take_rest.new.pairs c.args.self.now (driven_stay c.args.pairs.now c.take_rest.new.pairs c.take_rest.ensures.driven) c.take_rest.ensures.lays is.calls;
    })
    c.take_rest.ensures.gives

pub returns-in-None-clause-plainly : goal.returns-in-None-clause-plainly
returns-in-None-clause-plainly c =
    let over : length c.args.self.now.lines.now ≤ c.args.self.now.at = over_by c.args.self.now.at (length c.args.self.now.lines.now) (sym c.get.ensures.lookup.0 ∙ ap is_some c.in-None.is) in
    ok_then c.take_rest.result _ _
    (λ both.
    rests_plainly c.args.pairs.now c.take_rest.new.pairs c.args.self.now (slice_get_past c.args.self.now.lines.now c.args.self.now.at over) c.requires.script.seats c.take_rest.ensures.driven both.0 both.1)
    (ok_pair c.take_rest.result _ _ c.take_rest.ensures.plainly c.take_rest.ensures.gives)

pub returns-in-None-clause-quiets : goal.returns-in-None-clause-quiets
returns-in-None-clause-quiets c =
    let over : length c.args.self.now.lines.now ≤ c.args.self.now.at = over_by c.args.self.now.at (length c.args.self.now.lines.now) (sym c.get.ensures.lookup.0 ∙ ap is_some c.in-None.is) in
    ok_more c.take_rest.result _ _
    (λ moved rests is. rests_quietly c.args.pairs.now c.take_rest.new.pairs c.args.self.now (slice_get_past c.args.self.now.lines.now c.args.self.now.at over))
    c.take_rest.ensures.quiet

pub returns-in-None-clause-acts : goal.returns-in-None-clause-acts
returns-in-None-clause-acts c =
    let over : length c.args.self.now.lines.now ≤ c.args.self.now.at = over_by c.args.self.now.at (length c.args.self.now.lines.now) (sym c.get.ensures.lookup.0 ∙ ap is_some c.in-None.is) in
    goes_none c.take_rest.result c.args.pairs.now c.take_rest.new.pairs c.args.self.now (slice_get_past c.args.self.now.lines.now c.args.self.now.at over) c.take_rest.ensures.acts
    c.take_rest.ensures.plainly c.take_rest.ensures.gives

pub returns-in-Some-clause-acts : goal.returns-in-Some-clause-acts
returns-in-Some-clause-acts c =
    let found : slice_get c.args.self.now.lines.now c.args.self.now.at ≡ Some c.in-Some.line.now =
    slice_get_read c.args.self.now.lines.now (length c.args.self.now.lines.now) c.args.self.now.at c.in-Some.line.now refl
    (less_by c.args.self.now.at (length c.args.self.now.lines.now) (sym c.in-Some.ensures.lookup.0)) c.in-Some.ensures.lookup.1 in
    goes_some c.step.result c.in-Some.line.now c.args.pairs.now c.step.new.pairs c.args.self.now c.step.new.self found c.step.ensures.acts
