use Rattle.std.proofs.lemmas.Option.{slice_get-get_or}
use Rattle.vcpu_run.proofs.Agreeing.{set_beside, set_same}
use Rattle.vcpu_run.proofs.Driving.{driven_set, get_set_same}
use Rattle.vcpu_run.proofs.Unfreed.{frees_other}
use Rattle.vcpu_run.proofs.ClientsLay.{none_lay_set}
use Rattle.std.proofs.Common.{Option, IfOk, subst, sym}
use Rattle.vcpu_run.specs.declared.pair.Pair.{Pair}
use Rattle.vcpu_run.specs.CallRows.{arguments_for, row_for}
use Rattle.vcpu_run.specs.CallsAnswered.{IsReturned, unit_seen}
use Rattle.vcpu_run.proofs.partition_units.call_at.Goals as goal

pub returns-clause-driven : goal.returns-clause-driven
returns-clause-driven c = driven_set c.args.pairs.now c.args.pair _ c.call.new.pair (slice_get-get_or c.args.pairs.now c.args.pair _ c.requires) c.call.ensures.drives

pub returns-clause-told : goal.returns-clause-told
returns-clause-told c = set_same c.args.pairs.now c.args.pair _ c.call.new.pair (slice_get-get_or c.args.pairs.now c.args.pair _ c.requires) c.call.ensures.driver

pub returns-clause-stays : goal.returns-clause-stays
returns-clause-stays c = frees_other c.args.pairs.now c.args.pair c.call.new.pair

pub returns-clause-others : goal.returns-clause-others
returns-clause-others c = set_beside c.args.pairs.now c.args.pair c.call.new.pair

pub returns-clause-returned : goal.returns-clause-returned
returns-clause-returned c =
    subst (λ (o : Option Pair). IfOk c.call.result (IsReturned (unit_seen o) (row_for c.args.call) (arguments_for c.args.call)))
    (sym (get_set_same c.args.pairs.now c.args.pair c.call.new.pair c.requires)) c.call.ensures.returned

pub returns-clause-lays : goal.returns-clause-lays
returns-clause-lays c = none_lay_set c.args.pairs.now c.args.pair _ c.call.new.pair (slice_get-get_or c.args.pairs.now c.args.pair _ c.requires) c.call.ensures.lays
