use Rattle.std.proofs.lemmas.Option.{slice_get-get_or}
use Rattle.vcpu_run.proofs.ClientsLay.{lays_kept, none_lay_set}
use Rattle.vcpu_run.proofs.ValuesKept.{values_set}
use Rattle.vcpu_run.proofs.Agreeing.{set_all, set_beside}
use Rattle.vcpu_run.proofs.Driving.{driven_set, some_there}
use Rattle.vcpu_run.proofs.GivesAll.{all_give_ok}
use Rattle.vcpu_run.proofs.CalmTurns.{shut_set}
use Rattle.vcpu_run.proofs.FailedShut.{off_set}
use Rattle.vcpu_run.proofs.PlainSeats.{all_fail_ok}
use Rattle.vcpu_run.proofs.Resting.{ok_more}
use Rattle.vcpu_run.specs.ActsAt.{FailsOnce}
use Rattle.vcpu_run.proofs.ActsPairs.{all_lead_ok}
use Rattle.vcpu_run.proofs.seats.fail_of.Goals as goal

pub fail-requires : goal.fail-requires
fail-requires c = some_there _ _ _ (slice_get-get_or c.args.pairs.now c.args.pair _ c.requires.there) c.requires.client

pub returns-clause-driven : goal.returns-clause-driven
returns-clause-driven c = driven_set c.args.pairs.now c.args.pair _ c.fail.new.pair (slice_get-get_or c.args.pairs.now c.args.pair _ c.requires.there) c.fail.ensures.drives

pub returns-clause-credit : goal.returns-clause-credit
returns-clause-credit c = set_all c.args.pairs.now c.args.pair _ c.fail.new.pair (slice_get-get_or c.args.pairs.now c.args.pair _ c.requires.there) c.fail.ensures.credit

pub returns-clause-others : goal.returns-clause-others
returns-clause-others c = set_beside c.args.pairs.now c.args.pair c.fail.new.pair

pub returns-clause-gives : goal.returns-clause-gives
returns-clause-gives c =
    all_give_ok c.fail.result c.args.pairs.now c.args.pair _ c.fail.new.pair (slice_get-get_or c.args.pairs.now c.args.pair _ c.requires.there) c.fail.ensures.gives

pub returns-clause-values : goal.returns-clause-values
returns-clause-values c =
    values_set c.args.pairs.now c.args.pair _ c.fail.new.pair (slice_get-get_or c.args.pairs.now c.args.pair _ c.requires.there) c.fail.ensures.values

pub returns-clause-shut : goal.returns-clause-shut
returns-clause-shut c = shut_set c.args.pairs.now c.args.pair _ c.fail.new.pair (slice_get-get_or c.args.pairs.now c.args.pair _ c.requires.there) c.fail.ensures.shuts

pub returns-clause-lays : goal.returns-clause-lays
returns-clause-lays c =
    none_lay_set c.args.pairs.now c.args.pair _ c.fail.new.pair (slice_get-get_or c.args.pairs.now c.args.pair _ c.requires.there) (lays_kept _ c.fail.new.pair c.fail.ensures.window)

pub returns-clause-down : goal.returns-clause-down
returns-clause-down c = ok_more c.fail.result _ _ (λ done off is. off_set c.args.pairs.now c.args.pair c.fail.new.pair c.requires.there (off is)) c.fail.ensures.down

pub returns-clause-plainly : goal.returns-clause-plainly
returns-clause-plainly c =
    all_fail_ok c.fail.result c.args.pairs.now c.args.pair _ c.fail.new.pair (slice_get-get_or c.args.pairs.now c.args.pair _ c.requires.there) c.fail.ensures.plainly

pub returns-clause-acts : goal.returns-clause-acts
returns-clause-acts c =
    all_lead_ok FailsOnce c.fail.result c.args.pairs.now c.args.pair _ c.fail.new.pair (slice_get-get_or c.args.pairs.now c.args.pair _ c.requires.there) c.fail.ensures.acts
