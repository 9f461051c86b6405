use Rattle.vcpu_run.specs.Links.{ClientWaits}
use Rattle.vcpu_run.proofs.FailedShut.{stay_set}
use Rattle.vcpu_run.proofs.ClientsLay.{none_lay_set}
use Rattle.vcpu_run.proofs.ValuesKept.{values_set}
use Rattle.vcpu_run.proofs.Resting.{ok_more, rests_set, waits_set}
use Rattle.vcpu_run.proofs.Unfreed.{frees_set}
use Rattle.std.proofs.lemmas.Option.{slice_get-get_or}
use Rattle.vcpu_run.proofs.Agreeing.{set_beside}
use Rattle.vcpu_run.proofs.Driving.{driven_set, some_there}
use Rattle.vcpu_run.proofs.GivesAll.{all_give_ok}
use Rattle.vcpu_run.proofs.CalmTurns.{calm_set}
use Rattle.vcpu_run.proofs.PlainSeats.{all_rest_ok}
use Rattle.vcpu_run.specs.Acts.{TakesRest}
use Rattle.vcpu_run.proofs.ActsPairs.{all_lead_ok}
use Rattle.vcpu_run.proofs.Moving.{handles_set}
use Rattle.vcpu_run.proofs.seats.take_rest_of.Goals as goal

pub take_rest-requires : goal.take_rest-requires
take_rest-requires c = some_there _ _ _ (slice_get-get_or c.args.pairs.now c.args.pair _ c.requires.there) c.requires.client

pub returns-clause-driven : goal.returns-clause-driven
returns-clause-driven c = driven_set c.args.pairs.now c.args.pair _ c.take_rest.new.pair (slice_get-get_or c.args.pairs.now c.args.pair _ c.requires.there) c.take_rest.ensures.drives

pub returns-clause-others : goal.returns-clause-others
returns-clause-others c = set_beside c.args.pairs.now c.args.pair c.take_rest.new.pair

pub returns-clause-still : goal.returns-clause-still
returns-clause-still c =
    ok_more c.take_rest.result _ _
    (λ moved rests is. rests_set c.args.pairs.now c.args.pair _ c.take_rest.new.pair (slice_get-get_or c.args.pairs.now c.args.pair _ c.requires.there) (rests is))
    c.take_rest.ensures.quiet

pub returns-clause-waits : goal.returns-clause-waits
returns-clause-waits c =
    ok_more c.take_rest.result _ _
    (λ moved wait is. waits_set ClientWaits c.args.pairs.now c.args.pair c.take_rest.new.pair c.requires.there (wait is))
    c.take_rest.ensures.waits

pub returns-clause-stays : goal.returns-clause-stays
returns-clause-stays c =
    frees_set _ c.args.pairs.now c.args.pair _ c.take_rest.new.pair (slice_get-get_or c.args.pairs.now c.args.pair _ c.requires.there) (λ always. c.take_rest.ensures.stays)

pub returns-clause-gives : goal.returns-clause-gives
returns-clause-gives c =
    all_give_ok c.take_rest.result c.args.pairs.now c.args.pair _ c.take_rest.new.pair (slice_get-get_or c.args.pairs.now c.args.pair _ c.requires.there) c.take_rest.ensures.gives

pub returns-clause-values : goal.returns-clause-values
returns-clause-values c =
    values_set c.args.pairs.now c.args.pair _ c.take_rest.new.pair (slice_get-get_or c.args.pairs.now c.args.pair _ c.requires.there) c.take_rest.ensures.values

pub returns-clause-calm : goal.returns-clause-calm
returns-clause-calm c = calm_set c.args.pairs.now c.args.pair _ c.take_rest.new.pair (slice_get-get_or c.args.pairs.now c.args.pair _ c.requires.there) c.take_rest.ensures.calm

pub returns-clause-lays : goal.returns-clause-lays
returns-clause-lays c =
    none_lay_set c.args.pairs.now c.args.pair _ c.take_rest.new.pair (slice_get-get_or c.args.pairs.now c.args.pair _ c.requires.there) c.take_rest.ensures.lays

pub returns-clause-stays_shut : goal.returns-clause-stays_shut
returns-clause-stays_shut c =
    stay_set c.args.pairs.now c.args.pair _ c.take_rest.new.pair (slice_get-get_or c.args.pairs.now c.args.pair _ c.requires.there) c.take_rest.ensures.queue

pub returns-clause-plainly : goal.returns-clause-plainly
returns-clause-plainly c =
    all_rest_ok c.take_rest.result c.args.pairs.now c.args.pair _ c.take_rest.new.pair (slice_get-get_or c.args.pairs.now c.args.pair _ c.requires.there) c.take_rest.ensures.plainly

pub returns-clause-acts : goal.returns-clause-acts
returns-clause-acts c =
    all_lead_ok TakesRest c.take_rest.result c.args.pairs.now c.args.pair _ c.take_rest.new.pair (slice_get-get_or c.args.pairs.now c.args.pair _ c.requires.there) c.take_rest.ensures.acts

pub returns-clause-moved : goal.returns-clause-moved
returns-clause-moved c =
    handles_set c.take_rest.result c.args.pairs.now c.args.pair _ c.take_rest.new.pair (slice_get-get_or c.args.pairs.now c.args.pair _ c.requires.there) c.take_rest.ensures.moved
