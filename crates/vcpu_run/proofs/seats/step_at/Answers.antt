use Rattle.std.proofs.Common.{refl}
use Rattle.vcpu_run.proofs.Unfreed.{frees_set}
use Rattle.std.proofs.lemmas.Option.{slice_get-get_or}
use Rattle.vcpu_run.proofs.Agreeing.{set_credit, set_others}
use Rattle.vcpu_run.proofs.Driving.{driven_set, some_there}
use Rattle.vcpu_run.proofs.Opening.{set_open}
use Rattle.vcpu_run.proofs.ClientRecords.{seat_stepped}
use Rattle.vcpu_run.proofs.ClientsLay.{own_lay_set}
use Rattle.vcpu_run.proofs.SeatsTold.{set_out, set_told}
use Rattle.vcpu_run.proofs.PlainSeats.{seat_plainly}
use Rattle.vcpu_run.proofs.ActsPairs.{seat_acts}
use Rattle.vcpu_run.proofs.seats.step_at.Goals as goal

pub step-requires-clause-driver : goal.step-requires-clause-driver
step-requires-clause-driver c = some_there _ _ _ (slice_get-get_or c.args.pairs.now c.args.pair _ c.requires.there) c.requires.client

pub returns-clause-driven : goal.returns-clause-driven
returns-clause-driven c = driven_set c.args.pairs.now c.args.pair _ c.step.new.pair (slice_get-get_or c.args.pairs.now c.args.pair _ c.requires.there) c.step.ensures.drives

pub returns-clause-credit : goal.returns-clause-credit
returns-clause-credit c = record {
  others = set_others c.args.pairs.now c.args.pair c.step.new.pair;
  credit = set_credit _ c.args.pairs.now c.args.pair _ c.step.new.pair (slice_get-get_or c.args.pairs.now c.args.pair _ c.requires.there) c.step.ensures.credit;
}

pub returns-clause-stays : goal.returns-clause-stays
returns-clause-stays c =
    frees_set _ c.args.pairs.now c.args.pair _ c.step.new.pair (slice_get-get_or c.args.pairs.now c.args.pair _ c.requires.there) (λ here. c.step.ensures.stays (here refl))

pub returns-clause-said : goal.returns-clause-said
returns-clause-said c =
    set_told c.args.line.now c.args.progress.now c.step.new.progress c.step.result c.args.pairs.now c.args.pair _ c.step.new.pair
    (slice_get-get_or c.args.pairs.now c.args.pair _ c.requires.there) c.step.ensures.said c.step.ensures.takes c.step.ensures.hears c.step.ensures.reads c.step.ensures.puts c.step.ensures.makes c.step.ensures.gives c.step.ensures.shows

pub returns-clause-out : goal.returns-clause-out
returns-clause-out c =
    set_out c.args.line.now.verb c.args.progress.now c.step.new.progress c.step.result c.args.pairs.now c.args.pair _ c.step.new.pair
    (slice_get-get_or c.args.pairs.now c.args.pair _ c.requires.there) c.step.ensures.out

pub returns-clause-registered : goal.returns-clause-registered
returns-clause-registered c =
    set_open c.args.line.now.verb c.step.new.progress c.step.result c.args.pairs.now c.args.pair _ c.step.new.pair
    (slice_get-get_or c.args.pairs.now c.args.pair _ c.requires.there) c.step.ensures.registered

pub returns-clause-lays : goal.returns-clause-lays
returns-clause-lays c =
    own_lay_set c.args.line.now.number c.args.pairs.now c.args.pair _ c.step.new.pair (slice_get-get_or c.args.pairs.now c.args.pair _ c.requires.there) c.step.ensures.lays

pub returns-clause-region : goal.returns-clause-region
returns-clause-region c =
    seat_stepped c.args.line.now c.step.result c.args.pairs.now c.args.pair _ c.step.new.pair (slice_get-get_or c.args.pairs.now c.args.pair _ c.requires.there) c.step.ensures.region

pub returns-clause-plainly : goal.returns-clause-plainly
returns-clause-plainly c =
    seat_plainly c.args.line.now.verb c.args.progress.now c.step.new.progress c.step.result c.args.pairs.now c.args.pair _ c.step.new.pair
    (slice_get-get_or c.args.pairs.now c.args.pair _ c.requires.there) c.step.ensures.plainly

pub returns-clause-acts : goal.returns-clause-acts
returns-clause-acts c =
    seat_acts c.args.line.now c.args.progress.now c.step.new.progress c.step.result c.args.pairs.now c.args.pair _ c.step.new.pair
    (slice_get-get_or c.args.pairs.now c.args.pair _ c.requires.there) c.step.ensures.acts c.step.ensures.still c.step.ensures.lawful
