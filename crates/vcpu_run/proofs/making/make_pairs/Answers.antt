use Rattle.std.proofs.Common.{◌≡◌, ◌<◌, ℕ, [], ◌∷◌, ◌++◌, Some, None, length, nat_lt, true, false, refl, sym, ◌∙◌, ap, subst, arith, length-append}
use Rattle.std.specs.List.{slice_get, slice_index_or}
use Rattle.std.proofs.lemmas.Option.{slice_get-get_or, slice_get_past, slice_get_read}
use Rattle.std.specs.Option.{is_some}
use Rattle.boot_text.specs.SoFar.{is_server}
use Rattle.boot_text.specs.Sound.{unit_in}
use Rattle.boot_text.specs.declared.plan.Partition.{Partition}
use Rattle.boot_text.specs.declared.plan.UnitPlan.TheVariants as kinds
use Rattle.vcpu_run.specs.declared.pair.Pair.{Pair}
use Rattle.vcpu_run.specs.Agreed.{IsLoggedOut}
use Rattle.vcpu_run.specs.Answered.{IsAnswered}
use Rattle.vcpu_run.specs.Links.{IsClosed}
use Rattle.vcpu_run.specs.Machines.{ArePlanned, IsPlanned}
use Rattle.vcpu_run.specs.Pairs.{ArePairs, IsPair}
use Rattle.vcpu_run.specs.PlainPairs.{OpensPlainly}
use Rattle.vcpu_run.specs.Received.{IsNew}
use Rattle.vcpu_run.proofs.Booted.{planned_all, planned_none}
use Rattle.vcpu_run.proofs.Homes.{all_at, home_serves}
use Rattle.vcpu_run.proofs.Showing.{is_less, is_past}
use Rattle.vcpu_run.proofs.Listed.{each_pushed}
use Rattle.vcpu_run.proofs.making.make_pairs.Goals as goal

pub loop-place-preserved : goal.loop-place-preserved
loop-place-preserved c =
    let before = c.loop-place.invariant in
    let items = c.loop-place.pairs.items in
    let pair = c.in_ok-make_pair.field-0 in
    let partitions = c.args.partitions.now in
    let push : c.push.new.self.items ≡ items ++ pair ∷ [] = c.in_ok-push.ensures.items in
    let planned : ℕ → Pair → Type 0 = λ k pair. IsPlanned partitions k pair in
    let whole : ℕ → Pair → Type 0 = λ k pair. IsPair c.args.home [] k pair in
    record {
      count = omega (arith, ap length push, length-append items (pair ∷ []), before.count);
      are = λ k other found. each_pushed whole items pair before.are
          (subst (λ n. whole n pair) (sym before.count) c.in_ok-make_pair.ensures.pair) k other (rw push at found);
      planned = λ k other found. each_pushed planned items pair before.planned
          (subst (λ n. planned n pair) (sym before.count) c.in_ok-make_pair.ensures.planned) k other (rw push at found);
      out = λ k other found. each_pushed (λ k pair. IsLoggedOut pair) items pair before.out c.in_ok-make_pair.ensures.out k other (rw push at found);
      answered = λ k other found. each_pushed (λ k pair. IsAnswered [] pair) items pair before.answered c.in_ok-make_pair.ensures.answered k other (rw push at found);
      closed = λ k other found. each_pushed (λ k pair. IsClosed pair) items pair before.closed c.in_ok-make_pair.ensures.closed k other (rw push at found);
      fresh = λ k other found. each_pushed (λ k pair. IsNew pair) items pair before.fresh c.in_ok-make_pair.ensures.fresh k other (rw push at found);
      opens = λ k other found. each_pushed (λ k pair. OpensPlainly pair) items pair before.opens c.in_ok-make_pair.ensures.opens k other (rw push at found);
    }

pub returns-in_default-clause-planned : goal.returns-in_default-clause-planned
returns-in_default-clause-planned c =
    let partitions = c.args.partitions.now in
    let past : nat_lt c.args.home (length partitions) ≡ false = sym c.get.ensures.lookup.0 ∙ ap is_some c.in_default.is in
    let none : slice_get partitions c.args.home ≡ None = slice_get_past partitions c.args.home (is_past c.args.home (length partitions) past) in
    subst (ArePlanned partitions) (sym c.new-pairs.ensures.items)
    (planned_none partitions c.requires.sound (ap (slice_get partitions) (sym c.requires.home) ∙ none))

pub queue_of-requires : goal.queue_of-requires
queue_of-requires c =
    let partitions = c.args.partitions.now in
    let partition : Partition = c.in-Some.partition.now in
    let found : slice_get partitions c.args.home ≡ Some partition =
    slice_get_read partitions (length partitions) c.args.home partition refl (is_less c.args.home (length partitions) (sym c.in-Some.ensures.lookup.0)) c.in-Some.ensures.lookup.1 in
    let own = home_serves partitions partition c.requires.sound (ap (slice_get partitions) (sym c.requires.home) ∙ found) in
    let size : length c.as_slice-unit-items.result.now ≡ length partition.units = ap length c.as_slice-unit-items.ensures in
    let less : c.loop-place.place < length partition.units = omega (arith, size) in
    subst (λ units. is_server (slice_index_or units c.loop-place.place (kinds.Server 0)) ≡ true) (sym c.as_slice-unit-items.ensures)
    (all_at (λ unit. is_server unit ≡ true) partition.units c.loop-place.place _ own (slice_get-get_or partition.units c.loop-place.place (kinds.Server 0) less))

pub make_pair-requires-clause-planned : goal.make_pair-requires-clause-planned
make_pair-requires-clause-planned c =
    let partitions = c.args.partitions.now in
    let partition : Partition = c.in-Some.partition.now in
    let place = c.loop-place.place in
    let found : slice_get partitions c.args.home ≡ Some partition =
    slice_get_read partitions (length partitions) c.args.home partition refl (is_less c.args.home (length partitions) (sym c.in-Some.ensures.lookup.0)) c.in-Some.ensures.lookup.1 in
    let size : length c.as_slice-unit-items.result.now ≡ length partition.units = ap length c.as_slice-unit-items.ensures in
    let less : place < length partition.units = omega (arith, size) in
    let unit : slice_index_or partition.units place (kinds.Server 0) ≡ kinds.Server c.queue_of.result =
    subst (λ units. slice_index_or units place (kinds.Server 0) ≡ kinds.Server c.queue_of.result) c.as_slice-unit-items.ensures c.queue_of.ensures in
    ap (λ slot. unit_in slot place) found ∙ (slice_get-get_or partition.units place (kinds.Server 0) less ∙ ap Some unit)

pub returns-clause-planned : goal.returns-clause-planned
returns-clause-planned c =
    let partitions = c.args.partitions.now in
    let partition : Partition = c.in-Some.partition.now in
    let found : slice_get partitions c.args.home ≡ Some partition =
    slice_get_read partitions (length partitions) c.args.home partition refl (is_less c.args.home (length partitions) (sym c.in-Some.ensures.lookup.0)) c.in-Some.ensures.lookup.1 in
    let size : length c.as_slice-unit-items.result.now ≡ length partition.units = ap length c.as_slice-unit-items.ensures in
    let before = c.loop-place.invariant in
    let count : length c.loop-place.pairs.items ≡ length partition.units = omega (arith, size, before.count) in
    planned_all partitions partition c.loop-place.pairs.items c.requires.sound (ap (slice_get partitions) (sym c.requires.home) ∙ found) count
    (subst (λ home. ArePairs home [] c.loop-place.pairs.items) c.requires.home before.are) before.planned
