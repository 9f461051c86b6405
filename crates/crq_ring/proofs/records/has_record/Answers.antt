use Rattle.crq_ring.proofs.Dropping.{recorded_by, recorded_in_order, recorded_first, recorded_first_in_order, no_last}
use Rattle.std.proofs.Common.{sym}
use Rattle.crq_ring.proofs.records.has_record.Goals as goal

pub returns-in-Some-clause-records : goal.returns-in-Some-clause-records
returns-in-Some-clause-records c =
    let item = c.in-Some.ensures.item in
    recorded_by c.args.drops.now c.args.row.now c.in-Some.last.now c.is_same_number.result
    c.requires.in_order c.requires.last item.3.0 (λ d. sym (item.3.1 d)) (sym c.is_same_number.ensures)

pub returns-in-Some-clause-in_order : goal.returns-in-Some-clause-in_order
returns-in-Some-clause-in_order c =
    let item = c.in-Some.ensures.item in
    recorded_in_order c.args.drops.now c.args.row.now c.in-Some.last.now c.is_same_number.result
    c.requires.in_order c.requires.last item.3.0 (λ d. sym (item.3.1 d)) (sym c.is_same_number.ensures)

pub returns-in-None-clause-records : goal.returns-in-None-clause-records
returns-in-None-clause-records c =
    recorded_first c.args.drops.now c.args.row.now (no_last c.args.drops.now c.in-None.ensures.value)

pub returns-in-None-clause-in_order : goal.returns-in-None-clause-in_order
returns-in-None-clause-in_order c =
    recorded_first_in_order c.args.drops.now c.args.row.now (no_last c.args.drops.now c.in-None.ensures.value)
