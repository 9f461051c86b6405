use Rattle.std.proofs.Common.{rules, ap, slice_index}
use Rattle.tce_window.specs.PortState.{PortPlace}
use Rattle.shared_window.specs.SharedWindow.{IsIdleAt, WindowSeatValue}
use Rattle.shared_window.proofs.WindowLaws.{guest_stays}
use Rattle.shared_tests.proofs.rows.between.Goals as goal

pub returns-clause-a : goal.returns-clause-a
returns-clause-a c =
    let place = c.copy_rdma-answer.ensures.source.place in
    let same = ap (λ (p : PortPlace). slice_index p.lenders 0) place in
    let new : WindowSeatValue = c.copy_rdma-answer.new.src.guest.now in
    let idle : IsIdleAt c.args.first.now new = record {
      at = guest_stays c.args.first.now c.copy_rdma-answer.new.src.window.now c.args.a.now new _ _ place c.copy_rdma-answer.new.src.ours;
      free = c.copy_rdma-answer.ensures.source.free;
    } in
    search (rules, same, idle)

pub returns-clause-b : goal.returns-clause-b
returns-clause-b c =
    let place = c.copy_rdma-answer.ensures.target.place in
    let same = ap (λ (p : PortPlace). slice_index p.lenders 0) place in
    let new : WindowSeatValue = c.copy_rdma-answer.new.dst.guest.now in
    let idle : IsIdleAt c.args.second.now new = record {
      at = guest_stays c.args.second.now c.copy_rdma-answer.new.dst.window.now c.args.b.now new _ _ place c.copy_rdma-answer.new.dst.ours;
      free = c.copy_rdma-answer.ensures.target.free;
    } in
    search (rules, same, idle)
