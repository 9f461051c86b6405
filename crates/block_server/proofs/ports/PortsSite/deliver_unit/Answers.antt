use Rattle.block_server.proofs.CopyKinds.{answer_counted, same_count, same_pages}
use Rattle.block_server.proofs.DataPages.{first_data, none_data}
use Rattle.std.proofs.Common.{arith}
use Rattle.tce_window.proofs.Laws.{on_ok_map}
use Rattle.block_server.proofs.DeliveredBytes.{delivers_one}
use Rattle.std.proofs.Common.{◌∙◌}
use Rattle.block_server.proofs.FirstPages.{fetches_same, none_behind, queue_stays}
use Rattle.block_server.proofs.Advancing.{advances_on}
use Rattle.std.proofs.Common.{ap, length, subst}
use Rattle.tce_window.specs.PortState.{PortState}
use Rattle.block_server.specs.Ranges.{IsRange, LaysIn, seen_in}
use Rattle.block_server.proofs.RangeLaws.{lays_same}
use Rattle.block_server.proofs.Standing.{stands_one}
use Rattle.block_server.proofs.Bearing.{bears_same}
use Rattle.block_server.proofs.BearingParts.{unit_bears}
use Rattle.block_server.proofs.DataFetches.{on_err_map}
use Rattle.rdma_copy.specs.Copies.{MayHold}
use Rattle.tce_window.specs.declared.answers.Right.TheVariants.{Write}
use Rattle.block_server.proofs.ports.PortsSite.deliver_unit.Goals as goal

pub returns-in-Ok-clause-advances : goal.returns-in-Ok-clause-advances
returns-in-Ok-clause-advances g c = advances_on _ _ _ c.write_own.ensures.advances c.copy_out.ensures.advances

pub returns-in-Ok-clause-passes : goal.returns-in-Ok-clause-passes
returns-in-Ok-clause-passes g c =
    queue_stays _ _ (c.copy_out.ensures.queue ∙ c.write_own.ensures.queue) (c.copy_out.ensures.advances.own_place ∙ c.write_own.ensures.own.place)
    (none_behind _ _ _ _ _ c.write_own.ensures.own.place (fetches_same _ _ _ c.write_own.ensures.copies) c.copy_out.ensures.behind)

pub returns-in-Err-clause-passes : goal.returns-in-Err-clause-passes
returns-in-Err-clause-passes g c =
    queue_stays _ _ c.write_own.ensures.queue c.write_own.ensures.own.place (fetches_same _ _ _ c.write_own.ensures.copies)

pub returns-in-Ok-clause-delivered : goal.returns-in-Ok-clause-delivered
returns-in-Ok-clause-delivered g c =
    on_ok_map c.copy_out.result _ _
    (λ made. delivers_one g.O.WindowPort.is_shared g.R.WindowPort.is_shared _ _ _ _ _ _ _ _ _ c.args.self.now.alone c.args.self.now.ready.first
    (omega arith) (omega arith) (omega arith) c.in-Ok.ensures.wrote c.write_own.ensures.own c.write_own.ensures.client c.write_own.ensures.copies
    c.copy_out.ensures.laid c.copy_out.ensures.rest made) c.copy_out.ensures.made

pub returns-in-Ok-clause-data : goal.returns-in-Ok-clause-data
returns-in-Ok-clause-data g c =
    same_pages _ _ _ _
    (none_data _ _ _ c.args.self.now.alone c.copy_out.ensures.laid
    ∙ first_data _ _ _ _ _ c.args.self.now.alone (omega arith) c.in-Ok.ensures.wrote)
    (c.copy_out.ensures.advances.own_place ∙ c.write_own.ensures.own.place)
    (answer_counted c.copy_out.result _ _ _ _ _ _ _ _ _ _ _ _ _ _ c.args.self.now.alone c.args.self.now.ready.first (omega arith) (omega arith) c.write_own.ensures.own c.copy_out.ensures.rest
    c.write_own.ensures.client c.args.self.now.ready.apart c.write_own.ensures.copies c.copy_out.ensures.made c.copy_out.ensures.none)

pub returns-in-Err-clause-data : goal.returns-in-Err-clause-data
returns-in-Err-clause-data g c =
    same_pages _ _ _ _ (none_data _ _ _ c.args.self.now.alone c.in-Err.ensures.laid) c.write_own.ensures.own.place (same_count _ _ _ c.write_own.ensures.copies)

pub returns-in-Ok-clause-wrote : goal.returns-in-Ok-clause-wrote
returns-in-Ok-clause-wrote g c =
    subst (λ (port : PortState). LaysIn (IsRange c.args.address (length c.args.bytes.now)) (seen_in g.R.WindowPort.is_shared port) (seen_in g.R.WindowPort.is_shared (g.R.WindowPort.state c.copy_out.new.self.client.now)))
    c.write_own.ensures.client c.copy_out.ensures.wrote

pub returns-in-Err-clause-wrote : goal.returns-in-Err-clause-wrote
returns-in-Err-clause-wrote g c = lays_same _ _ _ (ap (seen_in g.R.WindowPort.is_shared) c.write_own.ensures.client)

pub returns-in-Ok-clause-laid : goal.returns-in-Ok-clause-laid
returns-in-Ok-clause-laid g c =
    on_ok_map c.copy_out.result _ _
    (λ made. stands_one g.O.WindowPort.is_shared g.R.WindowPort.is_shared _ _ _ _ _ _ _ _ _ _ _ c.args.self.now.alone c.args.self.now.ready.first
    (omega arith) (omega arith) (omega arith) c.in-Ok.ensures.wrote c.write_own.ensures.own c.copy_out.ensures.laid c.copy_out.ensures.rest made) c.copy_out.ensures.made

pub returns-in-Ok-clause-bears : goal.returns-in-Ok-clause-bears
returns-in-Ok-clause-bears g c =
    unit_bears g.O.WindowPort.is_shared _ _ c.args.mark c.args.address _ c.args.bytes.now _ _ _ c.args.self.now.alone (omega arith) c.in-Ok.ensures.wrote
    c.write_own.ensures.own (ap (seen_in g.R.WindowPort.is_shared) c.write_own.ensures.client) c.copy_out.ensures.bears

pub returns-in-Err-clause-bears : goal.returns-in-Err-clause-bears
returns-in-Err-clause-bears g c = bears_same _ _ _ (ap (seen_in g.R.WindowPort.is_shared) c.write_own.ensures.client)

pub returns-in-Ok-clause-missed : goal.returns-in-Ok-clause-missed
returns-in-Ok-clause-missed g c =
    on_err_map c.copy_out.result _ _ (λ same. same ∙ ap (seen_in g.R.WindowPort.is_shared) c.write_own.ensures.client) c.copy_out.ensures.missed

pub returns-in-Err-clause-missed : goal.returns-in-Err-clause-missed
returns-in-Err-clause-missed g c = ap (seen_in g.R.WindowPort.is_shared) c.write_own.ensures.client

pub returns-in-Ok-clause-may : goal.returns-in-Ok-clause-may
returns-in-Ok-clause-may g c =
    on_ok_map c.copy_out.result _ _ (λ may alone. subst (λ (port : PortState). MayHold port Write c.args.address (length c.args.bytes.now)) c.write_own.ensures.client (may alone))
    c.copy_out.ensures.may
