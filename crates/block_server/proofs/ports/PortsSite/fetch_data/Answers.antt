use Rattle.block_server.proofs.CopyKinds.{apart_still, err_pages}
use Rattle.tce_window.proofs.Laws.{on_ok_map}
use Rattle.block_server.proofs.DataFetches.{fetches_part, on_err_map}
use Rattle.block_server.proofs.DataPages.{none_data}
use Rattle.std.proofs.Common.{arith}
use Rattle.block_server.proofs.FirstPages.{queue_stays}
use Rattle.block_server.proofs.ports.PortsSite.fetch_data.Goals as goal

pub returns-clause-passes : goal.returns-clause-passes
returns-clause-passes g c = queue_stays _ _ c.copy_in.ensures.queue c.copy_in.ensures.advances.own_place (c.copy_in.ensures.behind (omega arith))

pub returns-clause-brought : goal.returns-clause-brought
returns-clause-brought g c =
    on_ok_map c.copy_in.result _ _
    (λ made. fetches_part g.O.WindowPort.is_shared _ _ _ c.args.at c.from.result c.args.len c.from-2.result c.from.ensures c.from-2.ensures c.args.self.now.alone c.args.self.now.ready.first
    (apart_still _ _ _ c.copy_in.ensures.advances.client_place c.args.self.now.ready.apart) (omega arith) (omega arith) made) c.copy_in.ensures.made

pub returns-clause-kept : goal.returns-clause-kept
returns-clause-kept g c =
    err_pages c.copy_in.result _ _ _ _ c.copy_in.ensures.advances.own_place (on_err_map c.copy_in.result _ _ (λ none. none_data _ _ _ c.args.self.now.alone none) c.copy_in.ensures.laid)
    c.copy_in.ensures.none
