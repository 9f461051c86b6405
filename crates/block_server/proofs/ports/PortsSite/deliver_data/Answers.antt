use Rattle.std.proofs.Common.{arith}
use Rattle.tce_window.proofs.Laws.{on_ok_map}
use Rattle.block_server.proofs.DataCopies.{sends_part}
use Rattle.block_server.proofs.DataPages.{none_data}
use Rattle.block_server.proofs.FirstPages.{queue_stays}
use Rattle.std.proofs.Common.{ℕ, subst}
use Rattle.block_server.specs.Ranges.{IsRange, LaysIn, seen_in}
use Rattle.block_server.proofs.BearingParts.{data_bears}
use Rattle.block_server.proofs.ports.PortsSite.deliver_data.Goals as goal

pub returns-clause-passes : goal.returns-clause-passes
returns-clause-passes g c = queue_stays _ _ c.copy_out.ensures.queue c.copy_out.ensures.advances.own_place c.copy_out.ensures.behind

pub returns-clause-data : goal.returns-clause-data
returns-clause-data g c = none_data _ _ _ c.args.self.now.alone c.copy_out.ensures.laid

pub returns-clause-sent : goal.returns-clause-sent
returns-clause-sent g c =
    on_ok_map c.copy_out.result _ _
    (λ made. sends_part g.O.WindowPort.is_shared g.R.WindowPort.is_shared _ _ c.args.at c.from.result _ c.args.len c.from-2.result _ c.from.ensures c.from-2.ensures c.args.self.now.alone c.args.self.now.ready.first
    c.args.self.now.ready.apart (omega arith) (omega arith) c.copy_out.ensures.rest made) c.copy_out.ensures.made

pub returns-clause-wrote : goal.returns-clause-wrote
returns-clause-wrote g c =
    subst (λ (n : ℕ). LaysIn (IsRange c.args.address n) (seen_in g.R.WindowPort.is_shared (g.R.WindowPort.state c.args.self.now.client.now))
    (seen_in g.R.WindowPort.is_shared (g.R.WindowPort.state c.copy_out.new.self.client.now))) c.from-2.ensures c.copy_out.ensures.wrote

pub returns-clause-bears : goal.returns-clause-bears
returns-clause-bears g c =
    data_bears _ c.args.at c.from.result c.args.address c.args.len c.from-2.result c.args.mark _ _ c.from.ensures c.from-2.ensures c.copy_out.ensures.bears
