use Rattle.block_server.proofs.CopyKinds.{apart_still}
use Rattle.block_server.proofs.UnitBytes.{fetches_to}
use Rattle.block_server.proofs.FirstPages.{on_error}
use Rattle.std.proofs.Common.{◌∙◌, arith}
use Rattle.block_server.proofs.FirstPages.{fetches_same, queue_stays}
use Rattle.block_server.proofs.Advancing.{advances_on}
use Rattle.std.proofs.Common.{ap}
use Rattle.block_server.specs.Ranges.{seen_in}
use Rattle.block_server.proofs.UnitBytes.{fetched_table_whole}
use Rattle.block_server.proofs.ports.PortsSite.fetch_table.Goals as goal

pub returns-clause-advances : goal.returns-clause-advances
returns-clause-advances g c = advances_on _ _ _ c.copy_in.ensures.advances c.read_own.ensures.advances

pub returns-clause-passes : goal.returns-clause-passes
returns-clause-passes g c =
    queue_stays _ _ (c.read_own.ensures.queue ∙ c.copy_in.ensures.queue) (c.read_own.ensures.own.place ∙ c.copy_in.ensures.advances.own_place)
    (fetches_same _ _ _ c.read_own.ensures.copies ∙ c.copy_in.ensures.behind (omega arith))

pub returns-in_err-copy_in-clause-passes : goal.returns-in_err-copy_in-clause-passes
returns-in_err-copy_in-clause-passes g c =
    queue_stays _ _ c.copy_in.ensures.queue c.copy_in.ensures.advances.own_place (c.copy_in.ensures.behind (omega arith))

pub returns-clause-fetched : goal.returns-clause-fetched
returns-clause-fetched g c =
    fetches_to g.O.WindowPort.is_shared _ _ _ _ 1 _ _ _ _ _ (omega arith) (omega arith) c.args.self.now.alone c.args.self.now.ready.first
    (omega arith) (omega arith) (omega arith)
    c.in_ok-copy_in.ensures.made c.read_own.ensures.own c.read_own.ensures.read c.read_own.ensures.client c.read_own.ensures.copies (omega arith)
    (apart_still _ _ _ c.copy_in.ensures.advances.client_place c.args.self.now.ready.apart)

pub returns-in_err-copy_in-clause-none : goal.returns-in_err-copy_in-clause-none
returns-in_err-copy_in-clause-none g c = on_error _ _ c.in_err-copy_in.ensures.none

pub returns-clause-known : goal.returns-clause-known
returns-clause-known g c = ap (seen_in g.R.WindowPort.is_shared) c.read_own.ensures.client ∙ c.copy_in.ensures.known

pub returns-clause-whole : goal.returns-clause-whole
returns-clause-whole g c =
    fetched_table_whole g.O.WindowPort.is_shared _ _ _ _ _ 1 _ _ _ _ _ _ (omega arith) (omega arith) c.args.self.now.alone c.args.self.now.ready.first
    (omega arith) (omega arith) (omega arith) c.in_ok-copy_in.ensures.made c.read_own.ensures.own c.read_own.ensures.read c.read_own.ensures.client
