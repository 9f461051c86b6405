use Rattle.block_server.proofs.CopyKinds.{apart_still, same_count, same_pages, unit_uncounted}
use Rattle.block_server.proofs.Owning.{same_first}
use Rattle.std.proofs.Common.{arith, ◌∙◌}
use Rattle.block_server.proofs.DataCopies.{unit_leaves}
use Rattle.block_server.proofs.DataPages.{none_data, read_data}
use Rattle.block_server.proofs.FirstPages.{fetches_same, on_error, queue_stays}
use Rattle.block_server.proofs.UnitBytes.{fetched_whole, fetches_one}
use Rattle.block_server.proofs.Advancing.{advances_on}
use Rattle.block_server.proofs.Reading.{stays_known}
use Rattle.block_server.proofs.ports.PortsSite.fetch_unit.Goals as goal

pub returns-clause-advances : goal.returns-clause-advances
returns-clause-advances g c = advances_on _ _ _ c.copy_in.ensures.advances c.read_own.ensures.advances

pub returns-clause-fetched : goal.returns-clause-fetched
returns-clause-fetched g c =
    fetches_one g.O.WindowPort.is_shared _ _ _ _ _ _ _ _ c.args.self.now.alone c.args.self.now.ready.first (omega arith) (omega arith) (omega arith)
    c.in_ok-copy_in.ensures.made c.read_own.ensures.own c.read_own.ensures.read c.read_own.ensures.client c.read_own.ensures.copies

pub returns-in_err-copy_in-clause-missed : goal.returns-in_err-copy_in-clause-missed
returns-in_err-copy_in-clause-missed g c =
    on_error _ _ (queue_stays _ _ c.copy_in.ensures.queue c.copy_in.ensures.advances.own_place (fetches_same _ _ _ c.in_err-copy_in.ensures.none))

pub returns-clause-data : goal.returns-clause-data
returns-clause-data g c =
    same_pages _ _ _ _
    (read_data _ _ _ c.args.self.now.alone c.read_own.ensures.own
    ∙ unit_leaves _ _ _ _ _ _ _ _ _ c.args.self.now.alone c.args.self.now.ready.first (omega arith) c.in_ok-copy_in.ensures.made)
    (c.read_own.ensures.own.place ∙ c.copy_in.ensures.advances.own_place)
    (same_count _ _ _ c.read_own.ensures.copies
    ∙ unit_uncounted _ _ _ _ _ _ _ _ (same_first _ _ _ c.args.self.now.alone c.in_ok-copy_in.ensures.made.rest c.args.self.now.ready.first) (omega arith) (omega arith)
    c.in_ok-copy_in.ensures.made.rest.place (apart_still _ _ _ c.copy_in.ensures.advances.client_place c.args.self.now.ready.apart) c.in_ok-copy_in.ensures.made)

pub returns-in_err-copy_in-clause-data : goal.returns-in_err-copy_in-clause-data
returns-in_err-copy_in-clause-data g c =
    same_pages _ _ _ _ (none_data _ _ _ c.args.self.now.alone c.in_err-copy_in.ensures.laid) c.copy_in.ensures.advances.own_place (same_count _ _ _ c.in_err-copy_in.ensures.none)

pub returns-clause-whole : goal.returns-clause-whole
returns-clause-whole g c =
    fetched_whole g.O.WindowPort.is_shared _ _ _ _ _ _ _ _ _ _ c.args.self.now.alone c.args.self.now.ready.first (omega arith) (omega arith) (omega arith)
    c.in_ok-copy_in.ensures.made c.read_own.ensures.own c.read_own.ensures.read c.read_own.ensures.client

pub returns-clause-client : goal.returns-clause-client
returns-clause-client g c = λ alone. stays_known _ _ _ (c.copy_in.ensures.client alone) c.read_own.ensures.client

pub returns-in_err-copy_in-clause-client : goal.returns-in_err-copy_in-clause-client
returns-in_err-copy_in-clause-client g c = λ alone. c.copy_in.ensures.client alone
