use Rattle.std.proofs.Common.{arith, refl}
use Rattle.rdma_copy.proofs.Laws.{side_same}
use Rattle.rdma_copy.specs.Copies.{side_of}
use Rattle.block_server.proofs.Advancing.{copies_none, later_same}
use Rattle.block_server.proofs.NamedWindows.{write_named}
use Rattle.block_server.proofs.OwnerNames.{owner_same}
use Rattle.block_server.proofs.Windows.{windows_move, write_grows}
use Rattle.block_server.proofs.ports.Ports.write_own.Goals as goal

pub returns-in-Ok-clause-advances : goal.returns-in-Ok-clause-advances
returns-in-Ok-clause-advances g c =
    windows_move _ _ _ _ _ _ _ _ _ c.write.ensures.rest.place refl (λ e. later_same g.R.WindowPort.is_shared _)
    (write_grows _ _ _ _ _ _ c.write.result c.write.ensures.ok c.write.ensures.err c.write.ensures.rest)
    (side_same (side_of (g.R.WindowPort.state c.args.self.now.client.now))) (copies_none _ _ _ _ refl) c.write.ensures.rest.in_use (omega arith)
    (λ alone. owner_same (side_of (g.R.WindowPort.state c.args.self.now.client.now))) (λ alone is. is)
    (write_named _ _ _ _ _ _ c.write.result _ c.args.self.now.alone c.write.ensures.ok c.write.ensures.err c.write.ensures.rest)

pub returns-in-Err-clause-advances : goal.returns-in-Err-clause-advances
returns-in-Err-clause-advances g c =
    windows_move _ _ _ _ _ _ _ _ _ c.write.ensures.rest.place refl (λ e. later_same g.R.WindowPort.is_shared _)
    (write_grows _ _ _ _ _ _ c.write.result c.write.ensures.ok c.write.ensures.err c.write.ensures.rest)
    (side_same (side_of (g.R.WindowPort.state c.args.self.now.client.now))) (copies_none _ _ _ _ refl) c.write.ensures.rest.in_use (omega arith)
    (λ alone. owner_same (side_of (g.R.WindowPort.state c.args.self.now.client.now))) (λ alone is. is)
    (write_named _ _ _ _ _ _ c.write.result _ c.args.self.now.alone c.write.ensures.ok c.write.ensures.err c.write.ensures.rest)
