use Rattle.std.proofs.Common.{arith, refl}
use Rattle.rdma_copy.proofs.Laws.{side_same}
use Rattle.rdma_copy.specs.Copies.{side_of}
use Rattle.block_server.proofs.Advancing.{copies_none, later_same}
use Rattle.block_server.proofs.NamedWindows.{read_named}
use Rattle.block_server.proofs.OwnerNames.{owner_same}
use Rattle.block_server.proofs.Windows.{read_grows, windows_move}
use Rattle.block_server.proofs.ports.Ports.read_own.Goals as goal

pub returns-clause-advances : goal.returns-clause-advances
returns-clause-advances g c =
    windows_move _ _ _ _ _ _ _ _ _ c.read.ensures.rest.place refl (λ e. later_same g.R.WindowPort.is_shared _)
    (read_grows _ _ _ c.read.ensures.rest)
    (side_same (side_of (g.R.WindowPort.state c.args.self.now.client.now))) (copies_none _ _ _ _ refl) c.read.ensures.rest.in_use (omega arith)
    (λ alone. owner_same (side_of (g.R.WindowPort.state c.args.self.now.client.now))) (λ alone is. is) (read_named _ _ _ _ c.args.self.now.alone c.read.ensures.rest)
