use Rattle.block_server.proofs.DataCopies.{refused_none}
use Rattle.block_server.proofs.UnitBytes.{lays_none}
use Rattle.std.proofs.Common.{◌++◌, ◌∙◌, ap, arith, refl, sym}
use Rattle.rdma_copy.proofs.Laws.{side_same}
use Rattle.rdma_copy.specs.Copies.{side_of}
use Rattle.block_server.specs.Copied.{copies_in}
use Rattle.block_server.proofs.Advancing.{copies_none, later_same}
use Rattle.block_server.proofs.OwnerNames.{owner_same, owner_unlaid}
use Rattle.block_server.proofs.Windows.{fetch_busy, fetched_more, windows_move, source_grows, target_grows}
use Rattle.block_server.proofs.NamedWindows.{same_named, source_named, target_named}
use Rattle.block_server.proofs.FirstPages.{behind_first, fetches_same, made_in, none_in}
use Rattle.block_server.proofs.Owning.{fetch_denied}
use Rattle.block_server.proofs.Reading.{known_read, known_same}
use Rattle.block_server.proofs.RangeLaws.{read_known}
use Rattle.block_server.proofs.ports.Ports.copy_in.Goals as goal

pub returns-clause-advances : goal.returns-clause-advances
returns-clause-advances g c =
    windows_move _ _ _ _ _ _ _ _ _ c.copy_rdma-answer.ensures.target.place c.copy_rdma-answer.ensures.source.place c.copy_rdma-answer.ensures.source.values
    (target_grows _ _ _ _ _ _ _ _ c.copy_rdma-answer.result c.copy_rdma-answer.ensures.copied c.copy_rdma-answer.ensures.refused c.copy_rdma-answer.ensures.target)
    (source_grows _ _ _ c.copy_rdma-answer.ensures.read c.copy_rdma-answer.ensures.source)
    (fetched_more _ _ _ _ _ _ _ _ c.copy_rdma-answer.result _ _ c.args.self.now.named c.copy_rdma-answer.ensures.target.place c.copy_rdma-answer.ensures.copied
    (c.note.ensures.copies ∙ ap (λ front. front ++ copies_in c.copy_rdma-answer.result) c.reserve.ensures.items)) c.copy_rdma-answer.ensures.target.in_use c.copy_rdma-answer.ensures.source.in_use
    (λ alone. owner_unlaid _ _ _ alone c.copy_rdma-answer.ensures.read)
    (λ alone. source_named _ _ _ _ _ _ _ _ _ _ c.copy_rdma-answer.result _ _ alone c.copy_rdma-answer.ensures.read c.copy_rdma-answer.ensures.source
    c.copy_rdma-answer.ensures.copied c.copy_rdma-answer.ensures.target.place (λ is. c.args.self.now.ready.apart (sym is))
    (c.note.ensures.copies ∙ ap (λ front. front ++ copies_in c.copy_rdma-answer.result) c.reserve.ensures.items))
    (target_named _ _ _ _ _ _ _ _ c.copy_rdma-answer.result _ _ c.args.self.now.alone c.copy_rdma-answer.ensures.copied c.copy_rdma-answer.ensures.refused
    c.copy_rdma-answer.ensures.target (λ is. c.args.self.now.ready.apart (sym (ap (λ place. place.unit) c.copy_rdma-answer.ensures.source.place) ∙ is))
    (c.note.ensures.copies ∙ ap (λ front. front ++ copies_in c.copy_rdma-answer.result) c.reserve.ensures.items))

pub returns-then-is_err-clause-advances : goal.returns-then-is_err-clause-advances
returns-then-is_err-clause-advances g c =
    windows_move _ _ _ _ _ _ _ _ _ refl refl (λ e. later_same g.R.WindowPort.is_shared _) (side_same (side_of (g.O.WindowPort.state c.args.self.now.own.now)))
    (side_same (side_of (g.R.WindowPort.state c.args.self.now.client.now))) (copies_none _ _ _ _ c.reserve.ensures.items) (omega arith) (omega arith)
    (λ alone. owner_same (side_of (g.R.WindowPort.state c.args.self.now.client.now))) (λ alone. same_named _ _ _ c.reserve.ensures.items) (same_named _ _ _ c.reserve.ensures.items)

pub returns-clause-refused : goal.returns-clause-refused
returns-clause-refused g c = λ refused.
    fetch_denied _ _ _ _ _ _ _ _ _ c.copy_rdma-answer.result c.args.self.now.alone c.args.self.now.ready c.requires.few c.requires.inside
    c.copy_rdma-answer.ensures.parameter.0 c.copy_rdma-answer.ensures.source_parm c.copy_rdma-answer.ensures.dest_parm
    c.copy_rdma-answer.ensures.target c.copy_rdma-answer.ensures.source (c.note.ensures.refused refused)

pub returns-clause-busy : goal.returns-clause-busy
returns-clause-busy g c = λ is.
    fetch_busy _ _ _ _ _ _ _ _ _ _ _ c.copy_rdma-answer.result c.args.self.now.alone c.copy_rdma-answer.ensures.busy c.copy_rdma-answer.ensures.counts (c.note.ensures.busy is)

pub returns-clause-behind : goal.returns-clause-behind
returns-clause-behind g c = λ behind.
    behind_first _ _ _ _ _ _ _ _ c.copy_rdma-answer.result _ _ c.args.self.now.alone c.args.self.now.ready.first c.requires.some c.requires.inside
    c.copy_rdma-answer.ensures.target c.copy_rdma-answer.ensures.copied
    (c.note.ensures.copies ∙ ap (λ front. front ++ copies_in c.copy_rdma-answer.result) c.reserve.ensures.items) behind

pub returns-clause-made : goal.returns-clause-made
returns-clause-made g c =
    made_in c.note.result _ (g.O.WindowPort.state c.args.self.now.own.now) _ _ _ _ _ _ _ 0 c.copy_rdma-answer.result _ _ c.args.self.now.named c.copy_rdma-answer.ensures.target c.copy_rdma-answer.ensures.copied
    (c.note.ensures.copies ∙ ap (λ front. front ++ copies_in c.copy_rdma-answer.result) c.reserve.ensures.items) c.note.ensures.made

pub returns-clause-none : goal.returns-clause-none
returns-clause-none g c =
    none_in c.note.result c.copy_rdma-answer.result _ _
    (c.note.ensures.copies ∙ ap (λ front. front ++ copies_in c.copy_rdma-answer.result) c.reserve.ensures.items) c.note.ensures.none

pub returns-then-is_err-clause-behind : goal.returns-then-is_err-clause-behind
returns-then-is_err-clause-behind g c = λ behind. fetches_same _ _ _ c.reserve.ensures.items

pub returns-clause-laid : goal.returns-clause-laid
returns-clause-laid g c = refused_none c.note.result c.copy_rdma-answer.result _ c.copy_rdma-answer.ensures.refused c.note.ensures.none

pub returns-then-is_err-clause-laid : goal.returns-then-is_err-clause-laid
returns-then-is_err-clause-laid g c = lays_none _ _

pub returns-clause-client : goal.returns-clause-client
returns-clause-client g c = λ alone. known_read g.R.WindowPort.is_shared _ _ alone c.copy_rdma-answer.ensures.read c.copy_rdma-answer.ensures.source

pub returns-then-is_err-clause-client : goal.returns-then-is_err-clause-client
returns-then-is_err-clause-client g c = λ alone. known_same _

pub returns-clause-known : goal.returns-clause-known
returns-clause-known g c =
    read_known g.R.WindowPort.is_shared _ _
    (λ alone. known_read g.R.WindowPort.is_shared _ _ alone c.copy_rdma-answer.ensures.read c.copy_rdma-answer.ensures.source)
