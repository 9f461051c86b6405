use Rattle.std.proofs.Common.{◌++◌, ◌∙◌, ap, arith, refl, sym}
use Rattle.rdma_copy.proofs.Laws.{side_same}
use Rattle.rdma_copy.specs.Copies.{side_of}
use Rattle.block_server.specs.Copied.{copies_in}
use Rattle.block_server.proofs.Advancing.{copies_none, later_same}
use Rattle.block_server.proofs.OwnerNames.{owner_same, owner_target}
use Rattle.block_server.proofs.Windows.{deliver_busy, delivered_more, windows_move, source_grows, target_grows}
use Rattle.block_server.proofs.NamedWindows.{same_named, source_named, target_named}
use Rattle.block_server.proofs.FirstPages.{fetches_same, made_in, none_in, to_client}
use Rattle.block_server.proofs.Owning.{deliver_denied}
use Rattle.block_server.proofs.UnitBytes.{lays_none, only_copies}
use Rattle.block_server.proofs.RangeLaws.{copy_within, lays_none as lays_nothing}
use Rattle.block_server.proofs.Bearing.{bears_none, copy_bears}
use Rattle.block_server.proofs.BearingParts.{copy_missed}
use Rattle.block_server.proofs.Windows.{held_before}
use Rattle.block_server.proofs.ports.Ports.copy_out.Goals as goal

pub returns-clause-advances : goal.returns-clause-advances
returns-clause-advances g c =
    windows_move _ _ _ _ _ _ _ _ _ c.copy_rdma-answer.ensures.source.place c.copy_rdma-answer.ensures.target.place c.copy_rdma-answer.ensures.target.values
    (source_grows _ _ _ c.copy_rdma-answer.ensures.read c.copy_rdma-answer.ensures.source)
    (target_grows _ _ _ _ _ _ _ _ c.copy_rdma-answer.result c.copy_rdma-answer.ensures.copied c.copy_rdma-answer.ensures.refused c.copy_rdma-answer.ensures.target)
    (delivered_more _ _ _ _ _ _ _ _ c.copy_rdma-answer.result _ _
    (c.args.self.now.named ∙ sym (ap (λ place. place.unit) c.copy_rdma-answer.ensures.source.place)) c.copy_rdma-answer.ensures.copied
    (c.note.ensures.copies ∙ ap (λ front. front ++ copies_in c.copy_rdma-answer.result) c.reserve.ensures.items)) c.copy_rdma-answer.ensures.source.in_use c.copy_rdma-answer.ensures.target.in_use
    (owner_target _ _ _ _ _ _ _ _ c.copy_rdma-answer.result (λ is. c.args.self.now.ready.apart (sym is ∙ c.args.self.now.named))
    c.copy_rdma-answer.ensures.copied c.copy_rdma-answer.ensures.refused)
    (λ alone. target_named _ _ _ _ _ _ _ _ c.copy_rdma-answer.result _ _ alone c.copy_rdma-answer.ensures.copied c.copy_rdma-answer.ensures.refused
    c.copy_rdma-answer.ensures.target (λ is. c.args.self.now.ready.apart (sym is ∙ ap (λ place. place.unit) c.copy_rdma-answer.ensures.source.place))
    (c.note.ensures.copies ∙ ap (λ front. front ++ copies_in c.copy_rdma-answer.result) c.reserve.ensures.items))
    (source_named _ _ _ _ _ _ _ _ _ _ c.copy_rdma-answer.result _ _ c.args.self.now.alone c.copy_rdma-answer.ensures.read c.copy_rdma-answer.ensures.source
    c.copy_rdma-answer.ensures.copied c.copy_rdma-answer.ensures.target.place c.args.self.now.ready.apart
    (c.note.ensures.copies ∙ ap (λ front. front ++ copies_in c.copy_rdma-answer.result) c.reserve.ensures.items))

pub returns-then-is_err-clause-advances : goal.returns-then-is_err-clause-advances
returns-then-is_err-clause-advances g c =
    windows_move _ _ _ _ _ _ _ _ _ refl refl (λ e. later_same g.R.WindowPort.is_shared _) (side_same (side_of (g.O.WindowPort.state c.args.self.now.own.now)))
    (side_same (side_of (g.R.WindowPort.state c.args.self.now.client.now))) (copies_none _ _ _ _ c.reserve.ensures.items) (omega arith) (omega arith)
    (λ alone. owner_same (side_of (g.R.WindowPort.state c.args.self.now.client.now))) (λ alone. same_named _ _ _ c.reserve.ensures.items) (same_named _ _ _ c.reserve.ensures.items)

pub returns-clause-refused : goal.returns-clause-refused
returns-clause-refused g c = λ refused.
    deliver_denied _ _ _ _ _ _ _ _ _ c.copy_rdma-answer.result c.args.self.now.alone c.args.self.now.ready c.requires.few c.requires.inside
    c.copy_rdma-answer.ensures.parameter.0 c.copy_rdma-answer.ensures.source_parm c.copy_rdma-answer.ensures.dest_parm
    c.copy_rdma-answer.ensures.source c.copy_rdma-answer.ensures.target (c.note.ensures.refused refused)

pub returns-clause-busy : goal.returns-clause-busy
returns-clause-busy g c = λ is.
    deliver_busy _ _ _ _ _ _ _ _ _ _ _ c.copy_rdma-answer.result c.args.self.now.alone c.copy_rdma-answer.ensures.busy c.copy_rdma-answer.ensures.counts (c.note.ensures.busy is)

pub returns-clause-behind : goal.returns-clause-behind
returns-clause-behind g c =
    to_client _ _ _ _ _ _ _ _ _ c.copy_rdma-answer.result _ _ c.args.self.now.ready.apart c.copy_rdma-answer.ensures.target c.copy_rdma-answer.ensures.copied
    (c.note.ensures.copies ∙ ap (λ front. front ++ copies_in c.copy_rdma-answer.result) c.reserve.ensures.items)

pub returns-then-is_err-clause-behind : goal.returns-then-is_err-clause-behind
returns-then-is_err-clause-behind g c = fetches_same _ _ _ c.reserve.ensures.items

pub returns-clause-made : goal.returns-clause-made
returns-clause-made g c =
    made_in c.note.result _ (g.O.WindowPort.state c.args.self.now.own.now) _ _ _ _ _ _ _ c.args.mark c.copy_rdma-answer.result _ _ c.args.self.now.named
    c.copy_rdma-answer.ensures.target c.copy_rdma-answer.ensures.copied
    (c.note.ensures.copies ∙ ap (λ front. front ++ copies_in c.copy_rdma-answer.result) c.reserve.ensures.items) c.note.ensures.made

pub returns-clause-none : goal.returns-clause-none
returns-clause-none g c =
    none_in c.note.result c.copy_rdma-answer.result _ _
    (c.note.ensures.copies ∙ ap (λ front. front ++ copies_in c.copy_rdma-answer.result) c.reserve.ensures.items) c.note.ensures.none

pub returns-then-is_err-clause-laid : goal.returns-then-is_err-clause-laid
returns-then-is_err-clause-laid g c = lays_none _ _

pub returns-then-is_err-clause-rest : goal.returns-then-is_err-clause-rest
returns-then-is_err-clause-rest g c = only_copies _ _ c.args.self.now.ready.own_free

pub returns-clause-wrote : goal.returns-clause-wrote
returns-clause-wrote g c =
    copy_within g.R.WindowPort.is_shared _ _ _ _ _ _ _ c.copy_rdma-answer.result c.copy_rdma-answer.ensures.copied c.copy_rdma-answer.ensures.refused
    c.copy_rdma-answer.ensures.target

pub returns-then-is_err-clause-wrote : goal.returns-then-is_err-clause-wrote
returns-then-is_err-clause-wrote g c = lays_nothing _ _

pub returns-clause-bears : goal.returns-clause-bears
returns-clause-bears g c =
    copy_bears g.O.WindowPort.is_shared g.R.WindowPort.is_shared _ _ _ _ _ _ _ _ _ c.copy_rdma-answer.result c.args.self.now.alone c.args.self.now.named
    c.args.self.now.ready.first c.requires.inside c.copy_rdma-answer.ensures.read c.copy_rdma-answer.ensures.source c.copy_rdma-answer.ensures.copied
    c.copy_rdma-answer.ensures.refused c.copy_rdma-answer.ensures.target

pub returns-then-is_err-clause-bears : goal.returns-then-is_err-clause-bears
returns-then-is_err-clause-bears g c = bears_none _ _

pub returns-clause-missed : goal.returns-clause-missed
returns-clause-missed g c =
    copy_missed c.note.result c.copy_rdma-answer.result g.R.WindowPort.is_shared _ _ c.copy_rdma-answer.ensures.refused c.note.ensures.none
    c.copy_rdma-answer.ensures.target

pub returns-clause-may : goal.returns-clause-may
returns-clause-may g c =
    held_before g.R.WindowPort.is_shared (g.O.WindowPort.state c.copy_rdma-answer.new.src) _ _ _ _ _ c.copy_rdma-answer.result c.note.result c.requires.some c.note.ensures.made c.copy_rdma-answer.ensures.held
    c.copy_rdma-answer.ensures.target
