-- Once a run ended, a session of a server unit's queue that is over has its line.
use Rattle.std.proofs.Common.{◌≡◌, ℕ, ◌<◌, true, List, [], Option, Some, IfSome, slice_get, subst, arith, inl}
use Rattle.std.proofs.Math.Logic.{∥∥₁_map}
use Rattle.rdma_copy.specs.declared.copy.CopyRecord.{CopyRecord}
use Rattle.vio_num.specs.declared.history.Grant.{Grant}
use Rattle.vio_num.specs.declared.history.Served.{Served}
use Rattle.vio_num.specs.declared.names.UnitId.{UnitId}
use Rattle.crq_session.specs.PlainState.{end_of, side_of}
use Rattle.block_server.specs.Books.{books_seen}
use Rattle.block_server.specs.Judged.{AreKept}
use Rattle.block_server.specs.Receipts.{EndedFor}
use Rattle.block_server.specs.declared.unit.Unit.{Unit}
use Rattle.vcpu_run.specs.declared.pair.Pair.{Pair}
use Rattle.vcpu_run.specs.Received.{IsReceived}
use Rattle.vcpu_run.specs.ShutShown.{HadEnd}

-- the server unit's queue is registered then, so it is in a later session
pub shut_at_rest : (units : List Unit) (copies : List CopyRecord) (grants : List Grant) (history : List Served) (u : ℕ) (pair : Pair) (server : UnitId) (unit : Unit)
    → slice_get units u ≡ Some unit → (side_of pair.link true).registered ≡ true → pair.own.unit ≡ server → IsReceived units copies grants history u pair → HadEnd pair.link
    → ∥ ((session : ℕ) × EndedFor server session grants) ∥₁
shut_at_rest units copies grants history u pair server unit there registered own received had =
    ∥∥₁_map received.judged
    (λ has.
    let kept : AreKept (books_seen unit pair.own.unit (end_of [] pair.link true) history grants) has.0 =
    subst (λ (o : Option Unit). IfSome o (λ unit. AreKept (books_seen unit pair.own.unit (end_of [] pair.link true) history grants) has.0)) there has.1.kept in
    let later : 1 < (side_of pair.link true).queue.session = had.over registered in
    (1, subst (λ (name : UnitId). EndedFor name 1 grants) own (kept.lines.closed 1 (omega arith) (inl later))))
