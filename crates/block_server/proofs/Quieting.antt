-- Turns in which nothing was done, step by step.
use Rattle.std.proofs.Common.{◌≡◌, Bool, true, false, Option, Some, None, Result, Ok, Err, OnOk, refl, sym, ◌∙◌}
use Rattle.vio_num.specs.declared.entry.Entry.{Entry}
use Rattle.crq_session.specs.Answered.{LosesKept}
use Rattle.crq_session.specs.EndState.{EndState, OnlyReserves}
use Rattle.block_server.specs.declared.unit.Unit.{Unit}
use Rattle.block_server.specs.Stage.{how_far}
use Rattle.block_server.specs.Turns.{IfQuiet, IsStill, StaysMoved, under_way}

pub still_same : (queue : EndState) → IsStill queue queue
still_same queue = record { taken = refl; sent = refl; registered = refl; session = refl }

pub still_equal : (old new : EndState) → new ≡ old → IsStill old new
still_equal old new same = rw same (still_same old)

pub still_on : (old mid new : EndState) → IsStill old mid → IsStill mid new → IsStill old new
still_on old mid new first next = record {
  taken = next.taken ∙ first.taken;
  sent = next.sent ∙ first.sent;
  registered = next.registered ∙ first.registered;
  session = next.session ∙ first.session;
}

pub still_reserves : (old new : EndState) → OnlyReserves old new → IsStill old new
still_reserves old new rest = record { taken = rest.taken; sent = rest.sent; registered = rest.registered; session = rest.last_session }

-- what is still kept or was lost was not put
pub lost_none : (shared : Bool) (kept : Option Entry) (old new : EndState) → LosesKept shared kept old new → new.sent ≡ old.sent
lost_none shared None old new none = none.sent
lost_none shared (Some event) old new lost = lost.none.sent

pub quiet_on : (u v w : Unit) (old mid new : EndState) → IfQuiet u v old mid → IfQuiet v w mid new → IfQuiet u w old new
quiet_on u v w old mid new first next moved =
    let then = next moved in
    let before = first then.was in
    record {
      was = before.was;
      still = still_on old mid new before.still then.still;
      same = then.same ∙ before.same;
    }

-- a call of the queue that left it still, and nothing else
pub quiet_still : (u : Unit) (old new : EndState) → IsStill old new → IfQuiet u u old new
quiet_still u old new still moved = record { was = moved; still = still; same = refl }

-- the unit has the same under way, and has not said that something was done
pub quiet_way : (u v : Unit) (queue : EndState) → v.moved ≡ u.moved → under_way v ≡ under_way u → IfQuiet u v queue queue
quiet_way u v queue moved same is = record { was = sym moved ∙ is; still = still_same queue; same = same }

pub stays_moved : (u v : Unit) (old new : EndState) → IfQuiet u v old new → StaysMoved u v
stays_moved u v old new quiet is = by v.moved refl
  where
    by : (b : Bool) → v.moved ≡ b → v.moved ≡ true
    by true e = e
    by false e = absurd (cc ((quiet e).was, is))

-- the service went on, and its unit noted whether it came further
pub quiet_stage : (u w v : Unit) (old new : EndState) → new ≡ old
    → (v.moved ≡ false → (w.moved ≡ false) × (how_far w.service.stage ≡ how_far u.service.stage)) → under_way v ≡ under_way w
    → w.waiting ≡ u.waiting → w.pending.items ≡ u.pending.items → w.moved ≡ u.moved → IfQuiet u v old new
quiet_stage u w v old new queue noted way waiting pending moved is =
    let same = noted is in
    record {
      was = sym moved ∙ same.0;
      still = still_equal old new queue;
      same = way ∙ (λ i. record { waiting = waiting i; pending = pending i; stage = same.1 i });
    }

pub on_ok : {X Y : Type 0} (result : Result X Y) (P Q : Type 0) → (P → Q) → OnOk result P → OnOk result Q
on_ok (Ok x) P Q next h = next h
on_ok (Err y) P Q next h = tt
