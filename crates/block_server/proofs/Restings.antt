-- Steps of a turn at a unit that has nothing to do, over a link that nobody else changes.
use Rattle.std.proofs.Common.{◌≡◌, ◌∙◌, ℕ, Bool, false, List, [], ◌∷◌, Some, length, slice_get, sym, ap, subst}
use Rattle.crq_session.specs.Answered.{Takes, received_now, taken_now}
use Rattle.crq_session.specs.EndState.{EndState}
use Rattle.vio_num.specs.declared.entry.Entry.{Entry}
use Rattle.block_server.specs.Advances.{Advances}
use Rattle.block_server.specs.Moves.{Passes, TakenSoFar, taken_so_far}
use Rattle.block_server.specs.Resting.{IsEmptied}
use Rattle.block_server.specs.SiteState.{SiteState}
use Rattle.block_server.specs.declared.intake.Next.{Next}
use Rattle.block_server.specs.declared.intake.Next.TheVariants.{Entry as GoesOn, Service}
use Rattle.block_server.specs.declared.unit.Unit.{Unit}

-- Nothing was noted as done, the same requests are pending, and what is known of the ports is the same.
pub record IsAsBefore (unit unit' : Unit) (old new : SiteState) : Type 0 where
  pub moved : unit'.moved ≡ unit.moved
  pub pending : unit'.pending.items ≡ unit.pending.items
  pub site : new ≡ old

past_end : {X : Type 0} (list : List X) (x : X) → slice_get list (length list) ≡ Some x → ⊥
past_end [] x is = cc (is)
past_end (y ∷ ys) x is = past_end ys x is

-- Where all was taken there is no next entry.
pub none_taken : (shared : Bool) (old new : EndState) (number : ℕ) (entry : Entry) → shared ≡ false → IsEmptied old → Takes shared old new number entry → ⊥
none_taken shared old new number entry alone emptied is =
    past_end (received_now old) entry (subst (λ (n : ℕ). slice_get (received_now old) n ≡ Some entry) (is.number_is ∙ ap length (sym emptied)) (is.there alone))

-- Calls that take nothing leave the queue emptied.
pub still_emptied : (old new : SiteState) → Passes old new → Advances old new → IsEmptied old.queue → IsEmptied new.queue
unfolding taken_so_far
still_emptied old new passes advances is =
    let session : new.queue.last_session ≡ old.queue.last_session = ap (λ (t : TakenSoFar). t.session) passes in
    let taken : new.queue.taken ≡ old.queue.taken = ap (λ (t : TakenSoFar). t.taken) passes in
    subst (λ (z : ℕ × EndState). IsEmptied (record new.queue { last_session = z.0; taken = z.1.taken; place = z.1.place }))
    (λ i. (sym session i, record old.queue { taken = sym taken i; place = sym advances.queue_place i })) is

pub not_on : (next : Next) → next ≡ GoesOn → next ≡ Service → ⊥
not_on next goes ends = cc (goes, ends)

pub as_before : (unit unit' : Unit) (old new : SiteState) → unit' ≡ unit → new ≡ old → IsAsBefore unit unit' old new
as_before unit unit' old new same site = record { moved = ap (λ (u : Unit). u.moved) same; pending = ap (λ (u : Unit). u.pending.items) same; site = site }
