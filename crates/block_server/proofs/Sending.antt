-- What a send leaves of a unit's site.
use Rattle.std.proofs.Common.{◌≡◌, ◌==◌, ◌⊎◌, inl, inr, IfSome, ◌*◌, ◌/◌, ◌≤◌, ◌++◌, ℕ, true, false, cond, not, List, [], ◌∷◌, Bool, Option, Some, None, refl, sym, ◌∙◌, ap, subst, arith, append-nil}
use Rattle.std.proofs.lemmas.Bool.{eq-eqb}
use Rattle.std.proofs.lemmas.List.Elements.{filter-append}
use Rattle.std.specs.Option.{IsSome}
use Rattle.vio_num.specs.declared.entry.Entry.{Entry}
use Rattle.vio_num.specs.Entry.{partner_freed}
use Rattle.crq_ring.specs.declared.rows.PipeRow.{PipeRow}
use Rattle.crq_session.specs.declared.answers.SendAnswer.{SendAnswer}
use Rattle.crq_session.specs.declared.answers.SendAnswer.TheVariants as sending
use Rattle.crq_session.specs.declared.answers.RegAnswer.{RegAnswer}
use Rattle.crq_session.specs.declared.answers.RegAnswer.TheVariants as registering
use Rattle.crq_session.specs.declared.answers.FreeAnswer.{FreeAnswer}
use Rattle.crq_session.specs.declared.answers.FreeAnswer.TheVariants as freeing
use Rattle.crq_session.specs.declared.answers.EventAnswer.{EventAnswer}
use Rattle.crq_session.specs.declared.answers.EventAnswer.TheVariants as pushing
use Rattle.crq_session.specs.Answers.{IfSent, OnNotSent, IfClosed, IfDropped, IfHeldUp, IfInUse, IfKept, OnFreed, OnNotFreed, OnNotRegistered, OnNothing, OnOpened, OnPut}
use Rattle.crq_session.specs.Answered.{IsRegisteredAt, fits_own, FindsInUse, HoldsUp, Keeps, Loses, Opens, Pushes, Puts, PutsNone, Sends, Settles, StillKept, TellsFreed, TurnsBack, FindsFull}
use Rattle.crq_session.specs.Control.{IsQueueSize, fits_queue}
use Rattle.crq_session.specs.EndState.{EndState, OnlyReserves}
use Rattle.vio_num.specs.Words.{Begins}
use Rattle.tce_window.specs.PortState.{PortState}
use Rattle.rdma_copy.proofs.Laws.{side_same}
use Rattle.rdma_copy.specs.Copies.{side_of}
use Rattle.rdma_copy.specs.declared.copy.CopyRecord.{CopyRecord}
use Rattle.block_server.specs.Advances.{Advances, KeepsFreed, OpensLater, PutsMore, PutsNow, rows_elsewhere}
use Rattle.block_server.specs.Entries.{MayPut}
use Rattle.block_server.specs.SiteState.{Lenders, site}
use Rattle.block_server.proofs.Advancing.{copies_none, later_same, now_none, puts_none, puts_one}
use Rattle.block_server.proofs.OwnerNames.{owner_same}
use Rattle.block_server.proofs.Quieting.{lost_none}

-- a call of the queue's end alone
pub queue_call : (reached : Lenders) (own client : PortState) (shared : Bool) (copies : List CopyRecord) (old new : EndState) → new.place ≡ old.place → old.last_session ≤ new.last_session → OpensLater old new
    → Begins old.taken new.taken → PutsMore old.sent new.sent → (reached.link_shared ≡ false → new.counts.partner_session ≡ old.counts.partner_session)
    → (reached.link_shared ≡ false → PutsNow old new) → old.counts.closed ≤ new.counts.closed
    → Advances (site reached old own client shared copies) (site reached new own client shared copies)
queue_call reached own client shared copies old new place session opens taken put partner now closed = record {
  reached = refl;
  queue_place = place;
  own_place = refl;
  client_place = refl;
  shared = refl;
  partner = partner;
  now = now;
  closed = closed;
  values = λ e. later_same shared (client.values e);
  session = session;
  opens = opens;
  taken = taken;
  put = put;
  own = side_same (side_of own);
  client = side_same (side_of client);
  copies = copies_none own client copies copies refl;
  own_in_use = omega arith;
  client_in_use = omega arith;
  owner = λ alone. owner_same (side_of client);
  named = λ alone is. is;
  own_named = λ is. is;
}

-- the queue is registered as it was
pub opens_same : (old new : EndState) → new.registered ≡ old.registered → OpensLater old new
opens_same old new same on = inl (sym same ∙ on)

-- by the answer to a registration, and to a free
pub register_opens : (shared : Bool) (old new : EndState) (answer : RegAnswer) → OnOpened answer (Opens shared old new) → IfHeldUp answer (HoldsUp shared old new)
    → OnNotRegistered answer (OnlyReserves old new) → OpensLater old new
register_opens shared old new registering.Success opened held refused on = inr (omega (arith, opened.session))
register_opens shared old new (registering.Closed control) opened held refused on = inr (omega (arith, opened.session))
register_opens shared old new (registering.Busy number lay) opened held refused on = absurd (cc (on, held.still))
register_opens shared old new registering.Parameter opened held refused on = inl (sym refused.registered ∙ on)
register_opens shared old new registering.Resource opened held refused on = inl (sym refused.registered ∙ on)

pub free_opens : (shared : Bool) (old new : EndState) (answer : FreeAnswer) → OnFreed answer (TellsFreed shared old new)
    → IfInUse answer (FindsInUse shared old new) → OnNotFreed answer (OnlyReserves old new) → OpensLater old new
free_opens shared old new freeing.Success freed busy refused on = absurd (cc (on, freed.freed))
free_opens shared old new (freeing.Busy control) freed busy refused on = inl busy.registered
free_opens shared old new freeing.Parameter freed busy refused on = inl (sym refused.registered ∙ on)

pub same_session : (old new : EndState) → new.last_session ≡ old.last_session → old.last_session ≤ new.last_session
same_session old new same = omega (arith, same)

pub same_count : (a b : ℕ) → b ≡ a → a ≤ b
same_count a b same = omega (arith, same)

pub same_taken : (old new : EndState) → new.taken ≡ old.taken → Begins old.taken new.taken
same_taken old new same = ([], same ∙ sym (append-nil old.taken))

pub send_puts : (shared : Bool) (old new : EndState) (entry : Entry) (answer : SendAnswer) → MayPut entry
    → IfSent answer (Sends shared old entry new) → IfClosed answer (TurnsBack shared old new)
    → IfDropped answer (FindsFull shared old new) → OnNotSent answer (OnlyReserves old new) → PutsMore old.sent new.sent
send_puts shared old new entry (sending.Success number) may sent closed dropped refused = puts_one old.sent new.sent _ may sent.puts.sent
send_puts shared old new entry sending.Parameter may sent closed dropped refused = puts_none old.sent new.sent refused.sent
send_puts shared old new entry sending.NotRegistered may sent closed dropped refused = puts_none old.sent new.sent refused.sent
send_puts shared old new entry (sending.Closed control) may sent closed dropped refused = puts_none old.sent new.sent closed.none.sent
send_puts shared old new entry (sending.Dropped number held) may sent closed dropped refused = puts_none old.sent new.sent dropped.sent

-- what a registration leaves of what was put: the kept event was put, if there was one, or it was lost
settles_puts : (shared : Bool) (kept : Option Entry) (old new : EndState) → ((event : Entry) → kept ≡ Some event → event ≡ partner_freed)
    → Settles shared kept old new → PutsMore old.sent new.sent
settles_puts shared None old new freed none = puts_none old.sent new.sent none.sent
settles_puts shared (Some event) old new freed (inl puts) =
    puts_one old.sent new.sent _ (subst MayPut (sym (freed event refl)) refl) puts.sent
settles_puts shared (Some event) old new freed (inr lost) = puts_none old.sent new.sent lost.none.sent

pub register_puts : (shared : Bool) (old new : EndState) (answer : RegAnswer) → KeepsFreed old → OnOpened answer (Opens shared old new)
    → IfHeldUp answer (HoldsUp shared old new) → OnNotRegistered answer (OnlyReserves old new) → PutsMore old.sent new.sent
register_puts shared old new registering.Success freed opened held refused = settles_puts shared old.kept old new freed opened.settles
register_puts shared old new (registering.Closed control) freed opened held refused = settles_puts shared old.kept old new freed opened.settles
register_puts shared old new (registering.Busy number lay) freed opened held refused = puts_none old.sent new.sent held.kept.full.sent
register_puts shared old new registering.Parameter freed opened held refused = puts_none old.sent new.sent refused.sent
register_puts shared old new registering.Resource freed opened held refused = puts_none old.sent new.sent refused.sent

-- what a free leaves of what was put: the event that tells of it was put, or is kept, or was lost
told_puts : (shared : Bool) (old new : EndState)
    → (Puts shared old partner_freed new × (new.kept ≡ None)) ⊎ (Keeps shared old partner_freed new ⊎ (Loses shared old new × (new.kept ≡ None)))
    → PutsMore old.sent new.sent
told_puts shared old new (inl puts) = puts_one old.sent new.sent _ refl puts.0.sent
told_puts shared old new (inr (inl keeps)) = puts_none old.sent new.sent keeps.full.sent
told_puts shared old new (inr (inr lost)) = puts_none old.sent new.sent lost.0.none.sent

pub free_puts : (shared : Bool) (old new : EndState) (answer : FreeAnswer) → OnFreed answer (TellsFreed shared old new)
    → IfInUse answer (FindsInUse shared old new) → OnNotFreed answer (OnlyReserves old new) → PutsMore old.sent new.sent
free_puts shared old new freeing.Success freed busy refused = told_puts shared old new freed.tells
free_puts shared old new (freeing.Busy control) freed busy refused = puts_none old.sent new.sent busy.none.sent
free_puts shared old new freeing.Parameter freed busy refused = puts_none old.sent new.sent refused.sent

-- what is put of a kept event
kept_puts : (shared : Bool) (kept : Option Entry) (old new : EndState) → ((event : Entry) → kept ≡ Some event → event ≡ partner_freed)
    → IsSome kept → IfSome kept (λ event. Puts shared old event new) → PutsMore old.sent new.sent
kept_puts shared None old new freed some puts = absurd (cc (some))
kept_puts shared (Some event) old new freed some puts = puts_one old.sent new.sent _ (subst MayPut (sym (freed event refl)) refl) puts.sent

pub push_puts : (shared : Bool) (old new : EndState) (answer : EventAnswer) → KeepsFreed old → OnNothing answer (PutsNone shared old new)
    → OnPut answer (Pushes shared old new) → IfKept answer (StillKept shared old new) → PutsMore old.sent new.sent
push_puts shared old new pushing.Nothing freed nothing put still = puts_none old.sent new.sent (lost_none shared old.kept old new nothing.loses)
push_puts shared old new pushing.Put freed nothing put still = kept_puts shared old.kept old new freed put.some put.puts
push_puts shared old new (pushing.Kept number held) freed nothing put still = puts_none old.sent new.sent still.full.sent

-- An entry that was put is of the partner's session.
now_elsewhere : (q : ℕ) (rows : List PipeRow) (row : PipeRow) → row.session ≡ q → rows_elsewhere q (rows ++ row ∷ []) ≡ rows_elsewhere q rows
now_elsewhere q rows row is =
    filter-append (λ (r : PipeRow). not (r.session == q)) rows (row ∷ [])
    ∙ (ap (λ b. rows_elsewhere q rows ++ cond (not b) (row ∷ []) []) (eq-eqb row.session q is) ∙ append-nil (rows_elsewhere q rows))

now_one : (shared : Bool) (old new : EndState) (entry : Entry) → shared ≡ false → new.counts.partner_session ≡ old.counts.partner_session → Puts shared old entry new → PutsNow old new
now_one shared old new entry alone session puts = record {
  others = ap (rows_elsewhere old.counts.partner_session) puts.sent
      ∙ now_elsewhere old.counts.partner_session old.sent (record { session = new.counts.partner_session; entry = entry }) session;
  none = λ off. absurd (cc (off, puts.partner alone));
}

pub send_now : (shared : Bool) (old new : EndState) (entry : Entry) (answer : SendAnswer) → IfSent answer (Sends shared old entry new) → IfClosed answer (TurnsBack shared old new)
    → IfDropped answer (FindsFull shared old new) → OnNotSent answer (OnlyReserves old new)
    → (shared ≡ false → new.counts.partner_session ≡ old.counts.partner_session) → shared ≡ false → PutsNow old new
send_now shared old new entry (sending.Success number) sent closed dropped refused session alone = now_one shared old new entry alone (session alone) sent.puts
send_now shared old new entry sending.Parameter sent closed dropped refused session alone = now_none old new refused.sent
send_now shared old new entry sending.NotRegistered sent closed dropped refused session alone = now_none old new refused.sent
send_now shared old new entry (sending.Closed control) sent closed dropped refused session alone = now_none old new closed.none.sent
send_now shared old new entry (sending.Dropped number held) sent closed dropped refused session alone = now_none old new dropped.sent

settles_now : (shared : Bool) (kept : Option Entry) (old new : EndState) → shared ≡ false → new.counts.partner_session ≡ old.counts.partner_session → Settles shared kept old new → PutsNow old new
settles_now shared None old new alone session none = now_none old new none.sent
settles_now shared (Some event) old new alone session (inl puts) = now_one shared old new event alone session puts
settles_now shared (Some event) old new alone session (inr lost) = now_none old new lost.none.sent

pub register_now : (shared : Bool) (old new : EndState) (answer : RegAnswer) → OnOpened answer (Opens shared old new) → IfHeldUp answer (HoldsUp shared old new)
    → OnNotRegistered answer (OnlyReserves old new) → (shared ≡ false → new.counts.partner_session ≡ old.counts.partner_session) → shared ≡ false → PutsNow old new
register_now shared old new registering.Success opened held refused session alone = settles_now shared old.kept old new alone (session alone) opened.settles
register_now shared old new (registering.Closed control) opened held refused session alone = settles_now shared old.kept old new alone (session alone) opened.settles
register_now shared old new (registering.Busy number lay) opened held refused session alone = now_none old new held.kept.full.sent
register_now shared old new registering.Parameter opened held refused session alone = now_none old new refused.sent
register_now shared old new registering.Resource opened held refused session alone = now_none old new refused.sent

told_now : (shared : Bool) (old new : EndState) → shared ≡ false → new.counts.partner_session ≡ old.counts.partner_session
    → (Puts shared old partner_freed new × (new.kept ≡ None)) ⊎ (Keeps shared old partner_freed new ⊎ (Loses shared old new × (new.kept ≡ None))) → PutsNow old new
told_now shared old new alone session (inl puts) = now_one shared old new partner_freed alone session puts.0
told_now shared old new alone session (inr (inl keeps)) = now_none old new keeps.full.sent
told_now shared old new alone session (inr (inr lost)) = now_none old new lost.0.none.sent

pub free_now : (shared : Bool) (old new : EndState) (answer : FreeAnswer) → OnFreed answer (TellsFreed shared old new) → IfInUse answer (FindsInUse shared old new)
    → OnNotFreed answer (OnlyReserves old new) → (shared ≡ false → new.counts.partner_session ≡ old.counts.partner_session) → shared ≡ false → PutsNow old new
free_now shared old new freeing.Success freed busy refused session alone = told_now shared old new alone (session alone) freed.tells
free_now shared old new (freeing.Busy control) freed busy refused session alone = now_none old new busy.none.sent
free_now shared old new freeing.Parameter freed busy refused session alone = now_none old new refused.sent

kept_now : (shared : Bool) (kept : Option Entry) (old new : EndState) → shared ≡ false → new.counts.partner_session ≡ old.counts.partner_session → IsSome kept
    → IfSome kept (λ event. Puts shared old event new) → PutsNow old new
kept_now shared None old new alone session some puts = absurd (cc (some))
kept_now shared (Some event) old new alone session some puts = now_one shared old new event alone session puts

pub push_now : (shared : Bool) (old new : EndState) (answer : EventAnswer) → OnNothing answer (PutsNone shared old new) → OnPut answer (Pushes shared old new)
    → IfKept answer (StillKept shared old new) → (shared ≡ false → new.counts.partner_session ≡ old.counts.partner_session) → shared ≡ false → PutsNow old new
push_now shared old new pushing.Nothing nothing put still session alone = now_none old new (lost_none shared old.kept old new nothing.loses)
push_now shared old new pushing.Put nothing put still session alone = kept_now shared old.kept old new alone (session alone) put.some put.puts
push_now shared old new (pushing.Kept number held) nothing put still session alone = now_none old new still.full.sent

-- the own queue, registered at its whole length, is not registered only where it was before
whole_fits : (own slots : ℕ) → slots ≡ own → IsQueueSize slots → fits_queue own 0 (16 * slots) ≡ true
whole_fits own slots is size = eq-eqb (16 * slots) (own / 256 * 4096) (omega (arith, is, size.whole))

pub register_stands : (old : EndState) (slots : ℕ) (answer : RegAnswer) → slots ≡ old.place.own_slots → IsQueueSize slots
    → ((answer ≡ registering.Parameter) → fits_own old 0 (16 * slots) ≡ false) → ((answer ≡ registering.Resource) → IsRegisteredAt old 0 (16 * slots))
    → OnNotRegistered answer (old.registered ≡ true)
register_stands old slots registering.Parameter is size parameter resource = absurd (cc (parameter refl, whole_fits old.place.own_slots slots is size))
register_stands old slots registering.Resource is size parameter resource = (resource refl).1
register_stands old slots registering.Success is size parameter resource = tt
register_stands old slots (registering.Closed control) is size parameter resource = tt
register_stands old slots (registering.Busy number held) is size parameter resource = tt
