-- Why a server unit did nothing, as its link shows it; and that its queue is what it takes it for.
use Rattle.std.proofs.Common.{◌≡◌, ◌∙◌, inl, inr, ℕ, ◌+◌, ◌<◌, ◌≤◌, zero, suc, Bool, true, false, List, [], ◌∷◌, Option, Some, None, IfNone, IfSome, length, slice_get, refl, sym, ap, ap₂, subst, arith}
use Rattle.std.specs.Borrow.{GName}
use Rattle.std.proofs.lemmas.Option.{IfSome_then}
use Rattle.crq_ring.specs.Sessions.{of_session}
use Rattle.crq_ring.specs.declared.rows.PipeRow.{PipeRow}
use Rattle.crq_session.specs.declared.handshake.Handshake.TheVariants.{Down}
use Rattle.crq_session.specs.EndState.{EndPlace, EndState}
use Rattle.crq_session.specs.declared.link.PlainLink.{PlainLink}
use Rattle.crq_session.specs.PlainState.{end_of, side_of}
use Rattle.tce_window.specs.PortState.{PortState}
use Rattle.block_server.specs.Ready.{Agrees, AgreesAt, HasNothing, MeetsEmpty, MeetsFull, NothingReady}
use Rattle.block_server.specs.Turns.{IsStill}
use Rattle.block_server.specs.declared.unit.Unit.{Unit}
use Rattle.vcpu_run.specs.declared.driver.Driver.{Driver}
use Rattle.vcpu_run.specs.declared.pair.Pair.{Pair}
use Rattle.vcpu_run.specs.Freed.{FreesNoneAt}
use Rattle.vcpu_run.specs.Links.{AreClosed, AreLinked, IsEmptied, IsFull, IsShutAlone, ServerWaits, link_state}
use Rattle.vcpu_run.specs.Pairs.{AreDriven, Drives, GoesOn}
use Rattle.vcpu_run.specs.DropsShown.{KeepsFull}
use Rattle.vcpu_run.proofs.DropsStay.{stay_same}
use Rattle.vcpu_run.proofs.Listed.{came_from, is_held}

no_true : false ≡ true → ⊥
no_true e = cc

there_is : {X : Type 0} (xs : List X) (i : ℕ) (P : X → Type 0) → i < length xs → IfSome (slice_get xs i) P → (x : X) × (slice_get xs i ≡ Some x) × P x
there_is [] i P less h = absurd (omega (arith, less))
there_is (x ∷ xs) zero P less h = (x, refl, h)
there_is (x ∷ xs) (suc i) P less h = there_is xs i P (omega (arith, less)) h

meets_full : (a b : List GName) (old new : PlainLink) → (end_of b new true).place ≡ (end_of a old true).place
    → MeetsFull false (end_of a old true) (end_of b new true) → IsFull (link_state new).client
meets_full a b old new place meets =
    let e = end_of a old true in
    let e' = end_of b new true in
    let before = meets.before in
    let full = meets.full in
    let same : before.place ≡ e'.place = meets.idles.place ∙ sym place in
    let took : before.place.partner_taken ≡ new.second.queue.taken = ap (λ (p : EndPlace). p.partner_taken) same in
    let slots : before.place.partner_slots ≡ new.second.queue.slots = ap (λ (p : EndPlace). p.partner_slots) same in
    let sent : before.sent ≡ new.second.queue.sent = sym full.sent in
    record {
      registered = sym (ap (λ (p : EndPlace). p.partner_registered) same) ∙ full.partner refl;
      full = ap (λ (rows : List PipeRow). length (of_session new.second.queue.session rows)) (sym sent)
          ∙ (full.full_slot refl
          ∙ ap₂ (λ (rows : List PipeRow) (n : ℕ). length (of_session new.second.queue.session rows) + n) took slots);
    }

meets_empty : (a b : List GName) (old new : PlainLink) → (end_of b new true).place ≡ (end_of a old true).place
    → IsStill (end_of a old true) (end_of b new true) → MeetsEmpty false (end_of a old true) (end_of b new true)
    → (end_of b new true).registered ≡ true → IsEmptied (link_state new).server
meets_empty a b old new place still meets registered =
    let before = meets.before in
    let none = meets.none in
    let same : before.place ≡ (end_of b new true).place = meets.idles.place ∙ sym place in
    let session : before.last_session ≡ new.first.queue.session = meets.idles.still.session ∙ sym still.session in
    let received : before.place.received ≡ new.first.queue.sent = ap (λ (p : EndPlace). p.received) same in
    record {
      registered = registered;
      taken = ap₂ of_session (sym session) (sym received) ∙ (none.all_taken refl ∙ ap₂ of_session session (sym none.taken));
    }

server_waits : (a b : List GName) (old new : PlainLink) (own own' window window' : PortState) (unit : Unit) → (end_of b new true).place ≡ (end_of a old true).place
    → (found : Option Unit) → found ≡ Some unit → IsStill (end_of a old true) (end_of b new true)
    → NothingReady false false (end_of a old true) (end_of b new true) own own' window window' unit → ServerWaits found (link_state new)
server_waits a b old new own own' window window' unit place found is still ready = elim ready as (λ _. ServerWaits found (link_state new)) [
  | inl full ↦ inl (meets_full a b old new place full)
  | inr later ↦ elim later as (λ _. ServerWaits found (link_state new)) [
    | inl sender ↦ absurd (no_true sender.inside.shared_end)
    | inr rest ↦ elim rest as (λ _. ServerWaits found (link_state new)) [
      | inl used ↦ absurd (no_true used.shared_is)
      | inr empty ↦ inr (meets_empty a b old new place still empty.0 empty.1.0, is_held HasNothing found unit is empty.1.1.1)
    ]
  ]
]

-- a turn of server unit `unit` that did nothing, at the first end of a link
pub serve_waits : (f g : Bool) (a b : List GName) (old new : PlainLink) (own own' window window' : PortState) (units : List Unit) (unit : ℕ) → f ≡ true
    → (end_of b new g).place ≡ (end_of a old f).place → unit < length units
    → IsStill (end_of a old f) (end_of b new g)
    → IfSome (slice_get units unit) (NothingReady false false (end_of a old f) (end_of b new g) own own' window window') → ServerWaits (slice_get units unit) (link_state new)
serve_waits f g a b old new own own' window window' units unit is place less still waits =
    let side : g ≡ true = ap (λ (p : EndPlace). p.first) place ∙ is in
    let there = there_is units unit _ less waits in
    server_waits a b old new own own' window window' there.0
    (at2 (λ d d'. (end_of b new d').place ≡ (end_of a old d).place) is side place)
    (slice_get units unit) there.1
    (at2 (λ d d'. IsStill (end_of a old d) (end_of b new d')) is side still)
    (at2 (λ d d'. NothingReady false false (end_of a old d) (end_of b new d') own own' window window' there.0) is side there.2)
  where
    at2 : (P : Bool → Bool → Type 0) → f ≡ true → g ≡ true → P f g → P true true
    at2 P e e' p = subst (λ d. P true d) e' (subst (λ d. P d g) e p)

-- the client's queue over a turn of the server unit, in its session of before
pub serve_frees : (f g : Bool) (a b : List GName) (old new : Pair) → f ≡ true → (end_of b new.link g).place ≡ (end_of a old.link f).place
    → (end_of b new.link g).counts.partner_session ≡ (end_of a old.link f).counts.partner_session → FreesNoneAt old new
serve_frees f g a b old new is place session = at f g is (ap (λ (p : EndPlace). p.first) place ∙ is) place session
  where
    at : (d d' : Bool) → d ≡ true → d' ≡ true → (end_of b new.link d').place ≡ (end_of a old.link d).place
        → (end_of b new.link d').counts.partner_session ≡ (end_of a old.link d).counts.partner_session → FreesNoneAt old new
    at true true e e' place session = λ kept some. ap (λ (p : EndPlace). p.partner_registered) place ∙ kept (subst (λ (n : ℕ). 1 ≤ n) session some)
    at true false e e' place session = absurd (no_true e')
    at false d' e e' place session = absurd (no_true e)

-- a turn of the server unit leaves the client's queue registered as it was
pub serve_queue : (f g : Bool) (a b : List GName) (old new : Pair) → f ≡ true → (end_of b new.link g).place ≡ (end_of a old.link f).place
    → (side_of new.link false).registered ≡ (side_of old.link false).registered
serve_queue f g a b old new is place = at f g is (ap (λ (p : EndPlace). p.first) place ∙ is) place
  where
    at : (d d' : Bool) → d ≡ true → d' ≡ true → (end_of b new.link d').place ≡ (end_of a old.link d).place
        → (side_of new.link false).registered ≡ (side_of old.link false).registered
    at true true e e' place = ap (λ (p : EndPlace). p.partner_registered) place
    at true false e e' place = absurd (no_true e')
    at false d' e e' place = absurd (no_true e)

-- and nothing was put into the server unit's own queue
pub serve_sent : (f g : Bool) (a b : List GName) (old new : Pair) → f ≡ true → (end_of b new.link g).place ≡ (end_of a old.link f).place
    → (side_of new.link true).queue.sent ≡ (side_of old.link true).queue.sent
serve_sent f g a b old new is place = at f g is (ap (λ (p : EndPlace). p.first) place ∙ is) place
  where
    at : (d d' : Bool) → d ≡ true → d' ≡ true → (end_of b new.link d').place ≡ (end_of a old.link d).place
        → (side_of new.link true).queue.sent ≡ (side_of old.link true).queue.sent
    at true true e e' place = ap (λ (p : EndPlace). p.received) place
    at true false e e' place = absurd (no_true e')
    at false d' e e' place = absurd (no_true e)

-- of which each record of a drop stays
pub serve_full : (f g : Bool) (a b : List GName) (old new : Pair) → f ≡ true → (end_of b new.link g).place ≡ (end_of a old.link f).place → KeepsFull old new
serve_full f g a b old new is place = at f g is (ap (λ (p : EndPlace). p.first) place ∙ is) place
  where
    at : (d d' : Bool) → d ≡ true → d' ≡ true → (end_of b new.link d').place ≡ (end_of a old.link d).place → KeepsFull old new
    at true true e e' place = record {
      slots = ap (λ (p : EndPlace). p.own_slots) place;
      drops = stay_same (side_of old.link true).queue.drops (side_of new.link true).queue.drops (ap (λ (p : EndPlace). p.received_drops) place);
    }
    at true false e e' place = absurd (no_true e')
    at false d' e e' place = absurd (no_true e)

-- and nothing was taken from the client's queue
pub serve_taken : (f g : Bool) (a b : List GName) (old new : Pair) → f ≡ true → (end_of b new.link g).place ≡ (end_of a old.link f).place
    → (side_of new.link false).queue.taken ≡ (side_of old.link false).queue.taken
serve_taken f g a b old new is place = at f g is (ap (λ (p : EndPlace). p.first) place ∙ is) place
  where
    at : (d d' : Bool) → d ≡ true → d' ≡ true → (end_of b new.link d').place ≡ (end_of a old.link d).place
        → (side_of new.link false).queue.taken ≡ (side_of old.link false).queue.taken
    at true true e e' place = ap (λ (p : EndPlace). p.partner_taken) place
    at true false e e' place = absurd (no_true e')
    at false d' e e' place = absurd (no_true e)

-- which keeps the event that it kept
pub serve_kept : (f g : Bool) (a b : List GName) (old new : Pair) → f ≡ true → (end_of b new.link g).place ≡ (end_of a old.link f).place
    → (side_of new.link false).kept ≡ (side_of old.link false).kept
serve_kept f g a b old new is place = at f g is (ap (λ (p : EndPlace). p.first) place ∙ is) place
  where
    at : (d d' : Bool) → d ≡ true → d' ≡ true → (end_of b new.link d').place ≡ (end_of a old.link d).place
        → (side_of new.link false).kept ≡ (side_of old.link false).kept
    at true true e e' place = ap (λ (p : EndPlace). p.partner_kept) place
    at true false e e' place = absurd (no_true e')
    at false d' e e' place = absurd (no_true e)

-- a unit takes its queue for what it is, by whatever is the same of it
pub agrees_like : (units : List Unit) (k : ℕ) (q q' : EndState) → q'.registered ≡ q.registered → AgreesAt units k q → AgreesAt units k q'
agrees_like units k q q' same agrees = IfSome_then (slice_get units k) agrees
    (λ u is. record { down = λ e. same ∙ is.down e; on = λ e. same ∙ is.on e })

pub agrees_other : (units units' : List Unit) (k : ℕ) (q : EndState) → slice_get units' k ≡ slice_get units k → AgreesAt units k q → AgreesAt units' k q
agrees_other units units' k q same agrees = subst (λ (o : Option Unit). IfSome o (λ u. Agrees u.line.handshake q)) (sym same) agrees

-- a turn of the client's partition
drives_shut : (old new : Pair) → Drives old new → IsShutAlone old → IsShutAlone new
drives_shut old new d shut = at old.driver new.driver d.driver d.alone shut
  where
    at : (o p : Option Driver) → GoesOn old.window new.window o p
        → IfNone o ((side_of new.link false).registered ≡ (side_of old.link false).registered)
        → IfNone o ((side_of old.link false).registered ≡ false) → IfNone p ((side_of new.link false).registered ≡ false)
    at None None goes same shut = same ∙ shut
    at None (Some driver) goes same shut = tt
    at (Some driver) None goes same shut = absurd goes
    at (Some driver) (Some later) goes same shut = tt

pub linked_driven : (units : List Unit) (old new : List Pair) → AreDriven old new → AreLinked units old → AreLinked units new
linked_driven units old new are linked k pair found =
    let from = came_from Drives old new are.count are.each k pair found in
    let is = linked k from.0 from.1 in
    record {
      agrees = agrees_like units k _ _ from.2.server_registered is.agrees;
      shut = drives_shut from.0 pair from.2 is.shut;
    }

-- a pair of which nothing is registered, beside a unit that is down
shut_closed : (driver : Option Driver) (b : Bool) → b ≡ false → IfNone driver (b ≡ false)
shut_closed None b is = is
shut_closed (Some driver) b is = tt

pub linked_closed : (units : List Unit) (pairs : List Pair) → ((k : ℕ) → IfSome (slice_get units k) (λ u. u.line.handshake ≡ Down)) → AreClosed pairs → AreLinked units pairs
linked_closed units pairs down closed k pair found =
    let is = closed k pair found in
    record {
      agrees = IfSome_then (slice_get units k) (down k) (λ u e. record { down = λ same. is.server; on = λ apart. absurd (apart e) });
      shut = shut_closed pair.driver (side_of pair.link false).registered is.client;
    }
