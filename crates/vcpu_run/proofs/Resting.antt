-- What is so of the links of pairs where nothing was done at an end.
use Rattle.std.proofs.Common.{◌≡◌, ◌≢◌, ◌∙◌, ◌⊎◌, inl, inr, ℕ, ◌+◌, ◌<◌, zero, suc, Bool, false, List, [], ◌∷◌, Option, Some, None, Result, Ok, Err, IfOk, IfSome, IsSomeAnd, length, slice_get, slice_set, refl, sym, ap, ap₂, subst, arith}
use Rattle.std.specs.Borrow.{GName}
use Rattle.std.specs.Option.{option_map}
use Rattle.std.proofs.lemmas.Option.{slice_get-map, slice_get_within}
use Rattle.vio_num.specs.declared.hypervisor.Moved.{Moved}
use Rattle.vio_num.specs.declared.hypervisor.Moved.TheVariants as moves
use Rattle.vio_num.specs.declared.memory.NoMemory.{NoMemory}
use Rattle.crq_ring.specs.Sessions.{of_session}
use Rattle.crq_ring.specs.declared.rows.PipeRow.{PipeRow}
use Rattle.crq_session.specs.Answered.{received_now, taken_now}
use Rattle.crq_session.specs.EndState.{EndPlace, EndState, OnlyTakes}
use Rattle.crq_session.specs.declared.link.PlainLink.{PlainLink}
use Rattle.crq_session.specs.PlainState.{end_of, side_of}
use Rattle.tce_window.specs.PortState.{PortState}
use Rattle.vscsi_client.specs.Ports.{ports}
use Rattle.vscsi_client.specs.State.{ClientState}
use Rattle.vscsi_client.specs.Taking.{TakesNone}
use Rattle.vcpu_run.specs.declared.pair.Pair.{Pair}
use Rattle.vcpu_run.specs.declared.unit_seat.Seat.{Seat}
use Rattle.vcpu_run.specs.declared.unit_seat.Seat.TheVariants as sits
use Rattle.vcpu_run.specs.Links.{ClientWaits, EndRests, EndStays, EventStays, EventWaits, EventsWait, IsFull, LinkState, LinksRest, PairRests, link_state, links_of}
use Rattle.vcpu_run.specs.Quietly.{OnQuiet}
use Rattle.vcpu_run.proofs.Driving.{get_set_other, get_set_same, same_or, some_is}

-- a link of these parts
abbrev of_parts : ℕ → ℕ → Bool → List PipeRow → List PipeRow → ℕ → ℕ → Bool → List PipeRow → List PipeRow → LinkState
of_parts n s r p t n' s' r' p' t' = record {
  server = record { slots = n; session = s; registered = r; sent = p; taken = t };
  client = record { slots = n'; session = s'; registered = r'; sent = p'; taken = t' };
}

-- the client's end of a link
client_still : (a b : List GName) (old new : PlainLink) → EndStays (end_of a old false) (end_of b new false) → link_state new ≡ link_state old
client_still a b old new stays =
    let own_slots : new.second.queue.slots ≡ old.second.queue.slots = ap (λ (place : EndPlace). place.own_slots) stays.place in
    let slots : new.first.queue.slots ≡ old.first.queue.slots = ap (λ (place : EndPlace). place.partner_slots) stays.place in
    let received : new.second.queue.sent ≡ old.second.queue.sent = ap (λ (place : EndPlace). place.received) stays.place in
    let taken : new.first.queue.taken ≡ old.first.queue.taken = ap (λ (place : EndPlace). place.partner_taken) stays.place in
    let registered : new.first.registered ≡ old.first.registered = ap (λ (place : EndPlace). place.partner_registered) stays.place in
    made (new.first.queue.slots) (old.first.queue.slots) (new.first.queue.session) (old.first.queue.session) (new.first.registered) (old.first.registered)
    (new.first.queue.sent) (old.first.queue.sent) (new.first.queue.taken) (old.first.queue.taken)
    (new.second.queue.slots) (old.second.queue.slots) (new.second.queue.session) (old.second.queue.session) (new.second.registered) (old.second.registered)
    (new.second.queue.sent) (old.second.queue.sent) (new.second.queue.taken) (old.second.queue.taken)
    slots stays.partner registered stays.sent taken own_slots stays.session stays.registered received stays.taken
  where
    made : (a a' b b' : ℕ) (c c' : Bool) (d d' e e' : List PipeRow) (f f' g g' : ℕ) (h h' : Bool) (i i' j j' : List PipeRow)
        → a ≡ a' → b ≡ b' → c ≡ c' → d ≡ d' → e ≡ e' → f ≡ f' → g ≡ g' → h ≡ h' → i ≡ i' → j ≡ j'
        → of_parts a b c d e f g h i j ≡ of_parts a' b' c' d' e' f' g' h' i' j'
    made a a' b b' c c' d d' e e' f f' g g' h h' i i' j j' s t u v w x y z p q = cc

pub link_still : (f g : Bool) (a b : List GName) (old new : PlainLink) → f ≡ false → EndStays (end_of a old f) (end_of b new g) → link_state new ≡ link_state old
link_still f g a b old new is stays =
    let first : g ≡ f = ap (λ (place : EndPlace). place.first) stays.place in
    client_still a b old new
    (subst (λ (d : Bool). EndStays (end_of a old false) (end_of b new d)) (first ∙ is)
    (subst (λ (d : Bool). EndStays (end_of a old d) (end_of b new g)) is stays))

side_is : (f g : Bool) (a b : List GName) (old new : PlainLink) → f ≡ false → (end_of b new g).place ≡ (end_of a old f).place → g ≡ false
side_is f g a b old new is place = ap (λ (p : EndPlace). p.first) place ∙ is

both_sides : (P : Bool → Bool → Type 0) (f g : Bool) → f ≡ false → g ≡ false → P f g → P false false
both_sides P f g e e' p = subst (λ d. P false d) e' (subst (λ d. P d g) e p)

kept_still : (f g : Bool) (a b : List GName) (old new : PlainLink) → f ≡ false → (end_of b new g).place ≡ (end_of a old f).place
    → (end_of b new g).kept ≡ (end_of a old f).kept → (side_of new false).kept ≡ (side_of old false).kept
kept_still f g a b old new is place kept =
    both_sides (λ d d'. (side_of new d').kept ≡ (side_of old d).kept) f g is (side_is f g a b old new is place) kept

pub pair_rests : (f g : Bool) (a b : List GName) (old new : Pair) → f ≡ false → EndRests (end_of a old.link f) (end_of b new.link g) → PairRests old new
pair_rests f g a b old new is rests =
    let still : link_state new.link ≡ link_state old.link = link_still f g a b old.link new.link is rests.stays in
    record { still = still; event = inl (kept_still f g a b old.link new.link is rests.stays.place rests.kept) }

-- a client that found nothing
pub none_taken : (shared os : Bool) (e e' : EndState) (o o' : PortState) (s s' : ClientState) (number : ℕ) → TakesNone s s' (ports shared e os o) (ports shared e' os o') number
    → OnlyTakes shared e e' → shared ≡ false → EndRests e e'
none_taken shared os e e' o o' s s' number takes rest alone =
    let polls = takes.fetched.none in
    let room = polls.room in
    let ready = polls.ready in
    let stays : e'.taken ≡ room.taken → EndStays e e' = λ same. record {
      place = rest.place;
      session = rest.last_session;
      registered = rest.registered;
      sent = rest.sent;
      taken = same ∙ ready.taken;
      partner = rest.counts.same_session alone;
    } in
    elim polls.none as (λ _. EndRests e e') [
      | inl none ↦ record {
        stays = stays none.taken;
        kept = rest.kept;
        none = inr (none_left room e ready.last_session ready.place ready.taken (none.all_taken alone));
      }
      | inr closed ↦ record {
        stays = stays closed.2.taken;
        kept = rest.kept;
        none = inl (sym ready.registered ∙ closed.0);
      }
    ]
  where
    none_left : (x y : EndState) → x.last_session ≡ y.last_session → x.place ≡ y.place → x.taken ≡ y.taken → received_now x ≡ taken_now x → received_now y ≡ taken_now y
    none_left x y session place taken all =
        ap₂ of_session (sym session) (ap (λ (p : EndPlace). p.received) (sym place)) ∙ (all ∙ ap₂ of_session session taken)

-- a turn that moved is not quiet
pub not_quiet : moves.Moved ≡ moves.Quiet → ⊥
not_quiet e = cc

-- what is so of a result where it is there
pub ok_more : {T E : Type 0} (r : Result T E) (P Q : T → Type 0) → ((x : T) → P x → Q x) → IfOk r P → IfOk r Q
ok_more (Ok x) P Q step p = step x p
ok_more (Err e) P Q step p = tt

pub ok_both : {T E : Type 0} (r : Result T E) (P Q R : T → Type 0) → ((x : T) → P x → Q x → R x) → IfOk r P → IfOk r Q → IfOk r R
ok_both (Ok x) P Q R step p q = step x p q
ok_both (Err e) P Q R step p q = tt

-- a list in which nothing is replaced
set_same : {X : Type 0} (xs : List X) (i : ℕ) (x : X) → slice_get xs i ≡ Some x → slice_set xs i x ≡ xs
set_same [] i x there = cc
set_same (y ∷ ys) zero x there = ap (λ z. z ∷ ys) (sym (some_is y x there))
set_same (y ∷ ys) (suc i) x there = ap (λ zs. y ∷ zs) (set_same ys i x there)

pub quiet_set : {X : Type 0} (xs : List X) (i : ℕ) (old new : X) (r : Result Moved NoMemory) → slice_get xs i ≡ Some old → OnQuiet r (new ≡ old)
    → IfOk r (λ moved. moved ≡ moves.Quiet → slice_set xs i new ≡ xs)
quiet_set xs i old new (Ok moves.Quiet) there same = λ is. subst (λ x. slice_set xs i x ≡ xs) (sym same) (set_same xs i old there)
quiet_set xs i old new (Ok moves.Moved) there same = λ is. absurd (not_quiet is)
quiet_set xs i old new (Err none) there same = tt

-- lists of pairs
pub links_set : (pairs : List Pair) (i : ℕ) (old new : Pair) → slice_get pairs i ≡ Some old → link_state new.link ≡ link_state old.link → links_of (slice_set pairs i new) ≡ links_of pairs
links_set [] i old new there same = cc
links_set (p ∷ ps) zero old new there same = ap (λ l. l ∷ links_of ps) (same ∙ ap (λ (q : Pair). link_state q.link) (sym (some_is p old there)))
links_set (p ∷ ps) (suc i) old new there same = ap (λ ls. link_state p.link ∷ ls) (links_set ps i old new there same)

pub link_at : (pairs : List Pair) (k : ℕ) (pair : Pair) → slice_get pairs k ≡ Some pair → slice_get (links_of pairs) k ≡ Some (link_state pair.link)
link_at pairs k pair there = slice_get-map (λ (q : Pair). link_state q.link) pairs k ∙ ap (option_map (λ (q : Pair). link_state q.link)) there

pub waits_set : (P : LinkState → Type 0) (pairs : List Pair) (i : ℕ) (new : Pair) → i < length pairs → P (link_state new.link) → IsSomeAnd (slice_get (links_of (slice_set pairs i new)) i) P
waits_set P pairs i new less is =
    subst (λ o. IsSomeAnd o P) (sym (link_at (slice_set pairs i new) i new (get_set_same pairs i new less))) is

-- one seat more
pub rests_next : (seats : List Seat) (n : ℕ) (seat : Seat) (old new : List LinkState) → slice_get seats n ≡ Some seat → new ≡ old
    → ((u k : ℕ) → u < n → slice_get seats u ≡ Some (sits.Client k) → IsSomeAnd (slice_get old k) ClientWaits)
    → ((k : ℕ) → seat ≡ sits.Client k → IsSomeAnd (slice_get new k) ClientWaits)
    → (u k : ℕ) → u < n + 1 → slice_get seats u ≡ Some (sits.Client k) → IsSomeAnd (slice_get new k) ClientWaits
rests_next seats n seat old new there same before here u k less found = at (same_or u n)
  where
    at : (u ≡ n) ⊎ (u ≢ n) → IsSomeAnd (slice_get new k) ClientWaits
    at (inl e) = here k (some_is seat (sits.Client k) (sym there ∙ (ap (λ m. slice_get seats m) (sym e) ∙ found)))
    at (inr apart) = subst (λ (links : List LinkState). IsSomeAnd (slice_get links k) ClientWaits) (sym same) (before u k (omega (arith, less, apart)) found)

-- pairs that rest
event_on : (a b c : Pair) → EventStays a b → EventStays b c → EventStays a c
event_on a b c first next = elim next as (λ _. EventStays a c) [
  | inl same ↦ elim first as (λ _. EventStays a c) [ inl was ↦ inl (same ∙ was) | inr none ↦ inr (same ∙ none) ]
  | inr none ↦ inr none
]

pub rests_same : (pairs : List Pair) → LinksRest pairs pairs
rests_same pairs = record { still = refl; events = λ k pair found. subst (λ (o : Option Pair). IfSome o (λ before. EventStays before pair)) (sym found) (inl refl) }

pub rests_on : (a b c : List Pair) → LinksRest a b → LinksRest b c → LinksRest a c
rests_on a b c first next = record { still = next.still ∙ first.still; events = λ k pair found. at k pair (slice_get b k) refl (next.events k pair found) }
  where
    behind : (k : ℕ) (pair middle : Pair) (o : Option Pair) → EventStays middle pair → IfSome o (λ before. EventStays before middle) → IfSome o (λ before. EventStays before pair)
    behind k pair middle None later was = tt
    behind k pair middle (Some before) later was = event_on before middle pair was later

    no_link : (link : LinkState) → None ≡ Some link → ⊥
    no_link link e = cc

    gone : (k : ℕ) (before : Pair) → slice_get a k ≡ Some before → slice_get b k ≡ None → ⊥
    gone k before there none =
        let was : slice_get (links_of a) k ≡ Some (link_state before.link) = link_at a k before there in
        let now : slice_get (links_of b) k ≡ None = slice_get-map (λ (q : Pair). link_state q.link) b k ∙ ap (option_map (λ (q : Pair). link_state q.link)) none in
        no_link (link_state before.link) (sym now ∙ (ap (λ links. slice_get links k) first.still ∙ was))

    none_before : (k : ℕ) (pair : Pair) (o : Option Pair) → slice_get a k ≡ o → slice_get b k ≡ None → IfSome o (λ before. EventStays before pair)
    none_before k pair None e none = tt
    none_before k pair (Some before) there none = absurd (gone k before there none)

    at : (k : ℕ) (pair : Pair) (o : Option Pair) → slice_get b k ≡ o → IfSome o (λ middle. EventStays middle pair) → IfSome (slice_get a k) (λ before. EventStays before pair)
    at k pair None e later = none_before k pair (slice_get a k) refl e
    at k pair (Some middle) e later = behind k pair middle (slice_get a k) later (first.events k middle e)

-- a turn at one of them
pub rests_set : (pairs : List Pair) (i : ℕ) (old new : Pair) → slice_get pairs i ≡ Some old → PairRests old new → LinksRest pairs (slice_set pairs i new)
rests_set pairs i old new there rests = record {
  still = links_set pairs i old new there rests.still;
  events = λ k pair found. at k pair found (same_or k i);
}
  where
    at : (k : ℕ) (pair : Pair) → slice_get (slice_set pairs i new) k ≡ Some pair → (k ≡ i) ⊎ (k ≢ i) → IfSome (slice_get pairs k) (λ before. EventStays before pair)
    at k pair found (inl e) =
        let is : new ≡ pair =
        some_is new pair (sym (get_set_same pairs i new (slice_get_within pairs i old there)) ∙ (ap (λ n. slice_get (slice_set pairs i new) n) (sym e) ∙ found)) in
        subst (λ (o : Option Pair). IfSome o (λ before. EventStays before pair)) (sym (ap (λ n. slice_get pairs n) e ∙ there))
        (subst (λ (p : Pair). EventStays old p) is rests.event)
    at k pair found (inr apart) =
        subst (λ (o : Option Pair). IfSome o (λ before. EventStays before pair)) (sym (sym (get_set_other pairs i k new apart) ∙ found)) (inl refl)

pub events_set : (P : Pair → Type 0) (pairs : List Pair) (i : ℕ) (new : Pair) → i < length pairs → P new → IfSome (slice_get (slice_set pairs i new) i) P
events_set P pairs i new less is = subst (λ o. IfSome o P) (sym (get_set_same pairs i new less)) is

-- an event that waits still does once its pair rested
event_waits : (old new : Pair) → link_state new.link ≡ link_state old.link → EventStays old new → EventWaits old → EventWaits new
event_waits old new same stays waits = elim stays as (λ _. EventWaits new) [
  | inl kept ↦ elim waits as (λ _. EventWaits new) [
    | inl none ↦ inl (kept ∙ none)
    | inr full ↦ inr (subst (λ (l : LinkState). IsFull l.server) (sym same) full)
  ]
  | inr none ↦ inl none
]

event_rests : (k : ℕ) (old new : List Pair) → LinksRest old new → IfSome (slice_get old k) EventWaits → IfSome (slice_get new k) EventWaits
event_rests k old new rests wait = at (slice_get new k) refl
  where
    same_links : (before pair : Pair) → slice_get old k ≡ Some before → slice_get new k ≡ Some pair → link_state pair.link ≡ link_state before.link
    same_links before pair was now =
        link_is (link_state pair.link) (link_state before.link) (sym (link_at new k pair now) ∙ (ap (λ links. slice_get links k) rests.still ∙ link_at old k before was))
      where
        link_is : (x y : LinkState) → Some x ≡ Some y → x ≡ y
        link_is x y e = cc

    before : (pair : Pair) (o : Option Pair) → slice_get old k ≡ o → slice_get new k ≡ Some pair → IfSome o (λ before. EventStays before pair) → IfSome o EventWaits → EventWaits pair
    before pair None was now stays waits = absurd (none_there (link_state pair.link) (sym gone ∙ (sym (ap (λ links. slice_get links k) rests.still) ∙ link_at new k pair now)))
      where
        gone : slice_get (links_of old) k ≡ None
        gone = slice_get-map (λ (q : Pair). link_state q.link) old k ∙ ap (option_map (λ (q : Pair). link_state q.link)) was

        none_there : (link : LinkState) → None ≡ Some link → ⊥
        none_there link e = cc
    before pair (Some was) e now stays waits = event_waits was pair (same_links was pair e now) stays waits

    at : (o : Option Pair) → slice_get new k ≡ o → IfSome o EventWaits
    at None e = tt
    at (Some pair) e = before pair (slice_get old k) refl e (rests.events k pair e) wait

pub events_rest : (seats : List Seat) (old new : List Pair) → LinksRest old new → EventsWait seats old → EventsWait seats new
events_rest seats old new rests wait u k here = event_rests k old new rests (wait u k here)

pub events_next : (seats : List Seat) (n : ℕ) (seat : Seat) (old new : List Pair) → slice_get seats n ≡ Some seat → LinksRest old new
    → ((u k : ℕ) → u < n → slice_get seats u ≡ Some (sits.Client k) → IfSome (slice_get old k) EventWaits)
    → ((k : ℕ) → seat ≡ sits.Client k → IfSome (slice_get new k) EventWaits)
    → (u k : ℕ) → u < n + 1 → slice_get seats u ≡ Some (sits.Client k) → IfSome (slice_get new k) EventWaits
events_next seats n seat old new there rests before here u k less found = at (same_or u n)
  where
    at : (u ≡ n) ⊎ (u ≢ n) → IfSome (slice_get new k) EventWaits
    at (inl e) = here k (some_is seat (sits.Client k) (sym there ∙ (ap (λ m. slice_get seats m) (sym e) ∙ found)))
    at (inr apart) = event_rests k old new rests (before u k (omega (arith, less, apart)) found)
