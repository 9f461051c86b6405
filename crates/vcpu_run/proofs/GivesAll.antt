-- What is taken at pairs keeps the answers of their clients in order.
use Rattle.std.proofs.Common.{◌≡◌, ◌≢◌, ◌∙◌, ◌⊎◌, inl, inr, ℕ, Bool, true, false, List, [], Option, Some, None, Result, Ok, Err, IsSomeAnd, OnOk, slice_get, slice_set, refl, sym, ap, subst}
use Rattle.std.proofs.lemmas.Option.{slice_get_within}
use Rattle.std.specs.Borrow.{GName}
use Rattle.crq_session.specs.EndState.{EndPlace}
use Rattle.crq_session.specs.PlainState.{end_of, side_of}
use Rattle.crq_session.specs.declared.link.PlainLink.{PlainLink}
use Rattle.vscsi_client.specs.State.{ClientState}
use Rattle.vscsi_client.specs.Turned.{unlinked}
use Rattle.vcpu_run.specs.declared.driver.Driver.{Driver}
use Rattle.vcpu_run.specs.declared.pair.Pair.{Pair}
use Rattle.vcpu_run.specs.Agreed.{OnDrivers}
use Rattle.vio_num.specs.declared.memory.NoMemory.{NoMemory}
use Rattle.unit_region.specs.declared.step.Step.{Step}
use Rattle.vcpu_run.specs.EventsHeard.{Hears, StepHears, events_waiting, lost_in}
use Rattle.vcpu_run.specs.TakenScripts.{AllGive, PairGives, PairHears}
use Rattle.vcpu_run.specs.Takings.{AreGiven, Gives, IsBegun, waiting}
use Rattle.vcpu_run.proofs.Announcing.{both_bools}
use Rattle.vcpu_run.proofs.Driving.{get_set_other, get_set_same, same_or, some_is}
use Rattle.vcpu_run.proofs.DataStays.{data_same}
use Rattle.vcpu_run.proofs.Giving.{gives_on, gives_same, still_gives}

-- a registered queue is in a session
pub begun_at : (link : PlainLink) → IsBegun (end_of [] link false)
begun_at link = λ on. (side_of link false).begun on

-- an end is the same through whichever borrows
given_through : (driver : Driver) (x y : List GName) (link : PlainLink) → AreGiven driver (end_of x link false) → AreGiven driver (end_of y link false)
given_through driver x y link is = record { begun = is.begun; order = is.order; rest = is.rest; each = is.each }

gives_through : (x y : List GName) (a b : Driver) (old new : PlainLink) → Gives a b (end_of x old false) (end_of y new false) → Gives a b (end_of [] old false) (end_of [] new false)
gives_through x y a b old new is = record {
  heard = is.heard;
  server = is.server;
  keeps = is.keeps;
  more = is.more;
  session = is.session;
  given = λ begun given. given_through b y [] new (is.given begun (given_through a [] x old given));
}

-- the client's end was lent, and is the pair's again
pub gives_link : (f g : Bool) (x y : List GName) (a b : Driver) (lent old link : PlainLink) → lent ≡ old → f ≡ false → g ≡ false
    → Gives a b (end_of x lent f) (end_of y link g) → Gives a b (end_of [] old false) (end_of [] link false)
gives_link f g x y a b lent old link same first next is =
    gives_through x y a b old link
    (subst (λ (l : PlainLink). Gives a b (end_of x l false) (end_of y link false)) same
    (subst (λ (d : Bool). Gives a b (end_of x lent d) (end_of y link false)) first
    (subst (λ (d : Bool). Gives a b (end_of x lent f) (end_of y link d)) next is)))

pub pair_gives : (old new : Pair) (a b : Driver) → old.driver ≡ Some a → new.driver ≡ Some b → Gives a b (end_of [] old.link false) (end_of [] new.link false) → PairGives old new
pair_gives old new a b before after is =
    subst (λ (o : Option Driver). OnDrivers o new.driver (λ a b. Gives a b (end_of [] old.link false) (end_of [] new.link false))) (sym before)
    (subst (λ (o : Option Driver). OnDrivers (Some a) o (λ a b. Gives a b (end_of [] old.link false) (end_of [] new.link false))) (sym after) is)

-- the same of the answer of a call at the lent end
pub pair_gives_ok : {T : Type 0} {E : Type 0} (r : Result T E) (old new : Pair) (a b : Driver) (f g : Bool) (x y : List GName) (lent : PlainLink) → old.driver ≡ Some a → new.driver ≡ Some b
    → lent ≡ old.link → f ≡ false → g ≡ false → OnOk r (Gives a b (end_of x lent f) (end_of y new.link g)) → OnOk r (PairGives old new)
pair_gives_ok (Ok t) old new a b f g x y lent before after same first next is =
    pair_gives old new a b before after (gives_link f g x y a b lent old.link new.link same first next is)
pair_gives_ok (Err e) old new a b f g x y lent before after same first next is = tt

gives_pair : (pair : Pair) → PairGives pair pair
gives_pair pair = at pair.driver
  where
    at : (o : Option Driver) → OnDrivers o o (λ a b. Gives a b (end_of [] pair.link false) (end_of [] pair.link false))
    at None = tt
    at (Some driver) = gives_same driver (end_of [] pair.link false)

pub gives_next : (a b c : Pair) → PairGives a b → PairGives b c → PairGives a c
gives_next a b c = at a.driver b.driver c.driver
  where
    at : (x y z : Option Driver) → OnDrivers x y (λ d e. Gives d e (end_of [] a.link false) (end_of [] b.link false))
        → OnDrivers y z (λ d e. Gives d e (end_of [] b.link false) (end_of [] c.link false)) → OnDrivers x z (λ d e. Gives d e (end_of [] a.link false) (end_of [] c.link false))
    at None None None first next = tt
    at None None (Some f) first next = absurd next
    at None (Some e) z first next = absurd first
    at (Some d) None z first next = absurd first
    at (Some d) (Some e) None first next = absurd next
    at (Some d) (Some e) (Some f) first next = gives_on d e f (end_of [] a.link false) (end_of [] b.link false) (end_of [] c.link false) first next

-- the queue of a client, through whichever borrow, is the pair's
pub link_taken : (f g : Bool) (x y : List GName) (lent old link : PlainLink) → lent ≡ old → f ≡ false → (end_of y link g).place ≡ (end_of x lent f).place
    → (end_of y link g).taken ≡ (end_of x lent f).taken → (side_of link false).queue.taken ≡ (side_of old false).queue.taken
link_taken f g x y lent old link same first place taken = at f g first (ap (λ (p : EndPlace). p.first) place ∙ first) taken
  where
    at : (d d' : Bool) → d ≡ false → d' ≡ false → (end_of y link d').taken ≡ (end_of x lent d).taken → (side_of link false).queue.taken ≡ (side_of old false).queue.taken
    at false false e e' is = is ∙ ap (λ (l : PlainLink). (side_of l false).queue.taken) same
    at false true e e' is = absurd (both_bools true refl e')
    at true d' e e' is = absurd (both_bools true refl e)

-- nothing was taken, and the driver is as before
pub gives_kept : (o : Option Driver) (old new : PlainLink) → (side_of new false).queue.taken ≡ (side_of old false).queue.taken
    → OnDrivers o o (λ a b. Gives a b (end_of [] old false) (end_of [] new false))
gives_kept None old new taken = tt
gives_kept (Some driver) old new taken = still_gives driver driver (end_of [] old false) (end_of [] new false) refl refl (data_same driver.client driver.client driver.answers.items driver.answers.items refl refl refl) refl refl refl taken (λ begun. begun_at new)

-- the driver was told that its queue was freed
pub gives_told : (a b : Driver) (link : PlainLink) → b.answers ≡ a.answers → b.client ≡ unlinked a.client → Gives a b (end_of [] link false) (end_of [] link false)
gives_told a b link answers client =
    still_gives a b (end_of [] link false) (end_of [] link false) (ap events_waiting client) (ap (λ (s : ClientState). s.server) client)
    (data_same a.client b.client a.answers.items b.answers.items (ap (λ (s : ClientState). s.rows) client) (ap (λ (s : ClientState). s.outgoing) client) (ap (λ xs. xs.items) answers)) (ap (λ xs. xs.items) answers) (ap (λ (s : ClientState). s.kept) client) (ap waiting client) refl (λ begun. begun)

-- nothing was taken at any pair
pub all_give_same : (pairs : List Pair) → AllGive pairs pairs
all_give_same pairs k after there = subst (λ (o : Option Pair). IsSomeAnd o (λ before. PairGives before after)) (sym there) (gives_pair after)

-- one turn behind another
pub all_give_on : (a b c : List Pair) → AllGive a b → AllGive b c → AllGive a c
all_give_on a b c first next k after there = at (slice_get b k) refl (next k after there)
  where
    last : (o : Option Pair) (mid : Pair) → IsSomeAnd o (λ before. PairGives before mid) → PairGives mid after → IsSomeAnd o (λ before. PairGives before after)
    last None mid x y = absurd x
    last (Some before) mid x y = gives_next before mid after x y

    at : (o : Option Pair) → slice_get b k ≡ o → IsSomeAnd o (λ before. PairGives before after) → IsSomeAnd (slice_get a k) (λ before. PairGives before after)
    at None e h = absurd h
    at (Some mid) e h = last (slice_get a k) mid (first k mid e) h

-- at one pair
pub all_give_set : (pairs : List Pair) (i : ℕ) (old new : Pair) → slice_get pairs i ≡ Some old → PairGives old new → AllGive pairs (slice_set pairs i new)
all_give_set pairs i old new here gives k after there = at (same_or k i)
  where
    at : (k ≡ i) ⊎ (k ≢ i) → IsSomeAnd (slice_get pairs k) (λ before. PairGives before after)
    at (inl e) =
        let now : after ≡ new = some_is after new (sym there ∙ (ap (slice_get (slice_set pairs i new)) e ∙ get_set_same pairs i new (slice_get_within pairs i old here))) in
        subst (λ (o : Option Pair). IsSomeAnd o (λ before. PairGives before after)) (sym (ap (slice_get pairs) e ∙ here)) (subst (PairGives old) (sym now) gives)
    at (inr apart) = subst (λ (o : Option Pair). IsSomeAnd o (λ before. PairGives before after)) (sym there ∙ get_set_other pairs i k new apart) (gives_pair after)

pub all_give_ok : {T : Type 0} {E : Type 0} (r : Result T E) (pairs : List Pair) (i : ℕ) (old new : Pair) → slice_get pairs i ≡ Some old → OnOk r (PairGives old new)
    → OnOk r (AllGive pairs (slice_set pairs i new))
all_give_ok (Ok t) pairs i old new here gives = all_give_set pairs i old new here gives
all_give_ok (Err e) pairs i old new here gives = tt

hears_at : (r : Result Step NoMemory) (f g : Bool) (x y : List GName) (s s' : ClientState) (lent old link : PlainLink) → lent ≡ old → f ≡ false → g ≡ false
    → StepHears r s s' (end_of x lent f) (end_of y link g) → StepHears r s s' (end_of [] old false) (end_of [] link false)
hears_at (Err e) f g x y s s' lent old link same first next is = tt
hears_at (Ok t) f g x y s s' lent old link same first next is =
    subst (λ (l : PlainLink). Hears (lost_in t) s s' (end_of [] l false) (end_of [] link false)) same
    (subst (λ (d : Bool). Hears (lost_in t) s s' (end_of [] lent d) (end_of [] link false)) first
    (subst (λ (d : Bool). Hears (lost_in t) s s' (end_of [] lent f) (end_of [] link d)) next is))

-- the same of what a step of a line tells that was lost
pub pair_hears : (r : Result Step NoMemory) (old new : Pair) (a b : Driver) (f g : Bool) (x y : List GName) (lent : PlainLink) → old.driver ≡ Some a → new.driver ≡ Some b
    → lent ≡ old.link → f ≡ false → g ≡ false → StepHears r a.client b.client (end_of x lent f) (end_of y new.link g) → PairHears old new r
pair_hears r old new a b f g x y lent before after same first next is =
    subst (λ (o : Option Driver). OnDrivers o new.driver (λ a b. StepHears r a.client b.client (end_of [] old.link false) (end_of [] new.link false))) (sym before)
    (subst (λ (o : Option Driver). OnDrivers (Some a) o (λ a b. StepHears r a.client b.client (end_of [] old.link false) (end_of [] new.link false))) (sym after)
    (hears_at r f g x y a.client b.client lent old.link new.link same first next is))
