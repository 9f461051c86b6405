-- Why a turn did nothing, step by step.
use Rattle.std.proofs.Common.{◌≡◌, ◌≢◌, ◌⊎◌, ◌||◌, inl, inr, ℕ, ◌≤◌, Bool, true, false, List, [], ◌∷◌, Option, Some, None, Result, Ok, Err, OnOk, IfOk, refl, sym, ◌∙◌, ap, ap₂, subst, arith}
use Rattle.vio_num.specs.Counts.{Rose}
use Rattle.vio_num.specs.declared.entry.Entry.{Entry}
use Rattle.vio_num.specs.declared.hypervisor.Moved.{Moved}
use Rattle.vio_num.specs.declared.hypervisor.Moved.TheVariants.{Quiet}
use Rattle.vio_num.specs.declared.memory.NoMemory.{NoMemory}
use Rattle.crq_session.specs.declared.handshake.Handshake.{Handshake}
use Rattle.crq_session.specs.declared.handshake.Handshake.TheVariants.{Down}
use Rattle.crq_session.specs.declared.answers.PollAnswer.{PollAnswer}
use Rattle.crq_session.specs.declared.answers.PollAnswer.TheVariants as polling
use Rattle.crq_session.specs.declared.answers.RegAnswer.{RegAnswer}
use Rattle.crq_session.specs.declared.answers.RegAnswer.TheVariants as registering
use Rattle.crq_session.specs.declared.answers.SendAnswer.{SendAnswer}
use Rattle.crq_session.specs.declared.answers.SendAnswer.TheVariants as sending
use Rattle.crq_session.specs.Answers.{IfClosed, IfEmpty, IfHeldUp, OnNotPolled, OnNotRegistered, OnNotSent}
use Rattle.crq_session.specs.Answered.{FindsFull, FindsInUse, FindsNone, HoldsUp, LosesKept, PutsNone, SendsNone, TurnsBack}
use Rattle.crq_session.specs.EndState.{EndCounts, EndState, OnlyPushes, OnlyReserves, OnlySends, OnlyTakes, Rises}
use Rattle.block_server.specs.Advances.{Advances}
use Rattle.block_server.specs.Ready.{Agrees, Idles, MeetsEmpty, MeetsFull, MeetsSender}
use Rattle.block_server.specs.Receipts.{is_down, is_ended}
use Rattle.block_server.specs.SiteState.{SiteState}
use Rattle.block_server.specs.Waits.{AsNext, EndsIntake, FindsNothing, IsHeldUp, IsIdle, IsPending, MeetsUse, PassesKept, StandsOpen, StopsIntake, StopsOpening}
use Rattle.block_server.specs.declared.fetching.Progress.{Progress}
use Rattle.block_server.specs.declared.fetching.Progress.TheVariants.{Busy}
use Rattle.block_server.specs.declared.intake.Next.{Next}
use Rattle.block_server.specs.declared.intake.Next.TheVariants as nexts
use Rattle.block_server.specs.declared.unit.Unit.{Unit}
use Rattle.block_server.specs.declared.request.Request.{Request}
use Rattle.block_server.proofs.Advancing.{advances_on}
use Rattle.block_server.proofs.Quieting.{lost_none, still_on, still_reserves, still_same}

rises_same : (shared : Bool) (counts : EndCounts) → Rises shared counts counts
rises_same shared counts = record {
  partner_session = omega arith;
  same_session = λ alone. refl;
  full = omega arith;
  empty = omega arith;
  closed = omega arith;
  in_use = omega arith;
}

rises_equal : (shared : Bool) (old new : EndCounts) → new ≡ old → Rises shared old new
rises_equal shared old new same = rw same (rises_same shared old)

rises_on : (shared : Bool) (a b c : EndCounts) → Rises shared a b → Rises shared b c → Rises shared a c
rises_on shared a b c first next = record {
  partner_session = omega (arith, first.partner_session, next.partner_session);
  same_session = λ alone. next.same_session alone ∙ first.same_session alone;
  full = omega (arith, first.full, next.full);
  empty = omega (arith, first.empty, next.empty);
  closed = omega (arith, first.closed, next.closed);
  in_use = omega (arith, first.in_use, next.in_use);
}

pub idles_same : (shared : Bool) (queue : EndState) → Idles shared queue queue
idles_same shared queue = record {
  still = still_same queue;
  place = refl;
  drops = refl;
  counts = rises_same shared queue.counts;
  kept = λ none. none;
}

pub idles_equal : (shared : Bool) (old new : EndState) → new ≡ old → Idles shared old new
idles_equal shared old new same = rw same (idles_same shared old)

pub idles_on : (shared : Bool) (a b c : EndState) → Idles shared a b → Idles shared b c → Idles shared a c
idles_on shared a b c first next = record {
  still = still_on a b c first.still next.still;
  place = next.place ∙ first.place;
  drops = next.drops ∙ first.drops;
  counts = rises_on shared a.counts b.counts c.counts first.counts next.counts;
  kept = λ none. next.kept (first.kept none);
}

pub idles_reserves : (shared : Bool) (old new : EndState) → OnlyReserves old new → Idles shared old new
idles_reserves shared old new rest = record {
  still = still_reserves old new rest;
  place = rest.place;
  drops = rest.drops;
  counts = rises_equal shared old.counts new.counts rest.counts;
  kept = λ none. rest.kept ∙ none;
}

lost_drops : (shared : Bool) (kept : Option Entry) (old new : EndState) → LosesKept shared kept old new → new.drops ≡ old.drops
lost_drops shared None old new none = none.drops
lost_drops shared (Some event) old new lost = lost.none.drops

-- a kept event that is none any more was lost, or there was none
pub idles_pushes : (shared : Bool) (old new : EndState) → OnlyPushes shared old new → PutsNone shared old new → Idles shared old new
idles_pushes shared old new rest none = record {
  still = record { taken = rest.taken; sent = lost_none shared old.kept old new none.loses; registered = rest.registered; session = rest.last_session };
  place = rest.place;
  drops = lost_drops shared old.kept old new none.loses;
  counts = rest.counts;
  kept = λ none_kept. none.kept;
}

-- an entry that was not put
pub idles_sends : (shared : Bool) (old new : EndState) → OnlySends shared old new → SendsNone old new → Idles shared old new
idles_sends shared old new rest none = record {
  still = record { taken = rest.taken; sent = none.sent; registered = rest.registered; session = rest.last_session };
  place = rest.place;
  drops = none.drops;
  counts = rest.counts;
  kept = λ none_kept. rest.kept ∙ none_kept;
}

-- a poll that took nothing
pub idles_takes : (shared : Bool) (old new : EndState) → OnlyTakes shared old new → new.taken ≡ old.taken → Idles shared old new
idles_takes shared old new rest taken = record {
  still = record { taken = taken; sent = rest.sent; registered = rest.registered; session = rest.last_session };
  place = rest.place;
  drops = rest.drops;
  counts = rest.counts;
  kept = λ none. rest.kept ∙ none;
}

pub full_later : (shared : Bool) (a b c : EndState) → Idles shared a b → MeetsFull shared b c → MeetsFull shared a c
full_later shared a b c idles meets = record {
  before = meets.before;
  idles = idles_on shared a b meets.before idles meets.idles;
  number = meets.number;
  held = meets.held;
  full = meets.full;
}

pub sender_later : (shared : Bool) (a b c : EndState) → Idles shared a b → MeetsSender shared b c → MeetsSender shared a c
sender_later shared a b c idles meets = record {
  before = meets.before;
  idles = idles_on shared a b meets.before idles meets.idles;
  word = meets.word;
  inside = meets.inside;
}

pub empty_later : (shared : Bool) (a b c : EndState) → Idles shared a b → MeetsEmpty shared b c → MeetsEmpty shared a c
empty_later shared a b c idles meets = record {
  before = meets.before;
  idles = idles_on shared a b meets.before idles meets.idles;
  number = meets.number;
  none = meets.none;
  kept = λ none. meets.kept (idles.kept none);
}

pub nothing_later : (shared : Bool) (a b c : EndState) → Idles shared a b → FindsNothing shared b c → FindsNothing shared a c
nothing_later shared a b c idles (inl empty) = inl (empty_later shared a b c idles empty.0, empty.1)
nothing_later shared a b c idles (inr unregistered) = inr unregistered

rose_later : (a b c : ℕ) → a ≤ b → Rose b c → Rose a c
rose_later a b c below rose = omega (arith, below, rose)

rose_sooner : (a b c : ℕ) → Rose a b → b ≤ c → Rose a c
rose_sooner a b c rose above = omega (arith, rose, above)

either_map : (A B C D : Type 0) → (A → C) → (B → D) → A ⊎ B → C ⊎ D
either_map A B C D f g (inl a) = inl (f a)
either_map A B C D f g (inr b) = inr (g b)

pub uses_later : (old mid new : SiteState) → Advances old mid → MeetsUse mid new → MeetsUse old new
uses_later old mid new first met = record {
  shared_is = sym first.shared ∙ met.shared_is;
  rose = either_map _ _ _ _ (rose_later old.own.in_use mid.own.in_use new.own.in_use first.own_in_use)
      (rose_later old.client.in_use mid.client.in_use new.client.in_use first.client_in_use) met.rose;
}

pub uses_sooner : (old mid new : SiteState) → MeetsUse old mid → Advances mid new → MeetsUse old new
uses_sooner old mid new met next = record {
  shared_is = met.shared_is;
  rose = either_map _ _ _ _ (λ rose. rose_sooner old.own.in_use mid.own.in_use new.own.in_use rose next.own_in_use)
      (λ rose. rose_sooner old.client.in_use mid.client.in_use new.client.in_use rose next.client_in_use) met.rose;
}

pub idle_use : (shared : Bool) (old new : SiteState) (unit : Unit) → MeetsUse old new → IsIdle shared old new unit
idle_use shared old new unit met = inr (inr (inr (inl met)))

pub idle_full : (shared : Bool) (old new : SiteState) (unit : Unit) → MeetsFull shared old.queue new.queue → IsIdle shared old new unit
idle_full shared old new unit full = inr (inl full)

pub idle_opening : (shared : Bool) (old new : SiteState) (unit : Unit) → StopsOpening shared unit old.queue new.queue → IsIdle shared old new unit
idle_opening shared old new unit (inl full) = inr (inl full)
idle_opening shared old new unit (inr (inl sender)) = inr (inr (inl sender))
idle_opening shared old new unit (inr (inr astray)) = inl astray

pub held_later : (shared : Bool) (old mid new : SiteState) → Advances old mid → Idles shared old.queue mid.queue
    → IsHeldUp shared mid new → IsHeldUp shared old new
held_later shared old mid new first idles (inl met) = inl (uses_later old mid new first met)
held_later shared old mid new first idles (inr full) = inr (full_later shared old.queue mid.queue new.queue idles full)

idle_held : (shared : Bool) (old new : SiteState) (unit : Unit) → IsHeldUp shared old new → IsIdle shared old new unit
idle_held shared old new unit (inl met) = idle_use shared old new unit met
idle_held shared old new unit (inr full) = idle_full shared old new unit full

-- a turn that went through its steps, up to intake, and then had nothing to serve
idle_intake : (shared : Bool) (old opened passed ended : SiteState) (u1 u2 u3 : Unit) → Advances old passed
    → StandsOpen shared u1 old.queue opened.queue → PassesKept shared u1 u2 opened.queue passed.queue
    → u3.line ≡ u2.line → Idles shared passed.queue ended.queue → u3.pending.items ≡ [] → StopsIntake shared u3 passed ended → IsIdle shared old ended u3
idle_intake shared old opened passed ended u1 u2 u3 first opens passes line idles empty (inl met) =
    idle_use shared old ended u3 (uses_later old passed ended first met)
idle_intake shared old opened passed ended u1 u2 u3 first opens passes line idles empty (inr (inl pending)) = absurd (pending empty)
idle_intake shared old opened passed ended u1 u2 u3 first opens passes line idles empty (inr (inr (waiting, inl found))) =
    inr (inr (inr (inr (
      empty_later shared old.queue passed.queue ended.queue (idles_on shared old.queue opened.queue passed.queue opens.passes.idles passes.idles) found.0,
      (
        found.1,
        (
          idles.kept (passes.idles.kept opens.passes.none),
          record { waiting = waiting; pending = empty; kept = ap (λ l. l.kept) line ∙ passes.none; going = ap is_ended line ∙ (goes ∙ opens.going) },
        ),
      ),
    ))))
  where
    goes : is_ended u2.line ≡ is_ended u1.line
    goes = ap₂ (λ closing handshake. closing || is_down handshake) passes.closing passes.handshake
idle_intake shared old opened passed ended u1 u2 u3 first opens passes line idles empty (inr (inr (waiting, inr unregistered))) =
    inl (λ is. off (is.on (λ down. opens.on (sym passes.handshake ∙ sym (ap (λ l. l.handshake) line) ∙ down))))
  where
    off : ended.queue.registered ≡ true → ⊥
    off on = cc (on, unregistered)

-- a turn that went through all of its steps
pub idle_turn : (shared : Bool) (old opened passed ended new : SiteState) (u1 u2 u3 u4 : Unit)
    → Advances old passed → Advances passed ended
    → StandsOpen shared u1 old.queue opened.queue → PassesKept shared u1 u2 opened.queue passed.queue → EndsIntake shared u2 u3 passed ended
    → (IsPending u3 → IsHeldUp shared ended new) → (u3.pending.items ≡ [] → u4 ≡ u3) → (u3.pending.items ≡ [] → new ≡ ended)
    → IsIdle shared old new u4
idle_turn shared old opened passed ended new u1 u2 u3 u4 first next opens passes intake waits none still = by u3.pending.items refl
  where
    by : (items : List Request) → u3.pending.items ≡ items → IsIdle shared old new u4
    by [] e =
        subst (λ site. IsIdle shared old site u4) (sym (still e)) (subst (IsIdle shared old ended) (sym (none e))
        (idle_intake shared old opened passed ended u1 u2 u3 first opens passes intake.line intake.idles e intake.stops))
    by (request ∷ items) e =
        idle_held shared old new u4 (held_later shared old ended new (advances_on old passed ended first next)
        (idles_on shared old.queue passed.queue ended.queue (idles_on shared old.queue opened.queue passed.queue opens.passes.idles passes.idles) intake.idles)
        (waits (λ empty. cc (e, empty))))

-- what a result says of a page in use, of an earlier site
pub busy_on : (result : Result Progress NoMemory) (P Q : Type 0) → (P → Q) → IfOk result (λ progress. progress ≡ Busy → P)
    → IfOk result (λ progress. progress ≡ Busy → Q)
busy_on (Ok progress) P Q next is = λ busy. next (is busy)
busy_on (Err fault) P Q next is = tt

-- what a result says, or a page in use, of an earlier site
pub went_on : {X Y : Type 0} (result : Result X Y) (A P Q : Type 0) → (P → Q) → OnOk result (A ⊎ P) → OnOk result (A ⊎ Q)
went_on (Ok x) A P Q next (inl a) = inl a
went_on (Ok x) A P Q next (inr p) = inr (next p)
went_on (Err y) A P Q next is = tt

-- where something was done in a turn that says that nothing was: nothing is so
pub not_moved : (moved : Bool) (P : Type 0) → moved ≡ true → moved ≡ false → P
not_moved moved P done none = absurd (cc (done, none))

-- where the unit takes its queue for registered exactly where it is, nothing was ready
pub idle_ready : (A R : Type 0) → A → ¬ A ⊎ R → R
idle_ready A R agreed (inl astray) = absurd (astray agreed)
idle_ready A R agreed (inr ready) = ready

-- a slot that was full, and a sender that was inside
pub full_now : (shared : Bool) (old new : EndState) (number held : ℕ) → FindsFull shared old new number held → MeetsFull shared old new
full_now shared old new number held full = record { before = old; idles = idles_same shared old; number = number; held = held; full = full }

pub sender_now : (shared : Bool) (old new : EndState) (word : ℕ) → FindsInUse shared old new word → MeetsSender shared old new
sender_now shared old new word inside = record { before = old; idles = idles_same shared old; word = word; inside = inside }

-- by what comes next
pub next_over : (next : Next) (A B C : Type 0) → next ≡ nexts.End → AsNext next A B C → C
next_over nexts.End A B C is over = over
next_over nexts.Entry A B C is over = absurd (cc (is))
next_over nexts.Service A B C is over = absurd (cc (is))

pub next_on : (next : Next) (A C : Type 0) → next ≢ nexts.End → AsNext next A ⊥ C → A
next_on nexts.End A C apart on = absurd (apart refl)
next_on nexts.Entry A C apart on = on
next_on nexts.Service A C apart on = absurd on

pub next_entry : (next : Next) (A B : Type 0) → next ≡ nexts.Entry → AsNext next A B ⊥ → A
next_entry nexts.Entry A B is on = on
next_entry nexts.Service A B is on = absurd (cc (is))
next_entry nexts.End A B is on = absurd (cc (is))

pub next_service : (next : Next) (B : Type 0) → AsNext next ⊥ B ⊥ → B
next_service nexts.Service B on = on
next_service nexts.Entry B on = absurd on
next_service nexts.End B on = absurd on

pub next_apart : (next : Next) (A B D : Type 0) → next ≢ nexts.Entry → (B → D) → AsNext next A B ⊥ → AsNext next ⊥ D ⊥
next_apart nexts.Entry A B D apart f on = absurd (apart refl)
next_apart nexts.Service A B D apart f on = f on
next_apart nexts.End A B D apart f on = on

-- of two things that are said of a result
pub on_both : {X Y : Type 0} (result : Result X Y) (P Q R : Type 0) → (P → Q → R) → OnOk result P → OnOk result Q → OnOk result R
on_both (Ok x) P Q R f p q = f p q
on_both (Err y) P Q R f p q = tt

-- where something was done, nothing is said of why nothing was
pub if_moved : {X Y : Type 0} (result : Result X Y) (moved : Bool) (P : X → Type 0) → OnOk result (moved ≡ true) → IfOk result (λ x. moved ≡ false → P x)
if_moved (Ok x) moved P done = λ none. absurd (cc (done, none))
if_moved (Err y) moved P done = tt

pub on_moved : {X Y : Type 0} (result : Result X Y) (moved : Bool) (P : Type 0) → OnOk result (moved ≡ true) → OnOk result (moved ≡ false → P)
on_moved (Ok x) moved P done = λ none. absurd (cc (done, none))
on_moved (Err y) moved P done = tt

-- a poll that took nothing
pub poll_idles : (shared : Bool) (old new : EndState) (answer : PollAnswer) → ((number : ℕ) (entry : Entry) → answer ≡ polling.Got number entry → ⊥)
    → IfEmpty answer (FindsNone shared old new) → OnNotPolled answer (OnlyReserves old new) → OnlyTakes shared old new → Idles shared old new
poll_idles shared old new (polling.Got number entry) got empty refused rest = absurd (got number entry refl)
poll_idles shared old new (polling.Empty number) got empty refused rest = idles_takes shared old new rest empty.taken
poll_idles shared old new polling.NotRegistered got empty refused rest = idles_reserves shared old new refused

pub poll_nothing : (shared : Bool) (old new : EndState) (answer : PollAnswer) → ((number : ℕ) (entry : Entry) → answer ≡ polling.Got number entry → ⊥)
    → ((answer ≡ polling.NotRegistered) → old.registered ≡ false) → IfEmpty answer (FindsNone shared old new) → OnlyTakes shared old new → FindsNothing shared old new
poll_nothing shared old new (polling.Got number entry) got off empty rest = absurd (got number entry refl)
poll_nothing shared old new (polling.Empty number) got off empty rest = inl (
  record { before = old; idles = idles_same shared old; number = number; none = empty; kept = λ none. rest.kept ∙ none },
  rest.registered ∙ empty.registered,
)
poll_nothing shared old new polling.NotRegistered got off empty rest = inr (rest.registered ∙ off refl)

-- an entry that was neither put nor found its slot full
pub send_idles : (shared : Bool) (old new : EndState) (answer : SendAnswer) → ((number : ℕ) → answer ≡ sending.Success number → ⊥)
    → ((number held : ℕ) → answer ≡ sending.Dropped number held → ⊥) → IfClosed answer (TurnsBack shared old new) → OnNotSent answer (OnlyReserves old new)
    → OnlySends shared old new → Idles shared old new
send_idles shared old new (sending.Success number) success dropped closed refused rest = absurd (success number refl)
send_idles shared old new (sending.Dropped number held) success dropped closed refused rest = absurd (dropped number held refl)
send_idles shared old new (sending.Closed control) success dropped closed refused rest = idles_sends shared old new rest closed.none
send_idles shared old new sending.Parameter success dropped closed refused rest = idles_reserves shared old new refused
send_idles shared old new sending.NotRegistered success dropped closed refused rest = idles_reserves shared old new refused

on_off : (queue : EndState) → queue.registered ≡ true → queue.registered ≡ false → ⊥
on_off queue on off = cc (on, off)

-- the queue was not registered, since the kept event found its slot full, or it was registered already
pub register_stops : (shared : Bool) (h : Handshake) (old new : EndState) (answer : RegAnswer) → (answer ≡ registering.Success → ⊥)
    → ((control : ℕ) → answer ≡ registering.Closed control → ⊥) → h ≡ Down → IfHeldUp answer (HoldsUp shared old new)
    → OnNotRegistered answer (OnlyReserves old new) → OnNotRegistered answer (old.registered ≡ true)
    → MeetsFull shared old new ⊎ (MeetsSender shared old new ⊎ ¬ Agrees h new)
register_stops shared h old new registering.Success success closed down held refused stands = absurd (success refl)
register_stops shared h old new (registering.Closed control) success closed down held refused stands = absurd (closed control refl)
register_stops shared h old new (registering.Busy number word) success closed down held refused stands = inl (full_now shared old new number word held.kept.full)
register_stops shared h old new registering.Parameter success closed down held refused stands =
    inr (inr (λ is. on_off new (refused.registered ∙ stands) (is.down down)))
register_stops shared h old new registering.Resource success closed down held refused stands =
    inr (inr (λ is. on_off new (refused.registered ∙ stands) (is.down down)))

pub register_same : (shared : Bool) (old new : EndState) (answer : RegAnswer) → (answer ≡ registering.Success → ⊥)
    → ((control : ℕ) → answer ≡ registering.Closed control → ⊥) → IfHeldUp answer (HoldsUp shared old new)
    → OnNotRegistered answer (OnlyReserves old new) → new.registered ≡ old.registered
register_same shared old new registering.Success success closed held refused = absurd (success refl)
register_same shared old new (registering.Closed control) success closed held refused = absurd (closed control refl)
register_same shared old new (registering.Busy number word) success closed held refused = held.still ∙ sym held.unregistered
register_same shared old new registering.Parameter success closed held refused = refused.registered
register_same shared old new registering.Resource success closed held refused = refused.registered

pub opening_later : (shared : Bool) (a b c : EndState) (A : Type 0) → Idles shared a b → MeetsFull shared b c ⊎ (MeetsSender shared b c ⊎ A)
    → MeetsFull shared a c ⊎ (MeetsSender shared a c ⊎ A)
opening_later shared a b c A idles (inl full) = inl (full_later shared a b c idles full)
opening_later shared a b c A idles (inr (inl sender)) = inr (inl (sender_later shared a b c idles sender))
opening_later shared a b c A idles (inr (inr astray)) = inr (inr astray)

-- where the service comes next or the turn is over, nothing is said of a next entry
next_more : (next : Next) (A B : Type 0) → AsNext next ⊥ B ⊥ → AsNext next A B ⊥
next_more nexts.Entry A B on = absurd on
next_more nexts.Service A B on = on
next_more nexts.End A B on = on

pub if_service : {Y : Type 0} (result : Result Next Y) (moved : Bool) (A B : Type 0) → IfOk result (λ next. moved ≡ false → AsNext next ⊥ B ⊥)
    → IfOk result (λ next. moved ≡ false → AsNext next A B ⊥)
if_service (Ok next) moved A B on = λ none. next_more next A B (on none)
if_service (Err y) moved A B on = tt

-- What intake left as long as it took nothing: the queue is idle, the unit's line is the same, and no entry waits to be fetched.
pub record TookNone (taken : ℕ) (unit unit' : Unit) (old new : EndState) : Type 0 where
  pub first : taken ≡ 0
  pub same : new ≡ old
  pub line : unit'.line ≡ unit.line
  pub waiting : unit'.waiting ≡ None

-- intake that stopped at the entry that waits, and one that stopped at the next entry
pub intake_waits : (shared : Bool) (u v : Unit) (old new : SiteState) → new.queue ≡ old.queue → v.line ≡ u.line → MeetsUse old new → EndsIntake shared u v old new
intake_waits shared u v old new queue line met = record { idles = idles_equal shared old.queue new.queue queue; line = line; stops = inl met }

pub intake_finds : (shared : Bool) (taken : ℕ) (u v w : Unit) (old mid new : SiteState) → TookNone taken u v old.queue mid.queue → w.line ≡ v.line → w.waiting ≡ v.waiting
    → Idles shared mid.queue new.queue → FindsNothing shared mid.queue new.queue → EndsIntake shared u w old new
intake_finds shared taken u v w old mid new none line waiting idles found = record {
  idles = idles_on shared old.queue mid.queue new.queue (idles_equal shared old.queue mid.queue none.same) idles;
  line = line ∙ none.line;
  stops = inr (inr (waiting ∙ none.waiting, nothing_later shared old.queue mid.queue new.queue (idles_equal shared old.queue mid.queue none.same) found));
}

pub intake_full : (shared : Bool) (taken : ℕ) (u v : Unit) (old new : SiteState) → TookNone taken u v old.queue new.queue → IsPending v → EndsIntake shared u v old new
intake_full shared taken u v old new none pending = record {
  idles = idles_equal shared old.queue new.queue none.same;
  line = none.line;
  stops = inr (inl pending);
}

-- what comes behind an entry in the place of what was found
pub next_found : (next : Next) (B D : Type 0) → (B → D) → AsNext next ⊥ B ⊥ → AsNext next ⊥ D ⊥
next_found nexts.Entry B D f on = on
next_found nexts.Service B D f on = f on
next_found nexts.End B D f on = on

-- what is said of a quiet turn
pub if_ready : (result : Result Moved NoMemory) (A I R : Type 0) → (A → I → R) → IfOk result (λ moved. moved ≡ Quiet → I) → IfOk result (λ moved. moved ≡ Quiet → A → R)
if_ready (Ok answer) A I R ready waits = λ quiet is. ready is (waits quiet)
if_ready (Err memory) A I R ready waits = tt

pub if_each : {X Y : Type 0} (result : Result X Y) (P : X → Type 0) → ((x : X) → P x) → IfOk result P
if_each (Ok x) P each = each x
if_each (Err y) P each = tt
