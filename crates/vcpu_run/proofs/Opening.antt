-- That a reset leaves its client's queue registered, over a step of its line, and what holds it off.
use Rattle.std.proofs.Common.{◌≡◌, ◌∙◌, ◌⊎◌, inl, inr, ℕ, ◌+◌, ◌≤◌, ◌-◌, Bool, true, false, List, [], ◌∷◌, ◌++◌, Option, Some, Result, Ok, Err, IfSome, IsSomeAnd, length, map, slice_get, slice_set, refl, sym, ap, subst, arith}
use Rattle.std.proofs.lemmas.List.{length-map}
use Rattle.std.proofs.lemmas.Option.{slice_get_within}
use Rattle.vio_num.specs.declared.entry.Entry.{Entry}
use Rattle.vio_num.specs.declared.hypervisor.Moved.TheVariants.{Moved as Moves}
use Rattle.vio_num.specs.declared.memory.NoMemory.{NoMemory}
use Rattle.vio_num.specs.Queue.{LawfulDrop}
use Rattle.boot_text.specs.declared.verb.Verb.{Verb}
use Rattle.crq_ring.specs.Sessions.{of_session}
use Rattle.crq_ring.specs.declared.rows.PipeRow.{PipeRow}
use Rattle.crq_session.specs.declared.answers.RegAnswer.{RegAnswer}
use Rattle.crq_session.specs.declared.answers.RegAnswer.TheVariants as reg
use Rattle.crq_session.specs.Answered.{HoldsUp}
use Rattle.crq_session.specs.EndState.{EndCounts, EndPlace, EndState, OnlyReserves}
use Rattle.unit_region.specs.declared.step.Step.{Step}
use Rattle.unit_region.specs.declared.step.Step.TheVariants as steps
use Rattle.vscsi_client.specs.Frames.{OnlyTurns}
use Rattle.vscsi_client.specs.Turned.{FollowOn, LoginStep, Registered, Runs, Site, Steps, Turned, is_busy, part_of}
use Rattle.vscsi_client.specs.declared.answers.LoginTurn.{LoginTurn}
use Rattle.vscsi_client.specs.declared.answers.LoginTurn.TheVariants as turns
use Rattle.vcpu_run.specs.declared.pair.Pair.{Pair}
use Rattle.vcpu_run.specs.declared.script.Progress.{Progress}
use Rattle.vcpu_run.specs.declared.script.Progress.TheVariants as progress
use Rattle.vcpu_run.specs.Freeing.{is_reset}
use Rattle.vcpu_run.specs.Holding.{IsHeldOff, PairOpen, SeatOpen, StepsOpen, TurnsOpen, WaitsOpen, link_seen}
use Rattle.vcpu_run.specs.Links.{link_state, links_of}
use Rattle.vcpu_run.specs.Sendings.{SaysTurned}
use Rattle.vcpu_run.specs.Telling.{is_freed}
use Rattle.vcpu_run.proofs.Driving.{get_set_same}
use Rattle.vcpu_run.proofs.LoginsTold.{reached, split_runs, true_false}
use Rattle.vcpu_run.proofs.Resting.{link_at, not_quiet}

-- an end that is reached from another by making room
pub off_by : (a b : EndState) → OnlyReserves a b → IsHeldOff (link_seen b) → IsHeldOff (link_seen a)
off_by a b same off = record {
  shut = sym same.registered ∙ off.shut;
  slots = subst (λ (p : EndPlace). 1 ≤ p.partner_slots) same.place off.slots;
  full = record {
    registered = subst (λ (p : EndPlace). p.partner_registered ≡ true) same.place off.full.registered;
    full = subst (λ (p : EndPlace). length (of_session a.counts.partner_session a.sent) ≡ length (of_session a.counts.partner_session p.partner_taken) + p.partner_slots) same.place
        (subst (λ (sent : List PipeRow). length (of_session a.counts.partner_session sent) ≡ length (of_session a.counts.partner_session b.place.partner_taken) + b.place.partner_slots) same.sent
        (subst (λ (c : EndCounts). length (of_session c.partner_session b.sent) ≡ length (of_session c.partner_session b.place.partner_taken) + b.place.partner_slots) same.counts off.full.full));
  };
}

-- a queue with an entry in a full slot has slots
has_slots : (sent : List Entry) (n k held : ℕ) → k ≡ length sent → LawfulDrop sent n k held → 1 ≤ n
has_slots sent n k held is lawful =
    let within = slice_get_within (map (λ (entry : Entry). entry.high) sent) (k - n) held lawful.held_there in
    let long = length-map sent (λ (entry : Entry). entry.high) in
    omega (arith, within, long, is, lawful.lapped)

-- what a registration found whose event had no room
held_off : (shared : Bool) (a b : EndState) (number held : ℕ) → shared ≡ false → b.counts.partner_session ≡ a.counts.partner_session → HoldsUp shared a b number held
    → IsHeldOff (link_seen a)
held_off shared a b number held alone session holds = record {
  shut = holds.unregistered;
  slots = has_slots (of_session b.counts.partner_session a.sent) a.place.partner_slots number held holds.kept.full.number_is holds.kept.full.lawful;
  full = record {
    registered = holds.kept.full.partner alone;
    full = subst (λ (q : ℕ). length (of_session q a.sent) ≡ length (of_session q a.place.partner_taken) + a.place.partner_slots) session (holds.kept.full.full_slot alone);
  };
}

-- a turn that ends with its registration did nothing else
alone_is : (first answer : RegAnswer) (rest later : List LoginStep) → later ++ Registered answer ∷ [] ≡ Registered first ∷ rest → FollowOn 1 later
    → (later ≡ []) × (answer ≡ first)
alone_is first answer rest [] is follow = (refl, inner answer is)
  where
    inner : (x : RegAnswer) → Registered x ∷ [] ≡ Registered first ∷ rest → x ≡ first
    inner x e = cc
alone_is first answer rest (step ∷ later) is follow =
    let none : part_of step ≡ 0 = ap part_of (front step (later ++ Registered answer ∷ []) is) in
    let least = reached later in
    absurd (omega (arith, none, least, follow.0))
  where
    front : (x : LoginStep) (xs : List LoginStep) → x ∷ xs ≡ Registered first ∷ rest → x ≡ Registered first
    front x xs e = cc

busy_off : (line number held : ℕ) (x y : Site) → Turned line x y (Ok (turns.Busy number held)) → OnlyTurns x.at.crq_shared x.at.crq y.at.crq → x.at.crq_shared ≡ false
    → IsHeldOff (link_seen x.at.crq)
busy_off line number held x y turned only alone =
    let order = turned.ends.2 in
    let runs : Runs line (order.later ++ Registered order.answer ∷ []) x y = subst (λ (steps : List LoginStep). Runs line steps x y) order.is turned.runs in
    let parts = split_runs line order.answer order.later x y runs in
    let is = alone_is (reg.Busy number held) order.answer turned.ends.1.rest order.later (sym order.is ∙ turned.ends.1.is) order.order in
    let now : y ≡ parts.0 = subst (λ (steps : List LoginStep). Runs line steps parts.0 y) is.0 parts.2 in
    let step : Steps line (Registered (reg.Busy number held)) x y =
    subst (λ (z : Site). Steps line (Registered (reg.Busy number held)) x z) (sym now)
    (subst (λ (answer : RegAnswer). Steps line (Registered answer) x parts.0) is.1 parts.1) in
    let room : EndState = step.0.room in
    let ready : OnlyReserves x.at.crq room = step.0.ready in
    off_by x.at.crq room ready
    (held_off x.at.crq_shared room y.at.crq number held alone
    (only.counts.same_session alone ∙ sym (ap (λ (c : EndCounts). c.partner_session) ready.counts)) step.0.registers.0)

-- a turn of a login
pub turn_open : (line : ℕ) (x y : Site) (turn : LoginTurn) (step : Step) → SaysTurned turn step → (is_busy turn ≡ false → y.at.crq.registered ≡ true)
    → Turned line x y (Ok turn) → OnlyTurns x.at.crq_shared x.at.crq y.at.crq → x.at.crq_shared ≡ false
    → TurnsOpen (IsHeldOff (link_seen x.at.crq)) y.at.crq.registered (Ok step)
turn_open line x y (turns.Busy number held) (steps.Waits did) says on turned only alone = inr (busy_off line number held x y turned only alone)
turn_open line x y turns.Again (steps.Waits did) says on turned only alone = inl (on refl)
turn_open line x y (turns.Granted credits) (steps.Waits did) says on turned only alone = inl (on refl)
turn_open line x y (turns.Rejected reason) (steps.Waits did) says on turned only alone = inl (on refl)
turn_open line x y turns.Lost (steps.Waits did) says on turned only alone = inl (on refl)
turn_open line x y (turns.Granted credits) (steps.Ends outcome) says on turned only alone = on refl
turn_open line x y (turns.Rejected reason) (steps.Ends outcome) says on turned only alone = on refl
turn_open line x y turns.Lost (steps.Ends outcome) says on turned only alone = on refl
turn_open line x y turns.Again (steps.Ends outcome) says on turned only alone = on refl
turn_open line x y (turns.Busy number held) (steps.Ends outcome) says on turned only alone = absurd says

-- a turn of a reset's login, once the queue was freed
pub freed_open : (verb : Verb) (p : Progress) (off : Type 0) (registered : Bool) (result : Result Step NoMemory) → p ≡ progress.Freed → TurnsOpen off registered result
    → StepsOpen verb p off registered result
freed_open verb p off registered (Ok (steps.Ends outcome)) is opens = λ reset. opens
freed_open verb p off registered (Ok (steps.Waits did)) is opens = λ reset. record { freed = ap is_freed is; quiet = λ still. opens }
freed_open verb p off registered (Err memory) is opens = tt

pub moved_open : (off : Type 0) (registered : Bool) → WaitsOpen progress.Freed off registered Moves
moved_open off registered = record { freed = refl; quiet = λ is. absurd (not_quiet is) }

-- what held it off did so before
pub turns_by : (off off' : Type 0) (registered : Bool) (result : Result Step NoMemory) → (off → off') → TurnsOpen off registered result → TurnsOpen off' registered result
turns_by off off' registered (Ok (steps.Ends outcome)) by opens = opens
turns_by off off' registered (Ok (steps.Waits did)) by (inl on) = inl on
turns_by off off' registered (Ok (steps.Waits did)) by (inr held) = inr (by held)
turns_by off off' registered (Err memory) by opens = tt

steps_by : (verb : Verb) (p : Progress) (off off' : Type 0) (registered : Bool) (result : Result Step NoMemory) → (off → off')
    → StepsOpen verb p off registered result → StepsOpen verb p off' registered result
steps_by verb p off off' registered (Ok (steps.Ends outcome)) by opens = opens
steps_by verb p off off' registered (Ok (steps.Waits did)) by opens = λ reset.
    record { freed = (opens reset).freed; quiet = λ is. at ((opens reset).quiet is) }
  where
    at : (registered ≡ true) ⊎ off → (registered ≡ true) ⊎ off'
    at (inl on) = inl on
    at (inr held) = inr (by held)
steps_by verb p off off' registered (Err memory) by opens = tt

-- a line that is no reset
pub other_open : (verb : Verb) (p : Progress) (off : Type 0) (registered : Bool) (result : Result Step NoMemory) → is_reset verb ≡ false
    → StepsOpen verb p off registered result
other_open verb p off registered (Ok (steps.Ends outcome)) other = λ reset. absurd (true_false (is_reset verb) reset other)
other_open verb p off registered (Ok (steps.Waits did)) other = λ reset. absurd (true_false (is_reset verb) reset other)
other_open verb p off registered (Err memory) other = tt

pub open_as : (verb verb' : Verb) (p : Progress) (off : Type 0) (registered : Bool) (result : Result Step NoMemory) → verb ≡ verb' → StepsOpen verb' p off registered result
    → StepsOpen verb p off registered result
open_as verb verb' p off registered result is opens = subst (λ (v : Verb). StepsOpen v p off registered result) (sym is) opens

-- at the pair of a seat
pub set_open : (verb : Verb) (p : Progress) (result : Result Step NoMemory) (pairs : List Pair) (i : ℕ) (old new : Pair) → slice_get pairs i ≡ Some old
    → PairOpen verb p old new result → SeatOpen i verb p pairs (slice_set pairs i new) result
set_open verb p result pairs i old new there opens =
    subst (λ (o : Option Pair). IfSome o (λ pair. StepsOpen verb p (IsSomeAnd (slice_get (links_of pairs) i) IsHeldOff) pair.link.second.registered result))
    (sym (get_set_same pairs i new (slice_get_within pairs i old there)))
    (steps_by verb p (IsHeldOff (link_state old.link)) (IsSomeAnd (slice_get (links_of pairs) i) IsHeldOff) new.link.second.registered result
    (λ held. subst (λ o. IsSomeAnd o IsHeldOff) (sym (link_at pairs i old there)) held) opens)
