-- What is done at an own client's pair any number of times in a turn of its script, its server unit's session being over, or having been, while no
-- login is under way: what is left is taken, or the partition fails. One step is behind the other.
use Rattle.std.proofs.Common.{◌≡◌, ◌∙◌, ◌⊎◌, inl, inr, ℕ, Bool, true, false, List, [], ◌∷◌, Some, refl, sym, ap, subst}
use Rattle.std.specs.Borrow.{GName}
use Rattle.crq_session.specs.EndState.{EndPlace}
use Rattle.crq_session.specs.PlainState.{end_of}
use Rattle.tce_window.specs.PlainPort.{known_of}
use Rattle.tce_window.specs.PortState.{OnlyReads, PortState}
use Rattle.block_server.specs.Doings.{Doing}
use Rattle.vcpu_run.specs.Acts.{Acting, TakesRest}
use Rattle.vcpu_run.specs.ActsAt.{FailsOnce, LeadsOver, acting_at}
use Rattle.vcpu_run.specs.OwnActs.{GoesOver, RestsOver, SameHands, TakesEachAlone}
use Rattle.vcpu_run.specs.declared.driver.Driver.{Driver}
use Rattle.vcpu_run.specs.declared.pair.Pair.{Pair}
use Rattle.vcpu_run.specs.declared.taking.Took.{Took}
use Rattle.vcpu_run.proofs.Driving.{some_is}
use Rattle.vcpu_run.proofs.OwnActAlone.{rest_alone}
use Rattle.vcpu_run.proofs.OwnActDone.{fails_line}
use Rattle.vcpu_run.proofs.OwnActEach.{each_over, goes_here, rests_behind, stays_on}
use Rattle.vcpu_run.proofs.OwnActOwn.{client_at, over_by, seen_by}
use Rattle.vcpu_run.proofs.OwnActRests.{each_registered}
use Rattle.vcpu_run.proofs.PlainNotes.{LaysOn, lays_read, windows_on}
use Rattle.vcpu_run.proofs.PlainSeated.{driver_behind}

-- ---- through which borrows the end is reached does not matter

rests_by : (a b : List GName) (granted : ℕ) (failed : Bool) (d : Doing) (driver : Driver) (pair : Pair) → RestsOver granted failed d (acting_at a driver pair)
    → RestsOver granted failed d (acting_at b driver pair)
rests_by a b granted failed d driver pair rests = record {
  seen = seen_by a b d pair rests.seen;
  over = over_by a b granted failed d driver.client pair rests.seen rests.over;
  settled = rests.settled;
  idle = rests.idle;
}

pub goes_by : (names : List GName) (granted : ℕ) (failed : Bool) (d : Doing) (a b : Driver) (old new : Pair) → GoesOver granted failed d (acting_at names a old) (acting_at names b new)
    → GoesOver granted failed d (acting_at [] a old) (acting_at [] b new)
goes_by names granted failed d a b old new goes = record {
  over = record {
    left = goes.over.left;
    rests = record {
      entries = goes.over.rests.entries;
      put = goes.over.rests.put;
      reached = goes.over.rests.reached;
      session = goes.over.rests.session;
      place = ap (λ (place : EndPlace). record place { lenders = [] }) goes.over.rests.place;
      is = goes.over.rests.is;
    };
    seen = seen_by names [] goes.over.left new goes.over.seen;
    over = over_by names [] granted failed goes.over.left b.client new goes.over.seen goes.over.over;
  };
  settled = goes.settled;
  idle = goes.idle;
  noted = goes.noted;
}

-- ---- one step behind the other

-- What a step leaves of the client and its window: the strokes stay.
pub record Led (granted : ℕ) (failed : Bool) (d : Doing) (a b : Driver) (old new : Pair) : Type 0 where
  pub goes : GoesOver granted failed d (acting_at [] a old) (acting_at [] b new)
  pub lays : LaysOn (known_of old.window) (known_of new.window)

lays_here : (w : PortState) → LaysOn w w
lays_here w = record { unit = refl; strokes = λ page stroke on. on }

lays_behind : (a b c : PortState) → LaysOn a b → LaysOn b c → LaysOn a c
lays_behind a b c first next = record {
  unit = next.unit ∙ first.unit;
  strokes = λ page stroke on. next.strokes page stroke (first.strokes page stroke on);
}

led_here : (granted : ℕ) (failed : Bool) (d : Doing) (a : Driver) (pair : Pair) → RestsOver granted failed d (acting_at [] a pair) → Led granted failed d a a pair pair
led_here granted failed d a pair rests = record { goes = goes_here granted failed d (acting_at [] a pair) rests; lays = lays_here (known_of pair.window) }

led_behind : (granted : ℕ) (failed failed' : Bool) (d : Doing) (a m b : Driver) (old mid new : Pair) → (first : Led granted failed d a m old mid) → Led granted failed' first.goes.over.left m b mid new
    → Led granted failed' d a b old new
led_behind granted failed failed' d a m b old mid new first next = record {
  goes = record {
    over = stays_on granted failed failed' d m.client b.client (client_at [] old) (client_at [] mid) (client_at [] new) first.goes.over next.goes.over;
    settled = next.goes.settled;
    idle = next.goes.idle;
    noted = windows_on (known_of mid.window) (known_of new.window) a.answers.items m.answers.items b.answers.items next.lays first.goes.noted next.goes.noted;
  };
  lays = lays_behind (known_of old.window) (known_of mid.window) (known_of new.window) first.lays next.lays;
}

-- the driver behind no step
same_driver : (a b : Driver) (old new : Pair) → old.driver ≡ Some a → new.driver ≡ Some b → new ≡ old → a ≡ b
same_driver a b old new was there same = some_is a b (sym was ∙ (ap (λ (pair : Pair). pair.driver) (sym same) ∙ there))

led_none : (granted : ℕ) (failed : Bool) (d : Doing) (a b : Driver) (old new : Pair) → old.driver ≡ Some a → new.driver ≡ Some b → new ≡ old → RestsOver granted failed d (acting_at [] a old)
    → Led granted failed d a b old new
led_none granted failed d a b old new was there same rests =
    subst (λ (pair : Pair). Led granted failed d a b old pair) (sym same)
    (subst (λ (driver : Driver). Led granted failed d a driver old old) (same_driver a b old new was there same) (led_here granted failed d a old rests))

-- ---- steps that leave the queue registered, or not, as it was

abbrev registered_at : Pair → Bool
registered_at pair = (end_of [] pair.link false).registered

-- one of these, as the ports have it
abbrev Keeping : (P : Acting → Acting → Type 0) → Type 0
Keeping P = (granted : ℕ) (failed : Bool) (d : Doing) (old new : Acting) → RestsOver granted failed d old → SameHands old.ports new.ports → P old new
    → GoesOver granted failed d old new × LaysOn old.ports.own new.ports.own × (new.ports.crq.registered ≡ old.ports.crq.registered)

-- all of them, one behind the other
pub record LedKeeping (granted : ℕ) (failed : Bool) (d : Doing) (a b : Driver) (old new : Pair) : Type 0 where
  pub led : Led granted failed d a b old new
  pub registered : registered_at new ≡ registered_at old

one_keeps : (P : Acting → Acting → Type 0) → Keeping P → (names : List GName) (granted : ℕ) (failed : Bool) (d : Doing) (a b : Driver) (old new : Pair)
    → RestsOver granted failed d (acting_at [] a old) → P (acting_at names a old) (acting_at names b new) → LedKeeping granted failed d a b old new
one_keeps P keeping names granted failed d a b old new rests does =
    let one = keeping granted failed d (acting_at names a old) (acting_at names b new) (rests_by [] names granted failed d a old rests) (record { crq = refl; own = refl }) does in
    record { led = record { goes = goes_by names granted failed d a b old new one.0; lays = one.1 }; registered = one.2 }

leads_keep : (P : Acting → Acting → Type 0) → Keeping P → (granted : ℕ) (failed : Bool) (over : List Pair) (d : Doing) (a b : Driver) (old new : Pair) → old.driver ≡ Some a → new.driver ≡ Some b
    → RestsOver granted failed d (acting_at [] a old) → LeadsOver P over old new → LedKeeping granted failed d a b old new
leads_keep P keeping granted failed [] d a b old new was there rests same = record {
  led = led_none granted failed d a b old new was there same rests;
  registered = ap registered_at same;
}
leads_keep P keeping granted failed (next ∷ over) d a b old new was there rests (at, more) =
    let step = driver_behind (λ (x y : Driver). (names : List GName) × P (acting_at names x old) (acting_at names y next)) old.driver next.driver a was at in
    let first : LedKeeping granted failed d a step.0 old next = one_keeps P keeping step.2.0 granted failed d a step.0 old next rests step.2.1 in
    let later : LedKeeping granted failed first.led.goes.over.left step.0 b next new =
    leads_keep P keeping granted failed over first.led.goes.over.left step.0 b next new step.1 there
    (rests_behind granted failed d (acting_at [] a old) (acting_at [] step.0 next) first.led.goes) more in
    record { led = led_behind granted failed failed d a step.0 b old next new first.led later.led; registered = later.registered ∙ first.registered }

lays_same : (a b : PortState) → b ≡ a → LaysOn a b
lays_same a b same = subst (LaysOn a) (sym same) (lays_here a)

-- ---- what is left is taken

each_lays : (entries : List Took) (old new : Acting) → old.ports.own_shared ≡ false → TakesEachAlone entries old new
    → LaysOn old.ports.own new.ports.own × (new.ports.own_shared ≡ old.ports.own_shared)
each_lays [] old new alone same = (lays_same old.ports.own new.ports.own (ap (λ (at : Acting). at.ports.own) same), ap (λ (at : Acting). at.ports.own_shared) same)
each_lays (took ∷ entries) old new alone (middle, each, last) =
    let front = each_lays entries old middle alone each in (
      lays_behind old.ports.own middle.ports.own new.ports.own front.0
          (lays_read middle.ports.own new.ports.own (subst (λ b. OnlyReads b middle.ports.own new.ports.own) (front.1 ∙ alone) last.own)),
      last.hands.own ∙ front.1,
    )

takes_keep : Keeping TakesRest
takes_keep granted failed d old new rests hands takes =
    let alone = rest_alone old new takes in (
      each_over granted failed d alone.entries old new rests alone.each,
      (each_lays alone.entries old new rests.seen.apart alone.each).0,
      each_registered alone.entries old new alone.each,
    )

pub leads_takes : (granted : ℕ) (failed : Bool) (over : List Pair) (d : Doing) (a b : Driver) (old new : Pair) → old.driver ≡ Some a → new.driver ≡ Some b
    → RestsOver granted failed d (acting_at [] a old) → LeadsOver TakesRest over old new → LedKeeping granted failed d a b old new
leads_takes = leads_keep TakesRest takes_keep

-- ---- the partition fails

fails_lay : (old new : Acting) → FailsOnce old new → new.ports.own ≡ old.ports.own
fails_lay old new (inl queue) = queue.own
fails_lay old new (inr (inl free)) = free.own
fails_lay old new (inr (inr used)) = used.own

one_fails : (names : List GName) (granted : ℕ) (failed : Bool) (d : Doing) (a b : Driver) (old new : Pair) → RestsOver granted failed d (acting_at [] a old)
    → FailsOnce (acting_at names a old) (acting_at names b new) → Led granted true d a b old new
one_fails names granted failed d a b old new rests does = record {
  goes = goes_by names granted true d a b old new
      (fails_line granted failed d (acting_at names a old) (acting_at names b new) (rests_by [] names granted failed d a old rests) (record { crq = refl; own = refl }) does);
  lays = lays_same (known_of old.window) (known_of new.window) (fails_lay (acting_at names a old) (acting_at names b new) does);
}

leads_failed : (granted : ℕ) (over : List Pair) (d : Doing) (a b : Driver) (old new : Pair) → old.driver ≡ Some a → new.driver ≡ Some b
    → RestsOver granted true d (acting_at [] a old) → LeadsOver FailsOnce over old new → Led granted true d a b old new
leads_failed granted [] d a b old new was there rests same = led_none granted true d a b old new was there same rests
leads_failed granted (next ∷ over) d a b old new was there rests (at, more) =
    let step = driver_behind (λ (x y : Driver). (names : List GName) × FailsOnce (acting_at names x old) (acting_at names y next)) old.driver next.driver a was at in
    let first : Led granted true d a step.0 old next = one_fails step.2.0 granted true d a step.0 old next rests step.2.1 in
    led_behind granted true true d a step.0 b old next new first
    (leads_failed granted over first.goes.over.left step.0 b next new step.1 there (rests_behind granted true d (acting_at [] a old) (acting_at [] step.0 next) first.goes) more)

-- it has, or the client is as it was
pub leads_fails : (granted : ℕ) (failed : Bool) (over : List Pair) (d : Doing) (a b : Driver) (old new : Pair) → old.driver ≡ Some a → new.driver ≡ Some b
    → RestsOver granted failed d (acting_at [] a old) → LeadsOver FailsOnce over old new
    → Led granted true d a b old new ⊎ (Led granted failed d a b old new × (new ≡ old))
leads_fails granted failed [] d a b old new was there rests same = inr (led_none granted failed d a b old new was there same rests, same)
leads_fails granted failed (next ∷ over) d a b old new was there rests (at, more) =
    let step = driver_behind (λ (x y : Driver). (names : List GName) × FailsOnce (acting_at names x old) (acting_at names y next)) old.driver next.driver a was at in
    let first : Led granted true d a step.0 old next = one_fails step.2.0 granted failed d a step.0 old next rests step.2.1 in
    inl (led_behind granted true true d a step.0 b old next new first
    (leads_failed granted over first.goes.over.left step.0 b next new step.1 there (rests_behind granted true d (acting_at [] a old) (acting_at [] step.0 next) first.goes) more))
