-- A turn of a script at the pair of one of its clients: the pair before it, behind the events, and behind it all; what was done there meanwhile.
use Rattle.std.proofs.Common.{◌≡◌, ◌∙◌, ◌⊎◌, inl, inr, ℕ, ◌==◌, cond, eqb-true, Bool, true, false, List, Option, Some, None, Ok, IsSomeAnd, refl, slice_get, sym, ap}
use Rattle.boot_text.specs.declared.plan.Line.{Line}
use Rattle.crq_ring.specs.Pipe.{IsLawfulPipe}
use Rattle.crq_session.specs.PlainState.{side_of}
use Rattle.unit_region.specs.declared.step.Step.{Step}
use Rattle.vio_num.specs.declared.hypervisor.Moved.{Moved}
use Rattle.vio_trace.specs.declared.outcome.Outcome.TheVariants as outcomes
use Rattle.vcpu_run.specs.Acts.{TakesRest}
use Rattle.vcpu_run.specs.ActsAt.{EndsLine, FailLeaves, FailsOnce, FailsLine, GoesBy, Leads, PairActs, StepLeaves, StepsLineOnce}
use Rattle.vcpu_run.specs.EventsMade.{times_open}
use Rattle.vcpu_run.specs.FailedShut.{opens_if}
use Rattle.vcpu_run.specs.OwnRuns.{IsOwnSeat}
use Rattle.vcpu_run.specs.Pairs.{AreDriven, Drives, GoesOn}
use Rattle.vcpu_run.specs.PlainScripts.{PairFailsPlainly, PairPlainly, PairRestsPlainly}
use Rattle.vcpu_run.specs.Scripts.{IsScript}
use Rattle.vcpu_run.specs.ScriptTold.{SameClient, SameClients}
use Rattle.vcpu_run.specs.Suited.{IsLineAt, suits}
use Rattle.vcpu_run.specs.Works.{fails}
use Rattle.vcpu_run.specs.declared.driver.Driver.{Driver}
use Rattle.vcpu_run.specs.declared.pair.Pair.{Pair}
use Rattle.vcpu_run.specs.declared.script.Progress.{Progress}
use Rattle.vcpu_run.specs.declared.script.Script.{Script}
use Rattle.vcpu_run.specs.declared.unit_seat.Seat.{Seat}
use Rattle.vcpu_run.specs.declared.unit_seat.Seat.TheVariants as places
use Rattle.vcpu_run.proofs.Crediting.{here_or}
use Rattle.vcpu_run.proofs.Driving.{some_is}
use Rattle.vcpu_run.proofs.Listed.{held, held_is}
use Rattle.vcpu_run.proofs.Logging.{all_at}
use Rattle.vcpu_run.proofs.PortBytes.{no_call}
use Rattle.vcpu_run.proofs.SeatPairs.{apart_seats}

-- ---- the pair

-- a driver of before is there behind it
pub driver_goes : (old new : Pair) (a : Driver) → old.driver ≡ Some a → Drives old new → (b : Driver) × (new.driver ≡ Some b)
driver_goes old new a was drives = by old.driver new.driver was drives.driver
  where
    by : (o o' : Option Driver) → o ≡ Some a → GoesOn old.window new.window o o' → (b : Driver) × (o' ≡ Some b)
    by None o' e h = absurd (cc (e))
    by (Some d) None e h = absurd h
    by (Some d) (Some b) e h = (b, refl)

pub record AtSeat (old mid new : List Pair) (k : ℕ) : Type 0 where
  pub before : Pair
  pub middle : Pair
  pub after : Pair
  pub was : slice_get old k ≡ Some before
  pub there : slice_get mid k ≡ Some middle
  pub here : slice_get new k ≡ Some after
  pub a : Driver
  pub a_is : before.driver ≡ Some a
  pub m_is : middle.driver ≡ Some a
  pub b : Driver
  pub b_is : after.driver ≡ Some b
  pub pushed : Drives before middle
  pub client : SameClient before middle
  pub goes : Drives middle after

pub at_seat : (script : Script) (u k : ℕ) (old mid new : List Pair) → IsScript old script → AreDriven old mid → SameClients old mid → AreDriven mid new
    → slice_get script.seats.items u ≡ Some (places.Client k) → AtSeat old mid new k
at_seat script u k old mid new are driven same leads sits = record {
  before = was.0;
  middle = mids.0;
  after = news.0;
  was = was.1;
  there = mids.1;
  here = news.1;
  a = first.0;
  a_is = first.1;
  m_is = client.driver ∙ first.1;
  b = last.0;
  b_is = last.1;
  pushed = mids.2;
  client = client;
  goes = news.2;
}
  where
    was : (pair : Pair) × (slice_get old k ≡ Some pair) × IsSomeAnd pair.driver (λ driver. driver.unit ≡ record { partition = script.partition; unit = u })
    was = held (λ (pair : Pair). IsSomeAnd pair.driver (λ driver. driver.unit ≡ record { partition = script.partition; unit = u })) (slice_get old k) (are.seats u k sits)

    first : (driver : Driver) × (was.0.driver ≡ Some driver) × (driver.unit ≡ record { partition = script.partition; unit = u })
    first = held (λ (driver : Driver). driver.unit ≡ record { partition = script.partition; unit = u }) was.0.driver was.2

    mids : (pair : Pair) × (slice_get mid k ≡ Some pair) × Drives was.0 pair
    mids = held (Drives was.0) (slice_get mid k) (driven.each k was.0 was.1)

    news : (pair : Pair) × (slice_get new k ≡ Some pair) × Drives mids.0 pair
    news = held (Drives mids.0) (slice_get new k) (leads.each k mids.0 mids.1)

    client : SameClient was.0 mids.0
    client = held_is (λ (pair : Pair). SameClient pair mids.0) (slice_get old k) was.0 was.1 (same k mids.0 mids.1)

    last : (b : Driver) × (news.0.driver ≡ Some b)
    last = driver_goes mids.0 news.0 first.0 (client.driver ∙ first.1) news.2

-- ---- what is done behind the events

-- It is a line of the unit.
pub record DoesOwn (u : ℕ) (line : Line) (middle after : Pair) (script script' : Script) : Type 0 where
  pub own : (line.unit == u) ≡ true
  pub lawful : IsLawfulPipe (side_of middle.link false).queue
  pub progress : Progress
  pub step : Step
  pub acts : PairActs line script.progress progress middle after step
  pub plainly : PairPlainly line.verb script.progress progress middle after (Ok step)
  pub leaves : StepLeaves line progress script script' step

-- It is another's, and the pair is as it was.
pub record DoesElse (u : ℕ) (line : Line) (middle after : Pair) (script script' : Script) : Type 0 where
  pub other : (line.unit == u) ≡ false
  pub same : after ≡ middle
  pub progress : Progress
  pub step : Step
  pub leaves : StepLeaves line progress script script' step

-- The partition fails. Where that ended, the client's queue is not registered.
pub record DoesFail (line : Line) (middle after : Pair) (script script' : Script) : Type 0 where
  pub failing : fails line.verb ≡ true
  pub acts : Leads FailsOnce middle after
  pub plainly : PairFailsPlainly middle after
  pub leaves : (script' ≡ script) ⊎ (EndsLine line outcomes.Done script script' × ((side_of after.link false).registered ≡ false))

-- A step of this line, which is the current one; or there was none left.
pub record DoesLine (u : ℕ) (middle after : Pair) (script script' : Script) : Type 0 where
  pub line : Line
  pub found : slice_get script.lines.now script.at ≡ Some line
  pub how : DoesFail line middle after script script' ⊎ ((fails line.verb ≡ false) × (DoesOwn u line middle after script script' ⊎ DoesElse u line middle after script script'))

pub record DoesRest (middle after : Pair) (script script' : Script) : Type 0 where
  pub none : slice_get script.lines.now script.at ≡ None
  pub acts : Leads TakesRest middle after
  pub plainly : PairRestsPlainly middle after
  pub leaves : script' ≡ script

abbrev pub SeatDoes : (u : ℕ) (middle after : Pair) (script script' : Script) → Type 0
SeatDoes u middle after script script' = DoesRest middle after script script' ⊎ DoesLine u middle after script script'

shut_here : (pair : Pair) → times_open pair ≡ 0 → (side_of pair.link false).registered ≡ false
shut_here pair = by (side_of pair.link false).registered
  where
    by : (b : Bool) → ◌≡◌ {A = ℕ} (cond b 1 0) 0 → b ≡ false
    by false e = refl
    by true e = absurd (cc (e))

seat_fails : (u k : ℕ) (line : Line) (middle after : Pair) (mid new : List Pair) (script script' : Script) → IsOwnSeat script u k → slice_get mid k ≡ Some middle → slice_get new k ≡ Some after
    → fails line.verb ≡ true → FailsLine line mid new script script' → DoesFail line middle after script script'
seat_fails u k line middle after mid new script script' seat there here failing is = record {
  failing = failing;
  acts = is.acts k middle after there here;
  plainly = is.plainly k middle after there here;
  leaves = by is.leaves;
}
  where
    by : FailLeaves line new script script' → (script' ≡ script) ⊎ (EndsLine line outcomes.Done script script' × ((side_of after.link false).registered ≡ false))
    by (inl same) = inl same
    by (inr ends) = inr (ends.0, shut_here after (sym (ap opens_if here) ∙ ends.1 u k seat.sits))

seat_steps : (u k : ℕ) (went : Moved) (line : Line) (middle after : Pair) (old mid new : List Pair) (script script' : Script) → IsScript old script → IsOwnSeat script u k
    → slice_get mid k ≡ Some middle → slice_get new k ≡ Some after → IsSomeAnd (slice_get script.seats.items line.unit) (suits line.verb) → StepsLineOnce went line mid new script script'
    → DoesOwn u line middle after script script' ⊎ DoesElse u line middle after script script'
seat_steps u k went line middle after old mid new script script' are seat there here suited is = by (here_or line.unit u)
  where
    aside : (line.unit == u) ≡ false → (o : Option Seat) → slice_get script.seats.items line.unit ≡ o → IsSomeAnd o (suits line.verb) → slice_get new k ≡ slice_get mid k
    aside differ None e h = absurd h
    aside differ (Some places.Server) e h = absurd h
    aside differ (Some (places.Client j)) e h =
        (is.acts.client j e).beside k (apart_seats script.partition u line.unit k j script.seats.items old are.seats e seat.sits differ)
    aside differ (Some places.Port) e h = ap (λ (pairs : List Pair). slice_get pairs k) (is.acts.port e)

    by : ((line.unit == u) ≡ true) ⊎ ((line.unit == u) ≡ false) → DoesOwn u line middle after script script' ⊎ DoesElse u line middle after script script'
    by (inr differ) = inr (record {
      other = differ;
      same = some_is after middle (sym here ∙ (aside differ (slice_get script.seats.items line.unit) refl suited ∙ there));
      progress = is.progress;
      step = is.step;
      leaves = is.leaves;
    })
    by (inl own) =
        let sits : slice_get script.seats.items line.unit ≡ Some (places.Client k) = ap (slice_get script.seats.items) (eqb-true line.unit u own) ∙ seat.sits in
        inl (record {
          own = own;
          lawful = (is.acts.client k sits).lawful middle there;
          progress = is.progress;
          step = is.step;
          acts = (is.acts.client k sits).acts middle after there here;
          plainly = is.plainly k sits middle after there here;
          leaves = is.leaves;
        })

pub seat_does : (u k : ℕ) (went : Moved) (middle after : Pair) (old mid new : List Pair) (script script' : Script) → IsScript old script → IsOwnSeat script u k
    → slice_get mid k ≡ Some middle → slice_get new k ≡ Some after → GoesBy went (slice_get script.lines.now script.at) mid new script script' → SeatDoes u middle after script script'
seat_does u k went middle after old mid new script script' are seat there here = by (slice_get script.lines.now script.at) refl
  where
    by : (o : Option Line) → slice_get script.lines.now script.at ≡ o → GoesBy went o mid new script script' → SeatDoes u middle after script script'
    by None e is = inl (record { none = e; acts = is.0 k middle after there here; plainly = is.1 k middle after there here; leaves = is.3 })
    by (Some line) e is = inr (record { line = line; found = e; how = at (fails line.verb) refl })
      where
        at : (b : Bool) → fails line.verb ≡ b → DoesFail line middle after script script' ⊎ ((fails line.verb ≡ false) × (DoesOwn u line middle after script script' ⊎ DoesElse u line middle after script script'))
        at true failing = inl (seat_fails u k line middle after mid new script script' seat there here failing (is.failing failing))
        at false goes = inr (goes, seat_steps u k went line middle after old mid new script script' are seat there here (line_at e) (is.going goes (no_call script line e seat.own.no_call)))
          where
            line_at : slice_get script.lines.now script.at ≡ Some line → IsSomeAnd (slice_get script.seats.items line.unit) (suits line.verb)
            line_at found = (all_at (IsLineAt script.seats.items) script.lines.now script.at line found are.lines).suited
