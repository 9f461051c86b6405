-- What is done at the pairs of clients, one after the other.
use Rattle.std.proofs.Common.{◌≡◌, ◌≢◌, ◌∙◌, ◌⊎◌, inl, inr, ℕ, Bool, false, IfOk, IsSomeAnd, List, [], ◌∷◌, ◌++◌, OnOk, Option, Some, None, Result, Ok, Err, slice_get, slice_set, refl, sym, ap, subst, arith}
use Rattle.std.specs.Borrow.{GName}
use Rattle.std.proofs.lemmas.Option.{slice_get_within}
use Rattle.vio_num.specs.declared.memory.NoMemory.{NoMemory}
use Rattle.boot_text.specs.declared.plan.Line.{Line}
use Rattle.crq_ring.specs.Pipe.{IsLawfulPipe}
use Rattle.crq_session.specs.PlainState.{end_of, side_of}
use Rattle.crq_session.specs.declared.link.PlainLink.{PlainLink}
use Rattle.tce_window.specs.PlainPort.{known_of}
use Rattle.unit_region.specs.declared.step.Step.{Step}
use Rattle.unit_region.specs.declared.step.Step.TheVariants as steps
use Rattle.vio_num.specs.declared.hypervisor.Moved.TheVariants as moves
use Rattle.vcpu_run.specs.Acts.{Acting, acting}
use Rattle.vcpu_run.specs.ActsAt.{AllLead, AreUnmoved, AtPair, IsUnmoved, LeadsOver, Leads, LineActs, PairActs, SeatActs, acting_at}
use Rattle.vcpu_run.specs.Agreed.{OnDrivers}
use Rattle.vcpu_run.specs.Pairs.{AreDriven, Drives}
use Rattle.vcpu_run.specs.Suited.{suits}
use Rattle.vcpu_run.specs.declared.driver.Driver.{Driver}
use Rattle.vcpu_run.specs.declared.pair.Pair.{Pair}
use Rattle.vcpu_run.specs.declared.script.Progress.{Progress}
use Rattle.vcpu_run.specs.declared.unit_seat.Seat.{Seat}
use Rattle.vcpu_run.specs.declared.unit_seat.Seat.TheVariants as sits
use Rattle.vcpu_run.proofs.Driving.{client_is, get_set_other, get_set_same, no_port, same_or, some_is}

-- the end that was lent is the pair's again
pub at_pair : (P : Acting → Acting → Type 0) (f g : Bool) (x y : List GName) (lent : PlainLink) (old new : Pair) (a b : Driver) → old.driver ≡ Some a → new.driver ≡ Some b
    → lent ≡ old.link → f ≡ false → g ≡ false → y ≡ x
    → P (acting a false (end_of x lent f) false (known_of old.window)) (acting b false (end_of y new.link g) false (known_of new.window)) → AtPair P old new
at_pair P f g x y lent old new a b was there same first next names is =
    subst (λ (o : Option Driver). OnDrivers o new.driver (λ a b. (lenders : List GName) × P (acting_at lenders a old) (acting_at lenders b new))) (sym was)
    (subst (λ (o : Option Driver). OnDrivers (Some a) o (λ a b. (lenders : List GName) × P (acting_at lenders a old) (acting_at lenders b new))) (sym there) (
      x,
      subst (λ (l : PlainLink). P (acting a false (end_of x l false) false (known_of old.window)) (acting_at x b new)) same
          (subst (λ (d : Bool). P (acting a false (end_of x lent d) false (known_of old.window)) (acting_at x b new)) first
          (subst (λ (d : Bool). P (acting a false (end_of x lent f) false (known_of old.window)) (acting b false (end_of x new.link d) false (known_of new.window))) next
          (subst (λ (z : List GName). P (acting a false (end_of x lent f) false (known_of old.window)) (acting b false (end_of z new.link g) false (known_of new.window))) names is))),
    ))

-- where there is no client, nothing is said
pub at_none : (P : Acting → Acting → Type 0) (old new : Pair) → old.driver ≡ None → new.driver ≡ None → AtPair P old new
at_none P old new was there =
    subst (λ (o : Option Driver). OnDrivers o new.driver (λ a b. (lenders : List GName) × P (acting_at lenders a old) (acting_at lenders b new))) (sym was)
    (subst (λ (o : Option Driver). OnDrivers None o (λ a b. (lenders : List GName) × P (acting_at lenders a old) (acting_at lenders b new))) (sym there) tt)

-- P of what is there implies Q of it
pub on_drivers : (P Q : Driver → Driver → Type 0) (x y : Option Driver) → ((a b : Driver) → P a b → Q a b) → OnDrivers x y P → OnDrivers x y Q
on_drivers P Q (Some a) (Some b) more is = more a b is
on_drivers P Q None None more is = tt
on_drivers P Q (Some a) None more is = absurd is
on_drivers P Q None (Some b) more is = absurd is

-- ---- one after the other

pub leads_same : (P : Acting → Acting → Type 0) (pair : Pair) → Leads P pair pair
leads_same P pair = record { over = []; leads = refl }

leads_on : (P : Acting → Acting → Type 0) (first next : List Pair) (a b c : Pair) → LeadsOver P first a b → LeadsOver P next b c → LeadsOver P (first ++ next) a c
leads_on P [] next a b c same then_ = subst (λ (pair : Pair). LeadsOver P next pair c) same then_
leads_on P (d ∷ first) next a b c (one, rest) then_ = (one, leads_on P first next d b c rest then_)

leads_then : (P : Acting → Acting → Type 0) (a b c : Pair) → Leads P a b → Leads P b c → Leads P a c
leads_then P a b c first next = record { over = first.over ++ next.over; leads = leads_on P first.over next.over a b c first.leads next.leads }

leads_one : (P : Acting → Acting → Type 0) (old new : Pair) → AtPair P old new → Leads P old new
leads_one P old new is = record { over = new ∷ []; leads = (is, refl) }

pub all_lead_same : (P : Acting → Acting → Type 0) (pairs : List Pair) → AllLead P pairs pairs
all_lead_same P pairs k before after was now = subst (Leads P before) (some_is before after (sym was ∙ now)) (leads_same P before)

pub all_lead_on : (P : Acting → Acting → Type 0) (a b c : List Pair) → AreDriven a b → AllLead P a b → AllLead P b c → AllLead P a c
all_lead_on P a b c driven first next k before after was now = by (slice_get b k) refl (driven.each k before was)
  where
    by : (o : Option Pair) → slice_get b k ≡ o → IsSomeAnd o (Drives before) → Leads P before after
    by None e there = absurd there
    by (Some mid) e there = leads_then P before mid after (first k before mid was e) (next k mid after e now)

-- what was set at one place
at_set : (R : Pair → Pair → Type 0) (pairs : List Pair) (i : ℕ) (old new before after : Pair) → slice_get pairs i ≡ Some old → R old new
    → slice_get pairs i ≡ Some before → slice_get (slice_set pairs i new) i ≡ Some after → R before after
at_set R pairs i old new before after here is was now =
    let first : before ≡ old = some_is before old (sym was ∙ here) in
    let next : after ≡ new = some_is after new (sym now ∙ get_set_same pairs i new (slice_get_within pairs i old here)) in
    subst (R before) (sym next) (subst (λ (x : Pair). R x new) (sym first) is)

pub all_lead_set : (P : Acting → Acting → Type 0) (pairs : List Pair) (i : ℕ) (old new : Pair) → slice_get pairs i ≡ Some old → AtPair P old new → AllLead P pairs (slice_set pairs i new)
all_lead_set P pairs i old new here is k before after was now = by (same_or k i)
  where
    by : (k ≡ i) ⊎ (k ≢ i) → Leads P before after
    by (inl e) =
        at_set (Leads P) pairs i old new before after here (leads_one P old new is) (subst (λ (n : ℕ). slice_get pairs n ≡ Some before) e was)
        (subst (λ (n : ℕ). slice_get (slice_set pairs i new) n ≡ Some after) e now)
    by (inr apart) = all_lead_same P pairs k before after was (sym (get_set_other pairs i k new apart) ∙ now)

pub all_lead_ok : {T E : Type 0} (P : Acting → Acting → Type 0) (r : Result T E) (pairs : List Pair) (i : ℕ) (old new : Pair) → slice_get pairs i ≡ Some old → OnOk r (AtPair P old new)
    → OnOk r (AllLead P pairs (slice_set pairs i new))
all_lead_ok P (Ok t) pairs i old new here is = all_lead_set P pairs i old new here is
all_lead_ok P (Err e) pairs i old new here is = tt

-- ---- a step of a line at its unit

-- nothing moved there, nor at the others
unmoved_same : (pair : Pair) → IsUnmoved pair pair
unmoved_same pair = record { put = omega arith; taken = omega arith }

unmoved_set : (pairs : List Pair) (i k : ℕ) (old new before after : Pair) → slice_get pairs i ≡ Some old → IsUnmoved old new → slice_get pairs k ≡ Some before
    → slice_get (slice_set pairs i new) k ≡ Some after → (k ≡ i) ⊎ (k ≢ i) → IsUnmoved before after
unmoved_set pairs i k old new before after here is was now (inl e) =
    at_set IsUnmoved pairs i old new before after here is (subst (λ (n : ℕ). slice_get pairs n ≡ Some before) e was)
    (subst (λ (n : ℕ). slice_get (slice_set pairs i new) n ≡ Some after) e now)
unmoved_set pairs i k old new before after here is was now (inr apart) =
    subst (IsUnmoved before) (some_is before after (sym was ∙ (sym (get_set_other pairs i k new apart) ∙ now))) (unmoved_same before)

pub seat_acts : (line : Line) (p p' : Progress) (result : Result Step NoMemory) (pairs : List Pair) (i : ℕ) (old new : Pair) → slice_get pairs i ≡ Some old
    → IfOk result (PairActs line p p' old new) → IfOk result (λ step. step ≡ steps.Waits moves.Quiet → IsUnmoved old new) → IsLawfulPipe (side_of old.link false).queue
    → IfOk result (SeatActs i line p p' pairs (slice_set pairs i new))
seat_acts line p p' (Err memory) pairs i old new here is still lawful = tt
seat_acts line p p' (Ok step) pairs i old new here is still lawful = record {
  acts = λ before after was now. at_set (λ a b. PairActs line p p' a b step) pairs i old new before after here is was now;
  still = λ quiet k before after was now. unmoved_set pairs i k old new before after here (still quiet) was now (same_or k i);
  lawful = λ before was. subst (λ (pair : Pair). IsLawfulPipe (side_of pair.link false).queue) (some_is old before (sym here ∙ was)) lawful;
  beside = λ k apart. get_set_other pairs i k new apart;
}

pub client_acts : (seats : List Seat) (line : Line) (p p' : Progress) (result : Result Step NoMemory) (seat : ℕ) (old new : List Pair)
    → slice_get seats line.unit ≡ Some (sits.Client seat) → IfOk result (SeatActs seat line p p' old new) → IfOk result (LineActs seats line p p' old new)
client_acts seats line p p' (Err memory) seat old new here is = tt
client_acts seats line p p' (Ok step) seat old new here is = record {
  client = λ k there. subst (λ (n : ℕ). SeatActs n line p p' old new step) (client_is seat k (sym here ∙ there)) is;
  port = λ there. absurd (no_port seat (sym here ∙ there));
}

pub port_acts : (seats : List Seat) (line : Line) (p p' : Progress) (result : Result Step NoMemory) (pairs : List Pair) → slice_get seats line.unit ≡ Some sits.Port
    → IfOk result (LineActs seats line p p' pairs pairs)
port_acts seats line p p' (Err memory) pairs here = tt
port_acts seats line p p' (Ok step) pairs here = record { client = λ k there. absurd (no_port k (sym there ∙ here)); port = λ there. refl }

-- a step of a line at its unit that did nothing
pub line_unmoved : (seats : List Seat) (line : Line) (p p' : Progress) (old new : List Pair) (step : Step) → IsSomeAnd (slice_get seats line.unit) (suits line.verb)
    → LineActs seats line p p' old new step → step ≡ steps.Waits moves.Quiet → AreUnmoved old new
line_unmoved seats line p p' old new step suited acts quiet = at (slice_get seats line.unit) refl suited
  where
    at : (o : Option Seat) → slice_get seats line.unit ≡ o → IsSomeAnd o (suits line.verb) → AreUnmoved old new
    at None e none = absurd none
    at (Some sits.Server) e none = absurd none
    at (Some (sits.Client k)) e there = (acts.client k e).still quiet
    at (Some sits.Port) e there = λ k before after was now.
        subst (IsUnmoved before) (some_is before after (sym was ∙ (ap (λ (list : List Pair). slice_get list k) (sym (acts.port e)) ∙ now))) (unmoved_same before)
