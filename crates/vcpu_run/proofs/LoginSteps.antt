-- The steps of a line that logs in or resets, and the records of both.
use Rattle.std.proofs.Common.{◌≡◌, ◌∙◌, ◌⊎◌, inl, inr, ℕ, ◌≤◌, ◌<◌, not, Bool, true, false, All, List, [], Option, None, Result, Ok, Err, refl, sym, ap, subst, arith}
use Rattle.vio_num.specs.declared.hypervisor.Moved.TheVariants.{Moved as Moves, Quiet}
use Rattle.vio_num.specs.declared.memory.NoMemory.{NoMemory}
use Rattle.crq_session.specs.EndState.{EndState}
use Rattle.boot_text.specs.declared.verb.Verb.{Verb}
use Rattle.boot_text.specs.declared.verb.Verb.TheVariants as verbs
use Rattle.vio_trace.specs.declared.outcome.Outcome.TheVariants as outcomes
use Rattle.unit_region.specs.declared.step.Step.{Step}
use Rattle.unit_region.specs.declared.step.Step.TheVariants as steps
use Rattle.vscsi_client.specs.declared.answers.LoginTurn.{LoginTurn}
use Rattle.vscsi_client.specs.declared.answers.LoginTurn.TheVariants as turns
use Rattle.vscsi_client.specs.Frames.{IsOpened, OnlyTurns, Renews}
use Rattle.vscsi_client.specs.State.{ClientState, next_tag}
use Rattle.vscsi_client.specs.Turned.{Site, Turned, is_busy}
use Rattle.vcpu_run.specs.declared.script.Progress.{Progress}
use Rattle.vcpu_run.specs.declared.script.Progress.TheVariants as progress
use Rattle.vcpu_run.specs.Credited.{Ended, taken_in}
use Rattle.vcpu_run.specs.Freeing.{is_reset}
use Rattle.vcpu_run.specs.Refusals.{tags_told}
use Rattle.vcpu_run.specs.Sendings.{SaysTurned}
use Rattle.vcpu_run.specs.Telling.{AgreesTold, HasQueue, IsOf, IsToldAt, LeavesOut, Seated, StepsOut, StepsTold, is_freed, login_after, seated}
use Rattle.vcpu_run.proofs.Following.{each_from_all}
use Rattle.vcpu_run.proofs.LoginsTold.{GoesOn, LeavesLogin, granted_told, leaves_login, true_false, turn_tags, turn_tells}
use Rattle.lan_script.proofs.Order.{each_weaker}
use Rattle.vcpu_run.proofs.Sole.{all_from_each}
use Rattle.vcpu_run.proofs.Tellings.{TagsWithin, ends_told}

-- a queue that was registered is so behind a turn of a login
pub stays_open : (shared : Bool) (a c : EndState) → OnlyTurns shared a c → a.registered ≡ true → c.registered ≡ true
stays_open shared a c turns on = turns.later.registered ∙ opened turns.opens
  where
    renewed : Renews shared a turns.opened → turns.opened.registered ≡ true
    renewed renews = elim renews.opens as (λ _. turns.opened.registered ≡ true) [
      | inl opens ↦ opens.registered
      | inr meets ↦ absurd (true_false renews.room.registered (renews.ready.registered ∙ on) meets.still.unregistered)
    ]

    opened : IsOpened shared a turns.opened → turns.opened.registered ≡ true
    opened is = elim is.opens as (λ _. turns.opened.registered ≡ true) [
      | inl none ↦ none.registered ∙ on
      | inr renews ↦ renewed renews
    ]

-- the client of a site, before or behind a step of a line
abbrev pub seated_at : Site → Progress → Seated
seated_at x p = seated x.client p x.at.crq.registered

pub no_tags : (n m : ℕ) → TagsWithin n m []
no_tags n m = record { from = tt; below = tt }

pub below_on : (own : List Ended) (n m : ℕ) → n ≤ m → All (λ tag. tag < n) (tags_told own) → All (λ tag. tag < m) (tags_told own)
below_on own n m less below =
    all_from_each (λ tag. tag < m) (tags_told own) (each_weaker (λ tag. tag < n) (λ tag. tag < m) (λ tag h. omega (arith, h, less)) (tags_told own) (each_from_all (λ tag. tag < n) (tags_told own) below))

pub queue_on : (p : Progress) (g : Option ℕ) (registered : Bool) → is_freed p ≡ false → (g ≡ None) ⊎ HasQueue p registered → (g ≡ None) ⊎ (registered ≡ true)
queue_on p g registered going (inl none) = inl none
queue_on p g registered going (inr has) = inr (has ∙ ap not going)

pub queue_back : (p : Progress) (g : Option ℕ) (registered : Bool) → is_freed p ≡ false → (g ≡ None) ⊎ (registered ≡ true) → (g ≡ None) ⊎ HasQueue p registered
queue_back p g registered going (inl none) = inl none
queue_back p g registered going (inr is) = inr (is ∙ ap not (sym going))

-- what a step of a login leaves that grants nothing and loses nothing
leaves : (pages : ℕ) (own : List Ended) (p : Progress) (x y : Site) → is_freed p ≡ false → IsToldAt pages own (seated_at x p) → GoesOn x y
    → (x.at.crq.registered ≡ true → y.at.crq.registered ≡ true) → LeavesLogin (taken_in p) (login_after None own) y.client y.at.crq.registered
leaves pages own p x y going told goes keeps =
    leaves_login (taken_in p) (login_after None own) x y goes (told.agrees going) (queue_on p x.client.granted x.at.crq.registered going told.queue) y.at.crq.registered keeps

waits_login : (pages : ℕ) (own : List Ended) (p : Progress) (x y : Site) → is_freed p ≡ false → next_tag x.client ≤ next_tag y.client → GoesOn x y
    → (x.at.crq.registered ≡ true → y.at.crq.registered ≡ true) → IsToldAt pages own (seated_at x p) → IsToldAt pages own (seated_at y p)
waits_login pages own p x y going tags goes keeps told =
    let left = leaves pages own p x y going told goes keeps in
    record {
      law = told.law;
      below = below_on own (next_tag x.client) (next_tag y.client) tags told.below;
      agrees = λ _. left.agrees;
      queue = queue_back p y.client.granted y.at.crq.registered going left.queue;
    }

pub login_told : (pages line : ℕ) (p : Progress) (x y : Site) (turn : LoginTurn) (step : Step) → Turned line x y (Ok turn) → SaysTurned turn step
    → (is_busy turn ≡ false → y.at.crq.registered ≡ true) → (x.at.crq.registered ≡ true → y.at.crq.registered ≡ true)
    → StepsTold pages verbs.Login (seated_at x p) (seated_at y p) (Ok step)
login_told pages line p x y (turns.Granted credits) step turned says on keeps =
    subst (λ (s : Step). StepsTold pages verbs.Login (seated_at x p) (seated_at y p) (Ok s)) (sym says) (λ of own told.
    ends_told pages verbs.Login (outcomes.Granted credits) own (seated_at x p) (seated_at y p) told tt (turn_tags line x y (turns.Granted credits) turned)
    (no_tags (next_tag x.client) (next_tag y.client)) (granted_told credits y.client (turn_tells line x y (turns.Granted credits) turned)) (inr (on refl)))
login_told pages line p x y (turns.Rejected reason) step turned says on keeps =
    subst (λ (s : Step). StepsTold pages verbs.Login (seated_at x p) (seated_at y p) (Ok s)) (sym says) (λ of own told.
    let left = leaves pages own p x y (of.reset refl) told (turn_tells line x y (turns.Rejected reason) turned) keeps in
    ends_told pages verbs.Login (outcomes.Rejected reason) own (seated_at x p) (seated_at y p) told tt (turn_tags line x y (turns.Rejected reason) turned)
    (no_tags (next_tag x.client) (next_tag y.client)) (subst (λ n. AgreesTold n (login_after None own) y.client) (of.take refl) left.agrees) left.queue)
login_told pages line p x y turns.Lost step turned says on keeps =
    subst (λ (s : Step). StepsTold pages verbs.Login (seated_at x p) (seated_at y p) (Ok s)) (sym says) (λ of own told.
    let out = turn_tells line x y turns.Lost turned in
    ends_told pages verbs.Login outcomes.Lost own (seated_at x p) (seated_at y p) told tt (turn_tags line x y turns.Lost turned)
    (no_tags (next_tag x.client) (next_tag y.client)) out (inl out))
login_told pages line p x y turns.Again (steps.Waits did) turned says on keeps = λ of.
    (of, λ own told. waits_login pages own p x y (of.reset refl) (turn_tags line x y turns.Again turned) (turn_tells line x y turns.Again turned) keeps told)
login_told pages line p x y turns.Again (steps.Ends outcome) turned says on keeps = absurd says
login_told pages line p x y (turns.Busy number held) (steps.Waits did) turned says on keeps = λ of.
    (of, λ own told. waits_login pages own p x y (of.reset refl) (turn_tags line x y (turns.Busy number held) turned) (turn_tells line x y (turns.Busy number held) turned) keeps told)
login_told pages line p x y (turns.Busy number held) (steps.Ends outcome) turned says on keeps = absurd says

-- behind a freed queue no login is on until one is granted
reset_out : (x y : Site) → GoesOn x y → (x.client.granted ≡ None) ⊎ (x.at.crq.registered ≡ false) → y.client.granted ≡ None
reset_out x y (inl goes) (inl none) = goes.1.granted ∙ none
reset_out x y (inl goes) (inr off) = absurd (true_false x.at.crq.registered goes.0 off)
reset_out x y (inr goes) queue = goes.1

waits_reset : (pages : ℕ) (own : List Ended) (x y : Site) → next_tag x.client ≤ next_tag y.client → GoesOn x y
    → IsToldAt pages own (seated_at x progress.Freed) → IsToldAt pages own (seated_at y progress.Freed)
waits_reset pages own x y tags goes told = record {
  law = told.law;
  below = below_on own (next_tag x.client) (next_tag y.client) tags told.below;
  agrees = λ going. absurd (cc);
  queue = inl (reset_out x y goes told.queue);
}

pub reset_told : (pages line : ℕ) (x y : Site) (turn : LoginTurn) (step : Step) → Turned line x y (Ok turn) → SaysTurned turn step
    → (is_busy turn ≡ false → y.at.crq.registered ≡ true) → StepsTold pages verbs.Reset (seated_at x progress.Freed) (seated_at y progress.Freed) (Ok step)
reset_told pages line x y (turns.Granted credits) step turned says on =
    subst (λ (s : Step). StepsTold pages verbs.Reset (seated_at x progress.Freed) (seated_at y progress.Freed) (Ok s)) (sym says) (λ of own told.
    ends_told pages verbs.Reset (outcomes.Granted credits) own (seated_at x progress.Freed) (seated_at y progress.Freed) told tt (turn_tags line x y (turns.Granted credits) turned)
    (no_tags (next_tag x.client) (next_tag y.client)) (granted_told credits y.client (turn_tells line x y (turns.Granted credits) turned)) (inr (on refl)))
reset_told pages line x y (turns.Rejected reason) step turned says on =
    subst (λ (s : Step). StepsTold pages verbs.Reset (seated_at x progress.Freed) (seated_at y progress.Freed) (Ok s)) (sym says) (λ of own told.
    let out = reset_out x y (turn_tells line x y (turns.Rejected reason) turned) told.queue in
    ends_told pages verbs.Reset (outcomes.Rejected reason) own (seated_at x progress.Freed) (seated_at y progress.Freed) told tt (turn_tags line x y (turns.Rejected reason) turned)
    (no_tags (next_tag x.client) (next_tag y.client)) out (inl out))
reset_told pages line x y turns.Lost step turned says on =
    subst (λ (s : Step). StepsTold pages verbs.Reset (seated_at x progress.Freed) (seated_at y progress.Freed) (Ok s)) (sym says) (λ of own told.
    let out = turn_tells line x y turns.Lost turned in
    ends_told pages verbs.Reset outcomes.Lost own (seated_at x progress.Freed) (seated_at y progress.Freed) told tt (turn_tags line x y turns.Lost turned)
    (no_tags (next_tag x.client) (next_tag y.client)) out (inl out))
reset_told pages line x y turns.Again (steps.Waits did) turned says on = λ of.
    (of, λ own told. waits_reset pages own x y (turn_tags line x y turns.Again turned) (turn_tells line x y turns.Again turned) told)
reset_told pages line x y turns.Again (steps.Ends outcome) turned says on = absurd says
reset_told pages line x y (turns.Busy number held) (steps.Waits did) turned says on = λ of.
    (of, λ own told. waits_reset pages own x y (turn_tags line x y (turns.Busy number held) turned) (turn_tells line x y (turns.Busy number held) turned) told)
reset_told pages line x y (turns.Busy number held) (steps.Ends outcome) turned says on = absurd says

-- what waits behind a freed queue has no login
pub login_out : (line : ℕ) (x y : Site) (turn : LoginTurn) (step : Step) → Turned line x y (Ok turn) → SaysTurned turn step
    → (x.client.granted ≡ None) ⊎ (x.at.crq.registered ≡ false) → LeavesOut y.client (Ok step)
login_out line x y turn (steps.Ends outcome) turned says queue = tt
login_out line x y (turns.Granted credits) (steps.Waits did) turned says queue = absurd (cc)
login_out line x y (turns.Rejected reason) (steps.Waits did) turned says queue = absurd (cc)
login_out line x y turns.Lost (steps.Waits did) turned says queue = absurd (cc)
login_out line x y turns.Again (steps.Waits did) turned says queue = reset_out x y (turn_tells line x y turns.Again turned) queue
login_out line x y (turns.Busy number held) (steps.Waits did) turned says queue = reset_out x y (turn_tells line x y (turns.Busy number held) turned) queue

-- a reset that finds its queue free goes on as one that freed it
as_freed : (pages : ℕ) (own : List Ended) (s : ClientState) (p : Progress) (r r' : Bool) → r' ≡ false → IsToldAt pages own (seated s p r) → IsToldAt pages own (seated s progress.Freed r')
as_freed pages own s p r r' none told = record {
  law = told.law;
  below = told.below;
  agrees = λ going. absurd (true_false true refl going);
  queue = inr none;
}

freed_is : IsOf verbs.Reset progress.Freed
freed_is = record { take = λ other. refl; reset = λ other. absurd (true_false true refl other) }

pub begins_freed : (pages : ℕ) (s : ClientState) (p : Progress) (r r' : Bool) (b : Seated) (result : Result Step NoMemory) → r' ≡ false
    → StepsTold pages verbs.Reset (seated s progress.Freed r') b result → StepsTold pages verbs.Reset (seated s p r) b result
begins_freed pages s p r r' b (Ok (steps.Ends outcome)) none is = λ of own told. is freed_is own (as_freed pages own s p r r' none told)
begins_freed pages s p r r' b (Ok (steps.Waits did)) none is = λ of. let next = is freed_is in (next.0, λ own told. next.1 own (as_freed pages own s p r r' none told))
begins_freed pages s p r r' b (Err memory) none is = tt

-- a line that is no reset
pub other_out : (verb : Verb) (a b : Seated) (result : Result Step NoMemory) → is_reset verb ≡ false → StepsOut verb a b result
other_out verb a b (Ok (steps.Waits Moves)) other = tt
other_out verb a b (Ok (steps.Waits Quiet)) other = λ is queue. absurd (true_false (is_reset verb) is other)
other_out verb a b (Ok (steps.Ends outcome)) other = tt
other_out verb a b (Err memory) other = tt

pub out_as : (verb verb' : Verb) (a b : Seated) (result : Result Step NoMemory) → verb ≡ verb' → StepsOut verb' a b result → StepsOut verb a b result
out_as verb verb' a b result is out = subst (λ (v : Verb). StepsOut v a b result) (sym is) out
