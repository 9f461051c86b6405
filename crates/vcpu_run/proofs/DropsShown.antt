-- A request that says that it was dropped met a full slot, whose record stays at its pair.
use Rattle.std.proofs.Common.{◌≡◌, inl, inr, ℕ, nat_le, cond, Bool, true, false, List, [], ◌∷◌, Option, Some, None, Result, Ok, Err, IfErr, IfSome, length, refl, sym, ap, subst, option_map}
use Rattle.vio_num.specs.declared.memory.NoMemory.{NoMemory}
use Rattle.crq_session.specs.EndState.{OnlyReserves}
use Rattle.vio_trace.specs.declared.outcome.Outcome.{Outcome}
use Rattle.vio_trace.specs.declared.outcome.Outcome.TheVariants as outcomes
use Rattle.unit_region.specs.declared.step.Step.{Step}
use Rattle.unit_region.specs.declared.step.Step.TheVariants as steps
use Rattle.srp_iu.specs.declared.unit.Iu.{Iu}
use Rattle.srp_iu.specs.declared.unit.Iu.TheVariants as units
use Rattle.vscsi_client.specs.Ports.{Ports, WhyNotWritten}
use Rattle.vscsi_client.specs.Sending.{PutsNoUnit, WhyNotSent, WhyNotSubmitted, command_refusal, logout_refusal, logout_refused_by, logout_unit, refused_by, table_writes, task_refusal, task_unit}
use Rattle.vscsi_client.specs.Spans.{first_sharing, op_in_range}
use Rattle.vscsi_client.specs.State.{ClientState}
use Rattle.vscsi_client.specs.declared.answers.LoginTurn.{LoginTurn}
use Rattle.vscsi_client.specs.declared.answers.LoginTurn.TheVariants as turns
use Rattle.vscsi_client.specs.declared.answers.Refused.{Refused}
use Rattle.vscsi_client.specs.declared.answers.Refused.TheVariants as whys
use Rattle.vscsi_client.specs.declared.op.Op.{Op}
use Rattle.vscsi_client.specs.declared.outgoing.Outgoing.{Outgoing}
use Rattle.vcpu_run.specs.DropsShown.{IsFullBy, IsFullIf, StepFull}
use Rattle.vcpu_run.specs.Sendings.{SaysSent, SaysTurned, SaysWhy, says_as}
use Rattle.vcpu_run.proofs.Askings.{err_is}
use Rattle.vcpu_run.proofs.Driving.{some_is}
use Rattle.vcpu_run.proofs.DropsStay.{found_full}

-- only a full slot says `dropped`
dropped_why : (why : Refused) (number held : ℕ) → says_as why ≡ Some (outcomes.Dropped number held) → why ≡ whys.Dropped number held
dropped_why whys.Range number held e = absurd (cc (e))
dropped_why whys.NotLoggedIn number held e = absurd (cc (e))
dropped_why (whys.NoCredit limit) number held e = absurd (cc (e))
dropped_why (whys.Overlap tag) number held e = absurd (cc (e))
dropped_why (whys.Closed control) number held e = absurd (cc (e))
dropped_why (whys.Dropped n h) number held e =
    let same : outcomes.Dropped n h ≡ outcomes.Dropped number held = some_is (outcomes.Dropped n h) (outcomes.Dropped number held) e in
    cc (same)
dropped_why (whys.InUse page word) number held e = absurd (cc (e))
dropped_why whys.NoMemory number held e = absurd (cc (e))

-- P of each number and what lay there, where the answer of a request is that it was dropped
abbrev pub IfFull : (P : (number held : ℕ) → Type 0) → Refused → Type 0
IfFull P (whys.Dropped number held) = P number held
IfFull P _ = Unit {0}

-- what a request says then
pub sent_full : (P : (number held : ℕ) → Type 0) (answer : Result ℕ Refused) (result : Result Step NoMemory) → SaysSent answer result → IfErr answer (λ why. SaysWhy why result)
    → IfErr answer (IfFull P) → StepFull P result
sent_full P (Ok tag) result says why full = subst (StepFull P) (sym says) tt
sent_full P (Err why) (Ok (steps.Ends outcome)) says said full = at outcome said
  where
    at : (o : Outcome) → says_as why ≡ Some o → IsFullIf P o
    at (outcomes.Granted credits) e = tt
    at (outcomes.Sent tag) e = tt
    at (outcomes.Took count) e = tt
    at outcomes.Lost e = tt
    at (outcomes.TookThenLost count) e = tt
    at (outcomes.Rejected reason) e = tt
    at outcomes.Unanswered e = tt
    at outcomes.Range e = tt
    at outcomes.NotLoggedIn e = tt
    at (outcomes.NoCredit limit) e = tt
    at (outcomes.Overlap tag) e = tt
    at outcomes.Closed e = tt
    at (outcomes.Dropped number held) e = subst (IfFull P) (dropped_why why number held e) full
    at (outcomes.Data size sum) e = tt
    at (outcomes.Stale page) e = tt
    at outcomes.Unknown e = tt
    at (outcomes.Code code) e = tt
    at (outcomes.Value value) e = tt
    at (outcomes.Posted buffers code) e = tt
    at (outcomes.Frame code number) e = tt
    at outcomes.Done e = tt
    at (outcomes.Bytes shown) e = tt
sent_full P (Err why) (Ok (steps.Waits did)) says said full = tt
sent_full P (Err why) (Err memory) says said full = tt

-- a line that does not say so
pub full_none : (P : (number held : ℕ) → Type 0) (result : Result Step NoMemory) → ((number held : ℕ) → result ≡ Ok (steps.Ends (outcomes.Dropped number held)) → ⊥) → StepFull P result
full_none P (Ok (steps.Ends outcome)) none = at outcome refl
  where
    at : (o : Outcome) → outcome ≡ o → IsFullIf P o
    at (outcomes.Granted credits) e = tt
    at (outcomes.Sent tag) e = tt
    at (outcomes.Took count) e = tt
    at outcomes.Lost e = tt
    at (outcomes.TookThenLost count) e = tt
    at (outcomes.Rejected reason) e = tt
    at outcomes.Unanswered e = tt
    at outcomes.Range e = tt
    at outcomes.NotLoggedIn e = tt
    at (outcomes.NoCredit limit) e = tt
    at (outcomes.Overlap tag) e = tt
    at outcomes.Closed e = tt
    at (outcomes.Dropped number held) e = absurd (none number held (ap (λ (x : Outcome). Ok (steps.Ends x)) e))
    at (outcomes.Data size sum) e = tt
    at (outcomes.Stale page) e = tt
    at outcomes.Unknown e = tt
    at (outcomes.Code code) e = tt
    at (outcomes.Value value) e = tt
    at (outcomes.Posted buffers code) e = tt
    at (outcomes.Frame code number) e = tt
    at outcomes.Done e = tt
    at (outcomes.Bytes shown) e = tt
full_none P (Ok (steps.Waits did)) none = tt
full_none P (Err memory) none = tt

-- a turn of a login
pub turned_full : (P : (number held : ℕ) → Type 0) (turn : LoginTurn) (step : Step) → SaysTurned turn step → StepFull P (Ok step)
turned_full P (turns.Granted credits) step says = subst (λ (s : Step). StepFull P (Ok s)) (sym says) tt
turned_full P (turns.Rejected reason) step says = subst (λ (s : Step). StepFull P (Ok s)) (sym says) tt
turned_full P turns.Lost step says = subst (λ (s : Step). StepFull P (Ok s)) (sym says) tt
turned_full P turns.Again (steps.Waits did) says = tt
turned_full P turns.Again (steps.Ends outcome) says = absurd says
turned_full P (turns.Busy number held) (steps.Waits did) says = tt
turned_full P (turns.Busy number held) (steps.Ends outcome) says = absurd says

-- a unit whose entry was not put
unit_full : (line : ℕ) (s : ClientState) (iu : Iu) (old before new : Ports) (why : Refused) → before.crq_shared ≡ old.crq_shared → OnlyReserves old.crq before.crq
    → new.crq.place ≡ old.crq.place → PutsNoUnit line s iu before new why → IfFull (IsFullBy old.crq_shared new.crq) why
unit_full line s iu old before new (whys.InUse page word) shared room place h = tt
unit_full line s iu old before new (whys.Closed control) shared room place h = tt
unit_full line s iu old before new (whys.Dropped number held) shared room place h =
    subst (λ b. IsFullBy b new.crq number held) shared (found_full before.crq_shared old.crq before.crq new.crq number held room place h.3.1.1)
unit_full line s iu old before new whys.NoMemory shared room place h = tt
unit_full line s iu old before new whys.Range shared room place h = tt
unit_full line s iu old before new whys.NotLoggedIn shared room place h = tt
unit_full line s iu old before new (whys.NoCredit limit) shared room place h = tt
unit_full line s iu old before new (whys.Overlap tag) shared room place h = tt

-- a refusal before anything is written is none for a full slot
overlap_none : (P : (number held : ℕ) → Type 0) (o : Option ℕ) (why : Refused) → option_map whys.Overlap o ≡ Some why → IfFull P why
overlap_none P None why e = absurd (cc (e))
overlap_none P (Some tag) why e = subst (IfFull P) (some_is (whys.Overlap tag) why e) tt

refused_none : (P : (number held : ℕ) → Type 0) (granted : Option ℕ) (outstanding : ℕ) (overlap : Option ℕ) (why : Refused) → refused_by granted outstanding overlap ≡ Some why → IfFull P why
refused_none P None outstanding overlap why e = subst (IfFull P) (some_is whys.NotLoggedIn why e) tt
refused_none P (Some granted) outstanding overlap why e = at (nat_le granted outstanding) e
  where
    at : (b : Bool) → cond b (Some (whys.NoCredit 0)) (option_map whys.Overlap overlap) ≡ Some why → IfFull P why
    at true h = subst (IfFull P) (some_is (whys.NoCredit 0) why h) tt
    at false h = overlap_none P overlap why h

waits_none : (P : (number held : ℕ) → Type 0) (granted : Option ℕ) (outgoing : List Outgoing) (why : Refused) → logout_refused_by granted outgoing ≡ Some why → IfFull P why
waits_none P None outgoing why e = subst (IfFull P) (some_is whys.NotLoggedIn why e) tt
waits_none P (Some granted) [] why e = absurd (cc (e))
waits_none P (Some granted) (oldest ∷ others) why e = subst (IfFull P) (some_is (whys.Overlap oldest.tag) why e) tt

command_none : (P : (number held : ℕ) → Type 0) (pages : ℕ) (s : ClientState) (op : Op) (why : Refused) → command_refusal pages s op ≡ Some why → IfFull P why
command_none P pages s op why e = at (op_in_range pages op) e
  where
    at : (b : Bool) → cond b (refused_by s.granted (length s.outgoing) (first_sharing op s.outgoing)) (Some whys.Range) ≡ Some why → IfFull P why
    at true h = refused_none P s.granted (length s.outgoing) (first_sharing op s.outgoing) why h
    at false h = subst (IfFull P) (some_is whys.Range why h) tt

-- a command that was refused, or was not sent though nothing speaks against it
not_submitted : (line : ℕ) (op : Op) (s s' : ClientState) (old new : Ports) (why : Refused) → new.crq.place ≡ old.crq.place → WhyNotSubmitted line op s s' old new why
    → IfFull (IsFullBy old.crq_shared new.crq) why
not_submitted line op s s' old new why place (inl h) = at why h.why_not
  where
    at : (w : Refused) → WhyNotWritten old.own_shared (table_writes line op s) old.own new.own w → IfFull (IsFullBy old.crq_shared new.crq) w
    at (whys.InUse page word) h = tt
    at (whys.Closed control) h = tt
    at (whys.Dropped number held) h = absurd h
    at whys.NoMemory h = tt
    at whys.Range h = tt
    at whys.NotLoggedIn h = tt
    at (whys.NoCredit limit) h = tt
    at (whys.Overlap tag) h = tt
not_submitted line op s s' old new why place (inr h) =
    unit_full line s (units.Cmd h.command) old h.before new why h.ready.crq_shared h.ready.crq place h.why_not

pub submit_full : (line : ℕ) (op : Op) (s s' : ClientState) (old new : Ports) (answer : Result ℕ Refused) (result : Result Step NoMemory)
    → SaysSent answer result → IfErr answer (λ why. SaysWhy why result) → new.crq.place ≡ old.crq.place
    → IfSome (command_refusal old.own.place.size s op) (λ why. (answer ≡ Err why) × (s' ≡ s) × (new.crq ≡ old.crq) × (new.own ≡ old.own))
    → (command_refusal old.own.place.size s op ≡ None → IfErr answer (WhyNotSubmitted line op s s' old new))
    → StepFull (IsFullBy old.crq_shared new.crq) result
submit_full line op s s' old new answer result says said place refused not_sent =
    sent_full P answer result says said (at answer refl (command_refusal old.own.place.size s op) refl refused)
  where
    P : (number held : ℕ) → Type 0
    P = IsFullBy old.crq_shared new.crq

    at : (a : Result ℕ Refused) → answer ≡ a → (r : Option Refused) → command_refusal old.own.place.size s op ≡ r
        → IfSome r (λ why. (answer ≡ Err why) × (s' ≡ s) × (new.crq ≡ old.crq) × (new.own ≡ old.own)) → IfErr a (IfFull P)
    at (Ok tag) e r some h = tt
    at (Err why) e None none h = not_submitted line op s s' old new why place (subst (λ (x : Result ℕ Refused). IfErr x (WhyNotSubmitted line op s s' old new)) e (not_sent none))
    at (Err why) e (Some w) some h = subst (IfFull P) (err_is w why answer h.0 e) (command_none P old.own.place.size s op w some)

-- a request without data
not_sent_full : (line : ℕ) (s : ClientState) (iu : Iu) (old new : Ports) (why : Refused) → new.crq.place ≡ old.crq.place → WhyNotSent line s iu old new why
    → IfFull (IsFullBy old.crq_shared new.crq) why
not_sent_full line s iu old new why place (inl h) = subst (IfFull (IsFullBy old.crq_shared new.crq)) (sym h.0) tt
not_sent_full line s iu old new why place (inr h) = unit_full line s iu old h.before new why h.ready.crq_shared h.ready.crq place h.why_not

request_full : (line : ℕ) (s : ClientState) (iu : Iu) (old new : Ports) (answer : Result ℕ Refused) (result : Result Step NoMemory) (refusal : Option Refused)
    → SaysSent answer result → IfErr answer (λ why. SaysWhy why result) → new.crq.place ≡ old.crq.place
    → ((why : Refused) → refusal ≡ Some why → IfFull (IsFullBy old.crq_shared new.crq) why)
    → IfSome refusal (λ why. (answer ≡ Err why) × (new.crq ≡ old.crq) × (new.own ≡ old.own))
    → (refusal ≡ None → IfErr answer (WhyNotSent line s iu old new)) → StepFull (IsFullBy old.crq_shared new.crq) result
request_full line s iu old new answer result refusal says said place none refused not_sent =
    sent_full P answer result says said (at answer refl refusal refl refused)
  where
    P : (number held : ℕ) → Type 0
    P = IsFullBy old.crq_shared new.crq

    at : (a : Result ℕ Refused) → answer ≡ a → (r : Option Refused) → refusal ≡ r → IfSome r (λ why. (answer ≡ Err why) × (new.crq ≡ old.crq) × (new.own ≡ old.own)) → IfErr a (IfFull P)
    at (Ok tag) e r some h = tt
    at (Err why) e None is h = not_sent_full line s iu old new why place (subst (λ (x : Result ℕ Refused). IfErr x (WhyNotSent line s iu old new)) e (not_sent is))
    at (Err why) e (Some w) is h = subst (IfFull P) (err_is w why answer h.0 e) (none w is)

pub task_full : (line function task : ℕ) (s : ClientState) (old new : Ports) (answer : Result ℕ Refused) (result : Result Step NoMemory)
    → SaysSent answer result → IfErr answer (λ why. SaysWhy why result) → new.crq.place ≡ old.crq.place
    → IfSome (task_refusal s) (λ why. (answer ≡ Err why) × (new.crq ≡ old.crq) × (new.own ≡ old.own))
    → (task_refusal s ≡ None → IfErr answer (WhyNotSent line s (task_unit function task s) old new))
    → StepFull (IsFullBy old.crq_shared new.crq) result
task_full line function task s old new answer result says said place refused not_sent =
    request_full line s (task_unit function task s) old new answer result (task_refusal s) says said place
    (λ why e. refused_none (IsFullBy old.crq_shared new.crq) s.granted (length s.outgoing) None why e) refused not_sent

pub logout_full : (line : ℕ) (s : ClientState) (old new : Ports) (answer : Result ℕ Refused) (result : Result Step NoMemory)
    → SaysSent answer result → IfErr answer (λ why. SaysWhy why result) → new.crq.place ≡ old.crq.place
    → IfSome (logout_refusal s) (λ why. (answer ≡ Err why) × (new.crq ≡ old.crq) × (new.own ≡ old.own))
    → (logout_refusal s ≡ None → IfErr answer (WhyNotSent line s (logout_unit s) old new))
    → StepFull (IsFullBy old.crq_shared new.crq) result
logout_full line s old new answer result says said place refused not_sent =
    request_full line s (logout_unit s) old new answer result (logout_refusal s) says said place
    (λ why e. waits_none (IsFullBy old.crq_shared new.crq) s.granted s.outgoing why e) refused not_sent
