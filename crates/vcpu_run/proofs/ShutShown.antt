-- A request that says that it met a closed queue did so under a login: the own queue or the partner's was not registered.
use Rattle.std.proofs.Common.{◌≡◌, ◌≢◌, ◌∙◌, ◌⊎◌, inl, inr, ℕ, nat_le, cond, Bool, true, false, List, [], ◌∷◌, Option, Some, None, Result, Ok, Err, IfErr, IfSome, MatchBool, length, refl, sym, ap, subst, option_map}
use Rattle.vio_num.specs.declared.memory.NoMemory.{NoMemory}
use Rattle.crq_session.specs.EndState.{EndPlace, OnlyReserves}
use Rattle.boot_text.specs.declared.verb.Verb.{Verb}
use Rattle.boot_text.specs.declared.verb.Verb.TheVariants as verbs
use Rattle.vio_trace.specs.declared.outcome.Outcome.{Outcome}
use Rattle.vio_trace.specs.declared.outcome.Outcome.TheVariants as outcomes
use Rattle.unit_region.specs.declared.step.Step.{Step}
use Rattle.unit_region.specs.declared.step.Step.TheVariants as steps
use Rattle.srp_iu.specs.declared.unit.Iu.{Iu}
use Rattle.srp_iu.specs.declared.unit.Iu.TheVariants as units
use Rattle.vscsi_client.specs.Ports.{MeetsClosed, Ports, WhyNotWritten}
use Rattle.vscsi_client.specs.Sending.{PutsNoUnit, WhyNotSent, WhyNotSubmitted, command_refusal, logout_refusal, logout_refused_by, logout_unit, refused_by, table_writes, task_refusal, task_unit}
use Rattle.vscsi_client.specs.Spans.{first_sharing, op_in_range}
use Rattle.vscsi_client.specs.State.{ClientState}
use Rattle.vscsi_client.specs.declared.answers.Refused.{Refused}
use Rattle.vscsi_client.specs.declared.answers.Refused.TheVariants as whys
use Rattle.vscsi_client.specs.declared.op.Op.{Op}
use Rattle.vscsi_client.specs.declared.outgoing.Outgoing.{Outgoing}
use Rattle.vcpu_run.specs.Commands.{IsOpOf}
use Rattle.vcpu_run.specs.LinesShow.{requests}
use Rattle.vcpu_run.specs.Sendings.{SaysSent, SaysWhy, says_as}
use Rattle.vcpu_run.specs.ShutShown.{IfShut, MeetsShut, StepShut}
use Rattle.vcpu_run.proofs.Askings.{err_is}
use Rattle.vcpu_run.proofs.Driving.{some_is}
use Rattle.vcpu_run.proofs.LinesShown.{op_requests}

-- P, where the answer of a request is that it met a closed queue
abbrev pub IfClosedBy : (P : Type 0) → Refused → Type 0
IfClosedBy P (whys.Closed control) = P
IfClosedBy P _ = Unit {0}

-- only a closed queue says so
closed_why : (P : Type 0) (why : Refused) → says_as why ≡ Some outcomes.Closed → IfClosedBy P why → P
closed_why P whys.Range e is = absurd (cc (e))
closed_why P whys.NotLoggedIn e is = absurd (cc (e))
closed_why P (whys.NoCredit limit) e is = absurd (cc (e))
closed_why P (whys.Overlap tag) e is = absurd (cc (e))
closed_why P (whys.Closed control) e is = is
closed_why P (whys.Dropped n h) e is = absurd (cc (e))
closed_why P (whys.InUse page word) e is = absurd (cc (e))
closed_why P whys.NoMemory e is = absurd (cc (e))

-- what a request says then
sent_shut : (P : Type 0) (verb : Verb) (answer : Result ℕ Refused) (result : Result Step NoMemory) → requests verb ≡ true → SaysSent answer result
    → IfErr answer (λ why. SaysWhy why result) → IfErr answer (IfClosedBy P) → StepShut P verb result
sent_shut P verb (Ok tag) result asked says why closed =
    subst (StepShut P verb) (sym says) (subst (λ b. MatchBool b (Unit {0}) (Unit {0})) (sym asked) tt)
sent_shut P verb (Err why) (Ok (steps.Ends outcome)) asked says said closed =
    subst (λ b. MatchBool b (IfShut P outcome) (Unit {0})) (sym asked) (at outcome said)
  where
    at : (o : Outcome) → says_as why ≡ Some o → IfShut P o
    at (outcomes.Granted credits) e = tt
    at (outcomes.Sent tag) e = tt
    at (outcomes.Took count) e = tt
    at outcomes.Lost e = tt
    at (outcomes.TookThenLost count) e = tt
    at (outcomes.Rejected reason) e = tt
    at outcomes.Unanswered e = tt
    at outcomes.Range e = tt
    at outcomes.NotLoggedIn e = tt
    at (outcomes.NoCredit limit) e = tt
    at (outcomes.Overlap tag) e = tt
    at outcomes.Closed e = closed_why P why e closed
    at (outcomes.Dropped number held) e = tt
    at (outcomes.Data size sum) e = tt
    at (outcomes.Stale page) e = tt
    at outcomes.Unknown e = tt
    at (outcomes.Code code) e = tt
    at (outcomes.Value value) e = tt
    at (outcomes.Posted buffers code) e = tt
    at (outcomes.Frame code number) e = tt
    at outcomes.Done e = tt
    at (outcomes.Bytes shown) e = tt
sent_shut P verb (Err why) (Ok (steps.Waits did)) asked says said closed = tt
sent_shut P verb (Err why) (Err memory) asked says said closed = tt

-- a unit whose entry was not put, under a login
unit_shut : (line : ℕ) (s : ClientState) (iu : Iu) (old before new : Ports) (why : Refused) → s.granted ≢ None → before.crq_shared ≡ old.crq_shared → OnlyReserves old.crq before.crq
    → PutsNoUnit line s iu before new why → new.crq.place ≡ old.crq.place → IfClosedBy (MeetsShut old.crq_shared s old.crq new.crq) why
unit_shut line s iu old before new (whys.InUse page word) on shared room h place = tt
unit_shut line s iu old before new (whys.Closed control) on shared room h place = record {
  login = on;
  queue = by h.3.1;
}
  where
    partner : (before.crq_shared ≡ false → before.crq.place.partner_registered ≡ false) → old.crq_shared ≡ false → new.crq.place.partner_registered ≡ false
    partner off alone = ap (λ (p : EndPlace). p.partner_registered) (place ∙ sym room.place) ∙ off (shared ∙ alone)

    by : MeetsClosed before new control → (old.crq.registered ≡ false) ⊎ (old.crq_shared ≡ false → new.crq.place.partner_registered ≡ false)
    by (inl own) = inl (sym room.registered ∙ own.0)
    by (inr back) = inr (partner back.1.closed.meets.partner)
unit_shut line s iu old before new (whys.Dropped number held) on shared room h place = tt
unit_shut line s iu old before new whys.NoMemory on shared room h place = tt
unit_shut line s iu old before new whys.Range on shared room h place = tt
unit_shut line s iu old before new whys.NotLoggedIn on shared room h place = tt
unit_shut line s iu old before new (whys.NoCredit limit) on shared room h place = tt
unit_shut line s iu old before new (whys.Overlap tag) on shared room h place = tt

-- a refusal before anything is written is none for a closed queue
overlap_open : (P : Type 0) (o : Option ℕ) (why : Refused) → option_map whys.Overlap o ≡ Some why → IfClosedBy P why
overlap_open P None why e = absurd (cc (e))
overlap_open P (Some tag) why e = subst (IfClosedBy P) (some_is (whys.Overlap tag) why e) tt

refused_open : (P : Type 0) (granted : Option ℕ) (outstanding : ℕ) (overlap : Option ℕ) (why : Refused) → refused_by granted outstanding overlap ≡ Some why → IfClosedBy P why
refused_open P None outstanding overlap why e = subst (IfClosedBy P) (some_is whys.NotLoggedIn why e) tt
refused_open P (Some granted) outstanding overlap why e = at (nat_le granted outstanding) e
  where
    at : (b : Bool) → cond b (Some (whys.NoCredit 0)) (option_map whys.Overlap overlap) ≡ Some why → IfClosedBy P why
    at true h = subst (IfClosedBy P) (some_is (whys.NoCredit 0) why h) tt
    at false h = overlap_open P overlap why h

waits_open : (P : Type 0) (granted : Option ℕ) (outgoing : List Outgoing) (why : Refused) → logout_refused_by granted outgoing ≡ Some why → IfClosedBy P why
waits_open P None outgoing why e = subst (IfClosedBy P) (some_is whys.NotLoggedIn why e) tt
waits_open P (Some granted) [] why e = absurd (cc (e))
waits_open P (Some granted) (oldest ∷ others) why e = subst (IfClosedBy P) (some_is (whys.Overlap oldest.tag) why e) tt

command_open : (P : Type 0) (pages : ℕ) (s : ClientState) (op : Op) (why : Refused) → command_refusal pages s op ≡ Some why → IfClosedBy P why
command_open P pages s op why e = at (op_in_range pages op) e
  where
    at : (b : Bool) → cond b (refused_by s.granted (length s.outgoing) (first_sharing op s.outgoing)) (Some whys.Range) ≡ Some why → IfClosedBy P why
    at true h = refused_open P s.granted (length s.outgoing) (first_sharing op s.outgoing) why h
    at false h = subst (IfClosedBy P) (some_is whys.Range why h) tt

-- where nothing speaks against a request, a login is on
refused_on : (granted : Option ℕ) (outstanding : ℕ) (overlap : Option ℕ) → refused_by granted outstanding overlap ≡ None → granted ≢ None
refused_on None outstanding overlap e = absurd (cc (e))
refused_on (Some granted) outstanding overlap e = λ none. cc (none)

waits_on : (granted : Option ℕ) (outgoing : List Outgoing) → logout_refused_by granted outgoing ≡ None → granted ≢ None
waits_on None outgoing e = absurd (cc (e))
waits_on (Some granted) outgoing e = λ none. cc (none)

command_on : (pages : ℕ) (s : ClientState) (op : Op) → command_refusal pages s op ≡ None → s.granted ≢ None
command_on pages s op e = at (op_in_range pages op) e
  where
    at : (b : Bool) → cond b (refused_by s.granted (length s.outgoing) (first_sharing op s.outgoing)) (Some whys.Range) ≡ None → s.granted ≢ None
    at true h = refused_on s.granted (length s.outgoing) (first_sharing op s.outgoing) h
    at false h = absurd (cc (h))

-- a command that was refused, or was not sent though nothing speaks against it
not_submitted : (line : ℕ) (op : Op) (s s' : ClientState) (old new : Ports) (why : Refused) → s.granted ≢ None → new.crq.place ≡ old.crq.place
    → WhyNotSubmitted line op s s' old new why → IfClosedBy (MeetsShut old.crq_shared s old.crq new.crq) why
not_submitted line op s s' old new why on place (inl h) = at why h.why_not
  where
    at : (w : Refused) → WhyNotWritten old.own_shared (table_writes line op s) old.own new.own w → IfClosedBy (MeetsShut old.crq_shared s old.crq new.crq) w
    at (whys.InUse page word) h = tt
    at (whys.Closed control) h = absurd h
    at (whys.Dropped number held) h = tt
    at whys.NoMemory h = tt
    at whys.Range h = tt
    at whys.NotLoggedIn h = tt
    at (whys.NoCredit limit) h = tt
    at (whys.Overlap tag) h = tt
not_submitted line op s s' old new why on place (inr h) =
    unit_shut line s (units.Cmd h.command) old h.before new why on h.ready.crq_shared h.ready.crq h.why_not place

pub submit_shut : (verb : Verb) (line : ℕ) (op : Op) (s s' : ClientState) (old new : Ports) (answer : Result ℕ Refused) (result : Result Step NoMemory) → IsOpOf verb op
    → SaysSent answer result → IfErr answer (λ why. SaysWhy why result) → new.crq.place ≡ old.crq.place
    → IfSome (command_refusal old.own.place.size s op) (λ why. (answer ≡ Err why) × (s' ≡ s) × (new.crq ≡ old.crq) × (new.own ≡ old.own))
    → (command_refusal old.own.place.size s op ≡ None → IfErr answer (WhyNotSubmitted line op s s' old new))
    → StepShut (MeetsShut old.crq_shared s old.crq new.crq) verb result
submit_shut verb line op s s' old new answer result is says said place refused not_sent =
    sent_shut P verb answer result (op_requests verb op is) says said (at answer refl (command_refusal old.own.place.size s op) refl refused)
  where
    P : Type 0
    P = MeetsShut old.crq_shared s old.crq new.crq

    at : (a : Result ℕ Refused) → answer ≡ a → (r : Option Refused) → command_refusal old.own.place.size s op ≡ r
        → IfSome r (λ why. (answer ≡ Err why) × (s' ≡ s) × (new.crq ≡ old.crq) × (new.own ≡ old.own)) → IfErr a (IfClosedBy P)
    at (Ok tag) e r some h = tt
    at (Err why) e None none h =
        not_submitted line op s s' old new why (command_on old.own.place.size s op none) place
        (subst (λ (x : Result ℕ Refused). IfErr x (WhyNotSubmitted line op s s' old new)) e (not_sent none))
    at (Err why) e (Some w) some h = subst (IfClosedBy P) (err_is w why answer h.0 e) (command_open P old.own.place.size s op w some)

-- a request without data
not_sent_shut : (line : ℕ) (s : ClientState) (iu : Iu) (old new : Ports) (why : Refused) → s.granted ≢ None → new.crq.place ≡ old.crq.place → WhyNotSent line s iu old new why
    → IfClosedBy (MeetsShut old.crq_shared s old.crq new.crq) why
not_sent_shut line s iu old new why on place (inl h) = subst (IfClosedBy (MeetsShut old.crq_shared s old.crq new.crq)) (sym h.0) tt
not_sent_shut line s iu old new why on place (inr h) = unit_shut line s iu old h.before new why on h.ready.crq_shared h.ready.crq h.why_not place

request_shut : (line : ℕ) (s : ClientState) (iu : Iu) (verb : Verb) (old new : Ports) (answer : Result ℕ Refused) (result : Result Step NoMemory) (refusal : Option Refused) → requests verb ≡ true
    → SaysSent answer result → IfErr answer (λ why. SaysWhy why result) → new.crq.place ≡ old.crq.place
    → ((why : Refused) → refusal ≡ Some why → IfClosedBy (MeetsShut old.crq_shared s old.crq new.crq) why) → (refusal ≡ None → s.granted ≢ None)
    → IfSome refusal (λ why. (answer ≡ Err why) × (new.crq ≡ old.crq) × (new.own ≡ old.own))
    → (refusal ≡ None → IfErr answer (WhyNotSent line s iu old new)) → StepShut (MeetsShut old.crq_shared s old.crq new.crq) verb result
request_shut line s iu verb old new answer result refusal asked says said place none on refused not_sent =
    sent_shut P verb answer result asked says said (at answer refl refusal refl refused)
  where
    P : Type 0
    P = MeetsShut old.crq_shared s old.crq new.crq

    at : (a : Result ℕ Refused) → answer ≡ a → (r : Option Refused) → refusal ≡ r → IfSome r (λ why. (answer ≡ Err why) × (new.crq ≡ old.crq) × (new.own ≡ old.own)) → IfErr a (IfClosedBy P)
    at (Ok tag) e r some h = tt
    at (Err why) e None is h = not_sent_shut line s iu old new why (on is) place (subst (λ (x : Result ℕ Refused). IfErr x (WhyNotSent line s iu old new)) e (not_sent is))
    at (Err why) e (Some w) is h = subst (IfClosedBy P) (err_is w why answer h.0 e) (none w is)

pub task_shut : (line function task : ℕ) (s : ClientState) (old new : Ports) (answer : Result ℕ Refused) (result : Result Step NoMemory)
    → SaysSent answer result → IfErr answer (λ why. SaysWhy why result) → new.crq.place ≡ old.crq.place
    → IfSome (task_refusal s) (λ why. (answer ≡ Err why) × (new.crq ≡ old.crq) × (new.own ≡ old.own))
    → (task_refusal s ≡ None → IfErr answer (WhyNotSent line s (task_unit function task s) old new))
    → StepShut (MeetsShut old.crq_shared s old.crq new.crq) (verbs.Task function task) result
task_shut line function task s old new answer result says said place refused not_sent =
    request_shut line s (task_unit function task s) (verbs.Task function task) old new answer result (task_refusal s) refl says said place
    (λ why e. refused_open (MeetsShut old.crq_shared s old.crq new.crq) s.granted (length s.outgoing) None why e) (refused_on s.granted (length s.outgoing) None) refused not_sent

pub logout_shut : (line : ℕ) (s : ClientState) (old new : Ports) (answer : Result ℕ Refused) (result : Result Step NoMemory)
    → SaysSent answer result → IfErr answer (λ why. SaysWhy why result) → new.crq.place ≡ old.crq.place
    → IfSome (logout_refusal s) (λ why. (answer ≡ Err why) × (new.crq ≡ old.crq) × (new.own ≡ old.own))
    → (logout_refusal s ≡ None → IfErr answer (WhyNotSent line s (logout_unit s) old new))
    → StepShut (MeetsShut old.crq_shared s old.crq new.crq) verbs.Logout result
logout_shut line s old new answer result says said place refused not_sent =
    request_shut line s (logout_unit s) verbs.Logout old new answer result (logout_refusal s) refl says said place
    (λ why e. waits_open (MeetsShut old.crq_shared s old.crq new.crq) s.granted s.outgoing why e) (waits_on s.granted s.outgoing) refused not_sent
