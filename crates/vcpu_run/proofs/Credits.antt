-- A client's credits over its calls, in agreement with the records.
use Rattle.std.proofs.Common.{◌≡◌, ◌∙◌, ◌⊎◌, inl, inr, ℕ, suc, ◌||◌, ◌+◌, ◌≤◌, ◌<◌, nat_le, ◌==◌, cond, Bool, true, false, List, [], ◌∷◌, ◌++◌, Option, Some, None, Result, Ok, Err, IfSome, IsSomeAnd, IfOk, IfErr, OnErr, length, min, refl, sym, ap, subst, arith, length-append}
use Rattle.std.specs.Option.{option_map}
use Rattle.std.specs.List.{list_any}
use Rattle.std.proofs.lemmas.Bool.Decides.{nat_tests}
use Rattle.vio_num.specs.declared.entry.Entry.{Entry}
use Rattle.vio_num.specs.declared.hypervisor.Moved.{Moved}
use Rattle.vio_num.specs.declared.memory.NoMemory.{NoMemory}
use Rattle.crq_session.specs.declared.answers.RegAnswer.TheVariants as reg
use Rattle.crq_session.specs.declared.answers.SendAnswer.{SendAnswer}
use Rattle.boot_text.specs.declared.verb.Verb.{Verb}
use Rattle.boot_text.specs.declared.verb.Verb.TheVariants as verbs
use Rattle.vio_trace.specs.declared.outcome.Outcome.{Outcome}
use Rattle.vio_trace.specs.declared.outcome.Outcome.TheVariants as outcomes
use Rattle.srp_iu.specs.declared.response.Rsp.{Rsp as Response}
use Rattle.vscsi_client.specs.declared.answers.LoginTurn.{LoginTurn}
use Rattle.vscsi_client.specs.declared.answers.LoginTurn.TheVariants as turns
use Rattle.vscsi_client.specs.declared.answers.Refused.{Refused}
use Rattle.vscsi_client.specs.declared.answers.Refused.TheVariants.{Overlap, NoCredit}
use Rattle.vscsi_client.specs.declared.answers.Taken.{Taken}
use Rattle.vscsi_client.specs.declared.answers.Taken.TheVariants as takens
use Rattle.vscsi_client.specs.declared.found.Found.{Found}
use Rattle.vscsi_client.specs.declared.found.Found.TheVariants as found
use Rattle.vscsi_client.specs.declared.outgoing.Outgoing.{Outgoing}
use Rattle.vscsi_client.specs.declared.stage.Due.{Due}
use Rattle.vscsi_client.specs.declared.op.Op.{Op}
use Rattle.vscsi_client.specs.Login.{found_by}
use Rattle.vscsi_client.specs.Ports.{Ports}
use Rattle.vscsi_client.specs.Sending.{Submitted, WhyNotSubmitted, Tasked, LoggedOut, command_refusal, refused_by}
use Rattle.vscsi_client.specs.Spans.{op_in_range, first_sharing}
use Rattle.vscsi_client.specs.State.{ClientState}
use Rattle.vscsi_client.specs.Taking.{TakesEntry, without_tag}
use Rattle.vscsi_client.specs.Turned.{Site, LoginStep, Registered, Took, TookNone, Looked, Began, Wrote, NotWritten, Put, RanOut, Steps, Runs, Turned, NoneEnds, Ends, ends_turn, is_dropped, sent_by, sent_stage}
use Rattle.vscsi_client.proofs.Laws.{not_range}
use Rattle.unit_region.specs.declared.step.Step.{Step}
use Rattle.unit_region.specs.declared.step.Step.TheVariants as steps
use Rattle.vcpu_run.specs.Credited.{Credit, IsWithin, uses_credit, one_more, gives_back, credit_by, Agrees, KeepsAgreed, StepsAgreed, is_take}
use Rattle.unit_region.specs.Steps.{is_plain, IsPlain}
use Rattle.vcpu_run.specs.Works.{sends}
use Rattle.vcpu_run.specs.Sendings.{SaysSent, SaysTurned, SameCredits, AnswersOne}

-- clients with the same credits agree alike, and one that is not logged in agrees with all
pub agrees_same : (taken : ℕ) (credit : Option Credit) (s s' : ClientState) → SameCredits s s' → Agrees taken credit s → Agrees taken credit s'
agrees_same taken credit s s' same agrees =
    subst (λ (g : Option ℕ). IfSome g (λ granted. IsSomeAnd credit (λ c. (granted ≡ min c.granted 200) × (c.outstanding ≤ length s'.outgoing + taken)))) (sym same.granted)
    (subst (λ (os : List Outgoing). IfSome s.granted (λ granted. IsSomeAnd credit (λ c. (granted ≡ min c.granted 200) × (c.outstanding ≤ length os + taken)))) (sym same.outgoing) agrees)

pub agrees_none : (taken : ℕ) (credit : Option Credit) (s : ClientState) → s.granted ≡ None → Agrees taken credit s
agrees_none taken credit s none =
    subst (λ (g : Option ℕ). IfSome g (λ granted. IsSomeAnd credit (λ c. (granted ≡ min c.granted 200) × (c.outstanding ≤ length s.outgoing + taken)))) (sym none) tt

-- an outcome that changes no credit
plain_by : (verb : Verb) (outcome : Outcome) (credit : Option Credit) → is_plain outcome ≡ true → credit_by verb outcome credit ≡ credit
plain_by verb (outcomes.Granted credits) credit h = absurd (cc)
plain_by verb (outcomes.Sent tag) credit h = absurd (cc)
plain_by verb (outcomes.Took count) credit h = absurd (cc)
plain_by verb outcomes.Lost credit h = absurd (cc)
plain_by verb (outcomes.TookThenLost count) credit h = absurd (cc)
plain_by verb (outcomes.Rejected reason) credit h = refl
plain_by verb outcomes.Unanswered credit h = refl
plain_by verb outcomes.Range credit h = refl
plain_by verb outcomes.NotLoggedIn credit h = refl
plain_by verb (outcomes.NoCredit limit) credit h = refl
plain_by verb (outcomes.Overlap tag) credit h = refl
plain_by verb outcomes.Closed credit h = refl
plain_by verb (outcomes.Dropped number held) credit h = refl
plain_by verb (outcomes.Data len sum) credit h = refl
plain_by verb (outcomes.Stale page) credit h = refl
plain_by verb outcomes.Unknown credit h = refl
plain_by verb (outcomes.Code code) credit h = refl
plain_by verb (outcomes.Value value) credit h = refl
plain_by verb (outcomes.Posted buffers code) credit h = refl
plain_by verb (outcomes.Frame code number) credit h = refl
plain_by verb outcomes.Done credit h = refl
plain_by verb (outcomes.Bytes shown) credit h = refl

-- a step that took nothing, and changed no credit
pub plain_agreed : (verb : Verb) (taken : ℕ) (s s' : ClientState) (result : Result Step NoMemory) → taken ≡ 0 → SameCredits s s' → IsPlain result
    → StepsAgreed verb taken taken s s' result
plain_agreed verb taken s s' (Ok (steps.Ends outcome)) none same plain = λ fresh credit within agrees.
    let is = plain_by verb outcome credit plain in (
      subst IsWithin (sym is) within,
      subst (λ (c : Option Credit). Agrees 0 c s') (sym is) (agrees_same 0 credit s s' same (subst (λ n. Agrees n credit s) none agrees)),
    )
plain_agreed verb taken s s' (Ok (steps.Waits did)) none same plain = λ fresh. ((λ is. none), λ credit agrees. agrees_same taken credit s s' same agrees)
plain_agreed verb taken s s' (Err memory) none same plain = tt

-- one request more
room_by : (g : Option ℕ) (n : ℕ) (overlap : Option ℕ) → refused_by g n overlap ≡ None → IsSomeAnd g (λ granted. n < granted)
room_by None n overlap none = absurd (cc)
room_by (Some g) n overlap none = left (nat_le g n) refl none
  where
    left : (b : Bool) → nat_le g n ≡ b → cond b (Some (NoCredit 0)) (option_map Overlap overlap) ≡ None → n < g
    left true is e = absurd (cc)
    left false is e = grind (arith, nat_tests)

sent_one : (verb : Verb) (tag : ℕ) (g : Option ℕ) (n n' : ℕ) (credit : Option Credit) → uses_credit verb ≡ true → IsSomeAnd g (λ granted. n < granted) → n' ≡ n + 1
    → IfSome g (λ granted. IsSomeAnd credit (λ c. (granted ≡ min c.granted 200) × (c.outstanding ≤ n + 0)))
    → IsWithin (one_more verb credit) × IfSome g (λ granted. IsSomeAnd (one_more verb credit) (λ c. (granted ≡ min c.granted 200) × (c.outstanding ≤ n' + 0)))
sent_one verb tag None n n' credit uses room more agrees = absurd room
sent_one verb tag (Some g) n n' None uses room more agrees = absurd agrees
sent_one verb tag (Some g) n n' (Some c) uses room more agrees =
    let is : one_more verb (Some c) ≡ Some (record c { outstanding = c.outstanding + 1 }) = rw uses refl in
    let within : c.outstanding + 1 ≤ min c.granted 200 = omega (arith, room, agrees.0, agrees.1) in
    let less : c.outstanding + 1 ≤ n' + 0 = omega (arith, more, agrees.1) in (
      subst IsWithin (sym is) within,
      subst (λ (o : Option Credit). IsSomeAnd o (λ d. (g ≡ min d.granted 200) × (d.outstanding ≤ n' + 0))) (sym is) (agrees.0, less),
    )

pub sent_agreed : (verb : Verb) (tag : ℕ) (s s' : ClientState) (overlap : Option ℕ) (request : Outgoing) → uses_credit verb ≡ true
    → refused_by s.granted (length s.outgoing) overlap ≡ None → s'.granted ≡ s.granted → s'.outgoing ≡ s.outgoing ++ request ∷ []
    → KeepsAgreed verb 0 0 s s' (steps.Ends (outcomes.Sent tag))
sent_agreed verb tag s s' overlap request uses none granted outgoing credit within agrees =
    let more : length s'.outgoing ≡ length s.outgoing + 1 = ap length outgoing ∙ length-append s.outgoing (request ∷ []) in
    let both = sent_one verb tag s.granted (length s.outgoing) (length s'.outgoing) credit uses (room_by s.granted (length s.outgoing) overlap none) more agrees in (
      both.0,
      subst (λ (g : Option ℕ). IfSome g (λ granted. IsSomeAnd (one_more verb credit) (λ c. (granted ≡ min c.granted 200) × (c.outstanding ≤ length s'.outgoing + 0)))) (sym granted) both.1,
    )

allowed : (pages : ℕ) (s : ClientState) (op : Op) → command_refusal pages s op ≡ None → refused_by s.granted (length s.outgoing) (first_sharing op s.outgoing) ≡ None
allowed pages s op none = (not_range (op_in_range pages op) _ none).1

not_submitted_same : (line : ℕ) (op : Op) (s s' : ClientState) (old new : Ports) (why : Refused) → WhyNotSubmitted line op s s' old new why → SameCredits s s'
not_submitted_same line op s s' old new why (inl h) = record { granted = ap (λ (t : ClientState). t.granted) h.client; outgoing = ap (λ (t : ClientState). t.outgoing) h.client }
not_submitted_same line op s s' old new why (inr h) = record { granted = ap (λ (t : ClientState). t.granted) h.client; outgoing = ap (λ (t : ClientState). t.outgoing) h.client }

pub submit_agreed : (verb : Verb) (line : ℕ) (op : Op) (s s' : ClientState) (old new : Ports) (answer : Result ℕ Refused) (result : Result Step NoMemory)
    → uses_credit verb ≡ true → SaysSent answer result
    → IfSome (command_refusal old.own.place.size s op) (λ why. (answer ≡ Err why) × (s' ≡ s) × (new.crq ≡ old.crq) × (new.own ≡ old.own))
    → IfOk answer (Submitted line op s s' old new)
    → (command_refusal old.own.place.size s op ≡ None → IfErr answer (WhyNotSubmitted line op s s' old new))
    → StepsAgreed verb 0 0 s s' result
submit_agreed verb line op s s' old new (Ok tag) result uses says refused sent not_sent =
    subst (StepsAgreed verb 0 0 s s') (sym says)
    (λ fresh. sent_agreed verb tag s s' (first_sharing op s.outgoing) _ uses (allowed old.own.place.size s op sent.allowed)
    (ap (λ (t : ClientState). t.granted) sent.client) (ap (λ (t : ClientState). t.outgoing) sent.client))
submit_agreed verb line op s s' old new (Err why) result uses says refused sent not_sent =
    plain_agreed verb 0 s s' result refl (at (Err why) (command_refusal old.own.place.size s op) refl refused) says
  where
    at : (answer : Result ℕ Refused) (r : Option Refused) → command_refusal old.own.place.size s op ≡ r
        → IfSome r (λ w. (answer ≡ Err w) × (s' ≡ s) × (new.crq ≡ old.crq) × (new.own ≡ old.own)) → SameCredits s s'
    at answer None is h = not_submitted_same line op s s' old new why (not_sent is)
    at answer (Some w) is h = record { granted = ap (λ (t : ClientState). t.granted) h.1; outgoing = ap (λ (t : ClientState). t.outgoing) h.1 }

same_by : (s s' : ClientState) → s' ≡ s → SameCredits s s'
same_by s s' is = record { granted = ap (λ (t : ClientState). t.granted) is; outgoing = ap (λ (t : ClientState). t.outgoing) is }

pub task_agreed : (verb : Verb) (line function task : ℕ) (s s' : ClientState) (old new : Ports) (answer : Result ℕ Refused) (result : Result Step NoMemory)
    → uses_credit verb ≡ true → SaysSent answer result
    → IfOk answer (Tasked line function task s s' old new) → OnErr answer (s' ≡ s) → StepsAgreed verb 0 0 s s' result
task_agreed verb line function task s s' old new (Ok tag) result uses says sent same =
    subst (StepsAgreed verb 0 0 s s') (sym says)
    (λ fresh. sent_agreed verb tag s s' None _ uses sent.allowed (ap (λ (t : ClientState). t.granted) sent.client) (ap (λ (t : ClientState). t.outgoing) sent.client))
task_agreed verb line function task s s' old new (Err why) result uses says sent same = plain_agreed verb 0 s s' result refl (same_by s s' same) says

pub logout_agreed : (verb : Verb) (line : ℕ) (s s' : ClientState) (old new : Ports) (answer : Result ℕ Refused) (result : Result Step NoMemory)
    → uses_credit verb ≡ false → SaysSent answer result
    → IfOk answer (LoggedOut line s s' old new) → OnErr answer (s' ≡ s) → StepsAgreed verb 0 0 s s' result
logout_agreed verb line s s' old new (Ok tag) result uses says sent same =
    subst (StepsAgreed verb 0 0 s s') (sym says)
    (λ fresh credit within agrees.
    let is : one_more verb credit ≡ credit = rw uses refl in
    (subst IsWithin (sym is) within, agrees_none 0 (one_more verb credit) s' (ap (λ (t : ClientState). t.granted) sent.client)))
logout_agreed verb line s s' old new (Err why) result uses says sent same = plain_agreed verb 0 s s' result refl (same_by s s' same) says

-- a turn of a login: until it ends, the credits are as before, or none is on
abbrev pub Loosely : ClientState → ClientState → Type 0
Loosely s s' = SameCredits s s' ⊎ (s'.granted ≡ None)

loosely_on : (a b c : ClientState) → Loosely a b → Loosely b c → Loosely a c
loosely_on a b c (inl x) (inl y) = inl (record { granted = y.granted ∙ x.granted; outgoing = y.outgoing ∙ x.outgoing })
loosely_on a b c (inr x) (inl y) = inr (y.granted ∙ x)
loosely_on a b c x (inr y) = inr y

loosely_agrees : (taken : ℕ) (credit : Option Credit) (s s' : ClientState) → Loosely s s' → Agrees taken credit s → Agrees taken credit s'
loosely_agrees taken credit s s' (inl same) agrees = agrees_same taken credit s s' same agrees
loosely_agrees taken credit s s' (inr none) agrees = agrees_none taken credit s' none

by_client : (a b c : ClientState) → b ≡ c → SameCredits a c → Loosely a b
by_client a b c is same = inl (record { granted = ap (λ (t : ClientState). t.granted) is ∙ same.granted; outgoing = ap (λ (t : ClientState). t.outgoing) is ∙ same.outgoing })

none_by : (a b c : ClientState) → b ≡ c → c.granted ≡ None → Loosely a b
none_by a b c is none = inr (ap (λ (t : ClientState). t.granted) is ∙ none)

put_same : (due : Due) (others : List Due) (answer : SendAnswer) (s : ClientState) → SameCredits s (sent_by due others answer s)
put_same due others answer s = at (is_dropped answer)
  where
    at : (b : Bool) → SameCredits s (cond b s (record s { due = others; login = sent_stage due s.login }))
    at true = record { granted = refl; outgoing = refl }
    at false = record { granted = refl; outgoing = refl }

found_loosely : (entry : Entry) (f : Found) (s s' : ClientState) → s' ≡ found_by entry f s → ends_turn (Looked f) ≡ false → Loosely s s'
found_loosely entry (found.Granted credits) s s' is going = absurd (cc)
found_loosely entry (found.Rejected reason) s s' is going = absurd (cc)
found_loosely entry found.Lost s s' is going = absurd (cc)
found_loosely entry found.Step s s' is going = by_client s s' _ is (record { granted = refl; outgoing = refl })
found_loosely entry found.Answer s s' is going = by_client s s' _ is (record { granted = refl; outgoing = refl })
found_loosely entry found.Nothing s s' is going = by_client s s' _ is (record { granted = refl; outgoing = refl })
found_loosely entry (found.InUse page word) s s' is going = by_client s s' _ is (record { granted = refl; outgoing = refl })

step_loosely : (line : ℕ) (step : LoginStep) (a b : Site) → Steps line step a b → ends_turn step ≡ false → Loosely a.client b.client
step_loosely line (Registered reg.Resource) a b h going = inl (same_by a.client b.client h.0.registers.2)
step_loosely line (Registered reg.Success) a b h going = none_by a.client b.client _ h.0.registers.2 refl
step_loosely line (Registered (reg.Closed control)) a b h going = none_by a.client b.client _ h.0.registers.2 refl
step_loosely line (Registered (reg.Busy number held)) a b h going = none_by a.client b.client _ h.0.registers.1 refl
step_loosely line (Registered reg.Parameter) a b h going = absurd h.0.registers
step_loosely line Took a b h going = by_client a.client b.client _ h.0.client (record { granted = refl; outgoing = refl })
step_loosely line TookNone a b h going = inl (same_by a.client b.client h.0.client)
step_loosely line (Looked f) a b h going = found_loosely h.0.entry f a.client b.client h.0.client going
step_loosely line Began a b h going = by_client a.client b.client _ h.0.client (record { granted = refl; outgoing = refl })
step_loosely line Wrote a b h going = by_client a.client b.client _ h.1.client (record { granted = refl; outgoing = refl })
step_loosely line (NotWritten page word) a b h going = inl (same_by a.client b.client h.1.client)
step_loosely line (Put due answer) a b h going = by_client a.client b.client _ h.0.client (put_same due h.0.others answer a.client)
step_loosely line RanOut a b h going = inl (same_by a.client b.client h.client)

first_going : (x : Bool) (y : Bool) → (x || y) ≡ false → (x ≡ false) × (y ≡ false)
first_going true y e = absurd (cc)
first_going false y e = (refl, e)

runs_loosely : (line : ℕ) (steps : List LoginStep) (a b : Site) → Runs line steps a b → NoneEnds steps → Loosely a.client b.client
runs_loosely line [] a b runs going = inl (same_by a.client b.client (ap (λ (t : Site). t.client) runs))
runs_loosely line (step ∷ steps) a b runs going =
    let both = first_going (ends_turn step) (list_any ends_turn steps) going in
    loosely_on a.client runs.0.client b.client (runs_loosely line steps a runs.0 runs.1 both.1) (step_loosely line step runs.0 b runs.2 both.0)

-- the last step of a turn that ends, and what was before it
last_runs : (line : ℕ) (step : LoginStep) (all : List LoginStep) (a b : Site) (rest : List LoginStep) → all ≡ step ∷ rest → Runs line all a b → Runs line (step ∷ rest) a b
last_runs line step all a b rest is runs = subst (λ (ss : List LoginStep). Runs line ss a b) is runs

abbrev pub TurnSays : LoginTurn → ClientState → ClientState → Type 0
TurnSays (turns.Granted credits) s s' = (s'.granted ≡ Some (min credits 200)) × (s'.outgoing ≡ [])
TurnSays (turns.Rejected reason) s s' = Loosely s s'
TurnSays turns.Lost s s' = s'.granted ≡ None
TurnSays _ s s' = Loosely s s'

turn_says : (line slots : ℕ) (a b : Site) (turn : LoginTurn) (all : List LoginStep) → Runs line all a b → Ends slots b turn all → TurnSays turn a.client b.client
turn_says line slots a b turns.Again all runs ends = runs_loosely line all a b runs ends.going
turn_says line slots a b (turns.Granted credits) all runs ends =
    let r = last_runs line (Looked (found.Granted credits)) all a b ends.rest ends.is runs in
    (ap (λ (t : ClientState). t.granted) r.2.0.client, ap (λ (t : ClientState). t.outgoing) r.2.0.client)
turn_says line slots a b (turns.Rejected reason) all runs ends =
    let r = last_runs line (Looked (found.Rejected reason)) all a b ends.rest ends.is runs in
    loosely_on a.client r.0.client b.client (runs_loosely line ends.rest a r.0 r.1 ends.going)
    (by_client r.0.client b.client _ r.2.0.client (record { granted = refl; outgoing = refl }))
turn_says line slots a b turns.Lost all runs ends =
    let r = last_runs line (Looked found.Lost) all a b ends.rest ends.is runs in
    ap (λ (t : ClientState). t.granted) r.2.0.client
turn_says line slots a b (turns.Busy number held) all runs ends =
    let r = last_runs line (Registered (reg.Busy number held)) all a b ends.rest ends.is runs in
    loosely_on a.client r.0.client b.client (runs_loosely line ends.rest a r.0 r.1 ends.going)
    (none_by r.0.client b.client _ r.2.0.registers.1 refl)

granted_agrees : (credits : ℕ) (s : ClientState) → (s.granted ≡ Some (min credits 200)) × (s.outgoing ≡ []) → Agrees 0 (Some (record { granted = credits; outstanding = 0 })) s
granted_agrees credits s h =
    subst (λ (g : Option ℕ). IfSome g (λ granted. (granted ≡ min credits 200) × (0 ≤ length s.outgoing + 0))) (sym h.0) (refl, omega arith)

step_agreed : (verb : Verb) (turn : LoginTurn) (s s' : ClientState) (step : Step) → TurnSays turn s s' → SaysTurned turn step → KeepsAgreed verb 0 0 s s' step
step_agreed verb (turns.Granted credits) s s' step turned says =
    subst (KeepsAgreed verb 0 0 s s') (sym says) (λ credit within agrees. (omega arith, granted_agrees credits s' turned))
step_agreed verb (turns.Rejected reason) s s' step turned says =
    subst (KeepsAgreed verb 0 0 s s') (sym says) (λ credit within agrees. (within, loosely_agrees 0 credit s s' turned agrees))
step_agreed verb turns.Lost s s' step turned says =
    subst (KeepsAgreed verb 0 0 s s') (sym says) (λ credit within agrees. (tt, agrees_none 0 None s' turned))
step_agreed verb turns.Again s s' (steps.Waits did) turned says = ((λ is. refl), λ credit agrees. loosely_agrees 0 credit s s' turned agrees)
step_agreed verb turns.Again s s' (steps.Ends outcome) turned says = absurd says
step_agreed verb (turns.Busy number held) s s' (steps.Waits did) turned says = ((λ is. refl), λ credit agrees. loosely_agrees 0 credit s s' turned agrees)
step_agreed verb (turns.Busy number held) s s' (steps.Ends outcome) turned says = absurd says

pub turn_agreed : (verb : Verb) (line : ℕ) (a b : Site) (turn : LoginTurn) (step : Step) → Turned line a b (Ok turn) → SaysTurned turn step
    → StepsAgreed verb 0 0 a.client b.client (Ok step)
turn_agreed verb line a b turn step turned says = λ fresh. step_agreed verb turn a.client b.client step (turn_says line _ a b turn turned.steps turned.runs turned.ends.1) says

-- taking
without_one : (tag : ℕ) (os : List Outgoing) → length os ≤ length (without_tag tag os) + 1
without_one tag [] = omega arith
without_one tag (o ∷ os) = at (o.tag == tag) (without_one tag os)
  where
    at : (b : Bool) → length os ≤ length (without_tag tag os) + 1 → suc (length os) ≤ length (cond b os (o ∷ without_tag tag os)) + 1
    at true less = omega arith
    at false less = omega (arith, less)

pub took_answer : (s s' : ClientState) (old new : Ports) (tag : ℕ) (response : Response) → TakesEntry s s' old new (takens.Answer tag response) → AnswersOne s s'
took_answer s s' old new tag response taken = record {
  granted = ap (λ (t : ClientState). t.granted) taken.judged.client ∙ ap (λ (t : ClientState). t.granted) taken.fetched.client;
  one =
      let out : s'.outgoing ≡ without_tag tag taken.kept.outgoing = ap (λ (t : ClientState). t.outgoing) taken.judged.client in
      let kept : taken.kept.outgoing ≡ s.outgoing = ap (λ (t : ClientState). t.outgoing) taken.fetched.client in
      subst (λ (os : List Outgoing). length s.outgoing ≤ length os + 1) (sym (out ∙ ap (without_tag tag) kept)) (without_one tag s.outgoing);
}

pub took_by : (s s' : ClientState) (old new : Ports) (taken : Taken) (tag : ℕ) (response : Response) → taken ≡ takens.Answer tag response
    → TakesEntry s s' old new taken → AnswersOne s s'
took_by s s' old new taken tag response is h = took_answer s s' old new tag response (subst (TakesEntry s s' old new) is h)

-- a line that takes
took_back : (n taken : ℕ) (g : Option ℕ) (credit : Option Credit) → IfSome g (λ granted. IsSomeAnd credit (λ c. (granted ≡ min c.granted 200) × (c.outstanding ≤ n + taken)))
    → IfSome g (λ granted. IsSomeAnd (gives_back taken credit) (λ c. (granted ≡ min c.granted 200) × (c.outstanding ≤ n + 0)))
took_back n taken None credit agrees = tt
took_back n taken (Some g) None agrees = absurd agrees
took_back n taken (Some g) (Some c) agrees = (agrees.0, omega (arith, agrees.1))

back_within : (taken : ℕ) (credit : Option Credit) → IsWithin credit → IsWithin (gives_back taken credit)
back_within taken None within = tt
back_within taken (Some c) within = omega (arith, within)

-- so far it kept the client in agreement
abbrev pub TakesOn : (taken taken' : ℕ) → ClientState → ClientState → Type 0
TakesOn taken taken' s s' = (credit : Option Credit) → Agrees taken credit s → Agrees taken' credit s'

pub takes_same : (taken : ℕ) (s : ClientState) → TakesOn taken taken s s
takes_same taken s credit agrees = agrees

pub takes_on : (a b c : ℕ) (r s t : ClientState) → TakesOn a b r s → TakesOn b c s t → TakesOn a c r t
takes_on a b c r s t first next credit agrees = next credit (first credit agrees)

one_back : (n n' taken : ℕ) (g : Option ℕ) (credit : Option Credit) → n ≤ n' + 1 → IfSome g (λ granted. IsSomeAnd credit (λ c. (granted ≡ min c.granted 200) × (c.outstanding ≤ n + taken)))
    → IfSome g (λ granted. IsSomeAnd credit (λ c. (granted ≡ min c.granted 200) × (c.outstanding ≤ n' + (taken + 1))))
one_back n n' taken None credit less agrees = tt
one_back n n' taken (Some g) None less agrees = absurd agrees
one_back n n' taken (Some g) (Some c) less agrees = (agrees.0, omega (arith, less, agrees.1))

pub takes_answer : (taken taken' : ℕ) (s s' : ClientState) → taken' ≡ taken + 1 → AnswersOne s s' → TakesOn taken taken' s s'
takes_answer taken taken' s s' more answer credit agrees =
    subst (λ n. Agrees n credit s') (sym more)
    (subst (λ (g : Option ℕ). IfSome g (λ granted. IsSomeAnd credit (λ c. (granted ≡ min c.granted 200) × (c.outstanding ≤ length s'.outgoing + (taken + 1))))) (sym answer.granted)
    (one_back (length s.outgoing) (length s'.outgoing) taken s.granted credit answer.one agrees))

pub takes_other : (taken : ℕ) (s s' : ClientState) → SameCredits s s' → TakesOn taken taken s s'
takes_other taken s s' same credit agrees = agrees_same taken credit s s' same agrees

pub took_agreed : (verb : Verb) (taken taken' : ℕ) (s s' : ClientState) → TakesOn taken taken' s s'
    → StepsAgreed verb taken taken' s s' (Ok (steps.Ends (outcomes.Took taken')))
took_agreed verb taken taken' s s' takes = λ fresh credit within agrees.
    (back_within taken' credit within, took_back (length s'.outgoing) taken' s'.granted credit (takes credit agrees))

pub waits_agreed : (verb : Verb) (taken taken' : ℕ) (s s' : ClientState) (did : Moved) → is_take verb ≡ true → TakesOn taken taken' s s'
    → StepsAgreed verb taken taken' s s' (Ok (steps.Waits did))
waits_agreed verb taken taken' s s' did is takes = λ fresh. ((λ e. absurd (true_false (is_take verb) is e)), takes)
  where
    true_false : (b : Bool) → b ≡ true → b ≡ false → ⊥
    true_false b one other = cc

-- a line that takes none
pub fresh_both : (verb : Verb) (taken : ℕ) (s s' : ClientState) (result : Result Step NoMemory) → is_take verb ≡ false → StepsAgreed verb 0 0 s s' result
    → StepsAgreed verb taken taken s s' result
fresh_both verb taken s s' (Ok step) is h = λ fresh. subst (λ n. KeepsAgreed verb n n s s' step) (sym (fresh is)) (h (λ e. refl))
fresh_both verb taken s s' (Err memory) is h = tt

pub fresh_from : (verb : Verb) (taken : ℕ) (s s' : ClientState) (result : Result Step NoMemory) → is_take verb ≡ false → StepsAgreed verb 0 0 s s' result
    → StepsAgreed verb taken 0 s s' result
fresh_from verb taken s s' (Ok step) is h = λ fresh. subst (λ n. KeepsAgreed verb n 0 s s' step) (sym (fresh is)) (h (λ e. refl))
fresh_from verb taken s s' (Err memory) is h = tt

pub plain_fresh : (verb : Verb) (taken : ℕ) (s s' : ClientState) (result : Result Step NoMemory) → is_take verb ≡ false → SameCredits s s' → IsPlain result
    → StepsAgreed verb taken taken s s' result
plain_fresh verb taken s s' result is same plain = fresh_both verb taken s s' result is (plain_agreed verb 0 s s' result refl same plain)

-- a line that sends a command uses a credit, and takes nothing
pub sends_one : (verb : Verb) → sends verb ≡ true → (uses_credit verb ≡ true) × (is_take verb ≡ false)
sends_one verbs.Login h = absurd (cc)
sends_one verbs.Reset h = absurd (cc)
sends_one verbs.Logout h = absurd (cc)
sends_one verbs.Tur h = (refl, refl)
sends_one (verbs.Read lba blocks at pieces table) h = (refl, refl)
sends_one (verbs.Write lba blocks at pieces table) h = (refl, refl)
sends_one (verbs.Command cdb) h = (refl, refl)
sends_one (verbs.CommandIn cdb at len pieces table) h = (refl, refl)
sends_one (verbs.CommandOut cdb at len pieces table) h = (refl, refl)
sends_one (verbs.Task function tag) h = absurd (cc)
sends_one (verbs.Take count) h = absurd (cc)
sends_one (verbs.Data tag) h = absurd (cc)
sends_one verbs.Open h = absurd (cc)
sends_one verbs.Close h = absurd (cc)
sends_one (verbs.Post at len count) h = absurd (cc)
sends_one (verbs.Send to len seed at) h = absurd (cc)
sends_one (verbs.ChangeMac own) h = absurd (cc)
sends_one (verbs.Multicast control group) h = absurd (cc)
sends_one (verbs.Fill at len seed) h = absurd (cc)
sends_one (verbs.Poke at bytes) h = absurd (cc)
sends_one (verbs.Peek at len) h = absurd (cc)
sends_one (verbs.Tce entry page readable writable) h = absurd (cc)
sends_one (verbs.Hcall number arguments) h = absurd (cc)
sends_one verbs.Fail h = absurd (cc)
