-- A client is logged in only where something was put into its queue, step by step.
use Rattle.std.proofs.Common.{◌≡◌, ◌∙◌, inl, inr, ℕ, Bool, true, false, cond, List, [], ◌∷◌, Option, Some, None, Result, Ok, Err, IfErr, IfOk, IfSome, OnErr, slice_get, refl, sym, ap, subst}
use Rattle.vio_num.specs.declared.entry.Entry.{Entry}
use Rattle.vio_num.specs.declared.memory.NoMemory.{NoMemory}
use Rattle.crq_ring.specs.Sessions.{of_session}
use Rattle.crq_ring.specs.declared.rows.PipeRow.{PipeRow}
use Rattle.crq_session.specs.EndState.{EndPlace, EndState}
use Rattle.crq_session.specs.declared.answers.RegAnswer.{RegAnswer}
use Rattle.crq_session.specs.declared.answers.RegAnswer.TheVariants as reg
use Rattle.crq_session.specs.declared.answers.SendAnswer.{SendAnswer}
use Rattle.vscsi_client.specs.Ports.{Ports}
use Rattle.vscsi_client.specs.Sending.{LoggedOut, Submitted, Tasked, WhyNotSubmitted, command_refusal, with_command, with_logout, with_task}
use Rattle.vscsi_client.specs.State.{ClientState}
use Rattle.vscsi_client.specs.Taking.{TakesAs, TakesEntry, TakesLater, taken_by}
use Rattle.vscsi_client.specs.Turned.{Began, LoginStep, Looked, NotWritten, Put, RanOut, Registered, RegistersAs, Runs, Site, Steps, TakesNext, Took, TookNone, Turned, Wrote, freed_by, is_dropped, login_due, registered_by, sent_by, sent_stage, written_at}
use Rattle.vscsi_client.specs.declared.answers.LoginTurn.{LoginTurn}
use Rattle.vscsi_client.specs.declared.answers.Refused.{Refused}
use Rattle.vscsi_client.specs.declared.answers.Taken.{Taken}
use Rattle.vscsi_client.specs.declared.answers.Taken.TheVariants as takens
use Rattle.vscsi_client.specs.declared.op.Op.{Op}
use Rattle.vscsi_client.specs.declared.stage.Due.{Due}
use Rattle.vcpu_run.specs.Reached.{IsBlank, Reaches}
use Rattle.vcpu_run.proofs.QueueLaws.{entries_are}

-- Where no login was on, none is, and where no entry was held, none is.
pub record KeepsBlank (s s' : ClientState) : Type 0 where
  pub granted : s.granted ≡ None → s'.granted ≡ None
  pub held : s.held ≡ None → s'.held ≡ None

pub blank_then : (s s' : ClientState) → KeepsBlank s s' → IsBlank s → IsBlank s'
blank_then s s' keeps is = record { granted = keeps.granted is.granted; held = keeps.held is.held }

pub blank_same : (s : ClientState) → KeepsBlank s s
blank_same s = record { granted = λ is. is; held = λ is. is }

blank_on : (a b c : ClientState) → KeepsBlank a b → KeepsBlank b c → KeepsBlank a c
blank_on a b c first next = record { granted = λ is. next.granted (first.granted is); held = λ is. next.held (first.held is) }

pub blank_as : (s s' t : ClientState) → s' ≡ t → KeepsBlank s t → KeepsBlank s s'
blank_as s s' t same keeps = subst (KeepsBlank s) (sym same) keeps

-- the end is where it was
pub reaches_by : (s s' : ClientState) (e f : EndState) → KeepsBlank s s' → f.place ≡ e.place → Reaches s s' e f
reaches_by s s' e f keeps place is none = blank_then s s' keeps (is (sym (ap (λ (p : EndPlace). p.received) place) ∙ none))

-- A TURN OF A LOGIN ------------------------------------------------------------------------------

no_entry : (n : ℕ) (entry : Entry) (entries : List Entry) → entries ≡ [] → slice_get entries n ≡ Some entry → ⊥
no_entry n entry [] none there = cc (there)
no_entry n entry (first ∷ entries) none there = cc (none)

none_there : (q : ℕ) (rows : List PipeRow) (n : ℕ) (entry : Entry) → rows ≡ [] → slice_get (of_session q rows) n ≡ Some entry → ⊥
none_there q [] n entry none there = no_entry n entry (of_session q []) (entries_are q []) there
none_there q (row ∷ rows) n entry none there = cc (none)

no_held : (entry : Entry) → None ≡ Some entry → ⊥
no_held entry same = cc (same)

-- an entry was taken, so one was put
took_some : (shared : Bool) (s s' : ClientState) (old new : EndState) → shared ≡ false → TakesNext shared s s' old new → new.place.received ≡ [] → ⊥
took_some shared s s' old new alone is none =
    none_there is.room.last_session is.room.place.received is.number is.entry (sym (ap (λ (p : EndPlace). p.received) is.rest.place) ∙ none) (is.taken.there alone)

registers_blank : (shared : Bool) (s s' : ClientState) (old new : EndState) (answer : RegAnswer) → RegistersAs shared s s' old new answer → KeepsBlank s s'
registers_blank shared s s' old new reg.Success how = blank_as s s' (registered_by s) how.2 (record { granted = λ is. refl; held = λ is. refl })
registers_blank shared s s' old new (reg.Closed control) how = blank_as s s' (registered_by s) how.2 (record { granted = λ is. refl; held = λ is. refl })
registers_blank shared s s' old new (reg.Busy number held) how = blank_as s s' (freed_by s) how.1 (record { granted = λ is. refl; held = λ is. refl })
registers_blank shared s s' old new reg.Resource how = blank_as s s' s how.2 (blank_same s)
registers_blank shared s s' old new reg.Parameter how = absurd how

sent_blank : (s : ClientState) (due : Due) (others : List Due) (answer : SendAnswer) → KeepsBlank s (sent_by due others answer s)
sent_blank s due others answer = at (is_dropped answer)
  where
    at : (b : Bool) → KeepsBlank s (cond b s (record s { due = others; login = sent_stage due s.login }))
    at true = blank_same s
    at false = record { granted = λ is. is; held = λ is. is }

step_reaches : (line : ℕ) (step : LoginStep) (a b : Site) → a.at.crq_shared ≡ false → Steps line step a b → Reaches a.client b.client a.at.crq b.at.crq
step_reaches line (Registered answer) a b alone h =
    reaches_by a.client b.client a.at.crq b.at.crq (registers_blank a.at.crq_shared a.client b.client h.0.room b.at.crq answer h.0.registers) (h.0.rest.place ∙ h.0.ready.place)
step_reaches line Took a b alone h = λ is none. absurd (took_some a.at.crq_shared a.client b.client a.at.crq b.at.crq alone h.0 none)
step_reaches line TookNone a b alone h =
    reaches_by a.client b.client a.at.crq b.at.crq (blank_as a.client b.client a.client h.0.client (blank_same a.client)) (h.0.rest.place ∙ h.0.ready.place)
step_reaches line (Looked found) a b alone h = λ is none.
    absurd (no_held h.0.entry (sym (is (sym (ap (λ (e : EndState). e.place.received) h.1) ∙ none)).held ∙ h.0.held))
step_reaches line Began a b alone h =
    reaches_by a.client b.client a.at.crq b.at.crq (blank_as a.client b.client (login_due a.client) h.0.client (record { granted = λ is. is; held = λ is. is }))
    (ap (λ (e : EndState). e.place) h.1)
step_reaches line Wrote a b alone h =
    reaches_by a.client b.client a.at.crq b.at.crq (blank_as a.client b.client (written_at h.1.slot a.client) h.1.client (record { granted = λ is. is; held = λ is. is }))
    (ap (λ (e : EndState). e.place) h.2)
step_reaches line (NotWritten page word) a b alone h =
    reaches_by a.client b.client a.at.crq b.at.crq (blank_as a.client b.client a.client h.1.client (blank_same a.client)) (ap (λ (e : EndState). e.place) h.2)
step_reaches line (Put due answer) a b alone h =
    reaches_by a.client b.client a.at.crq b.at.crq (blank_as a.client b.client (sent_by due h.0.others answer a.client) h.0.client (sent_blank a.client due h.0.others answer))
    (h.0.rest.place ∙ h.0.ready.place)
step_reaches line RanOut a b alone h =
    reaches_by a.client b.client a.at.crq b.at.crq (blank_as a.client b.client a.client h.client (blank_same a.client)) h.crq.place

-- the steps of a turn, at an end in which nobody else has a hand
record RunsReach (a c : Site) : Type 0 where
  pub alone : c.at.crq_shared ≡ false
  pub reached : Reaches a.client c.client a.at.crq c.at.crq

runs_reach : (line : ℕ) (steps : List LoginStep) (a c : Site) → a.at.crq_shared ≡ false → Runs line steps a c → RunsReach a c
runs_reach line [] a c alone runs = subst (λ (s : Site). RunsReach a s) (sym runs) (record { alone = alone; reached = λ is. is })
runs_reach line (step ∷ steps) a c alone runs =
    let first : RunsReach a runs.0 = runs_reach line steps a runs.0 alone runs.1 in
    record {
      alone = runs.3.crq ∙ first.alone;
      reached = λ is. step_reaches line step runs.0 c first.alone runs.2 (first.reached is);
    }

pub turn_reaches : (line : ℕ) (a b : Site) (result : Result LoginTurn NoMemory) → a.at.crq_shared ≡ false → Turned line a b result → Reaches a.client b.client a.at.crq b.at.crq
turn_reaches line a b result alone turned = (runs_reach line turned.steps a b alone turned.runs).reached

-- WHAT IS TAKEN ----------------------------------------------------------------------------------

judged_blank : (k : ClientState) (entry : Entry) (rest : List Entry) (taken : Taken) → KeepsBlank k (taken_by entry taken (record k { kept = rest }))
judged_blank k entry rest (takens.Answer tag response) = record { granted = λ is. is; held = λ is. is }
judged_blank k entry rest (takens.Stray tag) = record { granted = λ is. is; held = λ is. is }
judged_blank k entry rest takens.Lost = record { granted = λ is. refl; held = λ is. refl }
judged_blank k entry rest takens.Other = record { granted = λ is. is; held = λ is. is }
judged_blank k entry rest (takens.Again page word) = record { granted = λ is. is; held = λ is. is }
judged_blank k entry rest (takens.Empty number) = record { granted = λ is. is; held = λ is. is }

as_blank : (taken : Taken) (s s' : ClientState) (old new : Ports) → TakesAs s s' old new taken → KeepsBlank s s'
as_blank taken s s' old new is =
    let k : ClientState = is.kept in
    let j = is.judged in
    blank_on s k s' (blank_as s k (record s { kept = is.fetched.entry ∷ is.fetched.rest }) is.fetched.client (record { granted = λ is. is; held = λ is. is }))
    (blank_as k s' (taken_by j.entry taken (record k { kept = j.rest })) j.client (judged_blank k j.entry j.rest taken))

entry_blank : (taken : Taken) (s s' : ClientState) (old new : Ports) → TakesEntry s s' old new taken → KeepsBlank s s'
entry_blank (takens.Answer tag response) s s' old new is = as_blank (takens.Answer tag response) s s' old new is
entry_blank (takens.Stray tag) s s' old new is = as_blank (takens.Stray tag) s s' old new is
entry_blank takens.Lost s s' old new is = as_blank takens.Lost s s' old new is
entry_blank takens.Other s s' old new is = as_blank takens.Other s s' old new is
entry_blank (takens.Again page word) s s' old new is = as_blank (takens.Again page word) s s' old new is
entry_blank (takens.Empty number) s s' old new is = blank_as s s' s is.fetched.client (blank_same s)

later_blank : (shared : Bool) (s s' : ClientState) (old new : EndState) → TakesLater shared s s' old new → KeepsBlank s s'
later_blank shared s s' old new (inl is) = blank_as s s' s is.0 (blank_same s)
later_blank shared s s' old new (inr is) = blank_as s s' (record s { kept = is.entry ∷ is.rest }) is.client (record { granted = λ is. is; held = λ is. is })

pub take_blank : (s s' : ClientState) (old new : Ports) (result : Result Taken NoMemory) → IfOk result (TakesEntry s s' old new) → OnErr result (TakesLater old.crq_shared s s' old.crq new.crq)
    → KeepsBlank s s'
take_blank s s' old new (Ok taken) is later = entry_blank taken s s' old new is
take_blank s s' old new (Err memory) is later = later_blank old.crq_shared s s' old.crq new.crq later

-- REQUESTS ---------------------------------------------------------------------------------------

pub submit_blank : (line : ℕ) (op : Op) (s s' : ClientState) (old new : Ports) (answer : Result ℕ Refused)
    → IfSome (command_refusal old.own.place.size s op) (λ why. (answer ≡ Err why) × (s' ≡ s) × (new.crq ≡ old.crq) × (new.own ≡ old.own))
    → IfOk answer (Submitted line op s s' old new)
    → (command_refusal old.own.place.size s op ≡ None → IfErr answer (WhyNotSubmitted line op s s' old new)) → KeepsBlank s s'
submit_blank line op s s' old new (Ok tag) refused sent not_sent = blank_as s s' (with_command op sent.slot s) sent.client (record { granted = λ is. is; held = λ is. is })
submit_blank line op s s' old new (Err why) refused sent not_sent = at (Err why) (command_refusal old.own.place.size s op) refl refused
  where
    not : WhyNotSubmitted line op s s' old new why → KeepsBlank s s'
    not (inl h) = blank_as s s' s h.client (blank_same s)
    not (inr h) = blank_as s s' _ h.client (record { granted = λ is. is; held = λ is. is })

    at : (r : Result ℕ Refused) (o : Option Refused) → command_refusal old.own.place.size s op ≡ o
        → IfSome o (λ w. (r ≡ Err w) × (s' ≡ s) × (new.crq ≡ old.crq) × (new.own ≡ old.own)) → KeepsBlank s s'
    at r None none h = not (not_sent none)
    at r (Some w) some h = blank_as s s' s h.1 (blank_same s)

pub task_blank : (line function task : ℕ) (s s' : ClientState) (old new : Ports) (answer : Result ℕ Refused) → IfOk answer (Tasked line function task s s' old new)
    → OnErr answer (s' ≡ s) → KeepsBlank s s'
task_blank line function task s s' old new (Ok tag) sent same = blank_as s s' (with_task sent.slot s) sent.client (record { granted = λ is. is; held = λ is. is })
task_blank line function task s s' old new (Err why) sent same = blank_as s s' s same (blank_same s)

pub logout_blank : (line : ℕ) (s s' : ClientState) (old new : Ports) (answer : Result ℕ Refused) → IfOk answer (LoggedOut line s s' old new)
    → OnErr answer (s' ≡ s) → KeepsBlank s s'
logout_blank line s s' old new (Ok tag) sent same = blank_as s s' (with_logout sent.slot s) sent.client (record { granted = λ is. refl; held = λ is. is })
logout_blank line s s' old new (Err why) sent same = blank_as s s' s same (blank_same s)
