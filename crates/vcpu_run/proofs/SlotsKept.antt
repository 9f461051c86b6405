-- The requests of a client keep to the slots of its region, whatever it does.
use Rattle.std.proofs.Common.{◌≡◌, inl, inr, ℕ, ◌<◌, ◌≤◌, ◌==◌, ◌++◌, All, Bool, true, false, cond, List, [], ◌∷◌, Some, None, Result, Ok, Err, IfErr, IfOk, IfSome, OnErr, Option, refl, sym, ap, subst, arith}
use Rattle.std.proofs.lemmas.List.Elements.{All-append, All-cons, All-nil}
use Rattle.vio_num.specs.declared.entry.Entry.{Entry}
use Rattle.vio_num.specs.declared.memory.NoMemory.{NoMemory}
use Rattle.crq_session.specs.declared.answers.RegAnswer.TheVariants as reg
use Rattle.crq_session.specs.declared.answers.SendAnswer.{SendAnswer}
use Rattle.vscsi_client.specs.Login.{found_by, login_slot}
use Rattle.vscsi_client.specs.Ports.{Ports}
use Rattle.vscsi_client.specs.Sending.{LoggedOut, Submitted, Tasked, WhyNotSubmitted, command_refusal}
use Rattle.vscsi_client.specs.State.{ClientState, IsLoginSlot, IsStageWithin}
use Rattle.vscsi_client.specs.Taking.{TakesAs, TakesEntry, TakesLater, taken_by}
use Rattle.vscsi_client.specs.Turned.{Site, LoginStep, Registered, Took, TookNone, Looked, Began, Wrote, NotWritten, Put, RanOut, Runs, Steps, Turned, is_dropped, sent_by, sent_stage}
use Rattle.vscsi_client.specs.declared.TheConstants.{SLOTS}
use Rattle.vscsi_client.specs.declared.answers.LoginTurn.{LoginTurn}
use Rattle.vscsi_client.specs.declared.answers.Refused.{Refused}
use Rattle.vscsi_client.specs.declared.answers.Taken.{Taken}
use Rattle.vscsi_client.specs.declared.answers.Taken.TheVariants as takens
use Rattle.vscsi_client.specs.declared.found.Found.{Found}
use Rattle.vscsi_client.specs.declared.found.Found.TheVariants as found
use Rattle.vscsi_client.specs.declared.op.Op.{Op}
use Rattle.vscsi_client.specs.declared.outgoing.Outgoing.{Outgoing}
use Rattle.vscsi_client.specs.declared.stage.Due.{Due}
use Rattle.vscsi_client.specs.declared.stage.Due.TheVariants as dues
use Rattle.vscsi_client.specs.declared.stage.Stage.{Stage}
use Rattle.vscsi_client.specs.declared.stage.Stage.TheVariants.{Idle, Sent, Written}
use Rattle.vscsi_client.proofs.Requests.{All-without_tag}
use Rattle.vcpu_run.specs.ClientSlots.{HoldsSlots}
use Rattle.vcpu_run.proofs.Driving.{some_is}
use Rattle.vcpu_run.proofs.LinesShown.{next_within}

-- a request has one of the slots
abbrev pub IsIn : Outgoing → Type 0
IsIn o = o.slot < SLOTS

-- what has none outstanding, and no login under way
pub slots_none : (s : ClientState) → s.outgoing ≡ [] → s.login ≡ Idle → HoldsSlots s
slots_none s none idle = record {
  requests = subst (λ (os : List Outgoing). All IsIn os) (sym none) (All-nil IsIn);
  stage = subst IsStageWithin (sym idle) tt;
}

pub slots_same : (s s' : ClientState) → s'.outgoing ≡ s.outgoing → s'.login ≡ s.login → HoldsSlots s → HoldsSlots s'
slots_same s s' outgoing login has = record {
  requests = subst (λ (os : List Outgoing). All IsIn os) (sym outgoing) has.requests;
  stage = subst IsStageWithin (sym login) has.stage;
}

slots_more : (s s' : ClientState) (o : Outgoing) → s'.outgoing ≡ s.outgoing ++ o ∷ [] → s'.login ≡ s.login → o.slot < SLOTS → HoldsSlots s → HoldsSlots s'
slots_more s s' o outgoing login within has = record {
  requests = subst (λ (os : List Outgoing). All IsIn os) (sym outgoing) (All-append IsIn s.outgoing (o ∷ []) has.requests (All-cons IsIn o [] within (All-nil IsIn)));
  stage = subst IsStageWithin (sym login) has.stage;
}

-- ---- requests that are sent

not_submitted_slots : (line : ℕ) (op : Op) (s s' : ClientState) (old new : Ports) (why : Refused) → WhyNotSubmitted line op s s' old new why → HoldsSlots s → HoldsSlots s'
not_submitted_slots line op s s' old new why (inl h) has = subst HoldsSlots (sym h.client) has
not_submitted_slots line op s s' old new why (inr h) has =
    slots_same s s' (ap (λ (t : ClientState). t.outgoing) h.client) (ap (λ (t : ClientState). t.login) h.client) has

pub submit_slots : (line : ℕ) (op : Op) (s s' : ClientState) (old new : Ports) (result : Result ℕ Refused)
    → IfSome (command_refusal old.own.place.size s op) (λ why. (result ≡ Err why) × (s' ≡ s) × (new.crq ≡ old.crq) × (new.own ≡ old.own))
    → IfOk result (Submitted line op s s' old new)
    → (command_refusal old.own.place.size s op ≡ None → IfErr result (WhyNotSubmitted line op s s' old new))
    → HoldsSlots s → HoldsSlots s'
submit_slots line op s s' old new (Ok tag) refused sent not_sent has =
    slots_more s s' _ (ap (λ (t : ClientState). t.outgoing) sent.client) (ap (λ (t : ClientState). t.login) sent.client) (next_within s sent.slot sent.put.1.1) has
submit_slots line op s s' old new (Err why) refused sent not_sent has = at (Err why) (command_refusal old.own.place.size s op) refl refused
  where
    at : (res : Result ℕ Refused) (r : Option Refused) → command_refusal old.own.place.size s op ≡ r
        → IfSome r (λ w. (res ≡ Err w) × (s' ≡ s) × (new.crq ≡ old.crq) × (new.own ≡ old.own)) → HoldsSlots s'
    at res None is h = not_submitted_slots line op s s' old new why (not_sent is) has
    at res (Some w) is h = subst HoldsSlots (sym h.1) has

pub task_slots : (line function task : ℕ) (s s' : ClientState) (old new : Ports) (result : Result ℕ Refused) → IfOk result (Tasked line function task s s' old new)
    → OnErr result (s' ≡ s) → HoldsSlots s → HoldsSlots s'
task_slots line function task s s' old new (Ok tag) sent same has =
    slots_more s s' _ (ap (λ (t : ClientState). t.outgoing) sent.client) (ap (λ (t : ClientState). t.login) sent.client) (next_within s sent.slot sent.put.put.1.1) has
task_slots line function task s s' old new (Err why) sent same has = subst HoldsSlots (sym same) has

pub logout_slots : (line : ℕ) (s s' : ClientState) (old new : Ports) (result : Result ℕ Refused) → IfOk result (LoggedOut line s s' old new)
    → OnErr result (s' ≡ s) → HoldsSlots s → HoldsSlots s'
logout_slots line s s' old new (Ok tag) sent same has = slots_same s s' (ap (λ (t : ClientState). t.outgoing) sent.client) (ap (λ (t : ClientState). t.login) sent.client) has
logout_slots line s s' old new (Err why) sent same has = subst HoldsSlots (sym same) has

-- ---- entries that are taken

slots_by : (entry : Entry) (taken : Taken) (s : ClientState) → HoldsSlots s → HoldsSlots (taken_by entry taken s)
slots_by entry (takens.Answer tag response) s has = record { requests = All-without_tag IsIn tag s.outgoing has.requests; stage = has.stage }
slots_by entry takens.Lost s has = slots_none (taken_by entry takens.Lost s) refl refl
slots_by entry takens.Other s has = slots_same s (taken_by entry takens.Other s) refl refl has
slots_by entry (takens.Again page word) s has = slots_same s (taken_by entry (takens.Again page word) s) refl refl has
slots_by entry (takens.Stray tag) s has = has
slots_by entry (takens.Empty number) s has = has

pub fetched_slots : (s s' : ClientState) (old new : Ports) (taken : Taken) (takes : TakesAs s s' old new taken) → HoldsSlots s → HoldsSlots takes.kept
fetched_slots s s' old new taken takes has =
    slots_same s takes.kept (ap (λ (t : ClientState). t.outgoing) takes.fetched.client) (ap (λ (t : ClientState). t.login) takes.fetched.client) has

taken_slots : (s s' : ClientState) (old new : Ports) (taken : Taken) → TakesAs s s' old new taken → HoldsSlots s → HoldsSlots s'
taken_slots s s' old new taken takes has =
    let j = takes.judged in
    subst HoldsSlots (sym j.client)
    (slots_by j.entry taken (record takes.kept { kept = j.rest })
    (slots_same takes.kept (record takes.kept { kept = j.rest }) refl refl (fetched_slots s s' old new taken takes has)))

pub take_slots : (s s' : ClientState) (old new : Ports) (result : Result Taken NoMemory) → IfOk result (TakesEntry s s' old new)
    → OnErr result (TakesLater old.crq_shared s s' old.crq new.crq) → HoldsSlots s → HoldsSlots s'
take_slots s s' old new (Ok (takens.Answer tag response)) taken later has = taken_slots s s' old new (takens.Answer tag response) taken has
take_slots s s' old new (Ok (takens.Stray tag)) taken later has = taken_slots s s' old new (takens.Stray tag) taken has
take_slots s s' old new (Ok takens.Lost) taken later has = taken_slots s s' old new takens.Lost taken has
take_slots s s' old new (Ok takens.Other) taken later has = taken_slots s s' old new takens.Other taken has
take_slots s s' old new (Ok (takens.Again page word)) taken later has = taken_slots s s' old new (takens.Again page word) taken has
take_slots s s' old new (Ok (takens.Empty number)) taken later has = subst HoldsSlots (sym taken.fetched.client) has
take_slots s s' old new (Err memory) taken later has = kept later
  where
    kept : TakesLater old.crq_shared s s' old.crq new.crq → HoldsSlots s'
    kept (inl h) = subst HoldsSlots (sym h.0) has
    kept (inr h) = slots_same s s' (ap (λ (t : ClientState). t.outgoing) h.client) (ap (λ (t : ClientState). t.login) h.client) has

-- ---- a turn of a login

slots_found : (entry : Entry) (f : Found) (s : ClientState) → HoldsSlots s → HoldsSlots (found_by entry f s)
slots_found entry (found.Granted credits) s has = slots_none (found_by entry (found.Granted credits) s) refl refl
slots_found entry (found.Rejected reason) s has = record { requests = has.requests; stage = tt }
slots_found entry found.Lost s has = slots_none (found_by entry found.Lost s) refl refl
slots_found entry found.Step s has = slots_same s (found_by entry found.Step s) refl refl has
slots_found entry found.Answer s has = slots_same s (found_by entry found.Answer s) refl refl has
slots_found entry found.Nothing s has = slots_same s (found_by entry found.Nothing s) refl refl has
slots_found entry (found.InUse page word) s has = has

sent_within : (due : Due) (stage : Stage) → IsStageWithin stage → IsStageWithin (sent_stage due stage)
sent_within dues.Login Idle is = is
sent_within dues.Login (Written tag slot) is = is
sent_within dues.Login (Sent tag slot) is = is
sent_within dues.Initialize stage is = is
sent_within dues.Complete stage is = is

slots_put : (due : Due) (others : List Due) (answer : SendAnswer) (s : ClientState) → HoldsSlots s → HoldsSlots (sent_by due others answer s)
slots_put due others answer s has = at (is_dropped answer)
  where
    at : (b : Bool) → HoldsSlots (cond b s (record s { due = others; login = sent_stage due s.login }))
    at true = has
    at false = record { requests = has.requests; stage = sent_within due s.login has.stage }

login_place : (s : ClientState) (slot : ℕ) → IsLoginSlot s slot → slot ≤ SLOTS
login_place s slot (inl is) = let within = is.within in omega (arith, within)
login_place s slot (inr is) = let last = is.1 in omega (arith, last)

slots_step : (line : ℕ) (step : LoginStep) (a b : Site) → Steps line step a b → HoldsSlots a.client → HoldsSlots b.client
slots_step line (Registered reg.Resource) a b h has = subst HoldsSlots (sym h.0.registers.2) has
slots_step line (Registered reg.Success) a b h has = subst HoldsSlots (sym h.0.registers.2) (slots_none _ refl refl)
slots_step line (Registered (reg.Closed control)) a b h has = subst HoldsSlots (sym h.0.registers.2) (slots_none _ refl refl)
slots_step line (Registered (reg.Busy number held)) a b h has = subst HoldsSlots (sym h.0.registers.1) (slots_none _ refl refl)
slots_step line (Registered reg.Parameter) a b h has = absurd h.0.registers
slots_step line Took a b h has = slots_same a.client b.client (ap (λ (t : ClientState). t.outgoing) h.0.client) (ap (λ (t : ClientState). t.login) h.0.client) has
slots_step line TookNone a b h has = subst HoldsSlots (sym h.0.client) has
slots_step line (Looked f) a b h has = subst HoldsSlots (sym h.0.client) (slots_found h.0.entry f a.client has)
slots_step line Began a b h has = slots_same a.client b.client (ap (λ (t : ClientState). t.outgoing) h.0.client) (ap (λ (t : ClientState). t.login) h.0.client) has
slots_step line Wrote a b h has =
    subst HoldsSlots (sym h.1.client) (record { requests = has.requests; stage = login_place a.client h.1.slot h.1.unit.slot_is })
slots_step line (NotWritten page word) a b h has = subst HoldsSlots (sym h.1.client) has
slots_step line (Put due answer) a b h has = subst HoldsSlots (sym h.0.client) (slots_put due h.0.others answer a.client has)
slots_step line RanOut a b h has = subst HoldsSlots (sym h.client) has

pub runs_slots : (line : ℕ) (steps : List LoginStep) (a b : Site) → Runs line steps a b → HoldsSlots a.client → HoldsSlots b.client
runs_slots line [] a b runs has = subst (λ (t : Site). HoldsSlots t.client) (sym runs) has
runs_slots line (step ∷ steps) a b runs has = slots_step line step runs.0 b runs.2 (runs_slots line steps a runs.0 runs.1 has)

pub turn_slots : (line : ℕ) (a b : Site) (result : Result LoginTurn NoMemory) → Turned line a b result → HoldsSlots a.client → HoldsSlots b.client
turn_slots line a b result turned = runs_slots line turned.steps a b turned.runs

-- the slot of a login that is under way
pub login_within : (tag : ℕ) (stage : Stage) (slot : ℕ) → IsStageWithin stage → login_slot tag stage ≡ Some slot → slot ≤ SLOTS
login_within tag Idle slot is e = absurd (cc (e))
login_within tag (Written own place) slot is e = at (own == tag) e
  where
    at : (b : Bool) → cond b (Some place) None ≡ Some slot → slot ≤ SLOTS
    at true same = subst (λ n. n ≤ SLOTS) (some_is place slot same) is
    at false none = absurd (cc (none))
login_within tag (Sent own place) slot is e = at (own == tag) e
  where
    at : (b : Bool) → cond b (Some place) None ≡ Some slot → slot ≤ SLOTS
    at true same = subst (λ n. n ≤ SLOTS) (some_is place slot same) is
    at false none = absurd (cc (none))
