-- Which calls of a client's end make an event: none but those that free its queue.
use Rattle.std.proofs.Common.{◌≡◌, ◌∙◌, ◌⊎◌, inl, inr, ℕ, ◌+◌, ◌≤◌, Bool, true, false, cond, List, [], ◌∷◌, Option, Some, None, Result, IfSome, IsSome, refl, sym, ap, arith}
use Rattle.std.proofs.lemmas.Bool.{ne_eqb}
use Rattle.vio_num.specs.Entry.{first_byte, initialize, initialization_complete, srp_entry}
use Rattle.vio_num.specs.declared.entry.Entry.{Entry}
use Rattle.vio_num.specs.declared.memory.NoMemory.{NoMemory}
use Rattle.crq_session.specs.Answered.{Frees, Keeps, Loses, LosesKept, Opens, Pushes, Puts, PutsNone, Settles}
use Rattle.crq_session.specs.EndState.{EndState, OnlyReserves}
use Rattle.crq_session.specs.declared.answers.RegAnswer.{RegAnswer}
use Rattle.crq_session.specs.declared.answers.RegAnswer.TheVariants as reg
use Rattle.crq_session.specs.declared.answers.SendAnswer.{SendAnswer}
use Rattle.crq_session.specs.declared.answers.SendAnswer.TheVariants as send
use Rattle.vscsi_client.specs.Slots.{is_event}
use Rattle.vscsi_client.specs.State.{ClientState}
use Rattle.vscsi_client.specs.Turned.{Began, IsEntryOf, LoginStep, Looked, NotWritten, Put, RanOut, Registered, RegistersAs, Runs, SentAs, Site, Steps, Took, TookNone, Turned, Wrote}
use Rattle.vscsi_client.specs.Units.{slot_address}
use Rattle.vscsi_client.specs.declared.answers.LoginTurn.{LoginTurn}
use Rattle.vscsi_client.specs.declared.stage.Due.{Due}
use Rattle.vscsi_client.specs.declared.stage.Due.TheVariants as dues
use Rattle.vscsi_client.specs.declared.stage.Stage.{Stage}
use Rattle.vscsi_client.specs.declared.stage.Stage.TheVariants as stages
use Rattle.vcpu_run.specs.EventsHeard.{event_if, events_taken, one_event}
use Rattle.vcpu_run.specs.EventsPut.{MakesNoEvent, events_of}
use Rattle.vcpu_run.proofs.EventsHeard.{taken_more}

-- an entry of a request is no event
srp_first : (n low : ℕ) → n ≤ 256 → first_byte (srp_entry n low) ≡ 0x80
srp_first n low few = omega (arith, few)

not_event : (entry : Entry) (first : ℕ) → first_byte entry ≡ first → (first ≡ 0xFF → ⊥) → one_event entry ≡ 0
not_event entry first is apart = ap (λ b. cond b 1 0) (ne_eqb (first_byte entry) 0xFF (λ event. apart (sym is ∙ event)))

pub request_no_event : (n low : ℕ) → n ≤ 256 → one_event (srp_entry n low) ≡ 0
request_no_event n low few = not_event (srp_entry n low) 0x80 (srp_first n low few) (λ e. omega (arith, e))

-- nothing was put, and the kept event is as before
pub calm_same : (a b : EndState) → b.sent ≡ a.sent → b.kept ≡ a.kept → MakesNoEvent a b
calm_same a b sent kept =
    let x : events_taken b.sent ≡ events_taken a.sent = ap events_taken sent in
    let y : event_if b.kept ≡ event_if a.kept = ap event_if kept in
    plain (events_taken a.sent) (events_taken b.sent) (event_if a.kept) (event_if b.kept) x y
  where
    plain : (s s' k k' : ℕ) → s' ≡ s → k' ≡ k → s' + k' ≤ s + k
    plain s s' k k' x y = omega (arith, x, y)

pub calm_ready : (a b : EndState) → OnlyReserves a b → MakesNoEvent a b
calm_ready a b ready = calm_same a b ready.sent ready.kept

pub calm_on : (a b c : EndState) → MakesNoEvent a b → MakesNoEvent b c → MakesNoEvent a c
calm_on a b c first next = omega (arith, first, next)

-- an entry was put
put_counts : (shared : Bool) (a b : EndState) (entry : Entry) → Puts shared a entry b → events_taken b.sent ≡ events_taken a.sent + one_event entry
put_counts shared a b entry puts = ap events_taken puts.sent ∙ taken_more a.sent (record { session = b.counts.partner_session; entry = entry })

pub put_none : (shared : Bool) (a b : EndState) (entry : Entry) → Puts shared a entry b → one_event entry ≡ 0 → events_taken b.sent ≡ events_taken a.sent
put_none shared a b entry puts none = plain (events_taken a.sent) (events_taken b.sent) (one_event entry) (put_counts shared a b entry puts) none
  where
    plain : (s s' one : ℕ) → s' ≡ s + one → one ≡ 0 → s' ≡ s
    plain s s' one x none = omega (arith, x, none)

pub counts_calm : (a b : EndState) → events_taken b.sent ≡ events_taken a.sent → b.kept ≡ a.kept → MakesNoEvent a b
counts_calm a b sent kept = plain (events_taken a.sent) (events_taken b.sent) (event_if a.kept) (event_if b.kept) sent (ap event_if kept)
  where
    plain : (s s' k k' : ℕ) → s' ≡ s → k' ≡ k → s' + k' ≤ s + k
    plain s s' k k' x y = omega (arith, x, y)

put_plain : (shared : Bool) (a b : EndState) (entry : Entry) → Puts shared a entry b → one_event entry ≡ 0 → b.kept ≡ a.kept → MakesNoEvent a b
put_plain shared a b entry puts none kept = counts_calm a b (put_none shared a b entry puts none) kept

-- the kept event was put, or lost
put_kept : (shared : Bool) (a b : EndState) (event : Entry) → a.kept ≡ Some event → Puts shared a event b → b.kept ≡ None → MakesNoEvent a b
put_kept shared a b event was puts gone =
    plain (events_taken a.sent) (events_taken b.sent) (event_if a.kept) (event_if b.kept) (one_event event) (put_counts shared a b event puts) (ap event_if was) (ap event_if gone)
  where
    plain : (s s' k k' one : ℕ) → s' ≡ s + one → k ≡ one → k' ≡ 0 → s' + k' ≤ s + k
    plain s s' k k' one x y z = omega (arith, x, y, z)

lost_kept : (a b : EndState) → b.sent ≡ a.sent → b.kept ≡ None → MakesNoEvent a b
lost_kept a b sent gone = plain (events_taken a.sent) (events_taken b.sent) (event_if a.kept) (event_if b.kept) (ap events_taken sent) (ap event_if gone)
  where
    plain : (s s' k k' : ℕ) → s' ≡ s → k' ≡ 0 → s' + k' ≤ s + k
    plain s s' k k' x y = omega (arith, x, y)

settle_calm : (shared : Bool) (a b : EndState) (kept : Option Entry) → a.kept ≡ kept → Settles shared kept a b → b.kept ≡ None → MakesNoEvent a b
settle_calm shared a b None was none gone = lost_kept a b none.sent gone
settle_calm shared a b (Some event) was (inl puts) gone = put_kept shared a b event was puts gone
settle_calm shared a b (Some event) was (inr loses) gone = lost_kept a b loses.none.sent gone

pub opens_calm : (shared : Bool) (a b : EndState) → Opens shared a b → MakesNoEvent a b
opens_calm shared a b opens = settle_calm shared a b a.kept refl opens.settles opens.kept

-- a call that puts the kept event, or finds none
pub pushes_calm : (a b : EndState) → Pushes false a b → MakesNoEvent a b
pushes_calm a b pushes = at a.kept refl pushes.puts
  where
    some_none : (o : Option Entry) → IsSome o → o ≡ None → ⊥
    some_none None some e = cc
    some_none (Some x) some e = cc

    at : (kept : Option Entry) → a.kept ≡ kept → IfSome kept (λ event. Puts false a event b) → MakesNoEvent a b
    at None e puts = absurd (some_none a.kept pushes.some e)
    at (Some event) e puts = put_kept false a b event e puts pushes.kept

pub nothing_calm : (a b : EndState) → PutsNone false a b → MakesNoEvent a b
nothing_calm a b none = at a.kept none.loses
  where
    at : (kept : Option Entry) → LosesKept false kept a b → MakesNoEvent a b
    at None sends = lost_kept a b sends.sent none.kept
    at (Some event) loses = lost_kept a b loses.none.sent none.kept

-- the own queue was freed
one_most : (entry : Entry) → one_event entry ≤ 1
one_most entry = at (is_event entry)
  where
    at : (b : Bool) → cond b 1 0 ≤ 1
    at true = omega arith
    at false = omega arith

pub freed_once : (shared : Bool) (a b : EndState) (event : Entry) → Frees shared a event b → events_of b ≤ events_of a + 1
freed_once shared a b event frees = at frees.tells
  where
    one : one_event event ≤ 1
    one = one_most event

    put : (s s' k k' e : ℕ) → s' ≡ s + e → e ≤ 1 → k' ≡ 0 → s' + k' ≤ (s + k) + 1
    put s s' k k' e x most y = omega (arith, x, most, y)

    kept : (s s' k k' e : ℕ) → s' ≡ s → e ≤ 1 → k' ≡ e → s' + k' ≤ (s + k) + 1
    kept s s' k k' e x most y = omega (arith, x, most, y)

    at : (Puts shared a event b × (b.kept ≡ None)) ⊎ (Keeps shared a event b ⊎ (Loses shared a b × (b.kept ≡ None))) → events_of b ≤ events_of a + 1
    at (inl h) = put (events_taken a.sent) (events_taken b.sent) (event_if a.kept) (event_if b.kept) (one_event event) (put_counts shared a b event h.0) one (ap event_if h.1)
    at (inr (inl h)) = kept (events_taken a.sent) (events_taken b.sent) (event_if a.kept) (event_if b.kept) (one_event event) (ap events_taken h.full.sent) one (ap event_if h.kept)
    at (inr (inr h)) = kept (events_taken a.sent) (events_taken b.sent) (event_if a.kept) (event_if b.kept) 0 (ap events_taken h.0.none.sent) (omega arith) (ap event_if h.1)

-- a step of a turn of a login
register_calm : (shared : Bool) (s s' : ClientState) (old new : EndState) (answer : RegAnswer) → RegistersAs shared s s' old new answer → MakesNoEvent old new
register_calm shared s s' old new reg.Resource h = calm_ready old new h.1
register_calm shared s s' old new reg.Success h = opens_calm shared old new h.0
register_calm shared s s' old new (reg.Closed control) h = opens_calm shared old new h.0
register_calm shared s s' old new (reg.Busy number held) h = calm_same old new h.0.kept.full.sent h.0.kept.kept
register_calm shared s s' old new reg.Parameter h = absurd h

due_plain : (due : Due) (stage : Stage) (entry : Entry) → IsEntryOf due stage entry → one_event entry ≡ 0
due_plain dues.Initialize stage entry is = ap one_event is ∙ not_event initialize 0xC0 refl (λ e. omega (arith, e))
due_plain dues.Complete stage entry is = ap one_event is ∙ not_event initialization_complete 0xC0 refl (λ e. omega (arith, e))
due_plain dues.Login (stages.Written tag slot) entry is = ap one_event is ∙ request_no_event 64 (slot_address slot) (omega arith)
due_plain dues.Login (stages.Sent tag slot) entry is = ap one_event is ∙ request_no_event 64 (slot_address slot) (omega arith)
due_plain dues.Login stages.Idle entry is = absurd is

send_calm : (shared : Bool) (old new : EndState) (entry : Entry) (answer : SendAnswer) → SentAs shared old entry new answer → one_event entry ≡ 0 → new.kept ≡ old.kept → MakesNoEvent old new
send_calm shared old new entry (send.Success number) h plain kept = put_plain shared old new entry h.puts plain kept
send_calm shared old new entry (send.Closed control) h plain kept = calm_same old new h.none.sent kept
send_calm shared old new entry (send.Dropped number held) h plain kept = calm_same old new h.sent kept
send_calm shared old new entry send.NotRegistered h plain kept = calm_ready old new h.1
send_calm shared old new entry send.Parameter h plain kept = absurd h

step_calm : (line : ℕ) (step : LoginStep) (a b : Site) → Steps line step a b → MakesNoEvent a.at.crq b.at.crq
step_calm line (Registered answer) a b h =
    calm_on a.at.crq h.0.room b.at.crq (calm_ready a.at.crq h.0.room h.0.ready) (register_calm a.at.crq_shared a.client b.client h.0.room b.at.crq answer h.0.registers)
step_calm line Took a b h = calm_on a.at.crq h.0.room b.at.crq (calm_ready a.at.crq h.0.room h.0.ready) (calm_same h.0.room b.at.crq h.0.rest.sent h.0.rest.kept)
step_calm line TookNone a b h = calm_on a.at.crq h.0.room b.at.crq (calm_ready a.at.crq h.0.room h.0.ready) (calm_same h.0.room b.at.crq h.0.rest.sent h.0.rest.kept)
step_calm line (Looked found) a b h = calm_same a.at.crq b.at.crq (ap (λ (e : EndState). e.sent) h.1) (ap (λ (e : EndState). e.kept) h.1)
step_calm line Began a b h = calm_same a.at.crq b.at.crq (ap (λ (e : EndState). e.sent) h.1) (ap (λ (e : EndState). e.kept) h.1)
step_calm line Wrote a b h = calm_same a.at.crq b.at.crq (ap (λ (e : EndState). e.sent) h.2) (ap (λ (e : EndState). e.kept) h.2)
step_calm line (NotWritten page word) a b h = calm_same a.at.crq b.at.crq (ap (λ (e : EndState). e.sent) h.2) (ap (λ (e : EndState). e.kept) h.2)
step_calm line (Put due answer) a b h =
    calm_on a.at.crq h.0.room b.at.crq (calm_ready a.at.crq h.0.room h.0.ready)
    (send_calm a.at.crq_shared h.0.room b.at.crq h.0.entry answer h.0.sent (due_plain due a.client.login h.0.entry h.0.is_entry) h.0.rest.kept)
step_calm line RanOut a b h = calm_ready a.at.crq b.at.crq h.crq

runs_calm : (line : ℕ) (steps : List LoginStep) (a c : Site) → Runs line steps a c → MakesNoEvent a.at.crq c.at.crq
runs_calm line [] a c runs = calm_same a.at.crq c.at.crq (ap (λ (s : Site). s.at.crq.sent) runs) (ap (λ (s : Site). s.at.crq.kept) runs)
runs_calm line (step ∷ steps) a c runs = calm_on a.at.crq runs.0.at.crq c.at.crq (runs_calm line steps a runs.0 runs.1) (step_calm line step runs.0 c runs.2)

pub turn_calm : (line : ℕ) (a b : Site) (result : Result LoginTurn NoMemory) → Turned line a b result → MakesNoEvent a.at.crq b.at.crq
turn_calm line a b result turned = runs_calm line turned.steps a b turned.runs
