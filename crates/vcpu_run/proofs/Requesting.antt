-- What a client's requests put into its server unit's queue.
use Rattle.std.proofs.Common.{◌≡◌, ◌∙◌, inl, inr, ℕ, ◌++◌, Bool, true, false, List, [], Option, Some, None, Result, Ok, Err, IfSome, IfOk, IfErr, length, refl, sym, ap, append-nil}
use Rattle.vio_num.specs.Entry.{srp_entry}
use Rattle.crq_ring.specs.declared.rows.PipeRow.{PipeRow}
use Rattle.crq_session.specs.Answered.{SendsNone}
use Rattle.crq_session.specs.EndState.{EndState, OnlyReserves, OnlySends}
use Rattle.srp_iu.specs.declared.unit.Iu.{Iu}
use Rattle.vscsi_client.specs.declared.answers.Refused.{Refused}
use Rattle.vscsi_client.specs.declared.answers.Refused.TheVariants as whys
use Rattle.vscsi_client.specs.declared.op.Op.{Op}
use Rattle.vscsi_client.specs.Frames.{HasMore}
use Rattle.vscsi_client.specs.Ports.{Ports, WhyNotPut}
use Rattle.vscsi_client.specs.Sending.{LoggedOut, PutsNoUnit, PutsUnit, Submitted, Tasked, WhyNotSent, WhyNotSubmitted, command_refusal, logout_refusal, logout_unit, task_refusal, task_unit}
use Rattle.vscsi_client.specs.Sending.{Put as PutAs}
use Rattle.vscsi_client.specs.State.{ClientState}
use Rattle.vscsi_client.specs.Units.{slot_address}
use Rattle.vcpu_run.specs.Announces.{Announces}
use Rattle.vcpu_run.specs.DropsStay.{DropsStay}
use Rattle.vcpu_run.specs.EventsHeard.{events_taken}
use Rattle.vcpu_run.specs.EventsPut.{MakesNoEvent}
use Rattle.vcpu_run.proofs.Announcing.{puts_more}
use Rattle.vcpu_run.proofs.Calming.{counts_calm, put_none, request_no_event}
use Rattle.vcpu_run.proofs.DropsStay.{stay_full, stay_none, stay_on, stay_puts, stay_ready, stay_same}

-- More was put behind what was put, and no event; while the own queue was not registered, none was. Each record of a drop is there still.
pub record SendsMore (old new : EndState) : Type 0 where
  pub more : HasMore old.sent new.sent
  pub unsent : old.registered ≡ false → new.sent ≡ old.sent
  pub plain : events_taken new.sent ≡ events_taken old.sent
  pub drops : DropsStay old.drops new.drops

more_same : (a b : EndState) → b.sent ≡ a.sent → DropsStay a.drops b.drops → SendsMore a b
more_same a b same drops = record { more = record { rows = []; is = same ∙ sym (append-nil a.sent) }; unsent = λ off. same; plain = ap events_taken same; drops = drops }

more_none : (a b : EndState) → SendsNone a b → SendsMore a b
more_none a b none = more_same a b none.sent (stay_none a b none)

more_end : (a b : EndState) → b ≡ a → SendsMore a b
more_end a b same = more_same a b (ap (λ (end : EndState). end.sent) same) (stay_same a.drops b.drops (ap (λ (end : EndState). end.drops) same))

more_behind : (a b c : EndState) → OnlyReserves a b → SendsMore b c → SendsMore a c
more_behind a b c ready next = record {
  more = record { rows = next.more.rows; is = next.more.is ∙ ap (λ (rows : List PipeRow). rows ++ next.more.rows) ready.sent };
  unsent = λ off. next.unsent (ready.registered ∙ off) ∙ ready.sent;
  plain = next.plain ∙ ap events_taken ready.sent;
  drops = stay_on a.drops b.drops c.drops (stay_ready a b ready) next.drops;
}

-- a unit's entry was put, or was not
unit_more : (line : ℕ) (s : ClientState) (iu : Iu) (old new : Ports) (slot : ℕ) → PutsUnit line s iu old new slot → SendsMore old.crq new.crq
unit_more line s iu old new slot h = record {
  more = record { rows = _; is = h.2.sent.puts.sent };
  unsent = λ off. absurd (both old.crq.registered h.2.may.registered off);
  plain = put_none old.crq_shared old.crq new.crq (srp_entry (length h.0) (slot_address slot)) h.2.sent.puts (request_no_event (length h.0) (slot_address slot) h.1.0.within);
  drops = stay_puts old.crq_shared old.crq new.crq (srp_entry (length h.0) (slot_address slot)) h.2.sent.puts;
}
  where
    both : (registered : Bool) → registered ≡ true → registered ≡ false → ⊥
    both registered on off = cc (on, off)

why_more : (line slot : ℕ) (unit : List ℕ) (old new : Ports) (why : Refused) → WhyNotPut line slot unit old new why → SendsMore old.crq new.crq
why_more line slot unit old new (whys.InUse page word) h = more_none old.crq new.crq h.0
why_more line slot unit old new (whys.Closed control) h = elim h.1 as (λ _. SendsMore old.crq new.crq) [
  | inl own ↦ more_none old.crq new.crq own.2
  | inr back ↦ more_none old.crq new.crq back.1.none
]
why_more line slot unit old new (whys.Dropped number held) h = more_same old.crq new.crq h.1.1.sent (stay_full old.crq_shared old.crq new.crq number held h.1.1)
why_more line slot unit old new whys.NoMemory h = more_none old.crq new.crq h.0
why_more line slot unit old new whys.Range h = absurd h
why_more line slot unit old new whys.NotLoggedIn h = absurd h
why_more line slot unit old new (whys.NoCredit limit) h = absurd h
why_more line slot unit old new (whys.Overlap tag) h = absurd h

unit_not_put : (line : ℕ) (s : ClientState) (iu : Iu) (old new : Ports) (why : Refused) → PutsNoUnit line s iu old new why → SendsMore old.crq new.crq
unit_not_put line s iu old new why h = why_more line h.0 h.1 old new why h.3

-- a command
not_submitted : (line : ℕ) (op : Op) (s s' : ClientState) (old new : Ports) (why : Refused) → WhyNotSubmitted line op s s' old new why → SendsMore old.crq new.crq
not_submitted line op s s' old new why (inl h) = more_none old.crq new.crq h.sent
not_submitted line op s s' old new why (inr h) = more_behind old.crq h.before.crq new.crq h.ready.crq (unit_not_put line s _ h.before new why h.why_not)

pub submit_more : (line : ℕ) (op : Op) (s s' : ClientState) (old new : Ports) (result : Result ℕ Refused)
    → IfSome (command_refusal old.own.place.size s op) (λ why. (result ≡ Err why) × (s' ≡ s) × (new.crq ≡ old.crq) × (new.own ≡ old.own))
    → IfOk result (Submitted line op s s' old new)
    → (command_refusal old.own.place.size s op ≡ None → IfErr result (WhyNotSubmitted line op s s' old new))
    → SendsMore old.crq new.crq
submit_more line op s s' old new (Ok tag) refused sent not_sent =
    more_behind old.crq sent.before.crq new.crq sent.ready.crq (unit_more line s _ sent.before new sent.slot sent.put)
submit_more line op s s' old new (Err why) refused sent not_sent = at (Err why) (command_refusal old.own.place.size s op) refl refused
  where
    at : (res : Result ℕ Refused) (r : Option Refused) → command_refusal old.own.place.size s op ≡ r
        → IfSome r (λ w. (res ≡ Err w) × (s' ≡ s) × (new.crq ≡ old.crq) × (new.own ≡ old.own)) → SendsMore old.crq new.crq
    at res None is h = not_submitted line op s s' old new why (not_sent is)
    at res (Some w) is h = more_end old.crq new.crq h.2

-- a request without data
put_more : (line : ℕ) (s : ClientState) (iu : Iu) (slot : ℕ) (old new : Ports) → PutAs line s iu slot old new → SendsMore old.crq new.crq
put_more line s iu slot old new h = more_behind old.crq h.before.crq new.crq h.ready.crq (unit_more line s iu h.before new slot h.put)

not_sent_more : (line : ℕ) (s : ClientState) (iu : Iu) (old new : Ports) (why : Refused) → WhyNotSent line s iu old new why → SendsMore old.crq new.crq
not_sent_more line s iu old new why (inl h) = more_none old.crq new.crq h.1.0
not_sent_more line s iu old new why (inr h) = more_behind old.crq h.before.crq new.crq h.ready.crq (unit_not_put line s iu h.before new why h.why_not)

refused_more : (line : ℕ) (s : ClientState) (iu : Iu) (old new : Ports) (res : Result ℕ Refused) (r : Option Refused) (why : Refused)
    → IfSome r (λ w. (res ≡ Err w) × (new.crq ≡ old.crq) × (new.own ≡ old.own))
    → (r ≡ None → WhyNotSent line s iu old new why) → SendsMore old.crq new.crq
refused_more line s iu old new res None why h not_sent = not_sent_more line s iu old new why (not_sent refl)
refused_more line s iu old new res (Some w) why h not_sent = more_end old.crq new.crq h.1

pub task_more : (line function task : ℕ) (s s' : ClientState) (old new : Ports) (result : Result ℕ Refused)
    → IfSome (task_refusal s) (λ why. (result ≡ Err why) × (new.crq ≡ old.crq) × (new.own ≡ old.own))
    → IfOk result (Tasked line function task s s' old new)
    → (task_refusal s ≡ None → IfErr result (WhyNotSent line s (task_unit function task s) old new)) → SendsMore old.crq new.crq
task_more line function task s s' old new (Ok tag) refused sent not_sent = put_more line s _ sent.slot old new sent.put
task_more line function task s s' old new (Err why) refused sent not_sent = refused_more line s _ old new (Err why) (task_refusal s) why refused not_sent

pub logout_more : (line : ℕ) (s s' : ClientState) (old new : Ports) (result : Result ℕ Refused)
    → IfSome (logout_refusal s) (λ why. (result ≡ Err why) × (new.crq ≡ old.crq) × (new.own ≡ old.own))
    → IfOk result (LoggedOut line s s' old new)
    → (logout_refusal s ≡ None → IfErr result (WhyNotSent line s (logout_unit s) old new)) → SendsMore old.crq new.crq
logout_more line s s' old new (Ok tag) refused sent not_sent = put_more line s _ sent.slot old new sent.put
logout_more line s s' old new (Err why) refused sent not_sent = refused_more line s _ old new (Err why) (logout_refusal s) why refused not_sent

pub sends_calm : (shared : Bool) (a b : EndState) → OnlySends shared a b → SendsMore a b → MakesNoEvent a b
sends_calm shared a b rest sends = counts_calm a b sends.plain rest.kept

-- a call that only sends
pub puts_sends : (shared : Bool) (a b : EndState) → OnlySends shared a b → SendsMore a b → Announces a b
puts_sends shared a b rest sends = puts_more a b sends.more rest.kept rest.registered rest.last_session sends.unsent sends.drops
