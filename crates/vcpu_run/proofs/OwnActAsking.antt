-- A client's call that sends something, whose server unit's session is over, or was, while no login is under way: nothing was done, its unit was
-- written and not put, or it was put.
use Rattle.std.specs.Prelude.{⊤}
use Rattle.std.proofs.Common.{◌≡◌, ◌≢◌, ◌∙◌, inl, inr, ℕ, ◌≤◌, ◌++◌, All, Bool, true, false, true≢false, IfSome, List, [], ◌∷◌, Option, Some, None, length, refl, sym, ap, subst}
use Rattle.vio_num.specs.Entry.{is_srp_entry, srp_entry}
use Rattle.vio_num.specs.declared.entry.Entry.{Entry}
use Rattle.crq_session.specs.Answered.{Sends as SendsEntry}
use Rattle.crq_session.specs.EndState.{EndState, OnlyReserves}
use Rattle.tce_window.specs.PortState.{FindsInUse, PortState}
use Rattle.block_server.specs.Doings.{Doing}
use Rattle.vscsi_client.specs.Ports.{Lays, Ports, UnitLaid, UnitPut, WhyNotPut, unit_write}
use Rattle.vscsi_client.specs.Sending.{tabled_after}
use Rattle.vscsi_client.specs.State.{ClientState, IsNextSlot}
use Rattle.vscsi_client.specs.Units.{slot_address}
use Rattle.vscsi_client.specs.declared.TheConstants.{SLOTS}
use Rattle.vscsi_client.specs.declared.answers.Refused.{Refused}
use Rattle.vscsi_client.specs.declared.answers.Refused.TheVariants.{Closed, Dropped, InUse, NoCredit, NoMemory, NotLoggedIn, Overlap, Range}
use Rattle.vscsi_client.specs.declared.stage.Stage.TheVariants.{Idle}
use Rattle.vscsi_client.specs.declared.table.Table.{Table}
use Rattle.vcpu_run.specs.Acts.{TouchesNone}
use Rattle.vcpu_run.specs.OwnActs.{IsSettled, left_at}
use Rattle.vcpu_run.specs.OwnOver.{IsOver, IsOwed, stream_of}
use Rattle.vcpu_run.specs.PlainTalk.{Ask, IsOwnWindow, KeepsSlots}
use Rattle.vcpu_run.proofs.OwnActAnswers.{KeepsOver}
use Rattle.vcpu_run.proofs.OwnActAsks.{AsksMore, owed_push, slot_apart}
use Rattle.vcpu_run.proofs.OwnActLeft.{IsPhase, NextOver, stays_over}
use Rattle.vcpu_run.proofs.OwnActLooks.{come_still, over_still, took_still}
use Rattle.vcpu_run.proofs.OwnActOwed.{knows_same, owed_moved}
use Rattle.vcpu_run.proofs.OwnActSends.{SendsAlone, early_srp, knows_phase, knows_still, leaves_none, leaves_put, sends_still}
use Rattle.vcpu_run.proofs.OwnActTaking.{stream_is}
use Rattle.vcpu_run.proofs.PlainAsks.{all_parts}
use Rattle.vcpu_run.proofs.PlainPuts.{LeavesUnit, LeavesWindow, unit_laid}
use Rattle.vcpu_run.proofs.PlainSlots.{entry_srp}
use Rattle.vcpu_run.proofs.PlainUnsent.{none_in_use}

-- What is so of such a call.
pub record Asking (granted : ℕ) (failed : Bool) (d : Doing) (s : ClientState) (old new : Ports) : Type 0 where
  pub sends : SendsAlone d old new
  pub over : IsOver granted failed d s old.crq
  pub settled : IsSettled s
  pub idle : s.login ≡ Idle

-- ---- nothing was done

pub asks_nothing : (granted : ℕ) (failed : Bool) (d : Doing) (s : ClientState) (old new : Ports) → Asking granted failed d s old new → TouchesNone old new → KeepsOver granted failed d s old new
asks_nothing granted failed d s old new at none = record {
  over = over_still granted failed d s old new at.sends.seen at.over
      (leaves_none d old new at.sends (subst IsOwnWindow (sym none.own) at.sends.seen.usable) (ap (λ (end : EndState). end.sent) none.crq)) none.own (sends_still d old new at.sends);
  settled = at.settled;
  idle = at.idle;
}

-- ---- its unit was written

-- What is owed sees of a window: the slots of all that has an answer.
owed_at : (granted : ℕ) (failed : Bool) (d : Doing) (s : ClientState) (old new : Ports) → (at : Asking granted failed d s old new)
    → IsOwed granted d.id old.own s (stream_of s at.over.rest) at.over.answered at.over.lost at.over.answers
owed_at granted failed d s old new at =
    subst (λ (window : PortState). IsOwed granted d.id window s (stream_of s at.over.rest) at.over.answered at.over.lost at.over.answers) at.sends.seen.window at.over.owed

all_apart : (granted : ℕ) (failed : Bool) (d : Doing) (s : ClientState) (old new : Ports) (slot : ℕ) → (at : Asking granted failed d s old new) → IsNextSlot s slot
    → All (λ (one : Ask). one.slot ≢ slot) (at.over.answered ++ at.over.lost)
all_apart granted failed d s old new slot at next =
    slot_apart granted d.id old.own s (stream_of s at.over.rest) at.over.answered at.over.lost at.over.answers slot at.idle next (owed_at granted failed d s old new at)

pub asks_laid : (granted : ℕ) (failed : Bool) (d : Doing) (s : ClientState) (old new : Ports) (slot n : ℕ) → Asking granted failed d s old new → s.granted ≡ Some n → IsNextSlot s slot
    → IsOwnWindow new.own → KeepsSlots (λ other. other ≢ slot) old.own new.own → new.crq.sent ≡ old.crq.sent → KeepsOver granted failed d s old new
asks_laid granted failed d s old new slot n at some next own keeps sent = record {
  over = stays_over granted failed failed d s s old new [] at.sends.seen at.over (leaves_none d old new at.sends own sent) (record {
    answered = at.over.answered;
    lost = at.over.lost;
    answers = at.over.answers;
    rest = at.over.rest;
    come = λ on. at.over.come (sym at.sends.crq.registered ∙ on) ∙ come_still d.sent old.crq new.crq (sends_still d old new at.sends);
    owed = owed_moved granted d.id old.own new.own (λ other. other ≢ slot) s s (stream_of s at.over.rest) (stream_of s at.over.rest) at.over.answered at.over.lost at.over.answers (knows_same s s refl) refl at.idle
        keeps (all_parts (λ (one : Ask). one.slot ≢ slot) at.over.answered at.over.lost (all_apart granted failed d s old new slot at next)).0 (owed_at granted failed d s old new at);
    away = λ off. at.over.away (sym at.sends.crq.registered ∙ off);
    there = λ on. at.over.there (sym at.sends.crq.registered ∙ on);
    took = took_still d.sent old.crq new.crq (sends_still d old new at.sends) at.over.took;
    tabled = at.over.tabled;
    on = λ on. at.over.on (sym at.sends.crq.registered ∙ on);
    phase = knows_still granted failed d s s old.crq new (stream_of s at.over.rest) at.over.answered at.over.answered at.over.lost at.over.lost n at.idle some at.sends.crq.registered at.over.phase;
  });
  settled = at.settled;
  idle = at.idle;
}

-- The unit was written, and its entry was not put, since a queue was closed or full.
pub record LaidAlone (line slot : ℕ) (bytes : List ℕ) (before new : Ports) (why : Refused) : Type 0 where
  pub laid : UnitLaid line slot bytes before new
  pub sent : new.crq.sent ≡ before.crq.sent
  pub tabled : (table : Option Table) → tabled_after why table ≡ None

pub laid_alone : (line slot : ℕ) (bytes : List ℕ) (before new : Ports) (why : Refused) → IsOwnWindow before.own → before.own_shared ≡ false → why ≢ NoMemory
    → WhyNotPut line slot bytes before new why → LaidAlone line slot bytes before new why
laid_alone line slot bytes before new NoMemory own alone memory why_not = absurd (memory refl)
laid_alone line slot bytes before new (InUse page word) own alone memory why_not =
    absurd (none_in_use before.own (slot_address slot) (length bytes) page own (subst (λ shared. FindsInUse shared before.own (slot_address slot) (length bytes) page) alone why_not.1.in_use))
laid_alone line slot bytes before new (Closed control) own alone memory (laid, inl closed) = record { laid = laid; sent = closed.2.sent; tabled = λ table. refl }
laid_alone line slot bytes before new (Closed control) own alone memory (laid, inr back) = record { laid = laid; sent = back.1.none.sent; tabled = λ table. refl }
laid_alone line slot bytes before new (Dropped number held) own alone memory (laid, (on, full)) = record { laid = laid; sent = full.sent; tabled = λ table. refl }
laid_alone line slot bytes before new Range own alone memory why_not = absurd why_not
laid_alone line slot bytes before new NotLoggedIn own alone memory why_not = absurd why_not
laid_alone line slot bytes before new (NoCredit limit) own alone memory why_not = absurd why_not
laid_alone line slot bytes before new (Overlap tag) own alone memory why_not = absurd why_not

-- What is so of what stands before the unit is written: room was made, and what was written lies behind the slots.
pub record BeforeUnit (old before : Ports) : Type 0 where
  pub crq_alone : before.crq_shared ≡ false
  pub own_alone : before.own_shared ≡ false
  pub room : OnlyReserves old.crq before.crq
  pub left : LeavesWindow (λ slot. ⊤) old.own before.own

laid_unit : (line slot : ℕ) (bytes : List ℕ) (old before new : Ports) → BeforeUnit old before → slot ≤ SLOTS → 1 ≤ length bytes → length bytes ≤ 256 → UnitLaid line slot bytes before new
    → LeavesUnit slot bytes old.own new.own
laid_unit line slot bytes old before new room within some few laid =
    let alone : Lays false line (unit_write slot bytes) before.own new.own = subst (λ shared. Lays shared line (unit_write slot bytes) before.own new.own) room.own_alone laid in
    unit_laid line slot bytes old.own before.own new.own room.left within some few alone.0 alone.1

pub asks_unput : (granted : ℕ) (failed : Bool) (d : Doing) (s : ClientState) (old before new : Ports) (line slot n : ℕ) (bytes : List ℕ) (why : Refused) → Asking granted failed d s old new
    → s.granted ≡ Some n → IsNextSlot s slot → BeforeUnit old before → slot ≤ SLOTS → 1 ≤ length bytes → length bytes ≤ 256 → LaidAlone line slot bytes before new why
    → KeepsOver granted failed d s old new
asks_unput granted failed d s old before new line slot n bytes why at some next room within one few alone =
    let unit : LeavesUnit slot bytes old.own new.own = laid_unit line slot bytes old before new room within one few alone.laid in
    asks_laid granted failed d s old new slot n at some next unit.own unit.keeps (alone.sent ∙ room.room.sent)

-- ---- it was put

-- What is so of the client behind that.
pub record AskedOne (granted : ℕ) (s s' : ClientState) (ask : Ask) : Type 0 where
  pub more : AsksMore granted s s' ask
  pub known : (n : ℕ) × (s.granted ≡ Some n)
  pub handshake : s'.handshake ≡ s.handshake
  pub due : s'.due ≡ s.due
  pub kept : s'.kept ≡ s.kept
  pub held : s'.held ≡ s.held
  pub tabled : s'.tabled ≡ None
  pub logout : IfSome s'.granted (λ _. s'.logout ≡ None)

pub asks_put : (granted : ℕ) (failed : Bool) (d : Doing) (s s' : ClientState) (old before new : Ports) (line : ℕ) (ask : Ask) → Asking granted failed d s old new → AskedOne granted s s' ask
    → IsNextSlot s ask.slot → BeforeUnit old before → ask.slot ≤ SLOTS → 1 ≤ length ask.bytes → length ask.bytes ≤ 256 → UnitPut line ask.slot ask.bytes before new
    → KeepsOver granted failed d s' old new
asks_put granted failed d s s' old before new line ask at asked next room within one few put = record {
  over = stays_over granted failed failed d s s' old new (entry ∷ []) at.sends.seen at.over
      (leaves_put d old new before.crq entry at.sends unit.own room.room.sent room.room.place
      (subst (λ shared. SendsEntry shared before.crq entry new.crq put.number) room.crq_alone put.sent).puts) next_over;
  settled = record {
    held = asked.held ∙ at.settled.held;
    kept = subst (All (λ (entry : Entry). is_srp_entry entry ≡ true)) (sym asked.kept) at.settled.kept;
    logout = asked.logout;
  };
  idle = asked.more.login ∙ at.idle;
}
  where
    entry : Entry
    entry = srp_entry (length ask.bytes) (slot_address ask.slot)

    unit : LeavesUnit ask.slot ask.bytes old.own new.own
    unit = laid_unit line ask.slot ask.bytes old before new room within one few put.laid

    on : old.crq.registered ≡ true
    on = sym room.room.registered ∙ put.may.registered

    stream : stream_of s' at.over.rest ≡ stream_of s at.over.rest
    stream = stream_is s' at.over.rest (asked.held ∙ at.settled.held) ∙ ap (λ (kept : List Entry). kept ++ at.over.rest) asked.kept ∙ sym (stream_is s at.over.rest at.settled.held)

    next_over : NextOver granted failed d s' new (entry ∷ [])
    next_over = record {
      answered = at.over.answered;
      lost = at.over.lost ++ ask ∷ [];
      answers = at.over.answers;
      rest = at.over.rest;
      come = λ there. at.over.come on ∙ come_still d.sent old.crq new.crq (sends_still d old new at.sends);
      owed = owed_push granted d.id old.own new.own s s' (stream_of s at.over.rest) (stream_of s' at.over.rest) at.over.answered at.over.lost at.over.answers ask at.idle stream unit.keeps
          (all_apart granted failed d s old new ask.slot at next) asked.more (owed_at granted failed d s old new at);
      away = λ off. absurd (true≢false (sym (at.sends.crq.registered ∙ on) ∙ off));
      there = λ there down. at.over.there on (sym asked.handshake ∙ down);
      took = took_still d.sent old.crq new.crq (sends_still d old new at.sends) at.over.took;
      tabled = asked.tabled;
      on = λ there. at.over.on on;
      phase = subst (λ (list : List Entry). IsPhase granted failed (left_at d new (entry ∷ [])) s' new.crq list at.over.answered (at.over.lost ++ ask ∷ [])) (sym stream)
          (knows_phase granted failed d s s' old.crq new (stream_of s at.over.rest) (entry ∷ []) at.over.answered at.over.answered at.over.lost (at.over.lost ++ ask ∷ []) asked.known.0 asked.known.1 on
          at.sends.crq.registered (early_srp d new entry (entry_srp (length ask.bytes) (slot_address ask.slot) few)) at.over.phase);
    }
