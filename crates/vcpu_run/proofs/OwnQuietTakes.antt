-- A line of a client that takes answers, whose server unit's session is over, or was, and which waits: it did something, where the unit has nothing to
-- do, or the client's queue is full.
use Rattle.std.proofs.Common.{◌≡◌, ◌≢◌, ◌∙◌, ◌⊎◌, inl, inr, ℕ, ◌≤◌, ◌++◌, Bool, true, false, IsSomeAnd, List, [], ◌∷◌, Option, None, Some, append-nil, sym, ap, subst}
use Rattle.vio_num.specs.declared.entry.Entry.{Entry}
use Rattle.vio_num.specs.declared.hypervisor.Moved.TheVariants as moves
use Rattle.crq_session.specs.Answered.{FindsNone}
use Rattle.crq_session.specs.EndState.{EndState, OnlyReserves, OnlyTakes}
use Rattle.srp_iu.specs.declared.unit.TheConstants.{MAX_IU_LEN}
use Rattle.tce_window.specs.PortState.{FindsInUse}
use Rattle.block_server.specs.Doings.{Doing}
use Rattle.block_server.specs.Talk.{to_come}
use Rattle.unit_region.specs.declared.step.Step.TheVariants as steps
use Rattle.vscsi_client.specs.Ports.{Ports}
use Rattle.vscsi_client.specs.Slots.{IsSlotInUse}
use Rattle.vscsi_client.specs.State.{ClientState}
use Rattle.vscsi_client.specs.Taking.{IsNext, PollsEmpty, TakesEntry, slot_of}
use Rattle.vscsi_client.specs.Units.{slot_address}
use Rattle.vscsi_client.specs.declared.answers.Taken.{Taken}
use Rattle.vscsi_client.specs.declared.answers.Taken.TheVariants.{Again, Answer, Empty, Lost, Other, Stray}
use Rattle.vcpu_run.specs.Acts.{Acting, EndsIn, EndsTaking, TakesEach, TakesForLine, took_as}
use Rattle.vcpu_run.specs.OwnActs.{GoesOver, RestsOver}
use Rattle.vcpu_run.specs.OwnQuiets.{HasAll}
use Rattle.vcpu_run.specs.declared.taking.Took.{Took}
use Rattle.vcpu_run.specs.declared.taking.Took.TheVariants as tooks
use Rattle.vcpu_run.proofs.OwnActAlone.{each_alone}
use Rattle.vcpu_run.proofs.OwnActEach.{each_over}
use Rattle.vcpu_run.proofs.OwnActTaking.{coming_is}
use Rattle.vcpu_run.proofs.OwnCalm.{over_calm}
use Rattle.vcpu_run.proofs.OwnQuietEnds.{TookOn, full_took, none_put, took_here, took_more, took_then, work_rests}
use Rattle.vcpu_run.proofs.OwnQuietLogins.{DidNone, UnitWaits}
use Rattle.vcpu_run.proofs.PlainTaking.{empty_come}
use Rattle.vcpu_run.proofs.PlainTurns.{come_same}
use Rattle.vcpu_run.proofs.PlainUnsent.{none_in_use}

-- ---- what was taken

next_took : (shared : Bool) (kept : List Entry) (old new : EndState) (entry : Entry) (rest : List Entry) → OnlyTakes shared old new → IsNext kept shared old entry rest new → TookOn old new
next_took shared [] old new entry rest only next = took_more shared old new _ only (next.1.taken.taken ∙ ap (λ rows. rows ++ record { session = next.1.room.last_session; entry = entry } ∷ []) next.1.ready.taken)
next_took shared (first ∷ more) old new entry rest only next = subst (TookOn old) (sym next.2) (took_here old)

empty_same : (shared : Bool) (old new : EndState) (number : ℕ) → PollsEmpty shared old number new → new.taken ≡ old.taken
empty_same shared old new number polls = by polls.none ∙ polls.ready.taken
  where
    by : FindsNone shared polls.room new number ⊎ ((polls.room.registered ≡ false) × (number ≡ 0) × OnlyReserves polls.room new) → new.taken ≡ polls.room.taken
    by (inl none) = none.taken
    by (inr off) = off.2.taken

empty_took : (shared : Bool) (old new : EndState) (number : ℕ) → OnlyTakes shared old new → PollsEmpty shared old number new → TookOn old new
empty_took shared old new number only polls = took_more shared old new [] only (empty_same shared old new number polls ∙ sym (append-nil old.taken))

entry_took : (s s' : ClientState) (old new : Ports) (taken : Taken) → OnlyTakes old.crq_shared old.crq new.crq → TakesEntry s s' old new taken → TookOn old.crq new.crq
entry_took s s' old new (Empty number) only takes = empty_took old.crq_shared old.crq new.crq number only takes.fetched.none
entry_took s s' old new (Answer tag response) only takes = next_took old.crq_shared s.kept old.crq new.crq takes.fetched.entry takes.fetched.rest only takes.fetched.next
entry_took s s' old new (Stray tag) only takes = next_took old.crq_shared s.kept old.crq new.crq takes.fetched.entry takes.fetched.rest only takes.fetched.next
entry_took s s' old new Lost only takes = next_took old.crq_shared s.kept old.crq new.crq takes.fetched.entry takes.fetched.rest only takes.fetched.next
entry_took s s' old new Other only takes = next_took old.crq_shared s.kept old.crq new.crq takes.fetched.entry takes.fetched.rest only takes.fetched.next
entry_took s s' old new (Again page word) only takes = next_took old.crq_shared s.kept old.crq new.crq takes.fetched.entry takes.fetched.rest only takes.fetched.next

took_each : (entries : List Took) (old new : Acting) → TakesEach entries old new → TookOn old.ports.crq new.ports.crq
took_each [] old new same = subst (λ (a : Acting). TookOn old.ports.crq a.ports.crq) (sym same) (took_here old.ports.crq)
took_each (took ∷ entries) old new (middle, each, once) =
    took_then old.ports.crq middle.ports.crq new.ports.crq (took_each entries old middle each)
    (entry_took middle.client new.client middle.ports new.ports once.taken once.crq once.takes)

-- ---- the last that a line took

-- a page is not in use
unused_last : (granted : ℕ) (d : Doing) (old new : Acting) (entries : List Took) → RestsOver granted false d old → TakesEach entries old new → EndsIn tooks.InUse entries → ⊥
unused_last granted d old new entries rests each ends = by (subst (λ (list : List Took). TakesEach list old new) ends.is each)
  where
    at : (middle : Acting) → GoesOver granted false d old middle → (taken : Taken) → tooks.InUse ≡ took_as taken → TakesEntry middle.client new.client middle.ports new.ports taken → ⊥
    at middle goes (Answer tag response) is takes = cc (is)
    at middle goes (Stray tag) is takes = cc (is)
    at middle goes Lost is takes = cc (is)
    at middle goes Other is takes = cc (is)
    at middle goes (Empty number) is takes = cc (is)
    at middle goes (Again page word) is takes = met (slot_of takes.judged.entry.low takes.kept.outgoing) takes.judged.judged.1
      where
        met : (slot : Option ℕ) → IsSomeAnd slot (λ slot. IsSlotInUse middle.ports.own_shared slot middle.ports.own new.ports.own page) → ⊥
        met None none = none
        met (Some slot) used =
            none_in_use middle.ports.own (slot_address slot) MAX_IU_LEN page goes.over.seen.usable
            (subst (λ b. FindsInUse b middle.ports.own (slot_address slot) MAX_IU_LEN page) goes.over.seen.apart used.in_use)

    by : TakesEach (tooks.InUse ∷ ends.before) old new → ⊥
    by (middle, before, once) = at middle (each_over granted false d ends.before old middle rests (each_alone ends.before old middle before)) once.taken once.is once.takes

-- nothing is to come behind one that found none
none_last : (granted : ℕ) (d : Doing) (old new : Acting) (entries : List Took) → RestsOver granted false d old → old.ports.crq.registered ≡ true → TakesEach entries old new
    → EndsIn tooks.Nothing entries → to_come new.ports.crq ≡ []
none_last granted d old new entries rests there each ends = by (subst (λ (list : List Took). TakesEach list old new) ends.is each)
  where
    at : (middle : Acting) → middle.ports.crq.registered ≡ true → middle.ports.crq_shared ≡ false → OnlyTakes middle.ports.crq_shared middle.ports.crq new.ports.crq → (taken : Taken)
        → tooks.Nothing ≡ took_as taken → TakesEntry middle.client new.client middle.ports new.ports taken → to_come new.ports.crq ≡ []
    at middle on alone only (Answer tag response) is takes = absurd (cc (is))
    at middle on alone only (Stray tag) is takes = absurd (cc (is))
    at middle on alone only Lost is takes = absurd (cc (is))
    at middle on alone only Other is takes = absurd (cc (is))
    at middle on alone only (Again page word) is takes = absurd (cc (is))
    at middle on alone only (Empty number) is takes =
        come_same middle.ports.crq new.ports.crq only.place only.last_session (empty_same middle.ports.crq_shared middle.ports.crq new.ports.crq number takes.fetched.none)
        ∙ empty_come middle.ports.crq new.ports.crq number on (subst (λ b. PollsEmpty b middle.ports.crq number new.ports.crq) alone takes.fetched.none)

    by : TakesEach (tooks.Nothing ∷ ends.before) old new → to_come new.ports.crq ≡ []
    by (middle, before, once) =
        at middle ((took_each ends.before old middle before).stays there).0
        (each_over granted false d ends.before old middle rests (each_alone ends.before old middle before)).over.seen.alone once.crq once.taken once.is once.takes

-- ---- the line

pub takes_calm : (granted count first taken : ℕ) (d : Doing) (old new : Acting) → RestsOver granted false d old → old.ports.crq.registered ≡ true → UnitWaits d old.ports.crq
    → 1 ≤ old.ports.crq.place.own_slots → DidNone old.ports.crq new.ports.crq → TakesForLine count first taken old new (steps.Waits moves.Quiet) → ⊥
takes_calm granted count first taken d old new rests there waits slots none takes = by takes.ends
  where
    goes : GoesOver granted false d old new
    goes = each_over granted false d takes.entries old new rests (each_alone takes.entries old new takes.each)

    took : TookOn old.ports.crq new.ports.crq
    took = took_each takes.entries old new takes.each

    left : to_come new.ports.crq ≡ [] → new.client.outgoing ≢ [] → UnitWaits d old.ports.crq → ⊥
    left come some (inr full) = full_took old.ports.crq new.ports.crq took full.0 full.1 slots come none.taken
    left come some (inl (work, room)) = some calm.aware.outgoing
      where
        put : goes.over.rests.entries ≡ []
        put = none_put d goes.over.left old.ports new.ports goes.over.rests none.put

        calm : HasAll new.client
        calm = over_calm granted false goes.over.left new.client new.ports.crq (work_rests d goes.over.left old.ports new.ports goes.over.rests put work) (took.stays there).0 goes.settled.kept
            goes.settled.held (coming_is goes.over.left.sent new.ports.crq goes.over.seen.received ∙ come) goes.over.over

    by : EndsTaking count taken old.ports.crq.place.own_slots takes.entries new.client (steps.Waits moves.Quiet) → ⊥
    by (inl used) = unused_last granted d old new takes.entries rests takes.each used
    by (inr (inl (nothing, some))) = left (none_last granted d old new takes.entries rests there takes.each nothing) some waits
    by (inr (inr (all, moved))) = cc (moved)
