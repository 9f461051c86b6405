-- An own client at its pair, its server unit's session being over, or having been: none of its lines waits in a turn in which nothing was done, where the
-- server unit waits.
use Rattle.std.proofs.Common.{◌≡◌, ◌≢◌, ◌∙◌, inl, inr, ℕ, ◌≤◌, ◌==◌, Bool, true, false, true≢false, List, [], ◌∷◌, Option, Some, arith, drop, length, refl, sym, ap, subst}
use Rattle.std.specs.Borrow.{GName}
use Rattle.boot_text.specs.declared.plan.Line.{Line}
use Rattle.boot_text.specs.declared.verb.Verb.{Verb}
use Rattle.boot_text.specs.declared.verb.Verb.TheVariants as verbs
use Rattle.vio_num.specs.declared.entry.Entry.{Entry}
use Rattle.vio_num.specs.declared.hypervisor.Moved.TheVariants as moves
use Rattle.crq_ring.specs.Pipe.{IsLawfulPipe}
use Rattle.crq_session.specs.Answered.{received_now, taken_now}
use Rattle.crq_session.specs.EndState.{EndState}
use Rattle.crq_session.specs.PlainState.{end_of, side_of}
use Rattle.block_server.specs.Talk.{to_come}
use Rattle.block_server.specs.declared.unit.Unit.{Unit}
use Rattle.unit_region.specs.declared.step.Step.TheVariants as steps
use Rattle.vscsi_client.specs.State.{ClientState}
use Rattle.vcpu_run.specs.Acts.{ActsFor, LogsInOnce, ResetsFirst, site_of}
use Rattle.vcpu_run.specs.ActsAt.{IsUnmoved, acting_at}
use Rattle.vcpu_run.specs.Credited.{Ended, taken_in}
use Rattle.vcpu_run.specs.Links.{ServerWaits, link_state}
use Rattle.vcpu_run.specs.OwnPairs.{ComesOver, IsMidLogin, IsOverOwn, RestsIdle, StandsOver, doing_of}
use Rattle.vcpu_run.specs.PlainPairs.{ServerBooks}
use Rattle.vcpu_run.specs.PlainScripts.{OfUnit, awaits}
use Rattle.vcpu_run.specs.Works.{fails}
use Rattle.vcpu_run.specs.declared.driver.Driver.{Driver}
use Rattle.vcpu_run.specs.declared.pair.Pair.{Pair}
use Rattle.vcpu_run.specs.declared.script.Progress.{Progress}
use Rattle.vcpu_run.specs.declared.script.Progress.TheVariants as progress
use Rattle.vcpu_run.proofs.OwnActOwn.{over_by, rests_at, seen_by}
use Rattle.vcpu_run.proofs.OwnQuietLogins.{UnitWaits, logs_calm}
use Rattle.vcpu_run.proofs.OwnQuietTakes.{takes_calm}
use Rattle.vcpu_run.proofs.RejoinLines.{room_in}
use Rattle.vcpu_run.proofs.RejoinLogins.{BeginsIn}

-- ---- the unit waits

none_left : (xs : List Entry) → drop (length xs) xs ≡ []
none_left [] = refl
none_left (x ∷ xs) = none_left xs

none_come : (end : EndState) → received_now end ≡ taken_now end → to_come end ≡ []
none_come end all = ap (λ (list : List Entry). drop (length (taken_now end)) list) all ∙ none_left (taken_now end)

-- as its pair shows it
pub waits_at : (names : List GName) (home k : ℕ) (books : ServerBooks) (unit : Unit) (pair : Pair) → 1 ≤ (end_of [] pair.link true).place.own_slots → ServerWaits (Some unit) (link_state pair.link)
    → UnitWaits (doing_of unit home k books pair) (end_of names pair.link false)
waits_at names home k books unit pair slots (inl full) = inr (full.registered, full.full)
waits_at names home k books unit pair slots (inr (emptied, nothing)) = inl (
  record {
    going = nothing.going;
    coming = none_come (end_of [] pair.link true) emptied.taken;
    pending = nothing.pending;
    kept = nothing.kept;
  },
  record { taken = ap (λ (list : List Entry). length list) emptied.taken; slots = slots },
)

-- ---- a line that logs in

begins_at : (names : List GName) (granted : ℕ) (told : List Ended) (home u k : ℕ) (books : ServerBooks) (line : Option Line) (p : Progress) (unit : Unit) (a : Driver) (pair : Pair)
    → IsLawfulPipe (side_of pair.link false).queue → IsMidLogin a.client → IsOverOwn granted false told home u k books line p unit a pair
    → BeginsIn true granted (doing_of unit home k books pair) (site_of (acting_at names a pair))
begins_at names granted told home u k books line p unit a pair lawful mid is = record {
  seen = seen_by [] names (doing_of unit home k books pair) pair is.seen;
  over = over_by [] names granted false (doing_of unit home k books pair) a.client pair is.seen is.over;
  fewer = λ one. refl;
  settled = mid.settled;
  room = λ there. room_in (end_of names pair.link false) (lawful.handed (side_of pair.link false).queue.session);
}

login_waits : (names : List GName) (granted number : ℕ) (told : List Ended) (home u k : ℕ) (books : ServerBooks) (line : Option Line) (p : Progress) (unit : Unit) (a b : Driver) (old new : Pair)
    → IsLawfulPipe (side_of old.link false).queue → IsMidLogin a.client → IsOverOwn granted false told home u k books line p unit a old → ServerWaits (Some unit) (link_state old.link)
    → IsUnmoved old new → LogsInOnce number (acting_at names a old) (acting_at names b new) (steps.Waits moves.Quiet) → ⊥
login_waits names granted number told home u k books line p unit a b old new lawful mid is waits still logs =
    logs_calm granted number (doing_of unit home k books old) (acting_at names a old) (acting_at names b new) moves.Quiet
    (begins_at names granted told home u k books line p unit a old lawful mid is) mid.due (waits_at names home k books unit old (omega (arith, is.server_slots)) waits) (omega (arith, is.own_slots))
    (record { put = still.put; taken = still.taken }) logs

-- ---- a reset

-- before its queue was freed it rests
comes_unfreed : (p : Progress) (s : ClientState) (own : EndState) → p ≢ progress.Freed → ComesOver verbs.Reset p s own → RestsIdle s × (own.registered ≡ true)
comes_unfreed progress.Freed s own unfreed comes = absurd (unfreed refl)
comes_unfreed p s own unfreed comes = comes

reset_waits : (names : List GName) (granted number : ℕ) (told : List Ended) (home u k : ℕ) (books : ServerBooks) (line : Option Line) (p p' : Progress) (unit : Unit) (a b : Driver) (old new : Pair)
    → IsLawfulPipe (side_of old.link false).queue → ComesOver verbs.Reset p a.client (end_of [] old.link false) → IsOverOwn granted false told home u k books line p unit a old
    → ServerWaits (Some unit) (link_state old.link) → IsUnmoved old new
    → ActsFor number verbs.Reset p p' (acting_at names a old) (acting_at names b new) (steps.Waits moves.Quiet) → ⊥
reset_waits names granted number told home u k books line p p' unit a b old new lawful comes is waits still (inl (freed, logs, now)) =
    login_waits names granted number told home u k books line p unit a b old new lawful (subst (λ (q : Progress). ComesOver verbs.Reset q a.client (end_of [] old.link false)) freed comes) is waits still logs
reset_waits names granted number told home u k books line p p' unit a b old new lawful comes is waits still (inr (unfreed, first)) = by first
  where
    on : (end_of [] old.link false).registered ≡ true
    on = (comes_unfreed p a.client (end_of [] old.link false) unfreed comes).1

    by : ResetsFirst number p p' (acting_at names a old) (acting_at names b new) (steps.Waits moves.Quiet) → ⊥
    by (inl (frees, now, moved)) = cc (moved)
    by (inr (inl (logs, now))) = true≢false (sym (logs.ready.registered ∙ on) ∙ logs.unregistered)
    by (inr (inr (used, now, waiting))) = true≢false (sym used.used.shared_end)

-- ---- any line that may wait

verb_waits : (names : List GName) (granted number : ℕ) (told : List Ended) (home u k : ℕ) (books : ServerBooks) (line : Option Line) (verb : Verb) (p p' : Progress) (unit : Unit) (a b : Driver)
    (old new : Pair) → awaits verb ≡ true → IsLawfulPipe (side_of old.link false).queue → ComesOver verb p a.client (end_of [] old.link false)
    → IsOverOwn granted false told home u k books line p unit a old → ServerWaits (Some unit) (link_state old.link) → IsUnmoved old new
    → ActsFor number verb p p' (acting_at names a old) (acting_at names b new) (steps.Waits moves.Quiet) → ⊥
verb_waits names granted number told home u k books line verbs.Login p p' unit a b old new awaiting lawful comes is waits still acts =
    login_waits names granted number told home u k books line p unit a b old new lawful comes is waits still acts
verb_waits names granted number told home u k books line verbs.Reset p p' unit a b old new awaiting lawful comes is waits still acts =
    reset_waits names granted number told home u k books line p p' unit a b old new lawful comes is waits still acts
verb_waits names granted number told home u k books line (verbs.Take count) p p' unit a b old new awaiting lawful comes is waits still acts =
    takes_calm granted count (taken_in p) (taken_in p') (doing_of unit home k books old) (acting_at names a old) (acting_at names b new)
    (rests_at names granted false told home u k books line p unit a old is comes.0) comes.1 (waits_at names home k books unit old (omega (arith, is.server_slots)) waits) (omega (arith, is.own_slots))
    (record { put = still.put; taken = still.taken }) acts
verb_waits names granted number told home u k books line verb p p' unit a b old new awaiting lawful comes is waits still acts = absurd (true≢false (sym awaiting))

-- one that may wait does not fail its partition
awaits_goes : (verb : Verb) → awaits verb ≡ true → fails verb ≡ true → ⊥
awaits_goes verbs.Fail awaiting failing = true≢false (sym awaiting)
awaits_goes verb awaiting failing = true≢false (sym failing)

-- An own client's line does not wait in a turn in which nothing was done.
pub over_none_waits : (names : List GName) (granted : ℕ) (failed : Bool) (told : List Ended) (home u k : ℕ) (books : ServerBooks) (line : Line) (p p' : Progress) (unit : Unit) (a b : Driver)
    (old new : Pair) → (line.unit == u) ≡ true → awaits line.verb ≡ true → IsLawfulPipe (side_of old.link false).queue → IsOverOwn granted failed told home u k books (Some line) p unit a old
    → ServerWaits (Some unit) (link_state old.link) → IsUnmoved old new
    → ActsFor line.number line.verb p p' (acting_at names a old) (acting_at names b new) (steps.Waits moves.Quiet) → ⊥
over_none_waits names granted failed told home u k books line p p' unit a b old new own awaiting lawful is waits still acts = by is.stands
  where
    at : (f : Bool) → f ≡ false → IsOverOwn granted f told home u k books (Some line) p unit a old → ComesOver line.verb p a.client (end_of [] old.link false) → ⊥
    at f going is comes =
        verb_waits names granted line.number told home u k books (Some line) line.verb p p' unit a b old new awaiting lawful comes
        (subst (λ (g : Bool). IsOverOwn granted g told home u k books (Some line) p unit a old) going is) waits still acts

    by : StandsOver u failed (Some line) p a.client (end_of [] old.link false) → ⊥
    by (inl (going, comes)) =
        at failed going is
        (subst (λ (mine : Bool). OfUnit mine (ComesOver line.verb p a.client (end_of [] old.link false)) (RestsIdle a.client × ((end_of [] old.link false).registered ≡ true))) own comes)
    by (inr (failing, fails_is, rests)) = awaits_goes line.verb awaiting fails_is
