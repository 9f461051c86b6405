-- That the queues of clients are held, over what is done at the pairs and as lines go on and end.
use Rattle.std.proofs.Common.{◌≡◌, ◌∙◌, ◌⊎◌, inl, inr, ℕ, ◌==◌, ◌&&◌, ◌||◌, ◌≤◌, Bool, true, false, List, Option, Some, None, Ok, IfSome, IsSomeAnd, ◌≢◌, slice_get, slice_set, refl, sym, ap, subst, eqb-true, arith}
use Rattle.std.specs.Prelude.{⊤}
use Rattle.vio_num.specs.declared.hypervisor.Moved.{Moved}
use Rattle.vio_num.specs.declared.hypervisor.Moved.TheVariants.{Quiet}
use Rattle.boot_text.specs.declared.plan.Line.{Line}
use Rattle.boot_text.specs.declared.verb.Verb.{Verb}
use Rattle.boot_text.specs.declared.verb.Verb.TheVariants as verbs
use Rattle.vio_trace.specs.declared.outcome.Outcome.{Outcome}
use Rattle.lan_script.specs.declared.seat.PortSeat.{PortSeat}
use Rattle.unit_region.specs.declared.step.Step.TheVariants as steps
use Rattle.vcpu_run.specs.declared.pair.Pair.{Pair}
use Rattle.vcpu_run.specs.declared.script.Progress.{Progress}
use Rattle.vcpu_run.specs.declared.script.Script.{Script}
use Rattle.vcpu_run.specs.declared.unit_seat.Seat.TheVariants as sits
use Rattle.vcpu_run.specs.Agreed.{SameElse}
use Rattle.vcpu_run.specs.Freed.{FreesNoneIf, IsNotFreed}
use Rattle.vcpu_run.specs.Freeing.{IsSpared, NoneBreaks, breaks, is_reset}
use Rattle.vcpu_run.specs.Holding.{HasServersBefore, HoldsQueue, IsHeldOff, IsRegistered, LeavesResetOpen, IsResetOpen, IsBehindServers, KeepQueues, KeepsQueues, LineOpen, StepsOpen, is_renewed}
use Rattle.vcpu_run.specs.Links.{AreClosed, links_of}
use Rattle.vcpu_run.specs.Machines.{AreScripts}
use Rattle.vcpu_run.specs.Scripts.{AreSeats, OnlyRuns, are_servers}
use Rattle.vcpu_run.specs.Suited.{is_call}
use Rattle.vcpu_run.specs.Telling.{is_freed}
use Rattle.vcpu_run.specs.Works.{fails}
use Rattle.crq_session.specs.PlainState.{side_of}
use Rattle.std.proofs.lemmas.Option.{slice_get_within}
use Rattle.vcpu_run.proofs.Announcing.{both_bools}
use Rattle.vcpu_run.proofs.Driving.{get_set_other, get_set_same, same_or, some_is}
use Rattle.vcpu_run.proofs.Crediting.{one_seat}
use Rattle.vcpu_run.proofs.Homes.{all_at}
use Rattle.vcpu_run.proofs.Listed.{each_set}
use Rattle.vcpu_run.proofs.Scripted.{seats_apart}

-- whether the current line is a reset of this unit
abbrev resets : (unit : ℕ) → Line → Bool
resets unit line = is_reset line.verb && (line.unit == unit)

-- a queue that no line freed
kept : (renewed : Bool) (found : Option Pair) → renewed ≡ false → HoldsQueue renewed found → IfSome found IsNotFreed
kept renewed found none (inl is) = absurd (both_bools renewed is none)
kept renewed found none (inr keep) = keep

and_false : (a b : Bool) → a ≡ false → (a && b) ≡ false
and_false false b is = refl
and_false true b is = cc

and_true : (a b : Bool) → a ≡ true → b ≡ true → (a && b) ≡ true
and_true true true x y = refl
and_true true false x y = y
and_true false b x y = x

first_true : (a b : Bool) → (a && b) ≡ true → (a ≡ true) × (b ≡ true)
first_true true b is = (refl, is)
first_true false b is = absurd (cc)

or_false : (a b : Bool) → a ≡ false → b ≡ false → (a || b) ≡ false
or_false false b x y = y
or_false true b x y = x

front_false : (a b : Bool) → (a || b) ≡ false → a ≡ false
front_false false b is = refl
front_false true b is = is

back_false : (a b : Bool) → (a || b) ≡ false → b ≡ false
back_false false b is = is
back_false true b is = absurd (cc)

true_or : (b : Bool) → (b ≡ true) ⊎ (b ≡ false)
true_or true = inl refl
true_or false = inr refl

renewed_is : (unit : ℕ) (p : Progress) (line : Line) (o : Option Line) → o ≡ Some line → is_renewed unit p o ≡ (resets unit line && is_freed p)
renewed_is unit p line o found = ap (is_renewed unit p) found

-- the queue of a unit that this line does not reset
spared_held : (old new : List Pair) (script : Script) (line : Line) (unit k : ℕ) → slice_get script.lines.now script.at ≡ Some line
    → AreSeats script.partition script.seats.items old → FreesNoneIf (IsSpared script.seats.items line) old new
    → NoneBreaks script.lines.now → slice_get script.seats.items unit ≡ Some (sits.Client k) → resets unit line ≡ false
    → KeepsQueues old script → IfSome (slice_get new k) IsNotFreed
spared_held old new script line unit k found are turn none at other keep =
    turn k
    (λ u too. or_false (is_call line.verb || fails line.verb) (resets u line) (all_at (λ (l : Line). breaks l.verb ≡ false) script.lines.now script.at line none found)
    (ap (λ n. resets n line) (one_seat script.partition u unit k script.seats.items old are too at) ∙ other))
    (kept (is_renewed unit script.progress (slice_get script.lines.now script.at)) (slice_get old k)
    (renewed_is unit script.progress line (slice_get script.lines.now script.at) found ∙ and_false (resets unit line) (is_freed script.progress) other)
    (keep none unit k at))

-- where a reset sits
reset_at : (script : Script) (line : Line) (unit k : ℕ) → slice_get script.seats.items unit ≡ Some (sits.Client k) → (line.unit == unit) ≡ true
    → slice_get script.seats.items line.unit ≡ Some (sits.Client k)
reset_at script line unit k at same = ap (λ n. slice_get script.seats.items n) (eqb-true line.unit unit same) ∙ at

-- the current line is to be gone on with
pub waits_held : (old new : List Pair) (script : Script) (p' : Progress) (line : Line) (did : Moved) → slice_get script.lines.now script.at ≡ Some line
    → AreSeats script.partition script.seats.items old → FreesNoneIf (IsSpared script.seats.items line) old new
    → (is_call line.verb ≡ false → LineOpen script.seats.items line p' old new (Ok (steps.Waits did)))
    → KeepsQueues old script → KeepsQueues new (record script { progress = p' })
waits_held old new script p' line did found are turn opens keep none unit k at = by (true_or (resets unit line))
  where
    no_call : is_call line.verb ≡ false
    no_call = front_false (is_call line.verb) (fails line.verb) (all_at (λ (l : Line). breaks l.verb ≡ false) script.lines.now script.at line none found)

    freed : (o : Option Pair) → slice_get new k ≡ o → (resets unit line ≡ true) → HoldsQueue (is_renewed unit p' (slice_get script.lines.now script.at)) o
    freed None e is = inr tt
    freed (Some pair) e is =
        let both = first_true (is_reset line.verb) (line.unit == unit) is in
        let now : is_freed p' ≡ true =
        (subst (λ (o : Option Pair). IfSome o (λ pair. StepsOpen line.verb p' (IsSomeAnd (slice_get (links_of old) k) IsHeldOff) (side_of pair.link false).registered (Ok (steps.Waits did)))) e
        (opens no_call k (reset_at script line unit k at both.1)) both.0).freed in
        inl (renewed_is unit p' line (slice_get script.lines.now script.at) found ∙ and_true (resets unit line) (is_freed p') is now)

    by : (resets unit line ≡ true) ⊎ (resets unit line ≡ false) → HoldsQueue (is_renewed unit p' (slice_get script.lines.now script.at)) (slice_get new k)
    by (inl is) = freed (slice_get new k) refl is
    by (inr other) = inr (spared_held old new script line unit k found are turn none at other keep)

-- the current line ended
pub ends_held : (old new : List Pair) (script done : Script) (p' : Progress) (line : Line) (outcome : Outcome) → slice_get script.lines.now script.at ≡ Some line
    → AreSeats script.partition script.seats.items old → FreesNoneIf (IsSpared script.seats.items line) old new
    → (is_call line.verb ≡ false → LineOpen script.seats.items line p' old new (Ok (steps.Ends outcome)))
    → done.lines ≡ script.lines → done.seats ≡ script.seats → KeepsQueues old script → KeepsQueues new done
ends_held old new script done p' line outcome found are turn opens lines seats keep none' unit k at' = inr (by (true_or (resets unit line)))
  where
    none : NoneBreaks script.lines.now
    none = subst (λ ls. NoneBreaks ls.now) lines none'

    at : slice_get script.seats.items unit ≡ Some (sits.Client k)
    at = subst (λ ss. slice_get ss.items unit ≡ Some (sits.Client k)) seats at'

    no_call : is_call line.verb ≡ false
    no_call = front_false (is_call line.verb) (fails line.verb) (all_at (λ (l : Line). breaks l.verb ≡ false) script.lines.now script.at line none found)

    opened : (o : Option Pair) → slice_get new k ≡ o → (resets unit line ≡ true) → IfSome o IsNotFreed
    opened None e is = tt
    opened (Some pair) e is = λ some.
        let both = first_true (is_reset line.verb) (line.unit == unit) is in
        subst (λ (o : Option Pair). IfSome o (λ pair. is_reset line.verb ≡ true → IsRegistered pair)) e (opens no_call k (reset_at script line unit k at both.1)) both.0

    by : (resets unit line ≡ true) ⊎ (resets unit line ≡ false) → IfSome (slice_get new k) IsNotFreed
    by (inl is) = opened (slice_get new k) refl is
    by (inr other) = spared_held old new script line unit k found are turn none at other keep

-- a line that waited ended, and did nothing
pub waited_held : (pairs : List Pair) (script done : Script) (line : Line) (outcome : Outcome) → slice_get script.lines.now script.at ≡ Some line
    → AreSeats script.partition script.seats.items pairs → IsResetOpen pairs script → done.lines ≡ script.lines → done.seats ≡ script.seats
    → KeepsQueues pairs script → KeepsQueues pairs done
waited_held pairs script done line outcome found are opens lines seats keep none' =
    ends_held pairs pairs script done script.progress line outcome found are (λ k spared held. held) (λ no k at. here k at (slice_get pairs k) refl) lines seats keep none'
  where
    none : NoneBreaks script.lines.now
    none = subst (λ ls. NoneBreaks ls.now) lines none'

    here : (k : ℕ) → slice_get script.seats.items line.unit ≡ Some (sits.Client k) → (o : Option Pair) → slice_get pairs k ≡ o
        → IfSome o (λ pair. is_reset line.verb ≡ true → IsRegistered pair)
    here k at None e = tt
    here k at (Some pair) e = λ reset. subst (λ (o : Option Pair). IfSome o IsRegistered) e (opens none line k found reset at)

-- the current line did nothing, and is to be gone on with
pub waits_open : (old new : List Pair) (script : Script) (p' : Progress) (line : Line) → slice_get script.lines.now script.at ≡ Some line
    → (is_call line.verb ≡ false → LineOpen script.seats.items line p' old new (Ok (steps.Waits Quiet))) → LeavesResetOpen old new (record script { progress = p' })
waits_open old new script p' line found opens none l k next reset seated = by (slice_get new k) refl
  where
    same : l ≡ line
    same = some_is l line (sym next ∙ found)

    no_call : is_call line.verb ≡ false
    no_call = front_false (is_call line.verb) (fails line.verb) (all_at (λ (l : Line). breaks l.verb ≡ false) script.lines.now script.at line none found)

    here : slice_get script.seats.items line.unit ≡ Some (sits.Client k)
    here = subst (λ (x : Line). slice_get script.seats.items x.unit ≡ Some (sits.Client k)) same seated

    by : (o : Option Pair) → slice_get new k ≡ o → IfSome (slice_get new k) IsRegistered ⊎ IsSomeAnd (slice_get (links_of old) k) IsHeldOff
    by None e = inl (subst (λ (o : Option Pair). IfSome o IsRegistered) (sym e) tt)
    by (Some pair) e = at
        ((subst (λ (o : Option Pair). IfSome o (λ pair. StepsOpen line.verb p' (IsSomeAnd (slice_get (links_of old) k) IsHeldOff) (side_of pair.link false).registered (Ok (steps.Waits Quiet)))) e
        (opens no_call k here) (subst (λ (x : Line). is_reset x.verb ≡ true) same reset)).quiet refl)
      where
        at : ((side_of pair.link false).registered ≡ true) ⊎ IsSomeAnd (slice_get (links_of old) k) IsHeldOff
            → IfSome (slice_get new k) IsRegistered ⊎ IsSomeAnd (slice_get (links_of old) k) IsHeldOff
        at (inl on) = inl (subst (λ (o : Option Pair). IfSome o IsRegistered) (sym e) on)
        at (inr held) = inr held

-- a line that is no reset, and no line
pub other_held : (old new : List Pair) (script : Script) (line : Line) → slice_get script.lines.now script.at ≡ Some line → is_reset line.verb ≡ false
    → LeavesResetOpen old new script
other_held old new script line found other none l k next reset sits =
    absurd (both_bools (is_reset line.verb) (subst (λ (x : Line). is_reset x.verb ≡ true) (some_is l line (sym next ∙ found)) reset) other)

pub none_held : (old new : List Pair) (script : Script) → slice_get script.lines.now script.at ≡ None → LeavesResetOpen old new script
none_held old new script over none l k next reset sits = absurd (some_none (sym over ∙ next))
  where
    some_none : None ≡ Some l → ⊥
    some_none e = cc

-- the links were as before
pub still_held : (a b c : List Pair) (script : Script) → links_of b ≡ links_of a → LeavesResetOpen b c script → LeavesResetOpen a c script
still_held a b c script same held none line k next reset sits = at (held none line k next reset sits)
  where
    at : IfSome (slice_get c k) IsRegistered ⊎ IsSomeAnd (slice_get (links_of b) k) IsHeldOff → IfSome (slice_get c k) IsRegistered ⊎ IsSomeAnd (slice_get (links_of a) k) IsHeldOff
    at (inl on) = inl on
    at (inr off) = inr (subst (λ links. IsSomeAnd (slice_get links k) IsHeldOff) same off)

-- a line that fails the partition
pub fails_held : (new : List Pair) (script done : Script) (line : Line) → slice_get script.lines.now script.at ≡ Some line → fails line.verb ≡ true
    → done.lines ≡ script.lines → KeepsQueues new done
fails_held new script done line found failing lines none unit k at =
    absurd (both_bools (fails line.verb) failing
    (back_false (is_call line.verb) (fails line.verb)
    (all_at (λ (l : Line). breaks l.verb ≡ false) script.lines.now script.at line (subst (λ ls. NoneBreaks ls.now) lines none) found)))

-- a turn that frees no queue
pub turned_held : (old new : List Pair) (script : Script) → FreesNoneIf (λ _. ⊤) old new → KeepsQueues old script → KeepsQueues new script
turned_held old new script turn keep none unit k at = by (keep none unit k at)
  where
    by : HoldsQueue (is_renewed unit script.progress (slice_get script.lines.now script.at)) (slice_get old k)
        → HoldsQueue (is_renewed unit script.progress (slice_get script.lines.now script.at)) (slice_get new k)
    by (inl is) = inl is
    by (inr held) = inr (turn k tt held)

pub queues_served : (old new : List Pair) (scripts : List Script) → FreesNoneIf (λ _. ⊤) old new → KeepQueues old scripts → KeepQueues new scripts
queues_served old new scripts turn keep i script found served = turned_held old new script turn (keep i script found served)

-- the scripts of server units stay so
pub servers_before : (scripts : List Script) (i n : ℕ) (script later : Script) → slice_get scripts i ≡ Some script → OnlyRuns script later
    → HasServersBefore n (slice_set scripts i later) → HasServersBefore n scripts
servers_before scripts i n script later found rest before = (before.0, before.1, at (same_or before.0 i))
  where
    at : (before.0 ≡ i) ⊎ (before.0 ≢ i) → IsSomeAnd (slice_get scripts before.0) (λ s. are_servers s.seats.items ≡ true)
    at (inl e) =
        let now : slice_get (slice_set scripts i later) before.0 ≡ Some later =
        ap (λ m. slice_get (slice_set scripts i later) m) e ∙ get_set_same scripts i later (slice_get_within scripts i script found) in
        let of : are_servers later.seats.items ≡ true = subst (λ o. IsSomeAnd o (λ s. are_servers s.seats.items ≡ true)) now before.2 in
        subst (λ o. IsSomeAnd o (λ s. are_servers s.seats.items ≡ true)) (sym (ap (λ m. slice_get scripts m) e ∙ found))
        (subst (λ ss. are_servers ss.items ≡ true) rest.seats of)
    at (inr apart) = subst (λ o. IsSomeAnd o (λ s. are_servers s.seats.items ≡ true)) (get_set_other scripts i before.0 later apart) before.2

pub served_before : (scripts : List Script) (i j : ℕ) (script later other : Script) → slice_get scripts i ≡ Some script → OnlyRuns script later
    → IsBehindServers j other (slice_set scripts i later) → IsBehindServers j other scripts
served_before scripts i j script later other found rest served = record {
  others = served.others;
  servers = servers_before scripts i j script later found rest served.servers;
}

served_as : (i : ℕ) (script later : Script) (scripts : List Script) → OnlyRuns script later → IsBehindServers i later scripts → IsBehindServers i script scripts
served_as i script later scripts rest served = record {
  others = subst (λ ss. are_servers ss.items ≡ false) rest.seats served.others;
  servers = served.servers;
}

-- a turn of one script
pub queues_turned : (old new : List Pair) (ports : List PortSeat) (scripts : List Script) (i : ℕ) (script later : Script) → slice_get scripts i ≡ Some script
    → AreScripts old ports scripts → SameElse script.seats.items old new → OnlyRuns script later
    → (IsBehindServers i script scripts → KeepsQueues old script → KeepsQueues new later)
    → KeepQueues old scripts → KeepQueues new (slice_set scripts i later)
queues_turned old new ports scripts i script later found are others rest turn keep =
    each_set (λ j other. IsBehindServers j other (slice_set scripts i later) → KeepsQueues new other) scripts i later
    (λ j other there apart served none unit k at.
    subst (HoldsQueue (is_renewed unit other.progress (slice_get other.lines.now other.at)))
    (sym (others k (λ u too. apart (seats_apart old ports scripts are j i unit u k other script there found at too).0)))
    (keep j other there (served_before scripts i j script later other found rest served) none unit k at))
    (λ served.
    let before = served_as i script later scripts rest (served_before scripts i i script later later found rest served) in turn before (keep i script found before))

-- before the first turn
none_freed : (pairs : List Pair) → AreClosed pairs → (k : ℕ) → IfSome (slice_get pairs k) IsNotFreed
none_freed pairs closed k = at (slice_get pairs k) refl
  where
    never : (n : ℕ) → n ≡ 0 → 1 ≤ n → ⊥
    never n e some = omega (arith, e, some)

    at : (o : Option Pair) → slice_get pairs k ≡ o → IfSome o IsNotFreed
    at None e = tt
    at (Some pair) e = λ some. absurd (never _ (closed k pair e).never some)

pub queues_fresh : (pairs : List Pair) (scripts : List Script) → AreClosed pairs → KeepQueues pairs scripts
queues_fresh pairs scripts closed i script found served none unit k at = inr (none_freed pairs closed k)

-- once no line is left
pub over_held : (pairs : List Pair) (script : Script) (unit k : ℕ) → slice_get script.lines.now script.at ≡ None → NoneBreaks script.lines.now
    → slice_get script.seats.items unit ≡ Some (sits.Client k) → KeepsQueues pairs script → IfSome (slice_get pairs k) IsNotFreed
over_held pairs script unit k over none at keep =
    kept (is_renewed unit script.progress (slice_get script.lines.now script.at)) (slice_get pairs k) (ap (is_renewed unit script.progress) over) (keep none unit k at)

-- a line that fails the partition is no reset
pub fails_reset : (verb : Verb) → fails verb ≡ true → is_reset verb ≡ false
fails_reset verbs.Login is = absurd (cc)
fails_reset verbs.Reset is = absurd (cc)
fails_reset verbs.Logout is = absurd (cc)
fails_reset verbs.Tur is = absurd (cc)
fails_reset (verbs.Read lba blocks at pieces table) is = absurd (cc)
fails_reset (verbs.Write lba blocks at pieces table) is = absurd (cc)
fails_reset (verbs.Command cdb) is = absurd (cc)
fails_reset (verbs.CommandIn cdb at len pieces table) is = absurd (cc)
fails_reset (verbs.CommandOut cdb at len pieces table) is = absurd (cc)
fails_reset (verbs.Task function of) is = absurd (cc)
fails_reset (verbs.Take count) is = absurd (cc)
fails_reset (verbs.Data of) is = absurd (cc)
fails_reset verbs.Open is = absurd (cc)
fails_reset verbs.Close is = absurd (cc)
fails_reset (verbs.Post at len count) is = absurd (cc)
fails_reset (verbs.Send to len seed at) is = absurd (cc)
fails_reset (verbs.ChangeMac own) is = absurd (cc)
fails_reset (verbs.Multicast control group) is = absurd (cc)
fails_reset (verbs.Fill at len seed) is = absurd (cc)
fails_reset (verbs.Poke at bytes) is = absurd (cc)
fails_reset (verbs.Peek at len) is = absurd (cc)
fails_reset (verbs.Tce entry page readable writable) is = absurd (cc)
fails_reset (verbs.Hcall number arguments) is = absurd (cc)
fails_reset verbs.Fail is = refl
