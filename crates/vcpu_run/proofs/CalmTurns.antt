-- The events of clients, seen from their pairs, as turns go on.
use Rattle.std.proofs.Common.{◌≡◌, ◌≢◌, ◌⊎◌, inl, inr, ℕ, ◌+◌, ◌≤◌, Bool, true, false, cond, List, [], Option, Some, slice_get, slice_set, sym, ap, subst, arith}
use Rattle.std.proofs.lemmas.Option.{slice_get_within}
use Rattle.std.specs.Borrow.{GName}
use Rattle.crq_session.specs.Answered.{TellsFailed}
use Rattle.crq_session.specs.EndState.{EndState, OnlyReserves}
use Rattle.vio_num.specs.Entry.{partner_failed}
use Rattle.crq_session.specs.PlainState.{end_of, side_of}
use Rattle.crq_session.specs.declared.link.PlainLink.{PlainLink}
use Rattle.vcpu_run.specs.declared.pair.Pair.{Pair}
use Rattle.vcpu_run.specs.declared.script.Progress.{Progress}
use Rattle.vcpu_run.specs.declared.script.Progress.TheVariants as progress
use Rattle.vcpu_run.specs.EventsMade.{AllCalm, AllShut, PairCalm, PairShuts, events_at, events_if, shuts_if, times_open}
use Rattle.vcpu_run.specs.EventsPut.{FreesOnce, MakesNoEvent, StepMakes, events_of, times_freed}
use Rattle.vcpu_run.proofs.Calming.{calm_same, freed_once}
use Rattle.vcpu_run.proofs.Driving.{get_set_other, get_set_same, same_or}

-- the end that was lent is the pair's again
pub makes_link : (resets f g : Bool) (x y : List GName) (p p' : Progress) (lent old link : PlainLink) → lent ≡ old → f ≡ false → g ≡ false
    → StepMakes resets p p' (end_of x lent f) (end_of y link g) → StepMakes resets p p' (end_of [] old false) (end_of [] link false)
makes_link resets f g x y p p' lent old link same first next is =
    at resets (subst (λ (l : PlainLink). StepMakes resets p p' (end_of x l false) (end_of y link false)) same
    (subst (λ (d : Bool). StepMakes resets p p' (end_of x lent d) (end_of y link false)) first
    (subst (λ (d : Bool). StepMakes resets p p' (end_of x lent f) (end_of y link d)) next is)))
  where
    at : (b : Bool) → StepMakes b p p' (end_of x old false) (end_of y link false) → StepMakes b p p' (end_of [] old false) (end_of [] link false)
    at true h = h
    at false h = h

pub calm_link : (f g : Bool) (x y : List GName) (lent old link : PlainLink) → lent ≡ old → f ≡ false → g ≡ false → MakesNoEvent (end_of x lent f) (end_of y link g)
    → events_of (end_of [] link false) ≤ events_of (end_of [] old false)
calm_link f g x y lent old link same first next is =
    subst (λ (l : PlainLink). MakesNoEvent (end_of x l false) (end_of y link false)) same
    (subst (λ (d : Bool). MakesNoEvent (end_of x lent d) (end_of y link false)) first
    (subst (λ (d : Bool). MakesNoEvent (end_of x lent f) (end_of y link d)) next is))

-- a step of a line that makes no event, or frees the queue
pub freed_most : (p : Progress) → times_freed p ≤ 1
freed_most progress.Fresh = omega arith
freed_most progress.Freed = omega arith
freed_most (progress.Took count) = omega arith
freed_most (progress.Posted count) = omega arith

pub plain_makes : (resets : Bool) (p p' : Progress) (a b : EndState) → resets ≡ false → MakesNoEvent a b → StepMakes resets p p' a b
plain_makes true p p' a b none calm = absurd (cc (none))
plain_makes false p p' a b none calm = calm

pub frees_calm : (p : Progress) (a b : EndState) → MakesNoEvent a b → FreesOnce p p a b
frees_calm p a b calm = omega (arith, calm)

pub frees_later : (p : Progress) (a b : EndState) → MakesNoEvent a b → FreesOnce p progress.Freed a b
frees_later p a b calm =
    let most : times_freed p ≤ 1 = freed_most p in
    omega (arith, calm, most)

pub frees_one : (p : Progress) (a b : EndState) → times_freed p ≡ 0 → events_of b ≤ events_of a + 1 → FreesOnce p progress.Freed a b
frees_one p a b none one = omega (arith, none, one)

-- with whether the own queue is registered
abbrev pub counts_open : EndState → ℕ
counts_open end = cond end.registered 1 0

abbrev pub ShutsEnd : EndState → EndState → Type 0
ShutsEnd a b = events_of b + counts_open b ≤ events_of a + counts_open a

pub shuts_link : (f g : Bool) (x y : List GName) (lent old link : PlainLink) → lent ≡ old → f ≡ false → g ≡ false → ShutsEnd (end_of x lent f) (end_of y link g)
    → ShutsEnd (end_of [] old false) (end_of [] link false)
shuts_link f g x y lent old link same first next is =
    subst (λ (l : PlainLink). ShutsEnd (end_of x l false) (end_of y link false)) same
    (subst (λ (d : Bool). ShutsEnd (end_of x lent d) (end_of y link false)) first
    (subst (λ (d : Bool). ShutsEnd (end_of x lent f) (end_of y link d)) next is))

pub shuts_same : (a b : EndState) → b.sent ≡ a.sent → b.kept ≡ a.kept → b.registered ≡ a.registered → ShutsEnd a b
shuts_same a b sent kept registered =
    let calm : events_of b ≤ events_of a = calm_same a b sent kept in
    let still : counts_open b ≡ counts_open a = ap (λ r. cond r 1 0) registered in
    omega (arith, calm, still)

pub shuts_ready : (a b : EndState) → OnlyReserves a b → ShutsEnd a b
shuts_ready a b ready = shuts_same a b ready.sent ready.kept ready.registered

pub shuts_on : (a b c : EndState) → ShutsEnd a b → ShutsEnd b c → ShutsEnd a c
shuts_on a b c first next = omega (arith, first, next)

pub shuts_failed : (a b : EndState) → TellsFailed false a b → ShutsEnd a b
shuts_failed a b tells =
    let one : events_of b ≤ events_of a + 1 = freed_once false a b partner_failed tells in
    let on : counts_open a ≡ 1 = ap (λ r. cond r 1 0) tells.registered in
    let off : counts_open b ≡ 0 = ap (λ r. cond r 1 0) tells.freed in
    omega (arith, one, on, off)

-- a turn of the server unit
pub served_calm : (old new : Pair) → (side_of new.link true).queue.sent ≡ (side_of old.link true).queue.sent → (side_of new.link false).kept ≡ (side_of old.link false).kept → PairCalm old new
served_calm old new sent kept = calm_same (end_of [] old.link false) (end_of [] new.link false) sent kept

-- all pairs, and one of them
pub calm_at : (old new : List Pair) (k : ℕ) (before after : Pair) → AllCalm old new → slice_get old k ≡ Some before → slice_get new k ≡ Some after → PairCalm before after
calm_at old new k before after all was now =
    subst (λ (o : Option Pair). events_at after ≤ events_if o) was (subst (λ (o : Option Pair). events_if o ≤ events_if (slice_get old k)) now (all k))

pub shut_at : (old new : List Pair) (k : ℕ) (before after : Pair) → AllShut old new → slice_get old k ≡ Some before → slice_get new k ≡ Some after → PairShuts before after
shut_at old new k before after all was now =
    subst (λ (o : Option Pair). events_at after + times_open after ≤ shuts_if o) was (subst (λ (o : Option Pair). shuts_if o ≤ shuts_if (slice_get old k)) now (all k))

pub calm_none : (pairs : List Pair) → AllCalm pairs pairs
calm_none pairs k = omega arith

pub shut_none : (pairs : List Pair) → AllShut pairs pairs
shut_none pairs k = omega arith

pub calm_then : (a b c : List Pair) → AllCalm a b → AllCalm b c → AllCalm a c
calm_then a b c first next k =
    let one : events_if (slice_get b k) ≤ events_if (slice_get a k) = first k in
    let two : events_if (slice_get c k) ≤ events_if (slice_get b k) = next k in
    omega (arith, one, two)

pub shut_then : (a b c : List Pair) → AllShut a b → AllShut b c → AllShut a c
shut_then a b c first next k =
    let one : shuts_if (slice_get b k) ≤ shuts_if (slice_get a k) = first k in
    let two : shuts_if (slice_get c k) ≤ shuts_if (slice_get b k) = next k in
    omega (arith, one, two)

pub calm_set : (pairs : List Pair) (i : ℕ) (old new : Pair) → slice_get pairs i ≡ Some old → PairCalm old new → AllCalm pairs (slice_set pairs i new)
calm_set pairs i old new there calm k = at (same_or k i)
  where
    at : (k ≡ i) ⊎ (k ≢ i) → events_if (slice_get (slice_set pairs i new) k) ≤ events_if (slice_get pairs k)
    at (inl e) = subst (λ n. events_if (slice_get (slice_set pairs i new) n) ≤ events_if (slice_get pairs n)) (sym e)
        (subst (λ (o : Option Pair). events_if o ≤ events_if (slice_get pairs i)) (sym (get_set_same pairs i new (slice_get_within pairs i old there)))
        (subst (λ (o : Option Pair). events_at new ≤ events_if o) (sym there) calm))
    at (inr apart) = subst (λ (o : Option Pair). events_if o ≤ events_if (slice_get pairs k)) (sym (get_set_other pairs i k new apart)) (omega arith)

pub shut_set : (pairs : List Pair) (i : ℕ) (old new : Pair) → slice_get pairs i ≡ Some old → PairShuts old new → AllShut pairs (slice_set pairs i new)
shut_set pairs i old new there shuts k = at (same_or k i)
  where
    at : (k ≡ i) ⊎ (k ≢ i) → shuts_if (slice_get (slice_set pairs i new) k) ≤ shuts_if (slice_get pairs k)
    at (inl e) = subst (λ n. shuts_if (slice_get (slice_set pairs i new) n) ≤ shuts_if (slice_get pairs n)) (sym e)
        (subst (λ (o : Option Pair). shuts_if o ≤ shuts_if (slice_get pairs i)) (sym (get_set_same pairs i new (slice_get_within pairs i old there)))
        (subst (λ (o : Option Pair). events_at new + times_open new ≤ shuts_if o) (sym there) shuts))
    at (inr apart) = subst (λ (o : Option Pair). shuts_if o ≤ shuts_if (slice_get pairs k)) (sym (get_set_other pairs i k new apart)) (omega arith)
