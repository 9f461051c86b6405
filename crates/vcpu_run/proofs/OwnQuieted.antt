-- Own clients in a round in which nothing was done: none of their lines waits.
use Rattle.std.proofs.Common.{◌≡◌, ◌∙◌, ◌⊎◌, inl, inr, ℕ, zero, suc, ◌==◌, Bool, true, false, true≢false, IfSome, List, [], ◌∷◌, Option, Some, None, Ok, eq-eqb, refl, slice_get, sym, ap, subst}
use Rattle.std.specs.Borrow.{GName}
use Rattle.boot_text.specs.declared.plan.Line.{Line}
use Rattle.boot_text.specs.declared.verb.Verb.{Verb}
use Rattle.boot_text.specs.declared.verb.Verb.TheVariants as verbs
use Rattle.vio_num.specs.declared.hypervisor.Moved.{Moved}
use Rattle.vio_num.specs.declared.hypervisor.Moved.TheVariants as moves
use Rattle.crq_ring.specs.Pipe.{IsLawfulPipe}
use Rattle.crq_session.specs.PlainState.{side_of}
use Rattle.block_server.specs.declared.unit.Unit.{Unit}
use Rattle.unit_region.specs.declared.step.Step.{Step}
use Rattle.unit_region.specs.declared.step.Step.TheVariants as steps
use Rattle.vcpu_run.specs.Acts.{ActsFor}
use Rattle.vcpu_run.specs.ActsAt.{GoesBy, IsUnmoved, Leads, PairActs, PushesEvent, StepsLineOnce, TurnActs, acting_at, moved_by}
use Rattle.vcpu_run.specs.Credited.{Ended}
use Rattle.vcpu_run.specs.Links.{LinkState, ServerWaits, link_state, links_of}
use Rattle.vcpu_run.specs.OwnPairs.{IsOverOwn, IsOwnPair, TalksOwn}
use Rattle.vcpu_run.specs.OwnQuiets.{QuietsOwn, ServerWaitsAt}
use Rattle.vcpu_run.specs.OwnRuns.{IsOwnSeat}
use Rattle.vcpu_run.specs.OwnServes.{IsServedOwnPair}
use Rattle.vcpu_run.specs.Pairs.{Drives}
use Rattle.vcpu_run.specs.PlainPairs.{ServerBooks}
use Rattle.vcpu_run.specs.PlainScripts.{PairPlainly, awaits, told_in}
use Rattle.vcpu_run.specs.ScriptTold.{SameClient}
use Rattle.vcpu_run.specs.Scripts.{OnlyRuns}
use Rattle.vcpu_run.specs.Suited.{is_call}
use Rattle.vcpu_run.specs.declared.driver.Driver.{Driver}
use Rattle.vcpu_run.specs.declared.pair.Pair.{Pair}
use Rattle.vcpu_run.specs.declared.script.Progress.{Progress}
use Rattle.vcpu_run.specs.declared.script.Script.{Script}
use Rattle.vcpu_run.specs.declared.unit_seat.Seat.TheVariants as sits
use Rattle.vcpu_run.proofs.Listed.{held, held_is}
use Rattle.vcpu_run.proofs.OwnQuietPairs.{over_none_waits}
use Rattle.vcpu_run.proofs.OwnQuietTalks.{talks_none_waits, waiting_verb}
use Rattle.vcpu_run.proofs.OwnTurnEvents.{over_events}
use Rattle.vcpu_run.proofs.OwnTurnTalks.{pushed_own, spares_now}
use Rattle.vcpu_run.proofs.PlainSeated.{driver_behind}

-- ---- a turn in which nothing was done

-- its step did nothing
quiet_step : (step : Step) → moves.Quiet ≡ moved_by step → step ≡ steps.Waits moves.Quiet
quiet_step (steps.Ends outcome) is = absurd (cc (is))
quiet_step (steps.Waits did) is = ap steps.Waits (sym is)

waiting_call : (verb : Verb) → awaits verb ≡ true → is_call verb ≡ false
waiting_call (verbs.Hcall number arguments) is = absurd (true≢false (sym is))
waiting_call verb is = refl

-- the queues of a pair among those of all
pub link_at : (pairs : List Pair) (k : ℕ) (pair : Pair) → slice_get pairs k ≡ Some pair → slice_get (links_of pairs) k ≡ Some (link_state pair.link)
link_at [] k pair there = absurd (cc (there))
link_at (first ∷ pairs) zero pair there = ap (λ (p : Pair). Some (link_state p.link)) (heads first pair there)
  where
    heads : (a b : Pair) → Some a ≡ Some b → a ≡ b
    heads a b e = cc (e)
link_at (first ∷ pairs) (suc k) pair there = link_at pairs k pair there

link_same : (old new : List Pair) (k : ℕ) (before after : Pair) → links_of new ≡ links_of old → slice_get old k ≡ Some before → slice_get new k ≡ Some after
    → link_state after.link ≡ link_state before.link
link_same old new k before after same was there =
    both (link_state after.link) (link_state before.link) (sym (link_at new k after there) ∙ ap (λ (links : List LinkState). slice_get links k) same ∙ link_at old k before was)
  where
    both : (a b : LinkState) → Some a ≡ Some b → a ≡ b
    both a b e = cc (e)

-- What a turn that did nothing leaves at the pair of a client whose line may wait: behind the events, and behind the line's step.
record QuietAt (line : Line) (p p' : Progress) (unit : Unit) (old mid new : Pair) : Type 0 where
  pushes : Leads PushesEvent old mid
  drives : Drives old mid
  same : SameClient old mid
  waits : ServerWaits (Some unit) (link_state mid.link)
  lawful : IsLawfulPipe (side_of mid.link false).queue
  still : IsUnmoved mid new
  acts : PairActs line p p' mid new (steps.Waits moves.Quiet)

over_quiet : (granted : ℕ) (failed : Bool) (told : List Ended) (home u k : ℕ) (books : ServerBooks) (line : Line) (p p' : Progress) (unit : Unit) (a : Driver) (old mid new : Pair)
    → old.driver ≡ Some a → (line.unit == u) ≡ true → awaits line.verb ≡ true → QuietAt line p p' unit old mid new
    → IsOverOwn granted failed told home u k books (Some line) p unit a old → ⊥
over_quiet granted failed told home u k books line p p' unit a old mid new was own awaiting quiet is =
    over_none_waits step.2.0 granted failed told home u k books line p p' unit a step.0 mid new own awaiting quiet.lawful
    (over_events granted failed told home u k books (Some line) p unit a a old mid was there quiet.drives quiet.pushes is) quiet.waits quiet.still step.2.1
  where
    there : mid.driver ≡ Some a
    there = quiet.same.driver ∙ was

    step : (b : Driver) × (new.driver ≡ Some b) × ((names : List GName) × ActsFor line.number line.verb p p' (acting_at names a mid) (acting_at names b new) (steps.Waits moves.Quiet))
    step = driver_behind (λ (x y : Driver). (names : List GName) × ActsFor line.number line.verb p p' (acting_at names x mid) (acting_at names y new) (steps.Waits moves.Quiet))
        mid.driver new.driver a there quiet.acts

-- ---- in its script

-- What a turn that did nothing, and its step, leave at the pair of its line's client.
step_quiet : (k : ℕ) (books : ServerBooks) (line : Line) (moved : Moved) (old new : List Pair) (script script' : Script) (unit : Unit) (before mid after : Pair) → moved ≡ moves.Quiet
    → (acts : TurnActs moved old new script script') → (step : StepsLineOnce acts.went line acts.pairs new script script') → slice_get script.seats.items line.unit ≡ Some (sits.Client k)
    → slice_get old k ≡ Some before → slice_get acts.pairs k ≡ Some mid → slice_get new k ≡ Some after → slice_get books.units k ≡ Some unit → ServerWaitsAt k books.units old → Drives before mid
    → QuietAt line script.progress step.progress unit before mid after
step_quiet k books line moved old new script script' unit before mid after quiet acts step seated was there here known waits drives = record {
  pushes = acts.pushes k before mid was there;
  drives = drives;
  same = held_is (λ (b : Pair). SameClient b mid) (slice_get old k) before was (acts.clients k mid there);
  waits = subst (ServerWaits (Some unit)) (sym (link_same old acts.pairs k before mid (acts.rests quiet).still was there))
      (subst (λ (o : Option Unit). ServerWaits o (link_state before.link)) known
      (held_is (λ (pair : Pair). ServerWaits (slice_get books.units k) (link_state pair.link)) (slice_get old k) before was waits));
  lawful = (step.acts.client k seated).lawful mid there;
  still = step.still (acts.quiet quiet) k mid after there here;
  acts = subst (PairActs line script.progress step.progress mid after) (quiet_step step.step (sym (acts.quiet quiet) ∙ step.says)) ((step.acts.client k seated).acts mid after there here);
}

-- A line that may wait does not, whether the two talk or the session is over.
line_quiet : (granted : ℕ) (failed : Bool) (home u k : ℕ) (books : ServerBooks) (line : Line) (moved : Moved) (old new : List Pair) (script script' : Script) (before mid after : Pair)
    → moved ≡ moves.Quiet → (acts : TurnActs moved old new script script') → StepsLineOnce acts.went line acts.pairs new script script' → IsOwnSeat script u k
    → slice_get script.lines.now script.at ≡ Some line → line.unit ≡ u → awaits line.verb ≡ true → slice_get old k ≡ Some before → slice_get acts.pairs k ≡ Some mid → slice_get new k ≡ Some after
    → ServerWaitsAt k books.units old → Drives before mid
    → IsOwnPair granted failed (told_in u script) script.lines.now home u k books [] (Some line) script.progress before → ⊥
line_quiet granted failed home u k books line moved old new script script' before mid after quiet acts step seat found mine awaiting was there here waits drives is = by is.how
  where
    own : (line.unit == u) ≡ true
    own = eq-eqb line.unit u mine

    seated : slice_get script.seats.items line.unit ≡ Some (sits.Client k)
    seated = ap (slice_get script.seats.items) mine ∙ seat.sits

    at : QuietAt line script.progress step.progress is.unit before mid after
    at = step_quiet k books line moved old new script script' is.unit before mid after quiet acts step seated was there here is.there waits drives

    plainly : PairPlainly line.verb script.progress step.progress mid after (Ok (steps.Waits moves.Quiet))
    plainly = subst (λ (s : Step). PairPlainly line.verb script.progress step.progress mid after (Ok s)) (quiet_step step.step (sym (acts.quiet quiet) ∙ step.says))
        (step.plainly k seated mid after there here)

    by : TalksOwn granted (told_in u script) script.lines.now home u k books [] (Some line) script.progress is.unit is.driver before
        ⊎ IsOverOwn granted failed (told_in u script) home u k books (Some line) script.progress is.unit is.driver before → ⊥
    by (inl talks) =
        let on : TalksOwn granted (told_in u script) script.lines.now home u k books [] (Some line) script.progress is.unit is.driver mid =
        pushed_own granted (told_in u script) script.lines.now home u k books (Some line) script.progress is.unit is.driver before mid is.driver_is at.same.driver at.same.queue
        (acts.talks_on k before mid was there) talks in
        talks_none_waits granted (told_in u script) script.lines.now home u k books line script.progress step.progress is.unit is.driver mid after own awaiting (at.same.driver ∙ is.driver_is) on
        (spares_now u script.at script.lines.now line on.now seat.own found own on.spares) at.waits plainly
    by (inr over) =
        over_quiet granted failed (told_in u script) home u k books line script.progress step.progress is.unit is.driver before mid after is.driver_is own awaiting at over

pub quiets_own : (moved : Moved) (old new : List Pair) (script script' : Script) → moved ≡ moves.Quiet → OnlyRuns script script' → TurnActs moved old new script script'
    → QuietsOwn old new script script'
quiets_own moved old new script script' quiet rest acts granted home u k books seat served waits =
    subst (λ (o : Option Line). IfSome o (λ line. line.unit ≡ u → awaits line.verb ≡ false)) (sym same) (by (slice_get script.lines.now script.at) refl)
  where
    same : slice_get script'.lines.now script'.at ≡ slice_get script.lines.now script.at
    same = ap (λ lines. slice_get lines.now script'.at) rest.lines ∙ ap (slice_get script.lines.now) (acts.stays quiet)

    first : (before : Pair) × (slice_get old k ≡ Some before)
        × IsServedOwnPair granted (told_in u script) script.lines.now home u k books (slice_get script.lines.now script.at) script.progress before
    first = held (IsServedOwnPair granted (told_in u script) script.lines.now home u k books (slice_get script.lines.now script.at) script.progress) (slice_get old k) served

    next : (mid : Pair) × (slice_get acts.pairs k ≡ Some mid) × Drives first.0 mid
    next = held (Drives first.0) (slice_get acts.pairs k) (acts.driven.each k first.0 first.1)

    last : (after : Pair) × (slice_get new k ≡ Some after) × Drives next.0 after
    last = held (Drives next.0) (slice_get new k) (acts.leads.each k next.0 next.1)

    at : (line : Line) → slice_get script.lines.now script.at ≡ Some line → line.unit ≡ u → awaits line.verb ≡ true → ⊥
    at line found mine awaiting =
        line_quiet granted first.2.0 home u k books line moved old new script script' first.0 next.0 last.0 quiet acts
        ((subst (λ (o : Option Line). GoesBy acts.went o acts.pairs new script script') found acts.goes).going (waiting_verb line.verb awaiting).0 (waiting_call line.verb awaiting)) seat found mine awaiting
        first.1 next.1 last.1 waits next.2
        (subst (λ (o : Option Line). IsOwnPair granted first.2.0 (told_in u script) script.lines.now home u k books [] o script.progress first.0) found first.2.1)

    none : (line : Line) → slice_get script.lines.now script.at ≡ Some line → line.unit ≡ u → (b : Bool) → awaits line.verb ≡ b → b ≡ false
    none line found mine false is = refl
    none line found mine true is = absurd (at line found mine is)

    by : (o : Option Line) → slice_get script.lines.now script.at ≡ o → IfSome o (λ line. line.unit ≡ u → awaits line.verb ≡ false)
    by None found = tt
    by (Some line) found = λ mine. none line found mine (awaits line.verb) refl
