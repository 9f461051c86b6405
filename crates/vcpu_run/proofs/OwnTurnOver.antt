-- An own client at its pair in a turn of its script, its server unit's session being over, or having been, while no login is under way: what is done
-- any number of times. It stays so between turns.
use Rattle.std.proofs.Common.{◌≡◌, ◌∙◌, inl, inr, ℕ, ◌≤◌, ◌==◌, Bool, true, false, true≢false, List, [], Option, Some, None, sym, subst, arith}
use Rattle.boot_text.specs.declared.plan.Line.{Line}
use Rattle.boot_text.specs.declared.verb.Verb.{Verb}
use Rattle.boot_text.specs.declared.verb.Verb.TheVariants as verbs
use Rattle.crq_session.specs.EndState.{EndState}
use Rattle.crq_session.specs.PlainState.{end_of}
use Rattle.block_server.specs.declared.unit.Unit.{Unit}
use Rattle.vscsi_client.specs.State.{ClientState}
use Rattle.vcpu_run.specs.Acts.{TakesRest}
use Rattle.vcpu_run.specs.ActsAt.{Leads, acting_at}
use Rattle.vcpu_run.specs.Credited.{Ended}
use Rattle.vcpu_run.specs.OwnPairs.{ComesOver, IsOverOwn, RestsIdle, StandsOver, doing_of}
use Rattle.vcpu_run.specs.Pairs.{Drives}
use Rattle.vcpu_run.specs.PlainClients.{granted_in}
use Rattle.vcpu_run.specs.PlainPairs.{ServerBooks}
use Rattle.vcpu_run.specs.PlainScripts.{OfUnit}
use Rattle.vcpu_run.specs.Works.{fails}
use Rattle.vcpu_run.specs.declared.driver.Driver.{Driver}
use Rattle.vcpu_run.specs.declared.pair.Pair.{Pair}
use Rattle.vcpu_run.specs.declared.script.Progress.{Progress}
use Rattle.vcpu_run.specs.declared.script.Progress.TheVariants as progress
use Rattle.vcpu_run.proofs.OwnActLines.{rests_logging, stands_any}
use Rattle.vcpu_run.proofs.OwnActOwn.{over_pair, rests_at, rests_idle}
use Rattle.vcpu_run.proofs.OwnTurnEvents.{end_stays}
use Rattle.vcpu_run.proofs.OwnTurnLeads.{Led, LedKeeping, leads_takes}

pub over_led : (granted : ℕ) (failed failed' : Bool) (told told' : List Ended) (home u k : ℕ) (books : ServerBooks) (line line' : Option Line) (p p' : Progress) (unit : Unit) (a b : Driver)
    (old new : Pair) → Drives old new → IsOverOwn granted failed told home u k books line p unit a old → Led granted failed' (doing_of unit home k books old) a b old new
    → granted_in told' ≤ granted_in told → StandsOver u failed' line' p' b.client (end_of [] new.link false) → IsOverOwn granted failed' told' home u k books line' p' unit b new
over_led granted failed failed' told told' home u k books line line' p p' unit a b old new drives is led less stands =
    over_pair [] granted failed failed' told told' home u k books line line' p p' unit a b old new is led.goes
    (end_stays granted failed' (doing_of unit home k books old) unit a b old new drives is.ends.server_took led.goes.over) less stands

pub led_idle : (granted : ℕ) (failed : Bool) (home k : ℕ) (books : ServerBooks) (unit : Unit) (a b : Driver) (old new : Pair) → Led granted failed (doing_of unit home k books old) a b old new
    → RestsIdle b.client
led_idle granted failed home k books unit a b old new led = rests_idle granted failed (doing_of unit home k books old) (acting_at [] a old) (acting_at [] b new) led.goes

-- ---- where the line came

comes_moved : (verb : Verb) (p : Progress) (s s' : ClientState) (own own' : EndState) → RestsIdle s' → (own.registered ≡ true → own'.registered ≡ true) → ComesOver verb p s own
    → ComesOver verb p s' own'
comes_moved verbs.Login p s s' own own' rests on comes = rests_logging s' rests
comes_moved verbs.Reset progress.Freed s s' own own' rests on comes = rests_logging s' rests
comes_moved verbs.Reset progress.Fresh s s' own own' rests on comes = (rests, on comes.1)
comes_moved verbs.Reset (progress.Took n) s s' own own' rests on comes = (rests, on comes.1)
comes_moved verbs.Reset (progress.Posted n) s s' own own' rests on comes = (rests, on comes.1)
comes_moved verb p s s' own own' rests on comes = (rests, on comes.1)

stands_moved : (u : ℕ) (failed : Bool) (line : Option Line) (p : Progress) (s s' : ClientState) (own own' : EndState) → RestsIdle s' → (own.registered ≡ true → own'.registered ≡ true)
    → StandsOver u failed line p s own → StandsOver u failed line p s' own'
stands_moved u failed None p s s' own own' rests on (inl gone) = inl (gone.0, rests)
stands_moved u failed None p s s' own own' rests on (inr is) = inr (rests, on is.1)
stands_moved u failed (Some line) p s s' own own' rests on (inr gone) = inr (gone.0, gone.1, rests)
stands_moved u failed (Some line) p s s' own own' rests on (inl is) = inl (is.0, by (line.unit == u) is.1)
  where
    by : (b : Bool) → OfUnit b (ComesOver line.verb p s own) (RestsIdle s × (own.registered ≡ true)) → OfUnit b (ComesOver line.verb p s' own') (RestsIdle s' × (own'.registered ≡ true))
    by true its = comes_moved line.verb p s s' own own' rests on its
    by false other = (rests, on other.1)

-- ---- behind the last line

idle_none : (u : ℕ) (failed : Bool) (p : Progress) (s : ClientState) (own : EndState) → StandsOver u failed None p s own → RestsIdle s
idle_none u failed p s own (inl gone) = gone.1
idle_none u failed p s own (inr is) = is.0

pub over_takes : (granted : ℕ) (failed : Bool) (told : List Ended) (home u k : ℕ) (books : ServerBooks) (p : Progress) (unit : Unit) (a b : Driver) (old new : Pair)
    → old.driver ≡ Some a → new.driver ≡ Some b → Drives old new → Leads TakesRest old new → IsOverOwn granted failed told home u k books None p unit a old
    → IsOverOwn granted failed told home u k books None p unit b new
over_takes granted failed told home u k books p unit a b old new was there drives leads is =
    over_led granted failed failed told told home u k books None None p p unit a b old new drives is all.led (omega arith)
    (stands_moved u failed None p a.client b.client (end_of [] old.link false) (end_of [] new.link false) (led_idle granted failed home k books unit a b old new all.led)
    (λ on. all.registered ∙ on) is.stands)
  where
    all : LedKeeping granted failed (doing_of unit home k books old) a b old new
    all = leads_takes granted failed leads.over (doing_of unit home k books old) a b old new was there
        (rests_at [] granted failed told home u k books None p unit a old is (idle_none u failed p a.client (end_of [] old.link false) is.stands)) leads.leads

-- ---- another unit's line

-- it was at rest, and its queue registered
other_rests : (u : ℕ) (failed : Bool) (line : Line) (p : Progress) (s : ClientState) (own : EndState) → (line.unit == u) ≡ false → fails line.verb ≡ false → StandsOver u failed (Some line) p s own
    → (failed ≡ false) × RestsIdle s × (own.registered ≡ true)
other_rests u failed line p s own other goes (inr gone) = absurd (true≢false (sym gone.1 ∙ goes))
other_rests u failed line p s own other goes (inl is) =
    let rests : RestsIdle s × (own.registered ≡ true) = subst (λ (b : Bool). OfUnit b (ComesOver line.verb p s own) (RestsIdle s × (own.registered ≡ true))) other is.1 in
    (is.0, rests.0, rests.1)

-- whatever line and progress come then
pub over_other : (granted : ℕ) (failed : Bool) (told : List Ended) (home u k : ℕ) (books : ServerBooks) (line : Line) (line' : Option Line) (p p' : Progress) (unit : Unit) (a : Driver) (pair : Pair)
    → (line.unit == u) ≡ false → fails line.verb ≡ false → IsOverOwn granted failed told home u k books (Some line) p unit a pair
    → IsOverOwn granted failed told home u k books line' p' unit a pair
over_other granted failed told home u k books line line' p p' unit a pair other goes is = record {
  over = is.over;
  owed = is.owed;
  seen = is.seen;
  rests = is.rests;
  ends = is.ends;
  server_slots = is.server_slots;
  own_slots = is.own_slots;
  stands = subst (λ (b : Bool). StandsOver u b line' p' a.client (end_of [] pair.link false)) (sym stood.0)
      (stands_any u line' p' a.client (end_of [] pair.link false) stood.1 stood.2);
}
  where
    stood : (failed ≡ false) × RestsIdle a.client × ((end_of [] pair.link false).registered ≡ true)
    stood = other_rests u failed line p a.client (end_of [] pair.link false) other goes is.stands
