-- An own client at its pair where a line fails its partition, its server unit's session being over, or having been: it stays so, whether the line is to
-- be gone on with or ended.
use Rattle.std.proofs.Common.{◌≡◌, ◌⊎◌, inl, inr, ℕ, ◌≤◌, ◌==◌, Bool, true, false, true≢false, List, [], Option, Some, None, refl, sym, subst}
use Rattle.boot_text.specs.declared.plan.Line.{Line}
use Rattle.boot_text.specs.declared.verb.Verb.{Verb}
use Rattle.boot_text.specs.declared.verb.Verb.TheVariants as verbs
use Rattle.crq_session.specs.EndState.{EndState}
use Rattle.crq_session.specs.PlainState.{end_of}
use Rattle.block_server.specs.declared.unit.Unit.{Unit}
use Rattle.vscsi_client.specs.State.{ClientState}
use Rattle.vcpu_run.specs.ActsAt.{FailsOnce, Leads}
use Rattle.vcpu_run.specs.Credited.{Ended}
use Rattle.vcpu_run.specs.OwnPairs.{ComesOver, IsOverOwn, RestsIdle, StandsOver, doing_of}
use Rattle.vcpu_run.specs.OwnSteps.{LogsIn}
use Rattle.vcpu_run.specs.Pairs.{Drives}
use Rattle.vcpu_run.specs.PlainClients.{granted_in}
use Rattle.vcpu_run.specs.PlainPairs.{ServerBooks}
use Rattle.vcpu_run.specs.PlainScripts.{OfUnit}
use Rattle.vcpu_run.specs.Works.{fails}
use Rattle.vcpu_run.specs.declared.driver.Driver.{Driver}
use Rattle.vcpu_run.specs.declared.pair.Pair.{Pair}
use Rattle.vcpu_run.specs.declared.script.Progress.{Progress}
use Rattle.vcpu_run.proofs.OwnActLines.{comes_rests, stands_any}
use Rattle.vcpu_run.proofs.OwnActOwn.{rests_at}
use Rattle.vcpu_run.proofs.OwnTurnLeads.{Led, leads_fails}
use Rattle.vcpu_run.proofs.OwnTurnOver.{led_idle, over_led}

-- ---- where the client stood before it

-- such a line logs in at none
pub fails_none : (verb : Verb) → fails verb ≡ true → LogsIn verb → ⊥
fails_none verbs.Login is logs = absurd (true≢false (sym is))
fails_none verbs.Reset is logs = absurd (true≢false (sym is))
fails_none verb is logs = absurd logs

-- at rest; and its queue was registered, unless the line had failed it
fail_stood : (u : ℕ) (failed : Bool) (line : Line) (p : Progress) (s : ClientState) (own : EndState) → fails line.verb ≡ true → StandsOver u failed (Some line) p s own
    → RestsIdle s × ((failed ≡ true) ⊎ ((failed ≡ false) × (own.registered ≡ true)))
fail_stood u failed line p s own failing (inr gone) = (gone.2, inl gone.0)
fail_stood u failed line p s own failing (inl is) = let rests : RestsIdle s × (own.registered ≡ true) = by (line.unit == u) is.1 in (rests.0, inr (is.0, rests.1))
  where
    by : (b : Bool) → OfUnit b (ComesOver line.verb p s own) (RestsIdle s × (own.registered ≡ true)) → RestsIdle s × (own.registered ≡ true)
    by true its = comes_rests line.verb p s own (fails_none line.verb failing) its
    by false rests = rests

-- ---- it stands so behind it

-- the line is to be gone on with, or none comes behind it
abbrev pub IsBehindFail : Line → Option Line → Type 0
IsBehindFail line line' = (line' ≡ Some line) ⊎ (line' ≡ None)

-- What comes of it: the partition failed, or all is as it was.
pub record FailedOver (granted : ℕ) (told : List Ended) (home u k : ℕ) (books : ServerBooks) (line : Option Line) (p : Progress) (unit : Unit) (driver : Driver) (pair : Pair) : Type 0 where
  pub failed : Bool
  pub over : IsOverOwn granted failed told home u k books line p unit driver pair

stands_true : (u : ℕ) (line : Line) (line' : Option Line) (p : Progress) (s : ClientState) (own : EndState) → fails line.verb ≡ true → IsBehindFail line line' → RestsIdle s
    → StandsOver u true line' p s own
stands_true u line line' p s own failing (inl same) rests = subst (λ (l : Option Line). StandsOver u true l p s own) (sym same) (inr (refl, failing, rests))
stands_true u line line' p s own failing (inr none) rests = subst (λ (l : Option Line). StandsOver u true l p s own) (sym none) (inl (refl, rests))

stands_still : (u : ℕ) (failed : Bool) (line : Line) (line' : Option Line) (p : Progress) (s : ClientState) (own : EndState) → fails line.verb ≡ true → IsBehindFail line line' → RestsIdle s
    → (failed ≡ true) ⊎ ((failed ≡ false) × (own.registered ≡ true)) → StandsOver u failed line' p s own
stands_still u failed line line' p s own failing behind rests (inl is) =
    subst (λ (b : Bool). StandsOver u b line' p s own) (sym is) (stands_true u line line' p s own failing behind rests)
stands_still u failed line line' p s own failing behind rests (inr is) = subst (λ (b : Bool). StandsOver u b line' p s own) (sym is.0) (stands_any u line' p s own rests is.1)

-- ---- at the pair

pub over_fails : (granted : ℕ) (failed : Bool) (told told' : List Ended) (home u k : ℕ) (books : ServerBooks) (line : Line) (line' : Option Line) (p p' : Progress) (unit : Unit) (a b : Driver)
    (old new : Pair) → fails line.verb ≡ true → IsBehindFail line line' → old.driver ≡ Some a → new.driver ≡ Some b → Drives old new → granted_in told' ≤ granted_in told
    → Leads FailsOnce old new → IsOverOwn granted failed told home u k books (Some line) p unit a old → FailedOver granted told' home u k books line' p' unit b new
over_fails granted failed told told' home u k books line line' p p' unit a b old new failing behind was there drives less leads is =
    by (leads_fails granted failed leads.over (doing_of unit home k books old) a b old new was there
    (rests_at [] granted failed told home u k books (Some line) p unit a old is stood.0) leads.leads)
  where
    stood : RestsIdle a.client × ((failed ≡ true) ⊎ ((failed ≡ false) × ((end_of [] old.link false).registered ≡ true)))
    stood = fail_stood u failed line p a.client (end_of [] old.link false) failing is.stands

    by : Led granted true (doing_of unit home k books old) a b old new ⊎ (Led granted failed (doing_of unit home k books old) a b old new × (new ≡ old))
        → FailedOver granted told' home u k books line' p' unit b new
    by (inl led) = record {
      failed = true;
      over = over_led granted failed true told told' home u k books (Some line) line' p p' unit a b old new drives is led less
          (stands_true u line line' p' b.client (end_of [] new.link false) failing behind (led_idle granted true home k books unit a b old new led));
    }
    by (inr led) = record {
      failed = failed;
      over = over_led granted failed failed told told' home u k books (Some line) line' p p' unit a b old new drives is led.0 less
          (stands_still u failed line line' p' b.client (end_of [] new.link false) failing behind (led_idle granted failed home k books unit a b old new led.0)
          (subst (λ (pair : Pair). (failed ≡ true) ⊎ ((failed ≡ false) × ((end_of [] pair.link false).registered ≡ true))) (sym led.1) stood.1));
    }
