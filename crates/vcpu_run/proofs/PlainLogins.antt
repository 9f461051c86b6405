-- How far a turn of a plain client's login came, against the replay of the client's lines.
use Rattle.std.proofs.Common.{◌≡◌, ◌∙◌, ℕ, ◌+◌, ◌≤◌, true, false, true≢false, cond, List, [], ◌∷◌, Option, None, is_some, length, sym, ap, subst, arith}
use Rattle.vio_num.specs.declared.entry.Entry.{Entry}
use Rattle.crq_session.specs.declared.handshake.Handshake.{Handshake}
use Rattle.crq_session.specs.declared.handshake.Handshake.TheVariants.{Up, Waiting}
use Rattle.srp_iu.specs.declared.login.TheConstants.{UNABLE_TO_ESTABLISH_CHANNEL}
use Rattle.vio_trace.specs.declared.outcome.Outcome.TheVariants as outcomes
use Rattle.vscsi_client.specs.State.{next_tag}
use Rattle.vscsi_client.specs.declared.outgoing.Outgoing.{Outgoing}
use Rattle.vcpu_run.specs.PlainSteps.{AgreeOnCredits, AreReplayedAs, AwaitsUnit, FollowsReplay, HasFreed, HasSentLogin, KeptApart}
use Rattle.vcpu_run.specs.PlainTalk.{Between, is_sent}
use Rattle.vcpu_run.specs.Replay.{Asked as Replayed, Replay, logged_in, login_says}
use Rattle.vcpu_run.proofs.PlainEnds.{EndsGranted}
use Rattle.vcpu_run.proofs.PlainRejects.{EndsRejected}

-- what a turn leaves of the credits as it was
pub record SameLogin (at at' : Between) : Type 0 where
  pub registered : at'.own.registered ≡ at.own.registered
  pub granted : at'.client.granted ≡ at.client.granted
  pub outgoing : at'.client.outgoing ≡ at.client.outgoing

pub agree_move : (granted : ℕ) (now : Replay) (at at' : Between) → AgreeOnCredits granted now at → SameLogin at at' → AgreeOnCredits granted now at'
agree_move granted now at at' agree same = record {
  is_on = ap (λ (g : Option ℕ). is_some g) same.granted ∙ agree.is_on;
  there = λ on. same.registered ∙ agree.there on;
  outstanding = subst (λ (list : List Outgoing). AreReplayedAs list now.outstanding) (sym same.outgoing) agree.outstanding;
  none = agree.none;
  within = agree.within;
}

nothing_long : (outstanding : List Replayed) (n : ℕ) → outstanding ≡ [] → length outstanding ≤ n
nothing_long [] n none = omega arith
nothing_long (asked ∷ outstanding) n none = absurd (cc (none))

no_requests : (outstanding : List Replayed) → outstanding ≡ [] → AreReplayedAs [] outstanding
no_requests [] none = tt
no_requests (asked ∷ outstanding) none = absurd (cc (none))

-- a client that knows of no login agrees with a replay where none is on
pub agree_none : (granted : ℕ) (now : Replay) (at : Between) → now.is_on ≡ false → now.outstanding ≡ [] → at.client.granted ≡ None → at.client.outgoing ≡ [] → AgreeOnCredits granted now at
agree_none granted now at off none unknown idle = record {
  is_on = ap (λ (g : Option ℕ). is_some g) unknown ∙ sym off;
  there = λ on. absurd (true≢false (sym on ∙ off));
  outstanding = subst (λ (list : List Outgoing). AreReplayedAs list now.outstanding) (sym idle) (no_requests now.outstanding none);
  none = λ is. none;
  within = nothing_long now.outstanding granted none;
}

-- the queue was registered
pub awaits_on : (now : Replay) (at at' : Between) → HasFreed now at → now.is_on ≡ false → now.outstanding ≡ [] → length at'.client.rows ≡ length at.client.rows
    → at'.client.handshake ≡ Waiting → AwaitsUnit now at'
awaits_on now at at' freed off none rows waits = record { tag = ap (λ (n : ℕ). n + 1) rows ∙ freed.tag; waits = waits; off = off; none = none }

-- the login was sent
pub sent_on : (granted : ℕ) (now : Replay) (at at' : Between) → next_tag at.client ≡ now.tag → AgreeOnCredits granted now at → length at'.client.rows ≡ length at.client.rows + 1
    → is_sent at'.client.login ≡ true → SameLogin at at' → at'.own.registered ≡ true → KeptApart at'.client → HasSentLogin granted now at'
sent_on granted now at at' tag agree rows sent same there apart = record {
  tag = ap (λ (n : ℕ). n + 1) (rows ∙ tag);
  registered = there;
  apart = apart;
  login = sent;
  credits = agree_move granted now at at' agree same;
}

not_waiting : (handshake : Handshake) → handshake ≡ Up → handshake ≡ Waiting → ⊥
not_waiting handshake up waits = cc (up, waits)

-- it was granted: the record says so, since none was on
pub granted_on : (granted credits : ℕ) (now : Replay) (at at' : Between) → HasSentLogin granted now at → now.is_on ≡ false → at.own.registered ≡ true → at.client.handshake ≡ Up
    → EndsGranted at at' credits → credits ≡ granted → length at'.client.rows ≡ length at.client.rows
    → (outcomes.Granted credits ≡ login_says granted now) × FollowsReplay granted (logged_in now) at'
granted_on granted credits now at at' sent off there up ends is rows = (
  ap (λ (n : ℕ). outcomes.Granted n) is ∙ sym (ap (λ b. cond b (outcomes.Rejected UNABLE_TO_ESTABLISH_CHANNEL) (outcomes.Granted granted)) off),
  record {
    tag = ap (λ (n : ℕ). n + 1) rows ∙ sent.tag;
    login = ends.login;
    settled = not_waiting at'.client.handshake (ends.handshake ∙ up);
    fresh = λ free. absurd (true≢false (sym (ends.registered ∙ there) ∙ free));
    credits = record {
      is_on = ap (λ (g : Option ℕ). is_some g) ends.granted;
      there = λ on. ends.registered ∙ there;
      outstanding = subst (λ (list : List Outgoing). AreReplayedAs list now.outstanding) (sym ends.outgoing) (no_requests now.outstanding none);
      none = λ none'. none;
      within = nothing_long now.outstanding granted none;
    };
  },
)
  where
    none : now.outstanding ≡ []
    none = sent.credits.none off

-- it was rejected, since one was on
pub rejected_on : (granted : ℕ) (now : Replay) (at at' : Between) (kept : List Entry) → HasSentLogin granted now at → now.is_on ≡ true → at.own.registered ≡ true → at.client.handshake ≡ Up
    → EndsRejected at at' kept → (outcomes.Rejected UNABLE_TO_ESTABLISH_CHANNEL ≡ login_says granted now) × FollowsReplay granted (logged_in now) at'
rejected_on granted now at at' kept sent on there up ends = (
  sym (ap (λ b. cond b (outcomes.Rejected UNABLE_TO_ESTABLISH_CHANNEL) (outcomes.Granted granted)) on),
  record {
    tag = ap (λ (n : ℕ). n + 1) ends.rows ∙ sent.tag;
    login = ends.login;
    settled = not_waiting at'.client.handshake (ends.handshake ∙ up);
    fresh = λ free. absurd (true≢false (sym (ends.registered ∙ there) ∙ free));
    credits = record {
      is_on = ap (λ (g : Option ℕ). is_some g) ends.granted ∙ sent.credits.is_on ∙ on;
      there = λ is. ends.registered ∙ there;
      outstanding = subst (λ (list : List Outgoing). AreReplayedAs list now.outstanding) (sym ends.outgoing) sent.credits.outstanding;
      none = λ off. absurd (true≢false off);
      within = sent.credits.within;
    };
  },
)
