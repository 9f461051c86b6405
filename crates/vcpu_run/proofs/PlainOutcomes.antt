-- A turn of a plain client's login that ends by the login's answer: the line's record is that of the replay.
use Rattle.std.proofs.Common.{◌≡◌, ◌∙◌, ◌⊎◌, inl, inr, ℕ, ◌+◌, ◌≤◌, Bool, true, false, true≢false, List, [], Option, Some, None, arith, is_some, length, sym, ap, subst}
use Rattle.std.specs.Prelude.{MatchOption}
use Rattle.vio_num.specs.declared.entry.Entry.{Entry}
use Rattle.crq_session.specs.EndState.{EndState}
use Rattle.srp_iu.specs.declared.unit.Iu.{Iu}
use Rattle.tce_window.specs.PortState.{PortState}
use Rattle.vio_trace.specs.declared.outcome.Outcome.{Outcome}
use Rattle.vio_trace.specs.declared.outcome.Outcome.TheVariants as outcomes
use Rattle.vscsi_client.specs.Login.{Finds, IsToOthers, SaysIn, login_slot}
use Rattle.vscsi_client.specs.State.{ClientState}
use Rattle.vscsi_client.specs.Turned.{LoginStep, SameHands, Site, Steps, ends_login, part_after}
use Rattle.vscsi_client.specs.Turned.LoginStep.{Looked}
use Rattle.vscsi_client.specs.declared.found.Found.{Found}
use Rattle.vscsi_client.specs.declared.found.Found.TheVariants.{Answer, Granted, InUse, Lost, Nothing, Rejected, Step}
use Rattle.vscsi_client.specs.declared.row.Row.{Row}
use Rattle.vscsi_client.specs.declared.stage.Stage.{Stage}
use Rattle.vscsi_client.specs.declared.stage.Stage.TheVariants.{Idle}
use Rattle.vcpu_run.specs.PlainSteps.{AsksAnew, FollowsReplay, HasSentLogin, KeptApart}
use Rattle.vcpu_run.specs.PlainTalk.{AskedParts, Between, ServerStays, TalksPlainly, is_sent}
use Rattle.vcpu_run.specs.Replay.{Replay, logged_in, login_says}
use Rattle.vcpu_run.proofs.PlainAsking.{none_anew}
use Rattle.vcpu_run.proofs.PlainEndings.{end_at, talks_end}
use Rattle.vcpu_run.proofs.PlainLooked.{LookedAt, WasGranted, WasRejected}
use Rattle.vcpu_run.proofs.PlainLogins.{agree_move, granted_on, rejected_on}
use Rattle.vcpu_run.proofs.PlainMeets.{HasMet}
use Rattle.vcpu_run.proofs.PlainMids.{TookOne, mid_at}
use Rattle.vcpu_run.proofs.PlainPauses.{MayBegin, Starts}
use Rattle.vcpu_run.proofs.PlainRests.{Holds, LooksOn, looks_on, rest_held, rest_there}
use Rattle.vcpu_run.proofs.PlainWalks.{Walked, no_entry}
use Rattle.vcpu_run.proofs.PlainWalks.Walked.{BecameDue, BecamePut, BecameWritten, Holding, Resting, Sticking}
use Rattle.vcpu_run.specs.PlainRejected.{HasRejection}

-- what a line's record says of what was found
abbrev pub outcome_of : Found → Option Outcome
outcome_of (Granted credits) = Some (outcomes.Granted credits)
outcome_of (Rejected reason) = Some (outcomes.Rejected reason)
outcome_of found = None

-- The line ended as the replay says.
pub record EndsAs (granted : ℕ) (now : Replay) (last : ℕ) (at : Between) (found : Found) : Type 0 where
  pub outcome : outcome_of found ≡ Some (login_says granted now)
  pub talks : TalksPlainly granted at []
  pub anew : AsksAnew last at.client []
  pub follows : FollowsReplay granted (logged_in now) at
  pub laid : (reason : ℕ) → found ≡ Rejected reason → HasRejection at.unit.id reason at.window.strokes

-- a client with no login under way finds no answer to it
idle_finds : (s : ClientState) (entry : Entry) (old new : PortState) (found : Found) → s.login ≡ Idle → Finds false s entry old new found
    → ((credits : ℕ) → found ≡ Granted credits → ⊥) × ((reason : ℕ) → found ≡ Rejected reason → ⊥)
idle_finds s entry old new found idle finds = by found finds
  where
    none : (found : Found) → MatchOption (login_slot entry.low s.login) (IsToOthers s entry found × (new ≡ old)) (λ slot. SaysIn false entry.low slot old new found)
        → IsToOthers s entry found
    none found is =
        (subst (λ (stage : Stage). MatchOption (login_slot entry.low stage) (IsToOthers s entry found × (new ≡ old)) (λ slot. SaysIn false entry.low slot old new found)) idle is).0

    by : (found : Found) → Finds false s entry old new found → ((credits : ℕ) → found ≡ Granted credits → ⊥) × ((reason : ℕ) → found ≡ Rejected reason → ⊥)
    by (Granted credits) finds = absurd (none (Granted credits) finds.2)
    by (Rejected reason) finds = absurd (none (Rejected reason) finds.2)
    by Lost finds = (λ credits is. cc (is), λ reason is. cc (is))
    by Step finds = (λ credits is. cc (is), λ reason is. cc (is))
    by Answer finds = (λ credits is. cc (is), λ reason is. cc (is))
    by Nothing finds = (λ credits is. cc (is), λ reason is. cc (is))
    by (InUse page word) finds = (λ credits is. cc (is), λ reason is. cc (is))

same_reason : (a b : ℕ) → Rejected a ≡ Rejected b → a ≡ b
same_reason a b e = cc (e)

held_ends : (granted line : ℕ) (now : Replay) (at : Between) (steps : List LoginStep) (m b : Site) (server : EndState) (found : Found) → Starts granted now at
    → ServerStays at (end_at at b server) → Holds granted line at steps m → Steps line (Looked found) m b → SameHands m b → ends_login found ≡ true
    → EndsAs granted now (length at.client.rows) (end_at at b server) found
held_ends granted line now at steps m b server found starts stays holds looked hands ends = by on.looked
  where
    c : Site
    c = holds.c

    on : LooksOn granted at c m b found
    on = looks_on granted line at c m b found holds.rests.rest holds.took holds.hands looked hands

    -- no login is under way
    idle : MayBegin granted now at → m.client.login ≡ Idle
    idle may = ap (λ (s : ClientState). s.login) on.then'.takes.client ∙ holds.rests.since.login ∙ may.idle

    -- so is it where the entry was taken
    sent_mid : HasSentLogin granted now at → KeptApart c.client → HasSentLogin granted now (mid_at at c)
    sent_mid sent apart = record {
      tag = ap (λ (list : List Row). length list + 1) holds.rests.since.rows ∙ sent.tag;
      registered = rest_there granted at c holds.rests.rest;
      apart = apart;
      login = ap is_sent holds.rests.since.login ∙ sent.login;
      credits = agree_move granted now at (mid_at at c) sent.credits
          (record { registered = holds.rests.since.registered; granted = holds.rests.since.granted; outgoing = holds.rests.since.outgoing });
    }

    is_on : (sent : HasSentLogin granted now at) (b : Bool) → is_some c.client.granted ≡ b → now.is_on ≡ b
    is_on sent b known = sym sent.credits.is_on ∙ sym (ap (λ (g : Option ℕ). is_some g) holds.rests.since.granted) ∙ known

    given : (asked : AskedParts) (answers : List Iu) → TookOne granted at c b asked answers found → KeptApart c.client → WasGranted granted (mid_at at c) (mid_at at b) found
        → MayBegin granted now at ⊎ HasSentLogin granted now at → EndsAs granted now (length at.client.rows) (end_at at b server) found
    given asked answers one apart was (inl may) =
        absurd ((idle_finds m.client on.then'.looks.entry c.at.own b.at.own found (idle may) on.then'.looks.finds).0 was.credits was.found_is)
    given asked answers one apart was (inr sent) =
        let said = granted_on granted was.credits now (mid_at at c) (end_at at b server) (sent_mid sent apart) (is_on sent false was.off)
        (rest_there granted at c holds.rests.rest) (sym was.ends.handshake ∙ was.talk.handshake)
        (record {
          unit = was.ends.unit;
          registered = was.ends.registered;
          come = was.ends.come;
          handshake = was.ends.handshake;
          due = was.ends.due;
          held = was.ends.held;
          granted = was.ends.granted;
          outgoing = was.ends.outgoing;
          login = was.ends.login;
          kept = was.ends.kept;
        }) was.credits_are (ap (λ (list : List Row). length list) was.rows) in
        record {
          outcome = ap outcome_of was.found_is ∙ ap Some said.0;
          talks = talks_end granted at b server (record { answered = []; pending = []; coming = [] }) [] stays one.calm was.talk
              (was.tabled ∙ holds.rests.since.tabled ∙ starts.tabled);
          anew = none_anew at.client b.client (ap (λ (list : List Row). length list) (was.rows ∙ holds.rests.since.rows));
          follows = said.1;
          laid = λ reason is. absurd (cc (was.found_is, is));
        }

    refused : (asked : AskedParts) (answers : List Iu) → TookOne granted at c b asked answers found → KeptApart c.client → WasRejected granted (mid_at at c) (mid_at at b) found
        → MayBegin granted now at ⊎ HasSentLogin granted now at → EndsAs granted now (length at.client.rows) (end_at at b server) found
    refused asked answers one apart was (inl may) =
        absurd ((idle_finds m.client on.then'.looks.entry c.at.own b.at.own found (idle may) on.then'.looks.finds).1 was.reason was.found_is)
    refused asked answers one apart was (inr sent) =
        let said = rejected_on granted now (mid_at at c) (end_at at b server) was.kept (sent_mid sent apart) (is_on sent true was.on)
        (rest_there granted at c holds.rests.rest) (sym was.ends.handshake ∙ was.talk.handshake)
        (record {
          unit = was.ends.unit;
          registered = was.ends.registered;
          come = was.ends.come;
          keeps = was.ends.keeps;
          handshake = was.ends.handshake;
          due = was.ends.due;
          held = was.ends.held;
          granted = was.ends.granted;
          outgoing = was.ends.outgoing;
          login = was.ends.login;
          logout = was.ends.logout;
          rows = was.ends.rows;
          kept_is = was.ends.kept_is;
        }) in
        record {
          outcome = ap outcome_of was.found_is ∙ ap (λ (reason : ℕ). Some (outcomes.Rejected reason)) was.reason_is ∙ ap Some said.0;
          talks = talks_end granted at b server (record { answered = was.front; pending = []; coming = [] }) was.before stays one.calm was.talk
              (was.tabled ∙ holds.rests.since.tabled ∙ starts.tabled);
          anew = none_anew at.client b.client (was.ends.rows ∙ ap (λ (list : List Row). length list) holds.rests.since.rows);
          follows = said.1;
          laid = λ reason is. subst (λ (r : ℕ). HasRejection at.unit.id r b.at.own.strokes) (same_reason was.reason reason (sym was.found_is ∙ is)) was.laid;
        }

    by : HasMet granted (mid_at at b) found ⊎ ((asked : AskedParts) × (answers : List Iu) × TookOne granted at c b asked answers found × KeptApart c.client)
        → EndsAs granted now (length at.client.rows) (end_at at b server) found
    by (inl met) = absurd (true≢false (sym ends ∙ ap ends_login met.found_is))
    by (inr (asked, answers, one, apart)) = at_one one.looked
      where
        at_one : LookedAt granted (mid_at at c) (mid_at at b) asked answers found → EndsAs granted now (length at.client.rows) (end_at at b server) found
        at_one (inl kept) = absurd (true≢false (sym ends ∙ ap ends_login kept.found_is))
        at_one (inr (inl was)) = given asked answers one apart was starts.started
        at_one (inr (inr was)) = refused asked answers one apart was starts.started

-- ---- behind all steps

pub ends_on : (granted line : ℕ) (now : Replay) (at : Between) (steps : List LoginStep) (m b : Site) (server : EndState) (found : Found) → Starts granted now at
    → ServerStays at (end_at at b server) → Walked granted line at steps m → Steps line (Looked found) m b → SameHands m b → part_after 1 steps ≤ 1 → ends_login found ≡ true
    → EndsAs granted now (length at.client.rows) (end_at at b server) found
ends_on granted line now at steps m b server found starts stays (Resting rests) looked hands order ends =
    absurd (no_entry m.client.held looked.0.entry (rest_held granted at m rests.rest) looked.0.held)
ends_on granted line now at steps m b server found starts stays (Holding holds) looked hands order ends =
    held_ends granted line now at steps m b server found starts stays holds looked hands ends
ends_on granted line now at steps m b server found starts stays (Sticking is) looked hands order ends = absurd (omega (arith, is.part, order))
ends_on granted line now at steps m b server found starts stays (BecameDue before last is) looked hands order ends =
    absurd (omega (arith, ap (part_after 1) last, order))
ends_on granted line now at steps m b server found starts stays (BecameWritten before last is) looked hands order ends =
    absurd (omega (arith, ap (part_after 1) last, order))
ends_on granted line now at steps m b server found starts stays (BecamePut last) looked hands order ends = absurd (omega (arith, last.part, order))
