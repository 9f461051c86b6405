-- A line of a plain client that sends something: it is sent or refused as the replay of the client's lines says, and goes on so.
use Rattle.std.proofs.Common.{◌≡◌, ◌∙◌, ◌⊎◌, inl, inr, ℕ, Bool, true, false, true≢false, List, [], Option, Some, None, Result, Ok, Err, IfErr, IfOk, IfSome, IsErr, is_some, length, min, refl, sym, ap, arith, subst}
use Rattle.std.specs.Prelude.{⊤}
use Rattle.std.proofs.lemmas.List.Elements.{All-nil}
use Rattle.vio_num.specs.declared.memory.NoMemory.{NoMemory}
use Rattle.crq_session.specs.EndState.{EndState}
use Rattle.block_server.specs.Talk.{Word, to_come}
use Rattle.boot_text.specs.declared.verb.Verb.{Verb}
use Rattle.unit_region.specs.declared.step.Step.{Step}
use Rattle.unit_region.specs.declared.step.Step.TheVariants as steps
use Rattle.vio_trace.specs.declared.outcome.Outcome.{Outcome}
use Rattle.vio_trace.specs.declared.outcome.Outcome.TheVariants as outcomes
use Rattle.vio_trace.specs.declared.rows.AnswerRow.{AnswerRow}
use Rattle.vscsi_client.specs.State.{ClientState, next_tag}
use Rattle.vscsi_client.specs.declared.answers.Refused.{Refused}
use Rattle.vscsi_client.specs.declared.answers.Refused.TheVariants as whys
use Rattle.vcpu_run.specs.PlainSteps.{AreReplayedAs, HasCome, FollowsReplay, IsAsReplayed, AsksAnew, IsNewWord, StepsOn, KeepsLogin}
use Rattle.vcpu_run.specs.Credited.{grants}
use Rattle.vcpu_run.specs.PlainTalk.{Between, InPhase, IsOwnWindow, ServerStays, TalksPlainly, awaited, owes}
use Rattle.vcpu_run.specs.Replay.{Replay, after_line, ends_as, left_unless, sent_unless}
use Rattle.vcpu_run.specs.Sendings.{SaysSent, SaysWhy, says_as}
use Rattle.vcpu_run.specs.declared.script.Progress.{Progress}
use Rattle.vcpu_run.proofs.PlainNotes.{notes_same}
use Rattle.vcpu_run.proofs.PlainOwed.{one_if, told_idle}
use Rattle.vcpu_run.proofs.PlainRefused.{KnowsCredits, says_of}
use Rattle.vcpu_run.proofs.PlainSlots.{keeps_same}
use Rattle.vcpu_run.proofs.PlainStill.{plainly_still, all_true}
use Rattle.vcpu_run.proofs.PlainData.{data_kept}
use Rattle.vio_num.specs.declared.names.UnitId.{UnitId}
use Rattle.page_slots.specs.Stroke.{StrokeValue}
use Rattle.boot_text.specs.declared.verb.Verb.TheVariants as verbs
use Rattle.vcpu_run.specs.PlainRejected.{IsOfRejection, TellsRejection}

-- ---- what the client knows is what the replay knows

no_login : (granted : Option ℕ) (is_on registered : Bool) → is_some granted ≡ is_on → (is_on ≡ true → registered ≡ true) → registered ≡ false → granted ≡ None
no_login None is_on registered is there off = refl
no_login (Some n) is_on registered is there off = absurd (true≢false (sym (there (sym is)) ∙ off))

pub knows : (granted : ℕ) (now : Replay) (at : Between) → TalksPlainly granted at [] → FollowsReplay granted now at → KnowsCredits granted now at.client.granted at.client.outgoing
knows granted now at talks holds = record {
  is_on = holds.credits.is_on;
  grants = by talks.phase;
  most = talks.calm.most;
  are = holds.credits.outstanding;
  within = holds.credits.within;
}
  where
    by : InPhase granted at [] → (at.client.granted ≡ None) ⊎ (at.client.granted ≡ Some (min granted 200))
    by (inl away) = inl (no_login at.client.granted now.is_on at.own.registered holds.credits.is_on holds.credits.there away.registered)
    by (inr (inl begun)) = inl begun.granted
    by (inr (inr (asked, answers, talk))) = talk.login.credits

-- the replay and the client agree where the client is as it was
pub follows_still : (granted : ℕ) (now : Replay) (at at' : Between) → FollowsReplay granted now at → at'.client ≡ at.client → at'.own.registered ≡ at.own.registered → FollowsReplay granted now at'
follows_still granted now at at' holds client registered = record {
  tag = ap next_tag client ∙ holds.tag;
  login = ap (λ (s : ClientState). s.login) client ∙ holds.login;
  settled = λ waits. holds.settled (sym (ap (λ (s : ClientState). s.handshake) client) ∙ waits);
  fresh = λ off. ap (λ (s : ClientState). s.kept) client ∙ holds.fresh (sym registered ∙ off);
  credits = record {
    is_on = ap (λ (s : ClientState). is_some s.granted) client ∙ holds.credits.is_on;
    there = λ on. registered ∙ holds.credits.there on;
    outstanding = subst (λ (s : ClientState). AreReplayedAs s.outgoing now.outstanding) (sym client) holds.credits.outstanding;
    none = holds.credits.none;
    within = holds.credits.within;
  };
}

-- ---- what a line says that sends something

-- How a line ends that sends something unless this speaks against it, and what the replay has once it was sent.
pub record SendsUnless (granted pages : ℕ) (verb : Verb) (now : Replay) (why : Option Outcome) (sent : Replay) : Type 0 where
  pub come : (p : Progress) (at : Between) → HasCome granted verb p now at → FollowsReplay granted now at
  pub ends : ends_as granted pages now verb ≡ Some (sent_unless why now)
  pub after : after_line granted pages now verb ≡ left_unless why now sent

ends_so : (granted pages : ℕ) (verb : Verb) (p : Progress) (now : Replay) (why : Option Outcome) (sent : Replay) (at : Between) (words : List Word) (outcome : Outcome)
    → at.window.place.size ≡ pages → SendsUnless granted pages verb now why sent → outcome ≡ sent_unless why now → FollowsReplay granted (left_unless why now sent) at
    → IsAsReplayed granted verb p now at words (steps.Ends outcome)
ends_so granted pages verb p now why sent at words outcome same says is holds =
    subst (λ (n : ℕ). IfSome (ends_as granted n now verb) (λ said. outcome ≡ said) × FollowsReplay granted (after_line granted n now verb) at) (sym same)
    (subst (λ (o : Option Outcome). IfSome o (λ said. outcome ≡ said)) (sym says.ends) is, subst (λ (r : Replay). FollowsReplay granted r at) (sym says.after) holds)

-- What is so of a call that sends something: why it is refused, if it is; what it leaves once it sent; and that nothing else
-- keeps it from sending but want of memory.
pub record AsksSo (granted : ℕ) (now sent : Replay) (at at' : Between) (why : Option Refused) (answer : Result ℕ Refused) : Type 0 where
  pub says : (x : Refused) → why ≡ Some x → says_as x ≡ None → ⊥
  pub refused : IfSome why (λ x. (answer ≡ Err x) × (at'.client ≡ at.client) × (at'.own ≡ at.own) × (at'.window ≡ at.window))
  pub went : (tag : ℕ) → answer ≡ Ok tag → (why ≡ None) × (tag ≡ now.tag) × FollowsReplay granted sent at' × (words : List Word) × TalksPlainly granted at' words × AsksAnew (length at.client.rows) at'.client words
  pub unsent : (x : Refused) → answer ≡ Err x → why ≡ None → x ≡ whys.NoMemory

err_same : (x y : Refused) → ◌≡◌ {A = Result ℕ Refused} (Err x) (Err y) → x ≡ y
err_same x y e = cc (e)

no_ok : (r : Result Step NoMemory) (P : Step → Type 0) → IsErr r → IfOk r P
no_ok (Ok step) P is = absurd (true≢false (sym is))
no_ok (Err memory) P is = tt

-- nothing was done
pub stood_still : (at at' : Between) (granted : ℕ) → TalksPlainly granted at [] → ServerStays at at' → at'.client ≡ at.client → at'.own ≡ at.own → at'.window ≡ at.window
    → TalksPlainly granted at' []
stood_still at at' granted talks stays client own window =
    plainly_still (λ o. ⊤) granted at at' talks (record {
      server = stays;
      client = client;
      sent = ap (λ (e : EndState). e.sent) own;
      registered = ap (λ (e : EndState). e.registered) own;
      kept = ap (λ (e : EndState). e.kept) own;
      come = ap to_come own;
      slots = ap (λ (e : EndState). e.place.own_slots) own;
      window = record { own = subst IsOwnWindow (sym window) talks.calm.usable; keeps = keeps_same at.window at'.window window };
      spares = all_true (awaited at.client);
      tables = data_kept at.window at'.window window;
    })

-- nothing was asked, and no row came
pub none_anew : (s s' : ClientState) → length s'.rows ≡ length s.rows → AsksAnew (length s.rows) s' []
none_anew s s' same = record { more = omega (arith, same); asked = All-nil (IsNewWord (length s.rows) (length s'.rows)); logins = All-nil (KeepsLogin s'.rows) }

-- a refusal grants no login
refused_none : (why : Refused) → IfSome (says_as why) (λ said. grants said ≡ false)
refused_none whys.Range = refl
refused_none whys.NotLoggedIn = refl
refused_none (whys.NoCredit limit) = refl
refused_none (whys.Overlap tag) = refl
refused_none (whys.InUse page word) = tt
refused_none (whys.Closed control) = refl
refused_none (whys.Dropped number held) = refl
refused_none whys.NoMemory = tt

-- nor does it say that one was rejected
refused_no : (why : Refused) → IfSome (says_as why) (λ said. (who : UnitId) (strokes : ℕ → Option (List StrokeValue)) → IsOfRejection said who strokes)
refused_no whys.Range = λ who strokes. tt
refused_no whys.NotLoggedIn = λ who strokes. tt
refused_no (whys.NoCredit limit) = λ who strokes. tt
refused_no (whys.Overlap tag) = λ who strokes. tt
refused_no (whys.InUse page word) = tt
refused_no (whys.Closed control) = λ who strokes. tt
refused_no (whys.Dropped number held) = λ who strokes. tt
refused_no whys.NoMemory = tt

tells_refused : (verb : Verb) (outcome : Outcome) (who : UnitId) (strokes : ℕ → Option (List StrokeValue))
    → ((who : UnitId) (strokes : ℕ → Option (List StrokeValue)) → IsOfRejection outcome who strokes) → TellsRejection verb outcome who strokes
tells_refused verbs.Login outcome who strokes none = none who strokes
tells_refused verb outcome who strokes none = tt

tells_sent : (verb : Verb) (tag : ℕ) (who : UnitId) (strokes : ℕ → Option (List StrokeValue)) → TellsRejection verb (outcomes.Sent tag) who strokes
tells_sent verb tag who strokes = tells_refused verb (outcomes.Sent tag) who strokes (λ who strokes. tt)

pub asks_on : (granted : ℕ) (verb : Verb) (p : Progress) (now sent : Replay) (at at' : Between) (before after : List AnswerRow) (why : Option Refused) (answer : Result ℕ Refused) (result : Result Step NoMemory)
    → after ≡ before → SendsUnless granted at.window.place.size verb now (says_of why) sent → TalksPlainly granted at [] → FollowsReplay granted now at → ServerStays at at'
    → at'.window.place ≡ at.window.place → AsksSo granted now sent at at' why answer → SaysSent answer result → IfErr answer (λ x. SaysWhy x result)
    → IfErr answer (λ x. x ≡ whys.NoMemory → IsErr result) → IfOk result (StepsOn granted verb p now (length at.client.rows) (owes at []) before after at')
asks_on granted verb p now sent at at' before after why (Ok tag) result noted ends talks holds stays place asks says reason memory =
    subst (λ (r : Result Step NoMemory). IfOk r (StepsOn granted verb p now (length at.client.rows) (owes at []) before after at')) (sym says) (record {
      words = went.3;
      talks = went.4;
      anew = went.5;
      told = told_idle granted (owes at []) at' went.3 (steps.Ends (outcomes.Sent tag)) went.4 went.2.login refl;
      laid = tells_sent verb tag at'.unit.id at'.window.strokes;
      noted = notes_same at'.window.place.unit at'.window.strokes before after noted;
      replayed = ends_so granted at.window.place.size verb p now None sent at' went.3 (outcomes.Sent tag) (ap (λ place. place.size) place)
          (subst (λ (w : Option Refused). SendsUnless granted at.window.place.size verb now (says_of w) sent) went.0 ends) (ap (λ (n : ℕ). outcomes.Sent n) went.1) went.2;
    })
  where
    went : (why ≡ None) × (tag ≡ now.tag) × FollowsReplay granted sent at' × (words : List Word) × TalksPlainly granted at' words × AsksAnew (length at.client.rows) at'.client words
    went = asks.went tag refl
asks_on granted verb p now sent at at' before after why (Err x) result noted ends talks holds stays place asks says reason memory = by why refl asks.refused
  where
    by : (w : Option Refused) → why ≡ w → IfSome w (λ y. (◌≡◌ {A = Result ℕ Refused} (Err x) (Err y)) × (at'.client ≡ at.client) × (at'.own ≡ at.own) × (at'.window ≡ at.window))
        → IfOk result (StepsOn granted verb p now (length at.client.rows) (owes at []) before after at')
    by None none still = no_ok result (StepsOn granted verb p now (length at.client.rows) (owes at []) before after at') (memory (asks.unsent x refl none))
    by (Some y) some still = at_result result reason
      where
        same : x ≡ y
        same = err_same x y still.0

        still' : TalksPlainly granted at' []
        still' = stood_still at at' granted talks stays still.1 still.2 still.3

        at_result : (r : Result Step NoMemory) → SaysWhy x r → IfOk r (StepsOn granted verb p now (length at.client.rows) (owes at []) before after at')
        at_result (Ok (steps.Ends outcome)) is = record {
          words = [];
          talks = still';
          told = told_idle granted (owes at []) at' [] (steps.Ends outcome) still' (ap (λ (s : ClientState). s.login) still.1 ∙ holds.login)
              (ap one_if (subst (λ (o : Option Outcome). IfSome o (λ said. grants said ≡ false)) is (refused_none x)));
          laid = tells_refused verb outcome at'.unit.id at'.window.strokes
              (subst (λ (o : Option Outcome). IfSome o (λ said. (who : UnitId) (strokes : ℕ → Option (List StrokeValue)) → IsOfRejection said who strokes)) is (refused_no x));
          noted = notes_same at'.window.place.unit at'.window.strokes before after noted;
          anew = none_anew at.client at'.client (ap (λ (s : ClientState). length s.rows) still.1);
          replayed = ends_so granted at.window.place.size verb p now (Some outcome) sent at' [] outcome (ap (λ place. place.size) place)
              (subst (λ (o : Option Outcome). SendsUnless granted at.window.place.size verb now o sent) (ap says_of some ∙ ap says_as (sym same) ∙ is) ends) refl
              (follows_still granted now at at' holds still.1 (ap (λ (e : EndState). e.registered) still.2));
        }
        at_result (Ok (steps.Waits did)) none = absurd (asks.says y some (ap says_as (sym same) ∙ none))
        at_result (Err out) is = tt
