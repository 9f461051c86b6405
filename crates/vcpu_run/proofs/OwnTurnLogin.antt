-- An own client's login at its pair, its server unit's session being over, or having been: what a step of it leaves.
use Rattle.std.proofs.Common.{◌≡◌, ◌∙◌, ◌⊎◌, inl, inr, ℕ, ◌+◌, ◌≤◌, ◌==◌, ◌++◌, Bool, true, false, true≢false, cond, List, [], ◌∷◌, Option, Some, arith, refl, sym, ap, subst}
use Rattle.std.specs.Borrow.{GName}
use Rattle.boot_text.specs.declared.plan.Line.{Line}
use Rattle.boot_text.specs.declared.verb.Verb.{Verb}
use Rattle.boot_text.specs.declared.verb.Verb.TheVariants as verbs
use Rattle.crq_session.specs.EndState.{EndState}
use Rattle.crq_session.specs.PlainState.{end_of}
use Rattle.tce_window.specs.PlainPort.{known_of}
use Rattle.vio_num.specs.declared.names.UnitId.{UnitId}
use Rattle.vio_trace.specs.declared.outcome.Outcome.{Outcome}
use Rattle.vio_trace.specs.declared.outcome.Outcome.TheVariants as outcomes
use Rattle.block_server.specs.Doings.{Doing}
use Rattle.block_server.specs.declared.unit.Unit.{Unit}
use Rattle.unit_region.specs.declared.step.Step.{Step}
use Rattle.unit_region.specs.declared.step.Step.TheVariants as steps
use Rattle.vscsi_client.specs.State.{ClientState}
use Rattle.vscsi_client.specs.Turned.{Site}
use Rattle.vscsi_client.specs.declared.answers.LoginTurn.{LoginTurn}
use Rattle.vscsi_client.specs.declared.answers.LoginTurn.TheVariants as turns
use Rattle.vcpu_run.specs.Acts.{ActsFor, LogsInOnce, site_of}
use Rattle.vcpu_run.specs.ActsAt.{acting_at}
use Rattle.vcpu_run.specs.Credited.{Ended}
use Rattle.vcpu_run.specs.Machines.{server_id}
use Rattle.vcpu_run.specs.OwnJoins.{JoinsNow, TurnEnds, TurnLeft, TurnsOver}
use Rattle.vcpu_run.specs.OwnPairs.{ComesOver, IsMidLogin, IsOverOwn, RestsIdle, StandsOver, doing_of}
use Rattle.vcpu_run.specs.OwnTurned.{ComesWithin, OverOrTalks, StepsOver}
use Rattle.vcpu_run.specs.Pairs.{Drives}
use Rattle.vcpu_run.specs.PlainClients.{granted_in, grants_of}
use Rattle.vcpu_run.specs.PlainPairs.{ServerBooks}
use Rattle.vcpu_run.specs.PlainRejected.{HasRejection, IsOfRejection, TellsRejection}
use Rattle.vcpu_run.specs.PlainScripts.{OfUnit}
use Rattle.vcpu_run.specs.PlainTalk.{grants_one}
use Rattle.vcpu_run.specs.Sendings.{SaysTurned}
use Rattle.vcpu_run.specs.declared.driver.Driver.{Driver}
use Rattle.vcpu_run.specs.declared.pair.Pair.{Pair}
use Rattle.vcpu_run.specs.declared.script.Progress.{Progress}
use Rattle.vcpu_run.specs.declared.script.Progress.TheVariants as progress
use Rattle.vcpu_run.proofs.OwnActLines.{stands_any}
use Rattle.vcpu_run.proofs.OwnActOwn.{by_answers, over_by, seen_by}
use Rattle.vcpu_run.proofs.OwnTurnJoins.{joins_pair, stays_pair}
use Rattle.vcpu_run.proofs.OwnWritten.{due_turned}
use Rattle.vcpu_run.proofs.PlainScripted.{granted_more}
use Rattle.vcpu_run.proofs.RejoinLogins.{BeginsIn, over_login}

-- ---- which logins are owed

-- no more than were
owed_kept : (told told' n : ℕ) (was now : Bool) → (now ≡ true → was ≡ true) → told' ≤ told → told + cond was 1 0 ≤ n → told' + cond now 1 0 ≤ n
owed_kept told told' n was false fewer less owed = omega (arith, less, owed)
owed_kept told told' n true true fewer less owed = omega (arith, less, owed)
owed_kept told told' n false true fewer less owed = absurd (true≢false (sym (fewer refl)))

-- one of them was granted
owed_one : (told told' n : ℕ) (was : Bool) → was ≡ true → told' ≡ told + 1 → told + cond was 1 0 ≤ n → told' ≤ n
owed_one told told' n true is one owed = omega (arith, one, owed)
owed_one told told' n false is one owed = absurd (true≢false (sym is))

owed_last : (told n : ℕ) (now : Bool) → (now ≡ true → false ≡ true) → told ≤ n → told + cond now 1 0 ≤ n
owed_last told n true none less = absurd (true≢false (sym (none refl)))
owed_last told n false none less = omega (arith, less)

-- ---- how a turn begins

-- the client of a line of this unit came so far
pub line_comes : (u : ℕ) (line : Line) (p : Progress) (s : ClientState) (own : EndState) → (line.unit == u) ≡ true → StandsOver u false (Some line) p s own → ComesOver line.verb p s own
line_comes u line p s own its (inl stands) = subst (λ (b : Bool). OfUnit b (ComesOver line.verb p s own) (RestsIdle s × (own.registered ≡ true))) its stands.1
line_comes u line p s own its (inr failed) = absurd (true≢false (sym failed.0))

pub line_stands : (u : ℕ) (line : Line) (p : Progress) (s : ClientState) (own : EndState) → (line.unit == u) ≡ true → ComesOver line.verb p s own → StandsOver u false (Some line) p s own
line_stands u line p s own its comes =
    inl (refl, subst (λ (b : Bool). OfUnit b (ComesOver line.verb p s own) (RestsIdle s × (own.registered ≡ true))) (sym its) comes)

begins_pair : (names : List GName) (granted : ℕ) (told : List Ended) (home u k : ℕ) (books : ServerBooks) (line : Option Line) (p : Progress) (unit : Unit) (driver : Driver) (pair : Pair)
    → (is : IsOverOwn granted false told home u k books line p unit driver pair) → IsMidLogin driver.client → ComesWithin pair
    → BeginsIn (grants_one is.over.answers) granted (doing_of unit home k books pair) (site_of (acting_at names driver pair))
begins_pair names granted told home u k books line p unit driver pair is mid within = record {
  seen = seen_by [] names (doing_of unit home k books pair) pair is.seen;
  over = over_by [] names granted false (doing_of unit home k books pair) driver.client pair is.seen is.over;
  fewer = λ some. sym (ap grants_one (by_answers [] names granted false (doing_of unit home k books pair) driver.client pair is.seen is.over)) ∙ some;
  settled = mid.settled;
  room = λ on. within;
}

-- ---- a turn of a login

-- What is so of a line that is in the midst of a login, and comes to it again if it is to be gone on with.
pub record LogsAt (granted : ℕ) (told : List Ended) (home u k : ℕ) (books : ServerBooks) (line : Line) (p p' : Progress) (unit : Unit) (a b : Driver) (old new : Pair) : Type 0 where
  pub own : (line.unit == u) ≡ true
  pub id : unit.id ≡ server_id home k
  pub drives : Drives old new
  pub there : new.driver ≡ Some b
  pub is : IsOverOwn granted false told home u k books (Some line) p unit a old
  pub mid : IsMidLogin a.client
  pub within : ComesWithin old
  pub comes : IsMidLogin b.client → ComesOver line.verb p' b.client (end_of [] new.link false)
  pub tells : (outcome : Outcome) → IsOfRejection outcome (server_id home k) (known_of new.window).strokes → TellsRejection line.verb outcome (server_id home k) (known_of new.window).strokes

pub logs_pair : (names : List GName) (granted : ℕ) (told : List Ended) (lines : List Line) (home u k : ℕ) (books : ServerBooks) (line : Line) (line' : Option Line) (p p' : Progress) (unit : Unit)
    (a b : Driver) (old new : Pair) (step : Step) → LogsAt granted told home u k books line p p' unit a b old new
    → LogsInOnce line.number (acting_at names a old) (acting_at names b new) step → StepsOver granted told lines home u k books line line' p' unit b new step
logs_pair names granted told lines home u k books line line' p p' unit a b old new step at logs =
    by logs.turn (over_login promised granted line.number d sa sb logs.turn (begins_pair names granted told home u k books (Some line) p unit a old at.is at.mid at.within) logs.turned) step logs.says
  where
    promised : Bool
    promised = grants_one at.is.over.answers

    d : Doing
    d = doing_of unit home k books old

    sa : Site
    sa = site_of (acting_at names a old)

    sb : Site
    sb = site_of (acting_at names b new)

    told_by : Outcome → List Ended
    told_by outcome = told ++ record { verb = line.verb; outcome = outcome } ∷ []

    -- it is to be gone on with
    waits : TurnsOver promised granted d sa sb → IsOverOwn granted false told home u k books (Some line) p' unit b new
    waits over = stays_pair names granted false false told told home u k books (Some line) (Some line) p p' unit a b old new at.drives at.is over.stays
        (owed_kept (granted_in told) (granted_in told) (grants_of (server_id home k) books.lines) promised (grants_one over.stays.over.answers) over.fewer (omega arith) at.is.owed)
        (line_stands u line p' b.client (end_of [] new.link false) at.own (at.comes (record {
          settled = over.settled;
          due = due_turned line.number sa sb logs.turn logs.turned at.mid.due;
        })))

    -- it ended
    ends : (later : Bool) (outcome : Outcome) → (end : TurnEnds later granted d sa sb)
        → granted_in (told_by outcome) + cond (grants_one end.over.stays.over.answers) 1 0 ≤ grants_of (server_id home k) books.lines
        → OverOrTalks granted false (told_by outcome) lines home u k books line' progress.Fresh unit b new
    ends later outcome end owed = inr (stays_pair names granted false false told (told_by outcome) home u k books (Some line) line' p progress.Fresh unit a b old new at.drives at.is end.over.stays owed
        (stands_any u line' progress.Fresh b.client (end_of [] new.link false) (record { settled = end.over.settled; login = end.login }) end.registered))

    -- and no login was granted
    ends_none : (outcome : Outcome) → granted_in (told_by outcome) ≤ granted_in told → TurnEnds promised granted d sa sb
        → OverOrTalks granted false (told_by outcome) lines home u k books line' progress.Fresh unit b new
    ends_none outcome less end = ends promised outcome end
        (owed_kept (granted_in told) (granted_in (told_by outcome)) (grants_of (server_id home k) books.lines) promised (grants_one end.over.stays.over.answers) end.over.fewer less at.is.owed)

    -- or one was
    grants : (credits : ℕ) → promised ≡ true → TurnEnds false granted d sa sb ⊎ JoinsNow granted d b.client sa.at sb.at
        → OverOrTalks granted false (told_by (outcomes.Granted credits)) lines home u k books line' progress.Fresh unit b new
    grants credits is = by
      where
        less : granted_in (told_by (outcomes.Granted credits)) ≤ grants_of (server_id home k) books.lines
        less = owed_one (granted_in told) (granted_in (told_by (outcomes.Granted credits))) (grants_of (server_id home k) books.lines) promised is
            (granted_more told (record { verb = line.verb; outcome = outcomes.Granted credits })) at.is.owed

        by : TurnEnds false granted d sa sb ⊎ JoinsNow granted d b.client sa.at sb.at → OverOrTalks granted false (told_by (outcomes.Granted credits)) lines home u k books line' progress.Fresh unit b new
        by (inl end) = ends false (outcomes.Granted credits) end
            (owed_last (granted_in (told_by (outcomes.Granted credits))) (grants_of (server_id home k) books.lines) (grants_one end.over.stays.over.answers) end.over.fewer less)
        by (inr joins) = inl (joins_pair names granted false told (told_by (outcomes.Granted credits)) lines home u k books (Some line) line' p unit a b old new at.drives at.there at.is joins less)

    rejection : (reason : ℕ) → HasRejection d.id reason sb.at.own.strokes → HasRejection (server_id home k) reason (known_of new.window).strokes
    rejection reason has = subst (λ (who : UnitId). HasRejection who reason (known_of new.window).strokes) at.id has

    by : (turn : LoginTurn) → TurnLeft promised granted d sa sb turn → (step : Step) → SaysTurned turn step → StepsOver granted told lines home u k books line line' p' unit b new step
    by turns.Again left (steps.Waits did) says = waits left
    by turns.Again left (steps.Ends outcome) says = absurd says
    by (turns.Busy number held) left (steps.Waits did) says = waits left.0
    by (turns.Busy number held) left (steps.Ends outcome) says = absurd says
    by (turns.Granted credits) left step says =
        subst (λ (s : Step). StepsOver granted told lines home u k books line line' p' unit b new s) (sym says)
        (grants credits left.1 left.2, at.tells (outcomes.Granted credits) tt, left.0)
    by (turns.Rejected reason) left step says =
        subst (λ (s : Step). StepsOver granted told lines home u k books line line' p' unit b new s) (sym says) (
          ends_none (outcomes.Rejected reason) (omega (arith, granted_more told (record { verb = line.verb; outcome = outcomes.Rejected reason }))) left.0,
          at.tells (outcomes.Rejected reason) (rejection reason left.1.1),
          tt,
        )
    by turns.Lost left step says =
        subst (λ (s : Step). StepsOver granted told lines home u k books line line' p' unit b new s) (sym says)
        (ends_none outcomes.Lost (omega (arith, granted_more told (record { verb = line.verb; outcome = outcomes.Lost }))) left.0, at.tells outcomes.Lost tt, tt)

-- ---- a line that logs in

pub login_pair : (names : List GName) (granted : ℕ) (told : List Ended) (lines : List Line) (home u k : ℕ) (books : ServerBooks) (line : Line) (line' : Option Line) (p p' : Progress) (unit : Unit)
    (a b : Driver) (old new : Pair) (step : Step) → (line.unit == u) ≡ true → line.verb ≡ verbs.Login → unit.id ≡ server_id home k → Drives old new → new.driver ≡ Some b
    → IsOverOwn granted false told home u k books (Some line) p unit a old → ComesWithin old
    → ActsFor line.number line.verb p p' (acting_at names a old) (acting_at names b new) step → StepsOver granted told lines home u k books line line' p' unit b new step
login_pair names granted told lines home u k books line line' p p' unit a b old new step own verb id drives there is within acts =
    logs_pair names granted told lines home u k books line line' p p' unit a b old new step at
    (subst (λ (v : Verb). ActsFor line.number v p p' (acting_at names a old) (acting_at names b new) step) verb acts)
  where
    at : LogsAt granted told home u k books line p p' unit a b old new
    at = record {
      own = own;
      id = id;
      drives = drives;
      there = there;
      is = is;
      mid = subst (λ (v : Verb). ComesOver v p a.client (end_of [] old.link false)) verb (line_comes u line p a.client (end_of [] old.link false) own is.stands);
      within = within;
      comes = λ mid. subst (λ (v : Verb). ComesOver v p' b.client (end_of [] new.link false)) (sym verb) mid;
      tells = λ outcome of. subst (λ (v : Verb). TellsRejection v outcome (server_id home k) (known_of new.window).strokes) (sym verb) of;
    }
