-- A turn of the server unit at the pair of an own client that talks to it, where the turn has the rights that it needs: the two talk behind it, and
-- nothing is to come.
use Rattle.std.proofs.Common.{◌≡◌, ◌≢◌, ◌∙◌, ℕ, false, true, List, [], Option, Some, slice_get, refl, sym, ap, subst}
use Rattle.std.specs.Borrow.{GName}
use Rattle.boot_text.specs.declared.plan.Line.{Line}
use Rattle.vio_num.specs.declared.names.UnitId.{UnitId}
use Rattle.crq_session.specs.PlainState.{end_of, side_of}
use Rattle.tce_window.specs.PlainPort.{known_of}
use Rattle.block_server.specs.Ranges.{Known, WritesOn, known_in, seen_in}
use Rattle.block_server.specs.Receipts.{LinesMore}
use Rattle.block_server.specs.RowsOn.{RowsOn}
use Rattle.block_server.specs.Standing.{LeavesOn, stood}
use Rattle.block_server.specs.Talk.{IsTurnReady, Word, reach, talk_of}
use Rattle.block_server.specs.declared.unit.Unit.{Unit}
use Rattle.vcpu_run.specs.Credited.{Ended}
use Rattle.vcpu_run.specs.Machines.{server_id}
use Rattle.vcpu_run.specs.OwnPairs.{TalksOwn}
use Rattle.vcpu_run.specs.PlainClients.{granted_in}
use Rattle.vcpu_run.specs.PlainPairs.{LeavesAway, ServerBooks, between_of}
use Rattle.vcpu_run.specs.PlainScripts.{PairIs}
use Rattle.vcpu_run.specs.PlainSteps.{WasFailed}
use Rattle.vcpu_run.specs.PlainTalk.{Between, ClientStays, IsOwnWindow, IsVacant, TalksPlainly}
use Rattle.vcpu_run.specs.declared.driver.Driver.{Driver}
use Rattle.vcpu_run.specs.declared.pair.Pair.{Pair}
use Rattle.vcpu_run.specs.declared.script.Progress.{Progress}
use Rattle.vcpu_run.proofs.Listed.{some_is}
use Rattle.vcpu_run.proofs.OwnQuiet.{rights_ready}
use Rattle.vcpu_run.proofs.OwnReady.{HasItsRights}
use Rattle.vcpu_run.proofs.PlainAnswered.{plainly_served}
use Rattle.vcpu_run.proofs.PlainGrants.{owed_behind}
use Rattle.vcpu_run.proofs.PlainPaired.{TurnsOn, client_stays}
use Rattle.vcpu_run.proofs.PlainSeated.{pair_was}
use Rattle.vcpu_run.proofs.PlainTurned.{lent_at, own_behind, talks_lent}
use Rattle.vcpu_run.proofs.PlainTurning.{failed_still, stands_moved}
use Rattle.vcpu_run.proofs.PlainTurns.{Turns}
use Rattle.vcpu_run.proofs.PlainUnserved.{away_vacant}

-- What the clauses of a turn that was ready say of the unit that is there behind it.
pub record TurnsTalk (name : UnitId) (books books' : ServerBooks) (words : List Word) (at at' : Between) : Type 0 where
  pub turn : Turns at at' books.lines books'.lines words
  pub wrote : WritesOn (stood at.window) at.unit at.server words (seen_in false at.window) (seen_in false at'.window)
  pub left : LeavesOn name at.unit at.server words at'.server at.window at'.window books.rows books'.rows
  pub rows : RowsOn at.unit at.server words books.rows books'.rows

pub turns_talk : (k : ℕ) (name : UnitId) (books books' : ServerBooks) (a b : List GName) (words : List Word) (unit unit' : Unit) (driver : Driver) (old new : Pair)
    → slice_get books.units k ≡ Some unit → slice_get books'.units k ≡ Some unit'
    → TurnsOn name books books' k (end_of a old.link true) (end_of b new.link true) (known_of old.window) (known_of new.window)
    → IsTurnReady unit (reach (end_of a old.link true) (known_of old.window) false) false words
    → TurnsTalk name books books' words (lent_at a [] (between_of unit driver old)) (lent_at b [] (between_of unit' driver new))
turns_talk k name books books' a b words unit unit' driver old new there there' turns ready =
    let on = turns.talks words unit there ready in
    record {
      turn = subst (λ (u : Unit). Turns (lent_at a [] (between_of unit driver old)) (lent_at b [] (between_of u driver new)) books.lines books'.lines words)
          (some_is on.unit' unit' (sym on.there ∙ there')) on.talks;
      wrote = turns.places words unit there ready;
      left = turns.leaves words unit there ready;
      rows = turns.rows words unit there ready;
    }

-- nobody laid anything in the window of a client whose queue is not registered
pub leaves_away : (granted : ℕ) (name : UnitId) (books books' : ServerBooks) (a b : List GName) (words : List Word) (unit unit' : Unit) (driver : Driver) (old new : Pair)
    → (known_of new.window).place ≡ (known_of old.window).place → TalksPlainly granted (lent_at a [] (between_of unit driver old)) words
    → TurnsTalk name books books' words (lent_at a [] (between_of unit driver old)) (lent_at b [] (between_of unit' driver new)) → LeavesAway old new
leaves_away granted name books books' a b words unit unit' driver old new place talks on off =
    let vacant : IsVacant on.turn.middle =
    away_vacant granted (lent_at a [] (between_of unit driver old)) (lent_at b [] (between_of unit' driver new)) books.lines books'.lines words talks off on.turn in
    let same : known_in (known_of new.window) ≡ known_in (known_of old.window) =
    some_is (known_in (known_of new.window)) (known_in (known_of old.window)) (on.wrote.none (talk_of on.turn.middle) on.turn.hears.heard vacant.pending) in
    (place, λ page. ap (λ (known : Known). known.strokes page) same)

-- so one whose partition failed is as it was
away_failed : (old new : Pair) (unit : Unit) (driver : Driver) → old.driver ≡ Some driver → new.driver ≡ old.driver → (side_of new.link false).registered ≡ (side_of old.link false).registered
    → LeavesAway old new → PairIs WasFailed old → PairIs WasFailed new
away_failed old new unit driver there same queue leaves failed =
    let was : WasFailed (between_of unit driver old) = pair_was WasFailed old driver there failed unit in
    let still = leaves was.registered in
    failed_still old new same queue still.0 still.1 failed

pub served_rights : (granted : ℕ) (told : List Ended) (lines : List Line) (home u k many : ℕ) (name : UnitId) (books books' : ServerBooks) (a b : List GName) (words : List Word)
    (line : Option Line) (p : Progress) (unit unit' : Unit) (driver : Driver) (old new : Pair) → slice_get books.units k ≡ Some unit → slice_get books'.units k ≡ Some unit'
    → unit.id ≡ server_id home k → name ≡ server_id home k → old.driver ≡ Some driver → new.driver ≡ old.driver → old.window.unit ≢ server_id home k
    → ∥ LinesMore (server_id home k) many books.lines books'.lines ∥₁ → TurnsOn name books books' k (end_of a old.link true) (end_of b new.link true) (known_of old.window) (known_of new.window)
    → HasItsRights (lent_at a [] (between_of unit driver old)) words → TalksOwn granted told lines home u k books words line p unit driver old
    → TalksOwn granted told lines home u k books' [] line p unit' driver new
served_rights granted told lines home u k many name books books' a b words line p unit unit' driver old new there there' own_id called driver_is same apart more turns rights is = record {
  talks = talks_lent [] [] granted at' [] after;
  owed = owed_behind (server_id home k) (granted_in told) many at at' books.lines books'.lines words refl stays.registered on.turn more is.owed;
  now = is.now;
  spares = is.spares;
  stands = stands_moved granted u line p is.now old new
      (away_failed old new unit driver driver_is same stays.registered (leaves_away granted name books books' a b words unit unit' driver old new turns.window_place talks on)) same stays.registered is.stands;
}
  where
    at : Between
    at = lent_at a [] (between_of unit driver old)

    at' : Between
    at' = lent_at b [] (between_of unit' driver new)

    talks : TalksPlainly granted at words
    talks = talks_lent a [] granted (between_of unit driver old) words is.talks

    on : TurnsTalk name books books' words at at'
    on = turns_talk k name books books' a b words unit unit' driver old new there there' turns (rights_ready granted at words talks.calm talks.phase rights)

    own : IsOwnWindow at'.window
    own = own_behind at at' books.lines books'.lines words on.turn talks.calm.usable turns.window_place on.wrote

    stays : ClientStays at at'
    stays = client_stays a b unit unit' driver old new turns.place turns.partner turns.put turns.took talks.calm.ends.own_took own

    id : at'.unit.id ≡ at.unit.id
    id = turns.ids unit unit' there there'

    after : TalksPlainly granted at' []
    after = plainly_served granted at at' books.lines books'.lines books.rows books'.rows name words talks on.turn stays id (called ∙ sym (id ∙ own_id)) (λ e. apart (e ∙ id ∙ own_id))
        turns.window_place on.wrote on.left
