-- A turn of the server unit at an own client's pair, where the two talk and the turn has the rights that it needs: they talk behind it, nothing is to
-- come, and what was laid, noted, counted and told stands as well.
use Rattle.std.proofs.Common.{◌≡◌, ◌∙◌, ◌⊎◌, ◌≤◌, ◌++◌, inl, inr, ℕ, All, Bool, true, false, List, [], Option, Some, length, map, slice_get, refl, sym, ap, subst}
use Rattle.std.specs.Borrow.{GName}
use Rattle.boot_text.specs.declared.plan.Line.{Line}
use Rattle.vio_num.specs.declared.names.UnitId.{UnitId}
use Rattle.vio_num.specs.declared.history.Grant.{Grant}
use Rattle.crq_ring.specs.declared.rows.PipeRow.{PipeRow}
use Rattle.crq_session.specs.Answered.{taken_now}
use Rattle.crq_session.specs.EndState.{EndState}
use Rattle.crq_session.specs.PlainState.{end_of}
use Rattle.srp_iu.specs.declared.unit.Iu.{Iu}
use Rattle.tce_window.specs.PlainPort.{known_of}
use Rattle.block_server.specs.Doings.{DoesTurn}
use Rattle.block_server.specs.Judged.{row_in}
use Rattle.block_server.specs.Ranges.{known_in}
use Rattle.block_server.specs.Receipts.{LinesMore}
use Rattle.block_server.specs.RowsOn.{row_tag}
use Rattle.block_server.specs.Talk.{HearsAll, ServesNext, Talk, Word, talk_of}
use Rattle.block_server.specs.declared.unit.Unit.{Unit}
use Rattle.vscsi_client.specs.State.{ClientState}
use Rattle.vcpu_run.specs.Credited.{Ended}
use Rattle.vcpu_run.specs.Machines.{server_id}
use Rattle.vcpu_run.specs.OwnClients.{IsGrantOf}
use Rattle.vcpu_run.specs.OwnCounts.{KeepsPair}
use Rattle.vcpu_run.specs.OwnDoing.{DoesAt, HeardAt}
use Rattle.vcpu_run.specs.OwnKinds.{IsOfKind}
use Rattle.vcpu_run.specs.OwnPairs.{IsOwnPair, TalksOwn, doing_of}
use Rattle.vcpu_run.specs.OwnTurns.{StillTalks}
use Rattle.vcpu_run.specs.PlainBorne.{rows_by}
use Rattle.vcpu_run.specs.PlainPairs.{ServerBooks, between_of}
use Rattle.vcpu_run.specs.PlainTalk.{AskedParts, Between, HearsOfClient, HearsOfGone, InPhase, IsAway, IsBeginning, IsTalking, TalksPlainly}
use Rattle.vcpu_run.specs.declared.driver.Driver.{Driver}
use Rattle.vcpu_run.specs.declared.pair.Pair.{Pair}
use Rattle.vcpu_run.specs.declared.script.Progress.{Progress}
use Rattle.vcpu_run.proofs.Listed.{some_is}
use Rattle.vcpu_run.proofs.OwnQuiet.{away_rights, beginning_rights, rights_ready}
use Rattle.vcpu_run.proofs.OwnReady.{HasItsRights}
use Rattle.vcpu_run.proofs.OwnServedKinds.{kinds_heard}
use Rattle.vcpu_run.proofs.OwnServedRows.{kept_same, kept_served}
use Rattle.vcpu_run.proofs.OwnServedSplit.{calm_rests, does_there, still_rights, talks_kept, talks_put}
use Rattle.vcpu_run.proofs.OwnServedTalks.{TurnsTalk, served_rights, turns_talk}
use Rattle.vcpu_run.proofs.OwnStrokes.{turn_strokes}
use Rattle.vcpu_run.proofs.PlainPaired.{TurnsOn}
use Rattle.vcpu_run.proofs.PlainTurned.{lent_at, talk_lent, talks_lent}
use Rattle.vcpu_run.proofs.PlainTurns.{Turns}

-- ---- before both have heard of one another

-- nothing is pending once these are heard
abbrev HearsNothing : Between → List Word → Type 0
HearsNothing at words = (talk : Talk) → HearsAll (talk_of at.unit) (length (taken_now at.server)) words talk → talk.pending ≡ []

away_none : (at : Between) (words : List Word) → IsAway at words → HearsNothing at words
away_none at words away = by away.heard
  where
    by : HearsOfGone at words → HearsNothing at words
    by (inl one) = subst (HearsNothing at) (sym one) (λ talk heard. ap (λ (t : Talk). t.pending) heard.2 ∙ heard.1.loses.pending)
    by (inr none) = subst (HearsNothing at) (sym none.0) (λ talk heard. ap (λ (t : Talk). t.pending) heard ∙ none.1.pending)

begun_none : (at : Between) (words : List Word) → IsBeginning at words → HearsNothing at words
begun_none at words begun = by begun.heard
  where
    by : HearsOfClient at words → HearsNothing at words
    by (inl one) = subst (HearsNothing at) (sym one.0) (λ talk heard. ap (λ (t : Talk). t.pending) heard.2 ∙ ap (λ (t : Talk). t.pending) heard.1 ∙ begun.vacant.pending)
    by (inr none) = subst (HearsNothing at) (sym none.0) (λ talk heard. ap (λ (t : Talk). t.pending) heard ∙ begun.vacant.pending)

-- only what tells that it has heard of the client was put then
none_put : (s : ClientState) (lines lines' : List Grant) (words : List Word) (at at' : Between) → (turn : Turns at at' lines lines' words) → turn.middle.pending.items ≡ []
    → All (λ (row : PipeRow). IsOfKind s.rows row.entry) at.server.sent → All (λ (row : PipeRow). IsOfKind s.rows row.entry) at'.server.sent
none_put s lines lines' words at at' turn none put = by turn.serves
  where
    heard : All (λ (row : PipeRow). IsOfKind s.rows row.entry) turn.between.queue.sent
    heard = kinds_heard s at.server turn.between.queue words turn.hears.put put

    by : ServesNext turn.middle at'.unit turn.between.queue at'.server turn.added lines' → All (λ (row : PipeRow). IsOfKind s.rows row.entry) at'.server.sent
    by (inl nothing) = subst (λ (e : EndState). All (λ (row : PipeRow). IsOfKind s.rows row.entry) e.sent) (sym nothing.queue) heard
    by (inr (request, rest, items, first)) = absurd (cc (none, items))

none_kept : (told : List Ended) (home k : ℕ) (name : UnitId) (books books' : ServerBooks) (a b : List GName) (words : List Word) (unit unit' : Unit) (driver : Driver) (old new : Pair)
    → (known_of new.window).place ≡ (known_of old.window).place
    → TurnsTalk name books books' words (lent_at a [] (between_of unit driver old)) (lent_at b [] (between_of unit' driver new)) → HearsNothing (lent_at a [] (between_of unit driver old)) words
    → KeepsPair told (server_id home k) (rows_by (server_id home k) books.rows) driver old → KeepsPair told (server_id home k) (rows_by (server_id home k) books'.rows) driver new
none_kept told home k name books books' a b words unit unit' driver old new place on nothing keeps =
    let none : on.turn.middle.pending.items ≡ [] = nothing (talk_of on.turn.middle) on.turn.hears.heard in
    kept_same told (server_id home k) (rows_by (server_id home k) books.rows) (rows_by (server_id home k) books'.rows) driver old new place
    (some_is (known_in (known_of new.window)) (known_in (known_of old.window)) (on.wrote.none (talk_of on.turn.middle) on.turn.hears.heard none))
    (ap (rows_by (server_id home k)) (on.rows.none (talk_of on.turn.middle) on.turn.hears.heard none))
    (none_put driver.client books.lines books'.lines words (lent_at a [] (between_of unit driver old)) (lent_at b [] (between_of unit' driver new)) on.turn none keeps.kinds.put) keeps

-- ---- the turn

pub own_rights : (granted : ℕ) (failed : Bool) (told : List Ended) (lines : List Line) (home u k many : ℕ) (books books' : ServerBooks) (a b : List GName) (words : List Word)
    (line : Option Line) (p : Progress) (unit unit' : Unit) (driver : Driver) (old new : Pair) → slice_get books.units k ≡ Some unit → slice_get books'.units k ≡ Some unit'
    → unit.id ≡ server_id home k → old.driver ≡ Some driver → new.driver ≡ old.driver → ∥ LinesMore (server_id home k) many books.lines books'.lines ∥₁
    → TurnsOn (server_id home k) books books' k (end_of a old.link true) (end_of b new.link true) (known_of old.window) (known_of new.window)
    → DoesAt (server_id home k) books books' k (end_of a old.link true) (end_of b new.link true) (known_of old.window) (known_of new.window)
    → HasItsRights (lent_at a [] (between_of unit driver old)) words → TalksOwn granted told lines home u k books words line p unit driver old
    → KeepsPair told (server_id home k) (rows_by (server_id home k) books.rows) driver old → All (λ e. IsGrantOf granted e.outcome) told
    → IsOwnPair granted failed told lines home u k books' [] line p new
own_rights granted failed told lines home u k many books books' a b words line p unit unit' driver old new there there' id driver_is same more turns does rights is keeps numbers = record {
  unit = unit';
  there = there';
  id = id';
  driver = driver;
  driver_is = same ∙ driver_is;
  how = inl behind;
  keeps = by is.talks.phase;
  numbers = numbers;
}
  where
    at : Between
    at = lent_at a [] (between_of unit driver old)

    id' : unit'.id ≡ server_id home k
    id' = turns.ids unit unit' there there' ∙ id

    behind : TalksOwn granted told lines home u k books' [] line p unit' driver new
    behind =
        served_rights granted told lines home u k many (server_id home k) books books' a b words line p unit unit' driver old new there there' id refl driver_is same keeps.apart more turns rights is

    on : TurnsTalk (server_id home k) books books' words at (lent_at b [] (between_of unit' driver new))
    on =
        let talks : TalksPlainly granted at words = talks_lent a [] granted (between_of unit driver old) words is.talks in
        turns_talk k (server_id home k) books books' a b words unit unit' driver old new there there' turns (rights_ready granted at words talks.calm talks.phase rights)

    none : HearsNothing at words → KeepsPair told (server_id home k) (rows_by (server_id home k) books'.rows) driver new
    none nothing = none_kept told home k (server_id home k) books books' a b words unit unit' driver old new turns.window_place on nothing keeps

    turn : DoesTurn (doing_of unit home k books old) (doing_of unit' home k books' new)
    turn = does_there home k books books' a b unit unit' driver old new there there' does (calm_rests granted home k books words unit driver old is.talks.calm)

    by : InPhase granted (between_of unit driver old) words → KeepsPair told (server_id home k) (rows_by (server_id home k) books'.rows) driver new
    by (inl away) = none (away_none (between_of unit driver old) words away)
    by (inr (inl begun)) = none (begun_none (between_of unit driver old) words begun)
    by (inr (inr (asked, answers, talk))) =
        let all = talks_kept granted told home k books books' words asked answers unit unit' driver old new id is.talks.calm talk is.talks.tabled turn keeps in
        kept_served told home k books books' unit' driver old new id' turns.window_place (turn_strokes (doing_of unit home k books old) (doing_of unit' home k books' new) turn.does)
        (ap row_in behind.talks.calm.stage) all.1
        (subst (λ (one : UnitId). All (λ tag. tag ≤ length driver.client.rows) (map row_tag (rows_by one books'.rows))) id' all.2)
        (talks_put granted told home k books books' words asked answers unit unit' driver old new id is.talks.calm talk is.talks.tabled turn keeps) keeps

-- Whatever rights there are: where the client awaits an answer, the two talk still behind the small steps, or it is said what is so else.
pub own_talks : (granted : ℕ) (failed : Bool) (told : List Ended) (lines : List Line) (home u k many : ℕ) (books books' : ServerBooks) (a b : List GName) (words : List Word)
    (line : Option Line) (p : Progress) (unit unit' : Unit) (driver : Driver) (old new : Pair) → slice_get books.units k ≡ Some unit → slice_get books'.units k ≡ Some unit'
    → unit.id ≡ server_id home k → old.driver ≡ Some driver → new.driver ≡ old.driver → ∥ LinesMore (server_id home k) many books.lines books'.lines ∥₁
    → TurnsOn (server_id home k) books books' k (end_of a old.link true) (end_of b new.link true) (known_of old.window) (known_of new.window)
    → DoesAt (server_id home k) books books' k (end_of a old.link true) (end_of b new.link true) (known_of old.window) (known_of new.window)
    → HeardAt books books' k (end_of a old.link true) (end_of b new.link true) → TalksOwn granted told lines home u k books words line p unit driver old
    → KeepsPair told (server_id home k) (rows_by (server_id home k) books.rows) driver old → All (λ e. IsGrantOf granted e.outcome) told
    → ((asked : AskedParts) (answers : List Iu) → IsTalking granted (between_of unit driver old) words asked answers
    → StillTalks granted (doing_of unit' home k books' new) driver.client (end_of [] old.link false) asked.coming (asked.pending ++ asked.coming)
    ⊎ IsOwnPair granted failed told lines home u k books' [] line p new)
    → IsOwnPair granted failed told lines home u k books' [] line p new
own_talks granted failed told lines home u k many books books' a b words line p unit unit' driver old new there there' id driver_is same more turns does heard is keeps numbers talking =
    by talks.phase
  where
    at : Between
    at = lent_at a [] (between_of unit driver old)

    talks : TalksPlainly granted at words
    talks = talks_lent a [] granted (between_of unit driver old) words is.talks

    has : HasItsRights at words → IsOwnPair granted failed told lines home u k books' [] line p new
    has rights = own_rights granted failed told lines home u k many books books' a b words line p unit unit' driver old new there there' id driver_is same more turns does rights is keeps numbers

    turn : DoesTurn (doing_of unit home k books old) (doing_of unit' home k books' new)
    turn = does_there home k books books' a b unit unit' driver old new there there' does (calm_rests granted home k books words unit driver old is.talks.calm)

    split : (asked : AskedParts) (answers : List Iu) → IsTalking granted at words asked answers
        → StillTalks granted (doing_of unit' home k books' new) driver.client (end_of [] old.link false) asked.coming (asked.pending ++ asked.coming)
        ⊎ IsOwnPair granted failed told lines home u k books' [] line p new → IsOwnPair granted failed told lines home u k books' [] line p new
    split asked answers talk (inl still) =
        has (still_rights granted home k books books' a b words asked answers unit unit' driver old new there there' turns heard talks.calm talk turn still)
    split asked answers talk (inr behind) = behind

    by : InPhase granted at words → IsOwnPair granted failed told lines home u k books' [] line p new
    by (inl away) = has (away_rights granted at words talks.calm away)
    by (inr (inl begun)) = has (beginning_rights granted at words talks.calm begun)
    by (inr (inr (asked, answers, talk))) = split asked answers talk (talking asked answers (talk_lent [] [] granted at words asked answers talk))
