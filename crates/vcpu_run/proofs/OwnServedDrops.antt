-- A turn of the server unit at the pair of an own client that talks to it, where its session ends in the turn: it is over behind it, and the client
-- is as it was.
use Rattle.std.proofs.Common.{◌≡◌, ◌∙◌, ◌⊎◌, ◌+◌, ◌≤◌, ◌++◌, ◌==◌, inl, inr, ℕ, All, true, false, true≢false, IfSome, List, [], Option, Some, None, length, map, slice_get, refl, sym, ap, subst}
use Rattle.std.specs.Borrow.{GName}
use Rattle.boot_text.specs.declared.plan.Line.{Line}
use Rattle.boot_text.specs.declared.verb.Verb.{Verb}
use Rattle.boot_text.specs.declared.verb.Verb.TheVariants as verbs
use Rattle.vio_num.specs.Entry.{is_srp_entry}
use Rattle.vio_num.specs.declared.entry.Entry.{Entry}
use Rattle.vio_num.specs.declared.names.UnitId.{UnitId}
use Rattle.crq_session.specs.EndState.{EndState}
use Rattle.crq_session.specs.PlainState.{end_of}
use Rattle.srp_iu.specs.declared.unit.Iu.{Iu}
use Rattle.tce_window.specs.PlainPort.{known_of}
use Rattle.block_server.specs.Closings.{is_event}
use Rattle.block_server.specs.Doings.{DoesTurn}
use Rattle.block_server.specs.Judged.{row_in}
use Rattle.block_server.specs.Ready.{Agrees}
use Rattle.block_server.specs.Receipts.{LinesMore}
use Rattle.block_server.specs.RowsOn.{row_tag}
use Rattle.block_server.specs.Talk.{Word, to_come}
use Rattle.block_server.specs.declared.unit.Unit.{Unit}
use Rattle.vscsi_client.specs.State.{ClientState}
use Rattle.vscsi_client.specs.declared.stage.Stage.TheVariants.{Idle, Written}
use Rattle.vcpu_run.specs.Credited.{Ended}
use Rattle.vcpu_run.specs.Machines.{server_id}
use Rattle.vcpu_run.specs.OwnActs.{IsSettled}
use Rattle.vcpu_run.specs.OwnClients.{IsGrantOf}
use Rattle.vcpu_run.specs.OwnCounts.{IsLogoutDone, KeepsPair}
use Rattle.vcpu_run.specs.OwnDoing.{DoesAt, HeardAt}
use Rattle.vcpu_run.specs.OwnPairs.{ComesOver, IsMidLogin, IsOwnPair, RestsIdle, StandsOver, TalksOwn, doing_of}
use Rattle.vcpu_run.specs.OwnRows.{KeepsRows}
use Rattle.vcpu_run.specs.OwnTurns.{StillTalks}
use Rattle.vcpu_run.specs.PlainBorne.{rows_by}
use Rattle.vcpu_run.specs.PlainClients.{granted_in, grants_of}
use Rattle.vcpu_run.specs.PlainPairs.{ServerBooks, between_of}
use Rattle.vcpu_run.specs.PlainScripts.{PairIs, StandsAt}
use Rattle.vcpu_run.specs.PlainSteps.{FollowsReplay, HasCome, RestsAs, WasFailed}
use Rattle.vcpu_run.specs.PlainTalk.{AskedParts, Between, IsCalm, IsTalking, is_sent, owes}
use Rattle.vcpu_run.specs.Replay.{Replay}
use Rattle.vcpu_run.specs.declared.driver.Driver.{Driver}
use Rattle.vcpu_run.specs.declared.pair.Pair.{Pair}
use Rattle.vcpu_run.specs.declared.script.Progress.{Progress}
use Rattle.vcpu_run.specs.declared.script.Progress.TheVariants as progress
use Rattle.vcpu_run.proofs.OverOwes.{OwesOver, credit_of}
use Rattle.vcpu_run.proofs.OverSameRows.{rests_none}
use Rattle.vcpu_run.proofs.OverServed.{ServesPair, of_served, owes_own}
use Rattle.vcpu_run.proofs.OwnDrops.{answers_srp}
use Rattle.vcpu_run.proofs.OwnOwes.{OwesBoth, OwesEither, OwesTalks, either_turn, owes_begins}
use Rattle.vcpu_run.proofs.OwnServedCases.{ServesTalk}
use Rattle.vcpu_run.proofs.OwnServedKinds.{PutOfKind}
use Rattle.vcpu_run.proofs.OwnServedOver.{pair_served}
use Rattle.vcpu_run.proofs.OwnServedRights.{own_talks}
use Rattle.vcpu_run.proofs.OwnServedRows.{kept_begins, kept_served}
use Rattle.vcpu_run.proofs.OwnServedSplit.{calm_rests, does_there, talks_kept, talks_put}
use Rattle.vcpu_run.proofs.OwnServedTags.{KeepsTags}
use Rattle.vcpu_run.proofs.OwnStrokes.{turn_strokes}
use Rattle.vcpu_run.proofs.PlainPaired.{TurnsOn, idle_side}
use Rattle.vcpu_run.proofs.PlainReady.{all_front}
use Rattle.vcpu_run.proofs.PlainSeated.{pair_was}

-- ---- where the client stands

-- it is between its calls
talk_settled : (granted : ℕ) (at : Between) (words : List Word) (asked : AskedParts) (answers : List Iu) → IsTalking granted at words asked answers → IsLogoutDone at.client → IsSettled at.client
talk_settled granted at words asked answers talk logout = record {
  held = talk.held;
  kept = all_front (λ (entry : Entry). is_srp_entry entry ≡ true) at.client.kept (to_come at.own)
      (answers_srp at.window (at.client.kept ++ to_come at.own) asked.answered answers talk.answered);
  logout = logout;
}

-- What the client is that stands there: its queue is registered, and no login is written that was not sent.
record IsThere (s : ClientState) (own : EndState) : Type 0 where
  settled : IsSettled s
  stage : (s.login ≡ Idle) ⊎ (is_sent s.login ≡ true)
  registered : own.registered ≡ true

mid_there : (s : ClientState) (own : EndState) → IsThere s own → IsMidLogin s
mid_there s own is = record { settled = is.settled; due = λ tag slot written. absurd (by written is.stage) }
  where
    by : {tag slot : ℕ} → s.login ≡ Written tag slot → (s.login ≡ Idle) ⊎ (is_sent s.login ≡ true) → ⊥
    by written (inl idle) = cc (idle, written)
    by written (inr sent) = true≢false (sym sent ∙ ap is_sent written)

rests_there : (s : ClientState) (own : EndState) → IsThere s own → s.login ≡ Idle → RestsIdle s × (own.registered ≡ true)
rests_there s own is idle = (record { settled = is.settled; login = idle }, is.registered)

comes_there : (granted : ℕ) (verb : Verb) (p : Progress) (now : Replay) (at : Between) (own : EndState) → IsThere at.client own → HasCome granted verb p now at → ComesOver verb p at.client own
comes_there granted verbs.Login p now at own is come = mid_there at.client own is
comes_there granted verbs.Reset progress.Freed now at own is come = mid_there at.client own is
comes_there granted verbs.Reset p now at own is come = rests_there at.client own is come.login
comes_there granted (verbs.Take count) p now at own is come = rests_there at.client own is come.left.login
comes_there granted verb p now at own is come = rests_there at.client own is come.login

-- where the current line has it
stands_there : (granted u : ℕ) (line : Option Line) (p : Progress) (now : Replay) (unit : Unit) (driver : Driver) (pair : Pair) (own : EndState) → pair.driver ≡ Some driver
    → (end_of [] pair.link false).registered ≡ true → IsThere driver.client own → StandsAt granted u line p now pair → StandsOver u false line p driver.client own
stands_there granted u None p now unit driver pair own there on is (later, rests) = by (pair_was (RestsAs granted later) pair driver there rests unit)
  where
    by : RestsAs granted later (between_of unit driver pair) → StandsOver u false None p driver.client own
    by (inl follows) = inr (rests_there driver.client own is follows.login)
    by (inr failed) = absurd (true≢false (sym on ∙ failed.registered))
stands_there granted u (Some line) p now unit driver pair own there on is (inl of) = inl (
  refl,
  of_served (PairIs (HasCome granted line.verb p now) pair) (ComesOver line.verb p driver.client own) (PairIs (FollowsReplay granted now) pair) (RestsIdle driver.client × (own.registered ≡ true))
      (λ come. comes_there granted line.verb p now (between_of unit driver pair) own is (pair_was (HasCome granted line.verb p now) pair driver there come unit))
      (λ follows. rests_there driver.client own is (pair_was (FollowsReplay granted now) pair driver there follows unit).login) (line.unit == u) of,
)
stands_there granted u (Some line) p now unit driver pair own there on is (inr failed) =
    absurd (true≢false (sym on ∙ (pair_was WasFailed pair driver there failed.1 unit).registered))

-- ---- the session is over

-- What the small steps lead to: it is over, as the client stood before the turn; the unit's rows and what it laid stand well.
pub record DropsTo (many granted home k : ℕ) (books' : ServerBooks) (unit' : Unit) (driver : Driver) (old new : Pair) : Type 0 where
  pub owes : OwesOver many granted false (doing_of unit' home k books' new) driver.client (end_of [] old.link false)
  pub rows : KeepsRows (doing_of unit' home k books' new) driver.client
  pub tags : KeepsTags (doing_of unit' home k books' new) driver.client
  pub put : PutOfKind (doing_of unit' home k books' new) driver.client

pub served_drops : (granted : ℕ) (told : List Ended) (lines : List Line) (home u k : ℕ) (books books' : ServerBooks) (a b : List GName) (words : List Word) (line : Option Line) (p : Progress)
    (asked : AskedParts) (answers : List Iu) (unit unit' : Unit) (driver : Driver) (old new : Pair) → slice_get books.units k ≡ Some unit → slice_get books'.units k ≡ Some unit'
    → unit.id ≡ server_id home k → old.driver ≡ Some driver → new.driver ≡ old.driver
    → TurnsOn (server_id home k) books books' k (end_of a old.link true) (end_of b new.link true) (known_of old.window) (known_of new.window)
    → DoesAt (server_id home k) books books' k (end_of a old.link true) (end_of b new.link true) (known_of old.window) (known_of new.window)
    → DoesTurn (doing_of unit home k books old) (doing_of unit' home k books' new) → TalksOwn granted told lines home u k books words line p unit driver old
    → IsTalking granted (between_of unit driver old) words asked answers → DropsTo (granted_in told) granted home k books' unit' driver old new
    → KeepsPair told (server_id home k) (rows_by (server_id home k) books.rows) driver old → All (λ e. IsGrantOf granted e.outcome) told
    → IsOwnPair granted false told lines home u k books' [] line p new
served_drops granted told lines home u k books books' a b words line p asked answers unit unit' driver old new there there' id driver_is same turns does turn is talk drops keeps numbers = record {
  unit = unit';
  there = there';
  id = id';
  driver = driver;
  driver_is = same ∙ driver_is;
  how = inr (record {
    over = behind.over;
    owed = subst (λ (name : UnitId). granted_in told + credit_of behind.over.answers ≤ grants_of name books'.lines) id' behind.owed;
    seen = serves.seen;
    rests = turn.rests;
    ends = serves.ends;
    server_slots = subst (λ (n : ℕ). 256 ≤ n) (sym serves.server_slots) calm.server_slots;
    own_slots = subst (λ (n : ℕ). 256 ≤ n) (sym serves.own_slots) calm.own_slots;
    stands = stands_there granted u line p is.now unit driver old (end_of [] new.link false) driver_is talk.registered here is.stands;
  });
  keeps = kept_served told home k books books' unit' driver old new id' turns.window_place
      (turn_strokes (doing_of unit home k books old) (doing_of unit' home k books' new) turn.does)
      (rests_none granted false (doing_of unit' home k books' new) driver.client (end_of [] new.link false) behind.over turn.rests) drops.rows
      (subst (λ (one : UnitId). All (λ tag. tag ≤ length driver.client.rows) (map row_tag (rows_by one books'.rows))) id' drops.tags) drops.put keeps;
  numbers = numbers;
}
  where
    calm : IsCalm granted (between_of unit driver old) words
    calm = is.talks.calm

    id' : unit'.id ≡ server_id home k
    id' = turns.ids unit unit' there there' ∙ id

    agree : Agrees unit.line.handshake (end_of a old.link true)
    agree = record { down = λ down. absurd (calm.up down); on = λ up. calm.registered }

    none : (end_of [] old.link false).kept ≡ None
    none = idle_side false old.link talk.registered

    serves : ServesPair home k books' unit' driver driver old new
    serves = pair_served home k books books' a b unit unit' driver old new there there' turns does calm.ends agree (λ on. none)
        (subst (λ (kept : Option Entry). IfSome kept (λ event. is_event event ≡ true)) (sym none) tt) drops.owes.over.usable

    behind : OwesOver (granted_in told) granted false (doing_of unit' home k books' new) driver.client (end_of [] new.link false)
    behind = owes_own (granted_in told) granted false (doing_of unit' home k books' new) driver.client (end_of [] old.link false) (end_of [] new.link false) serves.leaves drops.owes

    here : IsThere driver.client (end_of [] new.link false)
    here = record {
      settled = talk_settled granted (between_of unit driver old) words asked answers talk keeps.logout;
      stage = talk.stage;
      registered = serves.leaves.registered ∙ talk.registered;
    }

-- ---- either

-- While the client talks to its unit, the small steps lead where the two talk still, or the session is over, and what is so of such a pair is so.
pub talks_or_drops : (granted : ℕ) (told : List Ended) (lines : List Line) (home u k : ℕ) (books books' : ServerBooks) (a b : List GName) (words : List Word) (line : Option Line) (p : Progress)
    (unit unit' : Unit) (driver : Driver) (old new : Pair) → slice_get books.units k ≡ Some unit → slice_get books'.units k ≡ Some unit' → unit.id ≡ server_id home k
    → old.driver ≡ Some driver → new.driver ≡ old.driver
    → TurnsOn (server_id home k) books books' k (end_of a old.link true) (end_of b new.link true) (known_of old.window) (known_of new.window)
    → DoesAt (server_id home k) books books' k (end_of a old.link true) (end_of b new.link true) (known_of old.window) (known_of new.window)
    → TalksOwn granted told lines home u k books words line p unit driver old → KeepsPair told (server_id home k) (rows_by (server_id home k) books.rows) driver old
    → All (λ e. IsGrantOf granted e.outcome) told → (asked : AskedParts) (answers : List Iu) → IsTalking granted (between_of unit driver old) words asked answers
    → StillTalks granted (doing_of unit' home k books' new) driver.client (end_of [] old.link false) asked.coming (asked.pending ++ asked.coming)
    ⊎ IsOwnPair granted false told lines home u k books' [] line p new
talks_or_drops granted told lines home u k books books' a b words line p unit unit' driver old new there there' id driver_is same turns does is keeps numbers asked answers talk =
    split both.0 both.1
  where
    turn : DoesTurn (doing_of unit home k books old) (doing_of unit' home k books' new)
    turn = does_there home k books books' a b unit unit' driver old new there there' does (calm_rests granted home k books words unit driver old is.talks.calm)

    begins : OwesTalks (granted_in told) granted (doing_of unit home k books old) driver.client (end_of [] old.link false) asked.coming (asked.pending ++ asked.coming)
    begins = owes_begins (granted_in told) granted (between_of unit driver old) words asked answers (server_id home k) books.rows books.lines is.talks.calm talk is.talks.tabled (sym id)
        (λ one. keeps.apart (one ∙ id)) (subst (λ (name : UnitId). granted_in told + owes (between_of unit driver old) words ≤ grants_of name books.lines) (sym id) is.owed)

    both : OwesBoth (granted_in told) granted (doing_of unit' home k books' new) driver.client (end_of [] old.link false) asked.coming (asked.pending ++ asked.coming)
    both = either_turn (granted_in told) granted (doing_of unit home k books old) (doing_of unit' home k books' new) driver.client (end_of [] old.link false) asked.coming
        (asked.pending ++ asked.coming) begins (kept_begins told home k books unit driver old id (ap row_in is.talks.calm.stage) keeps) turn.does

    tags : KeepsTags (doing_of unit' home k books' new) driver.client
    tags = (talks_kept granted told home k books books' words asked answers unit unit' driver old new id is.talks.calm talk is.talks.tabled turn keeps).2

    put : PutOfKind (doing_of unit' home k books' new) driver.client
    put = talks_put granted told home k books books' words asked answers unit unit' driver old new id is.talks.calm talk is.talks.tabled turn keeps

    split : OwesEither (granted_in told) granted (doing_of unit' home k books' new) driver.client (end_of [] old.link false) asked.coming (asked.pending ++ asked.coming)
        → KeepsRows (doing_of unit' home k books' new) driver.client
        → StillTalks granted (doing_of unit' home k books' new) driver.client (end_of [] old.link false) asked.coming (asked.pending ++ asked.coming)
        ⊎ IsOwnPair granted false told lines home u k books' [] line p new
    split (inl talks) rows = inl talks.still
    split (inr over) rows =
        inr (served_drops granted told lines home u k books books' a b words line p asked answers unit unit' driver old new there there' id driver_is same turns does turn is talk
        (record { owes = over; rows = rows; tags = tags; put = put }) keeps numbers)

-- The turn of a pair where the two talk: they talk behind it, or the session is over.
pub talks_served : (home k many : ℕ) (books books' : ServerBooks) (a b : List GName) (old new : Pair) → new.driver ≡ old.driver → ∥ LinesMore (server_id home k) many books.lines books'.lines ∥₁
    → TurnsOn (server_id home k) books books' k (end_of a old.link true) (end_of b new.link true) (known_of old.window) (known_of new.window)
    → DoesAt (server_id home k) books books' k (end_of a old.link true) (end_of b new.link true) (known_of old.window) (known_of new.window)
    → HeardAt books books' k (end_of a old.link true) (end_of b new.link true) → ServesTalk home books books' k old new
talks_served home k many books books' a b old new same more turns does heard granted u failed told lines words line p is talks =
    let on = does.does is.unit is.there (calm_rests granted home k books words is.unit is.driver old talks.talks.calm) in (
      false,
      own_talks granted false told lines home u k many books books' a b words line p is.unit on.unit' is.driver old new is.there on.there is.id is.driver_is same more turns does heard talks is.keeps
          is.numbers
          (talks_or_drops granted told lines home u k books books' a b words line p is.unit on.unit' is.driver old new is.there on.there is.id is.driver_is same turns does talks is.keeps
          is.numbers),
    )
