-- A turn of the server unit at an own client's pair whose session is over, or was: it is so behind it; no row was added, and the client is as it was.
use Rattle.std.proofs.Common.{◌≡◌, ◌∙◌, inr, ℕ, ◌≤◌, All, Bool, true, false, IfSome, List, [], Option, Some, None, length, map, slice_get, refl, sym, ap, subst}
use Rattle.std.specs.Borrow.{GName}
use Rattle.boot_text.specs.declared.plan.Line.{Line}
use Rattle.vio_num.specs.declared.entry.Entry.{Entry}
use Rattle.vio_num.specs.declared.history.Served.{Served}
use Rattle.crq_session.specs.EndState.{EndPlace}
use Rattle.crq_session.specs.PlainState.{end_of}
use Rattle.tce_window.specs.PlainPort.{known_of}
use Rattle.block_server.specs.Closings.{is_event}
use Rattle.block_server.specs.Doings.{DoesTurn, UnitDoes}
use Rattle.block_server.specs.Ready.{Agrees}
use Rattle.block_server.specs.RowsOn.{row_tag}
use Rattle.block_server.specs.declared.unit.Unit.{Unit}
use Rattle.vcpu_run.specs.Credited.{Ended}
use Rattle.vcpu_run.specs.Machines.{server_id}
use Rattle.vcpu_run.specs.OwnClients.{IsGrantOf}
use Rattle.vcpu_run.specs.OwnCounts.{KeepsPair}
use Rattle.vcpu_run.specs.OwnDoing.{DoesAt}
use Rattle.vcpu_run.specs.OwnOver.{IsOver}
use Rattle.vcpu_run.specs.OwnPairs.{IsOverOwn, IsOwnPair, doing_of}
use Rattle.vcpu_run.specs.OwnRows.{KeepsRows}
use Rattle.vcpu_run.specs.PlainBorne.{rows_by}
use Rattle.vcpu_run.specs.PlainPairs.{ServerBooks, between_of}
use Rattle.vcpu_run.specs.PlainTalk.{AreEnds, ClientStays, IsOwnWindow}
use Rattle.vcpu_run.specs.declared.driver.Driver.{Driver}
use Rattle.vcpu_run.specs.declared.pair.Pair.{Pair}
use Rattle.vcpu_run.specs.declared.script.Progress.{Progress}
use Rattle.vcpu_run.proofs.OverRows.{over_rows_turn}
use Rattle.vcpu_run.proofs.OverSameRows.{over_same_turn, rests_none}
use Rattle.vcpu_run.proofs.OverServed.{ServesPair, over_served}
use Rattle.vcpu_run.proofs.OwnServedKinds.{kinds_over_turn}
use Rattle.vcpu_run.proofs.OwnServedRows.{kept_begins, kept_served}
use Rattle.vcpu_run.proofs.OwnStrokes.{turn_strokes}
use Rattle.vcpu_run.proofs.PlainPaired.{TurnsOn, client_stays}
use Rattle.vcpu_run.proofs.PlainTurned.{lent_at}

-- through which borrow an end is reached does not matter to what both see
pub ends_lent : (b : List GName) (pair : Pair) → AreEnds (end_of b pair.link true) (end_of [] pair.link false) → AreEnds (end_of [] pair.link true) (end_of [] pair.link false)
ends_lent b pair ends = record {
  server_sees = record {
    partner = ends.server_sees.partner;
    session = ends.server_sees.session;
    received = ends.server_sees.received;
    taken = ends.server_sees.taken;
    slots = ends.server_sees.slots;
  };
  own_sees = record {
    partner = ends.own_sees.partner;
    session = ends.own_sees.session;
    received = ends.own_sees.received;
    taken = ends.own_sees.taken;
    slots = ends.own_sees.slots;
  };
  server_took = ends.server_took;
  own_took = ends.own_took;
}

-- What the unit's turn leaves at the pair besides, where the client's window is its own behind it.
pub pair_served : (home k : ℕ) (books books' : ServerBooks) (a b : List GName) (unit unit' : Unit) (driver : Driver) (old new : Pair) → slice_get books.units k ≡ Some unit
    → slice_get books'.units k ≡ Some unit' → TurnsOn (server_id home k) books books' k (end_of a old.link true) (end_of b new.link true) (known_of old.window) (known_of new.window)
    → DoesAt (server_id home k) books books' k (end_of a old.link true) (end_of b new.link true) (known_of old.window) (known_of new.window)
    → AreEnds (end_of [] old.link true) (end_of [] old.link false) → Agrees unit.line.handshake (end_of a old.link true)
    → ((end_of [] old.link false).registered ≡ true → (end_of [] old.link false).kept ≡ None) → IfSome (end_of [] old.link false).kept (λ event. is_event event ≡ true)
    → IsOwnWindow (known_of new.window) → ServesPair home k books' unit' driver driver old new
pair_served home k books books' a b unit unit' driver old new there there' turns does old_ends agree idle events own = record {
  client = refl;
  leaves = record { session = stays.session; registered = stays.registered; taken = stays.taken };
  seen = record {
    alone = refl;
    apart = refl;
    window = refl;
    received = ends.server_sees.received;
    on = λ on. ends.own_sees.partner ∙ agrees.on on;
    down = λ down. ends.own_sees.partner ∙ agrees.down down;
    usable = own;
    idle = λ on. stays.kept ∙ idle (sym stays.registered ∙ on);
    events = subst (λ (kept : Option Entry). IfSome kept (λ event. is_event event ≡ true)) (sym stays.kept) events;
  };
  ends = ends;
  server_slots = ap (λ (p : EndPlace). p.own_slots) turns.place;
  own_slots = stays.slots;
}
  where
    stays : ClientStays (lent_at a [] (between_of unit driver old)) (lent_at b [] (between_of unit' driver new))
    stays = client_stays a b unit unit' driver old new turns.place turns.partner turns.put turns.took old_ends.own_took own

    ends : AreEnds (end_of [] new.link true) (end_of [] new.link false)
    ends = ends_lent b new stays.ends

    agrees : Agrees unit'.line.handshake (end_of b new.link true)
    agrees = subst (λ (o : Option Unit). IfSome o (λ u. Agrees u.line.handshake (end_of b new.link true))) there'
        (does.agrees (subst (λ (o : Option Unit). IfSome o (λ u. Agrees u.line.handshake (end_of a old.link true))) (sym there) agree))

-- The turn of such a pair.
pub served_over : (granted : ℕ) (failed : Bool) (told : List Ended) (lines : List Line) (home u k : ℕ) (books books' : ServerBooks) (a b : List GName) (line : Option Line) (p : Progress) (unit : Unit)
    (driver : Driver) (old new : Pair) → slice_get books.units k ≡ Some unit → unit.id ≡ server_id home k → old.driver ≡ Some driver → new.driver ≡ old.driver
    → TurnsOn (server_id home k) books books' k (end_of a old.link true) (end_of b new.link true) (known_of old.window) (known_of new.window)
    → DoesAt (server_id home k) books books' k (end_of a old.link true) (end_of b new.link true) (known_of old.window) (known_of new.window)
    → IsOverOwn granted failed told home u k books line p unit driver old → KeepsPair told (server_id home k) (rows_by (server_id home k) books.rows) driver old
    → All (λ e. IsGrantOf granted e.outcome) told → IsOwnPair granted failed told lines home u k books' [] line p new
served_over granted failed told lines home u k books books' a b line p unit driver old new there id driver_is same turns does over keeps numbers = record {
  unit = on.unit';
  there = on.there;
  id = id';
  driver = driver;
  driver_is = same ∙ driver_is;
  how = inr behind;
  keeps = kept_served told home k books books' on.unit' driver old new id' turns.window_place
      (turn_strokes (doing_of unit home k books old) (doing_of on.unit' home k books' new) turn.does)
      (rests_none granted failed (doing_of on.unit' home k books' new) driver.client (end_of [] new.link false) behind.over behind.rests) laid
      (subst (λ (rows : List Served). All (λ tag. tag ≤ length driver.client.rows) (map row_tag (rows_by (server_id home k) rows))) (sym rows_are) keeps.counted.most)
      (kinds_over_turn granted failed (doing_of unit home k books old) (doing_of on.unit' home k books' new) driver.client (end_of [] old.link false) over.over keeps.kinds.login turn.does keeps.kinds.put) keeps;
  numbers = numbers;
}
  where
    on : UnitDoes books'.units k unit (server_id home k) (end_of a old.link true) (end_of b new.link true) (known_of old.window) (known_of new.window) books.rows books'.rows books.lines books'.lines
    on = does.does unit there over.rests

    id' : on.unit'.id ≡ server_id home k
    id' = turns.ids unit on.unit' there on.there ∙ id

    turn : DoesTurn (doing_of unit home k books old) (doing_of on.unit' home k books' new)
    turn = on.does

    -- it is over behind the turn, as the client's end was before it
    passed : IsOver granted failed (doing_of on.unit' home k books' new) driver.client (end_of [] old.link false) × KeepsRows (doing_of on.unit' home k books' new) driver.client
    passed = over_rows_turn granted failed (doing_of unit home k books old) (doing_of on.unit' home k books' new) driver.client (end_of [] old.link false) over.over turn.does
        (kept_begins told home k books unit driver old id
        (rests_none granted failed (doing_of unit home k books old) driver.client (end_of [] old.link false) over.over over.rests) keeps)

    laid : KeepsRows (doing_of on.unit' home k books' new) driver.client
    laid = passed.1

    rows_are : books'.rows ≡ books.rows
    rows_are = over_same_turn granted failed (doing_of unit home k books old) (doing_of on.unit' home k books' new) driver.client (end_of [] old.link false) over.over turn.does

    agree : Agrees unit.line.handshake (end_of a old.link true)
    agree = record {
      down = λ down. sym over.ends.own_sees.partner ∙ over.seen.down down;
      on = λ up. sym over.ends.own_sees.partner ∙ over.seen.on up;
    }

    behind : IsOverOwn granted failed told home u k books' line p on.unit' driver new
    behind = over_served granted failed told home u k books books' line p unit on.unit' driver driver old new id id' turn
        (pair_served home k books books' a b unit on.unit' driver old new there on.there turns does over.ends agree over.seen.idle over.seen.events passed.0.usable) over
