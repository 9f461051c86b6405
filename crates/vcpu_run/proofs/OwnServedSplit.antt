-- A turn of the server unit at the pair of an own client that talks to it: its small steps lead where the two talk still, and then it had the rights
-- that it needs, or where the session of the unit is over.
use Rattle.std.proofs.Common.{◌≡◌, ◌∙◌, ◌≤◌, ◌++◌, ◌||◌, inl, ℕ, All, Bool, false, true, List, [], Some, None, length, map, slice_get, refl, sym, ap, ap₂, subst, arith}
use Rattle.std.specs.Borrow.{GName}
use Rattle.vio_num.specs.declared.names.UnitId.{UnitId}
use Rattle.crq_session.specs.EndState.{EndPlace}
use Rattle.crq_session.specs.PlainState.{end_of}
use Rattle.srp_iu.specs.declared.unit.Iu.{Iu}
use Rattle.tce_window.specs.PlainPort.{known_of}
use Rattle.block_server.specs.Doings.{DoesTurn, IsAtRest, KeepsNoAnswer}
use Rattle.block_server.specs.HeardOut.{HearsOut, MayHear, ServesOut}
use Rattle.block_server.specs.Judged.{row_in}
use Rattle.block_server.specs.Receipts.{is_down}
use Rattle.block_server.specs.RowsOn.{row_tag}
use Rattle.block_server.specs.Talk.{Word, to_come}
use Rattle.block_server.specs.declared.unit.Unit.{Unit}
use Rattle.vcpu_run.specs.Credited.{Ended}
use Rattle.vcpu_run.specs.Machines.{server_id}
use Rattle.vcpu_run.specs.OwnCounts.{KeepsPair}
use Rattle.vcpu_run.specs.OwnDoing.{DoesAt, HeardAt}
use Rattle.vcpu_run.specs.OwnPairs.{doing_of}
use Rattle.vcpu_run.specs.OwnTurns.{StillTalks}
use Rattle.vcpu_run.specs.PlainBorne.{rows_by}
use Rattle.vcpu_run.specs.PlainPairs.{ServerBooks, between_of}
use Rattle.vcpu_run.specs.PlainTalk.{AreSaidThere, AskedParts, Between, IsCalm, IsTalking}
use Rattle.vcpu_run.specs.declared.driver.Driver.{Driver}
use Rattle.vcpu_run.specs.declared.pair.Pair.{Pair}
use Rattle.vcpu_run.proofs.Listed.{some_is}
use Rattle.vcpu_run.proofs.OwnHeardOut.{SeesClient, said_long}
use Rattle.vcpu_run.proofs.OwnHears.{turn_granted}
use Rattle.vcpu_run.proofs.OwnReady.{HasItsRights, rights_told}
use Rattle.vcpu_run.proofs.OwnServedKinds.{PutOfKind, kinds_turn}
use Rattle.vcpu_run.proofs.OwnServedRows.{kept_begins}
use Rattle.vcpu_run.proofs.OwnServedTags.{KeepsAll, all_turn}
use Rattle.vcpu_run.proofs.OwnStarts.{still_begins}
use Rattle.vcpu_run.proofs.PlainPaired.{TurnsOn}
use Rattle.vcpu_run.proofs.PlainTurned.{lent_at}

-- ---- the small steps

-- nothing is in service between turns
pub calm_rests : (granted : ℕ) (home k : ℕ) (books : ServerBooks) (words : List Word) (unit : Unit) (driver : Driver) (pair : Pair) → IsCalm granted (between_of unit driver pair) words
    → IsAtRest (doing_of unit home k books pair)
calm_rests granted home k books words unit driver pair calm = inl (record { waiting = calm.waiting; stage = calm.stage; kept = subst KeepsNoAnswer (sym calm.kept) tt })

-- the unit that is there behind the turn
pub does_there : (home k : ℕ) (books books' : ServerBooks) (a b : List GName) (unit unit' : Unit) (driver : Driver) (old new : Pair)
    → slice_get books.units k ≡ Some unit → slice_get books'.units k ≡ Some unit'
    → DoesAt (server_id home k) books books' k (end_of a old.link true) (end_of b new.link true) (known_of old.window) (known_of new.window) → IsAtRest (doing_of unit home k books old)
    → DoesTurn (doing_of unit home k books old) (doing_of unit' home k books' new)
does_there home k books books' a b unit unit' driver old new there there' does rests =
    let on = does.does unit there rests in
    subst (λ (u : Unit). DoesTurn (doing_of unit home k books old) (doing_of u home k books' new)) (some_is on.unit' unit' (sym on.there ∙ there')) on.does

-- While the client talks to it the small steps lead where the two talk still, or the session is over; its rows stand well behind either.
pub talks_kept : (granted : ℕ) (told : List Ended) (home k : ℕ) (books books' : ServerBooks) (words : List Word) (asked : AskedParts) (answers : List Iu) (unit unit' : Unit) (driver : Driver)
    (old new : Pair) → unit.id ≡ server_id home k → IsCalm granted (between_of unit driver old) words → IsTalking granted (between_of unit driver old) words asked answers
    → driver.client.tabled ≡ None → DoesTurn (doing_of unit home k books old) (doing_of unit' home k books' new)
    → KeepsPair told (server_id home k) (rows_by (server_id home k) books.rows) driver old
    → KeepsAll granted (doing_of unit' home k books' new) driver.client (end_of [] old.link false) asked.coming (asked.pending ++ asked.coming)
talks_kept granted told home k books books' words asked answers unit unit' driver old new id calm talk tabled turn keeps =
    all_turn granted (doing_of unit home k books old) (doing_of unit' home k books' new) driver.client (end_of [] old.link false) asked.coming (asked.pending ++ asked.coming)
    (inl (still_begins granted (between_of unit driver old) words asked answers (server_id home k) books.rows books.lines calm talk tabled (sym id) (λ same. keeps.apart (same ∙ id))))
    (kept_begins told home k books unit driver old id (ap row_in calm.stage) keeps)
    (subst (λ (one : UnitId). All (λ tag. tag ≤ length driver.client.rows) (map row_tag (rows_by one books.rows))) (sym id) keeps.counted.most) turn.does

-- What was put into its queue is of the kinds that its tags say.
pub talks_put : (granted : ℕ) (told : List Ended) (home k : ℕ) (books books' : ServerBooks) (words : List Word) (asked : AskedParts) (answers : List Iu) (unit unit' : Unit) (driver : Driver)
    (old new : Pair) → unit.id ≡ server_id home k → IsCalm granted (between_of unit driver old) words → IsTalking granted (between_of unit driver old) words asked answers
    → driver.client.tabled ≡ None → DoesTurn (doing_of unit home k books old) (doing_of unit' home k books' new)
    → KeepsPair told (server_id home k) (rows_by (server_id home k) books.rows) driver old → PutOfKind (doing_of unit' home k books' new) driver.client
talks_put granted told home k books books' words asked answers unit unit' driver old new id calm talk tabled turn keeps =
    kinds_turn granted (doing_of unit home k books old) (doing_of unit' home k books' new) driver.client (end_of [] old.link false) asked.coming (asked.pending ++ asked.coming)
    (inl (still_begins granted (between_of unit driver old) words asked answers (server_id home k) books.rows books.lines calm talk tabled (sym id) (λ same. keeps.apart (same ∙ id))))
    keeps.kinds.login turn.does keeps.kinds.put

-- ---- the rights

-- the unit hears what is to come, and serves a request, or what keeps it from that is said
may_hear : (granted : ℕ) (at : Between) (words : List Word) (asked : AskedParts) (answers : List Iu) → IsCalm granted at words → IsTalking granted at words asked answers
    → MayHear at.unit at.server false
may_hear granted at words asked answers calm talk = record {
  alone = refl;
  going = ap₂ (λ (a b : Bool). a || b) calm.closing (ap is_down talk.up);
  event = calm.event;
  few = omega (
    arith,
    said_long at.window (to_come at.server) asked.coming (subst (AreSaidThere at.window (to_come at.server)) talk.coming calm.said),
    talk.few,
    calm.server_slots,
  );
}

heard_there : (k : ℕ) (books books' : ServerBooks) (a b : List GName) (unit unit' : Unit) (old new : Pair) → slice_get books.units k ≡ Some unit → slice_get books'.units k ≡ Some unit'
    → HeardAt books books' k (end_of a old.link true) (end_of b new.link true) → MayHear unit (end_of a old.link true) false
    → HearsOut 255 false unit' (end_of b new.link true) × (unit.waiting ≡ None → ServesOut unit unit' (end_of a old.link true) (end_of b new.link true))
heard_there k books books' a b unit unit' old new there there' heard may =
    let out = heard.heard unit there may in
    subst (λ (u : Unit). HearsOut 255 false u (end_of b new.link true) × (unit.waiting ≡ None → ServesOut unit u (end_of a old.link true) (end_of b new.link true)))
    (some_is out.unit' unit' (sym out.there ∙ there')) (out.out, λ waiting. out.serves refl waiting)

-- Where the two talk still behind it, the turn had its rights.
pub still_rights : (granted : ℕ) (home k : ℕ) (books books' : ServerBooks) (a b : List GName) (words : List Word) (asked : AskedParts) (answers : List Iu) (unit unit' : Unit) (driver : Driver)
    (old new : Pair) → slice_get books.units k ≡ Some unit → slice_get books'.units k ≡ Some unit'
    → TurnsOn (server_id home k) books books' k (end_of a old.link true) (end_of b new.link true) (known_of old.window) (known_of new.window)
    → HeardAt books books' k (end_of a old.link true) (end_of b new.link true)
    → IsCalm granted (lent_at a [] (between_of unit driver old)) words → IsTalking granted (lent_at a [] (between_of unit driver old)) words asked answers
    → DoesTurn (doing_of unit home k books old) (doing_of unit' home k books' new)
    → StillTalks granted (doing_of unit' home k books' new) driver.client (end_of [] old.link false) asked.coming (asked.pending ++ asked.coming)
    → HasItsRights (lent_at a [] (between_of unit driver old)) words
still_rights granted home k books books' a b words asked answers unit unit' driver old new there there' turns heard calm talk turn still =
    let out = heard_there k books books' a b unit unit' old new there there' heard (may_hear granted (lent_at a [] (between_of unit driver old)) words asked answers calm talk) in
    rights_told granted (lent_at a [] (between_of unit driver old)) (lent_at b [] (between_of unit' driver new)) words asked answers (server_id home k) books'.rows books'.lines calm talk
    (turn_granted (doing_of unit home k books old) (doing_of unit' home k books' new) turn.does) still sees out.0 (out.1 calm.waiting)
  where
    sees : SeesClient (end_of b new.link true) (end_of [] old.link false)
    sees = record {
      taken = ap (λ (place : EndPlace). place.partner_taken) turns.place ∙ calm.ends.server_sees.taken;
      slots = ap (λ (place : EndPlace). place.partner_slots) turns.place ∙ calm.ends.server_sees.slots;
      room = calm.own_slots;
    }
