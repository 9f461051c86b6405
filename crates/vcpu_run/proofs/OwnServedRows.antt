-- What was laid, noted, counted and told at an own client's pair, over a turn of its server unit: so the turn begins, and so it is behind it, where
-- no row is in service at either.
use Rattle.std.proofs.Common.{◌≡◌, ◌∙◌, ℕ, ◌≤◌, All, List, [], None, Option, length, map, true, refl, sym, ap, subst}
use Rattle.vio_num.specs.declared.history.Served.{Served}
use Rattle.vio_num.specs.declared.names.UnitId.{UnitId}
use Rattle.crq_ring.specs.declared.rows.PipeRow.{PipeRow}
use Rattle.crq_session.specs.PlainState.{end_of}
use Rattle.page_slots.specs.Stroke.{StrokeValue}
use Rattle.tce_window.specs.PlainPort.{known_of}
use Rattle.tce_window.specs.PortState.{PortPlace}
use Rattle.block_server.specs.Judged.{row_in}
use Rattle.block_server.specs.Ranges.{Known, known_in}
use Rattle.block_server.specs.RowsOn.{row_tag}
use Rattle.block_server.specs.declared.unit.Unit.{Unit}
use Rattle.unit_region.specs.RegionLines.{IsOn}
use Rattle.vcpu_run.specs.Credited.{Ended}
use Rattle.vcpu_run.specs.Machines.{server_id}
use Rattle.vcpu_run.specs.OwnCounts.{KeepsPair}
use Rattle.vcpu_run.specs.OwnKinds.{IsOfKind, KeepsKinds}
use Rattle.vcpu_run.specs.OwnPairs.{doing_of}
use Rattle.vcpu_run.specs.OwnRows.{KeepsRows}
use Rattle.vcpu_run.specs.PlainBorne.{AreBorne, rows_by}
use Rattle.vcpu_run.specs.PlainNoted.{AreAnswers, AreAskedFor}
use Rattle.vcpu_run.specs.PlainPairs.{ServerBooks}
use Rattle.vcpu_run.specs.declared.driver.Driver.{Driver}
use Rattle.vcpu_run.specs.declared.pair.Pair.{Pair}
use Rattle.vcpu_run.proofs.OwnRowsStay.{rows_begin, rows_end}
use Rattle.vcpu_run.proofs.PlainPaired.{noted_on}
use Rattle.vcpu_run.proofs.PlainRejected.{StrokesStay}
use Rattle.vcpu_run.proofs.PlainTellings.{lines_move}

-- what is so of rows as a turn begins
pub kept_begins : (told : List Ended) (home k : ℕ) (books : ServerBooks) (unit : Unit) (driver : Driver) (pair : Pair) → unit.id ≡ server_id home k
    → row_in (doing_of unit home k books pair).stage ≡ None → KeepsPair told (server_id home k) (rows_by (server_id home k) books.rows) driver pair
    → KeepsRows (doing_of unit home k books pair) driver.client
kept_begins told home k books unit driver pair id free keeps =
    rows_begin (doing_of unit home k books pair) driver.client free
    (subst (λ (one : UnitId). AreBorne (rows_by one books.rows) one driver.client.rows (known_of pair.window).strokes) (sym id) keeps.borne)
    (subst (λ (one : UnitId). AreAskedFor (rows_by one books.rows) driver.client.rows) (sym id) keeps.sized)
    (subst (λ (one : UnitId). AreAnswers (rows_by one books.rows) pair.window.unit (known_of pair.window).strokes) (sym id) keeps.answered)

-- the client is as it was, and so are its tags
kinds_put : {before : List PipeRow} → (driver : Driver) (sent : List PipeRow) → All (λ (row : PipeRow). IsOfKind driver.client.rows row.entry) sent
    → KeepsKinds driver.client driver.answers.items before → KeepsKinds driver.client driver.answers.items sent
kinds_put driver sent put is = record { asked = is.asked; answered = is.answered; login = is.login; put = put }

-- Behind the turn all of it is so, where no stroke is gone, and each row has a tag that the client asked under.
pub kept_served : (told : List Ended) (home k : ℕ) (books books' : ServerBooks) (unit' : Unit) (driver : Driver) (old new : Pair) → unit'.id ≡ server_id home k
    → (known_of new.window).place ≡ (known_of old.window).place → StrokesStay (known_of old.window).strokes (known_of new.window).strokes
    → row_in (doing_of unit' home k books' new).stage ≡ None → KeepsRows (doing_of unit' home k books' new) driver.client
    → All (λ tag. tag ≤ length driver.client.rows) (map row_tag (rows_by (server_id home k) books'.rows))
    → All (λ (row : PipeRow). IsOfKind driver.client.rows row.entry) (end_of [] new.link true).sent
    → KeepsPair told (server_id home k) (rows_by (server_id home k) books.rows) driver old → KeepsPair told (server_id home k) (rows_by (server_id home k) books'.rows) driver new
kept_served told home k books books' unit' driver old new id place stay free rows most put keeps = record {
  laid = lines_move (server_id home k) (server_id home k) (known_of old.window).strokes (known_of new.window).strokes refl stay told keeps.laid;
  apart = λ same. keeps.apart (sym unit_is ∙ same);
  counted = record { asked = keeps.counted.asked; most = most };
  borne = subst (λ (one : UnitId). AreBorne (rows_by one books'.rows) one driver.client.rows (known_of new.window).strokes) id rows.borne;
  answered = subst (λ (one : UnitId). AreAnswers (rows_by one books'.rows) new.window.unit (known_of new.window).strokes) id
      (rows_end (doing_of unit' home k books' new) driver.client free rows);
  sized = subst (λ (one : UnitId). AreAskedFor (rows_by one books'.rows) driver.client.rows) id rows.sized;
  noted = noted_on (known_of old.window) (known_of new.window) driver.answers.items place stay keeps.noted;
  behind = keeps.behind;
  logout = keeps.logout;
  kinds = kinds_put driver (end_of [] new.link true).sent put keeps.kinds;
}
  where
    unit_is : new.window.unit ≡ old.window.unit
    unit_is = ap (λ (p : PortPlace). p.unit) place

-- Neither rows nor strokes were added.
pub kept_same : (told : List Ended) (server : UnitId) (rows rows' : List Served) (driver : Driver) (old new : Pair) → (known_of new.window).place ≡ (known_of old.window).place
    → known_in (known_of new.window) ≡ known_in (known_of old.window) → rows' ≡ rows → All (λ (row : PipeRow). IsOfKind driver.client.rows row.entry) (end_of [] new.link true).sent
    → KeepsPair told server rows driver old → KeepsPair told server rows' driver new
kept_same told server rows rows' driver old new place same rows_are put keeps = record {
  laid = lines_move server server (known_of old.window).strokes (known_of new.window).strokes refl stay told keeps.laid;
  apart = λ is. keeps.apart (sym unit_is ∙ is);
  counted = record {
    asked = keeps.counted.asked;
    most = subst (λ (list : List Served). All (λ tag. tag ≤ length driver.client.rows) (map row_tag list)) (sym rows_are) keeps.counted.most;
  };
  borne = subst (λ (list : List Served). AreBorne list server driver.client.rows (known_of new.window).strokes) (sym rows_are)
      (subst (AreBorne rows server driver.client.rows) (sym strokes_are) keeps.borne);
  answered = subst (λ (list : List Served). AreAnswers list new.window.unit (known_of new.window).strokes) (sym rows_are)
      (subst (λ (one : UnitId). AreAnswers rows one (known_of new.window).strokes) (sym unit_is) (subst (AreAnswers rows old.window.unit) (sym strokes_are) keeps.answered));
  sized = subst (λ (list : List Served). AreAskedFor list driver.client.rows) (sym rows_are) keeps.sized;
  noted = noted_on (known_of old.window) (known_of new.window) driver.answers.items place stay keeps.noted;
  behind = keeps.behind;
  logout = keeps.logout;
  kinds = kinds_put driver (end_of [] new.link true).sent put keeps.kinds;
}
  where
    strokes_are : (known_of new.window).strokes ≡ (known_of old.window).strokes
    strokes_are = ap (λ (known : Known). known.strokes) same

    unit_is : new.window.unit ≡ old.window.unit
    unit_is = ap (λ (p : PortPlace). p.unit) place

    stay : StrokesStay (known_of old.window).strokes (known_of new.window).strokes
    stay page stroke there = subst (λ (strokes : ℕ → Option (List StrokeValue)). IsOn stroke (strokes page)) (sym strokes_are) there
