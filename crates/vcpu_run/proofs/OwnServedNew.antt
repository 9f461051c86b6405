-- The first turn of the server unit at an own client's pair: behind it the two talk, and nothing is to come.
use Rattle.std.proofs.Common.{◌≡◌, ◌∙◌, inl, ℕ, All, List, [], Option, false, true, sym, ap, subst, arith}
use Rattle.std.specs.Borrow.{GName}
use Rattle.boot_text.specs.declared.plan.Line.{Line}
use Rattle.vio_num.specs.declared.names.UnitId.{UnitId}
use Rattle.crq_ring.specs.declared.rows.PipeRow.{PipeRow}
use Rattle.crq_session.specs.PlainState.{end_of}
use Rattle.tce_window.specs.PlainPort.{known_of}
use Rattle.tce_window.specs.PortState.{PortState}
use Rattle.block_server.specs.Ranges.{known_in}
use Rattle.vcpu_run.specs.Credited.{Ended}
use Rattle.vcpu_run.specs.Machines.{server_id}
use Rattle.vcpu_run.specs.OwnKinds.{IsOfKind}
use Rattle.vcpu_run.specs.OwnPairs.{IsNewOwnPair, IsOwnPair}
use Rattle.vcpu_run.specs.PlainBorne.{rows_by}
use Rattle.vcpu_run.specs.PlainClients.{grants_of}
use Rattle.vcpu_run.specs.PlainPairs.{ServerBooks}
use Rattle.vcpu_run.specs.declared.pair.Pair.{Pair}
use Rattle.vcpu_run.specs.declared.script.Progress.{Progress}
use Rattle.vcpu_run.proofs.OwnServedRows.{kept_same}
use Rattle.vcpu_run.proofs.PlainPaired.{OpenedBetween, TurnsOn, opened_between}
use Rattle.vcpu_run.proofs.PlainTurning.{failed_still, stands_moved}

pub served_new : (granted : ℕ) (told : List Ended) (lines : List Line) (home u k : ℕ) (name : UnitId) (books books' : ServerBooks) (a b : List GName) (line : Option Line) (p : Progress) (old new : Pair)
    → new.driver ≡ old.driver → TurnsOn name books books' k (end_of a old.link true) (end_of b new.link true) (known_of old.window) (known_of new.window)
    → IsNewOwnPair granted told lines home u k books line p old → IsOwnPair granted false told lines home u k books' [] line p new
served_new granted told lines home u k name books books' a b line p old new driver turns is = record {
  unit = opens.unit';
  there = opens.there;
  id = opens.id ∙ is.id;
  driver = is.driver;
  driver_is = driver ∙ is.driver_is;
  how = inl (record {
    talks = opens.talks;
    owed =
        let same : grants_of (server_id home k) books'.lines ≡ grants_of (server_id home k) books.lines = ap (grants_of (server_id home k)) opens.lines_are in
        omega (arith, opens.owes, same, is.owed);
    now = is.now;
    spares = is.spares;
    stands = stands_moved granted u line p is.now old new
        (failed_still old new driver opens.registered turns.window_place (λ page. ap (λ (port : PortState). port.strokes page) opens.window)) driver opens.registered is.stands;
  });
  keeps = kept_same told (server_id home k) (rows_by (server_id home k) books.rows) (rows_by (server_id home k) books'.rows) is.driver old new turns.window_place
      (ap known_in opens.window) (ap (rows_by (server_id home k)) opens.rows_are)
      (subst (λ (sent : List PipeRow). All (λ (row : PipeRow). IsOfKind is.driver.client.rows row.entry) sent) (sym opens.sent) is.keeps.kinds.put) is.keeps;
  numbers = is.numbers;
}
  where
    opens : OpenedBetween granted k books books' is.unit is.driver old new
    opens = opened_between granted k name books books' a b is.unit is.driver old new is.there turns is.new
