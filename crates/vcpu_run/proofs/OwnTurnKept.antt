-- What was laid, noted and told at an own client's pair is so behind a turn of its script.
use Rattle.std.proofs.Common.{◌≡◌, ◌∙◌, ◌≤◌, All, List, [], Some, length, map, true, sym, subst, arith}
use Rattle.std.proofs.lemmas.List.Elements.{All-weaker}
use Rattle.vio_num.specs.declared.history.Served.{Served}
use Rattle.vio_num.specs.declared.names.UnitId.{UnitId}
use Rattle.crq_session.specs.PlainState.{end_of}
use Rattle.block_server.specs.RowsOn.{row_tag}
use Rattle.tce_window.specs.PlainPort.{known_of}
use Rattle.vcpu_run.specs.Credited.{Ended}
use Rattle.vcpu_run.specs.NotedOn.{KeepsNoted}
use Rattle.vcpu_run.specs.OwnCounts.{IsCounted, IsLogoutDone, KeepsPair, LieBehind}
use Rattle.vcpu_run.specs.OwnKinds.{KeepsKinds}
use Rattle.vcpu_run.specs.Pairs.{Drives}
use Rattle.vcpu_run.specs.PlainRejected.{TellsOf}
use Rattle.vcpu_run.specs.PlainScripts.{PairNotes, answers_in}
use Rattle.vcpu_run.specs.declared.driver.Driver.{Driver}
use Rattle.vcpu_run.specs.declared.pair.Pair.{Pair}
use Rattle.vcpu_run.proofs.PlainBorne.{borne_turned}
use Rattle.vcpu_run.proofs.PlainNotesKept.{answers_turned, noted_turned, sized_turned}

-- the rows are as they were, and the client may have asked for more
pub counted_turned : (rows : List Served) (a b : Driver) → KeepsNoted a b → IsCounted rows a.client → IsCounted rows b.client
counted_turned rows a b keeps counted = record {
  asked = keeps.keeps.asked counted.asked;
  most = All-weaker (λ tag. tag ≤ length a.client.rows) (λ tag. tag ≤ length b.client.rows) (λ tag less. omega (arith, less, keeps.keeps.more)) (map row_tag rows) counted.most;
}

pub kept_turned : (told told' : List Ended) (server : UnitId) (rows : List Served) (a b : Driver) (old new : Pair) → old.driver ≡ Some a → new.driver ≡ Some b → Drives old new → KeepsNoted a b
    → PairNotes (answers_in old.driver) new → All (TellsOf server (known_of new.window).strokes) told' → LieBehind b.client.rows → IsLogoutDone b.client → KeepsKinds b.client b.answers.items (end_of [] old.link true).sent
    → KeepsPair told server rows a old → KeepsPair told' server rows b new
kept_turned told told' server rows a b old new was there drives keeps notes tells behind logout kinds is = record {
  laid = tells;
  apart = λ same. is.apart (sym drives.unit ∙ same);
  counted = counted_turned rows a b keeps is.counted;
  borne = borne_turned rows server old.window.unit a.client b.client a.answers.items b.answers.items (known_of old.window).strokes (known_of new.window).strokes is.apart keeps.keeps is.counted.asked
      drives.laid is.borne;
  answered = answers_turned rows old.window.unit new.window.unit (known_of old.window).strokes (known_of new.window).strokes drives.unit drives.laid is.answered;
  sized = sized_turned rows a.client b.client a.answers.items b.answers.items keeps.keeps is.counted.asked is.counted.most is.sized;
  noted = noted_turned old new a b was there drives notes is.noted;
  behind = behind;
  logout = logout;
  kinds = subst (KeepsKinds b.client b.answers.items) (sym drives.got) kinds;
}
