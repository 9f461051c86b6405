use Rattle.std.proofs.Common.{◌≡◌, ◌+◌, ◌≤◌, ◌-◌, List, None, false, length}
use Rattle.block_server.specs.Talk.{IsListening, Word, reach_of, to_come}
use Rattle.block_server.proofs.Listening.{HearsSome}
use Rattle.block_server.specs.Advances.{Advances}
use Rattle.block_server.specs.Books.{books_at}
use Rattle.block_server.specs.Cargo.{KeepsCargo, cargo_of}
use Rattle.block_server.specs.Doings.{DoesFreely, IsFree, doing}
use Rattle.block_server.specs.HeardOut.{to_serve}
use Rattle.block_server.specs.Judges.{Judges}
use Rattle.block_server.specs.Owed.{KeepsAnswers}
use Rattle.block_server.specs.Receipts.{MayTake, TakesIn, is_ended, standing_of}
use Rattle.block_server.specs.Refusals.{ExplainsBy, ledger_of}
use Rattle.block_server.specs.Resting.{IsEmptied}
use Rattle.block_server.specs.RowsOn.{KeepsIdleRows}
use Rattle.block_server.specs.Serving.{AnswersOnceBy, desk_of}
use Rattle.block_server.specs.Steps.{ComesOn, NoStage}
use Rattle.block_server.specs.Turns.{IfQuiet}
use Rattle.block_server.specs.Waits.{StaysAgreed}
use Rattle.block_server.proofs.Readying.{TookNone}
use Rattle.block_server.proofs.Restings.{IsAsBefore}
use Rattle.block_server.proofs.intake.take_in.Given as goal

abbrev pub invariant-loop-taken : goal.invariant-loop-taken
invariant-loop-taken g l = record {
  advances : Advances (g.S.Site.state l.fn.site) (g.S.Site.state l.site);
  quiet : IfQuiet l.fn.unit l.unit (g.S.Site.state l.fn.site).queue (g.S.Site.state l.site).queue;
  none : l.unit.line.kept ≡ None;
  agrees : StaysAgreed l.fn.unit l.unit (g.S.Site.state l.fn.site).queue (g.S.Site.state l.site).queue;
  waits : l.unit.moved ≡ false → TookNone l.taken l.fn.unit l.unit (g.S.Site.state l.fn.site).queue (g.S.Site.state l.site).queue;
  once : AnswersOnceBy (g.S.Site.state l.fn.site) (g.S.Site.state l.site) (desk_of l.fn.unit) (desk_of l.unit) l.fn.records l.records;
  intake : is_ended l.fn.unit.line ≡ false → TakesIn (standing_of l.fn.unit) (standing_of l.unit) (g.S.Site.state l.fn.site) (g.S.Site.state l.site) l.fn.records.grants.items l.records.grants.items;
  judges : is_ended l.fn.unit.line ≡ false → Judges (standing_of l.fn.unit) (standing_of l.unit) (g.S.Site.state l.fn.site) (g.S.Site.state l.site) (books_at l.fn.unit (g.S.Site.state l.fn.site) l.fn.records) (books_at l.unit (g.S.Site.state l.site) l.records);
  answers : KeepsAnswers g.S.Site.link_shared l.fn.unit l.unit (g.S.Site.state l.fn.site) (g.S.Site.state l.site) l.fn.records l.records;
  cargo : KeepsCargo (cargo_of l.fn.unit (g.S.Site.state l.fn.site) l.fn.records) (cargo_of l.unit (g.S.Site.state l.site) l.records);
  refuses : is_ended l.fn.unit.line ≡ false → ExplainsBy (g.S.Site.state l.fn.site) (g.S.Site.state l.site) (ledger_of l.fn.unit (g.S.Site.state l.fn.site) l.fn.records) (ledger_of l.unit (g.S.Site.state l.site) l.records);
  comes : ComesOn NoStage l.fn.unit l.unit (g.S.Site.state l.fn.site).queue (g.S.Site.state l.site).queue;
  rests : g.S.Site.link_shared ≡ false → l.fn.unit.waiting ≡ None → IsEmptied (g.S.Site.state l.fn.site).queue
      → IsAsBefore l.fn.unit l.unit (g.S.Site.state l.fn.site) (g.S.Site.state l.site);
  hears : (words : List Word) → IsListening l.fn.unit (reach_of (g.S.Site.state l.fn.site)) g.S.Site.link_shared words
      → HearsSome g.S.Site.link_shared l.fn.unit l.unit (reach_of (g.S.Site.state l.fn.site)) (reach_of (g.S.Site.state l.site)) l.fn.records.grants.items l.records.grants.items words l.taken;
  may : is_ended l.fn.unit.line ≡ false → MayTake (standing_of l.unit);
  idle : KeepsIdleRows l.fn.unit.service.stage l.unit.service.stage l.fn.records.history.items l.records.history.items;
  does : g.S.Site.link_shared ≡ false → (g.S.Site.state l.fn.site).shared ≡ false → is_ended l.fn.unit.line ≡ false → IsFree (doing l.fn.unit (g.S.Site.state l.fn.site) l.fn.records)
      → DoesFreely (doing l.fn.unit (g.S.Site.state l.fn.site) l.fn.records) (doing l.unit (g.S.Site.state l.site) l.records);
  brings : g.S.Site.link_shared ≡ false → l.fn.unit.waiting ≡ None → to_serve l.unit (g.S.Site.state l.site).queue ≤ to_serve l.fn.unit (g.S.Site.state l.fn.site).queue;
  left : g.S.Site.link_shared ≡ false → l.taken + length (to_come (g.S.Site.state l.site).queue) ≡ length (to_come (g.S.Site.state l.fn.site).queue);
}

abbrev pub decreases-loop-taken : goal.decreases-loop-taken
decreases-loop-taken g l = l.slots - l.taken
