use Rattle.std.proofs.Common.{Option}
use Rattle.srp_iu.specs.declared.command.Cmd.{Cmd}
use Rattle.std.proofs.Common.{Bool, List}
use Rattle.vio_num.specs.declared.history.Served.{Served}
use Rattle.vio_num.specs.declared.names.UnitId.{UnitId}
use Rattle.block_server.specs.Cargo.{AreShown, HasTag, IsAccounted, cargo_at, data_bytes, seen}
use Rattle.block_server.specs.Bearing.{BearsIn, IsDataPart}
use Rattle.block_server.specs.Copied.{own_name}
use Rattle.block_server.specs.Causes.{IsPartOf, Told}
use Rattle.block_server.specs.Ranges.{LaysIn, client_known}
use Rattle.block_server.specs.Heard.{TellsAll}
use Rattle.block_server.specs.Parts.{IsPlacedAt}
use Rattle.std.proofs.Common.{◌≡◌, ◌-◌, take}
use Rattle.block_server.specs.Advances.{Advances}
use Rattle.block_server.specs.Moves.{Passes}
use Rattle.block_server.specs.declared.service.Stage.TheVariants.{DataIn}
use Rattle.block_server.proofs.handing.deliver_data.Given as goal

abbrev pub invariant-loop-part : goal.invariant-loop-part
invariant-loop-part g l = record {
  advances : Advances (g.S.Site.state l.fn.site) (g.S.Site.state l.site);
  stage : l.service.stage ≡ DataIn l.row l.reply l.cursor;
  answer : l.service.answer.items ≡ l.fn.service.answer.items;
  out : l.service.out ≡ l.fn.service.out;
  inn : l.service.inn ≡ l.fn.service.inn;
  given : l.service.given.items ≡ l.fn.service.given.items;
  queue : (g.S.Site.state l.site).queue ≡ (g.S.Site.state l.fn.site).queue;
  passes : Passes (g.S.Site.state l.fn.site) (g.S.Site.state l.site);
  wrote : LaysIn (IsPartOf l.fn.service.inn.list.items) (client_known (g.S.Site.state l.fn.site)) (client_known (g.S.Site.state l.site));
  shown : data_bytes (g.S.Site.state l.site).own ≡ data_bytes (g.S.Site.state l.fn.site).own;
  bears : IsPlacedAt l.fn.service.inn.list.items l.fn.start → AreShown (data_bytes (g.S.Site.state l.fn.site).own) l.fn.service.given.items
      → BearsIn (IsDataPart (own_name (g.S.Site.state l.fn.site).own l.tag) l.fn.service.inn.list.items (take l.cursor.done l.fn.service.given.items)) (client_known (g.S.Site.state l.fn.site)) (client_known (g.S.Site.state l.site));
  placed : IsPlacedAt l.fn.service.inn.list.items l.fn.start → IsPlacedAt l.fn.service.inn.list.items l.cursor;
  cargo : (id : UnitId) (told : Told → Bool) (asked : Bool) → TellsAll told id (g.S.Site.state l.fn.site) (g.S.Site.state l.site) → (rows : List Served) → HasTag rows l.row l.tag → (first : Option Cmd)
      → IsAccounted told asked (cargo_at id l.fn.service (seen first (g.S.Site.state l.fn.site)) rows) → IsAccounted told asked (cargo_at id l.service (seen first (g.S.Site.state l.site)) rows);
}

abbrev pub decreases-loop-part : goal.decreases-loop-part
decreases-loop-part g l = l.total - l.cursor.done
