use Rattle.std.proofs.Common.{Bool, List, Option}
use Rattle.srp_iu.specs.declared.command.Cmd.{Cmd}
use Rattle.vio_num.specs.declared.history.Served.{Served}
use Rattle.vio_num.specs.declared.names.UnitId.{UnitId}
use Rattle.block_server.specs.Cargo.{IsAccounted, cargo_at, seen}
use Rattle.block_server.specs.Causes.{Told}
use Rattle.block_server.specs.Heard.{TellsAll}
use Rattle.block_server.specs.Parts.{IsPlacedAt}
use Rattle.std.proofs.Common.{◌≡◌, ◌-◌}
use Rattle.block_server.specs.Advances.{Advances}
use Rattle.block_server.specs.Moves.{Passes}
use Rattle.block_server.specs.declared.service.Stage.TheVariants.{DataOut}
use Rattle.block_server.specs.Ranges.{client_known}
use Rattle.block_server.proofs.fetching.fetch_data.Given as goal

abbrev pub invariant-loop-part : goal.invariant-loop-part
invariant-loop-part g l = record {
  advances : Advances (g.S.Site.state l.fn.site) (g.S.Site.state l.site);
  stage : l.service.stage ≡ DataOut l.cursor;
  out : l.service.out ≡ l.fn.service.out;
  inn : l.service.inn ≡ l.fn.service.inn;
  queue : (g.S.Site.state l.site).queue ≡ (g.S.Site.state l.fn.site).queue;
  known : client_known (g.S.Site.state l.site) ≡ client_known (g.S.Site.state l.fn.site);
  passes : Passes (g.S.Site.state l.fn.site) (g.S.Site.state l.site);
  placed : IsPlacedAt l.fn.service.out.list.items l.fn.start → IsPlacedAt l.fn.service.out.list.items l.cursor;
  cargo : (id : UnitId) (told : Told → Bool) (asked : Bool) → TellsAll told id (g.S.Site.state l.fn.site) (g.S.Site.state l.site) → (rows : List Served) (first : Option Cmd)
      → IsAccounted told asked (cargo_at id l.fn.service (seen first (g.S.Site.state l.fn.site)) rows) → IsAccounted told asked (cargo_at id l.service (seen first (g.S.Site.state l.site)) rows);
}

abbrev pub decreases-loop-part : goal.decreases-loop-part
decreases-loop-part g l = l.service.out.total - l.cursor.done
