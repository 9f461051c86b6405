use Rattle.std.proofs.Common.{ap, refl, rules, ◌≡◌}
use Rattle.block_server.specs.Cargo.{is_loaded}
use Rattle.block_server.proofs.Cargoes.{none_more}
use Rattle.block_server.proofs.Gathering.{where_done}
use Rattle.block_server.proofs.CopyKinds.{count_grows}
use Rattle.block_server.proofs.Nexts.{next_named, where_busy}
use Rattle.block_server.specs.declared.service.Stage.TheVariants.{InTable}
use Rattle.block_server.proofs.Sendings.{begun_at, still_at}
use Rattle.block_server.specs.Causes.{told_to}
use Rattle.block_server.specs.Heard.{heard_between}
use Rattle.block_server.specs.Standing.{stood}
use Rattle.block_server.proofs.Denying.{named_map}
use Rattle.block_server.proofs.Stood.{knows_at, knows_then, stays_after, stood_known}
use Rattle.block_server.proofs.fetching.fetch_in_pieces.Goals as goal

pub returns-in_err-progress-clause-cargo : goal.returns-in_err-progress-clause-cargo
returns-in_err-progress-clause-cargo g c = λ id told asked all rows.
    let at : c.args.service.now.stage ≡ InTable = search rules in
    still_at _ _ _ _ _ _ at at refl refl c.in_err-progress.ensures.still told asked

pub returns-in-Done-clause-cargo : goal.returns-in-Done-clause-cargo
returns-in-Done-clause-cargo g c = λ id told asked all rows.
    let at : c.args.service.now.stage ≡ InTable = search rules in
    let named = where_done c.in_ok-progress.progress _ c.in-Done.is c.in_ok-progress.ensures.numbered in
    begun_at told asked id c.args.service.now _ c.args.command.now _ _ rows c.start.result at refl c.start.ensures refl (next_named told id _ _ _ _ all named) named.made

pub returns-in-Refused-clause-cargo : goal.returns-in-Refused-clause-cargo
returns-in-Refused-clause-cargo g c = λ id told asked all rows.
    let at : c.args.service.now.stage ≡ InTable = search rules in
    none_more _ _ _ _ _ _ _ (count_grows _ _ c.fetch_pieces.ensures.advances) (ap is_loaded at) refl refl told asked

pub returns-in-Busy-clause-cargo : goal.returns-in-Busy-clause-cargo
returns-in-Busy-clause-cargo g c = λ id told asked all rows.
    let at : c.args.service.now.stage ≡ InTable = search rules in
    still_at _ _ _ _ _ _ at at refl refl (where_busy c.in_ok-progress.progress _ c.in-Busy.is c.in_ok-progress.ensures.still) told asked

pub returns-in_err-progress-clause-stood : goal.returns-in_err-progress-clause-stood
returns-in_err-progress-clause-stood g c = λ client same alone known.
    let at : c.args.service.now.stage ≡ InTable = search rules in
    knows_at (stood client) c.args.command.now _ InTable _ _ at (knows_then (stood client) c.args.command.now _ InTable _ c.args.service.now.inn.list.items at known)

pub returns-in-Done-clause-stood : goal.returns-in-Done-clause-stood
returns-in-Done-clause-stood g c = λ client same alone known.
    let at : c.args.service.now.stage ≡ InTable = search rules in
    let later = stays_after client (g.S.Site.state c.args.site.now) (g.S.Site.state c.fetch_pieces.new.site) same alone c.fetch_pieces.ensures.advances c.fetch_pieces.ensures.known in
    record {
      out_named = knows_then (stood client) c.args.command.now _ InTable c.args.service.now.out.list.items c.args.service.now.inn.list.items at known;
      in_named = named_map (stood (g.S.Site.state c.fetch_pieces.new.site).client) (stood client) c.args.command.now.inn _ (stood_known client (g.S.Site.state c.fetch_pieces.new.site).client later)
          (where_done c.in_ok-progress.progress _ c.in-Done.is c.in_ok-progress.ensures.stood);
    }

pub returns-in-Refused-clause-stood : goal.returns-in-Refused-clause-stood
returns-in-Refused-clause-stood g c = λ client same alone known. tt

pub returns-in-Busy-clause-stood : goal.returns-in-Busy-clause-stood
returns-in-Busy-clause-stood g c = λ client same alone known.
    let at : c.args.service.now.stage ≡ InTable = search rules in
    knows_at (stood client) c.args.command.now _ InTable _ _ at (knows_then (stood client) c.args.command.now _ InTable _ c.args.service.now.inn.list.items at known)

pub returns-in-Done-clause-named : goal.returns-in-Done-clause-named
returns-in-Done-clause-named g c = λ told id all known.
    let at : c.args.service.now.stage ≡ InTable = search rules in
    record {
      out_named = knows_then (told_to told id) c.args.command.now _ InTable c.args.service.now.out.list.items c.args.service.now.inn.list.items at known;
      in_named = named_map (heard_between (g.S.Site.state c.args.site.now) (g.S.Site.state c.fetch_pieces.new.site)) (told_to told id) c.args.command.now.inn _ all
          (where_done c.in_ok-progress.progress _ c.in-Done.is c.in_ok-progress.ensures.named);
    }
