use Rattle.std.proofs.Common.{ap, refl, rules, ◌≡◌}
use Rattle.block_server.specs.Cargo.{is_loaded, is_moving}
use Rattle.block_server.proofs.Cargoes.{none_more}
use Rattle.block_server.proofs.Gathering.{where_done}
use Rattle.block_server.proofs.CopyKinds.{count_grows}
use Rattle.block_server.proofs.Nexts.{next_named}
use Rattle.block_server.proofs.Sendings.{out_at}
use Rattle.block_server.specs.declared.service.Stage.TheVariants.{OutTable}
use Rattle.block_server.specs.Standing.{stood}
use Rattle.block_server.proofs.Denying.{named_map}
use Rattle.block_server.proofs.Stood.{knows_at, stays_after, stood_known}
use Rattle.block_server.proofs.fetching.fetch_out_pieces.Goals as goal

pub returns-in_err-progress-clause-cargo : goal.returns-in_err-progress-clause-cargo
returns-in_err-progress-clause-cargo g c = λ id told asked all rows.
    let at : c.args.service.now.stage ≡ OutTable = search rules in
    none_more _ _ _ _ _ _ _ (count_grows _ _ c.fetch_pieces.ensures.advances) (ap is_loaded at) (ap is_moving at) refl told asked

pub returns-then-eq-clause-cargo : goal.returns-then-eq-clause-cargo
returns-then-eq-clause-cargo g c = λ id told asked all rows.
    let at : c.args.service.now.stage ≡ OutTable = search rules in
    let named = where_done c.in_ok-progress.progress _ (search rules) c.in_ok-progress.ensures.numbered in
    out_at told asked id c.args.service.now _ c.args.command.now _ _ rows (ap is_moving at) refl (next_named told id _ _ _ _ all named) named.made

pub returns-else-eq-clause-cargo : goal.returns-else-eq-clause-cargo
returns-else-eq-clause-cargo g c = λ id told asked all rows.
    let at : c.args.service.now.stage ≡ OutTable = search rules in
    none_more _ _ _ _ _ _ _ (count_grows _ _ c.fetch_pieces.ensures.advances) (ap is_loaded at) (ap is_moving at) refl told asked

pub returns-in_err-progress-clause-stood : goal.returns-in_err-progress-clause-stood
returns-in_err-progress-clause-stood g c = λ client same alone known.
    let at : c.args.service.now.stage ≡ OutTable = search rules in
    knows_at (stood client) c.args.command.now _ OutTable _ _ at tt

pub returns-then-eq-clause-stood : goal.returns-then-eq-clause-stood
returns-then-eq-clause-stood g c = λ client same alone known.
    let later = stays_after client (g.S.Site.state c.args.site.now) (g.S.Site.state c.fetch_pieces.new.site) same alone c.fetch_pieces.ensures.advances c.fetch_pieces.ensures.known in
    named_map (stood (g.S.Site.state c.fetch_pieces.new.site).client) (stood client) c.args.command.now.out _ (stood_known client (g.S.Site.state c.fetch_pieces.new.site).client later)
    (where_done c.in_ok-progress.progress _ (search rules) c.in_ok-progress.ensures.stood)

pub returns-else-eq-clause-stood : goal.returns-else-eq-clause-stood
returns-else-eq-clause-stood g c = λ client same alone known.
    let at : c.args.service.now.stage ≡ OutTable = search rules in
    knows_at (stood client) c.args.command.now _ OutTable _ _ at tt
