use Rattle.std.proofs.Common.{ap, refl, rules, ◌≡◌}
use Rattle.block_server.specs.Cargo.{is_moving}
use Rattle.block_server.proofs.Cargoes.{none_seen}
use Rattle.block_server.specs.declared.service.Stage.TheVariants.{Start}
use Rattle.block_server.proofs.fetching.is_refused.Goals as goal

pub returns-in-Ok-clause-cargo : goal.returns-in-Ok-clause-cargo
returns-in-Ok-clause-cargo c = λ id shown rows.
    let at : c.args.service.now.stage ≡ Start = search rules in
    none_seen _ _ _ _ _ _ _ refl (ap is_moving at) refl refl

pub returns-in-Ok-clause-stood : goal.returns-in-Ok-clause-stood
returns-in-Ok-clause-stood c = λ client known. tt
