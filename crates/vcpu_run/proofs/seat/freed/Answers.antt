use Rattle.std.proofs.Common.{◌≡◌, Option, Some, ap, refl, subst, sym}
use Rattle.vscsi_client.specs.Turned.{unlinked}
use Rattle.vcpu_run.specs.Agreed.{OnDrivers}
use Rattle.vcpu_run.specs.declared.driver.Driver.{Driver}
use Rattle.vcpu_run.proofs.GivesAll.{gives_told, pair_gives}
use Rattle.vcpu_run.proofs.StepDrives.{freed_drives}
use Rattle.vcpu_run.proofs.seat.freed.Goals as goal

pub returns-clause-gives : goal.returns-clause-gives
returns-clause-gives c =
    pair_gives c.args.pair.now (record c.args.pair.now { driver = Some c.freed.new.self }) c.in-Some.driver c.freed.new.self c.in-Some.is refl
    (gives_told c.in-Some.driver c.freed.new.self c.args.pair.now.link c.freed.ensures.answers c.freed.ensures.client)

pub returns-clause-drives : goal.returns-clause-drives
returns-clause-drives c = freed_drives c.args.pair.now c.in-Some.driver c.freed.new.self c.in-Some.is c.freed.ensures.unit c.freed.ensures.answers c.freed.ensures.client

pub returns-clause-told : goal.returns-clause-told
returns-clause-told c =
    subst (λ (o : Option Driver). OnDrivers o (Some c.freed.new.self) (λ a b. b.client ≡ unlinked a.client)) (sym c.in-Some.is) c.freed.ensures.client

pub returns-clause-noted : goal.returns-clause-noted
returns-clause-noted c =
    subst (λ (o : Option Driver). OnDrivers o (Some c.freed.new.self) (λ a b. b.answers.items ≡ a.answers.items)) (sym c.in-Some.is) (ap (λ rows. rows.items) c.freed.ensures.answers)
