use Rattle.std.proofs.Common.{◌≡◌, ◌∙◌, List, [], IfSome, IsSome, ap, subst, sym}
use Rattle.vio_num.specs.declared.history.Served.{Served}
use Rattle.block_server.specs.DiskLaw.{KeepsDisk}
use Rattle.vcpu_run.specs.Caused.{RowsAreInForm}
use Rattle.vcpu_run.specs.OnDisk.{IsServed, LastsInRows}
use Rattle.vcpu_run.specs.Machines.{IsOfPlan}
use Rattle.vcpu_run.proofs.Causings.{caused_of_plan}
use Rattle.vcpu_run.proofs.Disks.{served_from, served_same, served_somehow, told_same}
use Rattle.std.proofs.lemmas.Option.{IfSome_then}
use Rattle.vcpu_run.proofs.Told.{law_of_plan}
use Rattle.vcpu_run.proofs.machine.settle_plan.Goals as goal

pub returns-in-Ok-clause-law : goal.returns-in-Ok-clause-law
returns-in-Ok-clause-law g c =
    law_of_plan c.settle.result.trace c.args.plan.now
    (IfSome_then c.settle.result.trace c.settle.ensures.law (λ trace keeps. keeps c.args.plan.now.partitions c.in-Ok.ensures.of_plan))
    (IfSome_then c.settle.result.trace c.settle.ensures.grants (λ trace grants. grants c.args.plan.now.grant c.in-Ok.ensures.grants))
    (IfSome_then c.settle.result.trace c.settle.ensures.clients
    (λ trace told. told c.args.plan.now.partitions c.in-Ok.ensures.of_plan c.args.plan.now.grant c.in-Ok.ensures.clients))

pub returns-in-Ok-clause-disk : goal.returns-in-Ok-clause-disk
returns-in-Ok-clause-disk g c =
    let trace = c.settle.result.trace in
    let after = (g.Di.Blocks.state c.settle.result.image).blocks in
    served_from trace (g.Di.Blocks.state c.args.image).blocks after
    (subst (λ image. IfSome trace (λ told. ∥ KeepsDisk [] told.serves (g.Di.Blocks.state image).blocks after ∥₁)) c.in-Ok.ensures.image
    (subst (λ (rows : List Served). IfSome trace (λ told. ∥ KeepsDisk rows told.serves (g.Di.Blocks.state c.in-Ok.machine.server.disk.image).blocks after ∥₁)) c.in-Ok.ensures.none c.settle.ensures.disk))

pub returns-in-Ok-clause-tells : goal.returns-in-Ok-clause-tells
returns-in-Ok-clause-tells g c =
    subst (λ image. IfSome (g.Di.Blocks.state image).blocks (λ blocks. IsSome (g.Di.Blocks.state c.settle.result.image).blocks)) c.in-Ok.ensures.image c.settle.ensures.tells

pub returns-in-Err-clause-tells : goal.returns-in-Err-clause-tells
returns-in-Err-clause-tells g c =
    subst (λ image. IfSome (g.Di.Blocks.state c.args.image).blocks (λ blocks. IsSome (g.Di.Blocks.state image).blocks)) (sym c.in-Err.ensures.err)
    (told_same (g.Di.Blocks.state c.args.image).blocks)

pub returns-in-Ok-clause-served : goal.returns-in-Ok-clause-served
returns-in-Ok-clause-served g c =
    let before = (g.Di.Blocks.state c.args.image).blocks in
    let after = (g.Di.Blocks.state c.settle.result.image).blocks in
    let lasts : LastsInRows [] before after =
    subst (λ image. LastsInRows [] (g.Di.Blocks.state image).blocks after) c.in-Ok.ensures.image
    (subst (λ (rows : List Served). LastsInRows rows (g.Di.Blocks.state c.in-Ok.machine.server.disk.image).blocks after) c.in-Ok.ensures.none c.settle.ensures.lasts) in
    served_somehow before after lasts
    (subst (λ image. IfSome (g.Di.Blocks.state image).blocks (λ blocks. IsSome after)) c.in-Ok.ensures.image c.settle.ensures.tells)

pub returns-in-Err-clause-served : goal.returns-in-Err-clause-served
returns-in-Err-clause-served g c =
    subst (λ image. IsServed (g.Di.Blocks.state c.args.image).blocks (g.Di.Blocks.state image).blocks) (sym c.in-Err.ensures.err)
    (served_same (g.Di.Blocks.state c.args.image).blocks)

pub returns-in-Ok-clause-caused : goal.returns-in-Ok-clause-caused
returns-in-Ok-clause-caused g c =
    let machine = c.in-Ok.machine in
    caused_of_plan c.settle.result.trace c.args.plan.now.partitions machine.server.records.history.items (g.Di.Blocks.state machine.server.disk.image).blocks (g.Di.Blocks.state c.args.image).blocks
    (g.Di.Blocks.state c.settle.result.image).blocks (λ partitions. IsOfPlan partitions machine.pairs.items machine.scripts.items machine.lan.seats)
    c.in-Ok.ensures.of_plan c.in-Ok.ensures.none (ap (λ image. (g.Di.Blocks.state image).blocks) c.in-Ok.ensures.image) c.settle.ensures.caused

pub returns-in-Ok-clause-formed : goal.returns-in-Ok-clause-formed
returns-in-Ok-clause-formed g c =
    let sized : c.in-Ok.machine.server.disk.count ≡ (g.Di.Blocks.state c.args.image).size =
    c.in-Ok.machine.server.disk.sized ∙ ap (λ image. (g.Di.Blocks.state image).size) c.in-Ok.ensures.image in
    IfSome_then c.settle.result.trace c.settle.ensures.formed
    (λ trace formed. subst (RowsAreInForm c.args.plan.now.partitions trace) sized (formed c.args.plan.now.partitions c.in-Ok.ensures.of_plan))
