use Rattle.std.proofs.Common.{All, OnOk, subst}
use Rattle.vcpu_run.specs.CopiesCounted.{copies_at}
use Rattle.vcpu_run.specs.Agreed.{AreCredited}
use Rattle.vcpu_run.specs.Lines.{IsOver}
use Rattle.vcpu_run.specs.PortsRest.{PortsEnd}
use Rattle.vcpu_run.specs.Received.{AreAtRest}
use Rattle.vcpu_run.specs.ScriptTold.{AreTold}
use Rattle.vcpu_run.proofs.Told.{each_told, law_told, served_told, said_told}
use Rattle.vcpu_run.specs.PlainPairs.{books_of}
use Rattle.vcpu_run.specs.ClientRuns.{AreClients}
use Rattle.vcpu_run.proofs.machine.trace_of.Goals as goal

pub returns-in-Ok-clause-law : goal.returns-in-Ok-clause-law
returns-in-Ok-clause-law c =
    let told = c.gather.ensures in
    let credited = subst (λ r. OnOk r (AreCredited (copies_at c.args.copies.items c.args.pairs.items) c.args.pairs.items c.args.scripts.items)) c.in-Ok.is c.requires.credited in
    let said = subst (λ r. OnOk r (AreTold c.args.pairs.items c.args.scripts.items)) c.in-Ok.is c.requires.said in
    let tells = subst (λ r. OnOk r (PortsEnd c.args.lan c.args.scripts.items)) c.in-Ok.is c.requires.told in
    let over = subst (λ r. OnOk r (All IsOver c.args.scripts.items)) c.in-Ok.is c.requires.over in
    let rests = subst (λ r. OnOk r (AreAtRest c.args.copies.items c.args.grants.items c.args.history.items c.args.pairs.items c.args.scripts.items)) c.in-Ok.is c.requires.rests in
    law_told c.gather.result c.ok.result c.args.pairs.items c.args.scripts.items c.args.lan c.args.history.items c.args.copies.items c.args.grants.items c.ok.ensures.value
    over credited said c.requires.answered tells rests told.order told.lawful told.lines told.refusals told.answers told.rests told.logins

pub returns-in-Ok-clause-serves : goal.returns-in-Ok-clause-serves
returns-in-Ok-clause-serves c = served_told c.gather.result c.ok.result c.args.history.items c.ok.ensures.value c.gather.ensures.serves

pub returns-in-Ok-clause-shown : goal.returns-in-Ok-clause-shown
returns-in-Ok-clause-shown c =
    said_told c.gather.result c.ok.result _ c.ok.ensures.value
    (each_told c.gather.result _ _ (λ trace lawful partitions of_plan. (lawful partitions of_plan).shown) c.gather.ensures.lawful)

pub returns-in-Ok-clause-grants : goal.returns-in-Ok-clause-grants
returns-in-Ok-clause-grants c = said_told c.gather.result c.ok.result _ c.ok.ensures.value c.gather.ensures.grants

pub returns-in-Ok-clause-clients : goal.returns-in-Ok-clause-clients
returns-in-Ok-clause-clients c =
    let rests = subst (λ r. OnOk r (AreAtRest c.args.copies.items c.args.grants.items c.args.history.items c.args.pairs.items c.args.scripts.items)) c.in-Ok.is c.requires.rests in
    let said = subst (λ r. OnOk r (AreTold c.args.pairs.items c.args.scripts.items)) c.in-Ok.is c.requires.said in
    said_told c.gather.result c.ok.result _ c.ok.ensures.value
    (each_told c.gather.result _ _
    (λ trace keeps partitions of_plan granted home units plain. keeps partitions of_plan said rests granted home units
    (subst (λ r. OnOk r (AreClients granted home (books_of units c.args.grants.items c.args.history.items) c.args.pairs.items c.args.scripts.items)) c.in-Ok.is plain))
    c.gather.ensures.clients)
