use Rattle.std.proofs.Common.{◌≡◌, ◌≤◌, Err, Ok, length, refl, rules}
use Rattle.srp_desc.specs.declared.pieces.TheConstants.{MAX_DATA_LEN}
use Rattle.vcpu_run.specs.LinesShow.{seen_by}
use Rattle.unit_region.specs.declared.step.Step.TheVariants as steps
use Rattle.vio_trace.specs.declared.outcome.Outcome.TheVariants as outcomes
use Rattle.vio_num.specs.declared.hypervisor.Moved.TheVariants.{Quiet}
use Rattle.vscsi_client.specs.declared.answers.DataFault.TheVariants as faults
use Rattle.vcpu_run.proofs.CallsLay.{reads_none_laid}
use Rattle.vcpu_run.proofs.DataGiven.{given_few, told_read, told_stale, told_unknown}
use Rattle.vcpu_run.proofs.TakingCalls.{tags_still}
use Rattle.vcpu_run.proofs.TakingData.{data_waits, known_taken, not_unknown, unknown_taken}
use Rattle.vcpu_run.specs.PlainSteps.{own_by, own_of}
use Rattle.vcpu_run.proofs.PlainAside.{data_steps}
use Rattle.vcpu_run.specs.Acts.{acting}
use Rattle.vcpu_run.proofs.ActsLines.{data_acts, data_said, reads_acts}
use Rattle.vcpu_run.proofs.driver.Driver.data.Goals as goal

pub returns-in-Err-Unknown-clause-takes : goal.returns-in-Err-Unknown-clause-takes
returns-in-Err-Unknown-clause-takes g c =
    unknown_taken c.args.tag c.args.self.now (record c.args.self.now { client = c.data_of.new.self })
    (tags_still c.args.self.now (record c.args.self.now { client = c.data_of.new.self }) c.args.self.now.client refl c.data_of.ensures.same refl refl) (c.data_of.ensures.unknown.0 (search rules))

pub returns-in-Ok-clause-takes : goal.returns-in-Ok-clause-takes
returns-in-Ok-clause-takes g c =
    known_taken c.args.tag c.args.self.now (record c.args.self.now { client = c.data_of.new.self }) (outcomes.Data _ _)
    (tags_still c.args.self.now (record c.args.self.now { client = c.data_of.new.self }) c.args.self.now.client refl c.data_of.ensures.same refl refl) (λ none. cc (c.in-Ok.is, c.data_of.ensures.unknown.1 none)) tt (λ now. refl)

pub returns-in-Err-Stale-clause-takes : goal.returns-in-Err-Stale-clause-takes
returns-in-Err-Stale-clause-takes g c =
    let is : c.data_of.result ≡ Err (faults.Stale c.in-Err-Stale.page) = search rules in
    known_taken c.args.tag c.args.self.now (record c.args.self.now { client = c.data_of.new.self }) (outcomes.Stale c.in-Err-Stale.page)
    (tags_still c.args.self.now (record c.args.self.now { client = c.data_of.new.self }) c.args.self.now.client refl c.data_of.ensures.same refl refl) (λ none. not_unknown c.data_of.result c.in-Err-Stale.page is (c.data_of.ensures.unknown.1 none)) tt (λ now. refl)

pub returns-in-Err-InUse-clause-takes : goal.returns-in-Err-InUse-clause-takes
returns-in-Err-InUse-clause-takes g c = data_waits c.args.tag c.args.self.now (record c.args.self.now { client = c.data_of.new.self }) Quiet (tags_still c.args.self.now (record c.args.self.now { client = c.data_of.new.self }) c.args.self.now.client refl c.data_of.ensures.same refl refl)

pub returns-in-Ok-clause-reads : goal.returns-in-Ok-clause-reads
returns-in-Ok-clause-reads g c = λ alone shared end.
    told_read c.args.self.now.client c.args.tag shared g.O.WindowPort.is_shared (g.O.WindowPort.state c.args.own.now) (g.O.WindowPort.state c.data_of.new.own) end
    c.in-Ok.bytes c.len.result c.sum_of.result alone (λ none. cc (c.in-Ok.is, c.data_of.ensures.unknown.1 none)) (search (rules, c.in-Ok.is, c.data_of.ensures.given)) (search rules) (search rules)

pub returns-in-Err-Stale-clause-reads : goal.returns-in-Err-Stale-clause-reads
returns-in-Err-Stale-clause-reads g c = λ alone shared end.
    told_stale c.args.self.now.client c.args.tag shared g.O.WindowPort.is_shared (g.O.WindowPort.state c.args.own.now) (g.O.WindowPort.state c.data_of.new.own) end c.in-Err-Stale.page
    (λ none. not_unknown c.data_of.result c.in-Err-Stale.page (search rules) (c.data_of.ensures.unknown.1 none)) (search rules)

pub returns-in-Err-Unknown-clause-reads : goal.returns-in-Err-Unknown-clause-reads
returns-in-Err-Unknown-clause-reads g c = λ alone shared end. told_unknown (seen_by shared (g.O.WindowPort.state c.data_of.new.own) end) c.args.self.now.client c.args.tag

pub sum_of-requires : goal.sum_of-requires
sum_of-requires g c =
    let few : length c.in-Ok.bytes ≤ MAX_DATA_LEN =
    given_few (g.O.WindowPort.state c.args.own.now).place.size c.args.tag c.args.self.now.client g.O.WindowPort.is_shared (g.O.WindowPort.state c.args.own.now)
    (g.O.WindowPort.state c.data_of.new.own) c.in-Ok.bytes c.requires (λ none. cc (c.in-Ok.is, c.data_of.ensures.unknown.1 none)) (search (rules, c.in-Ok.is, c.data_of.ensures.given)) in
    search (rules, few)

pub returns-in-Ok-clause-marks : goal.returns-in-Ok-clause-marks
returns-in-Ok-clause-marks g c = reads_none_laid g.O.WindowPort.is_shared (g.O.WindowPort.state c.args.own.now) (g.O.WindowPort.state c.data_of.new.own) c.data_of.ensures.rest

pub returns-in-Err-Unknown-clause-marks : goal.returns-in-Err-Unknown-clause-marks
returns-in-Err-Unknown-clause-marks g c = reads_none_laid g.O.WindowPort.is_shared (g.O.WindowPort.state c.args.own.now) (g.O.WindowPort.state c.data_of.new.own) c.data_of.ensures.rest

pub returns-in-Err-Stale-clause-marks : goal.returns-in-Err-Stale-clause-marks
returns-in-Err-Stale-clause-marks g c = reads_none_laid g.O.WindowPort.is_shared (g.O.WindowPort.state c.args.own.now) (g.O.WindowPort.state c.data_of.new.own) c.data_of.ensures.rest

pub returns-in-Err-InUse-clause-marks : goal.returns-in-Err-InUse-clause-marks
returns-in-Err-InUse-clause-marks g c = reads_none_laid g.O.WindowPort.is_shared (g.O.WindowPort.state c.args.own.now) (g.O.WindowPort.state c.data_of.new.own) c.data_of.ensures.rest

pub returns-in-Err-NoMemory-clause-marks : goal.returns-in-Err-NoMemory-clause-marks
returns-in-Err-NoMemory-clause-marks g c = reads_none_laid g.O.WindowPort.is_shared (g.O.WindowPort.state c.args.own.now) (g.O.WindowPort.state c.data_of.new.own) c.data_of.ensures.rest

pub returns-in-Ok-clause-plainly : goal.returns-in-Ok-clause-plainly
returns-in-Ok-clause-plainly g c = λ alone end p.
    data_steps g.O.WindowPort.is_shared c.args.tag p (own_of c.args.self.now end (g.O.WindowPort.state c.args.own.now))
    (own_by c.data_of.new.self c.args.self.now.answers.items end (g.O.WindowPort.state c.data_of.new.own)) (steps.Ends (outcomes.Data _ _)) alone refl c.data_of.ensures.same refl refl c.data_of.ensures.rest

pub returns-in-Err-Unknown-clause-plainly : goal.returns-in-Err-Unknown-clause-plainly
returns-in-Err-Unknown-clause-plainly g c = λ alone end p.
    data_steps g.O.WindowPort.is_shared c.args.tag p (own_of c.args.self.now end (g.O.WindowPort.state c.args.own.now))
    (own_by c.data_of.new.self c.args.self.now.answers.items end (g.O.WindowPort.state c.data_of.new.own)) (steps.Ends outcomes.Unknown) alone refl c.data_of.ensures.same refl refl c.data_of.ensures.rest

pub returns-in-Err-Stale-clause-plainly : goal.returns-in-Err-Stale-clause-plainly
returns-in-Err-Stale-clause-plainly g c = λ alone end p.
    data_steps g.O.WindowPort.is_shared c.args.tag p (own_of c.args.self.now end (g.O.WindowPort.state c.args.own.now))
    (own_by c.data_of.new.self c.args.self.now.answers.items end (g.O.WindowPort.state c.data_of.new.own)) (steps.Ends (outcomes.Stale _)) alone refl c.data_of.ensures.same refl refl c.data_of.ensures.rest

pub returns-in-Err-InUse-clause-plainly : goal.returns-in-Err-InUse-clause-plainly
returns-in-Err-InUse-clause-plainly g c = λ alone end p.
    data_steps g.O.WindowPort.is_shared c.args.tag p (own_of c.args.self.now end (g.O.WindowPort.state c.args.own.now))
    (own_by c.data_of.new.self c.args.self.now.answers.items end (g.O.WindowPort.state c.data_of.new.own)) (steps.Waits Quiet) alone tt c.data_of.ensures.same refl refl c.data_of.ensures.rest

pub returns-in-Err-NoMemory-clause-plainly : goal.returns-in-Err-NoMemory-clause-plainly
returns-in-Err-NoMemory-clause-plainly g c = λ alone end p plain granted unit server server' now spares stays talks come. tt

pub returns-in-Ok-clause-acts : goal.returns-in-Ok-clause-acts
returns-in-Ok-clause-acts g c = λ shared end.
    let old = (acting c.args.self.now shared end g.O.WindowPort.is_shared (g.O.WindowPort.state c.args.own.now)) in
    let new = (acting (record c.args.self.now { client = c.data_of.new.self }) shared end g.O.WindowPort.is_shared (g.O.WindowPort.state c.data_of.new.own)) in
    data_acts c.args.tag old new c.data_of.result (Ok c.in-Ok.bytes) (steps.Ends (outcomes.Data c.len.result c.sum_of.result)) (reads_acts old new c.data_of.ensures.same refl refl c.data_of.ensures.rest)
    c.data_of.ensures.unknown c.data_of.ensures.given c.data_of.ensures.why (search rules) (data_said c.in-Ok.bytes c.len.result c.sum_of.result (search rules) (search rules))

pub returns-in-Err-Unknown-clause-acts : goal.returns-in-Err-Unknown-clause-acts
returns-in-Err-Unknown-clause-acts g c = λ shared end.
    let old = (acting c.args.self.now shared end g.O.WindowPort.is_shared (g.O.WindowPort.state c.args.own.now)) in
    let new = (acting (record c.args.self.now { client = c.data_of.new.self }) shared end g.O.WindowPort.is_shared (g.O.WindowPort.state c.data_of.new.own)) in
    data_acts c.args.tag old new c.data_of.result (Err faults.Unknown) (steps.Ends outcomes.Unknown) (reads_acts old new c.data_of.ensures.same refl refl c.data_of.ensures.rest)
    c.data_of.ensures.unknown c.data_of.ensures.given c.data_of.ensures.why (search rules) refl

pub returns-in-Err-Stale-clause-acts : goal.returns-in-Err-Stale-clause-acts
returns-in-Err-Stale-clause-acts g c = λ shared end.
    let old = (acting c.args.self.now shared end g.O.WindowPort.is_shared (g.O.WindowPort.state c.args.own.now)) in
    let new = (acting (record c.args.self.now { client = c.data_of.new.self }) shared end g.O.WindowPort.is_shared (g.O.WindowPort.state c.data_of.new.own)) in
    data_acts c.args.tag old new c.data_of.result (Err (faults.Stale c.in-Err-Stale.page)) (steps.Ends (outcomes.Stale c.in-Err-Stale.page)) (reads_acts old new c.data_of.ensures.same refl refl c.data_of.ensures.rest)
    c.data_of.ensures.unknown c.data_of.ensures.given c.data_of.ensures.why (search rules) refl

pub returns-in-Err-InUse-clause-acts : goal.returns-in-Err-InUse-clause-acts
returns-in-Err-InUse-clause-acts g c = λ shared end.
    let old = (acting c.args.self.now shared end g.O.WindowPort.is_shared (g.O.WindowPort.state c.args.own.now)) in
    let new = (acting (record c.args.self.now { client = c.data_of.new.self }) shared end g.O.WindowPort.is_shared (g.O.WindowPort.state c.data_of.new.own)) in
    data_acts c.args.tag old new c.data_of.result (Err (faults.InUse c.in-Err-InUse.field-0-0 c.in-Err-InUse.field-0-1)) (steps.Waits Quiet) (reads_acts old new c.data_of.ensures.same refl refl c.data_of.ensures.rest)
    c.data_of.ensures.unknown c.data_of.ensures.given c.data_of.ensures.why (search rules) tt
