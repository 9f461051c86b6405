-- The trace of a run, where there is one, keeps the law of the plan's runs.
use Rattle.std.proofs.Common.{◌≡◌, All, List, None, Option, Result, Some, Ok, Err, IfOk, IfSome, sym, subst}
use Rattle.std.specs.Result.{result_ok}
use Rattle.boot_text.specs.declared.plan.Partition.{Partition}
use Rattle.lan_script.specs.declared.seat.PortSeat.{PortSeat}
use Rattle.vio_trace.specs.Form.{IsInOrder}
use Rattle.vio_trace.specs.declared.rows.Trace.{Trace}
use Rattle.vcpu_run.specs.ClientRuns.{ClientsTell}
use Rattle.vcpu_run.specs.CopiesCounted.{copies_at}
use Rattle.vcpu_run.specs.declared.pair.Pair.{Pair}
use Rattle.vcpu_run.specs.declared.script.Script.{Script}
use Rattle.rdma_copy.specs.declared.copy.CopyRecord.{CopyRecord}
use Rattle.vio_num.specs.declared.history.Grant.{Grant}
use Rattle.vio_num.specs.declared.history.Served.{Served}
use Rattle.vcpu_run.specs.Answered.{AreAnswered}
use Rattle.vcpu_run.specs.AnswersSent.{AnswersAreSent}
use Rattle.vcpu_run.specs.Agreed.{AreCredited}
use Rattle.vcpu_run.specs.Lines.{IsOver}
use Rattle.vcpu_run.specs.GatheredLaw.{LinesAreLawful, LoginsAreLawful, PartsAreLawful, RestIsLawful}
use Rattle.vcpu_run.specs.Machines.{IsOfPlan}
use Rattle.lan_script.specs.Units.{LanValue}
use Rattle.vcpu_run.specs.PortsRest.{PortsEnd}
use Rattle.vcpu_run.specs.Received.{AreAtRest}
use Rattle.vcpu_run.specs.Refusals.{RefusalsAreTold}
use Rattle.vcpu_run.specs.ScriptTold.{AreTold}
use Rattle.vcpu_run.specs.RunLaw.{KeepsLawOf, KeepsLaw}
use Rattle.boot_text.specs.declared.plan.Plan.{Plan}
use Rattle.block_server.specs.Receipts.{GrantsMany}

-- a law of traces is kept over each plan that this is the machine of
abbrev pub Keeps : (List Partition → Trace → Type 0) → List Pair → List Script → List PortSeat → Trace → Type 0
Keeps law pairs scripts ports trace = (partitions : List Partition) → IsOfPlan partitions pairs scripts ports → law partitions trace

-- and so once this is so, too
abbrev pub KeepsOnce : Type 0 → (List Partition → Trace → Type 0) → List Pair → List Script → List PortSeat → Trace → Type 0
KeepsOnce once law pairs scripts ports trace = (partitions : List Partition) → IsOfPlan partitions pairs scripts ports → once → law partitions trace

pub law_told : {E : Type 0} (r : Result Trace E) (o : Option Trace) (pairs : List Pair) (scripts : List Script) (lan : LanValue) (history : List Served) (copies : List CopyRecord) (lines : List Grant) → o ≡ result_ok r
    → All IsOver scripts → AreCredited (copies_at copies pairs) pairs scripts → AreTold pairs scripts → AreAnswered history pairs → PortsEnd lan scripts
    → AreAtRest copies lines history pairs scripts
    → IfOk r IsInOrder → IfOk r (Keeps (PartsAreLawful copies pairs) pairs scripts lan.seats)
    → IfOk r (Keeps (LinesAreLawful copies pairs scripts lan) pairs scripts lan.seats)
    → IfOk r (KeepsOnce (All IsOver scripts) (λ partitions trace. AreTold pairs scripts → AreAtRest copies lines history pairs scripts → RefusalsAreTold partitions trace) pairs scripts lan.seats)
    → IfOk r (KeepsOnce (AreAnswered history pairs) AnswersAreSent pairs scripts lan.seats)
    → IfOk r (KeepsOnce (AreAtRest copies lines history pairs scripts) RestIsLawful pairs scripts lan.seats)
    → IfOk r (KeepsOnce (AreAnswered history pairs) (λ partitions trace. AreAtRest copies lines history pairs scripts → LoginsAreLawful partitions trace) pairs scripts lan.seats)
    → IfSome o (Keeps KeepsLawOf pairs scripts lan.seats)
law_told (Ok trace) o pairs scripts lan history copies lines e over are said answered ends rests order lawful told refusals answers settled logins =
    subst (λ (o : Option Trace). IfSome o (Keeps KeepsLawOf pairs scripts lan.seats)) (sym e)
    (λ partitions of_plan.
    let parts = lawful partitions of_plan in
    let by_lines = told partitions of_plan in
    let rest = settled partitions of_plan rests in
    let login = logins partitions of_plan answered rests in
    record {
      order = order;
      queues = parts.queues;
      copies = parts.copies;
      records = by_lines.records over;
      called = by_lines.called ends are;
      credits = by_lines.credits are;
      logged = by_lines.logged over are;
      refusals = refusals partitions of_plan over said rests;
      answers = answers partitions of_plan answered;
      ports = parts.ports;
      told = by_lines.told over ends;
      settled = rest.settled;
      handed = rest.handed;
      intake = rest.intake;
      requests = rest.requests;
      given = rest.given;
      whole = login.whole;
      copied = rest.copied;
      explained = rest.explained;
      logins = login.logins;
      dealt = login.dealt;
    })
law_told (Err error) o pairs scripts lan history copies lines e over are said answered ends rests order lawful told refusals answers settled logins =
    subst (λ (o : Option Trace). IfSome o (Keeps KeepsLawOf pairs scripts lan.seats)) (sym e) tt

-- the rows that were served
pub served_told : {E : Type 0} (r : Result Trace E) (o : Option Trace) (rows : List Served) → o ≡ result_ok r → IfOk r (λ told. told.serves ≡ rows)
    → IfSome o (λ told. told.serves ≡ rows)
served_told (Ok told) o rows e is = subst (λ (o : Option Trace). IfSome o (λ told. told.serves ≡ rows)) (sym e) is
served_told (Err error) o rows e is = subst (λ (o : Option Trace). IfSome o (λ told. told.serves ≡ rows)) (sym e) tt

-- whatever is said of the trace
pub said_told : {E : Type 0} (r : Result Trace E) (o : Option Trace) (P : Trace → Type 0) → o ≡ result_ok r → IfOk r P → IfSome o P
said_told (Ok told) o P e is = subst (λ (o : Option Trace). IfSome o P) (sym e) is
said_told (Err error) o P e is = subst (λ (o : Option Trace). IfSome o P) (sym e) tt

pub each_told : {E : Type 0} (r : Result Trace E) (P Q : Trace → Type 0) → ((trace : Trace) → P trace → Q trace) → IfOk r P → IfOk r Q
each_told (Ok told) P Q step is = step told is
each_told (Err error) P Q step is = tt

-- the law of a run of a plan
pub law_of_plan : (o : Option Trace) (plan : Plan) → IfSome o (KeepsLawOf plan.partitions) → IfSome o (λ trace. All (GrantsMany plan.grant) trace.grants)
    → IfSome o (ClientsTell plan.grant plan.partitions) → IfSome o (KeepsLaw plan)
law_of_plan None plan law grants clients = tt
law_of_plan (Some trace) plan law grants clients = record {
  law = law;
  grants = grants;
  scripted = clients.scripted;
  own = clients.own;
}
