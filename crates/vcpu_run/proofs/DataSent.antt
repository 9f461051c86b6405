-- A command that was sent has its row, in which its data lie where its line says.
use Rattle.std.proofs.Common.{◌≡◌, ◌∙◌, ◌++◌, ◌∷◌, [], true, List, Option, None, Some, Result, Ok, Err, IfOk, IfSome, ℕ, sym, ap, subst}
use Rattle.vio_num.specs.declared.memory.NoMemory.{NoMemory}
use Rattle.boot_text.specs.declared.verb.Verb.{Verb}
use Rattle.boot_text.specs.declared.verb.Verb.TheVariants as verbs
use Rattle.vio_trace.specs.declared.outcome.Outcome.{Outcome}
use Rattle.vio_trace.specs.declared.outcome.Outcome.TheVariants as outcomes
use Rattle.unit_region.specs.Steps.{is_plain}
use Rattle.unit_region.specs.declared.step.Step.{Step}
use Rattle.unit_region.specs.declared.step.Step.TheVariants as steps
use Rattle.vscsi_client.specs.Ports.{Ports}
use Rattle.vscsi_client.specs.Sending.{Submitted}
use Rattle.vscsi_client.specs.State.{ClientState}
use Rattle.vscsi_client.specs.Transferred.{DataRange}
use Rattle.vscsi_client.specs.declared.answers.Refused.{Refused}
use Rattle.vscsi_client.specs.declared.op.Dir.{Dir}
use Rattle.vscsi_client.specs.declared.op.Dir.TheVariants as dirs
use Rattle.vscsi_client.specs.declared.op.Op.{Op}
use Rattle.vscsi_client.specs.declared.row.Row.{Row}
use Rattle.vscsi_client.specs.declared.row.Row.TheVariants as rows
use Rattle.vcpu_run.specs.Commands.{IsOpOf}
use Rattle.vcpu_run.specs.DataKept.{IsInwardAt, IsKeptAt, StepSends, range_in}
use Rattle.vcpu_run.specs.Sendings.{SaysSent}
use Rattle.vcpu_run.specs.TagRows.{row_at}
use Rattle.vcpu_run.proofs.TagsKept.{row_here}

-- a line that sent nothing
plain_kept : (rs : List Row) (range : Option DataRange) (outcome : Outcome) → is_plain outcome ≡ true → IsKeptAt rs range outcome
plain_kept rs range (outcomes.Granted credits) plain = tt
plain_kept rs range (outcomes.Rejected reason) plain = tt
plain_kept rs range outcomes.Lost plain = tt
plain_kept rs range outcomes.Unanswered plain = tt
plain_kept rs range (outcomes.Sent tag) plain = absurd (cc)
plain_kept rs range outcomes.Range plain = tt
plain_kept rs range outcomes.NotLoggedIn plain = tt
plain_kept rs range (outcomes.NoCredit limit) plain = tt
plain_kept rs range (outcomes.Overlap tag) plain = tt
plain_kept rs range outcomes.Closed plain = tt
plain_kept rs range (outcomes.Dropped number held) plain = tt
plain_kept rs range (outcomes.Took count) plain = tt
plain_kept rs range (outcomes.TookThenLost count) plain = tt
plain_kept rs range (outcomes.Data len total) plain = tt
plain_kept rs range (outcomes.Stale page) plain = tt
plain_kept rs range outcomes.Unknown plain = tt
plain_kept rs range (outcomes.Code code) plain = tt
plain_kept rs range (outcomes.Value value) plain = tt
plain_kept rs range (outcomes.Posted buffers code) plain = tt
plain_kept rs range (outcomes.Frame code number) plain = tt
plain_kept rs range outcomes.Done plain = tt
plain_kept rs range (outcomes.Bytes shown) plain = tt

-- A command's data-in lie in this range.
record ReadsTo (op : Op) (range : DataRange) : Type 0 where
  dir_is : op.dir ≡ dirs.In
  at_is : op.at ≡ range.at
  len_is : op.len ≡ range.len

op_range : (verb : Verb) (op : Op) → IsOpOf verb op → IfSome (range_in verb) (ReadsTo op)
op_range verbs.Login op is = tt
op_range verbs.Reset op is = tt
op_range verbs.Logout op is = tt
op_range verbs.Tur op is = tt
op_range (verbs.Read lba blocks at pieces table) op is = record { dir_is = is.dir_is; at_is = is.at_is; len_is = is.len_is }
op_range (verbs.Write lba blocks at pieces table) op is = tt
op_range (verbs.Command cdb) op is = tt
op_range (verbs.CommandIn cdb at len pieces table) op is = record { dir_is = is.dir_is; at_is = is.at_is; len_is = is.len_is }
op_range (verbs.CommandOut cdb at len pieces table) op is = tt
op_range (verbs.Task function of) op is = tt
op_range (verbs.Take count) op is = tt
op_range (verbs.Data of) op is = tt
op_range verbs.Open op is = tt
op_range verbs.Close op is = tt
op_range (verbs.Post at len count) op is = tt
op_range (verbs.Send to len seed at) op is = tt
op_range (verbs.ChangeMac own) op is = tt
op_range (verbs.Multicast control group) op is = tt
op_range (verbs.Fill at len seed) op is = tt
op_range (verbs.Poke at bytes) op is = tt
op_range (verbs.Peek at len) op is = tt
op_range (verbs.Tce entry page readable writable) op is = tt
op_range (verbs.Hcall number arguments) op is = tt
op_range verbs.Fail op is = tt

pub command_sends : (verb : Verb) (line : ℕ) (op : Op) (s s' : ClientState) (old new : Ports) (answer : Result ℕ Refused) (result : Result Step NoMemory) → IsOpOf verb op
    → SaysSent answer result → IfOk answer (Submitted line op s s' old new) → IfOk result (StepSends s'.rows verb)
command_sends verb line op s s' old new (Ok tag) result is says sent =
    subst (λ (r : Result Step NoMemory). IfOk r (StepSends s'.rows verb)) (sym says) (at (range_in verb) (op_range verb op is))
  where
    row : row_at s'.rows tag ≡ rows.Command op.dir op.at op.len None
    row =
        ap (λ (rs : List Row). row_at rs tag) (ap (λ (t : ClientState). t.rows) sent.client)
        ∙ (ap (row_at (s.rows ++ rows.Command op.dir op.at op.len None ∷ [])) sent.tag_is ∙ row_here s.rows (rows.Command op.dir op.at op.len None))

    there : (r : DataRange) → ReadsTo op r → IsInwardAt s'.rows tag r.at r.len
    there r reads = (
      None,
      row ∙ (ap (λ (d : Dir). rows.Command d op.at op.len None) reads.dir_is
          ∙ (ap (λ (n : ℕ). rows.Command dirs.In n op.len None) reads.at_is ∙ ap (λ (n : ℕ). rows.Command dirs.In r.at n None) reads.len_is)),
    )

    at : (o : Option DataRange) → IfSome o (ReadsTo op) → IfSome o (λ r. IsInwardAt s'.rows tag r.at r.len)
    at None reads = tt
    at (Some r) reads = there r reads
command_sends verb line op s s' old new (Err why) (Ok (steps.Ends outcome)) is says sent = plain_kept s'.rows (range_in verb) outcome says
command_sends verb line op s s' old new (Err why) (Ok (steps.Waits did)) is says sent = tt
command_sends verb line op s s' old new (Err why) (Err memory) is says sent = tt
