-- What each call of a client leaves of what the records tell of its answers.
use Rattle.std.proofs.Common.{◌≡◌, ◌∙◌, inl, inr, ℕ, false, [], ◌∷◌, ◌++◌, Option, Some, None, Result, Ok, Err, IfOk, IfErr, IfSome, OnErr, refl, sym, ap}
use Rattle.boot_text.specs.declared.verb.Verb.{Verb}
use Rattle.boot_text.specs.declared.verb.Verb.TheVariants as verbs
use Rattle.vio_num.specs.declared.memory.NoMemory.{NoMemory}
use Rattle.unit_region.specs.declared.step.Step.{Step}
use Rattle.vscsi_client.specs.declared.answers.Refused.{Refused}
use Rattle.vscsi_client.specs.declared.op.Dir.{Dir}
use Rattle.vscsi_client.specs.declared.op.Dir.TheVariants as dirs
use Rattle.vscsi_client.specs.declared.op.Op.{Op}
use Rattle.vscsi_client.specs.declared.row.Row.TheVariants as rows
use Rattle.vscsi_client.specs.Ports.{Ports}
use Rattle.vscsi_client.specs.Sending.{LoggedOut, Submitted, Tasked, WhyNotSubmitted, command_refusal, request_of, task_of}
use Rattle.vscsi_client.specs.State.{ClientState}
use Rattle.vcpu_run.specs.declared.driver.Driver.{Driver}
use Rattle.vcpu_run.specs.AnswersTaken.{reads_in}
use Rattle.vcpu_run.specs.Commands.{IsOpOf}
use Rattle.vcpu_run.specs.Credited.{is_take}
use Rattle.vcpu_run.specs.Sendings.{SaysSent}
use Rattle.vcpu_run.specs.Takings.{StepsTaken}
use Rattle.vcpu_run.specs.TagRows.{is_given, is_inward}
use Rattle.vcpu_run.proofs.AnswersCounted.{SameTags, is_data, plain_taken, sent_taken}

-- the row of a command is of one with data-in where its line reads
command_inward : (verb : Verb) (op : Op) → IsOpOf verb op → is_inward (rows.Command op.dir op.at op.len None) ≡ reads_in verb
command_inward verbs.Tur op is = ap (λ (d : Dir). is_inward (rows.Command d op.at op.len None)) is.dir_is
command_inward (verbs.Read lba blocks at pieces table) op is = ap (λ (d : Dir). is_inward (rows.Command d op.at op.len None)) is.dir_is
command_inward (verbs.Write lba blocks at pieces table) op is = ap (λ (d : Dir). is_inward (rows.Command d op.at op.len None)) is.dir_is
command_inward (verbs.Command cdb) op is = ap (λ (d : Dir). is_inward (rows.Command d op.at op.len None)) is.dir_is
command_inward (verbs.CommandIn cdb at len pieces table) op is = ap (λ (d : Dir). is_inward (rows.Command d op.at op.len None)) is.dir_is
command_inward (verbs.CommandOut cdb at len pieces table) op is = ap (λ (d : Dir). is_inward (rows.Command d op.at op.len None)) is.dir_is
command_inward verbs.Login op is = absurd is
command_inward verbs.Reset op is = absurd is
command_inward verbs.Logout op is = absurd is
command_inward (verbs.Task function tag) op is = absurd is
command_inward (verbs.Take count) op is = absurd is
command_inward (verbs.Data tag) op is = absurd is
command_inward verbs.Open op is = absurd is
command_inward verbs.Close op is = absurd is
command_inward (verbs.Post at len count) op is = absurd is
command_inward (verbs.Send mac len seed at) op is = absurd is
command_inward (verbs.ChangeMac mac) op is = absurd is
command_inward (verbs.Multicast control mac) op is = absurd is
command_inward (verbs.Fill at len seed) op is = absurd is
command_inward (verbs.Poke at bytes) op is = absurd is
command_inward (verbs.Peek at len) op is = absurd is
command_inward (verbs.Tce entry page readable writable) op is = absurd is
command_inward (verbs.Hcall number arguments) op is = absurd is
command_inward verbs.Fail op is = absurd is

-- it neither takes nor gives data
command_plain : (verb : Verb) (op : Op) → IsOpOf verb op → (is_take verb ≡ false) × (is_data verb ≡ false)
command_plain verbs.Tur op is = (refl, refl)
command_plain (verbs.Read lba blocks at pieces table) op is = (refl, refl)
command_plain (verbs.Write lba blocks at pieces table) op is = (refl, refl)
command_plain (verbs.Command cdb) op is = (refl, refl)
command_plain (verbs.CommandIn cdb at len pieces table) op is = (refl, refl)
command_plain (verbs.CommandOut cdb at len pieces table) op is = (refl, refl)
command_plain verbs.Login op is = absurd is
command_plain verbs.Reset op is = absurd is
command_plain verbs.Logout op is = absurd is
command_plain (verbs.Task function tag) op is = absurd is
command_plain (verbs.Take count) op is = absurd is
command_plain (verbs.Data tag) op is = absurd is
command_plain verbs.Open op is = absurd is
command_plain verbs.Close op is = absurd is
command_plain (verbs.Post at len count) op is = absurd is
command_plain (verbs.Send mac len seed at) op is = absurd is
command_plain (verbs.ChangeMac mac) op is = absurd is
command_plain (verbs.Multicast control mac) op is = absurd is
command_plain (verbs.Fill at len seed) op is = absurd is
command_plain (verbs.Poke at bytes) op is = absurd is
command_plain (verbs.Peek at len) op is = absurd is
command_plain (verbs.Tce entry page readable writable) op is = absurd is
command_plain (verbs.Hcall number arguments) op is = absurd is
command_plain verbs.Fail op is = absurd is

not_given : (dir : Dir) (at len : ℕ) → is_given (rows.Command dir at len None) ≡ false
not_given dirs.In at len = refl
not_given dirs.Out at len = refl
not_given dirs.Neither at len = refl

-- a client that is the same, or of which only what no tag tells changed
pub tags_still : (a b : Driver) (s : ClientState) → b.answers.items ≡ a.answers.items → b.client ≡ s → s.rows ≡ a.client.rows → s.outgoing ≡ a.client.outgoing → SameTags a b
tags_still a b s answers client rows outgoing = record {
  answers = answers;
  rows = ap (λ (t : ClientState). t.rows) client ∙ rows;
  outgoing = ap (λ (t : ClientState). t.outgoing) client ∙ outgoing;
}

not_submitted : (line : ℕ) (op : Op) (a b : Driver) (s' : ClientState) (old new : Ports) (why : Refused) → b.answers.items ≡ a.answers.items → b.client ≡ s'
    → WhyNotSubmitted line op a.client s' old new why → SameTags a b
not_submitted line op a b s' old new why answers client (inl h) =
    tags_still a b s' answers client (ap (λ (t : ClientState). t.rows) h.client) (ap (λ (t : ClientState). t.outgoing) h.client)
not_submitted line op a b s' old new why answers client (inr h) =
    tags_still a b s' answers client (ap (λ (t : ClientState). t.rows) h.client) (ap (λ (t : ClientState). t.outgoing) h.client)

pub submit_taken : (verb : Verb) (line : ℕ) (op : Op) (a b : Driver) (s' : ClientState) (old new : Ports) (answer : Result ℕ Refused) (result : Result Step NoMemory)
    → IsOpOf verb op → b.answers.items ≡ a.answers.items → b.client ≡ s' → SaysSent answer result
    → IfSome (command_refusal old.own.place.size a.client op) (λ why. (answer ≡ Err why) × (s' ≡ a.client) × (new.crq ≡ old.crq) × (new.own ≡ old.own))
    → IfOk answer (Submitted line op a.client s' old new)
    → (command_refusal old.own.place.size a.client op ≡ None → IfErr answer (WhyNotSubmitted line op a.client s' old new))
    → StepsTaken verb 0 0 a b result
submit_taken verb line op a b s' old new (Ok tag) result is answers client says refused sent not_sent =
    let plain = command_plain verb op is in
    sent_taken verb (rows.Command op.dir op.at op.len None) tag a b result plain.0 plain.1 (command_inward verb op is) (record {
      answers = answers;
      tag_is = sent.tag_is;
      rows = ap (λ (t : ClientState). t.rows) (client ∙ sent.client);
      outgoing = inr (
        request_of op tag sent.slot,
        refl,
        ap (λ (t : ClientState). t.outgoing) (client ∙ sent.client) ∙ ap (λ n. a.client.outgoing ++ request_of op n sent.slot ∷ []) (sym sent.tag_is),
      );
      none = not_given op.dir op.at op.len;
    }) says
submit_taken verb line op a b s' old new (Err why) result is answers client says refused sent not_sent =
    let plain = command_plain verb op is in
    plain_taken verb 0 a b result plain.0 plain.1 (at (Err why) (command_refusal old.own.place.size a.client op) refl refused) says
  where
    at : (r : Result ℕ Refused) (o : Option Refused) → command_refusal old.own.place.size a.client op ≡ o
        → IfSome o (λ w. (r ≡ Err w) × (s' ≡ a.client) × (new.crq ≡ old.crq) × (new.own ≡ old.own)) → SameTags a b
    at r None none h = not_submitted line op a b s' old new why answers client (not_sent none)
    at r (Some w) some h = tags_still a b s' answers client (ap (λ (t : ClientState). t.rows) h.1) (ap (λ (t : ClientState). t.outgoing) h.1)

pub task_taken : (line function task : ℕ) (a b : Driver) (s' : ClientState) (old new : Ports) (answer : Result ℕ Refused) (result : Result Step NoMemory)
    → b.answers.items ≡ a.answers.items → b.client ≡ s' → SaysSent answer result → IfOk answer (Tasked line function task a.client s' old new)
    → OnErr answer (s' ≡ a.client) → StepsTaken (verbs.Task function task) 0 0 a b result
task_taken line function task a b s' old new (Ok tag) result answers client says sent same =
    sent_taken (verbs.Task function task) rows.Task tag a b result refl refl refl (record {
      answers = answers;
      tag_is = sent.tag_is;
      rows = ap (λ (t : ClientState). t.rows) (client ∙ sent.client);
      outgoing = inr (
        task_of tag sent.slot,
        refl,
        ap (λ (t : ClientState). t.outgoing) (client ∙ sent.client) ∙ ap (λ n. a.client.outgoing ++ task_of n sent.slot ∷ []) (sym sent.tag_is),
      );
      none = refl;
    }) says
task_taken line function task a b s' old new (Err why) result answers client says sent same =
    plain_taken (verbs.Task function task) 0 a b result refl refl (tags_still a b s' answers client (ap (λ (t : ClientState). t.rows) same) (ap (λ (t : ClientState). t.outgoing) same)) says

pub logout_taken : (line : ℕ) (a b : Driver) (s' : ClientState) (old new : Ports) (answer : Result ℕ Refused) (result : Result Step NoMemory)
    → b.answers.items ≡ a.answers.items → b.client ≡ s' → SaysSent answer result → IfOk answer (LoggedOut line a.client s' old new)
    → OnErr answer (s' ≡ a.client) → StepsTaken verbs.Logout 0 0 a b result
logout_taken line a b s' old new (Ok tag) result answers client says sent same =
    sent_taken verbs.Logout rows.Logout tag a b result refl refl refl (record {
      answers = answers;
      tag_is = sent.tag_is;
      rows = ap (λ (t : ClientState). t.rows) (client ∙ sent.client);
      outgoing = inl (ap (λ (t : ClientState). t.outgoing) (client ∙ sent.client));
      none = refl;
    }) says
logout_taken line a b s' old new (Err why) result answers client says sent same =
    plain_taken verbs.Logout 0 a b result refl refl (tags_still a b s' answers client (ap (λ (t : ClientState). t.rows) same) (ap (λ (t : ClientState). t.outgoing) same)) says
