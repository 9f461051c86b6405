-- Which lines give data, and what the others say of them: nothing.
use Rattle.std.proofs.Common.{◌≡◌, Bool, true, false, List, Option, None, Some, Result, Ok, Err, IfOk, IfSome, ℕ, refl, sym, subst}
use Rattle.std.specs.Borrow.{GName}
use Rattle.vio_num.specs.declared.memory.NoMemory.{NoMemory}
use Rattle.boot_text.specs.declared.verb.Verb.{Verb}
use Rattle.boot_text.specs.declared.verb.Verb.TheVariants as verbs
use Rattle.crq_session.specs.PlainState.{end_of}
use Rattle.tce_window.specs.PlainPort.{known_of}
use Rattle.vio_trace.specs.declared.outcome.Outcome.{Outcome}
use Rattle.vio_trace.specs.declared.outcome.Outcome.TheVariants as outcomes
use Rattle.vscsi_client.specs.State.{ClientState}
use Rattle.vscsi_client.specs.Transferred.{DataRange}
use Rattle.vscsi_client.specs.declared.row.Row.{Row}
use Rattle.unit_region.specs.declared.step.Step.{Step}
use Rattle.unit_region.specs.declared.step.Step.TheVariants as steps
use Rattle.vcpu_run.specs.DataRead.{IsKeptTold, StepReads, given_by}
use Rattle.vcpu_run.specs.declared.driver.Driver.{Driver}
use Rattle.vcpu_run.specs.declared.pair.Pair.{Pair}
use Rattle.vcpu_run.specs.Agreed.{OnDrivers}
use Rattle.vcpu_run.specs.DataKept.{IsKeptAt, StepSends, range_in}
use Rattle.vcpu_run.specs.LinesShow.{Seen, Sees, seen_by, seen_now}
use Rattle.vcpu_run.specs.TakenScripts.{PairReads, StepKeeps}
use Rattle.vcpu_run.proofs.DataOf.{kept_told_more}
use Rattle.vcpu_run.proofs.LinesShown.{end_sees}
use Rattle.vcpu_run.specs.Suited.{is_call}
use Rattle.vcpu_run.specs.Works.{fails, sends}

pub none_read : (seen : Seen) (client : ClientState) (verb : Verb) (result : Result Step NoMemory) → given_by verb ≡ None → IfOk result (StepReads seen client verb)
none_read seen client verb (Ok (steps.Ends outcome)) none = subst (λ (o : Option ℕ). IsKeptTold seen client o outcome) (sym none) tt
none_read seen client verb (Ok (steps.Waits did)) none = tt
none_read seen client verb (Err memory) none = tt

pub verb_reads : (seen : Seen) (client : ClientState) (verb line : Verb) (result : Result Step NoMemory) → line ≡ verb → IfOk result (StepReads seen client verb)
    → IfOk result (StepReads seen client line)
verb_reads seen client verb line result is reads = subst (λ (v : Verb). IfOk result (StepReads seen client v)) (sym is) reads

pub sends_no_data : (verb : Verb) → sends verb ≡ true → given_by verb ≡ None
sends_no_data verbs.Login is = refl
sends_no_data verbs.Reset is = refl
sends_no_data verbs.Logout is = refl
sends_no_data verbs.Tur is = refl
sends_no_data (verbs.Read lba blocks at pieces table) is = refl
sends_no_data (verbs.Write lba blocks at pieces table) is = refl
sends_no_data (verbs.Command cdb) is = refl
sends_no_data (verbs.CommandIn cdb at len pieces table) is = refl
sends_no_data (verbs.CommandOut cdb at len pieces table) is = refl
sends_no_data (verbs.Task function of) is = refl
sends_no_data (verbs.Take count) is = refl
sends_no_data (verbs.Data of) is = absurd (cc)
sends_no_data verbs.Open is = refl
sends_no_data verbs.Close is = refl
sends_no_data (verbs.Post at len count) is = refl
sends_no_data (verbs.Send to len seed at) is = refl
sends_no_data (verbs.ChangeMac own) is = refl
sends_no_data (verbs.Multicast control group) is = refl
sends_no_data (verbs.Fill at len seed) is = refl
sends_no_data (verbs.Poke at bytes) is = refl
sends_no_data (verbs.Peek at len) is = refl
sends_no_data (verbs.Tce entry page readable writable) is = refl
sends_no_data (verbs.Hcall number arguments) is = refl
sends_no_data verbs.Fail is = refl

pub fails_no_data : (verb : Verb) → fails verb ≡ true → given_by verb ≡ None
fails_no_data verbs.Login is = refl
fails_no_data verbs.Reset is = refl
fails_no_data verbs.Logout is = refl
fails_no_data verbs.Tur is = refl
fails_no_data (verbs.Read lba blocks at pieces table) is = refl
fails_no_data (verbs.Write lba blocks at pieces table) is = refl
fails_no_data (verbs.Command cdb) is = refl
fails_no_data (verbs.CommandIn cdb at len pieces table) is = refl
fails_no_data (verbs.CommandOut cdb at len pieces table) is = refl
fails_no_data (verbs.Task function of) is = refl
fails_no_data (verbs.Take count) is = refl
fails_no_data (verbs.Data of) is = absurd (cc)
fails_no_data verbs.Open is = refl
fails_no_data verbs.Close is = refl
fails_no_data (verbs.Post at len count) is = refl
fails_no_data (verbs.Send to len seed at) is = refl
fails_no_data (verbs.ChangeMac own) is = refl
fails_no_data (verbs.Multicast control group) is = refl
fails_no_data (verbs.Fill at len seed) is = refl
fails_no_data (verbs.Poke at bytes) is = refl
fails_no_data (verbs.Peek at len) is = refl
fails_no_data (verbs.Tce entry page readable writable) is = refl
fails_no_data (verbs.Hcall number arguments) is = refl
fails_no_data verbs.Fail is = refl

-- a line whose command has no data-in
none_kept : (rs : List Row) (outcome : Outcome) → IsKeptAt rs None outcome
none_kept rs (outcomes.Granted credits) = tt
none_kept rs (outcomes.Rejected reason) = tt
none_kept rs outcomes.Lost = tt
none_kept rs outcomes.Unanswered = tt
none_kept rs (outcomes.Sent tag) = tt
none_kept rs outcomes.Range = tt
none_kept rs outcomes.NotLoggedIn = tt
none_kept rs (outcomes.NoCredit limit) = tt
none_kept rs (outcomes.Overlap tag) = tt
none_kept rs outcomes.Closed = tt
none_kept rs (outcomes.Dropped number held) = tt
none_kept rs (outcomes.Took count) = tt
none_kept rs (outcomes.TookThenLost count) = tt
none_kept rs (outcomes.Data len total) = tt
none_kept rs (outcomes.Stale page) = tt
none_kept rs outcomes.Unknown = tt
none_kept rs (outcomes.Code code) = tt
none_kept rs (outcomes.Value value) = tt
none_kept rs (outcomes.Posted buffers code) = tt
none_kept rs (outcomes.Frame code number) = tt
none_kept rs outcomes.Done = tt
none_kept rs (outcomes.Bytes shown) = tt

pub none_sends : (rs : List Row) (verb : Verb) (result : Result Step NoMemory) → range_in verb ≡ None → IfOk result (StepSends rs verb)
none_sends rs verb (Ok (steps.Ends outcome)) none = subst (λ (o : Option DataRange). IsKeptAt rs o outcome) (sym none) (none_kept rs outcome)
none_sends rs verb (Ok (steps.Waits did)) none = tt
none_sends rs verb (Err memory) none = tt

-- no more has one that fails its partition, or is a raw call
pub fails_no_range : (verb : Verb) → fails verb ≡ true → range_in verb ≡ None
fails_no_range verbs.Login is = refl
fails_no_range verbs.Reset is = refl
fails_no_range verbs.Logout is = refl
fails_no_range verbs.Tur is = refl
fails_no_range (verbs.Read lba blocks at pieces table) is = absurd (cc (is))
fails_no_range (verbs.Write lba blocks at pieces table) is = refl
fails_no_range (verbs.Command cdb) is = refl
fails_no_range (verbs.CommandIn cdb at len pieces table) is = absurd (cc (is))
fails_no_range (verbs.CommandOut cdb at len pieces table) is = refl
fails_no_range (verbs.Task function of) is = refl
fails_no_range (verbs.Take count) is = refl
fails_no_range (verbs.Data of) is = refl
fails_no_range verbs.Open is = refl
fails_no_range verbs.Close is = refl
fails_no_range (verbs.Post at len count) is = refl
fails_no_range (verbs.Send to len seed at) is = refl
fails_no_range (verbs.ChangeMac own) is = refl
fails_no_range (verbs.Multicast control group) is = refl
fails_no_range (verbs.Fill at len seed) is = refl
fails_no_range (verbs.Poke at bytes) is = refl
fails_no_range (verbs.Peek at len) is = refl
fails_no_range (verbs.Tce entry page readable writable) is = refl
fails_no_range (verbs.Hcall number arguments) is = refl
fails_no_range verbs.Fail is = refl

pub call_no_range : (verb : Verb) → is_call verb ≡ true → range_in verb ≡ None
call_no_range verbs.Login is = refl
call_no_range verbs.Reset is = refl
call_no_range verbs.Logout is = refl
call_no_range verbs.Tur is = refl
call_no_range (verbs.Read lba blocks at pieces table) is = absurd (cc (is))
call_no_range (verbs.Write lba blocks at pieces table) is = refl
call_no_range (verbs.Command cdb) is = refl
call_no_range (verbs.CommandIn cdb at len pieces table) is = absurd (cc (is))
call_no_range (verbs.CommandOut cdb at len pieces table) is = refl
call_no_range (verbs.Task function of) is = refl
call_no_range (verbs.Take count) is = refl
call_no_range (verbs.Data of) is = refl
call_no_range verbs.Open is = refl
call_no_range verbs.Close is = refl
call_no_range (verbs.Post at len count) is = refl
call_no_range (verbs.Send to len seed at) is = refl
call_no_range (verbs.ChangeMac own) is = refl
call_no_range (verbs.Multicast control group) is = refl
call_no_range (verbs.Fill at len seed) is = refl
call_no_range (verbs.Poke at bytes) is = refl
call_no_range (verbs.Peek at len) is = refl
call_no_range (verbs.Tce entry page readable writable) is = refl
call_no_range (verbs.Hcall number arguments) is = refl
call_no_range verbs.Fail is = refl

pub none_keeps : (o : Option Driver) (range : Option DataRange) (outcome : Outcome) → range ≡ None → IfSome o (λ driver. IsKeptAt driver.client.rows range outcome)
none_keeps None range outcome none = tt
none_keeps (Some driver) range outcome none = subst (λ (r : Option DataRange). IsKeptAt driver.client.rows r outcome) (sym none) (none_kept driver.client.rows outcome)

-- what a step that succeeds says of data, and keeps of its command
pub both_keep : (seen : Seen) (old new : ClientState) (verb : Verb) (result : Result Step NoMemory) → IfOk result (StepReads seen old verb) → IfOk result (StepSends new.rows verb)
    → IfOk result (StepKeeps seen old new verb)
both_keep seen old new verb (Ok step) reads sends = record { reads = reads; sends = sends }
both_keep seen old new verb (Err memory) reads sends = tt

-- a line that gives no data and has none, at its pair
pub pair_reads_none : (pair : Pair) (verb : Verb) (result : Result Step NoMemory) → given_by verb ≡ None → range_in verb ≡ None → PairReads verb pair pair result
pair_reads_none pair verb result no_data no_range = at pair.driver
  where
    at : (o : Option Driver) → OnDrivers o o (λ a b. IfOk result (StepKeeps (seen_now pair) a.client b.client verb))
    at None = tt
    at (Some driver) = both_keep (seen_now pair) driver.client driver.client verb result (none_read (seen_now pair) driver.client verb result no_data) (none_sends driver.client.rows verb result no_range)

-- what a driver sees is there at its pair
reads_more : (a b : Seen) → Sees a b → (client : ClientState) (verb : Verb) (result : Result Step NoMemory) → IfOk result (StepReads a client verb) → IfOk result (StepReads b client verb)
reads_more a b more client verb (Ok (steps.Ends outcome)) is = kept_told_more a b more client (given_by verb) outcome is
reads_more a b more client verb (Ok (steps.Waits did)) is = tt
reads_more a b more client verb (Err memory) is = tt

pub pair_reads : (r : Result Step NoMemory) (old new : Pair) (a b : Driver) (first : Bool) (lenders : List GName) (verb : Verb) → old.driver ≡ Some a → new.driver ≡ Some b → first ≡ false
    → IfOk r (StepReads (seen_by false (known_of new.window) (end_of lenders new.link first)) a.client verb) → IfOk r (StepSends b.client.rows verb) → PairReads verb old new r
pair_reads r old new a b first lenders verb before after is reads sends =
    subst (λ (o : Option Driver). OnDrivers o new.driver (λ a b. IfOk r (StepKeeps (seen_now new) a.client b.client verb))) (sym before)
    (subst (λ (o : Option Driver). OnDrivers (Some a) o (λ a b. IfOk r (StepKeeps (seen_now new) a.client b.client verb))) (sym after)
    (both_keep (seen_now new) a.client b.client verb r
    (reads_more (seen_by false (known_of new.window) (end_of lenders new.link first)) (seen_now new) (end_sees new lenders first is) a.client verb r reads) sends))
