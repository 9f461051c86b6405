-- What else there is of a line stays as the run goes on, and what is so of a line of which there is no more.
use Rattle.std.proofs.Common.{◌≡◌, ℕ, true, Option, Some, None, refl, subst, sym}
use Rattle.vio_num.specs.declared.hypervisor.Hrc.TheVariants as codes
use Rattle.srp_iu.specs.declared.unit.Iu.{Iu}
use Rattle.srp_iu.specs.declared.unit.Iu.TheVariants as units
use Rattle.boot_text.specs.declared.verb.Verb.{Verb}
use Rattle.boot_text.specs.declared.verb.Verb.TheVariants as verbs
use Rattle.vio_trace.specs.declared.outcome.Outcome.{Outcome}
use Rattle.vio_trace.specs.declared.outcome.Outcome.TheVariants as outcomes
use Rattle.vcpu_run.specs.LinesShow.{Further, IsAnswerRead, IsFurtherShown, IsUnitRead, IsValuePut, LogsIn, PutsValue, Seen, Sees, further_of, region_of, requests}

-- the answer to a login that was read
unit_read_more : (a b : Seen) → Sees a b → (iu : Iu) → IsUnitRead (region_of a) iu → IsUnitRead (region_of b) iu
unit_read_more a b more iu is = record {
  slot = is.slot;
  within = is.within;
  bytes = is.bytes;
  spells = is.spells;
  read = record { fronts = is.read.fronts; there = λ page here. more.fronts page (is.read.fronts page) (is.read.there page here); read = is.read.read };
}

pub answer_more : (a b : Seen) → Sees a b → (outcome : Outcome) → IsAnswerRead (region_of a) outcome → IsAnswerRead (region_of b) outcome
answer_more a b more (outcomes.Granted credits) is = (is.0, is.1, unit_read_more a b more (units.LoginRsp is.0) is.2)
answer_more a b more (outcomes.Sent tag) is = tt
answer_more a b more (outcomes.Took count) is = tt
answer_more a b more outcomes.Lost is = tt
answer_more a b more (outcomes.TookThenLost count) is = tt
answer_more a b more (outcomes.Rejected reason) is = (is.0, is.1, unit_read_more a b more (units.LoginRej is.0) is.2)
answer_more a b more outcomes.Unanswered is = tt
answer_more a b more outcomes.Range is = tt
answer_more a b more outcomes.NotLoggedIn is = tt
answer_more a b more (outcomes.NoCredit limit) is = tt
answer_more a b more (outcomes.Overlap tag) is = tt
answer_more a b more outcomes.Closed is = tt
answer_more a b more (outcomes.Dropped number held) is = tt
answer_more a b more (outcomes.Data size sum) is = tt
answer_more a b more (outcomes.Stale page) is = tt
answer_more a b more outcomes.Unknown is = tt
answer_more a b more (outcomes.Code code) is = tt
answer_more a b more (outcomes.Value value) is = tt
answer_more a b more (outcomes.Posted buffers code) is = tt
answer_more a b more (outcomes.Frame code number) is = tt
answer_more a b more outcomes.Done is = tt
answer_more a b more (outcomes.Bytes shown) is = tt

value_more : (a b : Seen) → Sees a b → (entry value : ℕ) (outcome : Outcome) → IsValuePut a entry value outcome → IsValuePut b entry value outcome
value_more a b more entry value (outcomes.Granted credits) is = tt
value_more a b more entry value (outcomes.Sent tag) is = tt
value_more a b more entry value (outcomes.Took count) is = tt
value_more a b more entry value outcomes.Lost is = tt
value_more a b more entry value (outcomes.TookThenLost count) is = tt
value_more a b more entry value (outcomes.Rejected reason) is = tt
value_more a b more entry value outcomes.Unanswered is = tt
value_more a b more entry value outcomes.Range is = tt
value_more a b more entry value outcomes.NotLoggedIn is = tt
value_more a b more entry value (outcomes.NoCredit limit) is = tt
value_more a b more entry value (outcomes.Overlap tag) is = tt
value_more a b more entry value outcomes.Closed is = tt
value_more a b more entry value (outcomes.Dropped number held) is = tt
value_more a b more entry value (outcomes.Data size sum) is = tt
value_more a b more entry value (outcomes.Stale page) is = tt
value_more a b more entry value outcomes.Unknown is = tt
value_more a b more entry value (outcomes.Code codes.Success) is = more.values entry value is
value_more a b more entry value (outcomes.Code codes.Busy) is = tt
value_more a b more entry value (outcomes.Code codes.Closed) is = tt
value_more a b more entry value (outcomes.Code codes.Function) is = tt
value_more a b more entry value (outcomes.Code codes.Parameter) is = tt
value_more a b more entry value (outcomes.Code codes.NotFound) is = tt
value_more a b more entry value (outcomes.Code codes.Dropped) is = tt
value_more a b more entry value (outcomes.Code codes.SourceParm) is = tt
value_more a b more entry value (outcomes.Code codes.DestParm) is = tt
value_more a b more entry value (outcomes.Code codes.Resource) is = tt
value_more a b more entry value (outcomes.Value got) is = tt
value_more a b more entry value (outcomes.Posted buffers code) is = tt
value_more a b more entry value (outcomes.Frame code number) is = tt
value_more a b more entry value outcomes.Done is = tt
value_more a b more entry value (outcomes.Bytes shown) is = tt

pub further_more : (a b : Seen) → Sees a b → (further : Option Further) (outcome : Outcome) → IsFurtherShown a further outcome → IsFurtherShown b further outcome
further_more a b more None outcome is = tt
further_more a b more (Some LogsIn) outcome is = answer_more a b more outcome is
further_more a b more (Some (PutsValue entry value)) outcome is = value_more a b more entry value outcome is

-- a line of which there is no more, and a login that found no answer
pub no_further : (seen : Seen) (further : Option Further) (outcome : Outcome) → further ≡ None → IsFurtherShown seen further outcome
no_further seen further outcome is = subst (λ (o : Option Further). IsFurtherShown seen o outcome) (sym is) tt

pub unanswered : (seen : Seen) (further : Option Further) (outcome : Outcome) → outcome ≡ outcomes.Unanswered → IsFurtherShown seen further outcome
unanswered seen further outcome is = subst (IsFurtherShown seen further) (sym is) (by further)
  where
    by : (o : Option Further) → IsFurtherShown seen o outcomes.Unanswered
    by None = tt
    by (Some LogsIn) = tt
    by (Some (PutsValue entry value)) = tt

-- a line that sends a request has none
pub asks_apart : (verb : Verb) → requests verb ≡ true → further_of verb ≡ None
asks_apart verbs.Login is = absurd (cc)
asks_apart verbs.Reset is = absurd (cc)
asks_apart verbs.Logout is = refl
asks_apart verbs.Tur is = refl
asks_apart (verbs.Read lba blocks at pieces table) is = refl
asks_apart (verbs.Write lba blocks at pieces table) is = refl
asks_apart (verbs.Command cdb) is = refl
asks_apart (verbs.CommandIn cdb at len pieces table) is = refl
asks_apart (verbs.CommandOut cdb at len pieces table) is = refl
asks_apart (verbs.Task function of) is = refl
asks_apart (verbs.Take count) is = refl
asks_apart (verbs.Data of) is = refl
asks_apart verbs.Open is = refl
asks_apart verbs.Close is = refl
asks_apart (verbs.Post at len count) is = refl
asks_apart (verbs.Send to len seed at) is = refl
asks_apart (verbs.ChangeMac own) is = refl
asks_apart (verbs.Multicast control group) is = refl
asks_apart (verbs.Fill at len seed) is = refl
asks_apart (verbs.Poke at bytes) is = refl
asks_apart (verbs.Peek at len) is = refl
asks_apart (verbs.Tce entry page readable writable) is = absurd (cc)
asks_apart (verbs.Hcall number arguments) is = refl
asks_apart verbs.Fail is = refl
