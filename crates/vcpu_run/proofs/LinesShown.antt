-- What there is once a line said that it sent a request, or wrote into its region, and that it is there as long as the run goes on.
use Rattle.std.proofs.Common.{◌≡◌, ◌≢◌, ◌∙◌, ◌⊎◌, inl, inr, ℕ, zero, suc, ◌+◌, ◌==◌, ◌<◌, ◌≤◌, All, filter, get_or, map, nat_lt, cond, Bool, true, false, List, [], ◌∷◌, ◌++◌, Option, Some, None, Result, Ok, Err, Contains, IfOk, IfSome, IsSome, MatchBool, length, refl, sym, ap, subst, arith, slice_get, append_assoc}
use Rattle.std.specs.Borrow.{GName}
use Rattle.std.specs.List.{flat_map}
use Rattle.std.proofs.lemmas.Bool.{eq-eqb}
use Rattle.std.proofs.lemmas.List.Elements.{Contains-append_left, Contains-append_right}
use Rattle.vio_num.specs.Entry.{srp_entry}
use Rattle.vio_num.specs.Words.{Begins}
use Rattle.vio_num.specs.declared.memory.NoMemory.{NoMemory}
use Rattle.vio_num.specs.declared.names.UnitId.{UnitId}
use Rattle.vio_num.specs.declared.entry.Entry.{Entry}
use Rattle.page_slots.specs.Stroke.{StrokeValue}
use Rattle.crq_ring.specs.declared.rows.PipeRow.{PipeRow}
use Rattle.crq_ring.specs.Pipe.{PipeValue}
use Rattle.crq_ring.specs.Sessions.{AreRising}
use Rattle.crq_session.specs.EndState.{EndPlace, EndState, OnlyReserves}
use Rattle.crq_session.specs.PlainState.{end_of, side_of}
use Rattle.crq_session.specs.declared.link.PlainLink.{PlainLink}
use Rattle.rdma_copy.specs.Copies.{side_of as side_at}
use Rattle.rdma_copy.specs.Copy.{SideGrows}
use Rattle.tce_window.specs.PlainPort.{known_of}
use Rattle.tce_window.specs.Port.{Grows}
use Rattle.tce_window.specs.PortState.{PortPlace, PortState, Reads, Writes}
use Rattle.tce_window.specs.Region.{stroke_on}
use Rattle.tce_window.specs.Window.{strokes_at}
use Rattle.srp_iu.specs.declared.unit.Iu.{Iu}
use Rattle.srp_iu.specs.declared.unit.Iu.TheVariants as units
use Rattle.boot_text.specs.declared.plan.Line.{Line}
use Rattle.boot_text.specs.declared.verb.Verb.{Verb}
use Rattle.boot_text.specs.declared.verb.Verb.TheVariants as verbs
use Rattle.vio_trace.specs.declared.outcome.Outcome.{Outcome}
use Rattle.vio_trace.specs.declared.outcome.Outcome.TheVariants as outcomes
use Rattle.vio_trace.specs.declared.rows.LogRow.{LogRow}
use Rattle.vscsi_client.specs.Ports.{Ports, UnitPut}
use Rattle.vscsi_client.specs.Sending.{IsReady, LoggedOut, Put, Submitted, Tasked, logout_unit, task_unit}
use Rattle.vscsi_client.specs.State.{ClientState, IsNextSlot}
use Rattle.vscsi_client.specs.Units.{IsCommand, slot_address, task_request}
use Rattle.vscsi_client.specs.declared.TheConstants.{SLOTS}
use Rattle.vscsi_client.specs.declared.answers.Refused.{Refused}
use Rattle.vscsi_client.specs.declared.op.Op.{Op}
use Rattle.unit_region.specs.Answers.{AnswersRead, AnswersWrite}
use Rattle.unit_region.specs.Kept.{LaysOwnOn}
use Rattle.unit_region.proofs.Laws.{front_of, if_bytes, if_done, read_there as was_read, write_there as wrote_there}
use Rattle.unit_region.specs.Steps.{IsPlain, is_plain}
use Rattle.unit_region.specs.declared.step.Step.{Step}
use Rattle.unit_region.specs.declared.step.Step.TheVariants as steps
use Rattle.vcpu_run.specs.declared.pair.Pair.{Pair}
use Rattle.vcpu_run.specs.Commands.{IsOpOf, cdb_of}
use Rattle.vcpu_run.specs.AnswersSeen.{IsFront}
use Rattle.vcpu_run.specs.LinesShow.{AreRead, AreWritten, IsCommandOf, IsOn, IsPut, IsSent, IsFurtherShown, IsSentIf, IsReadIf, IsShown, IsUnitOf, IsWrittenIf, LinesShow, PairShows, Placed, RegionShows, region_of, Seen, Sees, StepShows, further_of, read_by, requests, seen_at, seen_by, seen_now, written_by, PutsOne, seen_between, seen_since}
use Rattle.vcpu_run.specs.Pairs.{Drives}
use Rattle.vcpu_run.specs.Sendings.{SaysSent}
use Rattle.vcpu_run.specs.Sessions.{entries_of, session_rows, sessions_from}
use Rattle.vcpu_run.specs.Works.{fails}
use Rattle.vcpu_run.proofs.Driving.{same_or, some_is}
use Rattle.vcpu_run.proofs.FurtherKept.{asks_apart, further_more, no_further}

-- all that there was is there still
written_more : (a b : Seen) → Sees a b → (unit : UnitId) (mark at : ℕ) (bytes : List ℕ) → AreWritten a unit mark at bytes → AreWritten b unit mark at bytes
written_more a b more unit mark at bytes is page here = more.strokes page (stroke_on (record { who = unit; mark = mark }) at bytes page) (is page here)

pub sent_more : (a b : Seen) → Sees a b → (unit : UnitId) (mark : ℕ) (verb : Verb) (tag : ℕ) → IsSent a unit mark verb tag → IsSent b unit mark verb tag
sent_more a b more unit mark verb tag is = record {
  slot = is.slot;
  within = is.within;
  iu = is.iu;
  of_line = is.of_line;
  bytes = is.bytes;
  canonical = is.canonical;
  written = written_more a b more unit mark (slot_address is.slot) is.bytes is.written;
  entry = more.entries _ is.entry;
}

sent_if_more : (a b : Seen) → Sees a b → (unit : UnitId) (mark : ℕ) (verb : Verb) (outcome : Outcome) → IsSentIf a unit mark verb outcome → IsSentIf b unit mark verb outcome
sent_if_more a b more unit mark verb (outcomes.Granted credits) is = tt
sent_if_more a b more unit mark verb (outcomes.Sent tag) is = sent_more a b more unit mark verb tag is
sent_if_more a b more unit mark verb (outcomes.Took count) is = tt
sent_if_more a b more unit mark verb outcomes.Lost is = tt
sent_if_more a b more unit mark verb (outcomes.TookThenLost count) is = tt
sent_if_more a b more unit mark verb (outcomes.Rejected reason) is = tt
sent_if_more a b more unit mark verb outcomes.Unanswered is = tt
sent_if_more a b more unit mark verb outcomes.Range is = tt
sent_if_more a b more unit mark verb outcomes.NotLoggedIn is = tt
sent_if_more a b more unit mark verb (outcomes.NoCredit limit) is = tt
sent_if_more a b more unit mark verb (outcomes.Overlap tag) is = tt
sent_if_more a b more unit mark verb outcomes.Closed is = tt
sent_if_more a b more unit mark verb (outcomes.Dropped number held) is = tt
sent_if_more a b more unit mark verb (outcomes.Data size sum) is = tt
sent_if_more a b more unit mark verb (outcomes.Stale page) is = tt
sent_if_more a b more unit mark verb outcomes.Unknown is = tt
sent_if_more a b more unit mark verb (outcomes.Code code) is = tt
sent_if_more a b more unit mark verb (outcomes.Value value) is = tt
sent_if_more a b more unit mark verb (outcomes.Posted buffers code) is = tt
sent_if_more a b more unit mark verb (outcomes.Frame code number) is = tt
sent_if_more a b more unit mark verb outcomes.Done is = tt
sent_if_more a b more unit mark verb (outcomes.Bytes shown) is = tt

written_if_more : (P Q : Type 0) → (P → Q) → (outcome : Outcome) → IsWrittenIf outcome P → IsWrittenIf outcome Q
written_if_more P Q more (outcomes.Granted credits) is = tt
written_if_more P Q more (outcomes.Sent tag) is = tt
written_if_more P Q more (outcomes.Took count) is = tt
written_if_more P Q more outcomes.Lost is = tt
written_if_more P Q more (outcomes.TookThenLost count) is = tt
written_if_more P Q more (outcomes.Rejected reason) is = tt
written_if_more P Q more outcomes.Unanswered is = tt
written_if_more P Q more outcomes.Range is = tt
written_if_more P Q more outcomes.NotLoggedIn is = tt
written_if_more P Q more (outcomes.NoCredit limit) is = tt
written_if_more P Q more (outcomes.Overlap tag) is = tt
written_if_more P Q more outcomes.Closed is = tt
written_if_more P Q more (outcomes.Dropped number held) is = tt
written_if_more P Q more (outcomes.Data size sum) is = tt
written_if_more P Q more (outcomes.Stale page) is = tt
written_if_more P Q more outcomes.Unknown is = tt
written_if_more P Q more (outcomes.Code code) is = tt
written_if_more P Q more (outcomes.Value value) is = tt
written_if_more P Q more (outcomes.Posted buffers code) is = tt
written_if_more P Q more (outcomes.Frame code number) is = tt
written_if_more P Q more outcomes.Done is = more is
written_if_more P Q more (outcomes.Bytes shown) is = tt

read_if_more : (a b : Seen) → Sees a b → (at : ℕ) (outcome : Outcome) → IsReadIf a at outcome → IsReadIf b at outcome
read_if_more a b more at (outcomes.Granted credits) is = tt
read_if_more a b more at (outcomes.Sent tag) is = tt
read_if_more a b more at (outcomes.Took count) is = tt
read_if_more a b more at outcomes.Lost is = tt
read_if_more a b more at (outcomes.TookThenLost count) is = tt
read_if_more a b more at (outcomes.Rejected reason) is = tt
read_if_more a b more at outcomes.Unanswered is = tt
read_if_more a b more at outcomes.Range is = tt
read_if_more a b more at outcomes.NotLoggedIn is = tt
read_if_more a b more at (outcomes.NoCredit limit) is = tt
read_if_more a b more at (outcomes.Overlap tag) is = tt
read_if_more a b more at outcomes.Closed is = tt
read_if_more a b more at (outcomes.Dropped number held) is = tt
read_if_more a b more at (outcomes.Data size sum) is = tt
read_if_more a b more at (outcomes.Stale page) is = tt
read_if_more a b more at outcomes.Unknown is = tt
read_if_more a b more at (outcomes.Code code) is = tt
read_if_more a b more at (outcomes.Value value) is = tt
read_if_more a b more at (outcomes.Posted buffers code) is = tt
read_if_more a b more at (outcomes.Frame code number) is = tt
read_if_more a b more at outcomes.Done is = tt
read_if_more a b more at (outcomes.Bytes shown) is = record { fronts = is.fronts; there = λ page here. more.fronts page (is.fronts page) (is.there page here); read = is.read }

pub region_more : (a b : Seen) → Sees a b → (unit : UnitId) (mark : ℕ) (placed : Option Placed) (at : Option ℕ) (outcome : Outcome) → RegionShows a unit mark placed at outcome
    → RegionShows b unit mark placed at outcome
region_more a b more unit mark placed at outcome is = (wrote placed is.0, read at is.1)
  where
    wrote : (o : Option Placed) → IfSome o (λ p. IsWrittenIf outcome (AreWritten a unit mark p.at p.bytes)) → IfSome o (λ p. IsWrittenIf outcome (AreWritten b unit mark p.at p.bytes))
    wrote None h = tt
    wrote (Some p) h = written_if_more (AreWritten a unit mark p.at p.bytes) (AreWritten b unit mark p.at p.bytes) (written_more a b more unit mark p.at p.bytes) outcome h

    read : (o : Option ℕ) → IfSome o (λ n. IsReadIf a n outcome) → IfSome o (λ n. IsReadIf b n outcome)
    read None h = tt
    read (Some n) h = read_if_more a b more n outcome h

pub shown_more : (a b : Seen) → Sees a b → (unit : UnitId) (mark : ℕ) (verb : Verb) (outcome : Outcome) → IsShown a unit mark verb outcome → IsShown b unit mark verb outcome
shown_more a b more unit mark verb outcome is = (at (requests verb) is.0, further_more a b more (further_of verb) outcome is.1)
  where
    at : (asked : Bool) → MatchBool asked (IsSentIf a unit mark verb outcome) (RegionShows a unit mark (written_by verb) (read_by verb) outcome)
        → MatchBool asked (IsSentIf b unit mark verb outcome) (RegionShows b unit mark (written_by verb) (read_by verb) outcome)
    at true is = sent_if_more a b more unit mark verb outcome is
    at false is = region_more a b more unit mark (written_by verb) (read_by verb) outcome is

pub step_more : (a b : Seen) → Sees a b → (unit : UnitId) (mark : ℕ) (verb : Verb) (result : Result Step NoMemory) → StepShows a unit mark verb result → StepShows b unit mark verb result
step_more a b more unit mark verb (Ok (steps.Ends outcome)) is = shown_more a b more unit mark verb outcome is
step_more a b more unit mark verb (Ok (steps.Waits did)) is = tt
step_more a b more unit mark verb (Err memory) is = tt

-- a line that sends nothing and writes nothing
pub shows_none : (seen : Seen) (unit : UnitId) (mark : ℕ) (verb : Verb) (outcome : Outcome) → requests verb ≡ false → written_by verb ≡ None → read_by verb ≡ None
    → IsFurtherShown seen (further_of verb) outcome → IsShown seen unit mark verb outcome
shows_none seen unit mark verb outcome no_request no_bytes no_read login = (
  subst (λ b. MatchBool b (IsSentIf seen unit mark verb outcome) (RegionShows seen unit mark (written_by verb) (read_by verb) outcome)) (sym no_request)
      (subst (λ (o : Option Placed). RegionShows seen unit mark o (read_by verb) outcome) (sym no_bytes)
      (subst (λ (o : Option ℕ). RegionShows seen unit mark None o outcome) (sym no_read) (tt, tt))),
  login,
)

pub step_none : (seen : Seen) (unit : UnitId) (mark : ℕ) (verb : Verb) (result : Result Step NoMemory) → requests verb ≡ false → written_by verb ≡ None → read_by verb ≡ None
    → further_of verb ≡ None → StepShows seen unit mark verb result
step_none seen unit mark verb (Ok (steps.Ends outcome)) no_request no_bytes no_read none =
    shows_none seen unit mark verb outcome no_request no_bytes no_read (no_further seen (further_of verb) outcome none)
step_none seen unit mark verb (Ok (steps.Waits did)) no_request no_bytes no_read none = tt
step_none seen unit mark verb (Err memory) no_request no_bytes no_read none = tt

-- a command, and the unit that it sends
pub op_requests : (verb : Verb) (op : Op) → IsOpOf verb op → requests verb ≡ true
op_requests verbs.Login op is = absurd is
op_requests verbs.Reset op is = absurd is
op_requests verbs.Logout op is = absurd is
op_requests verbs.Tur op is = refl
op_requests (verbs.Read lba blocks at pieces table) op is = refl
op_requests (verbs.Write lba blocks at pieces table) op is = refl
op_requests (verbs.Command cdb) op is = refl
op_requests (verbs.CommandIn cdb at len pieces table) op is = refl
op_requests (verbs.CommandOut cdb at len pieces table) op is = refl
op_requests (verbs.Task function of) op is = absurd is
op_requests (verbs.Take count) op is = absurd is
op_requests (verbs.Data of) op is = absurd is
op_requests verbs.Open op is = absurd is
op_requests verbs.Close op is = absurd is
op_requests (verbs.Post at len count) op is = absurd is
op_requests (verbs.Send to len seed at) op is = absurd is
op_requests (verbs.ChangeMac own) op is = absurd is
op_requests (verbs.Multicast control group) op is = absurd is
op_requests (verbs.Fill at len seed) op is = absurd is
op_requests (verbs.Poke at bytes) op is = absurd is
op_requests (verbs.Peek at len) op is = absurd is
op_requests (verbs.Tce entry page readable writable) op is = absurd is
op_requests (verbs.Hcall number arguments) op is = absurd is
op_requests verbs.Fail op is = absurd is

op_unit : (verb : Verb) (op : Op) (tag : ℕ) (iu : Iu) → IsOpOf verb op → IsCommandOf verb tag iu → IsUnitOf verb tag iu
op_unit verbs.Login op tag iu is unit = absurd is
op_unit verbs.Reset op tag iu is unit = absurd is
op_unit verbs.Logout op tag iu is unit = absurd is
op_unit verbs.Tur op tag iu is unit = unit
op_unit (verbs.Read lba blocks at pieces table) op tag iu is unit = unit
op_unit (verbs.Write lba blocks at pieces table) op tag iu is unit = unit
op_unit (verbs.Command cdb) op tag iu is unit = unit
op_unit (verbs.CommandIn cdb at len pieces table) op tag iu is unit = unit
op_unit (verbs.CommandOut cdb at len pieces table) op tag iu is unit = unit
op_unit (verbs.Task function of) op tag iu is unit = absurd is
op_unit (verbs.Take count) op tag iu is unit = absurd is
op_unit (verbs.Data of) op tag iu is unit = absurd is
op_unit verbs.Open op tag iu is unit = absurd is
op_unit verbs.Close op tag iu is unit = absurd is
op_unit (verbs.Post at len count) op tag iu is unit = absurd is
op_unit (verbs.Send to len seed at) op tag iu is unit = absurd is
op_unit (verbs.ChangeMac own) op tag iu is unit = absurd is
op_unit (verbs.Multicast control group) op tag iu is unit = absurd is
op_unit (verbs.Fill at len seed) op tag iu is unit = absurd is
op_unit (verbs.Poke at bytes) op tag iu is unit = absurd is
op_unit (verbs.Peek at len) op tag iu is unit = absurd is
op_unit (verbs.Tce entry page readable writable) op tag iu is unit = absurd is
op_unit (verbs.Hcall number arguments) op tag iu is unit = absurd is
op_unit verbs.Fail op tag iu is unit = absurd is

-- a line that fails its partition
pub fail_is : (verb : Verb) → fails verb ≡ true → verb ≡ verbs.Fail
fail_is verbs.Login is = absurd (cc)
fail_is verbs.Reset is = absurd (cc)
fail_is verbs.Logout is = absurd (cc)
fail_is verbs.Tur is = absurd (cc)
fail_is (verbs.Read lba blocks at pieces table) is = absurd (cc)
fail_is (verbs.Write lba blocks at pieces table) is = absurd (cc)
fail_is (verbs.Command cdb) is = absurd (cc)
fail_is (verbs.CommandIn cdb at len pieces table) is = absurd (cc)
fail_is (verbs.CommandOut cdb at len pieces table) is = absurd (cc)
fail_is (verbs.Task function of) is = absurd (cc)
fail_is (verbs.Take count) is = absurd (cc)
fail_is (verbs.Data of) is = absurd (cc)
fail_is verbs.Open is = absurd (cc)
fail_is verbs.Close is = absurd (cc)
fail_is (verbs.Post at len count) is = absurd (cc)
fail_is (verbs.Send to len seed at) is = absurd (cc)
fail_is (verbs.ChangeMac own) is = absurd (cc)
fail_is (verbs.Multicast control group) is = absurd (cc)
fail_is (verbs.Fill at len seed) is = absurd (cc)
fail_is (verbs.Poke at bytes) is = absurd (cc)
fail_is (verbs.Peek at len) is = absurd (cc)
fail_is (verbs.Tce entry page readable writable) is = absurd (cc)
fail_is (verbs.Hcall number arguments) is = absurd (cc)
fail_is verbs.Fail is = refl

pub fails_plain : (verb : Verb) → fails verb ≡ true → requests verb ≡ false
fails_plain verb failing = ap requests (fail_is verb failing)

pub fail_shows : (seen : Seen) (unit : UnitId) (mark : ℕ) (verb : Verb) (outcome : Outcome) → fails verb ≡ true → IsShown seen unit mark verb outcome
fail_shows seen unit mark verb outcome failing =
    let is = fail_is verb failing in
    shows_none seen unit mark verb outcome (ap requests is) (ap written_by is) (ap read_by is) (no_further seen (further_of verb) outcome (ap further_of is))

pub contains_first : {X : Type 0} (x : X) (rest : List X) → Contains (x ∷ rest) x
contains_first x rest = (zero, omega arith, refl)

-- what there is in a window, with these entries
abbrev pub seen_there : PortState → (Entry → Type 0) → Seen
seen_there port entries = record { stroke_at = λ page stroke. IsOn stroke (port.strokes page); front_at = λ page front. (front ≡ port.strokes page) × IsSome front; value_at = λ entry value. Contains (port.values entry) value; entry_put = entries }

pub write_there : (shared : Bool) (old new : PortState) (at mark : ℕ) (bytes : List ℕ) (entries : Entry → Type 0) → Writes shared old at bytes mark new
    → AreWritten (seen_there new entries) old.place.unit mark at bytes
write_there shared old new at mark bytes entries is = wrote_there shared old new at mark bytes is

-- a unit was written into its slot, and its entry put
abbrev row_of : Ports → Entry → PipeRow
row_of new entry = record { session = new.crq.counts.partner_session; entry = entry }

pub next_within : (s : ClientState) (slot : ℕ) → IsNextSlot s slot → slot < SLOTS
next_within s slot (inl is) = is.within
next_within s slot (inr is) = is.within

unit_sent : (line slot : ℕ) (bytes : List ℕ) (old before new : Ports) (s : ClientState) (verb : Verb) (tag : ℕ) (iu : Iu) → before.crq_shared ≡ old.crq_shared
    → OnlyReserves old.crq before.crq → new.crq.place ≡ old.crq.place → new.own.place ≡ old.own.place → IsUnitOf verb tag iu → IsReady s iu slot bytes
    → UnitPut line slot bytes before new → IsSent (seen_since old.crq_shared new.own old.crq new.crq) old.own.place.unit line verb tag
unit_sent line slot bytes old before new s verb tag iu shared room place own is ready put = record {
  slot = slot;
  within = next_within s slot ready.1;
  iu = iu;
  of_line = is;
  bytes = bytes;
  canonical = ready.0;
  written = subst (λ unit. AreWritten (seen_since old.crq_shared new.own old.crq new.crq) unit line (slot_address slot) bytes)
      (ap (λ (p : PortPlace). p.unit) (sym put.laid.1.place ∙ own))
      (write_there before.own_shared before.own new.own (slot_address slot) line bytes (PutsOne old.crq_shared old.crq new.crq) put.laid.0);
  entry = record {
    sent = put.sent.puts.sent ∙ ap (λ (rows : List PipeRow). rows ++ row_of new (srp_entry (length bytes) (slot_address slot)) ∷ []) room.sent;
    partner = λ alone. ap (λ (p : EndPlace). p.partner_registered) (place ∙ sym room.place) ∙ put.sent.puts.partner (shared ∙ alone);
  };
}

-- an outcome that tells of no request
plain_sent : (seen : Seen) (unit : UnitId) (mark : ℕ) (verb : Verb) (outcome : Outcome) → is_plain outcome ≡ true → IsSentIf seen unit mark verb outcome
plain_sent seen unit mark verb (outcomes.Granted credits) plain = tt
plain_sent seen unit mark verb (outcomes.Sent tag) plain = absurd (cc)
plain_sent seen unit mark verb (outcomes.Took count) plain = tt
plain_sent seen unit mark verb outcomes.Lost plain = tt
plain_sent seen unit mark verb (outcomes.TookThenLost count) plain = tt
plain_sent seen unit mark verb (outcomes.Rejected reason) plain = tt
plain_sent seen unit mark verb outcomes.Unanswered plain = tt
plain_sent seen unit mark verb outcomes.Range plain = tt
plain_sent seen unit mark verb outcomes.NotLoggedIn plain = tt
plain_sent seen unit mark verb (outcomes.NoCredit limit) plain = tt
plain_sent seen unit mark verb (outcomes.Overlap tag) plain = tt
plain_sent seen unit mark verb outcomes.Closed plain = tt
plain_sent seen unit mark verb (outcomes.Dropped number held) plain = tt
plain_sent seen unit mark verb (outcomes.Data size sum) plain = tt
plain_sent seen unit mark verb (outcomes.Stale page) plain = tt
plain_sent seen unit mark verb outcomes.Unknown plain = tt
plain_sent seen unit mark verb (outcomes.Code code) plain = tt
plain_sent seen unit mark verb (outcomes.Value value) plain = tt
plain_sent seen unit mark verb (outcomes.Posted buffers code) plain = tt
plain_sent seen unit mark verb (outcomes.Frame code number) plain = tt
plain_sent seen unit mark verb outcomes.Done plain = tt
plain_sent seen unit mark verb (outcomes.Bytes shown) plain = tt

-- what a request that was sent says, and one that was not
sent_as : (seen : Seen) (unit : UnitId) (mark : ℕ) (verb : Verb) (tag : ℕ) (result : Result Step NoMemory) → requests verb ≡ true → result ≡ Ok (steps.Ends (outcomes.Sent tag))
    → IsSent seen unit mark verb tag → StepShows seen unit mark verb result
sent_as seen unit mark verb tag result asked says is =
    subst (StepShows seen unit mark verb) (sym says) (
      subst (λ b. MatchBool b (IsSent seen unit mark verb tag) (RegionShows seen unit mark (written_by verb) (read_by verb) (outcomes.Sent tag))) (sym asked) is,
      no_further seen (further_of verb) (outcomes.Sent tag) (asks_apart verb asked),
    )

not_sent : (seen : Seen) (unit : UnitId) (mark : ℕ) (verb : Verb) (result : Result Step NoMemory) → requests verb ≡ true → IsPlain result → StepShows seen unit mark verb result
not_sent seen unit mark verb (Ok (steps.Ends outcome)) asked plain = (
  subst (λ b. MatchBool b (IsSentIf seen unit mark verb outcome) (RegionShows seen unit mark (written_by verb) (read_by verb) outcome)) (sym asked)
      (plain_sent seen unit mark verb outcome plain),
  no_further seen (further_of verb) outcome (asks_apart verb asked),
)
not_sent seen unit mark verb (Ok (steps.Waits did)) asked plain = tt
not_sent seen unit mark verb (Err memory) asked plain = tt

pub submit_shows : (verb : Verb) (line : ℕ) (op : Op) (s s' : ClientState) (old new : Ports) (answer : Result ℕ Refused) (result : Result Step NoMemory) → IsOpOf verb op
    → op.cdb ≡ cdb_of verb → SaysSent answer result → IfOk answer (Submitted line op s s' old new) → new.crq.place ≡ old.crq.place → new.own.place ≡ old.own.place
    → StepShows (seen_since old.crq_shared new.own old.crq new.crq) old.own.place.unit line verb result
submit_shows verb line op s s' old new (Ok tag) result is cdb says sent place own =
    let put = sent.put in
    sent_as (seen_since old.crq_shared new.own old.crq new.crq) old.own.place.unit line verb tag result (op_requests verb op is) says
    (unit_sent line sent.slot put.0 old sent.before new s verb tag (units.Cmd sent.command) sent.ready.crq_shared sent.ready.crq place own
    (op_unit verb op tag (units.Cmd sent.command) is
    (record { op = op; of_line = is; cdb = cdb; command = sent.command; is = subst (λ t. IsCommand t op sent.command) (sym sent.tag_is) sent.is_command; unit_is = refl })) put.1 put.2)
submit_shows verb line op s s' old new (Err why) result is cdb says sent place own =
    not_sent (seen_since old.crq_shared new.own old.crq new.crq) old.own.place.unit line verb result (op_requests verb op is) says

put_shows : (verb : Verb) (line slot tag : ℕ) (s : ClientState) (iu : Iu) (old new : Ports) (result : Result Step NoMemory) → requests verb ≡ true → IsUnitOf verb tag iu
    → result ≡ Ok (steps.Ends (outcomes.Sent tag)) → Put line s iu slot old new → new.crq.place ≡ old.crq.place → new.own.place ≡ old.own.place
    → StepShows (seen_since old.crq_shared new.own old.crq new.crq) old.own.place.unit line verb result
put_shows verb line slot tag s iu old new result asked is says put place own =
    sent_as (seen_since old.crq_shared new.own old.crq new.crq) old.own.place.unit line verb tag result asked says
    (unit_sent line slot put.put.0 old put.before new s verb tag iu put.ready.crq_shared put.ready.crq place own is put.put.1 put.put.2)

pub task_shows : (line function task : ℕ) (s s' : ClientState) (old new : Ports) (answer : Result ℕ Refused) (result : Result Step NoMemory) → SaysSent answer result
    → IfOk answer (Tasked line function task s s' old new) → new.crq.place ≡ old.crq.place → new.own.place ≡ old.own.place
    → StepShows (seen_since old.crq_shared new.own old.crq new.crq) old.own.place.unit line (verbs.Task function task) result
task_shows line function task s s' old new (Ok tag) result says sent place own =
    put_shows (verbs.Task function task) line sent.slot tag s (task_unit function task s) old new result refl
    (ap (λ t. units.TskMgmt (task_request function task t)) (sym sent.tag_is)) says sent.put place own
task_shows line function task s s' old new (Err why) result says sent place own =
    not_sent (seen_since old.crq_shared new.own old.crq new.crq) old.own.place.unit line (verbs.Task function task) result refl says

pub logout_shows : (line : ℕ) (s s' : ClientState) (old new : Ports) (answer : Result ℕ Refused) (result : Result Step NoMemory) → SaysSent answer result
    → IfOk answer (LoggedOut line s s' old new) → new.crq.place ≡ old.crq.place → new.own.place ≡ old.own.place
    → StepShows (seen_since old.crq_shared new.own old.crq new.crq) old.own.place.unit line verbs.Logout result
logout_shows line s s' old new (Ok tag) result says sent place own =
    put_shows verbs.Logout line sent.slot tag s (logout_unit s) old new result refl (ap (λ t. units.ILogout t) (sym sent.tag_is)) says sent.put place own
logout_shows line s s' old new (Err why) result says sent place own =
    not_sent (seen_since old.crq_shared new.own old.crq new.crq) old.own.place.unit line verbs.Logout result refl says

-- a line that writes bytes into the region
pub write_shows : (shared : Bool) (old new : PortState) (at mark : ℕ) (bytes : List ℕ) (entries : Entry → Type 0) (verb : Verb) (result : Result Step NoMemory) → requests verb ≡ false
    → written_by verb ≡ Some (record { at = at; bytes = bytes }) → read_by verb ≡ None → further_of verb ≡ None → IfOk result (AnswersWrite shared old new at bytes mark)
    → StepShows (seen_there new entries) old.place.unit mark verb result
write_shows shared old new at mark bytes entries verb (Ok (steps.Ends outcome)) no_request is no_read none answer =
    let seen : Seen = seen_there new entries in
    let unit = old.place.unit in (
      subst (λ b. MatchBool b (IsSentIf seen unit mark verb outcome) (RegionShows seen unit mark (written_by verb) (read_by verb) outcome)) (sym no_request)
          (subst (λ (o : Option Placed). RegionShows seen unit mark o (read_by verb) outcome) (sym is)
          (subst (λ (o : Option ℕ). RegionShows seen unit mark (Some (record { at = at; bytes = bytes })) o outcome) (sym no_read)
          (if_done shared old new at bytes mark (AreWritten seen unit mark at bytes) (write_there shared old new at mark bytes entries) outcome answer, tt))),
      no_further seen (further_of verb) outcome none,
    )
write_shows shared old new at mark bytes entries verb (Ok (steps.Waits did)) no_request is no_read none answer = tt
write_shows shared old new at mark bytes entries verb (Err memory) no_request is no_read none answer = tt

-- a line that reads bytes of the region
pub read_there : (new : PortState) (at : ℕ) (shown : List ℕ) (entries : Entry → Type 0) → Reads new at shown → AreRead (seen_there new entries) at shown
read_there new at shown entries is = was_read new at shown is

pub read_shows : (old new : PortState) (unit : UnitId) (at len mark : ℕ) (entries : Entry → Type 0) (verb : Verb) (result : Result Step NoMemory) → requests verb ≡ false
    → written_by verb ≡ None → read_by verb ≡ Some at → further_of verb ≡ None → IfOk result (AnswersRead old new at len) → StepShows (seen_there new entries) unit mark verb result
read_shows old new unit at len mark entries verb (Ok (steps.Ends outcome)) no_request no_bytes is none answer =
    let seen : Seen = seen_there new entries in (
      subst (λ b. MatchBool b (IsSentIf seen unit mark verb outcome) (RegionShows seen unit mark (written_by verb) (read_by verb) outcome)) (sym no_request)
          (subst (λ (o : Option Placed). RegionShows seen unit mark o (read_by verb) outcome) (sym no_bytes)
          (subst (λ (o : Option ℕ). RegionShows seen unit mark None o outcome) (sym is)
          (tt, if_bytes (region_of seen) at new len old (λ shown is. was_read new at shown is) outcome answer))),
      no_further seen (further_of verb) outcome none,
    )
read_shows old new unit at len mark entries verb (Ok (steps.Waits did)) no_request no_bytes is none answer = tt
read_shows old new unit at len mark entries verb (Err memory) no_request no_bytes is none answer = tt

-- what a driver sees is there at its pair: an entry that was put in a registered queue was put in a session
pub home_sees : (pair : Pair) (port : PortState) (end : EndState) → port.strokes ≡ strokes_at pair.window.pages → port.values ≡ (known_of pair.window).values → end.sent ≡ (side_of pair.link true).queue.sent
    → end.counts.partner_session ≡ (side_of pair.link true).queue.session → end.place.partner_registered ≡ (side_of pair.link true).registered
    → Sees (seen_by false port end) (seen_now pair)
home_sees pair port end strokes values sent session registered = record {
  strokes = λ page stroke is. subst (λ (at : ℕ → Option (List StrokeValue)). IsOn stroke (at page)) strokes is;
  fronts = λ page front is. (is.0 ∙ ap (λ (at : ℕ → Option (List StrokeValue)). at page) strokes, is.1);
  values = λ entry value is. subst (λ (at : ℕ → List ℕ). Contains (at entry) value) values is;
  entries = λ entry is. record {
    row = record { session = end.counts.partner_session; entry = entry };
    there = subst (λ (rows : List PipeRow). Contains rows (record { session = end.counts.partner_session; entry = entry })) sent is.there;
    entry_is = refl;
    begun = subst (λ n. 1 ≤ n) (sym session) ((side_of pair.link true).begun (sym registered ∙ is.partner refl));
  };
}

more_on : (unit : UnitId) (stroke : StrokeValue) (old new : Option (List StrokeValue)) → LaysOwnOn unit old new → IsOn stroke old → IsOn stroke new
more_on unit stroke None new lays is = absurd is
more_on unit stroke (Some old) None lays is = absurd lays
more_on unit stroke (Some old) (Some new) lays is =
    subst (λ (strokes : List StrokeValue). Contains strokes stroke) (sym lays.is) (Contains-append_left old lays.more stroke is)

pub front_more : (front old new : Option (List StrokeValue)) → ((strokes : List StrokeValue) → old ≡ Some strokes → (more : List StrokeValue) × (new ≡ Some (strokes ++ more)))
    → IsFront front old → IsFront front new
front_more None old new grows is = absurd is
front_more (Some front) None new grows is = absurd is
front_more (Some front) (Some old) new grows is =
    let more = grows old refl in
    subst (IsFront (Some front)) (sym more.1) (is.0 ++ more.0, ap (λ (list : List StrokeValue). list ++ more.0) is.1 ∙ append_assoc front is.0 more.0)

more_put : (entry : Entry) (old rows new : List PipeRow) → new ≡ old ++ rows → IsPut entry old → IsPut entry new
more_put entry old rows new e is = record {
  row = is.row;
  there = subst (λ (list : List PipeRow). Contains list is.row) (sym e) (Contains-append_left old rows is.row is.there);
  entry_is = is.entry_is;
  begun = is.begun;
}

laid_more : (unit : UnitId) (strokes : List StrokeValue) (old new : Option (List StrokeValue)) → old ≡ Some strokes → LaysOwnOn unit old new
    → (more : List StrokeValue) × (new ≡ Some (strokes ++ more))
laid_more unit strokes None new e lays = absurd (no_strokes strokes e)
  where
    no_strokes : (list : List StrokeValue) → None ≡ Some list → ⊥
    no_strokes list e = cc
laid_more unit strokes (Some old) None e lays = absurd lays
laid_more unit strokes (Some old) (Some new) e lays =
    (lays.more, ap Some (lays.is ∙ ap (λ (list : List StrokeValue). list ++ lays.more) (some_is old strokes e)))

pub grown_more : (strokes : List StrokeValue) (old new : Option (List StrokeValue)) → old ≡ Some strokes → Grows true old new
    → (more : List StrokeValue) × (new ≡ Some (strokes ++ more))
grown_more strokes None new e grows = absurd (no_strokes strokes e)
  where
    no_strokes : (list : List StrokeValue) → None ≡ Some list → ⊥
    no_strokes list e = cc
grown_more strokes (Some old) None e grows = absurd grows
grown_more strokes (Some old) (Some new) e grows =
    (grows.0, ap Some (grows.1 ∙ ap (λ (list : List StrokeValue). list ++ grows.0) (some_is old strokes e)))

pub begins_has : (old new : List ℕ) (value : ℕ) → Begins old new → Contains old value → Contains new value
begins_has old new value begins has = subst (λ (list : List ℕ). Contains list value) (sym begins.1) (Contains-append_left old begins.0 value has)

-- what a client's part of a turn, and a turn of the server unit, leave of it
pub drives_sees : (old new : Pair) → Drives old new → Sees (seen_at old) (seen_at new)
drives_sees old new is = record {
  strokes = λ page stroke there. more_on old.window.unit stroke (strokes_at old.window.pages page) (strokes_at new.window.pages page) (is.laid page) there;
  fronts = λ page front there. front_more front (strokes_at old.window.pages page) (strokes_at new.window.pages page)
      (λ strokes e. laid_more old.window.unit strokes (strokes_at old.window.pages page) (strokes_at new.window.pages page) e (is.laid page)) there;
  values = λ entry value there. begins_has ((known_of old.window).values entry) ((known_of new.window).values entry) value (is.grows.values entry) there;
  entries = λ entry put. more_put entry (side_of old.link true).queue.sent is.puts.rows (side_of new.link true).queue.sent is.puts.sent put;
}

pub grown_on : (stroke : StrokeValue) (old new : Option (List StrokeValue)) → Grows true old new → IsOn stroke old → IsOn stroke new
grown_on stroke None new grows is = absurd is
grown_on stroke (Some old) None grows is = absurd grows
grown_on stroke (Some old) (Some new) grows is =
    subst (λ (strokes : List StrokeValue). Contains strokes stroke) (sym grows.1) (Contains-append_left old grows.0 stroke is)

pub serve_sees : (old new : Pair) → SideGrows (side_at (known_of old.window)) (side_at (known_of new.window)) → (side_of new.link true).queue.sent ≡ (side_of old.link true).queue.sent
    → Sees (seen_at old) (seen_at new)
serve_sees old new grows sent = record {
  strokes = λ page stroke there. grown_on stroke (strokes_at old.window.pages page) (strokes_at new.window.pages page) (grows.strokes page) there;
  fronts = λ page front there. front_more front (strokes_at old.window.pages page) (strokes_at new.window.pages page)
      (λ strokes e. grown_more strokes (strokes_at old.window.pages page) (strokes_at new.window.pages page) e (grows.strokes page)) there;
  values = λ entry value there. begins_has ((known_of old.window).values entry) ((known_of new.window).values entry) value (grows.values entry) there;
  entries = λ entry put. subst (IsPut entry) (sym sent) put;
}

pub sees_same : (seen : Seen) → Sees seen seen
sees_same seen = record { strokes = λ page stroke is. is; fronts = λ page front is. is; values = λ entry value is. is; entries = λ entry is. is }

pub sees_on : (a b c : Seen) → Sees a b → Sees b c → Sees a c
sees_on a b c first next = record {
  strokes = λ page stroke is. next.strokes page stroke (first.strokes page stroke is);
  fronts = λ page front is. next.fronts page front (first.fronts page front is);
  values = λ entry value is. next.values entry value (first.values entry value is);
  entries = λ entry is. next.entries entry (first.entries entry is);
}

-- of lines one after the other
pub lines_more : (a b : Seen) (who : UnitId) (unit : ℕ) (lines : List Line) (rows : List LogRow) → Sees a b → LinesShow a who unit lines rows → LinesShow b who unit lines rows
lines_more a b who unit lines rows more show i line row found at is = shown_more a b more who line.number line.verb row.outcome (show i line row found at is)

pub no_row : (row : LogRow) → None ≡ Some row → ⊥
no_row row e = cc

pub row_at : (rows : List LogRow) (last row : LogRow) (i : ℕ) → slice_get (rows ++ last ∷ []) i ≡ Some row → (slice_get rows i ≡ Some row) ⊎ ((i ≡ length rows) × (row ≡ last))
row_at [] last row zero e = inr (refl, some_is row last (sym e))
row_at [] last row (suc i) e = absurd (no_row row e)
row_at (first ∷ rows) last row zero e = inl e
row_at (first ∷ rows) last row (suc i) e = at (row_at rows last row i e)
  where
    at : (slice_get rows i ≡ Some row) ⊎ ((i ≡ length rows) × (row ≡ last)) → (slice_get rows i ≡ Some row) ⊎ ((suc i ≡ suc (length rows)) × (row ≡ last))
    at (inl h) = inl h
    at (inr h) = inr (ap suc h.0, h.1)

pub lines_next : (seen : Seen) (who : UnitId) (unit : ℕ) (lines : List Line) (rows : List LogRow) (line : Line) (row : LogRow) → slice_get lines (length rows) ≡ Some line
    → LinesShow seen who unit lines rows → (line.unit ≡ unit → IsShown seen who line.number line.verb row.outcome) → LinesShow seen who unit lines (rows ++ row ∷ [])
lines_next seen who unit lines rows line row found show last i l r there at is = by (row_at rows row r i at)
  where
    by : (slice_get rows i ≡ Some r) ⊎ ((i ≡ length rows) × (r ≡ row)) → IsShown seen who l.number l.verb r.outcome
    by (inl h) = show i l r there h is
    by (inr h) =
        let same : l ≡ line = some_is l line (sym there ∙ (ap (slice_get lines) h.0 ∙ found)) in
        subst (λ (x : LogRow). IsShown seen who l.number l.verb x.outcome) (sym h.1)
        (subst (λ (x : Line). IsShown seen who x.number x.verb row.outcome) (sym same) (last (sym (ap (λ (x : Line). x.unit) same) ∙ is)))

-- an entry that was put in a session is one of those that the trace shows
pub no_element : {X : Type 0} (x : X) → Contains [] x → ⊥
no_element x h = omega (arith, h.1)

pub first_or : {X : Type 0} (first x : X) (xs : List X) → Contains (first ∷ xs) x → (first ≡ x) ⊎ Contains xs x
first_or {X} first x xs h = at h.0 h.1 h.2
  where
    at : (k : ℕ) → k < length (first ∷ xs) → get_or (first ∷ xs) k x ≡ x → (first ≡ x) ⊎ Contains xs x
    at zero within is = inl is
    at (suc k) within is = inr (k, omega (arith, within), is)

pub all_has : {X : Type 0} (P : X → Type 0) (xs : List X) (x : X) → All P xs → Contains xs x → P x
all_has P xs x all has = subst P has.2 (all has.0 x has.1)

pub behind_first : {X : Type 0} (first x : X) (xs : List X) → Contains xs x → Contains (first ∷ xs) x
behind_first first x xs h = Contains-append_right (first ∷ []) xs x h

pub in_session : (q : ℕ) (rows : List PipeRow) (row : PipeRow) → row.session ≡ q → Contains rows row → Contains (entries_of q rows) row.entry
in_session q [] row same has = absurd (no_element row has)
in_session q (first ∷ rows) row same has = by (in_session q rows row same) (first_or first row rows has)
  where
    rest : List PipeRow
    rest = filter (λ r. r.session == q) rows

    at : (b : Bool) → Contains (map (λ r. r.entry) rest) row.entry → Contains (map (λ r. r.entry) (cond b (first ∷ rest) rest)) row.entry
    at true h = behind_first first.entry row.entry (map (λ r. r.entry) rest) h
    at false h = h

    by : (Contains rows row → Contains (map (λ r. r.entry) rest) row.entry) → (first ≡ row) ⊎ Contains rows row
        → Contains (map (λ r. r.entry) (cond (first.session == q) (first ∷ rest) rest)) row.entry
    by more (inl e) =
        subst (λ b. Contains (map (λ r. r.entry) (cond b (first ∷ rest) rest)) row.entry) (sym (eq-eqb first.session q (ap (λ (r : PipeRow). r.session) e ∙ same)))
        (subst (λ (entry : Entry). Contains (first.entry ∷ map (λ r. r.entry) rest) entry) (ap (λ (r : PipeRow). r.entry) e) (contains_first first.entry (map (λ r. r.entry) rest)))
    by more (inr h) = at (first.session == q) (more h)

in_sessions : (unit : UnitId) (pipe : PipeValue) (q n k : ℕ) (entry : Entry) → q ≤ k → k < q + n → Contains (entries_of k pipe.sent) entry
    → Contains (flat_map (λ row. row.sent) (sessions_from unit pipe q n)) entry
in_sessions unit pipe q zero k entry from below has = absurd (omega (arith, from, below))
in_sessions unit pipe q (suc n) k entry from below has =
    by (λ apart. in_sessions unit pipe (q + 1) n k entry (omega (arith, from, apart)) (omega (arith, below)) has) (same_or k q)
  where
    later : List Entry
    later = flat_map (λ row. row.sent) (sessions_from unit pipe (q + 1) n)

    by : (k ≢ q → Contains later entry) → (k ≡ q) ⊎ (k ≢ q) → Contains (entries_of q pipe.sent ++ later) entry
    by more (inl e) = Contains-append_left (entries_of q pipe.sent) later entry (subst (λ m. Contains (entries_of m pipe.sent) entry) e has)
    by more (inr apart) = Contains-append_right (entries_of q pipe.sent) later entry (more apart)

pub put_shown : (unit : UnitId) (pipe : PipeValue) (entry : Entry) → AreRising pipe.session pipe.sent → IsPut entry pipe.sent
    → Contains (flat_map (λ row. row.sent) (session_rows unit pipe)) entry
put_shown unit pipe entry rising put =
    let last : put.row.session ≤ pipe.session = all_has (λ (row : PipeRow). row.session ≤ pipe.session) pipe.sent put.row rising.none_later put.there in
    in_sessions unit pipe 1 pipe.session put.row.session entry put.begun (omega (arith, last))
    (subst (λ (e : Entry). Contains (entries_of put.row.session pipe.sent) e) put.entry_is (in_session put.row.session pipe.sent put.row refl put.there))

-- a stroke of a page is one of those that the trace shows
pub stroke_shown : (size page : ℕ) (stroke : StrokeValue) (strokes : Option (List StrokeValue)) (shown : List StrokeValue)
    → Grows true strokes (cond (nat_lt page size) (Some shown) None) → IsOn stroke strokes → Contains shown stroke
stroke_shown size page stroke strokes shown grows on = at (nat_lt page size) grows
  where
    at : (b : Bool) → Grows true strokes (cond b (Some shown) None) → Contains shown stroke
    at true more = grown_on stroke strokes (Some shown) more on
    at false more = absurd (grown_on stroke strokes None more on)

-- a step at the pair where a client sits
pub end_sees : (pair : Pair) (lenders : List GName) (first : Bool) → first ≡ false → Sees (seen_by false (known_of pair.window) (end_of lenders pair.link first)) (seen_now pair)
end_sees pair lenders first is =
    subst (λ b. Sees (seen_by false (known_of pair.window) (end_of lenders pair.link b)) (seen_now pair)) (sym is)
    (home_sees pair (known_of pair.window) (end_of lenders pair.link false) refl refl refl refl refl)

-- what is there now is there
pub now_sees : (pair : Pair) → Sees (seen_now pair) (seen_at pair)
now_sees pair = record {
  strokes = λ page stroke is. is;
  fronts = λ page front is. subst (IsFront front) is.0 (front_of front is.1);
  values = λ entry value is. is;
  entries = λ entry is. is;
}

-- a step behind others that put nothing
pub since_from : (shared : Bool) (port : PortState) (old mid new : EndState) → mid.sent ≡ old.sent → Sees (seen_since shared port mid new) (seen_since shared port old new)
since_from shared port old mid new same = record {
  strokes = λ page stroke is. is;
  fronts = λ page front is. is;
  values = λ entry value is. is;
  entries = λ entry put. record {
    sent = put.sent ∙ ap (λ (rows : List PipeRow). rows ++ record { session = new.counts.partner_session; entry = entry } ∷ []) same;
    partner = put.partner;
  };
}

-- the end at which it was made is the pair's again
since_sees : (old new : Pair) (x y : List GName) (f g : Bool) (lent : PlainLink) → lent ≡ old.link → f ≡ false → g ≡ false
    → Sees (seen_since false (known_of new.window) (end_of x lent f) (end_of y new.link g)) (seen_between old new)
since_sees old new x y f g lent same first next =
    subst (λ (d : Bool). Sees (seen_since false (known_of new.window) (end_of x lent f) (end_of y new.link d)) (seen_between old new)) (sym next)
    (subst (λ (d : Bool). Sees (seen_since false (known_of new.window) (end_of x lent d) (end_of y new.link false)) (seen_between old new)) (sym first)
    (subst (λ (l : PlainLink). Sees (seen_since false (known_of new.window) (end_of x l false) (end_of y new.link false)) (seen_between old new)) (sym same)
    (record {
      strokes = λ page stroke is. is;
      fronts = λ page front is. is;
      values = λ entry value is. is;
      entries = λ entry put. record {
        row = record { session = (side_of new.link true).queue.session; entry = entry };
        sent = put.sent;
        entry_is = refl;
        begun = (side_of new.link true).begun (put.partner refl);
      };
    })))

pub pair_shows : (old new : Pair) (x y : List GName) (f g : Bool) (lent : PlainLink) (who : UnitId) (line : Line) (result : Result Step NoMemory) → lent ≡ old.link → f ≡ false → g ≡ false
    → new.window.unit ≡ who → StepShows (seen_since false (known_of new.window) (end_of x lent f) (end_of y new.link g)) who line.number line.verb result → PairShows line old new result
pair_shows old new x y f g lent who line result same first next unit shows =
    subst (λ u. StepShows (seen_between old new) u line.number line.verb result) (sym unit)
    (step_more (seen_since false (known_of new.window) (end_of x lent f) (end_of y new.link g)) (seen_between old new) (since_sees old new x y f g lent same first next)
    who line.number line.verb result shows)

-- what a step shows is there
pub between_sees : (old new : Pair) → Sees (seen_between old new) (seen_at new)
between_sees old new = record {
  strokes = λ page stroke is. is;
  fronts = λ page front is. subst (IsFront front) is.0 (front_of front is.1);
  values = λ entry value is. is;
  entries = λ entry put. record {
    row = put.row;
    there = subst (λ (rows : List PipeRow). Contains rows put.row) (sym put.sent) (Contains-append_right (side_of old.link true).queue.sent (put.row ∷ []) put.row (contains_first put.row []));
    entry_is = put.entry_is;
    begun = put.begun;
  };
}

pub front_shown : (size page : ℕ) (front strokes : Option (List StrokeValue)) (shown : List StrokeValue)
    → Grows true strokes (cond (nat_lt page size) (Some shown) None) → IsFront front strokes → IsFront front (Some shown)
front_shown size page front strokes shown grows is = at (nat_lt page size) grows
  where
    none_front : (f o : Option (List StrokeValue)) → Grows true o None → IsFront f o → ⊥
    none_front None o grows is = is
    none_front (Some f) None grows is = is
    none_front (Some f) (Some o) grows is = grows

    at : (b : Bool) → Grows true strokes (cond b (Some shown) None) → IsFront front (Some shown)
    at true more = front_more front strokes (Some shown) (λ list e. grown_more list strokes (Some shown) e more) is
    at false more = absurd (none_front front strokes more is)
