-- What is there once a client's line said that it sent a request, or wrote into its region: its strokes, and the entry that was put.
use Rattle.std.specs.Prelude.{◌≡◌, ℕ, ◌<◌, ◌≤◌, Bool, true, false, List, [], ◌∷◌, ◌++◌, IfSome, IsSome, MatchBool, Option, Some, None, Result, Ok, length, ⊤}
use Rattle.std.specs.List.{Contains, slice_get}
use Rattle.vio_num.specs.Entry.{srp_entry}
use Rattle.vio_num.specs.declared.entry.Entry.{Entry}
use Rattle.vio_num.specs.declared.hypervisor.Hrc.TheVariants as codes
use Rattle.vio_num.specs.declared.memory.NoMemory.{NoMemory}
use Rattle.vio_num.specs.declared.names.UnitId.{UnitId}
use Rattle.crq_ring.specs.declared.rows.PipeRow.{PipeRow}
use Rattle.crq_session.specs.EndState.{EndState}
use Rattle.crq_session.specs.PlainState.{side_of}
use Rattle.page_slots.specs.Stroke.{StrokeValue}
use Rattle.tce_window.specs.PlainPort.{known_of}
use Rattle.tce_window.specs.PortState.{PortState}
use Rattle.tce_window.specs.Window.{strokes_at}
use Rattle.srp_iu.specs.Grammar.{Canon, Spells}
use Rattle.srp_iu.specs.declared.command.Cmd.{Cmd as Command}
use Rattle.srp_iu.specs.declared.login.LoginRej.{LoginRej as Rejection}
use Rattle.srp_iu.specs.declared.login.LoginRsp.{LoginRsp as LoginResponse}
use Rattle.srp_iu.specs.declared.unit.Iu.{Iu}
use Rattle.srp_iu.specs.declared.unit.Iu.TheVariants as units
use Rattle.boot_text.specs.declared.plan.Line.{Line}
use Rattle.boot_text.specs.declared.verb.Verb.{Verb}
use Rattle.boot_text.specs.declared.verb.Verb.TheVariants as verbs
use Rattle.vio_trace.specs.declared.outcome.Outcome.{Outcome}
use Rattle.vio_trace.specs.declared.outcome.Outcome.TheVariants as outcomes
use Rattle.vio_trace.specs.declared.rows.LogRow.{LogRow}
use Rattle.vscsi_client.specs.Units.{IsCommand, slot_address, task_request}
use Rattle.vscsi_client.specs.declared.TheConstants.{SLOTS}
use Rattle.vscsi_client.specs.declared.op.Op.{Op}
use Rattle.unit_region.specs.Answers.{tce_of}
pub use Rattle.unit_region.specs.RegionLines.{IsOn, IsWrittenIf, Placed, read_by, written_by}
use Rattle.unit_region.specs.RegionLines.{AreRead as AreReadIn, AreWritten as AreWrittenIn, IsReadIf as IsReadInIf, RegionSeen, RegionShows as ShowsIn}
use Rattle.unit_region.specs.declared.step.Step.{Step}
use Rattle.unit_region.specs.declared.step.Step.TheVariants as steps
use Rattle.vcpu_run.specs.declared.pair.Pair.{Pair}
use Rattle.vcpu_run.specs.AnswersSeen.{IsFront}
use Rattle.vcpu_run.specs.Commands.{IsOpOf, cdb_of}
use Rattle.vcpu_run.specs.Replay.{asks}

-- What there is of a client's lines: the strokes on the pages of its region, with which lists of strokes a page is read, the values of
-- its window's entries, and the entries in its server unit's queue.
pub record Seen : Type 1 where
  pub stroke_at : (page : ℕ) → StrokeValue → Type 0
  pub front_at : (page : ℕ) → Option (List StrokeValue) → Type 0
  pub value_at : (entry value : ℕ) → Type 0
  pub entry_put : Entry → Type 0

-- the region among it
abbrev pub region_of : Seen → RegionSeen
region_of seen = record { stroke_at = seen.stroke_at; front_at = seen.front_at }

-- these bytes were written in it, under a mark
abbrev pub AreWritten : Seen → (unit : UnitId) → (mark at : ℕ) → List ℕ → Type 0
AreWritten seen unit mark at bytes = AreWrittenIn (region_of seen) unit mark at bytes

-- A command's information unit: it is the command of the line, under this tag.
pub record IsCommandOf (verb : Verb) (tag : ℕ) (iu : Iu) : Type 0 where
  pub op : Op
  pub of_line : IsOpOf verb op
  pub cdb : op.cdb ≡ cdb_of verb
  pub command : Command
  pub is : IsCommand tag op command
  pub unit_is : iu ≡ units.Cmd command

-- the information unit that a line sends under a tag
abbrev pub IsUnitOf : Verb → (tag : ℕ) → Iu → Type 0
IsUnitOf verbs.Logout tag iu = iu ≡ units.ILogout tag
IsUnitOf (verbs.Task function task) tag iu = iu ≡ units.TskMgmt (task_request function task tag)
IsUnitOf verb tag iu = IsCommandOf verb tag iu

-- A request was sent: the canonical bytes of its unit were written into one of the 200 slots of 256 bytes with which the region
-- begins, under the line's number, and an entry of this length and this address was put.
pub record IsSent (seen : Seen) (unit : UnitId) (mark : ℕ) (verb : Verb) (tag : ℕ) : Type 0 where
  pub slot : ℕ
  pub within : slot < SLOTS
  pub iu : Iu
  pub of_line : IsUnitOf verb tag iu
  pub bytes : List ℕ
  pub canonical : Canon bytes iu
  pub written : AreWritten seen unit mark (slot_address slot) bytes
  pub entry : seen.entry_put (srp_entry (length bytes) (slot_address slot))

abbrev pub IsSentIf : Seen → UnitId → (mark : ℕ) → Verb → Outcome → Type 0
IsSentIf seen unit mark verb (outcomes.Sent tag) = IsSent seen unit mark verb tag
IsSentIf seen unit mark verb _ = ⊤

-- these bytes were read in it
abbrev pub AreRead : Seen → (at : ℕ) → List ℕ → Type 0
AreRead seen at bytes = AreReadIn (region_of seen) at bytes

abbrev pub IsReadIf : Seen → (at : ℕ) → Outcome → Type 0
IsReadIf seen at outcome = IsReadInIf (region_of seen) at outcome

-- whether a line sends a request
abbrev pub requests : Verb → Bool
requests verbs.Logout = true
requests verb = asks verb

-- what there is of a line in its own region, by what it writes and where it reads
abbrev pub RegionShows : Seen → UnitId → (mark : ℕ) → Option Placed → Option ℕ → Outcome → Type 0
RegionShows seen unit mark placed at outcome = ShowsIn (region_of seen) unit mark placed at outcome

-- what else there is of a line: the answer to its login, or the value that it put into an entry of its window
pub data Further : Type 0 where
  LogsIn : Further
  PutsValue : (entry value : ℕ) → Further

abbrev pub further_of : Verb → Option Further
further_of verbs.Login = Some LogsIn
further_of verbs.Reset = Some LogsIn
further_of (verbs.Tce entry page readable writable) = Some (PutsValue entry (tce_of page readable writable))
further_of _ = None

-- A unit was read in a slot of the region, or in the place behind them: its bytes are what the pages gave, each with a list of strokes with which
-- it is read.
pub record IsUnitRead (region : RegionSeen) (iu : Iu) : Type 0 where
  pub slot : ℕ
  pub within : slot ≤ SLOTS
  pub bytes : List ℕ
  pub spells : Spells bytes iu
  pub read : AreReadIn region (slot_address slot) bytes

-- a response that was read grants these credits, or a rejection says this reason
abbrev pub IsGrantRead : RegionSeen → (credits : ℕ) → Type 0
IsGrantRead region credits = (response : LoginResponse) × (response.delta ≡ credits) × IsUnitRead region (units.LoginRsp response)

abbrev pub IsRejectionRead : RegionSeen → (reason : ℕ) → Type 0
IsRejectionRead region reason = (rejection : Rejection) × (rejection.reason ≡ reason) × IsUnitRead region (units.LoginRej rejection)

-- what there is of the answer to a login
abbrev pub IsAnswerRead : RegionSeen → Outcome → Type 0
IsAnswerRead region (outcomes.Granted credits) = IsGrantRead region credits
IsAnswerRead region (outcomes.Rejected reason) = IsRejectionRead region reason
IsAnswerRead region _ = ⊤

-- a value is one of its entry, where the line says that it was put
abbrev pub IsValuePut : Seen → (entry value : ℕ) → Outcome → Type 0
IsValuePut seen entry value (outcomes.Code codes.Success) = seen.value_at entry value
IsValuePut seen entry value _ = ⊤

abbrev pub FurtherShows : Seen → Further → Outcome → Type 0
FurtherShows seen LogsIn outcome = IsAnswerRead (region_of seen) outcome
FurtherShows seen (PutsValue entry value) outcome = IsValuePut seen entry value outcome

abbrev pub IsFurtherShown : Seen → Option Further → Outcome → Type 0
IsFurtherShown seen further outcome = IfSome further (λ further. FurtherShows seen further outcome)

-- what there is of a line that ended so
abbrev pub IsShown : Seen → UnitId → (mark : ℕ) → Verb → Outcome → Type 0
IsShown seen unit mark verb outcome =
    MatchBool (requests verb) (IsSentIf seen unit mark verb outcome) (RegionShows seen unit mark (written_by verb) (read_by verb) outcome)
    × IsFurtherShown seen (further_of verb) outcome

abbrev pub StepShows : Seen → UnitId → (mark : ℕ) → Verb → Result Step NoMemory → Type 0
StepShows seen unit mark verb (Ok (steps.Ends outcome)) = IsShown seen unit mark verb outcome
StepShows seen unit mark verb _ = ⊤

-- the same of each line of a unit that has a record: the records are those of the first lines, in their order
abbrev pub LinesShow : Seen → UnitId → (unit : ℕ) → List Line → List LogRow → Type 0
LinesShow seen who unit lines rows = (i : ℕ) (line : Line) (row : LogRow) → slice_get lines i ≡ Some line → slice_get rows i ≡ Some row
    → line.unit ≡ unit → IsShown seen who line.number line.verb row.outcome

-- An entry was put in a session, which count from 1.
pub record IsPut (entry : Entry) (rows : List PipeRow) : Type 0 where
  pub row : PipeRow
  pub there : Contains rows row
  pub entry_is : row.entry ≡ entry
  pub begun : 1 ≤ row.session

-- what there is at a client's pair
abbrev pub seen_at : Pair → Seen
seen_at pair = record {
  stroke_at = λ page stroke. IsOn stroke (strokes_at pair.window.pages page);
  front_at = λ page front. IsFront front (strokes_at pair.window.pages page);
  value_at = λ entry value. Contains ((known_of pair.window).values entry) value;
  entry_put = λ entry. IsPut entry (side_of pair.link true).queue.sent;
}

-- the same, where a page is read with all that it has
abbrev pub seen_now : Pair → Seen
seen_now pair = record {
  stroke_at = λ page stroke. IsOn stroke (strokes_at pair.window.pages page);
  front_at = λ page front. (front ≡ strokes_at pair.window.pages page) × IsSome front;
  value_at = λ entry value. Contains ((known_of pair.window).values entry) value;
  entry_put = λ entry. IsPut entry (side_of pair.link true).queue.sent;
}

-- An entry was put by an end: in the present session of its partner's queue, which is registered where nobody else has a hand in it.
pub record IsPutBy (shared : Bool) (end : EndState) (entry : Entry) : Type 0 where
  pub there : Contains end.sent (record { session = end.counts.partner_session; entry = entry })
  pub partner : shared ≡ false → end.place.partner_registered ≡ true

-- what there is at a client's window and its end, as its driver sees them: a page is read with all that it has
abbrev pub seen_by : (shared : Bool) → PortState → EndState → Seen
seen_by shared port end = record {
  stroke_at = λ page stroke. IsOn stroke (port.strokes page);
  front_at = λ page front. (front ≡ port.strokes page) × IsSome front;
  value_at = λ entry value. Contains (port.values entry) value;
  entry_put = IsPutBy shared end;
}

-- An end put this entry alone: in the present session of its partner's queue, which is registered where nobody else has a hand in it.
pub record PutsOne (shared : Bool) (old new : EndState) (entry : Entry) : Type 0 where
  pub sent : new.sent ≡ old.sent ++ record { session = new.counts.partner_session; entry = entry } ∷ []
  pub partner : shared ≡ false → new.place.partner_registered ≡ true

-- what its driver sees once a step of a line was made: a page is read with all that it has, and of entries there is the one that was put
abbrev pub seen_since : (shared : Bool) → PortState → (old new : EndState) → Seen
seen_since shared port old new = record {
  stroke_at = λ page stroke. IsOn stroke (port.strokes page);
  front_at = λ page front. (front ≡ port.strokes page) × IsSome front;
  value_at = λ entry value. Contains (port.values entry) value;
  entry_put = PutsOne shared old new;
}

-- This entry alone was put at a pair, in a session.
pub record PairPutsOne (old new : Pair) (entry : Entry) : Type 0 where
  pub row : PipeRow
  pub sent : (side_of new.link true).queue.sent ≡ (side_of old.link true).queue.sent ++ row ∷ []
  pub entry_is : row.entry ≡ entry
  pub begun : 1 ≤ row.session

-- what there is at a client's pair once a step of a line was made: a page is read with all that it has
abbrev pub seen_between : (old new : Pair) → Seen
seen_between old new = record {
  stroke_at = λ page stroke. IsOn stroke (strokes_at new.window.pages page);
  front_at = λ page front. (front ≡ strokes_at new.window.pages page) × IsSome front;
  value_at = λ entry value. Contains ((known_of new.window).values entry) value;
  entry_put = PairPutsOne old new;
}

-- a step of a line shows what it says, at the pair where its client sits, and puts one entry where it sends
abbrev pub PairShows : Line → (old new : Pair) → Result Step NoMemory → Type 0
PairShows line old new result = StepShows (seen_between old new) new.window.unit line.number line.verb result

-- All that there was is there still.
pub record Sees (old new : Seen) : Type 0 where
  pub strokes : (page : ℕ) (stroke : StrokeValue) → old.stroke_at page stroke → new.stroke_at page stroke
  pub fronts : (page : ℕ) (front : Option (List StrokeValue)) → old.front_at page front → new.front_at page front
  pub values : (entry value : ℕ) → old.value_at entry value → new.value_at entry value
  pub entries : (entry : Entry) → old.entry_put entry → new.entry_put entry
