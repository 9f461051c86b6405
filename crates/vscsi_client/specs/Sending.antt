-- When a command, a task or a logout is sent, and what that leaves.
use Rattle.std.specs.Prelude.{◌≡◌, ◌⊎◌, ℕ, ◌&&◌, ◌==◌, nat_le, Bool, false, List, [], ◌∷◌, ◌++◌, Option, Some, None, length, if◌then◌else◌}
use Rattle.std.specs.Option.{option_map}
use Rattle.srp_iu.specs.declared.command.Cmd.{Cmd as Command}
use Rattle.srp_iu.specs.declared.unit.Iu.{Iu}
use Rattle.srp_iu.specs.declared.unit.Iu.TheVariants as units
use Rattle.srp_iu.specs.Grammar.{Canon}
use Rattle.crq_session.specs.EndState.{OnlyReserves}
use Rattle.crq_session.specs.Answered.{SendsNone}
use Rattle.vscsi_client.specs.declared.answers.Refused.{Refused}
use Rattle.vscsi_client.specs.declared.answers.Refused.TheVariants.{Range, NotLoggedIn, NoCredit, Overlap, Closed, Dropped, NoMemory}
use Rattle.vscsi_client.specs.declared.outgoing.Outgoing.{Outgoing}
use Rattle.vscsi_client.specs.declared.row.Row.TheVariants as rows
use Rattle.vscsi_client.specs.declared.table.Table.{Table}
use Rattle.vscsi_client.specs.declared.op.Op.{Op}
use Rattle.vscsi_client.specs.Spans.{op_in_range, data_span, table_span, no_pages, first_sharing}
use Rattle.vscsi_client.specs.State.{ClientState, IsNextSlot, next_tag}
use Rattle.vscsi_client.specs.Units.{IsCommand, table_bytes, task_request}
use Rattle.vscsi_client.specs.Ports.{Ports, Write, LaysAll, WhyNotWritten, UnitPut, WhyNotPut, DoesNothing, MakesRoom}

-- a request under these credits, with so many outstanding: not without a login, nor without a credit, nor over
-- the pages of another
abbrev pub refused_by : (granted : Option ℕ) → (outstanding : ℕ) → (overlap : Option ℕ) → Option Refused
refused_by None outstanding overlap = Some NotLoggedIn
refused_by (Some granted) outstanding overlap =
    if nat_le granted outstanding then Some (NoCredit 0) else option_map Overlap overlap

-- why a command is refused before anything is written; None where it is not
abbrev pub command_refusal : (pages : ℕ) → ClientState → Op → Option Refused
command_refusal pages s op =
    if op_in_range pages op then refused_by s.granted (length s.outgoing) (first_sharing op s.outgoing)
    else Some Range

-- the same of a task
abbrev pub task_refusal : ClientState → Option Refused
task_refusal s = refused_by s.granted (length s.outgoing) None

-- the same of a logout, which wants nothing outstanding
abbrev pub waits_for : List Outgoing → Option Refused
waits_for [] = None
waits_for (oldest ∷ others) = Some (Overlap oldest.tag)

abbrev pub logout_refused_by : (granted : Option ℕ) → List Outgoing → Option Refused
logout_refused_by None outgoing = Some NotLoggedIn
logout_refused_by (Some granted) outgoing = waits_for outgoing

abbrev pub logout_refusal : ClientState → Option Refused
logout_refusal s = logout_refused_by s.granted s.outgoing

-- the table that is to lie in the region for a command
abbrev pub table_of : (line : ℕ) → Op → (address : ℕ) → Table
table_of line op address = record { address = address; at = op.at; len = op.len; pieces = op.pieces; line = line }

-- whether it is the one that was written last
abbrev pub is_same_table : Table → Table → Bool
is_same_table a b =
    (a.address == b.address) && ((a.at == b.at) && ((a.len == b.len) && ((a.pieces == b.pieces) && (a.line == b.line))))

abbrev pub is_tabled : Option Table → Table → Bool
is_tabled None table = false
is_tabled (Some written) table = is_same_table written table

-- what is written for a command before its unit: its table, unless that lies there from a try before
abbrev pub table_writes_at : (line : ℕ) → Op → Option Table → Option ℕ → List Write
table_writes_at line op tabled None = []
table_writes_at line op tabled (Some address) =
    if is_tabled tabled (table_of line op address) then [] else record { at = address; bytes = table_bytes op op.pieces } ∷ []

abbrev pub table_writes : (line : ℕ) → Op → ClientState → List Write
table_writes line op s = table_writes_at line op s.tabled op.table

-- the table that lies there then
abbrev pub tabled_by : (line : ℕ) → Op → Option ℕ → Option Table → Option Table
tabled_by line op None tabled = tabled
tabled_by line op (Some address) tabled = Some (table_of line op address)

-- the unit's canonical bytes lie in the slot that is next, and its entry was put
abbrev pub IsReady : ClientState → Iu → (slot : ℕ) → (bytes : List ℕ) → Type 0
IsReady s iu slot bytes = Canon bytes iu × IsNextSlot s slot

abbrev pub PutsUnit : (line : ℕ) → ClientState → Iu → Ports → Ports → (slot : ℕ) → Type 0
PutsUnit line s iu old new slot = (bytes : List ℕ) × IsReady s iu slot bytes × UnitPut line slot bytes old new

-- it was not
abbrev pub PutsNoUnit : (line : ℕ) → ClientState → Iu → Ports → Ports → Refused → Type 0
PutsNoUnit line s iu old new why = (slot : ℕ) × (bytes : List ℕ) × IsReady s iu slot bytes × WhyNotPut line slot bytes old new why

-- room was made, and the command's table lies in the region
pub record TableReady (line : ℕ) (op : Op) (s : ClientState) (old new : Ports) : Type 0 where
  pub crq_shared : new.crq_shared ≡ old.crq_shared
  pub own_shared : new.own_shared ≡ old.own_shared
  pub crq : OnlyReserves old.crq new.crq
  pub own : LaysAll old.own_shared line (table_writes line op s) old.own new.own

-- the client once a command was sent from this slot
abbrev pub request_of : Op → (tag slot : ℕ) → Outgoing
request_of op tag slot = record { tag = tag; slot = slot; pages = data_span op; table = table_span op }

abbrev pub with_command : Op → (slot : ℕ) → ClientState → ClientState
with_command op slot s = record s {
  outgoing = s.outgoing ++ request_of op (next_tag s) slot ∷ [];
  rows = s.rows ++ rows.Command op.dir op.at op.len None ∷ [];
  tabled = None;
}

-- The command was sent: its table lies in the region, its unit in the slot, and its entry was put.
pub record Submitted (line : ℕ) (op : Op) (s s' : ClientState) (old new : Ports) (tag : ℕ) : Type 0 where
  pub allowed : command_refusal old.own.place.size s op ≡ None
  pub tag_is : tag ≡ next_tag s
  pub command : Command
  pub is_command : IsCommand (next_tag s) op command
  pub before : Ports
  pub ready : TableReady line op s old before
  pub slot : ℕ
  pub put : PutsUnit line s (units.Cmd command) before new slot
  pub client : s' ≡ with_command op slot s

-- The table was not written, since a page was in use or memory ran out, and nothing else was done.
pub record NotTabled (line : ℕ) (op : Op) (s s' : ClientState) (old new : Ports) (why : Refused) : Type 0 where
  pub why_not : WhyNotWritten old.own_shared (table_writes line op s) old.own new.own why
  pub sent : SendsNone old.crq new.crq
  pub client : s' ≡ s

-- a table is remembered after a page in use or want of memory, and no more after a closed queue or a full slot
abbrev pub tabled_after : Refused → Option Table → Option Table
tabled_after (Closed control) tabled = None
tabled_after (Dropped number held) tabled = None
tabled_after why tabled = tabled

-- The table lies in the region, but the unit's entry was not put.
pub record UnitNotPut (line : ℕ) (op : Op) (s s' : ClientState) (old new : Ports) (why : Refused) : Type 0 where
  pub command : Command
  pub is_command : IsCommand (next_tag s) op command
  pub before : Ports
  pub ready : TableReady line op s old before
  pub why_not : PutsNoUnit line s (units.Cmd command) before new why
  pub client : s' ≡ record s { tabled = tabled_after why (tabled_by line op op.table s.tabled) }

-- why a command that nothing speaks against was not sent
abbrev pub WhyNotSubmitted : (line : ℕ) → Op → ClientState → ClientState → Ports → Ports → Refused → Type 0
WhyNotSubmitted line op s s' old new why = NotTabled line op s s' old new why ⊎ UnitNotPut line op s s' old new why

-- A request without data was sent, or was not though nothing speaks against it.
pub record Put (line : ℕ) (s : ClientState) (iu : Iu) (slot : ℕ) (old new : Ports) : Type 0 where
  pub before : Ports
  pub ready : MakesRoom old before
  pub put : PutsUnit line s iu before new slot

pub record NotPut (line : ℕ) (s : ClientState) (iu : Iu) (old new : Ports) (why : Refused) : Type 0 where
  pub before : Ports
  pub ready : MakesRoom old before
  pub why_not : PutsNoUnit line s iu before new why

abbrev pub WhyNotSent : (line : ℕ) → ClientState → Iu → Ports → Ports → Refused → Type 0
WhyNotSent line s iu old new why = ((why ≡ NoMemory) × DoesNothing old new) ⊎ NotPut line s iu old new why

-- The task was sent.
abbrev pub task_unit : (function task : ℕ) → ClientState → Iu
task_unit function task s = units.TskMgmt (task_request function task (next_tag s))

abbrev pub task_of : (tag slot : ℕ) → Outgoing
task_of tag slot = record { tag = tag; slot = slot; pages = no_pages; table = no_pages }

abbrev pub with_task : (slot : ℕ) → ClientState → ClientState
with_task slot s = record s {
  outgoing = s.outgoing ++ task_of (next_tag s) slot ∷ [];
  rows = s.rows ++ rows.Task ∷ [];
}

pub record Tasked (line function task : ℕ) (s s' : ClientState) (old new : Ports) (tag : ℕ) : Type 0 where
  pub allowed : task_refusal s ≡ None
  pub tag_is : tag ≡ next_tag s
  pub slot : ℕ
  pub put : Put line s (task_unit function task s) slot old new
  pub client : s' ≡ with_task slot s

-- The logout was sent: no login is on any more.
abbrev pub logout_unit : ClientState → Iu
logout_unit s = units.ILogout (next_tag s)

abbrev pub with_logout : (slot : ℕ) → ClientState → ClientState
with_logout slot s = record s { granted = None; logout = Some slot; rows = s.rows ++ rows.Logout ∷ [] }

pub record LoggedOut (line : ℕ) (s s' : ClientState) (old new : Ports) (tag : ℕ) : Type 0 where
  pub allowed : logout_refusal s ≡ None
  pub tag_is : tag ≡ next_tag s
  pub slot : ℕ
  pub put : Put line s (logout_unit s) slot old new
  pub client : s' ≡ with_logout slot s
