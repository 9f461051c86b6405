-- What contracts see of a client.
use Rattle.std.specs.Prelude.{◌≡◌, ◌⊎◌, ◌==◌, ◌||◌, Bool, true, false, ℕ, ◌+◌, ◌≤◌, ◌<◌, List, [], Option, Some, None, All, IfSome, map, length, ⊤}
use Rattle.std.specs.Option.{option_map}
use Rattle.std.specs.List.{list_any}
use Rattle.vio_num.specs.declared.names.UnitId.{UnitId}
use Rattle.vio_num.specs.declared.entry.Entry.{Entry}
use Rattle.crq_session.specs.declared.handshake.Handshake.{Handshake}
use Rattle.crq_session.specs.declared.handshake.Handshake.TheVariants.{Down}
use Rattle.srp_credits.specs.Initiator.{InitiatorCredits}
use Rattle.vscsi_client.specs.declared.TheConstants.{SLOTS}
use Rattle.vscsi_client.specs.declared.outgoing.Outgoing.{Outgoing}
use Rattle.vscsi_client.specs.declared.stage.Stage.{Stage}
use Rattle.vscsi_client.specs.declared.stage.Stage.TheVariants.{Idle, Written, Sent}
use Rattle.vscsi_client.specs.declared.stage.Due.{Due}
use Rattle.vscsi_client.specs.declared.row.Row.{Row}
use Rattle.vscsi_client.specs.declared.table.Table.{Table}

pub record ClientState : Type 0 where
  -- the client's unit, and the server's
  pub id : UnitId
  pub server : UnitId
  -- how far the initialisation of the own queue has come
  pub handshake : Handshake
  -- the requests that the login which is on grants, of which 200 count; None where none is on
  pub granted : Option ℕ
  -- the commands and tasks that are outstanding, the oldest first
  pub outgoing : List Outgoing
  -- the login that is under way
  pub login : Stage
  -- the slot of a logout, which is in use until the next login
  pub logout : Option ℕ
  -- the table that was written for a command whose unit met a page in use
  pub tabled : Option Table
  -- what is to be put, in its order
  pub due : List Due
  -- the answers that a login found, in their order
  pub kept : List Entry
  -- the entry of a login's answer whose page was in use
  pub held : Option Entry
  -- what each tag was used for, from tag 1 on
  pub rows : List Row

-- the next tag
abbrev pub next_tag : ClientState → ℕ
next_tag s = length s.rows + 1

abbrev pub tags_of : List Outgoing → List ℕ
tags_of outgoing = map (λ (o : Outgoing). o.tag) outgoing

-- whether a request that is outstanding has this slot
abbrev pub is_asked : List Outgoing → ℕ → Bool
is_asked outgoing slot = list_any (λ (o : Outgoing). o.slot == slot) outgoing

-- whether a login that is under way has it
abbrev pub stage_uses : Stage → ℕ → Bool
stage_uses (Written tag own) slot = own == slot
stage_uses (Sent tag own) slot = own == slot
stage_uses Idle slot = false

-- whether this is the slot, where there is one
abbrev pub is_slot : Option ℕ → ℕ → Bool
is_slot None slot = false
is_slot (Some own) slot = own == slot

-- whether the unit in this slot may be unread, or its answer is awaited
abbrev pub is_used : ClientState → ℕ → Bool
is_used s slot = is_asked s.outgoing slot || (stage_uses s.login slot || is_slot s.logout slot)

-- each of the slots is used
abbrev pub IsFull : (used : ℕ → Bool) → Type 0
IsFull used = (j : ℕ) → j < SLOTS → used j ≡ true

-- the least slot that is not used
pub record IsLeastFree (used : ℕ → Bool) (slot : ℕ) : Type 0 where
  pub within : slot < SLOTS
  pub least : (j : ℕ) → j < slot → used j ≡ true
  pub free : used slot ≡ false

-- the slot of a login that is under way, where no slot is free
pub record IsTheLogins (used : ℕ → Bool) (outgoing : List Outgoing) (login : Stage) (slot : ℕ) : Type 0 where
  pub within : slot < SLOTS
  pub all : IsFull used
  pub its : stage_uses login slot ≡ true
  pub free : is_asked outgoing slot ≡ false

-- the slot of the next request, and of a login, which finds another place where no slot is free
abbrev pub IsNextSlot : ClientState → ℕ → Type 0
IsNextSlot s slot = IsLeastFree (is_used s) slot ⊎ IsTheLogins (is_used s) s.outgoing s.login slot

abbrev pub IsLoginSlot : ClientState → ℕ → Type 0
IsLoginSlot s slot = IsLeastFree (is_used s) slot ⊎ (IsFull (is_used s) × (slot ≡ SLOTS))

-- what a login grants, by the limit and what is outstanding
abbrev pub granted_of : InitiatorCredits → Option ℕ
granted_of credits = option_map (λ n. n + length credits.tags) credits.limit

-- the requests that are outstanding are those of the credits; each has a tag that was used, and a slot
pub record AreOutstanding (credits : InitiatorCredits) (outgoing : List Outgoing) (rows : List Row) : Type 0 where
  pub tags : credits.tags ≡ tags_of outgoing
  pub used : All (λ tag. (1 ≤ tag) × (tag ≤ length rows)) credits.tags
  pub slots : All (λ (o : Outgoing). o.slot < SLOTS) outgoing

-- a login has one of the slots, or the place behind them
abbrev pub IsStageWithin : Stage → Type 0
IsStageWithin (Written tag slot) = slot ≤ SLOTS
IsStageWithin (Sent tag slot) = slot ≤ SLOTS
IsStageWithin Idle = ⊤

-- a logout has a slot only where no login is on
abbrev pub IsLogoutOver : InitiatorCredits → Option ℕ → Type 0
IsLogoutOver credits logout = IfSome credits.limit (λ _. logout ≡ None)

-- what is so of each client
pub record IsWhole (credits : InitiatorCredits) (outgoing : List Outgoing) (rows : List Row) (login : Stage) (logout : Option ℕ) : Type 0 where
  pub requests : AreOutstanding credits outgoing rows
  pub stage : IsStageWithin login
  pub over : IsLogoutOver credits logout

-- no more is outstanding than is granted
abbrev pub IsWithinGrant : ClientState → Type 0
IsWithinGrant s = IfSome s.granted (λ granted. length s.outgoing ≤ granted)

-- a client that has sent nothing, whose own queue is not registered
abbrev pub new_client : (id server : UnitId) → ClientState
new_client id server = record {
  id = id;
  server = server;
  handshake = Down;
  granted = None;
  outgoing = [];
  login = Idle;
  logout = None;
  tabled = None;
  due = [];
  kept = [];
  held = None;
  rows = [];
}
