-- The disk law: the rows of a history, in their order, take an image's blocks from what they were to what they are, each as
-- its row law says (SRP, "SRP_RSP response"; SPC, SBC).
use Rattle.std.specs.Prelude.{◌≡◌, ◌⊎◌, ◌<◌, ◌≤◌, ℕ, Bool, List, [], ◌∷◌, Option, None, IfSome, length, min, take}
use Rattle.vio_num.specs.declared.history.Served.{Served}
use Rattle.srp_iu.specs.declared.unit.Iu.{Iu}
use Rattle.srp_iu.specs.declared.unit.Iu.TheVariants as units
use Rattle.srp_iu.specs.declared.buffer.Desc.{Desc}
use Rattle.srp_iu.specs.declared.command.Cmd.{Cmd}
use Rattle.srp_iu.specs.declared.task.TskMgmt.{TskMgmt}
use Rattle.srp_iu.specs.declared.response_code.ResponseCode.{ResponseCode}
use Rattle.srp_iu.specs.declared.response_code.ResponseCode.TheVariants.{FieldsInvalid}
use Rattle.srp_iu.specs.Grammar.{Spells}
use Rattle.srp_iu.specs.Layout.{field}
use Rattle.srp_desc.specs.Pieces.{sum_of, total_of}
use Rattle.block_disk.specs.Steps.{DiskStep, IsStep}
use Rattle.block_disk.specs.declared.reply.ScsiReply.{ScsiReply}
use Rattle.block_server.specs.Causes.{Hearing, IsNamed, RefusesIn, Told, TurnsDown, anything, told_to}
use Rattle.block_server.specs.Responses.{Answers, HasCode, HasStatus, task_code}

-- The descriptors of a command name pieces, and the data-out are all that theirs name.
pub record HasData (Hears : Hearing) (command : Cmd) (out : List ℕ) : Type 0 where
  pub outs : List Desc
  pub inns : List Desc
  pub out_named : IsNamed Hears command.out outs
  pub in_named : IsNamed Hears command.inn inns
  pub all_out : length out ≡ sum_of outs

-- as many data-in as a step's answer gives and the command's buffer takes
abbrev pub handed_over : Cmd → ScsiReply → ℕ
handed_over command reply = min reply.in_len (total_of command.inn)

-- The answer says a response code, with the request's tag.
abbrev pub SaysCode : ResponseCode → Served → Type 0
SaysCode code row = Answers row.answer (HasCode (field 8 8 row.iu) code)

-- All data-in were handed over, and the answer says the step's status, sense data and residuals.
pub record SaysStatus (command : Cmd) (reply : ScsiReply) (row : Served) : Type 0 where
  pub all_in : length row.inn ≡ handed_over command reply
  pub answer : Answers row.answer (HasStatus (field 8 8 row.iu) (total_of command.out) (total_of command.inn) reply)

-- There were data-in, and the client's window told the unit that it refuses a copy of them: no device call failed, and the
-- answer says that fields are invalid.
pub record IsCutShort (told : Told → Bool) (command : Cmd) (reply : ScsiReply) (row : Served) : Type 0 where
  pub cause : RefusesIn (told_to told row.unit) command
  pub some : 0 < handed_over command reply
  pub no_fault : row.fault ≡ None
  pub answer : SaysCode FieldsInvalid row

-- what the answer to a command says whose disk step was made; a row whose answer's entry was not put has none
abbrev pub AnswersStep : (Told → Bool) → Cmd → ScsiReply → Served → Type 0
AnswersStep told command reply row = (row.answer ≡ []) ⊎ (SaysStatus command reply row ⊎ IsCutShort told command reply row)

-- the disk step of a row's command
abbrev pub step_of : Cmd → Served → ScsiReply → List ℕ → DiskStep
step_of command row reply given = record { lun = command.lun; cdb = command.cdb; data_out = row.out; reply = reply; given = given }

-- The row is of a command whose disk step was made: its data-in are the first of those that the step gave.
pub record IsStepped (told : Told → Bool) (before : List (List ℕ)) (row : Served) (after : List (List ℕ)) : Type 0 where
  pub command : Cmd
  pub spells : Spells row.iu (units.Cmd command)
  pub brought : HasData (told_to told row.unit) command row.out
  pub reply : ScsiReply
  pub given : List ℕ
  pub step : IsStep before (step_of command row reply given) after
  pub fault : reply.fault ≡ row.fault
  pub inn : row.inn ≡ take (length row.inn) given
  pub few : length row.inn ≤ handed_over command reply
  pub answer : AnswersStep told command reply row

-- No disk step was made for the row, and its answer, if it has one, says this code.
pub record HasNoStep (code : ResponseCode) (before : List (List ℕ)) (row : Served) (after : List (List ℕ)) : Type 0 where
  pub same : after ≡ before
  pub out : row.out ≡ []
  pub inn : row.inn ≡ []
  pub fault : row.fault ≡ None
  pub answer : SaysCode code row

-- The row is of a command that was refused before its disk step: its descriptors were, or the client's window told the unit
-- that it refuses a copy of a table or of data-out.
pub record IsOfRefusedCommand (told : Told → Bool) (before : List (List ℕ)) (row : Served) (after : List (List ℕ)) : Type 0 where
  pub command : Cmd
  pub spells : Spells row.iu (units.Cmd command)
  pub cause : TurnsDown (told_to told row.unit) command
  pub none : HasNoStep FieldsInvalid before row after

-- The row is of a task management request, or of bytes that are no information unit.
pub record IsOfTask (before : List (List ℕ)) (row : Served) (after : List (List ℕ)) : Type 0 where
  pub task : TskMgmt
  pub spells : Spells row.iu (units.TskMgmt task)
  pub none : HasNoStep (task_code task) before row after

pub record IsUnread (before : List (List ℕ)) (row : Served) (after : List (List ℕ)) : Type 0 where
  pub unread : (iu : Iu) → ¬ Spells row.iu iu
  pub none : HasNoStep FieldsInvalid before row after

-- The row law: what a row says belongs to what its bytes spell, to what the disk did, and to what the unit was told.
abbrev pub ServesRowBy : (told : Told → Bool) → (before : List (List ℕ)) → Served → (after : List (List ℕ)) → Type 0
ServesRowBy told before row after =
    IsStepped told before row after ⊎ (IsOfRefusedCommand told before row after ⊎ (IsOfTask before row after ⊎ IsUnread before row after))

-- The rows in their order take the blocks before to those after.
abbrev pub ServeBy : (told : Told → Bool) → (before : List (List ℕ)) → List Served → (after : List (List ℕ)) → Type 0
ServeBy told before [] after = after ≡ before
ServeBy told before (row ∷ rows) after = (between : List (List ℕ)) × ServesRowBy told before row between × ServeBy told between rows after

-- Where the rows took some blocks to those of now, the rows of later take them to those of later.
abbrev pub KeepsDiskBy : (told : Told → Bool) → (rows rows' : List Served) → (now now' : Option (List (List ℕ))) → Type 0
KeepsDiskBy told rows rows' now now' =
    (before : List (List ℕ)) → IfSome now (λ all. ServeBy told before rows all) → IfSome now' (λ all. ServeBy told before rows' all)

-- the same, whatever the units were told
abbrev pub ServesRow : (before : List (List ℕ)) → Served → (after : List (List ℕ)) → Type 0
ServesRow before row after = ServesRowBy anything before row after

abbrev pub Serve : (before : List (List ℕ)) → List Served → (after : List (List ℕ)) → Type 0
Serve before rows after = ServeBy anything before rows after

abbrev pub KeepsDisk : (rows rows' : List Served) → (now now' : Option (List (List ℕ))) → Type 0
KeepsDisk rows rows' now now' = KeepsDiskBy anything rows rows' now now'
