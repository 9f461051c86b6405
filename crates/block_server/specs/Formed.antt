-- What a row of a history is whatever the image tells of its blocks: its answer says what a disk of so many blocks answers, and its data-in are
-- no more than that hands over (SRP, "SRP_RSP response"; SPC, SBC).
use Rattle.std.specs.Prelude.{◌≡◌, ◌⊎◌, ◌≤◌, ℕ, Bool, [], None, length}
use Rattle.vio_num.specs.declared.history.Served.{Served}
use Rattle.block_disk.specs.Disk.{reply_to}
use Rattle.srp_iu.specs.Grammar.{Spells}
use Rattle.srp_iu.specs.declared.command.Cmd.{Cmd}
use Rattle.srp_iu.specs.declared.response_code.ResponseCode.{ResponseCode}
use Rattle.srp_iu.specs.declared.response_code.ResponseCode.TheVariants.{FieldsInvalid}
use Rattle.srp_iu.specs.declared.task.TskMgmt.{TskMgmt}
use Rattle.srp_iu.specs.declared.unit.Iu.{Iu}
use Rattle.srp_iu.specs.declared.unit.Iu.TheVariants as units
use Rattle.block_disk.specs.declared.reply.ScsiReply.{ScsiReply}
use Rattle.block_server.specs.Causes.{Told, TurnsDown, told_to}
use Rattle.block_server.specs.DiskLaw.{AnswersStep, HasData, SaysCode, handed_over}
use Rattle.block_server.specs.Responses.{task_code}

-- The row is of a command whose disk step was made, on a disk of so many blocks: its answer, if it has one, is that of the step.
pub record IsStepFormed (size : ℕ) (told : Told → Bool) (row : Served) : Type 0 where
  pub command : Cmd
  pub spells : Spells row.iu (units.Cmd command)
  pub brought : HasData (told_to told row.unit) command row.out
  pub reply : ScsiReply
  pub reply_is : reply ≡ reply_to size command.lun command.cdb (length row.out) row.fault
  pub few : length row.inn ≤ handed_over command reply
  pub answer : AnswersStep told command reply row

-- No disk step was made for it, and its answer, if it has one, says this code.
pub record IsCodeFormed (code : ResponseCode) (row : Served) : Type 0 where
  pub out : row.out ≡ []
  pub inn : row.inn ≡ []
  pub fault : row.fault ≡ None
  pub answer : SaysCode code row

-- The same of a command that was refused before its step, of a task management request, and of bytes that are no information unit.
pub record IsRefusalFormed (told : Told → Bool) (row : Served) : Type 0 where
  pub command : Cmd
  pub spells : Spells row.iu (units.Cmd command)
  pub cause : TurnsDown (told_to told row.unit) command
  pub none : IsCodeFormed FieldsInvalid row

pub record IsTaskFormed (row : Served) : Type 0 where
  pub task : TskMgmt
  pub spells : Spells row.iu (units.TskMgmt task)
  pub none : IsCodeFormed (task_code task) row

pub record IsUnreadFormed (row : Served) : Type 0 where
  pub unread : (iu : Iu) → ¬ Spells row.iu iu
  pub none : IsCodeFormed FieldsInvalid row

-- So is a row, by what its unit was told.
abbrev pub IsFormed : (size : ℕ) → (told : Told → Bool) → Served → Type 0
IsFormed size told row = IsStepFormed size told row ⊎ (IsRefusalFormed told row ⊎ (IsTaskFormed row ⊎ IsUnreadFormed row))
