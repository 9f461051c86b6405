-- Steps of the disk in their order: what each of them takes an image to, and what all of them make of it together.
use Rattle.std.specs.Prelude.{◌≡◌, ℕ, ◌<◌, Option, Some, IfSome, List, [], ◌∷◌, length, take}
use Rattle.block_disk.specs.Disk.{step, device_calls}
use Rattle.block_disk.specs.declared.reply.ScsiReply.{ScsiReply}

-- a command at a logical unit, the data-out that came with it, what it answered, and the data-in that it gave
pub record DiskStep : Type 0 where
  pub lun : ℕ
  pub cdb : List ℕ
  pub data_out : List ℕ
  pub reply : ScsiReply
  pub given : List ℕ

-- the blocks that a step makes of these
abbrev pub blocks_after : List (List ℕ) → DiskStep → List (List ℕ)
blocks_after before s = (step before s.lun s.cdb s.data_out s.reply.fault).blocks

-- the step takes the blocks before to those after: a device call that failed is one that the command makes, and answer and data
-- are those of the disk step
pub record IsStep (before : List (List ℕ)) (s : DiskStep) (after : List (List ℕ)) : Type 0 where
  pub index : IfSome s.reply.fault (λ call. call < device_calls (length before) s.lun s.cdb (length s.data_out))
  pub reply : s.reply ≡ (step before s.lun s.cdb s.data_out s.reply.fault).reply
  pub given : s.given ≡ (step before s.lun s.cdb s.data_out s.reply.fault).given
  pub blocks : after ≡ blocks_after before s

-- the steps in their order take the blocks before to those after
abbrev pub Applied : List (List ℕ) → List DiskStep → List (List ℕ) → Type 0
Applied before [] after = after ≡ before
Applied before (s ∷ steps) after = (between : List (List ℕ)) × IsStep before s between × Applied between steps after

-- the step was made on an image that tells its blocks before, or not
abbrev pub StepOn : Option (List (List ℕ)) → DiskStep → Option (List (List ℕ)) → Type 0
StepOn before s now = IfSome before (λ all. (now ≡ Some (blocks_after all s)) × IsStep all s (blocks_after all s))

-- the step of a command that answered this, and left this in the buffer for data-in
abbrev pub made_step : ℕ → List ℕ → List ℕ → ScsiReply → List ℕ → DiskStep
made_step lun cdb data_out reply data_in = record { lun = lun; cdb = cdb; data_out = data_out; reply = reply; given = take reply.in_len data_in }
