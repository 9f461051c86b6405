-- What a step of a line says of the frames that its unit sent.
use Rattle.std.specs.Prelude.{◌≡◌, ℕ, [], ◌∷◌, ◌++◌, Option, Some, None, if◌then◌else◌}
use Rattle.vio_num.specs.declared.names.UnitId.{UnitId}
use Rattle.vio_num.specs.declared.hypervisor.Hrc.{Hrc}
use Rattle.vio_trace.specs.declared.lan_rows.FrameRow.{FrameRow}
use Rattle.vio_trace.specs.declared.outcome.Outcome.TheVariants as outcomes
use Rattle.lan_script.specs.declared.lines.PortStep.{PortStep}
use Rattle.lan_script.specs.declared.lines.PortStep.TheVariants as steps
use Rattle.lan_switch.specs.declared.answers.SendRecord.{SendRecord}
use Rattle.lan_switch.specs.Switch.{same_unit}
use Rattle.lan_script.specs.Frames.{frame_row_of}
use Rattle.lan_script.specs.Invariant.{sent_by, with_frame}
use Rattle.lan_script.specs.Targets.{OffersAll}
use Rattle.lan_script.specs.Units.{LanValue}

-- This row of the unit was kept, and no other: the frames of each unit are those of before, and the sender's one more.
pub record AddsFrame (unit : UnitId) (row : FrameRow) (old new : LanValue) : Type 0 where
  pub frames : new.frames ≡ with_frame unit row old.seats old.frames
  pub sent : (sender : UnitId) → sent_by old.seats new.frames sender ≡ sent_by old.seats old.frames sender ++ (if same_unit unit sender then row ∷ [] else [])

-- the row of a record was kept, if it has a number
abbrev pub KeepsFrame : UnitId → SendRecord → Option ℕ → (old new : LanValue) → Type 0
KeepsFrame unit made None old new = new.frames ≡ old.frames
KeepsFrame unit made (Some number) old new = AddsFrame unit (frame_row_of unit number made) old new

-- The unit sent a frame of this code and number, and no other frame was sent: the frames of each unit are those of before, and
-- the sender's one more. It was offered to the ports as these stood before.
pub record SendsOne (unit : UnitId) (code : Hrc) (number : ℕ) (old new : LanValue) : Type 0 where
  pub row : FrameRow
  pub code_is : row.code ≡ code
  pub number_is : row.number ≡ number
  pub frames : new.frames ≡ with_frame unit row old.seats old.frames
  pub sent : (sender : UnitId) → sent_by old.seats new.frames sender ≡ sent_by old.seats old.frames sender ++ (if same_unit unit sender then row ∷ [] else [])
  pub offers : OffersAll unit old new row

-- a call that gave a frame this number, if any, sent that frame
abbrev pub SentAs : UnitId → Hrc → Option ℕ → (old new : LanValue) → Type 0
SentAs unit code None old new = new.frames ≡ old.frames
SentAs unit code (Some number) old new = SendsOne unit code number old new

-- a step that ends its line with a frame sent that frame, and no other step sent one
abbrev pub SendsAs : UnitId → PortStep → (old new : LanValue) → Type 0
SendsAs unit (steps.Ends (outcomes.Frame code number)) old new = SendsOne unit code number old new
SendsAs unit _ old new = new.frames ≡ old.frames

-- the step tells of no frame
abbrev pub TellsNoFrame : PortStep → Type 0
TellsNoFrame (steps.Ends (outcomes.Frame code number)) = ⊥
TellsNoFrame _ = Unit {0}

-- a step that says what a call answered tells of its frame, or of none
abbrev pub SaysSent : Hrc → Option ℕ → PortStep → Type 0
SaysSent code None step = TellsNoFrame step
SaysSent code (Some number) step = step ≡ steps.Ends (outcomes.Frame code number)
