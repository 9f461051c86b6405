-- The first lines of rows that have lines below: the numbers of these stand in place of the lists.
use Rattle.std.specs.Prelude.{ℕ, List, [], ◌∷◌, codes, decimal}
use Rattle.hex.specs.Hex.{IsBytes}
use Rattle.vio_trace.specs.declared.read_heads.QueueHead.{QueueHead}
use Rattle.vio_trace.specs.declared.read_heads.FrameHead.{FrameHead}
use Rattle.vio_trace.specs.declared.read_heads.DeliverHead.{DeliverHead}
use Rattle.vio_trace.specs.declared.read_heads.CopyHead.{CopyHead}
use Rattle.vio_trace.specs.Form.{IsHalf, IsName, IsWord}
use Rattle.vio_trace.specs.Text.{bytes, code, filled, line, name}

-- the words of queue, as of its row
abbrev pub queue_head : QueueHead → List ℕ
queue_head head = line (codes "queue" ∷ name head.unit ∷ decimal head.session ∷ decimal head.slots ∷ decimal head.sent ∷ decimal head.taken ∷ decimal head.drops ∷ [])

pub record IsQueueHead (head : QueueHead) : Type 0 where
  pub unit : IsName head.unit
  pub session : IsWord head.session
  pub slots : IsHalf head.slots
  pub sent : IsWord head.sent
  pub taken : IsWord head.taken
  pub drops : IsWord head.drops

-- the words of frame, as of its row
abbrev pub frame_head : FrameHead → List ℕ
frame_head head = line (codes "frame" ∷ name head.unit ∷ decimal head.number ∷ code head.code ∷ decimal head.from ∷ bytes head.bytes ∷ [])

pub record IsFrameHead (head : FrameHead) : Type 0 where
  pub unit : IsName head.unit
  pub number : IsWord head.number
  pub from : IsWord head.from
  pub bytes : IsBytes head.bytes

-- the words of deliver, as of its row
abbrev pub deliver_head : DeliverHead → List ℕ
deliver_head head = line (codes "deliver" ∷ name head.unit ∷ decimal head.session ∷ decimal head.post ∷ name head.sender ∷ decimal head.frame ∷ filled head.filled ∷ decimal head.to ∷ [])

pub record IsDeliverHead (head : DeliverHead) : Type 0 where
  pub unit : IsName head.unit
  pub session : IsWord head.session
  pub post : IsWord head.post
  pub sender : IsName head.sender
  pub frame : IsWord head.frame
  pub to : IsWord head.to

-- the words of copy, as of its row
abbrev pub copy_head : CopyHead → List ℕ
copy_head head = line (codes "copy" ∷ name head.unit ∷ decimal head.mark ∷ decimal head.len ∷ decimal head.from ∷ decimal head.to ∷ [])

pub record IsCopyHead (head : CopyHead) : Type 0 where
  pub unit : IsName head.unit
  pub mark : IsWord head.mark
  pub len : IsHalf head.len
  pub from : IsWord head.from
  pub to : IsWord head.to
