-- The parts of a frame in its sender's window (LoPAR, "H_SEND_LOGICAL_LAN"): which they are, and what was read of them.
use Rattle.std.specs.Prelude.{◌≡◌, ℕ, ◌+◌, ◌≤◌, Bool, true, All, List, [], ◌∷◌, ◌++◌, Option, Some, None, length, map, take, slice_get, if◌then◌else◌}
use Rattle.tce_window.specs.declared.answers.HoldFault.{HoldFault}
use Rattle.tce_window.specs.declared.answers.Right.TheVariants.{Read}
use Rattle.tce_window.specs.declared.piece.Piece.{Piece}
use Rattle.tce_window.specs.Moved.{stroke_count, IsReadFrom}
use Rattle.tce_window.specs.Pieces.{IsRefused, IsSharedUse}
use Rattle.tce_window.specs.Port.{NamesFound}
use Rattle.tce_window.specs.PortState.{PortState, LaysNone, OnlyHolds}
use Rattle.lan_buffers.specs.Buffer.{is_valid, buffer_len, buffer_address}

-- the descriptors of a frame's parts: those before the first whose valid bit is off
abbrev pub parts_of : List ℕ → List ℕ
parts_of [] = []
parts_of (descriptor ∷ descriptors) =
    if is_valid descriptor then descriptor ∷ parts_of descriptors else []

-- the bytes of a frame of these parts
abbrev pub parts_len : List ℕ → ℕ
parts_len [] = 0
parts_len (part ∷ parts) = buffer_len part + parts_len parts

-- A window that was read through holds nothing, and nothing changed but what is known of it: no stroke was laid.
pub record OnlyReadThrough (is_shared : Bool) (old new : PortState) : Type 0 where
  pub free : new.held_count ≡ 0
  pub rest : OnlyHolds is_shared old new
  pub none : LaysNone is_shared old new

-- Bytes were read from this address on through these pieces, as they stand: at no earlier values and with no fewer
-- strokes than were known.
pub record Reads (old new : PortState) (at : ℕ) (pieces : List Piece) (bytes : List ℕ) : Type 0 where
  pub read : IsReadFrom old.place.unit new.values new.strokes at pieces bytes
  pub all : All (λ piece. stroke_count (old.strokes piece.page) ≤ piece.at) pieces
  pub last : All (λ piece. length (old.values piece.entry) ≤ piece.version + 1) pieces

-- A part was read: its pieces stand behind those before it.
pub record ReadsPart (old new : PortState) (part : ℕ) (before after : List Piece) (bytes : List ℕ) : Type 0 where
  pub pieces : List Piece
  pub added : after ≡ before ++ pieces
  pub reads : Reads old new (buffer_address part) pieces bytes

-- The bytes of the parts were read, one part behind the other.
abbrev pub AreRead : (old new : PortState) → List ℕ → List Piece → List ℕ → Type 0
AreRead old new [] pieces bytes = (pieces ≡ []) × (bytes ≡ [])
AreRead old new (part ∷ parts) pieces bytes =
    (pieces₁ : List Piece) × (pieces₂ : List Piece) × (pieces ≡ pieces₁ ++ pieces₂)
    × (bytes₁ : List ℕ) × (bytes₂ : List ℕ) × (bytes ≡ bytes₁ ++ bytes₂)
    × (length bytes₁ ≡ buffer_len part) × Reads old new (buffer_address part) pieces₁ bytes₁
    × AreRead old new parts pieces₂ bytes₂

-- A range was refused for reading, for this fault: a page in use is one that the port found so, by that word of it, and
-- only where others have a hand in the window.
pub record RefusesRead (is_shared : Bool) (Found : ℕ → ℕ → Type 0) (old new : PortState) (at len : ℕ) (fault : HoldFault) : Type 0 where
  pub some : 1 ≤ len
  pub cause : IsRefused new.values Read old.place.size at len fault
  pub shared : IsSharedUse is_shared fault
  pub found : NamesFound Found fault

-- The first part that could not be read was refused: those before it were read.
pub record RefusesPart (is_shared : Bool) (Found : ℕ → ℕ → Type 0) (old new : PortState) (parts : List ℕ) (fault : HoldFault) : Type 0 where
  pub number : ℕ
  pub part : ℕ
  pub is : slice_get parts number ≡ Some part
  pub refused : RefusesRead is_shared Found old new (buffer_address part) (buffer_len part) fault
  pub pieces : List Piece
  pub bytes : List ℕ
  pub before : AreRead old new (take number parts) pieces bytes
