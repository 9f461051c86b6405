-- What contracts see of the real outside: a reader, a writer and a file, and how many of the calls on them failed.
use Rattle.std.specs.Prelude.{◌≡◌, ℕ, ◌+◌, ◌-◌, ◌/◌, ◌^◌, ◌≤◌, nat_le, if◌then◌else◌, Bool, true, Option, None, Some, IfSome, option_map, option_and_then, List, ◌++◌, length, take, drop}
use Rattle.vio_io.specs.Image.{ImageState}
use Rattle.vio_io.specs.declared.device_calls.DeviceCalls.{DeviceCalls}

-- a source over a reader
pub record ReaderSource (R : Type 0) : Type 0 where
  pub reader : R
  pub faults : ℕ

-- a sink over a writer, which may hold bytes at its end whose flush failed: these were not taken
pub record WriterSink (W : Type 0) : Type 0 where
  pub writer : W
  pub unflushed : ℕ
  pub faults : ℕ

-- what a sink took: what its writer holds, but for the bytes that were not flushed
abbrev pub taken_of : Option (List ℕ) → ℕ → Option (List ℕ)
taken_of contents unflushed = option_map (λ all. take (length all - unflushed) all) contents

-- the bytes of a file, of which those from this place on are others
abbrev pub with_bytes : ℕ → List ℕ → List ℕ → List ℕ
with_bytes at piece all = take at all ++ piece ++ drop (at + length piece) all

-- a read at a place gave these bytes, where the file tells its bytes
abbrev pub ReadsAt : Option (List ℕ) → ℕ → List ℕ → Type 0
ReadsAt bytes at read = IfSome bytes (λ all. read ≡ take (length read) (drop at all))

-- a write at a place that the file has put these bytes there, and changed no other
abbrev pub WritesAt : ℕ → List ℕ → Option (List ℕ) → Option (List ℕ) → Type 0
WritesAt at piece before now = IfSome before (λ all. at ≤ length all → now ≡ Some (with_bytes at piece all))

-- where the first `done` bytes of the piece stood at a place, the first `more` stand there now
abbrev pub WritesMore : ℕ → ℕ → ℕ → List ℕ → Option (List ℕ) → Option (List ℕ) → Type 0
WritesMore at done more piece old new = (before : Option (List ℕ)) → WritesAt at (take done piece) before old → WritesAt at (take more piece) before new

-- a front of the piece was written, and no other byte changed
abbrev pub WritesFront : ℕ → List ℕ → Option (List ℕ) → Option (List ℕ) → Type 0
WritesFront at piece before now = (n : ℕ) × (n ≤ length piece) × WritesAt at (take n piece) before now

-- the whole blocks of a file of this many bytes, or 0 where it holds more than an image may
abbrev pub image_size : ℕ → ℕ
image_size bytes = if nat_le (bytes / 512) (2 ^ 48) then bytes / 512 else 0

-- an image in a file, where there is one to use: its number of blocks, and the calls made and failed
pub record FileImage (F : Type 0) : Type 0 where
  pub file : Option F
  pub size : ℕ
  pub calls : DeviceCalls
  pub faults : ℕ

-- what contracts see of it as an image: a write that failed may have changed a part of its block, so that it tells no blocks
abbrev pub file_image : {F : Type 0} → FileImage F → ImageState
file_image image = record { faults = image.faults; size = image.size; blocks = None; calls = image.calls }

-- what this says of the file of an image
abbrev pub bytes_in : {F : Type 0} → (F → Option (List ℕ)) → FileImage F → Option (List ℕ)
bytes_in bytes image = option_and_then bytes image.file

-- all that was written to the image was handed on to where its file is kept
abbrev pub IsFlushed : {F : Type 0} → (F → Bool) → FileImage F → Type 0
IsFlushed is_flushed image = IfSome image.file (λ file. is_flushed file ≡ true)
