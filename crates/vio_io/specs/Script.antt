-- Objects that fail at listed calls, so that a test can place each fault.
use Rattle.std.specs.Prelude.{ℕ, ◌==◌, Bool, List, Some, length, if◌then◌else◌}
use Rattle.std.specs.List.{list_any}
use Rattle.vio_num.specs.Counts.{risen}
use Rattle.vio_io.specs.Image.{ImageState}
use Rattle.vio_io.specs.declared.device_calls.DeviceCalls.{DeviceCalls}

-- the numbers of the calls that fail, from 0, how many calls were made, and how many of them failed
pub record Script : Type 0 where
  pub failing : List ℕ
  pub calls : ℕ
  pub faults : ℕ

-- the script of these calls, of which none was made yet
abbrev pub new_script : List ℕ → Script
new_script failing = record { failing = failing; calls = 0; faults = 0 }

-- whether the next call fails
abbrev pub fails : Script → Bool
fails script = list_any (λ call. call == script.calls) script.failing

-- the script once the next call was made
abbrev pub after_call : Script → Script
after_call script = record script {
  calls = risen script.calls;
  faults = if fails script then risen script.faults else script.faults;
}

-- a source that keeps what is left, moves at most `most` bytes a call, and fails by its script
pub record ScriptedSource : Type 0 where
  pub left : List ℕ
  pub most : ℕ
  pub script : Script

-- a sink that keeps what it took, moves at most `most` bytes a call, and fails by its script
pub record ScriptedSink : Type 0 where
  pub taken : List ℕ
  pub most : ℕ
  pub script : Script

-- an image that keeps its blocks, counts its calls, and fails by its script
pub record ScriptedImage : Type 0 where
  pub blocks : List (List ℕ)
  pub calls : DeviceCalls
  pub script : Script

-- what contracts see of it
abbrev pub scripted_image : ScriptedImage → ImageState
scripted_image image = record {
  faults = image.script.faults;
  size = length image.blocks;
  blocks = Some image.blocks;
  calls = image.calls;
}
