-- What contracts see of sources and sinks that keep their bytes in memory.
use Rattle.std.specs.Prelude.{ℕ, List, Some, length}
use Rattle.vio_io.specs.Image.{ImageState}
use Rattle.vio_io.specs.declared.device_calls.DeviceCalls.{DeviceCalls}

-- a source: the bytes that are still to be read, and the most that one call moves
pub record SourceBytes : Type 0 where
  pub left : List ℕ
  pub most : ℕ

-- a sink: the bytes that were taken so far, and the most that one call moves
pub record SinkBytes : Type 0 where
  pub taken : List ℕ
  pub most : ℕ

-- an image: its blocks, and how many calls were made on it
pub record MemoryImage : Type 0 where
  pub blocks : List (List ℕ)
  pub calls : DeviceCalls

-- what contracts see of an image in memory of which no call fails
abbrev pub sure_image : MemoryImage → ImageState
sure_image image = record { faults = 0; size = length image.blocks; blocks = Some image.blocks; calls = image.calls }
