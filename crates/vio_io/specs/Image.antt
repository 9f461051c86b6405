-- What contracts see of an image of blocks, and what each call makes of it.
use Rattle.std.specs.Prelude.{◌≡◌, ℕ, ◌+◌, ◌-◌, ◌^◌, min, max, Option, option_map, List, length, slice_set}
use Rattle.std.specs.List.{All}
use Rattle.vio_num.specs.Counts.{Rose}
use Rattle.vio_io.specs.declared.device_calls.DeviceCalls.{DeviceCalls}

-- an image
pub record ImageState : Type 0 where
  -- how many of its calls failed
  pub faults : ℕ
  -- the number of its blocks
  pub size : ℕ
  -- its blocks, where it tells them
  pub blocks : Option (List (List ℕ))
  -- how many calls were made on it, kind by kind
  pub calls : DeviceCalls

-- no call was made yet
abbrev pub no_calls : DeviceCalls
no_calls = record { sizings = 0; reads = 0; writes = 0; flushes = 0 }

-- a count that rose n times, up to its last value
abbrev pub risen_by : ℕ → ℕ → ℕ
risen_by n count = max count (min (count + n) (2 ^ 64 - 1))

-- each block has 512 bytes
abbrev pub AreWhole : List (List ℕ) → Type 0
AreWhole blocks = All (λ block. length block ≡ 512) blocks

-- the image once its blocks were counted
abbrev pub after_sizing : ImageState → ImageState
after_sizing image = record image { calls = record image.calls { sizings = risen_by 1 image.calls.sizings } }

-- the image after n reads
abbrev pub after_reads : ℕ → ImageState → ImageState
after_reads n image = record image { calls = record image.calls { reads = risen_by n image.calls.reads } }

-- the image after n writes, each asked for and none made yet
abbrev pub after_writes : ℕ → ImageState → ImageState
after_writes n image = record image { calls = record image.calls { writes = risen_by n image.calls.writes } }

-- the image once it was flushed
abbrev pub after_flush : ImageState → ImageState
after_flush image = record image { calls = record image.calls { flushes = risen_by 1 image.calls.flushes } }

-- the image whose told blocks are changed by f
abbrev pub with_blocks : (List (List ℕ) → List (List ℕ)) → ImageState → ImageState
with_blocks f image = record image { blocks = option_map f image.blocks }

-- the image whose block at this number is another
abbrev pub with_block : ℕ → List ℕ → ImageState → ImageState
with_block at block = with_blocks (λ all. slice_set all at block)

-- the call failed: it stands among the calls made and raised the count of faults, and changed nothing else
pub record FailsAfter (made now : ImageState) : Type 0 where
  pub faults : Rose made.faults now.faults
  pub rest : now ≡ record made { faults = now.faults }
