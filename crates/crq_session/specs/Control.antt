-- What a queue is by its numbers (LoPAR, "H_REG_CRQ"): its pages and its slots.
use Rattle.std.specs.Prelude.{◌≡◌, ℕ, ◌*◌, ◌/◌, ◌%◌, ◌≤◌, ◌==◌, ◌&&◌, Bool}
use Rattle.vio_num.specs.declared.TheConstants.{PAGE_BYTES}
use Rattle.crq_ring.specs.declared.TheConstants.{MAX_SLOTS}
use Rattle.crq_session.specs.declared.TheConstants.{PAGE_SLOTS}

-- a number of slots that is whole pages, of which there are 1 to 16
pub record IsQueueSize (slots : ℕ) : Type 0 where
  pub whole : slots % PAGE_SLOTS ≡ 0
  pub some : PAGE_SLOTS ≤ slots
  pub few : slots ≤ MAX_SLOTS

-- whether this is an address on a page boundary, and the length in bytes of a queue of this many slots
abbrev pub fits_queue : ℕ → ℕ → ℕ → Bool
fits_queue slots address bytes = (address % PAGE_BYTES == 0) && (bytes == (slots / PAGE_SLOTS) * PAGE_BYTES)
