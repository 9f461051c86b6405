-- Buffers that a partition posts for frames, and what it reads of a frame that came (LoPAR,
-- "H_ADD_LOGICAL_LAN_BUFFER", "Receive queue"): a buffer's descriptor of 8 bytes, and a receive entry's
-- high half of 8 bytes.
use Rattle.std.specs.Prelude.{◌≡◌, ℕ, ◌/◌, ◌%◌, ◌^◌, ◌≤◌, ◌==◌, Bool, true, if◌then◌else◌}

-- a buffer begins with the 8 bytes of its correlator; the frame lies behind them
abbrev pub frame_offset : ℕ
frame_offset = 8

-- the shortest buffer has room for the correlator and a frame's head
abbrev pub least_buffer : ℕ
least_buffer = 22

abbrev pub most_buffer : ℕ
most_buffer = 65536

-- the number of different lengths of a session's buffers
abbrev pub most_sizes : ℕ
most_sizes = 8

-- the valid bit of a descriptor is its highest; the toggle bit below it is free
abbrev pub is_valid : ℕ → Bool
is_valid descriptor = descriptor / 2 ^ 63 == 1

-- the length of a buffer: the low 24 bits of the descriptor's first word
abbrev pub buffer_len : ℕ → ℕ
buffer_len descriptor = descriptor / 2 ^ 32 % 2 ^ 24

-- the address of a buffer: the descriptor's second word
abbrev pub buffer_address : ℕ → ℕ
buffer_address descriptor = descriptor % 2 ^ 32

-- the descriptor is one of a buffer that can be posted
pub record IsBuffer (descriptor : ℕ) : Type 0 where
  pub valid : is_valid descriptor ≡ true
  pub long_enough : least_buffer ≤ buffer_len descriptor
  pub short_enough : buffer_len descriptor ≤ most_buffer

-- the bits of a receive entry's high half: whose lap of the slots it is, and that a frame came, from
-- offset 8 on
abbrev pub toggle_bit : ℕ
toggle_bit = 0x8000_0000_0000_0000

abbrev pub frame_bits : ℕ
frame_bits = 0x4000_0008_0000_0000

-- the toggle of receive entry k of n slots: 1 on the first lap of the slots, and it turns at each
-- lap
abbrev pub toggle : (n k : ℕ) → ℕ
toggle n k = if k / n % 2 == 0 then toggle_bit else 0
