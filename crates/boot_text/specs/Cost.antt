-- What script lines cost: how much a run keeps and writes of them.
use Rattle.std.specs.Prelude.{ℕ, ◌+◌, ◌*◌, ◌/◌, ◌%◌, ◌^◌, ◌==◌, nat_le, List, length, max, min, slice_index, if◌then◌else◌}
use Rattle.boot_text.specs.declared.cost.TheConstants.{LINE_COST}
use Rattle.boot_text.specs.declared.verb.Verb.{Verb}
use Rattle.boot_text.specs.declared.verb.Verb.TheVariants as verbs

-- a command with so many bytes of data in so many pieces
abbrev pub data_cost : (bytes pieces : ℕ) → ℕ
data_cost bytes pieces = LINE_COST + bytes + 16 * pieces

-- a line that writes or reads so many bytes
abbrev pub bytes_cost : ℕ → ℕ
bytes_cost bytes = max bytes 64

-- a frame, which the sender writes and each port up to there may take
abbrev pub send_cost : (len ports : ℕ) → ℕ
send_cost len ports = LINE_COST + len * (1 + ports)

-- the length that a buffer descriptor says, where its valid bit is on
abbrev pub part_len : ℕ → ℕ
part_len descriptor = if nat_le (2 ^ 63) descriptor then descriptor / 2 ^ 32 % 2 ^ 24 else 0

-- the bytes of the valid ones of the six descriptors of a call that sends a frame, at most 65,527
abbrev pub valid_len : List ℕ → ℕ
valid_len arguments =
    min (part_len (slice_index arguments 1) + part_len (slice_index arguments 2) + part_len (slice_index arguments 3)
    + part_len (slice_index arguments 4) + part_len (slice_index arguments 5) + part_len (slice_index arguments 6)) 65527

-- a hypervisor call: H_COPY_RDMA, H_SEND_LOGICAL_LAN, H_STUFF_TCE and H_PUT_TCE_INDIRECT by what they move
abbrev pub call_cost : (ports number : ℕ) → List ℕ → ℕ
call_cost ports number arguments =
    if number == 0x110 then (if nat_le (slice_index arguments 0) 65536 then LINE_COST + slice_index arguments 0 else LINE_COST)
    else if number == 0x120 then send_cost (valid_len arguments) ports
    else if number == 0x138 then 64 + 16 * min (slice_index arguments 3) 512
    else if number == 0x13C then 64 + 16 * min (slice_index arguments 3) 512
    else LINE_COST

-- a script line, in a text with so many LAN ports up to there
abbrev pub line_cost : ℕ → Verb → ℕ
line_cost ports (verbs.Read lba blocks at pieces table) = data_cost (blocks * 512) pieces
line_cost ports (verbs.Write lba blocks at pieces table) = data_cost (blocks * 512) pieces
line_cost ports (verbs.CommandIn cdb at len pieces table) = data_cost len pieces
line_cost ports (verbs.CommandOut cdb at len pieces table) = data_cost len pieces
line_cost ports (verbs.Fill at len seed) = bytes_cost len
line_cost ports (verbs.Poke at bytes) = bytes_cost (length bytes)
line_cost ports (verbs.Peek at len) = bytes_cost len
line_cost ports (verbs.Post at len count) = 64 * count
line_cost ports (verbs.Send to len seed at) = send_cost len ports
line_cost ports (verbs.Hcall number arguments) = call_cost ports number arguments
line_cost ports _ = LINE_COST
