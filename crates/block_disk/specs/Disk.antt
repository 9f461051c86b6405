-- The disk step: what a command does to an image of blocks of 512 bytes, what it answers and what data it
-- gives (SPC, SBC). The device call that failed, if one did, is an input.
use Rattle.std.specs.Prelude.{◌≡◌, ℕ, zero, suc, ◌+◌, ◌-◌, ◌*◌, ◌^◌, ◌<◌, min, nat_lt, if◌then◌else◌, Option, None, Some, IfSome, IfNone, OnSome, unwrap_or, List, [], ◌∷◌, ◌++◌, length, take, drop, replicate, codes}
use Rattle.std.specs.List.{flat_map}
use Rattle.byteorder.specs.Endian.{big_bytes}
use Rattle.vio_num.specs.Counts.{Rose}
use Rattle.vio_io.specs.Image.{ImageState, risen_by, after_writes, with_blocks}
use Rattle.vio_io.specs.declared.device_calls.DeviceCalls.{DeviceCalls}
use Rattle.block_disk.specs.Cdb.{command_of, refusal, is_disk_unit}
use Rattle.block_disk.specs.Sense.{sense_data, out_of_range, invalid_field, read_error, write_error}
use Rattle.block_disk.specs.declared.command.DiskOp.{DiskOp}
use Rattle.block_disk.specs.declared.command.DiskOp.TheVariants.{Ready, Inquiry, Capacity10, Capacity16, Luns, Read, Write, Sync}
use Rattle.block_disk.specs.declared.reply.ScsiReply.{ScsiReply}

-- GOOD, with this much data-in and so many bytes of data-out used
abbrev pub good : ℕ → ℕ → ScsiReply
good given used = record { status = 0x00; sense = None; in_len = given; out_used = used; out_short = 0; fault = None }

-- CHECK CONDITION for a cause, and so many bytes of data-out missing
abbrev pub refused : List ℕ → ℕ → ScsiReply
refused cause short = record { status = 0x02; sense = Some (sense_data cause); in_len = 0; out_used = 0; out_short = short; fault = None }

-- CHECK CONDITION because a device call failed
abbrev pub failed : List ℕ → ℕ → ℕ → ScsiReply
failed cause used call = record { status = 0x02; sense = Some (sense_data cause); in_len = 0; out_used = used; out_short = 0; fault = Some call }

abbrev pub read_reply : ℕ → Option ℕ → ScsiReply
read_reply blocks None = good (512 * blocks) 0
read_reply blocks (Some call) = failed read_error 0 call

abbrev pub write_reply : ℕ → Option ℕ → ScsiReply
write_reply blocks None = good 0 (512 * blocks)
write_reply blocks (Some call) = failed write_error (512 * blocks) call

abbrev pub sync_reply : Option ℕ → ScsiReply
sync_reply None = good 0 0
sync_reply (Some call) = failed write_error 0 call

-- a read: the range, and then the device
abbrev pub read_answer : ℕ → ℕ → ℕ → Option ℕ → ScsiReply
read_answer lba blocks count fault = if nat_lt count (lba + blocks) then refused out_of_range 0 else read_reply blocks fault

-- a write: the range, the length of data-out, and then the device
abbrev pub write_answer : ℕ → ℕ → ℕ → ℕ → Option ℕ → ScsiReply
write_answer lba blocks count sent fault =
    if nat_lt count (lba + blocks) then refused out_of_range 0
    else if nat_lt sent (512 * blocks) then refused invalid_field (512 * blocks - sent)
    else write_reply blocks fault

-- a flush: the range, and then the device
abbrev pub sync_answer : ℕ → ℕ → ℕ → Option ℕ → ScsiReply
sync_answer lba blocks count fault = if nat_lt count (lba + blocks) then refused out_of_range 0 else sync_reply fault

-- what a command that its CDB does not refuse answers on an image of `count` blocks, with `sent` bytes of data-out
abbrev pub performed : DiskOp → ℕ → ℕ → Option ℕ → ScsiReply
performed Ready count sent fault = good 0 0
performed (Inquiry max) count sent fault = good (min max 36) 0
performed Capacity10 count sent fault = good 8 0
performed (Capacity16 max) count sent fault = good (min max 32) 0
performed (Luns max) count sent fault = good (min max 16) 0
performed (Read lba blocks) count sent fault = read_answer lba blocks count fault
performed (Write lba blocks) count sent fault = write_answer lba blocks count sent fault
performed (Sync lba blocks) count sent fault = sync_answer lba blocks count fault

-- the answer of a CDB: why it is refused, else what its command answers
abbrev pub answer : Option (List ℕ) → Option DiskOp → ℕ → ℕ → Option ℕ → ScsiReply
answer (Some cause) op count sent fault = refused cause 0
answer None None count sent fault = good 0 0
answer None (Some op) count sent fault = performed op count sent fault

-- the answer to a CDB at a logical unit
abbrev pub reply_to : ℕ → ℕ → List ℕ → ℕ → Option ℕ → ScsiReply
reply_to count lun cdb sent fault = answer (refusal lun cdb) (command_of cdb) count sent fault

-- the device calls of a read, of a write and of a flush, none of which fails: one a block, one in all, none where refused
abbrev pub read_calls : ℕ → ℕ → ℕ → ℕ
read_calls lba blocks count = if nat_lt count (lba + blocks) then 0 else blocks

abbrev pub write_calls : ℕ → ℕ → ℕ → ℕ → ℕ
write_calls lba blocks count sent = if nat_lt count (lba + blocks) then 0 else if nat_lt sent (512 * blocks) then 0 else blocks

abbrev pub sync_calls : ℕ → ℕ → ℕ → ℕ
sync_calls lba blocks count = if nat_lt count (lba + blocks) then 0 else 1

-- the device calls of a command that its CDB does not refuse
abbrev pub calls_of : DiskOp → ℕ → ℕ → ℕ
calls_of (Read lba blocks) count sent = read_calls lba blocks count
calls_of (Write lba blocks) count sent = write_calls lba blocks count sent
calls_of (Sync lba blocks) count sent = sync_calls lba blocks count
calls_of _ count sent = 0

abbrev pub calls_unless : Option (List ℕ) → Option DiskOp → ℕ → ℕ → ℕ
calls_unless None (Some op) count sent = calls_of op count sent
calls_unless _ _ count sent = 0

-- the device calls of a command where none fails, on an image of `count` blocks, with `sent` bytes of data-out
abbrev pub device_calls : ℕ → ℕ → List ℕ → ℕ → ℕ
device_calls count lun cdb sent = calls_unless (refusal lun cdb) (command_of cdb) count sent

-- how many of n device calls are made: all of them, or those up to the first that fails
abbrev pub calls_made : ℕ → Option ℕ → ℕ
calls_made n None = n
calls_made n (Some call) = call + 1

-- the counts of an image once a command made n device calls
abbrev pub called : Option DiskOp → ℕ → DeviceCalls → DeviceCalls
called (Some (Read lba blocks)) n calls = record calls { reads = risen_by n calls.reads }
called (Some (Write lba blocks)) n calls = record calls { writes = risen_by n calls.writes }
called (Some (Sync lba blocks)) n calls = record calls { flushes = risen_by n calls.flushes }
called _ n calls = calls

-- What the device calls of a command did to the image's counts, where this many were due, and one of them failed or none.
pub record MakesCalls (op : Option DiskOp) (due : ℕ) (fault : Option ℕ) (old new : ImageState) : Type 0 where
  -- the call that failed was due
  pub index : IfSome fault (λ call. call < due)
  -- the calls that were made are counted
  pub calls : new.calls ≡ called op (calls_made due fault) old.calls
  pub size : new.size ≡ old.size
  -- a fault is counted where a call failed, and nowhere else
  pub same : IfNone fault (new.faults ≡ old.faults)
  pub failed : OnSome fault (Rose old.faults new.faults)

-- standard INQUIRY data: a direct access block device where the logical unit is one of the disk's
unfoldable pub inquiry_data : ℕ → List ℕ
inquiry_data lun =
    (if is_disk_unit lun then 0x00 else 0x7F) ∷ 0x00 ∷ 0x04 ∷ 0x02 ∷ 0x1F ∷ 0x00 ∷ 0x00 ∷ 0x00 ∷ codes "PAPRVIO VIRTUAL DISK    0001"

-- READ CAPACITY(10) data: the last block, as far as four bytes tell, and the bytes of a block
unfoldable pub capacity10_data : ℕ → List ℕ
capacity10_data count = big_bytes 4 (min (count - 1) (2 ^ 32 - 1)) ++ big_bytes 4 512

-- READ CAPACITY(16) data: the last block, the bytes of a block, and zeros
unfoldable pub capacity16_data : ℕ → List ℕ
capacity16_data count = big_bytes 8 (count - 1) ++ big_bytes 4 512 ++ replicate 20 0

-- REPORT LUNS data: one logical unit, number 0
unfoldable pub luns_data : List ℕ
luns_data = big_bytes 4 8 ++ replicate 12 0

-- the data of a command that moves no block, before it is cut at the command's maximum
abbrev pub parameter_data : ℕ → ℕ → Option DiskOp → Option (List ℕ)
parameter_data count lun (Some (Inquiry max)) = Some (inquiry_data lun)
parameter_data count lun (Some Capacity10) = Some (capacity10_data count)
parameter_data count lun (Some (Capacity16 max)) = Some (capacity16_data count)
parameter_data count lun (Some (Luns max)) = Some luns_data
parameter_data count lun _ = None

-- the bytes of these blocks, one behind the other
abbrev pub bytes_of : List (List ℕ) → List ℕ
bytes_of blocks = flat_map (λ block. block) blocks

-- the data-in of a command before it is cut at what the answer says
abbrev pub data_of : List (List ℕ) → ℕ → Option DiskOp → List ℕ
data_of blocks lun (Some (Read lba n)) = bytes_of (take n (drop lba blocks))
data_of blocks lun op = unwrap_or (parameter_data (length blocks) lun op) []

-- block number n of these bytes
abbrev pub block_at : ℕ → List ℕ → List ℕ
block_at n bytes = take 512 (drop (512 * n) bytes)

-- the first n blocks of data-out
abbrev pub blocks_of : ℕ → List ℕ → List (List ℕ)
blocks_of zero bytes = []
blocks_of (suc n) bytes = take 512 bytes ∷ blocks_of n (drop 512 bytes)

-- the image whose blocks from lba on are the first n of data-out
abbrev pub written : ℕ → ℕ → List ℕ → List (List ℕ) → List (List ℕ)
written lba n bytes blocks = take lba blocks ++ blocks_of n bytes ++ drop (lba + n) blocks

-- what contracts see of the image once `calls` writes were asked for and the first n of them changed their blocks
abbrev pub after_written : ℕ → ℕ → ℕ → List ℕ → ImageState → ImageState
after_written lba n calls bytes image = with_blocks (written lba n bytes) (after_writes calls image)

-- the image after a write: a refused one changes nothing, and one that fails at a call has changed the blocks before it
abbrev pub write_image : ℕ → ℕ → List ℕ → Option ℕ → List (List ℕ) → List (List ℕ)
write_image lba n bytes fault blocks =
    if nat_lt (length blocks) (lba + n) then blocks
    else if nat_lt (length bytes) (512 * n) then blocks
    else written lba (unwrap_or fault n) bytes blocks

-- the image after a command that its CDB does not refuse
abbrev pub changed : Option DiskOp → List (List ℕ) → List ℕ → Option ℕ → List (List ℕ)
changed (Some (Write lba n)) blocks bytes fault = write_image lba n bytes fault blocks
changed _ blocks bytes fault = blocks

abbrev pub image_after : Option (List ℕ) → Option DiskOp → List (List ℕ) → List ℕ → Option ℕ → List (List ℕ)
image_after (Some cause) op blocks bytes fault = blocks
image_after None op blocks bytes fault = changed op blocks bytes fault

-- what a command comes to: the image afterwards, the answer, and the data-in
pub record Step : Type 0 where
  pub blocks : List (List ℕ)
  pub reply : ScsiReply
  pub given : List ℕ

-- the disk step
abbrev pub step : List (List ℕ) → ℕ → List ℕ → List ℕ → Option ℕ → Step
step blocks lun cdb bytes fault =
    let reply = reply_to (length blocks) lun cdb (length bytes) fault in record {
      blocks = image_after (refusal lun cdb) (command_of cdb) blocks bytes fault;
      reply = reply;
      given = take reply.in_len (data_of blocks lun (command_of cdb));
    }
