-- The information units that a client sends, and the entries that name them.
use Rattle.std.specs.Prelude.{◌≡◌, ℕ, zero, suc, ◌+◌, ◌-◌, ◌*◌, ◌/◌, ◌≤◌, ◌==◌, List, [], ◌∷◌, ◌++◌, None, MatchOption, MatchBool, ◌^◌, replicate, ⊤, if◌then◌else◌}
use Rattle.arrayvec.specs.ArrayVec.{ArrayVec}
use Rattle.vio_num.specs.declared.names.UnitId.{UnitId}
use Rattle.srp_iu.specs.declared.buffer.Desc.{Desc}
use Rattle.srp_iu.specs.declared.buffer.Buffer.{Buffer}
use Rattle.srp_iu.specs.declared.buffer.Buffer.TheVariants.{Absent, Direct, Indirect}
use Rattle.srp_iu.specs.declared.command.Cmd.{Cmd as Command}
use Rattle.srp_iu.specs.declared.login.TheConstants.{BUFFER_FORMATS}
use Rattle.srp_iu.specs.declared.login.LoginReq.{LoginReq as Request}
use Rattle.srp_iu.specs.declared.task.TskMgmt.{TskMgmt as Task}
use Rattle.srp_iu.specs.declared.unit.TheConstants.{MAX_IU_LEN}
use Rattle.srp_iu.specs.Buffer.{desc_bytes}
use Rattle.srp_desc.specs.declared.pieces.TheConstants.{MAX_DATA_LEN}
use Rattle.vscsi_client.specs.declared.op.Dir.{Dir}
use Rattle.vscsi_client.specs.declared.op.Dir.TheVariants.{Neither, In, Out}
use Rattle.vscsi_client.specs.declared.op.Op.{Op}
use Rattle.vscsi_client.specs.Spans.{table_len}

-- the i-th of a command's pieces: all are of one length, but the last has the rest
abbrev pub piece_of : Op → ℕ → Desc
piece_of op i = record {
  address = op.at + op.len / op.pieces * i;
  key = 0;
  len = if i + 1 == op.pieces then op.len - op.len / op.pieces * i else op.len / op.pieces;
}

-- the first n pieces, and the bytes of their descriptors, which are a table's
abbrev pub pieces : Op → ℕ → List Desc
pieces op zero = []
pieces op (suc n) = pieces op n ++ piece_of op n ∷ []

abbrev pub table_bytes : Op → ℕ → List ℕ
table_bytes op zero = []
table_bytes op (suc n) = table_bytes op n ++ desc_bytes (piece_of op n)

-- an indirect buffer, whose table lies at this address and stands in the unit as this list
pub record IsIndirect (op : Op) (at : ℕ) (list : List Desc) (buffer : Buffer) : Type 0 where
  pub items : ArrayVec Desc
  pub list_is : items.items ≡ list
  pub buffer_is : buffer ≡ Indirect (record { address = at; key = 0; len = table_len op.pieces }) op.len items

-- the buffer of a command's data: one piece without a table is direct; else the pieces stand in the unit, or
-- in the table
abbrev pub IsBuffer : Op → Buffer → Type 0
IsBuffer op buffer = MatchOption op.table
    (MatchBool (op.pieces == 1) (buffer ≡ Direct (piece_of op 0)) (IsIndirect op 0 (pieces op op.pieces) buffer))
    (λ at. IsIndirect op at [] buffer)

-- P without data, Q with data-out, R with data-in
abbrev pub InDir : Dir → Type 0 → Type 0 → Type 0 → Type 0
InDir Neither P Q R = P
InDir Out P Q R = Q
InDir In P Q R = R

-- what a caller knows of a command with data, and of one without
pub record FitsData (op : Op) : Type 0 where
  pub most : op.len ≤ MAX_DATA_LEN
  pub some : 1 ≤ op.pieces
  pub each : op.pieces ≤ op.len
  pub listed : MatchOption op.table (op.pieces ≤ 11) (λ _. op.pieces ≤ 256)

pub record FitsNone (op : Op) : Type 0 where
  pub len : op.len ≡ 0
  pub pieces : op.pieces ≡ 0
  pub table : op.table ≡ None

abbrev pub FitsOp : Op → Type 0
FitsOp op = InDir op.dir (FitsNone op) (FitsData op) (FitsData op)

-- its data lie below an address of 32 bits
abbrev pub InLow : Op → Type 0
InLow op = InDir op.dir ⊤ (op.at + op.len ≤ 2 ^ 32) (op.at + op.len ≤ 2 ^ 32)

-- the command under this tag: at logical unit 0, of attribute 0, without additional bytes
pub record IsCommand (tag : ℕ) (op : Op) (command : Command) : Type 0 where
  pub tag_is : command.tag ≡ tag
  pub lun : command.lun ≡ 0
  pub attribute : command.attribute ≡ 0
  pub cdb : command.cdb ≡ op.cdb
  pub more : command.more.items ≡ []
  pub out : InDir op.dir (command.out ≡ Absent) (IsBuffer op command.out) (command.out ≡ Absent)
  pub inn : InDir op.dir (command.inn ≡ Absent) (command.inn ≡ Absent) (IsBuffer op command.inn)

-- the identifier of a unit's port
abbrev pub port_bytes : UnitId → List ℕ
port_bytes id = replicate 14 0 ++ id.partition ∷ id.unit ∷ []

-- the login request under this tag
abbrev pub login_request : (id server : UnitId) → ℕ → Request
login_request id server tag = record {
  tag = tag;
  iu_len = MAX_IU_LEN;
  formats = BUFFER_FORMATS;
  flags = 0;
  initiator = port_bytes id;
  target = port_bytes server;
}

-- the task management request under this tag, at logical unit 0
abbrev pub task_request : (function task tag : ℕ) → Task
task_request function task tag = record { tag = tag; lun = 0; function = function; task = task }

-- the address of a slot of the region's first pages, of 256 bytes each
abbrev pub slot_address : ℕ → ℕ
slot_address slot = 256 * slot
