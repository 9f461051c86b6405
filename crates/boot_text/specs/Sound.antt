-- What is so of each plan that a text says: its units and scripts keep the rules and ranges of boot texts.
use Rattle.std.specs.Prelude.{◌≡◌, ℕ, ◌%◌, ◌<◌, ◌≤◌, true, List, [], All, Option, Some, None, MatchOption, length, replicate, slice_get, slice_index, ⊤}
use Rattle.std.specs.List.{AllPairs, sum_by}
use Rattle.vio_num.specs.declared.names.Mac.{Mac}
use Rattle.vio_num.specs.declared.names.UnitId.{UnitId}
use Rattle.boot_text.specs.SoFar.{is_server, has_server, ports_in, suits}
use Rattle.boot_text.specs.declared.plan.Line.{Line}
use Rattle.boot_text.specs.declared.plan.Partition.{Partition}
use Rattle.boot_text.specs.declared.plan.Plan.{Plan}
use Rattle.boot_text.specs.declared.plan.UnitPlan.{UnitPlan}
use Rattle.boot_text.specs.declared.plan.UnitPlan.TheVariants as units
use Rattle.boot_text.specs.declared.plan.TheConstants.{MOST_PARTITIONS, MOST_PORTS, MOST_UNITS}
use Rattle.boot_text.specs.declared.statement.TheConstants.{MOST_ROUNDS, MOST_GRANT, MOST_QUEUE, LEAST_CLIENT_PAGES, MOST_UNIT_PAGES, MOST_SLOTS}
use Rattle.boot_text.specs.declared.script.TheConstants.{MOST_CDB, MOST_FUNCTION}
use Rattle.boot_text.specs.declared.transfer.TheConstants.{MOST_DATA, MOST_LBA, MOST_BLOCKS, MOST_PIECES, MOST_IN_TABLE}
use Rattle.boot_text.specs.declared.common_script.TheConstants.{MOST_FILL, MOST_PEEK, MOST_PAGE}
use Rattle.boot_text.specs.declared.names.TheConstants.{MOST_HEX}
use Rattle.boot_text.specs.declared.port_script.TheConstants.{MOST_BUFFERS, LEAST_FRAME, MOST_FRAME}
use Rattle.boot_text.specs.declared.verb.Verb.{Verb}
use Rattle.boot_text.specs.declared.verb.Verb.TheVariants as verbs

-- a number from `least` to `most`
abbrev pub IsFrom : (least most n : ℕ) → Type 0
IsFrom least most n = (least ≤ n) × (n ≤ most)

-- the descriptors of data: 1 to 11 in the unit, 1 to 256 in a table
abbrev pub ArePieces : ℕ → Option ℕ → Type 0
ArePieces pieces table = MatchOption table (IsFrom 1 MOST_PIECES pieces) (λ _. IsFrom 1 MOST_IN_TABLE pieces)

-- Data of a command: its length, in at least one byte a piece.
pub record AreData (len pieces : ℕ) (table : Option ℕ) : Type 0 where
  pub most : len ≤ MOST_DATA
  pub pieces_are : ArePieces pieces table
  pub each : pieces ≤ len

-- Blocks of a READ(10) or WRITE(10).
pub record AreBlocks (lba blocks pieces : ℕ) (table : Option ℕ) : Type 0 where
  pub lba_is : lba ≤ MOST_LBA
  pub blocks_are : IsFrom 1 MOST_BLOCKS blocks
  pub pieces_are : ArePieces pieces table

-- a command's bytes
abbrev pub IsCommand : List ℕ → Type 0
IsCommand cdb = IsFrom 1 MOST_CDB (length cdb)

-- the numbers of a line are within their ranges
abbrev pub IsInRange : Verb → Type 0
IsInRange (verbs.Read lba blocks at pieces table) = AreBlocks lba blocks pieces table
IsInRange (verbs.Write lba blocks at pieces table) = AreBlocks lba blocks pieces table
IsInRange (verbs.Command cdb) = IsCommand cdb
IsInRange (verbs.CommandIn cdb at len pieces table) = IsCommand cdb × AreData len pieces table
IsInRange (verbs.CommandOut cdb at len pieces table) = IsCommand cdb × AreData len pieces table
IsInRange (verbs.Task function tag) = function ≤ MOST_FUNCTION
IsInRange (verbs.Fill at len seed) = IsFrom 1 MOST_FILL len
IsInRange (verbs.Poke at bytes) = IsFrom 1 MOST_HEX (length bytes)
IsInRange (verbs.Peek at len) = IsFrom 1 MOST_PEEK len
IsInRange (verbs.Tce entry page readable writable) = page ≤ MOST_PAGE
IsInRange (verbs.Post at len count) = IsFrom 1 MOST_BUFFERS count
IsInRange (verbs.Send to len seed at) = IsFrom LEAST_FRAME MOST_FRAME len
IsInRange _ = ⊤

-- A script line: its unit is there and of the line's kind, and its numbers are within their ranges.
pub record IsSoundLine (own : List UnitPlan) (line : Line) : Type 0 where
  pub suited : suits line.verb (slice_get own line.unit) ≡ true
  pub ranged : IsInRange line.verb

-- An address that a port may have of its own: not that of a group, and not zero.
pub record IsPortMac (mac : Mac) : Type 0 where
  pub one : ¬ (slice_index mac.bytes 0 % 2 ≡ 1)
  pub some : ¬ (mac.bytes ≡ replicate 6 0)

-- the sizes of a unit are within their ranges, and a port has an address that it may have
abbrev pub IsSized : UnitPlan → Type 0
IsSized (units.Server queue) = IsFrom 1 MOST_QUEUE queue
IsSized (units.Client server pages queue) = IsFrom LEAST_CLIENT_PAGES MOST_UNIT_PAGES pages × IsFrom 1 MOST_QUEUE queue
IsSized (units.Lan mac pages slots) = IsFrom 1 MOST_UNIT_PAGES pages × IsFrom 1 MOST_SLOTS slots × IsPortMac mac

-- A partition: 1 to 8 units, all of them server units or none, and a script in the order of its lines, which a partition of
-- server units has not.
pub record IsSoundPartition (partition : Partition) : Type 0 where
  pub some : 1 ≤ length partition.units
  pub few : length partition.units ≤ MOST_UNITS
  pub sized : All IsSized partition.units
  pub lines : All (IsSoundLine partition.units) partition.lines
  pub in_order : AllPairs (λ a b. a.number < b.number) partition.lines
  pub alone : has_server partition.units ≡ true → All (λ unit. is_server unit ≡ true) partition.units
  pub silent : has_server partition.units ≡ true → partition.lines ≡ []

-- the unit of this number in the partition of this number
abbrev pub unit_in : Option Partition → ℕ → Option UnitPlan
unit_in None unit = None
unit_in (Some partition) unit = slice_get partition.units unit

abbrev pub unit_at : List Partition → UnitId → Option UnitPlan
unit_at partitions id = unit_in (slice_get partitions id.partition) id.unit

-- this unit is a client of that server unit
abbrev pub IsClientOf : List Partition → UnitId → UnitId → Type 0
IsClientOf partitions id server = (pages : ℕ) × (queue : ℕ) × (unit_at partitions id ≡ Some (units.Client server pages queue))

-- this unit is a server unit
abbrev pub IsServer : List Partition → UnitId → Type 0
IsServer partitions id = (queue : ℕ) × (unit_at partitions id ≡ Some (units.Server queue))

-- Partitions: 1 to 16, with at most 16 LAN ports, one of which may have server units; each client names a server unit of an earlier partition, which no
-- other client names.
pub record AreSound (partitions : List Partition) : Type 0 where
  pub some : 1 ≤ length partitions
  pub few : length partitions ≤ MOST_PARTITIONS
  pub few_ports : sum_by (λ partition. ports_in partition.units) partitions ≤ MOST_PORTS
  pub each : All IsSoundPartition partitions
  pub one_home : (a b : UnitId) → IsServer partitions a → IsServer partitions b → a.partition ≡ b.partition
  pub served : (id server : UnitId) → IsClientOf partitions id server → IsServer partitions server
  pub earlier : (id server : UnitId) → IsClientOf partitions id server → server.partition < id.partition
  pub own : (a b server : UnitId) → IsClientOf partitions a server → IsClientOf partitions b server → a ≡ b

-- A plan.
pub record IsSound (plan : Plan) : Type 0 where
  pub rounds : IsFrom 1 MOST_ROUNDS plan.rounds
  pub grant : IsFrom 1 MOST_GRANT plan.grant
  pub partitions : AreSound plan.partitions
