-- The tables that a command leaves to be fetched, and each buffer's own table in what was fetched.
use Rattle.std.specs.Prelude.{◌++◌, ℕ, List, [], ◌∷◌, take, drop, Option, Some, None, if◌then◌else◌}
use Rattle.srp_iu.specs.declared.buffer.Desc.{Desc}
use Rattle.srp_iu.specs.declared.buffer.Buffer.{Buffer}
use Rattle.srp_iu.specs.declared.buffer.Buffer.TheVariants.{Absent, Direct, Indirect}
use Rattle.srp_iu.specs.declared.command.Cmd.{Cmd}
use Rattle.srp_desc.specs.declared.pieces.DescFault.{DescFault}
use Rattle.srp_desc.specs.Pieces.{Named, is_complete, pieces, refusal, sum_of}

-- the table of a buffer that has not all of it; else none
abbrev pub tables_of : Buffer → List Desc
tables_of Absent = []
tables_of (Direct desc) = []
tables_of (Indirect table total list) = if is_complete table list then [] else table ∷ []

-- the tables that a command leaves to be fetched, in order: data-out's before data-in's. (Of a command with a
-- buffer that is refused by itself none is fetched.)
abbrev pub tables_to_fetch : Cmd → List Desc
tables_to_fetch command = tables_of command.out ++ tables_of command.inn

-- why a command is refused before any table is fetched: data-out is judged before data-in
abbrev pub first_refusal : Option DescFault → Option DescFault → Option DescFault
first_refusal (Some fault) inn = Some fault
first_refusal None inn = inn

abbrev pub command_refusal : Cmd → Option DescFault
command_refusal command = first_refusal (refusal command.out) (refusal command.inn)

-- the bytes of a buffer's own table, of which there is none where the buffer has all of it
abbrev pub table_len : Buffer → ℕ
table_len buffer = sum_of (tables_of buffer)

-- each buffer's own table, in the bytes of all tables, one behind the other
abbrev pub out_table : Cmd → (fetched : List ℕ) → List ℕ
out_table command fetched = take (table_len command.out) fetched

abbrev pub in_table : Cmd → (fetched : List ℕ) → List ℕ
in_table command fetched = take (table_len command.inn) (drop (table_len command.out) fetched)

-- the pieces of data-out and of data-in, each from its own table
abbrev pub out_pieces : Cmd → (fetched : List ℕ) → Named
out_pieces command fetched = pieces command.out (out_table command fetched)

abbrev pub in_pieces : Cmd → (fetched : List ℕ) → Named
in_pieces command fetched = pieces command.inn (in_table command fetched)
