-- Which copies are whose: the run of copies of each row, one behind the other (SRP, "Data buffer descriptor formats").
use Rattle.std.specs.Prelude.{◌≡◌, ◌⊎◌, ◌+◌, ◌-◌, ◌≤◌, ⊤, ℕ, List, [], ◌∷◌, Some, if◌then◌else◌, filter, length, min, nat_lt, take}
use Rattle.std.specs.List.{concat}
use Rattle.vio_num.specs.declared.history.Served.{Served}
use Rattle.vio_num.specs.declared.names.UnitId.{UnitId}
use Rattle.srp_iu.specs.Grammar.{Spells}
use Rattle.srp_iu.specs.Layout.{field}
use Rattle.srp_iu.specs.declared.buffer.Buffer.{Buffer}
use Rattle.srp_iu.specs.declared.buffer.Desc.{Desc}
use Rattle.srp_iu.specs.declared.command.Cmd.{Cmd}
use Rattle.srp_iu.specs.declared.unit.Iu.TheVariants as units
use Rattle.srp_desc.specs.Pieces.{named, pieces, sum_of}
use Rattle.srp_desc.specs.Tables.{table_len, tables_of}
use Rattle.block_server.specs.Carried.{address_of, data_at}
use Rattle.block_server.specs.Causes.{Hearing, tables_at}
use Rattle.block_server.specs.Causes.News.{nth_delivered, nth_fetched}
use Rattle.block_server.specs.Makers.{same_unit}

-- PARTS ------------------------------------------------------------------------------------------

-- how many bytes of the piece in which byte k of the data lies are there from that byte on
abbrev pub left_at : List Desc → (k : ℕ) → ℕ
left_at [] k = 0
left_at (piece ∷ list) k = if nat_lt k piece.len then piece.len - k else left_at list (k - piece.len)

-- One copy moves these bytes, of as many of the data as are wanted: from byte `at` on, to the end of the piece or of what is
-- wanted, and no more than 65,536.
pub record IsPart (list : List Desc) (wanted at address len : ℕ) : Type 0 where
  pub first : address_of list at ≡ Some address
  pub some : 1 ≤ len
  pub long : len ≡ min (min (left_at list at) (wanted - at)) 65536

-- what the copy of data of this number may be, between these addresses of the own window and of the client's, with these bytes
abbrev pub Moving : Type 1
Moving = (number at address : ℕ) → List ℕ → Type 0

-- The copy of this number moved the part that is next, which are these bytes.
pub record IsMoved (Moves : Moving) (list : List Desc) (wanted number at : ℕ) (part : List ℕ) : Type 0 where
  pub address : ℕ
  pub part_is : IsPart list wanted at address (length part)
  pub moved : Moves number (data_at + at) address part

-- The copies from this number on moved these parts, one each, in their order.
abbrev pub AreMoved : Moving → List Desc → (wanted number at : ℕ) → List (List ℕ) → Type 0
AreMoved Moves list wanted number at [] = ⊤
AreMoved Moves list wanted number at (part ∷ parts) =
    IsMoved Moves list wanted number at part × AreMoved Moves list wanted (number + 1) (at + length part) parts

-- that a unit was told so of a copy from its client, and of one to it, under this mark
abbrev pub nth_fetch : Hearing → Moving
nth_fetch Hears number at address part = Hears (nth_fetched number address at part)

abbrev pub nth_delivery : Hearing → (mark : ℕ) → Moving
nth_delivery Hears mark number at address part = Hears (nth_delivered number at address mark part)

-- TABLES -----------------------------------------------------------------------------------------

-- how many tables a buffer leaves to be fetched: one or none
abbrev pub table_count : Buffer → ℕ
table_count buffer = length (tables_of buffer)

-- The table of a buffer, if it has to be fetched, is what the copy of this number brought to page 1.
abbrev pub IsNthFetched : Hearing → (tables : List Desc) → (number : ℕ) → (bytes : List ℕ) → Type 0
IsNthFetched Hears [] number bytes = ⊤
IsNthFetched Hears (table ∷ tables) number bytes = Hears (nth_fetched number table.address tables_at bytes)

-- The pieces are those that a buffer names, by its table.
pub record IsNamedBy (Hears : Hearing) (buffer : Buffer) (list : List Desc) (number : ℕ) : Type 0 where
  pub table : List ℕ
  pub full : length table ≡ table_len buffer
  pub brought : IsNthFetched Hears (tables_of buffer) number table
  pub named_is : pieces buffer table ≡ named list

-- RUNS -------------------------------------------------------------------------------------------

-- The copies from one number up to the next are the row's: those of its tables, data-out's before data-in's, those of all parts of its
-- data-out, and those of as many of its data-in as were sent, of those wanted.
pub record HasRun (Hears : Hearing) (row : Served) (inns : List Desc) (wanted sent first next : ℕ) : Type 0 where
  pub command : Cmd
  pub spells : Spells row.iu (units.Cmd command)
  pub outs : List Desc
  pub out_named : IsNamedBy Hears command.out outs first
  pub in_named : IsNamedBy Hears command.inn inns (first + table_count command.out)
  pub out_parts : List (List ℕ)
  pub brought : AreMoved (nth_fetch Hears) outs (sum_of outs) (first + table_count command.out + table_count command.inn) 0 out_parts
  pub out_all : length row.out ≡ sum_of outs
  pub out_is : concat out_parts ≡ row.out
  pub in_parts : List (List ℕ)
  pub sent_all : AreMoved (nth_delivery Hears (field 8 8 row.iu)) inns wanted
      (first + table_count command.out + table_count command.inn + length out_parts) 0 in_parts
  pub few : sent ≤ length row.inn
  pub in_is : concat in_parts ≡ take sent row.inn
  pub next_is : next ≡ first + table_count command.out + table_count command.inn + length out_parts + length in_parts

-- The row has no data, and no copy is its.
pub record HasNoRun (row : Served) (first next : ℕ) : Type 0 where
  pub next_is : next ≡ first
  pub out_is : row.out ≡ []
  pub inn_is : row.inn ≡ []

-- The row has all its data-in by its run.
pub record HasWholeRun (Hears : Hearing) (row : Served) (first next : ℕ) : Type 0 where
  pub inns : List Desc
  pub wanted : ℕ
  pub run : HasRun Hears row inns wanted (length row.inn) first next

abbrev pub IsRun : Hearing → Served → (first next : ℕ) → Type 0
IsRun Hears row first next = HasNoRun row first next ⊎ HasWholeRun Hears row first next

-- The first row has its run from this number on or behind it, and the others have theirs behind that.
pub record HasRunThen (Hears : Hearing) (row : Served) (from : ℕ) (Then : ℕ → Type 0) : Type 0 where
  pub first : ℕ
  pub after : from ≤ first
  pub next : ℕ
  pub run : IsRun Hears row first next
  pub behind : Then next

-- The rows have their runs, in their order, between these numbers.
abbrev pub HaveRuns : Hearing → List Served → (from to : ℕ) → Type 0
HaveRuns Hears [] from to = from ≤ to
HaveRuns Hears (row ∷ rows) from to = HasRunThen Hears row from (λ next. HaveRuns Hears rows next to)

-- the rows of a unit
abbrev pub own_rows : UnitId → List Served → List Served
own_rows unit rows = filter (λ row. same_unit row.unit unit) rows
