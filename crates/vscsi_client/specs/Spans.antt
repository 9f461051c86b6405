-- Where the data and the table of a command may lie, and which pages they have.
use Rattle.std.specs.Prelude.{ℕ, ◌+◌, ◌*◌, ◌/◌, ◌&&◌, ◌||◌, nat_le, nat_lt, Bool, true, List, Option, Some, None, find}
use Rattle.std.specs.Option.{option_map}
use Rattle.vio_num.specs.declared.TheConstants.{PAGE_BYTES}
use Rattle.vscsi_client.specs.declared.TheConstants.{DATA_START}
use Rattle.vscsi_client.specs.declared.op.Dir.{Dir}
use Rattle.vscsi_client.specs.declared.op.Dir.TheVariants.{Neither}
use Rattle.vscsi_client.specs.declared.op.Op.{Op}
use Rattle.vscsi_client.specs.declared.outgoing.Span.{Span}
use Rattle.vscsi_client.specs.declared.outgoing.Outgoing.{Outgoing}

-- whether a range lies in a region of so many pages, behind the pages of the information units
abbrev pub in_range : (pages at len : ℕ) → Bool
in_range pages at len = nat_le DATA_START at && nat_le (at + len) (PAGE_BYTES * pages)

-- x where there are no data, and y where there are
abbrev pub by_dir : {X : Type 0} → Dir → X → X → X
by_dir Neither x y = x
by_dir _ x y = y

-- the length in bytes of a table of this many descriptors
abbrev pub table_len : ℕ → ℕ
table_len pieces = 16 * pieces

-- whether the data of the command lie there, where it has any, and its table, where it has one
abbrev pub data_in_range : ℕ → Op → Bool
data_in_range pages op = by_dir op.dir true (in_range pages op.at op.len)

abbrev pub table_in_range : ℕ → Option ℕ → ℕ → Bool
table_in_range pages None pieces = true
table_in_range pages (Some at) pieces = in_range pages at (table_len pieces)

abbrev pub op_in_range : ℕ → Op → Bool
op_in_range pages op = data_in_range pages op && table_in_range pages op.table op.pieces

-- the pages of a range, and those of nothing
abbrev pub span_of : ℕ → ℕ → Span
span_of at len = record { first = at / 4096; end = (at + len + 4095) / 4096 }

abbrev pub no_pages : Span
no_pages = record { first = 0; end = 0 }

abbrev pub data_span : Op → Span
data_span op = by_dir op.dir no_pages (span_of op.at op.len)

abbrev pub span_of_table : Option ℕ → ℕ → Span
span_of_table None pieces = no_pages
span_of_table (Some at) pieces = span_of at (table_len pieces)

abbrev pub table_span : Op → Span
table_span op = span_of_table op.table op.pieces

-- whether two spans have a page in common
abbrev pub meets : Span → Span → Bool
meets a b = nat_lt a.first b.end && nat_lt b.first a.end

-- whether an outstanding request has a page of this span, for its data or its table
abbrev pub has_page_of : Span → Outgoing → Bool
has_page_of span request = meets request.pages span || meets request.table span

-- whether it has one of these two
abbrev pub shares : (pages table : Span) → Outgoing → Bool
shares pages table request = has_page_of pages request || has_page_of table request

-- the tag of the oldest outstanding request that has a page of the command's data or table
abbrev pub first_sharing : Op → List Outgoing → Option ℕ
first_sharing op outgoing = option_map (λ (o : Outgoing). o.tag) (find (shares (data_span op) (table_span op)) outgoing)
