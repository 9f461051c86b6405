-- Which copy brought the table that a command's pieces are named by.
use Rattle.std.specs.Prelude.{◌≡◌, ◌+◌, ℕ, List, length}
use Rattle.srp_desc.specs.Pieces.{descs_in, named, summing_to}
use Rattle.srp_iu.specs.declared.buffer.Buffer.{Buffer}
use Rattle.srp_iu.specs.declared.buffer.Desc.{Desc}
use Rattle.block_server.specs.Cargo.{data_total}
use Rattle.block_server.specs.Causes.{tables_at}
use Rattle.block_server.specs.Causes.News.{nth_fetched}
use Rattle.block_server.specs.Heard.{heard_between}
use Rattle.block_server.specs.Runs.{IsNamedBy, table_count}
use Rattle.block_server.specs.SiteState.{SiteState}

-- The next copy brought the table, whose pieces sum up.
pub record ReadsNext (old new : SiteState) (table : Desc) (total : ℕ) (list : List Desc) : Type 0 where
  pub bytes : List ℕ
  pub full : length bytes ≡ table.len
  pub brought : heard_between old new (nth_fetched (data_total old) table.address tables_at bytes)
  pub sums : summing_to total (descs_in bytes) ≡ named list
  pub one : data_total new ≡ data_total old + 1

-- The pieces are those of the buffer, by the table that the next copy brought, if it leaves one to be fetched.
pub record NamesNext (old new : SiteState) (buffer : Buffer) (list : List Desc) : Type 0 where
  pub named_by : IsNamedBy (heard_between old new) buffer list (data_total old)
  pub made : data_total new ≡ data_total old + table_count buffer
