-- Which copy brought the table that pieces are named by, of a call and of what a unit was told.
use Rattle.std.proofs.Common.{Bor, ◌≡◌, ◌∙◌, ℕ, Bool, List, [], ◌∷◌, Result, Ok, Err, length, replicate, sym, ap, subst, arith}
use Rattle.std.proofs.lemmas.List.{length-replicate}
use Rattle.vio_num.specs.declared.memory.NoMemory.{NoMemory}
use Rattle.vio_num.specs.declared.names.UnitId.{UnitId}
use Rattle.srp_iu.specs.declared.buffer.Buffer.{Buffer}
use Rattle.srp_iu.specs.declared.buffer.Desc.{Desc}
use Rattle.srp_desc.specs.Pieces.{IsGiven, IsToFetch, descs_in, pieces, sum_of, summing_to, tables_in}
use Rattle.srp_desc.specs.Tables.{table_len, tables_of}
use Rattle.srp_desc.specs.declared.pieces.Pieces.{Pieces}
use Rattle.srp_desc.specs.declared.pieces.Pieces.TheVariants.{Fetch, Whole}
use Rattle.block_server.specs.Cargo.{data_total}
use Rattle.block_server.specs.Causes.{Hearing, Includes, Told, tables_at, told_to}
use Rattle.block_server.specs.Causes.News.{nth_fetched}
use Rattle.block_server.specs.Fetched.{IfDone, IfStill}
use Rattle.block_server.specs.Heard.{TellsAll, heard_between}
use Rattle.block_server.specs.Numbered.{NamesNext, ReadsNext}
use Rattle.block_server.specs.Runs.{IsNamedBy, IsNthFetched}
use Rattle.block_server.specs.SiteState.{SiteState}
use Rattle.block_server.specs.declared.fetching.Progress.{Progress}
use Rattle.block_server.specs.declared.fetching.Progress.TheVariants.{Busy, Done, Refused}

nth_map : (F G : Hearing) (tables : List Desc) (number : ℕ) (bytes : List ℕ) → Includes F G → IsNthFetched F tables number bytes → IsNthFetched G tables number bytes
nth_map F G [] number bytes more is = tt
nth_map F G (table ∷ tables) number bytes more is = more (nth_fetched number table.address tables_at bytes) is

-- what a call named is named by what the unit was told
pub next_named : (told : Told → Bool) (id : UnitId) (old new : SiteState) (buffer : Buffer) (list : List Desc) → TellsAll told id old new → NamesNext old new buffer list
    → IsNamedBy (told_to told id) buffer list (data_total old)
next_named told id old new buffer list all is = record {
  table = is.named_by.table;
  full = is.named_by.full;
  brought = nth_map (heard_between old new) (told_to told id) (tables_of buffer) (data_total old) is.named_by.table all is.named_by.brought;
  named_is = is.named_by.named_is;
}

-- a buffer whose pieces are all there
pub next_whole : (site : SiteState) (buffer : Buffer) (given : Pieces) (list : Bor (List Desc)) → IsGiven buffer given → tables_in given ≡ tables_of buffer → given ≡ Whole list
    → NamesNext site site buffer list.now
next_whole site buffer given list is_given tables is = record {
  named_by = record {
    table = zeros;
    full = length-replicate (table_len buffer) 0;
    brought = subst (λ (own : List Desc). IsNthFetched (heard_between site site) own (data_total site) zeros) none tt;
    named_is = subst (IsGiven buffer) is is_given zeros;
  };
  made = omega (arith, ap length none);
}
  where
    zeros : List ℕ
    zeros = replicate (table_len buffer) 0

    none : [] ≡ tables_of buffer
    none = sym (ap tables_in is) ∙ tables

-- a buffer whose table was fetched
pub next_read : (old new : SiteState) (buffer : Buffer) (given : Pieces) (table : Desc) (total : ℕ) (list : List Desc) → IsGiven buffer given → tables_in given ≡ tables_of buffer
    → given ≡ Fetch table total
    → ((buffer : Buffer) (table : Desc) (total : ℕ) (bytes : List ℕ) → IsToFetch buffer table total → pieces buffer bytes ≡ summing_to total (descs_in bytes))
    → ReadsNext old new table total list → NamesNext old new buffer list
next_read old new buffer given table total list is_given tables is law read = record {
  named_by = record {
    table = read.bytes;
    full = let one : table.len ≡ sum_of (table ∷ []) = omega arith in read.full ∙ one ∙ ap sum_of only;
    brought = subst (λ (own : List Desc). IsNthFetched (heard_between old new) own (data_total old) read.bytes) only read.brought;
    named_is = law buffer table total read.bytes (subst (IsGiven buffer) is is_given) ∙ read.sums;
  };
  made = omega (arith, read.one, ap length only);
}
  where
    only : table ∷ [] ≡ tables_of buffer
    only = sym (ap tables_in is) ∙ tables

-- the same of a call
pub next_done : (old new : SiteState) (buffer : Buffer) (given : Pieces) (table : Desc) (total : ℕ) (list : List Desc) (result : Result Progress NoMemory) → IsGiven buffer given
    → tables_in given ≡ tables_of buffer → given ≡ Fetch table total
    → ((buffer : Buffer) (table : Desc) (total : ℕ) (bytes : List ℕ) → IsToFetch buffer table total → pieces buffer bytes ≡ summing_to total (descs_in bytes))
    → IfDone result (ReadsNext old new table total list) → IfDone result (NamesNext old new buffer list)
next_done old new buffer given table total list (Ok Done) is_given tables is law read = next_read old new buffer given table total list is_given tables is law read
next_done old new buffer given table total list (Ok Refused) is_given tables is law read = tt
next_done old new buffer given table total list (Ok Busy) is_given tables is law read = tt
next_done old new buffer given table total list (Err memory) is_given tables is law read = tt

-- what is so where a page was in use
pub where_busy : (progress : Progress) (P : Type 0) → progress ≡ Busy → IfStill (Ok progress) P → P
where_busy progress P at = subst (λ (p : Progress). IfStill (Ok p) P) at
