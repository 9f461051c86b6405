-- What is known of a command's pieces, while its tables and its data-out are fetched.
use Rattle.std.proofs.Common.{Bor, ◌≡◌, ◌⊎◌, inl, inr, Option, Some, None, Result, Ok, Err, ℕ, List, [], ◌∷◌, replicate, refl, sym, ◌∙◌, ap, subst, arith}
use Rattle.std.proofs.lemmas.List.{length-replicate}
use Rattle.srp_iu.specs.declared.buffer.Buffer.{Buffer}
use Rattle.srp_iu.specs.declared.buffer.Desc.{Desc}
use Rattle.srp_iu.specs.declared.command.Cmd.{Cmd}
use Rattle.srp_desc.specs.Pieces.{IsGiven, IsToFetch, descs_in, pieces, refusal, sum_of, summing_to, tables_in}
use Rattle.srp_desc.specs.Tables.{command_refusal, first_refusal, table_len, tables_of}
use Rattle.srp_desc.specs.declared.pieces.DescFault.{DescFault}
use Rattle.srp_desc.specs.declared.pieces.Pieces.{Pieces}
use Rattle.srp_desc.specs.declared.pieces.Pieces.TheVariants.{Fetch, Whole}
use Rattle.vio_num.specs.declared.memory.NoMemory.{NoMemory}
use Rattle.block_server.specs.Causes.{Hearing, IsBad, IsFetched, IsNamed, RefusesBuffer, TurnsDown, tables_at}
use Rattle.block_server.specs.Causes.News.{fetched}
use Rattle.block_server.specs.Delivers.{FetchesTo}
use Rattle.block_server.specs.Heard.{heard_between}
use Rattle.block_server.specs.SiteState.{SiteState}
use Rattle.block_server.specs.Fetched.{DeniesTable, Gathers, HasBadSum, IfDone, IfRefused, IsRead}
use Rattle.block_server.specs.declared.fetching.Progress.{Progress}
use Rattle.block_server.specs.declared.fetching.Progress.TheVariants.{Busy, Done, Refused}
use Rattle.block_server.specs.declared.cursor.Cursor.{Cursor}
use Rattle.block_server.specs.declared.data_pieces.DataPieces.{DataPieces}
use Rattle.block_server.specs.declared.service.Stage.{Stage}
use Rattle.block_server.specs.declared.service.Stage.TheVariants.{DataOut}

-- data-out were copied on
pub gathers_moved : (Hears : Hearing) (command : Cmd) (stage stage' : Stage) (o o' i i' : DataPieces) (from : Cursor) → stage ≡ DataOut from → (to : Cursor) × (stage' ≡ DataOut to) → o' ≡ o → i' ≡ i
    → Gathers Hears command stage o.list.items i.list.items → Gathers Hears command stage' o'.list.items i'.list.items
gathers_moved Hears command stage stage' o o' i i' from was is outs inns known =
    subst (λ (z : Stage × DataPieces × DataPieces). Gathers Hears command z.0 z.1.list.items z.2.list.items) (λ k. ((sym is.1) k, (sym outs) k, (sym inns) k))
    (subst (λ (st : Stage). Gathers Hears command st o.list.items i.list.items) was known)

-- a buffer whose pieces are all there
pub named_whole : (Hears : Hearing) (buffer : Buffer) (given : Pieces) (list : Bor (List Desc)) → IsGiven buffer given → tables_in given ≡ tables_of buffer → given ≡ Whole list
    → IsNamed Hears buffer list.now
named_whole Hears buffer given list is_given tables is = record {
  table = zeros;
  full = length-replicate (table_len buffer) 0;
  brought = subst (λ (own : List Desc). IsFetched Hears own zeros) (sym (ap tables_in is) ∙ tables) tt;
  named_is = subst (IsGiven buffer) is is_given zeros;
}
  where
    zeros : List ℕ
    zeros = replicate (table_len buffer) 0

-- a buffer whose table was fetched
pub named_read : (Hears : Hearing) (buffer : Buffer) (given : Pieces) (table : Desc) (total : ℕ) (list : List Desc) → IsGiven buffer given → tables_in given ≡ tables_of buffer
    → given ≡ Fetch table total
    → ((buffer : Buffer) (table : Desc) (total : ℕ) (bytes : List ℕ) → IsToFetch buffer table total → pieces buffer bytes ≡ summing_to total (descs_in bytes))
    → IsRead Hears table total list → IsNamed Hears buffer list
named_read Hears buffer given table total list is_given tables is law read = record {
  table = read.bytes;
  full = let one : table.len ≡ sum_of (table ∷ []) = omega arith in read.full ∙ one ∙ ap sum_of (sym (ap tables_in is) ∙ tables);
  brought = subst (λ (own : List Desc). IsFetched Hears own read.bytes) (sym (ap tables_in is) ∙ tables) read.brought;
  named_is = law buffer table total read.bytes (subst (IsGiven buffer) is is_given) ∙ read.sums;
}

-- the same of a call
pub read_done : (Hears : Hearing) (buffer : Buffer) (given : Pieces) (table : Desc) (total : ℕ) (list : List Desc) (result : Result Progress NoMemory) → IsGiven buffer given
    → tables_in given ≡ tables_of buffer → given ≡ Fetch table total
    → ((buffer : Buffer) (table : Desc) (total : ℕ) (bytes : List ℕ) → IsToFetch buffer table total → pieces buffer bytes ≡ summing_to total (descs_in bytes))
    → IfDone result (IsRead Hears table total list) → IfDone result (IsNamed Hears buffer list)
read_done Hears buffer given table total list (Ok Done) is_given tables is law read = named_read Hears buffer given table total list is_given tables is law read
read_done Hears buffer given table total list (Ok Refused) is_given tables is law read = tt
read_done Hears buffer given table total list (Ok Busy) is_given tables is law read = tt
read_done Hears buffer given table total list (Err memory) is_given tables is law read = tt

-- a call told which table its copy brought
pub heard_table : (old new : SiteState) (address : ℕ) (bytes : List ℕ) → FetchesTo old new address tables_at bytes → heard_between old new (fetched address tables_at bytes)
heard_table old new address bytes one = record { front = []; copy = one.copy; rest = []; made = one.made; is = one.fetched }

-- what is so where it was done
pub where_done : (progress : Progress) (P : Type 0) → progress ≡ Done → IfDone (Ok progress) P → P
where_done progress P at = subst (λ (p : Progress). IfDone (Ok p) P) at

-- ---- why pieces are not to be had

pub if_refused : (result : Result Progress NoMemory) (P Q : Type 0) → (P → Q) → IfRefused result P → IfRefused result Q
if_refused (Ok Refused) P Q then is = then is
if_refused (Ok Done) P Q then is = tt
if_refused (Ok Busy) P Q then is = tt
if_refused (Err memory) P Q then is = tt

-- what is so where it was refused
pub where_refused : (progress : Progress) (P : Type 0) → progress ≡ Refused → IfRefused (Ok progress) P → P
where_refused progress P at = subst (λ (p : Progress). IfRefused (Ok p) P) at

-- a table that was fetched and does not sum up, or whose copy was refused
table_refused : (Hears : Hearing) (buffer : Buffer) (given : Pieces) (table : Desc) (total : ℕ) → IsGiven buffer given → tables_in given ≡ tables_of buffer → given ≡ Fetch table total
    → ((buffer : Buffer) (table : Desc) (total : ℕ) (bytes : List ℕ) → IsToFetch buffer table total → pieces buffer bytes ≡ summing_to total (descs_in bytes))
    → HasBadSum Hears table total ⊎ DeniesTable Hears table → RefusesBuffer Hears buffer
table_refused Hears buffer given table total is_given tables is law (inl bad) = inr (inl (record {
  table = table;
  own = sym tables ∙ ap tables_in is;
  bytes = bad.bytes;
  full = bad.full;
  brought = bad.brought;
  fault = bad.fault;
  refused_is = law buffer table total bad.bytes (subst (IsGiven buffer) is is_given) ∙ bad.sums;
}))
table_refused Hears buffer given table total is_given tables is law (inr denied) =
    inr (inr (record { table = table; own = sym tables ∙ ap tables_in is; fault = denied.fault; told = denied.told }))

pub buffer_refused : (Hears : Hearing) (buffer : Buffer) (given : Pieces) (table : Desc) (total : ℕ) (result : Result Progress NoMemory) → IsGiven buffer given → tables_in given ≡ tables_of buffer
    → given ≡ Fetch table total
    → ((buffer : Buffer) (table : Desc) (total : ℕ) (bytes : List ℕ) → IsToFetch buffer table total → pieces buffer bytes ≡ summing_to total (descs_in bytes))
    → IfRefused result (HasBadSum Hears table total ⊎ DeniesTable Hears table) → IfRefused result (RefusesBuffer Hears buffer)
buffer_refused Hears buffer given table total result is_given tables is law =
    if_refused result (HasBadSum Hears table total ⊎ DeniesTable Hears table) (RefusesBuffer Hears buffer)
    (table_refused Hears buffer given table total is_given tables is law)

-- a command one of whose buffers is refused by itself
pub start_refused : (command : Cmd) (fault : DescFault) → command_refusal command ≡ Some fault → IsBad command.out ⊎ IsBad command.inn
start_refused command fault is = by (refusal command.out) refl
  where
    by : (why : Option DescFault) → refusal command.out ≡ why → IsBad command.out ⊎ IsBad command.inn
    by (Some first) e = inl (record { fault = first; refused_is = e })
    by None e = inr (record { fault = fault; refused_is = ap (λ (why : Option DescFault). first_refusal why (refusal command.inn)) (sym e) ∙ is })

pub bad_down : (Hears : Hearing) (command : Cmd) → IsBad command.out ⊎ IsBad command.inn → TurnsDown Hears command
bad_down Hears command (inl bad) = inl (inl bad)
bad_down Hears command (inr bad) = inr (inl (inl bad))
