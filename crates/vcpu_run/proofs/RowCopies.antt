-- A gathered trace shows the copies that moved each row's answer and data, and the denials behind each session that ended as refused.
use Rattle.std.proofs.Common.{◌≡◌, ◌⊎◌, inl, inr, ◌∙◌, ℕ, Bool, true, false, cond, All, Contains, List, [], ◌∷◌, Some, filter, map, slice_get, slice_index, zero, suc, refl, sym, ap, subst, arith}
use Rattle.std.specs.List.{flat_map}
use Rattle.std.proofs.lemmas.List.Elements.{All-nil, All-cons, All-weaker, Contains-append_left, Contains-append_right}
use Rattle.vio_num.specs.declared.history.Grant.{Grant}
use Rattle.vio_num.specs.declared.history.Grant.TheVariants.{Granted, Lapsed}
use Rattle.vio_num.specs.declared.history.Lapse.TheVariants as lapses
use Rattle.vio_num.specs.declared.history.Served.{Served}
use Rattle.vio_num.specs.declared.names.UnitId.{UnitId}
use Rattle.crq_ring.specs.declared.rows.PipeRow.{PipeRow}
use Rattle.srp_iu.specs.declared.buffer.Buffer.{Buffer}
use Rattle.srp_iu.specs.declared.buffer.Desc.{Desc}
use Rattle.srp_iu.specs.Layout.{field}
use Rattle.srp_desc.specs.Tables.{tables_of}
use Rattle.rdma_copy.specs.declared.copy.CopyRecord.{CopyRecord}
use Rattle.block_server.specs.Carried.{HasDelivered, HasOutFetched, IsCarried, IsDelivered, IsOutFetched, delivery, fetch}
use Rattle.block_server.specs.Causes.{Hearing, Includes, IsFetched, IsNamed, Told, told_to}
use Rattle.block_server.specs.Granting.{IsGrantedOver}
use Rattle.block_server.specs.Refusals.{IsExplained, IsNotRead, IsNotWritten}
use Rattle.block_server.specs.Written.{AreWritten, IsAnswerWritten, IsWrittenOver}
use Rattle.vio_trace.specs.declared.window_rows.CopyRow.{CopyRow}
use Rattle.vcpu_run.specs.declared.pair.Pair.{Pair}
use Rattle.vcpu_run.specs.CopyRows.{copies_by, copy_row, same_unit}
use Rattle.vcpu_run.specs.Gathered.{copies_of}
use Rattle.vcpu_run.specs.RowsCopied.{IsCopied}
use Rattle.vcpu_run.proofs.Sole.{same_refl}

-- MORE IS HEARD ----------------------------------------------------------------------------------

fetched_more : (Hears More : Hearing) → Includes Hears More → (tables : List Desc) (bytes : List ℕ) → IsFetched Hears tables bytes → IsFetched More tables bytes
fetched_more Hears More more [] bytes is = tt
fetched_more Hears More more (table ∷ tables) bytes is = more _ is

named_more : (Hears More : Hearing) → Includes Hears More → (buffer : Buffer) (list : List Desc) → IsNamed Hears buffer list → IsNamed More buffer list
named_more Hears More more buffer list is = record {
  table = is.table;
  full = is.full;
  brought = fetched_more Hears More more (tables_of buffer) is.table is.brought;
  named_is = is.named_is;
}

written_more : (size : ℕ) (told : Told → Bool) (More : Hearing) (row : Served) → Includes (told_to told row.unit) More → IsAnswerWritten size told row → (row.answer ≡ []) ⊎ IsWrittenOver More row.iu row.answer
written_more size told More row more (inl none) = inl none
written_more size told More row more (inr is) = inr (record { address = is.0.address; brought = more _ is.0.brought; written = more _ is.0.written })

out_more : (Hears More : Hearing) → Includes Hears More → (row : Served) → (row.out ≡ []) ⊎ HasOutFetched Hears row → (row.out ≡ []) ⊎ HasOutFetched More row
out_more Hears More more row (inl none) = inl none
out_more Hears More more row (inr is) = inr (record {
  command = is.command;
  spells = is.spells;
  outs = is.outs;
  out_named = named_more Hears More more is.command.out is.outs is.out_named;
  all = λ k less. one k (is.all k less);
})
  where
    one : (k : ℕ) → IsCarried (fetch Hears) is.outs k (slice_index row.out k) → IsCarried (fetch More) is.outs k (slice_index row.out k)
    one k at = record { at = at.at; address = at.address; part = at.part; carried = more _ at.carried; few = at.few; from = at.from; to = at.to; there = at.there; value_is = at.value_is }

in_more : (Hears More : Hearing) → Includes Hears More → (row : Served) → (row.inn ≡ []) ⊎ HasDelivered Hears row → (row.inn ≡ []) ⊎ HasDelivered More row
in_more Hears More more row (inl none) = inl none
in_more Hears More more row (inr is) = inr (record {
  command = is.command;
  spells = is.spells;
  inns = is.inns;
  in_named = named_more Hears More more is.command.inn is.inns is.in_named;
  all = λ k less. one k (is.all k less);
})
  where
    one : (k : ℕ) → IsCarried (delivery Hears (field 8 8 row.iu)) is.inns k (slice_index row.inn k) → IsCarried (delivery More (field 8 8 row.iu)) is.inns k (slice_index row.inn k)
    one k at = record { at = at.at; address = at.address; part = at.part; carried = more _ at.carried; few = at.few; from = at.from; to = at.to; there = at.there; value_is = at.value_is }

either_more : (Hears More : Hearing) → Includes Hears More → (taken : List PipeRow) (session : ℕ) → IsNotRead Hears taken session ⊎ IsNotWritten Hears taken session
    → IsNotRead More taken session ⊎ IsNotWritten More taken session
either_more Hears More more taken session (inl is) = inl (record { number = is.number; entry = is.entry; at = is.at; fault = is.fault; told = more _ is.told })
either_more Hears More more taken session (inr is) =
    inr (record { number = is.number; entry = is.entry; at = is.at; len = is.len; answers = is.answers; fault = is.fault; told = more _ is.told })

pub granted_more : (Hears More : Hearing) → Includes Hears More → (taken : List PipeRow) (session number credits : ℕ) → IsGrantedOver Hears taken session number credits
    → IsGrantedOver More taken session number credits
granted_more Hears More more taken session number credits is = record {
  entry = is.entry;
  at = is.at;
  bytes = is.bytes;
  long = is.long;
  brought = more _ is.brought;
  asked = is.asked;
  asks = is.asks;
  may = is.may;
  answer = is.answer;
  grants = is.grants;
  written = more _ is.written;
}

explained_more : (Hears More : Hearing) → Includes Hears More → (unit : UnitId) (taken : List PipeRow) (line : Grant) → IsExplained Hears unit taken line → IsExplained More unit taken line
explained_more Hears More more unit taken (Granted of session login number credits) is = λ own. granted_more Hears More more taken session number credits (is own)
explained_more Hears More more unit taken (Lapsed of session login lapses.Logout outstanding granted) is = tt
explained_more Hears More more unit taken (Lapsed of session login lapses.Lost outstanding granted) is = tt
explained_more Hears More more unit taken (Lapsed of session login lapses.Early outstanding granted) is = tt
explained_more Hears More more unit taken (Lapsed of session login lapses.BadIu outstanding granted) is = tt
explained_more Hears More more unit taken (Lapsed of session login lapses.NotLogin outstanding granted) is = tt
explained_more Hears More more unit taken (Lapsed of session login lapses.OverLimit outstanding granted) is = tt
explained_more Hears More more unit taken (Lapsed of session login lapses.Refused outstanding granted) is = λ own. either_more Hears More more taken session (is own)

-- what is so of a row by what its unit was told
pub copied_more : (size : ℕ) (told : Told → Bool) (More : Hearing) (server : UnitId) (row : Served) → Includes (told_to told server) More → row.unit ≡ server
    → IsAnswerWritten size told row → IsOutFetched told row → IsDelivered told row → IsCopied More row
copied_more size told More server row more own written out inn = record {
  answer = written_more size told More row by written;
  out = out_more (told_to told row.unit) More by row out;
  inn = in_more (told_to told row.unit) More by row inn;
}
  where
    by : Includes (told_to told row.unit) More
    by news is = more news (subst (λ (unit : UnitId). told_to told unit news) own is)

pub all_explained_more : (Hears More : Hearing) → Includes Hears More → (unit : UnitId) (taken : List PipeRow) (lines : List Grant) → All (IsExplained Hears unit taken) lines → All (IsExplained More unit taken) lines
all_explained_more Hears More more unit taken lines = All-weaker (IsExplained Hears unit taken) (IsExplained More unit taken) (explained_more Hears More more unit taken) lines

-- each row of a history
pub written_each : (size : ℕ) (told : Told → Bool) (rows : List Served) → AreWritten size told rows → All (IsAnswerWritten size told) rows
written_each size told [] is = All-nil (IsAnswerWritten size told)
written_each size told (row ∷ rows) is = All-cons (IsAnswerWritten size told) row rows is.0 (written_each size told rows is.1)

-- COPIES OF A UNIT -------------------------------------------------------------------------------

contains_first : {X : Type 0} (x : X) (xs : List X) → Contains (x ∷ xs) x
contains_first x xs = (zero, omega arith, refl)

contains_next : {X : Type 0} (y x : X) (xs : List X) → Contains xs x → Contains (y ∷ xs) x
contains_next y x xs inside = (suc inside.0, omega (arith, inside.1), inside.2)

-- a copy by a unit has its row among the unit's
row_by : (unit : UnitId) (copies : List CopyRecord) (copy : CopyRecord) → copy.name.who ≡ unit → Contains copies copy → Contains (copies_by unit copies) (copy_row copy)
row_by unit [] copy who inside = absurd (omega (arith, inside.1))
row_by unit (first ∷ copies) copy who (zero, less, same) =
    subst (λ (b : Bool). Contains (map copy_row (cond b (first ∷ rest) rest)) (copy_row copy)) (sym is)
    (subst (λ (c : CopyRecord). Contains (copy_row first ∷ map copy_row rest) (copy_row c)) same (contains_first (copy_row first) (map copy_row rest)))
  where
    rest : List CopyRecord
    rest = filter (λ c. same_unit c.name.who unit) copies

    is : same_unit first.name.who unit ≡ true
    is = ap (λ (c : CopyRecord). same_unit c.name.who unit) same ∙ ap (λ u. same_unit u unit) who ∙ same_refl unit
row_by unit (first ∷ copies) copy who (suc k, less, same) = by (same_unit first.name.who unit) (row_by unit copies copy who (k, omega (arith, less), same))
  where
    rest : List CopyRecord
    rest = filter (λ c. same_unit c.name.who unit) copies

    by : (b : Bool) → Contains (map copy_row rest) (copy_row copy) → Contains (map copy_row (cond b (first ∷ rest) rest)) (copy_row copy)
    by true inside = contains_next (copy_row first) (copy_row copy) (map copy_row rest) inside
    by false inside = inside

flat_in : (copies : List CopyRecord) (pairs : List Pair) (k : ℕ) (pair : Pair) (row : CopyRow) → slice_get pairs k ≡ Some pair → Contains (copies_of copies pair) row → Contains (flat_map (copies_of copies) pairs) row
flat_in copies [] k pair row there inside = absurd (cc (there))
flat_in copies (first ∷ pairs) zero pair row there inside =
    Contains-append_left (copies_of copies first) (flat_map (copies_of copies) pairs) row (subst (λ (p : Pair). Contains (copies_of copies p) row) (one pair first (sym there)) inside)
  where
    one : (a b : Pair) → Some a ≡ Some b → a ≡ b
    one a b same = cc (same)
flat_in copies (first ∷ pairs) (suc k) pair row there inside =
    Contains-append_right (copies_of copies first) (flat_map (copies_of copies) pairs) row (flat_in copies pairs k pair row there inside)

-- and so among all
pub row_in_all : (server : UnitId) (copies : List CopyRecord) (pairs : List Pair) (k : ℕ) (pair : Pair) (copy : CopyRecord) → slice_get pairs k ≡ Some pair → pair.server ≡ server → copy.name.who ≡ server
    → Contains copies copy → Contains (flat_map (copies_of copies) pairs) (copy_row copy)
row_in_all server copies pairs k pair copy there is who inside =
    flat_in copies pairs k pair (copy_row copy) there (subst (λ (unit : UnitId). Contains (copies_by unit copies) (copy_row copy)) (sym is) (row_by server copies copy who inside))
