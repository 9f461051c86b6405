-- A row's run of copies is one still where more is heard.
use Rattle.std.proofs.Common.{inl, inr, ◌+◌, ℕ, List, [], ◌∷◌, length}
use Rattle.vio_num.specs.declared.history.Served.{Served}
use Rattle.srp_iu.specs.Layout.{field}
use Rattle.srp_iu.specs.declared.buffer.Buffer.{Buffer}
use Rattle.srp_iu.specs.declared.buffer.Desc.{Desc}
use Rattle.srp_desc.specs.Tables.{tables_of}
use Rattle.block_server.specs.Causes.{Hearing, Includes}
use Rattle.block_server.specs.Runs.{AreMoved, HasRun, HaveRuns, IsNamedBy, IsNthFetched, IsRun, Moving, nth_delivery, nth_fetch}

moved_more : (Moves More : Moving) → ((number at address : ℕ) (part : List ℕ) → Moves number at address part → More number at address part)
    → (list : List Desc) (wanted number at : ℕ) (parts : List (List ℕ)) → AreMoved Moves list wanted number at parts → AreMoved More list wanted number at parts
moved_more Moves More more list wanted number at [] is = tt
moved_more Moves More more list wanted number at (part ∷ parts) is = (
  record { address = is.0.address; part_is = is.0.part_is; moved = more _ _ _ part is.0.moved },
  moved_more Moves More more list wanted (number + 1) (at + length part) parts is.1,
)

nth_more : (Hears More : Hearing) → Includes Hears More → (tables : List Desc) (number : ℕ) (bytes : List ℕ) → IsNthFetched Hears tables number bytes → IsNthFetched More tables number bytes
nth_more Hears More more [] number bytes is = tt
nth_more Hears More more (table ∷ tables) number bytes is = more _ is

named_more : (Hears More : Hearing) → Includes Hears More → (buffer : Buffer) (list : List Desc) (number : ℕ) → IsNamedBy Hears buffer list number → IsNamedBy More buffer list number
named_more Hears More more buffer list number is = record {
  table = is.table;
  full = is.full;
  brought = nth_more Hears More more (tables_of buffer) number is.table is.brought;
  named_is = is.named_is;
}

has_run_more : (Hears More : Hearing) → Includes Hears More → (row : Served) (inns : List Desc) (wanted sent first next : ℕ) → HasRun Hears row inns wanted sent first next
    → HasRun More row inns wanted sent first next
has_run_more Hears More more row inns wanted sent first next is = record {
  command = is.command;
  spells = is.spells;
  outs = is.outs;
  out_named = named_more Hears More more _ _ _ is.out_named;
  in_named = named_more Hears More more _ _ _ is.in_named;
  out_parts = is.out_parts;
  brought = moved_more (nth_fetch Hears) (nth_fetch More) (λ number at address part moved. more _ moved) _ _ _ 0 is.out_parts is.brought;
  out_all = is.out_all;
  out_is = is.out_is;
  in_parts = is.in_parts;
  sent_all = moved_more (nth_delivery Hears (field 8 8 row.iu)) (nth_delivery More (field 8 8 row.iu)) (λ number at address part moved. more _ moved) _ _ _ 0 is.in_parts is.sent_all;
  few = is.few;
  in_is = is.in_is;
  next_is = is.next_is;
}

run_more : (Hears More : Hearing) → Includes Hears More → (row : Served) (first next : ℕ) → IsRun Hears row first next → IsRun More row first next
run_more Hears More more row first next (inl is) = inl is
run_more Hears More more row first next (inr is) =
    inr (record { inns = is.inns; wanted = is.wanted; run = has_run_more Hears More more row is.inns is.wanted (length row.inn) first next is.run })

pub runs_heard : (Hears More : Hearing) → Includes Hears More → (rows : List Served) (from to : ℕ) → HaveRuns Hears rows from to → HaveRuns More rows from to
runs_heard Hears More more [] from to is = is
runs_heard Hears More more (row ∷ rows) from to is = record {
  first = is.first;
  after = is.after;
  next = is.next;
  run = run_more Hears More more row is.first is.next is.run;
  behind = runs_heard Hears More more rows is.next to is.behind;
}
