-- What a unit has in hand of a command's data-in, from one step of its service to the next.
use Rattle.std.proofs.Common.{◌≡◌, ◌≢◌, ◌⊎◌, inl, inr, ◌+◌, ◌-◌, ◌<◌, ◌≤◌, ◌++◌, ℕ, min, Bool, true, false, nat_lt, List, [], ◌∷◌, Option, None, Some, length, take, drop, slice_get, slice_set, refl, sym, ◌∙◌, ap, subst, arith, length-append, length-take}
use Rattle.std.specs.Prelude.{slice_index}
use Rattle.std.proofs.lemmas.Bool.Decides.{nat_tests}
use Rattle.std.specs.List.{concat}
use Rattle.std.proofs.Math.Seq.{take-add}
use Rattle.std.proofs.lemmas.List.{ext_get_or, get_or-append_right, get_or-drop, get_or-take, get_or_append_left, length-drop}
use Rattle.std.proofs.lemmas.Option.{slice_get_within}
use Rattle.vio_num.specs.declared.history.Served.{Served}
use Rattle.vio_num.specs.declared.names.UnitId.{UnitId}
use Rattle.srp_desc.specs.Pieces.{sum_of}
use Rattle.srp_iu.specs.Grammar.{Spells}
use Rattle.srp_iu.specs.Layout.{field}
use Rattle.srp_iu.specs.declared.buffer.Desc.{Desc}
use Rattle.srp_iu.specs.declared.command.Cmd.{Cmd}
use Rattle.srp_iu.specs.declared.unit.Iu.TheVariants as units
use Rattle.block_server.specs.Cargo.{AreShown, Cargo, HasOutParts, HasOutTable, HasToSend, HaveRunsTo, IsAccounted, IsRunning, IsToSend, KeepsCargo, Load, OfCommand, Pages, cargo}
use Rattle.block_server.specs.Cargo.Load.{fetching, given, none, sending, tabled}
use Rattle.block_server.specs.Carried.{AreDelivered, IsCarried, IsDelivered, address_of, data_at, delivery, IsOutFetched, fetch}
use Rattle.block_server.specs.Causes.{Hearing, IsNamed, Told, told_to}
use Rattle.block_server.specs.Parts.{IsPlacedAt, LiesAt}
use Rattle.block_server.specs.Makers.{same_unit}
use Rattle.block_server.specs.Records.{FillsRow}
use Rattle.block_server.specs.Runs.{HasRun, HaveRuns, IsNamedBy, IsPart, nth_delivery, nth_fetch, own_rows, table_count}
use Rattle.block_server.specs.declared.cursor.Cursor.{Cursor}
use Rattle.block_server.proofs.AnswerLaws.{get_at}
use Rattle.block_server.proofs.HandRows.{get_last, get_push, get_set, set_at}
use Rattle.block_server.proofs.NamedWindows.{unit_same}
use Rattle.block_server.proofs.RunLaws.{concat_push, long_push, moved_push, own_one, own_other, run_cut, run_whole, runs_more, runs_push}

pub keeps_same : (c c' : Cargo) → c' ≡ c → KeepsCargo c c'
keeps_same c c' same told asked is = subst (IsAccounted told asked) (sym same) is

pub keeps_on : (a b c : Cargo) → KeepsCargo a b → KeepsCargo b c → KeepsCargo a c
keeps_on a b c first next told asked is = next told asked (first told asked is)

-- the same of cargoes that are these
pub keeps_by : (c c' d d' : Cargo) → c ≡ d → c' ≡ d' → KeepsCargo d d' → KeepsCargo c c'
keeps_by c c' d d' was is keeps told asked all = subst (IsAccounted told asked) (sym is) (keeps told asked (subst (IsAccounted told asked) was all))

-- all rows but the one whose data-in are to be copied are so
settled : (told : Told → Bool) (load : Load) (place : ℕ) (row : Served) → ¬ IsToSend load place → IsToSend load place ⊎ IsDelivered told row → IsDelivered told row
settled told load place row other (inl is) = absurd (other is)
settled told load place row other (inr is) = is

-- the data-out of all rows were fetched, as one comes
outs_push : (told : Told → Bool) (id : UnitId) (rows : List Served) (new : Served) → IsOutFetched told new
    → ((place : ℕ) (row : Served) → slice_get rows place ≡ Some row → row.unit ≡ id → IsOutFetched told row)
    → (place : ℕ) (row : Served) → slice_get (rows ++ new ∷ []) place ≡ Some row → row.unit ≡ id → IsOutFetched told row
outs_push told id rows new is all place row there own = at (get_push rows new row place there)
  where
    at : (slice_get rows place ≡ Some row) ⊎ ((place ≡ length rows) × (row ≡ new)) → IsOutFetched told row
    at (inl old) = all place row old own
    at (inr last) = subst (IsOutFetched told) (sym last.1) is

-- ---- nothing is to be copied

pub still_none : (id : UnitId) (shown shown' : Pages) (rows : List Served) → shown'.count ≡ shown.count → KeepsCargo (cargo id shown none rows) (cargo id shown' none rows)
still_none id shown shown' rows same told asked is = record {
  rows = is.rows;
  outs = is.outs;
  load = tt;
  runs = λ so. subst (HaveRuns (told_to told id) (own_rows id rows) 0) (sym same) (is.runs so);
}

-- copies were made that are no row's
pub more_none : (id : UnitId) (shown shown' : Pages) (rows : List Served) → shown.count ≤ shown'.count → KeepsCargo (cargo id shown none rows) (cargo id shown' none rows)
more_none id shown shown' rows more told asked is = record {
  rows = is.rows;
  outs = is.outs;
  load = tt;
  runs = λ so. runs_more (told_to told id) (own_rows id rows) 0 shown.count shown'.count more (is.runs so);
}

-- a row without a run
no_run : (Hears : Hearing) (id : UnitId) (rows : List Served) (new : Served) (to : ℕ) → new.inn ≡ [] → new.out ≡ [] → HaveRuns Hears (own_rows id rows) 0 to
    → HaveRuns Hears (own_rows id (rows ++ new ∷ [])) 0 to
no_run Hears id rows new to blank no_out is = by (same_unit new.unit id) refl
  where
    by : (t : Bool) → same_unit new.unit id ≡ t → HaveRuns Hears (own_rows id (rows ++ new ∷ [])) 0 to
    by true mine = subst (λ (list : List Served). HaveRuns Hears list 0 to) (sym (own_one id rows [] new mine refl))
        (runs_push Hears (own_rows id rows) new 0 to to to (omega arith) (inl (record { next_is = refl; out_is = no_out; inn_is = blank })) is)
    by false other = subst (λ (list : List Served). HaveRuns Hears list 0 to) (sym (own_other id rows new other)) is

pub blank_none : (id : UnitId) (shown shown' : Pages) (rows : List Served) (new : Served) → shown'.count ≡ shown.count → new.inn ≡ [] → new.out ≡ []
    → KeepsCargo (cargo id shown none rows) (cargo id shown' none (rows ++ new ∷ []))
blank_none id shown shown' rows new same blank no_out told asked is = record {
  rows = each;
  outs = brought;
  load = tt;
  runs = λ so. subst (HaveRuns (told_to told id) (own_rows id (rows ++ new ∷ [])) 0) (sym same) (no_run (told_to told id) id rows new shown.count blank no_out (is.runs so));
}
  where
    brought : (place : ℕ) (row : Served) → slice_get (rows ++ new ∷ []) place ≡ Some row → row.unit ≡ id → IsOutFetched told row
    brought place row there own = outs_push told id rows new (inl no_out) is.outs place row there own

    each : (place : ℕ) (row : Served) → slice_get (rows ++ new ∷ []) place ≡ Some row → row.unit ≡ id → IsToSend none place ⊎ IsDelivered told row
    each place row there own = at (get_push rows new row place there)
      where
        at : (slice_get rows place ≡ Some row) ⊎ ((place ≡ length rows) × (row ≡ new)) → IsToSend none place ⊎ IsDelivered told row
        at (inl old) = is.rows place row old own
        at (inr last) = inr (inl (ap (λ (r : Served). r.inn) last.1 ∙ blank))

-- ---- tables are fetched

-- those of a command that is no longer in service are no row's
out_table_left : (Hears : Hearing) (command : Option Cmd) (outs : List Desc) (from to : ℕ) → OfCommand command (HasOutTable Hears outs from to) → from ≤ to
out_table_left Hears None outs from to is = absurd is
out_table_left Hears (Some command) outs from to is = omega (arith, is.after, is.next_is)

out_parts_left : (Hears : Hearing) (command : Option Cmd) (outs inns : List Desc) (shown : ℕ → ℕ) (done from to : ℕ) → OfCommand command (HasOutParts Hears outs inns shown done from to) → from ≤ to
out_parts_left Hears None outs inns shown done from to is = absurd is
out_parts_left Hears (Some command) outs inns shown done from to is = omega (arith, is.after, is.next_is)

pub tables_dropped : (id : UnitId) (shown shown' : Pages) (rows : List Served) (command : Option Cmd) (outs : List Desc) → shown.count ≤ shown'.count
    → KeepsCargo (cargo id shown (tabled command outs) rows) (cargo id shown' none rows)
tables_dropped id shown shown' rows command outs more told asked is = record { rows = is.rows; outs = is.outs; load = tt; runs = runs }
  where
    runs : asked ≡ true → HaveRuns (told_to told id) (own_rows id rows) 0 shown'.count
    runs so =
        let now = is.runs so in
        let left : now.reached ≤ shown.count = out_table_left (told_to told id) command outs now.reached shown.count now.now in
        runs_more (told_to told id) (own_rows id rows) 0 now.reached shown'.count (omega (arith, left, more)) now.runs

-- the table of data-out was found
pub out_tabled : (told : Told → Bool) (asked : Bool) (id : UnitId) (shown shown' : Pages) (rows : List Served) (command : Cmd) (outs : List Desc)
    → IsNamedBy (told_to told id) command.out outs shown.count → shown'.count ≡ shown.count + table_count command.out → IsAccounted told asked (cargo id shown none rows)
    → IsAccounted told asked (cargo id shown' (tabled (Some command) outs) rows)
out_tabled told asked id shown shown' rows command outs named more is = record {
  rows = is.rows;
  outs = is.outs;
  load = tt;
  runs = λ so. record { reached = shown.count; runs = is.runs so; now = record { first = shown.count; after = omega arith; out_named = named; next_is = more } };
}

-- where there is no command in service, no runs are asked
pub no_table : (id : UnitId) (shown : Pages) (rows : List Served) (command command' : Option Cmd) (outs : List Desc) → command ≡ None
    → KeepsCargo (cargo id shown (tabled command outs) rows) (cargo id shown (tabled command' outs) rows)
no_table id shown rows (Some command) command' outs none_is told asked is = absurd (cc (none_is))
no_table id shown rows None command' outs none_is told asked is = record { rows = is.rows; outs = is.outs; load = tt; runs = λ so. absurd (is.runs so).now }

-- no copy was made since
pub still_tabled : (id : UnitId) (shown shown' : Pages) (rows : List Served) (command : Option Cmd) (outs : List Desc) → shown'.count ≡ shown.count
    → KeepsCargo (cargo id shown (tabled command outs) rows) (cargo id shown' (tabled command outs) rows)
still_tabled id shown shown' rows command outs same told asked is = record {
  rows = is.rows;
  outs = is.outs;
  load = tt;
  runs = λ so. subst (λ (n : ℕ). HaveRunsTo (told_to told id) (own_rows id rows) (λ reached. OfCommand command (HasOutTable (told_to told id) outs reached n))) (sym same) (is.runs so);
}

-- ---- data-out are fetched

pub first_placed : (inns : List Desc) → IsPlacedAt inns (record { piece = 0; inside = 0; done = 0 })
first_placed inns = record { one = omega arith; done_is = omega arith; inside = omega arith }

-- they are no longer
pub dropped : (id : UnitId) (shown shown' : Pages) (rows : List Served) (command : Option Cmd) (cursor : Cursor) (outs inns : List Desc) → shown.count ≤ shown'.count
    → KeepsCargo (cargo id shown (fetching command cursor outs inns) rows) (cargo id shown' none rows)
dropped id shown shown' rows command cursor outs inns more told asked is = record { rows = is.rows; outs = is.outs; load = tt; runs = runs }
  where
    runs : asked ≡ true → HaveRuns (told_to told id) (own_rows id rows) 0 shown'.count
    runs so =
        let now = is.runs so in
        let left : now.reached ≤ shown.count = out_parts_left (told_to told id) command outs inns shown.bytes cursor.done now.reached shown.count now.now in
        runs_more (told_to told id) (own_rows id rows) 0 now.reached shown'.count (omega (arith, left, more)) now.runs

-- the table of data-in was found
pub begun : (told : Told → Bool) (asked : Bool) (id : UnitId) (shown shown' : Pages) (rows : List Served) (command : Cmd) (outs inns : List Desc)
    → IsNamedBy (told_to told id) command.inn inns shown.count → shown'.count ≡ shown.count + table_count command.inn
    → IsAccounted told asked (cargo id shown (tabled (Some command) outs) rows)
    → IsAccounted told asked (cargo id shown' (fetching (Some command) (record { piece = 0; inside = 0; done = 0 }) outs inns) rows)
begun told asked id shown shown' rows command outs inns named more is = record {
  rows = is.rows;
  outs = is.outs;
  load = record { placed = first_placed outs; brought = λ k less. absurd (omega (arith, less)) };
  runs = λ so.
      let now = is.runs so in
      record {
        reached = now.reached;
        runs = now.runs;
        now = record {
          first = now.now.first;
          after = now.now.after;
          out_named = now.now.out_named;
          in_named = subst (IsNamedBy (told_to told id) command.inn inns) now.now.next_is named;
          parts = [];
          brought = tt;
          few = omega arith;
          long = refl;
          shows = λ k less. absurd (omega (arith, less));
          next_is = omega (arith, more, now.now.next_is);
        };
      };
}

pub no_parts : (id : UnitId) (shown : Pages) (rows : List Served) (command command' : Option Cmd) (cursor : Cursor) (outs inns : List Desc) → command ≡ None
    → KeepsCargo (cargo id shown (fetching command cursor outs inns) rows) (cargo id shown (fetching command' cursor outs inns) rows)
no_parts id shown rows (Some command) command' cursor outs inns none_is told asked is = absurd (cc (none_is))
no_parts id shown rows None command' cursor outs inns none_is told asked is = record {
  rows = is.rows;
  outs = is.outs;
  load = record { placed = is.load.placed; brought = is.load.brought };
  runs = λ so. absurd (is.runs so).now;
}

-- what is shown of a list with a part more
shows_more : (shown shown' : ℕ → ℕ) (front part : List ℕ) (at len : ℕ) → length front ≡ at → length part ≡ len → ((k : ℕ) → k < len → shown' (at + k) ≡ slice_index part k)
    → ((k : ℕ) → k < at → shown' k ≡ shown k) → AreShown shown front → AreShown shown' (front ++ part)
shows_more shown shown' front part at len first long shows rest is k less = by (nat_lt k at) refl
  where
    by : (b : Bool) → nat_lt k at ≡ b → shown' k ≡ slice_index (front ++ part) k
    by true before =
        let below : k < at = grind (arith, nat_tests) in
        rest k below ∙ is k (omega (arith, below, first)) ∙ sym (get_or_append_left front part 0 k (omega (arith, below, first)))
    by false behind =
        let from : at ≤ k = grind (arith, nat_tests) in
        let to : k - at < len = omega (arith, from, less, first, long, length-append front part) in
        let same : at + (k - at) ≡ k = omega (arith, from) in
        ap shown' (sym same) ∙ shows (k - at) to ∙ sym (get_or-append_right front part at k 0 first from)

parts_more : (Hears : Hearing) (command : Option Cmd) (outs inns : List Desc) (shown shown' : Pages) (done done' reached : ℕ) (part : List ℕ) (len address : ℕ) → length part ≡ len
    → done' ≡ done + len → ((k : ℕ) → k < len → shown'.bytes (done + k) ≡ slice_index part k) → ((k : ℕ) → k < done → shown'.bytes k ≡ shown.bytes k)
    → IsPart outs (sum_of outs) done address len → done + len ≤ sum_of outs → nth_fetch Hears shown.count (data_at + done) address part → shown'.count ≡ shown.count + 1
    → OfCommand command (HasOutParts Hears outs inns shown.bytes done reached shown.count) → OfCommand command (HasOutParts Hears outs inns shown'.bytes done' reached shown'.count)
parts_more Hears None outs inns shown shown' done done' reached part len address long on shows rest of_part inside numbered more is = absurd is
parts_more Hears (Some command) outs inns shown shown' done done' reached part len address long on shows rest of_part inside numbered more is = record {
  first = is.first;
  after = is.after;
  out_named = is.out_named;
  in_named = is.in_named;
  parts = is.parts ++ part ∷ [];
  brought = moved_push (nth_fetch Hears) outs (sum_of outs) (is.first + table_count command.out + table_count command.inn) 0 shown.count done is.parts part is.next_is (omega (arith, is.long))
      (record { address = address; part_is = subst (IsPart outs (sum_of outs) done address) (sym long) of_part; moved = numbered }) is.brought;
  few = omega (arith, on, inside);
  long = ap length (concat_push is.parts part) ∙ omega (arith, length-append (concat is.parts) part, is.long, long, on);
  shows = subst (AreShown shown'.bytes) (sym (concat_push is.parts part)) (shows_more shown.bytes shown'.bytes (concat is.parts) part done len is.long long shows rest is.shows);
  next_is = omega (arith, more, is.next_is, long_push is.parts part);
}

-- a part of them was copied
pub moved_fetching : (told : Told → Bool) (asked : Bool) (id : UnitId) (shown shown' : Pages) (rows : List Served) (command : Option Cmd) (cursor cursor' : Cursor) (outs inns : List Desc)
    (part : List ℕ) (len address : ℕ) → length part ≡ len → len ≤ 65536 → LiesAt outs cursor.done (Some address) len → cursor'.done ≡ cursor.done + len
    → IsPlacedAt outs cursor' → fetch (told_to told id) (data_at + cursor.done) address part
    → ((k : ℕ) → k < len → shown'.bytes (cursor.done + k) ≡ slice_index part k) → ((k : ℕ) → k < cursor.done → shown'.bytes k ≡ shown.bytes k)
    → IsPart outs (sum_of outs) cursor.done address len → cursor.done + len ≤ sum_of outs
    → nth_fetch (told_to told id) shown.count (data_at + cursor.done) address part → shown'.count ≡ shown.count + 1
    → IsAccounted told asked (cargo id shown (fetching command cursor outs inns) rows) → IsAccounted told asked (cargo id shown' (fetching command cursor' outs inns) rows)
moved_fetching told asked id shown shown' rows command cursor cursor' outs inns part len address long few lies on placed carried shows rest of_part inside numbered more is = record {
  rows = is.rows;
  outs = is.outs;
  load = record { placed = placed; brought = each };
  runs = λ so.
      let now = is.runs so in
      record {
        reached = now.reached;
        runs = now.runs;
        now = parts_more (told_to told id) command outs inns shown shown' cursor.done cursor'.done now.reached part len address long on shows rest of_part inside numbered more now.now;
      };
}
  where
    each : (k : ℕ) → k < cursor'.done → IsCarried (fetch (told_to told id)) outs k (shown'.bytes k)
    each k less = by (nat_lt k cursor.done) refl
      where
        by : (b : Bool) → nat_lt k cursor.done ≡ b → IsCarried (fetch (told_to told id)) outs k (shown'.bytes k)
        by true before =
            let below : k < cursor.done = grind (arith, nat_tests) in
            subst (λ (v : ℕ). IsCarried (fetch (told_to told id)) outs k v) (sym (rest k below)) (is.load.brought k below)
        by false behind =
            let from : cursor.done ≤ k = grind (arith, nat_tests) in
            let same : cursor.done + (k - cursor.done) ≡ k = omega (arith, from) in
            record {
              at = cursor.done;
              address = address;
              part = part;
              carried = carried;
              few = omega (arith, long, few);
              from = from;
              to = omega (arith, less, on, long);
              there = ap (address_of outs) (sym same) ∙ lies (k - cursor.done) (omega (arith, from, less, on));
              value_is = sym (shows (k - cursor.done) (omega (arith, from, less, on))) ∙ ap shown'.bytes same;
            }

-- ---- the disk step gave data-in

pub added_given : (told : Told → Bool) (asked : Bool) (id : UnitId) (shown shown' : Pages) (rows : List Served) (new : Served) (cursor : Cursor) (outs inns : List Desc) (bytes : List ℕ)
    (command : Cmd) → new.unit ≡ id → new.inn ≡ bytes → Spells new.iu (units.Cmd command) → IsNamed (told_to told id) command.inn inns → length bytes ≤ sum_of inns
    → IsNamed (told_to told id) command.out outs → length new.out ≡ sum_of outs → sum_of outs ≤ cursor.done → ((k : ℕ) → k < length new.out → shown.bytes k ≡ slice_index new.out k)
    → shown'.count ≡ shown.count
    → IsAccounted told asked (cargo id shown (fetching (Some command) cursor outs inns) rows) → IsAccounted told asked (cargo id shown' (given (length rows) inns bytes) (rows ++ new ∷ []))
added_given told asked id shown shown' rows new cursor outs inns bytes command unit inn spells named fits out_named out_long done shows same is = record {
  rows = each;
  outs = outs_push told id rows new (inr (record {
    command = command;
    spells = spells;
    outs = outs;
    out_named = subst (λ (u : UnitId). IsNamed (told_to told u) command.out outs) (sym unit) out_named;
    all = λ k less. subst (λ (z : UnitId × ℕ). IsCarried (fetch (told_to told z.0)) outs k z.1) (λ i. ((sym unit) i, shows k less i))
        (is.load.brought k (omega (arith, less, out_long, done)));
  })) is.outs;
  load = record { row = new; there = get_last rows new; unit_is = unit; inn_is = inn; command = command; spells = spells; in_named = named; fits = fits };
  runs = runs;
}
  where
    each : (place : ℕ) (row : Served) → slice_get (rows ++ new ∷ []) place ≡ Some row → row.unit ≡ id → IsToSend (given (length rows) inns bytes) place ⊎ IsDelivered told row
    each place row there own = at (get_push rows new row place there)
      where
        at : (slice_get rows place ≡ Some row) ⊎ ((place ≡ length rows) × (row ≡ new)) → IsToSend (given (length rows) inns bytes) place ⊎ IsDelivered told row
        at (inl old) = inr (settled told (fetching (Some command) cursor outs inns) place row (λ never. never) (is.rows place row old own))
        at (inr last) = inl last.0

    runs : asked ≡ true → IsRunning (told_to told id) (cargo id shown' (given (length rows) inns bytes) (rows ++ new ∷ [])) (length rows) inns bytes 0
    runs so =
        let now = is.runs so in
        let parts : List (List ℕ) = now.now.parts in
        let long : length (concat parts) ≡ length new.out = omega (arith, now.now.long, now.now.few, out_long, done) in
        record {
          front = rows;
          row = new;
          behind = [];
          rows_are = refl;
          place_is = refl;
          unit_is = unit;
          inn_is = inn;
          last = refl;
          reached = now.reached;
          runs = now.runs;
          first = now.now.first;
          after = now.now.after;
          run = record {
            command = command;
            spells = spells;
            outs = outs;
            out_named = now.now.out_named;
            in_named = now.now.in_named;
            out_parts = parts;
            brought = now.now.brought;
            out_all = out_long;
            out_is = ext_get_or 0 (concat parts) new.out long (λ k less. sym (now.now.shows k less) ∙ shows k (omega (arith, less, long)));
            in_parts = [];
            sent_all = tt;
            few = omega arith;
            in_is = refl;
            next_is = omega (arith, same, now.now.next_is);
          };
        }

-- what is to be sent does not depend on what the pages show
running : (Hears : Hearing) (id : UnitId) (shown shown' : Pages) (load load' : Load) (rows : List Served) (place : ℕ) (inns : List Desc) (bytes : List ℕ) (sent : ℕ) → shown'.count ≡ shown.count
    → IsRunning Hears (cargo id shown load rows) place inns bytes sent → IsRunning Hears (cargo id shown' load' rows) place inns bytes sent
running Hears id shown shown' load load' rows place inns bytes sent same is = record {
  front = is.front;
  row = is.row;
  behind = is.behind;
  rows_are = is.rows_are;
  place_is = is.place_is;
  unit_is = is.unit_is;
  inn_is = is.inn_is;
  last = is.last;
  reached = is.reached;
  runs = is.runs;
  first = is.first;
  after = is.after;
  run = subst (HasRun Hears is.row inns (length bytes) sent is.first) (sym same) is.run;
}

unfoldable pub to_send : (Hears : Hearing) (id : UnitId) (shown shown' : Pages) (load load' : Load) (rows : List Served) (place : ℕ) (inns : List Desc) (bytes : List ℕ)
    → HasToSend Hears (cargo id shown load rows) place inns bytes → HasToSend Hears (cargo id shown' load' rows) place inns bytes
to_send Hears id shown shown' load load' rows place inns bytes has = record {
  row = has.row;
  there = has.there;
  unit_is = has.unit_is;
  inn_is = has.inn_is;
  command = has.command;
  spells = has.spells;
  in_named = has.in_named;
  fits = has.fits;
}

pub still_given : (id : UnitId) (shown shown' : Pages) (rows : List Served) (place : ℕ) (inns : List Desc) (bytes : List ℕ) → shown'.count ≡ shown.count
    → KeepsCargo (cargo id shown (given place inns bytes) rows) (cargo id shown' (given place inns bytes) rows)
still_given id shown shown' rows place inns bytes same told asked is = record {
  rows = is.rows;
  outs = is.outs;
  load = to_send (told_to told id) id shown shown' (given place inns bytes) (given place inns bytes) rows place inns bytes is.load;
  runs = λ so. running (told_to told id) id shown shown' (given place inns bytes) (given place inns bytes) rows place inns bytes 0 same (is.runs so);
}

-- ---- they lie on the data's pages

pub stored_given : (id : UnitId) (shown shown' : Pages) (rows : List Served) (place : ℕ) (inns : List Desc) (bytes : List ℕ) → AreShown shown'.bytes bytes → shown'.count ≡ shown.count
    → KeepsCargo (cargo id shown (given place inns bytes) rows) (cargo id shown' (sending place (record { piece = 0; inside = 0; done = 0 }) inns bytes) rows)
stored_given id shown shown' rows place inns bytes shows same told asked is = record {
  rows = is.rows;
  outs = is.outs;
  load = record {
    to_send = to_send (told_to told id) id shown shown' (given place inns bytes) (sending place (record { piece = 0; inside = 0; done = 0 }) inns bytes) rows place inns bytes is.load;
    placed = first_placed inns;
    sent = λ k less. absurd (omega (arith, less));
    shows = shows;
  };
  runs = λ so.
      running (told_to told id) id shown shown' (given place inns bytes) (sending place (record { piece = 0; inside = 0; done = 0 }) inns bytes) rows place inns bytes 0 same (is.runs so);
}

-- ---- a part of them was copied

more_sent : (Hears : Hearing) (tag : ℕ) (inns : List Desc) (bytes part : List ℕ) (at len address : ℕ) (shown : ℕ → ℕ) → AreShown shown bytes → length part ≡ len → len ≤ 65536
    → LiesAt inns at (Some address) len → delivery Hears tag (data_at + at) address part → ((k : ℕ) → k < len → slice_index part k ≡ shown (at + k))
    → AreDelivered Hears tag inns (min at (length bytes)) bytes → AreDelivered Hears tag inns (min (at + len) (length bytes)) bytes
more_sent Hears tag inns bytes part at len address shown shows long few lies carried shown_part sent k less = by (nat_lt k at) refl
  where
    by : (b : Bool) → nat_lt k at ≡ b → IsCarried (delivery Hears tag) inns k (slice_index bytes k)
    by true before = let below : k < at = grind (arith, nat_tests) in sent k (omega (arith, below, less))
    by false behind =
        let from : at ≤ k = grind (arith, nat_tests) in
        let to : k < at + len = omega (arith, less) in
        let inside : k < length bytes = omega (arith, less) in
        let same : at + (k - at) ≡ k = omega (arith, from) in
        record {
          at = at;
          address = address;
          part = part;
          carried = carried;
          few = omega (arith, long, few);
          from = from;
          to = omega (arith, to, long);
          there = ap (address_of inns) (sym same) ∙ lies (k - at) (omega (arith, from, to));
          value_is = shown_part (k - at) (omega (arith, from, to)) ∙ ap shown same ∙ shows k inside;
        }

-- what is shown from a place on, if a list is
part_is : (shown : ℕ → ℕ) (bytes part : List ℕ) (at len : ℕ) → AreShown shown bytes → length part ≡ len → at + len ≤ length bytes → ((k : ℕ) → k < len → slice_index part k ≡ shown (at + k))
    → take at bytes ++ part ≡ take (at + len) bytes
part_is shown bytes part at len shows long inside is =
    ap (λ (list : List ℕ). take at bytes ++ list) same ∙ sym (take-add at len bytes)
  where
    same : part ≡ take len (drop at bytes)
    same = ext_get_or 0 part (take len (drop at bytes)) (omega (arith, long, inside, length-take len (drop at bytes), length-drop at bytes))
        (λ k less. is k (omega (arith, less, long)) ∙ shows (at + k) (omega (arith, less, long, inside)) ∙ sym (get_or-take len (drop at bytes) k 0 (omega (arith, less, long)) ∙ get_or-drop at bytes k 0))

run_more : (Hears : Hearing) (row : Served) (inns : List Desc) (bytes part : List ℕ) (shown : ℕ → ℕ) (sent len address first next next' : ℕ) → row.inn ≡ bytes → AreShown shown bytes
    → length part ≡ len → ((k : ℕ) → k < len → slice_index part k ≡ shown (sent + k)) → IsPart inns (length bytes) sent address len → sent + len ≤ length bytes
    → nth_delivery Hears (field 8 8 row.iu) next (data_at + sent) address part → next' ≡ next + 1 → HasRun Hears row inns (length bytes) sent first next
    → HasRun Hears row inns (length bytes) (sent + len) first next'
run_more Hears row inns bytes part shown sent len address first next next' inn shows long shown_part of_part inside numbered more run = record {
  command = run.command;
  spells = run.spells;
  outs = run.outs;
  out_named = run.out_named;
  in_named = run.in_named;
  out_parts = run.out_parts;
  brought = run.brought;
  out_all = run.out_all;
  out_is = run.out_is;
  in_parts = run.in_parts ++ part ∷ [];
  sent_all = moved_push (nth_delivery Hears (field 8 8 row.iu)) inns (length bytes)
      (first + table_count run.command.out + table_count run.command.inn + length run.out_parts) 0 next sent run.in_parts part run.next_is
      (omega (arith, ap length run.in_is, length-take sent row.inn, run.few))
      (record { address = address; part_is = subst (IsPart inns (length bytes) sent address) (sym long) of_part; moved = numbered }) run.sent_all;
  few = omega (arith, inside, ap length inn);
  in_is = concat_push run.in_parts part ∙ ap (λ (list : List ℕ). list ++ part) (run.in_is ∙ ap (take sent) inn)
      ∙ part_is shown bytes part sent len shows long inside shown_part ∙ ap (take (sent + len)) (sym inn);
  next_is = omega (arith, more, run.next_is, long_push run.in_parts part);
}

pub moved_sending : (told : Told → Bool) (asked : Bool) (id : UnitId) (shown shown' : Pages) (rows : List Served) (place : ℕ) (cursor cursor' : Cursor) (inns : List Desc) (bytes part : List ℕ)
    (len address tag : ℕ) → shown'.bytes ≡ shown.bytes → length part ≡ len → len ≤ 65536 → LiesAt inns cursor.done (Some address) len → cursor'.done ≡ cursor.done + len
    → IsPlacedAt inns cursor' → ((row : Served) → slice_get rows place ≡ Some row → field 8 8 row.iu ≡ tag) → delivery (told_to told id) tag (data_at + cursor.done) address part
    → ((k : ℕ) → k < len → slice_index part k ≡ shown'.bytes (cursor.done + k)) → IsPart inns (length bytes) cursor.done address len → cursor.done + len ≤ length bytes
    → nth_delivery (told_to told id) tag shown.count (data_at + cursor.done) address part → shown'.count ≡ shown.count + 1
    → IsAccounted told asked (cargo id shown (sending place cursor inns bytes) rows)
    → IsAccounted told asked (cargo id shown' (sending place cursor' inns bytes) rows)
unfolding to_send
moved_sending told asked id shown shown' rows place cursor cursor' inns bytes part len address tag same long few lies on placed tagged carried shown_part of_part inside numbered more is = record {
  rows = is.rows;
  outs = is.outs;
  load = record {
    to_send = to_send (told_to told id) id shown shown' (sending place cursor inns bytes) (sending place cursor' inns bytes) rows place inns bytes is.load.to_send;
    placed = placed;
    sent = subst (λ (n : ℕ). AreDelivered (told_to told id) (field 8 8 is.load.to_send.row.iu) inns (min n (length bytes)) bytes) (sym on)
        (more_sent (told_to told id) (field 8 8 is.load.to_send.row.iu) inns bytes part cursor.done len address shown'.bytes shows' long few lies
        (subst (λ (t : ℕ). delivery (told_to told id) t (data_at + cursor.done) address part) (sym (tagged is.load.to_send.row is.load.to_send.there)) carried)
        shown_part is.load.sent);
    shows = shows';
  };
  runs = runs;
}
  where
    shows' : AreShown shown'.bytes bytes
    shows' = subst (λ (s : ℕ → ℕ). AreShown s bytes) (sym same) is.load.shows

    runs : asked ≡ true → IsRunning (told_to told id) (cargo id shown' (sending place cursor' inns bytes) rows) place inns bytes cursor'.done
    runs so =
        let now = is.runs so in
        let at : slice_get rows place ≡ Some now.row = (λ i. slice_get (now.rows_are i) (now.place_is i)) ∙ get_at now.front now.behind now.row in
        record {
          front = now.front;
          row = now.row;
          behind = now.behind;
          rows_are = now.rows_are;
          place_is = now.place_is;
          unit_is = now.unit_is;
          inn_is = now.inn_is;
          last = now.last;
          reached = now.reached;
          runs = now.runs;
          first = now.first;
          after = now.after;
          run = subst (λ (n : ℕ). HasRun (told_to told id) now.row inns (length bytes) n now.first shown'.count) (sym on)
              (run_more (told_to told id) now.row inns bytes part shown'.bytes cursor.done len address now.first shown.count shown'.count now.inn_is shows' long shown_part of_part inside
              (subst (λ (t : ℕ). nth_delivery (told_to told id) t shown.count (data_at + cursor.done) address part) (sym (tagged now.row at)) numbered) more now.run);
        }

-- ---- the service ends, or is broken off

-- the row's data-in are those that were delivered
delivered_part : (told : Told → Bool) (row : Served) (id : UnitId) (inns : List Desc) (bytes : List ℕ) (n : ℕ) (command : Cmd) → row.unit ≡ id → Spells row.iu (units.Cmd command)
    → IsNamed (told_to told id) command.inn inns → AreDelivered (told_to told id) (field 8 8 row.iu) inns n bytes → length row.inn ≡ n
    → ((k : ℕ) → k < n → slice_index row.inn k ≡ slice_index bytes k) → IsDelivered told row
delivered_part told row id inns bytes n command unit spells named sent long same = inr (record {
  command = command;
  spells = spells;
  inns = inns;
  in_named = subst (λ (u : UnitId). IsNamed (told_to told u) command.inn inns) (sym unit) named;
  all = λ k less.
      let below : k < n = omega (arith, less, long) in
      subst (λ (z : UnitId × ℕ). IsCarried (delivery (told_to told z.0) (field 8 8 row.iu)) inns k z.1) (λ i. ((sym unit) i, (sym (same k below)) i)) (sent k below);
})

-- a row that has its run is a unit's last
whole_runs : (Hears : Hearing) (id : UnitId) (shown : Pages) (load : Load) (rows : List Served) (place : ℕ) (inns : List Desc) (bytes : List ℕ) (sent to : ℕ) → length bytes ≤ sent
    → shown.count ≡ to → IsRunning Hears (cargo id shown load rows) place inns bytes sent → HaveRuns Hears (own_rows id rows) 0 to
whole_runs Hears id shown load rows place inns bytes sent to all count is =
    subst (λ (z : List Served × ℕ). HaveRuns Hears (own_rows id z.0) 0 z.1) (λ i. ((sym is.rows_are) i, count i))
    (subst (λ (list : List Served). HaveRuns Hears list 0 shown.count) (sym (own_one id is.front is.behind is.row (unit_same is.row.unit id is.unit_is) is.last))
    (runs_push Hears (own_rows id is.front) is.row 0 is.reached is.first shown.count is.after
    (inr (record { inns = inns; wanted = length bytes; run = run_whole Hears is.row inns (length bytes) sent is.first shown.count (omega (arith, all, ap length is.inn_is)) is.run })) is.runs))

-- the same of one that is cut
cut_runs : (Hears : Hearing) (id : UnitId) (shown : Pages) (load : Load) (rows rows' : List Served) (place : ℕ) (inns : List Desc) (bytes inn : List ℕ) (sent to : ℕ) → inn ≡ take sent bytes
    → shown.count ≡ to → FillsRow rows rows' place inn → IsRunning Hears (cargo id shown load rows) place inns bytes sent → HaveRuns Hears (own_rows id rows') 0 to
cut_runs Hears id shown load rows rows' place inns bytes inn sent to cut count fills is =
    subst (λ (z : List Served × ℕ). HaveRuns Hears (own_rows id z.0) 0 z.1) (λ i. ((sym filled) i, count i))
    (subst (λ (list : List Served). HaveRuns Hears list 0 shown.count) (sym (own_one id is.front is.behind new (unit_same is.row.unit id is.unit_is) is.last))
    (runs_push Hears (own_rows id is.front) new 0 is.reached is.first shown.count is.after
    (inr (record { inns = inns; wanted = length bytes; run = run_cut Hears is.row inns (length bytes) sent is.first shown.count inn (cut ∙ ap (take sent) (sym is.inn_is)) is.run })) is.runs))
  where
    new : Served
    new = record is.row { inn = inn }

    there : slice_get rows place ≡ Some is.row
    there = (λ i. slice_get (is.rows_are i) (is.place_is i)) ∙ get_at is.front is.behind is.row

    filled : rows' ≡ is.front ++ new ∷ is.behind
    filled = fills is.row there ∙ (λ i. slice_set (is.rows_are i) (is.place_is i) new) ∙ set_at is.front is.behind is.row new

pub sent_all : (id : UnitId) (shown shown' : Pages) (rows : List Served) (place : ℕ) (cursor : Cursor) (inns : List Desc) (bytes : List ℕ) → min (length bytes) (sum_of inns) ≤ cursor.done
    → shown'.count ≡ shown.count → KeepsCargo (cargo id shown (sending place cursor inns bytes) rows) (cargo id shown' none rows)
sent_all id shown shown' rows place cursor inns bytes done count told asked is = record {
  rows = each;
  outs = is.outs;
  load = tt;
  runs = λ so.
      whole_runs (told_to told id) id shown (sending place cursor inns bytes) rows place inns bytes cursor.done shown'.count (omega (arith, done, has.fits)) (sym count) (is.runs so);
}
  where
    has : HasToSend (told_to told id) (cargo id shown (sending place cursor inns bytes) rows) place inns bytes
    has = is.load.to_send

    each : (at : ℕ) (row : Served) → slice_get rows at ≡ Some row → row.unit ≡ id → IsToSend none at ⊎ IsDelivered told row
    each at row there own = inr (by (is.rows at row there own))
      where
        by : IsToSend (sending place cursor inns bytes) at ⊎ IsDelivered told row → IsDelivered told row
        by (inr all) = all
        by (inl here) =
            let same : row ≡ has.row = one row has.row (sym there ∙ ap (slice_get rows) here ∙ has.there) in
            let full : min cursor.done (length bytes) ≡ length bytes = omega (arith, done, has.fits) in
            subst (IsDelivered told) (sym same)
            (delivered_part told has.row id inns bytes (length bytes) has.command has.unit_is has.spells has.in_named
            (subst (λ (n : ℕ). AreDelivered (told_to told id) (field 8 8 has.row.iu) inns n bytes) full is.load.sent) (ap length has.inn_is)
            (λ k less. ap (λ (list : List ℕ). slice_index list k) has.inn_is))
          where
            one : (a b : Served) → Some a ≡ Some b → a ≡ b
            one a b e = cc (e)

-- the row's data-in are cut
cut_rows : (told : Told → Bool) (asked : Bool) (id : UnitId) (shown shown' : Pages) (rows rows' : List Served) (place : ℕ) (load : Load) (inns : List Desc) (bytes inn : List ℕ)
    (has : HasToSend (told_to told id) (cargo id shown load rows) place inns bytes) → FillsRow rows rows' place inn → IsDelivered told (record has.row { inn = inn })
    → ((at : ℕ) → IsToSend load at → at ≡ place) → (asked ≡ true → HaveRuns (told_to told id) (own_rows id rows') 0 shown'.count)
    → IsAccounted told asked (cargo id shown load rows) → IsAccounted told asked (cargo id shown' none rows')
cut_rows told asked id shown shown' rows rows' place load inns bytes inn has fills delivered only runs is = record { rows = each; outs = brought; load = tt; runs = runs }
  where
    same_out : IsOutFetched told has.row → IsOutFetched told (record has.row { inn = inn })
    same_out (inl empty) = inl empty
    same_out (inr all) = inr (record { command = all.command; spells = all.spells; outs = all.outs; out_named = all.out_named; all = all.all })

    brought : (at : ℕ) (row : Served) → slice_get rows' at ≡ Some row → row.unit ≡ id → IsOutFetched told row
    brought at row there own =
        by (get_set rows place at (record has.row { inn = inn }) row (slice_get_within rows place has.row has.there) (ap (λ list. slice_get list at) (sym (fills has.row has.there)) ∙ there))
      where
        by : ((at ≡ place) × (row ≡ record has.row { inn = inn })) ⊎ ((at ≢ place) × (slice_get rows at ≡ Some row)) → IsOutFetched told row
        by (inl here) = subst (IsOutFetched told) (sym here.1) (same_out (is.outs place has.row has.there has.unit_is))
        by (inr other) = is.outs at row other.1 own

    each : (at : ℕ) (row : Served) → slice_get rows' at ≡ Some row → row.unit ≡ id → IsToSend none at ⊎ IsDelivered told row
    each at row there own =
        by (get_set rows place at (record has.row { inn = inn }) row (slice_get_within rows place has.row has.there) (ap (λ list. slice_get list at) (sym (fills has.row has.there)) ∙ there))
      where
        by : ((at ≡ place) × (row ≡ record has.row { inn = inn })) ⊎ ((at ≢ place) × (slice_get rows at ≡ Some row)) → IsToSend none at ⊎ IsDelivered told row
        by (inl here) = inr (subst (IsDelivered told) (sym here.1) delivered)
        by (inr other) = inr (settled told load at row (λ is. other.0 (only at is)) (is.rows at row other.1 own))

pub cut_given : (id : UnitId) (shown shown' : Pages) (rows rows' : List Served) (place : ℕ) (inns : List Desc) (bytes : List ℕ) → shown'.count ≡ shown.count
    → FillsRow rows rows' place (take 0 bytes) → KeepsCargo (cargo id shown (given place inns bytes) rows) (cargo id shown' none rows')
cut_given id shown shown' rows rows' place inns bytes count fills told asked is =
    cut_rows told asked id shown shown' rows rows' place (given place inns bytes) inns bytes (take 0 bytes) is.load fills (inl refl) (λ at is. is)
    (λ so. cut_runs (told_to told id) id shown (given place inns bytes) rows rows' place inns bytes (take 0 bytes) 0 shown'.count refl (sym count) fills (is.runs so)) is

pub cut_sending : (id : UnitId) (shown shown' : Pages) (rows rows' : List Served) (place : ℕ) (cursor : Cursor) (inns : List Desc) (bytes : List ℕ)
    → shown'.count ≡ shown.count → FillsRow rows rows' place (take cursor.done bytes)
    → KeepsCargo (cargo id shown (sending place cursor inns bytes) rows) (cargo id shown' none rows')
cut_sending id shown shown' rows rows' place cursor inns bytes count fills told asked is =
    cut_rows told asked id shown shown' rows rows' place (sending place cursor inns bytes) inns bytes (take cursor.done bytes) has fills
    (delivered_part told (record has.row { inn = take cursor.done bytes }) id inns bytes (min cursor.done (length bytes)) has.command has.unit_is has.spells has.in_named is.load.sent
    (length-take cursor.done bytes) (λ k less. get_or-take cursor.done bytes k 0 (omega (arith, less)))) (λ at is. is)
    (λ so. cut_runs (told_to told id) id shown (sending place cursor inns bytes) rows rows' place inns bytes (take cursor.done bytes) cursor.done shown'.count refl (sym count) fills (is.runs so)) is
  where
    has : HasToSend (told_to told id) (cargo id shown (sending place cursor inns bytes) rows) place inns bytes
    has = is.load.to_send
