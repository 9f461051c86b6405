-- What a record says of a raw call stays so as the run goes on: what there was of the units is there.
use Rattle.std.proofs.Common.{◌≡◌, ◌↔◌, ◌∙◌, ◌+◌, ◌/◌, ◌<◌, ℕ, true, false, List, [], ◌∷◌, Option, Some, None, IfSome, IsSome, IsSomeAnd, length, refl, sym, ap, subst}
use Rattle.std.specs.List.{slice_get}
use Rattle.std.specs.Option.{option_map}
use Rattle.vio_num.specs.declared.entry.Entry.{Entry}
use Rattle.vio_num.specs.declared.names.UnitId.{UnitId}
use Rattle.vio_num.specs.declared.hypervisor.Hrc.TheVariants as codes
use Rattle.boot_text.specs.declared.plan.Line.{Line}
use Rattle.boot_text.specs.declared.verb.Verb.{Verb}
use Rattle.boot_text.specs.declared.verb.Verb.TheVariants as verbs
use Rattle.hcall_table.specs.Named.{Place, unit_of}
use Rattle.hcall_table.specs.Rows.{further, row_of}
use Rattle.hcall_table.specs.declared.hcall.Hcall.{Hcall}
use Rattle.hcall_table.specs.declared.hcall.Hcall.TheVariants as rows
use Rattle.vio_trace.specs.declared.outcome.Outcome.{Outcome}
use Rattle.vio_trace.specs.declared.outcome.Outcome.TheVariants as outcomes
use Rattle.vio_trace.specs.declared.rows.LogRow.{LogRow}
use Rattle.page_slots.specs.Stroke.{StrokeValue}
use Rattle.tce_window.specs.PlainPort.{known_of}
use Rattle.tce_window.specs.Window.{strokes_at}
use Rattle.unit_region.specs.EntryAnswers.{is_list}
use Rattle.unit_region.specs.RegionLines.{IsFrontOn}
use Rattle.vcpu_run.specs.declared.driver.Driver.{Driver}
use Rattle.vcpu_run.specs.declared.pair.Pair.{Pair}
use Rattle.vcpu_run.specs.declared.unit_seat.Seat.{Seat}
use Rattle.vcpu_run.specs.declared.unit_seat.Seat.TheVariants as sits
use Rattle.vcpu_run.specs.CallsAnswered.{IsDone, IsListPut, IsListRead, IsListUntaken, IsUntaken, UnitSeen, WhyBusy, is_taken, no_client, pair_of, unit_seen, unit_then}
use Rattle.vcpu_run.specs.CallsSaid.{CallsSaid, IfDone, IsCallSaid, IsSaidOf, IsUnitSaid, UnitsSeen, seen_then}
use Rattle.vcpu_run.specs.LinesShow.{Sees, seen_at}
use Rattle.vcpu_run.specs.Machines.{AllStay, KeepsDriver, KeepsEntries, Stays}
use Rattle.vcpu_run.specs.Moments.{IsMoment}
use Rattle.vcpu_run.proofs.Listed.{came_from}
use Rattle.vcpu_run.proofs.MomentsThen.{then_more}
use Rattle.vcpu_run.proofs.ValuesBehind.{behind_more}

-- Of a unit the window has as many pages, all that there was is there, and what is held was.
pub record UnitGrows (a b : UnitSeen) : Type 0 where
  pub pages : b.pages ≡ a.pages
  pub values : (entry value : ℕ) → a.value_at entry value → b.value_at entry value
  pub puts : (entry value : ℕ) → a.put_at entry value → b.put_at entry value
  pub fronts : (page : ℕ) (front : Option (List StrokeValue)) → a.region.front_at page front → b.region.front_at page front
  pub held : a.is_held → b.is_held
  pub entries : (entry : Entry) → a.entry_put entry → b.entry_put entry

-- The same of each unit of a partition.
pub record UnitsGrow (a b : UnitsSeen) : Type 0 where
  pub place : b.place ≡ a.place
  pub units : (unit : ℕ) → UnitGrows (a.of_unit unit) (b.of_unit unit)

pub unit_still : (seen : UnitSeen) → UnitGrows seen seen
unit_still seen = record { pages = refl; values = λ entry value is. is; puts = λ entry value is. is; fronts = λ page front is. is; held = λ is. is; entries = λ entry is. is }

pub unit_like : (o p : Option Pair) → p ≡ o → UnitGrows (unit_seen o) (unit_seen p)
unit_like o p same = subst (λ (q : Option Pair). UnitGrows (unit_seen o) (unit_seen q)) (sym same) (unit_still (unit_seen o))

-- a list that was read, and put or not
list_read_more : (a b : UnitSeen) → UnitGrows a b → (list count : ℕ) (values : List ℕ) → IsListRead a.region list count values → IsListRead b.region list count values
list_read_more a b more list count values is = record {
  count_is = is.count_is;
  bytes = is.bytes;
  spelled = is.spelled;
  read = λ some.
      let read = is.read some in
      record { fronts = read.fronts; there = λ page touched. more.fronts page (read.fronts page) (read.there page touched); read = read.read };
}

list_put_more : (a b : UnitSeen) → UnitGrows a b → (address list count : ℕ) → IfSome a.pages (λ pages. IsListPut a pages address list count)
    → IfSome b.pages (λ pages. IsListPut b pages address list count)
list_put_more a b more address list count is = subst (λ (o : Option ℕ). IfSome o (λ pages. IsListPut b pages address list count)) (sym more.pages) (at a.pages is)
  where
    at : (o : Option ℕ) → IfSome o (λ pages. IsListPut a pages address list count) → IfSome o (λ pages. IsListPut b pages address list count)
    at None h = tt
    at (Some pages) h = record {
      values = h.values;
      read = list_read_more a b more list count h.values h.read;
      taken = h.taken;
      put = λ j value there. more.puts (address / 4096 + j) value (h.put j value there);
    }

list_untaken_more : (a b : UnitSeen) → UnitGrows a b → (address list count : ℕ)
    → IfSome a.pages (λ pages. is_list pages list count ≡ true → IsListUntaken a.region pages address list count)
    → IfSome b.pages (λ pages. is_list pages list count ≡ true → IsListUntaken b.region pages address list count)
list_untaken_more a b more address list count is =
    subst (λ (o : Option ℕ). IfSome o (λ pages. is_list pages list count ≡ true → IsListUntaken b.region pages address list count)) (sym more.pages) (at a.pages is)
  where
    at : (o : Option ℕ) → IfSome o (λ pages. is_list pages list count ≡ true → IsListUntaken a.region pages address list count)
        → IfSome o (λ pages. is_list pages list count ≡ true → IsListUntaken b.region pages address list count)
    at None h = tt
    at (Some pages) h = λ good.
        let untaken = h good in
        record { values = untaken.values; read = list_read_more a b more list count untaken.values untaken.read; refused = untaken.refused }

-- why a call was not taken is so still
untaken_more : (a b : UnitSeen) → UnitGrows a b → (row : Hcall) (args : List ℕ) → IsUntaken a row args → IsUntaken b row args
untaken_more a b more rows.PutTceIndirect [] is = tt
untaken_more a b more rows.PutTceIndirect (address ∷ []) is = tt
untaken_more a b more rows.PutTceIndirect (address ∷ list ∷ []) is = tt
untaken_more a b more rows.PutTceIndirect (address ∷ list ∷ count ∷ []) is = list_untaken_more a b more address list count is
untaken_more a b more rows.PutTceIndirect (address ∷ list ∷ count ∷ other ∷ others) is = tt
untaken_more a b more rows.GetTce args is = tt
untaken_more a b more rows.PutTce args is = tt
untaken_more a b more rows.StuffTce args is = tt
untaken_more a b more rows.SendCrq args is = tt
untaken_more a b more rows.RegCrq args is = tt
untaken_more a b more rows.FreeCrq args is = tt
untaken_more a b more rows.EnableCrq args is = tt
untaken_more a b more rows.CopyRdma args is = tt
untaken_more a b more rows.RegisterLogicalLan args is = tt
untaken_more a b more rows.FreeLogicalLan args is = tt
untaken_more a b more rows.AddLogicalLanBuffer args is = tt
untaken_more a b more rows.SendLogicalLan args is = tt
untaken_more a b more rows.MulticastCtrl args is = tt
untaken_more a b more rows.ChangeLogicalLanMac args is = tt

-- what is held, is so
busy_more : (a b : UnitSeen) → (a.is_held → b.is_held) → (row : Hcall) → WhyBusy a row → WhyBusy b row
busy_more a b more rows.PutTce is = more is
busy_more a b more rows.StuffTce is = more is
busy_more a b more rows.PutTceIndirect is = more is
busy_more a b more rows.GetTce is = tt
busy_more a b more rows.SendCrq is = tt
busy_more a b more rows.RegCrq is = tt
busy_more a b more rows.FreeCrq is = tt
busy_more a b more rows.EnableCrq is = tt
busy_more a b more rows.CopyRdma is = tt
busy_more a b more rows.RegisterLogicalLan is = tt
busy_more a b more rows.FreeLogicalLan is = tt
busy_more a b more rows.AddLogicalLanBuffer is = tt
busy_more a b more rows.SendLogicalLan is = tt
busy_more a b more rows.MulticastCtrl is = tt
busy_more a b more rows.ChangeLogicalLanMac is = tt

-- what a call did is there still
done_more : (a b : UnitSeen) → UnitGrows a b → (row : Hcall) (args : List ℕ) (value : ℕ) → IsDone a row args value → IsDone b row args value
done_more a b more rows.GetTce [] value is = tt
done_more a b more rows.GetTce (address ∷ []) value is = more.values _ value is
done_more a b more rows.GetTce (address ∷ other ∷ others) value is = tt
done_more a b more rows.PutTce [] value is = tt
done_more a b more rows.PutTce (address ∷ []) value is = tt
done_more a b more rows.PutTce (address ∷ put ∷ []) value is = more.puts _ put is
done_more a b more rows.PutTce (address ∷ put ∷ other ∷ others) value is = tt
done_more a b more rows.SendCrq [] value is = tt
done_more a b more rows.SendCrq (high ∷ []) value is = tt
done_more a b more rows.SendCrq (high ∷ low ∷ []) value is = more.entries _ is
done_more a b more rows.SendCrq (high ∷ low ∷ other ∷ others) value is = tt
done_more a b more rows.StuffTce [] value is = tt
done_more a b more rows.StuffTce (address ∷ []) value is = tt
done_more a b more rows.StuffTce (address ∷ put ∷ []) value is = tt
done_more a b more rows.StuffTce (address ∷ put ∷ count ∷ []) value is = λ j less. more.puts _ put (is j less)
done_more a b more rows.StuffTce (address ∷ put ∷ count ∷ other ∷ others) value is = tt
done_more a b more rows.PutTceIndirect [] value is = tt
done_more a b more rows.PutTceIndirect (address ∷ []) value is = tt
done_more a b more rows.PutTceIndirect (address ∷ list ∷ []) value is = tt
done_more a b more rows.PutTceIndirect (address ∷ list ∷ count ∷ []) value is = list_put_more a b more address list count is
done_more a b more rows.PutTceIndirect (address ∷ list ∷ count ∷ other ∷ others) value is = tt
done_more a b more rows.RegCrq args value is = tt
done_more a b more rows.FreeCrq args value is = tt
done_more a b more rows.EnableCrq args value is = tt
done_more a b more rows.CopyRdma args value is = tt
done_more a b more rows.RegisterLogicalLan args value is = tt
done_more a b more rows.FreeLogicalLan args value is = tt
done_more a b more rows.AddLogicalLanBuffer args value is = tt
done_more a b more rows.SendLogicalLan args value is = tt
done_more a b more rows.MulticastCtrl args value is = tt
done_more a b more rows.ChangeLogicalLanMac args value is = tt

pub done_if : (P Q : ℕ → Type 0) → ((value : ℕ) → P value → Q value) → (outcome : Outcome) → IfDone outcome P → IfDone outcome Q
done_if P Q more (outcomes.Granted credits) is = tt
done_if P Q more (outcomes.Sent tag) is = tt
done_if P Q more (outcomes.Took count) is = tt
done_if P Q more outcomes.Lost is = tt
done_if P Q more (outcomes.TookThenLost count) is = tt
done_if P Q more (outcomes.Rejected reason) is = tt
done_if P Q more outcomes.Unanswered is = tt
done_if P Q more outcomes.Range is = tt
done_if P Q more outcomes.NotLoggedIn is = tt
done_if P Q more (outcomes.NoCredit limit) is = tt
done_if P Q more (outcomes.Overlap tag) is = tt
done_if P Q more outcomes.Closed is = tt
done_if P Q more (outcomes.Dropped number held) is = tt
done_if P Q more (outcomes.Data size sum) is = tt
done_if P Q more (outcomes.Stale page) is = tt
done_if P Q more outcomes.Unknown is = tt
done_if P Q more (outcomes.Code codes.Success) is = more 0 is
done_if P Q more (outcomes.Code codes.Busy) is = tt
done_if P Q more (outcomes.Code codes.Closed) is = tt
done_if P Q more (outcomes.Code codes.Function) is = tt
done_if P Q more (outcomes.Code codes.Parameter) is = tt
done_if P Q more (outcomes.Code codes.NotFound) is = tt
done_if P Q more (outcomes.Code codes.Dropped) is = tt
done_if P Q more (outcomes.Code codes.SourceParm) is = tt
done_if P Q more (outcomes.Code codes.DestParm) is = tt
done_if P Q more (outcomes.Code codes.Resource) is = tt
done_if P Q more (outcomes.Value value) is = more value is
done_if P Q more (outcomes.Posted buffers code) is = tt
done_if P Q more (outcomes.Frame code number) is = tt
done_if P Q more outcomes.Done is = tt
done_if P Q more (outcomes.Bytes shown) is = tt

pub unit_more : (a b : UnitSeen) → UnitGrows a b → (row : Hcall) (args : List ℕ) (outcome : Outcome) → IsUnitSaid a row args outcome → IsUnitSaid b row args outcome
unit_more a b more row args outcome is = record {
  parameter = subst (λ (pages : Option ℕ). IfSome (is_taken row pages args) (λ taken. (outcome ≡ outcomes.Code codes.Parameter) ↔ (taken ≡ false))) (sym more.pages) is.parameter;
  refused = λ e. untaken_more a b more row args (is.refused e);
  busy = λ e. busy_more a b more.held row (is.busy e);
  done = done_if (IsDone a row args) (IsDone b row args) (λ value. done_more a b more row args value) outcome is.done;
}

unit_on : (a b : UnitsSeen) → UnitsGrow a b → (row : Hcall) (args : List ℕ) (outcome : Outcome) (unit : Option ℕ)
    → IfSome unit (λ unit. IsUnitSaid (a.of_unit unit) row args outcome) → IfSome unit (λ unit. IsUnitSaid (b.of_unit unit) row args outcome)
unit_on a b more row args outcome None is = tt
unit_on a b more row args outcome (Some unit) is = unit_more (a.of_unit unit) (b.of_unit unit) (more.units unit) row args outcome is

here_more : (a b : UnitsSeen) → UnitsGrow a b → (args : List ℕ) (outcome : Outcome) (row : Option Hcall)
    → IfSome row (λ row. IfSome (unit_of a.place row args) (λ unit. IsUnitSaid (a.of_unit unit) row (further row args) outcome))
    → IfSome row (λ row. IfSome (unit_of b.place row args) (λ unit. IsUnitSaid (b.of_unit unit) row (further row args) outcome))
here_more a b more args outcome None is = tt
here_more a b more args outcome (Some row) is =
    subst (λ (place : Place). IfSome (unit_of place row args) (λ unit. IsUnitSaid (b.of_unit unit) row (further row args) outcome)) (sym more.place)
    (unit_on a b more row (further row args) outcome (unit_of a.place row args) is)

pub call_more : (a b : UnitsSeen) → UnitsGrow a b → (number : ℕ) (args : List ℕ) (outcome : Outcome) → IsCallSaid a number args outcome → IsCallSaid b number args outcome
call_more a b more number args outcome is = record {
  row = is.row;
  elsewhere = subst (λ (place : Place). IfSome (row_of number) (λ row. unit_of place row args ≡ None → outcome ≡ outcomes.Code codes.Parameter)) (sym more.place) is.elsewhere;
  here = here_more a b more args outcome (row_of number) is.here;
}

pub said_more : (a b : UnitsSeen) → UnitsGrow a b → (verb : Verb) (outcome : Outcome) → IsSaidOf a verb outcome → IsSaidOf b verb outcome
said_more a b more verbs.Login outcome is = tt
said_more a b more verbs.Reset outcome is = tt
said_more a b more verbs.Logout outcome is = tt
said_more a b more verbs.Tur outcome is = tt
said_more a b more (verbs.Read lba blocks at pieces table) outcome is = tt
said_more a b more (verbs.Write lba blocks at pieces table) outcome is = tt
said_more a b more (verbs.Command cdb) outcome is = tt
said_more a b more (verbs.CommandIn cdb at len pieces table) outcome is = tt
said_more a b more (verbs.CommandOut cdb at len pieces table) outcome is = tt
said_more a b more (verbs.Task function of) outcome is = tt
said_more a b more (verbs.Take count) outcome is = tt
said_more a b more (verbs.Data of) outcome is = tt
said_more a b more verbs.Open outcome is = tt
said_more a b more verbs.Close outcome is = tt
said_more a b more (verbs.Post at len count) outcome is = tt
said_more a b more (verbs.Send to len seed at) outcome is = tt
said_more a b more (verbs.ChangeMac own) outcome is = tt
said_more a b more (verbs.Multicast control group) outcome is = tt
said_more a b more (verbs.Fill at len seed) outcome is = tt
said_more a b more (verbs.Poke at bytes) outcome is = tt
said_more a b more (verbs.Peek at len) outcome is = tt
said_more a b more (verbs.Tce entry page readable writable) outcome is = tt
said_more a b more (verbs.Hcall number args) outcome is = call_more a b more number args outcome is
said_more a b more verbs.Fail outcome is = tt

pub calls_more : (a b : ℕ → UnitsSeen) (lines : List Line) (rows : List LogRow)
    → ((i : ℕ) (line : Line) (row : LogRow) → slice_get lines i ≡ Some line → slice_get rows i ≡ Some row → UnitsGrow (a line.number) (b line.number))
    → CallsSaid a lines rows → CallsSaid b lines rows
calls_more a b lines rows more is i line row there at =
    said_more (a line.number) (b line.number) (more i line row there at) line.verb row.outcome (is i line row there at)

-- a unit's window is of as many pages while its driver stays
pages_keep : (m n : ℕ) (old new : Option Driver) → n ≡ m → KeepsDriver old new → option_map (λ (driver : Driver). n) new ≡ option_map (λ (driver : Driver). m) old
pages_keep m n None new same keeps = ap (option_map (λ (driver : Driver). n)) keeps
pages_keep m n (Some old) None same keeps = absurd keeps
pages_keep m n (Some old) (Some new) same keeps = ap Some same

-- each client of a pair has strokes of its own behind those of each page of its region that are of later lines than this one alone
abbrev pub LaysLater : (number : ℕ) → (old new : List Pair) → Type 0
LaysLater number old new = (k : ℕ) (before after : Pair) → slice_get old k ≡ Some before → slice_get new k ≡ Some after → (page : ℕ)
    → IsFrontOn before.window.unit (λ m. number < m) (strokes_at before.window.pages page) (strokes_at after.window.pages page)

pair_then : (number : ℕ) (old new : Pair) → Stays old new → Sees (seen_at old) (seen_at new) → KeepsEntries old new
    → ((page : ℕ) → IsFrontOn old.window.unit (λ m. number < m) (strokes_at old.window.pages page) (strokes_at new.window.pages page))
    → UnitGrows (unit_then number (Some old)) (unit_then number (Some new))
pair_then number old new stays sees keeps lays = record {
  pages = pages_keep (length old.window.pages) (length new.window.pages) old.driver new.driver stays.pages stays.driver;
  values = sees.values;
  puts = λ entry value is. behind_more ((known_of old.window).values entry) ((known_of new.window).values entry) value (keeps entry) is;
  fronts = λ page front is.
      subst (λ (id : UnitId). IsMoment id number front (strokes_at new.window.pages page) × IsSome front) (sym stays.client_unit)
      (then_more old.window.unit number front (strokes_at old.window.pages page) (strokes_at new.window.pages page) (lays page) is);
  held = λ some none. some (sym stays.held ∙ none);
  entries = sees.entries;
}

-- what turns leave of what was seen of a partition's units as a line ended
pub then_grows : (number partition : ℕ) (seats : List Seat) (old new : List Pair) → AllStay old new → LaysLater number old new
    → UnitsGrow (seen_then number partition seats old) (seen_then number partition seats new)
then_grows number partition seats old new stay lays = record { place = refl; units = λ unit. at (slice_get seats unit) }
  where
    gone : (k : ℕ) (pair : Pair) → slice_get new k ≡ Some pair → slice_get old k ≡ None → ⊥
    gone k pair there none =
        let from = came_from Stays old new stay.count stay.each k pair there in
        apart from.0 (sym none ∙ from.1)
      where
        apart : (pair : Pair) → None ≡ Some pair → ⊥
        apart pair e = cc

    pair_grows : (k : ℕ) (o p : Option Pair) → slice_get old k ≡ o → slice_get new k ≡ p → IfSome o (λ before. IsSomeAnd p (Stays before))
        → IfSome o (λ before. IsSomeAnd p (λ later. Sees (seen_at before) (seen_at later))) → IfSome o (λ before. IsSomeAnd p (KeepsEntries before)) → UnitGrows (unit_then number o) (unit_then number p)
    pair_grows k None None was is stays sees keeps = unit_still no_client
    pair_grows k None (Some after) was is stays sees keeps = absurd (gone k after is was)
    pair_grows k (Some before) None was is stays sees keeps = absurd stays
    pair_grows k (Some before) (Some after) was is stays sees keeps = pair_then number before after stays sees keeps (lays k before after was is)

    if_there : (P : Pair → Type 0) (o : Option Pair) → ((pair : Pair) → o ≡ Some pair → P pair) → IfSome o P
    if_there P None f = tt
    if_there P (Some pair) f = f pair refl

    at : (seat : Option Seat) → UnitGrows (unit_then number (pair_of old seat)) (unit_then number (pair_of new seat))
    at None = unit_still no_client
    at (Some sits.Server) = unit_still no_client
    at (Some sits.Port) = unit_still no_client
    at (Some (sits.Client k)) =
        pair_grows k (slice_get old k) (slice_get new k) refl refl (if_there (λ before. IsSomeAnd (slice_get new k) (Stays before)) (slice_get old k) (stay.each k))
        (if_there (λ before. IsSomeAnd (slice_get new k) (λ later. Sees (seen_at before) (seen_at later))) (slice_get old k) (stay.sees k))
        (if_there (λ before. IsSomeAnd (slice_get new k) (KeepsEntries before)) (slice_get old k) (stay.values k))
