-- What raw calls answer at the unit that they name, and what is there once they did what they were asked.
use Rattle.std.specs.Prelude.{◌≡◌, ◌↔◌, ℕ, ◌+◌, ◌/◌, ◌<◌, ◌≢◌, nat_le, replicate, Bool, true, false, List, [], ◌∷◌, Option, Some, None, IfSome, drop, length, if◌then◌else◌, ⊤}
use Rattle.std.specs.List.{Contains, slice_get}
use Rattle.std.specs.Option.{option_map}
use Rattle.vio_num.specs.Entry.{first_byte}
use Rattle.vio_num.specs.declared.entry.Entry.{Entry}
use Rattle.vio_num.specs.declared.hypervisor.Hrc.{Hrc}
use Rattle.vio_num.specs.declared.hypervisor.Hrc.TheVariants as codes
use Rattle.vio_num.specs.declared.names.UnitId.{UnitId}
use Rattle.crq_session.specs.EndState.{EndState}
use Rattle.tce_window.specs.Answers.{is_entry}
use Rattle.tce_window.specs.PlainPort.{known_of}
use Rattle.tce_window.specs.Puts.{takes, takes_all}
use Rattle.tce_window.specs.Window.{strokes_at}
use Rattle.hcall_table.specs.declared.hcall.Hcall.{Hcall}
use Rattle.hcall_table.specs.declared.hcall.Hcall.TheVariants as rows
use Rattle.hcall_table.specs.declared.returned.Returned.{Returned}
use Rattle.unit_region.specs.EntryAnswers.{AreValuesOf, is_list}
use Rattle.unit_region.specs.RegionLines.{AreRead, RegionSeen, region_once, region_seen}
use Rattle.lan_script.specs.Entries.{values_at}
use Rattle.lan_script.specs.Regions.{strokes_at as region_strokes}
use Rattle.lan_script.specs.Seats.{seat_at}
use Rattle.lan_script.specs.Units.{LanValue}
use Rattle.vio_trace.specs.declared.outcome.Outcome.{Outcome}
use Rattle.vio_trace.specs.declared.outcome.Outcome.TheVariants as outcomes
use Rattle.vcpu_run.specs.declared.client_call.QueueCall.{QueueCall}
use Rattle.vcpu_run.specs.declared.client_call.QueueCall.TheVariants as queues
use Rattle.vcpu_run.specs.declared.pair.Pair.{Pair}
use Rattle.vcpu_run.specs.declared.unit_seat.Seat.{Seat}
use Rattle.vcpu_run.specs.declared.unit_seat.Seat.TheVariants as sits
use Rattle.vcpu_run.specs.LinesShow.{IsPutBy, seen_at}
use Rattle.vcpu_run.specs.RegionThen.{region_then}

-- What there is of a unit that raw calls name: of a client and of a LAN unit how many pages its window has, the values of its window's
-- entries and those that were put among them, its region, and whether something of the window is held; of a client what was put into its
-- server unit's queue, too. Of any other unit nothing is said.
pub record UnitSeen : Type 1 where
  pub pages : Option ℕ
  pub value_at : (entry value : ℕ) → Type 0
  pub put_at : (entry value : ℕ) → Type 0
  pub region : RegionSeen
  pub is_held : Type 0
  pub entry_put : Entry → Type 0

abbrev pub no_client : UnitSeen
no_client = record { pages = None; value_at = λ entry value. ⊤; put_at = λ entry value. ⊤; region = region_once (λ page. None); is_held = ⊤; entry_put = λ entry. ⊤ }

-- what there is of the client of a pair, if there is one: as it is now, or as the line of this number ended
abbrev pub unit_seen : Option Pair → UnitSeen
unit_seen None = no_client
unit_seen (Some pair) = record {
  pages = option_map (λ driver. length pair.window.pages) pair.driver;
  value_at = (seen_at pair).value_at;
  put_at = λ entry value. Contains (drop 1 ((known_of pair.window).values entry)) value;
  region = region_seen (strokes_at pair.window.pages);
  is_held = pair.window.held_count ≢ 0;
  entry_put = (seen_at pair).entry_put;
}

abbrev pub unit_then : (number : ℕ) → Option Pair → UnitSeen
unit_then number None = no_client
unit_then number (Some pair) = record {
  pages = option_map (λ driver. length pair.window.pages) pair.driver;
  value_at = (seen_at pair).value_at;
  put_at = λ entry value. Contains (drop 1 ((known_of pair.window).values entry)) value;
  region = region_then pair.window.unit number (strokes_at pair.window.pages);
  is_held = pair.window.held_count ≢ 0;
  entry_put = (seen_at pair).entry_put;
}

-- the pair at which a client sits
abbrev pub pair_of : List Pair → Option Seat → Option Pair
pair_of pairs (Some (sits.Client k)) = slice_get pairs k
pair_of pairs _ = None

-- what there is of a LAN unit, of whose window nothing is held between calls: as it is now, or as the line of this number ended
abbrev pub port_seen : LanValue → UnitId → UnitSeen
port_seen lan unit = record {
  pages = option_map (λ seat. seat.pages) (seat_at lan.seats unit);
  value_at = λ entry value. Contains (values_at lan unit entry) value;
  put_at = λ entry value. Contains (drop 1 (values_at lan unit entry)) value;
  region = region_seen (region_strokes lan unit);
  is_held = ⊥;
  entry_put = λ entry. ⊤;
}

abbrev pub port_then : (number : ℕ) → LanValue → UnitId → UnitSeen
port_then number lan unit = record {
  pages = option_map (λ seat. seat.pages) (seat_at lan.seats unit);
  value_at = λ entry value. Contains (values_at lan unit entry) value;
  put_at = λ entry value. Contains (drop 1 (values_at lan unit entry)) value;
  region = region_then unit number (region_strokes lan unit);
  is_held = ⊥;
  entry_put = λ entry. ⊤;
}

-- Whether a call is taken, where its arguments alone decide that it is Parameter: a copy never is, an entry is sent for a client and with a
-- first byte of 0x80 or more, and a translation entry of a client or a LAN unit is read where its window has it, and put where its window
-- takes the value, or each of as many entries takes it, of which it names 512 at most; a list of values is never taken that does not lie in
-- the region.
abbrev pub is_taken : Hcall → (pages : Option ℕ) → List ℕ → Option Bool
is_taken rows.CopyRdma pages args = Some false
is_taken rows.SendCrq None args = Some false
is_taken rows.SendCrq (Some pages) (high ∷ low ∷ []) = Some (nat_le 0x80 (first_byte (record { high = high; low = low })))
is_taken rows.GetTce (Some pages) (address ∷ []) = Some (is_entry pages address)
is_taken rows.PutTce (Some pages) (address ∷ value ∷ []) = Some (takes pages address value)
is_taken rows.StuffTce (Some pages) (address ∷ value ∷ count ∷ []) = Some (takes_all pages address (replicate count value))
is_taken rows.PutTceIndirect (Some pages) (address ∷ list ∷ count ∷ []) = if is_list pages list count then None else Some false
is_taken _ pages args = None

-- A list of so many values was read at an address of a unit's region: its bytes, if it has any, are what the pages gave.
pub record IsListRead (region : RegionSeen) (list count : ℕ) (values : List ℕ) : Type 0 where
  pub count_is : length values ≡ count
  pub bytes : List ℕ
  pub spelled : AreValuesOf bytes values
  pub read : count ≢ 0 → AreRead region list bytes

-- The values of a list that was read are among those that were put into the entries from an address on, one each, and a window of so many
-- pages takes each of them.
pub record IsListPut (seen : UnitSeen) (pages address list count : ℕ) : Type 0 where
  pub values : List ℕ
  pub read : IsListRead seen.region list count values
  pub taken : takes_all pages address values ≡ true
  pub put : (j value : ℕ) → slice_get values j ≡ Some value → seen.put_at (address / 4096 + j) value

-- A list was read, and a window of so many pages does not take one of its values.
pub record IsListUntaken (region : RegionSeen) (pages address list count : ℕ) : Type 0 where
  pub values : List ℕ
  pub read : IsListRead region list count values
  pub refused : takes_all pages address values ≡ false

-- what is there once a call was Success and returned this value: the value is one of its entry, or was put into it, or into each entry that
-- it names, or the entry was put into the queue, or a list that was read was put
abbrev pub IsDone : UnitSeen → Hcall → List ℕ → (value : ℕ) → Type 0
IsDone seen rows.GetTce (address ∷ []) value = seen.value_at (address / 4096) value
IsDone seen rows.PutTce (address ∷ put ∷ []) value = seen.put_at (address / 4096) put
IsDone seen rows.StuffTce (address ∷ put ∷ count ∷ []) value = (j : ℕ) → j < count → seen.put_at (address / 4096 + j) put
IsDone seen rows.PutTceIndirect (address ∷ list ∷ count ∷ []) value = IfSome seen.pages (λ pages. IsListPut seen pages address list count)
IsDone seen rows.SendCrq (high ∷ low ∷ []) value = seen.entry_put (record { high = high; low = low })
IsDone seen _ args value = ⊤

-- why a call was Parameter whose arguments alone do not decide it
abbrev pub IsUntaken : UnitSeen → Hcall → List ℕ → Type 0
IsUntaken seen rows.PutTceIndirect (address ∷ list ∷ count ∷ []) =
    IfSome seen.pages (λ pages. is_list pages list count ≡ true → IsListUntaken seen.region pages address list count)
IsUntaken seen _ args = ⊤

-- why a call that puts values into entries is Busy: something of the window is held
abbrev pub WhyBusy : UnitSeen → Hcall → Type 0
WhyBusy seen rows.PutTce = seen.is_held
WhyBusy seen rows.StuffTce = seen.is_held
WhyBusy seen rows.PutTceIndirect = seen.is_held
WhyBusy seen _ = ⊤

-- A call of a row, with these arguments behind its unit, returned this.
pub record IsReturned (seen : UnitSeen) (row : Hcall) (args : List ℕ) (returned : Returned) : Type 0 where
  pub parameter : IfSome (is_taken row seen.pages args) (λ taken. (returned.code ≡ codes.Parameter) ↔ (taken ≡ false))
  pub refused : returned.code ≡ codes.Parameter → IsUntaken seen row args
  pub busy : returned.code ≡ codes.Busy → WhyBusy seen row
  pub done : returned.code ≡ codes.Success → IsDone seen row args returned.r4

-- P of the value with which a call was Success: 0 but where its row gives one
abbrev pub IfDone : Outcome → (ℕ → Type 0) → Type 0
IfDone (outcomes.Code codes.Success) P = P 0
IfDone (outcomes.Value value) P = P value
IfDone _ P = ⊤

-- What a call of a row says, at the unit that it names: Parameter exactly where its arguments decide it, Busy of a put only where something of the
-- window is held, and what it did is there.
pub record IsUnitSaid (seen : UnitSeen) (row : Hcall) (args : List ℕ) (outcome : Outcome) : Type 0 where
  pub parameter : IfSome (is_taken row seen.pages args) (λ taken. (outcome ≡ outcomes.Code codes.Parameter) ↔ (taken ≡ false))
  pub refused : outcome ≡ outcomes.Code codes.Parameter → IsUntaken seen row args
  pub busy : outcome ≡ outcomes.Code codes.Busy → WhyBusy seen row
  pub done : IfDone outcome (IsDone seen row args)

-- the rows of which no more is said than that they answer a code of theirs
abbrev pub is_unsaid : Hcall → Bool
is_unsaid rows.GetTce = false
is_unsaid rows.PutTce = false
is_unsaid rows.StuffTce = false
is_unsaid rows.PutTceIndirect = false
is_unsaid rows.SendCrq = false
is_unsaid rows.CopyRdma = false
is_unsaid _ = true

-- An entry was sent, or not: Parameter exactly where its first byte is below 0x80; on Success it was put into the partner's queue.
pub record SendsOne (shared : Bool) (new : EndState) (entry : Entry) (code : Hrc) : Type 0 where
  pub parameter : (code ≡ codes.Parameter) ↔ (first_byte entry < 0x80)
  pub put : code ≡ codes.Success → IsPutBy shared new entry

-- what a call on a client's queue answers, as its end is then
abbrev pub AnswersQueue : (shared : Bool) → (new : EndState) → QueueCall → Hrc → Type 0
AnswersQueue shared new (queues.Send high low) code = SendsOne shared new (record { high = high; low = low }) code
AnswersQueue shared new _ code = ⊤
