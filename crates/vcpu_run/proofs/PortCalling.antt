-- What raw calls return of the entries of LAN units' windows, and what they leave of these.
use Rattle.std.proofs.Common.{◌≡◌, ◌∙◌, ℕ, Bool, true, false, List, Option, Some, None, Result, Ok, Err, IfOk, IfSome, IsSome, OnOk, drop, length, option_map, refl, sym, ap, subst}
use Rattle.std.specs.Prelude.{⊤}
use Rattle.std.specs.List.{Contains, slice_get}
use Rattle.vio_num.specs.Words.{Begins}
use Rattle.vio_num.specs.declared.hypervisor.Hrc.TheVariants as codes
use Rattle.vio_num.specs.declared.memory.NoMemory.{NoMemory}
use Rattle.vio_num.specs.declared.names.UnitId.{UnitId}
use Rattle.boot_text.specs.declared.verb.Verb.{Verb}
use Rattle.boot_text.specs.declared.verb.Verb.TheVariants as verbs
use Rattle.hcall_table.specs.Asked.{Refuses, ask}
use Rattle.hcall_table.specs.Named.{is_of_window, unit_of as unit_asked}
use Rattle.hcall_table.specs.Rows.{IsAnswer, further, row_of}
use Rattle.hcall_table.specs.declared.hcall.Hcall.{Hcall}
use Rattle.hcall_table.specs.declared.returned.Returned.{Returned}
use Rattle.unit_region.specs.EntryRows.{entry_row}
use Rattle.unit_region.specs.declared.entry_calls.EntryCall.{EntryCall}
use Rattle.unit_region.specs.declared.step.Step.{Step}
use Rattle.unit_region.specs.declared.step.Step.TheVariants as steps
use Rattle.vio_trace.specs.declared.outcome.Outcome.{Outcome}
use Rattle.lan_switch.specs.Switch.{same_unit}
use Rattle.lan_script.specs.Entries.{CallsOne, ValuesGrow, values_at, window_seen}
use Rattle.lan_script.specs.Regions.{strokes_at}
use Rattle.vcpu_run.specs.PortRegions.{RegionsKept}
use Rattle.vcpu_run.proofs.PortKept.{kept_same}
use Rattle.unit_region.specs.RegionLines.{region_seen}
use Rattle.unit_region.proofs.Laws.{read_there}
use Rattle.lan_script.specs.Windows.{begins_in}
use Rattle.lan_script.specs.Seats.{seat_at}
use Rattle.lan_script.specs.Units.{LanValue}
use Rattle.lan_script.specs.Values.{SameValuesBeside}
use Rattle.lan_script.specs.declared.seat.PortSeat.{PortSeat}
use Rattle.lan_script.proofs.Laws.{by_bool, one_unit}
use Rattle.vcpu_run.specs.declared.client_call.QueueCall.{QueueCall}
use Rattle.vcpu_run.specs.declared.client_call.QueueCall.TheVariants as queues
use Rattle.vcpu_run.specs.declared.pair.Pair.{Pair}
use Rattle.vcpu_run.specs.declared.partition_units.PartitionUnits.{PartitionUnits}
use Rattle.vcpu_run.specs.declared.unit_seat.Seat.{Seat}
use Rattle.vcpu_run.specs.declared.unit_seat.Seat.TheVariants as sits
use Rattle.vcpu_run.specs.CallRows.{entry_arguments, queue_row, says}
use Rattle.vcpu_run.specs.CallsAnswered.{IsReturned, is_unsaid, port_seen}
use Rattle.vcpu_run.specs.PortCalls.{EndsEntries, HasAll, place_by}
use Rattle.vcpu_run.specs.Ports.{unit_of}
use Rattle.vcpu_run.specs.RawCalls.{AnswersCall, AnswersPorts, IsThere, PortsReturn, place_of, seat_by, seat_in}
use Rattle.vcpu_run.specs.Suited.{is_call}
use Rattle.vcpu_run.proofs.ClientCalls.{entry_seen}
use Rattle.vcpu_run.proofs.RawReturned.{unit_says, unsaid}
use Rattle.vcpu_run.proofs.ValuesBehind.{begins_as, begins_self}

-- ---- a call at a LAN unit

-- a call on an entry of its window
port_returned : (id : UnitId) (call : EntryCall) (old new : LanValue) (returned : Returned) → IsSome (seat_at old.seats id) → new.seats ≡ old.seats
    → IsAnswer (entry_row call) returned → CallsOne id call old new returned
    → IsReturned (port_seen new id) (entry_row call) (entry_arguments call) returned
port_returned id call old new returned there seats answer is = by (seat_at old.seats id) refl there is.size
  where
    by : (o : Option PortSeat) → seat_at old.seats id ≡ o → IsSome o → IfSome o (λ seat. (window_seen old id).place.size ≡ seat.pages)
        → IsReturned (port_seen new id) (entry_row call) (entry_arguments call) returned
    by None e h size = absurd (cc (h))
    by (Some seat) e h size =
        subst (λ (o : Option PortSeat). IsReturned (record {
          pages = option_map (λ (seat : PortSeat). seat.pages) o;
          value_at = λ entry value. Contains (values_at new id entry) value;
          put_at = λ entry value. Contains (drop 1 (values_at new id entry)) value;
          region = region_seen (strokes_at new id);
          is_held = ⊥;
          entry_put = λ entry. ⊤;
        }) (entry_row call) (entry_arguments call) returned) (sym (ap (λ ss. seat_at ss id) seats ∙ e))
        (entry_seen (window_seen old id) (window_seen new id) seat.pages (values_at new id) (region_seen (strokes_at new id)) ⊥ (λ entry. ⊤) (Some seat) call returned size
        (λ entry. subst (λ (o : Option ℕ). IsSome o) (sym (begins_in old.places id entry)) refl) refl (read_there (window_seen new id)) is.free answer is.answers)

-- all values stay, where those of one unit grow and those of the others stay
keeps_values : (id : UnitId) (old new : LanValue) → ValuesGrow id old new → SameValuesBeside id old new
    → (unit : UnitId) (entry : ℕ) → Begins (values_at old unit entry) (values_at new unit entry)
keeps_values id old new grows beside unit entry =
    by_bool (same_unit unit id) (Begins (values_at old unit entry) (values_at new unit entry))
    (λ e. subst (λ (u : UnitId). Begins (values_at old u entry) (values_at new u entry)) (sym (one_unit unit id e)) (grows entry))
    (λ e. begins_as (values_at old unit entry) (values_at new unit entry) (beside unit e entry))

has_all : (id : UnitId) (old new : LanValue) → ValuesGrow id old new → SameValuesBeside id old new → RegionsKept old new → HasAll old new
has_all id old new grows beside regions = record { values = keeps_values id old new grows beside; regions = regions }

pub same_all : (old new : LanValue) → new ≡ old → HasAll old new
same_all old new same =
    subst (HasAll old) (sym same) (record { values = λ unit entry. begins_self (values_at old unit entry); regions = λ unit. kept_same old unit })

-- a port that sits there has its seat
pub port_there : (units : PartitionUnits) (unit : ℕ) (id : UnitId) (o : Option Seat) → id ≡ unit_of units.partition unit → o ≡ Some sits.Port
    → IfSome o (IsThere units unit) → IsSome (seat_at units.lan.now.seats id)
port_there units unit id o is sat there =
    subst (λ (i : UnitId). IsSome (seat_at units.lan.now.seats i)) (sym is) (subst (λ (s : Option Seat). IfSome s (IsThere units unit)) sat there)

pub port_entries : (old new : PartitionUnits) (unit : ℕ) (id : UnitId) (call : EntryCall) (r : Result Returned NoMemory) → id ≡ unit_of old.partition unit
    → IsSome (seat_at old.lan.now.seats id) → new.lan.now.seats ≡ old.lan.now.seats → IfOk r (IsAnswer (entry_row call))
    → IfOk r (CallsOne id call old.lan.now new.lan.now) → OnOk r (ValuesGrow id old.lan.now new.lan.now) → OnOk r (SameValuesBeside id old.lan.now new.lan.now)
    → OnOk r (RegionsKept old.lan.now new.lan.now) → IfOk r (AnswersPorts old new unit (entry_row call) (entry_arguments call))
port_entries old new unit id call (Err memory) is there seats answer made grows beside regions = tt
port_entries old new unit id call (Ok returned) is there seats answer made grows beside regions = record {
  all = has_all id old.lan.now new.lan.now grows beside regions;
  here = λ sat row. subst (λ (i : UnitId). IsReturned (port_seen new.lan.now i) (entry_row call) (entry_arguments call) returned) is
      (port_returned id call old.lan.now new.lan.now returned there seats answer made);
}

-- a call of another row, of which no more is said
pub unsaid_entries : (old new : PartitionUnits) (unit : ℕ) (id : UnitId) (row : Hcall) (args : List ℕ) (r : Result Returned NoMemory) → is_unsaid row ≡ true
    → OnOk r (ValuesGrow id old.lan.now new.lan.now) → OnOk r (SameValuesBeside id old.lan.now new.lan.now) → OnOk r (RegionsKept old.lan.now new.lan.now)
    → IfOk r (AnswersPorts old new unit row args)
unsaid_entries old new unit id row args (Err memory) isnt grows beside regions = tt
unsaid_entries old new unit id row args (Ok returned) isnt grows beside regions = record {
  all = has_all id old.lan.now new.lan.now grows beside regions;
  here = λ sat of_window. unsaid (port_seen new.lan.now (unit_of old.partition unit)) row args (Ok returned) isnt;
}

-- a call at another unit
pub other_entries : (old new : PartitionUnits) (unit : ℕ) (row : Hcall) (args : List ℕ) (r : Result Returned NoMemory) → (seat_in old unit ≡ Some sits.Port → ⊥)
    → new.lan.now ≡ old.lan.now → IfOk r (AnswersPorts old new unit row args)
other_entries old new unit row args (Err memory) isnt same = tt
other_entries old new unit row args (Ok returned) isnt same = record { all = same_all old.lan.now new.lan.now same; here = λ sat of_window. absurd (isnt sat) }

-- a call of a row of queues
no_window : (call : QueueCall) → is_of_window (queue_row call) ≡ true → ⊥
no_window (queues.Register address bytes) e = cc (e)
no_window queues.Free e = cc (e)
no_window (queues.Send high low) e = cc (e)
no_window queues.Enable e = cc (e)

pub queue_entries : (old new : PartitionUnits) (unit : ℕ) (call : QueueCall) (args : List ℕ) (r : Result Returned NoMemory)
    → new.lan.now ≡ old.lan.now → IfOk r (AnswersPorts old new unit (queue_row call) args)
queue_entries old new unit call args (Err memory) same = tt
queue_entries old new unit call args (Ok returned) same = record {
  all = same_all old.lan.now new.lan.now same;
  here = λ sat of_window. absurd (no_window call of_window);
}

-- ---- a call by its number

called_all : (old new : PartitionUnits) (row : Hcall) (args : List ℕ) (unit : Option ℕ) (result : Result Returned NoMemory)
    → (unit ≡ None → Refuses PartitionUnits codes.Parameter old new result) → IfSome unit (λ unit. AnswersCall (ask row unit args) old new result)
    → OnOk result (HasAll old.lan.now new.lan.now)
called_all old new row args unit (Err memory) elsewhere made = tt
called_all old new row args None (Ok returned) elsewhere made = same_all old.lan.now new.lan.now (ap (λ (u : PartitionUnits). u.lan.now) (elsewhere refl).same)
called_all old new row args (Some unit) (Ok returned) elsewhere made = made.entries.all

refused_all : (old new : PartitionUnits) (result : Result Returned NoMemory) → new ≡ old → OnOk result (HasAll old.lan.now new.lan.now)
refused_all old new (Ok returned) same = same_all old.lan.now new.lan.now (ap (λ (u : PartitionUnits). u.lan.now) same)
refused_all old new (Err memory) same = tt

pub units_all : (old new : PartitionUnits) (number : ℕ) (args : List ℕ) (result : Result Returned NoMemory)
    → (row_of number ≡ None → Refuses PartitionUnits codes.Function old new result)
    → IfSome (row_of number) (λ row. unit_asked (place_of old) row args ≡ None → Refuses PartitionUnits codes.Parameter old new result)
    → IfSome (row_of number) (λ row. IfSome (unit_asked (place_of old) row args) (λ unit. AnswersCall (ask row unit (further row args)) old new result))
    → OnOk result (HasAll old.lan.now new.lan.now)
units_all old new number args result unknown elsewhere made = at (row_of number) refl elsewhere made
  where
    at : (row : Option Hcall) → row_of number ≡ row
        → IfSome row (λ row. unit_asked (place_of old) row args ≡ None → Refuses PartitionUnits codes.Parameter old new result)
        → IfSome row (λ row. IfSome (unit_asked (place_of old) row args) (λ unit. AnswersCall (ask row unit (further row args)) old new result))
        → OnOk result (HasAll old.lan.now new.lan.now)
    at None e p m = refused_all old new result (unknown e).same
    at (Some row) e p m = called_all old new row (further row args) (unit_asked (place_of old) row args) result p m

pub units_return : (old new : PartitionUnits) (number : ℕ) (args : List ℕ) (result : Result Returned NoMemory)
    → IfSome (row_of number) (λ row. IfSome (unit_asked (place_of old) row args) (λ unit. AnswersCall (ask row unit (further row args)) old new result))
    → IfOk result (PortsReturn number args old new)
units_return old new number args (Err memory) made = tt
units_return old new number args (Ok returned) made = λ row unit e of_window at sat.
    let of_row : IfSome (unit_asked (place_of old) row args) (λ unit. AnswersCall (ask row unit (further row args)) old new (Ok returned)) =
    subst (λ (o : Option Hcall). IfSome o (λ row. IfSome (unit_asked (place_of old) row args) (λ unit. AnswersCall (ask row unit (further row args)) old new (Ok returned)))) e made in
    let of_unit : AnswersCall (ask row unit (further row args)) old new (Ok returned) =
    subst (λ (o : Option ℕ). IfSome o (λ unit. AnswersCall (ask row unit (further row args)) old new (Ok returned))) at of_row in
    of_unit.entries.here sat of_window

-- its record says so
pub ends_entries : (partition : ℕ) (seat : ℕ → Option Seat) (before after later : LanValue) (number : ℕ) (args : List ℕ) (returned : Returned) (outcome : Outcome)
    → later ≡ after → outcome ≡ says number returned → HasAll before after → IfSome (row_of number) (λ row. IsAnswer row returned)
    → ((row : Hcall) (unit : ℕ) → row_of number ≡ Some row → is_of_window row ≡ true → unit_asked (place_by partition seat) row args ≡ Some unit
    → seat unit ≡ Some sits.Port → IsReturned (port_seen after (unit_of partition unit)) row (further row args) returned)
    → EndsEntries partition seat (verbs.Hcall number args) before later (steps.Ends outcome)
ends_entries partition seat before after later number args returned outcome last is all answer returns =
    subst (λ (l : LanValue). EndsEntries partition seat (verbs.Hcall number args) before l (steps.Ends outcome)) (sym last)
    (subst (λ (o : Outcome). EndsEntries partition seat (verbs.Hcall number args) before after (steps.Ends o)) (sym is)
    (record {
      all = all;
      said = λ row unit e of_window at sat.
          unit_says (record { place = place_by partition seat; of_unit = λ u. port_seen after (unit_of partition u) }) number args returned (Some unit) row e
          (subst (λ (o : Option Hcall). IfSome o (λ row. IsAnswer row returned)) e answer) (returns row unit e of_window at sat);
    }))

-- a step of a line that makes a call, and of one that makes none
pub called_entries : (partition : ℕ) (seats : List Seat) (pairs : List Pair) (ports : List PortSeat) (verb : Verb) (number : ℕ) (args : List ℕ) (r : Result Step NoMemory) (old new : LanValue)
    → ((unit : ℕ) → seat_by partition seats (length pairs) ports unit ≡ slice_get seats unit) → verb ≡ verbs.Hcall number args
    → IfOk r (EndsEntries partition (seat_by partition seats (length pairs) ports) (verbs.Hcall number args) old new)
    → IfOk r (λ step. is_call verb ≡ true → EndsEntries partition (slice_get seats) verb old new step)
called_entries partition seats pairs ports verb number args (Err memory) old new same is h = tt
called_entries partition seats pairs ports verb number args (Ok step) old new same is h = λ call.
    let seats_are : (λ (unit : ℕ). seat_by partition seats (length pairs) ports unit) ≡ (λ (unit : ℕ). slice_get seats unit) = λ i unit. same unit i in
    subst (λ (v : Verb). EndsEntries partition (slice_get seats) v old new step) (sym is)
    (subst (λ (seat : ℕ → Option Seat). EndsEntries partition seat (verbs.Hcall number args) old new step) seats_are h)

pub uncalled_entries : (partition : ℕ) (seats : List Seat) (verb : Verb) (r : Result Step NoMemory) (old new : LanValue) → is_call verb ≡ false
    → IfOk r (λ step. is_call verb ≡ true → EndsEntries partition (slice_get seats) verb old new step)
uncalled_entries partition seats verb (Err memory) old new none = tt
uncalled_entries partition seats verb (Ok step) old new none = λ call. absurd (not_both (is_call verb) call none)
  where
    not_both : (b : Bool) → b ≡ true → b ≡ false → ⊥
    not_both b is isnt = cc
