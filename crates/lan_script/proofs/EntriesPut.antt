-- What lines and calls put into the entries of a unit's window, which was taken for them and put back.
use Rattle.std.proofs.Common.{◌≡◌, ◌++◌, ℕ, false, IsSome, IfSome, List, [], Option, Some, None, Result, Ok, Err, IfOk, OnOk, length, append-nil, refl, sym, ◌∙◌, ap, subst}
use Rattle.vio_num.specs.Words.{Begins}
use Rattle.vio_num.specs.declared.memory.NoMemory.{NoMemory}
use Rattle.vio_num.specs.declared.names.UnitId.{UnitId}
use Rattle.boot_text.specs.declared.verb.Verb.{Verb}
use Rattle.boot_text.specs.declared.verb.Verb.TheVariants as verbs
use Rattle.hcall_table.specs.declared.returned.Returned.{Returned}
use Rattle.tce_window.specs.PlainPort.{known_of}
use Rattle.tce_window.specs.PortState.{PortState, port_at}
use Rattle.tce_window.specs.Window.{WindowValue}
use Rattle.unit_region.specs.InUse.{BusyFor}
use Rattle.unit_region.specs.EntryAnswers.{AnswersEntry, ReadsList}
use Rattle.unit_region.specs.Kept.{KeepsWindow}
use Rattle.unit_region.specs.LinePuts.{StepPuts, is_put}
use Rattle.unit_region.specs.declared.entry_calls.EntryCall.{EntryCall}
use Rattle.unit_region.specs.declared.entry_calls.EntryCall.TheVariants as entries
use Rattle.unit_region.specs.declared.step.Step.{Step}
use Rattle.unit_region.specs.declared.step.Step.TheVariants as region
use Rattle.unit_region.proofs.Laws.{none_put, same_puts, tce_puts}
use Rattle.lan_script.specs.Entries.{CallsEntry, CallsOne, PortPuts, ValuesGrow, port_step, values_at, window_seen}
use Rattle.lan_script.specs.Invariant.{IsLan}
use Rattle.lan_script.specs.LineBytes.{PutsOn}
use Rattle.lan_script.specs.Seats.{seat_at}
use Rattle.lan_script.specs.Units.{LanValue}
use Rattle.lan_script.specs.Values.{SameValues, is_entry_call}
use Rattle.lan_script.specs.Windows.{facts_in, facts_of, window_in, with_window}
use Rattle.lan_script.specs.declared.calls.PortCall.{PortCall}
use Rattle.lan_script.specs.declared.calls.PortCall.TheVariants as calls
use Rattle.lan_script.specs.declared.lines.PortStep.{PortStep}
use Rattle.lan_script.specs.declared.lines.PortStep.TheVariants as steps
use Rattle.lan_script.specs.declared.seat.PortSeat.{PortSeat}
use Rattle.lan_script.specs.declared.windows.Place.{Place}
use Rattle.lan_script.proofs.Lans.{window_free, window_pages}
use Rattle.lan_script.proofs.Placing.{has_place, window_with, with_twice}

-- A unit's window was taken and put back.
record IsBack (unit : UnitId) (old : LanValue) (qs : List Place) (own own' : WindowValue) : Type 0 where
  was : window_in unit old.places ≡ Some own
  is : window_in unit qs ≡ Some own'

back : (lan now : LanValue) (unit : UnitId) (ps qs : List Place) (own own' : WindowValue) → lan ≡ now → window_in unit lan.places ≡ Some own
    → ps ≡ with_window unit None lan.places → qs ≡ with_window unit (Some own') ps → IsBack unit now qs own own'
back lan now unit ps qs own own' same at away put = record {
  was = ap (λ (l : LanValue). window_in unit l.places) (sym same) ∙ at;
  is = ap (λ l. window_in unit l) (put ∙ ap (λ l. with_window unit (Some own') l) away ∙ with_twice unit None (Some own') lan.places)
      ∙ window_with unit (Some own') lan.places (has_place unit own lan.places at);
}

-- ---- a call on one entry

entry_seen : (unit : UnitId) (ps qs : List Place) (own own' : WindowValue) (call : EntryCall) (returned : Returned)
    → AnswersEntry (known_of own) (known_of own') call returned
    → AnswersEntry (port_at (facts_of unit ps (Some own))) (port_at (facts_of unit qs (Some own'))) call returned
entry_seen unit ps qs own own' (entries.Get address) returned h = h
entry_seen unit ps qs own own' (entries.Put address value) returned h = record {
  parameter = h.parameter;
  put = record { values = h.put.values; held = h.put.held };
}
entry_seen unit ps qs own own' (entries.Stuff address value count) returned h = record {
  parameter = h.parameter;
  put = λ good. record { values = (h.put good).values; held = (h.put good).held };
}
entry_seen unit ps qs own own' (entries.PutList address list count) returned h = record {
  missing = h.missing;
  refused = λ e is.
      let refused = h.refused e is in
      (read_seen refused.0, refused.1);
  put = λ good.
      let put = h.put good in
      (read_seen put.0, put.1, record { values = put.2.values; held = put.2.held });
}
  where
    read_seen : ReadsList (known_of own') list count → ReadsList (port_at (facts_of unit qs (Some own'))) list count
    read_seen r = record {
      bytes = r.bytes;
      values = r.values;
      count_is = r.count_is;
      spelled = r.spelled;
      read = λ some.
          let read = r.read some in
          record { inside = read.inside; there = read.there; bytes = read.bytes };
    }

-- a window's number of pages, where it is the unit's
size_seen : (unit : UnitId) (lan : LanValue) (own : WindowValue) (seat : Option PortSeat) → window_in unit lan.places ≡ Some own
    → IfSome seat (λ seat. length own.pages ≡ seat.pages) → IfSome seat (λ seat. (window_seen lan unit).place.size ≡ seat.pages)
size_seen unit lan own seat was h =
    subst (λ (o : Option WindowValue). IfSome seat (λ seat. (port_at (facts_of unit lan.places o)).place.size ≡ seat.pages)) (sym was) h

pub entry_back : (lan now new : LanValue) (unit : UnitId) (ps : List Place) (own own' : WindowValue) (call : EntryCall) (r : Result Returned NoMemory) → lan ≡ now
    → IsLan lan → IsSome (seat_at now.seats unit) → window_in unit lan.places ≡ Some own → ps ≡ with_window unit None lan.places
    → new.places ≡ with_window unit (Some own') ps → IfOk r (AnswersEntry (known_of own) (known_of own') call)
    → IfOk r (λ returned. BusyFor false (known_of own) (known_of own') returned.code) → IfOk r (CallsOne unit call now new)
entry_back lan now new unit ps own own' call (Err memory) same is there at away put h busy = tt
entry_back lan now new unit ps own own' call (Ok returned) same is there at away put h busy = record {
  size = size_seen unit now own (seat_at now.seats unit) b.was (window_pages lan now unit own same is there at);
  answers = subst (λ (o : Option WindowValue). AnswersEntry (port_at (facts_of unit now.places o)) (window_seen new unit) call returned) (sym b.was)
      (subst (λ (o : Option WindowValue). AnswersEntry (port_at (facts_of unit now.places (Some own))) (port_at (facts_of unit new.places o)) call returned) (sym b.is)
      (entry_seen unit now.places new.places own own' call returned h));
  free = λ e. (busy e).held refl (window_free lan now unit own same is there at);
}
  where
    b : IsBack unit now new.places own own'
    b = back lan now unit ps new.places own own' same at away put

-- a call on no entry
pub no_entry : (unit : UnitId) (call : PortCall) (old new : LanValue) (returned : Returned) → is_entry_call call ≡ false → CallsEntry unit call old new returned
no_entry unit (calls.Entry call) old new returned isnt = absurd (cc (isnt))
no_entry unit call old new returned isnt = tt

pub entry_is : (unit : UnitId) (call : PortCall) (made : EntryCall) (old new : LanValue) (r : Result Returned NoMemory) → call ≡ calls.Entry made
    → IfOk r (CallsOne unit made old new) → IfOk r (CallsEntry unit call old new)
entry_is unit call made old new r is h = subst (λ (c : PortCall). IfOk r (CallsEntry unit c old new)) (sym is) h

-- ---- values grow

values_there : (unit : UnitId) (ps : List Place) (own : WindowValue) → window_in unit ps ≡ Some own → (e : ℕ) → (facts_in ps unit).values e ≡ (known_of own).values e
values_there unit ps own at e = ap (λ (o : Option WindowValue). (facts_of unit ps o).values e) at

pub grows_back : (lan now : LanValue) (unit : UnitId) (ps qs : List Place) (own own' : WindowValue) → lan ≡ now → window_in unit lan.places ≡ Some own
    → ps ≡ with_window unit None lan.places → qs ≡ with_window unit (Some own') ps → KeepsWindow false (known_of own) (known_of own')
    → (e : ℕ) → Begins (values_at now unit e) ((facts_in qs unit).values e)
grows_back lan now unit ps qs own own' same at away put keeps e =
    let b = back lan now unit ps qs own own' same at away put in
    subst (λ (l : List ℕ). Begins l ((facts_in qs unit).values e)) (sym (values_there unit now.places own b.was e))
    (subst (λ (l : List ℕ). Begins ((known_of own).values e) l) (sym (values_there unit qs own' b.is e)) (keeps.grows.values e))

pub grows_same : (unit : UnitId) (old new : LanValue) → SameValues old new → ValuesGrow unit old new
grows_same unit old new same e = ([], same unit e ∙ sym (append-nil (values_at old unit e)))

pub grows_placed : (unit : UnitId) (old new : LanValue) → new.places ≡ old.places → ValuesGrow unit old new
grows_placed unit old new same e = ([], ap (λ ps. (facts_in ps unit).values e) same ∙ sym (append-nil (values_at old unit e)))

-- ---- a step of a line

-- one that puts no value
still_puts : (verb : Verb) (step : PortStep) (old new : ℕ → List ℕ) → is_put verb ≡ false → ((e : ℕ) → new e ≡ old e) → PortPuts verb step old new
still_puts verb (steps.Ends outcome) old new isnt same = λ e.
    same e ∙ sym (append-nil (old e)) ∙ ap (λ l. old e ++ l) (sym (none_put e verb outcome isnt))
still_puts verb (steps.Waits moved done) old new isnt same = same

pub puts_same : (unit : UnitId) (verb : Verb) (r : Result PortStep NoMemory) (old new : LanValue) → is_put verb ≡ false → OnOk r (SameValues old new)
    → IfOk r (λ step. PortPuts verb step (values_at old unit) (values_at new unit))
puts_same unit verb (Ok step) old new isnt same = still_puts verb step (values_at old unit) (values_at new unit) isnt (λ e. same unit e)
puts_same unit verb (Err memory) old new isnt same = tt

pub puts_placed : (unit : UnitId) (verb : Verb) (r : Result PortStep NoMemory) (old new : LanValue) → is_put verb ≡ false → new.places ≡ old.places
    → IfOk r (λ step. PortPuts verb step (values_at old unit) (values_at new unit))
puts_placed unit verb r old new isnt same = by r
  where
    by : (r : Result PortStep NoMemory) → IfOk r (λ step. PortPuts verb step (values_at old unit) (values_at new unit))
    by (Ok step) = still_puts verb step (values_at old unit) (values_at new unit) isnt (λ e. ap (λ ps. (facts_in ps unit).values e) same)
    by (Err memory) = tt

-- one in the unit's region
region_puts : (verb : Verb) (old new : PortState) (step : Step) → (is_put verb ≡ false → new.values ≡ old.values) → PutsOn verb old new step
    → StepPuts verb step old.values new.values
region_puts (verbs.Tce entry page readable writable) old new step same puts =
    tce_puts entry page readable writable old new (verbs.Tce entry page readable writable) (Ok step) refl puts
region_puts verb old new step same puts = same_puts verb (Ok step) old.values new.values refl (same refl)

step_puts : (verb : Verb) (step : Step) (old new : ℕ → List ℕ) → StepPuts verb step old new → PortPuts verb (port_step step) old new
step_puts verb (region.Ends outcome) old new h = h
step_puts verb (region.Waits moved) old new h = h

pub puts_back : (verb : Verb) (step : Step) (made : PortStep) (lan now : LanValue) (unit : UnitId) (ps qs : List Place) (own own' : WindowValue) → lan ≡ now
    → window_in unit lan.places ≡ Some own → ps ≡ with_window unit None lan.places → qs ≡ with_window unit (Some own') ps
    → (is_put verb ≡ false → (known_of own').values ≡ (known_of own).values) → PutsOn verb (known_of own) (known_of own') step → made ≡ port_step step
    → PortPuts verb made (values_at now unit) (facts_in qs unit).values
puts_back verb step made lan now unit ps qs own own' same at away put kept puts is =
    subst (λ (s : PortStep). PortPuts verb s (values_at now unit) (facts_in qs unit).values) (sym is)
    (subst (λ (o : Option WindowValue). PortPuts verb (port_step step) (facts_of unit now.places o).values (facts_in qs unit).values) (sym b.was)
    (subst (λ (o : Option WindowValue). PortPuts verb (port_step step) (known_of own).values (facts_of unit qs o).values) (sym b.is)
    (step_puts verb step (known_of own).values (known_of own').values (region_puts verb (known_of own) (known_of own') step kept puts))))
  where
    b : IsBack unit now qs own own'
    b = back lan now unit ps qs own own' same at away put
