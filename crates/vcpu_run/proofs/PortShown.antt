-- What raw calls say of the entries of LAN units' windows is so in a gathered trace.
use Rattle.std.proofs.Common.{◌≡◌, ◌∙◌, ℕ, ◌==◌, ◌&&◌, cond, drop, Bool, true, false, All, List, Option, Some, None, IfSome, IsSome, IsSomeAnd, option_map, slice_index, refl, sym, ap, subst}
use Rattle.std.specs.List.{Contains}
use Rattle.vio_num.specs.declared.history.Grant.{Grant}
use Rattle.vio_num.specs.declared.history.Served.{Served}
use Rattle.vio_num.specs.declared.names.Mac.{Mac}
use Rattle.vio_num.specs.declared.names.UnitId.{UnitId}
use Rattle.boot_text.specs.Sound.{unit_at}
use Rattle.boot_text.specs.declared.plan.Partition.{Partition}
use Rattle.boot_text.specs.declared.plan.UnitPlan.TheVariants as units
use Rattle.hcall_table.specs.Named.{Place, here, is_here, is_of_window, is_there, named, unit_named, unit_of as unit_asked}
use Rattle.hcall_table.specs.Rows.{further}
use Rattle.hcall_table.specs.declared.hcall.Hcall.{Hcall}
use Rattle.hcall_table.specs.declared.hcall.Hcall.TheVariants as rows
use Rattle.hcall_table.specs.declared.kind.UnitKind.TheVariants as kinds
use Rattle.hcall_table.specs.declared.named.Named.{Named}
use Rattle.hcall_table.specs.declared.named.Named.TheVariants as names
use Rattle.rdma_copy.specs.declared.copy.CopyRecord.{CopyRecord}
use Rattle.tce_window.specs.Window.{WindowValue}
use Rattle.lan_script.specs.Entries.{values_at}
use Rattle.lan_script.specs.Regions.{strokes_at}
use Rattle.lan_script.specs.Seats.{seat_at}
use Rattle.lan_script.specs.Units.{LanValue, window_at as port_window_at}
use Rattle.lan_script.specs.declared.rows.LanRows.{LanRows}
use Rattle.lan_script.specs.declared.seat.PortSeat.{PortSeat}
use Rattle.vio_trace.specs.declared.outcome.Outcome.{Outcome}
use Rattle.vio_trace.specs.declared.rows.Trace.{Trace}
use Rattle.vcpu_run.specs.declared.pair.Pair.{Pair}
use Rattle.vcpu_run.specs.declared.script.Script.{Script}
use Rattle.vcpu_run.specs.declared.unit_seat.Seat.TheVariants as sits
use Rattle.vcpu_run.specs.declared.unit_seat.UnitSeat.{UnitSeat}
use Rattle.vcpu_run.specs.CallsAnswered.{IsDone, IsUnitSaid, UnitSeen, port_then}
use Rattle.vcpu_run.specs.CallsShown.{unit_shown}
use Rattle.vcpu_run.specs.Gathered.{HasLawfulWindow, IsWindowOf, trace_of}
use Rattle.vcpu_run.specs.Machines.{AreScripts, IsOfPlan}
use Rattle.vcpu_run.specs.Pairs.{AreOfOneHome}
use Rattle.vcpu_run.specs.PortRegions.{strokes_shown}
use Rattle.vcpu_run.specs.Shown.{pages_if, values_shown}
use Rattle.vcpu_run.specs.Units.{seats_of, unit_seat}
use Rattle.vcpu_run.proofs.CallsGrow.{UnitGrows, done_if}
use Rattle.vcpu_run.proofs.FramesCarried.{HasPortWindow, port_shows, port_window_there}
use Rattle.vcpu_run.proofs.Following.{each_from_all}
use Rattle.lan_script.proofs.Order.{Each}
use Rattle.vcpu_run.proofs.MomentsThen.{then_same}
use Rattle.vcpu_run.proofs.Parts.{IsIn, each_in}
use Rattle.vcpu_run.proofs.PortsTold.{port_values}
use Rattle.vcpu_run.proofs.Seated.{IsSeated, IsSeatedAt, all_seated, planned_in}

-- ---- what a call says at a LAN unit

-- a call that sends an entry names no LAN unit
second_of : (a b : Bool) → (a && b) ≡ true → b ≡ true
second_of true b e = e
second_of false b e = absurd (cc (e))

no_unit : (unit : ℕ) → None ≡ Some unit → ⊥
no_unit unit e = cc (e)

here_kind : (place : Place) (row : Hcall) (id : UnitId) (unit : ℕ) → here place row id ≡ Some unit → is_there row (place.kind unit) ≡ true
here_kind place row id unit e = by (is_here place row id) refl e
  where
    some_is : (a b : ℕ) → Some a ≡ Some b → a ≡ b
    some_is a b f = cc (f)

    by : (b : Bool) → is_here place row id ≡ b → cond b (Some id.unit) None ≡ Some unit → is_there row (place.kind unit) ≡ true
    by true t f =
        subst (λ n. is_there row (place.kind n) ≡ true) (some_is id.unit unit f)
        (second_of (id.partition == place.partition) (is_there row (place.kind id.unit)) t)
    by false t f = absurd (no_unit unit f)

no_send : (place : Place) (o : Option Named) (unit : ℕ) → place.kind unit ≡ Some kinds.Lan → unit_named place rows.SendCrq o ≡ Some unit → ⊥
no_send place (Some (names.Unit id)) unit lan f =
    not_both (is_there rows.SendCrq (place.kind unit)) (here_kind place rows.SendCrq id unit f) (ap (is_there rows.SendCrq) lan)
  where
    not_both : (b : Bool) → b ≡ true → b ≡ false → ⊥
    not_both b is isnt = cc (is, isnt)
no_send place (Some (names.OwnWindow id)) unit lan f = no_unit unit f
no_send place (Some (names.ClientWindow id)) unit lan f = no_unit unit f
no_send place None unit lan f = no_unit unit f

-- what is said there, but of entries that were sent, and of the window's entries
said_else : (a b : UnitSeen) (row : Hcall) (args : List ℕ) (outcome : Outcome) → (row ≡ rows.SendCrq → ⊥) → (is_of_window row ≡ true → IsUnitSaid b row args outcome)
    → IsUnitSaid a row args outcome → IsUnitSaid b row args outcome
said_else a b rows.GetTce args outcome not_sent of_window is = of_window refl
said_else a b rows.PutTce args outcome not_sent of_window is = of_window refl
said_else a b rows.StuffTce args outcome not_sent of_window is = of_window refl
said_else a b rows.PutTceIndirect args outcome not_sent of_window is = of_window refl
said_else a b rows.SendCrq args outcome not_sent of_window is = absurd (not_sent refl)
said_else a b rows.CopyRdma args outcome not_sent of_window is = record {
  parameter = is.parameter;
  refused = λ e. tt;
  busy = λ e. tt;
  done = done_if (IsDone a rows.CopyRdma args) (IsDone b rows.CopyRdma args) (λ value h. tt) outcome is.done;
}
said_else a b rows.RegCrq args outcome not_sent of_window is =
    record { parameter = tt; refused = λ e. tt; busy = λ e. tt; done = done_if (IsDone a rows.RegCrq args) (IsDone b rows.RegCrq args) (λ value h. tt) outcome is.done }
said_else a b rows.FreeCrq args outcome not_sent of_window is =
    record { parameter = tt; refused = λ e. tt; busy = λ e. tt; done = done_if (IsDone a rows.FreeCrq args) (IsDone b rows.FreeCrq args) (λ value h. tt) outcome is.done }
said_else a b rows.EnableCrq args outcome not_sent of_window is =
    record { parameter = tt; refused = λ e. tt; busy = λ e. tt; done = done_if (IsDone a rows.EnableCrq args) (IsDone b rows.EnableCrq args) (λ value h. tt) outcome is.done }
said_else a b rows.RegisterLogicalLan args outcome not_sent of_window is =
    record { parameter = tt; refused = λ e. tt; busy = λ e. tt; done = done_if (IsDone a rows.RegisterLogicalLan args) (IsDone b rows.RegisterLogicalLan args) (λ value h. tt) outcome is.done }
said_else a b rows.FreeLogicalLan args outcome not_sent of_window is =
    record { parameter = tt; refused = λ e. tt; busy = λ e. tt; done = done_if (IsDone a rows.FreeLogicalLan args) (IsDone b rows.FreeLogicalLan args) (λ value h. tt) outcome is.done }
said_else a b rows.AddLogicalLanBuffer args outcome not_sent of_window is =
    record { parameter = tt; refused = λ e. tt; busy = λ e. tt; done = done_if (IsDone a rows.AddLogicalLanBuffer args) (IsDone b rows.AddLogicalLanBuffer args) (λ value h. tt) outcome is.done }
said_else a b rows.SendLogicalLan args outcome not_sent of_window is =
    record { parameter = tt; refused = λ e. tt; busy = λ e. tt; done = done_if (IsDone a rows.SendLogicalLan args) (IsDone b rows.SendLogicalLan args) (λ value h. tt) outcome is.done }
said_else a b rows.MulticastCtrl args outcome not_sent of_window is =
    record { parameter = tt; refused = λ e. tt; busy = λ e. tt; done = done_if (IsDone a rows.MulticastCtrl args) (IsDone b rows.MulticastCtrl args) (λ value h. tt) outcome is.done }
said_else a b rows.ChangeLogicalLanMac args outcome not_sent of_window is =
    record { parameter = tt; refused = λ e. tt; busy = λ e. tt; done = done_if (IsDone a rows.ChangeLogicalLanMac args) (IsDone b rows.ChangeLogicalLanMac args) (λ value h. tt) outcome is.done }

pub said_port : (place : Place) (a b : UnitSeen) (row : Hcall) (args : List ℕ) (unit : ℕ) (outcome : Outcome) → place.kind unit ≡ Some kinds.Lan
    → unit_asked place row args ≡ Some unit → (is_of_window row ≡ true → IsUnitSaid b row (further row args) outcome)
    → IsUnitSaid a row (further row args) outcome → IsUnitSaid b row (further row args) outcome
said_port place a b row args unit outcome lan asked of_window is = said_else a b row (further row args) outcome not_sent of_window is
  where
    not_sent : row ≡ rows.SendCrq → ⊥
    not_sent e = no_send place (named (slice_index args 0)) unit lan (subst (λ (r : Hcall). unit_asked place r args ≡ Some unit) e asked)

-- ---- a trace

-- what there is of a LAN unit is shown by the trace
pub port_shown : (pairs : List Pair) (scripts : List Script) (lan : LanValue) (lan_rows : LanRows) (history : List Served) (grants : List Grant) (copies : List CopyRecord) (partitions : List Partition)
    → AreOfOneHome copies pairs → AreScripts pairs lan.seats scripts → All (HasLawfulWindow pairs lan) (seats_of scripts) → IsOfPlan partitions pairs scripts lan.seats
    → (number : ℕ) (unit : UnitId) (mac : Mac) (pages slots : ℕ) → unit_at partitions unit ≡ Some (units.Lan mac pages slots) → IsSome (seat_at lan.seats unit)
    → UnitGrows (port_then number lan unit) (unit_shown (trace_of pairs scripts lan lan_rows history grants copies) number unit (Some (units.Lan mac pages slots)))
port_shown pairs scripts lan lan_rows history grants copies partitions home are windows of_plan number unit mac pages slots planned there = record {
  pages = sym (size (seat_at lan.seats unit) there has.fits);
  values = λ entry value is. subst (λ (l : List ℕ). Contains l value) (sym (values entry)) is;
  puts = λ entry value is. subst (λ (l : List ℕ). Contains (drop 1 l) value) (sym (values entry)) is;
  fronts = λ page front is.
      then_same unit number front (strokes_at lan unit page) (strokes_shown trace pages unit page)
      (subst (λ n. strokes_shown trace n unit page ≡ strokes_at lan unit page) (ap pages_if planned)
      ((port_shows pairs scripts lan lan_rows history grants copies partitions home are windows of_plan unit there).same page)) is;
  held = λ never. never;
  entries = λ entry is. is;
}
  where
    trace : Trace
    trace = trace_of pairs scripts lan lan_rows history grants copies

    seat : UnitSeat
    seat = unit_seat unit.partition unit.unit sits.Port

    inside : IsIn seat (seats_of scripts)
    inside = planned_in partitions pairs scripts lan.seats unit (units.Lan mac pages slots) are of_plan planned

    lawful : Each (HasLawfulWindow pairs lan) (seats_of scripts)
    lawful = each_from_all (HasLawfulWindow pairs lan) (seats_of scripts) windows

    has : HasLawfulWindow pairs lan seat
    has = each_in (HasLawfulWindow pairs lan) seat (seats_of scripts) inside lawful

    w : HasPortWindow pairs lan unit
    w = port_window_there pairs lan unit has.fits there

    seated : IsSeatedAt partitions unit w.window
    seated = subst (λ (slot : Option WindowValue). IfSome slot (IsSeatedAt partitions unit)) w.at
        (each_in (IsSeated partitions pairs lan) seat (seats_of scripts) inside (all_seated partitions pairs scripts lan copies home are of_plan lawful))

    size : (o : Option PortSeat) → IsSome o → IfSome o (λ seat. IsSomeAnd (port_window_at lan unit) (IsWindowOf unit seat))
        → option_map (λ (seat : PortSeat). seat.pages) o ≡ Some pages
    size None h f = absurd (cc (h))
    size (Some s) h f =
        let of : IsWindowOf unit s w.window = subst (λ (slot : Option WindowValue). IsSomeAnd slot (IsWindowOf unit s)) w.is f in
        ap Some (sym of.pages ∙ sym seated.size ∙ ap pages_if planned)

    values : (entry : ℕ) → values_shown (trace_of pairs scripts lan lan_rows history grants copies) unit entry ≡ values_at lan unit entry
    values = port_values pairs scripts lan lan_rows history grants copies partitions are of_plan windows unit
        (subst (λ (seats : List PortSeat). IsSome (seat_at seats unit)) of_plan.ports_are there)
