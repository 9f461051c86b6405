-- Ports that do nothing, and from which nothing is left to take.
use Rattle.std.proofs.Common.{◌≡◌, ◌⊎◌, inl, inr, ◌+◌, ℕ, arith, length, length-append, true, false, IfSome, IsSome, All, List, [], ◌∷◌, Option, Some, None, Result, refl, sym, ◌∙◌, ap, subst}
use Rattle.std.proofs.lemmas.List.Elements.{All-head, All-tail}
use Rattle.vio_num.specs.declared.hypervisor.Moved.TheVariants.{Moved, Quiet}
use Rattle.vio_num.specs.declared.memory.NoMemory.{NoMemory}
use Rattle.vio_num.specs.declared.names.UnitId.{UnitId}
use Rattle.lan_buffers.specs.Calls.{IsOpen, Reads, harvest_row}
use Rattle.lan_buffers.specs.Port.{PortValue, last_session, now, receive_entry}
use Rattle.lan_buffers.specs.declared.rows.DeliverRow.{DeliverRow}
use Rattle.lan_buffers.specs.declared.rows.HarvestRow.{HarvestRow}
use Rattle.lan_buffers.specs.declared.answers.Harvest.{Harvest}
use Rattle.lan_buffers.specs.declared.answers.Harvest.TheVariants as harvests
use Rattle.lan_switch.specs.Calls.{Harvests, Reserves}
use Rattle.lan_switch.specs.Switch.{AtPort, port_of, same_unit}
use Rattle.lan_switch.specs.declared.station.Station.{Station}
use Rattle.lan_script.specs.PortReplay.{IsOn}
use Rattle.lan_script.specs.Replayed.{replay_at, settings_of}
use Rattle.lan_script.specs.Resting.{FindsNone, HasReadAll, IsAllTaken, IsNoHarvest, OnNothing, ReadsAs, SamePorts, entries_read_at, reads_found, entries_read, reads_told, shown_of}
use Rattle.lan_script.specs.Seats.{IsSizedSeat, seat_at}
use Rattle.lan_script.specs.Units.{IsOpenAt, LanValue}
use Rattle.lan_script.specs.declared.seat.PortSeat.{PortSeat}
use Rattle.lan_script.specs.declared.taking.Taken.{Taken}
use Rattle.lan_script.specs.declared.taking.Taken.TheVariants as found
use Rattle.lan_script.proofs.Placing.{by_bool, one_unit, same_some}
use Rattle.lan_script.proofs.Replaying.{at_beside, at_now}

-- steps behind one another
pub ports_on : (old mid new : LanValue) → SamePorts old mid → SamePorts mid new → SamePorts old new
ports_on old mid new a b unit = b unit ∙ a unit

-- what was left to take of a port is still so where no port did anything
pub still_taken : (old new : LanValue) (unit : UnitId) → SamePorts old new → IsAllTaken old unit → IsAllTaken new unit
still_taken old new unit same all = by (port_of old.stations unit) (port_of new.stations unit) (same unit) all
  where
    by : (o n : Option PortValue) → shown_of n ≡ shown_of o → IfSome o HasReadAll → IfSome n HasReadAll
    by o None e h = tt
    by None (Some b) e h = absurd (cc (e))
    by (Some a) (Some b) e h = subst HasReadAll (same_some (record a { spare = 0 }) (record b { spare = 0 }) (sym e)) h

-- a call that changes nothing of its port but the room
pub port_rests : (lan now : LanValue) (unit : UnitId) (ss : List Station) (P : PortValue → PortValue → Type 0) → lan ≡ now → AtPort lan.stations unit ss P
    → ((before after : PortValue) → P before after → record after { spare = 0 } ≡ record before { spare = 0 })
    → SamePorts now (record lan { stations = ss })
port_rests lan now unit ss P same h rests = subst (λ (l : LanValue). SamePorts l (record lan { stations = ss })) same each
  where
    shown : record h.after { spare = 0 } ≡ record h.before { spare = 0 }
    shown = rests h.before h.after h.done

    unit_same : h.after.unit ≡ h.before.unit
    unit_same = ap (λ (p : PortValue). p.unit) shown

    own : shown_of (port_of ss unit) ≡ shown_of (port_of lan.stations unit)
    own = ap shown_of (at_now lan.stations unit ss P h unit_same) ∙ ap (λ (p : PortValue). Some p) shown ∙ sym (ap shown_of h.was)

    each : (v : UnitId) → shown_of (port_of ss v) ≡ shown_of (port_of lan.stations v)
    each v =
        by_bool (same_unit v unit) (shown_of (port_of ss v) ≡ shown_of (port_of lan.stations v))
        (λ e. subst (λ (u : UnitId). shown_of (port_of ss u) ≡ shown_of (port_of lan.stations u)) (sym (one_unit v unit e)) own)
        (λ e. ap shown_of (at_beside lan.stations unit ss P h unit_same v e))

pub reserves_rest : (n : ℕ) (answer : Result Unit NoMemory) (before after : PortValue) → Reserves n answer before after
    → record after { spare = 0 } ≡ record before { spare = 0 }
reserves_rest n answer before after h = ap (λ (p : PortValue). record p { spare = 0 }) h.rest

-- ---- a look that found nothing

no_harvest : (answer : Harvest) (before after : PortValue) → IsNoHarvest answer → Harvests answer before after → (after ≡ before) × HasReadAll before
no_harvest (harvests.Frame number len correlator) before after none h = absurd none
no_harvest (harvests.Blank number correlator) before after none h = absurd none
no_harvest (harvests.Nothing number high) before after none h =
    (h.rest, λ opened. sym h.nothing.number_is ∙ h.nothing.all_read)

pub found_none : (lan now old : LanValue) (unit : UnitId) (ss : List Station) (answer : Harvest) (taken : Taken) → lan ≡ now
    → AtPort lan.stations unit ss (Harvests answer) → SamePorts old now → (taken ≡ found.Nothing → IsNoHarvest answer)
    → OnNothing unit taken old (record lan { stations = ss })
found_none lan now old unit ss answer taken same h before none is = record {
  still = λ v. left v ∙ before v;
  all = subst (λ (o : Option PortValue). IfSome o HasReadAll) (sym (at_now lan.stations unit ss (Harvests answer) h (ap (λ (p : PortValue). p.unit) found.0)))
      (subst HasReadAll (sym found.0) found.1);
}
  where
    found : (h.after ≡ h.before) × HasReadAll h.before
    found = no_harvest answer h.before h.after (none is) h.done

    -- the same place, where this call is said to have left the port alone
    alone : AtPort lan.stations unit ss (λ a b. b ≡ a)
    alone = record { before = h.before; after = h.after; was = h.was; done = found.0; rest = h.rest }

    left : SamePorts now (record lan { stations = ss })
    left = port_rests lan now unit ss (λ a b. b ≡ a) same alone (λ a b e. ap (λ (p : PortValue). record p { spare = 0 }) e)

-- a look that found nothing, behind others that did not either
pub none_behind : (unit : UnitId) (taken : Taken) (old mid new : LanValue) → SamePorts old mid → FindsNone unit mid new → FindsNone unit old new
none_behind unit taken old mid new before found = record { still = ports_on old mid new before found.still; all = found.all }

pub not_quiet : Moved ≡ Quiet → ⊥
not_quiet e = cc (e)

-- the seat of a unit has a slot at least
pub sized_in : (seats : List PortSeat) (unit : UnitId) (seat : PortSeat) → All IsSizedSeat seats → seat_at seats unit ≡ Some seat → IsSizedSeat seat
sized_in [] unit seat all at = absurd (cc (at))
sized_in (s ∷ seats) unit seat all at =
    by_bool (same_unit s.unit unit) (IsSizedSeat seat)
    (λ e. subst IsSizedSeat (same_some s seat (sym (head e) ∙ at)) (All-head IsSizedSeat s seats all))
    (λ e. sized_in seats unit seat (All-tail IsSizedSeat s seats all) (sym (tail e) ∙ at))
  where
    head : same_unit s.unit unit ≡ true → seat_at (s ∷ seats) unit ≡ Some s
    head e = rw e refl

    tail : same_unit s.unit unit ≡ false → seat_at (s ∷ seats) unit ≡ seat_at seats unit
    tail e = rw e refl

-- a port that its replay leaves on is open
pub on_open : (lan : LanValue) (unit : UnitId) → IsOn (replay_at lan unit) → IsOpenAt lan unit
on_open lan unit on = by (port_of lan.stations unit) on
  where
    by : (o : Option PortValue) → IsSome (settings_of o) → IfSome o IsOpen
    by (Some port) is = is
    by None is = absurd (cc (is))

-- ---- what a look has read

reads_shown : (o : Option PortValue) → entries_read (shown_of o) ≡ entries_read o
reads_shown (Some port) = refl
reads_shown None = refl

-- no port that did nothing read an entry
pub reads_still : (old new : LanValue) (unit : UnitId) → SamePorts old new → entries_read_at new unit ≡ entries_read_at old unit
reads_still old new unit same =
    sym (reads_shown (port_of new.stations unit)) ∙ ap entries_read (same unit) ∙ reads_shown (port_of old.stations unit)

one_more : (before after : PortValue) (number : ℕ) (row : DeliverRow) → Reads before after number row
    → (length after.harvests ≡ length before.harvests + 1) × (after.unit ≡ before.unit)
one_more before after number row h = (
  omega (
    arith,
    ap (λ (l : List HarvestRow). length l) h.read,
    length-append before.harvests
        (harvest_row (last_session before) (receive_entry before.slots number (now before).posts row) ∷ []),
  ),
  ap (λ (p : PortValue). p.unit) h.rest,
)

reads_by : (answer : Harvest) (before after : PortValue) → Harvests answer before after
    → (length after.harvests ≡ length before.harvests + reads_told answer) × (after.unit ≡ before.unit)
reads_by (harvests.Frame number len correlator) before after h = one_more before after number h.frame.row h.frame.reads
reads_by (harvests.Blank number correlator) before after h = one_more before after number h.blank.row h.blank.reads
reads_by (harvests.Nothing number high) before after h =
    (omega (arith, ap (λ (p : PortValue). length p.harvests) h.rest), ap (λ (p : PortValue). p.unit) h.rest)

-- a look reads as many entries as it says
pub found_reads : (lan now old : LanValue) (unit : UnitId) (ss : List Station) (answer : Harvest) (taken : Taken) → lan ≡ now
    → AtPort lan.stations unit ss (Harvests answer) → SamePorts old now → reads_found taken ≡ reads_told answer
    → ReadsAs unit taken old (record lan { stations = ss })
found_reads lan now old unit ss answer taken same h before is =
    omega (
      arith,
      ap entries_read (at_now lan.stations unit ss (Harvests answer) h read.1),
      read.0,
      is,
      ap entries_read h.was,
      ap (λ (l : LanValue). entries_read_at l unit) same,
      reads_still old now unit before,
    )
  where
    read : (length h.after.harvests ≡ length h.before.harvests + reads_told answer) × (h.after.unit ≡ h.before.unit)
    read = reads_by answer h.before h.after h.done

-- a frame and a blank buffer are an entry each
pub reads_one : (taken : Taken) → (taken ≡ found.Frame) ⊎ (taken ≡ found.Blank) → reads_found taken ≡ 1
reads_one taken (inl is) = ap reads_found is
reads_one taken (inr is) = ap reads_found is
