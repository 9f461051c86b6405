-- Where calls at ports leave them in their replays.
use Rattle.std.proofs.Common.{◌≡◌, ◌==◌, inl, inr, ℕ, Bool, true, false, IsSome, List, Option, Some, filter, length, map, refl, sym, ◌∙◌, ap, subst}
use Rattle.vio_num.specs.declared.names.UnitId.{UnitId}
use Rattle.lan_buffers.specs.declared.rows.PostRow.{PostRow as Post}
use Rattle.lan_buffers.specs.declared.settings.Settings.{Settings}
use Rattle.lan_buffers.specs.Pools.{post_len}
use Rattle.lan_buffers.specs.Port.{PortValue}
use Rattle.lan_switch.specs.declared.answers.LanAnswer.{LanAnswer}
use Rattle.lan_switch.specs.declared.station.Station.{Station}
use Rattle.lan_switch.specs.Switch.{AtPort, MadeAt, port_of, same_unit, with_port}
use Rattle.lan_script.specs.Invariant.{IsLan}
use Rattle.lan_script.specs.PortReplay.{PortReplay}
use Rattle.lan_script.specs.Replayed.{ReplaysOn, SameBeside, SameReplays, bytes_sent, replay_at, replay_of}
use Rattle.lan_script.specs.Seats.{seat_at}
use Rattle.lan_script.specs.Units.{LanValue}
use Rattle.lan_script.proofs.CarriedOn.{Changed, changed}
use Rattle.lan_script.proofs.Counting.{one_place}
use Rattle.lan_script.proofs.Lans.{port_there, port_with}
use Rattle.lan_script.proofs.Keys.{PortOf, port_of_seat}
use Rattle.lan_script.proofs.Placing.{one_unit, same_some}
use Rattle.lan_script.specs.declared.seat.PortSeat.{PortSeat}

-- a port that is moved in its replay so
pub record Moves (Says : (old new : PortReplay) → Type 0) (before after : PortValue) : Type 0 where
  pub unit : after.unit ≡ before.unit
  pub says : (n : List (List ℕ)) → Says (replay_of (Some before) n) (replay_of (Some after) n)

-- a port that stands in its replay as it did
abbrev pub Stays : (before after : PortValue) → Type 0
Stays before after = Moves (λ old new. new ≡ old) before after

-- the replay of a port with these
abbrev pub replay_with : Option Settings → List Post → (session : ℕ) → (n : List (List ℕ)) → PortReplay
replay_with settings posts session n =
    record { settings = settings; lengths = map post_len (filter (λ row. row.session == session) posts); sessions = session; frames = n }

pub replay_same : (before after : PortValue) → after.settings ≡ before.settings → after.posts ≡ before.posts
    → length after.drop_counts ≡ length before.drop_counts → (n : List (List ℕ)) → replay_of (Some after) n ≡ replay_of (Some before) n
replay_same before after settings posts long n =
    ap (λ s. replay_with s after.posts (length after.drop_counts) n) settings
    ∙ ap (λ l. replay_with before.settings l (length after.drop_counts) n) posts
    ∙ ap (λ k. replay_with before.settings before.posts k n) long

pub stays_with : (before after : PortValue) → after.unit ≡ before.unit → after.settings ≡ before.settings → after.posts ≡ before.posts
    → length after.drop_counts ≡ length before.drop_counts → Stays before after
stays_with before after unit settings posts long = record { unit = unit; says = replay_same before after settings posts long }

pub stays_equal : (before after : PortValue) → after ≡ before → Stays before after
stays_equal before after e =
    stays_with before after (ap (λ (p : PortValue). p.unit) e) (ap (λ (p : PortValue). p.settings) e) (ap (λ (p : PortValue). p.posts) e)
    (ap (λ (p : PortValue). length p.drop_counts) e)

-- a call at a port moves it in its replay, and no other
pub at_beside : (old : List Station) (unit : UnitId) (new : List Station) (P : PortValue → PortValue → Type 0) (h : AtPort old unit new P)
    → h.after.unit ≡ h.before.unit → (v : UnitId) → same_unit v unit ≡ false → port_of new v ≡ port_of old v
at_beside old unit new P h same v other = ap (λ l. port_of l v) h.rest ∙ by (changed unit v old h.before h.after h.was same)
  where
    by : Changed unit v old h.before h.after → port_of (with_port unit h.after old) v ≡ port_of old v
    by (inl e) = e
    by (inr e) = absurd (one_place old unit v h.before h.was e.0 other)

pub at_now : (old : List Station) (unit : UnitId) (new : List Station) (P : PortValue → PortValue → Type 0) (h : AtPort old unit new P)
    → h.after.unit ≡ h.before.unit → port_of new unit ≡ Some h.after
at_now old unit new P h same = ap (λ l. port_of l unit) h.rest ∙ port_with unit old h.before h.after h.was same

pub at_says : (old : List Station) (unit : UnitId) (new : List Station) (P : PortValue → PortValue → Type 0) (Says : (old new : PortReplay) → Type 0) (n : List (List ℕ))
    → ((before after : PortValue) → port_of old unit ≡ Some before → P before after → Moves Says before after) → AtPort old unit new P
    → Says (replay_of (port_of old unit) n) (replay_of (port_of new unit) n)
at_says old unit new P Says n moves h =
    let moved = moves h.before h.after h.was h.done in
    subst (λ (o : Option PortValue). Says (replay_of o n) (replay_of (port_of new unit) n)) (sym h.was)
    (subst (λ (o : Option PortValue). Says (replay_of (Some h.before) n) (replay_of o n)) (sym (at_now old unit new P h moved.unit)) (moved.says n))

-- the same of a call at the port of a unit of a run
pub port_replays : (lan now : LanValue) (unit : UnitId) (ss : List Station) (P : PortValue → PortValue → Type 0) (Says : (old new : PortReplay) → Type 0)
    → lan ≡ now → AtPort lan.stations unit ss P
    → ((before after : PortValue) → port_of lan.stations unit ≡ Some before → P before after → Moves Says before after)
    → ReplaysOn unit Says now (record lan { stations = ss })
port_replays lan now unit ss P Says same h moves =
    subst (λ (l : LanValue). ReplaysOn unit Says l (record lan { stations = ss })) same
    (record {
      says = at_says lan.stations unit ss P Says (bytes_sent lan unit) moves h;
      beside = λ v other.
          ap (λ o. replay_of o (bytes_sent lan v)) (at_beside lan.stations unit ss P h (moves h.before h.after h.was h.done).unit v other);
    })

pub made_replays : (lan now : LanValue) (unit : UnitId) (ss : List Station) (answer : LanAnswer) (P : PortValue → PortValue → Type 0)
    (Says : (old new : PortReplay) → Type 0) → lan ≡ now → IsLan lan → IsSome (seat_at now.seats unit) → MadeAt lan.stations unit answer ss P
    → ((before after : PortValue) → port_of lan.stations unit ≡ Some before → P before after → Moves Says before after)
    → ReplaysOn unit Says now (record lan { stations = ss })
made_replays lan now unit ss answer P Says same is there h moves =
    port_replays lan now unit ss P Says same (h.made (port_there lan now unit same is there)) moves

-- one that leaves its port where it stood
pub stays_all : (unit : UnitId) (old new : LanValue) → ReplaysOn unit (λ a b. b ≡ a) old new → SameReplays old new
stays_all unit old new h v = by (same_unit v unit) refl
  where
    by : (b : Bool) → same_unit v unit ≡ b → replay_at new v ≡ replay_at old v
    by true e = subst (λ (u : UnitId). replay_at new u ≡ replay_at old u) (sym (one_unit v unit e)) h.says
    by false e = h.beside v e

-- steps behind one another
pub same_on : (old mid new : LanValue) → SameReplays old mid → SameReplays mid new → SameReplays old new
same_on old mid new a b unit = b unit ∙ a unit

pub replays_behind : (unit : UnitId) (Says : (old new : PortReplay) → Type 0) (old mid new : LanValue) → SameReplays old mid → ReplaysOn unit Says mid new
    → ReplaysOn unit Says old new
replays_behind unit Says old mid new same h = record {
  says = subst (λ (a : PortReplay). Says a (replay_at new unit)) (same unit) h.says;
  beside = λ other e. h.beside other e ∙ same other;
}

-- whatever a call leaves of its port, it leaves the others
pub made_beside : (lan now : LanValue) (unit : UnitId) (ss : List Station) (answer : LanAnswer) (P : PortValue → PortValue → Type 0) → lan ≡ now → IsLan lan
    → IsSome (seat_at now.seats unit) → MadeAt lan.stations unit answer ss P → ((before after : PortValue) → P before after → after.unit ≡ before.unit)
    → SameBeside unit now (record lan { stations = ss })
made_beside lan now unit ss answer P same is there h unit_is =
    (made_replays lan now unit ss answer P (λ a b. Unit {0}) same is there h
    (λ before after was p. record { unit = unit_is before after p; says = λ n. tt })).beside

-- the slots of a unit's port are those of its seat
pub seat_slots : (lan now : LanValue) (unit : UnitId) (seat : PortSeat) (port : PortValue) → lan ≡ now → IsLan lan → seat_at now.seats unit ≡ Some seat
    → port_of lan.stations unit ≡ Some port → port.slots ≡ seat.slots
seat_slots lan now unit seat port same is at shown =
    let own : PortOf (port_of lan.stations unit) seat = port_of_seat lan.whole unit lan.seats lan.stations lan.frames seat is.ports
    (ap (λ (l : LanValue). seat_at l.seats unit) same ∙ at) in
    ap (λ (p : PortValue). p.slots) (same_some port own.port (sym shown ∙ own.is)) ∙ own.slots
