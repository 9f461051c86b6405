-- How the counts of posts and frames taken go through the steps of a line.
use Rattle.std.proofs.Common.{◌≡◌, ◌+◌, ◌<◌, ◌≤◌, ◌^◌, ℕ, arith, IfOk, IfSome, IsSome, List, OnOk, Option, Result, Ok, Err, Some, min, refl, sym, ◌∙◌, ap, subst}
use Rattle.vio_num.specs.declared.names.UnitId.{UnitId}
use Rattle.vio_num.specs.declared.hypervisor.Hrc.{Hrc}
use Rattle.vio_num.specs.declared.memory.NoMemory.{NoMemory}
use Rattle.vio_num.specs.declared.hypervisor.Hrc.TheVariants.{Success}
use Rattle.lan_buffers.specs.Answers.{IfFrame}
use Rattle.lan_buffers.specs.Calls.{IsOpen}
use Rattle.lan_buffers.specs.Port.{PortValue}
use Rattle.lan_buffers.specs.declared.answers.Harvest.{Harvest}
use Rattle.lan_switch.specs.declared.answers.LanAnswer.{LanAnswer}
use Rattle.lan_switch.specs.declared.station.Station.{Station}
use Rattle.lan_switch.specs.Calls.{Harvests}
use Rattle.lan_switch.specs.Switch.{AtPort, MadeAt, port_of}
use Rattle.lan_script.specs.PortCounts.{CountsOn, PortCounts, SameCounts, TakesSome, counts, posted_on}
use Rattle.lan_script.specs.Invariant.{IsLan}
use Rattle.lan_script.specs.Seats.{seat_at}
use Rattle.lan_script.specs.Taking.{harvested_on, taken_on}
use Rattle.lan_script.specs.declared.taking.Taken.{Taken}
use Rattle.lan_script.specs.declared.taking.Taken.TheVariants as found
use Rattle.lan_script.specs.Units.{IsOpenAt, LanValue}
use Rattle.lan_script.proofs.Counting.{AddsCounts, HasMore, SameRows, at_counts, at_more}
use Rattle.lan_script.proofs.Bringing.{begun_at}
use Rattle.lan_script.proofs.CountedCalls.{HasBegun, harvests_more}
use Rattle.lan_script.proofs.Lans.{port_there}
use Rattle.lan_script.proofs.PortsGrow.{at_grows, grow_on}

pub same_on : (old mid new : LanValue) → SameCounts old mid → SameCounts mid new → SameCounts old new
same_on old mid new a b = record { same = λ unit. b.same unit ∙ a.same unit; grows = grow_on old mid new a.grows b.grows }

pub same_then : {X E : Type 0} (r : Result X E) (old mid new : LanValue) → SameCounts old mid → OnOk r (SameCounts mid new) → OnOk r (SameCounts old new)
same_then (Ok x) old mid new a b = same_on old mid new a b
same_then (Err e) old mid new a b = tt

pub counts_same : (unit : UnitId) (before : PortCounts) (old new : LanValue) → SameCounts old new → CountsOn unit before before old new
counts_same unit before old new same = record {
  posts = ap (λ (c : PortCounts). c.posts + before.posts) (same.same unit);
  taken = ap (λ (c : PortCounts). c.taken + before.taken) (same.same unit);
  others = λ other _. same.same other;
  grows = same.grows;
}

-- one behind the other
pub counts_on : (unit : UnitId) (a b d : PortCounts) (old mid new : LanValue) → CountsOn unit a b old mid → CountsOn unit b d mid new
    → CountsOn unit a d old new
counts_on unit a b d old mid new h k = record {
  posts = omega (arith, h.posts, k.posts);
  taken = omega (arith, h.taken, k.taken);
  others = λ other beside. k.others other beside ∙ h.others other beside;
  grows = grow_on old mid new h.grows k.grows;
}

-- with as much more before and after
pub counts_more : (unit : UnitId) (a b a' b' : PortCounts) (old new : LanValue) → CountsOn unit a b old new → a.posts + b'.posts ≡ a'.posts + b.posts
    → a.taken + b'.taken ≡ a'.taken + b.taken → CountsOn unit a' b' old new
counts_more unit a b a' b' old new h posts taken = record {
  posts = omega (arith, h.posts, posts);
  taken = omega (arith, h.taken, taken);
  others = h.others;
  grows = h.grows;
}

pub adds_on : (unit : UnitId) (more : PortCounts) (old new : LanValue) → AddsCounts unit more old.stations new.stations
    → CountsOn unit (counts 0 0) more old new
adds_on unit more old new h = record { posts = omega (arith, h.posts); taken = omega (arith, h.taken); others = h.others; grows = h.grows }

-- frames that were taken, one part behind the other
pub takes_more : (unit : UnitId) (n : ℕ) (old mid new : LanValue) → TakesSome unit old mid → CountsOn unit (counts 0 0) (counts 0 n) mid new
    → TakesSome unit old new
takes_more unit n old mid new (m, h) k = (
  m + n,
  counts_on unit (counts 0 0) (counts 0 m) (counts 0 (m + n)) old mid new h
      (counts_more unit (counts 0 0) (counts 0 n) (counts 0 m) (counts 0 (m + n)) mid new k (omega arith) (omega arith)),
)

-- a call at the unit's port that keeps its rows
pub port_counts : (lan now : LanValue) (unit : UnitId) (ss : List Station) (P : PortValue → PortValue → Type 0) → lan ≡ now
    → AtPort lan.stations unit ss P → ((before after : PortValue) → P before after → SameRows before after)
    → SameCounts now (record lan { stations = ss })
port_counts lan now unit ss P same h kept =
    subst (λ (l : LanValue). SameCounts l (record lan { stations = ss })) same
    (record {
      same = at_counts lan.stations unit ss P kept h;
      grows = at_grows lan.stations unit ss P h (kept h.before h.after h.done).unit (kept h.before h.after h.done).grows;
    })

pub made_counts : (lan now : LanValue) (unit : UnitId) (answer : LanAnswer) (ss : List Station) (P : PortValue → PortValue → Type 0) → lan ≡ now → IsLan lan
    → IsSome (seat_at now.seats unit) → MadeAt lan.stations unit answer ss P → ((before after : PortValue) → P before after → SameRows before after)
    → SameCounts now (record lan { stations = ss })
made_counts lan now unit answer ss P same is there h kept =
    port_counts lan now unit ss P same (h.made (port_there lan now unit same is there)) kept

-- one that adds to them
pub port_adds : (lan now new : LanValue) (unit : UnitId) (P : PortValue → PortValue → Type 0) (more : PortCounts) → lan ≡ now
    → AtPort lan.stations unit new.stations P
    → ((before after : PortValue) → port_of lan.stations unit ≡ Some before → P before after → HasMore more before after)
    → CountsOn unit (counts 0 0) more now new
port_adds lan now new unit P more same h has =
    subst (λ (l : LanValue). CountsOn unit (counts 0 0) more l new) same
    (adds_on unit more lan new (at_more lan.stations unit new.stations P more has h))

-- the same of a call that names its code, where an open port is in a session
pub made_adds : (lan now new : LanValue) (unit : UnitId) (answer : LanAnswer) (P : PortValue → PortValue → Type 0) (more : PortCounts)
    → lan ≡ now → IsLan lan → IsSome (seat_at now.seats unit) → MadeAt lan.stations unit answer new.stations P
    → ((before after : PortValue) → HasBegun before → P before after → HasMore more before after)
    → CountsOn unit (counts 0 0) more now new
made_adds lan now new unit answer P more same is there h has =
    port_adds lan now new unit P more same (h.made (port_there lan now unit same is there))
    (λ before after was p. has before after (begun_at lan.stations unit before is.begun was) p)

-- a call behind one that changed no count
pub counts_behind : (unit : UnitId) (more : PortCounts) (old mid new : LanValue) → SameCounts old mid → CountsOn unit (counts 0 0) more mid new
    → CountsOn unit (counts 0 0) more old new
counts_behind unit more old mid new same h = counts_on unit (counts 0 0) (counts 0 0) more old mid new (counts_same unit (counts 0 0) old mid same) h

pub adds_behind : (unit : UnitId) (r : Result Hrc NoMemory) (old mid new : LanValue) → SameCounts old mid
    → IfOk r (λ code. CountsOn unit (counts 0 0) (posted_on code) mid new) → IfOk r (λ code. CountsOn unit (counts 0 0) (posted_on code) old new)
adds_behind unit (Ok code) old mid new same h = counts_behind unit (posted_on code) old mid new same h
adds_behind unit (Err e) old mid new same h = tt

-- a look at the receive queue of an open port
pub takes_one : (lan now old new : LanValue) (unit : UnitId) (answer : Harvest) (taken : PortCounts) → lan ≡ now → IsLan lan → SameCounts old now
    → taken ≡ harvested_on answer → IfFrame answer (λ number len correlator. len < 2 ^ 32) → IsOpenAt now unit
    → AtPort lan.stations unit new.stations (Harvests answer) → CountsOn unit (counts 0 0) taken old new
takes_one lan now old new unit answer taken same is before found short opened h =
    counts_behind unit taken old now new before
    (subst (λ (more : PortCounts). CountsOn unit (counts 0 0) more now new) (sym found)
    (port_adds lan now new unit (Harvests answer) (harvested_on answer) same h
    (λ a b was p. harvests_more answer a b (begun_at lan.stations unit a is.begun was (at_open a was)) short p)))
  where
    at_open : (port : PortValue) → port_of lan.stations unit ≡ Some port → IsOpen port
    at_open port was =
        subst (λ (o : Option PortValue). IfSome o IsOpen) was
        (subst (λ (l : LanValue). IfSome (port_of l.stations unit) IsOpen) (sym same) opened)

-- a buffer more of a line that posts, which has not posted all yet
pub posted_more : (unit : UnitId) (done count posted : ℕ) (code : Hrc) (old mid new : LanValue) → code ≡ Success → posted < count
    → CountsOn unit (counts (min done count) 0) (counts (min posted count) 0) old mid → CountsOn unit (counts 0 0) (posted_on code) mid new
    → CountsOn unit (counts (min done count) 0) (counts (min (posted + 1) count) 0) old new
posted_more unit done count posted code old mid new is less h k =
    let one : posted_on code ≡ counts 1 0 = ap (λ (c : Hrc). posted_on c) is in
    counts_on unit (counts (min done count) 0) (counts (min posted count) 0) (counts (min (posted + 1) count) 0) old mid new h
    (counts_more unit (counts 0 0) (counts 1 0) (counts (min posted count) 0) (counts (min (posted + 1) count) 0) mid new
    (subst (λ (more : PortCounts). CountsOn unit (counts 0 0) more mid new) one k) (omega (arith, less)) refl)

-- where a line has posted all
pub posted_all : (unit : UnitId) (a : PortCounts) (count posted : ℕ) (old new : LanValue) → count ≤ posted → CountsOn unit a (counts (min posted count) 0) old new
    → CountsOn unit a (counts count 0) old new
posted_all unit a count posted old new all h = counts_more unit a (counts (min posted count) 0) a (counts count 0) old new h (omega (arith, all)) refl

-- a frame more of a line that takes them
pub taken_more : (unit : UnitId) (a : PortCounts) (done more : ℕ) (taken : PortCounts) (old mid new : LanValue) → CountsOn unit a (counts 0 done) old mid
    → CountsOn unit (counts 0 0) taken mid new → taken ≡ counts 0 more → CountsOn unit a (counts 0 (done + more)) old new
taken_more unit a done more taken old mid new h k is =
    counts_on unit a (counts 0 done) (counts 0 (done + more)) old mid new h
    (counts_more unit (counts 0 0) (counts 0 more) (counts 0 done) (counts 0 (done + more)) mid new
    (subst (λ (t : PortCounts). CountsOn unit (counts 0 0) t mid new) is k) refl (omega arith))

-- what a look found is some frames or none
pub takes_on : (unit : UnitId) (taken : Taken) (old mid new : LanValue) → TakesSome unit old mid → CountsOn unit (counts 0 0) (taken_on taken) mid new
    → TakesSome unit old new
takes_on unit found.Frame old mid new h k = takes_more unit 1 old mid new h k
takes_on unit found.Blank old mid new h k = takes_more unit 0 old mid new h k
takes_on unit found.Nothing old mid new h k = takes_more unit 0 old mid new h k
