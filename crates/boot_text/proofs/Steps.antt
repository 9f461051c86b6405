-- Each line that may stand where it does, and with which nothing is wrong, keeps what is so of the plan so far.
use Rattle.std.proofs.Common.{◌≡◌, ◌≤◌, ◌<◌, ℕ, ◌+◌, ◌==◌, ◌||◌, not, nat_lt, Bool, true, false, cond, List, [], ◌∷◌, ◌++◌, length, length-append, slice_get, Some, None, refl, sym, ◌∙◌, arith, All, ◌⊎◌, inl, inr, eq-or-lt_of_le, eq-eqb}
use Rattle.std.specs.List.{list_any}
use Rattle.std.proofs.lemmas.List.Sums.{sum_by-append}
use Rattle.std.proofs.lemmas.List.Elements.{All-nil, All-cons, All-push}
use Rattle.std.proofs.lemmas.List.Folds.{list_any-append}
use Rattle.vio_num.specs.declared.names.Mac.{Mac}
use Rattle.boot_text.specs.BootText.{may_end}
use Rattle.boot_text.specs.SoFar.{SoFar, adds, kind_of, offence, is_server, is_port, has_server, ports_in, ports_of, pages_so_far, suits, follows, is_unit, is_in_script, is_served, is_named, names, unit_id, exceeds, partition_offence, server_offence, client_offence, port_offence, script_offence}
use Rattle.boot_text.specs.Sums.{with_unit}
use Rattle.boot_text.specs.Sound.{IsSized, IsSoundPartition, unit_at}
use Rattle.boot_text.specs.declared.cause.Cause.TheVariants as causes
use Rattle.boot_text.specs.declared.keyword.Keyword.{Keyword}
use Rattle.boot_text.specs.declared.keyword.Keyword.TheVariants as keywords
use Rattle.boot_text.specs.declared.names.Name.{Name}
use Rattle.boot_text.specs.declared.plan.Partition.{Partition}
use Rattle.boot_text.specs.declared.plan.UnitPlan.{UnitPlan}
use Rattle.boot_text.specs.declared.plan.UnitPlan.TheVariants as units
use Rattle.boot_text.specs.declared.plan.TheConstants.{MOST_PAGES, MOST_PARTITIONS, MOST_PORTS, MOST_UNITS, SERVER_PAGES}
use Rattle.boot_text.specs.declared.statement.Statement.{Statement}
use Rattle.boot_text.specs.declared.statement.Statement.TheVariants as statements
use Rattle.boot_text.specs.declared.verb.Verb.{Verb}
use Rattle.boot_text.proofs.Adding.{none_told, rest_told, before_script}
use Rattle.boot_text.proofs.Statements.{IsRanged}
use Rattle.boot_text.proofs.Units.{neither, is_not, no_way, same_at, empty_at, earlier_at, told_at, last_at, server_at, served_within, named_by}
use Rattle.boot_text.proofs.Linked.{AreLinked, unit_added, port_linked, server_linked, client_linked, links_same}
use Rattle.boot_text.proofs.Standing.{Stands, begun_of, whole, past_grant, is_open, has_units, rounds_before, grant_before, open_before, units_before, begun_anew, begun_same, unit_begun, line_begun, partition_sound}

-- what may still come where the most has not been reached
one_left : (n most : ℕ) → (n == most) ≡ false → n ≤ most → n + 1 ≤ most
one_left n most other h = go (eq-or-lt_of_le h)
  where
    go : (n ≡ most) ⊎ (n < most) → n + 1 ≤ most
    go (inl e) = no_way (n == most) (eq-eqb n most e) other
    go (inr l) = omega (arith, l)

unit_left : (s : SoFar) (pages : ℕ) (port : Bool) → exceeds s pages port ≡ false → length s.units ≤ MOST_UNITS → length s.units + 1 ≤ MOST_UNITS
unit_left s pages port h few = one_left (length s.units) MOST_UNITS (neither (length s.units == MOST_UNITS) _ h).0 few

port_left : (s : SoFar) (pages : ℕ) → exceeds s pages true ≡ false → ports_of s ≤ MOST_PORTS → ports_of s + 1 ≤ MOST_PORTS
port_left s pages h few =
    let many = (neither (length s.units == MOST_UNITS) _ h).1 in
    one_left (ports_of s) MOST_PORTS (neither (nat_lt MOST_PAGES (pages_so_far s + pages)) (ports_of s == MOST_PORTS) many).1 few

-- the ports with one unit more
ports_more : (us : List UnitPlan) (u : UnitPlan) → ports_in (us ++ u ∷ []) ≡ ports_in us + ports_in (u ∷ [])
ports_more us u = sum_by-append (λ (x : UnitPlan). cond (is_port x) 1 0) us (u ∷ [])

-- a line that is skipped, or the first
pub skipped_stands : (number : ℕ) (s : SoFar) → Stands number s → Stands (number + 1) s
skipped_stands number s h = record {
  rounds = h.rounds;
  grant = h.grant;
  some = h.some;
  few = h.few;
  few_ports = h.few_ports;
  room = h.room;
  closed = h.closed;
  each = h.each;
  begun = begun_same number s.last s.last s.units s.lines h.begun.some h.begun.no_script h.begun;
  links = h.links;
}

-- the rounds, the grant and the beginning of a partition
rounds_stand : (number : ℕ) (s : SoFar) (n : ℕ) → follows s.last keywords.Rounds ≡ true → IsRanged (statements.Rounds n) → Stands number s
    → Stands (number + 1) (adds number (statements.Rounds n) s)
rounds_stand number s n place range h = record {
  rounds = λ e. range;
  grant = λ e. cc;
  some = λ e. cc;
  few = h.few;
  few_ports = h.few_ports;
  room = λ e. cc;
  closed = λ e. cc;
  each = h.each;
  begun = begun_same number s.last keywords.Rounds s.units s.lines (λ e. cc) (λ e. h.begun.no_script (before_script s.last keywords.Rounds place refl)) h.begun;
  links = h.links;
}

grant_stands : (number : ℕ) (s : SoFar) (n : ℕ) → follows s.last keywords.Grant ≡ true → IsRanged (statements.Grant n) → Stands number s
    → Stands (number + 1) (adds number (statements.Grant n) s)
grant_stands number s n place range h = record {
  rounds = λ e. h.rounds (rounds_before s.last keywords.Grant place refl);
  grant = λ e. range;
  some = λ e. cc;
  few = h.few;
  few_ports = h.few_ports;
  room = λ e. cc;
  closed = λ e. cc;
  each = h.each;
  begun = begun_same number s.last keywords.Grant s.units s.lines (λ e. cc) (λ e. h.begun.no_script (before_script s.last keywords.Grant place refl)) h.begun;
  links = h.links;
}

partition_stands : (number : ℕ) (s : SoFar) → follows s.last keywords.Partition ≡ true → partition_offence s ≡ None → Stands number s
    → Stands (number + 1) (adds number statements.Partition s)
partition_stands number s place good h = record {
  rounds = λ e. h.rounds (rounds_before s.last keywords.Partition place refl);
  grant = λ e. h.grant (grant_before s.last keywords.Partition place refl);
  some = λ e. cc;
  few = h.few;
  few_ports = h.few_ports;
  room = λ e. one_left (length s.ended) MOST_PARTITIONS (none_told (length s.ended == MOST_PARTITIONS) causes.Limit None good) h.few;
  closed = λ e. cc;
  each = h.each;
  begun = begun_same number s.last keywords.Partition s.units s.lines (λ e. cc) (λ e. h.begun.no_script (before_script s.last keywords.Partition place refl)) h.begun;
  links = h.links;
}

-- the end of a partition
end_stands : (number : ℕ) (s : SoFar) → follows s.last keywords.End ≡ true → Stands number s → Stands (number + 1) (adds number statements.End s)
end_stands number s place h = record {
  rounds = λ e. h.rounds (rounds_before s.last keywords.End place refl);
  grant = λ e. h.grant (grant_before s.last keywords.End place refl);
  some = λ e. omega (arith, length-append s.ended (begun_of s ∷ []));
  few = omega (arith, length-append s.ended (begun_of s ∷ []), h.room (open_before s.last keywords.End place refl));
  few_ports = omega (arith, sum_by-append (λ (q : Partition). ports_in q.units) s.ended (begun_of s ∷ []), h.few_ports);
  room = λ e. cc;
  closed = λ e. refl;
  each = All-push IsSoundPartition s.ended (begun_of s) h.each (partition_sound number s.last s.units s.lines (h.begun.some (units_before s.last keywords.End place refl)) h.begun);
  begun = begun_anew (number + 1) keywords.End refl;
  links = links_same (λ id. sym (empty_at (whole s) (record { units = []; lines = [] }) id.partition id.unit refl)) h.links;
}

-- a line of the script
script_stands : (number : ℕ) (s : SoFar) (unit : ℕ) (verb : Verb) → follows s.last keywords.Script ≡ true → IsRanged (statements.Script unit verb)
    → script_offence s unit verb ≡ None → Stands number s → Stands (number + 1) (adds number (statements.Script unit verb) s)
script_stands number s unit verb place range good h = record {
  rounds = λ e. h.rounds (rounds_before s.last keywords.Script place refl);
  grant = λ e. h.grant (grant_before s.last keywords.Script place refl);
  some = λ e. cc;
  few = h.few;
  few_ports = h.few_ports;
  room = λ e. h.room (open_before s.last keywords.Script place refl);
  closed = λ e. cc;
  each = h.each;
  begun = line_begun number s.last s.units s.lines unit verb (h.begun.some (units_before s.last keywords.Script place refl))
      (none_told (has_server s.units) causes.Link _ good) suited range h.begun;
  links = links_same (λ id. same_at s.ended (begun_of s) (begun_of (adds number (statements.Script unit verb) s)) id.partition id.unit refl) h.links;
}
  where
    suited : suits verb (slice_get s.units unit) ≡ true
    suited = is_not (suits verb (slice_get s.units unit)) (none_told (not (suits verb (slice_get s.units unit))) causes.Unit _ (rest_told (has_server s.units) causes.Link _ good))

-- a unit
unit_kind : (next : Keyword) → is_unit next ≡ true
    → (past_grant next ≡ true) × ((is_open next || may_end next) ≡ true) × ((has_units next || may_end next) ≡ true) × (is_in_script next ≡ false) × (may_end next ≡ false)
unit_kind keywords.Server h = (refl, refl, refl, refl, refl)
unit_kind keywords.Client h = (refl, refl, refl, refl, refl)
unit_kind keywords.Lan h = (refl, refl, refl, refl, refl)
unit_kind _ h = cc

unit_stands : (number : ℕ) (s : SoFar) (next : Keyword) (unit : UnitPlan) → follows s.last next ≡ true → is_unit next ≡ true → length s.units + 1 ≤ MOST_UNITS → ports_of s + ports_in (unit ∷ []) ≤ MOST_PORTS → IsSized unit
    → (has_server (s.units ++ unit ∷ []) ≡ true → All (λ u. is_server u ≡ true) (s.units ++ unit ∷ [])) → AreLinked (unit_at (whole (with_unit next unit s)))
    → Stands number s → Stands (number + 1) (with_unit next unit s)
unit_stands number s next unit place kind left ports size alone links h = record {
  rounds = λ e. h.rounds (rounds_before s.last next place k.0);
  grant = λ e. h.grant (grant_before s.last next place k.1);
  some = λ e. no_way (may_end next) e k.4;
  few = h.few;
  few_ports = omega (arith, ports, ports_more s.units unit);
  room = λ e. h.room (open_before s.last next place k.2);
  closed = λ e. no_way (may_end next) e k.4;
  each = h.each;
  begun = unit_begun number s.last next s.units s.lines unit (h.begun.no_script (before_script s.last next place k.3)) left size alone h.begun;
  links = links;
}
  where
    k : (past_grant next ≡ true) × ((is_open next || may_end next) ≡ true) × ((has_units next || may_end next) ≡ true) × (is_in_script next ≡ false) × (may_end next ≡ false)
    k = unit_kind next kind

-- server units stand among their own kind alone
all_servers : (us : List UnitPlan) → list_any (λ u. not (is_server u)) us ≡ false → All (λ u. is_server u ≡ true) us
all_servers [] h = All-nil (λ (u : UnitPlan). is_server u ≡ true)
all_servers (u ∷ us) h =
    let both = neither (not (is_server u)) (list_any (λ u. not (is_server u)) us) h in
    All-cons (λ (u : UnitPlan). is_server u ≡ true) u us (is_not (is_server u) both.0) (all_servers us both.1)

either_false : (a b : Bool) → a ≡ false → b ≡ false → (a || b) ≡ false
either_false true b h k = h
either_false false b h k = k

no_server : (us : List UnitPlan) (u : UnitPlan) → has_server us ≡ false → is_server u ≡ false → has_server (us ++ u ∷ []) ≡ true → All (λ u. is_server u ≡ true) (us ++ u ∷ [])
no_server us u h k e =
    no_way (has_server (us ++ u ∷ [])) e
    (list_any-append is_server us (u ∷ []) ∙ either_false (has_server us) (has_server (u ∷ [])) h (either_false (is_server u) false k refl))

server_stands : (number : ℕ) (s : SoFar) (queue : ℕ) → follows s.last keywords.Server ≡ true → IsRanged (statements.Server queue) → server_offence s ≡ None → Stands number s
    → Stands (number + 1) (adds number (statements.Server queue) s)
server_stands number s queue place range good h =
    unit_stands number s keywords.Server (units.Server queue) place refl
    (unit_left s SERVER_PAGES false (none_told (exceeds s SERVER_PAGES false) causes.Limit _ good) h.begun.few) (omega (arith, h.few_ports)) range
    (λ e. All-push (λ (u : UnitPlan). is_server u ≡ true) s.units (units.Server queue) (all_servers s.units among.0) refl)
    (server_linked (unit_added s.ended (begun_of s) (begun_of (with_unit keywords.Server (units.Server queue) s)) (units.Server queue) refl)
    (λ id q x. last_at is_server (units.Server q) refl s.ended (begun_of s) id.partition id.unit among.1 x) h.links) h
  where
    among : (list_any (λ u. not (is_server u)) s.units ≡ false) × (list_any (λ p. has_server p.units) s.ended ≡ false)
    among =
        neither (list_any (λ u. not (is_server u)) s.units) (list_any (λ p. has_server p.units) s.ended)
        (none_told _ causes.Link None (rest_told (exceeds s SERVER_PAGES false) causes.Limit _ good))

client_stands : (number : ℕ) (s : SoFar) (server : Name) (pages queue : ℕ) → follows s.last keywords.Client ≡ true → IsRanged (statements.Client server pages queue)
    → client_offence s server pages ≡ None → Stands number s → Stands (number + 1) (adds number (statements.Client server pages queue) s)
client_stands number s server pages queue place range good h =
    unit_stands number s keywords.Client unit place refl
    (unit_left s pages false (none_told (exceeds s pages false) causes.Limit _ good) h.begun.few) (omega (arith, h.few_ports)) range
    (no_server s.units unit linked.0 refl)
    (client_linked (unit_added s.ended (begun_of s) (begun_of (with_unit keywords.Client unit s)) unit refl) there
    (served_within s.ended server.partition server.unit linked.1)
    (λ id p q x. no_way (is_named s server) (told_at (names server) (units.Client (unit_id server) p q) (named_by server (unit_id server) p q refl) s.ended (begun_of s) id.partition id.unit x) linked.2)
    h.links) h
  where
    unit : UnitPlan
    unit = units.Client (unit_id server) pages queue

    linked : (has_server s.units ≡ false) × (is_served s server ≡ true) × (is_named s server ≡ false)
    linked =
        let both = neither (has_server s.units) (not (is_served s server) || is_named s server) (none_told _ causes.Link None (rest_told (exceeds s pages false) causes.Limit _ good)) in
        let rest = neither (not (is_served s server)) (is_named s server) both.1 in
        (both.0, is_not (is_served s server) rest.0, rest.1)

    there : (q : ℕ) × (unit_at (whole s) (unit_id server) ≡ Some (units.Server q))
    there =
        let found = server_at (slice_get s.ended server.partition) server.unit linked.1 in
        (found.0, earlier_at s.ended (begun_of s) (units.Server found.0) server.partition server.unit found.1)

port_stands : (number : ℕ) (s : SoFar) (mac : Mac) (pages slots : ℕ) → follows s.last keywords.Lan ≡ true → IsRanged (statements.Lan mac pages slots)
    → port_offence s pages ≡ None → Stands number s → Stands (number + 1) (adds number (statements.Lan mac pages slots) s)
port_stands number s mac pages slots place range good h =
    unit_stands number s keywords.Lan unit place refl
    (unit_left s pages true (none_told (exceeds s pages true) causes.Limit _ good) h.begun.few)
    (port_left s pages (none_told (exceeds s pages true) causes.Limit _ good) h.few_ports) range
    (no_server s.units unit (none_told (has_server s.units) causes.Link None (rest_told (exceeds s pages true) causes.Limit _ good)) refl)
    (port_linked (unit_added s.ended (begun_of s) (begun_of (with_unit keywords.Lan unit s)) unit refl) h.links) h
  where
    unit : UnitPlan
    unit = units.Lan mac pages slots

pub statement_stands : (number : ℕ) (s : SoFar) (statement : Statement) → follows s.last (kind_of statement) ≡ true → IsRanged statement → offence s statement ≡ None
    → Stands number s → Stands (number + 1) (adds number statement s)
statement_stands number s statements.Version place range good h = skipped_stands number s h
statement_stands number s (statements.Rounds n) place range good h = rounds_stand number s n place range h
statement_stands number s (statements.Grant n) place range good h = grant_stands number s n place range h
statement_stands number s statements.Partition place range good h = partition_stands number s place good h
statement_stands number s statements.End place range good h = end_stands number s place h
statement_stands number s (statements.Server queue) place range good h = server_stands number s queue place range good h
statement_stands number s (statements.Client server pages queue) place range good h = client_stands number s server pages queue place range good h
statement_stands number s (statements.Lan mac pages slots) place range good h = port_stands number s mac pages slots place range good h
statement_stands number s (statements.Script unit verb) place range good h = script_stands number s unit verb place range good h
