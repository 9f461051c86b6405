-- What is so of the plan so far before each line: all that a sound plan wants, but for what is still to come.
use Rattle.std.proofs.Common.{◌≡◌, ◌≤◌, ◌<◌, ℕ, ◌+◌, ◌||◌, Bool, true, false, List, [], ◌∷◌, ◌++◌, length, length-append, slice_get, Some, None, refl, sym, ◌∙◌, subst, arith, lit≤, All, AllPairs}
use Rattle.std.proofs.lemmas.List.Elements.{All-nil, All-push, All-weaker}
use Rattle.std.proofs.lemmas.List.Quantifiers.{all_pairs_push}
use Rattle.vio_num.specs.declared.names.UnitId.{UnitId}
use Rattle.boot_text.specs.BootText.{may_end}
use Rattle.boot_text.specs.SoFar.{SoFar, nothing, is_server, has_server, suits, follows, is_in_script, ports_of}
use Rattle.boot_text.specs.Sums.{is_before_script}
use Rattle.boot_text.specs.Sound.{IsFrom, IsInRange, IsSized, IsSoundLine, IsSoundPartition, unit_at}
use Rattle.boot_text.specs.declared.keyword.Keyword.{Keyword}
use Rattle.boot_text.specs.declared.keyword.Keyword.TheVariants as keywords
use Rattle.boot_text.specs.declared.plan.Line.{Line}
use Rattle.boot_text.specs.declared.plan.Partition.{Partition}
use Rattle.boot_text.specs.declared.plan.UnitPlan.{UnitPlan}
use Rattle.boot_text.specs.declared.plan.TheConstants.{MOST_PARTITIONS, MOST_PORTS, MOST_UNITS}
use Rattle.boot_text.specs.declared.statement.TheConstants.{MOST_ROUNDS, MOST_GRANT}
use Rattle.boot_text.specs.declared.verb.Verb.{Verb}
use Rattle.boot_text.proofs.Units.{no_way, empty_at}
use Rattle.boot_text.proofs.Linked.{AreLinked}

-- where a line stands: behind the rounds, behind the grant, in a partition, and behind a unit of it
abbrev pub past_rounds : Keyword → Bool
past_rounds keywords.Version = false
past_rounds _ = true

abbrev pub past_grant : Keyword → Bool
past_grant keywords.Version = false
past_grant keywords.Rounds = false
past_grant _ = true

abbrev pub is_open : Keyword → Bool
is_open keywords.Partition = true
is_open keywords.Server = true
is_open keywords.Client = true
is_open keywords.Lan = true
is_open keywords.Script = true
is_open _ = false

abbrev pub has_units : Keyword → Bool
has_units keywords.Server = true
has_units keywords.Client = true
has_units keywords.Lan = true
has_units keywords.Script = true
has_units _ = false

-- The units and the script of a partition that has not ended.
pub record IsBegun (number : ℕ) (last : Keyword) (units : List UnitPlan) (lines : List Line) : Type 0 where
  pub some : has_units last ≡ true → 1 ≤ length units
  pub few : length units ≤ MOST_UNITS
  pub sized : All IsSized units
  pub sound : All (IsSoundLine units) lines
  pub in_order : AllPairs (λ a b. a.number < b.number) lines
  pub below : All (λ line. line.number < number) lines
  pub alone : has_server units ≡ true → All (λ unit. is_server unit ≡ true) units
  pub silent : has_server units ≡ true → lines ≡ []
  pub no_script : is_before_script last ≡ true → lines ≡ []

-- the partition that has not ended, and all partitions with it
abbrev pub begun_of : SoFar → Partition
begun_of s = record { units = s.units; lines = s.lines }

abbrev pub whole : SoFar → List Partition
whole s = s.ended ++ begun_of s ∷ []

-- The plan before the line of this number.
pub record Stands (number : ℕ) (s : SoFar) : Type 0 where
  pub rounds : past_rounds s.last ≡ true → IsFrom 1 MOST_ROUNDS s.rounds
  pub grant : past_grant s.last ≡ true → IsFrom 1 MOST_GRANT s.grant
  pub some : may_end s.last ≡ true → 1 ≤ length s.ended
  pub few : length s.ended ≤ MOST_PARTITIONS
  pub few_ports : ports_of s ≤ MOST_PORTS
  pub room : is_open s.last ≡ true → length s.ended + 1 ≤ MOST_PARTITIONS
  pub closed : may_end s.last ≡ true → s.units ≡ []
  pub each : All IsSoundPartition s.ended
  pub begun : IsBegun number s.last s.units s.lines
  pub links : AreLinked (unit_at (whole s))

-- which lines stand where
pub rounds_before : (last next : Keyword) → follows last next ≡ true → past_grant next ≡ true → past_rounds last ≡ true
rounds_before keywords.Version keywords.Rounds h k = cc
rounds_before keywords.Version _ h k = cc
rounds_before _ next h k = refl

pub grant_before : (last next : Keyword) → follows last next ≡ true → (is_open next || may_end next) ≡ true → past_grant last ≡ true
grant_before keywords.Version keywords.Rounds h k = cc
grant_before keywords.Version _ h k = cc
grant_before keywords.Rounds keywords.Grant h k = cc
grant_before keywords.Rounds _ h k = cc
grant_before _ next h k = refl

pub open_before : (last next : Keyword) → follows last next ≡ true → (has_units next || may_end next) ≡ true → is_open last ≡ true
open_before keywords.Version keywords.Rounds h k = cc
open_before keywords.Version _ h k = cc
open_before keywords.Rounds keywords.Grant h k = cc
open_before keywords.Rounds _ h k = cc
open_before keywords.Grant keywords.Partition h k = cc
open_before keywords.Grant _ h k = cc
open_before keywords.End keywords.Partition h k = cc
open_before keywords.End _ h k = cc
open_before _ next h k = refl

pub units_before : (last next : Keyword) → follows last next ≡ true → is_in_script next ≡ true → has_units last ≡ true
units_before keywords.Version keywords.Rounds h k = cc
units_before keywords.Version _ h k = cc
units_before keywords.Rounds keywords.Grant h k = cc
units_before keywords.Rounds _ h k = cc
units_before keywords.Grant keywords.Partition h k = cc
units_before keywords.Grant _ h k = cc
units_before keywords.End keywords.Partition h k = cc
units_before keywords.End _ h k = cc
units_before keywords.Partition keywords.Script h k = cc
units_before keywords.Partition keywords.End h k = cc
units_before keywords.Partition _ h k = cc
units_before _ next h k = refl

-- no units and no script
pub begun_anew : (number : ℕ) (last : Keyword) → has_units last ≡ false → IsBegun number last [] []
begun_anew number last none = record {
  some = λ h. no_way (has_units last) h none;
  few = lit≤ tt;
  sized = All-nil IsSized;
  sound = All-nil (IsSoundLine []);
  in_order = λ i j d l k. absurd (omega arith);
  below = All-nil (λ (line : Line). line.number < number);
  alone = λ h. cc;
  silent = λ h. refl;
  no_script = λ h. refl;
}

below_next : (number : ℕ) (lines : List Line) → All (λ line. line.number < number) lines → All (λ line. line.number < number + 1) lines
below_next number lines h = All-weaker (λ (line : Line). line.number < number) (λ line. line.number < number + 1) (λ line l. omega (arith, l)) lines h

-- a line that changes neither
pub begun_same : (number : ℕ) (last next : Keyword) (units : List UnitPlan) (lines : List Line) → (has_units next ≡ true → 1 ≤ length units)
    → (is_before_script next ≡ true → lines ≡ []) → IsBegun number last units lines → IsBegun (number + 1) next units lines
begun_same number last next units lines some empty b = record {
  some = some;
  few = b.few;
  sized = b.sized;
  sound = b.sound;
  in_order = b.in_order;
  below = below_next number lines b.below;
  alone = b.alone;
  silent = b.silent;
  no_script = empty;
}

-- one unit more
pub unit_begun : (number : ℕ) (last next : Keyword) (units : List UnitPlan) (lines : List Line) (unit : UnitPlan) → lines ≡ [] → length units + 1 ≤ MOST_UNITS → IsSized unit
    → (has_server (units ++ unit ∷ []) ≡ true → All (λ u. is_server u ≡ true) (units ++ unit ∷ [])) → IsBegun number last units lines → IsBegun (number + 1) next (units ++ unit ∷ []) lines
unit_begun number last next units lines unit empty room size alone b = record {
  some = λ h. omega (arith, length-append units (unit ∷ []));
  few = omega (arith, length-append units (unit ∷ []), room);
  sized = All-push IsSized units unit b.sized size;
  sound = subst (λ (ls : List Line). All (IsSoundLine (units ++ unit ∷ [])) ls) (sym empty) (All-nil (IsSoundLine (units ++ unit ∷ [])));
  in_order = b.in_order;
  below = below_next number lines b.below;
  alone = alone;
  silent = λ h. empty;
  no_script = λ h. empty;
}

-- one line more of the script
pub line_begun : (number : ℕ) (last : Keyword) (units : List UnitPlan) (lines : List Line) (unit : ℕ) (verb : Verb) → 1 ≤ length units → has_server units ≡ false
    → suits verb (slice_get units unit) ≡ true → IsInRange verb → IsBegun number last units lines
    → IsBegun (number + 1) keywords.Script units (lines ++ record { number = number; unit = unit; verb = verb } ∷ [])
line_begun number last units lines unit verb some none suited ranged b = record {
  some = λ h. some;
  few = b.few;
  sized = b.sized;
  sound = All-push (IsSoundLine units) lines line b.sound (record { suited = suited; ranged = ranged });
  in_order = all_pairs_push (λ (x y : Line). x.number < y.number) lines line b.in_order (λ k d l. b.below k d l);
  below = All-push (λ (x : Line). x.number < number + 1) lines line (below_next number lines b.below) (omega arith);
  alone = b.alone;
  silent = λ h. no_way (has_server units) h none;
  no_script = λ h. cc;
}
  where
    line : Line
    line = record { number = number; unit = unit; verb = verb }

-- the partition at its end
pub partition_sound : (number : ℕ) (last : Keyword) (units : List UnitPlan) (lines : List Line) → 1 ≤ length units → IsBegun number last units lines
    → IsSoundPartition (record { units = units; lines = lines })
partition_sound number last units lines some b = record {
  some = some;
  few = b.few;
  sized = b.sized;
  lines = b.sound;
  in_order = b.in_order;
  alone = b.alone;
  silent = b.silent;
}

-- the plan before the first line
no_unit : (id : UnitId) (unit : UnitPlan) → unit_at (whole nothing) id ≡ Some unit → ⊥
no_unit id unit h = go (empty_at [] (begun_of nothing) id.partition id.unit refl)
  where
    go : unit_at (whole nothing) id ≡ None → ⊥
    go e = let f : Some unit ≡ None = sym h ∙ e in cc

pub nothing_linked : AreLinked (unit_at (whole nothing))
nothing_linked = record {
  one_home = λ a b q r x y. absurd (no_unit a _ x);
  served = λ id server p q x. absurd (no_unit id _ x);
  earlier = λ id server p q x. absurd (no_unit id _ x);
  own = λ a b server p q p' q' x y. absurd (no_unit a _ x);
}

pub nothing_stands : (number : ℕ) → Stands number nothing
nothing_stands number = record {
  rounds = λ h. cc;
  grant = λ h. cc;
  some = λ h. cc;
  few = lit≤ tt;
  few_ports = lit≤ tt;
  room = λ h. cc;
  closed = λ h. refl;
  each = All-nil IsSoundPartition;
  begun = begun_anew number keywords.Version refl;
  links = nothing_linked;
}
