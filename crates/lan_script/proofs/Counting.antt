-- What calls at ports make of the counts of posts and frames taken.
use Rattle.std.proofs.Common.{◌≡◌, ◌+◌, inl, inr, ℕ, true, false, true≢false, List, [], ◌∷◌, Some, length, filter, sym, ◌∙◌, ap, subst}
use Rattle.std.specs.List.{flat_map}
use Rattle.vio_num.specs.declared.names.UnitId.{UnitId}
use Rattle.lan_buffers.specs.declared.rows.PostRow.{PostRow as Post}
use Rattle.lan_buffers.specs.declared.rows.HarvestRow.{HarvestRow as Harvest}
use Rattle.lan_buffers.specs.Port.{PortValue}
use Rattle.lan_switch.specs.declared.station.Station.{Station}
use Rattle.lan_switch.specs.Switch.{AtPort, port_of, same_unit, with_port}
use Rattle.lan_script.specs.PortCounts.{PortCounts, counts, counts_in, is_frame}
use Rattle.lan_script.specs.Rows.{harvests_in, posts_in, sessions_from}
use Rattle.lan_script.specs.Spent.{Grows, PortGrows}
use Rattle.lan_script.proofs.CarriedOn.{Changed, changed}
use Rattle.lan_script.proofs.Keys.{port_head, port_tail}
use Rattle.lan_script.proofs.Lans.{port_with}
use Rattle.lan_script.proofs.PortsGrow.{at_grows}
use Rattle.lan_script.proofs.Placing.{by_bool, none_some, one_unit, same_some}

-- a port that has more posts and frames taken by these numbers
pub record HasMore (more : PortCounts) (before after : PortValue) : Type 0 where
  pub unit : after.unit ≡ before.unit
  pub posts : (v : UnitId) → (counts_in v (Some after)).posts ≡ (counts_in v (Some before)).posts + more.posts
  pub taken : (v : UnitId) → (counts_in v (Some after)).taken ≡ (counts_in v (Some before)).taken + more.taken
  pub grows : PortGrows before after

-- a port that posted and took nothing
pub record SameRows (before after : PortValue) : Type 0 where
  pub unit : after.unit ≡ before.unit
  pub same : (v : UnitId) → counts_in v (Some after) ≡ counts_in v (Some before)
  pub grows : PortGrows before after

-- the counts of these rows, over so many sessions
abbrev pub counts_of : UnitId → List Post → List Harvest → ℕ → PortCounts
counts_of v posts harvests n =
    counts (length (flat_map (posts_in v posts) (sessions_from 1 n))) (length (filter (λ row. is_frame row.high) (flat_map (harvests_in v harvests) (sessions_from 1 n))))

pub same_rows : (before after : PortValue) → after.unit ≡ before.unit → after.posts ≡ before.posts → after.harvests ≡ before.harvests
    → length after.drop_counts ≡ length before.drop_counts → PortGrows before after → SameRows before after
same_rows before after unit posts harvests long grows = record {
  unit = unit;
  same = λ v.
      ap (λ l. counts_of v l after.harvests (length after.drop_counts)) posts
      ∙ ap (λ l. counts_of v before.posts l (length after.drop_counts)) harvests
      ∙ ap (λ n. counts_of v before.posts before.harvests n) long;
  grows = grows;
}

-- the unit of a port that is there
pub unit_there : (ss : List Station) (v : UnitId) (port : PortValue) → port_of ss v ≡ Some port → same_unit port.unit v ≡ true
unit_there [] v port at = absurd (none_some port at)
unit_there (s ∷ ss) v port at =
    by_bool (same_unit s.port.unit v) (same_unit port.unit v ≡ true)
    (λ e. subst (λ (p : PortValue). same_unit p.unit v ≡ true) (same_some s.port port (sym (port_head v s ss e) ∙ at)) e)
    (λ e. unit_there ss v port (sym (port_tail v s ss e) ∙ at))

-- one port is at no two units
pub one_place : (ss : List Station) (unit v : UnitId) (port : PortValue) → port_of ss unit ≡ Some port → port_of ss v ≡ Some port
    → same_unit v unit ≡ false → ⊥
one_place ss unit v port e f other =
    let same : v ≡ unit = sym (one_unit port.unit v (unit_there ss v port f)) ∙ one_unit port.unit unit (unit_there ss unit port e) in
    let own : same_unit v unit ≡ true =
    subst (λ (u : UnitId). same_unit u unit ≡ true) (one_unit port.unit unit (unit_there ss unit port e) ∙ sym same) (unit_there ss unit port e) in
    true≢false (sym own ∙ other)

-- a call at a port that keeps its rows keeps the counts of all
pub at_counts : (old : List Station) (unit : UnitId) (new : List Station) (P : PortValue → PortValue → Type 0)
    → ((before after : PortValue) → P before after → SameRows before after) → AtPort old unit new P → (v : UnitId)
    → counts_in v (port_of new v) ≡ counts_in v (port_of old v)
at_counts old unit new P same h v =
    ap (λ l. counts_in v (port_of l v)) h.rest ∙ by (changed unit v old h.before h.after h.was (same h.before h.after h.done).unit)
  where
    by : Changed unit v old h.before h.after → counts_in v (port_of (with_port unit h.after old) v) ≡ counts_in v (port_of old v)
    by (inl e) = ap (λ o. counts_in v o) e
    by (inr e) = ap (λ o. counts_in v o) e.1 ∙ (same h.before h.after h.done).same v ∙ sym (ap (λ o. counts_in v o) e.0)

-- What a call at one port adds.
pub record AddsCounts (unit : UnitId) (more : PortCounts) (old new : List Station) : Type 0 where
  pub posts : (counts_in unit (port_of new unit)).posts ≡ (counts_in unit (port_of old unit)).posts + more.posts
  pub taken : (counts_in unit (port_of new unit)).taken ≡ (counts_in unit (port_of old unit)).taken + more.taken
  pub others : (v : UnitId) → same_unit v unit ≡ false → counts_in v (port_of new v) ≡ counts_in v (port_of old v)
  pub grows : (v : UnitId) → Grows (port_of old v) (port_of new v)

pub at_more : (old : List Station) (unit : UnitId) (new : List Station) (P : PortValue → PortValue → Type 0) (more : PortCounts)
    → ((before after : PortValue) → port_of old unit ≡ Some before → P before after → HasMore more before after) → AtPort old unit new P
    → AddsCounts unit more old new
at_more old unit new P more has h = record {
  posts = ap (λ (c : PortCounts). c.posts) now ∙ kept.posts unit ∙ sym (ap (λ (c : PortCounts). c.posts + more.posts) was);
  taken = ap (λ (c : PortCounts). c.taken) now ∙ kept.taken unit ∙ sym (ap (λ (c : PortCounts). c.taken + more.taken) was);
  others = λ v other.
      ap (λ l. counts_in v (port_of l v)) h.rest ∙ by v other (changed unit v old h.before h.after h.was kept.unit);
  grows = at_grows old unit new P h kept.unit kept.grows;
}
  where
    kept : HasMore more h.before h.after
    kept = has h.before h.after h.was h.done

    now : counts_in unit (port_of new unit) ≡ counts_in unit (Some h.after)
    now = ap (λ l. counts_in unit (port_of l unit)) h.rest ∙ ap (λ o. counts_in unit o) (port_with unit old h.before h.after h.was kept.unit)

    was : counts_in unit (port_of old unit) ≡ counts_in unit (Some h.before)
    was = ap (λ o. counts_in unit o) h.was

    by : (v : UnitId) → same_unit v unit ≡ false → Changed unit v old h.before h.after
        → counts_in v (port_of (with_port unit h.after old) v) ≡ counts_in v (port_of old v)
    by v other (inl e) = ap (λ o. counts_in v o) e
    by v other (inr e) = absurd (one_place old unit v h.before h.was e.0 other)
