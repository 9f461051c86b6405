-- What calls on a unit's port or window leave of what frames and deliveries carry.
use Rattle.std.proofs.Common.{◌≡◌, ◌⊎◌, inl, inr, true, false, List, [], ◌∷◌, Option, Some, None, refl, sym, ◌∙◌, ap, subst}
use Rattle.std.specs.List.{Contains}
use Rattle.vio_num.specs.declared.names.UnitId.{UnitId}
use Rattle.tce_window.specs.PlainPort.{known_of}
use Rattle.tce_window.specs.PortState.{PortState}
use Rattle.tce_window.specs.Window.{WindowValue}
use Rattle.rdma_copy.proofs.Laws.{later_begins, learns_grows, side_same}
use Rattle.rdma_copy.specs.Copy.{Side, SideGrows, side}
use Rattle.unit_region.proofs.Laws.{own_same}
use Rattle.unit_region.specs.Kept.{KeepsWindow, LaysOwnAll, LaysOwnOn}
use Rattle.lan_buffers.specs.Port.{PortValue}
use Rattle.lan_switch.specs.Source.{OnlyReadThrough}
use Rattle.lan_switch.specs.Switch.{port_of, same_unit, with_port}
use Rattle.lan_switch.specs.declared.station.Station.{Station}
use Rattle.vio_trace.specs.declared.lan_rows.FrameRow.{FrameRow}
use Rattle.vio_trace.specs.declared.lan_rows.PostRow.{PostRow}
use Rattle.lan_script.specs.declared.windows.Place.{Place}
use Rattle.lan_script.specs.Invariant.{CarryAll, all_of, posts_at, posted_in, rows_at, side_in}
use Rattle.lan_script.specs.Windows.{facts_of, window_in, with_window}
use Rattle.lan_script.proofs.Balance.{sees_with}
use Rattle.lan_script.proofs.Carrying.{Gathers, all_read, gathered, gathers_own}
use Rattle.lan_script.proofs.Keys.{port_head, port_tail}
use Rattle.lan_script.proofs.Named.{same_strokes}
use Rattle.lan_script.proofs.Placing.{by_bool, has_place, none_some, one_unit, same_some, window_beside, window_with}
use Rattle.lan_script.proofs.Posted.{KeepsPosts}
use Rattle.lan_script.proofs.Tallies.{KeepsTally}

-- a port that was changed, or one beside it
abbrev pub Changed : (unit v : UnitId) → (ss : List Station) → (before after : PortValue) → Type 0
Changed unit v ss before after =
    (port_of (with_port unit after ss) v ≡ port_of ss v) ⊎ ((port_of ss v ≡ Some before) × (port_of (with_port unit after ss) v ≡ Some after))

pub changed : (unit v : UnitId) (ss : List Station) (before after : PortValue) → port_of ss unit ≡ Some before → after.unit ≡ before.unit
    → Changed unit v ss before after
changed unit v [] before after at same = absurd (none_some before at)
changed unit v (s ∷ ss) before after at same =
    by_bool (same_unit s.port.unit unit) (Changed unit v (s ∷ ss) before after)
    (λ e. own e (same_some s.port before (sym (port_head unit s ss e) ∙ at)))
    (λ e. other e (changed unit v ss before after (sym (port_tail unit s ss e) ∙ at) same))
  where
    here : same_unit s.port.unit unit ≡ true → with_port unit after (s ∷ ss) ≡ record s { port = after } ∷ ss
    here e = rw e refl

    later : same_unit s.port.unit unit ≡ false → with_port unit after (s ∷ ss) ≡ s ∷ with_port unit after ss
    later e = rw e refl

    own : same_unit s.port.unit unit ≡ true → s.port ≡ before → Changed unit v (s ∷ ss) before after
    own e is =
        let name : after.unit ≡ s.port.unit = same ∙ ap (λ (p : PortValue). p.unit) (sym is) in
        by_bool (same_unit s.port.unit v) (Changed unit v (s ∷ ss) before after)
        (λ f. inr (
          port_head v s ss f ∙ ap (λ (p : PortValue). Some p) is,
          ap (λ l. port_of l v) (here e) ∙ port_head v (record s { port = after }) ss (ap (λ (u : UnitId). same_unit u v) name ∙ f),
        ))
        (λ f. inl (
        ap (λ l. port_of l v) (here e) ∙ port_tail v (record s { port = after }) ss (ap (λ (u : UnitId). same_unit u v) name ∙ f)
        ∙ sym (port_tail v s ss f)))

    other : same_unit s.port.unit unit ≡ false → Changed unit v ss before after → Changed unit v (s ∷ ss) before after
    other e rest =
        by_bool (same_unit s.port.unit v) (Changed unit v (s ∷ ss) before after)
        (λ f. inl (ap (λ l. port_of l v) (later e) ∙ port_head v s (with_port unit after ss) f ∙ sym (port_head v s ss f)))
        (λ f. behind f rest)
      where
        behind : same_unit s.port.unit v ≡ false → Changed unit v ss before after → Changed unit v (s ∷ ss) before after
        behind f (inl h) = inl (ap (λ l. port_of l v) (later e) ∙ port_tail v s (with_port unit after ss) f ∙ h ∙ sym (port_tail v s ss f))
        behind f (inr h) =
            inr (port_tail v s ss f ∙ h.0, ap (λ l. port_of l v) (later e) ∙ port_tail v s (with_port unit after ss) f ∙ h.1)

-- its posts are there
posts_with : (unit v : UnitId) (ss : List Station) (before after : PortValue) → KeepsPosts before after → Changed unit v ss before after → (post : PostRow)
    → Contains (posts_at ss v) post → Contains (posts_at (with_port unit after ss) v) post
posts_with unit v ss before after keeps (inl h) post has = subst (λ o. Contains (posted_in v o) post) (sym h) has
posts_with unit v ss before after keeps (inr h) post has =
    subst (λ o. Contains (posted_in v o) post) (sym h.1) (keeps v post (subst (λ o. Contains (posted_in v o) post) h.0 has))

-- A call at a port that keeps its posts and its deliveries.
pub carried_with : (ps : List Place) (frames : List (List FrameRow)) (unit : UnitId) (ss : List Station) (before after : PortValue)
    → port_of ss unit ≡ Some before → after.unit ≡ before.unit → KeepsTally before after → KeepsPosts before after → CarryAll ss ps frames
    → CarryAll (with_port unit after ss) ps frames
carried_with ps frames unit ss before after at same keeps posts is =
    gathered (side_in ps) (side_in ps) (posts_at ss) (posts_at (with_port unit after ss)) (rows_at ss) (rows_at (with_port unit after ss)) (all_of frames) (all_of frames) is
    (λ v. gathers_own (side_in ps v) (side_in ps v) (posts_at ss v) (posts_at (with_port unit after ss) v) (rows_at ss v) (rows_at (with_port unit after ss) v)
    (all_of frames) (side_same (side_in ps v)) (λ p. own_same v ((side_in ps v).strokes p))
    (posts_with unit v ss before after posts (changed unit v ss before after at same)) (sees_with unit v ss before after at same keeps).rows)
    (λ frame has. has) is.read

-- the sides of windows
side_by : (v : UnitId) (ps qs : List Place) (o : Option WindowValue)
    → side v (facts_of v ps o).values (facts_of v ps o).strokes ≡ side v (facts_of v qs o).values (facts_of v qs o).strokes
side_by v ps qs (Some w) = refl
side_by v ps qs None = refl

pub side_beside : (v : UnitId) (ps qs : List Place) → window_in v ps ≡ window_in v qs → side_in ps v ≡ side_in qs v
side_beside v ps qs e = ap (λ o. side v (facts_of v ps o).values (facts_of v ps o).strokes) e ∙ side_by v ps qs (window_in v qs)

pub side_there : (v : UnitId) (ps : List Place) (w : WindowValue) → window_in v ps ≡ Some w → side_in ps v ≡ side v (known_of w).values (known_of w).strokes
side_there v ps w e = ap (λ o. side v (facts_of v ps o).values (facts_of v ps o).strokes) e

-- a window that was kept
pub side_kept : (unit : UnitId) (old new : WindowValue) → KeepsWindow false (known_of old) (known_of new)
    → SideGrows (side unit (known_of old).values (known_of old).strokes) (side unit (known_of new).values (known_of new).strokes)
side_kept unit old new h = record { unit = refl; values = h.grows.values; strokes = h.grows.strokes }

-- what is so of a unit is so of each of its names
pub named_as : (P : UnitId → Type 0) (v unit : UnitId) → same_unit v unit ≡ true → P unit → P v
named_as P v unit e h = subst P (sym (one_unit v unit e)) h

-- A unit's own window was changed, by its unit alone.
pub carried_own : (ss : List Station) (ps : List Place) (frames : List (List FrameRow)) (unit : UnitId) (old new : WindowValue) → window_in unit ps ≡ Some old
    → old.unit ≡ unit → KeepsWindow false (known_of old) (known_of new) → CarryAll ss ps frames → CarryAll ss (with_window unit (Some new) ps) frames
carried_own ss ps frames unit old new at own keeps is =
    gathered (side_in ps) (side_in qs) (posts_at ss) (posts_at ss) (rows_at ss) (rows_at ss) (all_of frames) (all_of frames) is step (λ frame has. has)
    (all_read (side_in ps) (side_in qs) (all_of frames) (λ v. (step v).grows) is.read)
  where
    qs : List Place
    qs = with_window unit (Some new) ps

    lays : LaysOwnAll unit (known_of old).strokes (known_of new).strokes
    lays = subst (λ (u : UnitId). LaysOwnAll u (known_of old).strokes (known_of new).strokes) own (keeps.own refl)

    here : Gathers (side_in ps unit) (side_in qs unit) (posts_at ss unit) (posts_at ss unit) (rows_at ss unit) (rows_at ss unit) (all_of frames)
    here =
        subst (λ (w : Side). Gathers w (side_in qs unit) (posts_at ss unit) (posts_at ss unit) (rows_at ss unit) (rows_at ss unit) (all_of frames)) (sym (side_there unit ps old at))
        (subst (λ (w : Side). Gathers (side unit (known_of old).values (known_of old).strokes) w (posts_at ss unit) (posts_at ss unit) (rows_at ss unit) (rows_at ss unit) (all_of frames))
        (sym (side_there unit qs new (window_with unit (Some new) ps (has_place unit old ps at))))
        (gathers_own (side unit (known_of old).values (known_of old).strokes) (side unit (known_of new).values (known_of new).strokes) (posts_at ss unit) (posts_at ss unit)
        (rows_at ss unit) (rows_at ss unit) (all_of frames) (side_kept unit old new keeps) lays (λ post has. has) refl))

    step : (v : UnitId) → Gathers (side_in ps v) (side_in qs v) (posts_at ss v) (posts_at ss v) (rows_at ss v) (rows_at ss v) (all_of frames)
    step v =
        by_bool (same_unit v unit) (Gathers (side_in ps v) (side_in qs v) (posts_at ss v) (posts_at ss v) (rows_at ss v) (rows_at ss v) (all_of frames))
        (λ e. named_as (λ (u : UnitId). Gathers (side_in ps u) (side_in qs u) (posts_at ss u) (posts_at ss u) (rows_at ss u) (rows_at ss u) (all_of frames)) v unit e here)
        (λ e.
        subst (λ (w : Side). Gathers (side_in ps v) w (posts_at ss v) (posts_at ss v) (rows_at ss v) (rows_at ss v) (all_of frames))
        (side_beside v ps qs (sym (window_beside unit v (Some new) ps e)))
        (gathers_own (side_in ps v) (side_in ps v) (posts_at ss v) (posts_at ss v) (rows_at ss v) (rows_at ss v) (all_of frames) (side_same (side_in ps v))
        (λ p. own_same v ((side_in ps v).strokes p)) (λ post has. has) refl))

-- a window that was read through is kept
pub keeps_through : (old new : PortState) → OnlyReadThrough false old new → old.held_count ≡ 0 → KeepsWindow false old new
keeps_through old new h free = record {
  place = h.rest.place;
  held = h.free ∙ sym free;
  grows = record {
    unit = ap (λ place. place.unit) h.rest.place;
    values = λ e. later_begins false (old.values e) (new.values e) (h.rest.values e);
    strokes = λ p. learns_grows false (old.strokes p) (new.strokes p) (h.none.strokes p);
  };
  own = λ _ p. subst (LaysOwnOn old.place.unit (old.strokes p)) (sym (same_strokes (old.strokes p) (new.strokes p) (h.none.strokes p)))
      (own_same old.place.unit (old.strokes p));
}
