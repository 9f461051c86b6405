-- Units of the LAN that were opened did nothing yet.
use Rattle.std.proofs.Common.{◌≡◌, ℕ, zero, suc, ◌+◌, ◌*◌, Bool, true, false, List, [], ◌∷◌, map, replicate, Option, Result, Ok, Err, IfOk, refl, sym, ◌∙◌, ap, subst, arith}
use Rattle.vio_num.specs.declared.names.UnitId.{UnitId}
use Rattle.page_slots.specs.Stroke.{StrokeValue}
use Rattle.tce_window.specs.Grant.{values_of}
use Rattle.tce_window.specs.Window.{WindowValue, blank_page, strokes_at}
use Rattle.unit_region.specs.RegionLines.{IsOn}
use Rattle.lan_switch.specs.Switch.{opened, port_of, same_unit}
use Rattle.vio_trace.specs.declared.lan_rows.FrameRow.{FrameRow}
use Rattle.lan_script.specs.Buffers.{posted_of}
use Rattle.lan_script.specs.Invariant.{sent_by}
use Rattle.lan_script.specs.Opening.{fresh_lan, plan_of, window_of}
use Rattle.lan_script.specs.PortReplay.{closed_replay}
use Rattle.lan_script.specs.Replayed.{replay_of}
use Rattle.lan_script.specs.Windows.{facts_of, window_in}
use Rattle.lan_script.specs.declared.windows.Place.{Place}
use Rattle.lan_script.specs.PortCounts.{counts, counts_in}
use Rattle.lan_script.specs.Units.{LanValue}
use Rattle.lan_script.specs.declared.seat.PortSeat.{PortSeat}
use Rattle.lan_script.proofs.Laws.{port_head, port_tail, by_bool, window_head, window_tail}
use Rattle.vcpu_run.specs.PortSteps.{AreFresh}
use Rattle.vcpu_run.specs.PortWords.{frame_told}

none_sent : (seats : List PortSeat) (unit : UnitId) → sent_by seats (map (λ _. []) seats) unit ≡ []
none_sent [] unit = refl
none_sent (s ∷ seats) unit = by (same_unit s.unit unit) refl (none_sent seats unit)
  where
    by : (b : Bool) → same_unit s.unit unit ≡ b → sent_by seats (map (λ _. []) seats) unit ≡ [] → sent_by (s ∷ seats) (map (λ _. []) (s ∷ seats)) unit ≡ []
    by true e rest = rw e refl
    by false e rest = rw e rest

none_counted : (seats : List PortSeat) (unit : UnitId) → counts_in unit (port_of (map opened (map plan_of seats)) unit) ≡ counts 0 0
none_counted [] unit = refl
none_counted (s ∷ seats) unit =
    by_bool (same_unit s.unit unit) (counts_in unit (port_of (map opened (map plan_of (s ∷ seats))) unit) ≡ counts 0 0)
    (λ e. ap (λ o. counts_in unit o) (port_head unit (opened (plan_of s)) (map opened (map plan_of seats)) e))
    (λ e. ap (λ o. counts_in unit o) (port_tail unit (opened (plan_of s)) (map opened (map plan_of seats)) e) ∙ none_counted seats unit)

none_replayed : (seats : List PortSeat) (unit : UnitId) → replay_of (port_of (map opened (map plan_of seats)) unit) [] ≡ closed_replay
none_replayed [] unit = refl
none_replayed (s ∷ seats) unit =
    by_bool (same_unit s.unit unit) (replay_of (port_of (map opened (map plan_of (s ∷ seats))) unit) [] ≡ closed_replay)
    (λ e. ap (λ o. replay_of o []) (port_head unit (opened (plan_of s)) (map opened (map plan_of seats)) e))
    (λ e. ap (λ o. replay_of o []) (port_tail unit (opened (plan_of s)) (map opened (map plan_of seats)) e) ∙ none_replayed seats unit)

-- an entry into which nothing was put
no_puts : (e : ℕ) → values_of [] e ≡ (4096 * e + 3) ∷ []
unfolding values_of
no_puts e = refl

none_put : (seats : List PortSeat) (unit : UnitId) (e : ℕ) (ps : List Place)
    → (facts_of unit ps (window_in unit (map window_of seats))).values e ≡ (4096 * e + 3) ∷ []
none_put [] unit e ps = refl
none_put (s ∷ seats) unit e ps =
    by_bool (same_unit s.unit unit) ((facts_of unit ps (window_in unit (map window_of (s ∷ seats)))).values e ≡ (4096 * e + 3) ∷ [])
    (λ h. ap (λ o. (facts_of unit ps o).values e) (window_head unit (window_of s) (map window_of seats) h) ∙ no_puts e)
    (λ h. ap (λ o. (facts_of unit ps o).values e) (window_tail unit (window_of s) (map window_of seats) h) ∙ none_put seats unit e ps)

none_posted : (seats : List PortSeat) (unit : UnitId) → posted_of unit (port_of (map opened (map plan_of seats)) unit) ≡ []
none_posted [] unit = refl
none_posted (s ∷ seats) unit =
    by_bool (same_unit s.unit unit) (posted_of unit (port_of (map opened (map plan_of (s ∷ seats))) unit) ≡ [])
    (λ e. ap (λ o. posted_of unit o) (port_head unit (opened (plan_of s)) (map opened (map plan_of seats)) e))
    (λ e. ap (λ o. posted_of unit o) (port_tail unit (opened (plan_of s)) (map opened (map plan_of seats)) e) ∙ none_posted seats unit)

-- a page of a window that was opened has no stroke
none_laid : (pages page : ℕ) (stroke : StrokeValue) → IsOn stroke (strokes_at (replicate pages blank_page) page) → ⊥
none_laid zero page stroke on = absurd on
none_laid (suc pages) zero stroke on = absurd (omega (arith, on.1))
none_laid (suc pages) (suc page) stroke on = none_laid pages page stroke on

no_stroke : (seats : List PortSeat) (unit : UnitId) (page : ℕ) (ps : List Place) (stroke : StrokeValue)
    → IsOn stroke ((facts_of unit ps (window_in unit (map window_of seats))).strokes page) → ⊥
no_stroke [] unit page ps stroke on = absurd on
no_stroke (s ∷ seats) unit page ps stroke on =
    by_bool (same_unit s.unit unit) ⊥
    (λ h. none_laid s.pages page stroke
    (subst (λ (o : Option WindowValue). IsOn stroke ((facts_of unit ps o).strokes page)) (window_head unit (window_of s) (map window_of seats) h) on))
    (λ h. no_stroke seats unit page ps stroke
    (subst (λ (o : Option WindowValue). IsOn stroke ((facts_of unit ps o).strokes page)) (window_tail unit (window_of s) (map window_of seats) h) on))

pub opened_fresh : (lan : LanValue) (seats : List PortSeat) → lan ≡ fresh_lan seats → AreFresh lan
opened_fresh lan seats e = subst AreFresh (sym e) (λ unit. (
  ap (λ (l : List FrameRow). map frame_told l) (none_sent seats unit),
  none_counted seats unit,
  ap (λ (l : List FrameRow). replay_of (port_of (map opened (map plan_of seats)) unit) (map (λ (r : FrameRow). r.bytes) l)) (none_sent seats unit) ∙ none_replayed seats unit,
  λ k. none_put seats unit k (map window_of seats),
  none_posted seats unit,
  λ page stroke on. no_stroke seats unit page (map window_of seats) stroke on,
))

pub opened_ok : {E : Type 0} (r : Result LanValue E) (seats : List PortSeat) → IfOk r (λ lan. lan ≡ fresh_lan seats) → IfOk r AreFresh
opened_ok (Ok lan) seats e = opened_fresh lan seats e
opened_ok (Err none) seats e = tt
