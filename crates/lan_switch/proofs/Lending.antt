-- What a port leaves of a window that it reaches through a map, told of the window alone.
use Rattle.std.proofs.Common.{◌≡◌, ◌↔◌, ℕ, ◌∷◌, ◌==◌, ◌&&◌, Bool, true, false, true≢false, List, None, drop, length, refl, sym, ◌∙◌, ap, subst}
use Rattle.std.specs.Borrow.{GName}
use Rattle.std.proofs.lemmas.Bool.{eqb-true}
use Rattle.vio_num.specs.declared.names.UnitId.{UnitId}
use Rattle.page_slots.specs.declared.stroke.StrokeName.{StrokeName}
use Rattle.tce_window.specs.declared.answers.HoldFault.{HoldFault}
use Rattle.tce_window.specs.PortState.{PortPlace, WindowFacts, none_beside, port_at}
use Rattle.lan_buffers.specs.declared.answers.Deliver.{Deliver}
use Rattle.lan_buffers.specs.declared.answers.Deliver.TheVariants as sent
use Rattle.lan_buffers.specs.Answers.{IfDone, IfUngranted, IfSentInUse, IsPlain, LeavesWindow, OnDropped, OnFound, OnNotDone, OnNothing}
use Rattle.lan_buffers.specs.Calls.{Delivers, Drops, FindsBuffer, FindsNoBuffer, FindsNoSize, FindsPageInUse, GivesBlank}
use Rattle.lan_buffers.specs.Port.{PortValue}
use Rattle.lan_switch.specs.Map.{KeepsOthers, lent_window, others_than}
use Rattle.lan_switch.specs.Sending.{IsOffered}
use Rattle.lan_switch.specs.Switch.{same_unit}
use Rattle.lan_switch.proofs.Placing.{by_bool}

pub done_weaker : (answer : Deliver) (P Q : ℕ → Type 0) → ((post : ℕ) → P post → Q post) → IfDone answer P → IfDone answer Q
done_weaker (sent.Done post) P Q f h = f post h
done_weaker (sent.Ungranted post fault) P Q f h = tt
done_weaker sent.NoSize P Q f h = tt
done_weaker sent.NoBuffer P Q f h = tt
done_weaker (sent.Turn word) P Q f h = tt
done_weaker (sent.InUse page word) P Q f h = tt
done_weaker (sent.Closed control) P Q f h = tt
done_weaker sent.NoMemory P Q f h = tt

pub ungranted_weaker : (answer : Deliver) (P Q : ℕ → HoldFault → Type 0) → ((post : ℕ) (fault : HoldFault) → P post fault → Q post fault)
    → IfUngranted answer P → IfUngranted answer Q
ungranted_weaker (sent.Done post) P Q f h = tt
ungranted_weaker (sent.Ungranted post fault) P Q f h = f post fault h
ungranted_weaker sent.NoSize P Q f h = tt
ungranted_weaker sent.NoBuffer P Q f h = tt
ungranted_weaker (sent.Turn word) P Q f h = tt
ungranted_weaker (sent.InUse page word) P Q f h = tt
ungranted_weaker (sent.Closed control) P Q f h = tt
ungranted_weaker sent.NoMemory P Q f h = tt

pub in_use_weaker : (answer : Deliver) (P Q : ℕ → ℕ → Type 0) → ((page word : ℕ) → P page word → Q page word) → IfSentInUse answer P → IfSentInUse answer Q
in_use_weaker (sent.Done post) P Q f h = tt
in_use_weaker (sent.Ungranted post fault) P Q f h = tt
in_use_weaker sent.NoSize P Q f h = tt
in_use_weaker sent.NoBuffer P Q f h = tt
in_use_weaker (sent.Turn word) P Q f h = tt
in_use_weaker (sent.InUse page word) P Q f h = f page word h
in_use_weaker (sent.Closed control) P Q f h = tt
in_use_weaker sent.NoMemory P Q f h = tt

not_done_weaker : (answer : Deliver) (P Q : Type 0) → (P → Q) → OnNotDone answer P → OnNotDone answer Q
not_done_weaker (sent.Done post) P Q f h = tt
not_done_weaker (sent.Ungranted post fault) P Q f h = f h
not_done_weaker sent.NoSize P Q f h = f h
not_done_weaker sent.NoBuffer P Q f h = f h
not_done_weaker (sent.Turn word) P Q f h = f h
not_done_weaker (sent.InUse page word) P Q f h = f h
not_done_weaker (sent.Closed control) P Q f h = f h
not_done_weaker sent.NoMemory P Q f h = f h

pub delivers_alone : (old : PortValue) (name : StrokeName) (frame : List ℕ) (new : PortValue) (is_shared : Bool) (lender lender' : GName) (facts facts' : UnitId → WindowFacts) (unit : UnitId) (post : ℕ)
    → Delivers old name frame new is_shared (lent_window lender facts unit) (lent_window lender' facts' unit) post
    → Delivers old name frame new is_shared (port_at (facts unit)) (port_at (facts' unit)) post
delivers_alone old name frame new is_shared lender lender' facts facts' unit post h = record {
  chosen = h.chosen;
  row = h.row;
  takes = h.takes;
  filled = h.filled;
  written = record {
    written = h.written.written;
    last = h.written.last;
    usable = h.written.usable;
    laid = h.written.laid;
    places = h.written.places;
  };
  rest = h.rest;
}

pub blank_alone : (old : PortValue) (name : StrokeName) (len : ℕ) (new : PortValue) (lender lender' : GName) (facts facts' : UnitId → WindowFacts) (unit : UnitId) (post : ℕ) (fault : HoldFault)
    → GivesBlank old name len new (lent_window lender facts unit) (lent_window lender' facts' unit) post fault
    → GivesBlank old name len new (port_at (facts unit)) (port_at (facts' unit)) post fault
blank_alone old name len new lender lender' facts facts' unit post fault h = record {
  chosen = h.chosen;
  blank = h.blank;
  cause = record { of_entry = h.cause.of_entry; cause = h.cause.cause };
}

pub in_use_alone : (old : PortValue) (len : ℕ) (is_shared : Bool) (lender lender' : GName) (facts facts' : UnitId → WindowFacts) (unit : UnitId) (page : ℕ) (Found Found' : Type 0)
    → (Found → Found') → FindsPageInUse old len is_shared (lent_window lender facts unit) (lent_window lender' facts' unit) page Found
    → FindsPageInUse old len is_shared (port_at (facts unit)) (port_at (facts' unit)) page Found'
in_use_alone old len is_shared lender lender' facts facts' unit page Found Found' f h = record {
  post = h.post;
  chosen = h.chosen;
  in_use = record { shared = h.in_use.shared; of_range = h.in_use.of_range; usable = h.in_use.usable; found = f h.in_use.found };
}

pub window_alone : (is_shared : Bool) (answer : Deliver) (lender lender' : GName) (facts facts' : UnitId → WindowFacts) (unit : UnitId)
    → LeavesWindow is_shared answer (lent_window lender facts unit) (lent_window lender' facts' unit)
    → LeavesWindow is_shared answer (port_at (facts unit)) (port_at (facts' unit))
window_alone is_shared answer lender lender' facts facts' unit h = record {
  free = h.free;
  rest = record {
    place = ap (λ (place : PortPlace). record { unit = place.unit; size = place.size; lenders = drop 1 place.lenders; beside = none_beside }) h.rest.place;
    values = h.rest.values;
    in_use = h.rest.in_use;
  };
  kept = not_done_weaker answer _ _ (λ kept. record { strokes = kept.strokes; laid = kept.laid }) h.kept;
  counts = h.counts;
}

-- the windows beside it stay
other_is : (unit other : UnitId) (facts : UnitId → WindowFacts) → same_unit other unit ≡ false → others_than unit facts other ≡ facts other
other_is unit other facts e = rw e refl

pub beside_stays : (lender lender' : GName) (facts facts' : UnitId → WindowFacts) (unit : UnitId)
    → (lent_window lender' facts' unit).place ≡ (lent_window lender facts unit).place → KeepsOthers unit facts facts'
beside_stays lender lender' facts facts' unit same = λ other e.
    sym (other_is unit other facts' e) ∙ ap (λ (place : PortPlace). place.beside other) same ∙ other_is unit other facts e

-- what a port made of a frame through the map, told of the unit's window alone
pub offered_alone : (lender lender' : GName) (facts facts' : UnitId → WindowFacts) (unit unit' : UnitId) (name : StrokeName) (frame : List ℕ) (is_shared : Bool)
    (old new : PortValue) (answer : Deliver) (Found Found' : ℕ → ℕ → Type 0) → ((page word : ℕ) → Found page word → Found' page word) → unit' ≡ unit
    → IsPlain answer → ((answer ≡ sent.Closed 0) ↔ (old.settings ≡ None))
    → ((answer ≡ sent.NoSize) ↔ FindsNoSize old (length frame)) → ((answer ≡ sent.NoBuffer) ↔ FindsNoBuffer old (length frame))
    → OnFound answer (FindsBuffer old (length frame))
    → IfDone answer (Delivers old name frame new is_shared (lent_window lender facts unit) (lent_window lender' facts' unit'))
    → IfUngranted answer (GivesBlank old name (length frame) new (lent_window lender facts unit) (lent_window lender' facts' unit'))
    → IfSentInUse answer (λ page word. FindsPageInUse old (length frame) is_shared (lent_window lender facts unit) (lent_window lender' facts' unit') page (Found page word))
    → OnDropped answer (Drops old new) → OnNothing answer (new ≡ old)
    → LeavesWindow is_shared answer (lent_window lender facts unit) (lent_window lender' facts' unit')
    → IsOffered name frame is_shared (port_at (facts unit)) (port_at (facts' unit)) Found' old new answer
offered_alone lender lender' facts facts' unit unit' name frame is_shared old new answer Found Found' f e plain closed no_size no_buffer found done ungranted in_use dropped nothing window = record {
  plain = plain;
  closed = closed;
  no_size = no_size;
  no_buffer = no_buffer;
  found = found;
  done = done_weaker answer (Delivers old name frame new is_shared (lent_window lender facts unit) (lent_window lender' facts' unit)) _
      (delivers_alone old name frame new is_shared lender lender' facts facts' unit)
      (subst (λ u. IfDone answer (Delivers old name frame new is_shared (lent_window lender facts unit) (lent_window lender' facts' u))) e done);
  ungranted = ungranted_weaker answer (GivesBlank old name (length frame) new (lent_window lender facts unit) (lent_window lender' facts' unit)) _
      (blank_alone old name (length frame) new lender lender' facts facts' unit)
      (subst (λ u. IfUngranted answer (GivesBlank old name (length frame) new (lent_window lender facts unit) (lent_window lender' facts' u))) e ungranted);
  in_use = in_use_weaker answer
      (λ page word. FindsPageInUse old (length frame) is_shared (lent_window lender facts unit) (lent_window lender' facts' unit) page (Found page word)) _
      (λ page word. in_use_alone old (length frame) is_shared lender lender' facts facts' unit page (Found page word) (Found' page word) (f page word))
      (subst (λ u. IfSentInUse answer (λ page word. FindsPageInUse old (length frame) is_shared (lent_window lender facts unit) (lent_window lender' facts' u) page (Found page word))) e in_use);
  dropped = dropped;
  nothing = nothing;
  window_is = window_alone is_shared answer lender lender' facts facts' unit
      (subst (λ u. LeavesWindow is_shared answer (lent_window lender facts unit) (lent_window lender' facts' u)) e window);
}

pub beside_alone : (lender lender' : GName) (facts facts' : UnitId → WindowFacts) (unit unit' : UnitId) → unit' ≡ unit
    → (lent_window lender' facts' unit').place ≡ (lent_window lender facts unit).place → KeepsOthers unit facts facts'
beside_alone lender lender' facts facts' unit unit' e place =
    beside_stays lender lender' facts facts' unit (subst (λ u. (lent_window lender' facts' u).place ≡ (lent_window lender facts unit).place) e place)

-- names that are of one unit are one
both : (x y : Bool) → (x && y) ≡ true → (x ≡ true) × (y ≡ true)
both true y e = (refl, e)
both false y e = absurd (true≢false (sym e))

pub one_unit : (a b : UnitId) → same_unit a b ≡ true → a ≡ b
one_unit a b e =
    let h = both (a.partition == b.partition) (a.unit == b.unit) e in
    ap (λ n. record { partition = n; unit = a.unit }) (eqb-true a.partition b.partition h.0)
    ∙ ap (λ n. record { partition = b.partition; unit = n }) (eqb-true a.unit b.unit h.1)

-- no window holds anything after one gave back what it held
pub all_free : (unit : UnitId) (facts facts' : UnitId → WindowFacts) → KeepsOthers unit facts facts' → (facts' unit).held_count ≡ 0
    → ((u : UnitId) → (facts u).held_count ≡ 0) → (u : UnitId) → (facts' u).held_count ≡ 0
all_free unit facts facts' keeps free before u = by_bool (same_unit u unit) ((facts' u).held_count ≡ 0)
    (λ e. ap (λ (v : UnitId). (facts' v).held_count) (one_unit u unit e) ∙ free)
    (λ e. ap (λ (f : WindowFacts). f.held_count) (keeps u e) ∙ before u)
