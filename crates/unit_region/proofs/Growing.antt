-- What a client's calls leave of its window: no stroke and no value of it is gone.
use Rattle.std.proofs.Common.{◌≡◌, All, ◌∙◌, ℕ, ◌/◌, Bool, true, false, List, [], ◌∷◌, ◌++◌, Option, Some, None, Result, Ok, Err, OnOk, OnErr, length, refl, sym, ap, subst, append-nil, append_assoc}
use Rattle.std.proofs.lemmas.List.Elements.{All-append, All-cons, All-nil}
use Rattle.vio_num.specs.Words.{Begins}
use Rattle.vio_num.specs.declared.names.UnitId.{UnitId}
use Rattle.page_slots.specs.Stroke.{StrokeValue}
use Rattle.page_slots.specs.declared.stroke.StrokeName.{StrokeName}
use Rattle.tce_window.specs.declared.answers.OwnFault.{OwnFault}
use Rattle.tce_window.specs.Port.{Grows, IsWritten}
use Rattle.tce_window.specs.PortState.{PortPlace, PortState, LaysNone, Learns, OnlyPuts, OnlyReads, OnlyWrites, Puts, Writes}
use Rattle.tce_window.specs.Puts.{put_into}
use Rattle.tce_window.specs.Region.{touches, stroke_on, written}
use Rattle.tce_window.specs.Strokes.{with_strokes}
use Rattle.rdma_copy.specs.Copies.{side_of}
use Rattle.rdma_copy.proofs.Laws.{later_begins, learns_grows, side_same, side_on}
use Rattle.unit_region.specs.Kept.{KeepsWindow, LaysOwn, LaysOwnAll, LaysOwnOn}

begins_on : {X : Type 0} (old mid new : List X) → Begins old mid → Begins mid new → Begins old new
begins_on old mid new first next =
    (first.0 ++ next.0, next.1 ∙ ap (λ front. front ++ next.0) first.1 ∙ append_assoc old first.0 next.0)

-- strokes of one unit, behind those of a page
lays_none : (unit : UnitId) (old new : List StrokeValue) → new ≡ old → LaysOwn unit old new
lays_none unit old new same = record { more = []; is = same ∙ sym (append-nil old); own = All-nil (λ stroke. stroke.name.who ≡ unit) }

lays_then : (unit : UnitId) (old mid new : List StrokeValue) → LaysOwn unit old mid → LaysOwn unit mid new → LaysOwn unit old new
lays_then unit old mid new first next = record {
  more = first.more ++ next.more;
  is = next.is ∙ ap (λ front. front ++ next.more) first.is ∙ append_assoc old first.more next.more;
  own = All-append (λ stroke. stroke.name.who ≡ unit) first.more next.more first.own next.own;
}

own_none : (unit : UnitId) (old new : Option (List StrokeValue)) → Grows false old new → LaysOwnOn unit old new
own_none unit (Some old) (Some new) same = lays_none unit old new same
own_none unit (Some old) None same = absurd same
own_none unit None (Some new) same = absurd same
own_none unit None None same = tt

pub own_then : (unit : UnitId) (old mid new : Option (List StrokeValue)) → LaysOwnOn unit old mid → LaysOwnOn unit mid new → LaysOwnOn unit old new
own_then unit (Some a) (Some b) (Some c) x y = lays_then unit a b c x y
own_then unit (Some a) (Some b) None x y = absurd y
own_then unit (Some a) None c x y = absurd x
own_then unit None (Some b) c x y = absurd x
own_then unit None None (Some c) x y = absurd y
own_then unit None None None x y = tt

pub own_same : (unit : UnitId) (strokes : Option (List StrokeValue)) → LaysOwnOn unit strokes strokes
own_same unit (Some strokes) = lays_none unit strokes strokes refl
own_same unit None = tt

-- no stroke of any page is gone, and where nobody else has a hand in the window, each that it has more is its unit's
pub record StrokesGrow (shared : Bool) (old new : PortState) : Type 0 where
  pub grow : (p : ℕ) → Grows true (old.strokes p) (new.strokes p)
  pub own : shared ≡ false → LaysOwnAll old.place.unit old.strokes new.strokes

pub strokes_same : (shared : Bool) (old new : PortState) → new ≡ old → StrokesGrow shared old new
strokes_same shared old new same =
    subst (StrokesGrow shared old) (sym same) (record { grow = (side_same (side_of old)).strokes; own = λ e p. own_same old.place.unit (old.strokes p) })

pub strokes_on : (shared : Bool) (old mid new : PortState) → mid.place.unit ≡ old.place.unit
    → StrokesGrow shared old mid → StrokesGrow shared mid new → StrokesGrow shared old new
strokes_on shared old mid new unit first next = record {
  grow = λ p. grow_on (old.strokes p) (mid.strokes p) (new.strokes p) (first.grow p) (next.grow p);
  own = λ e p. own_then old.place.unit (old.strokes p) (mid.strokes p) (new.strokes p) (first.own e p)
      (subst (λ unit. LaysOwnOn unit (mid.strokes p) (new.strokes p)) unit (next.own e p));
}
  where
    grow_on : (a b c : Option (List StrokeValue)) → Grows true a b → Grows true b c → Grows true a c
    grow_on (Some a) (Some b) (Some c) x y = begins_on a b c x y
    grow_on (Some a) (Some b) None x y = absurd y
    grow_on (Some a) None c x y = absurd x
    grow_on None (Some b) c x y = absurd x
    grow_on None None (Some c) x y = absurd y
    grow_on None None None x y = tt

-- where nothing was laid, and where what was read may tell of more
learnt : (shared : Bool) (old new : PortState) → Learns shared old new → StrokesGrow shared old new
learnt shared old new learns = record {
  grow = λ p. learns_grows shared (old.strokes p) (new.strokes p) (learns p);
  own = λ e p. own_none old.place.unit (old.strokes p) (new.strokes p) (subst (λ b. Grows b (old.strokes p) (new.strokes p)) e (learns p));
}

pub strokes_none : (shared : Bool) (old new : PortState) → LaysNone shared old new → StrokesGrow shared old new
strokes_none shared old new none = learnt shared old new none.strokes

pub strokes_read : (shared : Bool) (old new : PortState) → OnlyReads shared old new → StrokesGrow shared old new
strokes_read shared old new reads = learnt shared old new reads.strokes

-- a page on which a stroke was laid
with_more : (shared : Bool) (old before : Option (List StrokeValue)) (more : List StrokeValue) → Grows shared old before → Grows true old (with_strokes before more)
with_more shared (Some old) (Some before) more grown = begins_on old before (before ++ more) (later_begins shared old before grown) (more, refl)
with_more shared (Some old) None more grown = absurd grown
with_more shared None (Some before) more grown = absurd grown
with_more shared None None more grown = tt

with_own : (unit : UnitId) (old before : Option (List StrokeValue)) (more : List StrokeValue) → Grows false old before
    → All (λ stroke. stroke.name.who ≡ unit) more → LaysOwnOn unit old (with_strokes before more)
with_own unit (Some old) (Some before) more grown own = record { more = more; is = ap (λ front. front ++ more) grown; own = own }
with_own unit (Some old) None more grown own = absurd grown
with_own unit None (Some before) more grown own = absurd grown
with_own unit None None more grown own = tt

written_grows : (shared : Bool) (name : StrokeName) (at : ℕ) (bytes : List ℕ) (p : ℕ) (old new : Option (List StrokeValue))
    → IsWritten shared name at bytes p old new → Grows true old new
written_grows shared name at bytes p old new is = subst (Grows true old) (sym is.laid) (by (touches at (length bytes) p) refl)
  where
    by : (b : Bool) → touches at (length bytes) p ≡ b → Grows true old (written name at bytes p is.before)
    by true e = rw e (with_more shared old is.before (stroke_on name at bytes p ∷ []) is.grown)
    by false e = rw e (learns_grows shared old is.before is.grown)

written_own : (name : StrokeName) (at : ℕ) (bytes : List ℕ) (p : ℕ) (old new : Option (List StrokeValue))
    → IsWritten false name at bytes p old new → LaysOwnOn name.who old new
written_own name at bytes p old new is = subst (LaysOwnOn name.who old) (sym is.laid) (by (touches at (length bytes) p) refl)
  where
    by : (b : Bool) → touches at (length bytes) p ≡ b → LaysOwnOn name.who old (written name at bytes p is.before)
    by true e = rw e (with_own name.who old is.before (stroke_on name at bytes p ∷ []) is.grown
        (All-cons (λ stroke. stroke.name.who ≡ name.who) (stroke_on name at bytes p) [] refl (All-nil (λ stroke. stroke.name.who ≡ name.who))))
    by false e = rw e (own_none name.who old is.before is.grown)

pub strokes_written : (shared : Bool) (old new : PortState) (at : ℕ) (bytes : List ℕ) (mark : ℕ) → Writes shared old at bytes mark new → StrokesGrow shared old new
strokes_written shared old new at bytes mark writes = record {
  grow = λ p. written_grows shared _ at bytes p (old.strokes p) (new.strokes p) (writes.strokes p);
  own = λ e p. written_own _ at bytes p (old.strokes p) (new.strokes p)
      (subst (λ b. IsWritten b (record { who = old.place.unit; mark = mark }) at bytes p (old.strokes p) (new.strokes p)) e (writes.strokes p));
}

-- the window as a whole
same_values : (old new : PortState) → new.values ≡ old.values → (e : ℕ) → Begins (old.values e) (new.values e)
same_values old new same e = ([], ap (λ values. values e) same ∙ sym (append-nil (old.values e)))

pub keeps_same : (shared : Bool) (old : PortState) → KeepsWindow shared old old
keeps_same shared old = record { place = refl; held = refl; grows = side_same (side_of old); own = λ e p. own_same old.place.unit (old.strokes p) }

pub keeps_on : (shared : Bool) (old mid new : PortState) → KeepsWindow shared old mid → KeepsWindow shared mid new → KeepsWindow shared old new
keeps_on shared old mid new first next = record {
  place = next.place ∙ first.place;
  held = next.held ∙ first.held;
  grows = side_on (side_of old) (side_of mid) (side_of new) first.grows next.grows;
  own = λ e p. own_then old.place.unit (old.strokes p) (mid.strokes p) (new.strokes p) (first.own e p)
      (subst (λ (place : PortPlace). LaysOwnOn place.unit (mid.strokes p) (new.strokes p)) first.place (next.own e p));
}

pub keeps_writes : (shared : Bool) (old new : PortState) → OnlyWrites old new → StrokesGrow shared old new → KeepsWindow shared old new
keeps_writes shared old new rest grow = record {
  place = rest.place;
  held = rest.held_count;
  grows = record { unit = ap (λ place. place.unit) rest.place; values = same_values old new rest.values; strokes = grow.grow };
  own = grow.own;
}

pub keeps_reads : (shared : Bool) (old new : PortState) → OnlyReads shared old new → KeepsWindow shared old new
keeps_reads shared old new rest = record {
  place = rest.place;
  held = rest.held_count;
  grows = record {
    unit = ap (λ place. place.unit) rest.place;
    values = same_values old new rest.values;
    strokes = (strokes_read shared old new rest).grow;
  };
  own = (strokes_read shared old new rest).own;
}

pub keeps_put : (shared : Bool) (old new : PortState) (ioba : ℕ) (put : List ℕ) → Puts old ioba put new → OnlyPuts old new → KeepsWindow shared old new
keeps_put shared old new ioba put puts rest = record {
  place = rest.place;
  held = rest.held_count;
  grows = record {
    unit = ap (λ place. place.unit) rest.place;
    values = λ e. (put_into (ioba / 4096) put e, puts.values e);
    strokes = λ p. subst (λ (strokes : ℕ → Option (List StrokeValue)). Grows true (old.strokes p) (strokes p)) (sym rest.strokes) ((side_same (side_of old)).strokes p);
  };
  own = λ e p. subst (λ (strokes : ℕ → Option (List StrokeValue)). LaysOwnOn old.place.unit (old.strokes p) (strokes p)) (sym rest.strokes)
      (own_same old.place.unit (old.strokes p));
}

-- the answer of a write
pub keeps_write : (shared : Bool) (old new : PortState) (at : ℕ) (bytes : List ℕ) (mark : ℕ) (result : Result (Unit {0}) OwnFault)
    → OnOk result (Writes shared old at bytes mark new) → OnErr result (LaysNone shared old new) → OnlyWrites old new → KeepsWindow shared old new
keeps_write shared old new at bytes mark (Ok done) wrote none rest = keeps_writes shared old new rest (strokes_written shared old new at bytes mark wrote)
keeps_write shared old new at bytes mark (Err fault) wrote none rest = keeps_writes shared old new rest (strokes_none shared old new none)
