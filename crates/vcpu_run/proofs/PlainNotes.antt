-- The answers that a client noted, put together: what was laid in its window stays there.
use Rattle.std.proofs.Common.{◌≡◌, ◌∙◌, ℕ, ◌++◌, All, false, List, [], Option, append-nil, append_assoc, ap, refl, sym, subst}
use Rattle.std.proofs.lemmas.List.Elements.{All-append, All-nil, All-weaker}
use Rattle.vio_num.specs.declared.names.UnitId.{UnitId}
use Rattle.page_slots.specs.Stroke.{StrokeValue}
use Rattle.tce_window.specs.PortState.{OnlyReads, PortPlace, PortState}
use Rattle.unit_region.specs.RegionLines.{IsOn}
use Rattle.vio_trace.specs.declared.rows.AnswerRow.{AnswerRow}
use Rattle.vcpu_run.specs.PlainNoted.{IsLaidAnswer, NotesLaid}
use Rattle.vcpu_run.proofs.PlainRejected.{StrokesStay, response_move}
use Rattle.vcpu_run.proofs.PlainStays.{grown_same}

-- Each stroke that was there is there, and the region is the unit's of before.
pub record LaysOn (old new : PortState) : Type 0 where
  pub unit : new.place.unit ≡ old.place.unit
  pub strokes : StrokesStay old.strokes new.strokes

pub lays_read : (old new : PortState) → OnlyReads false old new → LaysOn old new
lays_read old new reads = record {
  unit = ap (λ (place : PortPlace). place.unit) reads.place;
  strokes = λ page stroke on. subst (IsOn stroke) (sym (grown_same (old.strokes page) (new.strokes page) (reads.strokes page))) on;
}

pub laid_on : (own : UnitId) (old new : ℕ → Option (List StrokeValue)) → StrokesStay old new
    → (noted : AnswerRow) → IsLaidAnswer own old noted → IsLaidAnswer own new noted
laid_on own old new goes noted is = record {
  response = is.response;
  tag_is = is.tag_is;
  canonical = is.canonical;
  laid = response_move own own is.response old new refl goes is.laid;
}

pub all_laid_on : (own : UnitId) (old new : ℕ → Option (List StrokeValue)) → StrokesStay old new
    → (rows : List AnswerRow) → All (IsLaidAnswer own old) rows → All (IsLaidAnswer own new) rows
all_laid_on own old new goes rows all = All-weaker (IsLaidAnswer own old) (IsLaidAnswer own new) (laid_on own old new goes) rows all

-- no answer was noted
pub notes_same : (own : UnitId) (strokes : ℕ → Option (List StrokeValue)) (old new : List AnswerRow) → new ≡ old → NotesLaid own strokes old new
notes_same own strokes old new same = record { rows = []; more = same ∙ sym (append-nil old); laid = All-nil (IsLaidAnswer own strokes) }

-- some were, and some behind these
pub notes_on : (own : UnitId) (a b : ℕ → Option (List StrokeValue)) (old middle new : List AnswerRow)
    → StrokesStay a b → NotesLaid own a old middle → NotesLaid own b middle new → NotesLaid own b old new
notes_on own a b old middle new goes first next = record {
  rows = first.rows ++ next.rows;
  more = next.more ∙ ap (λ (rows : List AnswerRow). rows ++ next.rows) first.more ∙ append_assoc old first.rows next.rows;
  laid = All-append (IsLaidAnswer own b) first.rows next.rows (all_laid_on own a b goes first.rows first.laid) next.laid;
}

-- the same of windows
pub windows_on : (a b : PortState) (old middle new : List AnswerRow) → LaysOn a b → NotesLaid a.place.unit a.strokes old middle → NotesLaid b.place.unit b.strokes middle new
    → NotesLaid b.place.unit b.strokes old new
windows_on a b old middle new lays first next =
    notes_on b.place.unit a.strokes b.strokes old middle new lays.strokes (subst (λ (own : UnitId). NotesLaid own a.strokes old middle) (sym lays.unit) first) next

-- all that was noted was laid so, and is now
pub all_on : (own : UnitId) (a b : ℕ → Option (List StrokeValue)) (old new : List AnswerRow)
    → StrokesStay a b → All (IsLaidAnswer own a) old → NotesLaid own b old new → All (IsLaidAnswer own b) new
all_on own a b old new goes all notes =
    subst (All (IsLaidAnswer own b)) (sym notes.more) (All-append (IsLaidAnswer own b) old notes.rows (all_laid_on own a b goes old all) notes.laid)
