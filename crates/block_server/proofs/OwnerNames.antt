-- That copies and reads lay no stroke in the name of a window's own unit.
use Rattle.std.proofs.Common.{◌≡◌, ◌≢◌, ◌==◌, ◌++◌, ℕ, Bool, true, false, cond, List, [], ◌∷◌, Option, Some, None, All, drop, take, refl, sym, ◌∙◌, ap, subst, append-nil, append_assoc}
use Rattle.std.proofs.lemmas.List.Elements.{All-nil, All-append, All-cons, All-weaker}
use Rattle.vio_num.specs.declared.names.UnitId.{UnitId}
use Rattle.page_slots.specs.Stroke.{StrokeValue}
use Rattle.page_slots.specs.declared.stroke.StrokeName.{StrokeName}
use Rattle.tce_window.specs.declared.piece.Piece.{Piece}
use Rattle.tce_window.specs.Moved.{IsLaid, piece_strokes, strokes_on}
use Rattle.tce_window.specs.PortState.{LaysNone, PortState}
use Rattle.tce_window.specs.Strokes.{with_strokes}
use Rattle.rdma_copy.specs.declared.copy.CopyAnswer.{CopyAnswer}
use Rattle.rdma_copy.specs.declared.copy.CopyAnswer.TheVariants as copies
use Rattle.rdma_copy.specs.Answers.{IfCopied, OnRefused}
use Rattle.rdma_copy.specs.Copies.{Copies, side_of}
use Rattle.rdma_copy.specs.Copy.{Side}
use Rattle.block_server.specs.OwnerStrokes.{AddsOthers, LaysNoneOfOwner}
use Rattle.block_server.proofs.NamedWindows.{grows_same}

-- a page stayed as it was
others_none : (unit : UnitId) (strokes : Option (List StrokeValue)) → AddsOthers unit strokes strokes
others_none unit (Some strokes) = ([], sym (append-nil strokes), All-nil (λ (stroke : StrokeValue). stroke.name.who ≢ unit))
others_none unit None = tt

others_on : (unit : UnitId) (old mid new : Option (List StrokeValue)) → AddsOthers unit old mid → AddsOthers unit mid new → AddsOthers unit old new
others_on unit (Some old) (Some mid) (Some new) first next = (
  first.0 ++ next.0,
  next.1 ∙ ap (λ front. front ++ next.0) first.1 ∙ append_assoc old first.0 next.0,
  All-append (λ (stroke : StrokeValue). stroke.name.who ≢ unit) first.0 next.0 first.2 next.2,
)
others_on unit None None None first next = tt
others_on unit (Some old) (Some mid) None first next = absurd next
others_on unit (Some old) None new first next = absurd first
others_on unit None (Some mid) new first next = absurd first
others_on unit None None (Some new) first next = absurd next

-- the window stayed as it was
pub owner_same : (window : Side) → LaysNoneOfOwner window window
owner_same window page = others_none window.unit (window.strokes page)

-- nothing was laid in the owner's name, and then nothing again
pub owner_on : (old mid new : Side) → mid.unit ≡ old.unit → LaysNoneOfOwner old mid → LaysNoneOfOwner mid new → LaysNoneOfOwner old new
owner_on old mid new unit first next page = others_on old.unit (old.strokes page) (mid.strokes page) (new.strokes page) (first page)
    (subst (λ (u : UnitId). AddsOthers u (mid.strokes page) (new.strokes page)) unit (next page))

-- the strokes of a copy bear its name
pieces_named : (page : ℕ) (name : StrokeName) (bytes : List ℕ) (pieces : List Piece)
    → All (λ stroke. stroke.name ≡ name) (strokes_on page pieces (piece_strokes name bytes pieces))
pieces_named page name bytes [] = All-nil (λ stroke. stroke.name ≡ name)
pieces_named page name bytes (piece ∷ pieces) = by (piece.page == page) (pieces_named page name (drop piece.len bytes) pieces)
  where
    first : StrokeValue
    first = record { name = name; offset = piece.offset; bytes = take piece.len bytes }

    rest : List StrokeValue
    rest = strokes_on page pieces (piece_strokes name (drop piece.len bytes) pieces)

    by : (t : Bool) → All (λ stroke. stroke.name ≡ name) rest → All (λ stroke. stroke.name ≡ name) (cond t (first ∷ rest) rest)
    by true named = All-cons (λ stroke. stroke.name ≡ name) first rest refl named
    by false named = named

-- strokes under another unit's name were laid on a page
others_behind : (unit : UnitId) (name : StrokeName) (old : Option (List StrokeValue)) (more : List StrokeValue) → name.who ≢ unit
    → All (λ stroke. stroke.name ≡ name) more → AddsOthers unit old (with_strokes old more)
others_behind unit name (Some strokes) more apart named = (
  more,
  refl,
  All-weaker (λ (stroke : StrokeValue). stroke.name ≡ name) (λ stroke. stroke.name.who ≢ unit)
      (λ stroke is same. apart (sym (ap (λ (n : StrokeName). n.who) is) ∙ same)) more named,
)
others_behind unit name None more apart named = tt

-- a window to which nothing was copied
pub owner_unlaid : (shared : Bool) (old new : PortState) → shared ≡ false → LaysNone shared old new → LaysNoneOfOwner (side_of old) (side_of new)
owner_unlaid shared old new alone none page =
    subst (AddsOthers old.place.unit (old.strokes page))
    (sym (grows_same (old.strokes page) (new.strokes page) ((subst (λ b. LaysNone b old new) alone none).strokes page)))
    (others_none old.place.unit (old.strokes page))

-- a page on which a copy laid strokes under another unit's name
owner_laid : (unit : UnitId) (page : ℕ) (name : StrokeName) (bytes : List ℕ) (pieces : List Piece) (old new : Option (List StrokeValue)) → name.who ≢ unit
    → IsLaid false page pieces (piece_strokes name bytes pieces) old new → AddsOthers unit old new
owner_laid unit page name bytes pieces old new apart laid =
    subst (AddsOthers unit old) (ap (λ before. with_strokes before (strokes_on page pieces (piece_strokes name bytes pieces))) (sym (grows_same old laid.before laid.grown)) ∙ sym laid.laid)
    (others_behind unit name old (strokes_on page pieces (piece_strokes name bytes pieces)) apart (pieces_named page name bytes pieces))

-- a window to which a copy was made under another unit's name
owner_copied : (src old new : PortState) (from to len : ℕ) (name : StrokeName) (answer : CopyAnswer) → name.who ≢ old.place.unit
    → IfCopied answer (Copies false src old new from to len name) → OnRefused answer (LaysNone false old new) → LaysNoneOfOwner (side_of old) (side_of new)
owner_copied src old new from to len name (copies.Copied copy) apart copied refused =
    λ page. owner_laid old.place.unit page name _ copy.to.items (old.strokes page) (new.strokes page) apart (copied.laid page)
owner_copied src old new from to len name copies.Parameter apart copied refused = owner_unlaid false old new refl refused
owner_copied src old new from to len name (copies.SourceParm fault) apart copied refused = owner_unlaid false old new refl refused
owner_copied src old new from to len name (copies.DestParm fault) apart copied refused = owner_unlaid false old new refl refused
owner_copied src old new from to len name (copies.Busy page word) apart copied refused = owner_unlaid false old new refl refused
owner_copied src old new from to len name copies.NoMemory apart copied refused = owner_unlaid false old new refl refused

pub owner_target : (shared : Bool) (src old new : PortState) (from to len : ℕ) (name : StrokeName) (answer : CopyAnswer) → name.who ≢ old.place.unit
    → IfCopied answer (Copies shared src old new from to len name) → OnRefused answer (LaysNone shared old new) → shared ≡ false
    → LaysNoneOfOwner (side_of old) (side_of new)
owner_target shared src old new from to len name answer apart copied refused alone = owner_copied src old new from to len name answer apart
    (subst (λ b. IfCopied answer (Copies b src old new from to len name)) alone copied) (subst (λ b. OnRefused answer (LaysNone b old new)) alone refused)
