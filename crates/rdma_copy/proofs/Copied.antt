-- What follows of an answer, case by case.
use Rattle.std.proofs.Common.{◌≡◌, ◌≤◌, ℕ, Bool, true, false, List, [], ◌++◌, Option, Some, None, All, ◌+◌, ◌∙◌, flat_map, option_map, refl, sym, ap, subst, arith, append-nil}
use Rattle.std.proofs.lemmas.List.Elements.{All-nil}
use Rattle.page_slots.specs.Stroke.{StrokeValue}
use Rattle.page_slots.specs.declared.stroke.StrokeName.{StrokeName}
use Rattle.tce_window.specs.declared.piece.Piece.{Piece}
use Rattle.tce_window.specs.declared.answers.HoldFault.{HoldFault}
use Rattle.tce_window.specs.declared.answers.Right.{Right}
use Rattle.tce_window.specs.Pieces.{HasStrokes, IsGranted, IsLast, IsUsable}
use Rattle.tce_window.specs.Port.{Grows}
use Rattle.tce_window.specs.PortState.{PortState}
use Rattle.tce_window.specs.declared.answers.Right.TheVariants.{Read, Write}
use Rattle.tce_window.specs.Moved.{piece_strokes, places_on, read_bytes, stroke_count, stroke_of, IsLaid, IsNamed, IsReadFrom, IsWrittenTo}
use Rattle.rdma_copy.specs.declared.copy.CopyRecord.{CopyRecord}
use Rattle.rdma_copy.specs.declared.copy.CopyAnswer.{CopyAnswer}
use Rattle.rdma_copy.specs.declared.copy.CopyAnswer.TheVariants.{Copied, Parameter, SourceParm, DestParm, Busy, NoMemory}
use Rattle.rdma_copy.specs.Copies.{Copies, MayHold}
use Rattle.rdma_copy.specs.Answers.{IfCopied, OnHeld, IfSourceParm, IfDestParm, IfBusy}

pub copied_weaker : (answer : CopyAnswer) (P Q : CopyRecord → Type 0) → ((copy : CopyRecord) → P copy → Q copy) → IfCopied answer P → IfCopied answer Q
copied_weaker (Copied copy) P Q f p = f copy p
copied_weaker Parameter P Q f p = tt
copied_weaker (SourceParm fault) P Q f p = tt
copied_weaker (DestParm fault) P Q f p = tt
copied_weaker (Busy page word) P Q f p = tt
copied_weaker NoMemory P Q f p = tt

pub held_weaker : (answer : CopyAnswer) (P Q : Type 0) → (P → Q) → OnHeld answer P → OnHeld answer Q
held_weaker (Copied copy) P Q f h = f h
held_weaker Parameter P Q f h = tt
held_weaker (SourceParm fault) P Q f h = tt
held_weaker (DestParm fault) P Q f h = tt
held_weaker (Busy page word) P Q f h = tt
held_weaker NoMemory P Q f h = f h

pub source_weaker : (answer : CopyAnswer) (P Q : HoldFault → Type 0) → ((fault : HoldFault) → P fault → Q fault) → IfSourceParm answer P → IfSourceParm answer Q
source_weaker (Copied copy) P Q f h = tt
source_weaker Parameter P Q f h = tt
source_weaker (SourceParm fault) P Q f h = f fault h
source_weaker (DestParm fault) P Q f h = tt
source_weaker (Busy page word) P Q f h = tt
source_weaker NoMemory P Q f h = tt

pub dest_weaker : (answer : CopyAnswer) (P Q : HoldFault → Type 0) → ((fault : HoldFault) → P fault → Q fault) → IfDestParm answer P → IfDestParm answer Q
dest_weaker (Copied copy) P Q f h = tt
dest_weaker Parameter P Q f h = tt
dest_weaker (SourceParm fault) P Q f h = tt
dest_weaker (DestParm fault) P Q f h = f fault h
dest_weaker (Busy page word) P Q f h = tt
dest_weaker NoMemory P Q f h = tt

pub busy_weaker : (answer : CopyAnswer) (P Q : ℕ → ℕ → Type 0) → ((page word : ℕ) → P page word → Q page word) → IfBusy answer P → IfBusy answer Q
busy_weaker (Copied copy) P Q f h = tt
busy_weaker Parameter P Q f h = tt
busy_weaker (SourceParm fault) P Q f h = tt
busy_weaker (DestParm fault) P Q f h = tt
busy_weaker (Busy page word) P Q f h = f page word h
busy_weaker NoMemory P Q f h = tt

-- entries that may be used, told of what is known of the window in the end
pub may_hold : (values : ℕ → List ℕ) (size : ℕ) (port : PortState) (right : Right) (ioba len : ℕ) → port.values ≡ values → port.place.size ≡ size
    → IsUsable values right size ioba len → MayHold port right ioba len
may_hold values size port right ioba len same kept h =
    subst (λ v. IsUsable v right port.place.size ioba len) (sym same) (subst (λ n. IsUsable values right n ioba len) (sym kept) h)

-- a page as it was
grows_same : (is_shared : Bool) (strokes : Option (List StrokeValue)) → Grows is_shared strokes strokes
grows_same true (Some strokes) = ([], sym (append-nil strokes))
grows_same false (Some strokes) = refl
grows_same is_shared None = tt

laid_same : (strokes : Option (List StrokeValue)) → strokes ≡ option_map (λ s. s ++ []) strokes
laid_same (Some strokes) = ap Some (sym (append-nil strokes))
laid_same None = refl

-- where there are no pieces nothing is laid
pub nothing_laid : (is_shared : Bool) (p : ℕ) (pieces : List Piece) (strokes : List StrokeValue) (old : Option (List StrokeValue)) → pieces ≡ [] → IsLaid is_shared p pieces strokes old old
nothing_laid is_shared p pieces strokes old none =
    subst (λ list. IsLaid is_shared p list strokes old old) (sym none)
    (record {
      before = old;
      grown = grows_same is_shared old;
      laid = laid_same old;
      behind = All-nil (λ piece. piece.page ≡ p → stroke_count old ≤ piece.at);
    })

-- a copy of no byte is made of no piece
pub copies_none : (is_shared : Bool) (src dst : PortState) (from to len : ℕ) (name : StrokeName) (copy : CopyRecord) → copy.name ≡ name → copy.len ≡ len → len ≡ 0
    → copy.from.items ≡ [] → copy.to.items ≡ [] → Copies is_shared src dst dst from to len name copy
copies_none is_shared src dst from to len name copy named long none no_from no_to =
    let here : (at : ℕ) → at ≡ at + 0 = λ at. omega arith in
    record {
      name_is = named;
      len_is = long;
      lawful = record {
        bytes = [];
        len = sym (long ∙ none);
        read = subst (λ list. IsReadFrom src.place.unit src.values src.strokes from list []) (sym no_from) (record {
          touched = here from;
          granted = All-nil (IsGranted src.values Read);
          reached = All-nil (λ piece. piece.at ≤ stroke_count (src.strokes piece.page));
          join = refl;
        });
        written = subst (λ list. IsWrittenTo dst.place.unit dst.values dst.strokes to copy.name list []) (sym no_to) (record {
          touched = here to;
          granted = All-nil (IsGranted dst.values Write);
          named = All-nil (λ piece. IsNamed copy.name piece (stroke_of dst.strokes piece));
          apart = tt;
          join = refl;
        });
      };
      last_read = subst (All (IsLast src.values)) (sym no_from) (All-nil (IsLast src.values));
      all_read = subst (All (λ piece. HasStrokes piece (src.strokes piece.page))) (sym no_from) (All-nil (λ piece. HasStrokes piece (src.strokes piece.page)));
      last_written = subst (All (IsLast dst.values)) (sym no_to) (All-nil (IsLast dst.values));
      laid = λ p. nothing_laid is_shared p copy.to.items (piece_strokes name (flat_map (read_bytes src.strokes) copy.from.items) copy.to.items) (dst.strokes p) no_to;
      places = λ shared p. subst (λ list. dst.laid p ≡ dst.laid p ++ places_on p list) (sym no_to) (sym (append-nil (dst.laid p)));
    }
