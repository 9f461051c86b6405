-- A window that is read stays as it was, and so does what stands there.
use Rattle.std.proofs.Common.{◌≡◌, ◌+◌, ◌≤◌, ℕ, Bool, true, false, All, List, Option, length, refl, sym, ◌∙◌, subst}
use Rattle.std.specs.List.{flat_map}
use Rattle.page_slots.specs.Stroke.{StrokeValue}
use Rattle.tce_window.specs.Moved.{read_bytes, stroke_count}
use Rattle.tce_window.specs.Pieces.{HasStrokes, IsGranted, IsLast, Touches}
use Rattle.tce_window.specs.declared.answers.Right.TheVariants.{Read}
use Rattle.rdma_copy.specs.Copies.{OnlyCopies}
use Rattle.tce_window.specs.PortState.{LaysNone, PortState}
use Rattle.block_server.specs.Talk.{IsReadWhole, StandAt, StaysKnown}
use Rattle.block_server.proofs.NamedWindows.{grows_same}

pub known_same : (port : PortState) → StaysKnown port port
known_same port = record { place = refl; strokes = refl; values = refl }

pub known_on : (a b c : PortState) → StaysKnown a b → StaysKnown b c → StaysKnown a c
known_on a b c first next = record { place = next.place ∙ first.place; strokes = next.strokes ∙ first.strokes; values = next.values ∙ first.values }

-- a window that another call left as it was
pub stays_known : (a b c : PortState) → StaysKnown a b → c ≡ b → StaysKnown a c
stays_known a b c first same = subst (λ (port : PortState). StaysKnown a port) (sym same) first

-- a window that was read, and in which nobody else has a hand
pub known_read : (shared : Bool) (old new : PortState) → shared ≡ false → LaysNone shared old new → OnlyCopies shared old new → StaysKnown old new
known_read true old new alone none rest = absurd (cc (alone))
known_read false old new alone none rest = record {
  place = rest.place;
  strokes = λ i p. grows_same (old.strokes p) (new.strokes p) (none.strokes p) i;
  values = λ i e. rest.values e i;
}

-- what was read there is what stood there before
pub reads_known : (old new : PortState) (address : ℕ) (bytes : List ℕ) → StaysKnown old new → IsReadWhole new address bytes → IsReadWhole old address bytes
reads_known old new address bytes same is = record {
  pieces = is.pieces;
  read = record {
    touched = subst (λ place. Touches place.unit address (address + length bytes) is.pieces) same.place is.read.touched;
    granted = subst (λ (values : ℕ → List ℕ). All (IsGranted values Read) is.pieces) same.values is.read.granted;
    reached = subst (λ (strokes : ℕ → Option (List StrokeValue)). All (λ piece. piece.at ≤ stroke_count (strokes piece.page)) is.pieces) same.strokes is.read.reached;
    join = subst (λ (strokes : ℕ → Option (List StrokeValue)). flat_map (read_bytes strokes) is.pieces ≡ bytes) same.strokes is.read.join;
  };
  last = subst (λ (values : ℕ → List ℕ). All (IsLast values) is.pieces) same.values is.last;
  all = subst (λ (strokes : ℕ → Option (List StrokeValue)). All (λ piece. HasStrokes piece (strokes piece.page)) is.pieces) same.strokes is.all;
}

pub stand_known : (old new : PortState) (address : ℕ) (bytes : List ℕ) → StaysKnown old new → StandAt old address bytes → StandAt new address bytes
stand_known old new address bytes same stand = λ read is long. stand read (reads_known old new address read same is) long
