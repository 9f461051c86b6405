-- What frames and deliveries carry, as windows, posts, deliveries and frames grow.
use Rattle.std.proofs.Common.{◌≡◌, ◌+◌, ℕ, List, [], ◌∷◌, ◌++◌, All, sym, ◌∙◌, ap, subst, append-nil}
use Rattle.std.specs.List.{Contains}
use Rattle.std.proofs.lemmas.List.Elements.{All-append, All-nil, All-weaker}
use Rattle.vio_num.specs.declared.names.UnitId.{UnitId}
use Rattle.page_slots.specs.declared.stroke.StrokeName.{StrokeName}
use Rattle.lan_buffers.specs.Buffer.{buffer_address, frame_offset}
use Rattle.tce_window.specs.Moved.{IsReadFrom, IsWrittenTo}
use Rattle.tce_window.specs.declared.piece.Piece.{Piece}
use Rattle.rdma_copy.specs.Copy.{Side, SideGrows}
use Rattle.rdma_copy.proofs.Laws.{read_stays, written_stays}
use Rattle.unit_region.specs.Kept.{LaysOwnAll}
use Rattle.vio_trace.specs.declared.lan_rows.DeliverRow.{DeliverRow}
use Rattle.vio_trace.specs.declared.lan_rows.FrameRow.{FrameRow}
use Rattle.vio_trace.specs.declared.lan_rows.PostRow.{PostRow}
use Rattle.lan_script.specs.Carried.{AreReadFrom, IsCarried, IsFilled, IsNamedPage, IsRead, named_on}
use Rattle.lan_script.specs.Invariant.{AreCarried}
use Rattle.lan_script.proofs.Named.{named_more, own_page}

still_read : (w w' : Side) → SideGrows w w' → (addresses : List ℕ) (pieces : List Piece) (bytes : List ℕ) → AreReadFrom w addresses pieces bytes
    → AreReadFrom w' addresses pieces bytes
still_read w w' grows [] pieces bytes h = h
still_read w w' grows (at ∷ addresses) pieces bytes (first, later, cut, front, rest, joined, read, behind) = (
  first,
  later,
  cut,
  front,
  rest,
  joined,
  subst (λ (u : UnitId). IsReadFrom u w'.values w'.strokes at first front) (sym grows.unit)
      (read_stays w.unit at first front w.values w'.values w.strokes w'.strokes grows.values grows.strokes read),
  still_read w w' grows addresses later rest behind,
)

-- a frame that was read is read
pub read_on : (w w' : Side) (frame : FrameRow) → SideGrows w w' → IsRead w frame → IsRead w' frame
read_on w w' frame grows h = record {
  addresses = h.addresses;
  few = h.few;
  pieces = h.pieces;
  shown = h.shown;
  read = still_read w w' grows h.addresses h.pieces frame.bytes h.read;
}

still_written : (w w' : Side) (at : ℕ) (name : StrokeName) (pieces : List Piece) (bytes : List ℕ) → SideGrows w w'
    → IsWrittenTo w.unit w.values w.strokes at name pieces bytes → IsWrittenTo w'.unit w'.values w'.strokes at name pieces bytes
still_written w w' at name pieces bytes grows h =
    subst (λ (u : UnitId). IsWrittenTo u w'.values w'.strokes at name pieces bytes) (sym grows.unit)
    (written_stays w.unit at name pieces bytes w.values w'.values w.strokes w'.strokes grows.values grows.strokes h)

-- a buffer that was filled is filled
filled_on : (w w' : Side) (posts posts' : List PostRow) (frames frames' : List FrameRow) (row : DeliverRow) → SideGrows w w'
    → ((post : PostRow) → Contains posts post → Contains posts' post) → ((frame : FrameRow) → Contains frames frame → Contains frames' frame)
    → IsFilled w posts frames row → IsFilled w' posts' frames' row
filled_on w w' posts posts' frames frames' row grows posted sent h = record {
  post = h.post;
  posted = posted h.post h.posted;
  of_post = h.of_post;
  frame = h.frame;
  sent = sent h.frame h.sent;
  of_frame = h.of_frame;
  pieces = h.pieces;
  shown = h.shown;
  written = still_written w w' (buffer_address h.post.descriptor + frame_offset) (record { who = row.sender; mark = row.frame })
      h.pieces h.frame.bytes grows h.written;
}

pub carried_on : (w w' : Side) (posts posts' : List PostRow) (frames frames' : List FrameRow) (row : DeliverRow) → SideGrows w w'
    → ((post : PostRow) → Contains posts post → Contains posts' post) → ((frame : FrameRow) → Contains frames frame → Contains frames' frame)
    → IsCarried w posts frames row → IsCarried w' posts' frames' row
carried_on w w' posts posts' frames frames' row grows posted sent h = record {
  frame = λ e. filled_on w w' posts posts' frames frames' row grows posted sent (h.frame e);
  blank = h.blank;
}

-- What was done at a unit: its window and its posts grew, it has these deliveries more, and they name what was laid on its pages.
pub record Gathers (w w' : Side) (posts posts' : List PostRow) (rows rows' : List DeliverRow) (frames' : List FrameRow) : Type 0 where
  pub grows : SideGrows w w'
  pub posted : (post : PostRow) → Contains posts post → Contains posts' post
  pub more : List DeliverRow
  pub behind : rows' ≡ rows ++ more
  pub carried : All (IsCarried w' posts' frames') more
  pub named : (page : ℕ) → IsNamedPage w.unit (w.strokes page) (named_on page rows)
      → IsNamedPage w'.unit (w'.strokes page) (named_on page rows ++ named_on page more)

-- Where each unit gathers so, and frames that were read came to those that were, all is carried.
pub gathered : (windows windows' : UnitId → Side) (posts posts' : UnitId → List PostRow) (rows rows' : UnitId → List DeliverRow) (frames frames' : List FrameRow)
    → AreCarried windows posts rows frames
    → ((unit : UnitId) → Gathers (windows unit) (windows' unit) (posts unit) (posts' unit) (rows unit) (rows' unit) frames')
    → ((frame : FrameRow) → Contains frames frame → Contains frames' frame) → All (λ frame. IsRead (windows' frame.unit) frame) frames'
    → AreCarried windows' posts' rows' frames'
gathered windows windows' posts posts' rows rows' frames frames' is step sent read = record {
  read = read;
  written = λ unit.
      let s = step unit in
      subst (All (IsCarried (windows' unit) (posts' unit) frames')) (sym s.behind)
      (All-append (IsCarried (windows' unit) (posts' unit) frames') (rows unit) s.more
      (All-weaker (IsCarried (windows unit) (posts unit) frames) (IsCarried (windows' unit) (posts' unit) frames')
      (λ row h. carried_on (windows unit) (windows' unit) (posts unit) (posts' unit) frames frames' row s.grows s.posted sent h) (rows unit) (is.written unit))
      s.carried);
  named = λ unit page.
      let s = step unit in
      subst (IsNamedPage (windows' unit).unit ((windows' unit).strokes page))
      (sym (ap (λ l. named_on page l) s.behind ∙ named_more page (rows unit) s.more)) (s.named page (is.named unit page));
}

-- frames that were read, of windows that grew
pub all_read : (windows windows' : UnitId → Side) (frames : List FrameRow) → ((unit : UnitId) → SideGrows (windows unit) (windows' unit))
    → All (λ frame. IsRead (windows frame.unit) frame) frames → All (λ frame. IsRead (windows' frame.unit) frame) frames
all_read windows windows' frames grows =
    All-weaker (λ frame. IsRead (windows frame.unit) frame) (λ frame. IsRead (windows' frame.unit) frame)
    (λ frame h. read_on (windows frame.unit) (windows' frame.unit) frame (grows frame.unit) h) frames

-- where nothing was delivered, and only the unit itself laid strokes
pub gathers_own : (w w' : Side) (posts posts' : List PostRow) (rows rows' : List DeliverRow) (frames' : List FrameRow) → SideGrows w w'
    → LaysOwnAll w.unit w.strokes w'.strokes → ((post : PostRow) → Contains posts post → Contains posts' post) → rows' ≡ rows
    → Gathers w w' posts posts' rows rows' frames'
gathers_own w w' posts posts' rows rows' frames' grows own posted same = record {
  grows = grows;
  posted = posted;
  more = [];
  behind = same ∙ sym (append-nil rows);
  carried = All-nil (IsCarried w' posts' frames');
  named = λ page h.
      subst (λ (u : UnitId). IsNamedPage u (w'.strokes page) (named_on page rows ++ [])) (sym grows.unit)
      (subst (IsNamedPage w.unit (w'.strokes page)) (sym (append-nil (named_on page rows)))
      (own_page w.unit (w.strokes page) (w'.strokes page) (named_on page rows) (own page) h));
}
