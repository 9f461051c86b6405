-- What a frame that was offered to a port leaves of its window, its posts and its deliveries.
use Rattle.std.proofs.Common.{◌≡◌, ◌+◌, ◌≤◌, ℕ, arith, true, false, List, [], ◌∷◌, ◌++◌, append-nil, Option, Some, None, length, map, slice_get, refl, sym, ◌∙◌, ap, subst}
use Rattle.std.specs.List.{Contains, flat_map}
use Rattle.std.proofs.lemmas.List.Elements.{All-cons, All-nil}
use Rattle.vio_num.specs.declared.names.UnitId.{UnitId}
use Rattle.page_slots.specs.Stroke.{StrokeValue}
use Rattle.page_slots.specs.declared.stroke.StrokeName.{StrokeName}
use Rattle.tce_window.specs.Moved.{IsLaid, IsWrittenTo, piece_strokes}
use Rattle.tce_window.specs.Port.{Grows, Later}
use Rattle.tce_window.specs.PortState.{LaysNone}
use Rattle.tce_window.specs.Strokes.{with_strokes}
use Rattle.tce_window.specs.declared.piece.Piece.{Piece}
use Rattle.rdma_copy.specs.Copy.{Side, SideGrows, side}
use Rattle.rdma_copy.proofs.Laws.{later_begins, learns_grows}
use Rattle.unit_region.proofs.Laws.{own_same}
use Rattle.unit_region.specs.Kept.{LaysOwnAll, LaysOwnOn}
use Rattle.lan_buffers.specs.Buffer.{buffer_address, frame_offset}
use Rattle.lan_buffers.specs.Calls.{descriptor_of, one_more}
use Rattle.lan_buffers.specs.Port.{PortValue, now}
use Rattle.lan_buffers.specs.declared.answers.Deliver.{Deliver}
use Rattle.lan_buffers.specs.declared.answers.Deliver.TheVariants as sent
use Rattle.lan_buffers.specs.declared.rows.DeliverRow.{DeliverRow as Delivery}
use Rattle.lan_buffers.specs.declared.rows.PostRow.{PostRow as Post}
use Rattle.lan_switch.specs.Sending.{IsOfferedAt, Offering, after, before}
use Rattle.vio_trace.specs.declared.lan_rows.Filled.{Filled}
use Rattle.vio_trace.specs.declared.lan_rows.Filled.TheVariants.{Frame, Blank}
use Rattle.vio_trace.specs.declared.lan_rows.FrameRow.{FrameRow}
use Rattle.vio_trace.specs.declared.window_rows.PieceRow.{PieceRow}
use Rattle.lan_script.specs.Carried.{IsCarried, IsNamedPage, named_on, places_shown}
use Rattle.lan_script.specs.Frames.{piece_row_of}
use Rattle.lan_script.specs.Rows.{deliver_row_of, deliver_rows, deliveries_in, filled_of, post_row_of, post_rows, sessions_from}
use Rattle.lan_script.proofs.Carrying.{Gathers, gathers_own}
use Rattle.lan_script.proofs.Named.{filled_page, places_rows, same_strokes}
use Rattle.lan_script.proofs.Posted.{post_chosen, post_row_there, post_session, posts_stay}
use Rattle.lan_script.proofs.RowLaws.{filtered}
use Rattle.lan_script.proofs.Tallies.{one_more_long, one_row}

-- a unit's window as an offering knows it, before and after
abbrev pub side_before : Offering → UnitId → Side
side_before o unit = side unit (o.windows.facts unit).values (o.windows.facts unit).strokes

abbrev pub side_after : Offering → UnitId → Side
side_after o unit = side unit (o.windows.facts' unit).values (o.windows.facts' unit).strokes

-- The frame of an offering is among these.
pub record HasFrame (o : Offering) (frames : List FrameRow) : Type 0 where
  pub frame : FrameRow
  pub there : Contains frames frame
  pub unit : frame.unit ≡ o.name.who
  pub number : frame.number ≡ o.name.mark
  pub bytes : frame.bytes ≡ o.frame

with_grows : (old : Option (List StrokeValue)) (more : List StrokeValue) → Grows true old (with_strokes old more)
with_grows (Some old) more = (more, refl)
with_grows None more = tt

pub laid_grows : (p : ℕ) (pieces : List Piece) (strokes : List StrokeValue) (old new : Option (List StrokeValue)) → IsLaid false p pieces strokes old new
    → Grows true old new
laid_grows p pieces strokes old new h =
    subst (Grows true old)
    (sym (h.laid ∙ ap (λ s. with_strokes s _) (same_strokes old h.before h.grown))) (with_grows old _)

-- Nothing was laid.
record Rests (w w' : Side) : Type 0 where
  pub grows : SideGrows w w'
  pub same : (p : ℕ) → w'.strokes p ≡ w.strokes p

rests_own : (w w' : Side) → Rests w w' → LaysOwnAll w.unit w.strokes w'.strokes
rests_own w w' h p = subst (LaysOwnOn w.unit (w.strokes p)) (sym (h.same p)) (own_same w.unit (w.strokes p))

rests : (o : Offering) (unit : UnitId) → o.windows.is_shared ≡ false
    → ((e : ℕ) → Later o.windows.is_shared ((before o unit).values e) ((after o unit).values e))
    → LaysNone o.windows.is_shared (before o unit) (after o unit) → Rests (side_before o unit) (side_after o unit)
rests o unit plain later none = record {
  grows = record {
    unit = refl;
    values = λ e. later_begins o.windows.is_shared ((before o unit).values e) ((after o unit).values e) (later e);
    strokes = λ p. learns_grows o.windows.is_shared ((before o unit).strokes p) ((after o unit).strokes p) (none.strokes p);
  };
  same = λ p. same_strokes ((before o unit).strokes p) ((after o unit).strokes p)
      (subst (λ b. Grows b ((before o unit).strokes p) ((after o unit).strokes p)) plain (none.strokes p));
}

-- the port has the rows that it had
same_rows : (unit : UnitId) (old new : PortValue) → new.deliveries ≡ old.deliveries → length new.drop_counts ≡ length old.drop_counts
    → deliver_rows unit new ≡ deliver_rows unit old
same_rows unit old new rows long =
    ap (λ (l : List Delivery). flat_map (deliveries_in unit l) (sessions_from 1 (length new.drop_counts))) rows
    ∙ ap (λ n. flat_map (deliveries_in unit old.deliveries) (sessions_from 1 n)) long

-- nothing was delivered
no_delivery : (o : Offering) (unit : UnitId) (old new : PortValue) (frames : List FrameRow) → Rests (side_before o unit) (side_after o unit)
    → new.posts ≡ old.posts → new.deliveries ≡ old.deliveries → length new.drop_counts ≡ length old.drop_counts
    → Gathers (side_before o unit) (side_after o unit) (post_rows unit old) (post_rows unit new) (deliver_rows unit old) (deliver_rows unit new) frames
no_delivery o unit old new frames h posts rows long =
    gathers_own (side_before o unit) (side_after o unit) (post_rows unit old) (post_rows unit new) (deliver_rows unit old) (deliver_rows unit new) frames
    h.grows (rests_own (side_before o unit) (side_after o unit) h) (posts_stay old new posts long unit) (same_rows unit old new rows long)

-- what was written, with other names for the same
written_as : (u u' : UnitId) (at at' : ℕ) (name name' : StrokeName) (bytes bytes' : List ℕ) (values : ℕ → List ℕ) (strokes : ℕ → Option (List StrokeValue))
    (pieces : List Piece) → u ≡ u' → at ≡ at' → name ≡ name' → bytes ≡ bytes' → IsWrittenTo u values strokes at name pieces bytes
    → IsWrittenTo u' values strokes at' name' pieces bytes'
written_as u u' at at' name name' bytes bytes' values strokes pieces e f g i h =
    subst (λ (x : UnitId). IsWrittenTo x values strokes at' name' pieces bytes') e
    (subst (λ x. IsWrittenTo u values strokes x name' pieces bytes') f
    (subst (λ (x : StrokeName). IsWrittenTo u values strokes at x pieces bytes') g
    (subst (λ (x : List ℕ). IsWrittenTo u values strokes at name pieces x) i h)))

frame_not_blank : (x : Filled) → x ≡ Frame → x ≡ Blank → ⊥
frame_not_blank x e f = cc (e, f)

-- The frame was written.
done : (o : Offering) (unit : UnitId) (old new : PortValue) (frames : List FrameRow) (post : ℕ) → o.windows.is_shared ≡ false
    → (o.windows.facts unit).unit ≡ unit → IsOfferedAt o unit old new (sent.Done post) → 1 ≤ length old.drop_counts → HasFrame o frames
    → Gathers (side_before o unit) (side_after o unit) (post_rows unit old) (post_rows unit new) (deliver_rows unit old) (deliver_rows unit new) frames
done o unit old new frames post plain own h some f =
    let d = h.done in
    let row = deliver_row_of unit d.row in
    let pieces : List Piece = d.row.to.items in
    let long : length new.drop_counts ≡ length old.drop_counts = ap (λ (p : PortValue). length p.drop_counts) d.rest in
    let posts : new.posts ≡ old.posts = ap (λ (p : PortValue). p.posts) d.rest in
    let taken = post_chosen (now old) (length o.frame) post d.chosen in
    let filled : row.filled ≡ Frame = ap filled_of d.filled in
    let laid : (page : ℕ) → IsLaid false page pieces (piece_strokes o.name o.frame pieces) ((before o unit).strokes page) ((after o unit).strokes page) =
    λ page. subst (λ b. IsLaid b page pieces (piece_strokes o.name o.frame pieces) ((before o unit).strokes page) ((after o unit).strokes page)) plain (d.written.laid page) in
    record {
      grows = record {
        unit = refl;
        values = λ e. later_begins o.windows.is_shared ((before o unit).values e) ((after o unit).values e) (h.window_is.rest.values e);
        strokes = λ p. laid_grows p pieces (piece_strokes o.name o.frame pieces) ((before o unit).strokes p) ((after o unit).strokes p) (laid p);
      };
      posted = posts_stay old new posts long unit;
      more = row ∷ [];
      behind = one_row unit old new d.row (ap (λ (p : PortValue). p.deliveries) d.rest) d.takes.session_is long some;
      carried = All-cons (IsCarried (side_after o unit) (post_rows unit new) frames) row [] (record {
        frame = λ e. record {
          post = post_row_of unit post taken.0;
          posted = posts_stay old new posts long unit (post_row_of unit post taken.0)
              (post_row_there unit old (length old.drop_counts) post taken.0 some (omega arith) taken.1);
          of_post = record {
            unit = refl;
            session = post_session old (length old.drop_counts) post taken.0
                (filtered (λ (p : Post). p.session) (length old.drop_counts) old.posts) taken.1 ∙ sym d.takes.session_is;
            number = sym d.takes.post_is;
          };
          frame = f.frame;
          sent = f.there;
          of_frame = record {
            unit = f.unit ∙ ap (λ (n : StrokeName). n.who) (sym d.takes.name_is);
            number = f.number ∙ ap (λ (n : StrokeName). n.mark) (sym d.takes.name_is);
          };
          pieces = pieces;
          shown = refl;
          written = written_as (o.windows.facts unit).unit unit (buffer_address (descriptor_of (slice_get (now old).posts post)) + frame_offset)
              (buffer_address taken.0.descriptor + frame_offset) o.name d.row.name o.frame f.frame.bytes (after o unit).values (after o unit).strokes pieces
              own (ap (λ x. buffer_address (descriptor_of x) + frame_offset) taken.1) (sym d.takes.name_is) (sym f.bytes) d.written.written;
        };
        blank = λ e. absurd (frame_not_blank row.filled filled e);
      })
          (All-nil (IsCarried (side_after o unit) (post_rows unit new) frames));
      named = λ page is.
          subst (λ places. IsNamedPage unit ((after o unit).strokes page) (named_on page (deliver_rows unit old) ++ places))
          (sym (places_rows page pieces) ∙ sym (append-nil (places_shown page row.to)))
          (filled_page unit page o.name o.frame pieces (after o unit).strokes ((before o unit).strokes page) (named_on page (deliver_rows unit old)) (laid page)
          d.written.written.apart d.written.written.named is);
    }

-- The buffer was given back blank.
blank : (o : Offering) (unit : UnitId) (old new : PortValue) (frames : List FrameRow) (row : Delivery) → Rests (side_before o unit) (side_after o unit)
    → new ≡ record old { deliveries = old.deliveries ++ row ∷ []; drop_counts = one_more old.drop_counts } → row.session ≡ length old.drop_counts
    → row.blank ≡ true → row.to.items ≡ [] → 1 ≤ length old.drop_counts
    → Gathers (side_before o unit) (side_after o unit) (post_rows unit old) (post_rows unit new) (deliver_rows unit old) (deliver_rows unit new) frames
blank o unit old new frames row h rest session is empty some =
    let long : length new.drop_counts ≡ length old.drop_counts = ap (λ (p : PortValue). length p.drop_counts) rest ∙ one_more_long old.drop_counts in
    let filled : filled_of row.blank ≡ Blank = ap filled_of is in
    let none : (deliver_row_of unit row).to ≡ [] = ap (λ (l : List Piece). map piece_row_of l) empty in
    record {
      grows = h.grows;
      posted = posts_stay old new (ap (λ (p : PortValue). p.posts) rest) long unit;
      more = deliver_row_of unit row ∷ [];
      behind = one_row unit old new row (ap (λ (p : PortValue). p.deliveries) rest) session long some;
      carried = All-cons (IsCarried (side_after o unit) (post_rows unit new) frames) (deliver_row_of unit row) []
          (record { frame = λ e. absurd (frame_not_blank (filled_of row.blank) e filled); blank = λ e. none })
          (All-nil (IsCarried (side_after o unit) (post_rows unit new) frames));
      named = λ page page_is.
          subst (λ (s : Option (List StrokeValue)). IsNamedPage unit s (named_on page (deliver_rows unit old) ++ named_on page (deliver_row_of unit row ∷ []))) (sym (h.same page))
          (subst (IsNamedPage unit ((before o unit).strokes page))
          (sym (ap (λ (l : List PieceRow). named_on page (deliver_rows unit old) ++ (places_shown page l ++ [])) none ∙ append-nil (named_on page (deliver_rows unit old))))
          page_is);
    }

-- What a port made of a frame.
pub offer_gathers : (o : Offering) (unit : UnitId) (old new : PortValue) (frames : List FrameRow) (answer : Deliver) → o.windows.is_shared ≡ false
    → (o.windows.facts unit).unit ≡ unit → IsOfferedAt o unit old new answer → (answer ≡ sent.NoMemory → ⊥) → 1 ≤ length old.drop_counts → HasFrame o frames
    → Gathers (side_before o unit) (side_after o unit) (post_rows unit old) (post_rows unit new) (deliver_rows unit old) (deliver_rows unit new) frames
offer_gathers o unit old new frames (sent.Done post) plain own h not some f = done o unit old new frames post plain own h some f
offer_gathers o unit old new frames (sent.Ungranted post fault) plain own h not some f =
    let b = h.ungranted.blank in
    blank o unit old new frames b.row (rests o unit plain h.window_is.rest.values h.window_is.kept) b.rest b.takes.session_is b.blank b.empty some
offer_gathers o unit old new frames sent.NoSize plain own h not some f =
    no_delivery o unit old new frames (rests o unit plain h.window_is.rest.values h.window_is.kept) (ap (λ (p : PortValue). p.posts) h.dropped)
    (ap (λ (p : PortValue). p.deliveries) h.dropped) (ap (λ (p : PortValue). length p.drop_counts) h.dropped ∙ one_more_long old.drop_counts)
offer_gathers o unit old new frames sent.NoBuffer plain own h not some f =
    no_delivery o unit old new frames (rests o unit plain h.window_is.rest.values h.window_is.kept) (ap (λ (p : PortValue). p.posts) h.dropped)
    (ap (λ (p : PortValue). p.deliveries) h.dropped) (ap (λ (p : PortValue). length p.drop_counts) h.dropped ∙ one_more_long old.drop_counts)
offer_gathers o unit old new frames (sent.Turn word) plain own h not some f =
    no_delivery o unit old new frames (rests o unit plain h.window_is.rest.values h.window_is.kept) (ap (λ (p : PortValue). p.posts) h.nothing)
    (ap (λ (p : PortValue). p.deliveries) h.nothing) (ap (λ (p : PortValue). length p.drop_counts) h.nothing)
offer_gathers o unit old new frames (sent.InUse page word) plain own h not some f =
    no_delivery o unit old new frames (rests o unit plain h.window_is.rest.values h.window_is.kept) (ap (λ (p : PortValue). p.posts) h.nothing)
    (ap (λ (p : PortValue). p.deliveries) h.nothing) (ap (λ (p : PortValue). length p.drop_counts) h.nothing)
offer_gathers o unit old new frames (sent.Closed control) plain own h not some f =
    no_delivery o unit old new frames (rests o unit plain h.window_is.rest.values h.window_is.kept) (ap (λ (p : PortValue). p.posts) h.nothing)
    (ap (λ (p : PortValue). p.deliveries) h.nothing) (ap (λ (p : PortValue). length p.drop_counts) h.nothing)
offer_gathers o unit old new frames sent.NoMemory plain own h not some f = absurd (not refl)
