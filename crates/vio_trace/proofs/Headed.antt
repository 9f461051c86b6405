-- Where a part of a row that has lines below is refused, no such row begins the text.
use Rattle.std.proofs.Common.{◌≡◌, ℕ, List, ◌++◌, All, length, codes, refl, sym, ◌∙◌, append_assoc, arith, rules}
use Rattle.std.specs.List.{flat_map}
use Rattle.vio_num.specs.declared.entry.Entry.{Entry}
use Rattle.vio_trace.specs.declared.unread.Fault.{Fault}
use Rattle.vio_trace.specs.declared.unread.Fault.TheVariants as faults
use Rattle.vio_trace.specs.declared.window_rows.PieceRow.{PieceRow}
use Rattle.vio_trace.specs.declared.rows.QueueRow.{QueueRow}
use Rattle.vio_trace.specs.declared.read_heads.QueueHead.{QueueHead}
use Rattle.vio_trace.specs.declared.lan_rows.DeliverRow.{DeliverRow}
use Rattle.vio_trace.specs.declared.read_heads.DeliverHead.{DeliverHead}
use Rattle.vio_trace.specs.declared.lan_rows.FrameRow.{FrameRow}
use Rattle.vio_trace.specs.declared.read_heads.FrameHead.{FrameHead}
use Rattle.vio_trace.specs.declared.window_rows.CopyRow.{CopyRow}
use Rattle.vio_trace.specs.declared.read_heads.CopyHead.{CopyHead}
use Rattle.vio_trace.specs.Form.{IsEntry, IsDropRow, IsPieceRow, IsQueueLine, IsQueueRow, IsDeliverLine, IsDeliverRow, IsFrameLine, IsFrameRow, IsCopyLine, IsCopyRow}
use Rattle.vio_trace.specs.Heads.{queue_head, frame_head, deliver_head, copy_head, IsQueueHead, IsFrameHead, IsDeliverHead, IsCopyHead}
use Rattle.vio_trace.specs.Reading.{NoneBegins, NoneCounted, WhereBad}
use Rattle.vio_trace.specs.Text.{entry_text, drop_text, piece_text, offer_text, queue_line, queue_text, deliver_line, deliver_text, frame_line, frame_text, copy_line, copy_text}
use Rattle.vio_trace.proofs.Cuts.{IsCut, line_cut, counted_cut}
use Rattle.vio_trace.proofs.Ends.{queue_head_words, queue_head_plain, deliver_head_words, deliver_head_plain, frame_head_words, frame_head_plain, copy_head_words, copy_head_plain}
use Rattle.vio_trace.proofs.Lans.{deliver_words, deliver_plain, frame_words, frame_plain}
use Rattle.vio_trace.proofs.RowsTold.{entry_cut, queue_words, queue_plain, told}
use Rattle.vio_trace.proofs.Windows.{copy_words, copy_plain, piece_cut}

-- what a bad line shows, a bad line of the whole does
pub where_bad : (fault : Fault) (P Q : Type 0) → (P → Q) → WhereBad fault P → WhereBad fault Q
where_bad (faults.Bad left) P Q f h = f h
where_bad faults.NoMemory P Q f h = tt

sent_cut : IsCut (entry_text (codes "sent")) IsEntry
sent_cut = entry_cut (codes "sent") (search (rules, arith))

took_cut : IsCut (entry_text (codes "took")) IsEntry
took_cut = entry_cut (codes "took") (search (rules, arith))

from_cut : IsCut (piece_text (codes "from")) IsPieceRow
from_cut = piece_cut (codes "from") (search (rules, arith))

to_cut : IsCut (piece_text (codes "to")) IsPieceRow
to_cut = piece_cut (codes "to") (search (rules, arith))

-- queue

pub queue_parts : (a : QueueRow) (rest : List ℕ) → queue_text a ++ rest ≡ queue_line a ++ (flat_map (entry_text (codes "sent")) a.sent ++ (flat_map (entry_text (codes "took")) a.taken ++ (flat_map drop_text a.drops ++ rest)))
queue_parts a rest = simp append_assoc

record QueueRowHeaded (h : QueueHead) (a : QueueRow) (xs ys : List ℕ) : Type 0 where
  sent_is : h.sent ≡ length a.sent
  taken_is : h.taken ≡ length a.taken
  drops_is : h.drops ≡ length a.drops
  rest_is : xs ≡ ys

queue_headed : (h : QueueHead) (a : QueueRow) (xs ys : List ℕ) → IsQueueHead h → IsQueueLine a → queue_head h ++ xs ≡ queue_line a ++ ys
    → QueueRowHeaded h a xs ys
queue_headed h a xs ys p q e =
    let s = line_cut (codes "queue") (queue_head_words h) (codes "queue") (queue_words a) xs ys (queue_head_plain h p) (queue_plain a q) e in
    record {
      sent_is = told 3 h.sent (length a.sent) _ _ p.sent q.sent s.words refl refl;
      taken_is = told 4 h.taken (length a.taken) _ _ p.taken q.taken s.words refl refl;
      drops_is = told 5 h.drops (length a.drops) _ _ p.drops q.drops s.words refl refl;
      rest_is = s.rest;
    }

pub queue_none_head : (bytes : List ℕ) → NoneBegins queue_head IsQueueHead bytes → NoneBegins queue_text IsQueueRow bytes
queue_none_head bytes none a rest h e =
    let head : QueueHead = record { unit = a.unit; session = a.session; slots = a.slots; sent = length a.sent; taken = length a.taken; drops = length a.drops } in
    none head (flat_map (entry_text (codes "sent")) a.sent ++ (flat_map (entry_text (codes "took")) a.taken ++ (flat_map drop_text a.drops ++ rest))) (record { unit = h.line.unit; session = h.line.session; slots = h.line.slots; sent = h.line.sent; taken = h.line.taken; drops = h.line.drops })
    (e ∙ queue_parts a rest)

pub queue_none_sent : (bytes r0 : List ℕ) (h : QueueHead) → IsQueueHead h → bytes ≡ queue_head h ++ r0
    → NoneCounted (entry_text (codes "sent")) IsEntry h.sent r0 → NoneBegins queue_text IsQueueRow bytes
queue_none_sent bytes r0 h p e none a rest q f =
    let s = queue_headed h a r0 (flat_map (entry_text (codes "sent")) a.sent ++ (flat_map (entry_text (codes "took")) a.taken ++ (flat_map drop_text a.drops ++ rest))) p q.line (sym e ∙ f ∙ queue_parts a rest) in
    none a.sent (flat_map (entry_text (codes "took")) a.taken ++ (flat_map drop_text a.drops ++ rest)) q.sent (sym s.sent_is) s.rest_is

pub queue_none_taken : (bytes r0 r1 : List ℕ) (h : QueueHead) (g0 : List Entry) → IsQueueHead h → bytes ≡ queue_head h ++ r0
    → All IsEntry g0 → length g0 ≡ h.sent → r0 ≡ flat_map (entry_text (codes "sent")) g0 ++ r1
    → NoneCounted (entry_text (codes "took")) IsEntry h.taken r1 → NoneBegins queue_text IsQueueRow bytes
queue_none_taken bytes r0 r1 h g0 p e p0 n0 e0 none a rest q f =
    let s = queue_headed h a r0 (flat_map (entry_text (codes "sent")) a.sent ++ (flat_map (entry_text (codes "took")) a.taken ++ (flat_map drop_text a.drops ++ rest))) p q.line (sym e ∙ f ∙ queue_parts a rest) in
    let t0 = counted_cut (entry_text (codes "sent")) IsEntry sent_cut g0 a.sent r1 (flat_map (entry_text (codes "took")) a.taken ++ (flat_map drop_text a.drops ++ rest)) p0 q.sent (omega (arith, n0, s.sent_is)) (sym e0 ∙ s.rest_is) in
    none a.taken (flat_map drop_text a.drops ++ rest) q.taken (sym s.taken_is) t0.rest

pub queue_none_drops : (bytes r0 r1 r2 : List ℕ) (h : QueueHead) (g0 : List Entry) (g1 : List Entry) → IsQueueHead h → bytes ≡ queue_head h ++ r0
    → All IsEntry g0 → length g0 ≡ h.sent → r0 ≡ flat_map (entry_text (codes "sent")) g0 ++ r1
    → All IsEntry g1 → length g1 ≡ h.taken → r1 ≡ flat_map (entry_text (codes "took")) g1 ++ r2
    → NoneCounted drop_text IsDropRow h.drops r2 → NoneBegins queue_text IsQueueRow bytes
queue_none_drops bytes r0 r1 r2 h g0 g1 p e p0 n0 e0 p1 n1 e1 none a rest q f =
    let s = queue_headed h a r0 (flat_map (entry_text (codes "sent")) a.sent ++ (flat_map (entry_text (codes "took")) a.taken ++ (flat_map drop_text a.drops ++ rest))) p q.line (sym e ∙ f ∙ queue_parts a rest) in
    let t0 = counted_cut (entry_text (codes "sent")) IsEntry sent_cut g0 a.sent r1 (flat_map (entry_text (codes "took")) a.taken ++ (flat_map drop_text a.drops ++ rest)) p0 q.sent (omega (arith, n0, s.sent_is)) (sym e0 ∙ s.rest_is) in
    let t1 = counted_cut (entry_text (codes "took")) IsEntry took_cut g1 a.taken r2 (flat_map drop_text a.drops ++ rest) p1 q.taken (omega (arith, n1, s.taken_is)) (sym e1 ∙ t0.rest) in
    none a.drops rest q.drops (sym s.drops_is) t1.rest

-- deliver

pub deliver_parts : (a : DeliverRow) (rest : List ℕ) → deliver_text a ++ rest ≡ deliver_line a ++ (flat_map (piece_text (codes "to")) a.to ++ rest)
deliver_parts a rest = simp append_assoc

record DeliverRowHeaded (h : DeliverHead) (a : DeliverRow) (xs ys : List ℕ) : Type 0 where
  to_is : h.to ≡ length a.to
  rest_is : xs ≡ ys

deliver_headed : (h : DeliverHead) (a : DeliverRow) (xs ys : List ℕ) → IsDeliverHead h → IsDeliverLine a → deliver_head h ++ xs ≡ deliver_line a ++ ys
    → DeliverRowHeaded h a xs ys
deliver_headed h a xs ys p q e =
    let s = line_cut (codes "deliver") (deliver_head_words h) (codes "deliver") (deliver_words a) xs ys (deliver_head_plain h p) (deliver_plain a q) e in
    record {
      to_is = told 6 h.to (length a.to) _ _ p.to q.to s.words refl refl;
      rest_is = s.rest;
    }

pub deliver_none_head : (bytes : List ℕ) → NoneBegins deliver_head IsDeliverHead bytes → NoneBegins deliver_text IsDeliverRow bytes
deliver_none_head bytes none a rest h e =
    let head : DeliverHead = record { unit = a.unit; session = a.session; post = a.post; sender = a.sender; frame = a.frame; filled = a.filled; to = length a.to } in
    none head (flat_map (piece_text (codes "to")) a.to ++ rest) (record { unit = h.line.unit; session = h.line.session; post = h.line.post; sender = h.line.sender; frame = h.line.frame; to = h.line.to })
    (e ∙ deliver_parts a rest)

pub deliver_none_to : (bytes r0 : List ℕ) (h : DeliverHead) → IsDeliverHead h → bytes ≡ deliver_head h ++ r0
    → NoneCounted (piece_text (codes "to")) IsPieceRow h.to r0 → NoneBegins deliver_text IsDeliverRow bytes
deliver_none_to bytes r0 h p e none a rest q f =
    let s = deliver_headed h a r0 (flat_map (piece_text (codes "to")) a.to ++ rest) p q.line (sym e ∙ f ∙ deliver_parts a rest) in
    none a.to rest q.to (sym s.to_is) s.rest_is

-- frame

pub frame_parts : (a : FrameRow) (rest : List ℕ) → frame_text a ++ rest ≡ frame_line a ++ (flat_map (piece_text (codes "from")) a.from ++ (flat_map offer_text a.offers ++ rest))
frame_parts a rest = simp append_assoc

record FrameRowHeaded (h : FrameHead) (a : FrameRow) (xs ys : List ℕ) : Type 0 where
  from_is : h.from ≡ length a.from
  rest_is : xs ≡ ys

frame_headed : (h : FrameHead) (a : FrameRow) (xs ys : List ℕ) → IsFrameHead h → IsFrameLine a → frame_head h ++ xs ≡ frame_line a ++ ys
    → FrameRowHeaded h a xs ys
frame_headed h a xs ys p q e =
    let s = line_cut (codes "frame") (frame_head_words h) (codes "frame") (frame_words a) xs ys (frame_head_plain h p) (frame_plain a q) e in
    record {
      from_is = told 3 h.from (length a.from) _ _ p.from q.from s.words refl refl;
      rest_is = s.rest;
    }

pub frame_none_head : (bytes : List ℕ) → NoneBegins frame_head IsFrameHead bytes → NoneBegins frame_text IsFrameRow bytes
frame_none_head bytes none a rest h e =
    let head : FrameHead = record { unit = a.unit; number = a.number; code = a.code; bytes = a.bytes; from = length a.from } in
    none head (flat_map (piece_text (codes "from")) a.from ++ (flat_map offer_text a.offers ++ rest)) (record { unit = h.line.unit; number = h.line.number; bytes = h.line.bytes; from = h.line.from })
    (e ∙ frame_parts a rest)

pub frame_none_from : (bytes r0 : List ℕ) (h : FrameHead) → IsFrameHead h → bytes ≡ frame_head h ++ r0
    → NoneCounted (piece_text (codes "from")) IsPieceRow h.from r0 → NoneBegins frame_text IsFrameRow bytes
frame_none_from bytes r0 h p e none a rest q f =
    let s = frame_headed h a r0 (flat_map (piece_text (codes "from")) a.from ++ (flat_map offer_text a.offers ++ rest)) p q.line (sym e ∙ f ∙ frame_parts a rest) in
    none a.from (flat_map offer_text a.offers ++ rest) q.from (sym s.from_is) s.rest_is

-- copy

pub copy_parts : (a : CopyRow) (rest : List ℕ) → copy_text a ++ rest ≡ copy_line a ++ (flat_map (piece_text (codes "from")) a.from ++ (flat_map (piece_text (codes "to")) a.to ++ rest))
copy_parts a rest = simp append_assoc

record CopyRowHeaded (h : CopyHead) (a : CopyRow) (xs ys : List ℕ) : Type 0 where
  from_is : h.from ≡ length a.from
  to_is : h.to ≡ length a.to
  rest_is : xs ≡ ys

copy_headed : (h : CopyHead) (a : CopyRow) (xs ys : List ℕ) → IsCopyHead h → IsCopyLine a → copy_head h ++ xs ≡ copy_line a ++ ys
    → CopyRowHeaded h a xs ys
copy_headed h a xs ys p q e =
    let s = line_cut (codes "copy") (copy_head_words h) (codes "copy") (copy_words a) xs ys (copy_head_plain h p) (copy_plain a q) e in
    record {
      from_is = told 3 h.from (length a.from) _ _ p.from q.from s.words refl refl;
      to_is = told 4 h.to (length a.to) _ _ p.to q.to s.words refl refl;
      rest_is = s.rest;
    }

pub copy_none_head : (bytes : List ℕ) → NoneBegins copy_head IsCopyHead bytes → NoneBegins copy_text IsCopyRow bytes
copy_none_head bytes none a rest h e =
    let head : CopyHead = record { unit = a.unit; mark = a.mark; len = a.len; from = length a.from; to = length a.to } in
    none head (flat_map (piece_text (codes "from")) a.from ++ (flat_map (piece_text (codes "to")) a.to ++ rest)) (record { unit = h.line.unit; mark = h.line.mark; len = h.line.len; from = h.line.from; to = h.line.to })
    (e ∙ copy_parts a rest)

pub copy_none_from : (bytes r0 : List ℕ) (h : CopyHead) → IsCopyHead h → bytes ≡ copy_head h ++ r0
    → NoneCounted (piece_text (codes "from")) IsPieceRow h.from r0 → NoneBegins copy_text IsCopyRow bytes
copy_none_from bytes r0 h p e none a rest q f =
    let s = copy_headed h a r0 (flat_map (piece_text (codes "from")) a.from ++ (flat_map (piece_text (codes "to")) a.to ++ rest)) p q.line (sym e ∙ f ∙ copy_parts a rest) in
    none a.from (flat_map (piece_text (codes "to")) a.to ++ rest) q.from (sym s.from_is) s.rest_is

pub copy_none_to : (bytes r0 r1 : List ℕ) (h : CopyHead) (g0 : List PieceRow) → IsCopyHead h → bytes ≡ copy_head h ++ r0
    → All IsPieceRow g0 → length g0 ≡ h.from → r0 ≡ flat_map (piece_text (codes "from")) g0 ++ r1
    → NoneCounted (piece_text (codes "to")) IsPieceRow h.to r1 → NoneBegins copy_text IsCopyRow bytes
copy_none_to bytes r0 r1 h g0 p e p0 n0 e0 none a rest q f =
    let s = copy_headed h a r0 (flat_map (piece_text (codes "from")) a.from ++ (flat_map (piece_text (codes "to")) a.to ++ rest)) p q.line (sym e ∙ f ∙ copy_parts a rest) in
    let t0 = counted_cut (piece_text (codes "from")) IsPieceRow from_cut g0 a.from r1 (flat_map (piece_text (codes "to")) a.to ++ rest) p0 q.from (omega (arith, n0, s.from_is)) (sym e0 ∙ s.rest_is) in
    none a.to rest q.to (sym s.to_is) t0.rest
