-- Where a part of a row that has lines below is bad, the row is.
use Rattle.std.proofs.Common.{◌≡◌, ℕ, List, ◌++◌, All, length, codes, refl}
use Rattle.std.specs.List.{flat_map}
use Rattle.vio_num.specs.declared.entry.Entry.{Entry}
use Rattle.vio_trace.specs.declared.window_rows.PieceRow.{PieceRow}
use Rattle.vio_trace.specs.declared.read_heads.QueueHead.{QueueHead}
use Rattle.vio_trace.specs.declared.read_heads.DeliverHead.{DeliverHead}
use Rattle.vio_trace.specs.declared.read_heads.FrameHead.{FrameHead}
use Rattle.vio_trace.specs.declared.read_heads.CopyHead.{CopyHead}
use Rattle.vio_trace.specs.Form.{IsEntry, IsDropRow, IsPieceRow, IsQueueRow, IsDeliverRow, IsFrameRow, IsCopyRow}
use Rattle.vio_trace.specs.Heads.{queue_head, frame_head, deliver_head, copy_head, IsQueueHead, IsFrameHead, IsDeliverHead, IsCopyHead}
use Rattle.vio_trace.specs.Reading.{NoneBegins, NoneCounted}
use Rattle.vio_trace.specs.Shared.{NoneShares}
use Rattle.vio_trace.specs.Text.{entry_text, drop_text, piece_text, queue_text, deliver_text, frame_text, copy_text}
use Rattle.vio_trace.proofs.Headed.{queue_none_head, queue_none_sent, queue_none_taken, queue_none_drops, deliver_none_head, deliver_none_to, frame_none_head, frame_none_from, copy_none_head, copy_none_from, copy_none_to}
use Rattle.vio_trace.proofs.Sharing.{part_bad}

-- queue

pub queue_bad_head : (bytes : List ℕ) (left : ℕ) → NoneShares (NoneBegins queue_head IsQueueHead) bytes left → NoneShares (NoneBegins queue_text IsQueueRow) bytes left
queue_bad_head bytes left bad = (bad.0, λ other shares. queue_none_head other (bad.1 other shares))

pub queue_bad_sent : (bytes r0 : List ℕ) (h : QueueHead) (left : ℕ) → IsQueueHead h → bytes ≡ queue_head h ++ r0
    → NoneShares (NoneCounted (entry_text (codes "sent")) IsEntry h.sent) r0 left → NoneShares (NoneBegins queue_text IsQueueRow) bytes left
queue_bad_sent bytes r0 h left p e bad =
    part_bad (NoneCounted (entry_text (codes "sent")) IsEntry h.sent) (NoneBegins queue_text IsQueueRow) (queue_head h) r0 bytes left e (λ rest none. queue_none_sent (queue_head h ++ rest) rest h p refl none) bad

pub queue_bad_taken : (bytes r0 r1 : List ℕ) (h : QueueHead) (g0 : List Entry) (left : ℕ) → IsQueueHead h → bytes ≡ queue_head h ++ r0
    → All IsEntry g0 → length g0 ≡ h.sent → r0 ≡ flat_map (entry_text (codes "sent")) g0 ++ r1
    → NoneShares (NoneCounted (entry_text (codes "took")) IsEntry h.taken) r1 left → NoneShares (NoneBegins queue_text IsQueueRow) bytes left
queue_bad_taken bytes r0 r1 h g0 left p e p0 n0 e0 bad =
    part_bad (λ (r : List ℕ). NoneBegins queue_text IsQueueRow (queue_head h ++ r)) (NoneBegins queue_text IsQueueRow) (queue_head h) r0 bytes left e (λ rest none. none)
    (part_bad (NoneCounted (entry_text (codes "took")) IsEntry h.taken) (λ (r : List ℕ). NoneBegins queue_text IsQueueRow (queue_head h ++ r)) (flat_map (entry_text (codes "sent")) g0) r1 r0 left e0 (λ rest none. queue_none_taken (queue_head h ++ (flat_map (entry_text (codes "sent")) g0 ++ rest)) (flat_map (entry_text (codes "sent")) g0 ++ rest) rest h g0 p refl p0 n0 refl none) bad)

pub queue_bad_drops : (bytes r0 r1 r2 : List ℕ) (h : QueueHead) (g0 : List Entry) (g1 : List Entry) (left : ℕ) → IsQueueHead h → bytes ≡ queue_head h ++ r0
    → All IsEntry g0 → length g0 ≡ h.sent → r0 ≡ flat_map (entry_text (codes "sent")) g0 ++ r1
    → All IsEntry g1 → length g1 ≡ h.taken → r1 ≡ flat_map (entry_text (codes "took")) g1 ++ r2
    → NoneShares (NoneCounted drop_text IsDropRow h.drops) r2 left → NoneShares (NoneBegins queue_text IsQueueRow) bytes left
queue_bad_drops bytes r0 r1 r2 h g0 g1 left p e p0 n0 e0 p1 n1 e1 bad =
    part_bad (λ (r : List ℕ). NoneBegins queue_text IsQueueRow (queue_head h ++ r)) (NoneBegins queue_text IsQueueRow) (queue_head h) r0 bytes left e (λ rest none. none)
    (part_bad (λ (r : List ℕ). NoneBegins queue_text IsQueueRow (queue_head h ++ (flat_map (entry_text (codes "sent")) g0 ++ r))) (λ (r : List ℕ). NoneBegins queue_text IsQueueRow (queue_head h ++ r)) (flat_map (entry_text (codes "sent")) g0) r1 r0 left e0 (λ rest none. none)
    (part_bad (NoneCounted drop_text IsDropRow h.drops) (λ (r : List ℕ). NoneBegins queue_text IsQueueRow (queue_head h ++ (flat_map (entry_text (codes "sent")) g0 ++ r))) (flat_map (entry_text (codes "took")) g1) r2 r1 left e1 (λ rest none. queue_none_drops (queue_head h ++ (flat_map (entry_text (codes "sent")) g0 ++ (flat_map (entry_text (codes "took")) g1 ++ rest))) (flat_map (entry_text (codes "sent")) g0 ++ (flat_map (entry_text (codes "took")) g1 ++ rest)) (flat_map (entry_text (codes "took")) g1 ++ rest) rest h g0 g1 p refl p0 n0 refl p1 n1 refl none) bad))

-- deliver

pub deliver_bad_head : (bytes : List ℕ) (left : ℕ) → NoneShares (NoneBegins deliver_head IsDeliverHead) bytes left → NoneShares (NoneBegins deliver_text IsDeliverRow) bytes left
deliver_bad_head bytes left bad = (bad.0, λ other shares. deliver_none_head other (bad.1 other shares))

pub deliver_bad_to : (bytes r0 : List ℕ) (h : DeliverHead) (left : ℕ) → IsDeliverHead h → bytes ≡ deliver_head h ++ r0
    → NoneShares (NoneCounted (piece_text (codes "to")) IsPieceRow h.to) r0 left → NoneShares (NoneBegins deliver_text IsDeliverRow) bytes left
deliver_bad_to bytes r0 h left p e bad =
    part_bad (NoneCounted (piece_text (codes "to")) IsPieceRow h.to) (NoneBegins deliver_text IsDeliverRow) (deliver_head h) r0 bytes left e (λ rest none. deliver_none_to (deliver_head h ++ rest) rest h p refl none) bad

-- frame

pub frame_bad_head : (bytes : List ℕ) (left : ℕ) → NoneShares (NoneBegins frame_head IsFrameHead) bytes left → NoneShares (NoneBegins frame_text IsFrameRow) bytes left
frame_bad_head bytes left bad = (bad.0, λ other shares. frame_none_head other (bad.1 other shares))

pub frame_bad_from : (bytes r0 : List ℕ) (h : FrameHead) (left : ℕ) → IsFrameHead h → bytes ≡ frame_head h ++ r0
    → NoneShares (NoneCounted (piece_text (codes "from")) IsPieceRow h.from) r0 left → NoneShares (NoneBegins frame_text IsFrameRow) bytes left
frame_bad_from bytes r0 h left p e bad =
    part_bad (NoneCounted (piece_text (codes "from")) IsPieceRow h.from) (NoneBegins frame_text IsFrameRow) (frame_head h) r0 bytes left e (λ rest none. frame_none_from (frame_head h ++ rest) rest h p refl none) bad

-- copy

pub copy_bad_head : (bytes : List ℕ) (left : ℕ) → NoneShares (NoneBegins copy_head IsCopyHead) bytes left → NoneShares (NoneBegins copy_text IsCopyRow) bytes left
copy_bad_head bytes left bad = (bad.0, λ other shares. copy_none_head other (bad.1 other shares))

pub copy_bad_from : (bytes r0 : List ℕ) (h : CopyHead) (left : ℕ) → IsCopyHead h → bytes ≡ copy_head h ++ r0
    → NoneShares (NoneCounted (piece_text (codes "from")) IsPieceRow h.from) r0 left → NoneShares (NoneBegins copy_text IsCopyRow) bytes left
copy_bad_from bytes r0 h left p e bad =
    part_bad (NoneCounted (piece_text (codes "from")) IsPieceRow h.from) (NoneBegins copy_text IsCopyRow) (copy_head h) r0 bytes left e (λ rest none. copy_none_from (copy_head h ++ rest) rest h p refl none) bad

pub copy_bad_to : (bytes r0 r1 : List ℕ) (h : CopyHead) (g0 : List PieceRow) (left : ℕ) → IsCopyHead h → bytes ≡ copy_head h ++ r0
    → All IsPieceRow g0 → length g0 ≡ h.from → r0 ≡ flat_map (piece_text (codes "from")) g0 ++ r1
    → NoneShares (NoneCounted (piece_text (codes "to")) IsPieceRow h.to) r1 left → NoneShares (NoneBegins copy_text IsCopyRow) bytes left
copy_bad_to bytes r0 r1 h g0 left p e p0 n0 e0 bad =
    part_bad (λ (r : List ℕ). NoneBegins copy_text IsCopyRow (copy_head h ++ r)) (NoneBegins copy_text IsCopyRow) (copy_head h) r0 bytes left e (λ rest none. none)
    (part_bad (NoneCounted (piece_text (codes "to")) IsPieceRow h.to) (λ (r : List ℕ). NoneBegins copy_text IsCopyRow (copy_head h ++ r)) (flat_map (piece_text (codes "from")) g0) r1 r0 left e0 (λ rest none. copy_none_to (copy_head h ++ (flat_map (piece_text (codes "from")) g0 ++ rest)) (flat_map (piece_text (codes "from")) g0 ++ rest) rest h g0 p refl p0 n0 refl none) bad)
