-- Where a list below a row's first line is begun, the row is: the lists behind it are filled with rows of zeros.
use Rattle.std.proofs.Common.{◌≡◌, ℕ, List, [], ◌∷◌, ◌++◌, All, length, replicate, codes, decimal, refl, sym, ap, ◌∙◌, append_assoc, append-nil, arith}
use Rattle.std.specs.List.{flat_map}
use Rattle.std.proofs.lemmas.List.{length-replicate}
use Rattle.std.proofs.lemmas.List.Elements.{All-nil, All-replicate}
use Rattle.vio_num.specs.declared.entry.Entry.{Entry}
use Rattle.vio_trace.specs.declared.rows.DropRow.{DropRow}
use Rattle.vio_trace.specs.declared.rows.QueueRow.{QueueRow}
use Rattle.vio_trace.specs.declared.lan_rows.DeliverRow.{DeliverRow}
use Rattle.vio_trace.specs.declared.lan_rows.FrameRow.{FrameRow}
use Rattle.vio_trace.specs.declared.window_rows.CopyRow.{CopyRow}
use Rattle.vio_trace.specs.declared.window_rows.PieceRow.{PieceRow}
use Rattle.vio_trace.specs.declared.read_heads.QueueHead.{QueueHead}
use Rattle.vio_trace.specs.declared.read_heads.DeliverHead.{DeliverHead}
use Rattle.vio_trace.specs.declared.read_heads.FrameHead.{FrameHead}
use Rattle.vio_trace.specs.declared.read_heads.CopyHead.{CopyHead}
use Rattle.vio_trace.specs.Begun.{BeginsFew, BeginsRow}
use Rattle.vio_trace.specs.Form.{IsEntry, IsDropRow, IsOfferOf, IsOfferRow, IsPieceRow, IsQueueRow, IsDeliverRow, IsFrameRow, IsCopyRow}
use Rattle.vio_trace.specs.Heads.{queue_head, frame_head, deliver_head, copy_head, IsQueueHead, IsFrameHead, IsDeliverHead, IsCopyHead}
use Rattle.vio_trace.specs.Text.{bytes as bytes_word, code, filled, line, name, entry_text, drop_text, piece_text, queue_line, queue_text, deliver_text, frame_text, copy_line, copy_text}
use Rattle.vio_trace.proofs.Begun.{begins_below}
use Rattle.vio_trace.proofs.Ends.{queue_head_line_is, frame_head_line_is, deliver_head_line_is, copy_head_line_is}

-- rows of zeros

abbrev no_entry : Entry
no_entry = record { high = 0; low = 0 }

is_entry : IsEntry no_entry
is_entry = record { high = omega arith; low = omega arith }

abbrev no_drop : DropRow
no_drop = record { number = 0; held = 0 }

is_drop : IsDropRow no_drop
is_drop = record { number = omega arith; held = omega arith }

abbrev no_piece : PieceRow
no_piece = record { unit = record { partition = 0; unit = 0 }; entry = 0; version = 0; page = 0; offset = 0; len = 0; at = 0 }

is_piece : IsPieceRow no_piece
is_piece = record {
  unit = record { partition = omega arith; own = omega arith };
  entry = omega arith;
  version = omega arith;
  page = omega arith;
  offset = omega arith;
  len = omega arith;
  at = omega arith;
}

-- queue

abbrev queue_of : QueueHead → List Entry → List Entry → List DropRow → QueueRow
queue_of h sent taken drops = record { unit = h.unit; session = h.session; slots = h.slots; sent = sent; taken = taken; drops = drops }

queue_fits : (h : QueueHead) (a b : List Entry) (c : List DropRow) → IsQueueHead h → All IsEntry a → length a ≡ h.sent
    → All IsEntry b → length b ≡ h.taken → All IsDropRow c → length c ≡ h.drops → IsQueueRow (queue_of h a b c)
queue_fits h a b c p pa na pb nb pc nc = record {
  line = record { unit = p.unit; session = p.session; slots = p.slots; sent = omega (arith, na, p.sent); taken = omega (arith, nb, p.taken); drops = omega (arith, nc, p.drops) };
  sent = pa;
  taken = pb;
  drops = pc;
}

queue_line_is : (h : QueueHead) (a b : List Entry) (c : List DropRow) → length a ≡ h.sent → length b ≡ h.taken → length c ≡ h.drops
    → queue_line (queue_of h a b c) ≡ queue_head h
queue_line_is h a b c na nb nc =
    ap (λ (n : ℕ). line (codes "queue" ∷ name h.unit ∷ decimal h.session ∷ decimal h.slots ∷ decimal n ∷ decimal (length b) ∷ decimal (length c) ∷ [])) na
    ∙ ap (λ (n : ℕ). line (codes "queue" ∷ name h.unit ∷ decimal h.session ∷ decimal h.slots ∷ decimal h.sent ∷ decimal n ∷ decimal (length c) ∷ [])) nb
    ∙ ap (λ (n : ℕ). line (codes "queue" ∷ name h.unit ∷ decimal h.session ∷ decimal h.slots ∷ decimal h.sent ∷ decimal h.taken ∷ decimal n ∷ [])) nc

queue_whole : (a : QueueRow) → queue_text a ≡ queue_line a ++ (flat_map (entry_text (codes "sent")) a.sent ++ (flat_map (entry_text (codes "took")) a.taken ++ flat_map drop_text a.drops))
queue_whole a = simp append_assoc

queue_text_is : (h : QueueHead) (a b : List Entry) (c : List DropRow) → length a ≡ h.sent → length b ≡ h.taken → length c ≡ h.drops
    → queue_text (queue_of h a b c) ≡ queue_head h ++ (flat_map (entry_text (codes "sent")) a ++ (flat_map (entry_text (codes "took")) b ++ flat_map drop_text c))
queue_text_is h a b c na nb nc =
    queue_whole (queue_of h a b c)
    ∙ ap (λ (l : List ℕ). l ++ (flat_map (entry_text (codes "sent")) a ++ (flat_map (entry_text (codes "took")) b ++ flat_map drop_text c))) (queue_line_is h a b c na nb nc)

pub queue_begins_sent : (bytes r0 : List ℕ) (h : QueueHead) (left : ℕ) → IsQueueHead h → bytes ≡ queue_head h ++ r0
    → BeginsFew (entry_text (codes "sent")) IsEntry h.sent r0 left → BeginsRow queue_text IsQueueRow (λ (row : QueueRow). Unit {0}) bytes left
queue_begins_sent bytes r0 h left p e few =
    let b = replicate h.taken no_entry in
    let c = replicate h.drops no_drop in
    let nb = length-replicate h.taken no_entry in
    let nc = length-replicate h.drops no_drop in
    begins_below (entry_text (codes "sent")) IsEntry no_entry h.sent queue_text IsQueueRow (λ (row : QueueRow). Unit {0}) (λ (a : List Entry). queue_of h a b c)
    (flat_map (entry_text (codes "took")) b ++ flat_map drop_text c) (queue_head h) [] r0 r0 bytes left is_entry (queue_head_line_is h p) e refl
    (λ a pa na. queue_fits h a b c p pa na (All-replicate IsEntry h.taken no_entry is_entry) nb (All-replicate IsDropRow h.drops no_drop is_drop) nc)
    (λ a. tt) (λ a na. queue_text_is h a b c na nb nc) few

pub queue_begins_taken : (bytes r0 r1 : List ℕ) (h : QueueHead) (a : List Entry) (left : ℕ) → IsQueueHead h → bytes ≡ queue_head h ++ r0
    → All IsEntry a → length a ≡ h.sent → r0 ≡ flat_map (entry_text (codes "sent")) a ++ r1
    → BeginsFew (entry_text (codes "took")) IsEntry h.taken r1 left → BeginsRow queue_text IsQueueRow (λ (row : QueueRow). Unit {0}) bytes left
queue_begins_taken bytes r0 r1 h a left p e pa na e0 few =
    let c = replicate h.drops no_drop in
    let nc = length-replicate h.drops no_drop in
    begins_below (entry_text (codes "took")) IsEntry no_entry h.taken queue_text IsQueueRow (λ (row : QueueRow). Unit {0}) (λ (b : List Entry). queue_of h a b c)
    (flat_map drop_text c) (queue_head h) (flat_map (entry_text (codes "sent")) a) r0 r1 bytes left is_entry (queue_head_line_is h p) e e0
    (λ b pb nb. queue_fits h a b c p pa na pb nb (All-replicate IsDropRow h.drops no_drop is_drop) nc)
    (λ b. tt) (λ b nb. queue_text_is h a b c na nb nc) few

pub queue_begins_drops : (bytes r0 r1 r2 : List ℕ) (h : QueueHead) (a b : List Entry) (left : ℕ) → IsQueueHead h → bytes ≡ queue_head h ++ r0
    → All IsEntry a → length a ≡ h.sent → r0 ≡ flat_map (entry_text (codes "sent")) a ++ r1
    → All IsEntry b → length b ≡ h.taken → r1 ≡ flat_map (entry_text (codes "took")) b ++ r2
    → BeginsFew drop_text IsDropRow h.drops r2 left → BeginsRow queue_text IsQueueRow (λ (row : QueueRow). Unit {0}) bytes left
queue_begins_drops bytes r0 r1 r2 h a b left p e pa na e0 pb nb e1 few =
    let sent = flat_map (entry_text (codes "sent")) a in
    let took = flat_map (entry_text (codes "took")) b in
    begins_below drop_text IsDropRow no_drop h.drops queue_text IsQueueRow (λ (row : QueueRow). Unit {0}) (λ (c : List DropRow). queue_of h a b c)
    [] (queue_head h) (sent ++ took) r0 r2 bytes left is_drop (queue_head_line_is h p) e
    (e0 ∙ ap (λ (l : List ℕ). sent ++ l) e1 ∙ sym (append_assoc sent took r2))
    (λ c pc nc. queue_fits h a b c p pa na pb nb pc nc)
    (λ c. tt)
    (λ c nc. queue_text_is h a b c na nb nc ∙ ap (λ (l : List ℕ). queue_head h ++ (sent ++ (took ++ l))) (sym (append-nil (flat_map drop_text c)))
    ∙ ap (λ (l : List ℕ). queue_head h ++ l) (sym (append_assoc sent took (flat_map drop_text c ++ [])))) few

-- deliver

abbrev deliver_of : DeliverHead → List PieceRow → DeliverRow
deliver_of h to = record { unit = h.unit; session = h.session; post = h.post; sender = h.sender; frame = h.frame; filled = h.filled; to = to }

pub deliver_begins_to : (bytes r0 : List ℕ) (h : DeliverHead) (left : ℕ) → IsDeliverHead h → bytes ≡ deliver_head h ++ r0
    → BeginsFew (piece_text (codes "to")) IsPieceRow h.to r0 left → BeginsRow deliver_text IsDeliverRow (λ (row : DeliverRow). Unit {0}) bytes left
deliver_begins_to bytes r0 h left p e few =
    begins_below (piece_text (codes "to")) IsPieceRow no_piece h.to deliver_text IsDeliverRow (λ (row : DeliverRow). Unit {0}) (deliver_of h)
    [] (deliver_head h) [] r0 r0 bytes left is_piece (deliver_head_line_is h p) e refl
    (λ a pa na. record {
      line = record { unit = p.unit; session = p.session; post = p.post; sender = p.sender; frame = p.frame; to = omega (arith, na, p.to) };
      to = pa;
    })
    (λ a. tt)
    (λ a na. ap (λ (n : ℕ). line (codes "deliver" ∷ name h.unit ∷ decimal h.session ∷ decimal h.post ∷ name h.sender ∷ decimal h.frame ∷ filled h.filled ∷ decimal n ∷ []) ++ flat_map (piece_text (codes "to")) a) na
    ∙ ap (λ (l : List ℕ). deliver_head h ++ l) (sym (append-nil (flat_map (piece_text (codes "to")) a)))) few

-- frame

abbrev frame_of : FrameHead → List PieceRow → FrameRow
frame_of h from = record { unit = h.unit; number = h.number; code = h.code; from = from; bytes = h.bytes; offers = [] }

pub frame_begins_from : (bytes r0 : List ℕ) (h : FrameHead) (left : ℕ) → IsFrameHead h → bytes ≡ frame_head h ++ r0
    → BeginsFew (piece_text (codes "from")) IsPieceRow h.from r0 left → BeginsRow frame_text IsFrameRow (λ (frame : FrameRow). All (IsOfferOf frame) frame.offers) bytes left
frame_begins_from bytes r0 h left p e few =
    begins_below (piece_text (codes "from")) IsPieceRow no_piece h.from frame_text IsFrameRow (λ (frame : FrameRow). All (IsOfferOf frame) frame.offers) (frame_of h)
    [] (frame_head h) [] r0 r0 bytes left is_piece (frame_head_line_is h p) e refl
    (λ a pa na. record {
      line = record { unit = p.unit; number = p.number; from = omega (arith, na, p.from); bytes = p.bytes };
      from = pa;
      offers = All-nil IsOfferRow;
    })
    (λ a. All-nil (IsOfferOf (frame_of h a)))
    (λ a na. ap (λ (n : ℕ). (line (codes "frame" ∷ name h.unit ∷ decimal h.number ∷ code h.code ∷ decimal n ∷ bytes_word h.bytes ∷ []) ++ flat_map (piece_text (codes "from")) a) ++ []) na
    ∙ append_assoc (frame_head h) (flat_map (piece_text (codes "from")) a) []) few

-- copy

abbrev copy_of : CopyHead → List PieceRow → List PieceRow → CopyRow
copy_of h from to = record { unit = h.unit; mark = h.mark; len = h.len; from = from; to = to }

copy_fits : (h : CopyHead) (a b : List PieceRow) → IsCopyHead h → All IsPieceRow a → length a ≡ h.from → All IsPieceRow b → length b ≡ h.to → IsCopyRow (copy_of h a b)
copy_fits h a b p pa na pb nb = record {
  line = record { unit = p.unit; mark = p.mark; len = p.len; from = omega (arith, na, p.from); to = omega (arith, nb, p.to) };
  from = pa;
  to = pb;
}

copy_text_is : (h : CopyHead) (a b : List PieceRow) → length a ≡ h.from → length b ≡ h.to
    → copy_text (copy_of h a b) ≡ copy_head h ++ (flat_map (piece_text (codes "from")) a ++ flat_map (piece_text (codes "to")) b)
copy_text_is h a b na nb =
    let from = flat_map (piece_text (codes "from")) a in
    let to = flat_map (piece_text (codes "to")) b in
    append_assoc (copy_line (copy_of h a b)) from to
    ∙ ap (λ (n : ℕ). line (codes "copy" ∷ name h.unit ∷ decimal h.mark ∷ decimal h.len ∷ decimal n ∷ decimal (length b) ∷ []) ++ (from ++ to)) na
    ∙ ap (λ (n : ℕ). line (codes "copy" ∷ name h.unit ∷ decimal h.mark ∷ decimal h.len ∷ decimal h.from ∷ decimal n ∷ []) ++ (from ++ to)) nb

pub copy_begins_from : (bytes r0 : List ℕ) (h : CopyHead) (left : ℕ) → IsCopyHead h → bytes ≡ copy_head h ++ r0
    → BeginsFew (piece_text (codes "from")) IsPieceRow h.from r0 left → BeginsRow copy_text IsCopyRow (λ (row : CopyRow). Unit {0}) bytes left
copy_begins_from bytes r0 h left p e few =
    let b = replicate h.to no_piece in
    let nb = length-replicate h.to no_piece in
    begins_below (piece_text (codes "from")) IsPieceRow no_piece h.from copy_text IsCopyRow (λ (row : CopyRow). Unit {0}) (λ (a : List PieceRow). copy_of h a b)
    (flat_map (piece_text (codes "to")) b) (copy_head h) [] r0 r0 bytes left is_piece (copy_head_line_is h p) e refl
    (λ a pa na. copy_fits h a b p pa na (All-replicate IsPieceRow h.to no_piece is_piece) nb)
    (λ a. tt) (λ a na. copy_text_is h a b na nb) few

pub copy_begins_to : (bytes r0 r1 : List ℕ) (h : CopyHead) (a : List PieceRow) (left : ℕ) → IsCopyHead h → bytes ≡ copy_head h ++ r0
    → All IsPieceRow a → length a ≡ h.from → r0 ≡ flat_map (piece_text (codes "from")) a ++ r1
    → BeginsFew (piece_text (codes "to")) IsPieceRow h.to r1 left → BeginsRow copy_text IsCopyRow (λ (row : CopyRow). Unit {0}) bytes left
copy_begins_to bytes r0 r1 h a left p e pa na e0 few =
    let from = flat_map (piece_text (codes "from")) a in
    begins_below (piece_text (codes "to")) IsPieceRow no_piece h.to copy_text IsCopyRow (λ (row : CopyRow). Unit {0}) (λ (b : List PieceRow). copy_of h a b)
    [] (copy_head h) from r0 r1 bytes left is_piece (copy_head_line_is h p) e e0
    (λ b pb nb. copy_fits h a b p pa na pb nb)
    (λ b. tt)
    (λ b nb. copy_text_is h a b na nb ∙ ap (λ (l : List ℕ). copy_head h ++ (from ++ l)) (sym (append-nil (flat_map (piece_text (codes "to")) b)))) few
