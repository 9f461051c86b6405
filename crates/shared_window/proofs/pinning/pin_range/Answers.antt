-- Each step pins the next entry and adds its piece.
use Rattle.std.proofs.Common.{◌≡◌, ℕ, ◌+◌, ◌-◌, ◌*◌, ◌/◌, ◌<◌, ◌≤◌, [], ◌∷◌, List, ◌∙◌, All, length, subst, sym, ap, add-zero, append-nil, length-append, rules, arith}
use Rattle.std.proofs.lemmas.List.Elements.{All-push}
use Rattle.vio_num.specs.Words.{Begins}
use Rattle.entry_slots.specs.Entries.{IsPinned}
use Rattle.tce_window.specs.declared.answers.TceRow.{TceRow}
use Rattle.tce_window.specs.declared.piece.Piece.{Piece}
use Rattle.tce_window.specs.Pieces.{Touches, IsGranted, IsLast, MayUse, AreUsable, IsRefused}
use Rattle.tce_window.specs.Grant.{values_of}
use Rattle.tce_window.proofs.Laws.{refused_at, of_entry, touches_more, usable_more, piece_bytes, piece_len, bytes_aligned}
use Rattle.shared_window.specs.Pinning.{PinsPiece, RefusesPiece, PinsUpTo, pinned_by}
use Rattle.shared_window.proofs.Pins.{pins_none, is_next, pins_more, pins_for, kept_all, granted_still, last_still, usable_still, inside_more, cause_of}
use Rattle.shared_window.proofs.pinning.pin_range.Goals as goal

pub loop-done-init : goal.loop-done-init
loop-done-init c = let empty : length c.new-pieces.result.items ≡ 0 = ap length c.new-pieces.ensures in record {
  within = omega arith;
  aligned = λ some. absurd (omega (arith, some));
  count = λ less. omega (arith, empty);
  some = λ some. absurd (omega (arith, some));
  inside = λ some. absurd (omega (arith, some));
  pins = subst (λ k. PinsUpTo c.args.seat.now (c.args.ioba / 4096) k c.args.seat.now) (sym empty) (pins_none c.args.seat.now (c.args.ioba / 4096) c.requires.free);
  touched = λ rest t. rw c.new-pieces.ensures (subst (λ from. Touches c.args.unit from (c.args.ioba + c.args.len) rest) (add-zero c.args.ioba) t);
  entries = λ k d less. absurd (omega (arith, less, empty));
  granted = λ k d less. absurd (omega (arith, less, empty));
  last = λ k d less. absurd (omega (arith, less, empty));
  pages = λ k d less. absurd (omega (arith, less, empty));
  usable = λ some. absurd (omega (arith, some));
}

pub pin_piece-requires-clause-next : goal.pin_piece-requires-clause-next
pin_piece-requires-clause-next c =
    let less : c.loop-done.done < c.args.len = search rules in
    let from : c.from-in-loop-done.result ≡ c.loop-done.done = search rules in
    let at = c.loop-done.invariant.count less in
    is_next c.args.seat.now c.loop-done.seat (c.args.ioba / 4096) (length c.loop-done.pieces.items) ((c.args.ioba + c.from-in-loop-done.result) / 4096) c.loop-done.invariant.pins
    (ap (λ k. (c.args.ioba + k) / 4096) from ∙ sym at)

pub returns-clause-ok : goal.returns-clause-ok
returns-clause-ok c = let some = c.requires.len.0 in let end : c.loop-done.done ≡ c.args.len = search rules in record {
  pins = c.loop-done.invariant.pins;
  touched = subst (Touches c.args.unit c.args.ioba (c.args.ioba + c.args.len)) (append-nil c.loop-done.pieces.items) (c.loop-done.invariant.touched [] (omega (arith, end)));
  granted = c.loop-done.invariant.granted;
  last = c.loop-done.invariant.last;
  usable = λ e low high. c.loop-done.invariant.usable (omega (arith, end, some)) e low (omega (arith, high, end));
  pages = c.loop-done.invariant.pages;
  some = c.loop-done.invariant.some (omega (arith, end, some));
  inside = c.loop-done.invariant.inside (omega (arith, end, some));
}

pub loop-done-preserved : goal.loop-done-preserved
loop-done-preserved c =
    let piece = c.in-Ok.piece in
    let ioba = c.args.ioba in
    let done = c.loop-done.done in
    let n = c.args.entries.now.count in
    let inv = c.loop-done.invariant in
    let pieces : List Piece = c.loop-done.pieces.items in
    let first : ℕ = ioba / 4096 in
    let seat = c.loop-done.seat in
    let new = c.pin_piece.new.seat in
    let size : c.from-done.result ≡ piece.len = search rules in
    let less : done < c.args.len = search rules in
    let from : c.from-in-loop-done.result ≡ done = search rules in
    let p : PinsPiece c.args.unit n c.args.right (ioba + done) (c.args.len - done) seat piece new = subst (λ k. PinsPiece c.args.unit n c.args.right (ioba + k) (c.args.len - done) seat piece new) from c.in-Ok.ensures.ok in
    let at : (ioba + done) / 4096 ≡ first + length pieces = sym (inv.count less) in
    let inside = p.inside in
    let bytes : piece_bytes (ioba + done) (c.args.len - done) piece.len = piece_len _ (ioba + done) (c.args.len - done) piece p.piece_is (omega (arith, less)) in
    let longer : length c.push.new.self.items ≡ length pieces + 1 = ap length c.push.ensures.items ∙ length-append pieces (piece ∷ []) in
    let same : (i : ℕ) → first ≤ i → i < first + length pieces → values_of new.rows i ≡ values_of seat.rows i = kept_all c.args.seat.now seat new ((ioba + done) / 4096) first (length pieces) inv.pins p.pin in
    let entry : piece.entry ≡ (ioba + done) / 4096 = p.piece_is.entry in
    let here : (first ≤ piece.entry) × (piece.entry < first + length c.push.new.self.items) = (omega (arith, entry, at), omega (arith, entry, at, longer)) in
    let usable : 0 < done → (e : ℕ) → first ≤ e → e * 4096 < ioba + done → (e < n) × MayUse (values_of new.rows) c.args.right e
    = λ some e low high. let u = inv.usable some e low high in (u.0, usable_still (values_of seat.rows) (values_of new.rows) first (first + length pieces) same c.args.right e low (let a = inv.aligned some less in omega (arith, high, at, a)) u.1) in
    record {
      within = omega (arith, bytes.within, size, less);
      aligned = λ some more. bytes_aligned ioba done c.args.len piece.len c.from-done.result size bytes more;
      count = λ more. omega (arith, longer, bytes_aligned ioba done c.args.len piece.len c.from-done.result size bytes more, bytes.entry, bytes.some, size, at);
      some = λ some. omega (arith, longer);
      inside = λ some. omega (arith, longer, inside, at);
      pins = subst (λ k. PinsUpTo c.args.seat.now first k new) (sym longer) (pins_more c.args.seat.now seat new ((ioba + done) / 4096) first (length pieces) inv.pins p.pin at);
      touched = λ rest t.
          rw c.push.ensures.items (touches_more c.args.unit ioba c.args.len done pieces rest piece less p.piece_is inv.touched
          (subst (λ k. Touches c.args.unit (ioba + (done + k)) (ioba + c.args.len) rest) size t));
      entries = subst (All (λ q. (first ≤ q.entry) × (q.entry < first + length c.push.new.self.items))) (sym c.push.ensures.items) (All-push (λ q. (first ≤ q.entry) × (q.entry < first + length c.push.new.self.items)) pieces piece (inside_more first (first + length pieces) (first + length c.push.new.self.items) pieces (omega (arith, longer)) inv.entries) here);
      granted = rw c.push.ensures.items (All-push (IsGranted (values_of new.rows) c.args.right) pieces piece (granted_still (values_of seat.rows) (values_of new.rows) first (first + length pieces) same c.args.right pieces inv.entries inv.granted) p.granted);
      last = rw c.push.ensures.items (All-push (IsLast (values_of new.rows)) pieces piece (last_still (values_of seat.rows) (values_of new.rows) first (first + length pieces) same pieces inv.entries inv.last) p.last);
      pages = rw c.push.ensures.items (All-push (λ q. q.page < n) pieces piece inv.pages p.page);
      usable = λ some. subst (λ k. (e : ℕ) → first ≤ e → e * 4096 < ioba + (done + k) → (e < n) × MayUse (values_of new.rows) c.args.right e) (sym size)
          (usable_more (values_of new.rows) c.args.right n ioba done piece.len usable inside p.usable bytes.entry);
    }

pub returns-in-Err-clause-err : goal.returns-in-Err-clause-err
returns-in-Err-clause-err c =
    let fault = c.in-Err.fault in
    let ioba = c.args.ioba in
    let done = c.loop-done.done in
    let n = c.args.entries.now.count in
    let inv = c.loop-done.invariant in
    let pieces : List Piece = c.loop-done.pieces.items in
    let first : ℕ = ioba / 4096 in
    let old = c.args.seat.now in
    let seat = c.loop-done.seat in
    let new = c.pin_piece.new.seat in
    let end = c.unpin_all.new.seat in
    let less : done < c.args.len = search rules in
    let from : c.from-in-loop-done.result ≡ done = search rules in
    let r : RefusesPiece n c.args.right (ioba + done) seat fault new = subst (λ k. RefusesPiece n c.args.right (ioba + k) seat fault new) from c.in-Err.ensures.err in
    let at : (ioba + done) / 4096 ≡ first + length pieces = sym (inv.count less) in
    let up : PinsUpTo old first (length pieces + pinned_by fault) new = pins_for old seat new fault ((ioba + done) / 4096) first (length pieces) inv.pins r.pins at in
    let rel = c.unpin_all.ensures in
    let left = rel.left in
    let held = up.count_is in
    let len = c.len.ensures.value in
    let pins = c.pins_of.ensures in
    let pinned : (i : ℕ) → first ≤ i → i < first + length pieces → IsPinned seat i = λ i low high. let from_is = inv.pins.from (omega (arith, low, high)) in let count = inv.pins.count_is in (omega (arith, low, from_is), omega (arith, high, from_is, count)) in
    let same : (i : ℕ) → first ≤ i → i < first + length pieces → values_of new.rows i ≡ values_of seat.rows i = λ i low high. cause_of c.args.right n ((ioba + done) / 4096) old seat new fault r.pins i (pinned i low high) in
    let before : (entry : ℕ) → entry ≡ (ioba + done) / 4096 → AreUsable (values_of new.rows) c.args.right n first entry
    = λ entry e q low high. let u = inv.usable (omega (arith, e, low, high)) q low (omega (arith, e, high)) in (u.0, usable_still (values_of seat.rows) (values_of new.rows) first (first + length pieces) same c.args.right q low (omega (arith, e, high, at)) u.1) in
    record {
      pins = record {
        known = subst (Begins old.rows) (sym rel.rows) up.known;
        own = λ t. rel.rows ∙ up.own t;
        from = λ some. absurd (omega (arith, some));
        count_is = omega (arith, left, held, len, pins);
        table = rel.table ∙ up.table;
        owns = rel.owns ∙ up.owns;
      };
      cause = subst (λ (rows : List TceRow). IsRefused (values_of rows) c.args.right n ioba c.args.len fault) (sym rel.rows) (refused_at fault (values_of new.rows) c.args.right n ioba c.args.len done less before r.cause);
      entry = of_entry fault (values_of new.rows) c.args.right n ((ioba + done) / 4096) r.cause;
    }
