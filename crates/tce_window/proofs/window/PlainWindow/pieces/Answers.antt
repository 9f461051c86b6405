-- Each step adds the piece of the next entry.
use Rattle.std.proofs.Common.{◌≡◌, ℕ, ◌+◌, ◌-◌, ◌*◌, ◌/◌, ◌^◌, ◌<◌, ◌≤◌, [], ◌∷◌, List, ◌∙◌, Err, length, subst, sym, ap, add-zero, append-nil, length-append, rules, arith}
use Rattle.std.proofs.lemmas.List.Elements.{All-nil, All-push}
use Rattle.tce_window.specs.Pieces.{Touches, IsPieceAt, IsGranted, IsLast, HasStrokes, MayUse, AreUsable, IsRefusedAt}
use Rattle.tce_window.specs.Grant.{values_of}
use Rattle.tce_window.specs.Window.{strokes_at}
use Rattle.tce_window.proofs.Piecing.{refused_at, of_entry, touches_more, usable_more, piece_bytes, piece_len, bytes_aligned}
use Rattle.tce_window.proofs.window.PlainWindow.pieces.Goals as goal

pub loop-done-init : goal.loop-done-init
loop-done-init c = record {
  within = omega arith;
  near = λ some. absurd (omega (arith, some));
  aligned = λ some. absurd (omega (arith, some));
  count = λ less. rw c.new-pieces.ensures (omega arith);
  some = λ some. absurd (omega (arith, some));
  inside = λ some. absurd (omega (arith, some));
  touched = λ rest t. rw c.new-pieces.ensures (subst (λ from. Touches c.args.self.now.unit from (c.args.ioba + c.args.len) rest) (add-zero c.args.ioba) t);
  granted = rw c.new-pieces.ensures (All-nil (IsGranted (values_of c.args.self.now.rows) c.args.right));
  last = rw c.new-pieces.ensures (All-nil (IsLast (values_of c.args.self.now.rows)));
  strokes = rw c.new-pieces.ensures (All-nil (λ piece. HasStrokes piece (strokes_at c.args.self.now.pages piece.page)));
  usable = λ some. absurd (omega (arith, some));
}

pub returns-clause-ok : goal.returns-clause-ok
returns-clause-ok c = record {
  touched = subst (Touches c.args.self.now.unit c.args.ioba (c.args.ioba + c.args.len)) (append-nil c.loop-done.pieces.items) (c.loop-done.invariant.touched [] (omega arith));
  granted = c.loop-done.invariant.granted;
  last = c.loop-done.invariant.last;
  strokes = c.loop-done.invariant.strokes;
  usable = λ e low high. c.loop-done.invariant.usable (omega arith) e low (omega (arith, high));
  inside = c.loop-done.invariant.inside (omega arith);
  some = c.loop-done.invariant.some (omega arith);
}

pub loop-done-preserved : goal.loop-done-preserved
loop-done-preserved c =
    let piece = c.in_ok-piece.piece in
    let size : c.from-done.result ≡ piece.len = search rules in
    let less : c.loop-done.done < c.args.len = search rules in
    let from : c.from.result ≡ c.loop-done.done = search rules in
    let here : IsPieceAt c.args.self.now.unit (c.args.ioba + c.loop-done.done) (c.args.ioba + c.loop-done.done + (c.args.len - c.loop-done.done)) piece =
    subst (λ k. IsPieceAt c.args.self.now.unit (c.args.ioba + k) (c.args.ioba + k + (c.args.len - c.loop-done.done)) piece) from c.in_ok-piece.ensures.ok.piece_is
    in
    let inside : (c.args.ioba + c.loop-done.done) / 4096 < length c.args.self.now.pages = subst (λ k. (c.args.ioba + k) / 4096 < length c.args.self.now.pages) from c.in_ok-piece.ensures.ok.inside in
    let near : c.args.ioba + c.loop-done.done < 2 ^ 20 = subst (λ k. c.args.ioba + k < 2 ^ 20) from c.in_ok-piece.ensures.near in
    let bytes : piece_bytes (c.args.ioba + c.loop-done.done) (c.args.len - c.loop-done.done) piece.len = piece_len _ (c.args.ioba + c.loop-done.done) (c.args.len - c.loop-done.done) piece here (omega (arith, less)) in
    let longer : length c.push.new.self.items ≡ length c.loop-done.pieces.items + 1 = ap length c.push.ensures.items ∙ length-append c.loop-done.pieces.items (piece ∷ []) in
    record {
      within = omega (arith, bytes.within, size, less);
      near = λ some. omega (arith, near);
      aligned = λ some more. bytes_aligned (c.args.ioba) c.loop-done.done c.args.len piece.len c.from-done.result size bytes more;
      count = λ more. omega (arith, longer, bytes_aligned (c.args.ioba) c.loop-done.done c.args.len piece.len c.from-done.result size bytes more, bytes.entry, bytes.some, size, c.loop-done.invariant.count less);
      some = λ some. omega (arith, longer);
      inside = λ some. omega (arith, longer, inside, c.loop-done.invariant.count less);
      touched = λ rest t.
          rw c.push.ensures.items (touches_more c.args.self.now.unit c.args.ioba c.args.len c.loop-done.done c.loop-done.pieces.items rest piece less here c.loop-done.invariant.touched
          (subst (λ k. Touches c.args.self.now.unit (c.args.ioba + (c.loop-done.done + k)) (c.args.ioba + c.args.len) rest) size t));
      granted = rw c.push.ensures.items (All-push (IsGranted (values_of c.args.self.now.rows) c.args.right) c.loop-done.pieces.items piece c.loop-done.invariant.granted c.in_ok-piece.ensures.ok.granted);
      last = rw c.push.ensures.items (All-push (IsLast (values_of c.args.self.now.rows)) c.loop-done.pieces.items piece c.loop-done.invariant.last c.in_ok-piece.ensures.ok.last);
      strokes = rw c.push.ensures.items (All-push (λ piece. HasStrokes piece (strokes_at c.args.self.now.pages piece.page)) c.loop-done.pieces.items piece c.loop-done.invariant.strokes c.in_ok-piece.ensures.ok.strokes);
      usable = λ some. subst (λ k. (e : ℕ) → c.args.ioba / 4096 ≤ e → e * 4096 < c.args.ioba + (c.loop-done.done + k) → (e < length c.args.self.now.pages) × MayUse (values_of c.args.self.now.rows) c.args.right e) (sym size)
          (usable_more (values_of c.args.self.now.rows) c.args.right (length c.args.self.now.pages) c.args.ioba c.loop-done.done piece.len c.loop-done.invariant.usable inside
          (subst (λ k. MayUse (values_of c.args.self.now.rows) c.args.right ((c.args.ioba + k) / 4096)) from c.in_ok-piece.ensures.ok.usable) bytes.entry);
    }

pub returns-in_err-piece-clause-cause : goal.returns-in_err-piece-clause-cause
returns-in_err-piece-clause-cause c =
    let same : c.from_residual.result ≡ Err c.in_err-piece.field-0.0 = search rules in
    let less : c.loop-done.done < c.args.len = search rules in
    let from : c.from.result ≡ c.loop-done.done = search rules in
    let values : ℕ → List ℕ = values_of c.args.self.now.rows in
    let n : ℕ = length c.args.self.now.pages in
    let at : ℕ = c.args.ioba + c.loop-done.done in
    let fault : IsRefusedAt values c.args.right n (at / 4096) c.in_err-piece.field-0.0 = search rules in
    let before : (entry : ℕ) → entry ≡ at / 4096 → AreUsable values c.args.right n (c.args.ioba / 4096) entry =
    λ entry e q low high. c.loop-done.invariant.usable (omega (arith, e, low, high)) q low (omega (arith, e, low, high))
    in
    rw same (refused_at c.in_err-piece.field-0.0 values c.args.right n c.args.ioba c.args.len c.loop-done.done less before fault)

pub returns-in_err-piece-clause-entry : goal.returns-in_err-piece-clause-entry
returns-in_err-piece-clause-entry c =
    let same : c.from_residual.result ≡ Err c.in_err-piece.field-0.0 = search rules in
    let values : ℕ → List ℕ = values_of c.args.self.now.rows in
    let n : ℕ = length c.args.self.now.pages in
    let at : ℕ = c.args.ioba + c.from.result in
    let fault : IsRefusedAt values c.args.right n (at / 4096) c.in_err-piece.field-0.0 = search rules in
    rw same (of_entry c.in_err-piece.field-0.0 values c.args.right n (at / 4096) fault)
