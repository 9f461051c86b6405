use Rattle.std.proofs.Common.{◌≡◌, ℕ, ◌+◌, All, List, Option, ◌++◌, length, sym, ap, subst, ◌∙◌, rules}
use Rattle.page_slots.specs.Stroke.{StrokeValue}
use Rattle.tce_window.specs.declared.answers.Right.TheVariants.{Write}
use Rattle.tce_window.specs.Pieces.{IsGranted, IsLast, Touches}
use Rattle.tce_window.specs.Held.{held_strokes, joined}
use Rattle.tce_window.specs.Moved.{piece_strokes, places_on, stroke_count, IsLaid, IsWrittenTo}
use Rattle.tce_window.proofs.Laws.{numbered_last}
use Rattle.rdma_copy.proofs.Copied.{may_hold}
use Rattle.rdma_copy.proofs.Holding.{behind, Written, laid_on, written_back, places_laid, nothing_since}
use Rattle.rdma_copy.proofs.copy.copy_held.Goals as goal

pub returns-in-Ok-copied-clause-copied : goal.returns-in-Ok-copied-clause-copied
returns-in-Ok-copied-clause-copied g c =
    let held = c.in-Ok.held in
    let shared = g.D.WindowPort.is_shared in
    let dst = g.D.WindowPort.state c.args.dst.now in
    let mid = g.D.WindowPort.state c.hold.new.self in
    let dst' = g.D.WindowPort.state c.give_back.new.self in
    let after : ℕ → Option (List StrokeValue) = held_strokes c.write_held-copied.new.target.pages in
    let bytes : List ℕ = joined c.args.source.now.pages c.args.source.now.pieces in
    let long : length bytes ≡ c.args.len = c.in-Ok-copied.ensures.written.bytes ∙ c.requires.source in
    let kept : dst'.place.unit ≡ dst.place.unit = ap (λ place. place.unit) (c.give_back.ensures.rest.place ∙ c.hold.ensures.rest.place) in
    let placed : c.in-Ok-copied.copy.to.items ≡ behind (held_strokes held.pages) held.pieces = c.in-Ok-copied.ensures.record.to_is ∙ c.in-Ok-copied.ensures.written.pieces in
    let touched : Touches dst.place.unit c.args.d_ioba (c.args.d_ioba + length bytes) held.pieces =
    subst (λ len. Touches dst.place.unit c.args.d_ioba (c.args.d_ioba + len) held.pieces) (sym long) c.in-Ok.ensures.ok.touched in
    let granted : All (IsGranted dst'.values Write) held.pieces =
    subst (λ v. All (IsGranted v Write) held.pieces) (sym (c.give_back.ensures.rest.values)) c.in-Ok.ensures.ok.granted in
    let last : All (IsLast dst'.values) held.pieces =
    subst (λ v. All (IsLast v) held.pieces) (sym (c.give_back.ensures.rest.values)) c.in-Ok.ensures.ok.last in
    let laid : Written shared c.args.name bytes held.pieces dst.strokes (held_strokes held.pages) mid.strokes after dst'.strokes = record {
      taken = c.in-Ok.ensures.ok.taken;
      on = c.in-Ok.ensures.ok.pages;
      there = c.in-Ok.ensures.ok.strokes;
      laid = c.in-Ok-copied.ensures.written.strokes;
      back = c.give_back.ensures.strokes;
    } in
    record {
      name_is = c.in-Ok-copied.ensures.record.name_is;
      len_is = c.in-Ok-copied.ensures.record.len_is;
      long = long;
      from = c.in-Ok-copied.ensures.record.from_is;
      written = subst (λ list. IsWrittenTo dst'.place.unit dst'.values dst'.strokes c.args.d_ioba c.args.name list bytes) (sym placed)
          (subst (λ unit. IsWrittenTo unit dst'.values dst'.strokes c.args.d_ioba c.args.name (behind (held_strokes held.pages) held.pieces) bytes) (sym kept)
          (written_back shared dst.place.unit dst'.values c.args.d_ioba c.args.name bytes held.pieces dst.strokes (held_strokes held.pages) mid.strokes after dst'.strokes laid touched granted));
      last = subst (λ list. All (IsLast dst'.values) list) (sym placed) (numbered_last (λ p. stroke_count (held_strokes held.pages p)) dst'.values held.pieces last);
      laid = subst (λ list. (p : ℕ) → IsLaid shared p list (piece_strokes c.args.name bytes list) (dst.strokes p) (dst'.strokes p)) (sym placed)
          (laid_on shared c.args.name bytes held.pieces dst.strokes (held_strokes held.pages) mid.strokes after dst'.strokes laid);
      places = λ is p. subst (λ list. dst'.laid p ≡ dst.laid p ++ places_on p list) (sym placed)
          (places_laid shared c.args.name bytes held.pieces dst.strokes (held_strokes held.pages) mid.strokes after dst'.strokes laid
          p mid.taken (dst.laid p) (mid.laid p) (dst'.laid p) (c.in-Ok.ensures.ok.counted is p) (c.hold.ensures.nothing is p) (c.give_back.ensures.laid is p));
    }

pub returns-in-Ok-copied-clause-held : goal.returns-in-Ok-copied-clause-held
returns-in-Ok-copied-clause-held g c =
    may_hold (g.D.WindowPort.state c.hold.new.self).values ((g.D.WindowPort.state c.args.dst.now).place.size) (g.D.WindowPort.state c.give_back.new.self) Write c.args.d_ioba c.args.len c.give_back.ensures.rest.values
    (ap (λ place. place.size) (c.give_back.ensures.rest.place ∙ c.hold.ensures.rest.place)) c.in-Ok.ensures.ok.usable

pub returns-in-Err-copied-clause-held : goal.returns-in-Err-copied-clause-held
returns-in-Err-copied-clause-held g c =
    may_hold (g.D.WindowPort.state c.hold.new.self).values ((g.D.WindowPort.state c.args.dst.now).place.size) (g.D.WindowPort.state c.give_back.new.self) Write c.args.d_ioba c.args.len c.give_back.ensures.rest.values
    (ap (λ place. place.size) (c.give_back.ensures.rest.place ∙ c.hold.ensures.rest.place)) c.in-Ok.ensures.ok.usable

pub returns-in-Err-copied-clause-refused : goal.returns-in-Err-copied-clause-refused
returns-in-Err-copied-clause-refused g c =
    let held = c.in-Ok.held in
    record {
      strokes = search rules;
      laid = λ shared p.
          nothing_since p (held_strokes held.pages) (held_strokes c.write_held-copied.new.target.pages) (g.D.WindowPort.state c.hold.new.self).taken
          ((g.D.WindowPort.state c.args.dst.now).laid p) ((g.D.WindowPort.state c.hold.new.self).laid p) ((g.D.WindowPort.state c.give_back.new.self).laid p)
          (c.in-Ok.ensures.ok.counted shared p) (c.in-Err-copied.ensures.err.strokes p) (c.hold.ensures.nothing shared p) (c.give_back.ensures.laid shared p);
    }
