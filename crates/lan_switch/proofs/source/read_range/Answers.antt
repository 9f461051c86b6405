use Rattle.std.proofs.Common.{◌≡◌, ℕ, ◌+◌, ◌≤◌, All, List, IsSome, length, arith, refl, sym, subst, ◌∙◌, ap}
use Rattle.std.proofs.lemmas.List.Elements.{All-weaker}
use Rattle.tce_window.specs.declared.answers.Right.TheVariants.{Read}
use Rattle.tce_window.specs.declared.piece.Piece.{Piece}
use Rattle.tce_window.specs.Pieces.{HasStrokes, IsGranted, IsLast, Touches}
use Rattle.tce_window.specs.Held.{held_strokes, joined}
use Rattle.tce_window.specs.Moved.{stroke_count}
use Rattle.tce_window.proofs.Laws.{read_from}
use Rattle.rdma_copy.proofs.Laws.{held_back}
use Rattle.lan_switch.specs.Source.{Reads}
use Rattle.lan_switch.proofs.Gathering.{all_known, last_known}
use Rattle.lan_switch.proofs.source.read_range.Goals as goal

pub returns-clause-read : goal.returns-clause-read
returns-clause-read g c =
    let held = c.in_ok-held.held in
    let shared = g.G.WindowPort.is_shared in
    let old = g.G.WindowPort.state c.args.window.now in
    let mid = g.G.WindowPort.state c.hold.new.self in
    let new = g.G.WindowPort.state c.give_back.new.self in
    let ok = c.in_ok-held.ensures.ok in
    let bytes : List ℕ = joined held.pages held.pieces in
    let long : length bytes ≡ length c.args.bytes.now = omega (arith, ap (λ (l : List ℕ). length l) c.read.ensures) in
    let touched : Touches old.place.unit c.args.at (c.args.at + length bytes) held.pieces =
    subst (λ n. Touches old.place.unit c.args.at (c.args.at + n) held.pieces) (sym long) ok.touched in
    let granted : All (IsGranted new.values Read) held.pieces =
    subst (λ v. All (IsGranted v Read) held.pieces) (sym c.give_back.ensures.rest.values) ok.granted in
    let same : (p : ℕ) → IsSome (held_strokes held.pages p) → new.strokes p ≡ held_strokes held.pages p = λ p some.
    c.give_back.ensures.strokes p ∙ held_back shared (old.strokes p) (held_strokes held.pages p) (mid.strokes p) (held_strokes held.pages p) (ok.taken p) some in
    let pieces : c.copied_pieces-pieces.result.items ≡ held.pieces = c.copied_pieces-pieces.ensures ∙ c.pieces.ensures.pieces in
    subst (λ (l : List Piece). Reads old new c.args.at l c.read.new.out) (sym pieces)
    (subst (λ (b : List ℕ). Reads old new c.args.at held.pieces b) (sym c.read.ensures) (record {
      read = read_from old.place.unit new.values new.strokes c.args.at held.pages held.pieces bytes touched granted ok.strokes same refl;
      all = All-weaker (λ piece. HasStrokes piece (held_strokes held.pages piece.page)) (λ piece. stroke_count (old.strokes piece.page) ≤ piece.at)
          (λ piece has. all_known shared piece (old.strokes piece.page) (held_strokes held.pages piece.page) (mid.strokes piece.page) has (ok.taken piece.page))
          held.pieces ok.strokes;
      last = All-weaker (IsLast mid.values) (λ piece. length (old.values piece.entry) ≤ piece.version + 1)
          (λ piece last. last_known shared piece old.values mid.values c.hold.ensures.rest.values last) held.pieces ok.last;
    }))
