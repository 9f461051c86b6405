use Rattle.std.proofs.Common.{◌≡◌, ℕ, ◌/◌, All, List, length, sym, subst, ◌∙◌}
use Rattle.tce_window.specs.declared.answers.Right.TheVariants.{Write}
use Rattle.tce_window.specs.Pieces.{end_entry, AreUsable, IsGranted, IsLast}
use Rattle.tce_window.specs.Held.{held_strokes}
use Rattle.tce_window.specs.Moved.{stroke_count}
use Rattle.tce_window.proofs.Laws.{numbered_last}
use Rattle.rdma_copy.proofs.Laws.{behind, Written, laid_on, written_back, places_laid}
use Rattle.lan_buffers.specs.Calls.{FillsFrame}
use Rattle.lan_buffers.proofs.fill.write_frame.Goals as goal

pub returns-in-Ok-written-clause-written : goal.returns-in-Ok-written-clause-written
returns-in-Ok-written-clause-written g c =
    let held = c.in-Ok.held in
    let unit = (g.G.WindowPort.state c.args.window.now).place.unit in
    let bytes : List ℕ = c.args.frame.now in
    let values : ℕ → List ℕ = (g.G.WindowPort.state c.give_back-2.new.self).values in
    let placed : c.copied_pieces-to.result.items ≡ behind (held_strokes held.pages) held.pieces = c.copied_pieces-to.ensures ∙ c.pieces.ensures.pieces ∙ c.in-Ok-written.ensures.pieces in
    let granted : All (IsGranted values Write) held.pieces =
    subst (λ v. All (IsGranted v Write) held.pieces) (sym (c.give_back-2.ensures.rest.values)) c.in-Ok.ensures.ok.granted in
    let last : All (IsLast values) held.pieces =
    subst (λ v. All (IsLast v) held.pieces) (sym (c.give_back-2.ensures.rest.values)) c.in-Ok.ensures.ok.last in
    let laid : Written g.G.WindowPort.is_shared c.args.name bytes held.pieces (g.G.WindowPort.state c.args.window.now).strokes (held_strokes held.pages)
    (g.G.WindowPort.state c.hold.new.self).strokes (held_strokes c.write-written.new.self.pages) (g.G.WindowPort.state c.give_back-2.new.self).strokes = record {
      taken = c.in-Ok.ensures.ok.taken;
      on = c.in-Ok.ensures.ok.pages;
      there = c.in-Ok.ensures.ok.strokes;
      laid = c.in-Ok-written.ensures.strokes;
      back = c.give_back-2.ensures.strokes;
    } in
    subst (λ list. FillsFrame g.G.WindowPort.is_shared (g.G.WindowPort.state c.args.window.now) (g.G.WindowPort.state c.give_back-2.new.self) c.args.at c.args.name bytes list) (sym placed)
    (record {
      written = written_back g.G.WindowPort.is_shared unit values c.args.at c.args.name bytes held.pieces (g.G.WindowPort.state c.args.window.now).strokes (held_strokes held.pages)
          (g.G.WindowPort.state c.hold.new.self).strokes (held_strokes c.write-written.new.self.pages) (g.G.WindowPort.state c.give_back-2.new.self).strokes laid c.in-Ok.ensures.ok.touched granted;
      last = numbered_last (λ p. stroke_count (held_strokes held.pages p)) values held.pieces last;
      usable = subst (λ v. AreUsable v Write ((g.G.WindowPort.state c.args.window.now).place.size) (c.args.at / 4096) (end_entry c.args.at (length bytes)))
          (sym (c.give_back-2.ensures.rest.values)) c.in-Ok.ensures.ok.usable;
      laid = laid_on g.G.WindowPort.is_shared c.args.name bytes held.pieces (g.G.WindowPort.state c.args.window.now).strokes (held_strokes held.pages)
          (g.G.WindowPort.state c.hold.new.self).strokes (held_strokes c.write-written.new.self.pages) (g.G.WindowPort.state c.give_back-2.new.self).strokes laid;
      places = λ shared p. places_laid g.G.WindowPort.is_shared c.args.name bytes held.pieces (g.G.WindowPort.state c.args.window.now).strokes (held_strokes held.pages)
          (g.G.WindowPort.state c.hold.new.self).strokes (held_strokes c.write-written.new.self.pages) (g.G.WindowPort.state c.give_back-2.new.self).strokes laid
          p (g.G.WindowPort.state c.hold.new.self).taken ((g.G.WindowPort.state c.args.window.now).laid p) ((g.G.WindowPort.state c.hold.new.self).laid p) ((g.G.WindowPort.state c.give_back-2.new.self).laid p)
          (c.in-Ok.ensures.ok.counted shared p) (c.hold.ensures.nothing shared p) (c.give_back-2.ensures.laid shared p);
    })
