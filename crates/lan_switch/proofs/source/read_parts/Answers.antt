use Rattle.std.proofs.Common.{rules, ◌≡◌, ◌≤◌, ◌<◌, ◌+◌, ◌-◌, ◌++◌, ◌∷◌, [], ℕ, List, length, take, drop, get_or, arith, sym, ◌∙◌, ap, subst}
use Rattle.std.proofs.lemmas.Slice.{take-put_mid}
use borrow.Rule.Slice.PartMut.{put_mid}
use Rattle.tce_window.specs.declared.piece.Piece.{Piece}
use Rattle.lan_buffers.specs.Buffer.{buffer_address, buffer_len}
use Rattle.lan_switch.specs.Source.{AreRead, parts_len}
use Rattle.lan_switch.proofs.Gathering.{gets, parts_from, read_next, reads_since, refused_since, still_read, take_next, through_on}
use Rattle.lan_switch.proofs.source.read_parts.Goals as goal

pub loop-part-preserved : goal.loop-part-preserved
loop-part-preserved g c =
    let shared = g.G.WindowPort.is_shared in
    let old = g.G.WindowPort.state c.args.window.now in
    let mid = g.G.WindowPort.state c.loop-part.window in
    let new = g.G.WindowPort.state c.read_part.new.window in
    let parts : List ℕ = c.args.parts.now in
    let i = c.loop-part.part-index in
    let part = get_or parts i 0 in
    let less : i < length parts = search rules in
    let inv = c.loop-part.invariant in
    let reads = c.in-Ok.ensures.read in
    let split : parts_len (drop i parts) ≡ buffer_len part + parts_len (drop (i + 1) parts) = parts_from parts i 0 less in
    record {
      same = search rules;
      within = omega (arith, inv.within, split, c.buffer_len.ensures.length);
      few = omega (arith, inv.few, c.read_part.ensures.few);
      read =
          subst (λ (l : List ℕ). AreRead old new l c.read_part.new.from.items
          (take (c.loop-part.done + c.buffer_len.result) (put_mid c.loop-part.done (c.loop-part.done + c.buffer_len.result - c.loop-part.done) c.loop-part.frame c.read_part.new.bytes)))
          (sym (take_next parts i 0 less))
          (subst (λ (bytes : List ℕ). AreRead old new (take i parts ++ part ∷ []) c.read_part.new.from.items bytes)
          (sym (take-put_mid c.loop-part.done _ c.loop-part.frame c.read_part.new.bytes (c.loop-part.done + c.buffer_len.result) (search rules) (search rules)))
          (subst (λ (l : List Piece). AreRead old new (take i parts ++ part ∷ []) l (take c.loop-part.done c.loop-part.frame ++ c.read_part.new.bytes)) (sym reads.added)
          (read_next old new (take i parts) part c.loop-part.from.items reads.pieces (take c.loop-part.done c.loop-part.frame) c.read_part.new.bytes
          (still_read shared old mid new (take i parts) c.loop-part.from.items (take c.loop-part.done c.loop-part.frame) c.read_part.ensures.window inv.read)
          (search rules)
          (reads_since shared old mid new (buffer_address part) reads.pieces c.read_part.new.bytes inv.window reads.reads))));
      window = through_on shared old mid new inv.window c.read_part.ensures.window;
      counts = c.in-Ok.ensures.counts ∙ inv.counts;
    }

pub returns-in-Err-clause-refused : goal.returns-in-Err-clause-refused
returns-in-Err-clause-refused g c =
    let shared = g.G.WindowPort.is_shared in
    let old = g.G.WindowPort.state c.args.window.now in
    let mid = g.G.WindowPort.state c.loop-part.window in
    let new = g.G.WindowPort.state c.read_part.new.window in
    let inv = c.loop-part.invariant in
    record {
      number = c.loop-part.part-index;
      part = get_or c.args.parts.now c.loop-part.part-index 0;
      is = gets c.args.parts.now c.loop-part.part-index 0 (search rules);
      refused = refused_since shared (λ page word. g.G.GuestPort.found c.read_part.new.window page word) old mid new _ _ c.in-Err.fault inv.window c.in-Err.ensures.refused;
      pieces = c.loop-part.from.items;
      bytes = take c.loop-part.done c.loop-part.frame;
      before = still_read shared old mid new (take c.loop-part.part-index c.args.parts.now) c.loop-part.from.items (take c.loop-part.done c.loop-part.frame)
          c.read_part.ensures.window inv.read;
    }
