use Rattle.std.proofs.Common.{◌++◌, sym, ◌∙◌, ap, append_assoc}
use Rattle.std.specs.Slice.Iter.{chunks_rest}
use Rattle.hex.specs.Hex.{encode_lower}
use Rattle.vio_trace.proofs.Digits.{encode_lower-append, all_written}
use Rattle.vio_trace.proofs.words.put_hex.Goals as goal

pub loop-piece-preserved : goal.loop-piece-preserved
loop-piece-preserved c =
    let steps = c.in-Some.ensures.steps in
    let inv = c.loop-piece.invariant in
    let piece = c.in-Some.piece.now in
    let rest = chunks_rest c.next.new.self in (
      steps.0 ∙ inv.0,
      ap (λ text. text ++ encode_lower rest) c.in_ok-put_piece.ensures
          ∙ append_assoc c.loop-piece.buffer.items (encode_lower piece) (encode_lower rest)
          ∙ ap (λ text. c.loop-piece.buffer.items ++ text) (sym (encode_lower-append piece rest))
          ∙ ap (λ bytes. c.loop-piece.buffer.items ++ encode_lower bytes) (sym steps.1.0)
          ∙ inv.1,
    )

pub returns : goal.returns
returns c = all_written _ _ (chunks_rest c.loop-piece.piece-iterator) c.in-None.ensures.steps.1.0 c.loop-piece.invariant.1
