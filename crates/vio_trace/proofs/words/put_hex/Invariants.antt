-- The text so far, with the digits of the bytes that are left, is the whole.
use Rattle.std.proofs.Common.{◌≡◌, ◌++◌}
use Rattle.std.specs.Slice.Iter.{chunks_rest, chunks_size}
use Rattle.hex.specs.Hex.{encode_lower}
use Rattle.vio_trace.proofs.words.put_hex.Given as goal

abbrev pub invariant-loop-piece : goal.invariant-loop-piece
invariant-loop-piece l =
    (chunks_size l.piece-iterator ≡ 32) × (l.buffer.items ++ encode_lower (chunks_rest l.piece-iterator) ≡ l.initial.buffer.items ++ encode_lower l.fn.bytes)
