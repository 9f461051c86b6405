use Rattle.std.proofs.Common.{◌≡◌, ◌+◌, vec_len}
use Rattle.lan_script.specs.LineFrame.{line_frame}
use Rattle.lan_script.proofs.sending.frame_bytes.Given as goal

abbrev pub invariant-loop-i : goal.invariant-loop-i
invariant-loop-i l = record {
  long : vec_len l.bytes ≡ 14 + l.i;
  filled : l.bytes.items ≡ line_frame l.fn.to l.fn.from l.i l.seed;
}
