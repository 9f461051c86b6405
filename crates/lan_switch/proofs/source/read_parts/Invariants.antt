use Rattle.std.proofs.Common.{◌≡◌, ◌≤◌, ◌+◌, ◌*◌, drop, length, take}
use Rattle.arrayvec.specs.ArrayVec.{array_vec_len}
use Rattle.lan_switch.specs.Source.{AreRead, OnlyReadThrough, parts_len}
use Rattle.lan_switch.proofs.source.read_parts.Given as goal

abbrev pub invariant-loop-part : goal.invariant-loop-part
invariant-loop-part g l = record {
  same : length l.frame ≡ length l.fn.frame;
  within : l.done + parts_len (drop l.part-index l.parts) ≡ length l.fn.frame;
  few : array_vec_len l.from ≤ l.part-index * 17;
  read : AreRead (g.G.WindowPort.state l.fn.window) (g.G.WindowPort.state l.window) (take l.part-index l.parts) l.from.items (take l.done l.frame);
  window : OnlyReadThrough g.G.WindowPort.is_shared (g.G.WindowPort.state l.fn.window) (g.G.WindowPort.state l.window);
  counts : (g.G.WindowPort.state l.window).in_use ≡ (g.G.WindowPort.state l.fn.window).in_use;
}
