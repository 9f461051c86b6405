use Rattle.std.proofs.Common.{◌≡◌, ℕ, ◌≤◌, None}
use Rattle.tce_window.specs.PortState.{OnlyWrites}
use Rattle.vscsi_client.specs.Frames.{KeepsEnd}
use Rattle.vscsi_client.specs.Ports.{ports}
use Rattle.vscsi_client.specs.Turned.{site}
use Rattle.vscsi_client.specs.TurnParts.{Went}
use Rattle.vscsi_client.proofs.client.Client.take_more.Given as goal

abbrev pub invariant-loop-taken : goal.invariant-loop-taken
invariant-loop-taken g l = record {
  held : l.self.held ≡ None;
  pages : 14 ≤ (g.O.WindowPort.state l.own).place.size;
  went : (line : ℕ) → Went line 1
      (site l.fn.self (ports g.C.CrqEnd.is_shared (g.C.CrqEnd.state l.fn.crq) g.O.WindowPort.is_shared (g.O.WindowPort.state l.fn.own)))
      (site l.self (ports g.C.CrqEnd.is_shared (g.C.CrqEnd.state l.crq) g.O.WindowPort.is_shared (g.O.WindowPort.state l.own))) l._taken;
  crq : KeepsEnd g.C.CrqEnd.is_shared (g.C.CrqEnd.state l.fn.crq) (g.C.CrqEnd.state l.crq);
  own : OnlyWrites (g.O.WindowPort.state l.fn.own) (g.O.WindowPort.state l.own);
}
