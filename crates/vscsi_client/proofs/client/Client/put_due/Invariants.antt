use Rattle.std.proofs.Common.{◌≡◌, ◌≤◌, false, length}
use Rattle.tce_window.specs.PortState.{OnlyWrites}
use Rattle.vscsi_client.specs.Frames.{KeepsEnd}
use Rattle.vscsi_client.specs.Ports.{ports}
use Rattle.vscsi_client.specs.Turned.{site, begins}
use Rattle.vscsi_client.specs.TurnParts.{Went}
use Rattle.vscsi_client.proofs.client.Client.put_due.Given as goal

abbrev pub invariant-loop-due : goal.invariant-loop-due
invariant-loop-due g l = record {
  begun : begins l.self ≡ false;
  held : l.self.held ≡ l.fn.self.held;
  pages : 14 ≤ (g.O.WindowPort.state l.own).place.size;
  went : Went l.fn.line 2
      (site l.fn.self (ports g.C.CrqEnd.is_shared (g.C.CrqEnd.state l.fn.crq) g.O.WindowPort.is_shared (g.O.WindowPort.state l.fn.own)))
      (site l.self (ports g.C.CrqEnd.is_shared (g.C.CrqEnd.state l.crq) g.O.WindowPort.is_shared (g.O.WindowPort.state l.own))) 0;
  crq : KeepsEnd g.C.CrqEnd.is_shared (g.C.CrqEnd.state l.fn.crq) (g.C.CrqEnd.state l.crq);
  own : OnlyWrites (g.O.WindowPort.state l.fn.own) (g.O.WindowPort.state l.own);
}

abbrev pub decreases-loop-due : goal.decreases-loop-due
decreases-loop-due g l = length l.self.due
