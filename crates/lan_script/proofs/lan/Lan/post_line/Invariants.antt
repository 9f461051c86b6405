use Rattle.std.proofs.Common.{◌≡◌, ◌≤◌, min}
use Rattle.lan_script.specs.Buffers.{AddsBuffers, line_buffers}
use Rattle.lan_script.specs.Correlators.{KeepsAddresses}
use Rattle.lan_script.specs.OwnMac.{SameSettings}
use Rattle.lan_script.specs.PortCounts.{CountsOn, counts}
use Rattle.lan_script.specs.PortReplay.{IsBufferLen, IsOn}
use Rattle.lan_script.specs.Regions.{LaysLine, RegionsGrow}
use Rattle.lan_script.specs.Replayed.{GrantsAll, HasPosted, ReplaysOn, SameBeside, replay_at}
use Rattle.lan_script.specs.Values.{NamesOwn, SameValues}
use Rattle.lan_script.proofs.lan.Lan.post_line.Given as goal

abbrev pub invariant-loop-posted : goal.invariant-loop-posted
invariant-loop-posted l = record {
  seats : l.self.seats ≡ l.fn.self.seats;
  frames : l.self.frames ≡ l.fn.self.frames;
  replays : l.done ≡ 0 → ReplaysOn l.unit (HasPosted l.len l.posted) l.fn.self l.self;
  first : l.done ≡ 0 → ((IsOn (replay_at l.fn.self l.unit) × IsBufferLen l.len) → ⊥) → l.posted ≡ 0;
  grants : GrantsAll l.fn.self l.unit → GrantsAll l.self l.unit;
  settings : SameSettings l.unit l.fn.self l.self;
  within : l.done ≡ 0 → l.posted ≤ l.count;
  beside : SameBeside l.unit l.fn.self l.self;
  values : SameValues l.fn.self l.self;
  regions : RegionsGrow l.fn.self l.self;
  marks : LaysLine l.unit l.mark l.fn.self l.self;
  addresses : NamesOwn l.fn.self l.unit → KeepsAddresses l.unit l.fn.self l.self;
  adds : AddsBuffers l.unit (line_buffers l.at l.len (min l.done l.count)) (line_buffers l.at l.len (min l.posted l.count)) l.fn.self l.self;
  counted : CountsOn l.unit (counts (min l.done l.count) 0) (counts (min l.posted l.count) 0) l.fn.self l.self;
}
