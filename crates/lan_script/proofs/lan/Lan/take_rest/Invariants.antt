use Rattle.std.proofs.Common.{◌≡◌, ◌<◌, ◌≤◌}
use Rattle.vio_num.specs.declared.hypervisor.Moved.TheVariants.{Moved, Quiet}
use Rattle.lan_script.specs.PortCounts.{TakesSome}
use Rattle.lan_script.specs.Replayed.{SameReplays}
use Rattle.lan_script.specs.Resting.{SamePorts, entries_read_at}
use Rattle.lan_script.proofs.lan.Lan.take_rest.Given as goal

abbrev pub invariant-loop-entry : goal.invariant-loop-entry
invariant-loop-entry l = record {
  seats : l.self.seats ≡ l.fn.self.seats;
  frames : l.self.frames ≡ l.fn.self.frames;
  replays : SameReplays l.fn.self l.self;
  places : l.self.places ≡ l.fn.self.places;
  taken : TakesSome l.unit l.fn.self l.self;
  still : l.moved ≡ Quiet → SamePorts l.fn.self l.self;
  grown : entries_read_at l.fn.self l.unit ≤ entries_read_at l.self l.unit;
  more : l.moved ≡ Moved → entries_read_at l.fn.self l.unit < entries_read_at l.self l.unit;
  first : l.moved ≡ Quiet → l._entry ≡ 0;
}
