-- The rows read so far, and what is behind them, are the text.
use Rattle.std.proofs.Common.{◌≡◌, ◌≤◌, ◌-◌, ◌++◌, All, length}
use Rattle.std.specs.Prelude.{flat_map}
use Rattle.vio_trace.proofs.read_rows.read_counted.Given as goal

abbrev pub invariant-loop-read : goal.invariant-loop-read
invariant-loop-read g l = record {
  rows : All g.K.Line.fits l.rows;
  text : l.fn.text ≡ flat_map g.K.Line.text l.rows ++ l.rest;
  count : length l.rows ≡ l.read;
  some : l.read ≤ l.count;
  shorter : length l.rest ≤ length l.fn.text;
}

abbrev pub decreases-loop-read : goal.decreases-loop-read
decreases-loop-read g l = l.count - l.read
