use Rattle.std.proofs.Common.{rules}
use Rattle.vio_trace.specs.Begun.{BeginsSome}
use Rattle.vio_trace.specs.Form.{IsInForm, IsNoText}
use Rattle.vio_trace.specs.Shared.{NoneShares}
use Rattle.vio_trace.specs.Text.{trace_text}
use Rattle.vio_trace.proofs.BegunTrace.{begins_line}
use Rattle.vio_trace.proofs.Counted.{none_has}
use Rattle.vio_trace.proofs.read.read_trace.Goals as goal

pub returns-in-Err-Bad-clause-line : goal.returns-in-Err-Bad-clause-line
returns-in-Err-Bad-clause-line c =
    let bad : NoneShares IsNoText c.args.bytes.now c.in-Err-Bad.left = search (rules, c.in-Err-Bad.ensures.bad) in
    none_has c.args.bytes.now c.in-Err-Bad.left c.line_at.result c.line_at.ensures bad

pub returns-in-Err-Bad-clause-before : goal.returns-in-Err-Bad-clause-before
returns-in-Err-Bad-clause-before c =
    let begun : BeginsSome trace_text IsInForm c.args.bytes.now c.in-Err-Bad.left = search (rules, c.in-Err-Bad.ensures.begun) in
    begins_line c.args.bytes.now c.in-Err-Bad.left c.line_at.result c.line_at.ensures begun
