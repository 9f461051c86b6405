use Rattle.std.proofs.Common.{◌≡◌, Err, rules}
use Rattle.vio_trace.proofs.Passing.{passed_both, stops, then_passed}
use Rattle.vio_trace.proofs.write.pass_windows.Goals as goal

pub returns-in_err-pass_all : goal.returns-in_err-pass_all
returns-in_err-pass_all g c =
    let e = c.in_err-pass_all.field-0.0 in
    let now = c.pass_all.new.gathered.items in
    let is : c.pass_all.result ≡ Err e = search rules in
    let same : c.pass_all.result ≡ c.from_residual.result = search rules in
    rw (← same, ← c.as_slice.ensures) (stops e c.pass_all.result is _ _ _ _ _ _ _ now now (stops e c.pass_all.result is _ _ _ _ _ _ _ now now c.pass_all.ensures))

pub returns-in_err-pass_all-2 : goal.returns-in_err-pass_all-2
returns-in_err-pass_all-2 g c =
    let e = c.in_err-pass_all-2.field-0.0 in
    let now = c.pass_all-2.new.gathered.items in
    let is : c.pass_all-2.result ≡ Err e = search rules in
    let same : c.pass_all-2.result ≡ c.from_residual-in_err-pass_all-2.result = search rules in
    rw (← same, ← c.as_slice.ensures, ← c.as_slice-2.ensures) (stops e c.pass_all-2.result is _ _ _ _ _ _ _ now now (then_passed c.pass_all-2.result _ _ _ _ _ _ _ _ _ _ _ c.in_ok-pass_all.ensures c.pass_all-2.ensures))

pub returns : goal.returns
returns g c = rw (← c.as_slice.ensures, ← c.as_slice-2.ensures, ← c.as_slice-3.ensures) (then_passed c.pass_all-3.result _ _ _ _ _ _ _ _ _ _ _ (passed_both _ _ _ _ _ _ _ _ _ _ _ c.in_ok-pass_all.ensures c.in_ok-pass_all-2.ensures) c.pass_all-3.ensures)
