use Rattle.std.proofs.Common.{◌≡◌, Err, codes, rules}
use Rattle.vio_trace.specs.Passing.{ports_text, served_text, windows_text}
use Rattle.vio_trace.proofs.Passing.{passed_both, stops, then_passed, unwritten, whole_text, written_all}
use Rattle.vio_trace.proofs.write.write_trace.Goals as goal

pub returns-in_err-pass : goal.returns-in_err-pass
returns-in_err-pass g c =
    let e = c.in_err-pass.field-0.0 in
    let now = c.pass.new.gathered.items in
    let is : c.pass.result ≡ Err e = search rules in
    let same : c.pass.result ≡ c.from_residual.result = search rules in
    rw (← same) (unwritten e c.pass.result is _ _ _ _ _ _ now _ c.new-gathered.ensures.items (whole_text c.args.trace.now) (stops e c.pass.result is _ _ _ _ _ _ (codes "end\n") now now (stops e c.pass.result is _ _ _ _ _ _ (windows_text c.args.trace.now) now now (stops e c.pass.result is _ _ _ _ _ _ (ports_text c.args.trace.now) now now (stops e c.pass.result is _ _ _ _ _ _ (served_text c.args.trace.now) now now c.pass.ensures)))))

pub returns-in_err-pass_served : goal.returns-in_err-pass_served
returns-in_err-pass_served g c =
    let e = c.in_err-pass_served.field-0.0 in
    let now = c.pass_served.new.gathered.items in
    let is : c.pass_served.result ≡ Err e = search rules in
    let same : c.pass_served.result ≡ c.from_residual-in_err-pass_served.result = search rules in
    rw (← same) (unwritten e c.pass_served.result is _ _ _ _ _ _ now _ c.new-gathered.ensures.items (whole_text c.args.trace.now) (stops e c.pass_served.result is _ _ _ _ _ _ (codes "end\n") now now (stops e c.pass_served.result is _ _ _ _ _ _ (windows_text c.args.trace.now) now now (stops e c.pass_served.result is _ _ _ _ _ _ (ports_text c.args.trace.now) now now (then_passed c.pass_served.result _ _ _ _ _ _ _ _ _ _ _ c.in_ok-pass.ensures c.pass_served.ensures)))))

pub returns-in_err-pass_ports : goal.returns-in_err-pass_ports
returns-in_err-pass_ports g c =
    let e = c.in_err-pass_ports.field-0.0 in
    let now = c.pass_ports.new.gathered.items in
    let is : c.pass_ports.result ≡ Err e = search rules in
    let same : c.pass_ports.result ≡ c.from_residual-in_err-pass_ports.result = search rules in
    rw (← same) (unwritten e c.pass_ports.result is _ _ _ _ _ _ now _ c.new-gathered.ensures.items (whole_text c.args.trace.now) (stops e c.pass_ports.result is _ _ _ _ _ _ (codes "end\n") now now (stops e c.pass_ports.result is _ _ _ _ _ _ (windows_text c.args.trace.now) now now (then_passed c.pass_ports.result _ _ _ _ _ _ _ _ _ _ _ (passed_both _ _ _ _ _ _ _ _ _ _ _ c.in_ok-pass.ensures c.in_ok-pass_served.ensures) c.pass_ports.ensures))))

pub returns-in_err-pass_windows : goal.returns-in_err-pass_windows
returns-in_err-pass_windows g c =
    let e = c.in_err-pass_windows.field-0.0 in
    let now = c.pass_windows.new.gathered.items in
    let is : c.pass_windows.result ≡ Err e = search rules in
    let same : c.pass_windows.result ≡ c.from_residual-in_err-pass_windows.result = search rules in
    rw (← same) (unwritten e c.pass_windows.result is _ _ _ _ _ _ now _ c.new-gathered.ensures.items (whole_text c.args.trace.now) (stops e c.pass_windows.result is _ _ _ _ _ _ (codes "end\n") now now (then_passed c.pass_windows.result _ _ _ _ _ _ _ _ _ _ _ (passed_both _ _ _ _ _ _ _ _ _ _ _ (passed_both _ _ _ _ _ _ _ _ _ _ _ c.in_ok-pass.ensures c.in_ok-pass_served.ensures) c.in_ok-pass_ports.ensures) c.pass_windows.ensures)))

pub returns-in_err-pass-2 : goal.returns-in_err-pass-2
returns-in_err-pass-2 g c =
    let e = c.in_err-pass-2.field-0.0 in
    let now = c.pass-2.new.gathered.items in
    let is : c.pass-2.result ≡ Err e = search rules in
    let same : c.pass-2.result ≡ c.from_residual-in_err-pass-2.result = search rules in
    rw (← same) (unwritten e c.pass-2.result is _ _ _ _ _ _ now _ c.new-gathered.ensures.items (whole_text c.args.trace.now) (then_passed c.pass-2.result _ _ _ _ _ _ _ _ _ _ _ (passed_both _ _ _ _ _ _ _ _ _ _ _ (passed_both _ _ _ _ _ _ _ _ _ _ _ (passed_both _ _ _ _ _ _ _ _ _ _ _ c.in_ok-pass.ensures c.in_ok-pass_served.ensures) c.in_ok-pass_ports.ensures) c.in_ok-pass_windows.ensures) c.pass-2.ensures))

pub returns : goal.returns
returns g c = written_all c.hand_on.result _ _ _ _ _ _ _ _ _ _ c.new-gathered.ensures.items (whole_text c.args.trace.now) (passed_both _ _ _ _ _ _ _ _ _ _ _ (passed_both _ _ _ _ _ _ _ _ _ _ _ (passed_both _ _ _ _ _ _ _ _ _ _ _ (passed_both _ _ _ _ _ _ _ _ _ _ _ c.in_ok-pass.ensures c.in_ok-pass_served.ensures) c.in_ok-pass_ports.ensures) c.in_ok-pass_windows.ensures) c.in_ok-pass-2.ensures) c.hand_on.ensures.written
