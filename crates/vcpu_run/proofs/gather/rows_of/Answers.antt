-- Each list of the trace is that of the machine's parts.
use Rattle.std.proofs.Common.{◌≡◌, rules}
use Rattle.std.specs.List.{flat_map}
use Rattle.lan_script.specs.declared.rows.LanRows.{LanRows}
use Rattle.vcpu_run.specs.Gathered.{answers_at, copies_of, logs_of, marks_at, sessions_at, values_at}
use Rattle.vcpu_run.specs.Units.{seats_of}
use Rattle.vcpu_run.proofs.Freed.{trace_is}
use Rattle.vcpu_run.proofs.gather.rows_of.Goals as goal

pub returns-clause-trace : goal.returns-clause-trace
returns-clause-trace c =
    let pairs = c.args.pairs.items in
    let scripts = c.args.scripts.items in
    let lan = c.args.lan in
    let copies = c.args.copies.items in
    let rows : LanRows = c.in_ok-frames.field-0 in
    let logs : c.from.result ≡ flat_map logs_of scripts = search rules in
    let queues : c.from-2.result ≡ flat_map (sessions_at pairs) (seats_of scripts) = search rules in
    let grants : c.from-3.result ≡ c.args.grants.items = search rules in
    let history : c.from-4.result ≡ c.args.history.items = search rules in
    let answers : c.from-5.result ≡ flat_map (answers_at pairs) (seats_of scripts) = search rules in
    let frames : c.from-6.result ≡ rows.frames.items = search rules in
    let ports : c.from-7.result ≡ rows.ports.items = search rules in
    let posts : c.from-8.result ≡ rows.posts.items = search rules in
    let delivers : c.from-9.result ≡ rows.delivers.items = search rules in
    let harvests : c.from-10.result ≡ rows.harvests.items = search rules in
    let tces : c.from-11.result ≡ flat_map (values_at pairs lan) (seats_of scripts) = search rules in
    let made : c.from-12.result ≡ flat_map (copies_of copies) pairs = search rules in
    let strokes : c.from-13.result ≡ flat_map (marks_at pairs lan) (seats_of scripts) = search rules in
    record {
      rows = rows;
      lawful = c.in_ok-frames.ensures.law;
      carried = c.in_ok-frames.ensures.carried;
      ordered = c.in_ok-frames.ensures.order;
      counted = c.in_ok-frames.ensures.counted;
      trace_is = trace_is pairs scripts lan rows c.args.history.items _ c.args.grants.items _ copies _ _ _ _ _ _ _ _ _ _ _ logs queues grants history answers frames ports posts delivers harvests tces made strokes;
    }
