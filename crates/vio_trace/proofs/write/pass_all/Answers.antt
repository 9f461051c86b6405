use Rattle.std.proofs.Common.{◌≡◌, ◌+◌, ◌++◌, Err, flat_map, take, drop, arith, sym, ap, ◌∙◌, subst, rules}
use Rattle.std.proofs.lemmas.Grind.{common_steps, flat_map-append}
use Rattle.std.proofs.lemmas.List.{take-append-drop}
use Rattle.vio_trace.specs.Passing.{IsPassed, Passes}
use Rattle.vio_trace.proofs.Passing.{passes_both, stops, then_passed}
use Rattle.vio_trace.proofs.write.pass_all.Goals as goal

pub loop-row-preserved : goal.loop-row-preserved
loop-row-preserved g c =
    let text = g.R.Lines.text in
    let more : flat_map text (take (c.loop-row.row-index + 1) c.args.rows.now) ≡ flat_map text (take c.loop-row.row-index c.args.rows.now) ++ text c.row-item.result = grind (arith, common_steps) in (
      subst (λ t. Passes c.args.gathered.now.items t (g.S.Sink.taken c.args.sink.now) (g.S.Sink.taken c.pass_row.new.sink) c.pass_row.new.gathered.items) (sym more)
          (passes_both _ _ _ _ _ _ _ _ c.loop-row.invariant.0 c.in_ok-pass_row.ensures.0),
      c.in_ok-pass_row.ensures.1 ∙ c.loop-row.invariant.1,
    )

pub returns-in_err-pass_row : goal.returns-in_err-pass_row
returns-in_err-pass_row g c =
    let text = g.R.Lines.text in
    let rows = c.args.rows.now in
    let at = c.loop-row.row-index in
    let more : flat_map text (take (at + 1) rows) ≡ flat_map text (take at rows) ++ text c.row-item.result = grind (arith, common_steps) in
    let whole : (flat_map text (take at rows) ++ text c.row-item.result) ++ flat_map text (drop (at + 1) rows) ≡ flat_map text rows
    = ap (λ t. t ++ flat_map text (drop (at + 1) rows)) (sym more) ∙ (sym (flat_map-append text (take (at + 1) rows) (drop (at + 1) rows)) ∙ ap (flat_map text) (take-append-drop (at + 1) rows)) in
    let is : c.from_residual.result ≡ Err c.in_err-pass_row.field-0.0 = search rules in
    let was : c.pass_row.result ≡ c.from_residual.result = search rules in
    subst (λ t. IsPassed c.from_residual.result c.args.gathered.now.items t (g.S.Sink.taken c.args.sink.now) (g.S.Sink.taken c.pass_row.new.sink) (g.S.Sink.faults c.args.sink.now) (g.S.Sink.faults c.pass_row.new.sink) c.pass_row.new.gathered.items) whole
    (stops c.in_err-pass_row.field-0.0 c.from_residual.result is _ _ _ _ _ _ _ c.pass_row.new.gathered.items _
    (then_passed c.from_residual.result _ _ _ _ _ _ _ _ _ _ _ c.loop-row.invariant
    (subst (λ r. IsPassed r c.loop-row.gathered.items (text c.row-item.result) (g.S.Sink.taken c.loop-row.sink) (g.S.Sink.taken c.pass_row.new.sink) (g.S.Sink.faults c.loop-row.sink) (g.S.Sink.faults c.pass_row.new.sink) c.pass_row.new.gathered.items) was c.pass_row.ensures)))
