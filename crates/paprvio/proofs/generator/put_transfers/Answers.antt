-- Each turn adds what its draw says.
use Rattle.std.proofs.Common.{◌∙◌, ◌++◌, arith, sym, ap}
use Rattle.paprvio.specs.Generated.{transfer}
use Rattle.paprvio.proofs.Generating.{left_draws, left_last, left_more, left_none}
use Rattle.paprvio.proofs.generator.put_transfers.Goals as goal

pub loop-transfer-preserved : goal.loop-transfer-preserved
loop-transfer-preserved c =
    let draw = c.draw.ensures.last ∙ c.draw.ensures.drawn in
    record {
      text = left_more c.loop-transfer._transfer c.args.number c.loop-transfer.draws.last c.draw.new.self.last c.loop-transfer.text.items c.put_transfer.new.text.items _
          c.loop-transfer-test.true draw (c.in_ok-put_transfer.ensures ∙ ap (λ x. c.loop-transfer.text.items ++ transfer c.args.number x) (sym c.draw.ensures.last)) c.loop-transfer.invariant.text;
      draws = left_draws c.loop-transfer._transfer c.loop-transfer.draws.last c.draw.new.self.last _ c.loop-transfer-test.true draw c.loop-transfer.invariant.draws;
    }

pub returns-clause-text : goal.returns-clause-text
returns-clause-text c = left_none c.loop-transfer._transfer c.args.number c.loop-transfer.draws.last c.loop-transfer.text.items _
    (omega (arith, c.loop-transfer-test.false)) c.loop-transfer.invariant.text

pub returns-clause-draws : goal.returns-clause-draws
returns-clause-draws c = left_last c.loop-transfer._transfer c.loop-transfer.draws.last _ (omega (arith, c.loop-transfer-test.false)) c.loop-transfer.invariant.draws
