-- Each turn adds a client.
use Rattle.std.proofs.Common.{arith}
use Rattle.paprvio.proofs.Generating.{clients_left, clients_over}
use Rattle.paprvio.proofs.generator.boot_text_of.Goals as goal

pub loop-number-preserved : goal.loop-number-preserved
loop-number-preserved c = record {
  text = clients_left c.loop-number.number c.loop-number.draws.last c.put_client.new.draws.last c.loop-number.text.items c.put_client.new.text.items _
      c.loop-number-test.true c.in_ok-put_client.ensures.draws c.in_ok-put_client.ensures.text c.loop-number.invariant.text;
}

pub returns : goal.returns
returns c = clients_over c.loop-number.number c.loop-number.draws.last c.loop-number.text.items _ (omega (arith, c.loop-number-test.false)) c.loop-number.invariant.text
