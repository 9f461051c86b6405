-- The lines of a client.
use Rattle.std.proofs.Common.{◌++◌, decimal, codes}
use Rattle.paprvio.specs.Generated.{transfers}
use Rattle.paprvio.proofs.Generating.{last_piece, piece}
use Rattle.paprvio.proofs.generator.put_client.Goals as goal

-- src/generator.rt:42:1
pub returns-clause-text : goal.returns-clause-text
returns-clause-text c =
    let words = codes "partition\nclient 0." in
    let name = decimal c.args.number in
    let rest = codes " pages 64 queue 1\n0 login\n" in
    let lines = transfers 64 c.args.number c.args.draws.now.last in
    let t = c.args.text.now.items in
    let one = piece t words name c.put.new.text.items c.put_number.new.text.items c.in_ok-put.ensures c.in_ok-put_number.ensures in
    let two = piece t (words ++ name) rest c.put_number.new.text.items c.put-2.new.text.items one c.in_ok-put-2.ensures in
    let three = piece t (words ++ name ++ rest) lines c.put-2.new.text.items c.put_transfers.new.text.items two c.in_ok-put_transfers.ensures.text in
    last_piece c.put-3.result t (words ++ name ++ rest ++ lines) (codes "end\n") c.put_transfers.new.text.items c.put-3.new.text.items three c.put-3.ensures
