-- The line of a fill.
use Rattle.std.proofs.Common.{◌∙◌, ap, ◌++◌, ◌/◌, ◌%◌, decimal, codes}
use Rattle.paprvio.specs.Generated.{bytes_in}
use Rattle.paprvio.proofs.Generating.{last_piece, piece}
use Rattle.paprvio.proofs.generator.put_fill.Goals as goal

-- src/generator.rt:78:1
pub returns : goal.returns
returns c =
    let words = codes "0 fill 65536 " in
    let length = decimal (bytes_in c.args.draw) in
    let seed = decimal (c.args.draw / 256 % 256) in
    let t = c.args.text.now.items in
    let one = piece t words length c.put.new.text.items c.put_number.new.text.items c.in_ok-put.ensures (c.in_ok-put_number.ensures ∙ ap (λ n. c.put.new.text.items ++ decimal n) c.bytes_in.ensures) in
    let two = piece t (words ++ length) (codes " ") c.put_number.new.text.items c.put-2.new.text.items one c.in_ok-put-2.ensures in
    let three = piece t (words ++ length ++ codes " ") seed c.put-2.new.text.items c.put_number-2.new.text.items two c.in_ok-put_number-2.ensures in
    last_piece c.put-3.result t (words ++ length ++ codes " " ++ seed) (codes "\n") c.put_number-2.new.text.items c.put-3.new.text.items three c.put-3.ensures
