-- The number that a text of decimal digits writes.
use Rattle.std.proofs.Common.{rules, ◌∙◌, ◌≡◌, ◌≤◌, true, length}
use Rattle.std.specs.List.{list_all}
use Rattle.paprvio.specs.Words.{is_digit}
use Rattle.paprvio.proofs.Decimals.{reads}
use Rattle.paprvio.proofs.words.decimal.Goals as goal

-- src/words.rt:40:1
pub returns : goal.returns
returns c =
    let all : list_all is_digit c.args.text.now ≡ true = search rules in
    let short : length c.args.text.now ≤ c.args.most = search rules in
    c.ok.ensures.value ∙ reads c.args.most c.args.text.now c.from_str_radix.result c.requires short all c.from_str_radix.ensures.value
