-- The value is the last of its entry.
use Rattle.std.proofs.Common.{IsTrue, arith, rules}
use Rattle.std.proofs.lemmas.Bool.Decides.{nat_tests}
use Rattle.tce_window.specs.Answers.{is_entry}
use Rattle.tce_window.proofs.table.TceTable.get.Goals as goal

pub returns : goal.returns
returns c =
    let entry : IsTrue (is_entry (c.args.self.now.size) c.args.ioba) = grind (arith, nat_tests) in
    (entry, (c.current.result.version, search rules))
