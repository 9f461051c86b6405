use Rattle.std.proofs.Common.{rules}
use Rattle.vio_trace.proofs.Undone.{bytes_refused, other_bytes, some_bytes, no_word_empty}
use Rattle.vio_trace.proofs.read_kinds.read_some.Goals as goal

pub returns-then-are_same : goal.returns-then-are_same
returns-then-are_same c = no_word_empty c.args.text.now (search rules)

pub returns-in_err-bytes : goal.returns-in_err-bytes
returns-in_err-bytes c =
    let fact = bytes_refused c.args.text.now c.in_err-bytes.field-0.0 c.requires (search rules) in
    search (rules, fact)

pub returns-then-branch : goal.returns-then-branch
returns-then-branch c = (search rules, some_bytes _ c.args.text.now (search rules) (search rules))

pub returns-else-branch : goal.returns-else-branch
returns-else-branch c = other_bytes c.args.text.now c.in_ok-bytes.bytes.items c.requires (search rules) (search rules)
