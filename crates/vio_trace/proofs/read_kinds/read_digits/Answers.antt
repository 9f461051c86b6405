use Rattle.std.proofs.Common.{rules}
use Rattle.vio_trace.proofs.Undone.{no_digits, other_digits}
use Rattle.vio_trace.proofs.read_kinds.read_digits.Goals as goal

pub returns-in-Err : goal.returns-in-Err
returns-in-Err c = no_digits c.args.text.now _ c.decode_to_slice.result tt _ c.decode_to_slice.ensures.value c.in-Err.is

pub returns-else-are_digits : goal.returns-else-are_digits
returns-else-are_digits c =
    other_digits c.args.text.now _ c.decode_to_slice.result tt c.from_be_bytes-value.result c.decode_to_slice.ensures.value (search rules) (search rules) (search rules)
