use Rattle.std.proofs.Common.{rules}
use Rattle.vio_trace.proofs.Undone.{no_half_digits, other_half_digits}
use Rattle.vio_trace.proofs.read_kinds.read_half_number.Goals as goal

pub returns-in-Err : goal.returns-in-Err
returns-in-Err c = no_half_digits c.args.text.now _ c.decode_to_slice.result tt _ c.decode_to_slice.ensures.value c.in-Err.is

pub returns-else-are_half_digits : goal.returns-else-are_half_digits
returns-else-are_half_digits c =
    other_half_digits c.args.text.now _ c.decode_to_slice.result tt c.from_be_bytes-value.result c.decode_to_slice.ensures.value (search rules) (search rules) (search rules)
