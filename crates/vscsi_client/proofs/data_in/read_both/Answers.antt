use Rattle.std.proofs.Common.{◌+◌, ap}
use Rattle.vscsi_client.proofs.Giving.{reads_trans, both_given, second_not}
use Rattle.vscsi_client.proofs.data_in.read_both.Goals as goal

pub returns-clause-given : goal.returns-clause-given
returns-clause-given g c =
    let front = c.split_at_mut-first.ensures.front_len in
    let back = c.split_at_mut-first.ensures.back_len in
    both_given c.args.name g.O.WindowPort.is_shared c.args.at _ _ _ c.args.bytes.now _ _ _ _ _ c.read_part-2.result
    front back (ap (λ n. c.args.at + n) c.from.ensures) c.in-Ok.ensures.read c.read_part.ensures.rest c.read_part-2.ensures.rest c.read_part-2.ensures.read

pub returns-clause-why : goal.returns-clause-why
returns-clause-why g c =
    let front = c.split_at_mut-first.ensures.front_len in
    let back = c.split_at_mut-first.ensures.back_len in
    second_not c.args.name g.O.WindowPort.is_shared c.args.at _ _ _ c.args.bytes.now _ _ _ _ c.read_part-2.result
    c.requires.many front back (ap (λ n. c.args.at + n) c.from.ensures) c.in-Ok.ensures.read c.read_part.ensures.rest c.read_part-2.ensures.why

pub returns-clause-rest : goal.returns-clause-rest
returns-clause-rest g c = reads_trans _ _ _ _ c.read_part.ensures.rest c.read_part-2.ensures.rest
