use Rattle.std.proofs.Common.{◌∙◌, sym, arith}
use Rattle.vscsi_client.proofs.Requests.{slot_within}
use Rattle.vscsi_client.proofs.taking.judge.Goals as goal

pub read_slot-requires-clause-slot : goal.read_slot-requires-clause-slot
read_slot-requires-clause-slot g c =
    let below = slot_within c.args.entry.low c.args.outgoing.now c.in-Some.slot c.requires.slots (sym c.slot_of.ensures ∙ c.in-Some.is) in omega (arith, below)
