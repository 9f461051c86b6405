use Rattle.std.proofs.Common.{rules, ◌+◌, ◌<◌, arith}
use Rattle.entry_slots.specs.EntryCuts.{AreFirst}
use Rattle.entry_slots.proofs.EntrySeats.{opens}
use Rattle.entry_slots.proofs.entries.Entries.open.Goals as goal

pub of_words-requires : goal.of_words-requires
of_words-requires c =
    let first : AreFirst c.args.count c.as_slice.result.now = search rules in
    let few : c.from-seats.result + 1 < 131072 = omega (arith, c.from-seats.ensures) in
    opens c.args.count (c.from-seats.result + 1) c.as_slice.result.now first c.requires.1 few
