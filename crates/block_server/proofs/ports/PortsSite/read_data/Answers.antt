use Rattle.block_server.proofs.CopyKinds.{same_count, same_pages}
use Rattle.std.proofs.Common.{arith}
use Rattle.block_server.proofs.DataPages.{read_data, reads_shown, reads_two}
use Rattle.std.proofs.Common.{◌∙◌}
use Rattle.block_server.proofs.FirstPages.{fetches_same, queue_stays}
use Rattle.block_server.proofs.Advancing.{advances_on}
use Rattle.std.proofs.Common.{ap}
use Rattle.block_server.specs.Ranges.{seen_in}
use Rattle.block_server.proofs.ports.PortsSite.read_data.Goals as goal

pub returns-then-out-gt-MOST_BYTES-clause-advances : goal.returns-then-out-gt-MOST_BYTES-clause-advances
returns-then-out-gt-MOST_BYTES-clause-advances g c = advances_on _ _ _ c.read_own.ensures.advances c.read_own-then-out-gt-MOST_BYTES.ensures.advances

pub returns-then-out-gt-MOST_BYTES-clause-passes : goal.returns-then-out-gt-MOST_BYTES-clause-passes
returns-then-out-gt-MOST_BYTES-clause-passes g c =
    queue_stays _ _ (c.read_own-then-out-gt-MOST_BYTES.ensures.queue ∙ c.read_own.ensures.queue)
    (c.read_own-then-out-gt-MOST_BYTES.ensures.own.place ∙ c.read_own.ensures.own.place)
    (fetches_same _ _ _ (c.read_own-then-out-gt-MOST_BYTES.ensures.copies ∙ c.read_own.ensures.copies))

pub returns-then-not-is_empty-clause-passes : goal.returns-then-not-is_empty-clause-passes
returns-then-not-is_empty-clause-passes g c =
    queue_stays _ _ c.read_own-then-not-is_empty.ensures.queue c.read_own-then-not-is_empty.ensures.own.place
    (fetches_same _ _ _ c.read_own-then-not-is_empty.ensures.copies)

pub returns-then-out-gt-MOST_BYTES-clause-data : goal.returns-then-out-gt-MOST_BYTES-clause-data
returns-then-out-gt-MOST_BYTES-clause-data g c =
    same_pages _ _ _ _
    (read_data _ _ _ c.args.self.now.alone c.read_own-then-out-gt-MOST_BYTES.ensures.own ∙ read_data _ _ _ c.args.self.now.alone c.read_own.ensures.own)
    (c.read_own-then-out-gt-MOST_BYTES.ensures.own.place ∙ c.read_own.ensures.own.place)
    (same_count _ _ _ (c.read_own-then-out-gt-MOST_BYTES.ensures.copies ∙ c.read_own.ensures.copies))

pub returns-then-not-is_empty-clause-data : goal.returns-then-not-is_empty-clause-data
returns-then-not-is_empty-clause-data g c =
    same_pages _ _ _ _ (read_data _ _ _ c.args.self.now.alone c.read_own-then-not-is_empty.ensures.own) c.read_own-then-not-is_empty.ensures.own.place
    (same_count _ _ _ c.read_own-then-not-is_empty.ensures.copies)

pub returns-then-out-gt-MOST_BYTES-clause-read : goal.returns-then-out-gt-MOST_BYTES-clause-read
returns-then-out-gt-MOST_BYTES-clause-read g c =
    reads_two _ _ _ _ _ c.args.self.now.alone c.read_own-then-out-gt-MOST_BYTES.ensures.own (omega arith) c.read_own.ensures.read c.read_own-then-out-gt-MOST_BYTES.ensures.read

pub returns-then-not-is_empty-clause-read : goal.returns-then-not-is_empty-clause-read
returns-then-not-is_empty-clause-read g c = reads_shown _ _ c.read_own-then-not-is_empty.ensures.read

pub returns-then-out-gt-MOST_BYTES-clause-known : goal.returns-then-out-gt-MOST_BYTES-clause-known
returns-then-out-gt-MOST_BYTES-clause-known g c = ap (seen_in g.R.WindowPort.is_shared) (c.read_own-then-out-gt-MOST_BYTES.ensures.client ∙ c.read_own.ensures.client)

pub returns-then-not-is_empty-clause-known : goal.returns-then-not-is_empty-clause-known
returns-then-not-is_empty-clause-known g c = ap (seen_in g.R.WindowPort.is_shared) c.read_own-then-not-is_empty.ensures.client
