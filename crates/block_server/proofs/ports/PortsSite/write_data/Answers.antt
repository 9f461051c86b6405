use Rattle.std.proofs.Common.{◌∙◌, ◌++◌, ap₂, sym, List, ℕ}
use Rattle.std.proofs.lemmas.List.{take-append-drop}
use Rattle.tce_window.proofs.Laws.{on_ok_map}
use Rattle.block_server.proofs.DataPages.{data_shown, data_shown_two}
use Rattle.block_server.proofs.FirstPages.{fetches_same, queue_stays}
use Rattle.block_server.proofs.Advancing.{advances_on}
use Rattle.std.proofs.Common.{ap}
use Rattle.block_server.specs.Ranges.{seen_in}
use Rattle.block_server.proofs.ports.PortsSite.write_data.Goals as goal

pub returns-in_ok-write_own-clause-advances : goal.returns-in_ok-write_own-clause-advances
returns-in_ok-write_own-clause-advances g c = advances_on _ _ _ c.write_own.ensures.advances c.write_own-then-bytes-gt-MOST_BYTES.ensures.advances

pub returns-in_err-write_own-clause-passes : goal.returns-in_err-write_own-clause-passes
returns-in_err-write_own-clause-passes g c =
    queue_stays _ _ c.write_own.ensures.queue c.write_own.ensures.own.place (fetches_same _ _ _ c.write_own.ensures.copies)

pub returns-in_ok-write_own-clause-passes : goal.returns-in_ok-write_own-clause-passes
returns-in_ok-write_own-clause-passes g c =
    queue_stays _ _ (c.write_own-then-bytes-gt-MOST_BYTES.ensures.queue ∙ c.write_own.ensures.queue)
    (c.write_own-then-bytes-gt-MOST_BYTES.ensures.own.place ∙ c.write_own.ensures.own.place)
    (fetches_same _ _ _ (c.write_own-then-bytes-gt-MOST_BYTES.ensures.copies ∙ c.write_own.ensures.copies))

pub returns-else-is_empty-clause-passes : goal.returns-else-is_empty-clause-passes
returns-else-is_empty-clause-passes g c =
    queue_stays _ _ c.write_own-else-is_empty.ensures.queue c.write_own-else-is_empty.ensures.own.place
    (fetches_same _ _ _ c.write_own-else-is_empty.ensures.copies)

pub returns-in_ok-write_own-clause-shown : goal.returns-in_ok-write_own-clause-shown
returns-in_ok-write_own-clause-shown g c =
    on_ok_map c.write_own-then-bytes-gt-MOST_BYTES.result _ _
    (λ wrote. data_shown_two g.O.WindowPort.is_shared _ _ _ _ c.args.bytes.now _ _ c.args.self.now.alone
    (sym (ap₂ (λ (a b : List ℕ). a ++ b) c.split_at.ensures.front c.split_at.ensures.back ∙ take-append-drop 65536 c.args.bytes.now))
    c.split_at.ensures.front_len c.in_ok-write_own.ensures.wrote wrote) c.write_own-then-bytes-gt-MOST_BYTES.ensures.wrote

pub returns-else-is_empty-clause-shown : goal.returns-else-is_empty-clause-shown
returns-else-is_empty-clause-shown g c =
    on_ok_map c.write_own-else-is_empty.result _ _
    (λ wrote. data_shown g.O.WindowPort.is_shared _ _ _ c.args.bytes.now c.args.self.now.alone wrote) c.write_own-else-is_empty.ensures.wrote

pub returns-in_err-write_own-clause-known : goal.returns-in_err-write_own-clause-known
returns-in_err-write_own-clause-known g c = ap (seen_in g.R.WindowPort.is_shared) c.write_own.ensures.client

pub returns-in_ok-write_own-clause-known : goal.returns-in_ok-write_own-clause-known
returns-in_ok-write_own-clause-known g c = ap (seen_in g.R.WindowPort.is_shared) (c.write_own-then-bytes-gt-MOST_BYTES.ensures.client ∙ c.write_own.ensures.client)

pub returns-else-is_empty-clause-known : goal.returns-else-is_empty-clause-known
returns-else-is_empty-clause-known g c = ap (seen_in g.R.WindowPort.is_shared) c.write_own-else-is_empty.ensures.client
