-- The values that were known are those that there are.
use Rattle.std.proofs.Common.{◌≡◌, ap, false}
use Rattle.tce_window.specs.Pieces.{IsOfEntry, IsSharedUse}
use Rattle.tce_window.specs.Port.{NamesFound}
use Rattle.tce_window.proofs.Holding.{if_err_map, none_found, none_shared}
use Rattle.tce_window.proofs.plain.PlainWindowGuestPort.hold.Goals as goal

pub returns-clause-cause : goal.returns-clause-cause
returns-clause-cause c =
    let same : c.hold.new.self.rows ≡ c.args.self.now.rows = ap (λ w. w.rows) c.hold.ensures.others in
    rw same c.hold.ensures.cause

pub returns-clause-found : goal.returns-clause-found
returns-clause-found c = if_err_map c.hold.result IsOfEntry (NamesFound (λ _ _. ⊥)) none_found c.hold.ensures.entry

pub returns-clause-shared : goal.returns-clause-shared
returns-clause-shared c = if_err_map c.hold.result IsOfEntry (IsSharedUse false) none_shared c.hold.ensures.entry
