use Rattle.std.proofs.Common.{◌∙◌, ap, length}
use Rattle.std.proofs.lemmas.List.{length-replicate}
use Rattle.tce_window.specs.Window.{blank_page}
use Rattle.client_tests.proofs.in_use.InUse.open.Goals as goal

pub returns : goal.returns
returns c = record { size = ap (λ window. length window.pages) c.in_ok-open.ensures ∙ length-replicate 64 blank_page }
