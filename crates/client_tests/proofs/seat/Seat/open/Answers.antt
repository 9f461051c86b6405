use Rattle.std.proofs.Common.{◌∙◌, ap, arith, length, subst, sym}
use Rattle.std.proofs.lemmas.List.{length-replicate}
use Rattle.tce_window.specs.Window.{blank_page}
use Rattle.vscsi_client.specs.State.{ClientState}
use Rattle.vscsi_client.specs.Transferred.{FitRows}
use Rattle.client_tests.proofs.seat.Seat.open.Goals as goal

pub invariant_of-result : goal.invariant_of-result
invariant_of-result c =
    let window_is = c.in_ok-open.ensures in
    let client_is = c.in_ok-open-2.ensures in
    record {
      size = ap (λ window. length window.pages) window_is ∙ length-replicate 64 blank_page;
      free = ap (λ window. window.held_count) window_is;
      rows = subst (λ (s : ClientState). FitRows 64 s) (sym client_is) (omega (arith), λ k d less. absurd (omega (arith, less)));
    }
