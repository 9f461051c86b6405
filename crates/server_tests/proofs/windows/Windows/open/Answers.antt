use Rattle.std.proofs.Common.{◌∙◌, ap, arith, length}
use Rattle.std.proofs.lemmas.List.{length-replicate}
use Rattle.tce_window.specs.Window.{blank_page}
use Rattle.block_server.proofs.Opening.{first_values}
use Rattle.server_tests.proofs.windows.Windows.open.Goals as goal

pub invariant_of-result : goal.invariant_of-result
invariant_of-result c =
    let own = c.in_ok-open.field-0 in
    let own_is = c.in_ok-open.ensures in
    let client_is = c.in_ok-open-2.ensures in
    record {
      ready = record {
        size = ap (λ window. length window.pages) own_is ∙ length-replicate 34 blank_page;
        first = λ e below. first_values own (ap (λ window. window.rows) own_is) e;
        own_free = ap (λ window. window.held_count) own_is;
        client_free = ap (λ window. window.held_count) client_is;
        apart = λ same. absurd (omega (arith, ap (λ unit. unit.partition) same, ap (λ window. window.unit.partition) own_is, ap (λ window. window.unit.partition) client_is));
      };
      named = ap (λ window. window.unit) own_is;
    }
