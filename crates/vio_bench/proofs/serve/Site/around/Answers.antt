use Rattle.std.proofs.Common.{◌≡◌, ◌∙◌, ap, arith, length}
use Rattle.std.proofs.lemmas.List.{length-replicate}
use Rattle.tce_window.specs.Window.{blank_page}
use Rattle.vio_bench.proofs.Opening.{first_values, none_kept}
use Rattle.vio_bench.proofs.serve.Site.around.Goals as goal

pub invariant_of-result : goal.invariant_of-result
invariant_of-result c =
    let own = c.in_ok-open-2.field-0 in
    let own_is = c.in_ok-open-2.ensures in
    let client_is = c.in_ok-open-3.ensures in
    record {
      unit = c.requires.unit;
      partition = c.requires.partition;
      ready = record {
        size = ap (λ window. length window.pages) own_is ∙ length-replicate 34 blank_page;
        first = λ e below. first_values own (ap (λ window. window.rows) own_is) e;
        own_free = ap (λ window. window.held_count) own_is;
        client_free = ap (λ window. window.held_count) client_is;
        apart = λ same. absurd (omega (arith, ap (λ unit. unit.partition) same, ap (λ window. window.unit.partition) own_is, ap (λ window. window.unit.partition) client_is));
      };
      named = ap (λ window. window.unit) own_is;
      event = none_kept _ c.in_ok-open.ensures.first.kept;
    }
