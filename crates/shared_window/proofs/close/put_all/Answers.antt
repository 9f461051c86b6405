-- Each page goes into its place.
use Rattle.std.proofs.Common.{rules, ◌≡◌, ◌∷◌, ◌∙◌}
use Rattle.std.specs.Vec.Iter.{into_iter_items}
use Rattle.shared_window.proofs.Homing.{placed_more}
use Rattle.shared_window.proofs.close.put_all.Goals as goal

pub loop-page-preserved : goal.loop-page-preserved
loop-page-preserved c =
    let split : into_iter_items c.loop-page.page-iterator ≡ c.in-Some.page ∷ into_iter_items c.next.new.self = search rules in
    record {
      steps = tt;
      ends = tt;
      put = placed_more c.args.list.items (into_iter_items c.loop-page.page-iterator) c.loop-page.number c.loop-page.region c.in-Some.page (into_iter_items c.next.new.self) split c.loop-page.invariant.put c.put_page.new.self c.put_page.ensures.strokes;
      size = c.put_page.ensures.size ∙ c.loop-page.invariant.size;
    }
