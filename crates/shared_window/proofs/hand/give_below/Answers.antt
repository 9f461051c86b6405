use Rattle.std.proofs.Common.{rules, ◌≡◌, ℕ, ◌+◌, Option, List, subst, sym, ◌∙◌}
use Rattle.page_slots.specs.Stroke.{StrokeValue}
use Rattle.tce_window.specs.Window.{strokes_at}
use Rattle.shared_window.specs.Hand.{IsFirstOn, GivesUpTo}
use Rattle.shared_window.proofs.Giving.{gives_more, none_of}
use Rattle.shared_window.proofs.hand.give_below.Goals as goal

pub loop-number-preserved : goal.loop-number-preserved
loop-number-preserved c =
    let n : ℕ = c.in-Some.number in
    let first : IsFirstOn c.args.pieces.now c.loop-number.from c.args.to n = c.in-Some.ensures in
    let is : c.from-from.result ≡ n = search rules in
    let hand : ℕ → Option (List StrokeValue) = strokes_at c.args.region.now in
    let g = c.give_page.ensures.gives in
    record {
      up = subst (λ k. GivesUpTo c.args.seat.now hand (k + 1) c.give_page.new.seat (strokes_at c.give_page.new.region)) (sym is)
          (gives_more c.args.seat.now c.loop-number.seat c.give_page.new.seat hand (strokes_at c.loop-number.region) (strokes_at c.give_page.new.region) c.loop-number.from n g.strokes c.loop-number.invariant.up
          first.from_on (λ p a b. none_of (hand p) (c.requires.pieces p ∙ first.before p a b)) g.page g.away g.gives);
      size = g.size ∙ c.loop-number.invariant.size;
      near = search rules;
      within = λ w. c.give_page.ensures.within (c.loop-number.invariant.within w);
    }
