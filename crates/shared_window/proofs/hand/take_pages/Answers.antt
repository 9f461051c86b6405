-- The pages below the next number are in the hand, or all go back.
use Rattle.std.proofs.Common.{rules, arith, ◌≡◌, ℕ, ◌+◌, ◌≤◌, List, Option, is_some, false, subst, sym, ap, ◌∙◌}
use Rattle.page_slots.specs.Page.{PageValue}
use Rattle.page_slots.specs.Seats.{saw}
use Rattle.tce_window.specs.declared.piece.Piece.{Piece}
use Rattle.tce_window.specs.Pieces.{on_page}
use Rattle.shared_window.specs.Hand.{is_below, IsFirstOn, TakesPages, TakesOne, FindsOne, GivesHand}
use Rattle.tce_window.specs.Window.{strokes_at}
use Rattle.shared_window.proofs.Nearest.{below_on}
use Rattle.shared_window.proofs.Taking.{in_hand, same_below, some_when, takes_still, takes_more, takes_same, next_below, ends_below, back_held, back_begins, back_laid, back_others}
use Rattle.shared_window.proofs.hand.take_pages.Goals as goal

pub give_below-requires-clause-hand : goal.give_below-requires-clause-hand
give_below-requires-clause-hand c =
    let pages = c.args.pages.now in
    let wanted = is_below c.args.pieces.now c.loop-number.from in
    in_hand pages c.args.seat.now c.take_page.new.seat wanted c.take_page.new.region
    (takes_still pages c.args.seat.now c.loop-number.seat c.take_page.new.seat wanted c.loop-number.region c.take_page.new.region c.in-Some.number c.in-Err.found c.loop-number.invariant.took c.in-Err.ensures.err c.in-Err.ensures.same)

pub give_below-requires-clause-pieces : goal.give_below-requires-clause-pieces
give_below-requires-clause-pieces c p =
    let pieces : List Piece = c.args.pieces.now in
    let n : ℕ = c.in-Some.number in
    let first : IsFirstOn pieces c.loop-number.from c.from-to.result n = c.in-Some.ensures in
    let is : c.from.result ≡ n = search rules in
    let here = c.loop-number.invariant.took.here p in
    ap (λ (r : List (Option PageValue)). is_some (strokes_at r p)) c.in-Err.ensures.same ∙ (ap is_some here ∙ (some_when (is_below pieces c.loop-number.from p) (saw c.loop-number.seat p)
    ∙ (sym (same_below pieces c.loop-number.from c.from-to.result n first p) ∙ ap (λ k. is_below pieces k p) (sym is))))

pub returns-in-Err-clause-err : goal.returns-in-Err-clause-err
returns-in-Err-clause-err c =
    let n : ℕ = c.in-Some.number in
    let pages = c.args.pages.now in
    let old = c.args.seat.now in
    let before = c.loop-number.seat in
    let after = c.take_page.new.seat in
    let region = c.take_page.new.region in
    let end = c.give_below.new.seat in
    let wanted = is_below c.args.pieces.now c.loop-number.from in
    let first : IsFirstOn c.args.pieces.now c.loop-number.from c.from-to.result n = c.in-Some.ensures in
    let f : FindsOne before n c.in-Err.found after = c.in-Err.ensures.err in
    let took : TakesPages pages old wanted after region = takes_still pages old before after wanted c.loop-number.region region n c.in-Err.found c.loop-number.invariant.took f c.in-Err.ensures.same in
    let before_count = c.loop-number.invariant.took.count in
    let read = f.read.read in
    let gives : GivesHand after (strokes_at region) end = c.give_below.ensures.given in
    record {
      empty = c.give_below.ensures.empty;
      ours = gives.pages ∙ took.ours;
      on = ap (on_page c.args.pieces.now) f.page ∙ below_on c.args.pieces.now c.from-to.result n first.there;
      bit = f.bit;
      read = record { read = let last : end.last.count ≡ after.last.count = ap (λ l. l.count) gives.last in omega (arith, before_count, read, last); word_is = ap (λ l. l.word) gives.last ∙ f.read.word_is };
      held = back_held pages old after end wanted region took gives;
      seen = back_begins pages old after end wanted region took gives;
      others = back_others pages old after end wanted region took gives;
      laid = back_laid pages old after end wanted region took gives;
    }

pub loop-number-preserved : goal.loop-number-preserved
loop-number-preserved c =
    let n : ℕ = c.in-Some.number in
    let first : IsFirstOn c.args.pieces.now c.loop-number.from c.from-to.result n = c.in-Some.ensures in
    let is : c.from-from.result ≡ n = search rules in
    let one : TakesOne c.loop-number.seat c.loop-number.region n c.take_page.new.seat c.take_page.new.region = c.in_default-take_page.ensures.ok in
    record {
      took = subst (λ k. TakesPages c.args.pages.now c.args.seat.now (is_below c.args.pieces.now (k + 1)) c.take_page.new.seat c.take_page.new.region) (sym is)
          (takes_more c.args.pages.now c.args.seat.now c.loop-number.seat c.take_page.new.seat (is_below c.args.pieces.now c.loop-number.from) (is_below c.args.pieces.now (n + 1)) c.loop-number.region c.take_page.new.region n
          (next_below c.args.pieces.now c.loop-number.from c.from-to.result n first) c.loop-number.invariant.took one);
      near = search rules;
      within = λ w. c.take_page.ensures.within (c.loop-number.invariant.within w);
    }

pub returns-clause-ok : goal.returns-clause-ok
returns-clause-ok c =
    let to : c.from-to.result ≡ c.args.pages.now.count = search rules in
    let none : (p : ℕ) → c.loop-number.from ≤ p → is_below c.args.pieces.now c.args.pages.now.count p ≡ false = λ p a. subst (λ t. is_below c.args.pieces.now t p ≡ false) to (c.in_default.ensures p a) in
    takes_same c.args.pages.now c.args.seat.now c.loop-number.seat (is_below c.args.pieces.now c.loop-number.from) (on_page c.args.pieces.now) c.loop-number.region
    (ends_below c.args.pages.now.count c.args.pieces.now c.loop-number.from c.requires.within none) c.loop-number.invariant.took
