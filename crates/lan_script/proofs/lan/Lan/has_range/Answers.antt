use Rattle.std.proofs.Common.{◌≡◌, arith, length}
use Rattle.lan_script.proofs.Lans.{window_free, window_there}
use Rattle.lan_script.proofs.ReplayedRegion.{has_pages, seat_pages}
use Rattle.lan_script.proofs.lan.Lan.has_range.Goals as goal

pub at-requires : goal.at-requires
at-requires c = window_there _ c.args.self.now c.args.unit c.self.view_is c.self.invariant c.requires.there

pub returns-clause-pages : goal.returns-clause-pages
returns-clause-pages c =
    has_pages _ c.args.self.now c.args.unit c.at.result.now c.self.view_is c.at.ensures.window
    (c.pages.ensures.there (window_free _ c.args.self.now c.args.unit c.at.result.now c.self.view_is c.self.invariant c.requires.there c.at.ensures.window))

pub returns-clause-range : goal.returns-clause-range
returns-clause-range c = λ seat at.
    let pages : length c.at.result.now.pages ≡ seat.pages = seat_pages _ c.args.self.now c.args.unit seat c.at.result.now c.self.view_is c.self.invariant at c.at.ensures.window in (
      λ e. omega (arith, pages, c.pages.ensures.pages, c.lies_within.ensures.0 e),
      λ inside. c.lies_within.ensures.1 (omega (arith, pages, c.pages.ensures.pages, inside)),
    )
