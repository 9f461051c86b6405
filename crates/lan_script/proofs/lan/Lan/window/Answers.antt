use Rattle.lan_script.proofs.Lans.{window_free, window_pages, window_there}
use Rattle.lan_script.proofs.lan.Lan.window.Goals as goal

pub at-requires : goal.at-requires
at-requires c = window_there _ c.args.self.now c.args.unit c.self.view_is c.self.invariant c.requires.there

pub returns-clause-pages : goal.returns-clause-pages
returns-clause-pages c =
    window_pages _ c.args.self.now c.args.unit c.at.result.now c.self.view_is c.self.invariant c.requires.there c.at.ensures.window

pub returns-clause-free : goal.returns-clause-free
returns-clause-free c =
    window_free _ c.args.self.now c.args.unit c.at.result.now c.self.view_is c.self.invariant c.requires.there c.at.ensures.window
