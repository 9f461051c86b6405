use Rattle.std.proofs.Common.{◌≡◌, ℕ}
use Rattle.tce_window.specs.Held.{either, held_strokes}
use Rattle.tce_window.specs.PortState.{OnlyGivesBack}
use Rattle.lan_script.proofs.Mapped.{keeps_others, told}
use Rattle.lan_script.proofs.windows.WindowsPortMap.give_back.Goals as goal

pub returns-clause-strokes : goal.returns-clause-strokes
returns-clause-strokes c =
    told c.args.unit c.args.self.now c.give_back_at.new.self _ c.give_back_at.ensures
    (λ x y. (p : ℕ) → y.strokes p ≡ either (x.strokes p) (held_strokes c.args.held.pages p)) c.give_back_at.ensures.made.rest.place
    c.give_back_at.ensures.made.strokes

pub returns-clause-free : goal.returns-clause-free
returns-clause-free c =
    told c.args.unit c.args.self.now c.give_back_at.new.self _ c.give_back_at.ensures (λ x y. y.held_count ≡ 0)
    c.give_back_at.ensures.made.rest.place c.give_back_at.ensures.made.free

pub returns-clause-rest : goal.returns-clause-rest
returns-clause-rest c =
    told c.args.unit c.args.self.now c.give_back_at.new.self _ c.give_back_at.ensures (λ x y. OnlyGivesBack x y)
    c.give_back_at.ensures.made.rest.place c.give_back_at.ensures.made.rest

pub returns-clause-others : goal.returns-clause-others
returns-clause-others c =
    keeps_others c.args.unit c.args.self.now c.give_back_at.new.self _ c.give_back_at.ensures c.give_back_at.ensures.made.rest.place
