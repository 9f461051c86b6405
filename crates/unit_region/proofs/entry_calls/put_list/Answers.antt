use Rattle.std.proofs.Common.{arith, sym, ◌∙◌}
use Rattle.unit_region.proofs.Growing.{keeps_on}
use Rattle.unit_region.proofs.InUses.{list_busy}
use Rattle.unit_region.proofs.Listing.{list_put_ok}
use Rattle.unit_region.proofs.entry_calls.put_list.Goals as goal

pub returns-in-Ok-clause-window : goal.returns-in-Ok-clause-window
returns-in-Ok-clause-window g c =
    keeps_on g.O.WindowPort.is_shared (g.O.WindowPort.state c.args.own.now) (g.O.WindowPort.state c.read_list.new.own) (g.O.WindowPort.state c.put_values.new.own)
    c.read_list.ensures.window c.put_values.ensures.window

pub returns-in-Ok-clause-list : goal.returns-in-Ok-clause-list
returns-in-Ok-clause-list g c =
    list_put_ok g.O.WindowPort.is_shared (g.O.WindowPort.state c.args.own.now) (g.O.WindowPort.state c.read_list.new.own) (g.O.WindowPort.state c.put_values.new.own)
    c.args.address c.args.list c.args.count c.read_list.new.bytes c.put_values.result (sym c.if-not-lies_at.ensures.lies)
    (omega (arith, c.read_list.ensures.count, c.deref_mut-bytes.ensures.len, c.in_ok-buffer.ensures.len)) c.read_list.ensures.only
    (λ some. c.in-Ok.ensures.read (λ none. some (c.read_list.ensures.count ∙ none))) c.put_values.ensures.values

pub returns-in-Ok-clause-busy : goal.returns-in-Ok-clause-busy
returns-in-Ok-clause-busy g c =
    list_busy g.O.WindowPort.is_shared (g.O.WindowPort.state c.args.own.now) (g.O.WindowPort.state c.read_list.new.own) (g.O.WindowPort.state c.put_values.new.own)
    c.put_values.result c.read_list.ensures.only c.put_values.ensures.busy
