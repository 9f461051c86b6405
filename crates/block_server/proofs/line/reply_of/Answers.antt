use Rattle.std.proofs.Common.{Option, IfSome, subst, sym}
use Rattle.vio_num.specs.declared.entry.Entry.{Entry}
use Rattle.block_server.specs.Entries.{IsPlain, MayPut}
use Rattle.block_server.proofs.Putting.{step_may, step_plain}
use Rattle.block_server.proofs.line.reply_of.Goals as goal

pub returns-clause-may : goal.returns-clause-may
returns-clause-may c = subst (λ (reply : Option Entry). IfSome reply MayPut) (sym c.entry.ensures) (step_may c.args.step)

pub returns-clause-plain : goal.returns-clause-plain
returns-clause-plain c = subst (λ (reply : Option Entry). IfSome reply IsPlain) (sym c.entry.ensures) (step_plain c.args.step)
