use Rattle.boot_text.specs.declared.verb.Verb.TheVariants as verbs
use Rattle.hcall_table.specs.declared.hcall.Hcall.TheVariants as rows
use Rattle.lan_script.proofs.Forms.{coded_form}
use Rattle.lan_script.proofs.OwnMacs.{opens_mac}
use Rattle.lan_script.proofs.lan.Lan.open_line.Goals as goal

pub returns-clause-macs : goal.returns-clause-macs
returns-clause-macs c =
    opens_mac c.args.unit c.seat-seat.result c.in_ok-code.code c.coded.result c.args.self.now c.register.new.self c.seat-seat.ensures
    c.in_ok-code.ensures.code c.coded.ensures.coded c.in_ok-code.ensures.macs

pub returns-clause-form : goal.returns-clause-form
returns-clause-form c = coded_form verbs.Open rows.RegisterLogicalLan c.in_ok-code.code c.coded.result (λ o is. is) c.in_ok-code.ensures.code c.coded.ensures.form
