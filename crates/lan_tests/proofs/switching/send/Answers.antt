use Rattle.lan_switch.specs.Windows.{unit_b, unit_c}
use Rattle.lan_tests.proofs.switching.send.Goals as goal

pub returns-in_err-record-clause-b : goal.returns-in_err-record-clause-b
returns-in_err-record-clause-b c = c.send.ensures.others unit_b

pub returns-in_err-record-clause-c : goal.returns-in_err-record-clause-c
returns-in_err-record-clause-c c = c.send.ensures.others unit_c

pub returns-clause-b : goal.returns-clause-b
returns-clause-b c = c.send.ensures.others unit_b

pub returns-clause-c : goal.returns-clause-c
returns-clause-c c = c.send.ensures.others unit_c
