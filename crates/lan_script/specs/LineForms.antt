-- The form in which a line of a LAN unit ends, and which codes it may say.
use Rattle.std.specs.Prelude.{◌≡◌, true, ⊤}
use Rattle.vio_num.specs.declared.hypervisor.Hrc.{Hrc}
use Rattle.boot_text.specs.declared.verb.Verb.{Verb}
use Rattle.boot_text.specs.declared.verb.Verb.TheVariants as verbs
use Rattle.hcall_table.specs.Rows.{may_answer}
use Rattle.hcall_table.specs.declared.hcall.Hcall.{Hcall}
use Rattle.hcall_table.specs.declared.hcall.Hcall.TheVariants as rows
use Rattle.vio_trace.specs.declared.outcome.Outcome.{Outcome}
use Rattle.vio_trace.specs.declared.outcome.Outcome.TheVariants as outcomes
use Rattle.lan_script.specs.declared.lines.PortStep.{PortStep}
use Rattle.lan_script.specs.declared.lines.PortStep.TheVariants as steps

-- a code alone, which a call of this row may answer
abbrev pub IsCodeOf : Hcall → Outcome → Type 0
IsCodeOf row (outcomes.Code code) = may_answer row code ≡ true
IsCodeOf row _ = ⊥

-- how a `post`, a `send` and a `take` end
abbrev pub IsPostEnd : Outcome → Type 0
IsPostEnd (outcomes.Posted buffers code) = may_answer rows.AddLogicalLanBuffer code ≡ true
IsPostEnd _ = ⊥

abbrev pub IsSendEnd : Outcome → Type 0
IsSendEnd (outcomes.Code code) = may_answer rows.SendLogicalLan code ≡ true
IsSendEnd (outcomes.Frame code number) = may_answer rows.SendLogicalLan code ≡ true
IsSendEnd outcomes.Range = ⊤
IsSendEnd _ = ⊥

abbrev pub IsTakeEnd : Outcome → Type 0
IsTakeEnd (outcomes.Took count) = ⊤
IsTakeEnd _ = ⊥

-- the words with which a line of a port ends; what those in a region say is another matter
abbrev pub HasForm : Verb → Outcome → Type 0
HasForm verbs.Open outcome = IsCodeOf rows.RegisterLogicalLan outcome
HasForm verbs.Close outcome = IsCodeOf rows.FreeLogicalLan outcome
HasForm (verbs.ChangeMac mac) outcome = IsCodeOf rows.ChangeLogicalLanMac outcome
HasForm (verbs.Multicast control mac) outcome = IsCodeOf rows.MulticastCtrl outcome
HasForm (verbs.Post at len count) outcome = IsPostEnd outcome
HasForm (verbs.Send to len seed at) outcome = IsSendEnd outcome
HasForm (verbs.Take count) outcome = IsTakeEnd outcome
HasForm _ outcome = ⊤

-- the same of a step that ends its line
abbrev pub StepForm : Verb → PortStep → Type 0
StepForm verb (steps.Ends outcome) = HasForm verb outcome
StepForm verb (steps.Waits did done) = ⊤

-- a step that ends its line says just this code
abbrev pub CodesAs : Hrc → PortStep → Type 0
CodesAs code (steps.Ends outcome) = outcome ≡ outcomes.Code code
CodesAs code (steps.Waits did done) = ⊤

-- a step that ends its line ends it as a `send` does
abbrev pub SendForm : PortStep → Type 0
SendForm (steps.Ends outcome) = IsSendEnd outcome
SendForm (steps.Waits did done) = ⊤
