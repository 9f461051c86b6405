-- The address that a raw hypervisor call gives the port of its unit.
use Rattle.std.specs.Prelude.{ℕ, Option, None}
use Rattle.std.specs.Int.{bytes_high_first}
use Rattle.vio_num.specs.declared.hypervisor.Hrc.{Hrc}
use Rattle.vio_num.specs.declared.names.Mac.{Mac}
use Rattle.vio_trace.specs.declared.outcome.Outcome.TheVariants as outcomes
use Rattle.lan_script.specs.OwnMac.{changed_to}
use Rattle.lan_script.specs.declared.calls.PortCall.{PortCall}
use Rattle.lan_script.specs.declared.calls.PortCall.TheVariants as calls

-- the address of a station in the low 48 bits of a number
abbrev pub low_mac : ℕ → Mac
low_mac number = record { bytes = bytes_high_first 6 number }

-- the address that a call gives where it succeeds: a registration, and a change of the address
abbrev pub mac_called : PortCall → Hrc → Option Mac
mac_called (calls.Register list queue filters mac) code = changed_to (low_mac mac) (outcomes.Code code)
mac_called (calls.ChangeMac mac) code = changed_to (low_mac mac) (outcomes.Code code)
mac_called call code = None
