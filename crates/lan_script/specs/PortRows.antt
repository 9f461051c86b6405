-- The rows of the calls on a LAN unit.
use Rattle.hcall_table.specs.declared.hcall.Hcall.{Hcall}
use Rattle.hcall_table.specs.declared.hcall.Hcall.TheVariants as rows
use Rattle.unit_region.specs.EntryRows.{entry_row}
use Rattle.lan_script.specs.declared.calls.PortCall.{PortCall}
use Rattle.lan_script.specs.declared.calls.PortCall.TheVariants as calls

abbrev pub port_row : PortCall → Hcall
port_row (calls.Entry call) = entry_row call
port_row (calls.Register list queue filters mac) = rows.RegisterLogicalLan
port_row calls.Free = rows.FreeLogicalLan
port_row (calls.Add descriptor) = rows.AddLogicalLanBuffer
port_row (calls.Send descriptors) = rows.SendLogicalLan
port_row (calls.Multicast control mac) = rows.MulticastCtrl
port_row (calls.ChangeMac mac) = rows.ChangeLogicalLanMac
