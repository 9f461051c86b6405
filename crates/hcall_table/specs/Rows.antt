-- The table of hypervisor calls (LoPAR, "Hypervisor Call Functions"): the number of each row, the arguments behind
-- its unit, and the codes that it may answer.
use Rattle.std.specs.Prelude.{◌≡◌, ℕ, ◌==◌, Bool, true, false, if◌then◌else◌, List, [], ◌∷◌, slice_index, Option, None, Some}
use Rattle.vio_num.specs.declared.hypervisor.Hrc.{Hrc}
use Rattle.vio_num.specs.declared.hypervisor.Hrc.TheVariants as codes
use Rattle.hcall_table.specs.declared.hcall.Hcall.{Hcall}
use Rattle.hcall_table.specs.declared.hcall.Hcall.TheVariants as rows
use Rattle.hcall_table.specs.declared.returned.Returned.{Returned}

-- the row of a window's calls that a number names
abbrev pub window_row : ℕ → Option Hcall
window_row number =
    if number == 0x1C then Some rows.GetTce
    else if number == 0x20 then Some rows.PutTce
    else if number == 0x138 then Some rows.StuffTce
    else if number == 0x13C then Some rows.PutTceIndirect
    else None

-- the row of a queue's calls, or of a copy, that a number names
abbrev pub queue_row : ℕ → Option Hcall
queue_row number =
    if number == 0xFC then Some rows.RegCrq
    else if number == 0x100 then Some rows.FreeCrq
    else if number == 0x108 then Some rows.SendCrq
    else if number == 0x2B0 then Some rows.EnableCrq
    else if number == 0x110 then Some rows.CopyRdma
    else None

-- the row of a LAN port's calls that a number names
abbrev pub port_row : ℕ → Option Hcall
port_row number =
    if number == 0x114 then Some rows.RegisterLogicalLan
    else if number == 0x118 then Some rows.FreeLogicalLan
    else if number == 0x11C then Some rows.AddLogicalLanBuffer
    else if number == 0x120 then Some rows.SendLogicalLan
    else if number == 0x130 then Some rows.MulticastCtrl
    else if number == 0x14C then Some rows.ChangeLogicalLanMac
    else None

-- the first of two rows that is there
abbrev pub or_row : Option Hcall → Option Hcall → Option Hcall
or_row (Some row) other = Some row
or_row None other = other

-- the row that a number names
abbrev pub row_of : ℕ → Option Hcall
row_of number = or_row (window_row number) (or_row (queue_row number) (port_row number))

-- The arguments of a row behind its unit. Those of a copy are all five: the unit stands in its two LIOBNs.
abbrev pub further : Hcall → List ℕ → List ℕ
further rows.GetTce args = slice_index args 1 ∷ []
further rows.PutTce args = slice_index args 1 ∷ slice_index args 2 ∷ []
further rows.StuffTce args = slice_index args 1 ∷ slice_index args 2 ∷ slice_index args 3 ∷ []
further rows.PutTceIndirect args = slice_index args 1 ∷ slice_index args 2 ∷ slice_index args 3 ∷ []
further rows.RegCrq args = slice_index args 1 ∷ slice_index args 2 ∷ []
further rows.FreeCrq args = []
further rows.SendCrq args = slice_index args 1 ∷ slice_index args 2 ∷ []
further rows.EnableCrq args = []
further rows.CopyRdma args = slice_index args 0 ∷ slice_index args 1 ∷ slice_index args 2 ∷ slice_index args 3 ∷ slice_index args 4 ∷ []
further rows.RegisterLogicalLan args = slice_index args 1 ∷ slice_index args 2 ∷ slice_index args 3 ∷ slice_index args 4 ∷ []
further rows.FreeLogicalLan args = []
further rows.AddLogicalLanBuffer args = slice_index args 1 ∷ []
further rows.SendLogicalLan args = slice_index args 1 ∷ slice_index args 2 ∷ slice_index args 3 ∷ slice_index args 4 ∷ slice_index args 5 ∷ slice_index args 6 ∷ []
further rows.MulticastCtrl args = slice_index args 1 ∷ slice_index args 2 ∷ []
further rows.ChangeLogicalLanMac args = slice_index args 1 ∷ []

-- the rows that may answer Busy: a word that was read shows that another is at work
abbrev pub may_be_busy : Hcall → Bool
may_be_busy rows.GetTce = false
may_be_busy rows.SendCrq = false
may_be_busy rows.EnableCrq = false
may_be_busy rows.RegisterLogicalLan = false
may_be_busy rows.MulticastCtrl = false
may_be_busy rows.ChangeLogicalLanMac = false
may_be_busy _ = true

-- the rows that may answer Resource: what is asked for stands already, or there is no room
abbrev pub may_lack_resource : Hcall → Bool
may_lack_resource rows.RegCrq = true
may_lack_resource rows.RegisterLogicalLan = true
may_lack_resource rows.AddLogicalLanBuffer = true
may_lack_resource rows.MulticastCtrl = true
may_lack_resource _ = false

-- the rows that may answer Closed: the partner is not there
abbrev pub may_be_closed : Hcall → Bool
may_be_closed rows.RegCrq = true
may_be_closed rows.SendCrq = true
may_be_closed _ = false

-- the rows that may answer Dropped: there was no room at the other side
abbrev pub may_be_dropped : Hcall → Bool
may_be_dropped rows.SendCrq = true
may_be_dropped rows.SendLogicalLan = true
may_be_dropped _ = false

-- the rows whose source a window may refuse
abbrev pub has_source : Hcall → Bool
has_source rows.CopyRdma = true
has_source rows.SendLogicalLan = true
has_source _ = false

-- the row whose destination a window may refuse
abbrev pub has_destination : Hcall → Bool
has_destination rows.CopyRdma = true
has_destination _ = false

-- the row that looks for what may be absent
abbrev pub may_find_none : Hcall → Bool
may_find_none rows.MulticastCtrl = true
may_find_none _ = false

-- whether a row may answer a code
abbrev pub may_answer : Hcall → Hrc → Bool
may_answer row codes.Success = true
may_answer row codes.Parameter = true
may_answer row codes.Busy = may_be_busy row
may_answer row codes.Resource = may_lack_resource row
may_answer row codes.Closed = may_be_closed row
may_answer row codes.Dropped = may_be_dropped row
may_answer row codes.SourceParm = has_source row
may_answer row codes.DestParm = has_destination row
may_answer row codes.NotFound = may_find_none row
may_answer row codes.Function = false

-- whether a row gives a value with a code
abbrev pub gives_value : Hcall → Hrc → Bool
gives_value rows.GetTce codes.Success = true
gives_value _ _ = false

-- what a row may answer: one of its codes, and no value but where it gives one
pub record IsAnswer (row : Hcall) (returned : Returned) : Type 0 where
  pub code : may_answer row returned.code ≡ true
  pub value : gives_value row returned.code ≡ false → returned.r4 ≡ 0
