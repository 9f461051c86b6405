-- The codes of hypervisor calls (LoPAR, "Hypervisor Call Return Code Values").
use Rattle.std.specs.Prelude.{ℤ, pos, negsuc}
use Rattle.vio_num.specs.declared.hypervisor.Hrc.{Hrc}
use Rattle.vio_num.specs.declared.hypervisor.Hrc.TheVariants.{Success, Busy, Closed, Function, Parameter, NotFound, Dropped, SourceParm, DestParm, Resource}

-- the number of a code; `negsuc n` is -(n + 1)
abbrev pub code_of : Hrc → ℤ
code_of Success = pos 0
code_of Busy = pos 1
code_of Closed = pos 2
code_of Function = negsuc 1
code_of Parameter = negsuc 3
code_of NotFound = negsuc 6
code_of Dropped = negsuc 11
code_of SourceParm = negsuc 12
code_of DestParm = negsuc 13
code_of Resource = negsuc 15
