-- What is so where nothing moved.
use Rattle.std.specs.Prelude.{Result, Ok, ⊤}
use Rattle.vio_num.specs.declared.hypervisor.Moved.{Moved}
use Rattle.vio_num.specs.declared.hypervisor.Moved.TheVariants.{Quiet}
use Rattle.vio_num.specs.declared.memory.NoMemory.{NoMemory}

-- where a turn found nothing to do: P
abbrev pub OnQuiet : Result Moved NoMemory → Type 0 → Type 0
OnQuiet (Ok Quiet) P = P
OnQuiet _ P = ⊤
