-- What the turns of a run leave of the server's disk, by what its units were told: each row has its cause in what the trace shows
-- (SRP, "SRP_RSP response").
use Rattle.std.specs.Prelude.{◌≡◌, ◌⊎◌, ℕ, All, Bool, List, [], Option, IfSome}
use Rattle.vio_num.specs.declared.history.Served.{Served}
use Rattle.vio_num.specs.declared.names.UnitId.{UnitId}
use Rattle.rdma_copy.specs.declared.copy.CopyRecord.{CopyRecord}
use Rattle.block_server.specs.Causes.{Includes, Told, told_to}
use Rattle.block_server.specs.DiskLaw.{KeepsDiskBy, ServeBy}
use Rattle.block_server.specs.Formed.{IsFormed}
use Rattle.boot_text.specs.Sound.{IsClientOf, IsServer}
use Rattle.boot_text.specs.declared.plan.Partition.{Partition}
use Rattle.vio_trace.specs.declared.rows.Trace.{Trace}
use Rattle.vcpu_run.specs.declared.pair.Pair.{Pair}
use Rattle.vcpu_run.specs.Heard.{TellsPairs}
use Rattle.vcpu_run.specs.RowsCopied.{shown_to}

-- From one moment to another: whatever tells all that the pairs then show tells all that they showed before, and by it the rows of the
-- later moment lead to its blocks, where those of the earlier one led to the blocks as they were.
abbrev pub LastsBy : (copies copies' : List CopyRecord) → (pairs pairs' : List Pair) → (rows rows' : List Served) → (now now' : Option (List (List ℕ))) → Type 0
LastsBy copies copies' pairs pairs' rows rows' now now' =
    (told : Told → Bool) → TellsPairs told copies' pairs' → TellsPairs told copies pairs × KeepsDiskBy told rows rows' now now'

-- Nothing is told to a server unit that has a client but what the trace shows.
abbrev pub TellsShown : List Partition → Trace → (told : Told → Bool) → Type 0
TellsShown partitions trace told =
    (server client : UnitId) → IsServer partitions server → IsClientOf partitions client server
    → Includes (told_to told server) (shown_to partitions trace server client)

-- What pairs show is told, and nothing but what the trace shows.
pub record IsShownAll (partitions : List Partition) (trace : Trace) (copies : List CopyRecord) (pairs : List Pair) : Type 0 where
  pub told : Told → Bool
  pub all : TellsPairs told copies pairs
  pub only : TellsShown partitions trace told

-- By news that the trace shows, rows lead to blocks where these rows before them led to blocks.
pub record KeepsCaused (partitions : List Partition) (trace : Trace) (rows : List Served) (before after : Option (List (List ℕ))) : Type 0 where
  pub told : Told → Bool
  pub only : TellsShown partitions trace told
  pub keeps : KeepsDiskBy told rows trace.serves before after

-- By news that the trace shows, its rows lead from the blocks of an image to those that it then has, each with its cause.
pub record AreCaused (partitions : List Partition) (trace : Trace) (before after : List (List ℕ)) : Type 0 where
  pub told : Told → Bool
  pub only : TellsShown partitions trace told
  pub serve : ServeBy told before trace.serves after

-- where the image tells them
abbrev pub LeadsCaused : List Partition → Trace → (before after : Option (List (List ℕ))) → Type 0
LeadsCaused partitions trace before after = IfSome before (λ first. IfSome after (λ last. AreCaused partitions trace first last))

-- By news that the trace shows, each of its rows that is answered is in form, on a disk of so many blocks, whatever the image tells of them.
pub record RowsAreInForm (partitions : List Partition) (trace : Trace) (size : ℕ) : Type 0 where
  pub told : Told → Bool
  pub only : TellsShown partitions trace told
  pub formed : All (λ row. (row.answer ≡ []) ⊎ IsFormed size told row) trace.serves
