-- Requests: each SRP entry that a server unit took has a fate, and of each login the rows are its requests, each once and in
-- order (SRP, "Flow control").
use Rattle.std.specs.Prelude.{◌≡◌, ◌<◌, ◌≤◌, ℕ, true, All, List, [], length, map}
use Rattle.vio_num.specs.declared.names.UnitId.{UnitId}
use Rattle.block_server.specs.Closings.{HasCauses}
use Rattle.block_server.specs.Judged.{HasLimit, IsWorkDone, Judged, keys_of, row_numbers}
use Rattle.block_server.specs.Makers.{same_unit}
use Rattle.block_server.specs.Numbers.{NameLogins, Rise, granted_numbers}
use Rattle.block_server.specs.Receipts.{EndedFor}
use Rattle.boot_text.specs.Sound.{IsClientOf, IsServer}
use Rattle.boot_text.specs.declared.plan.Partition.{Partition}
use Rattle.vio_trace.specs.declared.rows.Trace.{Trace}
use Rattle.vcpu_run.specs.Intake.{IsTakenIn, entries_taken}
use Rattle.vcpu_run.specs.Shown.{sessions_of}

-- Each SRP entry that the server unit took has a receipt, and one fate: it ended its session; its unit asks nothing; it asks for a
-- login; it asks to end its login; or it is a command or a task under a login that was granted in its session before it. Of each
-- login the rows are the first of its commands and tasks, each once and in order, with the bytes that were fetched: all of them,
-- unless a line ends the login for another cause than its client's logout. No row is of no login. And each line on its logins has
-- the cause that it says, in what the unit took and in these fates; one that says more was outstanding than granted says exactly how
-- many of the login's commands and tasks had no answer. The logins that its lines grant have the numbers from 1, in their order, each line that
-- ends one names the login that is on; and in each session the numbers of the entries over which logins were granted rise, and those of
-- the entries that have rows. Each session before the last of the unit's queue ended for another cause than a logout and a loss, and a line says so.
pub record IsServedIn (partitions : List Partition) (trace : Trace) (server client : UnitId) : Type 0 where
  pub judged : List Judged
  pub taken : IsTakenIn partitions trace server client
  pub receipts : map (λ j. j.receipt) judged ≡ taken.receipts
  pub done : IsWorkDone server trace.serves trace.grants judged
  pub under : All (λ row. same_unit row.unit server ≡ true → 1 ≤ row.login) (keys_of trace.serves)
  pub causes : HasCauses server (entries_taken trace server) judged trace.grants
  pub limits : All (HasLimit server (keys_of trace.serves) judged) trace.grants
  pub numbers : NameLogins server [] trace.grants
  pub rising : (session : ℕ) → Rise (granted_numbers server session trace.grants)
  pub rows : (session : ℕ) → Rise (row_numbers server session (keys_of trace.serves))
  pub closed : (session : ℕ) → 1 ≤ session → session < length (sessions_of trace server) → EndedFor server session trace.grants

-- of each server unit that has a client
abbrev pub RequestsAreServed : List Partition → Trace → Type 0
RequestsAreServed partitions trace =
    (server client : UnitId) → IsServer partitions server → IsClientOf partitions client server → ∥ IsServedIn partitions trace server client ∥₁
