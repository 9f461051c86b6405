-- What a client is after a call, from what its fields are.
use Rattle.std.proofs.Common.{◌≡◌, ℕ, List, [], ◌∷◌, ◌++◌, Option, Some, None, ap}
use Rattle.vscsi_client.specs.declared.answers.Refused.{Refused}
use Rattle.vscsi_client.specs.declared.outgoing.Outgoing.{Outgoing}
use Rattle.vscsi_client.specs.declared.op.Op.{Op}
use Rattle.vscsi_client.specs.declared.row.Row.{Row}
use Rattle.vscsi_client.specs.declared.row.Row.TheVariants as rows
use Rattle.vscsi_client.specs.declared.table.Table.{Table}
use Rattle.vscsi_client.specs.State.{ClientState, next_tag}
use Rattle.vscsi_client.specs.Sending.{tabled_by, tabled_after, request_of, task_of, with_command, with_task, with_logout}

pub rows_is : (v s : ClientState) (rs : List Row) → v ≡ s → rs ≡ v.rows → record v { rows = rs } ≡ s
rows_is v s rs is er = rw er is

pub tabled_is : (v s : ClientState) (rs : List Row) (t u : Option Table) (why : Refused) (line : ℕ) (op : Op) → v ≡ s → rs ≡ v.rows
    → t ≡ tabled_after why u → u ≡ tabled_by line op op.table v.tabled
    → record v { rows = rs; tabled = t } ≡ record s { tabled = tabled_after why (tabled_by line op op.table s.tabled) }
tabled_is v s rs t u why line op is er et eu =
    rw (er, et, eu) (ap (λ (x : ClientState). record x { tabled = tabled_after why (tabled_by line op op.table x.tabled) }) is)

pub command_is : (v s : ClientState) (g : Option ℕ) (os : List Outgoing) (rs : List Row) (r : Outgoing) (row : Row) (op : Op) (t slot : ℕ)
    → v ≡ s → t ≡ next_tag v → g ≡ v.granted → os ≡ v.outgoing ++ r ∷ [] → r ≡ request_of op t slot
    → rs ≡ v.rows ++ row ∷ [] → row ≡ rows.Command op.dir op.at op.len None
    → record v { granted = g; outgoing = os; tabled = None; rows = rs } ≡ with_command op slot s
command_is v s g os rs r row op t slot is et eg eo er ers erow =
    rw (eg, eo, er, et, ers, erow) (ap (with_command op slot) is)

pub task_is : (v s : ClientState) (g : Option ℕ) (os : List Outgoing) (rs : List Row) (r : Outgoing) (t slot : ℕ)
    → v ≡ s → t ≡ next_tag v → g ≡ v.granted → os ≡ v.outgoing ++ r ∷ [] → r ≡ task_of t slot → rs ≡ v.rows ++ rows.Task ∷ []
    → record v { granted = g; outgoing = os; rows = rs } ≡ with_task slot s
task_is v s g os rs r t slot is et eg eo er ers = rw (eg, eo, er, et, ers) (ap (with_task slot) is)

pub logout_is : (v s : ClientState) (g : Option ℕ) (rs : List Row) (slot : ℕ)
    → v ≡ s → g ≡ None → rs ≡ v.rows ++ rows.Logout ∷ []
    → record v { granted = g; logout = Some slot; rows = rs } ≡ with_logout slot s
logout_is v s g rs slot is eg ers = rw (eg, ers) (ap (with_logout slot) is)
