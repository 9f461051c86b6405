-- The plan that the boot text of a seed says: a partition of eight server units, and eight partitions of a client each.
use Rattle.std.specs.Prelude.{ℕ, zero, suc, ◌+◌, ◌/◌, ◌%◌, ◌^◌, ◌++◌, List, [], ◌∷◌, None, replicate}
use Rattle.boot_text.specs.declared.plan.Line.{Line}
use Rattle.boot_text.specs.declared.plan.Partition.{Partition}
use Rattle.boot_text.specs.declared.plan.Plan.{Plan}
use Rattle.boot_text.specs.declared.plan.UnitPlan.TheVariants as units
use Rattle.boot_text.specs.declared.verb.Verb.{Verb}
use Rattle.boot_text.specs.declared.verb.Verb.TheVariants as verbs
use Rattle.paprvio.specs.Generated.{after, blocks_in, bytes_in, drawn, first_in}

-- the lines of a script of one unit that do this, from this line of the text on
unfoldable pub numbered : ℕ → List Verb → List Line
numbered n [] = []
numbered n (verb ∷ more) = record { number = n; unit = 0; verb = verb } ∷ numbered (n + 1) more

-- what a transfer does: the pattern is laid, written, and read back to another place
abbrev pub transfer_verbs : (client x : ℕ) → List Verb
transfer_verbs client x =
    verbs.Fill 65536 (bytes_in x) (x / 256 % 256) ∷ verbs.Write (first_in client x) (blocks_in x) 65536 1 None ∷ verbs.Take 1
    ∷ verbs.Read (first_in client x) (blocks_in x) 98304 1 None ∷ verbs.Take 1 ∷ []

-- so many transfers of a client, behind the draw x
unfoldable pub transfers_verbs : (count client x : ℕ) → List Verb
transfers_verbs zero client x = []
transfers_verbs (suc count) client x = transfer_verbs client (drawn x) ++ transfers_verbs count client (drawn x)

-- the partition of a client, whose script begins at this line
abbrev pub client_partition : (client x line : ℕ) → Partition
client_partition client x line = record {
  units = units.Client (record { partition = 0; unit = client }) 64 1 ∷ [];
  lines = numbered line (verbs.Login ∷ transfers_verbs 64 client x);
}

-- so many from this number on, behind the draw x, of which the first begins at this line
unfoldable pub client_partitions : (count number x line : ℕ) → List Partition
client_partitions zero number x line = []
client_partitions (suc count) number x line = client_partition number x (line + 2) ∷ client_partitions count (number + 1) (after 64 x) (line + 324)

abbrev pub server_partition : Partition
server_partition = record { units = replicate 8 (units.Server 1); lines = [] }

-- those of a seed
abbrev pub generated_partitions : ℕ → List Partition
generated_partitions seed = server_partition ∷ client_partitions 8 0 (seed % 2 ^ 31) 14

-- the plan of a seed
abbrev pub generated_plan : ℕ → Plan
generated_plan seed = record { rounds = 4096; grant = 8; partitions = generated_partitions seed }
