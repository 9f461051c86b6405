-- A server and its pairs between the turns of its units: what was served, how the server goes on, and what turns leave of the pairs.
use Rattle.std.specs.Prelude.{◌≡◌, ℕ, ⊤, List, slice_get}
use Rattle.vio_io.specs.declared.outside.Blocks.{Ghosts}
use Rattle.vio_num.specs.Words.{Begins}
use Rattle.rdma_copy.specs.declared.copy.CopyRecord.{CopyRecord}
use Rattle.block_server.specs.TurnTold.{Stock}
use Rattle.block_server.specs.declared.server.Server.{Server}
use Rattle.vcpu_run.specs.declared.pair.Pair.{Pair}
use Rattle.vcpu_run.specs.Agreed.{SameDrivers}
use Rattle.vcpu_run.specs.Answered.{AreAnswered}
use Rattle.vcpu_run.specs.Caused.{LastsBy}
use Rattle.vcpu_run.specs.Freed.{FreesNoneIf}
use Rattle.vcpu_run.specs.Grants.{KeepsGrants}
use Rattle.vcpu_run.specs.Heard.{AreHeard}
use Rattle.vcpu_run.specs.Machines.{AllStay}
use Rattle.vcpu_run.specs.OnDisk.{LastsOnDisk}
use Rattle.vcpu_run.specs.PlainPairs.{ServerBooks, SparesUnit, books_of}
use Rattle.vcpu_run.specs.Received.{AreReceived}
use Rattle.vcpu_run.specs.ScriptTold.{SameClients}

-- the books of a server
abbrev pub books_at : Stock → ServerBooks
books_at now = books_of now.units now.records.grants.items now.records.history.items

abbrev pub books_in : {B : Type 0} {g : Ghosts B} → Server B g → ServerBooks
books_in {B} {g} server = books_of server.units.items server.records.grants.items server.records.history.items

-- What is so of what was served at all pairs.
pub record AllServed (now : Stock) (pairs : List Pair) : Type 0 where
  -- The responses that each client's queue got are those of the rows.
  pub answered : AreAnswered now.records.history.items pairs
  -- Each entry that a server unit took has its receipt and its fate.
  pub received : AreReceived now.units now.copies now.records.grants.items now.records.history.items pairs
  -- By what the windows told, the units are in order, and rows and lines have their causes.
  pub heard : AreHeard now.count now.partition now.units now.records now.copies pairs

-- How a server lasts, from one moment to another.
pub record ServerLasts (old new : Stock) : Type 0 where
  -- It has the same partition, and a disk of as many blocks.
  pub partition : new.partition ≡ old.partition
  pub count : new.count ≡ old.count
  -- Where each login granted so many, each does so still.
  pub grants : KeepsGrants old.units new.units old.records.grants.items new.records.grants.items
  -- Its rows keep the law of the disk.
  pub disk : LastsOnDisk old.records.history.items new.records.history.items old.blocks new.blocks

-- The same of a server with its pairs: each row has its cause in what they show.
pub record ServesOn (old new : Stock) (pairs pairs' : List Pair) : Type 0 where
  pub lasts : ServerLasts old new
  pub causes : LastsBy old.copies new.copies pairs pairs' old.records.history.items new.records.history.items old.blocks new.blocks

-- What turns of server units leave of the pairs.
pub record SparesClients (before after : List CopyRecord) (old new : List Pair) : Type 0 where
  -- More copies stand behind those that were made.
  pub copies : Begins before after
  -- The pairs have what they had, and each client is as before.
  pub stay : AllStay old new
  pub drivers : SameDrivers old new
  pub clients : SameClients old new
  -- No client's queue that was registered is freed.
  pub stays : FreesNoneIf (λ _. ⊤) old new

-- The unit k, another than the one whose turn it was: it is as before, and so are its pair and its books.
pub record StaysAside (old new : Stock) (before after : List Pair) (k : ℕ) : Type 0 where
  pub unit : slice_get new.units k ≡ slice_get old.units k
  pub pair : slice_get after k ≡ slice_get before k
  pub books : SparesUnit old.partition (books_at old) (books_at new) k
