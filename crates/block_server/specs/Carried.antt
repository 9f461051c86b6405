-- Which copies moved the data of a command: byte by byte, the part in which a byte was copied, and its I/O address (SRP,
-- "Data buffer descriptor formats").
use Rattle.std.specs.Prelude.{◌≡◌, ◌⊎◌, ◌+◌, ◌-◌, ◌*◌, ◌<◌, ◌≤◌, ℕ, Bool, List, [], ◌∷◌, Option, Some, None, if◌then◌else◌, length, nat_lt, slice_index}
use Rattle.tce_window.specs.declared.piece.TheConstants.{MOST_BYTES}
use Rattle.vio_num.specs.declared.TheConstants.{PAGE_BYTES}
use Rattle.vio_num.specs.declared.history.Served.{Served}
use Rattle.srp_iu.specs.Grammar.{Spells}
use Rattle.srp_iu.specs.Layout.{field}
use Rattle.srp_iu.specs.declared.buffer.Desc.{Desc}
use Rattle.srp_iu.specs.declared.command.Cmd.{Cmd}
use Rattle.srp_iu.specs.declared.unit.Iu.TheVariants as units
use Rattle.block_server.specs.Causes.{Hearing, IsNamed, Told, told_to}
use Rattle.block_server.specs.Causes.News.{delivered, fetched}

-- the address of page 2 of a unit's own window, from which on data lie
abbrev pub data_at : ℕ
data_at = 2 * PAGE_BYTES

-- the I/O address of byte k of the data that pieces name
abbrev pub address_of : List Desc → (k : ℕ) → Option ℕ
address_of [] k = None
address_of (piece ∷ pieces) k = if nat_lt k piece.len then Some (piece.address + k) else address_of pieces (k - piece.len)

-- what a copy of data may be, between these addresses of the own window and of the client's, with these bytes
abbrev pub Copying : Type 1
Copying = (at address : ℕ) → List ℕ → Type 0

-- A copy carried byte k of the data that pieces name, which is this: a part of at most 65,536 bytes from `at` on, at its place
-- in the own window, in which the byte lay at the address that the pieces name.
pub record IsCarried (Carries : Copying) (pieces : List Desc) (k value : ℕ) : Type 0 where
  pub at : ℕ
  pub address : ℕ
  pub part : List ℕ
  pub carried : Carries (data_at + at) address part
  pub few : length part ≤ MOST_BYTES
  pub from : at ≤ k
  pub to : k < at + length part
  pub there : address_of pieces k ≡ Some (address + (k - at))
  pub value_is : slice_index part (k - at) ≡ value

-- that a unit was told of a copy of data to its client, under this mark
abbrev pub delivery : Hearing → (mark : ℕ) → Copying
delivery Hears mark at address part = Hears (delivered at address mark part)

-- Each of the first n of these bytes was delivered, under this tag.
abbrev pub AreDelivered : Hearing → (tag : ℕ) → List Desc → (n : ℕ) → List ℕ → Type 0
AreDelivered Hears tag pieces n bytes = (k : ℕ) → k < n → IsCarried (delivery Hears tag) pieces k (slice_index bytes k)

-- The row is of a command, and all its data-in were delivered to the pieces of its buffer, under the request's tag.
pub record HasDelivered (Hears : Hearing) (row : Served) : Type 0 where
  pub command : Cmd
  pub spells : Spells row.iu (units.Cmd command)
  pub inns : List Desc
  pub in_named : IsNamed Hears command.inn inns
  pub all : AreDelivered Hears (field 8 8 row.iu) inns (length row.inn) row.inn

-- A row says no data-in, or those that copies delivered.
abbrev pub IsDelivered : (told : Told → Bool) → Served → Type 0
IsDelivered told row = (row.inn ≡ []) ⊎ HasDelivered (told_to told row.unit) row

-- that a unit was told of a copy of data from its client
abbrev pub fetch : Hearing → Copying
fetch Hears at address part = Hears (fetched address at part)

-- Each of the first n bytes, which are these, was fetched.
abbrev pub AreFetched : Hearing → List Desc → (n : ℕ) → (bytes : ℕ → ℕ) → Type 0
AreFetched Hears pieces n bytes = (k : ℕ) → k < n → IsCarried (fetch Hears) pieces k (bytes k)

-- The row is of a command, and all its data-out were fetched from the pieces of its buffer.
pub record HasOutFetched (Hears : Hearing) (row : Served) : Type 0 where
  pub command : Cmd
  pub spells : Spells row.iu (units.Cmd command)
  pub outs : List Desc
  pub out_named : IsNamed Hears command.out outs
  pub all : AreFetched Hears outs (length row.out) (slice_index row.out)

-- A row says no data-out, or those that copies fetched.
abbrev pub IsOutFetched : (told : Told → Bool) → Served → Type 0
IsOutFetched told row = (row.out ≡ []) ⊎ HasOutFetched (told_to told row.unit) row
