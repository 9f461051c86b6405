-- Where in the pieces of a command's data a copy goes on.
use Rattle.std.specs.Prelude.{◌≡◌, ◌+◌, ◌<◌, ◌≤◌, ℕ, ⊤, List, [], ◌∷◌, Option, Some, None, drop, length, take}
use Rattle.srp_iu.specs.declared.buffer.Desc.{Desc}
use Rattle.srp_desc.specs.Pieces.{sum_of}
use Rattle.block_server.specs.Carried.{address_of}
use Rattle.block_server.specs.Causes.{IsPartOf, ReachesPast}
use Rattle.block_server.specs.Runs.{IsPart}
use Rattle.block_server.specs.declared.cursor.Cursor.{Cursor}

-- A run of bytes from this address on lies in one of the pieces, or has none since a piece reaches past every address.
abbrev pub LiesIn : List Desc → Option ℕ → (len : ℕ) → Type 0
LiesIn list (Some address) len = IsPartOf list address len
LiesIn list None len = ReachesPast list

-- Each byte of a run that begins at this place of the data lies at the address that the pieces name, the first at this one.
abbrev pub LiesAt : List Desc → (at : ℕ) → Option ℕ → (len : ℕ) → Type 0
LiesAt list at (Some address) len = (j : ℕ) → j < len → address_of list (at + j) ≡ Some (address + j)
LiesAt list at None len = ⊤

-- It is the part that a copy moves next, of as many of the data as are wanted, if it has an address.
abbrev pub IsPartAt : List Desc → (wanted at : ℕ) → Option ℕ → (len : ℕ) → Type 0
IsPartAt list wanted at (Some address) len = IsPart list wanted at address len
IsPartAt list wanted at None len = ⊤

-- as many bytes as the first piece has, if there is one
abbrev pub first_len : List Desc → ℕ
first_len [] = 0
first_len (piece ∷ pieces) = piece.len

-- A place in the data of pieces: all pieces before its piece are behind it, and so many bytes of that.
pub record IsPlacedAt (list : List Desc) (cursor : Cursor) : Type 0 where
  pub one : cursor.piece ≤ length list
  pub done_is : cursor.done ≡ sum_of (take cursor.piece list) + cursor.inside
  pub inside : cursor.inside ≤ first_len (drop cursor.piece list)
