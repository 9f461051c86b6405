-- The entries of a range, pinned by a seat in rising order, and released.
use Rattle.std.specs.Prelude.{◌≡◌, ℕ, zero, suc, ◌+◌, ◌/◌, ◌<◌, ◌≤◌, ◌==◌, if◌then◌else◌, true, All, List, [], ◌∷◌, ◌++◌, length, map}
use Rattle.vio_num.specs.declared.TheConstants.{PAGE_BYTES}
use Rattle.vio_num.specs.declared.names.UnitId.{UnitId}
use Rattle.vio_num.specs.Words.{Begins}
use Rattle.tce_window.specs.declared.answers.HoldFault.{HoldFault}
use Rattle.tce_window.specs.declared.answers.HoldFault.TheVariants.{NotGranted}
use Rattle.tce_window.specs.declared.answers.Right.{Right}
use Rattle.tce_window.specs.declared.answers.TceRow.{TceRow}
use Rattle.tce_window.specs.declared.piece.Piece.{Piece}
use Rattle.tce_window.specs.Grant.{values_of}
use Rattle.tce_window.specs.Pieces.{IsPieceAt, Touches, IsGranted, IsLast, MayUse, IsUsable, IsRefused, IsRefusedAt, IsOfEntry}
use Rattle.entry_slots.specs.Entries.{EntrySeatValue, IsPinned}
use Rattle.entry_slots.specs.Words.{version_in}

-- Entry e is held too, and no entry that was held has a later value than was known; a seat that puts values knew all.
pub record PinsOne (old : EntrySeatValue) (e : ℕ) (new : EntrySeatValue) : Type 0 where
  pub known : Begins old.rows new.rows
  pub kept : (i : ℕ) → IsPinned old i → values_of new.rows i ≡ values_of old.rows i
  pub own : old.owns ≡ true → new.rows ≡ old.rows
  pub from : new.held_from ≡ (if old.held_count == 0 then e else old.held_from)
  pub count : new.held_count ≡ old.held_count + 1
  pub none_released : new.released ≡ []
  pub table : new.entries ≡ old.entries
  pub owns : new.owns ≡ old.owns

-- The entry of this address, one of n, is held too, and is the entry of the piece with which a range of `left` bytes
-- begins. Its last value grants the right.
pub record PinsPiece (unit : UnitId) (n : ℕ) (right : Right) (address left : ℕ) (old : EntrySeatValue) (piece : Piece) (new : EntrySeatValue) : Type 0 where
  pub pin : PinsOne old (address / PAGE_BYTES) new
  pub piece_is : IsPieceAt unit address (address + left) piece
  pub granted : IsGranted (values_of new.rows) right piece
  pub last : IsLast (values_of new.rows) piece
  pub usable : MayUse (values_of new.rows) right (address / PAGE_BYTES)
  pub inside : address / PAGE_BYTES < n
  pub page : piece.page < n

-- how many entries more are held where an entry was refused: one that lacks the right was pinned to see it
abbrev pub pinned_by : HoldFault → ℕ
pinned_by (NotGranted entry version tce) = 1
pinned_by _ = 0

abbrev pub PinsFor : HoldFault → EntrySeatValue → ℕ → EntrySeatValue → Type 0
PinsFor (NotGranted entry version tce) old e new = PinsOne old e new
PinsFor _ old e new = new ≡ old

-- The entry of this address is past the window or lacks the right.
pub record RefusesPiece (n : ℕ) (right : Right) (address : ℕ) (old : EntrySeatValue) (fault : HoldFault) (new : EntrySeatValue) : Type 0 where
  pub cause : IsRefusedAt (values_of new.rows) right n (address / PAGE_BYTES) fault
  pub pins : PinsFor fault old (address / PAGE_BYTES) new

-- The seat held nothing, and holds so many entries, from this one on. One that puts values knew all of them.
pub record PinsUpTo (old : EntrySeatValue) (first count : ℕ) (new : EntrySeatValue) : Type 0 where
  pub known : Begins old.rows new.rows
  pub own : old.owns ≡ true → new.rows ≡ old.rows
  pub from : 0 < count → new.held_from ≡ first
  pub count_is : new.held_count ≡ count
  pub table : new.entries ≡ old.entries
  pub owns : new.owns ≡ old.owns

-- A range of `len` bytes is held: its pieces, granted at the last values of their entries, which the seat knows.
pub record PinsRange (unit : UnitId) (n : ℕ) (right : Right) (ioba len : ℕ) (old : EntrySeatValue) (pieces : List Piece) (new : EntrySeatValue) : Type 0 where
  pub pins : PinsUpTo old (ioba / PAGE_BYTES) (length pieces) new
  pub touched : Touches unit ioba (ioba + len) pieces
  pub granted : All (IsGranted (values_of new.rows) right) pieces
  pub last : All (IsLast (values_of new.rows)) pieces
  pub usable : IsUsable (values_of new.rows) right n ioba len
  pub pages : All (λ piece. piece.page < n) pieces
  pub some : 1 ≤ length pieces
  pub inside : ioba / PAGE_BYTES + length pieces ≤ n

-- The range is refused, and nothing is held.
pub record RefusesRange (n : ℕ) (right : Right) (ioba len : ℕ) (old : EntrySeatValue) (fault : HoldFault) (new : EntrySeatValue) : Type 0 where
  pub pins : PinsUpTo old 0 0 new
  pub cause : IsRefused (values_of new.rows) right n ioba len fault
  pub entry : IsOfEntry fault

-- how many values are known of so many entries, from this one on
abbrev pub counts_from : List TceRow → (first count : ℕ) → List ℕ
counts_from rows first zero = []
counts_from rows first (suc count) = length (values_of rows first) ∷ counts_from rows (first + 1) count

-- So many of the entries held are released, the first ones. The words that were read show the versions that the seat knew
-- as the last: none of these entries took a value while it was held.
pub record Releases (old : EntrySeatValue) (count : ℕ) (new : EntrySeatValue) : Type 0 where
  pub words : List ℕ
  pub released : new.released ≡ old.released ++ words
  pub versions : map (λ word. version_in word + 1) words ≡ counts_from old.rows old.held_from count
  pub rows : new.rows ≡ old.rows
  pub from : new.held_from ≡ old.held_from + count
  pub left : new.held_count + count ≡ old.held_count
  pub last : new.last ≡ old.last
  pub table : new.entries ≡ old.entries
  pub owns : new.owns ≡ old.owns

-- The seat puts values if it did before, and then knows the same ones.
pub record KeepsOwn (old new : EntrySeatValue) : Type 0 where
  pub owns : new.owns ≡ old.owns
  pub rows : old.owns ≡ true → new.rows ≡ old.rows
