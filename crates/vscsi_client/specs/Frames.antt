-- What the calls of a client leave of its end and of its window.
use Rattle.std.specs.Prelude.{◌≡◌, ◌⊎◌, ℕ, ◌≤◌, ◌++◌, Bool, false, List}
use Rattle.crq_ring.specs.declared.rows.PipeRow.{PipeRow}
use Rattle.crq_session.specs.Answered.{HoldsUp, Opens}
use Rattle.crq_session.specs.EndState.{EndState, OnlyRegisters, OnlyReserves, Rises}

-- More rows stand behind those of before.
pub record HasMore (old new : List PipeRow) : Type 0 where
  pub rows : List PipeRow
  pub is : new ≡ old ++ rows

-- Taking entries and sending some changes neither the place nor the registration, and no count falls. While the own queue is not
-- registered nothing is sent.
pub record KeepsEnd (shared : Bool) (old new : EndState) : Type 0 where
  pub place : new.place ≡ old.place
  pub last_session : new.last_session ≡ old.last_session
  pub registered : new.registered ≡ old.registered
  pub kept : new.kept ≡ old.kept
  pub sent : HasMore old.sent new.sent
  pub unsent : old.registered ≡ false → new.sent ≡ old.sent
  pub counts : Rises shared old.counts new.counts
  pub in_use : new.counts.in_use ≡ old.counts.in_use

-- The own queue was to be registered: a session began, or the kept event still found its slot full.
pub record MeetsEvent (shared : Bool) (old new : EndState) : Type 0 where
  pub number : ℕ
  pub held : ℕ
  pub still : HoldsUp shared old new number held

pub record Renews (shared : Bool) (old new : EndState) : Type 0 where
  pub room : EndState
  pub ready : OnlyReserves old room
  pub opens : Opens shared room new ⊎ MeetsEvent shared room new

-- Or it was registered already, or memory ran out.
pub record IsOpened (shared : Bool) (old new : EndState) : Type 0 where
  pub rest : OnlyRegisters shared old new
  pub opens : OnlyReserves old new ⊎ Renews shared old new

-- A turn of a login changes no place, and no count falls: the own queue is registered, and then entries are taken and put.
pub record OnlyTurns (shared : Bool) (old new : EndState) : Type 0 where
  pub place : new.place ≡ old.place
  pub last_session : old.last_session ≤ new.last_session
  pub counts : Rises shared old.counts new.counts
  pub in_use : new.counts.in_use ≡ old.counts.in_use
  pub opened : EndState
  pub opens : IsOpened shared old opened
  pub later : KeepsEnd shared opened new
