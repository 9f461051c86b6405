-- What a server unit knows of its queue's end, of its own window and of its client's, and what stays of it; and the copies
-- that the server made.
use Rattle.std.specs.Prelude.{◌≡◌, ◌≢◌, ◌*◌, ◌+◌, ◌<◌, ℕ, Bool, List, [], ◌∷◌}
use Rattle.std.specs.Borrow.{GName}
use Rattle.crq_session.specs.EndState.{EndState}
use Rattle.tce_window.specs.PortState.{PortState}
use Rattle.tce_window.specs.declared.answers.Right.{Right}
use Rattle.rdma_copy.specs.declared.copy.CopyRecord.{CopyRecord}
use Rattle.block_server.specs.Causes.{IsDenied}

-- the borrows through which the queue's end and the two windows are reached, by their ghost names, and whether others change the
-- link of the queue
pub record Lenders : Type 0 where
  pub queue : GName
  pub own : GName
  pub client : GName
  pub copies : GName
  pub link_shared : Bool

abbrev pub lenders : GName → GName → GName → GName → (link_shared : Bool) → Lenders
lenders queue own client copies link_shared =
    record { queue = queue; own = own; client = client; copies = copies; link_shared = link_shared }

pub record SiteState : Type 0 where
  pub reached : Lenders
  pub queue : EndState
  pub own : PortState
  pub client : PortState
  -- whether others have a hand in the client's window
  pub shared : Bool
  -- the copies that the server made, of all its units, in the order of time
  pub copies : List CopyRecord

abbrev pub site : Lenders → EndState → PortState → PortState → (shared : Bool) → List CopyRecord → SiteState
site reached queue own client shared copies =
    record { reached = reached; queue = queue; own = own; client = client; shared = shared; copies = copies }

-- A range of the client's window was refused for a right between these two states.
abbrev pub IsDeniedBetween : (old new : SiteState) → Right → (address len : ℕ) → Type 0
IsDeniedBetween old new right address len = IsDenied old.shared old.client new.client right address len

-- The windows of a turn: the unit's own has 34 pages and its first values, neither holds anything, and they are of two
-- units.
pub record AreReady (own client : PortState) : Type 0 where
  pub size : own.place.size ≡ 34
  pub first : (e : ℕ) → e < 34 → own.values e ≡ (4096 * e + 3) ∷ []
  pub own_free : own.held_count ≡ 0
  pub client_free : client.held_count ≡ 0
  pub apart : client.place.unit ≢ own.place.unit

-- Neither window changed, and no copy was made.
pub record SameWindows (old new : SiteState) : Type 0 where
  pub reached : new.reached ≡ old.reached
  pub copies : new.copies ≡ old.copies
  pub own : new.own ≡ old.own
  pub client : new.client ≡ old.client
