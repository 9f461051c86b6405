-- What a call finds of its queue and its region, what it writes, and how a unit is put.
use Rattle.std.specs.Prelude.{◌≡◌, ◌⊎◌, ℕ, Bool, true, false, List, [], ◌∷◌, length}
use Rattle.vio_num.specs.Counts.{Rose}
use Rattle.vio_num.specs.Entry.{srp_entry}
use Rattle.crq_session.specs.EndState.{EndState, OnlyReserves}
use Rattle.crq_session.specs.Answered.{MaySend, Sends, SendsNone, TurnsBack, FindsFull}
use Rattle.tce_window.specs.PortState.{PortState, FindsInUse, LaysNone, OnlyWrites, Writes}
use Rattle.vscsi_client.specs.declared.answers.Refused.{Refused}
use Rattle.vscsi_client.specs.declared.answers.Refused.TheVariants.{InUse, Closed, Dropped, NoMemory}
use Rattle.vscsi_client.specs.Units.{slot_address}

-- the end and the window, and whether others have a hand in them
pub record Ports : Type 0 where
  pub crq_shared : Bool
  pub crq : EndState
  pub own_shared : Bool
  pub own : PortState

abbrev pub ports : Bool → EndState → Bool → PortState → Ports
ports crq_shared crq own_shared own = record { crq_shared = crq_shared; crq = crq; own_shared = own_shared; own = own }

-- bytes that the owner writes at an address
pub record Write : Type 0 where
  pub at : ℕ
  pub bytes : List ℕ

-- one write was made, under this mark
abbrev pub Lays : Bool → (mark : ℕ) → Write → PortState → PortState → Type 0
Lays shared mark write old new = Writes shared old write.at write.bytes mark new × OnlyWrites old new

-- these were made, one after another, and nothing else was called
abbrev pub LaysAll : Bool → (mark : ℕ) → List Write → PortState → PortState → Type 0
LaysAll shared mark [] old new = new ≡ old
LaysAll shared mark (write ∷ writes) old new = (middle : PortState) × Lays shared mark write old middle × LaysAll shared mark writes middle new

-- the write met a page in use, and laid nothing
pub record MeetsUse (shared : Bool) (write : Write) (old new : PortState) (page : ℕ) : Type 0 where
  pub in_use : FindsInUse shared old write.at (length write.bytes) page
  pub rose : Rose old.in_use new.in_use
  pub none : LaysNone shared old new

-- the one write of this list met a page in use
abbrev pub OneMeetsUse : Bool → List Write → PortState → PortState → (page : ℕ) → Type 0
OneMeetsUse shared (write ∷ []) old new page = MeetsUse shared write old new page
OneMeetsUse shared _ old new page = ⊥

-- why the one write of this list was not made: a page was in use, or memory ran out
abbrev pub WhyNotWritten : Bool → List Write → PortState → PortState → Refused → Type 0
WhyNotWritten shared writes old new (InUse page word) = OneMeetsUse shared writes old new page
WhyNotWritten shared writes old new NoMemory = LaysNone shared old new
WhyNotWritten shared writes old new _ = ⊥

-- the write of a unit into its slot
abbrev pub unit_write : ℕ → List ℕ → Write
unit_write slot unit = record { at = slot_address slot; bytes = unit }

-- the unit was written into its slot, under the mark of its line
abbrev pub UnitLaid : (line slot : ℕ) → List ℕ → Ports → Ports → Type 0
UnitLaid line slot unit old new = Lays old.own_shared line (unit_write slot unit) old.own new.own

-- the unit was written, and the entry that names it was put, since the own queue is registered
pub record UnitPut (line slot : ℕ) (unit : List ℕ) (old new : Ports) : Type 0 where
  pub laid : UnitLaid line slot unit old new
  pub number : ℕ
  pub may : MaySend old.crq (srp_entry (length unit) (slot_address slot))
  pub sent : Sends old.crq_shared old.crq (srp_entry (length unit) (slot_address slot)) new.crq number

-- a queue was closed: the own one, without a word, or the partner's, as this word shows
abbrev pub MeetsClosed : Ports → Ports → (control : ℕ) → Type 0
MeetsClosed old new control =
    ((old.crq.registered ≡ false) × (control ≡ 0) × SendsNone old.crq new.crq)
    ⊎ ((old.crq.registered ≡ true) × TurnsBack old.crq_shared old.crq new.crq control)

-- the slot of this number in the partner's queue was full
abbrev pub MeetsFull : Ports → Ports → (number held : ℕ) → Type 0
MeetsFull old new number held = (old.crq.registered ≡ true) × FindsFull old.crq_shared old.crq new.crq number held

-- nothing was sent, and nothing written
abbrev pub DoesNothing : Ports → Ports → Type 0
DoesNothing old new = SendsNone old.crq new.crq × LaysNone old.own_shared old.own new.own

-- why the unit's entry was not put: its page was in use, a queue was closed, a slot was full, or memory ran out.
-- A unit that met a closed queue or a full slot stays written
abbrev pub WhyNotPut : (line slot : ℕ) → List ℕ → Ports → Ports → Refused → Type 0
WhyNotPut line slot unit old new (InUse page word) =
    SendsNone old.crq new.crq × MeetsUse old.own_shared (unit_write slot unit) old.own new.own page
WhyNotPut line slot unit old new (Closed control) = UnitLaid line slot unit old new × MeetsClosed old new control
WhyNotPut line slot unit old new (Dropped number held) = UnitLaid line slot unit old new × MeetsFull old new number held
WhyNotPut line slot unit old new NoMemory = DoesNothing old new
WhyNotPut line slot unit old new _ = ⊥

-- room was made, and nothing else was done
pub record MakesRoom (old new : Ports) : Type 0 where
  pub crq_shared : new.crq_shared ≡ old.crq_shared
  pub own_shared : new.own_shared ≡ old.own_shared
  pub crq : OnlyReserves old.crq new.crq
  pub own : new.own ≡ old.own
