-- What a client finds in a slot, and which entries say that something lies there.
use Rattle.std.specs.Prelude.{◌≡◌, ℕ, ◌==◌, Bool, List, Some, length}
use Rattle.vio_num.specs.declared.entry.Entry.{Entry}
use Rattle.vio_num.specs.Entry.{first_byte}
use Rattle.tce_window.specs.PortState.{PortState, FindsInUse, Reads}
use Rattle.vio_num.specs.Counts.{Rose}
use Rattle.srp_iu.specs.declared.unit.Iu.{Iu}
use Rattle.srp_iu.specs.declared.unit.IuFault.{IuFault}
use Rattle.srp_iu.specs.declared.unit.TheConstants.{MAX_IU_LEN}
use Rattle.srp_iu.specs.Grammar.{Spells}
use Rattle.srp_iu.specs.Refusal.{fault_of}
use Rattle.vscsi_client.specs.declared.reading.Slot.{Slot}
use Rattle.vscsi_client.specs.declared.reading.Slot.TheVariants.{Unit, NoUnit, InUse}
use Rattle.vscsi_client.specs.Units.{slot_address}

-- whether the entry is a transport event
abbrev pub is_event : Entry → Bool
is_event entry = first_byte entry == 0xFF

-- these are the bytes of a slot, all 256
pub record AreIn (own : PortState) (slot : ℕ) (bytes : List ℕ) : Type 0 where
  pub long : length bytes ≡ MAX_IU_LEN
  pub read : Reads own (slot_address slot) bytes

-- this unit lies in the slot
pub record Holds (own : PortState) (slot : ℕ) (iu : Iu) : Type 0 where
  pub bytes : List ℕ
  pub are : AreIn own slot bytes
  pub spells : Spells bytes iu

-- the slot's bytes are no unit
pub record HoldsNone (own : PortState) (slot : ℕ) : Type 0 where
  pub bytes : List ℕ
  pub are : AreIn own slot bytes
  pub fault : IuFault
  pub is_fault : fault_of bytes ≡ Some fault

-- the slot's page was read in use
pub record IsSlotInUse (shared : Bool) (slot : ℕ) (old new : PortState) (page : ℕ) : Type 0 where
  pub in_use : FindsInUse shared old (slot_address slot) MAX_IU_LEN page
  pub rose : Rose old.in_use new.in_use

-- what a read of the slot found
abbrev pub FindsIn : (shared : Bool) → (slot : ℕ) → Slot → PortState → PortState → Type 0
FindsIn shared slot (Unit iu) old new = Holds new slot iu
FindsIn shared slot NoUnit old new = HoldsNone new slot
FindsIn shared slot (InUse page word) old new = IsSlotInUse shared slot old new page
