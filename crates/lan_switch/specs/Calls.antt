-- What the calls on a port of a switch ask, and what they leave of it (LoPAR, "H_REGISTER_LOGICAL_LAN",
-- "H_FREE_LOGICAL_LAN", "H_CHANGE_LOGICAL_LAN_MAC", "H_MULTICAST_CTRL", "H_ADD_LOGICAL_LAN_BUFFER").
use Rattle.std.specs.Prelude.{◌≡◌, ◌↔◌, ℕ, ◌*◌, ◌%◌, ◌≤◌, ◌⊎◌, ◌∷◌, ◌++◌, [], Bool, true, List, Option, Some, None, IfSome, OnOk, Result, length}
use Rattle.vio_num.specs.declared.TheConstants.{PAGE_BYTES}
use Rattle.std.specs.List.{Contains}
use Rattle.std.specs.Option.{unwrap_or}
use Rattle.byteorder.specs.Endian.{big_number}
use Rattle.vio_num.specs.Counts.{Rose}
use Rattle.vio_num.specs.declared.names.Mac.{Mac}
use Rattle.vio_num.specs.declared.memory.NoMemory.{NoMemory}
use Rattle.vio_num.specs.declared.hypervisor.Hrc.{Hrc}
use Rattle.vio_num.specs.declared.hypervisor.Hrc.TheVariants.{Success, Busy, Parameter, NotFound, Resource}
use Rattle.tce_window.specs.declared.answers.HoldFault.{HoldFault}
use Rattle.tce_window.specs.declared.answers.HoldFault.TheVariants.{InUse}
use Rattle.tce_window.specs.declared.piece.Piece.{Piece}
use Rattle.tce_window.specs.PortState.{PortState}
use Rattle.lan_frame.specs.Control.{IsControlWord, new_reception, new_filtering, action_number, action_of}
use Rattle.lan_frame.specs.Filters.{Removes, IsFullFor}
use Rattle.lan_frame.specs.Station.{IsGroup, IsZero}
use Rattle.lan_frame.specs.declared.control.Control.{Control}
use Rattle.lan_frame.specs.declared.control.FilterAction.{FilterAction}
use Rattle.lan_frame.specs.declared.control.FilterAction.TheVariants.{Nothing, Add, Remove, Clear}
use Rattle.lan_buffers.specs.declared.answers.Harvest.{Harvest}
use Rattle.lan_buffers.specs.Answers.{IfFrame, IfBlank, IfNothing}
use Rattle.lan_buffers.specs.Buffer.{IsBuffer, is_valid, buffer_len, buffer_address}
use Rattle.lan_buffers.specs.Calls.{IsOpen, BeginsSession, HasNoPlace, Posts, ReadsFrame, ReadsBlank, ReadsNothing}
use Rattle.lan_buffers.specs.Port.{PortValue}
use Rattle.lan_buffers.specs.declared.settings.Settings.{Settings}
use Rattle.lan_switch.specs.Source.{Reads, RefusesRead}
use Rattle.lan_switch.specs.declared.answers.LanAnswer.{LanAnswer}

-- an answer with one of these codes and no word
pub record IsPlainAnswer (codes : List Hrc) (answer : LanAnswer) : Type 0 where
  pub code : Contains codes answer.code
  pub word : answer.word ≡ 0

-- an address that a unit may have of its own
pub record IsOwnAddress (mac : Mac) : Type 0 where
  pub one : ¬ IsGroup mac
  pub some : ¬ IsZero mac

-- A registration may be made at this port, if it is not registered: its pages lie at the begin of a page, and its
-- receive queue has an entry of 16 bytes for each slot.
pub record IsRegistration (list queue filters : ℕ) (mac : Mac) (port : PortValue) : Type 0 where
  pub list_at : list % PAGE_BYTES ≡ 0
  pub filters_at : filters % PAGE_BYTES ≡ 0
  pub valid : is_valid queue ≡ true
  pub long : buffer_len queue ≡ 16 * port.slots
  pub own : IsOwnAddress mac

pub record Registers (list queue filters : ℕ) (mac : Mac) (answer : LanAnswer) (old new : PortValue) : Type 0 where
  pub parameter : (answer.code ≡ Parameter) ↔ (¬ IsRegistration list queue filters mac old)
  pub resource : (answer.code ≡ Resource) ↔ (IsRegistration list queue filters mac old × IsOpen old)
  pub success : answer.code ≡ Success → BeginsSession old mac new
  pub refused : ¬ (answer.code ≡ Success) → new ≡ old
  pub plain : IsPlainAnswer (Success ∷ Parameter ∷ Resource ∷ []) answer

pub record Frees (answer : LanAnswer) (old new : PortValue) : Type 0 where
  pub parameter : (answer.code ≡ Parameter) ↔ (old.settings ≡ None)
  pub done : new ≡ record old { settings = None }
  pub plain : IsPlainAnswer (Success ∷ Parameter ∷ []) answer

-- The port has these settings, and is else as before.
abbrev pub Sets : Settings → PortValue → PortValue → Type 0
Sets settings old new = new ≡ record old { settings = Some settings }

-- The address is that of an open port from now on.
pub record SetsMac (mac : Mac) (old new : PortValue) : Type 0 where
  pub settings : Settings
  pub shown : old.settings ≡ Some settings
  pub sets : Sets (record settings { mac = mac }) old new

pub record ChangesMac (mac : Mac) (answer : LanAnswer) (old new : PortValue) : Type 0 where
  pub parameter : (answer.code ≡ Parameter) ↔ (¬ (IsOpen old × IsOwnAddress mac))
  pub success : answer.code ≡ Success → SetsMac mac old new
  pub refused : ¬ (answer.code ≡ Success) → new ≡ old
  pub plain : IsPlainAnswer (Success ∷ Parameter ∷ []) answer

-- what a control word does to the filters
abbrev pub action_in : ℕ → FilterAction
action_in control = action_of (action_number control)

-- whether an action names a group
abbrev pub NamesGroup : FilterAction → Type 0
NamesGroup Add = Unit {0}
NamesGroup Remove = Unit {0}
NamesGroup _ = ⊥

-- The filters of an open port may be controlled so.
pub record IsMulticast (control : ℕ) (mac : Mac) (port : PortValue) : Type 0 where
  pub opened : IsOpen port
  pub word : IsControlWord control
  pub group : NamesGroup (action_in control) → IsGroup mac

-- The action has no place for the group.
pub record HasNoFilter (control : ℕ) (mac : Mac) (settings : Settings) : Type 0 where
  pub adds : action_in control ≡ Add
  pub full : IsFullFor mac settings.filters

-- The action finds no such group.
pub record FindsNoFilter (control : ℕ) (mac : Mac) (settings : Settings) : Type 0 where
  pub removes : action_in control ≡ Remove
  pub absent : ¬ Contains settings.filters mac

-- what an action leaves of the filters
abbrev pub Acts : FilterAction → Mac → (old new : List Mac) → Type 0
Acts Nothing mac old new = new ≡ old
Acts Add mac old new = (Contains old mac → new ≡ old) × (¬ Contains old mac → new ≡ old ++ mac ∷ [])
Acts Remove mac old new = Removes mac old new
Acts Clear mac old new = new ≡ []

-- What a control asks for leaves of the settings: reception and filtering as it gives them, or as they were.
pub record Controls (asked : Control) (mac : Mac) (old new : Settings) : Type 0 where
  pub address : new.mac ≡ old.mac
  pub reception : new.reception ≡ unwrap_or asked.reception old.reception
  pub filtering : new.filtering ≡ unwrap_or asked.filtering old.filtering
  pub filters : Acts (action_of asked.action) mac old.filters new.filters

-- A control word asks for this.
pub record Asks (word : ℕ) (asked : Control) : Type 0 where
  pub reception : asked.reception ≡ new_reception word
  pub filtering : asked.filtering ≡ new_filtering word
  pub action : asked.action ≡ action_number word

-- The port's settings are those that a control word leaves of them.
pub record SetsControlled (control : ℕ) (mac : Mac) (old new : PortValue) : Type 0 where
  pub settings : Settings
  pub settings' : Settings
  pub shown : old.settings ≡ Some settings
  pub asked : Control
  pub asks : Asks control asked
  pub controls : Controls asked mac settings settings'
  pub sets : Sets settings' old new

pub record Multicasts (control : ℕ) (mac : Mac) (answer : LanAnswer) (old new : PortValue) : Type 0 where
  pub parameter : (answer.code ≡ Parameter) ↔ (¬ IsMulticast control mac old)
  pub resource : answer.code ≡ Resource → IfSome old.settings (HasNoFilter control mac)
  pub not_found : answer.code ≡ NotFound → IfSome old.settings (FindsNoFilter control mac)
  pub full : IsMulticast control mac old → IfSome old.settings (HasNoFilter control mac) → answer.code ≡ Resource
  pub success : answer.code ≡ Success → SetsControlled control mac old new
  pub refused : ¬ (answer.code ≡ Success) → new ≡ old
  pub plain : IsPlainAnswer (Success ∷ Parameter ∷ Resource ∷ NotFound ∷ []) answer

-- A buffer may be posted at this port, if its correlator can be read and there is a place for it.
pub record MayPost (descriptor : ℕ) (port : PortValue) : Type 0 where
  pub opened : IsOpen port
  pub buffer : IsBuffer descriptor

-- the answer where the correlator cannot be read
abbrev pub SaysUnread : HoldFault → LanAnswer → Type 0
SaysUnread (InUse page word) answer = (answer.code ≡ Busy) × (answer.word ≡ word)
SaysUnread _ answer = (answer.code ≡ Parameter) × (answer.word ≡ 0)

-- The correlator could not be read.
pub record IsUnread (is_shared : Bool) (Found : ℕ → ℕ → Type 0) (window window' : PortState) (descriptor : ℕ) (answer : LanAnswer) : Type 0 where
  pub fault : HoldFault
  pub cause : RefusesRead is_shared Found window window' (buffer_address descriptor) 8 fault
  pub says : SaysUnread fault answer

-- The correlator was read: the number of the 8 bytes at this address.
pub record ReadsCorrelator (window window' : PortState) (address correlator : ℕ) : Type 0 where
  pub pieces : List Piece
  pub bytes : List ℕ
  pub reads : Reads window window' address pieces bytes
  pub long : length bytes ≡ 8
  pub number : correlator ≡ big_number 8 bytes

-- The buffer was posted with this correlator, and had a place.
pub record PostsAs (descriptor correlator : ℕ) (old new : PortValue) : Type 0 where
  pub place : ¬ HasNoPlace old descriptor
  pub number : ℕ
  pub posted : Posts old descriptor correlator new number

-- The buffer was posted with the correlator that was read: its first 8 bytes.
pub record PostsRead (window window' : PortState) (descriptor : ℕ) (old new : PortValue) : Type 0 where
  pub correlator : ℕ
  pub read : ReadsCorrelator window window' (buffer_address descriptor) correlator
  pub posts : PostsAs descriptor correlator old new

-- What becomes of a buffer: each code has its cause, in this order.
pub record Adds (descriptor : ℕ) (is_shared : Bool) (Found : ℕ → ℕ → Type 0) (window window' : PortState) (answer : LanAnswer) (old new : PortValue) : Type 0 where
  pub parameter : ¬ MayPost descriptor old → (answer.code ≡ Parameter) × (answer.word ≡ 0)
  pub unread : answer.code ≡ Parameter → MayPost descriptor old → IsUnread is_shared Found window window' descriptor answer
  pub busy : answer.code ≡ Busy → IsUnread is_shared Found window window' descriptor answer
  pub resource : answer.code ≡ Resource → HasNoPlace old descriptor
  pub success : answer.code ≡ Success → PostsRead window window' descriptor old new
  pub refused : ¬ (answer.code ≡ Success) → new ≡ old
  pub codes : Contains (Success ∷ Parameter ∷ Busy ∷ Resource ∷ []) answer.code
  pub word : ¬ (answer.code ≡ Busy) → answer.word ≡ 0

pub record Reserves (n : ℕ) (answer : Result Unit NoMemory) (old new : PortValue) : Type 0 where
  pub room : OnOk answer (n ≤ new.spare)
  pub spare : old.spare ≤ new.spare
  pub rest : new ≡ record old { spare = new.spare }

pub record Harvests (answer : Harvest) (old new : PortValue) : Type 0 where
  pub frame : IfFrame answer (ReadsFrame old new)
  pub blank : IfBlank answer (ReadsBlank old new)
  pub nothing : IfNothing answer (ReadsNothing old)
  pub rest : IfNothing answer (λ _ _. new ≡ old)

-- the window's count of words read in use rose where the answer says so, and else stands still
abbrev pub CountsCode : Hrc → ℕ → ℕ → Type 0
CountsCode Busy before after = Rose before after
CountsCode _ before after = after ≡ before
