-- What the lines of a LAN unit say of their own records. A replay goes over the lines, one after the other, and keeps the settings of
-- the port, the lengths that were posted since it opened, its sessions and its frames. It knows no delivery and no other unit.
use Rattle.std.specs.Prelude.{◌≡◌, ◌⊎◌, ◌++◌, ◌+◌, ◌*◌, ◌-◌, ◌≤◌, ℕ, List, [], ◌∷◌, Option, Some, None, IfSome, IsSome, length, zero, suc}
use Rattle.std.specs.Option.{option_map}
use Rattle.vio_num.specs.declared.hypervisor.Hrc.{Hrc}
use Rattle.vio_num.specs.declared.hypervisor.Hrc.TheVariants.{Success, Parameter, NotFound, Dropped, Resource}
use Rattle.vio_num.specs.declared.names.Mac.{Mac}
use Rattle.boot_text.specs.declared.verb.Verb.{Verb}
use Rattle.boot_text.specs.declared.verb.Verb.TheVariants as verbs
use Rattle.vio_trace.specs.declared.outcome.Outcome.{Outcome}
use Rattle.vio_trace.specs.declared.outcome.Outcome.TheVariants as outcomes
use Rattle.lan_frame.specs.Control.{IsControlWord}
use Rattle.lan_frame.specs.Station.{IsGroup}
use Rattle.lan_frame.specs.declared.control.Control.{Control}
use Rattle.lan_buffers.specs.Buffer.{least_buffer, most_buffer, most_sizes}
use Rattle.lan_buffers.specs.Calls.{first_settings}
use Rattle.lan_buffers.specs.Pools.{with_size}
use Rattle.lan_buffers.specs.declared.settings.Settings.{Settings}
use Rattle.lan_switch.specs.Calls.{Asks, Controls, FindsNoFilter, HasNoFilter, IsOwnAddress, NamesGroup, action_in}
use Rattle.lan_script.specs.LineFrame.{line_frame}
use Rattle.lan_script.specs.declared.seat.PortSeat.{PortSeat}

-- What the lines so far leave of a port.
pub record PortReplay : Type 0 where
  -- its settings; none where it is closed
  pub settings : Option Settings
  -- the lengths that were posted since it opened
  pub lengths : List ℕ
  -- how often it was opened
  pub sessions : ℕ
  -- the bytes of each of its frames
  pub frames : List (List ℕ)

-- before the first line
abbrev pub closed_replay : PortReplay
closed_replay = record { settings = None; lengths = []; sessions = 0; frames = [] }

abbrev pub IsOn : PortReplay → Type 0
IsOn now = IsSome now.settings

-- the line ends with this code, and leaves this
pub record Codes (code : Hrc) (left : PortReplay) (outcome : Outcome) (new : PortReplay) : Type 0 where
  pub outcome_is : outcome ≡ outcomes.Code code
  pub left_is : new ≡ left

-- `open` begins a session of a closed port with the address of its unit, and empties settings, filters and lengths
abbrev pub OpenSays : Mac → Option Settings → Outcome → (old new : PortReplay) → Type 0
OpenSays mac None outcome old new = Codes Success (record old { settings = Some (first_settings mac); lengths = []; sessions = old.sessions + 1 }) outcome new
OpenSays mac (Some settings) outcome old new = Codes Resource old outcome new

-- `close` frees an open port
abbrev pub CloseSays : Option Settings → Outcome → (old new : PortReplay) → Type 0
CloseSays None outcome old new = Codes Parameter old outcome new
CloseSays (Some settings) outcome old new = Codes Success (record old { settings = None }) outcome new

-- `mac` gives an open port an address that a unit may have of its own
abbrev pub with_mac : Mac → PortReplay → PortReplay
with_mac mac now = record now { settings = option_map (λ (settings : Settings). record settings { mac = mac }) now.settings }

abbrev pub MacSays : Mac → Outcome → (old new : PortReplay) → Type 0
MacSays mac outcome old new =
    ((IsOn old × IsOwnAddress mac) × Codes Success (with_mac mac old) outcome new)
    ⊎ (¬ (IsOn old × IsOwnAddress mac) × Codes Parameter old outcome new)

-- `mcast`: the port is open, the word is a control word, and where it adds or removes a filter the address is that of a group
pub record MayControl (control : ℕ) (mac : Mac) (now : PortReplay) : Type 0 where
  pub opened : IsOn now
  pub word : IsControlWord control
  pub group : NamesGroup (action_in control) → IsGroup mac

-- it has a place for the filter that it adds, and finds the one that it removes: these are the settings that it leaves
pub record ControlSays (control : ℕ) (mac : Mac) (old new : PortReplay) (outcome : Outcome) : Type 0 where
  pub settings : Settings
  pub settings' : Settings
  pub shown : old.settings ≡ Some settings
  pub placed : ¬ HasNoFilter control mac settings
  pub found : ¬ FindsNoFilter control mac settings
  pub asked : Control
  pub asks : Asks control asked
  pub controls : Controls asked mac settings settings'
  pub codes : Codes Success (record old { settings = Some settings' }) outcome new

abbrev pub MulticastSays : ℕ → Mac → Outcome → (old new : PortReplay) → Type 0
MulticastSays control mac outcome old new =
    (¬ MayControl control mac old × Codes Parameter old outcome new)
    ⊎ (MayControl control mac old
    × ((IfSome old.settings (HasNoFilter control mac) × Codes Resource old outcome new)
    ⊎ ((IfSome old.settings (FindsNoFilter control mac) × Codes NotFound old outcome new)
    ⊎ ControlSays control mac old new outcome)))

-- the length of a buffer
abbrev pub IsBufferLen : ℕ → Type 0
IsBufferLen len = (least_buffer ≤ len) × (len ≤ most_buffer)

-- the different ones of these lengths
abbrev pub different_with : (found : List ℕ) → List ℕ → List ℕ
different_with found [] = found
different_with found (len ∷ lengths) = different_with (with_size len found) lengths

abbrev pub different : List ℕ → List ℕ
different lengths = different_with [] lengths

-- the lengths with those of so many buffers more, behind the others
abbrev pub with_posted : (len count : ℕ) → List ℕ → List ℕ
with_posted len zero lengths = lengths
with_posted len (suc count) lengths = with_posted len count lengths ++ len ∷ []

-- A `post` of which each buffer has a place: the port may post, all buffers lie in the region, and there is a place for each even if no frame came
pub record FitsAll (seat : PortSeat) (at len count : ℕ) (now : PortReplay) : Type 0 where
  pub opened : IsOn now
  pub len_is : IsBufferLen len
  pub inside : at + len * count ≤ 4096 * seat.pages
  pub few : length now.lengths + count ≤ seat.slots
  pub sizes : length (different (with_posted len count now.lengths)) ≤ most_sizes

-- `post` tells how many buffers it posted, and the code of its last call
pub record PostSays (seat : PortSeat) (at len count : ℕ) (outcome : Outcome) (old new : PortReplay) : Type 0 where
  pub posted : ℕ
  pub code : Hrc
  pub outcome_is : outcome ≡ outcomes.Posted posted code
  pub left_is : new ≡ record old { lengths = with_posted len posted old.lengths }
  pub refused : ¬ (IsOn old × IsBufferLen len) → (posted ≡ 0) × (code ≡ Parameter)
  pub done : FitsAll seat at len count old → (posted ≡ count) × (code ≡ Success)

-- the code of a frame with a number
abbrev pub IsFrameCode : Hrc → Type 0
IsFrameCode code = (code ≡ Success) ⊎ (code ≡ Dropped)

-- `send` of an open port gives its frame the next number. The frame is that of the line, from the port's present address; one for
-- a group succeeds.
pub record SendsNext (settings : Settings) (to : Mac) (len seed : ℕ) (outcome : Outcome) (old new : PortReplay) : Type 0 where
  pub code : Hrc
  pub outcome_is : outcome ≡ outcomes.Frame code (length old.frames + 1)
  pub left_is : new ≡ record old { frames = old.frames ++ line_frame to settings.mac (len - 14) seed ∷ [] }
  pub code_is : IsFrameCode code
  pub group : IsGroup to → code ≡ Success

pub record PassesRegion (seat : PortSeat) (at len : ℕ) (outcome : Outcome) (old new : PortReplay) : Type 0 where
  pub passes : ¬ (at + len ≤ 4096 * seat.pages)
  pub outcome_is : outcome ≡ outcomes.Range
  pub left_is : new ≡ old

-- where the frame passes the region it is not written; where the port is closed it is, and goes nowhere
abbrev pub SendsFrom : Option Settings → Mac → (len seed : ℕ) → Outcome → (old new : PortReplay) → Type 0
SendsFrom None to len seed outcome old new = Codes Parameter old outcome new
SendsFrom (Some settings) to len seed outcome old new = SendsNext settings to len seed outcome old new

abbrev pub SendSays : PortSeat → Mac → (len seed at : ℕ) → Outcome → (old new : PortReplay) → Type 0
SendSays seat to len seed at outcome old new =
    PassesRegion seat at len outcome old new
    ⊎ ((at + len ≤ 4096 * seat.pages) × SendsFrom old.settings to len seed outcome old new)

-- what a line of a plain port's own tells, and what it leaves
abbrev pub LineSays : PortSeat → Verb → Outcome → (old new : PortReplay) → Type 0
LineSays seat verbs.Open outcome old new = OpenSays seat.mac old.settings outcome old new
LineSays seat verbs.Close outcome old new = CloseSays old.settings outcome old new
LineSays seat (verbs.ChangeMac mac) outcome old new = MacSays mac outcome old new
LineSays seat (verbs.Multicast control mac) outcome old new = MulticastSays control mac outcome old new
LineSays seat (verbs.Post at len count) outcome old new = PostSays seat at len count outcome old new
LineSays seat (verbs.Send to len seed at) outcome old new = SendSays seat to len seed at outcome old new
LineSays seat verb outcome old new = new ≡ old
