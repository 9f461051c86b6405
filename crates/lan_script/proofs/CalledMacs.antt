-- The address of a port over a raw hypervisor call at it.
use Rattle.std.proofs.Common.{◌≡◌, ℕ, None, Result, Ok, Err, IfOk, sym, subst}
use Rattle.vio_num.specs.declared.hypervisor.Hrc.{Hrc}
use Rattle.vio_num.specs.declared.memory.NoMemory.{NoMemory}
use Rattle.vio_num.specs.declared.names.Mac.{Mac}
use Rattle.vio_num.specs.declared.names.UnitId.{UnitId}
use Rattle.vio_trace.specs.declared.outcome.Outcome.TheVariants as outcomes
use Rattle.hcall_table.specs.Asked.{bare}
use Rattle.hcall_table.specs.declared.returned.Returned.{Returned}
use Rattle.lan_script.specs.CalledMac.{low_mac, mac_called}
use Rattle.lan_script.specs.OwnMac.{MovesMac, SameSettings, SetsMac, changed_to, mac_in}
use Rattle.lan_script.specs.PortReplay.{MacSays}
use Rattle.lan_script.specs.Replayed.{ReplaysOn, SameReplays, replay_at}
use Rattle.lan_script.specs.Units.{LanValue}
use Rattle.lan_script.specs.declared.calls.PortCall.{PortCall}
use Rattle.lan_script.specs.declared.calls.PortCall.TheVariants as calls
use Rattle.lan_script.proofs.OwnMacs.{changes_mac, mac_same, same_settings, sets_moves, weaker_mac}

-- a call that leaves the settings
pub called_same : (unit : UnitId) (call : PortCall) (r : Result Returned NoMemory) (old new : LanValue) → SameSettings unit old new
    → IfOk r (λ returned. MovesMac (mac_called call returned.code) (replay_at old unit) (replay_at new unit))
called_same unit call (Ok returned) old new same = mac_same (mac_called call returned.code) (replay_at old unit) (replay_at new unit) same
called_same unit call (Err memory) old new same = tt

pub called_entry : (unit : UnitId) (call : PortCall) (r : Result Returned NoMemory) (old new : LanValue) → SameReplays old new
    → IfOk r (λ returned. MovesMac (mac_called call returned.code) (replay_at old unit) (replay_at new unit))
called_entry unit call r old new same = called_same unit call r old new (same_settings unit old new same)

-- a call that gives none
pub called_none : (unit : UnitId) (call : PortCall) (code : Hrc) (old new : LanValue) → MovesMac None (replay_at old unit) (replay_at new unit)
    → MovesMac (mac_called call code) (replay_at old unit) (replay_at new unit)
called_none unit call code old new h = weaker_mac (mac_called call code) (mac_in (replay_at old unit).settings) (mac_in (replay_at new unit).settings) h

pub called_register : (unit : UnitId) (call : PortCall) (list queue filters number : ℕ) (mac : Mac) (code : Hrc) (returned : Returned) (old new : LanValue)
    → call ≡ calls.Register list queue filters number → mac ≡ low_mac number → returned ≡ bare code
    → ReplaysOn unit (SetsMac (changed_to mac (outcomes.Code code))) old new → MovesMac (mac_called call returned.code) (replay_at old unit) (replay_at new unit)
called_register unit call list queue filters number mac code returned old new is low said h =
    subst (λ (r : Returned). MovesMac (mac_called call r.code) (replay_at old unit) (replay_at new unit)) (sym said)
    (subst (λ (c : PortCall). MovesMac (mac_called c code) (replay_at old unit) (replay_at new unit)) (sym is)
    (subst (λ (m : Mac). MovesMac (changed_to m (outcomes.Code code)) (replay_at old unit) (replay_at new unit)) low
    (sets_moves (changed_to mac (outcomes.Code code)) (mac_in (replay_at old unit).settings) (mac_in (replay_at new unit).settings) h.says)))

pub called_change : (unit : UnitId) (call : PortCall) (number : ℕ) (mac : Mac) (code : Hrc) (returned : Returned) (old new : LanValue)
    → call ≡ calls.ChangeMac number → mac ≡ low_mac number → returned ≡ bare code → ReplaysOn unit (MacSays mac (outcomes.Code code)) old new
    → MovesMac (mac_called call returned.code) (replay_at old unit) (replay_at new unit)
called_change unit call number mac code returned old new is low said h =
    subst (λ (r : Returned). MovesMac (mac_called call r.code) (replay_at old unit) (replay_at new unit)) (sym said)
    (subst (λ (c : PortCall). MovesMac (mac_called c code) (replay_at old unit) (replay_at new unit)) (sym is)
    (subst (λ (m : Mac). MovesMac (changed_to m (outcomes.Code code)) (replay_at old unit) (replay_at new unit)) low
    (sets_moves (changed_to mac (outcomes.Code code)) (mac_in (replay_at old unit).settings) (mac_in (replay_at new unit).settings)
    (changes_mac mac code (replay_at old unit) (replay_at new unit) h.says))))
