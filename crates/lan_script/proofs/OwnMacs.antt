-- The address of a port over each call at it, and over the steps of lines.
use Rattle.std.proofs.Common.{◌≡◌, ◌⊎◌, inl, inr, true, false, ℕ, Option, Some, None, Result, Ok, Err, IfOk, OnOk, refl, sym, ◌∙◌, ap, subst}
use Rattle.std.specs.Option.{option_map}
use Rattle.vio_num.specs.declared.hypervisor.Hrc.{Hrc}
use Rattle.vio_num.specs.declared.hypervisor.Hrc.TheVariants.{Busy, Parameter, Success}
use Rattle.vio_num.specs.declared.memory.NoMemory.{NoMemory}
use Rattle.vio_num.specs.declared.names.Mac.{Mac}
use Rattle.vio_num.specs.declared.names.UnitId.{UnitId}
use Rattle.boot_text.specs.declared.verb.Verb.{Verb}
use Rattle.boot_text.specs.declared.verb.Verb.TheVariants as verbs
use Rattle.vio_trace.specs.declared.outcome.Outcome.{Outcome}
use Rattle.vio_trace.specs.declared.outcome.Outcome.TheVariants as outcomes
use Rattle.hcall_table.specs.Rows.{may_answer}
use Rattle.hcall_table.specs.declared.hcall.Hcall.TheVariants as rows
use Rattle.lan_frame.specs.Filter.{Accepts}
use Rattle.lan_frame.proofs.Laws.{broadcast_is_group}
use Rattle.lan_buffers.specs.Port.{PortValue}
use Rattle.lan_buffers.specs.declared.settings.Settings.{Settings}
use Rattle.lan_switch.specs.declared.answers.LanAnswer.{LanAnswer}
use Rattle.lan_switch.specs.Calls.{Registers}
use Rattle.lan_script.specs.OwnMac.{HasMacOf, IsForGroup, MovesMac, SameSettings, SetsMac, SetsMacOf, StepsMac, changed_to, gives_mac, mac_in, mac_stepped}
use Rattle.lan_script.specs.PortReplay.{CloseSays, MacSays, MulticastSays, PortReplay}
use Rattle.lan_script.specs.Replayed.{AddSays, ReplaysOn, SameReplays, SentSays, replay_at, replay_of}
use Rattle.lan_script.specs.Seats.{seat_at}
use Rattle.lan_script.specs.Targets.{IsTarget}
use Rattle.lan_script.specs.Units.{LanValue}
use Rattle.lan_script.specs.declared.lines.PortStep.{PortStep}
use Rattle.lan_script.specs.declared.lines.PortStep.TheVariants as steps
use Rattle.lan_script.specs.declared.seat.PortSeat.{PortSeat}
use Rattle.lan_script.proofs.Called.{by_code}
use Rattle.lan_script.proofs.Replaying.{Moves}

keeps_mac : (given before : Option Mac) → HasMacOf given before before
keeps_mac given None = tt
keeps_mac given (Some mac) = inl refl

-- a port with the settings that it had
pub mac_same : (given : Option Mac) (old new : PortReplay) → new.settings ≡ old.settings → MovesMac given old new
mac_same given old new e = subst (λ (o : Option Settings). HasMacOf given (mac_in old.settings) (mac_in o)) (sym e) (keeps_mac given (mac_in old.settings))

-- a port that was closed, or that was given this address
mac_none : (given : Option Mac) (old new : PortReplay) → new.settings ≡ None → MovesMac given old new
mac_none given old new e = subst (λ (o : Option Settings). HasMacOf given (mac_in old.settings) (mac_in o)) (sym e) tt

-- a port that has what it was given has that, or what it had
pub sets_moves : (given before after : Option Mac) → SetsMacOf given before after → HasMacOf given before after
sets_moves given before None h = tt
sets_moves None before (Some mac) h = inl h
sets_moves (Some to) before (Some mac) h = inr (ap (λ (m : Mac). Some m) (sym h))

-- one that was given none has what it had
pub none_sets : (before after : Option Mac) → HasMacOf None before after → SetsMacOf None before after
none_sets before None h = tt
none_sets before (Some mac) (inl e) = e
none_sets before (Some mac) (inr e) = absurd (cc (e))

-- a refused call gives none
not_changed : (mac : Mac) (code : Hrc) → ¬ (code ≡ Success) → changed_to mac (outcomes.Code code) ≡ None
not_changed mac Success not = absurd (not refl)
not_changed mac code not = refl

changed_some : (mac : Mac) (code : Hrc) (old new : PortReplay) → code ≡ Success → mac_in new.settings ≡ Some mac → SetsMac (changed_to mac (outcomes.Code code)) old new
changed_some mac code old new e is =
    subst (λ (c : Hrc). SetsMac (changed_to mac (outcomes.Code c)) old new) (sym e)
    (subst (λ (o : Option Mac). SetsMacOf (Some mac) (mac_in old.settings) o) (sym is) refl)

changed_none : (mac : Mac) (code : Hrc) (old new : PortReplay) → ¬ (code ≡ Success) → new.settings ≡ old.settings
    → SetsMac (changed_to mac (outcomes.Code code)) old new
changed_none mac code old new not e =
    subst (λ (g : Option Mac). SetsMac g old new) (sym (not_changed mac code not))
    (none_sets (mac_in old.settings) (mac_in new.settings) (mac_same None old new e))

-- a registration gives its address where it succeeds
pub registers_mac : (list queue filters : ℕ) (mac : Mac) (answer : LanAnswer) (before after : PortValue) → Registers list queue filters mac answer before after
    → Moves (SetsMac (changed_to mac (outcomes.Code answer.code))) before after
registers_mac list queue filters mac answer before after h =
    by_code answer.code (Moves (SetsMac (changed_to mac (outcomes.Code answer.code))) before after)
    (λ e. record {
      unit = ap (λ (p : PortValue). p.unit) (h.success e).rest;
      says = λ n. changed_some mac answer.code (replay_of (Some before) n) (replay_of (Some after) n) e (ap mac_in (h.success e).opened);
    })
    (λ not. record {
      unit = ap (λ (p : PortValue). p.unit) (h.refused not);
      says = λ n. changed_none mac answer.code (replay_of (Some before) n) (replay_of (Some after) n) not (ap (λ (p : PortValue). p.settings) (h.refused not));
    })

pub closes_mac : (settings : Option Settings) (outcome : Outcome) (old new : PortReplay) → CloseSays settings outcome old new → MovesMac None old new
closes_mac None outcome old new h = mac_same None old new (ap (λ (r : PortReplay). r.settings) h.left_is)
closes_mac (Some settings) outcome old new h = mac_none None old new (ap (λ (r : PortReplay). r.settings) h.left_is)

given_mac : (mac : Mac) (o : Option Settings) (old new : PortReplay) → old.settings ≡ o → new.settings ≡ option_map (λ (s : Settings). record s { mac = mac }) o
    → SetsMac (Some mac) old new
given_mac mac None old new was e = subst (λ (o : Option Settings). SetsMacOf (Some mac) (mac_in old.settings) (mac_in o)) (sym e) tt
given_mac mac (Some settings) old new was e = subst (λ (o : Option Settings). SetsMacOf (Some mac) (mac_in old.settings) (mac_in o)) (sym e) refl

pub changes_mac : (mac : Mac) (code : Hrc) (old new : PortReplay) → MacSays mac (outcomes.Code code) old new → SetsMac (changed_to mac (outcomes.Code code)) old new
changes_mac mac code old new (inl (may, h)) =
    subst (λ (o : Outcome). SetsMac (changed_to mac o) old new) (sym h.outcome_is)
    (given_mac mac old.settings old new refl (ap (λ (r : PortReplay). r.settings) h.left_is))
changes_mac mac code old new (inr (not, h)) =
    subst (λ (o : Outcome). SetsMac (changed_to mac o) old new) (sym h.outcome_is)
    (none_sets (mac_in old.settings) (mac_in new.settings) (mac_same None old new (ap (λ (r : PortReplay). r.settings) h.left_is)))

kept_mac : (given : Option Mac) (old new : PortReplay) → mac_in new.settings ≡ mac_in old.settings → MovesMac given old new
kept_mac given old new e = subst (λ (o : Option Mac). HasMacOf given (mac_in old.settings) o) (sym e) (keeps_mac given (mac_in old.settings))

pub multicasts_mac : (control : ℕ) (mac : Mac) (outcome : Outcome) (old new : PortReplay) → MulticastSays control mac outcome old new → MovesMac None old new
multicasts_mac control mac outcome old new (inl (not, h)) = mac_same None old new (ap (λ (r : PortReplay). r.settings) h.left_is)
multicasts_mac control mac outcome old new (inr (may, inl (full, h))) = mac_same None old new (ap (λ (r : PortReplay). r.settings) h.left_is)
multicasts_mac control mac outcome old new (inr (may, inr (inl (lost, h)))) = mac_same None old new (ap (λ (r : PortReplay). r.settings) h.left_is)
multicasts_mac control mac outcome old new (inr (may, inr (inr h))) =
    kept_mac None old new
    (ap (λ (r : PortReplay). mac_in r.settings) h.codes.left_is ∙ ap (λ (m : Mac). Some m) h.controls.address ∙ sym (ap mac_in h.shown))

-- a buffer more, or none
pub adds_settings : (unit : UnitId) (len : ℕ) (IsOne : Type 0) (code : Hrc) (old new : LanValue) → ReplaysOn unit (AddSays len IsOne code) old new
    → SameSettings unit old new
adds_settings unit len IsOne code old new h =
    by_code code (SameSettings unit old new) (λ e. ap (λ (r : PortReplay). r.settings) (h.says.posted e)) (λ not. ap (λ (r : PortReplay). r.settings) (h.says.refused not))

-- a frame that was sent, if any
pub sent_settings : (unit : UnitId) (code : Hrc) (number : Option ℕ) (old new : LanValue) → ReplaysOn unit (SentSays code number) old new → SameSettings unit old new
sent_settings unit code None old new h = ap (λ (r : PortReplay). r.settings) h.says
sent_settings unit code (Some n) old new h = ap (λ (r : PortReplay). r.settings) h.says.left_is

pub same_settings : (unit : UnitId) (old new : LanValue) → SameReplays old new → SameSettings unit old new
same_settings unit old new same = ap (λ (r : PortReplay). r.settings) (same unit)

-- a frame that a port accepts is for a group or for its address
pub target_for : (r : PortReplay) (to : Mac) → IsTarget r to → IsForGroup to ⊎ (mac_in r.settings ≡ Some to)
target_for r to h = by h.accepted
  where
    by : Accepts h.settings.mac h.settings.reception h.settings.filtering h.settings.filters to → IsForGroup to ⊎ (mac_in r.settings ≡ Some to)
    by (inl e) = inr (ap mac_in h.shown ∙ ap (λ (m : Mac). Some m) (sym e))
    by (inr (inl all)) = inl (broadcast_is_group to all)
    by (inr (inr some)) = inl some.group

-- ---- steps of lines

-- a step of a line that gives no address
no_given : (seat : PortSeat) (verb : Verb) (step : PortStep) → gives_mac verb ≡ false → mac_stepped seat verb step ≡ None
no_given seat verb (steps.Waits did done) e = refl
no_given seat verbs.Open (steps.Ends outcome) e = absurd (cc (e))
no_given seat (verbs.ChangeMac mac) (steps.Ends outcome) e = absurd (cc (e))
no_given seat verb (steps.Ends outcome) e = refl

-- a line that is neither `open` nor `mac`
pub not_giving : (verb : Verb) → (verb ≡ verbs.Open → ⊥) → ((mac : Mac) → verb ≡ verbs.ChangeMac mac → ⊥) → gives_mac verb ≡ false
not_giving verbs.Open other another = absurd (other refl)
not_giving (verbs.ChangeMac mac) other another = absurd (another mac refl)
not_giving verb other another = refl

pub step_same : (unit : UnitId) (verb : Verb) (step : PortStep) (old new : LanValue) → gives_mac verb ≡ false → SameSettings unit old new → StepsMac unit verb step old new
step_same unit verb step old new quiet same seat at =
    subst (λ (g : Option Mac). SetsMac g (replay_at old unit) (replay_at new unit)) (sym (no_given seat verb step quiet))
    (none_sets (mac_in (replay_at old unit).settings) (mac_in (replay_at new unit).settings) (mac_same None (replay_at old unit) (replay_at new unit) same))

pub weaker_mac : (given before after : Option Mac) → HasMacOf None before after → HasMacOf given before after
weaker_mac given before None h = tt
weaker_mac given before (Some mac) (inl e) = inl e
weaker_mac given before (Some mac) (inr e) = absurd (cc (e))

pub close_steps : (unit : UnitId) (verb : Verb) (step : PortStep) (old new : LanValue) → gives_mac verb ≡ false
    → MovesMac None (replay_at old unit) (replay_at new unit) → StepsMac unit verb step old new
close_steps unit verb step old new quiet h seat at =
    subst (λ (g : Option Mac). SetsMac g (replay_at old unit) (replay_at new unit)) (sym (no_given seat verb step quiet))
    (none_sets (mac_in (replay_at old unit).settings) (mac_in (replay_at new unit).settings) h)

busy_not : (a b : Hrc) → outcomes.Code a ≡ outcomes.Code b → a ≡ b
busy_not a b e = cc (e)

-- `mac` ends with the code of its call, which is not Busy
pub change_steps : (unit : UnitId) (mac : Mac) (code : Hrc) (step : PortStep) (old new : LanValue) → (¬ (code ≡ Busy) → step ≡ steps.Ends (outcomes.Code code))
    → ReplaysOn unit (MacSays mac (outcomes.Code code)) old new → StepsMac unit (verbs.ChangeMac mac) step old new
change_steps unit mac code step old new ends h seat at =
    subst (λ (s : PortStep). SetsMac (mac_stepped seat (verbs.ChangeMac mac) s) (replay_at old unit) (replay_at new unit)) (sym (ends (by h.says)))
    (changes_mac mac code (replay_at old unit) (replay_at new unit) h.says)
  where
    by : MacSays mac (outcomes.Code code) (replay_at old unit) (replay_at new unit) → code ≡ Busy → ⊥
    by (inl (may, k)) e = cc (e, busy_not code Success k.outcome_is)
    by (inr (not, k)) e = cc (e, busy_not code Parameter k.outcome_is)

-- ---- the arms of a step

pub same_ok : (unit : UnitId) (verb : Verb) (r : Result PortStep NoMemory) (old new : LanValue) → gives_mac verb ≡ false → OnOk r (SameSettings unit old new)
    → IfOk r (λ step. StepsMac unit verb step old new)
same_ok unit verb (Ok step) old new quiet same = step_same unit verb step old new quiet same
same_ok unit verb (Err memory) old new quiet same = tt

pub replays_ok : (unit : UnitId) (verb : Verb) (r : Result PortStep NoMemory) (old new : LanValue) → gives_mac verb ≡ false → OnOk r (SameReplays old new)
    → IfOk r (λ step. StepsMac unit verb step old new)
replays_ok unit verb (Ok step) old new quiet same = step_same unit verb step old new quiet (same_settings unit old new same)
replays_ok unit verb (Err memory) old new quiet same = tt

pub open_ok : (unit : UnitId) (verb : Verb) (r : Result PortStep NoMemory) (old new : LanValue) → verb ≡ verbs.Open
    → IfOk r (λ step. StepsMac unit verbs.Open step old new) → IfOk r (λ step. StepsMac unit verb step old new)
open_ok unit verb r old new is h = subst (λ (v : Verb). IfOk r (λ step. StepsMac unit v step old new)) (sym is) h

pub change_as : (unit : UnitId) (verb : Verb) (mac : Mac) (code : Hrc) (step : PortStep) (old new : LanValue) → verb ≡ verbs.ChangeMac mac
    → (¬ (code ≡ Busy) → step ≡ steps.Ends (outcomes.Code code)) → ReplaysOn unit (MacSays mac (outcomes.Code code)) old new → StepsMac unit verb step old new
change_as unit verb mac code step old new is ends h =
    subst (λ (v : Verb). StepsMac unit v step old new) (sym is) (change_steps unit mac code step old new ends h)

pub replays_any : (r : Result PortStep NoMemory) (old new : LanValue) → SameReplays old new → OnOk r (SameReplays old new)
replays_any (Ok step) old new same = same
replays_any (Err memory) old new same = tt

-- `open` registers the unit with the address of its seat; a registration is never Busy
pub opens_mac : (unit : UnitId) (own : PortSeat) (code : Hrc) (step : PortStep) (old new : LanValue) → seat_at old.seats unit ≡ Some own
    → may_answer rows.RegisterLogicalLan code ≡ true → (¬ (code ≡ Busy) → step ≡ steps.Ends (outcomes.Code code))
    → ReplaysOn unit (SetsMac (changed_to own.mac (outcomes.Code code))) old new → StepsMac unit verbs.Open step old new
opens_mac unit own code step old new at may ends h seat there =
    subst (λ (s : PortStep). SetsMac (mac_stepped seat verbs.Open s) (replay_at old unit) (replay_at new unit)) (sym (ends busy))
    (subst (λ (s : PortSeat). SetsMac (changed_to s.mac (outcomes.Code code)) (replay_at old unit) (replay_at new unit)) (same own seat (sym at ∙ there)) h.says)
  where
    same : (a b : PortSeat) → Some a ≡ Some b → a ≡ b
    same a b e = cc (e)

    busy : code ≡ Busy → ⊥
    busy e = not (subst (λ (c : Hrc). may_answer rows.RegisterLogicalLan c ≡ true) e may)
      where
        not : may_answer rows.RegisterLogicalLan Busy ≡ true → ⊥
        not f = let g : false ≡ true = f in cc (g)
