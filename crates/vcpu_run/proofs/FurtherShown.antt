-- What there is of the answer to a login, and of a value that was put, once a line says so.
use Rattle.std.proofs.Common.{◌≡◌, ◌∙◌, ◌⊎◌, inl, inr, ℕ, ◌*◌, ◌≤◌, ◌/◌, ◌==◌, ◌++◌, Bool, true, false, cond, List, [], ◌∷◌, Option, Some, None, Result, Ok, Err, Contains, IfOk, MatchOption, refl, sym, ap, subst, arith}
use Rattle.std.proofs.lemmas.Bool.{eq-eqb}
use Rattle.std.proofs.lemmas.List.Elements.{Contains-append_right}
use Rattle.vio_num.specs.declared.entry.Entry.{Entry}
use Rattle.vio_num.specs.declared.hypervisor.Hrc.TheVariants as codes
use Rattle.vio_num.specs.declared.memory.NoMemory.{NoMemory}
use Rattle.vio_num.specs.declared.names.UnitId.{UnitId}
use Rattle.tce_window.specs.PortState.{PortState, Puts}
use Rattle.srp_iu.specs.declared.unit.Iu.{Iu}
use Rattle.srp_iu.specs.declared.unit.Iu.TheVariants as units
use Rattle.boot_text.specs.declared.verb.Verb.{Verb}
use Rattle.vio_trace.specs.declared.outcome.Outcome.{Outcome}
use Rattle.vio_trace.specs.declared.outcome.Outcome.TheVariants as outcomes
use Rattle.vscsi_client.specs.Login.{IsSrpTo, IsToOthers, SaysIn, SaysOf, login_slot}
use Rattle.vscsi_client.specs.Slots.{Holds}
use Rattle.vscsi_client.specs.State.{ClientState}
use Rattle.vscsi_client.specs.Turned.{EndsWith, LoginStep, Looked, Runs, Site, Turned}
use Rattle.vscsi_client.specs.Units.{slot_address}
use Rattle.vscsi_client.specs.declared.TheConstants.{SLOTS}
use Rattle.vscsi_client.specs.declared.answers.LoginTurn.{LoginTurn}
use Rattle.vscsi_client.specs.declared.answers.LoginTurn.TheVariants as turns
use Rattle.vscsi_client.specs.declared.found.Found.TheVariants as founds
use Rattle.unit_region.specs.Answers.{AnswersPut}
use Rattle.unit_region.specs.declared.step.Step.{Step}
use Rattle.unit_region.specs.declared.step.Step.TheVariants as steps
use Rattle.vcpu_run.specs.ClientSlots.{HoldsSlots}
use Rattle.vcpu_run.specs.LinesShow.{Further, IsAnswerRead, IsFurtherShown, IsGrantRead, IsRejectionRead, IsUnitRead, IsValuePut, LogsIn, PutsValue, Seen, StepShows, further_of, read_by, region_of, requests, written_by}
use Rattle.vcpu_run.specs.Sendings.{SaysTurned}
use Rattle.vcpu_run.proofs.SlotsKept.{login_within, runs_slots}
use Rattle.vcpu_run.proofs.LinesShown.{contains_first, read_there, seen_there, shows_none}

-- a turn of a login that ends: its answer was read in its slot
unit_held : (new : PortState) (entries : Entry → Type 0) (slot : ℕ) (iu : Iu) → slot ≤ SLOTS → Holds new slot iu → IsUnitRead (region_of (seen_there new entries)) iu
unit_held new entries slot iu within is = record { slot = slot; within = within; bytes = is.bytes; spells = is.spells; read = read_there new (slot_address slot) is.bytes entries is.are.read }

grant_of : (new : PortState) (entries : Entry → Type 0) (tag slot credits : ℕ) (iu : Iu) → slot ≤ SLOTS → Holds new slot iu → SaysOf tag iu (founds.Granted credits) → IsGrantRead (region_of (seen_there new entries)) credits
grant_of new entries tag slot credits (units.LoginReq r) within holds says = absurd says
grant_of new entries tag slot credits (units.TskMgmt r) within holds says = absurd says
grant_of new entries tag slot credits (units.Cmd r) within holds says = absurd says
grant_of new entries tag slot credits (units.ILogout r) within holds says = absurd says
grant_of new entries tag slot credits (units.CredRsp r) within holds says = absurd says
grant_of new entries tag slot credits (units.TLogout reason r) within holds says = absurd says
grant_of new entries tag slot credits (units.CredReq delta r) within holds says = absurd says
grant_of new entries tag slot credits (units.LoginRsp r) within holds says = (r, says.1, unit_held new entries slot (units.LoginRsp r) within holds)
grant_of new entries tag slot credits (units.Rsp r) within holds says = absurd says
grant_of new entries tag slot credits (units.LoginRej r) within holds says = absurd says

rejection_of : (new : PortState) (entries : Entry → Type 0) (tag slot reason : ℕ) (iu : Iu) → slot ≤ SLOTS → Holds new slot iu → SaysOf tag iu (founds.Rejected reason) → IsRejectionRead (region_of (seen_there new entries)) reason
rejection_of new entries tag slot reason (units.LoginReq r) within holds says = absurd says
rejection_of new entries tag slot reason (units.TskMgmt r) within holds says = absurd says
rejection_of new entries tag slot reason (units.Cmd r) within holds says = absurd says
rejection_of new entries tag slot reason (units.ILogout r) within holds says = absurd says
rejection_of new entries tag slot reason (units.CredRsp r) within holds says = absurd says
rejection_of new entries tag slot reason (units.TLogout cause r) within holds says = absurd says
rejection_of new entries tag slot reason (units.CredReq delta r) within holds says = absurd says
rejection_of new entries tag slot reason (units.LoginRsp r) within holds says = absurd says
rejection_of new entries tag slot reason (units.Rsp r) within holds says = absurd says
rejection_of new entries tag slot reason (units.LoginRej r) within holds says = (r, says.1, unit_held new entries slot (units.LoginRej r) within holds)

-- the last step of a turn, which ended it
ended_by : (line : ℕ) (step : LoginStep) (steps : List LoginStep) (a b : Site) (ends : EndsWith step steps) → Runs line steps a b → Runs line (step ∷ ends.rest) a b
ended_by line step steps a b ends runs = subst (λ (all : List LoginStep). Runs line all a b) ends.is runs

grant_read : (shared : Bool) (s : ClientState) (e : Entry) (old new : PortState) (entries : Entry → Type 0) (credits : ℕ) → HoldsSlots s → IsSrpTo shared s e old new (founds.Granted credits)
    → IsGrantRead (region_of (seen_there new entries)) credits
grant_read shared s e old new entries credits has is = at (login_slot e.low s.login) refl is
  where
    at : (o : Option ℕ) → login_slot e.low s.login ≡ o → MatchOption o (IsToOthers s e (founds.Granted credits) × (new ≡ old)) (λ slot. SaysIn shared e.low slot old new (founds.Granted credits))
        → IsGrantRead (region_of (seen_there new entries)) credits
    at None under h = absurd h.0
    at (Some slot) under h = grant_of new entries e.low slot credits h.0 (login_within e.low s.login slot has.stage under) h.1 h.2

rejection_read : (shared : Bool) (s : ClientState) (e : Entry) (old new : PortState) (entries : Entry → Type 0) (reason : ℕ) → HoldsSlots s → IsSrpTo shared s e old new (founds.Rejected reason)
    → IsRejectionRead (region_of (seen_there new entries)) reason
rejection_read shared s e old new entries reason has is = at (login_slot e.low s.login) refl is
  where
    at : (o : Option ℕ) → login_slot e.low s.login ≡ o → MatchOption o (IsToOthers s e (founds.Rejected reason) × (new ≡ old)) (λ slot. SaysIn shared e.low slot old new (founds.Rejected reason))
        → IsRejectionRead (region_of (seen_there new entries)) reason
    at None under h = absurd h.0
    at (Some slot) under h = rejection_of new entries e.low slot reason h.0 (login_within e.low s.login slot has.stage under) h.1 h.2

login_ends : (seen : Seen) (unit : UnitId) (mark : ℕ) (verb : Verb) (outcome : Outcome) (step : Step) → requests verb ≡ false → written_by verb ≡ None → read_by verb ≡ None
    → further_of verb ≡ Some LogsIn → step ≡ steps.Ends outcome → IsAnswerRead (region_of seen) outcome → StepShows seen unit mark verb (Ok step)
login_ends seen unit mark verb outcome step no_request no_bytes no_read logs says is =
    subst (λ (s : Step). StepShows seen unit mark verb (Ok s)) (sym says)
    (shows_none seen unit mark verb outcome no_request no_bytes no_read (subst (λ (o : Option Further). IsFurtherShown seen o outcome) (sym logs) is))

login_waits : (seen : Seen) (unit : UnitId) (mark : ℕ) (verb : Verb) (turn : LoginTurn) (step : Step) → SaysTurned turn step → (turn ≡ turns.Again) ⊎ ((n : ℕ) × (held : ℕ) × (turn ≡ turns.Busy n held))
    → StepShows seen unit mark verb (Ok step)
login_waits seen unit mark verb turn (steps.Waits did) says waits = tt
login_waits seen unit mark verb turn (steps.Ends outcome) says (inl e) = absurd (subst (λ (t : LoginTurn). SaysTurned t (steps.Ends outcome)) e says)
login_waits seen unit mark verb turn (steps.Ends outcome) says (inr e) = absurd (subst (λ (t : LoginTurn). SaysTurned t (steps.Ends outcome)) e.2 says)

pub login_shows : (line : ℕ) (a b : Site) (turn : LoginTurn) (step : Step) (entries : Entry → Type 0) (unit : UnitId) (mark : ℕ) (verb : Verb) → requests verb ≡ false
    → written_by verb ≡ None → read_by verb ≡ None → further_of verb ≡ Some LogsIn → HoldsSlots a.client → Turned line a b (Ok turn) → SaysTurned turn step → StepShows (seen_there b.at.own entries) unit mark verb (Ok step)
login_shows line a b (turns.Granted credits) step entries unit mark verb no_request no_bytes no_read logs has turned says =
    let last : Runs line (Looked (founds.Granted credits) ∷ turned.ends.1.rest) a b = ended_by line (Looked (founds.Granted credits)) turned.steps a b turned.ends.1 turned.runs in
    login_ends (seen_there b.at.own entries) unit mark verb (outcomes.Granted credits) step no_request no_bytes no_read logs says
    (grant_read last.0.at.own_shared last.0.client last.2.0.entry last.0.at.own b.at.own entries credits (runs_slots line turned.ends.1.rest a last.0 last.1 has) last.2.0.finds.2)
login_shows line a b (turns.Rejected reason) step entries unit mark verb no_request no_bytes no_read logs has turned says =
    let last : Runs line (Looked (founds.Rejected reason) ∷ turned.ends.1.rest) a b = ended_by line (Looked (founds.Rejected reason)) turned.steps a b turned.ends.1 turned.runs in
    login_ends (seen_there b.at.own entries) unit mark verb (outcomes.Rejected reason) step no_request no_bytes no_read logs says
    (rejection_read last.0.at.own_shared last.0.client last.2.0.entry last.0.at.own b.at.own entries reason (runs_slots line turned.ends.1.rest a last.0 last.1 has) last.2.0.finds.2)
login_shows line a b turns.Lost step entries unit mark verb no_request no_bytes no_read logs has turned says =
    login_ends (seen_there b.at.own entries) unit mark verb outcomes.Lost step no_request no_bytes no_read logs says tt
login_shows line a b turns.Again step entries unit mark verb no_request no_bytes no_read logs has turned says =
    login_waits (seen_there b.at.own entries) unit mark verb turns.Again step says (inl refl)
login_shows line a b (turns.Busy number held) step entries unit mark verb no_request no_bytes no_read logs has turned says =
    login_waits (seen_there b.at.own entries) unit mark verb (turns.Busy number held) step says (inr (number, held, refl))

-- a line that puts a value into an entry
put_there : (old new : PortState) (entry tce : ℕ) → Puts old (4096 * entry) (tce ∷ []) new → Contains (new.values entry) tce
put_there old new entry tce is =
    let at : 4096 * entry / 4096 ≡ entry = omega arith in
    let test : (4096 * entry / 4096 == entry) ≡ true = eq-eqb (4096 * entry / 4096) entry at in
    let put : new.values entry ≡ old.values entry ++ tce ∷ [] = is.values entry ∙ ap (λ b. old.values entry ++ cond b (tce ∷ []) []) test in
    subst (λ (list : List ℕ). Contains list tce) (sym put) (Contains-append_right (old.values entry) (tce ∷ []) tce (contains_first tce []))

value_put : (old new : PortState) (entry tce : ℕ) (entries : Entry → Type 0) (outcome : Outcome) → AnswersPut old new entry tce (steps.Ends outcome)
    → IsValuePut (seen_there new entries) entry tce outcome
value_put old new entry tce entries (outcomes.Granted credits) answer = tt
value_put old new entry tce entries (outcomes.Sent tag) answer = tt
value_put old new entry tce entries (outcomes.Took count) answer = tt
value_put old new entry tce entries outcomes.Lost answer = tt
value_put old new entry tce entries (outcomes.TookThenLost count) answer = tt
value_put old new entry tce entries (outcomes.Rejected reason) answer = tt
value_put old new entry tce entries outcomes.Unanswered answer = tt
value_put old new entry tce entries outcomes.Range answer = tt
value_put old new entry tce entries outcomes.NotLoggedIn answer = tt
value_put old new entry tce entries (outcomes.NoCredit limit) answer = tt
value_put old new entry tce entries (outcomes.Overlap tag) answer = tt
value_put old new entry tce entries outcomes.Closed answer = tt
value_put old new entry tce entries (outcomes.Dropped number held) answer = tt
value_put old new entry tce entries (outcomes.Data size sum) answer = tt
value_put old new entry tce entries (outcomes.Stale page) answer = tt
value_put old new entry tce entries outcomes.Unknown answer = tt
value_put old new entry tce entries (outcomes.Code codes.Success) answer = put_there old new entry tce answer.1
value_put old new entry tce entries (outcomes.Code codes.Busy) answer = tt
value_put old new entry tce entries (outcomes.Code codes.Closed) answer = tt
value_put old new entry tce entries (outcomes.Code codes.Function) answer = tt
value_put old new entry tce entries (outcomes.Code codes.Parameter) answer = tt
value_put old new entry tce entries (outcomes.Code codes.NotFound) answer = tt
value_put old new entry tce entries (outcomes.Code codes.Dropped) answer = tt
value_put old new entry tce entries (outcomes.Code codes.SourceParm) answer = tt
value_put old new entry tce entries (outcomes.Code codes.DestParm) answer = tt
value_put old new entry tce entries (outcomes.Code codes.Resource) answer = tt
value_put old new entry tce entries (outcomes.Value value) answer = tt
value_put old new entry tce entries (outcomes.Posted buffers code) answer = tt
value_put old new entry tce entries (outcomes.Frame code number) answer = tt
value_put old new entry tce entries outcomes.Done answer = tt
value_put old new entry tce entries (outcomes.Bytes shown) answer = tt

pub puts_shows : (old new : PortState) (unit : UnitId) (mark entry tce : ℕ) (entries : Entry → Type 0) (verb : Verb) (result : Result Step NoMemory) → requests verb ≡ false
    → written_by verb ≡ None → read_by verb ≡ None → further_of verb ≡ Some (PutsValue entry tce) → IfOk result (AnswersPut old new entry tce)
    → StepShows (seen_there new entries) unit mark verb result
puts_shows old new unit mark entry tce entries verb (Ok (steps.Ends outcome)) no_request no_bytes no_read puts answer =
    shows_none (seen_there new entries) unit mark verb outcome no_request no_bytes no_read
    (subst (λ (o : Option Further). IsFurtherShown (seen_there new entries) o outcome) (sym puts) (value_put old new entry tce entries outcome answer))
puts_shows old new unit mark entry tce entries verb (Ok (steps.Waits did)) no_request no_bytes no_read puts answer = tt
puts_shows old new unit mark entry tce entries verb (Err memory) no_request no_bytes no_read puts answer = tt
