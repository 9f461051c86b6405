-- How a login goes on by one entry.
use Rattle.std.specs.Prelude.{◌≡◌, ◌≢◌, ◌⊎◌, ℕ, ◌==◌, Bool, true, false, List, [], ◌∷◌, ◌++◌, Option, Some, None, filter, MatchOption, IsSome, min, ⊤, if◌then◌else◌}
use Rattle.std.specs.List.{list_any}
use Rattle.vio_num.specs.declared.entry.Entry.{Entry}
use Rattle.vio_num.specs.Entry.{is_srp_entry}
use Rattle.tce_window.specs.PortState.{PortState}
use Rattle.srp_iu.specs.declared.unit.Iu.{Iu}
use Rattle.srp_iu.specs.declared.unit.Iu.TheVariants as units
use Rattle.vscsi_client.specs.declared.found.Found.{Found}
use Rattle.vscsi_client.specs.declared.found.Found.TheVariants.{Granted, Rejected, Lost, Step, Answer, Nothing, InUse}
use Rattle.vscsi_client.specs.declared.stage.Stage.{Stage}
use Rattle.vscsi_client.specs.declared.stage.Stage.TheVariants.{Idle, Written, Sent}
use Rattle.vscsi_client.specs.State.{ClientState}
use Rattle.vscsi_client.specs.Slots.{is_event, Holds, HoldsNone, IsSlotInUse}
use Rattle.vscsi_client.specs.Taking.{slot_of, is_step, shaken_by, lost_by}

-- the slot of the login that is under way under this tag
abbrev pub login_slot : ℕ → Stage → Option ℕ
login_slot tag (Written own slot) = if own == tag then Some slot else None
login_slot tag (Sent own slot) = if own == tag then Some slot else None
login_slot tag Idle = None

-- what a unit says of the login of this tag
abbrev pub SaysOf : ℕ → Iu → Found → Type 0
SaysOf tag (units.LoginRsp r) (Granted credits) = (r.tag ≡ tag) × (r.delta ≡ credits)
SaysOf tag (units.LoginRej r) (Rejected reason) = (r.tag ≡ tag) × (r.reason ≡ reason)
SaysOf tag (units.LoginRsp r) Nothing = r.tag ≢ tag
SaysOf tag (units.LoginRej r) Nothing = r.tag ≢ tag
SaysOf tag _ Nothing = ⊤
SaysOf tag _ _ = ⊥

-- what a read of the login's slot found
abbrev pub SaysIn : (shared : Bool) → (tag slot : ℕ) → PortState → PortState → Found → Type 0
SaysIn shared tag slot old new (InUse page word) = IsSlotInUse shared slot old new page
SaysIn shared tag slot old new Nothing = HoldsNone new slot ⊎ ((iu : Iu) × Holds new slot iu × SaysOf tag iu Nothing)
SaysIn shared tag slot old new found = (iu : Iu) × Holds new slot iu × SaysOf tag iu found

-- whether an entry of this tag is kept
abbrev pub is_kept : ℕ → List Entry → Bool
is_kept tag kept = list_any (λ (e : Entry). e.low == tag) kept

-- what an SRP entry is that is no answer to the login: the first of a tag that is outstanding is kept
abbrev pub IsToOthers : ClientState → Entry → Found → Type 0
IsToOthers s e Answer = IsSome (slot_of e.low s.outgoing) × (is_kept e.low s.kept ≡ false)
IsToOthers s e Nothing = (slot_of e.low s.outgoing ≡ None) ⊎ (is_kept e.low s.kept ≡ true)
IsToOthers s e _ = ⊥

-- what an SRP entry is to a login
abbrev pub IsSrpTo : (shared : Bool) → ClientState → Entry → PortState → PortState → Found → Type 0
IsSrpTo shared s e old new found = MatchOption (login_slot e.low s.login)
    (IsToOthers s e found × (new ≡ old)) (λ slot. SaysIn shared e.low slot old new found)

-- what an entry is to a login
abbrev pub Finds : (shared : Bool) → ClientState → Entry → PortState → PortState → Found → Type 0
Finds shared s e old new Lost = (is_event e ≡ true) × (new ≡ old)
Finds shared s e old new Step = (is_event e ≡ false) × (is_srp_entry e ≡ false) × (new ≡ old)
Finds shared s e old new found = (is_event e ≡ false) × (is_srp_entry e ≡ true) × IsSrpTo shared s e old new found

-- a login that has its answer is under way no more
abbrev pub login_ended : ClientState → ClientState
login_ended s = record s { login = Idle; due = filter is_step s.due; held = None }

-- the client once a login is granted: nothing is outstanding, and no answer kept
abbrev pub granted_by : (credits : ℕ) → ClientState → ClientState
granted_by credits s = record (login_ended s) { granted = Some (min credits 200); outgoing = []; logout = None; kept = [] }

-- the client once this was found
abbrev pub found_by : Entry → Found → ClientState → ClientState
found_by e (Granted credits) s = granted_by credits s
found_by e (Rejected reason) s = login_ended s
found_by e Lost s = lost_by e s
found_by e Step s = record (shaken_by e s) { held = None }
found_by e Answer s = record s { kept = s.kept ++ e ∷ []; held = None }
found_by e Nothing s = record s { held = None }
found_by e (InUse page word) s = s
