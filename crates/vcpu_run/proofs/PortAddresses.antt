-- The addresses of LAN units, and the frames that are offered to them, as steps of lines go on.
use Rattle.std.proofs.Common.{◌≡◌, ◌⊎◌, inl, inr, ℕ, zero, suc, ◌≤◌, ◌==◌, cond, Bool, true, false, List, [], ◌∷◌, ◌++◌, Option, Some, None, length, map, refl, sym, ◌∙◌, ap, subst, arith}
use Rattle.std.specs.List.{Contains, slice_get}
use Rattle.std.proofs.lemmas.List.Elements.{Contains-append_left, Contains-push}
use Rattle.vio_num.specs.declared.hypervisor.Hrc.TheVariants.{Success}
use Rattle.vio_num.specs.declared.hypervisor.Moved.{Moved}
use Rattle.vio_num.specs.declared.names.Mac.{Mac}
use Rattle.vio_num.specs.declared.names.UnitId.{UnitId}
use Rattle.boot_text.specs.declared.plan.Line.{Line}
use Rattle.boot_text.specs.declared.verb.Verb.{Verb}
use Rattle.boot_text.specs.declared.verb.Verb.TheVariants as verbs
use Rattle.unit_region.specs.declared.step.Step.TheVariants as steps
use Rattle.vio_trace.specs.declared.lan_rows.FrameRow.{FrameRow}
use Rattle.vio_trace.specs.declared.outcome.Outcome.{Outcome}
use Rattle.vio_trace.specs.declared.outcome.Outcome.TheVariants as outcomes
use Rattle.vio_trace.specs.declared.rows.LogRow.{LogRow}
use Rattle.lan_switch.specs.Switch.{port_of, same_unit}
use Rattle.lan_script.specs.OwnMac.{HasMacOf, IsForGroup, MovesMac, changed_to, mac_at, mac_given, mac_in}
use Rattle.lan_script.specs.PortCounts.{PortCounts}
use Rattle.lan_script.specs.PortReplay.{PortReplay}
use Rattle.lan_script.specs.Replayed.{replay_at}
use Rattle.lan_script.specs.Seats.{seat_at}
use Rattle.lan_script.specs.Targets.{IsTarget, offers_to}
use Rattle.lan_script.specs.Units.{LanValue, to_of}
use Rattle.lan_script.specs.declared.seat.PortSeat.{PortSeat}
use Rattle.lan_script.proofs.Laws.{mac_same, rows_still, sets_moves, target_for}
use Rattle.vcpu_run.specs.declared.script.Script.{Script}
use Rattle.vcpu_run.specs.declared.unit_seat.Seat.TheVariants as sits
use Rattle.vcpu_run.specs.Credited.{Ended, ended_by}
use Rattle.vcpu_run.specs.Ports.{unit_of}
use Rattle.vcpu_run.specs.PortMacs.{CallsPort, EndsPorts, HasMac, HasOwnMac, IsGiven, KeepsMac, mac_by_call}
use Rattle.vcpu_run.specs.PortReplays.{IsStill, OffersSince, sent_at}
use Rattle.vcpu_run.specs.PortSteps.{AllSilent, AllTake, AreFresh, IsIdle, IsSilent, RisesIf, TellsStep}
use Rattle.vcpu_run.specs.PortWords.{TellsMacs, done_in, frame_told}
use Rattle.vcpu_run.specs.Suited.{is_call}
use Rattle.vcpu_run.proofs.PortKept.{kept_same, kept_then}
use Rattle.vcpu_run.proofs.PortPosting.{idle_posted}
use Rattle.vcpu_run.proofs.Crediting.{ended_more}

-- one part of a run behind another
macs_on : (lan lan' : LanValue) (unit : UnitId) (seat : PortSeat) (lines : List Line) (logs logs' : List LogRow)
    → ((mac : Mac) → HasMac unit seat lines logs mac → HasMac unit seat lines logs' mac)
    → ((mac : Mac) → mac_at lan' unit ≡ Some mac → (mac_at lan unit ≡ Some mac) ⊎ HasMac unit seat lines logs' mac) → OffersSince lan lan' unit
    → KeepsMac lan unit seat lines logs → KeepsMac lan' unit seat lines logs'
macs_on lan lan' unit seat lines logs logs' later moves since k = record {
  mac = λ m e. of m (moves m e);
  fit = λ sender other frame kept some. fits sender other frame some (since sender other frame kept);
}
  where
    of : (m : Mac) → (mac_at lan unit ≡ Some m) ⊎ HasMac unit seat lines logs' m → HasMac unit seat lines logs' m
    of m (inl was) = later m (k.mac m was)
    of m (inr has) = has

    on : (to : Mac) → IsForGroup to ⊎ HasMac unit seat lines logs to → IsForGroup to ⊎ HasMac unit seat lines logs' to
    on to (inl group) = inl group
    on to (inr has) = inr (later to has)

    at : (to : Mac) → IsForGroup to ⊎ (mac_at lan unit ≡ Some to) → IsForGroup to ⊎ HasMac unit seat lines logs' to
    at to (inl group) = inl group
    at to (inr e) = inr (later to (k.mac to e))

    fits : (sender : UnitId) → same_unit sender unit ≡ false → (frame : FrameRow) → 1 ≤ length (offers_to unit frame.offers)
        → Contains (sent_at lan sender) frame ⊎ (1 ≤ length (offers_to unit frame.offers) → IsTarget (replay_at lan unit) (to_of frame))
        → IsForGroup (to_of frame) ⊎ HasMac unit seat lines logs' (to_of frame)
    fits sender other frame some (inl was) = on (to_of frame) (k.fit sender other frame was some)
    fits sender other frame some (inr target) = at (to_of frame) (target_for (replay_at lan unit) (to_of frame) (target some))

-- a port that is open has the address that it had or was given
moved_by : (given : Option Mac) (old new : PortReplay) (mac : Mac) → MovesMac given old new → mac_in new.settings ≡ Some mac
    → (mac_in old.settings ≡ Some mac) ⊎ (given ≡ Some mac)
moved_by given old new mac h e = subst (λ (o : Option Mac). HasMacOf given (mac_in old.settings) o) e h

no_mac : (mac : Mac) → None ≡ Some mac → ⊥
no_mac mac e = cc (e)

-- a line gives an address that the unit has
changed_has : (seat : PortSeat) (own : List Ended) (to : Mac) (outcome : Outcome) (mac : Mac) → mac_given seat (verbs.ChangeMac to) outcome ≡ Some mac
    → HasOwnMac seat (own ++ record { verb = verbs.ChangeMac to; outcome = outcome } ∷ []) mac
changed_has seat own to (outcomes.Code Success) mac e =
    subst (λ (m : Mac). HasOwnMac seat (own ++ record { verb = verbs.ChangeMac to; outcome = outcomes.Code Success } ∷ []) m) (same to mac e)
    (inr (Contains-push own (record { verb = verbs.ChangeMac to; outcome = outcomes.Code Success })))
  where
    same : (a b : Mac) → Some a ≡ Some b → a ≡ b
    same a b f = cc (f)
changed_has seat own to outcome mac e = absurd (cc (e))

-- `open` gives that of the seat
changed_is : (to : Mac) (outcome : Outcome) (mac : Mac) → changed_to to outcome ≡ Some mac → mac ≡ to
changed_is to (outcomes.Code Success) mac e = cc (e)
changed_is to outcome mac e = absurd (cc (e))

given_has : (seat : PortSeat) (own : List Ended) (verb : Verb) (outcome : Outcome) (mac : Mac) → mac_given seat verb outcome ≡ Some mac
    → HasOwnMac seat (own ++ record { verb = verb; outcome = outcome } ∷ []) mac
given_has seat own verbs.Open outcome mac e = inl (changed_is seat.mac outcome mac e)
given_has seat own (verbs.ChangeMac to) outcome mac e = changed_has seat own to outcome mac e
given_has seat own verb outcome mac e = absurd (cc (e))

-- ---- scripts

-- What the end of a line, or its step, made of the port of a unit: its address may be one that it gave.
pub record EndsMac (given : PortSeat → Option Mac) (unit : UnitId) (lan lan' : LanValue) : Type 0 where
  pub seats : lan'.seats ≡ lan.seats
  pub since : OffersSince lan lan' unit
  pub moves : (seat : PortSeat) → seat_at lan.seats unit ≡ Some seat → MovesMac (given seat) (replay_at lan unit) (replay_at lan' unit)

-- the address that a line gives, if it is of the unit
abbrev own_given : Bool → Verb → Outcome → PortSeat → Option Mac
own_given own verb outcome seat = cond own (mac_given seat verb outcome) None

still_mac : (given : PortSeat → Option Mac) (unit : UnitId) (lan lan' : LanValue) → IsStill lan lan' unit → EndsMac given unit lan lan'
still_mac given unit lan lan' still = record {
  seats = still.seats;
  since = still.offered;
  moves = λ seat at. mac_same (given seat) (replay_at lan unit) (replay_at lan' unit) (ap (λ (r : PortReplay). r.settings) still.replay);
}

step_mac : (own : Bool) (unit : UnitId) (verb : Verb) (outcome : Outcome) (done done' : ℕ) (lan lan' : LanValue)
    → RisesIf own unit verb done done' lan lan' (steps.Ends outcome) → EndsMac (own_given own verb outcome) unit lan lan'
step_mac true unit verb outcome done done' lan lan' h = record {
  seats = h.1.seats;
  since = λ sender other row kept. inl (subst (λ (l : List FrameRow). Contains l row) (h.1.others sender other) kept);
  moves = λ seat at. sets_moves (mac_given seat verb outcome) (mac_in (replay_at lan unit).settings) (mac_in (replay_at lan' unit).settings) (h.2.macs seat at);
}
step_mac false unit verb outcome done done' lan lan' h = still_mac (own_given false verb outcome) unit lan lan' h.still

silent_mac : (unit : UnitId) (lan lan' : LanValue) → AllSilent lan lan' → EndsMac (λ seat. None) unit lan lan'
silent_mac unit lan lan' silent = record {
  seats = (silent unit).seats;
  since = λ sender other row kept. inl (subst (λ (l : List FrameRow). Contains l row) (silent sender).rows kept);
  moves = λ seat at. (silent unit).mac;
}

-- a port at which nothing was done
pub silent_here : (lan : LanValue) (unit : UnitId) → IsSilent lan lan unit
silent_here lan unit = record {
  frames = refl;
  counts = refl;
  posted = refl;
  posts = refl;
  rows = refl;
  mac = mac_same None (replay_at lan unit) (replay_at lan unit) refl;
  values = λ e. refl;
  regions = kept_same lan unit;
  seats = refl;
}

pub idle_silent : (lan lan' : LanValue) (unit : UnitId) → IsIdle lan lan' unit → IsSilent lan lan' unit
idle_silent lan lan' unit idle = record {
  frames = idle.frames;
  counts = idle.counts;
  posted = idle_posted lan lan' unit idle;
  posts = rows_still unit (port_of lan.stations unit) (port_of lan'.stations unit) idle.still.grows (ap (λ (c : PortCounts). c.posts) idle.counts);
  rows = idle.still.rows;
  mac = mac_same None (replay_at lan unit) (replay_at lan' unit) (ap (λ (r : PortReplay). r.settings) idle.still.replay);
  values = idle.still.values;
  regions = idle.still.regions;
  seats = idle.still.seats;
}

pub silent_then : (old mid new : LanValue) (unit : UnitId) → IsSilent old mid unit → IsSilent mid new unit → IsSilent old new unit
silent_then old mid new unit a b = record {
  frames = b.frames ∙ a.frames;
  counts = b.counts ∙ a.counts;
  posted = b.posted ∙ a.posted;
  posts = b.posts ∙ a.posts;
  rows = b.rows ∙ a.rows;
  mac = mac_then (mac_at old unit) (mac_at mid unit) (mac_at new unit) a.mac b.mac;
  values = λ e. b.values e ∙ a.values e;
  regions = kept_then unit old mid new a.regions b.regions;
  seats = b.seats ∙ a.seats;
}
  where
    mac_then : (x y z : Option Mac) → HasMacOf None x y → HasMacOf None y z → HasMacOf None x z
    mac_then x y None h k = tt
    mac_then x y (Some m) h (inl e) = subst (λ (o : Option Mac). HasMacOf None x o) e h
    mac_then x y (Some m) h (inr e) = absurd (cc (e))

-- lines that end later take no address away
own_later : (own : Bool) (seat : PortSeat) (before : List Ended) (ended : Ended) (mac : Mac) → HasOwnMac seat before mac
    → HasOwnMac seat (cond own (before ++ ended ∷ []) before) mac
own_later false seat before ended mac h = h
own_later true seat before ended mac (inl e) = inl e
own_later true seat before ended mac (inr there) =
    inr (Contains-append_left before (ended ∷ []) (record { verb = verbs.ChangeMac mac; outcome = outcomes.Code Success }) there)

still_there : (logs : List LogRow) (last row : LogRow) (n : ℕ) → slice_get logs n ≡ Some row → slice_get (logs ++ last ∷ []) n ≡ Some row
still_there [] last row n there = cc
still_there (first ∷ logs) last row zero there = there
still_there (first ∷ logs) last row (suc n) there = still_there logs last row n there

last_there : (logs : List LogRow) (last : LogRow) → slice_get (logs ++ last ∷ []) (length logs) ≡ Some last
last_there [] last = refl
last_there (first ∷ logs) last = last_there logs last

given_later : (unit : UnitId) (lines : List Line) (logs : List LogRow) (row : LogRow) (mac : Mac) → IsGiven unit lines logs mac
    → IsGiven unit lines (logs ++ row ∷ []) mac
given_later unit lines logs row mac g = record {
  at = g.at;
  line = g.line;
  row = g.row;
  there = g.there;
  logged = still_there logs row g.row g.at g.logged;
  gave = g.gave;
}

has_later : (unit : UnitId) (seat : PortSeat) (lines : List Line) (logs : List LogRow) (line : Line) (row : LogRow) → slice_get lines (length logs) ≡ Some line
    → (mac : Mac) → HasMac unit seat lines logs mac → HasMac unit seat lines (logs ++ row ∷ []) mac
has_later unit seat lines logs line row there mac (inl own) =
    inl (subst (λ (es : List Ended). HasOwnMac seat es mac) (sym (ended_more unit.unit lines logs line row there))
    (own_later (line.unit == unit.unit) seat (ended_by unit.unit lines logs) (record { verb = line.verb; outcome = row.outcome }) mac own))
has_later unit seat lines logs line row there mac (inr given) = inr (given_later unit lines logs row mac given)

-- an address that a line gives is one that the unit has once the line ended
own_has : (own : Bool) (seat : PortSeat) (before : List Ended) (verb : Verb) (outcome : Outcome) (mac : Mac) → own_given own verb outcome seat ≡ Some mac
    → HasOwnMac seat (cond own (before ++ record { verb = verb; outcome = outcome } ∷ []) before) mac
own_has true seat before verb outcome mac e = given_has seat before verb outcome mac e
own_has false seat before verb outcome mac e = absurd (no_mac mac e)

ends_has : (unit : UnitId) (seat : PortSeat) (lines : List Line) (logs : List LogRow) (line : Line) (row : LogRow) → slice_get lines (length logs) ≡ Some line
    → (mac : Mac) → own_given (line.unit == unit.unit) line.verb row.outcome seat ≡ Some mac → HasMac unit seat lines (logs ++ row ∷ []) mac
ends_has unit seat lines logs line row there mac e =
    inl (subst (λ (es : List Ended). HasOwnMac seat es mac) (sym (ended_more unit.unit lines logs line row there))
    (own_has (line.unit == unit.unit) seat (ended_by unit.unit lines logs) line.verb row.outcome mac e))

call_has : (unit : UnitId) (seat : PortSeat) (lines : List Line) (logs : List LogRow) (line : Line) (row : LogRow) → slice_get lines (length logs) ≡ Some line
    → (mac : Mac) → mac_by_call unit line.verb row.outcome ≡ Some mac → HasMac unit seat lines (logs ++ row ∷ []) mac
call_has unit seat lines logs line row there mac e =
    inr (record { at = length logs; line = line; row = row; there = there; logged = last_there logs row; gave = e })

keeps_end : (given : PortSeat → Option Mac) (lan lan' : LanValue) (unit : UnitId) (seat : PortSeat) (lines : List Line) (logs logs' : List LogRow)
    → seat_at lan.seats unit ≡ Some seat → ((mac : Mac) → HasMac unit seat lines logs mac → HasMac unit seat lines logs' mac)
    → ((mac : Mac) → given seat ≡ Some mac → HasMac unit seat lines logs' mac) → EndsMac given unit lan lan' → KeepsMac lan unit seat lines logs
    → KeepsMac lan' unit seat lines logs'
keeps_end given lan lan' unit seat lines logs logs' at later has h k =
    macs_on lan lan' unit seat lines logs logs' later (λ m e. by m (moved_by (given seat) (replay_at lan unit) (replay_at lan' unit) m (h.moves seat at) e)) h.since k
  where
    by : (m : Mac) → (mac_at lan unit ≡ Some m) ⊎ (given seat ≡ Some m) → (mac_at lan unit ≡ Some m) ⊎ HasMac unit seat lines logs' m
    by m (inl was) = inl was
    by m (inr gave) = inr (has m gave)

keeps_still : (lan lan' : LanValue) (unit : UnitId) (seat : PortSeat) (lines : List Line) (logs : List LogRow) → IsStill lan lan' unit
    → KeepsMac lan unit seat lines logs → KeepsMac lan' unit seat lines logs
keeps_still lan lan' unit seat lines logs still k =
    macs_on lan lan' unit seat lines logs logs (λ m has. has) (λ m e. inl (ap (λ (r : PortReplay). mac_in r.settings) (sym still.replay) ∙ e)) still.offered k

-- a step of the current line that waits
keeps_wait : (b : Bool) (lan lan' : LanValue) (unit : UnitId) (seat : PortSeat) (lines : List Line) (logs : List LogRow) (verb : Verb) (done done' : ℕ) (moved : Moved)
    → seat_at lan'.seats unit ≡ Some seat → RisesIf b unit verb done done' lan lan' (steps.Waits moved)
    → (seat_at lan.seats unit ≡ Some seat → KeepsMac lan unit seat lines logs) → KeepsMac lan' unit seat lines logs
keeps_wait false lan lan' unit seat lines logs verb done done' moved at h k =
    keeps_still lan lan' unit seat lines logs h.still (k (ap (λ ss. seat_at ss unit) (sym h.still.seats) ∙ at))
keeps_wait true lan lan' unit seat lines logs verb done done' moved at h k =
    let was : seat_at lan.seats unit ≡ Some seat = ap (λ ss. seat_at ss unit) (sym h.1.seats) ∙ at in
    macs_on lan lan' unit seat lines logs logs (λ m has. has) (λ m e. by m (moved_by None (replay_at lan unit) (replay_at lan' unit) m (still was) e))
    (λ sender other row kept. inl (subst (λ (l : List FrameRow). Contains l row) (h.1.others sender other) kept)) (k was)
  where
    still : seat_at lan.seats unit ≡ Some seat → MovesMac None (replay_at lan unit) (replay_at lan' unit)
    still was = sets_moves None (mac_in (replay_at lan unit).settings) (mac_in (replay_at lan' unit).settings) (h.2.macs seat was)

    by : (m : Mac) → (mac_at lan unit ≡ Some m) ⊎ (None ≡ Some m) → (mac_at lan unit ≡ Some m) ⊎ HasMac unit seat lines logs m
    by m (inl was) = inl was
    by m (inr gave) = absurd (no_mac m gave)

-- a line that waits makes no raw call
no_call : (b : Bool) → (b ≡ true → ⊥) → b ≡ false
no_call false not = refl
no_call true not = absurd (not refl)

pub macs_wait : (lan lan' : LanValue) (script script' : Script) (line : Line) (moved : Moved) → script' ≡ record script { progress = script'.progress }
    → (is_call line.verb ≡ true → ⊥)
    → (is_call line.verb ≡ false → TellsStep script.partition script.seats.items line (done_in script.progress) (done_in script'.progress) lan lan' (steps.Waits moved))
    → TellsMacs lan script → TellsMacs lan' script'
macs_wait lan lan' script script' line moved same ends step tells = subst (λ (s : Script). TellsMacs lan' s) (sym same) each
  where
    each : TellsMacs lan' (record script { progress = script'.progress })
    each unit sat seat at =
        keeps_wait (line.unit == unit) lan lan' (unit_of script.partition unit) seat script.lines.now script.logs.items line.verb
        (done_in script.progress) (done_in script'.progress) moved at ((step (no_call (is_call line.verb) ends)).rises unit sat) (tells unit sat seat)

-- What the end of a line made of the port of a unit: its address may be one that the unit has from then on.
pub record EndsLine (partition unit : ℕ) (line : Line) (row : LogRow) (lan lan' : LanValue) : Type 0 where
  pub given : PortSeat → Option Mac
  pub ends : EndsMac given (unit_of partition unit) lan lan'
  pub of_line : (seat : PortSeat) (lines : List Line) (logs : List LogRow) → slice_get lines (length logs) ≡ Some line → (mac : Mac) → given seat ≡ Some mac
      → HasMac (unit_of partition unit) seat lines (logs ++ row ∷ []) mac

macs_end : (lan lan' : LanValue) (script ended : Script) (line : Line) (row : LogRow) → slice_get script.lines.now script.at ≡ Some line
    → length script.logs.items ≡ script.at → ended.partition ≡ script.partition → ended.lines ≡ script.lines → ended.seats ≡ script.seats
    → ended.logs.items ≡ script.logs.items ++ row ∷ []
    → ((unit : ℕ) → slice_get script.seats.items unit ≡ Some sits.Port → EndsLine script.partition unit line row lan lan')
    → TellsMacs lan script → TellsMacs lan' ended
macs_end lan lan' script ended line row found reached partition lines seats logs step tells unit sat seat at =
    subst (λ (p : ℕ). KeepsMac lan' (unit_of p unit) seat ended.lines.now ended.logs.items) (sym partition)
    (subst (λ ls. KeepsMac lan' u seat ls.now ended.logs.items) (sym lines)
    (subst (λ (rs : List LogRow). KeepsMac lan' u seat script.lines.now rs) (sym logs)
    (keeps_end did.given lan lan' u seat script.lines.now script.logs.items (script.logs.items ++ row ∷ []) was
    (has_later u seat script.lines.now script.logs.items line row there) (did.of_line seat script.lines.now script.logs.items there) did.ends
    (tells unit sat' seat was))))
  where
    u : UnitId
    u = unit_of script.partition unit

    sat' : slice_get script.seats.items unit ≡ Some sits.Port
    sat' = ap (λ ss. slice_get ss.items unit) (sym seats) ∙ sat

    did : EndsLine script.partition unit line row lan lan'
    did = step unit sat'

    was : seat_at lan.seats u ≡ Some seat
    was = ap (λ ss. seat_at ss u) (sym did.ends.seats) ∙ (ap (λ (p : ℕ). seat_at lan'.seats (unit_of p unit)) (sym partition) ∙ at)

    there : slice_get script.lines.now (length script.logs.items) ≡ Some line
    there = ap (λ n. slice_get script.lines.now n) reached ∙ found

pub macs_step : (lan lan' : LanValue) (script ended : Script) (line : Line) (row : LogRow) (done' : ℕ) → slice_get script.lines.now script.at ≡ Some line
    → length script.logs.items ≡ script.at → ended.partition ≡ script.partition → ended.lines ≡ script.lines → ended.seats ≡ script.seats
    → ended.logs.items ≡ script.logs.items ++ row ∷ []
    → (is_call line.verb ≡ true → EndsPorts script.partition line.verb lan lan' (steps.Ends row.outcome))
    → (is_call line.verb ≡ false → TellsStep script.partition script.seats.items line (done_in script.progress) done' lan lan' (steps.Ends row.outcome))
    → TellsMacs lan script → TellsMacs lan' ended
macs_step lan lan' script ended line row done' found reached partition lines seats logs call step =
    macs_end lan lan' script ended line row found reached partition lines seats logs (λ unit sat. by unit sat (is_call line.verb) call step)
  where
    called : (unit : ℕ) → CallsPort (mac_by_call (unit_of script.partition unit) line.verb row.outcome) (unit_of script.partition unit) lan lan'
        → EndsLine script.partition unit line row lan lan'
    called unit h = record {
      given = λ seat. mac_by_call (unit_of script.partition unit) line.verb row.outcome;
      ends = record { seats = h.seats; since = h.since; moves = λ seat at. h.moves };
      of_line = λ seat ls rs there m gave. call_has (unit_of script.partition unit) seat ls rs line row there m gave;
    }

    by : (unit : ℕ) → slice_get script.seats.items unit ≡ Some sits.Port → (b : Bool)
        → (b ≡ true → EndsPorts script.partition line.verb lan lan' (steps.Ends row.outcome))
        → (b ≡ false → TellsStep script.partition script.seats.items line (done_in script.progress) done' lan lan' (steps.Ends row.outcome))
        → EndsLine script.partition unit line row lan lan'
    by unit sat true h k = called unit ((h refl).1 unit)
    by unit sat false h k = record {
      given = own_given (line.unit == unit) line.verb row.outcome;
      ends = step_mac (line.unit == unit) (unit_of script.partition unit) line.verb row.outcome (done_in script.progress) done' lan lan' ((k refl).rises unit sat);
      of_line = λ seat ls rs there m gave. ends_has (unit_of script.partition unit) seat ls rs line row there m gave;
    }

pub macs_quiet : (lan lan' : LanValue) (script ended : Script) (line : Line) (row : LogRow) → slice_get script.lines.now script.at ≡ Some line
    → length script.logs.items ≡ script.at → ended.partition ≡ script.partition → ended.lines ≡ script.lines → ended.seats ≡ script.seats
    → ended.logs.items ≡ script.logs.items ++ row ∷ [] → AllSilent lan lan' → TellsMacs lan script → TellsMacs lan' ended
macs_quiet lan lan' script ended line row found reached partition lines seats logs silent =
    macs_end lan lan' script ended line row found reached partition lines seats logs
    (λ unit sat. record {
      given = λ seat. None;
      ends = silent_mac (unit_of script.partition unit) lan lan' silent;
      of_line = λ seat ls rs there m gave. absurd (no_mac m gave);
    })

-- nothing but frames was taken
pub macs_rest : (lan lan' : LanValue) (script : Script) → AllTake script.partition lan lan' → TellsMacs lan script → TellsMacs lan' script
macs_rest lan lan' script takes tells unit sat seat at =
    keeps_still lan lan' (unit_of script.partition unit) seat script.lines.now script.logs.items (takes unit).still
    (tells unit sat seat (ap (λ ss. seat_at ss (unit_of script.partition unit)) (sym (takes unit).still.seats) ∙ at))

-- nothing was done of which lines tell
pub macs_silent : (lan lan' : LanValue) (script : Script) → AllSilent lan lan' → TellsMacs lan script → TellsMacs lan' script
macs_silent lan lan' script silent tells unit sat seat at =
    let u = unit_of script.partition unit in
    let was : seat_at lan.seats u ≡ Some seat = ap (λ ss. seat_at ss u) (sym (silent u).seats) ∙ at in
    keeps_end (λ seat. None) lan lan' u seat script.lines.now script.logs.items script.logs.items was (λ m has. has) (λ m gave. absurd (no_mac m gave))
    (silent_mac u lan lan' silent) (tells unit sat seat was)

-- a script before its first line
pub macs_fresh : (lan : LanValue) (script : Script) → AreFresh lan → TellsMacs lan script
macs_fresh lan script fresh unit sat seat at = record {
  mac = λ m e. absurd (closed m (sym (ap (λ (r : PortReplay). mac_in r.settings) (fresh (unit_of script.partition unit)).2) ∙ e));
  fit = λ sender other frame kept some. absurd (nothing frame (sent_at lan sender) (fresh sender).0 kept);
}
  where
    closed : (m : Mac) → None ≡ Some m → ⊥
    closed m e = cc (e)

    nothing : (frame : FrameRow) (rows : List FrameRow) → map frame_told rows ≡ [] → Contains rows frame → ⊥
    nothing frame [] e (k, less, is) = omega (arith, less)
    nothing frame (row ∷ rows) e there = cc (e)
