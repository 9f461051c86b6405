-- The bytes of the frames of LAN units whose entries name their own pages, as steps of lines go on.
use Rattle.std.proofs.Common.{◌≡◌, inl, inr, ℕ, ◌-◌, ◌/◌, ◌==◌, ◌&&◌, cond, Bool, true, false, All, List, [], ◌∷◌, ◌++◌, append-nil, append_assoc, Option, Some, None, length, map, refl, sym, ◌∙◌, ap, subst}
use Rattle.std.specs.List.{slice_get}
use Rattle.vio_num.specs.declared.hypervisor.Moved.{Moved}
use Rattle.vio_num.specs.declared.names.Mac.{Mac}
use Rattle.vio_num.specs.declared.names.UnitId.{UnitId}
use Rattle.boot_text.specs.declared.plan.Line.{Line}
use Rattle.boot_text.specs.declared.verb.Verb.{Verb}
use Rattle.boot_text.specs.declared.verb.Verb.TheVariants as verbs
use Rattle.unit_region.specs.declared.step.Step.TheVariants as steps
use Rattle.vio_trace.specs.declared.lan_rows.FrameRow.{FrameRow}
use Rattle.vio_trace.specs.declared.outcome.Outcome.{Outcome}
use Rattle.vio_trace.specs.declared.outcome.Outcome.TheVariants as outcomes
use Rattle.vio_trace.specs.declared.rows.LogRow.{LogRow}
use Rattle.lan_switch.specs.Switch.{port_of}
use Rattle.lan_script.specs.Correlators.{KeepsAddresses}
use Rattle.lan_script.specs.LineFrame.{line_frame}
use Rattle.lan_script.specs.OwnMac.{HasMacOf, SetsMac, SetsMacOf, mac_at, mac_given, mac_in}
use Rattle.lan_script.specs.PortCounts.{PortCounts, counts_at}
use Rattle.lan_script.specs.PortReplay.{PortReplay}
use Rattle.lan_script.specs.Replayed.{bytes_sent, is_replayed, replay_at}
use Rattle.lan_script.specs.Seats.{seat_at}
use Rattle.lan_script.specs.Units.{LanValue}
use Rattle.lan_script.specs.Values.{KeepsValues, NamesOwn, puts_other}
use Rattle.lan_script.specs.declared.seat.PortSeat.{PortSeat}
use Rattle.lan_script.proofs.Laws.{names_own, none_carry, rows_still, still_carry}
use Rattle.vcpu_run.specs.declared.script.Script.{Script}
use Rattle.vcpu_run.specs.declared.unit_seat.Seat.TheVariants as sits
use Rattle.vcpu_run.specs.Credited.{Ended, ended_by}
use Rattle.vcpu_run.specs.Ports.{unit_of}
use Rattle.vcpu_run.specs.PortBytes.{KeepsBytes, NamesOwnPages, StepBytes, StepSendsBytes, bytes_told, frame_by, lends_other, mac_or, present_behind}
use Rattle.vcpu_run.specs.PortReplays.{IsStill, sent_at}
use Rattle.vcpu_run.specs.PortSteps.{AllSilent, AllTake, AreFresh, IsIdle, IsSilent, RisesIf, TellsStep}
use Rattle.vcpu_run.specs.PortWords.{HasNoCall, TellsBytes, done_in}
use Rattle.vcpu_run.specs.Suited.{is_call}
use Rattle.vcpu_run.specs.Works.{fails}
use Rattle.vcpu_run.proofs.Crediting.{ended_more}
use Rattle.vcpu_run.proofs.Logging.{all_at}

-- ---- one line more

bytes_more : (seat : PortSeat) (present : Mac) (es : List Ended) (e : Ended)
    → bytes_told seat present (es ++ e ∷ []) ≡ bytes_told seat present es ++ frame_by (present_behind seat present es) e.verb e.outcome
bytes_more seat present [] e = append-nil (frame_by present e.verb e.outcome)
bytes_more seat present (x ∷ es) e =
    let next = mac_or (mac_given seat x.verb x.outcome) present in
    ap (λ l. frame_by present x.verb x.outcome ++ l) (bytes_more seat next es e)
    ∙ sym (append_assoc (frame_by present x.verb x.outcome) (bytes_told seat next es) (frame_by (present_behind seat next es) e.verb e.outcome))

present_more : (seat : PortSeat) (present : Mac) (es : List Ended) (e : Ended)
    → present_behind seat present (es ++ e ∷ []) ≡ mac_or (mac_given seat e.verb e.outcome) (present_behind seat present es)
present_more seat present [] e = refl
present_more seat present (x ∷ es) e = present_more seat (mac_or (mac_given seat x.verb x.outcome) present) es e

-- the address of a port that was given this one, or none
set_is : (given : Option Mac) (old new : PortReplay) (present m : Mac) → SetsMac given old new → mac_in new.settings ≡ Some m
    → ((was : Mac) → mac_in old.settings ≡ Some was → was ≡ present) → m ≡ mac_or given present
set_is None old new present m h e was = was m (subst (λ (o : Option Mac). SetsMacOf None (mac_in old.settings) o) e h)
set_is (Some to) old new present m h e was = subst (λ (o : Option Mac). SetsMacOf (Some to) (mac_in old.settings) o) e h

-- the frame of a line is from the present address
sends_line : (unit : UnitId) (verb : Verb) (outcome : Outcome) (present : Mac) (lan lan' : LanValue) → StepSendsBytes unit verb lan lan' (steps.Ends outcome)
    → ((m : Mac) → mac_at lan unit ≡ Some m → m ≡ present) → bytes_sent lan' unit ≡ bytes_sent lan unit ++ frame_by present verb outcome
sends_line unit (verbs.Send to len seed at) (outcomes.Frame code number) present lan lan' h is =
    h.bytes ∙ ap (λ (m : Mac). bytes_sent lan unit ++ line_frame to m (len - 14) seed ∷ []) (is h.from h.present)
sends_line unit (verbs.Send to len seed at) outcome present lan lan' h is = h ∙ sym (append-nil (bytes_sent lan unit))
sends_line unit verb (outcomes.Frame code number) present lan lan' h is = absurd h
sends_line unit verb outcome present lan lan' h is = h ∙ sym (append-nil (bytes_sent lan unit))

-- ---- a port

-- a line of the unit ended
own_ends : (lan lan' : LanValue) (unit : UnitId) (seat : PortSeat) (own : List Ended) (verb : Verb) (outcome : Outcome) → (NamesOwn lan unit → NamesOwn lan' unit)
    → SetsMac (mac_given seat verb outcome) (replay_at lan unit) (replay_at lan' unit)
    → (NamesOwn lan unit → bytes_sent lan' unit ≡ bytes_sent lan unit ++ frame_by (present_behind seat seat.mac own) verb outcome)
    → (NamesOwn lan unit → KeepsAddresses unit lan lan') → KeepsBytes lan unit seat own → KeepsBytes lan' unit seat (own ++ record { verb = verb; outcome = outcome } ∷ [])
own_ends lan lan' unit seat own verb outcome names sets sends addresses k = record {
  names = names k.names;
  mac = λ m e.
      set_is (mac_given seat verb outcome) (replay_at lan unit) (replay_at lan' unit) (present_behind seat seat.mac own) m sets e k.mac
      ∙ sym (present_more seat seat.mac own (record { verb = verb; outcome = outcome }));
  bytes = bytes_more seat seat.mac own (record { verb = verb; outcome = outcome })
      ∙ ap (λ l. l ++ frame_by (present_behind seat seat.mac own) verb outcome) k.bytes ∙ sym (sends k.names);
  addresses = addresses k.names k.addresses;
}

step_ends : (lan lan' : LanValue) (unit : UnitId) (seat : PortSeat) (own : List Ended) (verb : Verb) (outcome : Outcome) → puts_other verb ≡ false
    → SetsMac (mac_given seat verb outcome) (replay_at lan unit) (replay_at lan' unit) → StepBytes unit verb lan lan' (steps.Ends outcome)
    → KeepsBytes lan unit seat own → KeepsBytes lan' unit seat (own ++ record { verb = verb; outcome = outcome } ∷ [])
step_ends lan lan' unit seat own verb outcome other sets did k =
    own_ends lan lan' unit seat own verb outcome (did.names other) sets
    (λ names. sends_line unit verb outcome (present_behind seat seat.mac own) lan lan' (did.sends names) k.mac) did.addresses k

-- its bytes, address and entries are as they were
same_sent : (lan lan' : LanValue) (unit : UnitId) → sent_at lan' unit ≡ sent_at lan unit → bytes_sent lan' unit ≡ bytes_sent lan unit
same_sent lan lan' unit rows = ap (λ (l : List FrameRow). map (λ (r : FrameRow). r.bytes) l) rows

kept_names : (lan lan' : LanValue) (unit : UnitId) → KeepsValues unit lan.places lan'.places → NamesOwn lan unit → NamesOwn lan' unit
kept_names lan lan' unit same own e = subst (λ (l : List ℕ). All (λ v. v / 4096 ≡ e) l) (sym (same e)) (own e)

keeps_on : (lan lan' : LanValue) (unit : UnitId) (seat : PortSeat) (own : List Ended) → (NamesOwn lan unit → NamesOwn lan' unit)
    → ((m : Mac) → mac_at lan' unit ≡ Some m → mac_at lan unit ≡ Some m) → (NamesOwn lan unit → bytes_sent lan' unit ≡ bytes_sent lan unit)
    → (NamesOwn lan unit → KeepsAddresses unit lan lan') → KeepsBytes lan unit seat own → KeepsBytes lan' unit seat own
keeps_on lan lan' unit seat own names mac bytes addresses k = record {
  names = names k.names;
  mac = λ m e. k.mac m (mac m e);
  bytes = k.bytes ∙ sym (bytes k.names);
  addresses = addresses k.names k.addresses;
}

still_keeps : (lan lan' : LanValue) (unit : UnitId) (seat : PortSeat) (own : List Ended) → IsStill lan lan' unit
    → (counts_at lan' unit).posts ≡ (counts_at lan unit).posts → KeepsBytes lan unit seat own → KeepsBytes lan' unit seat own
still_keeps lan lan' unit seat own still posts =
    keeps_on lan lan' unit seat own (kept_names lan lan' unit still.values) (λ m e. ap (λ (r : PortReplay). mac_in r.settings) (sym still.replay) ∙ e)
    (λ names. same_sent lan lan' unit still.rows)
    (λ names. still_carry unit lan lan' (rows_still unit (port_of lan.stations unit) (port_of lan'.stations unit) still.grows posts))

idle_keeps : (lan lan' : LanValue) (unit : UnitId) (seat : PortSeat) (own : List Ended) → IsIdle lan lan' unit → KeepsBytes lan unit seat own → KeepsBytes lan' unit seat own
idle_keeps lan lan' unit seat own idle = still_keeps lan lan' unit seat own idle.still (ap (λ (c : PortCounts). c.posts) idle.counts)

-- an open port that was given none has the address that it had
had_mac : (before now : Option Mac) (m : Mac) → HasMacOf None before now → now ≡ Some m → before ≡ Some m
had_mac before now m h e = by (subst (λ (o : Option Mac). HasMacOf None before o) e h)
  where
    by : HasMacOf None before (Some m) → before ≡ Some m
    by (inl was) = was
    by (inr gave) = absurd (cc (gave))

silent_keeps : (lan lan' : LanValue) (unit : UnitId) (seat : PortSeat) (own : List Ended) → IsSilent lan lan' unit → KeepsBytes lan unit seat own → KeepsBytes lan' unit seat own
silent_keeps lan lan' unit seat own silent =
    keeps_on lan lan' unit seat own (kept_names lan lan' unit silent.values) (λ m e. had_mac (mac_at lan unit) (mac_at lan' unit) m silent.mac e)
    (λ names. same_sent lan lan' unit silent.rows) (λ names. still_carry unit lan lan' silent.posts)

-- ---- scripts

-- a line of the unit lets no entry name another page
own_line : (b p : Bool) → b ≡ true → (b && p) ≡ false → p ≡ false
own_line true p e h = h
own_line false p e h = absurd (cc (e))

lends_none : (script : Script) (line : Line) (unit : ℕ) → slice_get script.lines.now script.at ≡ Some line → NamesOwnPages unit script.lines.now → (line.unit == unit) ≡ true
    → puts_other line.verb ≡ false
lends_none script line unit found plain own =
    own_line (line.unit == unit) (puts_other line.verb) own (all_at (λ (l : Line). lends_other unit l ≡ false) script.lines.now script.at line found plain)

pub no_call : (script : Script) (line : Line) → slice_get script.lines.now script.at ≡ Some line → HasNoCall script.lines.now → is_call line.verb ≡ false
no_call script line found none = all_at (λ (l : Line). is_call l.verb ≡ false) script.lines.now script.at line found none

waits_keeps : (b : Bool) (lan lan' : LanValue) (unit : UnitId) (seat : PortSeat) (own : List Ended) (verb : Verb) (done done' : ℕ) (moved : Moved)
    → (b ≡ true → puts_other verb ≡ false) → seat_at lan'.seats unit ≡ Some seat → RisesIf b unit verb done done' lan lan' (steps.Waits moved)
    → (seat_at lan.seats unit ≡ Some seat → KeepsBytes lan unit seat own) → KeepsBytes lan' unit seat own
waits_keeps false lan lan' unit seat own verb done done' moved other at h k =
    idle_keeps lan lan' unit seat own h (k (ap (λ ss. seat_at ss unit) (sym h.still.seats) ∙ at))
waits_keeps true lan lan' unit seat own verb done done' moved other at h k =
    let was : seat_at lan.seats unit ≡ Some seat = ap (λ ss. seat_at ss unit) (sym h.1.seats) ∙ at in
    keeps_on lan lan' unit seat own (h.3.names (other refl)) (λ m e. had m (h.2.macs seat was) e) (λ names. h.3.sends names) h.3.addresses (k was)
  where
    had : (m : Mac) → SetsMac None (replay_at lan unit) (replay_at lan' unit) → mac_at lan' unit ≡ Some m → mac_at lan unit ≡ Some m
    had m sets e = subst (λ (o : Option Mac). SetsMacOf None (mac_at lan unit) o) e sets

pub bytes_wait : (lan lan' : LanValue) (script script' : Script) (line : Line) (moved : Moved) → slice_get script.lines.now script.at ≡ Some line
    → script' ≡ record script { progress = script'.progress }
    → (is_call line.verb ≡ false → TellsStep script.partition script.seats.items line (done_in script.progress) (done_in script'.progress) lan lan' (steps.Waits moved))
    → TellsBytes lan script → TellsBytes lan' script'
bytes_wait lan lan' script script' line moved found same step tells = subst (λ (s : Script). TellsBytes lan' s) (sym same) each
  where
    each : TellsBytes lan' (record script { progress = script'.progress })
    each none unit plain sat seat at =
        waits_keeps (line.unit == unit) lan lan' (unit_of script.partition unit) seat (ended_by unit script.lines.now script.logs.items) line.verb
        (done_in script.progress) (done_in script'.progress) moved (lends_none script line unit found plain) at ((step (no_call script line found none)).rises unit sat)
        (tells none unit plain sat seat)

-- what the end of a line, or its step, made of the port of a unit, if it was told
abbrev EndsBytes : (own : Bool) → UnitId → Verb → Outcome → (lan lan' : LanValue) → Type 0
EndsBytes own unit verb outcome lan lan' = (seat : PortSeat) (es : List Ended) → (own ≡ true → puts_other verb ≡ false) → seat_at lan'.seats unit ≡ Some seat
    → (seat_at lan.seats unit ≡ Some seat → KeepsBytes lan unit seat es)
    → KeepsBytes lan' unit seat (cond own (es ++ record { verb = verb; outcome = outcome } ∷ []) es)

bytes_end : (lan lan' : LanValue) (script ended : Script) (line : Line) (row : LogRow) → slice_get script.lines.now script.at ≡ Some line
    → length script.logs.items ≡ script.at → ended.partition ≡ script.partition → ended.lines ≡ script.lines → ended.seats ≡ script.seats
    → ended.logs.items ≡ script.logs.items ++ row ∷ []
    → (is_call line.verb ≡ false → (unit : ℕ) → slice_get script.seats.items unit ≡ Some sits.Port
    → EndsBytes (line.unit == unit) (unit_of script.partition unit) line.verb row.outcome lan lan')
    → TellsBytes lan script → TellsBytes lan' ended
bytes_end lan lan' script ended line row found reached partition lines seats logs step tells none unit plain sat seat at =
    subst (λ (es : List Ended). KeepsBytes lan' (unit_of ended.partition unit) seat es) (sym records)
    (subst (λ (p : ℕ). KeepsBytes lan' (unit_of p unit) seat (cond (line.unit == unit) (before ++ record { verb = line.verb; outcome = row.outcome } ∷ []) before)) (sym partition)
    (step (no_call script line found none') unit sat' seat before (lends_none script line unit found plain') at' (tells none' unit plain' sat' seat)))
  where
    none' : HasNoCall script.lines.now
    none' = subst (λ ls. HasNoCall ls.now) lines none

    plain' : NamesOwnPages unit script.lines.now
    plain' = subst (λ ls. NamesOwnPages unit ls.now) lines plain

    sat' : slice_get script.seats.items unit ≡ Some sits.Port
    sat' = ap (λ ss. slice_get ss.items unit) (sym seats) ∙ sat

    at' : seat_at lan'.seats (unit_of script.partition unit) ≡ Some seat
    at' = ap (λ (p : ℕ). seat_at lan'.seats (unit_of p unit)) (sym partition) ∙ at

    before : List Ended
    before = ended_by unit script.lines.now script.logs.items

    there : slice_get script.lines.now (length script.logs.items) ≡ Some line
    there = ap (λ n. slice_get script.lines.now n) reached ∙ found

    records : ended_by unit ended.lines.now ended.logs.items ≡ cond (line.unit == unit) (before ++ record { verb = line.verb; outcome = row.outcome } ∷ []) before
    records = ap (λ ls. ended_by unit ls.now ended.logs.items) lines
        ∙ (ap (ended_by unit script.lines.now) logs ∙ ended_more unit script.lines.now script.logs.items line row there)

-- a step of the current line, which ended
rises_bytes : (own : Bool) (unit : UnitId) (verb : Verb) (outcome : Outcome) (done done' : ℕ) (lan lan' : LanValue)
    → RisesIf own unit verb done done' lan lan' (steps.Ends outcome) → EndsBytes own unit verb outcome lan lan'
rises_bytes true unit verb outcome done done' lan lan' h seat es other at k =
    let was : seat_at lan.seats unit ≡ Some seat = ap (λ ss. seat_at ss unit) (sym h.1.seats) ∙ at in
    step_ends lan lan' unit seat es verb outcome (other refl) (h.2.macs seat was) h.3 (k was)
rises_bytes false unit verb outcome done done' lan lan' h seat es other at k =
    idle_keeps lan lan' unit seat es h (k (ap (λ ss. seat_at ss unit) (sym h.still.seats) ∙ at))

pub bytes_step : (lan lan' : LanValue) (script ended : Script) (line : Line) (row : LogRow) (done' : ℕ) → slice_get script.lines.now script.at ≡ Some line
    → length script.logs.items ≡ script.at → ended.partition ≡ script.partition → ended.lines ≡ script.lines → ended.seats ≡ script.seats
    → ended.logs.items ≡ script.logs.items ++ row ∷ []
    → (is_call line.verb ≡ false → TellsStep script.partition script.seats.items line (done_in script.progress) done' lan lan' (steps.Ends row.outcome))
    → TellsBytes lan script → TellsBytes lan' ended
bytes_step lan lan' script ended line row done' found reached partition lines seats logs step =
    bytes_end lan lan' script ended line row found reached partition lines seats logs
    (λ no unit sat.
    rises_bytes (line.unit == unit) (unit_of script.partition unit) line.verb row.outcome (done_in script.progress) done' lan lan' ((step no).rises unit sat))

-- a line that is none of a replay gives no address, and one that tells of no frame sent none
quiet_given : (seat : PortSeat) (verb : Verb) (outcome : Outcome) → is_replayed verb ≡ false → mac_given seat verb outcome ≡ None
quiet_given seat verbs.Open outcome e = absurd (cc (e))
quiet_given seat (verbs.ChangeMac mac) outcome e = absurd (cc (e))
quiet_given seat verb outcome e = refl

quiet_frame : (present : Mac) (verb : Verb) (outcome : Outcome) → is_replayed verb ≡ false → frame_by present verb outcome ≡ []
quiet_frame present (verbs.Send to len seed at) outcome e = absurd (cc (e))
quiet_frame present verb outcome e = refl

quiet_bytes : (own : Bool) (unit : UnitId) (verb : Verb) (outcome : Outcome) (lan lan' : LanValue) → is_replayed verb ≡ false → IsSilent lan lan' unit
    → EndsBytes own unit verb outcome lan lan'
quiet_bytes false unit verb outcome lan lan' quiet silent seat es other at k =
    silent_keeps lan lan' unit seat es silent (k (ap (λ ss. seat_at ss unit) (sym silent.seats) ∙ at))
quiet_bytes true unit verb outcome lan lan' quiet silent seat es other at k = record {
  names = now.names;
  mac = λ m e. now.mac m e ∙ sym (present_more seat seat.mac es e' ∙ ap (λ (g : Option Mac). mac_or g (present_behind seat seat.mac es)) (quiet_given seat verb outcome quiet));
  bytes = bytes_more seat seat.mac es e'
      ∙ ap (λ l. bytes_told seat seat.mac es ++ l) (quiet_frame (present_behind seat seat.mac es) verb outcome quiet)
      ∙ append-nil (bytes_told seat seat.mac es) ∙ now.bytes;
  addresses = now.addresses;
}
  where
    e' : Ended
    e' = record { verb = verb; outcome = outcome }

    now : KeepsBytes lan' unit seat es
    now = silent_keeps lan lan' unit seat es silent (k (ap (λ ss. seat_at ss unit) (sym silent.seats) ∙ at))

pub bytes_quiet : (lan lan' : LanValue) (script ended : Script) (line : Line) (row : LogRow) → slice_get script.lines.now script.at ≡ Some line
    → length script.logs.items ≡ script.at → ended.partition ≡ script.partition → ended.lines ≡ script.lines → ended.seats ≡ script.seats
    → ended.logs.items ≡ script.logs.items ++ row ∷ [] → is_replayed line.verb ≡ false → AllSilent lan lan' → TellsBytes lan script → TellsBytes lan' ended
bytes_quiet lan lan' script ended line row found reached partition lines seats logs quiet silent =
    bytes_end lan lan' script ended line row found reached partition lines seats logs
    (λ no unit sat. quiet_bytes (line.unit == unit) (unit_of script.partition unit) line.verb row.outcome lan lan' quiet (silent (unit_of script.partition unit)))

-- a line that fails the partition is none of a replay
pub fails_quiet : (verb : Verb) → fails verb ≡ true → is_replayed verb ≡ false
fails_quiet verbs.Fail e = refl
fails_quiet verb e = absurd (cc (e))

-- nothing but frames was taken, or nothing was done of which lines tell
pub bytes_rest : (lan lan' : LanValue) (script : Script) → AllTake script.partition lan lan' → TellsBytes lan script → TellsBytes lan' script
bytes_rest lan lan' script takes tells none unit plain sat seat at =
    still_keeps lan lan' (unit_of script.partition unit) seat (ended_by unit script.lines.now script.logs.items) (takes unit).still (takes unit).posts
    (tells none unit plain sat seat (ap (λ ss. seat_at ss (unit_of script.partition unit)) (sym (takes unit).still.seats) ∙ at))

pub bytes_silent : (lan lan' : LanValue) (script : Script) → AllSilent lan lan' → TellsBytes lan script → TellsBytes lan' script
bytes_silent lan lan' script silent tells none unit plain sat seat at =
    let u = unit_of script.partition unit in
    silent_keeps lan lan' u seat (ended_by unit script.lines.now script.logs.items) (silent u)
    (tells none unit plain sat seat (ap (λ ss. seat_at ss u) (sym (silent u).seats) ∙ at))

-- a script before its first line
pub nothing_ended : (unit : ℕ) (ls : List Line) → ended_by unit ls [] ≡ []
nothing_ended unit [] = refl
nothing_ended unit (l ∷ ls) = refl

pub bytes_fresh : (lan : LanValue) (script : Script) → script.logs.items ≡ [] → AreFresh lan → TellsBytes lan script
bytes_fresh lan script logs fresh none unit plain sat seat at =
    subst (λ (es : List Ended). KeepsBytes lan u seat es) (sym (ap (λ rows. ended_by unit script.lines.now rows) logs ∙ nothing_ended unit script.lines.now))
    (record {
      names = names_own lan u (fresh u).3;
      mac = λ m e. absurd (closed m (sym (ap (λ (r : PortReplay). mac_in r.settings) (fresh u).2) ∙ e));
      bytes = sym (ap (λ (r : PortReplay). r.frames) (fresh u).2);
      addresses = none_carry lan u (fresh u).4;
    })
  where
    u : UnitId
    u = unit_of script.partition unit

    closed : (m : Mac) → None ≡ Some m → ⊥
    closed m e = cc (e)
