-- Each loss that a client tells has an event of its own, which was taken or was waiting.
use Rattle.std.proofs.Common.{◌≡◌, ◌∙◌, ◌⊎◌, inl, inr, ℕ, ◌+◌, ◌≤◌, Bool, true, false, cond, List, [], ◌∷◌, ◌++◌, Some, None, Result, Ok, Err, OnOk, map, refl, sym, ap, subst, arith}
use Rattle.std.specs.Prelude.{⊤}
use Rattle.std.proofs.lemmas.List.{map-append}
use Rattle.vio_num.specs.declared.entry.Entry.{Entry}
use Rattle.vio_num.specs.declared.memory.NoMemory.{NoMemory}
use Rattle.crq_ring.specs.declared.rows.PipeRow.{PipeRow}
use Rattle.crq_session.specs.Answered.{FindsNone, Takes}
use Rattle.crq_session.specs.EndState.{EndState, OnlyReserves}
use Rattle.crq_session.specs.declared.answers.RegAnswer.{RegAnswer}
use Rattle.crq_session.specs.declared.answers.RegAnswer.TheVariants as reg
use Rattle.crq_session.specs.declared.answers.SendAnswer.{SendAnswer}
use Rattle.tce_window.specs.PortState.{PortState}
use Rattle.vscsi_client.specs.Login.{Finds, found_by}
use Rattle.vscsi_client.specs.Ports.{Ports}
use Rattle.vscsi_client.specs.Slots.{is_event}
use Rattle.vscsi_client.specs.State.{ClientState}
use Rattle.vscsi_client.specs.Taking.{Fetches, IsNext, Judges, TakesAs, TakesEntry, TakesNone, taken_by}
use Rattle.vscsi_client.specs.Turned.{Began, LoginStep, Looked, NotWritten, PollsNone, Put, RanOut, Registered, RegistersAs, Runs, Site, Steps, TakesNext, Took, TookNone, Turned, Wrote, freed_by, is_dropped, login_due, registered_by, sent_by, sent_stage, written_at}
use Rattle.vscsi_client.specs.declared.answers.LoginTurn.{LoginTurn}
use Rattle.vscsi_client.specs.declared.answers.LoginTurn.TheVariants as turns
use Rattle.vscsi_client.specs.declared.answers.Taken.{Taken}
use Rattle.vscsi_client.specs.declared.answers.Taken.TheVariants as takens
use Rattle.vscsi_client.specs.declared.found.Found.{Found}
use Rattle.vscsi_client.specs.declared.found.Found.TheVariants as founds
use Rattle.vscsi_client.specs.declared.stage.Due.{Due}
use Rattle.vscsi_client.specs.declared.answers.Refused.{Refused}
use Rattle.unit_region.specs.Steps.{IsPlain, is_plain}
use Rattle.unit_region.specs.declared.step.Step.{Step}
use Rattle.unit_region.specs.declared.step.Step.TheVariants as steps
use Rattle.vio_trace.specs.declared.outcome.Outcome.{Outcome}
use Rattle.vio_trace.specs.declared.outcome.Outcome.TheVariants as outcomes
use Rattle.vcpu_run.specs.Credited.{Ended}
use Rattle.vcpu_run.specs.EventsHeard.{AreEventsHeard, Hears, StepHears, event_if, events_among, events_taken, events_waiting, losses_told, lost_in, lost_of, one_event}
use Rattle.vcpu_run.specs.Sendings.{SaysSent, SaysTurned}

-- how many events are among entries, one list behind another
pub events_append : (xs ys : List Entry) → events_among (xs ++ ys) ≡ events_among xs + events_among ys
events_append [] ys = omega arith
events_append (x ∷ xs) ys = plain (one_event x) (events_among xs) (events_among ys) (events_among (xs ++ ys)) (events_append xs ys)
  where
    plain : (one a b all : ℕ) → all ≡ a + b → one + all ≡ (one + a) + b
    plain one a b all is = omega (arith, is)

pub taken_more : (rows : List PipeRow) (row : PipeRow) → events_taken (rows ++ row ∷ []) ≡ events_taken rows + one_event row.entry
taken_more rows row =
    let whole : events_taken (rows ++ row ∷ []) ≡ events_among (map (λ (r : PipeRow). r.entry) rows ++ row.entry ∷ []) = ap events_among (map-append (λ (r : PipeRow). r.entry) rows (row ∷ [])) in
    let parts : events_among (map (λ (r : PipeRow). r.entry) rows ++ row.entry ∷ []) ≡ events_taken rows + (one_event row.entry + 0) = events_append (map (λ (r : PipeRow). r.entry) rows) (row.entry ∷ []) in
    let last : events_taken rows + (one_event row.entry + 0) ≡ events_taken rows + one_event row.entry = omega arith in
    whole ∙ (parts ∙ last)

-- no more waits than before, and nothing was taken
pub hears_none : (s s' : ClientState) (end end' : EndState) → events_among s'.kept + event_if s'.held ≤ events_among s.kept + event_if s.held → end'.taken ≡ end.taken → Hears 0 s s' end end'
hears_none s s' end end' less same =
    let taken : events_taken end'.taken ≡ events_taken end.taken = ap events_taken same in
    plain (events_among s.kept + event_if s.held) (events_among s'.kept + event_if s'.held) (events_taken end.taken) (events_taken end'.taken) less taken
  where
    plain : (w w' e e' : ℕ) → w' ≤ w → e' ≡ e → 0 + (w' + e) ≤ w + e'
    plain w w' e e' less same = omega (arith, less, same)

pub hears_same : (s s' : ClientState) (end end' : EndState) → s'.kept ≡ s.kept → s'.held ≡ s.held → end'.taken ≡ end.taken → Hears 0 s s' end end'
hears_same s s' end end' kept held same =
    let k : events_among s'.kept ≡ events_among s.kept = ap events_among kept in
    let h : event_if s'.held ≡ event_if s.held = ap event_if held in
    let less : events_among s'.kept + event_if s'.held ≤ events_among s.kept + event_if s.held = omega (arith, k, h) in
    hears_none s s' end end' less same

-- nothing waits any more
forgot_hear : (s s' : ClientState) (end end' : EndState) → s'.kept ≡ [] → s'.held ≡ None → end'.taken ≡ end.taken → Hears 0 s s' end end'
forgot_hear s s' end end' kept held same =
    let k : events_among s'.kept ≡ 0 = ap events_among kept in
    let h : event_if s'.held ≡ 0 = ap event_if held in
    let none : events_among s'.kept + event_if s'.held ≤ events_among s.kept + event_if s.held = omega (arith, k, h) in
    hears_none s s' end end' none same

-- no entry is held any more, and the others wait still
dropped_hear : (s s' : ClientState) (end end' : EndState) → s'.kept ≡ s.kept → s'.held ≡ None → end'.taken ≡ end.taken → Hears 0 s s' end end'
dropped_hear s s' end end' kept held same =
    let k : events_among s'.kept ≡ events_among s.kept = ap events_among kept in
    let h : event_if s'.held ≡ 0 = ap event_if held in
    let less : events_among s'.kept + event_if s'.held ≤ events_among s.kept + event_if s.held = omega (arith, k, h) in
    hears_none s s' end end' less same

-- one behind another
pub hears_on : (m n : ℕ) (a b c : ClientState) (e f g : EndState) → Hears m a b e f → Hears n b c f g → Hears (m + n) a c e g
hears_on m n a b c e f g = plain (events_waiting a) (events_waiting b) (events_waiting c) (events_taken e.taken) (events_taken f.taken) (events_taken g.taken)
  where
    plain : (x y z p q r : ℕ) → m + (y + p) ≤ x + q → n + (z + q) ≤ y + r → (m + n) + (z + p) ≤ x + r
    plain x y z p q r first next = omega (arith, first, next)

pub hears_less : (m : ℕ) (a b : ClientState) (e f : EndState) → Hears m a b e f → Hears 0 a b e f
hears_less m a b e f = plain (events_waiting a) (events_waiting b) (events_taken e.taken) (events_taken f.taken)
  where
    plain : (x y p q : ℕ) → m + (y + p) ≤ x + q → 0 + (y + p) ≤ x + q
    plain x y p q is = omega (arith, is)

-- the client is this one
hears_as : (m : ℕ) (a b c : ClientState) (e f : EndState) → b ≡ c → Hears m a c e f → Hears m a b e f
hears_as m a b c e f same is = subst (λ (x : ClientState). Hears m a x e f) (sym same) is

event_one : (entry : Entry) → is_event entry ≡ true → one_event entry ≡ 1
event_one entry is = ap (λ b. cond b 1 0) is

event_none : (entry : Entry) → is_event entry ≡ false → one_event entry ≡ 0
event_none entry is = ap (λ b. cond b 1 0) is

-- room was made before
room_taken : (end room end' : EndState) → OnlyReserves end room → end'.taken ≡ room.taken → end'.taken ≡ end.taken
room_taken end room end' ready same = same ∙ ready.taken

-- an entry more was taken
took_more : (shared : Bool) (end room end' : EndState) (number : ℕ) (entry : Entry) → OnlyReserves end room → Takes shared room end' number entry
    → events_taken end'.taken ≡ events_taken end.taken + one_event entry
took_more shared end room end' number entry ready takes =
    let row : PipeRow = record { session = room.last_session; entry = entry } in
    ap events_taken takes.taken ∙ (taken_more room.taken row ∙ ap (λ (rows : List PipeRow). events_taken rows + one_event entry) ready.taken)

-- the own queue was to be registered
registers_hear : (shared : Bool) (s s' : ClientState) (end room end' : EndState) (answer : RegAnswer) → RegistersAs shared s s' room end' answer → end'.taken ≡ end.taken → Hears 0 s s' end end'
registers_hear shared s s' end room end' reg.Success how same = hears_as 0 s s' (registered_by s) end end' how.2 (forgot_hear s (registered_by s) end end' refl refl same)
registers_hear shared s s' end room end' (reg.Closed control) how same = hears_as 0 s s' (registered_by s) end end' how.2 (forgot_hear s (registered_by s) end end' refl refl same)
registers_hear shared s s' end room end' reg.Parameter how same = absurd how
registers_hear shared s s' end room end' reg.Resource how same = hears_as 0 s s' s end end' how.2 (hears_same s s end end' refl refl same)
registers_hear shared s s' end room end' (reg.Busy number held) how same = hears_as 0 s s' (freed_by s) end end' how.1 (forgot_hear s (freed_by s) end end' refl refl same)

-- an entry was taken, and is held
next_hear : (shared : Bool) (s s' : ClientState) (end end' : EndState) → TakesNext shared s s' end end' → Hears 0 s s' end end'
next_hear shared s s' end end' is =
    hears_as 0 s s' (record s { held = Some is.entry }) end end' is.client
    (plain (events_among s.kept) (event_if s.held) (one_event is.entry) (events_taken end.taken) (events_taken end'.taken) (ap event_if is.none_held)
    (took_more shared end is.room end' is.number is.entry is.ready is.taken))
  where
    plain : (k h one e e' : ℕ) → h ≡ 0 → e' ≡ e + one → 0 + ((k + one) + e) ≤ (k + h) + e'
    plain k h one e e' none more = omega (arith, none, more)

none_hear : (shared : Bool) (s s' : ClientState) (end end' : EndState) → PollsNone shared s s' end end' → Hears 0 s s' end end'
none_hear shared s s' end end' is = hears_as 0 s s' s end end' is.client (hears_none s s end end' (omega arith) (room_taken end is.room end' is.ready (by is.none)))
  where
    by : FindsNone shared is.room end' is.number ⊎ ((is.room.registered ≡ false) × OnlyReserves is.room end') → end'.taken ≡ is.room.taken
    by (inl found) = found.taken
    by (inr left) = left.1.taken

-- an entry that was held was looked at
abbrev pub found_lost : Found → ℕ
found_lost founds.Lost = 1
found_lost _ = 0

looked_hear : (shared : Bool) (s : ClientState) (entry : Entry) (old new : PortState) (end end' : EndState) (found : Found) → s.held ≡ Some entry → Finds shared s entry old new found → end'.taken ≡ end.taken
    → Hears (found_lost found) s (found_by entry found s) end end'
looked_hear shared s entry old new end end' (founds.Granted credits) held finds same = forgot_hear s (found_by entry (founds.Granted credits) s) end end' refl refl same
looked_hear shared s entry old new end end' (founds.Rejected reason) held finds same = dropped_hear s (found_by entry (founds.Rejected reason) s) end end' refl refl same
looked_hear shared s entry old new end end' founds.Lost held finds same =
    plain (events_among s.kept) (event_if s.held) (one_event entry) (events_taken end.taken) (events_taken end'.taken) (ap event_if held) (event_one entry finds.0) (ap events_taken same)
  where
    plain : (k h one e e' : ℕ) → h ≡ one → one ≡ 1 → e' ≡ e → 1 + (0 + e) ≤ (k + h) + e'
    plain k h one e e' waits is same = omega (arith, waits, is, same)
looked_hear shared s entry old new end end' founds.Step held finds same = dropped_hear s (found_by entry founds.Step s) end end' refl refl same
looked_hear shared s entry old new end end' founds.Answer held finds same =
    plain (events_among s.kept) (event_if s.held) (one_event entry) (events_among (s.kept ++ entry ∷ [])) (events_taken end.taken) (events_taken end'.taken)
    (event_none entry finds.0) (events_append s.kept (entry ∷ [])) (ap events_taken same)
  where
    plain : (k h one all e e' : ℕ) → one ≡ 0 → all ≡ k + (one + 0) → e' ≡ e → 0 + ((all + 0) + e) ≤ (k + h) + e'
    plain k h one all e e' none more same = omega (arith, none, more, same)
looked_hear shared s entry old new end end' founds.Nothing held finds same = dropped_hear s (found_by entry founds.Nothing s) end end' refl refl same
looked_hear shared s entry old new end end' (founds.InUse page word) held finds same = hears_same s s end end' refl refl same

-- what is due was sent, or met a queue that was full
sent_hear : (s : ClientState) (end end' : EndState) (due : Due) (others : List Due) (answer : SendAnswer) → end'.taken ≡ end.taken → Hears 0 s (sent_by due others answer s) end end'
sent_hear s end end' due others answer same = at (is_dropped answer)
  where
    after : ClientState
    after = record s { due = others; login = sent_stage due s.login }

    at : (b : Bool) → Hears 0 s (cond b s after) end end'
    at true = hears_same s s end end' refl refl same
    at false = hears_same s after end end' refl refl same

-- a step of a login's turn
abbrev pub step_lost : LoginStep → ℕ
step_lost (Looked found) = found_lost found
step_lost _ = 0

pub step_hears : (line : ℕ) (step : LoginStep) (a b : Site) → Steps line step a b → Hears (step_lost step) a.client b.client a.at.crq b.at.crq
step_hears line (Registered answer) a b is =
    registers_hear a.at.crq_shared a.client b.client a.at.crq is.0.room b.at.crq answer is.0.registers (room_taken a.at.crq is.0.room b.at.crq is.0.ready is.0.rest.taken)
step_hears line Took a b is = next_hear a.at.crq_shared a.client b.client a.at.crq b.at.crq is.0
step_hears line TookNone a b is = none_hear a.at.crq_shared a.client b.client a.at.crq b.at.crq is.0
step_hears line (Looked found) a b is =
    hears_as (found_lost found) a.client b.client (found_by is.0.entry found a.client) a.at.crq b.at.crq is.0.client
    (looked_hear a.at.own_shared a.client is.0.entry a.at.own b.at.own a.at.crq b.at.crq found is.0.held is.0.finds (ap (λ (e : EndState). e.taken) is.1))
step_hears line Began a b is =
    hears_as 0 a.client b.client (login_due a.client) a.at.crq b.at.crq is.0.client (hears_same a.client (login_due a.client) a.at.crq b.at.crq refl refl (ap (λ (e : EndState). e.taken) is.1))
step_hears line Wrote a b is =
    hears_as 0 a.client b.client (written_at is.1.slot a.client) a.at.crq b.at.crq is.1.client (hears_same a.client (written_at is.1.slot a.client) a.at.crq b.at.crq refl refl (ap (λ (e : EndState). e.taken) is.2))
step_hears line (NotWritten page word) a b is =
    hears_as 0 a.client b.client a.client a.at.crq b.at.crq is.1.client (hears_same a.client a.client a.at.crq b.at.crq refl refl (ap (λ (e : EndState). e.taken) is.2))
step_hears line (Put due answer) a b is =
    hears_as 0 a.client b.client (sent_by due is.0.others answer a.client) a.at.crq b.at.crq is.0.client
    (sent_hear a.client a.at.crq b.at.crq due is.0.others answer (room_taken a.at.crq is.0.room b.at.crq is.0.ready is.0.rest.taken))
step_hears line RanOut a b is = hears_as 0 a.client b.client a.client a.at.crq b.at.crq is.client (hears_same a.client a.client a.at.crq b.at.crq refl refl is.crq.taken)

pub runs_hear : (line : ℕ) (steps : List LoginStep) (a b : Site) → Runs line steps a b → Hears 0 a.client b.client a.at.crq b.at.crq
runs_hear line [] a b is =
    subst (λ (s : Site). Hears 0 a.client s.client a.at.crq s.at.crq) (sym is) (hears_same a.client a.client a.at.crq a.at.crq refl refl refl)
runs_hear line (step ∷ steps) a c is =
    let b : Site = is.0 in
    hears_on 0 0 a.client b.client c.client a.at.crq b.at.crq c.at.crq (runs_hear line steps a b is.1)
    (hears_less (step_lost step) b.client c.client b.at.crq c.at.crq (step_hears line step b c is.2))

-- a turn of a login
abbrev pub turn_lost : LoginTurn → ℕ
turn_lost turns.Lost = 1
turn_lost _ = 0

pub turn_hears : (line : ℕ) (a b : Site) (turn : LoginTurn) → Turned line a b (Ok turn) → Hears (turn_lost turn) a.client b.client a.at.crq b.at.crq
turn_hears line a b (turns.Granted credits) turned = runs_hear line turned.steps a b turned.runs
turn_hears line a b (turns.Rejected reason) turned = runs_hear line turned.steps a b turned.runs
turn_hears line a b turns.Lost turned =
    let last : Runs line (Looked founds.Lost ∷ turned.ends.1.rest) a b = subst (λ (all : List LoginStep). Runs line all a b) turned.ends.1.is turned.runs in
    let m : Site = last.0 in
    hears_on 0 1 a.client m.client b.client a.at.crq m.at.crq b.at.crq (runs_hear line turned.ends.1.rest a m last.1) (step_hears line (Looked founds.Lost) m b last.2)
turn_hears line a b turns.Again turned = runs_hear line turned.steps a b turned.runs
turn_hears line a b (turns.Busy number held) turned = runs_hear line turned.steps a b turned.runs

-- an entry is the first that is kept
next_kept : (kept : List Entry) (shared : Bool) (s : ClientState) (end end' : EndState) (entry : Entry) (rest : List Entry) → s.kept ≡ kept → IsNext kept shared end entry rest end'
    → Hears 0 s (record s { kept = entry ∷ rest }) end end'
next_kept [] shared s end end' entry rest none is =
    plain (events_among s.kept) (event_if s.held) (one_event entry) (events_among rest) (events_taken end.taken) (events_taken end'.taken) (ap events_among none) (ap events_among is.0)
    (took_more shared end is.1.room end' is.1.number entry is.1.ready is.1.taken)
  where
    plain : (k h one left e e' : ℕ) → k ≡ 0 → left ≡ 0 → e' ≡ e + one → 0 + (((one + left) + h) + e) ≤ (k + h) + e'
    plain k h one left e e' none empty more = omega (arith, none, empty, more)
next_kept (first ∷ more) shared s end end' entry rest some is =
    plain (events_among s.kept) (event_if s.held) (one_event entry) (one_event first) (events_among rest) (events_among more) (events_taken end.taken) (events_taken end'.taken)
    (ap events_among some) (ap one_event is.0) (ap events_among is.1) (ap (λ (e : EndState). events_taken e.taken) is.2)
  where
    plain : (k h one fst left others e e' : ℕ) → k ≡ fst + others → one ≡ fst → left ≡ others → e' ≡ e → 0 + (((one + left) + h) + e) ≤ (k + h) + e'
    plain k h one fst left others e e' kept same rest is = omega (arith, kept, same, rest, is)

pub fetches_hear : (shared : Bool) (s s' : ClientState) (end end' : EndState) → Fetches shared s s' end end' → Hears 0 s s' end end'
fetches_hear shared s s' end end' is =
    hears_as 0 s s' (record s { kept = is.entry ∷ is.rest }) end end' is.client (next_kept s.kept shared s end end' is.entry is.rest refl is.next)

-- it was judged
abbrev pub taken_lost : Taken → ℕ
taken_lost takens.Lost = 1
taken_lost _ = 0

-- an entry that was kept waits no more, or still
judged_none : (s : ClientState) (end : EndState) (entry : Entry) (rest : List Entry) (after : ClientState) → s.kept ≡ entry ∷ rest → after.kept ≡ rest → after.held ≡ s.held → Hears 0 s after end end
judged_none s end entry rest after first kept held =
    let k : events_among s.kept ≡ one_event entry + events_among rest = ap events_among first in
    let l : events_among after.kept ≡ events_among rest = ap events_among kept in
    let h : event_if after.held ≡ event_if s.held = ap event_if held in
    let less : events_among after.kept + event_if after.held ≤ events_among s.kept + event_if s.held = omega (arith, k, l, h) in
    hears_none s after end end less refl

judged_hear : (shared : Bool) (s : ClientState) (old new : PortState) (end : EndState) (entry : Entry) (rest : List Entry) (taken : Taken) → s.kept ≡ entry ∷ rest
    → Judges shared s.outgoing entry old new taken → Hears (taken_lost taken) s (taken_by entry taken (record s { kept = rest })) end end
judged_hear shared s old new end entry rest (takens.Answer tag rsp) first judges = judged_none s end entry rest (taken_by entry (takens.Answer tag rsp) (record s { kept = rest })) first refl refl
judged_hear shared s old new end entry rest (takens.Stray tag) first judges = judged_none s end entry rest (record s { kept = rest }) first refl refl
judged_hear shared s old new end entry rest takens.Lost first judges =
    plain (events_among s.kept) (event_if s.held) (one_event entry) (events_among rest) (events_taken end.taken) (ap events_among first) (event_one entry judges.0)
  where
    plain : (k h one left e : ℕ) → k ≡ one + left → one ≡ 1 → 1 + (0 + e) ≤ (k + h) + e
    plain k h one left e kept is = omega (arith, kept, is)
judged_hear shared s old new end entry rest takens.Other first judges = judged_none s end entry rest (taken_by entry takens.Other (record s { kept = rest })) first refl refl
judged_hear shared s old new end entry rest (takens.Again page word) first judges =
    hears_same s (taken_by entry (takens.Again page word) (record s { kept = rest })) end end (sym first) refl refl
judged_hear shared s old new end entry rest (takens.Empty number) first judges = absurd judges

pub as_hears : (s s' : ClientState) (old new : Ports) (taken : Taken) → TakesAs s s' old new taken → Hears (taken_lost taken) s s' old.crq new.crq
as_hears s s' old new taken is =
    let k : ClientState = is.kept in
    let j = is.judged in
    let same : 0 + taken_lost taken ≡ taken_lost taken = omega arith in
    subst (λ (n : ℕ). Hears n s s' old.crq new.crq) same
    (hears_on 0 (taken_lost taken) s k s' old.crq new.crq new.crq (fetches_hear old.crq_shared s k old.crq new.crq is.fetched)
    (hears_as (taken_lost taken) k s' (taken_by j.entry taken (record k { kept = j.rest })) new.crq new.crq j.client
    (judged_hear old.own_shared k old.own new.own new.crq j.entry j.rest taken j.first j.judged)))

pub none_hears : (s s' : ClientState) (old new : Ports) (number : ℕ) → TakesNone s s' old new number → Hears 0 s s' old.crq new.crq
none_hears s s' old new number is =
    hears_as 0 s s' s old.crq new.crq is.fetched.client (hears_same s s old.crq new.crq refl refl (room_taken old.crq is.fetched.none.room new.crq is.fetched.none.ready (by is.fetched.none.none)))
  where
    by : FindsNone old.crq_shared is.fetched.none.room new.crq number ⊎ ((is.fetched.none.room.registered ≡ false) × (number ≡ 0) × OnlyReserves is.fetched.none.room new.crq)
        → new.crq.taken ≡ is.fetched.none.room.taken
    by (inl found) = found.taken
    by (inr left) = left.2.taken

pub takes_hear : (s s' : ClientState) (old new : Ports) (taken : Taken) → TakesEntry s s' old new taken → Hears (taken_lost taken) s s' old.crq new.crq
takes_hear s s' old new (takens.Answer tag rsp) is = as_hears s s' old new (takens.Answer tag rsp) is
takes_hear s s' old new (takens.Stray tag) is = as_hears s s' old new (takens.Stray tag) is
takes_hear s s' old new takens.Lost is = as_hears s s' old new takens.Lost is
takes_hear s s' old new takens.Other is = as_hears s s' old new takens.Other is
takes_hear s s' old new (takens.Again page word) is = as_hears s s' old new (takens.Again page word) is
takes_hear s s' old new (takens.Empty number) is = none_hears s s' old new number is

-- nothing that is lost is told
abbrev pub NoneLost : Result Step NoMemory → Type 0
NoneLost (Ok step) = lost_in step ≡ 0
NoneLost (Err memory) = ⊤

pub none_lost : (result : Result Step NoMemory) (s s' : ClientState) (end end' : EndState) → NoneLost result → OnOk result (Hears 0 s s' end end') → StepHears result s s' end end'
none_lost (Ok step) s s' end end' none is = subst (λ n. Hears n s s' end end') (sym none) is
none_lost (Err memory) s s' end end' none is = tt

-- a line that neither logs in nor takes answers tells of no loss
plain_lost : (outcome : Outcome) → is_plain outcome ≡ true → lost_of outcome ≡ 0
plain_lost (outcomes.Granted credits) is = refl
plain_lost (outcomes.Rejected reason) is = refl
plain_lost outcomes.Lost is = absurd (cc)
plain_lost outcomes.Unanswered is = refl
plain_lost (outcomes.Sent tag) is = refl
plain_lost outcomes.Range is = refl
plain_lost outcomes.NotLoggedIn is = refl
plain_lost (outcomes.NoCredit limit) is = refl
plain_lost (outcomes.Overlap tag) is = refl
plain_lost outcomes.Closed is = refl
plain_lost (outcomes.Dropped number held) is = refl
plain_lost (outcomes.Took count) is = refl
plain_lost (outcomes.TookThenLost count) is = absurd (cc)
plain_lost (outcomes.Data len sum) is = refl
plain_lost (outcomes.Stale page) is = refl
plain_lost outcomes.Unknown is = refl
plain_lost (outcomes.Code code) is = refl
plain_lost (outcomes.Value value) is = refl
plain_lost (outcomes.Posted buffers code) is = refl
plain_lost (outcomes.Frame code number) is = refl
plain_lost outcomes.Done is = refl
plain_lost (outcomes.Bytes shown) is = refl

pub plain_none : (result : Result Step NoMemory) → IsPlain result → NoneLost result
plain_none (Ok (steps.Ends outcome)) is = plain_lost outcome is
plain_none (Ok (steps.Waits did)) is = refl
plain_none (Err memory) is = tt

-- nor does one that sends a request
pub sent_none : (answer : Result ℕ Refused) (result : Result Step NoMemory) → SaysSent answer result → NoneLost result
sent_none (Ok tag) result says = subst NoneLost (sym says) refl
sent_none (Err why) result says = plain_none result says

-- a turn of a login
pub turned_hears : (line : ℕ) (a b : Site) (turn : LoginTurn) (step : Step) → Turned line a b (Ok turn) → SaysTurned turn step
    → Hears (lost_in step) a.client b.client a.at.crq b.at.crq
turned_hears line a b turn step turned says = subst (λ n. Hears n a.client b.client a.at.crq b.at.crq) (sym (lost turn step says)) (turn_hears line a b turn turned)
  where
    lost : (turn : LoginTurn) (step : Step) → SaysTurned turn step → lost_in step ≡ turn_lost turn
    lost (turns.Granted credits) step says = ap lost_in says
    lost (turns.Rejected reason) step says = ap lost_in says
    lost turns.Lost step says = ap lost_in says
    lost turns.Again (steps.Waits did) says = refl
    lost turns.Again (steps.Ends outcome) says = absurd says
    lost (turns.Busy number held) (steps.Waits did) says = refl
    lost (turns.Busy number held) (steps.Ends outcome) says = absurd says

-- the records tell one more
pub losses_more : (own : List Ended) (e : Ended) → losses_told (own ++ e ∷ []) ≡ losses_told own + lost_of e.outcome
losses_more [] e = omega arith
losses_more (first ∷ more) e = plain (lost_of first.outcome) (losses_told more) (losses_told (more ++ e ∷ [])) (lost_of e.outcome) (losses_more more e)
  where
    plain : (f a all one : ℕ) → all ≡ a + one → f + all ≡ (f + a) + one
    plain f a all one is = omega (arith, is)

-- what was so of the records is so behind a step that ends a line, and behind one that ends none
pub heard_ends : (own : List Ended) (e : Ended) (s s' : ClientState) (end end' : EndState) → Hears (lost_of e.outcome) s s' end end' → AreEventsHeard own s end.taken
    → AreEventsHeard (own ++ e ∷ []) s' end'.taken
heard_ends own e s s' end end' = plain (losses_told own) (lost_of e.outcome) (losses_told (own ++ e ∷ [])) (events_waiting s) (events_waiting s') (events_taken end.taken) (events_taken end'.taken) (losses_more own e)
  where
    plain : (l n all w w' t t' : ℕ) → all ≡ l + n → n + (w' + t) ≤ w + t' → l + w ≤ t → all + w' ≤ t'
    plain l n all w w' t t' more hears is = omega (arith, more, hears, is)

pub heard_on : (own : List Ended) (s s' : ClientState) (end end' : EndState) → Hears 0 s s' end end' → AreEventsHeard own s end.taken → AreEventsHeard own s' end'.taken
heard_on own s s' end end' = plain (losses_told own) (events_waiting s) (events_waiting s') (events_taken end.taken) (events_taken end'.taken)
  where
    plain : (l w w' t t' : ℕ) → 0 + (w' + t) ≤ w + t' → l + w ≤ t → l + w' ≤ t'
    plain l w w' t t' hears is = omega (arith, hears, is)

-- a record that tells of none
pub heard_quiet : (own : List Ended) (e : Ended) (s : ClientState) (taken : List PipeRow) → lost_of e.outcome ≡ 0 → AreEventsHeard own s taken → AreEventsHeard (own ++ e ∷ []) s taken
heard_quiet own e s taken = plain (losses_told own) (lost_of e.outcome) (losses_told (own ++ e ∷ [])) (events_waiting s) (events_taken taken) (losses_more own e)
  where
    plain : (l n all w t : ℕ) → all ≡ l + n → n ≡ 0 → l + w ≤ t → all + w ≤ t
    plain l n all w t more none is = omega (arith, more, none, is)

-- what is told at last
pub heard_last : (own : List Ended) (s : ClientState) (taken : List PipeRow) → AreEventsHeard own s taken → losses_told own ≤ events_taken taken
heard_last own s taken = plain (losses_told own) (events_waiting s) (events_taken taken)
  where
    plain : (l w t : ℕ) → l + w ≤ t → l ≤ t
    plain l w t is = omega (arith, is)
