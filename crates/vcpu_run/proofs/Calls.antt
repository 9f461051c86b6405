-- What the calls of a client leave of its window, and of where its data lie.
use Rattle.std.specs.List.{list_any}
use Rattle.std.proofs.Common.{◌≡◌, ◌∙◌, ◌||◌, inl, inr, ℕ, Bool, true, false, List, [], ◌∷◌, Option, Some, None, Result, Ok, Err, IfSome, IfOk, IfErr, OnErr, refl, sym, ap, subst}
use Rattle.vio_num.specs.declared.memory.NoMemory.{NoMemory}
use Rattle.tce_window.specs.PortState.{PortPlace, PortState}
use Rattle.srp_iu.specs.declared.unit.Iu.{Iu}
use Rattle.vscsi_client.specs.declared.answers.LoginTurn.{LoginTurn}
use Rattle.vscsi_client.specs.declared.answers.Refused.{Refused}
use Rattle.vscsi_client.specs.declared.answers.Refused.TheVariants as whys
use Rattle.vscsi_client.specs.declared.answers.Taken.{Taken}
use Rattle.vscsi_client.specs.declared.answers.Taken.TheVariants as takens
use Rattle.vscsi_client.specs.declared.op.Op.{Op}
use Rattle.vscsi_client.specs.State.{ClientState}
use Rattle.vscsi_client.specs.Ports.{Ports, Write, Lays, LaysAll, WhyNotWritten, WhyNotPut}
use Rattle.vscsi_client.specs.Sending.{Submitted, WhyNotSubmitted, Tasked, LoggedOut, Put as PutAs, PutsUnit, PutsNoUnit, WhyNotSent, command_refusal, task_refusal, logout_refusal, task_unit, logout_unit}
use Rattle.vscsi_client.specs.Taking.{TakesEntry, TakesLater}
use Rattle.vscsi_client.specs.Transferred.{FitRows}
use Rattle.vscsi_client.specs.declared.answers.LoginTurn.TheVariants as turns
use Rattle.vscsi_client.specs.declared.found.Found.TheVariants.{Granted, Rejected, Lost}
use Rattle.crq_session.specs.declared.answers.RegAnswer.TheVariants as reg
use Rattle.vscsi_client.specs.Turned.{Site, LoginStep, Registered, Took, TookNone, Looked, Began, Wrote, NotWritten, Put, RanOut, Steps, Runs, Turned, Ends, EndsWith, NoneEnds, ends_turn}
use Rattle.vscsi_client.specs.Units.{FitsOp}
use Rattle.vscsi_client.proofs.Laws.{submitted_fits, tasked_fits, logged_out_fits, taken_fits, turned_fits}
use Rattle.unit_region.proofs.Laws.{StrokesGrow, strokes_same, strokes_on, strokes_none, strokes_read, strokes_written}

-- writes of bytes
laid : (shared : Bool) (mark : ℕ) (write : Write) (old new : PortState) → Lays shared mark write old new → StrokesGrow shared old new
laid shared mark write old new h = strokes_written shared old new write.at write.bytes mark h.0

laid_all : (shared : Bool) (mark : ℕ) (writes : List Write) (old new : PortState) → LaysAll shared mark writes old new → StrokesGrow shared old new
laid_all shared mark [] old new h = strokes_same shared old new h
laid_all shared mark (write ∷ writes) old new h =
    strokes_on shared old h.0 new (ap (λ (place : PortPlace). place.unit) h.1.1.place) (laid shared mark write old h.0 h.1) (laid_all shared mark writes h.0 new h.2)

pub laid_unit : (shared : Bool) (mark : ℕ) (writes : List Write) (old new : PortState) → LaysAll shared mark writes old new → new.place.unit ≡ old.place.unit
laid_unit shared mark [] old new h = ap (λ (port : PortState). port.place.unit) h
laid_unit shared mark (write ∷ writes) old new h = laid_unit shared mark writes h.0 new h.2 ∙ ap (λ (place : PortPlace). place.unit) h.1.1.place

-- what came behind writes, at the same hands
grows_behind : (shared shared' : Bool) (old mid new : PortState) → shared' ≡ shared → mid.place.unit ≡ old.place.unit
    → StrokesGrow shared old mid → StrokesGrow shared' mid new → StrokesGrow shared old new
grows_behind shared shared' old mid new hands unit first next =
    strokes_on shared old mid new unit first (subst (λ b. StrokesGrow b mid new) hands next)

not_laid : (shared : Bool) (writes : List Write) (old new : PortState) (why : Refused) → WhyNotWritten shared writes old new why → StrokesGrow shared old new
not_laid shared [] old new (whys.InUse page word) h = absurd h
not_laid shared (write ∷ []) old new (whys.InUse page word) h = strokes_none shared old new h.none
not_laid shared (write ∷ more ∷ writes) old new (whys.InUse page word) h = absurd h
not_laid shared writes old new whys.NoMemory h = strokes_none shared old new h
not_laid shared writes old new whys.Range h = absurd h
not_laid shared writes old new whys.NotLoggedIn h = absurd h
not_laid shared writes old new (whys.NoCredit limit) h = absurd h
not_laid shared writes old new (whys.Overlap tag) h = absurd h
not_laid shared writes old new (whys.Closed control) h = absurd h
not_laid shared writes old new (whys.Dropped number held) h = absurd h

-- a unit that was put, or was not
unit_put : (line : ℕ) (s : ClientState) (iu : Iu) (old new : Ports) (slot : ℕ) → PutsUnit line s iu old new slot → StrokesGrow old.own_shared old.own new.own
unit_put line s iu old new slot h = laid old.own_shared line _ old.own new.own h.2.laid

why_not : (line slot : ℕ) (unit : List ℕ) (old new : Ports) (why : Refused) → WhyNotPut line slot unit old new why → StrokesGrow old.own_shared old.own new.own
why_not line slot unit old new (whys.InUse page word) h = strokes_none old.own_shared old.own new.own h.1.none
why_not line slot unit old new (whys.Closed control) h = laid old.own_shared line _ old.own new.own h.0
why_not line slot unit old new (whys.Dropped number held) h = laid old.own_shared line _ old.own new.own h.0
why_not line slot unit old new whys.NoMemory h = strokes_none old.own_shared old.own new.own h.1
why_not line slot unit old new whys.Range h = absurd h
why_not line slot unit old new whys.NotLoggedIn h = absurd h
why_not line slot unit old new (whys.NoCredit limit) h = absurd h
why_not line slot unit old new (whys.Overlap tag) h = absurd h

unit_not_put : (line : ℕ) (s : ClientState) (iu : Iu) (old new : Ports) (why : Refused) → PutsNoUnit line s iu old new why → StrokesGrow old.own_shared old.own new.own
unit_not_put line s iu old new why h = why_not line h.0 h.1 old new why h.3

-- a command
not_submitted : (line : ℕ) (op : Op) (s s' : ClientState) (old new : Ports) (why : Refused) → WhyNotSubmitted line op s s' old new why → StrokesGrow old.own_shared old.own new.own
not_submitted line op s s' old new why (inl h) = not_laid old.own_shared _ old.own new.own why h.why_not
not_submitted line op s s' old new why (inr h) =
    grows_behind old.own_shared h.before.own_shared old.own h.before.own new.own h.ready.own_shared (laid_unit old.own_shared line _ old.own h.before.own h.ready.own)
    (laid_all old.own_shared line _ old.own h.before.own h.ready.own) (unit_not_put line s _ h.before new why h.why_not)

pub submit_grows : (line : ℕ) (op : Op) (s s' : ClientState) (old new : Ports) (result : Result ℕ Refused)
    → IfSome (command_refusal old.own.place.size s op) (λ why. (result ≡ Err why) × (s' ≡ s) × (new.crq ≡ old.crq) × (new.own ≡ old.own))
    → IfOk result (Submitted line op s s' old new)
    → (command_refusal old.own.place.size s op ≡ None → IfErr result (WhyNotSubmitted line op s s' old new))
    → StrokesGrow old.own_shared old.own new.own
submit_grows line op s s' old new (Ok tag) refused sent not_sent =
    grows_behind old.own_shared sent.before.own_shared old.own sent.before.own new.own sent.ready.own_shared (laid_unit old.own_shared line _ old.own sent.before.own sent.ready.own)
    (laid_all old.own_shared line _ old.own sent.before.own sent.ready.own) (unit_put line s _ sent.before new sent.slot sent.put)
submit_grows line op s s' old new (Err why) refused sent not_sent = at (Err why) (command_refusal old.own.place.size s op) refl refused
  where
    at : (res : Result ℕ Refused) (r : Option Refused) → command_refusal old.own.place.size s op ≡ r
        → IfSome r (λ w. (res ≡ Err w) × (s' ≡ s) × (new.crq ≡ old.crq) × (new.own ≡ old.own)) → StrokesGrow old.own_shared old.own new.own
    at res None is h = not_submitted line op s s' old new why (not_sent is)
    at res (Some w) is h = strokes_same old.own_shared old.own new.own h.3

not_submitted_fits : (pages line : ℕ) (op : Op) (s s' : ClientState) (old new : Ports) (why : Refused) → WhyNotSubmitted line op s s' old new why → FitRows pages s → FitRows pages s'
not_submitted_fits pages line op s s' old new why (inl h) all = subst (FitRows pages) (sym h.client) all
not_submitted_fits pages line op s s' old new why (inr h) all = subst (FitRows pages) (sym h.client) all

pub submit_fits : (line : ℕ) (op : Op) (s s' : ClientState) (old new : Ports) (result : Result ℕ Refused) → FitsOp op
    → IfSome (command_refusal old.own.place.size s op) (λ why. (result ≡ Err why) × (s' ≡ s) × (new.crq ≡ old.crq) × (new.own ≡ old.own))
    → IfOk result (Submitted line op s s' old new)
    → (command_refusal old.own.place.size s op ≡ None → IfErr result (WhyNotSubmitted line op s s' old new))
    → FitRows old.own.place.size s → FitRows old.own.place.size s'
submit_fits line op s s' old new (Ok tag) fits refused sent not_sent all = submitted_fits line op s s' old new tag fits sent all
submit_fits line op s s' old new (Err why) fits refused sent not_sent all = at (Err why) (command_refusal old.own.place.size s op) refl refused
  where
    at : (res : Result ℕ Refused) (r : Option Refused) → command_refusal old.own.place.size s op ≡ r
        → IfSome r (λ w. (res ≡ Err w) × (s' ≡ s) × (new.crq ≡ old.crq) × (new.own ≡ old.own)) → FitRows old.own.place.size s'
    at res None is h = not_submitted_fits old.own.place.size line op s s' old new why (not_sent is) all
    at res (Some w) is h = subst (FitRows old.own.place.size) (sym h.1) all

-- a request without data
put_grows : (line : ℕ) (s : ClientState) (iu : Iu) (slot : ℕ) (old new : Ports) → PutAs line s iu slot old new → StrokesGrow old.own_shared old.own new.own
put_grows line s iu slot old new h =
    grows_behind old.own_shared h.before.own_shared old.own h.before.own new.own h.ready.own_shared (ap (λ (port : PortState). port.place.unit) h.ready.own)
    (strokes_same old.own_shared old.own h.before.own h.ready.own) (unit_put line s iu h.before new slot h.put)

not_sent_grows : (line : ℕ) (s : ClientState) (iu : Iu) (old new : Ports) (why : Refused) → WhyNotSent line s iu old new why → StrokesGrow old.own_shared old.own new.own
not_sent_grows line s iu old new why (inl h) = strokes_none old.own_shared old.own new.own h.1.1
not_sent_grows line s iu old new why (inr h) =
    grows_behind old.own_shared h.before.own_shared old.own h.before.own new.own h.ready.own_shared (ap (λ (port : PortState). port.place.unit) h.ready.own)
    (strokes_same old.own_shared old.own h.before.own h.ready.own) (unit_not_put line s iu h.before new why h.why_not)

-- why a request is refused, or not sent, in either case the window is as it was or has more
refused_grows : (line : ℕ) (s : ClientState) (iu : Iu) (old new : Ports) (res : Result ℕ Refused) (r : Option Refused) (why : Refused)
    → IfSome r (λ w. (res ≡ Err w) × (new.crq ≡ old.crq) × (new.own ≡ old.own))
    → (r ≡ None → WhyNotSent line s iu old new why) → StrokesGrow old.own_shared old.own new.own
refused_grows line s iu old new res None why h not_sent = not_sent_grows line s iu old new why (not_sent refl)
refused_grows line s iu old new res (Some w) why h not_sent = strokes_same old.own_shared old.own new.own h.2

pub task_grows : (line function task : ℕ) (s s' : ClientState) (old new : Ports) (result : Result ℕ Refused)
    → IfSome (task_refusal s) (λ why. (result ≡ Err why) × (new.crq ≡ old.crq) × (new.own ≡ old.own))
    → IfOk result (Tasked line function task s s' old new)
    → (task_refusal s ≡ None → IfErr result (WhyNotSent line s (task_unit function task s) old new))
    → StrokesGrow old.own_shared old.own new.own
task_grows line function task s s' old new (Ok tag) refused sent not_sent = put_grows line s _ sent.slot old new sent.put
task_grows line function task s s' old new (Err why) refused sent not_sent = refused_grows line s _ old new (Err why) (task_refusal s) why refused not_sent

pub task_fits : (pages line function task : ℕ) (s s' : ClientState) (old new : Ports) (result : Result ℕ Refused)
    → IfOk result (Tasked line function task s s' old new) → OnErr result (s' ≡ s) → FitRows pages s → FitRows pages s'
task_fits pages line function task s s' old new (Ok tag) sent same all = tasked_fits pages line function task s s' old new tag sent all
task_fits pages line function task s s' old new (Err why) sent same all = subst (FitRows pages) (sym same) all

pub logout_grows : (line : ℕ) (s s' : ClientState) (old new : Ports) (result : Result ℕ Refused)
    → IfSome (logout_refusal s) (λ why. (result ≡ Err why) × (new.crq ≡ old.crq) × (new.own ≡ old.own))
    → IfOk result (LoggedOut line s s' old new)
    → (logout_refusal s ≡ None → IfErr result (WhyNotSent line s (logout_unit s) old new))
    → StrokesGrow old.own_shared old.own new.own
logout_grows line s s' old new (Ok tag) refused sent not_sent = put_grows line s _ sent.slot old new sent.put
logout_grows line s s' old new (Err why) refused sent not_sent = refused_grows line s _ old new (Err why) (logout_refusal s) why refused not_sent

pub logout_fits : (pages line : ℕ) (s s' : ClientState) (old new : Ports) (result : Result ℕ Refused)
    → IfOk result (LoggedOut line s s' old new) → OnErr result (s' ≡ s) → FitRows pages s → FitRows pages s'
logout_fits pages line s s' old new (Ok tag) sent same all = logged_out_fits pages line s s' old new tag sent all
logout_fits pages line s s' old new (Err why) sent same all = subst (FitRows pages) (sym same) all

-- a turn of a login
step_grows : (line : ℕ) (step : LoginStep) (a b : Site) → Steps line step a b → StrokesGrow a.at.own_shared a.at.own b.at.own
step_grows line (Registered answer) a b h = strokes_same a.at.own_shared a.at.own b.at.own h.1
step_grows line Took a b h = strokes_same a.at.own_shared a.at.own b.at.own h.1
step_grows line TookNone a b h = strokes_same a.at.own_shared a.at.own b.at.own h.1
step_grows line (Looked found) a b h = strokes_read a.at.own_shared a.at.own b.at.own h.0.reads
step_grows line Began a b h = strokes_same a.at.own_shared a.at.own b.at.own h.2
step_grows line Wrote a b h = laid a.at.own_shared line _ a.at.own b.at.own h.1.laid
step_grows line (NotWritten page word) a b h = strokes_none a.at.own_shared a.at.own b.at.own h.1.meets.none
step_grows line (Put due answer) a b h = strokes_same a.at.own_shared a.at.own b.at.own h.1
step_grows line RanOut a b h = strokes_none a.at.own_shared a.at.own b.at.own h.own

-- steps that do not end the turn leave the window where it is
or_right : (a b : Bool) → (a || b) ≡ false → b ≡ false
or_right true b e = cc
or_right false b e = e

step_place : (line : ℕ) (step : LoginStep) (a b : Site) → ends_turn step ≡ false → Steps line step a b → b.at.own.place ≡ a.at.own.place
step_place line (Registered answer) a b none h = ap (λ (port : PortState). port.place) h.1
step_place line Took a b none h = ap (λ (port : PortState). port.place) h.1
step_place line TookNone a b none h = ap (λ (port : PortState). port.place) h.1
step_place line (Looked found) a b none h = h.0.reads.place
step_place line Began a b none h = ap (λ (port : PortState). port.place) h.2
step_place line Wrote a b none h = h.1.laid.1.place
step_place line (NotWritten page word) a b none h = h.1.place
step_place line (Put due answer) a b none h = ap (λ (port : PortState). port.place) h.1
step_place line RanOut a b none h = absurd (cc)

or_left : (a b : Bool) → (a || b) ≡ false → a ≡ false
or_left true b e = cc
or_left false b e = refl

pub runs_place : (line : ℕ) (steps : List LoginStep) (a b : Site) → NoneEnds steps → Runs line steps a b → b.at.own.place ≡ a.at.own.place
runs_place line [] a b none runs = ap (λ (t : Site). t.at.own.place) runs
runs_place line (step ∷ steps) a b none runs =
    step_place line step runs.0 b (or_left (ends_turn step) (list_any ends_turn steps) none) runs.2
    ∙ runs_place line steps a runs.0 (or_right (ends_turn step) (list_any ends_turn steps) none) runs.1

pub runs_hands : (line : ℕ) (steps : List LoginStep) (a b : Site) → Runs line steps a b → b.at.own_shared ≡ a.at.own_shared
runs_hands line [] a b runs = ap (λ (t : Site). t.at.own_shared) runs
runs_hands line (step ∷ steps) a b runs = runs.3.own ∙ runs_hands line steps a runs.0 runs.1

-- the steps before the last one
abbrev pub before_last : List LoginStep → List LoginStep
before_last [] = []
before_last (step ∷ steps) = steps

pub none_before : (steps : List LoginStep) → NoneEnds steps → NoneEnds (before_last steps)
none_before [] none = none
none_before (step ∷ steps) none = or_right (ends_turn step) (list_any ends_turn steps) none

ended : (step : LoginStep) (steps : List LoginStep) → EndsWith step steps → NoneEnds (before_last steps)
ended step steps ends = subst (λ steps. NoneEnds (before_last steps)) (sym ends.is) ends.going

turn_ended : (slots : ℕ) (b : Site) (turn : LoginTurn) (steps : List LoginStep) → Ends slots b turn steps → NoneEnds (before_last steps)
turn_ended slots b turns.Again steps ends = none_before steps ends.going
turn_ended slots b (turns.Granted credits) steps ends = ended (Looked (Granted credits)) steps ends
turn_ended slots b (turns.Rejected reason) steps ends = ended (Looked (Rejected reason)) steps ends
turn_ended slots b turns.Lost steps ends = ended (Looked Lost) steps ends
turn_ended slots b (turns.Busy number held) steps ends = ended (Registered (reg.Busy number held)) steps ends

pub all_ended : (line : ℕ) (a b : Site) (result : Result LoginTurn NoMemory) (turned : Turned line a b result) → NoneEnds (before_last turned.steps)
all_ended line a b (Ok turn) turned = turn_ended a.at.crq.place.own_slots b turn turned.steps turned.ends.1
all_ended line a b (Err memory) turned = ended RanOut turned.steps turned.ends

runs_grow : (line : ℕ) (steps : List LoginStep) (a b : Site) → NoneEnds (before_last steps) → Runs line steps a b → StrokesGrow a.at.own_shared a.at.own b.at.own
runs_grow line [] a b none runs = strokes_same a.at.own_shared a.at.own b.at.own (ap (λ (t : Site). t.at.own) runs)
runs_grow line (step ∷ steps) a b none runs =
    grows_behind a.at.own_shared runs.0.at.own_shared a.at.own runs.0.at.own b.at.own (runs_hands line steps a runs.0 runs.1)
    (ap (λ (place : PortPlace). place.unit) (runs_place line steps a runs.0 none runs.1))
    (runs_grow line steps a runs.0 (none_before steps none) runs.1) (step_grows line step runs.0 b runs.2)

pub turn_grows : (line : ℕ) (a b : Site) (result : Result LoginTurn NoMemory) → Turned line a b result → StrokesGrow a.at.own_shared a.at.own b.at.own
turn_grows line a b result turned = runs_grow line turned.steps a b (all_ended line a b result turned) turned.runs

pub turn_fits : (pages line : ℕ) (a b : Site) (result : Result LoginTurn NoMemory) → Turned line a b result → FitRows pages a.client → FitRows pages b.client
turn_fits pages line a b result turned = turned_fits pages line turned.steps a b turned.runs

-- taking an entry
pub take_fits : (pages : ℕ) (s s' : ClientState) (old new : Ports) (result : Result Taken NoMemory)
    → IfOk result (TakesEntry s s' old new) → OnErr result (TakesLater old.crq_shared s s' old.crq new.crq) → FitRows pages s → FitRows pages s'
take_fits pages s s' old new (Ok (takens.Answer tag response)) taken later all = taken_fits pages s s' old new (takens.Answer tag response) taken all
take_fits pages s s' old new (Ok (takens.Stray tag)) taken later all = taken_fits pages s s' old new (takens.Stray tag) taken all
take_fits pages s s' old new (Ok takens.Lost) taken later all = taken_fits pages s s' old new takens.Lost taken all
take_fits pages s s' old new (Ok takens.Other) taken later all = taken_fits pages s s' old new takens.Other taken all
take_fits pages s s' old new (Ok (takens.Again page word)) taken later all = taken_fits pages s s' old new (takens.Again page word) taken all
take_fits pages s s' old new (Ok (takens.Empty number)) taken later all = subst (FitRows pages) (sym taken.fetched.client) all
take_fits pages s s' old new (Err memory) taken later all = kept later
  where
    kept : TakesLater old.crq_shared s s' old.crq new.crq → FitRows pages s'
    kept (inl h) = subst (FitRows pages) (sym h.0) all
    kept (inr h) = subst (FitRows pages) (sym h.client) all
