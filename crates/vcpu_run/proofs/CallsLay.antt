-- Which strokes the calls of a client lay in its own window: they bear the line's number.
use Rattle.std.proofs.Common.{◌≡◌, ◌∙◌, inl, inr, ℕ, Bool, false, List, [], ◌∷◌, Option, Some, None, Result, Ok, Err, IfSome, IfOk, IfErr, refl, ap, subst}
use Rattle.vio_num.specs.declared.memory.NoMemory.{NoMemory}
use Rattle.vio_num.specs.declared.names.UnitId.{UnitId}
use Rattle.page_slots.specs.Stroke.{StrokeValue}
use Rattle.tce_window.specs.Port.{Grows}
use Rattle.tce_window.specs.PortState.{LaysNone, OnlyReads, PortPlace, PortState}
use Rattle.srp_iu.specs.declared.unit.Iu.{Iu}
use Rattle.unit_region.specs.Marks.{LaysNoStroke, LaysUnder}
use Rattle.unit_region.specs.RegionLines.{IsFrontOn}
use Rattle.unit_region.proofs.Laws.{none_under, on_then, write_under}
use Rattle.vscsi_client.specs.declared.answers.LoginTurn.{LoginTurn}
use Rattle.vscsi_client.specs.declared.answers.Refused.{Refused}
use Rattle.vscsi_client.specs.declared.answers.Refused.TheVariants as whys
use Rattle.vscsi_client.specs.declared.op.Op.{Op}
use Rattle.vscsi_client.specs.State.{ClientState}
use Rattle.vscsi_client.specs.Ports.{Ports, Write, Lays, LaysAll, WhyNotWritten, WhyNotPut}
use Rattle.vscsi_client.specs.Sending.{Submitted, WhyNotSubmitted, Tasked, LoggedOut, Put as PutAs, PutsUnit, PutsNoUnit, WhyNotSent, command_refusal, task_refusal, logout_refusal, task_unit, logout_unit}
use Rattle.vcpu_run.proofs.Calls.{all_ended, before_last, laid_unit, none_before, runs_hands, runs_place}
use Rattle.vscsi_client.specs.Turned.{Site, LoginStep, Registered, Took, TookNone, Looked, Began, Wrote, NotWritten, Put, RanOut, Steps, Runs, Turned, NoneEnds}

-- ---- what leaves a window with the strokes that it had, or with more of one mark

page_kept : (old new : Option (List StrokeValue)) → Grows false old new → new ≡ old
page_kept (Some old) (Some new) grown = ap Some grown
page_kept (Some old) None grown = absurd grown
page_kept None (Some new) grown = absurd grown
page_kept None None grown = refl

pub same_none_laid : (shared : Bool) (old new : PortState) → new ≡ old → LaysNoStroke shared old new
same_none_laid shared old new same e p = ap (λ (port : PortState). port.strokes p) same

grown_none_laid : (shared : Bool) (old new : PortState) → ((p : ℕ) → Grows shared (old.strokes p) (new.strokes p)) → LaysNoStroke shared old new
grown_none_laid shared old new grown e p = page_kept (old.strokes p) (new.strokes p) (subst (λ b. Grows b (old.strokes p) (new.strokes p)) e (grown p))

pub reads_none_laid : (shared : Bool) (old new : PortState) → OnlyReads shared old new → LaysNoStroke shared old new
reads_none_laid shared old new reads = grown_none_laid shared old new reads.strokes

pub left_none_laid : (shared : Bool) (old new : PortState) → LaysNone shared old new → LaysNoStroke shared old new
left_none_laid shared old new none = grown_none_laid shared old new none.strokes

pub none_laid_then : (shared : Bool) (old mid new : PortState) → LaysNoStroke shared old mid → LaysNoStroke shared mid new → LaysNoStroke shared old new
none_laid_then shared old mid new first next e p = next e p ∙ first e p

same_under : (shared : Bool) (mark : ℕ) (old new : PortState) → new ≡ old → LaysUnder shared mark old new
same_under shared mark old new same = none_under shared mark old new (same_none_laid shared old new same)

left_under : (shared : Bool) (mark : ℕ) (old new : PortState) → LaysNone shared old new → LaysUnder shared mark old new
left_under shared mark old new none = none_under shared mark old new (left_none_laid shared old new none)

pub under_then : (shared shared' : Bool) (mark : ℕ) (old mid new : PortState) → shared' ≡ shared → mid.place.unit ≡ old.place.unit → LaysUnder shared mark old mid
    → LaysUnder shared' mark mid new → LaysUnder shared mark old new
under_then shared shared' mark old mid new hands unit first next e p =
    on_then old.place.unit (λ m. m ≡ mark) (old.strokes p) (mid.strokes p) (new.strokes p) (first e p)
    (subst (λ (id : UnitId). IsFrontOn id (λ m. m ≡ mark) (mid.strokes p) (new.strokes p)) unit (next (hands ∙ e) p))

-- ---- writes of bytes

write_lays : (shared : Bool) (mark : ℕ) (write : Write) (old new : PortState) → Lays shared mark write old new → LaysUnder shared mark old new
write_lays shared mark write old new h = write_under shared old new write.at write.bytes mark (Ok tt) h.0 tt

writes_lay : (shared : Bool) (mark : ℕ) (writes : List Write) (old new : PortState) → LaysAll shared mark writes old new → LaysUnder shared mark old new
writes_lay shared mark [] old new h = same_under shared mark old new h
writes_lay shared mark (write ∷ writes) old new h =
    under_then shared shared mark old h.0 new refl (ap (λ (place : PortPlace). place.unit) h.1.1.place) (write_lays shared mark write old h.0 h.1) (writes_lay shared mark writes h.0 new h.2)

no_write_lays : (shared : Bool) (mark : ℕ) (writes : List Write) (old new : PortState) (why : Refused) → WhyNotWritten shared writes old new why
    → LaysUnder shared mark old new
no_write_lays shared mark [] old new (whys.InUse page word) h = absurd h
no_write_lays shared mark (write ∷ []) old new (whys.InUse page word) h = left_under shared mark old new h.none
no_write_lays shared mark (write ∷ more ∷ writes) old new (whys.InUse page word) h = absurd h
no_write_lays shared mark writes old new whys.NoMemory h = left_under shared mark old new h
no_write_lays shared mark writes old new whys.Range h = absurd h
no_write_lays shared mark writes old new whys.NotLoggedIn h = absurd h
no_write_lays shared mark writes old new (whys.NoCredit limit) h = absurd h
no_write_lays shared mark writes old new (whys.Overlap tag) h = absurd h
no_write_lays shared mark writes old new (whys.Closed control) h = absurd h
no_write_lays shared mark writes old new (whys.Dropped number held) h = absurd h

-- ---- a unit that was put, or was not

unit_lays : (line : ℕ) (s : ClientState) (iu : Iu) (old new : Ports) (slot : ℕ) → PutsUnit line s iu old new slot → LaysUnder old.own_shared line old.own new.own
unit_lays line s iu old new slot h = write_lays old.own_shared line _ old.own new.own h.2.laid

why_lays : (line slot : ℕ) (unit : List ℕ) (old new : Ports) (why : Refused) → WhyNotPut line slot unit old new why → LaysUnder old.own_shared line old.own new.own
why_lays line slot unit old new (whys.InUse page word) h = left_under old.own_shared line old.own new.own h.1.none
why_lays line slot unit old new (whys.Closed control) h = write_lays old.own_shared line _ old.own new.own h.0
why_lays line slot unit old new (whys.Dropped number held) h = write_lays old.own_shared line _ old.own new.own h.0
why_lays line slot unit old new whys.NoMemory h = left_under old.own_shared line old.own new.own h.1
why_lays line slot unit old new whys.Range h = absurd h
why_lays line slot unit old new whys.NotLoggedIn h = absurd h
why_lays line slot unit old new (whys.NoCredit limit) h = absurd h
why_lays line slot unit old new (whys.Overlap tag) h = absurd h

no_unit_lays : (line : ℕ) (s : ClientState) (iu : Iu) (old new : Ports) (why : Refused) → PutsNoUnit line s iu old new why
    → LaysUnder old.own_shared line old.own new.own
no_unit_lays line s iu old new why h = why_lays line h.0 h.1 old new why h.3

-- ---- a command

not_submitted_lays : (line : ℕ) (op : Op) (s s' : ClientState) (old new : Ports) (why : Refused) → WhyNotSubmitted line op s s' old new why
    → LaysUnder old.own_shared line old.own new.own
not_submitted_lays line op s s' old new why (inl h) = no_write_lays old.own_shared line _ old.own new.own why h.why_not
not_submitted_lays line op s s' old new why (inr h) =
    under_then old.own_shared h.before.own_shared line old.own h.before.own new.own h.ready.own_shared (laid_unit old.own_shared line _ old.own h.before.own h.ready.own)
    (writes_lay old.own_shared line _ old.own h.before.own h.ready.own) (no_unit_lays line s _ h.before new why h.why_not)

pub submit_lays : (line : ℕ) (op : Op) (s s' : ClientState) (old new : Ports) (result : Result ℕ Refused)
    → IfSome (command_refusal old.own.place.size s op) (λ why. (result ≡ Err why) × (s' ≡ s) × (new.crq ≡ old.crq) × (new.own ≡ old.own))
    → IfOk result (Submitted line op s s' old new)
    → (command_refusal old.own.place.size s op ≡ None → IfErr result (WhyNotSubmitted line op s s' old new))
    → LaysUnder old.own_shared line old.own new.own
submit_lays line op s s' old new (Ok tag) refused sent not_sent =
    under_then old.own_shared sent.before.own_shared line old.own sent.before.own new.own sent.ready.own_shared (laid_unit old.own_shared line _ old.own sent.before.own sent.ready.own)
    (writes_lay old.own_shared line _ old.own sent.before.own sent.ready.own) (unit_lays line s _ sent.before new sent.slot sent.put)
submit_lays line op s s' old new (Err why) refused sent not_sent = at (Err why) (command_refusal old.own.place.size s op) refl refused
  where
    at : (res : Result ℕ Refused) (r : Option Refused) → command_refusal old.own.place.size s op ≡ r
        → IfSome r (λ w. (res ≡ Err w) × (s' ≡ s) × (new.crq ≡ old.crq) × (new.own ≡ old.own)) → LaysUnder old.own_shared line old.own new.own
    at res None is h = not_submitted_lays line op s s' old new why (not_sent is)
    at res (Some w) is h = same_under old.own_shared line old.own new.own h.3

-- ---- a request without data

put_lays : (line : ℕ) (s : ClientState) (iu : Iu) (slot : ℕ) (old new : Ports) → PutAs line s iu slot old new → LaysUnder old.own_shared line old.own new.own
put_lays line s iu slot old new h =
    under_then old.own_shared h.before.own_shared line old.own h.before.own new.own h.ready.own_shared (ap (λ (port : PortState). port.place.unit) h.ready.own)
    (same_under old.own_shared line old.own h.before.own h.ready.own) (unit_lays line s iu h.before new slot h.put)

not_sent_lays : (line : ℕ) (s : ClientState) (iu : Iu) (old new : Ports) (why : Refused) → WhyNotSent line s iu old new why
    → LaysUnder old.own_shared line old.own new.own
not_sent_lays line s iu old new why (inl h) = left_under old.own_shared line old.own new.own h.1.1
not_sent_lays line s iu old new why (inr h) =
    under_then old.own_shared h.before.own_shared line old.own h.before.own new.own h.ready.own_shared (ap (λ (port : PortState). port.place.unit) h.ready.own)
    (same_under old.own_shared line old.own h.before.own h.ready.own) (no_unit_lays line s iu h.before new why h.why_not)

refused_lays : (line : ℕ) (s : ClientState) (iu : Iu) (old new : Ports) (res : Result ℕ Refused) (r : Option Refused) (why : Refused)
    → IfSome r (λ w. (res ≡ Err w) × (new.crq ≡ old.crq) × (new.own ≡ old.own))
    → (r ≡ None → WhyNotSent line s iu old new why) → LaysUnder old.own_shared line old.own new.own
refused_lays line s iu old new res None why h not_sent = not_sent_lays line s iu old new why (not_sent refl)
refused_lays line s iu old new res (Some w) why h not_sent = same_under old.own_shared line old.own new.own h.2

pub task_lays : (line function task : ℕ) (s s' : ClientState) (old new : Ports) (result : Result ℕ Refused)
    → IfSome (task_refusal s) (λ why. (result ≡ Err why) × (new.crq ≡ old.crq) × (new.own ≡ old.own))
    → IfOk result (Tasked line function task s s' old new)
    → (task_refusal s ≡ None → IfErr result (WhyNotSent line s (task_unit function task s) old new))
    → LaysUnder old.own_shared line old.own new.own
task_lays line function task s s' old new (Ok tag) refused sent not_sent = put_lays line s _ sent.slot old new sent.put
task_lays line function task s s' old new (Err why) refused sent not_sent = refused_lays line s _ old new (Err why) (task_refusal s) why refused not_sent

pub logout_lays : (line : ℕ) (s s' : ClientState) (old new : Ports) (result : Result ℕ Refused)
    → IfSome (logout_refusal s) (λ why. (result ≡ Err why) × (new.crq ≡ old.crq) × (new.own ≡ old.own))
    → IfOk result (LoggedOut line s s' old new)
    → (logout_refusal s ≡ None → IfErr result (WhyNotSent line s (logout_unit s) old new))
    → LaysUnder old.own_shared line old.own new.own
logout_lays line s s' old new (Ok tag) refused sent not_sent = put_lays line s _ sent.slot old new sent.put
logout_lays line s s' old new (Err why) refused sent not_sent = refused_lays line s _ old new (Err why) (logout_refusal s) why refused not_sent

-- ---- a turn of a login

step_lays : (line : ℕ) (step : LoginStep) (a b : Site) → Steps line step a b → LaysUnder a.at.own_shared line a.at.own b.at.own
step_lays line (Registered answer) a b h = same_under a.at.own_shared line a.at.own b.at.own h.1
step_lays line Took a b h = same_under a.at.own_shared line a.at.own b.at.own h.1
step_lays line TookNone a b h = same_under a.at.own_shared line a.at.own b.at.own h.1
step_lays line (Looked found) a b h = none_under a.at.own_shared line a.at.own b.at.own (reads_none_laid a.at.own_shared a.at.own b.at.own h.0.reads)
step_lays line Began a b h = same_under a.at.own_shared line a.at.own b.at.own h.2
step_lays line Wrote a b h = write_lays a.at.own_shared line _ a.at.own b.at.own h.1.laid
step_lays line (NotWritten page word) a b h = left_under a.at.own_shared line a.at.own b.at.own h.1.meets.none
step_lays line (Put due answer) a b h = same_under a.at.own_shared line a.at.own b.at.own h.1
step_lays line RanOut a b h = left_under a.at.own_shared line a.at.own b.at.own h.own

runs_lay : (line : ℕ) (steps : List LoginStep) (a b : Site) → NoneEnds (before_last steps) → Runs line steps a b → LaysUnder a.at.own_shared line a.at.own b.at.own
runs_lay line [] a b none runs = same_under a.at.own_shared line a.at.own b.at.own (ap (λ (t : Site). t.at.own) runs)
runs_lay line (step ∷ steps) a b none runs =
    under_then a.at.own_shared runs.0.at.own_shared line a.at.own runs.0.at.own b.at.own (runs_hands line steps a runs.0 runs.1)
    (ap (λ (place : PortPlace). place.unit) (runs_place line steps a runs.0 none runs.1))
    (runs_lay line steps a runs.0 (none_before steps none) runs.1) (step_lays line step runs.0 b runs.2)

pub turn_lays : (line : ℕ) (a b : Site) (result : Result LoginTurn NoMemory) → Turned line a b result → LaysUnder a.at.own_shared line a.at.own b.at.own
turn_lays line a b result turned = runs_lay line turned.steps a b (all_ended line a b result turned) turned.runs
