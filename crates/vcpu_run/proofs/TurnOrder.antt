-- A turn of a login leaves the entries that a client keeps in the order in which they were taken.
use Rattle.std.proofs.Common.{◌≡◌, ◌∙◌, ◌⊎◌, inl, inr, ℕ, ◌≤◌, Bool, true, false, cond, List, [], ◌∷◌, ◌++◌, Option, Some, None, MatchOption, refl, sym, ap, subst, append-nil, arith}
use Rattle.std.proofs.lemmas.List.Elements.{All-append, All-cons, All-nil}
use Rattle.vio_num.specs.declared.entry.Entry.{Entry}
use Rattle.crq_ring.specs.declared.rows.PipeRow.{PipeRow}
use Rattle.crq_session.specs.declared.answers.RegAnswer.TheVariants as reg
use Rattle.crq_session.specs.declared.answers.SendAnswer.{SendAnswer}
use Rattle.crq_session.specs.Answered.{FindsNone}
use Rattle.crq_session.specs.EndState.{EndState, OnlyReserves, OnlySends}
use Rattle.tce_window.specs.PortState.{PortState}
use Rattle.srp_iu.specs.declared.unit.Iu.{Iu}
use Rattle.srp_iu.specs.declared.unit.Iu.TheVariants as units
use Rattle.vscsi_client.specs.Login.{Finds, IsToOthers, SaysIn, SaysOf, found_by, login_slot}
use Rattle.vscsi_client.specs.State.{ClientState}
use Rattle.vscsi_client.specs.Turned.{Site, LoginStep, Registered, Took, TookNone, Looked, Began, Wrote, NotWritten, Put, RanOut, PollsNone, Steps, Runs, TakesNext, freed_by, is_dropped, is_idle, login_due, registered_by, sent_by, sent_stage, written_at}
use Rattle.vscsi_client.specs.declared.found.Found.{Found}
use Rattle.vscsi_client.specs.declared.found.Found.TheVariants as found
use Rattle.vscsi_client.specs.declared.stage.Due.{Due}
use Rattle.vscsi_client.specs.declared.stage.Due.TheVariants as dues
use Rattle.vscsi_client.specs.declared.stage.Stage.{Stage}
use Rattle.vscsi_client.specs.declared.stage.Stage.TheVariants as stages
use Rattle.vcpu_run.specs.Answered.{AreBegun}
use Rattle.vcpu_run.specs.AnswersTaken.{AreAmong, tags_among, tags_taken}
use Rattle.vcpu_run.specs.Takings.{IsBegun, unless_login, waiting, waiting_by}
use Rattle.vcpu_run.proofs.Announcing.{both_bools}
use Rattle.vcpu_run.proofs.Among.{taken_besides, wait_less, wait_next, wait_none}

-- tags, and behind them what is kept and waits, among what was taken
abbrev pub InOrder : (tags : List ℕ) → ClientState → EndState → Type 0
InOrder tags s end = AreAmong (tags ++ tags_among (s.kept ++ waiting s)) (tags_taken end.taken)

-- What a step of a client leaves of its entries: those that wait stay in order, and what is taken is taken in sessions.
pub record Goes (s s' : ClientState) (e f : EndState) : Type 0 where
  pub order : (tags : List ℕ) → InOrder tags s e → InOrder tags s' f
  pub session : IsBegun e → IsBegun f
  pub begun : IsBegun e → AreBegun e.taken → AreBegun f.taken

pub goes_on : (a b c : ClientState) (e f g : EndState) → Goes a b e f → Goes b c f g → Goes a c e g
goes_on a b c e f g first next = record {
  order = λ tags is. next.order tags (first.order tags is);
  session = λ is. next.session (first.session is);
  begun = λ is rows. next.begun (first.session is) (first.begun is rows);
}

-- at an end that took nothing and stays in its session
abbrev pub SameTaken : EndState → EndState → Type 0
SameTaken e f = (f.taken ≡ e.taken) × (f.registered ≡ e.registered) × (f.last_session ≡ e.last_session)

pub session_as : (e f : EndState) → f.registered ≡ e.registered → f.last_session ≡ e.last_session → IsBegun e → IsBegun f
session_as e f registered last is = λ opened. subst (λ n. 1 ≤ n) (sym last) (is (sym registered ∙ opened))

pub goes_same : (s s' : ClientState) (e f : EndState) → SameTaken e f → ((tags : List ℕ) → InOrder tags s e → InOrder tags s' e) → Goes s s' e f
goes_same s s' e f same order = record {
  order = λ tags is. subst (λ (rows : List PipeRow). AreAmong (tags ++ tags_among (s'.kept ++ waiting s')) (tags_taken rows)) (sym same.0) (order tags is);
  session = session_as e f same.1 same.2;
  begun = λ is rows. subst AreBegun (sym same.0) rows;
}

-- the client is this one
pub order_is : (tags : List ℕ) (s s' t : ClientState) (e : EndState) → s' ≡ t → (InOrder tags s e → InOrder tags t e) → InOrder tags s e → InOrder tags s' e
order_is tags s s' t e is goes order = subst (λ (u : ClientState). InOrder tags u e) (sym is) (goes order)

pub goes_still : (s s' : ClientState) (e f : EndState) → SameTaken e f → s' ≡ s → Goes s s' e f
goes_still s s' e f same is = goes_same s s' e f same (λ tags. order_is tags s s' s e is (λ order. order))

pub taken_ready : (e f : EndState) → OnlyReserves e f → SameTaken e f
taken_ready e f ready = (ready.taken, ready.registered, ready.last_session)

pub taken_sent : (shared : Bool) (e f : EndState) → OnlySends shared e f → SameTaken e f
taken_sent shared e f rest = (rest.taken, rest.registered, rest.last_session)

pub taken_on : (e f g : EndState) → SameTaken e f → SameTaken f g → SameTaken e g
taken_on e f g first next = (next.0 ∙ first.0, next.1 ∙ first.1, next.2 ∙ first.2)

same_end : (e f : EndState) → f ≡ e → SameTaken e f
same_end e f is = (ap (λ (x : EndState). x.taken) is, ap (λ (x : EndState). x.registered) is, ap (λ (x : EndState). x.last_session) is)

-- nothing is kept, and nothing waits
pub forgets_all : (tags : List ℕ) (s t : ClientState) (e : EndState) → t.kept ≡ [] → t.held ≡ None → InOrder tags s e → InOrder tags t e
forgets_all tags s t e kept held order =
    subst (λ (all : List Entry). AreAmong (tags ++ tags_among all) (tags_taken e.taken))
    (sym (ap (λ (k : List Entry). k ++ waiting t) kept ∙ ap (λ (h : Option Entry). waiting_by h t.login) held))
    (wait_none tags (s.kept ++ waiting s) (tags_taken e.taken) order)

-- what is kept stays, and nothing waits
pub waits_no_more : (tags : List ℕ) (s t : ClientState) (e : EndState) → t.kept ≡ s.kept → t.held ≡ None → InOrder tags s e → InOrder tags t e
waits_no_more tags s t e kept held order =
    subst (λ (all : List Entry). AreAmong (tags ++ tags_among all) (tags_taken e.taken))
    (sym (ap (λ (k : List Entry). k ++ waiting t) kept ∙ (ap (λ (h : Option Entry). s.kept ++ waiting_by h t.login) held ∙ append-nil s.kept)))
    (wait_less tags s.kept (waiting s) (tags_taken e.taken) order)

-- what is kept and what is held stay
pub waits_still : (tags : List ℕ) (s t : ClientState) (e : EndState) → t.kept ≡ s.kept → waiting t ≡ waiting s → InOrder tags s e → InOrder tags t e
waits_still tags s t e kept wait order =
    subst (λ (all : List Entry). AreAmong (tags ++ tags_among all) (tags_taken e.taken)) (sym (ap (λ (k : List Entry). k ++ waiting t) kept ∙ ap (λ (w : List Entry). s.kept ++ w) wait)) order

-- the queue began a session, or did not
goes_opened : (s s' t : ClientState) (e room f : EndState) → OnlyReserves e room → f.taken ≡ room.taken → s' ≡ t → t.kept ≡ [] → t.held ≡ None → IsBegun f → Goes s s' e f
goes_opened s s' t e room f ready taken is kept held begun = record {
  order = λ tags order. subst (λ (rows : List PipeRow). AreAmong (tags ++ tags_among (s'.kept ++ waiting s')) (tags_taken rows)) (sym (taken ∙ ready.taken))
      (order_is tags s s' t e is (forgets_all tags s t e kept held) order);
  session = λ before. begun;
  begun = λ before rows. subst AreBegun (sym (taken ∙ ready.taken)) rows;
}

-- an entry was taken, and waits unless it is under the login's tag
held_next : (tags : List ℕ) (s : ClientState) (entry : Entry) (e room : EndState) (session : ℕ) (slot : Option ℕ) → s.held ≡ None → room.taken ≡ e.taken → InOrder tags s e
    → AreAmong (tags ++ tags_among (s.kept ++ unless_login slot entry)) (tags_taken (room.taken ++ record { session = session; entry = entry } ∷ []))
held_next tags s entry e room session slot held same order =
    subst (λ (rows : List PipeRow). AreAmong (tags ++ tags_among (s.kept ++ unless_login slot entry)) (tags_taken (rows ++ record { session = session; entry = entry } ∷ []))) (sym same) (at slot)
  where
    kept : AreAmong (tags ++ tags_among s.kept) (tags_taken e.taken)
    kept = wait_less tags s.kept (waiting s) (tags_taken e.taken) order

    at : (o : Option ℕ) → AreAmong (tags ++ tags_among (s.kept ++ unless_login o entry)) (tags_taken (e.taken ++ record { session = session; entry = entry } ∷ []))
    at None = wait_next tags s.kept e.taken (record { session = session; entry = entry }) kept
    at (Some slot) =
        subst (λ (all : List Entry). AreAmong (tags ++ tags_among all) (tags_taken (e.taken ++ record { session = session; entry = entry } ∷ []))) (sym (append-nil s.kept))
        (taken_besides (tags ++ tags_among s.kept) e.taken (record { session = session; entry = entry }) kept)

-- what waits is looked at: it is kept behind the others, or does not wait any more
found_order : (tags : List ℕ) (s s' : ClientState) (entry : Entry) (f : Found) (e : EndState) → s.held ≡ Some entry → (f ≡ found.Answer → login_slot entry.low s.login ≡ None) → s' ≡ found_by entry f s
    → InOrder tags s e → InOrder tags s' e
found_order tags s s' entry (found.Granted credits) e held none is order = order_is tags s s' (found_by entry (found.Granted credits) s) e is (forgets_all tags s (found_by entry (found.Granted credits) s) e refl refl) order
found_order tags s s' entry (found.Rejected reason) e held none is order = order_is tags s s' (found_by entry (found.Rejected reason) s) e is (waits_no_more tags s (found_by entry (found.Rejected reason) s) e refl refl) order
found_order tags s s' entry found.Lost e held none is order = order_is tags s s' (found_by entry found.Lost s) e is (forgets_all tags s (found_by entry found.Lost s) e refl refl) order
found_order tags s s' entry found.Step e held none is order = order_is tags s s' (found_by entry found.Step s) e is (waits_no_more tags s (found_by entry found.Step s) e refl refl) order
found_order tags s s' entry found.Answer e held none is order =
    let wait : waiting s ≡ entry ∷ [] = ap (λ (h : Option Entry). waiting_by h s.login) held ∙ ap (λ (slot : Option ℕ). unless_login slot entry) (none refl) in
    order_is tags s s' (record s { kept = s.kept ++ entry ∷ []; held = None }) e is
    (λ before. subst (λ (all : List Entry). AreAmong (tags ++ tags_among all) (tags_taken e.taken)) (ap (λ (w : List Entry). s.kept ++ w) wait ∙ sym (append-nil (s.kept ++ entry ∷ []))) before) order
found_order tags s s' entry found.Nothing e held none is order = order_is tags s s' (found_by entry found.Nothing s) e is (waits_no_more tags s (found_by entry found.Nothing s) e refl refl) order
found_order tags s s' entry (found.InUse page word) e held none is order = order_is tags s s' s e is (λ before. before) order

-- a login that is put keeps its tag
stage_slot : (due : Due) (stage : Stage) (tag : ℕ) → login_slot tag (sent_stage due stage) ≡ login_slot tag stage
stage_slot dues.Login (stages.Written own slot) tag = refl
stage_slot dues.Login (stages.Sent own slot) tag = refl
stage_slot dues.Login stages.Idle tag = refl
stage_slot dues.Initialize stage tag = refl
stage_slot dues.Complete stage tag = refl

pub stage_waits : (held : Option Entry) (due : Due) (stage : Stage) → waiting_by held (sent_stage due stage) ≡ waiting_by held stage
stage_waits None due stage = refl
stage_waits (Some entry) due stage = ap (λ (slot : Option ℕ). unless_login slot entry) (stage_slot due stage entry.low)

put_order : (tags : List ℕ) (due : Due) (others : List Due) (answer : SendAnswer) (s : ClientState) (e : EndState) → InOrder tags s e → InOrder tags (sent_by due others answer s) e
put_order tags due others answer s e order = at (is_dropped answer)
  where
    at : (b : Bool) → InOrder tags (cond b s (record s { due = others; login = sent_stage due s.login })) e
    at true = order
    at false = waits_still tags s (record s { due = others; login = sent_stage due s.login }) e refl (stage_waits s.held due s.login) order

-- a login that is written can only take its own answer from those that wait
pub wrote_waits : (held : Option Entry) (idle stage : Stage) → is_idle idle ≡ true → (waiting_by held stage ≡ waiting_by held idle) ⊎ (waiting_by held stage ≡ [])
wrote_waits None idle stage is = inl refl
wrote_waits (Some entry) (stages.Written tag slot) stage is = absurd (cc)
wrote_waits (Some entry) (stages.Sent tag slot) stage is = absurd (cc)
wrote_waits (Some entry) stages.Idle stage is = at (login_slot entry.low stage)
  where
    at : (o : Option ℕ) → (unless_login o entry ≡ entry ∷ []) ⊎ (unless_login o entry ≡ [])
    at None = inl refl
    at (Some slot) = inr refl

wrote_order : (tags : List ℕ) (s t : ClientState) (e : EndState) → t.kept ≡ s.kept → t.held ≡ s.held → is_idle s.login ≡ true → InOrder tags s e → InOrder tags t e
wrote_order tags s t e kept held idle order = at (wrote_waits s.held s.login t.login idle)
  where
    now : waiting t ≡ waiting_by s.held t.login
    now = ap (λ (h : Option Entry). waiting_by h t.login) held

    at : (waiting_by s.held t.login ≡ waiting s) ⊎ (waiting_by s.held t.login ≡ []) → InOrder tags t e
    at (inl same) = waits_still tags s t e kept (now ∙ same) order
    at (inr none) =
        subst (λ (all : List Entry). AreAmong (tags ++ tags_among all) (tags_taken e.taken))
        (sym (ap (λ (k : List Entry). k ++ waiting t) kept ∙ (ap (λ (w : List Entry). s.kept ++ w) (now ∙ none) ∙ append-nil s.kept)))
        (wait_less tags s.kept (waiting s) (tags_taken e.taken) order)

-- the next entry was taken, and is held
took_goes : (shared : Bool) (s s' : ClientState) (e f : EndState) → TakesNext shared s s' e f → Goes s s' e f
took_goes shared s s' e f h = record {
  order = λ tags order.
      subst (λ (rows : List PipeRow). AreAmong (tags ++ tags_among (s'.kept ++ waiting s')) (tags_taken rows)) (sym h.taken.taken)
      (subst (λ (t : ClientState). AreAmong (tags ++ tags_among (t.kept ++ waiting t)) (tags_taken (h.room.taken ++ record { session = h.room.last_session; entry = h.entry } ∷ []))) (sym h.client)
      (held_next tags s h.entry e h.room h.room.last_session (login_slot h.entry.low s.login) h.none_held h.ready.taken order));
  session = session_as e f (h.rest.registered ∙ h.ready.registered) (h.rest.last_session ∙ h.ready.last_session);
  begun = λ is rows.
      subst AreBegun (sym h.taken.taken)
      (All-append (λ (row : PipeRow). 1 ≤ row.session) h.room.taken (record { session = h.room.last_session; entry = h.entry } ∷ []) (subst AreBegun (sym h.ready.taken) rows)
      (All-cons (λ (row : PipeRow). 1 ≤ row.session) (record { session = h.room.last_session; entry = h.entry }) [] (subst (λ n. 1 ≤ n) (sym h.ready.last_session) (is (sym h.ready.registered ∙ h.taken.registered))) (All-nil (λ (row : PipeRow). 1 ≤ row.session))));
}

-- none was there
none_goes : (shared : Bool) (s s' : ClientState) (e f : EndState) → PollsNone shared s s' e f → Goes s s' e f
none_goes shared s s' e f h =
    goes_still s s' e f (none_taken h.none ∙ h.ready.taken, h.rest.registered ∙ h.ready.registered, h.rest.last_session ∙ h.ready.last_session) h.client
  where
    none_taken : FindsNone shared h.room f h.number ⊎ ((h.room.registered ≡ false) × OnlyReserves h.room f) → f.taken ≡ h.room.taken
    none_taken (inl none) = none.taken
    none_taken (inr shut) = shut.1.taken

-- what was found to be an answer of another request is not under the login's tag
answer_else : (shared : Bool) (s : ClientState) (entry : Entry) (old new : PortState) (f : Found) → Finds shared s entry old new f → f ≡ found.Answer → login_slot entry.low s.login ≡ None
answer_else shared s entry old new f finds is =
    at (login_slot entry.low s.login) (subst (λ (g : Found). Finds shared s entry old new g) is finds).2
  where
    at : (o : Option ℕ) → MatchOption o (IsToOthers s entry found.Answer × (new ≡ old)) (λ slot. SaysIn shared entry.low slot old new found.Answer) → o ≡ None
    at None h = refl
    at (Some slot) (iu, holds, h) = no_answer iu h
      where
        no_answer : (iu : Iu) → SaysOf entry.low iu found.Answer → Some slot ≡ None
        no_answer (units.LoginReq r) says = absurd says
        no_answer (units.TskMgmt r) says = absurd says
        no_answer (units.Cmd r) says = absurd says
        no_answer (units.ILogout tag) says = absurd says
        no_answer (units.CredRsp tag) says = absurd says
        no_answer (units.TLogout reason tag) says = absurd says
        no_answer (units.CredReq delta tag) says = absurd says
        no_answer (units.LoginRsp r) says = absurd says
        no_answer (units.Rsp r) says = absurd says
        no_answer (units.LoginRej r) says = absurd says

step_goes : (line : ℕ) (step : LoginStep) (a b : Site) → Steps line step a b → Goes a.client b.client a.at.crq b.at.crq
step_goes line (Registered reg.Resource) a b h =
    goes_still a.client b.client a.at.crq b.at.crq (taken_on a.at.crq h.0.room b.at.crq (taken_ready a.at.crq h.0.room h.0.ready) (taken_ready h.0.room b.at.crq h.0.registers.1)) h.0.registers.2
step_goes line (Registered reg.Success) a b h =
    goes_opened a.client b.client (registered_by a.client) a.at.crq h.0.room b.at.crq h.0.ready h.0.rest.taken h.0.registers.2 refl refl
    (λ opened. let last = h.0.registers.0.session in omega (arith, last))
step_goes line (Registered (reg.Closed control)) a b h =
    goes_opened a.client b.client (registered_by a.client) a.at.crq h.0.room b.at.crq h.0.ready h.0.rest.taken h.0.registers.2 refl refl
    (λ opened. let last = h.0.registers.0.session in omega (arith, last))
step_goes line (Registered (reg.Busy number held)) a b h =
    goes_opened a.client b.client (freed_by a.client) a.at.crq h.0.room b.at.crq h.0.ready h.0.rest.taken h.0.registers.1 refl refl
    (λ opened. absurd (both_bools b.at.crq.registered opened h.0.registers.0.still))
step_goes line (Registered reg.Parameter) a b h = absurd h.0.registers
step_goes line Took a b h = took_goes a.at.crq_shared a.client b.client a.at.crq b.at.crq h.0
step_goes line TookNone a b h = none_goes a.at.crq_shared a.client b.client a.at.crq b.at.crq h.0
step_goes line (Looked f) a b h =
    goes_same a.client b.client a.at.crq b.at.crq (same_end a.at.crq b.at.crq h.1)
    (λ tags. found_order tags a.client b.client h.0.entry f a.at.crq h.0.held (answer_else a.at.own_shared a.client h.0.entry a.at.own b.at.own f h.0.finds) h.0.client)
step_goes line Began a b h =
    goes_same a.client b.client a.at.crq b.at.crq (same_end a.at.crq b.at.crq h.1) (λ tags. order_is tags a.client b.client (login_due a.client) a.at.crq h.0.client (λ order. order))
step_goes line Wrote a b h =
    goes_same a.client b.client a.at.crq b.at.crq (same_end a.at.crq b.at.crq h.2)
    (λ tags. order_is tags a.client b.client (written_at h.1.slot a.client) a.at.crq h.1.client (wrote_order tags a.client (written_at h.1.slot a.client) a.at.crq refl refl h.0.idle))
step_goes line (NotWritten page word) a b h = goes_still a.client b.client a.at.crq b.at.crq (same_end a.at.crq b.at.crq h.2) h.1.client
step_goes line (Put due answer) a b h =
    goes_same a.client b.client a.at.crq b.at.crq
    (taken_on a.at.crq h.0.room b.at.crq (taken_ready a.at.crq h.0.room h.0.ready) (taken_sent a.at.crq_shared h.0.room b.at.crq h.0.rest))
    (λ tags. order_is tags a.client b.client (sent_by due h.0.others answer a.client) a.at.crq h.0.client (put_order tags due h.0.others answer a.client a.at.crq))
step_goes line RanOut a b h = goes_still a.client b.client a.at.crq b.at.crq (taken_ready a.at.crq b.at.crq h.crq) h.client

pub runs_goes : (line : ℕ) (steps : List LoginStep) (a b : Site) → Runs line steps a b → Goes a.client b.client a.at.crq b.at.crq
runs_goes line [] a b runs = goes_still a.client b.client a.at.crq b.at.crq (same_end a.at.crq b.at.crq (ap (λ (t : Site). t.at.crq) runs)) (ap (λ (t : Site). t.client) runs)
runs_goes line (step ∷ steps) a b runs =
    goes_on a.client runs.0.client b.client a.at.crq runs.0.at.crq b.at.crq (runs_goes line steps a runs.0 runs.1) (step_goes line step runs.0 b runs.2)
