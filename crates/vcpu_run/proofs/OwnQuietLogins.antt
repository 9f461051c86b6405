-- A turn of a client's login, whose server unit's session is over, or was, and which waits: it does something, where the unit has nothing to do, or the
-- client's queue is full.
use Rattle.std.proofs.Common.{◌≡◌, ◌∙◌, ◌⊎◌, inl, inr, ℕ, ◌+◌, ◌≤◌, ◌++◌, true, false, true≢false, List, [], ◌∷◌, Option, Ok, arith, length, refl, sym, ap, subst}
use Rattle.std.specs.List.{list_any}
use Rattle.vio_num.specs.declared.entry.Entry.{Entry}
use Rattle.vio_num.specs.declared.hypervisor.Moved.{Moved}
use Rattle.crq_session.specs.Answered.{received_now, taken_now}
use Rattle.crq_session.specs.EndState.{EndState}
use Rattle.crq_session.specs.declared.answers.RegAnswer.{RegAnswer}
use Rattle.crq_session.specs.declared.answers.RegAnswer.TheVariants as reg
use Rattle.crq_session.specs.declared.answers.SendAnswer.TheVariants as send
use Rattle.crq_session.specs.declared.handshake.Handshake.TheVariants.{Up}
use Rattle.block_server.specs.Doings.{Doing}
use Rattle.unit_region.specs.declared.step.Step.TheVariants as steps
use Rattle.vscsi_client.specs.State.{ClientState}
use Rattle.vscsi_client.specs.Turned.{AreInOrder, EndsWith, FollowOn, IsHeldUp, IsLooked, LastIs, LoginStep, NoneEnds, Pauses, Puts, Registers, Runs, Site, Turned, begins, ends_turn, is_up}
use Rattle.vscsi_client.specs.Turned.LoginStep.{NotWritten, Put, Registered}
use Rattle.vscsi_client.specs.declared.answers.LoginTurn.{LoginTurn}
use Rattle.vscsi_client.specs.declared.answers.LoginTurn.TheVariants as turns
use Rattle.vscsi_client.specs.declared.stage.Due.{Due}
use Rattle.vscsi_client.specs.declared.stage.Due.TheVariants as dues
use Rattle.vscsi_client.specs.declared.stage.Stage.{Stage}
use Rattle.vscsi_client.specs.declared.stage.Stage.TheVariants.{Idle, Sent, Written}
use Rattle.vcpu_run.specs.Acts.{Acting, LogsInOnce, site_of}
use Rattle.vcpu_run.specs.OwnJoins.{TurnLeft}
use Rattle.vcpu_run.specs.OwnOver.{is_login_due}
use Rattle.vcpu_run.specs.OwnQuiets.{HasAll, HasNoWork}
use Rattle.vcpu_run.specs.Sendings.{SaysTurned}
use Rattle.vcpu_run.proofs.OwnActTaking.{coming_is}
use Rattle.vcpu_run.proofs.OwnCalm.{over_calm}
use Rattle.vcpu_run.proofs.OwnQuietEnds.{HasRoom, TookOn, full_took, none_put, room_full, room_rests, work_rests}
use Rattle.vcpu_run.proofs.OwnQuietTook.{took_runs}
use Rattle.vcpu_run.proofs.OwnWritten.{WrittenDue, due_turned}
use Rattle.vcpu_run.proofs.PlainLogsIn.{LastStep, last_step, none_front}
use Rattle.vcpu_run.proofs.PlainPauses.{begins_now}
use Rattle.vcpu_run.proofs.PlainWalks.{both_false}
use Rattle.vcpu_run.proofs.RejoinLogins.{BeginsIn, Parted, last_going, over_login, parted_turn, puts_paused}
use Rattle.vcpu_run.proofs.RejoinWalks.{PutsAll, held_put, looked_put, puts_all, puts_in, spent_put}
use Rattle.vcpu_run.proofs.RejoinWrites.{over_unwritten}

-- Why the unit did nothing: it has nothing to do, and the client's entries found room; or the client's queue is full.
abbrev pub UnitWaits : Doing → EndState → Type 0
UnitWaits d own = (HasNoWork d × HasRoom own) ⊎ ((own.registered ≡ true) × (length (received_now own) ≡ length (taken_now own) + own.place.own_slots))

-- A turn put nothing, and took nothing.
pub record DidNone (old new : EndState) : Type 0 where
  pub put : length new.sent ≤ length old.sent
  pub taken : length new.taken ≤ length old.taken

-- ---- nothing is held up

-- an entry found room
dropped_last : (line : ℕ) (due : Due) (number held : ℕ) (stepped : List LoginStep) (a b : Site) → b.at.crq_shared ≡ false → HasRoom b.at.crq → Runs line stepped a b
    → LastIs (Put due (send.Dropped number held)) stepped → ⊥
dropped_last line due number held stepped a b alone room runs last = by (subst (λ (list : List LoginStep). Runs line list a b) last.is runs)
  where
    by : Runs line (Put due (send.Dropped number held) ∷ last.rest) a b → ⊥
    by (m, before, did, hands) = at (subst (λ shared. Puts shared m.client b.client m.at.crq b.at.crq due (send.Dropped number held)) (sym hands.crq ∙ alone) did.0)
      where
        at : Puts false m.client b.client m.at.crq b.at.crq due (send.Dropped number held) → ⊥
        at puts = room_full puts.room b.at.crq number held puts.rest.place room puts.sent

-- the unit of a login is written
unwritten_last : (granted line page word : ℕ) (d : Doing) (a b : Site) (answer : RegAnswer) (later : List LoginStep) → Parted true granted line d a b answer later
    → Pauses a.at.crq.place.own_slots (later ++ Registered answer ∷ []) b → LastIs (NotWritten page word) (later ++ Registered answer ∷ []) → ⊥
unwritten_last granted line page word d a b answer later parts pauses last = by (last_step later answer (NotWritten page word) last.rest last.is)
  where
    at : (before : List LoginStep) → Runs line (NotWritten page word ∷ before) parts.first b → FollowOn 1 (NotWritten page word ∷ before)
        → Pauses a.at.crq.place.own_slots (NotWritten page word ∷ (before ++ Registered answer ∷ [])) b → ⊥
    at before (m, runs, did, hands) follow waits =
        over_unwritten true granted line page word all.leads.left m b (puts_in true granted d a m all) did
      where
        going : NoneEnds (before ++ Registered answer ∷ [])
        going = (both_false (ends_turn (NotWritten page word)) (list_any ends_turn (before ++ Registered answer ∷ [])) waits.going).1

        all : PutsAll true granted d a m
        all = puts_all true granted line a.at.crq.place.own_slots d a parts.first answer before m (parts.start (last_going before (Registered answer) going)) runs follow.1
            (none_front before (Registered answer) going)
            (spent_put a.at.crq.place.own_slots (NotWritten page word) (before ++ Registered answer ∷ []) (omega arith) refl waits.spent)
            (subst (λ (held : Option Entry). IsLooked held (before ++ Registered answer ∷ [])) (held_put line (NotWritten page word) m b did (omega arith) refl)
            (looked_put b.client.held (NotWritten page word) (before ++ Registered answer ∷ []) (omega arith) refl waits.looked))

    by : LastStep later answer (NotWritten page word) last.rest ⊎ ((later ≡ []) × (NotWritten page word ≡ Registered answer)) → ⊥
    by (inl one) = at one.before (subst (λ (list : List LoginStep). Runs line list parts.first b) one.are parts.runs) (subst (FollowOn 1) one.are parts.follow)
        (subst (λ (list : List LoginStep). Pauses a.at.crq.place.own_slots (list ++ Registered answer ∷ []) b) one.are pauses)
    by (inr none) = cc (none.1)

-- so nothing is due
none_due : (granted line : ℕ) (d : Doing) (a b : Site) (answer : RegAnswer) (later : List LoginStep) → Parted true granted line d a b answer later → b.at.crq_shared ≡ false → HasRoom b.at.crq
    → Runs line (later ++ Registered answer ∷ []) a b → Pauses a.at.crq.place.own_slots (later ++ Registered answer ∷ []) b → b.client.due ≡ []
none_due granted line d a b answer later parts alone room runs pauses = by b.client.due pauses.held_up
  where
    by : (due : List Due) → IsHeldUp due (later ++ Registered answer ∷ []) → due ≡ []
    by [] held = refl
    by (first ∷ others) (inl (number, held, last)) = absurd (dropped_last line first number held (later ++ Registered answer ∷ []) a b alone room runs last)
    by (first ∷ others) (inr (login, (page, word, last))) = absurd (unwritten_last granted line page word d a b answer later parts pauses last)

-- ---- a client of which nothing is due, and which asked for no login, begins one

begins_calm : (s : ClientState) → HasAll s → s.due ≡ [] → WrittenDue s → begins s ≡ false → ⊥
begins_calm s all none due begun = met all.met
  where
    at : (stage : Stage) → s.login ≡ stage → is_up s.handshake ≡ true → ⊥
    at Idle login up = true≢false (sym (begins_now s up login none) ∙ begun)
    at (Written tag slot) login up = true≢false (sym (due tag slot login) ∙ ap (λ (list : List Due). list_any is_login_due list) none)
    at (Sent tag slot) login up = all.unsent tag slot login

    met : ((others : List Due) × (s.due ≡ dues.Initialize ∷ others)) ⊎ (s.handshake ≡ Up) → ⊥
    met (inl first) = absurd (cc (none, first.1))
    met (inr up) = at s.login refl (ap is_up up)

-- ---- a turn that is to be made again

paused_calm : (granted line : ℕ) (d : Doing) (a b : Site) → BeginsIn true granted d a → WrittenDue a.client → UnitWaits d a.at.crq → 1 ≤ a.at.crq.place.own_slots → DidNone a.at.crq b.at.crq
    → Turned line a b (Ok turns.Again) → ⊥
paused_calm granted line d a b begins due waits slots none turned = by waits
  where
    order : AreInOrder turned.steps
    order = turned.ends.2

    runs : Runs line (order.later ++ Registered order.answer ∷ []) a b
    runs = subst (λ (list : List LoginStep). Runs line list a b) order.is turned.runs

    pauses : Pauses a.at.crq.place.own_slots (order.later ++ Registered order.answer ∷ []) b
    pauses = subst (λ (list : List LoginStep). Pauses a.at.crq.place.own_slots list b) order.is turned.ends.1

    parts : Parted true granted line d a b order.answer order.later
    parts = parted_turn true granted line d a b order.answer order.later begins runs order.order

    all : PutsAll true granted d a b
    all = puts_paused true granted line d a b order.answer order.later parts pauses

    took : TookOn a.at.crq b.at.crq × (b.at.crq_shared ≡ false)
    took = took_runs line turned.steps a b begins.seen.alone turned.runs

    by : UnitWaits d a.at.crq → ⊥
    by (inr full) = full_took a.at.crq b.at.crq took.0 full.0 full.1 slots all.none none.taken
    by (inl (rests, room)) = begins_calm b.client calm nothing (due_turned line a b turns.Again turned due) pauses.begun
      where
        put : all.leads.rests.entries ≡ []
        put = none_put d all.leads.left a.at b.at all.leads.rests none.put

        nothing : b.client.due ≡ []
        nothing = none_due granted line d a b order.answer order.later parts took.1 (room_rests d all.leads.left a.at b.at all.leads.rests put room) runs pauses

        calm : HasAll b.client
        calm = over_calm granted false all.leads.left b.client b.at.crq (work_rests d all.leads.left a.at b.at all.leads.rests put rests) all.leads.stands.registered all.leads.stands.kept all.held
            (coming_is all.leads.left.sent b.at.crq all.leads.stands.seen.received ∙ all.none) all.leads.stands.over

-- ---- one in which the queue could not be registered

busy_calm : (granted line number held : ℕ) (d : Doing) (a b : Site) → BeginsIn true granted d a → UnitWaits d a.at.crq → DidNone a.at.crq b.at.crq
    → Turned line a b (Ok (turns.Busy number held)) → ⊥
busy_calm granted line number held d a b begins waits none turned = by waits
  where
    left : TurnLeft true granted d a b (turns.Busy number held)
    left = over_login true granted line d a b (turns.Busy number held) begins turned

    took : TookOn a.at.crq b.at.crq × (b.at.crq_shared ≡ false)
    took = took_runs line turned.steps a b begins.seen.alone turned.runs

    last : EndsWith (Registered (reg.Busy number held)) turned.steps
    last = turned.ends.1

    met : HasRoom b.at.crq → Runs line (Registered (reg.Busy number held) ∷ last.rest) a b → ⊥
    met room (m, before, did, hands) = at (subst (λ shared. Registers shared m.client b.client m.at.crq b.at.crq (reg.Busy number held)) (sym hands.crq ∙ took.1) did.0)
      where
        at : Registers false m.client b.client m.at.crq b.at.crq (reg.Busy number held) → ⊥
        at registers = room_full registers.room b.at.crq number held registers.rest.place room registers.registers.0.kept.full

    by : UnitWaits d a.at.crq → ⊥
    by (inl (rests, room)) =
        met (room_rests d left.0.stays.left a.at b.at left.0.stays.rests (none_put d left.0.stays.left a.at b.at left.0.stays.rests none.put) room)
        (subst (λ (list : List LoginStep). Runs line list a b) last.is turned.runs)
    by (inr full) = true≢false (sym (took.0.stays full.0).0 ∙ left.1.1)

-- ---- a line that logs in

pub logs_calm : (granted line : ℕ) (d : Doing) (old new : Acting) (did : Moved) → BeginsIn true granted d (site_of old) → WrittenDue old.client → UnitWaits d old.ports.crq
    → 1 ≤ old.ports.crq.place.own_slots → DidNone old.ports.crq new.ports.crq → LogsInOnce line old new (steps.Waits did) → ⊥
logs_calm granted line d old new did begins due waits slots none logs = by logs.turn logs.turned logs.says
  where
    by : (turn : LoginTurn) → Turned line (site_of old) (site_of new) (Ok turn) → SaysTurned turn (steps.Waits did) → ⊥
    by (turns.Granted credits) turned says = cc (says)
    by (turns.Rejected reason) turned says = cc (says)
    by turns.Lost turned says = cc (says)
    by turns.Again turned says = paused_calm granted line d (site_of old) (site_of new) begins due waits slots none turned
    by (turns.Busy number held) turned says = busy_calm granted line number held d (site_of old) (site_of new) begins waits none turned
