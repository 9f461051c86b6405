-- What the calls of a client's seat leave of its client, at its pair.
use Rattle.std.proofs.Common.{◌≡◌, ◌∙◌, inl, inr, ℕ, Bool, false, IfOk, List, OnOk, Option, Some, None, Result, Ok, Err, refl, sym, ap, subst}
use Rattle.std.specs.Borrow.{GName}
use Rattle.vio_num.specs.declared.hypervisor.Moved.{Moved}
use Rattle.vio_num.specs.declared.hypervisor.Moved.TheVariants as moves
use Rattle.vio_num.specs.declared.memory.NoMemory.{NoMemory}
use Rattle.boot_text.specs.declared.plan.Line.{Line}
use Rattle.boot_text.specs.declared.verb.Verb.{Verb}
use Rattle.boot_text.specs.declared.verb.Verb.TheVariants as verbs
use Rattle.crq_session.specs.Answered.{TellsFailed}
use Rattle.crq_session.specs.EndState.{EndState, OnlyFrees, OnlyReserves}
use Rattle.crq_session.specs.PlainState.{end_of}
use Rattle.crq_session.specs.declared.link.PlainLink.{PlainLink}
use Rattle.tce_window.specs.PlainPort.{known_of}
use Rattle.unit_region.specs.declared.step.Step.{Step}
use Rattle.unit_region.specs.declared.step.Step.TheVariants as steps
use Rattle.vscsi_client.specs.Turned.{unlinked}
use Rattle.vscsi_client.specs.declared.answers.DataFault.{DataFault}
use Rattle.vscsi_client.specs.declared.answers.DataFault.TheVariants as faults
use Rattle.vscsi_client.specs.declared.answers.LoginTurn.{LoginTurn}
use Rattle.vscsi_client.specs.declared.answers.LoginTurn.TheVariants as turns
use Rattle.vscsi_client.specs.declared.answers.Refused.{Refused}
use Rattle.vcpu_run.specs.Acts.{Acting, ActsFor, CommandsOnce, EndsTaking, LogsInOnce, ResetsOnce, SaysAs, SaysData, acting, with_room}
use Rattle.vcpu_run.specs.ActsAt.{AtPair, FailsOnce, PairActs, acting_at}
use Rattle.vcpu_run.specs.Agreed.{OnDrivers}
use Rattle.vcpu_run.specs.Credited.{taken_in}
use Rattle.vcpu_run.specs.Sendings.{SaysTurned}
use Rattle.vcpu_run.specs.declared.driver.Driver.{Driver}
use Rattle.vcpu_run.specs.declared.pair.Pair.{Pair}
use Rattle.vcpu_run.specs.declared.script.Progress.{Progress}
use Rattle.vcpu_run.proofs.ActsPairs.{at_none, at_pair, on_drivers}

-- ---- a step of a line

pub drive_acts : (f g : Bool) (x y : List GName) (lent : PlainLink) (old new : Pair) (a b : Driver) (line : Line) (p p' : Progress) (result : Result Step NoMemory)
    → old.driver ≡ Some a → new.driver ≡ Some b → lent ≡ old.link → f ≡ false → g ≡ false → y ≡ x
    → IfOk result (ActsFor line.number line.verb p p' (acting a false (end_of x lent f) false (known_of old.window)) (acting b false (end_of y new.link g) false (known_of new.window)))
    → IfOk result (PairActs line p p' old new)
drive_acts f g x y lent old new a b line p p' (Err memory) was there same first next names is = tt
drive_acts f g x y lent old new a b line p p' (Ok step) was there same first next names is =
    at_pair (λ a b. ActsFor line.number line.verb p p' a b step) f g x y lent old new a b was there same first next names is

-- one that waits did something, or nothing
says_waits : (answer : Result ℕ Refused) (did did' : Moved) → SaysAs answer (steps.Waits did) → SaysAs answer (steps.Waits did')
says_waits (Ok tag) did did' is = absurd (cc (is))
says_waits (Err why) did did' is = is

turned_waits : (turn : LoginTurn) (did did' : Moved) → SaysTurned turn (steps.Waits did) → SaysTurned turn (steps.Waits did')
turned_waits (turns.Granted credits) did did' is = absurd (cc (is))
turned_waits (turns.Rejected reason) did did' is = absurd (cc (is))
turned_waits turns.Lost did did' is = absurd (cc (is))
turned_waits turns.Again did did' is = tt
turned_waits (turns.Busy number held) did did' is = tt

logs_waits : (line : ℕ) (old new : Acting) (did did' : Moved) → LogsInOnce line old new (steps.Waits did) → LogsInOnce line old new (steps.Waits did')
logs_waits line old new did did' is = record { turn = is.turn; turned = is.turned; says = turned_waits is.turn did did' is.says; answers = is.answers }

resets_waits : (line : ℕ) (p p' : Progress) (old new : Acting) (did did' : Moved) → did' ≡ moves.Moved → ResetsOnce line p p' old new (steps.Waits did) → ResetsOnce line p p' old new (steps.Waits did')
resets_waits line p p' old new did did' moved (inl (was, logs, now)) = inl (was, logs_waits line old new did did' logs, now)
resets_waits line p p' old new did did' moved (inr (was, inl (frees, now, is))) = inr (was, inl (frees, now, ap steps.Waits moved))
resets_waits line p p' old new did did' moved (inr (was, inr (inr used))) = inr (was, inr (inr used))
resets_waits line p p' old new did did' moved (inr (was, inr (inl (logs, now)))) = inr (
  was,
  inr (inl (record { room = logs.room; ready = logs.ready; unregistered = logs.unregistered; logs = logs_waits line (with_room logs.room old) new did did' logs.logs }, now)),
)

commands_wait : (line : ℕ) (verb : Verb) (old new : Acting) (did did' : Moved) → CommandsOnce line verb old new (steps.Waits did) → CommandsOnce line verb old new (steps.Waits did')
commands_wait line verb old new did did' is = record {
  op = is.op;
  is_op = is.is_op;
  cdb = is.cdb;
  submits = record { answer = is.submits.answer; submits = is.submits.submits; says = says_waits is.submits.answer did did' is.submits.says; answers = is.submits.answers; crq = is.submits.crq; own = is.submits.own; memory = is.submits.memory };
}

data_waits : (answer : Result (List ℕ) DataFault) (did did' : Moved) → SaysData answer (steps.Waits did) → SaysData answer (steps.Waits did')
data_waits (Ok bytes) did did' is = absurd (cc (is))
data_waits (Err faults.Unknown) did did' is = absurd (cc (is))
data_waits (Err (faults.Stale page)) did did' is = absurd (cc (is))
data_waits (Err (faults.InUse page word)) did did' is = is
data_waits (Err faults.NoMemory) did did' is = absurd is

still_waits : (line : ℕ) (verb : Verb) (p p' : Progress) (old new : Acting) (did did' : Moved) → did' ≡ moves.Moved → ActsFor line verb p p' old new (steps.Waits did)
    → ActsFor line verb p p' old new (steps.Waits did')
still_waits line verbs.Login p p' old new did did' moved is = logs_waits line old new did did' is
still_waits line verbs.Reset p p' old new did did' moved is = resets_waits line p p' old new did did' moved is
still_waits line verbs.Logout p p' old new did did' moved is =
    record { answer = is.answer; logs_out = is.logs_out; says = says_waits is.answer did did' is.says; answers = is.answers; crq = is.crq; own = is.own; memory = is.memory }
still_waits line (verbs.Task function of) p p' old new did did' moved is =
    record { answer = is.answer; tasks = is.tasks; says = says_waits is.answer did did' is.says; answers = is.answers; crq = is.crq; own = is.own; memory = is.memory }
still_waits line (verbs.Take count) p p' old new did did' moved is = record { entries = is.entries; each = is.each; more = is.more; ends = takes_waits is.ends }
  where
    takes_waits : EndsTaking count (taken_in p') old.ports.crq.place.own_slots is.entries new.client (steps.Waits did)
        → EndsTaking count (taken_in p') old.ports.crq.place.own_slots is.entries new.client (steps.Waits did')
    takes_waits (inl used) = inl used
    takes_waits (inr (inl none)) = inr (inl none)
    takes_waits (inr (inr slots)) = inr (inr (slots.0, moved))
still_waits line (verbs.Data of) p p' old new did did' moved is =
    record { reads = is.reads; answer = is.answer; unknown = is.unknown; given = is.given; why = is.why; says = data_waits is.answer did did' is.says }
still_waits line (verbs.Fill at len seed) p p' old new did did' moved is = record { aside = is.aside; rest = is.rest; lays = is.lays; says = is.says }
still_waits line (verbs.Poke at bytes) p p' old new did did' moved is = record { aside = is.aside; rest = is.rest; lays = is.lays; says = is.says }
still_waits line (verbs.Peek at len) p p' old new did did' moved is = record { reads = is.reads; says = is.says }
still_waits line (verbs.Tce entry page readable writable) p p' old new did did' moved is = record { aside = is.aside; window = is.window; lays = is.lays; says = is.says }
still_waits line verbs.Tur p p' old new did did' moved is = commands_wait line verbs.Tur old new did did' is
still_waits line (verbs.Read lba blocks at pieces table) p p' old new did did' moved is = commands_wait line (verbs.Read lba blocks at pieces table) old new did did' is
still_waits line (verbs.Write lba blocks at pieces table) p p' old new did did' moved is = commands_wait line (verbs.Write lba blocks at pieces table) old new did did' is
still_waits line (verbs.Command cdb) p p' old new did did' moved is = commands_wait line (verbs.Command cdb) old new did did' is
still_waits line (verbs.CommandIn cdb at len pieces table) p p' old new did did' moved is = commands_wait line (verbs.CommandIn cdb at len pieces table) old new did did' is
still_waits line (verbs.CommandOut cdb at len pieces table) p p' old new did did' moved is = commands_wait line (verbs.CommandOut cdb at len pieces table) old new did did' is
still_waits line verbs.Open p p' old new did did' moved is = commands_wait line verbs.Open old new did did' is
still_waits line verbs.Close p p' old new did did' moved is = commands_wait line verbs.Close old new did did' is
still_waits line (verbs.Post at len count) p p' old new did did' moved is = commands_wait line (verbs.Post at len count) old new did did' is
still_waits line (verbs.Send to len seed at) p p' old new did did' moved is = commands_wait line (verbs.Send to len seed at) old new did did' is
still_waits line (verbs.ChangeMac own) p p' old new did did' moved is = commands_wait line (verbs.ChangeMac own) old new did did' is
still_waits line (verbs.Multicast control group) p p' old new did did' moved is = commands_wait line (verbs.Multicast control group) old new did did' is
still_waits line (verbs.Hcall number arguments) p p' old new did did' moved is = commands_wait line (verbs.Hcall number arguments) old new did did' is
still_waits line verbs.Fail p p' old new did did' moved is = commands_wait line verbs.Fail old new did did' is

pub pair_moves : (line : Line) (p p' : Progress) (old new : Pair) → PairActs line p p' old new (steps.Waits moves.Quiet) → PairActs line p p' old new (steps.Waits moves.Moved)
pair_moves line p p' old new is =
    on_drivers (λ a b. (lenders : List GName) × ActsFor line.number line.verb p p' (acting_at lenders a old) (acting_at lenders b new) (steps.Waits moves.Quiet))
    (λ a b. (lenders : List GName) × ActsFor line.number line.verb p p' (acting_at lenders a old) (acting_at lenders b new) (steps.Waits moves.Moved)) old.driver new.driver
    (λ a b acts. (acts.0, still_waits line.number line.verb p p' (acting_at acts.0 a old) (acting_at acts.0 b new) moves.Quiet moves.Moved refl acts.1)) is

-- ---- what is done besides

pub at_pair_ok : {T E : Type 0} (P : Acting → Acting → Type 0) (r : Result T E) (f g : Bool) (x y : List GName) (lent : PlainLink) (old new : Pair) (a b : Driver) → old.driver ≡ Some a
    → new.driver ≡ Some b → lent ≡ old.link → f ≡ false → g ≡ false → y ≡ x
    → OnOk r (P (acting a false (end_of x lent f) false (known_of old.window)) (acting b false (end_of y new.link g) false (known_of new.window))) → OnOk r (AtPair P old new)
at_pair_ok P (Ok t) f g x y lent old new a b was there same first next names is = at_pair P f g x y lent old new a b was there same first next names is
at_pair_ok P (Err e) f g x y lent old new a b was there same first next names is = tt

-- whether there is a client or none, of which nothing is changed
pub at_both : (P : Acting → Acting → Type 0) (f g : Bool) (x y : List GName) (lent : PlainLink) (old new : Pair) → new.driver ≡ old.driver → lent ≡ old.link → f ≡ false → g ≡ false
    → y ≡ x → ((a : Driver) → P (acting a false (end_of x lent f) false (known_of old.window)) (acting a false (end_of y new.link g) false (known_of new.window))) → AtPair P old new
at_both P f g x y lent old new driver same first next names is = by old.driver refl
  where
    by : (o : Option Driver) → old.driver ≡ o → AtPair P old new
    by None e = at_none P old new e (driver ∙ e)
    by (Some a) e = at_pair P f g x y lent old new a a e (driver ∙ e) same first next names (is a)

-- a partition that fails
shut_by : (f g : Bool) (x y : List GName) (lent : PlainLink) (old new : Pair) (a b : Driver) (room : EndState) → old.driver ≡ Some a → new.driver ≡ Some b → lent ≡ old.link
    → f ≡ false → g ≡ false → y ≡ x → new.window ≡ old.window → b.client ≡ unlinked a.client → b.answers.items ≡ a.answers.items → OnlyReserves (end_of x lent f) room
    → TellsFailed false room (end_of y new.link g) → OnlyFrees false room (end_of y new.link g) → AtPair FailsOnce old new
shut_by f g x y lent old new a b room was there same first next names window client answers ready tells rest =
    at_pair FailsOnce f g x y lent old new a b was there same first next names
    (inl (record { room = room; ready = ready; tells = tells; rest = rest; own = ap known_of window; client = client; answers = answers }))

pub fail_acts : (f g : Bool) (x y : List GName) (lent : PlainLink) (old mid new : Pair) (room : EndState) → mid.driver ≡ old.driver → lent ≡ old.link → f ≡ false → g ≡ false → y ≡ x
    → new.link ≡ mid.link → new.window ≡ old.window → OnDrivers mid.driver new.driver (λ a b. b.client ≡ unlinked a.client)
    → OnDrivers mid.driver new.driver (λ a b. b.answers.items ≡ a.answers.items) → OnlyReserves (end_of x lent f) room → TellsFailed false room (end_of y mid.link g)
    → OnlyFrees false room (end_of y mid.link g) → AtPair FailsOnce old new
fail_acts f g x y lent old mid new room driver same first next names link window told noted ready tells rest = by mid.driver new.driver refl refl told noted
  where
    by : (o o' : Option Driver) → mid.driver ≡ o → new.driver ≡ o' → OnDrivers o o' (λ a b. b.client ≡ unlinked a.client) → OnDrivers o o' (λ a b. b.answers.items ≡ a.answers.items)
        → AtPair FailsOnce old new
    by (Some a) (Some b) was there client answers =
        shut_by f g x y lent old new a b room (sym driver ∙ was) there same first next names window client answers ready
        (subst (λ (l : PlainLink). TellsFailed false room (end_of y l g)) (sym link) tells) (subst (λ (l : PlainLink). OnlyFrees false room (end_of y l g)) (sym link) rest)
    by None None was there client answers = at_none FailsOnce old new (sym driver ∙ was) there
    by (Some a) None was there client answers = absurd client
    by None (Some b) was there client answers = absurd client
