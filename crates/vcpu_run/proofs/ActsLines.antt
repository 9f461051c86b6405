-- What a step of each line does at its client.
use Rattle.std.proofs.Common.{◌≡◌, ◌≢◌, ◌↔◌, ◌∙◌, inl, inr, ℕ, false, List, None, Some, Result, Ok, Err, IfErr, IfOk, IfSome, IsErrOf, length, refl, sym, ap, subst}
use Rattle.std.specs.List.{sum}
use Rattle.vio_num.specs.declared.hypervisor.Moved.{Moved}
use Rattle.vio_num.specs.declared.hypervisor.Moved.TheVariants as moves
use Rattle.vio_num.specs.declared.memory.NoMemory.{NoMemory}
use Rattle.boot_text.specs.declared.verb.Verb.{Verb}
use Rattle.crq_session.specs.Answered.{FindsInUse, TellsFreed}
use Rattle.crq_session.specs.EndState.{EndState, OnlyFrees, OnlyReserves}
use Rattle.tce_window.specs.PortState.{OnlyReads, OnlyWrites}
use Rattle.unit_region.specs.Answers.{AnswersPut, AnswersRead, AnswersWrite}
use Rattle.unit_region.specs.Kept.{KeepsWindow}
use Rattle.unit_region.specs.Marks.{LaysJust, LaysNoStroke}
use Rattle.unit_region.specs.declared.step.Step.{Step}
use Rattle.unit_region.specs.declared.step.Step.TheVariants as steps
use Rattle.vio_trace.specs.declared.outcome.Outcome.TheVariants as outcomes
use Rattle.vscsi_client.specs.Transferred.{GivesData, WhyNoData, data_range, name_of}
use Rattle.vscsi_client.specs.Turned.{unlinked}
use Rattle.vscsi_client.specs.declared.answers.DataFault.{DataFault}
use Rattle.vscsi_client.specs.declared.answers.DataFault.TheVariants as faults
use Rattle.vcpu_run.specs.Acts.{Acting, ActsFor, LogsInOnce, PutsValue, ReadsRegion, ReadsData, ResetsOnce, SaysData, ShowsRegion, StaysAside, WritesRegion, with_room}
use Rattle.vcpu_run.specs.declared.script.Progress.{Progress}
use Rattle.vcpu_run.specs.declared.script.Progress.TheVariants as progress

-- under the line's own number and verb
pub acts_as : (line mark : ℕ) (verb kind : Verb) (p p' : Progress) (old new : Acting) (result : Result Step NoMemory) → mark ≡ line → verb ≡ kind
    → IfOk result (ActsFor mark kind p p' old new) → IfOk result (ActsFor line verb p p' old new)
acts_as line mark verb kind p p' old new result marked is acts =
    subst (λ (n : ℕ). IfOk result (ActsFor n verb p p' old new)) marked (subst (λ (v : Verb). IfOk result (ActsFor mark v p p' old new)) (sym is) acts)

-- a reset whose queue was freed before
pub renews_acts : (line : ℕ) (p : Progress) (old new : Acting) (result : Result Step NoMemory) → p ≡ progress.Freed → IfOk result (LogsInOnce line old new)
    → IfOk result (ResetsOnce line p p old new)
renews_acts line p old new (Ok step) freed logs = inl (freed, logs, freed)
renews_acts line p old new (Err memory) freed logs = tt

-- one that frees it
pub frees_acts : (line : ℕ) (p : Progress) (old new : Acting) (room : EndState) → p ≢ progress.Freed → OnlyReserves old.ports.crq room
    → TellsFreed old.ports.crq_shared room new.ports.crq → OnlyFrees old.ports.crq_shared room new.ports.crq → new.ports.own ≡ old.ports.own
    → new.client ≡ unlinked old.client → new.answers ≡ old.answers → ResetsOnce line p progress.Freed old new (steps.Waits moves.Moved)
frees_acts line p old new room unfreed ready tells rest own client answers = inr (
  unfreed,
  inl (record { room = room; ready = ready; tells = tells; rest = rest; own = own; client = client; answers = answers }, refl, refl),
)

-- one that finds it free
pub free_acts : (line : ℕ) (p : Progress) (old new : Acting) (room : EndState) (result : Result Step NoMemory) → p ≢ progress.Freed → OnlyReserves old.ports.crq room
    → room.registered ≡ false → IfOk result (LogsInOnce line (with_room room old) new) → IfOk result (ResetsOnce line p progress.Freed old new)
free_acts line p old new room (Ok step) unfreed ready unregistered logs = inr (unfreed, inr (inl (record { room = room; ready = ready; unregistered = unregistered; logs = logs }, refl)))
free_acts line p old new room (Err memory) unfreed ready unregistered logs = tt

-- one that finds a sender in it
pub used_acts : (line : ℕ) (p : Progress) (old new : Acting) (room : EndState) (word : ℕ) (did : Moved) → p ≢ progress.Freed → OnlyReserves old.ports.crq room
    → FindsInUse old.ports.crq_shared room new.ports.crq word → OnlyFrees old.ports.crq_shared room new.ports.crq → new.ports.own ≡ old.ports.own
    → new.client ≡ old.client → new.answers ≡ old.answers → ResetsOnce line p p old new (steps.Waits did)
used_acts line p old new room word did unfreed ready used rest own client answers = inr (
  unfreed,
  inr (inr (
    record { room = room; ready = ready; word = word; used = used; rest = rest; own = own; client = record { client = client; answers = answers } },
    refl,
    tt,
  )),
)

-- lines in the own region
pub writes_acts : (line at : ℕ) (bytes : List ℕ) (old new : Acting) (result : Result Step NoMemory) → StaysAside old new → OnlyWrites old.ports.own new.ports.own
    → LaysJust old.ports.own_shared old.ports.own new.ports.own line (Some (record { at = at; bytes = bytes })) result
    → IfOk result (AnswersWrite old.ports.own_shared old.ports.own new.ports.own at bytes line) → IfOk result (WritesRegion line at bytes old new)
writes_acts line at bytes old new (Ok step) aside rest lays says = record { aside = aside; rest = rest; lays = lays; says = says }
writes_acts line at bytes old new (Err memory) aside rest lays says = tt

pub puts_acts : (entry value : ℕ) (old new : Acting) (result : Result Step NoMemory) → StaysAside old new → KeepsWindow old.ports.own_shared old.ports.own new.ports.own
    → LaysNoStroke old.ports.own_shared old.ports.own new.ports.own → IfOk result (AnswersPut old.ports.own new.ports.own entry value) → IfOk result (PutsValue entry value old new)
puts_acts entry value old new (Ok step) aside window lays says = record { aside = aside; window = window; lays = lays; says = says }
puts_acts entry value old new (Err memory) aside window lays says = tt

pub shows_acts : (at len : ℕ) (old new : Acting) (result : Result Step NoMemory) → StaysAside old new → OnlyReads old.ports.own_shared old.ports.own new.ports.own
    → IfOk result (AnswersRead old.ports.own new.ports.own at len) → IfOk result (ShowsRegion at len old new)
shows_acts at len old new (Ok step) aside rest says = record { reads = record { aside = aside; rest = rest }; says = says }
shows_acts at len old new (Err memory) aside rest says = tt

-- the client and its queue are not named by such a call
pub stays_aside : (old : Acting) (new : Acting) → new.client ≡ old.client → new.answers ≡ old.answers → new.ports.crq ≡ old.ports.crq → StaysAside old new
stays_aside old new client answers crq = record { client = record { client = client; answers = answers }; crq = crq }

pub reads_acts : (old new : Acting) → new.client ≡ old.client → new.answers ≡ old.answers → new.ports.crq ≡ old.ports.crq → OnlyReads old.ports.own_shared old.ports.own new.ports.own
    → ReadsRegion old new
reads_acts old new client answers crq rest = record { aside = stays_aside old new client answers crq; rest = rest }

-- what a line says of a command's data
pub data_said : (bytes : List ℕ) (len total : ℕ) → len ≡ length bytes → total ≡ sum bytes → steps.Ends (outcomes.Data len total) ≡ steps.Ends (outcomes.Data (length bytes) (sum bytes))
data_said bytes len total long adds = ap (λ (n : ℕ). steps.Ends (outcomes.Data n total)) long ∙ ap (λ (n : ℕ). steps.Ends (outcomes.Data (length bytes) n)) adds

pub data_acts : (tag : ℕ) (old new : Acting) (answer fault : Result (List ℕ) DataFault) (step : Step) → ReadsRegion old new → IsErrOf answer faults.Unknown ↔ (data_range old.client tag ≡ None)
    → IfOk answer (λ bytes. IfSome (data_range old.client tag) (λ range. GivesData (name_of old.client tag) old.ports.own_shared range old.ports.own new.ports.own bytes))
    → IfErr answer (WhyNoData (name_of old.client tag) old.ports.own_shared (data_range old.client tag) old.ports.own new.ports.own) → answer ≡ fault → SaysData fault step
    → ReadsData tag old new step
data_acts tag old new answer fault step reads unknown given why is says =
    record { reads = reads; answer = answer; unknown = unknown; given = given; why = why; says = subst (λ (r : Result (List ℕ) DataFault). SaysData r step) (sym is) says }
