-- A client and the records of its lines, between the steps of its lines: what its refusals are judged by.
use Rattle.std.specs.Prelude.{◌≡◌, ◌⊎◌, ℕ, ◌+◌, ◌≤◌, ◌<◌, Bool, true, false, not, All, List, [], ◌∷◌, ◌++◌, MatchOption, OnOk, Option, Some, None, Result, Ok, Err, length, min, ⊤}
use Rattle.std.specs.List.{Contains, slice_get}
use Rattle.vio_num.specs.declared.hypervisor.Moved.TheVariants.{Quiet}
use Rattle.vio_num.specs.declared.memory.NoMemory.{NoMemory}
use Rattle.boot_text.specs.declared.verb.Verb.{Verb}
use Rattle.unit_region.specs.declared.step.Step.{Step}
use Rattle.unit_region.specs.declared.step.Step.TheVariants as steps
use Rattle.vscsi_client.specs.State.{ClientState, next_tag}
use Rattle.vscsi_client.specs.declared.outgoing.Outgoing.{Outgoing}
use Rattle.boot_text.specs.declared.plan.Line.{Line}
use Rattle.crq_session.specs.PlainState.{side_of}
use Rattle.vcpu_run.specs.declared.pair.Pair.{Pair}
use Rattle.vcpu_run.specs.declared.unit_seat.Seat.{Seat}
use Rattle.vcpu_run.specs.declared.unit_seat.Seat.TheVariants as sits
use Rattle.vcpu_run.specs.Agreed.{OnDrivers, SameBeside}
use Rattle.vcpu_run.specs.declared.script.Progress.{Progress}
use Rattle.vcpu_run.specs.declared.script.Progress.TheVariants as progress
use Rattle.vcpu_run.specs.declared.taking.Took.{Took}
use Rattle.vcpu_run.specs.declared.taking.Took.TheVariants as tooks
use Rattle.vcpu_run.specs.Credited.{Ended, is_take, taken_in}
use Rattle.vcpu_run.specs.EventsMade.{PairMakes}
use Rattle.vcpu_run.specs.Freeing.{is_reset}
use Rattle.vcpu_run.specs.DropsShown.{PairShowsLine}
use Rattle.vcpu_run.specs.Refusals.{HasCausesTold, LoginNow, login_by, tags_told}
use Rattle.vcpu_run.specs.TakenScripts.{AllGive, PairHears, PairReads, PairTakes}
use Rattle.vcpu_run.specs.ValuesPut.{PairPuts}

-- the login that is on by records, one after the other
abbrev pub login_after : Option LoginNow → List Ended → Option LoginNow
login_after login [] = login
login_after login (ended ∷ more) = login_after (login_by ended.verb ended.outcome login) more

-- The client is logged in as the records tell, with as many outstanding as its requests and the answers that the current line took,
-- each of them under a tag that was sent since.
pub record AgreesOn (taken : ℕ) (s : ClientState) (l : LoginNow) : Type 0 where
  pub granted : s.granted ≡ Some (min l.granted 200)
  pub outstanding : l.outstanding ≡ length s.outgoing + taken
  pub within : length s.outgoing ≤ min l.granted 200
  pub asked : All (λ (o : Outgoing). Contains l.asked o.tag) s.outgoing

abbrev pub AgreesTold : (taken : ℕ) → Option LoginNow → ClientState → Type 0
AgreesTold taken login s = MatchOption login (s.granted ≡ None) (AgreesOn taken s)

-- whether the current line of a client freed its queue
abbrev pub is_freed : Progress → Bool
is_freed progress.Freed = true
is_freed _ = false

-- only a line that takes took something, and only one that resets freed the queue
pub record IsOf (verb : Verb) (p : Progress) : Type 0 where
  pub take : is_take verb ≡ false → taken_in p ≡ 0
  pub reset : is_reset verb ≡ false → is_freed p ≡ false

-- the queue under a login: it is registered, unless the line freed it
abbrev pub HasQueue : Progress → (registered : Bool) → Type 0
HasQueue p registered = registered ≡ not (is_freed p)

-- The refusals of the lines that ended have their causes, and the client agrees with the records, but while its line freed the queue:
-- then it forgot its login, or the queue is not registered yet.
pub record IsTold (pages : ℕ) (own : List Ended) (p : Progress) (registered : Bool) (s : ClientState) : Type 0 where
  pub law : HasCausesTold pages own
  pub below : All (λ tag. tag < next_tag s) (tags_told own)
  pub agrees : is_freed p ≡ false → AgreesTold (taken_in p) (login_after None own) s
  pub queue : (s.granted ≡ None) ⊎ HasQueue p registered

-- A client and its queue, and how far its current line came.
pub record Seated : Type 0 where
  pub client : ClientState
  pub progress : Progress
  pub registered : Bool

abbrev pub seated : ClientState → Progress → (registered : Bool) → Seated
seated client p registered = record { client = client; progress = p; registered = registered }

abbrev pub IsToldAt : (pages : ℕ) → List Ended → Seated → Type 0
IsToldAt pages own a = IsTold pages own a.progress a.registered a.client

-- the line ended
abbrev pub at_rest : Seated → Seated
at_rest a = record a { progress = progress.Fresh }

-- a step of a line keeps this
abbrev pub KeepsRecordsTold : (pages : ℕ) → Verb → Seated → Seated → Step → Type 0
KeepsRecordsTold pages verb a b (steps.Ends outcome) =
    (own : List Ended) → IsToldAt pages own a → IsToldAt pages (own ++ record { verb = verb; outcome = outcome } ∷ []) (at_rest b)
KeepsRecordsTold pages verb a b (steps.Waits did) = IsOf verb b.progress × ((own : List Ended) → IsToldAt pages own a → IsToldAt pages own b)

abbrev pub StepsTold : (pages : ℕ) → Verb → Seated → Seated → Result Step NoMemory → Type 0
StepsTold pages verb a b (Ok step) = IsOf verb a.progress → KeepsRecordsTold pages verb a b step
StepsTold pages verb a b (Err memory) = ⊤

-- granted and outstanding are as before, and no tag is used again
pub record SameTold (s s' : ClientState) : Type 0 where
  pub granted : s'.granted ≡ s.granted
  pub outgoing : s'.outgoing ≡ s.outgoing
  pub tags : next_tag s ≤ next_tag s'

-- An answer is one request less, and those that are left are some of before.
pub record TakesAnswer (s s' : ClientState) : Type 0 where
  pub granted : s'.granted ≡ s.granted
  pub one : length s.outgoing ≡ length s'.outgoing + 1
  pub asked : (tags : List ℕ) → All (λ (o : Outgoing). Contains tags o.tag) s.outgoing → All (λ (o : Outgoing). Contains tags o.tag) s'.outgoing
  pub tags : next_tag s ≤ next_tag s'

-- no login is on any more
pub record LosesLogin (s s' : ClientState) : Type 0 where
  pub granted : s'.granted ≡ None
  pub tags : next_tag s ≤ next_tag s'

-- what an entry that was taken leaves
abbrev pub TookTold : Took → ClientState → ClientState → Type 0
TookTold tooks.Answer s s' = TakesAnswer s s'
TookTold tooks.Lost s s' = LosesLogin s s'
TookTold _ s s' = SameTold s s'

-- a step of a line at a pair, where a client sits
abbrev pub PairTold : Verb → (p p' : Progress) → (old new : Pair) → Result Step NoMemory → Type 0
PairTold verb p p' old new result = OnDrivers old.driver new.driver (λ a b. StepsTold (length old.window.pages) verb
    (seated a.client p (side_of old.link false).registered) (seated b.client p' (side_of new.link false).registered) result)

-- A step of a line at one pair, and the others as they were.
pub record SeatTold (seat : ℕ) (line : Line) (p p' : Progress) (old new : List Pair) (result : Result Step NoMemory) : Type 0 where
  pub beside : SameBeside seat old new
  pub here : (before after : Pair) → slice_get old seat ≡ Some before → slice_get new seat ≡ Some after → PairTold line.verb p p' before after result
  pub takes : (before after : Pair) → slice_get old seat ≡ Some before → slice_get new seat ≡ Some after → PairTakes line.verb p p' before after result
  pub hears : (before after : Pair) → slice_get old seat ≡ Some before → slice_get new seat ≡ Some after → PairHears before after result
  pub reads : (before after : Pair) → slice_get old seat ≡ Some before → slice_get new seat ≡ Some after → PairReads line.verb before after result
  pub puts : (before after : Pair) → slice_get old seat ≡ Some before → slice_get new seat ≡ Some after → PairPuts line.verb before after result
  pub makes : (before after : Pair) → slice_get old seat ≡ Some before → slice_get new seat ≡ Some after → PairMakes line.verb p p' before after
  pub gives : OnOk result (AllGive old new)
  pub shows : (before after : Pair) → slice_get old seat ≡ Some before → slice_get new seat ≡ Some after → PairShowsLine line before after result

-- A step of a line at its unit: at the pair where a client sits, and at none where a port does.
pub record LineTold (seats : List Seat) (line : Line) (p p' : Progress) (old new : List Pair) (result : Result Step NoMemory) : Type 0 where
  pub client : (k : ℕ) → slice_get seats line.unit ≡ Some (sits.Client k) → SeatTold k line p p' old new result
  pub port : slice_get seats line.unit ≡ Some sits.Port → new ≡ old

-- a step that waits leaves no login on
abbrev pub LeavesOut : ClientState → Result Step NoMemory → Type 0
LeavesOut s (Ok (steps.Waits did)) = s.granted ≡ None
LeavesOut s _ = ⊤

-- a step of a reset that waits, and did nothing, leaves no login on
abbrev pub StepsOut : Verb → Seated → Seated → Result Step NoMemory → Type 0
StepsOut verb a b (Ok (steps.Waits Quiet)) = is_reset verb ≡ true → (a.client.granted ≡ None) ⊎ HasQueue a.progress a.registered → b.client.granted ≡ None
StepsOut verb a b _ = ⊤

abbrev pub PairOut : Verb → (p p' : Progress) → (old new : Pair) → Result Step NoMemory → Type 0
PairOut verb p p' old new result = OnDrivers old.driver new.driver (λ a b.
    StepsOut verb (seated a.client p (side_of old.link false).registered) (seated b.client p' (side_of new.link false).registered) result)

-- the same of the pair of a seat, and of the client of a line's unit
abbrev pub SeatOut : (seat : ℕ) → Verb → (p p' : Progress) → (old new : List Pair) → Result Step NoMemory → Type 0
SeatOut seat verb p p' old new result =
    (before after : Pair) → slice_get old seat ≡ Some before → slice_get new seat ≡ Some after → PairOut verb p p' before after result

abbrev pub LineOut : List Seat → Line → (p p' : Progress) → (old new : List Pair) → Result Step NoMemory → Type 0
LineOut seats line p p' old new result = (k : ℕ) → slice_get seats line.unit ≡ Some (sits.Client k) → SeatOut k line.verb p p' old new result
