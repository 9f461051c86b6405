-- What a call at a plain client's end leaves at its pair: the server unit's end stays, but for what it received, and what the client's
-- driver does goes on as the replay.
use Rattle.std.proofs.Common.{◌≡◌, ◌∙◌, ◌⊎◌, inl, inr, ℕ, ◌+◌, ◌≤◌, ◌++◌, ◌∷◌, append-nil, Bool, true, false, IsSomeAnd, List, [], Option, Some, None, OnOk, Result, Ok, Err, length, length-append, refl, sym, ap, subst, arith}
use Rattle.std.specs.Borrow.{GName}
use Rattle.vio_num.specs.declared.hypervisor.Moved.{Moved}
use Rattle.vio_num.specs.declared.hypervisor.Moved.TheVariants as moves
use Rattle.vio_num.specs.declared.memory.NoMemory.{NoMemory}
use Rattle.vio_num.specs.declared.entry.Entry.{Entry}
use Rattle.vio_num.specs.declared.names.UnitId.{UnitId}
use Rattle.vio_trace.specs.declared.rows.AnswerRow.{AnswerRow}
use Rattle.boot_text.specs.declared.verb.Verb.{Verb}
use Rattle.crq_ring.specs.declared.rows.PipeRow.{PipeRow}
use Rattle.crq_session.specs.PlainState.{end_of, side_of}
use Rattle.crq_session.specs.declared.link.PlainLink.{PlainLink}
use Rattle.tce_window.specs.PlainPort.{known_of}
use Rattle.tce_window.specs.PortState.{PortState}
use Rattle.block_server.specs.Talk.{Word}
use Rattle.block_server.specs.declared.unit.Unit.{Unit}
use Rattle.unit_region.specs.declared.step.Step.{Step}
use Rattle.unit_region.specs.declared.step.Step.TheVariants as steps
use Rattle.vcpu_run.specs.Agreed.{OnDrivers}
use Rattle.vcpu_run.specs.Pairs.{Drives}
use Rattle.vcpu_run.specs.PlainNoted.{NotesLaid}
use Rattle.vcpu_run.specs.PlainPairs.{between_of}
use Rattle.vcpu_run.specs.PlainScripts.{PairAsks, PairIs, PairNotes, PairPlainly, PairRestsPlainly, PairSteppedAs, PairTalks, answers_in, owes_at, owes_to, rows_in}
use Rattle.vcpu_run.specs.PlainSeated.{DriverPlainly, IsToldSince, own_in}
use Rattle.vcpu_run.specs.PlainSteps.{AsksAnew, FollowsReplay, HasCome, IsAsReplayed, RestsAs, RestsPlainly, StepsPlainly, granted_by, own_by}
use Rattle.vcpu_run.specs.PlainTalk.{AreSaidThere, Between, ServerStays, TalksPlainly, TookNoMore, owes}
use Rattle.vcpu_run.specs.Replay.{Replay, after_line}
use Rattle.vcpu_run.specs.declared.driver.Driver.{Driver}
use Rattle.vcpu_run.specs.declared.pair.Pair.{Pair}
use Rattle.vcpu_run.specs.declared.script.Progress.{Progress}
use Rattle.unit_region.specs.LinePuts.{StepPuts}
use Rattle.vcpu_run.proofs.PlainRights.{rights_put, rights_same}
use Rattle.vcpu_run.proofs.Driving.{some_is}
use Rattle.vcpu_run.proofs.PlainPaired.{took_on}
use Rattle.vcpu_run.proofs.PlainStill.{server_still}
use Rattle.vcpu_run.proofs.PlainAsking.{none_anew}
use Rattle.vcpu_run.proofs.PlainThrough.{come_through, follows_through, rests_through, steps_through, ends_through}
use Rattle.vcpu_run.proofs.PlainNotes.{notes_on}
use Rattle.vcpu_run.proofs.PlainTellings.{drives_stay, tells_told}

-- ---- the driver of a pair

pub driver_of : (P : Driver → Type 0) (o : Option Driver) → IsSomeAnd o P → (driver : Driver) × (o ≡ Some driver) × P driver
driver_of P (Some driver) is = (driver, refl, is)
driver_of P None is = absurd is

pub driver_behind : (P : Driver → Driver → Type 0) (o o' : Option Driver) (a : Driver) → o ≡ Some a → OnDrivers o o' P → (b : Driver) × (o' ≡ Some b) × P a b
driver_behind P (Some d) (Some b) a e is = (b, refl, subst (λ (x : Driver). P x b) (some_is d a e) is)
driver_behind P (Some d) None a e is = absurd is
driver_behind P None o' a e is = absurd (cc (e))

pub pair_is : (P : Between → Type 0) (pair : Pair) (driver : Driver) → pair.driver ≡ Some driver → ((unit : Unit) → P (between_of unit driver pair)) → PairIs P pair
pair_is P pair driver there is = subst (λ (o : Option Driver). IsSomeAnd o (λ driver. (unit : Unit) → P (between_of unit driver pair))) (sym there) is

pub pair_was : (P : Between → Type 0) (pair : Pair) (driver : Driver) → pair.driver ≡ Some driver → PairIs P pair → (unit : Unit) → P (between_of unit driver pair)
pair_was P pair driver there is = subst (λ (o : Option Driver). IsSomeAnd o (λ driver. (unit : Unit) → P (between_of unit driver pair))) there is

pub talks_at : (granted : ℕ) (unit : Unit) (words : List Word) (pair : Pair) (driver : Driver) → pair.driver ≡ Some driver → TalksPlainly granted (between_of unit driver pair) words
    → PairTalks granted unit words pair
talks_at granted unit words pair driver there is = subst (λ (o : Option Driver). IsSomeAnd o (λ driver. TalksPlainly granted (between_of unit driver pair) words)) (sym there) is

-- ---- the server unit's end

pub server_stays : (unit : Unit) (a b : Driver) (old new : Pair) → Drives old new → TookNoMore (end_of [] old.link true) → TookNoMore (end_of [] new.link false)
    → ServerStays (between_of unit a old) (between_of unit b new)
server_stays unit a b old new drives took own = record {
  unit = refl;
  session = drives.server_session;
  registered = drives.server_registered;
  kept = drives.event;
  taken = drives.server_taken;
  slots = drives.server_slots;
  ends = record {
    server_sees = record { partner = refl; session = refl; received = refl; taken = refl; slots = refl };
    own_sees = record { partner = refl; session = refl; received = refl; taken = refl; slots = refl };
    server_took = took_on (end_of [] old.link true) (end_of [] new.link true) drives.server_session drives.server_taken drives.puts.rows drives.puts.sent took;
    own_took = own;
  };
}

-- ---- nothing was put

same_front : (rows old new : List PipeRow) → new ≡ old ++ rows → length new ≤ length old → new ≡ old
same_front [] old new e less = e ∙ append-nil old
same_front (row ∷ rows) old new e less =
    let long : length new ≡ length old + length (row ∷ rows) = ap (λ (list : List PipeRow). length list) e ∙ length-append old (row ∷ rows) in
    absurd (omega (arith, long, less))

none_words : (window : PortState) (entries : List Entry) (words : List Word) → entries ≡ [] → AreSaidThere window entries words → words ≡ []
none_words window [] [] none said = refl
none_words window [] (word ∷ words) none said = absurd said
none_words window (entry ∷ entries) words none said = absurd (cc (none))

none_put : (granted : ℕ) (unit : Unit) (a b : Driver) (words : List Word) (old new : Pair) → Drives old new → TookNoMore (end_of [] new.link false)
    → length (side_of new.link true).queue.sent ≤ length (side_of old.link true).queue.sent → TalksPlainly granted (between_of unit a old) []
    → TalksPlainly granted (between_of unit b new) words → words ≡ []
none_put granted unit a b words old new drives own less before after =
    let sent = same_front drives.puts.rows (side_of old.link true).queue.sent (side_of new.link true).queue.sent drives.puts.sent less in
    none_words (known_of new.window) _ words
    (server_still granted (between_of unit a old) (between_of unit b new) before.calm (server_stays unit a b old new drives before.calm.ends.server_took own) sent) after.calm.said

-- ---- a step

-- What the driver's step leaves, at its pair.
record WentOn (granted : ℕ) (unit : Unit) (verb : Verb) (p : Progress) (now : Replay) (new : Pair) (step : Step) : Type 0 where
  driver : Driver
  there : new.driver ≡ Some driver
  words : List Word
  talks : TalksPlainly granted (between_of unit driver new) words
  replayed : IsAsReplayed granted verb p now (between_of unit driver new) words step

-- whatever the server unit is
follows_all : (granted : ℕ) (unit : Unit) (now : Replay) (pair : Pair) (driver : Driver) → pair.driver ≡ Some driver → FollowsReplay granted now (between_of unit driver pair)
    → PairIs (FollowsReplay granted now) pair
follows_all granted unit now pair driver there is =
    pair_is (FollowsReplay granted now) pair driver there
    (λ other. follows_through [] granted unit other (end_of [] pair.link true) (end_of [] pair.link true) now (own_in driver pair) is)

come_all : (granted : ℕ) (unit : Unit) (verb : Verb) (p : Progress) (now : Replay) (pair : Pair) (driver : Driver) → pair.driver ≡ Some driver
    → HasCome granted verb p now (between_of unit driver pair) → PairIs (HasCome granted verb p now) pair
come_all granted unit verb p now pair driver there is =
    pair_is (HasCome granted verb p now) pair driver there
    (λ other. come_through [] granted unit other (end_of [] pair.link true) (end_of [] pair.link true) verb p now (own_in driver pair) is)

-- it is told as it is, or as one that did something
step_told : (granted : ℕ) (unit : Unit) (verb : Verb) (p : Progress) (now : Replay) (new : Pair) (step told : Step) (went : WentOn granted unit verb p now new step)
    → (told ≡ step) ⊎ ((step ≡ steps.Waits moves.Quiet) × (told ≡ steps.Waits moves.Moved)) → (told ≡ steps.Waits moves.Quiet → went.words ≡ [])
    → PairSteppedAs granted unit verb p now new went.words told
step_told granted unit verb p now new step (steps.Ends outcome) went (inl e) quiet =
    let is = subst (IsAsReplayed granted verb p now (between_of unit went.driver new) went.words) (sym e) went.replayed in
    (is.0, follows_all granted unit (after_line granted (length new.window.pages) now verb) new went.driver went.there is.1)
step_told granted unit verb p now new step (steps.Ends outcome) went (inr (e, e')) quiet = absurd (cc (e'))
step_told granted unit verb p now new step (steps.Waits did) went (inl e) quiet =
    let is = subst (IsAsReplayed granted verb p now (between_of unit went.driver new) went.words) (sym e) went.replayed in
    (come_all granted unit verb p now new went.driver went.there is.0, is.1, λ none. quiet (ap steps.Waits none))
step_told granted unit verb p now new step (steps.Waits did) went (inr (e, e')) quiet =
    let is = subst (IsAsReplayed granted verb p now (between_of unit went.driver new) went.words) e went.replayed in
    (come_all granted unit verb p now new went.driver went.there is.0, is.1, λ none. quiet (ap steps.Waits none))

-- what the client is owed
pub owes_there : (unit : Unit) (words : List Word) (pair : Pair) (driver : Driver) → pair.driver ≡ Some driver → owes_at unit words pair ≡ owes (between_of unit driver pair) words
owes_there unit words pair driver there = ap (λ (o : Option Driver). owes_to unit words o pair) there

told_same : (step told : Step) → (told ≡ step) ⊎ ((step ≡ steps.Waits moves.Quiet) × (told ≡ steps.Waits moves.Moved)) → granted_by told ≡ granted_by step
told_same step told (inl same) = ap granted_by same
told_same step told (inr (waits, waits')) = ap granted_by waits' ∙ sym (ap granted_by waits)

-- what the client asked
asks_at : (words : List Word) (old new : Pair) (a b : Driver) → old.driver ≡ Some a → new.driver ≡ Some b → AsksAnew (length a.client.rows) b.client words
    → PairAsks (rows_in old.driver) words new
asks_at words old new a b was there is =
    subst (λ (o : Option Driver). IsSomeAnd o (λ driver. AsksAnew (rows_in old.driver) driver.client words)) (sym there)
    (subst (λ (o : Option Driver). AsksAnew (rows_in o) b.client words) (sym was) is)

-- what it noted
notes_at : (old new : Pair) (a b : Driver) → old.driver ≡ Some a → new.driver ≡ Some b → NotesLaid new.window.unit (known_of new.window).strokes a.answers.items b.answers.items
    → PairNotes (answers_in old.driver) new
notes_at old new a b was there is =
    subst (λ (o : Option Driver). NotesLaid new.window.unit (known_of new.window).strokes (answers_in old.driver) (answers_in o)) (sym there)
    (subst (λ (o : Option Driver). NotesLaid new.window.unit (known_of new.window).strokes (answers_in o) b.answers.items) (sym was) is)

-- behind what it had noted
notes_through : (old new : Pair) (a b : Driver) → old.driver ≡ Some a → new.driver ≡ Some b → Drives old new → (before : List AnswerRow) → PairNotes before old
    → NotesLaid new.window.unit (known_of new.window).strokes a.answers.items b.answers.items → PairNotes before new
notes_through old new a b was there drives before first next =
    notes_on new.window.unit (known_of old.window).strokes (known_of new.window).strokes before (answers_in old.driver) (answers_in new.driver) (drives_stay old new drives)
    (subst (λ (own : UnitId). NotesLaid own (known_of old.window).strokes before (answers_in old.driver)) (sym drives.unit) first) (notes_at old new a b was there next)

pub pair_plainly : (verb : Verb) (p p' : Progress) (before after taken taken' : ℕ) (old new : Pair) (step told : Step) → Drives old new → before ≡ length (side_of old.link true).queue.sent
    → after ≡ length (side_of new.link true).queue.sent → TookNoMore (end_of [] new.link false) → IsToldSince before after taken taken' step told → StepPuts verb step (known_of old.window).values (known_of new.window).values
    → DriverPlainly verb p p' old new (Ok step)
    → PairPlainly verb p p' old new (Ok told)
pair_plainly verb p p' before after taken taken' old new step told drives first next own since puts is plain granted unit now spares talks come =
    let (a, was, talk) = driver_of (λ driver. TalksPlainly granted (between_of unit driver old) []) old.driver talks in
    let (b, there, steps_on) = driver_behind (λ a b. StepsPlainly verb p p' (own_in a old) (own_in b new) (Ok step)) old.driver new.driver a was is in
    let on = steps_on plain granted unit (end_of [] old.link true) (end_of [] new.link true) now spares
    (server_stays unit a b old new drives talk.calm.ends.server_took own) talk (pair_was (HasCome granted verb p now) old a was come unit) in
    let went : WentOn granted unit verb p' now new step = record { driver = b; there = there; words = on.words; talks = on.talks; replayed = on.replayed } in
    record {
      words = on.words;
      talks = talks_at granted unit on.words new b there on.talks;
      anew = asks_at on.words old new a b was there on.anew;
      told = omega (arith, on.told, told_same step told since.same, owes_there unit on.words new b there, owes_there unit [] old a was);
      laid = tells_told verb step told unit.id (known_of new.window).strokes since.same on.laid;
      noted = notes_at old new a b was there on.noted;
      rights = λ keeps. rights_put verb step (known_of old.window) (known_of new.window) keeps puts;
      stepped = step_told granted unit verb p' now new step told went since.same
          (λ quiet. none_put granted unit a b on.words old new drives own (subst (λ n. n ≤ length (side_of old.link true).queue.sent) next
          (subst (λ n. after ≤ n) first (since.quiet quiet).0)) talk on.talks);
    }

-- the end that was lent is the pair's again
pub driver_plainly : (f g : Bool) (x y : List GName) (lent : PlainLink) (old new : Pair) (a b : Driver) (verb : Verb) (p p' : Progress) (result : Result Step NoMemory)
    → old.driver ≡ Some a → new.driver ≡ Some b → lent ≡ old.link → f ≡ false → g ≡ false
    → StepsPlainly verb p p' (own_by a.client a.answers.items (end_of x lent f) (known_of old.window)) (own_by b.client b.answers.items (end_of y new.link g) (known_of new.window)) result
    → DriverPlainly verb p p' old new result
driver_plainly f g x y lent old new a b verb p p' result was there same first next is =
    subst (λ (o : Option Driver). OnDrivers o new.driver (λ a b. StepsPlainly verb p p' (own_in a old) (own_in b new) result)) (sym was)
    (subst (λ (o : Option Driver). OnDrivers (Some a) o (λ a b. StepsPlainly verb p p' (own_in a old) (own_in b new) result)) (sym there)
    (steps_through x y [] [] verb p p' (own_in a old) (own_in b new) result
    (subst (λ (l : PlainLink). StepsPlainly verb p p' (own_by a.client a.answers.items (end_of x l false) (known_of old.window)) (own_by b.client b.answers.items (end_of y new.link false) (known_of new.window)) result) same
    (subst (λ (d : Bool). StepsPlainly verb p p' (own_by a.client a.answers.items (end_of x lent d) (known_of old.window)) (own_by b.client b.answers.items (end_of y new.link false) (known_of new.window)) result) first
    (subst (λ (d : Bool). StepsPlainly verb p p' (own_by a.client a.answers.items (end_of x lent f) (known_of old.window)) (own_by b.client b.answers.items (end_of y new.link d) (known_of new.window)) result) next is)))))

-- ---- taking all the rest

rests_all : (granted : ℕ) (unit : Unit) (now : Replay) (pair : Pair) (driver : Driver) → pair.driver ≡ Some driver → RestsAs granted now (between_of unit driver pair)
    → PairIs (RestsAs granted now) pair
rests_all granted unit now pair driver there is =
    pair_is (RestsAs granted now) pair driver there
    (λ other. ends_through [] granted unit other (end_of [] pair.link true) (end_of [] pair.link true) now (own_in driver pair) is)

pub pair_rests : (f g : Bool) (x y : List GName) (lent : PlainLink) (old new : Pair) (a b : Driver) (result : Result Moved NoMemory) → old.driver ≡ Some a → new.driver ≡ Some b
    → lent ≡ old.link → f ≡ false → g ≡ false → Drives old new → TookNoMore (end_of [] new.link false)
    → RestsPlainly (own_by a.client a.answers.items (end_of x lent f) (known_of old.window)) (own_by b.client b.answers.items (end_of y new.link g) (known_of new.window)) result
    → (known_of new.window).values ≡ (known_of old.window).values → OnOk result (PairRestsPlainly old new)
pair_rests f g x y lent old new a b (Err memory) was there same first next drives own is values = tt
pair_rests f g x y lent old new a b (Ok moved) was there same first next drives own is values = λ granted unit now talks follows.
    let talk : TalksPlainly granted (between_of unit a old) [] =
    subst (λ (o : Option Driver). IsSomeAnd o (λ driver. TalksPlainly granted (between_of unit driver old) [])) was talks in
    let rests : RestsPlainly (own_in a old) (own_in b new) (Ok moved) =
    rests_through x y [] [] (own_in a old) (own_in b new) (Ok moved)
    (subst (λ (l : PlainLink). RestsPlainly (own_by a.client a.answers.items (end_of x l false) (known_of old.window)) (own_by b.client b.answers.items (end_of y new.link false) (known_of new.window)) (Ok moved)) same
    (subst (λ (d : Bool). RestsPlainly (own_by a.client a.answers.items (end_of x lent d) (known_of old.window)) (own_by b.client b.answers.items (end_of y new.link false) (known_of new.window)) (Ok moved)) first
    (subst (λ (d : Bool). RestsPlainly (own_by a.client a.answers.items (end_of x lent f) (known_of old.window)) (own_by b.client b.answers.items (end_of y new.link d) (known_of new.window)) (Ok moved)) next is))) in
    let before : RestsAs granted now (between_of unit a old) = pair_was (RestsAs granted now) old a was follows unit in
    let (talk', later, tag, left, notes) = rests granted unit (end_of [] old.link true) (end_of [] new.link true) now
    (server_stays unit a b old new drives talk.calm.ends.server_took own) talk before in (
      talks_at granted unit [] new b there talk',
      asks_at [] old new a b was there (none_anew a.client b.client (omega (arith, tag))),
      later,
      rests_all granted unit later new b there left,
      (λ before first. notes_through old new a b was there drives before first notes),
      rights_same (known_of old.window) (known_of new.window) values,
    )

-- what is so of a step that says it did nothing as of one that did something is so of a step as it is told
pub since_keeps : (P : Step → Type 0) (put put' taken taken' : ℕ) (step told : Step) → (P (steps.Waits moves.Quiet) → P (steps.Waits moves.Moved)) → IsToldSince put put' taken taken' step told → P step → P told
since_keeps P put put' taken taken' step told same since is = by since.same
  where
    by : (told ≡ step) ⊎ ((step ≡ steps.Waits moves.Quiet) × (told ≡ steps.Waits moves.Moved)) → P told
    by (inl e) = subst P (sym e) is
    by (inr (e, e')) = subst P (sym e') (same (subst P e is))
