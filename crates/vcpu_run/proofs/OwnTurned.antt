-- A turn of a script leads each of its own clients from behind its server unit's turn to before the next.
use Rattle.std.proofs.Common.{◌≡◌, ◌∙◌, ◌⊎◌, inl, inr, ℕ, Bool, false, true, IfSome, List, [], ◌∷◌, Option, Some, None, refl, sym, ap, subst, slice_get}
use Rattle.std.specs.Borrow.{GName}
use Rattle.boot_text.specs.declared.plan.Line.{Line}
use Rattle.boot_text.specs.declared.verb.Verb.{Verb}
use Rattle.unit_region.specs.declared.step.Step.{Step}
use Rattle.vio_num.specs.declared.hypervisor.Moved.{Moved}
use Rattle.crq_ring.specs.declared.rows.PipeRow.{PipeRow}
use Rattle.crq_session.specs.PlainState.{end_of}
use Rattle.vio_trace.specs.declared.rows.AnswerRow.{AnswerRow}
use Rattle.vscsi_client.specs.State.{ClientState}
use Rattle.block_server.specs.declared.unit.Unit.{Unit}
use Rattle.vcpu_run.specs.Acts.{Acting, ActsFor, TakesRest}
use Rattle.vcpu_run.specs.ActsAt.{AtPair, FailsOnce, GoesBy, Leads, LeadsOver, PushesEvent, TurnActs, acting_at}
use Rattle.vcpu_run.specs.Agreed.{OnDrivers}
use Rattle.vcpu_run.specs.Credited.{Ended}
use Rattle.vcpu_run.specs.Machines.{server_id}
use Rattle.vcpu_run.specs.NotedOn.{AllKeepNoted, KeepsNoted}
use Rattle.vcpu_run.specs.OwnCounts.{IsLogoutDone, LieBehind}
use Rattle.vcpu_run.specs.OwnKinds.{KeepsKinds}
use Rattle.vcpu_run.specs.OwnPairs.{IsOverOwn, IsOwnPair, IsReadyOwnPair, TalksOwn}
use Rattle.vcpu_run.specs.OwnRuns.{IsOwnSeat}
use Rattle.vcpu_run.specs.OwnServes.{TurnsOwn}
use Rattle.vcpu_run.specs.OwnTurned.{OverOrTalks}
use Rattle.vcpu_run.specs.PlainBorne.{rows_by}
use Rattle.vcpu_run.specs.PlainPairs.{ServerBooks}
use Rattle.vcpu_run.specs.PlainScripts.{PairNotes, PairTalksOn, answers_in, told_in}
use Rattle.vcpu_run.specs.Scripts.{IsScript, OnlyRuns}
use Rattle.vcpu_run.specs.Works.{fails}
use Rattle.vcpu_run.specs.declared.driver.Driver.{Driver}
use Rattle.vcpu_run.specs.declared.pair.Pair.{Pair}
use Rattle.vcpu_run.specs.declared.script.Progress.{Progress}
use Rattle.vcpu_run.specs.declared.script.Script.{Script}
use Rattle.vcpu_run.proofs.Driving.{drives_on}
use Rattle.vcpu_run.proofs.Listed.{held_is, is_held}
use Rattle.vcpu_run.proofs.OwnBehind.{behind_acts, behind_fails, behind_rests}
use Rattle.vcpu_run.proofs.OwnKinds.{kinds_acts, kinds_fails, kinds_rests}
use Rattle.vcpu_run.proofs.OwnLogouts.{logout_acts, logout_fails, logout_rests}
use Rattle.vcpu_run.proofs.OwnTurnEvents.{over_events}
use Rattle.vcpu_run.proofs.OwnTurnKept.{kept_turned}
use Rattle.vcpu_run.proofs.OwnTurnNotes.{notes_turned}
use Rattle.vcpu_run.proofs.OwnTurnPlain.{TurnedIn, talks_turned, tells_on}
use Rattle.vcpu_run.proofs.OwnTurnSeats.{AtSeat, DoesElse, DoesFail, DoesOwn, SeatDoes, at_seat, seat_does}
use Rattle.vcpu_run.proofs.OwnTurnTalks.{pushed_own}
use Rattle.vcpu_run.proofs.OwnTurnedOver.{StandsIn, TurnedOver, acts_there, does_turned}
use Rattle.vcpu_run.proofs.PortBytes.{no_call}

-- ---- what lines keep of a client

-- where its commands' data lie, that it awaits no logout while it knows of a login, and of which kinds its tags are
abbrev IsKept : List PipeRow → ClientState → List AnswerRow → Type 0
IsKept sent s noted = LieBehind s.rows × IsLogoutDone s × KeepsKinds s noted sent

abbrev ActsKept : List PipeRow → Acting → Type 0
ActsKept sent a = IsKept sent a.client a.answers

acts_keep : (sent : List PipeRow) (line : ℕ) (verb : Verb) (p p' : Progress) (old new : Acting) (step : Step) → ActsFor line verb p p' old new step → ActsKept sent old → ActsKept sent new
acts_keep sent line verb p p' old new step acts is =
    (behind_acts line verb p p' old new step acts is.0, logout_acts line verb p p' old new step acts is.1, kinds_acts sent line verb p p' old new step acts is.2)

fails_keep : (sent : List PipeRow) (old new : Acting) → FailsOnce old new → ActsKept sent old → ActsKept sent new
fails_keep sent old new fails is = (behind_fails old new fails is.0, logout_fails old new fails is.1, kinds_fails sent old new fails is.2)

rests_keep : (sent : List PipeRow) (old new : Acting) → TakesRest old new → ActsKept sent old → ActsKept sent new
rests_keep sent old new rests is = (behind_rests old new rests is.0, logout_rests old new rests is.1, kinds_rests sent old new rests is.2)

-- so is it of the client of a pair, if it has one
abbrev KeptAt : List PipeRow → Option Driver → Type 0
KeptAt sent o = IfSome o (λ driver. IsKept sent driver.client driver.answers.items)

at_keeps : (sent : List PipeRow) (P : Acting → Acting → Type 0) → ((old new : Acting) → P old new → ActsKept sent old → ActsKept sent new) → (old new : Pair) → AtPair P old new
    → KeptAt sent old.driver → KeptAt sent new.driver
at_keeps sent P keeps old new did is = by old.driver new.driver did is
  where
    by : (o o' : Option Driver) → OnDrivers o o' (λ a b. (lenders : List GName) × P (acting_at lenders a old) (acting_at lenders b new)) → KeptAt sent o → KeptAt sent o'
    by (Some a) (Some b) (lenders, one) kept = keeps (acting_at lenders a old) (acting_at lenders b new) one kept
    by None None one kept = tt
    by (Some a) None one kept = absurd one
    by None (Some b) one kept = absurd one

leads_keep : (sent : List PipeRow) (P : Acting → Acting → Type 0) → ((old new : Acting) → P old new → ActsKept sent old → ActsKept sent new) → (over : List Pair) (old new : Pair) → LeadsOver P over old new
    → KeptAt sent old.driver → KeptAt sent new.driver
leads_keep sent P keeps [] old new same kept = subst (λ (pair : Pair). KeptAt sent pair.driver) (sym same) kept
leads_keep sent P keeps (next ∷ over) old new did kept = leads_keep sent P keeps over next new did.1 (at_keeps sent P keeps old next did.0 kept)

does_keep : (sent : List PipeRow) (u : ℕ) (middle after : Pair) (script script' : Script) → SeatDoes u middle after script script' → KeptAt sent middle.driver → KeptAt sent after.driver
does_keep sent u middle after script script' (inl rests) kept = leads_keep sent TakesRest (rests_keep sent) rests.acts.over middle after rests.acts.leads kept
does_keep sent u middle after script script' (inr does) kept = by does.how
  where
    by : DoesFail does.line middle after script script'
        ⊎ ((fails does.line.verb ≡ false) × (DoesOwn u does.line middle after script script' ⊎ DoesElse u does.line middle after script script')) → KeptAt sent after.driver
    by (inl gone) = leads_keep sent FailsOnce (fails_keep sent) gone.acts.over middle after gone.acts.leads kept
    by (inr (goes, inl own)) =
        at_keeps sent (λ a b. ActsFor does.line.number does.line.verb script.progress own.progress a b own.step)
        (λ a b. acts_keep sent does.line.number does.line.verb script.progress own.progress a b own.step) middle after own.acts kept
    by (inr (goes, inr other)) = subst (λ (pair : Pair). KeptAt sent pair.driver) (sym other.same) kept

-- what it knew of data is noted
goes_note : (u k : ℕ) (went : Moved) (mid new : List Pair) (script script' : Script) → IsOwnSeat script u k → GoesBy went (slice_get script.lines.now script.at) mid new script script' → AllKeepNoted mid new
goes_note u k went mid new script script' seat = by (slice_get script.lines.now script.at) refl
  where
    by : (o : Option Line) → slice_get script.lines.now script.at ≡ o → GoesBy went o mid new script script' → AllKeepNoted mid new
    by None e is = is.2
    by (Some line) e is = at (fails line.verb) refl
      where
        at : (b : Bool) → fails line.verb ≡ b → AllKeepNoted mid new
        at true failing = (is.failing failing).keeps
        at false goes = (is.going goes (no_call script line e seat.own.no_call)).keeps

-- ---- behind the events

-- the two talk on, or the session is over still
behind_events : (granted : ℕ) (failed : Bool) (told : List Ended) (lines : List Line) (home u k : ℕ) (books : ServerBooks) (line : Option Line) (p : Progress) (unit : Unit) (a : Driver)
    (old new : List Pair) (mid : List Pair) → (at : AtSeat old mid new k) → at.before.driver ≡ Some a → Leads PushesEvent at.before at.middle → PairTalksOn at.before at.middle
    → TalksOwn granted told lines home u k books [] line p unit a at.before ⊎ IsOverOwn granted failed told home u k books line p unit a at.before
    → TalksOwn granted told lines home u k books [] line p unit a at.middle ⊎ IsOverOwn granted failed told home u k books line p unit a at.middle
behind_events granted failed told lines home u k books line p unit a old new mid at was leads on (inl talks) =
    inl (pushed_own granted told lines home u k books line p unit a at.before at.middle was at.client.driver at.client.queue on talks)
behind_events granted failed told lines home u k books line p unit a old new mid at was leads on (inr over) =
    inr (over_events granted failed told home u k books line p unit a a at.before at.middle was (at.client.driver ∙ was) at.pushed leads over)

-- ---- what is done behind them

over_in : (granted : ℕ) (failed : Bool) (home u k : ℕ) (books : ServerBooks) (unit : Unit) (a b : Driver) (middle after : Pair) (script script' : Script)
    → StandsIn granted failed home u k books unit a b middle after script script' → SeatDoes u middle after script script' → TurnedIn granted home u k books unit middle after script script'
over_in granted failed home u k books unit a b middle after script script' is does = record {
  failed = turned.failed;
  words = [];
  driver = b;
  driver_is = is.there;
  how = subst (λ (lines : List Line). OverOrTalks granted turned.failed (told_in u script') lines home u k books (slice_get lines script'.at) script'.progress unit b after)
      (ap (λ l. l.now) is.runs.lines) turned.how;
  tells = λ all. turned.tells (tells_on (server_id home k) (told_in u script) middle after is.drives all);
  numbers = turned.numbers;
  notes = notes_turned granted failed home u k books unit a b middle after script script' is does;
}
  where
    turned : TurnedOver granted home u k books unit b after (told_in u script) script'
    turned = does_turned granted failed home u k books unit a b middle after script script' is does

-- ---- at its pair

turned_pair : (granted : ℕ) (failed : Bool) (home u k : ℕ) (books : ServerBooks) (did : Moved) (old new : List Pair) (script script' : Script) → IsScript old script → OnlyRuns script script'
    → (acts : TurnActs did old new script script') → IsOwnSeat script u k → (at : AtSeat old acts.pairs new k)
    → IsOwnPair granted failed (told_in u script) script.lines.now home u k books [] (slice_get script.lines.now script.at) script.progress at.before
    → IsReadyOwnPair granted (told_in u script') script.lines.now home u k books (slice_get script.lines.now script'.at) script'.progress at.after
turned_pair granted failed home u k books did old new script script' are runs acts seat at is = inl (
  turned.failed,
  turned.words,
  record {
    unit = is.unit;
    there = is.there;
    id = is.id;
    driver = turned.driver;
    driver_is = turned.driver_is;
    how = turned.how;
    keeps = kept_turned (told_in u script) (told_in u script') (server_id home k) (rows_by (server_id home k) books.rows) is.driver turned.driver at.before at.after is.driver_is turned.driver_is
        (drives_on at.before at.middle at.after at.pushed at.goes) notes
        (subst (λ (o : Option Driver). PairNotes (answers_in o) at.after) at.client.driver turned.notes)
        (turned.tells (tells_on (server_id home k) (told_in u script) at.before at.middle at.pushed is.keeps.laid)) kept.0 kept.1 kept.2 is.keeps;
    numbers = turned.numbers is.numbers;
  },
)
  where
    m_is : at.middle.driver ≡ Some is.driver
    m_is = at.client.driver ∙ is.driver_is

    does : SeatDoes u at.middle at.after script script'
    does = seat_does u k acts.went at.middle at.after old acts.pairs new script script' are seat at.there at.here acts.goes

    by : TalksOwn granted (told_in u script) script.lines.now home u k books [] (slice_get script.lines.now script.at) script.progress is.unit is.driver at.middle
        ⊎ IsOverOwn granted failed (told_in u script) home u k books (slice_get script.lines.now script.at) script.progress is.unit is.driver at.middle
        → TurnedIn granted home u k books is.unit at.middle at.after script script'
    by (inl talks) = talks_turned granted home u k books is.unit is.driver at.middle at.after old script script' are runs seat.own is.id m_is at.goes does talks
    by (inr over) = over_in granted failed home u k books is.unit is.driver at.b at.middle at.after script script' (record {
      own = seat.own;
      runs = runs;
      pairs = old;
      are = are;
      id = is.id;
      was = m_is;
      there = at.b_is;
      drives = at.goes;
      over = over;
    }) does

    turned : TurnedIn granted home u k books is.unit at.middle at.after script script'
    turned = by (behind_events granted failed (told_in u script) script.lines.now home u k books (slice_get script.lines.now script.at) script.progress is.unit is.driver old new acts.pairs at is.driver_is
        (acts.pushes k at.before at.middle at.was at.there) (acts.talks_on k at.before at.middle at.was at.there) is.how)

    notes : KeepsNoted is.driver turned.driver
    notes = acts_there KeepsNoted at.middle.driver at.after.driver is.driver turned.driver m_is turned.driver_is
        (goes_note u k acts.went acts.pairs new script script' seat acts.goes k at.middle at.after at.there at.here)

    sent : List PipeRow
    sent = (end_of [] at.before.link true).sent

    kept : IsKept sent turned.driver.client turned.driver.answers.items
    kept = subst (KeptAt sent) turned.driver_is
        (does_keep sent u at.middle at.after script script' does (subst (KeptAt sent) (sym m_is) (is.keeps.behind, is.keeps.logout, is.keeps.kinds)))

-- ---- in a script

pub turned_own : (old new : List Pair) (script script' : Script) → IsScript old script → OnlyRuns script script' → (did : Moved) → TurnActs did old new script script'
    → TurnsOwn old new script script'
turned_own old new script script' are runs did acts granted home u k books seat served =
    is_held (IsReadyOwnPair granted (told_in u script') script'.lines.now home u k books (slice_get script'.lines.now script'.at) script'.progress) (slice_get new k) at.after at.here
    (subst (λ (lines : List Line). IsReadyOwnPair granted (told_in u script') lines home u k books (slice_get lines script'.at) script'.progress at.after) (sym (ap (λ l. l.now) runs.lines))
    (turned_pair granted is.0 home u k books did old new script script' are runs acts seat at is.1))
  where
    at : AtSeat old acts.pairs new k
    at = at_seat script u k old acts.pairs new are acts.driven acts.clients acts.leads seat.sits

    is : (failed : Bool) × IsOwnPair granted failed (told_in u script) script.lines.now home u k books [] (slice_get script.lines.now script.at) script.progress at.before
    is = held_is (λ (pair : Pair). (failed : Bool) × IsOwnPair granted failed (told_in u script) script.lines.now home u k books [] (slice_get script.lines.now script.at) script.progress pair)
        (slice_get old k) at.before at.was served
