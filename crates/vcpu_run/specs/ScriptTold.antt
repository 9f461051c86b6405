-- What is so of a partition whose lines make no raw call: the refusals of its clients, and what those to come are judged by.
use Rattle.std.specs.Prelude.{◌≡◌, ℕ, ◌<◌, ◌==◌, ◌++◌, false, true, List, Option, Some, None, IfSome, IsSomeAnd, length, if◌then◌else◌}
use Rattle.std.specs.List.{slice_get}
use Rattle.boot_text.specs.declared.plan.Line.{Line}
use Rattle.vio_trace.specs.declared.rows.LogRow.{LogRow}
use Rattle.crq_ring.specs.declared.rows.PipeRow.{PipeRow}
use Rattle.crq_session.specs.PlainState.{side_of}
use Rattle.vcpu_run.specs.declared.pair.Pair.{Pair}
use Rattle.vcpu_run.specs.declared.script.Progress.{Progress}
use Rattle.vcpu_run.specs.declared.script.Progress.TheVariants as progress
use Rattle.vcpu_run.specs.declared.script.Script.{Script}
use Rattle.vcpu_run.specs.declared.unit_seat.Seat.{Seat}
use Rattle.vcpu_run.specs.declared.unit_seat.Seat.TheVariants as sits
use Rattle.vcpu_run.specs.Agreed.{IsLoggedOut}
use Rattle.vcpu_run.specs.ClientStrokes.{KeepsOwn}
use Rattle.vcpu_run.specs.Freeing.{is_reset}
use Rattle.vcpu_run.specs.Credited.{Ended, ended_by, taken_in}
use Rattle.vcpu_run.specs.LinesShow.{LinesShow, Sees, seen_at}
use Rattle.vcpu_run.specs.DropsShown.{IsFullAt, KeepsFull, LinesFull}
use Rattle.vcpu_run.specs.EventsMade.{PairCalm}
use Rattle.vcpu_run.specs.FailedShut.{IsDown}
use Rattle.vcpu_run.specs.FewEvents.{PairFew}
use Rattle.vcpu_run.specs.PortWords.{HasNoCall}
use Rattle.vcpu_run.specs.Refusals.{HasCausesTold}
use Rattle.vcpu_run.specs.Scripts.{are_servers}
use Rattle.vcpu_run.specs.ShutShown.{HadEnd, LinesShut, StaysServed}
use Rattle.vcpu_run.specs.SentOrder.{AreSentIn, entries_put}
use Rattle.vcpu_run.specs.TakenScripts.{PairAgrees, PairTaken}
use Rattle.vcpu_run.specs.Takings.{IsTakenUpTo}
use Rattle.vcpu_run.specs.Telling.{IsOf, IsTold}
use Rattle.vcpu_run.specs.ValuesPut.{AreValuesPut, SameValues}
use Rattle.vcpu_run.specs.Works.{fails}

-- how far the current line came, if it is of this unit
abbrev pub progress_at : (unit : ℕ) → Progress → Option Line → Progress
progress_at unit p None = progress.Fresh
progress_at unit p (Some line) = if line.unit == unit then p else progress.Fresh

abbrev pub progress_by : (unit : ℕ) → Script → Progress
progress_by unit script = progress_at unit script.progress (slice_get script.lines.now script.at)

-- the lines of a unit that ended
abbrev pub own_of : (unit : ℕ) → Script → List Ended
own_of unit script = ended_by unit script.lines.now script.logs.items

-- the client of a pair, where there is one
abbrev pub PairIsTold : List Ended → Progress → Pair → Type 0
PairIsTold own p pair = IfSome pair.driver (λ driver. IsTold (length pair.window.pages) own p (side_of pair.link false).registered driver.client)

-- P of each pair at which a client sits, with its unit
abbrev pub AtSeats : List Seat → List Pair → (P : ℕ → Pair → Type 0) → Type 0
AtSeats seats pairs P = (unit k : ℕ) (pair : Pair) → slice_get seats unit ≡ Some (sits.Client k) → slice_get pairs k ≡ Some pair → P unit pair

-- What the lines of a unit that ended show, at its pair, in which order its requests were put, that those which were dropped have their
-- records, and that a session of its server unit's queue is over where one met a closed queue.
pub record ShowsLines (unit : ℕ) (lines : List Line) (rows : List LogRow) (pair : Pair) : Type 0 where
  pub show : LinesShow (seen_at pair) pair.window.unit unit lines rows
  pub order : AreSentIn (seen_at pair) pair.window.unit unit lines rows (entries_put pair)
  pub drops : LinesFull (IsFullAt pair) unit lines rows
  pub shut : LinesShut (HadEnd pair.link) unit lines rows

abbrev pub PairShown : Script → (unit : ℕ) → Pair → Type 0
PairShown script unit pair = ShowsLines unit script.lines.now script.logs.items pair

-- The answers of each client are as its records say, and stand in order among what it took; before a line that fails no partition they are
-- as many as the records and the current line tell, which took no more than it says.
pub record IsScriptTaken (pairs : List Pair) (script : Script) : Type 0 where
  pub kept : AtSeats script.seats.items pairs (λ unit pair. PairTaken (own_of unit script) pair)
  pub up_to : IfSome (slice_get script.lines.now script.at)
      (λ line. (k : ℕ) → slice_get script.seats.items line.unit ≡ Some (sits.Client k) → IsTakenUpTo line.verb (taken_in script.progress))
  pub agrees : (line : Line) → slice_get script.lines.now script.at ≡ Some line → fails line.verb ≡ false
      → AtSeats script.seats.items pairs (λ unit pair. PairAgrees (own_of unit script) (progress_by unit script) pair)

-- The refusals of each client have their causes, what its lines did is there, they put what they say into its window's entries, and made no
-- more events than resets; before a line that fails no partition each client agrees with its records, and behind one that does no client's
-- queue is registered.
pub record IsScriptTold (pairs : List Pair) (script : Script) : Type 0 where
  pub law : AtSeats script.seats.items pairs (λ unit pair. HasCausesTold (length pair.window.pages) (own_of unit script))
  pub fresh : IfSome (slice_get script.lines.now script.at)
      (λ line. (k : ℕ) → slice_get script.seats.items line.unit ≡ Some (sits.Client k) → IsOf line.verb script.progress)
  pub told : (line : Line) → slice_get script.lines.now script.at ≡ Some line → fails line.verb ≡ false
      → AtSeats script.seats.items pairs (λ unit pair. PairIsTold (own_of unit script) (progress_by unit script) pair)
  pub shown : AtSeats script.seats.items pairs (PairShown script)
  pub taken : IsScriptTaken pairs script
  pub put : AtSeats script.seats.items pairs (λ unit pair. AreValuesPut (own_of unit script) pair)
  pub few : AtSeats script.seats.items pairs (PairFew script)
  pub down : IsDown pairs script

-- a reset that is the current line left its client without a login
abbrev pub IsResetOut : List Pair → Script → Type 0
IsResetOut pairs script = (line : Line) (k : ℕ) (pair : Pair) → slice_get script.lines.now script.at ≡ Some line → is_reset line.verb ≡ true
    → slice_get script.seats.items line.unit ≡ Some (sits.Client k) → slice_get pairs k ≡ Some pair → IsLoggedOut pair

-- more may stand behind what the client put into its server unit's queue, each record of a drop is there still, and no session is undone
abbrev pub PutsMore : (old new : Pair) → Type 0
PutsMore old new = (rows : List PipeRow) × ((side_of new.link true).queue.sent ≡ (side_of old.link true).queue.sent ++ rows) × KeepsFull old new × StaysServed old.link new.link

-- The client of a pair, its window's unit and length, whether its queue is registered and what it took are as before, no entry of its window
-- has other values, what there was is there, and it laid no stroke in its region.
pub record SameClient (old new : Pair) : Type 0 where
  pub driver : new.driver ≡ old.driver
  pub pages : length new.window.pages ≡ length old.window.pages
  pub queue : (side_of new.link false).registered ≡ (side_of old.link false).registered
  pub taken : (side_of new.link false).queue.taken ≡ (side_of old.link false).queue.taken
  pub unit : new.window.unit ≡ old.window.unit
  pub sees : Sees (seen_at old) (seen_at new)
  pub own : KeepsOwn old new
  pub server : new.server ≡ old.server
  pub values : SameValues old new
  pub puts : PutsMore old new
  pub calm : PairCalm old new

-- the same of all pairs
abbrev pub SameClients : List Pair → List Pair → Type 0
SameClients old new = (k : ℕ) (after : Pair) → slice_get new k ≡ Some after → IsSomeAnd (slice_get old k) (λ before. SameClient before after)

-- A script of a partition that has no server unit, and that makes no raw call.
pub record MakesNoCall (script : Script) : Type 0 where
  pub others : are_servers script.seats.items ≡ false
  pub no_call : HasNoCall script.lines.now

-- the refusals of the clients of each such script have their causes, and its clients agree with their records
abbrev pub AreTold : List Pair → List Script → Type 0
AreTold pairs scripts = (i : ℕ) (script : Script) → slice_get scripts i ≡ Some script → MakesNoCall script → IsScriptTold pairs script

-- a reset that is the current line of such a script, of which P is so, left its client without a login
abbrev pub AreOutIf : (P : ℕ → Type 0) → List Pair → List Script → Type 0
AreOutIf P pairs scripts = (i : ℕ) (script : Script) → P i → slice_get scripts i ≡ Some script → MakesNoCall script → IsResetOut pairs script

-- the same of the first scripts
abbrev pub AreOutTo : (count : ℕ) → List Pair → List Script → Type 0
AreOutTo count = AreOutIf (λ i. i < count)
