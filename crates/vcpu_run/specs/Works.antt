-- What the steps of a script line leave of a client's window, of its end of the link, and of its driver.
use Rattle.std.specs.Prelude.{◌≡◌, ℕ, Bool, true, false, List, None, Option, Some, IsSomeAnd}
use Rattle.std.specs.List.{slice_get}
use Rattle.boot_text.specs.SoFar.{is_for_client, is_for_port}
use Rattle.boot_text.specs.Sound.{IsInRange}
use Rattle.boot_text.specs.declared.verb.Verb.{Verb}
use Rattle.boot_text.specs.declared.verb.Verb.TheVariants as verbs
use Rattle.crq_session.specs.EndState.{EndState}
use Rattle.tce_window.specs.PortState.{PortState}
use Rattle.vscsi_client.specs.Transferred.{FitRows}
use Rattle.vcpu_run.specs.declared.driver.Driver.{Driver}
use Rattle.vcpu_run.specs.declared.pair.Pair.{Pair}
use Rattle.unit_region.specs.Kept.{KeepsWindow}
use Rattle.unit_region.specs.Marks.{LaysNoStroke, LaysUnder}
use Rattle.vcpu_run.specs.AnswersSeen.{AreResponsesRead, fronts_of}
use Rattle.vcpu_run.specs.EventsPut.{MakesNoEvent}
use Rattle.vcpu_run.specs.Freed.{FreesNone}
use Rattle.vcpu_run.specs.ClientSlots.{HoldsSlots}
use Rattle.vcpu_run.specs.Pairs.{IsDriver}
use Rattle.vcpu_run.specs.Reached.{Reaches}
use Rattle.vcpu_run.specs.Announces.{Announces}
use Rattle.vcpu_run.specs.Suited.{is_call}
use Rattle.vcpu_run.specs.declared.unit_seat.Seat.{Seat}
use Rattle.vcpu_run.specs.declared.unit_seat.Seat.TheVariants as sits

-- where nobody else has a hand in a window, the strokes of its own unit that it has more bear a mark, or it has none more
abbrev pub LaysBy : (is_shared : Bool) → Option ℕ → (old new : PortState) → Type 0
LaysBy is_shared None old new = LaysNoStroke is_shared old new
LaysBy is_shared (Some mark) old new = LaysUnder is_shared mark old new

-- The end is where it was, and on a link of its own at the same session of the partner; its queue was not freed, and no event made, unless
-- that may be, and the partner was told of what was; the window was kept, and the driver is that of the same unit, whose data still lie in
-- the region, and whose answers were read in its slots; it is logged in only where something was put into its queue. Each stroke of its own
-- that the window has more bears this mark; where none is given it has no stroke more.
pub record Works (may_free end_shared is_shared : Bool) (mark : Option ℕ) (end end' : EndState) (own own' : PortState) (driver driver' : Driver) : Type 0 where
  pub place : end'.place ≡ end.place
  pub session : end_shared ≡ false → end'.counts.partner_session ≡ end.counts.partner_session
  pub stays : may_free ≡ false → FreesNone end end'
  pub puts : end_shared ≡ false → Announces end end'
  pub calm : may_free ≡ false → MakesNoEvent end end'
  pub window : KeepsWindow is_shared own own'
  pub lays : LaysBy is_shared mark own own'
  pub unit : driver'.unit ≡ driver.unit
  pub rows : FitRows own.place.size driver.client → FitRows own.place.size driver'.client
  pub slots : HoldsSlots driver.client → HoldsSlots driver'.client
  pub answers : HoldsSlots driver.client → AreResponsesRead (fronts_of own.strokes) driver.answers.items
      → AreResponsesRead (fronts_of own'.strokes) driver'.answers.items
  pub reached : end_shared ≡ false → Reaches driver.client driver'.client end end'

-- each pair at which a client sits has a driver, which is that of its window
abbrev pub HaveClients : List Seat → List Pair → Type 0
HaveClients seats pairs =
    (u k : ℕ) → slice_get seats u ≡ Some (sits.Client k) → IsSomeAnd (slice_get pairs k) (λ pair. IsSomeAnd pair.driver (IsDriver pair.window))

-- whether a line sends a command
abbrev pub sends : Verb → Bool
sends verbs.Tur = true
sends (verbs.Read lba blocks at pieces table) = true
sends (verbs.Write lba blocks at pieces table) = true
sends (verbs.Command cdb) = true
sends (verbs.CommandIn cdb at len pieces table) = true
sends (verbs.CommandOut cdb at len pieces table) = true
sends _ = false

-- whether it fails the partition
abbrev pub fails : Verb → Bool
fails verbs.Fail = true
fails _ = false

-- what one unit of a partition does, or a raw call on its units
pub record IsLineVerb (verb : Verb) : Type 0 where
  pub one : fails verb ≡ false
  pub ranged : IsInRange verb

-- what one client unit does
pub record IsUnitVerb (verb : Verb) : Type 0 where
  pub client : is_for_client verb ≡ true
  pub no_call : is_call verb ≡ false
  pub one : fails verb ≡ false
  pub ranged : IsInRange verb

-- what one LAN port does
pub record IsPortVerb (verb : Verb) : Type 0 where
  pub port : is_for_port verb ≡ true
  pub no_call : is_call verb ≡ false
  pub one : fails verb ≡ false
  pub ranged : IsInRange verb
