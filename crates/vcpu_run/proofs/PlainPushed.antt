-- A plain client keeps no event, so the call that puts one leaves all as it is between it and its server unit.
use Rattle.std.proofs.Common.{◌≡◌, ◌∙◌, inl, inr, ℕ, append-nil, Bool, false, List, [], Option, Some, None, IsSome, refl, sym, ap, subst}
use Rattle.std.specs.Prelude.{⊤}
use Rattle.std.specs.Borrow.{GName}
use Rattle.vio_num.specs.declared.entry.Entry.{Entry}
use Rattle.crq_session.specs.Answered.{LosesKept, PutsNone, Pushes, StillKept}
use Rattle.crq_session.specs.EndState.{EndPlace, EndState, OnlyPushes, OnlyReserves}
use Rattle.crq_session.specs.PlainState.{end_of}
use Rattle.crq_session.specs.declared.link.PlainLink.{PlainLink}
use Rattle.tce_window.specs.PlainPort.{known_of}
use Rattle.tce_window.specs.PortState.{PortState}
use Rattle.tce_window.specs.Window.{WindowValue}
use Rattle.block_server.specs.declared.unit.Unit.{Unit}
use Rattle.vcpu_run.specs.Pairs.{Drives}
use Rattle.vcpu_run.specs.PlainPairs.{between_of}
use Rattle.vcpu_run.specs.PlainScripts.{PairTalksOn}
use Rattle.vcpu_run.specs.PlainTalk.{InPhase, IsOwnWindow, TalksPlainly, TookNoMore, awaited}
use Rattle.vcpu_run.specs.declared.driver.Driver.{Driver}
use Rattle.vcpu_run.specs.declared.pair.Pair.{Pair}
use Rattle.vcpu_run.proofs.PlainRights.{rights_same}
use Rattle.vcpu_run.proofs.PlainData.{data_kept}
use Rattle.vcpu_run.proofs.PlainPaired.{idle_side, took_on}
use Rattle.vcpu_run.proofs.PlainPuts.{LeavesWindow}
use Rattle.vcpu_run.proofs.PlainSeated.{driver_of, server_stays, talks_at}
use Rattle.vcpu_run.proofs.PlainStill.{all_true, plainly_still}
use Rattle.vcpu_run.proofs.PlainTurning.{failed_still}
use Rattle.vcpu_run.proofs.PlainTurns.{come_kept}

-- Nothing changed at an end but the room for calls, and its counts.
pub record StandsAt (old new : EndState) : Type 0 where
  pub sent : new.sent ≡ old.sent
  pub registered : new.registered ≡ old.registered
  pub kept : new.kept ≡ old.kept
  pub session : new.last_session ≡ old.last_session
  pub taken : new.taken ≡ old.taken
  pub place : new.place ≡ old.place

-- ---- what the call does where no event is kept

pub stands_nothing : (old mid new : EndState) → OnlyReserves old mid → OnlyPushes false mid new → PutsNone false mid new → old.kept ≡ None → StandsAt old new
stands_nothing old mid new ready rest puts none = record {
  sent = by mid.kept (ready.kept ∙ none) puts.loses ∙ ready.sent;
  registered = rest.registered ∙ ready.registered;
  kept = puts.kept ∙ sym none;
  session = rest.last_session ∙ ready.last_session;
  taken = rest.taken ∙ ready.taken;
  place = rest.place ∙ ready.place;
}
  where
    by : (kept : Option Entry) → kept ≡ None → LosesKept false kept mid new → new.sent ≡ mid.sent
    by None is none = none.sent
    by (Some event) is loses = absurd (cc (is))

some_none : (kept : Option Entry) → kept ≡ None → IsSome kept → ⊥
some_none None none some = cc (some)
some_none (Some event) none some = cc (none)

pub stands_put : (old mid new : EndState) → OnlyReserves old mid → Pushes false mid new → old.kept ≡ None → StandsAt old new
stands_put old mid new ready puts none = absurd (some_none mid.kept (ready.kept ∙ none) puts.some)

pub stands_kept : (old mid new : EndState) (number held : ℕ) → OnlyReserves old mid → StillKept false mid new number held → old.kept ≡ None → StandsAt old new
stands_kept old mid new number held ready still none = absurd (some_none mid.kept (ready.kept ∙ none) still.some)

-- ---- at the pair

-- a client that talks plainly keeps none
none_kept : (granted : ℕ) (unit : Unit) (driver : Driver) (pair : Pair) → InPhase granted (between_of unit driver pair) [] → (end_of [] pair.link false).kept ≡ None
none_kept granted unit driver pair (inl away) = away.kept
none_kept granted unit driver pair (inr (inl begun)) = idle_side false pair.link begun.registered
none_kept granted unit driver pair (inr (inr (asked, answers, talk))) = idle_side false pair.link talk.registered

leaves_same : (old new : PortState) → new ≡ old → IsOwnWindow old → LeavesWindow (λ slot. ⊤) old new
leaves_same old new same own =
    subst (LeavesWindow (λ slot. ⊤) old) (sym same) (record { own = own; keeps = record { slots = λ slot bytes within spares whole stand. stand; strokes = λ page stroke is. is; unit = refl } })

talks_stand : (granted : ℕ) (unit : Unit) (driver : Driver) (old new : Pair) → Drives old new → new.window ≡ old.window → StandsAt (end_of [] old.link false) (end_of [] new.link false)
    → TalksPlainly granted (between_of unit driver old) [] → TalksPlainly granted (between_of unit driver new) []
talks_stand granted unit driver old new drives window stands talk =
    let received = ap (λ (p : EndPlace). p.received) stands.place in
    let own : TookNoMore (end_of [] new.link false) =
    took_on (end_of [] old.link false) (end_of [] new.link false) stands.session stands.taken [] (received ∙ sym (append-nil (end_of [] old.link false).place.received))
    talk.calm.ends.own_took in
    let known : known_of new.window ≡ known_of old.window = ap (λ (w : WindowValue). known_of w) window in
    plainly_still (λ o. ⊤) granted (between_of unit driver old) (between_of unit driver new) talk (record {
      server = server_stays unit driver driver old new drives talk.calm.ends.server_took own;
      client = refl;
      sent = stands.sent;
      registered = stands.registered;
      kept = stands.kept;
      come = come_kept (end_of [] old.link false) (end_of [] new.link false) received stands.session stands.taken;
      slots = ap (λ (p : EndPlace). p.own_slots) stands.place;
      window = leaves_same (known_of old.window) (known_of new.window) known talk.calm.usable;
      spares = all_true (awaited driver.client);
      tables = λ ask spares. data_kept (known_of old.window) (known_of new.window) known ask tt;
    })

pub talks_pushed : (f g : Bool) (x y : List GName) (lent : PlainLink) (old new : Pair) → lent ≡ old.link → f ≡ false → g ≡ false → Drives old new → new.driver ≡ old.driver
    → new.window ≡ old.window → ((end_of x lent f).kept ≡ None → StandsAt (end_of x lent f) (end_of y new.link g)) → PairTalksOn old new
talks_pushed f g x y lent old new same first next drives driver window stands granted unit talks =
    let (a, was, talk) = driver_of (λ driver. TalksPlainly granted (between_of unit driver old) []) old.driver talks in
    let here : (end_of x old.link false).kept ≡ None → StandsAt (end_of x old.link false) (end_of y new.link false) =
    subst (λ (l : PlainLink). (end_of x l false).kept ≡ None → StandsAt (end_of x l false) (end_of y new.link false)) same
    (subst (λ (d : Bool). (end_of x lent d).kept ≡ None → StandsAt (end_of x lent d) (end_of y new.link false)) first
    (subst (λ (d : Bool). (end_of x lent f).kept ≡ None → StandsAt (end_of x lent f) (end_of y new.link d)) next stands)) in
    let still = here (none_kept granted unit a old talk.phase) in
    let known : known_of new.window ≡ known_of old.window = ap (λ (w : WindowValue). known_of w) window in (
      talks_at granted unit [] new a (driver ∙ was) (talks_stand granted unit a old new drives window (unlent x y old new still) talk),
      failed_still old new driver still.registered (ap (λ (port : PortState). port.place) known) (λ page. ap (λ (port : PortState). port.strokes page) known),
      rights_same (known_of old.window) (known_of new.window) (ap (λ (port : PortState). port.values) known),
    )
  where
    unlent : (x y : List GName) (old new : Pair) → StandsAt (end_of x old.link false) (end_of y new.link false) → StandsAt (end_of [] old.link false) (end_of [] new.link false)
    unlent x y old new is = record {
      sent = is.sent;
      registered = is.registered;
      kept = is.kept;
      session = is.session;
      taken = is.taken;
      place = ap (λ (p : EndPlace). record p { lenders = [] }) is.place;
    }
