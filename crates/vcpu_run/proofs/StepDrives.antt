-- What a step of a client's driver leaves of its pair.
use Rattle.std.proofs.Common.{◌≡◌, ◌≤◌, ◌∙◌, ℕ, true, false, [], List, Bool, Option, Some, IfNone, length, refl, sym, ap, subst}
use Rattle.std.specs.Borrow.{GName}
use Rattle.crq_session.specs.EndState.{EndPlace}
use Rattle.crq_session.specs.PlainState.{end_of, side_of}
use Rattle.crq_session.specs.declared.link.PlainLink.{PlainLink}
use Rattle.tce_window.specs.PlainPort.{known_of}
use Rattle.tce_window.specs.PortState.{PortPlace}
use Rattle.tce_window.specs.Window.{WindowValue, strokes_at}
use Rattle.rdma_copy.specs.Copies.{side_of as side_at}
use Rattle.rdma_copy.proofs.Laws.{side_same}
use Rattle.unit_region.proofs.Laws.{own_same}
use Rattle.vscsi_client.specs.Transferred.{FitRows}
use Rattle.vscsi_client.specs.Turned.{unlinked}
use Rattle.vscsi_client.specs.declared.TheConstants.{MIN_PAGES}
use Rattle.vcpu_run.specs.declared.driver.Driver.{Driver}
use Rattle.vcpu_run.specs.declared.pair.Pair.{Pair}
use Rattle.vcpu_run.specs.AnswersSeen.{AreResponsesRead, fronts_of}
use Rattle.vcpu_run.specs.Announces.{Announces}
use Rattle.vcpu_run.specs.Pairs.{Drives, GoesOn, IsDriver}
use Rattle.vcpu_run.specs.ClientSlots.{HoldsSlots}
use Rattle.vcpu_run.specs.Reached.{IfReached, IsBlankBefore}
use Rattle.vcpu_run.specs.Works.{Works}
use Rattle.vcpu_run.proofs.SlotsKept.{slots_same}
use Rattle.vcpu_run.proofs.Announcing.{both_bools, puts_at, puts_same}
use Rattle.vcpu_run.proofs.Reached.{blank_as, blank_then}

-- the driver is that of the window as it was
driver_goes : {mark : Option ℕ} (may_free : Bool) (a b : List GName) (old window : WindowValue) (lent link : PlainLink) (f g : Bool) (driver driver' : Driver)
    → Works may_free false false mark (end_of a lent f) (end_of b link g) (known_of old) (known_of window) driver driver' → IsDriver old driver → IsDriver window driver'
driver_goes may_free a b old window lent link f g driver driver' works is =
    let place = works.window.place in
    let size : length window.pages ≡ length old.pages = ap (λ (place : PortPlace). place.size) place in
    record {
      unit = ap (λ (place : PortPlace). place.unit) place ∙ (is.unit ∙ sym works.unit);
      pages = subst (λ n. MIN_PAGES ≤ n) (sym size) is.pages;
      rows = subst (λ n. FitRows n driver'.client) (sym size) (works.rows is.rows);
      slots = works.slots is.slots;
      answers = works.answers is.slots is.answers;
    }

pub step_drives : {mark : Option ℕ} (may_free f g : Bool) (a b : List GName) (old : Pair) (driver driver' : Driver) (lent link : PlainLink) (window : WindowValue)
    → old.driver ≡ Some driver → lent ≡ old.link → f ≡ false
    → Works may_free false false mark (end_of a lent f) (end_of b link g) (known_of old.window) (known_of window) driver driver'
    → Drives old (record { server = old.server; link = link; own = old.own; window = window; driver = Some driver' })
step_drives {mark} may_free f g a b old driver driver' lent link window some same is works =
    at lent same f g is (ap (λ (p : EndPlace). p.first) works.place ∙ is) works (puts_at f g a b lent link is works.place (works.puts refl))
  where
    at : (l : PlainLink) → l ≡ old.link → (d d' : Bool) → d ≡ false → d' ≡ false
        → Works may_free false false mark (end_of a l d) (end_of b link d') (known_of old.window) (known_of window) driver driver'
        → Announces (end_of [] l false) (end_of [] link false) → Drives old (record { server = old.server; link = link; own = old.own; window = window; driver = Some driver' })
    at l e false false at_client same_end w puts = by w.place (w.session refl) puts
      where
        by : (end_of b link false).place ≡ (end_of a l false).place → (end_of b link false).counts.partner_session ≡ (end_of a l false).counts.partner_session
            → Announces (end_of [] l false) (end_of [] link false) → Drives old (record { server = old.server; link = link; own = old.own; window = window; driver = Some driver' })
        by place session puts =
            let before = subst (λ (m : PlainLink). (end_of b link false).place ≡ (end_of a m false).place) e place in
            record {
              server = refl;
              own = refl;
              event = ap (λ (p : EndPlace). p.partner_kept) before;
              server_slots = ap (λ (p : EndPlace). p.partner_slots) before;
              client_slots = ap (λ (p : EndPlace). p.own_slots) before;
              got = ap (λ (p : EndPlace). p.received) before;
              unit = ap (λ (p : PortPlace). p.unit) w.window.place;
              pages = ap (λ (p : PortPlace). p.size) w.window.place;
              held = w.window.held;
              grows = w.window.grows;
              driver = subst (λ (o : Option Driver). GoesOn old.window window o (Some driver')) (sym some) (w.unit, driver_goes may_free a b old.window window l link false false driver driver' w);
              laid = w.window.own refl;
              server_registered = ap (λ (p : EndPlace). p.partner_registered) before;
              server_session = subst (λ (m : PlainLink). (end_of b link false).counts.partner_session ≡ (end_of a m false).counts.partner_session) e session;
              server_taken = ap (λ (p : EndPlace). p.partner_taken) before;
              puts = subst (λ (m : PlainLink). Announces (end_of [] m false) (end_of [] link false)) e puts;
              reached = subst (λ (o : Option Driver). IfReached o (side_of old.link false).queue.sent → IsBlankBefore driver'.client (side_of link false).queue.sent) (sym some)
                  (subst (λ (m : PlainLink). IsBlankBefore driver.client (side_of m false).queue.sent → IsBlankBefore driver'.client (side_of link false).queue.sent) e (w.reached refl));
              alone = subst (λ (o : Option Driver). IfNone o ((end_of [] link false).registered ≡ (end_of [] old.link false).registered)) (sym some) tt;
            }
    at l e true d' at_client same_end w puts = absurd (both_bools true refl at_client)
    at l e false true at_client same_end w puts = absurd (both_bools true refl same_end)

-- its queue was freed, and the client was told
pub freed_drives : (old : Pair) (driver driver' : Driver) → old.driver ≡ Some driver → driver'.unit ≡ driver.unit → driver'.answers ≡ driver.answers
    → driver'.client ≡ unlinked driver.client → Drives old (record old { driver = Some driver' })
freed_drives old driver driver' some unit noted client = record {
  server = refl;
  own = refl;
  event = refl;
  server_slots = refl;
  client_slots = refl;
  got = refl;
  unit = refl;
  pages = refl;
  held = refl;
  grows = side_same (side_at (known_of old.window));
  driver = subst (λ (o : Option Driver). GoesOn old.window old.window o (Some driver')) (sym some) (unit, stays);
  laid = λ p. own_same old.window.unit (strokes_at old.window.pages p);
  server_registered = refl;
  server_session = refl;
  server_taken = refl;
  puts = puts_same (end_of [] old.link false);
  reached = subst (λ (o : Option Driver). IfReached o (side_of old.link false).queue.sent → IsBlankBefore driver'.client (side_of old.link false).queue.sent) (sym some)
      (λ is none. blank_then driver.client driver'.client (blank_as driver.client driver'.client (unlinked driver.client) client (record { granted = λ g. g; held = λ h. h })) (is none));
  alone = subst (λ (o : Option Driver). IfNone o ((side_of old.link false).registered ≡ (side_of old.link false).registered)) (sym some) tt;
}
  where
    stays : IsDriver old.window driver → IsDriver old.window driver'
    stays is = record {
      unit = is.unit ∙ sym unit;
      pages = is.pages;
      rows = subst (λ s. FitRows (length old.window.pages) s) (sym client) is.rows;
      slots = subst HoldsSlots (sym client) (slots_same driver.client (unlinked driver.client) refl refl is.slots);
      answers = subst (λ rows. AreResponsesRead (fronts_of (strokes_at old.window.pages)) rows) (sym (ap (λ rows. rows.items) noted)) is.answers;
    }
