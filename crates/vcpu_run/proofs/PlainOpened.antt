-- A pair as it is opened, as a plain client finds it.
use Rattle.std.proofs.Common.{◌≡◌, ◌∙◌, ℕ, zero, suc, ◌*◌, ◌<◌, ◌≤◌, true, false, List, [], IsSome, Some, length, replicate, refl, sym, ap, subst, arith, ◌+◌, ◌∷◌, slice_get}
use Rattle.vio_num.specs.declared.names.UnitId.{UnitId}
use Rattle.page_slots.specs.Stroke.{StrokeValue}
use Rattle.crq_ring.specs.Sessions.{of_session}
use Rattle.crq_ring.specs.declared.rows.PipeRow.{PipeRow}
use Rattle.crq_session.specs.EndState.{EndState}
use Rattle.crq_session.specs.PlainState.{end_of, IsNewLink}
use Rattle.crq_session.specs.declared.link.PlainLink.{PlainLink}
use Rattle.tce_window.specs.PlainPort.{known_of}
use Rattle.tce_window.specs.Window.{WindowValue, blank_page, strokes_at}
use Rattle.vscsi_client.specs.State.{new_client}
use Rattle.vcpu_run.specs.PlainPairs.{IsOpened}
use Rattle.vcpu_run.specs.PlainTalk.{AreEnds, HasRights, IsOwnEntry, IsOwnWindow, TookNoMore}
use Rattle.vcpu_run.specs.declared.driver.Driver.{Driver}
use Rattle.vcpu_run.specs.declared.pair.Pair.{Pair}
use Rattle.vcpu_run.proofs.Opened.{first_value, new_window, size_new}

-- ---- the window

blank_there : (n p : ℕ) → p < n → IsSome (strokes_at (replicate n blank_page) p)
blank_there zero p less = absurd (omega (arith, less))
blank_there (suc n) zero less = refl
blank_there (suc n) (suc p) less = blank_there n p (omega (arith, less))

-- it has no stroke
blank_at : (n p : ℕ) (list : List StrokeValue) → strokes_at (replicate n blank_page) p ≡ Some list → list ≡ []
blank_at zero zero list is = absurd (cc (is))
blank_at zero (suc p) list is = absurd (cc (is))
blank_at (suc n) zero list is = none [] list is refl
  where
    none : (a b : List StrokeValue) → Some a ≡ Some b → a ≡ [] → b ≡ []
    none a b is e = cc (is, e)
blank_at (suc n) (suc p) list is = blank_at n p list is

own_first : (e : ℕ) → IsOwnEntry e ((4096 * e + 3) ∷ [])
own_first e = record {
  names = λ version value is. omega (arith, only version value is);
}
  where
    only : (version value : ℕ) → slice_get ((4096 * e + 3) ∷ []) version ≡ Some value → value ≡ 4096 * e + 3
    only zero value is = cc (is)
    only (suc version) value is = absurd (cc (is))

own_new : (unit : UnitId) (pages : ℕ) (window : WindowValue) → window ≡ new_window unit pages → 14 ≤ pages → pages ≤ 256 → IsOwnWindow (known_of window)
own_new unit pages window new least most =
    let size : length window.pages ≡ pages = size_new unit pages window new in
    record {
      values = λ e. subst (IsOwnEntry e) (sym (ap (λ (w : WindowValue). (known_of w).values e) new ∙ first_value e)) (own_first e);
      size = omega (arith, size, least);
      most = omega (arith, size, most);
      there = λ p less.
          subst (λ (w : WindowValue). IsSome (strokes_at w.pages p)) (sym new) (blank_there pages p (omega (arith, size, less)));
    }

-- each entry has its first value alone
rights_new : (unit : UnitId) (pages : ℕ) (window : WindowValue) → window ≡ new_window unit pages → HasRights (known_of window)
rights_new unit pages window new = record { last = λ e front. ([], ap (λ (w : WindowValue). (known_of w).values e) new ∙ first_value e) }

-- ---- the link

took_none : (end : EndState) → end.taken ≡ [] → TookNoMore end
unfolding of_session
took_none end none =
    let few : length (of_session end.last_session end.taken) ≡ 0 = ap (λ (rows : List PipeRow). length (of_session end.last_session rows)) none in
    omega (arith, few)

ends_new : (link : PlainLink) (slots_a slots_b : ℕ) → IsNewLink link slots_a slots_b → AreEnds (end_of [] link true) (end_of [] link false)
ends_new link slots_a slots_b new = record {
  server_sees = record { partner = refl; session = refl; received = refl; taken = refl; slots = refl };
  own_sees = record { partner = refl; session = refl; received = refl; taken = refl; slots = refl };
  server_took = took_none (end_of [] link true) new.first.queue.taken;
  own_took = took_none (end_of [] link false) new.second.queue.taken;
}

-- ---- the pair

pub opened_new : (pair : Pair) (driver : Driver) (unit server : UnitId) (pages queue_a queue_b : ℕ) → IsNewLink pair.link (256 * queue_a) (256 * queue_b) → 1 ≤ queue_a → 1 ≤ queue_b
    → pair.window ≡ new_window unit pages → 14 ≤ pages → pages ≤ 256 → driver.unit ≡ unit → driver.client ≡ new_client unit server → driver.answers.items ≡ [] → IsOpened pair driver
opened_new pair driver unit server pages queue_a queue_b new some_a some_b window least most unit_is client answers = record {
  server = server;
  client = client ∙ ap (λ (id : UnitId). new_client id server) (sym unit_is);
  answers = answers;
  registered = new.second.unregistered;
  kept = new.second.kept;
  server_registered = new.first.unregistered;
  server_kept = new.first.kept;
  ends = ends_new pair.link (256 * queue_a) (256 * queue_b) new;
  sent = new.second.queue.sent;
  server_slots = omega (arith, new.first.queue.slots, some_a);
  own_slots = omega (arith, new.second.queue.slots, some_b);
  usable = own_new unit pages pair.window window least most;
  rights = rights_new unit pages pair.window window;
  unit = ap (λ (w : WindowValue). w.unit) window ∙ sym unit_is;
  blank = λ page list is. blank_at pages page list (sym (ap (λ (w : WindowValue). strokes_at w.pages page) window) ∙ is);
}
