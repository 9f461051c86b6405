-- A pair before any turn.
use Rattle.std.proofs.Common.{◌≡◌, ◌≢◌, ℕ, zero, suc, ◌+◌, ◌*◌, ◌≤◌, true, false, [], ◌∷◌, All, Option, Some, None, IfNone, IfSome, length, replicate, refl, sym, ◌∙◌, ap, subst, arith}
use Rattle.std.proofs.lemmas.List.{length-replicate}
use Rattle.std.proofs.lemmas.List.Elements.{All-nil}
use Rattle.vio_num.specs.declared.entry.Entry.{Entry}
use Rattle.vio_num.specs.declared.names.UnitId.{UnitId}
use Rattle.vio_num.specs.Entry.{partner_freed}
use Rattle.crq_session.specs.declared.link.PlainLink.{PlainLink}
use Rattle.crq_session.specs.PlainState.{side_of, IsNewLink}
use Rattle.tce_window.specs.Grant.{values_of}
use Rattle.tce_window.specs.PlainPort.{known_of}
use Rattle.tce_window.specs.Window.{WindowValue, blank_page, strokes_at}
use Rattle.block_server.specs.SiteState.{AreReady}
use Rattle.vscsi_client.specs.State.{ClientState, new_client}
use Rattle.vscsi_client.specs.Transferred.{FitsRow}
use Rattle.vcpu_run.specs.ClientSlots.{HoldsSlots}
use Rattle.vcpu_run.proofs.SlotsKept.{slots_none}
use Rattle.vcpu_run.specs.AnswersSeen.{AreResponsesRead, IsResponseRead, fronts_of}
use Rattle.unit_region.specs.RegionLines.{IsOn}
use Rattle.vcpu_run.specs.EventsHeard.{events_waiting}
use Rattle.vcpu_run.specs.declared.driver.Driver.{Driver}
use Rattle.vcpu_run.specs.declared.pair.Pair.{Pair}
use Rattle.block_server.specs.Makers.{stroke_in, AreNamed}
use Rattle.page_slots.specs.Stroke.{StrokeValue}
use Rattle.rdma_copy.specs.Copies.{side_of as side_at}
use Rattle.vcpu_run.specs.Named.{HasNames, LeavesAlone, absent_unit}
use Rattle.vcpu_run.specs.Pairs.{IsCopyOf, IsDriver, IsPair}
use Rattle.vcpu_run.specs.TakenScripts.{HasTakenNone}
use Rattle.vcpu_run.specs.Takings.{waiting}

-- a window of so many pages, before any call
abbrev pub new_window : UnitId → ℕ → WindowValue
new_window unit pages = record {
  unit = unit;
  pages = replicate pages blank_page;
  rows = [];
  spare = 0;
  held_from = 0;
  held_count = 0;
  in_use = 0;
}

pub first_value : (e : ℕ) → values_of [] e ≡ (4096 * e + 3) ∷ []
unfolding values_of
first_value e = refl

pub size_new : (unit : UnitId) (pages : ℕ) (window : WindowValue) → window ≡ new_window unit pages → length window.pages ≡ pages
size_new unit pages window new = ap (λ (w : WindowValue). length w.pages) new ∙ length-replicate pages blank_page

ready_new : (server : UnitId) (pages : ℕ) (client : UnitId) (own window : WindowValue) → own ≡ new_window server 34 → window ≡ new_window client pages
    → client ≢ server → AreReady (known_of own) (known_of window)
ready_new server pages client own window own_new window_new apart = record {
  size = size_new server 34 own own_new;
  first = λ e less. ap (λ (w : WindowValue). (known_of w).values e) own_new ∙ first_value e;
  own_free = ap (λ (w : WindowValue). w.held_count) own_new;
  client_free = ap (λ (w : WindowValue). w.held_count) window_new;
  apart = λ same. apart (sym (ap (λ (w : WindowValue). w.unit) window_new) ∙ (same ∙ ap (λ (w : WindowValue). w.unit) own_new));
}

no_event : (link : PlainLink) (event : Entry) → (side_of link true).kept ≡ None → (side_of link true).kept ≡ Some event → event ≡ partner_freed
no_event link event none kept = cc

-- The driver of a client that has sent nothing.
pub driver_new : (unit server : UnitId) (pages : ℕ) (window : WindowValue) (driver : Driver) → window ≡ new_window unit pages
    → driver.unit ≡ unit → driver.answers.items ≡ [] → driver.client ≡ new_client unit server → 14 ≤ pages → pages ≤ 256 → IsDriver window driver
driver_new unit server pages window driver new unit_is none client least most =
    let size : length window.pages ≡ pages = size_new unit pages window new in
    record {
      unit = ap (λ (w : WindowValue). w.unit) new ∙ sym unit_is;
      pages = omega arith;
      rows = (omega arith, subst (λ (s : ClientState). All (FitsRow (length window.pages)) s.rows) (sym client) (All-nil (FitsRow (length window.pages))));
      slots = subst HoldsSlots (sym client) (slots_none (new_client unit server) refl refl);
      answers = subst (AreResponsesRead (fronts_of (strokes_at window.pages))) (sym none) (All-nil (IsResponseRead (fronts_of (strokes_at window.pages))));
    }

-- no stroke lies on a page of a new window
blank_at : (n p place : ℕ) (stroke : StrokeValue) → stroke_in (strokes_at (replicate n blank_page) p) place ≡ Some stroke → ⊥
blank_at zero p place stroke e = cc
blank_at (suc n) zero place stroke e = cc
blank_at (suc n) (suc p) place stroke e = blank_at n p place stroke e

named_new : (unit : UnitId) (pages : ℕ) (window : WindowValue) → window ≡ new_window unit pages → AreNamed (side_at (known_of window)) []
named_new unit pages window new = record {
  rising = λ page. tt;
  there = λ page. All-nil _;
  others = λ page place stroke e other.
      absurd (blank_at pages page place stroke (ap (λ (w : WindowValue). stroke_in (strokes_at w.pages page) place) (sym new) ∙ e));
  versions = λ entry. record { rising = tt; there = All-nil _ };
}

names_new : (pair : Pair) (server : UnitId) (pages : ℕ) (client : UnitId) → pair.own ≡ new_window server 34 → pair.window ≡ new_window client pages → HasNames pair []
names_new pair server pages client own window = record {
  own = named_new server 34 pair.own own;
  client = named_new client pages pair.window window;
  foreign = All-nil (λ copy. copy.name.who ≢ pair.server → LeavesAlone pair copy);
}

-- a client that has sent nothing and has taken no answer
pub untaken_new : (unit server : UnitId) (slots_a slots_b : ℕ) (link : PlainLink) (driver : Driver) → driver.answers.items ≡ [] → driver.client ≡ new_client unit server
    → IsNewLink link slots_a slots_b → HasTakenNone server (side_of link false).queue.taken driver
untaken_new unit server slots_a slots_b link driver answers client new = record {
  answers = answers;
  rows = ap (λ (s : ClientState). s.rows) client;
  outgoing = ap (λ (s : ClientState). s.outgoing) client;
  kept = ap (λ (s : ClientState). s.kept) client;
  rest = ap waiting client;
  events = ap events_waiting client;
  server = ap (λ (s : ClientState). s.server) client;
  none = new.second.queue.taken;
  blank = record { granted = ap (λ (s : ClientState). s.granted) client; held = ap (λ (s : ClientState). s.held) client };
}

-- A server unit, with this client or none.
pub pair_new : (server : UnitId) (pages slots_a slots_b : ℕ) (client : UnitId) (link : PlainLink) (own window : WindowValue) (driver : Option Driver)
    → own ≡ new_window server 34 → window ≡ new_window client pages → client ≢ server → IsNewLink link slots_a slots_b
    → IfSome driver (IsDriver window) → IfNone driver (window.unit ≡ absent_unit server)
    → IsPair server.partition [] server.unit (record { server = server; link = link; own = own; window = window; driver = driver })
pair_new server pages slots_a slots_b client link own window driver own_new window_new apart link_new driver_is absent =
    let pair : Pair = record { server = server; link = link; own = own; window = window; driver = driver } in
    record {
      server = refl;
      own_unit = ap (λ (w : WindowValue). w.unit) own_new;
      ready = ready_new server pages client own window own_new window_new apart;
      event = λ event kept. no_event link event link_new.first.kept kept;
      copies = All-nil (IsCopyOf pair);
      driver = driver_is;
      names = names_new pair server pages client own_new window_new;
      absent = absent;
    }

-- no page of such a window has a stroke
bare_pages : (n page : ℕ) (stroke : StrokeValue) → IsOn stroke (strokes_at (replicate n blank_page) page) → ⊥
bare_pages zero zero stroke on = on
bare_pages zero (suc page) stroke on = on
bare_pages (suc n) zero stroke (k, less, e) = absurd (omega (arith, less))
bare_pages (suc n) (suc page) stroke on = bare_pages n page stroke on

pub bare_new : (unit : UnitId) (pages : ℕ) (window : WindowValue) → window ≡ new_window unit pages
    → (page : ℕ) (stroke : StrokeValue) → IsOn stroke (strokes_at window.pages page) → ⊥
bare_new unit pages window new page stroke on = bare_pages pages page stroke (subst (λ (w : WindowValue). IsOn stroke (strokes_at w.pages page)) new on)
