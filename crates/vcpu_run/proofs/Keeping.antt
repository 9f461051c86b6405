-- What a turn of either end leaves of a pair.
use Rattle.std.proofs.Common.{◌≡◌, ℕ, ◌≤◌, true, List, All, Option, Some, None, IfNone, IfSome, IsSomeAnd, length, refl, sym, ◌∙◌, ap, subst}
use Rattle.std.specs.List.{slice_get}
use Rattle.std.proofs.lemmas.Option.{IfSome_then}
use Rattle.std.proofs.lemmas.List.Elements.{All-append, All-weaker}
use Rattle.vio_num.specs.declared.entry.Entry.{Entry}
use Rattle.vio_num.specs.declared.names.UnitId.{UnitId}
use Rattle.vio_num.specs.Entry.{partner_freed}
use Rattle.crq_session.specs.PlainState.{side_of}
use Rattle.tce_window.specs.Window.{WindowValue}
use Rattle.tce_window.specs.PlainPort.{known_of}
use Rattle.tce_window.specs.PortState.{PortPlace}
use Rattle.rdma_copy.specs.Copy.{SideGrows}
use Rattle.rdma_copy.specs.Copies.{side_of as side_at}
use Rattle.rdma_copy.proofs.Laws.{side_same}
use Rattle.rdma_copy.specs.declared.copy.CopyRecord.{CopyRecord}
use Rattle.block_server.specs.Advances.{CopiesMore, IsOwnCopy}
use Rattle.block_server.specs.SiteState.{AreReady}
use Rattle.block_server.proofs.Laws.{copy_stays}
use Rattle.vscsi_client.specs.Transferred.{FitRows}
use Rattle.vscsi_client.specs.declared.TheConstants.{MIN_PAGES}
use Rattle.vcpu_run.specs.declared.driver.Driver.{Driver}
use Rattle.vcpu_run.specs.declared.pair.Pair.{Pair}
use Rattle.vcpu_run.specs.LinesShow.{Sees, seen_at}
use Rattle.vcpu_run.specs.Machines.{AllStay, KeepsDriver, KeepsEntries, Stays}
use Rattle.block_server.specs.Makers.{AreNamed}
use Rattle.vcpu_run.specs.Named.{absent_unit}
use Rattle.vcpu_run.proofs.AnswersSeen.{responses_grow}
use Rattle.vcpu_run.proofs.LinesShown.{drives_sees, sees_on, sees_same}
use Rattle.vcpu_run.proofs.PairNames.{names_driven, names_served, none_keeps}
use Rattle.vcpu_run.specs.Pairs.{AreDriven, AreDrivers, ArePairs, Drives, GoesOn, IsCopyOf, IsDriver, IsPair}
use Rattle.vcpu_run.proofs.Listed.{came_from, each_same, each_then, held_then}
use Rattle.vcpu_run.proofs.ValuesBehind.{begins_self, begins_then}

-- the copies of a unit stay lawful, and those that it made since are
copies_stay : (old new : Pair) (before after : List CopyRecord) → new.server ≡ old.server
    → SideGrows (side_at (known_of old.own)) (side_at (known_of new.own)) → SideGrows (side_at (known_of old.window)) (side_at (known_of new.window))
    → CopiesMore (known_of new.own) (known_of new.window) before after → All (IsCopyOf old) before → All (IsCopyOf new) after
copies_stay old new before after server own window more all =
    subst (All (IsCopyOf new)) (sym more.made)
    (All-append (IsCopyOf new) before more.more
    (All-weaker (IsCopyOf old) (IsCopyOf new)
    (λ copy is named. copy_stays (known_of old.own) (known_of new.own) (known_of old.window) (known_of new.window) own window copy (is (named ∙ server)))
    before all)
    (All-weaker (IsOwnCopy (known_of new.own) (known_of new.window)) (IsCopyOf new) (λ copy is named. is) more.more more.lawful))

-- a driver is that of its window as long as the window keeps its unit and its size
pub driver_stays : (old new : WindowValue) (driver : Option Driver) → (known_of new).place ≡ (known_of old).place → SideGrows (side_at (known_of old)) (side_at (known_of new))
    → IfSome driver (IsDriver old) → IfSome driver (IsDriver new)
driver_stays old new driver place grows is =
    let size : length new.pages ≡ length old.pages = ap (λ (place : PortPlace). place.size) place in
    let unit : new.unit ≡ old.unit = ap (λ (place : PortPlace). place.unit) place in
    IfSome_then driver is (λ driver is. record {
      unit = unit ∙ is.unit;
      pages = subst (λ n. MIN_PAGES ≤ n) (sym size) is.pages;
      rows = subst (λ n. FitRows n driver.client) (sym size) is.rows;
      slots = is.slots;
      answers = responses_grow (side_at (known_of old)) (side_at (known_of new)) grows driver.answers.items is.answers;
    })

-- the driver of a pair is that of the same unit
driver_same : (driver : Option Driver) → KeepsDriver driver driver
driver_same None = refl
driver_same (Some driver) = refl

driver_goes : (before after : WindowValue) (old new : Option Driver) → GoesOn before after old new → KeepsDriver old new
driver_goes before after None new goes = goes
driver_goes before after (Some old) None goes = absurd goes
driver_goes before after (Some old) (Some new) goes = goes.0

-- a pair without a client stays one
absent_stays : (old new : Pair) → new.server ≡ old.server → new.driver ≡ old.driver → new.window.unit ≡ old.window.unit
    → IfNone old.driver (old.window.unit ≡ absent_unit old.server) → IfNone new.driver (new.window.unit ≡ absent_unit new.server)
absent_stays old new server driver window is =
    none_keeps (old.window.unit ≡ absent_unit old.server) (new.window.unit ≡ absent_unit new.server) old.driver new.driver
    (subst (KeepsDriver old.driver) (sym driver) (driver_same old.driver)) (λ e. window ∙ (e ∙ ap absent_unit (sym server))) is

-- A turn of the server unit.
pub served : (home k : ℕ) (before after : List CopyRecord) (old new : Pair) → new.server ≡ old.server → new.driver ≡ old.driver
    → (known_of new.own).place ≡ (known_of old.own).place → (known_of new.window).place ≡ (known_of old.window).place
    → SideGrows (side_at (known_of old.own)) (side_at (known_of new.own)) → SideGrows (side_at (known_of old.window)) (side_at (known_of new.window))
    → AreReady (known_of new.own) (known_of new.window)
    → ((event : Entry) → (side_of new.link true).kept ≡ Some event → event ≡ partner_freed)
    → CopiesMore (known_of new.own) (known_of new.window) before after
    → (AreNamed (side_at (known_of old.own)) before → AreNamed (side_at (known_of new.own)) after)
    → (AreNamed (side_at (known_of old.window)) before → AreNamed (side_at (known_of new.window)) after)
    → IsPair home before k old → IsPair home after k new
served home k before after old new server driver own_place window_place own window ready event more own_named named is = record {
  server = server ∙ is.server;
  own_unit = ap (λ (place : PortPlace). place.unit) own_place ∙ (is.own_unit ∙ sym server);
  ready = ready;
  event = event;
  copies = copies_stay old new before after server own window more is.copies;
  driver = subst (λ driver. IfSome driver (IsDriver new.window)) (sym driver) (driver_stays old.window new.window old.driver window_place window is.driver);
  names = names_served old new before after server own.unit window.unit (own.unit ∙ (is.own_unit ∙ sym server)) more own_named named is.names;
  absent = absent_stays old new server driver window.unit is.absent;
}

goes_on : (before after : WindowValue) (old new : Option Driver) → GoesOn before after old new → IfSome old (IsDriver before) → IfSome new (IsDriver after)
goes_on before after None None goes is = tt
goes_on before after None (Some driver) goes is = cc
goes_on before after (Some driver) None goes is = absurd goes
goes_on before after (Some driver) (Some later) goes is = goes.1 is

pub own_stays : (old new : Pair) → new.own ≡ old.own → SideGrows (side_at (known_of old.own)) (side_at (known_of new.own))
own_stays old new same =
    subst (λ (window : WindowValue). SideGrows (side_at (known_of old.own)) (side_at (known_of window))) (sym same) (side_same (side_at (known_of old.own)))

absent_driven : (old new : Pair) → Drives old new
    → IfNone old.driver (old.window.unit ≡ absent_unit old.server) → IfNone new.driver (new.window.unit ≡ absent_unit new.server)
absent_driven old new d is =
    none_keeps (old.window.unit ≡ absent_unit old.server) (new.window.unit ≡ absent_unit new.server) old.driver new.driver
    (driver_goes old.window new.window old.driver new.driver d.driver) (λ e. d.unit ∙ (e ∙ ap absent_unit (sym d.server))) is

-- A turn of the client's partition.
pub driven : (home k : ℕ) (made : List CopyRecord) (old new : Pair) → Drives old new → IsPair home made k old → IsPair home made k new
driven home k made old new d is = record {
  server = d.server ∙ is.server;
  own_unit = ap (λ (window : WindowValue). window.unit) d.own ∙ (is.own_unit ∙ sym d.server);
  ready = record {
    size = ap (λ (window : WindowValue). length window.pages) d.own ∙ is.ready.size;
    first = λ e less. ap (λ (window : WindowValue). (known_of window).values e) d.own ∙ is.ready.first e less;
    own_free = ap (λ (window : WindowValue). window.held_count) d.own ∙ is.ready.own_free;
    client_free = d.held ∙ is.ready.client_free;
    apart = λ e. is.ready.apart (sym d.unit ∙ (e ∙ ap (λ (window : WindowValue). window.unit) d.own));
  };
  event = λ event kept. is.event event (sym d.event ∙ kept);
  copies = All-weaker (IsCopyOf old) (IsCopyOf new)
      (λ copy is named. copy_stays (known_of old.own) (known_of new.own) (known_of old.window) (known_of new.window) (own_stays old new d.own) d.grows copy (is (named ∙ d.server)))
      made is.copies;
  driver = goes_on old.window new.window old.driver new.driver d.driver is.driver;
  names = names_driven old new made d is.names;
  absent = absent_driven old new d is.absent;
}

pub pairs_driven : (home : ℕ) (made : List CopyRecord) (old new : List Pair) → AreDriven old new → ArePairs home made old → ArePairs home made new
pairs_driven home made old new d are k pair found =
    let from = came_from Drives old new d.count d.each k pair found in
    driven home k made from.0 pair from.2 (are k from.0 from.1)

pub drivers_driven : (old new : List Pair) → AreDriven old new → AreDrivers old → AreDrivers new
drivers_driven old new d are k pair found =
    let from = came_from Drives old new d.count d.each k pair found in
    goes_on from.0.window pair.window from.0.driver pair.driver from.2.driver (are k from.0 from.1)

pub drivers_of : (home : ℕ) (made : List CopyRecord) (pairs : List Pair) → ArePairs home made pairs → AreDrivers pairs
drivers_of home made pairs are k pair found = (are k pair found).driver

driver_then : (a b c : Option Driver) → KeepsDriver a b → KeepsDriver b c → KeepsDriver a c
driver_then None None c one two = two
driver_then None (Some b) c one two = cc
driver_then (Some a) None c one two = absurd one
driver_then (Some a) (Some b) None one two = absurd two
driver_then (Some a) (Some b) (Some c) one two = two ∙ one

pub driver_keeps : (id : UnitId) (old new : Option Driver) → KeepsDriver old new
    → IsSomeAnd old (λ driver. driver.unit ≡ id) → IsSomeAnd new (λ driver. driver.unit ≡ id)
driver_keeps id None new keeps is = absurd is
driver_keeps id (Some old) None keeps is = absurd keeps
driver_keeps id (Some old) (Some new) keeps is = keeps ∙ is

pub stays_same : (pair : Pair) → Stays pair pair
stays_same pair = record {
  server = refl;
  server_slots = refl;
  client_slots = refl;
  pages = refl;
  driver = driver_same pair.driver;
  own_unit = refl;
  client_unit = refl;
  held = refl;
}

stays_then : (a b c : Pair) → Stays a b → Stays b c → Stays a c
stays_then a b c one two = record {
  server = two.server ∙ one.server;
  server_slots = two.server_slots ∙ one.server_slots;
  client_slots = two.client_slots ∙ one.client_slots;
  pages = two.pages ∙ one.pages;
  driver = driver_then a.driver b.driver c.driver one.driver two.driver;
  own_unit = two.own_unit ∙ one.own_unit;
  client_unit = two.client_unit ∙ one.client_unit;
  held = two.held ∙ one.held;
}

drives_stays : (old new : Pair) → Drives old new → Stays old new
drives_stays old new d = record {
  server = d.server;
  server_slots = d.server_slots;
  client_slots = d.client_slots;
  pages = d.pages;
  driver = driver_goes old.window new.window old.driver new.driver d.driver;
  own_unit = ap (λ (window : WindowValue). window.unit) d.own;
  client_unit = d.unit;
  held = d.held;
}

-- what there was at a pair is there
abbrev SeesPair : Pair → Pair → Type 0
SeesPair old new = Sees (seen_at old) (seen_at new)

pub entries_same : (pair : Pair) → KeepsEntries pair pair
entries_same pair entry = begins_self ((known_of pair.window).values entry)

entries_then : (a b c : Pair) → KeepsEntries a b → KeepsEntries b c → KeepsEntries a c
entries_then a b c one two entry =
    begins_then ((known_of a.window).values entry) ((known_of b.window).values entry) ((known_of c.window).values entry) (one entry) (two entry)

pub all_same : (pairs : List Pair) → AllStay pairs pairs
all_same pairs = record {
  count = refl;
  each = each_same Stays pairs stays_same;
  sees = each_same SeesPair pairs (λ pair. sees_same (seen_at pair));
  values = each_same KeepsEntries pairs entries_same;
}

pub all_then : (a b c : List Pair) → AllStay a b → AllStay b c → AllStay a c
all_then a b c one two = record {
  count = two.count ∙ one.count;
  each = each_then Stays a b c stays_then one.each two.each;
  sees = each_then SeesPair a b c (λ x y z. sees_on (seen_at x) (seen_at y) (seen_at z)) one.sees two.sees;
  values = each_then KeepsEntries a b c entries_then one.values two.values;
}

pub driven_stay : (old new : List Pair) → AreDriven old new → AllStay old new
driven_stay old new d = record {
  count = d.count;
  each = λ k pair found. held_then (Drives pair) (Stays pair) (slice_get new k) (drives_stays pair) (d.each k pair found);
  sees = λ k pair found. held_then (Drives pair) (SeesPair pair) (slice_get new k) (drives_sees pair) (d.each k pair found);
  values = λ k pair found. held_then (Drives pair) (KeepsEntries pair) (slice_get new k) (λ later drives. drives.grows.values) (d.each k pair found);
}
