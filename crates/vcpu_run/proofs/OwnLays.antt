-- What stays of a client's window where a server unit lays strokes in some ranges: the slots and the tables that are apart from those; and what shows
-- where it wrote.
use Rattle.std.proofs.Common.{◌≡◌, ◌∙◌, ℕ, ◌/◌, ◌%◌, ◌≤◌, List, Option, Some, None, length, sym, ap, subst, arith}
use Rattle.std.proofs.lemmas.List.Elements.{All-weaker}
use Rattle.page_slots.specs.Stroke.{StrokeValue}
use Rattle.page_slots.specs.declared.stroke.StrokeName.{StrokeName}
use Rattle.tce_window.specs.PortState.{PortState}
use Rattle.vio_num.specs.declared.TheConstants.{PAGE_BYTES}
use Rattle.block_server.specs.Bearing.{BearsWithin, StrokeBears, Writing}
use Rattle.block_server.specs.Ranges.{AddsEach, Known, LaysWithin, StrokeLiesInOne, known_in}
use Rattle.block_server.specs.Standing.{IsShown}
use Rattle.vscsi_client.specs.Units.{slot_address}
use Rattle.vscsi_client.specs.declared.TheConstants.{SLOTS}
use Rattle.vcpu_run.specs.PlainTalk.{Ask, DataLies, IsOwnWindow, KeepsSlots, ShowsAt, shown_on}
use Rattle.vcpu_run.proofs.PlainData.{IsOfTable, data_stays}
use Rattle.vcpu_run.proofs.PlainLeaves.{lays_apart}
use Rattle.vcpu_run.proofs.PlainRejected.{adds_stay}
use Rattle.vcpu_run.proofs.PlainSlots.{slot_on}
use Rattle.vcpu_run.proofs.PlainStands.{IsOnPage}
use Rattle.vcpu_run.proofs.PlainStays.{Apart}
use Rattle.vcpu_run.proofs.PlainTables.{region_same}

-- ---- strokes lie where they were written

pub adds_weaker : (P Q : StrokeValue → Type 0) → ((stroke : StrokeValue) → P stroke → Q stroke) → (old new : Option (List StrokeValue)) → AddsEach P old new → AddsEach Q old new
adds_weaker P Q weaker (Some old) (Some new) adds = (adds.0, adds.1, All-weaker P Q weaker adds.0 adds.2)
adds_weaker P Q weaker None None adds = tt
adds_weaker P Q weaker (Some old) None adds = absurd adds
adds_weaker P Q weaker None (Some new) adds = absurd adds

pub bears_lay : (Writes : Writing) (Ranges : (address len : ℕ) → Type 0) (old new : Known)
    → ((address : ℕ) (bytes : List ℕ) (name : StrokeName) → Writes address bytes name → Ranges address (length bytes)) → BearsWithin Writes old new → LaysWithin Ranges old new
bears_lay Writes Ranges old new range bears = record {
  values = bears.values;
  strokes = λ page. adds_weaker (StrokeBears old.values Writes page) (StrokeLiesInOne old.values Ranges page)
      (λ stroke is. record { address = is.address; len = length is.bytes; range = range is.address is.bytes stroke.name is.writes; lies = is.lies })
      (old.strokes page) (new.strokes page) (bears.strokes page);
}

-- ---- what stays

pub lays_slots : (Ranges : (address len : ℕ) → Type 0) (spared : ℕ → Type 0) (old new : PortState) → IsOwnWindow old → new.place ≡ old.place
    → LaysWithin Ranges (known_in old) (known_in new) → ((slot : ℕ) → slot ≤ SLOTS → spared slot → (a n : ℕ) → Ranges a n → Apart a n (slot_address slot) 256)
    → KeepsSlots spared old new
lays_slots Ranges spared old new own place lays apart = record {
  slots = stay;
  strokes = λ page stroke is. adds_stay (StrokeLiesInOne old.values Ranges page) (old.strokes page) (new.strokes page) stroke (lays.strokes page) is;
  unit = ap (λ place. place.unit) place;
}
  where
    stay : (slot : ℕ) (bytes : List ℕ) → slot ≤ SLOTS → spared slot → length bytes ≡ 256 → ShowsAt old (slot_address slot) bytes → ShowsAt new (slot_address slot) bytes
    stay slot bytes within spares whole shows =
        let on : IsOnPage old (slot_address slot) (length bytes) = slot_on old own slot (length bytes) within (omega (arith, whole)) (omega (arith, whole)) in
        lays_apart Ranges old new (slot_address slot) (length bytes) own lays on.fits
        (λ a n range. subst (λ m. Apart a n (slot_address slot) m) (sym whole) (apart slot within spares a n range))
        ∙ shows

pub lays_tables : (Ranges : (address len : ℕ) → Type 0) (old new : PortState) → IsOwnWindow old → LaysWithin Ranges (known_in old) (known_in new) → (other : Ask)
    → ((a : ℕ) → IsOfTable other a → (b n : ℕ) → Ranges b n → Apart b n a 1) → DataLies old other → DataLies new other
lays_tables Ranges old new own lays other beside lies =
    data_stays old new other (λ a of. region_same old new a (lays_apart Ranges old new a 1 own lays (omega arith) (beside a of))) lies

-- ---- what shows

pub is_shown : (window : PortState) → IsOwnWindow window → (address : ℕ) (bytes : List ℕ) → IsShown window address bytes → ShowsAt window address bytes
is_shown window own address bytes is =
    ap (λ (now : Option (List StrokeValue)). shown_on now (address % 4096) (length bytes)) (subst (λ p. window.strokes p ≡ Some is.strokes) (sym page) is.there) ∙ is.shows
  where
    page : address / 4096 ≡ is.page
    page = sym ((own.values (address / PAGE_BYTES)).names is.named.version is.named.value is.named.current.shown) ∙ is.named.named
