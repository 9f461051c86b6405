-- What stays of a client's window where nothing is laid in it, or elsewhere: what shows in the slots, what the entries that are to come ask, what
-- its tables say, and which rights its entries have.
use Rattle.std.proofs.Common.{◌≡◌, ◌∙◌, inl, inr, ℕ, ◌*◌, ◌/◌, ◌%◌, ◌<◌, ◌≤◌, All, List, [], ◌∷◌, Option, IsSome, length, map, sym, take, ap, subst, arith}
use Rattle.std.specs.Prelude.{⊤}
use Rattle.std.proofs.lemmas.List.Elements.{All-head, All-tail, All-weaker}
use Rattle.page_slots.specs.Stroke.{StrokeValue}
use Rattle.vio_num.specs.declared.entry.Entry.{Entry}
use Rattle.tce_window.specs.Pieces.{IsUsable}
use Rattle.tce_window.specs.PortState.{PortPlace, PortState}
use Rattle.tce_window.specs.declared.answers.Right.{Right}
use Rattle.tce_window.specs.declared.answers.Right.TheVariants.{Read, Write}
use Rattle.unit_region.specs.RegionLines.{IsOn}
use Rattle.block_server.specs.Talk.{StaysKnown}
use Rattle.vscsi_client.specs.Units.{slot_address}
use Rattle.vscsi_client.specs.declared.TheConstants.{DATA_START, SLOTS}
use Rattle.vcpu_run.specs.OwnTurns.{MayAnswer, MayRead}
use Rattle.vcpu_run.specs.PlainTalk.{AreSaidThere, Ask, IsAsk, IsOwnEntry, IsOwnWindow, KeepsSlots, KeepsTables, ShowsAt, shown, shown_on, word_of}
use Rattle.vcpu_run.proofs.PlainAnswered.{shown_front}
use Rattle.vcpu_run.proofs.PlainData.{data_same}
use Rattle.vcpu_run.proofs.PlainPages.{shown_long}
use Rattle.vcpu_run.proofs.PlainSlots.{slot_on}
use Rattle.vcpu_run.proofs.PlainStands.{IsOnPage}

-- ---- nothing was laid

abbrev Strokes : Type 0
Strokes = ℕ → Option (List StrokeValue)

pub known_slots : (old new : PortState) → StaysKnown old new → KeepsSlots (λ slot. ⊤) old new
known_slots old new stays = record {
  unit = ap (λ (place : PortPlace). place.unit) stays.place;
  strokes = λ page stroke is. subst (λ (strokes : Strokes). IsOn stroke (strokes page)) (sym stays.strokes) is;
  slots = λ slot bytes within spares whole shows.
      ap (λ (strokes : Strokes). shown_on (strokes (slot_address slot / 4096)) (slot_address slot % 4096) (length bytes)) stays.strokes ∙ shows;
}

pub known_tables : (old new : PortState) → StaysKnown old new → KeepsTables (λ ask. ⊤) old new
known_tables old new stays = data_same old new (λ p. ap (λ (strokes : Strokes). strokes p) stays.strokes)

pub known_own : (old new : PortState) → StaysKnown old new → IsOwnWindow old → IsOwnWindow new
known_own old new stays own = record {
  values = λ e. subst (IsOwnEntry e) (sym (ap (λ (values : ℕ → List ℕ). values e) stays.values)) (own.values e);
  size = subst (λ n. DATA_START ≤ 4096 * n) (sym (ap (λ (place : PortPlace). place.size) stays.place)) own.size;
  most = subst (λ n. n ≤ 256) (sym (ap (λ (place : PortPlace). place.size) stays.place)) own.most;
  there = λ p below. subst (λ (strokes : Strokes). IsSome (strokes p)) (sym stays.strokes)
      (own.there p (subst (λ n. p < n) (ap (λ (place : PortPlace). place.size) stays.place) below));
}

-- ---- what shows in a slot

-- what shows there of its first bytes, too
pub front_shows : (spared : ℕ → Type 0) (old new : PortState) → IsOwnWindow old → KeepsSlots spared old new → IsOwnWindow new → (slot : ℕ) (bytes : List ℕ) → slot ≤ SLOTS → spared slot
    → length bytes ≤ 256 → ShowsAt old (slot_address slot) bytes → ShowsAt new (slot_address slot) bytes
front_shows spared old new own keeps own' slot bytes within spares few shows =
    sym (shown_front (new.strokes page) start 256 (length bytes) (own'.there page (slot_on new own' slot 256 within (omega arith) (omega arith)).inside) few)
    ∙ ap (take (length bytes)) whole
    ∙ shown_front (old.strokes page) start 256 (length bytes) (own.there page on.inside) few
    ∙ shows
  where
    page : ℕ
    page = slot_address slot / 4096

    start : ℕ
    start = slot_address slot % 4096

    on : IsOnPage old (slot_address slot) 256
    on = slot_on old own slot 256 within (omega arith) (omega arith)

    bytes' : List ℕ
    bytes' = shown old (slot_address slot) 256

    long : length bytes' ≡ 256
    long = shown_long (old.strokes page) start 256 (own.there page on.inside) on.fits

    whole : shown new (slot_address slot) 256 ≡ bytes'
    whole = subst (λ n. shown new (slot_address slot) n ≡ bytes') long
        (keeps.slots slot bytes' within spares long (ap (λ n. shown old (slot_address slot) n) long))

-- what is to come asks the same
pub said_stays : (spared : ℕ → Type 0) (old new : PortState) → IsOwnWindow old → KeepsSlots spared old new → IsOwnWindow new → (entries : List Entry) (coming : List Ask)
    → All IsAsk coming → All (λ ask. spared ask.slot) coming → AreSaidThere old entries (map word_of coming) → AreSaidThere new entries (map word_of coming)
said_stays spared old new own keeps own' [] [] each spares said = tt
said_stays spared old new own keeps own' [] (ask ∷ coming) each spares said = absurd said
said_stays spared old new own keeps own' (entry ∷ entries) [] each spares said = absurd said
said_stays spared old new own keeps own' (entry ∷ entries) (ask ∷ coming) each spares said = (
  record {
    srp = said.0.srp;
    address_is = said.0.address_is;
    slot = said.0.slot;
    within = said.0.within;
    slot_is = said.0.slot_is;
    long = said.0.long;
    some = said.0.some;
    few = said.0.few;
    shows = front_shows spared old new own keeps own' ask.slot ask.bytes (All-head IsAsk ask coming each).slot_is (All-head (λ (one : Ask). spared one.slot) ask coming spares)
        said.0.few said.0.shows;
    spelled = said.0.spelled;
  },
  said_stays spared old new own keeps own' entries coming (All-tail IsAsk ask coming each) (All-tail (λ (one : Ask). spared one.slot) ask coming spares) said.1,
)

-- ---- rights

-- where no value was put, and the region is as it was, the rights are
pub record StaysGranted (old new : PortState) : Type 0 where
  pub place : new.place ≡ old.place
  pub values : new.values ≡ old.values

pub usable_stays : (old new : PortState) (right : Right) (address len : ℕ) → StaysGranted old new → IsUsable old.values right old.place.size address len
    → IsUsable new.values right new.place.size address len
usable_stays old new right address len stays may =
    subst (λ (values : ℕ → List ℕ). IsUsable values right new.place.size address len) (sym stays.values)
    (subst (λ (place : PortPlace). IsUsable old.values right place.size address len) (sym stays.place) may)

pub reads_stay : (old new : PortState) → StaysGranted old new → (asked : List Ask) → All (MayRead old) asked → All (MayRead new) asked
reads_stay old new stays asked all = All-weaker (MayRead old) (MayRead new) (λ ask may. usable_stays old new Read (slot_address ask.slot) (length ask.bytes) stays may) asked all

pub answers_stay : (old new : PortState) → StaysGranted old new → (asked : List Ask) → All (MayAnswer old) asked → All (MayAnswer new) asked
answers_stay old new stays asked all = All-weaker (MayAnswer old) (MayAnswer new) one asked all
  where
    one : (ask : Ask) → MayAnswer old ask → MayAnswer new ask
    one ask (inl out) = inl out
    one ask (inr may) = inr (usable_stays old new Write (slot_address ask.slot) 256 stays may)

-- a slot lies on one page: where some of it may be used, all may
pub slot_wide : (window : PortState) → IsOwnWindow window → (right : Right) (slot len : ℕ) → slot ≤ SLOTS → 1 ≤ len → len ≤ 256
    → IsUsable window.values right window.place.size (slot_address slot) len → IsUsable window.values right window.place.size (slot_address slot) 256
slot_wide window own right slot len within some few may e from below = may e from (omega (arith, from, some, on.fits))
  where
    on : IsOnPage window (slot_address slot) 256
    on = slot_on window own slot 256 within (omega arith) (omega arith)
