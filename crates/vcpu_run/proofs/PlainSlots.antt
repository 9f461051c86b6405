-- The slots of a plain client's window: which ranges they are, what stands in them behind a write elsewhere, and what an entry of a unit says.
use Rattle.std.proofs.Common.{◌≡◌, ◌≢◌, ◌∙◌, ◌⊎◌, inl, inr, ℕ, ◌^◌, ◌<◌, ◌≤◌, ◌==◌, ◌&&◌, true, false, List, [], ◌∷◌, length, refl, sym, ap, ap₂, subst, arith}
use Rattle.std.specs.Prelude.{⊤}
use Rattle.std.proofs.lemmas.Bool.{cases_lt}
use Rattle.byteorder.specs.Numbers.{big_number-reads_back}
use Rattle.vio_num.specs.Entry.{entry_format, first_byte, is_srp_entry, iu_address, iu_length, srp_entry}
use Rattle.vio_num.specs.declared.entry.Entry.{Entry}
use Rattle.tce_window.specs.Pieces.{IsUsable}
use Rattle.tce_window.specs.PortState.{OnlyWrites, PortState, Writes}
use Rattle.tce_window.specs.declared.answers.Right.TheVariants.{Read}
use Rattle.block_server.specs.Talk.{SayWords, SaysWord, Word}
use Rattle.block_server.specs.Talk.Word.{asks, begins, gone}
use Rattle.vscsi_client.specs.Units.{slot_address}
use Rattle.vscsi_client.specs.declared.TheConstants.{DATA_START, SLOTS}
use Rattle.vcpu_run.specs.PlainTalk.{AreSaidThere, Ask, HasRights, IsAsk, IsOwnWindow, IsSaidThere, KeepsSlots, ShowsAt, shown, word_of}
use Rattle.vcpu_run.proofs.PlainStands.{IsOnPage, shown_stand, slot_usable}
use Rattle.vcpu_run.proofs.PlainStays.{Apart, laid_apart}
use Rattle.vcpu_run.proofs.PlainUnits.{canon_some, canon_spells}
use Rattle.vcpu_run.proofs.PlainRejected.{laid_stay}
use Rattle.unit_region.specs.RegionLines.{IsOn}

-- ---- ranges

-- so many bytes of a slot lie on one page of the region
pub slot_on : (window : PortState) → IsOwnWindow window → (slot len : ℕ) → slot ≤ SLOTS → 1 ≤ len → len ≤ 256 → IsOnPage window (slot_address slot) len
slot_on window own slot len within some few = record {
  some = some;
  fits = omega (arith, few);
  inside = omega (arith, within, own.size);
  front = omega (arith, within);
}

-- two slots have no byte in common, nor has what lies behind them
pub slots_apart : (slot other n : ℕ) → slot ≢ other → n ≤ 256 → Apart (slot_address slot) n (slot_address other) 256
slots_apart slot other n differ few = by (cases_lt slot other) (cases_lt other slot)
  where
    by : (slot < other) ⊎ (other ≤ slot) → (other < slot) ⊎ (slot ≤ other) → Apart (slot_address slot) n (slot_address other) 256
    by (inl less) more = inl (omega (arith, less, few))
    by (inr least) (inl more) = inr (omega (arith, more))
    by (inr least) (inr most) = absurd (differ (omega (arith, least, most)))

pub behind_apart : (at n slot : ℕ) → slot ≤ SLOTS → DATA_START ≤ at → Apart at n (slot_address slot) 256
behind_apart at n slot within behind = inr (omega (arith, within, behind))

-- ---- what stays

-- the slots stay that are apart from a write
pub write_keeps : (spared : ℕ → Type 0) (old new : PortState) (at mark : ℕ) (bytes : List ℕ) → IsOwnWindow old → Writes false old at bytes mark new → OnlyWrites old new
    → ((slot : ℕ) → slot ≤ SLOTS → spared slot → Apart at (length bytes) (slot_address slot) 256) → KeepsSlots spared old new
write_keeps spared old new at mark bytes own wrote only apart = record { strokes = laid_stay old new at mark bytes wrote; slots = stood; unit = ap (λ place. place.unit) only.place }
  where
    stood : (slot : ℕ) (list : List ℕ) → slot ≤ SLOTS → spared slot → length list ≡ 256 → ShowsAt old (slot_address slot) list → ShowsAt new (slot_address slot) list
    stood slot list within spares whole shows =
        let on : IsOnPage old (slot_address slot) (length list) = slot_on old own slot (length list) within (omega (arith, whole)) (omega (arith, whole)) in
        laid_apart old new at mark bytes (slot_address slot) (length list) wrote on.some on.fits
        (subst (λ n. Apart at (length bytes) (slot_address slot) n) (sym whole) (apart slot within spares)) ∙ shows

pub keeps_on : (spared : ℕ → Type 0) (a b c : PortState) → KeepsSlots (λ slot. ⊤) a b → KeepsSlots spared b c → KeepsSlots spared a c
keeps_on spared a b c first next = record {
  slots = λ slot bytes within spares whole shows. next.slots slot bytes within spares whole (first.slots slot bytes within tt whole shows);
  strokes = λ page stroke is. next.strokes page stroke (first.strokes page stroke is);
  unit = next.unit ∙ first.unit;
}

pub keeps_same : (old new : PortState) → new ≡ old → KeepsSlots (λ slot. ⊤) old new
keeps_same old new same = record {
  slots = λ slot bytes within spares whole shows. subst (λ (w : PortState). ShowsAt w (slot_address slot) bytes) (sym same) shows;
  strokes = λ page stroke is. subst (λ (w : PortState). IsOn stroke (w.strokes page)) (sym same) is;
  unit = ap (λ (w : PortState). w.place.unit) same;
}

-- ---- what the entry of a unit says

usable_front : (window : PortState) → IsOwnWindow window → HasRights window → (slot len : ℕ) → slot ≤ SLOTS → 1 ≤ len → len ≤ 256
    → IsUsable window.values Read window.place.size (slot_address slot) len
usable_front window own rights slot len within some few = λ e from below. slot_usable window own rights Read slot within e from (omega (arith, below, few, some))

pub entry_long : (n low : ℕ) → n ≤ 256 → iu_length (srp_entry n low) ≡ n
entry_long n low few = omega (arith, few)

pub entry_srp : (n low : ℕ) → n ≤ 256 → is_srp_entry (srp_entry n low) ≡ true
entry_srp n low few =
    let first : first_byte (srp_entry n low) ≡ 0x80 = omega (arith, few) in
    let format : entry_format (srp_entry n low) ≡ 0x01 = omega (arith, few) in
    ap₂ (λ (f g : ℕ). f == 0x80 && g == 0x01) first format

pub entry_address : (n low : ℕ) → low < 256 ^ 8 → iu_address (srp_entry n low) ≡ low
entry_address n low few = big_number-reads_back 8 low [] few

-- the unit that was written into its slot is what the entry asks
pub unit_said : (window : PortState) (ask : Ask) → IsAsk ask → shown window (slot_address ask.slot) (length ask.bytes) ≡ ask.bytes
    → IsSaidThere window (srp_entry (length ask.bytes) (slot_address ask.slot)) (word_of ask)
unit_said window ask is show = record {
  srp = entry_srp (length ask.bytes) (slot_address ask.slot) few;
  address_is = entry_address (length ask.bytes) (slot_address ask.slot) (omega (arith, is.slot_is));
  slot = ask.slot;
  within = is.slot_is;
  slot_is = refl;
  long = entry_long (length ask.bytes) (slot_address ask.slot) few;
  some = some;
  few = few;
  shows = show;
  spelled = canon_spells ask.bytes ask.iu is.canonical;
}
  where
    some : 1 ≤ length ask.bytes
    some = canon_some ask.bytes ask.iu is.canonical

    few : length ask.bytes ≤ 256
    few = is.canonical.within

-- what is said there is said, if it may be read
word_said : (window : PortState) → IsOwnWindow window → HasRights window → (entry : Entry) (word : Word) → IsSaidThere window entry word → SaysWord window entry word
word_said window own rights entry begins said = said
word_said window own rights entry gone said = said
word_said window own rights entry (asks address bytes iu) said = record {
  srp = said.srp;
  address_is = said.address_is;
  long = said.long;
  some = said.some;
  few = said.few;
  may = subst (λ (a : ℕ). IsUsable window.values Read window.place.size a (length bytes)) (sym said.slot_is)
      (usable_front window own rights said.slot (length bytes) said.within said.some said.few);
  stand = shown_stand window own address bytes
      (subst (λ (a : ℕ). IsOnPage window a (length bytes)) (sym said.slot_is) (slot_on window own said.slot (length bytes) said.within said.some said.few)) said.shows;
  spelled = said.spelled;
}

pub words_said : (window : PortState) → IsOwnWindow window → HasRights window → (entries : List Entry) (words : List Word) → AreSaidThere window entries words → SayWords window entries words
words_said window own rights [] [] said = tt
words_said window own rights [] (word ∷ words) said = absurd said
words_said window own rights (entry ∷ entries) [] said = absurd said
words_said window own rights (entry ∷ entries) (word ∷ words) said = (word_said window own rights entry word said.0, words_said window own rights entries words said.1)
