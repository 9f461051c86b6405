-- What stays of a client's window as a server unit lays the data-in of the oldest request: the slots, and the tables on pages that its data spare.
use Rattle.std.proofs.Common.{◌≡◌, ◌∙◌, ◌⊎◌, inl, inr, ℕ, ◌+◌, ◌*◌, ◌/◌, ◌%◌, ◌<◌, ◌≤◌, false, List, [], Option, Some, None, IsSome, append-nil, length, refl, sym, ap, subst, arith}
use Rattle.std.specs.Prelude.{⊤}
use Rattle.std.proofs.lemmas.List.Elements.{All-nil, All-weaker}
use Rattle.page_slots.specs.Stroke.{StrokeValue}
use Rattle.page_slots.specs.declared.stroke.StrokeName.{StrokeName}
use Rattle.tce_window.specs.PortState.{PortPlace, PortState}
use Rattle.vio_num.specs.declared.history.Served.{Served}
use Rattle.block_server.specs.Bearing.{BearsRow, IsNamedPart, StrokeBears}
use Rattle.block_server.specs.Ranges.{AddsEach, Known, known_in}
use Rattle.block_server.specs.Standing.{stood}
use Rattle.block_server.specs.Talk.{order_asked}
use Rattle.block_server.specs.declared.request.Order.{Order}
use Rattle.vscsi_client.specs.Spans.{meets}
use Rattle.vscsi_client.specs.Units.{slot_address}
use Rattle.vscsi_client.specs.declared.TheConstants.{DATA_START, SLOTS}
use Rattle.vscsi_client.specs.declared.outgoing.Span.{Span}
use Rattle.vcpu_run.specs.PlainTalk.{Ask, DataLies, IsOwnEntry, IsOwnWindow, KeepsSlots, KeepsTables, ShowsAt, shown, shown_on}
use Rattle.vcpu_run.proofs.OwnData.{IsDataStroke, IsPast, data_stroke, shown_past}
use Rattle.vcpu_run.proofs.OwnLays.{adds_weaker}
use Rattle.vcpu_run.proofs.PlainData.{GoesOn, IsOfTable, data_stays, spans_apart}
use Rattle.vcpu_run.proofs.PlainRejected.{adds_stay}
use Rattle.vcpu_run.proofs.PlainSlots.{behind_apart, slot_on}
use Rattle.vcpu_run.proofs.PlainStands.{IsOnPage}
use Rattle.vcpu_run.proofs.PlainStays.{Apart}
use Rattle.vcpu_run.proofs.PlainTables.{region_same}

-- ---- what is laid

-- No value was put, and nothing was laid but data of what was asked.
pub record LaysData (ask : Ask) (old new : PortState) : Type 0 where
  pub values : new.values ≡ old.values
  pub strokes : (page : ℕ) → AddsEach (IsDataStroke ask.pages page) (old.strokes page) (new.strokes page)

adds_none : (P : StrokeValue → Type 0) (strokes : Option (List StrokeValue)) → AddsEach P strokes strokes
adds_none P None = tt
adds_none P (Some strokes) = ([], sym (append-nil strokes), All-nil P)

same_known : (a b : Known) → Some a ≡ Some b → a ≡ b
same_known a b e = cc (e)

pub bears_data : (old new : PortState) → IsOwnWindow old → (ask : Ask) → DataLies old ask → (name : StrokeName) (order : Order) → order ≡ order_asked ask.iu → (rows : List Served)
    (place : Option ℕ) → BearsRow (stood old) name order rows place (Some (known_in old)) (Some (known_in new)) → LaysData ask old new
bears_data old new own ask lies name order asked rows place (inl same) =
    let known : known_in new ≡ known_in old = same_known (known_in new) (known_in old) same in
    record {
      values = ap (λ (k : Known). k.values) known;
      strokes = λ page. subst (λ (k : Known). AddsEach (IsDataStroke ask.pages page) (old.strokes page) (k.strokes page)) (sym known) (adds_none (IsDataStroke ask.pages page) (old.strokes page));
    }
bears_data old new own ask lies name order asked rows place (inr (at, row, there, found, bears)) = record {
  values = bears.values;
  strokes = λ page. adds_weaker (StrokeBears old.values (IsNamedPart (stood old) name order row.inn) page) (IsDataStroke ask.pages page)
      (data_stroke old own ask lies name order asked row.inn page) (old.strokes page) (new.strokes page) (bears.strokes page);
}

-- ---- what stays

past_on : (span : Span) (page start count : ℕ) → ((b n : ℕ) → GoesOn span b n → Apart b n (4096 * page + start) count) → (stroke : StrokeValue) → IsDataStroke span page stroke → IsPast start count stroke
past_on span page start count apart stroke is = by is.lies
  where
    by : (length stroke.bytes ≡ 0) ⊎ GoesOn span (4096 * page + stroke.offset) (length stroke.bytes) → IsPast start count stroke
    by (inl none) = inl none
    by (inr goes) = inr (record { within = is.within; apart = on (apart (4096 * page + stroke.offset) (length stroke.bytes) goes) })
      where
        on : Apart (4096 * page + stroke.offset) (length stroke.bytes) (4096 * page + start) count → (stroke.offset + length stroke.bytes ≤ start) ⊎ (start + count ≤ stroke.offset)
        on (inl before) = inl (omega (arith, before))
        on (inr behind) = inr (omega (arith, behind))

adds_past : (P : StrokeValue → Type 0) (old new : Option (List StrokeValue)) (start count : ℕ) → start + count ≤ 4096 → AddsEach P old new → ((stroke : StrokeValue) → P stroke → IsPast start count stroke)
    → shown_on new start count ≡ shown_on old start count
adds_past P (Some old) (Some new) start count inside adds past =
    ap (λ (list : List StrokeValue). shown_on (Some list) start count) adds.1 ∙ shown_past old adds.0 start count inside (All-weaker P (IsPast start count) past adds.0 adds.2)
adds_past P None None start count inside adds past = refl
adds_past P (Some old) None start count inside adds past = absurd adds
adds_past P None (Some new) start count inside adds past = absurd adds

pub data_shown : (ask : Ask) (old new : PortState) → LaysData ask old new → (address len : ℕ) → address % 4096 + len ≤ 4096
    → ((b n : ℕ) → GoesOn ask.pages b n → Apart b n address len) → shown new address len ≡ shown old address len
data_shown ask old new lays address len fits apart =
    adds_past (IsDataStroke ask.pages (address / 4096)) (old.strokes (address / 4096)) (new.strokes (address / 4096)) (address % 4096) len fits (lays.strokes (address / 4096))
    (past_on ask.pages (address / 4096) (address % 4096) len (λ b n goes. subst (λ a. Apart b n a len) (omega arith) (apart b n goes)))

pub data_slots : (ask : Ask) (old new : PortState) → IsOwnWindow old → new.place ≡ old.place → LaysData ask old new → KeepsSlots (λ slot. ⊤) old new
data_slots ask old new own place lays = record {
  slots = stay;
  strokes = λ page stroke is. adds_stay (IsDataStroke ask.pages page) (old.strokes page) (new.strokes page) stroke (lays.strokes page) is;
  unit = ap (λ (p : PortPlace). p.unit) place;
}
  where
    stay : (slot : ℕ) (bytes : List ℕ) → slot ≤ SLOTS → ⊤ → length bytes ≡ 256 → ShowsAt old (slot_address slot) bytes → ShowsAt new (slot_address slot) bytes
    stay slot bytes within spares whole shows =
        let on : IsOnPage old (slot_address slot) (length bytes) = slot_on old own slot (length bytes) within (omega (arith, whole)) (omega (arith, whole)) in
        data_shown ask old new lays (slot_address slot) (length bytes) on.fits
        (λ b n goes. subst (λ m. Apart b n (slot_address slot) m) (sym whole) (behind_apart b n slot within goes.behind))
        ∙ shows

pub data_tables : (ask : Ask) (old new : PortState) → LaysData ask old new → KeepsTables (λ other. meets ask.pages other.table ≡ false) old new
data_tables ask old new lays other apart table =
    data_stays old new other (λ a of. region_same old new a (data_shown ask old new lays a 1 (omega arith) (beside a of))) table
  where
    beside : (a : ℕ) → IsOfTable other a → (b n : ℕ) → GoesOn ask.pages b n → Apart b n a 1
    beside a of b n there = by (spans_apart ask.pages other.table apart)
      where
        by : (other.table.end ≤ ask.pages.first) ⊎ (ask.pages.end ≤ other.table.first) → Apart b n a 1
        by (inl before) = inr (omega (arith, before, of.to, there.from))
        by (inr behind) = inl (omega (arith, behind, of.from, there.to))

pub data_own : (ask : Ask) (old new : PortState) → IsOwnWindow old → new.place ≡ old.place → LaysData ask old new → IsOwnWindow new
data_own ask old new own place lays = record {
  values = λ e. subst (IsOwnEntry e) (sym (ap (λ (values : ℕ → List ℕ). values e) lays.values)) (own.values e);
  size = subst (λ n. DATA_START ≤ 4096 * n) (sym (ap (λ (p : PortPlace). p.size) place)) own.size;
  most = subst (λ n. n ≤ 256) (sym (ap (λ (p : PortPlace). p.size) place)) own.most;
  there = λ p below. still (IsDataStroke ask.pages p) (old.strokes p) (new.strokes p) (lays.strokes p)
      (own.there p (subst (λ n. p < n) (ap (λ (p : PortPlace). p.size) place) below));
}
  where
    still : (P : StrokeValue → Type 0) (old new : Option (List StrokeValue)) → AddsEach P old new → IsSome old → IsSome new
    still P (Some old) (Some new) adds there = refl
    still P None new adds there = absurd (cc (there))
    still P (Some old) None adds there = absurd adds
