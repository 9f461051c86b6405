-- What a turn of a plain client's server unit leaves in the slots, by where it laid strokes.
use Rattle.std.proofs.Common.{◌≡◌, ◌≢◌, ◌∙◌, inl, inr, ℕ, ◌+◌, ◌*◌, ◌/◌, ◌%◌, ◌<◌, ◌≤◌, List, Option, Some, None, IsSome, length, refl, sym, ap, subst, arith}
use Rattle.std.proofs.lemmas.List.Elements.{All-weaker}
use Rattle.page_slots.specs.Stroke.{StrokeValue}
use Rattle.tce_window.specs.PortState.{PortState}
use Rattle.block_server.specs.Ranges.{AddsEach, LaysWithin, StrokeLiesInOne, MayWrite, known_in}
use Rattle.block_server.specs.Standing.{stood}
use Rattle.block_server.specs.Talk.{Suits}
use Rattle.block_server.specs.declared.request.Order.{Order}
use Rattle.block_server.specs.declared.request.Order.TheVariants as orders
use Rattle.block_server.specs.declared.request.Request.{Request}
use Rattle.block_server.specs.declared.service.Outcome.{Outcome}
use Rattle.block_server.specs.declared.service.Outcome.TheVariants as outcomes
use Rattle.vscsi_client.specs.Units.{slot_address}
use Rattle.vscsi_client.specs.declared.TheConstants.{DATA_START, SLOTS}
use Rattle.vcpu_run.specs.PlainTalk.{Ask, GoesBehind, IsAsk, IsOwnEntry, IsOwnWindow, IsPendingAs, KeepsSlots, ShowsAt, is_grant, shown, shown_on}
use Rattle.vcpu_run.proofs.PlainPages.{IsApart, shown_apart}
use Rattle.vcpu_run.proofs.PlainSlots.{behind_apart, slot_on, slots_apart}
use Rattle.vcpu_run.proofs.PlainStands.{IsOnPage}
use Rattle.vcpu_run.proofs.PlainStays.{Apart, lies_apart}
use Rattle.vcpu_run.proofs.PlainRejected.{adds_stay}

-- ---- where strokes were laid

-- a page on which nothing was laid in a range shows there what it did
adds_apart : (P : StrokeValue → Type 0) (old new : Option (List StrokeValue)) (start count : ℕ) → start + count ≤ 4096 → AddsEach P old new
    → ((stroke : StrokeValue) → P stroke → IsApart start count stroke) → shown_on new start count ≡ shown_on old start count
adds_apart P (Some old) (Some new) start count inside adds apart =
    ap (λ list. shown_on (Some list) start count) adds.1 ∙ shown_apart old adds.0 start count inside (All-weaker P (IsApart start count) apart adds.0 adds.2)
adds_apart P None None start count inside adds apart = refl
adds_apart P (Some old) None start count inside adds apart = absurd adds
adds_apart P None (Some new) start count inside adds apart = absurd adds

pub lays_apart : (Ranges : (address len : ℕ) → Type 0) (old new : PortState) (address len : ℕ) → IsOwnWindow old → LaysWithin Ranges (known_in old) (known_in new)
    → address % 4096 + len ≤ 4096 → ((a n : ℕ) → Ranges a n → Apart a n address len) → shown new address len ≡ shown old address len
lays_apart Ranges old new address len own lays fits apart =
    adds_apart (StrokeLiesInOne old.values Ranges (address / 4096)) (old.strokes (address / 4096)) (new.strokes (address / 4096)) (address % 4096) len fits (lays.strokes (address / 4096))
    (λ stroke one. lies_apart old own address len (address / 4096) stroke one.address one.len refl fits one.lies (apart one.address one.len one.range))

-- the window is still its owner's own
pub lays_own : (Ranges : (address len : ℕ) → Type 0) (old new : PortState) → IsOwnWindow old → new.place ≡ old.place → LaysWithin Ranges (known_in old) (known_in new)
    → IsOwnWindow new
lays_own Ranges old new own place lays = record {
  values = λ e. subst (IsOwnEntry e) (sym (ap (λ (values : ℕ → List ℕ). values e) lays.values)) (own.values e);
  size = subst (λ n. DATA_START ≤ 4096 * n) (sym (ap (λ place. place.size) place)) own.size;
  most = subst (λ n. n ≤ 256) (sym (ap (λ place. place.size) place)) own.most;
  there = λ p below. still (StrokeLiesInOne old.values Ranges p) (old.strokes p) (new.strokes p) (lays.strokes p)
      (own.there p (subst (λ n. p < n) (ap (λ place. place.size) place) below));
}
  where
    still : (P : StrokeValue → Type 0) (old new : Option (List StrokeValue)) → AddsEach P old new → IsSome old → IsSome new
    still P (Some old) (Some new) adds there = refl
    still P None new adds there = absurd (cc (there))
    still P (Some old) None adds there = absurd adds

-- the slots stay, but for that of the request that is served
pub lays_keep : (old new : PortState) (request : Request) (ask : Ask) → IsOwnWindow old → new.place ≡ old.place → IsPendingAs request ask → IsAsk ask → GoesBehind old request.order
    → LaysWithin (MayWrite (stood old) request) (known_in old) (known_in new) → KeepsSlots (λ slot. slot ≢ ask.slot) old new
lays_keep old new request ask own place pending is_ask behind lays = record { slots = stood'; strokes = λ page stroke is. adds_stay (StrokeLiesInOne old.values (MayWrite (stood old) request) page) (old.strokes page) (new.strokes page) stroke (lays.strokes page) is; unit = ap (λ place. place.unit) place }
  where
    by : (slot : ℕ) → slot ≤ SLOTS → slot ≢ ask.slot → (a n : ℕ) → MayWrite (stood old) request a n → Apart a n (slot_address slot) 256
    by slot within differs a n (inl answer) =
        subst (λ from. Apart from n (slot_address slot) 256) (sym (answer.0 ∙ pending.address)) (slots_apart ask.slot slot n (λ same. differs (sym same)) answer.1)
    by slot within differs a n (inr data') = behind_apart a n slot within (behind a n data')

    stood' : (slot : ℕ) (bytes : List ℕ) → slot ≤ SLOTS → slot ≢ ask.slot → length bytes ≡ 256 → ShowsAt old (slot_address slot) bytes → ShowsAt new (slot_address slot) bytes
    stood' slot bytes within differs whole shows =
        let on : IsOnPage old (slot_address slot) (length bytes) = slot_on old own slot (length bytes) within (omega (arith, whole)) (omega (arith, whole)) in
        lays_apart (MayWrite (stood old) request) old new (slot_address slot) (length bytes) own lays on.fits
        (λ a n range. subst (λ m. Apart a n (slot_address slot) m) (sym whole) (by slot within differs a n range))
        ∙ shows

-- ---- what stands where a request was answered

-- two outcomes that suit one request grant or do not
pub suits_grant : (current : ℕ) (order : Order) (a b : Outcome) → Suits current order a → Suits current order b → is_grant a ≡ is_grant b
suits_grant current (orders.Login request) (outcomes.Granted n) (outcomes.Granted m) a b = refl
suits_grant current (orders.Login request) outcomes.Rejected outcomes.Rejected a b = refl
suits_grant current (orders.Login request) (outcomes.Granted n) outcomes.Rejected a b = absurd (b a)
suits_grant current (orders.Login request) outcomes.Rejected (outcomes.Granted m) a b = absurd (a b)
suits_grant current order (outcomes.Served row) (outcomes.Served other) a b = refl
suits_grant current (orders.Login request) (outcomes.Served row) b a is = absurd a
suits_grant current (orders.Login request) a (outcomes.Served row) is b = absurd b
suits_grant current (orders.Task task) (outcomes.Granted n) b a is = absurd a
suits_grant current (orders.Task task) outcomes.Rejected b a is = absurd a
suits_grant current (orders.Task task) a (outcomes.Granted n) is b = absurd b
suits_grant current (orders.Task task) a outcomes.Rejected is b = absurd b
suits_grant current (orders.Command command) (outcomes.Granted n) b a is = absurd a
suits_grant current (orders.Command command) outcomes.Rejected b a is = absurd a
suits_grant current (orders.Command command) a (outcomes.Granted n) is b = absurd b
suits_grant current (orders.Command command) a outcomes.Rejected is b = absurd b
suits_grant current orders.Unreadable (outcomes.Granted n) b a is = absurd a
suits_grant current orders.Unreadable outcomes.Rejected b a is = absurd a
suits_grant current orders.Unreadable a (outcomes.Granted n) is b = absurd b
suits_grant current orders.Unreadable a outcomes.Rejected is b = absurd b
suits_grant current orders.Logout (outcomes.Granted n) b a is = absurd a
suits_grant current orders.Logout outcomes.Rejected b a is = absurd a
suits_grant current orders.Logout (outcomes.Served row) b a is = absurd a
