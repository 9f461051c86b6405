-- What stands in a client's own window behind a write, and behind what a server lays: what was written stands, and what lies elsewhere stays.
use Rattle.std.proofs.Common.{◌≡◌, ◌∙◌, ◌⊎◌, inl, inr, ℕ, ◌+◌, ◌-◌, ◌*◌, ◌/◌, ◌%◌, ◌<◌, ◌≤◌, min, Bool, true, false, cond, List, [], ◌∷◌, Option, Some, None, IsSome, drop, length, length-take, refl, slice_range, sym, ap, ap₂, subst, arith}
use Rattle.std.proofs.lemmas.Bool.Decides.{nat_tests}
use Rattle.std.proofs.lemmas.List.{take_all}
use Rattle.std.proofs.lemmas.List.Elements.{All-cons, All-nil}
use Rattle.page_slots.specs.Stroke.{StrokeValue}
use Rattle.page_slots.specs.declared.stroke.StrokeName.{StrokeName}
use Rattle.tce_window.specs.Port.{Grows, IsWritten}
use Rattle.tce_window.specs.PortState.{OnlyWrites, PortState, Writes}
use Rattle.tce_window.specs.Region.{stroke_on, touches, written}
use Rattle.tce_window.specs.Strokes.{with_strokes}
use Rattle.block_server.specs.Ranges.{StrokeLiesIn}
use Rattle.vscsi_client.specs.declared.TheConstants.{DATA_START}
use Rattle.vcpu_run.specs.PlainTalk.{IsOwnEntry, IsOwnWindow, shown, shown_on}
use Rattle.vcpu_run.proofs.PlainPages.{IsApart, shown_apart, shown_last}
use Rattle.vcpu_run.proofs.PlainStands.{IsOnPage}

-- two ranges have no byte in common
abbrev pub Apart : (a n b m : ℕ) → Type 0
Apart a n b m = (a + n ≤ b) ⊎ (b + m ≤ a)

-- ---- writes of the owner

pub grown_same : (old before : Option (List StrokeValue)) → Grows false old before → before ≡ old
grown_same (Some old) (Some before) grown = ap Some grown
grown_same None None grown = refl
grown_same (Some old) None grown = absurd grown
grown_same None (Some before) grown = absurd grown

-- what a page has behind a write
pub page_written : (name : StrokeName) (at : ℕ) (bytes : List ℕ) (p : ℕ) (old new : Option (List StrokeValue)) → IsWritten false name at bytes p old new
    → new ≡ written name at bytes p old
page_written name at bytes p old new is = is.laid ∙ ap (written name at bytes p) (grown_same old is.before is.grown)

-- the stroke of a write that lies on one page
whole_stroke : (name : StrokeName) (at : ℕ) (bytes : List ℕ) → at % 4096 + length bytes ≤ 4096
    → ◌≡◌ {A = StrokeValue} (stroke_on name at bytes (at / 4096)) (record { name = name; offset = at % 4096; bytes = bytes })
whole_stroke name at bytes fits =
    let place : at - 4096 * (at / 4096) ≡ at % 4096 = omega arith in
    let start : 4096 * (at / 4096) - at ≡ 0 = omega arith in
    let end : min (4096 * (at / 4096 + 1) - at) (length bytes) ≡ length bytes = omega (arith, fits) in
    let part : slice_range bytes (4096 * (at / 4096) - at) (min (4096 * (at / 4096 + 1) - at) (length bytes)) ≡ bytes =
    ap₂ (slice_range bytes) start end ∙ take_all (length bytes - 0) bytes (omega arith) in
    ap₂ (λ o b. record { name = name; offset = o; bytes = b }) place part

is_touched : (at len : ℕ) → 1 ≤ len → touches at len (at / 4096) ≡ true
is_touched at len some = grind (arith, nat_tests, some)

-- what was written shows
pub written_last : (old : Option (List StrokeValue)) (stroke : StrokeValue) → IsSome old → stroke.offset ≤ 4096
    → shown_on (with_strokes old (stroke ∷ [])) stroke.offset (length stroke.bytes) ≡ stroke.bytes
written_last None stroke there inside = absurd (cc (there))
written_last (Some strokes) stroke there inside = shown_last strokes stroke inside

pub laid_shown : (old new : PortState) (at mark : ℕ) (bytes : List ℕ) → IsOwnWindow old → Writes false old at bytes mark new → IsOnPage old at (length bytes)
    → shown new at (length bytes) ≡ bytes
laid_shown old new at mark bytes own wrote on =
    let name : StrokeName = record { who = old.place.unit; mark = mark } in
    let stroke : StrokeValue = record { name = name; offset = at % 4096; bytes = bytes } in
    let page : new.strokes (at / 4096) ≡ with_strokes (old.strokes (at / 4096)) (stroke ∷ []) =
    page_written name at bytes (at / 4096) (old.strokes (at / 4096)) (new.strokes (at / 4096)) (wrote.strokes (at / 4096))
    ∙ ap (λ b. cond b (with_strokes (old.strokes (at / 4096)) (stroke_on name at bytes (at / 4096) ∷ [])) (old.strokes (at / 4096))) (is_touched at (length bytes) on.some)
    ∙ ap (λ (s : StrokeValue). with_strokes (old.strokes (at / 4096)) (s ∷ [])) (whole_stroke name at bytes on.fits) in
    ap (λ (now : Option (List StrokeValue)). shown_on now (at % 4096) (length bytes)) page
    ∙ written_last (old.strokes (at / 4096)) stroke (own.there (at / 4096) on.inside) (omega arith)

-- a stroke of a write lies apart from what the write does
stroke_apart : (name : StrokeName) (at : ℕ) (bytes : List ℕ) (address len : ℕ) → 1 ≤ len → address % 4096 + len ≤ 4096 → touches at (length bytes) (address / 4096) ≡ true
    → Apart at (length bytes) address len → IsApart (address % 4096) len (stroke_on name at bytes (address / 4096))
stroke_apart name at bytes address len some fits touched apart = by apart
  where
    p : ℕ
    p = address / 4096

    from : ℕ
    from = 4096 * (address / 4096) - at

    to : ℕ
    to = min (4096 * (address / 4096 + 1) - at) (length bytes)

    low : at / 4096 ≤ address / 4096
    low = grind (arith, nat_tests, touched)

    high : address / 4096 < (at + length bytes + 4095) / 4096
    high = grind (arith, nat_tests, touched)

    long : length (slice_range bytes (4096 * (address / 4096) - at) (min (4096 * (address / 4096 + 1) - at) (length bytes))) ≤ to - from
    long = omega (arith, length-take (to - from) (drop from bytes))

    within : (at - 4096 * (address / 4096)) + length (slice_range bytes (4096 * (address / 4096) - at) (min (4096 * (address / 4096 + 1) - at) (length bytes))) ≤ 4096
    within = omega (arith, long, low, high)

    by : Apart at (length bytes) address len → IsApart (address % 4096) len (stroke_on name at bytes (address / 4096))
    by (inl before) = record { within = within; apart = inl (omega (arith, long, low, high, before)) }
    by (inr behind) = record { within = within; apart = inr (omega (arith, low, behind)) }

written_apart : (name : StrokeName) (at : ℕ) (bytes : List ℕ) (address len : ℕ) (old : Option (List StrokeValue)) → 1 ≤ len → address % 4096 + len ≤ 4096
    → Apart at (length bytes) address len → shown_on (written name at bytes (address / 4096) old) (address % 4096) len ≡ shown_on old (address % 4096) len
written_apart name at bytes address len old some fits apart = by (touches at (length bytes) (address / 4096)) refl old
  where
    stroke : StrokeValue
    stroke = stroke_on name at bytes (address / 4096)

    by : (b : Bool) → touches at (length bytes) (address / 4096) ≡ b → (old : Option (List StrokeValue))
        → shown_on (cond b (with_strokes old (stroke ∷ [])) old) (address % 4096) len ≡ shown_on old (address % 4096) len
    by false e old = refl
    by true e None = refl
    by true e (Some strokes) =
        shown_apart strokes (stroke ∷ []) (address % 4096) len fits
        (All-cons (IsApart (address % 4096) len) stroke [] (stroke_apart name at bytes address len some fits e apart) (All-nil (IsApart (address % 4096) len)))

pub laid_apart : (old new : PortState) (at mark : ℕ) (bytes : List ℕ) (address len : ℕ) → Writes false old at bytes mark new → 1 ≤ len → address % 4096 + len ≤ 4096
    → Apart at (length bytes) address len → shown new address len ≡ shown old address len
laid_apart old new at mark bytes address len wrote some fits apart =
    let name : StrokeName = record { who = old.place.unit; mark = mark } in
    let page : ℕ = address / 4096 in
    ap (λ (now : Option (List StrokeValue)). shown_on now (address % 4096) len)
    (page_written name at bytes page (old.strokes page) (new.strokes page) (wrote.strokes page))
    ∙ written_apart name at bytes address len (old.strokes page) some fits apart

-- the window is still its owner's own
pub laid_own : (old new : PortState) (at mark : ℕ) (bytes : List ℕ) → IsOwnWindow old → Writes false old at bytes mark new → OnlyWrites old new → IsOwnWindow new
laid_own old new at mark bytes own wrote only = record {
  values = λ e. subst (IsOwnEntry e) (sym (ap (λ (values : ℕ → List ℕ). values e) only.values)) (own.values e);
  size = subst (λ n. DATA_START ≤ 4096 * n) (sym (ap (λ place. place.size) only.place)) own.size;
  most = subst (λ n. n ≤ 256) (sym (ap (λ place. place.size) only.place)) own.most;
  there = λ p below. subst IsSome (sym (page_written name at bytes p (old.strokes p) (new.strokes p) (wrote.strokes p)))
      (still (touches at (length bytes) p) (old.strokes p) (stroke_on name at bytes p) (own.there p (subst (λ n. p < n) (ap (λ place. place.size) only.place) below)));
}
  where
    name : StrokeName
    name = record { who = old.place.unit; mark = mark }

    still : (b : Bool) (strokes : Option (List StrokeValue)) (stroke : StrokeValue) → IsSome strokes → IsSome (cond b (with_strokes strokes (stroke ∷ [])) strokes)
    still b None stroke there = absurd (cc (there))
    still true (Some strokes) stroke there = refl
    still false (Some strokes) stroke there = refl

-- ---- what a server lays

-- a stroke that lies in a range apart
pub lies_apart : (old : PortState) → IsOwnWindow old → (address len page : ℕ) (stroke : StrokeValue) (a n : ℕ) → page ≡ address / 4096 → address % 4096 + len ≤ 4096
    → StrokeLiesIn old.values a n page stroke → Apart a n address len → IsApart (address % 4096) len stroke
lies_apart old own address len page stroke a n is fits lies apart = by apart
  where
    entry : lies.entry ≡ address / 4096
    entry = sym ((own.values lies.entry).names lies.named.version lies.named.value lies.named.current.shown) ∙ lies.named.named ∙ is

    by : Apart a n address len → IsApart (address % 4096) len stroke
    by (inl before) = record { within = lies.within; apart = inl (omega (arith, lies.to, before, entry)) }
    by (inr behind) = record { within = lies.within; apart = inr (omega (arith, lies.from, behind, entry)) }
