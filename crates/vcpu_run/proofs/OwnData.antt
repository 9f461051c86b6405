-- Where a server unit lays the data-in of the oldest request within a turn: on the pages of its data, so that the slots and the tables of all others
-- stay as they are.
use Rattle.std.proofs.Common.{◌≡◌, ◌∙◌, ◌⊎◌, inl, inr, ℕ, ◌+◌, ◌-◌, ◌*◌, ◌<◌, ◌≤◌, ◌++◌, nat_lt, nat_le, All, Bool, true, false, cond, List, [], ◌∷◌, Some, append-nil, append_assoc, drop, length, refl, sym, take, take-append-drop, ap, subst, arith}
use Rattle.std.proofs.lemmas.Bool.Decides.{nat_tests}
use Rattle.std.proofs.lemmas.List.Elements.{All-cons, All-head, All-nil, All-tail}
use Rattle.page_slots.specs.Page.{left_by, overwritten}
use Rattle.page_slots.specs.Stroke.{StrokeValue}
use Rattle.page_slots.specs.declared.stroke.StrokeName.{StrokeName}
use Rattle.page_slots.proofs.Laws.{left_by-push}
use Rattle.srp_iu.specs.declared.buffer.Desc.{Desc}
use Rattle.tce_window.specs.PortState.{PortState}
use Rattle.block_server.specs.Bearing.{IsNamedPart, NamesData, StrokeBears}
use Rattle.block_server.specs.Carried.{address_of}
use Rattle.block_server.specs.Standing.{stood}
use Rattle.block_server.specs.declared.request.Order.{Order}
use Rattle.block_server.specs.Talk.{order_asked}
use Rattle.vscsi_client.specs.declared.outgoing.Span.{Span}
use Rattle.vcpu_run.specs.PlainTalk.{Ask, DataLies, IsOwnWindow, LiesOn, shown_on}
use Rattle.vcpu_run.proofs.PlainAnswers.{list_goes}
use Rattle.vcpu_run.proofs.PlainData.{GoesOn}
use Rattle.vcpu_run.proofs.PlainLaid.{entry_is, named_data}
use Rattle.vcpu_run.proofs.PlainPages.{IsApart, shown_apart}

-- ---- an address that pieces name lies on their pages

pub address_lies : (span : Span) (list : List Desc) (j a : ℕ) → All (LiesOn span) list → address_of list j ≡ Some a → GoesOn span a 1
address_lies span [] j a all is = absurd (cc (is))
address_lies span (piece ∷ list) j a all is =
    by (λ e. address_lies span list (j - piece.len) a (All-tail (LiesOn span) piece list all) e) (nat_lt j piece.len) refl is
  where
    here : Some (piece.address + j) ≡ Some a → piece.address + j ≡ a
    here e = cc (e)

    lies : LiesOn span piece
    lies = All-head (LiesOn span) piece list all

    by : (address_of list (j - piece.len) ≡ Some a → GoesOn span a 1) → (b : Bool) → nat_lt j piece.len ≡ b
        → cond b (Some (piece.address + j)) (address_of list (j - piece.len)) ≡ Some a → GoesOn span a 1
    by rest true less e =
        let within : j < piece.len = grind (arith, nat_tests, less) in
        record { behind = omega (arith, here e, lies.behind); from = omega (arith, here e, lies.from); to = omega (arith, here e, lies.to, within) }
    by rest false less e = rest e

-- ---- a stroke of data

-- A stroke of a page has no bytes, or lies on the pages of the data, behind the driver's.
pub record IsDataStroke (span : Span) (page : ℕ) (stroke : StrokeValue) : Type 0 where
  pub within : stroke.offset + length stroke.bytes ≤ 4096
  pub lies : (length stroke.bytes ≡ 0) ⊎ GoesOn span (4096 * page + stroke.offset) (length stroke.bytes)

pub data_stroke : (window : PortState) → IsOwnWindow window → (ask : Ask) → DataLies window ask → (name : StrokeName) (order : Order) → order ≡ order_asked ask.iu → (inn : List ℕ) (page : ℕ)
    (stroke : StrokeValue) → StrokeBears window.values (IsNamedPart (stood window) name order inn) page stroke → IsDataStroke ask.pages page stroke
data_stroke window own ask lies name order asked inn page stroke laid = record { within = laid.lies.within; lies = by (nat_le 1 (length stroke.bytes)) refl }
  where
    entry : laid.lies.entry ≡ page
    entry = entry_is window own laid.address (length laid.bytes) page stroke laid.lies

    goes : All (LiesOn ask.pages) laid.writes.list
    goes = list_goes window own ask lies laid.writes.list
        (named_data window ask.iu laid.writes.list (subst (λ (o : Order). NamesData (stood window) o laid.writes.list) asked laid.writes.named))

    -- the address of a byte of the stroke
    byte : (k : ℕ) → k < length stroke.bytes → GoesOn ask.pages (4096 * page + stroke.offset + k) 1
    byte k less =
        let m : 4096 * laid.lies.entry + stroke.offset + k - laid.address < length laid.bytes = omega (arith, less, laid.lies.from, laid.lies.to) in
        subst (λ a. GoesOn ask.pages a 1) (omega (arith, entry, laid.lies.from))
        (address_lies ask.pages laid.writes.list (laid.writes.part.at + (4096 * laid.lies.entry + stroke.offset + k - laid.address))
        (laid.address + (4096 * laid.lies.entry + stroke.offset + k - laid.address)) goes (laid.writes.part.there (4096 * laid.lies.entry + stroke.offset + k - laid.address) m))

    by : (b : Bool) → nat_le 1 (length stroke.bytes) ≡ b → (length stroke.bytes ≡ 0) ⊎ GoesOn ask.pages (4096 * page + stroke.offset) (length stroke.bytes)
    by false e = inl (grind (arith, nat_tests, e))
    by true e =
        let some : 1 ≤ length stroke.bytes = grind (arith, nat_tests, e) in
        let first : GoesOn ask.pages (4096 * page + stroke.offset + 0) 1 = byte 0 (omega (arith, some)) in
        let last : GoesOn ask.pages (4096 * page + stroke.offset + (length stroke.bytes - 1)) 1 = byte (length stroke.bytes - 1) (omega (arith, some)) in
        inr (record { behind = omega (arith, first.behind); from = omega (arith, first.from); to = omega (arith, some, last.to) })

-- ---- what such strokes leave

none_of : (page : List ℕ) (stroke : StrokeValue) → length stroke.bytes ≡ 0 → overwritten page stroke ≡ page
none_of page stroke none = by stroke.bytes none
  where
    by : (bytes : List ℕ) → length bytes ≡ 0 → overwritten page (record { name = stroke.name; offset = stroke.offset; bytes = bytes }) ≡ page
    by [] none = ap (λ (list : List ℕ). list ++ drop (stroke.offset + 0) page) (append-nil (take stroke.offset page))
        ∙ ap (λ n. take stroke.offset page ++ drop n page) (omega arith) ∙ take-append-drop stroke.offset page
    by (b ∷ bytes) none = absurd (omega (arith, none))

abbrev pub IsPast : (start count : ℕ) → StrokeValue → Type 0
IsPast start count stroke = (length stroke.bytes ≡ 0) ⊎ IsApart start count stroke

-- strokes without bytes change nothing, either
pub shown_past : (strokes more : List StrokeValue) (start count : ℕ) → start + count ≤ 4096 → All (IsPast start count) more
    → shown_on (Some (strokes ++ more)) start count ≡ shown_on (Some strokes) start count
shown_past strokes [] start count inside all = ap (λ (list : List StrokeValue). shown_on (Some list) start count) (append-nil strokes)
shown_past strokes (stroke ∷ more) start count inside all =
    ap (λ (list : List StrokeValue). shown_on (Some list) start count) (sym (append_assoc strokes (stroke ∷ []) more))
    ∙ shown_past (strokes ++ stroke ∷ []) more start count inside (All-tail (IsPast start count) stroke more all)
    ∙ by (All-head (IsPast start count) stroke more all)
  where
    by : IsPast start count stroke → shown_on (Some (strokes ++ stroke ∷ [])) start count ≡ shown_on (Some strokes) start count
    by (inl none) = ap (λ (list : List ℕ). take count (drop start list)) (left_by-push strokes stroke ∙ none_of (left_by strokes) stroke none)
    by (inr apart) = shown_apart strokes (stroke ∷ []) start count inside (All-cons (IsApart start count) stroke [] apart (All-nil (IsApart start count)))
