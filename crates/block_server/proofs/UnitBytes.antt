-- The bytes that are read of a page of the own window after a copy to it are those that the copy moved.
use Rattle.std.proofs.Common.{◌≡◌, ◌≢◌, ◌+◌, ◌*◌, ◌/◌, ◌<◌, ◌≤◌, ◌==◌, ◌&&◌, ◌++◌, ℕ, Bool, true, false, cond, All, IsSome, List, [], ◌∷◌, Option, Some, None, length, take, drop, get_or, refl, sym, ◌∙◌, ap, ap₂, subst, arith, append-nil}
use Rattle.std.proofs.lemmas.Bool.{eq-eqb}
use Rattle.std.proofs.lemmas.List.Elements.{All-head}
use Rattle.std.proofs.lemmas.List.{ext_get_or, get_or_append_left, take_all}
use Rattle.page_slots.specs.Page.{left_by}
use Rattle.page_slots.specs.Stroke.{StrokeValue}
use Rattle.page_slots.specs.declared.stroke.StrokeName.{StrokeName}
use Rattle.page_slots.proofs.Laws.{left_by-push}
use Rattle.tce_window.specs.declared.piece.Piece.{Piece}
use Rattle.tce_window.specs.Moved.{IsLaid, IsReadFrom, IsWrittenTo, piece_strokes}
use Rattle.tce_window.specs.declared.answers.Right.TheVariants.{Write}
use Rattle.tce_window.specs.Pieces.{IsGranted, IsLast, Touches}
use Rattle.tce_window.specs.PortState.{LaysNone, OnlyReads, PortPlace, PortState, Reads}
use Rattle.tce_window.specs.Region.{byte_in}
use Rattle.tce_window.specs.Strokes.{with_strokes}
use Rattle.tce_window.proofs.Laws.{not_none}
use Rattle.rdma_copy.proofs.Laws.{learns_grows, same_grows, same_later, written_stays}
use Rattle.rdma_copy.specs.Copies.{Copies, OnlyCopies}
use Rattle.rdma_copy.specs.declared.copy.CopyRecord.{CopyRecord}
use Rattle.vio_num.specs.Words.{Begins}
use Rattle.vio_num.specs.declared.names.UnitId.{UnitId}
use Rattle.block_server.specs.Copied.{MakesOne, own_name}
use Rattle.block_server.specs.Delivers.{FetchesTo}
use Rattle.block_server.specs.Moves.{Fetches, FetchesOne, begin_on, is_data, is_intake}
use Rattle.block_server.specs.SiteState.{SiteState}
use Rattle.block_server.specs.Talk.{IsReadWhole}
use Rattle.block_server.proofs.FirstPages.{entry_page, own_begins}
use Rattle.block_server.proofs.CopyKinds.{in_behind}
use Rattle.block_server.proofs.NamedWindows.{grows_same, unit_same}
use Rattle.block_server.proofs.Owning.{same_first}

-- the page shows the first bytes of its last stroke, if it begins with the page
page_shows : (strokes : List StrokeValue) (stroke : StrokeValue) (k : ℕ) → stroke.offset ≡ 0 → k < length stroke.bytes
    → get_or (left_by (strokes ++ stroke ∷ [])) k 0 ≡ get_or stroke.bytes k 0
page_shows strokes stroke k begins less =
    ap (λ (page : List ℕ). get_or page k 0) (left_by-push strokes stroke ∙ ap (λ (n : ℕ). take n page ++ stroke.bytes ++ drop (n + length stroke.bytes) page) begins)
    ∙ get_or_append_left stroke.bytes (drop (0 + length stroke.bytes) page) 0 k less
  where
    page : List ℕ
    page = left_by strokes

some_there : (before now : Option (List StrokeValue)) (stroke : StrokeValue) (k : ℕ) → now ≡ with_strokes before (stroke ∷ []) → IsSome now
    → stroke.offset ≡ 0 → k < length stroke.bytes → byte_in now k ≡ get_or stroke.bytes k 0
some_there (Some strokes) now stroke k laid there begins less = ap (λ s. byte_in s k) laid ∙ page_shows strokes stroke k begins less
some_there None now stroke k laid there begins less = absurd (not_none now laid there)

same_page : (page : ℕ) → (page == page) ≡ true
same_page page = eq-eqb page page refl

-- the piece on the page is the only one, and has all bytes
first_byte : (unit : UnitId) (values : ℕ → List ℕ) (name : StrokeName) (bytes : List ℕ) (pieces : List Piece) (page at : ℕ) (old new : Option (List StrokeValue)) (k : ℕ)
    → at ≡ 4096 * page → page < 34 → ((e : ℕ) → e < 34 → values e ≡ (4096 * e + 3) ∷ []) → length bytes ≤ 4096 → Touches unit at (at + length bytes) pieces
    → All (IsGranted values Write) pieces → All (IsLast values) pieces
    → IsLaid false page pieces (piece_strokes name bytes pieces) old new → IsSome new → k < length bytes → byte_in new k ≡ get_or bytes k 0
first_byte unit values name bytes [] page at old new k begin inside first few touched granted last laid there less = absurd (omega (arith, touched, less))
first_byte unit values name bytes (piece ∷ []) page at old new k begin inside first few touched granted last laid there less =
    some_there laid.before new stroke k (laid.laid ∙ ap (λ t. with_strokes laid.before (cond t (stroke ∷ []) [])) on) there begins (omega (arith, ap length whole, less))
    ∙ ap (λ (list : List ℕ). get_or list k 0) whole
  where
    stroke : StrokeValue
    stroke = record { name = name; offset = piece.offset; bytes = take piece.len bytes }

    begins : piece.offset ≡ 0
    begins = omega (arith, touched.1.offset, begin)

    whole : take piece.len bytes ≡ bytes
    whole = take_all piece.len bytes (omega (arith, touched.1.len, few, begin))

    here : at / 4096 ≡ page
    here = omega (arith, begin)

    on : (piece.page == page) ≡ true
    on = ap (λ (p : ℕ). p == page) (entry_page values Write piece first (omega (arith, touched.1.entry, here, inside))
        (All-head (IsGranted values Write) piece [] granted) (All-head (IsLast values) piece [] last) ∙ touched.1.entry ∙ here)
        ∙ same_page page
first_byte unit values name bytes (piece ∷ other ∷ pieces) page at old new k begin inside first few touched granted last laid there less =
    absurd (omega (arith, few, begin, touched.1.len, touched.2.0))

-- what is read of the page is what the copy to it wrote
unit_bytes : (own own' own'' client : PortState) (page at address len : ℕ) (name : StrokeName) (copy : CopyRecord) (out : List ℕ)
    → at ≡ 4096 * page → page < 34 → ((e : ℕ) → e < 34 → own'.values e ≡ (4096 * e + 3) ∷ []) → 1 ≤ len → len ≤ 4096 → length out ≡ len
    → (copied : Copies false client own own' address at len name copy) → OnlyReads false own' own'' → Reads own'' at out → out ≡ copied.lawful.bytes
unit_bytes own own' own'' client page at address len name copy out begin inside first some few long copied rest reads =
    ext_get_or 0 out bytes (omega (arith, long, moved)) each
  where
    bytes : List ℕ
    bytes = copied.lawful.bytes

    moved : length bytes ≡ len
    moved = copied.lawful.len ∙ copied.len_is

    page_is : own''.strokes page ≡ own'.strokes page
    page_is = grows_same (own'.strokes page) (own''.strokes page) (rest.strokes page)

    there : IsSome (own'.strokes page)
    there = subst IsSome page_is (reads.there page (omega (arith, begin)) (omega (arith, begin, some, long)))

    laid : IsLaid false page copy.to.items (piece_strokes name bytes copy.to.items) (own.strokes page) (own'.strokes page)
    laid = subst (λ (list : List ℕ). IsLaid false page copy.to.items (piece_strokes name list copy.to.items) (own.strokes page) (own'.strokes page))
        copied.lawful.read.join (copied.laid page)

    each : (k : ℕ) → k < length out → get_or out k 0 ≡ get_or bytes k 0
    each k less =
        reads.bytes k less
        ∙ ap₂ (λ (p i : ℕ). byte_in (own''.strokes p) i) (omega (arith, begin, less, long, few)) (omega (arith, begin, less, long, few))
        ∙ ap (λ s. byte_in s k) page_is
        ∙ first_byte own'.place.unit own'.values name bytes copy.to.items page at (own.strokes page) (own'.strokes page) k begin inside first
        (omega (arith, moved, few)) copied.lawful.written.touched copied.lawful.written.granted copied.last_written laid there
        (omega (arith, less, long, moved))

same_values : (own' own'' : PortState) → OnlyReads false own' own'' → (e : ℕ) → Begins (own'.values e) (own''.values e)
same_values own' own'' rest e = ([], ap (λ values. values e) rest.values ∙ sym (append-nil (own'.values e)))

-- a copy to the page, and a read of as many bytes behind it, fetched these
fetches_bytes : (own own' own'' client : PortState) (page at address len : ℕ) (name : StrokeName) (copy : CopyRecord) (out : List ℕ)
    → at ≡ 4096 * page → page < 34 → ((e : ℕ) → e < 34 → own'.values e ≡ (4096 * e + 3) ∷ []) → 1 ≤ len → len ≤ 4096 → length out ≡ len → name ≡ own_name own 0 → own'.place ≡ own.place
    → Copies false client own own' address at len name copy → OnlyReads false own' own'' → Reads own'' at out
    → Fetches own'' client address at (length out) out copy
fetches_bytes own own' own'' client page at address len name copy out begin inside first some few long named place copied rest reads = record {
  name_is = copied.name_is ∙ named ∙ ap (λ place. record { who = place.unit; mark = 0 }) (sym (rest.place ∙ place));
  len_is = copied.len_is ∙ sym long;
  read = subst (λ (list : List ℕ). IsReadFrom client.place.unit client.values client.strokes address copy.from.items list) (sym is) copied.lawful.read;
  written = subst (λ (list : List ℕ). IsWrittenTo own''.place.unit own''.values own''.strokes at copy.name copy.to.items list) (sym is)
      (subst (λ unit. IsWrittenTo unit own''.values own''.strokes at copy.name copy.to.items copied.lawful.bytes) (sym (ap (λ place. place.unit) rest.place))
      (written_stays own'.place.unit at copy.name copy.to.items copied.lawful.bytes own'.values own''.values own'.strokes own''.strokes
      (same_values own' own'' rest) (λ p. learns_grows false (own'.strokes p) (own''.strokes p) (rest.strokes p)) copied.lawful.written));
}
  where
    is : out ≡ copied.lawful.bytes
    is = unit_bytes own own' own'' client page at address len name copy out begin inside first some few long copied rest reads

unit_is_intake : (own own' own'' client : PortState) (address len : ℕ) (name : StrokeName) (copy : CopyRecord)
    → ((e : ℕ) → e < 34 → own'.values e ≡ (4096 * e + 3) ∷ []) → 1 ≤ len → name ≡ own_name own 0 → own'.place ≡ own.place
    → Copies false client own own' address 0 len name copy → OnlyReads false own' own'' → is_intake own''.place.unit copy ≡ true
unit_is_intake own own' own'' client address len name copy first some named place copied rest =
    ap (λ t. t && begin_on own''.place.unit 0 copy.to.items)
    (unit_same copy.name.who own''.place.unit (ap (λ n. n.who) (copied.name_is ∙ named) ∙ ap (λ place. place.unit) (sym (rest.place ∙ place))))
    ∙ own_begins own'.values Write own''.place.unit 0 0 (0 + length copied.lawful.bytes) copy.to.items first (omega arith)
    (omega (arith, some, copied.lawful.len, copied.len_is))
    (subst (λ unit. Touches unit 0 (0 + length copied.lawful.bytes) copy.to.items) (ap (λ place. place.unit) (sym rest.place)) copied.lawful.written.touched)
    copied.lawful.written.granted copied.last_written

-- the same of a call that copies and then reads
pub fetches_one : (shared : Bool) (old new : SiteState) (own' client' : PortState) (address len : ℕ) (copies' : List CopyRecord) (out : List ℕ)
    → shared ≡ false → ((e : ℕ) → e < 34 → old.own.values e ≡ (4096 * e + 3) ∷ []) → 1 ≤ len → len ≤ 256 → length out ≡ len
    → MakesOne shared client' old.own own' address 0 len (own_name old.own 0) old.copies copies' → OnlyReads shared own' new.own → Reads new.own 0 out
    → new.client ≡ client' → new.copies ≡ copies' → FetchesOne old new address out
fetches_one true old new own' client' address len copies' out alone first some few long made rest reads client copies = absurd (cc (alone))
fetches_one false old new own' client' address len copies' out alone first some few long made rest reads client copies = record {
  copy = made.copy;
  made = copies ∙ made.made;
  is_unit = unit_is_intake old.own own' new.own client' address len (own_name old.own 0) made.copy first' some refl made.rest.place made.copied rest;
  fetched = subst (λ port. Fetches new.own port address 0 (length out) out made.copy) (sym client)
      (fetches_bytes old.own own' new.own client' 0 0 address len (own_name old.own 0) made.copy out refl (omega arith) first' some (omega (arith, few)) long refl made.rest.place made.copied rest reads);
}
  where
    first' : (e : ℕ) → e < 34 → own'.values e ≡ (4096 * e + 3) ∷ []
    first' = same_first false old.own own' refl made.rest first

-- it was read from pages with all their strokes
pub fetched_whole : (shared : Bool) (own own' new_own client' client : PortState) (address len : ℕ) (copies copies' : List CopyRecord) (out : List ℕ)
    → shared ≡ false → ((e : ℕ) → e < 34 → own.values e ≡ (4096 * e + 3) ∷ []) → 1 ≤ len → len ≤ 256 → length out ≡ len
    → MakesOne shared client' own own' address 0 len (own_name own 0) copies copies' → OnlyReads shared own' new_own → Reads new_own 0 out → client ≡ client' → IsReadWhole client address out
fetched_whole true own own' new_own client' client address len copies copies' out alone first some few long made rest reads same = absurd (cc (alone))
fetched_whole false own own' new_own client' client address len copies copies' out alone first some few long made rest reads same =
    subst (λ (port : PortState). IsReadWhole port address out) (sym same) (record {
      pieces = made.copy.from.items;
      read = (fetches_bytes own own' new_own client' 0 0 address len (own_name own 0) made.copy out refl (omega arith) (same_first false own own' refl made.rest first)
          some (omega (arith, few)) long refl made.rest.place made.copied rest reads).read;
      last = made.copied.last_read;
      all = made.copied.all_read;
    })

-- the same of a later page
pub fetched_table_whole : (shared : Bool) (own own' new_own client' client : PortState) (page at address len : ℕ) (copies copies' : List CopyRecord) (out : List ℕ)
    → at ≡ 4096 * page → page < 34 → shared ≡ false → ((e : ℕ) → e < 34 → own.values e ≡ (4096 * e + 3) ∷ []) → 1 ≤ len → len ≤ 4096 → length out ≡ len
    → MakesOne shared client' own own' address at len (own_name own 0) copies copies' → OnlyReads shared own' new_own → Reads new_own at out → client ≡ client' → IsReadWhole client address out
fetched_table_whole true own own' new_own client' client page at address len copies copies' out begin inside alone first some few long made rest reads same = absurd (cc (alone))
fetched_table_whole false own own' new_own client' client page at address len copies copies' out begin inside alone first some few long made rest reads same =
    subst (λ (port : PortState). IsReadWhole port address out) (sym same) (record {
      pieces = made.copy.from.items;
      read = (fetches_bytes own own' new_own client' page at address len (own_name own 0) made.copy out begin inside (same_first false own own' refl made.rest first)
          some few long refl made.rest.place made.copied rest reads).read;
      last = made.copied.last_read;
      all = made.copied.all_read;
    })

-- a call that copies to a later page and then reads
pub fetches_to : (shared : Bool) (old new : SiteState) (own' client' : PortState) (page at address len : ℕ) (copies' : List CopyRecord) (out : List ℕ)
    → at ≡ 4096 * page → page < 34 → shared ≡ false → ((e : ℕ) → e < 34 → old.own.values e ≡ (4096 * e + 3) ∷ []) → 1 ≤ len → len ≤ 4096 → length out ≡ len
    → MakesOne shared client' old.own own' address at len (own_name old.own 0) old.copies copies' → OnlyReads shared own' new.own → Reads new.own at out
    → new.client ≡ client' → new.copies ≡ copies' → 1 ≤ page → client'.place.unit ≢ old.own.place.unit → FetchesTo old new address at out
fetches_to true old new own' client' page at address len copies' out begin inside alone first some few long made rest reads client copies behind apart = absurd (cc (alone))
fetches_to false old new own' client' page at address len copies' out begin inside alone first some few long made rest reads client copies behind apart = record {
  copy = made.copy;
  made = copies ∙ made.made;
  fetched = subst (λ port. Fetches new.own port address at (length out) out made.copy) (sym client)
      (fetches_bytes old.own own' new.own client' page at address len (own_name old.own 0) made.copy out begin inside
      (same_first false old.own own' refl made.rest first) some few long refl made.rest.place made.copied rest reads);
  kind = subst (λ (place : PortPlace). is_data place.unit made.copy ≡ true) (sym (rest.place ∙ made.rest.place))
      (in_behind false old.own.place.unit old.own own' client' address at len made.copy (same_first false old.own own' refl made.rest first) some
      (omega (arith, begin, inside, few)) (omega (arith, begin, behind)) refl (ap (λ (place : PortPlace). place.unit) made.rest.place) apart made.copied);
}

-- where nothing was done
pub lays_none : (shared : Bool) (port : PortState) → LaysNone shared port port
lays_none shared port = record { strokes = λ p. same_grows shared (port.strokes p); laid = λ is p. refl }

pub only_copies : (shared : Bool) (port : PortState) → port.held_count ≡ 0 → OnlyCopies shared port port
only_copies shared port free = record {
  free = free;
  place = refl;
  values = λ e. same_later shared (port.values e);
  in_use = omega arith;
}
