-- What a copy to the data's pages of a unit's own window leaves there.
use Rattle.std.proofs.Common.{◌≡◌, ◌≢◌, ◌+◌, ◌-◌, ◌*◌, ◌/◌, ◌%◌, ◌<◌, ◌≤◌, ◌==◌, ◌++◌, ℕ, Bool, true, false, cond, if◌then◌else◌, nat_lt, All, IsSome, List, [], ◌∷◌, Option, Some, None, Result, Ok, Err, OnErr, length, take, drop, get_or, refl, sym, ◌∙◌, ap, subst, arith, length-append, length-take}
use Rattle.std.specs.List.{slice_get}
use Rattle.std.specs.Option.{option_and_then}
use Rattle.std.proofs.lemmas.Bool.{eq-eqb, eqb-true, eqb-false, ne_eqb}
use Rattle.std.proofs.lemmas.Bool.Decides.{nat_tests}
use Rattle.std.proofs.lemmas.List.{get_or-drop, get_or-take, get_or_append_left, length-drop}
use Rattle.std.proofs.lemmas.List.Elements.{All-head, All-tail}
use Rattle.vio_num.specs.declared.names.UnitId.{UnitId}
use Rattle.page_slots.specs.Page.{left_by}
use Rattle.page_slots.specs.Stroke.{StrokeValue}
use Rattle.page_slots.specs.declared.stroke.StrokeName.{StrokeName}
use Rattle.page_slots.proofs.Laws.{left_by-push}
use Rattle.tce_window.specs.Moved.{IsLaid, IsNamed, piece_strokes, stroke_of, strokes_on}
use Rattle.tce_window.specs.Pieces.{IsGranted, IsLast, Touches}
use Rattle.tce_window.specs.PortState.{PortPlace}
use Rattle.tce_window.specs.Region.{byte_in, region_byte}
use Rattle.tce_window.specs.Strokes.{with_strokes}
use Rattle.tce_window.specs.declared.answers.Right.{Right}
use Rattle.tce_window.specs.declared.answers.Right.TheVariants.{Write}
use Rattle.tce_window.specs.declared.piece.Piece.{Piece}
use Rattle.rdma_copy.specs.Copies.{Copies}
use Rattle.block_server.specs.Cargo.{FetchesPart, data_bytes}
use Rattle.block_server.specs.Copied.{MakesOne, own_name}
use Rattle.block_server.specs.Moves.{is_data}
use Rattle.block_server.specs.SiteState.{SiteState}
use Rattle.block_server.proofs.DataCopies.{with_none}
use Rattle.block_server.proofs.DataPages.{left_long, shown_there}
use Rattle.block_server.proofs.FirstPages.{entry_page}
use Rattle.block_server.proofs.CopyKinds.{in_behind}
use Rattle.block_server.proofs.NamedWindows.{grows_same}
use Rattle.block_server.proofs.Owning.{same_first}

-- the page of the first of some pieces
first_page_is : (unit : UnitId) (values : ℕ → List ℕ) (right : Right) (from to : ℕ) (piece : Piece) (pieces : List Piece) → ((e : ℕ) → e < 34 → values e ≡ (4096 * e + 3) ∷ [])
    → to ≤ 139264 → Touches unit from to (piece ∷ pieces) → All (IsGranted values right) (piece ∷ pieces) → All (IsLast values) (piece ∷ pieces) → piece.page ≡ from / 4096
first_page_is unit values right from to piece pieces first inside touched granted last =
    entry_page values right piece first (omega (arith, touched.1.entry, touched.0, inside)) (All-head (IsGranted values right) piece pieces granted)
    (All-head (IsLast values) piece pieces last) ∙ touched.1.entry

-- pieces of a range behind a page lay no stroke there
none_behind : (unit : UnitId) (values : ℕ → List ℕ) (right : Right) (name : StrokeName) (bytes : List ℕ) (from to p : ℕ) (pieces : List Piece)
    → ((e : ℕ) → e < 34 → values e ≡ (4096 * e + 3) ∷ []) → to ≤ 139264 → Touches unit from to pieces → All (IsGranted values right) pieces
    → All (IsLast values) pieces → (from < to → 4096 * (p + 1) ≤ from) → strokes_on p pieces (piece_strokes name bytes pieces) ≡ []
none_behind unit values right name bytes from to p [] first inside touched granted last behind = refl
none_behind unit values right name bytes from to p (piece ∷ pieces) first inside touched granted last behind =
    ap (λ t. cond t (stroke ∷ rest) rest)
    (ne_eqb piece.page p (λ is. omega (arith, is, first_page_is unit values right from to piece pieces first inside touched granted last, behind touched.0)))
    ∙ none_behind unit values right name (drop piece.len bytes) (from + piece.len) to p pieces first inside touched.2
    (All-tail (IsGranted values right) piece pieces granted) (All-tail (IsLast values) piece pieces last) (λ more. omega (arith, behind touched.0))
  where
    stroke : StrokeValue
    stroke = record { name = name; offset = piece.offset; bytes = take piece.len bytes }

    rest : List StrokeValue
    rest = strokes_on p pieces (piece_strokes name (drop piece.len bytes) pieces)

-- One stroke was laid on the page of an address, which has there the byte of the address.
record LaysByte (now : Option (List StrokeValue)) (bytes : List ℕ) (from a : ℕ) (strokes : List StrokeValue) : Type 0 where
  stroke : StrokeValue
  is : strokes ≡ stroke ∷ []
  there : IsSome now
  begins : stroke.offset ≡ from - 4096 * (a / 4096)
  from_is : stroke.offset ≤ a % 4096
  to_is : a % 4096 < stroke.offset + length stroke.bytes
  byte : get_or stroke.bytes (a % 4096 - stroke.offset) 0 ≡ get_or bytes (a - from) 0

some_named : (name : StrokeName) (piece : Piece) (now : Option (List StrokeValue)) → IsNamed name piece (option_and_then (λ s. slice_get s piece.at) now) → IsSome now
some_named name piece (Some strokes) is = refl
some_named name piece None is = absurd is

lays_byte : (unit : UnitId) (values : ℕ → List ℕ) (right : Right) (name : StrokeName) (now : ℕ → Option (List StrokeValue)) (bytes : List ℕ) (from to a : ℕ) (pieces : List Piece)
    → ((e : ℕ) → e < 34 → values e ≡ (4096 * e + 3) ∷ []) → to ≤ 139264 → Touches unit from to pieces → All (IsGranted values right) pieces
    → All (IsLast values) pieces → All (λ piece. IsNamed name piece (stroke_of now piece)) pieces → from + length bytes ≡ to → from ≤ a → a < to
    → LaysByte (now (a / 4096)) bytes from a (strokes_on (a / 4096) pieces (piece_strokes name bytes pieces))
lays_byte unit values right name now bytes from to a [] first inside touched granted last named long after before = absurd (omega (arith, touched, after, before))
lays_byte unit values right name now bytes from to a (piece ∷ pieces) first inside touched granted last named long after before =
    by (nat_lt a (from + piece.len)) refl
    (λ behind. lays_byte unit values right name now (drop piece.len bytes) (from + piece.len) to a pieces first inside touched.2 (All-tail (IsGranted values right) piece pieces granted)
    (All-tail (IsLast values) piece pieces last) (All-tail (λ p. IsNamed name p (stroke_of now p)) piece pieces named)
    (omega (arith, length-drop piece.len bytes, long, touched.1.len, touched.0)) behind before)
  where
    page_is : piece.page ≡ from / 4096
    page_is = first_page_is unit values right from to piece pieces first inside touched granted last

    one : StrokeValue
    one = record { name = name; offset = piece.offset; bytes = take piece.len bytes }

    rest : List StrokeValue
    rest = strokes_on (a / 4096) pieces (piece_strokes name (drop piece.len bytes) pieces)

    whole : length (take piece.len bytes) ≡ piece.len
    whole = omega (arith, length-take piece.len bytes, long, touched.1.len)

    by : (b : Bool) → nat_lt a (from + piece.len) ≡ b → (from + piece.len ≤ a → LaysByte (now (a / 4096)) (drop piece.len bytes) (from + piece.len) a rest)
        → LaysByte (now (a / 4096)) bytes from a (if piece.page == (a / 4096) then one ∷ rest else rest)
    by true is next =
        let here : a < from + piece.len = grind (arith, nat_tests) in
        let same : a / 4096 ≡ from / 4096 = omega (arith, here, after, touched.1.len) in
        record {
          stroke = one;
          is = ap (λ t. cond t (one ∷ rest) rest) (eq-eqb piece.page (a / 4096) (page_is ∙ sym same))
              ∙ ap (λ list. one ∷ list) (none_behind unit values right name (drop piece.len bytes) (from + piece.len) to (a / 4096) pieces first inside touched.2
              (All-tail (IsGranted values right) piece pieces granted) (All-tail (IsLast values) piece pieces last) (λ more. omega (arith, more, same, touched.1.len)));
          there = subst (λ (n : ℕ). IsSome (now n)) (page_is ∙ sym same) (some_named name piece (now piece.page) (All-head (λ p. IsNamed name p (stroke_of now p)) piece pieces named));
          begins = omega (arith, same, touched.1.offset);
          from_is = omega (arith, same, after, touched.1.offset);
          to_is = omega (arith, same, here, after, touched.1.offset, whole);
          byte = get_or-take piece.len bytes (a % 4096 - piece.offset) 0 (omega (arith, same, here, after, touched.1.offset))
              ∙ ap (λ (k : ℕ). get_or bytes k 0) (omega (arith, same, after, touched.1.offset));
        }
    by false is next =
        let past : from + piece.len ≤ a = grind (arith, nat_tests) in
        let behind : from + piece.len ≡ 4096 * (from / 4096 + 1) = omega (arith, past, before, touched.1.len) in
        let found = next past in
        record {
          stroke = found.stroke;
          is = ap (λ t. cond t (one ∷ rest) rest) (ne_eqb piece.page (a / 4096) (λ at. omega (arith, at, page_is, behind, past))) ∙ found.is;
          there = found.there;
          begins = omega (arith, found.begins, behind, past);
          from_is = found.from_is;
          to_is = found.to_is;
          byte = found.byte ∙ get_or-drop piece.len bytes (a - (from + piece.len)) 0 ∙ ap (λ (k : ℕ). get_or bytes k 0) (omega (arith, past));
        }

byte_before : (now before : Option (List StrokeValue)) (stroke : StrokeValue) (i : ℕ) → now ≡ with_strokes before (stroke ∷ []) → i < stroke.offset → i < 4096 → byte_in now i ≡ byte_in before i
byte_before now None stroke i laid less inside = ap (λ s. byte_in s i) laid
byte_before now (Some strokes) stroke i laid less inside =
    ap (λ s. byte_in s i) laid ∙ ap (λ (p : List ℕ). get_or p i 0) (left_by-push strokes stroke)
    ∙ get_or_append_left (take stroke.offset page ++ stroke.bytes) (drop (stroke.offset + length stroke.bytes) page) 0 i
    (omega (arith, less, inside, length-append (take stroke.offset page) stroke.bytes, length-take stroke.offset page, left_long strokes))
    ∙ get_or_append_left (take stroke.offset page) stroke.bytes 0 i (omega (arith, less, inside, length-take stroke.offset page, left_long strokes))
    ∙ get_or-take stroke.offset page i 0 less
  where
    page : List ℕ
    page = left_by strokes

-- a copy to the data's pages
fetches_from : (shared own_shared : Bool) (old new : SiteState) (address at len : ℕ) → own_shared ≡ false → ((e : ℕ) → e < 34 → old.own.values e ≡ (4096 * e + 3) ∷ [])
    → new.client.place.unit ≢ old.own.place.unit → 1 ≤ len → at + len ≤ 131072 → MakesOne own_shared new.client old.own new.own address (8192 + at) len (own_name old.own 0) old.copies new.copies → FetchesPart old new address at len
unfolding data_bytes
fetches_from shared true old new address at len alone first apart some inside made = absurd (cc (alone))
fetches_from shared false old new address at len alone first apart some inside made = record {
  part = bytes;
  long = long;
  fetched = record {
    copy = made.copy;
    made = made.made;
    fetched = record {
      name_is = copied.name_is ∙ ap (λ place. record { who = place.unit; mark = 0 }) (sym made.rest.place);
      len_is = copied.len_is ∙ sym long;
      read = copied.lawful.read;
      written = copied.lawful.written;
    };
    kind = subst (λ (place : PortPlace). is_data place.unit made.copy ≡ true) (sym made.rest.place)
        (in_behind false old.own.place.unit old.own new.own new.client address (8192 + at) len made.copy values some (omega (arith, inside)) (omega arith) refl
        (ap (λ (place : PortPlace). place.unit) made.rest.place) apart copied);
  };
  shows = λ k less.
      let byte = lays (8192 + (at + k)) (omega arith) (omega (arith, less, long)) in
      shown_there (laid ((8192 + (at + k)) / 4096)).before (new.own.strokes ((8192 + (at + k)) / 4096)) byte.stroke ((8192 + (at + k)) % 4096)
      ((laid ((8192 + (at + k)) / 4096)).laid ∙ ap (with_strokes (laid ((8192 + (at + k)) / 4096)).before) byte.is) byte.there byte.from_is (omega arith) byte.to_is
      ∙ byte.byte ∙ ap (λ (n : ℕ). get_or bytes n 0) (omega arith);
  rest = λ k less. before k less ((8192 + k) / 4096 == (8192 + at) / 4096) refl;
}
  where
    copied : Copies false new.client old.own new.own address (8192 + at) len (own_name old.own 0) made.copy
    copied = made.copied

    bytes : List ℕ
    bytes = copied.lawful.bytes

    long : length bytes ≡ len
    long = copied.lawful.len ∙ copied.len_is

    values : (e : ℕ) → e < 34 → new.own.values e ≡ (4096 * e + 3) ∷ []
    values = same_first false old.own new.own refl made.rest first

    laid : (p : ℕ) → IsLaid false p made.copy.to.items (piece_strokes (own_name old.own 0) bytes made.copy.to.items) (old.own.strokes p) (new.own.strokes p)
    laid p = subst (λ (list : List ℕ). IsLaid false p made.copy.to.items (piece_strokes (own_name old.own 0) list made.copy.to.items) (old.own.strokes p) (new.own.strokes p))
        copied.lawful.read.join (copied.laid p)

    lays : (a : ℕ) → 8192 + at ≤ a → a < 8192 + at + length bytes
        → LaysByte (new.own.strokes (a / 4096)) bytes (8192 + at) a (strokes_on (a / 4096) made.copy.to.items (piece_strokes (own_name old.own 0) bytes made.copy.to.items))
    lays a after below =
        lays_byte new.own.place.unit new.own.values Write (own_name old.own 0) new.own.strokes bytes (8192 + at) (8192 + at + length bytes) a made.copy.to.items values
        (omega (arith, long, inside)) copied.lawful.written.touched copied.lawful.written.granted copied.last_written
        (subst (λ (name : StrokeName). All (λ piece. IsNamed name piece (stroke_of new.own.strokes piece)) made.copy.to.items) copied.name_is copied.lawful.written.named) refl after below

    before : (k : ℕ) → k < at → (b : Bool) → ((8192 + k) / 4096 == (8192 + at) / 4096) ≡ b → region_byte new.own.strokes (8192 + k) ≡ region_byte old.own.strokes (8192 + k)
    before k less true e =
        let same = eqb-true ((8192 + k) / 4096) ((8192 + at) / 4096) e in
        let there = lays (8192 + at) (omega arith) (omega (arith, some, long)) in
        byte_before (new.own.strokes ((8192 + k) / 4096)) (laid ((8192 + k) / 4096)).before there.stroke ((8192 + k) % 4096)
        ((laid ((8192 + k) / 4096)).laid ∙ ap (with_strokes (laid ((8192 + k) / 4096)).before)
        (subst (λ (p : ℕ). strokes_on p made.copy.to.items (piece_strokes (own_name old.own 0) bytes made.copy.to.items) ≡ there.stroke ∷ []) (sym same) there.is))
        (omega (arith, there.begins, less, same)) (omega arith)
        ∙ ap (λ s. byte_in s ((8192 + k) % 4096)) (grows_same (old.own.strokes ((8192 + k) / 4096)) (laid ((8192 + k) / 4096)).before (laid ((8192 + k) / 4096)).grown)
    before k less false e =
        ap (λ s. byte_in s ((8192 + k) % 4096))
        ((laid ((8192 + k) / 4096)).laid ∙ ap (with_strokes (laid ((8192 + k) / 4096)).before)
        (none_behind new.own.place.unit new.own.values Write (own_name old.own 0) bytes (8192 + at) (8192 + at + length bytes) ((8192 + k) / 4096) made.copy.to.items values
        (omega (arith, long, inside)) copied.lawful.written.touched copied.lawful.written.granted copied.last_written
        (λ more. omega (arith, less, eqb-false ((8192 + k) / 4096) ((8192 + at) / 4096) e)))
        ∙ with_none (laid ((8192 + k) / 4096)).before ∙ grows_same (old.own.strokes ((8192 + k) / 4096)) (laid ((8192 + k) / 4096)).before (laid ((8192 + k) / 4096)).grown)

-- the same of numbers of another type
pub fetches_part : (own_shared : Bool) (old new : SiteState) (address at at' len len' : ℕ) → at' ≡ at → len' ≡ len → own_shared ≡ false
    → ((e : ℕ) → e < 34 → old.own.values e ≡ (4096 * e + 3) ∷ []) → new.client.place.unit ≢ old.own.place.unit → 1 ≤ len → at + len ≤ 131072
    → MakesOne own_shared new.client old.own new.own address (8192 + at') len' (own_name old.own 0) old.copies new.copies → FetchesPart old new address at len
fetches_part own_shared old new address at at' len len' same long alone first apart some inside made =
    fetches_from false own_shared old new address at len alone first apart some inside
    (subst (λ (z : ℕ × ℕ). MakesOne own_shared new.client old.own new.own address (8192 + z.0) z.1 (own_name old.own 0) old.copies new.copies) (λ i. (same i, long i)) made)

pub on_err_map : {T E : Type 0} (result : Result T E) (P Q : Type 0) → (P → Q) → OnErr result P → OnErr result Q
on_err_map (Ok value) P Q step is = tt
on_err_map (Err error) P Q step is = step is
