-- What copies leave of the data's pages of a unit's own window, and what copies from there carry.
use Rattle.std.proofs.Common.{◌≡◌, ◌≢◌, ◌+◌, ◌*◌, ◌/◌, ◌<◌, ◌≤◌, ℕ, Bool, true, false, cond, All, List, [], ◌∷◌, Option, Some, None, Result, Ok, Err, OnErr, length, take, drop, get_or, refl, sym, ◌∙◌, ap, subst, arith, append-nil}
use Rattle.std.specs.List.{flat_map}
use Rattle.std.proofs.lemmas.Bool.{ne_eqb}
use Rattle.std.proofs.lemmas.List.Elements.{All-head, All-tail}
use Rattle.vio_num.specs.declared.names.UnitId.{UnitId}
use Rattle.page_slots.specs.Stroke.{StrokeValue}
use Rattle.page_slots.specs.declared.stroke.StrokeName.{StrokeName}
use Rattle.tce_window.specs.Moved.{IsLaid, piece_strokes, read_bytes, strokes_on}
use Rattle.tce_window.specs.Pieces.{IsGranted, IsLast, Touches}
use Rattle.tce_window.specs.PortState.{PortPlace, PortState}
use Rattle.tce_window.specs.Region.{region_byte}
use Rattle.tce_window.specs.Strokes.{with_strokes}
use Rattle.tce_window.specs.declared.answers.Right.{Right}
use Rattle.tce_window.specs.declared.answers.Right.TheVariants.{Read, Write}
use Rattle.tce_window.specs.declared.piece.Piece.{Piece}
use Rattle.rdma_copy.specs.Answers.{OnRefused}
use Rattle.rdma_copy.specs.Copies.{Copies, OnlyCopies}
use Rattle.rdma_copy.specs.declared.copy.CopyRecord.{CopyRecord}
use Rattle.rdma_copy.specs.declared.copy.CopyAnswer.{CopyAnswer}
use Rattle.rdma_copy.specs.declared.copy.CopyAnswer.TheVariants as copies
use Rattle.block_server.specs.Cargo.{SendsPart, data_bytes}
use Rattle.block_server.specs.Copied.{MakesOne, copies_in, own_name}
use Rattle.block_server.specs.SiteState.{SiteState}
use Rattle.block_server.proofs.DataPages.{read_shows, same_data}
use Rattle.block_server.proofs.FirstPages.{entry_page}
use Rattle.block_server.proofs.CopyKinds.{out_behind}
use Rattle.block_server.proofs.NamedWindows.{grows_same}
use Rattle.block_server.proofs.Owning.{same_first}

-- pieces of a range before a page lay no stroke there
none_on : (unit : UnitId) (values : ℕ → List ℕ) (right : Right) (name : StrokeName) (bytes : List ℕ) (from to p : ℕ) (pieces : List Piece)
    → ((e : ℕ) → e < 34 → values e ≡ (4096 * e + 3) ∷ []) → to ≤ 139264 → Touches unit from to pieces → All (IsGranted values right) pieces
    → All (IsLast values) pieces → to ≤ 4096 * p → strokes_on p pieces (piece_strokes name bytes pieces) ≡ []
none_on unit values right name bytes from to p [] first inside touched granted last before = refl
none_on unit values right name bytes from to p (piece ∷ pieces) first inside touched granted last before =
    ap (λ t. cond t (stroke ∷ behind) behind) (ne_eqb piece.page p (λ is. omega (arith, is, page_is, touched.0, before)))
    ∙ none_on unit values right name (drop piece.len bytes) (from + piece.len) to p pieces first inside touched.2
    (All-tail (IsGranted values right) piece pieces granted) (All-tail (IsLast values) piece pieces last) before
  where
    stroke : StrokeValue
    stroke = record { name = name; offset = piece.offset; bytes = take piece.len bytes }

    behind : List StrokeValue
    behind = strokes_on p pieces (piece_strokes name (drop piece.len bytes) pieces)

    page_is : piece.page ≡ from / 4096
    page_is = entry_page values right piece first (omega (arith, touched.1.entry, touched.0, inside)) (All-head (IsGranted values right) piece pieces granted)
        (All-head (IsLast values) piece pieces last) ∙ touched.1.entry

pub with_none : (strokes : Option (List StrokeValue)) → with_strokes strokes [] ≡ strokes
with_none (Some strokes) = ap Some (append-nil strokes)
with_none None = refl

-- a copy to the first page leaves the data's pages as they are
pub unit_leaves : (shared : Bool) (client own own' : PortState) (address len : ℕ) (name : StrokeName) (old new : List CopyRecord) → shared ≡ false
    → ((e : ℕ) → e < 34 → own.values e ≡ (4096 * e + 3) ∷ []) → len ≤ 4096 → MakesOne shared client own own' address 0 len name old new → data_bytes own' ≡ data_bytes own
unit_leaves true client own own' address len name old new alone first few made = absurd (cc (alone))
unit_leaves false client own own' address len name old new alone first few made = same_data own own' each
  where
    copied : Copies false client own own' address 0 len name made.copy
    copied = made.copied

    bytes : List ℕ
    bytes = flat_map (read_bytes client.strokes) made.copy.from.items

    few' : 0 + length copied.lawful.bytes ≤ 4096
    few' = omega (arith, copied.lawful.len, copied.len_is, few)

    each : (p : ℕ) → 2 ≤ p → own'.strokes p ≡ own.strokes p
    each p behind =
        laid.laid ∙ ap (with_strokes laid.before)
        (none_on own'.place.unit own'.values Write name bytes 0 (0 + length copied.lawful.bytes) p made.copy.to.items (same_first false own own' refl made.rest first)
        (omega (arith, few')) copied.lawful.written.touched copied.lawful.written.granted copied.last_written (omega (arith, few', behind)))
        ∙ with_none laid.before ∙ grows_same (own.strokes p) laid.before laid.grown
      where
        laid : IsLaid false p made.copy.to.items (piece_strokes name bytes made.copy.to.items) (own.strokes p) (own'.strokes p)
        laid = copied.laid p

-- a copy that was not made laid nothing
pub refused_none : {T E : Type 0} (result : Result T E) (answer : CopyAnswer) (P : Type 0) → OnRefused answer P → OnErr result (copies_in answer ≡ []) → OnErr result P
refused_none (Ok value) answer P refused none = tt
refused_none (Err error) (copies.Copied copy) P refused none = absurd (cc (none))
refused_none (Err error) copies.Parameter P refused none = refused
refused_none (Err error) (copies.SourceParm fault) P refused none = refused
refused_none (Err error) (copies.DestParm fault) P refused none = refused
refused_none (Err error) (copies.Busy page word) P refused none = refused
refused_none (Err error) copies.NoMemory P refused none = refused

-- a copy from the data's pages carries what they show
sends_from : (own_shared shared : Bool) (old new : SiteState) (at address len mark : ℕ) → own_shared ≡ false → ((e : ℕ) → e < 34 → old.own.values e ≡ (4096 * e + 3) ∷ [])
    → old.client.place.unit ≢ old.own.place.unit → 1 ≤ len → at + len ≤ 131072 → OnlyCopies own_shared old.own new.own
    → MakesOne shared new.own old.client new.client (8192 + at) address len (own_name old.own mark) old.copies new.copies → SendsPart old new at address len mark
unfolding data_bytes
sends_from true shared old new at address len mark alone first apart some inside rest made = absurd (cc (alone))
sends_from false shared old new at address len mark alone first apart some inside rest made = record {
  part = bytes;
  long = long;
  delivered = record {
    copy = made.copy;
    made = made.made;
    delivered = record {
      name_is = copied.name_is ∙ ap (λ place. record { who = place.unit; mark = mark }) (sym rest.place);
      len_is = copied.len_is ∙ sym long;
      read = copied.lawful.read;
      written = copied.lawful.written;
    };
  };
  shows = λ k less.
      ap (λ (list : List ℕ). get_or list k 0) (sym copied.lawful.read.join)
      ∙ read_shows new.own.place.unit new.own.values Read new.own.strokes (8192 + at) (8192 + at + length bytes) made.copy.from.items
      (same_first false old.own new.own refl rest first) (omega (arith, long, inside)) copied.lawful.read.touched copied.lawful.read.granted copied.last_read copied.all_read
      k (omega (arith, less, long)) ∙ ap (region_byte new.own.strokes) (omega arith);
  kind = out_behind shared new.own.place.unit new.own old.own old.client new.client (8192 + at) address len mark made.copy (same_first false old.own new.own refl rest first) some
      (omega (arith, inside)) (omega arith) refl (ap (λ (place : PortPlace). place.unit) (sym rest.place))
      (λ is. apart (sym (ap (λ (place : PortPlace). place.unit) made.rest.place) ∙ is ∙ ap (λ (place : PortPlace). place.unit) rest.place)) copied;
}
  where
    copied : Copies shared new.own old.client new.client (8192 + at) address len (own_name old.own mark) made.copy
    copied = made.copied

    bytes : List ℕ
    bytes = copied.lawful.bytes

    long : length bytes ≡ len
    long = copied.lawful.len ∙ copied.len_is

-- the same of numbers of another type
pub sends_part : (own_shared shared : Bool) (old new : SiteState) (at at' address len len' mark : ℕ) → at' ≡ at → len' ≡ len → own_shared ≡ false
    → ((e : ℕ) → e < 34 → old.own.values e ≡ (4096 * e + 3) ∷ []) → old.client.place.unit ≢ old.own.place.unit → 1 ≤ len → at + len ≤ 131072 → OnlyCopies own_shared old.own new.own
    → MakesOne shared new.own old.client new.client (8192 + at') address len' (own_name old.own mark) old.copies new.copies → SendsPart old new at address len mark
sends_part own_shared shared old new at at' address len len' mark same long alone first apart some inside rest made =
    sends_from own_shared shared old new at address len mark alone first apart some inside rest
    (subst (λ (z : ℕ × ℕ). MakesOne shared new.own old.client new.client (8192 + z.0) address z.1 (own_name old.own mark) old.copies new.copies) (λ i. (same i, long i)) made)
