-- That strokes which were laid one behind the other lie in the same ranges, and that a copy lays its strokes in its range.
use Rattle.std.proofs.Common.{◌≡◌, inl, inr, ◌+◌, ◌*◌, ◌≤◌, ◌==◌, ◌++◌, ℕ, zero, suc, arith, cond, Bool, true, false, All, List, [], ◌∷◌, Option, Some, None, append-nil, append_assoc, drop, take, length, refl, sym, ◌∙◌, ap, subst}
use Rattle.std.specs.List.{flat_map}
use Rattle.std.proofs.lemmas.Bool.Decides.{nat_tests}
use Rattle.std.proofs.lemmas.List.Elements.{All-nil, All-append, All-cons, All-head, All-tail, All-weaker}
use Rattle.vio_num.specs.declared.names.UnitId.{UnitId}
use Rattle.page_slots.specs.Stroke.{StrokeValue}
use Rattle.page_slots.specs.declared.stroke.StrokeName.{StrokeName}
use Rattle.tce_window.specs.declared.answers.Right.TheVariants.{Write}
use Rattle.tce_window.specs.declared.piece.Piece.{Piece}
use Rattle.tce_window.specs.Moved.{piece_strokes, read_bytes, strokes_on}
use Rattle.tce_window.specs.Pieces.{IsGranted, IsLast, IsPieceAt, Touches}
use Rattle.tce_window.specs.PortState.{LaysNone, PortState}
use Rattle.tce_window.specs.Strokes.{with_strokes}
use Rattle.rdma_copy.specs.Answers.{IfCopied, OnRefused}
use Rattle.rdma_copy.specs.Copies.{Copies, OnlyCopies}
use Rattle.rdma_copy.specs.declared.copy.CopyAnswer.{CopyAnswer}
use Rattle.rdma_copy.specs.declared.copy.CopyAnswer.TheVariants as copies
use Rattle.rdma_copy.specs.declared.copy.CopyRecord.{CopyRecord}
use Rattle.block_disk.specs.declared.reply.ScsiReply.{ScsiReply}
use Rattle.srp_iu.specs.declared.buffer.Desc.{Desc}
use Rattle.srp_iu.specs.declared.command.Cmd.{Cmd}
use Rattle.block_server.specs.Causes.{Hearing, IsNamed, IsPartOf}
use Rattle.block_server.specs.Fetched.{Gathers, HasPieces}
use Rattle.block_server.specs.Parts.{LiesIn as LiesInPieces}
use Rattle.block_server.specs.SiteState.{SiteState}
use Rattle.block_server.specs.Stage.{is_data_in}
use Rattle.block_server.specs.declared.cursor.Cursor.{Cursor}
use Rattle.block_server.specs.declared.request.Order.{Order}
use Rattle.block_server.specs.declared.request.Order.TheVariants as orders
use Rattle.block_server.specs.declared.request.Request.{Request}
use Rattle.block_server.specs.declared.service.Service.{Service}
use Rattle.block_server.specs.declared.service.Stage.{Stage}
use Rattle.block_server.specs.declared.service.Stage.TheVariants as stages
use Rattle.block_server.proofs.Serves.{gathers_of}
use Rattle.block_server.proofs.Servicing.{first_same}
use Rattle.block_server.specs.Ranges.{AddsEach, IsAnswerRange, IsDataIn, IsInNamed, IsRange, Known, LaysIn, LaysWithin, StrokeLiesIn, StrokeLiesInOne, MayWrite, client_known, known_in, seen_in}
use Rattle.block_server.specs.Talk.{StaysKnown}
use Rattle.block_server.proofs.NamedWindows.{grows_same}

-- a page stayed as it was
pub each_none : (P : StrokeValue → Type 0) (strokes : Option (List StrokeValue)) → AddsEach P strokes strokes
each_none P (Some strokes) = ([], sym (append-nil strokes), All-nil P)
each_none P None = tt

pub each_on : (P : StrokeValue → Type 0) (old mid new : Option (List StrokeValue)) → AddsEach P old mid → AddsEach P mid new → AddsEach P old new
each_on P (Some old) (Some mid) (Some new) first next = (
  first.0 ++ next.0,
  next.1 ∙ ap (λ front. front ++ next.0) first.1 ∙ append_assoc old first.0 next.0,
  All-append P first.0 next.0 first.2 next.2,
)
each_on P None None None first next = tt
each_on P (Some old) (Some mid) None first next = absurd next
each_on P (Some old) None new first next = absurd first
each_on P None (Some mid) new first next = absurd first
each_on P None None (Some new) first next = absurd next

pub each_weaker : (P Q : StrokeValue → Type 0) → ((stroke : StrokeValue) → P stroke → Q stroke) → (old new : Option (List StrokeValue)) → AddsEach P old new → AddsEach Q old new
each_weaker P Q more (Some old) (Some new) is = (is.0, is.1, All-weaker P Q more is.0 is.2)
each_weaker P Q more None None is = tt
each_weaker P Q more (Some old) None is = absurd is
each_weaker P Q more None (Some new) is = absurd is

-- ---- windows

within_on : (Ranges : ℕ → ℕ → Type 0) (old mid new : Known) → LaysWithin Ranges old mid → LaysWithin Ranges mid new → LaysWithin Ranges old new
within_on Ranges old mid new first next = record {
  values = next.values ∙ first.values;
  strokes = λ page. each_on (StrokeLiesInOne old.values Ranges page) (old.strokes page) (mid.strokes page) (new.strokes page) (first.strokes page)
      (subst (λ (v : ℕ → List ℕ). AddsEach (StrokeLiesInOne v Ranges page) (mid.strokes page) (new.strokes page)) first.values (next.strokes page));
}

pub lays_none : (Ranges : ℕ → ℕ → Type 0) (known : Option Known) → LaysIn Ranges known known
lays_none Ranges (Some known) = record { values = refl; strokes = λ page. each_none (StrokeLiesInOne known.values Ranges page) (known.strokes page) }
lays_none Ranges None = tt

pub lays_same : (Ranges : ℕ → ℕ → Type 0) (old new : Option Known) → new ≡ old → LaysIn Ranges old new
lays_same Ranges old new same = subst (LaysIn Ranges old) (sym same) (lays_none Ranges old)

pub lays_on : (Ranges : ℕ → ℕ → Type 0) (old mid new : Option Known) → LaysIn Ranges old mid → LaysIn Ranges mid new → LaysIn Ranges old new
lays_on Ranges (Some old) (Some mid) (Some new) first next = within_on Ranges old mid new first next
lays_on Ranges None None None first next = tt
lays_on Ranges (Some old) (Some mid) None first next = absurd next
lays_on Ranges (Some old) None new first next = absurd first
lays_on Ranges None (Some mid) new first next = absurd first
lays_on Ranges None None (Some new) first next = absurd next

pub lays_wider : (Ranges Wider : ℕ → ℕ → Type 0) → ((address len : ℕ) → Ranges address len → Wider address len) → (old new : Option Known)
    → LaysIn Ranges old new → LaysIn Wider old new
lays_wider Ranges Wider more (Some old) (Some new) is = record {
  values = is.values;
  strokes = λ page. each_weaker (StrokeLiesInOne old.values Ranges page) (StrokeLiesInOne old.values Wider page)
      (λ stroke h. record { address = h.address; len = h.len; range = more h.address h.len h.range; lies = h.lies }) (old.strokes page) (new.strokes page) (is.strokes page);
}
lays_wider Ranges Wider more None None is = tt
lays_wider Ranges Wider more (Some old) None is = absurd is
lays_wider Ranges Wider more None (Some new) is = absurd is

-- ---- copies

-- a take is no longer than it says
pub take_most : (n : ℕ) (bytes : List ℕ) → length (take n bytes) ≤ n
take_most zero bytes = omega arith
take_most (suc n) [] = omega arith
take_most (suc n) (byte ∷ bytes) = let h = take_most n bytes in omega (arith, h)

-- pieces go on
pub touches_on : (unit : UnitId) (from to : ℕ) (pieces : List Piece) → Touches unit from to pieces → from ≤ to
touches_on unit from to [] is = omega (arith, is)
touches_on unit from to (piece ∷ pieces) is = omega (arith, is.0)

-- the stroke of a piece lies in the range that the piece touches first
piece_lies : (unit : UnitId) (values : ℕ → List ℕ) (name : StrokeName) (bytes : List ℕ) (piece : Piece) (address len from to : ℕ) → IsPieceAt unit from to piece
    → IsGranted values Write piece → IsLast values piece → address ≤ from → from + piece.len ≤ address + len
    → StrokeLiesIn values address len piece.page (record { name = name; offset = piece.offset; bytes = take piece.len bytes })
piece_lies unit values name bytes piece address len from to at granted last low high =
    let most : length (take piece.len bytes) ≤ piece.len = take_most piece.len bytes in
    let start : 4096 * piece.entry + piece.offset ≡ from = omega (arith, at.entry, at.offset) in
    record {
      entry = piece.entry;
      named = record { version = piece.version; value = granted.value; current = record { shown = granted.shown; last = last }; named = sym granted.page };
      from = omega (arith, start, low);
      to = omega (arith, start, most, high);
      within = omega (arith, at.offset, at.len, most);
    }

pieces_lie : (unit : UnitId) (values : ℕ → List ℕ) (name : StrokeName) (bytes : List ℕ) (pieces : List Piece) (address len from to page : ℕ) → Touches unit from to pieces
    → All (IsGranted values Write) pieces → All (IsLast values) pieces → address ≤ from → to ≤ address + len
    → All (StrokeLiesIn values address len page) (strokes_on page pieces (piece_strokes name bytes pieces))
pieces_lie unit values name bytes [] address len from to page touched granted last low high = All-nil (StrokeLiesIn values address len page)
pieces_lie unit values name bytes (piece ∷ pieces) address len from to page touched granted last low high =
    by (piece.page == page) refl
    (pieces_lie unit values name (drop piece.len bytes) pieces address len (from + piece.len) to page touched.2 (All-tail (IsGranted values Write) piece pieces granted)
    (All-tail (IsLast values) piece pieces last) (omega (arith, low)) high)
  where
    first : StrokeValue
    first = record { name = name; offset = piece.offset; bytes = take piece.len bytes }

    rest : List StrokeValue
    rest = strokes_on page pieces (piece_strokes name (drop piece.len bytes) pieces)

    most : from + piece.len ≤ address + len
    most = let h = touches_on unit (from + piece.len) to pieces touched.2 in omega (arith, h, high)

    here : StrokeLiesIn values address len piece.page first
    here = piece_lies unit values name bytes piece address len from to touched.1 (All-head (IsGranted values Write) piece pieces granted)
        (All-head (IsLast values) piece pieces last) low most

    by : (t : Bool) → (piece.page == page) ≡ t → All (StrokeLiesIn values address len page) rest → All (StrokeLiesIn values address len page) (cond t (first ∷ rest) rest)
    by true is lie =
        All-cons (StrokeLiesIn values address len page) first rest
        (subst (λ (p : ℕ). StrokeLiesIn values address len p first) (grind (arith, nat_tests, is)) here) lie
    by false is lie = lie

-- a page on which such strokes were laid
pub laid_each : (P : StrokeValue → Type 0) (old : Option (List StrokeValue)) (more : List StrokeValue) → All P more → AddsEach P old (with_strokes old more)
laid_each P (Some strokes) more all = (more, refl, all)
laid_each P None more all = tt

one_range : (values : ℕ → List ℕ) (address len page : ℕ) (strokes : List StrokeValue) → All (StrokeLiesIn values address len page) strokes
    → All (StrokeLiesInOne values (IsRange address len) page) strokes
one_range values address len page strokes all =
    All-weaker (StrokeLiesIn values address len page) (StrokeLiesInOne values (IsRange address len) page)
    (λ stroke lies. record { address = address; len = len; range = (refl, refl); lies = lies }) strokes all

unlaid : (old new : PortState) (address len : ℕ) → LaysNone false old new → OnlyCopies false old new → LaysWithin (IsRange address len) (known_in old) (known_in new)
unlaid old new address len none rest = record {
  values = λ i e. rest.values e i;
  strokes = λ page. subst (AddsEach (StrokeLiesInOne old.values (IsRange address len) page) (old.strokes page))
      (sym (grows_same (old.strokes page) (new.strokes page) (none.strokes page))) (each_none (StrokeLiesInOne old.values (IsRange address len) page) (old.strokes page));
}

laid_within : (src old new : PortState) (from to len : ℕ) (name : StrokeName) (copy : CopyRecord) → Copies false src old new from to len name copy → OnlyCopies false old new
    → LaysWithin (IsRange to len) (known_in old) (known_in new)
laid_within src old new from to len name copy copied rest = record {
  values = same;
  strokes = λ page.
      let laid = copied.laid page in
      subst (AddsEach (StrokeLiesInOne old.values (IsRange to len) page) (old.strokes page))
      (ap (λ before. with_strokes before (strokes_on page copy.to.items (piece_strokes name bytes copy.to.items))) (sym (grows_same (old.strokes page) laid.before laid.grown))
      ∙ sym laid.laid)
      (laid_each (StrokeLiesInOne old.values (IsRange to len) page) (old.strokes page) (strokes_on page copy.to.items (piece_strokes name bytes copy.to.items))
      (one_range old.values to len page (strokes_on page copy.to.items (piece_strokes name bytes copy.to.items))
      (subst (λ (v : ℕ → List ℕ). All (StrokeLiesIn v to len page) (strokes_on page copy.to.items (piece_strokes name bytes copy.to.items))) same
      (pieces_lie new.place.unit new.values name bytes copy.to.items to len to (to + length copied.lawful.bytes) page copied.lawful.written.touched
      copied.lawful.written.granted copied.last_written (omega arith) (omega (arith, copied.lawful.len, copied.len_is))))));
}
  where
    bytes : List ℕ
    bytes = flat_map (read_bytes src.strokes) copy.from.items

    same : new.values ≡ old.values
    same = λ i e. rest.values e i

copied_within : (src old new : PortState) (from to len : ℕ) (name : StrokeName) (answer : CopyAnswer) → IfCopied answer (Copies false src old new from to len name)
    → OnRefused answer (LaysNone false old new) → OnlyCopies false old new → LaysWithin (IsRange to len) (known_in old) (known_in new)
copied_within src old new from to len name (copies.Copied copy) copied refused rest = laid_within src old new from to len name copy copied rest
copied_within src old new from to len name copies.Parameter copied refused rest = unlaid old new to len refused rest
copied_within src old new from to len name (copies.SourceParm fault) copied refused rest = unlaid old new to len refused rest
copied_within src old new from to len name (copies.DestParm fault) copied refused rest = unlaid old new to len refused rest
copied_within src old new from to len name (copies.Busy page word) copied refused rest = unlaid old new to len refused rest
copied_within src old new from to len name copies.NoMemory copied refused rest = unlaid old new to len refused rest

pub copy_within : (shared : Bool) (src old new : PortState) (from to len : ℕ) (name : StrokeName) (answer : CopyAnswer)
    → IfCopied answer (Copies shared src old new from to len name) → OnRefused answer (LaysNone shared old new) → OnlyCopies shared old new
    → LaysIn (IsRange to len) (cond shared None (Some (known_in old))) (cond shared None (Some (known_in new)))
copy_within true src old new from to len name answer copied refused rest = tt
copy_within false src old new from to len name answer copied refused rest = copied_within src old new from to len name answer copied refused rest

-- a window that was read
pub read_known : (shared : Bool) (old new : PortState) → (shared ≡ false → StaysKnown old new) → cond shared None (Some (known_in new)) ≡ cond shared None (Some (known_in old))
read_known true old new stays = refl
read_known false old new stays = same
  where
    known : StaysKnown old new
    known = stays refl

    same : Some (known_in new) ≡ Some (known_in old)
    same = λ i. Some (record { strokes = known.strokes i; values = known.values i })

-- ---- the parts of a service

-- a part that a copy moves next lies in one of the pieces
pub one_part : (list inns : List Desc) (found : Option ℕ) (address len : ℕ) → found ≡ Some address → list ≡ inns → LiesInPieces list found len
    → (address' len' : ℕ) → IsRange address len address' len' → IsPartOf inns address' len'
one_part list inns found address len is same lies address' len' range =
    subst (λ (n : ℕ). IsPartOf inns n len') (sym range.0)
    (subst (λ (n : ℕ). IsPartOf inns address n) (sym range.1)
    (subst (λ (l : List Desc). IsPartOf l address len) same (subst (λ (o : Option ℕ). LiesInPieces list o len) is lies)))

pub part_laid : (Ranges : ℕ → ℕ → Type 0) (old mid new : Option Known) (address len : ℕ) → ((address' len' : ℕ) → IsRange address len address' len' → Ranges address' len')
    → LaysIn Ranges old mid → LaysIn (IsRange address len) mid new → LaysIn Ranges old new
part_laid Ranges old mid new address len within first next = lays_on Ranges old mid new first (lays_wider (IsRange address len) Ranges within mid new next)

-- a service that is at no data-in
pub not_data_in : (stage : Stage) → ((row : ℕ) (reply : ScsiReply) (cursor : Cursor) → stage ≡ stages.DataIn row reply cursor → ⊥) → is_data_in stage ≡ true → ⊥
not_data_in (stages.DataIn row reply cursor) not is = not row reply cursor refl
not_data_in stages.Start not is = cc
not_data_in stages.OutTable not is = cc
not_data_in stages.InTable not is = cc
not_data_in (stages.DataOut cursor) not is = cc
not_data_in (stages.Given row reply) not is = cc
not_data_in (stages.Answer outcome) not is = cc
not_data_in (stages.Entry outcome) not is = cc

-- what the last part of a command's service lays, where its pieces are known
named_within : (Hears : Hearing) (command : Cmd) (inns : List Desc) (mid new : Option Known) → IsNamed Hears command.inn inns → LaysIn (IsPartOf inns) mid new
    → LaysIn (IsInNamed Hears command.inn) mid new
named_within Hears command inns mid new named =
    lays_wider (IsPartOf inns) (IsInNamed Hears command.inn) (λ address len part. record { list = inns; named = named; part = part }) mid new

pub handed_within : (Hears : Hearing) (command : Cmd) (stage : Stage) (outs inns : List Desc) (mid new : Option Known) → Gathers Hears command stage outs inns
    → (is_data_in stage ≡ true → LaysIn (IsPartOf inns) mid new) → (is_data_in stage ≡ false → new ≡ mid) → LaysIn (IsInNamed Hears command.inn) mid new
handed_within Hears command (stages.DataIn row reply cursor) outs inns mid new named wrote same = named_within Hears command inns mid new named (wrote refl)
handed_within Hears command stages.Start outs inns mid new named wrote same = lays_same (IsInNamed Hears command.inn) mid new (same refl)
handed_within Hears command stages.OutTable outs inns mid new named wrote same = lays_same (IsInNamed Hears command.inn) mid new (same refl)
handed_within Hears command stages.InTable outs inns mid new named wrote same = lays_same (IsInNamed Hears command.inn) mid new (same refl)
handed_within Hears command (stages.DataOut cursor) outs inns mid new named wrote same = lays_same (IsInNamed Hears command.inn) mid new (same refl)
handed_within Hears command (stages.Given row reply) outs inns mid new named wrote same = lays_same (IsInNamed Hears command.inn) mid new (same refl)
handed_within Hears command (stages.Answer outcome) outs inns mid new named wrote same = lays_same (IsInNamed Hears command.inn) mid new (same refl)
handed_within Hears command (stages.Entry outcome) outs inns mid new named wrote same = lays_same (IsInNamed Hears command.inn) mid new (same refl)

pub served_within : (Hears : Hearing) (command : Cmd) (service : Service) (request : Request) (rest : List Request) (old mid new : Option Known)
    → request.order ≡ orders.Command command → HasPieces Hears service.stage service.out.list.items service.inn.list.items (request ∷ rest) → mid ≡ old
    → (is_data_in service.stage ≡ true → LaysIn (IsPartOf service.inn.list.items) mid new) → (is_data_in service.stage ≡ false → new ≡ mid)
    → LaysIn (IsInNamed Hears command.inn) old new
served_within Hears command service request rest old mid new asked pieces same wrote unwritten =
    subst (λ (known : Option Known). LaysIn (IsInNamed Hears command.inn) known new) same
    (handed_within Hears command service.stage service.out.list.items service.inn.list.items mid new
    (gathers_of Hears service.stage service.out.list.items service.inn.list.items request rest command asked pieces) wrote unwritten)

-- a command's data-in, by what the request asks
pub lays_asked : (Hears : Hearing) (order : Order) (command : Cmd) (old new : Option Known) → order ≡ orders.Command command → LaysIn (IsInNamed Hears command.inn) old new
    → LaysIn (IsDataIn Hears order) old new
lays_asked Hears order command old new asked lays = subst (λ (o : Order). LaysIn (IsDataIn Hears o) old new) (sym asked) lays

-- the parts of the service of a request
pub prepared_within : (Hears : Hearing) (a b : Request) (old new : Option Known) → a ≡ b → LaysIn (IsDataIn Hears a.order) old new → LaysIn (MayWrite Hears b) old new
prepared_within Hears a b old new same lays =
    lays_wider (IsDataIn Hears a.order) (MayWrite Hears b) (λ address len is. inr (subst (λ (r : Request). IsDataIn Hears r.order address len) same is)) old new lays

pub wider_answer : (Hears : Hearing) (request : Request) (old new : Option Known) → LaysIn (IsAnswerRange request) old new → LaysIn (MayWrite Hears request) old new
wider_answer Hears request old new = lays_wider (IsAnswerRange request) (MayWrite Hears request) (λ address len is. inl is) old new

-- an answer of at most 256 bytes that was copied over its request
pub answer_laid : (request asked : Request) (items : List Request) (rest xs : List Request) (len : ℕ) (old new : Option Known) → items ≡ asked ∷ xs → items ≡ request ∷ rest → len ≤ 256
    → LaysIn (IsRange asked.address len) old new → LaysIn (IsAnswerRange request) old new
answer_laid request asked items rest xs len old new is parts few lays =
    lays_wider (IsRange asked.address len) (IsAnswerRange request)
    (λ address n range. (range.0 ∙ ap (λ (r : Request). r.address) (first_same items asked request xs rest is parts), omega (arith, range.1, few))) old new lays

-- a window that a call left as it was
pub known_of : (a b : SiteState) → b.shared ≡ a.shared → b.client ≡ a.client → client_known b ≡ client_known a
known_of a b shared client = λ i. seen_in (shared i) (client i)
