-- Bytes that were just written to a window stand there, where one entry has them all.
use Rattle.std.proofs.Common.{◌≡◌, ◌+◌, ◌-◌, ◌*◌, ◌/◌, ◌%◌, ◌<◌, ◌≤◌, ◌==◌, ◌++◌, ℕ, Bool, true, false, cond, All, List, [], ◌∷◌, Option, Some, None, Result, Ok, Err, OnOk, length, take, drop, fold, refl, sym, ◌∙◌, ap, ap₂, subst, arith, append-nil, append_assoc, slice_get, length-append, length-drop}
use Rattle.std.specs.List.{flat_map}
use Rattle.std.specs.Option.{option_and_then}
use Rattle.std.proofs.lemmas.Bool.Decides.{nat_tests}
use Rattle.std.proofs.lemmas.List.{drop_at, length-take, length-take-le, take_all, take_at}
use Rattle.std.proofs.lemmas.List.Elements.{All-head}
use Rattle.page_slots.specs.Page.{left_by, overwritten, replaced, zeros}
use Rattle.page_slots.specs.Stroke.{StrokeValue}
use Rattle.page_slots.specs.declared.stroke.StrokeName.{StrokeName}
use Rattle.page_slots.proofs.Laws.{left_by-push, length-zeros}
use Rattle.vio_num.specs.declared.entry.Entry.{Entry}
use Rattle.vio_num.specs.declared.memory.NoMemory.{NoMemory}
use Rattle.vio_num.specs.declared.names.UnitId.{UnitId}
use Rattle.tce_window.specs.declared.answers.Right.{Right}
use Rattle.tce_window.specs.declared.answers.Right.TheVariants.{Read, Write}
use Rattle.tce_window.specs.declared.piece.Piece.{Piece}
use Rattle.tce_window.specs.Moved.{IsNamed, IsWrittenTo, bytes_of, left_at, piece_strokes, read_bytes, stroke_of, strokes_on}
use Rattle.tce_window.specs.Pieces.{HasStrokes, IsGranted, IsLast, NamesPage, Touches}
use Rattle.tce_window.specs.PortState.{LaysNone, OnlyWrites, PortState, Writes}
use Rattle.tce_window.specs.Strokes.{with_strokes}
use Rattle.rdma_copy.specs.Copies.{Copies, OnlyCopies}
use Rattle.rdma_copy.specs.declared.copy.CopyRecord.{CopyRecord}
use Rattle.block_server.specs.Copied.{MakesOne, own_name}
use Rattle.block_server.specs.Granting.{LoginState}
use Rattle.block_server.specs.Standing.{HasAnswerAt, IsAnswerTo, IsShown, IsStroke, Stands}
use Rattle.block_server.specs.Talk.{IsReadWhole}
use Rattle.block_server.specs.declared.request.Request.{Request}
use Rattle.block_server.specs.declared.service.Outcome.{Outcome}
use Rattle.block_server.specs.declared.service.Stage.{Stage}
use Rattle.block_server.specs.declared.service.Stage.TheVariants as stages
use Rattle.block_server.specs.Stage.{is_before_step}
use Rattle.block_server.specs.Responses.{Answers}
use Rattle.srp_iu.specs.declared.response.Rsp.{Rsp}
use Rattle.block_server.proofs.DeliveredBytes.{delivered_bytes}
use Rattle.block_server.proofs.Owning.{same_first}

-- PAGES ------------------------------------------------------------------------------------------

-- a stroke makes no page shorter
grows_on : (page : List ℕ) (stroke : StrokeValue) → 4096 ≤ length page → 4096 ≤ length (overwritten page stroke)
grows_on page s long =
    omega (arith, long, length-append (take s.offset page ++ s.bytes) (drop (s.offset + length s.bytes) page), length-append (take s.offset page) s.bytes, length-take s.offset page, length-drop (s.offset + length s.bytes) page)

all_long : (page : List ℕ) (strokes : List StrokeValue) → 4096 ≤ length page → 4096 ≤ length (fold overwritten page strokes)
all_long page [] long = long
all_long page (s ∷ strokes) long = all_long (overwritten page s) strokes (grows_on page s long)

left_long : (strokes : List StrokeValue) → 4096 ≤ length (left_by strokes)
left_long strokes = all_long zeros strokes (omega (arith, length-zeros))

-- what was just written shows
shows : (page bytes : List ℕ) (offset : ℕ) → offset ≤ length page → take (length bytes) (drop offset (replaced page offset bytes)) ≡ bytes
shows page bytes offset inside =
    ap (λ list. take (length bytes) (drop offset list)) (append_assoc (take offset page) bytes (drop (offset + length bytes) page))
    ∙ ap (take (length bytes)) (drop_at (take offset page) (bytes ++ drop (offset + length bytes) page) offset (length-take-le offset page inside))
    ∙ take_at bytes (drop (offset + length bytes) page) (length bytes) refl

-- a page that is read where its last stroke lies shows that
read_back : (piece : Piece) (before now : Option (List StrokeValue)) (stroke : StrokeValue) → now ≡ with_strokes before (stroke ∷ []) → HasStrokes piece now
    → piece.offset ≡ stroke.offset → stroke.offset ≤ 4096 → piece.len ≡ length stroke.bytes → take piece.len (drop piece.offset (left_at now piece.at)) ≡ stroke.bytes
read_back piece None now stroke laid has from inside long = absurd (subst (HasStrokes piece) laid has)
read_back piece (Some strokes) now stroke laid has from inside long =
    ap₂ (λ (n : ℕ) s. take piece.len (drop n (left_at s piece.at))) from laid
    ∙ ap (λ list. take piece.len (drop stroke.offset (left_by list))) (take_all piece.at (strokes ++ stroke ∷ []) (omega (arith, subst (HasStrokes piece) laid has)))
    ∙ ap (λ list. take piece.len (drop stroke.offset list)) (left_by-push strokes stroke)
    ∙ ap (λ (n : ℕ). take n (drop stroke.offset (overwritten (left_by strokes) stroke))) long
    ∙ shows (left_by strokes) stroke.bytes stroke.offset (omega (arith, inside, left_long strokes))

-- the bytes of the last stroke of a page show on it
shown_last : (client : PortState) (address : ℕ) (bytes : List ℕ) (name : StrokeName) (piece : Piece) (before : Option (List StrokeValue)) (stroke : StrokeValue)
    → NamesPage client.values (address / 4096) piece.page → client.strokes piece.page ≡ with_strokes before (stroke ∷ []) → IsNamed name piece (stroke_of client.strokes piece)
    → stroke.offset ≡ address % 4096 → stroke.bytes ≡ bytes → IsShown client address bytes
shown_last client address bytes name piece None stroke named laid there from are =
    absurd (subst (λ (page : Option (List StrokeValue)). IsNamed name piece (option_and_then (λ strokes. slice_get strokes piece.at) page)) laid there)
shown_last client address bytes name piece (Some before) stroke named laid there from are = record {
  page = piece.page;
  named = named;
  strokes = before ++ stroke ∷ [];
  there = laid;
  shows = (λ i. take (length (sym are i)) (drop (sym from i) (left_by (before ++ stroke ∷ []))))
      ∙ ap (λ list. take (length stroke.bytes) (drop stroke.offset list)) (left_by-push before stroke)
      ∙ shows (left_by before) stroke.bytes stroke.offset (omega (arith, from, left_long before))
      ∙ are;
}

-- RANGES -----------------------------------------------------------------------------------------

-- the one piece of a range that one entry has
record IsOne (start count : ℕ) (pieces : List Piece) : Type 0 where
  piece : Piece
  one : pieces ≡ piece ∷ []
  entry : piece.entry ≡ start / 4096
  offset : piece.offset ≡ start % 4096
  long : piece.len ≡ count

one_of : (unit : UnitId) (start count to : ℕ) (pieces : List Piece) → to ≡ start + count → 1 ≤ count → start % 4096 + count ≤ 4096 → Touches unit start to pieces
    → IsOne start count pieces
one_of unit start count to [] is some fits touched = absurd (omega (arith, is, touched, some))
one_of unit start count to (piece ∷ []) is some fits touched = record {
  piece = piece;
  one = refl;
  entry = touched.1.entry;
  offset = touched.1.offset;
  long = omega (arith, is, touched.1.len, fits);
}
one_of unit start count to (piece ∷ next ∷ pieces) is some fits touched = absurd (omega (arith, is, touched.1.len, fits, touched.2.0))

-- the last value of an entry is one
value_one : (values : ℕ → List ℕ) (e f n m a b : ℕ) → e ≡ f → length (values e) ≡ n + 1 → length (values f) ≡ m + 1 → slice_get (values e) n ≡ Some a → slice_get (values f) m ≡ Some b → a ≡ b
value_one values e f n m a b same last_e last_f shown_e shown_f = some_one a b (sym shown_e ∙ (λ i. slice_get (values (same i)) (version i)) ∙ shown_f)
  where
    version : n ≡ m
    version = omega (arith, last_e, last_f, ap (λ (k : ℕ). length (values k)) same)

    some_one : (a b : ℕ) → Some a ≡ Some b → a ≡ b
    some_one a b is = cc (is)

page_one : (values : ℕ → List ℕ) (a b : Right) (p q : Piece) → p.entry ≡ q.entry → IsGranted values a p → IsLast values p → IsGranted values b q → IsLast values q → p.page ≡ q.page
page_one values a b p q same granted_p last_p granted_q last_q =
    granted_p.page
    ∙ ap (λ (v : ℕ). v / 4096) (value_one values p.entry q.entry p.version q.version granted_p.value granted_q.value same last_p last_q granted_p.shown granted_q.shown)
    ∙ sym granted_q.page

-- the stroke of one piece
stroke_one : (name : StrokeName) (bytes : List ℕ) (piece : Piece) → strokes_on piece.page (piece ∷ []) (piece_strokes name bytes (piece ∷ []))
    ≡ record { name = name; offset = piece.offset; bytes = take piece.len bytes } ∷ []
stroke_one name bytes piece = ap (λ t. cond t (record { name = name; offset = piece.offset; bytes = take piece.len bytes } ∷ []) []) same
  where
    same : (piece.page == piece.page) ≡ true
    same = grind (arith, nat_tests)

-- COPIES -----------------------------------------------------------------------------------------

-- a piece is the stroke that it names
stroke_there : (client : PortState) (name : StrokeName) (address : ℕ) (bytes : List ℕ) (piece : Piece) → NamesPage client.values (address / 4096) piece.page → piece.offset ≡ address % 4096
    → (page : Option (List StrokeValue)) → client.strokes piece.page ≡ page → (found : Option StrokeValue) → option_and_then (λ strokes. slice_get strokes piece.at) page ≡ found
    → IsNamed name piece found → bytes_of found ≡ bytes → IsStroke client name address bytes
stroke_there client name address bytes piece names offset page is None at named are = absurd named
stroke_there client name address bytes piece names offset None is (Some stroke) at named are = absurd (cc (at))
stroke_there client name address bytes piece names offset (Some strokes) is (Some stroke) at named are = record {
  page = piece.page;
  named = names;
  strokes = strokes;
  there = is;
  place = piece.at;
  is = at ∙ (λ i. Some (record { name = named.0 i; offset = (named.1 ∙ offset) i; bytes = are i }));
}

-- the page of a piece is the one that its entry names by its last value
names_page : (client : PortState) (to : ℕ) (piece : Piece) → piece.entry ≡ to / 4096 → IsGranted client.values Write piece → IsLast client.values piece
    → NamesPage client.values (to / 4096) piece.page
names_page client to piece entry granted last = subst (λ (e : ℕ). NamesPage client.values e piece.page) entry (record {
  version = piece.version;
  value = granted.value;
  current = record { shown = granted.shown; last = last };
  named = sym granted.page;
})

-- what was written to one piece is a stroke
one_stroke : (client : PortState) (name : StrokeName) (to : ℕ) (bytes : List ℕ) (pieces : List Piece) → IsOne to (length bytes) pieces
    → IsWrittenTo client.place.unit client.values client.strokes to name pieces bytes → All (IsLast client.values) pieces → IsStroke client name to bytes
one_stroke client name to bytes pieces one written last =
    stroke_there client name to bytes piece names one.offset (client.strokes piece.page) refl (stroke_of client.strokes piece) refl
    (All-head (λ p. IsNamed name p (stroke_of client.strokes p)) piece [] (subst (All (λ p. IsNamed name p (stroke_of client.strokes p))) one.one written.named))
    (sym (append-nil (bytes_of (stroke_of client.strokes piece))) ∙ ap (flat_map (λ p. bytes_of (stroke_of client.strokes p))) (sym one.one) ∙ written.join)
  where
    piece : Piece
    piece = one.piece

    names : NamesPage client.values (to / 4096) piece.page
    names = names_page client to piece one.entry (All-head (IsGranted client.values Write) piece [] (subst (All (IsGranted client.values Write)) one.one written.granted))
        (All-head (IsLast client.values) piece [] (subst (All (IsLast client.values)) one.one last))

-- what a copy wrote stands where it was written
pub stands_now : (shared : Bool) (src old new : PortState) (from to len : ℕ) (name : StrokeName) (copy : CopyRecord) (bytes : List ℕ)
    → (copied : Copies shared src old new from to len name copy) → copied.lawful.bytes ≡ bytes → 1 ≤ length bytes → Stands new name to bytes
stands_now shared src old new from to len name copy bytes copied is some = record { some = some; stand = stand; laid = λ fits. laid fits; shows = λ fits. shown fits }
  where
    written : IsWrittenTo new.place.unit new.values new.strokes to name copy.to.items bytes
    written = subst (λ (z : StrokeName × List ℕ). IsWrittenTo new.place.unit new.values new.strokes to z.0 copy.to.items z.1) (λ i. (copied.name_is i, is i)) copied.lawful.written

    laid : to % 4096 + length bytes ≤ 4096 → IsStroke new name to bytes
    laid fits =
        one_stroke new name to bytes copy.to.items (one_of new.place.unit to (length bytes) (to + length bytes) copy.to.items refl some fits written.touched) written
        copied.last_written

    moved : List ℕ
    moved = flat_map (read_bytes src.strokes) copy.from.items

    shown : to % 4096 + length bytes ≤ 4096 → IsShown new to bytes
    shown fits =
        let wrote = one_of new.place.unit to (length bytes) (to + length bytes) copy.to.items refl some fits written.touched in
        let at = wrote.piece in
        let laid = copied.laid at.page in
        let stroke : StrokeValue = record { name = name; offset = at.offset; bytes = take at.len moved } in
        shown_last new to bytes name at laid.before stroke
        (names_page new to at wrote.entry (All-head (IsGranted new.values Write) at [] (subst (All (IsGranted new.values Write)) wrote.one written.granted))
        (All-head (IsLast new.values) at [] (subst (All (IsLast new.values)) wrote.one copied.last_written)))
        (laid.laid ∙ ap (λ (more : List StrokeValue). with_strokes laid.before more) (ap (λ (list : List Piece). strokes_on at.page list (piece_strokes name moved list)) wrote.one ∙ stroke_one name moved at))
        (All-head (λ p. IsNamed name p (stroke_of new.strokes p)) at [] (subst (All (λ p. IsNamed name p (stroke_of new.strokes p))) wrote.one written.named))
        wrote.offset
        (ap₂ (λ (n : ℕ) (list : List ℕ). take n list) wrote.long (copied.lawful.read.join ∙ is) ∙ take_all (length bytes) bytes (omega arith))

    stand : to % 4096 + length bytes ≤ 4096 → (read : List ℕ) → IsReadWhole new to read → length read ≡ length bytes → read ≡ bytes
    stand fits read whole long =
        let wrote = one_of new.place.unit to (length bytes) (to + length copied.lawful.bytes) copy.to.items (ap (λ (list : List ℕ). to + length list) is) some fits copied.lawful.written.touched in
        let taken = one_of new.place.unit to (length bytes) (to + length read) whole.pieces (ap (λ (n : ℕ). to + n) long) some fits whole.read.touched in
        let laid = copied.laid wrote.piece.page in
        let stroke : StrokeValue = record { name = name; offset = wrote.piece.offset; bytes = take wrote.piece.len moved } in
        let bytes_are : stroke.bytes ≡ bytes = ap₂ (λ (n : ℕ) (list : List ℕ). take n list) wrote.long (copied.lawful.read.join ∙ is) ∙ take_all (length bytes) bytes (omega arith) in
        let inside : wrote.piece.offset ≤ 4096 = omega (arith, wrote.offset) in
        let page = page_one new.values Read Write taken.piece wrote.piece (taken.entry ∙ sym wrote.entry)
        (All-head (IsGranted new.values Read) taken.piece [] (subst (All (IsGranted new.values Read)) taken.one whole.read.granted))
        (All-head (IsLast new.values) taken.piece [] (subst (All (IsLast new.values)) taken.one whole.last))
        (All-head (IsGranted new.values Write) wrote.piece [] (subst (All (IsGranted new.values Write)) wrote.one copied.lawful.written.granted))
        (All-head (IsLast new.values) wrote.piece [] (subst (All (IsLast new.values)) wrote.one copied.last_written)) in
        let now : new.strokes taken.piece.page ≡ with_strokes laid.before (stroke ∷ []) =
        ap new.strokes page ∙ laid.laid
        ∙ ap (λ (more : List StrokeValue). with_strokes laid.before more) (ap (λ (list : List Piece). strokes_on wrote.piece.page list (piece_strokes name moved list)) wrote.one ∙ stroke_one name moved wrote.piece) in
        sym whole.read.join
        ∙ ap (flat_map (read_bytes new.strokes)) taken.one
        ∙ append-nil (read_bytes new.strokes taken.piece)
        ∙ read_back taken.piece laid.before (new.strokes taken.piece.page) stroke now
        (All-head (λ piece. HasStrokes piece (new.strokes piece.page)) taken.piece [] (subst (All (λ piece. HasStrokes piece (new.strokes piece.page))) taken.one whole.all))
        (taken.offset ∙ sym wrote.offset) inside (taken.long ∙ ap length (sym bytes_are))
        ∙ bytes_are

-- a write to page 0 and a copy from there left the bytes that were written
pub stands_one : (own_shared shared : Bool) (own own' own'' client' client'' : PortState) (address mark len : ℕ) (copies' copies'' : List CopyRecord) (bytes : List ℕ)
    → own_shared ≡ false → ((e : ℕ) → e < 34 → own.values e ≡ (4096 * e + 3) ∷ []) → 1 ≤ len → len ≤ 4096 → length bytes ≡ len
    → Writes own_shared own 0 bytes mark own' → OnlyWrites own own' → LaysNone own_shared own' own'' → OnlyCopies own_shared own' own''
    → MakesOne shared own'' client' client'' 0 address len (own_name own' mark) copies' copies'' → Stands client'' (own_name own mark) address bytes
stands_one true shared own own' own'' client' client'' address mark len copies' copies'' bytes alone first some few long wrote rest none own_rest made = absurd (cc (alone))
stands_one false shared own own' own'' client' client'' address mark len copies' copies'' bytes alone first some few long wrote rest none own_rest made =
    subst (λ (name : StrokeName). Stands client'' name address bytes) (ap (λ place. record { who = place.unit; mark = mark }) rest.place)
    (stands_now shared own'' client' client'' 0 address len (own_name own' mark) made.copy bytes made.copied
    (delivered_bytes shared own own' own'' client' client'' address mark len bytes (own_name own' mark) made.copy
    (same_first false own' own'' refl own_rest (λ e below. ap (λ values. values e) rest.values ∙ first e below)) some few long wrote none made.copied)
    (omega (arith, some, long)))

-- the same bytes stand in the same window, at the address of the same request
pub stands_same : (own client client' : PortState) (a b : Request) (bytes bytes' : List ℕ) → client' ≡ client → a ≡ b → bytes ≡ bytes'
    → Stands client (own_name own a.tag) a.address bytes → Stands client' (own_name own b.tag) b.address bytes'
stands_same own client client' a b bytes bytes' window same is =
    subst (λ (z : PortState × Request × List ℕ). Stands z.0 (own_name own z.1.tag) z.1.address z.2) (λ i. (sym window i, same i, is i))

-- ANSWERS ----------------------------------------------------------------------------------------

-- an answer was made
pub answer_set : {A : Type 0} (on : LoginState) (request : Request) (outcome : Outcome) (stage : Stage) (answer bytes : List ℕ) (result : Result A NoMemory) → OnOk result (stage ≡ stages.Answer outcome)
    → OnOk result (answer ≡ bytes) → IsAnswerTo on.current on.granted request.tag request.order outcome bytes → OnOk result (HasAnswerAt on request stage answer)
answer_set on request outcome stage answer bytes (Err memory) at is of = tt
answer_set on request outcome stage answer bytes (Ok done) at is of = subst (λ (z : Stage × List ℕ). HasAnswerAt on request z.0 z.1) (λ i. (sym at i, sym is i)) of

pub answer_at_now : (on : LoginState) (request : Request) (outcome : Outcome) (stage : Stage) (answer bytes : List ℕ) → stage ≡ stages.Answer outcome → answer ≡ bytes → IsAnswerTo on.current on.granted request.tag request.order outcome bytes
    → HasAnswerAt on request stage answer
answer_at_now on request outcome stage answer bytes at is of = subst (λ (z : Stage × List ℕ). HasAnswerAt on request z.0 z.1) (λ i. (sym at i, sym is i)) of

-- it has a tag
pub answers_tag : (P Q : Rsp → Type 0) → ((r : Rsp) → P r → Q r) → (bytes : List ℕ) → Answers bytes P → Answers bytes Q
answers_tag P Q more [] is = tt
answers_tag P Q more (byte ∷ bytes) is = (is.0, is.1, more is.0 is.2)

-- before the disk step there is none
pub before_answer : (on : LoginState) (request : Request) (stage : Stage) (answer : List ℕ) → is_before_step stage ≡ true → HasAnswerAt on request stage answer
before_answer on request stages.Start answer before = tt
before_answer on request stages.OutTable answer before = tt
before_answer on request stages.InTable answer before = tt
before_answer on request (stages.DataOut cursor) answer before = tt
before_answer on request (stages.Given row reply) answer before = tt
before_answer on request (stages.DataIn row reply cursor) answer before = tt
before_answer on request (stages.Answer outcome) answer before = absurd (cc (before))
before_answer on request (stages.Entry outcome) answer before = absurd (cc (before))
