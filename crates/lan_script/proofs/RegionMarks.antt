-- Which strokes of a unit's own name lines and calls lay on its pages.
use Rattle.std.proofs.Common.{◌≡◌, ◌==◌, inl, inr, ℕ, cond, Bool, true, false, true≢false, All, List, [], ◌∷◌, Option, Some, None, Result, Ok, Err, IfOk, OnOk, drop, take, refl, sym, ◌∙◌, ap, subst}
use Rattle.std.proofs.lemmas.List.Elements.{All-cons, All-nil, All-weaker}
use Rattle.vio_num.specs.declared.memory.NoMemory.{NoMemory}
use Rattle.vio_num.specs.declared.names.UnitId.{UnitId}
use Rattle.page_slots.specs.Stroke.{StrokeValue}
use Rattle.page_slots.specs.declared.stroke.StrokeName.{StrokeName}
use Rattle.tce_window.specs.Moved.{IsLaid, piece_strokes, strokes_on}
use Rattle.tce_window.specs.PlainPort.{known_of}
use Rattle.tce_window.specs.Port.{Grows}
use Rattle.tce_window.specs.PortState.{LaysNone, PortState, WindowFacts}
use Rattle.tce_window.specs.Strokes.{with_strokes}
use Rattle.tce_window.specs.Window.{WindowValue}
use Rattle.tce_window.specs.declared.piece.Piece.{Piece}
use Rattle.boot_text.specs.declared.verb.Verb.{Verb}
use Rattle.unit_region.specs.Marks.{LaysJust, LaysNoStroke, LaysUnder, result_wrote}
use Rattle.unit_region.specs.RegionLines.{IsFrontOn, written_by}
use Rattle.unit_region.specs.declared.step.Step.{Step}
use Rattle.unit_region.specs.declared.step.Step.TheVariants as region
use Rattle.unit_region.proofs.Laws.{on_as, on_self, on_then, with_front, with_none}
use Rattle.lan_buffers.specs.Port.{PortValue}
use Rattle.lan_buffers.specs.declared.answers.Deliver.{Deliver}
use Rattle.lan_buffers.specs.declared.answers.Deliver.TheVariants as sent
use Rattle.lan_switch.specs.declared.answers.Offer.{Offer}
use Rattle.lan_switch.specs.declared.answers.SendRecord.{SendRecord}
use Rattle.lan_switch.specs.declared.station.Station.{Station}
use Rattle.lan_switch.specs.Sending.{IsOfferedAt, IsSent, Offering, after, before, has_offer, next_name, offering, windows_of}
use Rattle.lan_switch.specs.Source.{OnlyReadThrough}
use Rattle.lan_switch.specs.Switch.{same_unit}
use Rattle.vio_trace.specs.declared.lan_rows.FrameRow.{FrameRow}
use Rattle.lan_script.specs.Entries.{port_step}
use Rattle.lan_script.specs.Regions.{IsLineMark, IsNoMark, LaysMarks, LaysNoOwn, PortLays, strokes_at}
use Rattle.lan_script.specs.Seats.{is_in_region}
use Rattle.lan_script.specs.Units.{LanValue}
use Rattle.lan_script.specs.Windows.{FoundIn, facts_in, facts_of, window_in, with_window}
use Rattle.lan_script.specs.declared.lines.PortStep.{PortStep}
use Rattle.lan_script.specs.declared.seat.PortSeat.{PortSeat}
use Rattle.lan_script.specs.declared.windows.Place.{Place}
use Rattle.lan_script.proofs.Balancing.{Sends}
use Rattle.lan_script.proofs.Blocks.{self}
use Rattle.lan_script.proofs.Bringing.{Brings, brings}
use Rattle.lan_script.proofs.CarriedSent.{IsLending}
use Rattle.lan_script.proofs.Named.{same_strokes}
use Rattle.lan_script.proofs.Placing.{by_bool, one_unit, window_beside, window_with}
use Rattle.lan_script.proofs.RegionsGrow.{put_there, strokes_of}

-- ---- strokes

-- of the strokes behind those that a page had the mark of each of this name is so
abbrev pub Marked : (own : UnitId) → (allowed : ℕ → Type 0) → (old new : ℕ → Option (List StrokeValue)) → Type 0
Marked own allowed old new = (page : ℕ) → IsFrontOn own allowed (old page) (new page)

is_marked : (own : UnitId) (allowed : ℕ → Type 0) (old new : ℕ → Option (List StrokeValue)) → ((page : ℕ) → new page ≡ old page) → Marked own allowed old new
is_marked own allowed old new same page = subst (IsFrontOn own allowed (old page)) (sym (same page)) (on_self own allowed (old page))

then_marked : (own : UnitId) (allowed : ℕ → Type 0) (old mid new : ℕ → Option (List StrokeValue)) → Marked own allowed old mid → Marked own allowed mid new
    → Marked own allowed old new
then_marked own allowed old mid new first next page = on_then own allowed (old page) (mid page) (new page) (first page) (next page)

-- those of two lists of places
abbrev pub PlacesMarked : UnitId → (allowed : UnitId → ℕ → Type 0) → (old new : List Place) → Type 0
PlacesMarked unit allowed old new = Marked unit (allowed unit) (facts_in old unit).strokes (facts_in new unit).strokes

-- ---- calls

pub marks_placed : (allowed : UnitId → ℕ → Type 0) (old new : LanValue) → new.places ≡ old.places → LaysMarks allowed old new
marks_placed allowed old new same unit =
    is_marked unit (allowed unit) (strokes_at old unit) (strokes_at new unit) (λ page. ap (λ ps. (facts_in ps unit).strokes page) same)

pub marks_then : (allowed : UnitId → ℕ → Type 0) (old mid new : LanValue) → LaysMarks allowed old mid → LaysMarks allowed mid new → LaysMarks allowed old new
marks_then allowed old mid new first next unit =
    then_marked unit (allowed unit) (strokes_at old unit) (strokes_at mid unit) (strokes_at new unit) (first unit) (next unit)

pub marks_none : (allowed : UnitId → ℕ → Type 0) (old new : LanValue) → LaysNoOwn old new → LaysMarks allowed old new
marks_none allowed old new none unit page =
    on_as unit (IsNoMark unit) (allowed unit) (strokes_at old unit page) (strokes_at new unit page) (λ mark never. absurd never) (none unit page)

-- the same of results
pub marks_next : {X : Type 0} (allowed : UnitId → ℕ → Type 0) (old mid new : LanValue) (r : Result X NoMemory) → LaysMarks allowed old mid → OnOk r (LaysNoOwn mid new)
    → OnOk r (LaysMarks allowed old new)
marks_next allowed old mid new (Ok x) first next = marks_then allowed old mid new first (marks_none allowed mid new next)
marks_next allowed old mid new (Err memory) first next = tt

pub marks_kept : {X : Type 0} (allowed : UnitId → ℕ → Type 0) (old mid new : LanValue) (r : Result X NoMemory) → LaysMarks allowed old mid → new.places ≡ mid.places
    → OnOk r (LaysMarks allowed old new)
marks_kept allowed old mid new (Ok x) first same = marks_then allowed old mid new first (marks_placed allowed mid new same)
marks_kept allowed old mid new (Err memory) first same = tt

-- ---- a window that was taken and put back

by_window : (unit : UnitId) (allowed : UnitId → ℕ → Type 0) (ps qs : List Place) → window_in unit qs ≡ window_in unit ps → PlacesMarked unit allowed ps qs
by_window unit allowed ps qs same =
    is_marked unit (allowed unit) (facts_in ps unit).strokes (facts_in qs unit).strokes
    (λ page. ap (λ o. (facts_of unit qs o).strokes page) same ∙ strokes_of unit qs ps (window_in unit ps) page)

there_marked : (unit : UnitId) (allowed : UnitId → ℕ → Type 0) (ps qs : List Place) (own own' : WindowValue) → window_in unit ps ≡ Some own → window_in unit qs ≡ Some own'
    → Marked unit (allowed unit) (known_of own).strokes (known_of own').strokes → PlacesMarked unit allowed ps qs
there_marked unit allowed ps qs own own' was is marked =
    subst (λ (o : Option WindowValue). Marked unit (allowed unit) (facts_of unit ps o).strokes (facts_in qs unit).strokes) (sym was)
    (subst (λ (o : Option WindowValue). Marked unit (allowed unit) (known_of own).strokes (facts_of unit qs o).strokes) (sym is) marked)

marks_back : (allowed : UnitId → ℕ → Type 0) (lan now : LanValue) (unit : UnitId) (ps₁ ps₂ : List Place) (own own' : WindowValue) → lan ≡ now
    → window_in unit lan.places ≡ Some own → ps₁ ≡ with_window unit None lan.places → ps₂ ≡ with_window unit (Some own') ps₁
    → Marked unit (allowed unit) (known_of own).strokes (known_of own').strokes → (v : UnitId) → PlacesMarked v allowed now.places ps₂
marks_back allowed lan now unit ps₁ ps₂ own own' same at away back marked v =
    subst (λ (l : LanValue). PlacesMarked v allowed l.places ps₂) same
    (by_bool (same_unit v unit) (PlacesMarked v allowed lan.places ps₂)
    (λ e. subst (λ (u : UnitId). PlacesMarked u allowed lan.places ps₂) (sym (one_unit v unit e))
    (there_marked unit allowed lan.places ps₂ own own' at (put_there unit lan.places ps₁ ps₂ own own' at away back) marked))
    (λ e. by_window v allowed lan.places ps₂
    (ap (λ l. window_in v l) back ∙ window_beside unit v (Some own') ps₁ e ∙ ap (λ l. window_in v l) away ∙ window_beside unit v None lan.places e)))

pub line_back : (lan now : LanValue) (unit : UnitId) (mark : ℕ) (ps₁ ps₂ : List Place) (own own' : WindowValue) → lan ≡ now
    → window_in unit lan.places ≡ Some own → own.unit ≡ unit → ps₁ ≡ with_window unit None lan.places → ps₂ ≡ with_window unit (Some own') ps₁
    → LaysUnder false mark (known_of own) (known_of own') → (v : UnitId) → PlacesMarked v (IsLineMark unit mark) now.places ps₂
line_back lan now unit mark ps₁ ps₂ own own' same at named away back under =
    marks_back (IsLineMark unit mark) lan now unit ps₁ ps₂ own own' same at away back (λ page.
    on_as unit (λ m. m ≡ mark) (IsLineMark unit mark unit) ((known_of own).strokes page) ((known_of own').strokes page) (λ m is. (refl, is))
    (subst (λ (u : UnitId). IsFrontOn u (λ m. m ≡ mark) ((known_of own).strokes page) ((known_of own').strokes page)) named (under refl page)))

-- what a line in the region laid
page_there : (unit : UnitId) (ps : List Place) (own : WindowValue) (page : ℕ) → window_in unit ps ≡ Some own → (facts_in ps unit).strokes page ≡ (known_of own).strokes page
page_there unit ps own page at = ap (λ (o : Option WindowValue). (facts_of unit ps o).strokes page) at

lays_step : (unit : UnitId) (mark : ℕ) (verb : Verb) (step : Step) (old new : LanValue)
    → ((page : ℕ) → strokes_at new unit page ≡ with_strokes (strokes_at old unit page) (result_wrote unit mark (written_by verb) (Ok step) page))
    → PortLays unit mark verb (port_step step) old new
lays_step unit mark verb (region.Ends outcome) old new h = h
lays_step unit mark verb (region.Waits did) old new h = λ page. h page ∙ with_none (strokes_at old unit page)

pub lays_back : (lan now new : LanValue) (unit : UnitId) (mark : ℕ) (verb : Verb) (step : Step) (made : PortStep) (ps : List Place) (own own' : WindowValue) → lan ≡ now
    → window_in unit lan.places ≡ Some own → own.unit ≡ unit → ps ≡ with_window unit None lan.places → new.places ≡ with_window unit (Some own') ps
    → LaysJust false (known_of own) (known_of own') mark (written_by verb) (Ok step) → made ≡ port_step step → PortLays unit mark verb made now new
lays_back lan now new unit mark verb step made ps own own' same at named away back just made_is =
    subst (λ (l : LanValue). PortLays unit mark verb made l new) same
    (subst (λ (s : PortStep). PortLays unit mark verb s lan new) (sym made_is)
    (lays_step unit mark verb step lan new (λ page.
    page_there unit new.places own' page (put_there unit lan.places ps new.places own own' at away back)
    ∙ just refl page
    ∙ ap (λ (u : UnitId). with_strokes ((known_of own).strokes page) (result_wrote u mark (written_by verb) (Ok step) page)) named
    ∙ ap (λ (o : Option (List StrokeValue)). with_strokes o (result_wrote unit mark (written_by verb) (Ok step) page)) (sym (page_there unit lan.places own page at)))))

-- a line that is not in its unit's region
pub lays_apart : (verb : Verb) (P : Type 0) → is_in_region verb ≡ false → is_in_region verb ≡ true → P
lays_apart verb P isnt is = absurd (true≢false (sym is ∙ isnt))

pub none_back : (lan now : LanValue) (unit : UnitId) (ps₁ ps₂ : List Place) (own own' : WindowValue) → lan ≡ now
    → window_in unit lan.places ≡ Some own → ps₁ ≡ with_window unit None lan.places → ps₂ ≡ with_window unit (Some own') ps₁
    → LaysNoStroke false (known_of own) (known_of own') → (v : UnitId) → PlacesMarked v IsNoMark now.places ps₂
none_back lan now unit ps₁ ps₂ own own' same at away back none =
    marks_back IsNoMark lan now unit ps₁ ps₂ own own' same at away back
    (is_marked unit (IsNoMark unit) (known_of own).strokes (known_of own').strokes (λ page. none refl page))

pub marks_behind : (allowed : UnitId → ℕ → Type 0) (old mid : LanValue) (ps : List Place) → mid.places ≡ old.places
    → ((v : UnitId) → PlacesMarked v allowed mid.places ps) → (v : UnitId) → PlacesMarked v allowed old.places ps
marks_behind allowed old mid ps same marked v = subst (λ (l : List Place). PlacesMarked v allowed l ps) same (marked v)

-- a window that was only read through
pub through_none : (old new : PortState) → OnlyReadThrough false old new → LaysNoStroke false old new
through_none old new through e p = same_strokes (old.strokes p) (new.strokes p) (through.none.strokes p)

-- ---- sends

-- the strokes of a write have its name
named_next : (name : StrokeName) (bytes : List ℕ) (p : ℕ) (piece : Piece) (pieces : List Piece)
    → All (λ stroke. stroke.name ≡ name) (strokes_on p pieces (piece_strokes name (drop piece.len bytes) pieces))
    → All (λ stroke. stroke.name ≡ name) (strokes_on p (piece ∷ pieces) (piece_strokes name bytes (piece ∷ pieces)))
named_next name bytes p piece pieces later = by (piece.page == p)
  where
    rest : List StrokeValue
    rest = strokes_on p pieces (piece_strokes name (drop piece.len bytes) pieces)

    one : StrokeValue
    one = record { name = name; offset = piece.offset; bytes = take piece.len bytes }

    by : (b : Bool) → All (λ stroke. stroke.name ≡ name) (cond b (one ∷ rest) rest)
    by true = All-cons (λ (stroke : StrokeValue). stroke.name ≡ name) one rest refl later
    by false = later

named_so : (name : StrokeName) (bytes : List ℕ) (p : ℕ) (pieces : List Piece)
    → All (λ stroke. stroke.name ≡ name) (strokes_on p pieces (piece_strokes name bytes pieces))
named_so name bytes p [] = All-nil (λ (stroke : StrokeValue). stroke.name ≡ name)
named_so name bytes p (piece ∷ pieces) = named_next name bytes p piece pieces (named_so name (drop piece.len bytes) p pieces)

not_own : (v who : UnitId) → same_unit v who ≡ false → who ≡ v → ⊥
not_own v who other same = true≢false (sym (self v) ∙ subst (λ (u : UnitId). same_unit v u ≡ false) same other)

-- a frame of another unit that was written to a page
laid_marked : (v : UnitId) (name : StrokeName) (bytes : List ℕ) (p : ℕ) (pieces : List Piece) (old new : Option (List StrokeValue)) → same_unit v name.who ≡ false
    → IsLaid false p pieces (piece_strokes name bytes pieces) old new → IsFrontOn v (IsNoMark v) old new
laid_marked v name bytes p pieces old new other h =
    subst (λ o. IsFrontOn v (IsNoMark v) o new) (same_strokes old h.before h.grown)
    (subst (IsFrontOn v (IsNoMark v) h.before) (sym h.laid) (with_front v (IsNoMark v) h.before more theirs))
  where
    more : List StrokeValue
    more = strokes_on p pieces (piece_strokes name bytes pieces)

    theirs : All (λ stroke. stroke.name.who ≡ v → ⊥) more
    theirs =
        All-weaker (λ (stroke : StrokeValue). stroke.name ≡ name) (λ (stroke : StrokeValue). stroke.name.who ≡ v → ⊥)
        (λ stroke is mine. not_own v name.who other (sym (ap (λ (n : StrokeName). n.who) is) ∙ mine)) more (named_so name bytes p pieces)

-- a port that was offered a frame of another unit
learnt : (o : Offering) (v : UnitId) → o.windows.is_shared ≡ false → LaysNone o.windows.is_shared (before o v) (after o v)
    → Marked v (IsNoMark v) (before o v).strokes (after o v).strokes
learnt o v plain none =
    is_marked v (IsNoMark v) (before o v).strokes (after o v).strokes
    (λ page. same_strokes ((before o v).strokes page) ((after o v).strokes page)
    (subst (λ b. Grows b ((before o v).strokes page) ((after o v).strokes page)) plain (none.strokes page)))

offer_marked : (o : Offering) (v : UnitId) (old new : PortValue) (answer : Deliver) → o.windows.is_shared ≡ false → IsOfferedAt o v old new answer
    → (answer ≡ sent.NoMemory → ⊥) → same_unit v o.name.who ≡ false → Marked v (IsNoMark v) (before o v).strokes (after o v).strokes
offer_marked o v old new (sent.Done post) plain h not other = λ page.
    let d = h.done in
    let pieces : List Piece = d.row.to.items in
    laid_marked v o.name o.frame page pieces ((before o v).strokes page) ((after o v).strokes page) other
    (subst (λ b. IsLaid b page pieces (piece_strokes o.name o.frame pieces) ((before o v).strokes page) ((after o v).strokes page)) plain (d.written.laid page))
offer_marked o v old new (sent.Ungranted post fault) plain h not other = learnt o v plain h.window_is.kept
offer_marked o v old new sent.NoSize plain h not other = learnt o v plain h.window_is.kept
offer_marked o v old new sent.NoBuffer plain h not other = learnt o v plain h.window_is.kept
offer_marked o v old new (sent.Turn word) plain h not other = learnt o v plain h.window_is.kept
offer_marked o v old new (sent.InUse page word) plain h not other = learnt o v plain h.window_is.kept
offer_marked o v old new (sent.Closed control) plain h not other = learnt o v plain h.window_is.kept
offer_marked o v old new sent.NoMemory plain h not other = absurd (not refl)

offered_marked : (o : Offering) (old new : List Station) (offers : List Offer) (v : UnitId) → o.windows.is_shared ≡ false
    → ((other : UnitId) → has_offer other offers ≡ false → o.windows.facts' other ≡ o.windows.facts other) → Brings o old new offers v
    → Marked v (IsNoMark v) (o.windows.facts v).strokes (o.windows.facts' v).strokes
offered_marked o old new offers v plain beside (inl h) = offer_marked o v h.before h.after h.answer plain h.offered h.memory h.other
offered_marked o old new offers v plain beside (inr h) =
    is_marked v (IsNoMark v) (o.windows.facts v).strokes (o.windows.facts' v).strokes (λ page. ap (λ (f : WindowFacts). f.strokes page) (beside v h.none))

facts_marked : (ps₁ ps₂ : List Place) → facts_in ps₂ ≡ facts_in ps₁ → (v : UnitId) → PlacesMarked v IsNoMark ps₁ ps₂
facts_marked ps₁ ps₂ same v =
    is_marked v (IsNoMark v) (facts_in ps₁ v).strokes (facts_in ps₂ v).strokes (λ page. ap (λ (f : UnitId → WindowFacts). (f v).strokes page) same)

sent_marked : (seats : List PortSeat) (unit : UnitId) (parts : List ℕ) (ps₁ ps₂ : List Place) (ss ss' : List Station) (frames : List (List FrameRow))
    (Found : ℕ → ℕ → Type 0) (window window' : PortState) (r : SendRecord) → Sends seats ss frames unit
    → IsSent ss ss' unit parts false Found window window' (windows_of false facts_in FoundIn ps₁ ps₂) r → (v : UnitId) → PlacesMarked v IsNoMark ps₁ ps₂
sent_marked seats unit parts ps₁ ps₂ ss ss' frames Found window window' r sends (inl (h, beside)) v = facts_marked ps₁ ps₂ beside v
sent_marked seats unit parts ps₁ ps₂ ss ss' frames Found window window' r sends (inr (inl (h, beside))) v = facts_marked ps₁ ps₂ beside v
sent_marked seats unit parts ps₁ ps₂ ss ss' frames Found window window' r sends (inr (inr h)) v =
    offered_marked o ss h.answered.mid r.offers.items v refl h.answered.out.beside
    (brings o h.answered.out.all ss h.answered.mid r.offers.items v h.answered.out.offered sends.ascending)
  where
    o : Offering
    o = offering (next_name ss unit) h.frame (windows_of false facts_in FoundIn ps₁ ps₂)

lent_marked : (unit : UnitId) (ps ps₁ ps₂ ps₃ : List Place) (own own' : WindowValue) → IsLending unit ps ps₁ ps₂ ps₃ own own'
    → LaysNoStroke false (known_of own) (known_of own') → ((v : UnitId) → PlacesMarked v IsNoMark ps₁ ps₂) → (v : UnitId) → PlacesMarked v IsNoMark ps ps₃
lent_marked unit ps ps₁ ps₂ ps₃ own own' h none between v =
    by_bool (same_unit v unit) (PlacesMarked v IsNoMark ps ps₃)
    (λ e. subst (λ (u : UnitId). PlacesMarked u IsNoMark ps ps₃) (sym (one_unit v unit e))
    (there_marked unit IsNoMark ps ps₃ own own' h.at there
    (is_marked unit (IsNoMark unit) (known_of own).strokes (known_of own').strokes (λ page. none refl page))))
    (λ e.
    then_marked v (IsNoMark v) (facts_in ps v).strokes (facts_in ps₁ v).strokes (facts_in ps₃ v).strokes
    (by_window v IsNoMark ps ps₁ (ap (λ l. window_in v l) h.away ∙ window_beside unit v None ps e))
    (then_marked v (IsNoMark v) (facts_in ps₁ v).strokes (facts_in ps₂ v).strokes (facts_in ps₃ v).strokes (between v)
    (by_window v IsNoMark ps₂ ps₃ (ap (λ l. window_in v l) h.back ∙ window_beside unit v (Some own') ps₂ e))))
  where
    there : window_in unit ps₃ ≡ Some own'
    there = ap (λ l. window_in unit l) h.back ∙ window_with unit (Some own') ps₂ h.place

pub marks_sent : (lan now : LanValue) (ss : List Station) (unit : UnitId) (parts : List ℕ) (ps₁ ps₂ ps₃ : List Place) (own own' : WindowValue)
    (Found : ℕ → ℕ → Type 0) (r : Result SendRecord NoMemory) → lan ≡ now → Sends lan.seats lan.stations lan.frames unit
    → IsLending unit lan.places ps₁ ps₂ ps₃ own own' → OnlyReadThrough false (known_of own) (known_of own')
    → IfOk r (IsSent lan.stations ss unit parts false Found (known_of own) (known_of own') (windows_of false facts_in FoundIn ps₁ ps₂))
    → OnOk r ((v : UnitId) → PlacesMarked v IsNoMark now.places ps₃)
marks_sent lan now ss unit parts ps₁ ps₂ ps₃ own own' Found (Ok made) same sends lends through sent = λ v.
    subst (λ (l : LanValue). PlacesMarked v IsNoMark l.places ps₃) same
    (lent_marked unit lan.places ps₁ ps₂ ps₃ own own' lends (through_none (known_of own) (known_of own') through)
    (sent_marked lan.seats unit parts ps₁ ps₂ lan.stations ss lan.frames Found (known_of own) (known_of own') made sends sent) v)
marks_sent lan now ss unit parts ps₁ ps₂ ps₃ own own' Found (Err memory) same sends lends through sent = tt
