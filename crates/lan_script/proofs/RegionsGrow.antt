-- That no stroke on any region's pages is gone, and what a step of a line says of its unit's region.
use Rattle.std.proofs.Common.{◌≡◌, ◌++◌, inl, inr, ℕ, true, false, IsSome, IfSome, List, [], Option, Some, None, Result, Ok, Err, IfOk, OnOk, length, append-nil, append_assoc, refl, sym, ◌∙◌, ap, subst}
use Rattle.vio_num.specs.declared.memory.NoMemory.{NoMemory}
use Rattle.vio_num.specs.declared.names.UnitId.{UnitId}
use Rattle.boot_text.specs.declared.verb.Verb.{Verb}
use Rattle.boot_text.specs.declared.verb.Verb.TheVariants as verbs
use Rattle.page_slots.specs.Stroke.{StrokeValue}
use Rattle.rdma_copy.proofs.Laws.{learns_grows}
use Rattle.tce_window.specs.Moved.{IsLaid, piece_strokes}
use Rattle.tce_window.specs.declared.piece.Piece.{Piece}
use Rattle.tce_window.specs.PlainPort.{known_of}
use Rattle.tce_window.specs.Port.{Grows}
use Rattle.tce_window.specs.PortState.{PortState, WindowFacts}
use Rattle.tce_window.specs.Window.{WindowValue}
use Rattle.unit_region.specs.Kept.{KeepsWindow}
use Rattle.unit_region.specs.RegionLines.{IsTold, RegionSeen, StepTold, region_seen}
use Rattle.unit_region.specs.declared.step.Step.{Step}
use Rattle.unit_region.specs.declared.step.Step.TheVariants as region
use Rattle.lan_buffers.specs.Port.{PortValue}
use Rattle.lan_buffers.specs.declared.answers.Deliver.{Deliver}
use Rattle.lan_buffers.specs.declared.answers.Deliver.TheVariants as sent
use Rattle.lan_switch.specs.declared.answers.Offer.{Offer}
use Rattle.lan_switch.specs.declared.answers.SendRecord.{SendRecord}
use Rattle.lan_switch.specs.declared.station.Station.{Station}
use Rattle.lan_switch.specs.Sending.{IsOfferedAt, IsSent, Offering, after, before, has_offer, next_name, offering, windows_of}
use Rattle.lan_switch.specs.Switch.{same_unit}
use Rattle.vio_trace.specs.declared.lan_rows.FrameRow.{FrameRow}
use Rattle.vio_trace.specs.declared.outcome.Outcome.{Outcome}
use Rattle.lan_script.specs.Entries.{port_step}
use Rattle.lan_script.specs.Invariant.{IsLan}
use Rattle.lan_script.specs.Regions.{PortTold, RegionGrows, RegionsGrow, strokes_at}
use Rattle.lan_script.specs.Seats.{is_in_region, seat_at}
use Rattle.lan_script.specs.Units.{LanValue}
use Rattle.lan_script.specs.Windows.{FoundIn, facts_in, facts_of, window_in, with_window}
use Rattle.lan_script.specs.declared.lines.PortStep.{PortStep}
use Rattle.lan_script.specs.declared.lines.PortStep.TheVariants as steps
use Rattle.lan_script.specs.declared.seat.PortSeat.{PortSeat}
use Rattle.lan_script.specs.declared.windows.Place.{Place}
use Rattle.lan_script.proofs.Balancing.{Sends}
use Rattle.lan_script.proofs.Bringing.{Brings, brings}
use Rattle.lan_script.proofs.CarriedSent.{IsLending}
use Rattle.lan_script.proofs.Filling.{laid_grows}
use Rattle.lan_script.proofs.Lans.{window_pages}
use Rattle.lan_script.proofs.Placing.{by_bool, has_place, one_unit, window_beside, window_with, with_twice}

-- ---- strokes

-- no stroke on the pages of a region is gone
abbrev PagesGrow : (old new : ℕ → Option (List StrokeValue)) → Type 0
PagesGrow old new = (page : ℕ) → Grows true (old page) (new page)

same_page : (old : Option (List StrokeValue)) → Grows true old old
same_page (Some old) = ([], sym (append-nil old))
same_page None = tt

pub then_page : (old mid new : Option (List StrokeValue)) → Grows true old mid → Grows true mid new → Grows true old new
then_page (Some a) (Some b) (Some c) x y = (x.0 ++ y.0, y.1 ∙ ap (λ front. front ++ y.0) x.1 ∙ append_assoc a x.0 y.0)
then_page (Some a) (Some b) None x y = absurd y
then_page (Some a) None c x y = absurd x
then_page None (Some b) c x y = absurd x
then_page None None (Some c) x y = absurd y
then_page None None None x y = tt

is_page : (old new : ℕ → Option (List StrokeValue)) → ((page : ℕ) → new page ≡ old page) → PagesGrow old new
is_page old new same page = subst (Grows true (old page)) (sym (same page)) (same_page (old page))

-- those of two lists of places
abbrev PlacesGrow : UnitId → (old new : List Place) → Type 0
PlacesGrow unit old new = PagesGrow (facts_in old unit).strokes (facts_in new unit).strokes

then_places : (unit : UnitId) (old mid new : List Place) → PlacesGrow unit old mid → PlacesGrow unit mid new → PlacesGrow unit old new
then_places unit old mid new first next page =
    then_page ((facts_in old unit).strokes page) ((facts_in mid unit).strokes page) ((facts_in new unit).strokes page) (first page) (next page)

-- ---- calls

pub regions_placed : (old new : LanValue) → new.places ≡ old.places → RegionsGrow old new
regions_placed old new same unit = is_page (strokes_at old unit) (strokes_at new unit) (λ page. ap (λ ps. (facts_in ps unit).strokes page) same)

pub regions_then : (old mid new : LanValue) → RegionsGrow old mid → RegionsGrow mid new → RegionsGrow old new
regions_then old mid new first next unit page =
    then_page (strokes_at old unit page) (strokes_at mid unit page) (strokes_at new unit page) (first unit page) (next unit page)

pub region_same : (lan : LanValue) (unit : UnitId) → RegionGrows unit lan lan
region_same lan unit page = same_page (strokes_at lan unit page)

pub region_then : (unit : UnitId) (old mid new : LanValue) → RegionGrows unit old mid → RegionGrows unit mid new → RegionGrows unit old new
region_then unit old mid new first next page =
    then_page (strokes_at old unit page) (strokes_at mid unit page) (strokes_at new unit page) (first page) (next page)

-- the same of results
pub regions_ok : {X : Type 0} (old new : LanValue) (r : Result X NoMemory) → RegionsGrow old new → OnOk r (RegionsGrow old new)
regions_ok old new (Ok x) grow = grow
regions_ok old new (Err memory) grow = tt

pub regions_next : {X : Type 0} (old mid new : LanValue) (r : Result X NoMemory) → RegionsGrow old mid → OnOk r (RegionsGrow mid new) → OnOk r (RegionsGrow old new)
regions_next old mid new (Ok x) first next = regions_then old mid new first next
regions_next old mid new (Err memory) first next = tt

pub regions_kept : {X : Type 0} (old mid new : LanValue) (r : Result X NoMemory) → RegionsGrow old mid → new.places ≡ mid.places → OnOk r (RegionsGrow old new)
regions_kept old mid new (Ok x) first same = regions_then old mid new first (regions_placed mid new same)
regions_kept old mid new (Err memory) first same = tt

-- ---- a window that was taken and put back

pub strokes_of : (unit : UnitId) (ps qs : List Place) (o : Option WindowValue) (page : ℕ) → (facts_of unit ps o).strokes page ≡ (facts_of unit qs o).strokes page
strokes_of unit ps qs (Some window) page = refl
strokes_of unit ps qs None page = refl

by_window : (unit : UnitId) (ps qs : List Place) → window_in unit qs ≡ window_in unit ps → PlacesGrow unit ps qs
by_window unit ps qs same =
    is_page (facts_in ps unit).strokes (facts_in qs unit).strokes
    (λ page. ap (λ o. (facts_of unit qs o).strokes page) same ∙ strokes_of unit qs ps (window_in unit ps) page)

-- one window for another that has its strokes
there_grows : (unit : UnitId) (ps qs : List Place) (own own' : WindowValue) → window_in unit ps ≡ Some own → window_in unit qs ≡ Some own'
    → PagesGrow (known_of own).strokes (known_of own').strokes → PlacesGrow unit ps qs
there_grows unit ps qs own own' was is grow page =
    subst (λ (o : Option WindowValue). Grows true ((facts_of unit ps o).strokes page) ((facts_in qs unit).strokes page)) (sym was)
    (subst (λ (o : Option WindowValue). Grows true ((known_of own).strokes page) ((facts_of unit qs o).strokes page)) (sym is) (grow page))

beside_grows : (unit : UnitId) (ps ps₁ ps₂ : List Place) (own' : WindowValue) → ps₁ ≡ with_window unit None ps → ps₂ ≡ with_window unit (Some own') ps₁
    → (other : UnitId) → same_unit other unit ≡ false → PlacesGrow other ps ps₂
beside_grows unit ps ps₁ ps₂ own' away back other not =
    by_window other ps ps₂
    (ap (λ l. window_in other l) back ∙ window_beside unit other (Some own') ps₁ not ∙ ap (λ l. window_in other l) away
    ∙ window_beside unit other None ps not)

pub put_there : (unit : UnitId) (ps ps₁ ps₂ : List Place) (own own' : WindowValue) → window_in unit ps ≡ Some own → ps₁ ≡ with_window unit None ps
    → ps₂ ≡ with_window unit (Some own') ps₁ → window_in unit ps₂ ≡ Some own'
put_there unit ps ps₁ ps₂ own own' at away back =
    ap (λ l. window_in unit l) (back ∙ ap (λ l. with_window unit (Some own') l) away ∙ with_twice unit None (Some own') ps)
    ∙ window_with unit (Some own') ps (has_place unit own ps at)

back_all : (unit : UnitId) (ps ps₁ ps₂ : List Place) (own own' : WindowValue) → window_in unit ps ≡ Some own → ps₁ ≡ with_window unit None ps
    → ps₂ ≡ with_window unit (Some own') ps₁ → PagesGrow (known_of own).strokes (known_of own').strokes → (v : UnitId) → PlacesGrow v ps ps₂
back_all unit ps ps₁ ps₂ own own' at away back grow v =
    by_bool (same_unit v unit) (PlacesGrow v ps ps₂)
    (λ e. subst (λ (u : UnitId). PlacesGrow u ps ps₂) (sym (one_unit v unit e))
    (there_grows unit ps ps₂ own own' at (put_there unit ps ps₁ ps₂ own own' at away back) grow))
    (λ e. beside_grows unit ps ps₁ ps₂ own' away back v e)

pub regions_back : (lan now : LanValue) (unit : UnitId) (ps₁ ps₂ : List Place) (own own' : WindowValue) → lan ≡ now → window_in unit lan.places ≡ Some own
    → ps₁ ≡ with_window unit None lan.places → ps₂ ≡ with_window unit (Some own') ps₁ → KeepsWindow false (known_of own) (known_of own')
    → (v : UnitId) → PlacesGrow v now.places ps₂
regions_back lan now unit ps₁ ps₂ own own' same at away back keeps v =
    subst (λ (l : LanValue). PlacesGrow v l.places ps₂) same (back_all unit lan.places ps₁ ps₂ own own' at away back keeps.grows.strokes v)

-- the same where room was made before
pub regions_behind : (old mid : LanValue) (ps : List Place) → mid.places ≡ old.places → ((v : UnitId) → PlacesGrow v mid.places ps)
    → (v : UnitId) → PlacesGrow v old.places ps
regions_behind old mid ps same grow v = subst (λ (l : List Place). PlacesGrow v l ps) same (grow v)

-- ---- sends

-- a port that was offered a frame, whatever it answered
learnt : (o : Offering) (unit : UnitId)
    → ((page : ℕ) → Grows o.windows.is_shared ((before o unit).strokes page) ((after o unit).strokes page)) → PagesGrow (before o unit).strokes (after o unit).strokes
learnt o unit learns page = learns_grows o.windows.is_shared ((before o unit).strokes page) ((after o unit).strokes page) (learns page)

offer_grows : (o : Offering) (unit : UnitId) (old new : PortValue) (answer : Deliver) → o.windows.is_shared ≡ false → IsOfferedAt o unit old new answer
    → (answer ≡ sent.NoMemory → ⊥) → PagesGrow (before o unit).strokes (after o unit).strokes
offer_grows o unit old new (sent.Done post) plain h not = λ page.
    let d = h.done in
    let pieces : List Piece = d.row.to.items in
    laid_grows page pieces (piece_strokes o.name o.frame pieces) ((before o unit).strokes page) ((after o unit).strokes page)
    (subst (λ b. IsLaid b page pieces (piece_strokes o.name o.frame pieces) ((before o unit).strokes page) ((after o unit).strokes page)) plain (d.written.laid page))
offer_grows o unit old new (sent.Ungranted post fault) plain h not = learnt o unit h.window_is.kept.strokes
offer_grows o unit old new sent.NoSize plain h not = learnt o unit h.window_is.kept.strokes
offer_grows o unit old new sent.NoBuffer plain h not = learnt o unit h.window_is.kept.strokes
offer_grows o unit old new (sent.Turn word) plain h not = learnt o unit h.window_is.kept.strokes
offer_grows o unit old new (sent.InUse page word) plain h not = learnt o unit h.window_is.kept.strokes
offer_grows o unit old new (sent.Closed control) plain h not = learnt o unit h.window_is.kept.strokes
offer_grows o unit old new sent.NoMemory plain h not = absurd (not refl)

offered_grows : (o : Offering) (old new : List Station) (offers : List Offer) (v : UnitId) → o.windows.is_shared ≡ false
    → ((other : UnitId) → has_offer other offers ≡ false → o.windows.facts' other ≡ o.windows.facts other) → Brings o old new offers v
    → PagesGrow (o.windows.facts v).strokes (o.windows.facts' v).strokes
offered_grows o old new offers v plain beside (inl h) = offer_grows o v h.before h.after h.answer plain h.offered h.memory
offered_grows o old new offers v plain beside (inr h) =
    is_page (o.windows.facts v).strokes (o.windows.facts' v).strokes (λ page. ap (λ (f : WindowFacts). f.strokes page) (beside v h.none))

facts_grow : (ps₁ ps₂ : List Place) → facts_in ps₂ ≡ facts_in ps₁ → (v : UnitId) → PlacesGrow v ps₁ ps₂
facts_grow ps₁ ps₂ same v = is_page (facts_in ps₁ v).strokes (facts_in ps₂ v).strokes (λ page. ap (λ (f : UnitId → WindowFacts). (f v).strokes page) same)

-- a send that was answered lays strokes behind those of the units to which it was offered
sent_grows : (seats : List PortSeat) (unit : UnitId) (parts : List ℕ) (ps₁ ps₂ : List Place) (ss ss' : List Station) (frames : List (List FrameRow))
    (Found : ℕ → ℕ → Type 0) (window window' : PortState) (r : SendRecord) → Sends seats ss frames unit
    → IsSent ss ss' unit parts false Found window window' (windows_of false facts_in FoundIn ps₁ ps₂) r → (v : UnitId) → PlacesGrow v ps₁ ps₂
sent_grows seats unit parts ps₁ ps₂ ss ss' frames Found window window' r sends (inl (h, beside)) v = facts_grow ps₁ ps₂ beside v
sent_grows seats unit parts ps₁ ps₂ ss ss' frames Found window window' r sends (inr (inl (h, beside))) v = facts_grow ps₁ ps₂ beside v
sent_grows seats unit parts ps₁ ps₂ ss ss' frames Found window window' r sends (inr (inr h)) v =
    offered_grows o ss h.answered.mid r.offers.items v refl h.answered.out.beside
    (brings o h.answered.out.all ss h.answered.mid r.offers.items v h.answered.out.offered sends.ascending)
  where
    o : Offering
    o = offering (next_name ss unit) h.frame (windows_of false facts_in FoundIn ps₁ ps₂)

-- the windows of a send: the sender's was taken and put back, and the others were lent
lent_grows : (unit : UnitId) (ps ps₁ ps₂ ps₃ : List Place) (own own' : WindowValue) → IsLending unit ps ps₁ ps₂ ps₃ own own'
    → ((v : UnitId) → PlacesGrow v ps₁ ps₂) → (v : UnitId) → PlacesGrow v ps ps₃
lent_grows unit ps ps₁ ps₂ ps₃ own own' h between v =
    by_bool (same_unit v unit) (PlacesGrow v ps ps₃)
    (λ e. subst (λ (u : UnitId). PlacesGrow u ps ps₃) (sym (one_unit v unit e)) (there_grows unit ps ps₃ own own' h.at there h.keeps.grows.strokes))
    (λ e.
    then_places v ps ps₁ ps₃ (by_window v ps ps₁ (ap (λ l. window_in v l) h.away ∙ window_beside unit v None ps e))
    (then_places v ps₁ ps₂ ps₃ (between v) (by_window v ps₂ ps₃ (ap (λ l. window_in v l) h.back ∙ window_beside unit v (Some own') ps₂ e))))
  where
    there : window_in unit ps₃ ≡ Some own'
    there = ap (λ l. window_in unit l) h.back ∙ window_with unit (Some own') ps₂ h.place

pub regions_sent : (lan now : LanValue) (ss : List Station) (unit : UnitId) (parts : List ℕ) (ps₁ ps₂ ps₃ : List Place) (own own' : WindowValue)
    (Found : ℕ → ℕ → Type 0) (r : Result SendRecord NoMemory) → lan ≡ now → Sends lan.seats lan.stations lan.frames unit
    → IsLending unit lan.places ps₁ ps₂ ps₃ own own'
    → IfOk r (IsSent lan.stations ss unit parts false Found (known_of own) (known_of own') (windows_of false facts_in FoundIn ps₁ ps₂))
    → OnOk r ((v : UnitId) → PlacesGrow v now.places ps₃)
regions_sent lan now ss unit parts ps₁ ps₂ ps₃ own own' Found (Ok made) same sends lends sent = λ v.
    subst (λ (l : LanValue). PlacesGrow v l.places ps₃) same
    (lent_grows unit lan.places ps₁ ps₂ ps₃ own own' lends
    (sent_grows lan.seats unit parts ps₁ ps₂ lan.stations ss lan.frames Found (known_of own) (known_of own') made sends sent) v)
regions_sent lan now ss unit parts ps₁ ps₂ ps₃ own own' Found (Err memory) same sends lends sent = tt

-- ---- a step of a line

told_by : (found : Option PortSeat) (region : RegionSeen) (pages : ℕ) (unit : UnitId) (mark : ℕ) (verb : Verb) (outcome : Outcome)
    → IfSome found (λ seat. pages ≡ seat.pages) → IsTold region pages unit mark verb outcome → IfSome found (λ seat. IsTold region seat.pages unit mark verb outcome)
told_by (Some seat) region pages unit mark verb outcome same told = subst (λ n. IsTold region n unit mark verb outcome) same told
told_by None region pages unit mark verb outcome same told = tt

step_told : (unit : UnitId) (mark pages : ℕ) (verb : Verb) (step : Step) (new : LanValue) → IfSome (seat_at new.seats unit) (λ seat. pages ≡ seat.pages)
    → StepTold (region_seen (strokes_at new unit)) pages unit mark verb step → PortTold unit mark verb (port_step step) new
step_told unit mark pages verb (region.Ends outcome) new same told =
    told_by (seat_at new.seats unit) (region_seen (strokes_at new unit)) pages unit mark verb outcome same told
step_told unit mark pages verb (region.Waits did) new same told = tt

pub told_back : (lan now new : LanValue) (unit : UnitId) (mark : ℕ) (verb : Verb) (step : Step) (made : PortStep) (ps : List Place) (own own' : WindowValue) → lan ≡ now
    → IsLan lan → IsSome (seat_at now.seats unit) → window_in unit lan.places ≡ Some own → own.unit ≡ unit → ps ≡ with_window unit None lan.places
    → new.places ≡ with_window unit (Some own') ps → new.seats ≡ now.seats
    → StepTold (region_seen (known_of own').strokes) (known_of own).place.size (known_of own).place.unit mark verb step → made ≡ port_step step
    → PortTold unit mark verb made new
told_back lan now new unit mark verb step made ps own own' same is there at named away back seats told made_is =
    subst (λ (s : PortStep). PortTold unit mark verb s new) (sym made_is)
    (step_told unit mark (length own.pages) verb step new
    (subst (λ ss. IfSome (seat_at ss unit) (λ seat. length own.pages ≡ seat.pages)) (sym seats) (window_pages lan now unit own same is there at))
    (subst (λ (o : Option WindowValue). StepTold (region_seen (facts_of unit new.places o).strokes) (length own.pages) unit mark verb step)
    (sym (put_there unit lan.places ps new.places own own' at away back))
    (subst (λ (u : UnitId). StepTold (region_seen (known_of own').strokes) (length own.pages) u mark verb step) named told)))

-- one that is not in its unit's region
pub not_told : (region : RegionSeen) (pages : ℕ) (unit : UnitId) (mark : ℕ) (verb : Verb) (outcome : Outcome) → is_in_region verb ≡ false
    → IsTold region pages unit mark verb outcome
not_told region pages unit mark (verbs.Fill at len seed) outcome isnt = absurd (cc (isnt))
not_told region pages unit mark (verbs.Poke at bytes) outcome isnt = absurd (cc (isnt))
not_told region pages unit mark (verbs.Peek at len) outcome isnt = absurd (cc (isnt))
not_told region pages unit mark (verbs.Tce entry page readable writable) outcome isnt = absurd (cc (isnt))
not_told region pages unit mark verb outcome isnt = record { says = tt; shows = (tt, tt) }

pub told_apart : (unit : UnitId) (mark : ℕ) (verb : Verb) (step : PortStep) (new : LanValue) → is_in_region verb ≡ false → PortTold unit mark verb step new
told_apart unit mark verb (steps.Ends outcome) new isnt = by (seat_at new.seats unit)
  where
    by : (found : Option PortSeat) → IfSome found (λ seat. IsTold (region_seen (strokes_at new unit)) seat.pages unit mark verb outcome)
    by (Some seat) = not_told (region_seen (strokes_at new unit)) seat.pages unit mark verb outcome isnt
    by None = tt
told_apart unit mark verb (steps.Waits did done) new isnt = tt

pub told_ok : (unit : UnitId) (mark : ℕ) (verb : Verb) (r : Result PortStep NoMemory) (new : LanValue) → is_in_region verb ≡ false
    → IfOk r (λ step. PortTold unit mark verb step new)
told_ok unit mark verb (Ok step) new isnt = told_apart unit mark verb step new isnt
told_ok unit mark verb (Err memory) new isnt = tt
