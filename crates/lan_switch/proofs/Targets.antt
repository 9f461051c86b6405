-- What a frame was offered to the stations before a place, and how that goes on at the place.
use Rattle.std.proofs.Common.{◌≡◌, ℕ, zero, suc, ◌<◌, ◌≤◌, ◌+◌, ◌%◌, ◌==◌, ◌⊎◌, inl, inr, Bool, true, false, drop, set, take, Some, IsSome, option_map, length, length-append, slice_get, slice_index, arith, List, [], ◌∷◌, ◌++◌, refl, sym, ◌∙◌, ap, subst}
use Rattle.std.proofs.lemmas.Bool.{eqb-true}
use Rattle.vio_num.specs.declared.names.Mac.{Mac}
use Rattle.vio_num.specs.declared.names.UnitId.{UnitId}
use Rattle.page_slots.specs.declared.stroke.StrokeName.{StrokeName}
use Rattle.tce_window.specs.PortState.{WindowFacts}
use Rattle.lan_frame.specs.Station.{IsGroup}
use Rattle.lan_switch.specs.declared.answers.Offer.{Offer}
use Rattle.lan_switch.specs.declared.station.Station.{Station}
use Rattle.lan_switch.specs.Map.{KeepsOthers}
use Rattle.lan_switch.specs.Sending.{AreOffered, GoesOut, IsOfferedAt, IsTarget, OffersAt, StopsAt, Takes, has_offer, to_of, unit_at, unit_of_station}
use Rattle.lan_switch.specs.Switch.{IsPort, IsSwitch, place_of, same_unit, unit_of}
use Rattle.lan_switch.proofs.Lists.{changed_here, drop_later, drop_set, get_front, get_later, parts_here, take_here, take_set}
use Rattle.lan_switch.proofs.Offering.{among, any_next, apart, none_next, none_taken, offered_next, offered_since, passed_next, taken_alone}
use Rattle.lan_switch.proofs.Placing.{by_bool, length_set, own_place, place_head, place_tail, station_tail}

pub record SoFar (name : StrokeName) (frame : List ℕ) (is_shared : Bool) (facts facts' : UnitId → WindowFacts) (found : UnitId → WindowFacts → ℕ → ℕ → Type 0) (old new : List Station) (place : ℕ) (offers : List Offer) : Type 0 where
  pub offered : AreOffered (among name frame is_shared facts facts' found) true (take place old) (take place new) offers
  pub later : drop place new ≡ drop place old
  pub size : length new ≡ length old
  pub beside : (u : UnitId) → has_offer u offers ≡ false → facts' u ≡ facts u
  pub ahead : (k : ℕ) (s : Station) → place ≤ k → slice_get old k ≡ Some s → has_offer (unit_of s) offers ≡ false
  pub few : length offers ≤ place
  pub room : place_of name.who old < place → length offers + 1 ≤ place
  pub one : ¬ IsGroup (to_of frame) → offers ≡ []

-- the place is passed over
pub passed_step : (name : StrokeName) (frame : List ℕ) (is_shared : Bool) (facts facts' : UnitId → WindowFacts) (found : UnitId → WindowFacts → ℕ → ℕ → Type 0)
    (old new : List Station) (place : ℕ) (offers : List Offer) (s : Station) → SoFar name frame is_shared facts facts' found old new place offers
    → slice_get new place ≡ Some s → ¬ IsTarget name.who (to_of frame) s → SoFar name frame is_shared facts facts' found old new (place + 1) offers
passed_step name frame is_shared facts facts' found old new place offers s h shown other =
    let o = among name frame is_shared facts facts' found in
    let was : slice_get old place ≡ Some s = sym (get_later place new old h.later) ∙ shown in
    record {
      offered = subst (λ l. AreOffered o true l (take (place + 1) new) offers) (sym (take_here place old s was))
          (subst (λ l. AreOffered o true (take place old ++ s ∷ []) l offers) (sym (take_here place new s shown))
          (passed_next o (take place old) (take place new) s s offers h.offered (other, refl)));
      later = drop_later place new old h.later;
      size = h.size;
      beside = h.beside;
      ahead = λ k t less at. h.ahead k t (omega (arith, less)) at;
      few = omega (arith, h.few);
      room = λ less. omega (arith, h.few);
      one = h.one;
    }

-- the station there is one of a unit that was offered nothing yet, and no unit before it is its own
keeps_earlier : (facts facts' : UnitId → WindowFacts) (old : List Station) (place : ℕ) (s : Station) → IsSwitch old → slice_get old place ≡ Some s
    → KeepsOthers (unit_of s) facts facts' → (k : ℕ) (t : Station) → slice_get (take place old) k ≡ Some t → facts' (unit_of t) ≡ facts (unit_of t)
keeps_earlier facts facts' old place s switch at keeps k t shown =
    let front = get_front place k old t shown in
    keeps (unit_of t) (apart k place old t s switch.ascending front.1 at front.0).0

-- what the target there makes of the frame, told from the start
takes_there : (name : StrokeName) (frame : List ℕ) (is_shared : Bool) (facts facts₁ facts₂ : UnitId → WindowFacts) (found : UnitId → WindowFacts → ℕ → ℕ → Type 0)
    (mid new : List Station) (place : ℕ) (offer : Offer) → facts₁ (unit_of_station (slice_get mid place)) ≡ facts (unit_of_station (slice_get mid place))
    → (h : OffersAt (among name frame is_shared facts₁ facts₂ found) mid new place offer) → IsTarget name.who (to_of frame) h.station
    → Takes (among name frame is_shared facts facts₂ found) h.station h.station' offer.answer
takes_there name frame is_shared facts facts₁ facts₂ found mid new place offer same h target =
    let same' : facts₁ (unit_of h.station) ≡ facts (unit_of h.station) = subst (λ x. facts₁ (unit_of_station x) ≡ facts (unit_of_station x)) h.is same in
    record {
      target = target;
      offered = subst (λ (w : WindowFacts). IsOfferedAt (among name frame is_shared (λ _. w) facts₂ found) (unit_of h.station) h.station.port h.station'.port offer.answer)
          same' h.offered;
      memory = h.memory;
      frames = h.frames;
      unit = h.unit;
    }

own_offer : (offer : Offer) (unit : UnitId) → offer.unit ≡ unit → record { unit = unit; answer = offer.answer } ≡ offer
own_offer offer unit e = ap (λ (u : UnitId). record { unit = u; answer = offer.answer }) (sym e)

one_there : (mid : List Station) (place : ℕ) (s t : Station) → slice_get mid place ≡ Some s → slice_get mid place ≡ Some t → s ≡ t
one_there mid place s t e f = cc (e, f)

own_other : (x : Station) (unit : UnitId) → same_unit (unit_of x) unit ≡ true → same_unit (unit_of x) unit ≡ false → ⊥
own_other x unit e f = cc (e, f)

-- where a frame to a group is offered to the station there
pub taken_step : (name : StrokeName) (frame : List ℕ) (is_shared : Bool) (facts facts₁ facts₂ : UnitId → WindowFacts) (found : UnitId → WindowFacts → ℕ → ℕ → Type 0)
    (old mid new : List Station) (place : ℕ) (offers : List Offer) (offer : Offer) (s : Station) → IsSwitch old
    → SoFar name frame is_shared facts facts₁ found old mid place offers → slice_get mid place ≡ Some s → IsTarget name.who (to_of frame) s
    → OffersAt (among name frame is_shared facts₁ facts₂ found) mid new place offer → KeepsOthers (unit_at mid place) facts₁ facts₂ → IsGroup (to_of frame)
    → SoFar name frame is_shared facts facts₂ found old new (place + 1) (offers ++ offer ∷ [])
taken_step name frame is_shared facts facts₁ facts₂ found old mid new place offers offer s switch h shown target made keeps group =
    let o = among name frame is_shared facts facts₂ found in
    let t = made.station' in
    let same : made.station ≡ s = one_there mid place made.station s made.is shown in
    let unit_is : offer.unit ≡ unit_of s = made.unit_is ∙ ap unit_of same in
    let was : slice_get old place ≡ Some s = sym (get_later place mid old h.later) ∙ shown in
    let at : unit_at mid place ≡ unit_of s = ap unit_of_station shown in
    let keeps' : KeepsOthers (unit_of s) facts₁ facts₂ = subst (λ u. KeepsOthers u facts₁ facts₂) at keeps in
    let before : facts₁ (unit_of s) ≡ facts (unit_of s) = h.beside (unit_of s) (h.ahead place s (omega arith) was) in
    let takes : Takes o s t offer.answer =
    subst (λ x. Takes o x t offer.answer) same
    (takes_there name frame is_shared facts facts₁ facts₂ found mid new place offer (subst (λ u. facts₁ u ≡ facts u) (sym at) before) made
    (subst (λ x. IsTarget name.who (to_of frame) x) (sym same) target)) in
    let offer_is = own_offer offer (unit_of s) unit_is in
    let list_is : offers ++ record { unit = unit_of s; answer = offer.answer } ∷ [] ≡ offers ++ offer ∷ [] = ap (λ (x : Offer). offers ++ x ∷ []) offer_is in
    let split : (u : UnitId) → has_offer u (offers ++ offer ∷ []) ≡ false → (has_offer u offers ≡ false) × (same_unit u (unit_of s) ≡ false) =
    λ u none. any_next u (unit_of s) offer.answer offers (ap (λ l. has_offer u l) list_is ∙ none) in
    record {
      offered = subst (λ l. AreOffered o true (take (place + 1) old) (take (place + 1) new) l) list_is
          (subst (λ l. AreOffered o true l (take (place + 1) new) (offers ++ record { unit = unit_of s; answer = offer.answer } ∷ [])) (sym (take_here place old s was))
          (subst (λ l. AreOffered o true (take place old ++ s ∷ []) l (offers ++ record { unit = unit_of s; answer = offer.answer } ∷ []))
          (sym (take_set place mid s t shown) ∙ ap (λ l. take (place + 1) l) (sym made.rest))
          (offered_next o (take place old) (take place mid) s t offers offer.answer
          (offered_since name frame is_shared facts facts₁ facts₂ found (take place old) (take place mid) offers h.offered
          (keeps_earlier facts₁ facts₂ old place s switch was keeps')) takes)));
      later = ap (λ l. drop (place + 1) l) made.rest ∙ drop_set place mid t ∙ drop_later place mid old h.later;
      size = ap (λ l. length l) made.rest ∙ length_set mid place t ∙ h.size;
      beside = λ u none. keeps' u (split u none).1 ∙ h.beside u (split u none).0;
      ahead = λ k x less there.
          ap (λ l. has_offer (unit_of x) l) (sym list_is)
          ∙ none_next (unit_of x) (unit_of s) offer.answer offers (h.ahead k x (omega (arith, less)) there)
          (apart place k old s x switch.ascending was there (omega (arith, less))).1;
      few = omega (arith, h.few, length-append offers (offer ∷ []));
      room = λ less. omega (arith, h.room (before_it less), length-append offers (offer ∷ []));
      one = λ single. absurd (single group);
    }
  where
    not_own : place_of name.who old ≡ place → ⊥
    not_own e = own_other s name.who (own_place name.who old s (ap (λ k. slice_get old k) e ∙ (sym (get_later place mid old h.later) ∙ shown))) target.other

    before_it : place_of name.who old < place + 1 → place_of name.who old < place
    before_it less = grind (arith, less, not_own)

-- where it is for one station, it is offered to no other
pub taken_last : (name : StrokeName) (frame : List ℕ) (is_shared : Bool) (facts facts₁ facts₂ : UnitId → WindowFacts) (found : UnitId → WindowFacts → ℕ → ℕ → Type 0)
    (old mid new : List Station) (place : ℕ) (offers : List Offer) (offer : Offer) (s : Station) → IsSwitch old
    → SoFar name frame is_shared facts facts₁ found old mid place offers → slice_get mid place ≡ Some s → IsTarget name.who (to_of frame) s
    → OffersAt (among name frame is_shared facts₁ facts₂ found) mid new place offer → KeepsOthers (unit_at mid place) facts₁ facts₂ → ¬ IsGroup (to_of frame)
    → GoesOut (among name frame is_shared facts facts₂ found) old new (offers ++ offer ∷ [])
taken_last name frame is_shared facts facts₁ facts₂ found old mid new place offers offer s switch h shown target made keeps single =
    let o = among name frame is_shared facts facts₂ found in
    let t = made.station' in
    let same : made.station ≡ s = one_there mid place made.station s made.is shown in
    let unit_is : offer.unit ≡ unit_of s = made.unit_is ∙ ap unit_of same in
    let was : slice_get old place ≡ Some s = sym (get_later place mid old h.later) ∙ shown in
    let at : unit_at mid place ≡ unit_of s = ap unit_of_station shown in
    let keeps' : KeepsOthers (unit_of s) facts₁ facts₂ = subst (λ u. KeepsOthers u facts₁ facts₂) at keeps in
    let before : facts₁ (unit_of s) ≡ facts (unit_of s) = h.beside (unit_of s) (h.ahead place s (omega arith) was) in
    let takes : Takes o s t offer.answer =
    subst (λ x. Takes o x t offer.answer) same
    (takes_there name frame is_shared facts facts₁ facts₂ found mid new place offer (subst (λ u. facts₁ u ≡ facts u) (sym at) before) made
    (subst (λ x. IsTarget name.who (to_of frame) x) (sym same) target)) in
    let offer_is = own_offer offer (unit_of s) unit_is in
    let none : offers ≡ [] = h.one single in
    let list_is : record { unit = unit_of s; answer = offer.answer } ∷ [] ≡ offers ++ offer ∷ [] =
    ap (λ (x : Offer). x ∷ []) offer_is ∙ ap (λ l. l ++ offer ∷ []) (sym none) in
    let old_is : take place old ++ s ∷ drop (place + 1) old ≡ old = sym (parts_here place old s was) in
    let new_is : take place mid ++ t ∷ drop (place + 1) old ≡ new =
    ap (λ l. take place mid ++ t ∷ l) (sym (drop_later place mid old h.later)) ∙ sym (changed_here place mid s t shown) ∙ sym made.rest in
    record {
      all = false;
      group = (λ e. absurd (no e), λ group. absurd (single group));
      offered = subst (λ l. AreOffered o false old new l) list_is
          (subst (λ l. AreOffered o false l new (record { unit = unit_of s; answer = offer.answer } ∷ [])) old_is
          (subst (λ l. AreOffered o false (take place old ++ s ∷ drop (place + 1) old) l (record { unit = unit_of s; answer = offer.answer } ∷ [])) new_is
          (taken_alone o (take place old) (take place mid) (drop (place + 1) old) s t offer.answer
          (subst (λ l. AreOffered o true (take place old) (take place mid) l) none
          (offered_since name frame is_shared facts facts₁ facts₂ found (take place old) (take place mid) offers h.offered
          (keeps_earlier facts₁ facts₂ old place s switch was keeps'))) takes)));
      beside = λ u free.
          let split = any_next u (unit_of s) offer.answer offers (ap (λ (x : Offer). has_offer u (offers ++ x ∷ [])) offer_is ∙ free) in
          keeps' u split.1 ∙ h.beside u split.0;
    }
  where
    no : false ≡ true → ⊥
    no e = cc (e)

-- where memory runs out at the station there
pub stopped : (name : StrokeName) (frame : List ℕ) (is_shared : Bool) (facts facts₁ facts₂ : UnitId → WindowFacts) (found : UnitId → WindowFacts → ℕ → ℕ → Type 0)
    (old mid new : List Station) (place : ℕ) (offers : List Offer) (s : Station) → IsSwitch old → SoFar name frame is_shared facts facts₁ found old mid place offers
    → slice_get mid place ≡ Some s → IsTarget name.who (to_of frame) s → KeepsOthers (unit_at mid place) facts₁ facts₂ → new ≡ mid
    → StopsAt (among name frame is_shared facts facts₂ found) old new
stopped name frame is_shared facts facts₁ facts₂ found old mid new place offers s switch h shown target keeps stays =
    let was : slice_get old place ≡ Some s = sym (get_later place mid old h.later) ∙ shown in
    let keeps' : KeepsOthers (unit_of s) facts₁ facts₂ = subst (λ u. KeepsOthers u facts₁ facts₂) (ap unit_of_station shown) keeps in
    record {
      count = place;
      station = s;
      is = was;
      target = target;
      offers = offers;
      offered = subst (λ l. AreOffered (among name frame is_shared facts facts₂ found) true (take place old) (take place l) offers) (sym stays)
          (offered_since name frame is_shared facts facts₁ facts₂ found (take place old) (take place mid) offers h.offered
          (keeps_earlier facts₁ facts₂ old place s switch was keeps'));
      one = h.one;
      later = ap (λ l. drop place l) stays ∙ h.later;
      beside = λ u none other. keeps' u other ∙ h.beside u none;
    }

take_whole : {X : Type 0} (place : ℕ) (a : List X) → length a ≤ place → take place a ≡ a
take_whole zero [] less = refl
take_whole zero (x ∷ a) less = absurd (omega (arith, less))
take_whole (suc place) [] less = refl
take_whole (suc place) (x ∷ a) less = ap (λ l. x ∷ l) (take_whole place a (omega (arith, less)))

group_case : (to : Mac) (P : Type 0) → (IsGroup to → P) → (¬ IsGroup to → P) → P
group_case to P f g = by_bool (slice_index to.bytes 0 % 2 == 1) P
    (λ e. f (eqb-true (slice_index to.bytes 0 % 2) 1 e)) (λ e. g (λ is. no (sym (ap (λ n. n == 1) is) ∙ e)))
  where
    no : true ≡ false → ⊥
    no e = cc (e)

port_within : (unit : UnitId) (ss : List Station) → IsPort ss unit → place_of unit ss < length ss
port_within unit [] is = absurd (no is)
  where
    no : false ≡ true → ⊥
    no e = cc (e)
port_within unit (t ∷ ss) is = by_bool (same_unit (unit_of t) unit) (place_of unit (t ∷ ss) < length (t ∷ ss))
    (λ e. omega (arith, place_head unit t ss e))
    (λ e. omega (arith, place_tail unit t ss e, port_within unit ss (subst (λ o. IsSome (option_map (λ (x : Station). x.port) o)) (station_tail unit t ss e) is)))

-- there is room for one offer more
pub offers_room : (name : StrokeName) (frame : List ℕ) (is_shared : Bool) (facts facts' : UnitId → WindowFacts) (found : UnitId → WindowFacts → ℕ → ℕ → Type 0)
    (old mid : List Station) (place : ℕ) (offers : List Offer) (s : Station) → IsSwitch old → IsPort old name.who
    → SoFar name frame is_shared facts facts' found old mid place offers → place < length mid → slice_get mid place ≡ Some s
    → IsTarget name.who (to_of frame) s → length offers < 15
offers_room name frame is_shared facts facts' found old mid place offers s switch port h less shown target =
    grind (arith, switch.few, port_within name.who old port, h.few, h.room, h.size, less, not_own)
  where
    not_own : place_of name.who old ≡ place → ⊥
    not_own e = own_other s name.who (own_place name.who old s (ap (λ k. slice_get old k) e ∙ (sym (get_later place mid old h.later) ∙ shown))) target.other

-- nothing is offered yet
pub none_yet : (name : StrokeName) (frame : List ℕ) (is_shared : Bool) (facts : UnitId → WindowFacts) (found : UnitId → WindowFacts → ℕ → ℕ → Type 0)
    (old : List Station) → SoFar name frame is_shared facts facts found old old 0 []
none_yet name frame is_shared facts found old = record {
  offered = refl;
  later = refl;
  size = refl;
  beside = λ u none. refl;
  ahead = λ k s less at. refl;
  few = omega arith;
  room = λ less. absurd (omega (arith, less));
  one = λ single. refl;
}

-- where no station is left
pub ended : (name : StrokeName) (frame : List ℕ) (is_shared : Bool) (facts facts' : UnitId → WindowFacts) (found : UnitId → WindowFacts → ℕ → ℕ → Type 0)
    (old new : List Station) (place : ℕ) (offers : List Offer) → SoFar name frame is_shared facts facts' found old new place offers → length new ≤ place
    → GoesOut (among name frame is_shared facts facts' found) old new offers
ended name frame is_shared facts facts' found old new place offers h less =
    let o = among name frame is_shared facts facts' found in
    let all : AreOffered o true old new offers =
    subst (λ l. AreOffered o true l new offers) (take_whole place old (omega (arith, less, h.size)))
    (subst (λ l. AreOffered o true (take place old) l offers) (take_whole place new less) h.offered) in
    group_case (to_of frame) (GoesOut o old new offers)
    (λ group. record { all = true; group = (λ e. group, λ e. refl); offered = all; beside = h.beside })
    (λ single. record {
      all = false;
      group = (λ e. absurd (no e), λ group. absurd (single group));
      offered = subst (λ l. AreOffered o false old new l) (sym (h.one single))
          (none_taken o old new (subst (λ l. AreOffered o true old new l) (h.one single) all));
      beside = h.beside;
    })
  where
    no : false ≡ true → ⊥
    no e = cc (e)
