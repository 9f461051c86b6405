-- The offers of a frame, station by station.
use Rattle.std.proofs.Common.{◌≡◌, ℕ, ◌<◌, ◌≤◌, ◌⊎◌, inl, inr, zero, suc, ◌+◌, ◌||◌, drop, set, take, All, Some, None, map, length, length-append, slice_get, arith, Bool, true, false, List, [], ◌∷◌, ◌++◌, refl, sym, ◌∙◌, ap, subst}
use Rattle.std.specs.List.{list_any}
use Rattle.std.proofs.lemmas.List.Elements.{All-head, All-tail}
use Rattle.vio_num.specs.declared.names.UnitId.{UnitId}
use Rattle.page_slots.specs.declared.stroke.StrokeName.{StrokeName}
use Rattle.tce_window.specs.PortState.{WindowFacts, port_at}
use Rattle.lan_frame.specs.Station.{IsGroup}
use Rattle.lan_buffers.specs.declared.answers.Deliver.{Deliver}
use Rattle.lan_switch.specs.declared.answers.Offer.{Offer}
use Rattle.lan_switch.specs.declared.station.Station.{Station}
use Rattle.lan_switch.specs.Map.{KeepsOthers}
use Rattle.lan_switch.specs.Sending.{AreOffered, GoesOut, IsOffered, IsPassed, IsTarget, LanWindows, Offering, OffersAt, StopsAt, Takes, has_offer, offering, to_of, unit_at, unit_of_station, windows_of}
use Rattle.lan_switch.specs.Switch.{AreAscending, IsSwitch, order_of, place_of, same_unit, unit_of}
use Rattle.lan_switch.proofs.Lending.{one_unit}
use Rattle.lan_switch.proofs.Lists.{changed_here, drop_later, drop_set, get_front, get_later, parts_here, take_here, take_set}
use Rattle.lan_switch.proofs.Placing.{by_bool, length_set, none_some, same_some}

abbrev offer_of : Station → Deliver → Offer
offer_of station answer = record { unit = unit_of station; answer = answer }

-- an offering through windows of which this is known before and after
abbrev pub among : StrokeName → List ℕ → Bool → (facts facts' : UnitId → WindowFacts) → (found : UnitId → WindowFacts → ℕ → ℕ → Type 0) → Offering
among name frame is_shared facts facts' found =
    offering name frame (record { is_shared = is_shared; facts = facts; facts' = facts'; found = found })

-- one station more took the frame
pub offered_next : (o : Offering) (olds news : List Station) (old new : Station) (offers : List Offer) (answer : Deliver)
    → AreOffered o true olds news offers → Takes o old new answer
    → AreOffered o true (olds ++ old ∷ []) (news ++ new ∷ []) (offers ++ offer_of old answer ∷ [])
offered_next o [] [] old new offers answer none takes =
    inl (answer, [], ap (λ l. l ++ offer_of old answer ∷ []) none, takes, refl)
offered_next o [] (n ∷ news) old new offers answer h takes = absurd h
offered_next o (x ∷ olds) [] old new offers answer h takes = absurd h
offered_next o (x ∷ olds) (n ∷ news) old new offers answer (inl (first, later, is, here, next)) takes =
    inl (
      first,
      later ++ offer_of old answer ∷ [],
      ap (λ l. l ++ offer_of old answer ∷ []) is,
      here,
      offered_next o olds news old new later answer next takes,
    )
offered_next o (x ∷ olds) (n ∷ news) old new offers answer (inr (passed, next)) takes =
    inr (passed, offered_next o olds news old new offers answer next takes)

-- one station more was passed over
pub passed_next : (o : Offering) (olds news : List Station) (old new : Station) (offers : List Offer)
    → AreOffered o true olds news offers → IsPassed o old new
    → AreOffered o true (olds ++ old ∷ []) (news ++ new ∷ []) offers
passed_next o [] [] old new offers none passed = inr (passed, none)
passed_next o [] (n ∷ news) old new offers h passed = absurd h
passed_next o (x ∷ olds) [] old new offers h passed = absurd h
passed_next o (x ∷ olds) (n ∷ news) old new offers (inl (first, later, is, here, next)) passed =
    inl (first, later, is, here, passed_next o olds news old new later next passed)
passed_next o (x ∷ olds) (n ∷ news) old new offers (inr (over, next)) passed =
    inr (over, passed_next o olds news old new offers next passed)

-- a frame to one station: where none took it yet, this one does, and the others stay
pub taken_alone : (o : Offering) (olds news later : List Station) (old new : Station) (answer : Deliver)
    → AreOffered o true olds news [] → Takes o old new answer
    → AreOffered o false (olds ++ old ∷ later) (news ++ new ∷ later) (offer_of old answer ∷ [])
taken_alone o [] [] later old new answer none takes = inl (answer, [], refl, takes, (refl, refl))
taken_alone o [] (n ∷ news) later old new answer h takes = absurd h
taken_alone o (x ∷ olds) [] later old new answer h takes = absurd h
taken_alone o (x ∷ olds) (n ∷ news) later old new answer (inl (first, more, is, here, next)) takes = absurd (cc (is))
taken_alone o (x ∷ olds) (n ∷ news) later old new answer (inr (over, next)) takes =
    inr (over, taken_alone o olds news later old new answer next takes)

-- and where no station takes it all stay
pub none_taken : (o : Offering) (olds news : List Station) → AreOffered o true olds news [] → AreOffered o false olds news []
none_taken o [] [] none = none
none_taken o [] (n ∷ news) h = absurd h
none_taken o (x ∷ olds) [] h = absurd h
none_taken o (x ∷ olds) (n ∷ news) (inl (first, more, is, here, next)) = absurd (cc (is))
none_taken o (x ∷ olds) (n ∷ news) (inr (over, next)) = inr (over, none_taken o olds news next)

-- the offers, where more is known of other windows since
pub offered_since : (name : StrokeName) (frame : List ℕ) (is_shared : Bool) (facts facts₁ facts₂ : UnitId → WindowFacts)
    (found : UnitId → WindowFacts → ℕ → ℕ → Type 0) (olds news : List Station) (offers : List Offer)
    → AreOffered (among name frame is_shared facts facts₁ found) true olds news offers
    → ((k : ℕ) (s : Station) → slice_get olds k ≡ Some s → facts₂ (unit_of s) ≡ facts₁ (unit_of s))
    → AreOffered (among name frame is_shared facts facts₂ found) true olds news offers
offered_since name frame is_shared facts facts₁ facts₂ found [] [] offers none same = none
offered_since name frame is_shared facts facts₁ facts₂ found [] (n ∷ news) offers h same = absurd h
offered_since name frame is_shared facts facts₁ facts₂ found (x ∷ olds) [] offers h same = absurd h
offered_since name frame is_shared facts facts₁ facts₂ found (x ∷ olds) (n ∷ news) offers (inl (first, later, is, here, next)) same =
    inl (
      first,
      later,
      is,
      record {
        target = here.target;
        offered = subst (λ (w : WindowFacts). IsOffered name frame is_shared (port_at (facts (unit_of x))) (port_at w) (found (unit_of x) w) x.port n.port first)
            (sym (same 0 x refl)) here.offered;
        memory = here.memory;
        frames = here.frames;
        unit = here.unit;
      },
      offered_since name frame is_shared facts facts₁ facts₂ found olds news later next (λ k s shown. same (suc k) s shown),
    )
offered_since name frame is_shared facts facts₁ facts₂ found (x ∷ olds) (n ∷ news) offers (inr (passed, next)) same =
    inr (passed, offered_since name frame is_shared facts facts₁ facts₂ found olds news offers next (λ k s shown. same (suc k) s shown))

-- stations at two places are of two units
order_apart : (p k : ℕ) (ss : List Station) (s t : Station) → AreAscending (map unit_of ss) → slice_get ss p ≡ Some s → slice_get ss k ≡ Some t → p < k
    → order_of (unit_of s) < order_of (unit_of t)
order_apart p k [] s t up at_p at_k less = absurd (none_some s at_p)
order_apart zero zero (x ∷ ss) s t up at_p at_k less = absurd (omega (arith, less))
order_apart zero (suc k) (x ∷ ss) s t up at_p at_k less =
    subst (λ (y : Station). order_of (unit_of y) < order_of (unit_of t)) (same_some x s at_p)
    (behind ss k t (order_of (unit_of x)) up.0 at_k)
  where
    behind : (ss : List Station) (k : ℕ) (t : Station) (n : ℕ) → All (λ (u : UnitId). n < order_of u) (map unit_of ss) → slice_get ss k ≡ Some t → n < order_of (unit_of t)
    behind [] k t n all shown = absurd (none_some t shown)
    behind (y ∷ ss) zero t n all shown = subst (λ (z : Station). n < order_of (unit_of z)) (same_some y t shown) (All-head (λ (u : UnitId). n < order_of u) (unit_of y) (map unit_of ss) all)
    behind (y ∷ ss) (suc k) t n all shown = behind ss k t n (All-tail (λ (u : UnitId). n < order_of u) (unit_of y) (map unit_of ss) all) shown
order_apart (suc p) zero (x ∷ ss) s t up at_p at_k less = absurd (omega (arith, less))
order_apart (suc p) (suc k) (x ∷ ss) s t up at_p at_k less = order_apart p k ss s t up.1 at_p at_k (omega (arith, less))

pub apart : (p k : ℕ) (ss : List Station) (s t : Station) → AreAscending (map unit_of ss) → slice_get ss p ≡ Some s → slice_get ss k ≡ Some t → p < k
    → (same_unit (unit_of s) (unit_of t) ≡ false) × (same_unit (unit_of t) (unit_of s) ≡ false)
apart p k ss s t up at_p at_k less =
    let before = order_apart p k ss s t up at_p at_k less in (
      by_bool (same_unit (unit_of s) (unit_of t)) (same_unit (unit_of s) (unit_of t) ≡ false)
          (λ e. absurd (omega (arith, before, ap order_of (one_unit (unit_of s) (unit_of t) e)))) (λ e. e),
      by_bool (same_unit (unit_of t) (unit_of s)) (same_unit (unit_of t) (unit_of s) ≡ false)
          (λ e. absurd (omega (arith, before, ap order_of (one_unit (unit_of t) (unit_of s) e)))) (λ e. e),
    )

-- where one more is offered the frame
pub any_next : (u v : UnitId) (answer : Deliver) (offers : List Offer) → has_offer u (offers ++ record { unit = v; answer = answer } ∷ []) ≡ false
    → (has_offer u offers ≡ false) × (same_unit u v ≡ false)
any_next u v answer [] e = (refl, by_bool (same_unit u v) (same_unit u v ≡ false) (λ is. cc (e, is)) (λ is. is))
any_next u v answer (x ∷ offers) e = by_bool (same_unit u x.unit) ((has_offer u (x ∷ offers) ≡ false) × (same_unit u v ≡ false))
    (λ is. absurd (true_false (sym (hit is) ∙ e)))
    (λ is. let h = any_next u v answer offers (sym (miss is) ∙ e) in (over is ∙ h.0, h.1))
  where
    true_false : true ≡ false → ⊥
    true_false e = cc (e)

    hit : same_unit u x.unit ≡ true → has_offer u (x ∷ (offers ++ record { unit = v; answer = answer } ∷ [])) ≡ true
    hit is = rw is refl

    miss : same_unit u x.unit ≡ false → has_offer u (x ∷ (offers ++ record { unit = v; answer = answer } ∷ [])) ≡ has_offer u (offers ++ record { unit = v; answer = answer } ∷ [])
    miss is = rw is refl

    over : same_unit u x.unit ≡ false → has_offer u (x ∷ offers) ≡ has_offer u offers
    over is = rw is refl

pub none_next : (u v : UnitId) (answer : Deliver) (offers : List Offer) → has_offer u offers ≡ false → same_unit u v ≡ false
    → has_offer u (offers ++ record { unit = v; answer = answer } ∷ []) ≡ false
none_next u v answer [] none other = rw other refl
none_next u v answer (x ∷ offers) none other = by_bool (same_unit u x.unit) (has_offer u (x ∷ (offers ++ record { unit = v; answer = answer } ∷ [])) ≡ false)
    (λ is. absurd (true_false (sym (hit is) ∙ none)))
    (λ is. miss is ∙ none_next u v answer offers (sym (over is) ∙ none) other)
  where
    true_false : true ≡ false → ⊥
    true_false e = cc (e)

    hit : same_unit u x.unit ≡ true → has_offer u (x ∷ offers) ≡ true
    hit is = rw is refl

    miss : same_unit u x.unit ≡ false → has_offer u (x ∷ (offers ++ record { unit = v; answer = answer } ∷ [])) ≡ has_offer u (offers ++ record { unit = v; answer = answer } ∷ [])
    miss is = rw is refl

    over : same_unit u x.unit ≡ false → has_offer u (x ∷ offers) ≡ has_offer u offers
    over is = rw is refl
