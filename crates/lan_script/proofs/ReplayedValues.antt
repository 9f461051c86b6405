-- What lines and calls leave of the values of the units' windows.
use Rattle.std.proofs.Common.{◌≡◌, inl, inr, ℕ, false, List, Option, Some, None, Result, Ok, Err, IfOk, OnOk, refl, sym, ◌∙◌, ap, subst}
use Rattle.vio_num.specs.declared.names.UnitId.{UnitId}
use Rattle.vio_num.specs.declared.memory.NoMemory.{NoMemory}
use Rattle.tce_window.specs.PlainPort.{known_of}
use Rattle.tce_window.specs.Port.{Later}
use Rattle.tce_window.specs.PortState.{PortState, WindowFacts}
use Rattle.tce_window.specs.Window.{WindowValue}
use Rattle.lan_switch.specs.declared.answers.Offer.{Offer}
use Rattle.lan_switch.specs.declared.answers.SendRecord.{SendRecord}
use Rattle.lan_switch.specs.declared.station.Station.{Station}
use Rattle.lan_switch.specs.Sending.{IsSent, Offering, has_offer, next_name, offering, windows_of}
use Rattle.lan_switch.specs.Switch.{same_unit}
use Rattle.vio_trace.specs.declared.lan_rows.FrameRow.{FrameRow}
use Rattle.lan_script.specs.Units.{LanValue}
use Rattle.lan_script.specs.Values.{KeepsValues, SameValues, SameValuesBeside}
use Rattle.lan_script.specs.Windows.{FoundIn, facts_in, facts_of, window_in, with_window}
use Rattle.lan_script.specs.declared.seat.PortSeat.{PortSeat}
use Rattle.lan_script.specs.declared.windows.Place.{Place}
use Rattle.lan_script.proofs.Balancing.{Sends}
use Rattle.lan_script.proofs.Bringing.{Brings, brings}
use Rattle.lan_script.proofs.CarriedSent.{IsLending}
use Rattle.lan_script.proofs.Placing.{by_bool, has_place, one_unit, window_beside, window_with, with_twice}

-- what is known of the values of a window is known of it alone
values_of : (unit : UnitId) (ps qs : List Place) (o : Option WindowValue) (e : ℕ) → (facts_of unit ps o).values e ≡ (facts_of unit qs o).values e
values_of unit ps qs (Some window) e = refl
values_of unit ps qs None e = refl

values_by : (unit : UnitId) (ps qs : List Place) → window_in unit ps ≡ window_in unit qs → KeepsValues unit qs ps
values_by unit ps qs same e = ap (λ o. (facts_of unit ps o).values e) same ∙ values_of unit ps qs (window_in unit qs) e

-- places that did not change
pub same_values : (old new : LanValue) → new.places ≡ old.places → SameValues old new
same_values old new same v e = ap (λ ps. (facts_in ps v).values e) same

pub same_beside : (unit : UnitId) (old new : LanValue) → new.places ≡ old.places → SameValuesBeside unit old new
same_beside unit old new same v not e = ap (λ ps. (facts_in ps v).values e) same

pub values_beside_all : (unit : UnitId) (old new : LanValue) → SameValues old new → SameValuesBeside unit old new
values_beside_all unit old new same v not e = same v e

pub then_values : {X : Type 0} (old mid new : LanValue) (r : Result X NoMemory) → SameValues old mid → OnOk r (SameValues mid new) → OnOk r (SameValues old new)
then_values old mid new (Ok x) first later = λ v e. later v e ∙ first v e
then_values old mid new (Err memory) first later = tt

pub kept_values : {X : Type 0} (old mid new : LanValue) (r : Result X NoMemory) → SameValues old mid → new.places ≡ mid.places → OnOk r (SameValues old new)
kept_values old mid new (Ok x) first same = λ v. subst (λ (ps : List Place). KeepsValues v old.places ps) (sym same) (first v)
kept_values old mid new (Err memory) first same = tt

-- one window for another with its values
values_there : (unit : UnitId) (ps qs : List Place) (own own' : WindowValue) → window_in unit ps ≡ Some own → window_in unit qs ≡ Some own'
    → ((e : ℕ) → (known_of own').values e ≡ (known_of own).values e) → KeepsValues unit ps qs
values_there unit ps qs own own' was is same e =
    ap (λ o. (facts_of unit qs o).values e) is ∙ same e ∙ sym (ap (λ o. (facts_of unit ps o).values e) was)

-- the other units' windows, where this one was taken and put back
values_beside : (unit : UnitId) (ps ps₁ ps₂ : List Place) (own' : WindowValue) → ps₁ ≡ with_window unit None ps → ps₂ ≡ with_window unit (Some own') ps₁
    → (other : UnitId) → same_unit other unit ≡ false → KeepsValues other ps ps₂
values_beside unit ps ps₁ ps₂ own' away back other not =
    values_by other ps₂ ps
    (ap (λ l. window_in other l) back ∙ window_beside unit other (Some own') ps₁ not ∙ ap (λ l. window_in other l) away
    ∙ window_beside unit other None ps not)

pub put_beside : (lan now : LanValue) (unit : UnitId) (ps₁ ps₂ : List Place) (own' : WindowValue) → lan ≡ now → ps₁ ≡ with_window unit None lan.places
    → ps₂ ≡ with_window unit (Some own') ps₁ → (other : UnitId) → same_unit other unit ≡ false → KeepsValues other now.places ps₂
put_beside lan now unit ps₁ ps₂ own' same away back other not =
    subst (λ (l : LanValue). KeepsValues other l.places ps₂) same (values_beside unit lan.places ps₁ ps₂ own' away back other not)

-- all windows, where this one was put back with its values
pub put_back : (lan now : LanValue) (unit : UnitId) (ps₁ ps₂ : List Place) (own own' : WindowValue) → lan ≡ now → window_in unit lan.places ≡ Some own
    → ps₁ ≡ with_window unit None lan.places → ps₂ ≡ with_window unit (Some own') ps₁ → ((e : ℕ) → (known_of own').values e ≡ (known_of own).values e)
    → (other : UnitId) → KeepsValues other now.places ps₂
put_back lan now unit ps₁ ps₂ own own' same at away back kept other =
    by_bool (same_unit other unit) (KeepsValues other now.places ps₂)
    (λ e. subst (λ (u : UnitId). KeepsValues u now.places ps₂) (sym (one_unit other unit e)) here)
    (λ e. put_beside lan now unit ps₁ ps₂ own' same away back other e)
  where
    there : window_in unit ps₂ ≡ Some own'
    there = ap (λ l. window_in unit l) (back ∙ ap (λ l. with_window unit (Some own') l) away ∙ with_twice unit None (Some own') lan.places)
        ∙ window_with unit (Some own') lan.places (has_place unit own lan.places at)

    here : KeepsValues unit now.places ps₂
    here = subst (λ (l : LanValue). KeepsValues unit l.places ps₂) same (values_there unit lan.places ps₂ own own' at there kept)

-- an offer of a frame leaves the values of its unit
offered_values : (o : Offering) (old new : List Station) (offers : List Offer) (v : UnitId) → o.windows.is_shared ≡ false
    → ((other : UnitId) → has_offer other offers ≡ false → o.windows.facts' other ≡ o.windows.facts other) → Brings o old new offers v
    → (e : ℕ) → (o.windows.facts' v).values e ≡ (o.windows.facts v).values e
offered_values o old new offers v plain beside (inl h) e =
    subst (λ b. Later b ((o.windows.facts v).values e) ((o.windows.facts' v).values e)) plain (h.offered.window_is.rest.values e)
offered_values o old new offers v plain beside (inr h) e = ap (λ (f : WindowFacts). f.values e) (beside v h.none)

-- a send that was answered leaves those of all units to which it was offered
sent_values : (seats : List PortSeat) (unit : UnitId) (parts : List ℕ) (ps₁ ps₂ : List Place) (ss ss' : List Station) (frames : List (List FrameRow))
    (Found : ℕ → ℕ → Type 0) (window window' : PortState) (r : SendRecord) → Sends seats ss frames unit
    → IsSent ss ss' unit parts false Found window window' (windows_of false facts_in FoundIn ps₁ ps₂) r → (v : UnitId) → KeepsValues v ps₁ ps₂
sent_values seats unit parts ps₁ ps₂ ss ss' frames Found window window' r sends (inl (h, beside)) v e = ap (λ f. (f v).values e) beside
sent_values seats unit parts ps₁ ps₂ ss ss' frames Found window window' r sends (inr (inl (h, beside))) v e = ap (λ f. (f v).values e) beside
sent_values seats unit parts ps₁ ps₂ ss ss' frames Found window window' r sends (inr (inr h)) v e =
    offered_values o ss h.answered.mid r.offers.items v refl h.answered.out.beside
    (brings o h.answered.out.all ss h.answered.mid r.offers.items v h.answered.out.offered sends.ascending) e
  where
    o : Offering
    o = offering (next_name ss unit) h.frame (windows_of false facts_in FoundIn ps₁ ps₂)

-- the windows of a send: the sender's was taken and put back, and the others were lent
lent_values : (unit : UnitId) (ps ps₁ ps₂ ps₃ : List Place) (own own' : WindowValue) → IsLending unit ps ps₁ ps₂ ps₃ own own'
    → ((e : ℕ) → (known_of own').values e ≡ (known_of own).values e) → ((v : UnitId) → KeepsValues v ps₁ ps₂) → (v : UnitId) → KeepsValues v ps ps₃
lent_values unit ps ps₁ ps₂ ps₃ own own' h kept between v =
    by_bool (same_unit v unit) (KeepsValues v ps ps₃)
    (λ e. subst (λ (u : UnitId). KeepsValues u ps ps₃) (sym (one_unit v unit e)) (values_there unit ps ps₃ own own' h.at there kept))
    (λ e k. values_by v ps₃ ps₂ (ap (λ l. window_in v l) h.back ∙ window_beside unit v (Some own') ps₂ e) k ∙ between v k
    ∙ values_by v ps₁ ps (ap (λ l. window_in v l) h.away ∙ window_beside unit v None ps e) k)
  where
    there : window_in unit ps₃ ≡ Some own'
    there = ap (λ l. window_in unit l) h.back ∙ window_with unit (Some own') ps₂ h.place

-- What a send that was answered leaves of the values of all windows.
pub sends_values : (lan now : LanValue) (ss : List Station) (unit : UnitId) (parts : List ℕ) (ps₁ ps₂ ps₃ : List Place) (own own' : WindowValue)
    (Found : ℕ → ℕ → Type 0) (r : Result SendRecord NoMemory) → lan ≡ now → Sends lan.seats lan.stations lan.frames unit
    → IsLending unit lan.places ps₁ ps₂ ps₃ own own' → ((e : ℕ) → (known_of own').values e ≡ (known_of own).values e)
    → IfOk r (IsSent lan.stations ss unit parts false Found (known_of own) (known_of own') (windows_of false facts_in FoundIn ps₁ ps₂))
    → OnOk r ((v : UnitId) → KeepsValues v now.places ps₃)
sends_values lan now ss unit parts ps₁ ps₂ ps₃ own own' Found (Ok made) same sends lends kept sent = λ v.
    subst (λ (l : LanValue). KeepsValues v l.places ps₃) same
    (lent_values unit lan.places ps₁ ps₂ ps₃ own own' lends kept
    (sent_values lan.seats unit parts ps₁ ps₂ lan.stations ss lan.frames Found (known_of own) (known_of own') made sends sent) v)
sends_values lan now ss unit parts ps₁ ps₂ ps₃ own own' Found (Err memory) same sends lends kept sent = tt
