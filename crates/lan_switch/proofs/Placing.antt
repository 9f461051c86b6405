-- A unit's station among those of a switch, and a change of its port.
use Rattle.std.proofs.Common.{◌≡◌, ℕ, ◌+◌, ◌<◌, ◌≤◌, zero, suc, arith, get_or, Bool, true, false, List, [], ◌∷◌, Option, Some, None, IfSome, IsSome, is_some, All, length, map, option_map, set, slice_get, if◌then◌else◌, refl, sym, ◌∙◌, ap, subst}
use Rattle.vio_num.specs.declared.names.UnitId.{UnitId}
use Rattle.lan_buffers.specs.Port.{PortValue}
use Rattle.lan_buffers.specs.declared.answers.Harvest.{Harvest}
use Rattle.lan_buffers.specs.declared.answers.Harvest.TheVariants.{Frame, Blank, Nothing}
use Rattle.lan_switch.specs.Calls.{Harvests}
use Rattle.lan_switch.specs.declared.answers.LanAnswer.{LanAnswer}
use Rattle.lan_switch.specs.declared.station.Station.{Station}
use Rattle.lan_switch.specs.declared.switch.PortPlan.{PortPlan}
use Rattle.lan_switch.specs.Sending.{frames_of, with_frames}
use Rattle.lan_switch.specs.Switch.{AreAscending, AtPort, IsPort, IsRefused, IsSwitch, MadeAt, opened, place_of, port_of, same_unit, station_of, unit_of, with_port}

pub by_bool : (b : Bool) (P : Type 0) → (b ≡ true → P) → (b ≡ false → P) → P
by_bool true P f g = f refl
by_bool false P f g = g refl

pub same_some : {X : Type 0} (x y : X) → Some x ≡ Some y → x ≡ y
same_some x y e = cc (e)

pub none_some : {X : Type 0} (x : X) → None ≡ Some x → ⊥
none_some x e = cc (e)

pub place_head : (unit : UnitId) (s : Station) (ss : List Station) → same_unit (unit_of s) unit ≡ true → place_of unit (s ∷ ss) ≡ 0
place_head unit s ss e = rw e refl

pub place_tail : (unit : UnitId) (s : Station) (ss : List Station) → same_unit (unit_of s) unit ≡ false → place_of unit (s ∷ ss) ≡ suc (place_of unit ss)
place_tail unit s ss e = rw e refl

station_head : (unit : UnitId) (s : Station) (ss : List Station) → same_unit (unit_of s) unit ≡ true → station_of (s ∷ ss) unit ≡ Some s
station_head unit s ss e = rw e refl

pub station_tail : (unit : UnitId) (s : Station) (ss : List Station) → same_unit (unit_of s) unit ≡ false → station_of (s ∷ ss) unit ≡ station_of ss unit
station_tail unit s ss e = rw e refl

with_head : (unit : UnitId) (q : PortValue) (s : Station) (ss : List Station) → same_unit (unit_of s) unit ≡ true
    → with_port unit q (s ∷ ss) ≡ record s { port = q } ∷ ss
with_head unit q s ss e = rw e refl

with_tail : (unit : UnitId) (q : PortValue) (s : Station) (ss : List Station) → same_unit (unit_of s) unit ≡ false
    → with_port unit q (s ∷ ss) ≡ s ∷ with_port unit q ss
with_tail unit q s ss e = rw e refl

-- what stands at the unit's place is its station
pub found : (unit : UnitId) (ss : List Station) (s : Station) → slice_get ss (place_of unit ss) ≡ Some s → station_of ss unit ≡ Some s
found unit [] s shown = absurd (none_some s shown)
found unit (t ∷ ss) s shown = by_bool (same_unit (unit_of t) unit) (station_of (t ∷ ss) unit ≡ Some s)
    (λ e. station_head unit t ss e ∙ (ap (λ k. slice_get (t ∷ ss) k) (sym (place_head unit t ss e)) ∙ shown))
    (λ e. station_tail unit t ss e ∙ found unit ss s (ap (λ k. slice_get (t ∷ ss) k) (sym (place_tail unit t ss e)) ∙ shown))

pub own_place : (unit : UnitId) (ss : List Station) (s : Station) → slice_get ss (place_of unit ss) ≡ Some s → same_unit (unit_of s) unit ≡ true
own_place unit [] s shown = absurd (none_some s shown)
own_place unit (t ∷ ss) s shown = by_bool (same_unit (unit_of t) unit) (same_unit (unit_of s) unit ≡ true)
    (λ e. ap (λ (x : Station). same_unit (unit_of x) unit) (sym (same_some t s (ap (λ k. slice_get (t ∷ ss) k) (sym (place_head unit t ss e)) ∙ shown))) ∙ e)
    (λ e. own_place unit ss s (ap (λ k. slice_get (t ∷ ss) k) (sym (place_tail unit t ss e)) ∙ shown))

pub none_found : (unit : UnitId) (ss : List Station) → place_of unit ss ≡ length ss → station_of ss unit ≡ None
none_found unit [] e = refl
none_found unit (t ∷ ss) e = by_bool (same_unit (unit_of t) unit) (station_of (t ∷ ss) unit ≡ None)
    (λ same. absurd (cc (sym (place_head unit t ss same) ∙ e)))
    (λ other. station_tail unit t ss other ∙ none_found unit ss (cc (sym (place_tail unit t ss other) ∙ e)))

-- a change of the port there
pub placed : (unit : UnitId) (q : PortValue) (ss : List Station) (s : Station) → slice_get ss (place_of unit ss) ≡ Some s
    → set ss (place_of unit ss) (record s { port = q }) ≡ with_port unit q ss
placed unit q [] s shown = absurd (none_some s shown)
placed unit q (t ∷ ss) s shown = by_bool (same_unit (unit_of t) unit) (set (t ∷ ss) (place_of unit (t ∷ ss)) (record s { port = q }) ≡ with_port unit q (t ∷ ss))
    (λ e.
    let same : t ≡ s = same_some t s (ap (λ k. slice_get (t ∷ ss) k) (sym (place_head unit t ss e)) ∙ shown) in
    ap (λ k. set (t ∷ ss) k (record s { port = q })) (place_head unit t ss e)
    ∙ ap (λ (x : Station). record x { port = q } ∷ ss) (sym same)
    ∙ sym (with_head unit q t ss e))
    (λ e.
    ap (λ k. set (t ∷ ss) k (record s { port = q })) (place_tail unit t ss e)
    ∙ ap (λ l. t ∷ l) (placed unit q ss s (ap (λ k. slice_get (t ∷ ss) k) (sym (place_tail unit t ss e)) ∙ shown))
    ∙ sym (with_tail unit q t ss e))

-- a change of the number of its frames
frames_head : (unit : UnitId) (n : ℕ) (s : Station) (ss : List Station) → same_unit (unit_of s) unit ≡ true
    → with_frames unit n (s ∷ ss) ≡ record s { frames = n } ∷ ss
frames_head unit n s ss e = rw e refl

frames_tail : (unit : UnitId) (n : ℕ) (s : Station) (ss : List Station) → same_unit (unit_of s) unit ≡ false
    → with_frames unit n (s ∷ ss) ≡ s ∷ with_frames unit n ss
frames_tail unit n s ss e = rw e refl

pub frames_placed : (unit : UnitId) (n : ℕ) (ss : List Station) (s : Station) → slice_get ss (place_of unit ss) ≡ Some s
    → set ss (place_of unit ss) (record s { frames = n }) ≡ with_frames unit n ss
frames_placed unit n [] s shown = absurd (none_some s shown)
frames_placed unit n (t ∷ ss) s shown = by_bool (same_unit (unit_of t) unit) (set (t ∷ ss) (place_of unit (t ∷ ss)) (record s { frames = n }) ≡ with_frames unit n (t ∷ ss))
    (λ e.
    let same : t ≡ s = same_some t s (ap (λ k. slice_get (t ∷ ss) k) (sym (place_head unit t ss e)) ∙ shown) in
    ap (λ k. set (t ∷ ss) k (record s { frames = n })) (place_head unit t ss e)
    ∙ ap (λ (x : Station). record x { frames = n } ∷ ss) (sym same)
    ∙ sym (frames_head unit n t ss e))
    (λ e.
    ap (λ k. set (t ∷ ss) k (record s { frames = n })) (place_tail unit t ss e)
    ∙ ap (λ l. t ∷ l) (frames_placed unit n ss s (ap (λ k. slice_get (t ∷ ss) k) (sym (place_tail unit t ss e)) ∙ shown))
    ∙ sym (frames_tail unit n t ss e))

pub frames_nowhere : (unit : UnitId) (n : ℕ) (ss : List Station) → port_of ss unit ≡ None → with_frames unit n ss ≡ ss
frames_nowhere unit n [] none = refl
frames_nowhere unit n (t ∷ ss) none = by_bool (same_unit (unit_of t) unit) (with_frames unit n (t ∷ ss) ≡ t ∷ ss)
    (λ e. absurd (none_some t.port (sym none ∙ ap (λ o. option_map (λ (x : Station). x.port) o) (station_head unit t ss e))))
    (λ e. frames_tail unit n t ss e ∙ ap (λ l. t ∷ l)
    (frames_nowhere unit n ss (ap (λ o. option_map (λ (x : Station). x.port) o) (sym (station_tail unit t ss e)) ∙ none)))

-- the units, and their number, stay
pub units_with : (unit : UnitId) (q : PortValue) (ss : List Station) (s : Station) → station_of ss unit ≡ Some s → q.unit ≡ unit_of s
    → map unit_of (with_port unit q ss) ≡ map unit_of ss
units_with unit q [] s shown own = refl
units_with unit q (t ∷ ss) s shown own = by_bool (same_unit (unit_of t) unit) (map unit_of (with_port unit q (t ∷ ss)) ≡ map unit_of (t ∷ ss))
    (λ e.
    let same : t ≡ s = same_some t s (sym (station_head unit t ss e) ∙ shown) in
    ap (λ l. map unit_of l) (with_head unit q t ss e)
    ∙ ap (λ (u : UnitId). u ∷ map unit_of ss) (own ∙ ap unit_of (sym same)))
    (λ e.
    ap (λ l. map unit_of l) (with_tail unit q t ss e)
    ∙ ap (λ l. unit_of t ∷ l) (units_with unit q ss s (sym (station_tail unit t ss e) ∙ shown) own))

length_with : (unit : UnitId) (q : PortValue) (ss : List Station) → length (with_port unit q ss) ≡ length ss
length_with unit q [] = refl
length_with unit q (t ∷ ss) = by_bool (same_unit (unit_of t) unit) (length (with_port unit q (t ∷ ss)) ≡ length (t ∷ ss))
    (λ e. ap (λ l. length l) (with_head unit q t ss e))
    (λ e. ap (λ l. length l) (with_tail unit q t ss e) ∙ ap suc (length_with unit q ss))

-- the port is the unit's from then on
pub port_with : (unit : UnitId) (q : PortValue) (ss : List Station) (p : PortValue) → port_of ss unit ≡ Some p → q.unit ≡ p.unit
    → port_of (with_port unit q ss) unit ≡ Some q
port_with unit q [] p shown own = absurd (none_some p shown)
port_with unit q (t ∷ ss) p shown own = by_bool (same_unit (unit_of t) unit) (port_of (with_port unit q (t ∷ ss)) unit ≡ Some q)
    (λ e.
    let was : t.port ≡ p = same_some t.port p (ap (λ o. option_map (λ (x : Station). x.port) o) (sym (station_head unit t ss e)) ∙ shown) in
    let same : same_unit q.unit unit ≡ true = ap (λ (u : UnitId). same_unit u unit) (own ∙ ap (λ (v : PortValue). v.unit) (sym was)) ∙ e in
    ap (λ l. port_of l unit) (with_head unit q t ss e)
    ∙ ap (λ o. option_map (λ (x : Station). x.port) o) (station_head unit (record t { port = q }) ss same))
    (λ e.
    ap (λ l. port_of l unit) (with_tail unit q t ss e)
    ∙ ap (λ o. option_map (λ (x : Station). x.port) o) (station_tail unit t (with_port unit q ss) e)
    ∙ port_with unit q ss p (ap (λ o. option_map (λ (x : Station). x.port) o) (sym (station_tail unit t ss e)) ∙ shown) own)

-- a unit whose place is before the end is a port
pub port_placed : (unit : UnitId) (ss : List Station) → place_of unit ss < length ss → IsPort ss unit
port_placed unit [] less = absurd (omega (arith, less))
port_placed unit (t ∷ ss) less = by_bool (same_unit (unit_of t) unit) (IsPort (t ∷ ss) unit)
    (λ e. ap (λ o. is_some (option_map (λ (x : Station). x.port) o)) (station_head unit t ss e))
    (λ e. ap (λ o. is_some (option_map (λ (x : Station). x.port) o)) (station_tail unit t ss e)
    ∙ port_placed unit ss (omega (arith, less, place_tail unit t ss e)))

pub still_switch : (unit : UnitId) (q : PortValue) (ss : List Station) (s : Station) → IsSwitch ss → slice_get ss (place_of unit ss) ≡ Some s
    → q.unit ≡ unit_of s → IsSwitch (set ss (place_of unit ss) (record s { port = q }))
still_switch unit q ss s switch shown own = subst (λ l. IsSwitch l) (sym (placed unit q ss s shown)) (record {
  few = subst (λ n. n ≤ 16) (sym (length_with unit q ss)) switch.few;
  ascending = subst (λ l. AreAscending l) (sym (units_with unit q ss s (found unit ss s shown) own)) switch.ascending;
})

-- a call at the port of the unit's place
pub at_port : (unit : UnitId) (ss : List Station) (s : Station) (q : PortValue) (P : PortValue → PortValue → Type 0)
    → slice_get ss (place_of unit ss) ≡ Some s → P s.port q → AtPort ss unit (set ss (place_of unit ss) (record s { port = q })) P
at_port unit ss s q P shown done = record {
  before = s.port;
  after = q;
  was = ap (λ o. option_map (λ (t : Station). t.port) o) (found unit ss s shown);
  done = done;
  rest = placed unit q ss s shown;
}

pub made_at : (unit : UnitId) (answer : LanAnswer) (ss : List Station) (s : Station) (q : PortValue) (P : PortValue → PortValue → Type 0)
    → slice_get ss (place_of unit ss) ≡ Some s → P s.port q → MadeAt ss unit answer (set ss (place_of unit ss) (record s { port = q })) P
made_at unit answer ss s q P shown done = record {
  absent = λ none. absurd (none_some s.port (sym none ∙ ap (λ o. option_map (λ (t : Station). t.port) o) (found unit ss s shown)));
  made = λ _. at_port unit ss s q P shown done;
}

not_there : {X : Type 0} (o : Option X) → o ≡ None → IsSome o → ⊥
not_there o e there = cc (e, there)

pub made_nowhere : (unit : UnitId) (answer : LanAnswer) (ss : List Station) (P : PortValue → PortValue → Type 0)
    → port_of ss unit ≡ None → IsRefused answer → MadeAt ss unit answer ss P
made_nowhere unit answer ss P none refused = record {
  absent = λ _. (refused, refl);
  made = λ here. absurd (not_there (port_of ss unit) none here);
}

-- what stands at a place
at_place : (ss : List Station) (p : ℕ) (s : Station) → p < length ss → s ≡ get_or ss p s → slice_get ss p ≡ Some s
at_place [] p s less is = absurd (omega (arith, less))
at_place (t ∷ ss) zero s less is = ap Some (sym is)
at_place (t ∷ ss) (suc p) s less is = at_place ss p s (omega (arith, less)) is

pub shown_at : (ss now : List Station) (p : ℕ) (s : Station) → ss ≡ now → p < length now → s ≡ get_or ss p s → slice_get ss p ≡ Some s
shown_at ss now p s same less is = at_place ss p s (subst (λ (l : List Station). p < length l) (sym same) less) is

-- the same where the place and the list are told
pub switch_here : (unit : UnitId) (ss now : List Station) (p : ℕ) (s : Station) (q : PortValue) → ss ≡ now → p ≡ place_of unit now → IsSwitch ss
    → p < length now → s ≡ get_or ss p s → q.unit ≡ s.port.unit → IsSwitch (set ss p (record { port = q; frames = s.frames }))
switch_here unit ss now p s q same at switch within is own =
    let here : p ≡ place_of unit ss = at ∙ ap (λ l. place_of unit l) (sym same) in
    let shown : slice_get ss p ≡ Some s = shown_at ss now p s same within is in
    subst (λ k. IsSwitch (set ss k (record s { port = q }))) (sym here)
    (still_switch unit q ss s switch (ap (λ k. slice_get ss k) (sym here) ∙ shown) own)

pub at_here : (unit : UnitId) (ss now : List Station) (p : ℕ) (s : Station) (q : PortValue) (P : PortValue → PortValue → Type 0) → ss ≡ now → p ≡ place_of unit now
    → p < length now → s ≡ get_or ss p s → P s.port q → AtPort now unit (set ss p (record { port = q; frames = s.frames })) P
at_here unit ss now p s q P same at within is done =
    let here : p ≡ place_of unit ss = at ∙ ap (λ l. place_of unit l) (sym same) in
    let shown : slice_get ss p ≡ Some s = shown_at ss now p s same within is in
    subst (λ l. AtPort l unit (set ss p (record s { port = q })) P) same
    (subst (λ k. AtPort ss unit (set ss k (record s { port = q })) P) (sym here)
    (at_port unit ss s q P (ap (λ k. slice_get ss k) (sym here) ∙ shown) done))

pub made_here : (unit : UnitId) (answer : LanAnswer) (ss now : List Station) (p : ℕ) (s : Station) (q : PortValue) (P : PortValue → PortValue → Type 0)
    → ss ≡ now → p ≡ place_of unit now → p < length now → s ≡ get_or ss p s → P s.port q
    → MadeAt now unit answer (set ss p (record { port = q; frames = s.frames })) P
made_here unit answer ss now p s q P same at within is done =
    let here : p ≡ place_of unit ss = at ∙ ap (λ l. place_of unit l) (sym same) in
    let shown : slice_get ss p ≡ Some s = shown_at ss now p s same within is in
    subst (λ l. MadeAt l unit answer (set ss p (record s { port = q })) P) same
    (subst (λ k. MadeAt ss unit answer (set ss k (record s { port = q })) P) (sym here)
    (made_at unit answer ss s q P (ap (λ k. slice_get ss k) (sym here) ∙ shown) done))

-- the port that stands there
pub port_here : (unit : UnitId) (ss now : List Station) (p : ℕ) (s : Station) → ss ≡ now → p ≡ place_of unit now → p < length now → s ≡ get_or ss p s
    → port_of now unit ≡ Some s.port
port_here unit ss now p s same at within is =
    let here : p ≡ place_of unit ss = at ∙ ap (λ l. place_of unit l) (sym same) in
    let shown : slice_get ss p ≡ Some s = shown_at ss now p s same within is in
    subst (λ l. port_of l unit ≡ Some s.port) same
    (ap (λ o. option_map (λ (t : Station). t.port) o) (found unit ss s (ap (λ k. slice_get ss k) (sym here) ∙ shown)))

-- the number of frames of the station that stands there
pub number_here : (unit : UnitId) (ss now : List Station) (p : ℕ) (s : Station) → ss ≡ now → p ≡ place_of unit now → p < length now → s ≡ get_or ss p s
    → frames_of (station_of now unit) ≡ s.frames
number_here unit ss now p s same at within is =
    let here : p ≡ place_of unit ss = at ∙ ap (λ l. place_of unit l) (sym same) in
    let shown : slice_get ss p ≡ Some s = shown_at ss now p s same within is in
    subst (λ l. frames_of (station_of l unit) ≡ s.frames) same
    (ap frames_of (found unit ss s (ap (λ k. slice_get ss k) (sym here) ∙ shown)))

-- a change of that number
pub frames_here : (unit : UnitId) (n : ℕ) (ss now : List Station) (p : ℕ) (s : Station) → ss ≡ now → p ≡ place_of unit now → p < length now → s ≡ get_or ss p s
    → set ss p (record { port = s.port; frames = n }) ≡ with_frames unit n now
frames_here unit n ss now p s same at within is =
    let here : p ≡ place_of unit ss = at ∙ ap (λ l. place_of unit l) (sym same) in
    let shown : slice_get ss p ≡ Some s = shown_at ss now p s same within is in
    ap (λ k. set ss k (record s { frames = n })) here
    ∙ frames_placed unit n ss s (ap (λ k. slice_get ss k) (sym here) ∙ shown)
    ∙ ap (λ l. with_frames unit n l) same

pub has_here : (unit : UnitId) (ss now : List Station) (p : ℕ) (s : Station) (P : PortValue → Type 0) → ss ≡ now → p ≡ place_of unit now
    → p < length now → s ≡ get_or ss p s → IfSome (port_of now unit) P → P s.port
has_here unit ss now p s P same at within is has = subst (λ o. IfSome o P) (port_here unit ss now p s same at within is) has

-- a unit whose place is behind all stations is no port
pub port_nowhere : (unit : UnitId) (now : List Station) → place_of unit now ≡ length now → port_of now unit ≡ None
port_nowhere unit now e = ap (λ o. option_map (λ (t : Station). t.port) o) (none_found unit now e)

-- a harvest leaves the port's unit
pub harvest_unit : (answer : Harvest) (old new : PortValue) → Harvests answer old new → new.unit ≡ old.unit
harvest_unit (Frame number len correlator) old new h = ap (λ (v : PortValue). v.unit) h.frame.reads.rest
harvest_unit (Blank number correlator) old new h = ap (λ (v : PortValue). v.unit) h.blank.reads.rest
harvest_unit (Nothing number high) old new h = ap (λ (v : PortValue). v.unit) h.rest

-- the stations of ports that are opened
units_opened : (plans : List PortPlan) → map unit_of (map opened plans) ≡ map (λ plan. plan.unit) plans
units_opened [] = refl
units_opened (plan ∷ plans) = ap (λ l. plan.unit ∷ l) (units_opened plans)

length_opened : (plans : List PortPlan) → length (map opened plans) ≡ length plans
length_opened [] = refl
length_opened (plan ∷ plans) = ap suc (length_opened plans)

pub opened_switch : (plans : List PortPlan) → length plans ≤ 16 → AreAscending (map (λ plan. plan.unit) plans) → IsSwitch (map opened plans)
opened_switch plans few ascending = record {
  few = subst (λ n. n ≤ 16) (sym (length_opened plans)) few;
  ascending = subst (λ l. AreAscending l) (sym (units_opened plans)) ascending;
}

-- a station that is changed where it stands
units_set : (ss : List Station) (p : ℕ) (s t : Station) → slice_get ss p ≡ Some s → unit_of t ≡ unit_of s → map unit_of (set ss p t) ≡ map unit_of ss
units_set [] p s t shown own = refl
units_set (x ∷ ss) zero s t shown own = ap (λ (u : UnitId). u ∷ map unit_of ss) (own ∙ ap unit_of (sym (same_some x s shown)))
units_set (x ∷ ss) (suc p) s t shown own = ap (λ l. unit_of x ∷ l) (units_set ss p s t shown own)

pub length_set : (ss : List Station) (p : ℕ) (t : Station) → length (set ss p t) ≡ length ss
length_set [] p t = refl
length_set (x ∷ ss) zero t = refl
length_set (x ∷ ss) (suc p) t = ap suc (length_set ss p t)

pub set_same : (ss : List Station) (p : ℕ) (s : Station) → slice_get ss p ≡ Some s → set ss p s ≡ ss
set_same [] p s shown = refl
set_same (x ∷ ss) zero s shown = ap (λ (y : Station). y ∷ ss) (sym (same_some x s shown))
set_same (x ∷ ss) (suc p) s shown = ap (λ l. x ∷ l) (set_same ss p s shown)

pub switch_set : (ss : List Station) (p : ℕ) (s t : Station) → IsSwitch ss → slice_get ss p ≡ Some s → unit_of t ≡ unit_of s → IsSwitch (set ss p t)
switch_set ss p s t switch shown own = record {
  few = subst (λ n. n ≤ 16) (sym (length_set ss p t)) switch.few;
  ascending = subst (λ l. AreAscending l) (sym (units_set ss p s t shown own)) switch.ascending;
}
