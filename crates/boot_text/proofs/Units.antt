-- Units by their names: what one unit more of the last partition, or one partition more, makes of them.
use Rattle.std.proofs.Common.{◌≡◌, ◌<◌, ℕ, zero, suc, ◌==◌, ◌&&◌, ◌||◌, not, Bool, true, false, List, [], ◌∷◌, ◌++◌, length, slice_get, Option, Some, None, ◌⊎◌, inl, inr, refl, sym, ap, ◌∙◌, arith, eq-eqb}
use Rattle.std.specs.List.{list_any}
use Rattle.std.proofs.lemmas.Option.{slice_get_within}
use Rattle.std.proofs.lemmas.Map.Keys.{any_passes_from_place}
use Rattle.vio_num.specs.declared.names.UnitId.{UnitId}
use Rattle.boot_text.specs.SoFar.{names, unit_id, has_server_at, serves_at}
use Rattle.boot_text.specs.Sound.{unit_in}
use Rattle.boot_text.specs.declared.names.Name.{Name}
use Rattle.boot_text.specs.declared.plan.Partition.{Partition}
use Rattle.boot_text.specs.declared.plan.UnitPlan.{UnitPlan}
use Rattle.boot_text.specs.declared.plan.UnitPlan.TheVariants as units

-- what two tests say together
pub neither : (a b : Bool) → (a || b) ≡ false → (a ≡ false) × (b ≡ false)
neither true b h = cc
neither false b h = (refl, h)

pub is_not : (a : Bool) → not a ≡ false → a ≡ true
is_not true h = refl
is_not false h = cc

pub no_way : {A : Type 0} (a : Bool) → a ≡ true → a ≡ false → A
no_way a h k = absurd (let e : true ≡ false = sym h ∙ k in cc)

first_so : (a b : Bool) → a ≡ true → (a || b) ≡ true
first_so true b h = refl
first_so false b h = cc

second_so : (a b c : Bool) → (b || c) ≡ true → ((a || b) || c) ≡ true
second_so true b c h = refl
second_so false b c h = h

-- lists by place
pub get_left : {A : Type 0} (xs ys : List A) (k : ℕ) → k < length xs → slice_get (xs ++ ys) k ≡ slice_get xs k
get_left [] ys k l = absurd (omega arith)
get_left (x ∷ xs) ys zero l = refl
get_left (x ∷ xs) ys (suc k) l = get_left xs ys k (omega arith)

got_push : {A : Type 0} (xs : List A) (x y : A) (k : ℕ) → slice_get (xs ++ x ∷ []) k ≡ Some y → (slice_get xs k ≡ Some y) ⊎ ((k ≡ length xs) × (x ≡ y))
got_push [] x y zero h = inr (refl, cc)
got_push [] x y (suc k) h = cc
got_push (z ∷ xs) x y zero h = inl h
got_push (z ∷ xs) x y (suc k) h = next (got_push xs x y k h)
  where
    next : (slice_get xs k ≡ Some y) ⊎ ((k ≡ length xs) × (x ≡ y)) → (slice_get xs k ≡ Some y) ⊎ ((suc k ≡ length (z ∷ xs)) × (x ≡ y))
    next (inl e) = inl e
    next (inr e) = inr (ap suc e.0, e.1)

-- a unit that was there is there still behind one unit more of the last partition, and one that is there was, or is that one
pub kept_at : (ps : List Partition) (p q : Partition) (u v : UnitPlan) (k j : ℕ) → q.units ≡ p.units ++ u ∷ [] → unit_in (slice_get (ps ++ p ∷ []) k) j ≡ Some v → unit_in (slice_get (ps ++ q ∷ []) k) j ≡ Some v
kept_at [] p q u v zero j e h = ap (λ (us : List UnitPlan). slice_get us j) e ∙ get_left p.units (u ∷ []) j (slice_get_within p.units j v h) ∙ h
kept_at [] p q u v (suc k) j e h = h
kept_at (r ∷ ps) p q u v zero j e h = h
kept_at (r ∷ ps) p q u v (suc k) j e h = kept_at ps p q u v k j e h

pub came_at : (ps : List Partition) (p q : Partition) (u v : UnitPlan) (k j : ℕ) → q.units ≡ p.units ++ u ∷ [] → unit_in (slice_get (ps ++ q ∷ []) k) j ≡ Some v → (unit_in (slice_get (ps ++ p ∷ []) k) j ≡ Some v) ⊎ ((k ≡ length ps) × (j ≡ length p.units) × (u ≡ v))
came_at [] p q u v zero j e h = there (got_push p.units u v j (sym (ap (λ (us : List UnitPlan). slice_get us j) e) ∙ h))
  where
    there : (slice_get p.units j ≡ Some v) ⊎ ((j ≡ length p.units) × (u ≡ v)) → (slice_get p.units j ≡ Some v) ⊎ ((zero ≡ zero) × (j ≡ length p.units) × (u ≡ v))
    there (inl t) = inl t
    there (inr t) = inr (refl, t.0, t.1)
came_at [] p q u v (suc k) j e h = inl h
came_at (r ∷ ps) p q u v zero j e h = inl h
came_at (r ∷ ps) p q u v (suc k) j e h = next (came_at ps p q u v k j e h)
  where
    next : (unit_in (slice_get (ps ++ p ∷ []) k) j ≡ Some v) ⊎ ((k ≡ length ps) × (j ≡ length p.units) × (u ≡ v)) → (unit_in (slice_get (ps ++ p ∷ []) k) j ≡ Some v) ⊎ ((suc k ≡ length (r ∷ ps)) × (j ≡ length p.units) × (u ≡ v))
    next (inl t) = inl t
    next (inr t) = inr (ap suc t.0, t.1, t.2)

-- the scripts change nothing
pub same_at : (ps : List Partition) (p q : Partition) (k j : ℕ) → p.units ≡ q.units → unit_in (slice_get (ps ++ p ∷ []) k) j ≡ unit_in (slice_get (ps ++ q ∷ []) k) j
same_at [] p q zero j e = ap (λ (us : List UnitPlan). slice_get us j) e
same_at [] p q (suc k) j e = refl
same_at (r ∷ ps) p q zero j e = refl
same_at (r ∷ ps) p q (suc k) j e = same_at ps p q k j e

-- a partition without units changes nothing, and one behind the others leaves theirs
pub empty_at : (ps : List Partition) (p : Partition) (k j : ℕ) → p.units ≡ [] → unit_in (slice_get (ps ++ p ∷ []) k) j ≡ unit_in (slice_get ps k) j
empty_at [] p zero j e = ap (λ (us : List UnitPlan). slice_get us j) e
empty_at [] p (suc k) j e = refl
empty_at (r ∷ ps) p zero j e = refl
empty_at (r ∷ ps) p (suc k) j e = empty_at ps p k j e

pub earlier_at : (ps : List Partition) (p : Partition) (v : UnitPlan) (k j : ℕ) → unit_in (slice_get ps k) j ≡ Some v → unit_in (slice_get (ps ++ p ∷ []) k) j ≡ Some v
earlier_at [] p v k j h = cc
earlier_at (r ∷ ps) p v zero j h = h
earlier_at (r ∷ ps) p v (suc k) j h = earlier_at ps p v k j h

-- a unit that passes a test is told by the tests on all units, and stands in the last partition where no earlier one has such
pub told_at : (f : UnitPlan → Bool) (v : UnitPlan) → f v ≡ true → (ps : List Partition) (p : Partition) (k j : ℕ) → unit_in (slice_get (ps ++ p ∷ []) k) j ≡ Some v → (list_any (λ q. list_any f q.units) ps || list_any f p.units) ≡ true
told_at f v t [] p zero j h = any_passes_from_place f p.units j v h t
told_at f v t [] p (suc k) j h = cc
told_at f v t (r ∷ ps) p zero j h =
    first_so (list_any f r.units || list_any (λ q. list_any f q.units) ps) (list_any f p.units)
    (first_so (list_any f r.units) (list_any (λ q. list_any f q.units) ps) (any_passes_from_place f r.units j v h t))
told_at f v t (r ∷ ps) p (suc k) j h =
    second_so (list_any f r.units) (list_any (λ q. list_any f q.units) ps) (list_any f p.units) (told_at f v t ps p k j h)

pub last_at : (f : UnitPlan → Bool) (v : UnitPlan) → f v ≡ true → (ps : List Partition) (p : Partition) (k j : ℕ) → list_any (λ q. list_any f q.units) ps ≡ false → unit_in (slice_get (ps ++ p ∷ []) k) j ≡ Some v → k ≡ length ps
last_at f v t [] p zero j n h = refl
last_at f v t [] p (suc k) j n h = cc
last_at f v t (r ∷ ps) p zero j n h =
    no_way (list_any f r.units) (any_passes_from_place f r.units j v h t) (neither (list_any f r.units) (list_any (λ q. list_any f q.units) ps) n).0
last_at f v t (r ∷ ps) p (suc k) j n h =
    ap suc (last_at f v t ps p k j (neither (list_any f r.units) (list_any (λ q. list_any f q.units) ps) n).1 h)

-- where a server unit stands by the test, there is one
server_there : (u : Option UnitPlan) → has_server_at u ≡ true → (q : ℕ) × (u ≡ Some (units.Server q))
server_there None h = cc
server_there (Some (units.Server queue)) h = (queue, refl)
server_there (Some (units.Client server pages queue)) h = cc
server_there (Some (units.Lan mac pages slots)) h = cc

pub server_at : (o : Option Partition) (j : ℕ) → serves_at o j ≡ true → (q : ℕ) × (unit_in o j ≡ Some (units.Server q))
server_at None j h = cc
server_at (Some p) j h = server_there (slice_get p.units j) h

-- where a server unit stands by the test, its partition is one of these
pub served_within : (ps : List Partition) (k j : ℕ) → serves_at (slice_get ps k) j ≡ true → k < length ps
served_within [] k j h = cc
served_within (p ∷ ps) zero j h = omega arith
served_within (p ∷ ps) (suc k) j h = omega (arith, served_within ps k j h)

-- a client of this server unit is told by its name
pub named_by : (name : Name) (server : UnitId) (pages queue : ℕ) → server ≡ unit_id name → names name (units.Client server pages queue) ≡ true
named_by name server pages queue e =
    both (server.partition == name.partition) (server.unit == name.unit)
    (eq-eqb server.partition name.partition (ap (λ (i : UnitId). i.partition) e))
    (eq-eqb server.unit name.unit (ap (λ (i : UnitId). i.unit) e))
  where
    both : (a b : Bool) → a ≡ true → b ≡ true → (a && b) ≡ true
    both true b h k = k
    both false b h k = h
