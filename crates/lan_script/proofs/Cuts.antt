-- A list that is gone through: what a step adds.
use Rattle.std.proofs.Common.{◌≡◌, ◌+◌, ◌<◌, ℕ, zero, suc, arith, All, Some, get_or, List, [], ◌∷◌, ◌++◌, append-nil, append_assoc, take, length, map, refl, sym, ◌∙◌, ap, subst}
use Rattle.std.specs.List.{flat_map}
use Rattle.std.proofs.Math.Seq.{take-suc}
use Rattle.std.proofs.lemmas.List.{length-take}
use Rattle.std.proofs.lemmas.Grind.{flat_map-append}
use Rattle.std.proofs.lemmas.List.Elements.{All-append, All-cons, All-nil}
use Rattle.lan_buffers.specs.Port.{PortValue}
use Rattle.lan_switch.specs.declared.station.Station.{Station}
use Rattle.lan_switch.specs.Switch.{port_of}
use Rattle.lan_script.specs.declared.seat.PortSeat.{PortSeat}
use Rattle.lan_script.specs.Rows.{numbered, port_in, port_or}

one_more : (n : ℕ) → suc n ≡ n + 1
one_more n = omega arith

pub take_more : {X : Type 0} (xs : List X) (i : ℕ) (d : X) → i < length xs → take (i + 1) xs ≡ take i xs ++ get_or xs i d ∷ []
take_more xs i d less = subst (λ k. take k xs ≡ take i xs ++ get_or xs i d ∷ []) (one_more i) (take-suc xs i d less)

pub behind : {X : Type 0} (init new middle xs ys zs : List X) → new ≡ middle ++ ys → middle ≡ init ++ xs → zs ≡ xs ++ ys → new ≡ init ++ zs
behind init new middle xs ys zs grown was is =
    grown ∙ (ap (λ rows. rows ++ ys) was ∙ (append_assoc init xs ys ∙ ap (λ rows. init ++ rows) (sym is)))

pub all_more : {X : Type 0} (P : X → Type 0) (xs : List X) (i : ℕ) (d : X) → i < length xs → All P (take i xs) → P (get_or xs i d) → All P (take (i + 1) xs)
all_more P xs i d less all one =
    subst (All P) (sym (take_more xs i d less))
    (All-append P (take i xs) (get_or xs i d ∷ []) all (All-cons P (get_or xs i d) [] one (All-nil P)))

pub flat_more : {X Row : Type 0} (f : X → List Row) (xs : List X) (i : ℕ) (d : X) (old new : List Row) → i < length xs
    → old ≡ flat_map f (take i xs) → new ≡ old ++ f (get_or xs i d) → new ≡ flat_map f (take (i + 1) xs)
flat_more f xs i d old new less was grown =
    grown ∙ (ap (λ rows. rows ++ f (get_or xs i d)) was
    ∙ sym (ap (flat_map f) (take_more xs i d less)
    ∙ (flat_map-append f (take i xs) (get_or xs i d ∷ []) ∙ ap (λ rows. flat_map f (take i xs) ++ rows) (append-nil (f (get_or xs i d))))))

-- one row more behind those that are numbered
pub numbered_more : {X Row : Type 0} (make : ℕ → X → Row) (n : ℕ) (xs : List X) (x : X)
    → numbered make n (xs ++ x ∷ []) ≡ numbered make n xs ++ make (n + length xs) x ∷ []
numbered_more make n [] x = ap (λ k. make k x ∷ []) (same n)
  where
    same : (k : ℕ) → k ≡ k + length {A = ℕ} []
    same k = omega arith
numbered_more make n (y ∷ xs) x =
    ap (λ l. make n y ∷ l) (numbered_more make (n + 1) xs x ∙ ap (λ k. numbered make (n + 1) xs ++ make k x ∷ []) (same n))
  where
    same : (k : ℕ) → k + 1 + length xs ≡ k + length (y ∷ xs)
    same k = omega arith

pub numbered_step : {X Row : Type 0} (make : ℕ → X → Row) (xs : List X) (i : ℕ) (x : X) → i < length xs → x ≡ get_or xs i x
    → numbered make 1 (take (i + 1) xs) ≡ numbered make 1 (take i xs) ++ make (i + 1) x ∷ []
numbered_step make xs i x less is =
    let more : take (i + 1) xs ≡ take i xs ++ x ∷ [] = take_more xs i x less ∙ ap (λ y. take i xs ++ y ∷ []) (sym is) in
    let long : 1 + length (take i xs) ≡ i + 1 = omega (arith, length-take i xs, less) in
    ap (numbered make 1) more
    ∙ (numbered_more make 1 (take i xs) x ∙ ap (λ k. numbered make 1 (take i xs) ++ make k x ∷ []) long)

-- the port of a seat that was read
pub port_is : (ss : List Station) (seat : PortSeat) (port : PortValue) → port_of ss seat.unit ≡ Some port → port_in ss seat ≡ port
port_is ss seat port e = ap (λ o. port_or seat.unit o) e

pub map_behind : {X Y : Type 0} (f : X → Y) (xs : List X) (x : X) → map f (xs ++ x ∷ []) ≡ map f xs ++ f x ∷ []
map_behind f [] x = refl
map_behind f (y ∷ xs) x = ap (λ l. f y ∷ l) (map_behind f xs x)

pub map_step : {X Y : Type 0} (f : X → Y) (xs : List X) (i : ℕ) (d : X) (old new : List Y) (y : Y) → i < length xs → old ≡ map f (take i xs)
    → new ≡ old ++ y ∷ [] → y ≡ f (get_or xs i d) → new ≡ map f (take (i + 1) xs)
map_step f xs i d old new y less was grown is =
    grown ∙ ap (λ l. l ++ y ∷ []) was ∙ ap (λ z. map f (take i xs) ++ z ∷ []) is
    ∙ sym (ap (λ l. map f l) (take_more xs i d less) ∙ map_behind f (take i xs) (get_or xs i d))

-- one item more of a list of equal ones
equal_more : {X Y : Type 0} (y : Y) (xs : List X) (i : ℕ) → i < length xs → map (λ _. y) (take (suc i) xs) ≡ map (λ _. y) (take i xs) ++ y ∷ []
equal_more y [] i less = absurd (omega (arith, less))
equal_more y (x ∷ xs) zero less = refl
equal_more y (x ∷ xs) (suc i) less = ap (λ l. y ∷ l) (equal_more y xs i (omega (arith, less)))

pub equal_step : {X Y : Type 0} (y : Y) (xs : List X) (i : ℕ) (old new : List Y) → i < length xs → old ≡ map (λ _. y) (take i xs)
    → new ≡ old ++ y ∷ [] → new ≡ map (λ _. y) (take (i + 1) xs)
equal_step y xs i old new less was grown =
    grown ∙ ap (λ l. l ++ y ∷ []) was ∙ sym (equal_more y xs i less) ∙ ap (λ k. map (λ _. y) (take k xs)) (one_more i)
