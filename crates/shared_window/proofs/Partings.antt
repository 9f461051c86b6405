-- Seats that leave a list from its end, and go back into one.
use Rattle.std.proofs.Common.{◌≡◌, List, [], ◌∷◌, ◌++◌, length, map, refl, sym, ap, ◌∙◌, arith}
use Rattle.std.proofs.lemmas.List.{reverse-append}
use Rattle.std.proofs.Math.Seq.{append_snoc}
use Rattle.std.specs.Prelude.{reverse}
use Rattle.shared_window.specs.Closing.{rest_of}
use Rattle.shared_window.specs.SharedWindow.{WindowSeatValue}

module _ {X Y : Type 0} (f : X → Y) where
  -- what was made of the elements before one, and of it
  pub one_more : (done : List Y) (left : List X) (x : X) (whole : List Y) → done ++ map f (reverse (left ++ x ∷ [])) ≡ whole → (done ++ f x ∷ []) ++ map f (reverse left) ≡ whole
  one_more done left x whole is = append_snoc done (f x) (map f (reverse left)) ∙ (ap (λ l. done ++ map f l) (sym (reverse-append left (x ∷ []))) ∙ is)

  -- an element that was made of the last of a list goes in front of those that were made before it
  pub one_back : (left : List Y) (y : Y) (back : List X) (x : X) (whole : List Y) → f x ≡ y → (left ++ y ∷ []) ++ map f (reverse back) ≡ whole → left ++ map f (reverse (back ++ x ∷ [])) ≡ whole
  one_back left y back x whole e is = ap (λ l. left ++ map f l) (reverse-append back (x ∷ [])) ∙ (ap (λ z. left ++ z ∷ map f (reverse back)) e ∙ (sym (append_snoc left y (map f (reverse back))) ∙ is))

-- the same seats give the same parts only
abbrev first_of : {X : Type 0} → X → List X → X
first_of d [] = d
first_of d (x ∷ xs) = x

abbrev others_in : {X : Type 0} → List X → List X
others_in [] = []
others_in (x ∷ xs) = xs

same_seat : (a b : WindowSeatValue) → a.pages ≡ b.pages → a.entries ≡ b.entries → rest_of a ≡ rest_of b → a ≡ b
same_seat a b e f g i = record { pages = e i; entries = f i; region = (g i).region; in_use = (g i).in_use }

pub same_seats : (a b : List WindowSeatValue) → map (λ s. s.pages) a ≡ map (λ s. s.pages) b → map (λ s. s.entries) a ≡ map (λ s. s.entries) b → map rest_of a ≡ map rest_of b → a ≡ b
same_seats [] [] e f g = refl
same_seats [] (y ∷ ys) e f g = let long = ap length e in absurd (omega (arith, long))
same_seats (x ∷ xs) [] e f g = let long = ap length e in absurd (omega (arith, long))
same_seats (x ∷ xs) (y ∷ ys) e f g =
    λ i. same_seat x y (ap (first_of x.pages) e) (ap (first_of x.entries) f) (ap (first_of (rest_of x)) g) i
    ∷ same_seats xs ys (ap others_in e) (ap others_in f) (ap others_in g) i
