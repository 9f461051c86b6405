-- Places in the data of pieces, as copies pass over them.
use Rattle.std.proofs.Common.{◌≡◌, ◌+◌, ◌-◌, ◌^◌, ◌<◌, ◌≤◌, ℕ, zero, suc, min, Bool, true, false, if◌then◌else◌, List, [], ◌∷◌, Option, Some, None, nat_lt, length, take, drop, slice_get, refl, sym, ◌∙◌, ap, subst, arith}
use Rattle.std.proofs.lemmas.Bool.Decides.{nat_tests}
use Rattle.std.proofs.lemmas.List.Sums.{sum_by-cons}
use Rattle.std.specs.Option.{SomeIff}
use Rattle.srp_iu.specs.declared.buffer.Desc.{Desc}
use Rattle.srp_desc.specs.Pieces.{sum_of}
use Rattle.block_server.specs.Carried.{address_of}
use Rattle.block_server.specs.Parts.{IsPartAt, IsPlacedAt, LiesAt, first_len}
use Rattle.block_server.specs.Runs.{IsPart, left_at}
use Rattle.block_server.specs.declared.cursor.Cursor.{Cursor}

-- the test of a number below another, and of one that is not
below_is : (a b : ℕ) → a < b → nat_lt a b ≡ true
below_is a b less = grind (arith, nat_tests)

above_is : (a b : ℕ) → b ≤ a → nat_lt a b ≡ false
above_is a b more = grind (arith, nat_tests)

sum_first : (first : Desc) (list : List Desc) → sum_of (first ∷ list) ≡ first.len + sum_of list
sum_first first list = sum_by-cons (λ (desc : Desc). desc.len) first list

sum_taken : (first : Desc) (list : List Desc) (i : ℕ) → sum_of (take (suc i) (first ∷ list)) ≡ first.len + sum_of (take i list)
sum_taken first list i = sum_first first (take i list)

-- the address of a byte of one of the pieces
pub address_there : (list : List Desc) (i : ℕ) (piece : Desc) (n : ℕ) → slice_get list i ≡ Some piece → n < piece.len → address_of list (sum_of (take i list) + n) ≡ Some (piece.address + n)
address_there [] i piece n is less = absurd (cc (is))
address_there (first ∷ list) zero piece n is less =
    subst (λ (p : Desc). address_of (p ∷ list) (sum_of (take 0 (first ∷ list)) + n) ≡ Some (piece.address + n)) (sym (same first piece is))
    (ap (address_of (piece ∷ list)) none ∙ ap (λ t. if t then Some (piece.address + n) else address_of list (n - piece.len)) (below_is n piece.len less))
  where
    none : sum_of (take 0 (first ∷ list)) + n ≡ n
    none = omega arith

    same : (a b : Desc) → Some a ≡ Some b → a ≡ b
    same a b e = cc (e)
address_there (first ∷ list) (suc i) piece n is less =
    ap (address_of (first ∷ list)) (ap (λ (m : ℕ). m + n) (sum_taken first list i))
    ∙ ap (λ t. if t then Some (first.address + k) else address_of list (k - first.len)) (above_is k first.len (omega arith))
    ∙ ap (address_of list) (omega arith) ∙ address_there list i piece n is less
  where
    k : ℕ
    k = first.len + sum_of (take i list) + n

-- as many bytes of it are left
left_there : (list : List Desc) (i : ℕ) (piece : Desc) (n : ℕ) → slice_get list i ≡ Some piece → n < piece.len → left_at list (sum_of (take i list) + n) ≡ piece.len - n
left_there [] i piece n is less = absurd (cc (is))
left_there (first ∷ list) zero piece n is less =
    subst (λ (p : Desc). left_at (p ∷ list) (sum_of (take 0 (first ∷ list)) + n) ≡ piece.len - n) (sym (same first piece is))
    (ap (left_at (piece ∷ list)) none ∙ ap (λ t. if t then piece.len - n else left_at list (n - piece.len)) (below_is n piece.len less))
  where
    none : sum_of (take 0 (first ∷ list)) + n ≡ n
    none = omega arith

    same : (a b : Desc) → Some a ≡ Some b → a ≡ b
    same a b e = cc (e)
left_there (first ∷ list) (suc i) piece n is less =
    ap (left_at (first ∷ list)) (ap (λ (m : ℕ). m + n) (sum_taken first list i))
    ∙ ap (λ t. if t then first.len - k else left_at list (k - first.len)) (above_is k first.len (omega arith))
    ∙ ap (left_at list) (omega arith) ∙ left_there list i piece n is less
  where
    k : ℕ
    k = first.len + sum_of (take i list) + n

-- a piece more
pub sum_more : (list : List Desc) (i : ℕ) (piece : Desc) → slice_get list i ≡ Some piece → sum_of (take (i + 1) list) ≡ sum_of (take i list) + piece.len
sum_more [] i piece is = absurd (cc (is))
sum_more (first ∷ list) zero piece is = let same : first ≡ piece = cc (is) in omega (arith, ap (λ (p : Desc). p.len) same, sum_taken first list 0)
sum_more (first ∷ list) (suc i) piece is = next (sum_more list i piece is)
  where
    next : sum_of (take (i + 1) list) ≡ sum_of (take i list) + piece.len → sum_of (take (suc i + 1) (first ∷ list)) ≡ sum_of (take (suc i) (first ∷ list)) + piece.len
    next more = omega (arith, more, sum_taken first list (i + 1), sum_taken first list i, ap (λ (n : ℕ). sum_of (take n (first ∷ list))) same)
      where
        same : suc i + 1 ≡ suc (i + 1)
        same = omega arith

pub first_there : (list : List Desc) (i : ℕ) (piece : Desc) → slice_get list i ≡ Some piece → first_len (drop i list) ≡ piece.len
first_there [] i piece is = absurd (cc (is))
first_there (first ∷ list) zero piece is = let same : first ≡ piece = cc (is) in ap (λ (p : Desc). p.len) same
first_there (first ∷ list) (suc i) piece is = first_there list i piece is

pub none_first : (list : List Desc) (i : ℕ) → length list ≤ i → first_len (drop i list) ≡ 0
none_first [] zero past = refl
none_first [] (suc i) past = refl
none_first (first ∷ list) zero past = absurd (omega (arith, past))
none_first (first ∷ list) (suc i) past = none_first list i (omega (arith, past))

pub sum_all : (list : List Desc) (i : ℕ) → length list ≤ i → sum_of (take i list) ≡ sum_of list
sum_all [] zero past = refl
sum_all [] (suc i) past = refl
sum_all (first ∷ list) zero past = absurd (omega (arith, past))
sum_all (first ∷ list) (suc i) past = omega (arith, sum_all list i (omega (arith, past)), sum_taken first list i, sum_first first list)

-- While pieces are passed over of which all was copied, the place is where they begin, if anything is left to be copied.
abbrev pub IsAhead : List Desc → (limit : ℕ) → Cursor → (piece inside : ℕ) → Type 0
IsAhead list limit cursor piece inside = IsPlacedAt list cursor → cursor.done < limit → IsPlacedAt list (record { piece = piece; inside = inside; done = cursor.done })

pub passed : (list : List Desc) (limit : ℕ) (cursor : Cursor) (piece inside : ℕ) (desc : Desc) → IsAhead list limit cursor piece inside → slice_get list piece ≡ Some desc
    → piece < length list → min (min (desc.len - inside) (limit - cursor.done)) 65536 ≡ 0 → IsAhead list limit cursor (piece + 1) 0
passed list limit cursor piece inside desc ahead there less none placed left =
    let at = ahead placed left in
    record {
      one = omega (arith, less);
      done_is = omega (arith, at.done_is, sum_more list piece desc there, at.inside, first_there list piece desc there, none, left);
      inside = omega arith;
    }

-- the part that is found
module _ (list : List Desc) (limit : ℕ) (cursor : Cursor) (piece inside len : ℕ) (desc : Desc) (ahead : IsAhead list limit cursor piece inside)
    (there : slice_get list piece ≡ Some desc) (some : 0 < len) (fits : inside + len ≤ desc.len) (within : cursor.done + len ≤ limit) where
  pub lies_there : IsPlacedAt list cursor → LiesAt list cursor.done (Some (desc.address + inside)) len
  lies_there placed j less =
      let at = ahead placed (omega (arith, some, within)) in
      ap (address_of list) (omega (arith, at.done_is)) ∙ address_there list piece desc (inside + j) there (omega (arith, less, fits)) ∙ ap Some (omega arith)

  pub part_there : IsPlacedAt list cursor → len ≡ min (min (desc.len - inside) (limit - cursor.done)) 65536 → IsPart list limit cursor.done (desc.address + inside) len
  part_there placed long =
      let at = ahead placed (omega (arith, some, within)) in
      record {
        first = ap (address_of list) at.done_is ∙ address_there list piece desc inside there (omega (arith, some, fits));
        some = some;
        long = long ∙ ap (λ (n : ℕ). min (min n (limit - cursor.done)) 65536) (sym (left_there list piece desc inside there (omega (arith, some, fits))) ∙ ap (left_at list) (sym at.done_is));
      }

  pub placed_behind : IsPlacedAt list cursor → IsPlacedAt list (record { piece = piece; inside = inside + len; done = cursor.done + len })
  placed_behind placed =
      let at = ahead placed (omega (arith, some, within)) in
      record {
        one = at.one;
        done_is = omega (arith, at.done_is);
        inside = omega (arith, first_there list piece desc there, fits);
      }

-- nothing is left
pub all_passed : (list : List Desc) (limit : ℕ) (cursor : Cursor) (piece inside : ℕ) → IsAhead list limit cursor piece inside → length list ≤ piece → IsPlacedAt list cursor
    → min limit (sum_of list) ≤ cursor.done
all_passed list limit cursor piece inside ahead past placed = at (nat_lt cursor.done limit) refl
  where
    at : (b : Bool) → nat_lt cursor.done limit ≡ b → min limit (sum_of list) ≤ cursor.done
    at true is =
        let left : cursor.done < limit = grind (arith, nat_tests) in
        let now = ahead placed left in
        omega (arith, now.done_is, now.inside, none_first list piece past, sum_all list piece past)
    at false is = grind (arith, nat_tests)

-- the same where the sum of two numbers is found with a test
pub lies_checked : (list : List Desc) (at base inside inside' len : ℕ) (address : Option ℕ) → inside' ≡ inside → SomeIff address (base + inside' < 2 ^ 64) (base + inside')
    → LiesAt list at (Some (base + inside)) len → LiesAt list at address len
lies_checked list at base inside inside' len None same is lies = tt
lies_checked list at base inside inside' len (Some other) same is lies = subst (λ (m : ℕ). LiesAt list at (Some m) len) (ap (λ (n : ℕ). base + n) (sym same) ∙ sym is.1) lies

pub part_checked : (list : List Desc) (wanted at base inside inside' len : ℕ) (address : Option ℕ) → inside' ≡ inside → SomeIff address (base + inside' < 2 ^ 64) (base + inside')
    → IsPart list wanted at (base + inside) len → IsPartAt list wanted at address len
part_checked list wanted at base inside inside' len None same is part = tt
part_checked list wanted at base inside inside' len (Some other) same is part =
    subst (λ (m : ℕ). IsPart list wanted at m len) (ap (λ (n : ℕ). base + n) (sym same) ∙ sym is.1) part

-- nothing is to be copied of a piece
pub none_found : (a b : ℕ) → a ≡ b → a ≡ 0 → b ≡ 0
none_found a b is none = sym is ∙ none
