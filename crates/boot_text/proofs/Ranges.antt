-- What a line says by itself is within its ranges.
use Rattle.std.proofs.Common.{◌≡◌, ◌≤◌, ℕ, ◌*◌, ◌&&◌, Bool, true, false, List, length, Option, Some, None, IfSome, option_map, option_and_then, Result, Ok, Err, if◌then◌else◌, arith, refl, leb-true, nat_le}
use Rattle.std.specs.Result.{result_ok}
use Rattle.hex.specs.Hex.{decode_of}
use Rattle.hex.specs.declared.error.FromHexError.{FromHexError}
use Rattle.hex.proofs.HexLemmas.{decode_of-ok}
use Rattle.boot_text.specs.Numbers.{number, number_in, if_in, hex}
use Rattle.boot_text.specs.Said.{Said, good, bad, numbered, said_then}
use Rattle.boot_text.specs.Sound.{IsFrom}

-- nothing is asked of a value
abbrev pub Any : {A : Type 0} → A → Type 0
Any a = Unit {0}

-- what is said, if anything is, is so
abbrev pub IfGood : {A : Type 0} → Said A → (A → Type 0) → Type 0
IfGood (good value) P = P value
IfGood (bad cause) P = Unit {0}

pub good_numbered : {A : Type 0} (P : A → Type 0) (o : Option A) → IfSome o P → IfGood (numbered o) P
good_numbered P (Some value) h = h
good_numbered P None h = tt

pub good_then : {A B : Type 0} (P : A → Type 0) (Q : B → Type 0) (f : A → Said B) (x : Said A) → IfGood x P → ((a : A) → P a → IfGood (f a) Q) → IfGood (said_then f x) Q
good_then P Q f (good a) h k = k a h
good_then P Q f (bad cause) h k = tt

pub good_if : {A : Type 0} (P : A → Type 0) (b : Bool) (x y : Said A) → IfGood x P → IfGood y P → IfGood (if b then x else y) P
good_if P true x y h k = h
good_if P false x y h k = k

pub good_any : {A : Type 0} (x : Said A) → IfGood x Any
good_any (good a) = tt
good_any (bad cause) = tt

pub some_then : {A B : Type 0} (P : A → Type 0) (Q : B → Type 0) (f : A → Option B) (o : Option A) → IfSome o P → ((a : A) → P a → IfSome (f a) Q) → IfSome (option_and_then f o) Q
some_then P Q f (Some a) h k = k a h
some_then P Q f None h k = tt

pub some_map : {A B : Type 0} (P : A → Type 0) (Q : B → Type 0) (f : A → B) (o : Option A) → IfSome o P → ((a : A) → P a → Q (f a)) → IfSome (option_map f o) Q
some_map P Q f (Some a) h k = k a h
some_map P Q f None h k = tt

pub some_if : {A : Type 0} (P : A → Type 0) (b : Bool) (x y : Option A) → IfSome x P → IfSome y P → IfSome (if b then x else y) P
some_if P true x y h k = h
some_if P false x y h k = k

-- where the test says what is needed
pub some_where : {A : Type 0} (P : A → Type 0) (b : Bool) (a : A) → (b ≡ true → P a) → IfSome (if b then Some a else None) P
some_where P true a h = h refl
some_where P false a h = tt

pub some_any : {A : Type 0} (o : Option A) → IfSome o Any
some_any (Some a) = tt
some_any None = tt

pub both_true : (a b : Bool) → (a && b) ≡ true → (a ≡ true) × (b ≡ true)
both_true true b h = (refl, h)
both_true false b h = cc

pub in_if : (low high n : ℕ) → IfSome (if_in low high n) (IsFrom low high)
in_if low high n = some_where (IsFrom low high) (nat_le low n && nat_le n high) n (λ h.
    let b = both_true (nat_le low n) (nat_le n high) h in (leb-true low n b.0, leb-true n high b.1))

pub in_range : (least most : ℕ) (word : List ℕ) → IfSome (number_in least most word) (IsFrom least most)
in_range least most word =
    some_then Any (IsFrom least most) (if_in least most) (number word) (some_any (number word)) (λ n h. in_if least most n)

-- bytes in hexadecimal take two digits each
ok_long : (most : ℕ) (word : List ℕ) (r : Result (List ℕ) FromHexError) → decode_of word ≡ r → 1 ≤ length word → length word ≤ 2 * most → IfSome (result_ok r) (λ bytes. IsFrom 1 most (length bytes))
ok_long most word (Ok bytes) e low high =
    let d = decode_of-ok word bytes e in
    (omega (arith, d.2, low), omega (arith, d.2, high))
ok_long most word (Err fault) e low high = tt

pub hex_long : (most : ℕ) (word : List ℕ) → IfSome (hex most word) (λ bytes. IsFrom 1 most (length bytes))
hex_long most word = go (nat_le 1 (length word) && nat_le (length word) (2 * most)) refl
  where
    go : (b : Bool) → (nat_le 1 (length word) && nat_le (length word) (2 * most)) ≡ b → IfSome (if b then result_ok (decode_of word) else None) (λ bytes. IsFrom 1 most (length bytes))
    go true h =
        let both = both_true (nat_le 1 (length word)) (nat_le (length word) (2 * most)) h in
        ok_long most word (decode_of word) refl (leb-true 1 (length word) both.0) (leb-true (length word) (2 * most) both.1)
    go false h = tt
