-- Parts of bytes that end in lists.
use Rattle.std.proofs.Common.{◌≡◌, ℕ, ◌+◌, List, ◌++◌, length, take, drop, subst, append_assoc, length-append, arith, refl}
use Rattle.std.proofs.Math.Seq.{take-append_seam, drop-append_seam}
use Rattle.std.proofs.lemmas.List.{take_all}

-- the list that stands between two others
pub middle_part : (n m : ℕ) (a b d : List ℕ) → length a ≡ n → length b ≡ m → take m (drop n ((a ++ b) ++ d)) ≡ b
middle_part n m a b d e f =
    subst (λ (k : ℕ). take k (drop n ((a ++ b) ++ d)) ≡ b) f
    (subst (λ (k : ℕ). take (length b) (drop k ((a ++ b) ++ d)) ≡ b) e
    (rw append_assoc (rw drop-append_seam (take-append_seam b d))))

-- the list that stands last
pub last_part : (n m : ℕ) (a b : List ℕ) → length a ≡ n → length b ≡ m → take m (drop n (a ++ b)) ≡ b
last_part n m a b e f =
    subst (λ (k : ℕ). take k (drop n (a ++ b)) ≡ b) f
    (subst (λ (k : ℕ). take (length b) (drop k (a ++ b)) ≡ b) e
    (rw drop-append_seam (take_all (length b) b (omega arith))))

-- where the lists of a command stand, of which the first is behind 32 bytes
pub record Places (bytes cdb more out inn : List ℕ) : Type 0 where
  pub cdb_at : take 16 (drop 32 bytes) ≡ cdb
  pub more_at : take (length more) (drop 48 bytes) ≡ more
  pub out_at : drop (48 + length more) bytes ≡ out ++ inn
  pub in_at : drop (48 + length more + length out) bytes ≡ inn
  pub all : length bytes ≡ 48 + length more + length out + length inn

-- what stands behind a list
behind : (n : ℕ) (a b : List ℕ) → length a ≡ n → drop n (a ++ b) ≡ b
behind n a b e = subst (λ (k : ℕ). drop k (a ++ b) ≡ b) e (drop-append_seam a b)

-- the lists of a command stand one behind the other
pub places : (front cdb more out inn : List ℕ) → length front ≡ 32 → length cdb ≡ 16 → Places ((((front ++ cdb) ++ more) ++ out) ++ inn) cdb more out inn
places front cdb more out inn e f =
    let by_cdb : (((front ++ cdb) ++ more) ++ out) ++ inn ≡ (front ++ cdb) ++ ((more ++ out) ++ inn) = simp append_assoc in
    let by_more : (((front ++ cdb) ++ more) ++ out) ++ inn ≡ ((front ++ cdb) ++ more) ++ (out ++ inn) = simp append_assoc in
    let two : length (front ++ cdb) ≡ 48 = omega (arith, length-append {A = ℕ}) in
    let three : length ((front ++ cdb) ++ more) ≡ 48 + length more = omega (arith, length-append {A = ℕ}) in
    let four : length (((front ++ cdb) ++ more) ++ out) ≡ 48 + length more + length out = omega (arith, length-append {A = ℕ}) in
    record {
      cdb_at = rw by_cdb (middle_part 32 16 front cdb ((more ++ out) ++ inn) e f);
      more_at = rw by_more (middle_part 48 (length more) (front ++ cdb) more (out ++ inn) two refl);
      out_at = rw by_more (behind (48 + length more) ((front ++ cdb) ++ more) (out ++ inn) three);
      in_at = behind (48 + length more + length out) (((front ++ cdb) ++ more) ++ out) inn four;
      all = omega (arith, length-append {A = ℕ});
    }
