-- Bytes of a file at a place: one more part of a block read, one more part written.
use Rattle.std.proofs.Common.{◌≡◌, ℕ, ◌+◌, ◌≤◌, List, ◌++◌, Option, None, Some, length, take, drop, sym, ap, ◌∙◌, subst, arith, append_assoc, length-append, length-drop, length-take}
use Rattle.std.proofs.lemmas.List.{drop-drop, drop_at, take_at, length-take-le}
use Rattle.std.proofs.Math.Seq.{take-add}
use Rattle.vio_io.specs.Edge.{ReadsAt, WritesAt, with_bytes}

-- one more part was read: what stood before it is kept, and it is what the file has behind that
pub read-more : (bytes : Option (List ℕ)) (at done n : ℕ) (old new : List ℕ) → done ≤ length old → done + n ≤ length new → take done new ≡ take done old
    → ReadsAt bytes at (take done old) → ReadsAt bytes (at + done) (take n (drop done new)) → ReadsAt bytes at (take (done + n) new)
read-more None at done n old new within room kept before part = tt
read-more (Some all) at done n old new within room kept before part =
    let front : length (take done old) ≡ done = length-take-le done old within in
    let behind : length (take n (drop done new)) ≡ n = omega (arith, length-take n (drop done new), length-drop done new) in
    let whole : length (take (done + n) new) ≡ done + n = length-take-le (done + n) new room in
    let place : drop done (drop at all) ≡ drop (at + done) all = drop-drop done at all in
    take-add done n new
    ∙ ap (λ head. head ++ take n (drop done new)) (kept ∙ before ∙ ap (λ count. take count (drop at all)) front)
    ∙ ap (λ tail. take done (drop at all) ++ tail) (part ∙ ap (λ count. take count (drop (at + done) all)) behind ∙ ap (take n) (sym place))
    ∙ sym (take-add done n (drop at all))
    ∙ ap (λ count. take count (drop at all)) (sym whole)

-- a part written behind a part is one write of both
written_both : (all p q : List ℕ) (at : ℕ) → at ≤ length all → at + length p ≤ length (with_bytes at p all)
    → with_bytes (at + length p) q (with_bytes at p all) ≡ with_bytes at (p ++ q) all
written_both all p q at inside there =
    let front = take at all ++ p in
    let rest = drop (at + length p) all in
    let long : length front ≡ at + length p = omega (arith, length-append (take at all) p, length-take at all) in
    let head : take (at + length p) (front ++ rest) ≡ front = take_at front rest (at + length p) long in
    let both : length (p ++ q) ≡ length p + length q = length-append p q in
    let tail : drop (at + length p + length q) (front ++ rest) ≡ drop (at + length (p ++ q)) all =
    sym (drop-drop (length q) (at + length p) (front ++ rest)) ∙ ap (drop (length q)) (drop_at front rest (at + length p) long)
    ∙ drop-drop (length q) (at + length p) all ∙ ap (λ place. drop place all) (omega (arith, both)) in
    ap (λ first. first ++ q ++ drop (at + length p + length q) (front ++ rest)) head
    ∙ ap (λ last. front ++ q ++ last) tail
    ∙ ap (λ first. first ++ drop (at + length (p ++ q)) all) (append_assoc (take at all) p q)

pub write-more : (before between now : Option (List ℕ)) (at n m : ℕ) (block : List ℕ) → n + m ≤ length block → WritesAt at (take n block) before between
    → WritesAt (at + n) (take m (drop n block)) between now → WritesAt at (take (n + m) block) before now
write-more None between now at n m block room first second = tt
write-more (Some all) between now at n m block room first second = λ inside.
    let p = take n block in
    let q = take m (drop n block) in
    let long : length p ≡ n = length-take-le n block (omega arith) in
    let mid : List ℕ = with_bytes at p all in
    let there : at + n ≤ length mid =
    omega (arith, long, length-append (take at all ++ p) (drop (at + length p) all), length-append (take at all) p, length-take at all) in
    let put = subst (λ (known : Option (List ℕ)). WritesAt (at + n) q known now) (first inside) second there in
    put ∙ ap (λ place. Some (with_bytes place q mid)) (omega (arith, long))
    ∙ ap (λ bytes. Some bytes) (written_both all p q at inside (omega (arith, long, there)) ∙ ap (λ both. with_bytes at both all) (sym (take-add n m block)))
