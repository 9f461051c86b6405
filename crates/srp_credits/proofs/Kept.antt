-- What holds of every history: the limit, the grant, and one answer for each request.
use Rattle.std.proofs.Common.{◌≡◌, ℕ, ◌+◌, ◌≤◌, Bool, true, false, cond, List, [], ◌∷◌, length, min, count_by, ◌==◌, refl, ap, ℤ, subst, arith, length-append, pos, ◌+ℤ◌, ◌≤ℤ◌}
use Rattle.std.proofs.lemmas.Int.{ints, clamps}
use Rattle.std.proofs.lemmas.Bool.Decides.{nat_tests}
use Rattle.srp_credits.specs.History.{Event, Login, Sent, Answered, Logout, Lost, is_on, without, outstanding, raised, limit, granted, IsProper, IsWithinLimit, IsWithinGrant, GrantsOneEach, times_sent, times_answered, times_outstanding}
use Rattle.srp_credits.proofs.Lists.{length-without, count-push, count-without, count-absent}

pub record IsKept (es : List Event) : Type 0 where
  pub never_below : pos 0 ≤ℤ limit es
  pub capped : (limit es +ℤ pos (length (outstanding es))) ≤ℤ pos 200

raised_kept : (on : Bool) (before : ℤ) (delta used : ℕ) → pos 0 ≤ℤ before → used ≤ 200
    → (pos 0 ≤ℤ raised on before delta used) × ((raised on before delta used +ℤ pos used) ≤ℤ pos 200)
raised_kept false before delta used h few = (omega (arith, ints), omega (arith, ints, few))
raised_kept true before delta used h few = (omega (arith, ints, clamps, h, few), omega (arith, ints, clamps))

pub kept : (es : List Event) → IsProper es → IsWithinLimit es → IsKept es
kept [] p w = record { never_below = omega (arith, ints); capped = omega (arith, ints) }
kept (Login delta ∷ es) p w = record { never_below = omega (arith, ints); capped = omega (arith, ints) }
kept (Sent tag ∷ es) p w =
    let k = kept es p.0 w.0 in
    record {
      never_below = omega (arith, ints, w.1);
      capped = omega (arith, ints, k.capped, length-append (outstanding es) (tag ∷ []));
    }
kept (Answered tag delta ∷ es) p w =
    let k = kept es p.0 w in
    let few : length (without tag (outstanding es)) ≤ 200 = omega (arith, ints, k.never_below, k.capped, length-without tag (outstanding es) p.1) in
    let r = raised_kept (is_on es) (limit es) delta (length (without tag (outstanding es))) k.never_below few in
    record { never_below = r.0; capped = r.1 }
kept (Logout ∷ es) p w =
    let k = kept es p w in
    record { never_below = omega (arith, ints); capped = omega (arith, ints, k.never_below, k.capped) }
kept (Lost ∷ es) p w = record { never_below = omega (arith, ints); capped = omega (arith, ints) }

pub granted_whole : (es : List Event) → IsProper es → GrantsOneEach es → is_on es ≡ true → limit es +ℤ pos (length (outstanding es)) ≡ pos (min (granted es) 200)
granted_whole [] p g o = cc
granted_whole (Login delta ∷ es) p g o = omega (arith, ints)
granted_whole (Sent tag ∷ es) p g o =
    omega (arith, ints, granted_whole es p.0 g o, length-append (outstanding es) (tag ∷ []))
granted_whole (Answered tag delta ∷ es) p g o =
    let used : ℕ = length (without tag (outstanding es)) in
    let on : raised (is_on es) (limit es) delta used ≡ raised true (limit es) delta used = ap (λ b. raised b (limit es) delta used) o in
    omega (arith, ints, clamps, on, granted_whole es p.0 g.0 o, g.1, length-without tag (outstanding es) p.1)
granted_whole (Logout ∷ es) p g o = cc
granted_whole (Lost ∷ es) p g o = cc

both_ways : (b : Bool) → b ≡ true → b ≡ false → ⊥
both_ways b e f = cc (e, f)

pub no_login : (es : List Event) → IsProper es → is_on es ≡ false → limit es ≡ pos 0
no_login [] p o = refl
no_login (Login delta ∷ es) p o = absurd (both_ways true refl o)
no_login (Sent tag ∷ es) p o = absurd (both_ways (is_on es) p.1 o)
no_login (Answered tag delta ∷ es) p o = ap (λ b. raised b (limit es) delta (length (without tag (outstanding es)))) o
no_login (Logout ∷ es) p o = refl
no_login (Lost ∷ es) p o = refl

pub grant_kept : (n : ℕ) (es : List Event) → IsWithinGrant n es → length (outstanding es) ≤ n
grant_kept n [] w = omega arith
grant_kept n (Login delta ∷ es) w = omega arith
grant_kept n (Sent tag ∷ es) w = omega (arith, w.2, length-append (outstanding es) (tag ∷ []))
grant_kept n (Answered tag delta ∷ es) w =
    omega (arith, grant_kept n es w.0, length-without tag (outstanding es) w.1)
grant_kept n (Logout ∷ es) w = grant_kept n es w
grant_kept n (Lost ∷ es) w = omega arith

pub balance : (es : List Event) (t : ℕ) → IsProper es → times_sent t es ≡ times_answered t es + times_outstanding t es
balance [] t p = refl
balance (Login delta ∷ es) t p = refl
balance (Sent tag ∷ es) t p = omega (arith, balance es t p.0, count-push t (outstanding es) tag)
balance (Answered tag delta ∷ es) t p =
    omega (arith, balance es t p.0, count-without t tag (outstanding es) p.1)
balance (Logout ∷ es) t p = balance es t p
balance (Lost ∷ es) t p = refl

once_sent : (t tag n m : ℕ) → m ≡ n + cond (tag == t) 1 0 → n ≤ 1 → (tag ≡ t → n ≡ 0) → m ≤ 1
once_sent t tag n m e l z = grind (arith, nat_tests)

pub once : (es : List Event) (t : ℕ) → IsProper es → times_outstanding t es ≤ 1
once [] t p = omega arith
once (Login delta ∷ es) t p = omega arith
once (Sent tag ∷ es) t p =
    let same : (tag ≡ t) → count_by (λ x. x == t) (outstanding es) ≡ 0 =
    λ e. subst (λ (u : ℕ). count_by (λ x. x == u) (outstanding es) ≡ 0) e (count-absent tag (outstanding es) p.2)
    in
    once_sent t tag _ _ (count-push t (outstanding es) tag) (once es t p.0) same
once (Answered tag delta ∷ es) t p =
    omega (arith, once es t p.0, count-without t tag (outstanding es) p.1)
once (Logout ∷ es) t p = once es t p
once (Lost ∷ es) t p = omega arith
