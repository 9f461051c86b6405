-- Pairs of clients behind a turn of their partition, and how far their current lines came.
use Rattle.std.proofs.Common.{◌≡◌, ◌≢◌, ◌∙◌, ◌⊎◌, inl, inr, ℕ, ◌==◌, cond, Bool, true, false, List, Option, Some, None, IsSomeAnd, length, slice_get, refl, sym, ap, subst, eq-eqb, eqb-true}
use Rattle.boot_text.specs.declared.plan.Line.{Line}
use Rattle.vcpu_run.specs.declared.driver.Driver.{Driver}
use Rattle.vcpu_run.specs.declared.pair.Pair.{Pair}
use Rattle.vcpu_run.specs.declared.script.Progress.{Progress}
use Rattle.vcpu_run.specs.declared.script.Progress.TheVariants as progress
use Rattle.vcpu_run.specs.declared.script.Script.{Script}
use Rattle.vcpu_run.specs.declared.unit_seat.Seat.{Seat}
use Rattle.vcpu_run.specs.declared.unit_seat.Seat.TheVariants as places
use Rattle.vcpu_run.specs.Pairs.{AreDriven, Drives}
use Rattle.vcpu_run.specs.Scripts.{AreSeats}
use Rattle.vcpu_run.specs.ScriptTold.{progress_at}
use Rattle.vcpu_run.proofs.Crediting.{here_or, one_seat}
use Rattle.vcpu_run.proofs.Driving.{no_port, some_is}

-- a pair with a driver, behind the turn of its client's partition
pub record Before (old : List Pair) (k : ℕ) (after : Pair) : Type 0 where
  pub pair : Pair
  pub there : slice_get old k ≡ Some pair
  pub drives : Drives pair after
  pub pages : length after.window.pages ≡ length pair.window.pages
  pub has : IsSomeAnd pair.driver (λ d. Unit {0})

pub before_of : (partition unit k : ℕ) (seats : List Seat) (old new : List Pair) (after : Pair) → AreSeats partition seats old → AreDriven old new
    → slice_get seats unit ≡ Some (places.Client k) → slice_get new k ≡ Some after → Before old k after
before_of partition unit k seats old new after are driven sits there = at (slice_get old k) refl (are unit k sits)
  where
    some : (o : Option Driver) → IsSomeAnd o (λ d. d.unit ≡ record { partition = partition; unit = unit }) → IsSomeAnd o (λ d. Unit {0})
    some None h = absurd h
    some (Some d) h = tt

    drives : (o : Option Pair) (pair : Pair) → o ≡ Some after → IsSomeAnd o (Drives pair) → Drives pair after
    drives None pair is h = absurd h
    drives (Some x) pair is h = subst (Drives pair) (some_is x after is) h

    at : (o : Option Pair) → slice_get old k ≡ o → IsSomeAnd o (λ pair. IsSomeAnd pair.driver (λ d. d.unit ≡ record { partition = partition; unit = unit })) → Before old k after
    at None e h = absurd h
    at (Some pair) e h =
        let is = drives (slice_get new k) pair there (driven.each k pair e) in
        record { pair = pair; there = e; drives = is; pages = is.pages; has = some pair.driver h }

-- two units have two pairs
pub apart_seats : (partition unit other k seat : ℕ) (seats : List Seat) (pairs : List Pair) → AreSeats partition seats pairs → slice_get seats other ≡ Some (places.Client seat)
    → slice_get seats unit ≡ Some (places.Client k) → (other == unit) ≡ false → k ≢ seat
apart_seats partition unit other k seat seats pairs are sits at differ is =
    both (other == unit) differ (ap (λ n. n == unit) (one_seat partition other unit k seats pairs are (sits ∙ ap (λ n. Some (places.Client n)) (sym is)) at) ∙ itself unit)
  where
    itself : (n : ℕ) → (n == n) ≡ true
    itself n = eq-eqb n n refl

    both : (t : Bool) → t ≡ false → t ≡ true → ⊥
    both t x y = cc

-- a pair that is as it was
pub same_pair : (old new : List Pair) (k : ℕ) (after pair : Pair) → slice_get new k ≡ slice_get old k → slice_get new k ≡ Some after → slice_get old k ≡ Some pair → after ≡ pair
same_pair old new k after pair same there here = some_is after pair (sym there ∙ (same ∙ here))

-- what a line's progress is to a unit
pub here_by : (unit : ℕ) (p : Progress) (line : Line) (o : Option Line) → o ≡ Some line → (line.unit == unit) ≡ true → progress_at unit p o ≡ p
here_by unit p line o found is = ap (progress_at unit p) found ∙ ap (λ b. cond b p progress.Fresh) is

pub else_by : (unit : ℕ) (p : Progress) (line : Line) (o : Option Line) → o ≡ Some line → (line.unit == unit) ≡ false → progress_at unit p o ≡ progress.Fresh
else_by unit p line o found is = ap (progress_at unit p) found ∙ ap (λ b. cond b p progress.Fresh) is

pub fresh_at : (unit : ℕ) (o : Option Line) → progress_at unit progress.Fresh o ≡ progress.Fresh
fresh_at unit None = refl
fresh_at unit (Some line) = at (line.unit == unit)
  where
    at : (b : Bool) → cond b progress.Fresh progress.Fresh ≡ progress.Fresh
    at true = refl
    at false = refl

-- the pair of a seat behind a turn
pub after_of : (partition unit k : ℕ) (seats : List Seat) (old new : List Pair) → AreSeats partition seats old → AreDriven old new → slice_get seats unit ≡ Some (places.Client k)
    → (after : Pair) × (slice_get new k ≡ Some after)
after_of partition unit k seats old new are driven sits = at (slice_get old k) refl (are unit k sits)
  where
    some : (o : Option Pair) (pair : Pair) → slice_get new k ≡ o → IsSomeAnd o (Drives pair) → (after : Pair) × (slice_get new k ≡ Some after)
    some None pair e h = absurd h
    some (Some after) pair e h = (after, e)

    at : (o : Option Pair) → slice_get old k ≡ o → IsSomeAnd o (λ pair. IsSomeAnd pair.driver (λ d. d.unit ≡ record { partition = partition; unit = unit }))
        → (after : Pair) × (slice_get new k ≡ Some after)
    at None e h = absurd h
    at (Some pair) e h = some (slice_get new k) pair refl (driven.each k pair e)

-- a client's unit is none at which a port sits
pub not_port : (script : Script) (line : Line) (unit k : ℕ) → slice_get script.seats.items line.unit ≡ Some places.Port → slice_get script.seats.items unit ≡ Some (places.Client k)
    → (line.unit == unit) ≡ false
not_port script line unit k sits at = by (here_or line.unit unit)
  where
    by : ((line.unit == unit) ≡ true) ⊎ ((line.unit == unit) ≡ false) → (line.unit == unit) ≡ false
    by (inl e) = absurd (no_port k (sym at ∙ (ap (λ n. slice_get script.seats.items n) (sym (eqb-true line.unit unit e)) ∙ sits)))
    by (inr e) = e
