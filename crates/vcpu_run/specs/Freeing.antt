-- Which lines free a client's queue, and which clients they spare.
use Rattle.std.specs.Prelude.{◌≡◌, ℕ, ◌==◌, ◌&&◌, ◌||◌, Bool, true, false, All, List, Some, slice_get}
use Rattle.boot_text.specs.declared.plan.Line.{Line}
use Rattle.boot_text.specs.declared.verb.Verb.{Verb}
use Rattle.boot_text.specs.declared.verb.Verb.TheVariants as verbs
use Rattle.vcpu_run.specs.declared.unit_seat.Seat.{Seat}
use Rattle.vcpu_run.specs.declared.unit_seat.Seat.TheVariants as sits
use Rattle.vcpu_run.specs.Suited.{is_call}
use Rattle.vcpu_run.specs.Works.{fails}

-- whether a line frees its own unit's queue, before it logs in anew
abbrev pub is_reset : Verb → Bool
is_reset verbs.Reset = true
is_reset _ = false

-- whether a line may free this unit's queue: it makes a raw hypervisor call, fails the partition, or resets the unit
abbrev pub frees : (unit : ℕ) → Line → Bool
frees unit line = (is_call line.verb || fails line.verb) || (is_reset line.verb && (line.unit == unit))

-- whether a line may leave a queue free for good: it makes a raw hypervisor call, or fails the partition
abbrev pub breaks : Verb → Bool
breaks verb = is_call verb || fails verb

-- none of these lines does
abbrev pub NoneBreaks : List Line → Type 0
NoneBreaks lines = All (λ line. breaks line.verb ≡ false) lines

-- P is so of the unit of each client of these seats that sits at the pair
abbrev pub SitsWhere : List Seat → (P : ℕ → Type 0) → (k : ℕ) → Type 0
SitsWhere seats P k = (unit : ℕ) → slice_get seats unit ≡ Some (sits.Client k) → P unit

-- none sits there
abbrev pub NoneSits : List Seat → (k : ℕ) → Type 0
NoneSits seats = SitsWhere seats (λ unit. ⊥)

-- this line does not free the queue of the client that sits there
abbrev pub IsSpared : List Seat → Line → (k : ℕ) → Type 0
IsSpared seats line = SitsWhere seats (λ unit. frees unit line ≡ false)
