-- Which lines a unit of a partition does.
use Rattle.std.specs.Prelude.{◌≡◌, Bool, true, false, List, IsSomeAnd}
use Rattle.std.specs.List.{slice_get}
use Rattle.boot_text.specs.SoFar.{is_for_client, is_for_port}
use Rattle.boot_text.specs.Sound.{IsInRange}
use Rattle.boot_text.specs.declared.plan.Line.{Line}
use Rattle.boot_text.specs.declared.verb.Verb.{Verb}
use Rattle.boot_text.specs.declared.verb.Verb.TheVariants as verbs
use Rattle.vcpu_run.specs.declared.unit_seat.Seat.{Seat}
use Rattle.vcpu_run.specs.declared.unit_seat.Seat.TheVariants as sits

-- whether a line makes a raw hypervisor call
abbrev pub is_call : Verb → Bool
is_call (verbs.Hcall number arguments) = true
is_call _ = false

-- a line is one of the unit that sits there
abbrev pub suits : Verb → Seat → Type 0
suits verb (sits.Client pair) = is_for_client verb ≡ true
suits verb sits.Port = is_for_port verb ≡ true
suits verb sits.Server = ⊥

-- A line that one of these units does.
pub record IsLineAt (seats : List Seat) (line : Line) : Type 0 where
  pub suited : IsSomeAnd (slice_get seats line.unit) (suits line.verb)
  pub ranged : IsInRange line.verb
