-- A login of a plain client that a line says was rejected: its server unit laid the rejection in the client's region.
use Rattle.std.specs.Prelude.{◌≡◌, ℕ, List, Option, ⊤}
use Rattle.vio_num.specs.declared.names.UnitId.{UnitId}
use Rattle.page_slots.specs.Stroke.{StrokeValue}
use Rattle.srp_iu.specs.Grammar.{Spells}
use Rattle.srp_iu.specs.declared.login.LoginRej.{LoginRej}
use Rattle.srp_iu.specs.declared.unit.Iu.TheVariants as units
use Rattle.boot_text.specs.declared.verb.Verb.{Verb}
use Rattle.boot_text.specs.declared.verb.Verb.TheVariants as verbs
use Rattle.unit_region.specs.RegionLines.{IsOn}
use Rattle.vio_trace.specs.declared.outcome.Outcome.{Outcome}
use Rattle.vio_trace.specs.declared.outcome.Outcome.TheVariants as outcomes
use Rattle.vcpu_run.specs.Credited.{Ended}

-- A unit of this name laid a stroke on a page that rejects a login for this reason.
pub record HasRejection (who : UnitId) (reason : ℕ) (strokes : ℕ → Option (List StrokeValue)) : Type 0 where
  pub page : ℕ
  pub stroke : StrokeValue
  pub there : IsOn stroke (strokes page)
  pub laid_by : stroke.name.who ≡ who
  pub rejection : LoginRej
  pub spells : Spells stroke.bytes (units.LoginRej rejection)
  pub reason_is : rejection.reason ≡ reason

-- Where an outcome says that a login was rejected, the unit of this name laid the rejection.
abbrev pub IsOfRejection : Outcome → (who : UnitId) → (strokes : ℕ → Option (List StrokeValue)) → Type 0
IsOfRejection (outcomes.Rejected reason) who strokes = HasRejection who reason strokes
IsOfRejection outcome who strokes = ⊤

-- so is it of a line that logs in
abbrev pub TellsRejection : Verb → Outcome → (who : UnitId) → (strokes : ℕ → Option (List StrokeValue)) → Type 0
TellsRejection verbs.Login outcome who strokes = IsOfRejection outcome who strokes
TellsRejection verb outcome who strokes = ⊤

-- and of one that ended
abbrev pub TellsOf : (who : UnitId) → (strokes : ℕ → Option (List StrokeValue)) → Ended → Type 0
TellsOf who strokes e = TellsRejection e.verb e.outcome who strokes
