-- The credits of a client over its calls, as the history of its logins (SRP, "Flow control").
use Rattle.std.specs.Prelude.{◌≡◌, ℕ, ◌≤◌, true, false, List, [], ◌∷◌, Option, MatchOption, length, min}
use Rattle.crq_session.specs.declared.answers.RegAnswer.TheVariants as reg
use Rattle.srp_credits.specs.History.{Event, Login, Answered, Lost, is_on, outstanding, granted}
use Rattle.vscsi_client.specs.declared.answers.Taken.{Taken}
use Rattle.vscsi_client.specs.declared.answers.Taken.TheVariants as taken
use Rattle.vscsi_client.specs.declared.found.Found.TheVariants as found
use Rattle.vscsi_client.specs.State.{ClientState, tags_of}
use Rattle.vscsi_client.specs.Turned.{LoginStep, Registered, Looked}

-- what is granted while a login is on, of which 200 count; None while none is on
abbrev pub IsGranted : List Event → Option ℕ → Type 0
IsGranted es g = MatchOption g (is_on es ≡ false) (λ n. (is_on es ≡ true) × (n ≡ min (granted es) 200))

-- The client lived this history: its tags are those that were sent and not answered, and they are never more than
-- were granted.
pub record Lives (es : List Event) (s : ClientState) : Type 0 where
  pub login : IsGranted es s.granted
  pub tags : tags_of s.outgoing ≡ outstanding es
  pub within : length (outstanding es) ≤ min (granted es) 200

-- what taking an entry adds to the history: each answer gives one credit back
abbrev pub taken_events : Taken → List Event → List Event
taken_events (taken.Answer tag response) es = Answered tag 1 ∷ es
taken_events taken.Lost es = Lost ∷ es
taken_events _ es = es

-- what a step of a turn adds to it
abbrev pub step_events : LoginStep → List Event → List Event
step_events (Registered reg.Resource) es = es
step_events (Registered reg.Parameter) es = es
step_events (Registered answer) es = Lost ∷ es
step_events (Looked (found.Granted credits)) es = Login credits ∷ es
step_events (Looked found.Lost) es = Lost ∷ es
step_events _ es = es

-- what a turn adds to it, whose steps stand the latest first
abbrev pub turn_events : List LoginStep → List Event → List Event
turn_events [] es = es
turn_events (step ∷ steps) es = step_events step (turn_events steps es)
