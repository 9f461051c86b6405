-- What the parts of a turn of a login do.
use Rattle.std.specs.Prelude.{◌≡◌, ℕ, ◌<◌, ◌≤◌, Bool, true, false, not, List, [], ◌∷◌, Option, Some, None, Result, length, ⊤, if◌then◌else◌}
use Rattle.vio_num.specs.declared.memory.NoMemory.{NoMemory}
use Rattle.crq_session.specs.declared.answers.SendAnswer.{SendAnswer}
use Rattle.crq_session.specs.EndState.{EndState}
use Rattle.tce_window.specs.PortState.{PortState}
use Rattle.vscsi_client.specs.declared.found.Found.{Found}
use Rattle.vscsi_client.specs.declared.found.Found.TheVariants.{Granted, Rejected, Lost, InUse}
use Rattle.vscsi_client.specs.declared.answers.LoginTurn.{LoginTurn}
use Rattle.vscsi_client.specs.declared.answers.LoginTurn.TheVariants as turns
use Rattle.vscsi_client.specs.declared.login_put.Wrote.{Wrote}
use Rattle.vscsi_client.specs.declared.login_put.Wrote.TheVariants as wrotes
use Rattle.vscsi_client.specs.declared.stage.Stage.{Stage}
use Rattle.vscsi_client.specs.declared.stage.Stage.TheVariants.{Idle}
use Rattle.vscsi_client.specs.declared.stage.Due.{Due}
use Rattle.vscsi_client.specs.declared.stage.Due.TheVariants as dues
use Rattle.vscsi_client.specs.declared.turning.Next.{Next}
use Rattle.vscsi_client.specs.declared.turning.Next.TheVariants.{GoOn, Pause, End}
use Rattle.vscsi_client.specs.State.{ClientState}
use Rattle.vscsi_client.specs.Turned.{Site, LoginStep, Took, TookNone, Looked, Runs, NoneEnds, times_taken, IsSpent, IsLooked, IsHeldUp, Ends, Did, begins, login_due, is_idle, WritesLogin, WritesNone, TakesNext, PollsNone, Puts, is_dropped, is_found_used, part_after, FollowOn}

-- what a turn does once it found this
abbrev pub next_after : Found → Next
next_after (Granted credits) = End (turns.Granted credits)
next_after (Rejected reason) = End (turns.Rejected reason)
next_after Lost = End turns.Lost
next_after (InUse page word) = Pause
next_after _ = GoOn

-- whether an entry was taken, and what that left
abbrev pub TookAs : (shared : Bool) → ClientState → ClientState → EndState → EndState → Bool → Type 0
TookAs shared s s' old new true = TakesNext shared s s' old new
TookAs shared s s' old new false = PollsNone shared s s' old new

-- one entry was taken and looked at, or none was there
abbrev pub TookOne : Option Found → List LoginStep → Type 0
TookOne None steps = steps ≡ TookNone ∷ []
TookOne (Some found) steps = steps ≡ Looked found ∷ Took ∷ []

-- these steps are of the parts of a turn from one to another, in their order
pub record InParts (first last : ℕ) (steps : List LoginStep) : Type 0 where
  pub order : FollowOn first steps
  pub most : part_after first steps ≤ last

-- these steps of one part went from one site to another, took so many entries, and did not end the turn
pub record Went (line part : ℕ) (a b : Site) (taken : ℕ) : Type 0 where
  pub steps : List LoginStep
  pub runs : Runs line steps a b
  pub going : NoneEnds steps
  pub times : times_taken steps ≡ taken
  pub order : InParts part part steps

-- nothing more is to be taken, or the turn has ended
abbrev pub TookAll : (slots : ℕ) → Site → Next → List LoginStep → Type 0
TookAll slots b Pause steps = NoneEnds steps × IsSpent slots steps × (times_taken steps ≤ slots) × IsLooked b.client.held steps × InParts 1 2 steps
TookAll slots b (End turn) steps = (times_taken steps ≤ slots) × Ends slots b turn steps × InParts 1 2 steps
TookAll slots b GoOn steps = ⊥

-- what a turn did once its queue was registered
abbrev pub TurnedOn : (line : ℕ) → Site → Site → Result LoginTurn NoMemory → Type 0
TurnedOn line a b = Did line a b (λ turn steps. (times_taken steps ≤ a.at.crq.place.own_slots)
    × Ends a.at.crq.place.own_slots b turn steps × FollowOn 1 steps)

-- a login is due where it is to be
abbrev pub begun : ClientState → ClientState
begun s = if begins s then login_due s else s

-- the login's unit was written, or met a page in use
abbrev pub WritesAs : (shared : Bool) → (line : ℕ) → ClientState → ClientState → PortState → PortState → Wrote → Type 0
WritesAs shared line s s' old new wrotes.Written = WritesLogin shared line s s' old new
WritesAs shared line s s' old new (wrotes.InUse page word) = WritesNone shared s s' old new page

-- whether the unit of what is due is still to be written
abbrev pub is_unwritten : Due → Stage → Bool
is_unwritten dues.Login stage = is_idle stage
is_unwritten _ stage = false

-- it is written
abbrev pub IsWritten : Due → Stage → Type 0
IsWritten dues.Login Idle = ⊥
IsWritten due stage = ⊤

-- all that is due was put, or the first of it is held up
abbrev pub PutAll : ClientState → List LoginStep → Type 0
PutAll s steps = NoneEnds steps × (times_taken steps ≡ 0) × (begins s ≡ false) × IsHeldUp s.due steps × InParts 2 3 steps

-- what is due first was put, or is held up
abbrev pub PutOne : ClientState → ClientState → Bool → List LoginStep → Type 0
PutOne s s' true steps = NoneEnds steps × (times_taken steps ≡ 0) × (begins s' ≡ false) × (length s'.due < length s.due) × InParts 2 2 steps
PutOne s s' false steps = PutAll s' steps

-- the entry of what is due first was sent, and it is due no more or was dropped
abbrev pub PutsAs : (shared : Bool) → ClientState → ClientState → EndState → EndState → Due → Bool → Type 0
PutsAs shared s s' old new due put = (answer : SendAnswer) × Puts shared s s' old new due answer × (put ≡ not (is_dropped answer))

-- where an entry was found of use or of none, none is held any more
abbrev pub HoldsNoMore : ClientState → Option Found → Type 0
HoldsNoMore s None = ⊤
HoldsNoMore s (Some found) = is_found_used found ≡ false → s.held ≡ None
