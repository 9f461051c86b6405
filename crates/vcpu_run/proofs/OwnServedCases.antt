-- A turn of the server unit at an own client's pair, by what stands between the two: they talk, or the session is over, or it is the first turn.
use Rattle.std.proofs.Common.{◌≡◌, ◌⊎◌, inl, inr, ℕ, Bool, false, true, List, Option}
use Rattle.std.specs.Borrow.{GName}
use Rattle.boot_text.specs.declared.plan.Line.{Line}
use Rattle.crq_session.specs.PlainState.{end_of}
use Rattle.tce_window.specs.PlainPort.{known_of}
use Rattle.block_server.specs.Talk.{Word}
use Rattle.vcpu_run.specs.Credited.{Ended}
use Rattle.vcpu_run.specs.Machines.{server_id}
use Rattle.vcpu_run.specs.OwnDoing.{DoesAt}
use Rattle.vcpu_run.specs.OwnPairs.{IsOverOwn, IsOwnPair, TalksOwn}
use Rattle.vcpu_run.specs.OwnServes.{IsServedOwnPair, ServesOwn}
use Rattle.vcpu_run.specs.PlainPairs.{ServerBooks}
use Rattle.vcpu_run.specs.declared.pair.Pair.{Pair}
use Rattle.vcpu_run.specs.declared.script.Progress.{Progress}
use Rattle.vcpu_run.proofs.OwnServedNew.{served_new}
use Rattle.vcpu_run.proofs.OwnServedOver.{served_over}
use Rattle.vcpu_run.proofs.PlainPaired.{TurnsOn}

-- where the two talk
abbrev pub ServesTalk : (home : ℕ) → (books books' : ServerBooks) → (k : ℕ) → (old new : Pair) → Type 0
ServesTalk home books books' k old new = (granted u : ℕ) (failed : Bool) (told : List Ended) (lines : List Line) (words : List Word) (line : Option Line) (p : Progress)
    → (is : IsOwnPair granted failed told lines home u k books words line p old) → TalksOwn granted told lines home u k books words line p is.unit is.driver old
    → IsServedOwnPair granted told lines home u k books' line p new

-- what a turn leads to there, and in each case
pub serves_own : (home k : ℕ) (books books' : ServerBooks) (a b : List GName) (old new : Pair) → new.driver ≡ old.driver
    → TurnsOn (server_id home k) books books' k (end_of a old.link true) (end_of b new.link true) (known_of old.window) (known_of new.window)
    → DoesAt (server_id home k) books books' k (end_of a old.link true) (end_of b new.link true) (known_of old.window) (known_of new.window) → ServesTalk home books books' k old new
    → ServesOwn home books books' k old new
serves_own home k books books' a b old new same turns does talks granted u told lines line p (inr is) =
    (false, served_new granted told lines home u k (server_id home k) books books' a b line p old new same turns is)
serves_own home k books books' a b old new same turns does talks granted u told lines line p (inl (failed, words, is)) = by is.how
  where
    by : TalksOwn granted told lines home u k books words line p is.unit is.driver old ⊎ IsOverOwn granted failed told home u k books line p is.unit is.driver old
        → IsServedOwnPair granted told lines home u k books' line p new
    by (inl both) = talks granted u failed told lines words line p is both
    by (inr over) =
        (failed, served_over granted failed told lines home u k books books' a b line p is.unit is.driver old new is.there is.id is.driver_is same turns does over is.keeps is.numbers)
