-- What the turns of a round leave of own clients: those of the server units, and those of the scripts.
use Rattle.std.specs.Prelude.{ℕ, Bool, IsSomeAnd, List, [], Option, slice_get}
use Rattle.boot_text.specs.declared.plan.Line.{Line}
use Rattle.vcpu_run.specs.Credited.{Ended}
use Rattle.vcpu_run.specs.OwnPairs.{IsOwnPair, IsReadyOwnPair}
use Rattle.vcpu_run.specs.OwnRuns.{IsOwnSeat, IsReadyOwnAt, IsServedOwnAt}
use Rattle.vcpu_run.specs.PlainPairs.{ServerBooks}
use Rattle.vcpu_run.specs.PlainScripts.{NoneAwaits}
use Rattle.vcpu_run.specs.declared.pair.Pair.{Pair}
use Rattle.vcpu_run.specs.declared.script.Progress.{Progress}
use Rattle.vcpu_run.specs.declared.script.Script.{Script}

-- an own client's pair behind its server unit's turn: nothing is to come
abbrev pub IsServedOwnPair : (granted : ℕ) (told : List Ended) (lines : List Line) (home u k : ℕ) → ServerBooks → Option Line → Progress → Pair → Type 0
IsServedOwnPair granted told lines home u k books line p pair = (failed : Bool) × IsOwnPair granted failed told lines home u k books [] line p pair

-- A turn of server unit k leads its pair there from before it, whatever the client's lines told, and wherever its current line is.
abbrev pub ServesOwn : (home : ℕ) → (books books' : ServerBooks) → (k : ℕ) → (old new : Pair) → Type 0
ServesOwn home books books' k old new = (granted u : ℕ) (told : List Ended) (lines : List Line) (line : Option Line) (p : Progress) → IsReadyOwnPair granted told lines home u k books line p old
    → IsServedOwnPair granted told lines home u k books' line p new

-- the same of pair k of these
abbrev pub IsReadyOwnIn : (granted : ℕ) (told : List Ended) (lines : List Line) (home u k : ℕ) → ServerBooks → Option Line → Progress → List Pair → Type 0
IsReadyOwnIn granted told lines home u k books line p pairs = IsSomeAnd (slice_get pairs k) (IsReadyOwnPair granted told lines home u k books line p)

abbrev pub IsServedOwnIn : (granted : ℕ) (told : List Ended) (lines : List Line) (home u k : ℕ) → ServerBooks → Option Line → Progress → List Pair → Type 0
IsServedOwnIn granted told lines home u k books line p pairs = IsSomeAnd (slice_get pairs k) (IsServedOwnPair granted told lines home u k books line p)

abbrev pub ServesOwnAt : (home : ℕ) → (books books' : ServerBooks) → (old new : List Pair) → (k : ℕ) → Type 0
ServesOwnAt home books books' old new k = (granted u : ℕ) (told : List Ended) (lines : List Line) (line : Option Line) (p : Progress) → IsReadyOwnIn granted told lines home u k books line p old
    → IsServedOwnIn granted told lines home u k books' line p new

-- A turn of a script leads each of its own clients from behind its server unit's turn to before the next.
abbrev pub TurnsOwn : (old new : List Pair) → (script script' : Script) → Type 0
TurnsOwn old new script script' = (granted home u k : ℕ) (books : ServerBooks) → IsOwnSeat script u k → IsServedOwnAt granted home u k books script old
    → IsReadyOwnAt granted home u k books script' new

-- The end of a line that waits, which is none of unit u's, leaves the unit's client where it was.
abbrev pub EndsOwn : (pairs : List Pair) → (script script' : Script) → Type 0
EndsOwn pairs script script' = (granted home u k : ℕ) (books : ServerBooks) → NoneAwaits u script → IsReadyOwnAt granted home u k books script pairs
    → IsReadyOwnAt granted home u k books script' pairs
