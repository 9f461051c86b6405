-- What is said of one answer of a queue.
use Rattle.std.specs.Prelude.{ℕ}
use Rattle.vio_num.specs.declared.entry.Entry.{Entry}
use Rattle.crq_ring.specs.declared.laws.Enter.{Enter}
use Rattle.crq_ring.specs.declared.laws.Enter.TheVariants.{Inside, Closed}
use Rattle.crq_ring.specs.declared.port.Put.{Put}
use Rattle.crq_ring.specs.declared.port.Put.TheVariants.{Done, Dropped}
use Rattle.crq_ring.specs.declared.port.Poll.{Poll}
use Rattle.crq_ring.specs.declared.port.Poll.TheVariants.{Got, Empty}

-- where the entry was put: P of its number
abbrev pub IfDone : Put → (ℕ → Type 0) → Type 0
IfDone (Done number) P = P number
IfDone (Dropped number held) P = Unit {0}

-- where it found its slot full: P of its number and of what lay there
abbrev pub IfDropped : Put → (ℕ → ℕ → Type 0) → Type 0
IfDropped (Done number) P = Unit {0}
IfDropped (Dropped number held) P = P number held

-- where an entry was taken: P of its number and of the entry
abbrev pub IfGot : Poll → (ℕ → Entry → Type 0) → Type 0
IfGot (Got number entry) P = P number entry
IfGot (Empty number) P = Unit {0}

-- where nothing was found: P of the number of the next entry
abbrev pub IfEmpty : Poll → (ℕ → Type 0) → Type 0
IfEmpty (Got number entry) P = Unit {0}
IfEmpty (Empty number) P = P number

-- where a sender is inside: P; where it was turned back: P of the control word
abbrev pub OnInside : Enter → Type 0 → Type 0
OnInside Inside P = P
OnInside (Closed control) P = Unit {0}

abbrev pub IfTurnedBack : Enter → (ℕ → Type 0) → Type 0
IfTurnedBack Inside P = Unit {0}
IfTurnedBack (Closed control) P = P control
