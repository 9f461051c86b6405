-- What became of a value to be put, by cases.
use Rattle.std.specs.Prelude.{}
use Rattle.entry_slots.specs.declared.word.EntryWord.{EntryWord}
use Rattle.entry_slots.specs.declared.put.Put.{Put}
use Rattle.entry_slots.specs.declared.put.Put.TheVariants.{Done, Refused}

abbrev pub IfDone : Put → Type 0 → Type 0
IfDone Done P = P
IfDone (Refused word) P = Unit {0}

abbrev pub IfRefused : Put → (EntryWord → Type 0) → Type 0
IfRefused Done P = Unit {0}
IfRefused (Refused word) P = P word
