-- What the owner's reads and writes leave, by their answers, as a port through any borrows.
use Rattle.std.proofs.Common.{◌≡◌, ◌↔◌, ℕ, Bool, true, false, true≢false, List, Option, Some, None, Result, Ok, Err, IsTrue, length, refl, sym, ap, ◌∙◌, subst, arith}
use Rattle.std.specs.Prelude.{IfErr, OnOk, OnErr, IsErrOf}
use Rattle.std.specs.Borrow.{GName}
use Rattle.page_slots.specs.Stroke.{StrokeValue}
use Rattle.page_slots.specs.declared.stroke.StrokeName.{StrokeName}
use Rattle.tce_window.specs.declared.answers.NamedFault.{NamedFault}
use Rattle.tce_window.specs.declared.answers.NamedFault.TheVariants.{Range as NamedRange, InUse as NamedInUse, Stale}
use Rattle.tce_window.specs.declared.answers.OwnFault.{OwnFault}
use Rattle.tce_window.specs.declared.answers.OwnFault.TheVariants.{Range, InUse, NoMemory}
use Rattle.tce_window.specs.Answers.{IfInUse, IfNamedInUse, IfStale}
use Rattle.tce_window.specs.Port.{Grows}
use Rattle.tce_window.specs.PortState.{PortState, Reads, Writes, FindsInUse, FindsStale, AreInPlace, LaysNone, OnlyReads, OnlyWrites}
use Rattle.tce_window.specs.Region.{in_region}
use Rattle.shared_window.specs.Reading.{ReadsOwn, RefusesRead, RefusesNamed}
use Rattle.shared_window.specs.Writing.{WritesOwn, RefusesWrite}
use Rattle.shared_window.specs.SharedWindow.{SharedWindowValue, WindowSeatValue, port_of}
use Rattle.shared_window.proofs.Taking.{begins_self}

-- whether an answer is that the range is outside
abbrev is_range : {T : Type 0} → Result T OwnFault → Bool
is_range (Err Range) = true
is_range _ = false

abbrev is_named_range : {T : Type 0} → Result T NamedFault → Bool
is_named_range (Err NamedRange) = true
is_named_range _ = false

-- an answer that is not, with a range that is inside
not_outside : {T : Type 0} (r : Result T OwnFault) (inside : Bool) → is_range r ≡ false → IsTrue inside → IsErrOf r Range ↔ (inside ≡ false)
not_outside r inside other e = (λ is. absurd (true≢false (sym (ap is_range is) ∙ other)), λ no. absurd (true≢false (sym e ∙ no)))

not_named_outside : {T : Type 0} (r : Result T NamedFault) (inside : Bool) → is_named_range r ≡ false → IsTrue inside → IsErrOf r NamedRange ↔ (inside ≡ false)
not_named_outside r inside other e = (λ is. absurd (true≢false (sym (ap is_named_range is) ∙ other)), λ no. absurd (true≢false (sym e ∙ no)))

grows_same : (strokes : Option (List StrokeValue)) → Grows true strokes strokes
grows_same (Some strokes) = begins_self strokes
grows_same None = tt

-- what did nothing only reads
reads_none : (port : PortState) → OnlyReads true port port
reads_none port = record {
  place = refl;
  strokes = λ p. grows_same (port.strokes p);
  values = refl;
  held_from = refl;
  held_count = refl;
  taken = refl;
  laid = refl;
  in_use = omega arith;
}

-- what only read laid no stroke
lays_none : (old new : PortState) → OnlyReads true old new → LaysNone true old new
lays_none old new only = record { strokes = only.strokes; laid = λ _ p. ap (λ laid. laid p) only.laid }

-- and wrote nothing
writes_none : (old new : PortState) → OnlyReads true old new → OnlyWrites old new
writes_none old new only = record {
  place = only.place;
  values = only.values;
  held_from = only.held_from;
  held_count = only.held_count;
  taken = only.taken;
  in_use = only.in_use;
}

module _ (w : SharedWindowValue) (old new : WindowSeatValue) (at len : ℕ) (ls : List GName) where
  outside_only : new ≡ old → OnlyReads true (port_of ls w old) (port_of ls w new)
  outside_only same = subst (λ (s : WindowSeatValue). OnlyReads true (port_of ls w old) (port_of ls w s)) (sym same) (reads_none (port_of ls w old))

  module _ (out : List ℕ) {T : Type 0} where
    pub read_ok : {E : Type 0} (r : Result T E) → OnOk r (ReadsOwn w old at out new) → OnOk r (Reads (port_of ls w new) at out)
    read_ok (Ok x) h = h.reads ls
    read_ok (Err fault) h = tt

    pub read_range : (r : Result T OwnFault) → length out ≡ len → OnOk r (ReadsOwn w old at out new) → IfErr r (RefusesRead w old at len new)
        → IsErrOf r Range ↔ (in_region w.pages.count at len ≡ false)
    read_range (Ok x) size ok err = not_outside (Ok x) (in_region w.pages.count at len) refl (subst (λ n. IsTrue (in_region w.pages.count at n)) size (ok.reads ls).inside)
    read_range (Err Range) size ok err = (λ e. err.outside, λ e. refl)
    read_range (Err (InUse page word)) size ok err = not_outside (Err (InUse page word)) (in_region w.pages.count at len) refl (err.finds ls).inside
    read_range (Err NoMemory) size ok err = absurd err

    pub read_rest : (r : Result T OwnFault) → OnOk r (ReadsOwn w old at out new) → IfErr r (RefusesRead w old at len new) → OnlyReads true (port_of ls w old) (port_of ls w new)
    read_rest (Ok x) ok err = ok.only ls
    read_rest (Err Range) ok err = outside_only err.same
    read_rest (Err (InUse page word)) ok err = err.only ls
    read_rest (Err NoMemory) ok err = absurd err

  pub read_in_use : {T : Type 0} (r : Result T OwnFault) → IfErr r (RefusesRead w old at len new) → IfInUse r (λ page _. FindsInUse true (port_of ls w old) at len page)
  read_in_use (Ok x) err = tt
  read_in_use (Err Range) err = tt
  read_in_use (Err (InUse page word)) err = err.finds ls
  read_in_use (Err NoMemory) err = tt

  module _ (bytes : List ℕ) (mark : ℕ) {T : Type 0} where
    pub write_ok : (r : Result T OwnFault) → OnOk r (WritesOwn w old at bytes mark new) → OnOk r (Writes true (port_of ls w old) at bytes mark (port_of ls w new))
    write_ok (Ok x) h = h.writes ls
    write_ok (Err fault) h = tt

    pub write_range : (r : Result T OwnFault) → length bytes ≡ len → OnOk r (WritesOwn w old at bytes mark new) → IfErr r (RefusesWrite w old at len new)
        → IsErrOf r Range ↔ (in_region w.pages.count at len ≡ false)
    write_range (Ok x) size ok err = not_outside (Ok x) (in_region w.pages.count at len) refl (subst (λ n. IsTrue (in_region w.pages.count at n)) size (ok.writes ls).inside)
    write_range (Err Range) size ok err = (λ e. err.outside, λ e. refl)
    write_range (Err (InUse page word)) size ok err = not_outside (Err (InUse page word)) (in_region w.pages.count at len) refl (err.finds ls).inside
    write_range (Err NoMemory) size ok err = not_outside (Err NoMemory) (in_region w.pages.count at len) refl err.inside

    pub write_rest : (r : Result T OwnFault) → OnOk r (WritesOwn w old at bytes mark new) → IfErr r (RefusesWrite w old at len new) → OnlyWrites (port_of ls w old) (port_of ls w new)
    write_rest (Ok x) ok err = ok.only ls
    write_rest (Err Range) ok err = writes_none (port_of ls w old) (port_of ls w new) (outside_only err.same)
    write_rest (Err (InUse page word)) ok err = writes_none (port_of ls w old) (port_of ls w new) (err.only ls)
    write_rest (Err NoMemory) ok err = writes_none (port_of ls w old) (port_of ls w new) (err.only ls)

  pub write_in_use : {T : Type 0} (r : Result T OwnFault) → IfErr r (RefusesWrite w old at len new) → IfInUse r (λ page _. FindsInUse true (port_of ls w old) at len page)
  write_in_use (Ok x) err = tt
  write_in_use (Err Range) err = tt
  write_in_use (Err (InUse page word)) err = err.finds ls
  write_in_use (Err NoMemory) err = tt

  pub write_memory : {T : Type 0} (r : Result T OwnFault) → IfErr r (RefusesWrite w old at len new) → IsErrOf r NoMemory → IsTrue (in_region w.pages.count at len) × AreInPlace (port_of ls w new) at len
  write_memory r err is = let e = subst (λ (r : Result _ OwnFault). IfErr r (RefusesWrite w old at len new)) is err in (e.inside, e.there ls)

  pub write_none : {T : Type 0} (r : Result T OwnFault) → IfErr r (RefusesWrite w old at len new) → OnErr r (LaysNone true (port_of ls w old) (port_of ls w new))
  write_none (Ok x) err = tt
  write_none (Err Range) err = lays_none (port_of ls w old) (port_of ls w new) (outside_only err.same)
  write_none (Err (InUse page word)) err = lays_none (port_of ls w old) (port_of ls w new) (err.only ls)
  write_none (Err NoMemory) err = lays_none (port_of ls w old) (port_of ls w new) (err.only ls)

  module _ (name : StrokeName) (out : List ℕ) {T : Type 0} where
    pub named_range : (r : Result T NamedFault) → length out ≡ len → OnOk r (ReadsOwn w old at out new) → IfErr r (RefusesNamed w old name at len new)
        → IsErrOf r NamedRange ↔ (in_region w.pages.count at len ≡ false)
    named_range (Ok x) size ok err = not_named_outside (Ok x) (in_region w.pages.count at len) refl (subst (λ n. IsTrue (in_region w.pages.count at n)) size (ok.reads ls).inside)
    named_range (Err NamedRange) size ok err = (λ e. err.outside, λ e. refl)
    named_range (Err (NamedInUse page word)) size ok err = not_named_outside (Err (NamedInUse page word)) (in_region w.pages.count at len) refl (err.finds ls).inside
    named_range (Err (Stale page found)) size ok err = not_named_outside (Err (Stale page found)) (in_region w.pages.count at len) refl (err.stale ls).inside

    pub named_rest : (r : Result T NamedFault) → OnOk r (ReadsOwn w old at out new) → IfErr r (RefusesNamed w old name at len new) → OnlyReads true (port_of ls w old) (port_of ls w new)
    named_rest (Ok x) ok err = ok.only ls
    named_rest (Err NamedRange) ok err = outside_only err.same
    named_rest (Err (NamedInUse page word)) ok err = err.only ls
    named_rest (Err (Stale page found)) ok err = err.only ls

  module _ (name : StrokeName) {T : Type 0} where
    pub named_in_use : (r : Result T NamedFault) → IfErr r (RefusesNamed w old name at len new) → IfNamedInUse r (λ page _. FindsInUse true (port_of ls w old) at len page)
    named_in_use (Ok x) err = tt
    named_in_use (Err NamedRange) err = tt
    named_in_use (Err (NamedInUse page word)) err = err.finds ls
    named_in_use (Err (Stale page found)) err = tt

    pub named_stale : (r : Result T NamedFault) → IfErr r (RefusesNamed w old name at len new) → IfStale r (FindsStale name (port_of ls w new) at len)
    named_stale (Ok x) err = tt
    named_stale (Err NamedRange) err = tt
    named_stale (Err (NamedInUse page word)) err = tt
    named_stale (Err (Stale page found)) err = err.stale ls
