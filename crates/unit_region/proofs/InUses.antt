-- That a call on a window's entries is Busy only where something was in use.
use Rattle.std.proofs.Common.{◌≡◌, ◌<◌, ℕ, Bool, List, Option, None, IsSome, Result, Ok, Err, IfOk, sym, ap, subst, ◌∙◌, arith}
use Rattle.std.proofs.lemmas.Bool.Decides.{nat_tests}
use Rattle.vio_num.specs.Counts.{Rose}
use Rattle.vio_num.specs.declared.hypervisor.Hrc.{Hrc}
use Rattle.vio_num.specs.declared.hypervisor.Hrc.TheVariants as codes
use Rattle.vio_num.specs.declared.memory.NoMemory.{NoMemory}
use Rattle.page_slots.specs.Stroke.{StrokeValue}
use Rattle.tce_window.specs.Answers.{IfBusy}
use Rattle.tce_window.specs.Port.{CountsPut}
use Rattle.tce_window.specs.PortState.{FindsInUse, HasAllPages, IsHeldEntry, MeetsPins, OnlyReads, PortState}
use Rattle.tce_window.specs.declared.answers.TceAnswer.{TceAnswer}
use Rattle.tce_window.specs.declared.answers.TceAnswer.TheVariants as tces
use Rattle.unit_region.specs.EntryRows.{tce_code}
use Rattle.unit_region.specs.InUse.{BusyFor, FindsUse}

success_not : codes.Success ≡ codes.Busy → ⊥
success_not e = cc (e)

parameter_not : codes.Parameter ≡ codes.Busy → ⊥
parameter_not e = cc (e)

-- an answer of the window
pub put_busy : (shared : Bool) (old mid new : PortState) (ioba : ℕ) (list : List ℕ) (answer : TceAnswer) (code : Hrc) → mid ≡ old → code ≡ tce_code answer
    → IfBusy answer (MeetsPins shared mid ioba list) → CountsPut answer mid.in_use new.in_use → BusyFor shared old new code
put_busy shared old mid new ioba list tces.Done code same is busy counts e = absurd (success_not (sym is ∙ e))
put_busy shared old mid new ioba list tces.Parameter code same is busy counts e = absurd (parameter_not (sym is ∙ e))
put_busy shared old mid new ioba list (tces.Busy entry pins done) code same is busy counts e = record {
  rose = subst (λ (port : PortState). Rose port.in_use new.in_use) same counts;
  held = λ plain none. no_entry (busy.held plain) (ap (λ (port : PortState). port.held_count) same ∙ none);
}
  where
    no_entry : IsHeldEntry mid entry → mid.held_count ≡ 0 → ⊥
    no_entry held none = omega (arith, held.0, held.1, none)

-- a page of a list
pub found_use : (shared : Bool) (old new : PortState) (at len page : ℕ) → HasAllPages old → FindsInUse shared old at len page → Rose old.in_use new.in_use
    → FindsUse shared old new
found_use shared old new at len page all found rose = record {
  rose = rose;
  held = λ plain none. away (old.strokes page) (found.away plain) (all none page inside);
}
  where
    gone : IsSome {T = List StrokeValue} None → ⊥
    gone h = cc (h)

    away : (o : Option (List StrokeValue)) → o ≡ None → IsSome o → ⊥
    away o e some = gone (subst (λ (x : Option (List StrokeValue)). IsSome x) e some)

    inside : page < old.place.size
    inside = grind (arith, nat_tests, found.inside, found.below)

-- what read nothing in use before what did
pub busy_behind : (shared : Bool) (old mid new : PortState) → OnlyReads shared old mid → FindsUse shared mid new → FindsUse shared old new
busy_behind shared old mid new only finds = record {
  rose = omega (arith, only.in_use, finds.rose);
  held = λ plain none. finds.held plain (only.held_count ∙ none);
}

pub list_busy : (shared : Bool) (old mid new : PortState) (result : Result Hrc NoMemory) → OnlyReads shared old mid → IfOk result (BusyFor shared mid new) → IfOk result (BusyFor shared old new)
list_busy shared old mid new (Ok code) only busy = λ e. busy_behind shared old mid new only (busy e)
list_busy shared old mid new (Err memory) only busy = tt
