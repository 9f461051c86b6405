-- What a turn does, step by step: steps one behind the other.
use Rattle.std.proofs.Common.{◌≡◌, ◌++◌, List, [], ◌∷◌, refl, subst}
use Rattle.block_server.specs.Doings.{Does, DoesOne, Doing, LeadsOver}

-- nothing was done
pub does_none : (old new : Doing) → new ≡ old → Does old new
does_none old new same = record { over = []; leads = same }

-- one step was made
pub does_one : (old new : Doing) → DoesOne old new → Does old new
does_one old new one = record { over = new ∷ []; leads = (one, refl) }

leads_then : (over more : List Doing) (a b c : Doing) → LeadsOver over a b → LeadsOver more b c → LeadsOver (over ++ more) a c
leads_then [] more a b c first second = subst (λ (x : Doing). LeadsOver more x c) first second
leads_then (next ∷ over) more a b c first second = (first.0, leads_then over more next b c first.1 second)

-- some steps were made, and then others
pub does_then : (a b c : Doing) → Does a b → Does b c → Does a c
does_then a b c first second = record { over = first.over ++ second.over; leads = leads_then first.over second.over a b c first.leads second.leads }
