-- What became of an event, by the answer of its put.
use Rattle.std.proofs.Common.{rules, ◌≡◌, ◌⊎◌, inl, inr, ℕ, ◌≤◌, Bool, Option, Some, None, IsSome, IfSome, sym, refl, subst, ◌∙◌, arith}
use Rattle.vio_num.specs.declared.entry.Entry.{Entry}
use Rattle.crq_session.specs.declared.answers.EventAnswer.{EventAnswer}
use Rattle.crq_session.specs.declared.answers.EventAnswer.TheVariants.{Nothing, Put, Kept}
use Rattle.crq_session.specs.Answers.{OnNothing, OnPut, IfKept}
use Rattle.crq_session.specs.Answered.{Puts, Loses, Keeps, FindsFull, StillKept, Settles, LosesKept, PutsNone, Pushes}
use Rattle.crq_session.specs.EndState.{EndState}
use Rattle.crq_session.specs.Side.{IsKeptBy, OnNotKept}

-- the end as it was before it was freed
abbrev pub later : EndState → Bool → ℕ → EndState
later end r n = record end { registered = r; spare = n }

-- a freed queue's event was put, is kept or was lost
pub told : (sh : Bool) (answer : EventAnswer) (event : Entry) (old new : EndState) (r : Bool) (n : ℕ)
    → OnNothing answer (Loses sh (later old r n) new) → OnPut answer (Puts sh (later old r n) event new)
    → IfKept answer (FindsFull sh (later old r n) new) → IsKeptBy answer event new.kept
    → (Puts sh old event new × (new.kept ≡ None)) ⊎ (Keeps sh old event new ⊎ (Loses sh old new × (new.kept ≡ None)))
told sh Nothing event old new r n l p k is = inr (inr (
  record {
    none = record { sent = l.none.sent; drops = l.none.drops };
    meets = record { closed = l.meets.closed; partner = l.meets.partner };
  },
  is,
))
told sh Put event old new r n l p k is = inl (record { sent = p.sent; drops = p.drops; partner = p.partner; free_slot = p.free_slot }, is)
told sh (Kept number held) event old new r n l p k is = inr (inl record {
  number = number;
  held = held;
  full = record {
    number_is = k.number_is;
    lawful = k.lawful;
    sent = k.sent;
    drops = k.drops;
    full = k.full;
    partner = k.partner;
    full_slot = k.full_slot;
  };
  kept = is;
})

some_of : (kept : Option Entry) (event : Entry) → kept ≡ Some event → IsSome kept
some_of kept event e = search (rules, e)

-- an event that is still kept
pub still : (sh : Bool) (answer : EventAnswer) (event : Entry) (old new : EndState) → old.kept ≡ Some event
    → IfKept answer (FindsFull sh old new) → IsKeptBy answer event new.kept
    → IfKept answer (StillKept sh old new)
still sh Nothing event old new e k is = tt
still sh Put event old new e k is = tt
still sh (Kept number held) event old new e k is = record { some = some_of old.kept event e; kept = is ∙ sym e; full = k }

-- an event that is kept no more
pub settled : (sh : Bool) (answer : EventAnswer) (event : Entry) (old new : EndState) (kept : Option Entry) → kept ≡ Some event
    → OnNothing answer (Loses sh old new) → OnPut answer (Puts sh old event new)
    → OnNotKept answer (Settles sh kept old new)
settled sh Nothing event old new kept e l p = subst (λ k. Settles sh k old new) (sym e) (inr l)
settled sh Put event old new kept e l p = subst (λ k. Settles sh k old new) (sym e) (inl p)
settled sh (Kept number held) event old new kept e l p = tt

-- what comes after a settled event leaves it settled
pub settles_on : (sh : Bool) (kept : Option Entry) (old mid new : EndState) → new.sent ≡ mid.sent → new.drops ≡ mid.drops
    → new.counts.partner_session ≡ mid.counts.partner_session → mid.counts.closed ≤ new.counts.closed
    → Settles sh kept old mid → Settles sh kept old new
settles_on sh None old mid new s d q c h = record { sent = s ∙ h.sent; drops = d ∙ h.drops }
settles_on sh (Some event) old mid new s d q c (inl p) = inl record {
  sent = rw (s, q) p.sent;
  drops = d ∙ p.drops;
  partner = p.partner;
  free_slot = rw q p.free_slot;
}
settles_on sh (Some event) old mid new s d q c (inr l) = inr record {
  none = record { sent = s ∙ l.none.sent; drops = d ∙ l.none.drops };
  meets = record { closed = omega (arith, c, l.meets.closed); partner = l.meets.partner };
}

pub not_kept : (answer : EventAnswer) (P : Type 0) → ((number held : ℕ) → answer ≡ Kept number held → ⊥) → OnNotKept answer P → P
not_kept Nothing P never p = p
not_kept Put P never p = p
not_kept (Kept number held) P never p = absurd (never number held refl)

-- an event that is not put and not kept was lost
pub lost : (sh : Bool) (answer : EventAnswer) (event : Entry) (old new : EndState) → old.kept ≡ Some event → OnNothing answer (Loses sh old new) → IsKeptBy answer event new.kept
    → OnNothing answer (PutsNone sh old new)
lost sh Nothing event old new e l is = record { kept = is; loses = subst (λ k. LosesKept sh k old new) (sym e) l }
lost sh Put event old new e l is = tt
lost sh (Kept number held) event old new e l is = tt

-- one that is put was kept before
pub pushed : (sh : Bool) (answer : EventAnswer) (event : Entry) (old new : EndState) → old.kept ≡ Some event → OnPut answer (Puts sh old event new) → IsKeptBy answer event new.kept
    → OnPut answer (Pushes sh old new)
pushed sh Nothing event old new e p is = tt
pushed sh Put event old new e p is = record { some = some_of old.kept event e; kept = is; puts = subst (λ k. IfSome k (λ event. Puts sh old event new)) (sym e) p }
pushed sh (Kept number held) event old new e p is = tt

pub none_kept : (answer : EventAnswer) (event : Entry) (kept : Option Entry) → IsKeptBy answer event kept → OnNotKept answer (kept ≡ None)
none_kept Nothing event kept is = is
none_kept Put event kept is = is
none_kept (Kept number held) event kept is = tt
