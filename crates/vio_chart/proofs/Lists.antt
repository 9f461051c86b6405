-- Items that are drawn one behind the other.
use Rattle.std.proofs.Common.{◌≡◌, ℕ, ◌+◌, ◌<◌, ◌≤◌, List, [], ◌∷◌, ◌++◌, length, take, get_or, refl, sym, ap, subst, ◌∙◌, add-one, append_assoc, append-nil}
use Rattle.std.proofs.Math.Seq.{take-suc}
use Rattle.std.proofs.lemmas.List.{take_all}
use Rattle.vio_chart.specs.Drawn.{Adds, AreDrawn}

-- what stands behind what was added stands behind the whole
pub joined : (before middle after text own : List ℕ) → middle ≡ before ++ text → after ≡ middle ++ own
    → after ≡ before ++ (text ++ own)
joined before middle after text own e f = f ∙ (ap (λ (t : List ℕ). t ++ own) e ∙ append_assoc before text own)

-- one item more at the end
pub drawn_push : {Item : Type 0} → (IsOf : Item → List ℕ → Type 0) (items : List Item) (item : Item) (text own : List ℕ)
    → AreDrawn IsOf items text → IsOf item own → AreDrawn IsOf (items ++ item ∷ []) (text ++ own)
drawn_push IsOf [] item text own e is =
    (own, [], is, refl, subst (λ (t : List ℕ). t ++ own ≡ own ++ []) (sym e) (sym (append-nil own)))
drawn_push IsOf (first ∷ items) item text own (front, rest, is_first, are, e) is = (
  front,
  rest ++ own,
  is_first,
  drawn_push IsOf items item rest own are is,
  ap (λ (t : List ℕ). t ++ own) e ∙ append_assoc front rest own,
)

-- no item yet
pub adds_none : {Item : Type 0} → (IsOf : Item → List ℕ → Type 0) (items : List Item) (text : List ℕ)
    → Adds (AreDrawn IsOf (take 0 items)) text text
adds_none IsOf items text = record { text = []; behind = sym (append-nil text); holds = refl }

-- one item more
pub adds_more : {Item : Type 0} → (IsOf : Item → List ℕ → Type 0) (items : List Item) (at : ℕ) (none : Item)
    (before middle after : List ℕ) → at < length items → Adds (AreDrawn IsOf (take at items)) before middle
    → Adds (IsOf (get_or items at none)) middle after → Adds (AreDrawn IsOf (take (at + 1) items)) before after
adds_more {Item} IsOf items at none before middle after within done own = record {
  text = done.text ++ own.text;
  behind = joined before middle after done.text own.text done.behind own.behind;
  holds = subst (λ (list : List Item). AreDrawn IsOf list (done.text ++ own.text))
      (sym (rw add-one (take-suc items at none within)))
      (drawn_push IsOf (take at items) (get_or items at none) done.text own.text done.holds own.holds);
}

-- one item more, of a list that owns its items
pub adds_item : {Item : Type 0} → (IsOf : Item → List ℕ → Type 0) (items : List Item) (at : ℕ) (item : Item)
    (before middle after : List ℕ) → at < length items → Adds (AreDrawn IsOf (take at items)) before middle
    → item ≡ get_or items at item → Adds (IsOf item) middle after → Adds (AreDrawn IsOf (take (at + 1) items)) before after
adds_item {Item} IsOf items at item before middle after within done is own =
    adds_more IsOf items at item before middle after within done (subst (λ (i : Item). Adds (IsOf i) middle after) is own)

-- all items
pub adds_all : {Item : Type 0} → (IsOf : Item → List ℕ → Type 0) (items : List Item) (at : ℕ) (before after : List ℕ)
    → length items ≤ at → Adds (AreDrawn IsOf (take at items)) before after → Adds (AreDrawn IsOf items) before after
adds_all {Item} IsOf items at before after past done =
    subst (λ (list : List Item). Adds (AreDrawn IsOf list) before after) (take_all at items past) done
