-- A line that is written word by word behind a text.
use Rattle.std.proofs.Common.{◌≡◌, ℕ, List, [], ◌∷◌, ◌++◌, codes, sym, ◌∙◌, ap, subst, append_assoc, Result, OnOk}
use Rattle.vio_trace.specs.Text.{line, with_words}

pub line_onto : (text word : List ℕ) (words : List (List ℕ))
    → with_words (text ++ word) words ++ codes "\n" ≡ text ++ line (word ∷ words)
line_onto text word [] = append_assoc text word (codes "\n")
line_onto text word (next ∷ words) =
    line_onto (text ++ word ++ codes " ") next words
    ∙ append_assoc (text ++ word) (codes " ") (line (next ∷ words))
    ∙ append_assoc text word (codes " " ++ line (next ∷ words))
    ∙ ap (λ rest. text ++ rest) (sym (append_assoc word (codes " ") (line (next ∷ words))))

-- the line is written where its words are and its end is
pub line_written : {E : Type 0} (r : Result (Unit {0}) E) (old front new word : List ℕ) (words : List (List ℕ))
    → front ≡ with_words (old ++ word) words → OnOk r (new ≡ front ++ codes "\n") → OnOk r (new ≡ old ++ line (word ∷ words))
line_written r old front new word words e h =
    subst (λ text. OnOk r (new ≡ text)) (ap (λ text. text ++ codes "\n") e ∙ line_onto old word words) h
