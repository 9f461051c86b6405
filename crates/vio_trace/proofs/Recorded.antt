-- The line of a script line's record, its first words apart from those of the record.
use Rattle.std.proofs.Common.{◌≡◌, ℕ, List, ◌∷◌, ◌++◌, codes, decimal, refl, ap}
use Rattle.vio_trace.specs.declared.outcome.Outcome.{Outcome}
use Rattle.vio_trace.specs.declared.outcome.Outcome.TheVariants as outcomes
use Rattle.vio_trace.specs.declared.rows.LogRow.{LogRow}
use Rattle.vio_trace.specs.Text.{line, log_text, outcome_words}

outcome_line : (word : List ℕ) (o : Outcome) → line (word ∷ outcome_words o) ≡ word ++ codes " " ++ line (outcome_words o)
outcome_line word (outcomes.Granted n) = refl
outcome_line word (outcomes.Rejected n) = refl
outcome_line word outcomes.Lost = refl
outcome_line word outcomes.Unanswered = refl
outcome_line word (outcomes.Sent n) = refl
outcome_line word outcomes.Range = refl
outcome_line word outcomes.NotLoggedIn = refl
outcome_line word (outcomes.NoCredit n) = refl
outcome_line word (outcomes.Overlap n) = refl
outcome_line word outcomes.Closed = refl
outcome_line word (outcomes.Dropped n s) = refl
outcome_line word (outcomes.Took n) = refl
outcome_line word (outcomes.TookThenLost n) = refl
outcome_line word (outcomes.Data n s) = refl
outcome_line word (outcomes.Stale n) = refl
outcome_line word outcomes.Unknown = refl
outcome_line word (outcomes.Code a) = refl
outcome_line word (outcomes.Value n) = refl
outcome_line word (outcomes.Posted n a) = refl
outcome_line word (outcomes.Frame a n) = refl
outcome_line word outcomes.Done = refl
outcome_line word (outcomes.Bytes b) = refl

pub log_apart : (row : LogRow) → log_text row ≡ codes "log " ++ (decimal row.partition ++ codes " " ++ (decimal row.line ++ codes " " ++ line (outcome_words row.outcome)))
log_apart row = ap (λ (l : List ℕ). codes "log " ++ (decimal row.partition ++ codes " " ++ l)) (outcome_line (decimal row.line) row.outcome)
