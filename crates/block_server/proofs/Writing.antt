-- Which answers are written over their requests, where rows come and one changes.
use Rattle.std.proofs.Common.{◌≡◌, ◌++◌, inl, ℕ, Bool, List, [], ◌∷◌, subst, sym}
use Rattle.vio_num.specs.declared.history.Served.{Served}
use Rattle.block_server.specs.Causes.{Told}
use Rattle.block_server.specs.Written.{AreWritten, IsAnswerWritten}

written_on : (size : ℕ) (told : Told → Bool) (first next : List Served) → AreWritten size told first → AreWritten size told next → AreWritten size told (first ++ next)
written_on size told [] next is more = more
written_on size told (row ∷ rows) next is more = (is.0, written_on size told rows next is.1 more)

written_split : (size : ℕ) (told : Told → Bool) (first next : List Served) → AreWritten size told (first ++ next) → AreWritten size told first × AreWritten size told next
written_split size told [] next is = (tt, is)
written_split size told (row ∷ rows) next is = let parts = written_split size told rows next is.1 in ((is.0, parts.0), parts.1)

-- the rows are as they were
pub written_same : (size : ℕ) (told : Told → Bool) (h h' : List Served) → h' ≡ h → AreWritten size told h → AreWritten size told h'
written_same size told h h' same = subst (AreWritten size told) (sym same)

-- a row without an answer came
pub written_blank : (size : ℕ) (told : Told → Bool) (h h' : List Served) (row : Served) → row.answer ≡ [] → h' ≡ h ++ row ∷ [] → AreWritten size told h → AreWritten size told h'
written_blank size told h h' row blank added is = subst (AreWritten size told) (sym added) (written_on size told h (row ∷ []) is (inl blank, tt))

-- another row in the place of one
pub written_there : (size : ℕ) (told : Told → Bool) (h h' before behind : List Served) (row new : Served) → h ≡ before ++ row ∷ behind → h' ≡ before ++ new ∷ behind
    → (IsAnswerWritten size told row → IsAnswerWritten size told new) → AreWritten size told h → AreWritten size told h'
written_there size told h h' before behind row new was is changed all =
    let parts = written_split size told before (row ∷ behind) (subst (AreWritten size told) was all) in
    subst (AreWritten size told) (sym is) (written_on size told before (new ∷ behind) parts.0 (changed parts.1.0, parts.1.1))
