-- What is known of a reader and a writer behind calls that kept it, and of bytes that a writer has and a sink did not take.
use Rattle.std.proofs.Common.{◌≡◌, ℕ, List, ◌++◌, Option, None, Some, Result, Ok, Err, IfOk, IsOk, OnOk, take, sym, ap, ◌∙◌, subst}
use Rattle.std.proofs.lemmas.Bool.{false≢true}
use Rattle.std.proofs.KnownBytes.{Keeps-trans}
use Rattle.std.specs.Io.KnownBytes.{Keeps, Appends, Consumes, ReadConsumes, WriteAppends}

-- what a call consumed behind calls that kept what is left
consumes-kept : (a b c : Option (List ℕ)) (bytes : List ℕ) → Keeps a b → Consumes b c bytes → Consumes a c bytes
consumes-kept None b c bytes kept read = tt
consumes-kept (Some x) None c bytes kept read = absurd kept
consumes-kept (Some x) (Some y) None bytes kept read = absurd read
consumes-kept (Some x) (Some y) (Some z) bytes kept read = sym kept ∙ read

pub read-kept : {E : Type 0} (a b c : Option (List ℕ)) (result : Result ℕ E) (out : List ℕ) → Keeps a b → ReadConsumes b c result out → ReadConsumes a c result out
read-kept a b c (Ok n) out kept read = (consumes-kept a b c (take n out) kept read.0, read.1)
read-kept a b c (Err e) out kept read = Keeps-trans a b c kept read

-- what a call appended behind calls that kept what is there
appends-kept : (a b c : Option (List ℕ)) (bytes : List ℕ) → Keeps a b → Appends b c bytes → Appends a c bytes
appends-kept None b c bytes kept wrote = tt
appends-kept (Some x) None c bytes kept wrote = absurd kept
appends-kept (Some x) (Some y) None bytes kept wrote = absurd wrote
appends-kept (Some x) (Some y) (Some z) bytes kept wrote = wrote ∙ ap (λ front. front ++ bytes) kept

pub write-kept : {E : Type 0} (a b c : Option (List ℕ)) (result : Result ℕ E) (piece : List ℕ) → Keeps a b → WriteAppends b c result piece → WriteAppends a c result piece
write-kept a b c (Ok n) piece kept wrote = appends-kept a b c (take n piece) kept wrote
write-kept a b c (Err e) piece kept wrote = Keeps-trans a b c kept wrote

at_answer : {E : Type 0} (answer : Result ℕ E) (n : ℕ) (P : ℕ → Type 0) → IfOk answer (λ given. given ≡ n) → IsOk answer → IfOk answer P → P n
at_answer (Ok m) n P same stands holds = subst P same holds
at_answer (Err e) n P same stands holds = absurd (false≢true stands)

-- what is said of the number of an answer, of the same number where the answer stands
pub at_settled : {E F : Type 0} (settled : Result ℕ F) (answer : Result ℕ E) (n : ℕ) (P : ℕ → Type 0) → settled ≡ Ok n
    → IfOk settled (λ m. IfOk answer (λ given. given ≡ m)) → OnOk settled (IsOk answer) → IfOk answer P → P n
at_settled {E} {F} settled answer n P is same stands holds =
    at_answer answer n P (subst (λ (found : Result ℕ F). IfOk found (λ m. IfOk answer (λ given. given ≡ m))) is same)
    (subst (λ (found : Result ℕ F). OnOk found (IsOk answer)) is stands) holds
