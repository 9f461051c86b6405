-- The entries that a window has, and what is put into one.
use Rattle.std.proofs.Common.{◌≡◌, ◌≤◌, ◌<◌, ◌*◌, ◌/◌, ◌%◌, ◌==◌, ◌&&◌, ◌||◌, ℕ, zero, suc, Bool, true, false, not, nat_lt, [], ◌∷◌, take, arith, length, nat_le, refl, sym, ◌∙◌, ◌↔◌, List, subst}
use Rattle.std.proofs.lemmas.Bool.{ltb-true}
use Rattle.std.proofs.lemmas.Bool.Decides.{nat_tests}
use Rattle.vio_num.specs.declared.hypervisor.Hrc.{Hrc}
use Rattle.vio_num.specs.declared.hypervisor.Hrc.TheVariants as codes
use Rattle.tce_window.specs.Answers.{IfBusy}
use Rattle.tce_window.specs.Grant.{has_right}
use Rattle.tce_window.specs.PortState.{MeetsPins, PortState, Puts}
use Rattle.tce_window.specs.Puts.{put_by, takes, takes_all, takes_each}
use Rattle.tce_window.specs.declared.answers.TceAnswer.{TceAnswer}
use Rattle.tce_window.specs.declared.answers.TceAnswer.TheVariants.{Busy, Done, Parameter}
use Rattle.unit_region.specs.EntryAnswers.{PutsEach, put_if}
use Rattle.unit_region.specs.EntryRows.{tce_code}

-- an entry past a window takes no value
pub passes : (n e tce : ℕ) → n ≤ e → takes n (4096 * e) tce ≡ false
passes n e tce past = by (nat_lt (4096 * e / 4096) n) refl
  where
    with_false : (x y : Bool) → (x && false && y) ≡ false
    with_false true y = refl
    with_false false y = refl

    by : (b : Bool) → nat_lt (4096 * e / 4096) n ≡ b → takes n (4096 * e) tce ≡ false
    by true h = absurd (omega (arith, ltb-true (4096 * e / 4096) n h, past))
    by false h = rw h (with_false (4096 * e % 4096 == 0) (not (has_right tce) || nat_lt (tce / 4096) n))

-- what was put of one value, by the code
pub put_of : (shared : Bool) (old : PortState) (ioba value : ℕ) (answer : TceAnswer) → IfBusy answer (MeetsPins shared old ioba (value ∷ []))
    → put_by answer (value ∷ []) ≡ put_if (tce_code answer) value
put_of shared old ioba value Done busy = refl
put_of shared old ioba value Parameter busy = refl
put_of shared old ioba value (Busy entry pins done) busy = none done busy.busy.below
  where
    none : (n : ℕ) → n < 1 → take n (value ∷ []) ≡ []
    none zero less = refl
    none (suc n) less = absurd (omega (arith, less))

-- what was put of many values, where the code is Success
code_parameter : (answer : TceAnswer) → (tce_code answer ≡ codes.Parameter) ↔ (answer ≡ Parameter)
code_parameter Done = (λ e. absurd (cc (e)), λ e. absurd (cc (e)))
code_parameter Parameter = (λ e. refl, λ e. refl)
code_parameter (Busy entry pins done) = (λ e. absurd (cc (e)), λ e. absurd (cc (e)))

code_success : (answer : TceAnswer) → tce_code answer ≡ codes.Success → answer ≡ Done
code_success Done e = refl
code_success Parameter e = absurd (cc (e))
code_success (Busy entry pins done) e = absurd (cc (e))

pub stuffed : (old mid new : PortState) (ioba : ℕ) (list : List ℕ) (answer : TceAnswer) (code : Hrc) → mid ≡ old → code ≡ tce_code answer
    → ((answer ≡ Parameter) ↔ (takes_all mid.place.size ioba list ≡ false)) → Puts mid ioba (put_by answer list) new → PutsEach old new ioba list code
stuffed old mid new ioba list answer code same is parameter put = record {
  parameter = (
    λ e. subst (λ (p : PortState). takes_all p.place.size ioba list ≡ false) same (parameter.0 ((code_parameter answer).0 (sym is ∙ e))),
    λ e. is ∙ (code_parameter answer).1 (parameter.1 (subst (λ (p : PortState). takes_all p.place.size ioba list ≡ false) (sym same) e)),
  );
  put = λ good. subst (λ (p : PortState). Puts p ioba list new) same
      (subst (λ (a : TceAnswer). Puts mid ioba (put_by a list) new) (code_success answer (sym is ∙ good)) put);
}

-- more than 512 values are not taken
pub too_many : (n ioba : ℕ) (list : List ℕ) → 512 < length list → takes_all n ioba list ≡ false
too_many n ioba list many = by (nat_le (length list) 512) refl
  where
    by : (b : Bool) → nat_le (length list) 512 ≡ b → (b && takes_each n ioba list) ≡ false
    by true e = absurd (grind (arith, nat_tests, e, many))
    by false e = refl
