-- From what an end keeps to what its steps on the control word ask.
use Rattle.std.proofs.Common.{◌≡◌, ℕ, eqb, ◌+◌, ◌*◌, ◌<◌, ◌≤◌, true, false, List, sym, subst, arith, bit_and}
use mathlib.Core.Option.{none}
use prog.Atomic.{either}
use Rattle.atomic_table.specs.Table.{step, Allows}
use Rattle.crq_ring.specs.declared.rows.PipeRow.{PipeRow}
use Rattle.crq_ring.specs.declared.view.Role.{Role}
use Rattle.crq_ring.specs.declared.view.Role.TheVariants.{Sender, Receiver}
use Rattle.crq_ring.specs.Control.{control_word}
use Rattle.crq_ring.specs.EndsKept.{RingSeat, IsEnd}
use Rattle.crq_ring.specs.RingRule.{InOrder}
use Rattle.crq_ring.specs.RingSteps.{Seated, showed, entered, went_out, began, closed, zeroed}
use Rattle.crq_ring.specs.Window.{words_of, control_at}
use Rattle.crq_ring.proofs.ControlAllows.{Sits, Saw, shows, enters, leaves, begins, shuts, zeroes}
use Rattle.crq_ring.proofs.RingActs.{slots_is}

-- an end sits at the ring's table
pub sits_at : (role : Role) (seat : RingSeat) (next session from : ℕ) (rows : List PipeRow) (n : ℕ) → IsEnd role seat next session from rows → seat.table_id.words ≡ words_of n → Sits n role seat.me
sits_at role seat next session from rows n end words = record { role_is = end.role_is; slots = slots_is role seat next session from rows n end words }

-- the control word lies in the table
pub control_inside : (n at total : ℕ) → at ≡ 2 * n + 8 → total ≡ words_of n → at < total
control_inside n at total is w = let e : total ≡ 2 * n + 16 = w in omega (arith, e, is)

-- a table that was told the number `key`, and the place `at` of its control word
module _ (key n at slots id : ℕ) (me : Seated) (told : key ≡ n) (here : at ≡ 2 * n + 8) where
  there : (F : ℕ → ℕ → Type 0) → F n (control_at n) → F key at
  there F = subst (λ (z : ℕ × ℕ). F z.0 z.1) (λ i. (sym told i, sym here i))

  pub shows_control : Sits n Sender me → Allows (InOrder key) slots id me at (λ x. x) (showed (step slots at 0 0 none) me)
  shows_control sits = there (λ a w. Allows (InOrder a) slots id me w (λ x. x) (showed (step slots w 0 0 none) me)) (shows n slots id me sits)

  pub enters_control : (word : ℕ) → Sits n Sender me → me.0.inside ≡ false → Saw word me
      → Allows (InOrder key) slots id me at (λ x. either (eqb x word) (word + 2) x) (entered (step slots at word (word + 2) none) me)
  enters_control word sits off saw = there (λ a w. Allows (InOrder a) slots id me w (λ x. either (eqb x word) (word + 2) x) (entered (step slots w word (word + 2) none) me)) (enters n slots id me word sits off saw)

  pub leaves_control : Sits n Sender me → me.0.inside ≡ true → Allows (InOrder key) slots id me at (λ x. bit_and x 18446744073709551613) (went_out (step slots at 18446744073709551613 0 none) me)
  leaves_control sits on = there (λ a w. Allows (InOrder a) slots id me w (λ x. bit_and x 18446744073709551613) (went_out (step slots w 18446744073709551613 0 none) me)) (leaves n slots id me sits on)

  pub begins_control : (old new : ℕ) → old ≡ control_word me.0.session false false → new ≡ control_word (me.0.session + 1) true false → Sits n Receiver me → me.0.is_open ≡ false → n ≤ me.0.swept
      → Allows (InOrder key) slots id me at (λ x. either (eqb x old) new x) (began (step slots at old new none) me)
  begins_control old new is next sits shut swept = subst (λ z. Allows (InOrder key) slots id me at (λ x. either (eqb x old) z x) (began (step slots at old z none) me)) (sym next)
      (there (λ a w. Allows (InOrder a) slots id me w (λ x. either (eqb x old) (control_word (me.0.session + 1) true false) x) (began (step slots w old (control_word (me.0.session + 1) true false) none) me))
      (begins n slots id me old is sits shut swept))

  pub shuts_control : (old new : ℕ) → old ≡ control_word me.0.session true false → new ≡ control_word me.0.session false false → Sits n Receiver me → me.0.is_open ≡ true
      → Allows (InOrder key) slots id me at (λ x. either (eqb x old) new x) (closed (step slots at old new none) me)
  shuts_control old new is next sits opened = subst (λ (y : ℕ × ℕ). Allows (InOrder key) slots id me at (λ x. either (eqb x y.0) y.1 x) (closed (step slots at y.0 y.1 none) me)) (λ i. (sym is i, sym next i))
      (there (λ a w. Allows (InOrder a) slots id me w (λ x. either (eqb x (control_word me.0.session true false)) (control_word me.0.session false false) x)
      (closed (step slots w (control_word me.0.session true false) (control_word me.0.session false false) none) me)) (shuts n slots id me sits opened))

-- a slot of a closed queue, the next to be zeroed
pub zeroes_slot : (key n at slots id : ℕ) (me : Seated) → key ≡ n → at ≡ me.0.swept → Sits n Receiver me → me.0.is_open ≡ false → at < n
    → Allows (InOrder key) slots id me (2 * at) (λ _. 0) (λ _. zeroed (step slots (2 * at) 0 0 none) me 0)
zeroes_slot key n at slots id me told here sits shut below = subst (λ (z : ℕ × ℕ). Allows (InOrder z.0) slots id me (2 * z.1) (λ _. 0) (λ _. zeroed (step slots (2 * z.1) 0 0 none) me 0)) (λ i. (sym told i, sym here i))
    (zeroes n slots id me sits shut (subst (λ z. z < n) here below))
