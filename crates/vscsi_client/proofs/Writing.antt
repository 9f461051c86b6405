-- A login's unit in a turn: it was written, or met a page in use.
use Rattle.std.proofs.Common.{◌≡◌, ℕ, ◌<◌, Bool, true, false, List, [], ◌∷◌, ◌++◌, Result, Ok, IfOk, OnErr, length, refl, sym, ap, subst, inr, arith}
use Rattle.vio_num.specs.declared.memory.NoMemory.{NoMemory}
use Rattle.crq_session.specs.EndState.{EndState, OnlyReserves}
use Rattle.tce_window.specs.PortState.{PortState}
use Rattle.vscsi_client.specs.declared.login_put.Wrote.{Wrote as Became}
use Rattle.vscsi_client.specs.declared.login_put.Wrote.TheVariants as wrotes
use Rattle.vscsi_client.specs.declared.stage.Due.{Due}
use Rattle.vscsi_client.specs.declared.stage.Due.TheVariants as dues
use Rattle.vscsi_client.specs.State.{ClientState}
use Rattle.vscsi_client.specs.Ports.{ports}
use Rattle.vscsi_client.specs.Turned.{site, LoginStep, NotWritten, Wrote, Did, IsHeldUp, is_up, begins, IsFirst, IsUnwritten, WritesLogin, WritesNone}
use Rattle.vscsi_client.specs.TurnParts.{PutOne, PutsAs, WritesAs, is_unwritten, InParts}
use Rattle.vscsi_client.proofs.Runs.{hands, did_after, none_ends_append, times_append, held_up_append, parts_append}
use Rattle.vscsi_client.proofs.Parts.{unwritten_is, put_did, and_false}

-- a login whose unit is not written is due first
is_first : (s : ClientState) (due : Due) → is_unwritten due s.login ≡ true → IsFirst due s.due → IsUnwritten s
is_first s due un first =
    let u = unwritten_is due s.login un in
    record { first = subst (λ (d : Due). IsFirst d s.due) u.0 first; idle = u.1 }

used_up : (ds : List Due) (page word : ℕ) → IsFirst dues.Login ds → IsHeldUp ds (NotWritten page word ∷ [])
used_up [] page word first = absurd first
used_up (d ∷ ds) page word first = inr (first, (page, word, record { rest = []; is = refl }))

pub not_written : (line : ℕ) (cs os : Bool) (s s' : ClientState) (e : EndState) (w w' : PortState) (due : Due) (result : Result Became NoMemory) (page word : ℕ)
    → result ≡ Ok (wrotes.InUse page word) → is_unwritten due s.login ≡ true → IsFirst due s.due → begins s ≡ false
    → IfOk result (WritesAs os line s s' w w') → Did line (site s (ports cs e os w)) (site s' (ports cs e os w')) (PutOne s s') (Ok false)
not_written line cs os s s' e w w' due result page word is un first begun wrote =
    let none : WritesNone os s s' w w' page = subst (λ r. IfOk r (WritesAs os line s s' w w')) is wrote in
    let unwritten = is_first s due un first in
    record {
      steps = NotWritten page word ∷ [];
      runs = (site s (ports cs e os w), refl, (unwritten, none, refl), hands cs os s s' e e w w');
      ends = (
        refl,
        refl,
        subst (λ (t : ClientState). begins t ≡ false) (sym none.client) begun,
        subst (λ (t : ClientState). IsHeldUp t.due (NotWritten page word ∷ [])) (sym none.client) (used_up s.due page word unwritten.first),
        record { order = (omega arith, tt); most = omega arith },
      );
    }

pub was_written : (os : Bool) (line : ℕ) (s s' : ClientState) (w w' : PortState) (result : Result Became NoMemory) → result ≡ Ok wrotes.Written
    → IfOk result (WritesAs os line s s' w w') → WritesLogin os line s s' w w'
was_written os line s s' w w' result is wrote = subst (λ r. IfOk r (WritesAs os line s s' w w')) is wrote

parts_wrote : InParts 2 2 (Wrote ∷ [])
parts_wrote = record { order = (omega arith, tt); most = omega arith }

more_one : (s m s' : ClientState) → m.due ≡ s.due → (x : Bool) (steps : List LoginStep) → PutOne m s' x steps → PutOne s s' x (steps ++ Wrote ∷ [])
more_one s m s' same true steps h = (
  none_ends_append steps (Wrote ∷ []) h.0 refl,
  (let sum = times_append steps (Wrote ∷ []) in let none = h.1 in omega (arith, sum, none)),
  h.2,
  subst (λ ds. length s'.due < length ds) same h.3,
  parts_append 2 2 2 steps (Wrote ∷ []) (omega arith) h.4 parts_wrote,
)
more_one s m s' same false steps h = (
  none_ends_append steps (Wrote ∷ []) h.0 refl,
  (let sum = times_append steps (Wrote ∷ []) in let none = h.1 in omega (arith, sum, none)),
  h.2,
  held_up_append s'.due steps (Wrote ∷ []) h.3,
  parts_append 2 2 3 steps (Wrote ∷ []) (omega arith) h.4 parts_wrote,
)

pub wrote_one : (line : ℕ) (cs os : Bool) (s m s' : ClientState) (e e' : EndState) (w w' : PortState) (due : Due) (result : Result Bool NoMemory)
    → is_unwritten due s.login ≡ true → IsFirst due s.due → WritesLogin os line s m w w'
    → IfOk result (PutsAs cs m s' e e' due) → OnErr result (s' ≡ m) → OnErr result (OnlyReserves e e')
    → Did line (site s (ports cs e os w)) (site s' (ports cs e' os w')) (PutOne s s') result
wrote_one line cs os s m s' e e' w w' due result un first wrote put same none =
    let due_same : m.due ≡ s.due = ap (λ (t : ClientState). t.due) wrote.client in
    let begun : begins m ≡ false = subst (λ (t : ClientState). begins t ≡ false) (sym wrote.client) (and_false (is_up s.handshake) false refl) in
    did_after Bool line (site s (ports cs e os w)) (site m (ports cs e os w')) (site s' (ports cs e' os w')) (PutOne m s') (PutOne s s') result (Wrote ∷ [])
    (site s (ports cs e os w), refl, (is_first s due un first, wrote, refl), hands cs os s m e e w w') refl (more_one s m s' due_same)
    (put_did line cs os m s' e e' w' due result begun put same none)
