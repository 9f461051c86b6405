-- Data that are read in two parts.
use Rattle.std.proofs.Common.{◌≡◌, ◌∙◌, ℕ, ◌+◌, ◌-◌, ◌<◌, Bool, true, false, List, ◌++◌, Option, Some, None, Result, Ok, Err, OnOk, IfErr, length, take, drop, sym, ap, subst, inr, arith, append_assoc}
use Rattle.std.proofs.Math.Seq.{take-append_seam, drop-append_seam}
use Rattle.page_slots.specs.Stroke.{StrokeValue}
use Rattle.page_slots.specs.declared.stroke.StrokeName.{StrokeName}
use Rattle.tce_window.specs.Port.{Grows}
use Rattle.tce_window.specs.PortState.{PortState, OnlyReads}
use Rattle.vscsi_client.specs.declared.answers.DataFault.{DataFault}
use Rattle.vscsi_client.specs.Transferred.{ReadsNamed, ReadsBoth, WhyNotPart, WhyNotRead}

grows_trans : (shared : Bool) (a b c : Option (List StrokeValue)) → Grows shared a b → Grows shared b c → Grows shared a c
grows_trans true (Some a) (Some b) (Some c) x y = (x.0 ++ y.0, y.1 ∙ (ap (λ s. s ++ y.0) x.1 ∙ append_assoc a x.0 y.0))
grows_trans false (Some a) (Some b) (Some c) x y = y ∙ x
grows_trans shared None None None x y = tt
grows_trans shared (Some a) None c x y = absurd x
grows_trans shared None (Some b) c x y = absurd x
grows_trans shared (Some a) (Some b) None x y = absurd y
grows_trans shared None None (Some c) x y = absurd y

pub reads_trans : (shared : Bool) (a b c : PortState) → OnlyReads shared a b → OnlyReads shared b c → OnlyReads shared a c
reads_trans shared a b c x y = record {
  place = y.place ∙ x.place;
  strokes = λ p. grows_trans shared (a.strokes p) (b.strokes p) (c.strokes p) (x.strokes p) (y.strokes p);
  values = y.values ∙ x.values;
  held_from = y.held_from ∙ x.held_from;
  held_count = y.held_count ∙ x.held_count;
  taken = y.taken ∙ x.taken;
  laid = y.laid ∙ x.laid;
  in_use = omega (arith, x.in_use, y.in_use);
}

pub both_given : (name : StrokeName) (shared : Bool) (at at' la lb : ℕ) (bytes a b : List ℕ) (old mid new : PortState) (result : Result (Unit {0}) DataFault)
    → la ≡ 65536 → lb + 65536 ≡ length bytes → at' ≡ at + 65536 → ReadsNamed name at la mid a → OnlyReads shared old mid → OnlyReads shared mid new
    → OnOk result (ReadsNamed name at' lb new b) → OnOk result (ReadsBoth name shared (record { at = at; len = length bytes }) old new (a ++ b))
both_given name shared at at' la lb bytes a b old mid new (Ok done) ea eb eat first before after second =
    let long : length a ≡ 65536 = first.long ∙ ea in
    let rest : lb ≡ length bytes - 65536 = omega (arith, eb) in
    record {
      middle = mid;
      first = subst (λ xs. ReadsNamed name at 65536 mid xs) (sym (subst (λ n. take n (a ++ b) ≡ a) long (take-append_seam a b))) (subst (λ n. ReadsNamed name at n mid a) ea first);
      second = subst (λ xs. ReadsNamed name (at + 65536) (length bytes - 65536) new xs) (sym (subst (λ n. drop n (a ++ b) ≡ b) long (drop-append_seam a b)))
          (subst (λ n. ReadsNamed name n (length bytes - 65536) new b) eat (subst (λ n. ReadsNamed name at' n new b) rest second));
      before = before;
      after = after;
    }
both_given name shared at at' la lb bytes a b old mid new (Err fault) ea eb eat first before after second = second

pub second_not : (name : StrokeName) (shared : Bool) (at at' la lb : ℕ) (bytes a : List ℕ) (old mid new : PortState) (result : Result (Unit {0}) DataFault)
    → 65536 < length bytes → la ≡ 65536 → lb + 65536 ≡ length bytes → at' ≡ at + 65536 → ReadsNamed name at la mid a → OnlyReads shared old mid
    → IfErr result (WhyNotPart name shared at' lb mid new) → IfErr result (WhyNotRead name shared (record { at = at; len = length bytes }) old new)
second_not name shared at at' la lb bytes a old mid new (Ok done) many ea eb eat first before why = why
second_not name shared at at' la lb bytes a old mid new (Err fault) many ea eb eat first before why =
    let rest : lb ≡ length bytes - 65536 = omega (arith, eb) in
    inr (record {
      long = many;
      middle = mid;
      before = before;
      fresh = (subst (λ n. ReadsNamed name at n mid a) ea first).fresh;
      why_not = subst (λ n. WhyNotPart name shared n (length bytes - 65536) mid new fault) eat (subst (λ n. WhyNotPart name shared at' n mid new fault) rest why);
    })
