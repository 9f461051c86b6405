-- What a step of a line at its unit leaves of the pairs, and of what their records say.
use Rattle.std.proofs.Common.{◌≡◌, ◌∙◌, ℕ, List, OnOk, Some, Result, sym, subst, slice_get, slice_set}
use Rattle.std.proofs.lemmas.Option.{slice_get_within}
use Rattle.vio_num.specs.declared.memory.NoMemory.{NoMemory}
use Rattle.boot_text.specs.declared.plan.Line.{Line}
use Rattle.boot_text.specs.declared.verb.Verb.{Verb}
use Rattle.unit_region.specs.declared.step.Step.{Step}
use Rattle.vcpu_run.specs.declared.pair.Pair.{Pair}
use Rattle.vcpu_run.specs.declared.script.Progress.{Progress}
use Rattle.vcpu_run.specs.EventsMade.{PairMakes}
use Rattle.vcpu_run.specs.DropsShown.{PairShowsLine}
use Rattle.vcpu_run.specs.TakenScripts.{PairGives, PairHears, PairReads, PairTakes}
use Rattle.vcpu_run.specs.Telling.{PairOut, PairTold, SeatOut, SeatTold}
use Rattle.vcpu_run.specs.ValuesPut.{PairPuts}
use Rattle.vcpu_run.proofs.Driving.{get_set_other, get_set_same, some_is}
use Rattle.vcpu_run.proofs.GivesAll.{all_give_ok}

pub set_told : (line : Line) (p p' : Progress) (result : Result Step NoMemory) (pairs : List Pair) (i : ℕ) (old new : Pair) → slice_get pairs i ≡ Some old
    → PairTold line.verb p p' old new result → PairTakes line.verb p p' old new result → PairHears old new result → PairReads line.verb old new result → PairPuts line.verb old new result → PairMakes line.verb p p' old new → OnOk result (PairGives old new) → PairShowsLine line old new result
    → SeatTold i line p p' pairs (slice_set pairs i new) result
set_told line p p' result pairs i old new there told takes hears reads puts makes gives shows = record {
  beside = λ k apart. get_set_other pairs i k new apart;
  here = λ before after b a.
      let first : before ≡ old = some_is before old (sym b ∙ there) in
      let next : after ≡ new = some_is after new (sym a ∙ get_set_same pairs i new (slice_get_within pairs i old there)) in
      subst (λ (x : Pair). PairTold line.verb p p' x after result) (sym first) (subst (λ (x : Pair). PairTold line.verb p p' old x result) (sym next) told);
  takes = λ before after b a.
      let first : before ≡ old = some_is before old (sym b ∙ there) in
      let next : after ≡ new = some_is after new (sym a ∙ get_set_same pairs i new (slice_get_within pairs i old there)) in
      subst (λ (x : Pair). PairTakes line.verb p p' x after result) (sym first) (subst (λ (x : Pair). PairTakes line.verb p p' old x result) (sym next) takes);
  hears = λ before after b a.
      let first : before ≡ old = some_is before old (sym b ∙ there) in
      let next : after ≡ new = some_is after new (sym a ∙ get_set_same pairs i new (slice_get_within pairs i old there)) in
      subst (λ (x : Pair). PairHears x after result) (sym first) (subst (λ (x : Pair). PairHears old x result) (sym next) hears);
  reads = λ before after b a.
      let first : before ≡ old = some_is before old (sym b ∙ there) in
      let next : after ≡ new = some_is after new (sym a ∙ get_set_same pairs i new (slice_get_within pairs i old there)) in
      subst (λ (x : Pair). PairReads line.verb x after result) (sym first) (subst (λ (x : Pair). PairReads line.verb old x result) (sym next) reads);
  puts = λ before after b a.
      let first : before ≡ old = some_is before old (sym b ∙ there) in
      let next : after ≡ new = some_is after new (sym a ∙ get_set_same pairs i new (slice_get_within pairs i old there)) in
      subst (λ (x : Pair). PairPuts line.verb x after result) (sym first) (subst (λ (x : Pair). PairPuts line.verb old x result) (sym next) puts);
  makes = λ before after b a.
      let first : before ≡ old = some_is before old (sym b ∙ there) in
      let next : after ≡ new = some_is after new (sym a ∙ get_set_same pairs i new (slice_get_within pairs i old there)) in
      subst (λ (x : Pair). PairMakes line.verb p p' x after) (sym first) (subst (λ (x : Pair). PairMakes line.verb p p' old x) (sym next) makes);
  gives = all_give_ok result pairs i old new there gives;
  shows = λ before after b a.
      let first : before ≡ old = some_is before old (sym b ∙ there) in
      let next : after ≡ new = some_is after new (sym a ∙ get_set_same pairs i new (slice_get_within pairs i old there)) in
      subst (λ (x : Pair). PairShowsLine line x after result) (sym first) (subst (λ (x : Pair). PairShowsLine line old x result) (sym next) shows);
}

pub set_out : (verb : Verb) (p p' : Progress) (result : Result Step NoMemory) (pairs : List Pair) (i : ℕ) (old new : Pair) → slice_get pairs i ≡ Some old
    → PairOut verb p p' old new result → SeatOut i verb p p' pairs (slice_set pairs i new) result
set_out verb p p' result pairs i old new there out before after b a =
    let first : before ≡ old = some_is before old (sym b ∙ there) in
    let next : after ≡ new = some_is after new (sym a ∙ get_set_same pairs i new (slice_get_within pairs i old there)) in
    subst (λ (x : Pair). PairOut verb p p' x after result) (sym first) (subst (λ (x : Pair). PairOut verb p p' old x result) (sym next) out)
