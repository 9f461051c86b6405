-- Causes of rows, over turns one behind the other, and as a trace shows them.
use Rattle.std.proofs.Common.{◌≡◌, ◌∙◌, ◌⊎◌, inl, inr, ℕ, All, Bool, List, [], Option, Some, None, IfSome, refl, sym, subst}
use Rattle.std.proofs.lemmas.List.Elements.{All-weaker}
use Rattle.vio_num.specs.declared.history.Served.{Served}
use Rattle.rdma_copy.specs.declared.copy.CopyRecord.{CopyRecord}
use Rattle.block_server.specs.Causes.{Told}
use Rattle.block_server.specs.DiskLaw.{KeepsDiskBy}
use Rattle.block_server.specs.Formed.{IsFormed}
use Rattle.block_server.specs.Written.{IsAnswerWritten}
use Rattle.block_server.specs.declared.records.Records.{Records}
use Rattle.block_server.specs.declared.unit.Unit.{Unit}
use Rattle.boot_text.specs.declared.plan.Partition.{Partition}
use Rattle.vio_trace.specs.declared.rows.Trace.{Trace}
use Rattle.vcpu_run.specs.declared.pair.Pair.{Pair}
use Rattle.vcpu_run.specs.Caused.{IsShownAll, KeepsCaused, LastsBy, LeadsCaused, RowsAreInForm}
use Rattle.vcpu_run.specs.Heard.{AreHeard}
use Rattle.vcpu_run.proofs.RowCopies.{written_each}

abbrev pub Blocks : Type 0
Blocks = Option (List (List ℕ))

pub causes_same : (copies : List CopyRecord) (pairs : List Pair) (rows : List Served) (now : Blocks) → LastsBy copies copies pairs pairs rows rows now now
causes_same copies pairs rows now told tells = (tells, λ before serve. serve)

pub causes_then : (copies copies' copies'' : List CopyRecord) (pairs pairs' pairs'' : List Pair) (rows rows' rows'' : List Served) (a b c : Blocks)
    → LastsBy copies copies' pairs pairs' rows rows' a b → LastsBy copies' copies'' pairs' pairs'' rows' rows'' b c → LastsBy copies copies'' pairs pairs'' rows rows'' a c
causes_then copies copies' copies'' pairs pairs' pairs'' rows rows' rows'' a b c one two told tells =
    let later = two told tells in
    let earlier = one told later.0 in
    (earlier.0, λ before serve. later.1 before (earlier.1 before serve))

-- a trace that shows all keeps the causes of its rows
pub keeps_caused : (partitions : List Partition) (trace : Trace) (copies copies' : List CopyRecord) (pairs pairs' : List Pair) (rows rows' : List Served) (a b c : Blocks) → trace.serves ≡ rows' → c ≡ b
    → LastsBy copies copies' pairs pairs' rows rows' a b → IsShownAll partitions trace copies' pairs' → KeepsCaused partitions trace rows a c
keeps_caused partitions trace copies copies' pairs pairs' rows rows' a b c same image lasts shown = record {
  told = shown.told;
  only = shown.only;
  keeps = subst (λ (list : List Served). KeepsDiskBy shown.told rows list a c) (sym same) (subst (λ (now : Blocks). KeepsDiskBy shown.told rows rows' a now) (sym image) (lasts shown.told shown.all).1);
}

-- and from the first on
pub leads_caused : (partitions : List Partition) (trace : Trace) (before after : Blocks) → KeepsCaused partitions trace [] before after → LeadsCaused partitions trace before after
leads_caused partitions trace None after keeps = tt
leads_caused partitions trace (Some first) None keeps = tt
leads_caused partitions trace (Some first) (Some last) keeps = record { told = keeps.told; only = keeps.only; serve = keeps.keeps first refl }

-- what a run's trace shows, where there is one
pub caused_told : (trace : Option Trace) (copies copies' made : List CopyRecord) (pairs pairs' left : List Pair) (rows rows' served : List Served) (a b c : Blocks) (OfPlan Lasts : List Partition → Type 0)
    → ((partitions : List Partition) → OfPlan partitions → Lasts partitions) → served ≡ rows' → made ≡ copies' → left ≡ pairs' → c ≡ b
    → LastsBy copies copies' pairs pairs' rows rows' a b → IfSome trace (λ told. told.serves ≡ served) → IfSome trace (λ told. (partitions : List Partition) → Lasts partitions → IsShownAll partitions told made left)
    → IfSome trace (λ told. (partitions : List Partition) → OfPlan partitions → KeepsCaused partitions told rows a c)
caused_told None copies copies' made pairs pairs' left rows rows' served a b c OfPlan Lasts later same made_is left_is image lasts serves shown = tt
caused_told (Some trace) copies copies' made pairs pairs' left rows rows' served a b c OfPlan Lasts later same made_is left_is image lasts serves shown = λ partitions of_plan.
    keeps_caused partitions trace copies copies' pairs pairs' rows rows' a b c (serves ∙ same) image lasts
    (subst (λ (list : List CopyRecord). IsShownAll partitions trace list pairs') made_is
    (subst (λ (list : List Pair). IsShownAll partitions trace made list) left_is (shown partitions (later partitions of_plan))))

-- and of a plan
pub caused_of_plan : (trace : Option Trace) (partitions : List Partition) (rows : List Served) (a b c : Blocks) (OfPlan : List Partition → Type 0) → OfPlan partitions → rows ≡ [] → a ≡ b
    → IfSome trace (λ told. (partitions : List Partition) → OfPlan partitions → KeepsCaused partitions told rows a c) → IfSome trace (λ told. LeadsCaused partitions told b c)
caused_of_plan None partitions rows a b c OfPlan of_plan none image keeps = tt
caused_of_plan (Some trace) partitions rows a b c OfPlan of_plan none image keeps =
    subst (λ (before : Blocks). LeadsCaused partitions trace before c) image
    (leads_caused partitions trace a c (subst (λ (list : List Served). KeepsCaused partitions trace list a c) none (keeps partitions of_plan)))

-- ---- the form of rows

-- a row that is answered is in form
abbrev IsInForm : (size : ℕ) → (told : Told → Bool) → Served → Type 0
IsInForm size told row = (row.answer ≡ []) ⊎ IsFormed size told row

form_of : (size : ℕ) (told : Told → Bool) (row : Served) → IsAnswerWritten size told row → IsInForm size told row
form_of size told row (inl none) = inl none
form_of size told row (inr is) = inr is.1

in_form : (partitions : List Partition) (trace : Trace) (copies : List CopyRecord) (pairs : List Pair) (size home : ℕ) (units : List Unit) (records : Records) → trace.serves ≡ records.history.items
    → AreHeard size home units records copies pairs → IsShownAll partitions trace copies pairs → RowsAreInForm partitions trace size
in_form partitions trace copies pairs size home units records same heard shown = record {
  told = shown.told;
  only = shown.only;
  formed = subst (All (IsInForm size shown.told)) (sym same)
      (All-weaker (IsAnswerWritten size shown.told) (IsInForm size shown.told) (form_of size shown.told) records.history.items
      (written_each size shown.told records.history.items (heard.all shown.told shown.all).written));
}

-- those of a run's trace are, where there is one
pub form_told : (trace : Option Trace) (copies made : List CopyRecord) (pairs left : List Pair) (served : List Served) (count size home : ℕ) (units : List Unit) (records : Records)
    (OfPlan Lasts : List Partition → Type 0) → ((partitions : List Partition) → OfPlan partitions → Lasts partitions) → served ≡ records.history.items → made ≡ copies → left ≡ pairs → count ≡ size
    → AreHeard count home units records copies pairs → IfSome trace (λ told. told.serves ≡ served) → IfSome trace (λ told. (partitions : List Partition) → Lasts partitions → IsShownAll partitions told made left)
    → IfSome trace (λ told. (partitions : List Partition) → OfPlan partitions → RowsAreInForm partitions told size)
form_told None copies made pairs left served count size home units records OfPlan Lasts later same made_is left_is sized heard serves shown = tt
form_told (Some trace) copies made pairs left served count size home units records OfPlan Lasts later same made_is left_is sized heard serves shown = λ partitions of_plan.
    subst (RowsAreInForm partitions trace) sized
    (in_form partitions trace copies pairs count home units records (serves ∙ same) heard
    (subst (λ (list : List CopyRecord). IsShownAll partitions trace list pairs) made_is
    (subst (λ (list : List Pair). IsShownAll partitions trace made list) left_is (shown partitions (later partitions of_plan)))))
