-- The rights of the driver's pages of a plain client's window: a line that keeps them, and all that puts no value, leaves them.
use Rattle.std.proofs.Common.{◌≡◌, ◌∙◌, ℕ, ◌+◌, ◌*◌, ◌<◌, ◌==◌, ◌++◌, ◌&&◌, ◌||◌, cond, nat_le, Bool, true, false, true≢false, List, [], ◌∷◌, append-nil, refl, sym, ap, subst, arith}
use Rattle.std.proofs.lemmas.Bool.Decides.{nat_tests}
use Rattle.vio_num.specs.declared.hypervisor.Hrc.TheVariants as codes
use Rattle.tce_window.specs.PortState.{PortState}
use Rattle.boot_text.specs.declared.verb.Verb.{Verb}
use Rattle.boot_text.specs.declared.verb.Verb.TheVariants as verbs
use Rattle.vio_trace.specs.declared.outcome.Outcome.{Outcome}
use Rattle.vio_trace.specs.declared.outcome.Outcome.TheVariants as outcomes
use Rattle.unit_region.specs.Answers.{tce_of}
use Rattle.unit_region.specs.LinePuts.{StepPuts, put_by}
use Rattle.unit_region.specs.declared.step.Step.{Step}
use Rattle.unit_region.specs.declared.step.Step.TheVariants as steps
use Rattle.vscsi_client.specs.declared.TheConstants.{DATA_START}
use Rattle.vcpu_run.specs.PlainClients.{keeps_own, names_own}
use Rattle.vcpu_run.specs.PlainTalk.{HasRights}
use Rattle.vcpu_run.proofs.PlainPuts.{both_true}

-- ---- no value is put

pub rights_same : (old new : PortState) → new.values ≡ old.values → HasRights old → HasRights new
rights_same old new same rights = record {
  last = λ e front. ((rights.last e front).0, ap (λ (values : ℕ → List ℕ). values e) same ∙ (rights.last e front).1);
}

-- ---- a line puts one

-- the last of these values is the entry's own page with all rights
abbrev EndsWhole : (e : ℕ) → List ℕ → Type 0
EndsWhole e list = (before : List ℕ) × (list ≡ before ++ (4096 * e + 3) ∷ [])

-- a value that a line puts that keeps the rights
whole_put : (entry page : ℕ) (readable writable : Bool) → keeps_own (verbs.Tce entry page readable writable) ≡ true → 4096 * entry < DATA_START
    → tce_of page readable writable ≡ 4096 * entry + 3
whole_put entry page readable writable keeps front = by (nat_le DATA_START (4096 * entry)) readable writable refl both.1
  where
    both : ((page == entry) ≡ true) × ((nat_le DATA_START (4096 * entry) || (readable && writable)) ≡ true)
    both = both_true (page == entry) (nat_le DATA_START (4096 * entry) || (readable && writable)) keeps

    page_is : page ≡ entry
    page_is = grind (arith, nat_tests, both.0)

    by : (b r w : Bool) → nat_le DATA_START (4096 * entry) ≡ b → (b || (r && w)) ≡ true → tce_of page r w ≡ 4096 * entry + 3
    by true r w at is = absurd (grind (arith, nat_tests, at, front))
    by false true true at is = omega (arith, page_is)
    by false true false at is = absurd (true≢false (sym is))
    by false false w at is = absurd (true≢false (sym is))

entry_put : (entry page e : ℕ) (readable writable : Bool) (list : List ℕ) (b : Bool) → (entry == e) ≡ b → keeps_own (verbs.Tce entry page readable writable) ≡ true
    → 4096 * e < DATA_START → EndsWhole e list → EndsWhole e (list ++ cond b (tce_of page readable writable ∷ []) [])
entry_put entry page e readable writable list false at keeps front ends = subst (EndsWhole e) (sym (append-nil list)) ends
entry_put entry page e readable writable list true at keeps front ends =
    let same : entry ≡ e = grind (arith, nat_tests, at) in
    (list, ap (λ (v : ℕ). list ++ v ∷ []) (whole_put entry page readable writable keeps (subst (λ (n : ℕ). 4096 * n < DATA_START) (sym same) front) ∙ ap (λ (n : ℕ). 4096 * n + 3) same))

line_put : (e : ℕ) (verb : Verb) (outcome : Outcome) (list : List ℕ) → keeps_own verb ≡ true → 4096 * e < DATA_START → EndsWhole e list
    → EndsWhole e (list ++ put_by e verb outcome)
line_put e (verbs.Tce entry page readable writable) (outcomes.Code codes.Success) list keeps front ends = entry_put entry page e readable writable list (entry == e) refl keeps front ends
line_put e verb outcome list keeps front ends = subst (EndsWhole e) (sym (append-nil list)) ends

-- so a step of such a line keeps the rights
pub rights_put : (verb : Verb) (step : Step) (old new : PortState) → keeps_own verb ≡ true → StepPuts verb step old.values new.values → HasRights old → HasRights new
rights_put verb (steps.Waits did) old new keeps puts rights = record { last = λ e front. ((rights.last e front).0, puts e ∙ (rights.last e front).1) }
rights_put verb (steps.Ends outcome) old new keeps puts rights = record {
  last = λ e front. subst (EndsWhole e) (sym (puts e)) (line_put e verb outcome (old.values e) keeps front (rights.last e front));
}

-- ---- the page that an entry names

-- a line that keeps the rights names the entry's own page
pub own_named : (verb : Verb) → keeps_own verb ≡ true → names_own verb ≡ true
own_named (verbs.Tce entry page readable writable) keeps = (both_true (page == entry) (nat_le DATA_START (4096 * entry) || (readable && writable)) keeps).0
own_named verb keeps = refl
