-- The values that lines put into the entries of a client's window, as its records grow.
use Rattle.std.proofs.Common.{◌≡◌, ◌≢◌, ◌∙◌, ◌⊎◌, inl, inr, ℕ, ◌+◌, ◌*◌, ◌++◌, true, false, List, [], ◌∷◌, Some, Ok, refl, sym, ap, subst, append-nil, append_assoc}
use Rattle.std.specs.List.{slice_get, slice_set}
use Rattle.std.specs.Option.{option_map}
use Rattle.std.proofs.lemmas.Option.{slice_get_within}
use Rattle.vio_num.specs.declared.hypervisor.Moved.{Moved}
use Rattle.boot_text.specs.declared.verb.Verb.{Verb}
use Rattle.boot_text.specs.declared.verb.Verb.TheVariants as verbs
use Rattle.tce_window.specs.Grant.{values_of}
use Rattle.tce_window.specs.PlainPort.{known_of}
use Rattle.tce_window.specs.declared.answers.TceRow.{TceRow}
use Rattle.vio_trace.specs.declared.outcome.Outcome.{Outcome}
use Rattle.unit_region.specs.declared.step.Step.TheVariants as steps
pub use Rattle.unit_region.proofs.Laws.{same_puts, tce_puts}
use Rattle.vcpu_run.specs.Credited.{Ended}
use Rattle.vcpu_run.specs.ValuesPut.{AllSameValues, AreValuesPut, PairPuts, SameValues, is_put, put_by, values_in, values_told}
use Rattle.vcpu_run.specs.Works.{fails, sends}
use Rattle.vcpu_run.specs.declared.pair.Pair.{Pair}
use Rattle.vcpu_run.proofs.Driving.{get_set_other, get_set_same, same_or, some_is}

-- one record more
pub told_more : (e : ℕ) (own : List Ended) (verb : Verb) (outcome : Outcome)
    → values_told e (own ++ record { verb = verb; outcome = outcome } ∷ []) ≡ values_told e own ++ put_by e verb outcome
told_more e [] verb outcome = append-nil (put_by e verb outcome)
told_more e (first ∷ others) verb outcome =
    ap (λ list. put_by e first.verb first.outcome ++ list) (told_more e others verb outcome)
    ∙ sym (append_assoc (put_by e first.verb first.outcome) (values_told e others) (put_by e verb outcome))

-- no other line that sends, or fails the partition, puts any
pub sends_none : (verb : Verb) → sends verb ≡ true → is_put verb ≡ false
sends_none verbs.Login is = refl
sends_none verbs.Reset is = refl
sends_none verbs.Logout is = refl
sends_none verbs.Tur is = refl
sends_none (verbs.Read lba blocks at pieces table) is = refl
sends_none (verbs.Write lba blocks at pieces table) is = refl
sends_none (verbs.Command cdb) is = refl
sends_none (verbs.CommandIn cdb at len pieces table) is = refl
sends_none (verbs.CommandOut cdb at len pieces table) is = refl
sends_none (verbs.Task function of) is = refl
sends_none (verbs.Take count) is = refl
sends_none (verbs.Data of) is = refl
sends_none verbs.Open is = refl
sends_none verbs.Close is = refl
sends_none (verbs.Post at len count) is = refl
sends_none (verbs.Send to len seed at) is = refl
sends_none (verbs.ChangeMac own) is = refl
sends_none (verbs.Multicast control group) is = refl
sends_none (verbs.Fill at len seed) is = refl
sends_none (verbs.Poke at bytes) is = refl
sends_none (verbs.Peek at len) is = refl
sends_none (verbs.Tce entry page readable writable) is = absurd (cc)
sends_none (verbs.Hcall number arguments) is = refl
sends_none verbs.Fail is = refl

pub fails_none : (verb : Verb) → fails verb ≡ true → is_put verb ≡ false
fails_none verbs.Login is = refl
fails_none verbs.Reset is = refl
fails_none verbs.Logout is = refl
fails_none verbs.Tur is = refl
fails_none (verbs.Read lba blocks at pieces table) is = refl
fails_none (verbs.Write lba blocks at pieces table) is = refl
fails_none (verbs.Command cdb) is = refl
fails_none (verbs.CommandIn cdb at len pieces table) is = refl
fails_none (verbs.CommandOut cdb at len pieces table) is = refl
fails_none (verbs.Task function of) is = refl
fails_none (verbs.Take count) is = refl
fails_none (verbs.Data of) is = refl
fails_none verbs.Open is = refl
fails_none verbs.Close is = refl
fails_none (verbs.Post at len count) is = refl
fails_none (verbs.Send to len seed at) is = refl
fails_none (verbs.ChangeMac own) is = refl
fails_none (verbs.Multicast control group) is = refl
fails_none (verbs.Fill at len seed) is = refl
fails_none (verbs.Poke at bytes) is = refl
fails_none (verbs.Peek at len) is = refl
fails_none (verbs.Tce entry page readable writable) is = absurd (cc)
fails_none (verbs.Hcall number arguments) is = refl
fails_none verbs.Fail is = refl

-- what was put so far, once a step of a line waits, or ends, or none of its values changed
pub keeps_put : (own : List Ended) (before after : Pair) → SameValues before after → AreValuesPut own before → AreValuesPut own after
keeps_put own before after same is = λ e. ap (λ (v : ℕ → List ℕ). v e) same ∙ is e

pub waits_put : (verb : Verb) (did : Moved) (own : List Ended) (before after : Pair) → PairPuts verb before after (Ok (steps.Waits did)) → AreValuesPut own before
    → AreValuesPut own after
waits_put verb did own before after puts is = λ e. puts e ∙ is e

pub ends_put : (verb : Verb) (outcome : Outcome) (own : List Ended) (before after : Pair) → PairPuts verb before after (Ok (steps.Ends outcome)) → AreValuesPut own before
    → AreValuesPut (own ++ record { verb = verb; outcome = outcome } ∷ []) after
ends_put verb outcome own before after puts is = λ e.
    puts e ∙ (ap (λ list. list ++ put_by e verb outcome) (is e) ∙ ap (λ list. (4096 * e + 3) ∷ list) (sym (told_more e own verb outcome)))

-- before the first line
pub first_values : (pair : Pair) → pair.window.rows ≡ [] → AreValuesPut [] pair
unfolding values_of
first_values pair none = λ e. ap (λ (rows : List TceRow). values_of rows e) none

pub values_kept : (old new : List Pair) (k : ℕ) (before after : Pair) → AllSameValues old new → slice_get old k ≡ Some before → slice_get new k ≡ Some after → SameValues before after
values_kept old new k before after same was now =
    let values : Pair → ℕ → List ℕ = λ pair. (known_of pair.window).values in
    some_is (values after) (values before) (sym (ap (option_map values) now) ∙ (same k ∙ ap (option_map values) was))

-- all pairs, one of which was replaced by one with the same values
pub values_set : (pairs : List Pair) (i : ℕ) (old new : Pair) → slice_get pairs i ≡ Some old → SameValues old new → AllSameValues pairs (slice_set pairs i new)
values_set pairs i old new there same k = at (same_or k i)
  where
    values : Pair → ℕ → List ℕ
    values pair = (known_of pair.window).values

    at : (k ≡ i) ⊎ (k ≢ i) → values_in (slice_set pairs i new) k ≡ values_in pairs k
    at (inl e) = subst (λ n. values_in (slice_set pairs i new) n ≡ values_in pairs n) (sym e)
        (ap (option_map values) (get_set_same pairs i new (slice_get_within pairs i old there)) ∙ (ap Some same ∙ sym (ap (option_map values) there)))
    at (inr apart) = ap (option_map values) (get_set_other pairs i k new apart)

pub values_then : (a b c : List Pair) → AllSameValues a b → AllSameValues b c → AllSameValues a c
values_then a b c first next k = next k ∙ first k
