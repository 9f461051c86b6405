-- A list of values that is read in the region, and put into the entries of the window.
use Rattle.std.proofs.Common.{◌≡◌, ◌≢◌, ◌↔◌, ◌≤◌, ◌+◌, ◌*◌, ◌/◌, ◌++◌, ◌<◌, ℕ, Bool, true, false, List, Option, Result, Ok, Err, IfOk, arith, length, refl, sym, ap, subst, ◌∙◌}
use Rattle.std.proofs.lemmas.Bool.Decides.{nat_tests}
use Rattle.vio_num.specs.declared.hypervisor.Hrc.{Hrc}
use Rattle.vio_num.specs.declared.hypervisor.Hrc.TheVariants as codes
use Rattle.vio_num.specs.declared.memory.NoMemory.{NoMemory}
use Rattle.page_slots.specs.Stroke.{StrokeValue}
use Rattle.tce_window.specs.PortState.{IsHeldEntry, OnlyPuts, OnlyReads, PortPlace, PortState, Puts, Reads}
use Rattle.tce_window.specs.Puts.{put_by, put_into, takes_all}
use Rattle.tce_window.specs.Region.{ReadsRange}
use Rattle.tce_window.specs.declared.answers.TceAnswer.{TceAnswer}
use Rattle.tce_window.specs.declared.answers.TceAnswer.TheVariants.{Parameter}
use Rattle.unit_region.specs.EntryAnswers.{AreValuesOf, PutsEach, PutsList, PutsValues, ReadsList, is_list}
use Rattle.unit_region.specs.EntryRows.{tce_code}
use Rattle.unit_region.proofs.Taking.{stuffed}

-- what a list that lies in the region is
pub record Lies (pages list count : ℕ) : Type 0 where
  pub few : count ≤ 512
  pub inside : list + 8 * count ≤ 4096 * pages

pub lies : (pages list count : ℕ) → is_list pages list count ≡ true → Lies pages list count
lies pages list count is = record { few = grind (arith, nat_tests, is); inside = grind (arith, nat_tests, is) }

-- the values of a list's bytes were put
pub values_put : (old mid new : PortState) (address : ℕ) (bytes values : List ℕ) (answer : TceAnswer) (code : Hrc) → mid ≡ old → code ≡ tce_code answer
    → AreValuesOf bytes values → ((answer ≡ Parameter) ↔ (takes_all mid.place.size address values ≡ false)) → Puts mid address (put_by answer values) new → OnlyPuts mid new
    → PutsValues old new address bytes code
values_put old mid new address bytes values answer code same is spelled parameter put only =
    let each : PutsEach old new address values code = stuffed old mid new address values answer code same is parameter put in
    record {
      values = values;
      spelled = spelled;
      strokes = only.strokes ∙ ap (λ (port : PortState). port.strokes) same;
      place = only.place ∙ ap (λ (port : PortState). port.place) same;
      parameter = each.parameter;
      put = each.put;
    }

-- what was put behind a read was put
puts_over : (shared : Bool) (old mid new : PortState) (address : ℕ) (values : List ℕ) → OnlyReads shared old mid → Puts mid address values new → Puts old address values new
puts_over shared old mid new address values only put = record {
  values = λ e. put.values e ∙ ap (λ (v : ℕ → List ℕ). v e ++ put_into (address / 4096) values e) only.values;
  held = λ e held. put.held e (held_still e held) ∙ ap (λ (v : ℕ → List ℕ). v e) only.values;
}
  where
    held_still : (e : ℕ) → IsHeldEntry old e → IsHeldEntry mid e
    held_still e held = (
      subst (λ from. from ≤ e) (sym only.held_from) held.0,
      subst (λ from. e < from + mid.held_count) (sym only.held_from) (subst (λ count. e < old.held_from + count) (sym only.held_count) held.1),
    )

read_on : (mid new : PortState) (list : ℕ) (bytes : List ℕ) → new.strokes ≡ mid.strokes → new.place ≡ mid.place → Reads mid list bytes → Reads new list bytes
read_on mid new list bytes strokes place reads =
    subst (λ (s : ℕ → Option (List StrokeValue)). ReadsRange s new.place.size list bytes) (sym strokes)
    (subst (λ (place : PortPlace). ReadsRange mid.strokes place.size list bytes) (sym place) reads)

-- a list was read, and its values were put or not
pub list_put : (shared : Bool) (old mid new : PortState) (address list count : ℕ) (bytes : List ℕ) (code : Hrc) → is_list old.place.size list count ≡ true
    → length bytes ≡ 8 * count → OnlyReads shared old mid → (length bytes ≢ 0 → Reads mid list bytes) → PutsValues mid new address bytes code
    → PutsList old new address list count code
list_put shared old mid new address list count bytes code lies many only reads puts = record {
  missing = λ e. absurd (cc (e, lies));
  refused = λ e is. (read, subst (λ (place : PortPlace). takes_all place.size address puts.values ≡ false) only.place (puts.parameter.0 e));
  put = λ e. (
    read,
    subst (λ (place : PortPlace). takes_all place.size address puts.values ≡ true) only.place (taken e (takes_all mid.place.size address puts.values) refl),
    puts_over shared old mid new address puts.values only (puts.put e),
  );
}
  where
    no_success : codes.Parameter ≡ codes.Success → ⊥
    no_success e = cc (e)

    taken : code ≡ codes.Success → (b : Bool) → takes_all mid.place.size address puts.values ≡ b → takes_all mid.place.size address puts.values ≡ true
    taken e true is = is
    taken e false is = absurd (no_success (sym (puts.parameter.1 is) ∙ e))

    read : ReadsList new list count
    read = record {
      bytes = bytes;
      values = puts.values;
      count_is = omega (arith, many, puts.spelled.0);
      spelled = puts.spelled;
      read = λ some. read_on mid new list bytes puts.strokes puts.place (reads (λ none. some (omega (arith, none, many))));
    }

-- a list that lies nowhere is refused, and one that was in use is left
pub list_missing : (old new : PortState) (address list count : ℕ) → is_list old.place.size list count ≡ false → PutsList old new address list count codes.Parameter
list_missing old new address list count none = record {
  missing = λ e. refl;
  refused = λ e is. absurd (cc (is, none));
  put = λ e. absurd (cc (e));
}

pub list_in_use : (old new : PortState) (address list count : ℕ) (code : Hrc) → is_list old.place.size list count ≡ true → code ≡ codes.Busy
    → PutsList old new address list count code
list_in_use old new address list count code lies busy = record {
  missing = λ e. absurd (cc (e, lies));
  refused = λ e is. absurd (cc (e, busy));
  put = λ e. absurd (cc (e, busy));
}

-- the same of what was answered, if anything was
pub list_put_ok : (shared : Bool) (old mid new : PortState) (address list count : ℕ) (bytes : List ℕ) (result : Result Hrc NoMemory) → is_list old.place.size list count ≡ true
    → length bytes ≡ 8 * count → OnlyReads shared old mid → (length bytes ≢ 0 → Reads mid list bytes) → IfOk result (PutsValues mid new address bytes)
    → IfOk result (PutsList old new address list count)
list_put_ok shared old mid new address list count bytes (Ok code) lies many only reads puts = list_put shared old mid new address list count bytes code lies many only reads puts
list_put_ok shared old mid new address list count bytes (Err memory) lies many only reads puts = tt
