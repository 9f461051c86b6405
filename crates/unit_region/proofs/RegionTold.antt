-- What lines in a unit's own region say, and what there is of them: that it is so, and that it is there as long as strokes stay.
use Rattle.std.proofs.Common.{◌≡◌, ◌∙◌, ℕ, zero, suc, ◌*◌, ◌<◌, ◌≤◌, ◌&&◌, nat_le, nat_lt, cond, Bool, true, false, List, [], ◌∷◌, Option, Some, None, Result, Ok, Err, Contains, IfOk, IsSome, length, refl, sym, ap, subst, arith, length-append, append-nil}
use Rattle.std.proofs.lemmas.Bool.Decides.{nat_tests}
use Rattle.std.proofs.lemmas.List.Elements.{Contains-append_right}
use Rattle.vio_num.specs.declared.hypervisor.Hrc.{Hrc}
use Rattle.vio_num.specs.declared.hypervisor.Hrc.TheVariants as codes
use Rattle.vio_num.specs.declared.memory.NoMemory.{NoMemory}
use Rattle.page_slots.specs.Stroke.{StrokeValue}
use Rattle.page_slots.specs.declared.stroke.StrokeName.{StrokeName}
use Rattle.tce_window.specs.PortState.{PortState, Reads, Writes}
use Rattle.tce_window.specs.Puts.{takes}
use Rattle.tce_window.specs.Region.{end_page, first_page, in_region, stroke_on, touches}
use Rattle.tce_window.specs.Strokes.{with_strokes}
use Rattle.boot_text.specs.declared.verb.Verb.{Verb}
use Rattle.boot_text.specs.declared.verb.Verb.TheVariants as verbs
use Rattle.vio_trace.specs.declared.outcome.Outcome.{Outcome}
use Rattle.vio_trace.specs.declared.outcome.Outcome.TheVariants as outcomes
use Rattle.unit_region.specs.Answers.{AnswersPut, AnswersRead, AnswersWrite, tce_of}
use Rattle.unit_region.specs.Pattern.{pattern, pattern_byte}
use Rattle.unit_region.specs.RegionLines.{AreRead, AreWritten, IsFront, IsOn, IsReadIf, IsShown, IsTold, IsWritten, IsWrittenIf, Placed, RegionSays, RegionSeen, RegionShows, StepTold, code_if, read_by, region_seen, written_by}
use Rattle.unit_region.specs.declared.step.Step.{Step}
use Rattle.unit_region.specs.declared.step.Step.TheVariants as steps

pub filled_long : (seed len : ℕ) → length (pattern seed len) ≡ len
filled_long seed zero = refl
filled_long seed (suc n) = let more = length-append (pattern seed n) (pattern_byte seed n ∷ []) in let before = filled_long seed n in omega (arith, more, before)

-- what is so of a step that ended so
pub ends_so : (P : Step → Type 0) (result : Result Step NoMemory) (outcome : Outcome) → IfOk result P → result ≡ Ok (steps.Ends outcome) → P (steps.Ends outcome)
ends_so P result outcome h e = subst (λ (r : Result Step NoMemory). IfOk r P) e h

pub written_says : (is_shared : Bool) (old new : PortState) (at : ℕ) (bytes : List ℕ) (line : ℕ) (outcome : Outcome) → AnswersWrite is_shared old new at bytes line (steps.Ends outcome)
    → IsWritten (in_region old.place.size at (length bytes)) outcome
written_says is_shared old new at bytes line (outcomes.Granted credits) h = absurd h
written_says is_shared old new at bytes line (outcomes.Sent tag) h = absurd h
written_says is_shared old new at bytes line (outcomes.Took count) h = absurd h
written_says is_shared old new at bytes line outcomes.Lost h = absurd h
written_says is_shared old new at bytes line (outcomes.TookThenLost count) h = absurd h
written_says is_shared old new at bytes line (outcomes.Rejected reason) h = absurd h
written_says is_shared old new at bytes line outcomes.Unanswered h = absurd h
written_says is_shared old new at bytes line outcomes.Range h = ap (λ b. cond b outcomes.Done outcomes.Range) (sym h.outside)
written_says is_shared old new at bytes line outcomes.NotLoggedIn h = absurd h
written_says is_shared old new at bytes line (outcomes.NoCredit limit) h = absurd h
written_says is_shared old new at bytes line (outcomes.Overlap tag) h = absurd h
written_says is_shared old new at bytes line outcomes.Closed h = absurd h
written_says is_shared old new at bytes line (outcomes.Dropped number held) h = absurd h
written_says is_shared old new at bytes line (outcomes.Data size sum) h = absurd h
written_says is_shared old new at bytes line (outcomes.Stale page) h = absurd h
written_says is_shared old new at bytes line outcomes.Unknown h = absurd h
written_says is_shared old new at bytes line (outcomes.Code code) h = absurd h
written_says is_shared old new at bytes line (outcomes.Value value) h = absurd h
written_says is_shared old new at bytes line (outcomes.Posted buffers code) h = absurd h
written_says is_shared old new at bytes line (outcomes.Frame code number) h = absurd h
written_says is_shared old new at bytes line outcomes.Done h = ap (λ b. cond b outcomes.Done outcomes.Range) (sym h.inside)
written_says is_shared old new at bytes line (outcomes.Bytes shown) h = absurd h

pub shown_says : (old new : PortState) (at len : ℕ) (outcome : Outcome) → new.place ≡ old.place → AnswersRead old new at len (steps.Ends outcome)
    → IsShown (in_region old.place.size at len) len outcome
shown_says old new at len (outcomes.Granted credits) place h = absurd h
shown_says old new at len (outcomes.Sent tag) place h = absurd h
shown_says old new at len (outcomes.Took count) place h = absurd h
shown_says old new at len outcomes.Lost place h = absurd h
shown_says old new at len (outcomes.TookThenLost count) place h = absurd h
shown_says old new at len (outcomes.Rejected reason) place h = absurd h
shown_says old new at len outcomes.Unanswered place h = absurd h
shown_says old new at len outcomes.Range place h = subst (λ b. IsShown b len outcomes.Range) (sym h) tt
shown_says old new at len outcomes.NotLoggedIn place h = absurd h
shown_says old new at len (outcomes.NoCredit limit) place h = absurd h
shown_says old new at len (outcomes.Overlap tag) place h = absurd h
shown_says old new at len outcomes.Closed place h = absurd h
shown_says old new at len (outcomes.Dropped number held) place h = absurd h
shown_says old new at len (outcomes.Data size sum) place h = absurd h
shown_says old new at len (outcomes.Stale page) place h = absurd h
shown_says old new at len outcomes.Unknown place h = absurd h
shown_says old new at len (outcomes.Code code) place h = absurd h
shown_says old new at len (outcomes.Value value) place h = absurd h
shown_says old new at len (outcomes.Posted buffers code) place h = absurd h
shown_says old new at len (outcomes.Frame code number) place h = absurd h
shown_says old new at len outcomes.Done place h = absurd h
shown_says old new at len (outcomes.Bytes shown) place h =
    let inside : in_region old.place.size at len ≡ true =
    ap (λ p. in_region p.size at len) (sym place) ∙ (ap (in_region new.place.size at) (sym h.long) ∙ h.read.inside) in
    subst (λ b. IsShown b len (outcomes.Bytes shown)) (sym inside) h.long

code_says : (old new : PortState) (entry tce : ℕ) (code : Hrc) → AnswersPut old new entry tce (steps.Ends (outcomes.Code code)) → code ≡ code_if (takes old.place.size (4096 * entry) tce)
code_says old new entry tce codes.Success h = ap code_if (sym h.0)
code_says old new entry tce codes.Busy h = absurd h
code_says old new entry tce codes.Closed h = absurd h
code_says old new entry tce codes.Function h = absurd h
code_says old new entry tce codes.Parameter h = ap code_if (sym h.0)
code_says old new entry tce codes.NotFound h = absurd h
code_says old new entry tce codes.Dropped h = absurd h
code_says old new entry tce codes.SourceParm h = absurd h
code_says old new entry tce codes.DestParm h = absurd h
code_says old new entry tce codes.Resource h = absurd h

pub put_says : (old new : PortState) (entry tce : ℕ) (outcome : Outcome) → AnswersPut old new entry tce (steps.Ends outcome)
    → outcome ≡ outcomes.Code (code_if (takes old.place.size (4096 * entry) tce))
put_says old new entry tce (outcomes.Granted credits) h = absurd h
put_says old new entry tce (outcomes.Sent tag) h = absurd h
put_says old new entry tce (outcomes.Took count) h = absurd h
put_says old new entry tce outcomes.Lost h = absurd h
put_says old new entry tce (outcomes.TookThenLost count) h = absurd h
put_says old new entry tce (outcomes.Rejected reason) h = absurd h
put_says old new entry tce outcomes.Unanswered h = absurd h
put_says old new entry tce outcomes.Range h = absurd h
put_says old new entry tce outcomes.NotLoggedIn h = absurd h
put_says old new entry tce (outcomes.NoCredit limit) h = absurd h
put_says old new entry tce (outcomes.Overlap tag) h = absurd h
put_says old new entry tce outcomes.Closed h = absurd h
put_says old new entry tce (outcomes.Dropped number held) h = absurd h
put_says old new entry tce (outcomes.Data size sum) h = absurd h
put_says old new entry tce (outcomes.Stale page) h = absurd h
put_says old new entry tce outcomes.Unknown h = absurd h
put_says old new entry tce (outcomes.Code code) h = ap (λ c. outcomes.Code c) (code_says old new entry tce code h)
put_says old new entry tce (outcomes.Value value) h = absurd h
put_says old new entry tce (outcomes.Posted buffers code) h = absurd h
put_says old new entry tce (outcomes.Frame code number) h = absurd h
put_says old new entry tce outcomes.Done h = absurd h
put_says old new entry tce (outcomes.Bytes shown) h = absurd h

contains_first : {X : Type 0} (x : X) (rest : List X) → Contains (x ∷ rest) x
contains_first x rest = (zero, omega arith, refl)

-- a write of bytes lays a stroke on each page that they touch
pub touched : (at len page : ℕ) → touches at len page ≡ true → (first_page at ≤ page) × (page < end_page at len)
touched at len page h = both (nat_le (first_page at) page) (nat_lt page (end_page at len)) refl refl h
  where
    both : (a b : Bool) → nat_le (first_page at) page ≡ a → nat_lt page (end_page at len) ≡ b → (a && b) ≡ true → (first_page at ≤ page) × (page < end_page at len)
    both true true e f h = (grind (arith, nat_tests, e), grind (arith, nat_tests, f))
    both true false e f h = absurd (cc)
    both false b e f h = absurd (cc)

pub laid_there : (stroke : StrokeValue) (before after : Option (List StrokeValue)) → after ≡ with_strokes before (stroke ∷ []) → IsSome after → IsOn stroke after
laid_there stroke None after e there = absurd (none after e there)
  where
    false_true : false ≡ true → ⊥
    false_true e = cc

    none : (o : Option (List StrokeValue)) → o ≡ None → IsSome o → ⊥
    none o is some = let found : IsSome {T = List StrokeValue} None = subst (λ (x : Option (List StrokeValue)). IsSome x) is some in false_true found
laid_there stroke (Some strokes) after e there =
    subst (IsOn stroke) (sym e) (Contains-append_right strokes (stroke ∷ []) stroke (contains_first stroke []))

-- a line that writes bytes into the region
pub if_done : (shared : Bool) (old new : PortState) (at : ℕ) (bytes : List ℕ) (mark : ℕ) (P : Type 0) → (Writes shared old at bytes mark new → P) → (outcome : Outcome)
    → AnswersWrite shared old new at bytes mark (steps.Ends outcome) → IsWrittenIf outcome P
if_done shared old new at bytes mark P from (outcomes.Granted credits) answer = tt
if_done shared old new at bytes mark P from (outcomes.Sent tag) answer = tt
if_done shared old new at bytes mark P from (outcomes.Took count) answer = tt
if_done shared old new at bytes mark P from outcomes.Lost answer = tt
if_done shared old new at bytes mark P from (outcomes.TookThenLost count) answer = tt
if_done shared old new at bytes mark P from (outcomes.Rejected reason) answer = tt
if_done shared old new at bytes mark P from outcomes.Unanswered answer = tt
if_done shared old new at bytes mark P from outcomes.Range answer = tt
if_done shared old new at bytes mark P from outcomes.NotLoggedIn answer = tt
if_done shared old new at bytes mark P from (outcomes.NoCredit limit) answer = tt
if_done shared old new at bytes mark P from (outcomes.Overlap tag) answer = tt
if_done shared old new at bytes mark P from outcomes.Closed answer = tt
if_done shared old new at bytes mark P from (outcomes.Dropped number held) answer = tt
if_done shared old new at bytes mark P from (outcomes.Data size sum) answer = tt
if_done shared old new at bytes mark P from (outcomes.Stale page) answer = tt
if_done shared old new at bytes mark P from outcomes.Unknown answer = tt
if_done shared old new at bytes mark P from (outcomes.Code code) answer = tt
if_done shared old new at bytes mark P from (outcomes.Value value) answer = tt
if_done shared old new at bytes mark P from (outcomes.Posted buffers code) answer = tt
if_done shared old new at bytes mark P from (outcomes.Frame code number) answer = tt
if_done shared old new at bytes mark P from outcomes.Done answer = from answer
if_done shared old new at bytes mark P from (outcomes.Bytes shown) answer = tt

-- a line that reads bytes of the region
pub front_of : (strokes : Option (List StrokeValue)) → IsSome strokes → IsFront strokes strokes
front_of None some = absurd (cc (some))
front_of (Some strokes) some = ([], sym (append-nil strokes))

pub if_bytes : (region : RegionSeen) (at : ℕ) (new : PortState) (len : ℕ) (old : PortState) → ((shown : List ℕ) → Reads new at shown → AreRead region at shown) → (outcome : Outcome)
    → AnswersRead old new at len (steps.Ends outcome) → IsReadIf region at outcome
if_bytes region at new len old from (outcomes.Granted credits) answer = tt
if_bytes region at new len old from (outcomes.Sent tag) answer = tt
if_bytes region at new len old from (outcomes.Took count) answer = tt
if_bytes region at new len old from outcomes.Lost answer = tt
if_bytes region at new len old from (outcomes.TookThenLost count) answer = tt
if_bytes region at new len old from (outcomes.Rejected reason) answer = tt
if_bytes region at new len old from outcomes.Unanswered answer = tt
if_bytes region at new len old from outcomes.Range answer = tt
if_bytes region at new len old from outcomes.NotLoggedIn answer = tt
if_bytes region at new len old from (outcomes.NoCredit limit) answer = tt
if_bytes region at new len old from (outcomes.Overlap tag) answer = tt
if_bytes region at new len old from outcomes.Closed answer = tt
if_bytes region at new len old from (outcomes.Dropped number held) answer = tt
if_bytes region at new len old from (outcomes.Data size sum) answer = tt
if_bytes region at new len old from (outcomes.Stale page) answer = tt
if_bytes region at new len old from outcomes.Unknown answer = tt
if_bytes region at new len old from (outcomes.Code code) answer = tt
if_bytes region at new len old from (outcomes.Value value) answer = tt
if_bytes region at new len old from (outcomes.Posted buffers code) answer = tt
if_bytes region at new len old from (outcomes.Frame code number) answer = tt
if_bytes region at new len old from outcomes.Done answer = tt
if_bytes region at new len old from (outcomes.Bytes shown) answer = from shown answer.read

-- a write of bytes, and a read
pub write_there : (shared : Bool) (old new : PortState) (at mark : ℕ) (bytes : List ℕ) → Writes shared old at bytes mark new
    → AreWritten (region_seen new.strokes) old.place.unit mark at bytes
write_there shared old new at mark bytes is page here =
    let name : StrokeName = record { who = old.place.unit; mark = mark } in
    let stroke = stroke_on name at bytes page in
    let w = is.strokes page in
    let within = touched at (length bytes) page here in
    laid_there stroke w.before (new.strokes page) (w.laid ∙ ap (λ b. cond b (with_strokes w.before (stroke ∷ [])) w.before) here) (is.there page within.0 within.1)

pub read_there : (new : PortState) (at : ℕ) (shown : List ℕ) → Reads new at shown → AreRead (region_seen new.strokes) at shown
read_there new at shown is = record {
  fronts = new.strokes;
  there = λ page here. let within = touched at (length shown) page here in (refl, is.there page within.0 within.1);
  read = is.bytes;
}

-- what a step of a line says, by what it answered
wrote : (shared : Bool) (old new : PortState) (at mark size : ℕ) (bytes : List ℕ) (verb : Verb) (outcome : Outcome)
    → (IsWritten (in_region old.place.size at (length bytes)) outcome → RegionSays old.place.size verb outcome)
    → written_by verb ≡ Some (record { at = at; bytes = bytes }) → read_by verb ≡ None → AnswersWrite shared old new at bytes mark (steps.Ends outcome)
    → IsTold (region_seen new.strokes) old.place.size old.place.unit mark verb outcome
wrote shared old new at mark size bytes verb outcome says is no_read answer = record {
  says = says (written_says shared old new at bytes mark outcome answer);
  shows = subst (λ (o : Option Placed). RegionShows (region_seen new.strokes) old.place.unit mark o (read_by verb) outcome) (sym is)
      (subst (λ (o : Option ℕ). RegionShows (region_seen new.strokes) old.place.unit mark (Some (record { at = at; bytes = bytes })) o outcome) (sym no_read)
      (if_done shared old new at bytes mark (AreWritten (region_seen new.strokes) old.place.unit mark at bytes) (write_there shared old new at mark bytes) outcome answer, tt));
}

pub fill_told : (shared : Bool) (old new : PortState) (at len seed mark : ℕ) (verb : Verb) (result : Result Step NoMemory) → verb ≡ verbs.Fill at len seed
    → IfOk result (AnswersWrite shared old new at (pattern seed len) mark)
    → IfOk result (StepTold (region_seen new.strokes) old.place.size old.place.unit mark verb)
fill_told shared old new at len seed mark verb result is answer =
    subst (λ (v : Verb). IfOk result (StepTold (region_seen new.strokes) old.place.size old.place.unit mark v)) (sym is) (by result answer)
  where
    by : (r : Result Step NoMemory) → IfOk r (AnswersWrite shared old new at (pattern seed len) mark)
        → IfOk r (StepTold (region_seen new.strokes) old.place.size old.place.unit mark (verbs.Fill at len seed))
    by (Ok (steps.Ends outcome)) a =
        wrote shared old new at mark old.place.size (pattern seed len) (verbs.Fill at len seed) outcome
        (λ w. subst (λ n. IsWritten (in_region old.place.size at n) outcome) (filled_long seed len) w) refl refl a
    by (Ok (steps.Waits did)) a = tt
    by (Err memory) a = tt

pub poke_told : (shared : Bool) (old new : PortState) (at : ℕ) (bytes : List ℕ) (mark : ℕ) (verb : Verb) (result : Result Step NoMemory) → verb ≡ verbs.Poke at bytes
    → IfOk result (AnswersWrite shared old new at bytes mark)
    → IfOk result (StepTold (region_seen new.strokes) old.place.size old.place.unit mark verb)
poke_told shared old new at bytes mark verb result is answer =
    subst (λ (v : Verb). IfOk result (StepTold (region_seen new.strokes) old.place.size old.place.unit mark v)) (sym is) (by result answer)
  where
    by : (r : Result Step NoMemory) → IfOk r (AnswersWrite shared old new at bytes mark)
        → IfOk r (StepTold (region_seen new.strokes) old.place.size old.place.unit mark (verbs.Poke at bytes))
    by (Ok (steps.Ends outcome)) a = wrote shared old new at mark old.place.size bytes (verbs.Poke at bytes) outcome (λ w. w) refl refl a
    by (Ok (steps.Waits did)) a = tt
    by (Err memory) a = tt

pub peek_told : (old new : PortState) (at len mark : ℕ) (verb : Verb) (result : Result Step NoMemory) → verb ≡ verbs.Peek at len → new.place ≡ old.place
    → IfOk result (AnswersRead old new at len) → IfOk result (StepTold (region_seen new.strokes) old.place.size old.place.unit mark verb)
peek_told old new at len mark verb result is place answer =
    subst (λ (v : Verb). IfOk result (StepTold (region_seen new.strokes) old.place.size old.place.unit mark v)) (sym is) (by result answer)
  where
    by : (r : Result Step NoMemory) → IfOk r (AnswersRead old new at len)
        → IfOk r (StepTold (region_seen new.strokes) old.place.size old.place.unit mark (verbs.Peek at len))
    by (Ok (steps.Ends outcome)) a = record {
      says = shown_says old new at len outcome place a;
      shows = (tt, if_bytes (region_seen new.strokes) at new len old (λ shown. read_there new at shown) outcome a);
    }
    by (Ok (steps.Waits did)) a = tt
    by (Err memory) a = tt

pub tce_told : (old new : PortState) (entry page : ℕ) (readable writable : Bool) (mark : ℕ) (verb : Verb) (result : Result Step NoMemory)
    → verb ≡ verbs.Tce entry page readable writable → IfOk result (AnswersPut old new entry (tce_of page readable writable))
    → IfOk result (StepTold (region_seen new.strokes) old.place.size old.place.unit mark verb)
tce_told old new entry page readable writable mark verb result is answer =
    subst (λ (v : Verb). IfOk result (StepTold (region_seen new.strokes) old.place.size old.place.unit mark v)) (sym is) (by result answer)
  where
    by : (r : Result Step NoMemory) → IfOk r (AnswersPut old new entry (tce_of page readable writable))
        → IfOk r (StepTold (region_seen new.strokes) old.place.size old.place.unit mark (verbs.Tce entry page readable writable))
    by (Ok (steps.Ends outcome)) a = record { says = put_says old new entry (tce_of page readable writable) outcome a; shows = (tt, tt) }
    by (Ok (steps.Waits did)) a = tt
    by (Err memory) a = tt
