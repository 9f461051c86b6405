-- What a step, the taking of all the rest and the putting of events leave of the pairs of plain clients, in the list of all pairs.
use Rattle.std.proofs.Common.{◌≡◌, ◌∙◌, ◌⊎◌, inl, inr, ℕ, IsSomeAnd, List, [], ◌∷◌, false, true, OnOk, Option, Some, None, Result, slice_get, slice_set, length, refl, sym, ap, subst, arith}
use Rattle.std.proofs.lemmas.List.Elements.{All-nil}
use Rattle.std.proofs.lemmas.Option.{slice_get_within}
use Rattle.vio_num.specs.declared.memory.NoMemory.{NoMemory}
use Rattle.boot_text.specs.declared.plan.Line.{Line}
use Rattle.boot_text.specs.declared.verb.Verb.{Verb}
use Rattle.crq_session.specs.PlainState.{side_of}
use Rattle.unit_region.specs.declared.step.Step.{Step}
use Rattle.block_server.specs.Talk.Word.{gone}
use Rattle.vcpu_run.specs.Pairs.{AreDriven}
use Rattle.vcpu_run.specs.PlainScripts.{AllFailPlainly, AllRestPlainly, AllTalkOn, LinePlainly, PairAsks, PairFailed, PairFailsPlainly, PairIs, PairPlainly, PairRestsPlainly, PairTalksOn, SeatPlainly, rows_in}
use Rattle.vcpu_run.specs.PlainSteps.{AsksAnew, WasFailed, IsNewWord, KeepsLogin}
use Rattle.vcpu_run.specs.declared.driver.Driver.{Driver}
use Rattle.vcpu_run.specs.declared.pair.Pair.{Pair}
use Rattle.vcpu_run.specs.declared.script.Progress.{Progress}
use Rattle.vcpu_run.specs.declared.unit_seat.Seat.{Seat}
use Rattle.vcpu_run.specs.declared.unit_seat.Seat.TheVariants as sits
use Rattle.vcpu_run.proofs.Driving.{client_is, get_set_same, no_port, some_is}
use Rattle.vcpu_run.proofs.Moving.{each_ok, each_on, each_same}
use Rattle.vcpu_run.proofs.PlainScripted.{asks_none}

-- ---- taking all the rest, and putting events

rests_same : (pair : Pair) → PairRestsPlainly pair pair
rests_same pair granted unit now talks follows = (talks, asks_none granted unit pair talks, now, follows, (λ before notes. notes), λ rights. rights)

-- nothing was asked twice
none_then : (last : ℕ) (b c : Pair) → PairAsks last [] b → PairAsks (rows_in b.driver) [] c → PairAsks last [] c
none_then last b c = by b.driver c.driver
  where
    by : (x y : Option Driver) → IsSomeAnd x (λ driver. AsksAnew last driver.client []) → IsSomeAnd y (λ driver. AsksAnew (rows_in x) driver.client [])
        → IsSomeAnd y (λ driver. AsksAnew last driver.client [])
    by None y first next = absurd first
    by (Some d) None first next = absurd next
    by (Some d) (Some e) first next = record { more = omega (arith, first.more, next.more); asked = All-nil (IsNewWord last (length e.client.rows)); logins = All-nil (KeepsLogin e.client.rows) }

rests_then : (a b c : Pair) → PairRestsPlainly a b → PairRestsPlainly b c → PairRestsPlainly a c
rests_then a b c first next granted unit now talks follows =
    let (talks', asks, later, left, notes, rights) = first granted unit now talks follows in
    let (talks'', asks', last, left', notes', rights') = next granted unit later talks' left in
    (talks'', none_then (rows_in a.driver) b c asks asks', last, left', (λ before was. notes' before (notes before was)), λ has. rights' (rights has))

talks_same : (pair : Pair) → PairTalksOn pair pair
talks_same pair granted unit talks = (talks, (λ failed. failed), λ rights. rights)

talks_then : (a b c : Pair) → PairTalksOn a b → PairTalksOn b c → PairTalksOn a c
talks_then a b c first next granted unit talks =
    let one = first granted unit talks in
    let two = next granted unit one.0 in (two.0, (λ failed. two.1 (one.1 failed)), λ rights. two.2 (one.2 rights))

pub all_rest_same : (pairs : List Pair) → AllRestPlainly pairs pairs
all_rest_same pairs = each_same PairRestsPlainly pairs rests_same

pub all_rest_on : (a b c : List Pair) → AreDriven a b → AllRestPlainly a b → AllRestPlainly b c → AllRestPlainly a c
all_rest_on a b c = each_on PairRestsPlainly a b c rests_then

pub all_rest_ok : {T E : Type 0} (r : Result T E) (pairs : List Pair) (i : ℕ) (old new : Pair) → slice_get pairs i ≡ Some old → OnOk r (PairRestsPlainly old new)
    → OnOk r (AllRestPlainly pairs (slice_set pairs i new))
all_rest_ok r pairs i old new = each_ok PairRestsPlainly r pairs i old new rests_same

-- ---- the partition fails

fails_same : (pair : Pair) → PairFailsPlainly pair pair
fails_same pair granted unit words talks may = record { later = words; talks = talks; said = inl refl; rows = refl; answers = refl; left = inl (refl, refl); rights = λ rights. rights }

fails_then : (a b c : Pair) → PairFailsPlainly a b → PairFailsPlainly b c → PairFailsPlainly a c
fails_then a b c first next granted unit words talks may = record {
  later = two.later;
  talks = two.talks;
  said = said two.said one.said;
  rows = two.rows ∙ one.rows;
  answers = two.answers ∙ one.answers;
  left = left two.left one.left;
  rights = λ rights. two.rights (one.rights rights);
}
  where
    one : PairFailed granted unit words a b
    one = first granted unit words talks may

    still : ((b ≡ a) × (one.later ≡ words)) ⊎ PairIs WasFailed b → ((words ≡ []) × ((side_of a.link false).registered ≡ true)) ⊎ PairIs WasFailed a
        → ((one.later ≡ []) × ((side_of b.link false).registered ≡ true)) ⊎ PairIs WasFailed b
    still (inr failed) may = inr failed
    still (inl same) (inl is) = inl (same.1 ∙ is.0, ap (λ (pair : Pair). (side_of pair.link false).registered) same.0 ∙ is.1)
    still (inl same) (inr failed) = inr (subst (PairIs WasFailed) (sym same.0) failed)

    two : PairFailed granted unit one.later b c
    two = next granted unit one.later one.talks (still one.left may)

    said : (two.later ≡ one.later) ⊎ (two.later ≡ gone ∷ []) → (one.later ≡ words) ⊎ (one.later ≡ gone ∷ []) → (two.later ≡ words) ⊎ (two.later ≡ gone ∷ [])
    said (inr told) before = inr told
    said (inl same) (inl before) = inl (same ∙ before)
    said (inl same) (inr told) = inr (same ∙ told)

    left : ((c ≡ b) × (two.later ≡ one.later)) ⊎ PairIs WasFailed c → ((b ≡ a) × (one.later ≡ words)) ⊎ PairIs WasFailed b
        → ((c ≡ a) × (two.later ≡ words)) ⊎ PairIs WasFailed c
    left (inr failed) before = inr failed
    left (inl same) (inl before) = inl (same.0 ∙ before.0, same.1 ∙ before.1)
    left (inl same) (inr failed) = inr (subst (PairIs WasFailed) (sym same.0) failed)

pub all_fail_same : (pairs : List Pair) → AllFailPlainly pairs pairs
all_fail_same pairs = each_same PairFailsPlainly pairs fails_same

pub all_fail_on : (a b c : List Pair) → AreDriven a b → AllFailPlainly a b → AllFailPlainly b c → AllFailPlainly a c
all_fail_on a b c = each_on PairFailsPlainly a b c fails_then

pub all_fail_ok : {T E : Type 0} (r : Result T E) (pairs : List Pair) (i : ℕ) (old new : Pair) → slice_get pairs i ≡ Some old → OnOk r (PairFailsPlainly old new)
    → OnOk r (AllFailPlainly pairs (slice_set pairs i new))
all_fail_ok r pairs i old new = each_ok PairFailsPlainly r pairs i old new fails_same

pub all_talk_same : (pairs : List Pair) → AllTalkOn pairs pairs
all_talk_same pairs = each_same PairTalksOn pairs talks_same

pub all_talk_on : (a b c : List Pair) → AreDriven a b → AllTalkOn a b → AllTalkOn b c → AllTalkOn a c
all_talk_on a b c = each_on PairTalksOn a b c talks_then

pub all_talk_ok : {T E : Type 0} (r : Result T E) (pairs : List Pair) (i : ℕ) (old new : Pair) → slice_get pairs i ≡ Some old → OnOk r (PairTalksOn old new)
    → OnOk r (AllTalkOn pairs (slice_set pairs i new))
all_talk_ok r pairs i old new = each_ok PairTalksOn r pairs i old new talks_same

-- ---- a step

pub seat_plainly : (verb : Verb) (p p' : Progress) (result : Result Step NoMemory) (pairs : List Pair) (i : ℕ) (old new : Pair) → slice_get pairs i ≡ Some old
    → PairPlainly verb p p' old new result → SeatPlainly i verb p p' pairs (slice_set pairs i new) result
seat_plainly verb p p' result pairs i old new there is before after b a =
    let first : before ≡ old = some_is before old (sym b ∙ there) in
    let next : after ≡ new = some_is after new (sym a ∙ get_set_same pairs i new (slice_get_within pairs i old there)) in
    subst (λ (x : Pair). PairPlainly verb p p' x after result) (sym first) (subst (λ (x : Pair). PairPlainly verb p p' old x result) (sym next) is)

pub line_plainly : (seats : List Seat) (line : Line) (p p' : Progress) (result : Result Step NoMemory) (i : ℕ) (old new : List Pair)
    → slice_get seats line.unit ≡ Some (sits.Client i) → SeatPlainly i line.verb p p' old new result → LinePlainly seats line p p' old new result
line_plainly seats line p p' result i old new here is k at =
    subst (λ (n : ℕ). SeatPlainly n line.verb p p' old new result) (client_is i k (sym here ∙ at)) is

-- where a port sits, no client does
pub port_plainly : (seats : List Seat) (line : Line) (p p' : Progress) (result : Result Step NoMemory) (old new : List Pair) → slice_get seats line.unit ≡ Some sits.Port
    → LinePlainly seats line p p' old new result
port_plainly seats line p p' result old new here k at = absurd (no_port k (sym at ∙ here))
