-- How far the steps of a turn of a plain client's login came, from where no entry is held.
use Rattle.std.proofs.Common.{◌≡◌, ◌∙◌, ℕ, ◌≤◌, ◌++◌, ◌||◌, Bool, true, false, true≢false, cond, List, [], ◌∷◌, Option, Some, None, IsSome, arith, refl, sym, ap, subst}
use Rattle.std.specs.List.{list_any}
use Rattle.vio_num.specs.declared.entry.Entry.{Entry}
use Rattle.crq_session.specs.declared.answers.RegAnswer.{RegAnswer}
use Rattle.crq_session.specs.declared.answers.SendAnswer.{SendAnswer}
use Rattle.vscsi_client.specs.State.{ClientState}
use Rattle.vscsi_client.specs.Turned.{FollowOn, LoginStep, NoneEnds, Runs, SameHands, Site, Steps, ends_turn, finds_use, is_dropped, is_found_used, part_after, part_of, sent_by, sent_stage}
use Rattle.vscsi_client.specs.Turned.LoginStep.{Began, Looked, NotWritten, Put, RanOut, Registered, Took, TookNone, Wrote}
use Rattle.vscsi_client.specs.declared.stage.Due.{Due}
use Rattle.vcpu_run.specs.PlainTalk.{Between}
use Rattle.vcpu_run.proofs.PlainDues.{IsDue, IsOver, IsPut, IsWritten, due_again, due_begun, due_unput, due_unused, due_written, none_put, none_unwritten, over_begun, put_over, written_again, written_begun, written_put, written_unused}
use Rattle.vcpu_run.proofs.PlainRests.{Holds, Rests, rest_due, rest_held, rests_looked, rests_none}

-- An entry is held, and nothing more is looked at.
pub record Stuck (steps : List LoginStep) (b : Site) : Type 0 where
  pub held : IsSome b.client.held
  pub unused : list_any finds_use steps ≡ false
  pub part : 2 ≤ part_after 1 steps

-- The login's entry was put last, or was dropped, behind which nothing follows.
pub record PutLast (granted line : ℕ) (at : Between) (steps : List LoginStep) (b : Site) : Type 0 where
  pub answer : SendAnswer
  pub put : IsPut granted line at b answer
  pub part : 2 ≤ part_after 1 steps
  pub dropped : is_dropped answer ≡ true → 3 ≤ part_after 1 steps

-- what is so behind these steps
pub data Walked (granted line : ℕ) (at : Between) (steps : List LoginStep) (b : Site) : Type 0 where
  Resting : Rests granted at steps b → Walked granted line at steps b
  Holding : Holds granted line at steps b → Walked granted line at steps b
  Sticking : Stuck steps b → Walked granted line at steps b
  BecameDue : (before : List LoginStep) → steps ≡ Began ∷ before → IsDue granted at b → Walked granted line at steps b
  BecameWritten : (before : List LoginStep) → steps ≡ Wrote ∷ before → IsWritten granted line at b → Walked granted line at steps b
  BecamePut : PutLast granted line at steps b → Walked granted line at steps b

-- steps of the registration stand first
pub least : (steps : List LoginStep) → 1 ≤ part_after 1 steps
least [] = omega arith
least (Registered answer ∷ steps) = omega arith
least (Took ∷ steps) = omega arith
least (TookNone ∷ steps) = omega arith
least (Looked found ∷ steps) = by (is_found_used found)
  where
    by : (b : Bool) → 1 ≤ cond b 2 1
    by true = omega arith
    by false = omega arith
least (Began ∷ steps) = omega arith
least (Wrote ∷ steps) = omega arith
least (NotWritten page word ∷ steps) = omega arith
least (Put due answer ∷ steps) = by (is_dropped answer)
  where
    by : (b : Bool) → 1 ≤ cond b 3 2
    by true = omega arith
    by false = omega arith
least (RanOut ∷ steps) = omega arith

-- what follows a put
pub put_part : (answer : SendAnswer) → 2 ≤ cond (is_dropped answer) 3 2
put_part answer = by (is_dropped answer)
  where
    by : (b : Bool) → 2 ≤ cond b 3 2
    by true = omega arith
    by false = omega arith

pub no_entry : (held : Option Entry) (entry : Entry) → held ≡ None → held ≡ Some entry → ⊥
no_entry held entry none some = cc (none, some)

-- ---- an entry is held, and stays so

keeps_held : (b c : Site) → c.client.held ≡ b.client.held → IsSome b.client.held → IsSome c.client.held
keeps_held b c same some = subst IsSome (sym same) some

pub sent_held : (due : Due) (others : List Due) (answer : SendAnswer) (s : ClientState) → (sent_by due others answer s).held ≡ s.held
sent_held due others answer s = by (is_dropped answer)
  where
    by : (d : Bool) → (cond d s (record s { due = others; login = sent_stage due s.login })).held ≡ s.held
    by true = refl
    by false = refl

stuck_on : (line : ℕ) (step : LoginStep) (steps : List LoginStep) (b c : Site) → IsSome b.client.held → list_any finds_use steps ≡ false → Steps line step b c → 2 ≤ part_of step
    → ends_turn step ≡ false → Stuck (step ∷ steps) c
stuck_on line (Registered answer) steps b c some unused did part going = absurd (omega (arith, part))
stuck_on line Took steps b c some unused did part going = absurd (omega (arith, part))
stuck_on line TookNone steps b c some unused did part going = absurd (omega (arith, part))
stuck_on line (Looked found) steps b c some unused did part going = absurd (omega (arith, part))
stuck_on line Began steps b c some unused did part going = record {
  held = keeps_held b c (ap (λ (s : ClientState). s.held) did.0.client) some;
  unused = unused;
  part = omega arith;
}
stuck_on line Wrote steps b c some unused did part going = record {
  held = keeps_held b c (ap (λ (s : ClientState). s.held) did.1.client) some;
  unused = unused;
  part = omega arith;
}
stuck_on line (NotWritten page word) steps b c some unused did part going = record {
  held = keeps_held b c (ap (λ (s : ClientState). s.held) did.1.client) some;
  unused = unused;
  part = omega arith;
}
stuck_on line (Put due answer) steps b c some unused did part going = record {
  held = keeps_held b c (ap (λ (s : ClientState). s.held) did.0.client ∙ sent_held due did.0.others answer b.client) some;
  unused = unused;
  part = put_part answer;
}
stuck_on line RanOut steps b c some unused did part going = absurd (true≢false going)

-- ---- one step more

from_rest : (granted line : ℕ) (at : Between) (step : LoginStep) (steps : List LoginStep) (b c : Site) → Rests granted at steps b → Steps line step b c → SameHands b c
    → part_after 1 steps ≤ part_of step → ends_turn step ≡ false → Walked granted line at (step ∷ steps) c
from_rest granted line at (Registered answer) steps b c rests did hands order going = absurd (omega (arith, least steps, order))
from_rest granted line at Took steps b c rests did hands order going = Holding (record { before = steps; is = refl; c = b; rests = rests; took = did; hands = hands })
from_rest granted line at TookNone steps b c rests did hands order going = Resting (rests_none granted line at steps b c rests did hands)
from_rest granted line at (Looked found) steps b c rests did hands order going = absurd (no_entry b.client.held did.0.entry (rest_held granted at b rests.rest) did.0.held)
from_rest granted line at Began steps b c rests did hands order going = BecameDue steps refl (due_begun granted line at steps b c rests did hands)
from_rest granted line at Wrote steps b c rests did hands order going = absurd (none_unwritten b.client (rest_due granted at b rests.rest) did.0)
from_rest granted line at (NotWritten page word) steps b c rests did hands order going = absurd (none_unwritten b.client (rest_due granted at b rests.rest) did.0)
from_rest granted line at (Put due answer) steps b c rests did hands order going = absurd (none_put line b c due answer (rest_due granted at b rests.rest) did)
from_rest granted line at RanOut steps b c rests did hands order going = absurd (true≢false going)

from_held : (granted line : ℕ) (at : Between) (step : LoginStep) (steps : List LoginStep) (b c : Site) → Holds granted line at steps b → Steps line step b c → SameHands b c
    → part_after 1 steps ≤ part_of step → ends_turn step ≡ false → Walked granted line at (step ∷ steps) c
from_held granted line at step steps b c holds did hands order going = by step did order going
  where
    some : IsSome b.client.held
    some = subst IsSome (sym (ap (λ (s : ClientState). s.held) holds.took.0.client)) refl

    unused : list_any finds_use steps ≡ false
    unused = ap (list_any finds_use) holds.is ∙ holds.rests.counts.unused

    by : (step : LoginStep) → Steps line step b c → part_after 1 steps ≤ part_of step → ends_turn step ≡ false → Walked granted line at (step ∷ steps) c
    by (Registered answer) did order going = absurd (omega (arith, least steps, order))
    by Took did order going = absurd (no_entry b.client.held holds.took.0.entry did.0.none_held (ap (λ (s : ClientState). s.held) holds.took.0.client))
    by TookNone did order going = Sticking (record { held = keeps_held b c (ap (λ (s : ClientState). s.held) did.0.client) some; unused = unused; part = omega arith })
    by (Looked found) did order going = Resting (rests_looked granted line at steps b c found holds did hands going)
    by Began did order going = Sticking (stuck_on line Began steps b c some unused did (omega arith) going)
    by Wrote did order going = Sticking (stuck_on line Wrote steps b c some unused did (omega arith) going)
    by (NotWritten page word) did order going = Sticking (stuck_on line (NotWritten page word) steps b c some unused did (omega arith) going)
    by (Put due answer) did order going = Sticking (stuck_on line (Put due answer) steps b c some unused did (omega arith) going)
    by RanOut did order going = absurd (true≢false going)

from_due : (granted line : ℕ) (at : Between) (step : LoginStep) (steps : List LoginStep) (b c : Site) → part_after 1 steps ≡ 2 → IsDue granted at b → Steps line step b c → SameHands b c
    → part_after 1 steps ≤ part_of step → ends_turn step ≡ false → Walked granted line at (step ∷ steps) c
from_due granted line at (Registered answer) steps b c part is did hands order going = absurd (omega (arith, part, order))
from_due granted line at Took steps b c part is did hands order going = absurd (omega (arith, part, order))
from_due granted line at TookNone steps b c part is did hands order going = absurd (omega (arith, part, order))
from_due granted line at (Looked found) steps b c part is did hands order going = absurd (omega (arith, part, order))
from_due granted line at Began steps b c part is did hands order going = absurd (due_again granted line at b c is did)
from_due granted line at Wrote steps b c part is did hands order going = BecameWritten steps refl (due_written granted line at b c is did hands)
from_due granted line at (NotWritten page word) steps b c part is did hands order going = absurd (due_unused granted line page word at b c is did)
from_due granted line at (Put due answer) steps b c part is did hands order going = absurd (due_unput granted line at b c due answer is did)
from_due granted line at RanOut steps b c part is did hands order going = absurd (true≢false going)

from_written : (granted line : ℕ) (at : Between) (step : LoginStep) (steps : List LoginStep) (b c : Site) → part_after 1 steps ≡ 2 → IsWritten granted line at b → Steps line step b c
    → part_after 1 steps ≤ part_of step → ends_turn step ≡ false → Walked granted line at (step ∷ steps) c
from_written granted line at (Registered answer) steps b c part is did order going = absurd (omega (arith, part, order))
from_written granted line at Took steps b c part is did order going = absurd (omega (arith, part, order))
from_written granted line at TookNone steps b c part is did order going = absurd (omega (arith, part, order))
from_written granted line at (Looked found) steps b c part is did order going = absurd (omega (arith, part, order))
from_written granted line at Began steps b c part is did order going = absurd (written_begun granted line at b c is did)
from_written granted line at Wrote steps b c part is did order going = absurd (written_again granted line at b c is did)
from_written granted line at (NotWritten page word) steps b c part is did order going = absurd (written_unused granted line page word at b c is did)
from_written granted line at (Put due answer) steps b c part is did order going = BecamePut (record {
  answer = answer;
  put = written_put granted line at b c due answer is did;
  part = put_part answer;
  dropped = λ drops. subst (λ d. 3 ≤ cond d 3 2) (sym drops) (omega arith);
})
from_written granted line at RanOut steps b c part is did order going = absurd (true≢false going)

from_put : (granted line : ℕ) (at : Between) (step : LoginStep) (steps : List LoginStep) (b c : Site) → PutLast granted line at steps b → Steps line step b c
    → part_after 1 steps ≤ part_of step → ends_turn step ≡ false → ⊥
from_put granted line at step steps b c last did order going = by (is_dropped last.answer) refl step did order going
  where
    over : is_dropped last.answer ≡ false → IsOver last.put.c.client last.put.wrote.slot b.client
    over not' = put_over granted line at b last.answer last.put not'

    by : (d : Bool) → is_dropped last.answer ≡ d → (step : LoginStep) → Steps line step b c → part_after 1 steps ≤ part_of step → ends_turn step ≡ false → ⊥
    by d is (Registered answer) did order going = omega (arith, last.part, order)
    by d is Took did order going = omega (arith, last.part, order)
    by d is TookNone did order going = omega (arith, last.part, order)
    by d is (Looked found) did order going = omega (arith, last.part, order)
    by d is RanOut did order going = true≢false going
    by true is Began did order going = omega (arith, last.dropped is, order)
    by true is Wrote did order going = omega (arith, last.dropped is, order)
    by true is (NotWritten page word) did order going = omega (arith, last.dropped is, order)
    by true is (Put due answer) did order going = omega (arith, last.dropped is, order)
    by false is Began did order going = over_begun line last.put.wrote.slot last.put.c.client b c (over is) did
    by false is Wrote did order going = none_unwritten b.client (over is).due did.0
    by false is (NotWritten page word) did order going = none_unwritten b.client (over is).due did.0
    by false is (Put due answer) did order going = none_put line b c due answer (over is).due did

-- ---- all of them

from_any : (granted line : ℕ) (at : Between) (step : LoginStep) (steps : List LoginStep) (b c : Site) → Walked granted line at steps b → Steps line step b c → SameHands b c
    → part_after 1 steps ≤ part_of step → ends_turn step ≡ false → Walked granted line at (step ∷ steps) c
from_any granted line at step steps b c (Resting rests) did hands order going = from_rest granted line at step steps b c rests did hands order going
from_any granted line at step steps b c (Holding holds) did hands order going = from_held granted line at step steps b c holds did hands order going
from_any granted line at step steps b c (Sticking is) did hands order going =
    Sticking (stuck_on line step steps b c is.held is.unused did (omega (arith, is.part, order)) going)
from_any granted line at step steps b c (BecameDue before last is) did hands order going =
    from_due granted line at step steps b c (ap (part_after 1) last) is did hands order going
from_any granted line at step steps b c (BecameWritten before last is) did hands order going =
    from_written granted line at step steps b c (ap (part_after 1) last) is did order going
from_any granted line at step steps b c (BecamePut last) did hands order going = absurd (from_put granted line at step steps b c last did order going)

pub both_false : (a b : Bool) → (a || b) ≡ false → (a ≡ false) × (b ≡ false)
both_false true b e = absurd (true≢false e)
both_false false b e = (refl, e)

-- the registration that stands first changes no part
pub part_same : (later : List LoginStep) (answer : RegAnswer) → part_after 1 (later ++ Registered answer ∷ []) ≡ part_after 1 later
part_same [] answer = refl
part_same (step ∷ later) answer = refl

pub walks : (granted line : ℕ) (at : Between) (answer : RegAnswer) (later : List LoginStep) (a b : Site) → Runs line later a b → FollowOn 1 later → NoneEnds later
    → Rests granted at (Registered answer ∷ []) a → Walked granted line at (later ++ Registered answer ∷ []) b
walks granted line at answer [] a b runs follow going start = Resting (subst (Rests granted at (Registered answer ∷ [])) (sym runs) start)
walks granted line at answer (step ∷ later) a c (b, runs, did, hands) follow going start =
    let both = both_false (ends_turn step) (list_any ends_turn later) going in
    from_any granted line at step (later ++ Registered answer ∷ []) b c (walks granted line at answer later a b runs follow.1 both.1 start) did hands
    (subst (λ (n : ℕ). n ≤ part_of step) (sym (part_same later answer)) follow.0) both.0
