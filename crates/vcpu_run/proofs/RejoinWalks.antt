-- The steps of a turn of a client's login beside a server unit whose session is over, or was, one behind the other.
use Rattle.std.proofs.Common.{◌≡◌, ◌∙◌, ◌⊎◌, inl, inr, ℕ, zero, suc, ◌+◌, ◌≤◌, ◌++◌, ◌||◌, Bool, true, false, true≢false, cond, List, [], ◌∷◌, Option, Some, None, arith, length, refl, sym, ap, subst}
use Rattle.std.specs.List.{list_any}
use Rattle.std.specs.Prelude.{⊤}
use Rattle.vio_num.specs.declared.entry.Entry.{Entry}
use Rattle.crq_session.specs.EndState.{EndState}
use Rattle.crq_session.specs.declared.answers.RegAnswer.{RegAnswer}
use Rattle.block_server.specs.Doings.{Doing}
use Rattle.block_server.specs.Talk.{to_come}
use Rattle.vscsi_client.specs.State.{ClientState}
use Rattle.vscsi_client.specs.Turned.{FollowOn, IsLooked, IsSpent, LoginStep, NoneEnds, Runs, SameHands, Site, Steps, ends_turn, finds_use, found_none_last, is_dropped, part_after, part_of, times_taken}
use Rattle.vscsi_client.specs.Turned.LoginStep.{Began, Looked, NotWritten, Put, RanOut, Registered, Took, TookNone, Wrote}
use Rattle.vscsi_client.specs.declared.found.Found.{Found}
use Rattle.vscsi_client.specs.declared.found.Found.TheVariants as founds
use Rattle.vcpu_run.proofs.RejoinAnswers.{over_keeps, over_nothing, over_use}
use Rattle.vcpu_run.proofs.RejoinBegins.{PutsIn, PutsOn, over_begins}
use Rattle.vcpu_run.proofs.RejoinLooks.{LookedIn, over_shakes}
use Rattle.vcpu_run.proofs.RejoinSends.{over_puts}
use Rattle.vcpu_run.proofs.RejoinSteps.{StepsTo, steps_behind}
use Rattle.vcpu_run.proofs.RejoinTaken.{FoundNone, TookIn, over_none, over_took}
use Rattle.vcpu_run.proofs.RejoinWrites.{over_unwritten, over_writes}
use Rattle.vcpu_run.proofs.PlainWalks.{both_false, least, part_same, sent_held}

-- ---- entries are taken

-- What is so behind steps that took no more than was to come, as many as the queue has slots at most.
pub record TakesIn (promised : Bool) (granted slots : ℕ) (d : Doing) (a : Site) (steps : List LoginStep) (b : Site) : Type 0 where
  pub leads : StepsTo promised granted d a b
  pub left : times_taken steps + length (to_come b.at.crq) ≤ slots
  pub spent : found_none_last steps ≡ true → to_come b.at.crq ≡ []
  pub unused : list_any finds_use steps ≡ false

-- the last of these took, or looked
abbrev pub IsTaking : List LoginStep → Type 0
IsTaking [] = ⊤
IsTaking (step ∷ steps) = part_of step ≤ 1

pub taking_front : (steps : List LoginStep) → part_after 1 steps ≤ 1 → IsTaking steps
taking_front [] few = tt
taking_front (Registered answer ∷ steps) few = omega arith
taking_front (Took ∷ steps) few = omega arith
taking_front (TookNone ∷ steps) few = omega arith
taking_front (Looked found ∷ steps) few = omega arith
taking_front (Began ∷ steps) few = absurd (omega (arith, few))
taking_front (Wrote ∷ steps) few = absurd (omega (arith, few))
taking_front (NotWritten page word ∷ steps) few = absurd (omega (arith, few))
taking_front (Put due answer ∷ steps) few = absurd (by (is_dropped answer) few)
  where
    by : (b : Bool) → cond b 3 2 ≤ 1 → ⊥
    by true few = omega (arith, few)
    by false few = omega (arith, few)
taking_front (RanOut ∷ steps) few = absurd (omega (arith, few))

-- an entry was looked at, which ended nothing
looked_on : (promised : Bool) (granted line slots : ℕ) (d : Doing) (a : Site) (steps : List LoginStep) (b c : Site) (found : Found) → TakesIn promised granted slots d a steps b → Steps line (Looked found) b c → SameHands b c
    → ends_turn (Looked found) ≡ false → TakesIn promised granted slots d a (Looked found ∷ steps) c
looked_on promised granted line slots d a steps b c found takes did hands going = by found did going
  where
    on : (found : Found) → finds_use (Looked found) ≡ false → LookedIn promised granted takes.leads.left b c → TakesIn promised granted slots d a (Looked found ∷ steps) c
    on found none looked = record {
      leads = steps_behind promised promised granted d a b c takes.leads looked.steps;
      left = omega (arith, takes.left, ap (λ (e : EndState). length (to_come e)) looked.end);
      spent = λ last. ap to_come looked.end ∙ takes.spent last;
      unused = ap (λ b'. b' || list_any finds_use steps) none ∙ takes.unused;
    }

    by : (found : Found) → Steps line (Looked found) b c → ends_turn (Looked found) ≡ false → TakesIn promised granted slots d a (Looked found ∷ steps) c
    by (founds.Granted credits) did going = absurd (true≢false going)
    by (founds.Rejected reason) did going = absurd (true≢false going)
    by founds.Lost did going = absurd (true≢false going)
    by founds.Step did going = on founds.Step refl (over_shakes promised granted line takes.leads.left b c takes.leads.stands did hands)
    by founds.Answer did going = on founds.Answer refl (over_keeps promised granted line takes.leads.left b c takes.leads.stands did hands)
    by founds.Nothing did going = absurd (over_nothing promised granted line takes.leads.left b c takes.leads.stands did)
    by (founds.InUse page word) did going = absurd (over_use promised granted line page word takes.leads.left b c takes.leads.stands did)

took_on : (promised : Bool) (granted line slots : ℕ) (d : Doing) (a : Site) (steps : List LoginStep) (b c : Site) (step : LoginStep) → TakesIn promised granted slots d a steps b → Steps line step b c → SameHands b c
    → ends_turn step ≡ false → part_after 1 steps ≤ part_of step → part_of step ≤ 1 → TakesIn promised granted slots d a (step ∷ steps) c
took_on promised granted line slots d a steps b c (Registered answer) takes did hands going order few = absurd (omega (arith, least steps, order))
took_on promised granted line slots d a steps b c Took takes did hands going order few = record {
  leads = steps_behind promised promised granted d a b c takes.leads took.steps;
  left = omega (arith, takes.left, ap length took.come);
  spent = λ last. absurd (true≢false (sym last));
  unused = takes.unused;
}
  where
    took : TookIn promised granted takes.leads.left b c
    took = over_took promised granted line takes.leads.left b c takes.leads.stands did hands
took_on promised granted line slots d a steps b c TookNone takes did hands going order few = record {
  leads = steps_behind promised promised granted d a b c takes.leads none.steps;
  left = omega (arith, takes.left, ap length none.come);
  spent = λ last. none.none;
  unused = takes.unused;
}
  where
    none : FoundNone promised granted takes.leads.left b c
    none = over_none promised granted line takes.leads.left b c takes.leads.stands did hands
took_on promised granted line slots d a steps b c (Looked found) takes did hands going order few = looked_on promised granted line slots d a steps b c found takes did hands going
took_on promised granted line slots d a steps b c Began takes did hands going order few = absurd (omega (arith, few))
took_on promised granted line slots d a steps b c Wrote takes did hands going order few = absurd (omega (arith, few))
took_on promised granted line slots d a steps b c (NotWritten page word) takes did hands going order few = absurd (omega (arith, few))
took_on promised granted line slots d a steps b c (Put due answer) takes did hands going order few = absurd (omega (arith, few))
took_on promised granted line slots d a steps b c RanOut takes did hands going order few = absurd (omega (arith, few))

pub takes_all : (promised : Bool) (granted line slots : ℕ) (d : Doing) (a first : Site) (answer : RegAnswer) (later : List LoginStep) (b : Site) → TakesIn promised granted slots d a (Registered answer ∷ []) first
    → Runs line later first b → FollowOn 1 later → NoneEnds later → IsTaking later → TakesIn promised granted slots d a (later ++ Registered answer ∷ []) b
takes_all promised granted line slots d a first answer [] b start runs follow going taking = subst (TakesIn promised granted slots d a (Registered answer ∷ [])) (sym runs) start
takes_all promised granted line slots d a first answer (step ∷ later) c start (b, runs, did, hands) follow going taking =
    let both = both_false (ends_turn step) (list_any ends_turn later) going in
    let before : part_after 1 later ≤ 1 = omega (arith, follow.0, taking) in
    took_on promised granted line slots d a (later ++ Registered answer ∷ []) b c step
    (takes_all promised granted line slots d a first answer later b start runs follow.1 both.1 (taking_front later before)) did hands both.0
    (subst (λ (n : ℕ). n ≤ part_of step) (sym (part_same later answer)) follow.0) taking

-- ---- nothing more is to come

-- What is so then: nothing is held.
pub record PutsAll (promised : Bool) (granted : ℕ) (d : Doing) (a b : Site) : Type 0 where
  pub leads : StepsTo promised granted d a b
  pub none : to_come b.at.crq ≡ []
  pub held : b.client.held ≡ None

pub puts_in : (promised : Bool) (granted : ℕ) (d : Doing) (a b : Site) → (all : PutsAll promised granted d a b) → PutsIn promised granted all.leads.left b
puts_in promised granted d a b all = record { stands = all.leads.stands; none = all.none; held = all.held }

puts_more : (promised : Bool) (granted : ℕ) (d : Doing) (a b c : Site) → (all : PutsAll promised granted d a b) → PutsOn promised granted all.leads.left b c → PutsAll promised granted d a c
puts_more promised granted d a b c all on = record { leads = steps_behind promised promised granted d a b c all.leads on.steps; none = on.none; held = on.held }

no_length : (list : List Entry) → length list ≤ 0 → list ≡ []
no_length [] few = refl
no_length (entry ∷ list) few = absurd (omega (arith, few))

pub all_taken : (promised : Bool) (granted slots : ℕ) (d : Doing) (a : Site) (steps : List LoginStep) (b : Site) → TakesIn promised granted slots d a steps b → IsSpent slots steps → IsLooked b.client.held steps
    → PutsAll promised granted d a b
all_taken promised granted slots d a steps b takes spent looked = record { leads = takes.leads; none = by spent; held = at b.client.held refl looked }
  where
    by : IsSpent slots steps → to_come b.at.crq ≡ []
    by (inl last) = takes.spent last
    by (inr (inl all)) = no_length (to_come b.at.crq) (omega (arith, takes.left, all))
    by (inr (inr used)) = absurd (true≢false (sym used ∙ takes.unused))

    at : (held : Option Entry) → b.client.held ≡ held → IsLooked held steps → b.client.held ≡ None
    at None is looked = is
    at (Some entry) is looked = absurd (true≢false (sym looked ∙ takes.unused))

-- ---- entries are put

-- The client holds as much as before a step that puts something.
pub held_put : (line : ℕ) (step : LoginStep) (b c : Site) → Steps line step b c → 2 ≤ part_of step → ends_turn step ≡ false → c.client.held ≡ b.client.held
held_put line (Registered answer) b c did part going = absurd (omega (arith, part))
held_put line Took b c did part going = absurd (omega (arith, part))
held_put line TookNone b c did part going = absurd (omega (arith, part))
held_put line (Looked found) b c did part going = absurd (omega (arith, part))
held_put line Began b c did part going = ap (λ (s : ClientState). s.held) did.0.client
held_put line Wrote b c did part going = ap (λ (s : ClientState). s.held) did.1.client
held_put line (NotWritten page word) b c did part going = ap (λ (s : ClientState). s.held) did.1.client
held_put line (Put due answer) b c did part going = ap (λ (s : ClientState). s.held) did.0.client ∙ sent_held due did.0.others answer b.client
held_put line RanOut b c did part going = absurd (true≢false going)

put_on : (promised : Bool) (granted line : ℕ) (d : Doing) (a b c : Site) (step : LoginStep) → PutsAll promised granted d a b → Steps line step b c → SameHands b c → ends_turn step ≡ false → 2 ≤ part_of step
    → PutsAll promised granted d a c
put_on promised granted line d a b c (Registered answer) all did hands going part = absurd (omega (arith, part))
put_on promised granted line d a b c Took all did hands going part = absurd (omega (arith, part))
put_on promised granted line d a b c TookNone all did hands going part = absurd (omega (arith, part))
put_on promised granted line d a b c (Looked found) all did hands going part = absurd (omega (arith, part))
put_on promised granted line d a b c Began all did hands going part =
    puts_more promised granted d a b c all (over_begins promised granted line all.leads.left b c (puts_in promised granted d a b all) did hands)
put_on promised granted line d a b c Wrote all did hands going part =
    puts_more promised granted d a b c all (over_writes promised granted line all.leads.left b c (puts_in promised granted d a b all) did hands)
put_on promised granted line d a b c (NotWritten page word) all did hands going part = absurd (over_unwritten promised granted line page word all.leads.left b c (puts_in promised granted d a b all) did)
put_on promised granted line d a b c (Put due answer) all did hands going part =
    puts_more promised granted d a b c all (over_puts promised granted line due answer all.leads.left b c (puts_in promised granted d a b all) did hands)
put_on promised granted line d a b c RanOut all did hands going part = absurd (true≢false going)

spent_same : (slots : ℕ) (steps : List LoginStep) (last used : Bool) → (last ≡ true) ⊎ ((0 + times_taken steps ≡ slots) ⊎ (used ≡ true)) → (last ≡ true) ⊎ ((times_taken steps ≡ slots) ⊎ (used ≡ true))
spent_same slots steps last used (inl none) = inl none
spent_same slots steps last used (inr (inl all)) = inr (inl (omega (arith, all)))
spent_same slots steps last used (inr (inr is)) = inr (inr is)

-- whether nothing more is to be taken is as before a step that puts something
pub spent_put : (slots : ℕ) (step : LoginStep) (steps : List LoginStep) → 2 ≤ part_of step → ends_turn step ≡ false → IsSpent slots (step ∷ steps) → IsSpent slots steps
spent_put slots (Registered answer) steps part going spent = absurd (omega (arith, part))
spent_put slots Took steps part going spent = absurd (omega (arith, part))
spent_put slots TookNone steps part going spent = absurd (omega (arith, part))
spent_put slots (Looked found) steps part going spent = absurd (omega (arith, part))
spent_put slots Began steps part going spent = spent_same slots steps (found_none_last steps) (list_any finds_use steps) spent
spent_put slots Wrote steps part going spent = spent_same slots steps (found_none_last steps) (list_any finds_use steps) spent
spent_put slots (NotWritten page word) steps part going spent = spent_same slots steps (found_none_last steps) (list_any finds_use steps) spent
spent_put slots (Put due answer) steps part going spent = spent_same slots steps (found_none_last steps) (list_any finds_use steps) spent
spent_put slots RanOut steps part going spent = absurd (true≢false going)

pub looked_put : (held : Option Entry) (step : LoginStep) (steps : List LoginStep) → 2 ≤ part_of step → ends_turn step ≡ false → IsLooked held (step ∷ steps) → IsLooked held steps
looked_put None step steps part going looked = tt
looked_put (Some entry) (Registered answer) steps part going looked = absurd (omega (arith, part))
looked_put (Some entry) Took steps part going looked = absurd (omega (arith, part))
looked_put (Some entry) TookNone steps part going looked = absurd (omega (arith, part))
looked_put (Some entry) (Looked found) steps part going looked = absurd (omega (arith, part))
looked_put (Some entry) Began steps part going looked = looked
looked_put (Some entry) Wrote steps part going looked = looked
looked_put (Some entry) (NotWritten page word) steps part going looked = looked
looked_put (Some entry) (Put due answer) steps part going looked = looked
looked_put (Some entry) RanOut steps part going looked = absurd (true≢false going)

-- a step takes, or puts
parted : (n : ℕ) → (n ≤ 1) ⊎ (2 ≤ n)
parted zero = inl (omega arith)
parted (suc zero) = inl (omega arith)
parted (suc (suc n)) = inr (omega arith)

pub puts_all : (promised : Bool) (granted line slots : ℕ) (d : Doing) (a first : Site) (answer : RegAnswer) (later : List LoginStep) (b : Site) → TakesIn promised granted slots d a (Registered answer ∷ []) first
    → Runs line later first b → FollowOn 1 later → NoneEnds later → IsSpent slots (later ++ Registered answer ∷ []) → IsLooked b.client.held (later ++ Registered answer ∷ [])
    → PutsAll promised granted d a b
puts_all promised granted line slots d a first answer [] b start runs follow going spent looked =
    all_taken promised granted slots d a (Registered answer ∷ []) b (subst (TakesIn promised granted slots d a (Registered answer ∷ [])) (sym runs) start) spent looked
puts_all promised granted line slots d a first answer (step ∷ later) c start (b, runs, did, hands) follow going spent looked =
    by (parted (part_of step)) (λ part. puts_all promised granted line slots d a first answer later b start runs follow.1 both.1
    (spent_put slots step (later ++ Registered answer ∷ []) part both.0 spent)
    (subst (λ (held : Option Entry). IsLooked held (later ++ Registered answer ∷ [])) (held_put line step b c did part both.0)
    (looked_put c.client.held step (later ++ Registered answer ∷ []) part both.0 looked)))
  where
    both : (ends_turn step ≡ false) × (NoneEnds later)
    both = both_false (ends_turn step) (list_any ends_turn later) going

    by : (part_of step ≤ 1) ⊎ (2 ≤ part_of step) → (2 ≤ part_of step → PutsAll promised granted d a b) → PutsAll promised granted d a c
    by (inl few) rest =
        all_taken promised granted slots d a (step ∷ (later ++ Registered answer ∷ [])) c (takes_all promised granted line slots d a first answer (step ∷ later) c start (b, runs, did, hands) follow going few)
        spent looked
    by (inr part) rest = put_on promised granted line d a b c step (rest part) did hands both.0 part
