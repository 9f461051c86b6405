-- A turn of a plain client's login goes on and ends as the replay of its lines.
use Rattle.std.proofs.Common.{◌≡◌, ◌∙◌, ◌⊎◌, inl, inr, ℕ, ◌≤◌, ◌++◌, ◌||◌, Bool, true, false, true≢false, List, [], ◌∷◌, Some, Result, Ok, Err, arith, length, refl, sym, ap, ap₂, subst}
use Rattle.std.specs.List.{list_any}
use Rattle.vio_num.specs.declared.memory.NoMemory.{NoMemory}
use Rattle.crq_session.specs.EndState.{EndState}
use Rattle.crq_session.specs.declared.answers.RegAnswer.{RegAnswer}
use Rattle.crq_session.specs.declared.answers.RegAnswer.TheVariants as reg
use Rattle.block_server.specs.Talk.{Word}
use Rattle.block_server.specs.declared.unit.Unit.{Unit}
use Rattle.unit_region.specs.declared.step.Step.{Step as Stepped}
use Rattle.unit_region.specs.declared.step.Step.TheVariants as steps
use Rattle.vio_trace.specs.declared.outcome.Outcome.{Outcome}
use Rattle.vio_trace.specs.declared.outcome.Outcome.TheVariants as outcomes
use Rattle.vio_trace.specs.declared.rows.AnswerRow.{AnswerRow}
use Rattle.vscsi_client.specs.Turned.{AreInOrder, EndsWith, Ends, FollowOn, LoginStep, NoneEnds, Pauses, Runs, SameHands, Site, Steps, Turned, ends_login, ends_turn}
use Rattle.vscsi_client.specs.Turned.LoginStep.{Looked, Registered}
use Rattle.vscsi_client.specs.declared.answers.LoginTurn.{LoginTurn}
use Rattle.vscsi_client.specs.declared.answers.LoginTurn.TheVariants as turns
use Rattle.vscsi_client.specs.declared.found.Found.{Found}
use Rattle.vscsi_client.specs.declared.found.Found.TheVariants.{Granted, Lost, Rejected}
use Rattle.vcpu_run.specs.PlainSteps.{AsksAnew, IsLoginReplayed, LogsInPlainly, MayLogIn, Own, beside, own_by, StepTells}
use Rattle.vcpu_run.specs.PlainTalk.{Between, ServerStays, TalksPlainly}
use Rattle.vcpu_run.specs.Replay.{Replay, login_says}
use Rattle.vcpu_run.specs.Sendings.{SaysTurned}
use Rattle.vcpu_run.proofs.PlainAways.{Opened, anew_looks, anew_pauses, goes_anew}
use Rattle.vcpu_run.proofs.PlainEndings.{end_at}
use Rattle.vcpu_run.proofs.PlainOpens.{GoneWith, gone_with, opened_start, opens_with, rests_start}
use Rattle.vcpu_run.proofs.PlainOutcomes.{EndsAs, ends_on, outcome_of}
use Rattle.vcpu_run.proofs.PlainPauses.{GoesOn, Starts, pauses_on}
use Rattle.vcpu_run.proofs.PlainRests.{Rests}
use Rattle.vcpu_run.proofs.PlainWalks.{both_false, least, part_same, walks}
use Rattle.boot_text.specs.declared.verb.Verb.TheVariants as verbs
use Rattle.vcpu_run.specs.PlainRejected.{IsOfRejection}

-- ---- the registration, and what follows

pub record Splits (line : ℕ) (later : List LoginStep) (answer : RegAnswer) (a b : Site) : Type 0 where
  pub first : Site
  pub registered : Steps line (Registered answer) a first
  pub hands : SameHands a first
  pub runs : Runs line later first b

pub splits : (line : ℕ) (later : List LoginStep) (answer : RegAnswer) (a b : Site) → Runs line (later ++ Registered answer ∷ []) a b → Splits line later answer a b
splits line [] answer a b (m, same, did, hands) = record {
  first = b;
  registered = subst (λ (x : Site). Steps line (Registered answer) x b) same did;
  hands = subst (λ (x : Site). SameHands x b) same hands;
  runs = refl;
}
splits line (step ∷ later) answer a b (m, runs, did, hands) =
    let rest = splits line later answer a m runs in
    record { first = rest.first; registered = rest.registered; hands = rest.hands; runs = (m, rest.runs, did, hands) }

pub none_front : (later : List LoginStep) (step : LoginStep) → NoneEnds (later ++ step ∷ []) → NoneEnds later
none_front [] step going = refl
none_front (first ∷ later) step going =
    let both = both_false (ends_turn first) (list_any ends_turn (later ++ step ∷ [])) going in
    ap₂ (λ (b c : Bool). b || c) both.0 (none_front later step both.1)

-- the last step, behind the registration
pub record LastStep (later : List LoginStep) (answer : RegAnswer) (step : LoginStep) (rest : List LoginStep) : Type 0 where
  pub before : List LoginStep
  pub are : later ≡ step ∷ before
  pub rest_are : before ++ Registered answer ∷ [] ≡ rest

pub last_step : (later : List LoginStep) (answer : RegAnswer) (step : LoginStep) (rest : List LoginStep) → later ++ Registered answer ∷ [] ≡ step ∷ rest
    → LastStep later answer step rest ⊎ ((later ≡ []) × (step ≡ Registered answer))
last_step [] answer step rest is = inr (refl, first_same (Registered answer) step [] rest is)
  where
    first_same : (a b : LoginStep) (xs ys : List LoginStep) → a ∷ xs ≡ b ∷ ys → b ≡ a
    first_same a b xs ys e = cc (e)
last_step (first ∷ later) answer step rest is = inl (record {
  before = later;
  are = ap (λ (s : LoginStep). s ∷ later) (heads first step (later ++ Registered answer ∷ []) rest is);
  rest_are = tails first step (later ++ Registered answer ∷ []) rest is;
})
  where
    heads : (a b : LoginStep) (xs ys : List LoginStep) → a ∷ xs ≡ b ∷ ys → a ≡ b
    heads a b xs ys e = cc (e)

    tails : (a b : LoginStep) (xs ys : List LoginStep) → a ∷ xs ≡ b ∷ ys → xs ≡ ys
    tails a b xs ys e = cc (e)

-- ---- what a turn leaves

abbrev TurnLeaves : (granted : ℕ) → Replay → (last : ℕ) → Between → LoginTurn → Type 0
TurnLeaves granted now last at turns.Again = GoesOn granted now last at
TurnLeaves granted now last at (turns.Granted credits) = EndsAs granted now last at (Granted credits)
TurnLeaves granted now last at (turns.Rejected reason) = EndsAs granted now last at (Rejected reason)
TurnLeaves granted now last at turns.Lost = EndsAs granted now last at Lost
TurnLeaves granted now last at (turns.Busy number held) = ⊥

-- What the steps behind the registration leave: a pause, or an answer.
record Leads (granted line : ℕ) (now : Replay) (at : Between) (answer : RegAnswer) (later : List LoginStep) (b : Site) (server : EndState) : Type 0 where
  pauses : NoneEnds later → Pauses at.own.place.own_slots (later ++ Registered answer ∷ []) b → GoesOn granted now (length at.client.rows) (end_at at b server)
  looks : (found : Found) (before : List LoginStep) → later ≡ Looked found ∷ before → NoneEnds before → ends_login found ≡ true → EndsAs granted now (length at.client.rows) (end_at at b server) found

pub busy_last : (later before : List LoginStep) (answer : RegAnswer) → later ≡ Registered answer ∷ before → FollowOn 1 later → ⊥
busy_last later before answer is follow =
    let order = (subst (FollowOn 1) is follow).0 in
    omega (arith, order, least before)

turn_leaves : (granted line : ℕ) (now : Replay) (at : Between) (answer : RegAnswer) (later steps : List LoginStep) (b : Site) (server : EndState) (turn : LoginTurn)
    → Leads granted line now at answer later b server → steps ≡ later ++ Registered answer ∷ [] → FollowOn 1 later → ends_turn (Registered answer) ≡ false
    → Ends at.own.place.own_slots b turn steps → TurnLeaves granted now (length at.client.rows) (end_at at b server) turn
turn_leaves granted line now at answer later steps b server turn leads is follow going ends = by turn ends
  where
    looked : (found : Found) → ends_login found ≡ true → EndsWith (Looked found) steps → EndsAs granted now (length at.client.rows) (end_at at b server) found
    looked found over last = at_last (last_step later answer (Looked found) last.rest (sym is ∙ last.is))
      where
        at_last : LastStep later answer (Looked found) last.rest ⊎ ((later ≡ []) × (Looked found ≡ Registered answer)) → EndsAs granted now (length at.client.rows) (end_at at b server) found
        at_last (inl one) = leads.looks found one.before one.are (none_front one.before (Registered answer) (subst NoneEnds (sym one.rest_are) last.going)) over
        at_last (inr none) = absurd (cc (none.1))

    by : (turn : LoginTurn) → Ends at.own.place.own_slots b turn steps → TurnLeaves granted now (length at.client.rows) (end_at at b server) turn
    by turns.Again pauses =
        leads.pauses (none_front later (Registered answer) (subst NoneEnds is pauses.going)) (subst (λ (list : List LoginStep). Pauses at.own.place.own_slots list b) is pauses)
    by (turns.Granted credits) last = looked (Granted credits) refl last
    by (turns.Rejected reason) last = looked (Rejected reason) refl last
    by turns.Lost last = looked Lost refl last
    by (turns.Busy number held) last = at_last (last_step later answer (Registered (reg.Busy number held)) last.rest (sym is ∙ last.is))
      where
        at_last : LastStep later answer (Registered (reg.Busy number held)) last.rest ⊎ ((later ≡ []) × (Registered (reg.Busy number held) ≡ Registered answer)) → ⊥
        at_last (inl one) = busy_last later one.before (reg.Busy number held) one.are follow
        at_last (inr none) = true≢false (ap ends_turn none.1 ∙ going)

-- ---- the steps behind the registration

-- from where the queue was registered before
leads_on : (granted line : ℕ) (now : Replay) (at : Between) (answer : RegAnswer) (later : List LoginStep) (first b : Site) (server : EndState) → Starts granted now at
    → Rests granted at (Registered answer ∷ []) first → Runs line later first b → FollowOn 1 later → ServerStays at (end_at at b server) → Leads granted line now at answer later b server
leads_on granted line now at answer later first b server starts rests runs follow stays = record {
  pauses = λ going pauses. pauses_on granted line now at (later ++ Registered answer ∷ []) b server starts stays (walks granted line at answer later first b runs follow going rests) pauses;
  looks = λ found before are going over. at_last found before going over (subst (λ (list : List LoginStep). Runs line list first b) are runs) (subst (FollowOn 1) are follow);
}
  where
    at_last : (found : Found) (before : List LoginStep) → NoneEnds before → ends_login found ≡ true → Runs line (Looked found ∷ before) first b → FollowOn 1 (Looked found ∷ before)
        → EndsAs granted now (length at.client.rows) (end_at at b server) found
    at_last found before going over (m, runs, did, hands) follow =
        ends_on granted line now at (before ++ Registered answer ∷ []) m b server found starts stays (walks granted line at answer before first m runs follow.1 going rests) did hands
        (subst (λ (n : ℕ). n ≤ 1) (sym (part_same before answer)) follow.0) over

-- and from where it is now
leads_anew : (granted line : ℕ) (now : Replay) (at : Between) (answer : RegAnswer) (later : List LoginStep) (first b : Site) (server : EndState) → TalksPlainly granted at []
    → GoneWith granted now at → Opened at (Registered answer ∷ []) first → Runs line later first b → FollowOn 1 later → ServerStays at (end_at at b server)
    → Leads granted line now at answer later b server
leads_anew granted line now at answer later first b server talks gone opened runs follow stays = record {
  pauses = λ going pauses. anew_pauses granted now at (later ++ Registered answer ∷ []) b server talks.calm gone.away talks.tabled gone.freed gone.off gone.none stays
      (goes_anew line at answer later first b runs follow going opened) pauses;
  looks = λ found before are going over. at_last found before going (subst (λ (list : List LoginStep). Runs line list first b) are runs) (subst (FollowOn 1) are follow);
}
  where
    at_last : (found : Found) (before : List LoginStep) → NoneEnds before → Runs line (Looked found ∷ before) first b → FollowOn 1 (Looked found ∷ before)
        → EndsAs granted now (length at.client.rows) (end_at at b server) found
    at_last found before going (m, runs, did, hands) follow =
        absurd (anew_looks line at (before ++ Registered answer ∷ []) m b found (goes_anew line at answer before first m runs follow.1 going opened) did
        (subst (λ (n : ℕ). n ≤ 1) (sym (part_same before answer)) follow.0))

-- ---- the turn

turned_leaves : (granted line : ℕ) (now : Replay) (a b : Site) (unit : Unit) (server server' : EndState) (turn : LoginTurn) → a.at.crq_shared ≡ false → a.at.own_shared ≡ false
    → Turned line a b (Ok turn) → ServerStays (beside unit server (own_by a.client [] a.at.crq a.at.own)) (beside unit server' (own_by b.client [] b.at.crq b.at.own))
    → TalksPlainly granted (beside unit server (own_by a.client [] a.at.crq a.at.own)) [] → MayLogIn granted now (beside unit server (own_by a.client [] a.at.crq a.at.own))
    → TurnLeaves granted now (length a.client.rows) (beside unit server' (own_by b.client [] b.at.crq b.at.own)) turn
turned_leaves granted line now a b unit server server' turn crq own turned stays talks may = by a.at.crq.registered refl
  where
    at : Between
    at = beside unit server (own_by a.client [] a.at.crq a.at.own)

    order : AreInOrder turned.steps
    order = turned.ends.2

    parts : Splits line order.later order.answer a b
    parts = splits line order.later order.answer a b (subst (λ (list : List LoginStep). Runs line list a b) order.is turned.runs)

    leaves : Leads granted line now at order.answer order.later b server' → ends_turn (Registered order.answer) ≡ false → TurnLeaves granted now (length at.client.rows) (end_at at b server') turn
    leaves leads going =
        turn_leaves granted line now at order.answer order.later turned.steps b server' turn leads order.is order.order going turned.ends.1

    by : (there : Bool) → a.at.crq.registered ≡ there → TurnLeaves granted now (length at.client.rows) (end_at at b server') turn
    by true there =
        let with = opens_with granted now at talks may there in
        let start = rests_start granted line at a parts.first order.answer refl refl refl crq own there talks.calm with.stands parts.registered parts.hands in
        leaves (leads_on granted line now at order.answer order.later parts.first b server' with.starts start.0 parts.runs order.order stays) start.1
    by false gone =
        let with = gone_with granted now at talks may gone in
        let start = opened_start granted line at a parts.first order.answer refl refl refl crq talks.calm with.away parts.registered parts.hands in
        leaves (leads_anew granted line now at order.answer order.later parts.first b server' talks with start.0 parts.runs order.order stays) start.1

outcome_is : (granted : ℕ) (now : Replay) (last : ℕ) (at : Between) (found : Found) (outcome : Outcome) (step : Stepped) → outcome_of found ≡ Some outcome
    → step ≡ steps.Ends outcome → IsOfRejection outcome at.unit.id at.window.strokes → EndsAs granted now last at found
    → (words : List Word) × TalksPlainly granted at words × AsksAnew last at.client words × IsLoginReplayed granted now at words step × StepTells verbs.Login step at.unit.id at.window.strokes
outcome_is granted now last at found outcome step of is laid ends = (
  [],
  ends.talks,
  ends.anew,
  subst (IsLoginReplayed granted now at []) (sym is) (some_same outcome (login_says granted now) (sym of ∙ ends.outcome), ends.follows),
  subst (λ (s : Stepped). StepTells verbs.Login s at.unit.id at.window.strokes) (sym is) laid,
)
  where
    some_same : (a b : Outcome) → Some a ≡ Some b → a ≡ b
    some_same a b e = cc (e)

says_on : (granted : ℕ) (now : Replay) (last : ℕ) (at : Between) (turn : LoginTurn) (step : Stepped) → SaysTurned turn step → TurnLeaves granted now last at turn
    → (words : List Word) × TalksPlainly granted at words × AsksAnew last at.client words × IsLoginReplayed granted now at words step × StepTells verbs.Login step at.unit.id at.window.strokes
says_on granted now last at turns.Again (steps.Waits did) says (words, talks, anew, logging, todo) = (words, talks, anew, (logging, todo), tt)
says_on granted now last at turns.Again (steps.Ends outcome) says leaves = absurd says
says_on granted now last at (turns.Granted credits) step says ends = outcome_is granted now last at (Granted credits) (outcomes.Granted credits) step refl says tt ends
says_on granted now last at (turns.Rejected reason) step says ends = outcome_is granted now last at (Rejected reason) (outcomes.Rejected reason) step refl says (ends.laid reason refl) ends
says_on granted now last at turns.Lost step says ends = absurd (cc (ends.outcome))
says_on granted now last at (turns.Busy number held) step says none = absurd none

pub logs_in_plainly : (line : ℕ) (a b : Site) (noted : List AnswerRow) (turn : LoginTurn) (step : Stepped) → a.at.crq_shared ≡ false → a.at.own_shared ≡ false → Turned line a b (Ok turn) → SaysTurned turn step
    → LogsInPlainly (own_by a.client noted a.at.crq a.at.own) (own_by b.client noted b.at.crq b.at.own) (Ok step)
logs_in_plainly line a b noted turn step crq own turned says granted unit server server' now stays talks may =
    let on = says_on granted now (length a.client.rows) (beside unit server' (own_by b.client [] b.at.crq b.at.own)) turn step says
    (turned_leaves granted line now a b unit server server' turn crq own turned stays talks may) in
    (on.0, on.1, on.2, on.3, on.4, refl)

-- a turn for which memory ran out leaves nothing to say
pub logs_err : (old new : Own) (result : Result Stepped NoMemory) (memory : NoMemory) → result ≡ Err memory → LogsInPlainly old new result
logs_err old new result memory is =
    subst (λ (r : Result Stepped NoMemory). LogsInPlainly old new r) (sym is) (λ granted unit server server' now stays talks may. tt)
