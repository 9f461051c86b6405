-- What a login's turn and the taking of entries leave of what the records tell of a client's answers.
use Rattle.std.proofs.Common.{◌≡◌, ◌∙◌, ℕ, ◌+◌, ◌≤◌, ◌==◌, ◌||◌, Bool, true, false, cond, List, [], ◌∷◌, ◌++◌, find, Some, Ok, IsSomeAnd, length, refl, sym, ap, subst, arith, eqb-true, length-append}
use Rattle.std.specs.Option.{option_map}
use Rattle.std.proofs.lemmas.List.{map-append}
use Rattle.boot_text.specs.declared.verb.Verb.{Verb}
use Rattle.boot_text.specs.declared.verb.Verb.TheVariants as verbs
use Rattle.vio_num.specs.declared.entry.Entry.{Entry}
use Rattle.vio_num.specs.declared.hypervisor.Moved.{Moved}
use Rattle.vio_trace.specs.declared.outcome.Outcome.{Outcome}
use Rattle.vio_trace.specs.declared.outcome.Outcome.TheVariants as outcomes
use Rattle.vio_trace.specs.declared.rows.AnswerRow.{AnswerRow}
use Rattle.unit_region.specs.declared.step.Step.{Step}
use Rattle.unit_region.specs.declared.step.Step.TheVariants as steps
use Rattle.crq_session.specs.declared.answers.RegAnswer.TheVariants as reg
use Rattle.crq_session.specs.declared.answers.SendAnswer.{SendAnswer}
use Rattle.srp_iu.specs.declared.response.Rsp.{Rsp as Response}
use Rattle.vscsi_client.specs.declared.answers.LoginTurn.{LoginTurn}
use Rattle.vscsi_client.specs.declared.answers.LoginTurn.TheVariants as turns
use Rattle.vscsi_client.specs.declared.answers.Taken.{Taken}
use Rattle.vscsi_client.specs.declared.answers.Taken.TheVariants as takens
use Rattle.vscsi_client.specs.declared.found.Found.{Found}
use Rattle.vscsi_client.specs.declared.found.Found.TheVariants as found
use Rattle.vscsi_client.specs.declared.outgoing.Outgoing.{Outgoing}
use Rattle.vscsi_client.specs.declared.row.Row.{Row}
use Rattle.vscsi_client.specs.declared.row.Row.TheVariants as rows
use Rattle.vscsi_client.specs.declared.stage.Due.{Due}
use Rattle.vscsi_client.specs.Login.{found_by}
use Rattle.vscsi_client.specs.Ports.{Ports}
use Rattle.vscsi_client.specs.State.{ClientState, tags_of}
use Rattle.vscsi_client.specs.Taking.{TakesEntry, answered, slot_of, without_tag}
use Rattle.vscsi_client.specs.Turned.{Site, LoginStep, Registered, Took, TookNone, Looked, Began, Wrote, NotWritten, Put, RanOut, Steps, Runs, is_dropped, sent_by, sent_stage}
use Rattle.vcpu_run.specs.declared.driver.Driver.{Driver}
use Rattle.vcpu_run.specs.AnswersTaken.{TakesNow, answered_tags, has_tag, takes_by}
use Rattle.vcpu_run.specs.Credited.{is_take}
use Rattle.vcpu_run.specs.Sendings.{SaysTurned}
use Rattle.vcpu_run.specs.Takings.{AgreesTaken, FitsTag, Notes, StepsTaken, TookTaken}
use Rattle.vcpu_run.specs.declared.taking.Took.TheVariants as tooks
use Rattle.vcpu_run.proofs.TagsKept.{fits_answered, fits_more, fits_none, tags_fewer}
use Rattle.vcpu_run.proofs.AnswersCounted.{is_data, no_inward, said_none}

-- What a client keeps of its tags is as it was.
abbrev pub KeepsTags : ClientState → ClientState → Type 0
KeepsTags s s' = (tags inward : List ℕ) → ((t : ℕ) → FitsTag s.rows (tags_of s.outgoing) tags inward t) → (t : ℕ) → FitsTag s'.rows (tags_of s'.outgoing) tags inward t

tags_same : (s s' : ClientState) → s'.rows ≡ s.rows → s'.outgoing ≡ s.outgoing → KeepsTags s s'
tags_same s s' r o = λ tags inward fits t.
    subst (λ (rs : List Row). FitsTag rs (tags_of s'.outgoing) tags inward t) (sym r) (subst (λ (os : List Outgoing). FitsTag s.rows (tags_of os) tags inward t) (sym o) (fits t))

tags_none : (s s' : ClientState) → s'.rows ≡ s.rows → s'.outgoing ≡ [] → KeepsTags s s'
tags_none s s' r o = λ tags inward fits t.
    subst (λ (rs : List Row). FitsTag rs (tags_of s'.outgoing) tags inward t) (sym r)
    (subst (λ (os : List Outgoing). FitsTag s.rows (tags_of os) tags inward t) (sym o) (fits_none s.rows (tags_of s.outgoing) tags inward t (fits t)))

tags_login : (s s' : ClientState) → s'.rows ≡ s.rows ++ rows.Login ∷ [] → s'.outgoing ≡ s.outgoing → KeepsTags s s'
tags_login s s' r o = λ tags inward fits t.
    subst (λ (rs : List Row). FitsTag rs (tags_of s'.outgoing) tags inward t) (sym r)
    (subst (λ (os : List Outgoing). FitsTag (s.rows ++ rows.Login ∷ []) (tags_of os) tags inward t) (sym o)
    (fits_more s.rows rows.Login (tags_of s.outgoing) (tags_of s.outgoing) tags inward inward t (fits t) (λ e. refl) (λ e. refl)
    (λ e. no_inward s.rows (tags_of s.outgoing) tags inward t (fits t) (let same : length s.rows + 1 ≡ t = eqb-true (length s.rows + 1) t e in omega (arith, same))) refl))

tags_found : (entry : Entry) (f : Found) (s s' : ClientState) → s' ≡ found_by entry f s → KeepsTags s s'
tags_found entry (found.Granted credits) s s' is = tags_none s s' (ap (λ (t : ClientState). t.rows) is) (ap (λ (t : ClientState). t.outgoing) is)
tags_found entry (found.Rejected reason) s s' is = tags_same s s' (ap (λ (t : ClientState). t.rows) is) (ap (λ (t : ClientState). t.outgoing) is)
tags_found entry found.Lost s s' is = tags_none s s' (ap (λ (t : ClientState). t.rows) is) (ap (λ (t : ClientState). t.outgoing) is)
tags_found entry found.Step s s' is = tags_same s s' (ap (λ (t : ClientState). t.rows) is) (ap (λ (t : ClientState). t.outgoing) is)
tags_found entry found.Answer s s' is = tags_same s s' (ap (λ (t : ClientState). t.rows) is) (ap (λ (t : ClientState). t.outgoing) is)
tags_found entry found.Nothing s s' is = tags_same s s' (ap (λ (t : ClientState). t.rows) is) (ap (λ (t : ClientState). t.outgoing) is)
tags_found entry (found.InUse page word) s s' is = tags_same s s' (ap (λ (t : ClientState). t.rows) is) (ap (λ (t : ClientState). t.outgoing) is)

tags_put : (due : Due) (others : List Due) (answer : SendAnswer) (s : ClientState) → KeepsTags s (sent_by due others answer s)
tags_put due others answer s = at (is_dropped answer)
  where
    at : (b : Bool) → KeepsTags s (cond b s (record s { due = others; login = sent_stage due s.login }))
    at true = tags_same s s refl refl
    at false = tags_same s (record s { due = others; login = sent_stage due s.login }) refl refl

tags_step : (line : ℕ) (step : LoginStep) (a b : Site) → Steps line step a b → KeepsTags a.client b.client
tags_step line (Registered reg.Resource) a b h = tags_same a.client b.client (ap (λ (t : ClientState). t.rows) h.0.registers.2) (ap (λ (t : ClientState). t.outgoing) h.0.registers.2)
tags_step line (Registered reg.Success) a b h = tags_none a.client b.client (ap (λ (t : ClientState). t.rows) h.0.registers.2) (ap (λ (t : ClientState). t.outgoing) h.0.registers.2)
tags_step line (Registered (reg.Closed control)) a b h = tags_none a.client b.client (ap (λ (t : ClientState). t.rows) h.0.registers.2) (ap (λ (t : ClientState). t.outgoing) h.0.registers.2)
tags_step line (Registered (reg.Busy number held)) a b h = tags_none a.client b.client (ap (λ (t : ClientState). t.rows) h.0.registers.1) (ap (λ (t : ClientState). t.outgoing) h.0.registers.1)
tags_step line (Registered reg.Parameter) a b h = absurd h.0.registers
tags_step line Took a b h = tags_same a.client b.client (ap (λ (t : ClientState). t.rows) h.0.client) (ap (λ (t : ClientState). t.outgoing) h.0.client)
tags_step line TookNone a b h = tags_same a.client b.client (ap (λ (t : ClientState). t.rows) h.0.client) (ap (λ (t : ClientState). t.outgoing) h.0.client)
tags_step line (Looked f) a b h = tags_found h.0.entry f a.client b.client h.0.client
tags_step line Began a b h = tags_same a.client b.client (ap (λ (t : ClientState). t.rows) h.0.client) (ap (λ (t : ClientState). t.outgoing) h.0.client)
tags_step line Wrote a b h = tags_login a.client b.client (ap (λ (t : ClientState). t.rows) h.1.client) (ap (λ (t : ClientState). t.outgoing) h.1.client)
tags_step line (NotWritten page word) a b h = tags_same a.client b.client (ap (λ (t : ClientState). t.rows) h.1.client) (ap (λ (t : ClientState). t.outgoing) h.1.client)
tags_step line (Put due answer) a b h = subst (KeepsTags a.client) (sym h.0.client) (tags_put due h.0.others answer a.client)
tags_step line RanOut a b h = tags_same a.client b.client (ap (λ (t : ClientState). t.rows) h.client) (ap (λ (t : ClientState). t.outgoing) h.client)

pub tags_runs : (line : ℕ) (steps : List LoginStep) (a b : Site) → Runs line steps a b → KeepsTags a.client b.client
tags_runs line [] a b runs = tags_same a.client b.client (ap (λ (t : Site). t.client.rows) runs) (ap (λ (t : Site). t.client.outgoing) runs)
tags_runs line (step ∷ steps) a b runs = λ tags inward fits. tags_step line step runs.0 b runs.2 tags inward (tags_runs line steps a runs.0 runs.1 tags inward fits)

-- its answers and records agree as before
pub kept_agrees : (taken : ℕ) (now : TakesNow) (a b : Driver) → b.answers.items ≡ a.answers.items → KeepsTags a.client b.client → AgreesTaken taken now a → AgreesTaken taken now b
kept_agrees taken now a b answers keeps agrees = record {
  count = ap length answers ∙ agrees.count;
  tags = λ t. subst (λ (xs : List AnswerRow). FitsTag b.client.rows (tags_of b.client.outgoing) (answered_tags xs) now.inward t) (sym answers)
      (keeps (answered_tags a.answers.items) now.inward agrees.tags t);
}

-- a line that logs in, by what its turn says
pub turned_taken : (verb : Verb) (a b : Driver) (turn : LoginTurn) (step : Step) → is_take verb ≡ false → is_data verb ≡ false → b.answers.items ≡ a.answers.items → KeepsTags a.client b.client
    → SaysTurned turn step → StepsTaken verb 0 0 a b (Ok step)
turned_taken verb a b turn step no_take no_data answers keeps says = at turn step says
  where
    ends : (outcome : Outcome) → ((now : TakesNow) → takes_by verb outcome now ≡ now) → StepsTaken verb 0 0 a b (Ok (steps.Ends outcome))
    ends outcome still = λ up_to now agrees. (
      said_none (answered_tags b.answers.items) now verb outcome no_take no_data,
      subst (λ (n : TakesNow). AgreesTaken 0 n b) (sym (still now)) (kept_agrees 0 now a b answers keeps agrees),
    )

    waits : (did : Moved) → StepsTaken verb 0 0 a b (Ok (steps.Waits did))
    waits did = λ up_to. (up_to, λ now agrees. kept_agrees 0 now a b answers keeps agrees)

    at : (t : LoginTurn) (s : Step) → SaysTurned t s → StepsTaken verb 0 0 a b (Ok s)
    at (turns.Granted credits) s h = subst (λ (x : Step). StepsTaken verb 0 0 a b (Ok x)) (sym h) (ends (outcomes.Granted credits) (λ now. refl))
    at (turns.Rejected reason) s h = subst (λ (x : Step). StepsTaken verb 0 0 a b (Ok x)) (sym h) (ends (outcomes.Rejected reason) (λ now. refl))
    at turns.Lost s h = subst (λ (x : Step). StepsTaken verb 0 0 a b (Ok x)) (sym h) (ends outcomes.Lost (λ now. refl))
    at turns.Again (steps.Waits did) h = waits did
    at turns.Again (steps.Ends outcome) h = absurd h
    at (turns.Busy number held) (steps.Waits did) h = waits did
    at (turns.Busy number held) (steps.Ends outcome) h = absurd h

-- a request with a slot is outstanding
pub slot_has : (P : ℕ → Type 0) (tag : ℕ) (outgoing : List Outgoing) → IsSomeAnd (slot_of tag outgoing) P → has_tag tag (tags_of outgoing) ≡ true
slot_has P tag [] some = absurd some
slot_has P tag (o ∷ os) some = at (o.tag == tag) (slot_has P tag os) some
  where
    at : (b : Bool) → (IsSomeAnd (slot_of tag os) P → has_tag tag (tags_of os) ≡ true) → IsSomeAnd (option_map (λ (x : Outgoing). x.slot) (cond b (Some o) (find (λ (x : Outgoing). x.tag == tag) os))) P → (b || has_tag tag (tags_of os)) ≡ true
    at true more h = refl
    at false more h = more h

-- an answer was taken, and noted
pub answer_taken : (tag : ℕ) (response : Response) (a b : Driver) (s' : ClientState) (old new : Ports) (taken : ℕ) (now : TakesNow)
    → TakesEntry a.client s' old new (takens.Answer tag response) → Notes tag response a.answers.items b.answers.items → b.client ≡ s' → AgreesTaken taken now a → AgreesTaken (taken + 1) now b
answer_taken tag response a b s' old new taken now h notes client agrees = record {
  count = ap length notes.rows ∙ (length-append a.answers.items (notes.row ∷ []) ∙ (ap (λ n. n + 1) agrees.count ∙ omega arith));
  tags = λ t.
      subst (λ (rs : List Row). FitsTag rs (tags_of b.client.outgoing) (answered_tags b.answers.items) now.inward t) (sym rows_now)
      (subst (λ (os : List Outgoing). FitsTag (answered tag response a.client.rows) (tags_of os) (answered_tags b.answers.items) now.inward t) (sym outgoing_now)
      (subst (λ (tags : List ℕ). FitsTag (answered tag response a.client.rows) (tags_of (without_tag tag a.client.outgoing)) tags now.inward t) (sym tags_now)
      (fits_answered a.client.rows (tags_of a.client.outgoing) (tags_of (without_tag tag a.client.outgoing)) (answered_tags a.answers.items) now.inward tag response agrees.tags there
      (tags_fewer tag a.client.outgoing) t)));
}
  where
    same_rows : h.kept.rows ≡ a.client.rows
    same_rows = ap (λ (t : ClientState). t.rows) h.fetched.client

    same_outgoing : h.kept.outgoing ≡ a.client.outgoing
    same_outgoing = ap (λ (t : ClientState). t.outgoing) h.fetched.client

    rows_now : b.client.rows ≡ answered tag response a.client.rows
    rows_now = ap (λ (t : ClientState). t.rows) (client ∙ h.judged.client) ∙ ap (answered tag response) same_rows

    outgoing_now : b.client.outgoing ≡ without_tag tag a.client.outgoing
    outgoing_now = ap (λ (t : ClientState). t.outgoing) (client ∙ h.judged.client) ∙ ap (without_tag tag) same_outgoing

    tags_now : answered_tags b.answers.items ≡ answered_tags a.answers.items ++ tag ∷ []
    tags_now =
        ap answered_tags notes.rows
        ∙ (map-append (λ (row : AnswerRow). row.tag) a.answers.items (notes.row ∷ []) ∙ ap (λ (n : ℕ). answered_tags a.answers.items ++ n ∷ []) notes.tag_is)

    there : has_tag tag (tags_of a.client.outgoing) ≡ true
    there = subst (λ (os : List Outgoing). has_tag tag (tags_of os) ≡ true) same_outgoing (slot_has _ tag h.kept.outgoing h.judged.judged.2)

-- it says that no answer was taken
abbrev pub IsNoAnswer : Taken → Type 0
IsNoAnswer (takens.Answer tag response) = ⊥
IsNoAnswer _ = Unit {0}

-- a client that took no answer
pub other_taken : (a b : Driver) (s' : ClientState) (taken : ℕ) (now : TakesNow) → b.answers.items ≡ a.answers.items → b.client ≡ s' → KeepsTags a.client s' → AgreesTaken taken now a → AgreesTaken taken now b
other_taken a b s' taken now answers client keeps agrees = kept_agrees taken now a b answers (subst (KeepsTags a.client) (sym client) keeps) agrees

-- what an entry leaves that was taken as something else
pub tags_taken_as : (taken : Taken) (s s' : ClientState) (old new : Ports) → IsNoAnswer taken → TakesEntry s s' old new taken → KeepsTags s s'
tags_taken_as (takens.Answer tag response) s s' old new none h = absurd none
tags_taken_as (takens.Stray tag) s s' old new none h =
    tags_same s s' (ap (λ (t : ClientState). t.rows) h.judged.client ∙ ap (λ (t : ClientState). t.rows) h.fetched.client)
    (ap (λ (t : ClientState). t.outgoing) h.judged.client ∙ ap (λ (t : ClientState). t.outgoing) h.fetched.client)
tags_taken_as takens.Lost s s' old new none h =
    tags_none s s' (ap (λ (t : ClientState). t.rows) h.judged.client ∙ ap (λ (t : ClientState). t.rows) h.fetched.client) (ap (λ (t : ClientState). t.outgoing) h.judged.client)
tags_taken_as takens.Other s s' old new none h =
    tags_same s s' (ap (λ (t : ClientState). t.rows) h.judged.client ∙ ap (λ (t : ClientState). t.rows) h.fetched.client)
    (ap (λ (t : ClientState). t.outgoing) h.judged.client ∙ ap (λ (t : ClientState). t.outgoing) h.fetched.client)
tags_taken_as (takens.Again page word) s s' old new none h =
    tags_same s s' (ap (λ (t : ClientState). t.rows) h.judged.client ∙ ap (λ (t : ClientState). t.rows) h.fetched.client)
    (ap (λ (t : ClientState). t.outgoing) h.judged.client ∙ ap (λ (t : ClientState). t.outgoing) h.fetched.client)
tags_taken_as (takens.Empty number) s s' old new none h =
    tags_same s s' (ap (λ (t : ClientState). t.rows) h.fetched.client) (ap (λ (t : ClientState). t.outgoing) h.fetched.client)

-- A line took this many answers more.
abbrev pub TakesThem : (taken taken' : ℕ) → Driver → Driver → Type 0
TakesThem taken taken' a b = (now : TakesNow) → AgreesTaken taken now a → AgreesTaken taken' now b

-- it ends with so many, or waits for more
pub took_taken : (count taken taken' : ℕ) (a b : Driver) → taken' ≤ count → TakesThem taken taken' a b → StepsTaken (verbs.Take count) taken taken' a b (Ok (steps.Ends (outcomes.Took taken')))
took_taken count taken taken' a b within them = λ up_to now agrees. (within, let all = them now agrees in record { count = all.count ∙ omega arith; tags = all.tags })

pub lost_taken : (count taken taken' : ℕ) (a b : Driver) → taken' ≤ count → TakesThem taken taken' a b
    → StepsTaken (verbs.Take count) taken taken' a b (Ok (steps.Ends (outcomes.TookThenLost taken')))
lost_taken count taken taken' a b within them = λ up_to now agrees. (within, let all = them now agrees in record { count = all.count ∙ omega arith; tags = all.tags })

pub waits_taken : (count taken taken' : ℕ) (a b : Driver) (did : Moved) → taken' ≤ count → TakesThem taken taken' a b → StepsTaken (verbs.Take count) taken taken' a b (Ok (steps.Waits did))
waits_taken count taken taken' a b did within them = λ up_to. (within, λ now agrees. them now agrees)

-- one entry more was taken: an answer, or none
pub them_one : (taken taken' taken'' : ℕ) (a b c : Driver) → TakesThem taken taken' a b → taken'' ≡ taken' + 1 → TookTaken tooks.Answer b c → TakesThem taken taken'' a c
them_one taken taken' taken'' a b c them more one = λ now agrees. subst (λ n. AgreesTaken n now c) (sym more) (one taken' now (them now agrees))

pub them_none : (taken taken' : ℕ) (a b c : Driver) → TakesThem taken taken' a b → ((n : ℕ) (now : TakesNow) → AgreesTaken n now b → AgreesTaken n now c) → TakesThem taken taken' a c
them_none taken taken' a b c them none = λ now agrees. none taken' now (them now agrees)
