-- What a line that takes leaves of a client, and of what its record says.
use Rattle.std.proofs.Common.{◌≡◌, ◌∙◌, inl, ℕ, ◌+◌, ◌-◌, ◌≤◌, ◌==◌, cond, Bool, true, false, All, List, [], ◌∷◌, Option, Some, None, Ok, IsSomeAnd, find, length, refl, sym, ap, subst, arith}
use Rattle.std.specs.List.{Contains}
use Rattle.std.specs.Option.{option_map}
use Rattle.std.proofs.lemmas.List.Elements.{All-cons, All-head, All-tail}
use Rattle.vio_num.specs.declared.hypervisor.Moved.{Moved}
use Rattle.srp_iu.specs.declared.response.Rsp.{Rsp as Response}
use Rattle.boot_text.specs.declared.verb.Verb.TheVariants as verbs
use Rattle.vio_trace.specs.declared.outcome.Outcome.TheVariants as outcomes
use Rattle.unit_region.specs.declared.step.Step.TheVariants as steps
use Rattle.vscsi_client.specs.declared.answers.Taken.TheVariants as takens
use Rattle.vscsi_client.specs.declared.outgoing.Outgoing.{Outgoing}
use Rattle.vscsi_client.specs.declared.row.Row.{Row}
use Rattle.vscsi_client.specs.Ports.{Ports}
use Rattle.vscsi_client.specs.State.{ClientState, next_tag}
use Rattle.vscsi_client.specs.Taking.{TakesEntry, answered, slot_of, without_tag}
use Rattle.vcpu_run.specs.declared.script.Progress.{Progress}
use Rattle.vcpu_run.specs.declared.script.Progress.TheVariants as progress
use Rattle.vcpu_run.specs.Credited.{taken_in}
use Rattle.vcpu_run.specs.Refusals.{LoginNow, login_by}
use Rattle.vcpu_run.specs.Telling.{AgreesTold, LosesLogin, SameTold, StepsTold, TakesAnswer, login_after, seated}
use Rattle.vcpu_run.proofs.Driving.{set_length}
use Rattle.vcpu_run.proofs.LoginSteps.{below_on, no_tags, queue_back}
use Rattle.vcpu_run.proofs.Tellings.{ends_told, still_open}

-- the requests without one of them
one_less : (tag : ℕ) (os : List Outgoing) (Q : ℕ → Type 0) → IsSomeAnd (slot_of tag os) Q → length os ≡ length (without_tag tag os) + 1
one_less tag [] Q some = absurd some
one_less tag (o ∷ os) Q some = at (o.tag == tag) refl some (one_less tag os Q)
  where
    at : (b : Bool) → (o.tag == tag) ≡ b → IsSomeAnd (option_map (λ (o : Outgoing). o.slot) (cond b (Some o) (find (λ (o : Outgoing). o.tag == tag) os))) Q
        → (IsSomeAnd (slot_of tag os) Q → length os ≡ length (without_tag tag os) + 1) → length (o ∷ os) ≡ length (cond b os (o ∷ without_tag tag os)) + 1
    at true e some later = omega arith
    at false e some later = let rest = later some in omega (arith, rest)

still_all : (P : Outgoing → Type 0) (tag : ℕ) (os : List Outgoing) → All P os → All P (without_tag tag os)
still_all P tag [] all = all
still_all P tag (o ∷ os) all = at (o.tag == tag) (still_all P tag os (All-tail P o os all))
  where
    at : (b : Bool) → All P (without_tag tag os) → All P (cond b os (o ∷ without_tag tag os))
    at true later = All-tail P o os all
    at false later = All-cons P o (without_tag tag os) (All-head P o os all) later

same_rows : (n m : ℕ) → m ≡ n → n + 1 ≤ m + 1
same_rows n m e = omega (arith, e)

pub answer_told : (s s' : ClientState) (old new : Ports) (tag : ℕ) (response : Response) → TakesEntry s s' old new (takens.Answer tag response) → TakesAnswer s s'
answer_told s s' old new tag response taken =
    let out : s'.outgoing ≡ without_tag tag s.outgoing =
    ap (λ (t : ClientState). t.outgoing) taken.judged.client ∙ ap (λ (t : ClientState). without_tag tag t.outgoing) taken.fetched.client in
    let some : IsSomeAnd (slot_of tag s.outgoing) _ =
    subst (λ (t : ClientState). IsSomeAnd (slot_of tag t.outgoing) _) taken.fetched.client taken.judged.judged.2 in
    record {
      granted = ap (λ (t : ClientState). t.granted) taken.judged.client ∙ ap (λ (t : ClientState). t.granted) taken.fetched.client;
      one = one_less tag s.outgoing _ some ∙ ap (λ (os : List Outgoing). length os + 1) (sym out);
      asked = λ tags all. subst (All (λ (o : Outgoing). Contains tags o.tag)) (sym out) (still_all (λ (o : Outgoing). Contains tags o.tag) tag s.outgoing all);
      tags = same_rows (length s.rows) (length s'.rows)
          (ap (λ (t : ClientState). length t.rows) taken.judged.client ∙ (length-answered tag response taken.kept.rows ∙ ap (λ (t : ClientState). length t.rows) taken.fetched.client));
    }
  where
    length-answered : (tag : ℕ) (response : Response) (rs : List Row) → length (answered tag response rs) ≡ length rs
    length-answered tag response rs = set_length rs (tag - 1) _

-- an entry that was taken, and answers nothing
kept_told : (s s' t : ClientState) → s'.granted ≡ s.granted → s'.outgoing ≡ s.outgoing → s'.rows ≡ s.rows → SameTold s s'
kept_told s s' t granted outgoing rows_are = record { granted = granted; outgoing = outgoing; tags = same_rows (length s.rows) (length s'.rows) (ap length rows_are) }

pub other_told : (s s' : ClientState) (old new : Ports) → TakesEntry s s' old new takens.Other → SameTold s s'
other_told s s' old new taken =
    kept_told s s' s (ap (λ (t : ClientState). t.granted) taken.judged.client ∙ ap (λ (t : ClientState). t.granted) taken.fetched.client)
    (ap (λ (t : ClientState). t.outgoing) taken.judged.client ∙ ap (λ (t : ClientState). t.outgoing) taken.fetched.client)
    (ap (λ (t : ClientState). t.rows) taken.judged.client ∙ ap (λ (t : ClientState). t.rows) taken.fetched.client)

pub stray_told : (s s' : ClientState) (old new : Ports) (tag : ℕ) → TakesEntry s s' old new (takens.Stray tag) → SameTold s s'
stray_told s s' old new tag taken =
    kept_told s s' s (ap (λ (t : ClientState). t.granted) taken.judged.client ∙ ap (λ (t : ClientState). t.granted) taken.fetched.client)
    (ap (λ (t : ClientState). t.outgoing) taken.judged.client ∙ ap (λ (t : ClientState). t.outgoing) taken.fetched.client)
    (ap (λ (t : ClientState). t.rows) taken.judged.client ∙ ap (λ (t : ClientState). t.rows) taken.fetched.client)

pub again_told : (s s' : ClientState) (old new : Ports) (page word : ℕ) → TakesEntry s s' old new (takens.Again page word) → SameTold s s'
again_told s s' old new page word taken =
    kept_told s s' s (ap (λ (t : ClientState). t.granted) taken.judged.client ∙ ap (λ (t : ClientState). t.granted) taken.fetched.client)
    (ap (λ (t : ClientState). t.outgoing) taken.judged.client ∙ ap (λ (t : ClientState). t.outgoing) taken.fetched.client)
    (ap (λ (t : ClientState). t.rows) taken.judged.client ∙ ap (λ (t : ClientState). t.rows) taken.fetched.client)

pub empty_told : (s s' : ClientState) (old new : Ports) (number : ℕ) → TakesEntry s s' old new (takens.Empty number) → SameTold s s'
empty_told s s' old new number taken = let is = taken.fetched.client in kept_told s s' s (ap (λ (t : ClientState). t.granted) is) (ap (λ (t : ClientState). t.outgoing) is) (ap (λ (t : ClientState). t.rows) is)

pub lost_told : (s s' : ClientState) (old new : Ports) → TakesEntry s s' old new takens.Lost → LosesLogin s s'
lost_told s s' old new taken = record {
  granted = ap (λ (t : ClientState). t.granted) taken.judged.client;
  tags = same_rows (length s.rows) (length s'.rows) (ap (λ (t : ClientState). length t.rows) taken.judged.client ∙ ap (λ (t : ClientState). length t.rows) taken.fetched.client);
}

-- what a line that takes leaves so far: each answer is one request less
pub record TakesSo (taken taken' : ℕ) (s s' : ClientState) : Type 0 where
  pub granted : s'.granted ≡ s.granted
  pub many : length s.outgoing + taken ≡ length s'.outgoing + taken'
  pub less : length s'.outgoing ≤ length s.outgoing
  pub asked : (tags : List ℕ) → All (λ (o : Outgoing). Contains tags o.tag) s.outgoing → All (λ (o : Outgoing). Contains tags o.tag) s'.outgoing
  pub tags : next_tag s ≤ next_tag s'

pub takes_none : (taken : ℕ) (s : ClientState) → TakesSo taken taken s s
takes_none taken s = record { granted = refl; many = refl; less = omega arith; asked = λ tags all. all; tags = omega arith }

pub takes_same : (taken taken' : ℕ) (r s t : ClientState) → TakesSo taken taken' r s → SameTold s t → TakesSo taken taken' r t
takes_same taken taken' r s t so same =
    let long = ap length same.outgoing in
    record {
      granted = same.granted ∙ so.granted;
      many = omega (arith, so.many, long);
      less = omega (arith, so.less, long);
      asked = λ tags all. subst (All (λ (o : Outgoing). Contains tags o.tag)) (sym same.outgoing) (so.asked tags all);
      tags = omega (arith, so.tags, same.tags);
    }

pub takes_one : (taken mid taken' : ℕ) (r s t : ClientState) → TakesSo taken mid r s → taken' ≡ mid + 1 → TakesAnswer s t → TakesSo taken taken' r t
takes_one taken mid taken' r s t so more one = record {
  granted = one.granted ∙ so.granted;
  many = omega (arith, so.many, one.one, more);
  less = omega (arith, so.less, one.one);
  asked = λ tags all. one.asked tags (so.asked tags all);
  tags = omega (arith, so.tags, one.tags);
}

pub takes_agree : (taken taken' : ℕ) (login : Option LoginNow) (s s' : ClientState) → TakesSo taken taken' s s' → AgreesTold taken login s → AgreesTold taken' login s'
takes_agree taken taken' None s s' so agrees = so.granted ∙ agrees
takes_agree taken taken' (Some l) s s' so agrees = record {
  granted = so.granted ∙ agrees.granted;
  outstanding = omega (arith, agrees.outstanding, so.many);
  within = omega (arith, agrees.within, so.less);
  asked = so.asked l.asked agrees.asked;
}

-- as many are less outstanding by the record
took_login : (taken : ℕ) (login : Option LoginNow) (s : ClientState) → AgreesTold taken login s → AgreesTold 0 (login_by (verbs.Take taken) (outcomes.Took taken) login) s
took_login taken None s agrees = agrees
took_login taken (Some l) s agrees = record {
  granted = agrees.granted;
  outstanding = omega (arith, agrees.outstanding);
  within = agrees.within;
  asked = agrees.asked;
}

took_by : (count taken : ℕ) (login : Option LoginNow) → login_by (verbs.Take taken) (outcomes.Took taken) login ≡ login_by (verbs.Take count) (outcomes.Took taken) login
took_by count taken login = refl

-- how the client stands before and behind a step that takes
abbrev pub TakesAt : (p : Progress) (taken taken' : ℕ) → (s s' : ClientState) → (registered registered' : Bool) → Type 0
TakesAt p taken taken' s s' registered registered' = (taken_in p ≡ taken) × TakesSo taken taken' s s' × (registered' ≡ registered)

pub took_told : (pages count : ℕ) (p : Progress) (taken taken' : ℕ) (s s' : ClientState) (registered registered' : Bool) → TakesAt p taken taken' s s' registered registered'
    → StepsTold pages (verbs.Take count) (seated s p registered) (seated s' (progress.Took taken') registered') (Ok (steps.Ends (outcomes.Took taken')))
took_told pages count p taken taken' s s' registered registered' h = λ of own told.
    let login = login_after None own in
    let agrees : AgreesTold taken login s = subst (λ n. AgreesTold n login s) h.0 (told.agrees (of.reset refl)) in
    ends_told pages (verbs.Take count) (outcomes.Took taken') own (seated s p registered) (seated s' (progress.Took taken') registered') told tt h.1.tags
    (no_tags (next_tag s) (next_tag s'))
    (subst (λ (l : Option LoginNow). AgreesTold 0 l s') (took_by count taken' login) (took_login taken' login s' (takes_agree taken taken' login s s' h.1 agrees)))
    (still_open pages own (seated s p registered) (seated s' (progress.Took taken') registered') told (of.reset refl) h.1.granted h.2)

pub lost_takes_told : (pages count : ℕ) (p q : Progress) (taken taken' number : ℕ) (r s s' : ClientState) (registered registered' : Bool) → TakesSo taken taken' r s → LosesLogin s s'
    → StepsTold pages (verbs.Take count) (seated r p registered) (seated s' q registered') (Ok (steps.Ends (outcomes.TookThenLost number)))
lost_takes_told pages count p q taken taken' number r s s' registered registered' so lost = λ of own told.
    ends_told pages (verbs.Take count) (outcomes.TookThenLost number) own (seated r p registered) (seated s' q registered') told tt (omega (arith, so.tags, lost.tags))
    (no_tags (next_tag r) (next_tag s')) lost.granted (inl lost.granted)

pub waits_takes_told : (pages count : ℕ) (p : Progress) (taken taken' : ℕ) (s s' : ClientState) (registered registered' : Bool) (did : Moved) → TakesAt p taken taken' s s' registered registered'
    → StepsTold pages (verbs.Take count) (seated s p registered) (seated s' (progress.Took taken') registered') (Ok (steps.Waits did))
waits_takes_told pages count p taken taken' s s' registered registered' did h = λ of. (
  record { take = λ e. absurd (cc); reset = λ e. refl },
  λ own told.
      let login = login_after None own in
      record {
        law = told.law;
        below = below_on own (next_tag s) (next_tag s') h.1.tags told.below;
        agrees = λ going. takes_agree taken taken' login s s' h.1 (subst (λ n. AgreesTold n login s) h.0 (told.agrees (of.reset refl)));
        queue = queue_back (progress.Took taken') s'.granted registered' refl
            (still_open pages own (seated s p registered) (seated s' (progress.Took taken') registered') told (of.reset refl) h.1.granted h.2);
      },
)
