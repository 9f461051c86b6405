-- What the steps of a line that sends leave of a client and of its records.
use Rattle.std.proofs.Common.{◌≡◌, ◌∙◌, ◌⊎◌, inl, inr, ℕ, ◌+◌, ◌≤◌, ◌<◌, not, true, false, All, List, [], ◌∷◌, ◌++◌, Option, Some, None, length, min, refl, sym, ap, subst, arith, append-nil, append_assoc}
use Rattle.std.specs.List.{Contains}
use Rattle.std.proofs.lemmas.List.Elements.{All-append}
use Rattle.boot_text.specs.declared.verb.Verb.{Verb}
use Rattle.vio_trace.specs.declared.outcome.Outcome.{Outcome}
use Rattle.vscsi_client.specs.State.{ClientState, next_tag}
use Rattle.vscsi_client.specs.declared.outgoing.Outgoing.{Outgoing}
use Rattle.vcpu_run.specs.declared.script.Progress.{Progress}
use Rattle.vcpu_run.specs.Credited.{Ended, taken_in}
use Rattle.vcpu_run.specs.Refusals.{AreSaid, HasCausesTold, IsSaid, LoginNow, login_by, tag_of, tags_told}
use Rattle.vcpu_run.specs.Telling.{AgreesOn, AgreesTold, HasQueue, IsToldAt, SameTold, Seated, at_rest, is_freed, login_after}
use Rattle.vcpu_run.proofs.Following.{each_from_all, ordered_from}
use Rattle.lan_script.proofs.Order.{Each, Ordered, each_weaker, ordered_append}
use Rattle.vcpu_run.proofs.Sayings.{one_tag}
use Rattle.vcpu_run.proofs.Sole.{all_from_each, pairs_from_ordered}

-- a line that ended, behind others
abbrev pub ended : Verb → Outcome → Ended
ended verb outcome = record { verb = verb; outcome = outcome }

pub said_more : (pages : ℕ) (login : Option LoginNow) (own : List Ended) (verb : Verb) (outcome : Outcome) → AreSaid pages login own
    → IsSaid pages (login_after login own) verb outcome → AreSaid pages login (own ++ ended verb outcome ∷ [])
said_more pages login [] verb outcome all one = (one, tt)
said_more pages login (e ∷ es) verb outcome all one = (all.0, said_more pages (login_by e.verb e.outcome login) es verb outcome all.1 one)

pub after_more : (login : Option LoginNow) (own : List Ended) (verb : Verb) (outcome : Outcome)
    → login_after login (own ++ ended verb outcome ∷ []) ≡ login_by verb outcome (login_after login own)
after_more login [] verb outcome = refl
after_more login (e ∷ es) verb outcome = after_more (login_by e.verb e.outcome login) es verb outcome

pub tags_more : (own : List Ended) (verb : Verb) (outcome : Outcome) → tags_told (own ++ ended verb outcome ∷ []) ≡ tags_told own ++ tag_of outcome
tags_more [] verb outcome = append-nil (tag_of outcome)
tags_more (e ∷ es) verb outcome = ap (λ tags. tag_of e.outcome ++ tags) (tags_more es verb outcome) ∙ sym (append_assoc (tag_of e.outcome) (tags_told es) (tag_of outcome))

-- tags below a number stand before those from it on
before_all : (n : ℕ) (xs ys : List ℕ) → Each (λ x. x < n) xs → Each (λ y. n ≤ y) ys → Each (λ x. Each (λ y. x < y) ys) xs
before_all n xs ys low high = each_weaker (λ x. x < n) (λ x. Each (λ y. x < y) ys) (λ x less. each_weaker (λ y. n ≤ y) (λ y. x < y) (λ y more. omega (arith, less, more)) ys high) xs low

-- the tags that an outcome tells are from one number on, and below another
pub record TagsWithin (low high : ℕ) (tags : List ℕ) : Type 0 where
  pub from : Each (λ tag. low ≤ tag) tags
  pub below : Each (λ tag. tag < high) tags

pub causes_more : (pages n m : ℕ) (own : List Ended) (verb : Verb) (outcome : Outcome) → HasCausesTold pages own → All (λ tag. tag < n) (tags_told own)
    → IsSaid pages (login_after None own) verb outcome → TagsWithin n m (tag_of outcome) → HasCausesTold pages (own ++ ended verb outcome ∷ [])
causes_more pages n m own verb outcome law below said within = record {
  refusals = said_more pages None own verb outcome law.refusals said;
  tags = pairs_from_ordered (λ a b. a < b) (tags_told (own ++ ended verb outcome ∷ []))
      (subst (Ordered (λ a b. a < b)) (sym (tags_more own verb outcome))
      (ordered_append (λ a b. a < b) (tags_told own) (tag_of outcome) (ordered_from (λ a b. a < b) (tags_told own) law.tags) (one_tag outcome)
      (before_all n (tags_told own) (tag_of outcome) (each_from_all (λ tag. tag < n) (tags_told own) below) within.from)));
}

pub below_more : (n m : ℕ) (own : List Ended) (verb : Verb) (outcome : Outcome) → All (λ tag. tag < n) (tags_told own) → n ≤ m
    → TagsWithin n m (tag_of outcome) → All (λ tag. tag < m) (tags_told (own ++ ended verb outcome ∷ []))
below_more n m own verb outcome below less within =
    subst (All (λ tag. tag < m)) (sym (tags_more own verb outcome))
    (All-append (λ tag. tag < m) (tags_told own) (tag_of outcome)
    (all_from_each (λ tag. tag < m) (tags_told own) (each_weaker (λ tag. tag < n) (λ tag. tag < m) (λ tag h. omega (arith, h, less)) (tags_told own) (each_from_all (λ tag. tag < n) (tags_told own) below)))
    (all_from_each (λ tag. tag < m) (tag_of outcome) within.below))

-- a line that ended leaves it so
pub ends_told : (pages : ℕ) (verb : Verb) (outcome : Outcome) (own : List Ended) (a b : Seated) → IsToldAt pages own a
    → IsSaid pages (login_after None own) verb outcome → next_tag a.client ≤ next_tag b.client → TagsWithin (next_tag a.client) (next_tag b.client) (tag_of outcome)
    → AgreesTold 0 (login_by verb outcome (login_after None own)) b.client → (b.client.granted ≡ None) ⊎ (b.registered ≡ true)
    → IsToldAt pages (own ++ ended verb outcome ∷ []) (at_rest b)
ends_told pages verb outcome own a b told said less within agrees queue = record {
  law = causes_more pages (next_tag a.client) (next_tag b.client) own verb outcome told.law told.below said within;
  below = below_more (next_tag a.client) (next_tag b.client) own verb outcome told.below less within;
  agrees = λ going. subst (λ (login : Option LoginNow). AgreesTold 0 login b.client) (sym (after_more None own verb outcome)) agrees;
  queue = queue;
}

pub same_told : (s : ClientState) → SameTold s s
same_told s = record { granted = refl; outgoing = refl; tags = omega arith }

pub same_of : (s s' : ClientState) → s' ≡ s → SameTold s s'
same_of s s' is = subst (SameTold s) (sym is) (same_told s)

pub told_on : (a b c : ClientState) → SameTold a b → SameTold b c → SameTold a c
told_on a b c x y = record { granted = y.granted ∙ x.granted; outgoing = y.outgoing ∙ x.outgoing; tags = omega (arith, x.tags, y.tags) }

on_same : (taken : ℕ) (s s' : ClientState) (l : LoginNow) → SameTold s s' → AgreesOn taken s l → AgreesOn taken s' l
on_same taken s s' l same h = record {
  granted = same.granted ∙ h.granted;
  outstanding = subst (λ (os : List Outgoing). l.outstanding ≡ length os + taken) (sym same.outgoing) h.outstanding;
  within = subst (λ (os : List Outgoing). length os ≤ min l.granted 200) (sym same.outgoing) h.within;
  asked = subst (All (λ (o : Outgoing). Contains l.asked o.tag)) (sym same.outgoing) h.asked;
}

pub agrees_same : (taken : ℕ) (login : Option LoginNow) (s s' : ClientState) → SameTold s s' → AgreesTold taken login s → AgreesTold taken login s'
agrees_same taken None s s' same h = same.granted ∙ h
agrees_same taken (Some l) s s' same h = on_same taken s s' l same h

-- the queue is as before
pub still_open : (pages : ℕ) (own : List Ended) (a b : Seated) → IsToldAt pages own a → is_freed a.progress ≡ false → b.client.granted ≡ a.client.granted → b.registered ≡ a.registered
    → (b.client.granted ≡ None) ⊎ (b.registered ≡ true)
still_open pages own a b told going granted same = at told.queue
  where
    at : (a.client.granted ≡ None) ⊎ HasQueue a.progress a.registered → (b.client.granted ≡ None) ⊎ (b.registered ≡ true)
    at (inl none) = inl (granted ∙ none)
    at (inr queue) = inr (same ∙ (queue ∙ ap not going))

-- the client agrees with the records where its line took nothing and freed nothing
pub agrees_fresh : (pages : ℕ) (own : List Ended) (a : Seated) → IsToldAt pages own a → is_freed a.progress ≡ false → taken_in a.progress ≡ 0
    → AgreesTold 0 (login_after None own) a.client
agrees_fresh pages own a told going none = subst (λ n. AgreesTold n (login_after None own) a.client) none (told.agrees going)

-- a step that waits, and changed nothing
pub waits_told : (pages : ℕ) (own : List Ended) (a b : Seated) → b.progress ≡ a.progress → SameTold a.client b.client → b.registered ≡ a.registered → IsToldAt pages own a → IsToldAt pages own b
waits_told pages own a b progress same queue told = record {
  law = told.law;
  below = all_from_each (λ tag. tag < next_tag b.client) (tags_told own)
      (each_weaker (λ tag. tag < next_tag a.client) (λ tag. tag < next_tag b.client) (λ tag h. omega (arith, h, same.tags)) (tags_told own) (each_from_all (λ tag. tag < next_tag a.client) (tags_told own) told.below));
  agrees = λ going. subst (λ (p : Progress). AgreesTold (taken_in p) (login_after None own) b.client) (sym progress)
      (agrees_same (taken_in a.progress) (login_after None own) a.client b.client same (told.agrees (ap is_freed (sym progress) ∙ going)));
  queue = at told.queue;
}
  where
    at : (a.client.granted ≡ None) ⊎ HasQueue a.progress a.registered → (b.client.granted ≡ None) ⊎ HasQueue b.progress b.registered
    at (inl none) = inl (same.granted ∙ none)
    at (inr has) = inr (queue ∙ (has ∙ ap (λ (p : Progress). not (is_freed p)) (sym progress)))
