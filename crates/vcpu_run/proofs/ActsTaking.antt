-- The entries that a client's line takes, one after the other, and how it ends.
use Rattle.std.proofs.Common.{◌≡◌, ◌≢◌, ◌∙◌, inl, inr, ℕ, ◌+◌, ◌<◌, ◌≤◌, ◌==◌, All, true, false, true≢false, List, [], ◌∷◌, length, refl, subst, arith}
use Rattle.std.proofs.lemmas.Bool.Decides.{nat_tests}
use Rattle.std.proofs.lemmas.List.Elements.{All-cons, All-nil}
use Rattle.vio_num.specs.declared.hypervisor.Moved.{Moved}
use Rattle.vio_num.specs.declared.hypervisor.Moved.TheVariants as moves
use Rattle.crq_session.specs.EndState.{OnlyTakes}
use Rattle.tce_window.specs.PortState.{OnlyReads}
use Rattle.vio_trace.specs.declared.outcome.Outcome.TheVariants as outcomes
use Rattle.unit_region.specs.declared.step.Step.TheVariants as steps
use Rattle.vscsi_client.specs.State.{tags_of}
use Rattle.vscsi_client.specs.Taking.{TakesEntry}
use Rattle.vscsi_client.specs.declared.answers.Taken.{Taken}
use Rattle.vscsi_client.specs.declared.outgoing.Outgoing.{Outgoing}
use Rattle.vcpu_run.specs.Acts.{Acting, EndsIn, GoesOn, NotesTaken, TakesEach, TakesForLine, TakesOnce, TakesRest, answers_in, took_as}
use Rattle.vcpu_run.specs.declared.taking.Took.{Took}
use Rattle.vcpu_run.specs.declared.taking.Took.TheVariants as tooks

-- one entry
pub takes_once : (old new : Acting) (answer taken : Taken) (took : Took) → answer ≡ taken → took ≡ took_as taken → TakesEntry old.client new.client old.ports new.ports answer
    → NotesTaken taken new.ports.crq.last_session old.answers new.answers → OnlyTakes old.ports.crq_shared old.ports.crq new.ports.crq
    → OnlyReads old.ports.own_shared old.ports.own new.ports.own → new.ports.crq_shared ≡ old.ports.crq_shared → new.ports.own_shared ≡ old.ports.own_shared → TakesOnce took old new
takes_once old new answer taken took is as_taken takes notes crq own crq_hands own_hands = record {
  taken = taken;
  is = as_taken;
  takes = subst (TakesEntry old.client new.client old.ports new.ports) is takes;
  notes = notes;
  crq = crq;
  own = own;
  crq_hands = crq_hands;
  own_hands = own_hands;
}

-- What a line has taken so far, behind each of which it goes on.
pub record TakingSo (first taken often : ℕ) (old new : Acting) : Type 0 where
  pub entries : List Took
  pub each : TakesEach entries old new
  pub more : taken ≡ first + answers_in entries
  pub going : All GoesOn entries
  pub long : length entries ≡ often

pub taking_none : (first : ℕ) (old : Acting) → TakingSo first first 0 old old
taking_none first old = record { entries = []; each = refl; more = omega (arith); going = All-nil GoesOn; long = refl }

pub taking_answer : (first taken often : ℕ) (old middle new : Acting) → TakingSo first taken often old middle → TakesOnce tooks.Answer middle new
    → TakingSo first (taken + 1) (often + 1) old new
taking_answer first taken often old middle new far one = record {
  entries = tooks.Answer ∷ far.entries;
  each = (middle, far.each, one);
  more = omega (arith, far.more);
  going = All-cons GoesOn tooks.Answer far.entries tt far.going;
  long = omega (arith, far.long);
}

pub taking_other : (first taken often : ℕ) (old middle new : Acting) → TakingSo first taken often old middle → TakesOnce tooks.Other middle new → TakingSo first taken (often + 1) old new
taking_other first taken often old middle new far one = record {
  entries = tooks.Other ∷ far.entries;
  each = (middle, far.each, one);
  more = far.more;
  going = All-cons GoesOn tooks.Other far.entries tt far.going;
  long = omega (arith, far.long);
}

-- the last one
abbrev last : (took : Took) (first taken often : ℕ) (old middle : Acting) (far : TakingSo first taken often old middle) → EndsIn took (took ∷ far.entries)
last took first taken often old middle far = record { before = far.entries; is = refl; going = far.going }

-- nothing was to be taken
pub line_full : (count taken : ℕ) (old : Acting) → count ≤ taken → TakesForLine count taken taken old old (steps.Ends (outcomes.Took taken))
line_full count taken old full = record { entries = []; each = refl; more = omega (arith); ends = (refl, inl (refl, full)) }

-- as many answers as the line wants
pub line_wanted : (count first taken taken' often : ℕ) (old middle new : Acting) → taken' ≡ taken + 1 → taken < count → count ≤ taken' → TakingSo first taken often old middle
    → TakesOnce tooks.Answer middle new → TakesForLine count first taken' old new (steps.Ends (outcomes.Took taken'))
line_wanted count first taken taken' often old middle new is less full far one = record {
  entries = tooks.Answer ∷ far.entries;
  each = (middle, far.each, one);
  more = omega (arith, is, far.more);
  ends = (refl, inr (inl (last tooks.Answer first taken often old middle far, omega (arith, is, less, full))));
}

-- the server unit is gone
pub line_lost : (count first taken often : ℕ) (old middle new : Acting) → TakingSo first taken often old middle → TakesOnce tooks.Lost middle new
    → TakesForLine count first taken old new (steps.Ends (outcomes.TookThenLost taken))
line_lost count first taken often old middle new far one = record {
  entries = tooks.Lost ∷ far.entries;
  each = (middle, far.each, one);
  more = far.more;
  ends = (refl, last tooks.Lost first taken often old middle far);
}

-- a page is in use
pub line_used : (count first taken often : ℕ) (did : Moved) (old middle new : Acting) → TakingSo first taken often old middle → TakesOnce tooks.InUse middle new
    → TakesForLine count first taken old new (steps.Waits did)
line_used count first taken often did old middle new far one = record {
  entries = tooks.InUse ∷ far.entries;
  each = (middle, far.each, one);
  more = far.more;
  ends = inl (last tooks.InUse first taken often old middle far);
}

none_left : (outgoing : List Outgoing) → (length (tags_of outgoing) == 0) ≡ true → outgoing ≡ []
none_left [] is = refl
none_left (o ∷ os) is = absurd (grind (arith, nat_tests, is))

some_left : (outgoing : List Outgoing) → (length (tags_of outgoing) == 0) ≡ false → outgoing ≢ []
some_left [] is = λ none. absurd (true≢false is)
some_left (o ∷ os) is = λ none. absurd (cc (none))

-- none is there, and none is outstanding, or some are
pub line_ended : (count first taken often : ℕ) (tags : List ℕ) (old middle new : Acting) → tags ≡ tags_of new.client.outgoing → (length tags == 0) ≡ true
    → TakingSo first taken often old middle → TakesOnce tooks.Nothing middle new → TakesForLine count first taken old new (steps.Ends (outcomes.Took taken))
line_ended count first taken often tags old middle new tags_are none far one = record {
  entries = tooks.Nothing ∷ far.entries;
  each = (middle, far.each, one);
  more = far.more;
  ends = (
    refl,
    inr (inr (last tooks.Nothing first taken often old middle far, none_left new.client.outgoing (subst (λ (ts : List ℕ). (length ts == 0) ≡ true) tags_are none))),
  );
}

pub line_waits : (count first taken often : ℕ) (tags : List ℕ) (did : Moved) (old middle new : Acting) → tags ≡ tags_of new.client.outgoing → (length tags == 0) ≡ false
    → TakingSo first taken often old middle → TakesOnce tooks.Nothing middle new → TakesForLine count first taken old new (steps.Waits did)
line_waits count first taken often tags did old middle new tags_are some far one = record {
  entries = tooks.Nothing ∷ far.entries;
  each = (middle, far.each, one);
  more = far.more;
  ends = inr (inl (last tooks.Nothing first taken often old middle far, some_left new.client.outgoing (subst (λ (ts : List ℕ). (length ts == 0) ≡ false) tags_are some)));
}

-- as many as the queue has slots
pub line_slots : (count first taken often : ℕ) (old new : Acting) → often ≡ old.ports.crq.place.own_slots → TakingSo first taken often old new
    → TakesForLine count first taken old new (steps.Waits moves.Moved)
line_slots count first taken often old new all far = record {
  entries = far.entries;
  each = far.each;
  more = far.more;
  ends = inr (inr (record { full = far.long ∙ all; going = far.going }, refl));
}

-- behind the last line
pub rest_none : (old : Acting) → TakesRest old old
rest_none old = record { entries = []; each = refl }

pub rest_more : (old middle new : Acting) (took : Took) → TakesRest old middle → TakesOnce took middle new → TakesRest old new
rest_more old middle new took far one = record { entries = took ∷ far.entries; each = (middle, far.each, one) }
