-- The answers that a line of a plain client takes, one after the other.
use Rattle.std.proofs.Common.{◌≡◌, ◌∙◌, ◌⊎◌, inl, inr, ℕ, zero, suc, ◌+◌, ◌<◌, ◌≤◌, ◌++◌, ◌==◌, true, false, true≢false, List, [], ◌∷◌, Ok, append-nil, append_assoc, drop, length, length-drop, refl, sym, ap, subst, arith}
use Rattle.std.proofs.lemmas.Bool.Decides.{nat_tests}
use Rattle.vio_num.specs.declared.hypervisor.Moved.{Moved}
use Rattle.crq_ring.specs.declared.rows.PipeRow.{PipeRow}
use Rattle.crq_session.specs.EndState.{EndState}
use Rattle.block_server.specs.declared.unit.Unit.{Unit}
use Rattle.boot_text.specs.declared.verb.Verb.TheVariants as verbs
use Rattle.unit_region.specs.declared.step.Step.{Step}
use Rattle.unit_region.specs.declared.step.Step.TheVariants as steps
use Rattle.vio_trace.specs.declared.outcome.Outcome.TheVariants as outcomes
use Rattle.vcpu_run.specs.Credited.{taken_in}
use Rattle.vscsi_client.specs.State.{tags_of}
use Rattle.vscsi_client.specs.declared.outgoing.Outgoing.{Outgoing}
use Rattle.vcpu_run.specs.PlainSteps.{AreReplayedAs, FollowsReplay, HasTaken, HasToDo, LeavesTook, Own, OwnNotes, StepsPlainly, TakesEntries, TakesPlainly, beside}
use Rattle.vcpu_run.specs.PlainTalk.{Between, ServerStays, TalksPlainly, owes}
use Rattle.vcpu_run.specs.Replay.{Asked as Replayed, Replay, answered}
use Rattle.vcpu_run.specs.declared.script.Progress.{Progress}
use Rattle.vcpu_run.specs.declared.taking.Took.{Took}
use Rattle.vcpu_run.specs.declared.taking.Took.TheVariants as tooks
use Rattle.vcpu_run.proofs.PlainAsking.{follows_still, none_anew, stood_still}
use Rattle.vcpu_run.proofs.PlainMiddle.{KeptThere, kept_there, seeing}
use Rattle.vcpu_run.proofs.PlainNotes.{lays_read, notes_same, windows_on}
use Rattle.vcpu_run.proofs.PlainOwed.{told_idle}

-- What a line that takes so many answers has done in one step, from so many on to so many: as often it took one.
pub record TakesSoFar (count from to often : ℕ) (old new : Own) : Type 0 where
  pub entries : TakesEntries old.end new.end
  pub leaves : (granted : ℕ) (unit : Unit) (server server' : EndState) (now : Replay) → ServerStays (beside unit server old) (beside unit server' new)
      → TalksPlainly granted (beside unit server old) [] → HasTaken granted count from now (beside unit server old)
      → TalksPlainly granted (beside unit server' new) [] × HasTaken granted count to now (beside unit server' new) × (to ≡ from + often) × OwnNotes old new

pub entries_on : (a b c : EndState) → TakesEntries a b → TakesEntries b c → TakesEntries a c
entries_on a b c first next = record {
  rest = record {
    place = next.rest.place ∙ first.rest.place;
    last_session = next.rest.last_session ∙ first.rest.last_session;
    registered = next.rest.registered ∙ first.rest.registered;
    kept = next.rest.kept ∙ first.rest.kept;
    sent = next.rest.sent ∙ first.rest.sent;
    drops = next.rest.drops ∙ first.rest.drops;
    counts = record {
      partner_session = omega (arith, next.rest.counts.partner_session, first.rest.counts.partner_session);
      same_session = λ alone. next.rest.counts.same_session alone ∙ first.rest.counts.same_session alone;
      full = omega (arith, next.rest.counts.full, first.rest.counts.full);
      empty = omega (arith, next.rest.counts.empty, first.rest.counts.empty);
      closed = omega (arith, next.rest.counts.closed, first.rest.counts.closed);
      in_use = omega (arith, next.rest.counts.in_use, first.rest.counts.in_use);
    };
    full = next.rest.full ∙ first.rest.full;
    closed = next.rest.closed ∙ first.rest.closed;
    in_use = next.rest.in_use ∙ first.rest.in_use;
  };
  rows = first.rows ++ next.rows;
  more = next.more ∙ ap (λ (rows : List PipeRow). rows ++ next.rows) first.more ∙ append_assoc a.taken first.rows next.rows;
}

-- ---- one answer more

drop_one : (n : ℕ) (list : List Replayed) → drop 1 (drop n list) ≡ drop (suc n) list
drop_one zero list = refl
drop_one (suc n) [] = refl
drop_one (suc n) (asked ∷ list) = drop_one n list

one_behind : (n : ℕ) → suc n ≡ n + 1
one_behind n = omega arith

drop_long : (n : ℕ) (list : List Replayed) → 1 ≤ length (drop n list) → n + 1 ≤ length list
drop_long zero list some = some
drop_long (suc n) [] some = absurd (omega (arith, some))
drop_long (suc n) (asked ∷ list) some = let rest : n + 1 ≤ length list = drop_long n list some in omega (arith, rest)

-- What one entry more leaves, by what came before it.
pub record OneMore (count from to often : ℕ) (old middle new : Own) (took : Took) : Type 0 where
  pub entries : TakesEntries old.end new.end
  pub leaves : (granted : ℕ) (unit : Unit) (server server' : EndState) (now : Replay) → ServerStays (beside unit server old) (beside unit server' new)
      → TalksPlainly granted (beside unit server old) [] → HasTaken granted count from now (beside unit server old)
      → TalksPlainly granted (beside unit server' new) [] × LeavesTook granted (answered to now) took (beside unit server' new) × (to ≤ length now.outstanding) × (to ≡ from + often) × OwnNotes old new

one_on : (count from to often : ℕ) (old middle new : Own) (took : Took) → TakesSoFar count from to often old middle → TakesPlainly took middle new
    → OneMore count from to often old middle new took
one_on count from to often old middle new took far takes = record {
  entries = entries_on old.end middle.end new.end far.entries takes.entries;
  leaves = leaves;
}
  where
    leaves : (granted : ℕ) (unit : Unit) (server server' : EndState) (now : Replay) → ServerStays (beside unit server old) (beside unit server' new)
        → TalksPlainly granted (beside unit server old) [] → HasTaken granted count from now (beside unit server old)
        → TalksPlainly granted (beside unit server' new) [] × LeavesTook granted (answered to now) took (beside unit server' new) × (to ≤ length now.outstanding) × (to ≡ from + often) × OwnNotes old new
    leaves granted unit server server' now stays talks has = (
      one.0,
      one.1,
      so_far.1.there,
      so_far.2,
      windows_on middle.window new.window old.answers middle.answers new.answers (lays_read middle.window new.window takes.reads) so_far.3 one.2,
    )
      where
        kept : KeptThere unit server server' old middle new
        kept = kept_there unit server server' old middle new takes.entries stays

        so_far : TalksPlainly granted (beside unit (seeing server' middle.end) middle) [] × HasTaken granted count to now (beside unit (seeing server' middle.end) middle)
            × (to ≡ from + often) × OwnNotes old middle
        so_far = far.leaves granted unit server (seeing server' middle.end) now kept.before talks has

        one : TalksPlainly granted (beside unit server' new) [] × LeavesTook granted (answered to now) took (beside unit server' new) × OwnNotes middle new
        one = takes.leaves granted unit (seeing server' middle.end) server' (answered to now) kept.behind so_far.0 so_far.1.left

-- an answer
pub one_more : (count from to often : ℕ) (old middle new : Own) → to < count → TakesSoFar count from to often old middle → TakesPlainly tooks.Answer middle new
    → TakesSoFar count from (to + 1) (often + 1) old new
one_more count from to often old middle new less far takes = record {
  entries = more.entries;
  leaves = λ granted unit server server' now stays talks has.
      let left = more.leaves granted unit server server' now stays talks has in (
        left.0,
        record {
          wanted = omega (arith, less);
          there = drop_long to now.outstanding left.1.0;
          left = subst (λ (list : List Replayed). FollowsReplay granted (record now { outstanding = list }) (beside unit server' new)) (drop_one to now.outstanding ∙ ap (λ (n : ℕ). drop n now.outstanding) (one_behind to)) left.1.1;
        },
        omega (arith, left.3),
        left.4,
      );
}
  where
    more : OneMore count from to often old middle new tooks.Answer
    more = one_on count from to often old middle new tooks.Answer far takes

-- something else does not come
pub another : (count from to often to' often' : ℕ) (old middle new : Own) → TakesSoFar count from to often old middle → TakesPlainly tooks.Other middle new
    → TakesSoFar count from to' often' old new
another count from to often to' often' old middle new far takes = record {
  entries = more.entries;
  leaves = λ granted unit server server' now stays talks has. absurd (more.leaves granted unit server server' now stays talks has).1;
}
  where
    more : OneMore count from to often old middle new tooks.Other
    more = one_on count from to often old middle new tooks.Other far takes

-- the tag that is next is as it was
same_rows : (granted : ℕ) (a b : Replay) (at at' : Between) → a.tag ≡ b.tag → FollowsReplay granted a at → FollowsReplay granted b at' → length at'.client.rows ≡ length at.client.rows
same_rows granted a b at at' same before behind = omega (arith, before.tag, behind.tag, same)

-- ---- how the line's step ends

-- as many were taken as the line wants
pub ends_full : (count from to often : ℕ) (p p' : Progress) (old new : Own) → taken_in p ≡ from → count ≤ to → TakesSoFar count from to often old new
    → StepsPlainly (verbs.Take count) p p' old new (Ok (steps.Ends (outcomes.Took to)))
ends_full count from to often p p' old new is enough far = λ plain granted unit server server' now spares stays talks come.
    let left = far.leaves granted unit server server' now stays talks
    (subst (λ (n : ℕ). HasTaken granted count n now (beside unit server old)) is come) in
    record {
      words = [];
      talks = left.0;
      anew = none_anew old.client new.client (same_rows granted _ _ (beside unit server old) (beside unit server' new) refl come.left left.1.left);
      told = told_idle granted (owes (beside unit server old) []) (beside unit server' new) [] (steps.Ends (outcomes.Took to)) left.0 left.1.left.login refl;
      laid = tt;
      noted = left.3;
      replayed = (
        ap outcomes.Took (omega (arith, enough, left.1.wanted, left.1.there)),
        subst (λ (n : ℕ). FollowsReplay granted (answered n now) (beside unit server' new)) (omega (arith, enough, left.1.wanted)) left.1.left,
      );
    }

-- nothing was taken yet
pub none_yet : (count from : ℕ) (old : Own) → TakesSoFar count from from 0 old old
none_yet count from old = record {
  entries = record {
    rest = record {
      place = refl;
      last_session = refl;
      registered = refl;
      kept = refl;
      sent = refl;
      drops = refl;
      counts = record {
        partner_session = omega arith;
        same_session = λ alone. refl;
        full = omega arith;
        empty = omega arith;
        closed = omega arith;
        in_use = omega arith;
      };
      full = refl;
      closed = refl;
      in_use = refl;
    };
    rows = [];
    more = sym (append-nil old.end.taken);
  };
  leaves = λ granted unit server server' now stays talks has. (
    stood_still (beside unit server old) (beside unit server' old) granted talks stays refl refl refl,
    record {
      wanted = has.wanted;
      there = has.there;
      left = follows_still granted (answered from now) (beside unit server old) (beside unit server' old) has.left refl refl;
    },
    omega arith,
    notes_same old.window.place.unit old.window.strokes old.answers old.answers refl,
  );
}

drop_all : (n : ℕ) (list : List Replayed) → drop n list ≡ [] → length list ≤ n
drop_all zero [] none = omega arith
drop_all zero (asked ∷ list) none = absurd (cc (none))
drop_all (suc n) [] none = omega arith
drop_all (suc n) (asked ∷ list) none = let rest : length list ≤ n = drop_all n list none in omega (arith, rest)

drop_more : (n : ℕ) (list : List Replayed) → length list ≤ n → drop n list ≡ []
drop_more zero [] long = refl
drop_more zero (asked ∷ list) long = absurd (omega (arith, long))
drop_more (suc n) [] long = refl
drop_more (suc n) (asked ∷ list) long = drop_more n list (omega (arith, long))

none_asked : (requests : List Outgoing) (outstanding : List Replayed) → AreReplayedAs requests outstanding → tags_of requests ≡ [] → outstanding ≡ []
none_asked [] [] are none = refl
none_asked [] (asked ∷ outstanding) are none = absurd are
none_asked (o ∷ requests) outstanding are none = absurd (cc (none))

asked_none : (requests : List Outgoing) (outstanding : List Replayed) → AreReplayedAs requests outstanding → outstanding ≡ [] → tags_of requests ≡ []
asked_none [] outstanding are none = refl
asked_none (o ∷ requests) [] are none = absurd are
asked_none (o ∷ requests) (asked ∷ outstanding) are none = absurd (cc (none))

no_tags : (tags : List ℕ) → (length tags == 0) ≡ true → tags ≡ []
no_tags [] none = refl
no_tags (tag ∷ tags) none = absurd (grind (arith, nat_tests, none))

some_tags : (tags : List ℕ) → (length tags == 0) ≡ false → tags ≡ [] → ⊥
some_tags [] some none = true≢false some
some_tags (tag ∷ tags) some none = cc (none)

-- none is there, and none is outstanding
pub ends_none : (count from to often : ℕ) (tags : List ℕ) (p p' : Progress) (old middle new : Own) → taken_in p ≡ from → to < count → tags ≡ tags_of new.client.outgoing
    → (length tags == 0) ≡ true → TakesSoFar count from to often old middle → TakesPlainly tooks.Nothing middle new
    → StepsPlainly (verbs.Take count) p p' old new (Ok (steps.Ends (outcomes.Took to)))
ends_none count from to often tags p p' old middle new is less tags_are none far takes = λ plain granted unit server server' now spares stays talks come.
    let left = (one_on count from to often old middle new tooks.Nothing far takes).leaves granted unit server server' now stays talks
    (subst (λ (n : ℕ). HasTaken granted count n now (beside unit server old)) is come) in
    let gone : drop to now.outstanding ≡ [] = none_asked new.client.outgoing (drop to now.outstanding) left.1.0.credits.outstanding (sym tags_are ∙ no_tags tags none) in
    let long : length now.outstanding ≤ to = drop_all to now.outstanding gone in
    record {
      words = [];
      talks = left.0;
      anew = none_anew old.client new.client (same_rows granted _ _ (beside unit server old) (beside unit server' new) refl come.left left.1.0);
      told = told_idle granted (owes (beside unit server old) []) (beside unit server' new) [] (steps.Ends (outcomes.Took to)) left.0 left.1.0.login refl;
      laid = tt;
      noted = left.4;
      replayed = (
        ap outcomes.Took (omega (arith, less, long, left.2)),
        subst (λ (list : List Replayed). FollowsReplay granted (record now { outstanding = list }) (beside unit server' new))
            (gone ∙ sym (drop_more count now.outstanding (omega (arith, long, less)))) left.1.0,
      );
    }

-- none is there, and some are outstanding
pub waits_none : (count from to often : ℕ) (tags : List ℕ) (p p' : Progress) (did : Moved) (old middle new : Own) → taken_in p ≡ from → taken_in p' ≡ to → to < count
    → tags ≡ tags_of new.client.outgoing → (length tags == 0) ≡ false → TakesSoFar count from to often old middle → TakesPlainly tooks.Nothing middle new
    → StepsPlainly (verbs.Take count) p p' old new (Ok (steps.Waits did))
waits_none count from to often tags p p' did old middle new is is' less tags_are some far takes = λ plain granted unit server server' now spares stays talks come.
    let left = (one_on count from to often old middle new tooks.Nothing far takes).leaves granted unit server server' now stays talks
    (subst (λ (n : ℕ). HasTaken granted count n now (beside unit server old)) is come) in
    record {
      words = [];
      talks = left.0;
      anew = none_anew old.client new.client (same_rows granted _ _ (beside unit server old) (beside unit server' new) refl come.left left.1.0);
      told = told_idle granted (owes (beside unit server old) []) (beside unit server' new) [] (steps.Waits did) left.0 left.1.0.login refl;
      laid = tt;
      noted = left.4;
      replayed = (
        subst (λ (n : ℕ). HasTaken granted count n now (beside unit server' new)) (sym is') (record { wanted = omega (arith, less); there = left.2; left = left.1.0 }),
        by granted unit server' now left.1.1 left.1.0,
      );
    }
  where
    by : (granted : ℕ) (unit : Unit) (server' : EndState) (now : Replay) → (drop to now.outstanding ≡ []) ⊎ HasToDo (beside unit server' new) []
        → FollowsReplay granted (answered to now) (beside unit server' new) → HasToDo (beside unit server' new) []
    by granted unit server' now (inl none) follows = absurd (some_tags tags some (tags_are ∙ asked_none new.client.outgoing (drop to now.outstanding) follows.credits.outstanding none))
    by granted unit server' now (inr todo) follows = todo

-- a page in use, or a partner that is lost, does not come
pub ends_never : (count from to often : ℕ) (p p' : Progress) (took : Took) (step : Step) (old middle new : Own) → taken_in p ≡ from
    → ((granted : ℕ) (now : Replay) (at : Between) → LeavesTook granted now took at → ⊥)
    → TakesSoFar count from to often old middle → TakesPlainly took middle new → StepsPlainly (verbs.Take count) p p' old new (Ok step)
ends_never count from to often p p' took step old middle new is never far takes = λ plain granted unit server server' now spares stays talks come.
    absurd (never granted (answered to now) (beside unit server' new)
    ((one_on count from to often old middle new took far takes).leaves granted unit server server' now stays talks
    (subst (λ (n : ℕ). HasTaken granted count n now (beside unit server old)) is come)).1)

-- nor as many answers as the queue has slots
pub ends_sooner : (count from to often slots : ℕ) (p p' : Progress) (step : Step) (old new : Own) → taken_in p ≡ from → slots ≡ old.end.place.own_slots → slots ≤ often
    → TakesSoFar count from to often old new → StepsPlainly (verbs.Take count) p p' old new (Ok step)
ends_sooner count from to often slots p p' step old new is slots_are all far = λ plain granted unit server server' now spares stays talks come.
    let has : HasTaken granted count from now (beside unit server old) = subst (λ (n : ℕ). HasTaken granted count n now (beside unit server old)) is come in
    let left = far.leaves granted unit server server' now stays talks has in
    absurd (omega (
      arith,
      slots_are,
      all,
      talks.calm.own_slots,
      talks.calm.most,
      left.2,
      left.1.there,
      has.left.credits.within,
      length-drop from now.outstanding,
    ))
