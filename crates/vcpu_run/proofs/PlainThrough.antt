-- Through which borrows a client's own end is reached does not matter to how far its lines came, nor does what its server unit is.
use Rattle.std.proofs.Common.{inl, inr, ℕ, List, [], Result, length}
use Rattle.std.specs.Borrow.{GName}
use Rattle.vio_num.specs.declared.hypervisor.Moved.{Moved}
use Rattle.vio_num.specs.declared.memory.NoMemory.{NoMemory}
use Rattle.crq_session.specs.EndState.{EndState}
use Rattle.block_server.specs.Talk.{Word}
use Rattle.block_server.specs.declared.unit.Unit.{Unit}
use Rattle.boot_text.specs.declared.verb.Verb.{Verb}
use Rattle.boot_text.specs.declared.verb.Verb.TheVariants as verbs
use Rattle.unit_region.specs.declared.step.Step.{Step}
use Rattle.unit_region.specs.declared.step.Step.TheVariants as steps
use Rattle.vcpu_run.specs.Credited.{taken_in}
use Rattle.vcpu_run.specs.PlainSteps.{AgreeOnCredits, FollowsReplay, HasCome, WasFailed, IsAsReplayed, IsLoggingIn, IsResetting, Own, RestsAs, RestsPlainly, StepsOn, StepsPlainly, beside}
use Rattle.vcpu_run.specs.PlainTalk.{ServerStays, TalksPlainly, owes}
use Rattle.vcpu_run.specs.Replay.{Replay, after_line, answered, forgotten}
use Rattle.vcpu_run.specs.declared.script.Progress.{Progress}
use Rattle.vcpu_run.specs.declared.script.Progress.TheVariants as progress
use Rattle.vcpu_run.proofs.PlainTurned.{lent, talks_lent}
use Rattle.vcpu_run.proofs.Resting.{ok_more}

abbrev pub own_lent : List GName → Own → Own
own_lent names own = record own { end = lent names own.end }

-- ---- how far a line came is of the client and its own end alone

agrees_through : (names : List GName) (granted : ℕ) (unit unit' : Unit) (server server' : EndState) (now : Replay) (own : Own) → AgreeOnCredits granted now (beside unit server own)
    → AgreeOnCredits granted now (beside unit' server' (own_lent names own))
agrees_through names granted unit unit' server server' now own is = record { is_on = is.is_on; there = is.there; outstanding = is.outstanding; none = is.none; within = is.within }

pub follows_through : (names : List GName) (granted : ℕ) (unit unit' : Unit) (server server' : EndState) (now : Replay) (own : Own) → FollowsReplay granted now (beside unit server own)
    → FollowsReplay granted now (beside unit' server' (own_lent names own))
follows_through names granted unit unit' server server' now own is = record {
  tag = is.tag;
  login = is.login;
  settled = is.settled;
  fresh = is.fresh;
  credits = agrees_through names granted unit unit' server server' now own is.credits;
}

logging_through : (names : List GName) (granted : ℕ) (unit unit' : Unit) (server server' : EndState) (now : Replay) (own : Own) → IsLoggingIn granted now (beside unit server own)
    → IsLoggingIn granted now (beside unit' server' (own_lent names own))
logging_through names granted unit unit' server server' now own (inl is) = inl (follows_through names granted unit unit' server server' now own is)
logging_through names granted unit unit' server server' now own (inr (inl is)) = inr (inl (record { tag = is.tag; waits = is.waits; off = is.off; none = is.none }))
logging_through names granted unit unit' server server' now own (inr (inr is)) =
    inr (inr (record { tag = is.tag; login = is.login; registered = is.registered; apart = is.apart; credits = agrees_through names granted unit unit' server server' now own is.credits }))

resetting_through : (names : List GName) (granted : ℕ) (unit unit' : Unit) (server server' : EndState) (p : Progress) (now : Replay) (own : Own)
    → IsResetting granted p now (beside unit server own) → IsResetting granted p now (beside unit' server' (own_lent names own))
resetting_through names granted unit unit' server server' progress.Freed now own (inl is) = inl (record { registered = is.registered; tag = is.tag })
resetting_through names granted unit unit' server server' progress.Freed now own (inr is) = inr (logging_through names granted unit unit' server server' (forgotten now) own is)
resetting_through names granted unit unit' server server' progress.Fresh now own is = follows_through names granted unit unit' server server' now own is
resetting_through names granted unit unit' server server' (progress.Took count) now own is = follows_through names granted unit unit' server server' now own is
resetting_through names granted unit unit' server server' (progress.Posted count) now own is = follows_through names granted unit unit' server server' now own is

pub come_through : (names : List GName) (granted : ℕ) (unit unit' : Unit) (server server' : EndState) (verb : Verb) (p : Progress) (now : Replay) (own : Own)
    → HasCome granted verb p now (beside unit server own) → HasCome granted verb p now (beside unit' server' (own_lent names own))
come_through names granted unit unit' server server' verbs.Login p now own is = logging_through names granted unit unit' server server' now own is
come_through names granted unit unit' server server' verbs.Reset p now own is = resetting_through names granted unit unit' server server' p now own is
come_through names granted unit unit' server server' (verbs.Take count) p now own is =
    record { wanted = is.wanted; there = is.there; left = follows_through names granted unit unit' server server' (answered (taken_in p) now) own is.left }
come_through names granted unit unit' server server' verbs.Logout p now own is = follows_through names granted unit unit' server server' now own is
come_through names granted unit unit' server server' verbs.Tur p now own is = follows_through names granted unit unit' server server' now own is
come_through names granted unit unit' server server' (verbs.Read lba blocks place pieces table) p now own is = follows_through names granted unit unit' server server' now own is
come_through names granted unit unit' server server' (verbs.Write lba blocks place pieces table) p now own is = follows_through names granted unit unit' server server' now own is
come_through names granted unit unit' server server' (verbs.Command cdb) p now own is = follows_through names granted unit unit' server server' now own is
come_through names granted unit unit' server server' (verbs.CommandIn cdb place len pieces table) p now own is = follows_through names granted unit unit' server server' now own is
come_through names granted unit unit' server server' (verbs.CommandOut cdb place len pieces table) p now own is = follows_through names granted unit unit' server server' now own is
come_through names granted unit unit' server server' (verbs.Task function tag) p now own is = follows_through names granted unit unit' server server' now own is
come_through names granted unit unit' server server' (verbs.Data tag) p now own is = follows_through names granted unit unit' server server' now own is
come_through names granted unit unit' server server' verbs.Open p now own is = follows_through names granted unit unit' server server' now own is
come_through names granted unit unit' server server' verbs.Close p now own is = follows_through names granted unit unit' server server' now own is
come_through names granted unit unit' server server' (verbs.Post place len count) p now own is = follows_through names granted unit unit' server server' now own is
come_through names granted unit unit' server server' (verbs.Send mac len seed place) p now own is = follows_through names granted unit unit' server server' now own is
come_through names granted unit unit' server server' (verbs.ChangeMac mac) p now own is = follows_through names granted unit unit' server server' now own is
come_through names granted unit unit' server server' (verbs.Multicast control mac) p now own is = follows_through names granted unit unit' server server' now own is
come_through names granted unit unit' server server' (verbs.Fill place len seed) p now own is = follows_through names granted unit unit' server server' now own is
come_through names granted unit unit' server server' (verbs.Poke place bytes) p now own is = follows_through names granted unit unit' server server' now own is
come_through names granted unit unit' server server' (verbs.Peek place len) p now own is = follows_through names granted unit unit' server server' now own is
come_through names granted unit unit' server server' (verbs.Tce entry page readable writable) p now own is = follows_through names granted unit unit' server server' now own is
come_through names granted unit unit' server server' (verbs.Hcall number arguments) p now own is = follows_through names granted unit unit' server server' now own is
come_through names granted unit unit' server server' verbs.Fail p now own is = follows_through names granted unit unit' server server' now own is

pub failed_through : (names : List GName) (unit unit' : Unit) (server server' : EndState) (own : Own) → WasFailed (beside unit server own)
    → WasFailed (beside unit' server' (own_lent names own))
failed_through names unit unit' server server' own is = record { laid = is.laid; registered = is.registered; kept = is.kept }

pub ends_through : (names : List GName) (granted : ℕ) (unit unit' : Unit) (server server' : EndState) (now : Replay) (own : Own) → RestsAs granted now (beside unit server own)
    → RestsAs granted now (beside unit' server' (own_lent names own))
ends_through names granted unit unit' server server' now own (inl is) = inl (follows_through names granted unit unit' server server' now own is)
ends_through names granted unit unit' server server' now own (inr is) = inr (failed_through names unit unit' server server' own is)

-- ---- a step through one borrow is one through any

pub stays_through : (a b : List GName) (unit : Unit) (server server' : EndState) (old new : Own) → ServerStays (beside unit server old) (beside unit server' new)
    → ServerStays (beside unit server (own_lent a old)) (beside unit server' (own_lent b new))
stays_through a b unit server server' old new is = record {
  unit = is.unit;
  session = is.session;
  registered = is.registered;
  kept = is.kept;
  taken = is.taken;
  slots = is.slots;
  ends = record {
    server_sees = record {
      partner = is.ends.server_sees.partner;
      session = is.ends.server_sees.session;
      received = is.ends.server_sees.received;
      taken = is.ends.server_sees.taken;
      slots = is.ends.server_sees.slots;
    };
    own_sees = record {
      partner = is.ends.own_sees.partner;
      session = is.ends.own_sees.session;
      received = is.ends.own_sees.received;
      taken = is.ends.own_sees.taken;
      slots = is.ends.own_sees.slots;
    };
    server_took = is.ends.server_took;
    own_took = is.ends.own_took;
  };
}

pub talks_own : (names : List GName) (granted : ℕ) (unit : Unit) (server : EndState) (own : Own) (words : List Word) → TalksPlainly granted (beside unit server own) words
    → TalksPlainly granted (beside unit server (own_lent names own)) words
talks_own names granted unit server own words = talks_lent server.place.lenders names granted (beside unit server own) words

replayed_through : (names : List GName) (granted : ℕ) (unit : Unit) (server : EndState) (verb : Verb) (p : Progress) (now : Replay) (own : Own) (words : List Word) (step : Step)
    → IsAsReplayed granted verb p now (beside unit server own) words step → IsAsReplayed granted verb p now (beside unit server (own_lent names own)) words step
replayed_through names granted unit server verb p now own words (steps.Ends outcome) (says, left) =
    (says, follows_through names granted unit unit server server (after_line granted own.window.place.size now verb) own left)
replayed_through names granted unit server verb p now own words (steps.Waits did) (come, has) = (come_through names granted unit unit server server verb p now own come, has)

pub steps_through : (a b x y : List GName) (verb : Verb) (p p' : Progress) (old new : Own) (result : Result Step NoMemory)
    → StepsPlainly verb p p' (own_lent a old) (own_lent b new) result → StepsPlainly verb p p' (own_lent x old) (own_lent y new) result
steps_through a b x y verb p p' old new result is plain granted unit server server' now spares stays talks come =
    ok_more result (StepsOn granted verb p' now (length old.client.rows) (owes (beside unit server old) []) old.answers new.answers (beside unit server' (own_lent b new)))
    (StepsOn granted verb p' now (length old.client.rows) (owes (beside unit server old) []) old.answers new.answers (beside unit server' (own_lent y new)))
    (λ step on. record {
      words = on.words;
      talks = talks_own y granted unit server' (own_lent b new) on.words on.talks;
      anew = on.anew;
      told = on.told;
      laid = on.laid;
      noted = on.noted;
      replayed = replayed_through y granted unit server' verb p' now (own_lent b new) on.words step on.replayed;
    })
    (is plain granted unit server server' now spares (stays_through a b unit server server' (own_lent x old) (own_lent y new) stays)
    (talks_own a granted unit server (own_lent x old) [] talks) (come_through a granted unit unit server server verb p now (own_lent x old) come))

pub rests_through : (a b x y : List GName) (old new : Own) (result : Result Moved NoMemory) → RestsPlainly (own_lent a old) (own_lent b new) result
    → RestsPlainly (own_lent x old) (own_lent y new) result
rests_through a b x y old new result is granted unit server server' now stays talks follows =
    ok_more result _ _
    (λ moved (talks', later, tag, left, notes). (talks_own y granted unit server' (own_lent b new) [] talks', later, tag, ends_through y granted unit unit server' server' later (own_lent b new) left, notes))
    (is granted unit server server' now (stays_through a b unit server server' (own_lent x old) (own_lent y new) stays)
    (talks_own a granted unit server (own_lent x old) [] talks) (ends_through a granted unit unit server server now (own_lent x old) follows))
