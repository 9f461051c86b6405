-- The answers that a plain client takes behind its last line, one after the other.
use Rattle.std.proofs.Common.{◌≡◌, ◌∙◌, inl, inr, ℕ, [], Result, Err, refl, subst, sym}
use Rattle.vio_num.specs.declared.hypervisor.Moved.{Moved}
use Rattle.vio_num.specs.declared.memory.NoMemory.{NoMemory}
use Rattle.crq_session.specs.EndState.{EndState}
use Rattle.block_server.specs.declared.unit.Unit.{Unit}
use Rattle.vscsi_client.specs.State.{next_tag}
use Rattle.vcpu_run.specs.PlainSteps.{FollowsReplay, LeavesTook, Own, OwnNotes, RestsAs, RestsPlainly, TakesEntries, TakesPlainly, beside}
use Rattle.vcpu_run.specs.PlainTalk.{Between, ServerStays, TalksPlainly}
use Rattle.vcpu_run.specs.Replay.{Replay, answered}
use Rattle.vcpu_run.specs.declared.taking.Took.{Took}
use Rattle.vcpu_run.specs.declared.taking.Took.TheVariants as tooks
use Rattle.vcpu_run.proofs.PlainAsking.{follows_still, stood_still}
use Rattle.vcpu_run.proofs.PlainCounting.{entries_on, none_yet}
use Rattle.vcpu_run.proofs.PlainMiddle.{KeptThere, kept_there, seeing}
use Rattle.vcpu_run.proofs.PlainNotes.{LaysOn, lays_read, notes_same, windows_on}

-- What it has taken so far.
pub record RestsSoFar (old new : Own) : Type 0 where
  pub entries : TakesEntries old.end new.end
  pub reads : LaysOn old.window new.window
  pub leaves : (granted : ℕ) (unit : Unit) (server server' : EndState) (now : Replay) → ServerStays (beside unit server old) (beside unit server' new)
      → TalksPlainly granted (beside unit server old) [] → RestsAs granted now (beside unit server old)
      → TalksPlainly granted (beside unit server' new) [] × (later : Replay) × (next_tag new.client ≡ next_tag old.client) × RestsAs granted later (beside unit server' new) × OwnNotes old new

rests_still : (granted : ℕ) (now : Replay) (unit : Unit) (server server' : EndState) (own : Own) → RestsAs granted now (beside unit server own) → RestsAs granted now (beside unit server' own)
rests_still granted now unit server server' own (inl follows) = inl (follows_still granted now (beside unit server own) (beside unit server' own) follows refl refl)
rests_still granted now unit server server' own (inr failed) = inr (record { laid = failed.laid; registered = failed.registered; kept = failed.kept })

-- nothing
pub rests_none : (old : Own) → RestsSoFar old old
rests_none old = record {
  entries = (none_yet 0 0 old).entries;
  reads = record { unit = refl; strokes = λ page stroke is. is };
  leaves = λ granted unit server server' now stays talks follows. (
    stood_still (beside unit server old) (beside unit server' old) granted talks stays refl refl refl,
    now,
    refl,
    rests_still granted now unit server server' old follows,
    notes_same old.window.place.unit old.window.strokes old.answers old.answers refl,
  );
}

later_on : (granted : ℕ) (now : Replay) (took : Took) (at : Between) → LeavesTook granted now took at → (later : Replay) × (later.tag ≡ now.tag) × FollowsReplay granted later at
later_on granted now tooks.Answer at left = (answered 1 now, refl, left.1)
later_on granted now tooks.Nothing at left = (now, refl, left.0)
later_on granted now tooks.Other at left = absurd left
later_on granted now tooks.Lost at left = absurd left
later_on granted now tooks.InUse at left = absurd left

-- one entry more
pub rests_more : (old middle new : Own) (took : Took) → RestsSoFar old middle → TakesPlainly took middle new → RestsSoFar old new
rests_more old middle new took far takes = record {
  entries = entries_on old.end middle.end new.end far.entries takes.entries;
  reads = record { unit = reads.unit ∙ far.reads.unit; strokes = λ page stroke is. reads.strokes page stroke (far.reads.strokes page stroke is) };
  leaves = leaves;
}
  where
    reads : LaysOn middle.window new.window
    reads = lays_read middle.window new.window takes.reads

    leaves : (granted : ℕ) (unit : Unit) (server server' : EndState) (now : Replay) → ServerStays (beside unit server old) (beside unit server' new)
        → TalksPlainly granted (beside unit server old) [] → RestsAs granted now (beside unit server old)
        → TalksPlainly granted (beside unit server' new) [] × (later : Replay) × (next_tag new.client ≡ next_tag old.client) × RestsAs granted later (beside unit server' new) × OwnNotes old new
    leaves granted unit server server' now stays talks follows = on so_far.3 so_far.4
      where
        kept : KeptThere unit server server' old middle new
        kept = kept_there unit server server' old middle new takes.entries stays

        mid : Between
        mid = beside unit (seeing server' middle.end) middle

        so_far : TalksPlainly granted mid [] × (later : Replay) × (next_tag middle.client ≡ next_tag old.client) × RestsAs granted later mid × OwnNotes old middle
        so_far = far.leaves granted unit server (seeing server' middle.end) now kept.before talks follows

        notes : OwnNotes old middle → OwnNotes middle new → OwnNotes old new
        notes first next = windows_on middle.window new.window old.answers middle.answers new.answers reads first next

        on : RestsAs granted so_far.1 mid → OwnNotes old middle
            → TalksPlainly granted (beside unit server' new) [] × (later : Replay) × (next_tag new.client ≡ next_tag old.client) × RestsAs granted later (beside unit server' new) × OwnNotes old new
        on (inl before) noted =
            let one = takes.leaves granted unit (seeing server' middle.end) server' so_far.1 kept.behind so_far.0 before in
            let later = later_on granted so_far.1 took (beside unit server' new) one.1 in
            (one.0, later.0, later.2.tag ∙ later.1 ∙ sym before.tag ∙ so_far.2, inl later.2, notes noted one.2)
        on (inr failed) noted =
            let one = takes.failed granted unit (seeing server' middle.end) server' kept.behind so_far.0 failed in (one.0, so_far.1, one.2 ∙ so_far.2, inr one.1, notes noted one.3)

-- nor does a call tell anything that ran out of memory
pub rests_err : (old new : Own) (result : Result Moved NoMemory) (memory : NoMemory) → result ≡ Err memory → RestsPlainly old new result
rests_err old new result memory is = subst (λ (r : Result Moved NoMemory). RestsPlainly old new r) (sym is) (λ granted unit server server' now stays talks follows. tt)
