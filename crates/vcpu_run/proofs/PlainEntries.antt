-- What a driver's call that takes one entry leaves, where nobody else has a hand in its end and its window.
use Rattle.std.proofs.Common.{◌≡◌, ◌∙◌, ◌⊎◌, inl, inr, ℕ, ◌++◌, Bool, true, false, true≢false, List, [], ◌∷◌, append-nil, sym, ap, subst}
use Rattle.vio_num.specs.declared.entry.Entry.{Entry}
use Rattle.crq_ring.specs.declared.rows.PipeRow.{PipeRow}
use Rattle.crq_session.specs.Answered.{FindsNone}
use Rattle.crq_session.specs.EndState.{EndState, OnlyReserves, OnlyTakes}
use Rattle.tce_window.specs.PortState.{OnlyReads}
use Rattle.vscsi_client.specs.Ports.{ports}
use Rattle.vscsi_client.specs.Taking.{IsNext, PollsEmpty, TakesEntry}
use Rattle.vscsi_client.specs.declared.answers.Taken.{Taken}
use Rattle.vscsi_client.specs.declared.answers.Taken.TheVariants as takens
use Rattle.vcpu_run.specs.PlainSteps.{LeavesTook, Own, TakesPlainly, beside}
use Rattle.vcpu_run.specs.PlainTalk.{Between}
use Rattle.vcpu_run.specs.Replay.{Replay}
use Rattle.vcpu_run.specs.declared.taking.Took.{Took}
use Rattle.vcpu_run.specs.declared.taking.Took.TheVariants as tooks
use Rattle.vcpu_run.proofs.PlainAreLaid.{IsNotedAs, noted_laid}
use Rattle.vcpu_run.proofs.PlainFails.{takes_failed}
use Rattle.vcpu_run.proofs.PlainOldest.{LeavesTaken, leaves_laid, take_leaves}

-- what an entry that a client took is to its driver
abbrev pub took_of : Taken → Took
took_of (takens.Answer tag response) = tooks.Answer
took_of (takens.Empty number) = tooks.Nothing
took_of takens.Lost = tooks.Lost
took_of (takens.Again page word) = tooks.InUse
took_of taken = tooks.Other

leaves_as : (granted : ℕ) (now : Replay) (at : Between) (taken : Taken) → LeavesTaken granted now taken at → LeavesTook granted now (took_of taken) at
leaves_as granted now at (takens.Answer tag response) leaves = leaves
leaves_as granted now at (takens.Empty number) leaves = leaves
leaves_as granted now at takens.Lost leaves = absurd leaves
leaves_as granted now at (takens.Again page word) leaves = absurd leaves
leaves_as granted now at takens.Other leaves = absurd leaves
leaves_as granted now at (takens.Stray tag) leaves = absurd leaves

-- ---- what it took

none_more : (old new : EndState) → new.taken ≡ old.taken → (rows : List PipeRow) × (new.taken ≡ old.taken ++ rows)
none_more old new same = ([], same ∙ sym (append-nil old.taken))

next_more : (kept : List Entry) (old new : EndState) (entry : Entry) (rest : List Entry) → IsNext kept false old entry rest new → (rows : List PipeRow) × (new.taken ≡ old.taken ++ rows)
next_more [] old new entry rest next = (
  record { session = next.1.room.last_session; entry = entry } ∷ [],
  next.1.taken.taken
      ∙ ap (λ (rows : List PipeRow). rows ++ record { session = next.1.room.last_session; entry = entry } ∷ []) next.1.ready.taken,
)
next_more (first ∷ kept) old new entry rest next = none_more old new (ap (λ (e : EndState). e.taken) next.2)

empty_more : (old new : EndState) (number : ℕ) → PollsEmpty false old number new → (rows : List PipeRow) × (new.taken ≡ old.taken ++ rows)
empty_more old new number polls = none_more old new (by polls.none ∙ polls.ready.taken)
  where
    by : FindsNone false polls.room new number ⊎ ((polls.room.registered ≡ false) × (number ≡ 0) × OnlyReserves polls.room new) → new.taken ≡ polls.room.taken
    by (inl finds) = finds.taken
    by (inr closed) = closed.2.taken

more_by : (old new : Own) (taken : Taken) → TakesEntry old.client new.client (ports false old.end false old.window) (ports false new.end false new.window) taken
    → (rows : List PipeRow) × (new.end.taken ≡ old.end.taken ++ rows)
more_by old new (takens.Empty number) takes = empty_more old.end new.end number takes.fetched.none
more_by old new (takens.Answer tag response) takes = next_more old.client.kept old.end new.end takes.fetched.entry takes.fetched.rest takes.fetched.next
more_by old new (takens.Stray tag) takes = next_more old.client.kept old.end new.end takes.fetched.entry takes.fetched.rest takes.fetched.next
more_by old new takens.Lost takes = next_more old.client.kept old.end new.end takes.fetched.entry takes.fetched.rest takes.fetched.next
more_by old new takens.Other takes = next_more old.client.kept old.end new.end takes.fetched.entry takes.fetched.rest takes.fetched.next
more_by old new (takens.Again page word) takes = next_more old.client.kept old.end new.end takes.fetched.entry takes.fetched.rest takes.fetched.next

-- ---- all of it

takes_alone : (old new : Own) (taken : Taken) → TakesEntry old.client new.client (ports false old.end false old.window) (ports false new.end false new.window) taken
    → OnlyTakes false old.end new.end → OnlyReads false old.window new.window → IsNotedAs taken old.answers new.answers → TakesPlainly (took_of taken) old new
takes_alone old new taken takes only reads noted = record {
  reads = reads;
  entries = record { rest = only; rows = more.0; more = more.1 };
  leaves = λ granted unit server server' now stays talks follows.
      let left = take_leaves granted now (beside unit server old) (beside unit server' new) taken talks follows stays takes only reads in (
        left.0,
        leaves_as granted now (beside unit server' new) taken left.1,
        noted_laid taken new.window old.answers new.answers (leaves_laid granted now (beside unit server old) (beside unit server' new) taken talks follows takes only reads) noted,
      );
  failed = λ granted unit server server' stays talks fails.
      let left = takes_failed granted (beside unit server old) (beside unit server' new) taken talks fails stays takes only reads in
      (left.0, left.1, left.2, noted_laid taken new.window old.answers new.answers left.3 noted);
}
  where
    more : (rows : List PipeRow) × (new.end.taken ≡ old.end.taken ++ rows)
    more = more_by old new taken takes

pub take_plainly : (crq_shared own_shared : Bool) (old new : Own) (taken kind : Taken) (took : Took) → taken ≡ kind → took_of kind ≡ took
    → TakesEntry old.client new.client (ports crq_shared old.end own_shared old.window) (ports crq_shared new.end own_shared new.window) taken
    → OnlyTakes crq_shared old.end new.end → OnlyReads own_shared old.window new.window → crq_shared ≡ false → own_shared ≡ false → IsNotedAs kind old.answers new.answers
    → TakesPlainly took old new
take_plainly false false old new taken kind took is so takes only reads crq_alone own_alone noted =
    subst (λ (t : Took). TakesPlainly t old new) (ap took_of is ∙ so)
    (takes_alone old new taken takes only reads (subst (λ (t : Taken). IsNotedAs t old.answers new.answers) (sym is) noted))
take_plainly true own_shared old new taken kind took is so takes only reads crq_alone own_alone noted = absurd (true≢false crq_alone)
take_plainly false true old new taken kind took is so takes only reads crq_alone own_alone noted = absurd (true≢false own_alone)
