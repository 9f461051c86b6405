-- A client takes several entries, one after the other, whose server unit's session is over, or was: it stays so, and what was noted another unit
-- laid.
use Rattle.std.proofs.Common.{ℕ, Bool, List, [], ◌∷◌, append-nil, inl, refl, sym, subst}
use Rattle.tce_window.specs.PortState.{OnlyReads}
use Rattle.block_server.specs.Doings.{Doing}
use Rattle.vio_trace.specs.declared.rows.AnswerRow.{AnswerRow}
use Rattle.vscsi_client.specs.Ports.{Ports}
use Rattle.vscsi_client.specs.State.{ClientState}
use Rattle.vscsi_client.specs.declared.answers.Taken.{Taken}
use Rattle.vscsi_client.specs.declared.answers.Taken.TheVariants.{Again, Answer, Empty, Lost, Other, Stray}
use Rattle.vcpu_run.specs.Acts.{Acting, NotesTaken}
use Rattle.vcpu_run.specs.OwnActs.{GoesOver, IsSeenAt, RestsOver, StaysOver, TakesAlone, TakesEachAlone}
use Rattle.vcpu_run.specs.OwnOver.{IsOver}
use Rattle.vcpu_run.specs.declared.taking.Took.{Took}
use Rattle.vcpu_run.proofs.OwnActAnswers.{TakesAnswer}
use Rattle.vcpu_run.proofs.OwnActLeft.{StaysTelling, rests_on}
use Rattle.vcpu_run.proofs.OwnActLooks.{MayLook, still_telling, takes_over}
use Rattle.vcpu_run.proofs.PlainAreLaid.{IsNotedAs, noted_laid}
use Rattle.vcpu_run.proofs.PlainNotes.{lays_read, notes_same, windows_on}

-- ---- one behind the other

pub stays_on : (granted : ℕ) (failed failed' : Bool) (d : Doing) (s s' : ClientState) (a b c : Ports) → (first : StaysOver granted failed d s a b) → StaysOver granted failed' first.left s' b c
    → StaysOver granted failed' d s' a c
stays_on granted failed failed' d s s' a b c first next = record {
  left = next.left;
  rests = rests_on d first.left next.left a b c first.rests next.rests;
  seen = next.seen;
  over = next.over;
}

pub on_telling : (granted : ℕ) (failed failed' : Bool) (d : Doing) (s s' : ClientState) (a b c : Ports) → (first : StaysOver granted failed d s a b) → (next : StaysOver granted failed' first.left s' b c)
    → StaysTelling granted failed' d s' a c next.over.answers
unfolding stays_on
on_telling granted failed failed' d s s' a b c first next = (stays_on granted failed failed' d s s' a b c first next, refl)

-- nothing was done
pub here_telling : (granted : ℕ) (failed : Bool) (d : Doing) (s : ClientState) (at : Ports) → IsSeenAt d at → (over : IsOver granted failed d s at.crq) → StaysTelling granted failed d s at at over.answers
here_telling granted failed d s at seen over = still_telling granted failed d s at at seen over (record {
  put = sym (append-nil at.crq.sent);
  reached = inl refl;
  session = refl;
  place = refl;
  alone = seen.alone;
  apart = seen.apart;
  usable = seen.usable;
  idle = seen.idle;
  events = seen.events;
}) refl (record { registered = refl; session = refl; taken = refl })

pub stays_here : (granted : ℕ) (failed : Bool) (d : Doing) (s : ClientState) (at : Ports) → IsSeenAt d at → IsOver granted failed d s at.crq → StaysOver granted failed d s at at
stays_here granted failed d s at seen over = (here_telling granted failed d s at seen over).0

pub goes_here : (granted : ℕ) (failed : Bool) (d : Doing) (at : Acting) → RestsOver granted failed d at → GoesOver granted failed d at at
goes_here granted failed d at rests = record {
  over = stays_here granted failed d at.client at.ports rests.seen rests.over;
  settled = rests.settled;
  idle = rests.idle;
  noted = notes_same at.ports.own.place.unit at.ports.own.strokes at.answers at.answers refl;
}

-- ---- what is noted

noted_as : (taken : Taken) (session : ℕ) (old new : List AnswerRow) → NotesTaken taken session old new → IsNotedAs taken old new
noted_as (Answer tag response) session old new notes = notes.noted
noted_as (Stray tag) session old new same = same
noted_as Lost session old new same = same
noted_as Other session old new same = same
noted_as (Again page word) session old new same = same
noted_as (Empty number) session old new same = same

may_look : (granted : ℕ) (failed : Bool) (d : Doing) (took : Took) (old new : Acting) → IsSeenAt d old.ports → IsOver granted failed d old.client old.ports.crq → TakesAlone took old new
    → MayLook granted failed d old.client old.ports new.ports
may_look granted failed d took old new seen over takes = record { seen = seen; over = over; only = takes.crq; reads = takes.own; hands = takes.hands }

-- ---- while no login is under way

pub one_over : (granted : ℕ) (failed : Bool) (d : Doing) (took : Took) (old new : Acting) → RestsOver granted failed d old → TakesAlone took old new → GoesOver granted failed d old new
one_over granted failed d took old new rests takes = record {
  over = took_over.keeps.over;
  settled = took_over.keeps.settled;
  idle = took_over.keeps.idle;
  noted = noted_laid takes.once.taken new.ports.own old.answers new.answers took_over.laid (noted_as takes.once.taken new.ports.crq.last_session old.answers new.answers takes.once.notes);
}
  where
    took_over : TakesAnswer granted failed d new.client old.ports new.ports takes.once.taken
    took_over = takes_over granted failed d old.client new.client old.ports new.ports takes.once.taken (may_look granted failed d took old new rests.seen rests.over takes) rests.settled rests.idle
        takes.once.takes

pub rests_behind : (granted : ℕ) (failed : Bool) (d : Doing) (old new : Acting) → (goes : GoesOver granted failed d old new) → RestsOver granted failed goes.over.left new
rests_behind granted failed d old new goes = record { seen = goes.over.seen; over = goes.over.over; settled = goes.settled; idle = goes.idle }

then_over : (granted : ℕ) (failed : Bool) (d : Doing) (took : Took) (old middle new : Acting) → GoesOver granted failed d old middle → TakesAlone took middle new → GoesOver granted failed d old new
then_over granted failed d took old middle new first last = record {
  over = stays_on granted failed failed d middle.client new.client old.ports middle.ports new.ports first.over next.over;
  settled = next.settled;
  idle = next.idle;
  noted = windows_on middle.ports.own new.ports.own old.answers middle.answers new.answers
      (lays_read middle.ports.own new.ports.own (subst (λ b. OnlyReads b middle.ports.own new.ports.own) first.over.seen.apart last.own)) first.noted next.noted;
}
  where
    next : GoesOver granted failed first.over.left middle new
    next = one_over granted failed first.over.left took middle new (rests_behind granted failed d old middle first) last

pub each_over : (granted : ℕ) (failed : Bool) (d : Doing) (entries : List Took) (old new : Acting) → RestsOver granted failed d old → TakesEachAlone entries old new → GoesOver granted failed d old new
each_over granted failed d [] old new rests same = subst (λ (a : Acting). GoesOver granted failed d old a) (sym same) (goes_here granted failed d old rests)
each_over granted failed d (took ∷ entries) old new rests (middle, each, last) =
    then_over granted failed d took old middle new (each_over granted failed d entries old middle rests each) last
