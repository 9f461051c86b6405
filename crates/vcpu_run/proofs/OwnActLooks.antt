-- A client looks for an entry, whose server unit's session is over, or was: all that it may find, and a step that leaves both as they were.
use Rattle.std.proofs.Common.{◌≡◌, ◌∙◌, ◌⊎◌, inl, inr, ℕ, ◌≤◌, Bool, true, false, List, [], drop, length, sym, ap, ap₂, subst}
use Rattle.vio_num.specs.Entry.{is_srp_entry}
use Rattle.crq_ring.specs.Sessions.{of_session}
use Rattle.crq_ring.specs.declared.rows.PipeRow.{PipeRow}
use Rattle.crq_session.specs.Answered.{FindsNone, taken_now}
use Rattle.crq_session.specs.EndState.{EndState, OnlyReserves, OnlyTakes}
use Rattle.tce_window.specs.PortState.{OnlyReads, PortState}
use Rattle.block_server.specs.Doings.{Doing}
use Rattle.vscsi_client.specs.Ports.{Ports}
use Rattle.vscsi_client.specs.State.{ClientState}
use Rattle.vscsi_client.specs.Taking.{TakesAs, TakesEntry, TakesNone}
use Rattle.vscsi_client.specs.declared.answers.Taken.{Taken}
use Rattle.vscsi_client.specs.declared.answers.Taken.TheVariants.{Again, Answer, Empty, Lost, Other, Stray}
use Rattle.vscsi_client.specs.declared.stage.Stage.TheVariants.{Idle}
use Rattle.vcpu_run.specs.OwnActs.{IsSeenAt, IsSettled, SameHands, StaysOver}
use Rattle.vcpu_run.specs.OwnOver.{IsOver, IsOwed, coming_to, stream_of}
use Rattle.vcpu_run.proofs.OwnActAnswers.{TakesAnswer, takes_answer}
use Rattle.vcpu_run.proofs.OwnActLeft.{Leaves, NextOver, StaysTelling, stays_telling}
use Rattle.vcpu_run.proofs.OwnActStill.{phase_still}
use Rattle.vcpu_run.proofs.OwnActTakes.{Looks, takes_gone, takes_shake}
use Rattle.vcpu_run.proofs.OwnActTaking.{TakesSo, leaves_takes, takes_so}

-- ---- both are as they were

-- Of an end nothing was taken, and its queue is registered as it was.
pub record StaysTaken (old new : EndState) : Type 0 where
  pub registered : new.registered ≡ old.registered
  pub session : new.last_session ≡ old.last_session
  pub taken : new.taken ≡ old.taken

pub come_still : (sent : List PipeRow) (old new : EndState) → StaysTaken old new → coming_to old sent ≡ coming_to new sent
come_still sent old new same =
    ap₂ (λ (q : ℕ) (rows : List PipeRow). drop (length (of_session q rows)) (of_session q sent)) (sym same.session) (sym same.taken)

pub took_still : (sent : List PipeRow) (old new : EndState) → StaysTaken old new → length (taken_now old) ≤ length (of_session old.last_session sent)
    → length (taken_now new) ≤ length (of_session new.last_session sent)
took_still sent old new same took =
    subst (λ (n : ℕ). n ≤ length (of_session new.last_session sent)) (sym (ap₂ (λ (q : ℕ) (rows : List PipeRow). length (of_session q rows)) same.session same.taken))
    (subst (λ (q : ℕ). length (taken_now old) ≤ length (of_session q sent)) (sym same.session) took)

-- nothing was put, and nothing was written
pub still_telling : (granted : ℕ) (failed : Bool) (d : Doing) (s : ClientState) (old new : Ports) → IsSeenAt d old → (over : IsOver granted failed d s old.crq) → Leaves old new [] → new.own ≡ old.own
    → StaysTaken old.crq new.crq → StaysTelling granted failed d s old new over.answers
still_telling granted failed d s old new seen over leaves window same = stays_telling granted failed failed d s s old new [] seen over leaves next
  where
    there : new.own ≡ d.client
    there = window ∙ sym seen.window

    next : NextOver granted failed d s new []
    next = record {
      answered = over.answered;
      lost = over.lost;
      answers = over.answers;
      rest = over.rest;
      come = λ on. over.come (sym same.registered ∙ on) ∙ come_still d.sent old.crq new.crq same;
      owed = subst (λ (w : PortState). IsOwed granted d.id w s (stream_of s over.rest) over.answered over.lost over.answers) (sym there) over.owed;
      away = λ off. over.away (sym same.registered ∙ off);
      there = λ on. over.there (sym same.registered ∙ on);
      took = took_still d.sent old.crq new.crq same over.took;
      tabled = over.tabled;
      on = λ on. over.on (sym same.registered ∙ on);
      phase = phase_still granted failed d s old.crq new (stream_of s over.rest) over.answered over.lost there same.registered over.phase;
    }

pub over_still : (granted : ℕ) (failed : Bool) (d : Doing) (s : ClientState) (old new : Ports) → IsSeenAt d old → IsOver granted failed d s old.crq → Leaves old new [] → new.own ≡ old.own
    → StaysTaken old.crq new.crq → StaysOver granted failed d s old new
over_still granted failed d s old new seen over leaves window same = (still_telling granted failed d s old new seen over leaves window same).0

-- ---- none was there

none_taken : (s s' : ClientState) (old new : Ports) (number : ℕ) → old.crq_shared ≡ false → OnlyTakes false old.crq new.crq → TakesNone s s' old new number → StaysTaken old.crq new.crq
none_taken s s' old new number alone only takes = record { registered = only.registered; session = only.last_session; taken = by takes.fetched.none.none ∙ takes.fetched.none.ready.taken }
  where
    by : FindsNone old.crq_shared takes.fetched.none.room new.crq number
        ⊎ ((takes.fetched.none.room.registered ≡ false) × (number ≡ 0) × OnlyReserves takes.fetched.none.room new.crq) → new.crq.taken ≡ takes.fetched.none.room.taken
    by (inl finds) = finds.taken
    by (inr closed) = closed.2.taken

-- What is so of a client that looks, whatever it does besides.
pub record MayLook (granted : ℕ) (failed : Bool) (d : Doing) (s : ClientState) (old new : Ports) : Type 0 where
  pub seen : IsSeenAt d old
  pub over : IsOver granted failed d s old.crq
  pub only : OnlyTakes old.crq_shared old.crq new.crq
  pub reads : OnlyReads old.own_shared old.own new.own
  pub hands : SameHands old new

alone_takes : (d : Doing) (old new : Ports) → IsSeenAt d old → OnlyTakes old.crq_shared old.crq new.crq → OnlyTakes false old.crq new.crq
alone_takes d old new seen only = subst (λ b. OnlyTakes b old.crq new.crq) seen.alone only

alone_reads : (d : Doing) (old new : Ports) → IsSeenAt d old → OnlyReads old.own_shared old.own new.own → OnlyReads false old.own new.own
alone_reads d old new seen reads = subst (λ b. OnlyReads b old.own new.own) seen.apart reads

takes_nothing : (granted : ℕ) (failed : Bool) (d : Doing) (s s' : ClientState) (old new : Ports) (number : ℕ) → MayLook granted failed d s old new → TakesNone s s' old new number
    → StaysOver granted failed d s' old new
takes_nothing granted failed d s s' old new number at takes =
    subst (λ (s : ClientState). StaysOver granted failed d s old new) (sym takes.fetched.client)
    (over_still granted failed d s old new at.seen at.over (leaves_takes d old new at.seen only (alone_reads d old new at.seen at.reads) at.hands) takes.own
    (none_taken s s' old new number at.seen.alone only takes))
  where
    only : OnlyTakes false old.crq new.crq
    only = alone_takes d old new at.seen at.only

-- ---- while no login is under way

looks : (granted : ℕ) (failed : Bool) (d : Doing) (s : ClientState) (old new : Ports) → MayLook granted failed d s old new → IsSettled s → s.login ≡ Idle → Looks granted failed d s old new
looks granted failed d s old new at settled idle = record {
  seen = at.seen;
  over = at.over;
  settled = settled;
  idle = idle;
  only = alone_takes d old new at.seen at.only;
  reads = alone_reads d old new at.seen at.reads;
  hands = at.hands;
}

so_of : (granted : ℕ) (failed : Bool) (d : Doing) (s s' : ClientState) (old new : Ports) (taken : Taken) → (at : Looks granted failed d s old new) → TakesAs s s' old new taken
    → TakesSo d.sent at.over.rest s s' old new taken
so_of granted failed d s s' old new taken at takes =
    takes_so d.sent at.over.rest s s' old new taken at.seen.alone at.seen.apart at.seen.received at.over.come at.over.took at.only takes

takes_srp : (granted : ℕ) (failed : Bool) (d : Doing) (s s' : ClientState) (old new : Ports) (taken : Taken) → (at : Looks granted failed d s old new)
    → (so : TakesSo d.sent at.over.rest s s' old new taken) → is_srp_entry so.entry ≡ true → TakesAnswer granted failed d s' old new taken
takes_srp granted failed d s s' old new taken at so srp =
    takes_answer granted failed d s s' old new taken at.seen at.over at.settled at.idle at.only at.reads at.hands so srp

pub takes_over : (granted : ℕ) (failed : Bool) (d : Doing) (s s' : ClientState) (old new : Ports) (taken : Taken) → MayLook granted failed d s old new → IsSettled s → s.login ≡ Idle
    → TakesEntry s s' old new taken → TakesAnswer granted failed d s' old new taken
takes_over granted failed d s s' old new (Answer tag response) may settled idle takes =
    let at = looks granted failed d s old new may settled idle in
    let so = so_of granted failed d s s' old new (Answer tag response) at takes in
    takes_srp granted failed d s s' old new (Answer tag response) at so so.judged.0.srp
takes_over granted failed d s s' old new (Stray tag) may settled idle takes =
    let at = looks granted failed d s old new may settled idle in
    let so = so_of granted failed d s s' old new (Stray tag) at takes in
    takes_srp granted failed d s s' old new (Stray tag) at so so.judged.0.srp
takes_over granted failed d s s' old new (Again page word) may settled idle takes =
    let at = looks granted failed d s old new may settled idle in
    let so = so_of granted failed d s s' old new (Again page word) at takes in
    takes_srp granted failed d s s' old new (Again page word) at so so.judged.0.srp
takes_over granted failed d s s' old new Lost may settled idle takes =
    let at = looks granted failed d s old new may settled idle in
    let so = so_of granted failed d s s' old new Lost at takes in
    record { keeps = takes_gone granted failed d s s' old new at so so.judged.0 so.judged.1; laid = tt }
takes_over granted failed d s s' old new Other may settled idle takes =
    let at = looks granted failed d s old new may settled idle in
    let so = so_of granted failed d s s' old new Other at takes in
    record { keeps = takes_shake granted failed d s s' old new at so so.judged.0 so.judged.1 so.judged.2; laid = tt }
takes_over granted failed d s s' old new (Empty number) may settled idle takes = record {
  keeps = record {
    over = takes_nothing granted failed d s s' old new number may takes;
    settled = subst IsSettled (sym takes.fetched.client) settled;
    idle = ap (λ (s : ClientState). s.login) takes.fetched.client ∙ idle;
  };
  laid = tt;
}
