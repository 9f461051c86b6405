-- A client looks for an entry, whose server unit's session is over, or was: what it takes, whatever that is, leaves it so.
use Rattle.std.proofs.Common.{◌≡◌, ◌∙◌, ℕ, ◌++◌, All, Bool, true, false, true≢false, IfSome, List, [], ◌∷◌, Option, None, length, sym, ap, subst}
use Rattle.std.specs.List.{list_any}
use Rattle.std.proofs.lemmas.List.Elements.{All-head, All-nil, All-tail}
use Rattle.vio_num.specs.Entry.{is_srp_entry}
use Rattle.vio_num.specs.declared.entry.Entry.{Entry}
use Rattle.crq_session.specs.EndState.{OnlyTakes}
use Rattle.crq_session.specs.declared.handshake.Handshake.TheVariants.{Down, Up, Waiting}
use Rattle.tce_window.specs.PortState.{OnlyReads, PortState}
use Rattle.block_server.specs.Closings.{is_event}
use Rattle.block_server.specs.Doings.{Doing}
use Rattle.vscsi_client.specs.Ports.{Ports}
use Rattle.vscsi_client.specs.State.{ClientState}
use Rattle.vscsi_client.specs.Taking.{lost_by, shaken_by}
use Rattle.vscsi_client.specs.declared.answers.Taken.TheVariants.{Lost, Other}
use Rattle.vscsi_client.specs.declared.stage.Stage.TheVariants.{Idle}
use Rattle.vcpu_run.specs.OwnActs.{IsSeenAt, IsSettled, SameHands, left_at}
use Rattle.vcpu_run.specs.OwnOver.{IsNews, IsOver, IsOwed, IsShake, is_login_due, news_among, stream_of}
use Rattle.vcpu_run.proofs.OverKinds.{event_no_srp}
use Rattle.vcpu_run.proofs.OwnActAnswers.{KeepsOver, logout_same}
use Rattle.vcpu_run.proofs.OwnActGone.{AwaitsAnew, HasForgotten, gone_phase, gone_waits, owed_none, steps_alone}
use Rattle.vcpu_run.proofs.OwnActLeft.{IsPhase, NextOver, stays_over}
use Rattle.vcpu_run.proofs.OwnActOwed.{KnowsSame, owed_past}
use Rattle.vcpu_run.proofs.OwnActPast.{none_on}
use Rattle.vcpu_run.proofs.OwnActShakes.{IsShaken, shaken_phase, shaken_up}
use Rattle.vcpu_run.proofs.OwnStreams.{news_other, news_shake}
use Rattle.vcpu_run.proofs.OwnActTaking.{TakesSo, from_queue, leaves_takes, stream_is}

-- What is so before the client looks.
pub record Looks (granted : ℕ) (failed : Bool) (d : Doing) (s : ClientState) (old new : Ports) : Type 0 where
  pub seen : IsSeenAt d old
  pub over : IsOver granted failed d s old.crq
  pub settled : IsSettled s
  pub idle : s.login ≡ Idle
  pub only : OnlyTakes false old.crq new.crq
  pub reads : OnlyReads false old.own new.own
  pub hands : SameHands old new

none_srp : (s : ClientState) → s.kept ≡ [] → All (λ (entry : Entry). is_srp_entry entry ≡ true) s.kept
none_srp s empty = subst (All (λ (entry : Entry). is_srp_entry entry ≡ true)) (sym empty) (All-nil (λ (entry : Entry). is_srp_entry entry ≡ true))

-- ---- an event

pub takes_gone : (granted : ℕ) (failed : Bool) (d : Doing) (s s' : ClientState) (old new : Ports) (at : Looks granted failed d s old new) (so : TakesSo d.sent at.over.rest s s' old new Lost)
    → is_event so.entry ≡ true → new.own ≡ old.own → KeepsOver granted failed d s' old new
takes_gone granted failed d s s' old new at so event window = record {
  over = stays_over granted failed failed d s s' old new [] at.seen at.over (leaves_takes d old new at.seen at.only at.reads at.hands) next;
  settled = record {
    held = forgotten.held;
    kept = none_srp s' forgotten.aware.kept;
    logout = subst (λ (known : Option ℕ). IfSome known (λ _. s'.logout ≡ None)) (sym forgotten.aware.granted) tt;
  };
  idle = forgotten.idle;
}
  where
    from : (so.kept ≡ []) × (old.crq.registered ≡ true)
    from = from_queue s so.entry so.kept old.crq.registered at.settled (event_no_srp so.entry event) so.from

    stream : stream_of s at.over.rest ≡ so.entry ∷ so.next
    stream = stream_is s at.over.rest at.settled.held ∙ so.stream ∙ ap (λ (kept : List Entry). so.entry ∷ (kept ++ so.next)) from.0

    client : s' ≡ lost_by so.entry (record s { kept = so.kept })
    client = so.client

    forgotten : HasForgotten s'
    forgotten = record {
      aware = record {
        granted = ap (λ (s : ClientState). s.granted) client;
        outgoing = ap (λ (s : ClientState). s.outgoing) client;
        logout = ap (λ (s : ClientState). s.logout) client;
        kept = ap (λ (s : ClientState). s.kept) client;
      };
      idle = ap (λ (s : ClientState). s.login) client;
      held = ap (λ (s : ClientState). s.held) client;
    }

    on : new.crq.registered ≡ true
    on = at.only.registered ∙ from.1

    awaits : AwaitsAnew s' new.crq
    awaits = record {
      forgotten = forgotten;
      handshake = ap (λ (s : ClientState). s.handshake) client ∙ gone_waits s.handshake so.entry event (at.over.there from.1);
      due = ap (λ (s : ClientState). list_any is_login_due s.due) client ∙ steps_alone s.due;
      registered = on;
    }

    owed : IsOwed granted d.id d.client s (so.entry ∷ so.next) at.over.answered at.over.lost at.over.answers
    owed = subst (λ (list : List Entry). IsOwed granted d.id d.client s list at.over.answered at.over.lost at.over.answers) stream at.over.owed

    phase : IsPhase granted failed d s old.crq (so.entry ∷ so.next) at.over.answered at.over.lost
    phase = subst (λ (list : List Entry). IsPhase granted failed d s old.crq list at.over.answered at.over.lost) stream at.over.phase

    stream' : stream_of s' so.next ≡ so.next
    stream' = stream_is s' so.next forgotten.held ∙ ap (λ (kept : List Entry). kept ++ so.next) forgotten.aware.kept

    apart : Waiting ≡ Down → ⊥
    apart e = cc (e)

    next : NextOver granted failed d s' new []
    next = record {
      answered = [];
      lost = [];
      answers = [];
      rest = so.next;
      come = so.come;
      owed = subst (λ (list : List Entry). IsOwed granted d.id new.own s' list [] [] []) (sym stream')
          (owed_none granted d.id new.own s' so.next forgotten (owed.behind.0 event)
          (All-tail IsNews so.entry (news_among so.next) (subst (All IsNews) (news_other so.entry so.next (event_no_srp so.entry event)) owed.news)) owed.behind.1);
      away = λ off. absurd (true≢false (sym on ∙ off));
      there = λ there down. apart (sym awaits.handshake ∙ down);
      took = so.took;
      tabled = ap (λ (s : ClientState). s.tabled) client ∙ at.over.tabled;
      on = λ there ne. absurd (ne (none_on granted failed d s old.crq (so.entry ∷ so.next) at.over.answered at.over.lost at.idle phase));
      phase = subst (λ (list : List Entry). IsPhase granted failed (left_at d new []) s' new.crq list [] []) (sym stream')
          (gone_phase granted failed d s s' old.crq new so.entry so.next at.over.answered at.over.lost event from.1 awaits phase);
    }

-- ---- an entry of the initialisation

pub takes_shake : (granted : ℕ) (failed : Bool) (d : Doing) (s s' : ClientState) (old new : Ports) (at : Looks granted failed d s old new) (so : TakesSo d.sent at.over.rest s s' old new Other)
    → is_event so.entry ≡ false → is_srp_entry so.entry ≡ false → new.own ≡ old.own → KeepsOver granted failed d s' old new
takes_shake granted failed d s s' old new at so isnt other window = record {
  over = stays_over granted failed failed d s s' old new [] at.seen at.over (leaves_takes d old new at.seen at.only at.reads at.hands) next;
  settled = record { held = held; kept = none_srp s' kept; logout = logout_same s s' same.granted same.logout at.settled.logout };
  idle = login ∙ at.idle;
}
  where
    from : (so.kept ≡ []) × (old.crq.registered ≡ true)
    from = from_queue s so.entry so.kept old.crq.registered at.settled other so.from

    stream : stream_of s at.over.rest ≡ so.entry ∷ so.next
    stream = stream_is s at.over.rest at.settled.held ∙ so.stream ∙ ap (λ (kept : List Entry). so.entry ∷ (kept ++ so.next)) from.0

    client : s' ≡ shaken_by so.entry (record s { kept = so.kept })
    client = so.client

    held : s'.held ≡ None
    held = ap (λ (s : ClientState). s.held) client ∙ at.settled.held

    kept : s'.kept ≡ []
    kept = ap (λ (s : ClientState). s.kept) client ∙ from.0

    login : s'.login ≡ s.login
    login = ap (λ (s : ClientState). s.login) client

    owed : IsOwed granted d.id new.own s (so.entry ∷ so.next) at.over.answered at.over.lost at.over.answers
    owed = subst (λ (w : PortState). IsOwed granted d.id w s (so.entry ∷ so.next) at.over.answered at.over.lost at.over.answers) (at.seen.window ∙ sym window)
        (subst (λ (list : List Entry). IsOwed granted d.id d.client s list at.over.answered at.over.lost at.over.answers) stream at.over.owed)

    phase : IsPhase granted failed d s old.crq (so.entry ∷ so.next) at.over.answered at.over.lost
    phase = subst (λ (list : List Entry). IsPhase granted failed d s old.crq list at.over.answered at.over.lost) stream at.over.phase

    shake : IsShake so.entry
    shake = news_shake so.entry (All-head IsNews so.entry (news_among so.next) (subst (All IsNews) (news_other so.entry so.next other) owed.news)) isnt

    same : KnowsSame s s'
    same = record {
      rows = ap (λ (s : ClientState). length s.rows) client;
      outgoing = ap (λ (s : ClientState). s.outgoing) client;
      login = login;
      logout = ap (λ (s : ClientState). s.logout) client;
      granted = ap (λ (s : ClientState). s.granted) client;
    }

    shaken : IsShaken s s' so.entry
    shaken = record {
      handshake = ap (λ (s : ClientState). s.handshake) client ∙ shaken_up s.handshake so.entry shake (at.over.there from.1);
      due = ap (λ (s : ClientState). s.due) client;
      login = login;
      aware = λ aware. record { granted = same.granted ∙ aware.granted; outgoing = same.outgoing ∙ aware.outgoing; logout = same.logout ∙ aware.logout; kept = kept };
    }

    stream' : stream_of s' so.next ≡ so.next
    stream' = stream_is s' so.next held ∙ ap (λ (kept : List Entry). kept ++ so.next) kept

    apart : Up ≡ Down → ⊥
    apart e = cc (e)

    next : NextOver granted failed d s' new []
    next = record {
      answered = at.over.answered;
      lost = at.over.lost;
      answers = at.over.answers;
      rest = so.next;
      come = so.come;
      owed = subst (λ (list : List Entry). IsOwed granted d.id new.own s' list at.over.answered at.over.lost at.over.answers) (sym stream')
          (owed_past granted d.id new.own s s' so.entry so.next at.over.answered at.over.lost at.over.answers same other owed);
      away = λ off. absurd (true≢false (sym (at.only.registered ∙ from.1) ∙ off));
      there = λ there down. apart (sym shaken.handshake ∙ down);
      took = so.took;
      tabled = ap (λ (s : ClientState). s.tabled) client ∙ at.over.tabled;
      on = λ there. at.over.on from.1;
      phase = subst (λ (list : List Entry). IsPhase granted failed (left_at d new []) s' new.crq list at.over.answered at.over.lost) (sym stream')
          (shaken_phase granted failed d s s' old.crq new so.entry so.next at.over.answered at.over.lost at.idle shake from.1 at.only.registered shaken phase);
    }
