-- A client takes an answer, whose server unit's session is over, or was, while no login is under way: it is that to the oldest request that is
-- outstanding, and was laid by another unit.
use Rattle.std.specs.Prelude.{⊤, IsSomeAnd, slice_index_or}
use Rattle.std.proofs.Common.{◌≡◌, ◌∙◌, ◌⊎◌, inl, inr, ℕ, ◌-◌, ◌++◌, All, Bool, true, false, IfSome, List, [], ◌∷◌, Option, None, length, length-set, refl, sym, ap, subst}
use Rattle.std.proofs.lemmas.List.Elements.{All-head, All-nil}
use Rattle.vio_num.specs.Entry.{is_srp_entry}
use Rattle.vio_num.specs.declared.entry.Entry.{Entry}
use Rattle.crq_session.specs.EndState.{OnlyTakes}
use Rattle.srp_iu.specs.Grammar.{Spells}
use Rattle.srp_iu.specs.declared.response.Rsp.{Rsp}
use Rattle.srp_iu.specs.declared.unit.Iu.TheVariants as units
use Rattle.tce_window.specs.PortState.{OnlyReads, PortState}
use Rattle.block_server.specs.Closings.{is_event}
use Rattle.block_server.specs.Doings.{Doing}
use Rattle.vscsi_client.specs.Ports.{Ports}
use Rattle.vscsi_client.specs.Slots.{Holds}
use Rattle.vscsi_client.specs.State.{ClientState}
use Rattle.vscsi_client.specs.Taking.{Judges, row_answered, slot_of, taken_by, without_tag}
use Rattle.vscsi_client.specs.declared.answers.Taken.{Taken}
use Rattle.vscsi_client.specs.declared.answers.Taken.TheVariants.{Answer}
use Rattle.vscsi_client.specs.declared.outgoing.Outgoing.{Outgoing}
use Rattle.vscsi_client.specs.declared.row.Row.TheVariants as rows
use Rattle.vscsi_client.specs.declared.stage.Stage.TheVariants.{Idle}
use Rattle.vcpu_run.specs.OwnActs.{IsSeenAt, IsSettled, SameHands, StaysOver, left_at}
use Rattle.vcpu_run.specs.OwnOver.{IsOver, IsOwed, IsShake, stream_of}
use Rattle.vcpu_run.specs.PlainNoted.{HasResponse}
use Rattle.vcpu_run.specs.PlainTalk.{Ask, IsAnswerBy}
use Rattle.vcpu_run.proofs.OwnActHeads.{DoneWith, OldestOwed, oldest_owed, owed_taken}
use Rattle.vcpu_run.proofs.OwnActLeft.{IsPhase, NextOver, stale_left, stays_over}
use Rattle.vcpu_run.proofs.OwnActPast.{none_on, phase_away, shut_past, unheard_past}
use Rattle.vcpu_run.proofs.OwnStreams.{srp_no_event}
use Rattle.vcpu_run.proofs.OwnActTaking.{TakesSo, leaves_takes, rest_answers, stream_is}
use Rattle.vcpu_run.proofs.PlainAreLaid.{IsTakenLaid, response_same}
use Rattle.vcpu_run.proofs.PlainJudged.{HoldsResponse, is_answer, slot_first, slot_read}
use Rattle.vcpu_run.proofs.PlainPuts.{LeavesWindow}
use Rattle.vcpu_run.proofs.PlainRejected.{response_move}
use Rattle.vcpu_run.proofs.PlainStill.{reads_leave}
use Rattle.vcpu_run.proofs.PlainTook.{without_first}

-- What a client's step keeps between its calls, while no login is under way.
pub record KeepsOver (granted : ℕ) (failed : Bool) (d : Doing) (s : ClientState) (old new : Ports) : Type 0 where
  pub over : StaysOver granted failed d s old new
  pub settled : IsSettled s
  pub idle : s.login ≡ Idle

pub logout_same : (s s' : ClientState) → s'.granted ≡ s.granted → s'.logout ≡ s.logout → IfSome s.granted (λ _. s.logout ≡ None) → IfSome s'.granted (λ _. s'.logout ≡ None)
logout_same s s' granted logout off =
    subst (λ (known : Option ℕ). IfSome known (λ _. s'.logout ≡ None)) (sym granted) (subst (λ (slot : Option ℕ). IfSome s.granted (λ _. slot ≡ None)) (sym logout) off)

-- where both stand behind an answer
answer_phase : (granted : ℕ) (failed : Bool) (d : Doing) (s s' : ClientState) (old new : Ports) (entry : Entry) (rest : List Entry) (answered answered' lost : List Ask) (oldest : Outgoing)
    (others : List Outgoing) → s.login ≡ Idle → s.outgoing ≡ oldest ∷ others → is_srp_entry entry ≡ true → new.crq.registered ≡ old.crq.registered
    → IsPhase granted failed d s old.crq (entry ∷ rest) answered lost → IsPhase granted failed (left_at d new []) s' new.crq rest answered' lost
answer_phase granted failed d s s' old new entry rest answered answered' lost oldest others idle before srp same phase = by old.crq.registered refl phase
  where
    isnt : is_event entry ≡ false
    isnt = srp_no_event entry srp

    no_items : oldest ∷ others ≡ [] → ⊥
    no_items e = cc (e)

    by : (b : Bool) → old.crq.registered ≡ b → IsPhase granted failed d s old.crq (entry ∷ rest) answered lost → IsPhase granted failed (left_at d new []) s' new.crq rest answered' lost
    by false off phase =
        phase_away granted failed failed d s s' old.crq new (entry ∷ rest) rest [] answered answered' lost lost idle (same ∙ off)
        (All-nil (λ (e : Entry). IsShake e ⊎ (is_event e ≡ true))) phase
    by true on (inl shut) = inl (shut_past d s s' old.crq new entry rest [] isnt same shut)
    by true on (inr (inl stale)) = inr (inl (stale_left d new [] stale))
    by true on (inr (inr (inl un))) = inr (inr (inl (unheard_past d old.crq new entry rest isnt same un)))
    by true on (inr (inr (inr joins))) = absurd (no_items (sym before ∙ (joins.aware on).outgoing))

-- An answer was taken so: the client is owed the others, and it was laid.
pub record TakesAnswer (granted : ℕ) (failed : Bool) (d : Doing) (s : ClientState) (old new : Ports) (taken : Taken) : Type 0 where
  pub keeps : KeepsOver granted failed d s old new
  pub laid : IsTakenLaid taken new.own

pub takes_answer : (granted : ℕ) (failed : Bool) (d : Doing) (s s' : ClientState) (old new : Ports) (taken : Taken) → IsSeenAt d old → (over : IsOver granted failed d s old.crq) → IsSettled s
    → s.login ≡ Idle → OnlyTakes false old.crq new.crq → OnlyReads false old.own new.own → SameHands old new → (so : TakesSo d.sent over.rest s s' old new taken)
    → is_srp_entry so.entry ≡ true → TakesAnswer granted failed d s' old new taken
takes_answer granted failed d s s' old new taken seen over settled idle only reads hands so srp = record {
  keeps = record {
    over = stays_over granted failed failed d s s' old new [] seen over (leaves_takes d old new seen only reads hands) next;
    settled = record {
      held = held;
      kept = subst (All (λ (entry : Entry). is_srp_entry entry ≡ true)) (sym kept) (rest_answers s so.entry so.kept old.crq.registered settled so.from);
      logout = logout_same s s' done.granted done.logout settled.logout;
    };
    idle = login ∙ idle;
  };
  laid = subst (λ (t : Taken). IsTakenLaid t new.own) (sym answer.1) (judged.1, laid);
}
  where
    rest : List Entry
    rest = so.kept ++ so.next

    stream : stream_of s over.rest ≡ so.entry ∷ rest
    stream = stream_is s over.rest settled.held ∙ so.stream

    owed : IsOwed granted d.id old.own s (so.entry ∷ rest) over.answered over.lost over.answers
    owed = subst (λ (window : PortState). IsOwed granted d.id window s (so.entry ∷ rest) over.answered over.lost over.answers) seen.window
        (subst (λ (list : List Entry). IsOwed granted d.id d.client s list over.answered over.lost over.answers) stream over.owed)

    first : OldestOwed old.own s so.entry rest over.answered over.lost over.answers
    first = oldest_owed granted d.id old.own s so.entry rest over.answered over.lost over.answers seen.usable idle srp owed

    left : LeavesWindow (λ slot. ⊤) old.own new.own
    left = reads_leave old.own new.own seen.usable reads

    has : HoldsResponse new.own first.ask.tag first.oldest.slot
    has = record {
      own = left.own;
      within = first.tells.has.within;
      bytes = first.tells.has.bytes;
      stand = left.keeps.slots first.oldest.slot first.tells.has.bytes first.tells.has.within tt first.tells.has.whole first.tells.has.stand;
      whole = first.tells.has.whole;
      response = first.tells.has.response;
      spelled = first.tells.has.spelled;
      tag_is = first.tells.has.tag_is;
    }

    answer : (response : Rsp) × (taken ≡ Answer first.ask.tag response)
    answer = is_answer s.outgoing so.entry old.own new.own taken first.ask.tag first.oldest first.others first.before first.tells has so.judged

    client : s' ≡ taken_by so.entry (Answer first.ask.tag answer.0) (record s { kept = so.kept })
    client = so.client ∙ ap (λ (t : Taken). taken_by so.entry t (record s { kept = so.kept })) answer.1

    held : s'.held ≡ None
    held = ap (λ (s : ClientState). s.held) client ∙ settled.held

    kept : s'.kept ≡ so.kept
    kept = ap (λ (s : ClientState). s.kept) client

    login : s'.login ≡ s.login
    login = ap (λ (s : ClientState). s.login) client

    handshake : s'.handshake ≡ s.handshake
    handshake = ap (λ (s : ClientState). s.handshake) client

    done : DoneWith s s' first.others
    done = record {
      rows = ap (λ (s : ClientState). length s.rows) client ∙ length-set s.rows (first.ask.tag - 1) (row_answered answer.0 (slice_index_or s.rows (first.ask.tag - 1) rows.Login));
      outgoing = ap (λ (s : ClientState). s.outgoing) client ∙ ap (without_tag first.ask.tag) first.before ∙ without_first first.ask.tag first.oldest first.others first.tells.tag_is;
      login = login;
      logout = ap (λ (s : ClientState). s.logout) client;
      granted = ap (λ (s : ClientState). s.granted) client;
    }

    stream' : stream_of s' so.next ≡ rest
    stream' = stream_is s' so.next held ∙ ap (λ (list : List Entry). list ++ so.next) kept

    phase : IsPhase granted failed d s old.crq (so.entry ∷ rest) over.answered over.lost
    phase = subst (λ (list : List Entry). IsPhase granted failed d s old.crq list over.answered over.lost) stream over.phase

    next : NextOver granted failed d s' new []
    next = record {
      answered = first.more;
      lost = over.lost;
      answers = first.later;
      rest = so.next;
      come = so.come;
      owed = subst (λ (list : List Entry). IsOwed granted d.id new.own s' list first.more over.lost first.later) (sym stream')
          (owed_taken granted d.id old.own new.own s s' so.entry rest over.answered over.lost over.answers idle srp owed first done left.keeps);
      away = λ off.
          let was = over.away (sym only.registered ∙ off) in
          (handshake ∙ was.0, ap (λ (s : ClientState). s.due) client ∙ was.1);
      there = λ on down. over.there (sym only.registered ∙ on) (sym handshake ∙ down);
      took = so.took;
      tabled = ap (λ (s : ClientState). s.tabled) client ∙ over.tabled;
      on = λ on ne. absurd (ne (none_on granted failed d s old.crq (so.entry ∷ rest) over.answered over.lost idle phase));
      phase = subst (λ (list : List Entry). IsPhase granted failed (left_at d new []) s' new.crq list first.more over.lost) (sym stream')
          (answer_phase granted failed d s s' old new so.entry rest over.answered first.more over.lost first.oldest first.others idle first.before srp only.registered phase);
    }

    judged : Judges false s.outgoing so.entry old.own new.own (Answer first.ask.tag answer.0)
    judged = subst (λ (t : Taken). Judges false s.outgoing so.entry old.own new.own t) answer.1 so.judged

    holds : Holds new.own first.oldest.slot (units.Rsp answer.0)
    holds = subst (λ (slot : Option ℕ). IsSomeAnd slot (λ slot. Holds new.own slot (units.Rsp answer.0)))
        (ap (slot_of first.ask.tag) first.before ∙ slot_first first.ask.tag first.oldest first.others first.tells.tag_is) judged.2

    read : holds.bytes ≡ has.bytes
    read = slot_read new.own left.own first.oldest.slot has.within has.bytes holds.bytes has.whole has.stand holds.are

    laid : HasResponse new.own.place.unit answer.0 new.own.strokes
    laid = response_same new.own.place.unit new.own.strokes has.bytes answer.0 has.response (subst (λ (list : List ℕ). Spells list (units.Rsp answer.0)) read holds.spells) has.spelled
        (response_move old.own.place.unit new.own.place.unit has.response old.own.strokes new.own.strokes left.keeps.unit left.keeps.strokes
        (subst (IsAnswerBy granted d.id old.own) first.said
        (All-head (IsAnswerBy granted d.id old.own) first.answer first.later (subst (All (IsAnswerBy granted d.id old.own)) first.answers_are owed.grant))))
