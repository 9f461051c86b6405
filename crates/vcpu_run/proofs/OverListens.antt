-- A server unit whose session is over, or was: what it does of its line and of what is to come to it.
use Rattle.std.proofs.Common.{◌≡◌, ◌∙◌, ◌⊎◌, inl, inr, ℕ, ◌++◌, Bool, true, false, List, [], Option, None, append-nil, length, refl, sym, ap, arith}
use Rattle.crq_session.specs.EndState.{EndState}
use Rattle.crq_session.specs.Handshake.{state_by}
use Rattle.crq_session.specs.declared.handshake.Handshake.{Handshake}
use Rattle.crq_session.specs.declared.handshake.Handshake.TheVariants.{Down, Up, Waiting}
use Rattle.vio_num.specs.Entry.{entry_format, first_byte, is_srp_entry, kind_of}
use Rattle.vio_num.specs.declared.entry.Entry.{Entry}
use Rattle.vio_num.specs.declared.entry.Kind.{Kind}
use Rattle.block_server.specs.Doings.{CallsOnly, Doing, FreesLine, HearsDatagram, HearsInit, OpensLine, PassesEntry, SendsKept, SettlesEvent, StaysLine, TakesRequest, event_put, rows_to}
use Rattle.block_server.specs.Granting.{LoginState}
use Rattle.vscsi_client.specs.State.{ClientState}
use Rattle.vscsi_client.specs.Units.{slot_address}
use Rattle.vcpu_run.specs.OwnOver.{EndsEarly, IsComing, IsNew, IsOver, stream_of}
use Rattle.vcpu_run.specs.PlainTalk.{Ask, IsAsk}
use Rattle.vcpu_run.proofs.OverAnew.{LeadsOn, down_stays, leads_none, never_down, no_reply, waits_up}
use Rattle.vcpu_run.proofs.OverHeads.{IsBefore, IsFirst, IsStir, head_behind, head_coming, head_early, head_none, head_shakes}
use Rattle.vcpu_run.proofs.OverHears.{anew_hears, coming_hears}
use Rattle.vcpu_run.proofs.OverKinds.{command_byte, event_byte, init_byte, init_kind, lost_kind, shake_byte, srp_byte}
use Rattle.vcpu_run.proofs.OverOpens.{shut_opens}
use Rattle.vcpu_run.proofs.OverPhases.{IsGoing, StandsOver, going_of, rejoins_by, stands_calls}
use Rattle.vcpu_run.proofs.OverSends.{anew_sends, joins_sends, stale_sends, unheard_sends_on}
use Rattle.vcpu_run.proofs.OverShut.{shut_frees, shut_passes, shut_settles}
use Rattle.vcpu_run.proofs.OverSteps.{IsOverWith, IsJoining, LineIs, heard_by, joining_ask, over_known}
use Rattle.vcpu_run.proofs.OverTakes.{coming_takes, login_read, srp_no_stir}
use Rattle.vcpu_run.proofs.PlainSlots.{entry_srp}

-- ---- its line

pub line_as : (granted : ℕ) (failed : Bool) (d d' : Doing) (s : ClientState) (own : EndState) → IsOver granted failed d s own → d'.ended ≡ d.ended → d'.handshake ≡ d.handshake → d'.reaches ≡ d.reaches
    → LineIs d' own
line_as granted failed d d' s own is ended handshake reaches = record {
  reaches = λ up. reaches ∙ is.reaches (λ down. up (handshake ∙ down));
  shut = λ down. let before = is.shut (sym handshake ∙ down) in (reaches ∙ before.0, ended ∙ before.1);
}

pub line_same : (granted : ℕ) (failed : Bool) (d d' : Doing) (s : ClientState) (own : EndState) → IsOver granted failed d s own → StaysLine d d' → LineIs d' own
line_same granted failed d d' s own is line = line_as granted failed d d' s own is line.ended line.handshake line.reaches

was_down : (h : Handshake) (kind : Kind) (format : ℕ) → state_by h kind format ≡ Down → h ≡ Down
was_down Down kind format is = refl
was_down Waiting kind format is = absurd (never_down Waiting kind format (λ e. cc (e)) is)
was_down Up kind format is = absurd (never_down Up kind format (λ e. cc (e)) is)

pub line_heard : (granted : ℕ) (failed : Bool) (d d' : Doing) (s : ClientState) (own : EndState) → IsOver granted failed d s own → (kind : Kind) (format : ℕ) → d'.handshake ≡ state_by d.handshake kind format
    → d'.ended ≡ d.ended → d'.reaches ≡ d.reaches → LineIs d' own
line_heard granted failed d d' s own is kind format handshake ended reaches = record {
  reaches = λ up. reaches ∙ is.reaches (λ down. up (handshake ∙ down_stays d.handshake kind format down));
  shut = λ down. let before = is.shut (was_down d.handshake kind format (sym handshake ∙ down)) in (reaches ∙ before.0, ended ∙ before.1);
}

not_true : (b : Bool) → b ≡ true → b ≡ false → ⊥
not_true b is isnt = cc (is, isnt)

not_waiting : (h : Handshake) → h ≡ Up → h ≡ Waiting → ⊥
not_waiting h up waits = cc (up, waits)

-- ---- calls alone

pub over_calls : (granted : ℕ) (failed : Bool) (d d' : Doing) (s : ClientState) (own : EndState) → (is : IsOver granted failed d s own) → CallsOnly d d' → IsOverWith granted failed d' s own is.answers
over_calls granted failed d d' s own is step =
    over_known granted failed d d' s own is step.stays (line_same granted failed d d' s own is step.line) step.aside.client (inl (ap (λ (l : LoginState). l.current) step.aside.logins))
    (leads_none granted failed d d' s own (stream_of s is.rest) is.answered is.lost step.sent
    (stands_calls granted failed d d' s own (stream_of s is.rest) is.answered is.lost step is.phase))

-- where no event is kept none is put
settles_calls : (d d' : Doing) → SettlesEvent d d' → d.event ≡ None → CallsOnly d d'
settles_calls d d' step none = record {
  stays = step.stays;
  aside = step.aside;
  line = record { ended = step.ended; handshake = step.handshake; event = step.event ∙ sym none; reaches = step.reaches };
  kept = step.kept;
  coming = step.coming;
  sent = step.sent ∙ ap (λ (e : Option Entry). d.sent ++ rows_to d.to (event_put d.partner e)) none ∙ append-nil d.sent;
}

pub over_settles : (granted : ℕ) (failed : Bool) (d d' : Doing) (s : ClientState) (own : EndState) → (is : IsOver granted failed d s own) → SettlesEvent d d' → IsOverWith granted failed d' s own is.answers
over_settles granted failed d d' s own is step =
    heard_by granted failed d s own (stream_of s is.rest) is.answered is.lost
    (λ shut.
    over_known granted failed d d' s own is step.stays (line_as granted failed d d' s own is step.ended step.handshake step.reaches) step.aside.client (inl (ap (λ (l : LoginState). l.current) step.aside.logins))
    (shut_settles granted failed d d' s own (stream_of s is.rest) is.answered is.lost is.partner step shut))
    (λ new queue. none new.event) (λ goes anew. none goes.event) (λ ask joins coming. none joins.goes.event) (λ goes queue. none goes.event) is.phase
  where
    none : d.event ≡ None → IsOverWith granted failed d' s own is.answers
    none event = over_calls granted failed d d' s own is (settles_calls d d' step event)

-- ---- the queue is freed, and registered

pub over_frees : (granted : ℕ) (failed : Bool) (d d' : Doing) (s : ClientState) (own : EndState) → (is : IsOver granted failed d s own) → FreesLine d d' → IsOverWith granted failed d' s own is.answers
over_frees granted failed d d' s own is step =
    over_known granted failed d d' s own is step.stays (record { reaches = λ up. absurd (up step.handshake); shut = λ down. (step.shut, step.ended) }) step.aside.client (inl (ap (λ (l : LoginState). l.current) step.aside.logins))
    (heard_by granted failed d s own (stream_of s is.rest) is.answered is.lost
    (λ shut. shut_frees granted failed d d' s own (stream_of s is.rest) is.answered is.lost is.partner is.reaches step shut)
    (λ new queue. absurd (not_true d.ended step.over new.going)) (λ goes anew. absurd (not_true d.ended step.over goes.going))
    (λ ask joins coming. absurd (not_true d.ended step.over joins.goes.going)) (λ goes queue. absurd (not_true d.ended step.over goes.going)) is.phase)

pub over_opens : (granted : ℕ) (failed : Bool) (d d' : Doing) (s : ClientState) (own : EndState) → (is : IsOver granted failed d s own) → OpensLine d d' → IsOverWith granted failed d' s own is.answers
over_opens granted failed d d' s own is step =
    over_known granted failed d d' s own is step.stays
    (record { reaches = λ up. step.reached ∙ step.stays.partner ∙ is.partner; shut = λ down. absurd (waits_up d'.handshake step.handshake down) }) step.aside.client (inl (ap (λ (l : LoginState). l.current) step.aside.logins))
    (heard_by granted failed d s own (stream_of s is.rest) is.answered is.lost
    (λ shut. shut_opens granted failed d d' s own (stream_of s is.rest) is.answered is.lost is.partner step shut)
    (λ new queue. absurd (waits_up d.handshake new.waiting step.was)) (λ goes anew. absurd (goes.open_is step.was))
    (λ ask joins coming. absurd (joins.goes.open_is step.was)) (λ goes queue. absurd (goes.open_is step.was)) is.phase)

-- ---- what was kept is put

pub over_sends : (granted : ℕ) (failed : Bool) (d d' : Doing) (s : ClientState) (own : EndState) → (is : IsOver granted failed d s own) → SendsKept d d' → IsOverWith granted failed d' s own is.answers
over_sends granted failed d d' s own is step =
    over_known granted failed d d' s own is step.stays (line_same granted failed d d' s own is step.line) step.aside.client (inl (ap (λ (l : LoginState). l.current) step.aside.logins)) (by is.phase)
  where
    stream : List Entry
    stream = stream_of s is.rest

    by : StandsOver granted failed d s own stream is.answered is.lost → LeadsOn granted failed d d' s own stream is.answered is.lost
    by (inl shut) = absurd (no_reply d.kept step.entry shut.kept step.was)
    by (inr (inl stale)) = stale_sends granted failed d d' s own stream is.answered is.lost (is.reaches (waits_up d.handshake stale.new.waiting)) step stale
    by (inr (inr (inl unheard))) = unheard_sends_on granted failed d d' s own stream is.answered is.lost (is.reaches (waits_up d.handshake unheard.new.waiting)) step unheard
    by (inr (inr (inr back))) =
        rejoins_by granted failed d s own stream is.answered is.lost
        (λ anew. anew_sends granted failed d d' s own stream is.answered is.lost (is.reaches back.open_is) step goes anew)
        (λ there joins. joins_sends granted failed d d' s own stream is.answered is.lost (is.reaches back.open_is) step goes there joins) back
      where
        goes : IsGoing d s own stream
        goes = going_of granted failed d s own stream is.answered is.lost back

-- ---- an entry is heard

-- it is none of those that stir
byte_no_stir : (entry : Entry) → first_byte entry ≡ 0x80 → IsStir entry → ⊥
byte_no_stir entry byte (inl shake) = omega (arith, byte, shake_byte entry shake)
byte_no_stir entry byte (inr event) = omega (arith, byte, event_byte entry event)

init_no_event : (entry : Entry) → kind_of (first_byte entry) ≡ kind_of 0xC0 → first_byte entry ≡ 0xFF → ⊥
init_no_event entry kind byte = omega (arith, init_byte entry kind, byte)

init_no_srp : (entry : Entry) → kind_of (first_byte entry) ≡ kind_of 0xC0 → is_srp_entry entry ≡ true → ⊥
init_no_srp entry kind srp = omega (arith, init_byte entry kind, srp_byte entry srp)

pub over_hears : (granted : ℕ) (failed : Bool) (d d' : Doing) (s : ClientState) (own : EndState) → (is : IsOver granted failed d s own) → HearsInit d d' → IsOverWith granted failed d' s own is.answers
over_hears granted failed d d' s own is step =
    over_known granted failed d d' s own is step.stays
    (line_heard granted failed d d' s own is (kind_of (first_byte step.entry)) (entry_format step.entry) step.handshake step.ended step.reaches) step.aside.client (inl (ap (λ (l : LoginState). l.current) step.aside.logins))
    (heard_by granted failed d s own stream is.answered is.lost (λ shut. absurd (not_true d.ended shut.over step.going)) (λ new queue. absurd (early queue))
    (λ goes anew. anew_hears granted failed d d' s own stream is.answered is.lost (is.reaches goes.open_is) step goes anew)
    (λ ask joins coming. coming_hears granted failed d d' s own stream is.answered is.lost ask (is.reaches joins.goes.open_is) step joins.goes joins.there
    (joining_ask failed d s own stream is.answered is.lost ask joins is.owed.each).canonical.within joins.parts joins.has coming)
    (λ goes queue. let head = head_behind own d.coming step.entry d'.coming queue step.heard in absurd (init_no_event step.entry step.kind (event_byte step.entry head.event))) is.phase)
  where
    stream : List Entry
    stream = stream_of s is.rest

    early : (d.coming ≡ []) ⊎ EndsEarly d → ⊥
    early (inl none) = head_none d.coming step.entry d'.coming none step.heard
    early (inr soon) = init_no_srp step.entry step.kind (head_early d step.entry d'.coming soon step.heard)

-- none of these comes
pub over_datagram : (granted : ℕ) (failed : Bool) (d d' : Doing) (s : ClientState) (own : EndState) → IsOver granted failed d s own → HearsDatagram d d' → ⊥
over_datagram granted failed d d' s own is step =
    heard_by granted failed d s own stream is.answered is.lost (λ shut. not_true d.ended shut.over step.going) (λ new queue. early queue)
    (λ goes anew. byte_no_stir step.entry byte (head_shakes d.coming step.entry d'.coming anew.queue step.heard).0)
    (λ ask joins coming. first ask (joining_ask failed d s own stream is.answered is.lost ask joins is.owed.each) coming (head_coming d own ask coming step.entry d'.coming step.heard))
    (λ goes queue. byte_no_stir step.entry byte (inr (head_behind own d.coming step.entry d'.coming queue step.heard).event)) is.phase
  where
    stream : List Entry
    stream = stream_of s is.rest

    byte : first_byte step.entry ≡ 0x80
    byte = command_byte step.entry step.kind

    early : (d.coming ≡ []) ⊎ EndsEarly d → ⊥
    early (inl none) = head_none d.coming step.entry d'.coming none step.heard
    early (inr soon) = not_true (is_srp_entry step.entry) (head_early d step.entry d'.coming soon step.heard) step.other

    first : (ask : Ask) → IsAsk ask → (coming : IsComing d own ask) → IsFirst d own ask coming step.entry d'.coming ⊎ IsBefore d own ask coming step.entry d'.coming → ⊥
    first ask is_ask coming (inl it) = not_true (is_srp_entry step.entry) (ap is_srp_entry it.is ∙ entry_srp (length ask.bytes) (slot_address ask.slot) is_ask.canonical.within) step.other
    first ask is_ask coming (inr before) = byte_no_stir step.entry byte before.stir

-- one that is passed over where the session is over; else none is
pub over_passes : (granted : ℕ) (failed : Bool) (d d' : Doing) (s : ClientState) (own : EndState) → (is : IsOver granted failed d s own) → PassesEntry d d' → IsOverWith granted failed d' s own is.answers
over_passes granted failed d d' s own is step =
    over_known granted failed d d' s own is step.stays (line_same granted failed d d' s own is step.line) step.aside.client (inl (ap (λ (l : LoginState). l.current) step.aside.logins))
    (heard_by granted failed d s own stream is.answered is.lost
    (λ shut. leads_none granted failed d d' s own stream is.answered is.lost step.sent (inl (shut_passes d d' s own stream step shut)))
    (λ new queue. absurd (early new queue)) (λ goes anew. absurd (stirs (head_shakes d.coming step.entry d'.coming anew.queue step.heard).0))
    (λ ask joins coming.
    absurd (first ask (joining_ask failed d s own stream is.answered is.lost ask joins is.owed.each) joins coming (head_coming d own ask coming step.entry d'.coming step.heard)))
    (λ goes queue. absurd (stirs (inr (head_behind own d.coming step.entry d'.coming queue step.heard).event))) is.phase)
  where
    stream : List Entry
    stream = stream_of s is.rest

    stirs : IsStir step.entry → ⊥
    stirs (inl shake) = step.no_init (init_kind step.entry (shake_byte step.entry shake))
    stirs (inr event) = step.no_event (lost_kind step.entry (event_byte step.entry event))

    early : IsNew d → (d.coming ≡ []) ⊎ EndsEarly d → ⊥
    early new (inl none) = head_none d.coming step.entry d'.coming none step.heard
    early new (inr soon) = not_waiting d.handshake (step.nothing (head_early d step.entry d'.coming soon step.heard)).up new.waiting

    first : (ask : Ask) → IsAsk ask → IsJoining failed d s own stream is.answered is.lost ask → (coming : IsComing d own ask)
        → IsFirst d own ask coming step.entry d'.coming ⊎ IsBefore d own ask coming step.entry d'.coming → ⊥
    first ask is_ask joins coming (inl it) =
        let srp : is_srp_entry step.entry ≡ true = ap is_srp_entry it.is ∙ entry_srp (length ask.bytes) (slot_address ask.slot) is_ask.canonical.within in
        login_read d own ask step.entry d'.coming is.usable is_ask joins.has.asked coming srp step.heard (step.nothing srp)
    first ask is_ask joins coming (inr before) = stirs before.stir

pub over_takes : (granted : ℕ) (failed : Bool) (d d' : Doing) (s : ClientState) (own : EndState) → (is : IsOver granted failed d s own) → TakesRequest d d' → IsOverWith granted failed d' s own is.answers
over_takes granted failed d d' s own is step =
    over_known granted failed d d' s own is step.stays (line_same granted failed d d' s own is step.line) step.put.client (inl step.current)
    (heard_by granted failed d s own stream is.answered is.lost (λ shut. absurd (not_true d.ended shut.over step.going)) (λ new queue. absurd (not_waiting d.handshake step.up new.waiting))
    (λ goes anew. absurd (srp_no_stir step.entry step.srp (head_shakes d.coming step.entry d'.coming anew.queue step.heard).0))
    (λ ask joins coming. coming_takes granted failed d d' s own stream is.answered is.lost ask is.usable
    (joining_ask failed d s own stream is.answered is.lost ask joins is.owed.each) step joins.goes joins.there joins.parts joins.has coming)
    (λ goes queue. absurd (srp_no_stir step.entry step.srp (inr (head_behind own d.coming step.entry d'.coming queue step.heard).event))) is.phase)
  where
    stream : List Entry
    stream = stream_of s is.rest
