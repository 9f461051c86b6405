-- A client sends something, or tries to, whose server unit's session is over, or was, while no login is under way: where both stand behind that,
-- and what it leaves at the ports and in the window.
use Rattle.std.proofs.Common.{◌≡◌, ◌≢◌, ◌∙◌, ◌⊎◌, inl, inr, ℕ, ◌++◌, Bool, true, false, IfSome, List, [], ◌∷◌, Option, Some, None, append-nil, refl, sym, ap, ap₂, subst}
use Rattle.std.proofs.lemmas.List.Elements.{All-nil}
use Rattle.vio_num.specs.Entry.{is_srp_entry}
use Rattle.vio_num.specs.declared.entry.Entry.{Entry}
use Rattle.crq_ring.specs.declared.rows.PipeRow.{PipeRow}
use Rattle.crq_session.specs.Answered.{Puts as PutsEntry}
use Rattle.crq_session.specs.EndState.{EndPlace, EndState, OnlySends}
use Rattle.crq_session.specs.declared.handshake.Handshake.TheVariants.{Down}
use Rattle.tce_window.specs.PortState.{OnlyWrites}
use Rattle.block_server.specs.Closings.{is_event}
use Rattle.block_server.specs.Doings.{Doing, rows_to}
use Rattle.vscsi_client.specs.Ports.{Ports}
use Rattle.vscsi_client.specs.State.{ClientState}
use Rattle.vscsi_client.specs.declared.stage.Stage.TheVariants.{Idle}
use Rattle.vcpu_run.specs.OwnActs.{IsSeenAt, SameHands, left_at}
use Rattle.vcpu_run.specs.OwnOver.{EndsEarly, IsShake, WillHear}
use Rattle.vcpu_run.specs.PlainTalk.{Ask, IsOwnWindow}
use Rattle.vcpu_run.proofs.OwnActLeft.{IsPhase, Leaves, early_left, idle_left, new_left, stale_left}
use Rattle.vcpu_run.proofs.OwnActLooks.{StaysTaken}
use Rattle.vcpu_run.proofs.OwnActPast.{phase_away}

-- ---- where both stand

-- What is to come to the unit is nothing, or an SRP entry first, as it was.
abbrev pub KeepsEarly : Doing → Ports → (entries : List Entry) → Type 0
KeepsEarly d new entries = (d.coming ≡ []) ⊎ EndsEarly d → ((left_at d new entries).coming ≡ []) ⊎ EndsEarly (left_at d new entries)

pub early_none : (d : Doing) (new : Ports) → KeepsEarly d new []
early_none d new (inl empty) = inl (ap (λ (coming : List Entry). coming ++ []) empty)
early_none d new (inr early) = inr (early_left d new [] early)

pub early_srp : (d : Doing) (new : Ports) (entry : Entry) → is_srp_entry entry ≡ true → KeepsEarly d new (entry ∷ [])
early_srp d new entry srp (inl empty) = inr (record { entry = entry; more = []; coming = ap (λ (coming : List Entry). coming ++ entry ∷ []) empty; srp = srp })
early_srp d new entry srp (inr early) = inr (early_left d new (entry ∷ []) early)

no_grant : {A : Type 0} {n : ℕ} (known : Option ℕ) → known ≡ None → known ≡ Some n → A
no_grant known off on = absurd (cc (off, on))

-- of a client that knows of a login, and whose queue is registered
knows_hear : (d : Doing) (s s' : ClientState) (own : EndState) (new : Ports) (stream entries : List Entry) (n : ℕ) → s.granted ≡ Some n → new.crq.registered ≡ own.registered
    → WillHear d s own stream → WillHear (left_at d new entries) s' new.crq stream
knows_hear d s s' own new stream entries n some same (inl off) = inl (same ∙ off)
knows_hear d s s' own new stream entries n some same (inr (inl gone)) = inr (inl gone)
knows_hear d s s' own new stream entries n some same (inr (inr (inl event))) = inr (inr (inl event))
knows_hear d s s' own new stream entries n some same (inr (inr (inr fresh))) = no_grant s.granted fresh.aware.granted some

pub knows_phase : (granted : ℕ) (failed : Bool) (d : Doing) (s s' : ClientState) (own : EndState) (new : Ports) (stream entries : List Entry) (answered answered' lost lost' : List Ask) (n : ℕ)
    → s.granted ≡ Some n → own.registered ≡ true → new.crq.registered ≡ own.registered → KeepsEarly d new entries → IsPhase granted failed d s own stream answered lost
    → IsPhase granted failed (left_at d new entries) s' new.crq stream answered' lost'
knows_phase granted failed d s s' own new stream entries answered answered' lost lost' n some on same early (inl shut) =
    inl (record { over = shut.over; idle = idle_left d new entries shut.idle; kept = shut.kept; event = shut.event; told = by shut.told })
  where
    by : (d.handshake ≢ Down) ⊎ WillHear d s own stream → (d.handshake ≢ Down) ⊎ WillHear (left_at d new entries) s' new.crq stream
    by (inl up) = inl up
    by (inr hears) = inr (knows_hear d s s' own new stream entries n some same hears)
knows_phase granted failed d s s' own new stream entries answered answered' lost lost' n some on same early (inr (inl stale)) = inr (inl (stale_left d new entries stale))
knows_phase granted failed d s s' own new stream entries answered answered' lost lost' n some on same early (inr (inr (inl un))) = inr (inr (inl (record {
  new = new_left d new entries un.new;
  registered = same ∙ un.registered;
  gone = un.gone;
  queue = early un.queue;
  begins = un.begins;
})))
knows_phase granted failed d s s' own new stream entries answered answered' lost lost' n some on same early (inr (inr (inr joins))) =
    no_grant s.granted (joins.aware on).granted some

-- whether its queue is registered or not, where nothing was put
pub knows_still : (granted : ℕ) (failed : Bool) (d : Doing) (s s' : ClientState) (own : EndState) (new : Ports) (stream : List Entry) (answered answered' lost lost' : List Ask) (n : ℕ)
    → s.login ≡ Idle → s.granted ≡ Some n → new.crq.registered ≡ own.registered → IsPhase granted failed d s own stream answered lost
    → IsPhase granted failed (left_at d new []) s' new.crq stream answered' lost'
knows_still granted failed d s s' own new stream answered answered' lost lost' n idle some same phase = by own.registered refl
  where
    by : (b : Bool) → own.registered ≡ b → IsPhase granted failed (left_at d new []) s' new.crq stream answered' lost'
    by true on = knows_phase granted failed d s s' own new stream [] answered answered' lost lost' n some on same (early_none d new) phase
    by false off =
        phase_away granted failed failed d s s' own new stream stream [] answered answered' lost lost' idle (same ∙ off) (All-nil (λ (e : Entry). IsShake e ⊎ (is_event e ≡ true))) phase

-- ---- at the ports

-- What is so of a call that sends: what else it did at the end and in the window.
pub record SendsAlone (d : Doing) (old new : Ports) : Type 0 where
  pub seen : IsSeenAt d old
  pub crq : OnlySends false old.crq new.crq
  pub own : OnlyWrites old.own new.own
  pub hands : SameHands old new

pub sends_still : (d : Doing) (old new : Ports) → SendsAlone d old new → StaysTaken old.crq new.crq
sends_still d old new sends = record { registered = sends.crq.registered; session = sends.crq.last_session; taken = sends.crq.taken }

pub leaves_sent : (d : Doing) (old new : Ports) (entries : List Entry) → SendsAlone d old new → IsOwnWindow new.own
    → new.crq.sent ≡ old.crq.sent ++ rows_to old.crq.counts.partner_session entries → (entries ≡ []) ⊎ (old.crq.place.partner_registered ≡ true) → Leaves old new entries
leaves_sent d old new entries sends own put reached = record {
  put = put;
  reached = reached;
  session = sends.crq.counts.same_session refl;
  place = sends.crq.place;
  alone = sends.hands.crq ∙ sends.seen.alone;
  apart = sends.hands.own ∙ sends.seen.apart;
  usable = own;
  idle = λ on. sends.crq.kept ∙ sends.seen.idle (sym sends.crq.registered ∙ on);
  events = subst (λ (kept : Option Entry). IfSome kept (λ event. is_event event ≡ true)) (sym sends.crq.kept) sends.seen.events;
}

-- an entry was put, once room was made
pub leaves_put : (d : Doing) (old new : Ports) (room : EndState) (entry : Entry) → SendsAlone d old new → IsOwnWindow new.own → room.sent ≡ old.crq.sent → room.place ≡ old.crq.place
    → PutsEntry false room entry new.crq → Leaves old new (entry ∷ [])
leaves_put d old new room entry sends own same place puts =
    leaves_sent d old new (entry ∷ []) sends own
    (puts.sent ∙ ap₂ (λ (rows : List PipeRow) (q : ℕ). rows ++ rows_to q (entry ∷ [])) same (sends.crq.counts.same_session refl))
    (inr (ap (λ (place : EndPlace). place.partner_registered) (sym place) ∙ puts.partner refl))

pub leaves_none : (d : Doing) (old new : Ports) → SendsAlone d old new → IsOwnWindow new.own → new.crq.sent ≡ old.crq.sent → Leaves old new []
leaves_none d old new sends own same = leaves_sent d old new [] sends own (same ∙ sym (append-nil old.crq.sent)) (inl refl)
