-- A unit drops all that it has to serve, for an event or at the end of its session: where both begin anew.
use Rattle.std.proofs.Common.{◌≡◌, ◌≢◌, ◌∙◌, ◌⊎◌, inl, inr, ℕ, ◌≤◌, Bool, true, List, [], ◌∷◌, None, length, sym, ap, arith}
use Rattle.crq_session.specs.EndState.{EndState}
use Rattle.crq_session.specs.declared.handshake.Handshake.TheVariants.{Down}
use Rattle.vio_num.specs.Entry.{entry_format, first_byte, initialize, is_srp_entry, kind_of, srp_entry}
use Rattle.vio_num.specs.declared.entry.Entry.{Entry}
use Rattle.block_server.specs.Doings.{Doing, DropsAll, IsLostBy}
use Rattle.vscsi_client.specs.State.{ClientState}
use Rattle.vscsi_client.specs.Units.{slot_address}
use Rattle.vcpu_run.specs.OwnOver.{EndsEarly, HasAsked, IsAnew, IsComing, IsNew, IsShut, StandsBehind, Stirs}
use Rattle.vcpu_run.specs.PlainTalk.{Ask}
use Rattle.vcpu_run.proofs.OverAnew.{LeadsOn, anew_away, leads_none, never_down, waits_up}
use Rattle.vcpu_run.proofs.OverHeads.{IsBefore, IsFirst, events_shakes, has_tail, head_behind, head_coming, head_early, head_none, head_shakes}
use Rattle.vcpu_run.proofs.OverKinds.{lost_byte, srp_byte}
use Rattle.vcpu_run.proofs.OverMoves.{shows_known}
use Rattle.vcpu_run.proofs.OverPhases.{IsGoing, StandsOver, anew_again, joins_again}
use Rattle.vcpu_run.proofs.OverSends.{anew_next, none_apart, none_shake}
use Rattle.vcpu_run.proofs.OverShut.{dropped_idle}
use Rattle.vcpu_run.proofs.PlainSlots.{entry_srp}

-- ---- the session ends

-- what is so of it where it ends, and no event is kept
ends_shut : (d d' : Doing) (s : ClientState) (own : EndState) (stream : List Entry) → DropsAll d d' → d'.ended ≡ true → d.event ≡ None → d'.handshake ≢ Down → IsShut d' s own stream
ends_shut d d' s own stream step over event up =
    record { over = over; idle = dropped_idle d d' step; kept = step.kept; event = inl (step.event ∙ event); told = inl up }

-- for an event, or since the session ended
abbrev Whether : (d d' : Doing) → Type 0
Whether d d' = IsLostBy d d' ⊎ ((d'.ended ≡ true) × (d'.handshake ≡ d.handshake) × ((d'.coming ≡ d.coming) ⊎ ((entry : Entry) × (d.coming ≡ entry ∷ d'.coming))))

drops_by : (granted : ℕ) (failed : Bool) (d d' : Doing) (s : ClientState) (own : EndState) (stream : List Entry) (answered lost : List Ask) → DropsAll d d' → d.event ≡ None → d.handshake ≢ Down
    → (IsLostBy d d' → StandsOver granted failed d' s own stream answered lost) → LeadsOn granted failed d d' s own stream answered lost
drops_by granted failed d d' s own stream answered lost step event up loses = leads_none granted failed d d' s own stream answered lost step.put.sent (by step.why)
  where
    by : Whether d d' → StandsOver granted failed d' s own stream answered lost
    by (inl is) = loses is
    by (inr is) = inl (ends_shut d d' s own stream step is.0 event (λ down. up (sym is.1 ∙ down)))

-- ---- where it waits

lost_no_srp : (entry : Entry) → kind_of (first_byte entry) ≡ kind_of 0xFF → is_srp_entry entry ≡ true → ⊥
lost_no_srp entry kind srp = omega (arith, lost_byte entry kind, srp_byte entry srp)

pub new_drops : (granted : ℕ) (failed : Bool) (d d' : Doing) (s : ClientState) (own : EndState) (stream : List Entry) (answered lost : List Ask) → DropsAll d d' → IsNew d
    → (d.coming ≡ []) ⊎ EndsEarly d → LeadsOn granted failed d d' s own stream answered lost
new_drops granted failed d d' s own stream answered lost step new queue =
    drops_by granted failed d d' s own stream answered lost step new.event (waits_up d.handshake new.waiting) (λ is. absurd (by is queue))
  where
    by : IsLostBy d d' → (d.coming ≡ []) ⊎ EndsEarly d → ⊥
    by is (inl none) = head_none d.coming is.entry d'.coming none is.heard
    by is (inr early) = lost_no_srp is.entry is.kind (head_early d is.entry d'.coming early is.heard)

-- ---- where both begin anew

lost_going : (d d' : Doing) (s : ClientState) (own : EndState) (stream : List Entry) → DropsAll d d' → IsLostBy d d' → IsGoing d s own stream → IsGoing d' s own stream
lost_going d d' s own stream step by goes = record {
  going = by.ended ∙ goes.going;
  event = step.event ∙ goes.event;
  open_is = λ down. never_down d.handshake (kind_of (first_byte by.entry)) (entry_format by.entry) goes.open_is (sym by.handshake ∙ down);
  none_gone = goes.none_gone;
  aware = goes.aware;
}

lost_no_begins : (entry : Entry) → first_byte entry ≡ 0xFF → entry ≢ initialize
lost_no_begins entry byte is = omega (arith, byte, ap first_byte is)

pub anew_drops : (granted : ℕ) (failed : Bool) (d d' : Doing) (s : ClientState) (own : EndState) (stream : List Entry) (answered lost : List Ask) → DropsAll d d' → IsGoing d s own stream
    → IsAnew d s own stream → LeadsOn granted failed d d' s own stream answered lost
anew_drops granted failed d d' s own stream answered lost step goes is =
    drops_by granted failed d d' s own stream answered lost step goes.event goes.open_is (λ by.
    anew_again granted failed d' s own stream answered lost (lost_going d d' s own stream step by goes)
    (anew_next d d' s own stream stream is (dropped_idle d d' step) (none_shake d'.kept step.kept) (head_shakes d.coming by.entry d'.coming is.queue by.heard).1 (none_apart d'.kept step.kept)
    (λ there waits. stirs by (is.stirs there waits)) (λ there logs. logs.complete)))
  where
    stirs : IsLostBy d d' → Stirs d s stream → Stirs d' s stream
    stirs by (inl news) = inl news
    stirs by (inr (inl some)) = absurd (some by.was)
    stirs by (inr (inr (inl begins))) = inr (inr (inl (has_tail initialize d.coming by.entry d'.coming by.heard (lost_no_begins by.entry (lost_byte by.entry by.kind)) begins)))
    stirs by (inr (inr (inr due))) = inr (inr (inr due))

-- ---- where a login was asked for

pub coming_drops : (granted : ℕ) (failed : Bool) (d d' : Doing) (s : ClientState) (own : EndState) (stream : List Entry) (answered lost : List Ask) (ask : Ask) → DropsAll d d' → IsGoing d s own stream
    → (own.registered ≡ true) ⊎ (failed ≡ true) → length ask.bytes ≤ 256 → (answered ≡ []) × (lost ≡ ask ∷ []) → HasAsked s own stream ask → IsComing d own ask
    → LeadsOn granted failed d d' s own stream answered lost
coming_drops granted failed d d' s own stream answered lost ask step goes there few parts has is =
    drops_by granted failed d d' s own stream answered lost step goes.event goes.open_is (λ by. loses by (head_coming d own ask is by.entry d'.coming by.heard))
  where
    loses : (by : IsLostBy d d') → IsFirst d own ask is by.entry d'.coming ⊎ IsBefore d own ask is by.entry d'.coming → StandsOver granted failed d' s own stream answered lost
    loses by (inl first) = absurd (omega (
      arith,
      lost_byte by.entry by.kind,
      ap first_byte first.is,
      srp_byte (srp_entry (length ask.bytes) (slot_address ask.slot)) (entry_srp (length ask.bytes) (slot_address ask.slot) few),
    ))
    loses by (inr before) =
        joins_again granted failed d' s own stream answered lost (lost_going d d' s own stream step by goes) there
        (record {
          ask = ask;
          has = has;
          where_is = inl (
            parts,
            inl (record {
              idle = dropped_idle d d' step;
              kept = none_shake d'.kept step.kept;
              entry = none_apart d'.kept step.kept;
              front = before.front;
              back = is.back;
              queue = before.queue;
              shakes = before.shakes;
              behind = is.behind;
              shows = shows_known d.client d'.client step.put.client (slot_address ask.slot) ask.bytes is.shows;
            }),
          );
        })

-- the login is in service, or granted: behind it nothing is to come but events of a client whose queue is not registered
pub behind_drops : (granted : ℕ) (failed : Bool) (d d' : Doing) (s : ClientState) (own : EndState) (stream : List Entry) (answered lost : List Ask) → DropsAll d d' → IsGoing d s own stream
    → StandsBehind own d.coming → LeadsOn granted failed d d' s own stream answered lost
behind_drops granted failed d d' s own stream answered lost step goes queue =
    drops_by granted failed d d' s own stream answered lost step goes.event goes.open_is (λ by.
    let head = head_behind own d.coming by.entry d'.coming queue by.heard in
    anew_again granted failed d' s own stream answered lost (lost_going d d' s own stream step by goes)
    (anew_away d' s own stream head.away (dropped_idle d d' step) (none_shake d'.kept step.kept) (events_shakes d'.coming head.more)))
