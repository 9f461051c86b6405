-- The entry of a login that was asked for is heard: its unit is read as it shows in its slot, and is a request that is pending.
use Rattle.std.proofs.Common.{◌≡◌, ◌∙◌, ◌⊎◌, inl, inr, ℕ, ◌++◌, Bool, true, List, [], ◌∷◌, length, sym, ap, subst, arith}
use Rattle.crq_session.specs.EndState.{EndState}
use Rattle.srp_iu.specs.Grammar.{Spells}
use Rattle.tce_window.specs.PortState.{PortState}
use Rattle.vio_num.specs.Entry.{is_srp_entry, iu_address, iu_length, srp_entry}
use Rattle.vio_num.specs.declared.entry.Entry.{Entry}
use Rattle.block_server.specs.Doings.{AsksNothing, Doing, StaysLine, TakesRequest}
use Rattle.block_server.specs.Talk.{IsReadWhole, order_asked, tag_asked}
use Rattle.block_server.specs.declared.request.Request.{Request}
use Rattle.vscsi_client.specs.State.{ClientState}
use Rattle.vscsi_client.specs.Units.{slot_address}
use Rattle.vcpu_run.specs.OwnOver.{HasAsked, IsComing, IsTaken}
use Rattle.vcpu_run.specs.PlainTalk.{Ask, IsAsk, IsOwnWindow, ShowsAt, is_login}
use Rattle.vcpu_run.proofs.AskedBytes.{asked_bytes}
use Rattle.vcpu_run.proofs.OverAnew.{LeadsOn, leads_none}
use Rattle.vcpu_run.proofs.OverHeads.{IsBefore, IsFirst, IsStir, head_coming}
use Rattle.vcpu_run.proofs.OverKinds.{event_byte, shake_byte, srp_byte}
use Rattle.vcpu_run.proofs.OverPhases.{IsGoing, joins_again, kept_as, queue_as}
use Rattle.vcpu_run.proofs.PlainSlots.{entry_address, entry_long}
use Rattle.vcpu_run.proofs.PlainStands.{read_shown}
use Rattle.vcpu_run.proofs.PlainUnits.{canon_some, canon_spells}

-- ---- what is read

-- what is read where a unit shows, and is as long, is that
pub read_ask : (window : PortState) → IsOwnWindow window → (ask : Ask) → IsAsk ask → ShowsAt window (slot_address ask.slot) ask.bytes → (address : ℕ) (bytes : List ℕ) → address ≡ slot_address ask.slot
    → IsReadWhole window address bytes → length bytes ≡ length ask.bytes → bytes ≡ ask.bytes
read_ask window own ask is shows address bytes at whole long =
    read_shown window own (slot_address ask.slot) (length ask.bytes) bytes (canon_some ask.bytes ask.iu is.canonical) (omega (arith, is.canonical.within))
    (subst (λ (a : ℕ). IsReadWhole window a bytes) at whole) long ∙ shows

-- what the entry of a login says
entry_at : (ask : Ask) → IsAsk ask → (entry : Entry) → entry ≡ srp_entry (length ask.bytes) (slot_address ask.slot) → iu_address entry ≡ slot_address ask.slot
entry_at ask is entry same = ap iu_address same ∙ entry_address (length ask.bytes) (slot_address ask.slot) (omega (arith, is.slot_is))

entry_as_long : (ask : Ask) → IsAsk ask → (entry : Entry) → entry ≡ srp_entry (length ask.bytes) (slot_address ask.slot) → iu_length entry ≡ length ask.bytes
entry_as_long ask is entry same = ap iu_length same ∙ entry_long (length ask.bytes) (slot_address ask.slot) is.canonical.within

-- ---- it is taken

-- the line of the unit is as it was
pub line_going : (d d' : Doing) (s : ClientState) (own : EndState) (stream : List Entry) → StaysLine d d' → IsGoing d s own stream → IsGoing d' s own stream
line_going d d' s own stream line goes = record {
  going = line.ended ∙ goes.going;
  event = line.event ∙ goes.event;
  open_is = λ down. goes.open_is (sym line.handshake ∙ down);
  none_gone = goes.none_gone;
  aware = goes.aware;
}

-- an SRP entry neither shakes nor is an event
pub srp_no_stir : (entry : Entry) → is_srp_entry entry ≡ true → IsStir entry → ⊥
srp_no_stir entry srp (inl shake) = omega (arith, srp_byte entry srp, shake_byte entry shake)
srp_no_stir entry srp (inr event) = omega (arith, srp_byte entry srp, event_byte entry event)

pub login_first : (d : Doing) (own : EndState) (ask : Ask) (entry : Entry) (rest : List Entry) (is : IsComing d own ask) → is_srp_entry entry ≡ true → d.coming ≡ entry ∷ rest
    → IsFirst d own ask is entry rest
login_first d own ask entry rest is srp heard = by (head_coming d own ask is entry rest heard)
  where
    by : IsFirst d own ask is entry rest ⊎ IsBefore d own ask is entry rest → IsFirst d own ask is entry rest
    by (inl first) = first
    by (inr before) = absurd (srp_no_stir entry srp before.stir)

login_taken : (d d' : Doing) (own : EndState) (ask : Ask) → IsOwnWindow d.client → IsAsk ask → TakesRequest d d' → IsComing d own ask → IsTaken d' own ask
login_taken d d' own ask usable is_ask step is = record {
  serves = record {
    current = step.current ∙ is.idle.current;
    up = step.line.handshake ∙ step.up;
    request = step.request;
    pending = step.pending ∙ ap (λ (requests : List Request). requests ++ step.request ∷ []) is.idle.pending;
    is = record { address = address; tag = asked.1 ∙ is_ask.tag_is; order = asked.0; bytes = bytes };
    queue = queue_as own is.back d'.coming first.behind is.behind;
  };
  stage = step.stage ∙ is.idle.stage;
  kept = kept_as d.kept d'.kept step.kept is.kept;
  entry = λ same. is.entry (sym step.kept ∙ same);
}
  where
    first : IsFirst d own ask is step.entry d'.coming
    first = login_first d own ask step.entry d'.coming is step.srp step.heard

    address : step.request.address ≡ slot_address ask.slot
    address = step.address ∙ entry_at ask is_ask step.entry first.is

    bytes : step.request.unit.items ≡ ask.bytes
    bytes = read_ask d.client usable ask is_ask is.shows step.request.address step.request.unit.items address step.read (step.long ∙ entry_as_long ask is_ask step.entry first.is)

    asked : (step.request.order ≡ order_asked ask.iu) × (step.request.tag ≡ tag_asked ask.iu)
    asked = step.asked ask.iu (subst (λ (list : List ℕ). Spells list ask.iu) (sym bytes) (canon_spells ask.bytes ask.iu is_ask.canonical))

pub coming_takes : (granted : ℕ) (failed : Bool) (d d' : Doing) (s : ClientState) (own : EndState) (stream : List Entry) (answered lost : List Ask) (ask : Ask) → IsOwnWindow d.client → IsAsk ask
    → TakesRequest d d' → IsGoing d s own stream → (own.registered ≡ true) ⊎ (failed ≡ true) → (answered ≡ []) × (lost ≡ ask ∷ []) → HasAsked s own stream ask → IsComing d own ask
    → LeadsOn granted failed d d' s own stream answered lost
coming_takes granted failed d d' s own stream answered lost ask usable is_ask step goes there parts has is =
    leads_none granted failed d d' s own stream answered lost step.put.sent
    (joins_again granted failed d' s own stream answered lost (line_going d d' s own stream step.line goes) there
    (record { ask = ask; has = has; where_is = inl (parts, inr (inl (login_taken d d' own ask usable is_ask step is))) }))

-- ---- it is not passed over

pub login_read : (d : Doing) (own : EndState) (ask : Ask) (entry : Entry) (rest : List Entry) → IsOwnWindow d.client → IsAsk ask → is_login ask.iu ≡ true → (is : IsComing d own ask)
    → is_srp_entry entry ≡ true → d.coming ≡ entry ∷ rest → AsksNothing d entry → ⊥
login_read d own ask entry rest usable is_ask login is srp heard reads =
    asked_bytes reads.bytes ask.iu reads.iu (inl login)
    (subst (λ (list : List ℕ). Spells list ask.iu) (sym bytes) (canon_spells ask.bytes ask.iu is_ask.canonical)) reads.spelled reads.ignored
  where
    first : IsFirst d own ask is entry rest
    first = login_first d own ask entry rest is srp heard

    bytes : reads.bytes ≡ ask.bytes
    bytes = read_ask d.client usable ask is_ask is.shows (iu_address entry) reads.bytes (entry_at ask is_ask entry first.is) reads.read (reads.long ∙ entry_as_long ask is_ask entry first.is)
