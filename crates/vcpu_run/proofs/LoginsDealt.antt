-- Over a turn of a server unit: in which sessions a send may have found the client's queue closed, and that an event was heard then.
use Rattle.std.proofs.Common.{◌≡◌, ◌≢◌, ◌∙◌, ◌≤◌, ◌&&◌, ◌||◌, ◌==◌, ℕ, zero, suc, Bool, true, false, List, [], ◌∷◌, Option, Some, None, filter, length, slice_get, refl, sym, ap, arith}
use Rattle.std.proofs.lemmas.Bool.{eq-eqb, eqb-true}
use Rattle.std.proofs.lemmas.Option.{IfSome_then}
use Rattle.crq_session.specs.Answered.{received_now, taken_now}
use Rattle.crq_session.specs.EndState.{EndPlace, EndState}
use Rattle.crq_session.specs.declared.handshake.Handshake.{Handshake}
use Rattle.crq_session.specs.declared.handshake.Handshake.TheVariants.{Down, Waiting, Up}
use Rattle.vio_num.specs.declared.entry.Entry.{Entry}
use Rattle.vio_num.specs.declared.names.UnitId.{UnitId}
use Rattle.block_server.specs.Asked.{AskedAt}
use Rattle.block_server.specs.Causes.{Told}
use Rattle.block_server.specs.Closings.{is_event}
use Rattle.block_server.specs.Dealt.{HasDealt, KnowsSends}
use Rattle.block_server.specs.Granting.{IsSrpAt}
use Rattle.block_server.specs.Ready.{Agrees, AgreesAt}
use Rattle.block_server.specs.Receipts.{is_down, is_ended}
use Rattle.block_server.specs.declared.line.Line.{Line}
use Rattle.block_server.specs.declared.unit.Unit.{Unit}
use Rattle.block_server.proofs.DealtLaws.{dealt_none, dealt_wider}
use Rattle.vcpu_run.specs.Answered.{IsBehind}
use Rattle.vcpu_run.specs.Gone.{HeardNoEvent, HearsEvent, IsToldOfGone}
use Rattle.vcpu_run.proofs.Gone.{hears_same}

-- A turn is looked at with these sessions as those in which a send may have found the client's queue closed; in the last one it may
-- have, or not; and where it may this is so.
pub record IsClosedSo (told : Told → Bool) (units units' : List Unit) (k : ℕ) (unit : UnitId) (queue queue' : EndState) (before : Bool) (Heard : Type 0) : Type 0 where
  pub closed : ℕ → Bool
  pub knows : KnowsSends (AgreesAt units k queue) false queue queue' closed
  pub wider : before ≡ true → closed queue.last_session ≡ true
  pub last : Bool
  pub dealt : (put : List AskedAt) → HasDealt told put closed units' k unit queue' → HasDealt told put (λ session. last) units' k unit queue'
  pub heard : last ≡ true → Heard

both_bools : (b : Bool) → b ≡ true → b ≡ false → ⊥
both_bools b is other = cc (is, other)

-- a queue that is not registered is one whose session ended
ended_off : (line : Line) (queue : EndState) → Agrees line.handshake queue → queue.registered ≡ false → is_ended line ≡ true
ended_off line queue agrees off = at line.handshake refl
  where
    closing : (b : Bool) → (b || true) ≡ true
    closing true = refl
    closing false = refl

    apart : (h : Handshake) → line.handshake ≡ h → h ≢ Down → ⊥
    apart h same other = both_bools queue.registered (agrees.on (λ down. other (sym same ∙ down))) off

    at : (h : Handshake) → line.handshake ≡ h → is_ended line ≡ true
    at Down same = ap (λ (h : Handshake). line.closing || is_down h) same ∙ closing line.closing
    at Waiting same = absurd (apart Waiting same (λ e. absurd (cc (e))))
    at Up same = absurd (apart Up same (λ e. absurd (cc (e))))

-- no SRP entry was taken in a session in which nothing was
none_taken : (queue : EndState) (number : ℕ) (entry : Entry) → length (taken_now queue) ≤ 0 → IsSrpAt queue.taken queue.last_session number entry → ⊥
none_taken queue number entry none at = by (taken_now queue) none number at.there
  where
    by : (entries : List Entry) → length entries ≤ 0 → (n : ℕ) → slice_get entries n ≡ Some entry → ⊥
    by [] none zero there = cc (there)
    by [] none (suc n) there = cc (there)
    by (first ∷ entries) none n there = absurd (omega (arith, none))

module _ (told : Told → Bool) (units units' : List Unit) (k : ℕ) (unit : UnitId) (queue queue' : EndState) (place : queue'.place ≡ queue.place) (agreed : AgreesAt units k queue) (agrees : AgreesAt units' k queue') (behind : IsBehind queue')
    (gone : IsToldOfGone queue') (before : Bool) (heard : before ≡ true → HearsEvent queue) where
  -- all sessions are taken for such, and in the last one nothing was dealt with
  off_none : ((put : List AskedAt) → HasDealt told put (λ session. false) units' k unit queue') → IsClosedSo told units units' k unit queue queue' before (HearsEvent queue')
  off_none dealt = record {
    closed = λ session. true;
    knows = λ session low none. absurd (both_bools true refl none);
    wider = λ is. refl;
    last = false;
    dealt = λ put is. dealt put;
    heard = λ is. absurd (both_bools false is refl);
  }

  -- the client's queue is not registered
  client_off : queue'.registered ≡ true → queue'.place.partner_registered ≡ false → IsClosedSo told units units' k unit queue queue' before (HearsEvent queue')
  client_off on off = at_kept queue'.place.partner_kept refl
    where
      some : (HeardNoEvent queue' → ⊥) → IsClosedSo told units units' k unit queue queue' before (HearsEvent queue')
      some heard = record {
        closed = λ session. true;
        knows = λ session low none. absurd (both_bools true refl none);
        wider = λ is. refl;
        last = true;
        dealt = λ put is. is;
        heard = λ is. record { registered = on; says = gone.says; heard = heard };
      }

      nothing : HeardNoEvent queue' → IsClosedSo told units units' k unit queue queue' before (HearsEvent queue')
      nothing none =
          let got = gone.gone on off none in
          let under = behind.low in
          let low : length (taken_now queue') ≤ 0 = omega (arith, got, under) in
          off_none (λ put. dealt_none told put (λ session. false) units' k unit queue' (λ number entry at quiet. absurd (none_taken queue' number entry low at)))

      some_kept : (event : Entry) → queue'.place.partner_kept ≡ Some event → HeardNoEvent queue' → ⊥
      some_kept event is none = cc (is, none.kept)

      at_events : (events : List Entry) → filter is_event (received_now queue') ≡ events → queue'.place.partner_kept ≡ None → IsClosedSo told units units' k unit queue queue' before (HearsEvent queue')
      at_events [] is none = nothing (record { kept = none; none = is })
      at_events (event ∷ events) is none = some (λ other. apart (sym is ∙ other.none))
        where
          apart : event ∷ events ≡ [] → ⊥
          apart same = cc (same)

      at_kept : (kept : Option Entry) → queue'.place.partner_kept ≡ kept → IsClosedSo told units units' k unit queue queue' before (HearsEvent queue')
      at_kept (Some event) is = some (some_kept event is)
      at_kept None is = at_events (filter is_event (received_now queue')) refl is

  -- it is: in this turn no send found it closed
  client_on : queue'.registered ≡ true → queue'.place.partner_registered ≡ true → IsClosedSo told units units' k unit queue queue' before (HearsEvent queue')
  client_on on up = record {
    closed = closed;
    knows = λ session low none.
        (agreed, λ found. both_bools queue.place.partner_registered (sym (ap (λ (p : EndPlace). p.partner_registered) place) ∙ up) (found.partner refl));
    wider = λ is. both_true before (queue.last_session == queue.last_session) is (eq-eqb queue.last_session queue.last_session refl);
    last = closed queue'.last_session;
    dealt = λ put is. dealt_wider told put closed (λ session. closed queue'.last_session) units' k unit queue' (λ is. is) is;
    heard = λ is.
        hears_same queue queue' place (eqb-true queue'.last_session queue.last_session (second before (queue'.last_session == queue.last_session) is)) on
        (heard (first before (queue'.last_session == queue.last_session) is));
  }
    where
      closed : ℕ → Bool
      closed session = before && (session == queue.last_session)

      both_true : (a b : Bool) → a ≡ true → b ≡ true → (a && b) ≡ true
      both_true a b is other = cc (is, other)

      first : (a b : Bool) → (a && b) ≡ true → a ≡ true
      first true b is = refl
      first false b is = absurd (cc (is))

      second : (a b : Bool) → (a && b) ≡ true → b ≡ true
      second true b is = is
      second false b is = absurd (cc (is))

  pub closed_so : IsClosedSo told units units' k unit queue queue' before (HearsEvent queue')
  closed_so = at queue'.registered refl queue'.place.partner_registered refl
    where
      at : (own : Bool) → queue'.registered ≡ own → (partner : Bool) → queue'.place.partner_registered ≡ partner → IsClosedSo told units units' k unit queue queue' before (HearsEvent queue')
      at false off partner is =
          off_none (λ put. dealt_none told put (λ session. false) units' k unit queue' (λ number entry at quiet. IfSome_then (slice_get units' k) agrees (λ u is. ended_off u.line queue' is off)))
      at true on false off = client_off on off
      at true on true up = client_on on up
