-- What the end of a login does: what is pending, kept and in service is dropped.
use Rattle.std.proofs.Common.{◌≡◌, ◌≢◌, ◌&&◌, inl, inr, ℕ, Bool, true, List, ◌∷◌, Option, None, refl, sym, ap, subst}
use Rattle.vio_num.specs.Entry.{first_byte, kind_of}
use Rattle.vio_num.specs.declared.entry.Kind.TheVariants.{Event}
use Rattle.vio_num.specs.declared.history.Lapse.{Lapse}
use Rattle.vio_num.specs.declared.history.Served.{Served}
use Rattle.vio_num.specs.declared.names.UnitId.{UnitId}
use Rattle.crq_session.specs.EndState.{EndState}
use Rattle.crq_session.specs.Handshake.{state_after}
use Rattle.crq_session.specs.declared.handshake.Handshake.{Handshake}
use Rattle.tce_window.specs.PortState.{PortState}
use Rattle.block_server.specs.Doings.{DoesOne, Doing, DropsAll, KeepsNoAnswer, before_hearing, doing_at}
use Rattle.block_server.specs.Ends.{EndsLogin}
use Rattle.block_server.specs.Receipts.{is_ended}
use Rattle.block_server.specs.Serving.{LeavesRow}
use Rattle.block_server.specs.Talk.{StaysKnown}
use Rattle.block_server.specs.declared.line.Kept.{Kept}
use Rattle.block_server.specs.declared.records.Records.{Records}
use Rattle.block_server.specs.declared.request.Arrival.{Arrival}
use Rattle.block_server.specs.declared.service.Outcome.{Outcome}
use Rattle.block_server.specs.declared.service.Stage.{Stage}
use Rattle.block_server.specs.declared.service.Stage.TheVariants as stages
use Rattle.block_server.specs.declared.unit.Unit.{Unit}
use Rattle.block_server.proofs.OwingCalls.{closing_ended}
use Rattle.block_server.proofs.Reading.{known_same}

-- no row is in service where nothing is begun
pub left_at_start : (stage : Stage) (given : List ℕ) (rows rows' : List Served) → stage ≡ stages.Start → LeavesRow stage given rows rows' → rows' ≡ rows
left_at_start stage given rows rows' at left = subst (λ (s : Stage). LeavesRow s given rows rows') at left

-- nothing is kept, and so no answer
pub keeps_none : (kept : Option Kept) → kept ≡ None → KeepsNoAnswer kept
keeps_none kept none = subst KeepsNoAnswer (sym none) tt

start_unanswered : (stage : Stage) (outcome : Outcome) → stage ≡ stages.Start → stage ≢ stages.Entry outcome
start_unanswered stage outcome start entry = absurd (cc (start, entry))

pub one_drops : (old new : Doing) → DropsAll old new → DoesOne old new
one_drops old new drops = inr (inr (inr (inr (inr (inr (inr (inr (inr (inl drops)))))))))

-- The session is over, for an entry that was heard.
pub drops_heard : (arrival : Arrival) (unit unit' : Unit) (name name' : UnitId) (queue queue' : EndState) (client client' : PortState) (records records' : Records) (session : ℕ) (cause : Lapse) (outstanding granted : ℕ)
    → unit.service.stage ≡ stages.Start → EndsLogin unit unit' records records' session cause outstanding granted → name' ≡ name → queue' ≡ queue → StaysKnown client client'
    → unit'.id ≡ unit.id → unit'.service.stage ≡ stages.Start → records'.history.items ≡ records.history.items → unit'.line.closing ≡ true → unit'.line.handshake ≡ unit.line.handshake
    → DropsAll (before_hearing arrival (doing_at unit name queue client records.history.items records.grants.items)) (doing_at unit' name' queue' client' records'.history.items records'.grants.items)
drops_heard arrival unit unit' name name' queue queue' client client' records records' session cause outstanding granted start ends named same known id stage rows closing handshake = record {
  stays = record { name = named; id = id; granted = ends.as_many; partner = ap (λ (q : EndState). q.place.partner_registered) same; to = ap (λ (q : EndState). q.counts.partner_session) same };
  event = ap (λ (q : EndState). q.kept) same;
  reaches = ap (λ (q : EndState). q.registered && q.place.partner_registered) same;
  why = inr (
    closing_ended unit'.line closing,
    handshake,
    inr (arrival.entry, ap (λ (q : EndState). arrival.entry ∷ (doing_at unit name q client records.history.items records.grants.items).coming) (sym same)),
  );
  put = record { sent = ap (λ (q : EndState). q.sent) same; client = known; rows = rows };
  unanswered = λ outcome. start_unanswered unit.service.stage outcome start;
  stage = stage;
  kept = ends.kept;
  pending = ends.pending;
  current = ends.off;
  cause = cause;
  session = session;
  outstanding = outstanding;
  granted = granted;
  lines = ends.line;
}

-- The login ended for an event that was heard, before which the handshake and whether the session is over were these.
pub drops_lost : (arrival : Arrival) (was : Handshake) (ended : Bool) (unit unit' : Unit) (name : UnitId) (queue : EndState) (client : PortState) (records records' : Records) (session : ℕ) (cause : Lapse) (outstanding granted : ℕ)
    → unit.service.stage ≡ stages.Start → EndsLogin unit unit' records records' session cause outstanding granted → unit'.id ≡ unit.id → unit'.service.stage ≡ stages.Start → records'.history.items ≡ records.history.items
    → kind_of (first_byte arrival.entry) ≡ Event → unit'.line.handshake ≡ state_after was arrival.entry → is_ended unit'.line ≡ ended → unit.line.kept ≡ None
    → DropsAll (before_hearing arrival (record (doing_at unit name queue client records.history.items records.grants.items) { handshake = was; ended = ended })) (doing_at unit' name queue client records'.history.items records'.grants.items)
drops_lost arrival was ended unit unit' name queue client records records' session cause outstanding granted start ends id stage rows kind handshake still none = record {
  stays = record { name = refl; id = id; granted = ends.as_many; partner = refl; to = refl };
  event = refl;
  reaches = refl;
  why = inl (record { was = none; entry = arrival.entry; heard = refl; kind = kind; handshake = handshake; ended = still });
  put = record { sent = refl; client = known_same client; rows = rows };
  unanswered = λ outcome. start_unanswered unit.service.stage outcome start;
  stage = stage;
  kept = ends.kept;
  pending = ends.pending;
  current = ends.off;
  cause = cause;
  session = session;
  outstanding = outstanding;
  granted = granted;
  lines = ends.line;
}
