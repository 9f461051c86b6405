-- What an entry does that is sent and answers no request: it is put, lost or kept.
use Rattle.std.proofs.Common.{◌≡◌, ◌++◌, ◌&&◌, ℕ, Bool, true, false, cond, [], ◌∷◌, Option, length, drop, append-nil, refl, sym, ◌∙◌, ap, subst}
use Rattle.vio_num.specs.Entry.{is_srp_entry}
use Rattle.vio_num.specs.declared.entry.Entry.{Entry}
use Rattle.crq_ring.specs.Sessions.{of_session}
use Rattle.crq_session.specs.Answered.{Sends as Puts, TurnsBack}
use Rattle.crq_session.specs.Answers.{IfClosed, OnNotSent, OnReached}
use Rattle.crq_session.specs.EndState.{EndState, OnlySends}
use Rattle.crq_session.specs.declared.answers.SendAnswer.{SendAnswer}
use Rattle.crq_session.specs.declared.answers.SendAnswer.TheVariants as sending
use Rattle.tce_window.specs.PortState.{PortPlace, PortState}
use Rattle.block_server.specs.Doings.{SendsOrKeeps, SendsReply, doing, rows_to}
use Rattle.block_server.specs.Entries.{IsPlain, MayPut}
use Rattle.block_server.specs.SiteState.{SiteState}
use Rattle.block_server.specs.Talk.{StaysKnown, to_come}
use Rattle.block_server.specs.declared.line.Kept.{Kept}
use Rattle.block_server.specs.declared.records.Records.{Records}
use Rattle.block_server.specs.declared.unit.Unit.{Unit}
use Rattle.block_server.proofs.LoginPuts.{plain_login}
use Rattle.block_server.proofs.Reaching.{may_plain}

-- What may be put and answers no request is no SRP entry.
pub plain_none : (e : Entry) → MayPut e → IsPlain e → is_srp_entry e ≡ false
plain_none e may plain = may_plain e may plain.no_response (plain_login e plain)

-- WHETHER IT REACHES THE CLIENT'S QUEUE -----------------------------------------------------------

pub reach_on : (own partner : Bool) → own ≡ true → partner ≡ true → own && partner ≡ true
reach_on own partner on there = λ i. on i && there i

pub reach_off_own : (own partner : Bool) → own ≡ false → own && partner ≡ false
reach_off_own own partner off = ap (λ (b : Bool). b && partner) off

pub reach_off : (own partner : Bool) → partner ≡ false → own && partner ≡ false
reach_off true partner shut = shut
reach_off false partner shut = refl

-- the end reaches the client's queue
abbrev pub reaches_of : EndState → Bool
reaches_of queue = queue.registered && queue.place.partner_registered

abbrev pub PutsOrLoses : (old new : EndState) → Entry → Type 0
PutsOrLoses old new entry = new.sent ≡ old.sent ++ cond (reaches_of old) (rows_to old.counts.partner_session (entry ∷ [])) []

-- It was put, in the partner's session of before.
pub puts_reach : (link : Bool) (old new : EndState) (entry : Entry) (number : ℕ) → link ≡ false → old.registered ≡ true → OnlySends link old new → Puts link old entry new number → PutsOrLoses old new entry
puts_reach link old new entry number alone on rest is =
    is.puts.sent
    ∙ ap (λ (q : ℕ). old.sent ++ rows_to q (entry ∷ [])) (rest.counts.same_session alone)
    ∙ ap (λ (b : Bool). old.sent ++ cond b (rows_to old.counts.partner_session (entry ∷ [])) []) (sym (reach_on old.registered old.place.partner_registered on (is.puts.partner alone)))

-- It reached nobody.
pub loses_reach : (old new : EndState) (entry : Entry) → new.sent ≡ old.sent → reaches_of old ≡ false → PutsOrLoses old new entry
loses_reach old new entry same off =
    same ∙ sym (ap (λ (b : Bool). old.sent ++ cond b (rows_to old.counts.partner_session (entry ∷ [])) []) off ∙ append-nil old.sent)

-- where it was neither put nor found the queue full
pub shut_reach : (link : Bool) (old new : EndState) (answer : SendAnswer) → link ≡ false → ((number : ℕ) → answer ≡ sending.Success number → ⊥) → ((number held : ℕ) → answer ≡ sending.Dropped number held → ⊥)
    → IfClosed answer (TurnsBack link old new) → OnNotSent answer (old.registered ≡ false) → reaches_of old ≡ false
shut_reach link old new (sending.Success number) alone success dropped closed off = absurd (success number refl)
shut_reach link old new (sending.Dropped number held) alone success dropped closed off = absurd (dropped number held refl)
shut_reach link old new (sending.Closed control) alone success dropped closed off = reach_off old.registered old.place.partner_registered (closed.closed.meets.partner alone)
shut_reach link old new sending.Parameter alone success dropped closed off = reach_off_own old.registered old.place.partner_registered off
shut_reach link old new sending.NotRegistered alone success dropped closed off = reach_off_own old.registered old.place.partner_registered off

-- The partner's control word was read.
pub reached_sent : (answer : SendAnswer) (number : ℕ) (P : Type 0) → answer ≡ sending.Success number → OnReached answer P → P
reached_sent answer number P is told = subst (λ (a : SendAnswer). OnReached a P) is told

pub reached_dropped : (answer : SendAnswer) (number held : ℕ) (P : Type 0) → answer ≡ sending.Dropped number held → OnReached answer P → P
reached_dropped answer number held P is told = subst (λ (a : SendAnswer). OnReached a P) is told

-- THE STEP ---------------------------------------------------------------------------------------

-- what is to come where only entries were sent
pub come_same : (old new : EndState) → new.place ≡ old.place → new.last_session ≡ old.last_session → new.taken ≡ old.taken → to_come new ≡ to_come old
come_same old new place session taken =
    λ i. drop (length (of_session (session i) (taken i))) (of_session (session i) (place i).received)

pub known_equal : (old new : PortState) → new ≡ old → StaysKnown old new
known_equal old new same = record {
  place = ap (λ (p : PortState). p.place) same;
  strokes = ap (λ (p : PortState). p.strokes) same;
  values = ap (λ (p : PortState). p.values) same;
}

-- The unit is as before, but for what it keeps to be put.
pub reply_sent : (link : Bool) (unit : Unit) (kept : Option Kept) (old new : SiteState) (records : Records) (entry : Entry) → link ≡ false → OnlySends link old.queue new.queue
    → new.own.place ≡ old.own.place → new.client ≡ old.client → SendsOrKeeps (doing unit old records) (record (doing unit new records) { kept = kept }) entry
    → SendsReply (doing unit old records) (record (doing unit new records) { kept = kept }) entry
reply_sent link unit kept old new records entry alone rest own client sent = record {
  stays = record { name = ap (λ (p : PortPlace). p.unit) own; id = refl; granted = refl; partner = λ i. (rest.place i).partner_registered; to = rest.counts.same_session alone };
  aside = record {
    served = record { stage = refl; answer = refl; pending = refl };
    logins = refl;
    taking = refl;
    outstanding = refl;
    waiting = refl;
    client = known_equal old.client new.client client;
    rows = refl;
    lines = refl;
  };
  line = record { ended = refl; handshake = refl; event = rest.kept; reaches = λ i. rest.registered i && (rest.place i).partner_registered };
  coming = come_same old.queue new.queue rest.place rest.last_session rest.taken;
  sent = sent;
}
