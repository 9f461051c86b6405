-- What the calls of a seat leave of its end, from what they leave of its rings' ends.
use Rattle.std.proofs.Common.{◌≡◌, ℕ, ◌+◌, ◌≤◌, true, false, Option, None, sym, refl, ap, ◌∙◌, subst, arith, true≢false}
use Rattle.std.specs.Borrow.{GName}
use Rattle.vio_num.specs.declared.entry.Entry.{Entry}
use Rattle.crq_ring.specs.Ends.{end_taken}
use Rattle.crq_ring.specs.Later.{IsLater}
use Rattle.crq_ring.specs.RingSessions.{BeginsSession, EndsSession}
use Rattle.crq_ring.proofs.SessionLaws.{later_begun}
use Rattle.crq_session.specs.declared.seat.LinkSeat.{LinkSeat}
use Rattle.crq_session.specs.declared.shared_link.Link.{Link}
use Rattle.crq_session.specs.Answered.{Puts, Loses, FindsFull, FindsClosed, Sends, TurnsBack, Opens, Settles}
use Rattle.crq_session.specs.EndState.{EndPlace, EndState, OnlySends, OnlyPushes, OnlyRegisters}
use Rattle.crq_session.specs.LinkState.{place_at}
use Rattle.crq_session.specs.SeatCalls.{SeesWord, SendRead}
use Rattle.crq_session.specs.SeatState.{end_at, seat_spare_of, KeepsSeat, SpendsSeat}
use Rattle.crq_session.proofs.Events.{later, settles_on}

-- the place of an end stays where its side does
pub at_place : (P : EndState → EndState → Type 0) (lender : GName) (link : Link) (seat seat' : LinkSeat) → seat'.first ≡ seat.first
    → P (end_at (place_at lender link seat.first) seat) (end_at (place_at lender link seat.first) seat')
    → P (end_at (place_at lender link seat.first) seat) (end_at (place_at lender link seat'.first) seat')
at_place P lender link seat seat' e h = subst (λ f. P (end_at (place_at lender link seat.first) seat) (end_at (place_at lender link f) seat')) (sym e) h

-- the event that is kept has no part in what a pass leaves
module _ (x y : EndState) (k k' : Option Entry) where
  pub sends_puts : (entry : Entry) (number : ℕ) → Sends true (record x { kept = k }) entry y number → Puts true x entry y
  sends_puts entry number s = record { sent = s.puts.sent; drops = s.puts.drops; partner = λ e. absurd (true≢false e); free_slot = λ e. absurd (true≢false e) }

  pub turns_loses : (word : ℕ) → TurnsBack true (record x { kept = k }) y word → Loses true x y
  turns_loses word t = record {
    none = record { sent = t.none.sent; drops = t.none.drops };
    meets = record { closed = t.closed.meets.closed; partner = λ e. absurd (true≢false e) };
  }

  pub full_keeps : (number held : ℕ) → FindsFull true (record x { kept = k }) y number held → FindsFull true x (record y { kept = k' }) number held
  full_keeps number held f = record {
    number_is = f.number_is;
    lawful = f.lawful;
    sent = f.sent;
    drops = f.drops;
    full = f.full;
    partner = λ e. absurd (true≢false e);
    full_slot = λ e. absurd (true≢false e);
  }

  pub pushes : OnlySends true (record x { kept = k }) y → OnlyPushes true x (record y { kept = k' })
  pushes r = record {
    place = r.place;
    last_session = r.last_session;
    registered = r.registered;
    taken = r.taken;
    counts = record {
      partner_session = r.counts.partner_session;
      same_session = r.counts.same_session;
      full = r.counts.full;
      empty = r.counts.empty;
      closed = r.counts.closed;
      in_use = r.counts.in_use;
    };
    empty = r.empty;
    in_use = r.in_use;
  }

-- the end once its own queue was closed
pub closed_end : (place : EndPlace) (old mid : LinkSeat) → EndsSession old.recv mid.recv → mid.send ≡ old.send → mid.kept ≡ old.kept → mid.closed ≡ old.closed → mid.in_use ≡ old.in_use
    → end_at place mid ≡ later (end_at place old) false (seat_spare_of mid)
closed_end place old mid e send kept closed in_use = λ i. record {
  place = place;
  last_session = e.session i;
  registered = e.is_open i;
  kept = kept i;
  sent = (send i).sent;
  drops = (send i).drops;
  taken = e.taken i;
  counts = record { partner_session = (send i).session; full = (send i).full; empty = e.empty i; closed = closed i; in_use = in_use i };
  spare = seat_spare_of mid;
}

-- A registration: the kept event was pushed, the next session began, the partner's control word was read.
module _ (place : EndPlace) (old pushed begun new : LinkSeat) (number : ℕ) (recv : pushed.recv ≡ old.recv) (b : BeginsSession pushed.recv number begun.recv)
    (send : begun.send ≡ pushed.send) (kept : begun.kept ≡ pushed.kept) (closed : begun.closed ≡ pushed.closed) (in_use : begun.in_use ≡ pushed.in_use) (w : SeesWord begun new) where
  sends_same : new.send.sent ≡ pushed.send.sent
  sends_same = ap (λ v. v.sent) w.send ∙ ap (λ v. v.sent) send

  drops_same : new.send.drops ≡ pushed.send.drops
  drops_same = ap (λ v. v.drops) w.send ∙ ap (λ v. v.drops) send

  session_same : new.send.session ≡ pushed.send.session
  session_same = ap (λ v. v.session) w.send ∙ ap (λ v. v.session) send

  full_same : new.send.full ≡ pushed.send.full
  full_same = ap (λ v. v.full) w.send ∙ ap (λ v. v.full) send

  pub opens_seat : old.recv.is_open ≡ false → pushed.kept ≡ None → Settles true old.kept (end_at place old) (end_at place pushed) → Opens true (end_at place old) (end_at place new)
  opens_seat unregistered none settles = record {
    unregistered = unregistered;
    registered = ap (λ v. v.is_open) w.recv ∙ b.is_open;
    session = ap (λ v. v.session) w.recv ∙ (b.session ∙ (b.number_is ∙ ap (λ v. v.session + 1) recv));
    none_taken = ap end_taken w.recv ∙ b.none_taken;
    none_received = λ e. absurd (true≢false e);
    kept = w.kept ∙ (kept ∙ none);
    settles = settles_on true old.kept (end_at place old) (end_at place pushed) (end_at place new) sends_same drops_same session_same (omega (arith, w.closed, closed)) settles;
  }

  pub registers_seat : OnlyPushes true (end_at place old) (end_at place pushed) → OnlyRegisters true (end_at place old) (end_at place new)
  registers_seat r = record {
    place = refl;
    last_session = omega (arith, ap (λ v. v.session) w.recv, b.session, b.number_is, ap (λ v. v.session) recv);
    taken = ap (λ v. v.taken) w.recv ∙ (b.taken ∙ ap (λ v. v.taken) recv);
    counts = record {
      partner_session = omega (arith, session_same, r.counts.partner_session);
      same_session = λ e. absurd (true≢false e);
      full = omega (arith, full_same, r.counts.full);
      empty = omega (arith, ap (λ v. v.empty) w.recv, b.empty, ap (λ v. v.empty) recv);
      closed = omega (arith, w.closed, closed, r.counts.closed);
      in_use = omega (arith, w.in_use, in_use, r.in_use);
    };
    empty = ap (λ v. v.empty) w.recv ∙ (b.empty ∙ ap (λ v. v.empty) recv);
    in_use = w.in_use ∙ (in_use ∙ r.in_use);
  }

  pub closed_seat : (word : ℕ) → old.closed ≤ pushed.closed → FindsClosed true (end_at place begun) (end_at place new) word → FindsClosed true (end_at place old) (end_at place new) word
  closed_seat word less f = record {
    meets = record { closed = omega (arith, less, closed, f.meets.closed); partner = λ e. absurd (true≢false e) };
    shows = f.shows;
    word_is = λ e. absurd (true≢false e);
  }

-- The same registration, by what it leaves of the seat.
module _ (old pushed begun new : LinkSeat) (number : ℕ) (recv : pushed.recv ≡ old.recv) (b : BeginsSession pushed.recv number begun.recv)
    (send : begun.send ≡ pushed.send) (w : SeesWord begun new) where
  pub spends_seat : SpendsSeat old pushed → SpendsSeat old new
  spends_seat s = record {
    puts = omega (arith, s.puts, ap (λ v. v.spare) w.send, ap (λ v. v.spare) send);
    polls = omega (arith, ap (λ v. v.spare) w.recv, b.spare, ap (λ v. v.spare) recv);
    renewals = omega (arith, ap (λ v. v.renewals) w.recv, b.renewals, ap (λ v. v.renewals) recv);
  }

  pub later_registered : IsLater old.recv new.recv
  later_registered = subst (λ v. IsLater v new.recv) recv (subst (λ v. IsLater pushed.recv v) (sym w.recv) (later_begun pushed.recv begun.recv number b))

  pub keeps_seat : begun.first ≡ pushed.first → KeepsSeat old pushed → KeepsSeat old new
  keeps_seat first k = record {
    first = w.first ∙ (first ∙ k.first);
    send_ring = ap (λ v. v.ring) w.send ∙ (ap (λ v. v.ring) send ∙ k.send_ring);
    outside = ap (λ v. v.inside) w.send ∙ (ap (λ v. v.inside) send ∙ k.outside);
    later = later_registered;
  }

  pub read_last : (word : ℕ) → old.send.last.count ≤ pushed.send.last.count → SendRead begun new word → SendRead old new word
  read_last word reads r = record { read = omega (arith, reads, ap (λ v. v.last.count) send, r.read); word_is = r.word_is }
