-- What calls do that change nothing of a unit, and what the entry does that is kept and answers no request.
use Rattle.std.proofs.Common.{◌≡◌, ◌&&◌, Bool, false, Some, None, refl, ap}
use Rattle.vio_num.specs.declared.entry.Entry.{Entry}
use Rattle.crq_session.specs.EndState.{OnlyReserves, OnlySends}
use Rattle.tce_window.specs.PortState.{PortPlace}
use Rattle.block_server.specs.Doings.{SendsKept, doing}
use Rattle.block_server.specs.SiteState.{SiteState}
use Rattle.block_server.specs.declared.line.Kept.TheVariants as keeps
use Rattle.block_server.specs.declared.records.Records.{Records}
use Rattle.block_server.specs.declared.unit.Unit.{Unit}
use Rattle.block_server.proofs.DoingReplies.{PutsOrLoses, come_same, known_equal}

-- WHAT IS THE SAME -------------------------------------------------------------------------------

-- room was made
pub doing_noted : (unit : Unit) (site : SiteState) (records records' : Records) → records'.history.items ≡ records.history.items → records'.grants.items ≡ records.grants.items
    → doing unit site records' ≡ doing unit site records
doing_noted unit site records records' rows lines = λ i. record (doing unit site records) { rows = rows i; lines = lines i }

-- room was made for calls of the queue
pub doing_same : (unit : Unit) (old new : SiteState) (records records' : Records) → new.own.place ≡ old.own.place → OnlyReserves old.queue new.queue → new.client ≡ old.client
    → records'.history.items ≡ records.history.items → records'.grants.items ≡ records.grants.items → doing unit new records' ≡ doing unit old records
doing_same unit old new records records' place rest client rows lines = λ i. record (doing unit old records) {
  name = (place i).unit;
  coming = come_same old.queue new.queue rest.place rest.last_session rest.taken i;
  sent = rest.sent i;
  client = client i;
  rows = rows i;
  lines = lines i;
  event = rest.kept i;
  reaches = rest.registered i && (rest.place i).partner_registered;
  partner = (rest.place i).partner_registered;
  to = (rest.counts i).partner_session;
}

-- an entry found the client's queue full
pub doing_unsent : (link : Bool) (unit : Unit) (old new : SiteState) (records : Records) → link ≡ false → new.own.place ≡ old.own.place → OnlySends link old.queue new.queue
    → new.queue.sent ≡ old.queue.sent → new.client ≡ old.client → doing unit new records ≡ doing unit old records
doing_unsent link unit old new records alone place rest sent client = λ i. record (doing unit old records) {
  name = (place i).unit;
  coming = come_same old.queue new.queue rest.place rest.last_session rest.taken i;
  sent = sent i;
  client = client i;
  event = rest.kept i;
  reaches = rest.registered i && (rest.place i).partner_registered;
  partner = (rest.place i).partner_registered;
  to = rest.counts.same_session alone i;
}

-- WHAT WAS KEPT ----------------------------------------------------------------------------------

-- It was put, or lost.
pub sends_kept : (link : Bool) (unit : Unit) (old new : SiteState) (records : Records) (entry : Entry) → link ≡ false → unit.line.kept ≡ Some (keeps.Reply entry)
    → OnlySends link old.queue new.queue → new.own.place ≡ old.own.place → new.client ≡ old.client → PutsOrLoses old.queue new.queue entry
    → SendsKept (doing unit old records) (record (doing unit new records) { kept = None })
sends_kept link unit old new records entry alone was rest own client sent = record {
  stays = record { name = ap (λ (p : PortPlace). p.unit) own; id = refl; granted = refl; partner = λ i. (rest.place i).partner_registered; to = rest.counts.same_session alone };
  aside = record {
    served = record { stage = refl; answer = refl; pending = refl };
    logins = refl;
    taking = refl;
    outstanding = refl;
    waiting = refl;
    client = known_equal old.client new.client client;
    rows = refl;
    lines = refl;
  };
  line = record { ended = refl; handshake = refl; event = rest.kept; reaches = λ i. rest.registered i && (rest.place i).partner_registered };
  coming = come_same old.queue new.queue rest.place rest.last_session rest.taken;
  entry = entry;
  was = was;
  kept = refl;
  sent = sent;
}
