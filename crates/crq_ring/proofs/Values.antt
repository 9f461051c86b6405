-- What a put and a poll leave of a pipe, from the row that they add.
use Rattle.std.proofs.Common.{◌≡◌, ℕ, ◌+◌, ◌-◌, ◌<◌, List, [], ◌∷◌, ◌++◌, length, Some, slice_get, ◌∙◌, ap}
use Rattle.vio_num.specs.declared.entry.Entry.{Entry}
use Rattle.vio_num.specs.Counts.{Rose}
use Rattle.crq_ring.specs.declared.rows.PipeRow.{PipeRow}
use Rattle.crq_ring.specs.Sessions.{of_session, recorded}
use Rattle.crq_ring.specs.Pipe.{PipeValue, sent_now, taken_now, row_now, Receives, Overflows, Yields}
use Rattle.crq_ring.proofs.Sessions.{of_session-push}
use Rattle.crq_ring.proofs.Dropping.{lawful_at}

-- one entry more in the present session
more_now : (q : ℕ) (entry : Entry) (old new : List PipeRow) → new ≡ old ++ record { session = q; entry = entry } ∷ []
    → of_session q new ≡ of_session q old ++ entry ∷ []
more_now q entry old new e = ap (of_session q) e ∙ of_session-push (record { session = q; entry = entry }) old

pub received : (old new : PipeValue) (number : ℕ) (entry : Entry)
    → length (sent_now old) < length (taken_now old) + old.slots → number ≡ length (sent_now old)
    → new.sent ≡ old.sent ++ row_now old entry ∷ [] → new.session ≡ old.session
    → new.drops ≡ old.drops → new.counts.full ≡ old.counts.full → Receives old number entry new
received old new number entry free is sent session drops full = record {
  empty_slot = free;
  number_is = is;
  sent = sent;
  sent_now = ap (λ q. of_session q new.sent) session ∙ more_now old.session entry old.sent new.sent sent;
  drops = drops;
  full = full;
}

pub yielded : (old new : PipeValue) (number : ℕ) (entry : Entry)
    → number ≡ length (taken_now old) → slice_get (sent_now old) number ≡ Some entry
    → new.taken ≡ old.taken ++ row_now old entry ∷ [] → new.session ≡ old.session
    → new.counts.empty ≡ old.counts.empty → Yields old number entry new
yielded old new number entry is there taken session empty = record {
  number_is = is;
  there = there;
  taken = taken;
  taken_now = ap (λ q. of_session q new.taken) session ∙ more_now old.session entry old.taken new.taken taken;
  empty = empty;
}

pub overflowed : (old new : PipeValue) (number : ℕ) (entry : Entry)
    → length (sent_now old) ≡ length (taken_now old) + old.slots → number ≡ length (sent_now old)
    → slice_get (sent_now old) (number - old.slots) ≡ Some entry → new.sent ≡ old.sent
    → new.drops ≡ recorded old.drops (record { session = old.session; number = number; held = entry.high })
    → Rose old.counts.full new.counts.full → Overflows old number entry.high new
overflowed old new number entry full is there sent drops rose = record {
  full_slot = full;
  number_is = is;
  lawful = lawful_at (sent_now old) (taken_now old) old.slots number entry is full there;
  sent = sent;
  drops = drops;
  full = rose;
}
