-- A unit's books, between the steps of its turn.
use Rattle.std.specs.Prelude.{ℕ, Bool, true, false, List, Option, Some, None, length}
use Rattle.crq_ring.specs.Sessions.{of_session}
use Rattle.crq_session.specs.EndState.{EndState}
use Rattle.crq_session.specs.declared.handshake.Handshake.{Handshake}
use Rattle.crq_session.specs.declared.handshake.Handshake.TheVariants.{Up}
use Rattle.vio_num.specs.declared.history.Grant.{Grant}
use Rattle.vio_num.specs.declared.history.Served.{Served as ServedRow}
use Rattle.vio_num.specs.declared.names.UnitId.{UnitId}
use Rattle.block_server.specs.Judged.{Ahead, Books, Credits, keys_of}
use Rattle.block_server.specs.Receipts.{is_ended}
use Rattle.block_server.specs.SiteState.{SiteState}
use Rattle.block_server.specs.declared.logins.Logins.{Logins}
use Rattle.block_server.specs.declared.records.Records.{Records}
use Rattle.block_server.specs.declared.request.Arrival.{Arrival}
use Rattle.block_server.specs.declared.unit.Unit.{Unit}

-- whether both ends have heard of one another
abbrev pub is_up : Handshake → Bool
is_up Up = true
is_up state = false

-- what is outstanding under the login, and what it grants
abbrev pub credits_of : Logins → Credits
credits_of logins = record { outstanding = logins.target.outstanding; granted = logins.granted }

abbrev pub books_of : Unit → (session : ℕ) → (next : Ahead) → Records → Books
books_of unit session next records = record {
  id = unit.id;
  session = session;
  next = next;
  current = unit.logins.current;
  last = unit.logins.last;
  taking = unit.logins.taking;
  stage = unit.service.stage;
  kept = unit.line.kept;
  pending = unit.pending.items;
  rows = keys_of records.history.items;
  grants = records.grants.items;
  ended = is_ended unit.line;
  up = is_up unit.line.handshake;
  credits = credits_of unit.logins;
}

abbrev pub number_of : Option Arrival → EndState → ℕ
number_of (Some arrival) queue = arrival.number
number_of None queue = length (of_session queue.last_session queue.taken)

-- the entry that is judged next: the one that waits, or else the one that is taken next
abbrev pub next_of : Option Arrival → EndState → Ahead
next_of waiting queue = record { number = number_of waiting queue; taken = queue.taken }

abbrev pub books_at : Unit → SiteState → Records → Books
books_at unit site records = books_of unit site.queue.last_session (next_of unit.waiting site.queue) records

-- the books of a unit of this name, over its queue, the rows and the lines
abbrev pub books_seen : Unit → UnitId → EndState → List ServedRow → List Grant → Books
books_seen unit id queue history grants = record {
  id = id;
  session = queue.last_session;
  next = next_of unit.waiting queue;
  current = unit.logins.current;
  last = unit.logins.last;
  taking = unit.logins.taking;
  stage = unit.service.stage;
  kept = unit.line.kept;
  pending = unit.pending.items;
  rows = keys_of history;
  grants = grants;
  ended = is_ended unit.line;
  up = is_up unit.line.handshake;
  credits = credits_of unit.logins;
}

-- the books as a session begins: it goes on, and the other end is not heard yet
abbrev pub as_begun : Books → Books
as_begun books = record books { ended = false; up = false }
