-- The rows of a port, as a trace has them.
use Rattle.std.specs.Prelude.{◌+◌, ◌==◌, ℕ, zero, suc, Bool, true, false, List, [], ◌∷◌, Option, Some, None, filter, length, map, if◌then◌else◌}
use Rattle.std.specs.List.{flat_map}
use Rattle.vio_num.specs.declared.names.UnitId.{UnitId}
use Rattle.lan_buffers.specs.Calls.{closed_port}
use Rattle.lan_buffers.specs.Port.{IsLawfulPort, PortValue}
use Rattle.lan_buffers.specs.declared.rows.PostRow.{PostRow as Post}
use Rattle.lan_buffers.specs.declared.rows.DeliverRow.{DeliverRow as Delivery}
use Rattle.lan_buffers.specs.declared.rows.HarvestRow.{HarvestRow as Harvest}
use Rattle.lan_switch.specs.declared.station.Station.{Station}
use Rattle.lan_switch.specs.Switch.{port_of}
use Rattle.vio_trace.specs.declared.lan_rows.DeliverRow.{DeliverRow}
use Rattle.vio_trace.specs.declared.lan_rows.Filled.{Filled}
use Rattle.vio_trace.specs.declared.lan_rows.Filled.TheVariants.{Frame, Blank}
use Rattle.vio_trace.specs.declared.lan_rows.HarvestRow.{HarvestRow}
use Rattle.vio_trace.specs.declared.lan_rows.PortRow.{PortRow}
use Rattle.vio_trace.specs.declared.lan_rows.PostRow.{PostRow}
use Rattle.lan_script.specs.declared.seat.PortSeat.{PortSeat}
use Rattle.lan_script.specs.Frames.{piece_row_of}

-- rows made of items and their numbers, from n on
abbrev pub numbered : {X Row : Type 0} → (ℕ → X → Row) → (n : ℕ) → List X → List Row
numbered row n [] = []
numbered row n (x ∷ xs) = row n x ∷ numbered row (n + 1) xs

-- rows made of items and their numbers, which count from 0 in each session; the first is number n where it is of session s
abbrev pub numbered_on : {X Row : Type 0} → (X → ℕ) → (ℕ → X → Row) → (s n : ℕ) → List X → List Row
numbered_on session row s n [] = []
numbered_on session row s n (x ∷ xs) =
    row (if session x == s then n else 0) x ∷ numbered_on session row (session x) ((if session x == s then n else 0) + 1) xs

-- the numbers of so many sessions, from q on
abbrev pub sessions_from : (q count : ℕ) → List ℕ
sessions_from q zero = []
sessions_from q (suc count) = q ∷ sessions_from (q + 1) count

abbrev pub sessions_of : PortValue → List ℕ
sessions_of port = sessions_from 1 (length port.drop_counts)

-- the rows of sessions, which count from 1, each with its dropped frames
abbrev pub port_row_of : UnitId → (slots session drops : ℕ) → PortRow
port_row_of unit slots session drops = record { unit = unit; session = session; slots = slots; drops = drops }

abbrev pub port_rows : UnitId → PortValue → List PortRow
port_rows unit port = numbered (port_row_of unit port.slots) 1 port.drop_counts

-- the rows of posts, which count from 0 in each session
abbrev pub post_row_of : UnitId → ℕ → Post → PostRow
post_row_of unit number post = record {
  unit = unit;
  session = post.session;
  number = number;
  descriptor = post.descriptor;
  correlator = post.correlator;
}

abbrev pub posts_in : UnitId → List Post → (q : ℕ) → List PostRow
posts_in unit posts q = numbered (post_row_of unit) 0 (filter (λ row. row.session == q) posts)

abbrev pub post_rows : UnitId → PortValue → List PostRow
post_rows unit port = flat_map (posts_in unit port.posts) (sessions_of port)

-- the rows of deliveries, in the order of time in each session
abbrev pub filled_of : (blank : Bool) → Filled
filled_of true = Blank
filled_of false = Frame

abbrev pub deliver_row_of : UnitId → Delivery → DeliverRow
deliver_row_of unit row = record {
  unit = unit;
  session = row.session;
  post = row.post;
  sender = row.name.who;
  frame = row.name.mark;
  filled = filled_of row.blank;
  to = map piece_row_of row.to.items;
}

abbrev pub deliveries_in : UnitId → List Delivery → (q : ℕ) → List DeliverRow
deliveries_in unit rows q = map (deliver_row_of unit) (filter (λ row. row.session == q) rows)

abbrev pub deliver_rows : UnitId → PortValue → List DeliverRow
deliver_rows unit port = flat_map (deliveries_in unit port.deliveries) (sessions_of port)

-- the rows of receive entries that were taken, in the order of time in each session
abbrev pub harvest_row_of : UnitId → Harvest → HarvestRow
harvest_row_of unit row = record { unit = unit; session = row.session; high = row.high; low = row.low }

abbrev pub harvests_in : UnitId → List Harvest → (q : ℕ) → List HarvestRow
harvests_in unit rows q = map (harvest_row_of unit) (filter (λ row. row.session == q) rows)

abbrev pub harvest_rows : UnitId → PortValue → List HarvestRow
harvest_rows unit port = flat_map (harvests_in unit port.harvests) (sessions_of port)

-- the port of a seat, which is there
abbrev pub port_or : UnitId → Option PortValue → PortValue
port_or unit (Some port) = port
port_or unit None = closed_port unit 1

abbrev pub port_in : List Station → PortSeat → PortValue
port_in stations seat = port_or seat.unit (port_of stations seat.unit)

-- the port of a seat is lawful
abbrev pub HasLawfulPort : List Station → PortSeat → Type 0
HasLawfulPort stations seat = IsLawfulPort (port_in stations seat)
