-- What the ends of a ring and their notes keep of their seats.
use Rattle.std.specs.Prelude.{◌≡◌, ℕ, ◌%◌, ◌<◌, ◌≤◌, Bool, true, false, List, [], length}
use Rattle.crq_ring.specs.declared.TheConstants.{MAX_SLOTS}
use Rattle.atomic_table.specs.declared.shared.Seat.{Seat}
use Rattle.crq_ring.specs.declared.rows.PipeRow.{PipeRow}
use Rattle.crq_ring.specs.declared.view.RingView.{RingView}
use Rattle.crq_ring.specs.declared.view.Role.{Role}
use Rattle.crq_ring.specs.Kept.{Present}
use Rattle.crq_ring.specs.RingSteps.{own_now}
use Rattle.crq_ring.specs.Window.{words_of}

abbrev pub RingSeat : Type 0
RingSeat = Seat (Unit {0}) RingView

-- An end in this role: its seat at a table of so many slots, its next slot, its session, and its rows, of
-- which those from `from` on are of that session.
pub record IsEnd (role : Role) (seat : RingSeat) (next session from : ℕ) (rows : List PipeRow) : Type 0 where
  pub role_is : seat.me.0.role ≡ role
  pub words : seat.table_id.words ≡ words_of seat.me.0.slots
  pub some_slots : 0 < seat.me.0.slots
  pub few_slots : seat.me.0.slots ≤ MAX_SLOTS
  pub within : next < seat.me.0.slots
  pub next_is : next ≡ length (own_now seat.me) % seat.me.0.slots
  pub session_is : session ≡ seat.me.0.session
  pub rows_are : rows ≡ seat.me.0.own
  pub present : Present session from rows
  pub carries_none : seat.me.1 ≡ []

-- A receiver of a closed queue zeroed its slots, and one of an open queue is in a session.
pub record KeepsSession (seat : RingSeat) (is_open : Bool) (session : ℕ) : Type 0 where
  pub open_is : is_open ≡ seat.me.0.is_open
  pub zeroed : is_open ≡ false → seat.me.0.swept ≡ seat.me.0.slots
  pub begun : is_open ≡ true → 1 ≤ session

-- A note in this role.
pub record IsNote (role : Role) (seat : RingSeat) : Type 0 where
  pub role_is : seat.me.0.role ≡ role
  pub carries_none : seat.me.1 ≡ []
