-- A port of the logical LAN (LoPAR, "Logical LAN"): what it keeps of its sessions, and the port
-- law.
use Rattle.std.specs.Prelude.{ℕ, ◌+◌, ◌≤◌, ◌<◌, ◌==◌, List, [], ◌∷◌, All, Option, Some, None, length, map, filter, slice_get, if◌then◌else◌}
use Rattle.std.specs.List.{AllPairs}
use Rattle.vio_num.specs.declared.names.UnitId.{UnitId}
use Rattle.vio_num.specs.declared.entry.Entry.{Entry}
use Rattle.tce_window.specs.Held.{held_len}
use Rattle.vio_num.specs.Words.{Begins}
use Rattle.lan_buffers.specs.declared.rows.PostRow.{PostRow}
use Rattle.lan_buffers.specs.declared.rows.DeliverRow.{DeliverRow}
use Rattle.lan_buffers.specs.declared.rows.HarvestRow.{HarvestRow}
use Rattle.lan_buffers.specs.declared.settings.Settings.{Settings}
use Rattle.lan_buffers.specs.Buffer.{toggle, frame_bits}
use Rattle.lan_buffers.specs.Pools.{posted, taken}

pub record PortValue : Type 0 where
  -- the unit whose port it is, and the number of its slots
  pub unit : UnitId
  pub slots : ℕ
  -- the settings; none where the port is closed
  pub settings : Option Settings
  -- the buffers that were posted, the frames and blanks that took them, and the receive entries that
  -- were read, over all sessions
  pub posts : List PostRow
  pub deliveries : List DeliverRow
  pub harvests : List HarvestRow
  -- of each session, the first first, how many frames were dropped
  pub drop_counts : List ℕ
  -- the begins, posts and harvests for which room is reserved
  pub spare : ℕ

-- Rows stand by the sessions that they name, which count from 1 to the last.
pub record StandBySession {X : Type 0} (session_of : X → ℕ) (last : ℕ) (rows : List X) : Type 0 where
  pub begun : All (λ row. 1 ≤ session_of row) rows
  pub rising : AllPairs (λ a b. session_of a ≤ session_of b) rows
  pub none_later : All (λ row. session_of row ≤ last) rows

-- the rows of one session
pub record Session : Type 0 where
  pub posts : List PostRow
  pub deliveries : List DeliverRow
  pub harvests : List HarvestRow

-- the rows of session q among these
abbrev pub rows_of : ℕ → List PostRow → List DeliverRow → List HarvestRow → Session
rows_of q posts deliveries harvests = record {
  posts = filter (λ row. row.session == q) posts;
  deliveries = filter (λ row. row.session == q) deliveries;
  harvests = filter (λ row. row.session == q) harvests;
}

-- the rows of session q
abbrev pub session_of : ℕ → PortValue → Session
session_of q port = rows_of q port.posts port.deliveries port.harvests

-- the number of the last session, 0 before the first
abbrev pub last_session : PortValue → ℕ
last_session port = length port.drop_counts

-- the rows of the last session
abbrev pub now : PortValue → Session
now port = session_of (last_session port) port

-- the correlator of the post of this number
abbrev pub correlator_of : Option PostRow → ℕ
correlator_of (Some post) = post.correlator
correlator_of None = 0

-- what a receive entry says of its buffer: a frame of this length at offset 8, or nothing
abbrev pub told_of : DeliverRow → ℕ
told_of row = if row.blank then 0 else frame_bits + held_len row.to.items

-- receive entry k of a port of n slots
abbrev pub receive_entry : (n k : ℕ) → List PostRow → DeliverRow → Entry
receive_entry n k posts row = record {
  high = toggle n k + told_of row;
  low = correlator_of (slice_get posts row.post);
}

-- the receive entries of these deliveries, of which the first is entry k
abbrev pub entries_from : (n k : ℕ) → List PostRow → List DeliverRow → List Entry
entries_from n k posts [] = []
entries_from n k posts (row ∷ rows) =
    receive_entry n k posts row ∷ entries_from n (k + 1) posts rows

-- the receive entries of a session
abbrev pub receive_entries : ℕ → Session → List Entry
receive_entries n s = entries_from n 0 s.posts s.deliveries

-- the receive entry that a harvest read
abbrev pub read_entry : HarvestRow → Entry
read_entry row = record { high = row.high; low = row.low }

-- The port law of a session of n slots: each delivery takes a post of the session; of each length those
-- that were taken, in the order of time, are a front of those posted, so that none is taken twice or
-- passed over; the harvests are a front of the entries that the deliveries make; and at most n posts are
-- not harvested.
pub record IsLawfulSession (n : ℕ) (s : Session) : Type 0 where
  pub named : All (λ row. row.post < length s.posts) s.deliveries
  pub in_order : (size : ℕ) → Begins (taken size s.posts s.deliveries) (posted size s.posts)
  pub harvested : Begins (map read_entry s.harvests) (receive_entries n s)
  pub within : length s.posts ≤ length s.harvests + n

-- The port law of every session.
pub record IsLawfulPort (port : PortValue) : Type 0 where
  pub sized : (1 ≤ port.slots) × (port.slots ≤ 1024)
  pub sessions : (q : ℕ) → IsLawfulSession port.slots (session_of q port)
