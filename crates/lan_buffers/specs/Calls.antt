-- What the calls of a port find and leave.
use Rattle.std.specs.Prelude.{◌≡◌, ℕ, ◌+◌, ◌-◌, ◌≤◌, ◌<◌, ◌⊎◌, All, Bool, true, false, List, [], ◌∷◌, ◌++◌, Option, Some, None, IsSome, length, map, slice_get, slice_index, slice_set}
use Rattle.std.specs.Option.{unwrap_or}
use Rattle.vio_num.specs.declared.names.Mac.{Mac}
use Rattle.vio_num.specs.declared.names.UnitId.{UnitId}
use Rattle.vio_num.specs.Counts.{risen}
use Rattle.page_slots.specs.declared.stroke.StrokeName.{StrokeName}
use Rattle.tce_window.specs.declared.piece.Piece.{Piece}
use Rattle.vio_num.specs.declared.entry.Entry.{Entry}
use Rattle.tce_window.specs.declared.answers.HoldFault.{HoldFault}
use Rattle.tce_window.specs.declared.answers.Right.TheVariants.{Write}
use Rattle.tce_window.specs.Held.{held_len}
use Rattle.tce_window.specs.Moved.{piece_strokes, places_on, IsLaid, IsWrittenTo}
use Rattle.tce_window.specs.Pieces.{IsLast, IsUsable, IsRefused, IsOfEntry, IsOfRange}
use Rattle.tce_window.specs.PortState.{PortState, Lays}
use Rattle.lan_frame.specs.Filter.{Accepts}
use Rattle.lan_buffers.specs.declared.rows.PostRow.{PostRow}
use Rattle.lan_buffers.specs.declared.rows.DeliverRow.{DeliverRow}
use Rattle.lan_buffers.specs.declared.rows.HarvestRow.{HarvestRow}
use Rattle.lan_buffers.specs.declared.told.Told.{Told}
use Rattle.lan_buffers.specs.declared.settings.Settings.{Settings}
use Rattle.lan_buffers.specs.Buffer.{buffer_len, buffer_address, frame_offset, most_sizes}
use Rattle.lan_buffers.specs.Pools.{has_size, sizes_of, waiting}
use Rattle.lan_buffers.specs.Port.{PortValue, Session, now, last_session, correlator_of, receive_entries, receive_entry}

-- whether the port is open
abbrev pub IsOpen : PortValue → Type 0
IsOpen port = IsSome port.settings

-- the settings with which a session begins
abbrev pub first_settings : Mac → Settings
first_settings mac = record { mac = mac; reception = false; filtering = false; filters = [] }

-- a closed port of n slots, in no session and with no room
abbrev pub closed_port : UnitId → ℕ → PortValue
closed_port unit slots = record {
  unit = unit;
  slots = slots;
  settings = None;
  posts = [];
  deliveries = [];
  harvests = [];
  drop_counts = [];
  spare = 0;
}

-- A session began: with this MAC and without posts, deliveries, harvests and drops.
pub record BeginsSession (old : PortValue) (mac : Mac) (new : PortValue) : Type 0 where
  pub opened : new.settings ≡ Some (first_settings mac)
  pub counts : new.drop_counts ≡ old.drop_counts ++ 0 ∷ []
  pub empty : now new ≡ record { posts = []; deliveries = []; harvests = [] }
  pub spare : old.spare ≤ new.spare + 1
  pub rest : new ≡ record old {
    settings = new.settings;
    drop_counts = new.drop_counts;
    spare = new.spare;
  }

-- the frame is accepted by the settings of an open port
pub record AcceptsTo (port : PortValue) (to : Mac) : Type 0 where
  pub settings : Settings
  pub shown : port.settings ≡ Some settings
  pub accepted : Accepts settings.mac settings.reception settings.filtering settings.filters to

-- there is no place for a buffer of this length: as many as there are slots are posted and not
-- harvested, or the length would be the ninth
abbrev pub IsFull : PortValue → (len : ℕ) → Type 0
IsFull port len =
    (length (now port).posts ≡ length (now port).harvests + port.slots)
    ⊎ ((has_size len (sizes_of (now port).posts) ≡ false)
    × (length (sizes_of (now port).posts) ≡ most_sizes))

abbrev pub HasNoPlace : PortValue → (descriptor : ℕ) → Type 0
HasNoPlace port descriptor = IsFull port (buffer_len descriptor)

-- The posts of the session, its harvests, and its different lengths.
pub record CountsSession (port : PortValue) (posted harvested sizes : ℕ) : Type 0 where
  pub posted_is : posted ≡ length (now port).posts
  pub harvested_is : harvested ≡ length (now port).harvests
  pub sizes_is : sizes ≡ length (sizes_of (now port).posts)

-- The row of a buffer that is posted.
abbrev pub post_row : ℕ → ℕ → ℕ → PostRow
post_row q descriptor correlator = record {
  session = q;
  descriptor = descriptor;
  correlator = correlator;
}

-- The buffer was posted, as the post of this number of its session.
pub record Posts (old : PortValue) (descriptor correlator : ℕ) (new : PortValue) (number : ℕ) : Type 0 where
  pub number_is : number ≡ length (now old).posts
  pub posted : new.posts ≡ old.posts ++ post_row (last_session old) descriptor correlator ∷ []
  pub spare : old.spare ≤ new.spare + 1
  pub rest : new ≡ record old { posts = new.posts; spare = new.spare }

-- The row of a harvest that reads this entry.
abbrev pub harvest_row : ℕ → Entry → HarvestRow
harvest_row q entry = record { session = q; high = entry.high; low = entry.low }

-- The next receive entry was read: it has this number, and is that of this delivery.
pub record Reads (old new : PortValue) (number : ℕ) (row : DeliverRow) : Type 0 where
  pub number_is : number ≡ length (now old).harvests
  pub made : slice_get (now old).deliveries number ≡ Some row
  pub read : new.harvests ≡ old.harvests ++ harvest_row (last_session old)
      (receive_entry old.slots number (now old).posts row) ∷ []
  pub spare : old.spare ≤ new.spare + 1
  pub rest : new ≡ record old { harvests = new.harvests; spare = new.spare }

-- The entry is that of a frame of this length, in the buffer of this correlator.
pub record ReadsFrame (old new : PortValue) (number len correlator : ℕ) : Type 0 where
  pub row : DeliverRow
  pub reads : Reads old new number row
  pub filled : row.blank ≡ false
  pub len_is : len ≡ held_len row.to.items
  pub correlator_is : correlator ≡ correlator_of (slice_get (now old).posts row.post)

-- The entry is that of a buffer that was given back blank.
pub record ReadsBlank (old new : PortValue) (number correlator : ℕ) : Type 0 where
  pub row : DeliverRow
  pub reads : Reads old new number row
  pub blank : row.blank ≡ true
  pub correlator_is : correlator ≡ correlator_of (slice_get (now old).posts row.post)

-- the high halves of the receive entries of the last session
abbrev pub highs : PortValue → List ℕ
highs port = map (λ entry. entry.high) (receive_entries port.slots (now port))

-- Every receive entry was read, and the slot of the next has this high half: of the lap before, or 0
-- on the first.
pub record ReadsNothing (old : PortValue) (number high : ℕ) : Type 0 where
  pub number_is : number ≡ length (now old).harvests
  pub all_read : number ≡ length (now old).deliveries
  pub first_lap : number < old.slots → high ≡ 0
  pub later_lap : old.slots ≤ number → slice_get (highs old) (number - old.slots) ≡ Some high

-- The descriptor of a post.
abbrev pub descriptor_of : Option PostRow → ℕ
descriptor_of (Some post) = post.descriptor
descriptor_of None = 0

-- Where the bytes of a frame lie that takes the post of this number: behind its buffer's
-- correlator.
abbrev pub frame_address : Session → (post : ℕ) → ℕ
frame_address s post =
    buffer_address (descriptor_of (slice_get s.posts post)) + frame_offset

-- The posts of this length that wait for a frame, the oldest first.
abbrev pub pool : ℕ → Session → List ℕ
pool size s = waiting size s.posts s.deliveries

-- The post that a frame of `len` bytes takes: the oldest one of the smallest length that has room for
-- the correlator and the frame, and of which a post waits.
pub record Chooses (s : Session) (len post : ℕ) : Type 0 where
  pub size : ℕ
  pub fits : frame_offset + len ≤ size
  pub smallest : (other : ℕ) → frame_offset + len ≤ other → other < size → pool other s ≡ []
  pub later : List ℕ
  pub oldest : pool size s ≡ post ∷ later

-- The smallest length that has room for a frame of `len` bytes, and of which a post waits.
pub record IsSmallest (s : Session) (len size : ℕ) : Type 0 where
  pub fits : frame_offset + len ≤ size
  pub smallest : (other : ℕ) → frame_offset + len ≤ other → other < size → pool other s ≡ []
  pub waits : 1 ≤ length (pool size s)

-- The port is open, and a post waits for a frame of `len` bytes.
pub record FindsBuffer (port : PortValue) (len : ℕ) : Type 0 where
  pub opened : IsOpen port
  pub post : ℕ
  pub chosen : Chooses (now port) len post

-- The port is open, and each length posted in its session is too small for a frame of `len` bytes.
pub record FindsNoSize (port : PortValue) (len : ℕ) : Type 0 where
  pub opened : IsOpen port
  pub small : All (λ size. size < frame_offset + len) (sizes_of (now port).posts)

-- The port is open, a length is large enough, and each post of such a length is taken.
pub record FindsNoBuffer (port : PortValue) (len : ℕ) : Type 0 where
  pub opened : IsOpen port
  pub large : ¬ All (λ size. size < frame_offset + len) (sizes_of (now port).posts)
  pub taken : (size : ℕ) → frame_offset + len ≤ size → pool size (now port) ≡ []

-- The delivery takes this post of the last session, for the sender and its number of the frame.
pub record TakesPost (old : PortValue) (post : ℕ) (name : StrokeName) (row : DeliverRow) : Type 0 where
  pub session_is : row.session ≡ last_session old
  pub post_is : row.post ≡ post
  pub name_is : row.name ≡ name

-- The frame was written through these pieces of the window, from this address on: they are granted for
-- writing by the last values known, and each is one stroke behind all that its page had.
pub record FillsFrame (is_shared : Bool) (old new : PortState) (at : ℕ) (name : StrokeName) (frame : List ℕ) (to : List Piece) : Type 0 where
  pub written : IsWrittenTo old.place.unit new.values new.strokes at name to frame
  pub last : All (IsLast new.values) to
  pub usable : IsUsable new.values Write old.place.size at (length frame)
  pub laid : (p : ℕ) → IsLaid is_shared p to (piece_strokes name frame to)
      (old.strokes p) (new.strokes p)
  pub places : Lays is_shared (λ p. places_on p to) old new

-- The frame took this post: its bytes were written to the post's buffer, and its delivery is the
-- last.
pub record Delivers (old : PortValue) (name : StrokeName) (frame : List ℕ) (new : PortValue) (is_shared : Bool) (window window' : PortState) (post : ℕ) : Type 0 where
  pub chosen : Chooses (now old) (length frame) post
  pub row : DeliverRow
  pub takes : TakesPost old post name row
  pub filled : row.blank ≡ false
  pub written : FillsFrame is_shared window window' (frame_address (now old) post) name frame
      row.to.items
  pub rest : new ≡ record old { deliveries = old.deliveries ++ row ∷ [] }

-- the counts of dropped frames with one more in the last session
abbrev pub one_more : List ℕ → List ℕ
one_more counts =
    slice_set counts (length counts - 1) (risen (slice_index counts (length counts - 1)))

-- Nothing changed but the deliveries and the counts of dropped frames.
pub record OnlyDelivers (old new : PortValue) : Type 0 where
  pub rest : new ≡ record old { deliveries = new.deliveries; drop_counts = new.drop_counts }

-- The frame was dropped, and nothing else changed.
abbrev pub Drops : PortValue → PortValue → Type 0
Drops old new = new ≡ record old { drop_counts = one_more old.drop_counts }

-- The post was taken for a blank, and the frame was dropped.
pub record TakesBlank (old : PortValue) (post : ℕ) (name : StrokeName) (new : PortValue) : Type 0 where
  pub row : DeliverRow
  pub takes : TakesPost old post name row
  pub blank : row.blank ≡ true
  pub empty : row.to.items ≡ []
  pub rest : new ≡ record old {
    deliveries = old.deliveries ++ row ∷ [];
    drop_counts = one_more old.drop_counts;
  }

-- Why the window refused a frame's bytes: an entry is past the window, or lacks the right to be
-- written.
pub record IsUngranted (window window' : PortState) (at len : ℕ) (fault : HoldFault) : Type 0 where
  pub of_entry : IsOfEntry fault
  pub cause : IsRefused window'.values Write window.place.size at len fault

-- The buffer of this post was refused, for this fault: it was given back blank, and the frame was
-- dropped.
pub record GivesBlank (old : PortValue) (name : StrokeName) (len : ℕ) (new : PortValue) (window window' : PortState) (post : ℕ) (fault : HoldFault) : Type 0 where
  pub chosen : Chooses (now old) len post
  pub blank : TakesBlank old post name new
  pub cause : IsUngranted window window' (frame_address (now old) post) len fault

-- A page of the range was found in use, which others have in hand; each of its entries may be
-- written.
pub record IsPageInUse (is_shared : Bool) (window window' : PortState) (at len page : ℕ) (Found : Type 0) : Type 0 where
  pub shared : is_shared ≡ true
  pub of_range : IsOfRange window'.values at len page
  pub usable : IsUsable window'.values Write window.place.size at len
  pub found : Found

-- A page of the buffer that the frame would take was found in use.
pub record FindsPageInUse (old : PortValue) (len : ℕ) (is_shared : Bool) (window window' : PortState) (page : ℕ) (Found : Type 0) : Type 0 where
  pub post : ℕ
  pub chosen : Chooses (now old) len post
  pub in_use : IsPageInUse is_shared window window' (frame_address (now old) post) len page Found

-- the drop count of the last session, 0 before the first
abbrev pub drops_now : List ℕ → ℕ
drops_now counts = unwrap_or (slice_get counts (length counts - 1)) 0

-- What the receive entry of the delivery of this number says, but for its toggle.
pub record IsTold (s : Session) (number : ℕ) (told : Told) : Type 0 where
  pub row : DeliverRow
  pub made : slice_get s.deliveries number ≡ Some row
  pub blank_is : told.blank ≡ row.blank
  pub len_is : told.len ≡ held_len row.to.items
  pub correlator_is : told.correlator ≡ correlator_of (slice_get s.posts row.post)
