-- When each answer of an end comes, and what it leaves. Where the end is not shared, its cause is exact.
use Rattle.std.specs.Prelude.{◌≡◌, ◌⊎◌, ℕ, ◌+◌, ◌<◌, ◌≤◌, Bool, true, false, List, [], ◌∷◌, ◌++◌, Option, Some, None, IsSome, IfSome, length}
use Rattle.std.specs.List.{slice_get}
use Rattle.vio_num.specs.declared.entry.Entry.{Entry}
use Rattle.vio_num.specs.Counts.{Rose}
use Rattle.vio_num.specs.Entry.{first_byte, partner_failed, partner_freed}
use Rattle.vio_num.specs.Queue.{LawfulDrop}
use Rattle.crq_ring.specs.Sessions.{of_session, recorded}
use Rattle.crq_ring.specs.Control.{ShowsClosed, ShowsInside, control_word}
use Rattle.crq_session.specs.Control.{fits_queue}
use Rattle.crq_session.specs.EndState.{EndState}

-- what was put into the partner's queue in its present session, and what the partner took of it
abbrev pub sent_now : EndState → ℕ → List Entry
sent_now end q = of_session q end.sent

abbrev pub partner_took : EndState → ℕ → List Entry
partner_took end q = of_session q end.place.partner_taken

-- what was taken from the own queue in its last session, and what was put there
abbrev pub taken_now : EndState → List Entry
taken_now end = of_session end.last_session end.taken

abbrev pub received_now : EndState → List Entry
received_now end = of_session end.last_session end.place.received

-- Nothing was put into the partner's queue, and nothing found its slot full there.
pub record SendsNone (old new : EndState) : Type 0 where
  pub sent : new.sent ≡ old.sent
  pub drops : new.drops ≡ old.drops

-- An entry was put into the partner's queue, in its present session.
pub record Puts (shared : Bool) (old : EndState) (entry : Entry) (new : EndState) : Type 0 where
  pub sent : new.sent ≡ old.sent ++ record { session = new.counts.partner_session; entry = entry } ∷ []
  pub drops : new.drops ≡ old.drops
  pub partner : shared ≡ false → old.place.partner_registered ≡ true
  pub free_slot : shared ≡ false → length (sent_now old new.counts.partner_session) < length (partner_took old new.counts.partner_session) + old.place.partner_slots

-- The entry of this number found its slot full, with this high half in it.
pub record FindsFull (shared : Bool) (old new : EndState) (number held : ℕ) : Type 0 where
  pub number_is : number ≡ length (sent_now old new.counts.partner_session)
  pub lawful : LawfulDrop (sent_now old new.counts.partner_session) old.place.partner_slots number held
  pub sent : new.sent ≡ old.sent
  pub drops : new.drops ≡ recorded old.drops (record { session = new.counts.partner_session; number = number; held = held })
  pub full : Rose old.counts.full new.counts.full
  pub partner : shared ≡ false → old.place.partner_registered ≡ true
  pub full_slot : shared ≡ false → length (sent_now old new.counts.partner_session) ≡ length (partner_took old new.counts.partner_session) + old.place.partner_slots

-- The partner's control word was read: its queue was not registered, or in another session.
pub record MeetsClosed (shared : Bool) (old new : EndState) : Type 0 where
  pub closed : Rose old.counts.closed new.counts.closed
  pub partner : shared ≡ false → old.place.partner_registered ≡ false

-- This was the word.
pub record FindsClosed (shared : Bool) (old new : EndState) (word : ℕ) : Type 0 where
  pub meets : MeetsClosed shared old new
  pub shows : ShowsClosed new.counts.partner_session word
  pub word_is : shared ≡ false → word ≡ control_word new.counts.partner_session false false

-- These are the address and the length in bytes of the own queue.
abbrev pub fits_own : EndState → ℕ → ℕ → Bool
fits_own end = fits_queue end.place.own_slots

abbrev pub IsUnregistered : EndState → Type 0
IsUnregistered end = end.registered ≡ false

-- These are the own queue's address and length, and it is registered already.
abbrev pub IsRegisteredAt : EndState → ℕ → ℕ → Type 0
IsRegisteredAt end ioba bytes = (fits_own end ioba bytes ≡ true) × (end.registered ≡ true)

-- The entry's first byte is that of a used entry, but the own queue is not registered.
abbrev pub SendsUnregistered : EndState → Entry → Type 0
SendsUnregistered end entry = (0x80 ≤ first_byte entry) × IsUnregistered end

-- Where the end is not shared, the partner's queue is registered.
pub record MeetsOpen (shared : Bool) (old : EndState) : Type 0 where
  pub partner : shared ≡ false → old.place.partner_registered ≡ true

-- The own queue is registered, and the entry's first byte is that of a used entry.
pub record MaySend (old : EndState) (entry : Entry) : Type 0 where
  pub used : 0x80 ≤ first_byte entry
  pub registered : old.registered ≡ true

-- The entry was put, and has this number in the partner's session.
pub record Sends (shared : Bool) (old : EndState) (entry : Entry) (new : EndState) (number : ℕ) : Type 0 where
  pub number_is : number ≡ length (sent_now old new.counts.partner_session)
  pub puts : Puts shared old entry new

-- The entry was not put, since the partner's queue was closed, as this word shows.
pub record TurnsBack (shared : Bool) (old new : EndState) (word : ℕ) : Type 0 where
  pub none : SendsNone old new
  pub closed : FindsClosed shared old new word

-- The next entry was taken, and has this number in the own session.
pub record Takes (shared : Bool) (old new : EndState) (number : ℕ) (entry : Entry) : Type 0 where
  pub registered : old.registered ≡ true
  pub number_is : number ≡ length (taken_now old)
  pub taken : new.taken ≡ old.taken ++ record { session = old.last_session; entry = entry } ∷ []
  pub there : shared ≡ false → slice_get (received_now old) number ≡ Some entry

-- All that was received had been taken, and the next entry has this number.
pub record FindsNone (shared : Bool) (old new : EndState) (number : ℕ) : Type 0 where
  pub registered : old.registered ≡ true
  pub number_is : number ≡ length (taken_now old)
  pub taken : new.taken ≡ old.taken
  pub empty : Rose old.counts.empty new.counts.empty
  pub all_taken : shared ≡ false → received_now old ≡ taken_now old

-- A kept event was lost: the partner's queue was not registered, or in another session.
pub record Loses (shared : Bool) (old new : EndState) : Type 0 where
  pub none : SendsNone old new
  pub meets : MeetsClosed shared old new

-- The event that was kept, if one was, was put or was lost.
abbrev pub Settles : Bool → Option Entry → EndState → EndState → Type 0
Settles shared None old new = SendsNone old new
Settles shared (Some event) old new = Puts shared old event new ⊎ Loses shared old new

-- There is none to be put any more: none was kept, or it was lost.
abbrev pub LosesKept : Bool → Option Entry → EndState → EndState → Type 0
LosesKept shared None old new = SendsNone old new
LosesKept shared (Some event) old new = Loses shared old new

-- A session without entries began, once the kept event was put or lost.
pub record Opens (shared : Bool) (old new : EndState) : Type 0 where
  pub unregistered : old.registered ≡ false
  pub registered : new.registered ≡ true
  pub session : new.last_session ≡ old.last_session + 1
  pub none_taken : taken_now new ≡ []
  pub none_received : shared ≡ false → received_now new ≡ []
  pub kept : new.kept ≡ None
  pub settles : Settles shared old.kept old new

-- The kept event found its slot full, and is still kept.
pub record StillKept (shared : Bool) (old new : EndState) (number held : ℕ) : Type 0 where
  pub some : IsSome old.kept
  pub kept : new.kept ≡ old.kept
  pub full : FindsFull shared old new number held

-- The queue is not registered before the kept event is put, which found its slot full.
pub record HoldsUp (shared : Bool) (old new : EndState) (number held : ℕ) : Type 0 where
  pub unregistered : old.registered ≡ false
  pub still : new.registered ≡ false
  pub session : new.last_session ≡ old.last_session
  pub kept : StillKept shared old new number held

-- The event found its slot full, and is kept.
pub record Keeps (shared : Bool) (old : EndState) (event : Entry) (new : EndState) : Type 0 where
  pub number : ℕ
  pub held : ℕ
  pub full : FindsFull shared old new number held
  pub kept : new.kept ≡ Some event

-- The own queue was freed, and this event was put, is kept, or was lost.
pub record Frees (shared : Bool) (old : EndState) (event : Entry) (new : EndState) : Type 0 where
  pub registered : old.registered ≡ true
  pub freed : new.registered ≡ false
  pub tells : (Puts shared old event new × (new.kept ≡ None)) ⊎ (Keeps shared old event new ⊎ (Loses shared old new × (new.kept ≡ None)))

-- The own queue was freed, and the event tells the partner that it is free, or that this side failed.
abbrev pub TellsFreed : Bool → EndState → EndState → Type 0
TellsFreed shared old new = Frees shared old partner_freed new

abbrev pub TellsFailed : Bool → EndState → EndState → Type 0
TellsFailed shared old new = Frees shared old partner_failed new

-- The own control word shows a sender inside. An end that is not shared never finds one.
pub record FindsInUse (shared : Bool) (old new : EndState) (word : ℕ) : Type 0 where
  pub registered : old.registered ≡ true
  pub shared_end : shared ≡ true
  pub shows : ShowsInside old.last_session word
  pub in_use : Rose old.counts.in_use new.counts.in_use
  pub still : new.registered ≡ true
  pub kept : new.kept ≡ old.kept
  pub none : SendsNone old new

-- The kept event was put.
pub record Pushes (shared : Bool) (old new : EndState) : Type 0 where
  pub some : IsSome old.kept
  pub kept : new.kept ≡ None
  pub puts : IfSome old.kept (λ event. Puts shared old event new)

-- No event is kept any more, and none was put.
pub record PutsNone (shared : Bool) (old new : EndState) : Type 0 where
  pub kept : new.kept ≡ None
  pub loses : LosesKept shared old.kept old new
