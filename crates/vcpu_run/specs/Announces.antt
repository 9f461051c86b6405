-- What a client's calls put into its server unit's queue, and that they tell of their own queue's freeing.
use Rattle.std.specs.Prelude.{◌≡◌, ◌⊎◌, ℕ, ◌++◌, Bool, true, false, All, List, Option, Some, slice_get}
use Rattle.vio_num.specs.Entry.{first_byte}
use Rattle.vio_num.specs.declared.entry.Entry.{Entry}
use Rattle.crq_ring.specs.declared.rows.PipeRow.{PipeRow}
use Rattle.crq_session.specs.EndState.{EndState}
use Rattle.vcpu_run.specs.DropsStay.{DropsStay}

-- An end whose own queue is not registered keeps this event.
pub record IsKept (event : Entry) (registered : Bool) (kept : Option Entry) : Type 0 where
  pub freed : registered ≡ false
  pub there : kept ≡ Some event

-- An entry stands among these rows, as one of this session.
pub record IsAmong (entry : Entry) (session : ℕ) (rows : List PipeRow) : Type 0 where
  pub number : ℕ
  pub row : PipeRow
  pub there : slice_get rows number ≡ Some row
  pub session_is : row.session ≡ session
  pub entry_is : row.entry ≡ entry

-- an event is kept, or was put with these rows, in the partner's session
abbrev pub IsOnItsWay : Entry → List PipeRow → EndState → Type 0
IsOnItsWay event rows end = IsKept event end.registered end.kept ⊎ IsAmong event end.counts.partner_session rows

-- an event tells that the own queue is gone
abbrev pub IsAnnounced : List PipeRow → EndState → Type 0
IsAnnounced rows end = (event : Entry) × (first_byte event ≡ 0xFF) × IsOnItsWay event rows end

-- Each of these rows has an event, and what is kept is one.
abbrev pub HaveEvents : List PipeRow → Type 0
HaveEvents rows = All (λ row. first_byte row.entry ≡ 0xFF) rows

abbrev pub KeepsEvent : Option Entry → Type 0
KeepsEvent kept = (event : Entry) → kept ≡ Some event → first_byte event ≡ 0xFF

-- More was put behind what was put before. While the partner's queue is registered an event that was kept is kept or was put, and where the
-- own queue was freed an event tells of it, registered again or not; where it is not registered, and none tells of it, events alone were
-- put. Each record of a drop is there still.
pub record Announces (old new : EndState) : Type 0 where
  pub rows : List PipeRow
  pub sent : new.sent ≡ old.sent ++ rows
  pub kept : (event : Entry) → IsKept event old.registered old.kept → old.place.partner_registered ≡ true → IsOnItsWay event rows new
  pub freed : old.registered ≡ true → new.registered ≡ false → old.place.partner_registered ≡ true → IsAnnounced rows new
  pub renewed : old.registered ≡ true → old.place.partner_registered ≡ true → (new.last_session ≡ old.last_session) ⊎ IsAnnounced rows new
  pub says : KeepsEvent old.kept → KeepsEvent new.kept
  pub off : KeepsEvent old.kept → new.registered ≡ false → old.place.partner_registered ≡ true → HaveEvents rows ⊎ IsAnnounced rows new
  pub drops : DropsStay old.drops new.drops
