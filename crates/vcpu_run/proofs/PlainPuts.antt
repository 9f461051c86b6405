-- What a call by which a plain client sends something leaves of its window and of the two ends: the unit stands in its slot, the other slots
-- stay, and the entry is to come.
use Rattle.std.proofs.Common.{◌≡◌, ◌≢◌, ◌∙◌, ℕ, ◌+◌, ◌*◌, ◌≤◌, ◌++◌, ◌&&◌, nat_le, Bool, true, false, true≢false, cond, List, [], ◌∷◌, Option, Some, None, length, refl, sym, ap, subst, arith}
use Rattle.std.specs.Prelude.{⊤}
use Rattle.std.proofs.lemmas.Bool.Decides.{nat_tests}
use Rattle.vio_num.specs.declared.entry.Entry.{Entry}
use Rattle.crq_ring.specs.declared.rows.PipeRow.{PipeRow}
use Rattle.crq_session.specs.Answered.{Puts as PutsEntry}
use Rattle.crq_session.specs.EndState.{EndState, OnlySends}
use Rattle.tce_window.specs.PortState.{OnlyWrites, PortState, Writes}
use Rattle.block_server.specs.Talk.{session_rows, to_come}
use Rattle.vscsi_client.specs.Ports.{LaysAll}
use Rattle.vscsi_client.specs.Sending.{is_tabled, table_of, table_writes, table_writes_at}
use Rattle.vscsi_client.specs.Spans.{data_in_range, op_in_range, table_in_range, table_len}
use Rattle.vscsi_client.specs.State.{ClientState}
use Rattle.vscsi_client.specs.Units.{slot_address, table_bytes}
use Rattle.vscsi_client.specs.declared.TheConstants.{DATA_START, SLOTS}
use Rattle.vscsi_client.specs.declared.op.Op.{Op}
use Rattle.vscsi_client.specs.declared.table.Table.{Table}
use Rattle.vcpu_run.specs.PlainTalk.{AreEnds, Between, IsOwnWindow, KeepsSlots, ServerStays, shown}
use Rattle.vcpu_run.proofs.PlainSays.{EntryPut}
use Rattle.vcpu_run.proofs.PlainSlots.{behind_apart, keeps_on, keeps_same, slot_on, slots_apart, write_keeps}
use Rattle.vcpu_run.proofs.PlainStays.{laid_own, laid_shown}
use Rattle.vcpu_run.proofs.PlainTurns.{Receives, come_more, come_same}

-- ---- the ends

-- the server unit's end received the entry
pub received_one : (at at' : Between) (room : EndState) (entry : Entry) → AreEnds at.server at.own → at.server.registered ≡ true → room.sent ≡ at.own.sent
    → PutsEntry false room entry at'.own → ServerStays at at' → Receives at.server at'.server (entry ∷ [])
received_one at at' room entry ends there same puts stays = record {
  session = stays.session;
  registered = stays.registered;
  taken = stays.taken;
  slots = stays.slots;
  more = stays.ends.own_sees.received ∙ puts.sent
      ∙ ap (λ (rows : List PipeRow). rows ++ row at'.own.counts.partner_session ∷ []) (same ∙ sym ends.own_sees.received)
      ∙ ap (λ (q : ℕ). at.server.place.received ++ row q ∷ []) (stays.ends.own_sees.session ∙ stays.session)
      ∙ ap (λ b. at.server.place.received ++ cond b (session_rows at.server.last_session (entry ∷ [])) []) (sym there);
}
  where
    row : ℕ → PipeRow
    row q = record { session = q; entry = entry }

pub entry_put : (at at' : Between) (room : EndState) (entry : Entry) → AreEnds at.server at.own → at.server.registered ≡ true → room.sent ≡ at.own.sent
    → PutsEntry false room entry at'.own → at'.own.place ≡ at.own.place → ServerStays at at' → IsOwnWindow at'.window → EntryPut at at' entry
entry_put at at' room entry ends there same puts place stays own = record {
  unit = stays.unit;
  ends = stays.ends;
  registered = stays.registered;
  kept = stays.kept;
  server_slots = stays.slots;
  own_slots = ap (λ place. place.own_slots) place;
  come = come_more at.server at'.server (entry ∷ []) there ends.server_took (received_one at at' room entry ends there same puts stays);
  usable = own;
}

-- nothing came to the client's end
pub come_still : (old new : EndState) → OnlySends false old new → to_come new ≡ to_come old
come_still old new rest = come_same old new rest.place rest.last_session rest.taken

-- ---- the window

-- What writes leave of a client's window: the slots that are spared, and that it is the client's own.
pub record LeavesWindow (spared : ℕ → Type 0) (old new : PortState) : Type 0 where
  pub own : IsOwnWindow new
  pub keeps : KeepsSlots spared old new

pub both_true : (b c : Bool) → (b && c) ≡ true → (b ≡ true) × (c ≡ true)
both_true true c is = (refl, is)
both_true false c is = absurd (true≢false (sym is))

-- a command's table lies behind the slots
table_behind : (pages at pieces : ℕ) → table_in_range pages (Some at) pieces ≡ true → DATA_START ≤ at
table_behind pages at pieces is =
    let low : nat_le DATA_START at ≡ true = (both_true (nat_le DATA_START at) (nat_le (at + table_len pieces) (4096 * pages)) is).0 in
    grind (arith, nat_tests, low)

tables_at : (line : ℕ) (op : Op) (tabled : Option Table) (table : Option ℕ) (pages : ℕ) (old new : PortState) → IsOwnWindow old → table_in_range pages table op.pieces ≡ true
    → LaysAll false line (table_writes_at line op tabled table) old new → LeavesWindow (λ slot. ⊤) old new
tables_at line op tabled None pages old new own inside laid = record { own = subst IsOwnWindow (sym laid) own; keeps = keeps_same old new laid }
tables_at line op tabled (Some address) pages old new own inside laid = by (is_tabled tabled (table_of line op address)) laid
  where
    by : (b : Bool) → LaysAll false line (cond b [] (record { at = address; bytes = table_bytes op op.pieces } ∷ [])) old new → LeavesWindow (λ slot. ⊤) old new
    by true laid = record { own = subst IsOwnWindow (sym laid) own; keeps = keeps_same old new laid }
    by false (middle, (wrote, only), same) = subst (LeavesWindow (λ slot. ⊤) old) (sym same) (record {
      own = laid_own old middle address line (table_bytes op op.pieces) own wrote only;
      keeps = write_keeps (λ slot. ⊤) old middle address line (table_bytes op op.pieces) own wrote only
          (λ slot within spares. behind_apart address (length (table_bytes op op.pieces)) slot within (table_behind pages address op.pieces inside));
    })

pub tables_leave : (line : ℕ) (op : Op) (s : ClientState) (pages : ℕ) (old new : PortState) → IsOwnWindow old → op_in_range pages op ≡ true
    → LaysAll false line (table_writes line op s) old new → LeavesWindow (λ slot. ⊤) old new
tables_leave line op s pages old new own inside laid =
    tables_at line op s.tabled op.table pages old new own (both_true (data_in_range pages op) (table_in_range pages op.table op.pieces) inside).1 laid

-- What the write of a unit leaves: the unit stands in its slot.
pub record LeavesUnit (slot : ℕ) (bytes : List ℕ) (old new : PortState) : Type 0 where
  pub own : IsOwnWindow new
  pub keeps : KeepsSlots (λ other. other ≢ slot) old new
  pub stands : shown new (slot_address slot) (length bytes) ≡ bytes

-- the unit was written, behind writes that left all slots
pub unit_laid : (line slot : ℕ) (bytes : List ℕ) (old middle new : PortState) → LeavesWindow (λ slot. ⊤) old middle → slot ≤ SLOTS → 1 ≤ length bytes → length bytes ≤ 256
    → Writes false middle (slot_address slot) bytes line new → OnlyWrites middle new → LeavesUnit slot bytes old new
unit_laid line slot bytes old middle new before within some few wrote only = record {
  own = laid_own middle new (slot_address slot) line bytes before.own wrote only;
  keeps = keeps_on (λ other. other ≢ slot) old middle new before.keeps
      (write_keeps (λ other. other ≢ slot) middle new (slot_address slot) line bytes before.own wrote only
      (λ other inside differs. slots_apart slot other (length bytes) (λ same. differs (sym same)) few));
  stands = laid_shown middle new (slot_address slot) line bytes before.own wrote (slot_on middle before.own slot (length bytes) within some few);
}
