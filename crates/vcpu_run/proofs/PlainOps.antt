-- The data of a command that a plain client sent: its table, if it has one, was written and stands, and names pieces in the data's pages.
use Rattle.std.proofs.Common.{◌≡◌, ◌∙◌, ℕ, ◌+◌, ◌-◌, ◌*◌, ◌/◌, ◌%◌, ◌<◌, ◌≤◌, min, nat_le, true, false, cond, List, [], ◌∷◌, Option, Some, None, IsSome, drop, get_or, length, length-drop, length-take, refl, slice_range, sym, ap, subst, arith}
use Rattle.std.proofs.lemmas.Bool.Decides.{nat_tests}
use Rattle.std.proofs.lemmas.List.{get_or-drop, get_or-take}
use Rattle.page_slots.specs.Stroke.{StrokeValue}
use Rattle.page_slots.specs.declared.stroke.StrokeName.{StrokeName}
use Rattle.tce_window.specs.PortState.{PortState, Writes}
use Rattle.tce_window.specs.Region.{byte_in, region_byte, stroke_on, touches}
use Rattle.tce_window.specs.Strokes.{with_strokes}
use Rattle.vscsi_client.specs.Ports.{LaysAll}
use Rattle.vscsi_client.specs.Sending.{table_writes, table_writes_at}
use Rattle.vscsi_client.specs.Spans.{meets, op_in_range, data_in_range, span_of, span_of_table, table_in_range, table_len}
use Rattle.vscsi_client.specs.State.{ClientState}
use Rattle.vscsi_client.specs.Units.{table_bytes}
use Rattle.vscsi_client.specs.declared.TheConstants.{DATA_START}
use Rattle.vscsi_client.specs.declared.op.Op.{Op}
use Rattle.vscsi_client.specs.declared.table.Table.{Table}
use Rattle.vcpu_run.specs.PlainTalk.{IsOwnWindow, KeepsTables}
use Rattle.vcpu_run.proofs.PlainData.{data_kept, span_data}
use Rattle.vcpu_run.proofs.PlainPieces.{table_long}
use Rattle.vcpu_run.proofs.PlainPuts.{both_true}
use Rattle.vcpu_run.proofs.PlainStands.{byte_shown}
use Rattle.vcpu_run.proofs.PlainStays.{page_written, written_last}

-- ---- what was written stands, byte by byte

still_there : (old : Option (List StrokeValue)) (more : List StrokeValue) → IsSome old → IsSome (with_strokes old more)
still_there (Some old) more there = refl
still_there None more there = absurd (cc (there))

is_touched : (at len k : ℕ) → k < len → touches at len ((at + k) / 4096) ≡ true
is_touched at len k less = grind (arith, nat_tests, less)

-- the byte of a stroke of a write
stroke_byte : (old : Option (List StrokeValue)) (name : StrokeName) (at : ℕ) (bytes : List ℕ) (k : ℕ) → IsSome old → k < length bytes
    → byte_in (with_strokes old (stroke_on name at bytes ((at + k) / 4096) ∷ [])) ((at + k) % 4096) ≡ get_or bytes k 0
stroke_byte old name at bytes k there less =
    ap (byte_in now) place
    ∙ sym (byte_shown now stroke.offset (length stroke.bytes) within (still_there old (stroke ∷ []) there) inside)
    ∙ ap (λ (list : List ℕ). get_or list within 0) (written_last old stroke there (omega arith))
    ∙ get_or-take (to - from) (drop from bytes) within 0 (omega (arith, less))
    ∙ get_or-drop from bytes within 0
    ∙ ap (λ (n : ℕ). get_or bytes n 0) (omega arith)
  where
    page : ℕ
    page = (at + k) / 4096

    stroke : StrokeValue
    stroke = stroke_on name at bytes ((at + k) / 4096)

    now : Option (List StrokeValue)
    now = with_strokes old (stroke ∷ [])

    from : ℕ
    from = 4096 * ((at + k) / 4096) - at

    to : ℕ
    to = min (4096 * ((at + k) / 4096 + 1) - at) (length bytes)

    within : ℕ
    within = k - (4096 * ((at + k) / 4096) - at)

    place : (at + k) % 4096 ≡ (at - 4096 * ((at + k) / 4096)) + (k - (4096 * ((at + k) / 4096) - at))
    place = omega arith

    inside : within < length (slice_range bytes (4096 * ((at + k) / 4096) - at) (min (4096 * ((at + k) / 4096 + 1) - at) (length bytes)))
    inside = omega (arith, less, length-take (to - from) (drop from bytes), length-drop from bytes)

pub written_byte : (old new : PortState) (at mark : ℕ) (bytes : List ℕ) → IsOwnWindow old → Writes false old at bytes mark new → at + length bytes ≤ 4096 * old.place.size
    → (k : ℕ) → k < length bytes → region_byte new.strokes (at + k) ≡ get_or bytes k 0
written_byte old new at mark bytes own wrote inside k less =
    let name : StrokeName = record { who = old.place.unit; mark = mark } in
    let page : ℕ = (at + k) / 4096 in
    ap (λ (now : Option (List StrokeValue)). byte_in now ((at + k) % 4096))
    (page_written name at bytes page (old.strokes page) (new.strokes page) (wrote.strokes page)
    ∙ ap (λ b. cond b (with_strokes (old.strokes page) (stroke_on name at bytes page ∷ [])) (old.strokes page)) (is_touched at (length bytes) k less))
    ∙ stroke_byte (old.strokes page) name at bytes k (own.there page (omega (arith, inside, less))) less

-- ---- the table

-- What the write of a command's table, if it has one, leaves: the table stands, and what lies on other pages is as it was.
pub record TableLies (op : Op) (table : Option ℕ) (old new : PortState) : Type 0 where
  pub keeps : KeepsTables (λ ask. meets ask.table (span_of_table table op.pieces) ≡ false) old new
  pub stands : (at : ℕ) → table ≡ Some at → (k : ℕ) → k < 16 * op.pieces → region_byte new.strokes (at + k) ≡ get_or (table_bytes op op.pieces) k 0

table_end : (pages at pieces : ℕ) → table_in_range pages (Some at) pieces ≡ true → at + 16 * pieces ≤ 4096 * pages
table_end pages at pieces is =
    let high : nat_le (at + table_len pieces) (4096 * pages) ≡ true = (both_true (nat_le DATA_START at) (nat_le (at + table_len pieces) (4096 * pages)) is).1 in
    grind (arith, nat_tests, high)

lies_at : (line : ℕ) (op : Op) (tabled : Option Table) (table : Option ℕ) (old new : PortState) → IsOwnWindow old → tabled ≡ None
    → table_in_range old.place.size table op.pieces ≡ true → LaysAll false line (table_writes_at line op tabled table) old new → TableLies op table old new
lies_at line op tabled None old new own none inside laid = record {
  keeps = λ ask spares its. data_kept old new laid ask tt its;
  stands = λ at is. absurd (cc (is));
}
lies_at line op (Some other) (Some address) old new own none inside laid = absurd (cc (none))
lies_at line op None (Some address) old new own none inside (middle, (wrote, only), same) = subst (TableLies op (Some address) old) (sym same) (record {
  keeps = λ ask spares its.
      span_data old middle address line (table_bytes op op.pieces) wrote ask (subst (λ n. meets ask.table (span_of address n) ≡ false) (sym (table_long op op.pieces)) spares) its;
  stands = λ at is k less.
      ap (λ (a : ℕ). region_byte middle.strokes (a + k)) (same_at at address is)
      ∙ written_byte old middle address line (table_bytes op op.pieces) own wrote
      (omega (arith, table_long op op.pieces, table_end old.place.size address op.pieces inside)) k (omega (arith, less, table_long op op.pieces));
})
  where
    same_at : (at address : ℕ) → Some address ≡ Some at → at ≡ address
    same_at at address is = cc (is)

pub table_lies : (line : ℕ) (op : Op) (s : ClientState) (old new : PortState) → IsOwnWindow old → s.tabled ≡ None → op_in_range old.place.size op ≡ true
    → LaysAll false line (table_writes line op s) old new → TableLies op op.table old new
table_lies line op s old new own none inside laid =
    lies_at line op s.tabled op.table old new own none (both_true (data_in_range old.place.size op) (table_in_range old.place.size op.table op.pieces) inside).1 laid
