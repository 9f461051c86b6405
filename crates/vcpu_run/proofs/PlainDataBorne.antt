-- What a plain client's region shows where the data of a command lie, if the last strokes there are of its server unit under the command's
-- tag: the first bytes of the data-in of the row with that tag.
use Rattle.std.proofs.Common.{◌≡◌, ◌∙◌, ◌++◌, ◌+◌, ◌-◌, ◌*◌, ◌/◌, ◌<◌, ◌≤◌, ◌∷◌, ℕ, All, true, List, [], Option, Some, None, length, refl, sym, subst, arith}
use Rattle.std.proofs.lemmas.Bool.Decides.{nat_tests}
use Rattle.std.proofs.lemmas.List.Elements.{All-weaker}
use Rattle.std.specs.List.{slice_index}
use Rattle.vio_num.specs.declared.history.Served.{Served}
use Rattle.vio_num.specs.declared.names.UnitId.{UnitId}
use Rattle.page_slots.specs.Page.{AreWithinPage}
use Rattle.page_slots.specs.Stroke.{StrokeValue}
use Rattle.page_slots.specs.declared.stroke.StrokeName.{StrokeName}
use Rattle.tce_window.specs.Named.{covers, same_name}
use Rattle.tce_window.specs.Strokes.{AllWithin, IsWithin}
use Rattle.tce_window.specs.Window.{strokes_at}
use Rattle.unit_region.specs.RegionLines.{IsFront}
use Rattle.vscsi_client.specs.Transferred.{DataRange}
use Rattle.vscsi_client.specs.declared.TheConstants.{DATA_START}
use Rattle.vscsi_client.specs.declared.row.Row.{Row}
use Rattle.vcpu_run.specs.DataKept.{IsInwardAt}
use Rattle.vcpu_run.specs.LinesShow.{seen_at}
use Rattle.vcpu_run.specs.PlainBorne.{AreBorne, IsByteOf, IsOfRow}
use Rattle.vcpu_run.specs.declared.pair.Pair.{Pair}
use Rattle.vcpu_run.proofs.PlainBorne.{IsOnlyOne}
use Rattle.vcpu_run.proofs.PlainReady.{all_front}
use Rattle.vcpu_run.proofs.PlainSums.{Bear, BearAll}

-- ---- a stroke of the name

who_same : (a b : StrokeName) → same_name a b ≡ true → a.who ≡ b.who
who_same a b is = grind (arith, nat_tests, is)

mark_same : (a b : StrokeName) → same_name a b ≡ true → a.mark ≡ b.mark
mark_same a b is = grind (arith, nat_tests, is)

within_front : (front rest : List StrokeValue) → AreWithinPage (front ++ rest) → AreWithinPage front
within_front [] rest within = tt
within_front (stroke ∷ front) rest within = (within.0, within_front front rest within.1)

-- ---- the strokes there

-- What is known of the strokes of a client's region and of the rows of its server unit.
pub record KnowsBorne (server : UnitId) (list : List Served) (rs : List Row) (strokes : ℕ → Option (List StrokeValue)) : Type 0 where
  pub within : AllWithin strokes
  pub borne : AreBorne list server rs strokes

-- a byte of a stroke of the name
byte_of : (server : UnitId) (list : List Served) (rs : List Row) (tag at len page k : ℕ) (row : Served) (s : StrokeValue) → IsOnlyOne list tag row
    → IsInwardAt rs tag at len → (s.name.who ≡ server → IsOfRow list rs page s) → same_name s.name (record { who = server; mark = tag }) ≡ true → covers k s ≡ true
    → IsByteOf row.inn at (4096 * page + k) (slice_index s.bytes (k - s.offset))
byte_of server list rs tag at len page k row s alone inward has same cov =
    let of_row : IsOfRow list rs page s = has (who_same s.name (record { who = server; mark = tag }) same) in
    let mark : s.name.mark ≡ tag = mark_same s.name (record { who = server; mark = tag }) same in
    let one : of_row.row ≡ row = alone of_row.row of_row.there (of_row.tag_is ∙ mark) in
    let low : s.offset ≤ k = grind (arith, nat_tests, cov) in
    let high : k < s.offset + length s.bytes = grind (arith, nat_tests, cov) in
    let place : 4096 * page + s.offset + (k - s.offset) ≡ 4096 * page + k = omega (arith, low) in
    subst (λ (r : Served). IsByteOf r.inn at (4096 * page + k) (slice_index s.bytes (k - s.offset))) one
    (subst (λ a. IsByteOf of_row.row.inn at a (slice_index s.bytes (k - s.offset))) place
    (of_row.lies at len (subst (λ t. IsInwardAt rs t at len) (sym mark) inward) (k - s.offset) (omega (arith, low, high))))

pub bear_all : (pair : Pair) (server : UnitId) (list : List Served) (rs : List Row) (tag len : ℕ) (range : DataRange) (row : Served) → KnowsBorne server list rs (strokes_at pair.window.pages)
    → IsOnlyOne list tag row → IsInwardAt rs tag range.at len → DATA_START ≤ range.at → BearAll (seen_at pair) (record { who = server; mark = tag }) range row.inn
bear_all pair server list rs tag len range row knows alone inward behind page front touched is = by (strokes_at pair.window.pages page) refl is
  where
    name : StrokeName
    name = record { who = server; mark = tag }

    low : range.at / 4096 ≤ page
    low = grind (arith, nat_tests, touched)

    by : (o : Option (List StrokeValue)) → strokes_at pair.window.pages page ≡ o → IsFront (Some front) o
        → Bear (record { who = server; mark = tag }) (λ a. slice_index row.inn (a - range.at)) (range.at + length row.inn) page front
    by None none begins = absurd begins
    by (Some all) found begins =
        let each : All (λ (s : StrokeValue). s.name.who ≡ server → IsOfRow list rs page s) front =
        all_front (λ (s : StrokeValue). s.name.who ≡ server → IsOfRow list rs page s) front begins.0
        (subst (All (λ (s : StrokeValue). s.name.who ≡ server → IsOfRow list rs page s)) begins.1 (knows.borne page (omega (arith, low, behind)) all found)) in
        record {
          within = within_front front begins.0 (subst AreWithinPage begins.1 (subst IsWithin found (knows.within page)));
          bytes = λ k. All-weaker (λ (s : StrokeValue). s.name.who ≡ server → IsOfRow list rs page s)
              (λ (s : StrokeValue). same_name s.name (record { who = server; mark = tag }) ≡ true → covers k s ≡ true → slice_index s.bytes (k - s.offset) ≡ slice_index row.inn (4096 * page + k - range.at))
              (λ s has same cov. (byte_of server list rs tag range.at len page k row s alone inward has same cov).is) front each;
          inside = λ k. All-weaker (λ (s : StrokeValue). s.name.who ≡ server → IsOfRow list rs page s)
              (λ (s : StrokeValue). same_name s.name (record { who = server; mark = tag }) ≡ true → covers k s ≡ true → 4096 * page + k < range.at + length row.inn)
              (λ s has same cov. (byte_of server list rs tag range.at len page k row s alone inward has same cov).below) front each;
        }
