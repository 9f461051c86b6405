-- Data that lie in the region lie low.
use Rattle.std.proofs.Common.{◌≡◌, ℕ, ◌+◌, ◌*◌, ◌≤◌, ◌^◌, ◌&&◌, nat_le, Bool, true, false, Option, Some, None, arith, refl}
use Rattle.std.specs.Bool.{⊤}
use Rattle.std.proofs.lemmas.Bool.Decides.{nat_tests}
use Rattle.vscsi_client.specs.declared.op.Dir.{Dir}
use Rattle.vscsi_client.specs.declared.op.Dir.TheVariants.{Neither, In, Out}
use Rattle.vscsi_client.specs.declared.op.Op.{Op}
use Rattle.vscsi_client.specs.Spans.{in_range, by_dir, op_in_range, data_in_range, table_in_range}
use Rattle.vscsi_client.specs.Units.{InDir, InLow, FitsData, FitsNone}

pub both_of : (a b : Bool) → (a && b) ≡ true → (a ≡ true) × (b ≡ true)
both_of true b e = (refl, e)
both_of false b e = absurd (cc)

below : (x y : ℕ) → nat_le x y ≡ true → x ≤ y
below x y e = grind (arith, nat_tests)

pub end_of : (pages at len : ℕ) → in_range pages at len ≡ true → (53248 ≤ at) × (at + len ≤ 4096 * pages)
end_of pages at len e =
    let b : (nat_le 53248 at ≡ true) × (nat_le (at + len) (4096 * pages) ≡ true) = both_of (nat_le 53248 at) (nat_le (at + len) (4096 * pages)) e in
    (below 53248 at b.0, below (at + len) (4096 * pages) b.1)

low_by : (dir : Dir) (pages at len : ℕ) → pages ≤ 256 → by_dir dir true (in_range pages at len) ≡ true
    → InDir dir ⊤ (at + len ≤ 2 ^ 32) (at + len ≤ 2 ^ 32)
low_by Neither pages at len few e = tt
low_by In pages at len few e = let h = end_of pages at len e in omega (arith, h.1, few)
low_by Out pages at len few e = let h = end_of pages at len e in omega (arith, h.1, few)

pub in_low : (pages : ℕ) (op : Op) → pages ≤ 256 → op_in_range pages op ≡ true → InLow op
in_low pages op few e = low_by op.dir pages op.at op.len few (both_of (data_in_range pages op) (table_in_range pages op.table op.pieces) e).0

-- a command with a table has data
tabled_by : (dir : Dir) (table : Option ℕ) (at : ℕ) (P N : Type 0) (Q : Type 0) → table ≡ Some at → (N → table ≡ None) → InDir dir N P P → InDir dir ⊤ Q Q → P × Q
tabled_by Neither table at P N Q some none fits low = let no = none fits in absurd (cc)
tabled_by In table at P N Q some none fits low = (fits, low)
tabled_by Out table at P N Q some none fits low = (fits, low)

pub with_table : (op : Op) (at : ℕ) → op.table ≡ Some at → InDir op.dir (FitsNone op) (FitsData op) (FitsData op) → InLow op → FitsData op × (op.at + op.len ≤ 2 ^ 32)
with_table op at some fits low = tabled_by op.dir op.table at (FitsData op) (FitsNone op) (op.at + op.len ≤ 2 ^ 32) some (λ n. n.table) fits low
