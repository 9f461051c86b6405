use Rattle.std.proofs.Common.{◌≡◌, ℕ, List, Bor, arith, ap, length, map}
use Rattle.std.proofs.lemmas.List.{length-map}
use Rattle.boot_text.proofs.FirstLines.{few_lines}
use Rattle.boot_text.proofs.Sounds.{result_sound}
use Rattle.boot_text.proofs.read.read_plan.Goals as goal

-- src/read.rt:31:22
pub read_lines-requires : goal.read_lines-requires
read_lines-requires c =
    let f : Bor (List ℕ) → List ℕ = λ line. line.now in
    let v : length c.as_slice.result.now ≡ length c.in-Ok.lines.items = ap length c.as_slice.ensures.value in
    omega (arith, v, length-map c.in-Ok.lines.items f, ap length c.in-Ok.ensures, few_lines c.args.bytes.now, c.if-bytes-gt-MOST_TEXT.false)

-- src/read.rt:21:1
pub returns-in-Ok-clause-sound : goal.returns-in-Ok-clause-sound
returns-in-Ok-clause-sound c =
    let f : Bor (List ℕ) → List ℕ = λ line. line.now in
    result_sound (map f c.as_slice.result.now) c.read_lines.result c.read_lines.ensures.plan
