-- Laws of the disk step and of steps in their order, for those who stand above this crate.
use Rattle.std.proofs.Common.{◌≡◌, ℕ, zero, suc, ◌+◌, ◌-◌, ◌*◌, ◌<◌, ◌≤◌, Bool, true, false, nat_lt, List, [], ◌∷◌, ◌++◌, if◌then◌else◌, Option, None, Some, IfSome, length, take, drop, get_or, refl, sym, ap, ◌∙◌, subst, arith, append_assoc, length-append, length-drop, length-take}
use Rattle.std.specs.Prelude.{unwrap_or, slice_get}
use Rattle.std.proofs.Common.{◌⊎◌, inl, inr}
use Rattle.std.proofs.lemmas.Bool.{ltb-false, ltb-true}
use Rattle.std.proofs.lemmas.Option.{slice_get-get_or, slice_get_past}
use Rattle.std.proofs.lemmas.List.{drop_at, take_at, take_all, length-take-le, get_or-take, get_or-drop, get_or-append_right, get_or_append_left}
use Rattle.std.proofs.lemmas.List.Elements.{All-append}
use Rattle.std.proofs.Math.Seq.{take-add}
use Rattle.vio_io.specs.Image.{AreWhole}
use Rattle.block_disk.specs.Cdb.{command_of, refusal}
use Rattle.block_disk.specs.Disk.{calls_unless, answer, refused, read_reply, write_reply, data_of, written, blocks_of, bytes_of, image_after}
use Rattle.block_disk.specs.Sense.{out_of_range, invalid_field}
use Rattle.block_disk.specs.Steps.{DiskStep, IsStep, Applied}
use Rattle.block_disk.specs.declared.command.DiskOp.{DiskOp}
use Rattle.block_disk.specs.declared.command.DiskOp.TheVariants.{Ready, Inquiry, Capacity10, Capacity16, Luns, Read, Write, Sync}
use Rattle.block_disk.proofs.Blocks.{length-blocks_of}

-- steps behind steps: the blocks between are those that the first steps make
pub applied-append : (before between after : List (List ℕ)) (first second : List DiskStep) → Applied before first between → Applied between second after
    → Applied before (first ++ second) after
applied-append before between after [] second begun rest = subst (λ (blocks : List (List ℕ)). Applied blocks second after) begun rest
applied-append before between after (s ∷ first) second begun rest = (begun.0, begun.1, applied-append begun.0 between after first second begun.2 rest)

-- and back: steps that stand behind steps begin where those ended
pub applied-split : (before after : List (List ℕ)) (first second : List DiskStep) → Applied before (first ++ second) after
    → (between : List (List ℕ)) × Applied before first between × Applied between second after
applied-split before after [] second all = (before, refl, all)
applied-split before after (s ∷ first) second all = let parts = applied-split all.0 after first second all.2 in (parts.0, (all.0, all.1, parts.1), parts.2)

-- ---- what a write makes of the blocks, in the words of a property that an image keeps

-- a failed call is one of those that are made, so that no more blocks are written than were asked for
at_most : (fault : Option ℕ) (n calls : ℕ) → calls ≤ n → IfSome fault (λ call. call < calls) → unwrap_or fault n ≤ n
at_most None n calls few index = omega arith
at_most (Some call) n calls few index = omega arith

-- a write leaves the image, or it is inside it with all its data-out there
abbrev Kept : (Q : List (List ℕ) → Type 0) → ℕ → ℕ → List ℕ → List (List ℕ) → Type 0
Kept Q lba n bytes blocks = Q blocks × ((m : ℕ) → m ≤ n → lba + n ≤ length blocks → 512 * n ≤ length bytes → Q (written lba m bytes blocks))

write_keeps : (Q : List (List ℕ) → Type 0) (past short : Bool) (lba n : ℕ) (bytes : List ℕ) (fault : Option ℕ) (blocks : List (List ℕ))
    → (past ≡ false → lba + n ≤ length blocks) → (short ≡ false → 512 * n ≤ length bytes) → Kept Q lba n bytes blocks
    → IfSome fault (λ call. call < (if past then 0 else if short then 0 else n))
    → Q (if past then blocks else if short then blocks else written lba (unwrap_or fault n) bytes blocks)
write_keeps Q true short lba n bytes fault blocks inside sent kept index = kept.0
write_keeps Q false true lba n bytes fault blocks inside sent kept index = kept.0
write_keeps Q false false lba n bytes fault blocks inside sent kept index =
    kept.1 (unwrap_or fault n) (at_most fault n n (omega arith) index) (inside refl) (sent refl)

-- what is kept by each write inside the image is kept by each command
command_keeps : (Q : List (List ℕ) → Type 0) (why : Option (List ℕ)) (op : Option DiskOp) (bytes : List ℕ) (fault : Option ℕ) (blocks : List (List ℕ))
    → Q blocks → ((lba n : ℕ) → op ≡ Some (Write lba n) → Kept Q lba n bytes blocks)
    → IfSome fault (λ call. call < calls_unless why op (length blocks) (length bytes)) → Q (image_after why op blocks bytes fault)
command_keeps Q (Some cause) op bytes fault blocks same kept index = same
command_keeps Q None None bytes fault blocks same kept index = same
command_keeps Q None (Some (Write lba n)) bytes fault blocks same kept index =
    write_keeps Q (nat_lt (length blocks) (lba + n)) (nat_lt (length bytes) (512 * n)) lba n bytes fault blocks
    (ltb-false (length blocks) (lba + n)) (ltb-false (length bytes) (512 * n)) (kept lba n refl) index
command_keeps Q None (Some Ready) bytes fault blocks same kept index = same
command_keeps Q None (Some (Inquiry max)) bytes fault blocks same kept index = same
command_keeps Q None (Some Capacity10) bytes fault blocks same kept index = same
command_keeps Q None (Some (Capacity16 max)) bytes fault blocks same kept index = same
command_keeps Q None (Some (Luns max)) bytes fault blocks same kept index = same
command_keeps Q None (Some (Read lba n)) bytes fault blocks same kept index = same
command_keeps Q None (Some (Sync lba n)) bytes fault blocks same kept index = same

step_keeps : (Q : List (List ℕ) → Type 0) (before after : List (List ℕ)) (s : DiskStep) → IsStep before s after → Q before
    → ((lba n : ℕ) → command_of s.cdb ≡ Some (Write lba n) → Kept Q lba n s.data_out before) → Q after
step_keeps Q before after s made same kept =
    subst Q (sym made.blocks) (command_keeps Q (refusal s.lun s.cdb) (command_of s.cdb) s.data_out s.reply.fault before same kept made.index)

-- ---- the number of blocks is kept

length-written : (lba m : ℕ) (bytes : List ℕ) (blocks : List (List ℕ)) → lba + m ≤ length blocks → length (written lba m bytes blocks) ≡ length blocks
length-written lba m bytes blocks inside =
    omega (
      arith,
      length-append (take lba blocks ++ blocks_of m bytes) (drop (lba + m) blocks),
      length-append (take lba blocks) (blocks_of m bytes),
      length-take lba blocks,
      length-drop (lba + m) blocks,
      length-blocks_of m bytes,
    )

-- a step keeps the number of blocks
pub step-size : (before after : List (List ℕ)) (s : DiskStep) → IsStep before s after → length after ≡ length before
step-size before after s made =
    step_keeps (λ blocks. length blocks ≡ length before) before after s made refl
    (λ lba n is. (refl, λ m few inside sent. length-written lba m s.data_out before (omega arith)))

-- and so do steps in their order
pub applied-size : (before after : List (List ℕ)) (steps : List DiskStep) → Applied before steps after → length after ≡ length before
applied-size before after [] made = ap length made
applied-size before after (s ∷ steps) made = applied-size made.0 after steps made.2 ∙ step-size before made.0 s made.1

-- ---- each block keeps its 512 bytes

whole-one : (block : List ℕ) → length block ≡ 512 → AreWhole (block ∷ [])
whole-one block whole zero d inside = whole
whole-one block whole (suc k) d inside = absurd (omega (arith, inside))

whole-blocks_of : (m : ℕ) (bytes : List ℕ) → 512 * m ≤ length bytes → AreWhole (blocks_of m bytes)
whole-blocks_of zero bytes sent = λ k d inside. absurd (omega (arith, inside))
whole-blocks_of (suc m) bytes sent =
    let rest : AreWhole (blocks_of m (drop 512 bytes)) = whole-blocks_of m (drop 512 bytes) (omega (arith, length-drop 512 bytes)) in
    let first : length (take 512 bytes) ≡ 512 = length-take-le 512 bytes (omega arith) in
    All-append (λ block. length block ≡ 512) (take 512 bytes ∷ []) (blocks_of m (drop 512 bytes)) (whole-one (take 512 bytes) first) rest

whole-take : (n : ℕ) (blocks : List (List ℕ)) → AreWhole blocks → AreWhole (take n blocks)
whole-take n blocks whole k d inside =
    subst (λ (block : List ℕ). length block ≡ 512) (sym (get_or-take n blocks k d (omega (arith, length-take n blocks)))) (whole k d (omega (arith, length-take n blocks)))

whole-drop : (n : ℕ) (blocks : List (List ℕ)) → AreWhole blocks → AreWhole (drop n blocks)
whole-drop n blocks whole k d inside =
    subst (λ (block : List ℕ). length block ≡ 512) (sym (get_or-drop n blocks k d)) (whole (n + k) d (omega (arith, length-drop n blocks)))

whole-written : (lba m : ℕ) (bytes : List ℕ) (blocks : List (List ℕ)) → 512 * m ≤ length bytes → AreWhole blocks → AreWhole (written lba m bytes blocks)
whole-written lba m bytes blocks sent whole =
    let Is512 : List ℕ → Type 0 = λ block. length block ≡ 512 in
    All-append Is512 (take lba blocks ++ blocks_of m bytes) (drop (lba + m) blocks)
    (All-append Is512 (take lba blocks) (blocks_of m bytes) (whole-take lba blocks whole) (whole-blocks_of m bytes sent)) (whole-drop (lba + m) blocks whole)

-- a step keeps blocks of 512 bytes
pub step-whole : (before after : List (List ℕ)) (s : DiskStep) → IsStep before s after → AreWhole before → AreWhole after
step-whole before after s made whole =
    step_keeps AreWhole before after s made whole (λ lba n is. (whole, λ m few inside sent. whole-written lba m s.data_out before (omega arith) whole))

-- and so do steps in their order
pub applied-whole : (before after : List (List ℕ)) (steps : List DiskStep) → Applied before steps after → AreWhole before → AreWhole after
applied-whole before after [] made whole = subst AreWhole (sym made) whole
applied-whole before after (s ∷ steps) made whole = applied-whole made.0 after steps made.2 (step-whole before made.0 s made.1 whole)

-- ---- no other block changes

slice_get-by : (inside : Bool) (xs ys : List (List ℕ)) (k : ℕ) → nat_lt k (length xs) ≡ inside → length xs ≡ length ys → get_or xs k [] ≡ get_or ys k [] → slice_get xs k ≡ slice_get ys k
slice_get-by true xs ys k is long same =
    slice_get-get_or xs k [] (ltb-true k (length xs) is) ∙ ap (λ block. Some block) same ∙ sym (slice_get-get_or ys k [] (subst (λ n. k < n) long (ltb-true k (length xs) is)))
slice_get-by false xs ys k is long same =
    slice_get_past xs k (ltb-false k (length xs) is) ∙ sym (slice_get_past ys k (subst (λ n. n ≤ k) long (ltb-false k (length xs) is)))

slice_get-same : (xs ys : List (List ℕ)) (k : ℕ) → length xs ≡ length ys → get_or xs k [] ≡ get_or ys k [] → slice_get xs k ≡ slice_get ys k
slice_get-same xs ys k long same = slice_get-by (nat_lt k (length xs)) xs ys k refl long same

before-written : (lba m k : ℕ) (bytes : List ℕ) (blocks : List (List ℕ)) → lba + m ≤ length blocks → k < lba → slice_get (written lba m bytes blocks) k ≡ slice_get blocks k
before-written lba m k bytes blocks inside below =
    let front : k < length (take lba blocks) = omega (arith, length-take lba blocks) in
    let behind : k < length (take lba blocks ++ blocks_of m bytes) = omega (arith, length-append (take lba blocks) (blocks_of m bytes)) in
    slice_get-same (written lba m bytes blocks) blocks k (length-written lba m bytes blocks inside)
    (get_or_append_left (take lba blocks ++ blocks_of m bytes) (drop (lba + m) blocks) [] k behind
    ∙ get_or_append_left (take lba blocks) (blocks_of m bytes) [] k front ∙ get_or-take lba blocks k [] below)

behind-written : (lba m k : ℕ) (bytes : List ℕ) (blocks : List (List ℕ)) → lba + m ≤ length blocks → lba + m ≤ k → slice_get (written lba m bytes blocks) k ≡ slice_get blocks k
behind-written lba m k bytes blocks inside above =
    let long : length (take lba blocks ++ blocks_of m bytes) ≡ lba + m =
    omega (arith, length-append (take lba blocks) (blocks_of m bytes), length-take lba blocks, length-blocks_of m bytes) in
    let place : lba + m + (k - (lba + m)) ≡ k = omega arith in
    slice_get-same (written lba m bytes blocks) blocks k (length-written lba m bytes blocks inside)
    (get_or-append_right (take lba blocks ++ blocks_of m bytes) (drop (lba + m) blocks) (lba + m) k [] long above
    ∙ get_or-drop (lba + m) blocks (k - (lba + m)) [] ∙ ap (λ at. get_or blocks at []) place)

other-written : (lba m n k : ℕ) (bytes : List ℕ) (blocks : List (List ℕ)) → m ≤ n → lba + n ≤ length blocks → (k < lba) ⊎ (lba + n ≤ k)
    → slice_get (written lba m bytes blocks) k ≡ slice_get blocks k
other-written lba m n k bytes blocks few inside (inl below) = before-written lba m k bytes blocks (omega arith) below
other-written lba m n k bytes blocks few inside (inr above) = behind-written lba m k bytes blocks (omega arith) (omega arith)

-- a block that no write of the step names is as it was
pub step-others : (before after : List (List ℕ)) (s : DiskStep) (k : ℕ) → IsStep before s after
    → ((lba n : ℕ) → command_of s.cdb ≡ Some (Write lba n) → (k < lba) ⊎ (lba + n ≤ k)) → slice_get after k ≡ slice_get before k
step-others before after s k made other =
    step_keeps (λ blocks. slice_get blocks k ≡ slice_get before k) before after s made refl
    (λ lba n is. (refl, λ m few inside sent. other-written lba m n k s.data_out before few inside (other lba n is)))

-- ---- what is written is read

bytes-blocks_of : (n : ℕ) (bytes : List ℕ) → bytes_of (blocks_of n bytes) ≡ take (512 * n) bytes
bytes-blocks_of zero bytes = refl
bytes-blocks_of (suc n) bytes =
    let counted : 512 + 512 * n ≡ 512 * suc n = omega arith in
    ap (λ rest. take 512 bytes ++ rest) (bytes-blocks_of n (drop 512 bytes)) ∙ sym (take-add 512 (512 * n) bytes) ∙ ap (λ count. take count bytes) counted

-- the blocks that were written, read from the image
read_of-written : (lba n : ℕ) (bytes : List ℕ) (blocks : List (List ℕ)) → lba ≤ length blocks → bytes_of (take n (drop lba (written lba n bytes blocks))) ≡ take (512 * n) bytes
read_of-written lba n bytes blocks inside =
    let rest = drop (lba + n) blocks in
    let behind : drop lba (written lba n bytes blocks) ≡ blocks_of n bytes ++ rest =
    ap (drop lba) (append_assoc (take lba blocks) (blocks_of n bytes) rest) ∙ drop_at (take lba blocks) (blocks_of n bytes ++ rest) lba (length-take-le lba blocks inside) in
    ap (λ all. bytes_of (take n all)) behind ∙ ap bytes_of (take_at (blocks_of n bytes) rest n (length-blocks_of n bytes)) ∙ bytes-blocks_of n bytes

-- why a write is GOOD: it is not refused, it lies inside the image, its data-out is there, and no call of it failed
record IsGoodWrite (why : Option (List ℕ)) (past short : Bool) (fault : Option ℕ) : Type 0 where
  asked : why ≡ None
  inside : past ≡ false
  sent : short ≡ false
  whole : fault ≡ None

good_write-on : (past short : Bool) (n missing : ℕ) (fault : Option ℕ)
    → (if past then refused out_of_range 0 else if short then refused invalid_field missing else write_reply n fault).status ≡ 0 → IsGoodWrite None past short fault
good_write-on true short n missing fault good = absurd (omega (arith, good))
good_write-on false true n missing fault good = absurd (omega (arith, good))
good_write-on false false n missing (Some call) good = absurd (omega (arith, good))
good_write-on false false n missing None good = record { asked = refl; inside = refl; sent = refl; whole = refl }

good_write : (why : Option (List ℕ)) (lba n count sent : ℕ) (fault : Option ℕ) → (answer why (Some (Write lba n)) count sent fault).status ≡ 0
    → IsGoodWrite why (nat_lt count (lba + n)) (nat_lt sent (512 * n)) fault
good_write (Some cause) lba n count sent fault good = absurd (omega (arith, good))
good_write None lba n count sent fault good = good_write-on (nat_lt count (lba + n)) (nat_lt sent (512 * n)) n (512 * n - sent) fault good

-- a GOOD read gives its blocks whole
good_read-on : (past : Bool) (n : ℕ) (fault : Option ℕ) → (if past then refused out_of_range 0 else read_reply n fault).status ≡ 0
    → (if past then refused out_of_range 0 else read_reply n fault).in_len ≡ 512 * n
good_read-on true n fault good = absurd (omega (arith, good))
good_read-on false n (Some call) good = absurd (omega (arith, good))
good_read-on false n None good = refl

good_read : (why : Option (List ℕ)) (lba n count sent : ℕ) (fault : Option ℕ) → (answer why (Some (Read lba n)) count sent fault).status ≡ 0
    → (answer why (Some (Read lba n)) count sent fault).in_len ≡ 512 * n
good_read (Some cause) lba n count sent fault good = absurd (omega (arith, good))
good_read None lba n count sent fault good = good_read-on (nat_lt count (lba + n)) n fault good

good_image : (why : Option (List ℕ)) (lba n : ℕ) (bytes : List ℕ) (fault : Option ℕ) (blocks : List (List ℕ))
    → IsGoodWrite why (nat_lt (length blocks) (lba + n)) (nat_lt (length bytes) (512 * n)) fault
    → image_after why (Some (Write lba n)) blocks bytes fault ≡ written lba n bytes blocks
good_image why lba n bytes fault blocks good =
    ap (λ cause. image_after cause (Some (Write lba n)) blocks bytes fault) good.asked
    ∙ ap (λ call. image_after None (Some (Write lba n)) blocks bytes call) good.whole
    ∙ ap (λ past. if past then blocks else if nat_lt (length bytes) (512 * n) then blocks else written lba n bytes blocks) good.inside
    ∙ ap (λ short. if short then blocks else written lba n bytes blocks) good.sent

-- a read of blocks that the step before it wrote gives the bytes that were written
pub written-read : (before between after : List (List ℕ)) (w r : DiskStep) (lba n : ℕ) → IsStep before w between → IsStep between r after
    → command_of w.cdb ≡ Some (Write lba n) → command_of r.cdb ≡ Some (Read lba n) → w.reply.status ≡ 0 → r.reply.status ≡ 0
    → r.given ≡ take (512 * n) w.data_out
written-read before between after w r lba n wrote read is_write is_read good_w good_r =
    let wrote_well = good_write (refusal w.lun w.cdb) lba n (length before) (length w.data_out) w.reply.fault
    (subst (λ (op : Option DiskOp). (answer (refusal w.lun w.cdb) op (length before) (length w.data_out) w.reply.fault).status ≡ 0) is_write
    (sym (ap (λ reply. reply.status) wrote.reply) ∙ good_w)) in
    let inside : lba ≤ length before = omega (arith, ltb-false (length before) (lba + n) wrote_well.inside) in
    let held : between ≡ written lba n w.data_out before =
    wrote.blocks ∙ ap (λ op. image_after (refusal w.lun w.cdb) op before w.data_out w.reply.fault) is_write
    ∙ good_image (refusal w.lun w.cdb) lba n w.data_out w.reply.fault before wrote_well in
    let Given : Option DiskOp → List ℕ = λ op. take (answer (refusal r.lun r.cdb) op (length between) (length r.data_out) r.reply.fault).in_len (data_of between r.lun op) in
    let long = good_read (refusal r.lun r.cdb) lba n (length between) (length r.data_out) r.reply.fault
    (subst (λ (op : Option DiskOp). (answer (refusal r.lun r.cdb) op (length between) (length r.data_out) r.reply.fault).status ≡ 0) is_read
    (sym (ap (λ reply. reply.status) read.reply) ∙ good_r)) in
    read.given ∙ ap Given is_read
    ∙ ap (λ count. take count (bytes_of (take n (drop lba between)))) long
    ∙ ap (λ blocks. take (512 * n) (bytes_of (take n (drop lba blocks)))) held
    ∙ ap (take (512 * n)) (read_of-written lba n w.data_out before inside)
    ∙ take_all (512 * n) (take (512 * n) w.data_out) (omega (arith, length-take (512 * n) w.data_out))
