-- Lists of blocks and their bytes: one more block read, one more block written.
use Rattle.std.proofs.Common.{◌≡◌, ℕ, zero, suc, ◌+◌, ◌*◌, ◌<◌, ◌≤◌, List, [], ◌∷◌, ◌++◌, length, take, drop, get_or, set, refl, sym, ap, subst, ◌∙◌, arith, Option, Some, None, IfSome, option_map, append_assoc, append-nil, length-append, length-drop, length-take}
use Rattle.std.proofs.lemmas.List.{drop-drop, drop_at, take_at, length-take-le, drop_more, set_at, take_more, get_or-drop}
use Rattle.std.proofs.lemmas.Option.{slice_get_within, get_or_from_slice_get}
use Rattle.std.proofs.lemmas.Grind.{flat_map-append}
use Rattle.std.proofs.Math.Seq.{take-add}
use Rattle.std.specs.Prelude.{slice_get}
use borrow.Rule.Slice.PartMut.{put_mid, post_of}
use Rattle.vio_io.specs.Image.{ImageState, FailsAfter, risen_by, after_reads, after_writes, with_block}
use Rattle.block_disk.specs.Disk.{bytes_of, block_at, blocks_of, written, after_written}

-- what a part of 512 bytes holds after it was written
pub part_of-put_mid : (a k : ℕ) (xs ys : List ℕ) → a ≤ length xs → length ys ≡ 512 → take 512 (drop a (put_mid a k xs ys)) ≡ ys
part_of-put_mid a k xs ys within whole =
    let behind : drop a (take a xs ++ (ys ++ post_of a k xs)) ≡ ys ++ post_of a k xs = drop_at (take a xs) (ys ++ post_of a k xs) a (length-take-le a xs within) in
    ap (take 512) behind ∙ take_at ys (post_of a k xs) 512 whole

pub length-blocks_of : (n : ℕ) (bytes : List ℕ) → length (blocks_of n bytes) ≡ n
length-blocks_of zero bytes = refl
length-blocks_of (suc n) bytes = ap suc (length-blocks_of n (drop 512 bytes))

pub blocks_of-more : (n : ℕ) (bytes : List ℕ) → blocks_of (suc n) bytes ≡ blocks_of n bytes ++ take 512 (drop (512 * n) bytes) ∷ []
blocks_of-more zero bytes = refl
blocks_of-more (suc n) bytes =
    let counted : 512 + 512 * n ≡ 512 * suc n = omega arith in
    let place : drop (512 * n) (drop 512 bytes) ≡ drop (512 * suc n) bytes = drop-drop (512 * n) 512 bytes ∙ ap (λ at. drop at bytes) counted in
    ap (λ rest. take 512 bytes ∷ rest) (blocks_of-more n (drop 512 bytes) ∙ ap (λ block. blocks_of n (drop 512 bytes) ++ take 512 block ∷ []) place)

-- one more block of data-out stands in the image
pub written-more : (lba n next : ℕ) (bytes : List ℕ) (all : List (List ℕ)) → lba + n < length all → next ≡ n + 1
    → set (written lba n bytes all) (lba + n) (take 512 (drop (512 * n) bytes)) ≡ written lba next bytes all
written-more lba n next bytes all inside more =
    let front = take lba all ++ blocks_of n bytes in
    let block = take 512 (drop (512 * n) bytes) in
    let place : lba + n + 1 ≡ lba + suc n = omega arith in
    let counted : suc n ≡ next = omega arith in
    let long : length front ≡ lba + n = omega (arith, length-append (take lba all) (blocks_of n bytes), length-take lba all, length-blocks_of n bytes) in
    let cut : front ++ drop (lba + n) all ≡ front ++ get_or all (lba + n) [] ∷ drop (lba + n + 1) all = ap (λ rest. front ++ rest) (drop_more all (lba + n) [] inside) in
    let put : set (front ++ drop (lba + n) all) (lba + n) block ≡ front ++ block ∷ drop (lba + n + 1) all =
    ap (λ blocks. set blocks (lba + n) block) cut ∙ set_at front (get_or all (lba + n) []) (drop (lba + n + 1) all) block (lba + n) long in
    let joined : front ++ block ∷ drop (lba + n + 1) all ≡ take lba all ++ blocks_of (suc n) bytes ++ drop (lba + suc n) all =
    sym (append_assoc front (block ∷ []) (drop (lba + n + 1) all))
    ∙ ap (λ blocks. blocks ++ drop (lba + n + 1) all) (append_assoc (take lba all) (blocks_of n bytes) (block ∷ []) ∙ ap (λ blocks. take lba all ++ blocks) (sym (blocks_of-more n bytes)))
    ∙ ap (λ at. take lba all ++ blocks_of (suc n) bytes ++ drop at all) place in
    put ∙ joined ∙ ap (λ count. written lba count bytes all) counted

-- the same where the image tells its blocks or does not
pub image-more : (old mid new : Option (List (List ℕ))) (lba n next : ℕ) (bytes : List ℕ) → IfSome old (λ all. lba + n < length all) → next ≡ n + 1
    → mid ≡ option_map (λ all. written lba n bytes all) old → new ≡ option_map (λ all. set all (lba + n) (take 512 (drop (512 * n) bytes))) mid
    → new ≡ option_map (λ all. written lba next bytes all) old
image-more None mid new lba n next bytes inside more before step = step ∙ ap (option_map (λ all. set all (lba + n) (take 512 (drop (512 * n) bytes)))) before
image-more (Some all) mid new lba n next bytes inside more before step =
    step ∙ ap (option_map (λ blocks. set blocks (lba + n) (take 512 (drop (512 * n) bytes)))) before ∙ ap (λ blocks. Some blocks) (written-more lba n next bytes all inside more)

-- one more block of the image stands in the data-in
given_one : (lba n next : ℕ) (old new : List ℕ) (all : List (List ℕ)) → next ≡ n + 1 → take (512 * n) old ≡ bytes_of (take n (drop lba all)) → take (512 * n) new ≡ take (512 * n) old
    → slice_get all (lba + n) ≡ Some (take 512 (drop (512 * n) new)) → take (512 * next) new ≡ bytes_of (take next (drop lba all))
given_one lba n next old new all more before front read =
    let block = take 512 (drop (512 * n) new) in
    let rest = drop lba all in
    let inside : lba + n < length all = slice_get_within all (lba + n) block read in
    let last : take (n + 1) rest ≡ take n rest ++ block ∷ [] =
    take_more rest n [] (omega (arith, length-drop lba all)) ∙ ap (λ found. take n rest ++ found ∷ []) (get_or-drop lba all n [] ∙ get_or_from_slice_get all (lba + n) block [] read) in
    let bytes : bytes_of (take n rest ++ block ∷ []) ≡ bytes_of (take n rest) ++ block =
    flat_map-append (λ one. one) (take n rest) (block ∷ []) ∙ ap (λ tail. bytes_of (take n rest) ++ tail) (append-nil block) in
    let counted : 512 * next ≡ 512 * n + 512 = omega arith in
    let parts : take (512 * next) new ≡ take (512 * n) new ++ block = ap (λ count. take count new) counted ∙ take-add (512 * n) 512 new in
    parts ∙ ap (λ head. head ++ block) (front ∙ before) ∙ sym bytes ∙ ap bytes_of (sym last) ∙ ap (λ count. bytes_of (take count rest)) (sym more)

-- the same where the image tells its blocks or does not
pub given-more : (blocks : Option (List (List ℕ))) (lba n next : ℕ) (old new : List ℕ) → next ≡ n + 1
    → IfSome blocks (λ all. take (512 * n) old ≡ bytes_of (take n (drop lba all))) → take (512 * n) new ≡ take (512 * n) old
    → IfSome blocks (λ all. slice_get all (lba + n) ≡ Some (take 512 (drop (512 * n) new)))
    → IfSome blocks (λ all. take (512 * next) new ≡ bytes_of (take next (drop lba all)))
given-more None lba n next old new more before front read = tt
given-more (Some all) lba n next old new more before front read = given_one lba n next old new all more before front read

-- a block below the image's size is one of those that it tells
pub inside_told : (blocks : Option (List (List ℕ))) (size at : ℕ) → IfSome blocks (λ all. length all ≡ size) → at < size → IfSome blocks (λ all. at < length all)
inside_told None size at told inside = tt
inside_told (Some all) size at told inside = omega arith

-- one more call was counted
risen-more : (n count : ℕ) → risen_by 1 (risen_by n count) ≡ risen_by (n + 1) count
risen-more n count = omega arith

-- one more read was made
pub reads-more : (old mid new : ImageState) (n : ℕ) → mid ≡ after_reads n old → new ≡ after_reads 1 mid → new ≡ after_reads (n + 1) old
reads-more old mid new n before step = step ∙ ap (after_reads 1) before ∙ ap (λ count. record old { calls = record old.calls { reads = count } }) (risen-more n old.calls.reads)

-- one more write was asked for
writes-more : (n m : ℕ) (lba : ℕ) (bytes : List ℕ) (old : ImageState) → after_writes 1 (after_written lba n m bytes old) ≡ after_written lba n (m + 1) bytes old
writes-more n m lba bytes old =
    ap (λ count. record old { blocks = option_map (λ all. written lba n bytes all) old.blocks; calls = record old.calls { writes = count } }) (risen-more m old.calls.writes)

-- one more block was written
pub image_written-more : (old mid new : ImageState) (lba n : ℕ) (bytes : List ℕ) → IfSome old.blocks (λ all. lba + n < length all)
    → mid ≡ after_written lba n n bytes old → new ≡ with_block (lba + n) (block_at n bytes) (after_writes 1 mid) → new ≡ after_written lba (n + 1) (n + 1) bytes old
image_written-more old mid new lba n bytes inside before step =
    step
    ∙ ap (λ image. with_block (lba + n) (block_at n bytes) (after_writes 1 image)) before
    ∙ ap (with_block (lba + n) (block_at n bytes)) (writes-more n n lba bytes old)
    ∙ ap (λ blocks. record (after_writes (n + 1) old) { blocks = blocks }) (image-more old.blocks _ _ lba n (n + 1) bytes inside refl refl refl)

-- a read failed behind n that did not
pub read-fails : (old mid new : ImageState) (n : ℕ) → mid ≡ after_reads n old → FailsAfter (after_reads 1 mid) new → FailsAfter (after_reads (n + 1) old) new
read-fails old mid new n before fails = subst (λ (made : ImageState). FailsAfter made new) (reads-more old mid (after_reads 1 mid) n before refl) fails

-- a write failed behind n that did not
pub write-fails : (old mid new : ImageState) (lba n : ℕ) (bytes : List ℕ) → mid ≡ after_written lba n n bytes old → FailsAfter (after_writes 1 mid) new
    → FailsAfter (after_written lba n (n + 1) bytes old) new
write-fails old mid new lba n bytes before fails = subst (λ (made : ImageState). FailsAfter made new) (ap (after_writes 1) before ∙ writes-more n n lba bytes old) fails
