-- The disk law, as rows come, get their answers, and lose data-in that were not copied.
use Rattle.std.proofs.Common.{◌≡◌, inl, inr, ℕ, ◌+◌, ◌*◌, ◌≤◌, nat_lt, Bool, true, false, if◌then◌else◌, List, [], ◌∷◌, ◌++◌, Option, Some, None, length, take, drop, refl, ◌∙◌, ap, subst, arith, append-nil}
use Rattle.std.proofs.lemmas.Bool.{ltb-false}
use Rattle.std.proofs.lemmas.List.{take-append-drop}
use Rattle.vio_num.specs.declared.history.Served.{Served}
use Rattle.block_disk.specs.Cdb.{command_of, refusal}
use Rattle.block_disk.specs.Disk.{image_after, written}
use Rattle.block_disk.specs.declared.command.DiskOp.{DiskOp}
use Rattle.block_disk.specs.declared.command.DiskOp.TheVariants.{Ready, Inquiry, Capacity10, Capacity16, Luns, Read, Write, Sync}
use Rattle.block_disk.proofs.Laws.{step-size}
use Rattle.block_server.specs.Causes.{Told}
use Rattle.block_server.specs.DiskLaw.{ServeBy, ServesRowBy, step_of}

abbrev Blocks : Type 0
Blocks = List (List ℕ)

-- ---- rows in their order

pub row_size : (told : Told → Bool) (b : Blocks) (row : Served) (a : Blocks) → ServesRowBy told b row a → length a ≡ length b
row_size told b row a (inl is) = step-size b a (step_of is.command row is.reply is.given) is.step
row_size told b row a (inr (inl is)) = ap length is.none.same
row_size told b row a (inr (inr (inl is))) = ap length is.none.same
row_size told b row a (inr (inr (inr is))) = ap length is.none.same

pub serve_size : (told : Told → Bool) (b : Blocks) (rows : List Served) (a : Blocks) → ServeBy told b rows a → length a ≡ length b
serve_size told b [] a is = ap length is
serve_size told b (row ∷ rows) a is = serve_size told is.0 rows a is.2 ∙ row_size told b row is.0 is.1

pub serve_on : (told : Told → Bool) (b m a : Blocks) (first next : List Served) → ServeBy told b first m → ServeBy told m next a → ServeBy told b (first ++ next) a
serve_on told b m a [] next is more = subst (λ (x : Blocks). ServeBy told x next a) is more
serve_on told b m a (row ∷ rows) next is more = (is.0, is.1, serve_on told is.0 m a rows next is.2 more)

pub serve_split : (told : Told → Bool) (b a : Blocks) (first next : List Served) → ServeBy told b (first ++ next) a → (m : Blocks) × ServeBy told b first m × ServeBy told m next a
serve_split told b a [] next is = (b, refl, is)
serve_split told b a (row ∷ rows) next is = let parts = serve_split told is.0 a rows next is.2 in (parts.0, (is.0, is.1, parts.1), parts.2)

-- a row more
pub serve_push : (told : Told → Bool) (b m a : Blocks) (rows : List Served) (row : Served) → ServeBy told b rows m → ServesRowBy told m row a → ServeBy told b (rows ++ row ∷ []) a
serve_push told b m a rows row is served = serve_on told b m a rows (row ∷ []) is (a, served, refl)

-- another row in the place of one
pub serve_changed : (told : Told → Bool) (b a : Blocks) (before behind : List Served) (row new : Served) → ((m m' : Blocks) → length m ≡ length b → ServesRowBy told m row m' → ServesRowBy told m new m')
    → ServeBy told b (before ++ row ∷ behind) a → ServeBy told b (before ++ new ∷ behind) a
serve_changed told b a before behind row new changed is =
    let parts = serve_split told b a before (row ∷ behind) is in
    let rest = parts.2 in
    serve_on told b parts.0 a before (new ∷ behind) parts.1 (rest.0, changed parts.0 rest.0 (serve_size told b before parts.0 parts.1) rest.1, rest.2)

-- ---- a command without data-out

nothing_written : (past short : Bool) (lba n : ℕ) (b : Blocks) → (short ≡ false → 512 * n ≤ 0)
    → (if past then b else if short then b else written lba n [] b) ≡ b
nothing_written true short lba n b none = refl
nothing_written false true lba n b none = refl
nothing_written false false lba n b none =
    let zero_is : n ≡ 0 = omega (arith, none refl) in
    ap (λ (k : ℕ). written lba k [] b) zero_is
    ∙ (λ i. append-nil (take lba b) i ++ drop (lba_is i) b) ∙ take-append-drop lba b
  where
    lba_is : lba + 0 ≡ lba
    lba_is = omega arith

pub none_written : (why : Option (List ℕ)) (op : Option DiskOp) (b : Blocks) → image_after why op b [] None ≡ b
none_written (Some cause) op b = refl
none_written None None b = refl
none_written None (Some (Write lba n)) b =
    nothing_written (nat_lt (length b) (lba + n)) (nat_lt 0 (512 * n)) lba n b (ltb-false 0 (512 * n))
none_written None (Some Ready) b = refl
none_written None (Some (Inquiry max)) b = refl
none_written None (Some Capacity10) b = refl
none_written None (Some (Capacity16 max)) b = refl
none_written None (Some (Luns max)) b = refl
none_written None (Some (Read lba n)) b = refl
none_written None (Some (Sync lba n)) b = refl

-- a row without data-out and fault leaves the blocks
pub row_still : (told : Told → Bool) (b : Blocks) (row : Served) (a : Blocks) → row.out ≡ [] → row.fault ≡ None → ServesRowBy told b row a → a ≡ b
row_still told b row a out fault (inl is) =
    is.step.blocks ∙ (λ i. image_after (refusal is.command.lun is.command.cdb) (command_of is.command.cdb) b (out i) ((is.fault ∙ fault) i))
    ∙ none_written (refusal is.command.lun is.command.cdb) (command_of is.command.cdb) b
row_still told b row a out fault (inr (inl is)) = is.none.same
row_still told b row a out fault (inr (inr (inl is))) = is.none.same
row_still told b row a out fault (inr (inr (inr is))) = is.none.same
