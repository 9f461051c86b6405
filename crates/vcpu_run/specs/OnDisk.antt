-- What the turns of a run leave of the server's disk.
use Rattle.std.specs.Prelude.{ℕ, List, Option, IfSome, IsSome, IsSomeAnd}
use Rattle.vio_num.specs.declared.history.Served.{Served}
use Rattle.block_server.specs.DiskLaw.{KeepsDisk, Serve}

-- From one of these histories to the other: the rows of the later one lead to the blocks as they now are, where those of the
-- earlier one led to the blocks as they were; and an image that told its blocks still tells them.
pub record LastsOnDisk (rows rows' : List Served) (now now' : Option (List (List ℕ))) : Type 0 where
  pub serves : ∥ KeepsDisk rows rows' now now' ∥₁
  pub tells : IfSome now (λ blocks. IsSome now')

-- rows lead from the blocks of an image to those that it then has, where it tells them
abbrev pub LeadsOn : List Served → (before after : Option (List (List ℕ))) → Type 0
LeadsOn rows before after = IfSome before (λ first. IfSome after (λ last. ∥ Serve first rows last ∥₁))

-- whatever became of a run: some rows behind these keep the law of the disk
abbrev pub LastsInRows : List Served → (now now' : Option (List (List ℕ))) → Type 0
LastsInRows rows now now' = ∥ ((rows' : List Served) × KeepsDisk rows rows' now now') ∥₁

-- an image that told its blocks tells them, and some commands lead to them, one behind the other
abbrev pub IsServed : (before after : Option (List (List ℕ))) → Type 0
IsServed before after = IfSome before (λ first. IsSomeAnd after (λ last. ∥ ((rows : List Served) × Serve first rows last) ∥₁))
