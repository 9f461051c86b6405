-- What turns leave of the server's disk, one behind the other.
use Rattle.std.proofs.Common.{◌≡◌, ◌∙◌, refl, sym, subst, ℕ, List, [], Option, Some, None, IfSome, IsSome}
use Rattle.std.proofs.Math.Logic.{∥∥₁_map, ∥∥₁_map₂}
use Rattle.vio_num.specs.declared.history.Served.{Served}
use Rattle.block_server.specs.DiskLaw.{KeepsDisk}
use Rattle.vio_trace.specs.declared.rows.Trace.{Trace}
use Rattle.vcpu_run.specs.OnDisk.{IsServed, LastsInRows, LastsOnDisk, LeadsOn}

abbrev pub Blocks : Type 0
Blocks = Option (List (List ℕ))

pub told_same : (now : Blocks) → IfSome now (λ blocks. IsSome now)
told_same None = tt
told_same (Some blocks) = refl

told_then : (a b c : Blocks) → IfSome a (λ blocks. IsSome b) → IfSome b (λ blocks. IsSome c) → IfSome a (λ blocks. IsSome c)
told_then None b c one two = tt
told_then (Some blocks) None c one two = absurd (cc)
told_then (Some blocks) (Some later) c one two = two

pub lasts_same : (rows : List Served) (now : Blocks) → LastsOnDisk rows rows now now
lasts_same rows now = record { serves = ∣ (λ before serve. serve) ∣₁; tells = told_same now }

pub lasts_then : (rows rows' rows'' : List Served) (a b c : Blocks) → LastsOnDisk rows rows' a b → LastsOnDisk rows' rows'' b c → LastsOnDisk rows rows'' a c
lasts_then rows rows' rows'' a b c one two = record {
  serves = ∥∥₁_map₂ one.serves two.serves (λ first next before serve. next before (first before serve));
  tells = told_then a b c one.tells two.tells;
}

-- the rows of a trace lead from the blocks before a run to those that the image then has
pub disk_told : (trace : Option Trace) (rows rows' served : List Served) (a b c : Blocks) → served ≡ rows' → c ≡ b → LastsOnDisk rows rows' a b
    → IfSome trace (λ told. told.serves ≡ served) → IfSome trace (λ told. ∥ KeepsDisk rows told.serves a c ∥₁)
disk_told None rows rows' served a b c same image lasts is = tt
disk_told (Some told) rows rows' served a b c same image lasts is =
    subst (λ (list : List Served). ∥ KeepsDisk rows list a c ∥₁) (sym (is ∙ same)) (subst (λ (now : Blocks). ∥ KeepsDisk rows rows' a now ∥₁) (sym image) lasts.serves)

pub tells_told : (a b c : Blocks) → c ≡ b → IfSome a (λ blocks. IsSome b) → IfSome a (λ blocks. IsSome c)
tells_told a b c same tells = subst (λ (now : Blocks). IfSome a (λ blocks. IsSome now)) (sym same) tells

-- and from the first on
pub served_from : (trace : Option Trace) (before after : Blocks) → IfSome trace (λ told. ∥ KeepsDisk [] told.serves before after ∥₁)
    → IfSome trace (λ told. LeadsOn told.serves before after)
served_from None before after keeps = tt
served_from (Some told) None after keeps = tt
served_from (Some told) (Some first) None keeps = tt
served_from (Some told) (Some first) (Some last) keeps = ∥∥₁_map keeps (λ keep. keep first refl)

-- whatever became of a run, its rows keep the law of the disk
pub lasts_somehow : (rows rows' : List Served) (a b c : Blocks) → c ≡ b → LastsOnDisk rows rows' a b → LastsInRows rows a c
lasts_somehow rows rows' a b c same lasts = subst (λ (now : Blocks). LastsInRows rows a now) (sym same) (∥∥₁_map lasts.serves (λ keep. (rows', keep)))

-- and from the first on
pub served_somehow : (before after : Blocks) → LastsInRows [] before after → IfSome before (λ blocks. IsSome after) → IsServed before after
served_somehow None after lasts tells = tt
served_somehow (Some first) None lasts tells = absurd (cc)
served_somehow (Some first) (Some last) lasts tells = ∥∥₁_map lasts (λ keep. (keep.0, keep.1 first refl))

-- nothing was done
pub served_same : (now : Blocks) → IsServed now now
served_same None = tt
served_same (Some blocks) = ∣ ([], refl) ∣₁
