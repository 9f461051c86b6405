use Rattle.std.proofs.Common.{◌≡◌, ◌<◌, ℕ, [], ◌∷◌, ◌++◌, Some, IsSomeAnd, length, refl, sym, ap, subst, arith, length-append}
use Rattle.std.specs.List.{slice_get}
use Rattle.std.proofs.lemmas.Option.{slice_get_read}
use Rattle.vcpu_run.specs.declared.script.Script.{Script}
use Rattle.vcpu_run.specs.Making.{IsMade}
use Rattle.vcpu_run.proofs.Listed.{each_pushed, is_held}
use Rattle.vcpu_run.proofs.making.make_scripts.Goals as goal

pub loop-number-preserved : goal.loop-number-preserved
loop-number-preserved c =
    let partitions = c.args.partitions.now in
    let number = c.loop-number.number in
    let partition = c.index-partitions-number.result in
    let less : number < length partitions = omega arith in
    let found : slice_get partitions number ≡ Some partition = slice_get_read partitions (length partitions) number partition refl less c.index-partitions-number.is in
    let before = c.loop-number.invariant in
    let items = c.loop-number.scripts.items in
    let script = c.in_ok-make_script.field-0 in
    let push : c.push.new.self.items ≡ items ++ script ∷ [] = c.in_ok-push.ensures.items in
    let made : ℕ → Script → Type 0 = λ i script. IsSomeAnd (slice_get partitions i) (λ partition. IsMade partition i script) in
    let here : IsSomeAnd (slice_get partitions number) (λ partition. IsMade partition number script) =
    is_held (λ partition. IsMade partition number script) (slice_get partitions number) partition found c.in_ok-make_script.ensures in
    record {
      so_far = omega (arith, ap length push, length-append items (script ∷ []), before.so_far);
      each_made = λ i other there. each_pushed made items script before.each_made
          (subst (λ n. IsSomeAnd (slice_get partitions n) (λ partition. IsMade partition n script)) (sym before.so_far) here)
          i other (rw push at there);
    }
