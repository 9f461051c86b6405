-- At first no place is marked; at the end each is that a stroke covers.
use Rattle.std.proofs.Common.{◌≡◌, ◌<◌, ◌∙◌, sym, ap, take, false, arith}
use Rattle.std.specs.List.{list_any}
use Rattle.std.proofs.lemmas.List.{get_or-replicate, take_all}
use Rattle.tce_window.specs.Named.{covers}
use Rattle.tce_window.proofs.named.is_covered.Goals as goal

pub loop-stroke-init : goal.loop-stroke-init
loop-stroke-init c = λ k d less. get_or-replicate 4096 k false d less

pub returns-in-None-clause-covered : goal.returns-in-None-clause-covered
returns-in-None-clause-covered c marked k low high =
    let inside : k < 4096 = omega (arith, high) in
    let all : take c.loop-stroke.stroke-index c.args.run.now ≡ c.args.run.now = take_all c.loop-stroke.stroke-index c.args.run.now (omega arith) in
    ap (list_any (covers k)) (sym all) ∙ sym (c.loop-stroke.invariant k false inside) ∙ c.in-None.ensures.none k low high
