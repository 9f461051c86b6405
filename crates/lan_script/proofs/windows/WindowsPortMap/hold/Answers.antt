use Rattle.std.proofs.Common.{Option, IfOk, IfErr, OnErr, Result, Ok, Err, false, IsSomeAnd, sym, subst}
use Rattle.tce_window.specs.Lent.{IsLentBy}
use Rattle.tce_window.specs.Pieces.{IsRefused}
use Rattle.tce_window.specs.Port.{CountsHold}
use Rattle.tce_window.specs.PortState.{Holds, HoldsNone, OnlyHolds}
use Rattle.tce_window.specs.Window.{WindowValue}
use Rattle.lan_script.specs.Windows.{FitsIn}
use Rattle.lan_script.proofs.Mapped.{keeps_others, told, window_after}
use Rattle.lan_script.proofs.windows.WindowsPortMap.hold.Goals as goal

ok_weaker : {X E : Type 0} (r : Result X E) (P Q : X → Type 0) → ((x : X) → P x → Q x) → IfOk r P → IfOk r Q
ok_weaker (Ok x) P Q f h = f x h
ok_weaker (Err e) P Q f h = tt

pub returns-in-Some-clause-ok : goal.returns-in-Some-clause-ok
returns-in-Some-clause-ok c =
    told c.args.unit c.args.self.now c.hold_at.new.self _ c.hold_at.ensures
    (λ x y. IfOk c.hold_at.result (Holds false x c.args.ioba c.args.len c.args.right y)) c.hold_at.ensures.made.rest.place
    c.hold_at.ensures.made.ok

pub returns-in-Some-clause-fits : goal.returns-in-Some-clause-fits
returns-in-Some-clause-fits c =
    ok_weaker c.hold_at.result (λ held. IsLentBy c.hold_at.ensures.after held) (λ held. FitsIn c.hold_at.new.self c.args.unit held)
    (λ held h. subst (λ (o : Option WindowValue). IsSomeAnd o (λ window. IsLentBy window held))
    (sym (window_after c.args.unit c.args.self.now c.hold_at.new.self _ c.hold_at.ensures)) h) c.hold_at.ensures.made.fits

pub returns-in-Some-clause-cause : goal.returns-in-Some-clause-cause
returns-in-Some-clause-cause c =
    told c.args.unit c.args.self.now c.hold_at.new.self _ c.hold_at.ensures
    (λ x y. IfErr c.hold_at.result (λ fault. IsRefused y.values c.args.right x.place.size c.args.ioba c.args.len fault))
    c.hold_at.ensures.made.rest.place c.hold_at.ensures.made.cause

pub returns-in-Some-clause-err : goal.returns-in-Some-clause-err
returns-in-Some-clause-err c =
    told c.args.unit c.args.self.now c.hold_at.new.self _ c.hold_at.ensures (λ x y. OnErr c.hold_at.result (HoldsNone false x y))
    c.hold_at.ensures.made.rest.place c.hold_at.ensures.made.err

pub returns-in-Some-clause-counts : goal.returns-in-Some-clause-counts
returns-in-Some-clause-counts c =
    told c.args.unit c.args.self.now c.hold_at.new.self _ c.hold_at.ensures (λ x y. CountsHold c.hold_at.result x.in_use y.in_use)
    c.hold_at.ensures.made.rest.place c.hold_at.ensures.made.counts

pub returns-in-Some-clause-rest : goal.returns-in-Some-clause-rest
returns-in-Some-clause-rest c =
    told c.args.unit c.args.self.now c.hold_at.new.self _ c.hold_at.ensures (λ x y. OnlyHolds false x y) c.hold_at.ensures.made.rest.place
    c.hold_at.ensures.made.rest

pub returns-in-Some-clause-others : goal.returns-in-Some-clause-others
returns-in-Some-clause-others c =
    keeps_others c.args.unit c.args.self.now c.hold_at.new.self _ c.hold_at.ensures c.hold_at.ensures.made.rest.place
