use Rattle.block_server.specs.Cargo.{AreIdle, is_moving}
use Rattle.block_server.proofs.CargoLaws.{more_idle, none_idle}
use Rattle.std.proofs.Common.{◌≡◌, ap, ◌∙◌, arith, List, sym, subst}
use Rattle.std.proofs.lemmas.List.Elements.{All-nil, All-push}
use Rattle.block_server.specs.Ready.{AreDown}
use Rattle.block_server.specs.Units.{AreGranting, AreServing}
use Rattle.block_server.specs.declared.unit.Unit.{Unit}
use Rattle.block_server.proofs.Agreeing.{more_down, none_down}
use Rattle.block_server.proofs.Units.{units_more, units_none}
use Rattle.block_server.proofs.Taking.{more_wait, none_wait}
use Rattle.block_server.specs.Receipts.{AwaitNone}
use Rattle.block_server.proofs.BookLaws.{more_unused, none_unused}
use Rattle.block_server.proofs.OwedLaws.{more_owe, none_owe}
use Rattle.block_server.specs.Judges.{AreUnused}
use Rattle.block_server.specs.Owed.{OweNone}
use Rattle.block_server.proofs.Refusing.{more_refuse, none_refuse}
use Rattle.block_server.specs.Refusals.{ExplainNone}
use Rattle.block_server.specs.Talk.{AreNewUnits}
use Rattle.block_server.proofs.FirstTurns.{more_new, none_new}
use Rattle.block_server.proofs.server.make_units.Goals as goal

pub loop-unit-init : goal.loop-unit-init
loop-unit-init c = record { count = c.new-units.ensures.len; grants = subst (AreGranting c.args.grant) (sym c.new-units.ensures.items) (All-nil (λ (unit : Unit). unit.logins.granted ≡ c.args.grant)); down = none_down _ c.new-units.ensures.items; none = none_wait _ c.new-units.ensures.items; unused = none_unused _ c.new-units.ensures.items; unanswered = none_owe _ c.new-units.ensures.items; idle = none_idle _ c.new-units.ensures.items; unrefused = none_refuse _ c.new-units.ensures.items; made = none_new _ c.new-units.ensures.items; serving = λ terms rows. units_none terms _ _ rows c.new-units.ensures.items }

pub loop-unit-preserved : goal.loop-unit-preserved
loop-unit-preserved c = record {
  count = omega (arith, c.in_ok-push.ensures.len);
  grants = subst (AreGranting c.args.grant) (sym c.in_ok-push.ensures.items)
      (All-push (λ (unit : Unit). unit.logins.granted ≡ c.args.grant) c.loop-unit.units.items c.new.result c.loop-unit.invariant.grants c.new.ensures.granted);
  down = subst AreDown (sym c.in_ok-push.ensures.items) (more_down c.loop-unit.units.items c.new.result c.loop-unit.invariant.down c.new.ensures.handshake);
  none = subst AwaitNone (sym c.in_ok-push.ensures.items) (more_wait c.loop-unit.units.items c.new.result c.loop-unit.invariant.none c.new.ensures.waiting);
  unused = subst AreUnused (sym c.in_ok-push.ensures.items) (more_unused c.loop-unit.units.items c.new.result c.loop-unit.invariant.unused c.new.ensures.current c.new.ensures.last c.new.ensures.taking
      c.new.ensures.stage c.new.ensures.kept c.new.ensures.pending c.new.ensures.waiting);
  unanswered = subst OweNone (sym c.in_ok-push.ensures.items) (more_owe c.loop-unit.units.items c.new.result c.loop-unit.invariant.unanswered c.new.ensures.current c.new.ensures.stage);
  idle = subst AreIdle (sym c.in_ok-push.ensures.items) (more_idle c.loop-unit.units.items c.new.result c.loop-unit.invariant.idle (ap is_moving c.new.ensures.stage));
  unrefused = subst ExplainNone (sym c.in_ok-push.ensures.items) (more_refuse c.loop-unit.units.items c.new.result c.loop-unit.invariant.unrefused c.new.ensures.waiting c.new.ensures.pending);
  made = subst AreNewUnits (sym c.in_ok-push.ensures.items) (more_new c.loop-unit.units.items c.new.result c.loop-unit.invariant.made c.new.ensures.made);
  serving = λ terms rows. subst (λ (units : List Unit). AreServing terms c.args.partition units rows) (sym c.in_ok-push.ensures.items)
      (units_more terms c.args.partition c.loop-unit.unit c.loop-unit.units.items c.new.result rows (sym c.loop-unit.invariant.count ∙ c.loop-unit.units.ok.0)
      c.new.ensures.id c.new.ensures.stage c.new.ensures.kept c.new.ensures.pending (c.loop-unit.invariant.serving terms rows));
}
