use Rattle.std.proofs.Common.{ap, refl, rules, sym, ◌∙◌}
use Rattle.crq_session.specs.EndState.{EndState}
use Rattle.block_server.specs.Turns.{UnderWay}
use Rattle.block_server.specs.declared.line.Line.{Line}
use Rattle.block_server.proofs.Agreeing.{agrees_on, agrees_same}
use Rattle.block_server.proofs.Readying.{intake_finds, intake_full, intake_waits, next_apart, next_entry, next_found}
use Rattle.block_server.proofs.Advancing.{advances_on, advances_same}
use Rattle.block_server.proofs.Onces.{once_same, once_then}
use Rattle.block_server.proofs.Hearing.{once_by}
use Rattle.block_server.proofs.Quieting.{quiet_on, quiet_way}
use Rattle.block_server.proofs.Serves.{entry_none}
use Rattle.block_server.proofs.Taking.{lines_same, may_stands, takes_none, takes_on}
use Rattle.block_server.proofs.Jointly.{works, works_none, works_on}
use Rattle.std.proofs.Common.{subst}
use Rattle.block_server.specs.Owed.{HasAnswers, Owing}
use Rattle.block_server.proofs.Hands.{keeps_on, keeps_same}
use Rattle.block_server.proofs.Denying.{tells_first, tells_next}
use Rattle.block_server.specs.LoginAnswers.{login_answers}
use Rattle.block_server.specs.Resting.{IsEmptied}
use Rattle.block_server.specs.SiteState.{SiteState}
use Rattle.block_server.proofs.Restings.{as_before, not_on}
use Rattle.block_server.proofs.Coming.{comes_on}
use Rattle.block_server.proofs.ComingParts.{comes_none}
use Rattle.block_server.proofs.Quieting.{still_same}
use Rattle.block_server.specs.Steps.{NoStage}
use Rattle.block_server.proofs.Listening.{ends_next, goes_next, hears_all, hears_begin, hears_next}
use Rattle.block_server.proofs.Taking.{waiting_stands}
use Rattle.block_server.specs.Serving.{Desk}
use Rattle.block_server.specs.Talk.{reach_of}
use Rattle.block_server.proofs.LastRows.{idle_same, idle_then}
use Rattle.block_server.proofs.DoingHears.{freely_next}
use Rattle.block_server.proofs.Taking.{ended_stands}
use Rattle.block_server.specs.HeardOut.HearsOut.{full}
use Rattle.block_server.proofs.HeardOuts.{out_same, stopped_next, stops_slots, taken_next}
use Rattle.std.proofs.Common.{arith, length, ℕ, ◌≤◌}
use Rattle.block_server.specs.Talk.{to_come}
use Rattle.block_server.specs.HeardOut.{to_serve}
use Rattle.block_server.specs.declared.unit.Unit.{Unit}
use Rattle.block_server.proofs.ServedOuts.{few_end, few_then, other_entry}
use Rattle.block_server.proofs.intake.take_in.Goals as goal

pub returns-in_err-next-clause-once : goal.returns-in_err-next-clause-once
returns-in_err-next-clause-once g c = c.receive_waiting.ensures.once

pub returns-then-ne-clause-once : goal.returns-then-ne-clause-once
returns-then-ne-clause-once g c = c.receive_waiting.ensures.once

pub loop-taken-init : goal.loop-taken-init
loop-taken-init g c = record {
  advances = c.receive_waiting.ensures.advances;
  quiet = c.in_ok-next.ensures.quiet;
  none = entry_none c.in_ok-next.next _ c.in_ok-next.ensures.none (search rules);
  once = c.receive_waiting.ensures.once;
  agrees = agrees_same _ _ _ _ c.receive_waiting.ensures.handshake (ap (λ (q : EndState). q.registered) c.receive_waiting.ensures.queue);
  waits = λ moved. record {
    first = refl;
    same = c.receive_waiting.ensures.queue;
    line = c.in_ok-next.ensures.line moved;
    waiting = next_entry c.in_ok-next.next _ _ (search rules) (c.in_ok-next.ensures.waits moved);
  };
  intake = λ on. c.receive_waiting.ensures.intake;
  judges = λ on. c.receive_waiting.ensures.judges;
  answers = c.receive_waiting.ensures.answers;
  cargo = c.receive_waiting.ensures.cargo;
  refuses = λ on. c.receive_waiting.ensures.refuses;
  comes = c.in_ok-next.ensures.comes;
  rests = λ alone waiting emptied. as_before _ _ _ _ (c.in_ok-next.ensures.rests waiting).1 (c.in_ok-next.ensures.rests waiting).2;
  hears = λ words calm. hears_begin _ _ _ _ _ _ _ words (c.in_ok-next.ensures.rests calm.waiting).1 (ap reach_of (c.in_ok-next.ensures.rests calm.waiting).2) (c.in_ok-next.ensures.lines calm.waiting) calm;
  may = λ on. c.in_ok-next.ensures.goes_on on (search rules);
  idle = c.receive_waiting.ensures.rows;
  does = λ link alone free. c.in_ok-next.ensures.does link alone free;
  brings = λ link waiting. omega (arith, ap (λ (z : Unit × SiteState). to_serve z.0 z.1.queue) (λ i. ((c.in_ok-next.ensures.rests waiting).1 i, (c.in_ok-next.ensures.rests waiting).2 i)));
  left = λ link. omega (arith, ap (λ (q : EndState). length (to_come q)) c.receive_waiting.ensures.queue);
}

pub returns-in_err-make_room-clause-once : goal.returns-in_err-make_room-clause-once
returns-in_err-make_room-clause-once g c =
    λ disk all. once_then disk disk disk _ _ _ _ _ _ _ _ _ (c.loop-taken.invariant.once disk all) (once_same _ _ _ _ _ _ c.make_room.ensures.desk c.make_room.ensures.history refl disk)

pub returns-in_err-next-2-clause-once : goal.returns-in_err-next-2-clause-once
returns-in_err-next-2-clause-once g c =
    once_by (g.S.Site.state c.args.site.now) (g.S.Site.state c.loop-taken.site) (g.S.Site.state c.take_one.new.site) _ _ _ c.args.records.now c.make_room.new.records c.take_one.new.records c.loop-taken.invariant.advances c.take_one.ensures.advances
    (λ disk all. once_then disk disk disk _ _ _ _ _ _ _ _ _ (c.loop-taken.invariant.once disk all) (once_same _ _ _ _ _ _ c.make_room.ensures.desk c.make_room.ensures.history refl disk))
    c.take_one.ensures.once

pub returns-in_err-next-2-clause-advances : goal.returns-in_err-next-2-clause-advances
returns-in_err-next-2-clause-advances g c = advances_on _ _ _ c.loop-taken.invariant.advances c.take_one.ensures.advances

pub returns-then-ne-2-clause-once : goal.returns-then-ne-2-clause-once
returns-then-ne-2-clause-once g c =
    once_by (g.S.Site.state c.args.site.now) (g.S.Site.state c.loop-taken.site) (g.S.Site.state c.take_one.new.site) _ _ _ c.args.records.now c.make_room.new.records c.take_one.new.records c.loop-taken.invariant.advances c.take_one.ensures.advances
    (λ disk all. once_then disk disk disk _ _ _ _ _ _ _ _ _ (c.loop-taken.invariant.once disk all) (once_same _ _ _ _ _ _ c.make_room.ensures.desk c.make_room.ensures.history refl disk))
    c.take_one.ensures.once

pub returns-then-ne-2-clause-advances : goal.returns-then-ne-2-clause-advances
returns-then-ne-2-clause-advances g c = advances_on _ _ _ c.loop-taken.invariant.advances c.take_one.ensures.advances

pub returns-then-ne-2-clause-quiet : goal.returns-then-ne-2-clause-quiet
returns-then-ne-2-clause-quiet g c =
    quiet_on _ _ _ _ _ _ c.loop-taken.invariant.quiet
    (quiet_on _ _ _ _ _ _ (quiet_way _ _ _ c.make_room.ensures.moved c.make_room.ensures.way) c.in_ok-next-2.ensures.quiet)

pub loop-taken-preserved : goal.loop-taken-preserved
loop-taken-preserved g c = record {
  advances = advances_on _ _ _ c.loop-taken.invariant.advances c.take_one.ensures.advances;
  quiet = quiet_on _ _ _ _ _ _ c.loop-taken.invariant.quiet
      (quiet_on _ _ _ _ _ _ (quiet_way _ _ _ c.make_room.ensures.moved c.make_room.ensures.way) c.in_ok-next-2.ensures.quiet);
  none = entry_none c.in_ok-next-2.next _ c.in_ok-next-2.ensures.none (search rules);
  once = once_by (g.S.Site.state c.args.site.now) (g.S.Site.state c.loop-taken.site) (g.S.Site.state c.take_one.new.site) _ _ _ c.args.records.now c.make_room.new.records c.take_one.new.records c.loop-taken.invariant.advances c.take_one.ensures.advances
      (λ disk all. once_then disk disk disk _ _ _ _ _ _ _ _ _ (c.loop-taken.invariant.once disk all) (once_same _ _ _ _ _ _ c.make_room.ensures.desk c.make_room.ensures.history refl disk))
      c.take_one.ensures.once;
  agrees = agrees_on _ _ _ (agrees_on _ _ _ c.loop-taken.invariant.agrees (agrees_same _ _ _ _ (ap (λ (line : Line). line.handshake) c.make_room.ensures.line) refl)) c.take_one.ensures.agrees;
  waits = λ moved. absurd (next_entry c.in_ok-next-2.next _ _ (search rules) (c.in_ok-next-2.ensures.waits moved));
  intake = λ on. takes_on _ _ _ _ _ _ _ _ _ (takes_on _ _ _ _ _ _ _ _ _ (c.loop-taken.invariant.intake on) (takes_none _ _ _ _ _ _ c.make_room.ensures.stands (advances_same _) refl (lines_same _ _ _ _ c.make_room.ensures.grants)))
      (c.take_one.ensures.intake (may_stands _ _ c.make_room.ensures.stands (c.loop-taken.invariant.may on)));
  judges = λ on. (works_on _ _ _ _ _ _ _ _ _ (works_on _ _ _ _ _ _ _ _ _ (works _ _ _ _ _ _ refl refl (c.loop-taken.invariant.intake on) (c.loop-taken.invariant.judges on)) (works_none _ _ _ _ _ _ c.make_room.ensures.stands refl refl (advances_same _) refl (lines_same _ _ _ _ c.make_room.ensures.grants) (c.make_room.ensures.books (g.S.Site.state c.loop-taken.site))))
      (works _ _ _ _ _ _ refl refl (c.take_one.ensures.intake (may_stands _ _ c.make_room.ensures.stands (c.loop-taken.invariant.may on)))
      (c.take_one.ensures.judges (may_stands _ _ c.make_room.ensures.stands (c.loop-taken.invariant.may on))))).judges;
  answers = λ alone has. c.take_one.ensures.answers alone (subst (λ (o : Owing). HasAnswers o) (sym (c.make_room.ensures.owing (g.S.Site.state c.loop-taken.site).queue)) (c.loop-taken.invariant.answers alone has));
  cargo = keeps_on _ _ _ (keeps_on _ _ _ c.loop-taken.invariant.cargo (keeps_same _ _ (c.make_room.ensures.cargo _))) c.take_one.ensures.cargo;
  refuses = λ on told unit front all is.
      c.take_one.ensures.refuses (may_stands _ _ c.make_room.ensures.stands (c.loop-taken.invariant.may on)) told unit front
      (tells_next told unit (g.S.Site.state c.args.site.now) (g.S.Site.state c.loop-taken.site) (g.S.Site.state c.take_one.new.site) c.loop-taken.invariant.advances all)
      (c.make_room.ensures.refuses (g.S.Site.state c.loop-taken.site).queue.last_session (g.S.Site.state c.loop-taken.site).queue.taken (login_answers (g.S.Site.state c.loop-taken.site).queue.sent) told unit front
      (c.loop-taken.invariant.refuses on told unit front (tells_first told unit (g.S.Site.state c.args.site.now) (g.S.Site.state c.loop-taken.site) (g.S.Site.state c.take_one.new.site) c.take_one.ensures.advances all) is));
  comes = comes_on _ _ _ _ _ _ c.loop-taken.invariant.comes
      (comes_on c.loop-taken.unit c.make_room.new.unit _ _ _ _ (comes_none NoStage _ _ _ _ (still_same _) c.make_room.ensures.way c.make_room.ensures.moved) c.in_ok-next-2.ensures.comes);
  rests = λ alone waiting emptied.
      absurd (not_on c.in_ok-next-2.next (search rules)
      (c.in_ok-next-2.ensures.rests alone (subst (λ (site : SiteState). IsEmptied site.queue) (sym (c.loop-taken.invariant.rests alone waiting emptied).site) emptied)).0);
  hears = λ words calm. goes_next c.in_ok-next-2.next (search rules)
      (hears_next _ c.args.unit.now c.loop-taken.unit c.make_room.new.unit c.take_one.new.unit (reach_of (g.S.Site.state c.args.site.now)) (reach_of (g.S.Site.state c.loop-taken.site)) (reach_of (g.S.Site.state c.take_one.new.site)) _ _ _ _ words _ c.in_ok-next-2.next (c.loop-taken.invariant.hears words calm)
      c.make_room.ensures.talk (ap (λ (d : Desk). d.stage) c.make_room.ensures.desk) c.make_room.ensures.line (waiting_stands _ _ c.make_room.ensures.stands) c.make_room.ensures.grants c.in_ok-next-2.ensures.hears);
  may = λ on. c.in_ok-next-2.ensures.goes_on (may_stands _ _ c.make_room.ensures.stands (c.loop-taken.invariant.may on)) (search rules);
  idle = idle_then _ _ _ _ _ _ (idle_then _ _ _ _ _ _ c.loop-taken.invariant.idle (idle_same _ _ _ _ (ap (λ (d : Desk). d.stage) c.make_room.ensures.desk) c.make_room.ensures.history)) c.take_one.ensures.rows;
  does = λ link alone going free. freely_next _ _ _ _ (c.make_room.ensures.doing (g.S.Site.state c.loop-taken.site)) (c.loop-taken.invariant.does link alone going free)
      (λ on. c.in_ok-next-2.ensures.does link (c.loop-taken.invariant.advances.shared ∙ alone) (ended_stands _ _ c.make_room.ensures.stands ∙ (c.loop-taken.invariant.may going).goes_on) on);
  brings = λ link waiting. (few_then c.args.unit.now c.loop-taken.unit c.make_room.new.unit c.take_one.new.unit (g.S.Site.state c.args.site.now).queue (g.S.Site.state c.loop-taken.site).queue (g.S.Site.state c.take_one.new.site).queue c.in_ok-next-2.next (c.loop-taken.invariant.brings link waiting) (ap (λ (d : Desk). d.pending) c.make_room.ensures.desk) (c.in_ok-next-2.ensures.brings link)).most;
  left = λ link. omega (arith, c.loop-taken.invariant.left link, taken_next (g.S.Site.state c.loop-taken.site).shared c.take_one.new.unit (g.S.Site.state c.loop-taken.site).queue (g.S.Site.state c.take_one.new.site).queue c.in_ok-next-2.next (search rules) (c.in_ok-next-2.ensures.stops link));
}

pub returns-after-loop-taken-clause-once : goal.returns-after-loop-taken-clause-once
returns-after-loop-taken-clause-once g c = c.loop-taken.invariant.once

pub returns-in_err-next-clause-agrees : goal.returns-in_err-next-clause-agrees
returns-in_err-next-clause-agrees g c = agrees_same _ _ _ _ c.receive_waiting.ensures.handshake (ap (λ (q : EndState). q.registered) c.receive_waiting.ensures.queue)

pub returns-then-ne-clause-agrees : goal.returns-then-ne-clause-agrees
returns-then-ne-clause-agrees g c = agrees_same _ _ _ _ c.receive_waiting.ensures.handshake (ap (λ (q : EndState). q.registered) c.receive_waiting.ensures.queue)

pub returns-in_err-make_room-clause-agrees : goal.returns-in_err-make_room-clause-agrees
returns-in_err-make_room-clause-agrees g c = agrees_on _ _ _ c.loop-taken.invariant.agrees (agrees_same _ _ _ _ (ap (λ (line : Line). line.handshake) c.make_room.ensures.line) refl)

pub returns-in_err-next-2-clause-agrees : goal.returns-in_err-next-2-clause-agrees
returns-in_err-next-2-clause-agrees g c = agrees_on _ _ _ (agrees_on _ _ _ c.loop-taken.invariant.agrees (agrees_same _ _ _ _ (ap (λ (line : Line). line.handshake) c.make_room.ensures.line) refl)) c.take_one.ensures.agrees

pub returns-then-ne-2-clause-agrees : goal.returns-then-ne-2-clause-agrees
returns-then-ne-2-clause-agrees g c = agrees_on _ _ _ (agrees_on _ _ _ c.loop-taken.invariant.agrees (agrees_same _ _ _ _ (ap (λ (line : Line). line.handshake) c.make_room.ensures.line) refl)) c.take_one.ensures.agrees

pub returns-after-loop-taken-clause-agrees : goal.returns-after-loop-taken-clause-agrees
returns-after-loop-taken-clause-agrees g c = c.loop-taken.invariant.agrees

pub returns-then-ne-clause-waits : goal.returns-then-ne-clause-waits
returns-then-ne-clause-waits g c = λ moved.
    next_apart c.in_ok-next.next _ _ _ (search rules)
    (intake_waits _ _ _ (g.S.Site.state c.args.site.now) (g.S.Site.state c.receive_waiting.new.site) c.receive_waiting.ensures.queue (c.in_ok-next.ensures.line moved))
    (c.in_ok-next.ensures.waits moved)

pub returns-then-ne-2-clause-waits : goal.returns-then-ne-2-clause-waits
returns-then-ne-2-clause-waits g c = λ moved.
    let quiet = c.in_ok-next-2.ensures.quiet moved in
    let none = c.loop-taken.invariant.waits (sym c.make_room.ensures.moved ∙ quiet.was) in
    next_found c.in_ok-next-2.next _ _
    (intake_finds _ _ _ c.loop-taken.unit _ (g.S.Site.state c.args.site.now) (g.S.Site.state c.loop-taken.site) (g.S.Site.state c.take_one.new.site) none
    (c.in_ok-next-2.ensures.line moved ∙ c.make_room.ensures.line)
    (ap (λ (way : UnderWay). way.waiting) (quiet.same ∙ c.make_room.ensures.way)) (c.in_ok-next-2.ensures.idles moved))
    (c.in_ok-next-2.ensures.waits moved)

pub returns-after-loop-taken-clause-waits : goal.returns-after-loop-taken-clause-waits
returns-after-loop-taken-clause-waits g c = λ moved.
    let none = c.loop-taken.invariant.waits moved in
    intake_full _ _ _ _ (g.S.Site.state c.args.site.now) (g.S.Site.state c.loop-taken.site) none (λ empty. search rules)

pub returns-in_err-next-clause-intake : goal.returns-in_err-next-clause-intake
returns-in_err-next-clause-intake g c = λ on. c.receive_waiting.ensures.intake

pub returns-then-ne-clause-intake : goal.returns-then-ne-clause-intake
returns-then-ne-clause-intake g c = λ on. c.receive_waiting.ensures.intake

pub returns-in_err-make_room-clause-intake : goal.returns-in_err-make_room-clause-intake
returns-in_err-make_room-clause-intake g c = λ on. takes_on _ _ _ _ _ _ _ _ _ (c.loop-taken.invariant.intake on) (takes_none _ _ _ _ _ _ c.make_room.ensures.stands (advances_same _) refl (lines_same _ _ _ _ c.make_room.ensures.grants))

pub returns-in_err-next-2-clause-intake : goal.returns-in_err-next-2-clause-intake
returns-in_err-next-2-clause-intake g c = λ on. takes_on _ _ _ _ _ _ _ _ _ (takes_on _ _ _ _ _ _ _ _ _ (c.loop-taken.invariant.intake on) (takes_none _ _ _ _ _ _ c.make_room.ensures.stands (advances_same _) refl (lines_same _ _ _ _ c.make_room.ensures.grants)))
    (c.take_one.ensures.intake (may_stands _ _ c.make_room.ensures.stands (c.loop-taken.invariant.may on)))

pub returns-then-ne-2-clause-intake : goal.returns-then-ne-2-clause-intake
returns-then-ne-2-clause-intake g c = λ on. takes_on _ _ _ _ _ _ _ _ _ (takes_on _ _ _ _ _ _ _ _ _ (c.loop-taken.invariant.intake on) (takes_none _ _ _ _ _ _ c.make_room.ensures.stands (advances_same _) refl (lines_same _ _ _ _ c.make_room.ensures.grants)))
    (c.take_one.ensures.intake (may_stands _ _ c.make_room.ensures.stands (c.loop-taken.invariant.may on)))

pub returns-after-loop-taken-clause-intake : goal.returns-after-loop-taken-clause-intake
returns-after-loop-taken-clause-intake g c = λ on. c.loop-taken.invariant.intake on

pub returns-in_err-next-clause-judges : goal.returns-in_err-next-clause-judges
returns-in_err-next-clause-judges g c = λ on. c.receive_waiting.ensures.judges

pub returns-then-ne-clause-judges : goal.returns-then-ne-clause-judges
returns-then-ne-clause-judges g c = λ on. c.receive_waiting.ensures.judges

pub returns-in_err-make_room-clause-judges : goal.returns-in_err-make_room-clause-judges
returns-in_err-make_room-clause-judges g c = λ on. (works_on _ _ _ _ _ _ _ _ _ (works _ _ _ _ _ _ refl refl (c.loop-taken.invariant.intake on) (c.loop-taken.invariant.judges on)) (works_none _ _ _ _ _ _ c.make_room.ensures.stands refl refl (advances_same _) refl (lines_same _ _ _ _ c.make_room.ensures.grants) (c.make_room.ensures.books (g.S.Site.state c.loop-taken.site)))).judges

pub returns-in_err-next-2-clause-judges : goal.returns-in_err-next-2-clause-judges
returns-in_err-next-2-clause-judges g c = λ on. (works_on _ _ _ _ _ _ _ _ _ (works_on _ _ _ _ _ _ _ _ _ (works _ _ _ _ _ _ refl refl (c.loop-taken.invariant.intake on) (c.loop-taken.invariant.judges on)) (works_none _ _ _ _ _ _ c.make_room.ensures.stands refl refl (advances_same _) refl (lines_same _ _ _ _ c.make_room.ensures.grants) (c.make_room.ensures.books (g.S.Site.state c.loop-taken.site))))
    (works _ _ _ _ _ _ refl refl (c.take_one.ensures.intake (may_stands _ _ c.make_room.ensures.stands (c.loop-taken.invariant.may on)))
    (c.take_one.ensures.judges (may_stands _ _ c.make_room.ensures.stands (c.loop-taken.invariant.may on))))).judges

pub returns-then-ne-2-clause-judges : goal.returns-then-ne-2-clause-judges
returns-then-ne-2-clause-judges g c = λ on. (works_on _ _ _ _ _ _ _ _ _ (works_on _ _ _ _ _ _ _ _ _ (works _ _ _ _ _ _ refl refl (c.loop-taken.invariant.intake on) (c.loop-taken.invariant.judges on)) (works_none _ _ _ _ _ _ c.make_room.ensures.stands refl refl (advances_same _) refl (lines_same _ _ _ _ c.make_room.ensures.grants) (c.make_room.ensures.books (g.S.Site.state c.loop-taken.site))))
    (works _ _ _ _ _ _ refl refl (c.take_one.ensures.intake (may_stands _ _ c.make_room.ensures.stands (c.loop-taken.invariant.may on)))
    (c.take_one.ensures.judges (may_stands _ _ c.make_room.ensures.stands (c.loop-taken.invariant.may on))))).judges

pub returns-after-loop-taken-clause-judges : goal.returns-after-loop-taken-clause-judges
returns-after-loop-taken-clause-judges g c = λ on. c.loop-taken.invariant.judges on

pub returns-in_err-next-clause-answers : goal.returns-in_err-next-clause-answers
returns-in_err-next-clause-answers g c = c.receive_waiting.ensures.answers

pub returns-then-ne-clause-answers : goal.returns-then-ne-clause-answers
returns-then-ne-clause-answers g c = c.receive_waiting.ensures.answers

pub returns-in_err-make_room-clause-answers : goal.returns-in_err-make_room-clause-answers
returns-in_err-make_room-clause-answers g c = λ alone has.
    (subst (λ (o : Owing). HasAnswers o) (sym (c.make_room.ensures.owing (g.S.Site.state c.loop-taken.site).queue)) (c.loop-taken.invariant.answers alone has))

pub returns-in_err-next-2-clause-answers : goal.returns-in_err-next-2-clause-answers
returns-in_err-next-2-clause-answers g c = λ alone has. c.take_one.ensures.answers alone
    (subst (λ (o : Owing). HasAnswers o) (sym (c.make_room.ensures.owing (g.S.Site.state c.loop-taken.site).queue)) (c.loop-taken.invariant.answers alone has))

pub returns-then-ne-2-clause-answers : goal.returns-then-ne-2-clause-answers
returns-then-ne-2-clause-answers g c = λ alone has. c.take_one.ensures.answers alone
    (subst (λ (o : Owing). HasAnswers o) (sym (c.make_room.ensures.owing (g.S.Site.state c.loop-taken.site).queue)) (c.loop-taken.invariant.answers alone has))

pub returns-after-loop-taken-clause-answers : goal.returns-after-loop-taken-clause-answers
returns-after-loop-taken-clause-answers g c = c.loop-taken.invariant.answers

pub returns-in_err-make_room-clause-cargo : goal.returns-in_err-make_room-clause-cargo
returns-in_err-make_room-clause-cargo g c = keeps_on _ _ _ c.loop-taken.invariant.cargo (keeps_same _ _ (c.make_room.ensures.cargo _))

pub returns-in_err-next-2-clause-cargo : goal.returns-in_err-next-2-clause-cargo
returns-in_err-next-2-clause-cargo g c =
    keeps_on _ _ _ (keeps_on _ _ _ c.loop-taken.invariant.cargo (keeps_same _ _ (c.make_room.ensures.cargo _))) c.take_one.ensures.cargo

pub returns-then-ne-2-clause-cargo : goal.returns-then-ne-2-clause-cargo
returns-then-ne-2-clause-cargo g c =
    keeps_on _ _ _ (keeps_on _ _ _ c.loop-taken.invariant.cargo (keeps_same _ _ (c.make_room.ensures.cargo _))) c.take_one.ensures.cargo

pub returns-in_err-next-clause-refuses : goal.returns-in_err-next-clause-refuses
returns-in_err-next-clause-refuses g c = λ on. c.receive_waiting.ensures.refuses

pub returns-then-ne-clause-refuses : goal.returns-then-ne-clause-refuses
returns-then-ne-clause-refuses g c = λ on. c.receive_waiting.ensures.refuses

pub returns-in_err-make_room-clause-refuses : goal.returns-in_err-make_room-clause-refuses
returns-in_err-make_room-clause-refuses g c = λ on told unit since all is.
    c.make_room.ensures.refuses (g.S.Site.state c.loop-taken.site).queue.last_session (g.S.Site.state c.loop-taken.site).queue.taken (login_answers (g.S.Site.state c.loop-taken.site).queue.sent) told unit since (c.loop-taken.invariant.refuses on told unit since all is)

pub returns-in_err-next-2-clause-refuses : goal.returns-in_err-next-2-clause-refuses
returns-in_err-next-2-clause-refuses g c = λ on told unit since all is.
    c.take_one.ensures.refuses (may_stands _ _ c.make_room.ensures.stands (c.loop-taken.invariant.may on)) told unit since
    (tells_next told unit (g.S.Site.state c.args.site.now) (g.S.Site.state c.loop-taken.site) (g.S.Site.state c.take_one.new.site) c.loop-taken.invariant.advances all)
    (c.make_room.ensures.refuses (g.S.Site.state c.loop-taken.site).queue.last_session (g.S.Site.state c.loop-taken.site).queue.taken (login_answers (g.S.Site.state c.loop-taken.site).queue.sent) told unit since
    (c.loop-taken.invariant.refuses on told unit since (tells_first told unit (g.S.Site.state c.args.site.now) (g.S.Site.state c.loop-taken.site) (g.S.Site.state c.take_one.new.site) c.take_one.ensures.advances all) is))

pub returns-then-ne-2-clause-refuses : goal.returns-then-ne-2-clause-refuses
returns-then-ne-2-clause-refuses g c = λ on told unit since all is.
    c.take_one.ensures.refuses (may_stands _ _ c.make_room.ensures.stands (c.loop-taken.invariant.may on)) told unit since
    (tells_next told unit (g.S.Site.state c.args.site.now) (g.S.Site.state c.loop-taken.site) (g.S.Site.state c.take_one.new.site) c.loop-taken.invariant.advances all)
    (c.make_room.ensures.refuses (g.S.Site.state c.loop-taken.site).queue.last_session (g.S.Site.state c.loop-taken.site).queue.taken (login_answers (g.S.Site.state c.loop-taken.site).queue.sent) told unit since
    (c.loop-taken.invariant.refuses on told unit since (tells_first told unit (g.S.Site.state c.args.site.now) (g.S.Site.state c.loop-taken.site) (g.S.Site.state c.take_one.new.site) c.take_one.ensures.advances all) is))

pub returns-after-loop-taken-clause-refuses : goal.returns-after-loop-taken-clause-refuses
returns-after-loop-taken-clause-refuses g c = λ on. c.loop-taken.invariant.refuses on

pub returns-then-ne-2-clause-comes : goal.returns-then-ne-2-clause-comes
returns-then-ne-2-clause-comes g c =
    comes_on _ _ _ _ _ _ c.loop-taken.invariant.comes
    (comes_on c.loop-taken.unit c.make_room.new.unit _ _ _ _ (comes_none NoStage _ _ _ _ (still_same _) c.make_room.ensures.way c.make_room.ensures.moved) c.in_ok-next-2.ensures.comes)

pub returns-then-ne-clause-hears : goal.returns-then-ne-clause-hears
returns-then-ne-clause-hears g c = λ words calm few. absurd (search rules)

pub returns-then-ne-2-clause-hears : goal.returns-then-ne-2-clause-hears
returns-then-ne-2-clause-hears g c = λ words calm few. ends_next c.in_ok-next-2.next (λ is. search rules)
    (hears_next _ c.args.unit.now c.loop-taken.unit c.make_room.new.unit c.take_one.new.unit (reach_of (g.S.Site.state c.args.site.now)) (reach_of (g.S.Site.state c.loop-taken.site)) (reach_of (g.S.Site.state c.take_one.new.site)) _ _ _ _ words _ c.in_ok-next-2.next (c.loop-taken.invariant.hears words calm)
    c.make_room.ensures.talk (ap (λ (d : Desk). d.stage) c.make_room.ensures.desk) c.make_room.ensures.line (waiting_stands _ _ c.make_room.ensures.stands) c.make_room.ensures.grants c.in_ok-next-2.ensures.hears)

pub returns-after-loop-taken-clause-hears : goal.returns-after-loop-taken-clause-hears
returns-after-loop-taken-clause-hears g c = λ words calm few.
    let all = hears_all _ _ _ _ _ _ _ words c.loop-taken.taken c.slots-slots.result (c.loop-taken.invariant.hears words calm) few (c.slots-slots.ensures.slots ∙ ap (λ (s : SiteState). s.queue.place.own_slots) (c.in_ok-next.ensures.rests calm.waiting).2) (λ less short. search rules) in
    (refl, all.0, all.1)

pub returns-else-len-lt-MOST_PENDING-clause-hears : goal.returns-else-len-lt-MOST_PENDING-clause-hears
returns-else-len-lt-MOST_PENDING-clause-hears g c = λ words calm few.
    let all = hears_all _ _ _ _ _ _ _ words c.loop-taken.taken c.slots-slots.result (c.loop-taken.invariant.hears words calm) few (c.slots-slots.ensures.slots ∙ ap (λ (s : SiteState). s.queue.place.own_slots) (c.in_ok-next.ensures.rests calm.waiting).2) (λ less short. search rules) in
    (refl, all.0, all.1)

pub returns-in_err-next-clause-rows : goal.returns-in_err-next-clause-rows
returns-in_err-next-clause-rows g c = c.receive_waiting.ensures.rows

pub returns-then-ne-clause-rows : goal.returns-then-ne-clause-rows
returns-then-ne-clause-rows g c = c.receive_waiting.ensures.rows

pub returns-in_err-make_room-clause-rows : goal.returns-in_err-make_room-clause-rows
returns-in_err-make_room-clause-rows g c = idle_then _ _ _ _ _ _ c.loop-taken.invariant.idle (idle_same _ _ _ _ (ap (λ (d : Desk). d.stage) c.make_room.ensures.desk) c.make_room.ensures.history)

pub returns-in_err-next-2-clause-rows : goal.returns-in_err-next-2-clause-rows
returns-in_err-next-2-clause-rows g c = idle_then _ _ _ _ _ _ (idle_then _ _ _ _ _ _ c.loop-taken.invariant.idle (idle_same _ _ _ _ (ap (λ (d : Desk). d.stage) c.make_room.ensures.desk) c.make_room.ensures.history)) c.take_one.ensures.rows

pub returns-then-ne-2-clause-rows : goal.returns-then-ne-2-clause-rows
returns-then-ne-2-clause-rows g c = idle_then _ _ _ _ _ _ (idle_then _ _ _ _ _ _ c.loop-taken.invariant.idle (idle_same _ _ _ _ (ap (λ (d : Desk). d.stage) c.make_room.ensures.desk) c.make_room.ensures.history)) c.take_one.ensures.rows

pub returns-after-loop-taken-clause-rows : goal.returns-after-loop-taken-clause-rows
returns-after-loop-taken-clause-rows g c = c.loop-taken.invariant.idle

pub returns-else-len-lt-MOST_PENDING-clause-rows : goal.returns-else-len-lt-MOST_PENDING-clause-rows
returns-else-len-lt-MOST_PENDING-clause-rows g c = c.loop-taken.invariant.idle

pub returns-then-ne-2-clause-does : goal.returns-then-ne-2-clause-does
returns-then-ne-2-clause-does g c = λ link alone going free. freely_next _ _ _ _ (c.make_room.ensures.doing (g.S.Site.state c.loop-taken.site)) (c.loop-taken.invariant.does link alone going free)
    (λ on. c.in_ok-next-2.ensures.does link (c.loop-taken.invariant.advances.shared ∙ alone) (ended_stands _ _ c.make_room.ensures.stands ∙ (c.loop-taken.invariant.may going).goes_on) on)

pub returns-after-loop-taken-clause-does : goal.returns-after-loop-taken-clause-does
returns-after-loop-taken-clause-does g c = c.loop-taken.invariant.does

pub returns-else-len-lt-MOST_PENDING-clause-does : goal.returns-else-len-lt-MOST_PENDING-clause-does
returns-else-len-lt-MOST_PENDING-clause-does g c = c.loop-taken.invariant.does

pub returns-then-ne-clause-goes : goal.returns-then-ne-clause-goes
returns-then-ne-clause-goes g c = λ link alone on. c.in_ok-next.ensures.goes alone on

pub returns-then-ne-2-clause-goes : goal.returns-then-ne-2-clause-goes
returns-then-ne-2-clause-goes g c = λ link alone on.
    c.in_ok-next-2.ensures.goes (c.loop-taken.invariant.advances.shared ∙ alone) (ended_stands _ _ c.make_room.ensures.stands ∙ (c.loop-taken.invariant.may on).goes_on)

pub returns-after-loop-taken-clause-goes : goal.returns-after-loop-taken-clause-goes
returns-after-loop-taken-clause-goes g c = λ link alone on more. (c.loop-taken.invariant.may on).goes_on

pub returns-else-len-lt-MOST_PENDING-clause-goes : goal.returns-else-len-lt-MOST_PENDING-clause-goes
returns-else-len-lt-MOST_PENDING-clause-goes g c = λ link alone on more. (c.loop-taken.invariant.may on).goes_on

pub returns-then-ne-clause-heard : goal.returns-then-ne-clause-heard
returns-then-ne-clause-heard g c = λ link few. c.in_ok-next.ensures.stops (search rules)

pub returns-then-ne-2-clause-heard : goal.returns-then-ne-2-clause-heard
returns-then-ne-2-clause-heard g c = λ link few.
    out_same 256 (g.S.Site.state c.args.site.now).shared (g.S.Site.state c.loop-taken.site).shared c.take_one.new.unit (g.S.Site.state c.take_one.new.site).queue c.loop-taken.invariant.advances.shared
    (stopped_next (g.S.Site.state c.loop-taken.site).shared c.take_one.new.unit (g.S.Site.state c.loop-taken.site).queue (g.S.Site.state c.take_one.new.site).queue c.in_ok-next-2.next (search rules) (c.in_ok-next-2.ensures.stops link))

pub returns-after-loop-taken-clause-heard : goal.returns-after-loop-taken-clause-heard
returns-after-loop-taken-clause-heard g c = λ link few.
    stops_slots _ c.loop-taken.unit (g.S.Site.state c.args.site.now).queue (g.S.Site.state c.loop-taken.site).queue c.loop-taken.taken c.slots-slots.result (c.loop-taken.invariant.left link)
    (subst (λ (n : ℕ). length (to_come (g.S.Site.state c.args.site.now).queue) ≤ n) (sym (c.slots-slots.ensures.slots ∙ ap (λ (q : EndState). q.place.own_slots) c.receive_waiting.ensures.queue)) few) (search rules)

pub returns-else-len-lt-MOST_PENDING-clause-heard : goal.returns-else-len-lt-MOST_PENDING-clause-heard
returns-else-len-lt-MOST_PENDING-clause-heard g c = λ link few. full (search rules)

pub returns-then-ne-clause-brings : goal.returns-then-ne-clause-brings
returns-then-ne-clause-brings g c = λ link waiting. absurd (other_entry c.in_ok-next.next (search rules) (c.in_ok-next.ensures.rests waiting).0)

pub returns-then-ne-2-clause-brings : goal.returns-then-ne-2-clause-brings
returns-then-ne-2-clause-brings g c = λ link waiting.
    few_then c.args.unit.now c.loop-taken.unit c.make_room.new.unit c.take_one.new.unit (g.S.Site.state c.args.site.now).queue (g.S.Site.state c.loop-taken.site).queue (g.S.Site.state c.take_one.new.site).queue c.in_ok-next-2.next
    (c.loop-taken.invariant.brings link waiting) (ap (λ (d : Desk). d.pending) c.make_room.ensures.desk) (c.in_ok-next-2.ensures.brings link)

pub returns-after-loop-taken-clause-brings : goal.returns-after-loop-taken-clause-brings
returns-after-loop-taken-clause-brings g c = λ link waiting. few_end c.args.unit.now c.loop-taken.unit (g.S.Site.state c.args.site.now).queue (g.S.Site.state c.loop-taken.site).queue _ (c.loop-taken.invariant.brings link waiting) (λ is. cc (is))

pub returns-else-len-lt-MOST_PENDING-clause-brings : goal.returns-else-len-lt-MOST_PENDING-clause-brings
returns-else-len-lt-MOST_PENDING-clause-brings g c = λ link waiting. few_end c.args.unit.now c.loop-taken.unit (g.S.Site.state c.args.site.now).queue (g.S.Site.state c.loop-taken.site).queue _ (c.loop-taken.invariant.brings link waiting) (λ is. cc (is))
