use Rattle.std.proofs.Common.{ap, refl}
use Rattle.block_server.specs.Answering.{responses}
use Rattle.block_server.proofs.Agreeing.{agrees_same}
use Rattle.block_server.proofs.Onces.{once_reply_kept, once_same, responses_plain}
use Rattle.block_server.proofs.Serves.{none_sent}
use Rattle.block_server.proofs.Keeping.{keeps_kept, moved_to}
use Rattle.block_server.proofs.Booking.{passed_next}
use Rattle.block_server.proofs.Taking.{passed_session, passed_taken}
use Rattle.block_server.proofs.Ledgers.{explains_same}
use Rattle.block_server.proofs.LoginPuts.{logins_plain, logins_same}
use Rattle.block_server.specs.Refusals.{ledger_of}
use Rattle.std.proofs.Common.{Some, refl}
use Rattle.block_server.specs.declared.line.Kept.TheVariants as keeps
use Rattle.block_server.proofs.Owing.{owes_seen}
use Rattle.block_server.proofs.OwingCalls.{seen_sends}
use Rattle.block_server.proofs.Listening.{full_no, not_put_reply, sends_reply}
use Rattle.std.proofs.Common.{inl, inr}
use Rattle.block_server.proofs.DoingReplies.{loses_reach, puts_reach, reach_on, reached_dropped, reached_sent, reply_sent, shut_reach}
use Rattle.block_server.proofs.Serves.{same_sent}
use Rattle.block_server.proofs.HeardOuts.{no_room}
use Rattle.block_server.proofs.replies.put_reply.Goals as goal

pub returns-in-Dropped-clause-once : goal.returns-in-Dropped-clause-once
returns-in-Dropped-clause-once g c = λ records disk serving.
    once_reply_kept _ _ _ _ _ c.args.reply refl refl refl refl refl refl refl c.requires.plain (ap responses c.in-Dropped.ensures.dropped.sent) disk serving

pub returns-in-Success-clause-once : goal.returns-in-Success-clause-once
returns-in-Success-clause-once g c = λ records disk serving.
    once_same _ _ _ _ _ _ refl refl (responses_plain _ _ _ c.requires.plain.no_response c.in-Success.ensures.success.puts.sent) disk serving

pub returns-in_default-clause-once : goal.returns-in_default-clause-once
returns-in_default-clause-once g c = λ records disk serving.
    once_same _ _ _ _ _ _ refl refl (none_sent _ _ _ _ c.in_default.not-Success c.in_default.not-Dropped c.send.ensures.closed c.send.ensures.refused) disk serving

pub returns-in-Dropped-clause-agrees : goal.returns-in-Dropped-clause-agrees
returns-in-Dropped-clause-agrees g c = agrees_same _ _ _ _ refl c.send.ensures.rest.registered

pub returns-in-Success-clause-agrees : goal.returns-in-Success-clause-agrees
returns-in-Success-clause-agrees g c = agrees_same _ _ _ _ refl c.send.ensures.rest.registered

pub returns-in_default-clause-agrees : goal.returns-in_default-clause-agrees
returns-in_default-clause-agrees g c = agrees_same _ _ _ _ refl c.send.ensures.rest.registered

pub returns-in-Dropped-clause-books : goal.returns-in-Dropped-clause-books
returns-in-Dropped-clause-books g c = λ records judged is. moved_to _ _ judged refl (passed_session _ _ c.send.ensures.passes) (passed_next c.args.unit.now.waiting c.args.unit.now.waiting _ _ refl c.send.ensures.passes) refl refl refl refl refl refl refl refl refl refl refl (keeps_kept _ (Some (keeps.Reply c.args.reply)) judged tt is)

pub returns-in-Success-clause-books : goal.returns-in-Success-clause-books
returns-in-Success-clause-books g c = λ records judged is. moved_to _ _ judged refl (passed_session _ _ c.send.ensures.passes) (passed_next c.args.unit.now.waiting c.args.unit.now.waiting _ _ refl c.send.ensures.passes) refl refl refl refl refl refl refl refl refl refl refl is

pub returns-in_default-clause-books : goal.returns-in_default-clause-books
returns-in_default-clause-books g c = λ records judged is. moved_to _ _ judged refl (passed_session _ _ c.send.ensures.passes) (passed_next c.args.unit.now.waiting c.args.unit.now.waiting _ _ refl c.send.ensures.passes) refl refl refl refl refl refl refl refl refl refl refl is

pub returns-in-Dropped-clause-answers : goal.returns-in-Dropped-clause-answers
returns-in-Dropped-clause-answers g c = λ records alone has. owes_seen _ _ (seen_sends _ _ _ c.send.ensures.rest) refl refl refl refl refl refl refl has

pub returns-in-Success-clause-answers : goal.returns-in-Success-clause-answers
returns-in-Success-clause-answers g c = λ records alone has. owes_seen _ _ (seen_sends _ _ _ c.send.ensures.rest) refl refl refl refl refl refl refl has

pub returns-in_default-clause-answers : goal.returns-in_default-clause-answers
returns-in_default-clause-answers g c = λ records alone has. owes_seen _ _ (seen_sends _ _ _ c.send.ensures.rest) refl refl refl refl refl refl refl has

pub returns-in-Success-clause-refuses : goal.returns-in-Success-clause-refuses
returns-in-Success-clause-refuses g c = λ records.
    explains_same (ledger_of c.args.unit.now (g.S.Site.state c.args.site.now) records) _ (passed_session _ _ c.send.ensures.passes) (passed_taken _ _ c.send.ensures.passes) refl refl refl refl
    (logins_plain _ _ _ c.requires.plain c.in-Success.ensures.success.puts.sent) refl refl

pub returns-in_default-clause-refuses : goal.returns-in_default-clause-refuses
returns-in_default-clause-refuses g c = λ records.
    explains_same (ledger_of c.args.unit.now (g.S.Site.state c.args.site.now) records) _ (passed_session _ _ c.send.ensures.passes) (passed_taken _ _ c.send.ensures.passes) refl refl refl refl
    (logins_same _ _ _ _ c.in_default.not-Success c.in_default.not-Dropped c.send.ensures.closed c.send.ensures.refused) refl refl

pub returns-in-Dropped-clause-hears : goal.returns-in-Dropped-clause-hears
returns-in-Dropped-clause-hears g c = λ alone on room. absurd (full_no _ _ _ _ _ alone c.send.ensures.rest room c.in-Dropped.ensures.dropped)

pub returns-in-Success-clause-hears : goal.returns-in-Success-clause-hears
returns-in-Success-clause-hears g c = λ alone on room. (
  refl,
  record {
    same = refl;
    put = sends_reply _ _ _ _ _ alone c.send.ensures.rest c.in-Success.ensures.success;
    window = c.send.ensures.windows.client;
  },
)

pub returns-in_default-clause-hears : goal.returns-in_default-clause-hears
returns-in_default-clause-hears g c = λ alone on room. (
  refl,
  record {
    same = refl;
    put = not_put_reply _ _ _ _ c.send.result alone on c.send.ensures.rest c.in_default.not-Success c.in_default.not-Dropped c.send.ensures.closed c.send.ensures.unregistered;
    window = c.send.ensures.windows.client;
  },
)

pub returns-in-Dropped-clause-aside : goal.returns-in-Dropped-clause-aside
returns-in-Dropped-clause-aside g c = λ records alone.
    reply_sent _ c.args.unit.now (Some (keeps.Reply c.args.reply)) (g.S.Site.state c.args.site.now) (g.S.Site.state c.send.new.self) records c.args.reply alone c.send.ensures.rest
    c.send.ensures.advances.own_place c.send.ensures.windows.client
    (inr (reach_on _ _ (reached_dropped c.send.result _ _ _ c.in-Dropped.is c.send.ensures.told) (c.in-Dropped.ensures.dropped.partner alone), c.in-Dropped.ensures.dropped.sent, refl))

pub returns-in-Success-clause-aside : goal.returns-in-Success-clause-aside
returns-in-Success-clause-aside g c = λ records alone.
    reply_sent _ c.args.unit.now c.args.unit.now.line.kept (g.S.Site.state c.args.site.now) (g.S.Site.state c.send.new.self) records c.args.reply alone c.send.ensures.rest
    c.send.ensures.advances.own_place c.send.ensures.windows.client
    (inl (puts_reach _ (g.S.Site.state c.args.site.now).queue (g.S.Site.state c.send.new.self).queue c.args.reply _ alone (reached_sent c.send.result _ _ c.in-Success.is c.send.ensures.told) c.send.ensures.rest c.in-Success.ensures.success, refl))

pub returns-in_default-clause-aside : goal.returns-in_default-clause-aside
returns-in_default-clause-aside g c = λ records alone.
    reply_sent _ c.args.unit.now c.args.unit.now.line.kept (g.S.Site.state c.args.site.now) (g.S.Site.state c.send.new.self) records c.args.reply alone c.send.ensures.rest
    c.send.ensures.advances.own_place c.send.ensures.windows.client
    (inl (
      loses_reach (g.S.Site.state c.args.site.now).queue (g.S.Site.state c.send.new.self).queue c.args.reply (same_sent _ _ _ _ c.in_default.not-Success c.in_default.not-Dropped c.send.ensures.closed c.send.ensures.refused)
          (shut_reach _ (g.S.Site.state c.args.site.now).queue (g.S.Site.state c.send.new.self).queue c.send.result alone c.in_default.not-Success c.in_default.not-Dropped c.send.ensures.closed c.send.ensures.unregistered),
      refl,
    ))

pub returns-in-Dropped-clause-full : goal.returns-in-Dropped-clause-full
returns-in-Dropped-clause-full g c = λ link other. no_room _ _ (g.S.Site.state c.send.new.self).queue c.in-Dropped.number c.in-Dropped.held link c.send.ensures.rest.place c.in-Dropped.ensures.dropped

pub returns-in-Success-clause-full : goal.returns-in-Success-clause-full
returns-in-Success-clause-full g c = λ link other. absurd (other refl)

pub returns-in_default-clause-full : goal.returns-in_default-clause-full
returns-in_default-clause-full g c = λ link other. absurd (other refl)
