use Rattle.std.proofs.Common.{inl, inr, refl, true}
use Rattle.block_server.proofs.Agreeing.{agrees_same}
use Rattle.block_server.proofs.Readying.{full_now, idles_pushes}
use Rattle.block_server.proofs.Onces.{once_same}
use Rattle.block_server.proofs.Jointly.{keeps_pass}
use Rattle.block_server.proofs.Owing.{owes_seen}
use Rattle.block_server.proofs.OwingCalls.{seen_pushes}
use Rattle.block_server.proofs.Talks.{none_kept, pushes_none}
use Rattle.block_server.proofs.Asides.{calls_only, lost_settles, put_settles, settles_event}
use Rattle.block_server.proofs.turning.push_event.Goals as goal

pub returns-in-Nothing-clause-once : goal.returns-in-Nothing-clause-once
returns-in-Nothing-clause-once g c = λ records disk serving. once_same _ _ _ _ _ _ refl refl c.push_event.ensures.plain disk serving

pub returns-in-Put-clause-once : goal.returns-in-Put-clause-once
returns-in-Put-clause-once g c = λ records disk serving. once_same _ _ _ _ _ _ refl refl c.push_event.ensures.plain disk serving

pub returns-in-Kept-clause-once : goal.returns-in-Kept-clause-once
returns-in-Kept-clause-once g c = λ records disk serving. once_same _ _ _ _ _ _ refl refl c.push_event.ensures.plain disk serving

pub returns-in-Nothing-clause-waits : goal.returns-in-Nothing-clause-waits
returns-in-Nothing-clause-waits g c = λ moved. record {
  idles = idles_pushes _ _ _ c.push_event.ensures.rest c.in-Nothing.ensures.nothing;
  none = c.in-Nothing.ensures.nothing.kept;
}

pub returns-in-Kept-clause-waits : goal.returns-in-Kept-clause-waits
returns-in-Kept-clause-waits g c = λ moved. full_now _ _ _ _ _ c.in-Kept.ensures.still.full

pub returns-in-Nothing-clause-agrees : goal.returns-in-Nothing-clause-agrees
returns-in-Nothing-clause-agrees g c = agrees_same _ _ _ _ refl c.push_event.ensures.rest.registered

pub returns-in-Put-clause-agrees : goal.returns-in-Put-clause-agrees
returns-in-Put-clause-agrees g c = agrees_same _ _ _ _ refl c.push_event.ensures.rest.registered

pub returns-in-Kept-clause-agrees : goal.returns-in-Kept-clause-agrees
returns-in-Kept-clause-agrees g c = agrees_same _ _ _ _ refl c.push_event.ensures.rest.registered

pub returns-in-Nothing-clause-books : goal.returns-in-Nothing-clause-books
returns-in-Nothing-clause-books g c = λ records. keeps_pass c.args.unit.now records _ _ c.push_event.ensures.passes

pub returns-in-Put-clause-books : goal.returns-in-Put-clause-books
returns-in-Put-clause-books g c = λ records. keeps_pass c.args.unit.now records _ _ c.push_event.ensures.passes

pub returns-in-Kept-clause-books : goal.returns-in-Kept-clause-books
returns-in-Kept-clause-books g c = λ records. keeps_pass c.args.unit.now records _ _ c.push_event.ensures.passes

pub returns-in-Nothing-clause-answers : goal.returns-in-Nothing-clause-answers
returns-in-Nothing-clause-answers g c = λ records alone has. owes_seen _ _ (seen_pushes _ _ _ c.push_event.ensures.rest) refl refl refl refl refl refl refl has

pub returns-in-Put-clause-answers : goal.returns-in-Put-clause-answers
returns-in-Put-clause-answers g c = λ records alone has. owes_seen _ _ (seen_pushes _ _ _ c.push_event.ensures.rest) refl refl refl refl refl refl refl has

pub returns-in-Kept-clause-answers : goal.returns-in-Kept-clause-answers
returns-in-Kept-clause-answers g c = λ records alone has. owes_seen _ _ (seen_pushes _ _ _ c.push_event.ensures.rest) refl refl refl refl refl refl refl has

pub returns-in-Nothing-clause-idle : goal.returns-in-Nothing-clause-idle
returns-in-Nothing-clause-idle g c = λ alone none. (pushes_none _ _ _ alone none c.push_event.ensures.rest c.in-Nothing.ensures.nothing, c.push_event.ensures.windows.client)

pub returns-in-Put-clause-idle : goal.returns-in-Put-clause-idle
returns-in-Put-clause-idle g c = λ alone none. absurd (none_kept _ none c.in-Put.ensures.put.some)

pub returns-in-Kept-clause-idle : goal.returns-in-Kept-clause-idle
returns-in-Kept-clause-idle g c = λ alone none. absurd (none_kept _ none c.in-Kept.ensures.still.some)

pub returns-in-Nothing-clause-aside : goal.returns-in-Nothing-clause-aside
returns-in-Nothing-clause-aside g c = λ records alone.
    inr (settles_event _ c.args.unit.now c.args.unit.now.moved (g.S.Site.state c.args.site.now) (g.S.Site.state c.push_event.new.self) records alone c.push_event.ensures.windows c.push_event.ensures.rest
    c.in-Nothing.ensures.nothing.kept (lost_settles _ _ _ _ c.in-Nothing.ensures.nothing.loses))

pub returns-in-Put-clause-aside : goal.returns-in-Put-clause-aside
returns-in-Put-clause-aside g c = λ records alone.
    inr (settles_event _ c.args.unit.now true (g.S.Site.state c.args.site.now) (g.S.Site.state c.push_event.new.self) records alone c.push_event.ensures.windows c.push_event.ensures.rest
    c.in-Put.ensures.put.kept (put_settles _ _ _ _ c.in-Put.ensures.put.some c.in-Put.ensures.put.puts))

pub returns-in-Kept-clause-aside : goal.returns-in-Kept-clause-aside
returns-in-Kept-clause-aside g c = λ records alone.
    inl (calls_only c.args.unit.now (g.S.Site.state c.args.site.now) (g.S.Site.state c.push_event.new.self) records c.push_event.ensures.windows c.push_event.ensures.rest.place c.push_event.ensures.rest.last_session
    c.push_event.ensures.rest.taken c.push_event.ensures.rest.registered c.in-Kept.ensures.still.kept c.in-Kept.ensures.still.full.sent (c.push_event.ensures.rest.counts.same_session alone))
