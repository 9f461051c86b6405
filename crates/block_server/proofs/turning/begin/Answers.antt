use Rattle.std.proofs.Common.{ap, le_refl, refl, true}
use Rattle.block_server.proofs.Agreeing.{is_waiting}
use Rattle.block_server.proofs.GoingOn.{begun_ended}
use Rattle.block_server.proofs.Onces.{once_same}
use Rattle.block_server.proofs.Quieting.{stays_moved}
use Rattle.block_server.proofs.Taking.{id_stands, waiting_stands}
use Rattle.block_server.specs.Books.{as_begun, books_at, is_up}
use Rattle.block_server.proofs.Keeping.{moved_to}
use Rattle.block_server.proofs.Owing.{owes_ended}
use Rattle.block_server.proofs.Ledgers.{explains_begun}
use Rattle.block_server.specs.Refusals.{ledger_of}
use Rattle.std.proofs.Common.{inr}
use Rattle.std.proofs.Common.{◌∙◌, sym, true≢false}
use Rattle.block_server.specs.Talk.{reach_of}
use Rattle.block_server.proofs.FirstTurns.{begins_alone, stays_alone}
use Rattle.block_server.proofs.Asides.{begun_reply, is_initialize, not_initialize}
use Rattle.block_server.proofs.turning.begin.Goals as goal

pub returns-in-Some-clause-once : goal.returns-in-Some-clause-once
returns-in-Some-clause-once g c = c.put_reply-next.ensures.once

pub returns-in-Some-clause-moved : goal.returns-in-Some-clause-moved
returns-in-Some-clause-moved g c = stays_moved _ _ _ _ c.put_reply-next.ensures.quiet refl

pub returns-in-Some-clause-agrees : goal.returns-in-Some-clause-agrees
returns-in-Some-clause-agrees g c = c.put_reply-next.ensures.agrees (is_waiting _ _ c.registered.ensures.state c.requires.on)

pub returns-in_default-clause-once : goal.returns-in_default-clause-once
returns-in_default-clause-once g c = λ records disk serving. once_same _ _ _ _ _ _ refl refl refl disk serving

pub returns-in_default-clause-agrees : goal.returns-in_default-clause-agrees
returns-in_default-clause-agrees g c = is_waiting _ _ c.registered.ensures.state c.requires.on

pub returns-in-Some-clause-id : goal.returns-in-Some-clause-id
returns-in-Some-clause-id g c = id_stands _ _ c.put_reply-next.ensures.stands

pub returns-in-Some-clause-waiting : goal.returns-in-Some-clause-waiting
returns-in-Some-clause-waiting g c = waiting_stands _ _ c.put_reply-next.ensures.stands

pub returns-in-Some-clause-books : goal.returns-in-Some-clause-books
returns-in-Some-clause-books g c = λ records none off judged is.
    c.put_reply-next.ensures.books records judged
    (moved_to (as_begun (books_at c.args.unit.now (g.S.Site.state c.args.site.now) records)) _ judged refl refl refl refl refl refl refl refl refl refl refl
    (begun_ended _ _ c.requires.stays c.registered.ensures.state) (ap is_up c.registered.ensures.state) refl is)

pub returns-in_default-clause-books : goal.returns-in_default-clause-books
returns-in_default-clause-books g c = λ records none off judged is.
    moved_to (as_begun (books_at c.args.unit.now (g.S.Site.state c.args.site.now) records)) _ judged refl refl refl refl refl refl refl refl refl refl refl
    (begun_ended _ _ c.requires.stays c.registered.ensures.state) (ap is_up c.registered.ensures.state) refl is

pub returns-in-Some-clause-answers : goal.returns-in-Some-clause-answers
returns-in-Some-clause-answers g c = λ records over alone has.
    c.put_reply-next.ensures.answers records alone (owes_ended _ _ over refl refl refl refl refl refl has)

pub returns-in_default-clause-answers : goal.returns-in_default-clause-answers
returns-in_default-clause-answers g c = λ records over alone has. owes_ended _ _ over refl refl refl refl refl refl has

pub returns-in-Some-clause-refuses : goal.returns-in-Some-clause-refuses
returns-in-Some-clause-refuses g c = λ records over fresh told unit front is.
    c.put_reply-next.ensures.refuses records told unit front (explains_begun (ledger_of c.args.unit.now (g.S.Site.state c.args.site.now) records) _ over refl refl refl refl refl (inr fresh) (le_refl (g.S.Site.state c.args.site.now).queue.last_session) refl refl told unit front is)

pub returns-in_default-clause-refuses : goal.returns-in_default-clause-refuses
returns-in_default-clause-refuses g c = λ records over fresh. explains_begun _ _ over refl refl refl refl refl (inr fresh) (le_refl (g.S.Site.state c.args.site.now).queue.last_session) refl refl

pub returns-in-Some-clause-alone : goal.returns-in-Some-clause-alone
returns-in-Some-clause-alone g c = λ alone off.
    begins_alone c.args.unit.now _ c.put_reply-next.new.unit (reach_of (g.S.Site.state c.args.site.now)) (reach_of (g.S.Site.state c.put_reply-next.new.site)) _
    (c.put_reply-next.ensures.hears alone c.requires.on (λ on. absurd (true≢false (sym on ∙ off)))).1 c.put_reply-next.ensures.event off
    (record {
      id = refl;
      handshake = c.registered.ensures.state;
      closing = refl;
      kept = refl;
      waiting = refl;
      stage = refl;
      logins = refl;
      pending = refl;
    })

pub returns-in_default-clause-alone : goal.returns-in_default-clause-alone
returns-in_default-clause-alone g c = λ alone off.
    stays_alone c.args.unit.now _ (reach_of (g.S.Site.state c.args.site.now))
    (record {
      id = refl;
      handshake = c.registered.ensures.state;
      closing = refl;
      kept = refl;
      waiting = refl;
      stage = refl;
      logins = refl;
      pending = refl;
    })

pub returns-in-Some-clause-aside : goal.returns-in-Some-clause-aside
returns-in-Some-clause-aside g c = λ records alone.
    begun_reply c.args.unit.now c.registered.new.self (g.S.Site.state c.args.site.now) records _ c.in-Some.initialize c.requires.stays c.registered.ensures.state
    (is_initialize _ _ _ c.in-Some.is c.reply_of.ensures.reply c.registered.ensures.step) (c.put_reply-next.ensures.aside records alone)

pub returns-in_default-clause-aside : goal.returns-in_default-clause-aside
returns-in_default-clause-aside g c = λ records alone. absurd (not_initialize _ _ (λ entry is. c.in_default.not-Some entry is) c.reply_of.ensures.reply c.registered.ensures.step)
