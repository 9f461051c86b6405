use Rattle.std.proofs.Common.{refl, ap, drop, ◌∙◌}
use Rattle.vio_num.specs.declared.history.Lapse.TheVariants.{Logout}
use Rattle.block_server.specs.Books.{is_up}
use Rattle.block_server.specs.Receipts.{is_ended}
use Rattle.block_server.specs.declared.line.Line.{Line}
use Rattle.block_server.specs.declared.logins.Logins.{Logins}
use Rattle.block_server.proofs.Booking.{line_same}
use Rattle.block_server.proofs.Keeping.{keeps_left, moved_to}
use Rattle.block_server.proofs.Onces.{once_cleared}
use Rattle.block_server.proofs.Taking.{lines_pushed}
use Rattle.std.proofs.Common.{◌∷◌, []}
use Rattle.block_server.proofs.Owing.{no_login, owes_on}
use Rattle.block_server.proofs.OwingCalls.{logout_front}
use Rattle.block_server.specs.Owed.{row_in}
use Rattle.vio_num.specs.declared.history.Grant.TheVariants.{Lapsed}
use Rattle.block_server.specs.Cargo.{is_moving}
use Rattle.block_server.proofs.Cargoes.{named_keeps, none_keeps}
use Rattle.block_server.proofs.Ledgers.{explains_settled, on_ends}
use Rattle.block_server.proofs.Taking.{ended_stands, waiting_stands}
use Rattle.block_server.specs.Refusals.{ledger_at}
use Rattle.std.proofs.Common.{ℕ}
use Rattle.std.proofs.Common.{◌++◌}
use Rattle.block_server.proofs.Listening.{replies_none}
use Rattle.block_server.proofs.answering.log_out.Goals as goal

pub returns-clause-once : goal.returns-clause-once
returns-clause-once c = λ q disk serving.
    once_cleared _ _ q.sent q.sent _ _ c.finish.ensures.id c.finish.ensures.stage (c.finish.ensures.kept ∙ c.requires.none) refl refl disk c.finish.ensures.pending serving

pub returns-clause-lines : goal.returns-clause-lines
returns-clause-lines c = lines_pushed _ _ _ _ _ c.push_reserved.ensures.items refl tt

pub returns-clause-books : goal.returns-clause-books
returns-clause-books c = λ next front rest parts other none judged is.
    moved_to _ _ judged c.finish.ensures.id refl refl (ap (λ (logins : Logins). logins.current) c.finish.ensures.logins ∙ c.end-login.ensures.current)
    (ap (λ (logins : Logins). logins.last) c.finish.ensures.logins ∙ c.end-login.ensures.last) (ap (λ (logins : Logins). logins.taking) c.finish.ensures.logins ∙ c.end-login.ensures.taking)
    c.finish.ensures.stage (c.finish.ensures.kept ∙ c.requires.none) (c.finish.ensures.pending ∙ ap (drop 1) parts) refl
    (line_same _ _ _ _ _ _ _ _ _ _ _ c.push_reserved.ensures.items refl refl c.end-login.ensures.ended) (ap is_ended c.finish.ensures.line) (ap (λ (line : Line). is_up line.handshake) c.finish.ensures.line) refl
    (keeps_left _ front rest 0 0 _ judged parts other none is)

pub returns-clause-answers : goal.returns-clause-answers
returns-clause-answers c = λ q front rest parts none has.
    owes_on _ _ (Lapsed c.args.unit.now.id c.args.session c.end-login.result Logout 0 0 ∷ []) c.finish.ensures.id refl (ap is_ended c.finish.ensures.line) c.push_reserved.ensures.items
    (λ at row there lacks. (there, λ in_service. absurd (logout_front _ front rest at parts none has in_service)))
    (ap row_in c.finish.ensures.stage)
    (λ some. absurd (no_login _ (ap (λ (logins : Logins). logins.current) c.finish.ensures.logins ∙ c.end-login.ensures.current) some)) has

pub returns-clause-cargo : goal.returns-clause-cargo
returns-clause-cargo c = λ shown shown' same none. named_keeps _ _ _ _ _ _ _ _ c.finish.ensures.id (none_keeps _ _ _ shown shown' _ _ same none (ap is_moving c.finish.ensures.stage) refl)

pub returns-clause-refuses : goal.returns-clause-refuses
returns-clause-refuses c = λ queue taken answers first rest present parts other.
    explains_settled (ledger_at c.args.unit.now queue taken answers c.args.records.now) _ (Lapsed c.args.unit.now.id c.args.session c.end-login.result Logout 0 0) first rest parts other refl refl (waiting_stands _ _ c.finish.ensures.stands)
    (ended_stands _ _ c.finish.ensures.stands) c.finish.ensures.pending c.push_reserved.ensures.items (λ Hears unit. tt) refl refl
    (on_ends (ledger_at c.args.unit.now queue taken answers c.args.records.now) _ (Lapsed c.args.unit.now.id c.args.session c.end-login.result Logout 0 0) c.end-login.result Logout 0 0
    (ap (λ (n : ℕ). Lapsed c.args.unit.now.id n c.end-login.result Logout 0 0) present) c.finish.ensures.id
    (ap (λ (l : Logins). l.current) c.finish.ensures.logins ∙ c.end-login.ensures.current) refl c.push_reserved.ensures.items)

pub returns-clause-out : goal.returns-clause-out
returns-clause-out c = λ q at. record {
  over = record { pending = c.finish.ensures.pending; line = c.finish.ensures.line; waiting = waiting_stands _ _ c.finish.ensures.stands; stage = c.finish.ensures.stage };
  put = replies_none q q refl;
  last = ap (λ (l : Logins). l.last) c.finish.ensures.logins ∙ c.end-login.ensures.last;
  current = ap (λ (l : Logins). l.current) c.finish.ensures.logins ∙ c.end-login.ensures.current;
  taking = ap (λ (l : Logins). l.taking) c.finish.ensures.logins ∙ c.end-login.ensures.taking;
  granted = ap (λ (l : Logins). l.granted) c.finish.ensures.logins ∙ c.end-login.ensures.granted;
  lines_are = c.push_reserved.ensures.items
      ∙ (λ i. c.args.records.now.grants.items ++ Lapsed c.args.unit.now.id (at i) (c.end-login.ensures.ended i) Logout 0 0 ∷ []);
}
