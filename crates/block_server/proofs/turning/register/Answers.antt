use Rattle.block_server.proofs.Deciding.{judges_session}
use Rattle.block_server.proofs.Jointly.{works_pass}
use Rattle.std.proofs.Common.{inr, refl}
use Rattle.block_server.proofs.Advancing.{advances_on}
use Rattle.block_server.proofs.Agreeing.{agrees_same}
use Rattle.block_server.proofs.Onces.{once_on, once_same}
use Rattle.block_server.proofs.Readying.{register_same, register_stops}
use Rattle.block_server.proofs.Taking.{lines_same, passes_windows, takes_none, takes_session}
use Rattle.block_server.proofs.GoingOn.{down_ended, register_session}
use Rattle.block_server.proofs.Jointly.{keeps_pass, keeps_registered}
use Rattle.block_server.proofs.Owing.{owes_ended}
use Rattle.block_server.proofs.Ledgers.{explains_begun}
use Rattle.block_server.specs.Refusals.{ledger_of}
use Rattle.std.proofs.Common.{inl}
use Rattle.block_server.proofs.ComingParts.{comes_none, less_later, register_still, work_begun, work_later}
use Rattle.block_server.specs.Steps.{NoStage}
use Rattle.block_server.specs.Talk.{reach_of}
use Rattle.block_server.proofs.FirstTurns.{opens_not, opens_unit}
use Rattle.block_server.proofs.Asides.{calls_unregistered, opens_line}
use Rattle.block_server.proofs.turning.register.Goals as goal

pub returns-in_default-clause-once : goal.returns-in_default-clause-once
returns-in_default-clause-once g c = λ records disk serving. once_same _ _ _ _ _ _ refl refl c.register.ensures.plain disk serving

pub returns-in_default-clause-waits : goal.returns-in_default-clause-waits
returns-in_default-clause-waits g c = λ moved.
    register_stops _ _ _ _ c.register.result (λ is. c.in_default.not-Success is) (λ control is. c.in_default.not-Closed control is) c.requires.down
    c.register.ensures.busy c.register.ensures.refused c.register.ensures.stands

pub returns-in_default-clause-agrees : goal.returns-in_default-clause-agrees
returns-in_default-clause-agrees g c =
    agrees_same _ _ _ _ refl
    (register_same _ _ _ c.register.result (λ is. c.in_default.not-Success is) (λ control is. c.in_default.not-Closed control is)
    c.register.ensures.busy c.register.ensures.refused)

pub returns-in-Success-clause-once : goal.returns-in-Success-clause-once
returns-in-Success-clause-once g c = λ records.
    once_on _ _ _ _ _ _ _ _ _ (λ disk serving. once_same _ _ _ _ _ _ refl refl c.register.ensures.plain disk serving) (c.begin.ensures.once records)

pub returns-in-Success-clause-advances : goal.returns-in-Success-clause-advances
returns-in-Success-clause-advances g c = advances_on _ _ _ c.register.ensures.advances c.begin.ensures.advances

pub returns-in-Success-clause-agrees : goal.returns-in-Success-clause-agrees
returns-in-Success-clause-agrees g c = λ is. c.begin.ensures.agrees

pub returns-in-Closed-clause-once : goal.returns-in-Closed-clause-once
returns-in-Closed-clause-once g c = λ records.
    once_on _ _ _ _ _ _ _ _ _ (λ disk serving. once_same _ _ _ _ _ _ refl refl c.register.ensures.plain disk serving) (c.begin-in-Closed.ensures.once records)

pub returns-in-Closed-clause-advances : goal.returns-in-Closed-clause-advances
returns-in-Closed-clause-advances g c = advances_on _ _ _ c.register.ensures.advances c.begin-in-Closed.ensures.advances

pub returns-in-Closed-clause-agrees : goal.returns-in-Closed-clause-agrees
returns-in-Closed-clause-agrees g c = λ is. c.begin-in-Closed.ensures.agrees

pub returns-in_default-clause-intake : goal.returns-in_default-clause-intake
returns-in_default-clause-intake g c = λ records.
    let session = register_session _ _ _ c.register.result (λ is. c.in_default.not-Success is) (λ control is. c.in_default.not-Closed control is) c.register.ensures.busy c.register.ensures.refused in
    takes_none _ _ _ _ _ _ refl c.register.ensures.advances (passes_windows _ _ session c.register.ensures.rest.taken c.register.ensures.windows) (lines_same _ _ _ _ refl)

pub returns-in-Success-clause-intake : goal.returns-in-Success-clause-intake
returns-in-Success-clause-intake g c = λ records.
    takes_session _ _ _ _ _ _ _ (down_ended _ _ c.requires.down) c.in-Success.ensures.opened.session c.register.ensures.rest.taken c.register.ensures.windows
    c.begin.ensures.passes (advances_on _ _ _ c.register.ensures.advances c.begin.ensures.advances) c.begin.ensures.id c.begin.ensures.granted c.begin.ensures.waiting refl

pub returns-in-Closed-clause-intake : goal.returns-in-Closed-clause-intake
returns-in-Closed-clause-intake g c = λ records.
    takes_session _ _ _ _ _ _ _ (down_ended _ _ c.requires.down) c.in-Closed.ensures.opened.session c.register.ensures.rest.taken c.register.ensures.windows
    c.begin-in-Closed.ensures.passes (advances_on _ _ _ c.register.ensures.advances c.begin-in-Closed.ensures.advances) c.begin-in-Closed.ensures.id c.begin-in-Closed.ensures.granted
    c.begin-in-Closed.ensures.waiting refl

pub returns-in_default-clause-books : goal.returns-in_default-clause-books
returns-in_default-clause-books g c = λ records waiting.
    let session = register_session _ _ _ c.register.result (λ is. c.in_default.not-Success is) (λ control is. c.in_default.not-Closed control is) c.register.ensures.busy c.register.ensures.refused in
    keeps_pass c.args.unit.now records _ _ (passes_windows _ _ session c.register.ensures.rest.taken c.register.ensures.windows)

pub returns-in-Success-clause-books : goal.returns-in-Success-clause-books
returns-in-Success-clause-books g c = λ records waiting.
    keeps_registered c.args.unit.now records (g.S.Site.state c.args.site.now) (g.S.Site.state c.register.new.self) _ (down_ended _ _ c.requires.down) waiting c.in-Success.ensures.opened.session c.register.ensures.rest.taken (c.begin.ensures.books records)

pub returns-in-Closed-clause-books : goal.returns-in-Closed-clause-books
returns-in-Closed-clause-books g c = λ records waiting.
    keeps_registered c.args.unit.now records (g.S.Site.state c.args.site.now) (g.S.Site.state c.register.new.self) _ (down_ended _ _ c.requires.down) waiting c.in-Closed.ensures.opened.session c.register.ensures.rest.taken (c.begin-in-Closed.ensures.books records)

pub returns-in_default-clause-answers : goal.returns-in_default-clause-answers
returns-in_default-clause-answers g c = λ records alone has. owes_ended _ _ (down_ended _ _ c.requires.down) refl refl refl refl refl refl has

pub returns-in-Success-clause-answers : goal.returns-in-Success-clause-answers
returns-in-Success-clause-answers g c = λ records alone has.
    c.begin.ensures.answers records (down_ended _ _ c.requires.down) alone (owes_ended _ _ (down_ended _ _ c.requires.down) refl refl refl refl refl refl has)

pub returns-in-Closed-clause-answers : goal.returns-in-Closed-clause-answers
returns-in-Closed-clause-answers g c = λ records alone has.
    c.begin-in-Closed.ensures.answers records (down_ended _ _ c.requires.down) alone (owes_ended _ _ (down_ended _ _ c.requires.down) refl refl refl refl refl refl has)

pub returns-in_default-clause-judges : goal.returns-in_default-clause-judges
returns-in_default-clause-judges g c = λ records.
    let session = register_session _ _ _ c.register.result (λ is. c.in_default.not-Success is) (λ control is. c.in_default.not-Closed control is) c.register.ensures.busy c.register.ensures.refused in
    (works_pass c.args.unit.now records _ _ c.register.ensures.advances (passes_windows _ _ session c.register.ensures.rest.taken c.register.ensures.windows)).judges

pub returns-in-Success-clause-judges : goal.returns-in-Success-clause-judges
returns-in-Success-clause-judges g c = λ records.
    judges_session _ _ _ _ _ _ _ (down_ended _ _ c.requires.down) c.in-Success.ensures.opened.session c.register.ensures.rest.taken c.register.ensures.windows
    c.begin.ensures.passes (advances_on _ _ _ c.register.ensures.advances c.begin.ensures.advances) c.begin.ensures.waiting refl (returns-in-Success-clause-books g c records)

pub returns-in-Closed-clause-judges : goal.returns-in-Closed-clause-judges
returns-in-Closed-clause-judges g c = λ records.
    judges_session _ _ _ _ _ _ _ (down_ended _ _ c.requires.down) c.in-Closed.ensures.opened.session c.register.ensures.rest.taken c.register.ensures.windows
    c.begin-in-Closed.ensures.passes (advances_on _ _ _ c.register.ensures.advances c.begin-in-Closed.ensures.advances) c.begin-in-Closed.ensures.waiting refl (returns-in-Closed-clause-books g c records)

pub returns-in_default-clause-refuses : goal.returns-in_default-clause-refuses
returns-in_default-clause-refuses g c = λ records. explains_begun _ _ (down_ended _ _ c.requires.down) c.register.ensures.rest.taken refl refl refl c.register.ensures.logins (inl (down_ended _ _ c.requires.down)) c.register.ensures.rest.last_session refl refl

pub returns-in-Success-clause-refuses : goal.returns-in-Success-clause-refuses
returns-in-Success-clause-refuses g c = λ records told unit front is.
    c.begin.ensures.refuses records (down_ended _ _ c.requires.down) c.in-Success.ensures.opened.none_taken told unit front
    (explains_begun (ledger_of c.args.unit.now (g.S.Site.state c.args.site.now) records) (ledger_of c.args.unit.now (g.S.Site.state c.register.new.self) records) (down_ended _ _ c.requires.down) c.register.ensures.rest.taken refl refl refl c.register.ensures.logins (inl (down_ended _ _ c.requires.down)) c.register.ensures.rest.last_session refl refl told unit front is)

pub returns-in-Closed-clause-refuses : goal.returns-in-Closed-clause-refuses
returns-in-Closed-clause-refuses g c = λ records told unit front is.
    c.begin-in-Closed.ensures.refuses records (down_ended _ _ c.requires.down) c.in-Closed.ensures.opened.none_taken told unit front
    (explains_begun (ledger_of c.args.unit.now (g.S.Site.state c.args.site.now) records) (ledger_of c.args.unit.now (g.S.Site.state c.register.new.self) records) (down_ended _ _ c.requires.down) c.register.ensures.rest.taken refl refl refl c.register.ensures.logins (inl (down_ended _ _ c.requires.down)) c.register.ensures.rest.last_session refl refl told unit front is)

pub returns-in_default-clause-comes : goal.returns-in_default-clause-comes
returns-in_default-clause-comes g c =
    comes_none NoStage _ _ _ _
    (register_still _ _ _ c.register.result (λ is. c.in_default.not-Success is) (λ control is. c.in_default.not-Closed control is)
    c.register.ensures.busy c.register.ensures.refused c.register.ensures.rest) refl refl

pub returns-in-Success-clause-comes : goal.returns-in-Success-clause-comes
returns-in-Success-clause-comes g c =
    inl (less_later _ _ _ (work_begun (g.S.Site.state c.args.site.now) (g.S.Site.state c.register.new.self) c.register.ensures.advances c.in-Success.ensures.opened.session)
    (work_later (g.S.Site.state c.register.new.self) (g.S.Site.state c.begin.new.site) c.begin.ensures.advances))

pub returns-in-Closed-clause-comes : goal.returns-in-Closed-clause-comes
returns-in-Closed-clause-comes g c =
    inl (less_later _ _ _ (work_begun (g.S.Site.state c.args.site.now) (g.S.Site.state c.register.new.self) c.register.ensures.advances c.in-Closed.ensures.opened.session)
    (work_later (g.S.Site.state c.register.new.self) (g.S.Site.state c.begin-in-Closed.new.site) c.begin-in-Closed.ensures.advances))

pub returns-in-Success-clause-opens : goal.returns-in-Success-clause-opens
returns-in-Success-clause-opens g c = λ is.
    opens_unit _ c.args.unit.now c.begin.new.unit (reach_of (g.S.Site.state c.args.site.now)) (reach_of (g.S.Site.state c.register.new.self)) (reach_of (g.S.Site.state c.begin.new.site))
    is c.in-Success.ensures.opened c.register.ensures.rest c.register.ensures.windows.client c.begin.ensures.alone

pub returns-in-Closed-clause-opens : goal.returns-in-Closed-clause-opens
returns-in-Closed-clause-opens g c = λ is.
    opens_unit _ c.args.unit.now c.begin-in-Closed.new.unit (reach_of (g.S.Site.state c.args.site.now)) (reach_of (g.S.Site.state c.register.new.self)) (reach_of (g.S.Site.state c.begin-in-Closed.new.site))
    is c.in-Closed.ensures.opened c.register.ensures.rest c.register.ensures.windows.client c.begin-in-Closed.ensures.alone

pub returns-in_default-clause-opens : goal.returns-in_default-clause-opens
returns-in_default-clause-opens g c = λ is.
    absurd (opens_not _ _ _ c.register.result (λ answer. c.in_default.not-Success answer) (λ control answer. c.in_default.not-Closed control answer)
    c.register.ensures.busy c.register.ensures.stands is.unregistered is.event)

pub returns-in_default-clause-aside : goal.returns-in_default-clause-aside
returns-in_default-clause-aside g c = λ records alone.
    inr (calls_unregistered _ c.args.unit.now (g.S.Site.state c.args.site.now) (g.S.Site.state c.register.new.self) records c.register.result alone
    (λ is. c.in_default.not-Success is) (λ control is. c.in_default.not-Closed control is) c.register.ensures.busy c.register.ensures.refused c.register.ensures.windows c.register.ensures.rest)

pub returns-in-Success-clause-aside : goal.returns-in-Success-clause-aside
returns-in-Success-clause-aside g c = λ records alone.
    inl (opens_line _ c.args.unit.now (g.S.Site.state c.args.site.now) (g.S.Site.state c.register.new.self) records _ alone c.requires.down c.register.ensures.windows c.register.ensures.rest
    c.in-Success.ensures.opened (c.begin.ensures.aside records alone))

pub returns-in-Closed-clause-aside : goal.returns-in-Closed-clause-aside
returns-in-Closed-clause-aside g c = λ records alone.
    inl (opens_line _ c.args.unit.now (g.S.Site.state c.args.site.now) (g.S.Site.state c.register.new.self) records _ alone c.requires.down c.register.ensures.windows c.register.ensures.rest
    c.in-Closed.ensures.opened (c.begin-in-Closed.ensures.aside records alone))
