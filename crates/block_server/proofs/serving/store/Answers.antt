use Rattle.block_server.proofs.CopyKinds.{same_total, shown_in}
use Rattle.std.proofs.Common.{ap, refl}
use Rattle.crq_session.specs.EndState.{EndState}
use Rattle.block_server.specs.Answering.{responses}
use Rattle.block_server.proofs.Staging.{not_given}
use Rattle.block_server.proofs.Onces.{once_same}
use Rattle.block_server.proofs.Serves.{once_stored}
use Rattle.block_server.proofs.Working.{one_given, one_same}
use Rattle.block_server.specs.declared.service.Stage.TheVariants.{DataIn, Given}
use Rattle.block_server.proofs.Hands.{keeps_same}
use Rattle.block_server.proofs.Sendings.{given_shown, stored}
use Rattle.std.proofs.Common.{rules, subst, ◌≡◌}
use Rattle.block_server.specs.Cargo.{AreShown}
use Rattle.block_server.proofs.ComingStages.{other_entry}
use Rattle.block_server.specs.Standing.{stood}
use Rattle.block_server.proofs.Stood.{knows_then}
use Rattle.block_server.specs.Stage.{is_given}
use Rattle.block_server.proofs.BearingRows.{stored_at}
use Rattle.block_server.proofs.serving.store.Goals as goal

pub returns-in_err-write_data-clause-once : goal.returns-in_err-write_data-clause-once
returns-in_err-write_data-clause-once g c = λ id credits rest records disk serving.
    once_same _ _ _ _ _ _ refl refl (ap (λ (q : EndState). responses q.sent) c.write_data.ensures.queue) disk serving

pub returns-in_ok-write_data-clause-once : goal.returns-in_ok-write_data-clause-once
returns-in_ok-write_data-clause-once g c = λ id credits rest records disk serving.
    once_stored _ _ _ _ _ _ c.in-Given.row c.in-Given.reply c.start.result refl refl c.in-Given.is refl refl refl refl
    (ap (λ (q : EndState). responses q.sent) c.write_data.ensures.queue) disk serving

pub returns-in_default-clause-once : goal.returns-in_default-clause-once
returns-in_default-clause-once g c = λ id credits rest records disk serving. once_same _ _ _ _ _ _ refl refl refl disk serving

pub returns-in_default-clause-went : goal.returns-in_default-clause-went
returns-in_default-clause-went g c = λ before. (before, not_given _ (λ row reply is. c.in_default.not-Given row reply is))

pub returns-in_err-write_data-clause-books : goal.returns-in_err-write_data-clause-books
returns-in_err-write_data-clause-books g c = λ id session rows. one_same _ _ _ _ _ _ _ refl refl

pub returns-in_ok-write_data-clause-books : goal.returns-in_ok-write_data-clause-books
returns-in_ok-write_data-clause-books g c = λ id session rows.
    one_given _ _ _ _ _ _ (Given c.in-Given.row c.in-Given.reply) (DataIn c.in-Given.row c.in-Given.reply c.start.result) c.in-Given.is refl refl refl (λ current pending at. at)

pub returns-in_default-clause-books : goal.returns-in_default-clause-books
returns-in_default-clause-books g c = λ id session rows. one_same _ _ _ _ _ _ _ refl refl

pub returns-in_default-clause-cargo : goal.returns-in_default-clause-cargo
returns-in_default-clause-cargo g c = λ id rows first. keeps_same _ _ refl

pub returns-in_err-write_data-clause-cargo : goal.returns-in_err-write_data-clause-cargo
returns-in_err-write_data-clause-cargo g c = λ id rows first. given_shown _ _ _ _ _ c.in-Given.row c.in-Given.reply (same_total _ _ _ _ c.write_data.ensures.advances.own_place c.write_data.ensures.none) c.in-Given.is

pub returns-in_ok-write_data-clause-cargo : goal.returns-in_ok-write_data-clause-cargo
returns-in_ok-write_data-clause-cargo g c = λ id rows first.
    let same : c.deref.result.now ≡ c.args.service.now.given.items = search (rules, c.deref.ensures) in
    stored _ _ _ _ _ _ c.in-Given.row c.in-Given.reply c.start.result c.in-Given.is refl c.start.ensures refl refl
    (same_total _ _ _ _ c.write_data.ensures.advances.own_place c.write_data.ensures.none)
    (subst (AreShown _) same (shown_in _ _ _ c.in_ok-write_data.ensures.shown))

pub returns-in_err-write_data-clause-entry : goal.returns-in_err-write_data-clause-entry
returns-in_err-write_data-clause-entry g c = λ is. refl

pub returns-in_ok-write_data-clause-entry : goal.returns-in_ok-write_data-clause-entry
returns-in_ok-write_data-clause-entry g c = λ is. absurd (other_entry _ _ c.in-Given.is refl is)

pub returns-in_default-clause-entry : goal.returns-in_default-clause-entry
returns-in_default-clause-entry g c = λ is. refl

pub returns-in_default-clause-suits : goal.returns-in_default-clause-suits
returns-in_default-clause-suits g c = λ current order old. old

pub returns-in_ok-write_data-clause-suits : goal.returns-in_ok-write_data-clause-suits
returns-in_ok-write_data-clause-suits g c = λ current order old. tt

pub returns-in_default-clause-made : goal.returns-in_default-clause-made
returns-in_default-clause-made g c = λ granted old. old

pub returns-in_ok-write_data-clause-made : goal.returns-in_ok-write_data-clause-made
returns-in_ok-write_data-clause-made g c = λ granted old. tt

pub returns-in_default-clause-stood : goal.returns-in_default-clause-stood
returns-in_default-clause-stood g c = λ command client known. known

pub returns-in_ok-write_data-clause-stood : goal.returns-in_ok-write_data-clause-stood
returns-in_ok-write_data-clause-stood g c = λ command client known.
    knows_then (stood client) command _ (Given c.in-Given.row c.in-Given.reply) c.args.service.now.out.list.items c.args.service.now.inn.list.items c.in-Given.is known

pub returns-in_ok-write_data-clause-stored : goal.returns-in_ok-write_data-clause-stored
returns-in_ok-write_data-clause-stored g c =
    let same : c.deref.result.now ≡ c.args.service.now.given.items = search (rules, c.deref.ensures) in
    stored_at c.args.service.now.stage c.in-Given.row c.in-Given.reply c.start.result c.args.service.now.inn c.args.service.now.given.items _ c.in-Given.is c.start.ensures
    (subst (AreShown _) same c.in_ok-write_data.ensures.shown)

pub returns-in_default-clause-stored : goal.returns-in_default-clause-stored
returns-in_default-clause-stored g c = λ row reply is. absurd (c.in_default.not-Given row reply is)

pub returns-in_err-write_data-clause-unstored : goal.returns-in_err-write_data-clause-unstored
returns-in_err-write_data-clause-unstored g c = λ isnt. refl

pub returns-in_ok-write_data-clause-unstored : goal.returns-in_ok-write_data-clause-unstored
returns-in_ok-write_data-clause-unstored g c = λ isnt. absurd (cc (isnt, ap is_given c.in-Given.is))

pub returns-in_default-clause-unstored : goal.returns-in_default-clause-unstored
returns-in_default-clause-unstored g c = λ isnt. refl
