use Rattle.std.proofs.Common.{ap, refl, take, ◌∙◌, ℕ}
use Rattle.block_server.specs.Cargo.{is_moving}
use Rattle.block_server.proofs.Cargoes.{cut_at_given, cut_at_sending, none_keeps, other_stage}
use Rattle.block_server.proofs.answering.cut_data.Goals as goal

pub returns-in-Given-clause-cargo : goal.returns-in-Given-clause-cargo
returns-in-Given-clause-cargo c = λ id shown shown' after same start.
    cut_at_given id c.args.service.now after shown shown' _ _ c.in-Given.row c.in-Given.reply _ same c.in-Given.is (ap is_moving start) c.take_given.ensures.given c.fill.ensures.rows

pub returns-in-DataIn-clause-cargo : goal.returns-in-DataIn-clause-cargo
returns-in-DataIn-clause-cargo c = λ id shown shown' after same start.
    cut_at_sending id c.args.service.now after shown shown' _ _ c.in-DataIn.row c.in-DataIn.reply c.in-DataIn.cursor _ same c.in-DataIn.is (ap is_moving start)
    (c.take_given-in-DataIn.ensures.given ∙ ap (λ (n : ℕ). take n c.args.service.now.given.items) c.done.ensures) c.fill-in-DataIn.ensures.rows

pub returns-in_default-clause-cargo : goal.returns-in_default-clause-cargo
returns-in_default-clause-cargo c = λ id shown shown' after same start.
    none_keeps id c.args.service.now after shown shown' _ _ same
    (other_stage _ (λ row reply is. c.in_default.not-Given row reply is) (λ row reply cursor is. c.in_default.not-DataIn row reply cursor is)) (ap is_moving start) refl
