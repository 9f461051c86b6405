use Rattle.std.proofs.Common.{◌∙◌, [], Ok, refl, ap}
use Rattle.vscsi_client.proofs.Parts.{err_after, no_go_on, ended_turn, paused_took, paused_after, put_all}
use Rattle.vscsi_client.proofs.client.Client.turn_registered.Goals as goal

pub unreachable-requires : goal.unreachable-requires
unreachable-requires g c = no_go_on 0 _ _ _ _ c.take_all.result (c.in-Ok-GoOn.is ∙ ap Ok c.in-Ok-GoOn.field-0-is) (c.take_all.ensures.did 0)

pub returns-in-Err-clause-turned : goal.returns-in-Err-clause-turned
returns-in-Err-clause-turned g c =
    err_after _ _ c.args.line _ _ _ _ _ c.take_all.result _ _ [] c.in-Err.is refl refl (c.take_all.ensures.did c.args.line)

pub returns-in-Ok-End-clause-turned : goal.returns-in-Ok-End-clause-turned
returns-in-Ok-End-clause-turned g c =
    ended_turn c.args.line _ _ _ _ c.in-Ok-End.turn c.take_all.result (c.in-Ok-End.is ∙ ap Ok c.in-Ok-End.field-0-is) (c.take_all.ensures.did c.args.line)

pub returns-in-Err-put_due-clause-turned : goal.returns-in-Err-put_due-clause-turned
returns-in-Err-put_due-clause-turned g c =
    let taken = paused_took c.args.line _ _ _ _ c.take_all.result (c.in-Ok-Pause.is ∙ ap Ok c.in-Ok-Pause.field-0-is) (c.take_all.ensures.did c.args.line) in
    err_after _ _ c.args.line _ _ _ _ _ c.put_due.result _ _ taken.steps c.in-Err-put_due.is taken.runs taken.ends.0 c.put_due.ensures.did

pub returns-in-Ok-clause-turned : goal.returns-in-Ok-clause-turned
returns-in-Ok-clause-turned g c =
    let taken = paused_took c.args.line _ _ _ _ c.take_all.result (c.in-Ok-Pause.is ∙ ap Ok c.in-Ok-Pause.field-0-is) (c.take_all.ensures.did c.args.line) in
    paused_after c.args.line _ _ _ _ taken (c.put_due.ensures.crq_rest.registered ∙ (c.take_all.ensures.crq_rest.registered ∙ c.requires.registered)) c.put_due.ensures.held
    (put_all c.args.line _ _ c.put_due.result c.put_due.new.self c.in-Ok.is c.put_due.ensures.did)
