use Rattle.std.proofs.Common.{◌≡◌, ◌∙◌, sym, ap}
use Rattle.vscsi_client.specs.declared.stage.Stage.{Stage}
use Rattle.vscsi_client.specs.State.{ClientState, stage_uses}
use Rattle.vscsi_client.proofs.FreeSlots.{the_logins, not_idle, of_stage}
use Rattle.vscsi_client.proofs.client.Client.slot_of_login.Goals as goal

pub unreachable-requires : goal.unreachable-requires
unreachable-requires c =
    let found = the_logins c.args.self.now c.requires.full c.requires.few c.requires.over in
    let login : c.self.inside.login ≡ c.args.self.now.login = ap (λ (s : ClientState). s.login) c.self.view_is in
    not_idle _ _ _ found.0 found.1 (sym login ∙ c.in-Idle.is)

pub returns-in-Written : goal.returns-in-Written
returns-in-Written c =
    let found = the_logins c.args.self.now c.requires.full c.requires.few c.requires.over in
    let login : c.self.inside.login ≡ c.args.self.now.login = ap (λ (s : ClientState). s.login) c.self.view_is in
    of_stage _ _ _ found.0 _ found.1 (ap (λ (t : Stage). stage_uses t found.0) (sym login ∙ c.in-Written.is))

pub returns-in-Sent : goal.returns-in-Sent
returns-in-Sent c =
    let found = the_logins c.args.self.now c.requires.full c.requires.few c.requires.over in
    let login : c.self.inside.login ≡ c.args.self.now.login = ap (λ (s : ClientState). s.login) c.self.view_is in
    of_stage _ _ _ found.0 _ found.1 (ap (λ (t : Stage). stage_uses t found.0) (sym login ∙ c.in-Sent.is))
