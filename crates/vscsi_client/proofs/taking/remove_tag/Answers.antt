use Rattle.std.proofs.Common.{◌∙◌, ◌==◌, ap, sym, position}
use Rattle.vscsi_client.specs.declared.outgoing.Outgoing.{Outgoing}
use Rattle.vscsi_client.proofs.Requests.{removed_at, not_there}
use Rattle.vscsi_client.proofs.taking.remove_tag.Goals as goal

default : Outgoing
default = record { tag = 0; slot = 0; pages = record { first = 0; end = 0 }; table = record { first = 0; end = 0 } }

pub returns-in-Some : goal.returns-in-Some
returns-in-Some c = c.remove.ensures.items
    ∙ removed_at c.args.tag c.in-Some.at default c.args.outgoing.now.items
    (sym c.in-Some.is ∙ (c.place_of.ensures.first ∙ ap (position (λ (o : Outgoing). o.tag == c.args.tag)) c.deref.ensures.0))

pub returns-in_default : goal.returns-in_default
returns-in_default c = sym (not_there c.args.tag c.args.outgoing.now.items
    (sym c.in_default.is ∙ (c.place_of.ensures.first ∙ ap (position (λ (o : Outgoing). o.tag == c.args.tag)) c.deref.ensures.0)))
