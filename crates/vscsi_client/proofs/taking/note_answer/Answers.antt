use Rattle.std.proofs.Common.{◌≤◌, ◌<◌, Contains, All, subst, sym, ap, length, ◌∙◌, length-set}
use Rattle.srp_credits.specs.History.{without}
use Rattle.vscsi_client.specs.declared.outgoing.Outgoing.{Outgoing}
use Rattle.vscsi_client.specs.State.{tags_of}
use Rattle.vscsi_client.proofs.Requests.{tag_there, tags-without, All-without, All-without_tag, granted_kept}
use Rattle.vscsi_client.proofs.taking.note_answer.Goals as goal

pub unreachable-requires : goal.unreachable-requires
unreachable-requires c =
    let there : Contains c.args.credits.now.tags c.args.tag = subst (λ ts. Contains ts c.args.tag) (sym c.requires.requests.tags) (tag_there c.args.tag c.args.outgoing.now.items c.requires.there) in
    cc (c.in_default.ensures.ok.1 there)

pub returns-clause-granted : goal.returns-clause-granted
returns-clause-granted c =
    let there : Contains c.args.credits.now.tags c.args.tag = subst (λ ts. Contains ts c.args.tag) (sym c.requires.requests.tags) (tag_there c.args.tag c.args.outgoing.now.items c.requires.there) in
    granted_kept c.args.credits.now c.answered.new.self c.args.tag c.outstanding.ensures.history there c.in-Ok.ensures.tags c.in-Ok.ensures.limit

pub returns-clause-requests : goal.returns-clause-requests
returns-clause-requests c = record {
  tags = c.in-Ok.ensures.tags ∙ (ap (without c.args.tag) c.requires.requests.tags ∙ (sym (tags-without c.args.tag c.args.outgoing.now.items) ∙ ap tags_of (sym c.remove_tag.ensures)));
  used = subst (λ n. All (λ tag. (1 ≤ tag) × (tag ≤ n)) c.answered.new.self.tags) (sym (ap length c.answer_row.ensures ∙ length-set _ _ _))
      (subst (All (λ tag. (1 ≤ tag) × (tag ≤ length c.args.rows.now.items))) (sym c.in-Ok.ensures.tags)
      (All-without (λ tag. (1 ≤ tag) × (tag ≤ length c.args.rows.now.items)) c.args.tag c.args.credits.now.tags c.requires.requests.used));
  slots = subst (All (λ (o : Outgoing). o.slot < 200)) (sym c.remove_tag.ensures) (All-without_tag (λ (o : Outgoing). o.slot < 200) c.args.tag c.args.outgoing.now.items c.requires.requests.slots);
}
