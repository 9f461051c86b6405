use Rattle.std.proofs.Common.{rules, ◌≡◌, ◌∙◌, ◌==◌, ap, refl, length, deque_len, false}
use Rattle.vscsi_client.specs.State.{ClientState}
use Rattle.vscsi_client.proofs.Fetching.{fetches_kept}
use Rattle.vscsi_client.proofs.client.Client.fetch.Goals as goal

pub returns-then-not-is_empty-clause-fetched : goal.returns-then-not-is_empty-clause-fetched
returns-then-not-is_empty-clause-fetched g c =
    fetches_kept g.C.CrqEnd.is_shared c.args.self.now (g.C.CrqEnd.state c.args.crq.now) c.args.self.now.kept refl
    (λ e.
    let len : deque_len c.self.inside.kept ≡ length c.self.inside.kept.items = search rules in
    let items : c.self.inside.kept.items ≡ c.args.self.now.kept = ap (λ (s : ClientState). s.kept) c.self.view_is in
    let zero : deque_len c.self.inside.kept ≡ 0 = len ∙ ap length (items ∙ e) in
    let empty : c.is_empty.result ≡ (0 == 0) = c.is_empty.ensures ∙ ap (λ n. n == 0) zero in
    let not : c.is_empty.result ≡ false = c.if-not-is_empty.true in cc (empty, not))
