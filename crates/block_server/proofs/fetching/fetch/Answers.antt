use Rattle.std.proofs.Common.{◌≡◌, ◌∙◌, Ok, inl, inr, rules}
use Rattle.block_server.specs.declared.fetching.Progress.TheVariants.{Done}
use Rattle.block_server.proofs.Advancing.{advances_on}
use Rattle.block_server.specs.Causes.{told_to}
use Rattle.block_server.specs.Heard.{heard_between}
use Rattle.block_server.proofs.Denying.{buffer_map, tells_first, tells_next}
use Rattle.block_server.proofs.Gathering.{bad_down, if_refused}
use Rattle.block_server.proofs.Readying.{busy_on, if_each, uses_later}
use Rattle.block_server.proofs.Hands.{keeps_same}
use Rattle.block_server.proofs.Stood.{stays_after}
use Rattle.block_server.proofs.fetching.fetch.Goals as goal

pub returns-in_err-progress-2-clause-advances : goal.returns-in_err-progress-2-clause-advances
returns-in_err-progress-2-clause-advances g c = advances_on _ _ _ c.fetch_out_pieces.ensures.advances c.fetch_in_pieces.ensures.advances

pub returns-then-ne-2-clause-advances : goal.returns-then-ne-2-clause-advances
returns-then-ne-2-clause-advances g c = advances_on _ _ _ c.fetch_out_pieces.ensures.advances c.fetch_in_pieces.ensures.advances

pub returns-clause-advances : goal.returns-clause-advances
returns-clause-advances g c = advances_on _ _ _ (advances_on _ _ _ c.fetch_out_pieces.ensures.advances c.fetch_in_pieces.ensures.advances) c.fetch_data_out.ensures.advances

pub returns-clause-queue : goal.returns-clause-queue
returns-clause-queue g c = c.fetch_data_out.ensures.queue ∙ c.fetch_in_pieces.ensures.queue ∙ c.fetch_out_pieces.ensures.queue

pub returns-then-is_refused-clause-refused : goal.returns-then-is_refused-clause-refused
returns-then-is_refused-clause-refused g c = λ told id all known. bad_down (told_to told id) c.args.command.now (c.is_refused.ensures.refused c.if-is_refused.true)

pub returns-then-ne-clause-refused : goal.returns-then-ne-clause-refused
returns-then-ne-clause-refused g c = λ told id all known.
    if_refused (Ok c.in_ok-progress.progress) _ _ (λ is. inl (buffer_map (heard_between (g.S.Site.state c.args.site.now) (g.S.Site.state c.fetch_out_pieces.new.site)) (told_to told id) c.args.command.now.out all is)) c.in_ok-progress.ensures.refused

pub returns-then-ne-2-clause-refused : goal.returns-then-ne-2-clause-refused
returns-then-ne-2-clause-refused g c = λ told id all known.
    if_refused (Ok c.in_ok-progress-2.progress) _ _
    (λ is. inr (inl (buffer_map (heard_between (g.S.Site.state c.fetch_out_pieces.new.site) (g.S.Site.state c.fetch_in_pieces.new.site)) (told_to told id) c.args.command.now.inn (tells_next told id (g.S.Site.state c.args.site.now) (g.S.Site.state c.fetch_out_pieces.new.site) (g.S.Site.state c.fetch_in_pieces.new.site) c.fetch_out_pieces.ensures.advances all) is)))
    c.in_ok-progress-2.ensures.refused

pub returns-clause-refused : goal.returns-clause-refused
returns-clause-refused g c = λ told id all known.
    if_refused c.fetch_data_out.result _ _ (λ is. inr (inr is))
    (c.fetch_data_out.ensures.refused c.args.command.now told id (tells_next told id (g.S.Site.state c.args.site.now) (g.S.Site.state c.fetch_in_pieces.new.site) (g.S.Site.state c.fetch_data_out.new.site) (advances_on _ _ _ c.fetch_out_pieces.ensures.advances c.fetch_in_pieces.ensures.advances) all)
    (c.fetch_in_pieces.ensures.named told id (tells_next told id (g.S.Site.state c.args.site.now) (g.S.Site.state c.fetch_out_pieces.new.site) (g.S.Site.state c.fetch_in_pieces.new.site) c.fetch_out_pieces.ensures.advances (tells_first told id (g.S.Site.state c.args.site.now) (g.S.Site.state c.fetch_in_pieces.new.site) (g.S.Site.state c.fetch_data_out.new.site) c.fetch_data_out.ensures.advances all)) (c.fetch_out_pieces.ensures.named told id (tells_first told id (g.S.Site.state c.args.site.now) (g.S.Site.state c.fetch_out_pieces.new.site) (g.S.Site.state c.fetch_in_pieces.new.site) c.fetch_in_pieces.ensures.advances (tells_first told id (g.S.Site.state c.args.site.now) (g.S.Site.state c.fetch_in_pieces.new.site) (g.S.Site.state c.fetch_data_out.new.site) c.fetch_data_out.ensures.advances all)) (c.is_refused.ensures.named told id known))))

pub returns-then-is_refused-clause-named : goal.returns-then-is_refused-clause-named
returns-then-is_refused-clause-named g c = λ told id all known. (c.is_refused.ensures.named told id known)

pub returns-in_err-progress-clause-named : goal.returns-in_err-progress-clause-named
returns-in_err-progress-clause-named g c = λ told id all known. (c.fetch_out_pieces.ensures.named told id all (c.is_refused.ensures.named told id known))

pub returns-then-ne-clause-named : goal.returns-then-ne-clause-named
returns-then-ne-clause-named g c = λ told id all known. (c.fetch_out_pieces.ensures.named told id all (c.is_refused.ensures.named told id known))

pub returns-in_err-progress-2-clause-named : goal.returns-in_err-progress-2-clause-named
returns-in_err-progress-2-clause-named g c = λ told id all known.
    (c.fetch_in_pieces.ensures.named told id (tells_next told id (g.S.Site.state c.args.site.now) (g.S.Site.state c.fetch_out_pieces.new.site) (g.S.Site.state c.fetch_in_pieces.new.site) c.fetch_out_pieces.ensures.advances all) (c.fetch_out_pieces.ensures.named told id (tells_first told id (g.S.Site.state c.args.site.now) (g.S.Site.state c.fetch_out_pieces.new.site) (g.S.Site.state c.fetch_in_pieces.new.site) c.fetch_in_pieces.ensures.advances all) (c.is_refused.ensures.named told id known)))

pub returns-then-ne-2-clause-named : goal.returns-then-ne-2-clause-named
returns-then-ne-2-clause-named g c = λ told id all known.
    (c.fetch_in_pieces.ensures.named told id (tells_next told id (g.S.Site.state c.args.site.now) (g.S.Site.state c.fetch_out_pieces.new.site) (g.S.Site.state c.fetch_in_pieces.new.site) c.fetch_out_pieces.ensures.advances all) (c.fetch_out_pieces.ensures.named told id (tells_first told id (g.S.Site.state c.args.site.now) (g.S.Site.state c.fetch_out_pieces.new.site) (g.S.Site.state c.fetch_in_pieces.new.site) c.fetch_in_pieces.ensures.advances all) (c.is_refused.ensures.named told id known)))

pub returns-clause-named : goal.returns-clause-named
returns-clause-named g c = λ told id all known.
    c.fetch_data_out.ensures.named c.args.command.now told id
    (c.fetch_in_pieces.ensures.named told id (tells_next told id (g.S.Site.state c.args.site.now) (g.S.Site.state c.fetch_out_pieces.new.site) (g.S.Site.state c.fetch_in_pieces.new.site) c.fetch_out_pieces.ensures.advances (tells_first told id (g.S.Site.state c.args.site.now) (g.S.Site.state c.fetch_in_pieces.new.site) (g.S.Site.state c.fetch_data_out.new.site) c.fetch_data_out.ensures.advances all)) (c.fetch_out_pieces.ensures.named told id (tells_first told id (g.S.Site.state c.args.site.now) (g.S.Site.state c.fetch_out_pieces.new.site) (g.S.Site.state c.fetch_in_pieces.new.site) c.fetch_in_pieces.ensures.advances (tells_first told id (g.S.Site.state c.args.site.now) (g.S.Site.state c.fetch_in_pieces.new.site) (g.S.Site.state c.fetch_data_out.new.site) c.fetch_data_out.ensures.advances all)) (c.is_refused.ensures.named told id known)))

pub returns-then-ne-2-clause-busy : goal.returns-then-ne-2-clause-busy
returns-then-ne-2-clause-busy g c = busy_on (Ok c.in_ok-progress-2.progress) _ _ (uses_later (g.S.Site.state c.args.site.now) (g.S.Site.state c.fetch_out_pieces.new.site) (g.S.Site.state c.fetch_in_pieces.new.site) c.fetch_out_pieces.ensures.advances) c.in_ok-progress-2.ensures.busy

pub returns-clause-busy : goal.returns-clause-busy
returns-clause-busy g c =
    busy_on c.fetch_data_out.result _ _ (uses_later (g.S.Site.state c.args.site.now) (g.S.Site.state c.fetch_in_pieces.new.site) (g.S.Site.state c.fetch_data_out.new.site) (advances_on _ _ _ c.fetch_out_pieces.ensures.advances c.fetch_in_pieces.ensures.advances)) c.fetch_data_out.ensures.busy

pub returns-clause-went : goal.returns-clause-went
returns-clause-went g c = if_each c.fetch_data_out.result _ (λ progress done before.
    let out : c.in_ok-progress.progress ≡ Done = search rules in
    let inn : c.in_ok-progress-2.progress ≡ Done = search rules in
    c.fetch_data_out.ensures.stays (c.in_ok-progress-2.ensures.went inn (c.in_ok-progress.ensures.went out (c.is_refused.ensures.went (search rules) before))))

pub returns-in_err-progress-clause-cargo : goal.returns-in_err-progress-clause-cargo
returns-in_err-progress-clause-cargo g c = λ id told asked all rows hand.
    c.fetch_out_pieces.ensures.cargo id told asked all rows (keeps_same _ _ (c.is_refused.ensures.cargo id _ rows) told asked hand)

pub returns-then-ne-clause-cargo : goal.returns-then-ne-clause-cargo
returns-then-ne-clause-cargo g c = λ id told asked all rows hand.
    c.fetch_out_pieces.ensures.cargo id told asked all rows (keeps_same _ _ (c.is_refused.ensures.cargo id _ rows) told asked hand)

pub returns-in_err-progress-2-clause-cargo : goal.returns-in_err-progress-2-clause-cargo
returns-in_err-progress-2-clause-cargo g c = λ id told asked all rows hand.
    c.fetch_in_pieces.ensures.cargo id told asked
    (tells_next told id (g.S.Site.state c.args.site.now) (g.S.Site.state c.fetch_out_pieces.new.site) (g.S.Site.state c.fetch_in_pieces.new.site) c.fetch_out_pieces.ensures.advances all) rows
    (c.fetch_out_pieces.ensures.cargo id told asked (tells_first told id (g.S.Site.state c.args.site.now) (g.S.Site.state c.fetch_out_pieces.new.site) (g.S.Site.state c.fetch_in_pieces.new.site) c.fetch_in_pieces.ensures.advances all) rows (keeps_same _ _ (c.is_refused.ensures.cargo id _ rows) told asked hand))

pub returns-then-ne-2-clause-cargo : goal.returns-then-ne-2-clause-cargo
returns-then-ne-2-clause-cargo g c = λ id told asked all rows hand.
    c.fetch_in_pieces.ensures.cargo id told asked
    (tells_next told id (g.S.Site.state c.args.site.now) (g.S.Site.state c.fetch_out_pieces.new.site) (g.S.Site.state c.fetch_in_pieces.new.site) c.fetch_out_pieces.ensures.advances all) rows
    (c.fetch_out_pieces.ensures.cargo id told asked (tells_first told id (g.S.Site.state c.args.site.now) (g.S.Site.state c.fetch_out_pieces.new.site) (g.S.Site.state c.fetch_in_pieces.new.site) c.fetch_in_pieces.ensures.advances all) rows (keeps_same _ _ (c.is_refused.ensures.cargo id _ rows) told asked hand))

pub returns-clause-cargo : goal.returns-clause-cargo
returns-clause-cargo g c = λ id told asked all rows hand.
    c.fetch_data_out.ensures.cargo id told asked
    (tells_next told id (g.S.Site.state c.args.site.now) (g.S.Site.state c.fetch_in_pieces.new.site) (g.S.Site.state c.fetch_data_out.new.site) (advances_on _ _ _ c.fetch_out_pieces.ensures.advances c.fetch_in_pieces.ensures.advances) all) rows _
    (c.fetch_in_pieces.ensures.cargo id told asked
    (tells_next told id (g.S.Site.state c.args.site.now) (g.S.Site.state c.fetch_out_pieces.new.site) (g.S.Site.state c.fetch_in_pieces.new.site) c.fetch_out_pieces.ensures.advances
    (tells_first told id (g.S.Site.state c.args.site.now) (g.S.Site.state c.fetch_in_pieces.new.site) (g.S.Site.state c.fetch_data_out.new.site) c.fetch_data_out.ensures.advances all)) rows
    (c.fetch_out_pieces.ensures.cargo id told asked (tells_first told id (g.S.Site.state c.args.site.now) (g.S.Site.state c.fetch_out_pieces.new.site) (g.S.Site.state c.fetch_data_out.new.site) (advances_on _ _ _ c.fetch_in_pieces.ensures.advances c.fetch_data_out.ensures.advances) all) rows (keeps_same _ _ (c.is_refused.ensures.cargo id _ rows) told asked hand)))

pub returns-clause-all : goal.returns-clause-all
returns-clause-all g c = λ id told asked all rows hand.
    c.fetch_data_out.ensures.all id told asked _ rows
    (c.fetch_in_pieces.ensures.cargo id told asked
    (tells_next told id (g.S.Site.state c.args.site.now) (g.S.Site.state c.fetch_out_pieces.new.site) (g.S.Site.state c.fetch_in_pieces.new.site) c.fetch_out_pieces.ensures.advances
    (tells_first told id (g.S.Site.state c.args.site.now) (g.S.Site.state c.fetch_in_pieces.new.site) (g.S.Site.state c.fetch_data_out.new.site) c.fetch_data_out.ensures.advances all)) rows
    (c.fetch_out_pieces.ensures.cargo id told asked (tells_first told id (g.S.Site.state c.args.site.now) (g.S.Site.state c.fetch_out_pieces.new.site) (g.S.Site.state c.fetch_data_out.new.site) (advances_on _ _ _ c.fetch_in_pieces.ensures.advances c.fetch_data_out.ensures.advances) all) rows (keeps_same _ _ (c.is_refused.ensures.cargo id _ rows) told asked hand)))

pub returns-then-is_refused-clause-stood : goal.returns-then-is_refused-clause-stood
returns-then-is_refused-clause-stood g c = λ client same alone known. c.is_refused.ensures.stood client known

pub returns-in_err-progress-clause-stood : goal.returns-in_err-progress-clause-stood
returns-in_err-progress-clause-stood g c = λ client same alone known. c.fetch_out_pieces.ensures.stood client same alone (c.is_refused.ensures.stood client known)

pub returns-then-ne-clause-stood : goal.returns-then-ne-clause-stood
returns-then-ne-clause-stood g c = λ client same alone known. c.fetch_out_pieces.ensures.stood client same alone (c.is_refused.ensures.stood client known)

pub returns-in_err-progress-2-clause-stood : goal.returns-in_err-progress-2-clause-stood
returns-in_err-progress-2-clause-stood g c = λ client same alone known.
    let mid = stays_after client (g.S.Site.state c.args.site.now) (g.S.Site.state c.fetch_out_pieces.new.site) same alone c.fetch_out_pieces.ensures.advances c.fetch_out_pieces.ensures.known in
    c.fetch_in_pieces.ensures.stood client mid (c.fetch_out_pieces.ensures.advances.shared ∙ alone) (c.fetch_out_pieces.ensures.stood client same alone (c.is_refused.ensures.stood client known))

pub returns-then-ne-2-clause-stood : goal.returns-then-ne-2-clause-stood
returns-then-ne-2-clause-stood g c = λ client same alone known.
    let mid = stays_after client (g.S.Site.state c.args.site.now) (g.S.Site.state c.fetch_out_pieces.new.site) same alone c.fetch_out_pieces.ensures.advances c.fetch_out_pieces.ensures.known in
    c.fetch_in_pieces.ensures.stood client mid (c.fetch_out_pieces.ensures.advances.shared ∙ alone) (c.fetch_out_pieces.ensures.stood client same alone (c.is_refused.ensures.stood client known))

pub returns-clause-stood : goal.returns-clause-stood
returns-clause-stood g c = λ client same alone known.
    let mid = stays_after client (g.S.Site.state c.args.site.now) (g.S.Site.state c.fetch_out_pieces.new.site) same alone c.fetch_out_pieces.ensures.advances c.fetch_out_pieces.ensures.known in
    c.fetch_data_out.ensures.stood c.args.command.now client
    (c.fetch_in_pieces.ensures.stood client mid (c.fetch_out_pieces.ensures.advances.shared ∙ alone) (c.fetch_out_pieces.ensures.stood client same alone (c.is_refused.ensures.stood client known)))

pub returns-clause-known : goal.returns-clause-known
returns-clause-known g c = c.fetch_data_out.ensures.known ∙ c.fetch_in_pieces.ensures.known ∙ c.fetch_out_pieces.ensures.known
