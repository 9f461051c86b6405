use Rattle.std.proofs.Common.{Option, ap, subst, sym}
use Rattle.srp_iu.specs.declared.command.Cmd.{Cmd}
use Rattle.block_server.specs.Cargo.{IsAccounted, cargo_at, command_of, seen}
use Rattle.std.proofs.Common.{◌∙◌}
use Rattle.block_server.proofs.Quieting.{on_ok}
use Rattle.block_server.proofs.Readying.{uses_later, uses_sooner, went_on}
use Rattle.block_server.proofs.Staging.{came_on}
use Rattle.block_server.proofs.Advancing.{advances_on}
use Rattle.block_server.proofs.Denying.{tells_first, tells_next}
use Rattle.block_server.proofs.Onces.{once_then}
use Rattle.block_server.proofs.Working.{one_on}
use Rattle.std.proofs.Common.{refl}
use Rattle.block_server.proofs.OwingRows.{moves_on, moves_same}
use Rattle.std.proofs.Common.{None}
use Rattle.block_server.specs.Serving.{held}
use Rattle.block_server.proofs.ComingStages.{entry_on}
use Rattle.block_server.specs.Causes.{told_to}
use Rattle.block_server.proofs.RangeLaws.{lays_asked, lays_same, served_within}
use Rattle.block_server.specs.Ranges.{client_known}
use Rattle.block_server.specs.Standing.{stood}
use Rattle.block_server.specs.declared.service.Stage.TheVariants.{Start}
use Rattle.block_server.proofs.Stood.{knows_at, placed_within}
use Rattle.block_server.proofs.LastRows.{served_last}
use Rattle.std.proofs.Common.{◌≡◌, OnOk, Some, slice_get}
use Rattle.vio_num.specs.declared.history.Served.{Served as ServedRow}
use Rattle.page_slots.specs.declared.stroke.StrokeName.{StrokeName}
use Rattle.tce_window.specs.PortState.{PortPlace}
use Rattle.block_server.specs.Bearing.{BearsIn, IsDataPart}
use Rattle.block_server.specs.Cargo.{data_bytes}
use Rattle.block_server.specs.Copied.{own_name}
use Rattle.block_server.specs.Owed.{row_in}
use Rattle.block_server.specs.declared.service.Service.{Service}
use Rattle.block_server.proofs.CommandBearing.{row_bears, handed_at}
use Rattle.block_server.proofs.serving.serve_command.Goals as goal

pub returns-in_err-run_step-clause-once : goal.returns-in_err-run_step-clause-once
returns-in_err-run_step-clause-once g c = λ told all credits rest. c.run_step.ensures.once told all credits rest

pub returns-in_err-store-clause-once : goal.returns-in_err-store-clause-once
returns-in_err-store-clause-once g c = λ told all credits rest.
    once_then _ _ _ _ _ _ _ _ _ _ _ _
    (c.run_step.ensures.once told (tells_first told c.args.id (g.S.Site.state c.args.site.now) (g.S.Site.state c.run_step.new.site) (g.S.Site.state c.store.new.site) c.store.ensures.advances all) credits rest) (c.store.ensures.once c.args.id credits rest c.run_step.new.records _)

pub returns-clause-once : goal.returns-clause-once
returns-clause-once g c = λ told all credits rest.
    once_then _ _ _ _ _ _ _ _ _ _ _ _
    (once_then _ _ _ _ _ _ _ _ _ _ _ _
    (c.run_step.ensures.once told (tells_first told c.args.id (g.S.Site.state c.args.site.now) (g.S.Site.state c.run_step.new.site) (g.S.Site.state c.hand_over.new.site) (advances_on _ _ _ c.store.ensures.advances c.hand_over.ensures.advances) all) credits rest)
    (c.store.ensures.once c.args.id credits rest c.run_step.new.records _))
    (c.hand_over.ensures.once c.args.id told (tells_next told c.args.id (g.S.Site.state c.args.site.now) (g.S.Site.state c.store.new.site) (g.S.Site.state c.hand_over.new.site) (advances_on _ _ _ c.run_step.ensures.advances c.store.ensures.advances) all) _ _ credits rest)

pub returns-in_err-store-clause-advances : goal.returns-in_err-store-clause-advances
returns-in_err-store-clause-advances g c = advances_on _ _ _ c.run_step.ensures.advances c.store.ensures.advances

pub returns-clause-advances : goal.returns-clause-advances
returns-clause-advances g c = advances_on _ _ _ (advances_on _ _ _ c.run_step.ensures.advances c.store.ensures.advances) c.hand_over.ensures.advances

pub returns-clause-queue : goal.returns-clause-queue
returns-clause-queue g c = c.hand_over.ensures.queue ∙ c.store.ensures.queue ∙ c.run_step.ensures.queue

pub returns-clause-went : goal.returns-clause-went
returns-clause-went g c =
    let old = g.S.Site.state c.args.site.now in
    let stored = g.S.Site.state c.store.new.site in
    let new = g.S.Site.state c.hand_over.new.site in
    let rest = advances_on _ _ _ c.store.ensures.advances c.hand_over.ensures.advances in
    let first = advances_on _ _ _ c.run_step.ensures.advances c.store.ensures.advances in
    came_on c.hand_over.result _ _ _ _ (λ met. uses_sooner old (g.S.Site.state c.run_step.new.site) new met rest) c.in_ok-run_step.ensures.went
    (λ before. let stage = c.in_ok-store.ensures.went before in
    went_on c.hand_over.result _ _ _ (uses_later old stored new first) (on_ok c.hand_over.result _ _ (λ went. went stage.0 stage.1) c.hand_over.ensures.went))

pub returns-in_err-run_step-clause-books : goal.returns-in_err-run_step-clause-books
returns-in_err-run_step-clause-books g c = c.run_step.ensures.books

pub returns-in_err-store-clause-books : goal.returns-in_err-store-clause-books
returns-in_err-store-clause-books g c = one_on _ _ _ _ _ _ _ _ _ _ refl c.run_step.ensures.books (c.store.ensures.books _ _ _)

pub returns-clause-books : goal.returns-clause-books
returns-clause-books g c =
    one_on _ _ _ _ _ _ _ _ _ _ refl (one_on _ _ _ _ _ _ _ _ _ _ refl c.run_step.ensures.books (c.store.ensures.books _ _ _)) (c.hand_over.ensures.books _ _)

pub returns-in_err-run_step-clause-moves : goal.returns-in_err-run_step-clause-moves
returns-in_err-run_step-clause-moves g c = c.run_step.ensures.moves

pub returns-in_err-store-clause-moves : goal.returns-in_err-store-clause-moves
returns-in_err-store-clause-moves g c = moves_on _ _ _ _ _ _ _ _ _ _ refl c.run_step.ensures.moves (moves_same _ _ _ _ _ _ _ c.store.ensures.row refl)

pub returns-clause-moves : goal.returns-clause-moves
returns-clause-moves g c =
    moves_on _ _ _ _ _ _ _ _ _ _ refl (moves_on _ _ _ _ _ _ _ _ _ _ refl c.run_step.ensures.moves (moves_same _ _ _ _ _ _ _ c.store.ensures.row refl))
    (moves_same _ _ _ _ _ _ _ c.hand_over.ensures.row c.hand_over.ensures.states)

pub returns-in_err-run_step-clause-cargo : goal.returns-in_err-run_step-clause-cargo
returns-in_err-run_step-clause-cargo g c = λ told asked all credits rest serving hand.
    let command = ap command_of c.requires.asked in
    subst (λ (k : Option Cmd). IsAccounted told asked (cargo_at c.args.id c.run_step.new.service (seen k (g.S.Site.state c.run_step.new.site)) c.run_step.new.records.history.items)) (sym command)
    (c.run_step.ensures.cargo told asked all credits rest serving
    (subst (λ (k : Option Cmd). IsAccounted told asked (cargo_at c.args.id c.args.service.now (seen k (g.S.Site.state c.args.site.now)) c.args.records.now.history.items)) command hand))

pub returns-in_err-store-clause-cargo : goal.returns-in_err-store-clause-cargo
returns-in_err-store-clause-cargo g c = λ told asked all credits rest serving hand.
    let command = ap command_of c.requires.asked in
    subst (λ (k : Option Cmd). IsAccounted told asked (cargo_at c.args.id c.store.new.service (seen k (g.S.Site.state c.store.new.site)) c.run_step.new.records.history.items)) (sym command)
    (c.store.ensures.cargo c.args.id _ _ told asked (c.run_step.ensures.cargo told asked (tells_first told c.args.id (g.S.Site.state c.args.site.now) (g.S.Site.state c.run_step.new.site) (g.S.Site.state c.store.new.site) c.store.ensures.advances all) credits rest serving
    (subst (λ (k : Option Cmd). IsAccounted told asked (cargo_at c.args.id c.args.service.now (seen k (g.S.Site.state c.args.site.now)) c.args.records.now.history.items)) command hand)))

pub returns-clause-cargo : goal.returns-clause-cargo
returns-clause-cargo g c = λ told asked all credits rest serving hand.
    let command = ap command_of c.requires.asked in
    let first = (tells_first told c.args.id (g.S.Site.state c.args.site.now) (g.S.Site.state c.run_step.new.site) (g.S.Site.state c.hand_over.new.site) (advances_on _ _ _ c.store.ensures.advances c.hand_over.ensures.advances) all) in
    let stepped = (c.run_step.ensures.once told first credits rest serving).serving in
    let stored = (c.store.ensures.once c.args.id credits rest c.run_step.new.records (held told c.run_step.new.disk.count None) stepped).serving in
    subst (λ (k : Option Cmd). IsAccounted told asked (cargo_at c.args.id c.hand_over.new.service (seen k (g.S.Site.state c.hand_over.new.site)) c.hand_over.new.records.history.items)) (sym command)
    (c.hand_over.ensures.cargo c.args.id told asked
    (tells_next told c.args.id (g.S.Site.state c.args.site.now) (g.S.Site.state c.store.new.site) (g.S.Site.state c.hand_over.new.site) (advances_on _ _ _ c.run_step.ensures.advances c.store.ensures.advances) all)
    _ credits rest stored (c.store.ensures.cargo c.args.id _ _ told asked (c.run_step.ensures.cargo told asked first credits rest serving
    (subst (λ (k : Option Cmd). IsAccounted told asked (cargo_at c.args.id c.args.service.now (seen k (g.S.Site.state c.args.site.now)) c.args.records.now.history.items)) command hand))))

pub returns-in_err-run_step-clause-entry : goal.returns-in_err-run_step-clause-entry
returns-in_err-run_step-clause-entry g c = c.run_step.ensures.entry

pub returns-in_err-store-clause-entry : goal.returns-in_err-store-clause-entry
returns-in_err-store-clause-entry g c = entry_on _ _ _ c.run_step.ensures.entry c.store.ensures.entry

pub returns-clause-entry : goal.returns-clause-entry
returns-clause-entry g c = entry_on _ _ _ (entry_on _ _ _ c.run_step.ensures.entry c.store.ensures.entry) c.hand_over.ensures.entry

pub returns-clause-suits : goal.returns-clause-suits
returns-clause-suits g c = λ current old. c.hand_over.ensures.suits current (c.in_ok-store.ensures.suits current _ (c.in_ok-run_step.ensures.suits current old))

pub returns-in_err-run_step-clause-wrote : goal.returns-in_err-run_step-clause-wrote
returns-in_err-run_step-clause-wrote g c = λ told all credits rest serving. lays_same _ _ _ c.run_step.ensures.known

pub returns-in_err-store-clause-wrote : goal.returns-in_err-store-clause-wrote
returns-in_err-store-clause-wrote g c = λ told all credits rest serving. lays_same _ _ _ (c.store.ensures.known ∙ c.run_step.ensures.known)

pub returns-clause-wrote : goal.returns-clause-wrote
returns-clause-wrote g c = λ told all credits rest serving.
    let first = (tells_first told c.args.id (g.S.Site.state c.args.site.now) (g.S.Site.state c.run_step.new.site) (g.S.Site.state c.hand_over.new.site) (advances_on _ _ _ c.store.ensures.advances c.hand_over.ensures.advances) all) in
    let stepped = (c.run_step.ensures.once told first credits rest serving).serving in
    let stored = (c.store.ensures.once c.args.id credits rest c.run_step.new.records (held told c.run_step.new.disk.count None) stepped).serving in
    lays_asked (told_to told c.args.id) c.args.request.now.order c.args.command.now (client_known (g.S.Site.state c.args.site.now)) (client_known (g.S.Site.state c.hand_over.new.site)) c.requires.asked
    (served_within (told_to told c.args.id) c.args.command.now c.store.new.service c.args.request.now rest _ _ _ c.requires.asked stored.fetched (c.store.ensures.known ∙ c.run_step.ensures.known)
    c.hand_over.ensures.wrote c.hand_over.ensures.unwritten)

pub returns-clause-made : goal.returns-clause-made
returns-clause-made g c = λ granted old. c.hand_over.ensures.made granted (c.in_ok-store.ensures.made granted (c.in_ok-run_step.ensures.made granted old))

pub returns-in_err-run_step-clause-placed : goal.returns-in_err-run_step-clause-placed
returns-in_err-run_step-clause-placed g c = λ client same alone known. lays_same _ _ _ c.run_step.ensures.known

pub returns-in_err-store-clause-placed : goal.returns-in_err-store-clause-placed
returns-in_err-store-clause-placed g c = λ client same alone known. lays_same _ _ _ (c.store.ensures.known ∙ c.run_step.ensures.known)

pub returns-clause-placed : goal.returns-clause-placed
returns-clause-placed g c = λ client same alone start.
    let known = knows_at (stood client) c.args.command.now c.args.service.now.stage Start c.args.service.now.out.list.items c.args.service.now.inn.list.items start tt in
    lays_asked (stood client) c.args.request.now.order c.args.command.now (client_known (g.S.Site.state c.args.site.now)) (client_known (g.S.Site.state c.hand_over.new.site)) c.requires.asked
    (placed_within (stood client) c.args.command.now c.store.new.service _ _ _ (c.in_ok-store.ensures.stood c.args.command.now client (c.in_ok-run_step.ensures.stood client same alone known))
    (c.store.ensures.known ∙ c.run_step.ensures.known) c.hand_over.ensures.wrote c.hand_over.ensures.unwritten)

pub returns-clause-rows : goal.returns-clause-rows
returns-clause-rows g c = λ none.
    served_last c.args.id c.args.request.now _ _ _ _ _ _ c.hand_over.result (c.in_ok-run_step.ensures.rows none) c.store.ensures.row c.hand_over.ensures.row c.hand_over.ensures.rows

pub returns-clause-bears : goal.returns-clause-bears
returns-clause-bears g c = λ client same alone start.
    let old = g.S.Site.state c.args.site.now in
    let stepped = g.S.Site.state c.run_step.new.site in
    let stored = g.S.Site.state c.store.new.site in
    let new = g.S.Site.state c.hand_over.new.site in
    let known = knows_at (stood client) c.args.command.now c.args.service.now.stage Start c.args.service.now.out.list.items c.args.service.now.inn.list.items start tt in
    let own : own_name stored.own c.args.request.now.tag ≡ own_name old.own c.args.request.now.tag =
    ap (λ (place : PortPlace). record { who = place.unit; mark = c.args.request.now.tag }) (c.store.ensures.advances.own_place ∙ c.run_step.ensures.advances.own_place) in
    row_bears (stood client) (own_name old.own c.args.request.now.tag) c.args.command.now c.args.request.now.order c.store.new.service.stage c.hand_over.new.service.stage
    c.store.new.service.out.list.items c.store.new.service.inn.list.items c.hand_over.new.records.history.items
    (client_known old) (client_known stored) (client_known new) c.hand_over.result c.requires.asked
    (c.in_ok-store.ensures.stood c.args.command.now client (c.in_ok-run_step.ensures.stood client same alone known))
    (c.store.ensures.known ∙ c.run_step.ensures.known) c.hand_over.ensures.row c.hand_over.ensures.unwritten
    (λ row reply cursor at.
    let is = handed_at (data_bytes stored.own) c.run_step.new.service.stage c.store.new.service.stage c.store.new.service.inn.list.items c.run_step.new.service.given.items c.store.new.service.given.items
    c.run_step.new.records.history.items (c.in_ok-run_step.ensures.given (ap row_in start)) (λ r reply' was. let z = c.in_ok-store.ensures.stored r reply' was in (z.0, z.1, z.2, z.3, z.4)) (λ not. ap (λ (s : Service). s.stage) (c.store.ensures.unstored not)) row reply cursor at in
    subst (λ (name : StrokeName). OnOk c.hand_over.result ((after : ServedRow) × (slice_get c.hand_over.new.records.history.items row ≡ Some after) × BearsIn (IsDataPart name c.store.new.service.inn.list.items after.inn) (client_known stored) (client_known new))) own
    (c.hand_over.ensures.bears row reply cursor at is.placed is.shows is.before is.there is.inn_is))
