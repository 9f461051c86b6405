use Rattle.std.proofs.Common.{arith, refl, rules, subst, sym, ◌∙◌, ap, inl, inr}
use Rattle.vio_num.specs.declared.names.UnitId.{UnitId}
use Rattle.block_server.specs.Heard.{TellsAll}
use Rattle.block_server.proofs.Agreeing.{agrees_on}
use Rattle.block_server.proofs.Readying.{full_later, idle_full, idle_opening, idle_turn, next_on, next_over, next_service, on_both}
use Rattle.block_server.proofs.Denying.{tells_first, tells_next}
use Rattle.block_server.proofs.Hearing.{once_by}
use Rattle.block_server.proofs.Advancing.{advances_on, advances_same}
use Rattle.block_server.proofs.Quieting.{on_ok, quiet_on}
use Rattle.block_server.proofs.Onces.{once_on, once_then}
use Rattle.block_server.proofs.Taking.{ended_stands, takes_none, takes_on, waiting_stands}
use Rattle.block_server.proofs.Ledgers.{explained_then}
use Rattle.block_server.proofs.Jointly.{works, works_none, works_on}
use Rattle.block_server.specs.Books.{books_at}
use Rattle.block_server.specs.Receipts.{standing_of}
use Rattle.std.proofs.Common.{◌++◌}
use Rattle.std.proofs.Common.{None}
use Rattle.block_server.proofs.Hands.{keeps_same}
use Rattle.block_server.specs.Serving.{held}
use Rattle.block_server.proofs.Coming.{comes_on, comes_then}
use Rattle.block_server.proofs.ComingStages.{comes_any}
use Rattle.block_server.proofs.Dropping.{known_within}
use Rattle.block_server.specs.SiteState.{SiteState}
use Rattle.block_server.specs.Talk.{reach_of}
use Rattle.block_server.specs.declared.unit.Unit.{Unit}
use Rattle.block_server.proofs.Talks.{not_end, ready_on, still_on, talks_on}
use Rattle.block_server.specs.Causes.{told_to}
use Rattle.block_server.specs.Ranges.{MayWrite, LaysIn, client_known}
use Rattle.block_server.proofs.TurnRanges.{leaves_on, writes_on}
use Rattle.block_server.specs.Standing.{stood}
use Rattle.block_server.proofs.FirstTurns.{over_not}
use Rattle.block_server.proofs.TurnRows.{rows_on}
use Rattle.tce_window.specs.PortState.{PortPlace}
use Rattle.block_server.proofs.Asides.{free_unkept, turn_freely, turn_then}
use Rattle.block_server.proofs.Serves.{none_next}
use Rattle.block_server.specs.Doings.{doing}
use Rattle.block_server.specs.HeardOut.HearsOut.{keeps}
use Rattle.block_server.proofs.HeardOuts.{fits_same, none_kept_on, ok_all, out_same, stops_before, stops_served}
use Rattle.block_server.proofs.Taking.{passed_session, passed_taken}
use Rattle.block_server.proofs.ServedOuts.{few_kept, out_from, stopped_out}
use Rattle.block_server.proofs.DoingReplies.{come_same}
use Rattle.block_server.proofs.turning.turn.Goals as goal

pub returns-in_err-open_line-clause-once : goal.returns-in_err-open_line-clause-once
returns-in_err-open_line-clause-once g c = λ told all. c.open_line.ensures.once c.args.records.now _

pub returns-then-eq-clause-once : goal.returns-then-eq-clause-once
returns-then-eq-clause-once g c = λ told all. c.open_line.ensures.once c.args.records.now _

pub returns-in_err-put_kept-clause-once : goal.returns-in_err-put_kept-clause-once
returns-in_err-put_kept-clause-once g c = λ told all. once_on _ _ _ _ _ _ _ _ _ (c.open_line.ensures.once c.args.records.now) c.put_kept.ensures.once _

pub returns-then-eq-2-clause-once : goal.returns-then-eq-2-clause-once
returns-then-eq-2-clause-once g c = λ told all. once_on _ _ _ _ _ _ _ _ _ (c.open_line.ensures.once c.args.records.now) c.put_kept.ensures.once _

pub returns-in_err-take_in-clause-once : goal.returns-in_err-take_in-clause-once
returns-in_err-take_in-clause-once g c = λ told all.
    once_by (g.S.Site.state c.args.site.now) (g.S.Site.state c.put_kept.new.site) (g.S.Site.state c.take_in.new.site) _ _ _ c.args.records.now c.put_kept.new.records c.take_in.new.records
    (advances_on _ _ _ c.open_line.ensures.advances c.put_kept.ensures.advances) c.take_in.ensures.advances
    (λ disk heard. once_on _ _ _ _ _ _ _ _ _ (c.open_line.ensures.once c.args.records.now) c.put_kept.ensures.once disk) c.take_in.ensures.once _ all

pub returns-then-eq-3-clause-once : goal.returns-then-eq-3-clause-once
returns-then-eq-3-clause-once g c = λ told all.
    once_by (g.S.Site.state c.args.site.now) (g.S.Site.state c.put_kept.new.site) (g.S.Site.state c.take_in.new.site) _ _ _ c.args.records.now c.put_kept.new.records c.take_in.new.records
    (advances_on _ _ _ c.open_line.ensures.advances c.put_kept.ensures.advances) c.take_in.ensures.advances
    (λ disk heard. once_on _ _ _ _ _ _ _ _ _ (c.open_line.ensures.once c.args.records.now) c.put_kept.ensures.once disk) c.take_in.ensures.once _ all

pub returns-clause-once : goal.returns-clause-once
returns-clause-once g c = λ told all serving.
    let heard = tells_first told c.args.unit.now.id (g.S.Site.state c.args.site.now) (g.S.Site.state c.take_in.new.site) (g.S.Site.state c.serve.new.site) c.serve.ensures.advances all in
    let opened =
    once_by (g.S.Site.state c.args.site.now) (g.S.Site.state c.put_kept.new.site) (g.S.Site.state c.take_in.new.site) _ _ _ c.args.records.now c.put_kept.new.records c.take_in.new.records
    (advances_on _ _ _ c.open_line.ensures.advances c.put_kept.ensures.advances) c.take_in.ensures.advances
    (λ disk heard. once_on _ _ _ _ _ _ _ _ _ (c.open_line.ensures.once c.args.records.now) c.put_kept.ensures.once disk) c.take_in.ensures.once _ heard serving in
    let first = advances_on _ _ _ (advances_on _ _ _ c.open_line.ensures.advances c.put_kept.ensures.advances) c.take_in.ensures.advances in
    once_then _ _ _ _ _ _ _ _ _ _ _ _
    (λ serving. opened)
    (c.serve.ensures.once told (tells_next told c.take_in.new.unit.id (g.S.Site.state c.args.site.now) (g.S.Site.state c.take_in.new.site) (g.S.Site.state c.serve.new.site) first (subst (λ (id : UnitId). TellsAll told id (g.S.Site.state c.args.site.now) (g.S.Site.state c.serve.new.site)) (sym opened.id) all))) serving

pub returns-in_err-put_kept-clause-advances : goal.returns-in_err-put_kept-clause-advances
returns-in_err-put_kept-clause-advances g c = advances_on _ _ _ c.open_line.ensures.advances c.put_kept.ensures.advances

pub returns-then-eq-2-clause-advances : goal.returns-then-eq-2-clause-advances
returns-then-eq-2-clause-advances g c = advances_on _ _ _ c.open_line.ensures.advances c.put_kept.ensures.advances

pub returns-then-eq-2-clause-quiet : goal.returns-then-eq-2-clause-quiet
returns-then-eq-2-clause-quiet g c = quiet_on _ _ _ _ _ _ c.in_ok-open_line.ensures.quiet c.in_ok-put_kept.ensures.quiet

pub returns-in_err-take_in-clause-advances : goal.returns-in_err-take_in-clause-advances
returns-in_err-take_in-clause-advances g c = advances_on _ _ _ (advances_on _ _ _ c.open_line.ensures.advances c.put_kept.ensures.advances) c.take_in.ensures.advances

pub returns-then-eq-3-clause-advances : goal.returns-then-eq-3-clause-advances
returns-then-eq-3-clause-advances g c = advances_on _ _ _ (advances_on _ _ _ c.open_line.ensures.advances c.put_kept.ensures.advances) c.take_in.ensures.advances

pub returns-then-eq-3-clause-quiet : goal.returns-then-eq-3-clause-quiet
returns-then-eq-3-clause-quiet g c =
    quiet_on _ _ _ _ _ _ (quiet_on _ _ _ _ _ _ c.in_ok-open_line.ensures.quiet c.in_ok-put_kept.ensures.quiet) c.in_ok-take_in.ensures.quiet

pub returns-clause-advances : goal.returns-clause-advances
returns-clause-advances g c =
    advances_on _ _ _ (advances_on _ _ _ (advances_on _ _ _ c.open_line.ensures.advances c.put_kept.ensures.advances) c.take_in.ensures.advances) c.serve.ensures.advances

pub returns-clause-quiet : goal.returns-clause-quiet
returns-clause-quiet g c =
    on_ok c.serve.result _ _ (quiet_on _ _ _ _ _ _
    (quiet_on _ _ _ _ _ _ (quiet_on _ _ _ _ _ _ c.in_ok-open_line.ensures.quiet c.in_ok-put_kept.ensures.quiet) c.in_ok-take_in.ensures.quiet)) c.serve.ensures.quiet

pub returns-in_err-open_line-clause-agrees : goal.returns-in_err-open_line-clause-agrees
returns-in_err-open_line-clause-agrees g c = c.open_line.ensures.agrees

pub returns-then-eq-clause-agrees : goal.returns-then-eq-clause-agrees
returns-then-eq-clause-agrees g c = c.open_line.ensures.agrees

pub returns-in_err-put_kept-clause-agrees : goal.returns-in_err-put_kept-clause-agrees
returns-in_err-put_kept-clause-agrees g c = agrees_on _ _ _ c.open_line.ensures.agrees c.put_kept.ensures.agrees

pub returns-then-eq-2-clause-agrees : goal.returns-then-eq-2-clause-agrees
returns-then-eq-2-clause-agrees g c = agrees_on _ _ _ c.open_line.ensures.agrees c.put_kept.ensures.agrees

pub returns-in_err-take_in-clause-agrees : goal.returns-in_err-take_in-clause-agrees
returns-in_err-take_in-clause-agrees g c = agrees_on _ _ _ (agrees_on _ _ _ c.open_line.ensures.agrees c.put_kept.ensures.agrees) c.take_in.ensures.agrees

pub returns-then-eq-3-clause-agrees : goal.returns-then-eq-3-clause-agrees
returns-then-eq-3-clause-agrees g c = agrees_on _ _ _ (agrees_on _ _ _ c.open_line.ensures.agrees c.put_kept.ensures.agrees) c.take_in.ensures.agrees

pub returns-clause-agrees : goal.returns-clause-agrees
returns-clause-agrees g c =
    agrees_on _ _ _ (agrees_on _ _ _ (agrees_on _ _ _ c.open_line.ensures.agrees c.put_kept.ensures.agrees) c.take_in.ensures.agrees)
    c.serve.ensures.agrees

pub returns-then-eq-clause-waits : goal.returns-then-eq-clause-waits
returns-then-eq-clause-waits g c = λ moved.
    idle_opening _ (g.S.Site.state c.args.site.now) (g.S.Site.state c.open_line.new.site) _
    (next_over c.in_ok-open_line.field-0 _ _ _ (search rules) (c.in_ok-open_line.ensures.waits moved))

pub returns-then-eq-2-clause-waits : goal.returns-then-eq-2-clause-waits
returns-then-eq-2-clause-waits g c = λ moved.
    let was = (c.in_ok-put_kept.ensures.quiet moved).was in
    let opens = next_on c.in_ok-open_line.field-0 _ _ (search rules) (c.in_ok-open_line.ensures.waits was) in
    idle_full _ (g.S.Site.state c.args.site.now) (g.S.Site.state c.put_kept.new.site) _
    (full_later _ _ _ _ opens.passes.idles (next_over c.in_ok-put_kept.field-0 _ _ _ (search rules) (c.in_ok-put_kept.ensures.waits moved)))

pub returns-then-eq-3-clause-waits : goal.returns-then-eq-3-clause-waits
returns-then-eq-3-clause-waits g c = λ moved.
    absurd (next_over c.in_ok-take_in.field-0 _ _ _ (search rules) (c.in_ok-take_in.ensures.waits moved))

pub returns-clause-waits : goal.returns-clause-waits
returns-clause-waits g c =
    on_both c.serve.result _ _ _
    (λ waits quiet moved.
    let was3 = (quiet moved).was in
    let was2 = (c.in_ok-take_in.ensures.quiet was3).was in
    let was1 = (c.in_ok-put_kept.ensures.quiet was2).was in
    idle_turn _ (g.S.Site.state c.args.site.now) (g.S.Site.state c.open_line.new.site) (g.S.Site.state c.put_kept.new.site)
    (g.S.Site.state c.take_in.new.site) (g.S.Site.state c.serve.new.site) _ _ _ _
    (advances_on _ _ _ c.open_line.ensures.advances c.put_kept.ensures.advances) c.take_in.ensures.advances
    (next_on c.in_ok-open_line.field-0 _ _ (search rules) (c.in_ok-open_line.ensures.waits was1))
    (next_on c.in_ok-put_kept.field-0 _ _ (search rules) (c.in_ok-put_kept.ensures.waits was2))
    (next_service c.in_ok-take_in.field-0 _ (c.in_ok-take_in.ensures.waits was3))
    (waits moved) c.serve.ensures.nothing c.serve.ensures.still)
    c.serve.ensures.waits c.serve.ensures.quiet

pub returns-in_err-open_line-clause-intake : goal.returns-in_err-open_line-clause-intake
returns-in_err-open_line-clause-intake g c = c.open_line.ensures.intake c.args.records.now.grants.items

pub returns-then-eq-clause-intake : goal.returns-then-eq-clause-intake
returns-then-eq-clause-intake g c = c.open_line.ensures.intake c.args.records.now.grants.items

pub returns-in_err-put_kept-clause-intake : goal.returns-in_err-put_kept-clause-intake
returns-in_err-put_kept-clause-intake g c =
    takes_on _ _ _ _ _ _ _ _ _ (c.open_line.ensures.intake c.args.records.now.grants.items) (takes_none _ _ _ _ _ _ c.put_kept.ensures.stands c.put_kept.ensures.advances c.put_kept.ensures.passes c.put_kept.ensures.lines)

pub returns-then-eq-2-clause-intake : goal.returns-then-eq-2-clause-intake
returns-then-eq-2-clause-intake g c =
    takes_on _ _ _ _ _ _ _ _ _ (c.open_line.ensures.intake c.args.records.now.grants.items) (takes_none _ _ _ _ _ _ c.put_kept.ensures.stands c.put_kept.ensures.advances c.put_kept.ensures.passes c.put_kept.ensures.lines)

pub returns-in_err-take_in-clause-intake : goal.returns-in_err-take_in-clause-intake
returns-in_err-take_in-clause-intake g c =
    takes_on _ _ _ _ _ _ _ _ _ (takes_on _ _ _ _ _ _ _ _ _ (c.open_line.ensures.intake c.args.records.now.grants.items) (takes_none _ _ _ _ _ _ c.put_kept.ensures.stands c.put_kept.ensures.advances c.put_kept.ensures.passes c.put_kept.ensures.lines))
    (c.take_in.ensures.intake (ended_stands _ _ c.put_kept.ensures.stands ∙ c.in_ok-open_line.ensures.goes_on (search rules)))

pub returns-then-eq-3-clause-intake : goal.returns-then-eq-3-clause-intake
returns-then-eq-3-clause-intake g c =
    takes_on _ _ _ _ _ _ _ _ _ (takes_on _ _ _ _ _ _ _ _ _ (c.open_line.ensures.intake c.args.records.now.grants.items) (takes_none _ _ _ _ _ _ c.put_kept.ensures.stands c.put_kept.ensures.advances c.put_kept.ensures.passes c.put_kept.ensures.lines))
    (c.take_in.ensures.intake (ended_stands _ _ c.put_kept.ensures.stands ∙ c.in_ok-open_line.ensures.goes_on (search rules)))

pub returns-clause-intake : goal.returns-clause-intake
returns-clause-intake g c =
    takes_on _ _ _ _ _ _ _ _ _
    (takes_on _ _ _ _ _ _ _ _ _ (takes_on _ _ _ _ _ _ _ _ _ (c.open_line.ensures.intake c.args.records.now.grants.items) (takes_none _ _ _ _ _ _ c.put_kept.ensures.stands c.put_kept.ensures.advances c.put_kept.ensures.passes c.put_kept.ensures.lines))
    (c.take_in.ensures.intake (ended_stands _ _ c.put_kept.ensures.stands ∙ c.in_ok-open_line.ensures.goes_on (search rules)))) c.serve.ensures.intake

pub returns-in_err-open_line-clause-judges : goal.returns-in_err-open_line-clause-judges
returns-in_err-open_line-clause-judges g c = (works (standing_of c.args.unit.now) (standing_of c.open_line.new.unit) (g.S.Site.state c.args.site.now) (g.S.Site.state c.open_line.new.site) (books_at c.args.unit.now (g.S.Site.state c.args.site.now) c.args.records.now) (books_at c.open_line.new.unit (g.S.Site.state c.open_line.new.site) c.args.records.now) refl refl (c.open_line.ensures.intake c.args.records.now.grants.items)
    (c.open_line.ensures.judges c.args.records.now)).judges

pub returns-then-eq-clause-judges : goal.returns-then-eq-clause-judges
returns-then-eq-clause-judges g c = (works (standing_of c.args.unit.now) (standing_of c.open_line.new.unit) (g.S.Site.state c.args.site.now) (g.S.Site.state c.open_line.new.site) (books_at c.args.unit.now (g.S.Site.state c.args.site.now) c.args.records.now) (books_at c.open_line.new.unit (g.S.Site.state c.open_line.new.site) c.args.records.now) refl refl (c.open_line.ensures.intake c.args.records.now.grants.items)
    (c.open_line.ensures.judges c.args.records.now)).judges

pub returns-in_err-put_kept-clause-judges : goal.returns-in_err-put_kept-clause-judges
returns-in_err-put_kept-clause-judges g c = (works_on _ _ _ _ _ _ _ _ _ (works (standing_of c.args.unit.now) (standing_of c.open_line.new.unit) (g.S.Site.state c.args.site.now) (g.S.Site.state c.open_line.new.site) (books_at c.args.unit.now (g.S.Site.state c.args.site.now) c.args.records.now) (books_at c.open_line.new.unit (g.S.Site.state c.open_line.new.site) c.args.records.now) refl refl (c.open_line.ensures.intake c.args.records.now.grants.items)
    (c.open_line.ensures.judges c.args.records.now))
    (works_none (standing_of c.open_line.new.unit) (standing_of c.put_kept.new.unit) (g.S.Site.state c.open_line.new.site) (g.S.Site.state c.put_kept.new.site) (books_at c.open_line.new.unit (g.S.Site.state c.open_line.new.site) c.args.records.now) (books_at c.put_kept.new.unit (g.S.Site.state c.put_kept.new.site) c.put_kept.new.records) c.put_kept.ensures.stands refl refl c.put_kept.ensures.advances c.put_kept.ensures.passes c.put_kept.ensures.lines c.put_kept.ensures.books)).judges

pub returns-then-eq-2-clause-judges : goal.returns-then-eq-2-clause-judges
returns-then-eq-2-clause-judges g c = (works_on _ _ _ _ _ _ _ _ _ (works (standing_of c.args.unit.now) (standing_of c.open_line.new.unit) (g.S.Site.state c.args.site.now) (g.S.Site.state c.open_line.new.site) (books_at c.args.unit.now (g.S.Site.state c.args.site.now) c.args.records.now) (books_at c.open_line.new.unit (g.S.Site.state c.open_line.new.site) c.args.records.now) refl refl (c.open_line.ensures.intake c.args.records.now.grants.items)
    (c.open_line.ensures.judges c.args.records.now))
    (works_none (standing_of c.open_line.new.unit) (standing_of c.put_kept.new.unit) (g.S.Site.state c.open_line.new.site) (g.S.Site.state c.put_kept.new.site) (books_at c.open_line.new.unit (g.S.Site.state c.open_line.new.site) c.args.records.now) (books_at c.put_kept.new.unit (g.S.Site.state c.put_kept.new.site) c.put_kept.new.records) c.put_kept.ensures.stands refl refl c.put_kept.ensures.advances c.put_kept.ensures.passes c.put_kept.ensures.lines c.put_kept.ensures.books)).judges

pub returns-in_err-take_in-clause-judges : goal.returns-in_err-take_in-clause-judges
returns-in_err-take_in-clause-judges g c = (works_on _ _ _ _ _ _ _ _ _ (works_on _ _ _ _ _ _ _ _ _ (works (standing_of c.args.unit.now) (standing_of c.open_line.new.unit) (g.S.Site.state c.args.site.now) (g.S.Site.state c.open_line.new.site) (books_at c.args.unit.now (g.S.Site.state c.args.site.now) c.args.records.now) (books_at c.open_line.new.unit (g.S.Site.state c.open_line.new.site) c.args.records.now) refl refl (c.open_line.ensures.intake c.args.records.now.grants.items)
    (c.open_line.ensures.judges c.args.records.now))
    (works_none (standing_of c.open_line.new.unit) (standing_of c.put_kept.new.unit) (g.S.Site.state c.open_line.new.site) (g.S.Site.state c.put_kept.new.site) (books_at c.open_line.new.unit (g.S.Site.state c.open_line.new.site) c.args.records.now) (books_at c.put_kept.new.unit (g.S.Site.state c.put_kept.new.site) c.put_kept.new.records) c.put_kept.ensures.stands refl refl c.put_kept.ensures.advances c.put_kept.ensures.passes c.put_kept.ensures.lines c.put_kept.ensures.books))
    (works (standing_of c.put_kept.new.unit) (standing_of c.take_in.new.unit) (g.S.Site.state c.put_kept.new.site) (g.S.Site.state c.take_in.new.site) (books_at c.put_kept.new.unit (g.S.Site.state c.put_kept.new.site) c.put_kept.new.records) (books_at c.take_in.new.unit (g.S.Site.state c.take_in.new.site) c.take_in.new.records) refl refl (c.take_in.ensures.intake (ended_stands _ _ c.put_kept.ensures.stands ∙ c.in_ok-open_line.ensures.goes_on (search rules)))
    (c.take_in.ensures.judges (ended_stands _ _ c.put_kept.ensures.stands ∙ c.in_ok-open_line.ensures.goes_on (search rules))))).judges

pub returns-then-eq-3-clause-judges : goal.returns-then-eq-3-clause-judges
returns-then-eq-3-clause-judges g c = (works_on _ _ _ _ _ _ _ _ _ (works_on _ _ _ _ _ _ _ _ _ (works (standing_of c.args.unit.now) (standing_of c.open_line.new.unit) (g.S.Site.state c.args.site.now) (g.S.Site.state c.open_line.new.site) (books_at c.args.unit.now (g.S.Site.state c.args.site.now) c.args.records.now) (books_at c.open_line.new.unit (g.S.Site.state c.open_line.new.site) c.args.records.now) refl refl (c.open_line.ensures.intake c.args.records.now.grants.items)
    (c.open_line.ensures.judges c.args.records.now))
    (works_none (standing_of c.open_line.new.unit) (standing_of c.put_kept.new.unit) (g.S.Site.state c.open_line.new.site) (g.S.Site.state c.put_kept.new.site) (books_at c.open_line.new.unit (g.S.Site.state c.open_line.new.site) c.args.records.now) (books_at c.put_kept.new.unit (g.S.Site.state c.put_kept.new.site) c.put_kept.new.records) c.put_kept.ensures.stands refl refl c.put_kept.ensures.advances c.put_kept.ensures.passes c.put_kept.ensures.lines c.put_kept.ensures.books))
    (works (standing_of c.put_kept.new.unit) (standing_of c.take_in.new.unit) (g.S.Site.state c.put_kept.new.site) (g.S.Site.state c.take_in.new.site) (books_at c.put_kept.new.unit (g.S.Site.state c.put_kept.new.site) c.put_kept.new.records) (books_at c.take_in.new.unit (g.S.Site.state c.take_in.new.site) c.take_in.new.records) refl refl (c.take_in.ensures.intake (ended_stands _ _ c.put_kept.ensures.stands ∙ c.in_ok-open_line.ensures.goes_on (search rules)))
    (c.take_in.ensures.judges (ended_stands _ _ c.put_kept.ensures.stands ∙ c.in_ok-open_line.ensures.goes_on (search rules))))).judges

pub returns-clause-judges : goal.returns-clause-judges
returns-clause-judges g c = (works_on _ _ _ _ _ _ _ _ _ (works_on _ _ _ _ _ _ _ _ _ (works_on _ _ _ _ _ _ _ _ _ (works (standing_of c.args.unit.now) (standing_of c.open_line.new.unit) (g.S.Site.state c.args.site.now) (g.S.Site.state c.open_line.new.site) (books_at c.args.unit.now (g.S.Site.state c.args.site.now) c.args.records.now) (books_at c.open_line.new.unit (g.S.Site.state c.open_line.new.site) c.args.records.now) refl refl (c.open_line.ensures.intake c.args.records.now.grants.items)
    (c.open_line.ensures.judges c.args.records.now))
    (works_none (standing_of c.open_line.new.unit) (standing_of c.put_kept.new.unit) (g.S.Site.state c.open_line.new.site) (g.S.Site.state c.put_kept.new.site) (books_at c.open_line.new.unit (g.S.Site.state c.open_line.new.site) c.args.records.now) (books_at c.put_kept.new.unit (g.S.Site.state c.put_kept.new.site) c.put_kept.new.records) c.put_kept.ensures.stands refl refl c.put_kept.ensures.advances c.put_kept.ensures.passes c.put_kept.ensures.lines c.put_kept.ensures.books))
    (works (standing_of c.put_kept.new.unit) (standing_of c.take_in.new.unit) (g.S.Site.state c.put_kept.new.site) (g.S.Site.state c.take_in.new.site) (books_at c.put_kept.new.unit (g.S.Site.state c.put_kept.new.site) c.put_kept.new.records) (books_at c.take_in.new.unit (g.S.Site.state c.take_in.new.site) c.take_in.new.records) refl refl (c.take_in.ensures.intake (ended_stands _ _ c.put_kept.ensures.stands ∙ c.in_ok-open_line.ensures.goes_on (search rules)))
    (c.take_in.ensures.judges (ended_stands _ _ c.put_kept.ensures.stands ∙ c.in_ok-open_line.ensures.goes_on (search rules)))))
    (works (standing_of c.take_in.new.unit) (standing_of c.serve.new.unit) (g.S.Site.state c.take_in.new.site) (g.S.Site.state c.serve.new.site) (books_at c.take_in.new.unit (g.S.Site.state c.take_in.new.site) c.take_in.new.records) (books_at c.serve.new.unit (g.S.Site.state c.serve.new.site) c.serve.new.records) refl refl c.serve.ensures.intake
    c.serve.ensures.judges)).judges

pub returns-in_err-open_line-clause-answers : goal.returns-in_err-open_line-clause-answers
returns-in_err-open_line-clause-answers g c = λ own receipts intake judged is alone has.
    c.open_line.ensures.answers c.args.records.now alone has

pub returns-then-eq-clause-answers : goal.returns-then-eq-clause-answers
returns-then-eq-clause-answers g c = λ own receipts intake judged is alone has.
    c.open_line.ensures.answers c.args.records.now alone has

pub returns-in_err-put_kept-clause-answers : goal.returns-in_err-put_kept-clause-answers
returns-in_err-put_kept-clause-answers g c = λ own receipts intake judged is alone has.
    c.put_kept.ensures.answers judged (c.open_line.ensures.books c.args.records.now intake.idle judged is) alone (c.open_line.ensures.answers c.args.records.now alone has)

pub returns-then-eq-2-clause-answers : goal.returns-then-eq-2-clause-answers
returns-then-eq-2-clause-answers g c = λ own receipts intake judged is alone has.
    c.put_kept.ensures.answers judged (c.open_line.ensures.books c.args.records.now intake.idle judged is) alone (c.open_line.ensures.answers c.args.records.now alone has)

pub returns-in_err-take_in-clause-answers : goal.returns-in_err-take_in-clause-answers
returns-in_err-take_in-clause-answers g c = λ own receipts intake judged is alone has.
    c.take_in.ensures.answers alone (c.put_kept.ensures.answers judged (c.open_line.ensures.books c.args.records.now intake.idle judged is) alone (c.open_line.ensures.answers c.args.records.now alone has))

pub returns-then-eq-3-clause-answers : goal.returns-then-eq-3-clause-answers
returns-then-eq-3-clause-answers g c = λ own receipts intake judged is alone has.
    c.take_in.ensures.answers alone (c.put_kept.ensures.answers judged (c.open_line.ensures.books c.args.records.now intake.idle judged is) alone (c.open_line.ensures.answers c.args.records.now alone has))

pub returns-clause-answers : goal.returns-clause-answers
returns-clause-answers g c = λ own receipts intake judged is alone has.
    let more = ((works_on _ _ _ _ _ _ _ _ _ (works_on _ _ _ _ _ _ _ _ _ (works (standing_of c.args.unit.now) (standing_of c.open_line.new.unit) (g.S.Site.state c.args.site.now) (g.S.Site.state c.open_line.new.site) (books_at c.args.unit.now (g.S.Site.state c.args.site.now) c.args.records.now) (books_at c.open_line.new.unit (g.S.Site.state c.open_line.new.site) c.args.records.now) refl refl (c.open_line.ensures.intake c.args.records.now.grants.items)
    (c.open_line.ensures.judges c.args.records.now))
    (works_none (standing_of c.open_line.new.unit) (standing_of c.put_kept.new.unit) (g.S.Site.state c.open_line.new.site) (g.S.Site.state c.put_kept.new.site) (books_at c.open_line.new.unit (g.S.Site.state c.open_line.new.site) c.args.records.now) (books_at c.put_kept.new.unit (g.S.Site.state c.put_kept.new.site) c.put_kept.new.records) c.put_kept.ensures.stands refl refl c.put_kept.ensures.advances c.put_kept.ensures.passes c.put_kept.ensures.lines c.put_kept.ensures.books))
    (works (standing_of c.put_kept.new.unit) (standing_of c.take_in.new.unit) (g.S.Site.state c.put_kept.new.site) (g.S.Site.state c.take_in.new.site) (books_at c.put_kept.new.unit (g.S.Site.state c.put_kept.new.site) c.put_kept.new.records) (books_at c.take_in.new.unit (g.S.Site.state c.take_in.new.site) c.take_in.new.records) refl refl (c.take_in.ensures.intake (ended_stands _ _ c.put_kept.ensures.stands ∙ c.in_ok-open_line.ensures.goes_on (search rules)))
    (c.take_in.ensures.judges (ended_stands _ _ c.put_kept.ensures.stands ∙ c.in_ok-open_line.ensures.goes_on (search rules))))).judges).more own receipts judged intake is in
    c.serve.ensures.answers (judged ++ more.more) more.kept alone
    (c.take_in.ensures.answers alone (c.put_kept.ensures.answers judged (c.open_line.ensures.books c.args.records.now intake.idle judged is) alone (c.open_line.ensures.answers c.args.records.now alone has)))

pub returns-in_err-open_line-clause-cargo : goal.returns-in_err-open_line-clause-cargo
returns-in_err-open_line-clause-cargo g c = λ told asked all serving hand. keeps_same _ _ (c.open_line.ensures.cargo c.args.records.now) told asked hand

pub returns-then-eq-clause-cargo : goal.returns-then-eq-clause-cargo
returns-then-eq-clause-cargo g c = λ told asked all serving hand. keeps_same _ _ (c.open_line.ensures.cargo c.args.records.now) told asked hand

pub returns-in_err-put_kept-clause-cargo : goal.returns-in_err-put_kept-clause-cargo
returns-in_err-put_kept-clause-cargo g c = λ told asked all serving hand.
    let opened = (c.open_line.ensures.once c.args.records.now (held told c.args.disk.now.count None) serving).serving in
    keeps_same _ _ (c.put_kept.ensures.cargo _ opened) told asked (keeps_same _ _ (c.open_line.ensures.cargo c.args.records.now) told asked hand)

pub returns-then-eq-2-clause-cargo : goal.returns-then-eq-2-clause-cargo
returns-then-eq-2-clause-cargo g c = λ told asked all serving hand.
    let opened = (c.open_line.ensures.once c.args.records.now (held told c.args.disk.now.count None) serving).serving in
    keeps_same _ _ (c.put_kept.ensures.cargo _ opened) told asked (keeps_same _ _ (c.open_line.ensures.cargo c.args.records.now) told asked hand)

pub returns-in_err-take_in-clause-cargo : goal.returns-in_err-take_in-clause-cargo
returns-in_err-take_in-clause-cargo g c = λ told asked all serving hand.
    let opened = (c.open_line.ensures.once c.args.records.now (held told c.args.disk.now.count None) serving).serving in
    c.take_in.ensures.cargo told asked (keeps_same _ _ (c.put_kept.ensures.cargo _ opened) told asked (keeps_same _ _ (c.open_line.ensures.cargo c.args.records.now) told asked hand))

pub returns-then-eq-3-clause-cargo : goal.returns-then-eq-3-clause-cargo
returns-then-eq-3-clause-cargo g c = λ told asked all serving hand.
    let opened = (c.open_line.ensures.once c.args.records.now (held told c.args.disk.now.count None) serving).serving in
    c.take_in.ensures.cargo told asked (keeps_same _ _ (c.put_kept.ensures.cargo _ opened) told asked (keeps_same _ _ (c.open_line.ensures.cargo c.args.records.now) told asked hand))

pub returns-clause-cargo : goal.returns-clause-cargo
returns-clause-cargo g c = λ told asked all serving hand.
    let heard = tells_first told c.args.unit.now.id (g.S.Site.state c.args.site.now) (g.S.Site.state c.take_in.new.site) (g.S.Site.state c.serve.new.site) c.serve.ensures.advances all in
    let disk = held told c.args.disk.now.count None in
    let first = (c.open_line.ensures.once c.args.records.now disk serving).serving in
    let opened =
    once_by (g.S.Site.state c.args.site.now) (g.S.Site.state c.put_kept.new.site) (g.S.Site.state c.take_in.new.site) _ _ _ c.args.records.now c.put_kept.new.records c.take_in.new.records
    (advances_on _ _ _ c.open_line.ensures.advances c.put_kept.ensures.advances) c.take_in.ensures.advances
    (λ disk heard. once_on _ _ _ _ _ _ _ _ _ (c.open_line.ensures.once c.args.records.now) c.put_kept.ensures.once disk) c.take_in.ensures.once disk heard serving in
    let gone = advances_on _ _ _ (advances_on _ _ _ c.open_line.ensures.advances c.put_kept.ensures.advances) c.take_in.ensures.advances in
    c.serve.ensures.cargo told asked
    (tells_next told c.take_in.new.unit.id (g.S.Site.state c.args.site.now) (g.S.Site.state c.take_in.new.site) (g.S.Site.state c.serve.new.site) gone
    (subst (λ (id : UnitId). TellsAll told id (g.S.Site.state c.args.site.now) (g.S.Site.state c.serve.new.site)) (sym opened.id) all)) opened.serving
    (c.take_in.ensures.cargo told asked (keeps_same _ _ (c.put_kept.ensures.cargo _ first) told asked (keeps_same _ _ (c.open_line.ensures.cargo c.args.records.now) told asked hand)))

pub returns-in_err-open_line-clause-refuses : goal.returns-in_err-open_line-clause-refuses
returns-in_err-open_line-clause-refuses g c = λ told all serving front knows is. c.open_line.ensures.refuses c.args.records.now told c.args.unit.now.id front is

pub returns-then-eq-clause-refuses : goal.returns-then-eq-clause-refuses
returns-then-eq-clause-refuses g c = λ told all serving front knows is. c.open_line.ensures.refuses c.args.records.now told c.args.unit.now.id front is

pub returns-in_err-put_kept-clause-refuses : goal.returns-in_err-put_kept-clause-refuses
returns-in_err-put_kept-clause-refuses g c = λ told all serving front knows.
    let told_kept = known_within g.S.Site.link_shared c.args.unit.now.line.handshake c.open_line.new.unit.line.handshake (g.S.Site.state c.args.site.now) (g.S.Site.state c.open_line.new.site)
    (g.S.Site.state c.put_kept.new.site) (g.S.Site.state c.put_kept.new.site) front.closed c.open_line.ensures.advances (advances_same _) c.open_line.ensures.agrees knows in
    let disk = held told c.args.disk.now.count None in
    explained_then disk disk _ _ _ _ _ _ front _ _ _ (c.open_line.ensures.once c.args.records.now disk serving)
    (c.open_line.ensures.refuses c.args.records.now told c.args.unit.now.id front) (λ serving. c.put_kept.ensures.refuses disk.terms serving front told_kept)

pub returns-then-eq-2-clause-refuses : goal.returns-then-eq-2-clause-refuses
returns-then-eq-2-clause-refuses g c = λ told all serving front knows.
    let told_kept = known_within g.S.Site.link_shared c.args.unit.now.line.handshake c.open_line.new.unit.line.handshake (g.S.Site.state c.args.site.now) (g.S.Site.state c.open_line.new.site)
    (g.S.Site.state c.put_kept.new.site) (g.S.Site.state c.put_kept.new.site) front.closed c.open_line.ensures.advances (advances_same _) c.open_line.ensures.agrees knows in
    let disk = held told c.args.disk.now.count None in
    explained_then disk disk _ _ _ _ _ _ front _ _ _ (c.open_line.ensures.once c.args.records.now disk serving)
    (c.open_line.ensures.refuses c.args.records.now told c.args.unit.now.id front) (λ serving. c.put_kept.ensures.refuses disk.terms serving front told_kept)

pub returns-in_err-take_in-clause-refuses : goal.returns-in_err-take_in-clause-refuses
returns-in_err-take_in-clause-refuses g c = λ told all serving front knows is.
    let told_kept = known_within g.S.Site.link_shared c.args.unit.now.line.handshake c.open_line.new.unit.line.handshake (g.S.Site.state c.args.site.now) (g.S.Site.state c.open_line.new.site)
    (g.S.Site.state c.put_kept.new.site) (g.S.Site.state c.take_in.new.site) front.closed c.open_line.ensures.advances c.take_in.ensures.advances c.open_line.ensures.agrees knows in
    let disk = held told c.args.disk.now.count None in
    let heard = tells_next told c.args.unit.now.id (g.S.Site.state c.args.site.now) (g.S.Site.state c.put_kept.new.site) (g.S.Site.state c.take_in.new.site) (advances_on _ _ _ c.open_line.ensures.advances c.put_kept.ensures.advances) all in
    c.take_in.ensures.refuses (ended_stands _ _ c.put_kept.ensures.stands ∙ c.in_ok-open_line.ensures.goes_on (search rules)) told c.args.unit.now.id front heard
    (explained_then disk disk _ _ _ _ _ _ front _ _ _ (c.open_line.ensures.once c.args.records.now disk serving)
    (c.open_line.ensures.refuses c.args.records.now told c.args.unit.now.id front) (λ serving. c.put_kept.ensures.refuses disk.terms serving front told_kept) is)

pub returns-then-eq-3-clause-refuses : goal.returns-then-eq-3-clause-refuses
returns-then-eq-3-clause-refuses g c = λ told all serving front knows is.
    let told_kept = known_within g.S.Site.link_shared c.args.unit.now.line.handshake c.open_line.new.unit.line.handshake (g.S.Site.state c.args.site.now) (g.S.Site.state c.open_line.new.site)
    (g.S.Site.state c.put_kept.new.site) (g.S.Site.state c.take_in.new.site) front.closed c.open_line.ensures.advances c.take_in.ensures.advances c.open_line.ensures.agrees knows in
    let disk = held told c.args.disk.now.count None in
    let heard = tells_next told c.args.unit.now.id (g.S.Site.state c.args.site.now) (g.S.Site.state c.put_kept.new.site) (g.S.Site.state c.take_in.new.site) (advances_on _ _ _ c.open_line.ensures.advances c.put_kept.ensures.advances) all in
    c.take_in.ensures.refuses (ended_stands _ _ c.put_kept.ensures.stands ∙ c.in_ok-open_line.ensures.goes_on (search rules)) told c.args.unit.now.id front heard
    (explained_then disk disk _ _ _ _ _ _ front _ _ _ (c.open_line.ensures.once c.args.records.now disk serving)
    (c.open_line.ensures.refuses c.args.records.now told c.args.unit.now.id front) (λ serving. c.put_kept.ensures.refuses disk.terms serving front told_kept) is)

pub returns-clause-refuses : goal.returns-clause-refuses
returns-clause-refuses g c = λ told all serving front knows.
    let told_kept = known_within g.S.Site.link_shared c.args.unit.now.line.handshake c.open_line.new.unit.line.handshake (g.S.Site.state c.args.site.now) (g.S.Site.state c.open_line.new.site)
    (g.S.Site.state c.put_kept.new.site) (g.S.Site.state c.serve.new.site) front.closed c.open_line.ensures.advances (advances_on _ _ _ c.take_in.ensures.advances c.serve.ensures.advances) c.open_line.ensures.agrees knows in
    let disk = held told c.args.disk.now.count None in
    let old = g.S.Site.state c.args.site.now in
    let put = g.S.Site.state c.put_kept.new.site in
    let taken_in = g.S.Site.state c.take_in.new.site in
    let new = g.S.Site.state c.serve.new.site in
    let opened = advances_on _ _ _ c.open_line.ensures.advances c.put_kept.ensures.advances in
    let first = advances_on _ _ _ opened c.take_in.ensures.advances in
    let heard = tells_first told c.args.unit.now.id old taken_in new c.serve.ensures.advances all in
    let taken =
    once_by old put taken_in _ _ _ c.args.records.now c.put_kept.new.records c.take_in.new.records opened c.take_in.ensures.advances
    (λ disk heard. once_on _ _ _ _ _ _ _ _ _ (c.open_line.ensures.once c.args.records.now) c.put_kept.ensures.once disk) c.take_in.ensures.once disk heard serving in
    explained_then disk disk _ _ _ _ _ _ front _ _ _ taken
    (λ is. c.take_in.ensures.refuses (ended_stands _ _ c.put_kept.ensures.stands ∙ c.in_ok-open_line.ensures.goes_on (search rules)) told c.args.unit.now.id front (tells_next told c.args.unit.now.id old put taken_in opened heard)
    (explained_then disk disk _ _ _ _ _ _ front _ _ _ (c.open_line.ensures.once c.args.records.now disk serving)
    (c.open_line.ensures.refuses c.args.records.now told c.args.unit.now.id front) (λ serving. c.put_kept.ensures.refuses disk.terms serving front told_kept) is))
    (λ serving. c.serve.ensures.refuses told
    (tells_next told c.take_in.new.unit.id old taken_in new first (subst (λ (id : UnitId). TellsAll told id old new) (sym taken.id) all)) serving front
    (known_within g.S.Site.link_shared c.args.unit.now.line.handshake c.take_in.new.unit.line.handshake old taken_in new new front.closed first (advances_same new)
    (λ agrees. c.take_in.ensures.agrees (c.put_kept.ensures.agrees (c.open_line.ensures.agrees agrees))) knows))

pub returns-then-eq-clause-comes : goal.returns-then-eq-clause-comes
returns-then-eq-clause-comes g c = λ told serving. comes_any _ _ _ _ c.in_ok-open_line.ensures.comes

pub returns-then-eq-2-clause-comes : goal.returns-then-eq-2-clause-comes
returns-then-eq-2-clause-comes g c = λ told serving.
    let opened = (c.open_line.ensures.once c.args.records.now (held told c.args.disk.now.count None) serving).serving in
    comes_any _ _ _ _ (comes_on _ _ _ _ _ _ c.in_ok-open_line.ensures.comes (c.in_ok-put_kept.ensures.comes _ opened))

pub returns-then-eq-3-clause-comes : goal.returns-then-eq-3-clause-comes
returns-then-eq-3-clause-comes g c = λ told serving.
    let opened = (c.open_line.ensures.once c.args.records.now (held told c.args.disk.now.count None) serving).serving in
    comes_any _ _ _ _ (comes_on _ _ _ _ _ _ (comes_on _ _ _ _ _ _ c.in_ok-open_line.ensures.comes (c.in_ok-put_kept.ensures.comes _ opened)) c.in_ok-take_in.ensures.comes)

pub returns-clause-comes : goal.returns-clause-comes
returns-clause-comes g c = λ told serving.
    let opened = (c.open_line.ensures.once c.args.records.now (held told c.args.disk.now.count None) serving).serving in
    on_ok c.serve.result _ _ (comes_then _ _ _ _ _ _ (comes_on _ _ _ _ _ _ (comes_on _ _ _ _ _ _ c.in_ok-open_line.ensures.comes (c.in_ok-put_kept.ensures.comes _ opened)) c.in_ok-take_in.ensures.comes)) c.serve.ensures.comes

pub returns-then-eq-clause-talks : goal.returns-then-eq-clause-talks
returns-then-eq-clause-talks g c = λ words calm.
    let opened = c.in_ok-open_line.ensures.rests (still_on c.args.unit.now.line calm.calm.closing calm.calm.up) calm.event in
    absurd (not_end c.in_ok-open_line.field-0 (search rules) (inl opened.0))

pub returns-then-eq-2-clause-talks : goal.returns-then-eq-2-clause-talks
returns-then-eq-2-clause-talks g c = λ words calm.
    let opened = c.in_ok-open_line.ensures.rests (still_on c.args.unit.now.line calm.calm.closing calm.calm.up) calm.event in
    let put = c.in_ok-put_kept.ensures.rests (ap (λ (u : Unit). u.line.kept) opened.1 ∙ calm.calm.kept) in
    absurd (not_end c.in_ok-put_kept.field-0 (search rules) (inl put.0))

pub returns-then-eq-3-clause-talks : goal.returns-then-eq-3-clause-talks
returns-then-eq-3-clause-talks g c = λ words calm.
    let on = still_on c.args.unit.now.line calm.calm.closing calm.calm.up in
    let opened = c.in_ok-open_line.ensures.rests on calm.event in
    let first = c.in_ok-open_line.ensures.idle calm.calm.alone on calm.event in
    let put = c.in_ok-put_kept.ensures.rests (ap (λ (u : Unit). u.line.kept) opened.1 ∙ calm.calm.kept) in
    let ready = ready_on _ c.args.unit.now c.open_line.new.unit c.put_kept.new.unit (reach_of (g.S.Site.state c.args.site.now)) (reach_of (g.S.Site.state c.open_line.new.site)) (reach_of (g.S.Site.state c.put_kept.new.site)) words calm
    opened.1 first.0 first.1 c.open_line.ensures.advances.shared put.1 (ap reach_of put.2) in
    absurd (not_end c.in_ok-take_in.field-0 (search rules) (inr (c.in_ok-take_in.ensures.hears words ready.0 ready.1).0))

pub returns-clause-talks : goal.returns-clause-talks
returns-clause-talks g c = λ words calm.
    let on = still_on c.args.unit.now.line calm.calm.closing calm.calm.up in
    let opened = c.in_ok-open_line.ensures.rests on calm.event in
    let first = c.in_ok-open_line.ensures.idle calm.calm.alone on calm.event in
    let none = ap (λ (u : Unit). u.line.kept) opened.1 ∙ calm.calm.kept in
    let put = c.in_ok-put_kept.ensures.rests none in
    talks_on _ c.args.unit.now c.open_line.new.unit c.put_kept.new.unit c.take_in.new.unit c.serve.new.unit
    (reach_of (g.S.Site.state c.args.site.now)) (reach_of (g.S.Site.state c.open_line.new.site)) (reach_of (g.S.Site.state c.put_kept.new.site)) (reach_of (g.S.Site.state c.take_in.new.site)) (g.S.Site.state c.serve.new.site).queue
    _ _ _ _ words c.serve.result calm opened.1 first.0 first.1 c.open_line.ensures.advances.shared put.1 (ap reach_of put.2) (c.in_ok-put_kept.ensures.unkept none) c.take_in.ensures.advances.shared
    (λ now few. let heard = c.in_ok-take_in.ensures.hears words now few in (heard.1, heard.2))
    c.serve.ensures.nothing (λ empty. ap (λ (s : SiteState). s.queue) (c.serve.ensures.still empty)) c.serve.ensures.unserved c.serve.ensures.serves

pub returns-then-eq-clause-writes : goal.returns-then-eq-clause-writes
returns-then-eq-clause-writes g c = λ told all serving words calm.
    let opened = c.in_ok-open_line.ensures.rests (still_on c.args.unit.now.line calm.calm.closing calm.calm.up) calm.event in
    absurd (not_end c.in_ok-open_line.field-0 (search rules) (inl opened.0))

pub returns-then-eq-2-clause-writes : goal.returns-then-eq-2-clause-writes
returns-then-eq-2-clause-writes g c = λ told all serving words calm.
    let opened = c.in_ok-open_line.ensures.rests (still_on c.args.unit.now.line calm.calm.closing calm.calm.up) calm.event in
    let put = c.in_ok-put_kept.ensures.rests (ap (λ (u : Unit). u.line.kept) opened.1 ∙ calm.calm.kept) in
    absurd (not_end c.in_ok-put_kept.field-0 (search rules) (inl put.0))

pub returns-then-eq-3-clause-writes : goal.returns-then-eq-3-clause-writes
returns-then-eq-3-clause-writes g c = λ told all serving words calm.
    let on = still_on c.args.unit.now.line calm.calm.closing calm.calm.up in
    let opened = c.in_ok-open_line.ensures.rests on calm.event in
    let first = c.in_ok-open_line.ensures.idle calm.calm.alone on calm.event in
    let put = c.in_ok-put_kept.ensures.rests (ap (λ (u : Unit). u.line.kept) opened.1 ∙ calm.calm.kept) in
    let ready = ready_on _ c.args.unit.now c.open_line.new.unit c.put_kept.new.unit (reach_of (g.S.Site.state c.args.site.now)) (reach_of (g.S.Site.state c.open_line.new.site)) (reach_of (g.S.Site.state c.put_kept.new.site)) words calm
    opened.1 first.0 first.1 c.open_line.ensures.advances.shared put.1 (ap reach_of put.2) in
    absurd (not_end c.in_ok-take_in.field-0 (search rules) (inr (c.in_ok-take_in.ensures.hears words ready.0 ready.1).0))

pub returns-clause-writes : goal.returns-clause-writes
returns-clause-writes g c = λ told all serving words calm.
    let heard = tells_first told c.args.unit.now.id (g.S.Site.state c.args.site.now) (g.S.Site.state c.take_in.new.site) (g.S.Site.state c.serve.new.site) c.serve.ensures.advances all in
    let disk = held told c.args.disk.now.count None in
    let behind =
    once_by (g.S.Site.state c.args.site.now) (g.S.Site.state c.put_kept.new.site) (g.S.Site.state c.take_in.new.site) _ _ _ c.args.records.now c.put_kept.new.records c.take_in.new.records
    (advances_on _ _ _ c.open_line.ensures.advances c.put_kept.ensures.advances) c.take_in.ensures.advances
    (λ disk heard. once_on _ _ _ _ _ _ _ _ _ (c.open_line.ensures.once c.args.records.now) c.put_kept.ensures.once disk) c.take_in.ensures.once disk heard serving in
    let gone = advances_on _ _ _ (advances_on _ _ _ c.open_line.ensures.advances c.put_kept.ensures.advances) c.take_in.ensures.advances in
    let next = tells_next told c.take_in.new.unit.id (g.S.Site.state c.args.site.now) (g.S.Site.state c.take_in.new.site) (g.S.Site.state c.serve.new.site) gone
    (subst (λ (id : UnitId). TellsAll told id (g.S.Site.state c.args.site.now) (g.S.Site.state c.serve.new.site)) (sym behind.id) all) in
    let on = still_on c.args.unit.now.line calm.calm.closing calm.calm.up in
    let opened = c.in_ok-open_line.ensures.rests on calm.event in
    let first = c.in_ok-open_line.ensures.idle calm.calm.alone on calm.event in
    let none = ap (λ (u : Unit). u.line.kept) opened.1 ∙ calm.calm.kept in
    let put = c.in_ok-put_kept.ensures.rests none in
    writes_on (told_to told c.args.unit.now.id) _ c.args.unit.now c.open_line.new.unit c.put_kept.new.unit c.take_in.new.unit
    (g.S.Site.state c.args.site.now) (g.S.Site.state c.open_line.new.site) (g.S.Site.state c.put_kept.new.site) (g.S.Site.state c.take_in.new.site) (g.S.Site.state c.serve.new.site)
    _ _ _ words c.serve.result calm opened.1 first.0 first.1 c.open_line.ensures.advances.shared put.1 put.2 (c.in_ok-put_kept.ensures.unkept none) c.take_in.ensures.advances.shared
    (λ now few. (c.in_ok-take_in.ensures.hears words now few).1)
    (λ window apart start request rest is. subst (λ (id : UnitId). LaysIn (MayWrite (told_to told id) request) (client_known (g.S.Site.state c.take_in.new.site)) (client_known (g.S.Site.state c.serve.new.site)))
    behind.id (c.serve.ensures.wrote told next behind.serving request rest is))
    c.serve.ensures.still

pub returns-then-eq-clause-leaves : goal.returns-then-eq-clause-leaves
returns-then-eq-clause-leaves g c = λ words calm.
    let opened = c.in_ok-open_line.ensures.rests (still_on c.args.unit.now.line calm.calm.closing calm.calm.up) calm.event in
    absurd (not_end c.in_ok-open_line.field-0 (search rules) (inl opened.0))

pub returns-then-eq-2-clause-leaves : goal.returns-then-eq-2-clause-leaves
returns-then-eq-2-clause-leaves g c = λ words calm.
    let opened = c.in_ok-open_line.ensures.rests (still_on c.args.unit.now.line calm.calm.closing calm.calm.up) calm.event in
    let put = c.in_ok-put_kept.ensures.rests (ap (λ (u : Unit). u.line.kept) opened.1 ∙ calm.calm.kept) in
    absurd (not_end c.in_ok-put_kept.field-0 (search rules) (inl put.0))

pub returns-then-eq-3-clause-leaves : goal.returns-then-eq-3-clause-leaves
returns-then-eq-3-clause-leaves g c = λ words calm.
    let on = still_on c.args.unit.now.line calm.calm.closing calm.calm.up in
    let opened = c.in_ok-open_line.ensures.rests on calm.event in
    let first = c.in_ok-open_line.ensures.idle calm.calm.alone on calm.event in
    let put = c.in_ok-put_kept.ensures.rests (ap (λ (u : Unit). u.line.kept) opened.1 ∙ calm.calm.kept) in
    let ready = ready_on _ c.args.unit.now c.open_line.new.unit c.put_kept.new.unit (reach_of (g.S.Site.state c.args.site.now)) (reach_of (g.S.Site.state c.open_line.new.site)) (reach_of (g.S.Site.state c.put_kept.new.site)) words calm
    opened.1 first.0 first.1 c.open_line.ensures.advances.shared put.1 (ap reach_of put.2) in
    absurd (not_end c.in_ok-take_in.field-0 (search rules) (inr (c.in_ok-take_in.ensures.hears words ready.0 ready.1).0))

pub returns-clause-leaves : goal.returns-clause-leaves
returns-clause-leaves g c = λ words calm.
    let on = still_on c.args.unit.now.line calm.calm.closing calm.calm.up in
    let opened = c.in_ok-open_line.ensures.rests on calm.event in
    let first = c.in_ok-open_line.ensures.idle calm.calm.alone on calm.event in
    let none = ap (λ (u : Unit). u.line.kept) opened.1 ∙ calm.calm.kept in
    let put = c.in_ok-put_kept.ensures.rests none in
    leaves_on _ c.args.unit.now c.open_line.new.unit c.put_kept.new.unit c.take_in.new.unit
    (reach_of (g.S.Site.state c.args.site.now)) (reach_of (g.S.Site.state c.open_line.new.site)) (reach_of (g.S.Site.state c.put_kept.new.site)) (reach_of (g.S.Site.state c.take_in.new.site))
    (g.S.Site.state c.args.site.now).own.place.unit (g.S.Site.state c.take_in.new.site).own.place.unit (g.S.Site.state c.serve.new.site).queue (g.S.Site.state c.serve.new.site).client
    _ _ _ _ _ _ _ words c.serve.result calm opened.1 first.0 first.1 c.open_line.ensures.advances.shared put.1 (ap reach_of put.2) (c.in_ok-put_kept.ensures.unkept none) c.take_in.ensures.advances.shared
    (ap (λ (place : PortPlace). place.unit) (c.take_in.ensures.advances.own_place ∙ ap (λ (s : SiteState). s.own.place) put.2 ∙ c.open_line.ensures.advances.own_place))
    (c.put_kept.ensures.unkept_rows none) c.take_in.ensures.rows
    (λ now few. (c.in_ok-take_in.ensures.hears words now few).1)
    c.serve.ensures.leaves
    (λ request rest is asks_out. ap (λ (s : SiteState). s.client) (c.serve.ensures.out request rest is asks_out))

pub returns-then-eq-clause-places : goal.returns-then-eq-clause-places
returns-then-eq-clause-places g c = λ words calm.
    let opened = c.in_ok-open_line.ensures.rests (still_on c.args.unit.now.line calm.calm.closing calm.calm.up) calm.event in
    absurd (not_end c.in_ok-open_line.field-0 (search rules) (inl opened.0))

pub returns-then-eq-2-clause-places : goal.returns-then-eq-2-clause-places
returns-then-eq-2-clause-places g c = λ words calm.
    let opened = c.in_ok-open_line.ensures.rests (still_on c.args.unit.now.line calm.calm.closing calm.calm.up) calm.event in
    let put = c.in_ok-put_kept.ensures.rests (ap (λ (u : Unit). u.line.kept) opened.1 ∙ calm.calm.kept) in
    absurd (not_end c.in_ok-put_kept.field-0 (search rules) (inl put.0))

pub returns-then-eq-3-clause-places : goal.returns-then-eq-3-clause-places
returns-then-eq-3-clause-places g c = λ words calm.
    let on = still_on c.args.unit.now.line calm.calm.closing calm.calm.up in
    let opened = c.in_ok-open_line.ensures.rests on calm.event in
    let first = c.in_ok-open_line.ensures.idle calm.calm.alone on calm.event in
    let put = c.in_ok-put_kept.ensures.rests (ap (λ (u : Unit). u.line.kept) opened.1 ∙ calm.calm.kept) in
    let ready = ready_on _ c.args.unit.now c.open_line.new.unit c.put_kept.new.unit (reach_of (g.S.Site.state c.args.site.now)) (reach_of (g.S.Site.state c.open_line.new.site)) (reach_of (g.S.Site.state c.put_kept.new.site)) words calm
    opened.1 first.0 first.1 c.open_line.ensures.advances.shared put.1 (ap reach_of put.2) in
    absurd (not_end c.in_ok-take_in.field-0 (search rules) (inr (c.in_ok-take_in.ensures.hears words ready.0 ready.1).0))

pub returns-clause-places : goal.returns-clause-places
returns-clause-places g c = λ words calm.
    let on = still_on c.args.unit.now.line calm.calm.closing calm.calm.up in
    let opened = c.in_ok-open_line.ensures.rests on calm.event in
    let first = c.in_ok-open_line.ensures.idle calm.calm.alone on calm.event in
    let none = ap (λ (u : Unit). u.line.kept) opened.1 ∙ calm.calm.kept in
    let put = c.in_ok-put_kept.ensures.rests none in
    writes_on (stood (g.S.Site.state c.args.site.now).client) _ c.args.unit.now c.open_line.new.unit c.put_kept.new.unit c.take_in.new.unit
    (g.S.Site.state c.args.site.now) (g.S.Site.state c.open_line.new.site) (g.S.Site.state c.put_kept.new.site) (g.S.Site.state c.take_in.new.site) (g.S.Site.state c.serve.new.site)
    _ _ _ words c.serve.result calm opened.1 first.0 first.1 c.open_line.ensures.advances.shared put.1 put.2 (c.in_ok-put_kept.ensures.unkept none) c.take_in.ensures.advances.shared
    (λ now few. (c.in_ok-take_in.ensures.hears words now few).1)
    (λ window apart start request rest is. c.serve.ensures.placed (g.S.Site.state c.args.site.now).client window apart start request rest is)
    c.serve.ensures.still

pub returns-then-eq-clause-opens : goal.returns-then-eq-clause-opens
returns-then-eq-clause-opens g c = λ is. record { opens = (c.in_ok-open_line.ensures.opens is).1; lines_are = refl; rows_are = refl }

pub returns-then-eq-2-clause-opens : goal.returns-then-eq-2-clause-opens
returns-then-eq-2-clause-opens g c = λ is. absurd (over_not c.in_ok-open_line.field-0 (search rules) (c.in_ok-open_line.ensures.opens is).0)

pub returns-then-eq-3-clause-opens : goal.returns-then-eq-3-clause-opens
returns-then-eq-3-clause-opens g c = λ is. absurd (over_not c.in_ok-open_line.field-0 (search rules) (c.in_ok-open_line.ensures.opens is).0)

pub returns-clause-opens : goal.returns-clause-opens
returns-clause-opens g c = λ is. absurd (over_not c.in_ok-open_line.field-0 (search rules) (c.in_ok-open_line.ensures.opens is).0)

pub returns-then-eq-clause-rows : goal.returns-then-eq-clause-rows
returns-then-eq-clause-rows g c = λ words calm.
    let opened = c.in_ok-open_line.ensures.rests (still_on c.args.unit.now.line calm.calm.closing calm.calm.up) calm.event in
    absurd (not_end c.in_ok-open_line.field-0 (search rules) (inl opened.0))

pub returns-then-eq-2-clause-rows : goal.returns-then-eq-2-clause-rows
returns-then-eq-2-clause-rows g c = λ words calm.
    let opened = c.in_ok-open_line.ensures.rests (still_on c.args.unit.now.line calm.calm.closing calm.calm.up) calm.event in
    let put = c.in_ok-put_kept.ensures.rests (ap (λ (u : Unit). u.line.kept) opened.1 ∙ calm.calm.kept) in
    absurd (not_end c.in_ok-put_kept.field-0 (search rules) (inl put.0))

pub returns-then-eq-3-clause-rows : goal.returns-then-eq-3-clause-rows
returns-then-eq-3-clause-rows g c = λ words calm.
    let on = still_on c.args.unit.now.line calm.calm.closing calm.calm.up in
    let opened = c.in_ok-open_line.ensures.rests on calm.event in
    let first = c.in_ok-open_line.ensures.idle calm.calm.alone on calm.event in
    let put = c.in_ok-put_kept.ensures.rests (ap (λ (u : Unit). u.line.kept) opened.1 ∙ calm.calm.kept) in
    let ready = ready_on _ c.args.unit.now c.open_line.new.unit c.put_kept.new.unit (reach_of (g.S.Site.state c.args.site.now)) (reach_of (g.S.Site.state c.open_line.new.site)) (reach_of (g.S.Site.state c.put_kept.new.site)) words calm
    opened.1 first.0 first.1 c.open_line.ensures.advances.shared put.1 (ap reach_of put.2) in
    absurd (not_end c.in_ok-take_in.field-0 (search rules) (inr (c.in_ok-take_in.ensures.hears words ready.0 ready.1).0))

pub returns-clause-rows : goal.returns-clause-rows
returns-clause-rows g c = λ words calm.
    let on = still_on c.args.unit.now.line calm.calm.closing calm.calm.up in
    let opened = c.in_ok-open_line.ensures.rests on calm.event in
    let first = c.in_ok-open_line.ensures.idle calm.calm.alone on calm.event in
    let none = ap (λ (u : Unit). u.line.kept) opened.1 ∙ calm.calm.kept in
    let put = c.in_ok-put_kept.ensures.rests none in
    rows_on _ c.args.unit.now c.open_line.new.unit c.put_kept.new.unit c.take_in.new.unit
    (reach_of (g.S.Site.state c.args.site.now)) (reach_of (g.S.Site.state c.open_line.new.site)) (reach_of (g.S.Site.state c.put_kept.new.site)) (reach_of (g.S.Site.state c.take_in.new.site))
    _ _ _ _ _ _ _ words c.serve.result calm opened.1 first.0 first.1 c.open_line.ensures.advances.shared put.1 (ap reach_of put.2) (c.in_ok-put_kept.ensures.unkept none) c.take_in.ensures.advances.shared
    (c.put_kept.ensures.unkept_rows none) (c.take_in.ensures.intake (ended_stands _ _ c.put_kept.ensures.stands ∙ c.in_ok-open_line.ensures.goes_on (search rules))).id c.take_in.ensures.rows
    (λ now few. (c.in_ok-take_in.ensures.hears words now few).1)
    c.serve.ensures.rows c.serve.ensures.no_row

pub returns-then-eq-clause-does : goal.returns-then-eq-clause-does
returns-then-eq-clause-does g c = λ alone apart rests. c.in_ok-open_line.ensures.does c.args.records.now alone rests

pub returns-then-eq-2-clause-does : goal.returns-then-eq-2-clause-does
returns-then-eq-2-clause-does g c = λ alone apart rests.
    let opened = c.in_ok-open_line.ensures.does c.args.records.now alone rests in
    let put = turn_then _ (doing c.open_line.new.unit (g.S.Site.state c.open_line.new.site) c.args.records.now) (doing c.put_kept.new.unit (g.S.Site.state c.put_kept.new.site) c.put_kept.new.records)
    opened (c.in_ok-put_kept.ensures.does alone opened.rests) in
    put

pub returns-then-eq-3-clause-does : goal.returns-then-eq-3-clause-does
returns-then-eq-3-clause-does g c = λ alone apart rests.
    let opened = c.in_ok-open_line.ensures.does c.args.records.now alone rests in
    let put = turn_then _ (doing c.open_line.new.unit (g.S.Site.state c.open_line.new.site) c.args.records.now) (doing c.put_kept.new.unit (g.S.Site.state c.put_kept.new.site) c.put_kept.new.records)
    opened (c.in_ok-put_kept.ensures.does alone opened.rests) in
    let still = c.put_kept.ensures.advances.shared ∙ c.open_line.ensures.advances.shared ∙ apart in
    let free = free_unkept _ (none_next c.in_ok-put_kept.field-0 _ c.in_ok-put_kept.ensures.none (search rules)) put.rests in
    let on = ended_stands _ _ c.put_kept.ensures.stands ∙ c.in_ok-open_line.ensures.goes_on (search rules) in
    let did = c.in_ok-take_in.ensures.does alone still on free in
    let took = turn_freely _ _ (doing c.take_in.new.unit (g.S.Site.state c.take_in.new.site) c.take_in.new.records) put did in
    took

pub returns-clause-does : goal.returns-clause-does
returns-clause-does g c = λ alone apart rests.
    let opened = c.in_ok-open_line.ensures.does c.args.records.now alone rests in
    let put = turn_then _ (doing c.open_line.new.unit (g.S.Site.state c.open_line.new.site) c.args.records.now) (doing c.put_kept.new.unit (g.S.Site.state c.put_kept.new.site) c.put_kept.new.records)
    opened (c.in_ok-put_kept.ensures.does alone opened.rests) in
    let still = c.put_kept.ensures.advances.shared ∙ c.open_line.ensures.advances.shared ∙ apart in
    let free = free_unkept _ (none_next c.in_ok-put_kept.field-0 _ c.in_ok-put_kept.ensures.none (search rules)) put.rests in
    let on = ended_stands _ _ c.put_kept.ensures.stands ∙ c.in_ok-open_line.ensures.goes_on (search rules) in
    let did = c.in_ok-take_in.ensures.does alone still on free in
    let took = turn_freely _ _ (doing c.take_in.new.unit (g.S.Site.state c.take_in.new.site) c.take_in.new.records) put did in
    let going = c.in_ok-take_in.ensures.goes alone still on (search rules) in
    on_ok c.serve.result _ _ (turn_then _ (doing c.take_in.new.unit (g.S.Site.state c.take_in.new.site) c.take_in.new.records) (doing c.serve.new.unit (g.S.Site.state c.serve.new.site) c.serve.new.records) took)
    (c.serve.ensures.does alone (c.take_in.ensures.advances.shared ∙ still) did.free (inl going))

pub returns-then-eq-clause-heard : goal.returns-then-eq-clause-heard
returns-then-eq-clause-heard g c = λ may. absurd (not_end c.in_ok-open_line.field-0 (search rules) (inl (c.in_ok-open_line.ensures.rests may.going may.event).0))

pub returns-then-eq-2-clause-heard : goal.returns-then-eq-2-clause-heard
returns-then-eq-2-clause-heard g c = λ may. keeps (c.in_ok-put_kept.ensures.keeps (search rules)) (c.in_ok-put_kept.ensures.full may.alone (search rules))

pub returns-then-eq-3-clause-heard : goal.returns-then-eq-3-clause-heard
returns-then-eq-3-clause-heard g c = λ may.
    let first = c.in_ok-open_line.ensures.idle may.alone may.going may.event in
    let few = fits_same (g.S.Site.state c.args.site.now).queue (g.S.Site.state c.open_line.new.site).queue first.0.place first.0.last_session first.0.taken may.few in
    let out = c.in_ok-take_in.ensures.heard may.alone
    (fits_same (g.S.Site.state c.open_line.new.site).queue (g.S.Site.state c.put_kept.new.site).queue c.put_kept.ensures.advances.queue_place (passed_session _ _ c.put_kept.ensures.passes) (passed_taken _ _ c.put_kept.ensures.passes) few) in
    out_same 255 _ _ _ _ (c.put_kept.ensures.advances.shared ∙ c.open_line.ensures.advances.shared) (stops_before _ _ _ out)

pub returns-clause-heard : goal.returns-clause-heard
returns-clause-heard g c = λ may.
    let first = c.in_ok-open_line.ensures.idle may.alone may.going may.event in
    let few = fits_same (g.S.Site.state c.args.site.now).queue (g.S.Site.state c.open_line.new.site).queue first.0.place first.0.last_session first.0.taken may.few in
    let out = c.in_ok-take_in.ensures.heard may.alone
    (fits_same (g.S.Site.state c.open_line.new.site).queue (g.S.Site.state c.put_kept.new.site).queue c.put_kept.ensures.advances.queue_place (passed_session _ _ c.put_kept.ensures.passes) (passed_taken _ _ c.put_kept.ensures.passes) few) in
    ok_all c.serve.result (out_same 255 _ _ _ _ (c.put_kept.ensures.advances.shared ∙ c.open_line.ensures.advances.shared) (stops_served _ _ _ _ _ (none_kept_on c.in_ok-take_in.field-0 _ c.in_ok-take_in.ensures.none (search rules)) c.serve.ensures.hears out))

pub returns-then-eq-clause-serves : goal.returns-then-eq-clause-serves
returns-then-eq-clause-serves g c = λ may apart waiting. absurd (not_end c.in_ok-open_line.field-0 (search rules) (inl (c.in_ok-open_line.ensures.rests may.going may.event).0))

pub returns-then-eq-2-clause-serves : goal.returns-then-eq-2-clause-serves
returns-then-eq-2-clause-serves g c = λ may apart waiting. inr (inr (inl (c.in_ok-put_kept.ensures.keeps (search rules))))

pub returns-then-eq-3-clause-serves : goal.returns-then-eq-3-clause-serves
returns-then-eq-3-clause-serves g c = λ may apart waiting.
    let unwaiting = waiting_stands _ _ c.put_kept.ensures.stands ∙ ap (λ (u : Unit). u.waiting) (c.in_ok-open_line.ensures.rests may.going may.event).1 ∙ waiting in
    stopped_out c.args.unit.now c.take_in.new.unit (g.S.Site.state c.args.site.now).queue (g.S.Site.state c.take_in.new.site).queue ((c.in_ok-take_in.ensures.brings may.alone unwaiting).ends (search rules))

pub returns-clause-serves : goal.returns-clause-serves
returns-clause-serves g c = λ may apart waiting.
    let same = (c.in_ok-open_line.ensures.rests may.going may.event).1 in
    let unwaiting = waiting_stands _ _ c.put_kept.ensures.stands ∙ ap (λ (u : Unit). u.waiting) same ∙ waiting in
    let first = c.in_ok-open_line.ensures.idle may.alone may.going may.event in
    let come = come_same (g.S.Site.state c.args.site.now).queue (g.S.Site.state c.open_line.new.site).queue first.0.place first.0.last_session first.0.taken in
    let coming = come_same (g.S.Site.state c.open_line.new.site).queue (g.S.Site.state c.put_kept.new.site).queue c.put_kept.ensures.advances.queue_place (passed_session _ _ c.put_kept.ensures.passes) (passed_taken _ _ c.put_kept.ensures.passes) in
    let kept = few_kept c.args.unit.now c.open_line.new.unit c.put_kept.new.unit (g.S.Site.state c.args.site.now).queue (g.S.Site.state c.open_line.new.site).queue (g.S.Site.state c.put_kept.new.site).queue
    (ap (λ (u : Unit). u.pending.items) same) come c.put_kept.ensures.pending coming in
    out_from c.args.unit.now c.take_in.new.unit c.serve.new.unit (g.S.Site.state c.args.site.now).queue (g.S.Site.state c.take_in.new.site).queue (g.S.Site.state c.serve.new.site).queue c.serve.result
    (omega (arith, kept, (c.in_ok-take_in.ensures.brings may.alone unwaiting).most))
    (c.serve.ensures.stops (c.take_in.ensures.advances.shared ∙ c.put_kept.ensures.advances.shared ∙ c.open_line.ensures.advances.shared ∙ apart))
