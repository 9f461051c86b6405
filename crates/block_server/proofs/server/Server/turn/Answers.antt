use Rattle.std.proofs.Common.{◌∙◌, ◌≡◌, ℕ, Bool, Option, None, Some, ap, false, refl, slice_get, slice_set, subst, sym, true}
use Rattle.std.proofs.Math.Logic.{∥∥₁_elim, ∥∥₁_map}
use Rattle.std.proofs.lemmas.Option.{slice_get_read}
use Rattle.vio_num.specs.declared.names.UnitId.{UnitId}
use Rattle.crq_session.specs.EndState.{EndState}
use Rattle.block_server.specs.Causes.{anything}
use Rattle.tce_window.specs.PortState.{PortState}
use Rattle.block_server.specs.Ready.{Agrees, AgreesAt}
use Rattle.block_server.specs.Serving.{Terms, held, terms_of}
use Rattle.block_server.specs.SiteState.{Lenders}
use Rattle.block_server.specs.Units.{AnswersItsRows, AreServing, ServesItsRows, grant_of, granted_by}
use Rattle.block_server.proofs.Denying.{tells_turn}
use Rattle.block_server.proofs.Agreeing.{agrees_turn, some_at, waits_turn}
use Rattle.block_server.proofs.Readying.{idle_ready, if_ready}
use Rattle.block_server.proofs.Units.{get_set_other, granting_on, keeps_disk, same_prop, tells_prop, units_on, way_quiet}
use Rattle.block_server.proofs.Taking.{intake_turn}
use Rattle.block_server.specs.Receipts.{LinesMore}
use Rattle.block_server.proofs.Jointly.{judged_turn}
use Rattle.block_server.proofs.OwingTurn.{answered_turn}
use Rattle.block_server.specs.Cargo.{HasRuns}
use Rattle.block_server.proofs.CargoLaws.{runs_turn}
use Rattle.block_server.proofs.Refusing.{refuses_turn}
use Rattle.block_server.specs.Refusals.{AnswersInOrder, AreExplained, Front, HasExplained, basis_seen, ledger_at}
use Rattle.block_server.specs.declared.unit.Unit.{Unit as ServerUnit}
use Rattle.block_server.specs.LoginAnswers.{login_answers}
use Rattle.block_server.specs.Rejecting.{LinesTellLogin}
use Rattle.block_server.proofs.Ledgers.{accounted_first, in_order_turn}
use Rattle.block_server.specs.Causes.{told_to}
use Rattle.block_server.specs.Dealt.{HasDealt, KnowsSends}
use Rattle.block_server.proofs.ComingTurns.{differs_by, way_moved}
use Rattle.std.specs.Prelude.{OnOk}
use Rattle.block_server.specs.Talk.{UnitTalksOn, reach}
use Rattle.block_server.proofs.Talks.{calm_from, talks_from, unit_talks}
use Rattle.block_server.specs.Ranges.{WritesOn, seen_in}
use Rattle.block_server.proofs.TurnRanges.{leaves_from, unit_leaves, unit_writes, writes_from}
use Rattle.block_server.specs.Standing.{LeavesOn, stood}
use Rattle.block_server.specs.Talk.{UnitOpensOn}
use Rattle.block_server.proofs.FirstTurns.{new_unmoved, opens_unmoved, unit_opens}
use Rattle.block_server.proofs.TurnRows.{rows_from, unit_rows}
use Rattle.block_server.specs.Resting.{IsResting}
use Rattle.block_server.proofs.Asides.{unit_does}
use Rattle.block_server.proofs.ComingParts.{comes_apart}
use Rattle.block_server.proofs.Quieting.{on_ok}
use Rattle.block_server.proofs.Telling.{told_moved, told_on, told_quiet, told_rests}
use Rattle.block_server.specs.Doings.{UnitDoes}
use Rattle.block_server.specs.TurnLeaves.{CopiesGoOn, PortsGoOn, SaysMoved}
use Rattle.block_server.specs.TurnTold.{stock}
use Rattle.std.proofs.lemmas.List.{length-set}
use Rattle.block_server.specs.HeardOut.{UnitHearsOut}
use Rattle.block_server.proofs.HeardOuts.{may_unmoved, unit_hears}
use Rattle.block_server.proofs.server.Server.turn.Goals as goal

pub returns-clause-stays : goal.returns-clause-stays
returns-clause-stays g c =
    let server = c.args.self.now in
    let there : slice_get server.units.items c.args.unit ≡ Some c.index_mut-turned.result.now =
    slice_get_read server.units.items _ c.args.unit _ server.units.ok.0 c.requires.unit c.index_mut-turned.ensures.value in
    record {
      units = length-set server.units.items c.args.unit c.turn-done.new.unit;
      partition = refl;
      count = ∥∥₁_elim server.serving (same_prop c.turn-done.new.disk.count server.disk.count)
          (λ (all : AreServing (terms_of anything server.disk.count) server.partition server.units.items server.records.history.items).
          ap (λ (terms : Terms). terms.size) (c.turn-done.ensures.once anything (λ news is. refl) (all c.args.unit c.index_mut-turned.result.now there).serving).terms);
      others_stay = λ k apart. get_set_other server.units.items c.args.unit k c.turn-done.new.unit apart;
    }

pub returns-clause-ports : goal.returns-clause-ports
returns-clause-ports g c =
    let lent = c.turn-done.ensures.advances.reached in
    let queue = sym (ap g.C.CrqEnd.state (c.crq-1.given.1 (sym (ap (λ (lent : Lenders). lent.queue) lent)))) in
    let own = sym (ap g.O.WindowPort.state (c.own-1.given.1 (sym (ap (λ (lent : Lenders). lent.own) lent)))) in
    let client = sym (ap g.R.WindowPort.state (c.client-1.given.1 (sym (ap (λ (lent : Lenders). lent.client) lent)))) in
    let goes = c.turn-done.ensures.advances in
    subst (λ (z : EndState × PortState × PortState). PortsGoOn g.C.CrqEnd.is_shared g.R.WindowPort.is_shared (g.C.CrqEnd.state c.args.crq.now) z.0
    (g.O.WindowPort.state c.args.own.now) z.1 (g.R.WindowPort.state c.args.client.now) z.2) (λ i. (queue i, own i, client i))
    (record {
      goes = record {
        queue_place = goes.queue_place;
        own_place = goes.own_place;
        client_place = goes.client_place;
        session = goes.session;
        opens = goes.opens;
        taken = goes.taken;
        put = goes.put;
        own_grows = goes.own;
        client_grows = goes.client;
      };
      values = goes.values;
      partner = goes.partner;
      sessions = goes.now;
      ready = c.turn-done.new.site.ready;
      event = c.turn-done.new.site.event;
    })

pub returns-clause-copying : goal.returns-clause-copying
returns-clause-copying g c =
    let server = c.args.self.now in
    let old = stock server.disk.count server.partition server.units.items server.records server.copies.items (g.B.Blocks.state server.disk.image).blocks in
    let new = stock c.turn-done.new.disk.count server.partition (slice_set server.units.items c.args.unit c.turn-done.new.unit) c.turn-done.new.records c.turn-done.new.site.copies.now.items
    (g.B.Blocks.state c.turn-done.new.disk.image).blocks in
    let lent = c.turn-done.ensures.advances.reached in
    let own = sym (ap g.O.WindowPort.state (c.own-1.given.1 (sym (ap (λ (lent : Lenders). lent.own) lent)))) in
    let client = sym (ap g.R.WindowPort.state (c.client-1.given.1 (sym (ap (λ (lent : Lenders). lent.client) lent)))) in
    let goes = c.turn-done.ensures.advances in
    subst (λ (z : PortState × PortState). CopiesGoOn g.R.WindowPort.is_shared old new (g.O.WindowPort.state c.args.own.now) z.0 (g.R.WindowPort.state c.args.client.now) z.1) (λ i. (own i, client i))
    (record { copies = goes.copies; owner = goes.owner; named = goes.named; own_named = goes.own_named })

pub returns-clause-rows : goal.returns-clause-rows
returns-clause-rows g c =
    let server = c.args.self.now in
    let there : slice_get server.units.items c.args.unit ≡ Some c.index_mut-turned.result.now =
    slice_get_read server.units.items _ c.args.unit _ server.units.ok.0 c.requires.unit c.index_mut-turned.ensures.value in
    let reached = ap (λ (lent : Lenders). lent.queue) c.turn-done.ensures.advances.reached in
    record {
      answers = subst (λ (queue : EndState). ∥ AnswersItsRows (g.O.WindowPort.state c.args.own.now).place.unit (g.C.CrqEnd.state c.args.crq.now) queue server.records c.turn-done.new.records ∥₁)
          (sym (ap g.C.CrqEnd.state (c.crq-1.given.1 (sym reached))))
          (∥∥₁_map server.serving (λ (all : AreServing (terms_of anything server.disk.count) server.partition server.units.items server.records.history.items).
          let is = all c.args.unit c.index_mut-turned.result.now there in
          subst (λ (id : UnitId). AnswersItsRows id (g.C.CrqEnd.state c.args.crq.now) (g.C.CrqEnd.state c.turn-done.new.site.queue.now) server.records c.turn-done.new.records)
          (is.id ∙ sym c.requires.named) (c.turn-done.ensures.once anything (λ news is. refl) is.serving).answers));
      others = ∥∥₁_map server.serving (λ (all : AreServing (terms_of anything server.disk.count) server.partition server.units.items server.records.history.items).
          let is = all c.args.unit c.index_mut-turned.result.now there in
          subst (λ (id : UnitId). ServesItsRows id server.records c.turn-done.new.records) (is.id ∙ sym c.requires.named) (c.turn-done.ensures.once anything (λ news is. refl) is.serving).others);
      disk = ∥∥₁_map server.serving (λ (all : AreServing (terms_of anything server.disk.count) server.partition server.units.items server.records.history.items).
          let once = c.turn-done.ensures.once anything (λ news is. refl) (all c.args.unit c.index_mut-turned.result.now there).serving in
          keeps_disk (held anything server.disk.count (g.B.Blocks.state server.disk.image).blocks) (held anything c.turn-done.new.disk.count (g.B.Blocks.state c.turn-done.new.disk.image).blocks) _ _
          (g.B.Blocks.state server.disk.image).size server.disk.sized once.terms (g.met.B.Blocks.told server.disk.image) once.stays);
      tells = ∥∥₁_elim server.serving (tells_prop (g.B.Blocks.state server.disk.image).blocks (g.B.Blocks.state c.turn-done.new.disk.image).blocks)
          (λ (all : AreServing (terms_of anything server.disk.count) server.partition server.units.items server.records.history.items).
          (c.turn-done.ensures.once anything (λ news is. refl) (all c.args.unit c.index_mut-turned.result.now there).serving).tells);
    }

pub returns-clause-says : goal.returns-clause-says
returns-clause-says g c =
    let server = c.args.self.now in
    let there : slice_get server.units.items c.args.unit ≡ Some c.index_mut-turned.result.now =
    slice_get_read server.units.items _ c.args.unit _ server.units.ok.0 c.requires.unit c.index_mut-turned.ensures.value in
    let old = stock server.disk.count server.partition server.units.items server.records server.copies.items (g.B.Blocks.state server.disk.image).blocks in
    let new = stock c.turn-done.new.disk.count server.partition (slice_set server.units.items c.args.unit c.turn-done.new.unit) c.turn-done.new.records c.turn-done.new.site.copies.now.items
    (g.B.Blocks.state c.turn-done.new.disk.image).blocks in
    let lent = c.turn-done.ensures.advances.reached in
    let queue = sym (ap g.C.CrqEnd.state (c.crq-1.given.1 (sym (ap (λ (lent : Lenders). lent.queue) lent)))) in
    let own = sym (ap g.O.WindowPort.state (c.own-1.given.1 (sym (ap (λ (lent : Lenders). lent.own) lent)))) in
    let client = sym (ap g.R.WindowPort.state (c.client-1.given.1 (sym (ap (λ (lent : Lenders). lent.client) lent)))) in
    let before = g.C.CrqEnd.state c.args.crq.now in
    let unit = c.index_mut-turned.result.now in
    let unit' = c.turn-done.new.unit in
    let says = c.told.ensures in
    subst (λ (z : EndState × PortState × PortState). SaysMoved g.C.CrqEnd.is_shared g.R.WindowPort.is_shared c.args.unit old new before z.0
    (g.O.WindowPort.state c.args.own.now) z.1 (g.R.WindowPort.state c.args.client.now) z.2 c.told.result) (λ i. (queue i, own i, client i))
    (record {
      rests = λ alone rests.
          let is = some_at (slice_get server.units.items c.args.unit) unit (λ (u : ServerUnit). IsResting u before) there rests in
          told_rests c.turn-done.result unit'.moved c.told.result says
          (c.turn-done.ensures.rests alone (record {
            nothing = record { waiting = is.nothing.waiting; pending = is.nothing.pending; kept = is.nothing.kept; going = is.nothing.going };
            event = is.event;
            emptied = is.emptied;
          }));
      moved = way_moved c.told.result server.units.items c.args.unit unit unit' before _ there
          (differs_by (AreServing (terms_of anything server.disk.count) server.partition server.units.items server.records.history.items) _ c.told.result server.serving
          (λ (all : AreServing (terms_of anything server.disk.count) server.partition server.units.items server.records.history.items).
          told_moved c.turn-done.result unit'.moved c.told.result says _
          (on_ok c.turn-done.result _ _ (λ comes moved. comes_apart (record unit { moved = false }) unit' _ _ comes refl moved)
          (c.turn-done.ensures.comes anything (all c.args.unit unit there).serving))));
      quiet = told_quiet c.turn-done.result unit'.moved c.told.result says _ (on_ok c.turn-done.result _ _ (λ quiet moved. (quiet moved).still) c.turn-done.ensures.quiet);
      way = way_quiet c.told.result server.units.items c.args.unit unit unit' _ _ there
          (told_quiet c.turn-done.result unit'.moved c.told.result says _
          (on_ok c.turn-done.result _ _ (λ quiet moved. let is = quiet moved in record { still = is.still; same = is.same }) c.turn-done.ensures.quiet));
      agrees = agrees_turn server.units.items c.args.unit unit unit' before _ there c.turn-done.ensures.agrees;
      waits = waits_turn c.told.result server.units.items c.args.unit unit unit' before _ there
          (if_ready c.told.result _ _ _ (λ agreed idle. idle_ready _ _ (c.turn-done.ensures.agrees agreed) idle)
          (told_quiet c.turn-done.result unit'.moved c.told.result says _ c.turn-done.ensures.waits));
    })

pub returns-clause-requests : goal.returns-clause-requests
returns-clause-requests g c =
    let server = c.args.self.now in
    let there : slice_get server.units.items c.args.unit ≡ Some c.index_mut-turned.result.now =
    slice_get_read server.units.items _ c.args.unit _ server.units.ok.0 c.requires.unit c.index_mut-turned.ensures.value in
    let lent = c.turn-done.ensures.advances.reached in
    let queue = sym (ap g.C.CrqEnd.state (c.crq-1.given.1 (sym (ap (λ (lent : Lenders). lent.queue) lent)))) in
    let own = sym (ap g.O.WindowPort.state (c.own-1.given.1 (sym (ap (λ (lent : Lenders). lent.own) lent)))) in
    let client = sym (ap g.R.WindowPort.state (c.client-1.given.1 (sym (ap (λ (lent : Lenders). lent.client) lent)))) in
    let unit = c.index_mut-turned.result.now in
    let unit' = c.turn-done.new.unit in
    record {
      intake = λ receipts has.
          ∥∥₁_map server.serving (λ (all : AreServing (terms_of anything server.disk.count) server.partition server.units.items server.records.history.items).
          let is = all c.args.unit unit there in
          intake_turn server.units.items c.args.unit unit unit' _ _ _ _ _ _ _ _ _ _ _ _ there (is.id ∙ sym c.requires.named)
          c.turn-done.ensures.intake refl refl refl refl own client queue refl receipts has);
      lines = ∥∥₁_map server.serving (λ (all : AreServing (terms_of anything server.disk.count) server.partition server.units.items server.records.history.items).
          let is = all c.args.unit unit there in
          subst (λ (id : UnitId). LinesMore id (grant_of server.units.items c.args.unit) server.records.grants.items c.turn-done.new.records.grants.items) (is.id ∙ sym c.requires.named)
          (subst (λ (o : Option ServerUnit). LinesMore unit.id (granted_by o) server.records.grants.items c.turn-done.new.records.grants.items) (sym there)
          c.turn-done.ensures.intake.lines));
      grants = λ granted is.
          granting_on granted server.units.items server.records.grants.items c.turn-done.new.records.grants.items c.args.unit unit unit' there
          c.turn-done.ensures.intake.granted c.turn-done.ensures.intake.lines is;
      judged = λ judged has.
          ∥∥₁_map server.serving (λ (all : AreServing (terms_of anything server.disk.count) server.partition server.units.items server.records.history.items).
          let is = all c.args.unit unit there in
          judged_turn server.units.items c.args.unit unit unit' _ _ server.records c.turn-done.new.records _ _ _ _ _ _ _ _ there (is.id ∙ sym c.requires.named)
          c.turn-done.ensures.intake c.turn-done.ensures.judges refl refl refl refl own client queue refl judged has);
      answered = λ alone judged has owes.
          ∥∥₁_map server.serving (λ (all : AreServing (terms_of anything server.disk.count) server.partition server.units.items server.records.history.items).
          let is = all c.args.unit unit there in
          answered_turn g.C.CrqEnd.is_shared server.units.items c.args.unit unit unit' _ _ server.records c.turn-done.new.records _ _ _ _ _ there (is.id ∙ sym c.requires.named)
          c.turn-done.ensures.intake c.turn-done.ensures.answers refl refl refl refl queue alone judged has owes);
    }

pub returns-clause-by_told : goal.returns-clause-by_told
returns-clause-by_told g c = λ told tells all.
    let server = c.args.self.now in
    let there : slice_get server.units.items c.args.unit ≡ Some c.index_mut-turned.result.now =
    slice_get_read server.units.items _ c.args.unit _ server.units.ok.0 c.requires.unit c.index_mut-turned.ensures.value in
    let is = all c.args.unit c.index_mut-turned.result.now there in
    let id : c.index_mut-turned.result.now.id ≡ (g.O.WindowPort.state c.args.own.now).place.unit = is.id ∙ sym c.requires.named in
    let lent = c.turn-done.ensures.advances.reached in
    let queue = sym (ap g.C.CrqEnd.state (c.crq-1.given.1 (sym (ap (λ (lent : Lenders). lent.queue) lent)))) in
    let client = sym (ap g.R.WindowPort.state (c.client-1.given.1 (sym (ap (λ (lent : Lenders). lent.client) lent)))) in
    let own = sym (ap g.O.WindowPort.state (c.own-1.given.1 (sym (ap (λ (lent : Lenders). lent.own) lent)))) in
    let heard = tells_turn told _ _ _ _ _ _ _ _ _ _ (sym id) own client tells in
    let once = c.turn-done.ensures.once told heard is.serving in
    let unit = (g.O.WindowPort.state c.args.own.now).place.unit in
    let old = g.C.CrqEnd.state c.args.crq.now in
    record {
      causes =
          keeps_disk (held told server.disk.count (g.B.Blocks.state server.disk.image).blocks) (held told c.turn-done.new.disk.count (g.B.Blocks.state c.turn-done.new.disk.image).blocks) _ _
          (g.B.Blocks.state server.disk.image).size server.disk.sized once.terms (g.met.B.Blocks.told server.disk.image) once.stays;
      order =
          units_on (held told server.disk.count (g.B.Blocks.state server.disk.image).blocks) (held told c.turn-done.new.disk.count (g.B.Blocks.state c.turn-done.new.disk.image).blocks)
          server.partition c.args.unit server.units.items c.index_mut-turned.result.now c.turn-done.new.unit _ _ _ _ there once all;
      written = once.written;
      runs = λ has.
          subst (λ (port : PortState). HasRuns told (slice_set server.units.items c.args.unit c.turn-done.new.unit) c.args.unit port c.turn-done.new.site.copies.now.items c.turn-done.new.records) own
          (runs_turn told server.units.items c.args.unit c.index_mut-turned.result.now c.turn-done.new.unit _ _ _ _ server.records c.turn-done.new.records there
          (c.turn-done.ensures.cargo told true heard is.serving) has);
      explains = λ since has.
          let ledger = ledger_at c.index_mut-turned.result.now old.last_session old.taken (login_answers old.sent) server.records in
          let front : Front = record { since = since; lines = server.records.grants.items; answers = login_answers old.sent; asked = None; closed = λ session. true } in
          let step : AreExplained told c.index_mut-turned.result.now.id since (basis_seen c.index_mut-turned.result.now old server.records.grants.items)
          → AreExplained told c.index_mut-turned.result.now.id since (basis_seen c.turn-done.new.unit (g.C.CrqEnd.state c.turn-done.new.site.queue.now) c.turn-done.new.records.grants.items) =
          λ known. (c.turn-done.ensures.refuses told heard is.serving front (λ session low none. absurd (cc (none)))
          (accounted_first told c.index_mut-turned.result.now.id front ledger known refl refl (λ earlier none. absurd (cc (none))) (λ earlier none. absurd (cc (none))) (λ earlier none. absurd (cc (none))))).known in
          subst (λ (q : EndState). HasExplained told (slice_set server.units.items c.args.unit c.turn-done.new.unit) c.args.unit unit q since c.turn-done.new.records.grants.items) queue
          (refuses_turn told server.units.items c.args.unit c.index_mut-turned.result.now c.turn-done.new.unit unit old (g.C.CrqEnd.state c.turn-done.new.site.queue.now) since _ _ there
          (subst (λ (id : UnitId). AreExplained told id since (basis_seen c.index_mut-turned.result.now old server.records.grants.items)
          → AreExplained told id since (basis_seen c.turn-done.new.unit (g.C.CrqEnd.state c.turn-done.new.site.queue.now) c.turn-done.new.records.grants.items)) id step) has);
      logins = λ since has earlier order on closed knows dealt.
          let known = subst (λ (id : UnitId). AreExplained told id since (basis_seen c.index_mut-turned.result.now old server.records.grants.items)) (sym id)
          (some_at (slice_get server.units.items c.args.unit) c.index_mut-turned.result.now (λ (u : ServerUnit). AreExplained told unit since (basis_seen u old server.records.grants.items)) there has) in
          let units' = slice_set server.units.items c.args.unit c.turn-done.new.unit in
          subst (λ (q : EndState). AnswersInOrder told earlier closed units' c.args.unit unit old q server.records c.turn-done.new.records) queue
          (subst (λ (id : UnitId). AnswersInOrder told earlier closed units' c.args.unit id old (g.C.CrqEnd.state c.turn-done.new.site.queue.now) server.records c.turn-done.new.records) id
          (in_order_turn told server.units.items c.args.unit c.index_mut-turned.result.now c.turn-done.new.unit c.index_mut-turned.result.now.id old (g.C.CrqEnd.state c.turn-done.new.site.queue.now) since earlier closed server.records c.turn-done.new.records
          there known (λ front same. c.turn-done.ensures.refuses told heard is.serving front (λ session low none.
          let known = subst (λ (q : EndState). KnowsSends (AgreesAt server.units.items c.args.unit old) g.C.CrqEnd.is_shared old q closed) (sym queue) knows session low
          (sym (ap (λ (f : ℕ → Bool). f session) same) ∙ none) in
          (some_at (slice_get server.units.items c.args.unit) c.index_mut-turned.result.now (λ (u : ServerUnit). Agrees u.line.handshake old) there known.0, known.1))) refl c.turn-done.ensures.intake.id order
          (subst (λ (id : UnitId). LinesTellLogin server.units.items c.args.unit id old server.records.grants.items) (sym id) on)
          (subst (λ (id : UnitId). HasDealt told earlier closed server.units.items c.args.unit id old) (sym id) dealt)));
      writes = λ words u at calm.
          subst (λ (z : UnitId × PortState). OnOk c.told.result (WritesOn (told_to told z.0) u (g.C.CrqEnd.state c.args.crq.now) words
          (seen_in g.R.WindowPort.is_shared (g.R.WindowPort.state c.args.client.now)) (seen_in g.R.WindowPort.is_shared z.1)))
          (λ i. (id i, client i))
          (unit_writes (told_to told c.index_mut-turned.result.now.id) _ server.units.items c.args.unit u c.index_mut-turned.result.now
          (reach (g.C.CrqEnd.state c.args.crq.now) (g.R.WindowPort.state c.args.client.now) g.R.WindowPort.is_shared) words _
          (seen_in g.R.WindowPort.is_shared (g.R.WindowPort.state c.turn-done.new.site.client.now)) c.told.result there at
          (λ calm. told_on c.turn-done.result c.turn-done.new.unit.moved c.told.result c.told.ensures _ _ (writes_from (told_to told c.index_mut-turned.result.now.id) c.index_mut-turned.result.now (record c.index_mut-turned.result.now { moved = false }) _ words _ _ refl)
          (c.turn-done.ensures.writes told heard is.serving words (calm_from c.index_mut-turned.result.now (record c.index_mut-turned.result.now { moved = false }) (reach (g.C.CrqEnd.state c.args.crq.now) (g.R.WindowPort.state c.args.client.now) g.R.WindowPort.is_shared) _ words refl refl refl refl calm))) calm);
    }

pub invariant_of-self : goal.invariant_of-self
invariant_of-self g c =
    let server = c.args.self.now in
    let there : slice_get server.units.items c.args.unit ≡ Some c.index_mut-turned.result.now =
    slice_get_read server.units.items _ c.args.unit _ server.units.ok.0 c.requires.unit c.index_mut-turned.ensures.value in
    record {
      serving = ∥∥₁_map server.serving (λ (all : AreServing (terms_of anything server.disk.count) server.partition server.units.items server.records.history.items).
          units_on (held anything server.disk.count (g.B.Blocks.state server.disk.image).blocks) (held anything c.turn-done.new.disk.count (g.B.Blocks.state c.turn-done.new.disk.image).blocks)
          server.partition c.args.unit server.units.items c.index_mut-turned.result.now c.turn-done.new.unit _ _ _ _ there
          (c.turn-done.ensures.once anything (λ news is. refl) (all c.args.unit c.index_mut-turned.result.now there).serving) all);
    }

pub returns-clause-if_ready : goal.returns-clause-if_ready
returns-clause-if_ready g c = λ words u at calm.
    let server = c.args.self.now in
    let there : slice_get server.units.items c.args.unit ≡ Some c.index_mut-turned.result.now =
    slice_get_read server.units.items _ c.args.unit _ server.units.ok.0 c.requires.unit c.index_mut-turned.ensures.value in
    let lent = c.turn-done.ensures.advances.reached in
    let queue = sym (ap g.C.CrqEnd.state (c.crq-1.given.1 (sym (ap (λ (lent : Lenders). lent.queue) lent)))) in
    let client = sym (ap g.R.WindowPort.state (c.client-1.given.1 (sym (ap (λ (lent : Lenders). lent.client) lent)))) in
    record {
      talks =
          subst (λ (queue : EndState). OnOk c.told.result (UnitTalksOn (slice_set server.units.items c.args.unit c.turn-done.new.unit) c.args.unit u
          (reach (g.C.CrqEnd.state c.args.crq.now) (g.R.WindowPort.state c.args.client.now) g.R.WindowPort.is_shared) queue server.records.grants.items c.turn-done.new.records.grants.items words))
          queue
          (unit_talks _ server.units.items c.args.unit u c.index_mut-turned.result.now c.turn-done.new.unit
          (reach (g.C.CrqEnd.state c.args.crq.now) (g.R.WindowPort.state c.args.client.now) g.R.WindowPort.is_shared) (g.C.CrqEnd.state c.turn-done.new.site.queue.now)
          server.records.grants.items c.turn-done.new.records.grants.items words c.told.result there at
          (λ calm. told_on c.turn-done.result c.turn-done.new.unit.moved c.told.result c.told.ensures _ _ (talks_from c.index_mut-turned.result.now (record c.index_mut-turned.result.now { moved = false }) c.turn-done.new.unit (reach (g.C.CrqEnd.state c.args.crq.now) (g.R.WindowPort.state c.args.client.now) g.R.WindowPort.is_shared) _ _ _ words refl refl)
          (c.turn-done.ensures.talks words (calm_from c.index_mut-turned.result.now (record c.index_mut-turned.result.now { moved = false }) (reach (g.C.CrqEnd.state c.args.crq.now) (g.R.WindowPort.state c.args.client.now) g.R.WindowPort.is_shared) _ words refl refl refl refl calm))) calm);
      places =
          subst (λ (port : PortState). OnOk c.told.result (WritesOn (stood (g.R.WindowPort.state c.args.client.now)) u (g.C.CrqEnd.state c.args.crq.now) words
          (seen_in g.R.WindowPort.is_shared (g.R.WindowPort.state c.args.client.now)) (seen_in g.R.WindowPort.is_shared port))) client
          (unit_writes (stood (g.R.WindowPort.state c.args.client.now)) _ server.units.items c.args.unit u c.index_mut-turned.result.now
          (reach (g.C.CrqEnd.state c.args.crq.now) (g.R.WindowPort.state c.args.client.now) g.R.WindowPort.is_shared) words _
          (seen_in g.R.WindowPort.is_shared (g.R.WindowPort.state c.turn-done.new.site.client.now)) c.told.result there at
          (λ calm. told_on c.turn-done.result c.turn-done.new.unit.moved c.told.result c.told.ensures _ _ (writes_from (stood (g.R.WindowPort.state c.args.client.now)) c.index_mut-turned.result.now (record c.index_mut-turned.result.now { moved = false }) _ words _ _ refl)
          (c.turn-done.ensures.places words (calm_from c.index_mut-turned.result.now (record c.index_mut-turned.result.now { moved = false }) (reach (g.C.CrqEnd.state c.args.crq.now) (g.R.WindowPort.state c.args.client.now) g.R.WindowPort.is_shared) _ words refl refl refl refl calm))) calm);
      leaves =
          subst (λ (z : EndState × PortState). OnOk c.told.result (LeavesOn (g.O.WindowPort.state c.args.own.now).place.unit u (g.C.CrqEnd.state c.args.crq.now) words z.0
          (g.R.WindowPort.state c.args.client.now) z.1 server.records.history.items c.turn-done.new.records.history.items)) (λ i. (queue i, client i))
          (unit_leaves _ (g.O.WindowPort.state c.args.own.now).place.unit server.units.items c.args.unit u c.index_mut-turned.result.now
          (reach (g.C.CrqEnd.state c.args.crq.now) (g.R.WindowPort.state c.args.client.now) g.R.WindowPort.is_shared) words
          (g.C.CrqEnd.state c.turn-done.new.site.queue.now) (g.R.WindowPort.state c.args.client.now) (g.R.WindowPort.state c.turn-done.new.site.client.now)
          server.records.history.items c.turn-done.new.records.history.items c.told.result there at
          (λ calm. told_on c.turn-done.result c.turn-done.new.unit.moved c.told.result c.told.ensures _ _ (leaves_from _ c.index_mut-turned.result.now (record c.index_mut-turned.result.now { moved = false }) _ words _ _ _ _ _ refl)
          (c.turn-done.ensures.leaves words (calm_from c.index_mut-turned.result.now (record c.index_mut-turned.result.now { moved = false }) (reach (g.C.CrqEnd.state c.args.crq.now) (g.R.WindowPort.state c.args.client.now) g.R.WindowPort.is_shared) _ words refl refl refl refl calm))) calm);
      rows =
          unit_rows _ server.units.items c.args.unit u c.index_mut-turned.result.now
          (reach (g.C.CrqEnd.state c.args.crq.now) (g.R.WindowPort.state c.args.client.now) g.R.WindowPort.is_shared) words _ _ c.told.result there at
          (λ calm. told_on c.turn-done.result c.turn-done.new.unit.moved c.told.result c.told.ensures _ _ (rows_from c.index_mut-turned.result.now (record c.index_mut-turned.result.now { moved = false }) _ words _ _ refl refl) (c.turn-done.ensures.rows words (calm_from c.index_mut-turned.result.now (record c.index_mut-turned.result.now { moved = false }) (reach (g.C.CrqEnd.state c.args.crq.now) (g.R.WindowPort.state c.args.client.now) g.R.WindowPort.is_shared) _ words refl refl refl refl calm))) calm;
    }

pub returns-clause-opens : goal.returns-clause-opens
returns-clause-opens g c = λ u at is.
    let server = c.args.self.now in
    let there : slice_get server.units.items c.args.unit ≡ Some c.index_mut-turned.result.now =
    slice_get_read server.units.items _ c.args.unit _ server.units.ok.0 c.requires.unit c.index_mut-turned.ensures.value in
    let lent = c.turn-done.ensures.advances.reached in
    let queue = sym (ap g.C.CrqEnd.state (c.crq-1.given.1 (sym (ap (λ (lent : Lenders). lent.queue) lent)))) in
    let client = sym (ap g.R.WindowPort.state (c.client-1.given.1 (sym (ap (λ (lent : Lenders). lent.client) lent)))) in
    let before = reach (g.C.CrqEnd.state c.args.crq.now) (g.R.WindowPort.state c.args.client.now) g.R.WindowPort.is_shared in
    subst (λ (z : EndState × PortState). OnOk c.told.result (UnitOpensOn (slice_set server.units.items c.args.unit c.turn-done.new.unit) c.args.unit u before (reach z.0 z.1 g.R.WindowPort.is_shared)
    server.records.grants.items c.turn-done.new.records.grants.items server.records.history.items c.turn-done.new.records.history.items)) (λ i. (queue i, client i))
    (unit_opens _ server.units.items c.args.unit u c.index_mut-turned.result.now c.turn-done.new.unit before
    (reach (g.C.CrqEnd.state c.turn-done.new.site.queue.now) (g.R.WindowPort.state c.turn-done.new.site.client.now) g.R.WindowPort.is_shared) _ _ _ _ c.told.result there at
    (λ is. told_on c.turn-done.result c.turn-done.new.unit.moved c.told.result c.told.ensures _ _ (opens_unmoved c.index_mut-turned.result.now (record c.index_mut-turned.result.now { moved = false }) c.turn-done.new.unit before
    (reach (g.C.CrqEnd.state c.turn-done.new.site.queue.now) (g.R.WindowPort.state c.turn-done.new.site.client.now) g.R.WindowPort.is_shared) _ _ _ _ refl refl)
    (c.turn-done.ensures.opens (new_unmoved _ c.index_mut-turned.result.now (record c.index_mut-turned.result.now { moved = false }) before refl refl refl refl refl is))) is)

pub returns-clause-does : goal.returns-clause-does
returns-clause-does g c = λ alone apart u at rests.
    let server = c.args.self.now in
    let there : slice_get server.units.items c.args.unit ≡ Some c.index_mut-turned.result.now =
    slice_get_read server.units.items _ c.args.unit _ server.units.ok.0 c.requires.unit c.index_mut-turned.ensures.value in
    let lent = c.turn-done.ensures.advances.reached in
    let queue = sym (ap g.C.CrqEnd.state (c.crq-1.given.1 (sym (ap (λ (lent : Lenders). lent.queue) lent)))) in
    let client = sym (ap g.R.WindowPort.state (c.client-1.given.1 (sym (ap (λ (lent : Lenders). lent.client) lent)))) in
    let name = (g.O.WindowPort.state c.args.own.now).place.unit in
    subst (λ (z : EndState × PortState). OnOk c.told.result (UnitDoes (slice_set server.units.items c.args.unit c.turn-done.new.unit) c.args.unit u name (g.C.CrqEnd.state c.args.crq.now) z.0
    (g.R.WindowPort.state c.args.client.now) z.1 server.records.history.items c.turn-done.new.records.history.items server.records.grants.items c.turn-done.new.records.grants.items)) (λ i. (queue i, client i))
    (unit_does server.units.items c.args.unit u c.index_mut-turned.result.now c.turn-done.new.unit name (g.O.WindowPort.state c.turn-done.new.site.own.now).place.unit
    (g.C.CrqEnd.state c.args.crq.now) (g.C.CrqEnd.state c.turn-done.new.site.queue.now) (g.R.WindowPort.state c.args.client.now) (g.R.WindowPort.state c.turn-done.new.site.client.now) _ _ _ _ c.told.result
    there at (λ i. (c.turn-done.ensures.advances.own_place i).unit) (λ rests. told_on c.turn-done.result c.turn-done.new.unit.moved c.told.result c.told.ensures _ _ (λ does. does) (c.turn-done.ensures.does alone apart rests)) rests)

pub returns-clause-heard : goal.returns-clause-heard
returns-clause-heard g c = λ u at may.
    let server = c.args.self.now in
    let there : slice_get server.units.items c.args.unit ≡ Some c.index_mut-turned.result.now =
    slice_get_read server.units.items _ c.args.unit _ server.units.ok.0 c.requires.unit c.index_mut-turned.ensures.value in
    let lent = c.turn-done.ensures.advances.reached in
    let queue = sym (ap g.C.CrqEnd.state (c.crq-1.given.1 (sym (ap (λ (lent : Lenders). lent.queue) lent)))) in
    subst (λ (q : EndState). OnOk c.told.result (UnitHearsOut (slice_set server.units.items c.args.unit c.turn-done.new.unit) c.args.unit u g.R.WindowPort.is_shared (g.C.CrqEnd.state c.args.crq.now) q)) queue
    (unit_hears server.units.items c.args.unit u c.index_mut-turned.result.now c.turn-done.new.unit g.C.CrqEnd.is_shared g.R.WindowPort.is_shared (g.C.CrqEnd.state c.args.crq.now)
    (g.C.CrqEnd.state c.turn-done.new.site.queue.now) c.told.result there at
    (λ may. told_on c.turn-done.result c.turn-done.new.unit.moved c.told.result c.told.ensures _ _ (λ out. out)
    (c.turn-done.ensures.heard (may_unmoved c.index_mut-turned.result.now (g.C.CrqEnd.state c.args.crq.now) g.C.CrqEnd.is_shared may)))
    (λ may apart waiting. told_on c.turn-done.result c.turn-done.new.unit.moved c.told.result c.told.ensures _ _ (λ out. out)
    (c.turn-done.ensures.serves (may_unmoved c.index_mut-turned.result.now (g.C.CrqEnd.state c.args.crq.now) g.C.CrqEnd.is_shared may) apart waiting)) may)
