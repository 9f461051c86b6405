use Rattle.vio_num.specs.declared.hypervisor.Moved.TheVariants.{Quiet}
use Rattle.vcpu_run.specs.Links.{IsLinked, ServerWaits, link_state}
use Rattle.vcpu_run.proofs.Waiting.{agrees_like, agrees_other, serve_frees, serve_full, serve_queue, serve_sent, serve_taken, serve_kept, serve_waits}
use Rattle.vcpu_run.proofs.Resting.{ok_both}
use Rattle.vcpu_run.proofs.Crediting.{on_ok}
use Rattle.std.proofs.Common.{rules, ◌≡◌, ◌≢◌, Bool, List, [], ◌∷◌, false, true, refl, sym, ◌∙◌, ap, subst, IfNone, ◌<◌, IfOk, OnOk, arith, get_or, length, slice_get}
use Rattle.std.proofs.lemmas.List.Elements.{All-weaker}
use Rattle.vio_num.specs.declared.names.UnitId.{UnitId}
use Rattle.block_server.specs.Advances.{IsOwnCopy}
use Rattle.block_server.specs.Moves.{data_copies}
use Rattle.block_server.proofs.RunRests.{others_none}
use Rattle.vcpu_run.specs.Heard.{AllGoBy, UnitGoesBy}
use Rattle.vcpu_run.proofs.HeardTurns.{tells_turn, told_elsewhere, told_served}
use Rattle.crq_session.specs.EndState.{EndPlace, EndState}
use Rattle.crq_session.specs.declared.link.PlainLink.{PlainLink}
use Rattle.crq_session.specs.PlainState.{end_of, partner_of, side_of, state_of}
use Rattle.crq_session.specs.declared.side.PlainSide.{PlainSide}
use Rattle.crq_ring.specs.declared.rows.PipeRow.{PipeRow}
use Rattle.block_server.specs.Answering.{AnswersMore, OnlyRowsOf}
use Rattle.block_server.specs.Turns.{IsStill}
use Rattle.block_server.specs.Receipts.{LinesMore}
use Rattle.block_server.specs.Units.{grant_of}
use Rattle.vcpu_run.specs.declared.pair.Pair.{Pair}
use Rattle.vcpu_run.specs.Answered.{AreBegun, IsAnswered}
use Rattle.tce_window.specs.PlainPort.{known_of}
use Rattle.tce_window.specs.PortState.{PortPlace}
use Rattle.vcpu_run.specs.Named.{HasWindow}
use Rattle.vcpu_run.specs.PairServed.{KeepsClient}
use Rattle.vcpu_run.specs.Pairs.{IsPair}
use Rattle.vcpu_run.proofs.PairNames.{copies_beside, has_stays, names_beside}
use Rattle.vcpu_run.proofs.Answering.{answered_elsewhere, answered_served}
use Rattle.vcpu_run.specs.Received.{IsReceived}
use Rattle.vcpu_run.proofs.Gone.{gone_back, hears_back, hears_lent}
use Rattle.vcpu_run.proofs.LoginsDealt.{closed_so}
use Rattle.std.proofs.Math.Logic.{∥∥₁_elim, ∥∥₁_map₂, ∥∥₁_prop}
use Rattle.std.proofs.lemmas.Option.{slice_get-get_or}
use Rattle.vcpu_run.proofs.LastServed.{line_own, turn_last}
use Rattle.vcpu_run.proofs.Losing.{behind_back, sees_back, sees_lent}
use Rattle.vcpu_run.proofs.Receiving.{received_elsewhere, received_served}
use Rattle.vcpu_run.proofs.Keeping.{served}
use Rattle.vcpu_run.proofs.ShutKept.{begun_back, served_link}
use Rattle.tce_window.specs.Window.{strokes_at}
use Rattle.vcpu_run.proofs.ClientsServed.{none_owned}
use Rattle.vcpu_run.specs.Machines.{server_id}
use Rattle.vcpu_run.specs.ClientRuns.{ServesClients}
use Rattle.vcpu_run.specs.OwnDoing.{DoesAt, HeardAt}
use Rattle.vcpu_run.specs.Served.{books_in}
use Rattle.vcpu_run.proofs.Going.{ok_three}
use Rattle.vcpu_run.proofs.OwnClauses.{does_ok, heard_ok}
use Rattle.vcpu_run.proofs.OwnServed.{served_own_pair}
use Rattle.vcpu_run.proofs.PlainIdles.{idle_ok, ids_stay}
use Rattle.vcpu_run.proofs.PlainPaired.{TurnsOn, idles_pair, served_pair, spares_unit, turns_ok}
use Rattle.vcpu_run.proofs.PlainUnserved.{served_away}
use Rattle.vcpu_run.proofs.pair.Pair.serve.Goals as goal

pub returns-clause-pair : goal.returns-clause-pair
returns-clause-pair g c =
    let old = c.args.self.now in
    let link = c.turn.new.crq.end.link.now in
    let new : Pair = record { server = old.server; link = link; own = c.turn.new.own; window = c.turn.new.client; driver = old.driver } in
    let goes = c.turn.ensures.ports.goes in
    let first : c.turn.new.crq.end.first ≡ true = ap (λ (place : EndPlace). place.first) goes.queue_place ∙ c.side.ensures.first in
    let link_is : link ≡ c.self-1.given.0 = search rules in
    subst (λ (l : PlainLink). IsPair c.args.server.now.partition c.turn.new.self.copies.items c.args.unit (record { server = old.server; link = l; own = c.turn.new.own; window = c.turn.new.client; driver = old.driver })) link_is
    (served c.args.server.now.partition c.args.unit c.args.server.now.copies.items c.turn.new.self.copies.items old new refl refl goes.own_place goes.client_place
    goes.own_grows goes.client_grows c.turn.ensures.ports.ready
    (λ event kept. c.turn.ensures.ports.event event (ap (λ (b : Bool). (side_of link b).kept) first ∙ kept))
    c.turn.ensures.copying.copies c.turn.ensures.copying.own_named (c.turn.ensures.copying.named refl) c.requires.pair)

pub returns-clause-served : goal.returns-clause-served
returns-clause-served g c = record {
  answered =
      let old = c.args.self.now in
      let history = c.args.server.now.records.history.items in
      let history' = c.turn.new.self.records.history.items in
      let link = c.turn.new.crq.end.link.now in
      let new : Pair = record { server = old.server; link = link; own = c.turn.new.own; window = c.turn.new.client; driver = old.driver } in
      let first : c.turn.new.crq.end.first ≡ true = ap (λ (place : EndPlace). place.first) c.turn.ensures.ports.goes.queue_place ∙ c.side.ensures.first in
      let before : (partner_of c.side.result.link.now c.side.result.first).queue.sent ≡ (side_of old.link false).queue.sent =
      ap (λ (b : Bool). (partner_of c.side.result.link.now b).queue.sent) c.side.ensures.first ∙ ap (λ (l : PlainLink). (partner_of l true).queue.sent) c.side.ensures.link in
      let after : (partner_of link c.turn.new.crq.end.first).queue.sent ≡ (side_of link false).queue.sent = ap (λ (b : Bool). (partner_of link b).queue.sent) first in
      let more : ∥ AnswersMore old.own.unit (side_of old.link false).queue.sent (side_of link false).queue.sent history history' ∥₁ =
      subst (λ (sent : List PipeRow). ∥ AnswersMore old.own.unit (side_of old.link false).queue.sent sent history history' ∥₁) after
      (subst (λ (sent : List PipeRow). ∥ AnswersMore old.own.unit sent (partner_of link c.turn.new.crq.end.first).queue.sent history history' ∥₁) before c.turn.ensures.rows.answers) in
      let link_is : link ≡ c.self-1.given.0 = search rules in
      subst (λ (l : PlainLink). IsAnswered history' (record { server = old.server; link = l; own = c.turn.new.own; window = c.turn.new.client; driver = old.driver })) link_is
      (answered_served old.own.unit old new history history' c.requires.pair.own_unit refl more (subst AreBegun after c.turn.new.crq.puts.begun) c.requires.served.answered);
  received =
      let old = c.args.self.now in
      let server = c.args.server.now in
      let server' = c.turn.new.self in
      let link = c.turn.new.crq.end.link.now in
      let new : Pair = record { server = old.server; link = link; own = c.turn.new.own; window = c.turn.new.client; driver = old.driver } in
      let first : c.turn.new.crq.end.first ≡ true = ap (λ (place : EndPlace). place.first) c.turn.ensures.ports.goes.queue_place ∙ c.side.ensures.first in
      let before : side_of c.side.result.link.now c.side.result.first ≡ side_of old.link true =
      ap (λ (b : Bool). side_of c.side.result.link.now b) c.side.ensures.first ∙ ap (λ (l : PlainLink). side_of l true) c.side.ensures.link in
      let after : side_of link c.turn.new.crq.end.first ≡ side_of link true = ap (λ (b : Bool). side_of link b) first in
      let link_is : link ≡ c.self-1.given.0 = search rules in
      let less : c.args.unit < length server.units.items = omega (arith, c.requires.unit) in
      subst (λ (l : PlainLink). IsReceived server'.units.items server'.copies.items server'.records.grants.items server'.records.history.items c.args.unit
      (record { server = old.server; link = l; own = c.turn.new.own; window = c.turn.new.client; driver = old.driver })) link_is
      (received_served server.units.items server'.units.items c.args.unit old new (state_of c.side.result) (state_of c.turn.new.crq.end) server.copies.items server'.copies.items
      server.records.grants.items server'.records.grants.items server.records.history.items server'.records.history.items
      (ap (λ (side : PlainSide). side.queue.session) before) (ap (λ (side : PlainSide). side.queue.taken) before)
      (ap (λ (side : PlainSide). side.queue.session) after) (ap (λ (side : PlainSide). side.queue.taken) after)
      c.turn.ensures.requests.judged (subst AreBegun (ap (λ (side : PlainSide). side.queue.taken) after) c.turn.new.crq.puts.took)
      (behind_back c.turn.new.crq.end.first [] (c.turn.new.crq.end.link.ghost_name ∷ []) link first c.turn.new.crq.behind)
      (gone_back c.turn.new.crq.end.first [] (c.turn.new.crq.end.link.ghost_name ∷ []) link first c.turn.new.crq.gone)
      (begun_back c.turn.new.crq.end.first [] (c.turn.new.crq.end.link.ghost_name ∷ []) link first c.turn.new.crq.served)
      (agrees_like server'.units.items c.args.unit _ _ (ap (λ (side : PlainSide). side.registered) (sym after))
      (c.turn.ensures.says.agrees (agrees_like server.units.items c.args.unit _ _ (ap (λ (side : PlainSide). side.registered) before) c.requires.served.received.agrees)))
      (sees_lent c.side.result.first [] _ old.link c.side.result.link.now c.side.ensures.first c.side.ensures.link)
      (sees_back c.turn.new.crq.end.first [] _ link first) (ap (λ (place : PortPlace). place.unit) c.turn.ensures.ports.goes.own_place) (c.turn.ensures.requests.answered refl)
      (λ u e. (get_or server.units.items c.args.unit u, slice_get-get_or server.units.items c.args.unit u less))
      (∥∥₁_elim c.turn.ensures.requests.lines ∥∥₁_prop
      (λ lines. ∥∥₁_map₂ c.turn.ensures.rows.others c.turn.ensures.rows.answers
      (λ only answers. (
        lines,
        turn_last c.side.result.first c.turn.new.crq.end.first (c.side.result.link.ghost_name ∷ []) (c.turn.new.crq.end.link.ghost_name ∷ []) c.side.result.link.now old.link link old.own.unit lines.more
            server.records.history.items server'.records.history.items c.side.ensures.first c.side.ensures.link c.turn.ensures.ports.goes.queue_place (c.turn.ensures.ports.sessions refl) (c.turn.ensures.ports.partner refl)
            c.turn.ensures.ports.goes.session c.turn.ensures.ports.goes.taken c.turn.new.crq.behind (line_own old.own.unit _ server.records.grants.items server'.records.grants.items lines) only answers,
      ))))
      c.requires.served.received);
}

pub returns-clause-lasts : goal.returns-clause-lasts
returns-clause-lasts g c = record {
  partition = c.turn.ensures.stays.partition;
  count = c.turn.ensures.stays.count;
  grants = c.turn.ensures.requests.grants;
  disk = record { serves = c.turn.ensures.rows.disk; tells = c.turn.ensures.rows.tells };
}

pub returns-clause-linked : goal.returns-clause-linked
returns-clause-linked g c =
    let old = c.args.self.now in
    let link = c.turn.new.crq.end.link.now in
    let units = c.turn.new.self.units.items in
    let unit = c.args.unit in
    let first : c.turn.new.crq.end.first ≡ true = ap (λ (place : EndPlace). place.first) c.turn.ensures.ports.goes.queue_place ∙ c.side.ensures.first in
    let before : (side_of c.side.result.link.now c.side.result.first).registered ≡ (side_of old.link true).registered =
    ap (λ (b : Bool). (side_of c.side.result.link.now b).registered) c.side.ensures.first ∙ ap (λ (l : PlainLink). (side_of l true).registered) c.side.ensures.link in
    let after : (side_of link true).registered ≡ (side_of link c.turn.new.crq.end.first).registered = ap (λ (b : Bool). (side_of link b).registered) (sym first) in
    let client : (side_of link false).registered ≡ (side_of old.link false).registered =
    ap (λ (b : Bool). (partner_of link b).registered) (sym first)
    ∙ (ap (λ (place : EndPlace). place.partner_registered) c.turn.ensures.ports.goes.queue_place
    ∙ (ap (λ (b : Bool). (partner_of c.side.result.link.now b).registered) c.side.ensures.first ∙ ap (λ (l : PlainLink). (partner_of l true).registered) c.side.ensures.link)) in
    let link_is : link ≡ c.self-1.given.0 = search rules in
    subst (λ (l : PlainLink). OnOk c.turn.result (IsLinked c.args.server.now.units.items unit old
    → IsLinked units unit (record { server = old.server; link = l; own = c.turn.new.own; window = c.turn.new.client; driver = old.driver }))) link_is
    (on_ok c.turn.result _
    (λ is. record {
      agrees = agrees_like units unit _ _ after (c.turn.ensures.says.agrees (agrees_like c.args.server.now.units.items unit _ _ before is.agrees));
      shut = subst (λ (b : Bool). IfNone old.driver (b ≡ false)) (sym client) is.shut;
    }))

pub returns-clause-quiet : goal.returns-clause-quiet
returns-clause-quiet g c =
    let old = c.args.self.now in
    let link = c.turn.new.crq.end.link.now in
    let units = c.turn.new.self.units.items in
    let unit = c.args.unit in
    let before : (side_of c.side.result.link.now c.side.result.first).registered ≡ (side_of old.link true).registered =
    ap (λ (b : Bool). (side_of c.side.result.link.now b).registered) c.side.ensures.first ∙ ap (λ (l : PlainLink). (side_of l true).registered) c.side.ensures.link in
    let link_is : link ≡ c.self-1.given.0 = search rules in
    let less : unit < length units = omega (arith, c.requires.unit, c.turn.ensures.stays.units) in
    subst (λ (l : PlainLink). IfOk c.turn.result (λ moved. moved ≡ Quiet → IsLinked c.args.server.now.units.items unit old → ServerWaits (slice_get units unit) (link_state l))) link_is
    (ok_both c.turn.result _ _ _
    (λ moved still waits is linked.
    serve_waits c.side.result.first c.turn.new.crq.end.first _ _ c.side.result.link.now link _ _ _ _ units unit c.side.ensures.first c.turn.ensures.ports.goes.queue_place less (still is)
    (waits is (agrees_like c.args.server.now.units.items unit _ _ before linked.agrees)))
    c.turn.ensures.says.quiet c.turn.ensures.says.waits)

pub returns-clause-leaves : goal.returns-clause-leaves
returns-clause-leaves g c = record {
  shows =
      let goes = c.turn.ensures.ports.goes in
      let more = c.turn.ensures.copying.copies in
      record {
        made = (more.more, more.made);
        own = goes.own_grows;
        window = goes.client_grows;
        pages = ap (λ (place : PortPlace). place.size) goes.client_place;
      };
  values = λ i e. c.turn.ensures.ports.values e i;
  owner = λ page.
      none_owned c.args.self.now.window.unit (strokes_at c.args.self.now.window.pages page) (strokes_at c.turn.new.client.pages page) (c.turn.ensures.copying.owner refl page);
  client =
      let old = c.args.self.now in
      let link = c.turn.new.crq.end.link.now in
      let lent = c.side.result.link.now in
      let goes = c.turn.ensures.ports.goes in
      let at = c.side.result.first in
      let at' = c.turn.new.crq.end.first in
      let given = c.side.result.link.ghost_name ∷ [] in
      let back = c.turn.new.crq.end.link.ghost_name ∷ [] in
      let first : at' ≡ true = ap (λ (place : EndPlace). place.first) goes.queue_place ∙ c.side.ensures.first in
      let was : PlainLink → Pair = λ l. record { server = old.server; link = l; own = old.own; window = old.window; driver = old.driver } in
      let now : PlainLink → Pair = λ l. record { server = old.server; link = l; own = c.turn.new.own; window = c.turn.new.client; driver = old.driver } in
      let link_is : link ≡ c.self-1.given.0 = search rules in
      subst (λ (l : PlainLink). KeepsClient old (now l)) link_is
      (subst (λ (l : PlainLink). KeepsClient (was l) (now link)) c.side.ensures.link
      (record {
        queue = serve_queue at at' given back (was lent) (now link) c.side.ensures.first goes.queue_place;
        taken = serve_taken at at' given back (was lent) (now link) c.side.ensures.first goes.queue_place;
        kept = serve_kept at at' given back (was lent) (now link) c.side.ensures.first goes.queue_place;
        unfreed = serve_frees at at' given back (was lent) (now link) c.side.ensures.first goes.queue_place (c.turn.ensures.ports.partner refl);
        sent = serve_sent at at' given back (was lent) (now link) c.side.ensures.first goes.queue_place;
        full = serve_full at at' given back (was lent) (now link) c.side.ensures.first goes.queue_place;
        served = served_link at at' given back lent link c.side.ensures.first first c.turn.new.crq.served goes.put goes.session goes.opens;
      }));
}

pub returns-clause-told : goal.returns-clause-told
returns-clause-told g c = λ told tells.
    let old = c.args.self.now in
    let server = c.args.server.now in
    let server' = c.turn.new.self in
    let goes = c.turn.ensures.ports.goes in
    let link = c.turn.new.crq.end.link.now in
    let now : PlainLink → Pair = λ l. record { server = old.server; link = l; own = c.turn.new.own; window = c.turn.new.client; driver = old.driver } in
    let name : c.turn.new.own.unit ≡ old.own.unit = ap (λ (place : PortPlace). place.unit) goes.own_place in
    let pages : length c.turn.new.client.pages ≡ length old.window.pages = ap (λ (place : PortPlace). place.size) goes.client_place in
    let news = tells_turn told server.copies.items server'.copies.items old (now link) pages name tells in
    let first : c.turn.new.crq.end.first ≡ true = ap (λ (place : EndPlace). place.first) goes.queue_place ∙ c.side.ensures.first in
    let before : side_of c.side.result.link.now c.side.result.first ≡ side_of old.link true =
    ap (λ (b : Bool). side_of c.side.result.link.now b) c.side.ensures.first ∙ ap (λ (l : PlainLink). side_of l true) c.side.ensures.link in
    let after : side_of link c.turn.new.crq.end.first ≡ side_of link true = ap (λ (b : Bool). side_of link b) first in
    let sent_before : (partner_of c.side.result.link.now c.side.result.first).queue.sent ≡ (side_of old.link false).queue.sent =
    ap (λ (b : Bool). (partner_of c.side.result.link.now b).queue.sent) c.side.ensures.first ∙ ap (λ (l : PlainLink). (partner_of l true).queue.sent) c.side.ensures.link in
    let sent_after : (partner_of link c.turn.new.crq.end.first).queue.sent ≡ (side_of link false).queue.sent = ap (λ (b : Bool). (partner_of link b).queue.sent) first in
    let link_is : link ≡ c.self-1.given.0 = search rules in
    record {
      all = λ is.
          let by = c.turn.ensures.by_told told news is.order in
          record { order = by.order; written = by.written is.written };
      causes = λ order. (c.turn.ensures.by_told told news order).causes;
      own = subst (λ (l : PlainLink). AllGoBy told server.disk.count server.partition server.units.items server.records → UnitGoesBy told server.units.items server.records server.copies.items c.args.unit old
          → UnitGoesBy told server'.units.items server'.records server'.copies.items c.args.unit (now l)) link_is
          (λ all is.
          let by = c.turn.ensures.by_told told news all.order in
          let agrees = agrees_like server.units.items c.args.unit _ _ (ap (λ (side : PlainSide). side.registered) before) c.requires.served.received.agrees in
          told_served told server.units.items server'.units.items server.records server'.records server.copies.items server'.copies.items c.args.unit old (now link) (state_of c.side.result) (state_of c.turn.new.crq.end)
          (ap (λ (side : PlainSide). side.queue.session) before) (ap (λ (side : PlainSide). side.queue.taken) before)
          (ap (λ (side : PlainSide). side.queue.session) after) (ap (λ (side : PlainSide). side.queue.taken) after) name
          sent_before sent_after goes.taken c.turn.ensures.requests.lines
          by.runs (by.explains []) (by.logins [])
          (λ closed heard.
          closed_so told server.units.items server'.units.items c.args.unit old.own.unit (state_of c.side.result) (state_of c.turn.new.crq.end) goes.queue_place agrees (c.turn.ensures.says.agrees agrees) c.turn.new.crq.behind
          c.turn.new.crq.gone closed heard)
          (hears_lent c.side.result.first [] (c.side.result.link.ghost_name ∷ []) old.link c.side.result.link.now c.side.ensures.first c.side.ensures.link)
          (hears_back c.turn.new.crq.end.first [] (c.turn.new.crq.end.link.ghost_name ∷ []) link first) is);
    }

pub returns-clause-clients : goal.returns-clause-clients
returns-clause-clients g c =
    let old = c.args.self.now in
    let server = c.args.server.now in
    let server' = c.turn.new.self in
    let unit = c.args.unit in
    let name = c.args.self.now.own.unit in
    let link = c.turn.new.crq.end.link.now in
    let goes = c.turn.ensures.ports.goes in
    let books = books_in server in
    let books' = books_in server' in
    let lent = c.side.result.link.ghost_name ∷ [] in
    let back = c.turn.new.crq.end.link.ghost_name ∷ [] in
    let first : c.turn.new.crq.end.first ≡ true = ap (λ (place : EndPlace). place.first) goes.queue_place ∙ c.side.ensures.first in
    let before : state_of c.side.result ≡ end_of lent old.link true =
    ap (λ (b : Bool). end_of lent c.side.result.link.now b) c.side.ensures.first ∙ ap (λ (l : PlainLink). end_of lent l true) c.side.ensures.link in
    let after : state_of c.turn.new.crq.end ≡ end_of back link true = ap (λ (b : Bool). end_of back link b) first in
    let turns = turns_ok c.turn.result name books books' unit (state_of c.side.result) (state_of c.turn.new.crq.end) (known_of old.window) (known_of c.turn.new.client)
    (λ words u at calm. (c.turn.ensures.if_ready words u at calm).talks) (λ words u at calm. (c.turn.ensures.if_ready words u at calm).places)
    (λ words u at calm. (c.turn.ensures.if_ready words u at calm).leaves) (λ words u at calm. (c.turn.ensures.if_ready words u at calm).rows) c.turn.ensures.opens
    (ids_stay _ _ _ _ server.partition server'.partition server.units.items server'.units.items server.records server'.records c.turn.ensures.stays.partition server.serving server'.serving unit)
    goes.queue_place (c.turn.ensures.ports.partner refl) goes.put c.turn.new.crq.behind.low goes.client_place in
    let does = does_ok c.turn.result name books books' unit (state_of c.side.result) (state_of c.turn.new.crq.end) (known_of old.window) (known_of c.turn.new.client)
    (c.turn.ensures.does refl refl) c.turn.ensures.says.agrees in
    let heard = heard_ok c.turn.result books books' unit (state_of c.side.result) (state_of c.turn.new.crq.end) c.turn.ensures.heard in
    let new : Pair = record { server = old.server; link = link; own = c.turn.new.own; window = c.turn.new.client; driver = old.driver } in
    let link_is : link ≡ c.self-1.given.0 = search rules in
    subst (λ (l : PlainLink). OnOk c.turn.result (ServesClients server.partition books books' unit old
    (record { server = old.server; link = l; own = c.turn.new.own; window = c.turn.new.client; driver = old.driver }))) link_is
    (ok_three c.turn.result _ _ _ _
    (λ on steps hears.
    let turned = subst (λ (end : EndState). TurnsOn name books books' unit end (end_of back link true) (known_of old.window) (known_of c.turn.new.client)) before
    (subst (λ (end : EndState). TurnsOn name books books' unit (state_of c.side.result) end (known_of old.window) (known_of c.turn.new.client)) after on) in
    let lines =
    subst (λ (id : UnitId). ∥ LinesMore id (grant_of server.units.items unit) books.lines books'.lines ∥₁) (c.requires.pair.own_unit ∙ c.requires.pair.server) c.turn.ensures.requests.lines in
    record {
      plain = λ granted told is. (
        served_pair granted told server.partition unit _ name books books' lent back old new (c.requires.pair.own_unit ∙ c.requires.pair.server) refl lines turned is,
        served_away granted told server.partition unit name books books' lent back old new turned is,
      );
      own = served_own_pair server.partition unit _ name books books' lent back old new (c.requires.pair.own_unit ∙ c.requires.pair.server) refl lines turned
          (subst (λ (end : EndState). DoesAt name books books' unit end (end_of back link true) (known_of old.window) (known_of c.turn.new.client)) before
          (subst (λ (end : EndState). DoesAt name books books' unit (state_of c.side.result) end (known_of old.window) (known_of c.turn.new.client)) after steps))
          (subst (λ (end : EndState). HeardAt books books' unit end (end_of back link true)) before
          (subst (λ (end : EndState). HeardAt books books' unit (state_of c.side.result) end) after hears));
    })
    turns does heard)

pub returns-clause-idles : goal.returns-clause-idles
returns-clause-idles g c =
    let old = c.args.self.now in
    let server = c.args.server.now in
    let server' = c.turn.new.self in
    let unit = c.args.unit in
    let name = c.args.self.now.own.unit in
    let link = c.turn.new.crq.end.link.now in
    let goes = c.turn.ensures.ports.goes in
    let books = books_in server in
    let books' = books_in server' in
    let lent = c.side.result.link.ghost_name ∷ [] in
    let back = c.turn.new.crq.end.link.ghost_name ∷ [] in
    let first : c.turn.new.crq.end.first ≡ true = ap (λ (place : EndPlace). place.first) goes.queue_place ∙ c.side.ensures.first in
    let before : state_of c.side.result ≡ end_of lent old.link true =
    ap (λ (b : Bool). end_of lent c.side.result.link.now b) c.side.ensures.first ∙ ap (λ (l : PlainLink). end_of lent l true) c.side.ensures.link in
    let after : state_of c.turn.new.crq.end ≡ end_of back link true = ap (λ (b : Bool). end_of back link b) first in
    let turns = turns_ok c.turn.result name books books' unit (state_of c.side.result) (state_of c.turn.new.crq.end) (known_of old.window) (known_of c.turn.new.client)
    (λ words u at calm. (c.turn.ensures.if_ready words u at calm).talks) (λ words u at calm. (c.turn.ensures.if_ready words u at calm).places)
    (λ words u at calm. (c.turn.ensures.if_ready words u at calm).leaves) (λ words u at calm. (c.turn.ensures.if_ready words u at calm).rows) c.turn.ensures.opens
    (ids_stay _ _ _ _ server.partition server'.partition server.units.items server'.units.items server.records server'.records c.turn.ensures.stays.partition server.serving server'.serving unit)
    goes.queue_place (c.turn.ensures.ports.partner refl) goes.put c.turn.new.crq.behind.low goes.client_place in
    idle_ok c.turn.result (λ moved. moved ≡ Quiet) _ _ _ _
    (λ on still way granted told is. idles_pair granted told server.partition unit name books books' lent back old
    (record { server = old.server; link = link; own = c.turn.new.own; window = c.turn.new.client; driver = old.driver })
    (subst (λ (end : EndState). TurnsOn name books books' unit end (end_of back link true) (known_of old.window) (known_of c.turn.new.client)) before
    (subst (λ (end : EndState). TurnsOn name books books' unit (state_of c.side.result) end (known_of old.window) (known_of c.turn.new.client)) after on))
    (subst (λ (end : EndState). IsStill end (end_of back link true)) before (subst (λ (end : EndState). IsStill (state_of c.side.result) end) after still))
    way is)
    turns c.turn.ensures.says.quiet c.turn.ensures.says.way

pub returns-clause-beside : goal.returns-clause-beside
returns-clause-beside g c = λ k apart.
    let old = c.args.self.now in
    let server = c.args.server.now in
    let server' = c.turn.new.self in
    let new : Pair = record { server = old.server; link = old.link; own = c.turn.new.own; window = c.turn.new.client; driver = old.driver } in
    let more = c.turn.ensures.copying.copies in
    let stays = c.turn.ensures.stays.others_stay k apart in
    let own : new.own.unit ≡ old.own.unit = ap (λ (place : PortPlace). place.unit) c.turn.ensures.ports.goes.own_place in
    let window : new.window.unit ≡ old.window.unit = ap (λ (place : PortPlace). place.unit) c.turn.ensures.ports.goes.client_place in
    let name : old.own.unit ≡ server_id server.partition c.args.unit = c.requires.pair.own_unit ∙ c.requires.pair.server in
    let elsewhere : old.own.unit ≢ server_id server.partition k = λ is. apart (sym (ap (λ (u : UnitId). u.unit) (sym name ∙ is))) in
    record {
      unit = stays;
      books = spares_unit server.partition k _ (books_in server)
          (books_in server')
          old.own.unit elsewhere stays c.turn.ensures.requests.lines c.turn.ensures.rows.others;
      pair = λ other distinct is.
          let apart_now : (unit : UnitId) → HasWindow unit new → HasWindow unit other → ⊥ = λ unit has. distinct unit (has_stays unit old new own window has) in
          record {
            server = is.server;
            own_unit = is.own_unit;
            ready = is.ready;
            event = is.event;
            copies = copies_beside new other server.copies.items server'.copies.items apart_now is.own_unit more is.copies;
            driver = is.driver;
            names = names_beside new other server.copies.items server'.copies.items apart_now more is.names;
            absent = is.absent;
          };
      linked = λ other is. record { agrees = agrees_other _ _ k _ stays is.agrees; shut = is.shut };
      answered = λ other id. answered_elsewhere server.partition c.args.unit k other server.records.history.items server'.records.history.items
          (λ same. apart (sym same)) id
          (subst (λ (u : UnitId). ∥ OnlyRowsOf u server.records.history.items server'.records.history.items ∥₁) name c.turn.ensures.rows.others);
      received = λ other id. received_elsewhere server.units.items server'.units.items k old.own.unit other (known_of c.turn.new.own) (known_of c.turn.new.client) server.copies.items server'.copies.items
          server.records.grants.items server'.records.grants.items server.records.history.items server'.records.history.items
          (λ e. elsewhere (e ∙ id)) stays own more c.turn.ensures.requests.lines c.turn.ensures.rows.others;
      told = λ told other id order is.
          let other_unit : old.own.unit ≢ other.own.unit = λ e. elsewhere (e ∙ id) in
          told_elsewhere told server.disk.count server.partition server.units.items server'.units.items server.records server'.records server.copies.items server'.copies.items k
          old.own.unit other other_unit id stays
          (ap (data_copies other.own.unit) more.made
          ∙ others_none other.own.unit server.copies.items more.more
          (All-weaker (IsOwnCopy (known_of c.turn.new.own) (known_of c.turn.new.client)) (λ copy. copy.name.who ≢ other.own.unit)
          (λ copy of e. other_unit (sym own ∙ sym of.who ∙ e)) more.more more.lawful)) c.turn.ensures.requests.lines c.turn.ensures.rows.others order is;
    }
