use Rattle.vcpu_run.specs.CopiesCounted.{copies_at}
use Rattle.vcpu_run.proofs.CopiesMade.{all_made, begins_same, rows_grow}
use Rattle.vcpu_run.proofs.Elsewhere.{credits_as, credits_served, ok_then}
use Rattle.vcpu_run.proofs.Resting.{ok_more}
use Rattle.vcpu_run.proofs.Idling.{rests_clients, rests_servers}
use Rattle.std.proofs.lemmas.Option.{slice_get-get_or}
use Rattle.std.proofs.Common.{◌≡◌, ◌+◌, IsSomeAnd, false, true, refl, subst, vec_len, ◌∙◌, slice_get, slice_index_or, sym}
use Rattle.vcpu_run.specs.Scripts.{are_servers}
use Rattle.vcpu_run.proofs.Crediting.{on_ok}
use Rattle.vcpu_run.proofs.Keeping.{drivers_of}
use Rattle.vcpu_run.proofs.Lasting.{serving_stays}
use Rattle.vcpu_run.proofs.RoundsTold.{out_served, told_served}
use Rattle.vcpu_run.proofs.Scripted.{run_same, scripts_stay}
use Rattle.vcpu_run.proofs.Held.{queues_served}
use Rattle.vcpu_run.proofs.OpenRounds.{open_served}
use Rattle.vcpu_run.proofs.PortsResting.{servers_rest}
use Rattle.block_server.specs.TurnStock.{stock_of}
use Rattle.vcpu_run.specs.Served.{books_in}
use Rattle.vcpu_run.proofs.Going.{goes_told, ok_three}
use Rattle.vcpu_run.specs.ClientRuns.{AreClientsQuietTo, AreClientsTo}
use Rattle.vcpu_run.proofs.OwnClauses.{if_two}
use Rattle.vcpu_run.proofs.OwnQuietRounds.{idled_own}
use Rattle.vcpu_run.proofs.OwnRuns.{served_own}
use Rattle.vcpu_run.proofs.PlainRuns.{idled_plainly, served_plainly}
use Rattle.vcpu_run.proofs.rounds.turn_at.Goals as goal

pub run_script-requires-clause-drivers : goal.run_script-requires-clause-drivers
run_script-requires-clause-drivers g c = drivers_of c.args.server.now.partition c.args.server.now.copies.items c.args.pairs.now c.requires.machine.serving.pairs_are

pub returns-then-is_of_servers-clause-machine : goal.returns-then-is_of_servers-clause-machine
returns-then-is_of_servers-clause-machine g c = record {
  serving = c.serve.ensures.serving;
  scripts_are = scripts_stay c.args.pairs.now c.serve.new.pairs c.args.lan.now.seats c.args.scripts.now c.serve.ensures.spares.stay c.requires.machine.scripts_are;
}

pub returns-then-is_of_servers-clause-stays : goal.returns-then-is_of_servers-clause-stays
returns-then-is_of_servers-clause-stays g c = record { stay = c.serve.ensures.spares.stay; run = run_same c.args.scripts.now; seats = refl }

pub returns-then-is_of_servers-clause-keeps : goal.returns-then-is_of_servers-clause-keeps
returns-then-is_of_servers-clause-keeps g c =
    let pairs = c.args.pairs.now in
    let scripts = c.args.scripts.now in
    let spares = c.serve.ensures.spares in
    ok_then c.serve.result _ _
    (λ linked. record {
      credited = credits_served (copies_at c.args.server.now.copies.items pairs) (copies_at c.serve.new.server.copies.items c.serve.new.pairs) pairs c.serve.new.pairs scripts
          spares.stay spares.drivers spares.clients
          (rows_grow c.args.server.now.copies.items c.serve.new.server.copies.items pairs c.serve.new.pairs spares.copies spares.stay);
      said = λ told. told_served pairs c.serve.new.pairs scripts spares.clients told;
      told = λ tells. tells;
      linked = linked;
    })
    c.serve.ensures.linked

pub returns-else-is_of_servers-clause-keeps : goal.returns-else-is_of_servers-clause-keeps
returns-else-is_of_servers-clause-keeps g c =
    let copies = c.args.server.now.copies.items in
    let pairs = c.args.pairs.now in
    let pairs' = c.run_script.new.pairs in
    let stay = c.run_script.ensures.stays.stay in
    let keeps = c.run_script.ensures.pairs in
    let serving = serving_stays c.args.server.now.partition (vec_len c.args.server.now.units) copies pairs pairs' stay keeps.pairs c.requires.machine.serving in
    ok_three c.run_script.result _ _ _ _
    (λ credited said told. record {
      credited = λ are.
          credited (copies_at copies pairs') (all_made c.args.server.now.partition copies pairs' serving.pairs_are)
          (credits_as (copies_at copies pairs) (copies_at copies pairs') pairs c.args.scripts.now (rows_grow copies copies pairs pairs' (begins_same copies) stay) are);
      said = said;
      told = told;
      linked = keeps.linked c.args.server.now.units.items;
    })
    c.run_script.ensures.credited c.run_script.ensures.said c.run_script.ensures.told

pub returns-else-is_of_servers-clause-machine : goal.returns-else-is_of_servers-clause-machine
returns-else-is_of_servers-clause-machine g c =
    let server = c.args.server.now in
    record {
      serving = serving_stays server.partition (vec_len server.units) server.copies.items c.args.pairs.now c.run_script.new.pairs
          c.run_script.ensures.stays.stay c.run_script.ensures.pairs.pairs c.requires.machine.serving;
      scripts_are = c.run_script.ensures.scripts;
    }

pub returns-else-is_of_servers-clause-served : goal.returns-else-is_of_servers-clause-served
returns-else-is_of_servers-clause-served g c =
    let server = c.args.server.now in
    let keeps = c.run_script.ensures.pairs in
    let served = c.requires.served in
    record {
      answered = keeps.answered server.records.history.items served.answered;
      received = keeps.received server.units.items server.copies.items server.records.grants.items server.records.history.items served.received;
      heard = keeps.heard server.disk.count server.partition server.units.items server.records server.copies.items served.heard;
    }

pub returns-then-is_of_servers-clause-quiet : goal.returns-then-is_of_servers-clause-quiet
returns-then-is_of_servers-clause-quiet g c =
    let server = c.args.server.now in
    let server' = c.serve.new.server in
    let pairs = c.args.pairs.now in
    let pairs' = c.serve.new.pairs in
    let scripts = c.args.scripts.now in
    let clients = c.serve.ensures.spares.clients in
    let old = slice_index_or scripts c.args.number c.index-scripts-number.result in
    let found = slice_get-get_or scripts c.args.number c.index-scripts-number.result c.requires.there in
    let serves : are_servers old.seats.items ≡ true = sym c.is_of_servers.ensures ∙ c.if-is_of_servers.true in
    if_two c.serve.result _ _ _ _
    (λ moved told wait idles is. record {
      opened = λ linked before. open_served server'.units.items pairs pairs' scripts c.args.number old found serves clients (wait is linked) before;
      out = λ told out. out_served pairs pairs' scripts c.args.number old found serves clients out;
      idle = λ are over. rests_servers scripts c.args.number old server.units.items server'.units.items pairs pairs' found serves (wait is are);
      ports = λ over. servers_rest scripts c.args.number old c.args.lan.now found serves;
      quietly = λ linked granted are quiet.
          subst (λ home. AreClientsQuietTo home (c.args.number + 1) (books_in server') pairs' scripts) (sym c.serve.ensures.goes.lasts.partition)
          (record {
            plain = idled_plainly granted server.partition c.args.number (books_in server) (books_in server') pairs scripts old found serves (idles is) are.plain quiet.plain;
            own = idled_own granted server.partition c.args.number (books_in server) (books_in server') pairs pairs' scripts old found serves (wait is linked)
                (served_own granted server.partition c.args.number (books_in server) (books_in server') pairs pairs' scripts (λ k. (told k).own) are.own) quiet.own;
          });
    })
    c.serve.ensures.clients c.serve.ensures.wait c.serve.ensures.idles

pub returns-else-is_of_servers-clause-quiet : goal.returns-else-is_of_servers-clause-quiet
returns-else-is_of_servers-clause-quiet g c =
    let server = c.args.server.now in
    let scripts = c.args.scripts.now in
    let old = slice_index_or scripts c.args.number c.index-scripts-number.result in
    let found = slice_get-get_or scripts c.args.number c.index-scripts-number.result c.requires.there in
    let plain : are_servers old.seats.items ≡ false = sym c.is_of_servers.ensures ∙ c.if-is_of_servers.false in
    let other : IsSomeAnd (slice_get scripts c.args.number) (λ script. are_servers script.seats.items ≡ false) =
    subst (λ o. IsSomeAnd o (λ script. are_servers script.seats.items ≡ false)) (sym found) plain in
    ok_more c.run_script.result _ _
    (λ moved quiet is. record {
      opened = λ linked before. (quiet is).opened other before;
      out = (quiet is).out;
      idle = λ are over. rests_clients scripts c.run_script.new.scripts c.args.number old server.units.items c.args.pairs.now c.run_script.new.pairs
          c.run_script.ensures.stays.run found plain ((quiet is).idle over);
      ports = (quiet is).ports;
      quietly = λ linked granted are rests. (quiet is).quietly granted server.partition (books_in server) other are rests;
    })
    c.run_script.ensures.quiet

pub returns-then-is_of_servers-clause-unfreed : goal.returns-then-is_of_servers-clause-unfreed
returns-then-is_of_servers-clause-unfreed g c =
    on_ok c.serve.result _ (λ keep. queues_served c.args.pairs.now c.serve.new.pairs c.args.scripts.now c.serve.ensures.spares.stays keep)

pub returns-else-is_of_servers-clause-goes : goal.returns-else-is_of_servers-clause-goes
returns-else-is_of_servers-clause-goes g c =
    goes_told (stock_of c.args.server.now) c.args.pairs.now c.run_script.new.pairs (c.run_script.ensures.pairs.tells c.args.server.now.copies.items)

pub returns-then-is_of_servers-clause-clients : goal.returns-then-is_of_servers-clause-clients
returns-then-is_of_servers-clause-clients g c =
    ok_then c.serve.result _ _
    (λ serves granted is.
    subst (λ home. AreClientsTo granted home (c.args.number + 1) (books_in c.serve.new.server) c.serve.new.pairs c.args.scripts.now) (sym c.serve.ensures.goes.lasts.partition)
    (record {
      plain = served_plainly granted c.args.server.now.partition c.args.number (books_in c.args.server.now)
          (books_in c.serve.new.server) c.args.pairs.now c.serve.new.pairs c.args.scripts.now (λ k. (serves k).plain) c.serve.ensures.spares.clients is.plain;
      own = served_own granted c.args.server.now.partition c.args.number (books_in c.args.server.now)
          (books_in c.serve.new.server) c.args.pairs.now c.serve.new.pairs c.args.scripts.now (λ k. (serves k).own) is.own;
    }))
    c.serve.ensures.clients

pub returns-else-is_of_servers-clause-clients : goal.returns-else-is_of_servers-clause-clients
returns-else-is_of_servers-clause-clients g c =
    let scripts = c.args.scripts.now in
    let d = c.index-scripts-number.result in
    let old = slice_index_or scripts c.args.number d in
    let plain : are_servers old.seats.items ≡ false = sym c.is_of_servers.ensures ∙ c.if-is_of_servers.false in
    ok_then c.run_script.result _ _
    (λ turns granted is.
    turns granted c.args.server.now.partition (books_in c.args.server.now)
    (subst (λ o. IsSomeAnd o (λ script. are_servers script.seats.items ≡ false)) (sym (slice_get-get_or scripts c.args.number d c.requires.there)) plain) is)
    c.run_script.ensures.clients
