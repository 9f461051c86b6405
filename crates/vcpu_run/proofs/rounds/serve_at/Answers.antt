use Rattle.vcpu_run.specs.Links.{IsLinked, ServerWaits}
use Rattle.vcpu_run.proofs.Resting.{ok_more, waits_set}
use Rattle.vcpu_run.proofs.Elsewhere.{ok_then}
use Rattle.vcpu_run.proofs.Driving.{get_set_other, get_set_same}
use Rattle.std.proofs.Common.{◌≡◌, ◌≤◌, ℕ, Some, length, slice_get, slice_index_or, slice_set, sym, ◌∙◌, subst, length-set}
use Rattle.std.proofs.lemmas.Option.{slice_get-get_or}
use Rattle.vcpu_run.specs.declared.pair.Pair.{Pair}
use Rattle.vcpu_run.specs.Answered.{IsAnswered}
use Rattle.vcpu_run.specs.LinesShow.{Sees, seen_at}
use Rattle.vcpu_run.specs.Machines.{KeepsEntries, Stays}
use Rattle.vcpu_run.specs.Pairs.{IsPair}
use Rattle.vcpu_run.specs.Received.{IsReceived}
use Rattle.vcpu_run.proofs.CalmTurns.{served_calm}
use Rattle.vcpu_run.proofs.ClientsTold.{clients_set}
use Rattle.vcpu_run.proofs.Agreeing.{set_same}
use Rattle.vcpu_run.proofs.HeardTurns.{heard_set, tells_before}
use Rattle.vcpu_run.proofs.Keeping.{entries_same, stays_same}
use Rattle.vcpu_run.proofs.LinesShown.{sees_same, serve_sees}
use Rattle.vcpu_run.proofs.DropsKept.{more_served}
use Rattle.vcpu_run.proofs.Listed.{each_on, each_set}
use Rattle.vcpu_run.proofs.PairNames.{apart_stays}
use Rattle.vcpu_run.proofs.Unfreed.{frees_set}
use Rattle.vcpu_run.specs.ClientRuns.{ServesClients, ServesClientsAt}
use Rattle.vcpu_run.specs.Served.{books_in}
use Rattle.vcpu_run.proofs.OwnRounds.{served_own_at}
use Rattle.vcpu_run.proofs.PlainRounds.{idled_at, served_at}
use Rattle.vcpu_run.proofs.rounds.serve_at.Goals as goal

pub serve-requires-clause-pair : goal.serve-requires-clause-pair
serve-requires-clause-pair g c =
    let pairs = c.args.pairs.now in
    let old = slice_index_or pairs c.args.unit c.index-pairs-unit.result in
    c.requires.serving.pairs_are c.args.unit old (slice_get-get_or pairs c.args.unit c.index-pairs-unit.result c.requires.there)

pub returns-clause-serving : goal.returns-clause-serving
returns-clause-serving g c =
    let pairs = c.args.pairs.now in
    let before = c.requires.serving in
    let after = c.serve.ensures in
    let count : length (slice_set pairs c.args.unit c.serve.new.self) ≡ length pairs = length-set pairs c.args.unit c.serve.new.self in
    let old = slice_index_or pairs c.args.unit c.index-pairs-unit.result in
    let here : slice_get pairs c.args.unit ≡ Some old = slice_get-get_or pairs c.args.unit c.index-pairs-unit.result c.requires.there in
    record {
      each = after.units ∙ (before.each ∙ sym count);
      few = subst (λ n. n ≤ 8) (sym count) before.few;
      pairs_are = rw after.lasts.partition (each_set (IsPair c.args.server.now.partition c.serve.new.server.copies.items) pairs c.args.unit c.serve.new.self
          (λ k other there apart. (after.beside k apart).pair other
          (λ unit has has_other. apart (before.apart k c.args.unit other old unit there here has_other has)) (before.pairs_are k other there)) after.pair);
      apart = apart_stays pairs (slice_set pairs c.args.unit c.serve.new.self)
          (record {
            count = count;
            each = each_on Stays pairs c.args.unit old c.serve.new.self stays_same here after.stays;
            sees = each_on (λ (a b : Pair). Sees (seen_at a) (seen_at b)) pairs c.args.unit old c.serve.new.self (λ pair. sees_same (seen_at pair)) here
                (serve_sees old c.serve.new.self after.leaves.shows.window after.leaves.client.sent);
            values = each_on KeepsEntries pairs c.args.unit old c.serve.new.self entries_same here after.leaves.shows.window.values;
          }) before.apart;
    }

pub returns-clause-served : goal.returns-clause-served
returns-clause-served g c = record {
  answered =
      let pairs = c.args.pairs.now in
      each_set (λ (k : ℕ) (other : Pair). IsAnswered c.serve.new.server.records.history.items other) pairs c.args.unit c.serve.new.self
      (λ k other there apart. (c.serve.ensures.beside k apart).answered other (c.requires.serving.pairs_are k other there).server (c.requires.served.answered k other there))
      c.serve.ensures.served.answered;
  received =
      let server = c.serve.new.server in
      each_set (IsReceived server.units.items server.copies.items server.records.grants.items server.records.history.items) c.args.pairs.now c.args.unit c.serve.new.self
      (λ k other there apart.
      let is = c.requires.serving.pairs_are k other there in
      (c.serve.ensures.beside k apart).received other (is.own_unit ∙ is.server) (c.requires.served.received k other there))
      c.serve.ensures.served.received;
  heard =
      let server = c.args.server.now in
      let server' = c.serve.new.server in
      let pairs = c.args.pairs.now in
      let old = slice_index_or pairs c.args.unit c.index-pairs-unit.result in
      heard_set server.disk.count server'.disk.count server.partition server'.partition server.units.items server'.units.items server.records server'.records server.copies.items server'.copies.items
      pairs c.args.unit old c.serve.new.self (slice_get-get_or pairs c.args.unit c.index-pairs-unit.result c.requires.there) c.serve.ensures.leaves.shows c.serve.ensures.stays.own_unit
      (λ told tells. (c.serve.ensures.told told tells).all) (λ told tells. (c.serve.ensures.told told tells).own)
      (λ told k other found apart order is.
      let pair = c.requires.serving.pairs_are k other found in
      (c.serve.ensures.beside k apart).told told other (pair.own_unit ∙ pair.server) order is)
      c.requires.served.heard;
}

pub serve-requires-clause-served : goal.serve-requires-clause-served
serve-requires-clause-served g c =
    let pairs = c.args.pairs.now in
    let old = slice_index_or pairs c.args.unit c.index-pairs-unit.result in
    let there = slice_get-get_or pairs c.args.unit c.index-pairs-unit.result c.requires.there in
    record { answered = c.requires.served.answered c.args.unit old there; received = c.requires.served.received c.args.unit old there }

pub returns-clause-linked : goal.returns-clause-linked
returns-clause-linked g c =
    let pairs = c.args.pairs.now in
    let old = slice_index_or pairs c.args.unit c.index-pairs-unit.result in
    let found = slice_get-get_or pairs c.args.unit c.index-pairs-unit.result c.requires.there in
    ok_then c.serve.result _ _
    (λ step are. each_set (IsLinked c.serve.new.server.units.items) pairs c.args.unit c.serve.new.self
    (λ k other there apart. (c.serve.ensures.beside k apart).linked other (are k other there)) (step (are c.args.unit old found)))
    c.serve.ensures.linked

pub returns-clause-waits : goal.returns-clause-waits
returns-clause-waits g c =
    let pairs = c.args.pairs.now in
    let old = slice_index_or pairs c.args.unit c.index-pairs-unit.result in
    let found = slice_get-get_or pairs c.args.unit c.index-pairs-unit.result c.requires.there in
    ok_more c.serve.result _ _
    (λ moved wait is are. waits_set (ServerWaits (slice_get c.serve.new.server.units.items c.args.unit)) pairs c.args.unit c.serve.new.self c.requires.there (wait is (are c.args.unit old found)))
    c.serve.ensures.quiet

pub returns-clause-goes : goal.returns-clause-goes
returns-clause-goes g c = record {
  lasts = c.serve.ensures.lasts;
  causes = λ told tells.
      let pairs = c.args.pairs.now in
      let there = slice_get-get_or pairs c.args.unit c.index-pairs-unit.result c.requires.there in
      let before = tells_before told c.args.server.now.copies.items c.serve.new.server.copies.items pairs c.args.unit (slice_index_or pairs c.args.unit c.index-pairs-unit.result) c.serve.new.self there
      c.serve.ensures.leaves.shows c.serve.ensures.stays.own_unit tells in
      (before, (c.serve.ensures.told told (tells c.args.unit c.serve.new.self (get_set_same pairs c.args.unit c.serve.new.self c.requires.there))).causes (c.requires.served.heard.all told before).order);
}

pub returns-clause-spares : goal.returns-clause-spares
returns-clause-spares g c = record {
  copies = c.serve.ensures.leaves.shows.made;
  stay =
      let pairs = c.args.pairs.now in
      let old = slice_index_or pairs c.args.unit c.index-pairs-unit.result in
      record {
        count = length-set pairs c.args.unit c.serve.new.self;
        each = each_on Stays pairs c.args.unit old c.serve.new.self stays_same
            (slice_get-get_or pairs c.args.unit c.index-pairs-unit.result c.requires.there) c.serve.ensures.stays;
        sees = each_on (λ (a b : Pair). Sees (seen_at a) (seen_at b)) pairs c.args.unit old c.serve.new.self (λ pair. sees_same (seen_at pair))
            (slice_get-get_or pairs c.args.unit c.index-pairs-unit.result c.requires.there)
            (serve_sees old c.serve.new.self c.serve.ensures.leaves.shows.window c.serve.ensures.leaves.client.sent);
        values = each_on KeepsEntries pairs c.args.unit old c.serve.new.self entries_same
            (slice_get-get_or pairs c.args.unit c.index-pairs-unit.result c.requires.there) c.serve.ensures.leaves.shows.window.values;
      };
  drivers =
      let pairs = c.args.pairs.now in
      set_same pairs c.args.unit (slice_index_or pairs c.args.unit c.index-pairs-unit.result) c.serve.new.self
      (slice_get-get_or pairs c.args.unit c.index-pairs-unit.result c.requires.there) c.serve.ensures.driver;
  clients =
      let pairs = c.args.pairs.now in
      clients_set pairs c.args.unit (slice_index_or pairs c.args.unit c.index-pairs-unit.result) c.serve.new.self
      (slice_get-get_or pairs c.args.unit c.index-pairs-unit.result c.requires.there)
      (record {
        driver = c.serve.ensures.driver;
        pages = c.serve.ensures.stays.pages;
        queue = c.serve.ensures.leaves.client.queue;
        taken = c.serve.ensures.leaves.client.taken;
        unit = c.serve.ensures.stays.client_unit;
        sees = serve_sees (slice_index_or pairs c.args.unit c.index-pairs-unit.result) c.serve.new.self c.serve.ensures.leaves.shows.window c.serve.ensures.leaves.client.sent;
        own = c.serve.ensures.leaves.owner;
        server = c.serve.ensures.stays.server;
        values = c.serve.ensures.leaves.values;
        puts = more_served (slice_index_or pairs c.args.unit c.index-pairs-unit.result) c.serve.new.self c.serve.ensures.leaves.client.sent c.serve.ensures.leaves.client.full c.serve.ensures.leaves.client.served;
        calm = served_calm (slice_index_or pairs c.args.unit c.index-pairs-unit.result) c.serve.new.self c.serve.ensures.leaves.client.sent c.serve.ensures.leaves.client.kept;
      });
  stays =
      let pairs = c.args.pairs.now in
      frees_set _ pairs c.args.unit (slice_index_or pairs c.args.unit c.index-pairs-unit.result) c.serve.new.self (slice_get-get_or pairs c.args.unit c.index-pairs-unit.result c.requires.there)
      (λ always. c.serve.ensures.leaves.client.unfreed);
}

pub returns-clause-aside : goal.returns-clause-aside
returns-clause-aside g c = λ k apart.
    let beside = c.serve.ensures.beside k apart in
    record { unit = beside.unit; pair = get_set_other c.args.pairs.now c.args.unit k c.serve.new.self apart; books = beside.books }

pub returns-clause-clients : goal.returns-clause-clients
returns-clause-clients g c =
    let server = c.args.server.now in
    let server' = c.serve.new.server in
    let pairs = c.args.pairs.now in
    let books = books_in server in
    let books' = books_in server' in
    let old = slice_index_or pairs c.args.unit c.index-pairs-unit.result in
    ok_then c.serve.result (ServesClients server.partition books books' c.args.unit old c.serve.new.self)
    (ServesClientsAt server.partition books books' pairs (slice_set pairs c.args.unit c.serve.new.self) c.args.unit)
    (λ serves.
    let found = slice_get-get_or pairs c.args.unit c.index-pairs-unit.result c.requires.there in
    record {
      plain = served_at server.partition books books' pairs c.args.unit old c.serve.new.self c.requires.there found serves.plain;
      own = served_own_at server.partition books books' pairs c.args.unit old c.serve.new.self c.requires.there found serves.own;
    })
    c.serve.ensures.clients

pub returns-clause-idles : goal.returns-clause-idles
returns-clause-idles g c =
    let server = c.args.server.now in
    let server' = c.serve.new.server in
    let pairs = c.args.pairs.now in
    let books = books_in server in
    let books' = books_in server' in
    let old = slice_index_or pairs c.args.unit c.index-pairs-unit.result in
    ok_more c.serve.result _ _
    (λ moved idles is. idled_at server.partition books books' pairs c.args.unit old (slice_get-get_or pairs c.args.unit c.index-pairs-unit.result c.requires.there) (idles is))
    c.serve.ensures.idles
