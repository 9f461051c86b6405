-- The trace is the one of the machine's parts, which keeps the law.
use Rattle.vio_trace.specs.Form.{IsInOrder}
use Rattle.vcpu_run.specs.Gathered.{trace_of}
use Rattle.vcpu_run.proofs.CallsGathered.{calls_are}
use Rattle.vcpu_run.proofs.Copied.{copies_are}
use Rattle.vcpu_run.proofs.Fetching.{entries_are_fetched, ok_pair, requests_are_served}
use Rattle.vcpu_run.proofs.FramesCarried.{ports_keep}
use Rattle.vcpu_run.proofs.Freed.{few_seats, free_pairs, from_rows}
use Rattle.vcpu_run.proofs.GivenAnswers.{answers_are_given}
use Rattle.vcpu_run.proofs.LastHanded.{last_are_handed_over}
use Rattle.vcpu_run.proofs.LoginsShown.{logins_are_answered, logins_are_sent, logins_are_shown}
use Rattle.vcpu_run.proofs.Ordering.{order_is}
use Rattle.vcpu_run.proofs.PortsTold.{from_counts, told_are}
use Rattle.vcpu_run.proofs.QueueLaws.{queues_are}
use Rattle.vcpu_run.proofs.ClientsLogged.{clients_logged}
use Rattle.vcpu_run.proofs.RecordLaws.{credits_are, records_are}
use Rattle.vcpu_run.proofs.RefusalsTold.{refusals_are}
use Rattle.vcpu_run.proofs.SentTo.{answers_are}
use Rattle.vcpu_run.proofs.Settling.{handed_are, settled_are}
use Rattle.std.proofs.Common.{refl}
use Rattle.vcpu_run.proofs.ToldAll.{shown_all}
use Rattle.vcpu_run.proofs.ToldRows.{lines_are_explained, rows_are_copied, rows_are_shown}
use Rattle.vcpu_run.proofs.OwnTold.{own_are}
use Rattle.vcpu_run.proofs.PlainTold.{scripted_are}
use Rattle.vcpu_run.proofs.gather.gather.Goals as goal

pub rows_of-requires : goal.rows_of-requires
rows_of-requires c = record {
  free = free_pairs c.args.copies.items c.args.pairs.items c.requires.pairs;
  few = few_seats c.args.pairs.items c.args.lan.seats c.args.scripts.items c.requires.scripts;
}

pub returns-clause-order : goal.returns-clause-order
returns-clause-order c =
    from_rows c.args.pairs.items c.args.scripts.items c.args.lan c.args.history.items c.args.grants.items c.args.copies.items c.rows_of.result _ IsInOrder c.rows_of.ensures.trace c.rows_of.ensures.windows
    (λ rows keeps ordered lawful. order_is c.args.pairs.items c.args.scripts.items c.args.lan rows c.args.history.items c.args.grants.items c.args.copies.items c.requires.pairs c.requires.scripts ordered lawful)

pub returns-clause-lawful : goal.returns-clause-lawful
returns-clause-lawful c =
    from_rows c.args.pairs.items c.args.scripts.items c.args.lan c.args.history.items c.args.grants.items c.args.copies.items c.rows_of.result _ _ c.rows_of.ensures.trace
    (ok_pair c.rows_of.result _ _ c.rows_of.ensures.queues c.rows_of.ensures.windows)
    (λ rows keeps ordered lawful partitions of_plan.
    record {
      queues = queues_are c.args.pairs.items c.args.scripts.items c.args.lan rows c.args.history.items c.args.grants.items c.args.copies.items partitions c.requires.scripts lawful.0 of_plan;
      copies = copies_are c.args.pairs.items c.args.scripts.items c.args.lan rows c.args.history.items c.args.grants.items c.args.copies.items partitions c.requires.pairs c.requires.scripts lawful.1 of_plan;
      ports = ports_keep c.args.pairs.items c.args.scripts.items c.args.lan rows c.args.history.items c.args.grants.items c.args.copies.items partitions c.requires.pairs c.requires.scripts lawful.1 of_plan keeps;
      shown = shown_all c.args.pairs.items c.args.scripts.items c.args.lan rows c.args.history.items c.args.grants.items c.args.copies.items partitions
          c.requires.pairs c.requires.scripts lawful.1 of_plan;
    })

pub returns-clause-lines : goal.returns-clause-lines
returns-clause-lines c =
    from_counts c.args.pairs.items c.args.scripts.items c.args.lan c.args.history.items c.args.grants.items c.args.copies.items c.rows_of.result _ _ c.rows_of.ensures.trace
    (ok_pair c.rows_of.result _ _ c.rows_of.ensures.queues c.rows_of.ensures.windows)
    (λ rows counted lawful partitions of_plan.
    record {
      records = λ over. records_are c.args.pairs.items c.args.scripts.items c.args.lan rows c.args.history.items c.args.grants.items c.args.copies.items partitions c.requires.scripts over of_plan;
      credits = λ credited. credits_are c.args.pairs.items c.args.scripts.items c.args.lan rows c.args.history.items c.args.grants.items c.args.copies.items partitions c.requires.scripts of_plan credited;
      logged = λ over credited. clients_logged c.args.pairs.items c.args.scripts.items c.args.lan rows c.args.history.items c.args.grants.items c.args.copies.items partitions c.requires.pairs c.requires.scripts lawful.1 of_plan over credited;
      called = λ ends credited. calls_are c.args.pairs.items c.args.scripts.items c.args.lan rows c.args.history.items c.args.grants.items c.args.copies.items partitions
          c.requires.pairs c.requires.scripts lawful.0 lawful.1 of_plan credited ends.told;
      told = λ over tells. told_are c.args.pairs.items c.args.scripts.items c.args.lan rows c.args.history.items c.args.grants.items c.args.copies.items partitions
          c.requires.pairs c.requires.scripts of_plan over tells counted lawful.1;
    })

pub returns-clause-answers : goal.returns-clause-answers
returns-clause-answers c =
    from_rows c.args.pairs.items c.args.scripts.items c.args.lan c.args.history.items c.args.grants.items c.args.copies.items c.rows_of.result _ _ c.rows_of.ensures.trace c.rows_of.ensures.queues
    (λ rows keeps ordered lawful partitions of_plan answered. answers_are c.args.pairs.items c.args.scripts.items c.args.lan rows c.args.history.items c.args.grants.items c.args.copies.items partitions c.requires.scripts lawful of_plan answered)

pub returns-clause-rests : goal.returns-clause-rests
returns-clause-rests c =
    from_rows c.args.pairs.items c.args.scripts.items c.args.lan c.args.history.items c.args.grants.items c.args.copies.items c.rows_of.result _ _ c.rows_of.ensures.trace
    (ok_pair c.rows_of.result _ _ c.rows_of.ensures.queues c.rows_of.ensures.windows)
    (λ rows keeps ordered lawful partitions of_plan rests.
    let trace = trace_of c.args.pairs.items c.args.scripts.items c.args.lan rows c.args.history.items c.args.grants.items c.args.copies.items in
    let requests = requests_are_served c.args.pairs.items c.args.scripts.items c.args.lan rows c.args.history.items c.args.grants.items c.args.copies.items partitions c.requires.pairs c.requires.scripts lawful.0 lawful.1 of_plan rests in
    let shown = rows_are_shown c.args.pairs.items c.args.scripts.items c.args.lan rows c.args.history.items c.args.grants.items c.args.copies.items partitions c.requires.pairs c.requires.scripts lawful.0 lawful.1 of_plan rests in
    record {
      settled = settled_are c.args.pairs.items c.args.scripts.items c.args.lan rows c.args.history.items c.args.grants.items c.args.copies.items partitions rests.units c.requires.scripts lawful.0 of_plan rests.idle;
      handed = handed_are c.args.pairs.items c.args.scripts.items c.args.lan rows c.args.history.items c.args.grants.items c.args.copies.items partitions rests.units c.requires.scripts of_plan rests.idle rests.unfreed rests.over;
      intake = entries_are_fetched partitions trace requests;
      requests = requests;
      given = answers_are_given c.args.pairs.items c.args.scripts.items c.args.lan rows c.args.history.items c.args.grants.items c.args.copies.items partitions
          c.requires.pairs c.requires.scripts lawful.0 of_plan rests;
      copied = rows_are_copied partitions trace shown;
      explained = lines_are_explained partitions trace shown;
    })

pub returns-clause-logins : goal.returns-clause-logins
returns-clause-logins c =
    from_rows c.args.pairs.items c.args.scripts.items c.args.lan c.args.history.items c.args.grants.items c.args.copies.items c.rows_of.result _ _ c.rows_of.ensures.trace
    (ok_pair c.rows_of.result _ _ c.rows_of.ensures.queues c.rows_of.ensures.windows)
    (λ rows keeps ordered lawful partitions of_plan answered rests.
    let trace = trace_of c.args.pairs.items c.args.scripts.items c.args.lan rows c.args.history.items c.args.grants.items c.args.copies.items in
    let shown = logins_are_shown c.args.pairs.items c.args.scripts.items c.args.lan rows c.args.history.items c.args.grants.items c.args.copies.items partitions c.requires.pairs c.requires.scripts lawful.0 lawful.1 of_plan answered rests in
    record {
      whole = last_are_handed_over c.args.pairs.items c.args.scripts.items c.args.lan rows c.args.history.items c.args.grants.items c.args.copies.items partitions
          c.requires.pairs c.requires.scripts lawful.0 of_plan answered rests;
      logins = logins_are_sent partitions trace shown;
      dealt = logins_are_answered partitions trace shown;
    })

pub returns-clause-serves : goal.returns-clause-serves
returns-clause-serves c =
    from_rows c.args.pairs.items c.args.scripts.items c.args.lan c.args.history.items c.args.grants.items c.args.copies.items c.rows_of.result _ _ c.rows_of.ensures.trace c.rows_of.ensures.queues
    (λ rows keeps ordered lawful. refl)

pub returns-clause-refusals : goal.returns-clause-refusals
returns-clause-refusals c =
    from_rows c.args.pairs.items c.args.scripts.items c.args.lan c.args.history.items c.args.grants.items c.args.copies.items c.rows_of.result _ _ c.rows_of.ensures.trace
    (ok_pair c.rows_of.result _ _ c.rows_of.ensures.queues c.rows_of.ensures.windows)
    (λ rows keeps ordered lawful partitions of_plan over told rests. refusals_are c.args.pairs.items c.args.scripts.items c.args.lan rows c.args.history.items c.args.grants.items c.args.copies.items partitions
    c.requires.pairs c.requires.scripts lawful.0 lawful.1 of_plan over told rests)

pub returns-clause-clients : goal.returns-clause-clients
returns-clause-clients c =
    from_rows c.args.pairs.items c.args.scripts.items c.args.lan c.args.history.items c.args.grants.items c.args.copies.items c.rows_of.result _ _ c.rows_of.ensures.trace
    (ok_pair c.rows_of.result _ _ c.rows_of.ensures.queues c.rows_of.ensures.windows)
    (λ rows keeps ordered lawful partitions of_plan told rests granted home units clients. record {
      scripted = scripted_are c.args.pairs.items c.args.scripts.items c.args.lan rows c.args.history.items c.args.grants.items c.args.copies.items partitions
          c.requires.pairs c.requires.scripts lawful.0 lawful.1 of_plan told rests granted home units clients.plain;
      own = own_are c.args.pairs.items c.args.scripts.items c.args.lan rows c.args.history.items c.args.grants.items c.args.copies.items partitions
          c.requires.pairs c.requires.scripts lawful.0 lawful.1 of_plan told rests granted home units clients.own;
    })
