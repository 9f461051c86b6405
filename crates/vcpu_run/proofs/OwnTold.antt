-- What a gathered trace says of own clients: what each tells is so.
use Rattle.std.proofs.Common.{◌≡◌, ◌⊎◌, inl, inr, ℕ, ◌≤◌, All, Bool, false, List, Option, Some, slice_get, refl, sym, subst, arith}
use Rattle.vio_num.specs.declared.history.Grant.{Grant}
use Rattle.vio_num.specs.declared.history.Served.{Served}
use Rattle.vio_num.specs.declared.names.UnitId.{UnitId}
use Rattle.rdma_copy.specs.declared.copy.CopyRecord.{CopyRecord}
use Rattle.crq_ring.specs.declared.rows.PipeRow.{PipeRow}
use Rattle.crq_session.specs.PlainState.{side_of}
use Rattle.vio_trace.specs.declared.rows.AnswerRow.{AnswerRow}
use Rattle.tce_window.specs.PlainPort.{known_of}
use Rattle.block_server.specs.Causes.{anything}
use Rattle.block_server.specs.Talk.{Word}
use Rattle.block_server.specs.Written.{IsAnswerWritten}
use Rattle.block_server.specs.declared.unit.Unit.{Unit}
use Rattle.boot_text.specs.declared.plan.Line.{Line}
use Rattle.boot_text.specs.declared.plan.Partition.{Partition}
use Rattle.lan_script.specs.Units.{LanValue}
use Rattle.lan_script.specs.declared.rows.LanRows.{LanRows}
use Rattle.vcpu_run.specs.AnswersTaken.{answers_to}
use Rattle.vcpu_run.specs.Credited.{Ended}
use Rattle.vcpu_run.specs.DataTold.{AreDataTold}
use Rattle.vcpu_run.specs.Gathered.{HasLawfulQueue, HasLawfulWindow, IsLawfulWindow, trace_of}
use Rattle.vcpu_run.specs.LinesShow.{seen_at}
use Rattle.vcpu_run.specs.Machines.{AreScripts, IsOfPlan, server_id}
use Rattle.vcpu_run.specs.ClientRuns.{AreClients}
use Rattle.vcpu_run.specs.OwnClients.{IsGrantOf, IsOwnClient, IsResponseTo, OwnClientsTell, TellsOwnData}
use Rattle.vcpu_run.specs.OwnCounts.{KeepsPair}
use Rattle.vcpu_run.specs.OwnKinds.{IsAskedTag}
use Rattle.vcpu_run.specs.OwnPairs.{IsOverOwn, IsOwnPair, IsReadyOwnPair, TalksOwn}
use Rattle.vcpu_run.specs.OwnRuns.{AreOwn}
use Rattle.vcpu_run.specs.Pairs.{AreOfOneHome}
use Rattle.vcpu_run.specs.PlainBorne.{rows_by}
use Rattle.vcpu_run.specs.PlainClients.{HasAnswerRow, granted_in, grants_of, strokes_of}
use Rattle.vcpu_run.specs.PlainPairs.{ServerBooks, books_of}
use Rattle.vcpu_run.specs.PlainRejected.{TellsOf}
use Rattle.vcpu_run.specs.PlainScripts.{told_in}
use Rattle.vcpu_run.specs.Received.{AreAtRest}
use Rattle.vcpu_run.specs.ScriptTold.{AreTold, own_of}
use Rattle.vcpu_run.specs.TakenScripts.{IsTaken}
use Rattle.vcpu_run.specs.Units.{seats_of}
use Rattle.vcpu_run.specs.declared.driver.Driver.{Driver}
use Rattle.vcpu_run.specs.declared.pair.Pair.{Pair}
use Rattle.vcpu_run.specs.declared.script.Progress.{Progress}
use Rattle.vcpu_run.specs.declared.script.Script.{Script}
use Rattle.vcpu_run.proofs.AnswersFound.{client_answers, client_entries}
use Rattle.vcpu_run.proofs.EndPairs.{home_named, pair_laws, script_found, script_tells, taken_at}
use Rattle.vcpu_run.proofs.Listed.{held}
use Rattle.vcpu_run.proofs.OwnDataTold.{own_reads}
use Rattle.vcpu_run.proofs.OwnEntries.{entries_respond, shown_asked}
use Rattle.vcpu_run.proofs.PlainAnswerRows.{answer_rows}
use Rattle.vcpu_run.proofs.PlainDataBorne.{bear_all}
use Rattle.vcpu_run.proofs.PlainTellings.{lines_move}
use Rattle.vcpu_run.proofs.PlainTold.{rows_written}
use Rattle.vcpu_run.proofs.RefusalsTold.{trace_sees}

-- ---- what is so of the pair, talk they on or not

-- The client of the pair was told of no more logins than were granted, each of this many requests, and its unit laid each rejection that was told;
-- what the unit laid behind the slots bears data-in of its rows, and what it laid in the slots answers them; they ask for as much as the client's
-- commands, whose data lie behind the driver's pages; and what the client noted was laid there.
record TellsAtEnd (grant : ℕ) (told : List Ended) (unit : UnitId) (lines : List Grant) (rows : List Served) (pair : Pair) : Type 0 where
  driver : Driver
  driver_is : pair.driver ≡ Some driver
  granted : granted_in told ≤ grants_of unit lines
  keeps : KeepsPair told unit (rows_by unit rows) driver pair
  numbers : All (λ e. IsGrantOf grant e.outcome) told

-- of no more logins was it told
granted_now : (granted : ℕ) (failed : Bool) (told : List Ended) (lines : List Line) (home u k : ℕ) (books : ServerBooks) (words : List Word) (line : Option Line) (p : Progress) (unit : Unit) (driver : Driver) (pair : Pair)
    → TalksOwn granted told lines home u k books words line p unit driver pair ⊎ IsOverOwn granted failed told home u k books line p unit driver pair
    → granted_in told ≤ grants_of (server_id home k) books.lines
granted_now granted failed told lines home u k books words line p unit driver pair (inl talks) = omega (arith, talks.owed)
granted_now granted failed told lines home u k books words line p unit driver pair (inr over) = omega (arith, over.owed)

tells_pair : (granted : ℕ) (failed : Bool) (told : List Ended) (lines : List Line) (home u k : ℕ) (books : ServerBooks) (words : List Word) (line : Option Line) (p : Progress) (pair : Pair)
    → IsOwnPair granted failed told lines home u k books words line p pair → TellsAtEnd granted told (server_id home k) books.lines books.rows pair
tells_pair granted failed told lines home u k books words line p pair is = record {
  driver = is.driver;
  driver_is = is.driver_is;
  granted = granted_now granted failed told lines home u k books words line p is.unit is.driver pair is.how;
  keeps = is.keeps;
  numbers = is.numbers;
}

tells_ready : (granted : ℕ) (told : List Ended) (lines : List Line) (home u k : ℕ) (books : ServerBooks) (line : Option Line) (p : Progress) (pair : Pair)
    → IsReadyOwnPair granted told lines home u k books line p pair → TellsAtEnd granted told (server_id home k) books.lines books.rows pair
tells_ready granted told lines home u k books line p pair (inl (failed, words, is)) = tells_pair granted failed told lines home u k books words line p pair is
tells_ready granted told lines home u k books line p pair (inr new) = record {
  driver = new.driver;
  driver_is = new.driver_is;
  granted = new.owed;
  keeps = new.keeps;
  numbers = new.numbers;
}

-- ---- what its lines say of data

end_reads : (grant : ℕ) (told : List Ended) (unit : UnitId) (lines : List Grant) (rows : List Served) (pair : Pair) (size : ℕ) → pair.server ≡ unit → IsLawfulWindow pair.window
    → (has : TellsAtEnd grant told unit lines rows pair) → IsTaken told pair has.driver → All (IsAnswerWritten size anything) rows → All (TellsOwnData rows unit) told
end_reads grant told unit lines rows pair size same law has is written =
    own_reads (seen_at pair) unit pair.window.unit has.driver.client.rows has.driver.answers.items told rows (known_of pair.window).strokes is.kept
    (subst (λ (id : UnitId). AreDataTold (seen_at pair) id told has.driver.answers.items) same is.reads)
    (record { answered = has.keeps.answered; sized = has.keeps.sized; noted = has.keeps.noted; told = anything; size = size; written = written })
    has.keeps.behind
    (λ tag len range row inward behind alone. bear_all pair unit (rows_by unit rows) has.driver.client.rows tag len range row (record { within = law.within; borne = has.keeps.borne }) alone inward behind)

-- ---- the trace

pub own_are : (pairs : List Pair) (scripts : List Script) (lan : LanValue) (lan_rows : LanRows) (history : List Served) (grants : List Grant) (copies : List CopyRecord) (partitions : List Partition)
    → AreOfOneHome copies pairs → AreScripts pairs lan.seats scripts → All (HasLawfulQueue pairs) (seats_of scripts) → All (HasLawfulWindow pairs lan) (seats_of scripts) → IsOfPlan partitions pairs scripts lan.seats → AreTold pairs scripts
    → AreAtRest copies grants history pairs scripts → (granted home : ℕ) (list : List Unit) → AreOwn granted home (books_of list grants history) pairs scripts
    → OwnClientsTell granted partitions (trace_of pairs scripts lan lan_rows history grants copies)
own_are pairs scripts lan lan_rows history grants copies partitions one_home are lawful windows of_plan told rests granted home list owns client server is own =
    let at = script_found partitions pairs scripts lan client server of_plan is in
    let script = at.script in
    let u = client.unit in
    let k = server.unit in
    let own_lines : IsOwnClient u script.lines.now = subst (IsOwnClient u) at.lines own in
    let stands = owns client.partition u k script at.there (record { sits = at.sits; own = own_lines }) in
    let name : server_id home k ≡ server = home_named partitions pairs scripts lan client server home client.partition of_plan is stands.behind in
    let ready = held (IsReadyOwnPair granted (told_in u script) script.lines.now home u k (books_of list grants history) (slice_get script.lines.now script.at) script.progress) (slice_get pairs k) stands.ready in
    let pair = ready.0 in
    let laws = pair_laws partitions pairs scripts lan client server pair are lawful windows of_plan is ready.1 in
    let has : TellsAtEnd granted (told_in u script) server grants history pair = subst (λ (unit : UnitId). TellsAtEnd granted (told_in u script) unit grants history pair) name
    (tells_ready granted (told_in u script) script.lines.now home u k (books_of list grants history) (slice_get script.lines.now script.at) script.progress pair ready.2) in
    let taken : IsTaken (own_of u script) pair has.driver = taken_at (own_of u script) pair pair.driver has.driver has.driver_is
    ((told client.partition script at.there (record { others = stands.others; no_call = own_lines.no_call })).taken.kept u k pair at.sits ready.1) in
    let trace = trace_of pairs scripts lan lan_rows history grants copies in
    let sees = trace_sees partitions pairs scripts lan lan_rows history grants copies client server pair one_home are lawful windows of_plan is ready.1 in
    record {
      granted = script_tells (λ (ended : List Ended). granted_in ended ≤ grants_of server grants) partitions pairs scripts lan client.partition u script are at.there at.lines has.granted;
      numbers = script_tells (All (λ (e : Ended). IsGrantOf granted e.outcome)) partitions pairs scripts lan client.partition u script are at.there at.lines has.numbers;
      rejected = script_tells (All (TellsOf server (strokes_of trace client))) partitions pairs scripts lan client.partition u script are at.there at.lines
          (lines_move server server (known_of pair.window).strokes (strokes_of trace client) refl sees.strokes (told_in u script) has.keeps.laid);
      reads = script_tells (All (TellsOwnData history server)) partitions pairs scripts lan client.partition u script are at.there at.lines
          (end_reads granted (told_in u script) server grants history pair rests.size laws.same laws.window has taken (rows_written copies grants history pairs scripts rests));
      answers = subst (All (HasAnswerRow history server))
          (sym (client_answers partitions pairs scripts lan lan_rows history grants copies client server pair has.driver are of_plan is ready.1 has.driver_is))
          (answer_rows server pair.window.unit client history (known_of pair.window).strokes has.driver.answers.items has.keeps.answered has.keeps.noted);
      entries = subst (All (λ (row : PipeRow). IsResponseTo (answers_to trace client) row.entry))
          (sym (client_entries partitions pairs scripts lan lan_rows history grants copies client server pair are of_plan is ready.1 laws.queue taken.given.begun))
          (entries_respond has.driver.client.rows (answers_to trace client) (side_of pair.link false).queue laws.queue
          (subst (All (λ (row : AnswerRow). IsAskedTag has.driver.client.rows row.tag))
          (sym (client_answers partitions pairs scripts lan lan_rows history grants copies client server pair has.driver are of_plan is ready.1 has.driver_is))
          (shown_asked has.driver.client.rows client has.driver.answers.items has.keeps.kinds.answered)) has.keeps.kinds.put);
    }

-- ---- the same books, pairs and scripts

pub clients_same : (granted home : ℕ) (list : List Unit) (lines lines' : List Grant) (rows rows' : List Served) (pairs pairs' : List Pair) (scripts scripts' : List Script)
    → lines' ≡ lines → rows' ≡ rows → pairs' ≡ pairs → scripts' ≡ scripts → AreClients granted home (books_of list lines rows) pairs scripts
    → AreClients granted home (books_of list lines' rows') pairs' scripts'
clients_same granted home list lines lines' rows rows' pairs pairs' scripts scripts' same_lines same_rows same_pairs same_scripts are =
    subst (λ (l : List Grant). AreClients granted home (books_of list l rows') pairs' scripts') (sym same_lines)
    (subst (λ (l : List Served). AreClients granted home (books_of list lines l) pairs' scripts') (sym same_rows)
    (subst (λ (l : List Pair). AreClients granted home (books_of list lines rows) l scripts') (sym same_pairs)
    (subst (λ (l : List Script). AreClients granted home (books_of list lines rows) pairs l) (sym same_scripts) are)))
