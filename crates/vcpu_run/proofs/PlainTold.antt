-- What a gathered trace says of plain clients: each did exactly what its script says.
use Rattle.std.proofs.Common.{◌≡◌, ◌≢◌, ◌∙◌, inl, inr, ℕ, ◌≤◌, Bool, true, All, List, [], ◌∷◌, IsSomeAnd, drop, filter, get_or, length, map, slice_get, refl, sym, ap, subst, arith, false, Contains, Some}
use Rattle.std.proofs.lemmas.List.{drop_all, get_or-map, length-map}
use Rattle.std.proofs.lemmas.List.Elements.{All-nil}
use Rattle.std.specs.List.{AllPairs}
use Rattle.vio_num.specs.declared.entry.Entry.{Entry}
use Rattle.vio_num.specs.declared.history.Grant.{Grant}
use Rattle.vio_num.specs.declared.history.Served.{Served}
use Rattle.vio_num.specs.declared.names.UnitId.{UnitId}
use Rattle.crq_session.specs.Answered.{received_now, taken_now}
use Rattle.crq_ring.specs.Pipe.{IsLawfulPipe}
use Rattle.crq_ring.specs.declared.rows.PipeRow.{PipeRow}
use Rattle.crq_session.specs.PlainState.{end_of, side_of}
use Rattle.tce_window.specs.PortState.{PortState}
use Rattle.tce_window.specs.Strokes.{AllWithin}
use Rattle.tce_window.specs.Window.{strokes_at}
use Rattle.rdma_copy.specs.declared.copy.CopyRecord.{CopyRecord}
use Rattle.block_server.specs.Causes.{Told, anything}
use Rattle.block_server.specs.Makers.{same_unit}
use Rattle.block_server.specs.RowsOn.{row_tag}
use Rattle.block_server.specs.Talk.{HearsAll, Word, talk_of, to_come}
use Rattle.block_server.specs.Written.{IsAnswerWritten}
use Rattle.block_server.specs.declared.unit.Unit.{Unit}
use Rattle.boot_text.specs.declared.plan.Partition.{Partition}
use Rattle.lan_script.specs.Units.{LanValue}
use Rattle.lan_script.specs.declared.rows.LanRows.{LanRows}
use Rattle.vcpu_run.specs.Answered.{AreBegun}
use Rattle.vcpu_run.specs.AnswersTaken.{answers_to}
use Rattle.vcpu_run.specs.Credited.{Ended}
use Rattle.vcpu_run.specs.Gathered.{HasLawfulQueue, HasLawfulWindow, trace_of}
use Rattle.vcpu_run.specs.LinesShow.{seen_at}
use Rattle.vcpu_run.specs.Links.{IsEmptied, link_state}
use Rattle.vcpu_run.specs.Machines.{AreScripts, IsOfPlan, server_id}
use Rattle.vcpu_run.specs.PlainBorne.{AreBorne, rows_by}
use Rattle.vcpu_run.specs.PlainClients.{FitsAnswers, HasAnswerRow, HaveOtherTags, IsPlainClient, PlainClientsAreScripted, granted_in, grants_of, IsDataOfRow, strokes_of}
use Rattle.vcpu_run.specs.PlainNoted.{AreAnswers, AreAskedFor, IsLaidAnswer}
use Rattle.vcpu_run.specs.PlainPairs.{EndByClient, IsPlainPair, IsReadyPair, ServerBooks, between_of, books_of}
use Rattle.vcpu_run.specs.PlainRows.{IsAnswerEntry, IsAnswerFor, tags_by}
use Rattle.vcpu_run.specs.PlainRuns.{ArePlain}
use Rattle.vcpu_run.specs.PlainScripts.{StandsPlainly, told_in}
use Rattle.vcpu_run.specs.Ports.{unit_of}
use Rattle.vcpu_run.specs.Received.{AreAtRest}
use Rattle.vcpu_run.specs.Replay.{IsReplayed, before_lines}
use Rattle.vcpu_run.specs.ScriptTold.{AreTold, own_of}
use Rattle.vcpu_run.specs.Shown.{pages_at}
use Rattle.vcpu_run.specs.TakenScripts.{IsTaken, PairTaken}
use Rattle.vcpu_run.specs.Units.{seats_of}
use Rattle.vcpu_run.specs.declared.driver.Driver.{Driver}
use Rattle.vcpu_run.specs.declared.pair.Pair.{Pair}
use Rattle.vcpu_run.specs.declared.script.Script.{Script}
use Rattle.vcpu_run.proofs.AnswersFound.{client_answers, client_entries}
use Rattle.vcpu_run.proofs.Driving.{some_is}
use Rattle.vcpu_run.proofs.EndPairs.{home_named, pair_laws, script_found, script_tells, taken_at}
use Rattle.vcpu_run.proofs.Listed.{held}
use Rattle.vcpu_run.proofs.PlainAnswerRows.{answer_rows}
use Rattle.vcpu_run.proofs.PlainDataBorne.{bear_all}
use Rattle.vcpu_run.proofs.PlainDataTold.{data_of_rows}
use Rattle.vcpu_run.proofs.PlainFitting.{entries_fit}
use Rattle.vcpu_run.proofs.PlainSums.{BearAll}
use Rattle.vcpu_run.proofs.RowCopies.{written_each}
use Rattle.vcpu_run.proofs.RefusalsTold.{client_pages, trace_sees}
use Rattle.vcpu_run.proofs.Settling.{emptied}
use Rattle.vcpu_run.proofs.PlainTellings.{lines_move}
use Rattle.vcpu_run.specs.PlainRejected.{TellsOf}
use Rattle.tce_window.specs.PlainPort.{known_of}
use Rattle.vcpu_run.specs.Pairs.{AreOfOneHome}
use Rattle.vcpu_run.specs.PlainTalk.{AreSaidThere}

-- ---- no two rows of the server unit have one tag

tags_apart : (rows : List Served) → AllPairs (λ a b. a ≢ b) (map row_tag rows) → AllPairs HaveOtherTags rows
tags_apart rows pairs i j d less within same =
    let first : get_or (map row_tag rows) i (row_tag d) ≡ row_tag (get_or rows i d) = get_or-map row_tag rows i d (row_tag d) (omega (arith, less, within)) in
    let next : get_or (map row_tag rows) j (row_tag d) ≡ row_tag (get_or rows j d) = get_or-map row_tag rows j d (row_tag d) within in
    pairs i j (row_tag d) less (omega (arith, within, length-map rows row_tag)) (first ∙ (same ∙ sym next))

none_apart : (tags : List ℕ) → tags ≡ [] → AllPairs (λ a b. a ≢ b) tags
none_apart tags none i j d less within same =
    let few : length tags ≡ 0 = ap length none in
    omega (arith, within, few)

-- ---- nothing is to come once all was taken

no_words : (window : PortState) (entries : List Entry) (words : List Word) → entries ≡ [] → AreSaidThere window entries words → words ≡ []
no_words window entries [] none says = refl
no_words window entries (word ∷ words) none says = absurd (subst (λ (list : List Entry). AreSaidThere window list (word ∷ words)) none says)

emptied_come : (pair : Pair) → IsEmptied (link_state pair.link).server → to_come (end_of [] pair.link true) ≡ []
emptied_come pair empty =
    let same : received_now (end_of [] pair.link true) ≡ taken_now (end_of [] pair.link true) = empty.taken in
    ap (drop (length (taken_now (end_of [] pair.link true)))) same ∙ drop_all (length (taken_now (end_of [] pair.link true))) (taken_now (end_of [] pair.link true)) (omega arith)

-- ---- its logins and its rows

-- What a pair has of its server unit: no fewer logins were granted than its client was told of, they end by the client alone, and no two rows
-- have one tag.
record HasBooks (told : List Ended) (unit : UnitId) (lines : List Grant) (rows : List Served) : Type 0 where
  granted : granted_in told ≤ grants_of unit lines
  ends : EndByClient unit lines
  tags : AllPairs HaveOtherTags (filter (λ row. same_unit row.unit unit) rows)

books_plain : (granted : ℕ) (told : List Ended) (home k : ℕ) (books : ServerBooks) (words : List Word) (pair : Pair) → IsEmptied (link_state pair.link).server → IsPlainPair granted told home books k words pair
    → HasBooks told (server_id home k) books.lines books.rows
books_plain granted told home k books words pair empty is =
    let none : words ≡ [] = no_words (between_of is.unit is.driver pair).window (to_come (end_of [] pair.link true)) words (emptied_come pair empty) is.talks.calm.said in
    let heard : HearsAll (talk_of is.unit) (length (taken_now (end_of [] pair.link true))) words (talk_of is.unit) =
    subst (λ (list : List Word). HearsAll (talk_of is.unit) (length (taken_now (end_of [] pair.link true))) list (talk_of is.unit)) (sym none) refl in
    record { granted = omega (arith, is.owed); ends = is.lines; tags = tags_apart (filter (λ (row : Served). same_unit row.unit (server_id home k)) books.rows) (is.tags (talk_of is.unit) heard).apart }

books_ready : (granted : ℕ) (told : List Ended) (home k : ℕ) (books : ServerBooks) (pair : Pair) → IsEmptied (link_state pair.link).server → IsReadyPair granted told home books k pair
    → HasBooks told (server_id home k) books.lines books.rows
books_ready granted told home k books pair empty (inl (words, is)) = books_plain granted told home k books words pair empty is
books_ready granted told home k books pair empty (inr new) = record {
  granted = new.owed;
  ends = new.lines;
  tags = tags_apart (filter (λ (row : Served). same_unit row.unit (server_id home k)) books.rows) (none_apart (tags_by (server_id home k) books.rows) new.tags);
}

-- ---- what was put into the client's queue, and what its lines say of data

-- The pair has a client; what was put into its queue as an answer to a command with data-in has a row of this unit; no two of those rows
-- have one tag; and what the unit laid behind the slots bears data-in of them. What it laid in the slots answers them, they ask for as much
-- as the client's commands, and what the client noted was laid there.
record HasAnswersFor (unit : UnitId) (rows : List Served) (pair : Pair) : Type 0 where
  driver : Driver
  driver_is : pair.driver ≡ Some driver
  put : All (λ (row : PipeRow). IsAnswerFor (tags_by unit rows) driver.client.rows row.entry) (side_of pair.link false).queue.sent
  entries : All (λ (row : PipeRow). IsAnswerEntry (rows_by unit rows) row.entry) (side_of pair.link false).queue.sent
  apart : AllPairs (λ a b. a ≢ b) (tags_by unit rows)
  borne : AreBorne (rows_by unit rows) unit driver.client.rows (strokes_at pair.window.pages)
  answered : AreAnswers (rows_by unit rows) pair.window.unit (known_of pair.window).strokes
  sized : AreAskedFor (rows_by unit rows) driver.client.rows
  noted : All (IsLaidAnswer pair.window.unit (known_of pair.window).strokes) driver.answers.items

answers_ready : (granted : ℕ) (told : List Ended) (home k : ℕ) (books : ServerBooks) (pair : Pair) → IsEmptied (link_state pair.link).server → IsReadyPair granted told home books k pair
    → HasAnswersFor (server_id home k) books.rows pair
answers_ready granted told home k books pair empty (inl (words, is)) =
    let none : words ≡ [] = no_words (between_of is.unit is.driver pair).window (to_come (end_of [] pair.link true)) words (emptied_come pair empty) is.talks.calm.said in
    let heard : HearsAll (talk_of is.unit) (length (taken_now (end_of [] pair.link true))) words (talk_of is.unit) =
    subst (λ (list : List Word). HearsAll (talk_of is.unit) (length (taken_now (end_of [] pair.link true))) list (talk_of is.unit)) (sym none) refl in
    record {
      driver = is.driver;
      driver_is = is.driver_is;
      put = (is.answers (talk_of is.unit) heard).put;
      entries = (is.entries (talk_of is.unit) heard).put;
      apart = (is.tags (talk_of is.unit) heard).apart;
      borne = is.borne;
      answered = is.answered;
      sized = is.sized;
      noted = is.noted;
    }
answers_ready granted told home k books pair empty (inr new) = record {
  driver = new.driver;
  driver_is = new.driver_is;
  put = subst (All (λ (row : PipeRow). IsAnswerFor (tags_by (server_id home k) books.rows) new.driver.client.rows row.entry)) (sym new.sent)
      (All-nil (λ (row : PipeRow). IsAnswerFor (tags_by (server_id home k) books.rows) new.driver.client.rows row.entry));
  entries = subst (All (λ (row : PipeRow). IsAnswerEntry (rows_by (server_id home k) books.rows) row.entry)) (sym new.sent)
      (All-nil (λ (row : PipeRow). IsAnswerEntry (rows_by (server_id home k) books.rows) row.entry));
  apart = none_apart (tags_by (server_id home k) books.rows) new.tags;
  borne = new.borne;
  answered = new.answered;
  sized = new.sized;
  noted = new.noted;
}

data_told : (unit : UnitId) (rows : List Served) (own : List Ended) (pair : Pair) (granted pages size : ℕ) (told : Told → Bool) → pair.server ≡ unit → AllWithin (strokes_at pair.window.pages)
    → IsLawfulPipe (side_of pair.link false).queue → HasAnswersFor unit rows pair → All (IsAnswerWritten size told) rows → PairTaken own pair → IsReplayed granted pages before_lines own
    → (e : Ended) → Contains own e → IsDataOfRow rows unit e
data_told unit rows own pair granted pages size told same within laws has written taken replayed =
    let is : IsTaken own pair has.driver = taken_at own pair pair.driver has.driver has.driver_is taken in
    data_of_rows (seen_at pair) pair.server has.driver.client has.driver.answers.items (side_of pair.link false).queue own rows unit pair.window.unit (known_of pair.window).strokes granted pages
    (record { laws = laws; order = is.given.order; kept = is.kept; reads = is.reads }) has.put
    has.apart
    (record { answered = has.answered; sized = has.sized; noted = has.noted; told = told; size = size; written = written }) replayed
    (λ tag len range row inward behind alone. subst (λ (id : UnitId). BearAll (seen_at pair) (record { who = id; mark = tag }) range row.inn) (sym same)
    (bear_all pair unit (rows_by unit rows) has.driver.client.rows tag len range row (record { within = within; borne = has.borne }) alone inward behind))

-- ---- what the answers of the rows say

-- Each that has one is in form, whatever the units were told.
pub rows_written : (copies : List CopyRecord) (grants : List Grant) (history : List Served) (pairs : List Pair) (scripts : List Script) → (rests : AreAtRest copies grants history pairs scripts)
    → All (IsAnswerWritten rests.size anything) history
rows_written copies grants history pairs scripts rests =
    subst (All (IsAnswerWritten rests.size anything)) rests.rows_are
    (written_each rests.size anything rests.records.history.items (rests.heard.all anything (λ k pair there news heard. refl)).written)

-- ---- the logins that were rejected

laid_ready : (granted : ℕ) (told : List Ended) (home k : ℕ) (books : ServerBooks) (pair : Pair) → IsReadyPair granted told home books k pair
    → All (TellsOf (server_id home k) (known_of pair.window).strokes) told
laid_ready granted told home k books pair (inl (words, is)) = subst (λ (unit : UnitId). All (TellsOf unit (known_of pair.window).strokes) told) is.id is.laid
laid_ready granted told home k books pair (inr new) = subst (λ (unit : UnitId). All (TellsOf unit (known_of pair.window).strokes) told) new.id new.laid

-- ---- the trace

pub scripted_are : (pairs : List Pair) (scripts : List Script) (lan : LanValue) (lan_rows : LanRows) (history : List Served) (grants : List Grant) (copies : List CopyRecord) (partitions : List Partition)
    → AreOfOneHome copies pairs → AreScripts pairs lan.seats scripts → All (HasLawfulQueue pairs) (seats_of scripts) → All (HasLawfulWindow pairs lan) (seats_of scripts) → IsOfPlan partitions pairs scripts lan.seats → AreTold pairs scripts
    → AreAtRest copies grants history pairs scripts → (granted home : ℕ) (list : List Unit) → ArePlain granted home (books_of list grants history) pairs scripts
    → PlainClientsAreScripted granted partitions (trace_of pairs scripts lan lan_rows history grants copies)
scripted_are pairs scripts lan lan_rows history grants copies partitions one_home are lawful windows of_plan told rests granted home list plain client server is plainly =
    let p = client.partition in
    let u = client.unit in
    let k = server.unit in
    let at = script_found partitions pairs scripts lan client server of_plan is in
    let script = at.script in
    let own = are p script at.there in
    let plain_lines : IsPlainClient u script.lines.now = subst (IsPlainClient u) at.lines plainly in
    let stands = plain p u k script at.there (record { sits = at.sits; plain = plain_lines }) in
    let has : Pair → Type 0 = λ pair. IsSomeAnd pair.driver (λ driver. driver.unit ≡ unit_of script.partition u) in
    let pair = held has (slice_get pairs k) (own.script_is.seats u k at.sits) in
    let size : pages_at partitions (unit_of script.partition u) ≡ length pair.0.window.pages = client_pages partitions k (unit_of script.partition u) pair.0 (of_plan.pairs_are.each k pair.0 pair.1) pair.2 in
    let pages : pages_at partitions client ≡ length pair.0.window.pages = ap (λ n. pages_at partitions (unit_of n u)) (sym own.number) ∙ size in
    let stood = held (StandsPlainly granted u script) (slice_get pairs k) stands.stands in
    let replayed : IsReplayed granted (length pair.0.window.pages) before_lines (own_of u script) =
    subst (λ (x : Pair). IsReplayed granted (length x.window.pages) before_lines (own_of u script)) (some_is stood.0 pair.0 (sym stood.1 ∙ pair.1)) stood.2.replayed in
    let name : server_id home k ≡ server = home_named partitions pairs scripts lan client server home p of_plan is stands.behind in
    let ready = held (IsReadyPair granted (told_in u script) home (books_of list grants history) k) (slice_get pairs k) stands.ready in
    let laws = pair_laws partitions pairs scripts lan client server ready.0 are lawful windows of_plan is ready.1 in
    let empty = emptied rests.units pairs scripts lan.seats partitions server ready.0 are lawful of_plan rests.idle (of_plan.sound.served client server is) ready.1 laws.same in
    let books : HasBooks (told_in u script) server grants history =
    subst (λ (unit : UnitId). HasBooks (told_in u script) unit grants history) name (books_ready granted (told_in u script) home k (books_of list grants history) ready.0 empty.0 ready.2) in
    let taken : PairTaken (own_of u script) ready.0 = (told p script at.there (record { others = stands.others; no_call = plain_lines.no_call })).taken.kept u k ready.0 at.sits ready.1 in
    let answers : HasAnswersFor server history ready.0 =
    subst (λ (unit : UnitId). HasAnswersFor unit history ready.0) name (answers_ready granted (told_in u script) home k (books_of list grants history) ready.0 empty.0 ready.2) in
    let trace = trace_of pairs scripts lan lan_rows history grants copies in
    let noted : All (HasAnswerRow history server) (answers_to trace client) =
    subst (All (HasAnswerRow history server))
    (sym (client_answers partitions pairs scripts lan lan_rows history grants copies client server ready.0 answers.driver are of_plan is ready.1 answers.driver_is))
    (answer_rows server ready.0.window.unit client history (known_of ready.0.window).strokes answers.driver.answers.items answers.answered answers.noted) in
    let begun : AreBegun (side_of ready.0.link false).queue.taken = (taken_at (own_of u script) ready.0 ready.0.driver answers.driver answers.driver_is taken).given.begun in
    let sees = trace_sees partitions pairs scripts lan lan_rows history grants copies client server ready.0 one_home are lawful windows of_plan is ready.1 in
    record {
      rejected = script_tells (All (TellsOf server (strokes_of trace client))) partitions pairs scripts lan p u script are at.there at.lines
          (lines_move (server_id home k) server (known_of ready.0.window).strokes (strokes_of trace client) (sym name) sees.strokes (told_in u script)
          (laid_ready granted (told_in u script) home k (books_of list grants history) ready.0 ready.2));
      records = script_tells (IsReplayed granted (pages_at partitions client) before_lines) partitions pairs scripts lan p u script are at.there at.lines
          (subst (λ n. IsReplayed granted n before_lines (own_of u script)) (sym pages) replayed);
      granted = script_tells (λ (ended : List Ended). granted_in ended ≤ grants_of server grants) partitions pairs scripts lan p u script are at.there at.lines books.granted;
      logins = books.ends;
      tags = books.tags;
      reads = script_tells (λ (ended : List Ended). (e : Ended) → Contains ended e → IsDataOfRow history server e) partitions pairs scripts lan p u script are at.there at.lines
          (data_told server history (own_of u script) ready.0 granted (length pair.0.window.pages) rests.size anything laws.same laws.window.within laws.queue answers
          (rows_written copies grants history pairs scripts rests) taken replayed);
      answers = noted;
      entries = subst (All (λ (row : PipeRow). FitsAnswers (answers_to trace client) row.entry))
          (sym (client_entries partitions pairs scripts lan lan_rows history grants copies client server ready.0 are of_plan is ready.1 laws.queue begun))
          (entries_fit server history (answers_to trace client) rests.size anything (side_of ready.0.link false).queue laws.queue noted (rows_written copies grants history pairs scripts rests) answers.entries);
    }
