-- What goes by what the windows of server units told: over a turn of a unit, of another, of the clients, and before the first turn.
use Rattle.std.proofs.Common.{◌≡◌, ◌≢◌, ◌∙◌, ℕ, ◌==◌, ◌&&◌, Bool, true, false, List, [], Some, Contains, length, slice_get, slice_set, append-nil, refl, sym, ap, subst, eqb-true}
use Rattle.std.proofs.Math.Logic.{∥∥₁_elim, ∥∥₁_map, ∥∥₁_map₂, ∥∥₁_prop}
use Rattle.std.proofs.lemmas.Option.{IfSome_then, slice_get_within}
use native.Mathlib.Decide.{ℕ_discrete}
use Rattle.vio_num.specs.Words.{Begins}
use Rattle.vio_num.specs.declared.history.Grant.{Grant}
use Rattle.vio_num.specs.declared.names.UnitId.{UnitId}
use Rattle.crq_ring.specs.declared.rows.PipeRow.{PipeRow}
use Rattle.crq_session.specs.EndState.{EndState}
use Rattle.crq_session.specs.PlainState.{end_of, side_of}
use Rattle.tce_window.specs.PlainPort.{known_of}
use Rattle.tce_window.specs.Window.{WindowValue}
use Rattle.rdma_copy.proofs.Laws.{side_same}
use Rattle.rdma_copy.specs.Copies.{side_of as side_at}
use Rattle.rdma_copy.specs.declared.copy.CopyRecord.{CopyRecord}
use Rattle.block_server.proofs.RunRests.{runs_elsewhere, runs_unused}
use Rattle.block_server.proofs.RefusalLaws.{refusals_elsewhere}
use Rattle.block_server.specs.Answering.{OnlyRowsOf}
use Rattle.block_server.specs.Cargo.{AreIdle, HasRuns}
use Rattle.block_server.specs.Asked.{AskInOrder, AskedAt}
use Rattle.block_server.specs.Judges.{AreUnused}
use Rattle.block_server.specs.Rejecting.{LinesTellLogin}
use Rattle.block_server.specs.Causes.{Told, told_to}
use Rattle.block_server.specs.Dealt.{HasDealt, KnowsSends}
use Rattle.block_server.specs.Ready.{AgreesAt}
use Rattle.block_server.specs.Heard.{Tells}
use Rattle.block_server.specs.LoginAnswers.{login_answers}
use Rattle.block_server.specs.Makers.{same_unit}
use Rattle.block_server.specs.Moves.{data_copies}
use Rattle.block_server.specs.Receipts.{LinesMore, is_ended}
use Rattle.block_server.specs.Refusals.{AnswersInOrder, AreExplained, HasExplained, ExplainNone, basis_seen}
use Rattle.block_server.specs.Units.{AreInOrder}
use Rattle.block_server.specs.Written.{AreWritten}
use Rattle.block_server.specs.declared.records.Records.{Records}
use Rattle.block_server.specs.declared.unit.Unit.{Unit}
use Rattle.vcpu_run.specs.declared.pair.Pair.{Pair}
use Rattle.vcpu_run.specs.Heard.{AreHeard, AllGoBy, UnitGoesBy, ShowsMore, TellsPair, TellsPairs}
use Rattle.vcpu_run.specs.Gone.{HearsEvent}
use Rattle.vcpu_run.specs.LoginsSent.{GoInOrder}
use Rattle.vcpu_run.specs.Machines.{server_id}
use Rattle.vcpu_run.specs.News.{IsNth}
use Rattle.vcpu_run.specs.Pairs.{AreDriven, Drives}
use Rattle.vcpu_run.specs.Received.{AreNew}
use Rattle.vcpu_run.proofs.Driving.{get_set_other, get_set_same}
use Rattle.vcpu_run.proofs.Gone.{hears_driven}
use Rattle.vcpu_run.proofs.Hearings.{hearing_on, listed_on, nth_on, turn_shown}
use Rattle.vcpu_run.proofs.Keeping.{own_stays}
use Rattle.vcpu_run.proofs.Listed.{came_from, each_set, held, some_is}
use Rattle.vcpu_run.proofs.LoginsDealt.{IsClosedSo}
use Rattle.vcpu_run.proofs.LoginsPut.{order_elsewhere, order_fresh, order_heard, order_served}

-- WHAT IS TOLD -----------------------------------------------------------------------------------

-- what a pair shows later is told, and so is what it showed
pub tells_back : (told : Told → Bool) (copies copies' : List CopyRecord) (old new : Pair) → ShowsMore copies copies' old new → new.own.unit ≡ old.own.unit → TellsPair told copies' new → TellsPair told copies old
tells_back told copies copies' old new more name tells news is =
    subst (λ (unit : UnitId). told_to told unit news) name
    (tells news (hearing_on (Contains copies) (Contains copies') (IsNth old.own.unit copies) (IsNth new.own.unit copies') (side_at (known_of old.own)) (side_at (known_of new.own)) (side_at (known_of old.window)) (side_at (known_of new.window))
    (length old.window.pages) (length new.window.pages) (λ copy own. listed_on copies copies' more.made copy)
    (λ number copy is. subst (λ (unit : UnitId). IsNth unit copies' number copy) (sym name) (nth_on old.own.unit copies copies' more.made number copy is))
    more.own more.window (sym more.pages) news is))

tells_other : (told : Told → Bool) (copies copies' : List CopyRecord) (pair : Pair) → Begins copies copies' → TellsPair told copies' pair → TellsPair told copies pair
tells_other told copies copies' pair more =
    tells_back told copies copies' pair pair
    (record { made = more; own = side_same (side_at (known_of pair.own)); window = side_same (side_at (known_of pair.window)); pages = refl }) refl

-- what a turn's windows told is told
pub tells_turn : (told : Told → Bool) (copies copies' : List CopyRecord) (old new : Pair) → length new.window.pages ≡ length old.window.pages → new.own.unit ≡ old.own.unit → TellsPair told copies' new
    → Tells told old.own.unit false (known_of new.own) (known_of old.window) (known_of new.window) copies copies'
tells_turn told copies copies' old new pages name tells news is =
    subst (λ (unit : UnitId). told_to told unit news) name
    (tells news (turn_shown false (known_of new.own) (known_of old.window) (known_of new.window) copies copies' pages news is))

-- ONE UNIT ---------------------------------------------------------------------------------------

-- a unit's refusals, over another end of the same queue
pub refusals_seen : (told : Told → Bool) (units : List Unit) (n : ℕ) (unit : UnitId) (queue queue' : EndState) (since grants : List Grant) → queue'.last_session ≡ queue.last_session → queue'.taken ≡ queue.taken
    → HasExplained told units n unit queue since grants → HasExplained told units n unit queue' since grants
refusals_seen told units n unit queue queue' since grants session taken has =
    IfSome_then (slice_get units n) has (λ u is. subst (AreExplained told unit since) (same u) is)
  where
    same : (u : Unit) → basis_seen u queue grants ≡ basis_seen u queue' grants
    same u = λ i. record {
      session = sym session i;
      taken = sym taken i;
      waiting = u.waiting;
      pending = u.pending.items;
      ended = is_ended u.line;
      lines = grants;
    }

-- A turn of the unit, over an end of its link that sees the queue as the pair does.
pub told_served : {granted : ℕ} (told : Told → Bool) (units units' : List Unit) (records records' : Records) (copies copies' : List CopyRecord) (k : ℕ) (old new : Pair) (queue queue' : EndState)
    → queue.last_session ≡ (side_of old.link true).queue.session → queue.taken ≡ (side_of old.link true).queue.taken
    → queue'.last_session ≡ (side_of new.link true).queue.session → queue'.taken ≡ (side_of new.link true).queue.taken → new.own.unit ≡ old.own.unit
    → queue.sent ≡ (side_of old.link false).queue.sent → queue'.sent ≡ (side_of new.link false).queue.sent
    → Begins queue.taken queue'.taken → ∥ LinesMore old.own.unit granted records.grants.items records'.grants.items ∥₁
    → (HasRuns told units k (known_of old.own) copies records → HasRuns told units' k (known_of new.own) copies' records')
    → (HasExplained told units k old.own.unit queue [] records.grants.items → HasExplained told units' k old.own.unit queue' [] records'.grants.items)
    → (HasExplained told units k old.own.unit queue [] records.grants.items → (earlier : List AskedAt) → AskInOrder earlier units k queue
    → LinesTellLogin units k old.own.unit queue records.grants.items → (closed : ℕ → Bool) → KnowsSends (AgreesAt units k queue) false queue queue' closed
    → HasDealt told earlier closed units k old.own.unit queue → AnswersInOrder told earlier closed units' k old.own.unit queue queue' records records')
    → ((closed : Bool) → (closed ≡ true → HearsEvent queue) → IsClosedSo told units units' k old.own.unit queue queue' closed (HearsEvent queue'))
    → (HearsEvent (end_of [] old.link true) → HearsEvent queue) → (HearsEvent queue' → HearsEvent (end_of [] new.link true))
    → UnitGoesBy told units records copies k old → UnitGoesBy told units' records' copies' k new
told_served told units units' records records' copies copies' k old new queue queue' session taken session' taken' name sent sent' more lines carried refuses answers choose hears hears' is = record {
  cargo = carried is.cargo;
  explained = subst (λ (unit : UnitId). HasExplained told units' k unit (end_of [] new.link true) [] records'.grants.items) (sym name)
      (refusals_seen told units' k old.own.unit queue' (end_of [] new.link true) [] records'.grants.items (sym session') (sym taken')
      (refuses explained));
  logins = subst (λ (z : UnitId × ℕ × List PipeRow × List PipeRow). GoInOrder told units' k z.0 z.1 z.2 (login_answers z.3) records'.grants.items (HearsEvent (end_of [] new.link true)))
      (λ i. (sym name i, session' i, taken' i, sent' i))
      (order_heard told units' k old.own.unit queue'.last_session queue'.taken (login_answers queue'.sent) records'.grants.items (HearsEvent queue') (HearsEvent (end_of [] new.link true)) hears'
      (order_served told old.own.unit units units' k queue queue' records records' (HearsEvent queue) (HearsEvent queue') more lines (answers explained) choose
      (order_heard told units k old.own.unit queue.last_session queue.taken (login_answers queue.sent) records.grants.items (HearsEvent (end_of [] old.link true)) (HearsEvent queue) hears
      (subst (λ (z : ℕ × List PipeRow × List PipeRow). GoInOrder told units k old.own.unit z.0 z.1 (login_answers z.2) records.grants.items (HearsEvent (end_of [] old.link true)))
      (λ i. (sym session i, sym taken i, sym sent i)) is.logins))));
}
  where
    explained : HasExplained told units k old.own.unit queue [] records.grants.items
    explained = refusals_seen told units k old.own.unit (end_of [] old.link true) queue [] records.grants.items session taken is.explained

apart_is : (a b : UnitId) → a ≢ b → same_unit a b ≡ false
apart_is a b apart = at (a.partition == b.partition) refl (a.unit == b.unit) refl
  where
    at : (p : Bool) → (a.partition == b.partition) ≡ p → (u : Bool) → (a.unit == b.unit) ≡ u → (p && u) ≡ false
    at true p_is true u_is = absurd (apart (λ i. record { partition = eqb-true a.partition b.partition p_is i; unit = eqb-true a.unit b.unit u_is i }))
    at false p_is u u_is = refl
    at true p_is false u_is = refl

-- A turn of another unit: only rows and lines of its own came, or changed.
pub told_elsewhere : {granted : ℕ} (told : Told → Bool) (size partition : ℕ) (units units' : List Unit) (records records' : Records) (copies copies' : List CopyRecord) (k : ℕ) (unit : UnitId) (other : Pair)
    → unit ≢ other.own.unit → other.own.unit ≡ server_id partition k → slice_get units' k ≡ slice_get units k
    → data_copies other.own.unit copies' ≡ data_copies other.own.unit copies
    → ∥ LinesMore unit granted records.grants.items records'.grants.items ∥₁ → ∥ OnlyRowsOf unit records.history.items records'.history.items ∥₁
    → AreInOrder told size partition units records → UnitGoesBy told units records copies k other → ∥ UnitGoesBy told units' records' copies' k other ∥₁
told_elsewhere told size partition units units' records records' copies copies' k unit other apart name same counted lines rows order is =
    ∥∥₁_map₂ lines rows
    (λ lines rows. record {
      cargo = runs_elsewhere told units units' k (known_of other.own) copies copies' records records' unit same counted
          (λ u there e. apart (sym e ∙ (order k u there).id ∙ sym name)) rows is.cargo;
      explained = refusals_elsewhere told units units' k other.own.unit unit (end_of [] other.link true) (end_of [] other.link true) [] records.grants.items records'.grants.items
          same refl refl lines (apart_is unit other.own.unit apart) is.explained;
      logins = order_elsewhere told units units' k other.own.unit unit (side_of other.link true).queue.session (side_of other.link true).queue.taken
          (login_answers (side_of other.link false).queue.sent) records.grants.items records'.grants.items (HearsEvent (end_of [] other.link true)) same lines
          (apart_is unit other.own.unit apart) is.logins;
    })

-- ALL UNITS --------------------------------------------------------------------------------------

one_or_other : (j k : ℕ) (P : Type 0) → (j ≡ k → P) → (j ≢ k → P) → P
one_or_other j k P same apart = at (ℕ_discrete j k)
  where
    at : Dec (j ≡ k) → P
    at (yes e) = same e
    at (no e) = apart e

-- What the pairs show behind a turn of one of them is told, and so is what they showed before.
pub tells_before : (told : Told → Bool) (copies copies' : List CopyRecord) (pairs : List Pair) (n : ℕ) (old new : Pair) → slice_get pairs n ≡ Some old → ShowsMore copies copies' old new → new.own.unit ≡ old.own.unit
    → TellsPairs told copies' (slice_set pairs n new) → TellsPairs told copies pairs
tells_before told copies copies' pairs n old new there more name tells k pair found =
    one_or_other k n (TellsPair told copies pair)
    (λ same.
    subst (TellsPair told copies) (some_is old pair (sym there ∙ ap (slice_get pairs) (sym same) ∙ found))
    (tells_back told copies copies' old new more name (tells n new (get_set_same pairs n new (slice_get_within pairs n old there)))))
    (λ apart. tells_other told copies copies' pair more.made (tells k pair (get_set_other pairs n k new apart ∙ found)))

-- A turn of unit n.
pub heard_set : (size size' partition partition' : ℕ) (units units' : List Unit) (records records' : Records) (copies copies' : List CopyRecord) (pairs : List Pair) (n : ℕ) (old new : Pair)
    → slice_get pairs n ≡ Some old → ShowsMore copies copies' old new → new.own.unit ≡ old.own.unit
    → ((told : Told → Bool) → TellsPair told copies' new → AllGoBy told size partition units records → AllGoBy told size' partition' units' records')
    → ((told : Told → Bool) → TellsPair told copies' new → AllGoBy told size partition units records → UnitGoesBy told units records copies n old → UnitGoesBy told units' records' copies' n new)
    → ((told : Told → Bool) (k : ℕ) (other : Pair) → slice_get pairs k ≡ Some other → k ≢ n → AreInOrder told size partition units records → UnitGoesBy told units records copies k other
    → ∥ UnitGoesBy told units' records' copies' k other ∥₁)
    → AreHeard size partition units records copies pairs → AreHeard size' partition' units' records' copies' (slice_set pairs n new)
heard_set size size' partition partition' units units' records records' copies copies' pairs n old new there more name all own else are = record {
  all = λ told tells. all told (here told tells) (are.all told (before told tells));
  each = λ told tells.
      each_set (λ (k : ℕ) (pair : Pair). ∥ UnitGoesBy told units' records' copies' k pair ∥₁) pairs n new
      (λ k other found apart. ∥∥₁_elim (are.each told (before told tells) k other found) ∥∥₁_prop (else told k other found apart (are.all told (before told tells)).order))
      (∥∥₁_map (are.each told (before told tells) n old there) (own told (here told tells) (are.all told (before told tells))));
}
  where
    before : (told : Told → Bool) → TellsPairs told copies' (slice_set pairs n new) → TellsPairs told copies pairs
    before told tells = tells_before told copies copies' pairs n old new there more name tells

    here : (told : Told → Bool) → TellsPairs told copies' (slice_set pairs n new) → TellsPair told copies' new
    here told tells = tells n new (get_set_same pairs n new (slice_get_within pairs n old there))

-- A turn of the clients.
shows_driven : (copies : List CopyRecord) (old new : Pair) → Drives old new → ShowsMore copies copies old new
shows_driven copies old new d = record {
  made = ([], sym (append-nil copies));
  own = own_stays old new d.own;
  window = d.grows;
  pages = d.pages;
}

name_driven : (old new : Pair) → Drives old new → new.own.unit ≡ old.own.unit
name_driven old new d = ap (λ (own : WindowValue). own.unit) d.own

pub tells_driven : (told : Told → Bool) (copies : List CopyRecord) (old new : List Pair) → AreDriven old new → TellsPairs told copies new → TellsPairs told copies old
tells_driven told copies old new driven tells k pair found =
    let next = held (Drives pair) (slice_get new k) (driven.each k pair found) in
    tells_back told copies copies pair next.0 (shows_driven copies pair next.0 next.2) (name_driven pair next.0 next.2) (tells k next.0 next.1)

told_driven : (told : Told → Bool) (units : List Unit) (records : Records) (copies : List CopyRecord) (k : ℕ) (old new : Pair) → Drives old new → UnitGoesBy told units records copies k old
    → UnitGoesBy told units records copies k new
told_driven told units records copies k old new d is = record {
  cargo = subst (λ (own : WindowValue). HasRuns told units k (known_of own) copies records) (sym d.own) is.cargo;
  explained = subst (λ (own : WindowValue). HasExplained told units k own.unit (end_of [] new.link true) [] records.grants.items) (sym d.own)
      (refusals_seen told units k old.own.unit (end_of [] old.link true) (end_of [] new.link true) [] records.grants.items d.server_session d.server_taken is.explained);
  logins = subst (λ (z : WindowValue × ℕ × List PipeRow × List PipeRow). GoInOrder told units k z.0.unit z.1 z.2 (login_answers z.3) records.grants.items (HearsEvent (end_of [] new.link true)))
      (λ i. (sym d.own i, sym d.server_session i, sym d.server_taken i, sym d.got i))
      (order_heard told units k old.own.unit (side_of old.link true).queue.session (side_of old.link true).queue.taken (login_answers (side_of old.link false).queue.sent) records.grants.items
      (HearsEvent (end_of [] old.link true)) (HearsEvent (end_of [] new.link true)) (hears_driven old new d) is.logins);
}

pub heard_driven : (size partition : ℕ) (units : List Unit) (records : Records) (copies : List CopyRecord) (old new : List Pair) → AreDriven old new → AreHeard size partition units records copies old
    → AreHeard size partition units records copies new
heard_driven size partition units records copies old new driven are = record {
  all = λ told tells. are.all told (tells_driven told copies old new driven tells);
  each = λ told tells k pair found.
      let from = came_from Drives old new driven.count driven.each k pair found in
      ∥∥₁_map (are.each told (tells_driven told copies old new driven tells) k from.0 from.1) (told_driven told units records copies k from.0 pair from.2);
}

-- Before the first turn.
pub heard_fresh : (size partition : ℕ) (units : List Unit) (records : Records) (copies : List CopyRecord) (pairs : List Pair) → records.history.items ≡ [] → records.grants.items ≡ []
    → ((told : Told → Bool) → AreInOrder told size partition units records) → AreIdle units → ExplainNone units → AreUnused units → AreNew pairs → AreHeard size partition units records copies pairs
heard_fresh size partition units records copies pairs no_rows no_lines order idle unrefused unused fresh = record {
  all = λ told tells. record { order = order told; written = subst (AreWritten size told) (sym no_rows) tt };
  each = λ told tells k pair found. ∣ record {
    cargo = runs_unused told units k (known_of pair.own) copies records idle no_rows;
    explained = subst (λ (since : List Grant). HasExplained told units k pair.own.unit (end_of [] pair.link true) since records.grants.items) no_lines
        (unrefused told k pair.own.unit (end_of [] pair.link true) records.grants.items);
    logins = order_fresh told units k pair.own.unit (end_of [] pair.link true) (login_answers (side_of pair.link false).queue.sent) records.grants.items
        (HearsEvent (end_of [] pair.link true)) (ap login_answers (fresh k pair found).sent) no_lines (fresh k pair found).session (fresh k pair found).taken unused;
  } ∣₁;
}
