-- What each server unit took and what became of it, over a turn of its own, of another server unit, and of a client's partition.
use Rattle.std.proofs.Common.{◌≡◌, ◌≢◌, ◌∙◌, ◌≤◌, ℕ, ◌++◌, Bool, true, false, List, [], Option, Some, None, IfSome, slice_get, filter, map, refl, sym, ap, subst, append-nil}
use Rattle.std.proofs.Math.Logic.{∥∥₁_elim, ∥∥₁_map, ∥∥₁_map₂, ∥∥₁_prop}
use Rattle.std.proofs.lemmas.List.Elements.{All-nil, All-weaker}
use Rattle.std.proofs.lemmas.Option.{IfSome_then}
use Rattle.vio_num.specs.Words.{Begins}
use Rattle.vio_num.specs.declared.entry.Entry.{Entry}
use Rattle.vio_num.specs.declared.history.Grant.{Grant}
use Rattle.vio_num.specs.declared.history.Served.{Served}
use Rattle.vio_num.specs.declared.names.UnitId.{UnitId}
use Rattle.crq_ring.specs.declared.rows.PipeRow.{PipeRow}
use Rattle.crq_session.specs.EndState.{EndState}
use Rattle.crq_session.specs.PlainState.{end_of, side_of}
use Rattle.tce_window.specs.PlainPort.{known_of}
use Rattle.tce_window.specs.PortState.{PortState}
use Rattle.tce_window.specs.Window.{WindowValue}
use Rattle.rdma_copy.specs.Copy.{SideGrows}
use Rattle.rdma_copy.specs.Copies.{side_of as side_at}
use Rattle.rdma_copy.proofs.Laws.{side_same}
use Rattle.rdma_copy.specs.declared.copy.CopyRecord.{CopyRecord}
use Rattle.block_server.specs.Advances.{CopiesMore, IsOwnCopy}
use Rattle.block_server.specs.Answering.{OnlyRowsOf}
use Rattle.block_server.specs.Judged.{Judged}
use Rattle.block_server.specs.Judges.{AreInTime, AreUnused, HasJudged, HasKept}
use Rattle.block_server.specs.Moves.{is_intake}
use Rattle.block_server.specs.Receipts.{AwaitNone, HasIntake, Intake, IsIntake, LinesMore, Receipt, is_ended}
use Rattle.block_server.specs.declared.unit.Unit.{Unit}
use Rattle.block_server.proofs.BookLaws.{kept_elsewhere, kept_seen}
use Rattle.block_server.specs.Owed.{HaveAnswers, OweNone, SeesAnswers}
use Rattle.block_server.specs.Ready.{AgreesAt, AreDown}
use Rattle.block_server.proofs.OwedLaws.{answers_elsewhere, answers_seen}
use Rattle.block_server.proofs.IntakeLaws.{intake_none, intake_stays, others_pass}
use Rattle.vcpu_run.specs.declared.pair.Pair.{Pair}
use Rattle.vcpu_run.specs.Answered.{AreBegun, IsBehind}
use Rattle.vcpu_run.specs.LastGiven.{HaveLastGiven}
use Rattle.vcpu_run.specs.Pairs.{AreDriven, Drives}
use Rattle.vcpu_run.specs.Reached.{HasBegun}
use Rattle.vcpu_run.specs.Received.{AreNew, AreReceived, IsReceived}
use Rattle.vcpu_run.proofs.ShutKept.{begun_driven}
use Rattle.vcpu_run.specs.Gone.{IsToldOfGone}
use Rattle.vcpu_run.specs.Links.{AreClosed}
use Rattle.vcpu_run.proofs.Gone.{gone_driven}
use Rattle.vcpu_run.proofs.Keeping.{own_stays}
use Rattle.vcpu_run.proofs.LastDriven.{driven_received, elsewhere_received, fresh_received, served_received}
use Rattle.vcpu_run.proofs.LastServed.{ServesLast}
use Rattle.vcpu_run.proofs.Listed.{came_from}
use Rattle.vcpu_run.proofs.Losing.{behind_driven, behind_none, sees_driven, sees_same}
use Rattle.vcpu_run.proofs.Waiting.{agrees_like, agrees_other}

-- what a unit's intake is judged by
abbrev pub intake_at : Unit → (own client : PortState) → EndState → List CopyRecord → List Grant → Intake
intake_at u own client queue copies grants = record {
  own = own;
  client = client;
  queue = queue;
  copies = copies;
  grants = grants;
  waiting = u.waiting;
  ended = is_ended u.line;
}

-- The same unit, seen later, or by another of its queue's ends.
pub record SeesOn (own own' client client' : PortState) (queue queue' : EndState) (copies copies' : List CopyRecord) (grants grants' : List Grant) : Type 0 where
  pub own_grows : SideGrows (side_at own) (side_at own')
  pub client_grows : SideGrows (side_at client) (side_at client')
  pub session : queue'.last_session ≡ queue.last_session
  pub taken : queue'.taken ≡ queue.taken
  pub fetched : filter (is_intake own.place.unit) copies' ≡ filter (is_intake own.place.unit) copies
  pub lines : Begins grants grants'

pub intake_seen : (units units' : List Unit) (unit : ℕ) (own own' client client' : PortState) (queue queue' : EndState) (copies copies' : List CopyRecord) (grants grants' : List Grant) (receipts : List Receipt)
    → slice_get units' unit ≡ slice_get units unit → SeesOn own own' client client' queue queue' copies copies' grants grants'
    → HasIntake units unit own client queue copies grants receipts → HasIntake units' unit own' client' queue' copies' grants' receipts
intake_seen units units' unit own own' client client' queue queue' copies copies' grants grants' receipts same sees has =
    subst (λ (o : Option Unit). IfSome o (λ u. IsIntake (intake_at u own' client' queue' copies' grants') receipts)) (sym same)
    (IfSome_then (slice_get units unit) has
    (λ u is. intake_stays (intake_at u own client queue copies grants) (intake_at u own' client' queue' copies' grants') receipts
    (record {
      own = sees.own_grows;
      client = sees.client_grows;
      session = sees.session;
      taken = sees.taken;
      copies = sees.fetched;
      grants = sees.lines;
      waiting = refl;
      ended = refl;
    }) is))

-- nothing is other than it was
begins_same : {X : Type 0} (xs : List X) → Begins xs xs
begins_same xs = ([], sym (append-nil xs))

same_seen : (own client : PortState) (queue queue' : EndState) (copies : List CopyRecord) (grants : List Grant) → queue'.last_session ≡ queue.last_session → queue'.taken ≡ queue.taken
    → SeesOn own own client client queue queue' copies copies grants grants
same_seen own client queue queue' copies grants session taken = record {
  own_grows = side_same (side_at own);
  client_grows = side_same (side_at client);
  session = session;
  taken = taken;
  fetched = refl;
  lines = begins_same grants;
}

-- the entries that were judged, seen later, or by another of the queue's ends, in the same lines and rows
pub judged_seen : (units units' : List Unit) (unit : ℕ) (own own' client client' : PortState) (queue queue' : EndState) (copies copies' : List CopyRecord) (history : List Served) (grants : List Grant) (judged : List Judged)
    → slice_get units' unit ≡ slice_get units unit → own'.place.unit ≡ own.place.unit → SeesOn own own' client client' queue queue' copies copies' grants grants
    → HasJudged units unit own client queue copies history grants judged → HasJudged units' unit own' client' queue' copies' history grants judged
judged_seen units units' unit own own' client client' queue queue' copies copies' history grants judged same name sees has = record {
  received = intake_seen units units' unit own own' client client' queue queue' copies copies' grants grants (map (λ (j : Judged). j.receipt) judged) same sees has.received;
  kept = subst (λ (id : UnitId). HasKept units' unit id queue' history grants judged) (sym name)
      (kept_seen units units' unit own.place.unit queue queue' history grants judged same sees.session sees.taken has.kept);
}

-- A turn of the server unit, over an end of its link that sees the queue as the pair does.
pub received_served : {granted : ℕ} (units units' : List Unit) (unit : ℕ) (old new : Pair) (queue queue' : EndState) (copies copies' : List CopyRecord) (grants grants' : List Grant) (history history' : List Served)
    → queue.last_session ≡ (side_of old.link true).queue.session → queue.taken ≡ (side_of old.link true).queue.taken
    → queue'.last_session ≡ (side_of new.link true).queue.session → queue'.taken ≡ (side_of new.link true).queue.taken
    → ((judged : List Judged) → HasJudged units unit (known_of old.own) (known_of old.window) queue copies history grants judged
    → ∥ ((more : List Judged) × (HasJudged units' unit (known_of new.own) (known_of new.window) queue' copies' history' grants' (judged ++ more) × AreInTime old.own.unit grants more)) ∥₁)
    → AreBegun (side_of new.link true).queue.taken → IsBehind (end_of [] new.link true) → IsToldOfGone (end_of [] new.link true) → HasBegun (end_of [] new.link true) → AgreesAt units' unit (end_of [] new.link true)
    → SeesAnswers (end_of [] old.link true) queue → SeesAnswers queue' (end_of [] new.link true) → new.own.unit ≡ old.own.unit
    → ((judged : List Judged) → HasJudged units unit (known_of old.own) (known_of old.window) queue copies history grants judged
    → HaveAnswers units unit old.own.unit queue history grants → ∥ HaveAnswers units' unit old.own.unit queue' history' grants' ∥₁)
    → ((u' : Unit) → slice_get units' unit ≡ Some u' → (u : Unit) × (slice_get units unit ≡ Some u))
    → ∥ ((lines : LinesMore old.own.unit granted grants grants') × ServesLast old.own.unit old.link new.link lines.more history history') ∥₁
    → IsReceived units copies grants history unit old → IsReceived units' copies' grants' history' unit new
received_served units units' unit old new queue queue' copies copies' grants grants' history history' session taken session' taken' turn begun behind gone served agrees sees seen name answers there serves is = record {
  judged = ∥∥₁_elim is.judged ∥∥₁_prop
      (λ before. ∥∥₁_map
      (turn before.0 (judged_seen units units unit (known_of old.own) (known_of old.own) (known_of old.window) (known_of old.window) (end_of [] old.link true) queue copies copies history grants before.0 refl refl
      (same_seen (known_of old.own) (known_of old.window) (end_of [] old.link true) queue copies grants session taken) before.1))
      (λ after. (
        before.0 ++ after.0,
        judged_seen units' units' unit (known_of new.own) (known_of new.own) (known_of new.window) (known_of new.window) queue' (end_of [] new.link true) copies' copies' history' grants' (before.0 ++ after.0) refl refl
            (same_seen (known_of new.own) (known_of new.window) queue' (end_of [] new.link true) copies' grants' (sym session') (sym taken')) after.1.0,
      )));
  begun = begun;
  behind = behind;
  gone = gone;
  served = served;
  agrees = agrees;
  last = ∥∥₁_elim is.judged ∥∥₁_prop
      (λ before. ∥∥₁_elim
      (turn before.0 (judged_seen units units unit (known_of old.own) (known_of old.own) (known_of old.window) (known_of old.window) (end_of [] old.link true) queue copies copies history grants before.0 refl refl
      (same_seen (known_of old.own) (known_of old.window) (end_of [] old.link true) queue copies grants session taken) before.1)) ∥∥₁_prop
      (λ after.
      let judged = judged_seen units' units' unit (known_of new.own) (known_of new.own) (known_of new.window) (known_of new.window) queue' (end_of [] new.link true) copies' copies' history' grants' (before.0 ++ after.0) refl refl
      (same_seen (known_of new.own) (known_of new.window) queue' (end_of [] new.link true) copies' grants' (sym session') (sym taken')) after.1.0 in
      ∥∥₁_map₂ serves is.last
      (λ serves last.
      subst (λ (id : UnitId). HaveLastGiven units' unit id new.link grants' history') (sym name)
      (served_received units units' unit old.own.unit old.link new.link grants grants' history history' before.0 (before.0 ++ after.0) there before.1.kept
      (subst (λ (id : UnitId). HasKept units' unit id (end_of [] new.link true) history' grants' (before.0 ++ after.0)) name judged.kept) serves.0 serves.1 last))));
  answers = ∥∥₁_elim is.judged ∥∥₁_prop
      (λ before. ∥∥₁_elim is.answers ∥∥₁_prop
      (λ owed. ∥∥₁_map
      (answers before.0 (judged_seen units units unit (known_of old.own) (known_of old.own) (known_of old.window) (known_of old.window) (end_of [] old.link true) queue copies copies history grants before.0 refl refl
      (same_seen (known_of old.own) (known_of old.window) (end_of [] old.link true) queue copies grants session taken) before.1)
      (answers_seen units units unit old.own.unit (end_of [] old.link true) queue history grants refl sees owed))
      (λ after.
      subst (λ (id : UnitId). HaveAnswers units' unit id (end_of [] new.link true) history' grants') (sym name)
      (answers_seen units' units' unit old.own.unit queue' (end_of [] new.link true) history' grants' refl seen after))));
}

-- A turn of another server unit.
pub received_elsewhere : {granted : ℕ} (units units' : List Unit) (k : ℕ) (unit : UnitId) (other : Pair) (own client : PortState) (copies copies' : List CopyRecord) (grants grants' : List Grant) (history history' : List Served)
    → unit ≢ other.own.unit → slice_get units' k ≡ slice_get units k → own.place.unit ≡ unit → CopiesMore own client copies copies' → ∥ LinesMore unit granted grants grants' ∥₁ → ∥ OnlyRowsOf unit history history' ∥₁
    → IsReceived units copies grants history k other → IsReceived units' copies' grants' history' k other
received_elsewhere units units' k unit other own client copies copies' grants grants' history history' apart same own_is more lines rows is = record {
  judged = ∥∥₁_elim rows ∥∥₁_prop
      (λ only. ∥∥₁_map₂ lines is.judged
      (λ lines has. (
        has.0,
        record {
          received = intake_seen units units' k (known_of other.own) (known_of other.own) (known_of other.window) (known_of other.window) (end_of [] other.link true) (end_of [] other.link true) copies copies' grants grants'
              (map (λ (j : Judged). j.receipt) has.0) same
              (record {
                own_grows = side_same (side_at (known_of other.own));
                client_grows = side_same (side_at (known_of other.window));
                session = refl;
                taken = refl;
                fetched = ap (filter (is_intake other.own.unit)) more.made
                    ∙ others_pass other.own.unit copies more.more
                    (All-weaker (IsOwnCopy own client) (λ copy. copy.name.who ≢ other.own.unit) (λ copy is e. apart (sym (is.who ∙ own_is) ∙ e)) more.more more.lawful);
                lines = (lines.more, lines.added);
              }) has.1.received;
          kept = kept_elsewhere units units' k unit other.own.unit (end_of [] other.link true) (end_of [] other.link true) history history' grants grants' has.0 apart same refl refl only lines has.1.kept;
        },
      )));
  begun = is.begun;
  behind = is.behind;
  gone = is.gone;
  served = is.served;
  agrees = agrees_other units units' k (end_of [] other.link true) same is.agrees;
  last = ∥∥₁_elim rows ∥∥₁_prop
      (λ only. ∥∥₁_map₂ lines is.last (λ lines last. elsewhere_received units units' k other.own.unit unit other.link grants grants' history history' same apart lines only last));
  answers = ∥∥₁_elim rows ∥∥₁_prop
      (λ only. ∥∥₁_map₂ lines is.answers
      (λ lines owed. answers_elsewhere units units' k unit other.own.unit (end_of [] other.link true) (end_of [] other.link true) history history' grants grants' apart same (sees_same (end_of [] other.link true)) only lines owed));
}

-- A turn of the clients.
pub received_driven : (units : List Unit) (copies : List CopyRecord) (grants : List Grant) (history : List Served) (old new : List Pair) → AreDriven old new → AreReceived units copies grants history old
    → AreReceived units copies grants history new
received_driven units copies grants history old new driven are k pair found =
    let from = came_from Drives old new driven.count driven.each k pair found in
    let d = from.2 in
    let is = are k from.0 from.1 in
    record {
      judged = ∥∥₁_map is.judged
          (λ has. (
            has.0,
            judged_seen units units k (known_of from.0.own) (known_of pair.own) (known_of from.0.window) (known_of pair.window) (end_of [] from.0.link true) (end_of [] pair.link true) copies copies history grants has.0 refl
                (ap (λ (own : WindowValue). own.unit) d.own)
                (record {
                  own_grows = own_stays from.0 pair d.own;
                  client_grows = d.grows;
                  session = d.server_session;
                  taken = d.server_taken;
                  fetched = refl;
                  lines = begins_same grants;
                }) has.1,
          ));
      begun = subst AreBegun (sym d.server_taken) is.begun;
      behind = behind_driven from.0 pair d is.behind;
      gone = gone_driven from.0 pair d is.gone;
      served = begun_driven from.0 pair d is.served;
      agrees = agrees_like units k (end_of [] from.0.link true) (end_of [] pair.link true) d.server_registered is.agrees;
      last = ∥∥₁_map₂ is.judged is.last
          (λ has last.
          subst (λ (id : UnitId). HaveLastGiven units k id pair.link grants history) (sym (ap (λ (own : WindowValue). own.unit) d.own))
          (driven_received units k from.0 pair from.0.own.unit grants history has.0 d is.behind has.1.kept is.agrees last));
      answers = ∥∥₁_map is.answers
          (λ owed.
          subst (λ (id : UnitId). HaveAnswers units k id (end_of [] pair.link true) history grants) (sym (ap (λ (own : WindowValue). own.unit) d.own))
          (answers_seen units units k from.0.own.unit (end_of [] from.0.link true) (end_of [] pair.link true) history grants refl (sees_driven from.0 pair d is.behind) owed));
    }

no_event : (event : Entry) → None ≡ Some event → ⊥
no_event event same = cc (same)

both_bools : (b : Bool) → b ≡ true → b ≡ false → ⊥
both_bools b is other = cc (is, other)

-- Before the first turn.
pub received_fresh : (units : List Unit) (copies : List CopyRecord) (grants : List Grant) (history : List Served) (pairs : List Pair) → copies ≡ [] → grants ≡ [] → history ≡ [] → AwaitNone units → AreUnused units → OweNone units → AreDown units → AreClosed pairs → AreNew pairs
    → AreReceived units copies grants history pairs
received_fresh units copies grants history pairs none no_lines no_rows waits unused unowed down closed fresh k pair found = record {
  judged = ∣ (
    [],
    record {
      received = IfSome_then (slice_get units k) (waits k)
          (λ u is. intake_none (intake_at u (known_of pair.own) (known_of pair.window) (end_of [] pair.link true) copies grants) (fresh k pair found).taken none is);
      kept = subst (λ (lines : List Grant). HasKept units k pair.own.unit (end_of [] pair.link true) history lines []) (sym no_lines)
          (subst (λ (rows : List Served). HasKept units k pair.own.unit (end_of [] pair.link true) rows [] []) (sym no_rows) (unused k pair.own.unit (end_of [] pair.link true) (fresh k pair found).session (fresh k pair found).taken));
    },
  ) ∣₁;
  begun = subst AreBegun (sym (fresh k pair found).taken) (All-nil (λ (row : PipeRow). 1 ≤ row.session));
  behind = behind_none pair.link (fresh k pair found).taken;
  gone = record {
    says = λ event there. absurd (no_event event (sym (fresh k pair found).kept ∙ there));
    gone = λ on. absurd (both_bools (side_of pair.link true).registered on (closed k pair found).server);
  };
  served = record { sent = λ zero. (fresh k pair found).sent; kept = λ zero. (fresh k pair found).event };
  agrees = IfSome_then (slice_get units k) (down k) (λ u is. record { down = λ off. (closed k pair found).server; on = λ up. absurd (up is) });
  last = ∣ fresh_received units k pair.own.unit pair.link grants history no_lines ∣₁;
  answers = ∣ subst (λ (lines : List Grant). HaveAnswers units k pair.own.unit (end_of [] pair.link true) history lines) (sym no_lines)
      (subst (λ (rows : List Served). HaveAnswers units k pair.own.unit (end_of [] pair.link true) rows []) (sym no_rows) (unowed k pair.own.unit (end_of [] pair.link true))) ∣₁;
}
