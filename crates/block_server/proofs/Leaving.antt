-- What is left of the oldest request, once it was prepared and answered.
use Rattle.std.proofs.Common.{◌≡◌, ◌≢◌, ◌⊎◌, inl, inr, ◌++◌, ℕ, Bool, true, false, cond, List, [], ◌∷◌, Option, Some, None, Result, Ok, Err, OnOk, length, slice_get, refl, sym, ◌∙◌, ap, subst}
use Rattle.vio_num.specs.Entry.{srp_entry}
use Rattle.vio_num.specs.declared.entry.Entry.{Entry}
use Rattle.vio_num.specs.declared.history.Grant.{Grant}
use Rattle.vio_num.specs.declared.history.Served.{Served as ServedRow}
use Rattle.vio_num.specs.declared.memory.NoMemory.{NoMemory}
use Rattle.vio_num.specs.declared.names.UnitId.{UnitId}
use Rattle.page_slots.specs.declared.stroke.StrokeName.{StrokeName}
use Rattle.crq_session.specs.EndState.{EndState, OnlyReserves}
use Rattle.tce_window.specs.PortState.{PortPlace, PortState}
use Rattle.block_server.specs.Advances.{Advances}
use Rattle.block_server.specs.Bearing.{BearsIn, BearsRow, IsAnswerPart, IsNamedPart, IsOfQuestion, Writing, question_of}
use Rattle.block_server.specs.Cargo.{is_loaded, rows_of, unanswered}
use Rattle.block_server.specs.Causes.{Hearing}
use Rattle.block_server.specs.Copied.{own_name}
use Rattle.block_server.specs.Granting.{LoginState, login_state}
use Rattle.block_server.specs.Owed.{row_in}
use Rattle.block_server.specs.Ranges.{Known, client_known, known_in, seen_in}
use Rattle.block_server.specs.RowsOn.{HasLastRow, IsLastRow, KeepsLastRow}
use Rattle.block_server.specs.SiteState.{SiteState}
use Rattle.block_server.specs.Stage.{is_answered}
use Rattle.block_server.specs.Standing.{HasAnswerAt, IsAnswerTo, IsPutLast, LeavesAnswer, LeavesRowOf, Stands, stood}
use Rattle.block_server.specs.Talk.{HasRoomFor, IsAnswerAt, IsServable, MayWriteAnswer, PutsAnswer, Replies, Suits, SuitsStage, reach_of, session_rows}
use Rattle.block_server.specs.Waits.{MeetsUse}
use Rattle.block_server.specs.declared.request.Order.TheVariants as orders
use Rattle.block_server.specs.declared.request.Request.{Request}
use Rattle.block_server.specs.declared.service.Outcome.{Outcome}
use Rattle.block_server.specs.declared.service.Outcome.TheVariants as outcomes
use Rattle.block_server.specs.declared.service.Stage.{Stage}
use Rattle.block_server.specs.declared.service.Stage.TheVariants as stages
use Rattle.block_server.specs.declared.unit.Unit.{Unit}
use Rattle.block_server.proofs.Bearing.{bears_on, bears_same, bears_wider}
use Rattle.block_server.proofs.HandRows.{row_in as shown_row}
use Rattle.block_server.proofs.LastRows.{last_there}
use Rattle.block_server.proofs.Listening.{puts_none, slots_kept}
use Rattle.block_server.proofs.Servicing.{first_same, may_later, same_reserves, suits_at}
use Rattle.block_server.proofs.Talking.{not_in_use}

-- THE ROW ----------------------------------------------------------------------------------------

-- where the last row is
last_at_place : (id : UnitId) (request : Request) (before rows : List ServedRow) (place : ℕ) (is : IsLastRow id request before place rows) → slice_get rows place ≡ Some is.row
last_at_place id request before rows place is = (λ i. slice_get (is.added i) (is.place_is i)) ∙ last_there before is.row

some_row : (a b : ServedRow) → Some a ≡ Some b → a ≡ b
some_row a b same = cc (same)

some_place : (a b : ℕ) → Some a ≡ Some b → a ≡ b
some_place a b same = cc (same)

-- the row that was added has the answer, if that was put
pub left_row : (id : UnitId) (found request : Request) (outcome : Outcome) (stage : Stage) (queue : EndState) (made : List ℕ) (rows mid new : List ServedRow) → found ≡ request
    → stage ≡ stages.Answer outcome → HasLastRow id found rows (row_in stage) mid → KeepsLastRow (row_in stage) mid new
    → ((place : ℕ) → outcome ≡ outcomes.Served place → queue.place.partner_registered ≡ true → (row : ServedRow) → slice_get mid place ≡ Some row
    → slice_get new place ≡ Some (record row { answer = made }))
    → LeavesRowOf outcome queue request.unit.items made rows new
left_row id found request outcome stage queue made rows mid new same at has keeps settles =
    by outcome (ap row_in at) settles
  where
    by : (o : Outcome) → row_in stage ≡ row_in (stages.Answer o)
        → ((place : ℕ) → o ≡ outcomes.Served place → queue.place.partner_registered ≡ true → (row : ServedRow) → slice_get mid place ≡ Some row → slice_get new place ≡ Some (record row { answer = made }))
        → LeavesRowOf o queue request.unit.items made rows new
    by (outcomes.Granted number) is gets = subst (λ (p : Option ℕ). HasLastRow id found rows p new) is (keeps id found rows has)
    by outcomes.Rejected is gets = subst (λ (p : Option ℕ). HasLastRow id found rows p new) is (keeps id found rows has)
    by (outcomes.Served place) is gets =
        let first : IsLastRow id found rows place mid = subst (λ (p : Option ℕ). HasLastRow id found rows p mid) is has in
        let last : IsLastRow id found rows place new = subst (λ (p : Option ℕ). HasLastRow id found rows p new) is (keeps id found rows has) in
        record {
          row = last.row;
          added = last.added;
          iu_is = last.iu_is ∙ ap (λ (r : Request). r.unit.items) same;
          answer_is = λ on.
              ap (λ (r : ServedRow). r.answer)
              (some_row last.row (record first.row { answer = made })
              (sym (last_at_place id found rows new place last) ∙ gets place refl on first.row (last_at_place id found rows mid place first)));
        }

-- the data-in of the row in service are those of the row that was added
same_inn : (id : UnitId) (request : Request) (rows mid new : List ServedRow) (at : ℕ) (row : ServedRow) (last : IsLastRow id request rows at new) → rows_of new ≡ rows_of mid
    → slice_get mid at ≡ Some row → row.inn ≡ last.row.inn
same_inn id request rows mid new at row last kept there =
    ap (λ (r : ServedRow). r.inn)
    (some_row (unanswered row) (unanswered last.row)
    (sym (shown_row mid at row there) ∙ ap (λ (list : List ServedRow). slice_get list at) (sym kept) ∙ shown_row new at last.row (last_at_place id request rows new at last)))

-- what was laid for the request
pub laid_first : (Hears : Hearing) (unit id : UnitId) (found request : Request) (place : Option ℕ) (made : List ℕ) (rows mid new : List ServedRow) (k0 k1 k2 : Option Known) → found ≡ request
    → HasLastRow id found rows place mid → KeepsLastRow place mid new → rows_of new ≡ rows_of mid → BearsRow Hears (record { who = unit; mark = found.tag }) found.order mid place k0 k1
    → BearsIn (IsAnswerPart (record { who = unit; mark = request.tag }) request.address made) k1 k2 → BearsIn (IsOfQuestion Hears unit (question_of request) made rows new) k0 k2
laid_first Hears unit id found request place made rows mid new k0 k1 k2 same has keeps kept handed answers = bears_on W k0 k1 k2 (by handed) (bears_wider A W (λ address bytes name is. inl is) k1 k2 answers)
  where
    W : Writing
    W = IsOfQuestion Hears unit (question_of request) made rows new

    A : Writing
    A = IsAnswerPart (record { who = unit; mark = request.tag }) request.address made

    by : BearsRow Hears (record { who = unit; mark = found.tag }) found.order mid place k0 k1 → BearsIn W k0 k1
    by (inl none) = bears_same W k0 k1 none
    by (inr is) =
        let last : IsLastRow id found rows is.0 new = subst (λ (p : Option ℕ). HasLastRow id found rows p new) is.2 (keeps id found rows has) in
        bears_wider (IsNamedPart Hears (record { who = unit; mark = found.tag }) found.order is.1.inn) W
        (λ address bytes name part. inr (
          last.row,
          last.added,
          subst (λ (z : Request × List ℕ). IsNamedPart Hears (record { who = unit; mark = z.0.tag }) z.0.order z.1 address bytes name)
              (λ i. (same i, same_inn id found rows mid new is.0 is.1 last kept is.3 i)) part,
        )) k0 k1 is.4

-- THE OLDEST REQUEST -----------------------------------------------------------------------------

-- an answer that is made and not yet copied is to be
pub made_at : (on : LoginState) (request : Request) (stage : Stage) (made : List ℕ) → is_answered stage ≡ true → HasAnswerAt on request stage made → (outcome : Outcome) × (stage ≡ stages.Answer outcome)
made_at on request (stages.Answer outcome) made answered has = (outcome, refl)
made_at on request (stages.Entry outcome) made answered has = absurd has
made_at on request stages.Start made answered has = absurd (cc (answered))
made_at on request stages.OutTable made answered has = absurd (cc (answered))
made_at on request stages.InTable made answered has = absurd (cc (answered))
made_at on request (stages.DataOut cursor) made answered has = absurd (cc (answered))
made_at on request (stages.Given row reply) made answered has = absurd (cc (answered))
made_at on request (stages.DataIn row reply cursor) made answered has = absurd (cc (answered))

put_last : (old new : EndState) (entry : Entry) → Replies old new (entry ∷ []) → IsPutLast new entry
put_last old new entry is = λ on. (
  old.sent,
  old.counts.partner_session,
  is.put ∙ ap (λ (b : Bool). old.sent ++ cond b (session_rows old.counts.partner_session (entry ∷ [])) []) (ap (λ place. place.partner_registered) (sym is.place) ∙ on),
)

-- a window in which nobody else has a hand
seen_alone : (shared : Bool) (port : PortState) → shared ≡ false → seen_in shared port ≡ Some (known_in port)
seen_alone shared port apart = ap (λ (b : Bool). cond b None (Some (known_in port))) apart

-- The oldest request was prepared, and then answered.
pub leaves_first : {A : Type 0} (link : Bool) (unit unit2 unit' : Unit) (id : UnitId) (old mid new : SiteState) (l2 l' : List Grant) (rows rows2 rows' : List ServedRow) (found request : Request) (xs rest : List Request)
    (stage : Stage) (made : List ℕ) (result : Result A NoMemory) → IsServable unit (reach_of old) link request rest → unit.pending.items ≡ found ∷ xs → Advances old mid → Advances mid new → mid.queue ≡ old.queue
    → unit2.pending.items ≡ unit.pending.items → unit2.service.stage ≡ stage → unit2.service.answer.items ≡ made → (is_answered stage ≡ true) ⊎ MeetsUse old mid
    → SuitsStage unit.logins.current found.order stage → request.order ≢ orders.Logout → HasAnswerAt (login_state unit.logins) found stage made
    → HasLastRow id found rows (row_in stage) rows2 → KeepsLastRow (row_in unit2.service.stage) rows2 rows'
    → BearsRow (stood old.client) (own_name old.own found.tag) found.order rows2 (row_in stage) (client_known old) (client_known mid)
    → ((outcome : Outcome) → IsAnswerAt unit2.service.stage outcome → unit2.pending.items ≡ request ∷ rest → link ≡ false → mid.shared ≡ false → mid.queue.registered ≡ true
    → MayWriteAnswer mid.client request.address → HasRoomFor mid.queue 1
    → OnOk result (PutsAnswer unit2 unit' mid.queue new.queue l2 l' outcome (srp_entry (length unit2.service.answer.items) request.tag)))
    → ((outcome : Outcome) → unit2.service.stage ≡ stages.Answer outcome → unit2.pending.items ≡ request ∷ rest → mid.shared ≡ false → MayWriteAnswer mid.client request.address
    → OnOk result (Stands new.client (own_name mid.own request.tag) request.address unit2.service.answer.items))
    → ((place : ℕ) → IsAnswerAt unit2.service.stage (outcomes.Served place) → unit2.pending.items ≡ request ∷ rest → link ≡ false → mid.shared ≡ false → mid.queue.registered ≡ true
    → MayWriteAnswer mid.client request.address → HasRoomFor mid.queue 1 → mid.queue.place.partner_registered ≡ true → (row : ServedRow) → slice_get rows2 place ≡ Some row
    → OnOk result (slice_get rows' place ≡ Some (record row { answer = unit2.service.answer.items })))
    → (is_loaded unit2.service.stage ≡ false → rows_of rows' ≡ rows_of rows2)
    → (unit2.pending.items ≡ request ∷ rest → BearsIn (IsAnswerPart (own_name mid.own request.tag) request.address unit2.service.answer.items) (client_known mid) (client_known new))
    → OnOk result (LeavesAnswer unit.logins.current unit.logins.granted old.own.place.unit (question_of request) new.queue old.client new.client rows rows')
leaves_first link unit unit2 unit' id old mid new l2 l' rows rows2 rows' found request xs rest stage made (Err memory) servable front advances after queue pending at made_is went suits other has last keeps handed answers laid settles kept bears = tt
leaves_first link unit unit2 unit' id old mid new l2 l' rows rows2 rows' found request xs rest stage made (Ok done) servable front advances after queue pending at made_is went suits other has last keeps handed answers laid settles kept bears =
    by went
  where
    to : OnlyReserves old.queue mid.queue
    to = same_reserves old.queue mid.queue queue

    same : found ≡ request
    same = first_same unit.pending.items found request xs rest front servable.pending

    parts : unit2.pending.items ≡ request ∷ rest
    parts = pending ∙ servable.pending

    may : MayWriteAnswer mid.client request.address
    may = may_later old mid request.address servable.apart advances (servable.may other)

    apart : mid.shared ≡ false
    apart = advances.shared ∙ servable.apart

    room : HasRoomFor mid.queue 1
    room = slots_kept old.queue mid.queue 1 to.place (ap (λ counts. counts.partner_session) to.counts) (puts_none old.queue mid.queue to.sent) servable.slots

    name : own_name mid.own request.tag ≡ record { who = old.own.place.unit; mark = request.tag }
    name = ap (λ (place : PortPlace). record { who = place.unit; mark = request.tag }) advances.own_place

    keeps_at : KeepsLastRow (row_in stage) rows2 rows'
    keeps_at = subst (λ (s : Stage). KeepsLastRow (row_in s) rows2 rows') at keeps

    known_now : (BearsIn (IsOfQuestion (stood old.client) old.own.place.unit (question_of request) made rows rows') (client_known old) (client_known new))
        → BearsIn (IsOfQuestion (stood old.client) old.own.place.unit (question_of request) made rows rows') (Some (known_in old.client)) (Some (known_in new.client))
    known_now = subst (λ (z : Option Known × Option Known). BearsIn (IsOfQuestion (stood old.client) old.own.place.unit (question_of request) made rows rows') z.0 z.1)
        (λ i. (seen_alone old.shared old.client servable.apart i, seen_alone new.shared new.client (after.shared ∙ apart) i))

    answer_laid : BearsIn (IsAnswerPart (record { who = old.own.place.unit; mark = request.tag }) request.address made) (client_known mid) (client_known new)
    answer_laid = subst (λ (z : StrokeName × List ℕ). BearsIn (IsAnswerPart z.0 request.address z.1) (client_known mid) (client_known new)) (λ i. (name i, made_is i)) (bears parts)

    kept_at : (outcome : Outcome) → stage ≡ stages.Answer outcome → rows_of rows' ≡ rows_of rows2
    kept_at outcome is = kept (ap is_loaded (at ∙ is))

    by : (is_answered stage ≡ true) ⊎ MeetsUse old mid → LeavesAnswer unit.logins.current unit.logins.granted old.own.place.unit (question_of request) new.queue old.client new.client rows rows'
    by (inr busy) = absurd (not_in_use old mid servable.apart busy)
    by (inl answered) =
        let is = made_at (login_state unit.logins) found stage made answered has in
        let put : PutsAnswer unit2 unit' mid.queue new.queue l2 l' is.0 (srp_entry (length unit2.service.answer.items) request.tag) =
        answers is.0 (inl (at ∙ is.1)) parts servable.alone apart (to.registered ∙ servable.registered) may room in
        record {
          outcome = is.0;
          suits = subst (λ (r : Request). Suits unit.logins.current r.order is.0) same (suits_at unit.logins.current found.order stage is.0 (inl is.1) suits);
          bytes = made;
          answer = subst (λ (r : Request). IsAnswerTo unit.logins.current unit.logins.granted r.tag r.order is.0 made) same (subst (λ (s : Stage). HasAnswerAt (login_state unit.logins) found s made) is.1 has);
          put = subst (λ (list : List ℕ). IsPutLast new.queue (srp_entry (length list) request.tag)) made_is
              (put_last mid.queue new.queue (srp_entry (length unit2.service.answer.items) request.tag) put.put);
          stands = subst (λ (z : StrokeName × List ℕ). Stands new.client z.0 request.address z.1) (λ i. (name i, made_is i)) (laid is.0 (at ∙ is.1) parts apart may);
          row = left_row id found request is.0 stage new.queue made rows rows2 rows' same is.1 last keeps_at
              (λ place which on row there.
              subst (λ (list : List ℕ). slice_get rows' place ≡ Some (record row { answer = list })) made_is
              (settles place (inl (at ∙ is.1 ∙ ap stages.Answer which)) parts servable.alone apart (to.registered ∙ servable.registered) may room
              (ap (λ place. place.partner_registered) (sym after.queue_place) ∙ on) row there));
          lays = known_now (laid_first (stood old.client) old.own.place.unit id found request (row_in stage) made rows rows2 rows' (client_known old) (client_known mid) (client_known new) same last keeps_at
              (kept_at is.0 is.1) handed answer_laid);
        }
