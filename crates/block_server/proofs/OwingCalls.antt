-- What the calls of a turn leave of the answers that a unit owes.
use Rattle.std.proofs.Common.{◌≡◌, ◌⊎◌, inl, inr, ◌++◌, ◌||◌, ◌≤◌, ℕ, Bool, true, false, List, [], ◌∷◌, Some, None, Result, Ok, Err, OnOk, OnErr, length, refl, sym, ◌∙◌, ap, subst}
use Rattle.vio_num.specs.declared.entry.Entry.{Entry as QueueEntry}
use Rattle.vio_num.specs.declared.entry.Kind.TheVariants.{Event}
use Rattle.vio_num.specs.declared.history.Lapse.{Lapse}
use Rattle.vio_num.specs.declared.history.Lapse.TheVariants as lapses
use Rattle.vio_num.specs.Entry.{first_byte, kind_of}
use Rattle.crq_session.specs.EndState.{EndState, OnlyPushes, OnlyReserves, OnlySends}
use Rattle.crq_session.specs.Answered.{TurnsBack}
use Rattle.crq_session.specs.Answers.{IfClosed, OnNotSent}
use Rattle.crq_session.specs.declared.answers.SendAnswer.{SendAnswer}
use Rattle.crq_session.specs.declared.answers.SendAnswer.TheVariants as sending
use Rattle.block_server.specs.Answering.{has_bytes}
use Rattle.block_server.specs.Decided.{Decides, IsCause, StaysOn, DecidesOrder}
use Rattle.block_server.proofs.Verdicts.{cause_fatal}
use Rattle.block_server.specs.Entries.{is_response_len}
use Rattle.block_server.specs.Judged.{AreKept, Books, IsAtStage, IsOutcome, Judged, gets_row, has_row, is_logout}
use Rattle.block_server.specs.Owed.{HasAnswers, IsAwaited, IsCutOff, IsLossAhead, Owing, RowState, SeesAnswers, row_in}
use Rattle.block_server.specs.Receipts.{is_down, is_ended, is_fatal}
use Rattle.block_server.specs.Stage.{has_answer}
use Rattle.block_disk.specs.declared.reply.ScsiReply.{ScsiReply}
use Rattle.vio_num.specs.declared.memory.NoMemory.{NoMemory}
use Rattle.block_server.specs.declared.cursor.Cursor.{Cursor}
use Rattle.block_server.specs.declared.intake.Verdict.{Verdict}
use Rattle.block_server.specs.declared.intake.Verdict.TheVariants as verdicts
use Rattle.block_server.specs.declared.line.Line.{Line}
use Rattle.block_server.specs.declared.logins.Logins.{Logins}
use Rattle.block_server.specs.declared.request.Order.{Order}
use Rattle.block_server.specs.declared.request.Order.TheVariants as orders
use Rattle.block_server.specs.declared.request.Request.{Request}
use Rattle.block_server.specs.declared.service.Outcome.{Outcome}
use Rattle.block_server.specs.declared.service.Outcome.TheVariants as outcomes
use Rattle.block_server.specs.declared.service.Stage.{Stage}
use Rattle.block_server.specs.declared.service.Stage.TheVariants as stages
use Rattle.block_server.proofs.Owing.{owes_seen, seen_call, seen_same}
use Rattle.block_server.proofs.OwingRows.{front_under, owes_dropped}

-- THE QUEUE

pub seen_sends : (shared : Bool) (old new : EndState) → OnlySends shared old new → SeesAnswers old new
seen_sends shared old new rest = seen_call old new rest.place rest.last_session rest.registered rest.taken

pub seen_pushes : (shared : Bool) (old new : EndState) → OnlyPushes shared old new → SeesAnswers old new
seen_pushes shared old new rest = seen_call old new rest.place rest.last_session rest.registered rest.taken

pub seen_reserves : (old new : EndState) → OnlyReserves old new → SeesAnswers old new
seen_reserves old new rest = seen_call old new rest.place rest.last_session rest.registered rest.taken

pub seen_on : (a b c : EndState) → SeesAnswers a b → SeesAnswers b c → SeesAnswers a c
seen_on a b c first next = record {
  session = next.session ∙ first.session;
  registered = next.registered ∙ first.registered;
  ahead = λ loss. next.ahead (first.ahead loss);
  gone = λ on gone. by (λ was. first.gone on was) (next.gone (first.registered ∙ on) gone);
}
  where
    by : (b.place.partner_registered ≡ false → (a.place.partner_registered ≡ false) ⊎ IsLossAhead b) → (b.place.partner_registered ≡ false) ⊎ IsLossAhead c
        → (a.place.partner_registered ≡ false) ⊎ IsLossAhead c
    by earlier (inr ahead) = inr ahead
    by earlier (inl was) = then (earlier was)
      where
        then : (a.place.partner_registered ≡ false) ⊎ IsLossAhead b → (a.place.partner_registered ≡ false) ⊎ IsLossAhead c
        then (inl is) = inl is
        then (inr ahead) = inr (next.ahead ahead)

-- an entry of another kind is no event
pub event_kind : (entry : QueueEntry) → (kind_of (first_byte entry) ≡ Event → ⊥) → first_byte entry ≡ 0xFF → ⊥
event_kind entry other says = other (ap kind_of says)

-- A send that neither put its entry nor found its slot full met a partner that is gone.
gone_send : (shared : Bool) (result : SendAnswer) (old new : EndState) → shared ≡ false → ((number : ℕ) → result ≡ sending.Success number → ⊥)
    → ((number held : ℕ) → result ≡ sending.Dropped number held → ⊥) → IfClosed result (TurnsBack shared old new) → OnNotSent result (old.registered ≡ false)
    → old.registered ≡ true → old.place.partner_registered ≡ false
gone_send shared (sending.Success number) old new alone sent dropped closed off on = absurd (sent number refl)
gone_send shared sending.Parameter old new alone sent dropped closed off on = absurd (cc (off, on))
gone_send shared sending.NotRegistered old new alone sent dropped closed off on = absurd (cc (off, on))
gone_send shared (sending.Closed control) old new alone sent dropped closed off on = closed.closed.meets.partner alone
gone_send shared (sending.Dropped number held) old new alone sent dropped closed off on = absurd (dropped number held refl)

-- THE ANSWER IN SERVICE

-- An answer was discarded, since the client is gone: an event says so.
pub owes_discarded : (shared : Bool) (result : SendAnswer) (books : Books) (judged : List Judged) (mid new : Owing) → shared ≡ false
    → ((number : ℕ) → result ≡ sending.Success number → ⊥) → ((number held : ℕ) → result ≡ sending.Dropped number held → ⊥)
    → IfClosed result (TurnsBack shared mid.queue new.queue) → OnNotSent result (mid.queue.registered ≡ false) → OnlySends shared mid.queue new.queue
    → AreKept books judged → books.pending ≡ mid.pending → books.current ≡ mid.current
    → new.id ≡ mid.id → new.current ≡ mid.current → row_in new.stage ≡ None → new.ended ≡ mid.ended → new.rows ≡ mid.rows → new.grants ≡ mid.grants
    → HasAnswers mid → HasAnswers new
owes_discarded shared result books judged mid new alone sent dropped closed off rest is pending on id current none ended rows grants has =
    owes_dropped (record mid { queue = new.queue }) new gone id current none ended refl rows grants after
  where
    after : HasAnswers (record mid { queue = new.queue })
    after = owes_seen mid (record mid { queue = new.queue }) (seen_sends shared mid.queue new.queue rest) refl refl refl refl refl refl refl has

    gone : (at : ℕ) → row_in mid.stage ≡ Some at → IsLossAhead new.queue
    gone at in_service =
        let hand = has.serving at in_service in
        let some = subst (λ (n : ℕ). 1 ≤ n) on (front_under books judged hand.front hand.rest is (pending ∙ hand.parts) hand.gets).1 in
        after.owed some ((λ i. (rest.place i).partner_registered) ∙ gone_send shared result mid.queue new.queue alone sent dropped closed off (has.goes_on some).0)

-- the session of a request that is pending goes on
pub pending_going : (books : Books) (judged : List Judged) (request : Request) (rest : List Request) → AreKept books judged → books.pending ≡ request ∷ rest → books.ended ≡ false
pending_going books judged request rest is parts = by books.ended refl
  where
    none : books.pending ≡ [] → ⊥
    none e = absurd (cc (parts, e))

    by : (b : Bool) → books.ended ≡ b → books.ended ≡ false
    by true over = absurd (none (is.idle over).0)
    by false on = on

-- a logout in front has no row in service
pub logout_front : (owing : Owing) (front : Request) (rest : List Request) (at : ℕ) → owing.pending ≡ front ∷ rest → gets_row front.order ≡ false → HasAnswers owing → row_in owing.stage ≡ Some at → ⊥
logout_front owing front rest at parts none has in_service =
    let hand = has.serving at in_service in
    other (front_same (sym hand.parts ∙ parts)) hand.gets
  where
    front_same : {a b : Request} {xs ys : List Request} → a ∷ xs ≡ b ∷ ys → a ≡ b
    front_same same = cc (same)

    other : {a : Request} → a ≡ front → gets_row a.order ≡ true → ⊥
    other same gets = absurd (cc (ap (λ (r : Request). gets_row r.order) same, gets, none))

-- Another stage of the same row.
pub owes_stage : (mid new : Owing) → row_in new.stage ≡ row_in mid.stage → SeesAnswers mid.queue new.queue → new.id ≡ mid.id → new.current ≡ mid.current → new.pending ≡ mid.pending
    → new.ended ≡ mid.ended → new.rows ≡ mid.rows → new.grants ≡ mid.grants → HasAnswers mid → HasAnswers new
owes_stage mid new same sees id current pending ended rows grants has =
    owes_seen (record mid { stage = new.stage }) new sees id current refl pending ended rows grants (record {
      each = λ at row there own none. by at row (has.each at row there own none);
      serving = λ at is. let hand = has.serving at (sym same ∙ is) in record { row = hand.row; there = hand.there; front = hand.front; rest = hand.rest; parts = hand.parts; gets = hand.gets };
      owed = has.owed;
      goes_on = has.goes_on;
    })
  where
    still : (at : ℕ) → (row_in mid.stage ≡ Some at) ⊎ IsLossAhead mid.queue → (row_in new.stage ≡ Some at) ⊎ IsLossAhead mid.queue
    still at (inl is) = inl (same ∙ is)
    still at (inr ahead) = inr ahead

    by : (at : ℕ) (row : RowState) → IsCutOff mid.id mid.grants row.session row.login ⊎ IsAwaited mid at row
        → IsCutOff mid.id mid.grants row.session row.login ⊎ IsAwaited (record mid { stage = new.stage }) at row
    by at row (inl cut) = inl cut
    by at row (inr is) = inr (record {
      number = is.number;
      credits = is.credits;
      granted = is.granted;
      session = is.session;
      going = is.going;
      why = still at is.why;
    })

pub entry_row : (outcome : Outcome) → row_in (stages.Entry outcome) ≡ row_in (stages.Answer outcome)
entry_row (outcomes.Granted number) = refl
entry_row outcomes.Rejected = refl
entry_row (outcomes.Served row) = refl

-- The request in service has its row, or not.
pub no_row_in : (stage : Stage) → has_row stage ≡ false → row_in stage ≡ None
no_row_in stages.Start none = refl
no_row_in stages.OutTable none = refl
no_row_in stages.InTable none = refl
no_row_in (stages.DataOut cursor) none = refl
no_row_in (stages.Given row reply) none = absurd (cc (none))
no_row_in (stages.DataIn row reply cursor) none = absurd (cc (none))
no_row_in (stages.Answer (outcomes.Granted number)) none = refl
no_row_in (stages.Answer outcomes.Rejected) none = refl
no_row_in (stages.Answer (outcomes.Served row)) none = absurd (cc (none))
no_row_in (stages.Entry (outcomes.Granted number)) none = refl
no_row_in (stages.Entry outcomes.Rejected) none = refl
no_row_in (stages.Entry (outcomes.Served row)) none = absurd (cc (none))

-- the bytes of a response
pub response_bytes : (bytes : List ℕ) → is_response_len (length bytes) ≡ true → has_bytes bytes ≡ true
response_bytes [] is = absurd (cc (is))
response_bytes (byte ∷ bytes) is = refl

pub served_bytes : (stage : Stage) (row : ℕ) (bytes : List ℕ) → stage ≡ stages.Entry (outcomes.Served row) → has_answer stage (length bytes) ≡ true → has_bytes bytes ≡ true
served_bytes stage row bytes at is = response_bytes bytes (subst (λ (s : Stage). has_answer s (length bytes) ≡ true) at is)

-- INTAKE

-- A request more is pending.
pub owes_pushed : (mid new : Owing) (request : Request) → new.pending ≡ mid.pending ++ request ∷ [] → new.id ≡ mid.id → new.current ≡ mid.current → new.stage ≡ mid.stage → new.ended ≡ mid.ended
    → new.queue ≡ mid.queue → new.rows ≡ mid.rows → new.grants ≡ mid.grants → HasAnswers mid → HasAnswers new
owes_pushed mid new request more id current stage ended queue rows grants has =
    owes_seen (record mid { pending = new.pending }) new (seen_same mid.queue new.queue queue) id current stage refl ended rows grants (record {
      each = λ at row there own none. by at row (has.each at row there own none);
      serving = λ at is.
          let hand = has.serving at is in
          record {
            row = hand.row;
            there = hand.there;
            front = hand.front;
            rest = hand.rest ++ request ∷ [];
            parts = more ∙ ap (λ (xs : List Request). xs ++ request ∷ []) hand.parts;
            gets = hand.gets;
          };
      owed = has.owed;
      goes_on = has.goes_on;
    })
  where
    by : (at : ℕ) (row : RowState) → IsCutOff mid.id mid.grants row.session row.login ⊎ IsAwaited mid at row
        → IsCutOff mid.id mid.grants row.session row.login ⊎ IsAwaited (record mid { pending = new.pending }) at row
    by at row (inl cut) = inl cut
    by at row (inr is) = inr (record {
      number = is.number;
      credits = is.credits;
      granted = is.granted;
      session = is.session;
      going = is.going;
      why = is.why;
    })

order_current : (old new : Logins) (login : ℕ) (bytes : List ℕ) (tag : ℕ) (order : Order) → Decides old new bytes (verdicts.Accepted login tag order) → new.current ≡ old.current
order_current old new login bytes tag (orders.Login request) is = is.0.current
order_current old new login bytes tag orders.Logout is = is.current
order_current old new login bytes tag (orders.Task task) is = is.stays.current
order_current old new login bytes tag (orders.Command command) is = is.stays.current
order_current old new login bytes tag orders.Unreadable is = is.stays.current

-- What is decided of an information unit leaves the login that is on.
pub decides_current : (old new : Logins) (bytes : List ℕ) (verdict : Verdict) → Decides old new bytes verdict → new.current ≡ old.current
decides_current old new bytes (verdicts.Accepted login tag order) is = order_current old new login bytes tag order is
decides_current old new bytes verdicts.Ignored is = is.0.current
decides_current old new bytes (verdicts.Fatal cause outstanding granted) is = is.0.current

-- It leaves how many requests a login grants.
pub decides_granted : (old new : Logins) (bytes : List ℕ) (verdict : Verdict) → Decides old new bytes verdict → new.granted ≡ old.granted
decides_granted old new bytes (verdicts.Accepted login tag order) is = by order is
  where
    by : (order : Order) → DecidesOrder old new login bytes order → new.granted ≡ old.granted
    by (orders.Login request) is = is.0.granted
    by orders.Logout is = is.granted
    by (orders.Task task) is = is.stays.granted
    by (orders.Command command) is = is.stays.granted
    by orders.Unreadable is = is.stays.granted
decides_granted old new bytes verdicts.Ignored is = is.0.granted
decides_granted old new bytes (verdicts.Fatal cause outstanding granted) is = is.0.granted

pub fatal_other : (old new : Logins) (bytes : List ℕ) (verdict : Verdict) (cause : Lapse) (outstanding granted : ℕ) → verdict ≡ verdicts.Fatal cause outstanding granted → Decides old new bytes verdict
    → is_logout cause ≡ false
fatal_other old new bytes verdict cause outstanding granted same is =
    let why : StaysOn old new × IsCause old bytes cause outstanding granted = subst (Decides old new bytes) same is in
    by cause (cause_fatal old bytes cause outstanding granted why.1)
  where
    by : (cause : Lapse) → is_fatal cause ≡ true → is_logout cause ≡ false
    by lapses.Logout fatal = absurd (cc (fatal))
    by lapses.Lost fatal = refl
    by other fatal = refl

-- the session of an answer that is to be put goes on
pub entry_going : (books : Books) (judged : List Judged) (outcome : Outcome) → AreKept books judged → books.stage ≡ stages.Entry outcome → books.ended ≡ false
entry_going books judged outcome is at = by outcome (subst (IsAtStage books.current books.pending) at is.stage)
  where
    by : (outcome : Outcome) → IsOutcome books.current books.pending outcome → books.ended ≡ false
    by (outcomes.Granted number) front = pending_going books judged front.front front.rest is front.parts
    by outcomes.Rejected front = pending_going books judged front.front front.rest is front.parts
    by (outcomes.Served row) front = pending_going books judged front.front front.rest is front.parts

-- the answer to a command whose data-in were copied, or refused
pub set_row : (stage stage' : Stage) (row : ℕ) (reply : ScsiReply) (cursor : Cursor) (result : Result (Unit {0}) NoMemory) → stage ≡ stages.DataIn row reply cursor
    → OnOk result (stage' ≡ stages.Answer (outcomes.Served row)) → OnErr result (stage' ≡ stage) → row_in stage' ≡ row_in stage
set_row stage stage' row reply cursor (Ok done) was ok err = ap row_in ok ∙ sym (ap row_in was)
set_row stage stage' row reply cursor (Err memory) was ok err = ap row_in err

-- a session that is to be freed is over
pub closing_ended : (line : Line) → line.closing ≡ true → is_ended line ≡ true
closing_ended line closing = ap (λ (over : Bool). over || is_down line.handshake) closing
