-- What the answer to the oldest request leaves, where nothing is amiss.
use Rattle.std.proofs.Common.{◌≡◌, ◌≢◌, ◌⊎◌, ◌==◌, ◌||◌, inl, inr, ◌+◌, ◌-◌, ◌/◌, ◌++◌, ◌≤◌, ℕ, Bool, true, false, cond, List, [], ◌∷◌, Option, Some, None, Result, Ok, Err, OnOk, drop, length, refl, sym, ◌∙◌, ap, subst, arith}
use Rattle.crq_session.specs.Answered.{Sends, TurnsBack}
use Rattle.crq_session.specs.Answers.{IfClosed, OnNotSent}
use Rattle.crq_session.specs.EndState.{EndState, OnlyReserves, OnlySends}
use Rattle.crq_session.specs.declared.answers.SendAnswer.{SendAnswer}
use Rattle.crq_session.specs.declared.answers.SendAnswer.TheVariants as sending
use Rattle.tce_window.specs.Pieces.{IsUsable}
use Rattle.tce_window.specs.Port.{Later}
use Rattle.tce_window.specs.declared.answers.Right.{Right}
use Rattle.tce_window.specs.declared.answers.Right.TheVariants.{Write}
use Rattle.vio_num.specs.Entry.{srp_entry}
use Rattle.vio_num.specs.declared.entry.Entry.{Entry}
use Rattle.vio_num.specs.declared.history.Grant.{Grant}
use Rattle.vio_num.specs.declared.memory.NoMemory.{NoMemory}
use Rattle.block_server.specs.Advances.{Advances}
use Rattle.srp_iu.specs.declared.login.LoginReq.{LoginReq}
use Rattle.srp_iu.specs.declared.response_code.ResponseCode.{ResponseCode}
use Rattle.block_server.specs.Entries.{is_answer_len, login_rej_len, login_rsp_len, rsp_code_len, rsp_len, rsp_sense_len}
use Rattle.block_server.specs.Judged.{gets_row}
use Rattle.block_server.specs.Orders.{IsCodeOf}
use Rattle.block_server.specs.Refusals.{DeniesAnswer}
use Rattle.block_server.specs.Stage.{is_answered, is_before_step}
use Rattle.block_server.specs.SiteState.{SiteState}
use Rattle.block_server.specs.Talk.{CopiesAnswer, EndsService, HasRoomFor, IsAnswerAt, IsServable, MayWriteAnswer, PutsAnswer, Replies, ServesFirst, SettlesLogins, Suits, SuitsStage, reach_of, session_rows, settled_lines}
use Rattle.block_server.specs.Waits.{MeetsUse}
use Rattle.block_server.specs.declared.logins.Logins.{Logins}
use Rattle.block_server.specs.declared.request.Order.{Order}
use Rattle.block_server.specs.declared.request.Order.TheVariants as orders
use Rattle.block_server.specs.declared.request.Request.{Request}
use Rattle.block_server.specs.declared.service.Outcome.{Outcome}
use Rattle.block_server.specs.declared.service.Outcome.TheVariants as outcomes
use Rattle.block_server.specs.declared.service.Stage.{Stage}
use Rattle.block_server.specs.declared.service.Stage.TheVariants as stages
use Rattle.block_server.specs.declared.unit.Unit.{Unit}
use Rattle.block_server.proofs.Listening.{first_is, not_put_reply, puts_none, sends_reply, slots_kept}
use Rattle.block_server.proofs.Talking.{not_denied, not_in_use}

-- THE OLDEST REQUEST -----------------------------------------------------------------------------

pub no_front : (items : List Request) (request : Request) (rest : List Request) → items ≡ request ∷ rest → items ≡ [] → ⊥
no_front items request rest parts none = cc (parts, none)

pub first_same : (items : List Request) (a b : Request) (xs ys : List Request) → items ≡ a ∷ xs → items ≡ b ∷ ys → a ≡ b
first_same items a b xs ys is same = cc (is, same)

entry_same : (entry : Entry) (long : ℕ) (a b : Request) → entry ≡ srp_entry long a.tag → a ≡ b → entry ≡ srp_entry long b.tag
entry_same entry long a b is same = is ∙ ap (λ (r : Request). srp_entry long r.tag) same

pub entry_one : (a b : Outcome) → stages.Entry a ≡ stages.Entry b → a ≡ b
entry_one a b e = cc (e)

-- ITS ENTRY --------------------------------------------------------------------------------------

-- the entry of the answer was put
pub puts_settled : (link : Bool) (unit unit' : Unit) (old new : EndState) (lines lines' : List Grant) (outcome : Outcome) (entry : Entry) (number : ℕ) (long : ℕ) (a b : Request) (xs ys : List Request)
    → link ≡ false → OnlySends link old new → Sends link old entry new number → unit.pending.items ≡ a ∷ xs → unit.pending.items ≡ b ∷ ys → entry ≡ srp_entry long a.tag → EndsService unit unit'
    → SettlesLogins outcome unit.logins unit'.logins → lines' ≡ lines ++ settled_lines outcome unit.id old.last_session unit.logins
    → PutsAnswer unit unit' old new lines lines' outcome (srp_entry long b.tag)
puts_settled link unit unit' old new lines lines' outcome entry number long a b xs ys alone rest sends front parts is over logins added = record {
  over = over;
  put = subst (λ (e : Entry). Replies old new (e ∷ [])) (entry_same entry long a b is (first_same unit.pending.items a b xs ys front parts)) (sends_reply link old new entry number alone rest sends);
  logins = λ on. logins;
  lines_are = λ on. added;
  none = λ off. absurd (cc (off, sends.puts.partner alone));
  no_line = λ off. absurd (cc (off, sends.puts.partner alone));
}

-- it was not, since the partner's queue is closed
pub closed_off : (link : Bool) (old new : EndState) (answer : SendAnswer) → link ≡ false → old.registered ≡ true → ((number : ℕ) → answer ≡ sending.Success number → ⊥)
    → ((number held : ℕ) → answer ≡ sending.Dropped number held → ⊥) → IfClosed answer (TurnsBack link old new) → OnNotSent answer (old.registered ≡ false) → old.place.partner_registered ≡ false
closed_off link old new (sending.Success number) alone on success dropped closed off = absurd (success number refl)
closed_off link old new (sending.Dropped number held) alone on success dropped closed off = absurd (dropped number held refl)
closed_off link old new (sending.Closed control) alone on success dropped closed off = closed.closed.meets.partner alone
closed_off link old new sending.Parameter alone on success dropped closed off = absurd (cc (on, off))
closed_off link old new sending.NotRegistered alone on success dropped closed off = absurd (cc (on, off))

pub puts_turned : (link : Bool) (unit unit' : Unit) (old new : EndState) (lines : List Grant) (outcome : Outcome) (entry : Entry) (answer : SendAnswer) (long : ℕ) (a b : Request) (xs ys : List Request)
    → link ≡ false → old.registered ≡ true → OnlySends link old new → ((number : ℕ) → answer ≡ sending.Success number → ⊥) → ((number held : ℕ) → answer ≡ sending.Dropped number held → ⊥)
    → IfClosed answer (TurnsBack link old new) → OnNotSent answer (old.registered ≡ false) → unit.pending.items ≡ a ∷ xs → unit.pending.items ≡ b ∷ ys → entry ≡ srp_entry long a.tag → EndsService unit unit'
    → unit'.logins ≡ unit.logins → PutsAnswer unit unit' old new lines lines outcome (srp_entry long b.tag)
puts_turned link unit unit' old new lines outcome entry answer long a b xs ys alone on rest success dropped closed off front parts is over logins =
    let none = closed_off link old new answer alone on success dropped closed off in
    record {
      over = over;
      put = subst (λ (e : Entry). Replies old new (e ∷ [])) (entry_same entry long a b is (first_same unit.pending.items a b xs ys front parts))
          (not_put_reply link old new entry answer alone on rest success dropped closed off);
      logins = λ up. absurd (cc (up, none));
      lines_are = λ up. absurd (cc (up, none));
      none = λ down. logins;
      no_line = λ down. refl;
    }

-- WRITING OVER IT --------------------------------------------------------------------------------

-- a shorter range touches no more entries
end_less : (ioba len : ℕ) → len ≤ 256 → (ioba + len + 4095) / 4096 ≤ (ioba + 256 + 4095) / 4096
end_less ioba len few = omega (arith, few)

usable_less : (values : ℕ → List ℕ) (right : Right) (n ioba len : ℕ) → len ≤ 256 → IsUsable values right n ioba 256 → IsUsable values right n ioba len
usable_less values right n ioba len few may e first last = may e first (omega (arith, last, end_less ioba len few))

-- no answer is longer
pub answer_few : (n : ℕ) → is_answer_len n ≡ true → n ≤ 256
answer_few n is = by (n == rsp_len) (n == rsp_code_len) (n == rsp_sense_len) (n == login_rsp_len) (n == login_rej_len) refl refl refl refl refl is
  where
    at : (m : ℕ) → (n == m) ≡ true → m ≤ 256 → n ≤ 256
    at m is few = omega (arith, few, first_is n m is)

    by : (a b c d e : Bool) → (n == rsp_len) ≡ a → (n == rsp_code_len) ≡ b → (n == rsp_sense_len) ≡ c → (n == login_rsp_len) ≡ d → (n == login_rej_len) ≡ e
        → ((a || (b || c)) || (d || e)) ≡ true → n ≤ 256
    by true b c d e is_a is_b is_c is_d is_e is = at rsp_len is_a (omega arith)
    by false true c d e is_a is_b is_c is_d is_e is = at rsp_code_len is_b (omega arith)
    by false false true d e is_a is_b is_c is_d is_e is = at rsp_sense_len is_c (omega arith)
    by false false false true e is_a is_b is_c is_d is_e is = at login_rsp_len is_d (omega arith)
    by false false false false true is_a is_b is_c is_d is_e is = at login_rej_len is_e (omega arith)
    by false false false false false is_a is_b is_c is_d is_e is = absurd (cc (is))

-- an answer that may be written is not denied
pub not_refused : (old new : SiteState) (pending rest : List Request) (request : Request) → old.shared ≡ false → pending ≡ request ∷ rest → MayWriteAnswer old.client request.address → DeniesAnswer old new pending → ⊥
not_refused old new pending rest request alone parts may denies =
    let same = first_same pending denies.front request denies.rest rest denies.parts parts in
    not_denied old new Write denies.front.address request.address denies.len denies.len denies.len alone
    (usable_less old.client.values Write old.client.place.size request.address denies.len (answer_few denies.len denies.answers) may) (ap (λ (r : Request). r.address) same) refl refl denies.denied_is

pub is_pending : (items rest : List Request) (request : Request) → items ≡ request ∷ rest → items ≢ []
is_pending items rest request parts none = cc (parts, none)

-- the window of a part of a turn in which nobody else has a hand
pub may_later : (old new : SiteState) (address : ℕ) → old.shared ≡ false → Advances old new → MayWriteAnswer old.client address → MayWriteAnswer new.client address
may_later old new address alone advances may =
    subst (λ (z : (ℕ → List ℕ) × ℕ). IsUsable z.0 Write z.1 address 256) (λ i. (values i, (sym advances.client_place i).size)) may
  where
    later : (shared : Bool) (a b : List ℕ) → shared ≡ false → Later shared a b → a ≡ b
    later true a b alone is = absurd (cc (alone))
    later false a b alone is = sym is

    values : old.client.values ≡ new.client.values
    values = λ i e. later old.shared (old.client.values e) (new.client.values e) alone (advances.values e) i

-- THE STAGE --------------------------------------------------------------------------------------

-- the answer of this outcome is to be copied, or its entry to be put
pub answer_at : (stage : Stage) → is_answered stage ≡ true → (outcome : Outcome) × IsAnswerAt stage outcome
answer_at (stages.Answer outcome) is = (outcome, inl refl)
answer_at (stages.Entry outcome) is = (outcome, inr refl)
answer_at stages.Start is = absurd (cc (is))
answer_at stages.OutTable is = absurd (cc (is))
answer_at stages.InTable is = absurd (cc (is))
answer_at (stages.DataOut cursor) is = absurd (cc (is))
answer_at (stages.Given row reply) is = absurd (cc (is))
answer_at (stages.DataIn row reply cursor) is = absurd (cc (is))

pub suits_at : (current : ℕ) (order : Order) (stage : Stage) (outcome : Outcome) → IsAnswerAt stage outcome → SuitsStage current order stage → Suits current order outcome
suits_at current order stage outcome (inl is) suits = subst (SuitsStage current order) is suits
suits_at current order stage outcome (inr is) suits = subst (SuitsStage current order) is suits

-- the answer is to be copied: its entry is not yet to be put
pub answer_is : (stage : Stage) (a b : Outcome) → stage ≡ stages.Answer a → IsAnswerAt stage b → a ≡ b
answer_is stage a b is (inl same) = cc (is, same)
answer_is stage a b is (inr other) = absurd (cc (is, other))

-- it was copied before
pub copied_before : (unit unit' : Unit) (lines : List Grant) (outcome : Outcome) → unit' ≡ unit → ((a : Outcome) → unit.service.stage ≡ stages.Answer a → ⊥) → IsAnswerAt unit.service.stage outcome
    → CopiesAnswer unit unit' lines lines outcome
copied_before unit unit' lines outcome same other (inl is) = absurd (other outcome is)
copied_before unit unit' lines outcome same other (inr is) = record {
  id = ap (λ (u : Unit). u.id) same;
  stage = ap (λ (u : Unit). u.service.stage) same ∙ is;
  answer = ap (λ (u : Unit). u.service.answer) same;
  pending = ap (λ (u : Unit). u.pending.items) same;
  line = ap (λ (u : Unit). u.line) same;
  waiting = ap (λ (u : Unit). u.waiting) same;
  logins = ap (λ (u : Unit). u.logins) same;
  lines_are = refl;
}

-- THE WHOLE --------------------------------------------------------------------------------------

ends_from : (unit unit1 unit' : Unit) → unit1.pending.items ≡ unit.pending.items → unit1.line ≡ unit.line → unit1.waiting ≡ unit.waiting → EndsService unit1 unit' → EndsService unit unit'
ends_from unit unit1 unit' pending line waiting is =
    record { pending = is.pending ∙ ap (drop 1) pending; line = is.line ∙ line; waiting = is.waiting ∙ waiting; stage = is.stage }

-- the same of what it was before, which is the same as far as this goes
pub puts_from : (unit unit1 unit' : Unit) (q q1 q' : EndState) (lines lines1 lines' : List Grant) (outcome : Outcome) (entry : Entry) → unit1.id ≡ unit.id → unit1.pending.items ≡ unit.pending.items → unit1.line ≡ unit.line
    → unit1.waiting ≡ unit.waiting → unit1.logins ≡ unit.logins → OnlyReserves q q1 → lines1 ≡ lines → PutsAnswer unit1 unit' q1 q' lines1 lines' outcome entry → PutsAnswer unit unit' q q' lines lines' outcome entry
puts_from unit unit1 unit' q q1 q' lines lines1 lines' outcome entry id pending line waiting logins reserves same is = record {
  over = ends_from unit unit1 unit' pending line waiting is.over;
  put = record {
    place = is.put.place ∙ reserves.place;
    last_session = is.put.last_session ∙ reserves.last_session;
    registered = is.put.registered ∙ reserves.registered;
    taken = is.put.taken ∙ reserves.taken;
    partner = is.put.partner ∙ partner;
    put = is.put.put ∙ (λ i. reserves.sent i ++ cond (reserves.place i).partner_registered (session_rows (partner i) (entry ∷ [])) []);
  };
  logins = λ on. subst (λ (l : Logins). SettlesLogins outcome l unit'.logins) logins (is.logins (registered ∙ on));
  lines_are = λ on. is.lines_are (registered ∙ on) ∙ (λ i. same i ++ settled_lines outcome (id i) (reserves.last_session i) (logins i));
  none = λ off. is.none (registered ∙ off) ∙ logins;
  no_line = λ off. is.no_line (registered ∙ off) ∙ same;
}
  where
    partner : q1.counts.partner_session ≡ q.counts.partner_session
    partner = ap (λ counts. counts.partner_session) reserves.counts

    registered : q1.place.partner_registered ≡ q.place.partner_registered
    registered = ap (λ place. place.partner_registered) reserves.place

pub same_reserves : (old new : EndState) → new ≡ old → OnlyReserves old new
same_reserves old new same = record {
  place = ap (λ (q : EndState). q.place) same;
  last_session = ap (λ (q : EndState). q.last_session) same;
  registered = ap (λ (q : EndState). q.registered) same;
  kept = ap (λ (q : EndState). q.kept) same;
  sent = ap (λ (q : EndState). q.sent) same;
  drops = ap (λ (q : EndState). q.drops) same;
  taken = ap (λ (q : EndState). q.taken) same;
  counts = ap (λ (q : EndState). q.counts) same;
}

-- the answer was copied, and then its entry put
pub answers_first : (link : Bool) (unit unit1 unit' : Unit) (q0 q1 q2 q' : EndState) (l0 l1 l2 l' : List Grant) (outcome found : Outcome) (request : Request) (rest : List Request) → OnlyReserves q0 q1 → q2 ≡ q1 → l1 ≡ l0
    → CopiesAnswer unit unit1 l1 l2 outcome → unit1.service.stage ≡ stages.Entry found → link ≡ false → q0.registered ≡ true → HasRoomFor q0 1 → unit.pending.items ≡ request ∷ rest
    → (link ≡ false → q2.registered ≡ true → HasRoomFor q2 1 → unit1.pending.items ≡ request ∷ rest → PutsAnswer unit1 unit' q2 q' l2 l' found (srp_entry (length unit1.service.answer.items) request.tag))
    → PutsAnswer unit unit' q0 q' l0 l' outcome (srp_entry (length unit.service.answer.items) request.tag)
answers_first link unit unit1 unit' q0 q1 q2 q' l0 l1 l2 l' outcome found request rest reserves same lines copied at alone on room parts put =
    puts_from unit unit1 unit' q0 q2 q' l0 l2 l' outcome (srp_entry (length unit.service.answer.items) request.tag) copied.id copied.pending copied.line copied.waiting copied.logins to (copied.lines_are ∙ lines)
    (subst (λ (z : Outcome × ℕ). PutsAnswer unit1 unit' q2 q' l2 l' z.0 (srp_entry z.1 request.tag)) (λ i. (one i, length (copied.answer i).items))
    (put alone (to.registered ∙ on) (slots_kept q0 q2 1 to.place (ap (λ counts. counts.partner_session) to.counts) (puts_none q0 q2 to.sent) room) (copied.pending ∙ parts)))
  where
    to : OnlyReserves q0 q2
    to = subst (OnlyReserves q0) (sym same) reserves

    one : found ≡ outcome
    one = entry_one found outcome (sym at ∙ copied.stage)

-- The oldest request was prepared, and then answered.
pub serve_first : {A : Type 0} (link : Bool) (unit unit2 unit' : Unit) (old mid new : SiteState) (l l2 l' : List Grant) (found request : Request) (xs rest : List Request) (stage : Stage) (result : Result A NoMemory)
    → IsServable unit (reach_of old) link request rest → unit.pending.items ≡ found ∷ xs → Advances old mid → mid.queue ≡ old.queue → unit2.id ≡ unit.id → unit2.pending.items ≡ unit.pending.items → unit2.line ≡ unit.line
    → unit2.waiting ≡ unit.waiting → unit2.logins ≡ unit.logins → unit2.service.stage ≡ stage → l2 ≡ l → (is_answered stage ≡ true) ⊎ MeetsUse old mid → SuitsStage unit.logins.current found.order stage → found.order ≢ orders.Logout
    → ((outcome : Outcome) → IsAnswerAt unit2.service.stage outcome → unit2.pending.items ≡ request ∷ rest → link ≡ false → mid.shared ≡ false → mid.queue.registered ≡ true → MayWriteAnswer mid.client request.address
    → HasRoomFor mid.queue 1 → OnOk result (PutsAnswer unit2 unit' mid.queue new.queue l2 l' outcome (srp_entry (length unit2.service.answer.items) request.tag)))
    → OnOk result (ServesFirst unit unit' old.queue new.queue l l' request)
serve_first link unit unit2 unit' old mid new l l2 l' found request xs rest stage (Err memory) servable front advances queue id pending line waiting logins at lines went suits other answers = tt
serve_first link unit unit2 unit' old mid new l l2 l' found request xs rest stage (Ok done) servable front advances queue id pending line waiting logins at lines went suits other answers = by went
  where
    to : OnlyReserves old.queue mid.queue
    to = same_reserves old.queue mid.queue queue

    by : (is_answered stage ≡ true) ⊎ MeetsUse old mid → ServesFirst unit unit' old.queue new.queue l l' request
    by (inr busy) = absurd (not_in_use old mid servable.apart busy)
    by (inl answered) =
        let is = answer_at stage answered in
        let same = first_same unit.pending.items found request xs rest front servable.pending in
        inr (record {
          outcome = is.0;
          suits = subst (λ (r : Request). Suits unit.logins.current r.order is.0) same (suits_at unit.logins.current found.order stage is.0 is.1 suits);
          long = length unit2.service.answer.items;
          put = puts_from unit unit2 unit' old.queue mid.queue new.queue l l2 l' is.0 (srp_entry (length unit2.service.answer.items) request.tag) id pending line waiting logins to lines
              (answers is.0 (subst (λ (s : Stage). IsAnswerAt s is.0) (sym at) is.1) (pending ∙ servable.pending) servable.alone (advances.shared ∙ servable.apart) (to.registered ∙ servable.registered)
              (may_later old mid request.address servable.apart advances (servable.may (λ asked. other (ap (λ (r : Request). r.order) same ∙ asked))))
              (slots_kept old.queue mid.queue 1 to.place (ap (λ counts. counts.partner_session) to.counts) (puts_none old.queue mid.queue to.sent) servable.slots));
        })

-- a command or a task that was served suits what was asked
pub served_suits : (current : ℕ) (order : Order) (stage : Stage) (row : ℕ) → gets_row order ≡ true → stage ≡ stages.Answer (outcomes.Served row) → SuitsStage current order stage
served_suits current order stage row gets is = subst (SuitsStage current order) (sym is) (by order gets)
  where
    by : (order : Order) → gets_row order ≡ true → Suits current order (outcomes.Served row)
    by (orders.Login request) gets = cc (gets)
    by orders.Logout gets = cc (gets)
    by (orders.Task task) gets = tt
    by (orders.Command command) gets = tt
    by orders.Unreadable gets = tt

pub coded_gets : (order : Order) (code : ResponseCode) → IsCodeOf order code → gets_row order ≡ true
coded_gets (orders.Login request) code is = absurd is
coded_gets orders.Logout code is = absurd is
coded_gets (orders.Task task) code is = refl
coded_gets (orders.Command command) code is = refl
coded_gets orders.Unreadable code is = refl

-- before the disk step there is no answer
pub before_suits : (current : ℕ) (order : Order) (stage : Stage) → is_before_step stage ≡ true → SuitsStage current order stage
before_suits current order stages.Start before = tt
before_suits current order stages.OutTable before = tt
before_suits current order stages.InTable before = tt
before_suits current order (stages.DataOut cursor) before = tt
before_suits current order (stages.Given row reply) before = tt
before_suits current order (stages.DataIn row reply cursor) before = tt
before_suits current order (stages.Answer outcome) before = absurd (cc (before))
before_suits current order (stages.Entry outcome) before = absurd (cc (before))

pub some_apart : {X : Type 0} (option : Option X) (x : X) → option ≡ Some x → option ≡ None → ⊥
some_apart option x some none = cc (some, none)

-- a request to log in
pub login_suits : {A : Type 0} (current : ℕ) (order : Order) (login : LoginReq) (stage : Stage) (result : Result A NoMemory) → OnOk result (SuitsStage current (orders.Login login) stage)
    → order ≡ orders.Login login → OnOk result (SuitsStage current order stage)
login_suits current order login stage result suits is = subst (λ (o : Order). OnOk result (SuitsStage current o stage)) (sym is) suits
