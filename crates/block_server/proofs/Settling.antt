-- What the answer to a request that was put says of a login: it granted one, and a line says so, rejected one, or answered no
-- such request.
use Rattle.std.proofs.Common.{◌≡◌, ◌++◌, ◌==◌, ◌∙◌, ◌⊎◌, inl, inr, ℕ, Bool, true, false, All, List, [], ◌∷◌, Some, None, filter, length, drop, refl, sym, ap, subst, append-nil}
use Rattle.std.specs.List.{Contains}
use Rattle.std.proofs.lemmas.Bool.{eqb-true}
use Rattle.std.proofs.lemmas.List.Elements.{All-nil, All-cons, All-head, Contains-push, filter-append}
use Rattle.crq_ring.specs.declared.rows.PipeRow.{PipeRow}
use Rattle.srp_iu.specs.Grammar.{Spells}
use Rattle.srp_iu.specs.declared.login.LoginReq.{LoginReq}
use Rattle.srp_iu.specs.declared.unit.Iu.TheVariants as ius
use Rattle.vio_num.specs.Entry.{srp_entry}
use Rattle.vio_num.specs.Words.{Begins}
use Rattle.vio_num.specs.declared.entry.Entry.{Entry}
use Rattle.vio_num.specs.declared.history.Grant.{Grant}
use Rattle.vio_num.specs.declared.history.Grant.TheVariants.{Granted}
use Rattle.vio_num.specs.declared.history.Served.{Served}
use Rattle.block_server.specs.Asked.{AskedAt, still_to_answer}
use Rattle.block_server.specs.Causes.{Hearing, told_to, units_at}
use Rattle.block_server.specs.Causes.News.{delivered, fetched}
use Rattle.block_server.specs.Dealt.{IsLoginAnswered, IsLoginSettled, IsPutOrLost, SendsSoFar}
use Rattle.block_server.specs.Judged.{is_login}
use Rattle.block_server.specs.Entries.{is_response_len, login_rej_len, login_rsp_len}
use Rattle.block_server.specs.Granting.{HasOffer, HasOtherFront, IsGrantedOver, IsOfferedOver, IsRejectedOver, IsRejectingOver, IsSrpAt}
use Rattle.block_server.specs.LoginAnswers.{IsGrantPut, IsLoginAnswer, IsRejectionPut, LoginAnswer, LoginsMore, grants_in, is_grant, is_login_answer, login_put}
use Rattle.block_server.specs.Orders.{IsOrder}
use Rattle.block_server.specs.Refusals.{AreAccounted, AreExplained, ExplainsOf, Front, HasEntry, IsExplained, Ledger, basis_in, to_answer}
use Rattle.block_server.specs.Serving.{AreBrought, Desk, IsAnswerKept, IsServing, Terms}
use Rattle.block_server.specs.Stage.{fits}
use Rattle.block_server.specs.declared.request.Order.{Order}
use Rattle.block_server.specs.declared.request.Order.TheVariants as orders
use Rattle.block_server.specs.declared.request.Request.{Request}
use Rattle.block_server.specs.declared.service.Outcome.{Outcome}
use Rattle.block_server.specs.declared.service.Outcome.TheVariants as outcomes
use Rattle.block_server.specs.declared.service.Stage.{Stage}
use Rattle.block_server.specs.declared.service.Stage.TheVariants as stages
use Rattle.block_server.proofs.Asking.{Leads, leads_same}
use Rattle.block_server.proofs.OnThen.{on_granted, on_same}
use Rattle.block_server.proofs.Ledgers.{IsGone, accounted, begins_same, deals_answered, explains_left, on_stays, sends_of}
use Rattle.block_server.proofs.Onces.{response_lens}
use Rattle.block_server.proofs.Refusing.{known_left}

head_is : (x y : Request) (xs ys : List Request) → x ∷ xs ≡ y ∷ ys → x ≡ y
head_is x y xs ys same = cc (same)

-- the entry of the answer to a request that is at the front
entry_of : (desk : Desk) (entry : Entry) (outcome : Outcome) (n : ℕ) (front : Request) (rest : List Request) (tag : ℕ) → IsAnswerKept desk entry outcome → (length desk.answer == n) ≡ true
    → desk.pending ≡ front ∷ rest → front.tag ≡ tag → entry ≡ srp_entry n tag
entry_of desk entry outcome n front rest tag kept len parts is =
    kept.entry_is ∙ (λ i. srp_entry (eqb-true (length desk.answer) n len i) (kept.request.tag))
    ∙ ap (srp_entry n) (ap (λ (r : Request). r.tag) (head_is kept.request front kept.rest rest (sym kept.front ∙ parts)) ∙ is)

-- The answer that grants a login was written over its request.
granted_over : (terms : Terms) (desk : Desk) (history : List Served) (taken : List PipeRow) (session number : ℕ) → desk.stage ≡ stages.Entry (outcomes.Granted number)
    → All (HasEntry taken session) desk.pending → IsServing terms desk history → IsGrantedOver (told_to terms.told desk.id) taken session number desk.logins.granted
granted_over terms desk history taken session number stage pending serving =
    let Hears = told_to terms.told desk.id in
    let over : IsOfferedOver Hears number desk.logins.granted desk.answer desk.pending =
    subst (λ (st : Stage). HasOffer Hears st desk.logins desk.answer desk.pending) stage serving.offer in
    let offer = over.offered in
    let has : HasEntry taken session offer.front = All-head (HasEntry taken session) offer.front offer.rest (subst (All (HasEntry taken session)) offer.parts pending) in
    let brought : AreBrought Hears (offer.front ∷ offer.rest) = subst (AreBrought Hears) offer.parts serving.brought in
    let spelled : Spells offer.front.unit.items (ius.LoginReq offer.asked) = subst (λ (order : Order). IsOrder order offer.front.unit.items) offer.asks offer.front.spelled in
    record {
      entry = has.entry;
      at = subst (λ (n : ℕ). IsSrpAt taken session n has.entry) offer.number_is has.at;
      bytes = offer.front.unit.items;
      long = has.long;
      brought = subst (λ (n : ℕ). Hears (fetched n units_at offer.front.unit.items)) has.address brought.0;
      asked = offer.asked;
      asks = spelled;
      may = offer.may;
      answer = desk.answer;
      grants = offer.grants;
      written = subst (λ (z : ℕ × ℕ). Hears (delivered units_at z.0 z.1 desk.answer)) (λ i. (has.address i, (offer.front.tagged ∙ sym spelled.unit.tag) i)) over.written;
    }

-- The answer that rejects one was.
rejected_over : (terms : Terms) (desk : Desk) (history : List Served) (taken : List PipeRow) (session : ℕ) (over : IsRejectingOver (told_to terms.told desk.id) desk.logins.current desk.answer desk.pending)
    → All (HasEntry taken session) desk.pending → IsServing terms desk history → IsRejectedOver (told_to terms.told desk.id) taken session over.rejecting.front.number
rejected_over terms desk history taken session over pending serving =
    let Hears = told_to terms.told desk.id in
    let offer = over.rejecting in
    let has : HasEntry taken session offer.front = All-head (HasEntry taken session) offer.front offer.rest (subst (All (HasEntry taken session)) offer.parts pending) in
    let brought : AreBrought Hears (offer.front ∷ offer.rest) = subst (AreBrought Hears) offer.parts serving.brought in
    let spelled : Spells offer.front.unit.items (ius.LoginReq offer.asked) = subst (λ (order : Order). IsOrder order offer.front.unit.items) offer.asks offer.front.spelled in
    record {
      entry = has.entry;
      at = has.at;
      bytes = offer.front.unit.items;
      long = has.long;
      brought = subst (λ (n : ℕ). Hears (fetched n units_at offer.front.unit.items)) has.address brought.0;
      asked = offer.asked;
      asks = spelled;
      current = desk.logins.current;
      answer = desk.answer;
      rejects = offer.rejects;
      written = subst (λ (z : ℕ × ℕ). Hears (delivered units_at z.0 z.1 desk.answer)) (λ i. (has.address i, (offer.front.tagged ∙ sym spelled.unit.tag) i)) over.written;
    }

-- They were put.
granted_put : (terms : Terms) (desk : Desk) (history : List Served) (taken : List PipeRow) (session number : ℕ) (entry : Entry) → desk.stage ≡ stages.Entry (outcomes.Granted number)
    → IsAnswerKept desk entry (outcomes.Granted number) → (length desk.answer == login_rsp_len) ≡ true → All (HasEntry taken session) desk.pending → IsServing terms desk history
    → IsGrantPut (told_to terms.told desk.id) taken session number desk.logins.granted entry (record { session = session; number = number })
unfolding granted_over
granted_put terms desk history taken session number entry stage kept len pending serving =
    let Hears = told_to terms.told desk.id in
    let over : IsOfferedOver Hears number desk.logins.granted desk.answer desk.pending =
    subst (λ (st : Stage). HasOffer Hears st desk.logins desk.answer desk.pending) stage serving.offer in
    let offer = over.offered in
    let spelled : Spells offer.front.unit.items (ius.LoginReq offer.asked) = subst (λ (order : Order). IsOrder order offer.front.unit.items) offer.asks offer.front.spelled in
    record {
      over = granted_over terms desk history taken session number stage pending serving;
      entry_is = entry_of desk entry (outcomes.Granted number) login_rsp_len offer.front offer.rest offer.asked.tag kept len offer.parts (offer.front.tagged ∙ sym spelled.unit.tag);
      asked_is = refl;
    }

rejected_put : (terms : Terms) (desk : Desk) (history : List Served) (taken : List PipeRow) (session : ℕ) (entry : Entry) → desk.stage ≡ stages.Entry outcomes.Rejected
    → IsAnswerKept desk entry outcomes.Rejected → (length desk.answer == login_rej_len) ≡ true → All (HasEntry taken session) desk.pending → IsServing terms desk history
    → (first : Request) (rest : List Request) → desk.pending ≡ first ∷ rest
    → IsRejectionPut (told_to terms.told desk.id) taken entry (record { session = session; number = first.number }) desk.logins.current
unfolding rejected_over
rejected_put terms desk history taken session entry stage kept len pending serving first rest parts =
    let Hears = told_to terms.told desk.id in
    let over : IsRejectingOver Hears desk.logins.current desk.answer desk.pending =
    subst (λ (st : Stage). HasOffer Hears st desk.logins desk.answer desk.pending) stage serving.offer in
    let offer = over.rejecting in
    let spelled : Spells offer.front.unit.items (ius.LoginReq offer.asked) = subst (λ (order : Order). IsOrder order offer.front.unit.items) offer.asks offer.front.spelled in
    subst (λ (n : ℕ). IsRejectionPut Hears taken entry (record { session = session; number = n }) desk.logins.current)
    (ap (λ (r : Request). r.number) (head_is offer.front first offer.rest rest (sym offer.parts ∙ parts))) (record {
      over = rejected_over terms desk history taken session over pending serving;
      entry_is = entry_of desk entry outcomes.Rejected login_rej_len offer.front offer.rest offer.asked.tag kept len offer.parts (offer.front.tagged ∙ sym spelled.unit.tag);
      on_is = refl;
    })

-- The oldest request, whose answer was copied, asks for no login, or was answered.
gone_at : (terms : Terms) (desk : Desk) (history : List Served) (taken : List PipeRow) (session : ℕ) (outcome : Outcome) → desk.stage ≡ stages.Entry outcome
    → All (HasEntry taken session) desk.pending → IsServing terms desk history → (front : Request) (rest : List Request) → desk.pending ≡ front ∷ rest
    → (is_login front.order ≡ false) ⊎ IsLoginAnswered (told_to terms.told desk.id) taken session front.number
gone_at terms desk history taken session (outcomes.Granted number) stage pending serving front rest parts =
    let Hears = told_to terms.told desk.id in
    let over : IsOfferedOver Hears number desk.logins.granted desk.answer desk.pending =
    subst (λ (st : Stage). HasOffer Hears st desk.logins desk.answer desk.pending) stage serving.offer in
    let offer = over.offered in
    inr (inl (
      desk.logins.granted,
      subst (λ (n : ℕ). IsGrantedOver Hears taken session n desk.logins.granted)
          (sym offer.number_is ∙ ap (λ (r : Request). r.number) (head_is offer.front front offer.rest rest (sym offer.parts ∙ parts)))
          (granted_over terms desk history taken session number stage pending serving),
    ))
gone_at terms desk history taken session outcomes.Rejected stage pending serving front rest parts =
    let Hears = told_to terms.told desk.id in
    let over : IsRejectingOver Hears desk.logins.current desk.answer desk.pending =
    subst (λ (st : Stage). HasOffer Hears st desk.logins desk.answer desk.pending) stage serving.offer in
    let offer = over.rejecting in
    inr (inr (subst (IsRejectedOver Hears taken session) (ap (λ (r : Request). r.number) (head_is offer.front front offer.rest rest (sym offer.parts ∙ parts)))
    (rejected_over terms desk history taken session over pending serving)))
gone_at terms desk history taken session (outcomes.Served row) stage pending serving front rest parts =
    let Hears = told_to terms.told desk.id in
    let other : HasOtherFront desk.pending = subst (λ (st : Stage). HasOffer Hears st desk.logins desk.answer desk.pending) stage serving.offer in
    inl (subst (λ (r : Request). is_login r.order ≡ false) (head_is other.front front other.rest rest (sym other.parts ∙ parts)) other.other)

-- what an entry adds to the answers to requests to log in
put_some : (entry : Entry) (n tag : ℕ) → entry ≡ srp_entry n tag → is_login_answer (srp_entry n tag) ≡ true → login_put entry ≡ entry ∷ []
put_some entry n tag is answers = rw (ap is_login_answer is ∙ answers) refl

put_none : (entry : Entry) (n tag : ℕ) → entry ≡ srp_entry n tag → is_login_answer (srp_entry n tag) ≡ false → login_put entry ≡ []
put_none entry n tag is answers = rw (ap is_login_answer is ∙ answers) refl

grant_added : (lines lines' : List Grant) (line : Grant) → is_grant line ≡ true → lines' ≡ lines ++ line ∷ [] → grants_in lines' ≡ grants_in lines ++ line ∷ []
grant_added lines lines' line grants more = ap grants_in more ∙ filter-append is_grant lines (line ∷ []) ∙ ap (λ list. grants_in lines ++ list) (one grants)
  where
    one : is_grant line ≡ true → grants_in (line ∷ []) ≡ line ∷ []
    one e = rw e refl

-- The oldest request was answered, and its entry is put or discarded; no line came.
module _ (terms : Terms) (desk : Desk) (history : List Served) (old : Ledger) (outcome : Outcome) (stage : desk.stage ≡ stages.Entry outcome) (requests : desk.pending ≡ old.pending) (serving : IsServing terms desk history) where
  gone_from : (since : List Grant) → AreExplained terms.told desk.id since (basis_in old) → (first : Request) (rest : List Request) → old.pending ≡ first ∷ rest
      → (is_login first.order ≡ false) ⊎ IsLoginAnswered (told_to terms.told desk.id) old.taken old.session first.number
  gone_from since known first rest parts =
      gone_at terms desk history old.taken old.session outcome stage (subst (All (HasEntry old.taken old.session)) (sym requests) known.pending) serving first rest (requests ∙ parts)

  -- its entry was put, or lost
  gone_with : (since : List Grant) (sends : SendsSoFar) → AreExplained terms.told desk.id since (basis_in old)
      → ((first : Request) (rest : List Request) → old.pending ≡ first ∷ rest → IsPutOrLost sends old.session first.number) → IsGone (told_to terms.told desk.id) sends old
  gone_with since sends known put first rest parts = by (gone_from since known first rest parts)
    where
      by : (is_login first.order ≡ false) ⊎ IsLoginAnswered (told_to terms.told desk.id) old.taken old.session first.number
          → (is_login first.order ≡ false) ⊎ IsLoginSettled (told_to terms.told desk.id) old.taken sends old.session first.number
      by (inl other) = inl other
      by (inr is) = inr (record { answered = is; put = put first rest parts })

  -- it was put, and is the last that was
  gone_put : (since : List Grant) (front : Front) (put : List AskedAt) (asked : AskedAt) → AreExplained terms.told desk.id since (basis_in old)
      → ((first : Request) (rest : List Request) → old.pending ≡ first ∷ rest → asked ≡ record { session = old.session; number = first.number })
      → IsGone (told_to terms.told desk.id) (sends_of front (put ++ asked ∷ [])) old
  gone_put since front put asked known at = gone_with since (sends_of front (put ++ asked ∷ [])) known
      (λ first rest parts. inl (subst (Contains (put ++ asked ∷ [])) (at first rest parts) (Contains-push put asked)))

-- while a request is pending the session goes on
goes_on : {pending : List Request} (ended : Bool) (first : Request) (rest : List Request) → pending ≡ first ∷ rest → (ended ≡ true → pending ≡ []) → ended ≡ false
goes_on false first rest parts idle = refl
goes_on {pending} true first rest parts idle = absurd (some (sym (idle refl) ∙ parts))
  where
    some : [] ≡ first ∷ rest → ⊥
    some same = cc (same)

-- Its entry was discarded, since the client's queue was closed.
pub explains_finished : (terms : Terms) (desk : Desk) (history : List Served) (old new : Ledger) (outcome : Outcome) → desk.stage ≡ stages.Entry outcome → desk.pending ≡ old.pending
    → new.session ≡ old.session → new.taken ≡ old.taken → new.waiting ≡ old.waiting → new.ended ≡ old.ended
    → new.pending ≡ drop 1 old.pending → new.lines ≡ old.lines → new.answers ≡ old.answers → new.id ≡ old.id → new.current ≡ old.current → IsServing terms desk history → (front : Front)
    → ((earlier : List AskedAt) → front.asked ≡ Some earlier → old.ended ≡ false → front.closed old.session ≡ true)
    → AreAccounted terms.told desk.id front old → AreAccounted terms.told desk.id front new
explains_finished terms desk history old new outcome stage requests session taken waiting ended pending same answers id current = λ serving front lost is.
    explains_left terms.told desk.id front old new [] session taken waiting ended pending (same ∙ sym (append-nil old.lines))
    (All-nil (IsExplained (told_to terms.told desk.id) desk.id old.taken)) (ap grants_in same) answers
    (λ known earlier put some. gone_with terms desk history old outcome stage requests serving front.since (sends_of front put) known
    (λ first rest parts. inr (lost earlier some (goes_on old.ended first rest parts (λ over. (known.idle over).1)))))
    (on_stays old new id current session ended same) is

-- what is still to be answered behind the request that was: it was asked where that was
answer_given : (old new : Ledger) (asked : AskedAt) (first : Request) (rest : List Request) → old.pending ≡ first ∷ rest → asked ≡ record { session = old.session; number = first.number }
    → new.session ≡ old.session → new.taken ≡ old.taken → new.waiting ≡ old.waiting → new.pending ≡ drop 1 old.pending → Leads (to_answer old) (asked ∷ to_answer new)
answer_given old new asked first rest parts at session taken waiting pending =
    leads_same (to_answer old) (asked ∷ to_answer new)
    ((λ i. at i ∷ still_to_answer (session i) (taken i) (waiting i) ((pending ∙ ap (drop 1) parts) i)) ∙ ap (still_to_answer old.session old.taken old.waiting) (sym parts))

-- The request that was granted its login is at the front.
front_granted : (terms : Terms) (desk : Desk) (history : List Served) (number : ℕ) → desk.stage ≡ stages.Entry (outcomes.Granted number) → IsServing terms desk history
    → IsOfferedOver (told_to terms.told desk.id) number desk.logins.granted desk.answer desk.pending
front_granted terms desk history number stage serving =
    subst (λ (st : Stage). HasOffer (told_to terms.told desk.id) st desk.logins desk.answer desk.pending) stage serving.offer

front_rejected : (terms : Terms) (desk : Desk) (history : List Served) → desk.stage ≡ stages.Entry outcomes.Rejected → IsServing terms desk history
    → IsRejectingOver (told_to terms.told desk.id) desk.logins.current desk.answer desk.pending
front_rejected terms desk history stage serving =
    subst (λ (st : Stage). HasOffer (told_to terms.told desk.id) st desk.logins desk.answer desk.pending) stage serving.offer

-- A login was granted: a line says so.
pub explains_granted : (terms : Terms) (desk : Desk) (history : List Served) (old new : Ledger) (login number credits : ℕ) (entry : Entry) → desk.stage ≡ stages.Entry (outcomes.Granted number)
    → IsAnswerKept desk entry (outcomes.Granted number) → (length desk.answer == login_rsp_len) ≡ true
    → desk.pending ≡ old.pending → credits ≡ desk.logins.granted → new.session ≡ old.session → new.taken ≡ old.taken → new.waiting ≡ old.waiting → new.ended ≡ old.ended → new.pending ≡ drop 1 old.pending
    → new.lines ≡ old.lines ++ Granted desk.id old.session login number credits ∷ [] → new.answers ≡ old.answers ++ login_put entry → new.id ≡ old.id → old.id ≡ desk.id → new.current ≡ login → ExplainsOf terms desk history old new
explains_granted terms desk history old new login number credits entry stage kept len requests same session taken waiting ended pending more answers id named current = λ serving front is.
    let Hears = told_to terms.told desk.id in
    let P = IsExplained Hears desk.id old.taken in
    let line = Granted desk.id old.session login number credits in
    let put = granted_put terms desk history old.taken old.session number entry stage kept len (subst (All (HasEntry old.taken old.session)) (sym requests) is.known.pending) serving in
    let asked : AskedAt = record { session = old.session; number = number } in
    let put' : IsGrantPut Hears old.taken old.session number credits entry asked = subst (λ (n : ℕ). IsGrantPut Hears old.taken old.session number n entry asked) (sym same) put in
    let answer : LoginAnswer = record { entry = entry; line = Some line; asked = asked; on = 0 } in
    let offer = (front_granted terms desk history number stage serving).offered in
    let going : old.ended ≡ false = goes_on old.ended offer.front offer.rest (sym requests ∙ offer.parts) (λ over. (is.known.idle over).1) in
    let all : new.lines ≡ old.lines ++ Granted old.id old.session login number credits ∷ [] = more ∙ (λ i. old.lines ++ Granted (sym named i) old.session login number credits ∷ []) in
    accounted terms.told desk.id front old new
    (known_left terms.told desk.id front.since (basis_in old) (basis_in new) 1 (line ∷ []) session taken waiting ended pending more (All-cons P line [] (λ own. put'.over) (All-nil P)))
    (begins_same old.taken new.taken taken)
    (record {
      more = answer ∷ [];
      put = answers ∙ ap (λ list. old.answers ++ list) (put_some entry login_rsp_len put.over.asked.tag put.entry_is refl);
      granted = grant_added old.lines new.lines line refl more;
      each = subst (λ rows. All (IsLoginAnswer Hears rows) (answer ∷ [])) (sym taken) (All-cons (IsLoginAnswer Hears old.taken) answer [] put' (All-nil (IsLoginAnswer Hears old.taken)));
    })
    (deals_answered Hears front (asked ∷ []) old new session taken waiting ended pending
    (λ put. gone_put terms desk history old (outcomes.Granted number) stage requests serving front.since front put asked is.known
    (λ first rest parts i. record { session = old.session; number = (sym offer.number_is ∙ ap (λ (r : Request). r.number) (head_is offer.front first offer.rest rest (sym offer.parts ∙ requests ∙ parts))) i })))
    (answer_given old new asked offer.front offer.rest (sym requests ∙ offer.parts) (λ i. record { session = old.session; number = (sym offer.number_is) i }) session taken waiting pending)
    (record {
      id = id;
      lines = (line ∷ [], more);
      on = λ was. on_same old.id new.id old.session new.session login new.current old.ended new.ended (old.lines ++ Granted old.id old.session login number credits ∷ []) new.lines id session current ended all
          (on_granted old.id old.session old.current login number credits old.ended old.ended old.lines going was);
    })
    (λ on. (tt, tt)) is

-- One was rejected.
pub explains_rejected : (terms : Terms) (desk : Desk) (history : List Served) (old new : Ledger) (entry : Entry) → desk.stage ≡ stages.Entry outcomes.Rejected
    → IsAnswerKept desk entry outcomes.Rejected → (length desk.answer == login_rej_len) ≡ true
    → desk.pending ≡ old.pending → new.session ≡ old.session → new.taken ≡ old.taken → new.waiting ≡ old.waiting → new.ended ≡ old.ended → new.pending ≡ drop 1 old.pending
    → new.lines ≡ old.lines → new.answers ≡ old.answers ++ login_put entry → new.id ≡ old.id → new.current ≡ old.current → desk.logins.current ≡ old.current → ExplainsOf terms desk history old new
explains_rejected terms desk history old new entry stage kept len requests session taken waiting ended pending lines answers id current on_is = λ serving front is.
    let Hears = told_to terms.told desk.id in
    let P = IsExplained Hears desk.id old.taken in
    let first = (front_rejected terms desk history stage serving).rejecting in
    let asked : AskedAt = record { session = old.session; number = first.front.number } in
    let put = rejected_put terms desk history old.taken old.session entry stage kept len (subst (All (HasEntry old.taken old.session)) (sym requests) is.known.pending) serving first.front first.rest first.parts in
    let answer : LoginAnswer = record { entry = entry; line = None; asked = asked; on = desk.logins.current } in
    accounted terms.told desk.id front old new
    (known_left terms.told desk.id front.since (basis_in old) (basis_in new) 1 [] session taken waiting ended pending (lines ∙ sym (append-nil old.lines)) (All-nil P))
    (begins_same old.taken new.taken taken)
    (record {
      more = answer ∷ [];
      put = answers ∙ ap (λ list. old.answers ++ list) (put_some entry login_rej_len put.over.asked.tag put.entry_is refl);
      granted = ap grants_in lines ∙ sym (append-nil (grants_in old.lines));
      each = subst (λ rows. All (IsLoginAnswer Hears rows) (answer ∷ [])) (sym taken) (All-cons (IsLoginAnswer Hears old.taken) answer [] put (All-nil (IsLoginAnswer Hears old.taken)));
    })
    (deals_answered Hears front (asked ∷ []) old new session taken waiting ended pending
    (λ put. gone_put terms desk history old outcomes.Rejected stage requests serving front.since front put asked is.known
    (λ other rest parts i. record { session = old.session; number = ap (λ (r : Request). r.number) (head_is first.front other first.rest rest (sym first.parts ∙ requests ∙ parts)) i })))
    (answer_given old new asked first.front first.rest (sym requests ∙ first.parts) refl session taken waiting pending)
    (on_stays old new id current session ended lines)
    (λ on. (record { before = old.lines; after = []; parts = lines ∙ sym (append-nil old.lines); grants = refl; on_is = on_is ∙ on.on }, tt)) is

-- A command or a task was answered.
served_none : (desk : Desk) (entry : Entry) (row : ℕ) → IsAnswerKept desk entry (outcomes.Served row) → is_response_len (length desk.answer) ≡ true → login_put entry ≡ []
served_none desk entry row kept len = at (response_lens (length desk.answer) len)
  where
    by : (n : ℕ) → length desk.answer ≡ n → is_login_answer (srp_entry n kept.request.tag) ≡ false → login_put entry ≡ []
    by n is none = put_none entry n kept.request.tag (kept.entry_is ∙ ap (λ (k : ℕ). srp_entry k kept.request.tag) is) none

    at : (length desk.answer ≡ 36) ⊎ ((length desk.answer ≡ 40) ⊎ (length desk.answer ≡ 54)) → login_put entry ≡ []
    at (inl is) = by 36 is refl
    at (inr (inl is)) = by 40 is refl
    at (inr (inr is)) = by 54 is refl

pub explains_served : (terms : Terms) (desk : Desk) (history : List Served) (old new : Ledger) (entry : Entry) (row : ℕ) → desk.stage ≡ stages.Entry (outcomes.Served row)
    → IsAnswerKept desk entry (outcomes.Served row) → is_response_len (length desk.answer) ≡ true → desk.pending ≡ old.pending
    → new.session ≡ old.session → new.taken ≡ old.taken → new.waiting ≡ old.waiting → new.ended ≡ old.ended → new.pending ≡ drop 1 old.pending → new.lines ≡ old.lines
    → new.answers ≡ old.answers ++ login_put entry → new.id ≡ old.id → new.current ≡ old.current → ExplainsOf terms desk history old new
explains_served terms desk history old new entry row stage kept len requests session taken waiting ended pending lines answers id current =
    λ serving front is.
    explains_left terms.told desk.id front old new [] session taken waiting ended pending (lines ∙ sym (append-nil old.lines))
    (All-nil (IsExplained (told_to terms.told desk.id) desk.id old.taken)) (ap grants_in lines)
    (answers ∙ ap (λ list. old.answers ++ list) (served_none desk entry row kept len) ∙ append-nil old.answers)
    (λ known earlier put some first rest parts. inl (other_at (subst (λ (st : Stage). HasOffer (told_to terms.told desk.id) st desk.logins desk.answer desk.pending) stage serving.offer) first rest parts))
    (on_stays old new id current session ended lines) is
  where
    other_at : HasOtherFront desk.pending → (first : Request) (rest : List Request) → old.pending ≡ first ∷ rest → is_login first.order ≡ false
    other_at other first rest parts = subst (λ (r : Request). is_login r.order ≡ false) (head_is other.front first other.rest rest (sym other.parts ∙ requests ∙ parts)) other.other
