-- What was put into a plain client's queue answers what it asked, and a command with data-in that was answered has its row: what a turn of its
-- server unit, and one of its own, keep of that.
use Rattle.std.proofs.Common.{◌≡◌, ◌∙◌, ◌⊎◌, ◌++◌, ◌≤◌, inl, inr, ℕ, All, Bool, true, false, true≢false, cond, Contains, drop, List, [], ◌∷◌, length, refl, sym, ap, subst, arith}
use Rattle.std.proofs.lemmas.List.Elements.{All-append, All-cons, All-head, All-nil, All-push, All-tail, All-weaker, Contains-append_left, Contains-append_right}
use Rattle.vio_num.specs.Entry.{initialization_complete, is_srp_entry, srp_entry}
use Rattle.vio_num.specs.declared.entry.Entry.{Entry}
use Rattle.vio_num.specs.declared.history.Grant.{Grant}
use Rattle.vio_num.specs.declared.history.Served.{Served}
use Rattle.vio_num.specs.declared.names.UnitId.{UnitId}
use Rattle.crq_ring.specs.declared.rows.PipeRow.{PipeRow}
use Rattle.crq_session.specs.Answered.{taken_now}
use Rattle.crq_session.specs.EndState.{EndState}
use Rattle.srp_iu.specs.declared.unit.Iu.{Iu}
use Rattle.srp_iu.specs.declared.unit.Iu.TheVariants as units
use Rattle.vio_trace.specs.declared.rows.AnswerRow.{AnswerRow}
use Rattle.block_server.specs.Judged.{gets_row, is_login}
use Rattle.block_server.specs.RowsOn.{AddsFor, RowsOn}
use Rattle.block_server.specs.Talk.{AnswersRequest, HearsAll, PutsReplies, Reach, ServesNext, Suits, Talk, TalksOn, Word, order_asked, replies, session_rows, talk_of}
use Rattle.block_server.specs.Talk.Word.{asks, begins, gone}
use Rattle.block_server.specs.declared.request.Order.{Order}
use Rattle.block_server.specs.declared.request.Order.TheVariants as orders
use Rattle.block_server.specs.declared.request.Request.{Request}
use Rattle.block_server.specs.declared.service.Outcome.{Outcome}
use Rattle.block_server.specs.declared.service.Outcome.TheVariants as outcomes
use Rattle.block_server.specs.declared.unit.Unit.{Unit}
use Rattle.vscsi_client.specs.State.{ClientState, tags_of}
use Rattle.vscsi_client.specs.declared.outgoing.Outgoing.{Outgoing}
use Rattle.vscsi_client.specs.declared.row.Row.{Row}
use Rattle.vcpu_run.specs.AnswersTaken.{has_tag}
use Rattle.vcpu_run.specs.DataKept.{KeepsData}
use Rattle.vcpu_run.specs.PlainRows.{AnswersKept, IsAnswerFor, RequestsRise, TagsKept, tags_by}
use Rattle.vcpu_run.specs.PlainSteps.{AsksAnew, KeepsLogin}
use Rattle.vcpu_run.specs.PlainTalk.{is_login as asks_login}
use Rattle.vcpu_run.specs.TagRows.{is_inward, row_at}
use Rattle.vcpu_run.proofs.LinesShown.{contains_first}
use Rattle.vcpu_run.proofs.PlainTags.{tags_added}

-- ---- what was put

pub put_rows : (P : Entry → Type 0) (old new : EndState) (entries : List Entry) → All (λ (row : PipeRow). P row.entry) old.sent → All P entries → PutsReplies old new entries
    → All (λ (row : PipeRow). P row.entry) new.sent
put_rows P old new entries all more put =
    subst (All (λ (row : PipeRow). P row.entry)) (sym put)
    (All-append (λ (row : PipeRow). P row.entry) old.sent (cond old.place.partner_registered (session_rows old.counts.partner_session entries) []) all (by old.place.partner_registered))
  where
    rows : (session : ℕ) (list : List Entry) → All P list → All (λ (row : PipeRow). P row.entry) (session_rows session list)
    rows session [] each = All-nil (λ (row : PipeRow). P row.entry)
    rows session (entry ∷ list) each =
        All-cons (λ (row : PipeRow). P row.entry) (record { session = session; entry = entry }) (session_rows session list) (All-head P entry list each)
        (rows session list (All-tail P entry list each))

    by : (b : Bool) → All (λ (row : PipeRow). P row.entry) (cond b (session_rows old.counts.partner_session entries) [])
    by true = rows old.counts.partner_session entries more
    by false = All-nil (λ (row : PipeRow). P row.entry)

-- an entry that carries no information unit answers nothing
no_answer : (tags : List ℕ) (rs : List Row) (entry : Entry) → is_srp_entry entry ≡ false → IsAnswerFor tags rs entry
no_answer tags rs entry is = record {
  asked = λ srp. absurd (true≢false (sym srp ∙ is));
  row = λ srp inward. absurd (true≢false (sym srp ∙ is));
}

no_answers : (tags : List ℕ) (rs : List Row) (words : List Word) → All (IsAnswerFor tags rs) (replies words)
no_answers tags rs [] = All-nil (IsAnswerFor tags rs)
no_answers tags rs (begins ∷ words) =
    All-cons (IsAnswerFor tags rs) initialization_complete (replies words) (no_answer tags rs initialization_complete refl) (no_answers tags rs words)
no_answers tags rs (gone ∷ words) = no_answers tags rs words
no_answers tags rs (asks address bytes iu ∷ words) = no_answers tags rs words

-- more rows do no harm
more_tags : (tags tags' : List ℕ) (rs : List Row) (sent : List PipeRow) → ((tag : ℕ) → Contains tags tag → Contains tags' tag) → All (λ (row : PipeRow). IsAnswerFor tags rs row.entry) sent
    → All (λ (row : PipeRow). IsAnswerFor tags' rs row.entry) sent
more_tags tags tags' rs sent more all =
    All-weaker (λ (row : PipeRow). IsAnswerFor tags rs row.entry) (λ (row : PipeRow). IsAnswerFor tags' rs row.entry)
    (λ row is. record { asked = is.asked; row = λ srp inward. more row.entry.low (is.row srp inward) }) sent all

-- ---- a turn of the server unit

-- a request that is answered has a row, or is a login
gets_or : (current : ℕ) (order : Order) (outcome : Outcome) → Suits current order outcome → (is_login order ≡ true) ⊎ (gets_row order ≡ true)
gets_or current (orders.Login request) outcome is = inl refl
gets_or current orders.Logout (outcomes.Granted number) is = absurd is
gets_or current orders.Logout outcomes.Rejected is = absurd is
gets_or current orders.Logout (outcomes.Served row) is = absurd is
gets_or current (orders.Task task) outcome is = inr refl
gets_or current (orders.Command command) outcome is = inr refl
gets_or current orders.Unreadable outcome is = inr refl

-- What a turn adds to the tags of the unit's rows.
record AddsTags (request : Request) (tags tags' : List ℕ) : Type 0 where
  more : (tag : ℕ) → Contains tags tag → Contains tags' tag
  own : gets_row request.order ≡ true → Contains tags' request.tag

adds_tags : (unit : UnitId) (request : Request) (rows rows' : List Served) → AddsFor unit request rows rows' → AddsTags request (tags_by unit rows) (tags_by unit rows')
adds_tags unit request rows rows' (inl adds) =
    let is : tags_by unit rows' ≡ tags_by unit rows ++ request.tag ∷ [] = tags_added unit request rows rows' adds in
    record {
      more = λ tag has. subst (λ tags. Contains tags tag) (sym is) (Contains-append_left (tags_by unit rows) (request.tag ∷ []) tag has);
      own = λ gets. subst (λ tags. Contains tags request.tag) (sym is)
          (Contains-append_right (tags_by unit rows) (request.tag ∷ []) request.tag (contains_first request.tag []));
    }
adds_tags unit request rows rows' (inr none) = record {
  more = λ tag has. subst (λ (list : List Served). Contains (tags_by unit list) tag) (sym none.1) has;
  own = λ gets. absurd (true≢false (sym gets ∙ none.0));
}

pub answers_behind : (unit unit' : Unit) (old : Reach) (new : EndState) (lines lines' : List Grant) (words : List Word) (rows rows' : List Served) (id : UnitId) (s : ClientState) → unit.id ≡ id
    → TalksOn unit unit' old new lines lines' words → RowsOn unit old.queue words rows rows'
    → ((talk : Talk) → HearsAll (talk_of unit) (length (taken_now old.queue)) words talk → TagsKept (tags_by id rows) (length s.rows) talk.pending)
    → ((talk : Talk) → HearsAll (talk_of unit) (length (taken_now old.queue)) words talk → AnswersKept (tags_by id rows) s old.queue.sent talk.pending)
    → AnswersKept (tags_by id rows') s new.sent unit'.pending.items
answers_behind unit unit' old new lines lines' words rows rows' id s own turn on tags kept = by turn.serves
  where
    before : AnswersKept (tags_by id rows) s old.queue.sent turn.middle.pending.items
    before = kept (talk_of turn.middle) turn.hears.heard

    rise : RequestsRise (length s.rows) turn.middle.pending.items
    rise = (tags (talk_of turn.middle) turn.hears.heard).rise

    heard : All (λ (row : PipeRow). IsAnswerFor (tags_by id rows) s.rows row.entry) turn.between.queue.sent
    heard = put_rows (IsAnswerFor (tags_by id rows) s.rows) old.queue turn.between.queue (replies words) before.put (no_answers (tags_by id rows) s.rows words) turn.hears.put

    behind : (request : Request) (rest : List Request) → turn.middle.pending.items ≡ request ∷ rest → unit'.pending.items ≡ drop 1 turn.middle.pending.items
        → (entries : List Entry) → All (IsAnswerFor (tags_by id rows') s.rows) entries → PutsReplies turn.between.queue new entries → AnswersKept (tags_by id rows') s new.sent unit'.pending.items
    behind request rest items left entries each put =
        let adds : AddsTags request (tags_by id rows) (tags_by id rows') =
        adds_tags id request rows rows' (subst (λ i. AddsFor i request rows rows') own (on.adds (talk_of turn.middle) request rest turn.hears.heard items)) in
        record {
          put = put_rows (IsAnswerFor (tags_by id rows') s.rows) turn.between.queue new entries
              (more_tags (tags_by id rows) (tags_by id rows') s.rows turn.between.queue.sent adds.more heard) each put;
          logins = subst (All (λ (r : Request). is_login r.order ≡ true → is_inward (row_at s.rows r.tag) ≡ false)) (sym (left ∙ ap (drop 1) items))
              (All-tail (λ (r : Request). is_login r.order ≡ true → is_inward (row_at s.rows r.tag) ≡ false) request rest
              (subst (All (λ (r : Request). is_login r.order ≡ true → is_inward (row_at s.rows r.tag) ≡ false)) items before.logins));
          asked = before.asked;
        }

    answer : (request : Request) (rest : List Request) → turn.middle.pending.items ≡ request ∷ rest → (one : AnswersRequest turn.middle unit' turn.between.queue new turn.added lines' request)
        → IsAnswerFor (tags_by id rows') s.rows (srp_entry one.long request.tag)
    answer request rest items one = record {
      asked = λ srp. (subst (RequestsRise (length s.rows)) items rise).0;
      row = λ srp inward. has inward (gets_or turn.middle.logins.current request.order one.outcome one.suits);
    }
      where
        adds : AddsTags request (tags_by id rows) (tags_by id rows')
        adds = adds_tags id request rows rows' (subst (λ i. AddsFor i request rows rows') own (on.adds (talk_of turn.middle) request rest turn.hears.heard items))

        login : is_login request.order ≡ true → is_inward (row_at s.rows request.tag) ≡ false
        login =
            All-head (λ (r : Request). is_login r.order ≡ true → is_inward (row_at s.rows r.tag) ≡ false) request rest
            (subst (All (λ (r : Request). is_login r.order ≡ true → is_inward (row_at s.rows r.tag) ≡ false)) items before.logins)

        has : is_inward (row_at s.rows request.tag) ≡ true → (is_login request.order ≡ true) ⊎ (gets_row request.order ≡ true) → Contains (tags_by id rows') request.tag
        has inward (inl is) = absurd (true≢false (sym inward ∙ login is))
        has inward (inr gets) = adds.own gets

    by : ServesNext turn.middle unit' turn.between.queue new turn.added lines' → AnswersKept (tags_by id rows') s new.sent unit'.pending.items
    by (inl nothing) =
        subst (λ (list : List Served). AnswersKept (tags_by id list) s new.sent unit'.pending.items) (sym (on.none (talk_of turn.middle) turn.hears.heard nothing.none))
        (subst (λ (u : Unit). AnswersKept (tags_by id rows) s new.sent u.pending.items) (sym nothing.same)
        (subst (λ (e : EndState). AnswersKept (tags_by id rows) s e.sent turn.middle.pending.items) (sym nothing.queue)
        (record { put = heard; logins = before.logins; asked = before.asked })))
    by (inr (request, rest, items, inl (order, out))) = behind request rest items out.over.pending [] (All-nil (IsAnswerFor (tags_by id rows') s.rows)) out.put.put
    by (inr (request, rest, items, inr one)) =
        behind request rest items one.put.over.pending (srp_entry one.long request.tag ∷ [])
        (All-cons (IsAnswerFor (tags_by id rows') s.rows) (srp_entry one.long request.tag) [] (answer request rest items one) (All-nil (IsAnswerFor (tags_by id rows') s.rows))) one.put.put.put

-- ---- a turn of the client

rises_all : (last : ℕ) (requests : List Request) → RequestsRise last requests → All (λ (r : Request). r.tag ≤ last) requests
rises_all last [] rise = All-nil (λ (r : Request). r.tag ≤ last)
rises_all last (request ∷ requests) rise = All-cons (λ (r : Request). r.tag ≤ last) request requests rise.0 (rises_all last requests rise.2)

answers_stay : (tags : List ℕ) (s s' : ClientState) (a b : List AnswerRow) (sent : List PipeRow) (requests : List Request) → KeepsData s s' a b → RequestsRise (length s.rows) requests
    → AnswersKept tags s sent requests → AnswersKept tags s' sent requests
answers_stay tags s s' a b sent requests keeps rise kept = record {
  put = All-weaker (λ (row : PipeRow). IsAnswerFor tags s.rows row.entry) (λ (row : PipeRow). IsAnswerFor tags s'.rows row.entry)
      (λ row is. record {
        asked = λ srp. omega (arith, is.asked srp, keeps.more);
        row = λ srp inward. is.row srp (keeps.kinds kept.asked row.entry.low (is.asked srp) inward);
      }) sent kept.put;
  logins = each requests (rises_all (length s.rows) requests rise) kept.logins;
  asked = keeps.asked kept.asked;
}
  where
    one : (r : Request) → r.tag ≤ length s.rows → (is_login r.order ≡ true → is_inward (row_at s.rows r.tag) ≡ false) → (b : Bool) → is_inward (row_at s'.rows r.tag) ≡ b
        → is_login r.order ≡ true → is_inward (row_at s'.rows r.tag) ≡ false
    one r few was false e login = e
    one r few was true e login = absurd (true≢false (sym (keeps.kinds kept.asked r.tag few e) ∙ was login))

    each : (list : List Request) → All (λ (r : Request). r.tag ≤ length s.rows) list → All (λ (r : Request). is_login r.order ≡ true → is_inward (row_at s.rows r.tag) ≡ false) list
        → All (λ (r : Request). is_login r.order ≡ true → is_inward (row_at s'.rows r.tag) ≡ false) list
    each [] few was = All-nil (λ (r : Request). is_login r.order ≡ true → is_inward (row_at s'.rows r.tag) ≡ false)
    each (r ∷ list) few was =
        All-cons (λ (r : Request). is_login r.order ≡ true → is_inward (row_at s'.rows r.tag) ≡ false) r list
        (one r (All-head (λ (r : Request). r.tag ≤ length s.rows) r list few) (All-head (λ (r : Request). is_login r.order ≡ true → is_inward (row_at s.rows r.tag) ≡ false) r list was)
        (is_inward (row_at s'.rows r.tag)) refl)
        (each list (All-tail (λ (r : Request). r.tag ≤ length s.rows) r list few) (All-tail (λ (r : Request). is_login r.order ≡ true → is_inward (row_at s.rows r.tag) ≡ false) r list was))

login_is : (iu : Iu) → is_login (order_asked iu) ≡ true → asks_login iu ≡ true
login_is (units.LoginReq request) is = refl
login_is (units.ILogout tag) is = absurd (true≢false (sym is))
login_is (units.TskMgmt task) is = absurd (true≢false (sym is))
login_is (units.Cmd command) is = absurd (true≢false (sym is))
login_is iu is = absurd (cc (is))

-- what is pending once the words are heard
answers_heard : (tags : List ℕ) (last n : ℕ) (s : ClientState) (sent : List PipeRow) (words : List Word) (talk talk' : Talk) → length words ≤ 1 → AsksAnew last s words
    → AnswersKept tags s sent talk.pending → HearsAll talk n words talk' → AnswersKept tags s sent talk'.pending
answers_heard tags last n s sent [] talk talk' few anew kept heard = subst (λ (t : Talk). AnswersKept tags s sent t.pending) (sym heard) kept
answers_heard tags last n s sent (begins ∷ []) talk talk' few anew kept (middle, one, rest) = subst (λ (t : Talk). AnswersKept tags s sent t.pending) (sym (rest ∙ one)) kept
answers_heard tags last n s sent (gone ∷ []) talk talk' few anew kept (middle, one, rest) =
    subst (AnswersKept tags s sent) (sym (ap (λ (t : Talk). t.pending) rest ∙ one.loses.pending)) (record {
      put = kept.put;
      logins = All-nil (λ (r : Request). is_login r.order ≡ true → is_inward (row_at s.rows r.tag) ≡ false);
      asked = kept.asked;
    })
answers_heard tags last n s sent (asks address bytes iu ∷ []) talk talk' few anew kept (middle, one, rest) =
    let new : KeepsLogin s.rows (asks address bytes iu) = All-head (KeepsLogin s.rows) (asks address bytes iu) [] anew.logins in
    subst (AnswersKept tags s sent) (sym (ap (λ (t : Talk). t.pending) rest ∙ one.pending)) (record {
      put = kept.put;
      logins = All-push (λ (r : Request). is_login r.order ≡ true → is_inward (row_at s.rows r.tag) ≡ false) talk.pending one.request kept.logins
          (λ login. subst (λ tag. is_inward (row_at s.rows tag) ≡ false) (sym one.is.tag_is) (new (login_is iu (sym (ap is_login one.is.order_is) ∙ login))));
      asked = kept.asked;
    })
answers_heard tags last n s sent (word ∷ next ∷ words) talk talk' few anew kept heard = absurd (omega (arith, few))

pub answers_on : (tags : List ℕ) (last n : ℕ) (s s' : ClientState) (a b : List AnswerRow) (sent sent' : List PipeRow) (words : List Word) (talk talk' : Talk) → length words ≤ 1
    → AsksAnew last s' words → KeepsData s s' a b → sent' ≡ sent → TagsKept tags (length s.rows) talk.pending → AnswersKept tags s sent talk.pending → HearsAll talk n words talk'
    → AnswersKept tags s' sent' talk'.pending
answers_on tags last n s s' a b sent sent' words talk talk' few anew keeps same rise kept heard =
    subst (λ (list : List PipeRow). AnswersKept tags s' list talk'.pending) (sym same)
    (answers_heard tags last n s' sent words talk talk' few anew (answers_stay tags s s' a b sent talk.pending keeps rise.rise kept) heard)

-- ---- before the first turn

pub answers_new : (tags : List ℕ) (s : ClientState) (sent : List PipeRow) (requests : List Request) → sent ≡ [] → requests ≡ [] → s.outgoing ≡ [] → AnswersKept tags s sent requests
answers_new tags s sent requests none nothing idle = record {
  put = subst (All (λ (row : PipeRow). IsAnswerFor tags s.rows row.entry)) (sym none) (All-nil (λ (row : PipeRow). IsAnswerFor tags s.rows row.entry));
  logins = subst (All (λ (r : Request). is_login r.order ≡ true → is_inward (row_at s.rows r.tag) ≡ false)) (sym nothing)
      (All-nil (λ (r : Request). is_login r.order ≡ true → is_inward (row_at s.rows r.tag) ≡ false));
  asked = λ tag has. absurd (true≢false (sym has ∙ ap (λ (os : List Outgoing). has_tag tag (tags_of os)) idle));
}
