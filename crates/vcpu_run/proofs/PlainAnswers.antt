-- What a turn of a plain client's server unit lays in the driver's pages: the answer of the row that the turn adds, or that of a login, which is no
-- response; and nothing for a logout.
use Rattle.std.proofs.Common.{◌≡◌, ◌≢◌, ◌∙◌, ◌⊎◌, inl, inr, ℕ, ◌+◌, ◌-◌, ◌*◌, ◌%◌, ◌<◌, ◌≤◌, ◌==◌, ◌++◌, nat_le, nat_lt, All, Bool, true, false, cond, Contains, List, [], ◌∷◌, Option, Some, append-nil, drop, length, length-append, refl, sym, take, take-append-drop, ap, subst, arith}
use Rattle.std.specs.List.{slice_index}
use Rattle.std.proofs.lemmas.Bool.Decides.{nat_tests}
use Rattle.std.proofs.lemmas.List.{ext_get_or, get_or-take, length-take-le}
use Rattle.std.proofs.lemmas.List.Elements.{All-head, All-tail, All-weaker, Contains-append_left, Contains-push}
use Rattle.vio_num.specs.declared.history.Grant.{Grant}
use Rattle.vio_num.specs.declared.history.Served.{Served}
use Rattle.vio_num.specs.declared.names.UnitId.{UnitId}
use Rattle.crq_session.specs.EndState.{EndState}
use Rattle.page_slots.specs.Stroke.{StrokeValue}
use Rattle.page_slots.specs.declared.stroke.StrokeName.{StrokeName}
use Rattle.srp_desc.specs.Pieces.{pieces}
use Rattle.srp_desc.specs.Tables.{tables_of}
use Rattle.srp_iu.specs.Grammar.{Canon}
use Rattle.srp_iu.specs.declared.buffer.Desc.{Desc}
use Rattle.srp_iu.specs.declared.response.Rsp.{Rsp as Response}
use Rattle.srp_iu.specs.declared.unit.Iu.TheVariants as units
use Rattle.tce_window.specs.PortState.{PortPlace, PortState}
use Rattle.block_server.specs.Bearing.{IsAnswerPart, IsOfQuestion, NamesData, StrokeBears, question_of}
use Rattle.block_server.specs.Carried.{address_of}
use Rattle.block_server.specs.Causes.{IsNamed}
use Rattle.block_server.specs.Ranges.{Known, WritesOn, known_in, seen_in}
use Rattle.block_server.specs.RowsOn.{AddsFor, RowsOn, row_tag}
use Rattle.block_server.specs.Standing.{AddsAnsweredRow, IsAnswerTo as IsAnswer, LeavesOn, LeavesRowOf, stood}
use Rattle.block_server.specs.Talk.{Talk, Word, talk_of}
use Rattle.block_server.specs.declared.request.Order.{Order}
use Rattle.block_server.specs.declared.request.Order.TheVariants as orders
use Rattle.block_server.specs.declared.request.Request.{Request}
use Rattle.block_server.specs.declared.service.Outcome.{Outcome}
use Rattle.block_server.specs.declared.service.Outcome.TheVariants as outcomes
use Rattle.vscsi_client.specs.Units.{slot_address}
use Rattle.vscsi_client.specs.declared.TheConstants.{DATA_START}
use Rattle.vscsi_client.specs.declared.outgoing.Span.{Span}
use Rattle.vcpu_run.specs.PlainBorne.{rows_by}
use Rattle.vcpu_run.specs.PlainNoted.{AreAnswers, IsAnswerOfRow, IsNoResponse}
use Rattle.vcpu_run.specs.PlainTalk.{Ask, Between, ClientStays, DataLies, IsOwnWindow, LiesOn, TalksPlainly, inn_of}
use Rattle.vcpu_run.proofs.PlainAnswered.{answer_few}
use Rattle.vcpu_run.proofs.PlainData.{table_read, tables_few}
use Rattle.vcpu_run.proofs.PlainLaid.{IsAskedFor, IsRowOf, asked_for, entry_is, is_out, named_data, page_more, row_added}
use Rattle.vcpu_run.proofs.PlainTurns.{Turns}
use Rattle.vcpu_run.proofs.PlainUnits.{byte_more, canon_some, response_more}

-- ---- bytes of an answer

-- a response is no front of another
front_whole : (bytes rest : List ℕ) (r s : Response) → Canon bytes (units.Rsp r) → Canon (bytes ++ rest) (units.Rsp s) → length rest ≡ 0
front_whole bytes rest r s is whole =
    let more = response_more bytes rest r is.unit.spells in
    let responses : length r.response.items ≡ length s.response.items = ap length (more.response ∙ sym whole.unit.spells.response) in
    let senses : length r.sense.items ≡ length s.sense.items = ap length (more.sense ∙ sym whole.unit.spells.sense) in
    omega (arith, is.unit.exact, whole.unit.exact, length-append bytes rest, responses, senses)

-- nor one of the answer to a login
front_kind : (bytes rest whole : List ℕ) (r : Response) → Canon bytes (units.Rsp r) → whole ≡ bytes ++ rest → slice_index whole 0 ≡ 0xC1
front_kind bytes rest whole r is same =
    ap (λ (list : List ℕ). slice_index list 0) same ∙ byte_more bytes rest 0 (canon_some bytes (units.Rsp r) is) ∙ is.unit.spells.kind

-- What was laid at the front of an answer is the answer of a request that has a row, or no response.
pub judged_as : (R : Type 0) (stroke : StrokeValue) (current granted tag : ℕ) (order : Order) (outcome : Outcome) (answer rest : List ℕ) → IsAnswer current granted tag order outcome answer
    → answer ≡ stroke.bytes ++ rest → ((place : ℕ) → outcome ≡ outcomes.Served place → answer ≡ stroke.bytes → R) → R ⊎ IsNoResponse stroke
judged_as R stroke current granted tag order (outcomes.Granted number) answer rest (login, of, canon) same its =
    inr (λ begins r is. absurd (omega (arith, front_kind stroke.bytes rest answer r is same, canon.unit.spells.kind)))
judged_as R stroke current granted tag order outcomes.Rejected answer rest (login, of, rejects) same its =
    inr (λ begins r is. absurd (omega (arith, front_kind stroke.bytes rest answer r is same, rejects.bytes_are.unit.spells.kind)))
judged_as R stroke current granted tag order (outcomes.Served place) [] rest answers same its =
    inr (λ begins r is. omega (arith, canon_some stroke.bytes (units.Rsp r) is, length-append stroke.bytes rest, ap length same))
judged_as R stroke current granted tag order (outcomes.Served place) (byte ∷ answer) [] answers same its =
    inl (its place refl (same ∙ append-nil stroke.bytes))
judged_as R stroke current granted tag order (outcomes.Served place) (byte ∷ answer) (next ∷ rest) answers same its =
    inr (λ begins r is.
    let none : length (next ∷ rest) ≡ 0 =
    front_whole stroke.bytes (next ∷ rest) r answers.0 is (subst (λ (list : List ℕ). Canon list (units.Rsp answers.0)) same answers.1) in
    absurd (omega (arith, none)))

-- ---- where it is

-- a stroke of some bytes that begins where a slot does is a front of the answer that was written there
pub front_of : (stroke : StrokeValue) (answer : List ℕ) (entry address slot : ℕ) → address ≡ slot_address slot → length answer ≤ 256 → stroke.offset % 256 ≡ 0 → 1 ≤ length stroke.bytes
    → address ≤ 4096 * entry + stroke.offset → 4096 * entry + stroke.offset + length stroke.bytes ≤ address + length answer
    → ((k : ℕ) → k < length stroke.bytes → slice_index stroke.bytes k ≡ slice_index answer (4096 * entry + stroke.offset + k - address))
    → (rest : List ℕ) × (answer ≡ stroke.bytes ++ rest)
front_of stroke answer entry address slot is few begins some from to bears = (
  drop (length stroke.bytes) answer,
  sym (take-append-drop (length stroke.bytes) answer) ∙ ap (λ (list : List ℕ). list ++ drop (length stroke.bytes) answer) (sym same),
)
  where
    at : 4096 * entry + stroke.offset ≡ address
    at = omega (arith, is, few, begins, some, from, to)

    same : stroke.bytes ≡ take (length stroke.bytes) answer
    same = ext_get_or 0 stroke.bytes (take (length stroke.bytes) answer) (sym (length-take-le (length stroke.bytes) answer (omega (arith, at, to))))
        (λ k less. bears k less ∙ ap (slice_index answer) (omega (arith, at)) ∙ sym (get_or-take (length stroke.bytes) answer k 0 less))

-- data-in lie behind the driver's pages
address_behind : (span : Span) (list : List Desc) (j a : ℕ) → All (LiesOn span) list → address_of list j ≡ Some a → DATA_START ≤ a
address_behind span [] j a all is = absurd (cc (is))
address_behind span (piece ∷ list) j a all is = by (λ e. address_behind span list (j - piece.len) a (All-tail (LiesOn span) piece list all) e) (nat_lt j piece.len) is
  where
    here : Some (piece.address + j) ≡ Some a → piece.address + j ≡ a
    here e = cc (e)

    by : (address_of list (j - piece.len) ≡ Some a → DATA_START ≤ a) → (b : Bool) → cond b (Some (piece.address + j)) (address_of list (j - piece.len)) ≡ Some a → DATA_START ≤ a
    by rest true e = omega (arith, here e, (All-head (LiesOn span) piece list all).behind)
    by rest false e = rest e

-- the pieces that were read are those that the table names
pub list_goes : (window : PortState) → IsOwnWindow window → (ask : Ask) → DataLies window ask → (list : List Desc) → IsNamed (stood window) (inn_of ask.iu) list → All (LiesOn ask.pages) list
list_goes window own ask lies list names =
    let read : names.table ≡ lies.bytes =
    table_read window own ask.table lies.bytes names.table (tables_of (inn_of ask.iu)) (tables_few (inn_of ask.iu)) names.full lies.whole lies.table names.brought in
    lies.goes list (ap (pieces (inn_of ask.iu)) (sym read) ∙ names.named_is)

-- ---- a stroke that was laid

-- What is laid on a page of the driver's for a request is the answer of its row, or no response.
question_answers : (at : Between) → IsOwnWindow at.window → (name id : UnitId) (request : Request) (asked : IsAskedFor at request) (current granted : ℕ) (outcome : Outcome) (answer : List ℕ) (rows rows' : List Served)
    → IsAnswer current granted request.tag request.order outcome answer
    → ((place : ℕ) → outcome ≡ outcomes.Served place → (row : Served) × Contains (rows_by id rows') row × (row_tag row ≡ request.tag) × (row.answer ≡ answer))
    → (page : ℕ) → 4096 * page < DATA_START → (stroke : StrokeValue)
    → StrokeBears at.window.values (IsOfQuestion (stood at.window) name (question_of request) answer rows rows') page stroke → IsAnswerOfRow (rows_by id rows') stroke ⊎ IsNoResponse stroke
question_answers at own name id request asked current granted outcome answer rows rows' is its page front stroke laid = by laid.writes
  where
    entry : laid.lies.entry ≡ page
    entry = entry_is at.window own laid.address (length laid.bytes) page stroke laid.lies

    few : length answer ≤ 256
    few = answer_few current granted request.tag request.order outcome answer is

    begun : IsAnswerPart (record { who = name; mark = request.tag }) request.address answer laid.address laid.bytes stroke.name → stroke.offset % 256 ≡ 0 → 1 ≤ length stroke.bytes
        → IsAnswerOfRow (rows_by id rows') stroke ⊎ IsNoResponse stroke
    begun part begins some =
        let of : (rest : List ℕ) × (answer ≡ stroke.bytes ++ rest) =
        front_of stroke answer laid.lies.entry laid.address asked.ask.slot (part.address_is ∙ asked.pending.address) few begins some laid.lies.from
        (subst (λ (list : List ℕ). 4096 * laid.lies.entry + stroke.offset + length stroke.bytes ≤ laid.address + length list) part.are laid.lies.to)
        (λ k less. laid.bears k less ∙ ap (λ (list : List ℕ). slice_index list (4096 * laid.lies.entry + stroke.offset + k - laid.address)) part.are) in
        judged_as (IsAnswerOfRow (rows_by id rows') stroke) stroke current granted request.tag request.order outcome answer of.0 is of.1
        (λ place served same.
        let row = its place served in
        record { row = row.0; there = row.1; tag_is = row.2 ∙ sym (ap (λ (n : StrokeName). n.mark) part.name_is); answer_is = row.3 ∙ same })

    whole : (b c : Bool) → (stroke.offset % 256 == 0) ≡ b → nat_le 1 (length stroke.bytes) ≡ c
        → IsAnswerPart (record { who = name; mark = request.tag }) request.address answer laid.address laid.bytes stroke.name → IsAnswerOfRow (rows_by id rows') stroke ⊎ IsNoResponse stroke
    whole false c e f part = inr (λ begins r canon. absurd (grind (arith, nat_tests, e, begins)))
    whole true false e f part = let none : length stroke.bytes ≡ 0 = grind (arith, nat_tests, f) in inr (λ begins r canon. absurd (omega (arith, none, canon_some stroke.bytes (units.Rsp r) canon)))
    whole true true e f part = begun part (grind (arith, nat_tests, e)) (grind (arith, nat_tests, f))

    by : IsOfQuestion (stood at.window) name (question_of request) answer rows rows' laid.address laid.bytes stroke.name → IsAnswerOfRow (rows_by id rows') stroke ⊎ IsNoResponse stroke
    by (inl part) = whole (stroke.offset % 256 == 0) (nat_le 1 (length stroke.bytes)) refl refl part
    by (inr (row, added, named)) =
        inr (λ begins r canon.
        let some : 1 ≤ length stroke.bytes = canon_some stroke.bytes (units.Rsp r) canon in
        let names = named_data at.window asked.ask.iu named.list (subst (λ (o : Order). NamesData (stood at.window) o named.list) asked.pending.order named.named) in
        let behind : DATA_START ≤ laid.address + 0 =
        address_behind asked.ask.pages named.list (named.part.at + 0) (laid.address + 0) (list_goes at.window own asked.ask asked.lies named.list names)
        (named.part.there 0 (omega (arith, some, laid.lies.from, laid.lies.to))) in
        absurd (omega (arith, front, entry, behind, some, laid.lies.from, laid.lies.within)))

-- ---- the turn

-- the row of what was answered
record IsAnsweredRow (unit : UnitId) (request : Request) (answer : List ℕ) (rows' : List Served) : Type 0 where
  row : Served
  there : Contains (rows_by unit rows') row
  tag_is : row_tag row ≡ request.tag
  answer_is : row.answer ≡ answer

row_left : (unit : UnitId) (request : Request) (outcome : Outcome) (place : ℕ) (queue : EndState) (iu answer : List ℕ) (rows rows' : List Served) → outcome ≡ outcomes.Served place
    → LeavesRowOf outcome queue iu answer rows rows' → queue.place.partner_registered ≡ true → AddsFor unit request rows rows' → IsAnsweredRow unit request answer rows'
row_left unit request outcome place queue iu answer rows rows' served left on adds =
    let its : AddsAnsweredRow queue iu answer rows rows' = subst (λ (o : Outcome). LeavesRowOf o queue iu answer rows rows') served left in
    let new : IsRowOf unit request rows rows' its.row = row_added unit request rows rows' its.row its.added adds in
    record {
      row = its.row;
      there = subst (λ (list : List Served). Contains list its.row) (sym new.by_unit) (Contains-push (rows_by unit rows) its.row);
      tag_is = new.tag_is;
      answer_is = its.answer_is on;
    }

-- the rows are those of before, or more
rows_on : (unit : UnitId) (request : Request) (rows rows' : List Served) → AddsFor unit request rows rows' → (more : List Served) × (rows_by unit rows' ≡ rows_by unit rows ++ more)
rows_on unit request rows rows' (inl adds) = (adds.row ∷ [], (row_added unit request rows rows' adds.row adds.added (inl adds)).by_unit)
rows_on unit request rows rows' (inr none) = ([], ap (rows_by unit) none.1 ∙ sym (append-nil (rows_by unit rows)))

pub answers_more : (list more list' : List Served) → list' ≡ list ++ more → (stroke : StrokeValue) → IsAnswerOfRow list stroke ⊎ IsNoResponse stroke → IsAnswerOfRow list' stroke ⊎ IsNoResponse stroke
answers_more list more list' same stroke (inl is) = inl (record {
  row = is.row;
  there = subst (λ (rows : List Served). Contains rows is.row) (sym same) (Contains-append_left list more is.row is.there);
  tag_is = is.tag_is;
  answer_is = is.answer_is;
})
answers_more list more list' same stroke (inr isnt) = inr isnt

-- nothing was laid
none_answers : (list more list' : List Served) (own own' : UnitId) (old new : ℕ → Option (List StrokeValue)) → list' ≡ list ++ more → own' ≡ own → new ≡ old → AreAnswers list own old
    → AreAnswers list' own' new
none_answers list more list' own own' old new same unit strokes are page front found there =
    All-weaker (λ (s : StrokeValue). s.name.who ≢ own → IsAnswerOfRow list s ⊎ IsNoResponse s) (λ (s : StrokeValue). s.name.who ≢ own' → IsAnswerOfRow list' s ⊎ IsNoResponse s)
    (λ s is other. answers_more list more list' same s (is (λ e. other (e ∙ sym unit)))) found
    (are page front found (sym (ap (λ (all : ℕ → Option (List StrokeValue)). all page) strokes) ∙ there))

-- What lies in the slots answers rows behind a turn of the server unit.
pub answers_served : (granted : ℕ) (at at' : Between) (lines lines' : List Grant) (words : List Word) (rows rows' : List Served) (name id : UnitId) → TalksPlainly granted at words
    → (turn : Turns at at' lines lines' words) → ClientStays at at' → at'.window.place ≡ at.window.place
    → WritesOn (stood at.window) at.unit at.server words (seen_in false at.window) (seen_in false at'.window)
    → LeavesOn name at.unit at.server words at'.server at.window at'.window rows rows' → RowsOn at.unit at.server words rows rows' → at.unit.id ≡ id
    → AreAnswers (rows_by id rows) at.window.place.unit at.window.strokes → AreAnswers (rows_by id rows') at'.window.place.unit at'.window.strokes
answers_served granted at at' lines lines' words rows rows' name id talks turn stays place wrote left on own are = by turn.middle.pending.items refl
  where
    talk : Talk
    talk = talk_of turn.middle

    unit : at'.window.place.unit ≡ at.window.place.unit
    unit = ap (λ (p : PortPlace). p.unit) place

    held : (a b : Known) → Some a ≡ Some b → a ≡ b
    held a b e = cc (e)

    adds : (request : Request) (rest : List Request) → turn.middle.pending.items ≡ request ∷ rest → AddsFor id request rows rows'
    adds request rest items = subst (λ i. AddsFor i request rows rows') own (on.adds talk request rest turn.hears.heard items)

    served : (request : Request) (rest : List Request) → turn.middle.pending.items ≡ request ∷ rest → (request.order ≡ orders.Logout) ⊎ (request.order ≢ orders.Logout)
        → AreAnswers (rows_by id rows') at'.window.place.unit at'.window.strokes
    served request rest items (inl out) page front list there =
        let more = rows_on id request rows rows' (adds request rest items) in
        none_answers (rows_by id rows) more.0 (rows_by id rows') at.window.place.unit at'.window.place.unit at.window.strokes at'.window.strokes more.1 unit
        (left.out talk request rest turn.hears.heard items out).strokes are page front list there
    served request rest items (inr isnt) page front list there =
        let asked : IsAskedFor at request = asked_for granted at at' lines lines' words talks turn request rest items in
        let more = rows_on id request rows rows' (adds request rest items) in
        let leaves = left.leaves talk request rest turn.hears.heard items isnt in
        let there' : at'.server.place.partner_registered ≡ true = stays.ends.server_sees.partner ∙ stays.registered ∙ asked.registered in
        page_more (StrokeBears at.window.values (IsOfQuestion (stood at.window) name (question_of request) leaves.bytes rows rows') page)
        (λ (s : StrokeValue). s.name.who ≢ at'.window.place.unit → IsAnswerOfRow (rows_by id rows') s ⊎ IsNoResponse s)
        (at.window.strokes page) (at'.window.strokes page) list there (leaves.lays.strokes page)
        (λ was found. All-weaker (λ (s : StrokeValue). s.name.who ≢ at.window.place.unit → IsAnswerOfRow (rows_by id rows) s ⊎ IsNoResponse s)
        (λ (s : StrokeValue). s.name.who ≢ at'.window.place.unit → IsAnswerOfRow (rows_by id rows') s ⊎ IsNoResponse s)
        (λ s is other. answers_more (rows_by id rows) more.0 (rows_by id rows') more.1 s (is (λ e. other (e ∙ sym unit)))) was (are page front was found))
        (λ s laid other. question_answers at talks.calm.usable name id request asked talk.current talk.granted leaves.outcome leaves.bytes rows rows' leaves.answer
        (λ at_row is.
        let row = row_left id request leaves.outcome at_row at'.server request.unit.items leaves.bytes rows rows' is leaves.row there' (adds request rest items) in
        (row.row, row.there, row.tag_is, row.answer_is)) page front s laid)

    by : (requests : List Request) → turn.middle.pending.items ≡ requests → AreAnswers (rows_by id rows') at'.window.place.unit at'.window.strokes
    by [] none =
        none_answers (rows_by id rows) [] (rows_by id rows') at.window.place.unit at'.window.place.unit at.window.strokes at'.window.strokes
        (ap (rows_by id) (on.none talk turn.hears.heard none) ∙ sym (append-nil (rows_by id rows))) unit
        (ap (λ (k : Known). k.strokes) (held (known_in at'.window) (known_in at.window) (wrote.none talk turn.hears.heard none))) are
    by (request ∷ rest) items = served request rest items (is_out request.order)
