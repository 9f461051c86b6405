-- The entries that were put into a plain client's queue say how long the answers of the rows are whose tags they bear: what a turn of its server
-- unit, and one of its own, keep of that.
use Rattle.std.proofs.Common.{◌≡◌, ◌∙◌, ◌++◌, ◌<◌, ◌≤◌, inl, inr, ℕ, All, true, false, true≢false, drop, List, [], ◌∷◌, length, map, refl, sym, ap, ap₂, subst, arith}
use Rattle.std.proofs.lemmas.List.Elements.{All-cons, All-head, All-nil, All-push, All-tail, All-weaker}
use Rattle.vio_num.specs.Entry.{initialization_complete, is_srp_entry, srp_entry}
use Rattle.vio_num.specs.declared.entry.Entry.{Entry}
use Rattle.vio_num.specs.declared.history.Grant.{Grant}
use Rattle.vio_num.specs.declared.history.Served.{Served}
use Rattle.vio_num.specs.declared.names.UnitId.{UnitId}
use Rattle.crq_ring.specs.declared.rows.PipeRow.{PipeRow}
use Rattle.crq_session.specs.Answered.{taken_now}
use Rattle.crq_session.specs.EndState.{EndPlace, EndState}
use Rattle.block_server.specs.Answering.{answer_entry}
use Rattle.block_server.specs.RowsOn.{AddsFor, RowsOn, row_tag}
use Rattle.block_server.specs.Standing.{LeavesOn, LeavesRowOf}
use Rattle.block_server.specs.Talk.{AnswersRequest, HearsAll, PutsReplies, ServesNext, Talk, Word, replies, talk_of}
use Rattle.block_server.specs.Talk.Word.{asks, begins, gone}
use Rattle.block_server.specs.declared.request.Request.{Request}
use Rattle.block_server.specs.declared.service.Outcome.{Outcome}
use Rattle.block_server.specs.declared.service.Outcome.TheVariants as outcomes
use Rattle.block_server.specs.declared.unit.Unit.{Unit}
use Rattle.vscsi_client.specs.State.{ClientState}
use Rattle.vscsi_client.specs.declared.row.Row.{Row}
use Rattle.vcpu_run.specs.PlainBorne.{rows_by}
use Rattle.vcpu_run.specs.PlainRows.{EntriesKept, IsAnswerEntry, IsAnswerFor, IsBelow, TagsKept, tags_by}
use Rattle.vcpu_run.specs.PlainSteps.{AsksAnew, IsNewWord}
use Rattle.vcpu_run.specs.PlainTalk.{Between, ClientStays, TalksPlainly}
use Rattle.vcpu_run.proofs.PlainAnswered.{not_out, same_long}
use Rattle.vcpu_run.proofs.PlainGiven.{put_rows}
use Rattle.vcpu_run.proofs.PlainLaid.{IsAskedFor, IsRowOf, asked_for, row_added}
use Rattle.vcpu_run.proofs.PlainTurns.{Turns}

-- ---- what was put

-- an entry that carries no information unit answers nothing
not_srp : (rows : List Served) (entry : Entry) → is_srp_entry entry ≡ false → IsAnswerEntry rows entry
not_srp rows entry is = λ srp. absurd (true≢false (sym srp ∙ is))

not_below : (requests : List Request) (entry : Entry) → is_srp_entry entry ≡ false → IsBelow requests entry
not_below requests entry is = λ srp. absurd (true≢false (sym srp ∙ is))

-- where something is so of Complete, it is so of all that is put for what is heard
pub said_all : (P : Entry → Type 0) → P initialization_complete → (words : List Word) → All P (replies words)
said_all P one [] = All-nil P
said_all P one (begins ∷ words) = All-cons P initialization_complete (replies words) one (said_all P one words)
said_all P one (gone ∷ words) = said_all P one words
said_all P one (asks address bytes iu ∷ words) = said_all P one words

-- ---- a turn of the server unit

below_rows : (rows : List Served) (tag : ℕ) → All (λ t. t < tag) (map row_tag rows) → All (λ (row : Served). row_tag row < tag) rows
below_rows [] tag all = All-nil (λ (row : Served). row_tag row < tag)
below_rows (row ∷ rows) tag all =
    All-cons (λ (r : Served). row_tag r < tag) row rows (All-head (λ t. t < tag) (row_tag row) (map row_tag rows) all) (below_rows rows tag (All-tail (λ t. t < tag) (row_tag row) (map row_tag rows) all))

-- a tag above those of all these rows is that of none
above_none : (rows : List Served) (entry : Entry) (tag : ℕ) → entry.low ≡ tag → All (λ (row : Served). row_tag row < tag) rows → All (λ (row : Served). row_tag row ≡ entry.low → entry ≡ answer_entry row) rows
above_none rows entry tag low all =
    All-weaker (λ (row : Served). row_tag row < tag) (λ (row : Served). row_tag row ≡ entry.low → entry ≡ answer_entry row) (λ row less same. absurd (omega (arith, less, same, low))) rows all

-- entries below a request's tag do not answer its row
entry_on : (unit : UnitId) (request : Request) (rest : List Request) (rows rows' : List Served) → AddsFor unit request rows rows' → (entry : Entry) → IsBelow (request ∷ rest) entry
    → IsAnswerEntry (rows_by unit rows) entry → IsAnswerEntry (rows_by unit rows') entry
entry_on unit request rest rows rows' (inl adds) entry below is = λ srp.
    let new : IsRowOf unit request rows rows' adds.row = row_added unit request rows rows' adds.row adds.added (inl adds) in
    subst (All (λ (row : Served). row_tag row ≡ entry.low → entry ≡ answer_entry row)) (sym new.by_unit)
    (All-push (λ (row : Served). row_tag row ≡ entry.low → entry ≡ answer_entry row) (rows_by unit rows) adds.row (is srp)
    (λ same. let less = All-head (λ (r : Request). entry.low < r.tag) request rest (below srp) in absurd (omega (arith, less, same, adds.tag_is))))
entry_on unit request rest rows rows' (inr none) entry below is = subst (λ (list : List Served). IsAnswerEntry (rows_by unit list) entry) (sym none.1) is

entries_on : (unit : UnitId) (request : Request) (rest : List Request) (rows rows' : List Served) → AddsFor unit request rows rows' → (sent : List PipeRow)
    → All (λ (row : PipeRow). IsBelow (request ∷ rest) row.entry) sent → All (λ (row : PipeRow). IsAnswerEntry (rows_by unit rows) row.entry) sent
    → All (λ (row : PipeRow). IsAnswerEntry (rows_by unit rows') row.entry) sent
entries_on unit request rest rows rows' adds [] below all = All-nil (λ (row : PipeRow). IsAnswerEntry (rows_by unit rows') row.entry)
entries_on unit request rest rows rows' adds (row ∷ sent) below all =
    All-cons (λ (r : PipeRow). IsAnswerEntry (rows_by unit rows') r.entry) row sent
    (entry_on unit request rest rows rows' adds row.entry (All-head (λ (r : PipeRow). IsBelow (request ∷ rest) r.entry) row sent below)
    (All-head (λ (r : PipeRow). IsAnswerEntry (rows_by unit rows) r.entry) row sent all))
    (entries_on unit request rest rows rows' adds sent (All-tail (λ (r : PipeRow). IsBelow (request ∷ rest) r.entry) row sent below)
    (All-tail (λ (r : PipeRow). IsAnswerEntry (rows_by unit rows) r.entry) row sent all))

below_rest : (request : Request) (rest : List Request) (sent : List PipeRow) → All (λ (row : PipeRow). IsBelow (request ∷ rest) row.entry) sent → All (λ (row : PipeRow). IsBelow rest row.entry) sent
below_rest request rest sent all =
    All-weaker (λ (row : PipeRow). IsBelow (request ∷ rest) row.entry) (λ (row : PipeRow). IsBelow rest row.entry)
    (λ row below srp. All-tail (λ (r : Request). row.entry.low < r.tag) request rest (below srp)) sent all

-- the entry of the answer
entry_new : (unit : UnitId) (request : Request) (outcome : Outcome) (queue : EndState) (iu bytes : List ℕ) (rows rows' : List Served) → LeavesRowOf outcome queue iu bytes rows rows'
    → queue.place.partner_registered ≡ true → AddsFor unit request rows rows' → All (λ (row : Served). row_tag row < request.tag) (rows_by unit rows)
    → IsAnswerEntry (rows_by unit rows') (srp_entry (length bytes) request.tag)
entry_new unit request (outcomes.Served place) queue iu bytes rows rows' left on adds below = λ srp.
    let entry : Entry = srp_entry (length bytes) request.tag in
    let new : IsRowOf unit request rows rows' left.row = row_added unit request rows rows' left.row left.added adds in
    subst (All (λ (row : Served). row_tag row ≡ entry.low → entry ≡ answer_entry row)) (sym new.by_unit)
    (All-push (λ (row : Served). row_tag row ≡ entry.low → entry ≡ answer_entry row) (rows_by unit rows) left.row (above_none (rows_by unit rows) entry request.tag refl below)
    (λ same. ap₂ srp_entry (sym (ap length (left.answer_is on))) (sym same)))
entry_new unit request (outcomes.Granted number) queue iu bytes rows rows' left on adds below = λ srp.
    subst (λ (list : List Served). All (λ (row : Served). row_tag row ≡ request.tag → srp_entry (length bytes) request.tag ≡ answer_entry row) (rows_by unit list)) (sym left)
    (above_none (rows_by unit rows) (srp_entry (length bytes) request.tag) request.tag refl below)
entry_new unit request outcomes.Rejected queue iu bytes rows rows' left on adds below = λ srp.
    subst (λ (list : List Served). All (λ (row : Served). row_tag row ≡ request.tag → srp_entry (length bytes) request.tag ≡ answer_entry row) (rows_by unit list)) (sym left)
    (above_none (rows_by unit rows) (srp_entry (length bytes) request.tag) request.tag refl below)

pub entries_served : (granted : ℕ) (at at' : Between) (lines lines' : List Grant) (words : List Word) (rows rows' : List Served) (name id : UnitId) (last : ℕ) → TalksPlainly granted at words
    → (turn : Turns at at' lines lines' words) → ClientStays at at'
    → LeavesOn name at.unit at.server words at'.server at.window at'.window rows rows' → RowsOn at.unit at.server words rows rows' → at.unit.id ≡ id
    → ((talk : Talk) → HearsAll (talk_of at.unit) (length (taken_now at.server)) words talk → TagsKept (tags_by id rows) last talk.pending)
    → ((talk : Talk) → HearsAll (talk_of at.unit) (length (taken_now at.server)) words talk → EntriesKept (rows_by id rows) at.server.sent talk.pending)
    → EntriesKept (rows_by id rows') at'.server.sent at'.unit.pending.items
entries_served granted at at' lines lines' words rows rows' name id last talks turn stays left on own tags kept = by turn.serves
  where
    talk : Talk
    talk = talk_of turn.middle

    before : EntriesKept (rows_by id rows) at.server.sent talk.pending
    before = kept talk turn.hears.heard

    heard : EntriesKept (rows_by id rows) turn.between.queue.sent talk.pending
    heard = record {
      put = put_rows (IsAnswerEntry (rows_by id rows)) at.server turn.between.queue (replies words) before.put
          (said_all (IsAnswerEntry (rows_by id rows)) (not_srp (rows_by id rows) initialization_complete refl) words) turn.hears.put;
      below = put_rows (IsBelow talk.pending) at.server turn.between.queue (replies words) before.below
          (said_all (IsBelow talk.pending) (not_below talk.pending initialization_complete refl) words) turn.hears.put;
    }

    behind : (request : Request) (rest : List Request) → turn.middle.pending.items ≡ request ∷ rest → at'.unit.pending.items ≡ drop 1 turn.middle.pending.items
        → AddsFor id request rows rows' → (entries : List Entry) → All (IsAnswerEntry (rows_by id rows')) entries → All (IsBelow rest) entries → PutsReplies turn.between.queue at'.server entries
        → EntriesKept (rows_by id rows') at'.server.sent at'.unit.pending.items
    behind request rest items over adds entries each low put =
        let below : All (λ (row : PipeRow). IsBelow (request ∷ rest) row.entry) turn.between.queue.sent =
        subst (λ (list : List Request). All (λ (row : PipeRow). IsBelow list row.entry) turn.between.queue.sent) items heard.below in
        subst (EntriesKept (rows_by id rows') at'.server.sent) (sym (over ∙ ap (drop 1) items)) (record {
          put = put_rows (IsAnswerEntry (rows_by id rows')) turn.between.queue at'.server entries (entries_on id request rest rows rows' adds turn.between.queue.sent below heard.put) each put;
          below = put_rows (IsBelow rest) turn.between.queue at'.server entries (below_rest request rest turn.between.queue.sent below) low put;
        })

    adds_for : (request : Request) (rest : List Request) → turn.middle.pending.items ≡ request ∷ rest → AddsFor id request rows rows'
    adds_for request rest items = subst (λ i. AddsFor i request rows rows') own (on.adds talk request rest turn.hears.heard items)

    tags_first : (request : Request) (rest : List Request) → turn.middle.pending.items ≡ request ∷ rest → TagsKept (tags_by id rows) last (request ∷ rest)
    tags_first request rest items = subst (TagsKept (tags_by id rows) last) items (tags talk turn.hears.heard)

    answer : (request : Request) (rest : List Request) → turn.middle.pending.items ≡ request ∷ rest
        → (one : AnswersRequest turn.middle at'.unit turn.between.queue at'.server turn.added lines' request) → IsAnswerEntry (rows_by id rows') (srp_entry one.long request.tag)
    answer request rest items one =
        let asked : IsAskedFor at request = asked_for granted at at' lines lines' words talks turn request rest items in
        let leaves = left.leaves talk request rest turn.hears.heard items (not_out turn.middle.logins.current request.order one.outcome one.suits) in
        let there : at'.server.place.partner_registered ≡ true = stays.ends.server_sees.partner ∙ stays.registered ∙ asked.registered in
        let was : turn.between.queue.place.partner_registered ≡ true = ap (λ (place : EndPlace). place.partner_registered) (sym one.put.put.place) ∙ there in
        let long : one.long ≡ length leaves.bytes =
        same_long turn.between.queue at'.server one.long (length leaves.bytes) request.tag one.put.put.put was one.put.put.place leaves.put in
        let below : All (λ (row : Served). row_tag row < request.tag) (rows_by id rows) =
        below_rows (rows_by id rows) request.tag (All-head (λ (r : Request). All (λ tag. tag < r.tag) (tags_by id rows)) request rest (tags_first request rest items).below) in
        subst (λ n. IsAnswerEntry (rows_by id rows') (srp_entry n request.tag)) (sym long)
        (entry_new id request leaves.outcome at'.server request.unit.items leaves.bytes rows rows' leaves.row there (adds_for request rest items) below)

    by : ServesNext turn.middle at'.unit turn.between.queue at'.server turn.added lines' → EntriesKept (rows_by id rows') at'.server.sent at'.unit.pending.items
    by (inl nothing) =
        subst (λ (list : List Served). EntriesKept (rows_by id list) at'.server.sent at'.unit.pending.items) (sym (on.none talk turn.hears.heard nothing.none))
        (subst (λ (u : Unit). EntriesKept (rows_by id rows) at'.server.sent u.pending.items) (sym nothing.same)
        (subst (λ (e : EndState). EntriesKept (rows_by id rows) e.sent turn.middle.pending.items) (sym nothing.queue) heard))
    by (inr (request, rest, items, inl (order, out))) =
        behind request rest items out.over.pending (adds_for request rest items) [] (All-nil (IsAnswerEntry (rows_by id rows'))) (All-nil (IsBelow rest)) out.put.put
    by (inr (request, rest, items, inr one)) =
        behind request rest items one.put.over.pending (adds_for request rest items) (srp_entry one.long request.tag ∷ [])
        (All-cons (IsAnswerEntry (rows_by id rows')) (srp_entry one.long request.tag) [] (answer request rest items one) (All-nil (IsAnswerEntry (rows_by id rows'))))
        (All-cons (IsBelow rest) (srp_entry one.long request.tag) [] (λ srp. (tags_first request rest items).rise.1) (All-nil (IsBelow rest))) one.put.put.put

-- ---- a turn of the client

entries_asked : (rows : List Served) (tags : List ℕ) (rs : List Row) (sent : List PipeRow) (pending : List Request) (request : Request) → length rs < request.tag
    → All (λ (row : PipeRow). IsAnswerFor tags rs row.entry) sent → EntriesKept rows sent pending → EntriesKept rows sent (pending ++ request ∷ [])
entries_asked rows tags rs sent pending request above answers kept = record { put = kept.put; below = each sent answers kept.below }
  where
    each : (list : List PipeRow) → All (λ (row : PipeRow). IsAnswerFor tags rs row.entry) list → All (λ (row : PipeRow). IsBelow pending row.entry) list
        → All (λ (row : PipeRow). IsBelow (pending ++ request ∷ []) row.entry) list
    each [] is below = All-nil (λ (row : PipeRow). IsBelow (pending ++ request ∷ []) row.entry)
    each (row ∷ list) is below =
        All-cons (λ (r : PipeRow). IsBelow (pending ++ request ∷ []) r.entry) row list
        (λ srp.
        let most = (All-head (λ (r : PipeRow). IsAnswerFor tags rs r.entry) row list is).asked srp in
        All-push (λ (r : Request). row.entry.low < r.tag) pending request (All-head (λ (r : PipeRow). IsBelow pending r.entry) row list below srp) (omega (arith, most, above)))
        (each list (All-tail (λ (r : PipeRow). IsAnswerFor tags rs r.entry) row list is) (All-tail (λ (r : PipeRow). IsBelow pending r.entry) row list below))

none_asked : (rows : List Served) (sent : List PipeRow) (pending : List Request) → EntriesKept rows sent pending → EntriesKept rows sent []
none_asked rows sent pending kept = record {
  put = kept.put;
  below = All-weaker (λ (row : PipeRow). IsBelow pending row.entry) (λ (row : PipeRow). IsBelow [] row.entry) (λ row below srp. All-nil (λ (r : Request). row.entry.low < r.tag)) sent kept.below;
}

entries_heard : (rows : List Served) (tags : List ℕ) (rs : List Row) (n : ℕ) (s : ClientState) (sent : List PipeRow) (words : List Word) (talk talk' : Talk) → length words ≤ 1
    → AsksAnew (length rs) s words → All (λ (row : PipeRow). IsAnswerFor tags rs row.entry) sent → EntriesKept rows sent talk.pending → HearsAll talk n words talk' → EntriesKept rows sent talk'.pending
entries_heard rows tags rs n s sent [] talk talk' few anew answers kept heard = subst (λ (t : Talk). EntriesKept rows sent t.pending) (sym heard) kept
entries_heard rows tags rs n s sent (begins ∷ []) talk talk' few anew answers kept (middle, one, rest) = subst (λ (t : Talk). EntriesKept rows sent t.pending) (sym (rest ∙ one)) kept
entries_heard rows tags rs n s sent (gone ∷ []) talk talk' few anew answers kept (middle, one, rest) =
    subst (EntriesKept rows sent) (sym (ap (λ (t : Talk). t.pending) rest ∙ one.loses.pending)) (none_asked rows sent talk.pending kept)
entries_heard rows tags rs n s sent (asks address bytes iu ∷ []) talk talk' few anew answers kept (middle, one, rest) =
    let new : IsNewWord (length rs) (length s.rows) (asks address bytes iu) = All-head (IsNewWord (length rs) (length s.rows)) (asks address bytes iu) [] anew.asked in
    subst (EntriesKept rows sent) (sym (ap (λ (t : Talk). t.pending) rest ∙ one.pending))
    (entries_asked rows tags rs sent talk.pending one.request (omega (arith, one.is.tag_is, new.0)) answers kept)
entries_heard rows tags rs n s sent (word ∷ next ∷ words) talk talk' few anew answers kept heard = absurd (omega (arith, few))

pub entries_turned : (rows : List Served) (tags : List ℕ) (rs : List Row) (n : ℕ) (s : ClientState) (sent sent' : List PipeRow) (words : List Word) (talk talk' : Talk) → length words ≤ 1
    → AsksAnew (length rs) s words → sent' ≡ sent → All (λ (row : PipeRow). IsAnswerFor tags rs row.entry) sent → EntriesKept rows sent talk.pending → HearsAll talk n words talk'
    → EntriesKept rows sent' talk'.pending
entries_turned rows tags rs n s sent sent' words talk talk' few anew same answers kept heard =
    subst (λ (list : List PipeRow). EntriesKept rows list talk'.pending) (sym same) (entries_heard rows tags rs n s sent words talk talk' few anew answers kept heard)

-- ---- before the first turn

pub entries_new : (rows : List Served) (sent : List PipeRow) (requests : List Request) → sent ≡ [] → EntriesKept rows sent requests
entries_new rows sent requests none =
    subst (λ (list : List PipeRow). EntriesKept rows list requests) (sym none)
    (record { put = All-nil (λ (row : PipeRow). IsAnswerEntry rows row.entry); below = All-nil (λ (row : PipeRow). IsBelow requests row.entry) })
