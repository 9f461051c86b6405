-- What a turn of a plain client's server unit lays behind the slots of its client's window: data-in of the row that the turn adds, each
-- byte at its place.
use Rattle.std.proofs.Common.{◌≡◌, ◌≢◌, ◌∙◌, ◌⊎◌, ◌++◌, ◌+◌, ◌-◌, ◌*◌, ◌<◌, ◌≤◌, ◌∷◌, inl, inr, ℕ, All, Bool, true, false, cond, Contains, List, [], nat_lt, Option, Some, None, length, length-append, map, refl, sym, ap, subst, arith}
use Rattle.std.proofs.lemmas.Bool.Decides.{nat_tests}
use Rattle.std.proofs.lemmas.List.{append_cancel_left}
use Rattle.std.proofs.lemmas.List.Elements.{All-append, All-head, All-weaker, Contains-push}
use Rattle.std.specs.List.{slice_index}
use Rattle.vio_num.specs.declared.history.Grant.{Grant}
use Rattle.vio_num.specs.declared.history.Served.{Served}
use Rattle.vio_num.specs.declared.names.UnitId.{UnitId}
use Rattle.crq_session.specs.Answered.{taken_now}
use Rattle.page_slots.specs.Stroke.{StrokeValue}
use Rattle.page_slots.specs.declared.stroke.StrokeName.{StrokeName}
use Rattle.srp_desc.specs.Pieces.{pieces, sum_of}
use Rattle.srp_desc.specs.Tables.{tables_of}
use Rattle.srp_iu.specs.declared.buffer.Desc.{Desc}
use Rattle.srp_iu.specs.declared.unit.Iu.{Iu}
use Rattle.srp_iu.specs.declared.unit.Iu.TheVariants as units
use Rattle.tce_window.specs.PortState.{PortState}
use Rattle.block_server.specs.Bearing.{IsDataPart, IsOfQuestion, NamesData, StrokeBears, question_of}
use Rattle.block_server.specs.Carried.{address_of}
use Rattle.block_server.specs.Causes.{IsNamed}
use Rattle.block_server.specs.Ranges.{AddsEach, IsDataIn, Known, MayWrite, StrokeLiesIn, StrokeLiesInOne, WritesOn, known_in, seen_in}
use Rattle.block_server.specs.RowsOn.{AddsFor, RowsOn, row_tag}
use Rattle.block_server.specs.Standing.{LeavesOn, stood}
use Rattle.block_server.specs.Talk.{HearsAll, Talk, Word, order_asked, talk_of}
use Rattle.block_server.specs.Talk.Word.{begins, gone}
use Rattle.block_server.specs.declared.request.Order.{Order}
use Rattle.block_server.specs.declared.request.Order.TheVariants as orders
use Rattle.block_server.specs.declared.request.Request.{Request}
use Rattle.vscsi_client.specs.Units.{slot_address}
use Rattle.vscsi_client.specs.declared.TheConstants.{DATA_START, SLOTS}
use Rattle.vscsi_client.specs.declared.row.Row.{Row}
use Rattle.vcpu_run.specs.DataKept.{IsInwardAt}
use Rattle.vcpu_run.specs.PlainBorne.{AreBorne, IsInPlace, IsOfRow, rows_by}
use Rattle.vcpu_run.specs.PlainRows.{TagsKept, tags_by}
use Rattle.vcpu_run.specs.PlainTalk.{ArePending, Ask, AskedParts, Between, DataLies, HearsOfClient, HearsOfGone, InPhase, IsAsk, IsOwnWindow, IsPendingAs, IsTalking, IsVacant, StartsAt, TalksPlainly, inn_of, word_of}
use Rattle.vcpu_run.proofs.PlainBorne.{all_more, rows_push}
use Rattle.vcpu_run.proofs.PlainData.{table_read, tables_few}
use Rattle.vcpu_run.proofs.PlainPlaces.{sum_first}
use Rattle.vcpu_run.proofs.PlainReady.{all_rest}
use Rattle.vcpu_run.proofs.PlainServed.{heard_talk, pending_first}
use Rattle.vcpu_run.proofs.PlainTurns.{Turns, begins_up, gone_vacant, hears_these, none_vacant}
use Rattle.vcpu_run.proofs.PlainAnswered.{answer_few}

-- ---- the request that is served

-- The client asked it, and its data lie in its window; its queue is registered.
pub record IsAskedFor (at : Between) (request : Request) : Type 0 where
  pub ask : Ask
  pub pending : IsPendingAs request ask
  pub is : IsAsk ask
  pub registered : at.own.registered ≡ true
  pub lies : DataLies at.window ask
  pub starts : StartsAt at.client.rows ask

none_pending : (list : List Request) (request : Request) (rest : List Request) → list ≡ request ∷ rest → list ≡ [] → ⊥
none_pending list request rest is none = absurd (cc (is, none))

pub asked_for : (granted : ℕ) (at at' : Between) (lines lines' : List Grant) (words : List Word) → TalksPlainly granted at words → (turn : Turns at at' lines lines' words) → (request : Request)
    (rest : List Request) → turn.middle.pending.items ≡ request ∷ rest → IsAskedFor at request
asked_for granted at at' lines lines' words talks turn request rest items = by talks.phase
  where
    n : ℕ
    n = length (taken_now at.server)

    vacant : IsVacant turn.middle → IsAskedFor at request
    vacant is = absurd (none_pending turn.middle.pending.items request rest items is.pending)

    away : HearsOfGone at words → IsAskedFor at request
    away (inl one) = vacant (gone_vacant at.unit turn.middle n (hears_these at.unit turn.middle n words (gone ∷ []) one turn.hears.heard))
    away (inr none) = vacant (none_vacant at.unit turn.middle n (hears_these at.unit turn.middle n words [] none.0 turn.hears.heard) none.1)

    begun : IsVacant at.unit → HearsOfClient at words → IsAskedFor at request
    begun is (inl one) =
        let up = begins_up at.unit turn.middle n (hears_these at.unit turn.middle n words (begins ∷ []) one.0 turn.hears.heard) in
        absurd (none_pending turn.middle.pending.items request rest items (ap (λ (t : Talk). t.pending) up ∙ is.pending))
    begun is (inr none) = vacant (none_vacant at.unit turn.middle n (hears_these at.unit turn.middle n words [] none.0 turn.hears.heard) is)

    talking : (asked : AskedParts) (answers : List Iu) → IsTalking granted at words asked answers → IsAskedFor at request
    talking asked answers talk =
        let each : All IsAsk (asked.pending ++ asked.coming) = all_rest IsAsk asked.answered (asked.pending ++ asked.coming) talk.each in
        let heard = heard_talk at.unit turn.middle n asked.pending asked.coming talk.few (all_rest IsAsk asked.pending asked.coming each) talk.pending talk.counts
        (hears_these at.unit turn.middle n words (map word_of asked.coming) talk.coming turn.hears.heard) in
        let first = pending_first request rest (asked.pending ++ asked.coming) (subst (λ (requests : List Request). ArePending requests (asked.pending ++ asked.coming)) items heard.pending_are) in
        record {
          ask = first.0;
          pending = first.3;
          is = All-head IsAsk first.0 first.1 (subst (All IsAsk) first.2 each);
          registered = talk.registered;
          lies = All-head (DataLies at.window) first.0 first.1 (subst (All (DataLies at.window)) first.2 talk.tables);
          starts = All-head (StartsAt at.client.rows) first.0 first.1 (subst (All (StartsAt at.client.rows)) first.2 talk.starts);
        }

    by : InPhase granted at words → IsAskedFor at request
    by (inl is) = away is.heard
    by (inr (inl is)) = begun is.vacant is.heard
    by (inr (inr (asked, answers, talk))) = talking asked answers talk

-- ---- where its data lie

pub named_data : (window : PortState) (iu : Iu) (list : List Desc) → NamesData (stood window) (order_asked iu) list → IsNamed (stood window) (inn_of iu) list
named_data window (units.Cmd command) list is = is
named_data window (units.LoginReq request) list is = absurd is
named_data window (units.ILogout tag) list is = absurd is
named_data window (units.TskMgmt task) list is = absurd is
named_data window iu list is = absurd is

-- the pieces that were read are those that the table names
pub list_places : (window : PortState) → IsOwnWindow window → (ask : Ask) → DataLies window ask → (list : List Desc) → IsNamed (stood window) (inn_of ask.iu) list → (j : ℕ) → j < sum_of list
    → address_of list j ≡ Some (ask.start + j)
list_places window own ask lies list names =
    let read : names.table ≡ lies.bytes =
    table_read window own ask.table lies.bytes names.table (tables_of (inn_of ask.iu)) (tables_few (inn_of ask.iu)) names.full lies.whole lies.table names.brought in
    lies.places list (ap (pieces (inn_of ask.iu)) (sym read) ∙ names.named_is)

-- what has an address is one of them
address_in : (list : List Desc) (j a : ℕ) → address_of list j ≡ Some a → j < sum_of list
address_in [] j a is = absurd (cc (is))
address_in (piece ∷ list) j a is = by (λ e. address_in list (j - piece.len) a e) (nat_lt j piece.len) refl is
  where
    by : (address_of list (j - piece.len) ≡ Some a → j - piece.len < sum_of list) → (b : Bool) → nat_lt j piece.len ≡ b
        → cond b (Some (piece.address + j)) (address_of list (j - piece.len)) ≡ Some a → j < sum_of (piece ∷ list)
    by rest true less e = let whole = sum_first piece list in grind (arith, nat_tests, less, whole)
    by rest false less e =
        let behind = rest e in
        let whole = sum_first piece list in
        grind (arith, nat_tests, less, behind, whole)

-- ---- a stroke that was laid

-- the page of a stroke is that of its entry
pub entry_is : (window : PortState) → IsOwnWindow window → (address len page : ℕ) (stroke : StrokeValue) → (lies : StrokeLiesIn window.values address len page stroke) → lies.entry ≡ page
entry_is window own address len page stroke lies = sym ((own.values lies.entry).names lies.named.version lies.named.value lies.named.current.shown) ∙ lies.named.named

-- it is not one of an answer
pub behind_slots : (window : PortState) → IsOwnWindow window → (address len page slot : ℕ) (stroke : StrokeValue) → StrokeLiesIn window.values address len page stroke → DATA_START ≤ 4096 * page
    → address ≡ slot_address slot → slot ≤ SLOTS → len ≤ 256 → ⊥
behind_slots window own address len page slot stroke lies behind is within few =
    let entry : lies.entry ≡ page = entry_is window own address len page stroke lies in
    omega (arith, entry, lies.to, behind, is, within, few)

-- it bears data at their place
pub data_borne : (name : StrokeName) (list : List Desc) (inn bytes : List ℕ) (start address entry page : ℕ) (stroke : StrokeValue) → entry ≡ page → address ≤ 4096 * entry + stroke.offset
    → 4096 * entry + stroke.offset + length stroke.bytes ≤ address + length bytes
    → ((k : ℕ) → k < length stroke.bytes → slice_index stroke.bytes k ≡ slice_index bytes (4096 * entry + stroke.offset + k - address))
    → IsDataPart name list inn address bytes stroke.name → ((j : ℕ) → j < sum_of list → address_of list j ≡ Some (start + j)) → IsInPlace inn start page stroke
data_borne name list inn bytes start address entry page stroke same from to bears part places k less =
    let m : ℕ = 4096 * entry + stroke.offset + k - address in
    let within : 4096 * entry + stroke.offset + k - address < length bytes = omega (arith, from, to, less) in
    let there : address_of list (part.at + (4096 * entry + stroke.offset + k - address)) ≡ Some (address + (4096 * entry + stroke.offset + k - address)) =
    part.there (4096 * entry + stroke.offset + k - address) within in
    let inside = address_in list (part.at + (4096 * entry + stroke.offset + k - address)) (address + (4096 * entry + stroke.offset + k - address)) there in
    let place : address + (4096 * entry + stroke.offset + k - address) ≡ start + (part.at + (4096 * entry + stroke.offset + k - address)) =
    one_address _ _ (sym there ∙ places (part.at + (4096 * entry + stroke.offset + k - address)) inside) in
    record {
      from = omega (arith, same, from, place);
      below = omega (arith, same, from, place, within, part.inside);
      is = bears k less ∙ part.are (4096 * entry + stroke.offset + k - address) within ∙ ap (slice_index inn) (omega (arith, same, from, place));
    }
  where
    one_address : (a b : ℕ) → Some a ≡ Some b → a ≡ b
    one_address a b e = cc (e)

-- ---- the row that is added

same_last : (list : List Served) (a b : Served) → list ++ a ∷ [] ≡ list ++ b ∷ [] → a ≡ b
same_last list a b e = heads (append_cancel_left list (a ∷ []) (b ∷ []) e)
  where
    heads : a ∷ [] ≡ b ∷ [] → a ≡ b
    heads e = cc (e)

-- its tag is that of the request, and its unit this one
pub record IsRowOf (unit : UnitId) (request : Request) (rows rows' : List Served) (row : Served) : Type 0 where
  pub tag_is : row_tag row ≡ request.tag
  pub by_unit : rows_by unit rows' ≡ rows_by unit rows ++ row ∷ []

pub row_added : (unit : UnitId) (request : Request) (rows rows' : List Served) (row : Served) → rows' ≡ rows ++ row ∷ [] → AddsFor unit request rows rows' → IsRowOf unit request rows rows' row
row_added unit request rows rows' row added (inl adds) =
    let same : adds.row ≡ row = same_last rows adds.row row (sym adds.added ∙ added) in
    record {
      tag_is = ap row_tag (sym same) ∙ adds.tag_is;
      by_unit = ap (rows_by unit) added ∙ rows_push unit rows row (ap (λ (r : Served). r.unit) (sym same) ∙ adds.unit_is);
    }
row_added unit request rows rows' row added (inr none) =
    let long : length rows ≡ length (rows ++ row ∷ []) = ap length (sym none.1 ∙ added) in
    absurd (omega (arith, long, length-append rows (row ∷ [])))

-- ---- the turn

-- what is so of the strokes that a page had, and of those that were laid, is so of all
pub page_more : (P Q : StrokeValue → Type 0) (old new : Option (List StrokeValue)) (list : List StrokeValue) → new ≡ Some list → AddsEach P old new
    → ((was : List StrokeValue) → old ≡ Some was → All Q was) → ((stroke : StrokeValue) → P stroke → Q stroke) → All Q list
page_more P Q (Some old) (Some new) list is adds was so =
    subst (All Q) (sym adds.1 ∙ same new list is) (All-append Q old adds.0 (was old refl) (All-weaker P Q so adds.0 adds.2))
  where
    same : (a b : List StrokeValue) → Some a ≡ Some b → a ≡ b
    same a b e = cc (e)
page_more P Q None None list is adds was so = absurd (cc (is))
page_more P Q (Some old) None list is adds was so = absurd adds
page_more P Q None (Some new) list is adds was so = absurd adds

-- the rows are more
rows_more : (unit : UnitId) (request : Request) (rows rows' : List Served) (server : UnitId) (rs : List Row) (page : ℕ) (strokes : List StrokeValue) → AddsFor unit request rows rows'
    → All (λ (s : StrokeValue). s.name.who ≡ server → IsOfRow (rows_by unit rows) rs page s) strokes → All (λ (s : StrokeValue). s.name.who ≡ server → IsOfRow (rows_by unit rows') rs page s) strokes
rows_more unit request rows rows' server rs page strokes (inl adds) all =
    subst (λ (list : List Served). All (λ (s : StrokeValue). s.name.who ≡ server → IsOfRow list rs page s) strokes)
    (sym (row_added unit request rows rows' adds.row adds.added (inl adds)).by_unit)
    (all_more (rows_by unit rows) (adds.row ∷ []) server rs page strokes all)
rows_more unit request rows rows' server rs page strokes (inr none) all =
    subst (λ (list : List Served). All (λ (s : StrokeValue). s.name.who ≡ server → IsOfRow (rows_by unit list) rs page s) strokes) (sym none.1) all

pub is_out : (order : Order) → (order ≡ orders.Logout) ⊎ (order ≢ orders.Logout)
is_out orders.Logout = inl refl
is_out (orders.Login request) = inr (λ e. cc (e))
is_out (orders.Task task) = inr (λ e. cc (e))
is_out (orders.Command command) = inr (λ e. cc (e))
is_out orders.Unreadable = inr (λ e. cc (e))

-- a logout lays nothing there
out_lays : (window : PortState) → IsOwnWindow window → (request : Request) (ask : Ask) → IsPendingAs request ask → IsAsk ask → request.order ≡ orders.Logout → (page : ℕ) → DATA_START ≤ 4096 * page
    → (stroke : StrokeValue) → StrokeLiesInOne window.values (MayWrite (stood window) request) page stroke → ⊥
out_lays window own request ask pending is out page behind stroke one = by one.range
  where
    by : MayWrite (stood window) request one.address one.len → ⊥
    by (inl range) = behind_slots window own one.address one.len page ask.slot stroke one.lies behind (range.0 ∙ pending.address) is.slot_is range.1
    by (inr goes) = subst (λ (o : Order). IsDataIn (stood window) o one.address one.len) out goes

-- what is laid there for a request is of its row
question_lays : (at : Between) → IsOwnWindow at.window → (name unit : UnitId) (request : Request) (asked : IsAskedFor at request) (answer : List ℕ) (rows rows' : List Served) → length answer ≤ 256
    → request.tag ≤ length at.client.rows → AddsFor unit request rows rows' → (page : ℕ) → DATA_START ≤ 4096 * page → (stroke : StrokeValue)
    → StrokeBears at.window.values (IsOfQuestion (stood at.window) name (question_of request) answer rows rows') page stroke → IsOfRow (rows_by unit rows') at.client.rows page stroke
question_lays at own name unit request asked answer rows rows' few known adds page behind stroke laid = by laid.writes
  where
    entry : laid.lies.entry ≡ page
    entry = entry_is at.window own laid.address (length laid.bytes) page stroke laid.lies

    by : IsOfQuestion (stood at.window) name (question_of request) answer rows rows' laid.address laid.bytes stroke.name → IsOfRow (rows_by unit rows') at.client.rows page stroke
    by (inl part) =
        let long : length laid.bytes ≤ 256 = subst (λ (bytes : List ℕ). length bytes ≤ 256) (sym part.are) few in
        absurd (behind_slots at.window own laid.address (length laid.bytes) page asked.ask.slot stroke laid.lies behind (part.address_is ∙ asked.pending.address) asked.is.slot_is long)
    by (inr (row, added, named)) =
        let new : IsRowOf unit request rows rows' row = row_added unit request rows rows' row added adds in
        let mark : stroke.name.mark ≡ request.tag = ap (λ (n : StrokeName). n.mark) named.part.name_is in
        let names = named_data at.window asked.ask.iu named.list (subst (λ (o : Order). NamesData (stood at.window) o named.list) asked.pending.order named.named) in
        let places : (j : ℕ) → j < sum_of named.list → address_of named.list j ≡ Some (asked.ask.start + j) = list_places at.window own asked.ask asked.lies named.list names in
        record {
          row = row;
          there = subst (λ (list : List Served). Contains list row) (sym new.by_unit) (Contains-push (rows_by unit rows) row);
          tag_is = new.tag_is ∙ sym mark;
          known = subst (λ n. n ≤ length at.client.rows) (sym mark) known;
          lies = λ from len inward.
              let start : from ≡ asked.ask.start = (asked.starts from len (subst (λ n. IsInwardAt at.client.rows n from len) (mark ∙ asked.pending.tag) inward)).0 in
              subst (λ s. IsInPlace row.inn s page stroke) (sym start)
              (data_borne (record { who = name; mark = request.tag }) named.list row.inn laid.bytes asked.ask.start laid.address laid.lies.entry page stroke entry laid.lies.from laid.lies.to
              laid.bears named.part places);
        }

-- nothing is pending: nothing was laid, and no row was added
none_laid : (id : UnitId) (rs : List Row) (old new : PortState) (rows rows' : List Served) → Some (known_in new) ≡ Some (known_in old) → rows' ≡ rows
    → AreBorne (rows_by id rows) id rs old.strokes → AreBorne (rows_by id rows') id rs new.strokes
none_laid id rs old new rows rows' same same_rows borne =
    subst (λ (list : List Served). AreBorne (rows_by id list) id rs new.strokes) (sym same_rows)
    (subst (AreBorne (rows_by id rows) id rs) (sym (ap (λ (k : Known). k.strokes) (held (known_in new) (known_in old) same))) borne)
  where
    held : (a b : Known) → Some a ≡ Some b → a ≡ b
    held a b e = cc (e)

-- What was laid there is so behind a turn of the server unit.
pub borne_served : (granted : ℕ) (at at' : Between) (lines lines' : List Grant) (words : List Word) (rows rows' : List Served) (name id : UnitId) → TalksPlainly granted at words
    → (turn : Turns at at' lines lines' words) → WritesOn (stood at.window) at.unit at.server words (seen_in false at.window) (seen_in false at'.window)
    → LeavesOn name at.unit at.server words at'.server at.window at'.window rows rows' → RowsOn at.unit at.server words rows rows' → at.unit.id ≡ id
    → ((talk : Talk) → HearsAll (talk_of at.unit) (length (taken_now at.server)) words talk → TagsKept (tags_by id rows) (length at.client.rows) talk.pending)
    → AreBorne (rows_by id rows) id at.client.rows at.window.strokes → AreBorne (rows_by id rows') id at.client.rows at'.window.strokes
borne_served granted at at' lines lines' words rows rows' name id talks turn wrote left on own tags borne = by turn.middle.pending.items refl
  where
    talk : Talk
    talk = talk_of turn.middle

    served : (request : Request) (rest : List Request) → turn.middle.pending.items ≡ request ∷ rest → (request.order ≡ orders.Logout) ⊎ (request.order ≢ orders.Logout)
        → AreBorne (rows_by id rows') id at.client.rows at'.window.strokes
    served request rest items (inl out) page behind list there =
        let asked : IsAskedFor at request = asked_for granted at at' lines lines' words talks turn request rest items in
        let adds : AddsFor id request rows rows' = subst (λ i. AddsFor i request rows rows') own (on.adds talk request rest turn.hears.heard items) in
        let lays = wrote.wrote talk request rest turn.hears.heard items in
        page_more (StrokeLiesInOne at.window.values (MayWrite (stood at.window) request) page) (λ (s : StrokeValue). s.name.who ≡ id → IsOfRow (rows_by id rows') at.client.rows page s)
        (at.window.strokes page) (at'.window.strokes page) list there (lays.strokes page)
        (λ was found. rows_more id request rows rows' id at.client.rows page was adds (borne page behind was found))
        (λ s laid. absurd (out_lays at.window talks.calm.usable request asked.ask asked.pending asked.is out page behind s laid))
    served request rest items (inr isnt) page behind list there =
        let asked : IsAskedFor at request = asked_for granted at at' lines lines' words talks turn request rest items in
        let adds : AddsFor id request rows rows' = subst (λ i. AddsFor i request rows rows') own (on.adds talk request rest turn.hears.heard items) in
        let leaves = left.leaves talk request rest turn.hears.heard items isnt in
        let few : length leaves.bytes ≤ 256 = answer_few talk.current talk.granted request.tag request.order leaves.outcome leaves.bytes leaves.answer in
        let kept : TagsKept (tags_by id rows) (length at.client.rows) (request ∷ rest) =
        subst (TagsKept (tags_by id rows) (length at.client.rows)) items (tags talk turn.hears.heard) in
        page_more (StrokeBears at.window.values (IsOfQuestion (stood at.window) name (question_of request) leaves.bytes rows rows') page)
        (λ (s : StrokeValue). s.name.who ≡ id → IsOfRow (rows_by id rows') at.client.rows page s)
        (at.window.strokes page) (at'.window.strokes page) list there (leaves.lays.strokes page)
        (λ was found. rows_more id request rows rows' id at.client.rows page was adds (borne page behind was found))
        (λ s laid of. question_lays at talks.calm.usable name id request asked leaves.bytes rows rows' few kept.rise.0 adds page behind s laid)

    by : (requests : List Request) → turn.middle.pending.items ≡ requests → AreBorne (rows_by id rows') id at.client.rows at'.window.strokes
    by [] none =
        none_laid id at.client.rows at.window at'.window rows rows' (wrote.none talk turn.hears.heard none) (on.none talk turn.hears.heard none) borne
    by (request ∷ rest) items = served request rest items (is_out request.order)
