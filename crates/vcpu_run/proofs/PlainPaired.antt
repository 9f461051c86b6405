-- A turn of a plain client's server unit, at their pair: what is so between them is so behind it, and its lines say that its client alone
-- ends logins.
use Rattle.std.proofs.Common.{◌≡◌, ◌≢◌, ◌∙◌, ◌+◌, ◌≤◌, ◌++◌, ◌∷◌, true≢false, IsNone, IsSomeAnd, drop, append-nil, append_assoc, inl, inr, ℕ, All, Bool, true, false, List, [], Option, Some, None, OnOk, Result, Ok, Err, length, length-append, slice_get, refl, sym, ap, ap₂, subst, arith}
use Rattle.std.specs.Borrow.{GName}
use Rattle.std.specs.Option.{option_map}
use Rattle.std.proofs.Math.Logic.{∥∥₁_elim, ∥∥₁_map}
use Rattle.std.proofs.lemmas.Bool.Decides.{nat_tests}
use Rattle.std.proofs.lemmas.List.Elements.{All-append, All-cons, All-head, All-nil, All-tail, All-weaker}
use Rattle.vio_num.specs.declared.entry.Entry.{Entry}
use Rattle.vio_num.specs.declared.history.Grant.{Grant}
use Rattle.vio_num.specs.declared.history.Served.{Served}
use Rattle.vio_num.specs.declared.history.Grant.TheVariants.{Granted}
use Rattle.vio_num.specs.declared.names.UnitId.{UnitId}
use Rattle.crq_ring.specs.Sessions.{of_session}
use Rattle.crq_ring.specs.declared.rows.PipeRow.{PipeRow}
use Rattle.crq_ring.proofs.Sessions.{of_session-append}
use Rattle.crq_session.specs.Answered.{received_now, taken_now}
use Rattle.crq_session.specs.EndState.{EndPlace, EndState}
use Rattle.crq_session.specs.PlainState.{end_of, side_of}
use Rattle.crq_session.specs.declared.handshake.Handshake.TheVariants.{Down, Waiting}
use Rattle.crq_session.specs.declared.link.PlainLink.{PlainLink}
use Rattle.tce_window.specs.PlainPort.{known_of}
use Rattle.tce_window.specs.PortState.{PortPlace, PortState}
use Rattle.block_server.specs.Advances.{PutsMore}
use Rattle.block_server.specs.Makers.{same_unit}
use Rattle.block_server.specs.Ranges.{WritesOn, seen_in}
use Rattle.block_server.specs.Receipts.{LinesMore, unit_of}
use Rattle.block_server.specs.Standing.{LeavesOn, stood}
use Rattle.block_server.specs.Answering.{OnlyRowsOf}
use Rattle.block_server.specs.RowsOn.{AddsFor, RowsOn}
use Rattle.block_server.specs.Talk.{HearsAll, IsLoss, IsNewThere, IsTurnReady, Reach, ServesNext, Talk, TalksOn, UnitOpensOn, UnitTalksOn, Word, reach, settled_lines, talk_of}
use Rattle.block_server.specs.Turns.{IsStill, UnderWay, under_way, way_of}
use Rattle.block_server.specs.declared.logins.Logins.{Logins}
use Rattle.block_server.specs.declared.request.Request.{Request}
use Rattle.block_server.specs.declared.service.Outcome.{Outcome}
use Rattle.block_server.specs.declared.service.Outcome.TheVariants as outcomes
use Rattle.block_server.specs.declared.unit.Unit.{Unit}
use Rattle.vio_trace.specs.declared.rows.AnswerRow.{AnswerRow}
use Rattle.vscsi_client.specs.State.{ClientState}
use Rattle.vcpu_run.specs.declared.driver.Driver.{Driver}
use Rattle.vcpu_run.specs.declared.pair.Pair.{Pair}
use Rattle.vcpu_run.specs.Machines.{server_id}
use Rattle.vcpu_run.specs.PlainBorne.{AreBorne, rows_by}
use Rattle.vcpu_run.specs.PlainClients.{ends_by_client, grants_of, granted_in}
use Rattle.vcpu_run.specs.PlainNoted.{AreAnswers, AreAskedFor, IsLaidAnswer}
use Rattle.vcpu_run.specs.PlainPairs.{EndByClient, IsIdleUnit, IsNewBetween, IsNewPair, IsPlainPair, IsReadyPair, ServerBooks, SparesUnit, between_of}
use Rattle.vcpu_run.specs.PlainRows.{TagsKept, tags_by, AnswersKept, EntriesKept}
use Rattle.vcpu_run.specs.PlainTalk.{AreSaidThere, Between, ClientStays, HasRights, IsCalm, IsOwnWindow, TalksPlainly, TookNoMore, owes}
use Rattle.vcpu_run.proofs.PlainAnswered.{plainly_served}
use Rattle.vcpu_run.proofs.PlainAnswers.{answers_served}
use Rattle.vcpu_run.proofs.PlainBegins.{starts_plainly}
use Rattle.vcpu_run.proofs.PlainFits.{entries_new, entries_served}
use Rattle.vcpu_run.proofs.PlainGrants.{less_lines, owed_behind}
use Rattle.vcpu_run.proofs.PlainOwed.{owes_none}
use Rattle.vcpu_run.proofs.PlainGiven.{answers_behind, answers_new}
use Rattle.vcpu_run.proofs.PlainLaid.{borne_served}
use Rattle.vcpu_run.proofs.PlainNotes.{all_laid_on}
use Rattle.vcpu_run.proofs.PlainReady.{talk_ready}
use Rattle.vcpu_run.proofs.PlainRejected.{StrokesStay}
use Rattle.vcpu_run.proofs.PlainSizes.{sizes_served}
use Rattle.vcpu_run.proofs.PlainTags.{rows_spared, tags_new, tags_next}
use Rattle.vcpu_run.proofs.PlainTurned.{lent_at, own_behind, rights_behind, talks_lent}
use Rattle.vcpu_run.proofs.PlainTurns.{Turns}
use Rattle.vcpu_run.specs.Credited.{Ended}
use Rattle.vcpu_run.proofs.PlainRights.{rights_same}
use Rattle.vcpu_run.proofs.PlainTellings.{lines_move, serve_stays}
use Rattle.unit_region.specs.RegionLines.{IsOn}

-- ---- the ends of the link

-- What the clauses of a turn of server unit k say, under whose name it lays strokes, between these states of its queue's end and of its client's
-- window.
pub record TurnsOn (name : UnitId) (books books' : ServerBooks) (k : ℕ) (before after : EndState) (window window' : PortState) : Type 0 where
  pub talks : (words : List Word) (u : Unit) → slice_get books.units k ≡ Some u → IsTurnReady u (reach before window false) false words
      → UnitTalksOn books'.units k u (reach before window false) after books.lines books'.lines words
  pub places : (words : List Word) (u : Unit) → slice_get books.units k ≡ Some u → IsTurnReady u (reach before window false) false words
      → WritesOn (stood window) u before words (seen_in false window) (seen_in false window')
  pub leaves : (words : List Word) (u : Unit) → slice_get books.units k ≡ Some u → IsTurnReady u (reach before window false) false words
      → LeavesOn name u before words after window window' books.rows books'.rows
  pub rows : (words : List Word) (u : Unit) → slice_get books.units k ≡ Some u → IsTurnReady u (reach before window false) false words → RowsOn u before words books.rows books'.rows
  pub opens : (u : Unit) → slice_get books.units k ≡ Some u → IsNewThere u (reach before window false) false
      → UnitOpensOn books'.units k u (reach before window false) (reach after window' false) books.lines books'.lines books.rows books'.rows
  pub ids : (u u' : Unit) → slice_get books.units k ≡ Some u → slice_get books'.units k ≡ Some u' → u'.id ≡ u.id
  pub place : after.place ≡ before.place
  pub partner : after.counts.partner_session ≡ before.counts.partner_session
  pub put : PutsMore before.sent after.sent
  pub took : TookNoMore after
  pub window_place : window'.place ≡ window.place

-- the same of one that ended well
pub turns_ok : {T E : Type 0} (r : Result T E) (name : UnitId) (books books' : ServerBooks) (k : ℕ) (before after : EndState) (window window' : PortState)
    → ((words : List Word) (u : Unit) → slice_get books.units k ≡ Some u → IsTurnReady u (reach before window false) false words
    → OnOk r (UnitTalksOn books'.units k u (reach before window false) after books.lines books'.lines words))
    → ((words : List Word) (u : Unit) → slice_get books.units k ≡ Some u → IsTurnReady u (reach before window false) false words
    → OnOk r (WritesOn (stood window) u before words (seen_in false window) (seen_in false window')))
    → ((words : List Word) (u : Unit) → slice_get books.units k ≡ Some u → IsTurnReady u (reach before window false) false words
    → OnOk r (LeavesOn name u before words after window window' books.rows books'.rows))
    → ((words : List Word) (u : Unit) → slice_get books.units k ≡ Some u → IsTurnReady u (reach before window false) false words → OnOk r (RowsOn u before words books.rows books'.rows))
    → ((u : Unit) → slice_get books.units k ≡ Some u → IsNewThere u (reach before window false) false
    → OnOk r (UnitOpensOn books'.units k u (reach before window false) (reach after window' false) books.lines books'.lines books.rows books'.rows))
    → ((u u' : Unit) → slice_get books.units k ≡ Some u → slice_get books'.units k ≡ Some u' → u'.id ≡ u.id)
    → after.place ≡ before.place → after.counts.partner_session ≡ before.counts.partner_session → PutsMore before.sent after.sent → TookNoMore after → window'.place ≡ window.place
    → OnOk r (TurnsOn name books books' k before after window window')
turns_ok (Ok x) name books books' k before after window window' talks places leaves rows opens ids place partner put took window_place = record {
  talks = talks;
  places = places;
  leaves = leaves;
  rows = rows;
  opens = opens;
  ids = ids;
  place = place;
  partner = partner;
  put = put;
  took = took;
  window_place = window_place;
}
turns_ok (Err e) name books books' k before after window window' talks places leaves rows opens ids place partner put took window_place = tt

-- the client's end received more, and took nothing
pub took_on : (old new : EndState) → new.last_session ≡ old.last_session → new.taken ≡ old.taken → (more : List PipeRow) → new.place.received ≡ old.place.received ++ more → TookNoMore old
    → TookNoMore new
took_on old new session taken more received took =
    let taken_is : length (taken_now new) ≡ length (taken_now old) = ap₂ (λ (q : ℕ) (rows : List PipeRow). length (of_session q rows)) session taken in
    let received_is : length (received_now new) ≡ length (received_now old) + length (of_session old.last_session more) =
    ap₂ (λ (q : ℕ) (rows : List PipeRow). length (of_session q rows)) session received
    ∙ ap (λ (list : List Entry). length list) (of_session-append old.last_session old.place.received more)
    ∙ length-append (received_now old) (of_session old.last_session more) in
    omega (arith, taken_is, received_is, took)

-- a queue that is registered keeps no event
pub idle_side : (first : Bool) (link : PlainLink) → (side_of link first).registered ≡ true → (side_of link first).kept ≡ None
idle_side first link registered = none (side_of link first).kept ((side_of link first).idle registered)
  where
    none : (kept : Option Entry) → IsNone kept → kept ≡ None
    none None is = refl
    none (Some event) is = absurd (cc (is))

pub client_stays : (a b : List GName) (unit unit' : Unit) (driver : Driver) (old new : Pair) → (end_of b new.link true).place ≡ (end_of a old.link true).place
    → (end_of b new.link true).counts.partner_session ≡ (end_of a old.link true).counts.partner_session → PutsMore (end_of a old.link true).sent (end_of b new.link true).sent
    → TookNoMore (end_of b new.link true) → TookNoMore (end_of [] old.link false) → IsOwnWindow (known_of new.window)
    → ClientStays (lent_at a [] (between_of unit driver old)) (lent_at b [] (between_of unit' driver new))
client_stays a b unit unit' driver old new place partner put took own_took own = record {
  client = refl;
  session = partner;
  registered = ap (λ (p : EndPlace). p.partner_registered) place;
  taken = ap (λ (p : EndPlace). p.partner_taken) place;
  slots = ap (λ (p : EndPlace). p.partner_slots) place;
  kept = ap (λ (p : EndPlace). p.partner_kept) place;
  ends = record {
    server_sees = record { partner = refl; session = refl; received = refl; taken = refl; slots = refl };
    own_sees = record { partner = refl; session = refl; received = refl; taken = refl; slots = refl };
    server_took = took;
    own_took = took_on (end_of [] old.link false) (end_of [] new.link false) partner (ap (λ (p : EndPlace). p.partner_taken) place) put.more put.put own_took;
  };
  idle = idle_side true new.link;
  usable = own;
}

-- ---- the lines

-- Lines were added that say that the client alone ended a login.
record AddsByClient (old new : List Grant) : Type 0 where
  more : List Grant
  added : new ≡ old ++ more
  ends : All (λ line. ends_by_client line ≡ true) more

loss_ends : (line : Grant) → IsLoss line → ends_by_client line ≡ true
loss_ends line loss = ap ends_by_client loss.3

adds_on : (a b c : List Grant) → AddsByClient a b → AddsByClient b c → AddsByClient a c
adds_on a b c first next = record {
  more = first.more ++ next.more;
  added = next.added ∙ ap (λ (list : List Grant). list ++ next.more) first.added ∙ append_assoc a first.more next.more;
  ends = All-append (λ (line : Grant). ends_by_client line ≡ true) first.more next.more first.ends next.ends;
}

adds_none : (old new : List Grant) → new ≡ old → AddsByClient old new
adds_none old new same = record { more = []; added = same ∙ sym (append-nil old); ends = All-nil (λ (line : Grant). ends_by_client line ≡ true) }

settled_ends : (outcome : Outcome) (id : UnitId) (session : ℕ) (logins : Logins) → All (λ line. ends_by_client line ≡ true) (settled_lines outcome id session logins)
settled_ends (outcomes.Granted number) id session logins =
    All-cons (λ (line : Grant). ends_by_client line ≡ true) (Granted id session (logins.last + 1) number logins.granted) [] refl (All-nil (λ (line : Grant). ends_by_client line ≡ true))
settled_ends outcomes.Rejected id session logins = All-nil (λ (line : Grant). ends_by_client line ≡ true)
settled_ends (outcomes.Served row) id session logins = All-nil (λ (line : Grant). ends_by_client line ≡ true)

serves_ends : (unit unit' : Unit) (old new : EndState) (lines lines' : List Grant) → ServesNext unit unit' old new lines lines' → AddsByClient lines lines'
serves_ends unit unit' old new lines lines' (inl none) = adds_none lines lines' none.lines_are
serves_ends unit unit' old new lines lines' (inr (request, rest, items, inl (order, out))) = record {
  more = _;
  added = out.lines_are;
  ends = All-cons (λ (line : Grant). ends_by_client line ≡ true) _ [] refl (All-nil (λ (line : Grant). ends_by_client line ≡ true));
}
serves_ends unit unit' old new lines lines' (inr (request, rest, items, inr one)) = by old.place.partner_registered refl
  where
    by : (b : Bool) → old.place.partner_registered ≡ b → AddsByClient lines lines'
    by true there = record {
      more = settled_lines one.outcome unit.id old.last_session unit.logins;
      added = one.put.lines_are there;
      ends = settled_ends one.outcome unit.id old.last_session unit.logins;
    }
    by false shut = adds_none lines lines' (one.put.no_line shut)

turn_ends : (at at' : Between) (lines lines' : List Grant) (words : List Word) → Turns at at' lines lines' words → AddsByClient lines lines'
turn_ends at at' lines lines' words turn =
    adds_on lines turn.added lines'
    (record {
      more = turn.hears.lines_are.more;
      added = turn.hears.lines_are.added;
      ends = All-weaker IsLoss (λ line. ends_by_client line ≡ true) loss_ends turn.hears.lines_are.more turn.hears.lines_are.losses;
    })
    (serves_ends turn.middle at'.unit turn.between.queue at'.server turn.added lines' turn.serves)

end_more : (unit : UnitId) (old new : List Grant) → AddsByClient old new → EndByClient unit old → EndByClient unit new
end_more unit old new adds end =
    subst (EndByClient unit) (sym adds.added)
    (All-append (λ (line : Grant). same_unit (unit_of line) unit ≡ true → ends_by_client line ≡ true) old adds.more end
    (All-weaker (λ (line : Grant). ends_by_client line ≡ true) (λ (line : Grant). same_unit (unit_of line) unit ≡ true → ends_by_client line ≡ true) (λ line is own. is) adds.more
    adds.ends))

-- ---- the turn

-- no two rows have one tag behind it
tags_behind : (unit unit' : Unit) (old : Reach) (new : EndState) (lines lines' : List Grant) (rows rows' : List Served) (words : List Word) (id : UnitId) (last : ℕ) → unit.id ≡ id
    → (turn : TalksOn unit unit' old new lines lines' words) → RowsOn unit old.queue words rows rows'
    → ((talk : Talk) → HearsAll (talk_of unit) (length (taken_now old.queue)) words talk → TagsKept (tags_by id rows) last talk.pending)
    → TagsKept (tags_by id rows') last unit'.pending.items
tags_behind unit unit' old new lines lines' rows rows' words id last own turn on kept = by turn.serves
  where
    before : TagsKept (tags_by id rows) last turn.middle.pending.items
    before = kept (talk_of turn.middle) turn.hears.heard

    served : (request : Request) (rest : List Request) → turn.middle.pending.items ≡ request ∷ rest → unit'.pending.items ≡ drop 1 turn.middle.pending.items
        → TagsKept (tags_by id rows') last unit'.pending.items
    served request rest items left =
        subst (TagsKept (tags_by id rows') last) (sym (left ∙ ap (drop 1) items))
        (tags_next id rows rows' last request rest (subst (TagsKept (tags_by id rows) last) items before)
        (subst (λ i. AddsFor i request rows rows') own (on.adds (talk_of turn.middle) request rest turn.hears.heard items)))

    by : ServesNext turn.middle unit' turn.between.queue new turn.added lines' → TagsKept (tags_by id rows') last unit'.pending.items
    by (inl none) =
        subst (λ (list : List Served). TagsKept (tags_by id list) last unit'.pending.items) (sym (on.none (talk_of turn.middle) turn.hears.heard none.none))
        (subst (λ (u : Unit). TagsKept (tags_by id rows) last u.pending.items) (sym none.same) before)
    by (inr (request, rest, items, inl (order, out))) = served request rest items out.over.pending
    by (inr (request, rest, items, inr one)) = served request rest items one.put.over.pending

-- what the client noted stays laid
pub noted_on : (old new : PortState) (answers : List AnswerRow) → new.place ≡ old.place → StrokesStay old.strokes new.strokes → All (IsLaidAnswer old.place.unit old.strokes) answers
    → All (IsLaidAnswer new.place.unit new.strokes) answers
noted_on old new answers place stay all =
    subst (λ (own : UnitId). All (IsLaidAnswer own new.strokes) answers) (sym (ap (λ (p : PortPlace). p.unit) place)) (all_laid_on old.place.unit old.strokes new.strokes stay answers all)

served_plain : (granted : ℕ) (told : List Ended) (home k many : ℕ) (name : UnitId) (books books' : ServerBooks) (a b : List GName) (old new : Pair) (words : List Word) → name ≡ server_id home k → new.driver ≡ old.driver
    → ∥ LinesMore (server_id home k) many books.lines books'.lines ∥₁ → TurnsOn name books books' k (end_of a old.link true) (end_of b new.link true) (known_of old.window) (known_of new.window)
    → IsPlainPair granted told home books k words old → IsPlainPair granted told home books' k [] new
served_plain granted told home k many name books books' a b old new words called driver more turns plain =
    let at : Between = lent_at a [] (between_of plain.unit plain.driver old) in
    let talks : TalksPlainly granted at words = talks_lent a [] granted (between_of plain.unit plain.driver old) words plain.talks in
    let ready = talk_ready granted at words plain.rights talks in
    let on = turns.talks words plain.unit plain.there ready in
    let at' : Between = lent_at b [] (between_of on.unit' plain.driver new) in
    let turn : Turns at at' books.lines books'.lines words = on.talks in
    let wrote = turns.places words plain.unit plain.there ready in
    let own : IsOwnWindow at'.window = own_behind at at' books.lines books'.lines words turn talks.calm.usable turns.window_place wrote in
    let rights : HasRights at'.window = rights_behind at at' books.lines books'.lines words turn wrote plain.rights in
    let stays = client_stays a b plain.unit on.unit' plain.driver old new turns.place turns.partner turns.put turns.took talks.calm.ends.own_took own in
    let id : at'.unit.id ≡ at.unit.id = turns.ids plain.unit on.unit' plain.there on.there in
    let after : TalksPlainly granted at' [] =
    plainly_served granted at at' books.lines books'.lines books.rows books'.rows name words talks turn stays id (called ∙ sym (id ∙ plain.id))
    (λ e. plain.apart (e ∙ id ∙ plain.id)) turns.window_place wrote
    (turns.leaves words plain.unit plain.there ready) in
    let tags : TagsKept (tags_by (server_id home k) books'.rows) (length plain.driver.client.rows) on.unit'.pending.items =
    tags_behind plain.unit on.unit' (reach at.server at.window false) at'.server books.lines books'.lines books.rows books'.rows words (server_id home k) (length plain.driver.client.rows) plain.id turn
    (turns.rows words plain.unit plain.there ready) plain.tags in
    let answers : AnswersKept (tags_by (server_id home k) books'.rows) plain.driver.client at'.server.sent on.unit'.pending.items =
    answers_behind plain.unit on.unit' (reach at.server at.window false) at'.server books.lines books'.lines words books.rows books'.rows (server_id home k) plain.driver.client plain.id turn
    (turns.rows words plain.unit plain.there ready) plain.tags plain.answers in
    let entries : EntriesKept (rows_by (server_id home k) books'.rows) at'.server.sent on.unit'.pending.items =
    entries_served granted at at' books.lines books'.lines words books.rows books'.rows name (server_id home k) (length plain.driver.client.rows) talks turn stays
    (turns.leaves words plain.unit plain.there ready) (turns.rows words plain.unit plain.there ready) plain.id plain.tags plain.entries in
    record {
      unit = on.unit';
      there = on.there;
      id = turns.ids plain.unit on.unit' plain.there on.there ∙ plain.id;
      driver = plain.driver;
      driver_is = driver ∙ plain.driver_is;
      talks = talks_lent [] [] granted at' [] after;
      rights = rights;
      laid = lines_move at.unit.id at'.unit.id at.window.strokes at'.window.strokes id (serve_stays at at' books.lines books'.lines words turn wrote) told plain.laid;
      owed = owed_behind (server_id home k) (granted_in told) many at at' books.lines books'.lines words refl stays.registered turn more plain.owed;
      lines = end_more (server_id home k) books.lines books'.lines (turn_ends at at' books.lines books'.lines words turn) plain.lines;
      tags = λ talk heard. subst (λ (t : Talk). TagsKept (tags_by (server_id home k) books'.rows) (length plain.driver.client.rows) t.pending) (sym heard) tags;
      answers = λ talk heard. subst (λ (t : Talk). AnswersKept (tags_by (server_id home k) books'.rows) plain.driver.client at'.server.sent t.pending) (sym heard) answers;
      entries = λ talk heard. subst (λ (t : Talk). EntriesKept (rows_by (server_id home k) books'.rows) at'.server.sent t.pending) (sym heard) entries;
      apart = λ same. plain.apart (sym (ap (λ (place : PortPlace). place.unit) turns.window_place) ∙ same);
      borne = borne_served granted at at' books.lines books'.lines words books.rows books'.rows name (server_id home k) talks turn wrote (turns.leaves words plain.unit plain.there ready)
          (turns.rows words plain.unit plain.there ready) plain.id plain.tags plain.borne;
      answered = answers_served granted at at' books.lines books'.lines words books.rows books'.rows name (server_id home k) talks turn stays turns.window_place wrote
          (turns.leaves words plain.unit plain.there ready) (turns.rows words plain.unit plain.there ready) plain.id plain.answered;
      sized = sizes_served granted at at' books.lines books'.lines words books.rows books'.rows name (server_id home k) talks turn (turns.leaves words plain.unit plain.there ready)
          (turns.rows words plain.unit plain.there ready) plain.id plain.sized;
      noted = noted_on at.window at'.window plain.driver.answers.items turns.window_place (serve_stays at at' books.lines books'.lines words turn wrote) plain.noted;
    }

-- What the first turn leads to: the unit and the client talk, and neither rows, nor lines, nor the window changed.
pub record OpenedBetween (granted k : ℕ) (books books' : ServerBooks) (unit : Unit) (driver : Driver) (old new : Pair) : Type 0 where
  pub unit' : Unit
  pub there : slice_get books'.units k ≡ Some unit'
  pub id : unit'.id ≡ unit.id
  pub talks : TalksPlainly granted (between_of unit' driver new) []
  pub owes : owes (between_of unit' driver new) [] ≡ 0
  pub registered : (side_of new.link false).registered ≡ (side_of old.link false).registered
  pub pending : unit'.pending.items ≡ []
  pub sent : (end_of [] new.link true).sent ≡ (end_of [] old.link true).sent
  pub window : known_of new.window ≡ known_of old.window
  pub lines_are : books'.lines ≡ books.lines
  pub rows_are : books'.rows ≡ books.rows

pub opened_between : (granted k : ℕ) (name : UnitId) (books books' : ServerBooks) (a b : List GName) (unit : Unit) (driver : Driver) (old new : Pair) → slice_get books.units k ≡ Some unit
    → TurnsOn name books books' k (end_of a old.link true) (end_of b new.link true) (known_of old.window) (known_of new.window) → IsNewBetween granted (between_of unit driver old)
    → OpenedBetween granted k books books' unit driver old new
opened_between granted k name books books' a b unit driver old new there turns is =
    let at : Between = lent_at a [] (between_of unit driver old) in
    let made = is.made in
    let on = turns.opens unit there (record { alone = made.alone; apart = made.apart; unregistered = made.unregistered; partner = made.partner; event = made.event; made = made.made }) in
    let opens = on.opens.opens in
    let at' : Between = lent_at b [] (between_of on.unit' driver new) in
    let own : IsOwnWindow at'.window = subst IsOwnWindow (sym opens.window) is.usable in
    let stays = client_stays a b unit on.unit' driver old new turns.place turns.partner turns.put turns.took is.ends.own_took own in
    let calm : IsCalm granted at' [] = record {
      registered = opens.registered;
      closing = opens.closing;
      up = λ e. waiting_down (sym opens.handshake ∙ e);
      waiting = opens.waiting;
      kept = opens.kept;
      event = opens.event;
      stage = opens.stage;
      grants = ap (λ (l : Logins). l.granted) opens.logins ∙ is.grants;
      most = is.most;
      ends = stays.ends;
      server_slots = subst (λ n. 256 ≤ n) (sym (ap (λ (p : EndPlace). p.own_slots) turns.place)) is.server_slots;
      own_slots = subst (λ n. 256 ≤ n) (sym stays.slots) is.own_slots;
      usable = own;
      said = subst (λ (entries : List Entry). AreSaidThere at'.window entries []) (sym opens.none) tt;
    } in
    record {
      unit' = on.unit';
      there = on.there;
      id = opens.id;
      talks = talks_lent [] [] granted at' []
          (starts_plainly granted at' is.client.0 is.client.1 calm is.client.2 (stays.registered ∙ is.registered) (stays.kept ∙ is.kept) (record {
            current = ap (λ (l : Logins). l.current) opens.logins ∙ made.made.current;
            taking = ap (λ (l : Logins). l.taking) opens.logins ∙ made.made.taking;
            pending = opens.pending;
          }));
      owes = owes_none at' [] (inl (stays.registered ∙ is.registered));
      registered = stays.registered;
      pending = opens.pending;
      sent = opens.sent;
      window = opens.window;
      lines_are = on.opens.lines_are;
      rows_are = on.opens.rows_are;
    }
  where
    waiting_down : Waiting ≡ Down → ⊥
    waiting_down e = cc (e)

-- its first one
opened_pair : (granted : ℕ) (told : List Ended) (home k : ℕ) (name : UnitId) (books books' : ServerBooks) (a b : List GName) (old new : Pair) → new.driver ≡ old.driver
    → TurnsOn name books books' k (end_of a old.link true) (end_of b new.link true) (known_of old.window) (known_of new.window)
    → IsNewPair granted told home books k old → IsPlainPair granted told home books' k [] new
opened_pair granted told home k name books books' a b old new driver turns is = record {
  unit = opens.unit';
  there = opens.there;
  id = opens.id ∙ is.id;
  driver = is.driver;
  driver_is = driver ∙ is.driver_is;
  talks = opens.talks;
  rights = rights_same (known_of old.window) (known_of new.window) (ap (λ (port : PortState). port.values) opens.window) is.rights;
  laid = lines_move is.unit.id opens.unit'.id (known_of old.window).strokes (known_of new.window).strokes opens.id stay told is.laid;
  owed =
      let same : grants_of (server_id home k) books'.lines ≡ grants_of (server_id home k) books.lines = ap (grants_of (server_id home k)) opens.lines_are in
      omega (arith, opens.owes, same, is.owed);
  lines = subst (EndByClient (server_id home k)) (sym opens.lines_are) is.lines;
  tags = λ talk heard.
      subst (λ (tags : List ℕ). TagsKept tags (length is.driver.client.rows) talk.pending) (sym (ap (tags_by (server_id home k)) opens.rows_are ∙ is.tags))
      (subst (TagsKept [] (length is.driver.client.rows)) (sym (ap (λ (t : Talk). t.pending) heard ∙ opens.pending)) (tags_new (length is.driver.client.rows)));
  answers = λ talk heard.
      answers_new (tags_by (server_id home k) books'.rows) is.driver.client (end_of [] new.link true).sent talk.pending (opens.sent ∙ is.sent)
      (ap (λ (t : Talk). t.pending) heard ∙ opens.pending) (ap (λ (s : ClientState). s.outgoing) is.new.client.2);
  entries = λ talk heard. entries_new (rows_by (server_id home k) books'.rows) (end_of [] new.link true).sent talk.pending (opens.sent ∙ is.sent);
  apart = λ same. is.apart (sym (ap (λ (place : PortPlace). place.unit) turns.window_place) ∙ same);
  borne = subst (λ (rows : List Served). AreBorne (rows_by (server_id home k) rows) (server_id home k) is.driver.client.rows (known_of new.window).strokes) (sym opens.rows_are)
      (subst (λ (port : PortState). AreBorne (rows_by (server_id home k) books.rows) (server_id home k) is.driver.client.rows port.strokes) (sym opens.window) is.borne);
  answered = subst (λ (rows : List Served). AreAnswers (rows_by (server_id home k) rows) (known_of new.window).place.unit (known_of new.window).strokes) (sym opens.rows_are)
      (subst (λ (port : PortState). AreAnswers (rows_by (server_id home k) books.rows) port.place.unit port.strokes) (sym opens.window) is.answered);
  sized = subst (λ (rows : List Served). AreAskedFor (rows_by (server_id home k) rows) is.driver.client.rows) (sym opens.rows_are) is.sized;
  noted = noted_on (known_of old.window) (known_of new.window) is.driver.answers.items turns.window_place stay is.noted;
}
  where
    opens : OpenedBetween granted k books books' is.unit is.driver old new
    opens = opened_between granted k name books books' a b is.unit is.driver old new is.there turns is.new

    stay : StrokesStay (known_of old.window).strokes (known_of new.window).strokes
    stay page stroke there = subst (λ (port : PortState). IsOn stroke (port.strokes page)) (sym opens.window) there

pub served_pair : (granted : ℕ) (told : List Ended) (home k many : ℕ) (name : UnitId) (books books' : ServerBooks) (a b : List GName) (old new : Pair) → name ≡ server_id home k → new.driver ≡ old.driver
    → ∥ LinesMore (server_id home k) many books.lines books'.lines ∥₁ → TurnsOn name books books' k (end_of a old.link true) (end_of b new.link true) (known_of old.window) (known_of new.window)
    → IsReadyPair granted told home books k old → IsPlainPair granted told home books' k [] new
served_pair granted told home k many name books books' a b old new called driver more turns (inl (words, plain)) =
    served_plain granted told home k many name books books' a b old new words called driver more turns plain
served_pair granted told home k many name books books' a b old new called driver more turns (inr is) = opened_pair granted told home k name books books' a b old new driver turns is

-- ---- one in which nothing was done

-- nothing was heard
none_heard : (unit unit' : Unit) (old : Reach) (new : EndState) (lines lines' : List Grant) (words : List Word) (turn : TalksOn unit unit' old new lines lines' words)
    → length (taken_now new) ≡ length (taken_now old.queue) → length (taken_now new) ≡ length (taken_now turn.between.queue) → words ≡ []
none_heard unit unit' old new lines lines' words turn still rest = none words (omega (arith, turn.hears.taken, still, rest))
  where
    none : (words : List Word) → length words ≡ 0 → words ≡ []
    none [] e = refl
    none (word ∷ words) e = absurd (omega (arith, e))

same_taken : (old new : EndState) → new.last_session ≡ old.last_session → new.taken ≡ old.taken → length (taken_now new) ≡ length (taken_now old)
same_taken old new session taken = ap₂ (λ (q : ℕ) (rows : List PipeRow). length (of_session q rows)) session taken

idle_turn : (unit unit' : Unit) (old : Reach) (new : EndState) (lines lines' : List Grant) (words : List Word) → TalksOn unit unit' old new lines lines' words → IsStill old.queue new
    → unit'.pending.items ≡ unit.pending.items → unit'.pending.items ≡ []
idle_turn unit unit' old new lines lines' words turn still same = by turn.serves
  where
    served : (request : Request) (rest : List Request) → turn.middle.pending.items ≡ request ∷ rest → unit'.pending.items ≡ drop 1 turn.middle.pending.items
        → new.last_session ≡ turn.between.queue.last_session → new.taken ≡ turn.between.queue.taken → ⊥
    served request rest items left session taken =
        let none : words ≡ [] = none_heard unit unit' old new lines lines' words turn (same_taken old.queue new still.session still.taken) (same_taken turn.between.queue new session taken) in
        let heard : talk_of turn.middle ≡ talk_of unit = subst (λ (w : List Word). HearsAll (talk_of unit) (length (taken_now old.queue)) w (talk_of turn.middle)) none turn.hears.heard in
        let pending : turn.middle.pending.items ≡ unit.pending.items = ap (λ (t : Talk). t.pending) heard in
        let long : length (drop 1 (request ∷ rest)) ≡ length (request ∷ rest) =
        ap length (sym (left ∙ ap (drop 1) items) ∙ (same ∙ (sym pending ∙ items))) in
        omega (arith, long)

    by : ServesNext turn.middle unit' turn.between.queue new turn.added lines' → unit'.pending.items ≡ []
    by (inl none) = ap (λ (u : Unit). u.pending.items) none.same ∙ none.none
    by (inr (request, rest, items, inl (order, out))) = absurd (served request rest items out.over.pending out.put.last_session out.put.taken)
    by (inr (request, rest, items, inr one)) = absurd (served request rest items one.put.over.pending one.put.put.last_session one.put.put.taken)

same_way : (unit unit' : Unit) → Some (under_way unit') ≡ Some (under_way unit) → unit'.pending.items ≡ unit.pending.items
same_way unit unit' is = ap (λ (w : UnderWay). w.pending) (held (under_way unit') (under_way unit) is)
  where
    held : (a b : UnderWay) → Some a ≡ Some b → a ≡ b
    held a b e = cc (e)

way_at : (units : List Unit) (k : ℕ) (unit : Unit) → slice_get units k ≡ Some unit → way_of units k ≡ Some (under_way unit)
way_at units k unit there = ap (option_map under_way) there

pub idles_pair : (granted : ℕ) (told : List Ended) (home k : ℕ) (name : UnitId) (books books' : ServerBooks) (a b : List GName) (old new : Pair)
    → TurnsOn name books books' k (end_of a old.link true) (end_of b new.link true) (known_of old.window) (known_of new.window) → IsStill (end_of a old.link true) (end_of b new.link true)
    → way_of books'.units k ≡ way_of books.units k → IsReadyPair granted told home books k old → IsIdleUnit k books'
idles_pair granted told home k name books books' a b old new turns still way (inl (words, plain)) =
    let at : Between = lent_at a [] (between_of plain.unit plain.driver old) in
    let talks : TalksPlainly granted at words = talks_lent a [] granted (between_of plain.unit plain.driver old) words plain.talks in
    let on = turns.talks words plain.unit plain.there (talk_ready granted at words plain.rights talks) in
    let same : on.unit'.pending.items ≡ plain.unit.pending.items =
    same_way plain.unit on.unit' (sym (way_at books'.units k on.unit' on.there) ∙ (way ∙ way_at books.units k plain.unit plain.there)) in
    subst (λ (o : Option Unit). IsSomeAnd o (λ unit. unit.pending.items ≡ [])) (sym on.there)
    (idle_turn plain.unit on.unit' (reach at.server at.window false) (end_of b new.link true) books.lines books'.lines words on.talks still same)
idles_pair granted told home k name books books' a b old new turns still way (inr is) =
    let made = is.new.made in
    let on = turns.opens is.unit is.there (record { alone = made.alone; apart = made.apart; unregistered = made.unregistered; partner = made.partner; event = made.event; made = made.made }) in
    subst (λ (o : Option Unit). IsSomeAnd o (λ unit. unit.pending.items ≡ [])) (sym on.there) on.opens.opens.pending

-- ---- a turn of another server unit

-- lines of another unit say nothing of this one's
other_more : (unit other : UnitId) (granted : ℕ) (old new : List Grant) → other ≢ unit → LinesMore other granted old new → EndByClient unit old → EndByClient unit new
other_more unit other granted old new apart lines end =
    subst (EndByClient unit) (sym lines.added)
    (All-append (λ (line : Grant). same_unit (unit_of line) unit ≡ true → ends_by_client line ≡ true) old lines.more end
    (All-weaker (λ (line : Grant). unit_of line ≡ other) (λ (line : Grant). same_unit (unit_of line) unit ≡ true → ends_by_client line ≡ true)
    (λ line is own. absurd (apart (sym is ∙ one_unit (unit_of line) unit own))) lines.more lines.of_unit))
  where
    one_unit : (a b : UnitId) → same_unit a b ≡ true → a ≡ b
    one_unit a b same = grind (arith, nat_tests)

-- of each line this is so or not
ends_all : (unit : UnitId) (lines : List Grant) → ∥ EndByClient unit lines ∥₁ → EndByClient unit lines
ends_all unit [] end = All-nil (λ (line : Grant). same_unit (unit_of line) unit ≡ true → ends_by_client line ≡ true)
ends_all unit (line ∷ lines) end =
    All-cons (λ (line : Grant). same_unit (unit_of line) unit ≡ true → ends_by_client line ≡ true) line lines (by (ends_by_client line) refl)
    (ends_all unit lines (∥∥₁_map end (All-tail (λ (line : Grant). same_unit (unit_of line) unit ≡ true → ends_by_client line ≡ true) line lines)))
  where
    by : (b : Bool) → ends_by_client line ≡ b → same_unit (unit_of line) unit ≡ true → ends_by_client line ≡ true
    by true is own = is
    by false isnt own =
        absurd (∥∥₁_elim end (λ a b. absurd a)
        (λ all. true≢false (sym (All-head (λ (line : Grant). same_unit (unit_of line) unit ≡ true → ends_by_client line ≡ true) line lines all own) ∙ isnt)))

pub spares_unit : (home k granted : ℕ) (books books' : ServerBooks) (by : UnitId) → by ≢ server_id home k → slice_get books'.units k ≡ slice_get books.units k
    → ∥ LinesMore by granted books.lines books'.lines ∥₁ → ∥ OnlyRowsOf by books.rows books'.rows ∥₁ → SparesUnit home books books' k
spares_unit home k granted books books' by apart same lines rows = record {
  same = same;
  rows = rows_spared (server_id home k) by books.rows books'.rows apart rows;
  grants = less_lines (server_id home k) by granted books.lines books'.lines lines;
  lines = λ end. ends_all (server_id home k) books'.lines (∥∥₁_map lines (λ more. other_more (server_id home k) by granted books.lines books'.lines apart more end));
}
