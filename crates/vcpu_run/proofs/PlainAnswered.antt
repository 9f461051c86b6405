-- A turn of a plain client's server unit, by where it laid strokes and what stands where it answered: what is so between them is so behind it.
use Rattle.std.proofs.Common.{◌≡◌, ◌≢◌, ◌∙◌, ◌⊎◌, inl, inr, ℕ, suc, zero, ◌+◌, ◌*◌, ◌/◌, ◌%◌, ◌<◌, ◌≤◌, ◌++◌, true, false, cond, List, [], ◌∷◌, Option, Some, None, IsSome, drop, length, refl, sym, take, take-append-drop, ap, subst, arith, Contains, slice_get}
use Rattle.std.specs.Prelude.{⊤}
use Rattle.std.proofs.lemmas.List.{take-take}
use Rattle.vio_num.specs.Entry.{srp_entry}
use Rattle.vio_num.specs.declared.history.Grant.{Grant}
use Rattle.vio_num.specs.declared.history.Served.{Served}
use Rattle.vio_num.specs.declared.names.UnitId.{UnitId}
use Rattle.crq_ring.specs.declared.rows.PipeRow.{PipeRow}
use Rattle.crq_session.specs.EndState.{EndPlace, EndState}
use Rattle.page_slots.specs.Page.{left_by}
use Rattle.page_slots.specs.Stroke.{StrokeValue}
use Rattle.srp_iu.specs.Grammar.{Canon, Spells}
use Rattle.srp_iu.specs.declared.login.LoginReq.{LoginReq}
use Rattle.srp_iu.specs.declared.response.Rsp.{Rsp}
use Rattle.srp_iu.specs.declared.unit.Iu.{Iu}
use Rattle.srp_iu.specs.declared.unit.Iu.TheVariants as units
use Rattle.tce_window.specs.PortState.{PortState}
use Rattle.tce_window.specs.Region.{region_byte}
use Rattle.block_server.specs.Ends.{IsGrantable}
use Rattle.block_server.specs.Ranges.{Known, WritesOn, known_in, seen_in}
use Rattle.block_server.specs.Responses.{login_rejection, login_response}
use Rattle.block_server.specs.Standing.{IsAnswerTo as IsAnswer, IsPutLast, IsShown, LeavesOn, stood, IsStroke}
use Rattle.block_server.specs.Talk.{AnswersRequest, PutsReplies, ServesNext, Suits, Word, order_asked, session_rows, tag_asked, talk_of}
use Rattle.block_server.specs.declared.request.Order.{Order}
use Rattle.block_server.specs.declared.request.Order.TheVariants as orders
use Rattle.block_server.specs.declared.request.Request.{Request}
use Rattle.block_server.specs.declared.service.Outcome.{Outcome}
use Rattle.block_server.specs.declared.service.Outcome.TheVariants as outcomes
use Rattle.vscsi_client.specs.State.{ClientState}
use Rattle.vscsi_client.specs.Units.{slot_address}
use Rattle.vscsi_client.specs.declared.TheConstants.{DATA_START}
use Rattle.vcpu_run.proofs.PlainData.{data_goes, data_stays, served_data}
use Rattle.vcpu_run.specs.PlainTalk.{AnswerStands, Ask, Between, ClientStays, DataLies, InPhase, IsAnswerTo, IsAsk, IsFair, IsOwnWindow, IsPendingAs, KeepsSlots, IsAnswerBy, TalksPlainly, is_counted, is_grant, is_granted, is_login, is_logout, shown, shown_on}
use Rattle.vcpu_run.proofs.PlainLeaves.{lays_keep, suits_grant}
use Rattle.vcpu_run.proofs.PlainPages.{shown_long}
use Rattle.vcpu_run.proofs.PlainServed.{LeavesElse, LeavesSlots, talk_behind}
use Rattle.vcpu_run.proofs.PlainSlots.{slot_on}
use Rattle.vcpu_run.proofs.PlainStands.{IsOnPage}
use Rattle.vcpu_run.proofs.OwnLays.{is_shown}
use Rattle.vcpu_run.proofs.PlainTurns.{Turns, away_behind, begun_behind, calm_behind}
use Rattle.vcpu_run.proofs.PlainUnits.{granted_more, rejected_more, response_more, canon_spells}
use Rattle.unit_region.specs.RegionLines.{IsOn}
use Rattle.page_slots.specs.declared.stroke.StrokeName.{StrokeName}
use Rattle.vcpu_run.proofs.LinesShown.{behind_first, contains_first}
use Rattle.vio_num.specs.declared.TheConstants.{PAGE_BYTES}

-- ---- what an answer says

-- An answer to a request, as its bytes say, whatever is behind them.
pub record Says (granted : ℕ) (who : UnitId) (window : PortState) (ask : Ask) (outcome : Outcome) (bytes : List ℕ) : Type 0 where
  pub answer : Iu
  pub spelled : (rest : List ℕ) → length (bytes ++ rest) ≤ 256 → Spells (bytes ++ rest) answer
  pub suits : IsAnswerTo ask.iu answer
  pub grants : is_granted answer ≡ is_grant outcome
  pub credits : IsAnswerBy granted who window answer
  pub few : length bytes ≤ 256

pub asked_login : (iu : Iu) (login : LoginReq) → order_asked iu ≡ orders.Login login → iu ≡ units.LoginReq login
asked_login (units.LoginReq request) login is = cc (is)
asked_login (units.ILogout tag) login is = absurd (cc (is))
asked_login (units.TskMgmt task) login is = absurd (cc (is))
asked_login (units.Cmd command) login is = absurd (cc (is))
asked_login iu login is = absurd (cc (is))

served_suits : (iu : Iu) (r : Rsp) → is_counted iu ≡ true → r.tag ≡ tag_asked iu → IsAnswerTo iu (units.Rsp r)
served_suits (units.TskMgmt task) r is tag = tag
served_suits (units.Cmd command) r is tag = tag
served_suits iu r isnt tag = absurd (cc (isnt))

pub suits_counted : (current : ℕ) (iu : Iu) (row : ℕ) → (is_login iu ≡ true) ⊎ ((is_logout iu ≡ true) ⊎ (is_counted iu ≡ true)) → Suits current (order_asked iu) (outcomes.Served row)
    → is_counted iu ≡ true
suits_counted current (units.TskMgmt task) row kind suits = refl
suits_counted current (units.Cmd command) row kind suits = refl
suits_counted current (units.LoginReq request) row kind suits = absurd suits
suits_counted current (units.ILogout tag) row kind suits = absurd suits
suits_counted current iu row (inl login) suits = absurd (cc (login))
suits_counted current iu row (inr (inl logout)) suits = absurd (cc (logout))
suits_counted current iu row (inr (inr counted)) suits = counted

-- a login that may be granted where none is on is rejected only while one is
rejected_on : (current : ℕ) (ask : Ask) (login : LoginReq) → IsAsk ask → ask.iu ≡ units.LoginReq login → ¬ IsGrantable current login → 0 < current
rejected_on current ask login is_ask is isnt = by current isnt
  where
    fair : IsGrantable 0 login
    fair = subst IsFair is is_ask.fair

    by : (current : ℕ) → ¬ IsGrantable current login → 0 < current
    by zero isnt = absurd (isnt fair)
    by (suc n) isnt = omega arith

-- These bytes are a stroke that the unit of this name laid on a page of the driver's, with this mark; the region is another unit's.
record IsLaid (who : UnitId) (mark : ℕ) (window : PortState) (bytes : List ℕ) : Type 0 where
  page : ℕ
  within : 4096 * page < DATA_START
  stroke : StrokeValue
  there : IsOn stroke (window.strokes page)
  laid_by : stroke.name.who ≡ who
  other : stroke.name.who ≢ window.place.unit
  begins : stroke.offset % 256 ≡ 0
  mark_is : stroke.name.mark ≡ mark
  bytes_are : stroke.bytes ≡ bytes

contains_place : (list : List StrokeValue) (place : ℕ) (stroke : StrokeValue) → slice_get list place ≡ Some stroke → Contains list stroke
contains_place [] place stroke is = absurd (cc (is))
contains_place (first ∷ list) zero stroke is = subst (Contains (first ∷ list)) (some_stroke first stroke is) (contains_first first list)
  where
    some_stroke : (a b : StrokeValue) → Some a ≡ Some b → a ≡ b
    some_stroke a b e = cc (e)
contains_place (first ∷ list) (suc place) stroke is = behind_first first stroke list (contains_place list place stroke is)

stroke_laid : (window : PortState) → IsOwnWindow window → (name : StrokeName) (address : ℕ) (bytes : List ℕ) (who : UnitId) → name.who ≡ who → name.who ≢ window.place.unit
    → 4096 * (address / 4096) < DATA_START → address % 256 ≡ 0 → IsStroke window name address bytes → IsLaid who name.mark window bytes
stroke_laid window own name address bytes who same other front begins is = record {
  page = is.page;
  within = subst (λ (p : ℕ). 4096 * p < DATA_START) page front;
  other = other;
  begins = omega (arith, begins);
  mark_is = refl;
  stroke = record { name = name; offset = address % PAGE_BYTES; bytes = bytes };
  there = subst (λ (o : Option (List StrokeValue)). IsOn (record { name = name; offset = address % PAGE_BYTES; bytes = bytes }) o) (sym is.there)
      (contains_place is.strokes is.place (record { name = name; offset = address % PAGE_BYTES; bytes = bytes }) is.is);
  laid_by = same;
  bytes_are = refl;
}
  where
    page : address / 4096 ≡ is.page
    page = sym ((own.values (address / PAGE_BYTES)).names is.named.version is.named.value is.named.current.shown) ∙ is.named.named

says_of : (current granted tag : ℕ) (who : UnitId) (window : PortState) (ask : Ask) (order : Order) (outcome : Outcome) (bytes : List ℕ) → IsLaid who tag window bytes → IsAsk ask → order ≡ order_asked ask.iu → tag ≡ ask.tag → 1 ≤ length bytes
    → Suits current order outcome → IsAnswer current granted tag order outcome bytes → Says granted who window ask outcome bytes
says_of current granted tag who window ask order (outcomes.Granted number) bytes laid is_ask is named some suits (login, of, canon) = record {
  answer = units.LoginRsp (login_response login.tag granted);
  spelled = λ rest fits. record { within = fits; unit = granted_more bytes rest (login_response login.tag granted) canon.unit.spells };
  suits = subst (λ (iu : Iu). IsAnswerTo iu (units.LoginRsp (login_response login.tag granted))) (sym (asked_login ask.iu login (sym is ∙ of))) refl;
  grants = refl;
  credits = refl;
  few = canon.within;
}
says_of current granted tag who window ask order outcomes.Rejected bytes laid is_ask is named some suits (login, of, rejects) = record {
  answer = units.LoginRej (login_rejection login.tag rejects.reason);
  spelled = λ rest fits. record { within = fits; unit = rejected_more bytes rest (login_rejection login.tag rejects.reason) rejects.bytes_are.unit.spells };
  suits = subst (λ (iu : Iu). IsAnswerTo iu (units.LoginRej (login_rejection login.tag rejects.reason))) (sym asked) refl;
  grants = refl;
  credits = (
    rejects.why.on (rejected_on current ask login is_ask asked (subst (λ (o : Order). Suits current o outcomes.Rejected) of suits)),
    record {
      page = laid.page;
      stroke = laid.stroke;
      there = laid.there;
      laid_by = laid.laid_by;
      rejection = login_rejection login.tag rejects.reason;
      spells = subst (λ (list : List ℕ). Spells list (units.LoginRej (login_rejection login.tag rejects.reason))) (sym laid.bytes_are)
          (canon_spells bytes (units.LoginRej (login_rejection login.tag rejects.reason)) rejects.bytes_are);
      reason_is = refl;
    },
  );
  few = rejects.bytes_are.within;
}
  where
    asked : ask.iu ≡ units.LoginReq login
    asked = asked_login ask.iu login (sym is ∙ of)
says_of current granted tag who window ask order (outcomes.Served row) [] laid is_ask is named some suits answer = absurd (omega (arith, some))
says_of current granted tag who window ask order (outcomes.Served row) (byte ∷ bytes) laid is_ask is named some suits answer = record {
  answer = units.Rsp answer.0;
  spelled = λ rest fits. record { within = fits; unit = response_more (byte ∷ bytes) rest answer.0 answer.1.unit.spells };
  suits = served_suits ask.iu answer.0
      (suits_counted current ask.iu row is_ask.kind (subst (λ (o : Order). Suits current o (outcomes.Served row)) is suits)) (answer.2.0 ∙ named ∙ sym is_ask.tag_is);
  grants = refl;
  credits = record {
    page = laid.page;
    within = laid.within;
    stroke = laid.stroke;
    there = laid.there;
    other = laid.other;
    begins = laid.begins;
    mark_is = laid.mark_is ∙ sym answer.2.0;
    canonical = subst (λ (list : List ℕ). Canon list (units.Rsp answer.0)) (sym laid.bytes_are) answer.1;
  };
  few = answer.1.within;
}

pub answer_few : (current granted tag : ℕ) (order : Order) (outcome : Outcome) (bytes : List ℕ) → IsAnswer current granted tag order outcome bytes → length bytes ≤ 256
answer_few current granted tag order (outcomes.Granted number) bytes (login, of, canon) = canon.within
answer_few current granted tag order outcomes.Rejected bytes (login, of, rejects) = rejects.bytes_are.within
answer_few current granted tag order (outcomes.Served row) [] answer = omega arith
answer_few current granted tag order (outcomes.Served row) (byte ∷ bytes) answer = answer.1.within

-- ---- it stands

pub shown_front : (strokes : Option (List StrokeValue)) (start count len : ℕ) → IsSome strokes → len ≤ count → take len (shown_on strokes start count) ≡ shown_on strokes start len
shown_front None start count len there less = absurd (cc (there))
shown_front (Some strokes) start count len there less = take-take len count (drop start (left_by strokes)) less

pub says_stands : (window : PortState) → IsOwnWindow window → (ask : Ask) (outcome : Outcome) (bytes : List ℕ) (long : ℕ) → IsAsk ask → (granted : ℕ) (who : UnitId) (says : Says granted who window ask outcome bytes)
    → 1 ≤ length bytes → long ≤ 256 → shown window (slot_address ask.slot) (length bytes) ≡ bytes → AnswerStands granted who window ask long outcome says.answer
says_stands window own ask outcome bytes long is_ask granted who says some few show = record {
  few = few;
  bytes = whole;
  stand = ap (λ (n : ℕ). shown window (slot_address ask.slot) n) size;
  whole = size;
  spelled = subst (λ (list : List ℕ). Spells list says.answer) (sym split) (says.spelled (drop (length bytes) whole) (omega (arith, size, ap length split)));
  suits = says.suits;
  grants = says.grants;
  credits = says.credits;
}
  where
    on : IsOnPage window (slot_address ask.slot) 256
    on = slot_on window own ask.slot 256 is_ask.slot_is (omega arith) (omega arith)

    page : ℕ
    page = slot_address ask.slot / 4096

    whole : List ℕ
    whole = shown window (slot_address ask.slot) 256

    size : length whole ≡ 256
    size = shown_long (window.strokes page) (slot_address ask.slot % 4096) 256 (own.there page on.inside) on.fits

    split : whole ≡ bytes ++ drop (length bytes) whole
    split =
        sym (take-append-drop (length bytes) whole)
        ∙ ap (λ (list : List ℕ). list ++ drop (length bytes) whole)
        (shown_front (window.strokes page) (slot_address ask.slot % 4096) 256 (length bytes) (own.there page on.inside) says.few ∙ show)

-- An answer that was laid over what was asked, and shows there, stands there.
pub laid_stands : (current granted : ℕ) (name who : UnitId) (window : PortState) (ask : Ask) (outcome : Outcome) (bytes : List ℕ) → IsOwnWindow window → name ≡ who
    → window.place.unit ≢ who → IsAsk ask → 1 ≤ length bytes → Suits current (order_asked ask.iu) outcome → IsAnswer current granted ask.tag (order_asked ask.iu) outcome bytes
    → IsStroke window (record { who = name; mark = ask.tag }) (slot_address ask.slot) bytes → shown window (slot_address ask.slot) (length bytes) ≡ bytes
    → (answer : Iu) × AnswerStands granted who window ask (length bytes) outcome answer
laid_stands current granted name who window ask outcome bytes own same apart is_ask some suits answer stroke show =
    let front : 4096 * (slot_address ask.slot / 4096) < DATA_START = (slot_on window own ask.slot 256 is_ask.slot_is (omega arith) (omega arith)).front in
    let laid : IsLaid who ask.tag window bytes =
    stroke_laid window own (record { who = name; mark = ask.tag }) (slot_address ask.slot) bytes who same (λ e. apart (sym e ∙ same)) front (omega arith) stroke in
    let says = says_of current granted ask.tag who window ask (order_asked ask.iu) outcome bytes laid is_ask refl refl some suits answer in (
      says.answer,
      says_stands window own ask outcome bytes (length bytes) is_ask granted who says some says.few show,
    )

-- ---- the length of the entry

-- the last of a list
last_one : (xs ys : List PipeRow) (a b : PipeRow) → xs ++ a ∷ [] ≡ ys ++ b ∷ [] → a ≡ b
last_one [] [] a b e = cc (e)
last_one [] (y ∷ []) a b e = absurd (cc (e))
last_one [] (y ∷ z ∷ ys) a b e = absurd (cc (e))
last_one (x ∷ []) [] a b e = absurd (cc (e))
last_one (x ∷ z ∷ xs) [] a b e = absurd (cc (e))
last_one (x ∷ xs) (y ∷ ys) a b e = last_one xs ys a b (tails x y (xs ++ a ∷ []) (ys ++ b ∷ []) e)
  where
    tails : (x y : PipeRow) (xs ys : List PipeRow) → x ∷ xs ≡ y ∷ ys → xs ≡ ys
    tails x y xs ys e = cc (e)

-- an entry that was put, and the one that was put last, are of one length
pub same_long : (old new : EndState) (long other tag : ℕ) → PutsReplies old new (srp_entry long tag ∷ []) → old.place.partner_registered ≡ true → new.place ≡ old.place
    → IsPutLast new (srp_entry other tag) → long ≡ other
same_long old new long other tag put on place last =
    let there = last (ap (λ (place : EndPlace). place.partner_registered) place ∙ on) in
    let row : PipeRow = record { session = old.counts.partner_session; entry = srp_entry long tag } in
    let rows : old.sent ++ row ∷ [] ≡ there.0 ++ record { session = there.1; entry = srp_entry other tag } ∷ [] =
    sym (put ∙ ap (λ b. old.sent ++ cond b (session_rows old.counts.partner_session (srp_entry long tag ∷ [])) []) on) ∙ there.2 in
    let high : 0x8001_0000_0000_0000 + long ≡ 0x8001_0000_0000_0000 + other =
    ap (λ (r : PipeRow). r.entry.high) (last_one old.sent there.0 row (record { session = there.1; entry = srp_entry other tag }) rows) in
    omega (arith, high)

-- ---- the turn

same_known : (old new : PortState) → Some (known_in new) ≡ Some (known_in old) → known_in new ≡ known_in old
same_known old new e = cc (e)

-- nothing was laid
none_keeps : (old new : PortState) → new.place ≡ old.place → known_in new ≡ known_in old → KeepsSlots (λ slot. ⊤) old new
none_keeps old new place same = record {
  unit = ap (λ place. place.unit) place;
  strokes = λ page stroke is. subst (λ (k : Known). IsOn stroke (k.strokes page)) (sym same) is;
  slots = λ slot bytes within spares whole shows.
      ap (λ (k : Known). shown_on (k.strokes (slot_address slot / 4096)) (slot_address slot % 4096) (length bytes)) same ∙ shows;
}

pub not_out : (current : ℕ) (order : Order) (outcome : Outcome) → Suits current order outcome → order ≢ orders.Logout
not_out current order outcome suits is = none outcome (subst (λ (o : Order). Suits current o outcome) is suits)
  where
    none : (outcome : Outcome) → Suits current orders.Logout outcome → ⊥
    none (outcomes.Granted number) suits = suits
    none outcomes.Rejected suits = suits
    none (outcomes.Served row) suits = suits

pub leaves_slots : (at at' : Between) (lines lines' : List Grant) (rows rows' : List Served) (name : UnitId) (words : List Word) (turn : Turns at at' lines lines' words) → name ≡ at'.unit.id → at.window.place.unit ≢ at'.unit.id → IsOwnWindow at.window → IsOwnWindow at'.window
    → at'.window.place ≡ at.window.place → at.server.place.partner_registered ≡ true
    → WritesOn (stood at.window) at.unit at.server words (seen_in false at.window) (seen_in false at'.window)
    → LeavesOn name at.unit at.server words at'.server at.window at'.window rows rows'
    → LeavesSlots at.window at'.window turn.middle at'.unit turn.between.queue at'.server turn.added lines' turn.serves
leaves_slots at at' lines lines' rows rows' name words turn called apart own own' place on wrote left = by turn.serves
  where
    keeps : (request : Request) (rest : List Request) → turn.middle.pending.items ≡ request ∷ rest → (ask : Ask) → IsPendingAs request ask → IsAsk ask → DataLies at.window ask
        → LeavesElse ask at.window at'.window
    keeps request rest items ask pending is_ask its =
        let lays = wrote.wrote (talk_of turn.middle) request rest turn.hears.heard items in
        record {
          slots = lays_keep at.window at'.window request ask own place pending is_ask
              (λ a n goes. (data_goes at.window own ask its request.order pending.order a n goes).behind) lays;
          tables = served_data at.window at'.window request ask own pending is_ask its lays;
        }

    stands : (request : Request) (rest : List Request) → turn.middle.pending.items ≡ request ∷ rest
        → (one : AnswersRequest turn.middle at'.unit turn.between.queue at'.server turn.added lines' request) → (ask : Ask) → IsPendingAs request ask → IsAsk ask
        → (answer : Iu) × AnswerStands turn.middle.logins.granted at'.unit.id at'.window ask one.long one.outcome answer
    stands request rest items one ask pending is_ask =
        let leaves = left.leaves (talk_of turn.middle) request rest turn.hears.heard items (not_out turn.middle.logins.current request.order one.outcome one.suits) in
        let fits : request.address % 4096 + length leaves.bytes ≤ 4096 =
        subst (λ address. address % 4096 + length leaves.bytes ≤ 4096) (sym pending.address)
        (slot_on at'.window own' ask.slot (length leaves.bytes) is_ask.slot_is leaves.stands.some
        (answer_few turn.middle.logins.current turn.middle.logins.granted request.tag request.order leaves.outcome leaves.bytes leaves.answer)).fits in
        let front : 4096 * (request.address / 4096) < DATA_START =
        subst (λ (a : ℕ). 4096 * (a / 4096) < DATA_START) (sym pending.address)
        (slot_on at'.window own' ask.slot 256 is_ask.slot_is (omega arith) (omega arith)).front in
        let laid : IsLaid at'.unit.id request.tag at'.window leaves.bytes =
        stroke_laid at'.window own' (record { who = name; mark = request.tag }) request.address leaves.bytes at'.unit.id called
        (λ e. apart (sym (e ∙ ap (λ place. place.unit) place) ∙ called)) front (omega (arith, pending.address)) (leaves.stands.laid fits) in
        let says = says_of turn.middle.logins.current turn.middle.logins.granted request.tag at'.unit.id at'.window ask request.order leaves.outcome leaves.bytes laid is_ask pending.order pending.tag
        leaves.stands.some leaves.suits leaves.answer in
        let long : one.long ≡ length leaves.bytes =
        same_long turn.between.queue at'.server one.long (length leaves.bytes) request.tag one.put.put.put
        (ap (λ (place : EndPlace). place.partner_registered) turn.hears.place ∙ on) one.put.put.place leaves.put in
        let few : length leaves.bytes ≤ 256 = says.few in
        let at_slot : IsOnPage at'.window (slot_address ask.slot) (length leaves.bytes) =
        slot_on at'.window own' ask.slot (length leaves.bytes) is_ask.slot_is leaves.stands.some few in
        let show : shown at'.window (slot_address ask.slot) (length leaves.bytes) ≡ leaves.bytes =
        is_shown at'.window own' (slot_address ask.slot) leaves.bytes
        (subst (λ address. IsShown at'.window address leaves.bytes) pending.address
        (leaves.stands.shows (subst (λ address. address % 4096 + length leaves.bytes ≤ 4096) (sym pending.address) at_slot.fits))) in
        let known : AnswerStands turn.middle.logins.granted at'.unit.id at'.window ask one.long leaves.outcome says.answer =
        says_stands at'.window own' ask leaves.outcome leaves.bytes one.long is_ask turn.middle.logins.granted at'.unit.id says leaves.stands.some (omega (arith, long, few)) show in (
          says.answer,
          record {
            few = known.few;
            bytes = known.bytes;
            stand = known.stand;
            whole = known.whole;
            spelled = known.spelled;
            suits = known.suits;
            credits = known.credits;
            grants = known.grants ∙ suits_grant turn.middle.logins.current request.order leaves.outcome one.outcome leaves.suits one.suits;
          },
        )

    by : (serves : ServesNext turn.middle at'.unit turn.between.queue at'.server turn.added lines')
        → LeavesSlots at.window at'.window turn.middle at'.unit turn.between.queue at'.server turn.added lines' serves
    by (inl none) =
        let same = same_known at.window at'.window (wrote.none (talk_of turn.middle) turn.hears.heard none.none) in (
          none_keeps at.window at'.window place same,
          λ ask spares its. data_stays at.window at'.window ask (λ a of. ap (λ (k : Known). region_byte k.strokes a) same) its,
        )
    by (inr (request, rest, items, inl out)) = λ ask pending is_ask its. keeps request rest items ask pending is_ask its
    by (inr (request, rest, items, inr one)) =
        λ ask pending is_ask its. (keeps request rest items ask pending is_ask its, stands request rest items one ask pending is_ask)

-- Behind a turn of the server unit what is so between them is so, and nothing is to come.
pub plainly_served : (granted : ℕ) (at at' : Between) (lines lines' : List Grant) (rows rows' : List Served) (name : UnitId) (words : List Word) → TalksPlainly granted at words → (turn : Turns at at' lines lines' words)
    → ClientStays at at' → at'.unit.id ≡ at.unit.id → name ≡ at'.unit.id → at.window.place.unit ≢ at'.unit.id → at'.window.place ≡ at.window.place
    → WritesOn (stood at.window) at.unit at.server words (seen_in false at.window) (seen_in false at'.window)
    → LeavesOn name at.unit at.server words at'.server at.window at'.window rows rows' → TalksPlainly granted at' []
plainly_served granted at at' lines lines' rows rows' name words talks turn stays id called apart place wrote left = record {
  calm = calm_behind granted at at' lines lines' words talks.calm turn stays;
  phase = by talks.phase;
  tabled = ap (λ (s : ClientState). s.tabled) stays.client ∙ talks.tabled;
}
  where
    by : InPhase granted at words → InPhase granted at' []
    by (inl away) = inl (away_behind at at' lines lines' words away turn stays)
    by (inr (inl begun)) = inr (inl (begun_behind granted at at' lines lines' words talks.calm begun turn stays))
    by (inr (inr (asked, answers, talk))) =
        inr (inr (talk_behind granted at at' lines lines' words asked answers talks.calm talk turn stays id
        (leaves_slots at at' lines lines' rows rows' name words turn called apart talks.calm.usable stays.usable place (talks.calm.ends.server_sees.partner ∙ talk.registered) wrote left)))
