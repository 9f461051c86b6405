-- The data-in of the row in service, as they are written, copied and cut.
use Rattle.std.proofs.Common.{◌≡◌, ◌+◌, ◌≤◌, ℕ, min, Bool, true, false, List, [], ◌∷◌, Option, Some, None, Result, Ok, Err, OnErr, OnOk, length, slice_get, refl, sym, ◌∙◌, ap, subst}
use Rattle.vio_num.specs.declared.history.Served.{Served}
use Rattle.vio_num.specs.declared.memory.NoMemory.{NoMemory}
use Rattle.vio_num.specs.declared.names.UnitId.{UnitId}
use Rattle.block_disk.specs.declared.reply.ScsiReply.{ScsiReply}
use Rattle.srp_desc.specs.Pieces.{sum_of}
use Rattle.srp_iu.specs.Layout.{field}
use Rattle.srp_iu.specs.declared.command.Cmd.{Cmd}
use Rattle.block_server.specs.Answering.{IsInService}
use Rattle.block_server.specs.Cargo.{AreShown, FetchesPart, IsFetchedAll, HasTag, IsAccounted, IsSentAll, KeepsCargo, Pages, SendsPart, Sight, cargo, cargo_at, data_bytes, is_loaded, is_moving, load_at, pages_in, pages_of, rows_of, sight}
use Rattle.block_server.specs.Cargo.Load.{fetching, given, sending, tabled}
use Rattle.block_server.specs.Carried.{data_at, delivery, fetch}
use Rattle.block_server.specs.Causes.{Told, told_to}
use Rattle.block_server.specs.Causes.News.{delivered, fetched, nth_delivered, nth_fetched}
use Rattle.block_server.specs.Granting.{LoginState}
use Rattle.block_server.specs.Heard.{TellsAll}
use Rattle.block_server.specs.Judged.{is_command}
use Rattle.block_server.specs.Parts.{IsPlacedAt, LiesAt}
use Rattle.block_server.specs.Runs.{IsNamedBy, IsPart, nth_delivery, nth_fetch, table_count}
use Rattle.block_server.specs.Serving.{IsServing, IsServed, IfRow, Terms, desk_at, place_of}
use Rattle.block_server.specs.SiteState.{SiteState}
use Rattle.block_server.specs.Stage.{is_before_step}
use Rattle.block_server.specs.declared.cursor.Cursor.{Cursor}
use Rattle.block_server.specs.declared.request.Order.TheVariants.{Command}
use Rattle.block_server.specs.declared.request.Request.{Request}
use Rattle.block_server.specs.declared.service.Service.{Service}
use Rattle.block_server.specs.declared.service.Outcome.{Outcome}
use Rattle.block_server.specs.declared.service.Stage.{Stage}
use Rattle.block_server.specs.declared.service.Stage.TheVariants.{Start, OutTable, InTable, DataOut, Given, DataIn, Answer, Entry}
use Rattle.block_server.proofs.AnswerLaws.{get_at}
use Rattle.block_server.proofs.Cargoes.{cargo_is, cargo_none, none_keeps}
use Rattle.block_server.proofs.HandRows.{row_from}
use Rattle.block_server.proofs.Hands.{begun, keeps_by, keeps_same, moved_fetching, moved_sending, out_tabled, sent_all, still_given, still_tabled, stored_given}
use Rattle.block_server.proofs.CopyKinds.{count_more, nth_of_delivery, nth_of_fetch}

pub before_unloaded : (stage : Stage) → is_before_step stage ≡ true → is_loaded stage ≡ false
before_unloaded Start is = refl
before_unloaded OutTable is = refl
before_unloaded InTable is = refl
before_unloaded (DataOut cursor) is = refl
before_unloaded (Given row reply) is = absurd (cc (is))
before_unloaded (DataIn row reply cursor) is = absurd (cc (is))
before_unloaded (Answer outcome) is = absurd (cc (is))
before_unloaded (Entry outcome) is = absurd (cc (is))

-- ---- data-in are written

pub given_shown : (id : UnitId) (a : Service) (shown shown' : Sight) (h : List Served) (row : ℕ) (reply : ScsiReply) → shown'.pages.count ≡ shown.pages.count
    → a.stage ≡ Given row reply → KeepsCargo (cargo_at id a shown h) (cargo_at id a shown' h)
given_shown id a shown shown' h row reply same is =
    keeps_by _ _ _ _ (cargo_is id a shown h (given row a.inn.list.items a.given.items) (at shown.command)) (cargo_is id a shown' h (given row a.inn.list.items a.given.items) (at shown'.command))
    (still_given id shown.pages shown'.pages (rows_of h) row a.inn.list.items a.given.items same)
  where
    at : (command : Option Cmd) → load_at command a.stage a.out.list.items a.inn.list.items a.given.items ≡ given row a.inn.list.items a.given.items
    at command = ap (λ st. load_at command st a.out.list.items a.inn.list.items a.given.items) is

pub stored : (id : UnitId) (a b : Service) (shown shown' : Sight) (h : List Served) (row : ℕ) (reply : ScsiReply) (start : Cursor) → a.stage ≡ Given row reply
    → b.stage ≡ DataIn row reply start → start ≡ record { piece = 0; inside = 0; done = 0 } → b.inn ≡ a.inn → b.given.items ≡ a.given.items
    → shown'.pages.count ≡ shown.pages.count → AreShown shown'.pages.bytes a.given.items → KeepsCargo (cargo_at id a shown h) (cargo_at id b shown' h)
stored id a b shown shown' h row reply start was is begins inn bytes same shows =
    keeps_by _ _ _ _ (cargo_is id a shown h (given row a.inn.list.items a.given.items) (ap (λ st. load_at shown.command st a.out.list.items a.inn.list.items a.given.items) was))
    (cargo_is id b shown' h (sending row (record { piece = 0; inside = 0; done = 0 }) a.inn.list.items a.given.items)
    ((λ i. load_at shown'.command (is i) b.out.list.items ((inn i).list.items) (bytes i)) ∙ ap (λ (c : Cursor). sending row c a.inn.list.items a.given.items) begins))
    (stored_given id shown.pages shown'.pages (rows_of h) row a.inn.list.items a.given.items shows same)

-- ---- they are copied

pub hand_placed : (told : Told → Bool) (asked : Bool) (id : UnitId) (a : Service) (shown : Sight) (h : List Served) (row : ℕ) (reply : ScsiReply) (cursor : Cursor) → a.stage ≡ DataIn row reply cursor
    → IsAccounted told asked (cargo_at id a shown h) → IsPlacedAt a.inn.list.items cursor
hand_placed told asked id a shown h row reply cursor was is =
    placed (subst (IsAccounted told asked) (cargo_is id a shown h (sending row cursor a.inn.list.items a.given.items) (ap (λ st. load_at shown.command st a.out.list.items a.inn.list.items a.given.items) was)) is)
  where
    placed : IsAccounted told asked (cargo id shown.pages (sending row cursor a.inn.list.items a.given.items) (rows_of h)) → IsPlacedAt a.inn.list.items cursor
    placed hand = hand.load.placed

-- a part more
pub part_moved : (told : Told → Bool) (asked : Bool) (id : UnitId) (a b : Service) (command : Option Cmd) (old new : SiteState) (h : List Served) (row tag len address : ℕ) (reply : ScsiReply)
    (cursor cursor' : Cursor) → a.stage ≡ DataIn row reply cursor → b.stage ≡ DataIn row reply cursor' → b.inn ≡ a.inn → b.given.items ≡ a.given.items → new.own.place ≡ old.own.place
    → data_bytes new.own ≡ data_bytes old.own → SendsPart old new cursor.done address len tag → TellsAll told id old new → len ≤ 65536 → cursor'.done ≡ cursor.done + len
    → (IsPlacedAt a.inn.list.items cursor → LiesAt a.inn.list.items cursor.done (Some address) len) → (IsPlacedAt a.inn.list.items cursor → IsPlacedAt a.inn.list.items cursor')
    → (IsPlacedAt a.inn.list.items cursor → IsPart a.inn.list.items (length a.given.items) cursor.done address len) → cursor.done + len ≤ length a.given.items
    → HasTag h row tag → IsAccounted told asked (cargo_at id a (sight command (pages_of old)) h) → IsAccounted told asked (cargo_at id b (sight command (pages_of new)) h)
unfolding pages_in
part_moved told asked id a b command old new h row tag len address reply cursor cursor' was is inn bytes place same sent all few on lies placed of_part inside tagged hand =
    subst (IsAccounted told asked)
    (sym (cargo_is id b (sight command (pages_of new)) h (sending row cursor' a.inn.list.items a.given.items)
    (λ i. load_at command (is i) b.out.list.items ((inn i).list.items) (bytes i))))
    (moved_sending told asked id (pages_of old) (pages_of new) (rows_of h) row cursor cursor' a.inn.list.items a.given.items sent.part len address tag same sent.long few
    (lies at) on (placed at) tag_of heard sent.shows (of_part at) inside numbered
    (count_more old.own new.own old.copies new.copies sent.delivered.copy place sent.delivered.made sent.kind)
    (subst (IsAccounted told asked) (cargo_is id a (sight command (pages_of old)) h (sending row cursor a.inn.list.items a.given.items)
    (ap (λ st. load_at command st a.out.list.items a.inn.list.items a.given.items) was)) hand))
  where
    at : IsPlacedAt a.inn.list.items cursor
    at = hand_placed told asked id a (sight command (pages_of old)) h row reply cursor was hand

    tag_of : (r : Served) → slice_get (rows_of h) row ≡ Some r → field 8 8 r.iu ≡ tag
    tag_of r there = let found = row_from h row r there in ap (λ (x : Served). field 8 8 x.iu) found.1.1 ∙ tagged found.0 found.1.0

    heard : delivery (told_to told id) tag (data_at + cursor.done) address sent.part
    heard = all (delivered (data_at + cursor.done) address tag sent.part)
        (record { front = []; copy = sent.delivered.copy; rest = []; made = sent.delivered.made; is = sent.delivered.delivered })

    numbered : nth_delivery (told_to told id) tag (pages_of old).count (data_at + cursor.done) address sent.part
    numbered = all (nth_delivered (pages_of old).count (data_at + cursor.done) address tag sent.part)
        (nth_of_delivery old new (data_at + cursor.done) address tag sent.part place sent.delivered sent.kind)

-- none is left
pub all_sent : (service : Service) (row : ℕ) (reply : ScsiReply) (cursor : Cursor) → service.stage ≡ DataIn row reply cursor
    → min (length service.given.items) (sum_of service.inn.list.items) ≤ cursor.done → IsSentAll service
all_sent service row reply cursor is done other_row other_reply other at =
    subst (λ (c : Cursor). min (length service.given.items) (sum_of service.inn.list.items) ≤ c.done) (same cursor other (sym is ∙ at)) done
  where
    same : (x y : Cursor) → DataIn row reply x ≡ DataIn other_row other_reply y → x ≡ y
    same x y e = cc (e)

-- the same stage with the same data-in
pub same_service : (id : UnitId) (a b : Service) (shown : Sight) (h : List Served) → b.stage ≡ a.stage → b.out ≡ a.out → b.inn ≡ a.inn → b.given ≡ a.given
    → cargo_at id b shown h ≡ cargo_at id a shown h
unfolding cargo_at
same_service id a b shown h stage out inn bytes i =
    cargo id shown.pages (load_at shown.command (stage i) ((out i).list.items) ((inn i).list.items) ((bytes i).items)) (rows_of h)

-- ---- the answer is written

pub answered : (id : UnitId) (a b : Service) (shown : Sight) (h : List Served) (row : ℕ) (reply : ScsiReply) (cursor : Cursor) (outcome : Outcome) (result : Result (Unit {0}) NoMemory)
    → a.stage ≡ DataIn row reply cursor → OnOk result (b.stage ≡ Answer outcome) → OnErr result (b.stage ≡ a.stage) → b.out ≡ a.out → b.inn ≡ a.inn → b.given ≡ a.given → IsSentAll a
    → KeepsCargo (cargo_at id a shown h) (cargo_at id b shown h)
answered id a b shown h row reply cursor outcome (Ok value) was ok err out inn bytes done =
    keeps_by _ _ _ _ (cargo_is id a shown h (sending row cursor a.inn.list.items a.given.items) (ap (λ st. load_at shown.command st a.out.list.items a.inn.list.items a.given.items) was))
    (cargo_none id b shown h (ap is_moving ok))
    (sent_all id shown.pages shown.pages (rows_of h) row cursor a.inn.list.items a.given.items (done row reply cursor was) refl)
answered id a b shown h row reply cursor outcome (Err memory) was ok err out inn bytes done = keeps_same _ _ (same_service id a b shown h err out inn bytes)

-- the same place in the same data-out
pub same_out : (id : UnitId) (a b : Service) (shown : Sight) (h : List Served) (cursor : Cursor) → a.stage ≡ DataOut cursor → b.stage ≡ DataOut cursor → b.out ≡ a.out → b.inn ≡ a.inn
    → cargo_at id b shown h ≡ cargo_at id a shown h
same_out id a b shown h cursor was is out inn =
    cargo_is id b shown h (fetching shown.command cursor a.out.list.items a.inn.list.items) (λ i. load_at shown.command (is i) ((out i).list.items) ((inn i).list.items) b.given.items)
    ∙ sym (cargo_is id a shown h (fetching shown.command cursor a.out.list.items a.inn.list.items) (ap (λ st. load_at shown.command st a.out.list.items a.inn.list.items a.given.items) was))

-- an answer that is set where nothing is to be copied
pub set_unloaded : (id : UnitId) (a b : Service) (shown : Sight) (h : List Served) (outcome : Outcome) (result : Result (Unit {0}) NoMemory) → OnOk result (b.stage ≡ Answer outcome)
    → OnErr result (b.stage ≡ a.stage) → b.out ≡ a.out → b.inn ≡ a.inn → b.given ≡ a.given → is_loaded a.stage ≡ false → KeepsCargo (cargo_at id a shown h) (cargo_at id b shown h)
set_unloaded id a b shown h outcome (Ok value) ok err out inn bytes is = none_keeps id a b shown shown h h refl is (ap is_moving ok) refl
set_unloaded id a b shown h outcome (Err memory) ok err out inn bytes is = keeps_same _ _ (same_service id a b shown h err out inn bytes)

-- ---- what the desk says of the row in service

first_is : (request other : Request) (rest tail : List Request) → request ∷ rest ≡ other ∷ tail → request ≡ other
first_is request other rest tail same = cc (same)

pub tag_at : (terms : Terms) (id : UnitId) (logins : LoginState) (service : Service) (request : Request) (rest : List Request) (h : List Served) (row : ℕ) (reply : ScsiReply) (cursor : Cursor)
    → service.stage ≡ DataIn row reply cursor → IsServing terms (desk_at id logins service None (request ∷ rest)) h → HasTag h row request.tag
tag_at terms id logins service request rest h row reply cursor is serving found there =
    ap (λ (r : Served). field 8 8 r.iu) (one found at.served (sym there ∙ (λ i. slice_get (at.history_is i) (at.row_is i)) ∙ get_at at.before at.behind at.served))
    ∙ ap (field 8 8) at.iu_is ∙ ap (λ (r : Request). field 8 8 r.unit.items) (sym (first_is request mine.request rest mine.rest mine.front)) ∙ sym request.tagged
  where
    mine : IsServed terms (place_of (desk_at id logins service None (request ∷ rest))) h row
    mine = subst (λ st. IfRow st (IsServed terms (place_of (desk_at id logins service None (request ∷ rest))) h)) is serving.row

    at : IsInService id mine.request.unit.items h row
    at = mine.in_service

    one : (x y : Served) → Some x ≡ Some y → x ≡ y
    one x y e = cc (e)

-- a request that is no command has no data-in
pub other_unloaded : (terms : Terms) (id : UnitId) (logins : LoginState) (service : Service) (request : Request) (rest : List Request) (h : List Served) → is_command request.order ≡ false
    → IsServing terms (desk_at id logins service None (request ∷ rest)) h → is_loaded service.stage ≡ false
other_unloaded terms id logins service request rest h other serving = by service.stage refl
  where
    none : (command : Cmd) (found : Request) (tail : List Request) → request ∷ rest ≡ found ∷ tail → found.order ≡ Command command → ⊥
    none command found tail front order =
        apart (sym other ∙ ap (λ (r : Request). is_command r.order) (first_is request found rest tail front) ∙ ap is_command order)
      where
        apart : false ≡ true → ⊥
        apart e = cc (e)

    by : (stage : Stage) → service.stage ≡ stage → is_loaded service.stage ≡ false
    by Start at = ap is_loaded at
    by OutTable at = ap is_loaded at
    by InTable at = ap is_loaded at
    by (DataOut cursor) at = ap is_loaded at
    by (Answer outcome) at = ap is_loaded at
    by (Entry outcome) at = ap is_loaded at
    by (Given row reply) at =
        let mine = subst (λ st. IfRow st (IsServed terms (record (place_of (desk_at id logins service None (request ∷ rest))) { stage = st }) h)) at serving.row in
        absurd (none mine.holds.command mine.request mine.rest mine.front mine.holds.order)
    by (DataIn row reply cursor) at =
        let mine = subst (λ st. IfRow st (IsServed terms (record (place_of (desk_at id logins service None (request ∷ rest))) { stage = st }) h)) at serving.row in
        absurd (none mine.holds.command mine.request mine.rest mine.front mine.holds.order)

-- ---- data-out are fetched

-- the table of data-out was found
pub out_at : (told : Told → Bool) (asked : Bool) (id : UnitId) (a b : Service) (command : Cmd) (old new : Pages) (h : List Served) → is_moving a.stage ≡ false → b.stage ≡ InTable
    → IsNamedBy (told_to told id) command.out b.out.list.items old.count → new.count ≡ old.count + table_count command.out
    → IsAccounted told asked (cargo_at id a (sight (Some command) old) h) → IsAccounted told asked (cargo_at id b (sight (Some command) new) h)
out_at told asked id a b command old new h was is named more hand =
    subst (IsAccounted told asked)
    (sym (cargo_is id b (sight (Some command) new) h (tabled (Some command) b.out.list.items) (ap (λ st. load_at (Some command) st b.out.list.items b.inn.list.items b.given.items) is)))
    (out_tabled told asked id old new (rows_of h) command b.out.list.items named more (subst (IsAccounted told asked) (cargo_none id a (sight (Some command) old) h was) hand))

-- that of data-in was not found yet
pub still_at : (id : UnitId) (a b : Service) (shown shown' : Sight) (h : List Served) → a.stage ≡ InTable → b.stage ≡ InTable → b.out ≡ a.out → shown'.command ≡ shown.command
    → shown'.pages.count ≡ shown.pages.count → KeepsCargo (cargo_at id a shown h) (cargo_at id b shown' h)
still_at id a b shown shown' h was is out command same =
    keeps_by _ _ _ _ (cargo_is id a shown h (tabled shown.command a.out.list.items) (ap (λ st. load_at shown.command st a.out.list.items a.inn.list.items a.given.items) was))
    (cargo_is id b shown' h (tabled shown.command a.out.list.items) (λ i. load_at (command i) (is i) ((out i).list.items) b.inn.list.items b.given.items))
    (still_tabled id shown.pages shown'.pages (rows_of h) shown.command a.out.list.items same)

-- it was found
pub begun_at : (told : Told → Bool) (asked : Bool) (id : UnitId) (a b : Service) (command : Cmd) (old new : Pages) (h : List Served) (start : Cursor) → a.stage ≡ InTable → b.stage ≡ DataOut start
    → start ≡ record { piece = 0; inside = 0; done = 0 } → b.out ≡ a.out → IsNamedBy (told_to told id) command.inn b.inn.list.items old.count → new.count ≡ old.count + table_count command.inn
    → IsAccounted told asked (cargo_at id a (sight (Some command) old) h) → IsAccounted told asked (cargo_at id b (sight (Some command) new) h)
begun_at told asked id a b command old new h start was is begins out named more hand =
    subst (IsAccounted told asked)
    (sym (cargo_is id b (sight (Some command) new) h (fetching (Some command) (record { piece = 0; inside = 0; done = 0 }) a.out.list.items b.inn.list.items)
    ((λ i. load_at (Some command) (is i) ((out i).list.items) b.inn.list.items b.given.items) ∙ ap (λ (c : Cursor). fetching (Some command) c a.out.list.items b.inn.list.items) begins)))
    (begun told asked id old new (rows_of h) command a.out.list.items b.inn.list.items named more
    (subst (IsAccounted told asked) (cargo_is id a (sight (Some command) old) h (tabled (Some command) a.out.list.items)
    (ap (λ st. load_at (Some command) st a.out.list.items a.inn.list.items a.given.items) was)) hand))

pub out_placed : (told : Told → Bool) (asked : Bool) (id : UnitId) (a : Service) (shown : Sight) (h : List Served) (cursor : Cursor) → a.stage ≡ DataOut cursor
    → IsAccounted told asked (cargo_at id a shown h) → IsPlacedAt a.out.list.items cursor
out_placed told asked id a shown h cursor was is =
    placed (subst (IsAccounted told asked) (cargo_is id a shown h (fetching shown.command cursor a.out.list.items a.inn.list.items)
    (ap (λ st. load_at shown.command st a.out.list.items a.inn.list.items a.given.items) was)) is)
  where
    placed : IsAccounted told asked (cargo id shown.pages (fetching shown.command cursor a.out.list.items a.inn.list.items) (rows_of h)) → IsPlacedAt a.out.list.items cursor
    placed hand = hand.load.placed

-- a part more
pub part_fetched : (told : Told → Bool) (asked : Bool) (id : UnitId) (a b : Service) (command : Option Cmd) (old new : SiteState) (h : List Served) (len address : ℕ) (cursor cursor' : Cursor)
    → a.stage ≡ DataOut cursor → b.stage ≡ DataOut cursor' → b.out ≡ a.out → b.inn ≡ a.inn → new.own.place ≡ old.own.place → FetchesPart old new address cursor.done len
    → TellsAll told id old new → len ≤ 65536 → cursor'.done ≡ cursor.done + len → (IsPlacedAt a.out.list.items cursor → LiesAt a.out.list.items cursor.done (Some address) len)
    → (IsPlacedAt a.out.list.items cursor → IsPlacedAt a.out.list.items cursor')
    → (IsPlacedAt a.out.list.items cursor → IsPart a.out.list.items (sum_of a.out.list.items) cursor.done address len) → cursor.done + len ≤ sum_of a.out.list.items
    → IsAccounted told asked (cargo_at id a (sight command (pages_of old)) h) → IsAccounted told asked (cargo_at id b (sight command (pages_of new)) h)
unfolding pages_in
part_fetched told asked id a b command old new h len address cursor cursor' was is outs inns place got all few on lies placed of_part inside hand =
    subst (IsAccounted told asked)
    (sym (cargo_is id b (sight command (pages_of new)) h (fetching command cursor' a.out.list.items a.inn.list.items)
    (λ i. load_at command (is i) ((outs i).list.items) ((inns i).list.items) b.given.items)))
    (moved_fetching told asked id (pages_of old) (pages_of new) (rows_of h) command cursor cursor' a.out.list.items a.inn.list.items got.part len address got.long few (lies at) on (placed at) heard
    got.shows got.rest (of_part at) inside numbered (count_more old.own new.own old.copies new.copies got.fetched.copy place got.fetched.made got.fetched.kind)
    (subst (IsAccounted told asked) (cargo_is id a (sight command (pages_of old)) h (fetching command cursor a.out.list.items a.inn.list.items)
    (ap (λ st. load_at command st a.out.list.items a.inn.list.items a.given.items) was)) hand))
  where
    at : IsPlacedAt a.out.list.items cursor
    at = out_placed told asked id a (sight command (pages_of old)) h cursor was hand

    heard : fetch (told_to told id) (data_at + cursor.done) address got.part
    heard = all (fetched address (data_at + cursor.done) got.part) (record { front = []; copy = got.fetched.copy; rest = []; made = got.fetched.made; is = got.fetched.fetched })

    numbered : nth_fetch (told_to told id) (pages_of old).count (data_at + cursor.done) address got.part
    numbered = all (nth_fetched (pages_of old).count address (data_at + cursor.done) got.part) (nth_of_fetch old new address (data_at + cursor.done) got.part place got.fetched)

-- none is left
pub all_fetched : (service : Service) (cursor : Cursor) → service.stage ≡ DataOut cursor → sum_of service.out.list.items ≤ cursor.done → IsFetchedAll service
all_fetched service cursor is done other at = subst (λ (c : Cursor). sum_of service.out.list.items ≤ c.done) (same cursor other (sym is ∙ at)) done
  where
    same : (x y : Cursor) → DataOut x ≡ DataOut y → x ≡ y
    same x y e = cc (e)

pub none_fetched : (service : Service) → ((cursor : Cursor) → service.stage ≡ DataOut cursor → ⊥) → IsFetchedAll service
none_fetched service other cursor at = absurd (other cursor at)
