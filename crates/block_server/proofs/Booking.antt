-- A unit's books over the calls of its turn.
use Rattle.block_server.proofs.Counting.{marked}
use Rattle.block_server.specs.Answering.{has_bytes}
use Rattle.std.proofs.Common.{◌≡◌, ◌++◌, ◌<◌, ℕ, zero, suc, true, false, Result, Ok, Err, OnOk, OnErr, List, [], ◌∷◌, Option, Some, None, length, slice_get, slice_set, refl, sym, ◌∙◌, ap, subst}
use Rattle.std.specs.List.{HoldsAt}
use Rattle.std.proofs.lemmas.Option.{slice_get-get_or}
use Rattle.crq_ring.specs.Sessions.{of_session}
use Rattle.vio_num.specs.declared.history.Grant.{Grant}
use Rattle.vio_num.specs.declared.history.Grant.TheVariants.{Granted, Lapsed}
use Rattle.vio_num.specs.declared.history.Lapse.{Lapse}
use Rattle.vio_num.specs.declared.history.Served.{Served}
use Rattle.vio_num.specs.declared.names.UnitId.{UnitId}
use Rattle.block_server.specs.Books.{next_of}
use Rattle.block_server.specs.Judged.{AreKept, Books, IsAtStage, IsKeptAt, IsOutcome, Keeps, ServesOne, gets_row, has_row, in_service, is_login, keys_of, row_key, RowKey, row_in}
use Rattle.block_server.specs.Orders.{IsCodeOf}
use Rattle.block_server.specs.Stage.{is_answered}
use Rattle.block_server.specs.declared.request.Order.{Order}
use Rattle.block_server.specs.declared.request.Order.TheVariants as orders
use Rattle.block_server.specs.declared.request.Request.{Request}
use Rattle.srp_iu.specs.declared.response_code.ResponseCode.{ResponseCode}
use Rattle.vio_num.specs.declared.memory.NoMemory.{NoMemory}
use Rattle.block_server.proofs.Working.{login_one, one_given, one_same}
use Rattle.block_server.specs.Moves.{Passes}
use Rattle.block_server.specs.SiteState.{SiteState}
use Rattle.block_server.specs.declared.line.Kept.{Kept}
use Rattle.block_server.specs.declared.line.Kept.TheVariants as keeps
use Rattle.vio_num.specs.declared.entry.Entry.{Entry}
use Rattle.block_server.specs.declared.request.Arrival.{Arrival}
use Rattle.block_server.specs.declared.service.Outcome.{Outcome}
use Rattle.block_server.specs.declared.service.Stage.{Stage}
use Rattle.block_server.specs.declared.service.Stage.TheVariants as stages
use Rattle.block_server.proofs.Keeping.{moved_to}
use Rattle.block_server.proofs.Taking.{passed_session, passed_taken}

-- the entry that is judged next, over a call that takes none
pub passed_next : (waiting waiting' : Option Arrival) (old new : SiteState) → waiting' ≡ waiting → Passes old new → next_of waiting' new.queue ≡ next_of waiting old.queue
passed_next waiting waiting' old new same passes = ap (λ w. next_of w new.queue) same ∙ by waiting
  where
    by : (waiting : Option Arrival) → next_of waiting new.queue ≡ next_of waiting old.queue
    by (Some arrival) = λ i. record { number = arrival.number; taken = passed_taken old new passes i }
    by None = λ i. record { number = length (of_session (passed_session old new passes i) (passed_taken old new passes i)); taken = passed_taken old new passes i }

-- Such a call leaves the books.
pub books_pass : (books new : Books) (waiting waiting' : Option Arrival) (site site' : SiteState) → waiting' ≡ waiting → Passes site site'
    → books.session ≡ site.queue.last_session → books.next ≡ next_of waiting site.queue → new.session ≡ site'.queue.last_session → new.next ≡ next_of waiting' site'.queue
    → new.id ≡ books.id → new.current ≡ books.current → new.last ≡ books.last → new.taking ≡ books.taking → new.stage ≡ books.stage → new.kept ≡ books.kept
    → new.pending ≡ books.pending → new.rows ≡ books.rows → new.grants ≡ books.grants → new.ended ≡ books.ended → new.up ≡ books.up → new.credits ≡ books.credits → Keeps books new
books_pass books new waiting waiting' site site' same passes session next session' next' id current last taking stage kept pending rows grants ended up credits = λ judged is.
    moved_to books new judged id (session' ∙ passed_session site site' passes ∙ sym session) (next' ∙ passed_next waiting waiting' site site' same passes ∙ sym next)
    current last taking stage kept pending rows grants ended up credits is

-- One part of a turn behind another.
pub keeps_on : (a b c : Books) → Keeps a b → Keeps b c → Keeps a c
keeps_on a b c first next = λ judged is. next judged (first judged is)

-- the line on the end of a login
pub line_same : (grants mid new : List Grant) (unit unit' : UnitId) (of login login' : ℕ) (cause : Lapse) (outstanding granted : ℕ) → new ≡ mid ++ Lapsed unit' of login' cause outstanding granted ∷ []
    → mid ≡ grants → unit' ≡ unit → login' ≡ login → new ≡ grants ++ Lapsed unit of login cause outstanding granted ∷ []
line_same grants mid new unit unit' of login login' cause outstanding granted added same own current =
    added ∙ (λ i. same i ++ Lapsed (own i) of (current i) cause outstanding granted ∷ [])

-- what says whose rows are stays as one of them gets its answer, or its data-in
pub keys_set : (rows : List Served) (i : ℕ) (row row' : Served) → slice_get rows i ≡ Some row → row_key row' ≡ row_key row → keys_of (slice_set rows i row') ≡ keys_of rows
keys_set [] i row row' there same = refl
keys_set (first ∷ rows) zero row row' there same = ap (λ k. k ∷ keys_of rows) (same ∙ head_is first row there)
  where
    head_is : (first row : Served) → slice_get (first ∷ rows) zero ≡ Some row → row_key row ≡ row_key first
    head_is first row there =
        let is : row ≡ first = cc (there) in
        ap (λ (s : Served). row_key s) is
keys_set (first ∷ rows) (suc i) row row' there same = ap (λ keys. row_key first ∷ keys) (keys_set rows i row row' there same)

-- the rows as one of them gets its answer
pub keys_marked : (rows : List Served) (i : ℕ) (row : Served) (answer : List ℕ) → slice_get rows i ≡ Some row → has_bytes answer ≡ true
    → keys_of (slice_set rows i (record row { answer = answer })) ≡ slice_set (keys_of rows) i (marked (row_key row))
keys_marked [] i row answer there has = refl
keys_marked (first ∷ rows) zero row answer there has = λ k. record {
  unit = row.unit;
  login = row.login;
  key = record { session = row.session; number = row.number; bytes = row.iu };
  answered = has k;
} ∷ keys_of rows
keys_marked (first ∷ rows) (suc i) row answer there has = ap (λ keys. row_key first ∷ keys) (keys_marked rows i row answer there has)

pub key_there : (rows : List Served) (i : ℕ) (row : Served) → slice_get rows i ≡ Some row → slice_get (keys_of rows) i ≡ Some (row_key row)
key_there [] i row there = absurd (cc (there))
key_there (first ∷ rows) zero row there = ap Some (ap row_key (same first row there))
  where
    same : (a b : Served) → Some a ≡ Some b → a ≡ b
    same a b is = cc (is)
key_there (first ∷ rows) (suc i) row there = key_there rows i row there

-- the row of a key
pub key_from : (rows : List Served) (i : ℕ) (key : RowKey) → slice_get (keys_of rows) i ≡ Some key → (row : Served) × (slice_get rows i ≡ Some row)
key_from [] i key there = absurd (cc (there))
key_from (first ∷ rows) zero key there = (first, refl)
key_from (first ∷ rows) (suc i) key there = key_from rows i key there

-- what is kept is the answer of this outcome
pub kept_stage : (stage : Stage) (kept : Option Kept) (entry : Entry) (outcome : Outcome) → kept ≡ Some (keeps.Answer entry outcome) → IsKeptAt stage kept → stage ≡ stages.Entry outcome
kept_stage stage None entry outcome same is = absurd (cc (same))
kept_stage stage (Some (keeps.Reply other)) entry outcome same is = absurd (cc (same))
kept_stage stage (Some (keeps.Answer other outcome')) entry outcome same is = is ∙ ap stages.Entry (cc (same))

-- the line on a login that began
pub granted_same : (mid new : List Grant) (unit : UnitId) (of login login' number credits : ℕ) → new ≡ mid ++ Granted unit of login' number credits ∷ [] → login' ≡ login
    → new ≡ mid ++ Granted unit of login number credits ∷ []
granted_same mid new unit of login login' number credits added same = added ∙ (λ i. mid ++ Granted unit of (same i) number credits ∷ [])

-- The information unit of the answer was kept, or memory is wanting.
pub set_one : (id : UnitId) (session : ℕ) (request : Request) (stage stage' : Stage) (rows : List Served) (result : Result (Unit {0}) NoMemory) (given given' : Stage) → stage ≡ given
    → OnOk result (stage' ≡ given') → OnErr result (stage' ≡ stage) → has_row given' ≡ has_row given → row_in given' ≡ row_in given
    → ((current : ℕ) → (pending : List Request) → IsAtStage current pending given → IsAtStage current pending given') → ServesOne id session request stage stage' rows rows
set_one id session request stage stage' rows (Ok done) given given' was ok err same placed at = one_given id session request stage stage' rows given given' was ok same placed at
set_one id session request stage stage' rows (Err memory) given given' was ok err same placed at = one_same id session request stage stage' rows rows err refl

pub login_set : (books : Books) (stage stage' : Stage) (rows : List Served) (front : Request) (rest : List Request) (outcome : Outcome) (result : Result (Unit {0}) NoMemory) → books.pending ≡ front ∷ rest
    → is_login front.order ≡ true → is_answered stage ≡ false → books.kept ≡ None → OnOk result (stage' ≡ stages.Answer outcome) → OnErr result (stage' ≡ stage)
    → has_row (stages.Answer outcome) ≡ false → IsOutcome books.current books.pending outcome → Keeps (in_service books stage rows) (in_service books stage' rows)
login_set books stage stage' rows front rest outcome (Ok done) parts asks before none ok err no_row at = login_one books stage stage' rows front rest outcome parts asks before none ok no_row at
login_set books stage stage' rows front rest outcome (Err memory) parts asks before none ok err no_row at = λ judged is. subst (λ (s : Stage). AreKept (in_service books s rows) judged) (sym err) is

-- what is answered with a code alone gets a row
pub code_gets : (order : Order) (code : ResponseCode) → IsCodeOf order code → gets_row order ≡ true
code_gets (orders.Login request) code is = absurd is
code_gets orders.Logout code is = absurd is
code_gets (orders.Task task) code is = refl
code_gets (orders.Command command) code is = refl
code_gets orders.Unreadable code is = refl

-- a row that is lent is there
pub row_there : (rows : List Served) (i : ℕ) (row : Served) → (i < length rows) × HoldsAt (λ (other : Served). row ≡ other) rows i → slice_get rows i ≡ Some row
row_there rows i row is = slice_get-get_or rows i row is.0 ∙ ap Some (sym (is.1 row))
