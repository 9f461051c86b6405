-- What became of each SRP entry that a server unit took, and that each request has one row, in order (SRP, "Flow control").
use Rattle.std.specs.Prelude.{◌≡◌, ◌⊎◌, ◌==◌, ◌&&◌, ◌+◌, ◌<◌, ◌≤◌, ◌++◌, ℕ, Bool, true, false, ⊤, All, List, [], ◌∷◌, Option, Some, None, IsSome, length, map, filter, slice_get, take, if◌then◌else◌}
use Rattle.std.specs.List.{filter_map}
use Rattle.crq_ring.specs.Sessions.{of_session}
use Rattle.crq_ring.specs.declared.rows.PipeRow.{PipeRow}
use Rattle.srp_iu.specs.Grammar.{Spells}
use Rattle.srp_iu.specs.declared.login.LoginReq.{LoginReq}
use Rattle.srp_iu.specs.declared.unit.Iu.{Iu}
use Rattle.srp_iu.specs.declared.unit.Iu.TheVariants as units
use Rattle.vio_num.specs.declared.history.Grant.{Grant}
use Rattle.vio_num.specs.declared.history.Grant.TheVariants.{Granted, Lapsed}
use Rattle.vio_num.specs.declared.history.Lapse.{Lapse}
use Rattle.vio_num.specs.declared.history.Lapse.TheVariants as lapses
use Rattle.vio_num.specs.declared.history.Served.{Served as ServedRow}
use Rattle.vio_num.specs.declared.names.UnitId.{UnitId}
pub use Rattle.block_server.specs.Fates.{Asks, Fate, HasGrant, IsIgnored, Judged, Key, accepted, ends, login_of, receipt_key}
use Rattle.block_server.specs.Fates.Fate.{asked, asks_login, asks_logout, ends_it, ignored}
use Rattle.block_server.specs.Answering.{has_bytes}
use Rattle.block_server.specs.Closings.{HasCauses, is_closing, heard, is_line, last_line, TakesNone}
use Rattle.block_server.specs.Makers.{same_unit}
use Rattle.block_server.specs.Numbers.{AreBelow, KeepsNumbers, KeepsRising, Rise, numbers_of}
use Rattle.block_server.specs.Receipts.{EndedFor, Receipt}
use Rattle.block_server.specs.declared.line.Kept.{Kept}
use Rattle.block_server.specs.declared.line.Kept.TheVariants as keeps
use Rattle.block_server.specs.declared.request.Order.{Order}
use Rattle.block_server.specs.declared.request.Order.TheVariants as orders
use Rattle.block_server.specs.declared.request.Request.{Request}
use Rattle.block_server.specs.declared.service.Outcome.{Outcome}
use Rattle.block_server.specs.declared.service.Outcome.TheVariants as outcomes
use Rattle.block_server.specs.declared.service.Stage.{Stage}
use Rattle.block_server.specs.declared.service.Stage.TheVariants as stages

-- JUDGED -----------------------------------------------------------------------------------------

-- What is so of a receipt of each fate. (That one without a copy is `ends_it` stands in `intake`: its session ended for a cause.)
abbrev pub HasFate : (unit : UnitId) → List Grant → Receipt → Fate → Type 0
HasFate unit grants receipt ends_it = EndedFor unit receipt.session grants
HasFate unit grants receipt ignored = IsSome receipt.copy × ((iu : Iu) × Spells receipt.bytes iu × IsIgnored iu)
HasFate unit grants receipt asks_login = IsSome receipt.copy × ((request : LoginReq) × Spells receipt.bytes (units.LoginReq request))
HasFate unit grants receipt (asks_logout n) =
    IsSome receipt.copy × ((tag : ℕ) × (Spells receipt.bytes (units.ILogout tag) × HasGrant unit grants receipt.session n receipt.number))
HasFate unit grants receipt (asked n) = IsSome receipt.copy × (Asks receipt.bytes × HasGrant unit grants receipt.session n receipt.number)

-- LINES ------------------------------------------------------------------------------------------

abbrev pub is_logout : Lapse → Bool
is_logout lapses.Logout = true
is_logout cause = false

-- whether it is for more outstanding than granted
abbrev pub is_limit : Lapse → Bool
is_limit lapses.OverLimit = true
is_limit cause = false

-- whether a line ends it since its client asked for that
abbrev pub logs_out : (unit : UnitId) → (login : ℕ) → Grant → Bool
logs_out unit n (Granted of session login number credits) = false
logs_out unit n (Lapsed of session login cause outstanding granted) = is_logout cause && (same_unit of unit && (login == n))

-- No line ends the login.
abbrev pub IsOn : (unit : UnitId) → (login : ℕ) → List Grant → Type 0
IsOn unit login grants = filter (ends unit login) grants ≡ []

-- A command or a task that is judged now was not asked under a login that had ended by these lines.
abbrev pub IsInTime : (unit : UnitId) → List Grant → Judged → Type 0
IsInTime unit grants judged = 1 ≤ login_of judged.fate → IsOn unit (login_of judged.fate) grants

-- SERVED -----------------------------------------------------------------------------------------

-- what of a row says whose it is
pub record RowKey : Type 0 where
  pub unit : UnitId
  pub login : ℕ
  pub key : Key
  -- whether it has its answer
  pub answered : Bool

abbrev pub request_key : (session : ℕ) → Request → Key
request_key session r = record { session = session; number = r.number; bytes = r.unit.items }

abbrev pub row_key : ServedRow → RowKey
row_key row = record {
  unit = row.unit;
  login = row.login;
  key = record { session = row.session; number = row.number; bytes = row.iu };
  answered = has_bytes row.answer;
}

abbrev pub keys_of : List ServedRow → List RowKey
keys_of rows = map row_key rows

-- those of them that have rows, in their order
abbrev pub is_under : UnitId → (login : ℕ) → RowKey → Bool
is_under unit login row = same_unit row.unit unit && (row.login == login)

abbrev pub rows_under : UnitId → (login : ℕ) → List RowKey → List Key
rows_under unit login rows = map (λ row. row.key) (filter (is_under unit login) rows)

-- how many of them have their answers
abbrev pub answered_under : UnitId → (login : ℕ) → List RowKey → ℕ
answered_under unit login rows = length (filter (λ row. row.answered) (filter (is_under unit login) rows))

-- whether a request is a command or a task, which has a row; whether it is a command; and whether it asks for a login
abbrev pub gets_row : Order → Bool
gets_row (orders.Login request) = false
gets_row orders.Logout = false
gets_row order = true

abbrev pub is_command : Order → Bool
is_command (orders.Command command) = true
is_command order = false

abbrev pub is_login : Order → Bool
is_login (orders.Login request) = true
is_login order = false

-- whether the request in service has its row
abbrev pub has_row : Stage → Bool
has_row (stages.Given row reply) = true
has_row (stages.DataIn row reply cursor) = true
has_row (stages.Answer (outcomes.Served row)) = true
has_row (stages.Entry (outcomes.Served row)) = true
has_row stage = false

-- the place of that row
abbrev pub row_in : Stage → Option ℕ
row_in (stages.Given row reply) = Some row
row_in (stages.DataIn row reply cursor) = Some row
row_in (stages.Answer (outcomes.Served row)) = Some row
row_in (stages.Entry (outcomes.Served row)) = Some row
row_in stage = None

-- the requests that are due: those that are pending, but for the oldest where it has its row
abbrev pub due : Bool → List Request → List Request
due true (request ∷ requests) = requests
due true [] = []
due false requests = requests

abbrev pub is_due : (login : ℕ) → Request → Bool
is_due login request = gets_row request.order && (request.login == login)

abbrev pub due_under : (session login : ℕ) → Bool → List Request → List Key
due_under session login has pending = map (request_key session) (filter (is_due login) (due has pending))

-- the number of the entry of a row of this unit and session, if it is one; and those of rows, in their order
abbrev pub row_number : UnitId → (session : ℕ) → RowKey → Option ℕ
row_number unit session row = if same_unit row.unit unit && (row.key.session == session) then Some row.key.number else None

abbrev pub row_numbers : UnitId → (session : ℕ) → List RowKey → List ℕ
row_numbers unit session rows = filter_map (row_number unit session) rows

-- In each session the numbers of the entries of a unit's rows rise. In the present one those of the requests that are due follow, and
-- the entry that is judged next is behind them all; of later ones there are none.
pub record KeepsRowsRising (unit : UnitId) (session next : ℕ) (requests : List Request) (rows : List RowKey) : Type 0 where
  pub each : (q : ℕ) → Rise (row_numbers unit q rows)
  pub now : Rise (row_numbers unit session rows ++ numbers_of requests)
  pub below : AreBelow next (row_numbers unit session rows ++ numbers_of requests)
  pub later : (q : ℕ) → session < q → row_numbers unit q rows ≡ []

-- Of a login the rows are the first of its requests, each once and in order. Until it ends the others are due; one that is not
-- served by then is dropped, and a line says so. The client's own logout drops none.
pub record IsServedUnder (unit : UnitId) (session : ℕ) (judged : List Judged) (rows : List RowKey) (grants : List Grant) (stage : Stage) (pending : List Request) (login : ℕ) : Type 0 where
  pub rest : List Key
  pub in_order : accepted login judged ≡ rows_under unit login rows ++ rest
  pub waiting : IsOn unit login grants → rest ≡ due_under session login (has_row stage) pending
  pub out : (filter (logs_out unit login) grants ≡ []) ⊎ (rest ≡ [])

abbrev pub AreServed : UnitId → (session : ℕ) → List Judged → List RowKey → List Grant → Stage → List Request → Type 0
AreServed unit session judged rows grants stage pending =
    (login : ℕ) → 1 ≤ login → IsServedUnder unit session judged rows grants stage pending login

-- The same where nothing is pending: the rows of a login are all its requests while it is on, and where its client ended it.
pub record IsAllServed (unit : UnitId) (judged : List Judged) (rows : List RowKey) (grants : List Grant) (login : ℕ) : Type 0 where
  pub rest : List Key
  pub in_order : accepted login judged ≡ rows_under unit login rows ++ rest
  pub on : IsOn unit login grants → rest ≡ []
  pub out : (filter (logs_out unit login) grants ≡ []) ⊎ (rest ≡ [])

-- What a unit did with all that it took: each receipt has a fate, and each login's requests their rows.
pub record IsWorkDone (unit : UnitId) (history : List ServedRow) (grants : List Grant) (judged : List Judged) : Type 0 where
  pub fates : All (λ j. HasFate unit grants j.receipt j.fate) judged
  pub served : (login : ℕ) → 1 ≤ login → IsAllServed unit judged (keys_of history) grants login

-- KEPT BETWEEN TURNS -----------------------------------------------------------------------------

-- the number of the entry that is judged next in its session, and what was taken
pub record Ahead : Type 0 where
  pub number : ℕ
  pub taken : List PipeRow

-- how many requests are accepted and not answered, and how many each login grants
pub record Credits : Type 0 where
  pub outstanding : ℕ
  pub granted : ℕ

-- what a unit's requests are judged and served by
pub record Books : Type 0 where
  pub id : UnitId
  -- the present session, and the entry that is judged next
  pub session : ℕ
  pub next : Ahead
  -- the login that is on, or 0, the last that was granted, and whether it takes requests
  pub current : ℕ
  pub last : ℕ
  pub taking : Bool
  pub stage : Stage
  pub kept : Option Kept
  pub pending : List Request
  pub rows : List RowKey
  pub grants : List Grant
  -- whether nothing more is taken in the session
  pub ended : Bool
  -- whether both ends have heard of one another
  pub up : Bool
  pub credits : Credits

-- The login that is on is the last that was granted, in the present session, and no line ends it.
pub record KeepsLogins (unit : UnitId) (session next current last : ℕ) (taking : Bool) (grants : List Grant) : Type 0 where
  pub most : current ≤ last
  pub on : 1 ≤ current → IsOn unit current grants
  pub none_later : (n : ℕ) → last < n → IsOn unit n grants
  pub granted : 1 ≤ current → HasGrant unit grants session current next
  pub takes : taking ≡ true → 1 ≤ current

-- None of these is under a login.
abbrev pub AreLogins : List Request → Type 0
AreLogins [] = ⊤
AreLogins (request ∷ requests) = (is_login request.order ≡ true) × AreLogins requests

-- The request is under the login that is on, or it asks for one.
pub record IsPendingUnder (current next : ℕ) (taking : Bool) (request : Request) (behind : List Request) : Type 0 where
  pub under : is_login request.order ≡ false → (request.login ≡ current) × (1 ≤ current)
  pub number : request.number < next
  -- behind a logout nothing is under a login
  pub last : is_login request.order ≡ false → gets_row request.order ≡ false → (taking ≡ false) × AreLogins behind

abbrev pub ArePending : (current next : ℕ) → (taking : Bool) → List Request → Type 0
ArePending current next taking [] = ⊤
ArePending current next taking (request ∷ requests) =
    IsPendingUnder current next taking request requests × ArePending current next taking requests

-- The oldest request is in service, and is a command or a task.
pub record HasFront (pending : List Request) : Type 0 where
  pub front : Request
  pub rest : List Request
  pub parts : pending ≡ front ∷ rest
  pub gets : gets_row front.order ≡ true

-- It is a command.
pub record HasCommandFront (pending : List Request) : Type 0 where
  pub front : Request
  pub rest : List Request
  pub parts : pending ≡ front ∷ rest
  pub asks : is_command front.order ≡ true

-- It asks for a login.
pub record HasLoginFront (pending : List Request) : Type 0 where
  pub front : Request
  pub rest : List Request
  pub parts : pending ≡ front ∷ rest
  pub asks : is_login front.order ≡ true

-- The oldest asks for a login, which is to be granted to its entry.
pub record IsGranting (current number : ℕ) (pending : List Request) : Type 0 where
  pub front : Request
  pub rest : List Request
  pub parts : pending ≡ front ∷ rest
  pub asks : is_login front.order ≡ true
  pub number_is : front.number ≡ number
  pub none_on : current ≡ 0

-- What is so of the oldest request as its answer is copied and put.
abbrev pub IsOutcome : (current : ℕ) → List Request → Outcome → Type 0
IsOutcome current pending (outcomes.Granted number) = IsGranting current number pending
IsOutcome current pending outcomes.Rejected = HasLoginFront pending
IsOutcome current pending (outcomes.Served row) = HasFront pending

-- What is so of it at each stage.
abbrev pub IsAtStage : (current : ℕ) → List Request → Stage → Type 0
IsAtStage current pending (stages.Given row reply) = HasCommandFront pending
IsAtStage current pending (stages.DataIn row reply cursor) = HasCommandFront pending
IsAtStage current pending (stages.Answer outcome) = IsOutcome current pending outcome
IsAtStage current pending (stages.Entry outcome) = IsOutcome current pending outcome
IsAtStage current pending stage = ⊤

-- What is kept as the answer in service is of the stage's outcome.
abbrev pub IsKeptAt : Stage → Option Kept → Type 0
IsKeptAt stage (Some (keeps.Answer entry outcome)) = stage ≡ stages.Entry outcome
IsKeptAt stage kept = ⊤

-- The last line of the present session is the grant of this login.
pub record IsLastGrant (unit : UnitId) (session login granted : ℕ) (grants : List Grant) : Type 0 where
  pub number : ℕ
  pub last : last_line unit session grants ≡ Some (Granted unit session login number granted)

-- A session is over: it was before the present one, or nothing more is taken in that.
abbrev pub IsPast : (session : ℕ) → (ended : Bool) → (q : ℕ) → Type 0
IsPast session ended q = (q < session) ⊎ ((q ≡ session) × (ended ≡ true))

-- Each line has its cause, and what the cause of the next goes by is known.
pub record KeepsLines (unit : UnitId) (session : ℕ) (next : Ahead) (current : ℕ) (taking up : Bool) (credits : Credits) (grants : List Grant) (ended : Bool) (judged : List Judged) : Type 0 where
  pub causes : HasCauses unit next.taken judged grants
  -- nothing is of a later session
  pub begun : All (λ j. j.receipt.session ≤ session) judged
  pub risen : (q : ℕ) → session < q → of_session q next.taken ≡ []
  pub later : (q : ℕ) → session < q → filter (is_line unit q) grants ≡ []
  -- the present session ended for no cause, but where nothing more is taken in it
  pub over : All (λ j. j.fate ≡ ends_it → j.receipt.session ≡ session → ended ≡ true) judged
  pub going : ended ≡ false → filter (is_closing unit session) grants ≡ []
  -- each session that is over ended for a cause, and a line says so
  pub closed : (q : ℕ) → 1 ≤ q → IsPast session ended q → EndedFor unit q grants
  -- at most the entry that is judged next was taken behind those that are judged
  pub upto : next.number ≤ length (of_session session next.taken)
  pub near : length (of_session session next.taken) ≤ next.number + 1
  pub unheard : ended ≡ false → up ≡ false → heard (take next.number (of_session session next.taken)) ≡ false
  pub on : 1 ≤ current → IsLastGrant unit session current credits.granted grants
  pub off : taking ≡ false → TakesNone unit session judged grants
  pub counted : 1 ≤ current → credits.outstanding ≤ length (accepted current judged)

-- The row in service, if there is one, is of the unit and under the login that is on, and has no answer yet.
pub record IsOpenRow (unit : UnitId) (current : ℕ) (rows : List RowKey) (place : ℕ) : Type 0 where
  pub row : RowKey
  pub there : slice_get rows place ≡ Some row
  pub unit_is : row.unit ≡ unit
  pub login_is : row.login ≡ current
  pub open_is : row.answered ≡ false

abbrev pub HasOpenRow : UnitId → (current : ℕ) → List RowKey → Stage → Type 0
HasOpenRow unit current rows stage = (place : ℕ) → row_in stage ≡ Some place → IsOpenRow unit current rows place

-- A line says that a login had more outstanding than it grants: as many of its commands and tasks as it grants had no answer.
abbrev pub HasLimit : UnitId → List RowKey → List Judged → Grant → Type 0
HasLimit unit rows judged (Granted of session login number credits) = ⊤
HasLimit unit rows judged (Lapsed of session login lapses.OverLimit outstanding granted) =
    same_unit of unit ≡ true → (1 ≤ login) × (granted + answered_under unit login rows ≡ length (accepted login judged))
HasLimit unit rows judged (Lapsed of session login cause outstanding granted) = ⊤

-- A logout is pending.
pub record HasLogout (pending : List Request) : Type 0 where
  pub before : List Request
  pub request : Request
  pub after : List Request
  pub parts : pending ≡ before ++ request ∷ after
  pub asks : request.order ≡ orders.Logout

-- What is outstanding under the login that is on, at most as much as it grants, and was under those that ended as over limit: the
-- commands and tasks that were accepted and have no answer. And while the login that is on takes none, its logout is pending.
pub record AreCounted (books : Books) (judged : List Judged) : Type 0 where
  pub row : HasOpenRow books.id books.current books.rows books.stage
  pub exact : 1 ≤ books.current → books.credits.outstanding + answered_under books.id books.current books.rows ≡ length (accepted books.current judged)
  pub most : 1 ≤ books.current → books.credits.outstanding ≤ books.credits.granted
  pub limits : All (HasLimit books.id books.rows judged) books.grants
  pub asked_out : 1 ≤ books.current → books.taking ≡ false → HasLogout books.pending
  -- nothing was accepted under a login that is still to come
  pub none_later : (login : ℕ) → books.last < login → accepted login judged ≡ []

-- What a unit's books say, with the entries that were judged.
pub record AreKept (books : Books) (judged : List Judged) : Type 0 where
  pub fates : All (λ j. HasFate books.id books.grants j.receipt j.fate) judged
  pub served : AreServed books.id books.session judged books.rows books.grants books.stage books.pending
  pub logins : KeepsLogins books.id books.session books.next.number books.current books.last books.taking books.grants
  pub pending : ArePending books.current books.next.number books.taking books.pending
  pub stage : IsAtStage books.current books.pending books.stage
  pub kept : IsKeptAt books.stage books.kept
  -- no row is of no login
  pub under : All (λ row. same_unit row.unit books.id ≡ true → 1 ≤ row.login) books.rows
  pub lines : KeepsLines books.id books.session books.next books.current books.taking books.up books.credits books.grants books.ended judged
  pub idle : books.ended ≡ true → (books.pending ≡ []) × (books.current ≡ 0)
  pub counted : AreCounted books judged
  pub numbers : KeepsNumbers books.id books.session books.current books.last books.grants
  pub rising : KeepsRising books.id books.session books.next.number books.pending books.grants
  pub rows : KeepsRowsRising books.id books.session books.next.number (due (has_row books.stage) books.pending) books.rows

-- What a part of a turn that judges no entry leaves.
abbrev pub Keeps : (books books' : Books) → Type 0
Keeps books books' = (judged : List Judged) → AreKept books judged → AreKept books' judged

-- The request is the oldest that is pending, and no entry is kept.
pub record IsFor (books : Books) (id : UnitId) (session : ℕ) (request : Request) : Type 0 where
  pub id_is : books.id ≡ id
  pub session_is : books.session ≡ session
  pub rest : List Request
  pub front : books.pending ≡ request ∷ rest
  pub none : books.kept ≡ None

-- the books of a unit while its service is apart from it
abbrev pub in_service : Books → Stage → List ServedRow → Books
in_service books stage rows = record books { stage = stage; rows = keys_of rows }

-- What a part of the service of the oldest request leaves.
abbrev pub ServesOne : UnitId → (session : ℕ) → Request → (stage stage' : Stage) → (rows rows' : List ServedRow) → Type 0
ServesOne id session request stage stage' rows rows' =
    (books : Books) → IsFor books id session request → Keeps (in_service books stage rows) (in_service books stage' rows')
