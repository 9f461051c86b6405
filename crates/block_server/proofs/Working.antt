-- What the parts of a request's service leave of its unit's books.
use Rattle.block_server.specs.Answering.{has_bytes}
use Rattle.std.proofs.Common.{◌≡◌, ◌++◌, ℕ, true, false, List, [], ◌∷◌, None, refl, sym, ◌∙◌, ap, subst, Some, length}
use Rattle.std.proofs.lemmas.List.{map-append, length-map}
use Rattle.vio_num.specs.declared.history.Served.{Served}
use Rattle.vio_num.specs.declared.names.UnitId.{UnitId}
use Rattle.block_server.specs.Judged.{AreKept, Books, HasCommandFront, HasFront, IsAtStage, IsOutcome, Keeps, RowKey, ServesOne, gets_row, has_row, in_service, is_command, is_login, keys_of, row_in, row_key}
use Rattle.block_server.specs.Stage.{is_answered, is_before_step}
use Rattle.block_server.specs.declared.request.Order.{Order}
use Rattle.block_server.specs.declared.request.Order.TheVariants as orders
use Rattle.block_server.specs.declared.request.Request.{Request}
use Rattle.block_server.specs.declared.service.Outcome.{Outcome}
use Rattle.block_server.specs.declared.service.Outcome.TheVariants as outcomes
use Rattle.block_server.specs.declared.service.Stage.{Stage}
use Rattle.block_server.specs.declared.service.Stage.TheVariants as stages
use Rattle.block_server.proofs.Keeping.{keeps_row, keeps_stage}

pub command_row : (order : Order) → is_command order ≡ true → gets_row order ≡ true
command_row (orders.Login request) is = absurd (cc (is))
command_row orders.Logout is = absurd (cc (is))
command_row (orders.Task task) is = absurd (cc (is))
command_row (orders.Command command) is = refl
command_row orders.Unreadable is = absurd (cc (is))

pub login_no_command : (order : Order) → is_login order ≡ true → is_command order ≡ false
login_no_command (orders.Login request) is = refl
login_no_command orders.Logout is = absurd (cc (is))
login_no_command (orders.Task task) is = absurd (cc (is))
login_no_command (orders.Command command) is = absurd (cc (is))
login_no_command orders.Unreadable is = absurd (cc (is))

pub before_no_row : (stage : Stage) → is_before_step stage ≡ true → has_row stage ≡ false
before_no_row stages.Start is = refl
before_no_row stages.OutTable is = refl
before_no_row stages.InTable is = refl
before_no_row (stages.DataOut cursor) is = refl
before_no_row (stages.Given row reply) is = absurd (cc (is))
before_no_row (stages.DataIn row reply cursor) is = absurd (cc (is))
before_no_row (stages.Answer outcome) is = absurd (cc (is))
before_no_row (stages.Entry outcome) is = absurd (cc (is))

at_before : (current : ℕ) (pending : List Request) (stage : Stage) → is_before_step stage ≡ true → IsAtStage current pending stage
at_before current pending stages.Start is = tt
at_before current pending stages.OutTable is = tt
at_before current pending stages.InTable is = tt
at_before current pending (stages.DataOut cursor) is = tt
at_before current pending (stages.Given row reply) is = absurd (cc (is))
at_before current pending (stages.DataIn row reply cursor) is = absurd (cc (is))
at_before current pending (stages.Answer outcome) is = absurd (cc (is))
at_before current pending (stages.Entry outcome) is = absurd (cc (is))

same_front : (a b : Request) (xs ys : List Request) → a ∷ xs ≡ b ∷ ys → a ≡ b
same_front a b xs ys e = cc (e)

other_front : (pending : List Request) (request : Request) (rest : List Request) → HasCommandFront pending → pending ≡ request ∷ rest → is_command request.order ≡ false → ⊥
other_front pending request rest at parts none =
    absurd (cc (at.asks, none, ap (λ (r : Request). is_command r.order) (same_front at.front request at.rest rest (sym at.parts ∙ parts))))

-- Only a command has data-in on their way.
pub no_row_at : (current : ℕ) (pending : List Request) (stage : Stage) (request : Request) (rest : List Request) → pending ≡ request ∷ rest → is_command request.order ≡ false
    → is_answered stage ≡ false → IsAtStage current pending stage → has_row stage ≡ false
no_row_at current pending stages.Start request rest parts none before at = refl
no_row_at current pending stages.OutTable request rest parts none before at = refl
no_row_at current pending stages.InTable request rest parts none before at = refl
no_row_at current pending (stages.DataOut cursor) request rest parts none before at = refl
no_row_at current pending (stages.Given row reply) request rest parts none before at = absurd (other_front pending request rest at parts none)
no_row_at current pending (stages.DataIn row reply cursor) request rest parts none before at = absurd (other_front pending request rest at parts none)
no_row_at current pending (stages.Answer outcome) request rest parts none before at = absurd (cc (before))
no_row_at current pending (stages.Entry outcome) request rest parts none before at = absurd (cc (before))

no_place : (stage : Stage) → has_row stage ≡ false → row_in stage ≡ None
no_place stages.Start none = refl
no_place stages.OutTable none = refl
no_place stages.InTable none = refl
no_place (stages.DataOut cursor) none = refl
no_place (stages.Given row reply) none = absurd (cc (none))
no_place (stages.DataIn row reply cursor) none = absurd (cc (none))
no_place (stages.Answer (outcomes.Granted number)) none = refl
no_place (stages.Answer outcomes.Rejected) none = refl
no_place (stages.Answer (outcomes.Served row)) none = absurd (cc (none))
no_place (stages.Entry (outcomes.Granted number)) none = refl
no_place (stages.Entry outcomes.Rejected) none = refl
no_place (stages.Entry (outcomes.Served row)) none = absurd (cc (none))

-- One part behind another.
pub one_on : (id : UnitId) (session session' : ℕ) (request : Request) (a b c : Stage) (rows rows' rows'' : List Served) → session' ≡ session
    → ServesOne id session request a b rows rows' → ServesOne id session' request b c rows' rows'' → ServesOne id session request a c rows rows''
one_on id session session' request a b c rows rows' rows'' same first next = λ books for judged is.
    next books (record { id_is = for.id_is; session_is = for.session_is ∙ sym same; rest = for.rest; front = for.front; none = for.none }) judged (first books for judged is)

-- Nothing was done.
pub one_same : (id : UnitId) (session : ℕ) (request : Request) (stage stage' : Stage) (rows rows' : List Served) → stage' ≡ stage → keys_of rows' ≡ keys_of rows
    → ServesOne id session request stage stage' rows rows'
one_same id session request stage stage' rows rows' same keys = λ books for judged is.
    subst (λ (z : Stage × List RowKey). AreKept (record books { stage = z.0; rows = z.1 }) judged) (λ i. ((sym same) i, (sym keys) i)) is

-- The service comes to another stage.
pub one_to : (id : UnitId) (session : ℕ) (request : Request) (stage stage' : Stage) (rows : List Served) → has_row stage' ≡ has_row stage → row_in stage' ≡ row_in stage
    → ((current : ℕ) → (pending : List Request) → IsAtStage current pending stage → IsAtStage current pending stage') → ServesOne id session request stage stage' rows rows
one_to id session request stage stage' rows same placed at = λ books for judged is.
    keeps_stage (in_service books stage rows) stage' judged same placed (at books.current books.pending is.stage) for.none is

pub one_before : (id : UnitId) (session : ℕ) (request : Request) (stage stage' : Stage) (rows : List Served) → is_before_step stage ≡ true → is_before_step stage' ≡ true
    → ServesOne id session request stage stage' rows rows
one_before id session request stage stage' rows before before' =
    one_to id session request stage stage' rows (before_no_row stage' before' ∙ sym (before_no_row stage before))
    (no_place stage' (before_no_row stage' before') ∙ sym (no_place stage (before_no_row stage before))) (λ current pending at. at_before current pending stage' before')

-- The data-in of a command are on their way, and then it is answered.
pub one_given : (id : UnitId) (session : ℕ) (request : Request) (stage stage' : Stage) (rows : List Served) (given given' : Stage) → stage ≡ given → stage' ≡ given' → has_row given' ≡ has_row given → row_in given' ≡ row_in given
    → ((current : ℕ) → (pending : List Request) → IsAtStage current pending given → IsAtStage current pending given') → ServesOne id session request stage stage' rows rows
one_given id session request stage stage' rows given given' was is same placed at =
    one_to id session request stage stage' rows (ap has_row is ∙ same ∙ sym (ap has_row was)) (ap row_in is ∙ placed ∙ sym (ap row_in was))
    (λ current pending before. subst (IsAtStage current pending) (sym is) (at current pending (subst (IsAtStage current pending) was before)))

pub front_answered : (current row : ℕ) (pending : List Request) → HasCommandFront pending → HasFront pending
front_answered current row pending is = record { front = is.front; rest = is.rest; parts = is.parts; gets = command_row is.front.order is.asks }

-- It gets its row.
pub one_row : (id : UnitId) (session : ℕ) (request : Request) (stage stage' : Stage) (rows rows' : List Served) (row : Served) → has_row stage ≡ false → has_row stage' ≡ true → row_in stage' ≡ Some (length rows) → row.answer ≡ []
    → ((current : ℕ) → (pending rest : List Request) → pending ≡ request ∷ rest → IsAtStage current pending stage') → gets_row request.order ≡ true
    → rows' ≡ rows ++ row ∷ [] → row.unit ≡ id → row.session ≡ session → row.login ≡ request.login → row.number ≡ request.number → row.iu ≡ request.unit.items
    → ServesOne id session request stage stage' rows rows'
one_row id session request stage stage' rows rows' row before after placed empty at gets added unit in_session login number iu = λ books for judged is.
    let made : keys_of rows' ≡ keys_of rows ++ record { unit = books.id; login = request.login; key = record { session = books.session; number = request.number; bytes = request.unit.items }; answered = false } ∷ [] =
    ap keys_of added ∙ map-append row_key rows (row ∷ [])
    ∙ (λ i. keys_of rows ++ record {
      unit = (unit ∙ sym for.id_is) i;
      login = login i;
      key = record { session = (in_session ∙ sym for.session_is) i; number = number i; bytes = iu i };
      answered = has_bytes (empty i);
    } ∷ []) in
    subst (λ (keys : List RowKey). AreKept (record books { stage = stage'; rows = keys }) judged) (sym made)
    (keeps_row (in_service books stage rows) stage' request for.rest judged for.front before after (placed ∙ ap Some (sym (length-map rows row_key))) gets (at books.current books.pending for.rest for.front) for.none is)

-- A login is judged.
pub login_one : (books : Books) (stage stage' : Stage) (rows : List Served) (front : Request) (rest : List Request) (outcome : Outcome) → books.pending ≡ front ∷ rest → is_login front.order ≡ true
    → is_answered stage ≡ false → books.kept ≡ None → stage' ≡ stages.Answer outcome → has_row (stages.Answer outcome) ≡ false → IsOutcome books.current books.pending outcome
    → Keeps (in_service books stage rows) (in_service books stage' rows)
login_one books stage stage' rows front rest outcome parts asks before none answered no_row at = λ judged is.
    keeps_stage (in_service books stage rows) stage' judged
    (ap has_row answered ∙ no_row ∙ sym (no_row_at books.current books.pending stage front rest parts (login_no_command front.order asks) before is.stage))
    (ap row_in answered ∙ no_place (stages.Answer outcome) no_row
    ∙ sym (no_place stage (no_row_at books.current books.pending stage front rest parts (login_no_command front.order asks) before is.stage)))
    (subst (IsAtStage books.current books.pending) (sym answered) at) none is
