-- The row in service: it comes behind the others, and is the last one, whatever it is given.
use Rattle.std.proofs.Common.{◌≡◌, ◌⊎◌, inl, inr, ◌++◌, ℕ, true, false, List, [], ◌∷◌, Option, Some, None, Result, Ok, Err, OnOk, length, slice_get, slice_set, refl, sym, ◌∙◌, ap, subst}
use Rattle.vio_num.specs.declared.history.Served.{Served as ServedRow}
use Rattle.vio_num.specs.declared.memory.NoMemory.{NoMemory}
use Rattle.vio_num.specs.declared.names.UnitId.{UnitId}
use Rattle.srp_iu.specs.Layout.{field}
use Rattle.block_server.specs.Judged.{gets_row, row_in}
use Rattle.block_server.specs.Records.{AddsRow, AnswersRow, FillsRow}
use Rattle.block_server.specs.RowsOn.{AddsFor, HasLastRow, KeepsIdleRows, KeepsLastRow}
use Rattle.block_server.specs.Serving.{LeavesRow, SettlesRow}
use Rattle.block_server.specs.SiteState.{SiteState}
use Rattle.block_server.specs.Stage.{is_answered, is_before_step}
use Rattle.block_server.specs.Talk.{Suits, SuitsStage}
use Rattle.block_server.specs.Waits.{MeetsUse}
use Rattle.block_server.specs.declared.records.Records.{Records}
use Rattle.block_server.specs.declared.request.Order.{Order}
use Rattle.block_server.specs.declared.request.Order.TheVariants as orders
use Rattle.block_server.specs.declared.request.Request.{Request}
use Rattle.block_server.specs.declared.service.Outcome.{Outcome}
use Rattle.block_server.specs.declared.service.Outcome.TheVariants as outcomes
use Rattle.block_server.specs.declared.service.Stage.{Stage}
use Rattle.block_server.specs.declared.service.Stage.TheVariants as stages
use Rattle.block_server.proofs.Talking.{not_in_use}

-- THE LAST ROW -----------------------------------------------------------------------------------

pub last_there : (rows : List ServedRow) (row : ServedRow) → slice_get (rows ++ row ∷ []) (length rows) ≡ Some row
last_there [] row = refl
last_there (first ∷ rows) row = last_there rows row

set_last : (rows : List ServedRow) (row new : ServedRow) → slice_set (rows ++ row ∷ []) (length rows) new ≡ rows ++ new ∷ []
set_last [] row new = refl
set_last (first ∷ rows) row new = ap (λ (list : List ServedRow). first ∷ list) (set_last rows row new)

-- it is given data-in, or its answer
pub filled_last : (place : ℕ) (rows rows' : List ServedRow) (inn : List ℕ) → FillsRow rows rows' place inn → KeepsLastRow (Some place) rows rows'
filled_last place rows rows' inn fills unit request before is = record {
  place_is = is.place_is;
  row = record is.row { inn = inn };
  added = fills is.row ((λ i. slice_get (is.added i) (is.place_is i)) ∙ last_there before is.row)
      ∙ (λ i. slice_set (is.added i) (is.place_is i) (record is.row { inn = inn }))
      ∙ set_last before is.row (record is.row { inn = inn });
  unit_is = is.unit_is;
  iu_is = is.iu_is;
}

answered_last : (place : ℕ) (rows rows' : List ServedRow) (answer : List ℕ) → AnswersRow rows rows' place answer → KeepsLastRow (Some place) rows rows'
answered_last place rows rows' answer answers unit request before is = record {
  place_is = is.place_is;
  row = record is.row { answer = answer };
  added = answers is.row ((λ i. slice_get (is.added i) (is.place_is i)) ∙ last_there before is.row)
      ∙ (λ i. slice_set (is.added i) (is.place_is i) (record is.row { answer = answer }))
      ∙ set_last before is.row (record is.row { answer = answer });
  unit_is = is.unit_is;
  iu_is = is.iu_is;
}

pub last_same : (place : Option ℕ) (rows rows' : List ServedRow) → rows' ≡ rows → KeepsLastRow place rows rows'
last_same place rows rows' same unit request before is = subst (λ (list : List ServedRow). HasLastRow unit request before place list) (sym same) is

pub last_on : (place : Option ℕ) (a b c : List ServedRow) → KeepsLastRow place a b → KeepsLastRow place b c → KeepsLastRow place a c
last_on place a b c first next unit request before is = next unit request before (first unit request before is)

-- where the row is at the same place
pub last_at : (place place' : Option ℕ) (rows rows' : List ServedRow) → place ≡ place' → KeepsLastRow place rows rows' → KeepsLastRow place' rows rows'
last_at place place' rows rows' same is = subst (λ (p : Option ℕ). KeepsLastRow p rows rows') same is

pub settled_last : (outcome : Outcome) (answer : List ℕ) (rows rows' : List ServedRow) → SettlesRow outcome answer rows rows' → KeepsLastRow (row_in (stages.Entry outcome)) rows rows'
settled_last (outcomes.Granted number) answer rows rows' is = last_same None rows rows' is
settled_last outcomes.Rejected answer rows rows' is = last_same None rows rows' is
settled_last (outcomes.Served row) answer rows rows' is = answered_last row rows rows' answer is

-- HOW IT COMES -----------------------------------------------------------------------------------

pub none_added : (unit : UnitId) (request : Request) (rows : List ServedRow) (place : Option ℕ) → place ≡ None → HasLastRow unit request rows place rows
none_added unit request rows place none = subst (λ (p : Option ℕ). HasLastRow unit request rows p rows) (sym none) refl

pub coded_last : (unit : UnitId) (session : ℕ) (request : Request) (old new : Records) (stage : Stage) → AddsRow unit session request old new → stage ≡ stages.Answer (outcomes.Served (length old.history.items))
    → HasLastRow unit request old.history.items (row_in stage) new.history.items
coded_last unit session request old new stage adds at = subst (λ (s : Stage). HasLastRow unit request old.history.items (row_in s) new.history.items) (sym at) (record {
  place_is = refl;
  row = adds.row;
  added = adds.history;
  unit_is = adds.blank.unit_is;
  iu_is = adds.blank.iu;
})

pub any_added : {A : Type 0} (unit : UnitId) (request : Request) (rows : List ServedRow) (place : Option ℕ) (result : Result A NoMemory) → place ≡ None → OnOk result (HasLastRow unit request rows place rows)
any_added unit request rows place (Err memory) none = tt
any_added unit request rows place (Ok done) none = none_added unit request rows place none

-- before its disk step a command has none
pub none_before : (stage : Stage) → is_before_step stage ≡ true → row_in stage ≡ None
none_before stages.Start before = refl
none_before stages.OutTable before = refl
none_before stages.InTable before = refl
none_before (stages.DataOut cursor) before = refl
none_before (stages.Given row reply) before = absurd (cc (before))
none_before (stages.DataIn row reply cursor) before = absurd (cc (before))
none_before (stages.Answer outcome) before = absurd (cc (before))
none_before (stages.Entry outcome) before = absurd (cc (before))

-- the parts of a command's service, one behind the other
pub served_last : {A : Type 0} (unit : UnitId) (request : Request) (rows mid new : List ServedRow) (a b c : Option ℕ) (result : Result A NoMemory) → HasLastRow unit request rows a mid → b ≡ a → c ≡ b
    → KeepsLastRow b mid new → OnOk result (HasLastRow unit request rows c new)
served_last unit request rows mid new a b c (Err memory) has ab bc keeps = tt
served_last unit request rows mid new a b c (Ok done) has ab bc keeps =
    subst (λ (p : Option ℕ). HasLastRow unit request rows p new) (sym bc) (keeps unit request rows (subst (λ (p : Option ℕ). HasLastRow unit request rows p mid) (sym ab) has))

-- WHILE NOTHING IS IN SERVICE --------------------------------------------------------------------

leaves_none : (stage : Stage) (given : List ℕ) (rows rows' : List ServedRow) → stage ≡ stages.Start → LeavesRow stage given rows rows' → rows' ≡ rows
leaves_none stage given rows rows' start is = subst (λ (s : Stage). LeavesRow s given rows rows') start is

pub ended_idle : (old new : Stage) (given : List ℕ) (rows rows' : List ServedRow) → LeavesRow old given rows rows' → new ≡ stages.Start → KeepsIdleRows old new rows rows'
ended_idle old new given rows rows' leaves is start = (is, leaves_none old given rows rows' start leaves)

pub idle_same : (old new : Stage) (rows rows' : List ServedRow) → new ≡ old → rows' ≡ rows → KeepsIdleRows old new rows rows'
idle_same old new rows rows' stage same start = (stage ∙ start, same)

pub idle_then : (a b c : Stage) (rows mid new : List ServedRow) → KeepsIdleRows a b rows mid → KeepsIdleRows b c mid new → KeepsIdleRows a c rows new
idle_then a b c rows mid new first next start =
    let is = first start in
    let behind = next is.0 in
    (behind.0, behind.1 ∙ is.1)

-- an answer that is to be copied leaves none as its session ends
pub answer_none : (stage : Stage) (outcome : Outcome) (given : List ℕ) (rows rows' : List ServedRow) → stage ≡ stages.Answer outcome → LeavesRow stage given rows rows' → rows' ≡ rows
answer_none stage outcome given rows rows' at is = subst (λ (s : Stage). LeavesRow s given rows rows') at is

-- and the row in service is the same where its entry is due
pub row_same : (outcome : Outcome) (stage new : Stage) → stage ≡ stages.Answer outcome → new ≡ stages.Entry outcome → row_in new ≡ row_in stage
row_same outcome stage new at is = ap row_in is ∙ by outcome ∙ sym (ap row_in at)
  where
    by : (o : Outcome) → row_in (stages.Entry o) ≡ row_in (stages.Answer o)
    by (outcomes.Granted number) = refl
    by outcomes.Rejected = refl
    by (outcomes.Served row) = refl

-- THE OLDEST REQUEST -----------------------------------------------------------------------------

adds_one : (unit : UnitId) (request : Request) (rows new : List ServedRow) (place : ℕ) → gets_row request.order ≡ true → HasLastRow unit request rows (Some place) new → AddsFor unit request rows new
adds_one unit request rows new place gets has = inl (record {
  gets = gets;
  row = has.row;
  added = has.added;
  unit_is = has.unit_is;
  tag_is = ap (λ (bytes : List ℕ). field 8 8 bytes) has.iu_is ∙ sym request.tagged;
})

adds_suits : (current : ℕ) (unit : UnitId) (request : Request) (rows new : List ServedRow) (order : Order) (outcome : Outcome) → request.order ≡ order → Suits current order outcome
    → HasLastRow unit request rows (row_in (stages.Answer outcome)) new → AddsFor unit request rows new
adds_suits current unit request rows new (orders.Login login) (outcomes.Granted number) is suits has = inr (ap gets_row is, has)
adds_suits current unit request rows new (orders.Login login) outcomes.Rejected is suits has = inr (ap gets_row is, has)
adds_suits current unit request rows new (orders.Login login) (outcomes.Served row) is suits has = absurd suits
adds_suits current unit request rows new orders.Logout (outcomes.Granted number) is suits has = absurd suits
adds_suits current unit request rows new orders.Logout outcomes.Rejected is suits has = absurd suits
adds_suits current unit request rows new orders.Logout (outcomes.Served row) is suits has = absurd suits
adds_suits current unit request rows new (orders.Task task) (outcomes.Granted number) is suits has = absurd suits
adds_suits current unit request rows new (orders.Task task) outcomes.Rejected is suits has = absurd suits
adds_suits current unit request rows new (orders.Task task) (outcomes.Served row) is suits has = adds_one unit request rows new row (ap gets_row is) has
adds_suits current unit request rows new (orders.Command command) (outcomes.Granted number) is suits has = absurd suits
adds_suits current unit request rows new (orders.Command command) outcomes.Rejected is suits has = absurd suits
adds_suits current unit request rows new (orders.Command command) (outcomes.Served row) is suits has = adds_one unit request rows new row (ap gets_row is) has
adds_suits current unit request rows new orders.Unreadable (outcomes.Granted number) is suits has = absurd suits
adds_suits current unit request rows new orders.Unreadable outcomes.Rejected is suits has = absurd suits
adds_suits current unit request rows new orders.Unreadable (outcomes.Served row) is suits has = adds_one unit request rows new row (ap gets_row is) has

adds_at : (current : ℕ) (unit : UnitId) (request : Request) (rows new : List ServedRow) (stage : Stage) → is_answered stage ≡ true → SuitsStage current request.order stage
    → HasLastRow unit request rows (row_in stage) new → AddsFor unit request rows new
adds_at current unit request rows new (stages.Answer outcome) answered suits has = adds_suits current unit request rows new request.order outcome refl suits has
adds_at current unit request rows new (stages.Entry outcome) answered suits has =
    adds_suits current unit request rows new request.order outcome refl suits
    (subst (λ (p : Option ℕ). HasLastRow unit request rows p new) (row_same outcome (stages.Answer outcome) (stages.Entry outcome) refl refl) has)
adds_at current unit request rows new stages.Start answered suits has = absurd (cc (answered))
adds_at current unit request rows new stages.OutTable answered suits has = absurd (cc (answered))
adds_at current unit request rows new stages.InTable answered suits has = absurd (cc (answered))
adds_at current unit request rows new (stages.DataOut cursor) answered suits has = absurd (cc (answered))
adds_at current unit request rows new (stages.Given row reply) answered suits has = absurd (cc (answered))
adds_at current unit request rows new (stages.DataIn row reply cursor) answered suits has = absurd (cc (answered))

-- The oldest request was served: its row was added, if it gets one.
pub adds_first : {A : Type 0} (current : ℕ) (unit : UnitId) (found request : Request) (old mid : SiteState) (rows prepared new : List ServedRow) (stage stage' : Stage) (result : Result A NoMemory)
    → found ≡ request → old.shared ≡ false → (is_answered stage ≡ true) ⊎ MeetsUse old mid → SuitsStage current found.order stage → HasLastRow unit found rows (row_in stage) prepared → stage' ≡ stage
    → KeepsLastRow (row_in stage') prepared new → OnOk result (AddsFor unit request rows new)
adds_first current unit found request old mid rows prepared new stage stage' (Err memory) same apart went suits has at keeps = tt
adds_first current unit found request old mid rows prepared new stage stage' (Ok done) same apart (inr busy) suits has at keeps = absurd (not_in_use old mid apart busy)
adds_first current unit found request old mid rows prepared new stage stage' (Ok done) same apart (inl answered) suits has at keeps =
    subst (λ (r : Request). AddsFor unit r rows new) same
    (adds_at current unit found rows new stage answered suits (subst (λ (s : Stage). KeepsLastRow (row_in s) prepared new) at keeps unit found rows has))
