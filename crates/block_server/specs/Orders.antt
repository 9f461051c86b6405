-- What a request asks, by what its bytes spell.
use Rattle.std.specs.Prelude.{◌≡◌, ⊤, ℕ, List}
use Rattle.std.proofs.Props.{props}
use Rattle.srp_iu.specs.declared.buffer.Buffer.{Buffer}
use Rattle.srp_iu.specs.declared.buffer.Buffer.TheVariants.{Absent, Direct, Indirect}
use Rattle.srp_iu.specs.declared.unit.Iu.{Iu}
use Rattle.srp_iu.specs.declared.unit.Iu.TheVariants as units
use Rattle.srp_iu.specs.Buffer.{SpellsBuffer}
use Rattle.srp_iu.specs.Grammar.{Spells}
use Rattle.srp_iu.specs.declared.response_code.ResponseCode.{ResponseCode}
use Rattle.srp_iu.specs.declared.response_code.ResponseCode.TheVariants.{FieldsInvalid}
use Rattle.block_server.specs.Causes.{Hearing, TurnsDown}
use Rattle.block_server.specs.Responses.{task_code}
use Rattle.block_server.specs.declared.request.Order.{Order}
use Rattle.block_server.specs.declared.request.Order.TheVariants as orders

abbrev pub IsOrder : Order → List ℕ → Type 0
IsOrder (orders.Login request) bytes = Spells bytes (units.LoginReq request)
IsOrder orders.Logout bytes = ⊤
IsOrder (orders.Task task) bytes = Spells bytes (units.TskMgmt task)
IsOrder (orders.Command command) bytes = Spells bytes (units.Cmd command)
IsOrder orders.Unreadable bytes = (iu : Iu) → ¬ Spells bytes iu

-- That bytes begin with a buffer has one proof at most, and so has what a request asks.
SpellsBuffer-prop : (format count : ℕ) (bytes : List ℕ) (buffer : Buffer) → IsProp (SpellsBuffer format count bytes buffer)
SpellsBuffer-prop format count bytes Absent = Prim.hlevel props
SpellsBuffer-prop format count bytes (Direct desc) = Prim.hlevel props
SpellsBuffer-prop format count bytes (Indirect table total list) = Prim.hlevel props

pub IsOrder-prop : (order : Order) (bytes : List ℕ) → IsProp (IsOrder order bytes)
IsOrder-prop (orders.Login request) bytes = Prim.hlevel props
IsOrder-prop orders.Logout bytes = Prim.hlevel props
IsOrder-prop (orders.Task task) bytes = Prim.hlevel props
IsOrder-prop (orders.Command command) bytes = Prim.hlevel (props, SpellsBuffer-prop)
IsOrder-prop orders.Unreadable bytes = Prim.hlevel props

-- The code answers what a request asks without a disk step.
abbrev pub IsCodeOf : Order → ResponseCode → Type 0
IsCodeOf (orders.Task task) code = code ≡ task_code task
IsCodeOf (orders.Command command) code = code ≡ FieldsInvalid
IsCodeOf orders.Unreadable code = code ≡ FieldsInvalid
IsCodeOf _ code = ⊥

-- where a command is answered without a disk step, it is refused
abbrev pub IsCauseOf : Hearing → Order → Type 0
IsCauseOf Hears (orders.Command command) = TurnsDown Hears command
IsCauseOf Hears _ = ⊤
