-- What a turn of a server unit says of its small steps, and of what it hears, where it ends well.
use Rattle.std.proofs.Common.{◌≡◌, false, ℕ, Some, IfOk, OnOk, Result, Ok, Err, slice_get}
use Rattle.vio_num.specs.declared.names.UnitId.{UnitId}
use Rattle.crq_session.specs.EndState.{EndState}
use Rattle.tce_window.specs.PortState.{PortState}
use Rattle.block_server.specs.Doings.{IsAtRest, UnitDoes, doing_at}
use Rattle.block_server.specs.HeardOut.{MayHear, UnitHearsOut}
use Rattle.block_server.specs.Ready.{AgreesAt}
use Rattle.block_server.specs.declared.unit.Unit.{Unit}
use Rattle.vcpu_run.specs.OwnDoing.{DoesAt, HeardAt}
use Rattle.vcpu_run.specs.PlainPairs.{ServerBooks}

pub does_ok : {T E : Type 0} (r : Result T E) (name : UnitId) (books books' : ServerBooks) (k : ℕ) (before after : EndState) (window window' : PortState)
    → ((u : Unit) → slice_get books.units k ≡ Some u → IsAtRest (doing_at u name before window books.rows books.lines)
    → OnOk r (UnitDoes books'.units k u name before after window window' books.rows books'.rows books.lines books'.lines))
    → (AgreesAt books.units k before → AgreesAt books'.units k after) → OnOk r (DoesAt name books books' k before after window window')
does_ok (Ok x) name books books' k before after window window' does agrees = record { does = does; agrees = agrees }
does_ok (Err e) name books books' k before after window window' does agrees = tt

pub heard_ok : {T E : Type 0} (r : Result T E) (books books' : ServerBooks) (k : ℕ) (before after : EndState)
    → ((u : Unit) → slice_get books.units k ≡ Some u → MayHear u before false → OnOk r (UnitHearsOut books'.units k u false before after)) → OnOk r (HeardAt books books' k before after)
heard_ok (Ok x) books books' k before after heard = record { heard = heard }
heard_ok (Err e) books books' k before after heard = tt

-- a clause of a call that ends well, and one that says of its answer
pub ok_if : {T E : Type 0} (r : Result T E) (A : Type 0) (B : T → Type 0) (C : Type 0) → ((x : T) → A → B x → C) → OnOk r A → IfOk r B → OnOk r C
ok_if (Ok x) A B C step a b = step x a b
ok_if (Err e) A B C step a b = tt

-- the same, with two that say of its answer, and of which one follows
pub if_two : {T E : Type 0} (r : Result T E) (A : Type 0) (P Q R : T → Type 0) → ((x : T) → A → P x → Q x → R x) → OnOk r A → IfOk r P → IfOk r Q → IfOk r R
if_two (Ok x) A P Q R step a p q = step x a p q
if_two (Err e) A P Q R step a p q = tt
