-- A unit takes its queue for registered exactly where it is.
use Rattle.std.proofs.Common.{◌≡◌, ◌≢◌, ◌==◌, ◌||◌, ◌++◌, ℕ, zero, suc, Bool, true, false, cond, List, [], ◌∷◌, Option, Some, None, Result, Ok, Err, IfOk, IfSome, slice_get, slice_set, refl, sym, ◌∙◌, subst}
use Rattle.vio_num.specs.declared.entry.Entry.{Entry}
use Rattle.vio_num.specs.declared.entry.Kind.{Kind}
use Rattle.vio_num.specs.declared.entry.Kind.TheVariants as kinds
use Rattle.vio_num.specs.declared.hypervisor.Moved.{Moved}
use Rattle.vio_num.specs.declared.hypervisor.Moved.TheVariants.{Quiet}
use Rattle.vio_num.specs.declared.memory.NoMemory.{NoMemory}
use Rattle.vio_num.specs.Entry.{entry_format, first_byte, kind_of}
use Rattle.crq_session.specs.declared.handshake.Handshake.{Handshake}
use Rattle.crq_session.specs.declared.handshake.Handshake.TheVariants.{Down, Up, Waiting}
use Rattle.crq_session.specs.Handshake.{state_after, state_by}
use Rattle.crq_session.specs.EndState.{EndState}
use Rattle.block_server.specs.declared.unit.Unit.{Unit}
use Rattle.block_server.specs.Ready.{Agrees, AgreesAt, AreDown}
use Rattle.block_server.specs.Waits.{StaysAgreed}
use Rattle.block_server.proofs.Units.{get_set_same}

-- neither the unit's view nor the registration changed
pub agrees_same : (h h' : Handshake) (queue queue' : EndState) → h' ≡ h → queue'.registered ≡ queue.registered → Agrees h queue → Agrees h' queue'
agrees_same h h' queue queue' same still is = record {
  down = λ down. still ∙ is.down (sym same ∙ down);
  on = λ up. still ∙ is.on (λ down. up (same ∙ down));
}

pub agrees_on : (A B C : Type 0) → (A → B) → (B → C) → A → C
agrees_on A B C first next is = next (first is)

pub is_down : (h : Handshake) (queue : EndState) → h ≡ Down → queue.registered ≡ false → Agrees h queue
is_down h queue down free = record { down = λ is. free; on = λ up. absurd (up down) }

pub is_waiting : (h : Handshake) (queue : EndState) → h ≡ Waiting → queue.registered ≡ true → Agrees h queue
is_waiting h queue waiting on = record { down = λ down. absurd (cc (waiting, down)); on = λ up. on }

-- an entry that comes leads neither from nor to a queue that is not registered
if_up : (t : Bool) → cond t Up Waiting ≢ Down
if_up true same = cc (same)
if_up false same = cc (same)

by_down : (h : Handshake) (kind : Kind) (byte : ℕ) → state_by h kind byte ≡ Down → h ≡ Down
by_down Down kind byte is = refl
by_down Waiting kinds.Init byte is = absurd (if_up (byte == 0x01 || byte == 0x02) is)
by_down Waiting kinds.Unused byte is = is
by_down Waiting kinds.Command byte is = is
by_down Waiting kinds.Event byte is = is
by_down Waiting kinds.Reserved byte is = is
by_down Up kinds.Event byte is = cc (is)
by_down Up kinds.Unused byte is = is
by_down Up kinds.Command byte is = is
by_down Up kinds.Init byte is = is
by_down Up kinds.Reserved byte is = is

down_by : (h : Handshake) (kind : Kind) (byte : ℕ) → h ≡ Down → state_by h kind byte ≡ Down
down_by Down kind byte is = refl
down_by Waiting kind byte is = cc (is)
down_by Up kind byte is = cc (is)

pub agrees_got : (h h' : Handshake) (entry : Entry) (queue queue' : EndState) → h' ≡ state_after h entry → queue'.registered ≡ queue.registered
    → Agrees h queue → Agrees h' queue'
agrees_got h h' entry queue queue' got still is = record {
  down = λ down. still ∙ is.down (by_down h (kind_of (first_byte entry)) (entry_format entry) (sym got ∙ down));
  on = λ up. still ∙ is.on (λ down. up (got ∙ down_by h (kind_of (first_byte entry)) (entry_format entry) down));
}

-- no unit, and one more that takes its queue for unregistered
pub none_down : (units : List Unit) → units ≡ [] → AreDown units
none_down units none = subst AreDown (sym none) (λ number. tt)

more_at : (units : List Unit) (unit : Unit) → unit.line.handshake ≡ Down → (number : ℕ)
    → IfSome (slice_get units number) (λ u. u.line.handshake ≡ Down) → IfSome (slice_get (units ++ unit ∷ []) number) (λ u. u.line.handshake ≡ Down)
more_at [] unit down zero is = down
more_at [] unit down (suc number) is = tt
more_at (first ∷ units) unit down zero is = is
more_at (first ∷ units) unit down (suc number) is = more_at units unit down number is

pub more_down : (units : List Unit) (unit : Unit) → AreDown units → unit.line.handshake ≡ Down → AreDown (units ++ unit ∷ [])
more_down units unit all down number = more_at units unit down number (all number)

-- of the unit that took its turn
pub some_at : (o : Option Unit) (unit : Unit) (P : Unit → Type 0) → o ≡ Some unit → IfSome o P → P unit
some_at (Some other) unit P same is = subst P (some_same other unit same) is
  where
    some_same : (a b : Unit) → Some a ≡ Some b → a ≡ b
    some_same a b e = cc (e)
some_at None unit P same is = cc (same)

pub if_at : (o : Option Unit) (unit : Unit) (P : Unit → Type 0) → o ≡ Some unit → P unit → IfSome o P
if_at o unit P same is = subst (λ (o : Option Unit). IfSome o P) (sym same) is

pub agrees_turn : (units : List Unit) (n : ℕ) (unit unit' : Unit) (queue queue' : EndState) → slice_get units n ≡ Some unit
    → StaysAgreed unit unit' queue queue' → AgreesAt units n queue → AgreesAt (slice_set units n unit') n queue'
agrees_turn units n unit unit' queue queue' there stays is =
    if_at (slice_get (slice_set units n unit') n) unit' (λ u. Agrees u.line.handshake queue') (get_set_same units n unit unit' there)
    (stays (some_at (slice_get units n) unit (λ u. Agrees u.line.handshake queue) there is))

pub waits_turn : (result : Result Moved NoMemory) (units : List Unit) (n : ℕ) (unit unit' : Unit) (queue : EndState) (P : Unit → Type 0)
    → slice_get units n ≡ Some unit → IfOk result (λ moved. moved ≡ Quiet → Agrees unit.line.handshake queue → P unit')
    → IfOk result (λ moved. moved ≡ Quiet → AgreesAt units n queue → IfSome (slice_get (slice_set units n unit') n) P)
waits_turn (Ok answer) units n unit unit' queue P there waits = λ quiet is.
    if_at (slice_get (slice_set units n unit') n) unit' P (get_set_same units n unit unit' there)
    (waits quiet (some_at (slice_get units n) unit (λ u. Agrees u.line.handshake queue) there is))
waits_turn (Err memory) units n unit unit' queue P there waits = tt
