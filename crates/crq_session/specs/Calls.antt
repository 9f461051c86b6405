-- The calls of an end on its own side and its partner's, whatever the borrows and the side of the link.
use Rattle.std.specs.Prelude.{◌≡◌, ◌↔◌, ℕ, ◌<◌, ◌≤◌, true, false}
use Rattle.vio_num.specs.declared.entry.Entry.{Entry}
use Rattle.vio_num.specs.Entry.{first_byte}
use Rattle.crq_session.specs.declared.answers.RegAnswer.{RegAnswer}
use Rattle.crq_session.specs.declared.answers.RegAnswer.TheVariants as reg
use Rattle.crq_session.specs.declared.answers.FreeAnswer.{FreeAnswer}
use Rattle.crq_session.specs.declared.answers.FreeAnswer.TheVariants as freeing
use Rattle.crq_session.specs.declared.answers.SendAnswer.{SendAnswer}
use Rattle.crq_session.specs.declared.answers.SendAnswer.TheVariants as sending
use Rattle.crq_session.specs.declared.answers.PollAnswer.{PollAnswer}
use Rattle.crq_session.specs.declared.answers.PollAnswer.TheVariants as polling
use Rattle.crq_session.specs.declared.answers.EventAnswer.{EventAnswer}
use Rattle.crq_session.specs.declared.side.PlainSide.{PlainSide}
use Rattle.crq_session.specs.Answers.{OnOpened, OnBoth, IfAlone, IfHeldUp, OnNotRegistered}
use Rattle.crq_session.specs.Answers.{OnFreed, OnNotFreed, IfInUse, OnNothing, OnPut, IfKept}
use Rattle.crq_session.specs.Answers.{IfSent, OnNotSent, OnReached, IfClosed, IfDropped, IfGot, IfEmpty, OnNotPolled}
use Rattle.crq_session.specs.Answered.{MaySend, Sends, TurnsBack, FindsFull, Takes, FindsNone, Opens, FindsClosed}
use Rattle.crq_session.specs.Answered.{HoldsUp, Frees, Pushes, PutsNone, StillKept}
use Rattle.crq_session.specs.EndState.{OnlyReserves, OnlyRegisters, OnlyFrees, OnlySends, OnlyTakes, OnlyPushes}
use Rattle.crq_session.specs.Side.{At, Spends, KeepsPartner, fits_side}

-- An entry was sent: each answer, with its cause and what it leaves.
pub record IsSend (own partner : PlainSide) (entry : Entry) (answer : SendAnswer) (own' partner' : PlainSide) : Type 0 where
  pub parameter : (answer ≡ sending.Parameter) ↔ (first_byte entry < 0x80)
  pub not_registered : (answer ≡ sending.NotRegistered) ↔ ((0x80 ≤ first_byte entry) × (own.registered ≡ false))
  pub may : At (λ old new. OnReached answer (MaySend old entry)) own partner own' partner'
  pub success : At (λ old new. IfSent answer (Sends false old entry new))
      own partner own' partner'
  pub closed : At (λ old new. IfClosed answer (TurnsBack false old new))
      own partner own' partner'
  pub dropped : At (λ old new. IfDropped answer (FindsFull false old new))
      own partner own' partner'
  pub refused : At (λ old new. OnNotSent answer (OnlyReserves old new)) own partner own' partner'
  pub rest : At (λ old new. OnlySends false old new) own partner own' partner'
  pub room : Spends own partner own' partner'
  pub keeps : KeepsPartner own partner own' partner'

-- The own queue was polled.
pub record IsPoll (own partner : PlainSide) (answer : PollAnswer) (own' partner' : PlainSide) : Type 0 where
  pub not_registered : (answer ≡ polling.NotRegistered) ↔ (own.registered ≡ false)
  pub got : At (λ old new. IfGot answer (Takes false old new))
      own partner own' partner'
  pub empty : At (λ old new. IfEmpty answer (FindsNone false old new))
      own partner own' partner'
  pub refused : At (λ old new. OnNotPolled answer (OnlyReserves old new)) own partner own' partner'
  pub rest : At (λ old new. OnlyTakes false old new) own partner own' partner'
  pub room : Spends own partner own' partner'
  pub keeps : KeepsPartner own partner own' partner'

-- The kept event was pushed.
pub record IsPush (own partner : PlainSide) (answer : EventAnswer) (own' partner' : PlainSide) : Type 0 where
  pub nothing : At (λ old new. OnNothing answer (PutsNone false old new))
      own partner own' partner'
  pub put : At (λ old new. OnPut answer (Pushes false old new)) own partner own' partner'
  pub still : At (λ old new. IfKept answer (StillKept false old new))
      own partner own' partner'
  pub rest : At (λ old new. OnlyPushes false old new) own partner own' partner'
  pub room : Spends own partner own' partner'
  pub keeps : KeepsPartner own partner own' partner'

-- The own queue was registered, or that was refused.
pub record IsRegistration (own partner : PlainSide) (ioba bytes : ℕ) (answer : RegAnswer) (own' partner' : PlainSide) : Type 0 where
  pub parameter : (answer ≡ reg.Parameter) ↔ (fits_side own ioba bytes ≡ false)
  pub resource : (answer ≡ reg.Resource) ↔ ((fits_side own ioba bytes ≡ true) × (own.registered ≡ true))
  pub opened : At (λ old new. OnOpened answer (Opens false old new)) own partner own' partner'
  pub success : OnBoth answer (partner.registered ≡ true)
  pub closed : At (λ old new. IfAlone answer (FindsClosed false old new))
      own partner own' partner'
  pub busy : At (λ old new. IfHeldUp answer (HoldsUp false old new))
      own partner own' partner'
  pub refused : At (λ old new. OnNotRegistered answer (OnlyReserves old new))
      own partner own' partner'
  pub rest : At (λ old new. OnlyRegisters false old new) own partner own' partner'
  pub room : Spends own partner own' partner'
  pub keeps : KeepsPartner own partner own' partner'

-- The own queue was freed, with this event for the partner.
pub record IsFree (own partner : PlainSide) (event : Entry) (answer : FreeAnswer) (own' partner' : PlainSide) : Type 0 where
  pub parameter : (answer ≡ freeing.Parameter) ↔ (own.registered ≡ false)
  pub success : At (λ old new. OnFreed answer (Frees false old event new)) own partner own' partner'
  pub busy : IfInUse answer (λ _. ⊥)
  pub refused : At (λ old new. OnNotFreed answer (OnlyReserves old new)) own partner own' partner'
  pub rest : At (λ old new. OnlyFrees false old new) own partner own' partner'
  pub room : Spends own partner own' partner'
  pub keeps : KeepsPartner own partner own' partner'
