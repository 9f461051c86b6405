-- What a registration, a free and a push of an event leave of the responses and the answers to logins that were put.
use Rattle.std.proofs.Common.{◌≡◌, ◌⊎◌, inl, inr, IfSome, Bool, false, Option, Some, None, refl, ap, ◌∙◌}
use Rattle.std.specs.Option.{IsSome}
use Rattle.vio_num.specs.declared.entry.Entry.{Entry}
use Rattle.vio_num.specs.Entry.{partner_freed}
use Rattle.crq_session.specs.declared.answers.RegAnswer.{RegAnswer}
use Rattle.crq_session.specs.declared.answers.RegAnswer.TheVariants as registering
use Rattle.crq_session.specs.declared.answers.FreeAnswer.{FreeAnswer}
use Rattle.crq_session.specs.declared.answers.FreeAnswer.TheVariants as freeing
use Rattle.crq_session.specs.declared.answers.EventAnswer.{EventAnswer}
use Rattle.crq_session.specs.declared.answers.EventAnswer.TheVariants as pushing
use Rattle.crq_session.specs.Answers.{IfHeldUp, IfInUse, IfKept, OnFreed, OnNotFreed, OnNotRegistered, OnNothing, OnOpened, OnPut}
use Rattle.crq_session.specs.Answered.{FindsInUse, HoldsUp, Keeps, Loses, Opens, Pushes, Puts, PutsNone, Settles, StillKept, TellsFreed}
use Rattle.crq_session.specs.EndState.{EndState, OnlyReserves}
use Rattle.block_server.specs.Advances.{KeepsFreed}
use Rattle.block_server.proofs.Onces.{put_by, put_plain}
use Rattle.block_server.proofs.Quieting.{lost_none}

-- of the entries of some kind, of which the event that says that the partner is free is none
module _ (P : Entry → Bool) (apart : P partner_freed ≡ false) where
  settles_plain : (shared : Bool) (kept : Option Entry) (old new : EndState) → ((event : Entry) → kept ≡ Some event → event ≡ partner_freed)
      → Settles shared kept old new → put_by P new.sent ≡ put_by P old.sent
  settles_plain shared None old new freed none = ap (put_by P) none.sent
  settles_plain shared (Some event) old new freed (inl puts) = put_plain P old.sent new.sent _ (ap P (freed event refl) ∙ apart) puts.sent
  settles_plain shared (Some event) old new freed (inr lost) = ap (put_by P) lost.none.sent

  pub register_plain : (shared : Bool) (old new : EndState) (answer : RegAnswer) → KeepsFreed old → OnOpened answer (Opens shared old new)
      → IfHeldUp answer (HoldsUp shared old new) → OnNotRegistered answer (OnlyReserves old new) → put_by P new.sent ≡ put_by P old.sent
  register_plain shared old new registering.Success freed opened held refused = settles_plain shared old.kept old new freed opened.settles
  register_plain shared old new (registering.Closed control) freed opened held refused = settles_plain shared old.kept old new freed opened.settles
  register_plain shared old new (registering.Busy number lay) freed opened held refused = ap (put_by P) held.kept.full.sent
  register_plain shared old new registering.Parameter freed opened held refused = ap (put_by P) refused.sent
  register_plain shared old new registering.Resource freed opened held refused = ap (put_by P) refused.sent

  told_plain : (shared : Bool) (old new : EndState)
      → (Puts shared old partner_freed new × (new.kept ≡ None)) ⊎ (Keeps shared old partner_freed new ⊎ (Loses shared old new × (new.kept ≡ None)))
      → put_by P new.sent ≡ put_by P old.sent
  told_plain shared old new (inl puts) = put_plain P old.sent new.sent _ apart puts.0.sent
  told_plain shared old new (inr (inl keeps)) = ap (put_by P) keeps.full.sent
  told_plain shared old new (inr (inr lost)) = ap (put_by P) lost.0.none.sent

  pub free_plain : (shared : Bool) (old new : EndState) (answer : FreeAnswer) → OnFreed answer (TellsFreed shared old new)
      → IfInUse answer (FindsInUse shared old new) → OnNotFreed answer (OnlyReserves old new) → put_by P new.sent ≡ put_by P old.sent
  free_plain shared old new freeing.Success freed busy refused = told_plain shared old new freed.tells
  free_plain shared old new (freeing.Busy control) freed busy refused = ap (put_by P) busy.none.sent
  free_plain shared old new freeing.Parameter freed busy refused = ap (put_by P) refused.sent

  kept_plain : (shared : Bool) (kept : Option Entry) (old new : EndState) → ((event : Entry) → kept ≡ Some event → event ≡ partner_freed)
      → IsSome kept → IfSome kept (λ event. Puts shared old event new) → put_by P new.sent ≡ put_by P old.sent
  kept_plain shared None old new freed some puts = absurd (cc (some))
  kept_plain shared (Some event) old new freed some puts = put_plain P old.sent new.sent _ (ap P (freed event refl) ∙ apart) puts.sent

  pub push_plain : (shared : Bool) (old new : EndState) (answer : EventAnswer) → KeepsFreed old → OnNothing answer (PutsNone shared old new)
      → OnPut answer (Pushes shared old new) → IfKept answer (StillKept shared old new) → put_by P new.sent ≡ put_by P old.sent
  push_plain shared old new pushing.Nothing freed nothing put still = ap (put_by P) (lost_none shared old.kept old new nothing.loses)
  push_plain shared old new pushing.Put freed nothing put still = kept_plain shared old.kept old new freed put.some put.puts
  push_plain shared old new (pushing.Kept number held) freed nothing put still = ap (put_by P) still.full.sent
