-- What became of the requests to log in: of a queue from which nothing was taken, over turns of other units, and at rest.
use Rattle.std.proofs.Common.{◌≡◌, ◌⊎◌, inl, inr, ◌++◌, ℕ, Bool, true, false, List, [], ◌∷◌, Option, Some, None, IfSome, slice_get, refl, sym, ◌∙◌, subst}
use Rattle.crq_ring.specs.declared.rows.PipeRow.{PipeRow}
use Rattle.crq_session.specs.EndState.{EndState}
use Rattle.vio_num.specs.declared.entry.Entry.{Entry}
use Rattle.vio_num.specs.declared.names.UnitId.{UnitId}
use Rattle.block_server.specs.Asked.{AskedAt}
use Rattle.block_server.specs.Causes.{Hearing, Told, told_to}
use Rattle.block_server.specs.Dealt.{AreDealt, AsksNoLogin, HasDealt, IsDealt, IsLoginSettled, IsPutOrLost, SendsSoFar, TookNoEventFrom}
use Rattle.block_server.specs.Granting.{IsSrpAt}
use Rattle.block_server.specs.Receipts.{is_ended}
use Rattle.block_server.specs.declared.request.Arrival.{Arrival}
use Rattle.block_server.specs.declared.request.Request.{Request}
use Rattle.block_server.specs.declared.unit.Unit.{Unit}
use Rattle.block_server.proofs.Dealing.{deal_none}

-- Nothing was taken from the unit's queue.
pub dealt_unused : (told : Told → Bool) (put : List AskedAt) (closed : ℕ → Bool) (units : List Unit) (n : ℕ) (unit : UnitId) (queue : EndState) → queue.taken ≡ [] → HasDealt told put closed units n unit queue
dealt_unused told put closed units n unit queue none = by (slice_get units n)
  where
    by : (found : Option Unit) → IfSome found (λ u. AreDealt (told_to told unit) queue.last_session queue.taken u.waiting u.pending.items (is_ended u.line) (record { put = put; closed = closed }))
    by None = tt
    by (Some u) = deal_none (told_to told unit) (record { put = put; closed = closed }) queue.last_session queue.taken u.waiting u.pending.items (is_ended u.line) none

-- The unit and what was taken from its queue stay.
pub dealt_elsewhere : (told : Told → Bool) (put : List AskedAt) (closed : ℕ → Bool) (units units' : List Unit) (n : ℕ) (unit : UnitId) (queue queue' : EndState) → slice_get units' n ≡ slice_get units n
    → queue'.last_session ≡ queue.last_session → queue'.taken ≡ queue.taken → HasDealt told put closed units n unit queue → HasDealt told put closed units' n unit queue'
dealt_elsewhere told put closed units units' n unit queue queue' same session taken =
    subst (λ (z : Option Unit × ℕ × List PipeRow). IfSome z.0 (λ u. AreDealt (told_to told unit) z.1 z.2 u.waiting u.pending.items (is_ended u.line) (record { put = put; closed = closed })))
    (λ i. (sym same i, sym session i, sym taken i))

-- No SRP entry was taken in the session before an event of it, or the session ended.
pub dealt_none : (told : Told → Bool) (put : List AskedAt) (closed : ℕ → Bool) (units : List Unit) (n : ℕ) (unit : UnitId) (queue : EndState)
    → ((number : ℕ) (entry : Entry) → IsSrpAt queue.taken queue.last_session number entry → TookNoEventFrom queue.last_session number queue.taken → IfSome (slice_get units n) (λ u. is_ended u.line ≡ true))
    → HasDealt told put closed units n unit queue
dealt_none told put closed units n unit queue none = by (slice_get units n) none
  where
    apart : (b : Bool) → b ≡ true → b ≡ false → ⊥
    apart b is other = cc (is, other)

    by : (found : Option Unit)
        → ((number : ℕ) (entry : Entry) → IsSrpAt queue.taken queue.last_session number entry → TookNoEventFrom queue.last_session number queue.taken → IfSome found (λ u. is_ended u.line ≡ true))
        → IfSome found (λ u. AreDealt (told_to told unit) queue.last_session queue.taken u.waiting u.pending.items (is_ended u.line) (record { put = put; closed = closed }))
    by None none = tt
    by (Some u) none = λ going number entry at quiet. absurd (apart (is_ended u.line) (none number entry at quiet) going)

-- A send may have found the client's queue closed in more sessions.
pub dealt_wider : (told : Told → Bool) (put : List AskedAt) (closed closed' : ℕ → Bool) (units : List Unit) (n : ℕ) (unit : UnitId) (queue : EndState)
    → (closed queue.last_session ≡ true → closed' queue.last_session ≡ true) → HasDealt told put closed units n unit queue → HasDealt told put closed' units n unit queue
dealt_wider told put closed closed' units n unit queue wider has = by (slice_get units n) has
  where
    Sends : (ℕ → Bool) → SendsSoFar
    Sends closed = record { put = put; closed = closed }

    lost : (number : ℕ) → IsPutOrLost (Sends closed) queue.last_session number → IsPutOrLost (Sends closed') queue.last_session number
    lost number (inl is) = inl is
    lost number (inr is) = inr (wider is)

    one : (u : Unit) (number : ℕ) (entry : Entry) → IsDealt (told_to told unit) queue.last_session queue.taken u.waiting u.pending.items (Sends closed) number entry
        → IsDealt (told_to told unit) queue.last_session queue.taken u.waiting u.pending.items (Sends closed') number entry
    one u number entry (inl w) = inl w
    one u number entry (inr (inl p)) = inr (inl p)
    one u number entry (inr (inr (inl none))) = inr (inr (inl none))
    one u number entry (inr (inr (inr is))) = inr (inr (inr (record { answered = is.answered; put = lost number is.put })))

    by : (found : Option Unit) → IfSome found (λ u. AreDealt (told_to told unit) queue.last_session queue.taken u.waiting u.pending.items (is_ended u.line) (Sends closed))
        → IfSome found (λ u. AreDealt (told_to told unit) queue.last_session queue.taken u.waiting u.pending.items (is_ended u.line) (Sends closed'))
    by None has = tt
    by (Some u) has = λ going number entry at quiet. one u number entry (has going number entry at quiet)

-- Where nothing waits and nothing is pending each SRP entry asked for no login, or had its login granted or rejected, by an answer that was put or lost.
pub dealt_at_rest : (Hears : Hearing) (session : ℕ) (taken : List PipeRow) (waiting : Option Arrival) (pending : List Request) (ended : Bool) (sends : SendsSoFar) → AreDealt Hears session taken waiting pending ended sends
    → waiting ≡ None → pending ≡ [] → ended ≡ false → (number : ℕ) (entry : Entry) → IsSrpAt taken session number entry → TookNoEventFrom session number taken
    → AsksNoLogin Hears entry ⊎ IsLoginSettled Hears taken sends session number
dealt_at_rest Hears session taken waiting pending ended sends dealt none empty going number entry at quiet = by (dealt going number entry at quiet)
  where
    none_some : (a : Arrival) → waiting ≡ Some a → ⊥
    none_some a same = differ (sym none ∙ same)
      where
        differ : None ≡ Some a → ⊥
        differ e = cc (e)

    no_parts : (before : List Request) (request : Request) (after : List Request) → pending ≡ before ++ request ∷ after → ⊥
    no_parts [] request after parts = differ (sym empty ∙ parts)
      where
        differ : [] ≡ request ∷ after → ⊥
        differ e = cc (e)
    no_parts (first ∷ before) request after parts = differ (sym empty ∙ parts)
      where
        differ : [] ≡ first ∷ (before ++ request ∷ after) → ⊥
        differ e = cc (e)

    by : IsDealt Hears session taken waiting pending sends number entry → AsksNoLogin Hears entry ⊎ IsLoginSettled Hears taken sends session number
    by (inl w) = absurd (none_some w.arrival w.waits)
    by (inr (inl p)) = absurd (no_parts p.before p.request p.after p.parts)
    by (inr (inr rest)) = rest
