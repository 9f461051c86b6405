-- Why a unit's sessions ended as refused: over a turn of another unit, while its queue is seen through other ends, and of each line.
use Rattle.std.proofs.Common.{◌≡◌, ◌⊎◌, ◌++◌, ℕ, Bool, true, false, List, [], Option, Some, None, IfSome, slice_get, refl, sym, ◌∙◌, ap, subst, append_assoc}
use Rattle.std.specs.List.{Contains}
use Rattle.std.proofs.lemmas.List.Elements.{All-append, All-weaker, All-contains}
use Rattle.crq_ring.specs.declared.rows.PipeRow.{PipeRow}
use Rattle.crq_session.specs.EndState.{EndState}
use Rattle.vio_num.specs.declared.history.Grant.{Grant}
use Rattle.vio_num.specs.declared.history.Grant.TheVariants.{Granted, Lapsed}
use Rattle.vio_num.specs.declared.history.Lapse.TheVariants as lapses
use Rattle.vio_num.specs.declared.names.UnitId.{UnitId}
use Rattle.block_server.specs.Causes.{Hearing, Told, told_to}
use Rattle.block_server.specs.Granting.{IsGrantedOver}
use Rattle.block_server.specs.Makers.{same_unit}
use Rattle.block_server.specs.Receipts.{LinesMore, unit_of}
use Rattle.block_server.specs.Refusals.{AreExplained, IsExplained, HasExplained, IsNotRead, IsNotWritten, basis_seen}
use Rattle.block_server.specs.declared.unit.Unit.{Unit}
use Rattle.block_server.proofs.Agreeing.{if_at}
use Rattle.block_server.proofs.Refusing.{known_same}

-- a line of another unit is no refusal of this
other_line : (Hears : Hearing) (unit : UnitId) (taken : List PipeRow) (line : Grant) → same_unit (unit_of line) unit ≡ false → IsExplained Hears unit taken line
other_line Hears unit taken (Granted of session login number credits) other = λ own. absurd (apart (same_unit of unit) other own)
  where
    apart : (b : Bool) → b ≡ false → b ≡ true → ⊥
    apart b is other = cc (is, other)
other_line Hears unit taken (Lapsed of session login lapses.Logout outstanding granted) other = tt
other_line Hears unit taken (Lapsed of session login lapses.Lost outstanding granted) other = tt
other_line Hears unit taken (Lapsed of session login lapses.Early outstanding granted) other = tt
other_line Hears unit taken (Lapsed of session login lapses.BadIu outstanding granted) other = tt
other_line Hears unit taken (Lapsed of session login lapses.NotLogin outstanding granted) other = tt
other_line Hears unit taken (Lapsed of session login lapses.OverLimit outstanding granted) other = tt
other_line Hears unit taken (Lapsed of session login lapses.Refused outstanding granted) other = λ own. absurd (apart (same_unit of unit) other own)
  where
    apart : (b : Bool) → b ≡ false → b ≡ true → ⊥
    apart b is other = cc (is, other)

-- A unit's refusals are explained behind a turn of another, and over another end of the same queue.
pub refusals_elsewhere : {granted : ℕ} (told : Told → Bool) (units units' : List Unit) (n : ℕ) (unit other : UnitId) (queue queue' : EndState) (since grants grants' : List Grant)
    → slice_get units' n ≡ slice_get units n → queue'.last_session ≡ queue.last_session → queue'.taken ≡ queue.taken → LinesMore other granted grants grants' → same_unit other unit ≡ false
    → HasExplained told units n unit queue since grants → HasExplained told units' n unit queue' since grants'
refusals_elsewhere told units units' n unit other queue queue' since grants grants' same session taken lines apart has = at (slice_get units n) refl has
  where
    step : (u : Unit) → AreExplained told unit since (basis_seen u queue grants) → AreExplained told unit since (basis_seen u queue' grants')
    step u is = known_same (basis_seen u queue grants') (basis_seen u queue' grants') session taken refl refl refl refl told unit since (record {
      waits = is.waits;
      pending = is.pending;
      idle = is.idle;
      more = is.more ++ lines.more;
      lines = lines.added ∙ ap (λ front. front ++ lines.more) is.lines ∙ append_assoc since is.more lines.more;
      each = All-append (IsExplained (told_to told unit) unit queue.taken) is.more lines.more is.each
          (All-weaker (λ line. unit_of line ≡ other) (IsExplained (told_to told unit) unit queue.taken)
          (λ line of. other_line (told_to told unit) unit queue.taken line (ap (λ (id : UnitId). same_unit id unit) of ∙ apart)) lines.more lines.of_unit);
    })

    at : (found : Option Unit) → slice_get units n ≡ found → IfSome found (λ u. AreExplained told unit since (basis_seen u queue grants)) → HasExplained told units' n unit queue' since grants'
    at (Some u) there is = if_at (slice_get units' n) u (λ v. AreExplained told unit since (basis_seen v queue' grants')) (same ∙ there) (step u is)
    at None there is = subst (λ (o : Option Unit). IfSome o (λ u. AreExplained told unit since (basis_seen u queue' grants'))) (sym (same ∙ there)) tt

-- Each line of a unit that says that its session ended as refused has its cause.
pub refusal_of : (told : Told → Bool) (u : Unit) (unit : UnitId) (queue : EndState) (grants : List Grant) (session login outstanding granted : ℕ)
    → AreExplained told unit [] (basis_seen u queue grants) → Contains grants (Lapsed unit session login lapses.Refused outstanding granted) → same_unit unit unit ≡ true
    → IsNotRead (told_to told unit) queue.taken session ⊎ IsNotWritten (told_to told unit) queue.taken session
refusal_of told u unit queue grants session login outstanding granted is listed same =
    let line = Lapsed unit session login lapses.Refused outstanding granted in
    let there = subst (λ (list : List Grant). Contains list line) is.lines listed in
    All-contains (IsExplained (told_to told unit) unit queue.taken) is.more line is.each there same

-- Each line of a unit that grants a login was granted over its request.
pub grant_of : (told : Told → Bool) (u : Unit) (unit : UnitId) (queue : EndState) (grants : List Grant) (session login number credits : ℕ)
    → AreExplained told unit [] (basis_seen u queue grants) → Contains grants (Granted unit session login number credits) → same_unit unit unit ≡ true
    → IsGrantedOver (told_to told unit) queue.taken session number credits
grant_of told u unit queue grants session login number credits is listed same =
    let line = Granted unit session login number credits in
    let there = subst (λ (list : List Grant). Contains list line) is.lines listed in
    All-contains (IsExplained (told_to told unit) unit queue.taken) is.more line is.each there same
