-- Once a run ended, each login of a server unit whose client's queue is not registered is ended.
use Rattle.std.proofs.Common.{◌≡◌, ◌∙◌, ◌⊎◌, inl, inr, ℕ, zero, suc, ◌<◌, ◌≤◌, true, false, List, [], Option, Some, None, IfSome, length, slice_get, refl, sym, ap, subst, arith}
use Rattle.std.proofs.Math.Logic.{∥∥₁_map₂}
use Rattle.std.proofs.lemmas.Option.{slice_get_within}
use Rattle.rdma_copy.specs.declared.copy.CopyRecord.{CopyRecord}
use Rattle.vio_num.specs.declared.history.Grant.{Grant}
use Rattle.vio_num.specs.declared.history.Served.{Served}
use Rattle.vio_num.specs.declared.names.UnitId.{UnitId}
use Rattle.crq_session.specs.EndState.{EndState}
use Rattle.crq_session.specs.PlainState.{end_of, side_of}
use Rattle.block_server.specs.Books.{books_seen}
use Rattle.block_server.specs.Closings.{last_of}
use Rattle.block_server.specs.Judged.{AreKept, Judged}
use Rattle.block_server.specs.Numbers.{login_left, login_on}
use Rattle.block_server.specs.Owed.{IsLossAhead}
use Rattle.block_server.specs.declared.unit.Unit.{Unit}
use Rattle.boot_text.specs.declared.plan.Line.{Line}
use Rattle.vio_trace.specs.declared.rows.LogRow.{LogRow}
use Rattle.vcpu_run.specs.declared.pair.Pair.{Pair}
use Rattle.vcpu_run.specs.declared.script.Script.{Script}
use Rattle.vcpu_run.specs.declared.unit_seat.Seat.TheVariants as places
use Rattle.vcpu_run.specs.EventsMade.{times_open}
use Rattle.vcpu_run.specs.FailedShut.{AreAllEnded, HasFailed, IsDown, opens_if}
use Rattle.vcpu_run.specs.Links.{IsEmptied, link_state}
use Rattle.vcpu_run.specs.Received.{IsReceived}
use Rattle.vcpu_run.specs.Works.{fails}
use Rattle.vcpu_run.proofs.EndedLogins.{all_ended, closed_off, out_at_rest}
use Rattle.vcpu_run.proofs.FailedShut.{never_opens}
use Rattle.vcpu_run.proofs.Losing.{none_ahead}

-- a number is below another, is that one, or is above it
which : (q n : ℕ) → (q < n) ⊎ ((q ≡ n) ⊎ (n < q))
which zero zero = inr (inl refl)
which zero (suc n) = inl (omega arith)
which (suc q) zero = inr (inr (omega arith))
which (suc q) (suc n) = next (which q n)
  where
    next : (q < n) ⊎ ((q ≡ n) ⊎ (n < q)) → (suc q < suc n) ⊎ ((suc q ≡ suc n) ⊎ (suc n < suc q))
    next (inl less) = inl (omega (arith, less))
    next (inr (inl same)) = inr (inl (ap suc same))
    next (inr (inr more)) = inr (inr (omega (arith, more)))

-- no login is on in any of the unit's sessions, by what is so of its books
pub none_on : (unit : Unit) (id : UnitId) (queue : EndState) (history : List Served) (grants : List Grant) (judged : List Judged) → AreKept (books_seen unit id queue history grants) judged
    → unit.logins.current ≡ 0 → (q : ℕ) → 1 ≤ q → login_on id q grants ≡ 0
none_on unit id queue history grants judged kept out q some = at (which q queue.last_session)
  where
    at : (q < queue.last_session) ⊎ ((q ≡ queue.last_session) ⊎ (queue.last_session < q)) → login_on id q grants ≡ 0
    at (inl less) = closed_off id q grants (kept.lines.closed q some (inl less)) kept.lines.causes.last
    at (inr (inl same)) = ap (λ n. login_on id n grants) same ∙ (sym kept.numbers.on ∙ out)
    at (inr (inr more)) = ap (λ lines. login_left (last_of lines)) (kept.lines.later q more)

pub ended_in : (unit : Unit) (id : UnitId) (queue : EndState) (history : List Served) (grants : List Grant) (judged : List Judged) → AreKept (books_seen unit id queue history grants) judged
    → unit.logins.current ≡ 0 → AreAllEnded id grants
ended_in unit id queue history grants judged kept out place session login number credits some line =
    all_ended id session grants kept.numbers.each (none_on unit id queue history grants judged kept out session some) place login number credits line

pub failed_at_rest : (units : List Unit) (copies : List CopyRecord) (grants : List Grant) (history : List Served) (u : ℕ) (pair : Pair) (server : UnitId) (unit : Unit)
    → slice_get units u ≡ Some unit → (side_of pair.link false).registered ≡ false → ¬ IsLossAhead (end_of [] pair.link true) → pair.own.unit ≡ server
    → IsReceived units copies grants history u pair → ∥ AreAllEnded server grants ∥₁
failed_at_rest units copies grants history u pair server unit there gone quiet own received =
    ∥∥₁_map₂ received.judged received.answers
    (λ has owed.
    let queue : EndState = end_of [] pair.link true in
    let kept : AreKept (books_seen unit pair.own.unit queue history grants) has.0 =
    subst (λ (o : Option Unit). IfSome o (λ unit. AreKept (books_seen unit pair.own.unit queue history grants) has.0)) there has.1.kept in
    let out : unit.logins.current ≡ 0 = out_at_rest units u unit pair.own.unit queue history grants there gone quiet owed in
    subst (λ (name : UnitId). AreAllEnded name grants) own (ended_in unit pair.own.unit queue history grants has.0 kept out))

-- And so it is where a line that fails the client's partition has a record: its queue is not registered, and nothing is on its way.
pub fails_at_rest : (units : List Unit) (copies : List CopyRecord) (grants : List Grant) (history : List Served) (pairs : List Pair) (pair : Pair) (server : UnitId) (script : Script) (own : ℕ)
    → slice_get script.seats.items own ≡ Some (places.Client server.unit) → slice_get pairs server.unit ≡ Some pair → (unit : Unit) → slice_get units server.unit ≡ Some unit
    → IsEmptied (link_state pair.link).server → (side_of pair.link false).kept ≡ None → pair.own.unit ≡ server → IsReceived units copies grants history server.unit pair → IsDown pairs script
    → (i : ℕ) (line : Line) (row : LogRow) → slice_get script.lines.now i ≡ Some line → slice_get script.logs.items i ≡ Some row → fails line.verb ≡ true → ∥ AreAllEnded server grants ∥₁
fails_at_rest units copies grants history pairs pair server script own sits there unit u empty none name received down i line row found ended failing =
    failed_at_rest units copies grants history server.unit pair server unit u gone (none_ahead [] pair.link empty.taken none) name received
  where
    had : HasFailed script.lines.now (length script.logs.items)
    had = record { at = i; line = line; there = found; failing = failing; below = slice_get_within script.logs.items i row ended }

    shut : times_open pair ≡ 0
    shut = subst (λ (o : Option Pair). opens_if o ≡ 0) there (down.shut had own server.unit sits)

    gone : (side_of pair.link false).registered ≡ false
    gone = never_opens pair shut
