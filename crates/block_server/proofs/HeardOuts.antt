-- Why a unit hears no more in a turn: how the parts of the turn follow one another.
use Rattle.std.proofs.Common.{◌≡◌, ◌≢◌, ◌⊎◌, inl, inr, ℕ, ◌+◌, ◌≤◌, Bool, true, false, List, [], ◌∷◌, Option, Some, None, Result, Ok, Err, IfOk, OnOk, drop, length, refl, slice_get, slice_set, sym, ◌∙◌, ap, subst, arith}
use Rattle.crq_ring.specs.Sessions.{of_session}
use Rattle.crq_ring.specs.declared.rows.PipeRow.{PipeRow}
use Rattle.crq_session.specs.Answers.{IfEmpty}
use Rattle.crq_session.specs.Answered.{FindsFull, FindsNone, received_now, taken_now}
use Rattle.crq_session.specs.EndState.{EndPlace, EndState, OnlyReserves, OnlySends, OnlyTakes}
use Rattle.crq_session.specs.declared.answers.PollAnswer.{PollAnswer}
use Rattle.crq_session.specs.declared.answers.PollAnswer.TheVariants as polling
use Rattle.vio_num.specs.declared.entry.Entry.{Entry}
use Rattle.vio_num.specs.declared.memory.NoMemory.{NoMemory}
use Rattle.block_server.specs.HeardOut.{FitsSlots, HasNoRoom, HearsNext, HearsNone, HearsOut, MayHear, ServesOut, StaysBusy, UnitHearsOut}
use Rattle.block_server.specs.HeardOut.HearsOut.{full, heard_all, keeps, over, shut, waits}
use Rattle.block_server.specs.Serving.{AsNone}
use Rattle.block_server.specs.Talk.{to_come}
use Rattle.block_server.specs.declared.intake.Next.{Next}
use Rattle.block_server.specs.declared.intake.Next.TheVariants.{End, Entry as NextEntry, Service}
use Rattle.block_server.specs.declared.line.Kept.{Kept}
use Rattle.block_server.specs.declared.line.Line.{Line}
use Rattle.block_server.specs.declared.request.Request.{Request}
use Rattle.block_server.specs.declared.unit.Unit.{Unit}
use Rattle.block_server.proofs.DoingReplies.{come_same}
use Rattle.block_server.proofs.Listening.{Came, drop_whole}
use Rattle.block_server.proofs.TurnRanges.{found_same}
use Rattle.block_server.proofs.Units.{get_set_same}

-- WHERE IT STOPS ---------------------------------------------------------------------------------

-- the queue was empty, or is not registered
pub stops_empty : (link shared : Bool) (unit : Unit) (old mid new : EndState) (answer : PollAnswer) → link ≡ false → OnlyReserves old mid → OnlyTakes link mid new
    → ((number : ℕ) (entry : Entry) → answer ≡ polling.Got number entry → ⊥) → (answer ≡ polling.NotRegistered → mid.registered ≡ false) → IfEmpty answer (FindsNone link mid new)
    → HearsOut 256 shared unit new
stops_empty link shared unit old mid new (polling.Got number entry) alone reserves takes got off empty = absurd (got number entry refl)
stops_empty link shared unit old mid new (polling.Empty number) alone reserves takes got off empty = heard_all (
    ap (λ (z : ℕ × List PipeRow × List PipeRow). drop (length (of_session z.0 z.1)) (of_session z.0 z.2)) (λ i. (takes.last_session i, empty.taken i, (takes.place i).received))
    ∙ ap (λ (entries : List Entry). drop (length (taken_now mid)) entries) (empty.all_taken alone)
    ∙ drop_whole (taken_now mid)
    )
stops_empty link shared unit old mid new polling.NotRegistered alone reserves takes got off empty = shut (takes.registered ∙ off refl)

-- an entry found the client's queue full
pub no_room : (link : Bool) (old new : EndState) (number held : ℕ) → link ≡ false → new.place ≡ old.place → FindsFull link old new number held → HasNoRoom new
no_room link old new number held alone place found = record {
  partner = ap (λ (p : EndPlace). p.partner_registered) place ∙ found.partner alone;
  slots = subst (λ (z : List PipeRow × EndPlace). length (of_session new.counts.partner_session z.0) ≡ length (of_session new.counts.partner_session z.1.partner_taken) + z.1.partner_slots)
      (λ i. (sym found.sent i, sym place i)) (found.full_slot alone);
}

-- an entry was taken
pub less_came : (old new : EndState) (number : ℕ) (entry : Entry) → Came old new number entry → length (to_come new) + 1 ≡ length (to_come old)
less_came old new number entry came = omega (arith, ap (λ (entries : List Entry). length entries) came.come)

pub less_then : (old mid new : EndState) → to_come new ≡ to_come mid → length (to_come mid) + 1 ≡ length (to_come old) → length (to_come new) + 1 ≡ length (to_come old)
less_then old mid new same less = ap (λ (entries : List Entry). length entries + 1) same ∙ less

pub next_or : (shared : Bool) (unit' : Unit) (old new : EndState) (next : Next) → length (to_come new) + 1 ≡ length (to_come old) → (next ≢ NextEntry → HearsOut 256 shared unit' new)
    → HearsNext shared unit' old new next
next_or shared unit' old new NextEntry less stops = less
next_or shared unit' old new Service less stops = stops (λ is. cc (is))
next_or shared unit' old new End less stops = stops (λ is. cc (is))

pub ok_next_or : (shared : Bool) (unit' : Unit) (old new : EndState) (result : Result Next NoMemory) → length (to_come new) + 1 ≡ length (to_come old)
    → IfOk result (λ next. next ≢ NextEntry → HearsOut 256 shared unit' new) → IfOk result (HearsNext shared unit' old new)
ok_next_or shared unit' old new (Ok next) less stops = next_or shared unit' old new next less stops
ok_next_or shared unit' old new (Err memory) less stops = tt

pub taken_next : (shared : Bool) (unit' : Unit) (old new : EndState) (next : Next) → next ≡ NextEntry → HearsNext shared unit' old new next → length (to_come new) + 1 ≡ length (to_come old)
taken_next shared unit' old new next is hears = subst (HearsNext shared unit' old new) is hears

pub stopped_next : (shared : Bool) (unit' : Unit) (old new : EndState) (next : Next) → next ≢ NextEntry → HearsNext shared unit' old new next → HearsOut 256 shared unit' new
stopped_next shared unit' old new NextEntry other hears = absurd (other refl)
stopped_next shared unit' old new Service other hears = hears
stopped_next shared unit' old new End other hears = hears

-- whether others have a hand in the client's window stays
pub out_same : (most : ℕ) (shared shared' : Bool) (unit : Unit) (queue : EndState) → shared' ≡ shared → HearsOut most shared' unit queue → HearsOut most shared unit queue
out_same most shared shared' unit queue same out = subst (λ (s : Bool). HearsOut most s unit queue) same out

pub heard_ok : (shared shared' : Bool) (unit : Unit) (queue : EndState) (result : Result Next NoMemory) → shared' ≡ shared → IfOk result (λ next. next ≢ NextEntry → HearsOut 256 shared' unit queue)
    → IfOk result (λ next. next ≢ NextEntry → HearsOut 256 shared unit queue)
heard_ok shared shared' unit queue result same stops = subst (λ (s : Bool). IfOk result (λ next. next ≢ NextEntry → HearsOut 256 s unit queue)) same stops

-- as many were taken as the queue has slots
pub stops_slots : (shared : Bool) (unit : Unit) (old new : EndState) (taken slots : ℕ) → taken + length (to_come new) ≡ length (to_come old) → length (to_come old) ≤ slots → slots ≤ taken
    → HearsOut 256 shared unit new
stops_slots shared unit old new taken slots left few all = heard_all (by (to_come new) (omega (arith, left, few, all)))
  where
    by : (entries : List Entry) → length entries ≤ 0 → entries ≡ []
    by [] no_more = refl
    by (entry ∷ entries) no_more = absurd (omega (arith, no_more))

-- WHERE NOTHING IS HEARD -------------------------------------------------------------------------

pub busy_same : (unit unit' : Unit) → unit'.line.closing ≡ unit.line.closing → unit'.waiting ≡ unit.waiting → unit'.pending.items ≡ unit.pending.items → StaysBusy 0 unit unit'
busy_same unit unit' closing waiting pending =
    record { closing = closing; waiting = waiting; pending = omega (arith, ap (λ (requests : List Request). length requests) pending) }

-- the oldest request was served
pub busy_less : (unit unit' : Unit) → unit'.line.closing ≡ unit.line.closing → unit'.waiting ≡ unit.waiting → unit'.pending.items ≡ drop 1 unit.pending.items → StaysBusy 1 unit unit'
busy_less unit unit' closing waiting pending = record {
  closing = closing;
  waiting = waiting;
  pending = omega (arith, less unit.pending.items, ap (λ (requests : List Request). length requests) pending);
}
  where
    less : (requests : List Request) → length requests ≤ length (drop 1 requests) + 1
    less [] = omega arith
    less (request ∷ requests) = omega arith

pub busy_more : (unit unit' : Unit) → StaysBusy 0 unit unit' → StaysBusy 1 unit unit'
busy_more unit unit' busy = record { closing = busy.closing; waiting = busy.waiting; pending = omega (arith, busy.pending) }

-- calls of the queue's end that took nothing
pub heard_none : (unit unit' : Unit) (old new : EndState) → to_come new ≡ to_come old → new.registered ≡ old.registered → (unit'.line.closing ≡ true) ⊎ StaysBusy 0 unit unit' → HearsNone unit unit' old new
heard_none unit unit' old new coming registered (inl closing) = record { coming = coming; registered = registered; goes = inl closing }
heard_none unit unit' old new coming registered (inr busy) = record { coming = coming; registered = registered; goes = inr (busy_more unit unit' busy) }

pub heard_equal : (unit unit' : Unit) (old new : EndState) → new ≡ old → (unit'.line.closing ≡ true) ⊎ StaysBusy 0 unit unit' → HearsNone unit unit' old new
heard_equal unit unit' old new same goes = heard_none unit unit' old new (ap to_come same) (ap (λ (q : EndState). q.registered) same) goes

pub come_reserved : (old mid new : EndState) → OnlyReserves old mid → new ≡ mid → to_come new ≡ to_come old
come_reserved old mid new reserves same = ap to_come same ∙ come_same old mid reserves.place reserves.last_session reserves.taken

pub heard_reserved : (unit unit' : Unit) (old mid new : EndState) → OnlyReserves old mid → new ≡ mid → (unit'.line.closing ≡ true) ⊎ StaysBusy 0 unit unit' → HearsNone unit unit' old new
heard_reserved unit unit' old mid new reserves same goes =
    heard_none unit unit' old new (come_reserved old mid new reserves same) (ap (λ (q : EndState). q.registered) same ∙ reserves.registered) goes

pub heard_sent : (link : Bool) (unit unit' : Unit) (old new : EndState) → OnlySends link old new → StaysBusy 1 unit unit' → HearsNone unit unit' old new
heard_sent link unit unit' old new rest busy =
    record { coming = come_same old new rest.place rest.last_session rest.taken; registered = rest.registered; goes = inr busy }

pub heard_served : (unit unit' : Unit) (queue : EndState) → StaysBusy 1 unit unit' → HearsNone unit unit' queue queue
heard_served unit unit' queue busy = record { coming = refl; registered = refl; goes = inr busy }

-- the same of a unit that was as much kept from hearing
pub goes_from : (unit unit1 unit' : Unit) → unit1.line ≡ unit.line → unit1.waiting ≡ unit.waiting → unit1.pending.items ≡ unit.pending.items → (unit'.line.closing ≡ true) ⊎ StaysBusy 0 unit1 unit'
    → (unit'.line.closing ≡ true) ⊎ StaysBusy 0 unit unit'
goes_from unit unit1 unit' line waiting pending (inl closing) = inl closing
goes_from unit unit1 unit' line waiting pending (inr busy) = inr (record {
  closing = busy.closing ∙ ap (λ (l : Line). l.closing) line;
  waiting = busy.waiting ∙ waiting;
  pending = omega (arith, busy.pending, ap (λ (requests : List Request). length requests) pending);
})

-- and then another that heard nothing
pub heard_behind : (unit unit1 unit' : Unit) (old mid new : EndState) → to_come mid ≡ to_come old → mid.registered ≡ old.registered → (unit1.line.closing ≡ true) ⊎ StaysBusy 0 unit unit1
    → HearsNone unit1 unit' mid new → HearsNone unit unit' old new
heard_behind unit unit1 unit' old mid new coming registered first next =
    record { coming = next.coming ∙ coming; registered = next.registered ∙ registered; goes = by first next.goes }
  where
    by : (unit1.line.closing ≡ true) ⊎ StaysBusy 0 unit unit1 → (unit'.line.closing ≡ true) ⊎ StaysBusy 1 unit1 unit' → (unit'.line.closing ≡ true) ⊎ StaysBusy 1 unit unit'
    by first (inl closing) = inl closing
    by (inl closing) (inr busy) = inl (busy.closing ∙ closing)
    by (inr busy) (inr next) = inr (record { closing = next.closing ∙ busy.closing; waiting = next.waiting ∙ busy.waiting; pending = omega (arith, busy.pending, next.pending) })

-- what stopped the unit still does once the oldest request was served
pub stops_served : (shared : Bool) (unit unit' : Unit) (old new : EndState) → unit.line.kept ≡ None → HearsNone unit unit' old new → HearsOut 256 shared unit old → HearsOut 255 shared unit' new
stops_served shared unit unit' old new none hears out = by hears.goes out
  where
    by : (unit'.line.closing ≡ true) ⊎ StaysBusy 1 unit unit' → HearsOut 256 shared unit old → HearsOut 255 shared unit' new
    by (inl closing) out = over closing
    by (inr busy) (heard_all all) = heard_all (hears.coming ∙ all)
    by (inr busy) (over closing) = over (busy.closing ∙ closing)
    by (inr busy) (shut off) = shut (hears.registered ∙ off)
    by (inr busy) (keeps some room) = absurd (some none)
    by (inr busy) (waits others some) = waits others (λ gone. some (sym busy.waiting ∙ gone))
    by (inr busy) (full most) = full (omega (arith, most, busy.pending))

-- the turn ended before
pub stops_before : (shared : Bool) (unit : Unit) (queue : EndState) → HearsOut 256 shared unit queue → HearsOut 255 shared unit queue
stops_before shared unit queue (heard_all all) = heard_all all
stops_before shared unit queue (over closing) = over closing
stops_before shared unit queue (shut off) = shut off
stops_before shared unit queue (keeps some room) = keeps some room
stops_before shared unit queue (waits others some) = waits others some
stops_before shared unit queue (full most) = full (omega (arith, most))

-- nothing is kept unless the turn ended
pub none_kept_on : (next : Next) (kept : Option Kept) → AsNone (Ok next) kept → next ≢ End → kept ≡ None
none_kept_on NextEntry kept none on = none
none_kept_on Service kept none on = none
none_kept_on End kept none on = absurd (on refl)

-- no more is to come than before
pub fits_same : (old new : EndState) → new.place ≡ old.place → new.last_session ≡ old.last_session → new.taken ≡ old.taken → FitsSlots old → FitsSlots new
fits_same old new place session taken few =
    omega (arith, few, ap (λ (entries : List Entry). length entries) (come_same old new place session taken), ap (λ p. p.own_slots) place)

pub ok_all : {A B : Type 0} (result : Result A NoMemory) → B → OnOk result B
ok_all (Ok done) is = is
ok_all (Err memory) is = tt

-- THE TURN OF A UNIT -----------------------------------------------------------------------------

-- a turn begins by noting that nothing moved yet
pub may_unmoved : (unit : Unit) (queue : EndState) (link : Bool) → MayHear unit queue link → MayHear (record unit { moved = false }) queue link
may_unmoved unit queue link may = record { alone = may.alone; going = may.going; event = may.event; few = may.few }

pub unit_hears : {A : Type 0} (units : List Unit) (n : ℕ) (unit found unit' : Unit) (link shared : Bool) (q q' : EndState) (result : Result A NoMemory)
    → slice_get units n ≡ Some found → slice_get units n ≡ Some unit → (MayHear found q link → OnOk result (HearsOut 255 shared unit' q'))
    → (MayHear found q link → shared ≡ false → found.waiting ≡ None → OnOk result (ServesOut found unit' q q')) → MayHear unit q link
    → OnOk result (UnitHearsOut (slice_set units n unit') n unit shared q q')
unit_hears units n unit found unit' link shared q q' (Err memory) there at hears serves may = tt
unit_hears units n unit found unit' link shared q q' (Ok done) there at hears serves may =
    let same = found_same unit found (sym at ∙ there) in
    let may' = subst (λ (u : Unit). MayHear u q link) same may in
    record {
      unit' = unit';
      there = get_set_same units n found unit' there;
      out = hears may';
      serves = λ apart waiting. subst (λ (u : Unit). ServesOut u unit' q q') (sym same) (serves may' apart (subst (λ (u : Unit). u.waiting ≡ None) same waiting));
    }
