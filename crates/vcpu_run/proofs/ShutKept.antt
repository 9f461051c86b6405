-- What a request that met a closed queue shows stays at its pair.
use Rattle.std.proofs.Common.{◌≡◌, ◌∙◌, ◌⊎◌, inl, inr, ℕ, ◌<◌, ◌≤◌, Bool, true, false, List, [], ◌∷◌, ◌++◌, Option, Some, None, Result, Ok, Err, IfSome, IsSome, MatchBool, length, slice_get, refl, sym, ap, subst, arith}
use Rattle.std.specs.Borrow.{GName}
use Rattle.vio_num.specs.declared.entry.Entry.{Entry}
use Rattle.vio_num.specs.declared.memory.NoMemory.{NoMemory}
use Rattle.crq_ring.specs.declared.rows.PipeRow.{PipeRow}
use Rattle.crq_session.specs.Answered.{Frees, FindsInUse, HoldsUp, LosesKept, MaySend, Opens, Pushes, PutsNone, StillKept}
use Rattle.crq_session.specs.Answers.{IfHeldUp, IfInUse, IfKept, OnFreed, OnNotFreed, OnNotRegistered, OnNotSent, OnNothing, OnOpened, OnPut, OnReached}
use Rattle.crq_session.specs.EndState.{EndState, OnlyFrees, OnlyPushes, OnlyReserves, OnlySends}
use Rattle.crq_session.specs.PlainState.{end_of, side_of, state_of}
use Rattle.crq_session.specs.declared.answers.EventAnswer.{EventAnswer}
use Rattle.crq_session.specs.declared.answers.EventAnswer.TheVariants as pushing
use Rattle.crq_session.specs.declared.answers.FreeAnswer.{FreeAnswer}
use Rattle.crq_session.specs.declared.answers.FreeAnswer.TheVariants as free
use Rattle.crq_session.specs.declared.answers.RegAnswer.{RegAnswer}
use Rattle.crq_session.specs.declared.answers.RegAnswer.TheVariants as reg
use Rattle.crq_session.specs.declared.answers.SendAnswer.{SendAnswer}
use Rattle.crq_session.specs.declared.answers.SendAnswer.TheVariants as send
use Rattle.crq_session.specs.declared.link.PlainLink.{PlainLink}
use Rattle.crq_session.specs.declared.plain_end.PlainEnd.{PlainEnd}
use Rattle.block_server.specs.Advances.{OpensLater, PutsMore}
use Rattle.boot_text.specs.declared.plan.Line.{Line}
use Rattle.boot_text.specs.declared.verb.Verb.{Verb}
use Rattle.vio_trace.specs.declared.outcome.Outcome.{Outcome}
use Rattle.vio_trace.specs.declared.outcome.Outcome.TheVariants as outcomes
use Rattle.vio_trace.specs.declared.rows.LogRow.{LogRow}
use Rattle.unit_region.specs.declared.step.Step.{Step}
use Rattle.unit_region.specs.declared.step.Step.TheVariants as steps
use Rattle.vcpu_run.specs.declared.driver.Driver.{Driver}
use Rattle.vcpu_run.specs.declared.pair.Pair.{Pair}
use Rattle.vcpu_run.specs.LinesShow.{requests}
use Rattle.vcpu_run.specs.Pairs.{Drives}
use Rattle.vcpu_run.specs.Reached.{HasBegun}
use Rattle.vcpu_run.specs.ShutShown.{HadEnd, IfShut, LinesShut, MeetsShut, PairMeetsShut, PairShut, SaysShut, StaysServed, StepShut}
use Rattle.vcpu_run.proofs.Announcing.{both_bools}
use Rattle.vcpu_run.proofs.Driving.{some_is}
use Rattle.vcpu_run.proofs.LinesShown.{row_at}

-- THE SERVER UNIT'S END --------------------------------------------------------------------------

-- nothing was put, and no event is kept anew
pub begun_same : (a b : EndState) → b.last_session ≡ a.last_session → b.sent ≡ a.sent → b.kept ≡ a.kept → HasBegun a → HasBegun b
begun_same a b session sent kept is = record { sent = λ none. sent ∙ is.sent (sym session ∙ none); kept = λ none. kept ∙ is.kept (sym session ∙ none) }

-- a session has begun
pub begun_in : (end : EndState) → 1 ≤ end.last_session → HasBegun end
begun_in end some = record { sent = λ none. absurd (omega (arith, some, none)); kept = λ none. absurd (omega (arith, some, none)) }

pub begun_registers : (a b : EndState) (answer : RegAnswer) → OnOpened answer (Opens false a b) → IfHeldUp answer (HoldsUp false a b) → OnNotRegistered answer (OnlyReserves a b)
    → HasBegun a → HasBegun b
begun_registers a b reg.Success opens up none is = begun_in b (omega (arith, opens.session))
begun_registers a b (reg.Closed control) opens up none is = begun_in b (omega (arith, opens.session))
begun_registers a b (reg.Busy number held) opens up none is = begun_same a b up.session up.kept.full.sent up.kept.kept is
begun_registers a b reg.Parameter opens up none is = begun_same a b none.last_session none.sent none.kept is
begun_registers a b reg.Resource opens up none is = begun_same a b none.last_session none.sent none.kept is

-- a queue that is registered is in a session
abbrev pub IsInSession : EndState → Type 0
IsInSession end = end.registered ≡ true → 1 ≤ end.last_session

pub in_session : (end : PlainEnd) → IsInSession (state_of end)
in_session end on = (side_of end.link.now end.first).begun on

later_in : (a b : EndState) → b.last_session ≡ a.last_session → 1 ≤ a.last_session → HasBegun b
later_in a b session some = begun_in b (subst (λ n. 1 ≤ n) (sym session) some)

pub begun_frees : (a b : EndState) (event : Entry) (answer : FreeAnswer) → IsInSession a → OnlyFrees false a b → OnFreed answer (Frees false a event b) → IfInUse answer (FindsInUse false a b)
    → OnNotFreed answer (OnlyReserves a b) → HasBegun a → HasBegun b
begun_frees a b event free.Success within rest frees busy none is = later_in a b rest.last_session (within frees.registered)
begun_frees a b event (free.Busy control) within rest frees busy none is = later_in a b rest.last_session (within busy.registered)
begun_frees a b event free.Parameter within rest frees busy none is = begun_same a b none.last_session none.sent none.kept is

pub begun_sends : (a b : EndState) (entry : Entry) (answer : SendAnswer) → IsInSession a → OnlySends false a b → OnReached answer (MaySend a entry) → OnNotSent answer (OnlyReserves a b)
    → HasBegun a → HasBegun b
begun_sends a b entry (send.Success number) within rest may none is = later_in a b rest.last_session (within may.registered)
begun_sends a b entry (send.Closed control) within rest may none is = later_in a b rest.last_session (within may.registered)
begun_sends a b entry (send.Dropped number held) within rest may none is = later_in a b rest.last_session (within may.registered)
begun_sends a b entry send.NotRegistered within rest may none is = begun_same a b none.last_session none.sent none.kept is
begun_sends a b entry send.Parameter within rest may none is = begun_same a b none.last_session none.sent none.kept is

pub begun_pushes : (a b : EndState) (answer : EventAnswer) → OnlyPushes false a b → OnNothing answer (PutsNone false a b) → OnPut answer (Pushes false a b)
    → IfKept answer (StillKept false a b) → HasBegun a → HasBegun b
begun_pushes a b pushing.Nothing rest none put still is = record { sent = λ zero. lost a.kept none.loses ∙ is.sent (sym rest.last_session ∙ zero); kept = λ zero. none.kept }
  where
    lost : (kept : Option Entry) → LosesKept false kept a b → b.sent ≡ a.sent
    lost None loses = loses.sent
    lost (Some event) loses = loses.none.sent
begun_pushes a b pushing.Put rest none put still is = record { sent = λ zero. absurd (no_event a.kept put.some (is.kept (sym rest.last_session ∙ zero))); kept = λ zero. put.kept }
  where
    no_event : (kept : Option Entry) → IsSome kept → kept ≡ None → ⊥
    no_event None some none = cc
    no_event (Some event) some none = cc (none)
begun_pushes a b (pushing.Kept number held) rest none put still is = begun_same a b rest.last_session still.full.sent still.kept is

-- AT THE LINK ------------------------------------------------------------------------------------

-- a session that is over stays so
pub had_on : (old new : PlainLink) → StaysServed old new → HadEnd old → HadEnd new
had_on old new stays had =
    let begun : 1 ≤ (side_of old true).queue.session = had.begun in
    let less : (side_of old true).queue.session ≤ (side_of new true).queue.session = stays.session in
    record { begun = omega (arith, begun, less); over = λ on. by (stays.opens on) }
  where
    by : ((side_of old true).registered ≡ true) ⊎ ((side_of old true).queue.session < (side_of new true).queue.session) → 1 < (side_of new true).queue.session
    by (inl was) =
        let more : 1 < (side_of old true).queue.session = had.over was in
        let less : (side_of old true).queue.session ≤ (side_of new true).queue.session = stays.session in
        omega (arith, more, less)
    by (inr later) =
        let begun : 1 ≤ (side_of old true).queue.session = had.begun in
        omega (arith, begun, later)

pub served_same : (link : PlainLink) → StaysServed link link
served_same link = record { begun = λ is. is; puts = λ none. none; session = omega arith; opens = λ on. inl on }

pub served_on : (a b c : PlainLink) → StaysServed a b → StaysServed b c → StaysServed a c
served_on a b c first next = record {
  begun = λ is. next.begun (first.begun is);
  puts = λ none. first.puts (next.puts none);
  session = omega (arith, first.session, next.session);
  opens = λ on. last (next.opens on);
}
  where
    earlier : ((side_of a true).registered ≡ true) ⊎ ((side_of a true).queue.session < (side_of b true).queue.session)
        → ((side_of a true).registered ≡ true) ⊎ ((side_of a true).queue.session < (side_of c true).queue.session)
    earlier (inl was) = inl was
    earlier (inr less) =
        let more : (side_of b true).queue.session ≤ (side_of c true).queue.session = next.session in
        inr (omega (arith, less, more))

    last : ((side_of b true).registered ≡ true) ⊎ ((side_of b true).queue.session < (side_of c true).queue.session)
        → ((side_of a true).registered ≡ true) ⊎ ((side_of a true).queue.session < (side_of c true).queue.session)
    last (inl was) = earlier (first.opens was)
    last (inr less) =
        let most : (side_of a true).queue.session ≤ (side_of b true).queue.session = first.session in
        inr (omega (arith, most, less))

-- a client's part of a turn
pub begun_driven : (old new : Pair) → Drives old new → HasBegun (end_of [] old.link true) → HasBegun (end_of [] new.link true)
begun_driven old new d is = record { sent = λ none. d.got ∙ is.sent (sym d.server_session ∙ none); kept = λ none. d.event ∙ is.kept (sym d.server_session ∙ none) }

pub served_drives : (old new : Pair) → Drives old new → StaysServed old.link new.link
served_drives old new d =
    let same : (side_of new.link true).queue.session ≡ (side_of old.link true).queue.session = d.server_session in
    record {
      begun = begun_driven old new d;
      puts = λ none. sym d.got ∙ none;
      session = omega (arith, same);
      opens = λ on. inl (sym d.server_registered ∙ on);
    }

-- the same end, by whichever borrows
pub begun_back : (f : Bool) (a b : List GName) (link : PlainLink) → f ≡ true → HasBegun (end_of b link f) → HasBegun (end_of a link true)
begun_back true a b link is begun = record { sent = begun.sent; kept = begun.kept }
begun_back false a b link is begun = absurd (both_bools true refl (sym is))

no_front : (front more rows : List PipeRow) → rows ≡ front ++ more → rows ≡ [] → front ≡ []
no_front [] more rows is none = refl
no_front (row ∷ front) more rows is none = absurd (some (sym is ∙ none))
  where
    some : row ∷ (front ++ more) ≡ [] → ⊥
    some same = cc (same)

-- a turn of the server unit, by whatever borrows its end is reached
pub served_link : (f g : Bool) (a b : List GName) (lent link : PlainLink) → f ≡ true → g ≡ true → HasBegun (end_of b link g) → PutsMore (end_of a lent f).sent (end_of b link g).sent
    → (end_of a lent f).last_session ≤ (end_of b link g).last_session → OpensLater (end_of a lent f) (end_of b link g) → StaysServed lent link
served_link true true a b lent link e e' begun put session opens = record {
  begun = λ is. record { sent = begun.sent; kept = begun.kept };
  puts = λ none. no_front (side_of lent false).queue.sent put.more (side_of link false).queue.sent put.put none;
  session = session;
  opens = opens;
}
served_link false g a b lent link e e' begun put session opens = absurd (both_bools true refl (sym e))
served_link true false a b lent link e e' begun put session opens = absurd (both_bools true refl (sym e'))

-- WHAT LINES SAY ---------------------------------------------------------------------------------

-- from one predicate to a wider one
if_shut_more : (P Q : Type 0) → (P → Q) → (outcome : Outcome) → IfShut P outcome → IfShut Q outcome
if_shut_more P Q more (outcomes.Granted credits) is = tt
if_shut_more P Q more (outcomes.Sent tag) is = tt
if_shut_more P Q more (outcomes.Took count) is = tt
if_shut_more P Q more outcomes.Lost is = tt
if_shut_more P Q more (outcomes.TookThenLost count) is = tt
if_shut_more P Q more (outcomes.Rejected reason) is = tt
if_shut_more P Q more outcomes.Unanswered is = tt
if_shut_more P Q more outcomes.Range is = tt
if_shut_more P Q more outcomes.NotLoggedIn is = tt
if_shut_more P Q more (outcomes.NoCredit limit) is = tt
if_shut_more P Q more (outcomes.Overlap tag) is = tt
if_shut_more P Q more outcomes.Closed is = more is
if_shut_more P Q more (outcomes.Dropped number held) is = tt
if_shut_more P Q more (outcomes.Data size sum) is = tt
if_shut_more P Q more (outcomes.Stale page) is = tt
if_shut_more P Q more outcomes.Unknown is = tt
if_shut_more P Q more (outcomes.Code code) is = tt
if_shut_more P Q more (outcomes.Value value) is = tt
if_shut_more P Q more (outcomes.Posted buffers code) is = tt
if_shut_more P Q more (outcomes.Frame code number) is = tt
if_shut_more P Q more outcomes.Done is = tt
if_shut_more P Q more (outcomes.Bytes shown) is = tt

-- where the line is one that sends a request
pub says_shut_more : (P Q : Type 0) (verb : Verb) (outcome : Outcome) → (requests verb ≡ true → P → Q) → SaysShut P verb outcome → SaysShut Q verb outcome
says_shut_more P Q verb outcome more is = at (requests verb) refl is
  where
    at : (b : Bool) → requests verb ≡ b → MatchBool b (IfShut P outcome) (Unit {0}) → MatchBool b (IfShut Q outcome) (Unit {0})
    at true asks h = if_shut_more P Q (more asks) outcome h
    at false asks h = tt

pub step_shut_more : (P Q : Type 0) (verb : Verb) (result : Result Step NoMemory) → (requests verb ≡ true → P → Q) → StepShut P verb result → StepShut Q verb result
step_shut_more P Q verb (Ok (steps.Ends outcome)) more is = says_shut_more P Q verb outcome more is
step_shut_more P Q verb (Ok (steps.Waits did)) more is = tt
step_shut_more P Q verb (Err memory) more is = tt

pub lines_shut_more : (P Q : Type 0) (unit : ℕ) (lines : List Line) (rows : List LogRow) → (P → Q) → LinesShut P unit lines rows → LinesShut Q unit lines rows
lines_shut_more P Q unit lines rows more shut i line row found at is = says_shut_more P Q line.verb row.outcome (λ asks. more) (shut i line row found at is)

-- the next line has its record
pub lines_shut_next : (P : Type 0) (unit : ℕ) (lines : List Line) (rows : List LogRow) (line : Line) (row : LogRow) → slice_get lines (length rows) ≡ Some line
    → LinesShut P unit lines rows → (line.unit ≡ unit → SaysShut P line.verb row.outcome) → LinesShut P unit lines (rows ++ row ∷ [])
lines_shut_next P unit lines rows line row found shut last i l r there at is = by (row_at rows row r i at)
  where
    by : (slice_get rows i ≡ Some r) ⊎ ((i ≡ length rows) × (r ≡ row)) → SaysShut P l.verb r.outcome
    by (inl h) = shut i l r there h is
    by (inr h) =
        let same : l ≡ line = some_is l line (sym there ∙ (ap (slice_get lines) h.0 ∙ found)) in
        subst (λ (x : LogRow). SaysShut P l.verb x.outcome) (sym h.1)
        (subst (λ (x : Line). SaysShut P x.verb row.outcome) (sym same) (last (sym (ap (λ (x : Line). x.unit) same) ∙ is)))

-- a line that sends no request
pub shut_none : (P : Type 0) (verb : Verb) (result : Result Step NoMemory) → requests verb ≡ false → StepShut P verb result
shut_none P verb (Ok (steps.Ends outcome)) none = subst (λ b. MatchBool b (IfShut P outcome) (Unit {0})) (sym none) tt
shut_none P verb (Ok (steps.Waits did)) none = tt
shut_none P verb (Err memory) none = tt

pub pair_shut_none : (verb : Verb) (old new : Pair) (result : Result Step NoMemory) → requests verb ≡ false → PairShut verb old new result
pair_shut_none verb old new result none = at old.driver
  where
    at : (o : Option Driver) → IfSome o (λ d. StepShut (PairMeetsShut d.client old.link new.link) verb result)
    at None = tt
    at (Some d) = shut_none (PairMeetsShut d.client old.link new.link) verb result none

-- what a driver finds is so at its pair
pub pair_shut : (old new : Pair) (driver : Driver) (a b : List GName) (f g : Bool) (lent : PlainLink) (verb : Verb) (result : Result Step NoMemory) → old.driver ≡ Some driver
    → lent ≡ old.link → f ≡ false → g ≡ false → StepShut (MeetsShut false driver.client (end_of a lent f) (end_of b new.link g)) verb result → PairShut verb old new result
pair_shut old new driver a b f g lent verb result some same first next shut =
    subst (λ (o : Option Driver). IfSome o (λ d. StepShut (PairMeetsShut d.client old.link new.link) verb result)) (sym some)
    (step_shut_more (MeetsShut false driver.client (end_of a lent false) (end_of b new.link false)) (PairMeetsShut driver.client old.link new.link) verb result (λ asks. home)
    (subst (λ (d : Bool). StepShut (MeetsShut false driver.client (end_of a lent d) (end_of b new.link false)) verb result) first
    (subst (λ (d : Bool). StepShut (MeetsShut false driver.client (end_of a lent f) (end_of b new.link d)) verb result) next shut)))
  where
    queue : ((end_of a lent false).registered ≡ false) ⊎ (false ≡ false → (end_of b new.link false).place.partner_registered ≡ false)
        → ((side_of old.link false).registered ≡ false) ⊎ ((side_of new.link true).registered ≡ false)
    queue (inl own) = inl (sym (ap (λ (l : PlainLink). (side_of l false).registered) same) ∙ own)
    queue (inr partner) = inr (partner refl)

    home : MeetsShut false driver.client (end_of a lent false) (end_of b new.link false) → PairMeetsShut driver.client old.link new.link
    home is = record { login = is.login; queue = queue is.queue }
