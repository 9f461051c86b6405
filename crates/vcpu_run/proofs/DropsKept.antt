-- The records of drops at a pair stay as long as a run goes on, and the trace shows them.
use Rattle.std.proofs.Common.{◌≡◌, ◌∙◌, ◌⊎◌, inl, inr, ◌≢◌, ℕ, zero, suc, ◌+◌, ◌-◌, ◌<◌, ◌≤◌, ◌==◌, filter, map, cond, All, Bool, true, false, List, [], ◌∷◌, ◌++◌, Some, Result, Ok, Err, Contains, length, refl, sym, ap, subst, arith, slice_get, append-nil, append_assoc, length-append}
use Rattle.std.specs.Borrow.{GName}
use Rattle.std.specs.List.{flat_map}
use Rattle.std.proofs.lemmas.Bool.{eq-eqb, ne_eqb}
use Rattle.std.proofs.lemmas.List.{map-append}
use Rattle.std.proofs.lemmas.List.Elements.{Contains-append_left, Contains-append_right}
use Rattle.vio_num.specs.declared.entry.Entry.{Entry}
use Rattle.vio_num.specs.declared.memory.NoMemory.{NoMemory}
use Rattle.vio_num.specs.declared.names.UnitId.{UnitId}
use Rattle.vio_num.specs.Queue.{LawfulDrop}
use Rattle.crq_ring.specs.Pipe.{IsLawfulPipe, PipeValue}
use Rattle.crq_ring.specs.Sessions.{AreRising, of_session}
use Rattle.crq_ring.specs.declared.rows.DropRow.{DropRow}
use Rattle.crq_ring.specs.declared.rows.PipeRow.{PipeRow}
use Rattle.crq_session.specs.PlainState.{end_of, side_of}
use Rattle.boot_text.specs.declared.plan.Line.{Line}
use Rattle.vio_trace.specs.declared.outcome.Outcome.{Outcome}
use Rattle.vio_trace.specs.declared.outcome.Outcome.TheVariants as outcomes
use Rattle.vio_trace.specs.declared.rows.DropRow.{DropRow as TraceDrop}
use Rattle.vio_trace.specs.declared.rows.LogRow.{LogRow}
use Rattle.unit_region.specs.declared.step.Step.{Step}
use Rattle.unit_region.specs.declared.step.Step.TheVariants as steps
use Rattle.vcpu_run.specs.declared.pair.Pair.{Pair}
use Rattle.vcpu_run.specs.DropsShown.{IsFullAt, IsFullBy, IsFullIf, KeepsFull, LinesFull, StepFull}
use Rattle.vcpu_run.specs.Pairs.{Drives}
use Rattle.vcpu_run.specs.ScriptTold.{PutsMore}
use Rattle.vcpu_run.specs.ShutShown.{StaysServed}
use Rattle.vcpu_run.specs.Sessions.{drops_of, entries_of, session_rows, sessions_from, shown_drop}
use Rattle.vcpu_run.proofs.Driving.{same_or, some_is}
use Rattle.vcpu_run.proofs.DropsStay.{drop_in, stay_on, stay_same}
use Rattle.vcpu_run.proofs.LinesShown.{row_at}
use Rattle.vcpu_run.proofs.Losing.{of_append}
use Rattle.vcpu_run.proofs.ShutKept.{served_drives, served_on, served_same}
use Rattle.vcpu_run.proofs.QueueLaws.{entries_are}

-- more entries behind those of a session
high_front : (xs ys : List ℕ) (i high : ℕ) → slice_get xs i ≡ Some high → slice_get (xs ++ ys) i ≡ Some high
high_front [] ys i high there = cc
high_front (x ∷ xs) ys zero high there = there
high_front (x ∷ xs) ys (suc i) high there = high_front xs ys i high there

drop_further : (sent more : List Entry) (n k held : ℕ) → LawfulDrop sent n k held → LawfulDrop (sent ++ more) n k held
drop_further sent more n k held is = record {
  lapped = is.lapped;
  reached = let sum : length (sent ++ more) ≡ length sent + length more = length-append sent more in omega (arith, sum, is.reached);
  held_there = ap (λ (highs : List ℕ). slice_get highs (k - n)) (map-append (λ (entry : Entry). entry.high) sent more)
      ∙ high_front (map (λ (entry : Entry). entry.high) sent) (map (λ (entry : Entry). entry.high) more) (k - n) held is.held_there;
}

-- the queue of a pair's server unit as it goes on
pub full_on : (old new : Pair) → PutsMore old new → (number held : ℕ) → IsFullAt old number held → IsFullAt new number held
full_on old new more number held is = record {
  session = is.session;
  begun = is.begun;
  drop = record {
    row = is.drop.row;
    there = more.2.drops is.drop.row is.drop.there;
    session_is = is.drop.session_is;
    number_is = is.drop.number_is;
    lawful = subst (λ (slots : ℕ). LawfulDrop (of_session is.session (side_of new.link true).queue.sent) slots number held) (sym more.2.slots)
        (subst (λ (entries : List Entry). LawfulDrop entries (side_of old.link true).queue.slots number held) (sym grown)
        (drop_further (of_session is.session (side_of old.link true).queue.sent) (of_session is.session more.0) (side_of old.link true).queue.slots number held is.drop.lawful));
  };
}
  where
    grown : of_session is.session (side_of new.link true).queue.sent ≡ of_session is.session (side_of old.link true).queue.sent ++ of_session is.session more.0
    grown = ap (of_session is.session) more.1 ∙ of_append is.session (side_of old.link true).queue.sent more.0

pub drives_more : (old new : Pair) → Drives old new → PutsMore old new
drives_more old new driven = (driven.puts.rows, driven.puts.sent, record { slots = driven.server_slots; drops = driven.puts.drops }, served_drives old new driven)

pub more_same : (pair : Pair) → PutsMore pair pair
more_same pair = ([], sym (append-nil (side_of pair.link true).queue.sent), record { slots = refl; drops = stay_same (side_of pair.link true).queue.drops (side_of pair.link true).queue.drops refl }, served_same pair.link)

pub more_on : (a b c : Pair) → PutsMore a b → PutsMore b c → PutsMore a c
more_on a b c x y = (
  x.0 ++ y.0,
  y.1 ∙ (ap (λ (rows : List PipeRow). rows ++ y.0) x.1 ∙ append_assoc (side_of a.link true).queue.sent x.0 y.0),
  record {
    slots = y.2.slots ∙ x.2.slots;
    drops = stay_on (side_of a.link true).queue.drops (side_of b.link true).queue.drops (side_of c.link true).queue.drops x.2.drops y.2.drops;
  },
  served_on a.link b.link c.link x.3 y.3,
)

-- a turn of the server unit puts nothing into its own queue
pub more_served : (old new : Pair) → (side_of new.link true).queue.sent ≡ (side_of old.link true).queue.sent → KeepsFull old new → StaysServed old.link new.link
    → PutsMore old new
more_served old new sent keeps stays = ([], sent ∙ sym (append-nil (side_of old.link true).queue.sent), keeps, stays)

-- from one predicate to a wider one
if_full_more : (P Q : (number held : ℕ) → Type 0) → ((number held : ℕ) → P number held → Q number held) → (outcome : Outcome) → IsFullIf P outcome → IsFullIf Q outcome
if_full_more P Q more (outcomes.Granted credits) is = tt
if_full_more P Q more (outcomes.Sent tag) is = tt
if_full_more P Q more (outcomes.Took count) is = tt
if_full_more P Q more outcomes.Lost is = tt
if_full_more P Q more (outcomes.TookThenLost count) is = tt
if_full_more P Q more (outcomes.Rejected reason) is = tt
if_full_more P Q more outcomes.Unanswered is = tt
if_full_more P Q more outcomes.Range is = tt
if_full_more P Q more outcomes.NotLoggedIn is = tt
if_full_more P Q more (outcomes.NoCredit limit) is = tt
if_full_more P Q more (outcomes.Overlap tag) is = tt
if_full_more P Q more outcomes.Closed is = tt
if_full_more P Q more (outcomes.Dropped number held) is = more number held is
if_full_more P Q more (outcomes.Data size sum) is = tt
if_full_more P Q more (outcomes.Stale page) is = tt
if_full_more P Q more outcomes.Unknown is = tt
if_full_more P Q more (outcomes.Code code) is = tt
if_full_more P Q more (outcomes.Value value) is = tt
if_full_more P Q more (outcomes.Posted buffers code) is = tt
if_full_more P Q more (outcomes.Frame code number) is = tt
if_full_more P Q more outcomes.Done is = tt
if_full_more P Q more (outcomes.Bytes shown) is = tt

step_full_more : (P Q : (number held : ℕ) → Type 0) → ((number held : ℕ) → P number held → Q number held) → (result : Result Step NoMemory) → StepFull P result → StepFull Q result
step_full_more P Q more (Ok (steps.Ends outcome)) is = if_full_more P Q more outcome is
step_full_more P Q more (Ok (steps.Waits did)) is = tt
step_full_more P Q more (Err memory) is = tt

pub lines_full_more : (P Q : (number held : ℕ) → Type 0) (unit : ℕ) (lines : List Line) (rows : List LogRow) → ((number held : ℕ) → P number held → Q number held)
    → LinesFull P unit lines rows → LinesFull Q unit lines rows
lines_full_more P Q unit lines rows more full i line row found at is = if_full_more P Q more row.outcome (full i line row found at is)

-- the next line has its record
pub lines_full_next : (P : (number held : ℕ) → Type 0) (unit : ℕ) (lines : List Line) (rows : List LogRow) (line : Line) (row : LogRow) → slice_get lines (length rows) ≡ Some line
    → LinesFull P unit lines rows → (line.unit ≡ unit → IsFullIf P row.outcome) → LinesFull P unit lines (rows ++ row ∷ [])
lines_full_next P unit lines rows line row found full last i l r there at is = by (row_at rows row r i at)
  where
    by : (slice_get rows i ≡ Some r) ⊎ ((i ≡ length rows) × (r ≡ row)) → IsFullIf P r.outcome
    by (inl h) = full i l r there h is
    by (inr h) =
        let same : l ≡ line = some_is l line (sym there ∙ (ap (slice_get lines) h.0 ∙ found)) in
        subst (λ (x : LogRow). IsFullIf P x.outcome) (sym h.1) (last (sym (ap (λ (x : Line). x.unit) same) ∙ is))

-- what a driver finds is so at its pair
pub pair_full : (pair : Pair) (lenders : List GName) (first : Bool) (result : Result Step NoMemory) → first ≡ false
    → StepFull (IsFullBy false (end_of lenders pair.link first)) result → StepFull (IsFullAt pair) result
pair_full pair lenders first result is full =
    step_full_more (IsFullBy false (end_of lenders pair.link false)) (IsFullAt pair) home result
    (subst (λ b. StepFull (IsFullBy false (end_of lenders pair.link b)) result) is full)
  where
    home : (number held : ℕ) → IsFullBy false (end_of lenders pair.link false) number held → IsFullAt pair number held
    home number held h = record { session = (side_of pair.link true).queue.session; begun = (side_of pair.link true).begun (h.partner refl); drop = h.drop }

-- a record of a session is one of those that the trace shows
drop_of : (q : ℕ) (rows : List DropRow) (row : DropRow) → row.session ≡ q → Contains rows row → Contains (drops_of q rows) (shown_drop row)
drop_of q [] row same has = absurd (omega (arith, has.1))
drop_of q (first ∷ rows) row same has = by (drop_of q rows row same) (drop_in first row rows has)
  where
    rest : List DropRow
    rest = filter (λ r. r.session == q) rows

    at : (b : Bool) → Contains (map shown_drop rest) (shown_drop row) → Contains (map shown_drop (cond b (first ∷ rest) rest)) (shown_drop row)
    at true h = Contains-append_right (shown_drop first ∷ []) (map shown_drop rest) (shown_drop row) h
    at false h = h

    by : (Contains rows row → Contains (map shown_drop rest) (shown_drop row)) → (first ≡ row) ⊎ Contains rows row
        → Contains (map shown_drop (cond (first.session == q) (first ∷ rest) rest)) (shown_drop row)
    by more (inl e) =
        subst (λ b. Contains (map shown_drop (cond b (first ∷ rest) rest)) (shown_drop row)) (sym (eq-eqb first.session q (ap (λ (r : DropRow). r.session) e ∙ same)))
        (subst (λ (drop : TraceDrop). Contains (shown_drop first ∷ map shown_drop rest) drop) (ap shown_drop e) (zero, omega arith, refl))
    by more (inr h) = at (first.session == q) (more h)

drop_among : (unit : UnitId) (pipe : PipeValue) (q n k : ℕ) (drop : TraceDrop) → q ≤ k → k < q + n → Contains (drops_of k pipe.drops) drop
    → Contains (flat_map (λ row. row.drops) (sessions_from unit pipe q n)) drop
drop_among unit pipe q zero k drop from below has = absurd (omega (arith, from, below))
drop_among unit pipe q (suc n) k drop from below has =
    by (λ apart. drop_among unit pipe (q + 1) n k drop (omega (arith, from, apart)) (omega (arith, below)) has) (same_or k q)
  where
    later : List TraceDrop
    later = flat_map (λ row. row.drops) (sessions_from unit pipe (q + 1) n)

    by : (k ≢ q → Contains later drop) → (k ≡ q) ⊎ (k ≢ q) → Contains (drops_of q pipe.drops ++ later) drop
    by more (inl e) = Contains-append_left (drops_of q pipe.drops) later drop (subst (λ m. Contains (drops_of m pipe.drops) drop) e has)
    by more (inr apart) = Contains-append_right (drops_of q pipe.drops) later drop (more apart)

-- it is of a session in which something was put
some_put : (q last : ℕ) (rows : List PipeRow) → All (λ row. row.session ≤ last) rows → last < q → entries_of q rows ≡ []
some_put q last [] all later = refl
some_put q last (row ∷ rows) all later =
    let here : row.session ≤ last = all 0 row (omega arith) in
    let apart : (row.session == q) ≡ false = ne_eqb row.session q (λ e. absurd (omega (arith, here, later, e))) in
    ap (λ b. map (λ (r : PipeRow). r.entry) (cond b (row ∷ filter (λ r. r.session == q) rows) (filter (λ r. r.session == q) rows))) apart
    ∙ some_put q last rows (λ k d within. all (suc k) d (omega (arith, within))) later

le_or : (a b : ℕ) → (a ≤ b) ⊎ (b < a)
le_or zero b = inl (omega arith)
le_or (suc a) zero = inr (omega arith)
le_or (suc a) (suc b) = elim (le_or a b) as (λ _. (suc a ≤ suc b) ⊎ (suc b < suc a)) [ inl h ↦ inl (omega (arith, h)) | inr h ↦ inr (omega (arith, h)) ]

within_last : (pipe : PipeValue) (q slots number held : ℕ) → AreRising pipe.session pipe.sent → LawfulDrop (of_session q pipe.sent) slots number held → q ≤ pipe.session
within_last pipe q slots number held rising lawful = at (le_or q pipe.session)
  where
    none : (entries : List Entry) (i : ℕ) → entries ≡ [] → slice_get (map (λ (entry : Entry). entry.high) entries) i ≡ Some held → ⊥
    none [] i e h = cc (h)
    none (entry ∷ entries) i e h = cc (e)

    at : (q ≤ pipe.session) ⊎ (pipe.session < q) → q ≤ pipe.session
    at (inl h) = h
    at (inr later) =
        let empty : of_session q pipe.sent ≡ [] = entries_are q pipe.sent ∙ some_put q pipe.session pipe.sent rising.none_later later in
        absurd (none (of_session q pipe.sent) (number - slots) empty lawful.held_there)

all_has : (P : DropRow → Type 0) (rows : List DropRow) (row : DropRow) → All P rows → Contains rows row → P row
all_has P rows row all has = subst P has.2 (all has.0 row has.1)

pub drop_shown : (unit : UnitId) (pair : Pair) (number held : ℕ) → IsLawfulPipe (side_of pair.link true).queue → IsFullAt pair number held
    → Contains (flat_map (λ row. row.drops) (session_rows unit (side_of pair.link true).queue)) (record { number = number; held = held })
drop_shown unit pair number held laws is =
    let pipe : PipeValue = (side_of pair.link true).queue in
    let q = is.session in
    let row : DropRow = is.drop.row in
    let own : LawfulDrop (of_session row.session pipe.sent) pipe.slots row.number row.held =
    all_has (λ (r : DropRow). LawfulDrop (of_session r.session pipe.sent) pipe.slots r.number r.held) pipe.drops row laws.dropped.lawful is.drop.there in
    let there : LawfulDrop (of_session q pipe.sent) pipe.slots number row.held =
    subst (λ n. LawfulDrop (of_session q pipe.sent) pipe.slots n row.held) is.drop.number_is
    (subst (λ s. LawfulDrop (of_session s pipe.sent) pipe.slots row.number row.held) is.drop.session_is own) in
    let same : row.held ≡ held = some_is row.held held (sym there.held_there ∙ is.drop.lawful.held_there) in
    let last : q ≤ pipe.session = within_last pipe q pipe.slots number held laws.sent is.drop.lawful in
    drop_among unit pipe 1 pipe.session q (record { number = number; held = held }) is.begun (omega (arith, last))
    (subst (λ n. Contains (drops_of q pipe.drops) (record { number = n; held = held })) is.drop.number_is
    (subst (λ h. Contains (drops_of q pipe.drops) (record { number = row.number; held = h })) same
    (drop_of q pipe.drops row is.drop.session_is is.drop.there)))
