-- The parts of a turn of a login, one behind the other.
use Rattle.std.proofs.Common.{◌≡◌, ◌∙◌, ℕ, ◌+◌, ◌<◌, ◌≤◌, ◌||◌, ◌&&◌, Bool, true, false, not, List, [], ◌∷◌, ◌++◌, Option, Some, None, Result, Ok, Err, IfOk, OnErr, cond, length, refl, sym, ap, subst, inl, inr, arith}
use Rattle.std.specs.List.{list_any}
use Rattle.vio_num.specs.declared.memory.NoMemory.{NoMemory}
use Rattle.vio_num.specs.declared.entry.Entry.{Entry}
use Rattle.crq_session.specs.declared.answers.SendAnswer.{SendAnswer}
use Rattle.crq_session.specs.declared.answers.SendAnswer.TheVariants as send
use Rattle.crq_session.specs.declared.answers.RegAnswer.{RegAnswer}
use Rattle.crq_session.specs.declared.answers.RegAnswer.TheVariants as regs
use Rattle.crq_session.specs.declared.handshake.Handshake.{Handshake}
use Rattle.crq_session.specs.EndState.{EndState, OnlyReserves}
use Rattle.tce_window.specs.PortState.{PortState}
use Rattle.vscsi_client.specs.declared.answers.LoginTurn.{LoginTurn}
use Rattle.vscsi_client.specs.declared.answers.LoginTurn.TheVariants as turns
use Rattle.vscsi_client.specs.declared.found.Found.{Found}
use Rattle.vscsi_client.specs.declared.found.Found.TheVariants.{Granted, Rejected, Lost, Step, Answer, Nothing, InUse}
use Rattle.vscsi_client.specs.declared.stage.Stage.{Stage}
use Rattle.vscsi_client.specs.declared.stage.Stage.TheVariants as stages
use Rattle.vscsi_client.specs.declared.stage.Due.{Due}
use Rattle.vscsi_client.specs.declared.stage.Due.TheVariants as dues
use Rattle.vscsi_client.specs.declared.turning.Next.{Next}
use Rattle.vscsi_client.specs.declared.turning.Next.TheVariants as nexts
use Rattle.vscsi_client.specs.State.{ClientState}
use Rattle.vscsi_client.specs.Ports.{ports}
use Rattle.vscsi_client.specs.Turned.{Site, site, is_busy, LoginStep, Took, TookNone, Looked, Began, RanOut, Put, Registered, Runs, NoneEnds, ends_turn, ends_login, EndsOr, Ends, Did, IsHeldUp, IsSpent, IsLooked, finds_use, times_taken, is_up, is_idle, is_login, begins, login_due, is_dropped, sent_stage, IsEntryOf, is_found_used, Registers, FollowOn, AreInOrder}
use Rattle.vscsi_client.specs.TurnParts.{next_after, TookOne, TookAll, Went, PutAll, PutOne, PutsAs, begun, is_unwritten, IsWritten, HoldsNoMore, InParts}
use Rattle.vscsi_client.proofs.Same.{lays_none}
use Rattle.vscsi_client.proofs.Runs.{runs_after, none_ends_append, times_append, ends_with_append, held_up_append, none_before, spent_append, looked_append, looked_none_held, looked_used, hands, did_after, parts_append, parts_more, parts_none, parts_took, parts_took_none, parts_looked, parts_looked_on}

-- want of memory ends what began before
pub err_after : (X Y : Type 0) (line : ℕ) (a b c : Site) (P : X → List LoginStep → Type 0) (Q : Y → List LoginStep → Type 0) (result : Result X NoMemory)
    (m m' : NoMemory) (first : List LoginStep) → result ≡ Err m → Runs line first a b → NoneEnds first → Did line b c P result → Did line a c Q (Err m')
err_after X Y line a b c P Q result m m' first is runs none did = record {
  steps = did.steps ++ first;
  runs = runs_after line first did.steps a b c runs did.runs;
  ends = ends_with_append RanOut did.steps first (subst (λ r. EndsOr P r did.steps) is did.ends) none;
}

pub none_after : (line slots n : ℕ) (a b c : Site) (result : Result (Option Found) NoMemory) → result ≡ Ok None → n ≤ slots → b.client.held ≡ None
    → Went line 1 a b n → Did line b c TookOne result → Did line a c (TookAll slots c) (Ok nexts.Pause)
none_after line slots n a b c result is most none went did =
    let e : did.steps ≡ TookNone ∷ [] = subst (λ r. EndsOr TookOne r did.steps) is did.ends in
    let runs : Runs line (TookNone ∷ []) b c = subst (λ ss. Runs line ss b c) e did.runs in
    let held : c.client.held ≡ None = ap (λ (s : ClientState). s.held) runs.2.0.client ∙ (ap (λ (x : Site). x.client.held) runs.1 ∙ none) in
    record {
      steps = TookNone ∷ went.steps;
      runs = runs_after line went.steps (TookNone ∷ []) a b c went.runs runs;
      ends = (went.going, inl refl, (let times = went.times in omega (arith, times, most)), looked_none_held c.client.held (TookNone ∷ went.steps) held, parts_took_none went.steps went.order);
    }

-- an entry ends the taking, or the turn
ends_by : (slots : ℕ) (b : Site) (found : Found) (steps : List LoginStep) → NoneEnds steps → times_taken steps ≤ slots
    → InParts 1 1 steps → (next_after found ≡ nexts.GoOn → ⊥) → TookAll slots b (next_after found) (Looked found ∷ steps)
ends_by slots b (Granted credits) steps none most order some = (omega (arith, most), record { rest = steps; is = refl; going = none }, parts_looked (Granted credits) steps order)
ends_by slots b (Rejected reason) steps none most order some = (omega (arith, most), record { rest = steps; is = refl; going = none }, parts_looked (Rejected reason) steps order)
ends_by slots b Lost steps none most order some = (omega (arith, most), record { rest = steps; is = refl; going = none }, parts_looked Lost steps order)
ends_by slots b (InUse page word) steps none most order some = (none, inr (inr refl), omega (arith, most), looked_used b.client.held page word steps, parts_looked (InUse page word) steps order)
ends_by slots b Step steps none most order some = absurd (some refl)
ends_by slots b Answer steps none most order some = absurd (some refl)
ends_by slots b Nothing steps none most order some = absurd (some refl)

pub looked_ends : (line slots : ℕ) (b : Site) (found : Found) (next : Next) (steps : List LoginStep) → next ≡ next_after found → (next ≡ nexts.GoOn → ⊥)
    → NoneEnds steps → times_taken steps ≤ slots → InParts 1 1 steps → TookAll slots b next (Looked found ∷ steps)
looked_ends line slots b found next steps is some none most order =
    subst (λ n. TookAll slots b n (Looked found ∷ steps)) (sym is) (ends_by slots b found steps none most order (λ e. some (is ∙ e)))

pub ended_after : (line slots n : ℕ) (a b c : Site) (found : Found) (next : Next) (result : Result (Option Found) NoMemory) → result ≡ Ok (Some found)
    → n < slots → next ≡ next_after found → (next ≡ nexts.GoOn → ⊥) → Went line 1 a b n → Did line b c TookOne result → Did line a c (TookAll slots c) (Ok next)
ended_after line slots n a b c found next result is less next_is some went did =
    let e : did.steps ≡ Looked found ∷ Took ∷ [] = subst (λ r. EndsOr TookOne r did.steps) is did.ends in
    record {
      steps = Looked found ∷ Took ∷ went.steps;
      runs = runs_after line went.steps (Looked found ∷ Took ∷ []) a b c went.runs (subst (λ ss. Runs line ss b c) e did.runs);
      ends = looked_ends line slots c found next (Took ∷ went.steps) next_is some went.going (let times = went.times in omega (arith, times, less)) (parts_took went.steps went.order);
    }

not_ending : (found : Found) → next_after found ≡ nexts.GoOn → ends_login found ≡ false
not_ending (Granted credits) is = absurd (cc)
not_ending (Rejected reason) is = absurd (cc)
not_ending Lost is = absurd (cc)
not_ending (InUse page word) is = refl
not_ending Step is = refl
not_ending Answer is = refl
not_ending Nothing is = refl

pub looked_none : (found : Found) (steps : List LoginStep) → next_after found ≡ nexts.GoOn → NoneEnds steps → NoneEnds (Looked found ∷ steps)
looked_none found steps is none = subst (λ b. (b || list_any ends_turn steps) ≡ false) (sym (not_ending found is)) none

pub held_none : (found : Found) → next_after found ≡ nexts.GoOn → is_found_used found ≡ false
held_none (Granted credits) is = refl
held_none (Rejected reason) is = refl
held_none Lost is = refl
held_none (InUse page word) is = absurd (cc)
held_none Step is = refl
held_none Answer is = refl
held_none Nothing is = refl

pub went_on : (line n : ℕ) (a b c : Site) (found : Found) (result : Result (Option Found) NoMemory) → result ≡ Ok (Some found)
    → next_after found ≡ nexts.GoOn → Went line 1 a b n → Did line b c TookOne result → Went line 1 a c (n + 1)
went_on line n a b c found result is on went did =
    let e : did.steps ≡ Looked found ∷ Took ∷ [] = subst (λ r. EndsOr TookOne r did.steps) is did.ends in
    record {
      steps = Looked found ∷ Took ∷ went.steps;
      runs = runs_after line went.steps (Looked found ∷ Took ∷ []) a b c went.runs (subst (λ ss. Runs line ss b c) e did.runs);
      going = looked_none found (Took ∷ went.steps) on went.going;
      times = let times = went.times in omega (arith, times);
      order = parts_looked_on found (Took ∷ went.steps) (held_none found on) (parts_took went.steps went.order);
    }

-- as many entries were taken as the queue has slots
pub all_taken : (line slots n : ℕ) (a b : Site) → n ≡ slots → b.client.held ≡ None → Went line 1 a b n → Did line a b (TookAll slots b) (Ok nexts.Pause)
all_taken line slots n a b is none went = record {
  steps = went.steps;
  runs = went.runs;
  ends = (went.going, inr (inl (went.times ∙ is)), (let times = went.times in omega (arith, times, is)), looked_none_held b.client.held went.steps none, parts_more 1 1 2 went.steps (omega arith) went.order);
}

pub held_after : (s : ClientState) (found : Found) (result : Result (Option Found) NoMemory) → result ≡ Ok (Some found) → is_found_used found ≡ false
    → IfOk result (HoldsNoMore s) → s.held ≡ None
held_after s found result is unused held = subst (λ r. IfOk r (HoldsNoMore s)) is held unused

-- a step before them does not change how entries were taken
any_front : (p : LoginStep → Bool) (xs ys : List LoginStep) → list_any p xs ≡ true → list_any p (xs ++ ys) ≡ true
any_front p [] ys some = absurd (cc)
any_front p (x ∷ xs) ys some = at (p x) (any_front p xs ys) some
  where
    at : (b : Bool) → (list_any p xs ≡ true → list_any p (xs ++ ys) ≡ true) → (b || list_any p xs) ≡ true → (b || list_any p (xs ++ ys)) ≡ true
    at true later e = refl
    at false later e = later e

spent_front : (slots : ℕ) (xs ys : List LoginStep) → times_taken ys ≡ 0 → IsSpent slots xs → IsSpent slots (xs ++ ys)
spent_front slots xs ys none (inl e) = inl (none_before xs ys e)
spent_front slots xs ys none (inr (inl e)) = inr (inl (let sum = times_append xs ys in omega (arith, sum, none, e)))
spent_front slots xs ys none (inr (inr e)) = inr (inr (any_front finds_use xs ys e))

looked_front : (h : Option Entry) (xs ys : List LoginStep) → IsLooked h xs → IsLooked h (xs ++ ys)
looked_front None xs ys e = tt
looked_front (Some entry) xs ys e = any_front finds_use xs ys e

most_front : (slots : ℕ) (xs ys : List LoginStep) → times_taken ys ≡ 0 → times_taken xs ≤ slots → times_taken (xs ++ ys) ≤ slots
most_front slots xs ys none most = let sum = times_append xs ys in omega (arith, sum, none, most)

ends_front : (slots : ℕ) (b : Site) (turn : LoginTurn) (xs ys : List LoginStep) → times_taken ys ≡ 0 → NoneEnds ys → Ends slots b turn xs → Ends slots b turn (xs ++ ys)
ends_front slots b turns.Again xs ys none going h = record {
  going = none_ends_append xs ys h.going going;
  registered = h.registered;
  spent = spent_front slots xs ys none h.spent;
  looked = looked_front b.client.held xs ys h.looked;
  begun = h.begun;
  held_up = held_up_append b.client.due xs ys h.held_up;
}
ends_front slots b (turns.Granted credits) xs ys none going h = ends_with_append (Looked (Granted credits)) xs ys h going
ends_front slots b (turns.Rejected reason) xs ys none going h = ends_with_append (Looked (Rejected reason)) xs ys h going
ends_front slots b turns.Lost xs ys none going h = ends_with_append (Looked Lost) xs ys h going
ends_front slots b (turns.Busy number held) xs ys none going h = ends_with_append _ xs ys h going

pub took_front : (slots : ℕ) (b : Site) (ys : List LoginStep) → times_taken ys ≡ 0 → NoneEnds ys → InParts 1 1 ys → (next : Next) (xs : List LoginStep) → TookAll slots b next xs → TookAll slots b next (xs ++ ys)
took_front slots b ys none going order nexts.Pause xs h =
    (none_ends_append xs ys h.0 going, spent_front slots xs ys none h.1, most_front slots xs ys none h.2, looked_front b.client.held xs ys h.3, parts_append 1 1 2 xs ys (omega arith) h.4 order)
took_front slots b ys none going order (nexts.End turn) xs h =
    (most_front slots xs ys none h.0, ends_front slots b turn xs ys none going h.1, parts_append 1 1 2 xs ys (omega arith) h.2 order)
took_front slots b ys none going order nexts.GoOn xs h = absurd h

pub turn_front : (slots : ℕ) (b : Site) (answer : RegAnswer) → NoneEnds (Registered answer ∷ []) → (turn : LoginTurn) (xs : List LoginStep)
    → (times_taken xs ≤ slots) × Ends slots b turn xs × FollowOn 1 xs
    → (times_taken (xs ++ Registered answer ∷ []) ≤ slots) × Ends slots b turn (xs ++ Registered answer ∷ []) × AreInOrder (xs ++ Registered answer ∷ [])
turn_front slots b answer going turn xs h = (
  most_front slots xs (Registered answer ∷ []) refl h.0,
  ends_front slots b turn xs (Registered answer ∷ []) refl going h.1,
  record { answer = answer; later = xs; is = refl; order = h.2 },
)

-- what was taken, and then all that is due was put
pub paused_after : (line slots : ℕ) (a b c : Site) (taken : Did line a b (TookAll slots b) (Ok nexts.Pause))
    → c.at.crq.registered ≡ true → c.client.held ≡ b.client.held → (put : Did line b c (λ (_ : Unit {0}). PutAll c.client) (Ok tt))
    → Did line a c (λ turn steps. (times_taken steps ≤ slots) × Ends slots c turn steps × FollowOn 1 steps) (Ok turns.Again)
paused_after line slots a b c taken registered held put = record {
  steps = put.steps ++ taken.steps;
  runs = runs_after line taken.steps put.steps a b c taken.runs put.runs;
  ends = (
    (let sum = times_append put.steps taken.steps in let none = put.ends.1 in let most = taken.ends.2 in omega (arith, sum, none, most)),
    record {
      going = none_ends_append put.steps taken.steps put.ends.0 taken.ends.0;
      registered = registered;
      spent = spent_append slots put.steps taken.steps put.ends.1 taken.ends.1;
      looked = subst (λ (h : Option Entry). IsLooked h (put.steps ++ taken.steps)) (sym held) (looked_append b.client.held put.steps taken.steps taken.ends.3);
      begun = put.ends.2;
      held_up = held_up_append c.client.due put.steps taken.steps put.ends.3;
    },
    (parts_append 1 2 3 put.steps taken.steps (omega arith) put.ends.4 taken.ends.4).order,
  );
}

-- what is due first has an entry, once its unit is written
pub written_of : (due : Due) (stage : Stage) → is_unwritten due stage ≡ false → IsWritten due stage
written_of dues.Initialize stage e = tt
written_of dues.Complete stage e = tt
written_of dues.Login stages.Idle e = absurd (cc)
written_of dues.Login (stages.Written tag slot) e = tt
written_of dues.Login (stages.Sent tag slot) e = tt

pub unwritten_is : (due : Due) (stage : Stage) → is_unwritten due stage ≡ true → (due ≡ dues.Login) × (is_idle stage ≡ true)
unwritten_is dues.Initialize stage e = absurd (cc)
unwritten_is dues.Complete stage e = absurd (cc)
unwritten_is dues.Login stage e = (refl, e)

pub and_false : (a b : Bool) → b ≡ false → (a && b) ≡ false
and_false true b e = e
and_false false b e = refl

-- no login becomes due by putting what is due first
begins_less : (h : Handshake) (stage : Stage) (due : Due) (others : List Due) (entry : Entry) → IsEntryOf due stage entry
    → (is_up h && (is_idle stage && not (list_any is_login (due ∷ others)))) ≡ false → (is_up h && (is_idle (sent_stage due stage) && not (list_any is_login others))) ≡ false
begins_less h stage dues.Initialize others entry is e = e
begins_less h stage dues.Complete others entry is e = e
begins_less h stages.Idle dues.Login others entry is e = absurd is
begins_less h (stages.Written tag slot) dues.Login others entry is e = and_false (is_up h) false refl
begins_less h (stages.Sent tag slot) dues.Login others entry is e = and_false (is_up h) false refl

begins_sent : (s : ClientState) (due : Due) (others : List Due) (entry : Entry) → s.due ≡ due ∷ others → IsEntryOf due s.login entry
    → begins s ≡ false → begins (record s { due = others; login = sent_stage due s.login }) ≡ false
begins_sent s due others entry first is e =
    begins_less s.handshake s.login due others entry is (subst (λ ds. (is_up s.handshake && (is_idle s.login && not (list_any is_login ds))) ≡ false) first e)

not_true : (b : Bool) → true ≡ not b → b ≡ false
not_true true e = absurd (cc)
not_true false e = refl

not_false : (b : Bool) → false ≡ not b → b ≡ true
not_false true e = refl
not_false false e = absurd (cc)

dropped_is : (answer : SendAnswer) → is_dropped answer ≡ true → (number : ℕ) × (held : ℕ) × (answer ≡ send.Dropped number held)
dropped_is (send.Dropped number held) e = (number, held, refl)
dropped_is (send.Success number) e = absurd (cc)
dropped_is send.Parameter e = absurd (cc)
dropped_is send.NotRegistered e = absurd (cc)
dropped_is (send.Closed control) e = absurd (cc)

held_by_drop : (due : Due) (others ds : List Due) (answer : SendAnswer) → ds ≡ due ∷ others → is_dropped answer ≡ true → IsHeldUp ds (Put due answer ∷ [])
held_by_drop due others ds answer first dropped =
    let d = dropped_is answer dropped in
    subst (λ xs. IsHeldUp xs (Put due answer ∷ [])) (sym first)
    (inl (d.0, d.1, record { rest = []; is = ap (λ a. Put due a ∷ []) d.2 }))

-- what the put of the first that is due did
pub put_did : (line : ℕ) (cs os : Bool) (s s' : ClientState) (e e' : EndState) (w : PortState) (due : Due) (result : Result Bool NoMemory)
    → begins s ≡ false → IfOk result (PutsAs cs s s' e e' due) → OnErr result (s' ≡ s) → OnErr result (OnlyReserves e e')
    → Did line (site s (ports cs e os w)) (site s' (ports cs e' os w)) (PutOne s s') result
put_did line cs os s s' e e' w due (Ok true) begun put same none =
    let go : is_dropped put.0 ≡ false = not_true _ put.2 in
    let client : s' ≡ record s { due = put.1.others; login = sent_stage due s.login } = put.1.client ∙ ap (λ b. cond b s (record s { due = put.1.others; login = sent_stage due s.login })) go in
    record {
      steps = Put due put.0 ∷ [];
      runs = (site s (ports cs e os w), refl, (put.1, refl), hands cs os s s' e e' w w);
      ends = (
        refl,
        refl,
        subst (λ (t : ClientState). begins t ≡ false) (sym client) (begins_sent s due put.1.others put.1.entry put.1.first put.1.is_entry begun),
        subst (λ (t : ClientState). length t.due < length s.due) (sym client) (subst (λ ds. length put.1.others < length ds) (sym put.1.first) (omega arith)),
        record { order = (omega arith, tt); most = subst (λ b. cond b 3 2 ≤ 2) (sym go) (omega arith) },
      );
    }
put_did line cs os s s' e e' w due (Ok false) begun put same none =
    let stop : is_dropped put.0 ≡ true = not_false _ put.2 in
    let client : s' ≡ s = put.1.client ∙ ap (λ b. cond b s (record s { due = put.1.others; login = sent_stage due s.login })) stop in
    record {
      steps = Put due put.0 ∷ [];
      runs = (site s (ports cs e os w), refl, (put.1, refl), hands cs os s s' e e' w w);
      ends = (
        refl,
        refl,
        subst (λ (t : ClientState). begins t ≡ false) (sym client) begun,
        subst (λ (t : ClientState). IsHeldUp t.due (Put due put.0 ∷ [])) (sym client) (held_by_drop due put.1.others s.due put.0 put.1.first stop),
        record { order = (omega arith, tt); most = subst (λ b. cond b 3 2 ≤ 3) (sym stop) (omega arith) },
      );
    }
put_did line cs os s s' e e' w due (Err m) begun put same none = record {
  steps = RanOut ∷ [];
  runs = (site s (ports cs e os w), refl, record { crq = none; own = lays_none os w; client = same }, hands cs os s s' e e' w w);
  ends = record { rest = []; is = refl; going = refl };
}

login_there : (due : List Due) → list_any is_login (due ++ dues.Login ∷ []) ≡ true
login_there [] = refl
login_there (d ∷ ds) = at (is_login d) (login_there ds)
  where
    at : (b : Bool) → list_any is_login (ds ++ dues.Login ∷ []) ≡ true → (b || list_any is_login (ds ++ dues.Login ∷ [])) ≡ true
    at true e = refl
    at false e = e

-- once a login is due where it is to be, none more is to be
pub begun_once : (s : ClientState) → begins (begun s) ≡ false
begun_once s = at (begins s) refl
  where
    due_now : begins (login_due s) ≡ false
    due_now = subst (λ b. (is_up s.handshake && (is_idle s.login && not b)) ≡ false) (sym (login_there s.due))
        (and_false (is_up s.handshake) _ (and_false (is_idle s.login) false refl))

    at : (b : Bool) → begins s ≡ b → begins (cond b (login_due s) s) ≡ false
    at true is = due_now
    at false is = is

pub begun_went : (line : ℕ) (cs os : Bool) (s : ClientState) (e : EndState) (w : PortState) → Went line 2 (site s (ports cs e os w)) (site (begun s) (ports cs e os w)) 0
begun_went line cs os s e w = at (begins s) refl
  where
    at : (b : Bool) → begins s ≡ b → Went line 2 (site s (ports cs e os w)) (site (cond b (login_due s) s) (ports cs e os w)) 0
    at true is = record {
      steps = Began ∷ [];
      runs = (site s (ports cs e os w), refl, (record { begins_now = is; client = refl }, refl, refl), hands cs os s (login_due s) e e w w);
      going = refl;
      times = refl;
      order = record { order = (omega arith, tt); most = omega arith };
    }
    at false is = record { steps = []; runs = refl; going = refl; times = refl; order = parts_none 2 }

pub ok_true : (result : Result Bool NoMemory) (b : Bool) → result ≡ Ok b → b ≡ true → result ≡ Ok true
ok_true result b is e = is ∙ ap Ok e

pub ok_false : (result : Result Bool NoMemory) (b : Bool) → result ≡ Ok b → b ≡ false → result ≡ Ok false
ok_false result b is e = is ∙ ap Ok e

-- one more of what is due was put
pub one_more : (line : ℕ) (a b c : Site) (s s' : ClientState) (result : Result Bool NoMemory) → result ≡ Ok true
    → Went line 2 a b 0 → Did line b c (PutOne s s') result → Went line 2 a c 0 × (begins s' ≡ false) × (length s'.due < length s.due)
one_more line a b c s s' result is went did =
    let h : PutOne s s' true did.steps = subst (λ r. EndsOr (PutOne s s') r did.steps) is did.ends in (
      record {
        steps = did.steps ++ went.steps;
        runs = runs_after line went.steps did.steps a b c went.runs did.runs;
        going = none_ends_append did.steps went.steps h.0 went.going;
        times = let sum = times_append did.steps went.steps in let none = h.1 in let times = went.times in omega (arith, sum, none, times);
        order = parts_append 2 2 2 did.steps went.steps (omega arith) h.4 went.order;
      },
      h.2,
      h.3,
    )

-- the first of it is held up
pub one_held : (line : ℕ) (a b c : Site) (s s' : ClientState) (result : Result Bool NoMemory) → result ≡ Ok false
    → Went line 2 a b 0 → Did line b c (PutOne s s') result → Did line a c (λ (_ : Unit {0}). PutAll s') (Ok tt)
one_held line a b c s s' result is went did =
    let h : PutOne s s' false did.steps = subst (λ r. EndsOr (PutOne s s') r did.steps) is did.ends in
    record {
      steps = did.steps ++ went.steps;
      runs = runs_after line went.steps did.steps a b c went.runs did.runs;
      ends = (
        none_ends_append did.steps went.steps h.0 went.going,
        (let sum = times_append did.steps went.steps in let none = h.1 in let times = went.times in omega (arith, sum, none, times)),
        h.2,
        held_up_append s'.due did.steps went.steps h.3,
        parts_append 2 2 3 did.steps went.steps (omega arith) h.4 went.order,
      );
    }

-- the taking never ends in the midst of it
pub no_go_on : (line slots : ℕ) (a b c : Site) (result : Result Next NoMemory) → result ≡ Ok nexts.GoOn → Did line a b (TookAll slots c) result → ⊥
no_go_on line slots a b c result is did = subst (λ r. EndsOr (TookAll slots c) r did.steps) is did.ends

pub ended_turn : (line slots : ℕ) (a b c : Site) (turn : LoginTurn) (result : Result Next NoMemory) → result ≡ Ok (nexts.End turn)
    → Did line a b (TookAll slots c) result → Did line a b (λ turn steps. (times_taken steps ≤ slots) × Ends slots c turn steps × FollowOn 1 steps) (Ok turn)
ended_turn line slots a b c turn result is did =
    let ends : TookAll slots c (nexts.End turn) did.steps = subst (λ r. EndsOr (TookAll slots c) r did.steps) is did.ends in
    record { steps = did.steps; runs = did.runs; ends = (ends.0, ends.1, ends.2.order) }

pub paused_took : (line slots : ℕ) (a b c : Site) (result : Result Next NoMemory) → result ≡ Ok nexts.Pause
    → Did line a b (TookAll slots c) result → Did line a b (TookAll slots c) (Ok nexts.Pause)
paused_took line slots a b c result is did = subst (λ r. Did line a b (TookAll slots c) r) is did

pub put_all : (line : ℕ) (a b : Site) (result : Result (Unit {0}) NoMemory) (s : ClientState) → result ≡ Ok tt
    → Did line a b (λ (_ : Unit {0}). PutAll s) result → Did line a b (λ (_ : Unit {0}). PutAll s) (Ok tt)
put_all line a b result s is did = subst (λ r. Did line a b (λ (_ : Unit {0}). PutAll s) r) is did

-- the step of a registration that did not end the turn
pub not_busy : (answer : RegAnswer) → ((number held : ℕ) → answer ≡ regs.Busy number held → ⊥) → ends_turn (Registered answer) ≡ false
not_busy regs.Success other = refl
not_busy (regs.Closed control) other = refl
not_busy regs.Parameter other = refl
not_busy regs.Resource other = refl
not_busy (regs.Busy number held) other = absurd (other number held refl)

pub now_registered : (shared : Bool) (s s' : ClientState) (old new : EndState) (answer : RegAnswer) → ((number held : ℕ) → answer ≡ regs.Busy number held → ⊥)
    → Registers shared s s' old new answer → new.registered ≡ true
now_registered shared s s' old new regs.Success other r = r.registers.0.registered
now_registered shared s s' old new (regs.Closed control) other r = r.registers.0.registered
now_registered shared s s' old new regs.Parameter other r = absurd r.registers
now_registered shared s s' old new regs.Resource other r = r.registers.1.registered ∙ r.registers.0
now_registered shared s s' old new (regs.Busy number held) other r = absurd (other number held refl)

pub none_busy : (answer : RegAnswer) → ends_turn (Registered answer) ≡ false → NoneEnds (Registered answer ∷ [])
none_busy answer is = subst (λ b. (b || false) ≡ false) (sym is) refl

pub registers_ok : (shared : Bool) (s s' : ClientState) (old new : EndState) (result : Result RegAnswer NoMemory) (answer : RegAnswer) → result ≡ Ok answer
    → IfOk result (Registers shared s s' old new) → Registers shared s s' old new answer
registers_ok shared s s' old new result answer is ok = subst (λ r. IfOk r (Registers shared s s' old new)) is ok

-- a turn of a registered queue, once it was registered
pub turned_after : (line : ℕ) (a r b : Site) (slots slots' : ℕ) (result : Result LoginTurn NoMemory) (answer : RegAnswer) → Runs line (Registered answer ∷ []) a r
    → NoneEnds (Registered answer ∷ []) → slots' ≡ slots
    → Did line r b (λ turn steps. (times_taken steps ≤ slots') × Ends slots' b turn steps × FollowOn 1 steps) result
    → Did line a b (λ turn steps. (times_taken steps ≤ slots) × Ends slots b turn steps × AreInOrder steps) result
turned_after line a r b slots slots' result answer runs none same did =
    did_after LoginTurn line a r b (λ turn steps. (times_taken steps ≤ slots') × Ends slots' b turn steps × FollowOn 1 steps)
    (λ turn steps. (times_taken steps ≤ slots) × Ends slots b turn steps × AreInOrder steps) result (Registered answer ∷ []) runs none
    (λ turn xs h. subst (λ n. (times_taken (xs ++ Registered answer ∷ []) ≤ n) × Ends n b turn (xs ++ Registered answer ∷ []) × AreInOrder (xs ++ Registered answer ∷ [])) same
    (turn_front slots' b answer none turn xs h)) did

-- a turn that has an answer leaves the queue registered
pub if_open : (result : Result LoginTurn NoMemory) (registered : Bool) → registered ≡ true → IfOk result (λ turn. is_busy turn ≡ false → registered ≡ true)
if_open (Ok turn) registered is = λ busy. is
if_open (Err memory) registered is = tt
