-- Runs of steps, one behind the other.
use Rattle.std.proofs.Common.{◌≡◌, ℕ, ◌+◌, ◌||◌, Bool, true, false, List, [], ◌∷◌, ◌++◌, Option, Some, None, Result, Ok, Err, IfSome, IsSome, cond, ◌≤◌, refl, sym, ap, subst, inl, inr, arith}
use Rattle.std.specs.List.{list_any}
use Rattle.vio_num.specs.declared.memory.NoMemory.{NoMemory}
use Rattle.crq_session.specs.declared.answers.SendAnswer.TheVariants as send
use Rattle.vscsi_client.specs.declared.stage.Due.{Due}
use Rattle.vscsi_client.specs.State.{ClientState}
use Rattle.vscsi_client.specs.Ports.{ports}
use Rattle.crq_session.specs.EndState.{EndState, OnlyReserves}
use Rattle.tce_window.specs.PortState.{PortState, LaysNone, OnlyReads}
use Rattle.vio_num.specs.declared.entry.Entry.{Entry}
use Rattle.vscsi_client.specs.declared.found.Found.{Found}
use Rattle.vscsi_client.specs.declared.found.Found.TheVariants.{InUse}
use Rattle.vscsi_client.specs.Login.{Finds, found_by}
use Rattle.vscsi_client.proofs.Same.{lays_none}
use Rattle.vscsi_client.specs.Turned.{Site, site, LoginStep, RanOut, SameHands, Runs, NoneEnds, ends_turn, EndsWith, Did, LastIs, IsHeldUp, IsSpent, found_none_last, finds_use, IsLooked, times_taken, Registered, Took, TookNone, Began, Wrote, Put, Looked, NotWritten, Looks, TakesNext, part_of, part_after, FollowOn, is_found_used}
use Rattle.vscsi_client.specs.TurnParts.{TookAs, InParts}

pub runs_after : (line : ℕ) (first second : List LoginStep) (a b c : Site) → Runs line first a b → Runs line second b c → Runs line (second ++ first) a c
runs_after line first [] a b c one two = subst (Runs line first a) (sym two) one
runs_after line first (step ∷ second) a b c one two = (two.0, runs_after line first second a b two.0 one two.1, two.2, two.3)

pub none_ends_append : (xs ys : List LoginStep) → NoneEnds xs → NoneEnds ys → NoneEnds (xs ++ ys)
none_ends_append [] ys one two = two
none_ends_append (x ∷ xs) ys one two = at (ends_turn x) (λ e. none_ends_append xs ys e two) one
  where
    at : (b : Bool) → (list_any ends_turn xs ≡ false → list_any ends_turn (xs ++ ys) ≡ false) → (b || list_any ends_turn xs) ≡ false → (b || list_any ends_turn (xs ++ ys)) ≡ false
    at true later e = absurd (cc)
    at false later e = later e

pub any_append : (p : LoginStep → Bool) (xs ys : List LoginStep) → list_any p ys ≡ true → list_any p (xs ++ ys) ≡ true
any_append p [] ys some = some
any_append p (x ∷ xs) ys some = at (p x) (any_append p xs ys some)
  where
    at : (b : Bool) → list_any p (xs ++ ys) ≡ true → (b || list_any p (xs ++ ys)) ≡ true
    at true e = refl
    at false e = e

pub times_append : (xs ys : List LoginStep) → times_taken (xs ++ ys) ≡ times_taken xs + times_taken ys
times_append [] ys = omega arith
times_append (x ∷ xs) ys = let rest = times_append xs ys in omega (arith, rest)

pub ends_with_append : (step : LoginStep) (xs ys : List LoginStep) → EndsWith step xs → NoneEnds ys → EndsWith step (xs ++ ys)
ends_with_append step xs ys e none = record { rest = e.rest ++ ys; is = ap (λ zs. zs ++ ys) e.is; going = none_ends_append e.rest ys e.going none }

pub last_append : (step : LoginStep) (xs ys : List LoginStep) → LastIs step xs → LastIs step (xs ++ ys)
last_append step xs ys e = record { rest = e.rest ++ ys; is = ap (λ zs. zs ++ ys) e.is }

pub held_up_append : (due : List Due) (xs ys : List LoginStep) → IsHeldUp due xs → IsHeldUp due (xs ++ ys)
held_up_append [] xs ys h = tt
held_up_append (first ∷ others) xs ys (inl h) = inl (h.0, h.1, last_append (Put first (send.Dropped h.0 h.1)) xs ys h.2)
held_up_append (first ∷ others) xs ys (inr h) = inr (h.0, (h.1.0, h.1.1, last_append (NotWritten h.1.0 h.1.1) xs ys h.1.2))

-- where the last poll of some steps found nothing, steps behind them that take nothing do not change that, and steps
-- before them do not either
none_behind : (xs ys : List LoginStep) → times_taken xs ≡ 0 → found_none_last ys ≡ true → found_none_last (xs ++ ys) ≡ true
none_behind [] ys none e = e
none_behind (Took ∷ xs) ys none e = absurd (omega (arith, none))
none_behind (TookNone ∷ xs) ys none e = refl
none_behind (Registered answer ∷ xs) ys none e = none_behind xs ys (omega (arith, none)) e
none_behind (Looked found ∷ xs) ys none e = none_behind xs ys (omega (arith, none)) e
none_behind (Began ∷ xs) ys none e = none_behind xs ys (omega (arith, none)) e
none_behind (Wrote ∷ xs) ys none e = none_behind xs ys (omega (arith, none)) e
none_behind (NotWritten page word ∷ xs) ys none e = none_behind xs ys (omega (arith, none)) e
none_behind (Put due answer ∷ xs) ys none e = none_behind xs ys (omega (arith, none)) e
none_behind (RanOut ∷ xs) ys none e = none_behind xs ys (omega (arith, none)) e

pub none_before : (xs ys : List LoginStep) → found_none_last xs ≡ true → found_none_last (xs ++ ys) ≡ true
none_before [] ys e = absurd (cc)
none_before (Took ∷ xs) ys e = absurd (cc)
none_before (TookNone ∷ xs) ys e = refl
none_before (Registered answer ∷ xs) ys e = none_before xs ys e
none_before (Looked found ∷ xs) ys e = none_before xs ys e
none_before (Began ∷ xs) ys e = none_before xs ys e
none_before (Wrote ∷ xs) ys e = none_before xs ys e
none_before (NotWritten page word ∷ xs) ys e = none_before xs ys e
none_before (Put due answer ∷ xs) ys e = none_before xs ys e
none_before (RanOut ∷ xs) ys e = none_before xs ys e

pub spent_append : (slots : ℕ) (xs ys : List LoginStep) → times_taken xs ≡ 0 → IsSpent slots ys → IsSpent slots (xs ++ ys)
spent_append slots xs ys none (inl e) = inl (none_behind xs ys none e)
spent_append slots xs ys none (inr (inl e)) = inr (inl (let sum = times_append xs ys in omega (arith, sum, none, e)))
spent_append slots xs ys none (inr (inr e)) = inr (inr (any_append finds_use xs ys e))

-- steps of some parts of a turn, and behind them steps of the parts from there on
after_append : (first : ℕ) (xs ys : List LoginStep) → part_after first (xs ++ ys) ≡ part_after (part_after first ys) xs
after_append first [] ys = refl
after_append first (x ∷ xs) ys = refl

follow_append : (first : ℕ) (xs ys : List LoginStep) → FollowOn (part_after first ys) xs → FollowOn first ys → FollowOn first (xs ++ ys)
follow_append first [] ys later h = h
follow_append first (x ∷ xs) ys later h = (subst (λ part. part ≤ part_of x) (sym (after_append first xs ys)) later.0, follow_append first xs ys later.1 h)

follow_sooner : (part first : ℕ) (xs : List LoginStep) → first ≤ part → FollowOn part xs → FollowOn first xs
follow_sooner part first [] less h = tt
follow_sooner part first (x ∷ []) less h = (let at = h.0 in omega (arith, at, less), tt)
follow_sooner part first (x ∷ y ∷ xs) less h = (h.0, follow_sooner part first (y ∷ xs) less h.1)

after_sooner : (part first last : ℕ) (xs : List LoginStep) → first ≤ part → part ≤ last → part_after part xs ≤ last → part_after first xs ≤ last
after_sooner part first last [] less most h = omega (arith, less, most)
after_sooner part first last (x ∷ xs) less most h = h

pub parts_append : (first part last : ℕ) (xs ys : List LoginStep) → part ≤ last → InParts part last xs → InParts first part ys → InParts first last (xs ++ ys)
parts_append first part last xs ys less later h = record {
  order = follow_append first xs ys (follow_sooner part (part_after first ys) xs h.most later.order) h.order;
  most = subst (λ p. p ≤ last) (sym (after_append first xs ys)) (after_sooner part (part_after first ys) last xs h.most less later.most);
}

pub parts_more : (first last more : ℕ) (xs : List LoginStep) → last ≤ more → InParts first last xs → InParts first more xs
parts_more first last more xs less h = record { order = h.order; most = let most = h.most in omega (arith, most, less) }

pub parts_none : (part : ℕ) → InParts part part []
parts_none part = record { order = tt; most = omega arith }

-- one step of taking, and one look at what was taken
pub parts_took : (steps : List LoginStep) → InParts 1 1 steps → InParts 1 1 (Took ∷ steps)
parts_took steps h = record { order = (h.most, h.order); most = omega arith }

pub parts_took_none : (steps : List LoginStep) → InParts 1 1 steps → InParts 1 2 (TookNone ∷ steps)
parts_took_none steps h = record { order = (h.most, h.order); most = omega arith }

pub parts_looked : (found : Found) (steps : List LoginStep) → InParts 1 1 steps → InParts 1 2 (Looked found ∷ steps)
parts_looked found steps h = record { order = (h.most, h.order); most = at (is_found_used found) }
  where
    at : (b : Bool) → cond b 2 1 ≤ 2
    at true = omega arith
    at false = omega arith

pub parts_looked_on : (found : Found) (steps : List LoginStep) → is_found_used found ≡ false → InParts 1 1 steps → InParts 1 1 (Looked found ∷ steps)
parts_looked_on found steps unused h = record {
  order = (h.most, h.order);
  most = subst (λ b. cond b 2 1 ≤ 1) (sym unused) (omega arith);
}

-- steps behind or before do not change that an entry was looked at
pub looked_append : (h : Option Entry) (xs ys : List LoginStep) → IsLooked h ys → IsLooked h (xs ++ ys)
looked_append None xs ys e = tt
looked_append (Some entry) xs ys e = any_append finds_use xs ys e

pub looked_none_held : (h : Option Entry) (steps : List LoginStep) → h ≡ None → IsLooked h steps
looked_none_held h steps is = subst (λ (o : Option Entry). IsLooked o steps) (sym is) tt

pub looked_used : (h : Option Entry) (page word : ℕ) (steps : List LoginStep) → IsLooked h (Looked (InUse page word) ∷ steps)
looked_used None page word steps = tt
looked_used (Some entry) page word steps = refl

-- what was done before does not change how a part ends
pub did_after : (X : Type 0) (line : ℕ) (a b c : Site) (P Q : X → List LoginStep → Type 0) (result : Result X NoMemory) (first : List LoginStep)
    → Runs line first a b → NoneEnds first → ((x : X) (steps : List LoginStep) → P x steps → Q x (steps ++ first)) → Did line b c P result → Did line a c Q result
did_after X line a b c P Q (Ok x) first runs none more did = record {
  steps = did.steps ++ first;
  runs = runs_after line first did.steps a b c runs did.runs;
  ends = more x did.steps did.ends;
}
did_after X line a b c P Q (Err memory) first runs none more did = record {
  steps = did.steps ++ first;
  runs = runs_after line first did.steps a b c runs did.runs;
  ends = ends_with_append RanOut did.steps first did.ends none;
}

-- the hands in the queue and the window stay
pub hands : (cs : Bool) (os : Bool) (s s' : ClientState) (e e' : EndState) (w w' : PortState) → SameHands (site s (ports cs e os w)) (site s' (ports cs e' os w'))
hands cs os s s' e e' w w' = record { crq = refl; own = refl }

pub same_end : (a : EndState) → OnlyReserves a a
same_end a = record { place = refl; last_session = refl; registered = refl; kept = refl; sent = refl; drops = refl; taken = refl; counts = refl }

pub same_window : (shared : Bool) (a b : PortState) → b ≡ a → LaysNone shared a b
same_window shared a b is = subst (LaysNone shared a) (sym is) (lays_none shared a)

pub took_true : (shared : Bool) (s s' : ClientState) (old new : EndState) (b : Bool) → b ≡ true → TookAs shared s s' old new b → TakesNext shared s s' old new
took_true shared s s' old new b is took = subst (TookAs shared s s' old new) is took

-- the entry that is held, once it was taken
pub held_by : (s s' : ClientState) (entry : Entry) → s' ≡ record s { held = Some entry } → s'.held ≡ Some entry
held_by s s' entry is = ap (λ (s : ClientState). s.held) is

pub looks_from : (shared : Bool) (s s' : ClientState) (old new : PortState) (found : Found) (entry : Entry) → s.held ≡ Some entry
    → IfSome s.held (λ e. Finds shared s e old new found × (s' ≡ found_by e found s)) → OnlyReads shared old new → Looks shared s s' old new found
looks_from shared s s' old new found entry is looks reads =
    let at : Finds shared s entry old new found × (s' ≡ found_by entry found s) = subst (λ h. IfSome h (λ e. Finds shared s e old new found × (s' ≡ found_by e found s))) is looks in
    record { entry = entry; held = is; finds = at.0; reads = reads; client = at.1 }

pub some_held : (h : Option Entry) (e : Entry) → h ≡ Some e → IsSome h
some_held h e is = subst (λ (o : Option Entry). IsSome o) (sym is) refl

pub looks_some : (shared : Bool) (s s' : ClientState) (old new : PortState) (found : Found) (h : Option Entry) → s.held ≡ h → IsSome h
    → IfSome s.held (λ e. Finds shared s e old new found × (s' ≡ found_by e found s)) → OnlyReads shared old new → Looks shared s s' old new found
looks_some shared s s' old new found None is some looks reads = absurd (cc)
looks_some shared s s' old new found (Some entry) is some looks reads = looks_from shared s s' old new found entry is looks reads
