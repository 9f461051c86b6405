-- What a turn of a login leaves of a client, and of what its records say.
use Rattle.std.proofs.Common.{◌≡◌, ◌∙◌, ◌⊎◌, inl, inr, ℕ, ◌||◌, ◌≤◌, cond, Bool, true, false, All, List, [], ◌∷◌, ◌++◌, Option, Some, None, Ok, length, min, refl, sym, ap, subst, arith, length-append}
use Rattle.std.specs.List.{Contains, list_any}
use Rattle.std.proofs.lemmas.List.Elements.{All-nil}
use Rattle.vio_num.specs.declared.entry.Entry.{Entry}
use Rattle.crq_session.specs.declared.answers.RegAnswer.{RegAnswer}
use Rattle.crq_session.specs.declared.answers.RegAnswer.TheVariants as reg
use Rattle.crq_session.specs.declared.answers.SendAnswer.{SendAnswer}
use Rattle.vscsi_client.specs.declared.answers.LoginTurn.{LoginTurn}
use Rattle.vscsi_client.specs.declared.answers.LoginTurn.TheVariants as turns
use Rattle.vscsi_client.specs.declared.found.Found.{Found}
use Rattle.vscsi_client.specs.declared.found.Found.TheVariants as found
use Rattle.vscsi_client.specs.declared.outgoing.Outgoing.{Outgoing}
use Rattle.vscsi_client.specs.declared.row.Row.TheVariants as rows
use Rattle.vscsi_client.specs.declared.stage.Due.{Due}
use Rattle.vscsi_client.specs.Login.{found_by}
use Rattle.vscsi_client.specs.State.{ClientState, next_tag}
use Rattle.vscsi_client.specs.Turned.{FollowOn, LoginStep, Looked, Began, NoneEnds, NotWritten, Put, RanOut, Registered, RegistersAs, Runs, Site, Steps, Took, TookNone, Turned, Wrote, ends_turn, is_dropped, part_after, part_of, is_found_used, sent_by, sent_stage}
use Rattle.vcpu_run.specs.Refusals.{LoginNow, begun_login}
use Rattle.vcpu_run.specs.Telling.{AgreesTold, SameTold}
use Rattle.lan_script.proofs.Order.{Each}
use Rattle.vcpu_run.proofs.Tellings.{agrees_same, same_of, same_told, told_on}

-- whether a step grants a login or loses it
abbrev pub is_change : Found → Bool
is_change (found.Granted credits) = true
is_change found.Lost = true
is_change _ = false

abbrev pub changes : LoginStep → Bool
changes (Looked f) = is_change f
changes _ = false

by_client : (s s' t : ClientState) → s' ≡ t → SameTold s t → SameTold s s'
by_client s s' t is same = subst (SameTold s) (sym is) same

put_told : (due : Due) (others : List Due) (answer : SendAnswer) (s : ClientState) → SameTold s (sent_by due others answer s)
put_told due others answer s = at (is_dropped answer)
  where
    at : (b : Bool) → SameTold s (cond b s (record s { due = others; login = sent_stage due s.login }))
    at true = same_told s
    at false = record { granted = refl; outgoing = refl; tags = omega arith }

found_told : (entry : Entry) (f : Found) (s s' : ClientState) → s' ≡ found_by entry f s → is_change f ≡ false → SameTold s s'
found_told entry (found.Granted credits) s s' is going = absurd (cc)
found_told entry (found.Rejected reason) s s' is going = by_client s s' _ is (record { granted = refl; outgoing = refl; tags = omega arith })
found_told entry found.Lost s s' is going = absurd (cc)
found_told entry found.Step s s' is going = by_client s s' _ is (record { granted = refl; outgoing = refl; tags = omega arith })
found_told entry found.Answer s s' is going = by_client s s' _ is (record { granted = refl; outgoing = refl; tags = omega arith })
found_told entry found.Nothing s s' is going = by_client s s' _ is (record { granted = refl; outgoing = refl; tags = omega arith })
found_told entry (found.InUse page word) s s' is going = by_client s s' _ is (record { granted = refl; outgoing = refl; tags = omega arith })

-- a step behind the registration that grants nothing and loses nothing
step_told : (line : ℕ) (step : LoginStep) (a b : Site) → Steps line step a b → changes step ≡ false → 1 ≤ part_of step → SameTold a.client b.client
step_told line (Registered answer) a b h going part = absurd (omega (arith, part))
step_told line Took a b h going part = by_client a.client b.client _ h.0.client (record { granted = refl; outgoing = refl; tags = omega arith })
step_told line TookNone a b h going part = same_of a.client b.client h.0.client
step_told line (Looked f) a b h going part = found_told h.0.entry f a.client b.client h.0.client going
step_told line Began a b h going part = by_client a.client b.client _ h.0.client (record { granted = refl; outgoing = refl; tags = omega arith })
step_told line Wrote a b h going part =
    by_client a.client b.client _ h.1.client (record { granted = refl; outgoing = refl; tags = let long = length-append a.client.rows (rows.Login ∷ []) in omega (arith, long) })
step_told line (NotWritten page word) a b h going part = same_of a.client b.client h.1.client
step_told line (Put due answer) a b h going part = by_client a.client b.client _ h.0.client (put_told due h.0.others answer a.client)
step_told line RanOut a b h going part = same_of a.client b.client h.client

first_of : (x y : Bool) → (x || y) ≡ false → (x ≡ false) × (y ≡ false)
first_of true y e = absurd (cc)
first_of false y e = (refl, e)

later_told : (line : ℕ) (steps : List LoginStep) (a b : Site) → Runs line steps a b → list_any changes steps ≡ false → Each (λ step. 1 ≤ part_of step) steps → SameTold a.client b.client
later_told line [] a b runs going parts = same_of a.client b.client (ap (λ (t : Site). t.client) runs)
later_told line (step ∷ steps) a b runs going parts =
    let both = first_of (changes step) (list_any changes steps) going in
    told_on a.client runs.0.client b.client (later_told line steps a runs.0 runs.1 both.1 parts.1) (step_told line step runs.0 b runs.2 both.0 parts.0)

-- no tag is used again by any step
any_tags : (line : ℕ) (step : LoginStep) (a b : Site) → Steps line step a b → next_tag a.client ≤ next_tag b.client
any_tags line (Registered answer) a b h = at answer h.0.registers
  where
    at : (answer : RegAnswer) → RegistersAs a.at.crq_shared a.client b.client h.0.room b.at.crq answer → next_tag a.client ≤ next_tag b.client
    at reg.Resource r = (same_of a.client b.client r.2).tags
    at reg.Success r = let long = ap next_tag r.2 in omega (arith, long)
    at (reg.Closed control) r = let long = ap next_tag r.2 in omega (arith, long)
    at (reg.Busy number held) r = let long = ap next_tag r.1 in omega (arith, long)
    at reg.Parameter r = absurd r
any_tags line (Looked f) a b h = at f h.0.client
  where
    at : (f : Found) → b.client ≡ found_by h.0.entry f a.client → next_tag a.client ≤ next_tag b.client
    at (found.Granted credits) is = let long = ap next_tag is in omega (arith, long)
    at (found.Rejected reason) is = let long = ap next_tag is in omega (arith, long)
    at found.Lost is = let long = ap next_tag is in omega (arith, long)
    at found.Step is = let long = ap next_tag is in omega (arith, long)
    at found.Answer is = let long = ap next_tag is in omega (arith, long)
    at found.Nothing is = let long = ap next_tag is in omega (arith, long)
    at (found.InUse page word) is = let long = ap next_tag is in omega (arith, long)
any_tags line Took a b h = (step_told line Took a b h refl (omega arith)).tags
any_tags line TookNone a b h = (step_told line TookNone a b h refl (omega arith)).tags
any_tags line Began a b h = (step_told line Began a b h refl (omega arith)).tags
any_tags line Wrote a b h = (step_told line Wrote a b h refl (omega arith)).tags
any_tags line (NotWritten page word) a b h = (step_told line (NotWritten page word) a b h refl (omega arith)).tags
any_tags line (Put due answer) a b h = (step_told line (Put due answer) a b h refl (omega arith)).tags
any_tags line RanOut a b h = (step_told line RanOut a b h refl (omega arith)).tags

runs_tags : (line : ℕ) (steps : List LoginStep) (a b : Site) → Runs line steps a b → next_tag a.client ≤ next_tag b.client
runs_tags line [] a b runs = (same_of a.client b.client (ap (λ (t : Site). t.client) runs)).tags
runs_tags line (step ∷ steps) a b runs = let before = runs_tags line steps a runs.0 runs.1 in let now = any_tags line step runs.0 b runs.2 in omega (arith, before, now)

-- the registration is the first step
pub split_runs : (line : ℕ) (answer : RegAnswer) (later : List LoginStep) (a c : Site) → Runs line (later ++ Registered answer ∷ []) a c
    → (b : Site) × Steps line (Registered answer) a b × Runs line later b c
split_runs line answer [] a c runs = (c, subst (λ t. Steps line (Registered answer) t c) runs.1 runs.2, refl)
split_runs line answer (step ∷ later) a c runs =
    let rest = split_runs line answer later a runs.0 runs.1 in (rest.0, rest.1, (runs.0, rest.2, runs.2, runs.3))

none_front : (xs ys : List LoginStep) → list_any changes (xs ++ ys) ≡ false → list_any changes xs ≡ false
none_front [] ys e = refl
none_front (x ∷ xs) ys e = let both = first_of (changes x) (list_any changes (xs ++ ys)) e in at (changes x) both.0 (none_front xs ys both.1)
  where
    at : (b : Bool) → b ≡ false → list_any changes xs ≡ false → (b || list_any changes xs) ≡ false
    at true e later = absurd (cc)
    at false e later = later

pub reached : (steps : List LoginStep) → 1 ≤ part_after 1 steps
reached [] = omega arith
reached (Registered answer ∷ steps) = omega arith
reached (Took ∷ steps) = omega arith
reached (TookNone ∷ steps) = omega arith
reached (Looked f ∷ steps) = at (is_found_used f)
  where
    at : (b : Bool) → 1 ≤ cond b 2 1
    at true = omega arith
    at false = omega arith
reached (Began ∷ steps) = omega arith
reached (Wrote ∷ steps) = omega arith
reached (NotWritten page word ∷ steps) = omega arith
reached (Put due answer ∷ steps) = at (is_dropped answer)
  where
    at : (b : Bool) → 1 ≤ cond b 3 2
    at true = omega arith
    at false = omega arith
reached (RanOut ∷ steps) = omega arith

parts_behind : (steps : List LoginStep) → FollowOn 1 steps → Each (λ step. 1 ≤ part_of step) steps
parts_behind [] follow = tt
parts_behind (step ∷ steps) follow = let least = reached steps in (omega (arith, least, follow.0), parts_behind steps follow.1)

-- What a turn leaves that grants nothing and loses nothing: the queue was registered, and the login is as before; or it was not, and none is on.
abbrev pub GoesOn : Site → Site → Type 0
GoesOn a b = ((a.at.crq.registered ≡ true) × SameTold a.client b.client) ⊎ ((a.at.crq.registered ≡ false) × (b.client.granted ≡ None))

registers_told : (line : ℕ) (answer : RegAnswer) (a b : Site) → Steps line (Registered answer) a b → GoesOn a b
registers_told line answer a b h = at answer h.0.registers
  where
    at : (answer : RegAnswer) → RegistersAs a.at.crq_shared a.client b.client h.0.room b.at.crq answer → GoesOn a b
    at reg.Resource r = inl (sym h.0.ready.registered ∙ r.0, same_of a.client b.client r.2)
    at reg.Success r = inr (sym h.0.ready.registered ∙ r.0.unregistered, ap (λ (t : ClientState). t.granted) r.2)
    at (reg.Closed control) r = inr (sym h.0.ready.registered ∙ r.0.unregistered, ap (λ (t : ClientState). t.granted) r.2)
    at (reg.Busy number held) r = inr (sym h.0.ready.registered ∙ r.0.unregistered, ap (λ (t : ClientState). t.granted) r.1)
    at reg.Parameter r = absurd r

goes_on : (a b c : Site) → GoesOn a b → SameTold b.client c.client → GoesOn a c
goes_on a b c (inl x) same = inl (x.0, told_on a.client b.client c.client x.1 same)
goes_on a b c (inr x) same = inr (x.0, same.granted ∙ x.1)

turn_goes : (line : ℕ) (a b : Site) (turn : LoginTurn) (turned : Turned line a b (Ok turn)) → list_any changes turned.steps ≡ false → GoesOn a b
turn_goes line a b turn turned going =
    let order = turned.ends.2 in
    let runs : Runs line (order.later ++ Registered order.answer ∷ []) a b = subst (λ (steps : List LoginStep). Runs line steps a b) order.is turned.runs in
    let parts = split_runs line order.answer order.later a b runs in
    let none : list_any changes order.later ≡ false =
    none_front order.later (Registered order.answer ∷ []) (ap (list_any changes) (sym order.is) ∙ going) in
    goes_on a parts.0 b (registers_told line order.answer a parts.0 parts.1) (later_told line order.later parts.0 b parts.2 none (parts_behind order.later order.order))

-- steps that do not end a turn grant nothing and lose nothing
going_none : (step : LoginStep) → ends_turn step ≡ false → changes step ≡ false
going_none (Registered answer) e = refl
going_none Took e = refl
going_none TookNone e = refl
going_none (Looked (found.Granted credits)) e = absurd (cc)
going_none (Looked (found.Rejected reason)) e = absurd (cc)
going_none (Looked found.Lost) e = absurd (cc)
going_none (Looked found.Step) e = refl
going_none (Looked found.Answer) e = refl
going_none (Looked found.Nothing) e = refl
going_none (Looked (found.InUse page word)) e = refl
going_none Began e = refl
going_none Wrote e = refl
going_none (NotWritten page word) e = refl
going_none (Put due answer) e = refl
going_none RanOut e = refl

none_changes : (steps : List LoginStep) → NoneEnds steps → list_any changes steps ≡ false
none_changes [] going = refl
none_changes (step ∷ steps) going =
    let both = first_of (ends_turn step) (list_any ends_turn steps) going in at (changes step) (going_none step both.0) (none_changes steps both.1)
  where
    at : (b : Bool) → b ≡ false → list_any changes steps ≡ false → (b || list_any changes steps) ≡ false
    at true e later = absurd (cc)
    at false e later = later

-- what each answer leaves
abbrev pub TurnTold : LoginTurn → Site → Site → Type 0
TurnTold (turns.Granted credits) a b = (b.client.granted ≡ Some (min credits 200)) × (b.client.outgoing ≡ [])
TurnTold turns.Lost a b = b.client.granted ≡ None
TurnTold _ a b = GoesOn a b

last_step : (line : ℕ) (step : LoginStep) (rest all : List LoginStep) (a b : Site) → all ≡ step ∷ rest → Runs line all a b → Runs line (step ∷ rest) a b
last_step line step rest all a b is runs = subst (λ (ss : List LoginStep). Runs line ss a b) is runs

pub turn_tells : (line : ℕ) (a b : Site) (turn : LoginTurn) → Turned line a b (Ok turn) → TurnTold turn a b
turn_tells line a b (turns.Granted credits) turned =
    let r = last_step line (Looked (found.Granted credits)) turned.ends.1.rest turned.steps a b turned.ends.1.is turned.runs in
    (ap (λ (t : ClientState). t.granted) r.2.0.client, ap (λ (t : ClientState). t.outgoing) r.2.0.client)
turn_tells line a b turns.Lost turned =
    let r = last_step line (Looked found.Lost) turned.ends.1.rest turned.steps a b turned.ends.1.is turned.runs in
    ap (λ (t : ClientState). t.granted) r.2.0.client
turn_tells line a b (turns.Rejected reason) turned =
    turn_goes line a b (turns.Rejected reason) turned (ap (list_any changes) turned.ends.1.is ∙ none_changes turned.ends.1.rest turned.ends.1.going)
turn_tells line a b turns.Again turned = turn_goes line a b turns.Again turned (none_changes turned.steps turned.ends.1.going)
turn_tells line a b (turns.Busy number held) turned =
    turn_goes line a b (turns.Busy number held) turned (ap (list_any changes) turned.ends.1.is ∙ none_changes turned.ends.1.rest turned.ends.1.going)

pub turn_tags : (line : ℕ) (a b : Site) (turn : LoginTurn) → Turned line a b (Ok turn) → next_tag a.client ≤ next_tag b.client
turn_tags line a b turn turned = runs_tags line turned.steps a b turned.runs

-- a login that was granted
pub granted_told : (credits : ℕ) (s : ClientState) → (s.granted ≡ Some (min credits 200)) × (s.outgoing ≡ []) → AgreesTold 0 (Some (begun_login credits)) s
granted_told credits s h = record {
  granted = h.0;
  outstanding = let none = ap length h.1 in omega (arith, none);
  within = let none = ap length h.1 in omega (arith, none);
  asked = subst (All (λ (o : Outgoing). Contains [] o.tag)) (sym h.1) (All-nil (λ (o : Outgoing). Contains [] o.tag));
}

-- a client that is logged in nowhere agrees with records of no login
none_told : (taken taken' : ℕ) (login : Option LoginNow) (s s' : ClientState) → s.granted ≡ None → s'.granted ≡ None → AgreesTold taken login s → AgreesTold taken' login s'
none_told taken taken' None s s' none none' agrees = none'
none_told taken taken' (Some l) s s' none none' agrees = absurd (both (sym none ∙ agrees.granted))
  where
    both : None ≡ Some (min l.granted 200) → ⊥
    both e = cc

-- what a turn that goes on leaves of a client that agrees with the records
pub record LeavesLogin (taken : ℕ) (login : Option LoginNow) (s' : ClientState) (registered' : Bool) : Type 0 where
  pub agrees : AgreesTold taken login s'
  pub queue : (s'.granted ≡ None) ⊎ (registered' ≡ true)

-- a flag is not both
pub true_false : (b : Bool) → b ≡ true → b ≡ false → ⊥
true_false b one other = cc

pub leaves_login : (taken : ℕ) (login : Option LoginNow) (x y : Site) → GoesOn x y → AgreesTold taken login x.client → (x.client.granted ≡ None) ⊎ (x.at.crq.registered ≡ true)
    → (registered' : Bool) → (x.at.crq.registered ≡ true → registered' ≡ true) → LeavesLogin taken login y.client registered'
leaves_login taken login x y (inl goes) agrees queue registered' keeps = record { agrees = agrees_same taken login x.client y.client goes.1 agrees; queue = inr (keeps goes.0) }
leaves_login taken login x y (inr goes) agrees (inl none) registered' keeps = record { agrees = none_told taken taken login x.client y.client none goes.1 agrees; queue = inl goes.1 }
leaves_login taken login x y (inr goes) agrees (inr is) registered' keeps = absurd (true_false (x.at.crq.registered) is goes.0)
