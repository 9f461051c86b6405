-- What a plain client is owed: a login that its server unit granted, and of which it does not know yet. It is owed none but while its login
-- is under way.
use Rattle.std.proofs.Common.{◌≡◌, ◌∙◌, ◌⊎◌, inl, inr, ℕ, ◌+◌, ◌≤◌, ◌++◌, ◌∷◌, ◌&&◌, not, nat_le, Bool, true, false, true≢false, cond, List, [], is_some, map, refl, sym, ap, arith}
use Rattle.crq_session.specs.declared.handshake.Handshake.TheVariants.{Down, Up, Waiting}
use Rattle.srp_iu.specs.declared.login.TheConstants.{UNABLE_TO_ESTABLISH_CHANNEL}
use Rattle.vio_trace.specs.declared.outcome.Outcome.{Outcome}
use Rattle.vio_trace.specs.declared.outcome.Outcome.TheVariants as outcomes
use Rattle.block_server.specs.Talk.{Word}
use Rattle.block_server.specs.declared.unit.Unit.{Unit}
use Rattle.unit_region.specs.Steps.{IsPlainStep, is_plain}
use Rattle.unit_region.specs.declared.step.Step.{Step}
use Rattle.unit_region.specs.declared.step.Step.TheVariants as steps
use Rattle.vscsi_client.specs.declared.stage.Stage.TheVariants.{Idle}
use Rattle.vcpu_run.specs.Credited.{grants}
use Rattle.vcpu_run.specs.PlainSteps.{IsLoggingIn, IsLoginReplayed, MayLogIn, granted_by}
use Rattle.vcpu_run.specs.PlainTalk.{Ask, Between, HearsOfGone, InPhase, TalksPlainly, all_asked, has_login, has_logout, is_login, is_logout, is_sent, logs_out, on_behind, owes, word_of}
use Rattle.vcpu_run.specs.Replay.{Replay, login_says}

-- ---- what it takes

pub record IsOwed (at : Between) (words : List Word) : Type 0 where
  pub registered : at.own.registered ≡ true
  pub unknown : is_some at.client.granted ≡ false
  pub taking : at.unit.logins.taking ≡ true
  pub goes_on : logs_out words ≡ false

-- one, or none
abbrev pub one_if : Bool → ℕ
one_if b = cond b 1 0

none_of : (a b c d : Bool) → (a ≡ false) ⊎ ((b ≡ true) ⊎ ((c ≡ false) ⊎ (d ≡ true))) → one_if (a && (not b && (c && not d))) ≡ 0
none_of false b c d why = refl
none_of true true c d why = refl
none_of true false false d why = refl
none_of true false true true why = refl
none_of true false true false (inl e) = absurd (true≢false e)
none_of true false true false (inr (inl e)) = absurd (true≢false (sym e))
none_of true false true false (inr (inr (inl e))) = absurd (true≢false e)
none_of true false true false (inr (inr (inr e))) = absurd (true≢false (sym e))

one_of : (a b c d : Bool) → a ≡ true → b ≡ false → c ≡ true → d ≡ false → one_if (a && (not b && (c && not d))) ≡ 1
one_of true false true false e f g h = refl
one_of false b c d e f g h = absurd (true≢false (sym e))
one_of true true c d e f g h = absurd (true≢false f)
one_of true false false d e f g h = absurd (true≢false (sym g))
one_of true false true true e f g h = absurd (true≢false h)

few_of : (b : Bool) → one_if b ≤ 1
few_of true = omega arith
few_of false = omega arith

pub owes_few : (at : Between) (words : List Word) → owes at words ≤ 1
owes_few at words = few_of (at.own.registered && (not (is_some at.client.granted) && (at.unit.logins.taking && not (logs_out words))))

pub owes_none : (at : Between) (words : List Word)
    → (at.own.registered ≡ false) ⊎ ((is_some at.client.granted ≡ true) ⊎ ((at.unit.logins.taking ≡ false) ⊎ (logs_out words ≡ true))) → owes at words ≡ 0
owes_none at words why = none_of at.own.registered (is_some at.client.granted) at.unit.logins.taking (logs_out words) why

pub owes_one : (at : Between) (words : List Word) → IsOwed at words → owes at words ≡ 1
owes_one at words is = one_of at.own.registered (is_some at.client.granted) at.unit.logins.taking (logs_out words) is.registered is.unknown is.taking is.goes_on

pub owed_or : (at : Between) (words : List Word) → (owes at words ≡ 0) ⊎ IsOwed at words
owed_or at words = by at.own.registered (is_some at.client.granted) at.unit.logins.taking (logs_out words) refl refl refl refl
  where
    by : (a b c d : Bool) → at.own.registered ≡ a → is_some at.client.granted ≡ b → at.unit.logins.taking ≡ c → logs_out words ≡ d → (owes at words ≡ 0) ⊎ IsOwed at words
    by false b c d e f g h = inl (owes_none at words (inl e))
    by true true c d e f g h = inl (owes_none at words (inr (inl f)))
    by true false false d e f g h = inl (owes_none at words (inr (inr (inl g))))
    by true false true true e f g h = inl (owes_none at words (inr (inr (inr h))))
    by true false true false e f g h = inr (record { registered = e; unknown = f; taking = g; goes_on = h })

-- what is owed here is owed there
pub owes_less : (at at' : Between) (words words' : List Word) → (IsOwed at' words' → IsOwed at words) → owes at' words' ≤ owes at words
owes_less at at' words words' moves = by (owed_or at' words')
  where
    by : (owes at' words' ≡ 0) ⊎ IsOwed at' words' → owes at' words' ≤ owes at words
    by (inl none) = omega (arith, none)
    by (inr is) = let one : owes at words ≡ 1 = owes_one at words (moves is) in omega (arith, owes_few at' words', one)

-- ---- logins and logouts among what is asked

and_not : (a b : Bool) → (a && not b) ≡ true → (a ≡ true) × (b ≡ false)
and_not true false is = (refl, refl)
and_not true true is = absurd (true≢false (sym is))
and_not false b is = absurd (true≢false (sym is))

and_both : (a b : Bool) → a ≡ true → b ≡ false → (a && not b) ≡ true
and_both true false is isnt = refl
and_both true true is isnt = absurd (true≢false isnt)
and_both false b is isnt = absurd (true≢false (sym is))

front_step : (b whole part : Bool) → (whole ≡ false → part ≡ false) → cond b true whole ≡ false → cond b true part ≡ false
front_step true whole part then' none = none
front_step false whole part then' none = then' none

rest_step : (b whole : Bool) → cond b true whole ≡ false → whole ≡ false
rest_step true whole none = absurd (true≢false none)
rest_step false whole none = none

login_front : (front rest : List Ask) → has_login (front ++ rest) ≡ false → has_login front ≡ false
login_front [] rest none = refl
login_front (ask ∷ front) rest none = front_step (is_login ask.iu) (has_login (front ++ rest)) (has_login front) (λ e. login_front front rest e) none

login_rest : (front rest : List Ask) → has_login (front ++ rest) ≡ false → has_login rest ≡ false
login_rest [] rest none = none
login_rest (ask ∷ front) rest none = login_rest front rest (rest_step (is_login ask.iu) (has_login (front ++ rest)) none)

logout_front : (front rest : List Ask) → has_logout (front ++ rest) ≡ false → has_logout front ≡ false
logout_front [] rest none = refl
logout_front (ask ∷ front) rest none = front_step (is_logout ask.iu) (has_logout (front ++ rest)) (has_logout front) (λ e. logout_front front rest e) none

both_step : (b part whole : Bool) → (part ≡ false → whole ≡ false) → cond b true part ≡ false → cond b true whole ≡ false
both_step true part whole then' none = none
both_step false part whole then' none = then' none

logout_both : (front rest : List Ask) → has_logout front ≡ false → has_logout rest ≡ false → has_logout (front ++ rest) ≡ false
logout_both [] rest none no' = no'
logout_both (ask ∷ front) rest none no' = both_step (is_logout ask.iu) (has_logout front) (has_logout (front ++ rest)) (λ e. logout_both front rest e no') none

asked_out : (coming : List Ask) → logs_out (map word_of coming) ≡ has_logout coming
asked_out [] = refl
asked_out (ask ∷ coming) = ap (λ b. cond (is_logout ask.iu) true b) (asked_out coming)

keep_step : (l o logout : Bool) (behind : Bool → Bool) → (logout ≡ false → behind true ≡ true) → cond o true logout ≡ false → cond l true (behind (cond o false true)) ≡ true
keep_step l true logout behind then' none = absurd (true≢false none)
keep_step true false logout behind then' none = refl
keep_step false false logout behind then' none = then' none

-- no logout: what is on goes on
on_keeps : (asked : List Ask) → has_logout asked ≡ false → on_behind true asked ≡ true
on_keeps [] none = refl
on_keeps (ask ∷ more) none = keep_step (is_login ask.iu) (is_logout ask.iu) (has_logout more) (λ b. on_behind b more) (λ e. on_keeps more e) none

on_step : (on l o login logout : Bool) (behind : Bool → Bool) → ((b : Bool) → login ≡ false → behind b ≡ true → (b ≡ true) × (logout ≡ false)) → cond l true login ≡ false
    → cond l on (behind (cond o false on)) ≡ true → (on ≡ true) × (cond o true logout ≡ false)
on_step on true o login logout behind then' none is = absurd (true≢false none)
on_step on false true login logout behind then' none is = absurd (true≢false (sym (then' false none is).0))
on_step on false false login logout behind then' none is = then' on none is

-- no login: what is on behind these was on, and none logs out
on_was : (on : Bool) (asked : List Ask) → has_login asked ≡ false → on_behind on asked ≡ true → (on ≡ true) × (has_logout asked ≡ false)
on_was on [] none is = (is, refl)
on_was on (ask ∷ more) none is =
    on_step on (is_login ask.iu) (is_logout ask.iu) (has_login more) (has_logout more) (λ b. on_behind b more) (λ b e h. on_was b more e h) none is

-- ---- while no login is under way

-- a client that knows of no login has none
pub idle_untaken : (granted : ℕ) (at : Between) (words : List Word) → InPhase granted at words → at.own.registered ≡ true → is_some at.client.granted ≡ false → logs_out words ≡ false
    → at.client.login ≡ Idle → at.unit.logins.taking ≡ false
idle_untaken granted at words (inl away) there unknown goes idle = absurd (true≢false (sym there ∙ away.registered))
idle_untaken granted at words (inr (inl begun)) there unknown goes idle = begun.vacant.taking
idle_untaken granted at words (inr (inr (asked, answers, talk))) there unknown goes idle = by at.unit.logins.taking refl
  where
    no_login : has_login (all_asked asked) ≡ false
    no_login = talk.sent ∙ ap is_sent idle

    behind : on_behind (nat_le 1 at.unit.logins.current) (asked.pending ++ asked.coming) ≡ false
    behind = sym (talk.login.before (login_front asked.answered (asked.pending ++ asked.coming) no_login)) ∙ unknown

    coming : has_logout asked.coming ≡ false
    coming = sym (asked_out asked.coming) ∙ (ap logs_out (sym talk.coming) ∙ goes)

    by : (b : Bool) → at.unit.logins.taking ≡ b → at.unit.logins.taking ≡ false
    by false e = e
    by true e =
        let on = and_not (nat_le 1 at.unit.logins.current) (has_logout asked.pending) (sym talk.counts.taking ∙ e) in
        let all : has_logout (asked.pending ++ asked.coming) ≡ false = logout_both asked.pending asked.coming on.1 coming in
        absurd (true≢false (sym (on_keeps (asked.pending ++ asked.coming) all) ∙ (ap (λ b. on_behind b (asked.pending ++ asked.coming)) (sym on.0) ∙ behind)))

-- a login of which it knows goes on
pub known_taken : (granted : ℕ) (at : Between) (words : List Word) → InPhase granted at words → at.own.registered ≡ true → is_some at.client.granted ≡ true → at.client.login ≡ Idle
    → at.unit.logins.taking ≡ true
known_taken granted at words (inl away) there known idle = absurd (true≢false (sym there ∙ away.registered))
known_taken granted at words (inr (inl begun)) there known idle = absurd (true≢false (sym known ∙ ap is_some begun.granted))
known_taken granted at words (inr (inr (asked, answers, talk))) there known idle =
    let rest : List Ask = asked.pending ++ asked.coming in
    let no_login : has_login (all_asked asked) ≡ false = talk.sent ∙ ap is_sent idle in
    let behind : on_behind (nat_le 1 at.unit.logins.current) rest ≡ true = sym (talk.login.before (login_front asked.answered rest no_login)) ∙ known in
    let on = on_was (nat_le 1 at.unit.logins.current) rest (login_rest asked.answered rest no_login) behind in
    talk.counts.taking ∙ and_both (nat_le 1 at.unit.logins.current) (has_logout asked.pending) on.0 (logout_front asked.pending asked.coming on.1)

-- so has a client that is away
gone_untaken : (at : Between) → HearsOfGone at [] → at.unit.logins.taking ≡ false
gone_untaken at (inl one) = absurd (cc (one))
gone_untaken at (inr none) = none.1.taking

pub away_untaken : (granted : ℕ) (at : Between) → InPhase granted at [] → at.own.registered ≡ false → at.unit.logins.taking ≡ false
away_untaken granted at (inl away) off = gone_untaken at away.heard
away_untaken granted at (inr (inl begun)) off = begun.vacant.taking
away_untaken granted at (inr (inr (asked, answers, talk))) off = absurd (true≢false (sym talk.registered ∙ off))

-- and one that waits to hear of its server unit
pub waits_untaken : (granted : ℕ) (at : Between) (words : List Word) → InPhase granted at words → at.client.handshake ≡ Waiting → at.unit.logins.taking ≡ false
waits_untaken granted at words (inl away) waits = absurd (down (sym away.handshake ∙ waits))
  where
    down : Down ≡ Waiting → ⊥
    down e = cc (e)
waits_untaken granted at words (inr (inl begun)) waits = begun.vacant.taking
waits_untaken granted at words (inr (inr (asked, answers, talk))) waits = absurd (up (sym talk.handshake ∙ waits))
  where
    up : Up ≡ Waiting → ⊥
    up e = cc (e)

pub idle_owes : (granted : ℕ) (at : Between) (words : List Word) → TalksPlainly granted at words → at.client.login ≡ Idle → owes at words ≡ 0
idle_owes granted at words talks idle = by (owed_or at words)
  where
    by : (owes at words ≡ 0) ⊎ IsOwed at words → owes at words ≡ 0
    by (inl none) = none
    by (inr is) = absurd (true≢false (sym is.taking ∙ idle_untaken granted at words talks.phase is.registered is.unknown is.goes_on idle))

-- what a step tells that ends no login as granted
pub told_idle : (granted owed : ℕ) (at : Between) (words : List Word) (step : Step) → TalksPlainly granted at words → at.client.login ≡ Idle → granted_by step ≡ 0
    → granted_by step + owes at words ≤ owed
told_idle granted owed at words step talks idle none = omega (arith, none, idle_owes granted at words talks idle)

-- an outcome that changes no credit grants none
plain_grants : (outcome : Outcome) → is_plain outcome ≡ true → grants outcome ≡ false
plain_grants (outcomes.Granted credits) plain = absurd (true≢false (sym plain))
plain_grants outcome plain = refl

pub plain_none : (step : Step) → IsPlainStep step → granted_by step ≡ 0
plain_none (steps.Ends outcome) plain = ap one_if (plain_grants outcome plain)
plain_none (steps.Waits did) plain = refl

-- ---- a turn of a login

-- Where no login is on, none takes requests either, or the login was sent.
may_untaken : (granted : ℕ) (now : Replay) (at : Between) → TalksPlainly granted at [] → now.is_on ≡ false → MayLogIn granted now at
    → (at.unit.logins.taking ≡ false) ⊎ ((at.own.registered ≡ true) × (is_some at.client.granted ≡ false))
may_untaken granted now at talks off (inl (inl follows)) = inl (by at.own.registered refl)
  where
    by : (b : Bool) → at.own.registered ≡ b → at.unit.logins.taking ≡ false
    by false e = away_untaken granted at talks.phase e
    by true e = idle_untaken granted at [] talks.phase e (follows.credits.is_on ∙ off) refl follows.login
may_untaken granted now at talks off (inl (inr (inl awaits))) = inl (waits_untaken granted at [] talks.phase awaits.waits)
may_untaken granted now at talks off (inl (inr (inr sent))) = inr (sent.registered, sent.credits.is_on ∙ off)
may_untaken granted now at talks off (inr freed) = inl (away_untaken granted at talks.phase freed.0.registered)

-- so what is owed behind the turn was owed before it
owed_still : (granted : ℕ) (now : Replay) (at at' : Between) (words : List Word) → at'.unit ≡ at.unit → TalksPlainly granted at [] → MayLogIn granted now at → now.is_on ≡ false
    → at'.unit.logins.taking ≡ true → IsOwed at []
owed_still granted now at at' words unit talks may off taking = by (may_untaken granted now at talks off may)
  where
    taken : at.unit.logins.taking ≡ true
    taken = sym (ap (λ (u : Unit). u.logins.taking) unit) ∙ taking

    by : (at.unit.logins.taking ≡ false) ⊎ ((at.own.registered ≡ true) × (is_some at.client.granted ≡ false)) → IsOwed at []
    by (inl none) = absurd (true≢false (sym taken ∙ none))
    by (inr is) = record { registered = is.0; unknown = is.1; taking = taken; goes_on = refl }

says_grants : (granted : ℕ) (now : Replay) (outcome : Outcome) → outcome ≡ login_says granted now → grants outcome ≡ not now.is_on
says_grants granted now outcome is = ap grants is ∙ by now.is_on
  where
    by : (b : Bool) → grants (cond b (outcomes.Rejected UNABLE_TO_ESTABLISH_CHANNEL) (outcomes.Granted granted)) ≡ not b
    by true = refl
    by false = refl

pub logs_told : (granted : ℕ) (now : Replay) (at at' : Between) (words : List Word) (step : Step) → at'.unit ≡ at.unit → TalksPlainly granted at [] → MayLogIn granted now at
    → TalksPlainly granted at' words → IsLoginReplayed granted now at' words step → granted_by step + owes at' words ≤ owes at []
logs_told granted now at at' words (steps.Ends outcome) unit talks may talks' (says, follows) = by now.is_on refl
  where
    none : owes at' words ≡ 0
    none = idle_owes granted at' words talks' follows.login

    by : (b : Bool) → now.is_on ≡ b → one_if (grants outcome) + owes at' words ≤ owes at []
    by true on =
        let not_granted : one_if (grants outcome) ≡ 0 = ap one_if (says_grants granted now outcome says ∙ ap not on) in
        omega (arith, not_granted, none)
    by false off =
        let granted_one : one_if (grants outcome) ≡ 1 = ap one_if (says_grants granted now outcome says ∙ ap not off) in
        let taken : at'.unit.logins.taking ≡ true = known_taken granted at' words talks'.phase (follows.credits.there refl) follows.credits.is_on follows.login in
        let one : owes at [] ≡ 1 = owes_one at [] (owed_still granted now at at' words unit talks may off taken) in
        omega (arith, granted_one, none, one)
logs_told granted now at at' words (steps.Waits did) unit talks may talks' (logging, todo) = by (owed_or at' words)
  where
    off : IsOwed at' words → IsLoggingIn granted now at' → now.is_on ≡ false
    off is (inl follows) = sym follows.credits.is_on ∙ is.unknown
    off is (inr (inl awaits)) = awaits.off
    off is (inr (inr sent)) = sym sent.credits.is_on ∙ is.unknown

    by : (owes at' words ≡ 0) ⊎ IsOwed at' words → 0 + owes at' words ≤ owes at []
    by (inl none) = omega (arith, none)
    by (inr is) =
        let one : owes at [] ≡ 1 = owes_one at [] (owed_still granted now at at' words unit talks may (off is logging) is.taking) in
        omega (arith, owes_few at' words, one)
