-- The logins that a server unit granted within a turn, while its client talks to it: each has its line, and so has one of which the client is yet
-- to hear; also where the session ends in the turn.
use Rattle.std.proofs.Common.{◌≡◌, ◌∙◌, ◌⊎◌, inl, inr, ℕ, ◌+◌, ◌≤◌, ◌++◌, ◌&&◌, ◌≢◌, not, Bool, true, false, true≢false, cond, List, [], ◌∷◌, None, map, refl, sym, ap, ap₂, subst, arith}
use Rattle.crq_session.specs.EndState.{EndState}
use Rattle.srp_iu.specs.declared.unit.Iu.{Iu}
use Rattle.vio_num.specs.declared.history.Grant.{Grant}
use Rattle.vio_num.specs.declared.history.Served.{Served}
use Rattle.vio_num.specs.declared.names.UnitId.{UnitId}
use Rattle.block_server.specs.Doings.{CallsOnly, Does, DoesOne, Doing, DropsAll, KeepsEntry, LeadsOver, LogsOutFirst, LosesEntry, Prepares, PutsEntry, SettlesEvent, SettlesLogin, TakesRequest, WritesAnswer}
use Rattle.block_server.specs.Granting.{LoginState}
use Rattle.block_server.specs.Talk.{Word, to_come}
use Rattle.block_server.specs.declared.request.Request.{Request}
use Rattle.block_server.specs.declared.service.Outcome.{Outcome}
use Rattle.block_server.specs.declared.service.Outcome.TheVariants as outcomes
use Rattle.vscsi_client.specs.State.{ClientState}
use Rattle.vcpu_run.specs.OwnOver.{LoginLast}
use Rattle.vcpu_run.specs.OwnRows.{KeepsRows}
use Rattle.vcpu_run.specs.OwnTurns.{IsServedAt, StillTalks, TalksWithin}
use Rattle.vcpu_run.specs.PlainClients.{grants_of}
use Rattle.vcpu_run.specs.PlainTalk.{ArePending, Ask, AskedParts, Between, IsCalm, IsTalking, all_asked, grants_one, has_login, has_logout, is_grant, is_granted, is_login, logs_out, owes, word_of}
use Rattle.vcpu_run.proofs.OverOwes.{OwesOver, credit_of, credit_few, grant_line, lines_more, owes_does}
use Rattle.vcpu_run.proofs.OverRows.{over_rows}
use Rattle.vcpu_run.proofs.OwnDrops.{drops_over, order_login}
use Rattle.vcpu_run.proofs.OwnIdle.{calls_only, settles_none}
use Rattle.vcpu_run.proofs.OwnNever.{never_datagram, never_frees, never_inits, never_loses, never_opens, never_passes, never_sends}
use Rattle.vcpu_run.proofs.OwnOuts.{logs_on}
use Rattle.vcpu_run.proofs.OwnPrepares.{prepares_on}
use Rattle.vcpu_run.proofs.OwnPuts.{keeps_entry, over_first, puts_on}
use Rattle.vcpu_run.proofs.OwnRowsDo.{rows_does}
use Rattle.vcpu_run.proofs.OwnSame.{still_same, still_served}
use Rattle.vcpu_run.proofs.OwnStarts.{doing_of, still_begins}
use Rattle.vcpu_run.proofs.OwnTakes.{takes_on}
use Rattle.vcpu_run.proofs.OwnWrites.{writes_on}
use Rattle.vcpu_run.proofs.PlainAsks.{no_front}
use Rattle.vcpu_run.proofs.PlainLists.{answers_plain}
use Rattle.vcpu_run.proofs.PlainOwed.{owes_one}
use Rattle.vcpu_run.proofs.PlainServed.{at_least, pending_first}

-- The two talk still; so many logins, and that one, have their lines.
pub record OwesTalks (many granted : ℕ) (d : Doing) (s : ClientState) (own : EndState) (coming0 whole0 : List Ask) : Type 0 where
  pub still : StillTalks granted d s own coming0 whole0
  pub owed : many + credit_of still.answers ≤ grants_of d.id d.lines

-- or it is over
abbrev pub OwesEither : (many granted : ℕ) → Doing → ClientState → EndState → (coming0 whole0 : List Ask) → Type 0
OwesEither many granted d s own coming0 whole0 = OwesTalks many granted d s own coming0 whole0 ⊎ OwesOver many granted false d s own

-- ---- what is owed

-- the answers are the same, and so are the lines
owed_lines : (many : ℕ) (d d' : Doing) (answers : List Iu) → d'.id ≡ d.id → d'.lines ≡ d.lines → many + credit_of answers ≤ grants_of d.id d.lines
    → many + credit_of answers ≤ grants_of d'.id d'.lines
owed_lines many d d' answers id lines owed =
    subst (λ (unit : UnitId). many + credit_of answers ≤ grants_of unit d'.lines) (sym id)
    (subst (λ (list : List Grant). many + credit_of answers ≤ grants_of d.id list) (sym lines) owed)

-- an answer that grants none adds no credit
credit_push : (answers : List Iu) (answer : Iu) → is_granted answer ≡ false → grants_one (answers ++ answer ∷ []) ≡ grants_one answers
credit_push [] answer isnt = ap (λ b. cond b true false) isnt
credit_push (first ∷ answers) answer isnt = ap (λ b. cond (is_granted first) true b) (credit_push answers answer isnt)

owed_plain : (many : ℕ) (id : UnitId) (lines lines' : List Grant) (answers : List Iu) (answer : Iu) → is_granted answer ≡ false → lines' ≡ lines
    → many + credit_of answers ≤ grants_of id lines → many + credit_of (answers ++ answer ∷ []) ≤ grants_of id lines'
owed_plain many id lines lines' answers answer isnt same owed =
    subst (λ (list : List Grant). many + credit_of (answers ++ answer ∷ []) ≤ grants_of id list) (sym same)
    (subst (λ b. many + cond b 1 0 ≤ grants_of id lines) (sym (credit_push answers answer isnt)) owed)

-- an answer more is to come: a login that it grants has its line
owed_put : (many : ℕ) (outcome : Outcome) (id : UnitId) (logins logins' : LoginState) (lines lines' : List Grant) (answers : List Iu) (answer : Iu) → is_granted answer ≡ is_grant outcome
    → SettlesLogin outcome id logins logins' lines lines' → many + credit_of answers ≤ grants_of id lines → many + credit_of (answers ++ answer ∷ []) ≤ grants_of id lines'
owed_put many (outcomes.Granted number) id logins logins' lines lines' answers answer is settles owed =
    let line = grant_line (outcomes.Granted number) id logins logins' lines lines' refl settles in
    omega (arith, owed, credit_few (answers ++ answer ∷ []), line)
owed_put many outcome id logins logins' lines lines' answers answer is settles owed = owed_plain many id lines lines' answers answer is settles.1 owed

-- ---- a step

-- the answers are the same
owes_still : (many granted : ℕ) (d d' : Doing) (s : ClientState) (own : EndState) (coming0 whole0 : List Ask) (was : OwesTalks many granted d s own coming0 whole0)
    → (still : StillTalks granted d' s own coming0 whole0) → still.answers ≡ was.still.answers → d'.id ≡ d.id → d'.lines ≡ d.lines → OwesEither many granted d' s own coming0 whole0
owes_still many granted d d' s own coming0 whole0 was still same id lines = inl (record {
  still = still;
  owed = subst (λ (answers : List Iu). many + credit_of answers ≤ grants_of d'.id d'.lines) (sym same) (owed_lines many d d' was.still.answers id lines was.owed);
})

owes_calls : (many granted : ℕ) (d d' : Doing) (s : ClientState) (own : EndState) (coming0 whole0 : List Ask) → OwesTalks many granted d s own coming0 whole0 → CallsOnly d d'
    → OwesEither many granted d' s own coming0 whole0
unfolding calls_only still_same still_served
owes_calls many granted d d' s own coming0 whole0 is step =
    owes_still many granted d d' s own coming0 whole0 is (calls_only granted d d' s own coming0 whole0 step is.still) refl step.stays.id step.aside.lines

owes_settles : (many granted : ℕ) (d d' : Doing) (s : ClientState) (own : EndState) (coming0 whole0 : List Ask) → OwesTalks many granted d s own coming0 whole0 → SettlesEvent d d'
    → OwesEither many granted d' s own coming0 whole0
unfolding settles_none still_same still_served
owes_settles many granted d d' s own coming0 whole0 is step =
    owes_still many granted d d' s own coming0 whole0 is (settles_none granted d d' s own coming0 whole0 step is.still) refl step.stays.id step.aside.lines

owes_takes : (many granted : ℕ) (d d' : Doing) (s : ClientState) (own : EndState) (coming0 whole0 : List Ask) → OwesTalks many granted d s own coming0 whole0 → TakesRequest d d'
    → OwesEither many granted d' s own coming0 whole0
unfolding takes_on
owes_takes many granted d d' s own coming0 whole0 is step =
    owes_still many granted d d' s own coming0 whole0 is (takes_on granted d d' s own coming0 whole0 step is.still) refl step.stays.id step.lines

owes_prepares : (many granted : ℕ) (d d' : Doing) (s : ClientState) (own : EndState) (coming0 whole0 : List Ask) → OwesTalks many granted d s own coming0 whole0 → Prepares d d'
    → OwesEither many granted d' s own coming0 whole0
unfolding prepares_on
owes_prepares many granted d d' s own coming0 whole0 is step =
    owes_still many granted d d' s own coming0 whole0 is (prepares_on granted d d' s own coming0 whole0 step is.still) refl step.stays.id step.lines

owes_writes : (many granted : ℕ) (d d' : Doing) (s : ClientState) (own : EndState) (coming0 whole0 : List Ask) → OwesTalks many granted d s own coming0 whole0 → WritesAnswer d d'
    → OwesEither many granted d' s own coming0 whole0
unfolding writes_on
owes_writes many granted d d' s own coming0 whole0 is step =
    owes_still many granted d d' s own coming0 whole0 is (writes_on granted d d' s own coming0 whole0 step is.still) refl step.stays.id step.lines

owes_keeps : (many granted : ℕ) (d d' : Doing) (s : ClientState) (own : EndState) (coming0 whole0 : List Ask) → OwesTalks many granted d s own coming0 whole0 → KeepsEntry d d'
    → OwesEither many granted d' s own coming0 whole0
unfolding keeps_entry still_served
owes_keeps many granted d d' s own coming0 whole0 is step =
    owes_still many granted d d' s own coming0 whole0 is (keeps_entry granted d d' s own coming0 whole0 step is.still) refl step.stays.id step.lines

-- the lines grow by one that grants no login
owes_more : (many granted : ℕ) (d d' : Doing) (answers : List Iu) (more : List Grant) → d'.id ≡ d.id → d'.lines ≡ d.lines ++ more → many + credit_of answers ≤ grants_of d.id d.lines
    → many + credit_of answers ≤ grants_of d'.id d'.lines
owes_more many granted d d' answers more id lines owed =
    subst (λ (unit : UnitId). many + credit_of answers ≤ grants_of unit d'.lines) (sym id)
    (subst (λ (list : List Grant). many + credit_of answers ≤ grants_of d.id list) (sym lines) (omega (arith, owed, lines_more d.id d.lines more)))

owes_logs_out : (many granted : ℕ) (d d' : Doing) (s : ClientState) (own : EndState) (coming0 whole0 : List Ask) → OwesTalks many granted d s own coming0 whole0 → LogsOutFirst d d'
    → OwesEither many granted d' s own coming0 whole0
unfolding logs_on
owes_logs_out many granted d d' s own coming0 whole0 is step = inl (record {
  still = logs_on granted d d' s own coming0 whole0 step is.still;
  owed = owes_more many granted d d' is.still.answers _ step.stays.id step.lines is.owed;
})

owes_drops : (many granted : ℕ) (d d' : Doing) (s : ClientState) (own : EndState) (coming0 whole0 : List Ask) → OwesTalks many granted d s own coming0 whole0 → DropsAll d d'
    → OwesEither many granted d' s own coming0 whole0
unfolding drops_over
owes_drops many granted d d' s own coming0 whole0 is step = inr (record {
  over = drops_over granted d d' s own coming0 whole0 is.still step;
  owed = owes_more many granted d d' is.still.answers _ step.stays.id step.lines is.owed;
})

-- a login more has its line
owes_puts : (many granted : ℕ) (d d' : Doing) (s : ClientState) (own : EndState) (coming0 whole0 : List Ask) → OwesTalks many granted d s own coming0 whole0 → PutsEntry d d'
    → OwesEither many granted d' s own coming0 whole0
unfolding puts_on
owes_puts many granted d d' s own coming0 whole0 is step =
    let still = is.still in
    let first = pending_first step.request d'.pending still.pending (subst (λ (requests : List Request). ArePending requests still.pending) step.pending still.talks.pends) in
    let talks : TalksWithin granted d s own still.answered (first.0 ∷ first.1) still.coming still.answers =
    subst (λ (pending : List Ask). TalksWithin granted d s own still.answered pending still.coming still.answers) first.2 still.talks in
    let over = over_first granted d step.outcome first.0 first.1 (subst (IsServedAt granted d (first.0 ∷ first.1)) step.first talks.served).1 in
    inl (record {
      still = puts_on granted d d' s own coming0 whole0 step still;
      owed = subst (λ (unit : UnitId). many + credit_of (still.answers ++ over.0 ∷ []) ≤ grants_of unit d'.lines) (sym step.stays.id)
          (owed_put many step.outcome d.id d.logins d'.logins d.lines d'.lines still.answers over.0 over.1.grants step.logins is.owed);
    })

talks_does : (many granted : ℕ) (d d' : Doing) (s : ClientState) (own : EndState) (coming0 whole0 : List Ask) → OwesTalks many granted d s own coming0 whole0 → DoesOne d d'
    → OwesEither many granted d' s own coming0 whole0
talks_does many granted d d' s own coming0 whole0 is (inl step) = owes_calls many granted d d' s own coming0 whole0 is step
talks_does many granted d d' s own coming0 whole0 is (inr (inl step)) = owes_settles many granted d d' s own coming0 whole0 is step
talks_does many granted d d' s own coming0 whole0 is (inr (inr (inl step))) = absurd (never_frees granted d d' s own coming0 whole0 is.still step)
talks_does many granted d d' s own coming0 whole0 is (inr (inr (inr (inl step)))) = absurd (never_opens granted d d' s own coming0 whole0 is.still step)
talks_does many granted d d' s own coming0 whole0 is (inr (inr (inr (inr (inl step))))) = absurd (never_sends granted d d' s own coming0 whole0 is.still step)
talks_does many granted d d' s own coming0 whole0 is (inr (inr (inr (inr (inr (inl step)))))) = absurd (never_inits granted d d' s own coming0 whole0 is.still step)
talks_does many granted d d' s own coming0 whole0 is (inr (inr (inr (inr (inr (inr (inl step))))))) = absurd (never_datagram granted d d' s own coming0 whole0 is.still step)
talks_does many granted d d' s own coming0 whole0 is (inr (inr (inr (inr (inr (inr (inr (inl step)))))))) = absurd (never_passes granted d d' s own coming0 whole0 is.still step)
talks_does many granted d d' s own coming0 whole0 is (inr (inr (inr (inr (inr (inr (inr (inr rest)))))))) = serves rest
  where
    serves : TakesRequest d d' ⊎ (DropsAll d d' ⊎ (LogsOutFirst d d' ⊎ (Prepares d d' ⊎ (WritesAnswer d d' ⊎ (KeepsEntry d d' ⊎ (PutsEntry d d' ⊎ LosesEntry d d'))))))
        → OwesEither many granted d' s own coming0 whole0
    serves (inl step) = owes_takes many granted d d' s own coming0 whole0 is step
    serves (inr (inl step)) = owes_drops many granted d d' s own coming0 whole0 is step
    serves (inr (inr (inl step))) = owes_logs_out many granted d d' s own coming0 whole0 is step
    serves (inr (inr (inr (inl step)))) = owes_prepares many granted d d' s own coming0 whole0 is step
    serves (inr (inr (inr (inr (inl step))))) = owes_writes many granted d d' s own coming0 whole0 is step
    serves (inr (inr (inr (inr (inr (inl step)))))) = owes_keeps many granted d d' s own coming0 whole0 is step
    serves (inr (inr (inr (inr (inr (inr (inl step))))))) = owes_puts many granted d d' s own coming0 whole0 is step
    serves (inr (inr (inr (inr (inr (inr (inr step))))))) = absurd (never_loses granted d d' s own coming0 whole0 is.still step)

-- ---- a turn

-- of either, and of the rows and what was laid
abbrev pub OwesBoth : (many granted : ℕ) → Doing → ClientState → EndState → (coming0 whole0 : List Ask) → Type 0
OwesBoth many granted d s own coming0 whole0 = OwesEither many granted d s own coming0 whole0 × KeepsRows d s

either_does : (many granted : ℕ) (d d' : Doing) (s : ClientState) (own : EndState) (coming0 whole0 : List Ask) → OwesBoth many granted d s own coming0 whole0 → DoesOne d d'
    → OwesBoth many granted d' s own coming0 whole0
either_does many granted d d' s own coming0 whole0 (inl is, keeps) step =
    (talks_does many granted d d' s own coming0 whole0 is step, rows_does granted d d' s own coming0 whole0 is.still step keeps)
either_does many granted d d' s own coming0 whole0 (inr is, keeps) step =
    (inr (owes_does many granted false d d' s own is step), over_rows granted false d d' s own is.over step keeps)

either_leads : (many granted : ℕ) (s : ClientState) (own : EndState) (coming0 whole0 : List Ask) (over : List Doing) (d d' : Doing) → OwesBoth many granted d s own coming0 whole0
    → LeadsOver over d d' → OwesBoth many granted d' s own coming0 whole0
either_leads many granted s own coming0 whole0 [] d d' both leads = subst (λ (at : Doing). OwesBoth many granted at s own coming0 whole0) (sym leads) both
either_leads many granted s own coming0 whole0 (next ∷ over) d d' both leads =
    either_leads many granted s own coming0 whole0 over next d' (either_does many granted d next s own coming0 whole0 both leads.0) leads.1

pub either_turn : (many granted : ℕ) (d d' : Doing) (s : ClientState) (own : EndState) (coming0 whole0 : List Ask) → OwesTalks many granted d s own coming0 whole0 → KeepsRows d s → Does d d'
    → OwesBoth many granted d' s own coming0 whole0
either_turn many granted d d' s own coming0 whole0 is keeps turn = either_leads many granted s own coming0 whole0 turn.over d d' (inl is, keeps) turn.leads

-- ---- as a turn begins

-- Behind a login nothing was asked.
login_ends : (front rest : List Ask) → LoginLast (front ++ rest) → has_login front ≡ true → rest ≡ []
login_ends [] rest last has = absurd (true≢false (sym has))
login_ends (ask ∷ front) rest last has = by (is_login ask.iu) refl (λ later. login_ends front rest last.1 later) has
  where
    by : (b : Bool) → is_login ask.iu ≡ b → (has_login front ≡ true → rest ≡ []) → cond b true (has_login front) ≡ true → rest ≡ []
    by true is then' some = (no_front front rest (last.0 is)).1
    by false is then' some = then' some

-- A login that an answer grants of which it is yet to hear, it is owed.
credit_owed : (granted : ℕ) (at : Between) (words : List Word) (asked : AskedParts) (answers : List Iu) → IsTalking granted at words asked answers → credit_of answers ≤ owes at words
credit_owed granted at words asked answers talk = by (grants_one answers) refl
  where
    none : has_login asked.answered ≡ false → grants_one answers ≡ false
    none no' = answers_plain at.window (at.client.kept ++ to_come at.own) asked.answered answers talk.answered no'

    owed : has_login asked.answered ≡ true → grants_one answers ≡ true → owes at words ≡ 1
    owed has grants =
        let rest : asked.pending ++ asked.coming ≡ [] = login_ends asked.answered (asked.pending ++ asked.coming) (order_login (all_asked asked) talk.order) has in
        let empty = no_front asked.pending asked.coming rest in
        owes_one at words (record {
          registered = talk.registered;
          unknown = talk.login.answer has ∙ ap not grants;
          taking = talk.counts.taking ∙ ap₂ (λ (a b : Bool). a && not b) (at_least at.unit.logins.current (talk.login.on has)) (ap has_logout empty.0);
          goes_on = ap logs_out (talk.coming ∙ ap (map word_of) empty.1);
        })

    split : (b : Bool) → has_login asked.answered ≡ b → grants_one answers ≡ true → owes at words ≡ 1
    split true has grants = owed has grants
    split false no' grants = absurd (true≢false (sym grants ∙ none no'))

    by : (b : Bool) → grants_one answers ≡ b → credit_of answers ≤ owes at words
    by true grants = let one = split (has_login asked.answered) refl grants in omega (arith, one, credit_few answers)
    by false no' = let zero' : credit_of answers ≡ 0 = ap (λ b. cond b 1 0) no' in omega (arith, zero')

pub owes_begins : (many granted : ℕ) (at : Between) (words : List Word) (asked : AskedParts) (answers : List Iu) (name : UnitId) (rows : List Served) (lines : List Grant)
    → IsCalm granted at words → IsTalking granted at words asked answers → at.client.tabled ≡ None → name ≡ at.unit.id → at.window.place.unit ≢ at.unit.id
    → many + owes at words ≤ grants_of at.unit.id lines
    → OwesTalks many granted (doing_of at name rows lines) at.client at.own asked.coming (asked.pending ++ asked.coming)
unfolding still_begins
owes_begins many granted at words asked answers name rows lines calm talk tabled named apart owed = record {
  still = still_begins granted at words asked answers name rows lines calm talk tabled named apart;
  owed = let few = credit_owed granted at words asked answers talk in omega (arith, owed, few);
}
