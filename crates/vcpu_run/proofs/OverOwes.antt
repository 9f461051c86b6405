-- The logins that a server unit granted, where its session is over, or was: each has its line, and so has one of which the client is yet to hear.
use Rattle.std.proofs.Common.{◌≡◌, ◌∙◌, ◌⊎◌, inl, inr, ℕ, ◌+◌, ◌≤◌, ◌++◌, ◌&&◌, Bool, true, false, cond, List, [], ◌∷◌, length, sym, ap, subst, arith}
use Rattle.crq_session.specs.EndState.{EndState}
use Rattle.srp_iu.specs.declared.unit.Iu.{Iu}
use Rattle.vio_num.specs.declared.history.Grant.{Grant}
use Rattle.vio_num.specs.declared.history.Grant.TheVariants.{Granted}
use Rattle.vio_num.specs.declared.names.UnitId.{UnitId}
use Rattle.block_server.specs.Doings.{Does, DoesOne, Doing, DropsAll, KeepsEntry, LeadsOver, LosesEntry, Prepares, PutsEntry, SettlesLogin, TakesRequest, WritesAnswer, LogsOutFirst}
use Rattle.block_server.specs.Granting.{LoginState}
use Rattle.block_server.specs.declared.service.Outcome.{Outcome}
use Rattle.block_server.specs.declared.service.Outcome.TheVariants as outcomes
use Rattle.vscsi_client.specs.State.{ClientState}
use Rattle.vcpu_run.specs.OwnOver.{IsOver}
use Rattle.vcpu_run.specs.PlainClients.{grants_of}
use Rattle.vcpu_run.specs.PlainTalk.{grants_one, is_grant}
use Rattle.vcpu_run.proofs.OverDoes.{over_drops, over_keeps, over_loses, over_logs_out, over_prepares, over_puts, over_writes}
use Rattle.vcpu_run.proofs.OverListens.{over_calls, over_datagram, over_frees, over_hears, over_opens, over_passes, over_sends, over_settles, over_takes}
use Rattle.vcpu_run.proofs.OverSteps.{IsOverWith}
use Rattle.vcpu_run.proofs.PlainGrants.{of_more, same_self}

-- how many logins these answers grant of which the client is yet to hear
abbrev pub credit_of : List Iu → ℕ
credit_of answers = cond (grants_one answers) 1 0

-- So many logins, and that one, have their lines.
pub record OwesOver (many : ℕ) (granted : ℕ) (failed : Bool) (d : Doing) (s : ClientState) (own : EndState) : Type 0 where
  pub over : IsOver granted failed d s own
  pub owed : many + credit_of over.answers ≤ grants_of d.id d.lines

-- ---- the lines

pub credit_few : (answers : List Iu) → credit_of answers ≤ 1
credit_few answers = by (grants_one answers)
  where
    by : (b : Bool) → cond b 1 0 ≤ 1
    by true = omega arith
    by false = omega arith

pub lines_more : (unit : UnitId) (old more : List Grant) → grants_of unit old ≤ grants_of unit (old ++ more)
lines_more unit old more = omega (arith, of_more unit old more)

-- a line that says that a login of the unit began
grant_one : (unit : UnitId) (session login number credits : ℕ) → grants_of unit (Granted unit session login number credits ∷ []) ≡ 1
grant_one unit session login number credits = ap (λ (b : Bool). length (cond (b && true) (Granted unit session login number credits ∷ []) [])) (same_self unit)

pub grant_line : (outcome : Outcome) (unit : UnitId) (logins logins' : LoginState) (old new : List Grant) → is_grant outcome ≡ true → SettlesLogin outcome unit logins logins' old new
    → grants_of unit new ≡ grants_of unit old + 1
grant_line (outcomes.Granted number) unit logins logins' old new is starts =
    ap (grants_of unit) starts.line ∙ of_more unit old (Granted unit starts.session starts.login number logins.granted ∷ [])
    ∙ ap (λ (n : ℕ). grants_of unit old + n) (grant_one unit starts.session starts.login number logins.granted)
grant_line outcome unit logins logins' old new isnt lines = absurd (cc (isnt))

-- ---- a step

owes_by : (many granted : ℕ) (failed : Bool) (d d' : Doing) (s : ClientState) (own : EndState) (is : OwesOver many granted failed d s own) → IsOverWith granted failed d' s own is.over.answers
    → d'.id ≡ d.id → grants_of d.id d.lines ≤ grants_of d.id d'.lines → OwesOver many granted failed d' s own
owes_by many granted failed d d' s own is left same more = record {
  over = left.over;
  owed = subst (λ (unit : UnitId). many + credit_of left.over.answers ≤ grants_of unit d'.lines) (sym same)
      (subst (λ (answers : List Iu). many + credit_of answers ≤ grants_of d.id d'.lines) (sym left.answers_are) (omega (arith, is.owed, more)));
}

-- the lines are as they were
owes_same : (many granted : ℕ) (failed : Bool) (d d' : Doing) (s : ClientState) (own : EndState) (is : OwesOver many granted failed d s own) → IsOverWith granted failed d' s own is.over.answers
    → d'.id ≡ d.id → d'.lines ≡ d.lines → OwesOver many granted failed d' s own
owes_same many granted failed d d' s own is left same lines =
    owes_by many granted failed d d' s own is left same (subst (λ (list : List Grant). grants_of d.id d.lines ≤ grants_of d.id list) (sym lines) (omega arith))

owes_drops : (many granted : ℕ) (failed : Bool) (d d' : Doing) (s : ClientState) (own : EndState) → OwesOver many granted failed d s own → DropsAll d d' → OwesOver many granted failed d' s own
owes_drops many granted failed d d' s own is step =
    owes_by many granted failed d d' s own is (over_drops granted failed d d' s own is.over step) step.stays.id
    (subst (λ (list : List Grant). grants_of d.id d.lines ≤ grants_of d.id list) (sym step.lines) (lines_more d.id d.lines _))

-- a login more has its line
owes_puts : (many granted : ℕ) (failed : Bool) (d d' : Doing) (s : ClientState) (own : EndState) → OwesOver many granted failed d s own → PutsEntry d d' → OwesOver many granted failed d' s own
owes_puts many granted failed d d' s own is step =
    let left = over_puts granted failed d d' s own is.over step in
    record {
      over = left.over.over;
      owed = subst (λ (unit : UnitId). many + credit_of left.over.over.answers ≤ grants_of unit d'.lines) (sym step.stays.id)
          (omega (arith, is.owed, credit_few left.over.over.answers, grant_line step.outcome d.id d.logins d'.logins d.lines d'.lines left.grants step.logins));
    }

pub owes_does : (many granted : ℕ) (failed : Bool) (d d' : Doing) (s : ClientState) (own : EndState) → OwesOver many granted failed d s own → DoesOne d d' → OwesOver many granted failed d' s own
owes_does many granted failed d d' s own is (inl step) = owes_same many granted failed d d' s own is (over_calls granted failed d d' s own is.over step) step.stays.id step.aside.lines
owes_does many granted failed d d' s own is (inr (inl step)) = owes_same many granted failed d d' s own is (over_settles granted failed d d' s own is.over step) step.stays.id step.aside.lines
owes_does many granted failed d d' s own is (inr (inr (inl step))) = owes_same many granted failed d d' s own is (over_frees granted failed d d' s own is.over step) step.stays.id step.aside.lines
owes_does many granted failed d d' s own is (inr (inr (inr (inl step)))) =
    owes_same many granted failed d d' s own is (over_opens granted failed d d' s own is.over step) step.stays.id step.aside.lines
owes_does many granted failed d d' s own is (inr (inr (inr (inr (inl step))))) =
    owes_same many granted failed d d' s own is (over_sends granted failed d d' s own is.over step) step.stays.id step.aside.lines
owes_does many granted failed d d' s own is (inr (inr (inr (inr (inr (inl step)))))) =
    owes_same many granted failed d d' s own is (over_hears granted failed d d' s own is.over step) step.stays.id step.aside.lines
owes_does many granted failed d d' s own is (inr (inr (inr (inr (inr (inr (inl step))))))) = absurd (over_datagram granted failed d d' s own is.over step)
owes_does many granted failed d d' s own is (inr (inr (inr (inr (inr (inr (inr (inl step)))))))) =
    owes_same many granted failed d d' s own is (over_passes granted failed d d' s own is.over step) step.stays.id step.aside.lines
owes_does many granted failed d d' s own is (inr (inr (inr (inr (inr (inr (inr (inr rest)))))))) = serves rest
  where
    serves : TakesRequest d d' ⊎ (DropsAll d d' ⊎ (LogsOutFirst d d' ⊎ (Prepares d d' ⊎ (WritesAnswer d d' ⊎ (KeepsEntry d d' ⊎ (PutsEntry d d' ⊎ LosesEntry d d'))))))
        → OwesOver many granted failed d' s own
    serves (inl step) = owes_same many granted failed d d' s own is (over_takes granted failed d d' s own is.over step) step.stays.id step.lines
    serves (inr (inl step)) = owes_drops many granted failed d d' s own is step
    serves (inr (inr (inl step))) = absurd (over_logs_out granted failed d d' s own is.over step)
    serves (inr (inr (inr (inl step)))) = owes_same many granted failed d d' s own is (over_prepares granted failed d d' s own is.over step) step.stays.id step.lines
    serves (inr (inr (inr (inr (inl step))))) = owes_same many granted failed d d' s own is (over_writes granted failed d d' s own is.over step) step.stays.id step.lines
    serves (inr (inr (inr (inr (inr (inl step)))))) = owes_same many granted failed d d' s own is (over_keeps granted failed d d' s own is.over step) step.stays.id step.lines
    serves (inr (inr (inr (inr (inr (inr (inl step))))))) = owes_puts many granted failed d d' s own is step
    serves (inr (inr (inr (inr (inr (inr (inr step))))))) = owes_same many granted failed d d' s own is (over_loses granted failed d d' s own is.over step) step.stays.id step.lines

-- ---- a turn

owes_leads : (many granted : ℕ) (failed : Bool) (s : ClientState) (own : EndState) (over : List Doing) (d d' : Doing) → OwesOver many granted failed d s own → LeadsOver over d d'
    → OwesOver many granted failed d' s own
owes_leads many granted failed s own [] d d' is leads = subst (λ (at : Doing). OwesOver many granted failed at s own) (sym leads) is
owes_leads many granted failed s own (next ∷ over) d d' is leads = owes_leads many granted failed s own over next d' (owes_does many granted failed d next s own is leads.0) leads.1

pub owes_turn : (many granted : ℕ) (failed : Bool) (d d' : Doing) (s : ClientState) (own : EndState) → OwesOver many granted failed d s own → Does d d' → OwesOver many granted failed d' s own
owes_turn many granted failed d d' s own is turn = owes_leads many granted failed s own turn.over d d' is turn.leads
