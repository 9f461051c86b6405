-- In the midst of a turn of a plain client's login: the login becomes due, its unit is written, and its entry is put.
use Rattle.std.proofs.Common.{◌≡◌, ◌∙◌, inl, inr, ℕ, ◌+◌, ◌++◌, ◌&&◌, Bool, true, false, true≢false, cond, not, List, [], ◌∷◌, length, length-append, refl, sym, ap, subst}
use Rattle.std.specs.List.{list_any}
use Rattle.vio_num.specs.declared.entry.Entry.{Entry}
use Rattle.crq_session.specs.EndState.{EndState}
use Rattle.crq_session.specs.declared.handshake.Handshake.{Handshake}
use Rattle.crq_session.specs.declared.handshake.Handshake.TheVariants.{Waiting}
use Rattle.crq_session.specs.declared.answers.SendAnswer.{SendAnswer}
use Rattle.tce_window.specs.PortState.{PortState}
use Rattle.vscsi_client.specs.Ports.{MeetsUse, unit_write}
use Rattle.vscsi_client.specs.State.{ClientState, next_tag}
use Rattle.vscsi_client.specs.Turned.{IsEntryOf, IsFirst, IsUnwritten, LoginStep, Puts, SameHands, Site, Steps, WritesLogin, begins, is_dropped, is_idle, is_login, is_up, login_due, sent_stage}
use Rattle.vscsi_client.specs.Turned.LoginStep.{Began, NotWritten, Put, Wrote}
use Rattle.vscsi_client.specs.declared.row.Row.TheVariants as rows
use Rattle.vscsi_client.specs.declared.stage.Due.{Due}
use Rattle.vscsi_client.specs.declared.stage.Due.TheVariants as dues
use Rattle.vscsi_client.specs.declared.stage.Stage.{Stage}
use Rattle.vscsi_client.specs.declared.stage.Stage.TheVariants.{Idle, Sent, Written}
use Rattle.vscsi_client.specs.Units.{slot_address}
use Rattle.vcpu_run.specs.PlainTalk.{Between, IsOwnWindow}
use Rattle.vcpu_run.specs.TagRows.{is_inward, row_at}
use Rattle.vcpu_run.proofs.PlainRests.{AtRest, Clears, Rests, Since}
use Rattle.vcpu_run.proofs.PlainUnsent.{none_in_use}
use Rattle.vcpu_run.proofs.TagsKept.{row_here}

-- The client was at rest there, with no login under way.
pub record Ready (granted : ℕ) (at : Between) (c : Site) : Type 0 where
  pub since : Since at c
  pub clears : Clears granted at c
  pub idle : c.client.login ≡ Idle

-- The login is due.
pub record IsDue (granted : ℕ) (at : Between) (b : Site) : Type 0 where
  pub c : Site
  pub ready : Ready granted at c
  pub client : b.client ≡ login_due c.client
  pub crq : b.at.crq ≡ c.at.crq
  pub own : b.at.own ≡ c.at.own
  pub crq_alone : b.at.crq_shared ≡ false
  pub own_alone : b.at.own_shared ≡ false

-- Its unit is written.
pub record IsWritten (granted line : ℕ) (at : Between) (b : Site) : Type 0 where
  pub c : Site
  pub ready : Ready granted at c
  pub wrote : WritesLogin false line (login_due c.client) b.client c.at.own b.at.own
  pub crq : b.at.crq ≡ c.at.crq
  pub crq_alone : b.at.crq_shared ≡ false

-- Its entry was put, or was not.
pub record IsPut (granted line : ℕ) (at : Between) (b : Site) (answer : SendAnswer) : Type 0 where
  pub c : Site
  pub ready : Ready granted at c
  pub mid : ClientState
  pub wrote : WritesLogin false line (login_due c.client) mid c.at.own b.at.own
  pub puts : Puts false mid b.client c.at.crq b.at.crq dues.Login answer

-- ---- it becomes due

pub waiting_no : (s : ClientState) → s.handshake ≡ Waiting → begins s ≡ true → ⊥
waiting_no s waits on = true≢false (sym on ∙ ap (λ (h : Handshake). is_up h && (is_idle s.login && not (list_any is_login s.due))) waits)

front_true : (a b : Bool) → (a && b) ≡ true → a ≡ true
front_true true b e = refl
front_true false b e = absurd (true≢false (sym e))

rest_true : (a b : Bool) → (a && b) ≡ true → b ≡ true
rest_true true b e = e
rest_true false b e = absurd (true≢false (sym e))

-- a login begins only where none is under way
pub begins_idle : (s : ClientState) → begins s ≡ true → is_idle s.login ≡ true
begins_idle s on = front_true (is_idle s.login) (not (list_any is_login s.due)) (rest_true (is_up s.handshake) (is_idle s.login && not (list_any is_login s.due)) on)

pub begins_undue : (s : ClientState) → begins s ≡ true → list_any is_login s.due ≡ false
begins_undue s on = by (list_any is_login s.due) (rest_true (is_idle s.login) (not (list_any is_login s.due)) (rest_true (is_up s.handshake) (is_idle s.login && not (list_any is_login s.due)) on))
  where
    by : (b : Bool) → not b ≡ true → b ≡ false
    by false e = refl
    by true e = absurd (true≢false (sym e))

pub idle_is : (stage : Stage) → is_idle stage ≡ true → stage ≡ Idle
idle_is Idle is = refl
idle_is (Written tag slot) is = absurd (true≢false (sym is))
idle_is (Sent tag slot) is = absurd (true≢false (sym is))

pub due_begun : (granted line : ℕ) (at : Between) (steps : List LoginStep) (b c : Site) → Rests granted at steps b → Steps line Began b c → SameHands b c → IsDue granted at c
due_begun granted line at steps b c rests began hands = by rests.rest
  where
    by : AtRest granted at b → IsDue granted at c
    by (inl begun) = absurd (waiting_no b.client begun.begun.handshake began.0.begins_now)
    by (inr clears) = record {
      c = b;
      ready = record { since = rests.since; clears = clears; idle = idle_is b.client.login (begins_idle b.client began.0.begins_now) };
      client = began.0.client;
      crq = began.1;
      own = began.2;
      crq_alone = hands.crq ∙ clears.clear.crq_alone;
      own_alone = hands.own ∙ clears.clear.own_alone;
    }

-- what is due then
due_one : (granted : ℕ) (at : Between) (c : Site) → Ready granted at c → (login_due c.client).due ≡ dues.Login ∷ []
due_one granted at c ready = ap (λ (due : List Due). due ++ dues.Login ∷ []) ready.clears.clear.talk.due

-- it becomes due once
pub due_again : (granted line : ℕ) (at : Between) (b c : Site) → IsDue granted at b → Steps line Began b c → ⊥
due_again granted line at b c due began =
    true≢false (sym (ap (λ (list : List Due). list_any is_login list) (ap (λ (s : ClientState). s.due) due.client ∙ due_one granted at due.c due.ready))
    ∙ begins_undue b.client began.0.begins_now)

-- nothing else is due
first_is : (due : Due) (others list : List Due) → list ≡ due ∷ others → list ≡ dues.Login ∷ [] → (due ≡ dues.Login) × (others ≡ [])
first_is due others list is one = (cc (is, one), cc (is, one))

entry_idle : (due : Due) (stage : Stage) (entry : Entry) → due ≡ dues.Login → stage ≡ Idle → IsEntryOf due stage entry → ⊥
entry_idle due stage entry is idle has = subst (λ (s : Stage). IsEntryOf dues.Login s entry) idle (subst (λ (d : Due). IsEntryOf d stage entry) is has)

-- it is not put before its unit is written
pub due_unput : (granted line : ℕ) (at : Between) (b c : Site) (due : Due) (answer : SendAnswer) → IsDue granted at b → Steps line (Put due answer) b c → ⊥
due_unput granted line at b c due answer is put =
    entry_idle due b.client.login put.0.entry
    (first_is due put.0.others b.client.due put.0.first (ap (λ (s : ClientState). s.due) is.client ∙ due_one granted at is.c is.ready)).0
    (ap (λ (s : ClientState). s.login) is.client ∙ is.ready.idle) put.0.is_entry

-- no page is in use
pub due_unused : (granted line page word : ℕ) (at : Between) (b c : Site) → IsDue granted at b → Steps line (NotWritten page word) b c → ⊥
due_unused granted line page word at b c is not' =
    none_in_use b.at.own (slot_address not'.1.slot) (length not'.1.bytes) page (subst IsOwnWindow (sym is.own) is.ready.clears.clear.calm.usable)
    (subst (λ shared. MeetsUse shared (unit_write not'.1.slot not'.1.bytes) b.at.own c.at.own page) is.own_alone not'.1.meets).in_use

-- ---- its unit is written

pub due_written : (granted line : ℕ) (at : Between) (b c : Site) → IsDue granted at b → Steps line Wrote b c → SameHands b c → IsWritten granted line at c
due_written granted line at b c is wrote hands = record {
  c = is.c;
  ready = is.ready;
  wrote = subst (λ (window : PortState). WritesLogin false line (login_due is.c.client) c.client window c.at.own) is.own
      (subst (λ (s : ClientState). WritesLogin false line s c.client b.at.own c.at.own) is.client
      (subst (λ shared. WritesLogin shared line b.client c.client b.at.own c.at.own) is.own_alone wrote.1));
  crq = wrote.2 ∙ is.crq;
  crq_alone = hands.crq ∙ is.crq_alone;
}

-- it is written once
written_stage : (granted line : ℕ) (at : Between) (b : Site) → (is : IsWritten granted line at b) → is_idle b.client.login ≡ true → ⊥
written_stage granted line at b is idle = true≢false (sym idle ∙ ap (λ (s : ClientState). is_idle s.login) is.wrote.client)

pub written_begun : (granted line : ℕ) (at : Between) (b c : Site) → IsWritten granted line at b → Steps line Began b c → ⊥
written_begun granted line at b c is began = written_stage granted line at b is (begins_idle b.client began.0.begins_now)

pub written_again : (granted line : ℕ) (at : Between) (b c : Site) → IsWritten granted line at b → Steps line Wrote b c → ⊥
written_again granted line at b c is wrote = written_stage granted line at b is wrote.0.idle

pub written_unused : (granted line page word : ℕ) (at : Between) (b c : Site) → IsWritten granted line at b → Steps line (NotWritten page word) b c → ⊥
written_unused granted line page word at b c is not' = written_stage granted line at b is not'.0.idle

-- ---- its entry is put

pub written_put : (granted line : ℕ) (at : Between) (b c : Site) (due : Due) (answer : SendAnswer) → IsWritten granted line at b → Steps line (Put due answer) b c
    → IsPut granted line at c answer
written_put granted line at b c due answer is put = record {
  c = is.c;
  ready = is.ready;
  mid = b.client;
  wrote = subst (λ (window : PortState). WritesLogin false line (login_due is.c.client) b.client is.c.at.own window) (sym put.1) is.wrote;
  puts = subst (λ (d : Due). Puts false b.client c.client is.c.at.crq c.at.crq d answer) login.0
      (subst (λ (end : EndState). Puts false b.client c.client end c.at.crq due answer) is.crq
      (subst (λ shared. Puts shared b.client c.client b.at.crq c.at.crq due answer) is.crq_alone put.0));
}
  where
    login : (due ≡ dues.Login) × (put.0.others ≡ [])
    login = first_is due put.0.others b.client.due put.0.first (ap (λ (s : ClientState). s.due) is.wrote.client ∙ due_one granted at is.c is.ready)

-- What is so where it was not dropped: nothing is due, and the login waits for its answer.
pub record IsOver (c : ClientState) (slot : ℕ) (s : ClientState) : Type 0 where
  pub due : s.due ≡ []
  pub login : s.login ≡ Sent (next_tag c) slot
  pub kept : s.kept ≡ c.kept
  pub granted : s.granted ≡ c.granted
  pub outgoing : s.outgoing ≡ c.outgoing
  pub rows : length s.rows ≡ length c.rows + 1
  pub login_row : is_inward (row_at s.rows (next_tag c)) ≡ false

pub put_over : (granted line : ℕ) (at : Between) (b : Site) (answer : SendAnswer) → (is : IsPut granted line at b answer) → is_dropped answer ≡ false
    → IsOver is.c.client is.wrote.slot b.client
put_over granted line at b answer is put = record {
  due = ap (λ (s : ClientState). s.due) client ∙ others.1;
  login = ap (λ (s : ClientState). s.login) client ∙ ap (λ (s : ClientState). sent_stage dues.Login s.login) is.wrote.client;
  kept = ap (λ (s : ClientState). s.kept) client ∙ ap (λ (s : ClientState). s.kept) is.wrote.client;
  granted = ap (λ (s : ClientState). s.granted) client ∙ ap (λ (s : ClientState). s.granted) is.wrote.client;
  outgoing = ap (λ (s : ClientState). s.outgoing) client ∙ ap (λ (s : ClientState). s.outgoing) is.wrote.client;
  rows = ap (λ (s : ClientState). length s.rows) client ∙ ap (λ (s : ClientState). length s.rows) is.wrote.client ∙ length-append is.c.client.rows (rows.Login ∷ []);
  login_row =
      ap (λ (s : ClientState). is_inward (row_at s.rows (next_tag is.c.client))) client
      ∙ ap (λ (s : ClientState). is_inward (row_at s.rows (next_tag is.c.client))) is.wrote.client
      ∙ ap is_inward (row_here is.c.client.rows rows.Login);
}
  where
    client : b.client ≡ record is.mid { due = is.puts.others; login = sent_stage dues.Login is.mid.login }
    client = is.puts.client ∙ ap (λ d. cond d is.mid (record is.mid { due = is.puts.others; login = sent_stage dues.Login is.mid.login })) put

    others : (dues.Login ≡ dues.Login) × (is.puts.others ≡ [])
    others = first_is dues.Login is.puts.others is.mid.due is.puts.first (ap (λ (s : ClientState). s.due) is.wrote.client ∙ due_one granted at is.c is.ready)

-- Nothing more is done then.
pub over_begun : (line slot : ℕ) (a : ClientState) (b c : Site) → IsOver a slot b.client → Steps line Began b c → ⊥
over_begun line slot a b c is began = true≢false (sym (begins_idle b.client began.0.begins_now) ∙ ap is_idle is.login)

unwritten_none : (due : List Due) → due ≡ [] → IsFirst dues.Login due → ⊥
unwritten_none [] none first = first
unwritten_none (one ∷ due) none first = cc (none)

pub none_unwritten : (s : ClientState) → s.due ≡ [] → IsUnwritten s → ⊥
none_unwritten s none is = unwritten_none s.due none is.first

pub none_put : (line : ℕ) (b c : Site) (due : Due) (answer : SendAnswer) → b.client.due ≡ [] → Steps line (Put due answer) b c → ⊥
none_put line b c due answer none put = no_due due put.0.others (sym put.0.first ∙ none)
  where
    no_due : (due : Due) (others : List Due) → due ∷ others ≡ [] → ⊥
    no_due due others e = cc (e)
