-- A unit serves a login that was asked for: it works its answer out, and the entry of that is put, kept, or lost.
use Rattle.std.proofs.Common.{◌≡◌, ◌≢◌, ◌∙◌, ◌⊎◌, inl, inr, ℕ, ◌++◌, Bool, true, false, cond, List, [], ◌∷◌, Option, Some, None, length, refl, sym, ap, subst}
use Rattle.crq_session.specs.EndState.{EndState}
use Rattle.srp_iu.specs.declared.unit.Iu.{Iu}
use Rattle.srp_iu.specs.declared.unit.Iu.TheVariants as units
use Rattle.vio_num.specs.Entry.{initialize, is_srp_entry, srp_entry}
use Rattle.vio_num.specs.declared.entry.Entry.{Entry}
use Rattle.block_server.specs.Bearing.{BearsRow}
use Rattle.block_server.specs.Doings.{Doing, IsNewLogin, KeepsEntry, LosesEntry, Prepares, PutsEntry, entry_for, name_for, rows_to}
use Rattle.block_server.specs.Granting.{LoginState}
use Rattle.block_server.specs.Judged.{row_in}
use Rattle.block_server.specs.Ranges.{Known, known_in}
use Rattle.block_server.specs.Standing.{IsAnswerTo, stood}
use Rattle.block_server.specs.Talk.{StaysKnown, Suits, order_asked}
use Rattle.block_server.specs.declared.line.Kept.{Kept}
use Rattle.block_server.specs.declared.line.Kept.TheVariants as keeps
use Rattle.block_server.specs.declared.request.Order.{Order}
use Rattle.block_server.specs.declared.request.Request.{Request}
use Rattle.block_server.specs.declared.service.Outcome.{Outcome}
use Rattle.block_server.specs.declared.service.Outcome.TheVariants as outcomes
use Rattle.block_server.specs.declared.service.Stage.{Stage}
use Rattle.block_server.specs.declared.service.Stage.TheVariants as stages
use Rattle.vscsi_client.specs.State.{ClientState}
use Rattle.vcpu_run.specs.OwnOver.{HasAsked, IsGranted, IsPrepared, IsServing, IsTaken, IsWritten, tells_gone}
use Rattle.vcpu_run.specs.PlainTalk.{AnswerStands, Ask, HasAnswer, IsAnswerBy, IsAsk, IsFair, is_grant, is_granted, is_login}
use Rattle.vcpu_run.proofs.OverAnew.{LeadsOn, anew_away, leads_none}
use Rattle.vcpu_run.proofs.OverHeads.{behind_shakes}
use Rattle.vcpu_run.proofs.OverKinds.{srp_no_event}
use Rattle.vcpu_run.proofs.OverLists.{gone_other, news_other}
use Rattle.vcpu_run.proofs.OverPhases.{IsGoing, StandsOver, anew_again, answer_known, joins_again, kept_as, queue_as, serving_as}
use Rattle.vcpu_run.proofs.OverSends.{AreCompletions, none_shake}
use Rattle.vcpu_run.proofs.OverTakes.{line_going}
use Rattle.vcpu_run.proofs.PlainSlots.{entry_srp}

-- ---- the oldest request

pub same_request : (requests : List Request) (a b : Request) (xs ys : List Request) → requests ≡ a ∷ xs → requests ≡ b ∷ ys → a ≡ b
same_request requests a b xs ys is other = cc (is, other)

pub same_rest : (requests : List Request) (a b : Request) (xs ys : List Request) → requests ≡ a ∷ xs → requests ≡ b ∷ ys → xs ≡ ys
same_rest requests a b xs ys is other = cc (is, other)

pub same_outcome : (stage : Stage) (a b : Outcome) → stage ≡ stages.Entry a → stage ≡ stages.Entry b → a ≡ b
same_outcome stage a b is other = cc (is, other)

-- ---- its answer is worked out

-- a login is granted where none is on
login_granted : (iu : Iu) (outcome : Outcome) → is_login iu ≡ true → IsFair iu → Suits 0 (order_asked iu) outcome → is_grant outcome ≡ true
login_granted (units.LoginReq request) (outcomes.Granted number) is fair suits = refl
login_granted (units.LoginReq request) outcomes.Rejected is fair suits = absurd (suits fair)
login_granted (units.LoginReq request) (outcomes.Served row) is fair suits = absurd suits
login_granted iu outcome isnt fair suits = absurd (cc (isnt))

pub grant_row : (outcome : Outcome) → is_grant outcome ≡ true → row_in (stages.Answer outcome) ≡ None
grant_row (outcomes.Granted number) is = refl
grant_row outcome is = absurd (cc (is))

-- nothing was laid
pub prepares_known : (d d' : Doing) (step : Prepares d d') → is_grant step.outcome ≡ true → StaysKnown d.client d'.client
prepares_known d d' step grants = by step.bears
  where
    same : (a b : Known) → Some a ≡ Some b → a ≡ b
    same a b is = cc (is)

    no_row : (row : Option ℕ) (at : ℕ) → row ≡ None → row ≡ Some at → ⊥
    no_row row at none is = cc (none, is)

    by : BearsRow (stood d.client) (name_for d.name step.request) step.request.order d'.rows (row_in d'.stage) (Some (known_in d.client)) (Some (known_in d'.client))
        → StaysKnown d.client d'.client
    by (inl is) = record {
      place = step.place;
      strokes = ap (λ (k : Known). k.strokes) (same (known_in d'.client) (known_in d.client) is);
      values = ap (λ (k : Known). k.values) (same (known_in d'.client) (known_in d.client) is);
    }
    by (inr row) = absurd (no_row (row_in d'.stage) row.0 (ap row_in step.stage ∙ grant_row step.outcome grants) row.2)

-- what is to be served, and what it asks
login_prepared : (d d' : Doing) (own : EndState) (ask : Ask) → IsAsk ask → is_login ask.iu ≡ true → (step : Prepares d d') → (is : IsTaken d own ask) → is_grant step.outcome ≡ true
    → IsPrepared d' own ask
login_prepared d d' own ask is_ask login step is grants = record {
  serves = serving_as d d' own ask (ap (λ (l : LoginState). l.current) step.logins) step.pends step.line.handshake (queue_as own d.coming d'.coming step.coming is.serves.queue) is.serves;
  outcome = step.outcome;
  stage = step.stage;
  grants = grants;
  answer = subst (λ (l : LoginState). IsAnswerTo 0 l.granted ask.tag (order_asked ask.iu) step.outcome d'.answer) (sym step.logins)
      (subst (λ (n : ℕ). IsAnswerTo n d.logins.granted ask.tag (order_asked ask.iu) step.outcome d'.answer) is.serves.current
      (subst (λ (o : Order). IsAnswerTo d.logins.current d.logins.granted ask.tag o step.outcome d'.answer) is.serves.is.order
      (subst (λ (n : ℕ). IsAnswerTo d.logins.current d.logins.granted n is.serves.request.order step.outcome d'.answer) is.serves.is.tag
      (subst (λ (r : Request). IsAnswerTo d.logins.current d.logins.granted r.tag r.order step.outcome d'.answer) same step.answer))));
  kept = kept_as d.kept d'.kept step.kept is.kept;
  entry = λ begins. is.entry (sym step.kept ∙ begins);
}
  where
    same : step.request ≡ is.serves.request
    same = same_request d.pending step.request is.serves.request step.rest [] step.pending is.serves.pending

pub prepares_grants : (d d' : Doing) (own : EndState) (ask : Ask) → IsAsk ask → is_login ask.iu ≡ true → (step : Prepares d d') → IsServing d own ask → is_grant step.outcome ≡ true
prepares_grants d d' own ask is_ask login step serves =
    login_granted ask.iu step.outcome login is_ask.fair
    (subst (λ (n : ℕ). Suits n (order_asked ask.iu) step.outcome) serves.current
    (subst (λ (o : Order). Suits d.logins.current o step.outcome) serves.is.order
    (subst (λ (r : Request). Suits d.logins.current r.order step.outcome) (same_request d.pending step.request serves.request step.rest [] step.pending serves.pending) step.suits)))

pub taken_prepares : (granted : ℕ) (failed : Bool) (d d' : Doing) (s : ClientState) (own : EndState) (stream : List Entry) (answered lost : List Ask) (ask : Ask) → IsAsk ask → Prepares d d'
    → IsGoing d s own stream → (own.registered ≡ true) ⊎ (failed ≡ true) → (answered ≡ []) × (lost ≡ ask ∷ []) → HasAsked s own stream ask → IsTaken d own ask
    → StaysKnown d.client d'.client × LeadsOn granted failed d d' s own stream answered lost
taken_prepares granted failed d d' s own stream answered lost ask is_ask step goes there parts has is = (
  prepares_known d d' step grants,
  leads_none granted failed d d' s own stream answered lost step.sent
      (joins_again granted failed d' s own stream answered lost (line_going d d' s own stream step.line goes) there
      (record { ask = ask; has = has; where_is = inl (parts, inr (inr (inl (login_prepared d d' own ask is_ask has.asked step is grants)))) })),
)
  where
    grants : is_grant step.outcome ≡ true
    grants = prepares_grants d d' own ask is_ask has.asked step is.serves

-- ---- its entry is kept

-- it is the entry of that answer, and the login is the oldest request
kept_entry : (granted : ℕ) (d d' : Doing) (own : EndState) (ask : Ask) → (step : KeepsEntry d d') → (is : IsWritten granted d own ask)
    → d'.kept ≡ Some (keeps.Answer (entry_for is.serves.request d'.answer) is.outcome)
kept_entry granted d d' own ask step is =
    step.kept
    ∙ ap (λ (r : Request). Some (keeps.Answer (entry_for r d.answer) step.outcome)) (same_request d.pending step.request is.serves.request step.rest [] step.pending is.serves.pending)
    ∙ ap (λ (o : Outcome). Some (keeps.Answer (entry_for is.serves.request d.answer) o)) (same_outcome d.stage step.outcome is.outcome step.first is.stage)
    ∙ ap (λ (bytes : List ℕ). Some (keeps.Answer (entry_for is.serves.request bytes) is.outcome)) (sym step.served.answer)

login_kept : (granted : ℕ) (d d' : Doing) (own : EndState) (ask : Ask) → KeepsEntry d d' → IsWritten granted d own ask → IsWritten granted d' own ask
unfolding serving_as
login_kept granted d d' own ask step is = record {
  serves = serving_as d d' own ask (ap (λ (l : LoginState). l.current) step.logins) step.served.pending step.line.handshake (queue_as own d.coming d'.coming step.coming is.serves.queue) is.serves;
  outcome = is.outcome;
  stage = step.served.stage ∙ is.stage;
  grants = is.grants;
  iu = is.iu;
  stands = subst (λ (bytes : List ℕ). AnswerStands granted d'.id d'.client ask (length bytes) is.outcome is.iu) (sym step.served.answer)
      (answer_known granted d.id d'.id d.client d'.client ask (length d.answer) is.outcome is.iu step.stays.id step.put.client is.stands);
  kept = inr (kept_entry granted d d' own ask step is);
  entry = λ begins. no_begins d'.kept (keeps.Answer (entry_for step.request d.answer) step.outcome) (λ same. cc (same)) step.kept begins;
}
  where
    no_begins : (kept : Option Kept) (a : Kept) → a ≢ keeps.Reply initialize → kept ≡ Some a → kept ≡ Some (keeps.Reply initialize) → ⊥
    no_begins kept a apart is other = apart (same a (keeps.Reply initialize) (sym is ∙ other))
      where
        same : (a b : Kept) → Some a ≡ Some b → a ≡ b
        same a b e = cc (e)

pub written_keeps : (granted : ℕ) (failed : Bool) (d d' : Doing) (s : ClientState) (own : EndState) (stream : List Entry) (answered lost : List Ask) (ask : Ask) → KeepsEntry d d'
    → IsGoing d s own stream → (own.registered ≡ true) ⊎ (failed ≡ true) → (answered ≡ []) × (lost ≡ ask ∷ []) → HasAsked s own stream ask → IsWritten granted d own ask
    → LeadsOn granted failed d d' s own stream answered lost
written_keeps granted failed d d' s own stream answered lost ask step goes there parts has is =
    leads_none granted failed d d' s own stream answered lost step.put.sent
    (joins_again granted failed d' s own stream answered lost (line_going d d' s own stream step.line goes) there
    (record { ask = ask; has = has; where_is = inl (parts, inr (inr (inr (login_kept granted d d' own ask step is)))) }))

-- ---- or lost

-- where the client's queue is not registered
pub written_loses : (granted : ℕ) (failed : Bool) (d d' : Doing) (s : ClientState) (own : EndState) (stream : List Entry) (answered lost : List Ask) (ask : Ask) → d.reaches ≡ own.registered
    → LosesEntry d d' → IsGoing d s own stream → IsWritten granted d own ask → LeadsOn granted failed d d' s own stream answered lost
written_loses granted failed d d' s own stream answered lost ask reached step goes is =
    leads_none granted failed d d' s own stream answered lost step.put.sent
    (anew_again granted failed d' s own stream answered lost (line_going d d' s own stream step.line goes)
    (anew_away d' s own stream (sym reached ∙ step.reaches)
    (record {
      current = ap (λ (l : LoginState). l.current) step.logins ∙ is.serves.current;
      pending = same_rest d.pending step.request is.serves.request d'.pending [] step.pending is.serves.pending;
      stage = step.stage;
    })
    (none_shake d'.kept step.kept) (behind_shakes own d'.coming (queue_as own d.coming d'.coming step.coming is.serves.queue))))

-- ---- or put

-- What the entry of a login's answer leaves that was put: it tells of the answer, and the login is granted.
pub record PutsOn (granted : ℕ) (failed : Bool) (d d' : Doing) (s : ClientState) (own : EndState) (stream : List Entry) (ask : Ask) : Type 0 where
  pub entry : Entry
  pub answer : Iu
  pub put : d'.sent ≡ d.sent ++ rows_to d.to (entry ∷ [])
  pub srp : is_srp_entry entry ≡ true
  pub has : HasAnswer d'.client entry ask answer
  pub by : IsAnswerBy granted d'.id d'.client answer
  pub grants : is_granted answer ≡ true
  pub none_gone : tells_gone stream ≡ false
  pub stands : StandsOver granted failed d' s own (stream ++ entry ∷ []) (ask ∷ []) []

begun : (outcome : Outcome) (d : Doing) → is_grant outcome ≡ true → IsNewLogin outcome d → (d.logins.current ≢ 0) × (d.taking ≡ true) × (d.outstanding ≡ 0)
begun (outcomes.Granted number) d is begins = begins
begun outcome d is begins = absurd (cc (is))

pub written_puts : (granted : ℕ) (failed : Bool) (d d' : Doing) (s : ClientState) (own : EndState) (stream : List Entry) (ask : Ask) → d.reaches ≡ own.registered → PutsEntry d d'
    → IsGoing d s own stream → HasAsked s own stream ask → IsWritten granted d own ask → PutsOn granted failed d d' s own stream ask
written_puts granted failed d d' s own stream ask reached step goes has is = record {
  entry = entry;
  answer = is.iu;
  put = step.sent ∙ ap (λ (b : Bool). d.sent ++ cond b (rows_to d.to (entry ∷ [])) []) step.reaches;
  srp = srp;
  has = record {
    long = length d.answer;
    few = stands.few;
    entry_is = ap (srp_entry (length d.answer)) (ap (λ (r : Request). r.tag) same ∙ is.serves.is.tag);
    bytes = stands.bytes;
    stand = stands.stand;
    whole = stands.whole;
    spelled = stands.spelled;
    suits = stands.suits;
  };
  by = stands.credits;
  grants = stands.grants ∙ is.grants;
  none_gone = goes.none_gone there;
  stands = joins_again granted failed d' s own (stream ++ entry ∷ []) (ask ∷ []) []
      (record {
        going = step.line.ended ∙ goes.going;
        event = step.line.event ∙ goes.event;
        open_is = λ down. goes.open_is (sym step.line.handshake ∙ down);
        none_gone = λ on. gone_other stream entry (srp_no_event entry srp) ∙ goes.none_gone on;
        aware = goes.aware;
      })
      (inl there) (record { ask = ask; has = asked; where_is = inr ((refl, refl), granted_is) });
}
  where
    same : step.request ≡ is.serves.request
    same = same_request d.pending step.request is.serves.request d'.pending [] step.pending is.serves.pending

    entry : Entry
    entry = entry_for step.request d.answer

    there : own.registered ≡ true
    there = sym reached ∙ step.reaches

    stands : AnswerStands granted d'.id d'.client ask (length d.answer) is.outcome is.iu
    stands = answer_known granted d.id d'.id d.client d'.client ask (length d.answer) is.outcome is.iu step.stays.id step.client is.stands

    srp : is_srp_entry entry ≡ true
    srp = entry_srp (length d.answer) step.request.tag is.stands.few

    asked : HasAsked s own (stream ++ entry ∷ []) ask
    asked = record {
      login = has.login;
      asked = has.asked;
      due = has.due;
      up = has.up;
      complete = λ on. subst AreCompletions (sym (news_other stream entry srp)) (has.complete on);
    }

    begins : (d'.logins.current ≢ 0) × (d'.taking ≡ true) × (d'.outstanding ≡ 0)
    begins = begun step.outcome d' (ap is_grant (same_outcome d.stage step.outcome is.outcome step.first is.stage) ∙ is.grants) step.begins

    granted_is : IsGranted d' s own (stream ++ entry ∷ [])
    granted_is = record {
      current = begins.0;
      taking = begins.1;
      outstanding = begins.2;
      pending = same_rest d.pending step.request is.serves.request d'.pending [] step.pending is.serves.pending;
      stage = step.stage;
      up = step.line.handshake ∙ is.serves.up;
      kept = step.kept;
      queue = queue_as own d.coming d'.coming step.coming is.serves.queue;
      front = stream;
      entry = entry;
      last = refl;
      srp = srp;
    }
