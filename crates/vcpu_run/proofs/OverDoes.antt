-- A turn of a server unit whose session is over, or was: step by step it stays so, up to the entry that grants its client a login.
use Rattle.std.proofs.Common.{◌≡◌, ◌∙◌, ◌⊎◌, inl, inr, ℕ, Bool, true, false, cond, List, [], ◌∷◌, refl, sym, ap, subst}
use Rattle.crq_session.specs.EndState.{EndState}
use Rattle.srp_iu.specs.declared.unit.Iu.{Iu}
use Rattle.tce_window.specs.PortState.{PortState}
use Rattle.vio_num.specs.Entry.{entry_format, first_byte, kind_of}
use Rattle.vio_num.specs.declared.entry.Entry.{Entry}
use Rattle.vio_num.specs.declared.names.UnitId.{UnitId}
use Rattle.block_server.specs.Doings.{DoesOne, Doing, DropsAll, IsLostBy, KeepsEntry, LogsOutFirst, LosesEntry, Prepares, PutsEntry, WritesAnswer}
use Rattle.block_server.specs.Granting.{LoginState}
use Rattle.block_server.specs.declared.request.Request.{Request}
use Rattle.block_server.specs.declared.service.Outcome.{Outcome}
use Rattle.block_server.specs.declared.service.Stage.{Stage}
use Rattle.block_server.specs.declared.service.Stage.TheVariants as stages
use Rattle.vscsi_client.specs.State.{ClientState}
use Rattle.vcpu_run.specs.OwnOver.{IsOver, IsOwed, IsPrepared, IsTaken, IsWritten, stream_of}
use Rattle.vcpu_run.specs.PlainTalk.{Ask, is_grant, is_login, is_logout}
use Rattle.vcpu_run.proofs.OverAnew.{leads_none}
use Rattle.vcpu_run.proofs.OverDrops.{anew_drops, behind_drops, coming_drops, new_drops}
use Rattle.vcpu_run.proofs.OverListens.{line_heard, line_same, over_calls, over_datagram, over_frees, over_hears, over_opens, over_passes, over_sends, over_settles, over_takes}
use Rattle.vcpu_run.proofs.OverMoves.{owed_answered, owed_asked, owed_known, owed_more, own_known}
use Rattle.vcpu_run.proofs.OverServes.{same_outcome, same_request, taken_prepares, written_keeps, written_loses, written_puts}
use Rattle.vcpu_run.proofs.OverShut.{shut_drops}
use Rattle.vcpu_run.proofs.OverSteps.{IsOverWith, IsJoining, LineIs, heard_by, joining_ask, over_known, over_with, served_by}
use Rattle.vcpu_run.proofs.OverWrites.{prepared_writes, writes_own}
use Rattle.vcpu_run.proofs.PlainLists.{login_no_logout, order_logout}

-- ---- all is dropped

drops_line : (granted : ℕ) (failed : Bool) (d d' : Doing) (s : ClientState) (own : EndState) → IsOver granted failed d s own → DropsAll d d' → LineIs d' own
drops_line granted failed d d' s own is step = by step.why
  where
    by : IsLostBy d d' ⊎ ((d'.ended ≡ true) × (d'.handshake ≡ d.handshake) × ((d'.coming ≡ d.coming) ⊎ ((entry : Entry) × (d.coming ≡ entry ∷ d'.coming)))) → LineIs d' own
    by (inl lost) = line_heard granted failed d d' s own is (kind_of (first_byte lost.entry)) (entry_format lost.entry) lost.handshake lost.ended step.reaches
    by (inr ends) = record {
      reaches = λ up. step.reaches ∙ is.reaches (λ down. up (ends.1 ∙ down));
      shut = λ down. (step.reaches ∙ (is.shut (sym ends.1 ∙ down)).0, ends.0);
    }

pub over_drops : (granted : ℕ) (failed : Bool) (d d' : Doing) (s : ClientState) (own : EndState) → (is : IsOver granted failed d s own) → DropsAll d d' → IsOverWith granted failed d' s own is.answers
over_drops granted failed d d' s own is step =
    over_known granted failed d d' s own is step.stays (drops_line granted failed d d' s own is step) step.put.client (inr step.current)
    (heard_by granted failed d s own stream is.answered is.lost
    (λ shut. leads_none granted failed d d' s own stream is.answered is.lost step.put.sent (inl (shut_drops d d' s own stream step shut)))
    (λ new queue. new_drops granted failed d d' s own stream is.answered is.lost step new queue)
    (λ goes anew. anew_drops granted failed d d' s own stream is.answered is.lost step goes anew)
    (λ ask joins coming. coming_drops granted failed d d' s own stream is.answered is.lost ask step joins.goes joins.there
    (joining_ask failed d s own stream is.answered is.lost ask joins is.owed.each).canonical.within joins.parts joins.has coming)
    (λ goes queue. behind_drops granted failed d d' s own stream is.answered is.lost step goes queue) is.phase)
  where
    stream : List Entry
    stream = stream_of s is.rest

-- ---- the oldest request

pub none_pending : (requests : List Request) (request : Request) (rest : List Request) → requests ≡ [] → requests ≡ request ∷ rest → ⊥
none_pending requests request rest none is = cc (none, is)

pub start_answer : (stage : Stage) (outcome : Outcome) → stage ≡ stages.Start → stage ≡ stages.Answer outcome → ⊥
start_answer stage outcome is other = cc (is, other)

pub start_entry : (stage : Stage) (outcome : Outcome) → stage ≡ stages.Start → stage ≡ stages.Entry outcome → ⊥
start_entry stage outcome is other = cc (is, other)

pub answer_entry : (stage : Stage) (a b : Outcome) → stage ≡ stages.Answer a → stage ≡ stages.Entry b → ⊥
answer_entry stage a b is other = cc (is, other)

not_both : (b : Bool) → b ≡ true → b ≡ false → ⊥
not_both b is isnt = cc (is, isnt)

-- it asks for no logout
pub over_logs_out : (granted : ℕ) (failed : Bool) (d d' : Doing) (s : ClientState) (own : EndState) → IsOver granted failed d s own → LogsOutFirst d d' → ⊥
over_logs_out granted failed d d' s own is step =
    served_by granted failed d s own (stream_of s is.rest) is.answered is.lost (λ none. none_pending d.pending step.request d'.pending none step.pending)
    (λ ask joins taken. first ask joins.has.asked taken) (λ ask joins prepared. start_answer d.stage prepared.outcome step.first prepared.stage)
    (λ ask joins written. start_entry d.stage written.outcome step.first written.stage) is.phase
  where
    first : (ask : Ask) → is_login ask.iu ≡ true → IsTaken d own ask → ⊥
    first ask login taken =
        not_both (is_logout ask.iu)
        (order_logout ask.iu (sym taken.serves.is.order
        ∙ ap (λ (r : Request). r.order) (sym (same_request d.pending step.request taken.serves.request d'.pending [] step.pending taken.serves.pending)) ∙ step.order))
        (login_no_logout ask.iu login)

pub over_prepares : (granted : ℕ) (failed : Bool) (d d' : Doing) (s : ClientState) (own : EndState) → (is : IsOver granted failed d s own) → Prepares d d' → IsOverWith granted failed d' s own is.answers
over_prepares granted failed d d' s own is step =
    served_by granted failed d s own stream is.answered is.lost (λ none. absurd (none_pending d.pending step.request step.rest none step.pending)) (λ ask joins taken. first ask joins taken)
    (λ ask joins prepared. absurd (start_answer d.stage prepared.outcome step.first prepared.stage))
    (λ ask joins written. absurd (start_entry d.stage written.outcome step.first written.stage)) is.phase
  where
    stream : List Entry
    stream = stream_of s is.rest

    first : (ask : Ask) → IsJoining failed d s own stream is.answered is.lost ask → IsTaken d own ask → IsOverWith granted failed d' s own is.answers
    first ask joins taken =
        let left = taken_prepares granted failed d d' s own stream is.answered is.lost ask (joining_ask failed d s own stream is.answered is.lost ask joins is.owed.each) step joins.goes joins.there
        joins.parts joins.has taken in
        over_known granted failed d d' s own is step.stays (line_same granted failed d d' s own is step.line) left.0 (inl (ap (λ (l : LoginState). l.current) step.logins)) left.1

-- ---- its answer

-- it is all that is owed
owed_one : (granted : ℕ) (id : UnitId) (window : PortState) (s : ClientState) (stream : List Entry) (answered lost : List Ask) (answers : List Iu) (ask : Ask) → (answered ≡ []) × (lost ≡ ask ∷ [])
    → IsOwed granted id window s stream answered lost answers → IsOwed granted id window s stream [] (ask ∷ []) answers
owed_one granted id window s stream answered lost answers ask parts owed =
    subst (λ (list : List Ask). IsOwed granted id window s stream [] list answers) parts.1 (subst (λ (list : List Ask). IsOwed granted id window s stream list lost answers) parts.0 owed)

pub over_writes : (granted : ℕ) (failed : Bool) (d d' : Doing) (s : ClientState) (own : EndState) → (is : IsOver granted failed d s own) → WritesAnswer d d' → IsOverWith granted failed d' s own is.answers
over_writes granted failed d d' s own is step =
    served_by granted failed d s own stream is.answered is.lost (λ none. absurd (none_pending d.pending step.request step.rest none step.pending))
    (λ ask joins taken. absurd (start_answer d.stage step.outcome taken.stage step.first)) (λ ask joins prepared. first ask joins prepared)
    (λ ask joins written. absurd (answer_entry d.stage step.outcome written.outcome step.first written.stage)) is.phase
  where
    stream : List Entry
    stream = stream_of s is.rest

    first : (ask : Ask) → IsJoining failed d s own stream is.answered is.lost ask → IsPrepared d own ask → IsOverWith granted failed d' s own is.answers
    first ask joins prepared =
        let leads = prepared_writes granted failed d d' s own stream [] (ask ∷ []) ask is.grants is.usable (joining_ask failed d s own stream is.answered is.lost ask joins is.owed.each) step joins.goes
        joins.there (refl, refl) joins.has prepared in
        over_with granted failed d d' s own is step.stays (line_same granted failed d d' s own is step.line) (writes_own d d' step is.usable) leads.more leads.put [] (ask ∷ []) is.answers
        (owed_more granted d'.id d'.client s stream [] (ask ∷ []) is.answers leads.more leads.news
        (owed_asked granted d.id d'.id d.client d'.client s stream (ask ∷ []) is.answers ask.tag ask.slot joins.has.login
        (owed_one granted d.id d.client s stream is.answered is.lost is.answers ask joins.parts is.owed))) leads.stands (λ on some. is.on on (λ none. some (ap (λ (l : LoginState). l.current) step.logins ∙ none)))

pub over_keeps : (granted : ℕ) (failed : Bool) (d d' : Doing) (s : ClientState) (own : EndState) → (is : IsOver granted failed d s own) → KeepsEntry d d' → IsOverWith granted failed d' s own is.answers
over_keeps granted failed d d' s own is step =
    over_known granted failed d d' s own is step.stays (line_same granted failed d d' s own is step.line) step.put.client (inl (ap (λ (l : LoginState). l.current) step.logins))
    (served_by granted failed d s own stream is.answered is.lost (λ none. absurd (none_pending d.pending step.request step.rest none step.pending))
    (λ ask joins taken. absurd (start_entry d.stage step.outcome taken.stage step.first)) (λ ask joins prepared. absurd (answer_entry d.stage prepared.outcome step.outcome prepared.stage step.first))
    (λ ask joins written. written_keeps granted failed d d' s own stream is.answered is.lost ask step joins.goes joins.there joins.parts joins.has written) is.phase)
  where
    stream : List Entry
    stream = stream_of s is.rest

pub over_loses : (granted : ℕ) (failed : Bool) (d d' : Doing) (s : ClientState) (own : EndState) → (is : IsOver granted failed d s own) → LosesEntry d d' → IsOverWith granted failed d' s own is.answers
over_loses granted failed d d' s own is step =
    over_known granted failed d d' s own is step.stays (line_same granted failed d d' s own is step.line) step.put.client (inl (ap (λ (l : LoginState). l.current) step.logins))
    (served_by granted failed d s own stream is.answered is.lost (λ none. absurd (none_pending d.pending step.request d'.pending none step.pending))
    (λ ask joins taken. absurd (start_entry d.stage step.outcome taken.stage step.first)) (λ ask joins prepared. absurd (answer_entry d.stage prepared.outcome step.outcome prepared.stage step.first))
    (λ ask joins written. written_loses granted failed d d' s own stream is.answered is.lost ask (is.reaches joins.goes.open_is) step joins.goes written) is.phase)
  where
    stream : List Entry
    stream = stream_of s is.rest

-- What the entry leaves that was put: its login is granted, and that is all that has its answer.
pub record PutsOver (granted : ℕ) (failed : Bool) (d d' : Doing) (s : ClientState) (own : EndState) (step : PutsEntry d d') : Type 0 where
  pub answer : Iu
  pub grants : is_grant step.outcome ≡ true
  pub over : IsOverWith granted failed d' s own (answer ∷ [])

-- The client is granted its login.
pub over_puts : (granted : ℕ) (failed : Bool) (d d' : Doing) (s : ClientState) (own : EndState) → IsOver granted failed d s own → (step : PutsEntry d d') → PutsOver granted failed d d' s own step
over_puts granted failed d d' s own is step =
    served_by granted failed d s own stream is.answered is.lost (λ none. absurd (none_pending d.pending step.request d'.pending none step.pending))
    (λ ask joins taken. absurd (start_entry d.stage step.outcome taken.stage step.first)) (λ ask joins prepared. absurd (answer_entry d.stage prepared.outcome step.outcome prepared.stage step.first))
    (λ ask joins written. first ask joins written) is.phase
  where
    stream : List Entry
    stream = stream_of s is.rest

    first : (ask : Ask) → IsJoining failed d s own stream is.answered is.lost ask → IsWritten granted d own ask → PutsOver granted failed d d' s own step
    first ask joins written =
        let puts = written_puts granted failed d d' s own stream ask (is.reaches joins.goes.open_is) step joins.goes joins.has written in
        record {
          answer = puts.answer;
          grants = ap is_grant (same_outcome d.stage step.outcome written.outcome step.first written.stage) ∙ written.grants;
          over =
              over_with granted failed d d' s own is step.stays (line_same granted failed d d' s own is step.line) (own_known d.client d'.client step.client is.usable) (puts.entry ∷ []) puts.put
              (ask ∷ []) [] (puts.answer ∷ [])
              (owed_answered granted d'.id d'.client s stream ask is.answers puts.entry puts.answer joins.has.login puts.srp puts.none_gone puts.has puts.by
              (owed_known granted d.id d'.id d.client d'.client s stream [] (ask ∷ []) is.answers step.stays.id step.client
              (owed_one granted d.id d.client s stream is.answered is.lost is.answers ask joins.parts is.owed))) puts.stands (λ on some. ap (λ (b : Bool). cond b true false) puts.grants);
        }

-- ---- each step, and all of a turn

pub over_does : (granted : ℕ) (failed : Bool) (d d' : Doing) (s : ClientState) (own : EndState) → IsOver granted failed d s own → DoesOne d d' → IsOver granted failed d' s own
over_does granted failed d d' s own is (inl step) = (over_calls granted failed d d' s own is step).over
over_does granted failed d d' s own is (inr (inl step)) = (over_settles granted failed d d' s own is step).over
over_does granted failed d d' s own is (inr (inr (inl step))) = (over_frees granted failed d d' s own is step).over
over_does granted failed d d' s own is (inr (inr (inr (inl step)))) = (over_opens granted failed d d' s own is step).over
over_does granted failed d d' s own is (inr (inr (inr (inr (inl step))))) = (over_sends granted failed d d' s own is step).over
over_does granted failed d d' s own is (inr (inr (inr (inr (inr (inl step)))))) = (over_hears granted failed d d' s own is step).over
over_does granted failed d d' s own is (inr (inr (inr (inr (inr (inr (inl step))))))) = absurd (over_datagram granted failed d d' s own is step)
over_does granted failed d d' s own is (inr (inr (inr (inr (inr (inr (inr (inl step)))))))) = (over_passes granted failed d d' s own is step).over
over_does granted failed d d' s own is (inr (inr (inr (inr (inr (inr (inr (inr (inl step))))))))) = (over_takes granted failed d d' s own is step).over
over_does granted failed d d' s own is (inr (inr (inr (inr (inr (inr (inr (inr (inr (inl step)))))))))) = (over_drops granted failed d d' s own is step).over
over_does granted failed d d' s own is (inr (inr (inr (inr (inr (inr (inr (inr (inr (inr (inl step))))))))))) = absurd (over_logs_out granted failed d d' s own is step)
over_does granted failed d d' s own is (inr (inr (inr (inr (inr (inr (inr (inr (inr (inr (inr (inl step)))))))))))) = (over_prepares granted failed d d' s own is step).over
over_does granted failed d d' s own is (inr (inr (inr (inr (inr (inr (inr (inr (inr (inr (inr (inr (inl step))))))))))))) = (over_writes granted failed d d' s own is step).over
over_does granted failed d d' s own is (inr (inr (inr (inr (inr (inr (inr (inr (inr (inr (inr (inr (inr (inl step)))))))))))))) = (over_keeps granted failed d d' s own is step).over
over_does granted failed d d' s own is (inr (inr (inr (inr (inr (inr (inr (inr (inr (inr (inr (inr (inr (inr (inl step))))))))))))))) = (over_puts granted failed d d' s own is step).over.over
over_does granted failed d d' s own is (inr (inr (inr (inr (inr (inr (inr (inr (inr (inr (inr (inr (inr (inr (inr step))))))))))))))) = (over_loses granted failed d d' s own is step).over
