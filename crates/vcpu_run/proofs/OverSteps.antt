-- Where a unit stands whose session is over, or was, as a step finds it: by what is pending, and by what is to come.
use Rattle.std.proofs.Common.{◌≡◌, ◌≢◌, ◌∙◌, ◌⊎◌, inl, inr, ℕ, ◌≤◌, ◌++◌, All, Bool, true, false, List, [], ◌∷◌, length, refl, sym, ap, subst}
use Rattle.std.proofs.lemmas.List.Elements.{All-head}
use Rattle.crq_ring.specs.Sessions.{of_session}
use Rattle.crq_ring.specs.declared.rows.PipeRow.{PipeRow}
use Rattle.crq_session.specs.Answered.{taken_now}
use Rattle.crq_session.specs.EndState.{EndState}
use Rattle.crq_session.specs.declared.handshake.Handshake.TheVariants.{Down}
use Rattle.srp_iu.specs.declared.unit.Iu.{Iu}
use Rattle.vio_num.specs.declared.entry.Entry.{Entry}
use Rattle.block_server.specs.Doings.{Doing, StaysUnit, rows_to}
use Rattle.block_server.specs.Talk.{StaysKnown}
use Rattle.vscsi_client.specs.State.{ClientState}
use Rattle.vcpu_run.specs.OwnOver.{EndsEarly, HasAsked, IsAnew, IsComing, IsGranted, IsNew, IsOver, IsOwed, IsPrepared, IsShut, IsTaken, IsWritten, Joins, StandsBehind, coming_to, stream_of}
use Rattle.vcpu_run.specs.PlainTalk.{Ask, IsAsk, IsOwnWindow, grants_one}
use Rattle.vcpu_run.proofs.OverAnew.{LeadsOn}
use Rattle.vcpu_run.proofs.OverMoves.{owed_known, owed_more, come_put, own_known, stream_more, took_put}
use Rattle.vcpu_run.proofs.OverPhases.{IsGoing, StandsOver, going_of, rejoins_by}

-- ---- what is so of a login that was asked for

pub record IsJoining (failed : Bool) (d : Doing) (s : ClientState) (own : EndState) (stream : List Entry) (answered lost : List Ask) (ask : Ask) : Type 0 where
  pub goes : IsGoing d s own stream
  pub there : (own.registered ≡ true) ⊎ (failed ≡ true)
  pub parts : (answered ≡ []) × (lost ≡ ask ∷ [])
  pub has : HasAsked s own stream ask

pub joining_ask : (failed : Bool) (d : Doing) (s : ClientState) (own : EndState) (stream : List Entry) (answered lost : List Ask) (ask : Ask) → IsJoining failed d s own stream answered lost ask
    → All IsAsk (answered ++ lost) → IsAsk ask
joining_ask failed d s own stream answered lost ask is each =
    All-head IsAsk ask [] (subst (λ (list : List Ask). All IsAsk ([] ++ list)) is.parts.1 (subst (λ (list : List Ask). All IsAsk (list ++ lost)) is.parts.0 each))

-- ---- by what is pending

pub served_by : {R : Type 0} (granted : ℕ) (failed : Bool) (d : Doing) (s : ClientState) (own : EndState) (stream : List Entry) (answered lost : List Ask) → (d.pending ≡ [] → R)
    → ((ask : Ask) → IsJoining failed d s own stream answered lost ask → IsTaken d own ask → R)
    → ((ask : Ask) → IsJoining failed d s own stream answered lost ask → IsPrepared d own ask → R)
    → ((ask : Ask) → IsJoining failed d s own stream answered lost ask → IsWritten granted d own ask → R) → StandsOver granted failed d s own stream answered lost → R
served_by {R = R} granted failed d s own stream answered lost none taken prepared written (inl is) = none is.idle.pending
served_by {R = R} granted failed d s own stream answered lost none taken prepared written (inr (inl is)) = none is.new.idle.pending
served_by {R = R} granted failed d s own stream answered lost none taken prepared written (inr (inr (inl is))) = none is.new.idle.pending
served_by {R = R} granted failed d s own stream answered lost none taken prepared written (inr (inr (inr is))) =
    rejoins_by granted failed d s own stream answered lost (λ a. none a.idle.pending) (λ there j. by there j j.where_is) is
  where
    goes : IsGoing d s own stream
    goes = going_of granted failed d s own stream answered lost is

    by : (own.registered ≡ true) ⊎ (failed ≡ true) → (j : Joins granted d s own stream answered lost)
        → (((answered ≡ []) × (lost ≡ j.ask ∷ [])) × (IsComing d own j.ask ⊎ (IsTaken d own j.ask ⊎ (IsPrepared d own j.ask ⊎ IsWritten granted d own j.ask))))
        ⊎ (((answered ≡ j.ask ∷ []) × (lost ≡ [])) × IsGranted d s own stream) → R
    by there j (inl (parts, inl c)) = none c.idle.pending
    by there j (inl (parts, inr (inl t))) = taken j.ask (record { goes = goes; there = there; parts = parts; has = j.has }) t
    by there j (inl (parts, inr (inr (inl p)))) = prepared j.ask (record { goes = goes; there = there; parts = parts; has = j.has }) p
    by there j (inl (parts, inr (inr (inr w)))) = written j.ask (record { goes = goes; there = there; parts = parts; has = j.has }) w
    by there j (inr (parts, g)) = none g.pending

-- ---- by what is to come

pub heard_by : {R : Type 0} (granted : ℕ) (failed : Bool) (d : Doing) (s : ClientState) (own : EndState) (stream : List Entry) (answered lost : List Ask) → (IsShut d s own stream → R)
    → (IsNew d → (d.coming ≡ []) ⊎ EndsEarly d → R) → (IsGoing d s own stream → IsAnew d s own stream → R)
    → ((ask : Ask) → IsJoining failed d s own stream answered lost ask → IsComing d own ask → R)
    → (IsGoing d s own stream → StandsBehind own d.coming → R) → StandsOver granted failed d s own stream answered lost → R
heard_by {R = R} granted failed d s own stream answered lost shut new anew coming behind (inl is) = shut is
heard_by {R = R} granted failed d s own stream answered lost shut new anew coming behind (inr (inl is)) = new is.new (inr is.early)
heard_by {R = R} granted failed d s own stream answered lost shut new anew coming behind (inr (inr (inl is))) = new is.new is.queue
heard_by {R = R} granted failed d s own stream answered lost shut new anew coming behind (inr (inr (inr is))) =
    rejoins_by granted failed d s own stream answered lost (anew goes) (λ there j. by there j j.where_is) is
  where
    goes : IsGoing d s own stream
    goes = going_of granted failed d s own stream answered lost is

    by : (own.registered ≡ true) ⊎ (failed ≡ true) → (j : Joins granted d s own stream answered lost)
        → (((answered ≡ []) × (lost ≡ j.ask ∷ [])) × (IsComing d own j.ask ⊎ (IsTaken d own j.ask ⊎ (IsPrepared d own j.ask ⊎ IsWritten granted d own j.ask))))
        ⊎ (((answered ≡ j.ask ∷ []) × (lost ≡ [])) × IsGranted d s own stream) → R
    by there j (inl (parts, inl c)) = coming j.ask (record { goes = goes; there = there; parts = parts; has = j.has }) c
    by there j (inl (parts, inr (inl t))) = behind goes t.serves.queue
    by there j (inl (parts, inr (inr (inl p)))) = behind goes p.serves.queue
    by there j (inl (parts, inr (inr (inr w)))) = behind goes w.serves.queue
    by there j (inr (parts, g)) = behind goes g.queue

-- ---- what a step leaves

-- whether an entry reaches the client
pub record LineIs (d : Doing) (own : EndState) : Type 0 where
  pub reaches : d.handshake ≢ Down → d.reaches ≡ own.registered
  pub shut : d.handshake ≡ Down → (d.reaches ≡ false) × (d.ended ≡ true)

-- what is over, or was, where these have their answers
pub record IsOverWith (granted : ℕ) (failed : Bool) (d : Doing) (s : ClientState) (own : EndState) (answers : List Iu) : Type 0 where
  pub over : IsOver granted failed d s own
  pub answers_are : over.answers ≡ answers

-- it is so of whatever was put, and of what was asked, wherever that is
pub over_with : (granted : ℕ) (failed : Bool) (d d' : Doing) (s : ClientState) (own : EndState) → (is : IsOver granted failed d s own) → StaysUnit d d' → LineIs d' own → IsOwnWindow d'.client
    → (more : List Entry) → d'.sent ≡ d.sent ++ rows_to d.to more → (answered lost : List Ask) (answers : List Iu)
    → IsOwed granted d'.id d'.client s (stream_of s is.rest ++ more) answered lost answers → StandsOver granted failed d' s own (stream_of s is.rest ++ more) answered lost
    → (own.registered ≡ true → d'.logins.current ≢ 0 → grants_one answers ≡ true) → IsOverWith granted failed d' s own answers
over_with granted failed d d' s own is stays line usable more put answered lost answers owed stands on = record {
  over = record {
    answered = answered;
    lost = lost;
    answers = answers;
    rest = is.rest ++ more;
    come = λ there.
        ap (λ (list : List Entry). list ++ more) (is.come there) ∙ sym (come_put own d.sent more is.took) ∙ ap (coming_to own) (sym sent);
    owed = subst (λ (list : List Entry). IsOwed granted d'.id d'.client s list answered lost answers) (sym stream) owed;
    grants = stays.granted ∙ is.grants;
    most = is.most;
    partner = stays.partner ∙ is.partner;
    to = stays.to ∙ is.to;
    reaches = line.reaches;
    shut = line.shut;
    away = is.away;
    there = is.there;
    took = subst (λ (rows : List PipeRow). length (taken_now own) ≤ length (of_session own.last_session rows)) (sym sent) (took_put own d.sent more is.took);
    usable = usable;
    tabled = is.tabled;
    on = on;
    phase = subst (λ (list : List Entry). StandsOver granted failed d' s own list answered lost) (sym stream) stands;
  };
  answers_are = refl;
}
  where
    sent : d'.sent ≡ d.sent ++ rows_to own.last_session more
    sent = put ∙ ap (λ (q : ℕ). d.sent ++ rows_to q more) is.to

    stream : stream_of s (is.rest ++ more) ≡ stream_of s is.rest ++ more
    stream = stream_more s is.rest more

-- where the same is known of the window, and what was asked is where it was
pub over_known : (granted : ℕ) (failed : Bool) (d d' : Doing) (s : ClientState) (own : EndState) → (is : IsOver granted failed d s own) → StaysUnit d d' → LineIs d' own → StaysKnown d.client d'.client
    → (d'.logins.current ≡ d.logins.current) ⊎ (d'.logins.current ≡ 0) → LeadsOn granted failed d d' s own (stream_of s is.rest) is.answered is.lost → IsOverWith granted failed d' s own is.answers
over_known granted failed d d' s own is stays line known current leads =
    over_with granted failed d d' s own is stays line (own_known d.client d'.client known is.usable) leads.more leads.put is.answered is.lost is.answers
    (owed_more granted d'.id d'.client s (stream_of s is.rest) is.answered is.lost is.answers leads.more leads.news
    (owed_known granted d.id d'.id d.client d'.client s (stream_of s is.rest) is.answered is.lost is.answers stays.id known is.owed))
    leads.stands (λ there some. on there some current)
  where
    on : own.registered ≡ true → d'.logins.current ≢ 0 → (d'.logins.current ≡ d.logins.current) ⊎ (d'.logins.current ≡ 0) → grants_one is.answers ≡ true
    on there some (inl same) = is.on there (λ none. some (same ∙ none))
    on there some (inr none) = absurd (some none)
