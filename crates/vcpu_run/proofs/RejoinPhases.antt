-- Where a client and its unit stand whose session is over, or was, behind a step of the client that changes nothing of it.
use Rattle.std.proofs.Common.{◌≡◌, ◌≢◌, ◌∙◌, ◌⊎◌, inl, inr, ℕ, true, false, true≢false, List, [], ◌∷◌, sym, ap}
use Rattle.std.specs.List.{list_any}
use Rattle.vio_num.specs.declared.entry.Entry.{Entry}
use Rattle.crq_session.specs.EndState.{EndState}
use Rattle.crq_session.specs.declared.handshake.Handshake.TheVariants.{Down}
use Rattle.block_server.specs.Doings.{Doing}
use Rattle.vscsi_client.specs.State.{ClientState}
use Rattle.vcpu_run.specs.OwnOver.{HasAsked, IsAnew, IsAware, IsComing, IsFresh, IsGranted, IsLogging, IsPrepared, IsServing, IsShut, IsStale, IsTaken, IsUnheard, IsWritten, Joins, Rejoins, StandsBehind, Stirs, WillHear, is_login_due, is_under_way}
use Rattle.vcpu_run.specs.PlainTalk.{Ask}

-- Where both stand, while the client's partition goes on.
abbrev pub PhaseOver : (granted : ℕ) → Doing → ClientState → EndState → (stream : List Entry) → (answered lost : List Ask) → Type 0
PhaseOver granted d s own stream answered lost =
    IsShut d s own stream ⊎ (IsStale d ⊎ (IsUnheard d own stream ⊎ Rejoins granted false d s own stream answered lost))

-- how far a login has come that has no answer
abbrev pub IsAskedFor : (granted : ℕ) → Doing → EndState → Ask → Type 0
IsAskedFor granted d own ask = IsComing d own ask ⊎ (IsTaken d own ask ⊎ (IsPrepared d own ask ⊎ IsWritten granted d own ask))

-- What a step leaves of a client as it was.
pub record SameStage (s s' : ClientState) : Type 0 where
  pub handshake : s'.handshake ≡ s.handshake
  pub login : s'.login ≡ s.login
  pub due : s'.due ≡ s.due
  pub aware : IsAware s → IsAware s'

-- ---- another state of a queue that is registered

pub off_on : (own : EndState) → own.registered ≡ true → own.registered ≡ false → ⊥
off_on own there off = true≢false (sym there ∙ off)

pub behind_there : (own : EndState) (back : List Entry) → own.registered ≡ true → StandsBehind own back → back ≡ []
behind_there own back there (inl none) = none
behind_there own back there (inr (off, all)) = absurd (off_on own there off)

abbrev serving_same : (d : Doing) (own own' : EndState) (ask : Ask) → own.registered ≡ true → IsServing d own ask → IsServing d own' ask
serving_same d own own' ask there serves = record {
  current = serves.current;
  up = serves.up;
  request = serves.request;
  pending = serves.pending;
  is = serves.is;
  queue = inl (behind_there own d.coming there serves.queue);
}

pub asked_same : (granted : ℕ) (d : Doing) (own own' : EndState) (ask : Ask) → own.registered ≡ true → IsAskedFor granted d own ask → IsAskedFor granted d own' ask
asked_same granted d own own' ask there (inl comes) = inl (record {
  idle = comes.idle;
  kept = comes.kept;
  entry = comes.entry;
  front = comes.front;
  back = comes.back;
  queue = comes.queue;
  shakes = comes.shakes;
  behind = inl (behind_there own comes.back there comes.behind);
  shows = comes.shows;
})
asked_same granted d own own' ask there (inr (inl taken)) =
    inr (inl (record { serves = serving_same d own own' ask there taken.serves; stage = taken.stage; kept = taken.kept; entry = taken.entry }))
asked_same granted d own own' ask there (inr (inr (inl is))) = inr (inr (inl (record {
  serves = serving_same d own own' ask there is.serves;
  outcome = is.outcome;
  stage = is.stage;
  grants = is.grants;
  answer = is.answer;
  kept = is.kept;
  entry = is.entry;
})))
asked_same granted d own own' ask there (inr (inr (inr is))) = inr (inr (inr (record {
  serves = serving_same d own own' ask there is.serves;
  outcome = is.outcome;
  stage = is.stage;
  grants = is.grants;
  iu = is.iu;
  stands = is.stands;
  kept = is.kept;
  entry = is.entry;
})))

-- ---- a client that stands as it did

fresh_same : (s s' : ClientState) (stream : List Entry) → SameStage s s' → IsFresh s stream → IsFresh s' stream
fresh_same s s' stream same fresh = record {
  aware = same.aware fresh.aware;
  login = same.login ∙ fresh.login;
  handshake = same.handshake ∙ fresh.handshake;
  none = fresh.none;
  due = ap (list_any is_login_due) same.due ∙ fresh.due;
}

hear_same : (d : Doing) (s s' : ClientState) (own own' : EndState) (stream : List Entry) → own.registered ≡ true → SameStage s s' → WillHear d s own stream → WillHear d s' own' stream
hear_same d s s' own own' stream there same (inl off) = absurd (off_on own there off)
hear_same d s s' own own' stream there same (inr (inl told)) = inr (inl told)
hear_same d s s' own own' stream there same (inr (inr (inl event))) = inr (inr (inl event))
hear_same d s s' own own' stream there same (inr (inr (inr fresh))) = inr (inr (inr (fresh_same s s' stream same fresh)))

stirs_same : (d : Doing) (s s' : ClientState) (stream : List Entry) → s'.due ≡ s.due → Stirs d s stream → Stirs d s' stream
stirs_same d s s' stream due (inl news) = inl news
stirs_same d s s' stream due (inr (inl kept)) = inr (inl kept)
stirs_same d s s' stream due (inr (inr (inl coming))) = inr (inr (inl coming))
stirs_same d s s' stream due (inr (inr (inr (others, is)))) = inr (inr (inr (others, due ∙ is)))

logging_same : (d : Doing) (s s' : ClientState) (stream : List Entry) → SameStage s s' → IsLogging d s stream → IsLogging d s' stream
logging_same d s s' stream same logs = record {
  up = same.handshake ∙ logs.up;
  complete = logs.complete;
  entry = logs.entry;
  last = λ front others is. logs.last front others (sym same.due ∙ is);
}

asks_same : (s s' : ClientState) → SameStage s s' → (list_any is_login_due s'.due ≡ true) ⊎ (is_under_way s'.login ≡ true) → (list_any is_login_due s.due ≡ true) ⊎ (is_under_way s.login ≡ true)
asks_same s s' same (inl due) = inl (sym (ap (list_any is_login_due) same.due) ∙ due)
asks_same s s' same (inr login) = inr (sym (ap is_under_way same.login) ∙ login)

anew_same : (d : Doing) (s s' : ClientState) (own own' : EndState) (stream : List Entry) → own.registered ≡ true → SameStage s s' → IsAnew d s own stream → IsAnew d s' own' stream
anew_same d s s' own own' stream there same anew = record {
  idle = anew.idle;
  kept = anew.kept;
  queue = anew.queue;
  unsent = λ on tag slot is. anew.unsent there tag slot (sym same.login ∙ is);
  first = λ on kept. let was = anew.first there kept in (same.handshake ∙ was.0, was.1);
  stirs = λ on waits. stirs_same d s s' stream same.due (anew.stirs there (sym same.handshake ∙ waits));
  logging = λ on logs. logging_same d s s' stream same (anew.logging there (asks_same s s' same logs));
}

pub has_same : (s s' : ClientState) (own own' : EndState) (stream : List Entry) (ask : Ask) → own.registered ≡ true → SameStage s s' → HasAsked s own stream ask → HasAsked s' own' stream ask
has_same s s' own own' stream ask there same has = record {
  login = same.login ∙ has.login;
  asked = has.asked;
  due = λ on. same.due ∙ has.due there;
  up = λ on. same.handshake ∙ has.up there;
  complete = λ on. has.complete there;
}

joins_same : (granted : ℕ) (d : Doing) (s s' : ClientState) (own own' : EndState) (stream : List Entry) (answered lost : List Ask) → own.registered ≡ true → SameStage s s'
    → Joins granted d s own stream answered lost → Joins granted d s' own' stream answered lost
joins_same granted d s s' own own' stream answered lost there same joins = record {
  ask = joins.ask;
  has = has_same s s' own own' stream joins.ask there same joins.has;
  where_is = by joins.where_is;
}
  where
    by : (((answered ≡ []) × (lost ≡ joins.ask ∷ [])) × IsAskedFor granted d own joins.ask) ⊎ (((answered ≡ joins.ask ∷ []) × (lost ≡ [])) × IsGranted d s own stream)
        → (((answered ≡ []) × (lost ≡ joins.ask ∷ [])) × IsAskedFor granted d own' joins.ask) ⊎ (((answered ≡ joins.ask ∷ []) × (lost ≡ [])) × IsGranted d s' own' stream)
    by (inl (lists, asked)) = inl (lists, asked_same granted d own own' joins.ask there asked)
    by (inr (lists, is)) = inr (
      lists,
      record {
        current = is.current;
        taking = is.taking;
        outstanding = is.outstanding;
        pending = is.pending;
        stage = is.stage;
        up = is.up;
        kept = is.kept;
        queue = inl (behind_there own d.coming there is.queue);
        front = is.front;
        entry = is.entry;
        last = is.last;
        srp = is.srp;
      },
    )

pub shut_same : (d : Doing) (s s' : ClientState) (own own' : EndState) (stream : List Entry) → own.registered ≡ true → SameStage s s' → IsShut d s own stream → IsShut d s' own' stream
shut_same d s s' own own' stream there same shut = record { over = shut.over; idle = shut.idle; kept = shut.kept; event = shut.event; told = by shut.told }
  where
    by : (d.handshake ≢ Down) ⊎ WillHear d s own stream → (d.handshake ≢ Down) ⊎ WillHear d s' own' stream
    by (inl up) = inl up
    by (inr hears) = inr (hear_same d s s' own own' stream there same hears)

pub phase_same : (granted : ℕ) (d : Doing) (s s' : ClientState) (own own' : EndState) (stream : List Entry) (answered lost : List Ask) → own.registered ≡ true → own'.registered ≡ true
    → SameStage s s' → PhaseOver granted d s own stream answered lost → PhaseOver granted d s' own' stream answered lost
phase_same granted d s s' own own' stream answered lost there on same (inl shut) = inl (shut_same d s s' own own' stream there same shut)
phase_same granted d s s' own own' stream answered lost there on same (inr (inl stale)) = inr (inl stale)
phase_same granted d s s' own own' stream answered lost there on same (inr (inr (inl un))) =
    inr (inr (inl (record { new = un.new; registered = on; gone = un.gone; queue = un.queue; begins = un.begins })))
phase_same granted d s s' own own' stream answered lost there on same (inr (inr (inr joins))) = inr (inr (inr (record {
  going = joins.going;
  event = joins.event;
  open_is = joins.open_is;
  none_gone = λ there'. joins.none_gone there;
  aware = λ there'. same.aware (joins.aware there);
  there = inl on;
  how = by joins.how;
})))
  where
    by : IsAnew d s own stream ⊎ Joins granted d s own stream answered lost → IsAnew d s' own' stream ⊎ Joins granted d s' own' stream answered lost
    by (inl anew) = inl (anew_same d s s' own own' stream there same anew)
    by (inr asks') = inr (joins_same granted d s s' own own' stream answered lost there same asks')
