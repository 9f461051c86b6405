-- A client that has looked at all, and its server unit, which has nothing to do, where the unit's session is over, or was: both have heard of one
-- another, or the client is to put its entry of the initialisation. It awaits nothing, and asked for no login.
use Rattle.std.proofs.Common.{◌≡◌, ◌≢◌, ◌∙◌, ◌⊎◌, inl, inr, ℕ, ◌++◌, Bool, true, true≢false, List, [], ◌∷◌, Option, None, refl, sym, ap, ap₂}
use Rattle.vio_num.specs.declared.entry.Entry.{Entry}
use Rattle.crq_session.specs.EndState.{EndState}
use Rattle.crq_session.specs.declared.handshake.Handshake.{Handshake}
use Rattle.crq_session.specs.declared.handshake.Handshake.TheVariants.{Down, Up, Waiting}
use Rattle.block_server.specs.Doings.{Doing}
use Rattle.vscsi_client.specs.State.{ClientState}
use Rattle.vscsi_client.specs.declared.stage.Due.{Due}
use Rattle.vscsi_client.specs.declared.stage.Due.TheVariants as dues
use Rattle.vcpu_run.specs.OwnOver.{IsAnew, IsComing, IsGranted, IsOver, IsPrepared, IsServing, IsShut, IsStale, IsTaken, IsUnheard, IsWritten, Joins, Rejoins, Stirs, coming_to, held_in, news_among, stream_of, tells_gone}
use Rattle.vcpu_run.specs.OwnQuiets.{HasAll, HasNoWork}
use Rattle.vcpu_run.specs.PlainTalk.{Ask}
use Rattle.vcpu_run.proofs.OwnStreams.{AreSrp}
use Rattle.vcpu_run.proofs.RejoinBegins.{kept_gone}

-- ---- lists that are empty

no_first : {T : Type 0} (list : List T) (first : T) (rest : List T) → list ≡ first ∷ rest → list ≡ [] → ⊥
no_first list first rest is none = cc (is, none)

no_front : {T : Type 0} (one : T) (list front rest : List T) → list ≡ front ++ one ∷ rest → list ≡ [] → ⊥
no_front one list [] rest is none = cc (is, none)
no_front one list (first ∷ front) rest is none = cc (is, none)

-- ---- the session of the unit goes on, and the client has heard of that

shut_calm : (d : Doing) (s : ClientState) (own : EndState) (stream : List Entry) → HasNoWork d → IsShut d s own stream → ⊥
shut_calm d s own stream rests shut = true≢false (sym shut.over ∙ rests.going)

stale_calm : (d : Doing) → HasNoWork d → IsStale d → ⊥
stale_calm d rests stale = no_first d.coming stale.early.entry stale.early.more stale.early.coming rests.coming

-- ---- no login was asked for

-- the unit has none to serve
serving_calm : (d : Doing) (own : EndState) (ask : Ask) → HasNoWork d → IsServing d own ask → ⊥
serving_calm d own ask rests serves = no_first d.pending serves.request [] serves.pending rests.pending

joins_calm : (granted : ℕ) (d : Doing) (s : ClientState) (own : EndState) (stream : List Entry) (answered lost : List Ask) → HasNoWork d → stream ≡ []
    → Joins granted d s own stream answered lost → ⊥
joins_calm granted d s own stream answered lost rests empty joins = by joins.where_is
  where
    comes : IsComing d own joins.ask ⊎ (IsTaken d own joins.ask ⊎ (IsPrepared d own joins.ask ⊎ IsWritten granted d own joins.ask)) → ⊥
    comes (inl coming) = no_front _ d.coming coming.front coming.back coming.queue rests.coming
    comes (inr (inl taken)) = serving_calm d own joins.ask rests taken.serves
    comes (inr (inr (inl prepared))) = serving_calm d own joins.ask rests prepared.serves
    comes (inr (inr (inr written))) = serving_calm d own joins.ask rests written.serves

    by : (((answered ≡ []) × (lost ≡ joins.ask ∷ [])) × (IsComing d own joins.ask ⊎ (IsTaken d own joins.ask ⊎ (IsPrepared d own joins.ask ⊎ IsWritten granted d own joins.ask))))
        ⊎ (((answered ≡ joins.ask ∷ []) × (lost ≡ [])) × IsGranted d s own stream) → ⊥
    by (inl one) = comes one.1
    by (inr one) = no_front _ stream one.1.front [] one.1.last empty

-- ---- both begin anew

stirs_calm : (d : Doing) (s : ClientState) (stream : List Entry) → HasNoWork d → stream ≡ [] → Stirs d s stream → (others : List Due) × (s.due ≡ dues.Initialize ∷ others)
stirs_calm d s stream rests empty (inl some) = absurd (some (ap news_among empty))
stirs_calm d s stream rests empty (inr (inl some)) = absurd (some rests.kept)
stirs_calm d s stream rests empty (inr (inr (inl has))) = absurd (no_front _ d.coming has.0 has.1 has.2 rests.coming)
stirs_calm d s stream rests empty (inr (inr (inr due))) = due

met_calm : (d : Doing) (s : ClientState) (own : EndState) (stream : List Entry) → HasNoWork d → own.registered ≡ true → stream ≡ [] → s.handshake ≢ Down → IsAnew d s own stream
    → ((others : List Due) × (s.due ≡ dues.Initialize ∷ others)) ⊎ (s.handshake ≡ Up)
met_calm d s own stream rests there empty on anew = by s.handshake refl
  where
    by : (handshake : Handshake) → s.handshake ≡ handshake → ((others : List Due) × (s.due ≡ dues.Initialize ∷ others)) ⊎ (s.handshake ≡ Up)
    by Down is = absurd (on is)
    by Waiting is = inl (stirs_calm d s stream rests empty (anew.stirs there is))
    by Up is = inr is

rejoins_calm : (granted : ℕ) (failed : Bool) (d : Doing) (s : ClientState) (own : EndState) (stream : List Entry) (answered lost : List Ask) → HasNoWork d → own.registered ≡ true
    → s.handshake ≢ Down → (s.kept ≡ [] → stream ≡ []) → Rejoins granted failed d s own stream answered lost → HasAll s
rejoins_calm granted failed d s own stream answered lost rests there on looked joins = by joins.how
  where
    empty : stream ≡ []
    empty = looked (joins.aware there).kept

    by : IsAnew d s own stream ⊎ Joins granted d s own stream answered lost → HasAll s
    by (inl anew) = record { aware = joins.aware there; unsent = anew.unsent there; met = met_calm d s own stream rests there empty on anew }
    by (inr asked) = absurd (joins_calm granted d s own stream answered lost rests empty asked)

-- ---- whatever phase both are in

pub over_calm : (granted : ℕ) (failed : Bool) (d : Doing) (s : ClientState) (own : EndState) → HasNoWork d → own.registered ≡ true → AreSrp s.kept → s.held ≡ None → coming_to own d.sent ≡ []
    → IsOver granted failed d s own → HasAll s
over_calm granted failed d s own rests there are held none over = by over.phase
  where
    stream : stream_of s over.rest ≡ s.kept ++ []
    stream = ap₂ (λ (one : Option Entry) (rest : List Entry). s.kept ++ (held_in one ++ rest)) held (over.come there ∙ none)

    by : IsShut d s own (stream_of s over.rest)
        ⊎ (IsStale d ⊎ (IsUnheard d own (stream_of s over.rest) ⊎ Rejoins granted failed d s own (stream_of s over.rest) over.answered over.lost)) → HasAll s
    by (inl shut) = absurd (shut_calm d s own (stream_of s over.rest) rests shut)
    by (inr (inl stale)) = absurd (stale_calm d rests stale)
    by (inr (inr (inl unheard))) = absurd (kept_gone s.kept are (sym (ap tells_gone stream) ∙ unheard.gone))
    by (inr (inr (inr joins))) = rejoins_calm granted failed d s own (stream_of s over.rest) over.answered over.lost rests there (over.there there)
        (λ kept. stream ∙ ap (λ (list : List Entry). list ++ []) kept) joins
