-- A client beside a server unit whose session is over, or was, takes an entry that it is to look at, finds none, or keeps an answer.
use Rattle.std.proofs.Common.{◌≡◌, ◌∙◌, ◌⊎◌, inl, inr, ℕ, ◌≤◌, ◌++◌, All, Bool, true, false, true≢false, IfSome, List, [], ◌∷◌, Option, Some, None, arith, drop, length, min, refl, sym, ap, ap₂, subst}
use Rattle.std.proofs.lemmas.List.{drop_all}
use Rattle.vio_num.specs.declared.entry.Entry.{Entry}
use Rattle.vio_num.specs.declared.names.UnitId.{UnitId}
use Rattle.crq_session.specs.Answered.{FindsNone, received_now, taken_now}
use Rattle.crq_ring.specs.Sessions.{of_session}
use Rattle.crq_ring.specs.declared.rows.PipeRow.{PipeRow}
use Rattle.crq_session.specs.EndState.{EndPlace, EndState, OnlyReserves, OnlyTakes}
use Rattle.srp_iu.specs.declared.unit.Iu.{Iu}
use Rattle.tce_window.specs.PortState.{PortState}
use Rattle.block_server.specs.Doings.{Doing}
use Rattle.block_server.specs.Talk.{to_come}
use Rattle.vscsi_client.specs.State.{ClientState}
use Rattle.vscsi_client.specs.Turned.{PollsNone, SameHands, Site, Steps, TakesNext}
use Rattle.vscsi_client.specs.Turned.LoginStep.{Took, TookNone}
use Rattle.vscsi_client.specs.declared.outgoing.Outgoing.{Outgoing}
use Rattle.vscsi_client.specs.declared.stage.Stage.{Stage}
use Rattle.vcpu_run.specs.OwnOver.{IsOwed, IsUnanswered, LoginShows, held_in, is_under_way, stream_of, under_way}
use Rattle.vcpu_run.specs.PlainTalk.{Ask, TagsRise, is_logout}
use Rattle.vcpu_run.proofs.RejoinPhases.{PhaseOver, SameStage, phase_same}
use Rattle.vcpu_run.proofs.RejoinSteps.{NextIn, StandsIn, StepsTo, rest_come, step_still, still_takes, took_most}
use Rattle.vcpu_run.proofs.OwnStreams.{AreSrp}
use Rattle.vcpu_run.proofs.PlainLooked.{takes_on}
use Rattle.vcpu_run.proofs.PlainMids.{FindsNothing, polled, takes_most}
use Rattle.vcpu_run.proofs.PlainTaking.{poll_come}
use Rattle.vcpu_run.proofs.PlainTurns.{come_same}

-- What a step leaves of what a client asked.
pub record SameAsks (s s' : ClientState) : Type 0 where
  pub rows : length s'.rows ≡ length s.rows
  pub outgoing : s'.outgoing ≡ s.outgoing
  pub login : s'.login ≡ s.login
  pub logout : s'.logout ≡ s.logout
  pub granted : s'.granted ≡ s.granted

pub owed_same : (granted : ℕ) (id : UnitId) (window : PortState) (s s' : ClientState) (stream : List Entry) (answered lost : List Ask) (answers : List Iu) → SameAsks s s'
    → IsOwed granted id window s stream answered lost answers → IsOwed granted id window s' stream answered lost answers
owed_same granted id window s s' stream answered lost answers same owed = record {
  each = owed.each;
  slots = owed.slots;
  tags = subst (λ (n : ℕ). TagsRise n (answered ++ lost)) (sym same.rows) owed.tags;
  order = owed.order;
  told = owed.told;
  news = owed.news;
  behind = owed.behind;
  awaited = owed.awaited ∙ ap₂ (λ (outgoing : List Outgoing) (login : Stage). outgoing ++ under_way login) (sym same.outgoing) (sym same.login);
  logouts = subst (λ (logout : Option ℕ). All (λ ask. is_logout ask.iu ≡ true → logout ≡ Some ask.slot) (answered ++ lost)) (sym same.logout) owed.logouts;
  sent = owed.sent ∙ ap is_under_way (sym same.login);
  written = subst (λ (login : Stage). All (LoginShows window login) lost) (sym same.login) owed.written;
  unanswered = subst (λ (login : Stage). IsUnanswered login answered) (sym same.login) owed.unanswered;
  none = λ none. same.outgoing ∙ owed.none (sym same.granted ∙ none);
  within = subst (λ (outgoing : List Outgoing). length outgoing ≤ 200) (sym same.outgoing) owed.within;
  credits = subst (λ (known : Option ℕ). (known ≡ None) ⊎ (known ≡ Some (min granted 200))) (sym same.granted) owed.credits;
  grant = owed.grant;
}

-- where it is to look at the same
pub next_same : (promised : Bool) (granted : ℕ) (d : Doing) (a : Site) (s : ClientState) (own : EndState) → (stands : StandsIn promised granted d a) → SameAsks a.client s → SameStage a.client s → s.tabled ≡ a.client.tabled
    → AreSrp s.kept → own.registered ≡ a.at.crq.registered → stream_of s (to_come own) ≡ stream_of a.client stands.over.rest → NextIn promised granted d s own
next_same promised granted d a s own stands asks stage tabled kept registered stream = record {
  answered = stands.over.answered;
  lost = stands.over.lost;
  answers = stands.over.answers;
  rest = to_come own;
  come = refl;
  owed = subst (λ (list : List Entry). IsOwed granted d.id d.client s list stands.over.answered stands.over.lost stands.over.answers) (sym stream)
      (owed_same granted d.id d.client a.client s (stream_of a.client stands.over.rest) stands.over.answered stands.over.lost stands.over.answers asks stands.over.owed);
  there = λ down. stands.over.there stands.registered (sym stage.handshake ∙ down);
  tabled = tabled ∙ stands.over.tabled;
  on = λ current. stands.over.on stands.registered current;
  phase = subst (λ (list : List Entry). PhaseOver granted d s own list stands.over.answered stands.over.lost) (sym stream)
      (phase_same granted d a.client s a.at.crq own (stream_of a.client stands.over.rest) stands.over.answered stands.over.lost stands.registered (registered ∙ stands.registered) stage stands.over.phase);
  kept = kept;
  logout = subst (λ (known : Option ℕ). IfSome known (λ _. s.logout ≡ None)) (sym asks.granted)
      (subst (λ (logout : Option ℕ). IfSome a.client.granted (λ _. logout ≡ None)) (sym asks.logout) stands.logout);
  fewer = stands.fewer;
}

-- ---- an entry is taken

-- What an entry that is taken leaves: it is held, and was to come first.
pub record TookIn (promised : Bool) (granted : ℕ) (d : Doing) (a b : Site) : Type 0 where
  pub steps : StepsTo promised granted d a b
  pub entry : Entry
  pub come : to_come a.at.crq ≡ entry ∷ to_come b.at.crq
  pub client : b.client ≡ record a.client { held = Some entry }
  pub none_held : a.client.held ≡ None
  pub registered : b.at.crq.registered ≡ a.at.crq.registered

pub over_took : (promised : Bool) (granted line : ℕ) (d : Doing) (a b : Site) → StandsIn promised granted d a → Steps line Took a b → SameHands a b → TookIn promised granted d a b
over_took promised granted line d a b stands took hands = record {
  steps = step_still promised granted d a b stands hands (still_takes a.at.crq b.at.crq only) took.1 (takes_most a.client b.client a.at.crq b.at.crq takes (took_most promised granted d a stands))
      (subst (λ (s : ClientState). NextIn promised granted d s b.at.crq) (sym takes.client) next);
  entry = takes.entry;
  come = come;
  client = takes.client;
  none_held = takes.none_held;
  registered = only.registered;
}
  where
    takes : TakesNext false a.client b.client a.at.crq b.at.crq
    takes = subst (λ shared. TakesNext shared a.client b.client a.at.crq b.at.crq) stands.seen.alone took.0

    only : OnlyTakes false a.at.crq b.at.crq
    only = takes_on a.client b.client a.at.crq b.at.crq takes

    come : to_come a.at.crq ≡ takes.entry ∷ to_come b.at.crq
    come = poll_come a.at.crq b.at.crq takes.entry (record { room = takes.room; ready = takes.ready; number = takes.number; taken = takes.taken }) only

    next : NextIn promised granted d (record a.client { held = Some takes.entry }) b.at.crq
    next = next_same promised granted d a (record a.client { held = Some takes.entry }) b.at.crq stands
        (record { rows = refl; outgoing = refl; login = refl; logout = refl; granted = refl })
        (record { handshake = refl; login = refl; due = refl; aware = λ aware. record { granted = aware.granted; outgoing = aware.outgoing; logout = aware.logout; kept = aware.kept } })
        refl stands.kept only.registered
        (sym (ap₂ (λ (held : Option Entry) (rest : List Entry). a.client.kept ++ (held_in held ++ rest)) takes.none_held (rest_come promised granted d a stands ∙ come)))

-- ---- none is there

-- where nothing was changed but room, counts, and the client not at all
pub over_rests : (promised : Bool) (granted : ℕ) (d : Doing) (a b : Site) → StandsIn promised granted d a → OnlyTakes false a.at.crq b.at.crq → b.at.crq.taken ≡ a.at.crq.taken → b.client ≡ a.client → b.at.own ≡ a.at.own
    → SameHands a b → StepsTo promised granted d a b
over_rests promised granted d a b stands only taken client window hands =
    step_still promised granted d a b stands hands (still_takes a.at.crq b.at.crq only) window
    (subst (λ (n : ℕ). n ≤ length (received_now b.at.crq)) (sym (ap length taken_same)) (subst (λ (list : List Entry). length (taken_now a.at.crq) ≤ length list) (sym received_same) (took_most promised granted d a stands)))
    (subst (λ (s : ClientState). NextIn promised granted d s b.at.crq) (sym client) next)
  where
    taken_same : taken_now b.at.crq ≡ taken_now a.at.crq
    taken_same = ap₂ (λ q (rows : List PipeRow). of_session q rows) only.last_session taken

    received_same : received_now b.at.crq ≡ received_now a.at.crq
    received_same = ap₂ (λ q (rows : List PipeRow). of_session q rows) only.last_session (ap (λ (place : EndPlace). place.received) only.place)

    come : to_come b.at.crq ≡ to_come a.at.crq
    come = come_same a.at.crq b.at.crq only.place only.last_session taken

    next : NextIn promised granted d a.client b.at.crq
    next = next_same promised granted d a a.client b.at.crq stands (record { rows = refl; outgoing = refl; login = refl; logout = refl; granted = refl })
        (record { handshake = refl; login = refl; due = refl; aware = λ aware. aware }) refl stands.kept only.registered
        (ap (λ (rest : List Entry). stream_of a.client rest) (come ∙ sym (rest_come promised granted d a stands)))

-- What a poll in vain leaves: nothing is to come.
pub record FoundNone (promised : Bool) (granted : ℕ) (d : Doing) (a b : Site) : Type 0 where
  pub steps : StepsTo promised granted d a b
  pub client : b.client ≡ a.client
  pub come : to_come b.at.crq ≡ to_come a.at.crq
  pub none : to_come b.at.crq ≡ []
  pub registered : b.at.crq.registered ≡ a.at.crq.registered

pub over_none : (promised : Bool) (granted line : ℕ) (d : Doing) (a b : Site) → StandsIn promised granted d a → Steps line TookNone a b → SameHands a b → FoundNone promised granted d a b
over_none promised granted line d a b stands took hands = record {
  steps = over_rests promised granted d a b stands finds.only finds.taken polls.client took.1 hands;
  client = polls.client;
  come = come;
  none = come ∙ by polls.none;
  registered = finds.only.registered;
}
  where
    polls : PollsNone false a.client b.client a.at.crq b.at.crq
    polls = subst (λ shared. PollsNone shared a.client b.client a.at.crq b.at.crq) stands.seen.alone took.0

    finds : FindsNothing a.at.crq b.at.crq
    finds = polled a.client b.client a.at.crq b.at.crq polls

    come : to_come b.at.crq ≡ to_come a.at.crq
    come = come_same a.at.crq b.at.crq finds.only.place finds.only.last_session finds.taken

    room_same : to_come polls.room ≡ to_come a.at.crq
    room_same = come_same a.at.crq polls.room polls.ready.place polls.ready.last_session polls.ready.taken

    by : FindsNone false polls.room b.at.crq polls.number ⊎ ((polls.room.registered ≡ false) × OnlyReserves polls.room b.at.crq) → to_come a.at.crq ≡ []
    by (inl none) = sym room_same ∙ ap (drop (length (taken_now polls.room))) (none.all_taken refl) ∙ drop_all (length (taken_now polls.room)) (taken_now polls.room) (omega arith)
    by (inr (off, rest)) = absurd (true≢false (sym (polls.ready.registered ∙ stands.registered) ∙ off))
