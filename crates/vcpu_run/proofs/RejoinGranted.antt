-- A client takes the answer that grants its login beside a server unit whose session is over, or was: either it is for nothing, or both talk anew.
use Rattle.std.proofs.Common.{◌≡◌, ◌∙◌, ◌⊎◌, inl, inr, ℕ, ◌++◌, All, Bool, true, false, cond, IfSome, filter, List, [], ◌∷◌, Some, None, append-nil, arith, min, refl, sym, ap, subst}
use Rattle.std.proofs.lemmas.List.Elements.{All-head, All-nil}
use Rattle.vio_num.specs.Entry.{is_srp_entry}
use Rattle.vio_num.specs.declared.entry.Entry.{Entry}
use Rattle.vio_num.specs.declared.names.UnitId.{UnitId}
use Rattle.crq_session.specs.EndState.{EndPlace, EndState}
use Rattle.srp_iu.specs.declared.login.LoginRej.{LoginRej}
use Rattle.srp_iu.specs.declared.login.LoginRsp.{LoginRsp}
use Rattle.srp_iu.specs.declared.unit.Iu.{Iu}
use Rattle.srp_iu.specs.declared.unit.Iu.TheVariants as units
use Rattle.tce_window.specs.PortState.{PortState}
use Rattle.block_server.specs.Closings.{is_event}
use Rattle.block_server.specs.Doings.{Doing}
use Rattle.block_server.specs.Talk.{to_come}
use Rattle.vscsi_client.specs.Login.{granted_by}
use Rattle.vscsi_client.specs.State.{ClientState}
use Rattle.vscsi_client.specs.Taking.{is_step}
use Rattle.vscsi_client.specs.Turned.{Looks, SameHands, Site, Steps}
use Rattle.vscsi_client.specs.Turned.LoginStep.{Looked}
use Rattle.vscsi_client.specs.declared.found.Found.{Found}
use Rattle.vscsi_client.specs.declared.found.Found.TheVariants as founds
use Rattle.vcpu_run.specs.OwnActs.{left_at}
use Rattle.vcpu_run.specs.OwnJoins.{JoinsNow}
use Rattle.vcpu_run.specs.OwnOver.{IsNews, IsOwed, LoginShows, NoneBehindGone, Rejoins, answers_among, news_among}
use Rattle.vcpu_run.specs.PlainTalk.{Ask, HaveAnswers, IsAnswerBy, IsAsk, IsOwnWindow, TookNoMore, grants_one, is_granted, is_logout}
use Rattle.vcpu_run.proofs.RejoinAnswers.{FoundLogin, FoundOther, held_finds}
use Rattle.vcpu_run.proofs.RejoinEnded.{HasGrant, StillEarly, ended_phase, ends_still, joins_grant, last_none, with_window}
use Rattle.vcpu_run.proofs.RejoinLooks.{held_behind, held_phase}
use Rattle.vcpu_run.proofs.RejoinPhases.{behind_there}
use Rattle.vcpu_run.proofs.RejoinShakes.{stream_held}
use Rattle.vcpu_run.proofs.RejoinSteps.{NextIn, StandsIn, StepsTo, took_most}
use Rattle.vcpu_run.proofs.OwnStreams.{news_kept, news_srp}
use Rattle.vcpu_run.proofs.PlainAsks.{all_parts}
use Rattle.vcpu_run.proofs.PlainFinds.{found_in}

-- what tells something among what is to come behind an answer that is held
pub news_left : (promised : Bool) (granted : ℕ) (d : Doing) (a : Site) (entry : Entry) → (stands : StandsIn promised granted d a) → a.client.held ≡ Some entry → is_srp_entry entry ≡ true
    → All IsNews (news_among (to_come a.at.crq))
news_left promised granted d a entry stands held srp =
    subst (All IsNews) (ap news_among (stream_held promised granted d a entry stands held) ∙ news_kept a.client.kept (entry ∷ to_come a.at.crq) stands.kept ∙ news_srp entry (to_come a.at.crq) srp)
    stands.over.owed.news

-- what the answer to the login says of credits, or why it was rejected
pub says_of : (promised : Bool) (granted : ℕ) (d : Doing) (a b : Site) (entry : Entry) (found : Found) → (stands : StandsIn promised granted d a) → (is : FoundLogin promised granted d a b stands entry found)
    → IsAnswerBy granted d.id d.client is.is.answer
says_of promised granted d a b entry found stands is =
    All-head (IsAnswerBy granted d.id d.client) is.is.answer is.is.later
    (all_parts (IsAnswerBy granted d.id d.client) is.is.before (is.is.answer ∷ is.is.later)
    (subst (All (IsAnswerBy granted d.id d.client)) is.is.answers_are stands.over.owed.grant)).1

-- ---- a client that knows of its login

granted_owed : (granted credits : ℕ) (id : UnitId) (window : PortState) (s : ClientState) (stream : List Entry) → credits ≡ granted → answers_among stream ≡ [] → All IsNews (news_among stream)
    → NoneBehindGone stream → IsOwed granted id window (granted_by credits s) stream [] [] []
granted_owed granted credits id window s stream same told news behind = record {
  each = All-nil IsAsk;
  slots = tt;
  tags = tt;
  order = tt;
  told = subst (λ (list : List Entry). HaveAnswers window list [] []) (sym told) tt;
  news = news;
  behind = behind;
  awaited = refl;
  logouts = All-nil (λ (ask : Ask). is_logout ask.iu ≡ true → None ≡ Some ask.slot);
  sent = refl;
  written = All-nil (LoginShows window (granted_by credits s).login);
  unanswered = tt;
  none = λ none. refl;
  within = omega arith;
  credits = inr (ap (λ (n : ℕ). Some (min n 200)) same);
  grant = All-nil (IsAnswerBy granted id window);
}

-- one of these grants a login
grants_mid : (before : List Iu) (answer : Iu) (later : List Iu) → is_granted answer ≡ true → grants_one (before ++ answer ∷ later) ≡ true
grants_mid [] answer later is = ap (λ b. cond b true (grants_one later)) is
grants_mid (first ∷ before) answer later is = ap (λ b. cond (is_granted first) true b) (grants_mid before answer later is) ∙ always (is_granted first)
  where
    always : (b : Bool) → cond b true true ≡ true
    always true = refl
    always false = refl

-- Either its session is over, or was, and no answer grants a login any more, or both talk anew; the answer was promised, and grants as much as the
-- unit grants.
pub record GrantedIn (promised : Bool) (granted credits : ℕ) (d : Doing) (a b : Site) : Type 0 where
  pub credits_are : credits ≡ granted
  pub promised_is : promised ≡ true
  pub none_held : b.client.held ≡ None
  pub leads : StepsTo false granted d a b ⊎ JoinsNow granted d b.client a.at b.at

joins_now : (promised : Bool) (granted line credits : ℕ) (d : Doing) (a b : Site) (entry : Entry) (stands : StandsIn promised granted d a) → SameHands a b → b.at.crq ≡ a.at.crq → IsOwnWindow b.at.own
    → b.client ≡ granted_by credits a.client → credits ≡ granted → a.client.held ≡ Some entry → answers_among (to_come a.at.crq) ≡ []
    → Rejoins granted false d a.client a.at.crq (a.client.kept ++ entry ∷ to_come a.at.crq) stands.over.answered stands.over.lost
    → HasGrant d a.client a.at.crq (a.client.kept ++ entry ∷ to_come a.at.crq) → JoinsNow granted d b.client a.at b.at
joins_now promised granted line credits d a b entry stands hands end usable client same held none joins has = record {
  left = left_at d b.at [];
  rests = record {
    entries = [];
    put = ap (λ (e : EndState). e.sent) end ∙ sym (append-nil a.at.crq.sent);
    reached = inl refl;
    session = ap (λ (e : EndState). e.counts.partner_session) end;
    place = place;
    is = refl;
  };
  seen = record {
    alone = hands.crq ∙ stands.seen.alone;
    apart = hands.own ∙ stands.seen.apart;
    window = refl;
    received = ap (λ (p : EndPlace). p.received) place ∙ stands.seen.received;
    on = λ up. ap (λ (p : EndPlace). p.partner_registered) place ∙ stands.seen.on up;
    down = λ down. ap (λ (p : EndPlace). p.partner_registered) place ∙ stands.seen.down down;
    usable = usable;
    idle = λ on. ap (λ (e : EndState). e.kept) end ∙ stands.seen.idle stands.registered;
    events = subst (λ (e : EndState). IfSome e.kept (λ event. is_event event ≡ true)) (sym end) stands.seen.events;
  };
  took = subst TookNoMore (sym end) (took_most promised granted d a stands);
  client = record {
    registered = ap (λ (e : EndState). e.registered) end ∙ stands.registered;
    none = ap to_come end ∙ come;
    handshake = ap (λ (s : ClientState). s.handshake) client ∙ has.has.up stands.registered;
    due = ap (λ (s : ClientState). s.due) client ∙ ap (filter is_step) (has.has.due stands.registered);
    kept = ap (λ (s : ClientState). s.kept) client;
    held = ap (λ (s : ClientState). s.held) client;
    outgoing = ap (λ (s : ClientState). s.outgoing) client;
    login = ap (λ (s : ClientState). s.login) client;
    logout = ap (λ (s : ClientState). s.logout) client;
    granted_is = ap (λ (s : ClientState). s.granted) client ∙ ap (λ (n : ℕ). Some (min n 200)) same;
    tabled = ap (λ (s : ClientState). s.tabled) client ∙ stands.over.tabled;
  };
  unit = record {
    current = has.is.current;
    grants = stands.over.grants;
    most = stands.over.most;
    taking = has.is.taking;
    outstanding = has.is.outstanding;
    pending = has.is.pending;
    stage = has.is.stage;
    kept = has.is.kept;
    coming = append-nil d.coming ∙ behind_there a.at.crq d.coming stands.registered has.is.queue;
    up = has.is.up;
    going = joins.going;
    event = joins.event;
  };
}
  where
    place : b.at.crq.place ≡ a.at.crq.place
    place = ap (λ (e : EndState). e.place) end

    come : to_come a.at.crq ≡ []
    come = last_none entry (to_come a.at.crq) has.is.front has.is.entry none has.is.srp
        (sym (ap (λ (kept : List Entry). kept ++ entry ∷ to_come a.at.crq) (joins.aware stands.registered).kept) ∙ has.is.last)

pub over_granted : (promised : Bool) (granted line credits : ℕ) (d : Doing) (a b : Site) → StandsIn promised granted d a → Steps line (Looked (founds.Granted credits)) a b → SameHands a b → GrantedIn promised granted credits d a b
over_granted promised granted line credits d a b stands looked hands = by (held_finds promised granted d a b (founds.Granted credits) stands looks looks.finds.1)
  where
    looks : Looks false a.client b.client a.at.own b.at.own (founds.Granted credits)
    looks = subst (λ shared. Looks shared a.client b.client a.at.own b.at.own (founds.Granted credits)) stands.seen.apart looked.0

    some_held : FoundLogin promised granted d a b stands looks.entry (founds.Granted credits) → credits ≡ granted → grants_one stands.over.answers ≡ true
        → GrantedIn promised granted credits d a b
    some_held is same grants = record {
      credits_are = same;
      promised_is = stands.fewer grants;
      none_held = ap (λ (s : ClientState). s.held) looks.client;
      leads = at (ended_phase granted d b.at.own a.client (granted_by credits a.client) a.at.crq a.client.kept [] looks.entry (to_come a.at.crq) stands.over.answered stands.over.lost
          stands.registered stands.kept (All-nil (λ (entry : Entry). is_srp_entry entry ≡ true)) looks.finds.0 (held_phase promised granted d a looks.entry stands looks.held));
    }
      where
        next : StillEarly granted (with_window b.at.own d) (granted_by credits a.client) a.at.crq (to_come a.at.crq) → NextIn false granted (with_window b.at.own d) (granted_by credits a.client) a.at.crq
        next early = record {
          answered = [];
          lost = [];
          answers = [];
          rest = to_come a.at.crq;
          come = refl;
          owed = granted_owed granted credits d.id b.at.own a.client (to_come a.at.crq) same is.last.come_none (news_left promised granted d a looks.entry stands looks.held looks.finds.1)
              (held_behind promised granted d a looks.entry stands looks.held).1;
          there = stands.over.there stands.registered;
          tabled = stands.over.tabled;
          on = λ current. absurd (current early.current);
          phase = early.phase [] [];
          kept = All-nil (λ (entry : Entry). is_srp_entry entry ≡ true);
          logout = refl;
          fewer = λ grants. grants;
        }

        at : StillEarly granted (with_window b.at.own d) (granted_by credits a.client) a.at.crq (to_come a.at.crq)
            ⊎ Rejoins granted false d a.client a.at.crq (a.client.kept ++ looks.entry ∷ to_come a.at.crq) stands.over.answered stands.over.lost
            → StepsTo false granted d a b ⊎ JoinsNow granted d b.client a.at b.at
        at (inl early) =
            inl (ends_still promised false granted d a b stands hands looked.1 is.left.own (subst (λ (s : ClientState). NextIn false granted (with_window b.at.own d) s a.at.crq) (sym looks.client) (next early)))
        at (inr joins) =
            inr (joins_now promised granted line credits d a b looks.entry stands hands looked.1 is.left.own looks.client same looks.held is.last.come_none joins
            (joins_grant granted d a.client a.at.crq (a.client.kept ++ looks.entry ∷ to_come a.at.crq) stands.over.answered stands.over.lost is.is.front is.is.ask stands.registered joins
            is.last.answered_is is.login is.last.named stands.over.owed.unanswered))

    said : (is : FoundLogin promised granted d a b stands looks.entry (founds.Granted credits))
        → ((r : LoginRsp) × (is.is.answer ≡ units.LoginRsp r) × (r.tag ≡ is.is.ask.tag)) ⊎ ((r : LoginRej) × (is.is.answer ≡ units.LoginRej r) × (r.tag ≡ is.is.ask.tag))
        → (credits ≡ granted) × (is_granted is.is.answer ≡ true)
    said is (inl (r, answer, tag)) = (
      same_credits credits r.delta (is.found_is ∙ ap found_in answer)
          ∙ subst (IsAnswerBy granted d.id d.client) answer (says_of promised granted d a b looks.entry (founds.Granted credits) stands is),
      ap is_granted answer,
    )
      where
        same_credits : (n m : ℕ) → founds.Granted n ≡ founds.Granted m → n ≡ m
        same_credits n m e = cc (e)
    said is (inr (r, answer, tag)) = absurd (no_grant (is.found_is ∙ ap found_in answer))
      where
        no_grant : founds.Granted credits ≡ founds.Rejected r.reason → ⊥
        no_grant e = cc (e)

    by : FoundOther a b looks.entry (founds.Granted credits) ⊎ FoundLogin promised granted d a b stands looks.entry (founds.Granted credits) → GrantedIn promised granted credits d a b
    by (inl other) = absurd (no_answer other.found_is)
      where
        no_answer : founds.Granted credits ≡ founds.Answer → ⊥
        no_answer e = cc (e)
    by (inr is) = let says = said is is.of_login in some_held is says.0 (ap grants_one is.is.answers_are ∙ grants_mid is.is.before is.is.answer is.is.later says.1)
