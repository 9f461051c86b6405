-- A client beside a server unit whose session is over, or was, of which nothing more is to come: where both stand once an entry was put that was due.
use Rattle.std.proofs.Common.{◌≡◌, ◌≢◌, ◌∙◌, ◌⊎◌, inl, inr, ℕ, ◌++◌, ◌||◌, All, Bool, true, false, true≢false, cond, List, [], ◌∷◌, Some, None, append_assoc, length, refl, sym, ap, subst}
use Rattle.std.specs.List.{list_any}
use Rattle.std.proofs.lemmas.List.Elements.{All-cons, All-head, All-nil, All-push, All-tail}
use Rattle.vio_num.specs.Entry.{initialize}
use Rattle.vio_num.specs.declared.entry.Entry.{Entry}
use Rattle.vio_num.specs.declared.names.UnitId.{UnitId}
use Rattle.crq_session.specs.EndState.{EndState}
use Rattle.crq_session.specs.declared.handshake.Handshake.TheVariants.{Down, Waiting}
use Rattle.srp_iu.specs.Grammar.{Canon}
use Rattle.srp_iu.specs.declared.unit.Iu.{Iu}
use Rattle.srp_iu.specs.declared.unit.Iu.TheVariants as units
use Rattle.tce_window.specs.PortState.{PortState}
use Rattle.block_server.specs.Closings.{is_event}
use Rattle.block_server.specs.Doings.{Doing}
use Rattle.vscsi_client.specs.State.{ClientState}
use Rattle.vscsi_client.specs.Turned.{sent_stage}
use Rattle.vscsi_client.specs.declared.outgoing.Outgoing.{Outgoing}
use Rattle.vscsi_client.specs.declared.stage.Due.{Due}
use Rattle.vscsi_client.specs.declared.stage.Due.TheVariants as dues
use Rattle.vscsi_client.specs.declared.stage.Stage.{Stage}
use Rattle.vscsi_client.specs.declared.stage.Stage.TheVariants.{Idle, Sent, Written}
use Rattle.vcpu_run.specs.OwnOver.{IsAnew, IsFresh, IsLogging, IsOwed, IsShake, IsShut, IsStale, IsUnanswered, Joins, LoginShows, Stirs, WillHear, is_login_due, is_under_way, under_way}
use Rattle.vcpu_run.specs.PlainTalk.{Ask, has_login, is_login, is_logout, name_of, names_of}
use Rattle.vcpu_run.proofs.RejoinBegins.{kept_gone}
use Rattle.vcpu_run.proofs.RejoinPhases.{PhaseOver, off_on}
use Rattle.vcpu_run.proofs.OwnStreams.{AreSrp}

-- the unit, to which this is to come behind all
abbrev pub with_entry : Entry → Doing → Doing
with_entry entry d = record d { coming = d.coming ++ entry ∷ [] }

-- the client, for which these are due, once what was due first was put
abbrev pub with_due : Due → (others : List Due) → ClientState → ClientState
with_due due others s = record s { due = others; login = sent_stage due s.login }

-- ---- what is asked stays

way_sent : (due : Due) (stage : Stage) → under_way (sent_stage due stage) ≡ under_way stage
way_sent dues.Initialize stage = refl
way_sent dues.Complete stage = refl
way_sent dues.Login Idle = refl
way_sent dues.Login (Written tag slot) = refl
way_sent dues.Login (Sent tag slot) = refl

is_sent_way : (due : Due) (stage : Stage) → is_under_way (sent_stage due stage) ≡ is_under_way stage
is_sent_way dues.Initialize stage = refl
is_sent_way dues.Complete stage = refl
is_sent_way dues.Login Idle = refl
is_sent_way dues.Login (Written tag slot) = refl
is_sent_way dues.Login (Sent tag slot) = refl

shows_sent : (window : PortState) (due : Due) (stage : Stage) (asked : List Ask) → All (LoginShows window stage) asked → All (LoginShows window (sent_stage due stage)) asked
shows_sent window dues.Initialize stage asked all = all
shows_sent window dues.Complete stage asked all = all
shows_sent window dues.Login Idle asked all = all
shows_sent window dues.Login (Sent tag slot) asked all = all
shows_sent window dues.Login (Written tag slot) asked all = every asked
  where
    every : (asked : List Ask) → All (LoginShows window (Sent tag slot)) asked
    every [] = All-nil (LoginShows window (Sent tag slot))
    every (ask ∷ asked) = All-cons (LoginShows window (Sent tag slot)) ask asked tt (every asked)

unanswered_sent : (due : Due) (stage : Stage) (answered : List Ask) → IsUnanswered stage answered → IsUnanswered (sent_stage due stage) answered
unanswered_sent dues.Initialize stage answered is = is
unanswered_sent dues.Complete stage answered is = is
unanswered_sent dues.Login Idle answered is = is
unanswered_sent dues.Login (Sent tag slot) answered is = is
unanswered_sent dues.Login (Written tag slot) answered is = tt

pub owed_sent : (granted : ℕ) (id : UnitId) (window : PortState) (s : ClientState) (due : Due) (others : List Due) (stream : List Entry) (answered lost : List Ask) (answers : List Iu)
    → IsOwed granted id window s stream answered lost answers → IsOwed granted id window (with_due due others s) stream answered lost answers
owed_sent granted id window s due others stream answered lost answers owed = record {
  each = owed.each;
  slots = owed.slots;
  tags = owed.tags;
  order = owed.order;
  told = owed.told;
  news = owed.news;
  behind = owed.behind;
  awaited = owed.awaited ∙ ap (λ (list : List Outgoing). s.outgoing ++ list) (sym (way_sent due s.login));
  logouts = owed.logouts;
  sent = owed.sent ∙ sym (is_sent_way due s.login);
  written = shows_sent window due s.login lost owed.written;
  unanswered = unanswered_sent due s.login answered owed.unanswered;
  none = owed.none;
  within = owed.within;
  credits = owed.credits;
  grant = owed.grant;
}

-- ---- where both stand, whatever is put

pub put_shut : (d d' : Doing) (s s' : ClientState) (own : EndState) (entry : Entry) → d' ≡ with_entry entry d → own.registered ≡ true → AreSrp s.kept
    → (IsFresh s (s.kept ++ []) → IsFresh s' (s.kept ++ [])) → IsShut d s own (s.kept ++ []) → IsShut d' s' own (s.kept ++ [])
put_shut d d' s s' own entry is there are fresh' shut = subst (λ (e : Doing). IsShut e s' own (s.kept ++ [])) (sym is) (record {
  over = shut.over;
  idle = record { current = shut.idle.current; pending = shut.idle.pending; stage = shut.idle.stage };
  kept = shut.kept;
  event = shut.event;
  told = by shut.told;
})
  where
    by : (d.handshake ≢ Down) ⊎ WillHear d s own (s.kept ++ []) → (d.handshake ≢ Down) ⊎ WillHear (with_entry entry d) s' own (s.kept ++ [])
    by (inl up) = inl up
    by (inr (inl off)) = absurd (off_on own there off)
    by (inr (inr (inl (gone, behind)))) = absurd (kept_gone s.kept are gone)
    by (inr (inr (inr (inl event)))) = inr (inr (inr (inl event)))
    by (inr (inr (inr (inr fresh)))) = inr (inr (inr (inr (fresh' fresh))))

pub put_stale : (d : Doing) (entry : Entry) → IsStale d → IsStale (with_entry entry d)
put_stale d entry stale = record {
  new = record {
    going = stale.new.going;
    waiting = stale.new.waiting;
    idle = record { current = stale.new.idle.current; pending = stale.new.idle.pending; stage = stale.new.idle.stage };
    kept = stale.new.kept;
    event = stale.new.event;
  };
  early = record {
    entry = stale.early.entry;
    more = stale.early.more ++ entry ∷ [];
    coming = ap (λ (list : List Entry). list ++ entry ∷ []) stale.early.coming;
    srp = stale.early.srp;
  };
}

-- the unit's queue was closed
pub closed_phase : (granted : ℕ) (d : Doing) (s s' : ClientState) (own : EndState) (answered lost : List Ask) → d.handshake ≡ Down → own.registered ≡ true → AreSrp s.kept
    → (IsFresh s (s.kept ++ []) → IsFresh s' (s.kept ++ [])) → PhaseOver granted d s own (s.kept ++ []) answered lost → PhaseOver granted d s' own (s.kept ++ []) answered lost
closed_phase granted d s s' own answered lost down there are fresh' (inl shut) =
    inl (record { over = shut.over; idle = shut.idle; kept = shut.kept; event = shut.event; told = by shut.told })
  where
    by : (d.handshake ≢ Down) ⊎ WillHear d s own (s.kept ++ []) → (d.handshake ≢ Down) ⊎ WillHear d s' own (s.kept ++ [])
    by (inl up) = absurd (up down)
    by (inr (inl off)) = absurd (off_on own there off)
    by (inr (inr (inl (gone, behind)))) = absurd (kept_gone s.kept are gone)
    by (inr (inr (inr (inl event)))) = inr (inr (inr (inl event)))
    by (inr (inr (inr (inr fresh)))) = inr (inr (inr (inr (fresh' fresh))))
closed_phase granted d s s' own answered lost down there are fresh' (inr (inl stale)) = absurd (no_wait (sym down ∙ stale.new.waiting))
  where
    no_wait : Down ≡ Waiting → ⊥
    no_wait e = cc (e)
closed_phase granted d s s' own answered lost down there are fresh' (inr (inr (inl un))) = absurd (kept_gone s.kept are un.gone)
closed_phase granted d s s' own answered lost down there are fresh' (inr (inr (inr joins))) = absurd (joins.open_is down)

-- ---- an entry of the initialisation

pub rest_due : (due : Due) (others : List Due) (list : List Due) → list ≡ due ∷ others → list_any is_login_due list ≡ false → list_any is_login_due others ≡ false
rest_due due others list is none = by (is_login_due due) (list_any is_login_due others) (sym (ap (list_any is_login_due) is) ∙ none)
  where
    by : (b c : Bool) → (b || c) ≡ false → c ≡ false
    by true c e = absurd (true≢false e)
    by false c e = e

more_due : (due : Due) (others : List Due) (list : List Due) → list ≡ due ∷ others → list_any is_login_due others ≡ true → list_any is_login_due list ≡ true
more_due due others list is some = ap (list_any is_login_due) is ∙ ap (λ b. is_login_due due || b) some ∙ always (is_login_due due)
  where
    always : (b : Bool) → (b || true) ≡ true
    always true = refl
    always false = refl

-- what stirs still does, where it was not this that was due
stirs_put : (d : Doing) (s : ClientState) (entry : Entry) (due : Due) (others : List Due) (stream : List Entry) → s.due ≡ due ∷ others → (entry ≡ initialize) ⊎ (due ≢ dues.Initialize)
    → Stirs d s stream → Stirs (with_entry entry d) (record s { due = others }) stream
stirs_put d s entry due others stream is (inl begins) stirs = inr (inr (inl (d.coming, [], ap (λ (e : Entry). d.coming ++ e ∷ []) begins)))
stirs_put d s entry due others stream is (inr other) (inl news) = inl news
stirs_put d s entry due others stream is (inr other) (inr (inl kept)) = inr (inl kept)
stirs_put d s entry due others stream is (inr other) (inr (inr (inl (front, rest, coming)))) =
    inr (inr (inl (front, rest ++ entry ∷ [], ap (λ (list : List Entry). list ++ entry ∷ []) coming ∙ append_assoc front (initialize ∷ rest) (entry ∷ []))))
stirs_put d s entry due others stream is (inr other) (inr (inr (inr (more, first)))) = absurd (other (heads due dues.Initialize others more (sym is ∙ first)))
  where
    heads : (x y : Due) (xs ys : List Due) → x ∷ xs ≡ y ∷ ys → x ≡ y
    heads x y xs ys e = cc (e)

shake_anew : (d : Doing) (s : ClientState) (own : EndState) (entry : Entry) (due : Due) (others : List Due) (stream : List Entry) → s.due ≡ due ∷ others → IsShake entry
    → (entry ≡ initialize) ⊎ (due ≢ dues.Initialize) → IsAnew d s own stream → IsAnew (with_entry entry d) (record s { due = others }) own stream
shake_anew d s own entry due others stream is shake which anew = record {
  idle = record { current = anew.idle.current; pending = anew.idle.pending; stage = anew.idle.stage };
  kept = anew.kept;
  queue = All-push (λ (e : Entry). IsShake e ⊎ (is_event e ≡ true)) d.coming entry anew.queue (inl shake);
  unsent = anew.unsent;
  first = anew.first;
  stirs = λ on waits. stirs_put d s entry due others stream is which (anew.stirs on waits);
  logging = λ on logs. at (anew.logging on (by logs));
}
  where
    by : (list_any is_login_due others ≡ true) ⊎ (is_under_way s.login ≡ true) → (list_any is_login_due s.due ≡ true) ⊎ (is_under_way s.login ≡ true)
    by (inl some) = inl (more_due due others s.due is some)
    by (inr way) = inr way

    at : IsLogging d s stream → IsLogging (with_entry entry d) (record s { due = others }) stream
    at logs = record {
      up = logs.up;
      complete = logs.complete;
      entry = logs.entry;
      last = λ front more same. logs.last (due ∷ front) more (is ∙ ap (λ (list : List Due). due ∷ list) same);
    }

pub shake_phase : (granted : ℕ) (d : Doing) (s : ClientState) (own : EndState) (entry : Entry) (due : Due) (others : List Due) (answered lost : List Ask) → own.registered ≡ true → AreSrp s.kept
    → s.due ≡ due ∷ others → IsShake entry → (entry ≡ initialize) ⊎ (due ≢ dues.Initialize) → PhaseOver granted d s own (s.kept ++ []) answered lost
    → PhaseOver granted (with_entry entry d) (record s { due = others }) own (s.kept ++ []) answered lost
shake_phase granted d s own entry due others answered lost there are is shake which (inl shut) = inl (put_shut d (with_entry entry d) s (record s { due = others }) own entry refl there are
    (λ fresh. record { aware = record { granted = fresh.aware.granted; outgoing = fresh.aware.outgoing; logout = fresh.aware.logout; kept = fresh.aware.kept }; login = fresh.login; handshake = fresh.handshake; none = fresh.none; due = rest_due due others s.due is fresh.due }) shut)
shake_phase granted d s own entry due others answered lost there are is shake which (inr (inl stale)) = inr (inl (put_stale d entry stale))
shake_phase granted d s own entry due others answered lost there are is shake which (inr (inr (inl un))) = absurd (kept_gone s.kept are un.gone)
shake_phase granted d s own entry due others answered lost there are is shake which (inr (inr (inr joins))) = inr (inr (inr (record {
  going = joins.going;
  event = joins.event;
  open_is = joins.open_is;
  none_gone = joins.none_gone;
  aware = λ on. let aware = joins.aware on in record { granted = aware.granted; outgoing = aware.outgoing; logout = aware.logout; kept = aware.kept };
  there = inl there;
  how = by joins.how;
})))
  where
    no_due : s.due ≡ [] → ⊥
    no_due none = cc (none, is)

    by : IsAnew d s own (s.kept ++ []) ⊎ Joins granted d s own (s.kept ++ []) answered lost
        → IsAnew (with_entry entry d) (record s { due = others }) own (s.kept ++ []) ⊎ Joins granted (with_entry entry d) (record s { due = others }) own (s.kept ++ []) answered lost
    by (inl anew) = inl (shake_anew d s own entry due others (s.kept ++ []) is shake which anew)
    by (inr asked) = absurd (no_due (asked.has.due there))

-- ---- a login

pub login_long : (bytes : List ℕ) (iu : Iu) → is_login iu ≡ true → Canon bytes iu → length bytes ≡ 64
login_long bytes (units.LoginReq request) is canonical = canonical.unit.exact
login_long bytes iu isnt canonical = absurd (cc (isnt))

-- one name alone is that of one that was asked
pub one_asked : (asked : List Ask) (name : Outgoing) → All (λ (ask : Ask). is_logout ask.iu ≡ false) asked → names_of asked ≡ name ∷ [] → (ask : Ask) × (asked ≡ ask ∷ []) × (name_of ask ≡ name)
one_asked [] name none is = absurd (cc (is))
one_asked (ask ∷ asked) name none is = (
  ask,
  ap (λ (list : List Ask). ask ∷ list) (empty asked (All-tail (λ (one : Ask). is_logout one.iu ≡ false) ask asked none) (tails (name_of ask) name (names_of asked) [] is')),
  heads (name_of ask) name (names_of asked) [] is',
)
  where
    is' : name_of ask ∷ names_of asked ≡ name ∷ []
    is' = sym (ap (λ b. cond b (names_of asked) (name_of ask ∷ names_of asked)) (All-head (λ (one : Ask). is_logout one.iu ≡ false) ask asked none)) ∙ is

    heads : (x y : Outgoing) (xs ys : List Outgoing) → x ∷ xs ≡ y ∷ ys → x ≡ y
    heads x y xs ys e = cc (e)

    tails : (x y : Outgoing) (xs ys : List Outgoing) → x ∷ xs ≡ y ∷ ys → xs ≡ ys
    tails x y xs ys e = cc (e)

    empty : (list : List Ask) → All (λ (one : Ask). is_logout one.iu ≡ false) list → names_of list ≡ [] → list ≡ []
    empty [] none is = refl
    empty (first ∷ list) none is = absurd (no_items (name_of first) (names_of list)
        (sym (ap (λ b. cond b (names_of list) (name_of first ∷ names_of list)) (All-head (λ (one : Ask). is_logout one.iu ≡ false) first list none)) ∙ is))
      where
        no_items : (x : Outgoing) (xs : List Outgoing) → x ∷ xs ≡ [] → ⊥
        no_items x xs e = cc (e)

pub one_lost : (answered lost : List Ask) (ask : Ask) → answered ++ lost ≡ ask ∷ [] → has_login answered ≡ false → is_login ask.iu ≡ true → (answered ≡ []) × (lost ≡ ask ∷ [])
one_lost [] lost ask is none login = (refl, is)
one_lost (first ∷ answered) lost ask is none login =
    absurd (true≢false (sym (ap (λ (one : Ask). cond (is_login one.iu) true (has_login answered)) (heads first ask (answered ++ lost) [] is) ∙ ap (λ b. cond b true (has_login answered)) login) ∙ none))
  where
    heads : (x y : Ask) (xs ys : List Ask) → x ∷ xs ≡ y ∷ ys → x ≡ y
    heads x y xs ys e = cc (e)

-- who knows of no login has asked for no logout
pub no_logouts : (s : ClientState) (asked : List Ask) → s.logout ≡ None → All (λ (ask : Ask). is_logout ask.iu ≡ true → s.logout ≡ Some ask.slot) asked → All (λ (ask : Ask). is_logout ask.iu ≡ false) asked
no_logouts s [] none all = All-nil (λ (ask : Ask). is_logout ask.iu ≡ false)
no_logouts s (ask ∷ asked) none all =
    All-cons (λ (one : Ask). is_logout one.iu ≡ false) ask asked (by (is_logout ask.iu) refl (All-head (λ (one : Ask). is_logout one.iu ≡ true → s.logout ≡ Some one.slot) ask asked all))
    (no_logouts s asked none (All-tail (λ (one : Ask). is_logout one.iu ≡ true → s.logout ≡ Some one.slot) ask asked all))
  where
    by : (b : Bool) → is_logout ask.iu ≡ b → (is_logout ask.iu ≡ true → s.logout ≡ Some ask.slot) → is_logout ask.iu ≡ false
    by true is some = absurd (cc (none, some is))
    by false isnt some = isnt
