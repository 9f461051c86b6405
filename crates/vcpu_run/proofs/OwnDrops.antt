-- A turn of a server unit in which its session ends for a refusal while its client talks to it: then it is over, and the client knows nothing of
-- that yet.
use Rattle.std.proofs.Common.{◌≡◌, ◌≢◌, ◌∙◌, ◌⊎◌, inl, inr, ℕ, ◌≤◌, ◌++◌, cond, All, true, false, true≢false, List, [], ◌∷◌, Option, length, refl, sym, ap, subst, arith}
use Rattle.std.specs.Prelude.{⊤}
use Rattle.std.proofs.lemmas.Bool.Decides.{nat_tests}
use Rattle.std.proofs.lemmas.List.Elements.{All-cons, All-head, All-nil, All-tail}
use Rattle.vio_num.specs.Entry.{is_srp_entry}
use Rattle.vio_num.specs.declared.entry.Entry.{Entry}
use Rattle.crq_ring.specs.Sessions.{of_session}
use Rattle.crq_ring.specs.declared.rows.PipeRow.{PipeRow}
use Rattle.crq_session.specs.Answered.{taken_now}
use Rattle.crq_session.specs.EndState.{EndState}
use Rattle.crq_session.specs.declared.handshake.Handshake.{Handshake}
use Rattle.crq_session.specs.declared.handshake.Handshake.TheVariants.{Down, Up}
use Rattle.srp_iu.specs.declared.unit.Iu.{Iu}
use Rattle.tce_window.specs.PortState.{PortState}
use Rattle.block_server.specs.Closings.{is_event}
use Rattle.block_server.specs.Doings.{Doing, DropsAll, IsLostBy}
use Rattle.vscsi_client.specs.State.{ClientState}
use Rattle.vscsi_client.specs.declared.outgoing.Outgoing.{Outgoing}
use Rattle.vscsi_client.specs.declared.stage.Stage.{Stage}
use Rattle.vscsi_client.specs.declared.stage.Stage.TheVariants.{Idle, Sent, Written}
use Rattle.vcpu_run.specs.OwnOver.{IsNews, IsOver, IsOwed, IsUnanswered, LoginLast, LoginShows, NoneBehindGone, answers_among, coming_to, held_in, is_under_way, news_among, stream_of, under_way}
use Rattle.vcpu_run.specs.OwnTurns.{StillTalks, TalksWithin}
use Rattle.vcpu_run.specs.PlainTalk.{AreInOrder, Ask, HaveAnswers, IsAsk, KeepsSlots, is_sent, login_name}
use Rattle.vcpu_run.proofs.OwnNever.{never_lost}
use Rattle.vcpu_run.proofs.OwnSame.{told_on}
use Rattle.vcpu_run.proofs.OwnWindows.{known_own, known_slots}
use Rattle.vcpu_run.proofs.PlainReady.{all_front}
use Rattle.vcpu_run.proofs.PlainRejected.{says_move}
use Rattle.vcpu_run.proofs.PlainServed.{all_spared}
use Rattle.vcpu_run.proofs.PlainSlots.{entry_srp}

-- ---- what is to come to the client are answers

pub srp_no_event : (entry : Entry) → is_srp_entry entry ≡ true → is_event entry ≡ false
srp_no_event entry is = grind (arith, nat_tests, is)

-- each is an SRP entry
pub answers_srp : (window : PortState) (entries : List Entry) (answered : List Ask) (answers : List Iu) → HaveAnswers window entries answered answers
    → All (λ entry. is_srp_entry entry ≡ true) entries
answers_srp window [] answered answers have = All-nil (λ (entry : Entry). is_srp_entry entry ≡ true)
answers_srp window (entry ∷ entries) [] answers have = absurd have
answers_srp window (entry ∷ entries) (ask ∷ answered) [] have = absurd have
answers_srp window (entry ∷ entries) (ask ∷ answered) (answer ∷ answers) have =
    All-cons (λ (one : Entry). is_srp_entry one ≡ true) entry entries (ap is_srp_entry have.0.entry_is ∙ entry_srp have.0.long ask.tag have.0.few)
    (answers_srp window entries answered answers have.1)

pub srp_answers : (entries : List Entry) → All (λ entry. is_srp_entry entry ≡ true) entries → answers_among entries ≡ entries
srp_answers [] all = refl
srp_answers (entry ∷ entries) all =
    ap (λ b. cond b (entry ∷ answers_among entries) (answers_among entries)) (All-head (λ (one : Entry). is_srp_entry one ≡ true) entry entries all)
    ∙ ap (λ (list : List Entry). entry ∷ list) (srp_answers entries (All-tail (λ (one : Entry). is_srp_entry one ≡ true) entry entries all))

pub srp_news : (entries : List Entry) → All (λ entry. is_srp_entry entry ≡ true) entries → news_among entries ≡ []
srp_news [] all = refl
srp_news (entry ∷ entries) all =
    ap (λ b. cond b (news_among entries) (entry ∷ news_among entries)) (All-head (λ (one : Entry). is_srp_entry one ≡ true) entry entries all)
    ∙ srp_news entries (All-tail (λ (one : Entry). is_srp_entry one ≡ true) entry entries all)

pub srp_behind : (entries : List Entry) → All (λ entry. is_srp_entry entry ≡ true) entries → NoneBehindGone entries
srp_behind [] all = tt
srp_behind (entry ∷ entries) all = (
  λ gone. absurd (true≢false (sym gone ∙ srp_no_event entry (All-head (λ (one : Entry). is_srp_entry one ≡ true) entry entries all))),
  srp_behind entries (All-tail (λ (one : Entry). is_srp_entry one ≡ true) entry entries all),
)

-- ---- the login that is under way

pub under_sent : (stage : Stage) → (stage ≡ Idle) ⊎ (is_sent stage ≡ true) → login_name stage ≡ under_way stage
under_sent Idle how = refl
under_sent (Sent tag slot) how = refl
under_sent (Written tag slot) (inl idle) = absurd (cc (idle))
under_sent (Written tag slot) (inr sent) = absurd (true≢false (sym sent))

pub sent_under : (stage : Stage) → (stage ≡ Idle) ⊎ (is_sent stage ≡ true) → is_sent stage ≡ is_under_way stage
sent_under Idle how = refl
sent_under (Sent tag slot) how = refl
sent_under (Written tag slot) (inl idle) = absurd (cc (idle))
sent_under (Written tag slot) (inr sent) = absurd (true≢false (sym sent))

none_written : (window : PortState) (stage : Stage) → (stage ≡ Idle) ⊎ (is_sent stage ≡ true) → (asked : List Ask) → All (LoginShows window stage) asked
none_written window stage how [] = All-nil (LoginShows window stage)
none_written window stage how (ask ∷ asked) = All-cons (LoginShows window stage) ask asked (by stage how) (none_written window stage how asked)
  where
    by : (stage : Stage) → (stage ≡ Idle) ⊎ (is_sent stage ≡ true) → LoginShows window stage ask
    by Idle how = tt
    by (Sent tag slot) how = tt
    by (Written tag slot) (inl idle) = absurd (cc (idle))
    by (Written tag slot) (inr sent) = absurd (true≢false (sym sent))

none_unanswered : (stage : Stage) → (stage ≡ Idle) ⊎ (is_sent stage ≡ true) → (answered : List Ask) → IsUnanswered stage answered
none_unanswered Idle how answered = tt
none_unanswered (Sent tag slot) how answered = tt
none_unanswered (Written tag slot) (inl idle) answered = absurd (cc (idle))
none_unanswered (Written tag slot) (inr sent) answered = absurd (true≢false (sym sent))

-- behind a login nothing was asked
pub order_login : (asked : List Ask) → AreInOrder asked → LoginLast asked
order_login [] order = tt
order_login (ask ∷ []) order = (λ login. refl, tt)
order_login (ask ∷ next ∷ more) order = (λ login. absurd (true≢false (sym login ∙ order.0)), order_login (next ∷ more) order.3)

-- ---- the session is over

-- what the client is owed then
pub owed_within : (granted : ℕ) (d d' : Doing) (s : ClientState) (own : EndState) (answered pending coming : List Ask) (answers : List Iu)
    → TalksWithin granted d s own answered pending coming answers → d'.id ≡ d.id → KeepsSlots (λ slot. ⊤) d.client d'.client → d'.sent ≡ d.sent
    → IsOwed granted d'.id d'.client s (stream_of s (coming_to own d'.sent)) answered (pending ++ coming) answers
owed_within granted d d' s own answered pending coming answers talks id keeps sent = record {
  each = talks.all.each;
  slots = talks.all.slots;
  tags = talks.all.tags;
  order = order_login (answered ++ (pending ++ coming)) talks.all.order;
  told = subst (λ (entries : List Entry). HaveAnswers d'.client entries answered answers) (sym (ap answers_among stream ∙ srp_answers entries are)) told;
  news = subst (All IsNews) (sym (ap news_among stream ∙ srp_news entries are)) (All-nil IsNews);
  behind = subst NoneBehindGone (sym stream) (srp_behind entries are);
  awaited = talks.all.awaited ∙ ap (λ (names : List Outgoing). s.outgoing ++ names) (under_sent s.login talks.talker.stage);
  logouts = talks.all.logouts;
  sent = talks.all.sent ∙ sent_under s.login talks.talker.stage;
  written = none_written d'.client s.login talks.talker.stage (pending ++ coming);
  unanswered = none_unanswered s.login talks.talker.stage answered;
  none = talks.talker.none;
  within = talks.talker.within;
  credits = talks.talker.credits;
  grant = says_move granted d.id d'.id d.client d'.client id keeps.unit keeps.strokes answers talks.grant;
}
  where
    entries : List Entry
    entries = s.kept ++ coming_to own d'.sent

    stream : stream_of s (coming_to own d'.sent) ≡ entries
    stream = ap (λ (held : Option Entry). s.kept ++ (held_in held ++ coming_to own d'.sent)) talks.talker.held

    told : HaveAnswers d'.client entries answered answers
    told = told_on d d' s own answered answers (λ slot. ⊤) keeps (all_spared answered) (all_front IsAsk answered (pending ++ coming) talks.all.each) sent talks.told

    are : All (λ entry. is_srp_entry entry ≡ true) entries
    are = answers_srp d'.client entries answered answers told

unfoldable pub drops_over : (granted : ℕ) (d d' : Doing) (s : ClientState) (own : EndState) (coming0 whole0 : List Ask) → StillTalks granted d s own coming0 whole0 → DropsAll d d'
    → IsOver granted false d' s own
drops_over granted d d' s own coming0 whole0 still step = record {
  answered = still.answered;
  lost = still.pending ++ still.coming;
  answers = still.answers;
  rest = coming_to own d'.sent;
  come = λ on. refl;
  owed = owed_within granted d d' s own still.answered still.pending still.coming still.answers talks step.stays.id (known_slots d.client d'.client step.put.client) step.put.sent;
  grants = step.stays.granted ∙ talks.goes.grants;
  most = talks.goes.most;
  partner = step.stays.partner ∙ talks.goes.partner ∙ sym here;
  to = step.stays.to ∙ talks.goes.to;
  reaches = λ open'. step.reaches ∙ talks.goes.reaches ∙ sym here;
  shut = λ down. absurd (not_down down);
  away = λ gone. absurd (true≢false (sym here ∙ gone));
  there = λ on down. up_down s.handshake talks.talker.handshake down;
  took = subst (λ (rows : List PipeRow). length (taken_now own) ≤ length (of_session own.last_session rows)) (sym step.put.sent) talks.goes.took;
  usable = known_own d.client d'.client step.put.client talks.goes.usable;
  tabled = talks.talker.tabled;
  on = λ there some. absurd (some step.current);
  phase = inl (record {
    over = over.0;
    idle = record { current = step.current; pending = step.pending; stage = step.stage };
    kept = step.kept;
    event = inl (step.event ∙ talks.goes.event);
    told = inl not_down;
  });
}
  where
    talks : TalksWithin granted d s own still.answered still.pending still.coming still.answers
    talks = still.talks

    here : own.registered ≡ true
    here = talks.talker.registered

    ends : IsLostBy d d' ⊎ ((d'.ended ≡ true) × (d'.handshake ≡ d.handshake) × ((d'.coming ≡ d.coming) ⊎ ((entry : Entry) × (d.coming ≡ entry ∷ d'.coming)))) → (d'.ended ≡ true) × (d'.handshake ≡ d.handshake)
    ends (inl lost) = absurd (never_lost granted d d' s own coming0 whole0 still lost)
    ends (inr over) = (over.0, over.1)

    over : (d'.ended ≡ true) × (d'.handshake ≡ d.handshake)
    over = ends step.why

    up_down : (h : Handshake) → h ≡ Up → h ≡ Down → ⊥
    up_down h up down = cc (up, down)

    not_down : d'.handshake ≢ Down
    not_down down = up_down d'.handshake (over.1 ∙ talks.goes.up) down
