-- What a client is owed by a server unit whose session is over, or was, as the unit puts an entry, or writes to the client's window.
use Rattle.std.proofs.Common.{◌≡◌, ◌∙◌, ℕ, ◌*◌, ◌/◌, ◌%◌, ◌<◌, ◌≤◌, ◌++◌, All, true, false, List, [], ◌∷◌, Option, Some, IsSome, append-nil, append_assoc, drop, length, length-append, refl, sym, ap, subst, arith}
use Rattle.std.specs.Prelude.{⊤}
use Rattle.std.proofs.lemmas.List.{drop-append-le}
use Rattle.std.proofs.lemmas.List.Elements.{All-cons, All-head, All-nil, All-push, All-tail, All-weaker}
use Rattle.crq_ring.proofs.SessionLaws.{of_session-append}
use Rattle.crq_ring.specs.Sessions.{of_session}
use Rattle.crq_ring.specs.declared.rows.PipeRow.{PipeRow}
use Rattle.crq_session.specs.Answered.{taken_now}
use Rattle.crq_session.specs.EndState.{EndState}
use Rattle.page_slots.specs.Stroke.{StrokeValue}
use Rattle.srp_iu.specs.declared.unit.Iu.{Iu}
use Rattle.tce_window.specs.PortState.{PortPlace, PortState}
use Rattle.unit_region.specs.RegionLines.{IsOn}
use Rattle.vio_num.specs.Entry.{is_srp_entry}
use Rattle.vio_num.specs.declared.TheConstants.{PAGE_BYTES}
use Rattle.vio_num.specs.declared.entry.Entry.{Entry}
use Rattle.vio_num.specs.declared.names.UnitId.{UnitId}
use Rattle.block_server.specs.Doings.{rows_to}
use Rattle.block_server.specs.Talk.{StaysKnown}
use Rattle.vscsi_client.specs.State.{ClientState}
use Rattle.vscsi_client.specs.Units.{slot_address}
use Rattle.vscsi_client.specs.declared.TheConstants.{DATA_START}
use Rattle.vscsi_client.specs.declared.stage.Stage.{Stage}
use Rattle.vscsi_client.specs.declared.stage.Stage.TheVariants.{Idle, Sent, Written}
use Rattle.vcpu_run.specs.OwnOver.{IsNews, IsOwed, IsUnanswered, LoginLast, LoginShows, NoneBehindGone, answers_among, coming_to, held_in, news_among, stream_of, tells_gone}
use Rattle.vcpu_run.specs.PlainTalk.{AreApart, Ask, HasAnswer, HaveAnswers, IsAnswerBy, IsAsk, IsOwnEntry, IsOwnWindow, KeepsSlots, ShowsAt, TagsRise, has_login, is_logout, names_of, shown_on}
use Rattle.vcpu_run.proofs.OverLists.{answers_last, answers_other, news_last, news_other, unanswered_last, unanswered_other}
use Rattle.vcpu_run.proofs.PlainReady.{all_front}
use Rattle.vcpu_run.proofs.PlainRejected.{says_move}
use Rattle.vcpu_run.proofs.PlainServed.{all_spared, answers_move}
use Rattle.vcpu_run.proofs.PlainTurns.{own_rows}

-- ---- what the client is to look at

-- of its session it has what was put there more
session_put : (q : ℕ) (sent : List PipeRow) (entries : List Entry) → of_session q (sent ++ rows_to q entries) ≡ of_session q sent ++ entries
session_put q sent entries = of_session-append q sent (rows_to q entries) ∙ ap (λ (list : List Entry). of_session q sent ++ list) (own_rows q entries)

pub come_put : (own : EndState) (sent : List PipeRow) (entries : List Entry) → length (taken_now own) ≤ length (of_session own.last_session sent)
    → coming_to own (sent ++ rows_to own.last_session entries) ≡ coming_to own sent ++ entries
come_put own sent entries took =
    ap (drop (length (taken_now own))) (session_put own.last_session sent entries)
    ∙ drop-append-le (length (taken_now own)) (of_session own.last_session sent) entries took

pub stream_more : (s : ClientState) (rest more : List Entry) → stream_of s (rest ++ more) ≡ stream_of s rest ++ more
stream_more s rest more =
    ap (λ (list : List Entry). s.kept ++ list) (sym (append_assoc (held_in s.held) rest more))
    ∙ sym (append_assoc s.kept (held_in s.held ++ rest) more)

pub took_put : (own : EndState) (sent : List PipeRow) (entries : List Entry) → length (taken_now own) ≤ length (of_session own.last_session sent)
    → length (taken_now own) ≤ length (of_session own.last_session (sent ++ rows_to own.last_session entries))
took_put own sent entries took =
    omega (arith, took, ap length (session_put own.last_session sent entries), length-append (of_session own.last_session sent) entries)

-- ---- the window, of which the same is known

pub shows_known : (old new : PortState) → StaysKnown old new → (address : ℕ) (bytes : List ℕ) → ShowsAt old address bytes → ShowsAt new address bytes
shows_known old new known address bytes shows =
    subst (λ (strokes : ℕ → Option (List StrokeValue)). shown_on (strokes (address / PAGE_BYTES)) (address % PAGE_BYTES) (length bytes) ≡ bytes) (sym known.strokes) shows

pub keeps_known : (old new : PortState) → StaysKnown old new → KeepsSlots (λ slot. ⊤) old new
keeps_known old new known = record {
  slots = λ slot bytes within spares whole shows. shows_known old new known (slot_address slot) bytes shows;
  strokes = λ page stroke is. subst (λ (strokes : ℕ → Option (List StrokeValue)). IsOn stroke (strokes page)) (sym known.strokes) is;
  unit = ap (λ (place : PortPlace). place.unit) known.place;
}

pub own_known : (old new : PortState) → StaysKnown old new → IsOwnWindow old → IsOwnWindow new
own_known old new known own = record {
  values = subst (λ (values : ℕ → List ℕ). (e : ℕ) → IsOwnEntry e (values e)) (sym known.values) own.values;
  size = subst (λ (place : PortPlace). DATA_START ≤ 4096 * place.size) (sym known.place) own.size;
  most = subst (λ (place : PortPlace). place.size ≤ 256) (sym known.place) own.most;
  there = subst (λ (place : PortPlace). (p : ℕ) → p < place.size → IsSome (new.strokes p)) (sym known.place)
      (subst (λ (strokes : ℕ → Option (List StrokeValue)). (p : ℕ) → p < old.place.size → IsSome (strokes p)) (sym known.strokes) own.there);
}

login_known : (old new : PortState) → StaysKnown old new → (stage : Stage) (ask : Ask) → LoginShows old stage ask → LoginShows new stage ask
login_known old new known (Written tag slot) ask shows = λ is. shows_known old new known (slot_address slot) ask.bytes (shows is)
login_known old new known (Sent tag slot) ask shows = tt
login_known old new known Idle ask shows = tt

-- ---- what it is owed

-- of these, which are those of before, but for where each is
owed_with : (granted : ℕ) (id id' : UnitId) (old new : PortState) (s : ClientState) (stream stream' : List Entry) (answered lost answered' lost' : List Ask) (answers answers' : List Iu)
    → IsOwed granted id old s stream answered lost answers → answered' ++ lost' ≡ answered ++ lost → HaveAnswers new (answers_among stream') answered' answers'
    → All IsNews (news_among stream') → NoneBehindGone stream' → All (LoginShows new s.login) lost' → All (IsAnswerBy granted id' new) answers'
    → IsUnanswered s.login answered' → IsOwed granted id' new s stream' answered' lost' answers'
owed_with granted id id' old new s stream stream' answered lost answered' lost' answers answers' owed same told news behind written grant unanswered = record {
  each = subst (All IsAsk) (sym same) owed.each;
  slots = subst AreApart (sym same) owed.slots;
  tags = subst (TagsRise (length s.rows)) (sym same) owed.tags;
  order = subst LoginLast (sym same) owed.order;
  told = told;
  news = news;
  behind = behind;
  awaited = ap names_of same ∙ owed.awaited;
  logouts = subst (All (λ (ask : Ask). is_logout ask.iu ≡ true → s.logout ≡ Some ask.slot)) (sym same) owed.logouts;
  sent = ap has_login same ∙ owed.sent;
  written = written;
  unanswered = unanswered;
  none = owed.none;
  within = owed.within;
  credits = owed.credits;
  grant = grant;
}

-- the same, of a window of which the same is known
pub owed_known : (granted : ℕ) (id id' : UnitId) (old new : PortState) (s : ClientState) (stream : List Entry) (answered lost : List Ask) (answers : List Iu) → id' ≡ id → StaysKnown old new
    → IsOwed granted id old s stream answered lost answers → IsOwed granted id' new s stream answered lost answers
owed_known granted id id' old new s stream answered lost answers same known owed =
    owed_with granted id id' old new s stream stream answered lost answered lost answers answers owed refl
    (answers_move old new (λ slot. ⊤) (keeps_known old new known) (answers_among stream) answered answers (all_spared answered) (all_front IsAsk answered lost owed.each) owed.told)
    owed.news owed.behind (All-weaker (LoginShows old s.login) (LoginShows new s.login) (login_known old new known s.login) lost owed.written)
    (says_move granted id id' old new same (keeps_known old new known).unit (keeps_known old new known).strokes answers owed.grant) owed.unanswered

-- An entry was put that is no answer.
pub owed_news : (granted : ℕ) (id : UnitId) (window : PortState) (s : ClientState) (stream : List Entry) (answered lost : List Ask) (answers : List Iu) (entry : Entry) → is_srp_entry entry ≡ false
    → IsNews entry → IsOwed granted id window s stream answered lost answers → IsOwed granted id window s (stream ++ entry ∷ []) answered lost answers
owed_news granted id window s stream answered lost answers entry isnt news owed =
    owed_with granted id id window window s stream (stream ++ entry ∷ []) answered lost answered lost answers answers owed refl
    (subst (λ (list : List Entry). HaveAnswers window list answered answers) (sym (answers_other stream entry isnt)) owed.told)
    (subst (All IsNews) (sym (news_last stream entry isnt)) (All-push IsNews (news_among stream) entry owed.news news))
    (unanswered_other stream entry isnt owed.behind) owed.written owed.grant owed.unanswered

-- Several were.
pub owed_more : (granted : ℕ) (id : UnitId) (window : PortState) (s : ClientState) (stream : List Entry) (answered lost : List Ask) (answers : List Iu) (more : List Entry)
    → All (λ (entry : Entry). (is_srp_entry entry ≡ false) × IsNews entry) more → IsOwed granted id window s stream answered lost answers
    → IsOwed granted id window s (stream ++ more) answered lost answers
owed_more granted id window s stream answered lost answers [] news owed =
    subst (λ (list : List Entry). IsOwed granted id window s list answered lost answers) (sym (append-nil stream)) owed
owed_more granted id window s stream answered lost answers (entry ∷ more) news owed =
    let first = All-head (λ (e : Entry). (is_srp_entry e ≡ false) × IsNews e) entry more news in
    subst (λ (list : List Entry). IsOwed granted id window s list answered lost answers) (append_assoc stream (entry ∷ []) more)
    (owed_more granted id window s (stream ++ entry ∷ []) answered lost answers more (All-tail (λ (e : Entry). (is_srp_entry e ≡ false) × IsNews e) entry more news)
    (owed_news granted id window s stream answered lost answers entry first.0 first.1 owed))

-- ---- where a login is all that was asked

no_entries : (window : PortState) (entries : List Entry) (answers : List Iu) → HaveAnswers window entries [] answers → (entries ≡ []) × (answers ≡ [])
no_entries window [] [] have = (refl, refl)
no_entries window [] (answer ∷ answers) have = absurd have
no_entries window (entry ∷ entries) answers have = absurd have

unwritten : (window : PortState) (stage : Stage) (tag slot : ℕ) (asked : List Ask) → stage ≡ Sent tag slot → All (LoginShows window stage) asked
unwritten window stage tag slot [] is = All-nil (LoginShows window stage)
unwritten window stage tag slot (ask ∷ asked) is =
    All-cons (LoginShows window stage) ask asked (subst (λ (st : Stage). LoginShows window st ask) (sym is) tt) (unwritten window stage tag slot asked is)

-- Whatever is written to the window: nothing has its answer.
pub owed_asked : (granted : ℕ) (id id' : UnitId) (old new : PortState) (s : ClientState) (stream : List Entry) (lost : List Ask) (answers : List Iu) (tag slot : ℕ) → s.login ≡ Sent tag slot
    → IsOwed granted id old s stream [] lost answers → IsOwed granted id' new s stream [] lost answers
owed_asked granted id id' old new s stream lost answers tag slot is owed =
    owed_with granted id id' old new s stream stream [] lost [] lost answers answers owed refl
    (subst (λ (list : List Iu). HaveAnswers new (answers_among stream) [] list) (sym none.1) (subst (λ (list : List Entry). HaveAnswers new list [] []) (sym none.0) tt))
    owed.news owed.behind (unwritten new s.login tag slot lost is) (subst (All (IsAnswerBy granted id' new)) (sym none.1) (All-nil (IsAnswerBy granted id' new))) owed.unanswered
  where
    none : (answers_among stream ≡ []) × (answers ≡ [])
    none = no_entries old (answers_among stream) answers owed.told

-- The entry of its answer was put, and no event is to be looked at.
pub owed_answered : (granted : ℕ) (id : UnitId) (window : PortState) (s : ClientState) (stream : List Entry) (ask : Ask) (answers : List Iu) (entry : Entry) (answer : Iu)
    → s.login ≡ Sent ask.tag ask.slot → is_srp_entry entry ≡ true → tells_gone stream ≡ false → HasAnswer window entry ask answer → IsAnswerBy granted id window answer
    → IsOwed granted id window s stream [] (ask ∷ []) answers → IsOwed granted id window s (stream ++ entry ∷ []) (ask ∷ []) [] (answer ∷ [])
owed_answered granted id window s stream ask answers entry answer sent is isnt has by owed =
    owed_with granted id id window window s stream (stream ++ entry ∷ []) [] (ask ∷ []) (ask ∷ []) [] answers (answer ∷ []) owed refl
    (subst (λ (list : List Entry). HaveAnswers window list (ask ∷ []) (answer ∷ [])) (sym (answers_last stream entry is ∙ ap (λ (list : List Entry). list ++ entry ∷ []) none)) (has, tt))
    (subst (All IsNews) (sym (news_other stream entry is)) owed.news)
    (unanswered_last stream entry isnt) (All-nil (LoginShows window s.login))
    (All-cons (IsAnswerBy granted id window) answer [] by (All-nil (IsAnswerBy granted id window)))
    (subst (λ (stage : Stage). IsUnanswered stage (ask ∷ [])) (sym sent) tt)
  where
    none : answers_among stream ≡ []
    none = (no_entries window (answers_among stream) answers owed.told).0
