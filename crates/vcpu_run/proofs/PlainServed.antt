-- What a turn of a plain client's server unit leaves while both have heard of one another: what was to come is pending, and the oldest of what
-- was pending has its answer, or is a logout that is done with.
use Rattle.std.proofs.Common.{◌≡◌, ◌≢◌, ◌∙◌, ◌⊎◌, inl, inr, ℕ, suc, zero, ◌+◌, ◌≤◌, ◌++◌, ◌&&◌, not, nat_le, All, Bool, true, false, true≢false, cond, List, [], ◌∷◌, Option, Some, None, append-nil, append_assoc, drop, is_some, length, map, min, refl, sym, ap, subst, arith}
use Rattle.std.specs.Prelude.{⊤}
use Rattle.std.proofs.lemmas.Bool.Decides.{nat_tests}
use Rattle.std.proofs.lemmas.List.Elements.{All-cons, All-head, All-nil, All-push, All-tail}
use Rattle.vio_num.specs.Entry.{srp_entry}
use Rattle.vio_num.specs.declared.entry.Entry.{Entry}
use Rattle.vio_num.specs.declared.history.Grant.{Grant}
use Rattle.crq_ring.specs.declared.rows.PipeRow.{PipeRow}
use Rattle.crq_session.specs.Answered.{taken_now}
use Rattle.crq_session.specs.EndState.{EndPlace, EndState}
use Rattle.crq_session.specs.declared.handshake.Handshake.TheVariants.{Up}
use Rattle.srp_iu.specs.declared.unit.Iu.{Iu}
use Rattle.srp_iu.specs.declared.unit.Iu.TheVariants as units
use Rattle.tce_window.specs.PortState.{PortState}
use Rattle.block_server.specs.Ends.{IsGrantable}
use Rattle.block_server.specs.Talk.{AnswersRequest, CountsAnswer, HearsAll, LogsOut, MayAsk, PutsReplies, ServesNext, ServesNone, SettlesLogins, Suits, Talk, Word, order_asked, replies, session_rows, talk_of, to_come}
use Rattle.block_server.specs.declared.request.Request.{Request}
use Rattle.block_server.specs.declared.logins.Logins.{Logins}
use Rattle.block_server.specs.declared.service.Outcome.{Outcome}
use Rattle.block_server.specs.declared.service.Outcome.TheVariants as outcomes
use Rattle.block_server.specs.declared.unit.Unit.{Unit}
use Rattle.vscsi_client.specs.Spans.{meets}
use Rattle.vscsi_client.specs.State.{ClientState}
use Rattle.vscsi_client.specs.declared.stage.Stage.TheVariants.{Idle}
use Rattle.vcpu_run.specs.PlainTalk.{AnswerStands, AreApart, CountsAsked, AreInOrder, ArePending, AreSpared, Ask, AskedParts, Between, ClientStays, DataLies, HaveAnswers, IsAsk, IsCalm, IsFair, IsPendingAs, IsTalking, KeepsTables, KeepsSlots, IsAnswerBy, TagsRise, all_asked, awaited, grants_one, has_login, has_logout, is_counted, is_grant, is_granted, is_login, is_logout, is_sent, names_of, on_behind, word_of, StartsAt}
use Rattle.vcpu_run.proofs.PlainLists.{all_without, answers_plain, answers_push, apart_front, apart_without, counted_behind, counted_no_login, counted_push, first_logout, granted_push, last_login, login_counted, login_no_logout, login_push, login_without, logout_behind, logout_no_login, logout_not_counted, logout_push, names_without, no_login, on_counted, on_login, on_out, order_logout, order_tail, outstanding_by, pending_push, rise_without, takes_by}
use Rattle.vcpu_run.proofs.PlainReady.{all_front, all_rest}
use Rattle.vcpu_run.proofs.PlainTurns.{Turns, come_more, gets_all, hears_granted, puts_no, sent_same}
use Rattle.vcpu_run.proofs.PlainRejected.{says_move}

-- ---- what was to come is pending

-- What is so of the unit once all was heard.
pub record IsHeard (unit middle : Unit) (pending : List Ask) : Type 0 where
  pub pending_are : ArePending middle.pending.items pending
  pub counts : CountsAsked middle pending
  pub current : middle.logins.current ≡ unit.logins.current
  pub up : middle.line.handshake ≡ unit.line.handshake

-- nothing was to come
heard_none : (unit middle : Unit) (n : ℕ) (pending : List Ask) → ArePending unit.pending.items pending → CountsAsked unit pending → HearsAll (talk_of unit) n [] (talk_of middle)
    → IsHeard unit middle pending
heard_none unit middle n pending are counts same = record {
  pending_are = subst (λ (requests : List Request). ArePending requests pending) (sym (ap (λ (t : Talk). t.pending) same)) are;
  counts = record {
    taking = ap (λ (t : Talk). t.taking) same ∙ counts.taking
        ∙ ap (λ c. nat_le 1 c && not (has_logout pending)) (sym (ap (λ (t : Talk). t.current) same));
    outstanding = λ on. ap (λ (t : Talk). t.outstanding) same ∙ counts.outstanding (subst (λ c. 1 ≤ c) (ap (λ (t : Talk). t.current) same) on);
  };
  current = ap (λ (t : Talk). t.current) same;
  up = ap (λ (t : Talk). t.handshake) same;
}

-- one request was
taking_push : (b : Bool) (logout before : Bool) → cond logout false (b && not before) ≡ (b && not (cond logout true before))
taking_push true true before = refl
taking_push false true before = refl
taking_push b false before = refl

heard_one : (unit middle : Unit) (n : ℕ) (pending : List Ask) (ask : Ask) → IsAsk ask → ArePending unit.pending.items pending → CountsAsked unit pending
    → HearsAll (talk_of unit) n (word_of ask ∷ []) (talk_of middle) → IsHeard unit middle (pending ++ ask ∷ [])
heard_one unit middle n pending ask is_ask are counts (between, one, same) = record {
  pending_are = subst (λ (requests : List Request). ArePending requests (pending ++ ask ∷ []))
      (sym (ap (λ (t : Talk). t.pending) same ∙ one.pending))
      (pending_push unit.pending.items pending one.request ask are
      (record { address = one.is.address_is; tag = one.is.tag_is ∙ is_ask.tag_is; order = one.is.order_is; bytes = one.is.bytes_are }));
  counts = record {
    taking = ap (λ (t : Talk). t.taking) same ∙ one.taking ∙ takes_by unit.logins.taking ask.iu
        ∙ ap (λ b. cond (is_logout ask.iu) false b) counts.taking
        ∙ taking_push (nat_le 1 unit.logins.current) (is_logout ask.iu) (has_logout pending)
        ∙ ap (λ b. nat_le 1 unit.logins.current && not b) (sym (logout_push pending ask))
        ∙ ap (λ c. nat_le 1 c && not (has_logout (pending ++ ask ∷ []))) (sym current);
    outstanding = λ on.
        ap (λ (t : Talk). t.outstanding) same ∙ one.outstanding ∙ outstanding_by unit.logins.target.outstanding ask.iu
        ∙ ap (λ k. k + cond (is_counted ask.iu) 1 0) (counts.outstanding (subst (λ c. 1 ≤ c) current on))
        ∙ sym (counted_push pending ask);
  };
  current = current;
  up = ap (λ (t : Talk). t.handshake) same ∙ one.handshake;
}
  where
    current : middle.logins.current ≡ unit.logins.current
    current = ap (λ (t : Talk). t.current) same ∙ one.current

pub heard_talk : (unit middle : Unit) (n : ℕ) (pending coming : List Ask) → length coming ≤ 1 → All IsAsk coming → ArePending unit.pending.items pending → CountsAsked unit pending
    → HearsAll (talk_of unit) n (map word_of coming) (talk_of middle) → IsHeard unit middle (pending ++ coming)
heard_talk unit middle n pending [] few each are counts all =
    subst (IsHeard unit middle) (sym (append-nil pending)) (heard_none unit middle n pending are counts all)
heard_talk unit middle n pending (ask ∷ []) few each are counts all = heard_one unit middle n pending ask (All-head IsAsk ask [] each) are counts all
heard_talk unit middle n pending (ask ∷ next ∷ more) few each are counts all = absurd (omega (arith, few))

-- as they are heard nothing is sent
no_replies : (coming : List Ask) → replies (map word_of coming) ≡ []
no_replies [] = refl
no_replies (ask ∷ more) = no_replies more

-- ---- what stands in the slots

pub answers_move : (old new : PortState) (spared : ℕ → Type 0) → KeepsSlots spared old new → (entries : List Entry) (asked : List Ask) (answers : List Iu)
    → All (λ ask. spared ask.slot) asked → All IsAsk asked → HaveAnswers old entries asked answers → HaveAnswers new entries asked answers
answers_move old new spared keeps [] [] [] apart each have = tt
answers_move old new spared keeps [] [] (answer ∷ answers) apart each have = absurd have
answers_move old new spared keeps [] (ask ∷ asked) answers apart each have = absurd have
answers_move old new spared keeps (entry ∷ entries) [] answers apart each have = absurd have
answers_move old new spared keeps (entry ∷ entries) (ask ∷ asked) [] apart each have = absurd have
answers_move old new spared keeps (entry ∷ entries) (ask ∷ asked) (answer ∷ answers) apart each have = (
  record {
    long = have.0.long;
    few = have.0.few;
    entry_is = have.0.entry_is;
    bytes = have.0.bytes;
    stand = keeps.slots ask.slot have.0.bytes (All-head IsAsk ask asked each).slot_is (All-head (λ (ask : Ask). spared ask.slot) ask asked apart) have.0.whole have.0.stand;
    whole = have.0.whole;
    spelled = have.0.spelled;
    suits = have.0.suits;
  },
  answers_move old new spared keeps entries asked answers (All-tail (λ (ask : Ask). spared ask.slot) ask asked apart) (All-tail IsAsk ask asked each) have.1,
)

pub all_spared : (asked : List Ask) → All (λ ask. ⊤) asked
all_spared [] = All-nil (λ (ask : Ask). ⊤)
all_spared (ask ∷ asked) = All-cons (λ (ask : Ask). ⊤) ask asked tt (all_spared asked)

-- ---- the data

-- those of these are as they were
pub all_kept : (old new : PortState) (spared : Ask → Type 0) → KeepsTables spared old new → (asked : List Ask) → All spared asked → All (DataLies old) asked → All (DataLies new) asked
all_kept old new spared keeps [] spares all = All-nil (DataLies new)
all_kept old new spared keeps (ask ∷ asked) spares all =
    All-cons (DataLies new) ask asked (keeps ask (All-head spared ask asked spares) (All-head (DataLies old) ask asked all))
    (all_kept old new spared keeps asked (All-tail spared ask asked spares) (All-tail (DataLies old) ask asked all))

-- What the service of what was asked leaves of the client's window: what stood in the other slots, and tables on pages that its data spare.
pub record LeavesElse (ask : Ask) (old new : PortState) : Type 0 where
  pub slots : KeepsSlots (λ slot. slot ≢ ask.slot) old new
  pub tables : KeepsTables (λ other. meets ask.pages other.table ≡ false) old new

-- ---- behind the turn

-- What the client knows of a login agrees with the unit's, these having their answers and those being pending.
record Logs (known : Option ℕ) (current : ℕ) (answered rest : List Ask) (answers : List Iu) : Type 0 where
  before : has_login answered ≡ false → is_some known ≡ on_behind (nat_le 1 current) rest
  on : has_login answered ≡ true → 1 ≤ current
  answer : has_login answered ≡ true → is_some known ≡ not (grants_one answers)

-- What such a turn made of what was asked.
record Left (granted : ℕ) (at at' : Between) (whole answered rest : List Ask) (answers : List Iu) : Type 0 where
  is : answered ++ rest ≡ whole
  each : All IsAsk whole
  slots : AreApart whole
  tags : TagsRise (length at.client.rows) whole
  order : AreInOrder whole
  names : names_of whole ≡ awaited at.client
  logouts : All (λ ask. is_logout ask.iu ≡ true → at.client.logout ≡ Some ask.slot) whole
  sent : has_login whole ≡ is_sent at.client.login
  up : at'.unit.line.handshake ≡ Up
  pending : ArePending at'.unit.pending.items rest
  answered_are : HaveAnswers at'.window (at.client.kept ++ to_come at'.own) answered answers
  counts : CountsAsked at'.unit rest
  tables : All (DataLies at'.window) rest
  starts : All (StartsAt at.client.rows) rest
  spared : AreSpared rest
  logs : Logs at.client.granted at'.unit.logins.current answered rest answers
  grant : All (IsAnswerBy granted at'.unit.id at'.window) answers

talk_so : (granted : ℕ) (at at' : Between) (words : List Word) (asked : AskedParts) (answers : List Iu) (whole answered rest : List Ask) (answers' : List Iu)
    → IsTalking granted at words asked answers → ClientStays at at' → Left granted at at' whole answered rest answers'
    → IsTalking granted at' [] (record { answered = answered; pending = rest; coming = [] }) answers'
talk_so granted at at' words asked answers whole answered rest answers' talk stays left = record {
  registered = stays.registered ∙ talk.registered;
  handshake = ap (λ (s : ClientState). s.handshake) stays.client ∙ talk.handshake;
  up = left.up;
  due = ap (λ (s : ClientState). s.due) stays.client ∙ talk.due;
  held = ap (λ (s : ClientState). s.held) stays.client ∙ talk.held;
  each = subst (All IsAsk) (sym whole_is) left.each;
  slots = subst AreApart (sym whole_is) left.slots;
  tags = subst (λ (s : ClientState). TagsRise (length s.rows) (answered ++ (rest ++ []))) (sym stays.client) (subst (TagsRise (length at.client.rows)) (sym whole_is) left.tags);
  order = subst AreInOrder (sym whole_is) left.order;
  pending = left.pending;
  coming = refl;
  few = omega arith;
  may = All-nil (λ (ask : Ask). MayAsk (talk_of at'.unit) ask.iu);
  answered = subst (λ (s : ClientState). HaveAnswers at'.window (s.kept ++ to_come at'.own) answered answers') (sym stays.client) left.answered_are;
  awaited = ap names_of whole_is ∙ left.names ∙ sym (ap awaited stays.client);
  logouts = subst (λ (s : ClientState). All (λ ask. is_logout ask.iu ≡ true → s.logout ≡ Some ask.slot) (answered ++ (rest ++ []))) (sym stays.client)
      (subst (All (λ ask. is_logout ask.iu ≡ true → at.client.logout ≡ Some ask.slot)) (sym whole_is) left.logouts);
  sent = ap has_login whole_is ∙ left.sent ∙ sym (ap (λ (s : ClientState). is_sent s.login) stays.client);
  stage = subst (λ (s : ClientState). (s.login ≡ Idle) ⊎ (is_sent s.login ≡ true)) (sym stays.client) talk.stage;
  none = λ e. ap (λ (s : ClientState). s.outgoing) stays.client ∙ talk.none (sym (ap (λ (s : ClientState). s.granted) stays.client) ∙ e);
  within = subst (λ (s : ClientState). length s.outgoing ≤ 200) (sym stays.client) talk.within;
  counts = left.counts;
  tables = subst (All (DataLies at'.window)) (sym (append-nil rest)) left.tables;
  starts = subst (λ (s : ClientState). All (StartsAt s.rows) (rest ++ [])) (sym stays.client)
      (subst (All (StartsAt at.client.rows)) (sym (append-nil rest)) left.starts);
  spared = subst AreSpared (sym (append-nil rest)) left.spared;
  login = record {
    credits = subst (λ (s : ClientState). (s.granted ≡ None) ⊎ (s.granted ≡ Some (min granted 200))) (sym stays.client) talk.login.credits;
    before = λ no. ap (λ (s : ClientState). is_some s.granted) stays.client ∙ left.logs.before no
        ∙ ap (on_behind (nat_le 1 at'.unit.logins.current)) (sym (append-nil rest));
    on = left.logs.on;
    answer = λ yes'. ap (λ (s : ClientState). is_some s.granted) stays.client ∙ left.logs.answer yes';
    grant = left.grant;
  };
}
  where
    whole_is : answered ++ (rest ++ []) ≡ whole
    whole_is = ap (λ (list : List Ask). answered ++ list) (append-nil rest) ∙ left.is

-- the first of what is pending
pub pending_first : (request : Request) (rest : List Request) (asked : List Ask) → ArePending (request ∷ rest) asked
    → (ask : Ask) × (more : List Ask) × (asked ≡ ask ∷ more) × IsPendingAs request ask × ArePending rest more
pending_first request rest [] are = absurd are
pending_first request rest (ask ∷ more) are = (ask, more, refl, are.0, are.1)

-- what the service of the oldest request leaves of the client's window: what stood in the slots, but over that request its answer
abbrev pub LeavesSlots : (old new : PortState) → (unit unit' : Unit) → (queue queue' : EndState) → (lines lines' : List Grant)
    → ServesNext unit unit' queue queue' lines lines' → Type 0
LeavesSlots old new unit unit' queue queue' lines lines' (inl none) = KeepsSlots (λ slot. ⊤) old new × KeepsTables (λ ask. ⊤) old new
LeavesSlots old new unit unit' queue queue' lines lines' (inr (request, rest, pending, inl out)) =
    (ask : Ask) → IsPendingAs request ask → IsAsk ask → DataLies old ask → LeavesElse ask old new
LeavesSlots old new unit unit' queue queue' lines lines' (inr (request, rest, pending, inr is)) =
    (ask : Ask) → IsPendingAs request ask → IsAsk ask → DataLies old ask → LeavesElse ask old new × ((answer : Iu) × AnswerStands unit.logins.granted unit'.id new ask is.long is.outcome answer)

-- what is to come to the client behind the turn
come_behind : (granted : ℕ) (at at' : Between) (words : List Word) (asked : AskedParts) (answers : List Iu) (between : EndState) (entries : List Entry) → IsCalm granted at words
    → IsTalking granted at words asked answers → ClientStays at at' → PutsReplies at.server between (replies words) → between.place ≡ at.server.place
    → between.counts.partner_session ≡ at.server.counts.partner_session → PutsReplies between at'.server entries → to_come at'.own ≡ to_come at.own ++ entries
come_behind granted at at' words asked answers between entries calm talk stays hears place session put =
    let none : replies words ≡ [] = ap replies talk.coming ∙ no_replies asked.coming in
    let sent : between.sent ≡ at.server.sent = sent_same at.server between (subst (PutsReplies at.server between) none hears) in
    let all : PutsReplies at.server at'.server entries =
    put ∙ ap (λ (p : EndPlace). between.sent ++ cond p.partner_registered (session_rows between.counts.partner_session entries) []) place
    ∙ ap (λ q. between.sent ++ cond at.server.place.partner_registered (session_rows q entries) []) session
    ∙ ap (λ (rows : List PipeRow). rows ++ cond at.server.place.partner_registered (session_rows at.server.counts.partner_session entries) []) sent in
    come_more at.own at'.own entries talk.registered calm.ends.own_took
    (gets_all at.server at'.server at.own at'.own entries calm.ends stays.ends stays.session stays.registered stays.taken stays.slots all)

-- ---- nothing was pending

puts_nothing : (old new : EndState) → new ≡ old → PutsReplies old new []
puts_nothing old new same =
    ap (λ (end : EndState). end.sent) same
    ∙ sym (ap (λ (rows : List PipeRow). old.sent ++ rows) (puts_no old.place.partner_registered old.counts.partner_session) ∙ append-nil old.sent)

served_none : (granted : ℕ) (at at' : Between) (lines lines' : List Grant) (words : List Word) (asked : AskedParts) (answers : List Iu) → IsCalm granted at words
    → IsTalking granted at words asked answers → (turn : Turns at at' lines lines' words) → ClientStays at at' → at'.unit.id ≡ at.unit.id
    → IsHeard at.unit turn.middle (asked.pending ++ asked.coming) → ServesNone turn.middle at'.unit turn.between.queue at'.server turn.added lines'
    → KeepsSlots (λ slot. ⊤) at.window at'.window → KeepsTables (λ ask. ⊤) at.window at'.window
    → Left granted at at' (all_asked asked) asked.answered (asked.pending ++ asked.coming) answers
served_none granted at at' lines lines' words asked answers calm talk turn stays id heard none keeps stay = record {
  is = refl;
  each = talk.each;
  slots = talk.slots;
  tags = talk.tags;
  order = talk.order;
  names = talk.awaited;
  logouts = talk.logouts;
  sent = talk.sent;
  up = ap (λ (u : Unit). u.line.handshake) none.same ∙ heard.up ∙ talk.up;
  pending = subst (λ (u : Unit). ArePending u.pending.items pending) (sym none.same) heard.pending_are;
  answered_are = subst (λ (list : List Entry). HaveAnswers at'.window (at.client.kept ++ list) asked.answered answers)
      (sym (come_behind granted at at' words asked answers turn.between.queue [] calm talk stays turn.hears.put turn.hears.place turn.hears.partner
      (puts_nothing turn.between.queue at'.server none.queue) ∙ append-nil (to_come at.own)))
      (answers_move at.window at'.window (λ slot. ⊤) keeps (at.client.kept ++ to_come at.own) asked.answered answers (all_spared asked.answered)
      (all_front IsAsk asked.answered pending talk.each) talk.answered);
  counts = subst (λ (u : Unit). CountsAsked u pending) (sym none.same) heard.counts;
  tables = all_kept at.window at'.window (λ ask. ⊤) stay pending (all_spared pending) talk.tables;
  starts = talk.starts;
  spared = talk.spared;
  logs = record {
    before = λ no'. talk.login.before no' ∙ ap (λ c. on_behind (nat_le 1 c) pending) (sym current);
    on = λ some. subst (λ c. 1 ≤ c) (sym current) (talk.login.on some);
    answer = talk.login.answer;
  };
  grant = says_move granted at.unit.id at'.unit.id at.window at'.window id keeps.unit keeps.strokes answers talk.login.grant;
}
  where
    pending : List Ask
    pending = asked.pending ++ asked.coming

    current : at'.unit.logins.current ≡ at.unit.logins.current
    current = ap (λ (u : Unit). u.logins.current) none.same ∙ heard.current

-- ---- a logout

-- the data of those behind what was served
left_tables : (at at' : Between) (pending coming : List Ask) (ask : Ask) (more : List Ask) → pending ++ coming ≡ ask ∷ more → LeavesElse ask at.window at'.window
    → AreSpared (pending ++ coming) → All (DataLies at.window) (pending ++ coming) → All (DataLies at'.window) more
left_tables at at' pending coming ask more is leaves spared tables =
    all_kept at.window at'.window (λ other. meets ask.pages other.table ≡ false) leaves.tables more (subst AreSpared is spared).0
    (All-tail (DataLies at.window) ask more (subst (All (DataLies at.window)) is tables))

not_both : (b : Bool) → b ≡ true → b ≡ false → ⊥
not_both b is isnt = cc

served_out : (granted : ℕ) (at at' : Between) (lines lines' : List Grant) (words : List Word) (asked : AskedParts) (answers : List Iu) → IsCalm granted at words
    → IsTalking granted at words asked answers → (turn : Turns at at' lines lines' words) → ClientStays at at' → at'.unit.id ≡ at.unit.id
    → IsHeard at.unit turn.middle (asked.pending ++ asked.coming) → (request : Request) (rest : List Request) → turn.middle.pending.items ≡ request ∷ rest
    → (ask : Ask) (more : List Ask) → asked.pending ++ asked.coming ≡ ask ∷ more → ArePending rest more → is_logout ask.iu ≡ true
    → LogsOut turn.middle at'.unit turn.between.queue at'.server turn.added lines'
    → LeavesElse ask at.window at'.window → Left granted at at' (asked.answered ++ more) asked.answered more answers
served_out granted at at' lines lines' words asked answers calm talk turn stays id heard request rest items ask more is are logout out leaves = record {
  is = refl;
  each = all_without IsAsk asked.answered ask more (subst (λ (list : List Ask). All IsAsk (asked.answered ++ list)) is talk.each);
  slots = apart_without asked.answered ask more (subst (λ (list : List Ask). AreApart (asked.answered ++ list)) is talk.slots);
  tags = rise_without (length at.client.rows) asked.answered ask more (subst (λ (list : List Ask). TagsRise (length at.client.rows) (asked.answered ++ list)) is talk.tags);
  order = subst (λ (front : List Ask). AreInOrder (front ++ more)) (sym empty)
      (order_tail ask more (subst (λ (front : List Ask). AreInOrder (front ++ ask ∷ more)) empty order));
  names = sym (names_without asked.answered ask more logout) ∙ ap (λ (list : List Ask). names_of (asked.answered ++ list)) (sym is) ∙ talk.awaited;
  logouts = all_without (λ ask. is_logout ask.iu ≡ true → at.client.logout ≡ Some ask.slot) asked.answered ask more
      (subst (λ (list : List Ask). All (λ ask. is_logout ask.iu ≡ true → at.client.logout ≡ Some ask.slot) (asked.answered ++ list)) is talk.logouts);
  sent = sym (login_without asked.answered ask more (logout_no_login ask.iu logout)) ∙ ap (λ (list : List Ask). has_login (asked.answered ++ list)) (sym is) ∙ talk.sent;
  up = ap (λ line. line.handshake) out.over.line ∙ heard.up ∙ talk.up;
  pending = subst (λ (requests : List Request). ArePending requests more)
      (sym (out.over.pending ∙ ap (λ (requests : List Request). drop 1 requests) items)) are;
  answered_are = subst (λ (list : List Entry). HaveAnswers at'.window (at.client.kept ++ list) asked.answered answers)
      (sym (come_behind granted at at' words asked answers turn.between.queue [] calm talk stays turn.hears.put turn.hears.place turn.hears.partner out.put.put
      ∙ append-nil (to_come at.own)))
      (answers_move at.window at'.window (λ slot. slot ≢ ask.slot) leaves.slots (at.client.kept ++ to_come at.own) asked.answered answers
      (apart_front asked.answered ask more (subst (λ (list : List Ask). AreApart (asked.answered ++ list)) is talk.slots))
      (all_front IsAsk asked.answered (asked.pending ++ asked.coming) talk.each) talk.answered);
  tables = left_tables at at' asked.pending asked.coming ask more is leaves talk.spared talk.tables;
  starts = All-tail (StartsAt at.client.rows) ask more (subst (All (StartsAt at.client.rows)) is talk.starts);
  spared = (subst AreSpared is talk.spared).1;
  counts = record {
    taking = out.taking ∙ sym (ap (λ c. nat_le 1 c && not (has_logout more)) out.current);
    outstanding = λ on. absurd (omega (arith, on, out.current));
  };
  logs = record {
    before = λ no'. talk.login.before no' ∙ ap (on_behind (nat_le 1 at.unit.logins.current)) is ∙ on_out (nat_le 1 at.unit.logins.current) ask more logout
        ∙ ap (λ c. on_behind (nat_le 1 c) more) (sym out.current);
    on = λ some. absurd (not_both (has_login asked.answered) some none);
    answer = λ some. absurd (not_both (has_login asked.answered) some none);
  };
  grant = says_move granted at.unit.id at'.unit.id at.window at'.window id leaves.slots.unit leaves.slots.strokes answers talk.login.grant;
}
  where
    order : AreInOrder (asked.answered ++ ask ∷ more)
    order = subst (λ (list : List Ask). AreInOrder (asked.answered ++ list)) is talk.order

    empty : asked.answered ≡ []
    empty = first_logout asked.answered ask more order logout

    none : has_login asked.answered ≡ false
    none = ap has_login empty

-- ---- a request that has its answer

-- no answer suits a logout
suits_no_logout : (current : ℕ) (iu : Iu) (outcome : Outcome) → Suits current (order_asked iu) outcome → is_logout iu ≡ false
suits_no_logout current (units.ILogout tag) (outcomes.Granted number) suits = absurd suits
suits_no_logout current (units.ILogout tag) outcomes.Rejected suits = absurd suits
suits_no_logout current (units.ILogout tag) (outcomes.Served row) suits = absurd suits
suits_no_logout current (units.LoginReq request) outcome suits = refl
suits_no_logout current (units.TskMgmt task) outcome suits = refl
suits_no_logout current (units.Cmd command) outcome suits = refl
suits_no_logout current iu outcome suits = refl

-- a task or a command counts one less
served_counts : (current : ℕ) (iu : Iu) (outcome : Outcome) (old new : Logins) → is_counted iu ≡ true → Suits current (order_asked iu) outcome → SettlesLogins outcome old new
    → CountsAnswer old new
served_counts current (units.TskMgmt task) (outcomes.Served row) old new is suits settles = settles
served_counts current (units.TskMgmt task) (outcomes.Granted number) old new is suits settles = absurd suits
served_counts current (units.TskMgmt task) outcomes.Rejected old new is suits settles = absurd suits
served_counts current (units.Cmd command) (outcomes.Served row) old new is suits settles = settles
served_counts current (units.Cmd command) (outcomes.Granted number) old new is suits settles = absurd suits
served_counts current (units.Cmd command) outcomes.Rejected old new is suits settles = absurd suits
served_counts current iu outcome old new isnt suits settles = absurd (cc (isnt))

pub at_least : (n : ℕ) → 1 ≤ n → nat_le 1 n ≡ true
at_least n less = grind (arith, nat_tests, less)

is_none : (n : ℕ) → n ≡ 0 → nat_le 1 n ≡ false
is_none n none = grind (arith, nat_tests, none)

-- What the answer to a login leaves: one is on, granted exactly where none was.
record LoginSettled (outcome : Outcome) (old new : Logins) : Type 0 where
  on : 1 ≤ new.current
  granted : is_grant outcome ≡ not (nat_le 1 old.current)
  begun : is_grant outcome ≡ true → (new.taking ≡ true) × (new.target.outstanding ≡ 0)
  same : is_grant outcome ≡ false → new ≡ old

login_settles : (iu : Iu) (outcome : Outcome) (old new : Logins) → is_login iu ≡ true → IsFair iu → Suits old.current (order_asked iu) outcome → SettlesLogins outcome old new
    → LoginSettled outcome old new
login_settles (units.LoginReq request) (outcomes.Granted number) old new is fair suits settles = record {
  on = omega (arith, settles.current);
  granted = ap not (sym (is_none old.current suits.none_on));
  begun = λ granted. (settles.taking, settles.outstanding);
  same = λ no'. absurd (true≢false no');
}
login_settles (units.LoginReq request) outcomes.Rejected old new is fair suits settles = record {
  on = subst (λ (logins : Logins). 1 ≤ logins.current) (sym settles) (by old.current refl);
  granted = ap not (sym (at_least old.current (by old.current refl)));
  begun = λ some. absurd (true≢false (sym some));
  same = λ no'. settles;
}
  where
    by : (n : ℕ) → old.current ≡ n → 1 ≤ old.current
    by zero e = absurd (suits (subst (λ c. IsGrantable c request) (sym e) fair))
    by (suc n) e = omega (arith, e)
login_settles (units.LoginReq request) (outcomes.Served row) old new is fair suits settles = absurd suits
login_settles iu outcome old new isnt fair suits settles = absurd (cc (isnt))

-- what is counted behind the answer to a task or a command, and to a login
counted_left : (unit unit' : Unit) (ask : Ask) (more : List Ask) → is_counted ask.iu ≡ true → CountsAsked unit (ask ∷ more) → CountsAnswer unit.logins unit'.logins
    → CountsAsked unit' more
counted_left unit unit' ask more is counts settles = record {
  taking = settles.taking ∙ counts.taking
      ∙ ap (λ b. nat_le 1 unit.logins.current && not b) (logout_behind ask more (logout_not_counted ask.iu is))
      ∙ ap (λ c. nat_le 1 c && not (has_logout more)) (sym settles.current);
  outstanding = λ on.
      let before = counts.outstanding (subst (λ c. 1 ≤ c) settles.current on) in
      omega (arith, settles.outstanding, before, counted_behind ask more is);
}

login_left : (unit unit' : Unit) (ask : Ask) (outcome : Outcome) → is_login ask.iu ≡ true → CountsAsked unit (ask ∷ []) → LoginSettled outcome unit.logins unit'.logins
    → CountsAsked unit' []
login_left unit unit' ask outcome is counts settled = by (is_grant outcome) refl
  where
    by : (b : Bool) → is_grant outcome ≡ b → CountsAsked unit' []
    by true e = record {
      taking = (settled.begun e).0 ∙ sym (ap (λ b. b && true) (at_least unit'.logins.current settled.on));
      outstanding = λ on. (settled.begun e).1;
    }
    by false e =
        let same = settled.same e in
        record {
          taking = ap (λ (logins : Logins). logins.taking) same ∙ counts.taking
              ∙ ap (λ b. nat_le 1 unit.logins.current && not b) (logout_behind ask [] (login_no_logout ask.iu is))
              ∙ sym (ap (λ (logins : Logins). nat_le 1 logins.current && true) same);
          outstanding = λ on.
              ap (λ (logins : Logins). logins.target.outstanding) same ∙ counts.outstanding (subst (λ (logins : Logins). 1 ≤ logins.current) same on)
              ∙ login_counted ask [] is;
        }

-- what the client knows of its login behind them
counted_logs : (known : Option ℕ) (current current' : ℕ) (answered : List Ask) (ask : Ask) (more : List Ask) (answers answers' : List Iu) → is_counted ask.iu ≡ true
    → has_login answered ≡ false → current' ≡ current → is_some known ≡ on_behind (nat_le 1 current) (ask ∷ more) → Logs known current' (answered ++ ask ∷ []) more answers'
counted_logs known current current' answered ask more answers answers' is none same before = record {
  before = λ no'. before ∙ on_counted (nat_le 1 current) ask more is ∙ ap (λ c. on_behind (nat_le 1 c) more) (sym same);
  on = λ some. absurd (not_both (has_login (answered ++ ask ∷ [])) some all_none);
  answer = λ some. absurd (not_both (has_login (answered ++ ask ∷ [])) some all_none);
}
  where
    all_none : has_login (answered ++ ask ∷ []) ≡ false
    all_none = login_push answered ask none ∙ counted_no_login ask.iu is

login_logs : (known : Option ℕ) (outcome : Outcome) (old new : Logins) (answered : List Ask) (ask : Ask) (answers : List Iu) (answer : Iu) → is_login ask.iu ≡ true
    → has_login answered ≡ false → grants_one answers ≡ false → is_granted answer ≡ is_grant outcome → LoginSettled outcome old new
    → is_some known ≡ on_behind (nat_le 1 old.current) (ask ∷ []) → Logs known new.current (answered ++ ask ∷ []) [] (answers ++ answer ∷ [])
login_logs known outcome old new answered ask answers answer is none no_grant says settled before = record {
  before = λ no'. absurd (not_both (has_login (answered ++ ask ∷ [])) (login_push answered ask none ∙ is) no');
  on = λ some. settled.on;
  answer = λ some. before ∙ on_login (nat_le 1 old.current) ask [] is ∙ sym (twice (nat_le 1 old.current))
      ∙ sym (ap not (granted_push answers answer no_grant ∙ says ∙ settled.granted));
}
  where
    twice : (b : Bool) → not (not b) ≡ b
    twice true = refl
    twice false = refl

served_one : (granted : ℕ) (at at' : Between) (lines lines' : List Grant) (words : List Word) (asked : AskedParts) (answers : List Iu) → IsCalm granted at words
    → IsTalking granted at words asked answers → (turn : Turns at at' lines lines' words) → ClientStays at at' → at'.unit.id ≡ at.unit.id
    → IsHeard at.unit turn.middle (asked.pending ++ asked.coming) → (request : Request) (rest : List Request) → turn.middle.pending.items ≡ request ∷ rest
    → (ask : Ask) (more : List Ask) → asked.pending ++ asked.coming ≡ ask ∷ more → IsPendingAs request ask → ArePending rest more → IsAsk ask
    → (one : AnswersRequest turn.middle at'.unit turn.between.queue at'.server turn.added lines' request)
    → LeavesElse ask at.window at'.window → (answer : Iu) → AnswerStands turn.middle.logins.granted at'.unit.id at'.window ask one.long one.outcome answer
    → Left granted at at' (all_asked asked) (asked.answered ++ ask ∷ []) more (answers ++ answer ∷ [])
served_one granted at at' lines lines' words asked answers calm talk turn stays id heard request rest items ask more is pending are is_ask one leaves answer stands = record {
  is = append_assoc asked.answered (ask ∷ []) more ∙ ap (λ (list : List Ask). asked.answered ++ list) (sym is);
  each = talk.each;
  slots = talk.slots;
  tags = talk.tags;
  order = talk.order;
  names = talk.awaited;
  logouts = talk.logouts;
  sent = talk.sent;
  up = ap (λ line. line.handshake) one.put.over.line ∙ heard.up ∙ talk.up;
  pending = subst (λ (requests : List Request). ArePending requests more)
      (sym (one.put.over.pending ∙ ap (λ (requests : List Request). drop 1 requests) items)) are;
  answered_are = subst (λ (list : List Entry). HaveAnswers at'.window list (asked.answered ++ ask ∷ []) (answers ++ answer ∷ []))
      (sym (ap (λ (list : List Entry). at.client.kept ++ list) come ∙ sym (append_assoc at.client.kept (to_come at.own) (entry ∷ []))))
      (answers_push at'.window (at.client.kept ++ to_come at.own) asked.answered answers entry ask answer
      (answers_move at.window at'.window (λ slot. slot ≢ ask.slot) leaves.slots (at.client.kept ++ to_come at.own) asked.answered answers
      (apart_front asked.answered ask more (subst (λ (list : List Ask). AreApart (asked.answered ++ list)) is talk.slots))
      (all_front IsAsk asked.answered (asked.pending ++ asked.coming) talk.each) talk.answered)
      (record {
        long = one.long;
        few = stands.few;
        entry_is = ap (srp_entry one.long) pending.tag;
        bytes = stands.bytes;
        stand = stands.stand;
        whole = stands.whole;
        spelled = stands.spelled;
        suits = stands.suits;
      }));
  counts = counts_by is_ask.kind;
  tables = left_tables at at' asked.pending asked.coming ask more is leaves talk.spared talk.tables;
  starts = All-tail (StartsAt at.client.rows) ask more (subst (All (StartsAt at.client.rows)) is talk.starts);
  spared = (subst AreSpared is talk.spared).1;
  logs = logs_by is_ask.kind;
  grant = All-push (IsAnswerBy granted at'.unit.id at'.window) answers answer (says_move granted at.unit.id at'.unit.id at.window at'.window id leaves.slots.unit leaves.slots.strokes answers talk.login.grant)
      (subst (λ n. IsAnswerBy n at'.unit.id at'.window answer) grants_is stands.credits);
}
  where
    entry : Entry
    entry = srp_entry one.long request.tag

    come : to_come at'.own ≡ to_come at.own ++ entry ∷ []
    come = come_behind granted at at' words asked answers turn.between.queue (entry ∷ []) calm talk stays turn.hears.put turn.hears.place turn.hears.partner one.put.put.put

    order : AreInOrder (asked.answered ++ ask ∷ more)
    order = subst (λ (list : List Ask). AreInOrder (asked.answered ++ list)) is talk.order

    none : has_login asked.answered ≡ false
    none = no_login asked.answered ask more order

    grants_is : turn.middle.logins.granted ≡ granted
    grants_is = hears_granted (talk_of at.unit) (length (taken_now at.server)) words (talk_of turn.middle) turn.hears.heard ∙ calm.grants

    suits : Suits turn.middle.logins.current (order_asked ask.iu) one.outcome
    suits = subst (λ order. Suits turn.middle.logins.current order one.outcome) pending.order one.suits

    settles : SettlesLogins one.outcome turn.middle.logins at'.unit.logins
    settles = one.put.logins (ap (λ (place : EndPlace). place.partner_registered) turn.hears.place ∙ calm.ends.server_sees.partner ∙ talk.registered)

    counts : CountsAsked turn.middle (ask ∷ more)
    counts = subst (CountsAsked turn.middle) is heard.counts

    before : is_some at.client.granted ≡ on_behind (nat_le 1 turn.middle.logins.current) (ask ∷ more)
    before = talk.login.before none ∙ ap (on_behind (nat_le 1 at.unit.logins.current)) is ∙ ap (λ c. on_behind (nat_le 1 c) (ask ∷ more)) (sym heard.current)

    settled : is_login ask.iu ≡ true → LoginSettled one.outcome turn.middle.logins at'.unit.logins
    settled login = login_settles ask.iu one.outcome turn.middle.logins at'.unit.logins login is_ask.fair suits settles

    served : is_counted ask.iu ≡ true → CountsAnswer turn.middle.logins at'.unit.logins
    served counted' = served_counts turn.middle.logins.current ask.iu one.outcome turn.middle.logins at'.unit.logins counted' suits settles

    no_logout : is_logout ask.iu ≡ true → ⊥
    no_logout logout = not_both (is_logout ask.iu) logout (suits_no_logout turn.middle.logins.current ask.iu one.outcome suits)

    -- a login is the last
    last : is_login ask.iu ≡ true → more ≡ []
    last login = last_login asked.answered ask more order login

    counts_by : (is_login ask.iu ≡ true) ⊎ ((is_logout ask.iu ≡ true) ⊎ (is_counted ask.iu ≡ true)) → CountsAsked at'.unit more
    counts_by (inl login) =
        subst (CountsAsked at'.unit) (sym (last login))
        (login_left turn.middle at'.unit ask one.outcome login (subst (λ (list : List Ask). CountsAsked turn.middle (ask ∷ list)) (last login) counts) (settled login))
    counts_by (inr (inl logout)) = absurd (no_logout logout)
    counts_by (inr (inr counted')) = counted_left turn.middle at'.unit ask more counted' counts (served counted')

    logs_by : (is_login ask.iu ≡ true) ⊎ ((is_logout ask.iu ≡ true) ⊎ (is_counted ask.iu ≡ true))
        → Logs at.client.granted at'.unit.logins.current (asked.answered ++ ask ∷ []) more (answers ++ answer ∷ [])
    logs_by (inl login) =
        subst (λ (list : List Ask). Logs at.client.granted at'.unit.logins.current (asked.answered ++ ask ∷ []) list (answers ++ answer ∷ [])) (sym (last login))
        (login_logs at.client.granted one.outcome turn.middle.logins at'.unit.logins asked.answered ask answers answer login none
        (answers_plain at.window (at.client.kept ++ to_come at.own) asked.answered answers talk.answered none) stands.grants (settled login)
        (subst (λ (list : List Ask). is_some at.client.granted ≡ on_behind (nat_le 1 turn.middle.logins.current) (ask ∷ list)) (last login) before))
    logs_by (inr (inl logout)) = absurd (no_logout logout)
    logs_by (inr (inr counted')) =
        counted_logs at.client.granted turn.middle.logins.current at'.unit.logins.current asked.answered ask more answers (answers ++ answer ∷ []) counted' none
        (served counted').current before

-- ---- the turn

-- what lies between them once both have heard of one another
abbrev TalksSomehow : (granted : ℕ) → Between → Type 0
TalksSomehow granted at = (asked : AskedParts) × (answers : List Iu) × IsTalking granted at [] asked answers

pub talk_behind : (granted : ℕ) (at at' : Between) (lines lines' : List Grant) (words : List Word) (asked : AskedParts) (answers : List Iu) → IsCalm granted at words
    → IsTalking granted at words asked answers → (turn : Turns at at' lines lines' words) → ClientStays at at' → at'.unit.id ≡ at.unit.id
    → LeavesSlots at.window at'.window turn.middle at'.unit turn.between.queue at'.server turn.added lines' turn.serves → TalksSomehow granted at'
talk_behind granted at at' lines lines' words asked answers calm talk turn stays id leaves = by turn.serves leaves
  where
    pending : List Ask
    pending = asked.pending ++ asked.coming

    heard : IsHeard at.unit turn.middle pending
    heard = heard_talk at.unit turn.middle (length (taken_now at.server)) asked.pending asked.coming talk.few
        (all_rest IsAsk asked.pending asked.coming (all_rest IsAsk asked.answered pending talk.each)) talk.pending talk.counts
        (subst (λ (list : List Word). HearsAll (talk_of at.unit) (length (taken_now at.server)) list (talk_of turn.middle)) talk.coming turn.hears.heard)

    data_first : (ask : Ask) (more : List Ask) → pending ≡ ask ∷ more → DataLies at.window ask
    data_first ask more is = All-head (DataLies at.window) ask more (subst (All (DataLies at.window)) is talk.tables)

    goes : (answered rest whole : List Ask) (answers' : List Iu) → Left granted at at' whole answered rest answers' → TalksSomehow granted at'
    goes answered rest whole answers' left =
        (record { answered = answered; pending = rest; coming = [] }, answers', talk_so granted at at' words asked answers whole answered rest answers' talk stays left)

    by : (serves : ServesNext turn.middle at'.unit turn.between.queue at'.server turn.added lines')
        → LeavesSlots at.window at'.window turn.middle at'.unit turn.between.queue at'.server turn.added lines' serves → TalksSomehow granted at'
    by (inl none) keeps =
        goes asked.answered pending (all_asked asked) answers (served_none granted at at' lines lines' words asked answers calm talk turn stays id heard none keeps.0 keeps.1)
    by (inr (request, rest, items, inl out)) leaves =
        let first = pending_first request rest pending (subst (λ (requests : List Request). ArePending requests pending) items heard.pending_are) in
        let is_ask : IsAsk first.0 = All-head IsAsk first.0 first.1 (subst (All IsAsk) first.2 (all_rest IsAsk asked.answered pending talk.each)) in
        goes asked.answered first.1 (asked.answered ++ first.1) answers
        (served_out granted at at' lines lines' words asked answers calm talk turn stays id heard request rest items first.0 first.1 first.2 first.4
        (order_logout first.0.iu (sym first.3.order ∙ out.0)) out.1 (leaves first.0 first.3 is_ask (data_first first.0 first.1 first.2)))
    by (inr (request, rest, items, inr one)) leaves =
        let first = pending_first request rest pending (subst (λ (requests : List Request). ArePending requests pending) items heard.pending_are) in
        let is_ask : IsAsk first.0 = All-head IsAsk first.0 first.1 (subst (All IsAsk) first.2 (all_rest IsAsk asked.answered pending talk.each)) in
        let window = leaves first.0 first.3 is_ask (data_first first.0 first.1 first.2) in
        goes (asked.answered ++ first.0 ∷ []) first.1 (all_asked asked) (answers ++ window.1.0 ∷ [])
        (served_one granted at at' lines lines' words asked answers calm talk turn stays id heard request rest items first.0 first.1 first.2 first.3 first.4 is_ask one
        window.0 window.1.0 window.1.1)
