-- How the login of a plain client ends: by the answer that grants it, behind which nothing else is asked, or by the one that rejects it.
use Rattle.std.proofs.Common.{◌≡◌, ◌≢◌, ◌∙◌, inl, inr, ℕ, ◌<◌, ◌≤◌, ◌++◌, not, nat_le, All, Bool, true, false, true≢false, cond, List, [], ◌∷◌, Some, None, append_assoc, is_some, length, min, refl, sym, ap, ap₂, subst, arith}
use Rattle.std.proofs.lemmas.Bool.Decides.{nat_tests}
use Rattle.std.proofs.lemmas.List.Elements.{All-head, All-nil}
use Rattle.vio_num.specs.declared.entry.Entry.{Entry}
use Rattle.srp_iu.specs.declared.login.LoginRsp.{LoginRsp}
use Rattle.srp_iu.specs.declared.unit.Iu.{Iu}
use Rattle.srp_iu.specs.declared.unit.Iu.TheVariants as units
use Rattle.tce_window.specs.PortState.{PortState}
use Rattle.block_server.specs.Talk.{MayAsk, talk_of, to_come}
use Rattle.block_server.specs.declared.unit.Unit.{Unit}
use Rattle.vscsi_client.specs.declared.outgoing.Outgoing.{Outgoing}
use Rattle.vscsi_client.specs.declared.stage.Stage.{Stage}
use Rattle.vscsi_client.specs.declared.stage.Stage.TheVariants.{Idle}
use Rattle.vcpu_run.specs.PlainTalk.{AreApart, CountsAsked, AreInOrder, ArePending, Ask, AskedParts, Between, HasAnswer, DataLies, HaveAnswers, IsAsk, IsTalking, IsAnswerBy, TagsRise, all_asked, grants_one, has_login, is_granted, is_login, is_logout, is_sent, login_name, StartsAt}
use Rattle.vcpu_run.proofs.PlainAsks.{all_parts, no_front}
use Rattle.vcpu_run.proofs.PlainLists.{answers_plain, granted_push, last_login, no_login}

-- ---- parts of lists

-- the answer that an entry tells of, and those before and behind it
pub record IsAmong (window : PortState) (kept : List Entry) (entry : Entry) (come : List Entry) (asked : List Ask) (answers : List Iu) : Type 0 where
  pub front : List Ask
  pub ask : Ask
  pub behind : List Ask
  pub before : List Iu
  pub answer : Iu
  pub later : List Iu
  pub asked_are : asked ≡ front ++ ask ∷ behind
  pub answers_are : answers ≡ before ++ answer ∷ later
  pub kept_are : HaveAnswers window kept front before
  pub has : HasAnswer window entry ask answer
  pub rest : HaveAnswers window come behind later

pub among : (window : PortState) (kept : List Entry) (entry : Entry) (come : List Entry) (asked : List Ask) (answers : List Iu) → HaveAnswers window (kept ++ entry ∷ come) asked answers
    → IsAmong window kept entry come asked answers
among window [] entry come [] answers have = absurd have
among window [] entry come (ask ∷ asked) [] have = absurd have
among window [] entry come (ask ∷ asked) (answer ∷ answers) have = record {
  front = [];
  ask = ask;
  behind = asked;
  before = [];
  answer = answer;
  later = answers;
  asked_are = refl;
  answers_are = refl;
  kept_are = tt;
  has = have.0;
  rest = have.1;
}
among window (first ∷ kept) entry come [] answers have = absurd have
among window (first ∷ kept) entry come (one ∷ asked) [] have = absurd have
among window (first ∷ kept) entry come (one ∷ asked) (said ∷ answers) have =
    let is = among window kept entry come asked answers have.1 in
    record {
      front = one ∷ is.front;
      ask = is.ask;
      behind = is.behind;
      before = said ∷ is.before;
      answer = is.answer;
      later = is.later;
      asked_are = ap (λ (list : List Ask). one ∷ list) is.asked_are;
      answers_are = ap (λ (list : List Iu). said ∷ list) is.answers_are;
      kept_are = (have.0, is.kept_are);
      has = is.has;
      rest = is.rest;
    }

pub has_login_mid : (front : List Ask) (ask : Ask) (more : List Ask) → is_login ask.iu ≡ true → has_login (front ++ ask ∷ more) ≡ true
has_login_mid [] ask more is = ap (λ b. cond b true (has_login more)) is
has_login_mid (first ∷ front) ask more is = ap (λ b. cond (is_login first.iu) true b) (has_login_mid front ask more is) ∙ always (is_login first.iu)
  where
    always : (b : Bool) → cond b true true ≡ true
    always true = refl
    always false = refl

pub apart_front_all : (front more : List Ask) → AreApart (front ++ more) → AreApart front
apart_front_all [] more apart = tt
apart_front_all (first ∷ front) more apart = ((all_parts (λ (other : Ask). first.slot ≢ other.slot) front more apart.0).0, apart_front_all front more apart.1)

pub rise_front : (last : ℕ) (front more : List Ask) → TagsRise last (front ++ more) → TagsRise last front
rise_front last [] more rise = tt
rise_front last (first ∷ front) more rise =
    (rise.0, (all_parts (λ (other : Ask). first.tag < other.tag) front more rise.1).0, rise_front last front more rise.2)

pub order_front : (front more : List Ask) → AreInOrder (front ++ more) → AreInOrder front
order_front [] more order = tt
order_front (first ∷ []) more order = tt
order_front (first ∷ next ∷ front) more order = (order.0, order.1, order.2, order_front (next ∷ front) more order.3)

no_names : (later : List Iu) (window : PortState) (come : List Entry) → HaveAnswers window come [] later → (come ≡ []) × (later ≡ [])
no_names [] window [] have = (refl, refl)
no_names (answer ∷ later) window [] have = absurd have
no_names later window (entry ∷ come) have = absurd have

at_least : (n : ℕ) → 1 ≤ n → nat_le 1 n ≡ true
at_least n less = grind (arith, nat_tests, less)

-- ---- the answer to a login is the last

-- What is so where an entry tells of the answer to the login.
pub record IsLast (at : Between) (asked : AskedParts) (come : List Entry) (front : List Ask) (ask : Ask) : Type 0 where
  pub answered : asked.answered ≡ front ++ ask ∷ []
  pub come_none : come ≡ []
  pub pending : asked.pending ≡ []
  pub coming : asked.coming ≡ []
  pub no_login : has_login front ≡ false
  pub on : nat_le 1 at.unit.logins.current ≡ true

pub last_is : (granted : ℕ) (at : Between) (asked : AskedParts) (answers : List Iu) (kept : List Entry) (entry : Entry) (come : List Entry) → IsTalking granted at [] asked answers
    → (is : IsAmong at.window kept entry come asked.answered answers) → is_login is.ask.iu ≡ true → IsLast at asked come is.front is.ask × (is.later ≡ [])
last_is granted at asked answers kept entry come talk is login = (
  record {
    answered = is.asked_are ∙ ap (λ (list : List Ask). is.front ++ is.ask ∷ list) none.0;
    come_none = ends.0;
    pending = rest.0;
    coming = rest.1;
    no_login = no_login is.front is.ask left order;
    on = at_least at.unit.logins.current (talk.login.on (ap has_login is.asked_are ∙ has_login_mid is.front is.ask is.behind login));
  },
  ends.1,
)
  where
    left : List Ask
    left = is.behind ++ (asked.pending ++ asked.coming)

    all_is : all_asked asked ≡ is.front ++ is.ask ∷ left
    all_is = ap (λ (list : List Ask). list ++ (asked.pending ++ asked.coming)) is.asked_are ∙ append_assoc is.front (is.ask ∷ is.behind) (asked.pending ++ asked.coming)

    order : AreInOrder (is.front ++ is.ask ∷ left)
    order = subst AreInOrder all_is talk.order

    none : (is.behind ≡ []) × (asked.pending ++ asked.coming ≡ [])
    none = no_front is.behind (asked.pending ++ asked.coming) (last_login is.front is.ask left order login)

    rest : (asked.pending ≡ []) × (asked.coming ≡ [])
    rest = no_front asked.pending asked.coming none.1

    ends : (come ≡ []) × (is.later ≡ [])
    ends = no_names is.later at.window come (subst (λ (list : List Ask). HaveAnswers at.window come list is.later) none.0 is.rest)

-- ---- it was granted

-- What that leaves as it was, and what the client then knows.
pub record EndsGranted (at at' : Between) (credits : ℕ) : Type 0 where
  pub unit : at'.unit ≡ at.unit
  pub registered : at'.own.registered ≡ at.own.registered
  pub come : to_come at'.own ≡ []
  pub handshake : at'.client.handshake ≡ at.client.handshake
  pub due : at'.client.due ≡ []
  pub held : at'.client.held ≡ None
  pub granted : at'.client.granted ≡ Some (min credits 200)
  pub outgoing : at'.client.outgoing ≡ []
  pub login : at'.client.login ≡ Idle
  pub kept : at'.client.kept ≡ []

pub granted_talk : (granted : ℕ) (at at' : Between) (asked : AskedParts) (answers : List Iu) (kept : List Entry) (entry : Entry) (come : List Entry) (response : LoginRsp)
    → IsTalking granted at [] asked answers → (is : IsAmong at.window kept entry come asked.answered answers) → is_login is.ask.iu ≡ true
    → is.answer ≡ units.LoginRsp response → EndsGranted at at' response.delta → IsTalking granted at' [] (record { answered = []; pending = []; coming = [] }) []
granted_talk granted at at' asked answers kept entry come response talk is login said ends = record {
  registered = ends.registered ∙ talk.registered;
  handshake = ends.handshake ∙ talk.handshake;
  up = ap (λ (u : Unit). u.line.handshake) ends.unit ∙ talk.up;
  due = ends.due;
  held = ends.held;
  each = All-nil IsAsk;
  slots = tt;
  tags = tt;
  order = tt;
  pending = subst (λ (u : Unit). ArePending u.pending.items []) (sym ends.unit) (subst (ArePending at.unit.pending.items) last.pending talk.pending);
  coming = refl;
  few = omega arith;
  may = All-nil (λ (one : Ask). MayAsk (talk_of at'.unit) one.iu);
  answered = subst (λ (list : List Entry). HaveAnswers at'.window list [] []) (sym (ap₂ (λ (kept come : List Entry). kept ++ come) ends.kept ends.come)) tt;
  awaited = sym (ap₂ (λ (outgoing : List Outgoing) (stage : Stage). outgoing ++ login_name stage) ends.outgoing ends.login);
  logouts = All-nil (λ (one : Ask). is_logout one.iu ≡ true → at'.client.logout ≡ Some one.slot);
  sent = sym (ap is_sent ends.login);
  stage = inl ends.login;
  none = λ none. ends.outgoing;
  within = subst (λ (list : List Outgoing). length list ≤ 200) (sym ends.outgoing) (omega arith);
  counts = subst (λ (u : Unit). CountsAsked u []) (sym ends.unit) (subst (CountsAsked at.unit) last.pending talk.counts);
  tables = All-nil (DataLies at'.window);
  starts = All-nil (StartsAt at'.client.rows);
  spared = tt;
  login = record {
    credits = inr (ends.granted ∙ ap (λ (n : ℕ). Some (min n 200)) grant);
    before = λ no'. ap is_some ends.granted ∙ sym last.on ∙ ap (λ (u : Unit). nat_le 1 u.logins.current) (sym ends.unit);
    on = λ has. absurd (true≢false (sym has));
    answer = λ has. absurd (true≢false (sym has));
    grant = All-nil (IsAnswerBy granted at'.unit.id at'.window);
  };
}
  where
    last : IsLast at asked come is.front is.ask
    last = (last_is granted at asked answers kept entry come talk is login).0

    grant : response.delta ≡ granted
    grant = subst (IsAnswerBy granted at.unit.id at.window) said (All-head (IsAnswerBy granted at.unit.id at.window) is.answer is.later
        (all_parts (IsAnswerBy granted at.unit.id at.window) is.before (is.answer ∷ is.later) (subst (All (IsAnswerBy granted at.unit.id at.window)) is.answers_are talk.login.grant)).1)

-- What an answer says that ends a login: what stands before it grants none.
pub record SaysLast (granted : ℕ) (at : Between) (asked : AskedParts) (answer : Iu) : Type 0 where
  pub known : is_some at.client.granted ≡ not (is_granted answer)
  pub says : IsAnswerBy granted at.unit.id at.window answer

pub says_last : (granted : ℕ) (at : Between) (asked : AskedParts) (answers : List Iu) (kept : List Entry) (entry : Entry) (come : List Entry) → IsTalking granted at [] asked answers
    → (is : IsAmong at.window kept entry come asked.answered answers) → is_login is.ask.iu ≡ true → SaysLast granted at asked is.answer
says_last granted at asked answers kept entry come talk is login = record {
  known = talk.login.answer (ap has_login last.answered ∙ has_login_mid is.front is.ask [] login) ∙ ap not one;
  says = All-head (IsAnswerBy granted at.unit.id at.window) is.answer is.later
      (all_parts (IsAnswerBy granted at.unit.id at.window) is.before (is.answer ∷ is.later) (subst (All (IsAnswerBy granted at.unit.id at.window)) is.answers_are talk.login.grant)).1;
}
  where
    parts : IsLast at asked come is.front is.ask × (is.later ≡ [])
    parts = last_is granted at asked answers kept entry come talk is login

    last : IsLast at asked come is.front is.ask
    last = parts.0

    one : grants_one answers ≡ is_granted is.answer
    one = ap grants_one (is.answers_are ∙ ap (λ (list : List Iu). is.before ++ is.answer ∷ list) parts.1)
        ∙ granted_push is.before is.answer (answers_plain at.window kept is.front is.before is.kept_are last.no_login)
