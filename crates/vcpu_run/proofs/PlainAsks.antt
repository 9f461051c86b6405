-- What a task or a command that a plain client sent leaves between it and its server unit.
use Rattle.std.proofs.Common.{◌≡◌, ◌≢◌, ◌∙◌, ◌⊎◌, inl, inr, ℕ, suc, ◌+◌, ◌<◌, ◌≤◌, ◌++◌, ◌&&◌, ◌||◌, ◌==◌, not, nat_le, All, Bool, true, false, true≢false, cond, List, [], ◌∷◌, Option, Some, None, append-nil, append_assoc, is_some, length, length-append, map, min, refl, sym, ap, ap₂, subst, arith}
use Rattle.std.proofs.lemmas.Bool.{eqb-false}
use Rattle.std.proofs.lemmas.Bool.Decides.{nat_tests}
use Rattle.std.proofs.lemmas.List.Elements.{All-cons, All-head, All-nil, All-push, All-tail, All-weaker}
use Rattle.srp_iu.specs.declared.unit.Iu.{Iu}
use Rattle.srp_iu.specs.declared.unit.Iu.TheVariants as units
use Rattle.tce_window.specs.PortState.{PortState}
use Rattle.vio_num.specs.declared.entry.Entry.{Entry}
use Rattle.block_server.specs.Talk.{MayAsk, Talk, Word, talk_of, to_come}
use Rattle.block_server.specs.declared.unit.Unit.{Unit}
use Rattle.vscsi_client.specs.Spans.{meets}
use Rattle.vscsi_client.specs.State.{is_asked}
use Rattle.vscsi_client.specs.declared.outgoing.Outgoing.{Outgoing}
use Rattle.vscsi_client.specs.declared.stage.Stage.{Stage}
use Rattle.vscsi_client.specs.declared.stage.Stage.TheVariants.{Idle}
use Rattle.vcpu_run.proofs.PlainData.{logout_none, named_all, no_data, spared_push}
use Rattle.vcpu_run.specs.PlainTalk.{AreApart, CountsAsked, AreInOrder, ArePending, AreSpared, Ask, AskedParts, Between, DataLies, HaveAnswers, IsAnswerTo, IsAsk, IsCalm, IsTalking, KeepsTables, KeepsSlots, TagsRise, all_asked, counted, has_login, has_logout, is_counted, is_login, is_logout, is_sent, login_name, name_of, names_of, on_behind, word_of, StartsAt}
use Rattle.vcpu_run.proofs.PlainLists.{counted_no_login, login_push, logout_no_login, logout_not_counted, on_out, rise_push}
use Rattle.vcpu_run.proofs.PlainServed.{all_kept, answers_move}
use Rattle.vcpu_run.proofs.PlainStarts.{KeepPlaces, starts_behind}
use Rattle.vcpu_run.proofs.PlainRejected.{says_move}

-- ---- lists

pub neither : (b c : Bool) → cond b true c ≡ false → (b ≡ false) × (c ≡ false)
neither true c e = absurd (true≢false e)
neither false c e = (refl, e)

order_push : (asked : List Ask) (ask : Ask) → AreInOrder asked → has_login asked ≡ false → has_logout asked ≡ false → is_logout ask.iu ≡ false → AreInOrder (asked ++ ask ∷ [])
order_push [] ask order login logout isnt = tt
order_push (first ∷ []) ask order login logout isnt = (
  (neither (is_login first.iu) false login).0,
  isnt,
  λ is. absurd (true≢false (sym is ∙ (neither (is_logout first.iu) false logout).0)),
  tt,
)
order_push (first ∷ next ∷ more) ask order login logout isnt = (
  order.0,
  order.1,
  order.2,
  order_push (next ∷ more) ask order.3 (neither (is_login first.iu) (has_login (next ∷ more)) login).1 (neither (is_logout first.iu) (has_logout (next ∷ more)) logout).1 isnt,
)

pub apart_push : (asked : List Ask) (ask : Ask) → AreApart asked → All (λ one. one.slot ≢ ask.slot) asked → AreApart (asked ++ ask ∷ [])
apart_push [] ask apart others = (All-nil (λ (other : Ask). ask.slot ≢ other.slot), tt)
apart_push (first ∷ asked) ask apart others = (
  All-push (λ (other : Ask). first.slot ≢ other.slot) asked ask apart.0 (All-head (λ (one : Ask). one.slot ≢ ask.slot) first asked others),
  apart_push asked ask apart.1 (All-tail (λ (one : Ask). one.slot ≢ ask.slot) first asked others),
)

pub names_push : (asked : List Ask) (ask : Ask) → is_logout ask.iu ≡ false → names_of (asked ++ ask ∷ []) ≡ names_of asked ++ name_of ask ∷ []
names_push [] ask isnt = ap (λ b. cond b [] (name_of ask ∷ [])) isnt
names_push (first ∷ asked) ask isnt = by (is_logout first.iu) (names_push asked ask isnt)
  where
    by : (b : Bool) → names_of (asked ++ ask ∷ []) ≡ names_of asked ++ name_of ask ∷ [] → cond b (names_of (asked ++ ask ∷ [])) (name_of first ∷ names_of (asked ++ ask ∷ []))
        ≡ cond b (names_of asked) (name_of first ∷ names_of asked) ++ name_of ask ∷ []
    by true rest = rest
    by false rest = ap (λ (names : List Outgoing). name_of first ∷ names) rest

on_none : (on : Bool) (asked : List Ask) → has_logout asked ≡ false → on_behind on asked ≡ on
on_none on [] none = refl
on_none on (first ∷ asked) none =
    let both = neither (is_logout first.iu) (has_logout asked) none in
    ap (λ b. cond (is_login first.iu) on (on_behind (cond b false on) asked)) both.0
    ∙ ap (λ b. cond (is_login first.iu) on b) (on_none on asked both.1) ∙ same (is_login first.iu)
  where
    same : (b : Bool) → cond b on on ≡ on
    same true = refl
    same false = refl

counted_names : (asked : List Ask) → counted asked ≤ length (names_of asked)
counted_names [] = omega arith
counted_names (first ∷ asked) = by (is_counted first.iu) refl (counted_names asked)
  where
    more : (b : Bool) → length (names_of asked) ≤ length (cond b (names_of asked) (name_of first ∷ names_of asked))
    more true = omega arith
    more false = omega arith

    by : (b : Bool) → is_counted first.iu ≡ b → counted asked ≤ length (names_of asked) → cond b 1 0 + counted asked ≤ length (names_of (first ∷ asked))
    by true e rest =
        let long : length (names_of (first ∷ asked)) ≡ suc (length (names_of asked)) =
        ap (λ c. length (cond c (names_of asked) (name_of first ∷ names_of asked))) (logout_not_counted first.iu e) in
        omega (arith, rest, long)
    by false e rest = omega (arith, rest, more (is_logout first.iu))

-- ---- what of these is so where a login is on and nothing else is under way

pub all_parts : {X : Type 0} (P : X → Type 0) (front rest : List X) → All P (front ++ rest) → All P front × All P rest
all_parts P [] rest all = (All-nil P, all)
all_parts P (first ∷ front) rest all =
    let parts = all_parts P front rest (All-tail P first (front ++ rest) all) in
    (All-cons P first front (All-head P first (front ++ rest) all) parts.0, parts.1)

pub login_parts : (front rest : List Ask) → has_login (front ++ rest) ≡ false → (has_login front ≡ false) × (has_login rest ≡ false)
login_parts [] rest none = (refl, none)
login_parts (first ∷ front) rest none =
    let both = neither (is_login first.iu) (has_login (front ++ rest)) none in
    let parts = login_parts front rest both.1 in
    (ap (λ b. cond b true (has_login front)) both.0 ∙ parts.0, parts.1)

logout_both : (front rest : List Ask) → has_logout front ≡ false → has_logout rest ≡ false → has_logout (front ++ rest) ≡ false
logout_both [] rest none also = also
logout_both (first ∷ front) rest none also =
    let both = neither (is_logout first.iu) (has_logout front) none in
    ap (λ b. cond b true (has_logout (front ++ rest))) both.0 ∙ logout_both front rest both.1 also

-- an answered one is no logout
pub answer_to : (asked answer : Iu) → IsAnswerTo asked answer → is_logout asked ≡ false
answer_to (units.LoginReq request) answer suits = refl
answer_to (units.TskMgmt task) answer suits = refl
answer_to (units.Cmd command) answer suits = refl
answer_to asked answer suits = absurd suits

answered_no_logout : (window : PortState) (entries : List Entry) (asked : List Ask) (answers : List Iu) → HaveAnswers window entries asked answers → has_logout asked ≡ false
answered_no_logout window [] [] [] have = refl
answered_no_logout window [] [] (answer ∷ answers) have = absurd have
answered_no_logout window [] (ask ∷ asked) answers have = absurd have
answered_no_logout window (entry ∷ entries) [] answers have = absurd have
answered_no_logout window (entry ∷ entries) (ask ∷ asked) [] have = absurd have
answered_no_logout window (entry ∷ entries) (ask ∷ asked) (answer ∷ answers) have =
    ap (λ b. cond b true (has_logout asked)) (answer_to ask.iu answer have.0.suits) ∙ answered_no_logout window entries asked answers have.1

-- where a login is on behind these, it was before, and none of them is a logout
on_then : (on : Bool) (asked : List Ask) → has_login asked ≡ false → on_behind on asked ≡ true → (on ≡ true) × (has_logout asked ≡ false)
on_then on [] none is = (is, refl)
on_then on (first ∷ asked) none is =
    let both = neither (is_login first.iu) (has_login asked) none in
    by (is_logout first.iu) (λ o. on_then o asked both.1)
    (sym (ap (λ b. cond b on (on_behind (cond (is_logout first.iu) false on) asked)) both.0) ∙ is)
  where
    by : (b : Bool) → ((o : Bool) → on_behind o asked ≡ true → (o ≡ true) × (has_logout asked ≡ false)) → on_behind (cond b false on) asked ≡ true
        → (on ≡ true) × (cond b true (has_logout asked) ≡ false)
    by true rest is = absurd (true≢false (sym (rest false is).0))
    by false rest is = rest on is

counted_rest : (front rest : List Ask) → counted rest ≤ counted (front ++ rest)
counted_rest [] rest = omega arith
counted_rest (first ∷ front) rest = omega (arith, counted_rest front rest)

-- none of these has a slot that no request has which the client awaits
pub free_outgoing : (outgoing : List Outgoing) (slot : ℕ) → is_asked outgoing slot ≡ false → All (λ (name : Outgoing). name.slot ≢ slot) outgoing
free_outgoing [] slot free = All-nil (λ (name : Outgoing). name.slot ≢ slot)
free_outgoing (o ∷ outgoing) slot free =
    let both = no_both (o.slot == slot) (is_asked outgoing slot) free in
    All-cons (λ (name : Outgoing). name.slot ≢ slot) o outgoing (eqb-false o.slot slot both.0)
    (free_outgoing outgoing slot both.1)
  where
    no_both : (b c : Bool) → (b || c) ≡ false → (b ≡ false) × (c ≡ false)
    no_both true c e = absurd (true≢false e)
    no_both false c e = (refl, e)

free_names : (asked : List Ask) (slot : ℕ) → has_logout asked ≡ false → All (λ (name : Outgoing). name.slot ≢ slot) (names_of asked) → All (λ one. one.slot ≢ slot) asked
free_names [] slot none all = All-nil (λ (one : Ask). one.slot ≢ slot)
free_names (first ∷ asked) slot none all =
    let both = neither (is_logout first.iu) (has_logout asked) none in
    let names : All (λ (name : Outgoing). name.slot ≢ slot) (name_of first ∷ names_of asked) =
    subst (λ b. All (λ (name : Outgoing). name.slot ≢ slot) (cond b (names_of asked) (name_of first ∷ names_of asked))) both.0 all in
    All-cons (λ (one : Ask). one.slot ≢ slot) first asked (All-head (λ (name : Outgoing). name.slot ≢ slot) (name_of first) (names_of asked) names)
    (free_names asked slot both.1 (All-tail (λ (name : Outgoing). name.slot ≢ slot) (name_of first) (names_of asked) names))

may_counted : (talk : Talk) (iu : Iu) → is_counted iu ≡ true → talk.taking ≡ true → talk.outstanding < talk.granted → MayAsk talk iu
may_counted talk (units.TskMgmt task) is taking few = (taking, few)
may_counted talk (units.Cmd command) is taking few = (taking, few)
may_counted talk iu is taking few = absurd (cc (is))

pub none_coming : (words : List Word) (coming : List Ask) → words ≡ [] → words ≡ map word_of coming → coming ≡ []
none_coming words [] none is = refl
none_coming words (ask ∷ coming) none is = absurd (cc (none, is))

-- What is so of what the client asked where a login is on, none is under way, and nothing is to come.
pub record IsOn (at : Between) (asked : AskedParts) : Type 0 where
  pub none : asked.coming ≡ []
  pub no_login : has_login (asked.answered ++ asked.pending) ≡ false
  pub no_logout : has_logout (asked.answered ++ asked.pending) ≡ false
  pub pending_none : has_logout asked.pending ≡ false
  pub answered_none : has_login asked.answered ≡ false
  pub on : nat_le 1 at.unit.logins.current ≡ true
  pub taking : at.unit.logins.taking ≡ true

pub is_on : (granted n : ℕ) (at : Between) (asked : AskedParts) (answers : List Iu) → IsTalking granted at [] asked answers → at.client.granted ≡ Some n → at.client.login ≡ Idle
    → IsOn at asked
is_on granted n at asked answers talk grants idle = record {
  none = none;
  no_login = no_login;
  no_logout = logout_both asked.answered asked.pending
      (answered_no_logout at.window (at.client.kept ++ to_come at.own) asked.answered answers talk.answered) on.1;
  pending_none = on.1;
  answered_none = parts.0;
  on = on.0;
  taking = talk.counts.taking ∙ ap (λ b. b && not (has_logout asked.pending)) on.0 ∙ ap (λ b. not b) on.1;
}
  where
    none : asked.coming ≡ []
    none = none_coming [] asked.coming refl talk.coming

    before : all_asked asked ≡ asked.answered ++ asked.pending
    before = ap (λ (list : List Ask). asked.answered ++ (asked.pending ++ list)) none ∙ ap (λ (list : List Ask). asked.answered ++ list) (append-nil asked.pending)

    no_login : has_login (asked.answered ++ asked.pending) ≡ false
    no_login = sym (ap has_login before) ∙ talk.sent ∙ ap is_sent idle

    parts : (has_login asked.answered ≡ false) × (has_login asked.pending ≡ false)
    parts = login_parts asked.answered asked.pending no_login

    on : (nat_le 1 at.unit.logins.current ≡ true) × (has_logout asked.pending ≡ false)
    on = on_then (nat_le 1 at.unit.logins.current) asked.pending parts.1
        (ap (on_behind (nat_le 1 at.unit.logins.current)) (sym (append-nil asked.pending))
        ∙ ap (λ (list : List Ask). on_behind (nat_le 1 at.unit.logins.current) (asked.pending ++ list)) (sym none)
        ∙ sym (talk.login.before parts.0) ∙ ap is_some grants)

-- ---- a step that sends a task or a command

-- What such a step leaves as it was, and what it takes for it: a login is on that grants one more, none is under way, and the slot is free.
pub record Sends (at at' : Between) (ask : Ask) : Type 0 where
  pub unit : at'.unit ≡ at.unit
  pub registered : at'.own.registered ≡ at.own.registered
  pub come : to_come at'.own ≡ to_come at.own
  pub keeps : KeepsSlots (λ slot. slot ≢ ask.slot) at.window at'.window
  pub tables : KeepsTables (λ other. meets other.table ask.table ≡ false) at.window at'.window
  pub spares : All (λ (o : Outgoing). (meets o.pages ask.table ≡ false) × (meets o.table ask.table ≡ false)) at.client.outgoing
  pub has : DataLies at'.window ask
  pub grants : (n : ℕ) × (at.client.granted ≡ Some n) × (length at.client.outgoing < n)
  pub idle : at.client.login ≡ Idle
  pub free : is_asked at.client.outgoing ask.slot ≡ false
  pub is_ask : IsAsk ask
  pub is_counted : is_counted ask.iu ≡ true
  pub next : ask.tag ≡ length at.client.rows + 1
  pub rows : length at'.client.rows ≡ length at.client.rows + 1
  pub places : KeepPlaces at.client.rows at'.client.rows
  pub starts : StartsAt at'.client.rows ask
  pub outgoing : at'.client.outgoing ≡ at.client.outgoing ++ name_of ask ∷ []
  pub handshake : at'.client.handshake ≡ at.client.handshake
  pub due : at'.client.due ≡ at.client.due
  pub held : at'.client.held ≡ at.client.held
  pub kept : at'.client.kept ≡ at.client.kept
  pub granted : at'.client.granted ≡ at.client.granted
  pub login : at'.client.login ≡ at.client.login
  pub logout : at'.client.logout ≡ at.client.logout
  pub tabled : at'.client.tabled ≡ None

-- what it asked is to come
pub sends_talk : (granted : ℕ) (at at' : Between) (asked : AskedParts) (answers : List Iu) (ask : Ask) → IsCalm granted at [] → IsTalking granted at [] asked answers
    → Sends at at' ask → IsTalking granted at' (word_of ask ∷ []) (record { answered = asked.answered; pending = asked.pending; coming = ask ∷ [] }) answers
sends_talk granted at at' asked answers ask calm talk sends = record {
  registered = sends.registered ∙ talk.registered;
  handshake = sends.handshake ∙ talk.handshake;
  up = ap (λ (u : Unit). u.line.handshake) sends.unit ∙ talk.up;
  due = sends.due ∙ talk.due;
  held = sends.held ∙ talk.held;
  each = subst (All IsAsk) (sym behind) (All-push IsAsk old ask (subst (All IsAsk) before talk.each) sends.is_ask);
  slots = subst AreApart (sym behind) (apart_push old ask (subst AreApart before talk.slots) (free_names old ask.slot is.no_logout free));
  tags = subst (λ (n : ℕ). TagsRise n (asked.answered ++ (asked.pending ++ ask ∷ []))) (sym sends.rows)
      (subst (TagsRise (length at.client.rows + 1)) (sym behind)
      (rise_push (length at.client.rows) old ask (subst (TagsRise (length at.client.rows)) before talk.tags) sends.next));
  order = subst AreInOrder (sym behind) (order_push old ask (subst AreInOrder before talk.order) is.no_login is.no_logout isnt_logout);
  pending = subst (λ (u : Unit). ArePending u.pending.items asked.pending) (sym sends.unit) talk.pending;
  coming = refl;
  few = omega arith;
  may = All-cons (λ (one : Ask). MayAsk (talk_of at'.unit) one.iu) ask [] (subst (λ (u : Unit). MayAsk (talk_of u) ask.iu) (sym sends.unit) may)
      (All-nil (λ (one : Ask). MayAsk (talk_of at'.unit) one.iu));
  answered = subst (λ (list : List Entry). HaveAnswers at'.window list asked.answered answers) (sym (ap₂ (λ (kept come : List Entry). kept ++ come) sends.kept sends.come))
      (answers_move at.window at'.window (λ slot. slot ≢ ask.slot) sends.keeps (at.client.kept ++ to_come at.own) asked.answered answers
      (all_parts (λ (one : Ask). one.slot ≢ ask.slot) asked.answered asked.pending (free_names old ask.slot is.no_logout free)).0
      (all_parts IsAsk asked.answered asked.pending (subst (All IsAsk) before talk.each)).0 talk.answered);
  awaited = ap names_of behind ∙ names_push old ask isnt_logout ∙ ap (λ (names : List Outgoing). names ++ name_of ask ∷ []) names
      ∙ sym sends.outgoing ∙ sym (append-nil at'.client.outgoing)
      ∙ ap (λ (stage : Stage). at'.client.outgoing ++ login_name stage) (sym (sends.login ∙ sends.idle));
  logouts = subst (λ (logout : Option ℕ). All (λ one. is_logout one.iu ≡ true → logout ≡ Some one.slot) (asked.answered ++ (asked.pending ++ ask ∷ []))) (sym sends.logout)
      (subst (All (λ one. is_logout one.iu ≡ true → at.client.logout ≡ Some one.slot)) (sym behind)
      (All-push (λ (one : Ask). is_logout one.iu ≡ true → at.client.logout ≡ Some one.slot) old ask
      (subst (All (λ one. is_logout one.iu ≡ true → at.client.logout ≡ Some one.slot)) before talk.logouts)
      (λ logout. absurd (true≢false (sym logout ∙ isnt_logout)))));
  sent = ap has_login behind ∙ login_push old ask is.no_login ∙ counted_no_login ask.iu sends.is_counted ∙ sym (ap is_sent (sends.login ∙ sends.idle));
  stage = inl (sends.login ∙ sends.idle);
  none = λ none. absurd (no_grant (sym none ∙ sends.granted ∙ sends.grants.1));
  within = subst (λ (list : List Outgoing). length list ≤ 200) (sym sends.outgoing) (omega (arith, length-append at.client.outgoing (name_of ask ∷ []), within));
  counts = subst (λ (u : Unit). CountsAsked u asked.pending) (sym sends.unit) talk.counts;
  tables = All-push (DataLies at'.window) asked.pending ask
      (all_kept at.window at'.window (λ other. meets other.table ask.table ≡ false) sends.tables asked.pending
      (All-weaker Spares (λ other. meets other.table ask.table ≡ false) (λ other both. both.1) asked.pending spares) (subst (All (DataLies at.window)) pending talk.tables)) sends.has;
  starts = All-push (StartsAt at'.client.rows) asked.pending ask
      (starts_behind at.client.rows at'.client.rows sends.places asked.answered asked.pending (subst (TagsRise (length at.client.rows)) before talk.tags)
      (subst (All (StartsAt at.client.rows)) pending talk.starts)) sends.starts;
  spared = spared_push asked.pending ask (subst AreSpared pending talk.spared)
      (All-weaker Spares (λ other. meets other.pages ask.table ≡ false) (λ other both. both.0) asked.pending spares);
  login = record {
    credits = subst (λ (known : Option ℕ). (known ≡ None) ⊎ (known ≡ Some (min granted 200))) (sym sends.granted) talk.login.credits;
    before = λ no. ap is_some (sends.granted ∙ sends.grants.1) ∙ sym (on_none (nat_le 1 at'.unit.logins.current) (asked.pending ++ ask ∷ []) pending_push_no ∙ on');
    on = λ has. absurd (true≢false (sym has ∙ is.answered_none));
    answer = λ has. absurd (true≢false (sym has ∙ is.answered_none));
    grant = says_move granted at.unit.id at'.unit.id at.window at'.window (ap (λ (u : Unit). u.id) sends.unit) sends.keeps.unit sends.keeps.strokes answers talk.login.grant;
  };
}
  where
    old : List Ask
    old = asked.answered ++ asked.pending

    no_grant : {n : ℕ} → None ≡ Some n → ⊥
    no_grant e = cc (e)

    is : IsOn at asked
    is = is_on granted sends.grants.0 at asked answers talk sends.grants.1 sends.idle

    before : all_asked asked ≡ old
    before = ap (λ (list : List Ask). asked.answered ++ (asked.pending ++ list)) is.none ∙ ap (λ (list : List Ask). asked.answered ++ list) (append-nil asked.pending)

    behind : asked.answered ++ (asked.pending ++ ask ∷ []) ≡ old ++ ask ∷ []
    behind = sym (append_assoc asked.answered asked.pending (ask ∷ []))

    isnt_logout : is_logout ask.iu ≡ false
    isnt_logout = logout_not_counted ask.iu sends.is_counted

    on' : nat_le 1 at'.unit.logins.current ≡ true
    on' = ap (λ (u : Unit). nat_le 1 u.logins.current) sends.unit ∙ is.on

    pending_push_no : has_logout (asked.pending ++ ask ∷ []) ≡ false
    pending_push_no = logout_both asked.pending (ask ∷ []) is.pending_none (ap (λ b. cond b true false) isnt_logout)

    names : names_of old ≡ at.client.outgoing
    names = sym (ap names_of before) ∙ talk.awaited ∙ ap (λ (stage : Stage). at.client.outgoing ++ login_name stage) sends.idle
        ∙ append-nil at.client.outgoing

    pending : asked.pending ++ asked.coming ≡ asked.pending
    pending = ap (λ (list : List Ask). asked.pending ++ list) is.none ∙ append-nil asked.pending

    Spares : Ask → Type 0
    Spares other = (meets other.pages ask.table ≡ false) × (meets other.table ask.table ≡ false)

    spares : All Spares asked.pending
    spares = (all_parts Spares asked.answered asked.pending
        (named_all (λ (o : Outgoing). (meets o.pages ask.table ≡ false) × (meets o.table ask.table ≡ false)) old is.no_logout
        (subst (All (λ (o : Outgoing). (meets o.pages ask.table ≡ false) × (meets o.table ask.table ≡ false))) (sym names) sends.spares))).1

    free : All (λ (name : Outgoing). name.slot ≢ ask.slot) (names_of old)
    free = subst (All (λ (name : Outgoing). name.slot ≢ ask.slot)) (sym names) (free_outgoing at.client.outgoing ask.slot sends.free)

    -- the login grants one more
    n : ℕ
    n = sends.grants.0

    n_is : n ≡ min granted 200
    n_is = by talk.login.credits
      where
        by : (at.client.granted ≡ None) ⊎ (at.client.granted ≡ Some (min granted 200)) → n ≡ min granted 200
        by (inl isnt) = absurd (no_grant (sym isnt ∙ sends.grants.1))
        by (inr some) = cc (sends.grants.1, some)

    within : length at.client.outgoing < 200
    within = omega (arith, sends.grants.2, n_is)

    some : 1 ≤ at.unit.logins.current
    some = grind (arith, nat_tests, is.on)

    few : at.unit.logins.target.outstanding < at.unit.logins.granted
    few = omega (
      arith,
      talk.counts.outstanding some,
      counted_rest asked.answered asked.pending,
      counted_names old,
      ap length names,
      sends.grants.2,
      n_is,
      calm.grants,
    )

    may : MayAsk (talk_of at.unit) ask.iu
    may = may_counted (talk_of at.unit) ask.iu sends.is_counted is.taking few

-- ---- a step that sends a logout

-- those without a name are logouts
no_names : (asked : List Ask) → names_of asked ≡ [] → has_logout asked ≡ false → asked ≡ []
no_names [] empty none = refl
no_names (first ∷ asked) empty none =
    let both = neither (is_logout first.iu) (has_logout asked) none in
    absurd (no_items (sym (ap (λ b. cond b (names_of asked) (name_of first ∷ names_of asked)) both.0) ∙ empty))
  where
    no_items : name_of first ∷ names_of asked ≡ [] → ⊥
    no_items e = cc (e)

pub no_front : (front rest : List Ask) → front ++ rest ≡ [] → (front ≡ []) × (rest ≡ [])
no_front [] rest empty = (refl, empty)
no_front (first ∷ front) rest empty = absurd (no_items empty)
  where
    no_items : first ∷ (front ++ rest) ≡ [] → ⊥
    no_items e = cc (e)

-- What such a step leaves as it was, and what it takes for it: a login is on, none is under way, and nothing is outstanding.
pub record SendsOut (at at' : Between) (ask : Ask) : Type 0 where
  pub unit : at'.unit ≡ at.unit
  pub registered : at'.own.registered ≡ at.own.registered
  pub come : to_come at'.own ≡ to_come at.own
  pub keeps : KeepsSlots (λ slot. slot ≢ ask.slot) at.window at'.window
  pub grants : (n : ℕ) × (at.client.granted ≡ Some n)
  pub idle : at.client.login ≡ Idle
  pub none : at.client.outgoing ≡ []
  pub is_ask : IsAsk ask
  pub is_out : is_logout ask.iu ≡ true
  pub next : ask.tag ≡ length at.client.rows + 1
  pub rows : length at'.client.rows ≡ length at.client.rows + 1
  pub starts : StartsAt at'.client.rows ask
  pub handshake : at'.client.handshake ≡ at.client.handshake
  pub due : at'.client.due ≡ at.client.due
  pub held : at'.client.held ≡ at.client.held
  pub kept : at'.client.kept ≡ at.client.kept
  pub login : at'.client.login ≡ at.client.login
  pub outgoing : at'.client.outgoing ≡ at.client.outgoing
  pub granted : at'.client.granted ≡ None
  pub logout : at'.client.logout ≡ Some ask.slot
  pub tabled : at'.client.tabled ≡ at.client.tabled

-- a unit accepts a logout under a login that takes requests
may_out : (talk : Talk) (iu : Iu) → is_logout iu ≡ true → talk.taking ≡ true → MayAsk talk iu
may_out talk (units.ILogout tag) is taking = taking
may_out talk (units.LoginReq request) is taking = absurd (cc (is))
may_out talk (units.TskMgmt task) is taking = absurd (cc (is))
may_out talk (units.Cmd command) is taking = absurd (cc (is))
may_out talk iu is taking = absurd (cc (is))

-- the logout alone is to come, and nothing is pending
pub logs_out : (granted : ℕ) (at at' : Between) (asked : AskedParts) (answers : List Iu) (ask : Ask) → IsTalking granted at [] asked answers → SendsOut at at' ask
    → IsTalking granted at' (word_of ask ∷ []) (record { answered = []; pending = []; coming = ask ∷ [] }) answers
logs_out granted at at' asked answers ask talk sends = record {
  registered = sends.registered ∙ talk.registered;
  handshake = sends.handshake ∙ talk.handshake;
  up = ap (λ (u : Unit). u.line.handshake) sends.unit ∙ talk.up;
  due = sends.due ∙ talk.due;
  held = sends.held ∙ talk.held;
  each = All-cons IsAsk ask [] sends.is_ask (All-nil IsAsk);
  slots = (All-nil (λ (other : Ask). ask.slot ≢ other.slot), tt);
  tags = (omega (arith, sends.next, sends.rows), All-nil (λ (other : Ask). ask.tag < other.tag), tt);
  order = tt;
  pending = subst (λ (u : Unit). ArePending u.pending.items []) (sym sends.unit) (subst (ArePending at.unit.pending.items) empty.1 talk.pending);
  coming = refl;
  few = omega arith;
  may = All-cons (λ (one : Ask). MayAsk (talk_of at'.unit) one.iu) ask [] (subst (λ (u : Unit). MayAsk (talk_of u) ask.iu) (sym sends.unit) (may_out (talk_of at.unit) ask.iu sends.is_out is.taking))
      (All-nil (λ (one : Ask). MayAsk (talk_of at'.unit) one.iu));
  answered = subst (λ (list : List Entry). HaveAnswers at'.window list [] answers) (sym (ap₂ (λ (kept come : List Entry). kept ++ come) sends.kept sends.come))
      (answers_move at.window at'.window (λ slot. slot ≢ ask.slot) sends.keeps (at.client.kept ++ to_come at.own) [] answers
      (All-nil (λ (one : Ask). one.slot ≢ ask.slot)) (All-nil IsAsk)
      (subst (λ (list : List Ask). HaveAnswers at.window (at.client.kept ++ to_come at.own) list answers) empty.0 talk.answered));
  awaited = ap (λ b. cond b [] (name_of ask ∷ [])) sends.is_out
      ∙ sym (ap₂ (λ (outgoing : List Outgoing) (stage : Stage). outgoing ++ login_name stage) (sends.outgoing ∙ sends.none)
      (sends.login ∙ sends.idle));
  logouts = All-cons (λ (one : Ask). is_logout one.iu ≡ true → at'.client.logout ≡ Some one.slot) ask [] (λ logout. sends.logout)
      (All-nil (λ (one : Ask). is_logout one.iu ≡ true → at'.client.logout ≡ Some one.slot));
  sent = ap (λ b. cond b true false) (logout_no_login ask.iu sends.is_out) ∙ sym (ap is_sent (sends.login ∙ sends.idle));
  stage = inl (sends.login ∙ sends.idle);
  none = λ none. sends.outgoing ∙ sends.none;
  within = subst (λ (list : List Outgoing). length list ≤ 200) (sym (sends.outgoing ∙ sends.none)) (omega arith);
  counts = subst (λ (u : Unit). CountsAsked u []) (sym sends.unit) (subst (CountsAsked at.unit) empty.1 talk.counts);
  tables = All-cons (DataLies at'.window) ask [] (no_data at'.window ask (logout_none ask.iu sends.is_out)) (All-nil (DataLies at'.window));
  starts = All-cons (StartsAt at'.client.rows) ask [] sends.starts (All-nil (StartsAt at'.client.rows));
  spared = (All-nil (λ (other : Ask). meets ask.pages other.table ≡ false), tt);
  login = record {
    credits = inl sends.granted;
    before = λ no. ap is_some sends.granted ∙ sym (on_out (nat_le 1 at'.unit.logins.current) ask [] sends.is_out);
    on = λ has. absurd (true≢false (sym has));
    answer = λ has. absurd (true≢false (sym has));
    grant = says_move granted at.unit.id at'.unit.id at.window at'.window (ap (λ (u : Unit). u.id) sends.unit) sends.keeps.unit sends.keeps.strokes answers talk.login.grant;
  };
}
  where
    is : IsOn at asked
    is = is_on granted sends.grants.0 at asked answers talk sends.grants.1 sends.idle

    before : all_asked asked ≡ asked.answered ++ asked.pending
    before = ap (λ (list : List Ask). asked.answered ++ (asked.pending ++ list)) is.none ∙ ap (λ (list : List Ask). asked.answered ++ list) (append-nil asked.pending)

    names : names_of (asked.answered ++ asked.pending) ≡ []
    names = sym (ap names_of before) ∙ talk.awaited
        ∙ ap₂ (λ (outgoing : List Outgoing) (stage : Stage). outgoing ++ login_name stage) sends.none sends.idle

    empty : (asked.answered ≡ []) × (asked.pending ≡ [])
    empty = no_front asked.answered asked.pending (no_names (asked.answered ++ asked.pending) names is.no_logout)
