-- What a login that a plain client sent leaves between it and its server unit.
use Rattle.std.proofs.Common.{◌≡◌, ◌≢◌, ◌∙◌, ◌⊎◌, inl, inr, ℕ, ◌+◌, ◌≤◌, ◌++◌, ◌||◌, nat_le, All, Bool, true, false, true≢false, cond, List, [], ◌∷◌, Option, Some, None, append-nil, append_assoc, is_some, length, min, refl, sym, ap, ap₂, subst, arith}
use Rattle.std.specs.Prelude.{⊤}
use Rattle.std.proofs.lemmas.Bool.{eqb-false}
use Rattle.std.proofs.lemmas.List.Elements.{All-cons, All-head, All-nil, All-push, All-tail}
use Rattle.srp_iu.specs.declared.unit.Iu.{Iu}
use Rattle.srp_iu.specs.declared.unit.Iu.TheVariants as units
use Rattle.vio_num.specs.declared.entry.Entry.{Entry}
use Rattle.block_server.specs.Talk.{MayAsk, Talk, talk_of, to_come}
use Rattle.block_server.specs.declared.unit.Unit.{Unit}
use Rattle.vscsi_client.specs.Spans.{meets, no_pages}
use Rattle.vscsi_client.specs.State.{ClientState, is_asked, is_slot, is_used, stage_uses}
use Rattle.vscsi_client.specs.declared.TheConstants.{SLOTS}
use Rattle.vscsi_client.specs.declared.outgoing.Outgoing.{Outgoing}
use Rattle.vscsi_client.specs.declared.outgoing.Span.{Span}
use Rattle.vscsi_client.specs.declared.stage.Stage.{Stage}
use Rattle.vscsi_client.specs.declared.stage.Stage.TheVariants.{Idle, Sent}
use Rattle.vcpu_run.proofs.PlainData.{login_none, meets_none, no_data, spared_push}
use Rattle.vcpu_run.specs.PlainTalk.{AreApart, CountsAsked, AreInOrder, ArePending, AreSpared, Ask, AskedParts, Between, DataLies, HaveAnswers, IsAsk, IsTalking, KeepsTables, KeepsSlots, TagsRise, all_asked, has_login, is_login, is_logout, is_sent, login_name, name_of, names_of, on_behind, word_of, StartsAt}
use Rattle.vcpu_run.proofs.PlainAsks.{all_parts, apart_push, free_outgoing, login_parts, names_push, neither, none_coming}
use Rattle.vcpu_run.proofs.PlainLists.{login_no_logout, login_push, rise_push}
use Rattle.vcpu_run.proofs.PlainServed.{all_kept, all_spared, answers_move}
use Rattle.vcpu_run.proofs.PlainStarts.{KeepPlaces, starts_behind}
use Rattle.vcpu_run.proofs.PlainRejected.{says_move}

-- ---- lists

-- a login may stand behind all
order_login : (asked : List Ask) (ask : Ask) → AreInOrder asked → has_login asked ≡ false → is_login ask.iu ≡ true → AreInOrder (asked ++ ask ∷ [])
order_login [] ask order none is = tt
order_login (first ∷ []) ask order none is = ((neither (is_login first.iu) false none).0, login_no_logout ask.iu is, λ logout. is, tt)
order_login (first ∷ next ∷ more) ask order none is =
    (order.0, order.1, order.2, order_login (next ∷ more) ask order.3 (neither (is_login first.iu) (has_login (next ∷ more)) none).1 is)

-- and leaves what is on before it
on_login_push : (on : Bool) (asked : List Ask) (ask : Ask) → is_login ask.iu ≡ true → on_behind on (asked ++ ask ∷ []) ≡ on_behind on asked
on_login_push on [] ask is = ap (λ b. cond b on (cond (is_logout ask.iu) false on)) is
on_login_push on (first ∷ asked) ask is =
    ap (λ b. cond (is_login first.iu) on b) (on_login_push (cond (is_logout first.iu) false on) asked ask is)

may_login : (talk : Talk) (iu : Iu) → is_login iu ≡ true → MayAsk talk iu
may_login talk (units.LoginReq request) is = tt
may_login talk iu isnt = absurd (cc (isnt))

-- A slot is free that a login may have: none that is used, or the place behind all.
abbrev pub IsFreeFor : ClientState → (slot : ℕ) → Type 0
IsFreeFor s slot = (is_used s slot ≡ false) ⊎ (slot ≡ SLOTS)

-- none of what the client asked has it
pub free_asks : (s : ClientState) (slot : ℕ) (asked : List Ask) (names : List Outgoing) → names_of asked ≡ names → IsFreeFor s slot → All IsAsk asked → has_login asked ≡ false
    → All (λ ask. is_logout ask.iu ≡ true → s.logout ≡ Some ask.slot) asked → (is_used s slot ≡ false → All (λ (name : Outgoing). name.slot ≢ slot) names)
    → All (λ one. one.slot ≢ slot) asked
free_asks s slot [] names is free each none logouts apart = All-nil (λ (one : Ask). one.slot ≢ slot)
free_asks s slot (first ∷ asked) names is free each none logouts apart =
    All-cons (λ (one : Ask). one.slot ≢ slot) first asked (by free)
    (free_asks s slot asked (names_of asked) refl free (All-tail IsAsk first asked each) both.1
    (All-tail (λ (ask : Ask). is_logout ask.iu ≡ true → s.logout ≡ Some ask.slot) first asked logouts) (λ unused. rest (is_logout first.iu) refl (whole unused)))
  where
    both : (is_login first.iu ≡ false) × (has_login asked ≡ false)
    both = neither (is_login first.iu) (has_login asked) none

    whole : is_used s slot ≡ false → All (λ (name : Outgoing). name.slot ≢ slot) (names_of (first ∷ asked))
    whole unused = subst (All (λ (name : Outgoing). name.slot ≢ slot)) (sym is) (apart unused)

    rest : (b : Bool) → is_logout first.iu ≡ b → All (λ (name : Outgoing). name.slot ≢ slot) (cond b (names_of asked) (name_of first ∷ names_of asked))
        → All (λ (name : Outgoing). name.slot ≢ slot) (names_of asked)
    rest true e all = all
    rest false e all = All-tail (λ (name : Outgoing). name.slot ≢ slot) (name_of first) (names_of asked) all

    last_false : (a b c : Bool) → (a || (b || c)) ≡ false → c ≡ false
    last_false true b c e = absurd (true≢false e)
    last_false false true c e = absurd (true≢false e)
    last_false false false c e = e

    one : is_used s slot ≡ false → (b : Bool) → is_logout first.iu ≡ b → All (λ (name : Outgoing). name.slot ≢ slot) (cond b (names_of asked) (name_of first ∷ names_of asked))
        → first.slot ≢ slot
    one unused true logout all =
        let has : s.logout ≡ Some first.slot = All-head (λ (ask : Ask). is_logout ask.iu ≡ true → s.logout ≡ Some ask.slot) first asked logouts logout in
        eqb-false first.slot slot
        (sym (ap (λ (l : Option ℕ). is_slot l slot) has) ∙ last_false (is_asked s.outgoing slot) (stage_uses s.login slot) (is_slot s.logout slot) unused)
    one unused false isnt all = All-head (λ (name : Outgoing). name.slot ≢ slot) (name_of first) (names_of asked) all

    by : IsFreeFor s slot → first.slot ≢ slot
    by (inl unused) = one unused (is_logout first.iu) refl (whole unused)
    by (inr behind) = λ same. absurd (omega (arith, (All-head IsAsk first asked each).below both.0, same, behind))

-- ---- a step that sends a login

-- What such a step leaves as it was, and what it takes for it: no login is under way, and the slot is free.
pub record SendsLogin (at at' : Between) (ask : Ask) : Type 0 where
  pub unit : at'.unit ≡ at.unit
  pub registered : at'.own.registered ≡ at.own.registered
  pub come : to_come at'.own ≡ to_come at.own
  pub keeps : KeepsSlots (λ slot. slot ≢ ask.slot) at.window at'.window
  pub tables : KeepsTables (λ other. ⊤) at.window at'.window
  pub idle : at.client.login ≡ Idle
  pub free : IsFreeFor at.client ask.slot
  pub is_ask : IsAsk ask
  pub is_login : is_login ask.iu ≡ true
  pub none : (ask.pages ≡ no_pages) × (ask.table ≡ no_pages)
  pub next : ask.tag ≡ length at.client.rows + 1
  pub rows : length at'.client.rows ≡ length at.client.rows + 1
  pub places : KeepPlaces at.client.rows at'.client.rows
  pub starts : StartsAt at'.client.rows ask
  pub login : at'.client.login ≡ Sent ask.tag ask.slot
  pub handshake : at'.client.handshake ≡ at.client.handshake
  pub due : at'.client.due ≡ at.client.due
  pub held : at'.client.held ≡ at.client.held
  pub kept : at'.client.kept ≡ at.client.kept
  pub outgoing : at'.client.outgoing ≡ at.client.outgoing
  pub granted : at'.client.granted ≡ at.client.granted
  pub logout : at'.client.logout ≡ at.client.logout

-- the login is to come
pub logs_in : (granted : ℕ) (at at' : Between) (asked : AskedParts) (answers : List Iu) (ask : Ask) → IsTalking granted at [] asked answers → SendsLogin at at' ask
    → IsTalking granted at' (word_of ask ∷ []) (record { answered = asked.answered; pending = asked.pending; coming = ask ∷ [] }) answers
logs_in granted at at' asked answers ask talk sends = record {
  registered = sends.registered ∙ talk.registered;
  handshake = sends.handshake ∙ talk.handshake;
  up = ap (λ (u : Unit). u.line.handshake) sends.unit ∙ talk.up;
  due = sends.due ∙ talk.due;
  held = sends.held ∙ talk.held;
  each = subst (All IsAsk) (sym behind) (All-push IsAsk old ask each sends.is_ask);
  slots = subst AreApart (sym behind) (apart_push old ask (subst AreApart before talk.slots) free);
  tags = subst (λ (n : ℕ). TagsRise n (asked.answered ++ (asked.pending ++ ask ∷ []))) (sym sends.rows)
      (subst (TagsRise (length at.client.rows + 1)) (sym behind)
      (rise_push (length at.client.rows) old ask (subst (TagsRise (length at.client.rows)) before talk.tags) sends.next));
  order = subst AreInOrder (sym behind) (order_login old ask (subst AreInOrder before talk.order) no_login sends.is_login);
  pending = subst (λ (u : Unit). ArePending u.pending.items asked.pending) (sym sends.unit) talk.pending;
  coming = refl;
  few = omega arith;
  may = All-cons (λ (one : Ask). MayAsk (talk_of at'.unit) one.iu) ask [] (may_login (talk_of at'.unit) ask.iu sends.is_login)
      (All-nil (λ (one : Ask). MayAsk (talk_of at'.unit) one.iu));
  answered = subst (λ (list : List Entry). HaveAnswers at'.window list asked.answered answers) (sym (ap₂ (λ (kept come : List Entry). kept ++ come) sends.kept sends.come))
      (answers_move at.window at'.window (λ slot. slot ≢ ask.slot) sends.keeps (at.client.kept ++ to_come at.own) asked.answered answers
      (all_parts (λ (one : Ask). one.slot ≢ ask.slot) asked.answered asked.pending free).0 (all_parts IsAsk asked.answered asked.pending each).0 talk.answered);
  awaited = ap names_of behind ∙ names_push old ask isnt_logout ∙ ap (λ (names : List Outgoing). names ++ name_of ask ∷ []) names
      ∙ ap₂ (λ (pages table : Span). at.client.outgoing ++ record { tag = ask.tag; slot = ask.slot; pages = pages; table = table } ∷ []) sends.none.0 sends.none.1
      ∙ ap₂ (λ (outgoing : List Outgoing) (stage : Stage). outgoing ++ login_name stage) (sym sends.outgoing) (sym sends.login);
  logouts = subst (λ (logout : Option ℕ). All (λ one. is_logout one.iu ≡ true → logout ≡ Some one.slot) (asked.answered ++ (asked.pending ++ ask ∷ []))) (sym sends.logout)
      (subst (All (λ one. is_logout one.iu ≡ true → at.client.logout ≡ Some one.slot)) (sym behind)
      (All-push (λ (one : Ask). is_logout one.iu ≡ true → at.client.logout ≡ Some one.slot) old ask logouts (λ logout. absurd (true≢false (sym logout ∙ isnt_logout)))));
  sent = ap has_login behind ∙ login_push old ask no_login ∙ sends.is_login ∙ sym (ap is_sent sends.login);
  stage = inr (ap is_sent sends.login);
  none = λ none. sends.outgoing ∙ talk.none (sym sends.granted ∙ none);
  within = subst (λ (list : List Outgoing). length list ≤ 200) (sym sends.outgoing) talk.within;
  counts = subst (λ (u : Unit). CountsAsked u asked.pending) (sym sends.unit) talk.counts;
  tables = All-push (DataLies at'.window) asked.pending ask
      (all_kept at.window at'.window (λ other. ⊤) sends.tables asked.pending (all_spared asked.pending) (subst (All (DataLies at.window)) pending talk.tables))
      (no_data at'.window ask (login_none ask.iu sends.is_login));
  starts = All-push (StartsAt at'.client.rows) asked.pending ask
      (starts_behind at.client.rows at'.client.rows sends.places asked.answered asked.pending (subst (TagsRise (length at.client.rows)) before talk.tags)
      (subst (All (StartsAt at.client.rows)) pending talk.starts)) sends.starts;
  spared = spared_push asked.pending ask (subst AreSpared pending talk.spared) (all_clear asked.pending);
  login = record {
    credits = subst (λ (known : Option ℕ). (known ≡ None) ⊎ (known ≡ Some (min granted 200))) (sym sends.granted) talk.login.credits;
    before = λ no'. ap is_some sends.granted ∙ talk.login.before no'
        ∙ ap (λ (list : List Ask). on_behind (nat_le 1 at.unit.logins.current) (asked.pending ++ list)) none
        ∙ ap (on_behind (nat_le 1 at.unit.logins.current)) (append-nil asked.pending)
        ∙ sym (on_login_push (nat_le 1 at.unit.logins.current) asked.pending ask sends.is_login)
        ∙ ap (λ (u : Unit). on_behind (nat_le 1 u.logins.current) (asked.pending ++ ask ∷ [])) (sym sends.unit);
    on = λ has. absurd (true≢false (sym has ∙ answered_none));
    answer = λ has. absurd (true≢false (sym has ∙ answered_none));
    grant = says_move granted at.unit.id at'.unit.id at.window at'.window (ap (λ (u : Unit). u.id) sends.unit) sends.keeps.unit sends.keeps.strokes answers talk.login.grant;
  };
}
  where
    old : List Ask
    old = asked.answered ++ asked.pending

    none : asked.coming ≡ []
    none = none_coming [] asked.coming refl talk.coming

    before : all_asked asked ≡ old
    before = ap (λ (list : List Ask). asked.answered ++ (asked.pending ++ list)) none ∙ ap (λ (list : List Ask). asked.answered ++ list) (append-nil asked.pending)

    behind : asked.answered ++ (asked.pending ++ ask ∷ []) ≡ old ++ ask ∷ []
    behind = sym (append_assoc asked.answered asked.pending (ask ∷ []))

    pending : asked.pending ++ asked.coming ≡ asked.pending
    pending = ap (λ (list : List Ask). asked.pending ++ list) none ∙ append-nil asked.pending

    all_clear : (list : List Ask) → All (λ other. meets other.pages ask.table ≡ false) list
    all_clear [] = All-nil (λ (other : Ask). meets other.pages ask.table ≡ false)
    all_clear (first ∷ list) =
        All-cons (λ (other : Ask). meets other.pages ask.table ≡ false) first list (subst (λ (span : Span). meets first.pages span ≡ false) (sym sends.none.1) (meets_none first.pages))
        (all_clear list)

    each : All IsAsk old
    each = subst (All IsAsk) before talk.each

    no_login : has_login old ≡ false
    no_login = sym (ap has_login before) ∙ talk.sent ∙ ap is_sent sends.idle

    answered_none : has_login asked.answered ≡ false
    answered_none = (login_parts asked.answered asked.pending no_login).0

    isnt_logout : is_logout ask.iu ≡ false
    isnt_logout = login_no_logout ask.iu sends.is_login

    logouts : All (λ one. is_logout one.iu ≡ true → at.client.logout ≡ Some one.slot) old
    logouts = subst (All (λ one. is_logout one.iu ≡ true → at.client.logout ≡ Some one.slot)) before talk.logouts

    names : names_of old ≡ at.client.outgoing
    names = sym (ap names_of before) ∙ talk.awaited
        ∙ ap (λ (stage : Stage). at.client.outgoing ++ login_name stage) sends.idle
        ∙ append-nil at.client.outgoing

    front_false : (a b : Bool) → (a || b) ≡ false → a ≡ false
    front_false true b e = absurd (true≢false e)
    front_false false b e = refl

    free : All (λ one. one.slot ≢ ask.slot) old
    free = free_asks at.client ask.slot old at.client.outgoing names sends.free each no_login logouts
        (λ unused. free_outgoing at.client.outgoing ask.slot
        (front_false (is_asked at.client.outgoing ask.slot) (stage_uses at.client.login ask.slot || is_slot at.client.logout ask.slot) unused))
