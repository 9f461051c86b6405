-- A plain client whose login was rejected: what it asked before stays as it was, and no login is under way.
use Rattle.std.proofs.Common.{◌≡◌, ◌∙◌, ◌⊎◌, inl, ℕ, ◌≤◌, ◌++◌, not, nat_le, All, true, false, true≢false, List, [], ◌∷◌, Option, Some, None, append-nil, is_some, length, min, refl, sym, ap, ap₂, subst, arith}
use Rattle.std.specs.Prelude.{⊤}
use Rattle.std.proofs.lemmas.List.Elements.{All-nil}
use Rattle.vio_num.specs.declared.entry.Entry.{Entry}
use Rattle.srp_iu.specs.declared.login.LoginRej.{LoginRej}
use Rattle.srp_iu.specs.declared.unit.Iu.{Iu}
use Rattle.srp_iu.specs.declared.unit.Iu.TheVariants as units
use Rattle.block_server.specs.Talk.{MayAsk, talk_of, to_come}
use Rattle.block_server.specs.declared.unit.Unit.{Unit}
use Rattle.vscsi_client.specs.Sending.{task_of}
use Rattle.vscsi_client.specs.declared.outgoing.Outgoing.{Outgoing}
use Rattle.vscsi_client.specs.declared.stage.Stage.{Stage}
use Rattle.vscsi_client.specs.declared.stage.Stage.TheVariants.{Idle, Sent, Written}
use Rattle.vcpu_run.specs.PlainTalk.{AreApart, CountsAsked, AreInOrder, ArePending, Ask, AskedParts, Between, DataLies, HaveAnswers, IsAsk, IsTalking, KeepsSlots, IsAnswerBy, TagsRise, all_asked, grants_one, has_login, is_granted, is_login, is_logout, is_sent, login_name, name_of, names_of, StartsAt}
use Rattle.vcpu_run.proofs.PlainAsks.{all_parts, names_push}
use Rattle.vcpu_run.proofs.PlainEnds.{IsAmong, IsLast, apart_front_all, has_login_mid, last_is, order_front, rise_front}
use Rattle.vcpu_run.proofs.PlainLists.{answers_plain, granted_push, login_no_logout}
use Rattle.vcpu_run.proofs.PlainServed.{all_spared, answers_move}
use Rattle.vcpu_run.proofs.PlainRejected.{says_move}

-- lists with one behind them that are equal are so without it
front_one : (xs ys : List Outgoing) (a b : Outgoing) → xs ++ a ∷ [] ≡ ys ++ b ∷ [] → xs ≡ ys
front_one [] [] a b e = refl
front_one [] (y ∷ []) a b e = absurd (cc (e))
front_one [] (y ∷ z ∷ ys) a b e = absurd (cc (e))
front_one (x ∷ []) [] a b e = absurd (cc (e))
front_one (x ∷ z ∷ xs) [] a b e = absurd (cc (e))
front_one (x ∷ xs) (y ∷ ys) a b e = ap₂ (λ (n : Outgoing) (list : List Outgoing). n ∷ list) (heads x y (xs ++ a ∷ []) (ys ++ b ∷ []) e) (front_one xs ys a b (tails x y (xs ++ a ∷ []) (ys ++ b ∷ []) e))
  where
    heads : (x y : Outgoing) (xs ys : List Outgoing) → x ∷ xs ≡ y ∷ ys → x ≡ y
    heads x y xs ys e = cc (e)

    tails : (x y : Outgoing) (xs ys : List Outgoing) → x ∷ xs ≡ y ∷ ys → xs ≡ ys
    tails x y xs ys e = cc (e)

-- the names but for that of a login that was sent
names_but : (names front : List Outgoing) (name : Outgoing) (stage : Stage) → names ++ name ∷ [] ≡ front ++ login_name stage → is_sent stage ≡ true → names ≡ front
names_but names front name (Sent tag slot) e sent = front_one names front name (task_of tag slot) e
names_but names front name (Written tag slot) e sent = absurd (cc (sent))
names_but names front name Idle e sent = absurd (cc (sent))

-- What a rejection leaves as it was: these entries stay kept.
pub record EndsRejected (at at' : Between) (kept : List Entry) : Type 0 where
  pub unit : at'.unit ≡ at.unit
  pub registered : at'.own.registered ≡ at.own.registered
  pub come : to_come at'.own ≡ []
  pub keeps : KeepsSlots (λ slot. ⊤) at.window at'.window
  pub handshake : at'.client.handshake ≡ at.client.handshake
  pub due : at'.client.due ≡ []
  pub held : at'.client.held ≡ None
  pub granted : at'.client.granted ≡ at.client.granted
  pub outgoing : at'.client.outgoing ≡ at.client.outgoing
  pub login : at'.client.login ≡ Idle
  pub logout : at'.client.logout ≡ at.client.logout
  pub rows : length at'.client.rows ≡ length at.client.rows
  pub kept_is : at'.client.kept ≡ kept

pub rejected_talk : (granted : ℕ) (at at' : Between) (asked : AskedParts) (answers : List Iu) (kept : List Entry) (entry : Entry) (come : List Entry) (rejection : LoginRej)
    → IsTalking granted at [] asked answers → (is : IsAmong at.window kept entry come asked.answered answers) → is_login is.ask.iu ≡ true
    → is.answer ≡ units.LoginRej rejection → EndsRejected at at' kept → IsTalking granted at' [] (record { answered = is.front; pending = []; coming = [] }) is.before
rejected_talk granted at at' asked answers kept entry come rejection talk is login said ends = record {
  registered = ends.registered ∙ talk.registered;
  handshake = ends.handshake ∙ talk.handshake;
  up = ap (λ (u : Unit). u.line.handshake) ends.unit ∙ talk.up;
  due = ends.due;
  held = ends.held;
  each = subst (All IsAsk) (sym whole) each;
  slots = subst AreApart (sym whole) (apart_front_all is.front (is.ask ∷ []) (subst AreApart all_is talk.slots));
  tags = subst (λ (n : ℕ). TagsRise n (is.front ++ [])) (sym ends.rows)
      (subst (TagsRise (length at.client.rows)) (sym whole) (rise_front (length at.client.rows) is.front (is.ask ∷ []) (subst (TagsRise (length at.client.rows)) all_is talk.tags)));
  order = subst AreInOrder (sym whole) (order_front is.front (is.ask ∷ []) (subst AreInOrder all_is talk.order));
  pending = subst (λ (u : Unit). ArePending u.pending.items []) (sym ends.unit) (subst (ArePending at.unit.pending.items) last.pending talk.pending);
  coming = refl;
  few = omega arith;
  may = All-nil (λ (one : Ask). MayAsk (talk_of at'.unit) one.iu);
  answered = subst (λ (list : List Entry). HaveAnswers at'.window list is.front is.before)
      (sym (ap₂ (λ (kept come : List Entry). kept ++ come) ends.kept_is ends.come ∙ append-nil kept))
      (answers_move at.window at'.window (λ slot. ⊤) ends.keeps kept is.front is.before (all_spared is.front) each is.kept_are);
  awaited = ap names_of whole ∙ names ∙ sym (append-nil at.client.outgoing)
      ∙ sym (ap₂ (λ (outgoing : List Outgoing) (stage : Stage). outgoing ++ login_name stage) ends.outgoing ends.login);
  logouts = subst (λ (logout : Option ℕ). All (λ one. is_logout one.iu ≡ true → logout ≡ Some one.slot) (is.front ++ [])) (sym ends.logout)
      (subst (All (λ one. is_logout one.iu ≡ true → at.client.logout ≡ Some one.slot)) (sym whole)
      (all_parts (λ (one : Ask). is_logout one.iu ≡ true → at.client.logout ≡ Some one.slot) is.front (is.ask ∷ [])
      (subst (All (λ one. is_logout one.iu ≡ true → at.client.logout ≡ Some one.slot)) all_is talk.logouts)).0);
  sent = ap has_login whole ∙ last.no_login ∙ sym (ap is_sent ends.login);
  stage = inl ends.login;
  none = λ none. ends.outgoing ∙ talk.none (sym ends.granted ∙ none);
  within = subst (λ (list : List Outgoing). length list ≤ 200) (sym ends.outgoing) talk.within;
  counts = subst (λ (u : Unit). CountsAsked u []) (sym ends.unit) (subst (CountsAsked at.unit) last.pending talk.counts);
  tables = All-nil (DataLies at'.window);
  starts = All-nil (StartsAt at'.client.rows);
  spared = tt;
  login = record {
    credits = subst (λ (known : Option ℕ). (known ≡ None) ⊎ (known ≡ Some (min granted 200))) (sym ends.granted) talk.login.credits;
    before = λ no'. ap is_some ends.granted ∙ on ∙ sym last.on ∙ ap (λ (u : Unit). nat_le 1 u.logins.current) (sym ends.unit);
    on = λ has. absurd (true≢false (sym has ∙ last.no_login));
    answer = λ has. absurd (true≢false (sym has ∙ last.no_login));
    grant = says_move granted at.unit.id at'.unit.id at.window at'.window (ap (λ (u : Unit). u.id) ends.unit) ends.keeps.unit ends.keeps.strokes is.before
        (all_parts (IsAnswerBy granted at.unit.id at.window) is.before (is.answer ∷ is.later)
        (subst (All (IsAnswerBy granted at.unit.id at.window)) is.answers_are talk.login.grant)).0;
  };
}
  where
    parts : IsLast at asked come is.front is.ask × (is.later ≡ [])
    parts = last_is granted at asked answers kept entry come talk is login

    last : IsLast at asked come is.front is.ask
    last = parts.0

    whole : is.front ++ [] ≡ is.front
    whole = append-nil is.front

    all_is : all_asked asked ≡ is.front ++ is.ask ∷ []
    all_is = ap₂ (λ (answered rest : List Ask). answered ++ rest) last.answered (ap₂ (λ (pending coming : List Ask). pending ++ coming) last.pending last.coming)
        ∙ append-nil (is.front ++ is.ask ∷ [])

    each : All IsAsk is.front
    each = (all_parts IsAsk is.front (is.ask ∷ []) (subst (All IsAsk) all_is talk.each)).0

    has : has_login (all_asked asked) ≡ true
    has = ap has_login all_is ∙ has_login_mid is.front is.ask [] login

    names : names_of is.front ≡ at.client.outgoing
    names = names_but (names_of is.front) at.client.outgoing (name_of is.ask) at.client.login
        (sym (names_push is.front is.ask (login_no_logout is.ask.iu login)) ∙ sym (ap names_of all_is) ∙ talk.awaited) (sym talk.sent ∙ has)

    no_grant : grants_one answers ≡ false
    no_grant = ap grants_one (is.answers_are ∙ ap (λ (list : List Iu). is.before ++ is.answer ∷ list) parts.1)
        ∙ granted_push is.before is.answer (answers_plain at.window kept is.front is.before is.kept_are last.no_login) ∙ ap is_granted said

    on : is_some at.client.granted ≡ true
    on = talk.login.answer (ap has_login last.answered ∙ has_login_mid is.front is.ask [] login) ∙ ap not no_grant
