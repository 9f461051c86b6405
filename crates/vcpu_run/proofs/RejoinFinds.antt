-- A client beside a server unit whose session is over, or was, looks at an answer: it is to another request, or to its login.
use Rattle.std.proofs.Common.{◌≡◌, ◌≢◌, ◌∙◌, ℕ, ◌<◌, ◌==◌, ◌++◌, All, Bool, true, false, true≢false, cond, List, [], ◌∷◌, Option, Some, None, IsSome, append_assoc, arith, length, refl, sym, ap, subst}
use Rattle.std.specs.Prelude.{⊤}
use Rattle.std.proofs.lemmas.Bool.Decides.{nat_tests}
use Rattle.std.proofs.lemmas.List.Elements.{All-cons, All-head, All-nil}
use Rattle.vio_num.specs.declared.entry.Entry.{Entry}
use Rattle.vio_num.specs.declared.names.UnitId.{UnitId}
use Rattle.srp_iu.specs.declared.unit.Iu.{Iu}
use Rattle.tce_window.specs.PortState.{PortState}
use Rattle.vscsi_client.specs.Login.{login_slot}
use Rattle.vscsi_client.specs.Sending.{task_of}
use Rattle.vscsi_client.specs.State.{ClientState}
use Rattle.vscsi_client.specs.Taking.{slot_of}
use Rattle.vscsi_client.specs.declared.outgoing.Outgoing.{Outgoing}
use Rattle.vscsi_client.specs.declared.stage.Stage.{Stage}
use Rattle.vscsi_client.specs.declared.stage.Stage.TheVariants.{Idle, Sent, Written}
use Rattle.vcpu_run.specs.OwnOver.{IsOwed, LoginLast, is_under_way, under_way}
use Rattle.vcpu_run.specs.PlainTalk.{Ask, HaveAnswers, IsAsk, TagsRise, has_login, is_login, name_of, names_of}
use Rattle.vcpu_run.proofs.PlainAsks.{all_parts, answer_to}
use Rattle.vcpu_run.proofs.PlainEnds.{IsAmong, has_login_mid}
use Rattle.vcpu_run.proofs.PlainFinds.{TellsLogin, TellsOther}
use Rattle.vcpu_run.proofs.PlainLooks.{login_answer}
use Rattle.vcpu_run.proofs.PlainPuts.{LeavesWindow}
use Rattle.vcpu_run.proofs.PlainTells.{IsLastAsked, find_front, find_named, kept_no, login_named, names_mid, others_below, tags_below}

-- ---- the login among what is asked

-- it is the last, where one is under way
pub login_last : (asked : List Ask) → LoginLast asked → has_login asked ≡ true → IsLastAsked asked
login_last [] order has = absurd (true≢false (sym has))
login_last (ask ∷ more) order has = by (is_login ask.iu) refl (λ has. login_last more order.1 has) has
  where
    by : (b : Bool) → is_login ask.iu ≡ b → (has_login more ≡ true → IsLastAsked more) → cond b true (has_login more) ≡ true → IsLastAsked (ask ∷ more)
    by true is rest has = record { front = []; login = ask; is = ap (λ (list : List Ask). ask ∷ list) (order.0 is); is_login = is }
    by false isnt rest has =
        let last = rest has in
        record { front = ask ∷ last.front; login = last.login; is = ap (λ (list : List Ask). ask ∷ list) last.is; is_login = last.is_login }

-- nothing stands behind one
pub behind_login : (front : List Ask) (ask : Ask) (more : List Ask) → LoginLast (front ++ ask ∷ more) → is_login ask.iu ≡ true → more ≡ []
behind_login [] ask more order is = order.0 is
behind_login (first ∷ front) ask more order is = behind_login front ask more order.1 is

-- and none before it
pub before_login : (front : List Ask) (ask : Ask) (more : List Ask) → LoginLast (front ++ ask ∷ more) → has_login front ≡ false
before_login [] ask more order = refl
before_login (first ∷ front) ask more order = by (is_login first.iu) refl (before_login front ask more order.1)
  where
    no_rest : (xs : List Ask) → xs ++ ask ∷ more ≡ [] → ⊥
    no_rest [] e = cc (e)
    no_rest (x ∷ xs) e = cc (e)

    by : (b : Bool) → is_login first.iu ≡ b → has_login front ≡ false → cond b true (has_login front) ≡ false
    by true is rest = absurd (no_rest front (order.0 is))
    by false isnt rest = rest

-- another request has another tag
under_other : (last : ℕ) (s : ClientState) (asked front : List Ask) (ask : Ask) (more : List Ask) → asked ≡ front ++ ask ∷ more → is_login ask.iu ≡ false → TagsRise last asked → LoginLast asked
    → names_of asked ≡ s.outgoing ++ under_way s.login → has_login asked ≡ is_under_way s.login
    → All (λ (name : Outgoing). name.tag ≢ ask.tag) (under_way s.login) × (login_slot ask.tag s.login ≡ None)
under_other last s asked front ask more is isnt rise order names sent = by s.login refl
  where
    differs : (tag slot : ℕ) → is_under_way s.login ≡ true → under_way s.login ≡ task_of tag slot ∷ [] → ask.tag < tag
    differs tag slot on way =
        let login : IsLastAsked asked = login_last asked order (sent ∙ on) in
        let tag_is : login.login.tag ≡ tag = ap (λ (name : Outgoing). name.tag)
        (login_named asked s.outgoing tag slot login (names ∙ ap (λ (list : List Outgoing). s.outgoing ++ list) way)) in
        let less : ask.tag < login.login.tag = All-head (λ (one : Ask). is_login one.iu ≡ false → one.tag < login.login.tag) ask more
        (all_parts (λ (one : Ask). is_login one.iu ≡ false → one.tag < login.login.tag) front (ask ∷ more)
        (subst (All (λ (one : Ask). is_login one.iu ≡ false → one.tag < login.login.tag)) is (others_below last asked rise login))).1 isnt in
        omega (arith, less, tag_is)

    both : (tag slot : ℕ) → ask.tag < tag → All (λ (name : Outgoing). name.tag ≢ ask.tag) (task_of tag slot ∷ []) × ((tag == ask.tag) ≡ false)
    both tag slot less = (
      All-cons (λ (name : Outgoing). name.tag ≢ ask.tag) (task_of tag slot) [] (λ same. omega (arith, less, same)) (All-nil (λ (name : Outgoing). name.tag ≢ ask.tag)),
      grind (arith, nat_tests, less),
    )

    by : (login : Stage) → s.login ≡ login → All (λ (name : Outgoing). name.tag ≢ ask.tag) (under_way s.login) × (login_slot ask.tag s.login ≡ None)
    by Idle e = (
      subst (λ (l : Stage). All (λ (name : Outgoing). name.tag ≢ ask.tag) (under_way l)) (sym e) (All-nil (λ (name : Outgoing). name.tag ≢ ask.tag)),
      ap (login_slot ask.tag) e,
    )
    by (Written tag slot) e =
        let two = both tag slot (differs tag slot (ap is_under_way e) (ap under_way e)) in (
          subst (λ (l : Stage). All (λ (name : Outgoing). name.tag ≢ ask.tag) (under_way l)) (sym e) two.0,
          ap (login_slot ask.tag) e ∙ ap (λ b. cond b (Some slot) None) two.1,
        )
    by (Sent tag slot) e =
        let two = both tag slot (differs tag slot (ap is_under_way e) (ap under_way e)) in (
          subst (λ (l : Stage). All (λ (name : Outgoing). name.tag ≢ ask.tag) (under_way l)) (sym e) two.0,
          ap (login_slot ask.tag) e ∙ ap (λ b. cond b (Some slot) None) two.1,
        )

-- ---- what an entry tells of

asked_about : (window : PortState) (kept : List Entry) (entry : Entry) (come : List Entry) (answered lost : List Ask) (answers : List Iu) → (is : IsAmong window kept entry come answered answers)
    → answered ++ lost ≡ is.front ++ is.ask ∷ (is.behind ++ lost)
asked_about window kept entry come answered lost answers is =
    ap (λ (list : List Ask). list ++ lost) is.asked_are ∙ append_assoc is.front (is.ask ∷ is.behind) lost

pub owed_other : (granted : ℕ) (id : UnitId) (window : PortState) (s : ClientState) (stream come : List Entry) (entry : Entry) (answered lost : List Ask) (answers : List Iu)
    → IsOwed granted id window s stream answered lost answers → (is : IsAmong window s.kept entry come answered answers) → is_login is.ask.iu ≡ false → TellsOther s entry
owed_other granted id window s stream come entry answered lost answers owed is isnt = record {
  long = is.has.long;
  tag = is.ask.tag;
  few = is.has.few;
  entry_is = is.has.entry_is;
  other = other.1;
  outstanding = find_front is.ask.tag s.outgoing (under_way s.login) other.0
      (subst (λ (list : List Outgoing). IsSome (slot_of is.ask.tag list)) (sym mid ∙ sym (ap names_of all_is) ∙ owed.awaited)
      (find_named (names_of is.front) (name_of is.ask) (names_of (is.behind ++ lost))));
  first = kept_no window s.kept is.front is.before is.ask.tag is.kept_are
      (tags_below (length s.rows) is.front is.ask (is.behind ++ lost) (subst (TagsRise (length s.rows)) all_is owed.tags));
}
  where
    all_is : answered ++ lost ≡ is.front ++ is.ask ∷ (is.behind ++ lost)
    all_is = asked_about window s.kept entry come answered lost answers is

    mid : names_of (is.front ++ is.ask ∷ (is.behind ++ lost)) ≡ names_of is.front ++ name_of is.ask ∷ names_of (is.behind ++ lost)
    mid = names_mid is.front is.ask (is.behind ++ lost) (answer_to is.ask.iu is.answer is.has.suits)

    other : All (λ (name : Outgoing). name.tag ≢ is.ask.tag) (under_way s.login) × (login_slot is.ask.tag s.login ≡ None)
    other = under_other (length s.rows) s (answered ++ lost) is.front is.ask (is.behind ++ lost) all_is isnt owed.tags owed.order owed.awaited owed.sent

-- The answer to the login is the last, and it is under way.
pub record TellsLast (s : ClientState) (answered lost front : List Ask) (ask : Ask) (before later : List Iu) (come : List Entry) : Type 0 where
  pub answered_is : answered ≡ front ++ ask ∷ []
  pub lost_none : lost ≡ []
  pub later_none : later ≡ []
  pub come_none : come ≡ []
  pub no_login : has_login front ≡ false
  pub named : under_way s.login ≡ name_of ask ∷ []
  pub slot : login_slot ask.tag s.login ≡ Some ask.slot

-- no more entries than answers
no_more : (window : PortState) (come : List Entry) (behind : List Ask) (later : List Iu) → HaveAnswers window come behind later → behind ≡ [] → (come ≡ []) × (later ≡ [])
no_more window [] [] [] have none = (refl, refl)
no_more window [] [] (answer ∷ later) have none = absurd have
no_more window (entry ∷ come) [] later have none = absurd have
no_more window come (ask ∷ behind) later have none = absurd (cc (none))

pub tells_last : (granted : ℕ) (id : UnitId) (window : PortState) (s : ClientState) (stream come : List Entry) (entry : Entry) (answered lost : List Ask) (answers : List Iu)
    → IsOwed granted id window s stream answered lost answers → (is : IsAmong window s.kept entry come answered answers) → is_login is.ask.iu ≡ true
    → TellsLast s answered lost is.front is.ask is.before is.later come
tells_last granted id window s stream come entry answered lost answers owed is login = record {
  answered_is = is.asked_are ∙ ap (λ (list : List Ask). is.front ++ is.ask ∷ list) both.0;
  lost_none = both.1;
  later_none = none.1;
  come_none = none.0;
  no_login = before_login is.front is.ask (is.behind ++ lost) (subst LoginLast all_is owed.order);
  named = by s.login refl;
  slot = slot s.login refl;
}
  where
    all_is : answered ++ lost ≡ is.front ++ is.ask ∷ (is.behind ++ lost)
    all_is = asked_about window s.kept entry come answered lost answers is

    rest : is.behind ++ lost ≡ []
    rest = behind_login is.front is.ask (is.behind ++ lost) (subst LoginLast all_is owed.order) login

    empties : (xs ys : List Ask) → xs ++ ys ≡ [] → (xs ≡ []) × (ys ≡ [])
    empties [] ys e = (refl, e)
    empties (x ∷ xs) ys e = absurd (cc (e))

    both : (is.behind ≡ []) × (lost ≡ [])
    both = empties is.behind lost rest

    none : (come ≡ []) × (is.later ≡ [])
    none = no_more window come is.behind is.later is.rest both.0

    on : is_under_way s.login ≡ true
    on = sym owed.sent ∙ ap has_login all_is ∙ has_login_mid is.front is.ask (is.behind ++ lost) login

    last : IsLastAsked (answered ++ lost)
    last = record { front = is.front; login = is.ask; is = all_is ∙ ap (λ (list : List Ask). is.front ++ is.ask ∷ list) rest; is_login = login }

    named : (tag slot : ℕ) → under_way s.login ≡ task_of tag slot ∷ [] → name_of is.ask ≡ task_of tag slot
    named tag slot way = login_named (answered ++ lost) s.outgoing tag slot last (owed.awaited ∙ ap (λ (list : List Outgoing). s.outgoing ++ list) way)

    by : (stage : Stage) → s.login ≡ stage → under_way s.login ≡ name_of is.ask ∷ []
    by Idle e = absurd (true≢false (sym on ∙ ap is_under_way e))
    by (Written tag slot) e = ap under_way e ∙ ap (λ (name : Outgoing). name ∷ []) (sym (named tag slot (ap under_way e)))
    by (Sent tag slot) e = ap under_way e ∙ ap (λ (name : Outgoing). name ∷ []) (sym (named tag slot (ap under_way e)))

    found : (tag slot : ℕ) → name_of is.ask ≡ task_of tag slot → (if' : Option ℕ) → if' ≡ cond (tag == is.ask.tag) (Some slot) None → if' ≡ Some is.ask.slot
    found tag slot name if' e =
        let tag_is : is.ask.tag ≡ tag = ap (λ (n : Outgoing). n.tag) name in
        let same : (tag == is.ask.tag) ≡ true = grind (arith, nat_tests, tag_is) in
        e ∙ ap (λ b. cond b (Some slot) None) same ∙ ap (λ (n : Outgoing). Some n.slot) (sym name)

    slot : (stage : Stage) → s.login ≡ stage → login_slot is.ask.tag s.login ≡ Some is.ask.slot
    slot Idle e = absurd (true≢false (sym on ∙ ap is_under_way e))
    slot (Written tag slot') e = found tag slot' (named tag slot' (ap under_way e)) (login_slot is.ask.tag s.login) (ap (login_slot is.ask.tag) e)
    slot (Sent tag slot') e = found tag slot' (named tag slot' (ap under_way e)) (login_slot is.ask.tag s.login) (ap (login_slot is.ask.tag) e)

pub owed_login : (granted : ℕ) (id : UnitId) (window new : PortState) (s : ClientState) (stream come : List Entry) (entry : Entry) (answered lost : List Ask) (answers : List Iu)
    → IsOwed granted id window s stream answered lost answers → (is : IsAmong window s.kept entry come answered answers) → is_login is.ask.iu ≡ true → LeavesWindow (λ slot. ⊤) window new
    → TellsLogin s new entry is.answer
owed_login granted id window new s stream come entry answered lost answers owed is login left = record {
  long = is.has.long;
  tag = is.ask.tag;
  slot = is.ask.slot;
  few = is.has.few;
  entry_is = is.has.entry_is;
  login = (tells_last granted id window s stream come entry answered lost answers owed is login).slot;
  has = record {
    own = left.own;
    within = is_ask.slot_is;
    bytes = is.has.bytes;
    stand = left.keeps.slots is.ask.slot is.has.bytes is_ask.slot_is tt is.has.whole is.has.stand;
    whole = is.has.whole;
    spelled = is.has.spelled;
  };
  of_login = login_answer is.ask.tag is.ask.iu is.answer login is_ask.tag_is is.has.suits;
}
  where
    is_ask : IsAsk is.ask
    is_ask = All-head IsAsk is.ask (is.behind ++ lost)
        (all_parts IsAsk is.front (is.ask ∷ (is.behind ++ lost)) (subst (All IsAsk) (asked_about window s.kept entry come answered lost answers is) owed.each)).1
