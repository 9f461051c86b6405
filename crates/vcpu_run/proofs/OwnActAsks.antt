-- A client asks one thing more, whose server unit's session is over, or was, while no login is under way: what it is owed behind that, and that
-- its slot is no other's.
use Rattle.std.proofs.Common.{◌≡◌, ◌≢◌, ◌∙◌, ◌⊎◌, inl, inr, ℕ, ◌+◌, ◌≤◌, ◌||◌, ◌++◌, All, Bool, true, false, true≢false, cond, List, [], ◌∷◌, Option, Some, None, append-nil, append_assoc, length, min, refl, sym, ap, subst}
use Rattle.std.proofs.lemmas.Bool.{eqb-false}
use Rattle.std.proofs.lemmas.List.Elements.{All-cons, All-head, All-nil, All-push, All-tail, All-weaker}
use Rattle.vio_num.specs.declared.entry.Entry.{Entry}
use Rattle.vio_num.specs.declared.names.UnitId.{UnitId}
use Rattle.srp_iu.specs.declared.unit.Iu.{Iu}
use Rattle.tce_window.specs.PortState.{PortState}
use Rattle.vscsi_client.specs.State.{ClientState, IsNextSlot, is_asked, is_slot, stage_uses}
use Rattle.vscsi_client.specs.declared.outgoing.Outgoing.{Outgoing}
use Rattle.vscsi_client.specs.declared.stage.Stage.{Stage}
use Rattle.vscsi_client.specs.declared.stage.Stage.TheVariants.{Idle}
use Rattle.vcpu_run.specs.OwnOver.{IsOwed, IsUnanswered, LoginLast, answers_among, is_under_way, under_way}
use Rattle.vcpu_run.specs.PlainTalk.{AreApart, Ask, IsAsk, KeepsSlots, TagsRise, has_login, is_login, is_logout, name_of, names_of}
use Rattle.vcpu_run.proofs.OwnActOwed.{shows_none}
use Rattle.vcpu_run.proofs.PlainAsks.{all_parts, apart_push, free_outgoing, neither}
use Rattle.vcpu_run.proofs.PlainLists.{login_push, rise_push}
use Rattle.vcpu_run.proofs.PlainRejected.{says_move}
use Rattle.vcpu_run.proofs.PlainServed.{answers_move}

-- ---- the slot is no other's

-- neither that of what is outstanding, nor that of a logout
free_both : (s : ClientState) (slot : ℕ) → s.login ≡ Idle → IsNextSlot s slot → (is_asked s.outgoing slot ≡ false) × (is_slot s.logout slot ≡ false)
free_both s slot idle (inl least) = by (is_asked s.outgoing slot) (stage_uses s.login slot) (is_slot s.logout slot) least.free
  where
    by : (a b c : Bool) → (a || (b || c)) ≡ false → (a ≡ false) × (c ≡ false)
    by true b c none = absurd (true≢false none)
    by false true c none = absurd (true≢false none)
    by false false c none = (refl, none)
free_both s slot idle (inr its) = absurd (true≢false (sym its.its ∙ ap (λ (stage : Stage). stage_uses stage slot) idle))

free_asks : (asked : List Ask) (slot : ℕ) (logout : Option ℕ) → is_slot logout slot ≡ false → All (λ (name : Outgoing). name.slot ≢ slot) (names_of asked)
    → All (λ (one : Ask). is_logout one.iu ≡ true → logout ≡ Some one.slot) asked → All (λ (one : Ask). one.slot ≢ slot) asked
free_asks [] slot logout free names outs = All-nil (λ (one : Ask). one.slot ≢ slot)
free_asks (first ∷ asked) slot logout free names outs =
    by (is_logout first.iu) refl (λ more. free_asks asked slot logout free more (All-tail (λ (one : Ask). is_logout one.iu ≡ true → logout ≡ Some one.slot) first asked outs)) names
  where
    by : (b : Bool) → is_logout first.iu ≡ b → (All (λ (name : Outgoing). name.slot ≢ slot) (names_of asked) → All (λ (one : Ask). one.slot ≢ slot) asked)
        → All (λ (name : Outgoing). name.slot ≢ slot) (cond b (names_of asked) (name_of first ∷ names_of asked)) → All (λ (one : Ask). one.slot ≢ slot) (first ∷ asked)
    by true is rest names =
        All-cons (λ (one : Ask). one.slot ≢ slot) first asked
        (eqb-false first.slot slot (sym (ap (λ (o : Option ℕ). is_slot o slot) (All-head (λ (one : Ask). is_logout one.iu ≡ true → logout ≡ Some one.slot) first asked outs is)) ∙ free))
        (rest names)
    by false is rest names =
        All-cons (λ (one : Ask). one.slot ≢ slot) first asked (All-head (λ (name : Outgoing). name.slot ≢ slot) (name_of first) (names_of asked) names)
        (rest (All-tail (λ (name : Outgoing). name.slot ≢ slot) (name_of first) (names_of asked) names))

pub slot_apart : (granted : ℕ) (id : UnitId) (window : PortState) (s : ClientState) (stream : List Entry) (answered lost : List Ask) (answers : List Iu) (slot : ℕ) → s.login ≡ Idle
    → IsNextSlot s slot → IsOwed granted id window s stream answered lost answers → All (λ (one : Ask). one.slot ≢ slot) (answered ++ lost)
slot_apart granted id window s stream answered lost answers slot idle next owed =
    let free = free_both s slot idle next in
    free_asks (answered ++ lost) slot s.logout free.1
    (subst (All (λ (name : Outgoing). name.slot ≢ slot)) (sym (owed.awaited ∙ ap (λ (stage : Stage). s.outgoing ++ under_way stage) idle ∙ append-nil s.outgoing)) (free_outgoing s.outgoing slot free.0)) owed.logouts

-- ---- one thing more

-- What is so of it, and of the client behind it.
pub record AsksMore (granted : ℕ) (s s' : ClientState) (ask : Ask) : Type 0 where
  pub is_ask : IsAsk ask
  pub plain : is_login ask.iu ≡ false
  pub next : ask.tag ≡ length s.rows + 1
  pub rows : length s'.rows ≡ length s.rows + 1
  pub login : s'.login ≡ s.login
  pub names : s'.outgoing ≡ s.outgoing ++ names_of (ask ∷ [])
  pub before : (one : Ask) → (is_logout one.iu ≡ true → s.logout ≡ Some one.slot) → is_logout one.iu ≡ true → s'.logout ≡ Some one.slot
  pub logout : is_logout ask.iu ≡ true → s'.logout ≡ Some ask.slot
  pub none : s'.granted ≡ None → s'.outgoing ≡ []
  pub within : length s'.outgoing ≤ 200
  pub credits : (s'.granted ≡ None) ⊎ (s'.granted ≡ Some (min granted 200))

names_both : (asked more : List Ask) → names_of (asked ++ more) ≡ names_of asked ++ names_of more
names_both [] more = refl
names_both (first ∷ asked) more = by (is_logout first.iu) (names_both asked more)
  where
    by : (b : Bool) → names_of (asked ++ more) ≡ names_of asked ++ names_of more
        → cond b (names_of (asked ++ more)) (name_of first ∷ names_of (asked ++ more)) ≡ cond b (names_of asked) (name_of first ∷ names_of asked) ++ names_of more
    by true rest = rest
    by false rest = ap (λ (names : List Outgoing). name_of first ∷ names) rest

last_push : (asked : List Ask) (ask : Ask) → has_login asked ≡ false → LoginLast (asked ++ ask ∷ [])
last_push [] ask none = (λ is. refl, tt)
last_push (first ∷ asked) ask none =
    let both = neither (is_login first.iu) (has_login asked) none in
    (λ is. absurd (true≢false (sym is ∙ both.0)), last_push asked ask both.1)

pub owed_push : (granted : ℕ) (id : UnitId) (old new : PortState) (s s' : ClientState) (stream stream' : List Entry) (answered lost : List Ask) (answers : List Iu) (ask : Ask) → s.login ≡ Idle
    → stream' ≡ stream → KeepsSlots (λ slot. slot ≢ ask.slot) old new → All (λ (one : Ask). one.slot ≢ ask.slot) (answered ++ lost) → AsksMore granted s s' ask
    → IsOwed granted id old s stream answered lost answers → IsOwed granted id new s' stream' answered (lost ++ ask ∷ []) answers
owed_push granted id old new s s' stream stream' answered lost answers ask idle is keeps free more owed =
    subst (λ (list : List Entry). IsOwed granted id new s' list answered (lost ++ ask ∷ []) answers) (sym is) (record {
      each = subst (All IsAsk) behind (All-push IsAsk all ask owed.each more.is_ask);
      slots = subst AreApart behind (apart_push all ask owed.slots free);
      tags = subst (λ (n : ℕ). TagsRise n (answered ++ (lost ++ ask ∷ []))) (sym more.rows) (subst (TagsRise (length s.rows + 1)) behind (rise_push (length s.rows) all ask owed.tags more.next));
      order = subst LoginLast behind (last_push all ask no_login);
      told = answers_move old new (λ slot. slot ≢ ask.slot) keeps (answers_among stream) answered answers (all_parts (λ (one : Ask). one.slot ≢ ask.slot) answered lost free).0
          (all_parts IsAsk answered lost owed.each).0 owed.told;
      news = owed.news;
      behind = owed.behind;
      awaited = ap names_of (sym behind) ∙ names_both all (ask ∷ []) ∙ ap (λ (names : List Outgoing). names ++ names_of (ask ∷ [])) names ∙ sym more.names
          ∙ sym (append-nil s'.outgoing) ∙ ap (λ (stage : Stage). s'.outgoing ++ under_way stage) (sym (more.login ∙ idle));
      logouts = subst (All (λ (one : Ask). is_logout one.iu ≡ true → s'.logout ≡ Some one.slot)) behind
          (All-push (λ (one : Ask). is_logout one.iu ≡ true → s'.logout ≡ Some one.slot) all ask
          (All-weaker (λ (one : Ask). is_logout one.iu ≡ true → s.logout ≡ Some one.slot) (λ (one : Ask). is_logout one.iu ≡ true → s'.logout ≡ Some one.slot) more.before all owed.logouts)
          more.logout);
      sent = ap has_login (sym behind) ∙ login_push all ask no_login ∙ more.plain ∙ sym (ap is_under_way (more.login ∙ idle));
      written = shows_none new s'.login (lost ++ ask ∷ []) (more.login ∙ idle);
      unanswered = subst (λ (stage : Stage). IsUnanswered stage answered) (sym (more.login ∙ idle)) tt;
      none = more.none;
      within = more.within;
      credits = more.credits;
      grant = says_move granted id id old new refl keeps.unit keeps.strokes answers owed.grant;
    })
  where
    all : List Ask
    all = answered ++ lost

    behind : (answered ++ lost) ++ ask ∷ [] ≡ answered ++ (lost ++ ask ∷ [])
    behind = append_assoc answered lost (ask ∷ [])

    no_login : has_login (answered ++ lost) ≡ false
    no_login = owed.sent ∙ ap is_under_way idle

    names : names_of (answered ++ lost) ≡ s.outgoing
    names = owed.awaited ∙ ap (λ (stage : Stage). s.outgoing ++ under_way stage) idle ∙ append-nil s.outgoing
