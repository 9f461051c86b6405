-- The first that a client is to look at, whose server unit's session is over, or was, and where no login is under way: an answer is that to the
-- oldest request that is outstanding, and what is owed behind it.
use Rattle.std.specs.Prelude.{⊤}
use Rattle.std.proofs.Common.{◌≡◌, ◌∙◌, ◌⊎◌, inl, inr, ℕ, ◌≤◌, ◌++◌, All, true, false, true≢false, cond, List, [], ◌∷◌, Option, Some, None, drop, length, min, refl, sym, ap, ap₂, subst, arith}
use Rattle.std.proofs.lemmas.List.Elements.{All-head, All-tail}
use Rattle.vio_num.specs.Entry.{is_srp_entry}
use Rattle.vio_num.specs.declared.entry.Entry.{Entry}
use Rattle.vio_num.specs.declared.names.UnitId.{UnitId}
use Rattle.srp_iu.specs.Grammar.{Spells}
use Rattle.srp_iu.specs.declared.response.Rsp.{Rsp}
use Rattle.srp_iu.specs.declared.unit.Iu.{Iu}
use Rattle.srp_iu.specs.declared.unit.Iu.TheVariants as units
use Rattle.tce_window.specs.PortState.{PortState}
use Rattle.block_server.specs.Talk.{tag_asked}
use Rattle.vscsi_client.specs.State.{ClientState}
use Rattle.vscsi_client.specs.Units.{slot_address}
use Rattle.vscsi_client.specs.declared.TheConstants.{SLOTS}
use Rattle.vscsi_client.specs.declared.outgoing.Outgoing.{Outgoing}
use Rattle.vscsi_client.specs.declared.stage.Stage.{Stage}
use Rattle.vscsi_client.specs.declared.stage.Stage.TheVariants.{Idle}
use Rattle.vcpu_run.specs.OwnOver.{IsNews, IsOwed, IsUnanswered, LoginLast, answers_among, is_under_way, news_among, under_way}
use Rattle.vcpu_run.specs.PlainTalk.{AreApart, Ask, HasAnswer, HaveAnswers, IsAnswerBy, IsAsk, IsOwnWindow, KeepsSlots, ShowsAt, TagsRise, has_login, is_counted, is_login, is_logout, name_of, names_of}
use Rattle.vcpu_run.proofs.OwnActOwed.{shows_none}
use Rattle.vcpu_run.proofs.PlainAsks.{answer_to, all_parts, neither}
use Rattle.vcpu_run.proofs.PlainJudged.{TellsOldest, counted_answer}
use Rattle.vcpu_run.proofs.PlainRejected.{says_move}
use Rattle.vcpu_run.proofs.PlainServed.{all_spared, answers_move}
use Rattle.vcpu_run.proofs.PlainTakes.{answers_head, first_slot, first_tag}

-- What is so of an answer that is the first: it tells of the oldest request that is outstanding.
pub record OldestOwed (window : PortState) (s : ClientState) (entry : Entry) (rest : List Entry) (answered lost : List Ask) (answers : List Iu) : Type 0 where
  pub oldest : Outgoing
  pub others : List Outgoing
  pub ask : Ask
  pub more : List Ask
  pub answer : Iu
  pub later : List Iu
  pub before : s.outgoing ≡ oldest ∷ others
  pub asked_is : answered ≡ ask ∷ more
  pub answers_are : answers ≡ answer ∷ later
  pub has : HasAnswer window entry ask answer
  pub have : HaveAnswers window (answers_among rest) more later
  pub names : name_of ask ∷ names_of (more ++ lost) ≡ oldest ∷ (others ++ [])
  pub no_login : is_login ask.iu ≡ false
  pub tells : TellsOldest window entry ask.tag oldest
  pub said : answer ≡ units.Rsp tells.has.response

-- none is a login while none is under way
first_plain : (s : ClientState) (ask : Ask) (left : List Ask) → s.login ≡ Idle → has_login (ask ∷ left) ≡ is_under_way s.login → is_login ask.iu ≡ false
first_plain s ask left idle sent = (neither (is_login ask.iu) (has_login left) (sent ∙ ap is_under_way idle)).0

pub oldest_owed : (granted : ℕ) (id : UnitId) (window : PortState) (s : ClientState) (entry : Entry) (rest : List Entry) (answered lost : List Ask) (answers : List Iu)
    → IsOwnWindow window → s.login ≡ Idle → is_srp_entry entry ≡ true → IsOwed granted id window s (entry ∷ rest) answered lost answers
    → OldestOwed window s entry rest answered lost answers
oldest_owed granted id window s entry rest answered lost answers own idle srp owed = by s.outgoing refl
  where
    among : answers_among (entry ∷ rest) ≡ entry ∷ answers_among rest
    among = ap (λ b. cond b (entry ∷ answers_among rest) (answers_among rest)) srp

    head : (ask : Ask) × (more : List Ask) × (answer : Iu) × (later : List Iu) × (answered ≡ ask ∷ more) × (answers ≡ answer ∷ later)
        × HasAnswer window entry ask answer × HaveAnswers window (answers_among rest) more later
    head = answers_head window entry (answers_among rest) answered answers (subst (λ (list : List Entry). HaveAnswers window list answered answers) among owed.told)

    ask : Ask
    ask = head.0

    left : List Ask
    left = head.1 ++ lost

    has : HasAnswer window entry ask head.2
    has = head.6

    all_is : answered ++ lost ≡ ask ∷ left
    all_is = ap (λ (list : List Ask). list ++ lost) head.4

    is_ask : IsAsk ask
    is_ask = All-head IsAsk ask left (subst (All IsAsk) all_is owed.each)

    no_logout : is_logout ask.iu ≡ false
    no_logout = answer_to ask.iu head.2 has.suits

    no_login : is_login ask.iu ≡ false
    no_login = first_plain s ask left idle (sym (ap has_login all_is) ∙ owed.sent)

    counted : is_counted ask.iu ≡ true
    counted = kind is_ask.kind
      where
        kind : (is_login ask.iu ≡ true) ⊎ ((is_logout ask.iu ≡ true) ⊎ (is_counted ask.iu ≡ true)) → is_counted ask.iu ≡ true
        kind (inl login) = absurd (true≢false (sym login ∙ no_login))
        kind (inr (inl logout)) = absurd (true≢false (sym logout ∙ no_logout))
        kind (inr (inr counted)) = counted

    response : (r : Rsp) × (head.2 ≡ units.Rsp r) × (r.tag ≡ tag_asked ask.iu)
    response = counted_answer ask.iu head.2 counted has.suits

    names : name_of ask ∷ names_of left ≡ s.outgoing ++ []
    names = sym (ap (λ b. cond b (names_of left) (name_of ask ∷ names_of left)) no_logout) ∙ sym (ap names_of all_is) ∙ owed.awaited
        ∙ ap (λ (stage : Stage). s.outgoing ++ under_way stage) idle

    by : (outgoing : List Outgoing) → s.outgoing ≡ outgoing → OldestOwed window s entry rest answered lost answers
    by [] e = absurd (no_names (names ∙ ap (λ (list : List Outgoing). list ++ []) e))
      where
        no_names : name_of ask ∷ names_of left ≡ [] → ⊥
        no_names e = cc (e)
    by (oldest ∷ others) e = record {
      oldest = oldest;
      others = others;
      ask = ask;
      more = head.1;
      answer = head.2;
      later = head.3;
      before = e;
      asked_is = head.4;
      answers_are = head.5;
      has = has;
      have = head.7;
      names = both;
      no_login = no_login;
      said = response.1;
      tells = record {
        long = has.long;
        few = has.few;
        entry_is = has.entry_is;
        tag_is = sym (ap (λ (list : List Outgoing). first_tag list) both);
        has = record {
          own = own;
          within = subst (λ slot. slot ≤ SLOTS) (sym slot_is) is_ask.slot_is;
          bytes = has.bytes;
          stand = subst (λ slot. ShowsAt window (slot_address slot) has.bytes) (sym slot_is) has.stand;
          whole = has.whole;
          response = response.0;
          spelled = subst (Spells has.bytes) response.1 has.spelled;
          tag_is = response.2 ∙ is_ask.tag_is;
        };
      };
    }
      where
        both : name_of ask ∷ names_of left ≡ oldest ∷ (others ++ [])
        both = names ∙ ap (λ (list : List Outgoing). list ++ []) e

        slot_is : oldest.slot ≡ ask.slot
        slot_is = sym (ap (λ (list : List Outgoing). first_slot list) both)

-- What a client is behind that: the oldest request is outstanding no more.
pub record DoneWith (s s' : ClientState) (others : List Outgoing) : Type 0 where
  pub rows : length s'.rows ≡ length s.rows
  pub outgoing : s'.outgoing ≡ others
  pub login : s'.login ≡ s.login
  pub logout : s'.logout ≡ s.logout
  pub granted : s'.granted ≡ s.granted

pub owed_taken : (granted : ℕ) (id : UnitId) (old new : PortState) (s s' : ClientState) (entry : Entry) (rest : List Entry) (answered lost : List Ask) (answers : List Iu)
    → s.login ≡ Idle → is_srp_entry entry ≡ true → IsOwed granted id old s (entry ∷ rest) answered lost answers → (first : OldestOwed old s entry rest answered lost answers)
    → DoneWith s s' first.others → KeepsSlots (λ slot. ⊤) old new → IsOwed granted id new s' rest first.more lost first.later
owed_taken granted id old new s s' entry rest answered lost answers idle srp owed first done keeps = record {
  each = All-tail IsAsk first.ask left each;
  slots = (subst AreApart all_is owed.slots).1;
  tags = subst (λ (n : ℕ). TagsRise n left) (sym done.rows) (subst (TagsRise (length s.rows)) all_is owed.tags).2;
  order = (subst LoginLast all_is owed.order).1;
  told = answers_move old new (λ slot. ⊤) keeps (answers_among rest) first.more first.later (all_spared first.more) (all_parts IsAsk first.more lost (All-tail IsAsk first.ask left each)).0 first.have;
  news = subst (All IsNews) (ap (λ b. cond b (news_among rest) (entry ∷ news_among rest)) srp) owed.news;
  behind = owed.behind.1;
  awaited = ap (drop 1) first.names ∙ ap₂ (λ (outgoing : List Outgoing) (stage : Stage). outgoing ++ under_way stage) (sym done.outgoing) (sym (done.login ∙ idle));
  logouts = subst (λ (logout : Option ℕ). All (λ one. is_logout one.iu ≡ true → logout ≡ Some one.slot) left) (sym done.logout)
      (All-tail (λ (one : Ask). is_logout one.iu ≡ true → s.logout ≡ Some one.slot) first.ask left
      (subst (All (λ one. is_logout one.iu ≡ true → s.logout ≡ Some one.slot)) all_is owed.logouts));
  sent = sym (ap (λ b. cond b true (has_login left)) first.no_login) ∙ sym (ap has_login all_is) ∙ owed.sent ∙ sym (ap is_under_way done.login);
  written = shows_none new s'.login lost (done.login ∙ idle);
  unanswered = subst (λ (stage : Stage). IsUnanswered stage first.more) (sym (done.login ∙ idle)) tt;
  none = λ off. absurd (no_items (sym first.before ∙ owed.none (sym done.granted ∙ off)));
  within = subst (λ (list : List Outgoing). length list ≤ 200) (sym done.outgoing) (omega (arith, ap length first.before, owed.within));
  credits = subst (λ (known : Option ℕ). (known ≡ None) ⊎ (known ≡ Some (min granted 200))) (sym done.granted) owed.credits;
  grant = says_move granted id id old new refl keeps.unit keeps.strokes first.later
      (All-tail (IsAnswerBy granted id old) first.answer first.later (subst (All (IsAnswerBy granted id old)) first.answers_are owed.grant));
}
  where
    left : List Ask
    left = first.more ++ lost

    all_is : answered ++ lost ≡ first.ask ∷ left
    all_is = ap (λ (list : List Ask). list ++ lost) first.asked_is

    each : All IsAsk (first.ask ∷ left)
    each = subst (All IsAsk) all_is owed.each

    no_items : first.oldest ∷ first.others ≡ [] → ⊥
    no_items e = cc (e)
