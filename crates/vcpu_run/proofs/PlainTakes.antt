-- What a plain client's taking of an answer leaves between it and its server unit: the oldest of what has its answer is done with.
use Rattle.std.specs.Prelude.{⊤}
use Rattle.std.proofs.Common.{◌≡◌, ◌∙◌, ◌⊎◌, ℕ, ◌≤◌, ◌++◌, not, nat_le, All, Bool, true, false, cond, List, [], ◌∷◌, Option, Some, None, drop, is_some, length, length-append, min, refl, sym, ap, subst, arith}
use Rattle.std.proofs.lemmas.List.Elements.{All-tail}
use Rattle.srp_iu.specs.declared.unit.Iu.{Iu}
use Rattle.tce_window.specs.PortState.{PortState}
use Rattle.vio_num.specs.declared.entry.Entry.{Entry}
use Rattle.block_server.specs.Talk.{MayAsk, talk_of, to_come}
use Rattle.block_server.specs.declared.unit.Unit.{Unit}
use Rattle.vscsi_client.specs.declared.outgoing.Outgoing.{Outgoing}
use Rattle.vscsi_client.specs.declared.stage.Stage.{Stage}
use Rattle.vscsi_client.specs.declared.stage.Stage.TheVariants.{Idle, Sent, Written}
use Rattle.vcpu_run.specs.PlainTalk.{AreApart, CountsAsked, AreInOrder, ArePending, Ask, AskedParts, Between, HasAnswer, HaveAnswers, IsAsk, IsTalking, KeepsTables, KeepsSlots, IsAnswerBy, TagsRise, all_asked, grants_one, has_login, is_login, is_logout, is_sent, login_name, name_of, names_of, on_behind}
use Rattle.vcpu_run.proofs.PlainLists.{answer_plain, last_login, order_tail}
use Rattle.vcpu_run.proofs.PlainReady.{all_front}
use Rattle.vcpu_run.proofs.PlainAsks.{answer_to}
use Rattle.vcpu_run.proofs.PlainServed.{all_kept, all_spared, answers_move}
use Rattle.vcpu_run.proofs.PlainStarts.{KeepPlaces, starts_behind}
use Rattle.vcpu_run.proofs.PlainRejected.{says_move}

-- the first entry tells of the first answer
pub answers_head : (window : PortState) (entry : Entry) (entries : List Entry) (asked : List Ask) (answers : List Iu) → HaveAnswers window (entry ∷ entries) asked answers
    → (ask : Ask) × (more : List Ask) × (answer : Iu) × (rest : List Iu) × (asked ≡ ask ∷ more) × (answers ≡ answer ∷ rest) × HasAnswer window entry ask answer
    × HaveAnswers window entries more rest
answers_head window entry entries [] answers have = absurd have
answers_head window entry entries (ask ∷ more) [] have = absurd have
answers_head window entry entries (ask ∷ more) (answer ∷ rest) have = (ask, more, answer, rest, refl, refl, have.0, have.1)

-- What such a step leaves as it was, and what it took: the first of all entries, by which the oldest request that is outstanding is so no more.
pub record TakesHead (at at' : Between) (entry : Entry) (oldest : Outgoing) (others : List Outgoing) : Type 0 where
  pub unit : at'.unit ≡ at.unit
  pub registered : at'.own.registered ≡ at.own.registered
  pub keeps : KeepsSlots (λ slot. ⊤) at.window at'.window
  pub tables : KeepsTables (λ ask. ⊤) at.window at'.window
  pub entries : at.client.kept ++ to_come at.own ≡ entry ∷ (at'.client.kept ++ to_come at'.own)
  pub before : at.client.outgoing ≡ oldest ∷ others
  pub outgoing : at'.client.outgoing ≡ others
  pub rows : length at'.client.rows ≡ length at.client.rows
  pub places : KeepPlaces at.client.rows at'.client.rows
  pub handshake : at'.client.handshake ≡ at.client.handshake
  pub due : at'.client.due ≡ at.client.due
  pub held : at'.client.held ≡ at.client.held
  pub granted : at'.client.granted ≡ at.client.granted
  pub login : at'.client.login ≡ at.client.login
  pub logout : at'.client.logout ≡ at.client.logout

-- the tag and the slot of the first
abbrev pub first_tag : List Outgoing → ℕ
first_tag [] = 0
first_tag (name ∷ names) = name.tag

abbrev pub first_slot : List Outgoing → ℕ
first_slot [] = 0
first_slot (name ∷ names) = name.slot

-- a login that was sent has a name
sent_named : (stage : Stage) → is_sent stage ≡ true → length (login_name stage) ≡ 1
sent_named (Sent tag slot) is = refl
sent_named (Written tag slot) is = absurd (cc (is))
sent_named Idle is = absurd (cc (is))

-- what is so of the first answer, and of what stays
pub takes_talk : (granted : ℕ) (at at' : Between) (asked : AskedParts) (answers : List Iu) (entry : Entry) (oldest : Outgoing) (others : List Outgoing)
    → IsTalking granted at [] asked answers → TakesHead at at' entry oldest others
    → (ask : Ask) × (more : List Ask) × (answer : Iu) × (rest : List Iu) × (asked.answered ≡ ask ∷ more) × HasAnswer at.window entry ask answer × (oldest.tag ≡ ask.tag) × (oldest.slot ≡ ask.slot)
    × IsTalking granted at' [] (record { answered = more; pending = asked.pending; coming = asked.coming }) rest
takes_talk granted at at' asked answers entry oldest others talk takes = (
  ask,
  more,
  answer,
  rest,
  head.4,
  head.6,
  tag_is,
  slot_is,
  record {
    registered = takes.registered ∙ talk.registered;
    handshake = takes.handshake ∙ talk.handshake;
    up = ap (λ (u : Unit). u.line.handshake) takes.unit ∙ talk.up;
    due = takes.due ∙ talk.due;
    held = takes.held ∙ talk.held;
    each = All-tail IsAsk ask left (subst (All IsAsk) all_is talk.each);
    slots = apart.1;
    tags = subst (λ (n : ℕ). TagsRise n left) (sym takes.rows) (subst (TagsRise (length at.client.rows)) all_is talk.tags).2;
    order = order_tail ask left order;
    pending = subst (λ (u : Unit). ArePending u.pending.items asked.pending) (sym takes.unit) talk.pending;
    coming = talk.coming;
    few = talk.few;
    may = subst (λ (u : Unit). All (λ one. MayAsk (talk_of u) one.iu) asked.coming) (sym takes.unit) talk.may;
    answered = answers_move at.window at'.window (λ slot. ⊤) takes.keeps (at'.client.kept ++ to_come at'.own) more rest (all_spared more)
        (all_front IsAsk more (asked.pending ++ asked.coming) (All-tail IsAsk ask left (subst (All IsAsk) all_is talk.each))) head.7;
    awaited = ap (drop 1) names ∙ sym (ap (λ (outgoing : List Outgoing). outgoing ++ login_name at.client.login) takes.outgoing)
        ∙ sym (ap (λ (stage : Stage). at'.client.outgoing ++ login_name stage) takes.login);
    logouts = subst (λ (logout : Option ℕ). All (λ one. is_logout one.iu ≡ true → logout ≡ Some one.slot) left) (sym takes.logout)
        (All-tail (λ (one : Ask). is_logout one.iu ≡ true → at.client.logout ≡ Some one.slot) ask left
        (subst (All (λ one. is_logout one.iu ≡ true → at.client.logout ≡ Some one.slot)) all_is talk.logouts));
    sent = sym (ap (λ b. cond b true (has_login left)) no_login) ∙ sym (ap has_login all_is) ∙ talk.sent ∙ sym (ap is_sent takes.login);
    stage = subst (λ (stage : Stage). (stage ≡ Idle) ⊎ (is_sent stage ≡ true)) (sym takes.login) talk.stage;
    none = λ none. absurd (no_items (sym takes.before ∙ talk.none (sym takes.granted ∙ none)));
    within = subst (λ (list : List Outgoing). length list ≤ 200) (sym takes.outgoing) (omega (arith, ap length takes.before, talk.within));
    counts = subst (λ (u : Unit). CountsAsked u asked.pending) (sym takes.unit) talk.counts;
    tables = all_kept at.window at'.window (λ one. ⊤) takes.tables (asked.pending ++ asked.coming) (all_spared (asked.pending ++ asked.coming)) talk.tables;
    starts = starts_behind at.client.rows at'.client.rows takes.places asked.answered (asked.pending ++ asked.coming) talk.tags talk.starts;
    spared = talk.spared;
    login = record {
      credits = subst (λ (known : Option ℕ). (known ≡ None) ⊎ (known ≡ Some (min granted 200))) (sym takes.granted) talk.login.credits;
      before = λ no. ap is_some takes.granted ∙ talk.login.before (has_is ∙ no)
          ∙ ap (λ (u : Unit). on_behind (nat_le 1 u.logins.current) (asked.pending ++ asked.coming)) (sym takes.unit);
      on = λ has. subst (λ (u : Unit). 1 ≤ u.logins.current) (sym takes.unit) (talk.login.on (has_is ∙ has));
      answer = λ has. ap is_some takes.granted ∙ talk.login.answer (has_is ∙ has) ∙ ap not grants_is;
      grant = says_move granted at.unit.id at'.unit.id at.window at'.window (ap (λ (u : Unit). u.id) takes.unit) takes.keeps.unit takes.keeps.strokes rest
          (All-tail (IsAnswerBy granted at.unit.id at.window) answer rest (subst (All (IsAnswerBy granted at.unit.id at.window)) head.5 talk.login.grant));
    };
  },
)
  where
    have : HaveAnswers at.window (entry ∷ (at'.client.kept ++ to_come at'.own)) asked.answered answers
    have = subst (λ (list : List Entry). HaveAnswers at.window list asked.answered answers) takes.entries talk.answered

    head : (ask : Ask) × (more : List Ask) × (answer : Iu) × (rest : List Iu) × (asked.answered ≡ ask ∷ more) × (answers ≡ answer ∷ rest)
        × HasAnswer at.window entry ask answer × HaveAnswers at.window (at'.client.kept ++ to_come at'.own) more rest
    head = answers_head at.window entry (at'.client.kept ++ to_come at'.own) asked.answered answers have

    ask : Ask
    ask = head.0

    more : List Ask
    more = head.1

    answer : Iu
    answer = head.2

    rest : List Iu
    rest = head.3

    left : List Ask
    left = more ++ (asked.pending ++ asked.coming)

    all_is : all_asked asked ≡ ask ∷ left
    all_is = ap (λ (list : List Ask). list ++ (asked.pending ++ asked.coming)) head.4

    apart : AreApart (ask ∷ left)
    apart = subst AreApart all_is talk.slots

    order : AreInOrder (ask ∷ left)
    order = subst AreInOrder all_is talk.order

    no_logout : is_logout ask.iu ≡ false
    no_logout = answer_to ask.iu answer head.6.suits

    names : name_of ask ∷ names_of left ≡ oldest ∷ (others ++ login_name at.client.login)
    names = sym (ap (λ b. cond b (names_of left) (name_of ask ∷ names_of left)) no_logout) ∙ sym (ap names_of all_is) ∙ talk.awaited
        ∙ ap (λ (outgoing : List Outgoing). outgoing ++ login_name at.client.login) takes.before

    tag_is : oldest.tag ≡ ask.tag
    tag_is = sym (ap (λ (list : List Outgoing). first_tag list) names)

    slot_is : oldest.slot ≡ ask.slot
    slot_is = sym (ap (λ (list : List Outgoing). first_slot list) names)

    -- a login would be the last, and would be awaited besides the oldest request
    is_login_no : (b : Bool) → is_login ask.iu ≡ b → is_login ask.iu ≡ false
    is_login_no false is = is
    is_login_no true is = absurd (omega (
      arith,
      ap length names,
      length-append others (login_name at.client.login),
      ap (λ (list : List Ask). length (names_of list)) (last_login [] ask left order is),
      sent_named at.client.login (sym talk.sent ∙ ap has_login all_is ∙ ap (λ b. cond b true (has_login left)) is),
    ))

    no_login : is_login ask.iu ≡ false
    no_login = is_login_no (is_login ask.iu) refl

    has_is : has_login asked.answered ≡ has_login more
    has_is = ap has_login head.4 ∙ ap (λ b. cond b true (has_login more)) no_login

    grants_is : grants_one answers ≡ grants_one rest
    grants_is = ap grants_one head.5 ∙ ap (λ b. cond b true (grants_one rest)) (answer_plain ask.iu answer no_login head.6.suits)

    no_items : oldest ∷ others ≡ [] → ⊥
    no_items e = cc (e)
