-- A plain client that waits for its login takes an entry and looks at it: it keeps the answer to another request, or its login ends.
use Rattle.std.proofs.Common.{◌≡◌, ◌≢◌, ◌∙◌, ◌⊎◌, inl, inr, ℕ, ◌==◌, ◌++◌, All, true, false, true≢false, cond, List, [], ◌∷◌, Some, None, append_assoc, append-nil, length, refl, sym, ap, ap₂, subst, arith, IsSome}
use Rattle.std.specs.Prelude.{⊤}
use Rattle.std.proofs.lemmas.Bool.Decides.{nat_tests}
use Rattle.std.proofs.lemmas.List.Elements.{All-head}
use Rattle.vio_num.specs.declared.entry.Entry.{Entry}
use Rattle.srp_iu.specs.declared.login.LoginRej.{LoginRej}
use Rattle.srp_iu.specs.declared.login.LoginRsp.{LoginRsp}
use Rattle.srp_iu.specs.declared.unit.Iu.{Iu}
use Rattle.srp_iu.specs.declared.unit.Iu.TheVariants as units
use Rattle.tce_window.specs.PortState.{PortState}
use Rattle.block_server.specs.Talk.{tag_asked}
use Rattle.vscsi_client.specs.Login.{is_kept, login_slot}
use Rattle.vscsi_client.specs.Sending.{task_of}
use Rattle.vscsi_client.specs.State.{ClientState}
use Rattle.vscsi_client.specs.Taking.{slot_of}
use Rattle.vscsi_client.specs.declared.outgoing.Outgoing.{Outgoing}
use Rattle.vscsi_client.specs.declared.stage.Stage.{Stage}
use Rattle.vscsi_client.specs.declared.stage.Stage.TheVariants.{Idle, Sent, Written}
use Rattle.vcpu_run.specs.PlainTalk.{Ask, AskedParts, Between, IsAnswerTo, IsAsk, IsTalking, TagsRise, all_asked, has_login, is_login, is_sent, login_name, name_of, names_of}
use Rattle.vcpu_run.proofs.PlainAsks.{all_parts, answer_to}
use Rattle.vcpu_run.proofs.PlainEnds.{IsAmong, IsLast, has_login_mid, last_is}
use Rattle.vcpu_run.proofs.PlainFinds.{TellsLogin, TellsOther}
use Rattle.vcpu_run.proofs.PlainPuts.{LeavesWindow}
use Rattle.vcpu_run.proofs.PlainTells.{find_front, find_named, kept_no, login_named, names_mid, other_login, tags_below}

-- ---- what the entry tells of

-- all that is asked, about the one of which an entry tells
pub all_about : (at : Between) (kept : List Entry) (entry : Entry) (come : List Entry) (asked : AskedParts) (answers : List Iu) → (is : IsAmong at.window kept entry come asked.answered answers)
    → all_asked asked ≡ is.front ++ is.ask ∷ (is.behind ++ (asked.pending ++ asked.coming))
all_about at kept entry come asked answers is =
    ap (λ (list : List Ask). list ++ (asked.pending ++ asked.coming)) is.asked_are ∙ append_assoc is.front (is.ask ∷ is.behind) (asked.pending ++ asked.coming)

pub tells_other : (granted : ℕ) (at : Between) (asked : AskedParts) (answers : List Iu) (kept : List Entry) (entry : Entry) (come : List Entry) → IsTalking granted at [] asked answers
    → (is : IsAmong at.window kept entry come asked.answered answers) → is_login is.ask.iu ≡ false
    → (s : ClientState) → s.outgoing ≡ at.client.outgoing → s.login ≡ at.client.login → s.kept ≡ kept → TellsOther s entry
tells_other granted at asked answers kept entry come talk is isnt s outgoing login kept_is = record {
  long = is.has.long;
  tag = is.ask.tag;
  few = is.has.few;
  entry_is = is.has.entry_is;
  other = ap (login_slot is.ask.tag) login ∙ other.1;
  outstanding = subst (λ (list : List Outgoing). IsSome (slot_of is.ask.tag list)) (sym outgoing)
      (find_front is.ask.tag at.client.outgoing (login_name at.client.login) other.0
      (subst (λ (list : List Outgoing). IsSome (slot_of is.ask.tag list)) (sym mid ∙ sym (ap names_of all_is) ∙ talk.awaited)
      (find_named (names_of is.front) (name_of is.ask) (names_of left))));
  first = ap (is_kept is.ask.tag) kept_is
      ∙ kept_no at.window kept is.front is.before is.ask.tag is.kept_are (tags_below (length at.client.rows) is.front is.ask left (subst (TagsRise (length at.client.rows)) all_is talk.tags));
}
  where
    left : List Ask
    left = is.behind ++ (asked.pending ++ asked.coming)

    all_is : all_asked asked ≡ is.front ++ is.ask ∷ left
    all_is = all_about at kept entry come asked answers is

    mid : names_of (is.front ++ is.ask ∷ left) ≡ names_of is.front ++ name_of is.ask ∷ names_of left
    mid = names_mid is.front is.ask left (answer_to is.ask.iu is.answer is.has.suits)

    other : All (λ (name : Outgoing). name.tag ≢ is.ask.tag) (login_name at.client.login) × (login_slot is.ask.tag at.client.login ≡ None)
    other = other_login (length at.client.rows) at.client (all_asked asked) is.front is.ask left all_is isnt talk.tags talk.order talk.awaited talk.sent talk.stage

-- the answer to a login grants or rejects it
pub login_answer : (tag : ℕ) (asked answer : Iu) → is_login asked ≡ true → tag_asked asked ≡ tag → IsAnswerTo asked answer
    → ((r : LoginRsp) × (answer ≡ units.LoginRsp r) × (r.tag ≡ tag)) ⊎ ((r : LoginRej) × (answer ≡ units.LoginRej r) × (r.tag ≡ tag))
login_answer tag (units.LoginReq request) (units.LoginRsp r) is tag_is suits = inl (r, refl, suits ∙ tag_is)
login_answer tag (units.LoginReq request) (units.LoginRej r) is tag_is suits = inr (r, refl, suits ∙ tag_is)
login_answer tag (units.LoginReq request) answer is tag_is suits = absurd suits
login_answer tag asked answer isnt tag_is suits = absurd (cc (isnt))

pub tells_login : (granted : ℕ) (at : Between) (asked : AskedParts) (answers : List Iu) (kept : List Entry) (entry : Entry) (come : List Entry) → IsTalking granted at [] asked answers
    → (is : IsAmong at.window kept entry come asked.answered answers) → (login : is_login is.ask.iu ≡ true) → (window : PortState) → LeavesWindow (λ slot. ⊤) at.window window
    → (s : ClientState) → s.login ≡ at.client.login → TellsLogin s window entry is.answer
tells_login granted at asked answers kept entry come talk is login window left s same = record {
  long = is.has.long;
  tag = is.ask.tag;
  slot = is.ask.slot;
  few = is.has.few;
  entry_is = is.has.entry_is;
  login = ap (login_slot is.ask.tag) same ∙ by at.client.login refl;
  has = record {
    own = left.own;
    within = is_ask.slot_is;
    bytes = is.has.bytes;
    stand = left.keeps.slots is.ask.slot is.has.bytes is_ask.slot_is tt is.has.whole is.has.stand;
    whole = is.has.whole;
    spelled = is.has.spelled;
  };
  of_login = login_answer is.ask.tag is.ask.iu is.answer login is_ask.tag_is is.has.suits;
}
  where
    last : IsLast at asked come is.front is.ask
    last = (last_is granted at asked answers kept entry come talk is login).0

    all_is : all_asked asked ≡ is.front ++ is.ask ∷ []
    all_is = ap₂ (λ (answered rest : List Ask). answered ++ rest) last.answered (ap₂ (λ (pending coming : List Ask). pending ++ coming) last.pending last.coming)
        ∙ append-nil (is.front ++ is.ask ∷ [])

    is_ask : IsAsk is.ask
    is_ask = All-head IsAsk is.ask [] (all_parts IsAsk is.front (is.ask ∷ []) (subst (All IsAsk) all_is talk.each)).1

    sent : is_sent at.client.login ≡ true
    sent = sym talk.sent ∙ ap has_login all_is ∙ has_login_mid is.front is.ask [] login

    by : (stage : Stage) → at.client.login ≡ stage → login_slot is.ask.tag stage ≡ Some is.ask.slot
    by Idle e = absurd (true≢false (sym sent ∙ ap is_sent e))
    by (Written tag slot) e = absurd (true≢false (sym sent ∙ ap is_sent e))
    by (Sent tag slot) e = ap (λ b. cond b (Some slot) None) same_tag ∙ ap (λ (name : Outgoing). Some name.slot) (sym named)
      where
        named : name_of is.ask ≡ task_of tag slot
        named = login_named (all_asked asked) at.client.outgoing tag slot (record { front = is.front; login = is.ask; is = all_is; is_login = login })
            (talk.awaited ∙ ap (λ (l : Stage). at.client.outgoing ++ login_name l) e)

        tag_is : is.ask.tag ≡ tag
        tag_is = ap (λ (name : Outgoing). name.tag) named

        same_tag : (tag == is.ask.tag) ≡ true
        same_tag = grind (arith, nat_tests, tag_is)
