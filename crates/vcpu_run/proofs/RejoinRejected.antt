-- A client takes the answer that rejects its login beside a server unit whose session is over, or was.
use Rattle.std.proofs.Common.{◌≡◌, ◌∙◌, ◌⊎◌, inl, inr, ℕ, ◌++◌, All, Bool, true, false, true≢false, cond, List, [], ◌∷◌, Some, None, append-nil, length, refl, sym, ap, ap₂, subst}
use Rattle.std.specs.Prelude.{⊤}
use Rattle.std.proofs.lemmas.List.Elements.{All-cons, All-nil}
use Rattle.vio_num.specs.declared.entry.Entry.{Entry}
use Rattle.vio_num.specs.declared.names.UnitId.{UnitId}
use Rattle.srp_iu.specs.declared.login.LoginRej.{LoginRej}
use Rattle.srp_iu.specs.declared.login.LoginRsp.{LoginRsp}
use Rattle.srp_iu.specs.declared.login.TheConstants.{UNABLE_TO_ESTABLISH_CHANNEL}
use Rattle.srp_iu.specs.declared.unit.Iu.{Iu}
use Rattle.srp_iu.specs.declared.unit.Iu.TheVariants as units
use Rattle.tce_window.specs.PortState.{PortState}
use Rattle.block_server.specs.Doings.{Doing}
use Rattle.block_server.specs.Talk.{to_come}
use Rattle.vscsi_client.specs.Login.{login_ended}
use Rattle.vscsi_client.specs.State.{ClientState}
use Rattle.vscsi_client.specs.Turned.{Looks, SameHands, Site, Steps}
use Rattle.vscsi_client.specs.Turned.LoginStep.{Looked}
use Rattle.vscsi_client.specs.declared.found.Found.TheVariants as founds
use Rattle.vscsi_client.specs.declared.outgoing.Outgoing.{Outgoing}
use Rattle.vcpu_run.specs.OwnOver.{IsNews, IsOwed, LoginLast, LoginShows, NoneBehindGone, Rejoins, answers_among, news_among, stream_of, under_way}
use Rattle.vcpu_run.specs.PlainRejected.{HasRejection}
use Rattle.vcpu_run.specs.PlainTalk.{AreApart, Ask, HaveAnswers, IsAnswerBy, IsAsk, TagsRise, grants_one, has_login, is_granted, is_login, is_logout, name_of, names_of}
use Rattle.vcpu_run.proofs.RejoinAnswers.{FoundLogin, FoundOther, held_finds}
use Rattle.vcpu_run.proofs.RejoinEnded.{StillEarly, ended_phase, ends_still, joins_grant, with_window}
use Rattle.vcpu_run.proofs.RejoinGranted.{news_left, says_of}
use Rattle.vcpu_run.proofs.RejoinLooks.{held_behind, held_phase}
use Rattle.vcpu_run.proofs.RejoinSteps.{NextIn, StandsIn, StepsTo}
use Rattle.vcpu_run.proofs.OwnStreams.{AreSrp, answers_kept, news_kept, none_behind}
use Rattle.vcpu_run.proofs.PlainAsks.{all_parts, names_push}
use Rattle.vcpu_run.proofs.PlainEnds.{apart_front_all, rise_front}
use Rattle.vcpu_run.proofs.PlainFinds.{found_in}
use Rattle.vcpu_run.proofs.PlainLists.{answers_plain, granted_push, login_no_logout}
use Rattle.vcpu_run.proofs.PlainPuts.{LeavesWindow}
use Rattle.vcpu_run.proofs.PlainRejected.{rejection_move, says_move}
use Rattle.vcpu_run.proofs.PlainServed.{answers_move}

-- ---- lists

-- where none is a login
pub last_no_login : (asked : List Ask) → has_login asked ≡ false → LoginLast asked
last_no_login [] none = tt
last_no_login (ask ∷ asked) none = by (is_login ask.iu) refl none (λ more. last_no_login asked more)
  where
    by : (b : Bool) → is_login ask.iu ≡ b → cond b true (has_login asked) ≡ false → (has_login asked ≡ false → LoginLast asked) → LoginLast (ask ∷ asked)
    by true is none rest = absurd (true≢false none)
    by false isnt none rest = (λ is. absurd (true≢false (sym is ∙ isnt)), rest none)

-- lists with the same behind them that are equal
pub front_same : (xs ys : List Outgoing) (a : Outgoing) → xs ++ a ∷ [] ≡ ys ++ a ∷ [] → xs ≡ ys
front_same [] [] a e = refl
front_same [] (y ∷ []) a e = absurd (cc (e))
front_same [] (y ∷ z ∷ ys) a e = absurd (cc (e))
front_same (x ∷ []) [] a e = absurd (cc (e))
front_same (x ∷ z ∷ xs) [] a e = absurd (cc (e))
front_same (x ∷ xs) (y ∷ ys) a e = ap₂ (λ (o : Outgoing) (list : List Outgoing). o ∷ list) (heads x y (xs ++ a ∷ []) (ys ++ a ∷ []) e)
    (front_same xs ys a (tails x y (xs ++ a ∷ []) (ys ++ a ∷ []) e))
  where
    heads : (x y : Outgoing) (xs ys : List Outgoing) → x ∷ xs ≡ y ∷ ys → x ≡ y
    heads x y xs ys e = cc (e)

    tails : (x y : Outgoing) (xs ys : List Outgoing) → x ∷ xs ≡ y ∷ ys → xs ≡ ys
    tails x y xs ys e = cc (e)

-- ---- what the client asked besides

rejected_owed : (granted : ℕ) (id : UnitId) (old new : PortState) (s : ClientState) (stream rest : List Entry) (answered lost front : List Ask) (ask : Ask) (answers before : List Iu)
    → IsOwed granted id old s stream answered lost answers → answered ≡ front ++ ask ∷ [] → lost ≡ [] → is_login ask.iu ≡ true → has_login front ≡ false
    → under_way s.login ≡ name_of ask ∷ [] → All (IsAnswerBy granted id old) before → HaveAnswers old s.kept front before → LeavesWindow (λ slot. ⊤) old new → AreSrp s.kept
    → answers_among rest ≡ [] → All IsNews (news_among rest) → NoneBehindGone rest → IsOwed granted id new (login_ended s) (s.kept ++ rest) front [] before
rejected_owed granted id old new s stream rest answered lost front ask answers before owed are none login no_login named grant kept left srp told news behind = record {
  each = subst (All IsAsk) (sym (append-nil front)) each;
  slots = subst AreApart (sym (append-nil front)) (apart_front_all front (ask ∷ []) (subst AreApart all_is owed.slots));
  tags = subst (TagsRise (length s.rows)) (sym (append-nil front)) (rise_front (length s.rows) front (ask ∷ []) (subst (TagsRise (length s.rows)) all_is owed.tags));
  order = subst LoginLast (sym (append-nil front)) (last_no_login front no_login);
  told = subst (λ (list : List Entry). HaveAnswers new list front before) (sym (append-nil s.kept) ∙ ap (λ (list : List Entry). s.kept ++ list) (sym told) ∙ sym (answers_kept s.kept rest srp))
      (answers_move old new (λ slot. ⊤) left.keeps s.kept front before (every front) each kept);
  news = subst (All IsNews) (sym (news_kept s.kept rest srp)) news;
  behind = none_behind s.kept rest srp behind;
  awaited = ap names_of (append-nil front) ∙ names ∙ sym (append-nil s.outgoing);
  logouts = subst (All (λ one. is_logout one.iu ≡ true → s.logout ≡ Some one.slot)) (sym (append-nil front))
      (all_parts (λ (one : Ask). is_logout one.iu ≡ true → s.logout ≡ Some one.slot) front (ask ∷ [])
      (subst (All (λ one. is_logout one.iu ≡ true → s.logout ≡ Some one.slot)) all_is owed.logouts)).0;
  sent = ap has_login (append-nil front) ∙ no_login;
  written = All-nil (LoginShows new (login_ended s).login);
  unanswered = tt;
  none = owed.none;
  within = owed.within;
  credits = owed.credits;
  grant = says_move granted id id old new refl left.keeps.unit left.keeps.strokes before grant;
}
  where
    all_is : answered ++ lost ≡ front ++ ask ∷ []
    all_is = ap₂ (λ (xs ys : List Ask). xs ++ ys) are none ∙ append-nil (front ++ ask ∷ [])

    each : All IsAsk front
    each = (all_parts IsAsk front (ask ∷ []) (subst (All IsAsk) all_is owed.each)).0

    every : (list : List Ask) → All (λ (one : Ask). ⊤) list
    every [] = All-nil (λ (one : Ask). ⊤)
    every (first ∷ list) = All-cons (λ (one : Ask). ⊤) first list tt (every list)

    names : names_of front ≡ s.outgoing
    names = front_same (names_of front) s.outgoing (name_of ask)
        (sym (names_push front ask (login_no_logout ask.iu login)) ∙ sym (ap names_of all_is) ∙ owed.awaited ∙ ap (λ (list : List Outgoing). s.outgoing ++ list) named)

-- ---- the answer

-- Its session is over, or was; the answer was laid by the unit.
pub record RejectedIn (promised : Bool) (granted reason : ℕ) (d : Doing) (a b : Site) : Type 0 where
  pub steps : StepsTo promised granted d a b
  pub none_held : b.client.held ≡ None
  pub reason_is : reason ≡ UNABLE_TO_ESTABLISH_CHANNEL
  pub laid : HasRejection d.id reason b.at.own.strokes

-- What is so of the answer.
record Rejects (granted reason : ℕ) (d : Doing) (is_answer : Iu) (b : Site) : Type 0 where
  reason_is : reason ≡ UNABLE_TO_ESTABLISH_CHANNEL
  laid : HasRejection d.id reason b.at.own.strokes
  no_grant : is_granted is_answer ≡ false

pub over_rejected : (promised : Bool) (granted line reason : ℕ) (d : Doing) (a b : Site) → StandsIn promised granted d a → Steps line (Looked (founds.Rejected reason)) a b → SameHands a b → RejectedIn promised granted reason d a b
over_rejected promised granted line reason d a b stands looked hands = by (held_finds promised granted d a b (founds.Rejected reason) stands looks looks.finds.1)
  where
    looks : Looks false a.client b.client a.at.own b.at.own (founds.Rejected reason)
    looks = subst (λ shared. Looks shared a.client b.client a.at.own b.at.own (founds.Rejected reason)) stands.seen.apart looked.0

    ends : (is : FoundLogin promised granted d a b stands looks.entry (founds.Rejected reason)) → Rejects granted reason d is.is.answer b → StepsTo promised granted d a b
    ends is said = at (ended_phase granted d b.at.own a.client (login_ended a.client) a.at.crq a.client.kept a.client.kept looks.entry (to_come a.at.crq) stands.over.answered stands.over.lost
        stands.registered stands.kept stands.kept looks.finds.0 (held_phase promised granted d a looks.entry stands looks.held))
      where
        next : StillEarly granted (with_window b.at.own d) (login_ended a.client) a.at.crq (a.client.kept ++ to_come a.at.crq)
            → NextIn promised granted (with_window b.at.own d) (login_ended a.client) a.at.crq
        next early = record {
          answered = is.is.front;
          lost = [];
          answers = is.is.before;
          rest = to_come a.at.crq;
          come = refl;
          owed = rejected_owed granted d.id d.client b.at.own a.client (stream_of a.client stands.over.rest) (to_come a.at.crq) stands.over.answered stands.over.lost is.is.front is.is.ask
              stands.over.answers is.is.before stands.over.owed is.last.answered_is is.last.lost_none is.login is.last.no_login is.last.named
              (all_parts (IsAnswerBy granted d.id d.client) is.is.before (is.is.answer ∷ is.is.later)
              (subst (All (IsAnswerBy granted d.id d.client)) is.is.answers_are stands.over.owed.grant)).0
              is.is.kept_are is.left stands.kept is.last.come_none (news_left promised granted d a looks.entry stands looks.held looks.finds.1) (held_behind promised granted d a looks.entry stands looks.held).1;
          there = stands.over.there stands.registered;
          tabled = stands.over.tabled;
          on = λ current. absurd (current early.current);
          phase = early.phase is.is.front [];
          kept = stands.kept;
          logout = stands.logout;
          fewer = λ some. absurd (true≢false (sym some ∙ answers_plain d.client a.client.kept is.is.front is.is.before is.is.kept_are is.last.no_login));
        }

        grants : grants_one stands.over.answers ≡ false
        grants = ap grants_one (is.is.answers_are ∙ ap (λ (list : List Iu). is.is.before ++ is.is.answer ∷ list) is.last.later_none)
            ∙ granted_push is.is.before is.is.answer (answers_plain d.client a.client.kept is.is.front is.is.before is.is.kept_are is.last.no_login) ∙ said.no_grant

        at : StillEarly granted (with_window b.at.own d) (login_ended a.client) a.at.crq (a.client.kept ++ to_come a.at.crq)
            ⊎ Rejoins granted false d a.client a.at.crq (a.client.kept ++ looks.entry ∷ to_come a.at.crq) stands.over.answered stands.over.lost
            → StepsTo promised granted d a b
        at (inl early) =
            ends_still promised promised granted d a b stands hands looked.1 is.left.own (subst (λ (s : ClientState). NextIn promised granted (with_window b.at.own d) s a.at.crq) (sym looks.client) (next early))
        at (inr joins) =
            let has = joins_grant granted d a.client a.at.crq (a.client.kept ++ looks.entry ∷ to_come a.at.crq) stands.over.answered stands.over.lost is.is.front is.is.ask stands.registered joins
            is.last.answered_is is.login is.last.named stands.over.owed.unanswered in
            absurd (true≢false (sym (stands.over.on stands.registered has.is.current) ∙ grants))

    said : (is : FoundLogin promised granted d a b stands looks.entry (founds.Rejected reason))
        → ((r : LoginRsp) × (is.is.answer ≡ units.LoginRsp r) × (r.tag ≡ is.is.ask.tag)) ⊎ ((r : LoginRej) × (is.is.answer ≡ units.LoginRej r) × (r.tag ≡ is.is.ask.tag))
        → Rejects granted reason d is.is.answer b
    said is (inl (r, answer, tag)) = absurd (no_reject (is.found_is ∙ ap found_in answer))
      where
        no_reject : founds.Rejected reason ≡ founds.Granted r.delta → ⊥
        no_reject e = cc (e)
    said is (inr (r, answer, tag)) = record {
      reason_is = same ∙ by_unit.0;
      laid = subst (λ (n : ℕ). HasRejection d.id n b.at.own.strokes) (sym same) (rejection_move d.id d.id r.reason d.client.strokes b.at.own.strokes refl is.left.keeps.strokes by_unit.1);
      no_grant = ap is_granted answer;
    }
      where
        same_reason : (n m : ℕ) → founds.Rejected n ≡ founds.Rejected m → n ≡ m
        same_reason n m e = cc (e)

        same : reason ≡ r.reason
        same = same_reason reason r.reason (is.found_is ∙ ap found_in answer)

        by_unit : (r.reason ≡ UNABLE_TO_ESTABLISH_CHANNEL) × HasRejection d.id r.reason d.client.strokes
        by_unit = subst (IsAnswerBy granted d.id d.client) answer (says_of promised granted d a b looks.entry (founds.Rejected reason) stands is)

    by : FoundOther a b looks.entry (founds.Rejected reason) ⊎ FoundLogin promised granted d a b stands looks.entry (founds.Rejected reason) → RejectedIn promised granted reason d a b
    by (inl other) = absurd (no_answer other.found_is)
      where
        no_answer : founds.Rejected reason ≡ founds.Answer → ⊥
        no_answer e = cc (e)
    by (inr is) =
        let says = said is is.of_login in
        record { steps = ends is says; none_held = ap (λ (s : ClientState). s.held) looks.client; reason_is = says.reason_is; laid = says.laid }
