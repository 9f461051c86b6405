-- A client beside a server unit whose session is over, or was, keeps an answer that it looked at; and what it finds where an answer is to its login.
use Rattle.std.proofs.Common.{◌≡◌, ◌∙◌, ◌⊎◌, inl, inr, ℕ, ◌++◌, All, Bool, true, false, List, [], ◌∷◌, Option, Some, None, IsSome, append_assoc, refl, sym, ap, subst}
use Rattle.std.specs.Prelude.{⊤}
use Rattle.std.proofs.lemmas.List.Elements.{All-head, All-push}
use Rattle.vio_num.specs.Entry.{is_srp_entry}
use Rattle.vio_num.specs.declared.entry.Entry.{Entry}
use Rattle.srp_iu.specs.declared.login.LoginRej.{LoginRej}
use Rattle.srp_iu.specs.declared.login.LoginRsp.{LoginRsp}
use Rattle.srp_iu.specs.declared.unit.Iu.TheVariants as units
use Rattle.tce_window.specs.PortState.{PortState}
use Rattle.block_server.specs.Doings.{Doing}
use Rattle.block_server.specs.Talk.{to_come}
use Rattle.vscsi_client.specs.State.{ClientState}
use Rattle.vscsi_client.specs.Taking.{slot_of}
use Rattle.vscsi_client.specs.Turned.{Looks, SameHands, Site, Steps}
use Rattle.vscsi_client.specs.Turned.LoginStep.{Looked}
use Rattle.vscsi_client.specs.declared.found.Found.{Found}
use Rattle.vscsi_client.specs.declared.found.Found.TheVariants as founds
use Rattle.vscsi_client.specs.declared.outgoing.Outgoing.{Outgoing}
use Rattle.vcpu_run.specs.OwnOver.{IsAware, answers_among, stream_of}
use Rattle.vcpu_run.specs.PlainTalk.{HaveAnswers, IsAsk, is_login}
use Rattle.vcpu_run.proofs.RejoinFinds.{TellsLast, owed_login, owed_other, tells_last}
use Rattle.vcpu_run.proofs.RejoinLooks.{LookedIn, looks_still}
use Rattle.vcpu_run.proofs.RejoinShakes.{stream_held}
use Rattle.vcpu_run.proofs.RejoinSteps.{NextIn, StandsIn}
use Rattle.vcpu_run.proofs.OwnStreams.{answers_kept, answers_srp}
use Rattle.vcpu_run.proofs.RejoinTaken.{next_same}
use Rattle.vcpu_run.proofs.PlainAsks.{all_parts}
use Rattle.vcpu_run.proofs.PlainEnds.{IsAmong, among}
use Rattle.vcpu_run.proofs.PlainFinds.{TellsLogin, TellsOther, finds_answer, finds_login, found_in}
use Rattle.vcpu_run.proofs.PlainLooks.{login_answer}
use Rattle.vcpu_run.proofs.PlainPuts.{LeavesWindow}
use Rattle.vcpu_run.proofs.PlainStill.{reads_leave}

-- ---- what the client finds

-- the answer that the entry tells of
pub held_among : (promised : Bool) (granted : ℕ) (d : Doing) (a : Site) (entry : Entry) → (stands : StandsIn promised granted d a) → a.client.held ≡ Some entry → is_srp_entry entry ≡ true
    → IsAmong d.client a.client.kept entry (answers_among (to_come a.at.crq)) stands.over.answered stands.over.answers
held_among promised granted d a entry stands held srp =
    among d.client a.client.kept entry (answers_among (to_come a.at.crq)) stands.over.answered stands.over.answers
    (subst (λ (list : List Entry). HaveAnswers d.client list stands.over.answered stands.over.answers)
    (ap answers_among (stream_held promised granted d a entry stands held) ∙ answers_kept a.client.kept (entry ∷ to_come a.at.crq) stands.kept
    ∙ ap (λ (list : List Entry). a.client.kept ++ list) (answers_srp entry (to_come a.at.crq) srp)) stands.over.owed.told)

-- It is to another request, and is kept.
pub record FoundOther (a b : Site) (entry : Entry) (found : Found) : Type 0 where
  pub found_is : found ≡ founds.Answer
  pub window : b.at.own ≡ a.at.own
  pub unaware : IsAware a.client → ⊥

-- It is to the login, of which it says so.
pub record FoundLogin (promised : Bool) (granted : ℕ) (d : Doing) (a b : Site) (stands : StandsIn promised granted d a) (entry : Entry) (found : Found) : Type 0 where
  pub is : IsAmong d.client a.client.kept entry (answers_among (to_come a.at.crq)) stands.over.answered stands.over.answers
  pub login : is_login is.ask.iu ≡ true
  pub last : TellsLast a.client stands.over.answered stands.over.lost is.front is.ask is.before is.later (answers_among (to_come a.at.crq))
  pub found_is : found ≡ found_in is.answer
  pub left : LeavesWindow (λ slot. ⊤) d.client b.at.own
  pub of_login : ((r : LoginRsp) × (is.answer ≡ units.LoginRsp r) × (r.tag ≡ is.ask.tag)) ⊎ ((r : LoginRej) × (is.answer ≡ units.LoginRej r) × (r.tag ≡ is.ask.tag))

pub held_finds : (promised : Bool) (granted : ℕ) (d : Doing) (a b : Site) (found : Found) → (stands : StandsIn promised granted d a) → (looks : Looks false a.client b.client a.at.own b.at.own found)
    → is_srp_entry looks.entry ≡ true → FoundOther a b looks.entry found ⊎ FoundLogin promised granted d a b stands looks.entry found
held_finds promised granted d a b found stands looks srp = by (is_login is.ask.iu) refl
  where
    is : IsAmong d.client a.client.kept looks.entry (answers_among (to_come a.at.crq)) stands.over.answered stands.over.answers
    is = held_among promised granted d a looks.entry stands looks.held srp

    left : LeavesWindow (λ slot. ⊤) d.client b.at.own
    left = subst (λ (window : PortState). LeavesWindow (λ slot. ⊤) window b.at.own) (sym stands.seen.window) (reads_leave a.at.own b.at.own stands.seen.usable looks.reads)

    unaware : TellsOther a.client looks.entry → IsAware a.client → ⊥
    unaware tells aware = none (slot_of tells.tag []) refl (subst (λ (list : List Outgoing). IsSome (slot_of tells.tag list)) aware.outgoing tells.outstanding)
      where
        none : (o : Option ℕ) → o ≡ None → IsSome o → ⊥
        none o e some = cc (e, some)

    by : (b' : Bool) → is_login is.ask.iu ≡ b' → FoundOther a b looks.entry found ⊎ FoundLogin promised granted d a b stands looks.entry found
    by false isnt =
        let tells = owed_other granted d.id d.client a.client (stream_of a.client stands.over.rest) (answers_among (to_come a.at.crq)) looks.entry stands.over.answered stands.over.lost
        stands.over.answers stands.over.owed is isnt in
        let finds = finds_answer a.client looks.entry a.at.own b.at.own found tells looks.finds in
        inl (record { found_is = finds.0; window = finds.1; unaware = unaware tells })
    by true login = inr (record {
      is = is;
      login = login;
      last = tells_last granted d.id d.client a.client (stream_of a.client stands.over.rest) (answers_among (to_come a.at.crq)) looks.entry stands.over.answered stands.over.lost
          stands.over.answers stands.over.owed is login;
      found_is = finds_login a.client looks.entry a.at.own b.at.own found is.answer stands.seen.usable tells looks.finds;
      left = left;
      of_login = login_answer is.ask.tag is.ask.iu is.answer login is_ask.tag_is is.has.suits;
    })
      where
        tells : TellsLogin a.client b.at.own looks.entry is.answer
        tells = owed_login granted d.id d.client b.at.own a.client (stream_of a.client stands.over.rest) (answers_among (to_come a.at.crq)) looks.entry stands.over.answered stands.over.lost
            stands.over.answers stands.over.owed is login left

        is_ask : IsAsk is.ask
        is_ask = All-head IsAsk is.ask is.behind (all_parts IsAsk is.front (is.ask ∷ is.behind)
            (subst (All IsAsk) is.asked_are (all_parts IsAsk stands.over.answered stands.over.lost stands.over.owed.each).0)).1

-- what is neither kept nor ends the login is not found
pub found_ends : (promised : Bool) (granted : ℕ) (d : Doing) (a b : Site) (stands : StandsIn promised granted d a) (entry : Entry) (found : Found) → FoundLogin promised granted d a b stands entry found
    → ((credits : ℕ) × (found ≡ founds.Granted credits)) ⊎ ((reason : ℕ) × (found ≡ founds.Rejected reason))
found_ends promised granted d a b stands entry found is = by is.of_login
  where
    by : ((r : LoginRsp) × (is.is.answer ≡ units.LoginRsp r) × (r.tag ≡ is.is.ask.tag)) ⊎ ((r : LoginRej) × (is.is.answer ≡ units.LoginRej r) × (r.tag ≡ is.is.ask.tag))
        → ((credits : ℕ) × (found ≡ founds.Granted credits)) ⊎ ((reason : ℕ) × (found ≡ founds.Rejected reason))
    by (inl (r, said, tag)) = inl (r.delta, is.found_is ∙ ap found_in said)
    by (inr (r, said, tag)) = inr (r.reason, is.found_is ∙ ap found_in said)

-- ---- an answer is kept

pub over_keeps : (promised : Bool) (granted line : ℕ) (d : Doing) (a b : Site) → StandsIn promised granted d a → Steps line (Looked founds.Answer) a b → SameHands a b → LookedIn promised granted d a b
over_keeps promised granted line d a b stands looked hands = by (held_finds promised granted d a b founds.Answer stands looks looks.finds.1)
  where
    looks : Looks false a.client b.client a.at.own b.at.own founds.Answer
    looks = subst (λ shared. Looks shared a.client b.client a.at.own b.at.own founds.Answer) stands.seen.apart looked.0

    next : (IsAware a.client → ⊥) → NextIn promised granted d (record a.client { kept = a.client.kept ++ looks.entry ∷ []; held = None }) a.at.crq
    next unaware = next_same promised granted d a (record a.client { kept = a.client.kept ++ looks.entry ∷ []; held = None }) a.at.crq stands
        (record { rows = refl; outgoing = refl; login = refl; logout = refl; granted = refl })
        (record { handshake = refl; login = refl; due = refl; aware = λ aware. absurd (unaware aware) }) refl
        (All-push (λ (entry : Entry). is_srp_entry entry ≡ true) a.client.kept looks.entry stands.kept looks.finds.1) refl
        (append_assoc a.client.kept (looks.entry ∷ []) (to_come a.at.crq) ∙ sym (stream_held promised granted d a looks.entry stands looks.held))

    by : FoundOther a b looks.entry founds.Answer ⊎ FoundLogin promised granted d a b stands looks.entry founds.Answer → LookedIn promised granted d a b
    by (inl other) = record {
      steps = looks_still promised granted d a b stands hands looked.1 other.window (subst (λ (s : ClientState). NextIn promised granted d s a.at.crq) (sym looks.client) (next other.unaware));
      end = looked.1;
      none_held = ap (λ (s : ClientState). s.held) looks.client;
    }
    by (inr login) = absurd (no_end (found_ends promised granted d a b stands looks.entry founds.Answer login))
      where
        no_end : ((credits : ℕ) × (founds.Answer ≡ founds.Granted credits)) ⊎ ((reason : ℕ) × (founds.Answer ≡ founds.Rejected reason)) → ⊥
        no_end (inl (credits, e)) = cc (e)
        no_end (inr (reason, e)) = cc (e)

-- ---- and nothing else is found

pub over_nothing : (promised : Bool) (granted line : ℕ) (d : Doing) (a b : Site) → StandsIn promised granted d a → Steps line (Looked founds.Nothing) a b → ⊥
over_nothing promised granted line d a b stands looked = by (held_finds promised granted d a b founds.Nothing stands looks looks.finds.1)
  where
    looks : Looks false a.client b.client a.at.own b.at.own founds.Nothing
    looks = subst (λ shared. Looks shared a.client b.client a.at.own b.at.own founds.Nothing) stands.seen.apart looked.0

    no_end : ((credits : ℕ) × (founds.Nothing ≡ founds.Granted credits)) ⊎ ((reason : ℕ) × (founds.Nothing ≡ founds.Rejected reason)) → ⊥
    no_end (inl (credits, e)) = cc (e)
    no_end (inr (reason, e)) = cc (e)

    by : FoundOther a b looks.entry founds.Nothing ⊎ FoundLogin promised granted d a b stands looks.entry founds.Nothing → ⊥
    by (inl other) = cc (other.found_is)
    by (inr login) = no_end (found_ends promised granted d a b stands looks.entry founds.Nothing login)

pub over_use : (promised : Bool) (granted line page word : ℕ) (d : Doing) (a b : Site) → StandsIn promised granted d a → Steps line (Looked (founds.InUse page word)) a b → ⊥
over_use promised granted line page word d a b stands looked = by (held_finds promised granted d a b (founds.InUse page word) stands looks looks.finds.1)
  where
    looks : Looks false a.client b.client a.at.own b.at.own (founds.InUse page word)
    looks = subst (λ shared. Looks shared a.client b.client a.at.own b.at.own (founds.InUse page word)) stands.seen.apart looked.0

    no_end : ((credits : ℕ) × (founds.InUse page word ≡ founds.Granted credits)) ⊎ ((reason : ℕ) × (founds.InUse page word ≡ founds.Rejected reason)) → ⊥
    no_end (inl (credits, e)) = cc (e)
    no_end (inr (reason, e)) = cc (e)

    by : FoundOther a b looks.entry (founds.InUse page word) ⊎ FoundLogin promised granted d a b stands looks.entry (founds.InUse page word) → ⊥
    by (inl other) = cc (other.found_is)
    by (inr login) = no_end (found_ends promised granted d a b stands looks.entry (founds.InUse page word) login)
