-- A turn of a client's server unit is ready where it has the rights that it needs; and it needs none before both have heard of one another.
use Rattle.std.proofs.Common.{◌≡◌, ◌∙◌, inl, inr, ℕ, ◌+◌, ◌≤◌, ◌++◌, false, List, [], ◌∷◌, length, length-append, refl, sym, ap, subst, arith}
use Rattle.vio_num.specs.declared.entry.Entry.{Entry}
use Rattle.crq_session.specs.Answered.{taken_now}
use Rattle.tce_window.specs.PortState.{PortState}
use Rattle.block_server.specs.Talk.{HearsAll, IsTurnReady, SayWords, Talk, Word, reach, replies, talk_of, to_come}
use Rattle.block_server.specs.Talk.Word.{begins, gone}
use Rattle.block_server.specs.declared.request.Request.{Request}
use Rattle.vcpu_run.specs.PlainTalk.{AreSaidThere, Between, HearsOfClient, HearsOfGone, InPhase, IsAway, IsBeginning, IsCalm}
use Rattle.vcpu_run.proofs.OwnReady.{HasItsRights}
use Rattle.vcpu_run.proofs.PlainReady.{all_few, in_order, own_few, pending_long, replies_few, room_for, words_few}

-- ---- before both have heard of one another

no_words : (window : PortState) (entries : List Entry) → AreSaidThere window entries [] → SayWords window entries []
no_words window [] said = tt
no_words window (entry ∷ entries) said = absurd said

said_gone : (window : PortState) (entries : List Entry) → AreSaidThere window entries (gone ∷ []) → SayWords window entries (gone ∷ [])
said_gone window [] said = absurd said
said_gone window (entry ∷ entries) said = (said.0, no_words window entries said.1)

said_begins : (window : PortState) (entries : List Entry) → AreSaidThere window entries (begins ∷ []) → SayWords window entries (begins ∷ [])
said_begins window [] said = absurd said
said_begins window (entry ∷ entries) said = (said.0, no_words window entries said.1)

nothing_first : (list : List Request) (request : Request) (rest : List Request) → list ≡ request ∷ rest → list ≡ [] → ⊥
nothing_first list request rest is none = cc (is, none)

-- nothing is pending once these are heard
none_rights : (at : Between) (words : List Word) → SayWords at.window (to_come at.server) words
    → ((talk : Talk) → HearsAll (talk_of at.unit) (length (taken_now at.server)) words talk → talk.pending ≡ []) → HasItsRights at words
none_rights at words said none = record {
  said = said;
  next = λ talk request rest heard first isnt. absurd (nothing_first talk.pending request rest first (none talk heard));
}

pub away_rights : (granted : ℕ) (at : Between) (words : List Word) → IsCalm granted at words → IsAway at words → HasItsRights at words
away_rights granted at words calm away = by away.heard
  where
    by : HearsOfGone at words → HasItsRights at words
    by (inl one) = subst (HasItsRights at) (sym one) (none_rights at (gone ∷ []) (said_gone at.window (to_come at.server) (subst (AreSaidThere at.window (to_come at.server)) one calm.said))
        (λ talk heard. ap (λ (t : Talk). t.pending) heard.2 ∙ heard.1.loses.pending))
    by (inr none) = subst (HasItsRights at) (sym none.0) (none_rights at [] (no_words at.window (to_come at.server) (subst (AreSaidThere at.window (to_come at.server)) none.0 calm.said))
        (λ talk heard. ap (λ (t : Talk). t.pending) heard ∙ none.1.pending))

pub beginning_rights : (granted : ℕ) (at : Between) (words : List Word) → IsCalm granted at words → IsBeginning at words → HasItsRights at words
beginning_rights granted at words calm begun = by begun.heard
  where
    by : HearsOfClient at words → HasItsRights at words
    by (inl one) = subst (HasItsRights at) (sym one.0) (none_rights at (begins ∷ []) (said_begins at.window (to_come at.server) (subst (AreSaidThere at.window (to_come at.server)) one.0 calm.said))
        (λ talk heard. ap (λ (t : Talk). t.pending) heard.2 ∙ ap (λ (t : Talk). t.pending) heard.1 ∙ begun.vacant.pending))
    by (inr none) = subst (HasItsRights at) (sym none.0) (none_rights at [] (no_words at.window (to_come at.server) (subst (AreSaidThere at.window (to_come at.server)) none.0 calm.said))
        (λ talk heard. ap (λ (t : Talk). t.pending) heard ∙ begun.vacant.pending))

-- ---- the turn

pub pending_few : (granted : ℕ) (at : Between) (words : List Word) → InPhase granted at words → length at.unit.pending.items ≤ 202
pending_few granted at words (inl away) = away.stale.few
pending_few granted at words (inr (inl begun)) = omega (arith, ap (λ (list : List Request). length list) begun.vacant.pending)
pending_few granted at words (inr (inr (asked, answers, talk))) = omega (
  arith,
  pending_long at.unit.pending.items asked.pending talk.pending,
  all_few granted at words asked answers talk,
  length-append asked.answered (asked.pending ++ asked.coming),
  length-append asked.pending asked.coming,
)

-- Where the turn has its rights nothing is amiss.
pub rights_ready : (granted : ℕ) (at : Between) (words : List Word) → IsCalm granted at words → InPhase granted at words → HasItsRights at words
    → IsTurnReady at.unit (reach at.server at.window false) false words
rights_ready granted at words calm phase has = record {
  calm = record {
    alone = refl;
    apart = refl;
    registered = calm.registered;
    closing = calm.closing;
    up = calm.up;
    waiting = calm.waiting;
    kept = calm.kept;
    said = has.said;
    order = in_order granted at words (length (taken_now at.server)) calm phase;
    slots = room_for at.server at.own (length (replies words)) calm.ends (λ there. omega (arith, own_few granted at words phase there, calm.own_slots, few, replies_few words));
  };
  event = calm.event;
  few = record { slots = omega (arith, few, calm.server_slots); pending = omega (arith, few, pending_few granted at words phase) };
  stage = calm.stage;
  next = has.next;
  slots = room_for at.server at.own (length (replies words) + 1) calm.ends (λ there. omega (arith, own_few granted at words phase there, calm.own_slots, few, replies_few words));
}
  where
    few : length words ≤ 1
    few = words_few granted at words phase
